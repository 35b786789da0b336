-- Each word, with the wave that the word before sends through it, is the quotient's; its highest d bits go on. Assumes nothing.
use Rattle.std.proofs.Common.{◌≡◌, ℕ, ◌^◌, ◌<◌, List, length}
use Rattle.rows.specs.Words.{Twice, EachWord}
use Rattle.rows.proofs.DivideLaws.{Joined}
use Rattle.rows.proofs.divide.carry_on.Given as goal

abbrev pub invariant-loop-c : goal.invariant-loop-c
invariant-loop-c l =
    (length l.rows ≡ length l.initial.rows) × (l.carry < 2 ^ l.d) × ((before : List ℕ) → EachWord l.a (Twice l.d) before l.initial.rows → Joined l.a l.d before l.initial.rows l.c l.carry l.rows)
