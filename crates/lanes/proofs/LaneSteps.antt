-- The loop over the lanes: what is known of each stripe is what the steps so far read there. Assumes nothing.
use mathlib.Core.Path.{◌≡◌, sym, ap, ◌∙◌}
use mathlib.Core.Bool.{Bool}
use mathlib.Core.List.{List}
use Prim.Native.Nat.{ℕ, ◌+◌, ◌*◌, ◌%◌, ◌<◌}
use native.Mathlib.Omega.{arith}
use lib.ListN.{length, set, length-set}
use Rattle.bits.specs.Sums.{at}
use Rattle.table.specs.Limits.{max_bits, noughts}
use Rattle.table.specs.Desk.{Desk, packet_bits}
use Rattle.table.proofs.PacketLaws.{within_reach, parity_packet_bits}
use Rattle.table.proofs.Bounds.{Bounded}
use Rattle.code.specs.Code.{Bits, sum_of}
use Rattle.walk.specs.Walk.{Bare, Stuck}
use Rattle.walk.specs.Read.{put, present_of, learn, read_by}
use Rattle.walk.specs.Compute.{whole_b}
use Rattle.walk.proofs.ReadLaws.{read_by-snoc}
use Rattle.search.proofs.StepsSoFar.{Led, led_none, led_ended, led_tells, led_bare, led_here, led_more}
use Rattle.survivors.specs.Packets.{came_source, came_parity, stripe}
use Rattle.lanes.specs.Lanes.{lane_words, Gathers, known, LanesRead}
use Rattle.lanes.proofs.KnownLaws.{known_of_noughts, known-set}

module _ (D : Desk) where
  open D use {k, shift}

  -- the bit of a bare pair stands within its parity
  pub bare_in_packet : (g : ℕ → ℕ) (a b : ℕ) → Bare D g a b → shift a b + g b < packet_bits D (k + a)
  bare_in_packet g a b B = omega (arith, parity_packet_bits D a, within_reach D a b B.free.0.0, B.free.1)

  module _ (packets : List ℕ) (stripes : ℕ) where
    -- the parities of stripe t as they came
    abbrev parities : ℕ → Bits
    parities t = came_parity D (stripe D packets t)

    -- and its present sources
    abbrev sources : ℕ → Bits
    sources t = present_of D (came_source D (stripe D packets t))

    -- so many steps lead from nothing to g, and what is known of each stripe is what they read there
    pub record Stepping (g : List ℕ) (count : ℕ) (lanes : List ℕ) : Type 0 where
      pub steps : Led D g count
      pub words : length lanes ≡ lane_words
      pub read : (t : ℕ) → t < stripes → known D packets lanes t ≡ read_by D (parities t) steps.reached.run (sources t)

    pub stepping_none : (lanes : List ℕ) → length lanes ≡ lane_words → ((i : ℕ) → at lanes i ≡ 0) → Stepping noughts 0 lanes
    unfolding read_by
    stepping_none lanes words z = record { steps = led_none D; words = words; read = λ t _. known_of_noughts D packets lanes z t }

    module _ {g : List ℕ} {count : ℕ} {lanes : List ℕ} (S : Stepping g count lanes) where
      -- no pair is bare: the end
      pub stepping_end : (whole : Bool) → Stuck D (at g) → whole ≡ whole_b D (at g) → LanesRead D packets stripes count whole lanes
      stepping_end whole stuck e = record { ended = led_ended D S.steps stuck; full = led_tells D S.steps whole e; read = S.read }

      -- a bare pair's bit, gathered out of what is left of its parity in every stripe
      module _ (W : Bounded D) (a b q word : ℕ) (bare : Bare D (at g) a b) (is-q : q ≡ shift a b + at g b)
          (gathered : Gathers stripes (λ t. (parities t a q + sum_of D (known D packets lanes t) a q) % 2) word) where
        -- written into its word, it is what the step learns
        known_learns : (t : ℕ) → t < stripes → known D packets (set lanes (b * max_bits + at g b) word) t ≡ learn D (parities t) (known D packets lanes t) S.steps.end a b
        known_learns t lt =
            let s : Bits = known D packets lanes t in
            let r : Bits = parities t in
            known-set D packets W lanes S.words b (at g b) word bare.free.0 (omega (arith, bare.free.1, W.fits)) t
            ∙ ap (λ v. put s b (at g b) v) (gathered t lt ∙ ap (λ x. (r a x + sum_of D s a x) % 2) is-q)
            ∙ ap (λ p. put s b p ((r a (shift a b + p) + sum_of D s a (shift a b + p)) % 2)) (led_here D S.steps b)

        pub stepping_more : Stepping (set g b (at g b + 1)) (count + 1) (set lanes (b * max_bits + at g b) word)
        stepping_more = record {
          steps = led_more D S.steps W.k_high a b bare;
          words = length-set lanes (b * max_bits + at g b) word ∙ S.words;
          read = λ t lt.
              known_learns t lt ∙ ap (λ (x : Bits). learn D (parities t) x S.steps.end a b) (S.read t lt)
              ∙ sym (read_by-snoc D (parities t) a b S.steps.reached.run (led_bare D S.steps a b bare) (sources t));
        }
