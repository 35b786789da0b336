-- How far the reader has come: while the blocks are checked, and while what they carry is joined. Assumes nothing.
use mathlib.Core.Path.{◌≡◌, sym, ap, subst, ◌∙◌}
use mathlib.Core.List.{List, ◌++◌, append_assoc}
use Prim.Native.Nat.{ℕ, ◌+◌, ◌-◌, ◌≤◌, ◌<◌}
use native.Mathlib.Omega.{arith}
use lib.ListN.{length, drop, length-append, length-drop}
use lib.Seq.{length-take-le}
use Rattle.std.specs.Prelude.{Ok, Err}
use Rattle.bits.specs.Bits.{Bytes}
use Rattle.bits.proofs.BitLaws.{bytes_drop}
use Rattle.text.specs.Text.{Front, PutAt}
use Rattle.text.proofs.TextLaws.{front_length}
use Rattle.table.specs.Checks.{Checked}
use Rattle.table.specs.Refusals.{number_of}
use Rattle.table.specs.declared.refusals.Refusal.{Refusal}
use Rattle.table.proofs.RefusalLaws.{numbered}
use Rattle.card.specs.Block.{len, information, more_of}
use Rattle.card.proofs.IBlocks.{carried, iblock_formed}
use Rattle.chain.specs.Run.{BlockRun, last, chained, first, behind, block_checks_in, rest_checks}
use Rattle.chain.specs.Reading.{RunTold, CarriedTo}
use Rattle.chain.proofs.RunLaws.{starts_with, linked, run_last, run_more, first_count, run-refused, run_ends, rest_goes_on}

-- so much was checked: these bytes are left, whose first block is to have N(S) = turn; before them stand blocks with M, which carry count bytes
pub record Checking (run left : List ℕ) (turn count : ℕ) : Type 0 where
  pub bytes : Bytes left
  pub turn_bit : turn < 2
  pub short : count + length left ≤ length run
  pub decides : (x : ℕ) → Checked (rest_checks turn left) x → Checked (rest_checks 0 run) x
  pub carries : (others : List ℕ) → BlockRun turn left others → (info : List ℕ) × BlockRun 0 run info × (count + length others ≡ length info)

module _ {run left : List ℕ} {turn count : ℕ} (s : Checking run left turn count) where
  -- the first block of what is left refuses
  pub checking_refuses : (e : Refusal) → Checked (block_checks_in turn left) (number_of e) → RunTold run (Err e)
  checking_refuses e c = record {
    numbered = s.decides (number_of e) (run-refused turn left (length left) (number_of e) c (numbered e));
    carries = tt;
  }

  module _ (c : Checked (block_checks_in turn left) 0) where
    -- it does not, and has no M
    pub checking_ends : more_of left ≡ 0 → RunTold run (Ok (count + len left))
    checking_ends m =
        let l = linked turn left c in
        let w = s.carries (information (first left)) (run_last turn left s.bytes l m) in
        record {
          numbered = s.decides 0 (run_ends turn left (length left) c (λ e. omega arith));
          carries = (w.0, w.1, omega (arith, w.2, first_count turn left s.bytes l));
        }

    -- it does not, and has M
    pub checking_goes_on : more_of left ≡ 1 → Checking run (behind left) (1 - turn) (count + len left)
    checking_goes_on m =
        let l = linked turn left c in
        record {
          bytes = bytes_drop left s.bytes (len left + 4);
          turn_bit = omega arith;
          short = omega (arith, l.fits, s.short, length-drop (len left + 4) left);
          decides = λ x d. s.decides x (rest_goes_on turn left x c m d);
          carries = λ others r.
              let w = s.carries (information (first left) ++ others) (run_more turn left s.bytes l m r) in
              (w.0, w.1, omega (arith, w.2, first_count turn left s.bytes l, length-append (information (first left)) others));
        }

-- a run begins with a block that is there, and what it carries with that block's information; without M that is all
pub record Opened (left others : List ℕ) : Type 0 where
  pub fits : len left + 4 ≤ length left
  pub room : len left ≤ length others
  pub last_one : more_of left ≡ 0 → others ≡ information left
  pub one_more : (more_of left ≡ 0 → ⊥) → (turn : ℕ) × (rest : List ℕ) × BlockRun turn (behind left) rest × (others ≡ information left ++ rest)

pub opened : {turn : ℕ} {left others : List ℕ} → BlockRun turn left others → Opened left others
opened (last b) =
    let e = carried b in
    record {
      fits = omega (arith, (iblock_formed b).exact);
      room = omega (arith, e.length_is);
      last_one = λ m. e.info_is;
      one_more = λ h. absurd (h (sym e.more_is));
    }
opened (chained {turn = turn} {rest = rest} {info = info} {others = others} b r) =
    let w = starts_with b rest in
    record {
      fits = omega (arith, w.len_is, w.length_is);
      room = omega (arith, w.len_is, length-append info others);
      last_one = λ m. absurd (omega (arith, w.more_is));
      one_more = λ h. (1 - turn, others, subst (λ x. BlockRun (1 - turn) x others) (sym w.behind_is) r, ap (λ x. x ++ others) (sym w.information_is));
    }

-- so much was joined: what stands before those left carries done, which is at the front; what is left is a run and carries others
pub record Joining (run before left : List ℕ) (end : ℕ) (now : List ℕ) : Type 0 where
  pub turn : ℕ
  pub done : List ℕ
  pub others : List ℕ
  pub left-run : BlockRun turn left others
  pub whole_run : BlockRun 0 run (done ++ others)
  pub end_is : end ≡ length done
  pub front : Front before done now
  pub room : length done + length others ≤ length before

-- the buffer keeps its length
pub joining_length : {run before left : List ℕ} {end : ℕ} {now : List ℕ} → Joining run before left end now → length now ≡ length before
joining_length {before = before} {now = now} s = front_length before s.done now (omega (arith, s.room)) s.front

-- what is left has its first block, and there is room for what it carries
pub joining_fits : {run before left : List ℕ} {end : ℕ} {now : List ℕ} → Joining run before left end now → (len left + 4 ≤ length left) × (end + len left ≤ length now)
joining_fits s = let o = opened s.left-run in (o.fits, omega (arith, o.room, s.room, s.end_is, joining_length s))

module _ {run before left : List ℕ} {end : ℕ} {now after : List ℕ} (s : Joining run before left end now) (put : PutAt now end (information left) after) where
  put-behind : Front before (s.done ++ information left) after
  put-behind = put before s.done s.end_is s.front

  -- the block put last has no M
  pub joining_ends : more_of left ≡ 0 → CarriedTo run before after
  joining_ends m =
      (s.done ++ s.others, s.whole_run, subst (λ x. Front before (s.done ++ x) after) (sym ((opened s.left-run).last_one m)) put-behind)

  -- it has M
  pub joining_goes_on : (more_of left ≡ 0 → ⊥) → Joining run before (behind left) (end + len left) after
  joining_goes_on h =
      let o = opened s.left-run in
      let w = o.one_more h in
      let n : length (information left) ≡ len left = length-take-le (len left) (drop 3 left) (omega (arith, o.fits, length-drop 3 left)) in
      let joined : s.done ++ s.others ≡ (s.done ++ information left) ++ w.1 = ap (λ x. s.done ++ x) w.3 ∙ sym (append_assoc s.done (information left) w.1) in
      record {
        turn = w.0;
        done = s.done ++ information left;
        others = w.1;
        left-run = w.2;
        whole_run = subst (BlockRun 0 run) joined s.whole_run;
        end_is = omega (arith, s.end_is, length-append s.done (information left));
        front = put-behind;
        room = omega (arith, s.room, ap length w.3, length-append (information left) w.1, length-append s.done (information left));
      }
