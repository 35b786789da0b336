-- One call for any packet, proved: each theorem is the statement of its name in specs/AnyPacket. Assumes nothing.
use mathlib.Core.Path.{◌≡◌, refl, sym, ap, ◌∙◌}
use mathlib.Core.Logic.{inl, inr}
use mathlib.Core.Bool.{Bool, true, false, cond, true≢false}
use mathlib.Core.List.{List, ◌++◌}
use Prim.Native.Nat.{ℕ, zero, suc, ◌+◌, ◌-◌, ◌/◌, ◌^◌, ◌%◌, ◌≤◌, ◌<◌}
use native.Mathlib.Omega.{arith}
use native.Mathlib.Nat.{pow-succ', div-one, div-eq_of_lt}
use native.Mathlib.Decide.{dec_lt}
use borrow.Author.Tests.{eq-eqb}
use lib.Pow.{pow_pos}
use lib.ListN.{length}
use Rattle.bits.specs.Sums.{count}
use Rattle.bits.specs.Bits.{Bytes}
use Rattle.bits.proofs.SumLaws.{sum_nought, count_add}
use Rattle.table.specs.Desk.{Desk, desk, mark, sources_bytes, survivors_bytes, packet_bits, packet_bytes, reach}
use Rattle.table.specs.Checks.{Checks, Checked, MarkAbove, shape_checks, number_checks, input_checks, output_checks}
use Rattle.table.proofs.CheckLaws.{numbered_by, checked_once, checked_below, below_by, stops, goes, stops_or_goes, rest_decides, zero_checked, not_unequal, neither, lengths_exact}
use Rattle.table.proofs.AnswerLaws.{answer_passes}
use Rattle.table.proofs.MarkLaws.{half_mark, unmarked}
use Rattle.table.proofs.ShapeLaws.{shaped}
use Rattle.table.proofs.PacketLaws.{source_bytes_low}
use Rattle.code.specs.Code.{packet_of}
use Rattle.code.proofs.CodeLaws.{desk_short, packet_ignores_present}
use Rattle.survivors.specs.Packets.{EncodesTo}
use Rattle.encode.specs.Promise.{encode_one_checks, EncodedOne}
use Rattle.rebuild.specs.Stages.{decode_checks}
use Rattle.rebuild.proofs.OneAnswer.{one_source}
use Rattle.rebuild.proofs.NoneMissing.{count-all, place-all, finishes_at_once, own_sources, nothing_refused}
use Rattle.packet.specs.Stages.{PacketFound, wanted_lengths_checks, wanted_lent_checks, wanted_named_checks}
use Rattle.packet.specs.Promise.{wanted_checks, PacketMade}
use Rattle.packet.proofs.CheckParts.{made_parts}
use Rattle.promises.specs.AnyPacket
use Rattle.promises.specs.AnyPacket.{SourcesMarked}

-- every mark below k is set, and none from k on
low_marked : (k i : ℕ) → i < k → mark (2 ^ k - 1) i ≡ true
low_marked zero i l = absurd (omega arith)
low_marked (suc k) zero l = rw div-one (eq-eqb ((2 ^ suc k - 1) % 2) 1 (omega (arith, pow-succ' 2 k, pow_pos k)))
low_marked (suc k) (suc i) l =
    let half : (2 ^ suc k - 1) / 2 ≡ 2 ^ k - 1 = omega (arith, pow-succ' 2 k, pow_pos k) in
    half_mark (2 ^ suc k - 1) i ∙ ap (λ x. mark x i) half ∙ low_marked k i (omega arith)

high_unmarked : (k i : ℕ) → k ≤ i → mark (2 ^ k - 1) i ≡ false
high_unmarked k i l = unmarked (2 ^ k - 1) k i (div-eq_of_lt (omega (arith, pow_pos k))) l

pub marks_of_the_sources : AnyPacket.MarksOfTheSources
marks_of_the_sources k i = (below, low_marked k i)
  where
    below : mark (2 ^ k - 1) i ≡ true → i < k
    below e = elim (dec_lt i k) [ yes l ↦ l | no l ↦ absurd (true≢false (sym e ∙ high_unmarked k i (omega arith))) ]

module _ (k m l : ℕ) (table : List ℕ) (marks : ℕ) (sources : List ℕ) (wanted : ℕ) (before : List ℕ) (S : SourcesMarked k marks) (are_bytes : Bytes sources) where
  abbrev D : Desk
  D = desk k m l table marks

  -- the desk of encode one, which had no marks
  abbrev E : Desk
  E = desk k m l table 0

  here : (c : ℕ) → c < k → mark marks c ≡ true
  here c = (S c).1

  off : (v : Bool) (i : ℕ) → mark marks i ≡ v → k ≤ i → v ≡ false
  off false i e l = refl
  off true i e l = absurd (omega (arith, (S i).0 e))

  no_parity : (a : ℕ) → mark marks (k + a) ≡ false
  no_parity a = off (mark marks (k + a)) (k + a) refl (omega arith)

  none_above : MarkAbove (k + m) marks → ⊥
  none_above (i, l, e) = omega (arith, (S i).0 e)

  exactly : count (k + m) (mark marks) ≡ k
  exactly =
      let none = sum_nought m (λ i. cond (mark marks (k + i)) 1 0) (λ i _. ap (λ v. cond v 1 0) (no_parity i)) in
      omega (arith, count_add (mark marks) k m, count-all k (mark marks) here, none)

  -- the packets at hand take as many bytes as the sources, and packets as many on both desks
  as_long : survivors_bytes D ≡ sources_bytes E
  as_long = place-all D here no_parity

  room_alike : packet_bytes D (wanted - 1) ≡ packet_bytes E (wanted - 1)
  unfolding packet_bytes packet_bits reach
  room_alike = refl

  -- none of 8, 9 and 10 where the sources have their length
  decodes : length sources ≡ survivors_bytes D → Checked (decode_checks D sources) 0
  decodes = nothing_refused D here no_parity sources (desk_short k m l table marks sources) are_bytes

  abbrev shape : Checks
  shape = shape_checks k m l table

  abbrev lent : Checks
  lent = input_checks (sources_bytes E) sources ++ output_checks (packet_bytes E (wanted - 1)) before

  -- the checks of packet give the number that those of encode one gave, part by part: the lengths,
  lengths_then : (n : ℕ) → Checked (wanted_lent_checks D sources (wanted - 1) before) n → Checked lent n
  lengths_then n (inl (long, e)) = inl ((λ s. long (s ∙ sym as_long)), e)
  lengths_then n (inr (long, inl (room, e))) = inr ((λ no. long (λ s. no (s ∙ as_long))), inl ((λ s. room (s ∙ sym room_alike)), e))
  lengths_then n (inr (long, inr (room, d))) =
      inr ((λ no. long (λ s. no (s ∙ as_long))), inr ((λ no. room (λ s. no (s ∙ room_alike))), checked_once (decode_checks D sources) n 0 d (decodes (not_unequal long))))

  -- the wanted number and the marks,
  named_then : (n : ℕ) → Checked (wanted_named_checks D sources marks wanted before) n → Checked (number_checks (k + m) wanted ++ lent) n
  named_then n (inl (inl above, e)) = absurd (none_above above)
  named_then n (inl (inr outside, e)) = inl (outside, e)
  named_then n (inr (_, inl (other, e))) = absurd (other exactly)
  named_then n (inr (named, inr (_, c))) = inr ((λ outside. named (inr outside)), lengths_then n c)

  -- all
  checked_then : (n : ℕ) → Checked (wanted_checks k m l table marks sources wanted before) n → Checked (encode_one_checks k m l table wanted sources before) n
  checked_then n c = elim (stops_or_goes shape (wanted_named_checks D sources marks wanted before) n (numbered_by shape refl) c) [
    | inl (s, h) ↦ stops shape (number_checks (k + m) wanted ++ lent) n s h
    | inr (z, r) ↦ goes shape (number_checks (k + m) wanted ++ lent) n (numbered_by shape refl) z (named_then n r)
  ]

  -- and back
  lengths_now : (n : ℕ) → Checked lent n → Checked (wanted_lent_checks D sources (wanted - 1) before) n
  lengths_now n (inl (long, e)) = inl ((λ s. long (s ∙ as_long)), e)
  lengths_now n (inr (long, inl (room, e))) = inr ((λ no. long (λ s. no (s ∙ sym as_long))), inl ((λ s. room (s ∙ room_alike)), e))
  lengths_now n (inr (long, inr (room, e))) =
      let exact = not_unequal long ∙ sym as_long in
      inr ((λ no. no exact), inr ((λ no. room (λ s. no (s ∙ sym room_alike))), rw e (decodes exact)))

  named_now : (n : ℕ) → Checked (number_checks (k + m) wanted ++ lent) n → Checked (wanted_named_checks D sources marks wanted before) n
  named_now n (inl (outside, e)) = inl (inr outside, e)
  named_now n (inr (named, c)) = inr (neither none_above named, inr ((λ other. other exactly), lengths_now n c))

  checked_now : (n : ℕ) → Checked (encode_one_checks k m l table wanted sources before) n → Checked (wanted_checks k m l table marks sources wanted before) n
  checked_now n c = elim (stops_or_goes shape (number_checks (k + m) wanted ++ lent) n (numbered_by shape refl) c) [
    | inl (s, h) ↦ stops shape (wanted_named_checks D sources marks wanted before) n s h
    | inr (z, r) ↦ goes shape (wanted_named_checks D sources marks wanted before) n (numbered_by shape refl) z (named_now n r)
  ]

  -- the sources encode to themselves
  own : Checked (wanted_lengths_checks D sources (wanted - 1) before) 0 → EncodesTo D sources sources
  own c = own_sources D here no_parity sources (desk_short k m l table marks sources) are_bytes (lengths_exact (survivors_bytes D) (packet_bytes D (wanted - 1)) sources before c).0

  module _ (number : ℕ) (after : List ℕ) where
    then_made : PacketMade k m l table marks sources wanted before number after → EncodedOne k m l table wanted sources before number after
    then_made x = record { numbered = checked_then number x.numbered; refused = x.refused; done = made }
      where
        made : number ≡ 0 → after ≡ packet_of E sources (wanted - 1)
        made z =
            let c = made_parts k m l table marks sources wanted before (answer_passes (wanted_checks k m l table marks sources wanted before) number z x) in
            let found = x.done z in
            let some = source_bytes_low l (shaped k m l table c.0).l_low in
            let F = finishes_at_once D here no_parity in
            let one = one_source D some (desk_short k m l table marks) sources 0 F found.0 sources found.1 (own c.2) in
            found.2 ∙ ap (λ (v : List ℕ). packet_of D v (wanted - 1)) one ∙ sym (packet_ignores_present E (mark marks) sources (wanted - 1))

    now_made : EncodedOne k m l table wanted sources before number after → PacketMade k m l table marks sources wanted before number after
    now_made x = record { numbered = checked_now number x.numbered; refused = x.refused; done = made }
      where
        made : number ≡ 0 → PacketFound D sources (wanted - 1) after
        made z =
            let checks = wanted_checks k m l table marks sources wanted before in
            let c = made_parts k m l table marks sources wanted before (zero_checked checks number z (checked_now number x.numbered)) in
            (sources, own c.2, x.done z ∙ packet_ignores_present E (mark marks) sources (wanted - 1))

pub packet_is_what_encode_one_gave : AnyPacket.PacketIsWhatEncodeOneGave
packet_is_what_encode_one_gave k m l table marks sources wanted before number after S are_bytes =
    (then_made k m l table marks sources wanted before S are_bytes number after, now_made k m l table marks sources wanted before S are_bytes number after)

pub numbers_from_the_sources : AnyPacket.NumbersFromTheSources
numbers_from_the_sources k m l table marks sources wanted before number after S are_bytes x =
    (checked_below 7 checks number (omega arith) (below_by 7 checks refl) gave, λ accepted. (asked (lengths accepted), λ other. checked_once sizes number 4 (lengths accepted) (inl (other, refl))))
  where
    checks : Checks
    checks = encode_one_checks k m l table wanted sources before

    gave : Checked checks number
    gave = checked_then k m l table marks sources wanted before S are_bytes number x.numbered

    front : Checks
    front = shape_checks k m l table ++ number_checks (k + m) wanted

    sizes : Checks
    sizes = lent k m l table marks sources wanted before S are_bytes

    lengths : Checked front 0 → Checked sizes number
    lengths accepted = rest_decides front sizes number (numbered_by front refl) accepted gave

    asked : Checked sizes number → number ≡ 4 → length sources ≡ sources_bytes (desk k m l table marks) → ⊥
    asked (inl c) e = c.0
    asked (inr (_, inl c)) e = absurd (omega (arith, c.1))
    asked (inr (_, inr c)) e = absurd (omega (arith, c))
