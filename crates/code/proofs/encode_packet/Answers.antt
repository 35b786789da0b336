-- A source is copied, a parity is put into all of the output. Assumes nothing.
use mathlib.Core.Path.{◌≡◌, sym, ap, ap₂, ◌∙◌}
use mathlib.Core.List.{◌++◌, append-nil}
use Prim.Native.Nat.{◌+◌, ◌-◌, ◌*◌, ◌≤◌, ◌<◌}
use lib.ListN.{length, take, drop, drop_of_length-le}
use Rattle.bits.specs.Bits.{part}
use Rattle.table.specs.Desk.{packet_bytes}
use Rattle.table.specs.Desks.{desk_of}
use Rattle.table.proofs.Bounds.{within_bounds, parity_fits}
use Rattle.table.proofs.PacketLaws.{source_packet_bytes}
use Rattle.code.specs.Code.{parity, sources_of, packet_of}
use Rattle.code.proofs.CodeLaws.{SourceTaken, source_taken, is_source, is_packet}
use Rattle.code.proofs.RowLaws.{stored_front}
use native.Mathlib.Omega.{arith}
use borrow.Author.Rules.{rules}
use Rattle.code.proofs.encode_packet.Goals as goal
use Rattle.code.proofs.encode_packet.Goals.{Then-i-k}

-- source i, as it is taken
taken : (c : Then-i-k) → let s = c.args in SourceTaken (desk_of s.desk.now) s.sources.now s.i c.source_bytes-bytes.result
taken c =
    let B = within_bounds c.args.desk.now in
    source_taken (desk_of c.args.desk.now) B c.args.sources.now (omega (arith, c.requires.sources_len)) c.args.i _ (search rules) c.source_bytes-bytes.ensures

-- and fills the output
source-fills : (c : Then-i-k) → length c.args.out.now ≡ c.source_bytes-bytes.result
source-fills c =
    c.requires.out_len ∙ sym (source_packet_bytes (desk_of c.args.desk.now) c.args.i (search rules)) ∙ sym c.source_bytes-bytes.ensures

pub copy_front-requires : goal.copy_front-requires
copy_front-requires c = omega (arith, (taken (goal.at.copy_front-requires c).Then-i-k).long, source-fills (goal.at.copy_front-requires c).Then-i-k)

pub returns-then-i-k : goal.returns-then-i-k
returns-then-i-k c =
    let D = desk_of c.args.desk.now in
    let x = c.args.sources.now in
    let i = c.args.i in
    let n = c.source_bytes-bytes.result in
    let all : length c.args.out.now ≤ length (take (i * n + n - i * n) (drop (i * n) x)) = omega
    (arith, (taken (goal.at.returns-then-i-k c).Then-i-k).long, source-fills (goal.at.returns-then-i-k c).Then-i-k) in
    c.copy_front.ensures
    ∙ ap₂ ◌++◌ (taken (goal.at.returns-then-i-k c).Then-i-k).same (drop_of_length-le c.args.out.now all)
    ∙ append-nil (part x D.bytes i)
    ∙ is_source D x i (search rules)

pub put_parity-requires : goal.put_parity-requires
put_parity-requires c =
    let D = desk_of c.args.desk.now in
    let a = c.args.i - c.args.desk.now.k in
    let e : c.args.desk.now.k + a ≡ c.args.i = omega arith in
    let fits = parity_fits D (within_bounds c.args.desk.now) a in record {
      a_lt_m = omega arith;
      bytes_value = c.source_bytes-bytes.ensures;
      shifts_in_bounds = omega (arith, c.requires.sources_len);
      n_le_longest = omega (arith, fits, ap (packet_bytes D) e, c.requires.out_len);
      n_in_bounds = omega arith;
    }

pub returns : goal.returns
returns c =
    let D = desk_of c.args.desk.now in
    let a = c.args.i - c.args.desk.now.k in
    let e : c.args.desk.now.k + a ≡ c.args.i = omega arith in
    let la : a < c.args.desk.now.m = omega arith in
    let S = c.put_parity.ensures in
    let long : length c.args.out.now ≡ packet_bytes D (c.args.desk.now.k + a) = c.requires.out_len ∙ ap (packet_bytes D) (sym e) in
    is_packet D c.args.sources.now a _ la c.known.ensures (S.size ∙ long) (λ q lq. stored_front _ (parity D (sources_of D c.args.sources.now) a) _ _ S q (omega (arith, long)))
    ∙ ap (packet_of D c.args.sources.now) e
