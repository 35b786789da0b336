-- The stripes' bits are pushed in from below, the last stripe's first. Assumes nothing.
use Rattle.bits.specs.Bits.{bit_at, part}
use Rattle.lanes.proofs.WordLaws.{Built}
use Rattle.lanes.proofs.gather.Given as goal

abbrev pub invariant-loop-t : goal.invariant-loop-t
invariant-loop-t l = Built l.log.stripes (λ i. bit_at (part l.log.packets.now l.log.size i) l.q) l.t l.word
