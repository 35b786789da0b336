-- The product of the halves with the higher ones both counts 2 ^ 64 times, and drops out. Assumes nothing.
use Rattle.std.proofs.Common.{ℕ, ◌+◌, ◌*◌, ◌/◌, ◌%◌, ◌^◌, ap, ◌∙◌, ap₂, div-add-mod'}
use Rattle.rows.proofs.DivideLaws.{times_halves}
use Rattle.rows.proofs.divide.times.Goals as goal

pub returns : goal.returns
returns c =
    let s = c.args in
    let n : ℕ = 2 ^ 32 in
    c.wrapping_add_u64.ensures.value
    ∙ ap (λ z. (s.x % n * (s.y % n) + z * n % (n * n)) % (n * n)) c.wrapping_add_u64-cross.ensures.value
    ∙ times_halves (s.x / n) (s.x % n) (s.y / n) (s.y % n) n
    ∙ ap₂ (λ u v. u * v % (n * n)) (div-add-mod' s.x n) (div-add-mod' s.y n)
