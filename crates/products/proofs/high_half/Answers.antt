use Rattle.std.proofs.Common.{◌≡◌, ℕ, ◌+◌, ◌-◌, ◌%◌, ◌^◌, ◌<◌, ◌∙◌, arith}
use Rattle.products.proofs.Halves.{high_half_corrected}
use Rattle.products.proofs.high_half.Goals as goal

-- what is subtracted, added again
back :
    (n k other : ℕ) → n < 2 ^ 64 → k < 2 ^ 64 → k ≡ other → ((n + (2 ^ 64 - k)) % 2 ^ 64 + other) % 2 ^ 64 ≡ n
back n k other f g e = omega (arith, e)

pub returns : goal.returns
returns c =
    let x = c.args in
    let high = c.unsigned_high_half-high in
    let one = c.correction in
    let two = c.correction-2 in
    let less = (high.result + (2 ^ 64 - one.result)) % 2 ^ 64 in
    high_half_corrected x.s x.t x.a x.b c.ranges.a.fits c.ranges.b.fits less ((less + (2 ^ 64 - two.result)) % 2 ^ 64)
    (back high.result one.result _ high.type_inv one.type_inv one.ensures ∙ high.ensures)
    (back less two.result _ (omega arith) two.type_inv two.ensures) (omega arith)
