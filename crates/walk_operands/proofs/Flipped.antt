-- The bits of a number and of the same number with its bits flipped.
use Prim.Native.Nat.{ℕ, zero, suc, ◌+◌, ◌-◌, ◌/◌, ◌%◌, ◌^◌, ◌<◌}
use mathlib.Core.Bool.{true}
use mathlib.Core.Path.{◌≡◌, sym}
use native.Mathlib.Nat.{two-pow-succ, pow-succ', pow-zero, div-one, div-div-eq-div-mul, zero-div}
use native.Mathlib.Omega.{arith}
use borrow.Author.Tests.{eq-eqb}
use Rattle.walk_operands.specs.declared.mask.Mask.{Mask}
use Rattle.walk_operands.specs.Mask.{is_on}

halved : (x i : ℕ) → x / 2 ^ suc i ≡ x / 2 / 2 ^ i
halved x i = rw (pow-succ' 2 i) (sym (div-div-eq-div-mul x 2 (2 ^ i)))

-- bit i of a number below 2^k, and of that number with its k bits flipped
pub flipped : (k i v : ℕ) → i < k → v < 2 ^ k → (2 ^ k - 1 - v) / 2 ^ i % 2 + v / 2 ^ i % 2 ≡ 1
flipped zero i v h l = absurd (omega arith)
flipped (suc k) zero v h l =
    let p = two-pow-succ k in
    let below : v < 2 ^ k + 2 ^ k = rw (← p) l in
    rw (p, pow-zero 2, div-one (2 ^ k + 2 ^ k - 1 - v), div-one v) (omega arith)
flipped (suc k) (suc i) v h l =
    let p = two-pow-succ k in
    let below : v < 2 ^ k + 2 ^ k = rw (← p) l in
    let half : (2 ^ k + 2 ^ k - 1 - v) / 2 ≡ 2 ^ k - 1 - v / 2 = omega arith in
    rw (p, halved (2 ^ k + 2 ^ k - 1 - v) i, halved v i, half) (flipped k i (v / 2) (omega arith) (omega arith))

-- every position of a mask of ones is on
pub all_on : (mask : Mask) (i : ℕ) → mask.on ≡ 2 ^ 64 - 1 → i < 64 → is_on mask i ≡ true
unfolding is_on
all_on mask i ones h =
    let other : (2 ^ 64 - 1) / 2 ^ i % 2 + 0 / 2 ^ i % 2 ≡ 1 = flipped 64 i 0 h (omega arith) in
    let none : 0 / 2 ^ i ≡ 0 = zero-div (2 ^ i) in
    rw ones (eq-eqb ((2 ^ 64 - 1) / 2 ^ i % 2) 1 (omega (arith, other, none)))
