-- The next position that is on, by a number that is halved with each position.
use Prim.Native.Nat.{ℕ, zero, suc, ◌+◌, ◌-◌, ◌/◌, ◌%◌, ◌^◌, ◌*◌, ◌<◌, ◌≤◌}
use mathlib.Core.Bool.{true, cond}
use mathlib.Core.Path.{◌≡◌, refl, sym}
use native.Mathlib.Nat.{two-pow-succ, div-div-eq-div-mul}
use native.Mathlib.Omega.{arith}
use borrow.Author.Tests.{eq-eqb, ne_eqb}
use lib.Dec.{eqb}
use Rattle.walk_operands.specs.declared.mask.Mask.{Mask}
use Rattle.walk_operands.specs.Mask.{is_on}
use Rattle.walk_pairs.specs.Pair.{first_on}

-- k plus the halvings of n to an odd number, at most l
unfoldable pub first_odd : ℕ → ℕ → ℕ → ℕ
first_odd zero n k = k
first_odd (suc l) n k = cond (eqb (n % 2) 1) k (first_odd l (n / 2) (k + 1))

pub remaining : (vl k : ℕ) → k < vl → vl - k ≡ suc (vl - (k + 1))
remaining vl k h = omega arith

module _ (vl n k : ℕ) where
  pub even_halved : k < vl → n % 2 ≡ 0 → first_odd (vl - (k + 1)) (n / 2) (k + 1) ≡ first_odd (vl - k) n k
  unfolding first_odd
  even_halved h even = rw (remaining vl k h, ne_eqb (n % 2) 1 (λ e. omega (arith, e, even)))

  pub at_end : vl ≤ k → first_odd (vl - k) n k ≡ k
  unfolding first_odd
  at_end h = let none : vl - k ≡ 0 = omega arith in rw none

  pub at_odd : (n % 2 ≡ 0 → ⊥) → first_odd (vl - k) n k ≡ k
  unfolding first_odd
  at_odd odd = by (vl - k)
    where
      one : eqb (n % 2) 1 ≡ true
      one = eq-eqb (n % 2) 1 (omega (arith, odd))

      by : (l : ℕ) → first_odd l n k ≡ k
      by zero = refl
      by (suc l) = rw one

pub next_half : (n k : ℕ) → n / 2 ^ (k + 1) ≡ n / 2 ^ k / 2
next_half n k =
    let next : k + 1 ≡ suc k = omega arith in
    let p : 2 ^ suc k ≡ 2 ^ k + 2 ^ k = two-pow-succ k in
    let twice : 2 ^ (k + 1) ≡ 2 ^ k * 2 = rw next (omega (arith, p)) in
    rw twice (sym (div-div-eq-div-mul n (2 ^ k) 2))

-- of a mask shifted to a position
pub on_odd : (mask : Mask) (l k : ℕ) → first_on mask l k ≡ first_odd l (mask.on / 2 ^ k) k
unfolding first_on first_odd is_on
on_odd mask zero k = refl
on_odd mask (suc l) k = rw (on_odd mask l (k + 1), next_half mask.on k)
