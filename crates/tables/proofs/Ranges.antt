-- The enabled range, as the code computes it and as the search uses it.
use Prim.Native.Nat.{ℕ, zero, suc, ◌+◌, ◌*◌, ◌/◌, ◌%◌, ◌^◌, ◌≤◌, ◌<◌, min}
use mathlib.Core.Path.{◌≡◌, refl}
use mathlib.Core.Bool.{Bool, true, false, cond}
use lib.Dec.{eqb}
use native.Mathlib.Nat.{div-one}
use native.Mathlib.Omega.{arith}
use borrow.Author.Tests.{eq-eqb, ne_eqb}
use Rattle.tables.specs.Enabled.{enabled_range}

-- a size is below 4, so that nothing is lost of its power of two, which is at most 16
pub power :
    (s : ℕ) → s < 4 →
    (2 * 2 ^ s % 18446744073709551616 ≡ 2 ^ (s + 1)) × (2 * 2 ^ s % 18446744073709551616 ≤ 16)
power zero h = (refl, omega arith)
power (suc zero) h = (refl, omega arith)
power (suc (suc zero)) h = (refl, omega arith)
power (suc (suc (suc zero))) h = (refl, omega arith)
power (suc (suc (suc (suc s)))) h = absurd (omega arith)

module _ (cfg : ℕ) where
  pub range_none : cfg ≡ 31 → record { first = 2 * (cfg % 8); end = 2 * (cfg % 8) } ≡ enabled_range cfg
  unfolding enabled_range
  range_none e = rw (eq-eqb cfg 31 e, div-one)

  pub range_some :
      (end : ℕ) → (cfg ≡ 31 → ⊥) →
      end ≡ min 16 (2 * (cfg % 8) + 2 * 2 ^ (cfg / 8 % 4) % 18446744073709551616) →
      record { first = 2 * (cfg % 8); end = end } ≡ enabled_range cfg
  unfolding enabled_range
  range_some end n e = rw (ne_eqb cfg 31 n, div-one, e, (power (cfg / 8 % 4) (omega arith)).0)

  pub end_low : (enabled_range cfg).end ≤ 16
  unfolding enabled_range
  end_low = by (eqb cfg 31)
    where
      by : (t : Bool) → cond t (2 * (cfg / 1 % 8)) (min 16 (2 * (cfg / 1 % 8) + 2 ^ (cfg / 8 % 4 + 1))) ≤ 16
      by true = omega arith
      by false = omega arith

  pub end_even : (enabled_range cfg).end % 2 ≡ 0
  unfolding enabled_range
  end_even = by (eqb cfg 31)
    where
      by : (t : Bool) → cond t (2 * (cfg / 1 % 8)) (min 16 (2 * (cfg / 1 % 8) + 2 ^ (cfg / 8 % 4 + 1))) % 2 ≡ 0
      by true = omega arith
      by false = omega (arith, (power (cfg / 8 % 4) (omega arith)).0)

  pub first_even : (enabled_range cfg).first % 2 ≡ 0
  unfolding enabled_range
  first_even = omega arith

  pub first_low : (enabled_range cfg).first ≤ (enabled_range cfg).end
  unfolding enabled_range
  first_low = by (eqb cfg 31)
    where
      by : (t : Bool) → 2 * (cfg / 1 % 8) ≤ cond t (2 * (cfg / 1 % 8)) (min 16 (2 * (cfg / 1 % 8) + 2 ^ (cfg / 8 % 4 + 1)))
      by true = omega arith
      by false = omega arith
