-- Laws of places: which registers they reach.
use Prim.Native.Nat.{ℕ, ◌+◌, ◌-◌, ◌<◌, ◌≤◌}
use mathlib.Core.Path.{◌≡◌, refl, sym, ◌∙◌}
use mathlib.Core.Bool.{Bool, true, false, cond}
use native.Mathlib.Omega.{arith}
use borrow.Author.Tests.{lt-ltb, le-ltb, ltb-true, leb-true, leb-false}
use lib.Dec.{leb, ltb}
use Rattle.walk_operands.specs.declared.place.Place.{Place}
use Rattle.walk_operands.specs.Place.{register_at, fits}

cond_least : (b : Bool) (r k : ℕ) → r ≤ cond b (r + k) r
cond_least true r k = omega arith
cond_least false r k = omega arith

cond_rises : (b : Bool) (r i n : ℕ) → i < n → cond b (r + (n - 1)) r < 128 → cond b (r + i) r < 128
cond_rises true r i n h f = omega arith
cond_rises false r i n h f = f

module _ (vl : ℕ) (p : Place) where
  pub beyond : 128 ≤ p.register → false ≡ fits vl p
  unfolding fits register_at
  beyond h =
      let least = cond_least p.vector p.register (vl - 1) in
      sym (le-ltb (cond p.vector (p.register + (vl - 1)) p.register) 128 (omega arith))

  pub scalar_fits : p.vector ≡ false → p.register < 128 → true ≡ fits vl p
  unfolding fits register_at
  scalar_fits v h = rw (v, lt-ltb _ _ h)

  pub vector_fits : p.vector ≡ true → p.register < 128 → leb (p.register + vl) 128 ≡ fits vl p
  unfolding fits register_at
  vector_fits v h = rw v (same p.register vl h)
    where
      same : (r n : ℕ) → r < 128 → leb (r + n) 128 ≡ ltb (r + (n - 1)) 128
      same r n h = by (leb (r + n) 128) refl
        where
          by : (b : Bool) → leb (r + n) 128 ≡ b → leb (r + n) 128 ≡ ltb (r + (n - 1)) 128
          by true e = e ∙ sym (lt-ltb (r + (n - 1)) 128 (omega (arith, h, leb-true (r + n) 128 e)))
          by false e = e ∙ sym (le-ltb (r + (n - 1)) 128 (omega (arith, h, leb-false (r + n) 128 e)))

  -- all positions below VL have a register
  pub fits_at : (i : ℕ) → i < vl → fits vl p ≡ true → register_at p i < 128
  unfolding fits register_at
  fits_at i h f = cond_rises p.vector p.register i vl h (ltb-true _ _ f)
