-- What n bytes can hold.
use mathlib.Core.Path.{◌≡◌}
use Prim.Native.Nat.{ℕ, suc, ◌*◌, ◌+◌, ◌^◌}
use native.Mathlib.Omega.{arith}
use lib.Pow.{pow-add}

-- one byte more holds 256 times as much
pub power_suc : (n : ℕ) → 2 ^ (8 * suc n) ≡ 256 * 2 ^ (8 * n)
power_suc n = let e : 8 * suc n ≡ 8 + 8 * n = omega arith in rw e (pow-add 2 8 (8 * n))
