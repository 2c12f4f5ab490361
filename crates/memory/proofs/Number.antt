-- The number of bytes of memory: from its highest byte down, and from that of the bytes below and above.
use Prim.Native.Nat.{ℕ, zero, suc, ◌+◌, ◌-◌, ◌*◌, ◌^◌, ◌<◌, ◌≤◌}
use mathlib.Core.Path.{◌≡◌, refl}
use mathlib.Core.List.{List}
use lib.Dec.{lit<}
use lib.ListN.{get_or}
use lib.Pow.{pow-add}
use native.Mathlib.Nat.{pow-le-pow_right, zero-add, add-zero, one-mul, suc-add, mul_assoc}
use native.Mathlib.Numerals.{add-one}
use native.Mathlib.Omega.{arith}
use Rattle.memory.specs.LittleEndian.{number}
use Rattle.memory.specs.Read.{Read}
use Rattle.memory.proofs.Power.{power_suc}

pub none_read : (bytes : List ℕ) (at size : ℕ) → Read bytes (at + size) (size - size) 0
unfolding number
none_read bytes at size =
    let none : size - size ≡ 0 = omega arith in
    rw none (record { equal = refl; below = lit< tt })

-- one byte more, below those that were read
pub read_more :
    {bytes : List ℕ} {at size value : ℕ} → Read bytes (at + 1) size value → get_or bytes at 0 < 256 →
    Read bytes at (size + 1) (get_or bytes at 0 + 256 * value)
unfolding number
read_more {bytes} {at} {size} {value} r byte =
    let e : 8 * suc size ≡ 8 + 8 * size = omega arith in
    record {
      equal = rw (add-one, r.equal);
      below = rw (add-one, e, pow-add 2 8 (8 * size)) (omega (arith, r.below));
    }

-- at most seven bytes leave room for one
pub room : {bytes : List ℕ} {at size value : ℕ} → size < 8 → Read bytes at size value → 256 * value + 256 ≤ 2 ^ 64
room {size} {value} h r =
    let most : 2 ^ (8 * size) ≤ 2 ^ 56 = pow-le-pow_right (omega arith) {i = 8 * size} {j = 56} (omega arith) in
    omega (arith, r.below)

-- m bytes, then n bytes above them
pub number_join : (memory : List ℕ) (address m n : ℕ)
    → number memory address (m + n) ≡ number memory address m + 2 ^ (8 * m) * number memory (address + m) n
unfolding number
number_join memory address zero n = rw (zero-add n, add-zero, one-mul, zero-add)
number_join memory address (suc m) n =
    let above = number memory (address + suc m) n in
    let step : (address + 1) + m ≡ address + suc m = omega arith in
    let join = rw step at (number_join memory (address + 1) m n) in
    let scale : 2 ^ (8 * suc m) * above ≡ 256 * (2 ^ (8 * m) * above) =
    rw (power_suc m) (mul_assoc 256 (2 ^ (8 * m)) above)
    in
    rw suc-add (omega arith)
