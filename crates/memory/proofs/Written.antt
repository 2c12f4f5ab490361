-- Memory after a write: from its bytes, from those below and above, its length, and each byte's content.
use mathlib.Core.Path.{◌≡◌, refl, sym, ◌∙◌}
use mathlib.Core.List.{List}
use Prim.Native.Nat.{ℕ, zero, suc, ◌+◌, ◌*◌, ◌/◌, ◌%◌, ◌^◌, ◌<◌, ◌≤◌}
use native.Mathlib.Nat.{zero-add, add-zero, suc-add, div-one, mod-one, div-div-eq-div-mul}
use native.Mathlib.Omega.{arith}
use lib.ListN.{length, get_or, set, length-set}
use lib.Pow.{mod-pow-add}
use lib.Seq.{get_or-set_same, get_or-set_other}
use Rattle.memory.specs.LittleEndian.{number, written}
use Rattle.memory.proofs.Power.{power_suc}

-- a byte, then the bytes above it
pub write_more :
    (memory : List ℕ) (at n value : ℕ) →
    written (set memory at (value % 256)) (at + 1) n (value / 256) ≡ written memory at (n + 1) value
unfolding written
write_more memory at n value = let e : n + 1 ≡ suc n = omega arith in rw e refl

-- m bytes, then n bytes above them
pub written_join :
    (memory : List ℕ) (address m n value : ℕ) →
    written memory address (m + n) value
    ≡ written (written memory address m value) (address + m) n (value / 2 ^ (8 * m))
unfolding written
written_join memory address zero n value = rw (zero-add, add-zero, div-one)
written_join memory address (suc m) n value =
    let step : (address + 1) + m ≡ address + suc m = omega arith in
    rw (suc-add, power_suc m, ← div-div-eq-div-mul value 256 (2 ^ (8 * m)), ← step)
    (written_join (set memory address (value % 256)) (address + 1) m n (value / 256))

pub written_length : (memory : List ℕ) (address n value : ℕ) → length (written memory address n value) ≡ length memory
unfolding written
written_length memory address zero value = refl
written_length memory address (suc n) value =
    written_length (set memory address (value % 256)) (address + 1) n (value / 256)
    ∙ length-set memory address (value % 256)

-- a byte that is none of the n stays as it was
pub written_other : (memory : List ℕ) (address n value i : ℕ)
    → ((k : ℕ) → k < n → i ≡ address + k → ⊥) → get_or (written memory address n value) i 0 ≡ get_or memory i 0
unfolding written
written_other memory address zero value i other = refl
written_other memory address (suc n) value i other =
    written_other (set memory address (value % 256)) (address + 1) n (value / 256) i
    (λ k p e. other (suc k) (omega arith) (omega arith))
    ∙ get_or-set_other memory address i (value % 256) 0 (λ e. other 0 (omega arith) (omega arith))

-- n bytes give back what they can hold of a value
pub number_written : (memory : List ℕ) (address n value : ℕ) → address + n ≤ length memory
    → number (written memory address n value) address n ≡ value % 2 ^ (8 * n)
unfolding number written
number_written memory address zero value h = sym (mod-one value)
number_written memory address (suc n) value h =
    let first = set memory address (value % 256) in
    let kept = written_other first (address + 1) n (value / 256) address (λ k p e. omega arith) in
    let low = kept ∙ get_or-set_same memory address (value % 256) 0 (omega arith) in
    let high = number_written first (address + 1) n (value / 256) (rw length-set (omega arith)) in
    let e : 8 * suc n ≡ 8 * n + 8 = omega arith in
    rw (low, high, e, mod-pow-add value (8 * n) 8) (omega arith)
