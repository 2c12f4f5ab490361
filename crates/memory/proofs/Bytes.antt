-- Memory holds bytes, and a write keeps it so.
use mathlib.Core.List.{List, [], ◌∷◌}
use Prim.Native.Nat.{ℕ, zero, suc, ◌+◌, ◌*◌, ◌/◌, ◌%◌, ◌^◌, ◌<◌}
use native.Mathlib.Omega.{arith}
use lib.Dec.{lit<}
use lib.ListN.{set}
use Rattle.memory.specs.LittleEndian.{Bytes, number, written}
use Rattle.memory.proofs.Power.{power_suc}

pub number_below : (memory : List ℕ) (address n : ℕ) → Bytes memory → number memory address n < 2 ^ (8 * n)
unfolding number
number_below memory address zero bytes = lit< tt
number_below memory address (suc n) bytes =
    omega (arith, bytes address, number_below memory (address + 1) n bytes, power_suc n)

bytes_set : (memory : List ℕ) (at byte : ℕ) → byte < 256 → Bytes memory → Bytes (set memory at byte)
bytes_set [] at byte h bytes i = bytes i
bytes_set (x ∷ xs) zero byte h bytes zero = h
bytes_set (x ∷ xs) zero byte h bytes (suc i) = bytes (suc i)
bytes_set (x ∷ xs) (suc at) byte h bytes zero = bytes zero
bytes_set (x ∷ xs) (suc at) byte h bytes (suc i) = bytes_set xs at byte h (λ j. bytes (suc j)) i

pub bytes_written : (memory : List ℕ) (address n value : ℕ) → Bytes memory → Bytes (written memory address n value)
unfolding written
bytes_written memory address zero value bytes = bytes
bytes_written memory address (suc n) value bytes =
    bytes_written (set memory address (value % 256)) (address + 1) n (value / 256)
    (bytes_set memory address (value % 256) (omega arith) bytes)
