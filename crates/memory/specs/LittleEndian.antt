-- Numbers in memory, their lowest byte first.
use Rattle.std.specs.Prelude.{List, ℕ, zero, suc, ◌+◌, ◌*◌, ◌/◌, ◌%◌, ◌<◌, get_or, set}

-- every element is a byte
abbrev pub Bytes : List ℕ → Type 0
Bytes memory = (i : ℕ) → get_or memory i 0 < 256

-- the number that n bytes from an address make
unfoldable pub number : List ℕ → ℕ → ℕ → ℕ
number memory address zero = 0
number memory address (suc n) = get_or memory address 0 + 256 * number memory (address + 1) n

-- the memory with the low n bytes of a value from an address on
unfoldable pub written : List ℕ → ℕ → ℕ → ℕ → List ℕ
written memory address zero value = memory
written memory address (suc n) value = written (set memory address (value % 256)) (address + 1) n (value / 256)
