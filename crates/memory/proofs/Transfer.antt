-- Laws of loads and stores.
use mathlib.Core.Path.{◌≡◌, refl}
use mathlib.Core.List.{List}
use Prim.Native.Nat.{ℕ, ◌*◌, ◌%◌, ◌^◌, ◌<◌}
use native.Mathlib.Omega.{arith}
use lib.ListN.{length}
use Rattle.std.specs.Prelude.{Result, Ok, Err}
use Rattle.memory.specs.declared.access.Outside.{Outside}
use Rattle.memory.specs.Access.{located}
use Rattle.memory.specs.LittleEndian.{Bytes, number, written}
use Rattle.memory.specs.Transfer.{loaded_from, loaded, answer_to, store_answer, written_to, stored}
use Rattle.memory.proofs.Bytes.{number_below, bytes_written}
use Rattle.memory.proofs.Inside.{served}
use Rattle.memory.proofs.Written.{written_length, number_written}

-- a load of n bytes gives a number that they can hold
pub loaded_below : (memory : List ℕ) (address n : ℕ) {value : ℕ}
    → Bytes memory → loaded memory address n ≡ Ok value → value < 2 ^ (8 * n)
unfolding loaded
loaded_below memory address n {value} bytes = go (located (length memory) address n)
  where
    go : (a : Result ℕ Outside) → loaded_from memory n a ≡ Ok value → value < 2 ^ (8 * n)
    go (Ok at) e = let v : number memory at n ≡ value = cc in rw v at (number_below memory at n bytes)
    go (Err outside) e = let z : ◌≡◌ {A = ℕ} 0 1 = cc in omega arith

module _ (memory : List ℕ) (address n value : ℕ) where
  -- a store keeps what every write keeps
  pub stored_keeps : (P : List ℕ → Type 0)
      → P memory → ((at : ℕ) → P (written memory at n value)) → P (stored memory address n value)
  unfolding stored
  stored_keeps P old new = go (located (length memory) address n)
    where
      go : (a : Result ℕ Outside) → P (written_to memory n value a)
      go (Ok at) = new at
      go (Err outside) = old

  pub stored_length : length (stored memory address n value) ≡ length memory
  stored_length = stored_keeps (λ m. length m ≡ length memory) refl (λ at. written_length memory at n value)

  pub stored_bytes : Bytes memory → Bytes (stored memory address n value)
  stored_bytes bytes = stored_keeps Bytes bytes (λ at. bytes_written memory at n value bytes)

  -- a refused store changes nothing
  pub stored_outside : store_answer memory address n ≡ Err record {} → stored memory address n value ≡ memory
  unfolding store_answer stored
  stored_outside = go (located (length memory) address n)
    where
      go : (a : Result ℕ Outside) → answer_to a ≡ Err record {} → written_to memory n value a ≡ memory
      go (Ok at) e = cc
      go (Err outside) e = refl

  -- a load after a store at the same place gives the value modulo 2 ^ (8 n)
  pub loaded_stored : store_answer memory address n ≡ Ok tt
      → loaded (stored memory address n value) address n ≡ Ok (value % 2 ^ (8 * n))
  unfolding store_answer stored loaded
  loaded_stored = go (located (length memory) address n) refl
    where
      go : (a : Result ℕ Outside) → located (length memory) address n ≡ a → answer_to a ≡ Ok tt
          → loaded_from (written_to memory n value a) n (located (length (written_to memory n value a)) address n)
          ≡ Ok (value % 2 ^ (8 * n))
      go (Ok at) p e =
          let s = served (length memory) address n p in
          rw (written_length memory at n value, p, number_written memory at n value (omega arith))
      go (Err outside) p e = cc
