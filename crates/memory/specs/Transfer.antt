-- What a load and a store of n bytes at an address do.
use Rattle.std.specs.Prelude.{List, ℕ, length, Result, Ok, Err, ⊤}
use Rattle.memory.specs.declared.access.Outside.{Outside}
use Rattle.memory.specs.Access.{located}
use Rattle.memory.specs.LittleEndian.{number, written}

-- a load answers with the number of the bytes there, or refuses
abbrev pub loaded_from : List ℕ → ℕ → Result ℕ Outside → Result ℕ Outside
loaded_from memory n (Ok at) = Ok (number memory at n)
loaded_from memory n (Err outside) = Err outside

unfoldable pub loaded : List ℕ → ℕ → ℕ → Result ℕ Outside
loaded memory address n = loaded_from memory n (located (length memory) address n)

-- a store answers that it is done, or refuses
abbrev pub answer_to : Result ℕ Outside → Result ⊤ Outside
answer_to (Ok at) = Ok tt
answer_to (Err outside) = Err outside

unfoldable pub store_answer : List ℕ → ℕ → ℕ → Result ⊤ Outside
store_answer memory address n = answer_to (located (length memory) address n)

-- the memory that it leaves: a refusal changes nothing
abbrev pub written_to : List ℕ → ℕ → ℕ → Result ℕ Outside → List ℕ
written_to memory n value (Ok at) = written memory at n value
written_to memory n value (Err outside) = memory

unfoldable pub stored : List ℕ → ℕ → ℕ → ℕ → List ℕ
stored memory address n value = written_to memory n value (located (length memory) address n)
