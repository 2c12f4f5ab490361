-- Why a memory fault is answered.
use Rattle.std.specs.Prelude.{ℕ, ◌+◌, ◌%◌, ◌<◌, ◌≡◌, ◌↔◌, Bool, true, ◌||◌, List, eqb}
use Rattle.answers.specs.declared.Answer.{Answer}
use Rattle.answers.specs.Answer.{number_of, value_of}
use Rattle.scalar.specs.declared.width.Width.{Width}
use Rattle.scalar.specs.Width.{bytes_of}
use Rattle.walk_operands.specs.declared.place.Place.{Place}
use Rattle.walk_pairs.specs.declared.Pair.{Pair}
use Rattle.walk_pairs.specs.declared.Pair.TheVariants.{Found, Zeroed, End}
use Rattle.walk_accesses.specs.declared.loading.LoadPlan.{LoadPlan}
use Rattle.walk_accesses.specs.declared.storing.StorePlan.{StorePlan}
use Rattle.walk_accesses.specs.Loading.{address_at}
use Rattle.walk_handler.specs.Prepare.{Plan, operation, move, load, store}

-- answers 5 and 9
abbrev pub faults : Answer → Bool
faults a = eqb (number_of a) 5 || eqb (number_of a) 9

pub record Access : Type 0 where
  pub address : ℕ
  pub bytes : ℕ

-- an access of some width at the address of a position
abbrev pub access_by : Place → ℕ → Width → List ℕ → ℕ → Access
access_by p offset width registers i =
    record { address = address_at p offset width registers i; bytes = bytes_of width }

-- a load has its address from the source position, and no access where a side with zeroing is off
abbrev pub LoadAt : LoadPlan → List ℕ → Pair → Access → Type 0
LoadAt p registers (Found i j) a = a ≡ access_by p.sides.source.place p.offset p.width registers i
LoadAt p registers (Zeroed i j) a = ⊥
LoadAt p registers End a = ⊥

-- a store has its address from the destination position, also where it stores zeros
abbrev pub StoreAt : StorePlan → List ℕ → Pair → Access → Type 0
StoreAt p registers (Found i j) a = a ≡ access_by p.sides.destination.place p.offset p.width registers j
StoreAt p registers (Zeroed i j) a = a ≡ access_by p.sides.destination.place p.offset p.width registers j
StoreAt p registers End a = ⊥

-- the access of a plan at a pair of positions; operations and moves have none
abbrev pub AccessAt : Plan → List ℕ → Pair → Access → Type 0
AccessAt (operation p) registers pair a = ⊥
AccessAt (move s) registers pair a = ⊥
AccessAt (load p) registers pair a = LoadAt p registers pair a
AccessAt (store p) registers pair a = StoreAt p registers pair a

abbrev pub Divisible : Access → Type 0
Divisible a = a.address % a.bytes ≡ 0

-- what a unit with an access answers, on a memory of some size
pub record FaultedBy (size : ℕ) (a : Access) (answer : Answer) : Type 0 where
  pub misaligned : number_of answer ≡ 9 ↔ (Divisible a → ⊥)
  pub outside : number_of answer ≡ 5 ↔ Divisible a × (size < a.address + a.bytes)
  -- the address is returned with both
  pub address : faults answer ≡ true → value_of answer ≡ a.address
