-- A machine that agrees with another in every part is that machine.
use Prim.Native.Nat.{ℕ, ◌<◌}
use mathlib.Core.Path.{◌≡◌, refl, sym, ◌∙◌}
use mathlib.Core.Bool.{Bool, true, false}
use mathlib.Core.List.{List}
use lib.Dec.{eqb}
use lib.ListN.{length, get_or, set}
use lib.Seq.{get_or-set_same, get_or-set_other, ext_get_or}
use native.Mathlib.Omega.{arith}
use borrow.Author.Tests.{eqb-true, eqb-false}
use Rattle.machine.specs.declared.Machine.{Machine}
use Rattle.machine.specs.Shape.{Sized}
use Rattle.machine.specs.Update.{room_of, tables_of, machine_with}
use Rattle.claims_calls.specs.Copy.{Part, register_entry, predicate_entry, register, pc, state_word, IsPart}

pub by_part :
    (Q : Part → Type 0) → ((i : ℕ) → Q (register_entry i)) → ((i : ℕ) → Q (predicate_entry i)) →
    ((i : ℕ) → Q (register i)) →
    Q pc → Q state_word → (p : Part) → Q p
by_part Q a b c d e (register_entry i) = a i
by_part Q a b c d e (predicate_entry i) = b i
by_part Q a b c d e (register i) = c i
by_part Q a b c d e pc = d
by_part Q a b c d e state_word = e

-- a part of a machine is as in the saved one
abbrev pub Agree : Machine → Part → Machine → Type 0
Agree saved (register_entry i) m = get_or m.register_table i 0 ≡ get_or saved.register_table i 0
Agree saved (predicate_entry i) m = get_or m.predicate_table i 0 ≡ get_or saved.predicate_table i 0
Agree saved (register i) m = get_or m.registers i 0 ≡ get_or saved.registers i 0
Agree saved pc m = m.pc ≡ saved.pc
Agree saved state_word m = m.state ≡ saved.state

-- one more element taken from a list loses none that was taken before
pub taken_over :
    (from l : List ℕ) (i j : ℕ) → i < length l → get_or l j 0 ≡ get_or from j 0 →
    get_or (set l i (get_or from i 0)) j 0 ≡ get_or from j 0
taken_over from l i j h e = by (eqb j i) refl
  where
    by : (t : Bool) → eqb j i ≡ t → get_or (set l i (get_or from i 0)) j 0 ≡ get_or from j 0
    by true q = rw (eqb-true j i q) (get_or-set_same l i (get_or from i 0) 0 h)
    by false q = get_or-set_other l i j (get_or from i 0) 0 (eqb-false j i q) ∙ e

same_list : (a b : List ℕ) (n : ℕ) → length a ≡ n → length b ≡ n → ((i : ℕ) → i < n → get_or a i 0 ≡ get_or b i 0) → a ≡ b
same_list a b n p q each = ext_get_or 0 a b (p ∙ sym q) (λ k h. each k (omega (arith, p)))

pub same_machine : (saved m : Machine) → Sized saved → Sized m → ((p : Part) → IsPart p → Agree saved p m) → m ≡ saved
same_machine saved m f z all =
    let same : machine_with (room_of m) (tables_of m) ≡ saved =
    rw (
      same_list m.registers saved.registers 128 z.registers f.registers (λ i. all (register i)),
      same_list m.register_table saved.register_table 16 z.register_table f.register_table
          (λ i. all (register_entry i)),
      same_list m.predicate_table saved.predicate_table 16 z.predicate_table f.predicate_table
          (λ i. all (predicate_entry i)),
      all pc tt,
      all state_word tt,
    ) in
    same
