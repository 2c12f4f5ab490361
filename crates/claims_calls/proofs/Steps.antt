-- One part copied: the call answers 0, the part agrees, and no other part that agreed is lost.
use Prim.Native.Nat.{ℕ, zero, suc, ◌<◌}
use mathlib.Core.Path.{◌≡◌, refl, sym, ◌∙◌, ap}
use mathlib.Core.Bool.{true}
use mathlib.Core.List.{List}
use lib.ListN.{length, get_or, set, length-set}
use lib.Seq.{set-get_or, get_or-set_same}
use native.Mathlib.Omega.{arith}
use borrow.Author.Tests.{lt-ltb}
use Rattle.answers.specs.Answer.{accepts}
use Rattle.answers.specs.Verdict.{verdict}
use Rattle.registers.specs.Written.{written}
use Rattle.registers.proofs.Writes.{zero_kept, written_above, written_zero}
use Rattle.tables.proofs.Clear.{clear_set, clear_at}
use Rattle.machine.specs.declared.Machine.{Machine}
use Rattle.machine.specs.Calls.{done}
use Rattle.machine.specs.Shape.{in_shape, Sized}
use Rattle.machine.specs.Update.{with_registers, with_pc, with_state, with_register_table, with_predicate_table}
use Rattle.machine.specs.Setting.{set_register_entry, set_predicate_entry, set_register, set_pc}
use Rattle.machine.specs.Reading.{read_register_entry, read_predicate_entry, read_register}
use Rattle.machine.proofs.Shapes.{parts}
use Rattle.claims_calls.specs.Copy.{Part, register_entry, predicate_entry, register, pc, state_word, carried, IsPart}
use Rattle.claims_calls.proofs.Settings.{kept}
use Rattle.claims_calls.proofs.StateWord.{read_is, carried_word}
use Rattle.claims_calls.proofs.Parts.{by_part, Agree, taken_over}

pub record Step (saved : Machine) (p : Part) (m : Machine) : Type 0 where
  pub next : Machine
  pub carries : carried saved p m ≡ done next 0
  pub sized : Sized next
  pub shaped : in_shape next ≡ true
  pub there : Agree saved p next
  pub others : (q : Part) → Agree saved q m → Agree saved q next

-- writing back what register 0 holds vanishes, and so is a write like any other
same_write :
    (from l : List ℕ) (i : ℕ) → i < 128 → get_or from 0 0 ≡ 0 → get_or l 0 0 ≡ 0 →
    written l i (get_or from i 0) ≡ set l i (get_or from i 0)
same_write from l zero h f z =
    written_zero l (get_or from 0 0) ∙ sym (ap (set l 0) (f ∙ sym z) ∙ set-get_or l 0 0)
same_write from l (suc i) h f z = written_above l (suc i) (get_or from (suc i) 0) (omega arith) h

module _ (saved m : Machine) (s : in_shape saved ≡ true) (h : in_shape m ≡ true) (z : Sized m) where
  abbrev Kept : Machine → Part → Type 0
  Kept next q = Agree saved q m → Agree saved q next

  resized :
      (next : Machine) → length next.registers ≡ length m.registers →
      length next.register_table ≡ length m.register_table →
      length next.predicate_table ≡ length m.predicate_table → Sized next
  resized next a b c = record {
    registers = a ∙ z.registers;
    register_table = b ∙ z.register_table;
    predicate_table = c ∙ z.predicate_table;
  }

  step_register_entry : (i : ℕ) → i < 16 → Step saved (register_entry i) m
  unfolding read_register_entry set_register_entry accepts verdict
  step_register_entry i l =
      let from = saved.register_table in
      let to = m.register_table in
      let below : i < length to = omega (arith, z.register_table) in
      let next = with_register_table m (set to i (get_or from i 0)) in
      record {
        next = next;
        carries = rw (s, h, lt-ltb i 16 l);
        sized = resized next refl (length-set to i (get_or from i 0)) refl;
        shaped = kept m next h (λ k. k) (λ o. o) (λ t. t);
        there = get_or-set_same to i (get_or from i 0) 0 below;
        others = by_part (Kept next) (λ j. taken_over from to i j below) (λ j e. e) (λ j e. e) (λ e. e) (λ e. e);
      }

  step_predicate_entry : (i : ℕ) → i < 16 → Step saved (predicate_entry i) m
  unfolding read_predicate_entry set_predicate_entry accepts verdict
  step_predicate_entry i l =
      let from = saved.predicate_table in
      let to = m.predicate_table in
      let below : i < length to = omega (arith, z.predicate_table) in
      let clear = clear_at 16 from i l (parts saved s).tables in
      let next = with_predicate_table m (set to i (get_or from i 0)) in
      record {
        next = next;
        carries = rw (s, h, lt-ltb i 16 l, clear);
        sized = resized next refl refl (length-set to i (get_or from i 0));
        shaped = kept m next h (λ k. k) (λ o. o) (clear_set to i (get_or from i 0) clear 16);
        there = get_or-set_same to i (get_or from i 0) 0 below;
        others = by_part (Kept next) (λ j e. e) (λ j. taken_over from to i j below) (λ j e. e) (λ e. e) (λ e. e);
      }

  step_register : (i : ℕ) → i < 128 → Step saved (register i) m
  unfolding read_register set_register accepts verdict
  step_register i l =
      let from = saved.registers in
      let to = m.registers in
      let below : i < length to = omega (arith, z.registers) in
      let zeros = (parts m h).zero_register in
      let same = same_write from to i l (parts saved s).zero_register zeros in
      let next = with_registers m (set to i (get_or from i 0)) in
      record {
        next = next;
        carries = rw (s, h, lt-ltb i 128 l, same);
        sized = resized next (length-set to i (get_or from i 0)) refl refl;
        shaped = kept m next h (λ k. k) (λ o. rw (← same) (zero_kept to i (get_or from i 0) o)) (λ t. t);
        there = get_or-set_same to i (get_or from i 0) 0 below;
        others = by_part (Kept next) (λ j e. e) (λ j e. e) (λ j. taken_over from to i j below) (λ e. e) (λ e. e);
      }

  step_pc : Step saved pc m
  unfolding set_pc accepts verdict
  step_pc = record {
    next = with_pc m saved.pc;
    carries = rw (s, h);
    sized = resized _ refl refl refl;
    shaped = kept m _ h (λ k. k) (λ o. o) (λ t. t);
    there = refl;
    others = by_part (Kept (with_pc m saved.pc)) (λ j e. e) (λ j e. e) (λ j e. e) (λ e. refl) (λ e. e);
  }

  step_state_word : Step saved state_word m
  unfolding accepts
  step_state_word = record {
    next = with_state m saved.state;
    carries = rw (read_is saved s) (carried_word saved m s h);
    sized = resized _ refl refl refl;
    shaped = kept m _ h (λ k. (parts saved s).state) (λ o. o) (λ t. t);
    there = refl;
    others = by_part (Kept (with_state m saved.state)) (λ j e. e) (λ j e. e) (λ j e. e) (λ e. e) (λ e. refl);
  }

  pub step : (p : Part) → IsPart p → Step saved p m
  step (register_entry i) l = step_register_entry i l
  step (predicate_entry i) l = step_predicate_entry i l
  step (register i) l = step_register i l
  step pc u = step_pc
  step state_word u = step_state_word
