-- The calls that set one thing, as document 01's section "Setting calls" has them.
use Rattle.std.specs.Prelude.{ℕ, ◌+◌, Bool, true, leb, ltb, set}
use Rattle.answers.specs.declared.Answer.TheVariants.{Done}
use Rattle.answers.specs.Verdict.{valid}
use Rattle.registers.specs.Written.{written}
use Rattle.tables.specs.Entry.{bit0_clear}
use Rattle.state_word.specs.State.{mvl_in_range, cfg_in_range, with_vl, with_mvl, with_cfg, of_word, cut, good_word}
use Rattle.state_word.specs.declared.State.{State}
use Rattle.machine.specs.declared.Machine.{Machine}
use Rattle.machine.specs.declared.Reply.{Reply}
use Rattle.machine.specs.Calls.{done, guarded}
use Rattle.machine.specs.Update.{with_registers, with_pc, with_state, with_register_table, with_predicate_table}

-- the new VL is returned
abbrev pub vl_set : Machine → ℕ → Reply
vl_set m n = done (with_state m (with_vl m.state n)) (with_vl m.state n).vl

-- plain form: n from 1
unfoldable pub set_vl : Machine → ℕ → Reply
set_vl m n = guarded m true (valid (leb 1 n)) (vl_set m n)

-- immediate form: n from 0 to 31 sets min(n + 1, MVL)
unfoldable pub set_vl_immediate : Machine → ℕ → Reply
set_vl_immediate m n = guarded m true (valid (leb n 31)) (vl_set m (n + 1))

-- a setting that becomes the state, by whether its value can be taken
abbrev pub set_state : Machine → Bool → State → Reply
set_state m taken state = guarded m true (valid taken) (done (with_state m state) 0)

unfoldable pub set_mvl : Machine → ℕ → Reply
set_mvl m n = guarded m true (valid (mvl_in_range n)) (done (with_state m (with_mvl m.state n)) 0)

unfoldable pub set_cfg : Machine → ℕ → Reply
set_cfg m n = guarded m true (valid (cfg_in_range n)) (done (with_state m (with_cfg m.state n)) 0)

unfoldable pub set_register_entry : Machine → ℕ → ℕ → Reply
set_register_entry m i entry =
    guarded m (ltb i 16) (Done 0) (done (with_register_table m (set m.register_table i entry)) 0)

unfoldable pub set_predicate_entry : Machine → ℕ → ℕ → Reply
set_predicate_entry m i entry =
    guarded m (ltb i 16) (valid (bit0_clear entry)) (done (with_predicate_table m (set m.predicate_table i entry)) 0)

unfoldable pub set_register : Machine → ℕ → ℕ → Reply
set_register m i value = guarded m (ltb i 128) (Done 0) (done (with_registers m (written m.registers i value)) 0)

unfoldable pub set_pc : Machine → ℕ → Reply
set_pc m pc = guarded m true (Done 0) (done (with_pc m pc) 0)

-- MVL, then VL as min(VL, MVL), then offsets, then CFG
unfoldable pub set_state_word : Machine → ℕ → Reply
set_state_word m word = guarded m true (valid (good_word word)) (done (with_state m (cut (of_word word))) 0)
