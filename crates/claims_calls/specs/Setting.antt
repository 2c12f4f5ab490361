-- Every setting call, as data, so that a claim can speak of all of them.
use Rattle.std.specs.Prelude.{ℕ, ◌≡◌, true}
use Rattle.machine.specs.declared.Machine.{Machine}
use Rattle.machine.specs.declared.Reply.{Reply}
use Rattle.answers.specs.Answer.{accepts}
use Rattle.machine.specs.Setting as call

pub data Setting : Type 0 where
  vl : ℕ → Setting
  vl_immediate : ℕ → Setting
  mvl : ℕ → Setting
  cfg : ℕ → Setting
  register_entry : ℕ → ℕ → Setting
  predicate_entry : ℕ → ℕ → Setting
  register : ℕ → ℕ → Setting
  pc : ℕ → Setting
  state_word : ℕ → Setting

abbrev pub set : Machine → Setting → Reply
set m (vl n) = call.set_vl m n
set m (vl_immediate n) = call.set_vl_immediate m n
set m (mvl n) = call.set_mvl m n
set m (cfg n) = call.set_cfg m n
set m (register_entry i entry) = call.set_register_entry m i entry
set m (predicate_entry i entry) = call.set_predicate_entry m i entry
set m (register i value) = call.set_register m i value
set m (pc value) = call.set_pc m value
set m (state_word word) = call.set_state_word m word

-- what an accepted setting returns, by the machine that it leaves: both forms of VL the new VL, every other 0
abbrev pub returned : Setting → Machine → ℕ
returned (vl n) m = m.state.vl
returned (vl_immediate n) m = m.state.vl
returned (mvl n) m = 0
returned (cfg n) m = 0
returned (register_entry i entry) m = 0
returned (predicate_entry i entry) m = 0
returned (register i value) m = 0
returned (pc value) m = 0
returned (state_word word) m = 0

-- its answer is 0
abbrev pub Accepted : Reply → Type 0
Accepted reply = accepts reply.answer ≡ true
