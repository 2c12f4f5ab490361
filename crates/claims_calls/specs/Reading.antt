-- Every reading call, as data, so that a claim can speak of all of them.
use Rattle.std.specs.Prelude.{ℕ}
use Rattle.machine.specs.declared.Machine.{Machine}
use Rattle.machine.specs.declared.Reply.{Reply}
use Rattle.machine.specs.Reading as call

pub data Reading : Type 0 where
  vl : Reading
  mvl : Reading
  cfg : Reading
  register_entry : ℕ → Reading
  predicate_entry : ℕ → Reading
  register : ℕ → Reading
  pc : Reading
  state_word : Reading

abbrev pub read : Machine → Reading → Reply
read m vl = call.read_vl m
read m mvl = call.read_mvl m
read m cfg = call.read_cfg m
read m (register_entry i) = call.read_register_entry m i
read m (predicate_entry i) = call.read_predicate_entry m i
read m (register i) = call.read_register m i
read m pc = call.read_pc m
read m state_word = call.read_state_word m
