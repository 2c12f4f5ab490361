-- The calls that read one thing out. Each changes nothing.
use Rattle.std.specs.Prelude.{ℕ, true, List, ltb, get_or}
use Rattle.answers.specs.declared.Answer.TheVariants.{Done}
use Rattle.state_word.specs.State.{word_of}
use Rattle.machine.specs.declared.Machine.{Machine}
use Rattle.machine.specs.declared.Reply.{Reply}
use Rattle.machine.specs.Calls.{done, guarded}

-- what every machine in shape has
abbrev pub read_field : Machine → ℕ → Reply
read_field m value = guarded m true (Done 0) (done m value)

abbrev pub read_vl : Machine → Reply
read_vl m = read_field m m.state.vl

abbrev pub read_mvl : Machine → Reply
read_mvl m = read_field m m.state.mvl

abbrev pub read_cfg : Machine → Reply
read_cfg m = read_field m m.state.cfg

abbrev pub read_pc : Machine → Reply
read_pc m = read_field m m.pc

abbrev pub read_state_word : Machine → Reply
read_state_word m = read_field m (word_of m.state)

-- an entry of one of the two tables
abbrev pub read_entry : Machine → List ℕ → ℕ → Reply
read_entry m entries i = guarded m (ltb i 16) (Done 0) (done m (get_or entries i 0))

unfoldable pub read_register_entry : Machine → ℕ → Reply
read_register_entry m i = guarded m (ltb i 16) (Done 0) (done m (get_or m.register_table i 0))

unfoldable pub read_predicate_entry : Machine → ℕ → Reply
read_predicate_entry m i = guarded m (ltb i 16) (Done 0) (done m (get_or m.predicate_table i 0))

unfoldable pub read_register : Machine → ℕ → Reply
read_register m i = guarded m (ltb i 128) (Done 0) (done m (get_or m.registers i 0))
