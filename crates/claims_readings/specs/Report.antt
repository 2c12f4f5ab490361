-- What a call says and leaves, in the terms of 01's table "What a call says".
use Rattle.std.specs.Prelude.{ℕ, ◌≡◌, List}
use Rattle.answers.specs.declared.Answer.{Answer}
use Rattle.answers.specs.Answer.{number_of, value_of}
use Rattle.walk_pausable.specs.Outcome.{Outcome}
use Rattle.machine.specs.declared.Machine.{Machine}
use Rattle.machine.specs.declared.Reply.{Reply}
use Rattle.machine.specs.Run.{System, system, run}

-- the answer's number, the value returned with it, and what is left
pub record Report (S : Type 0) : Type 0 where
  pub number : ℕ
  pub value : ℕ
  pub left : S

module _ {S : Type 0} where
  abbrev pub report : ℕ → ℕ → S → Report S
  report number value left = record { number = number; value = value; left = left }

  abbrev pub reported : Answer → S → Report S
  reported answer left = report (number_of answer) (value_of answer) left

-- a setting or reading call
abbrev pub Replies : Reply → ℕ → ℕ → Machine → Type 0
Replies reply number value left = reported reply.answer reply.machine ≡ report number value left

-- a run, or a list of them
abbrev pub Ends : Outcome Answer System → ℕ → ℕ → System → Type 0
Ends o number value left = reported o.answer o.state ≡ report number value left

-- A run of a word from a machine with a memory: number, value, and the machine that it leaves, with the memory as it
-- was.
abbrev pub RunsOn : List ℕ → ℕ → ℕ → Machine → ℕ → ℕ → Machine → Type 0
RunsOn memory word allowance before number value left =
    Ends (run word allowance (system before memory)) number value (system left memory)

-- the same whatever the memory
abbrev pub Runs : ℕ → ℕ → Machine → ℕ → ℕ → Machine → Type 0
Runs word allowance before number value left =
    (memory : List ℕ) → RunsOn memory word allowance before number value left
