-- What a call on lent arrays returns and leaves.
use Rattle.std.specs.Prelude.{ℕ, ◌≡◌}
use Rattle.answers.specs.declared.Answer.{Answer}
use Rattle.answers.specs.Answer.{number_of, value_of}
use Rattle.walk_pausable.specs.Outcome.{Outcome}
use Rattle.machine.specs.declared.Machine.{Machine}
use Rattle.machine.specs.declared.Reply.{Reply}
use Rattle.machine.specs.Run.{System}

-- the number n that is returned, and what the out-parameter holds, v
pub record Says (answer : Answer) (n v : ℕ) : Type 0 where
  pub number : n ≡ number_of answer
  pub value : v ≡ value_of answer

-- a setting or reading call, which leaves the arrays of m
pub record Replies (reply : Reply) (n v : ℕ) (m : Machine) : Type 0 where
  pub says : Says reply.answer n v
  pub machine : m ≡ reply.machine

-- a run, which leaves the arrays and the memory of s
pub record Leaves (o : Outcome Answer System) (n v : ℕ) (s : System) : Type 0 where
  pub says : Says o.answer n v
  pub state : s ≡ o.state
