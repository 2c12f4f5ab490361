-- What the walk of both sides keeps.
use Rattle.std.proofs.Common.{◌≡◌, ℕ, List, get_or, refl}
use Rattle.registers.specs.Written.{written}
use Rattle.answers.specs.declared.Answer.{Answer}
use Rattle.walk_pausable.specs.Outcome.{Outcome}
use Rattle.walk_operations.specs.declared.position.Position.{Position}
use Rattle.walk_operations.specs.Context.{Context, context, ended}
use Rattle.walk_operations.proofs.Memoryless.{Runs, Memoryless}
use Rattle.walk_operands.specs.Place.{register_at}
use Rattle.walk_pairs.specs.declared.Pair.{Pair}
use Rattle.walk_pairs.specs.declared.Pair.TheVariants.{Found, Zeroed, End}
use Rattle.walk_operations.specs.Plan.{SameWalk}
use Rattle.walk_transfers.specs.declared.sides.Sides.{Sides}
use Rattle.walk_transfers.specs.Moving.{move_element, zero_element, move_unit}
use Rattle.walk_transfers.specs.SidesReady.{Begins, Standing}
use Rattle.walk_transfers.specs.Transfer.{Element, started, pair_of, after_pair, after_transfer, at_pair, transfer_unit}
use Rattle.walk_transfers.proofs.Standing.{started_stands, started_within}
use Rattle.walk_transfers.proofs.TransferLaws.{at_start, unit_kept, walk_started}

pub start_standing : {s : Sides} {p start : Position} → Begins s p → start ≡ started s p → Standing s start
start_standing begins e = rw e (begins.0, started_within _ _ begins.1, started_stands _ _)

pub unit_standing :
    (s : Sides) (bytes : ℕ) (transfer zero : Element) (c : Context) {o : Outcome Answer Context} →
    Standing s c.position → o ≡ transfer_unit s bytes transfer zero c → Standing s o.state.position
unit_standing s bytes transfer zero c {o} standing e =
    let kept = unit_kept s bytes transfer zero c standing.1 o e in (standing.0, kept.within, kept.stands)

-- a walk goes from any position as from where both sides start, where transfers go by registers and memory alone
pub same_started :
    (s : Sides) (bytes : ℕ) (transfer zero : Element) →
    ((c : Context) (i j : ℕ) → transfer (at_start s c) i j ≡ transfer c i j) →
    ((c : Context) (i j : ℕ) → zero (at_start s c) i j ≡ zero c i j) → {start : Position} (position : Position) →
    start ≡ started s position → SameWalk (transfer_unit s bytes transfer zero) position start
same_started s bytes transfer zero same same_zero position e n registers memory h =
    let c = context registers memory position in
    rw e (walk_started s bytes transfer zero c (same c) (same_zero c) n h)

-- a move goes by registers and memory alone
pub move_started : (s : Sides) (p : Position) {start : Position} → start ≡ started s p → SameWalk (move_unit s) p start
unfolding move_unit
move_started s p e =
    same_started s 2 (move_element s) (zero_element s)
    (λ c i j. unfold move_element in refl) (λ c i j. unfold zero_element in refl) p e

-- a move doesn't touch memory
move_pair :
    (s : Sides) (registers : List ℕ) (position : Position) (p : Pair) →
    Runs (λ c. at_pair s 2 (move_element s) (zero_element s) c p) registers position
unfolding at_pair after_transfer move_element zero_element
move_pair s registers position End = record { ran = ended 2 position; after = registers; same = λ memory. refl }
move_pair s registers position (Found i j) = record {
  ran = after_pair s 2 position i j;
  after = written registers (register_at s.destination.place j) (get_or registers (register_at s.source.place i) 0);
  same = λ memory. refl;
}
move_pair s registers position (Zeroed i j) = record {
  ran = after_pair s 2 position i j;
  after = written registers (register_at s.destination.place j) 0;
  same = λ memory. refl;
}

pub move_memoryless : (s : Sides) → Memoryless (move_unit s)
unfolding move_unit transfer_unit
move_memoryless s registers position =
    let runs = move_pair s registers position (pair_of s position) in
    record { ran = runs.ran; after = runs.after; same = λ memory. runs.same memory }
