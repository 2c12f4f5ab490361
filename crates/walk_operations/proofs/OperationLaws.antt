-- Laws of an operation's units.
use Rattle.std.proofs.Common.{◌≡◌, ℕ, ◌+◌, ◌<◌, Bool, true, false, cond, ltb, List, [], sym, ap, ◌∙◌, true≢false, ltb-true}
use Rattle.bits.proofs.Booleans.{by_cond}
use Rattle.answers.specs.Answer.{pauses}
use Rattle.registers.specs.Written.{written}
use Rattle.walk_operands.specs.declared.place.Place.{Place}
use Rattle.walk_operands.specs.Place.{register_at}
use Rattle.walk_operands.specs.Mask.{is_on}
use Rattle.walk_operands.proofs.Fits.{fits_at}
use Rattle.walk_operations.specs.declared.position.Position.{Position}
use Rattle.walk_operations.specs.declared.position.Ran.{Ran}
use Rattle.walk_operations.specs.declared.operation.SecondPlace.{SecondPlace}
use Rattle.walk_operations.specs.declared.operation.SecondPlace.TheVariants.{Register}
use Rattle.walk_operations.specs.declared.operation.OperationPlan.{OperationPlan}
use Rattle.walk_operations.specs.Context.{WithAnyMemory, ended}
use Rattle.walk_operations.specs.Operation.{element_of, registers_after, go_on, after_on}
use Rattle.walk_operations.specs.Operation.{position_after, operation_unit}
use Rattle.walk_operations.specs.OperationReady.{SecondFits}

-- a second operand in registers has one for each position
pub register_at-below :
    (second : SecondPlace) (p : Place) (vl i : ℕ) → second ≡ Register p → SecondFits vl second → i < vl →
    register_at p i < 128
register_at-below second p vl i e f h = fits_at vl p i h (rw e at f)

-- a unit, from what each of its steps gives
module _ (p : OperationPlan) (registers : List ℕ) (position : Position) (on : Bool) (ran : Ran) (after : List ℕ)
    (test : on ≡ is_on p.mask position.destination)
  where
    pub unit_on :
        (value to : ℕ) → on ≡ true → value ≡ element_of p registers position.destination →
        to ≡ register_at p.destination position.destination → after ≡ written registers to value →
        ran ≡ after_on p.vl p.destination.vector position position.destination →
        WithAnyMemory (operation_unit p) registers position ran after
    unfolding operation_unit position_after registers_after
    unit_on value to o v place w r memory = rw (sym test ∙ o, r, w, v, place)

    pub unit_off :
        on ≡ false →
        after
        ≡ cond p.mask.zeroing (written registers (register_at p.destination position.destination) 0) registers →
        ran ≡ go_on p.vl position position.destination →
        WithAnyMemory (operation_unit p) registers position ran after
    unfolding operation_unit position_after registers_after
    unit_off o w r memory = rw (sym test ∙ o, r, w)

module _ (vl : ℕ) (vector : Bool) (position : Position) (i : ℕ) (ran : Ran) where
  pub after_vector : vector ≡ true → ran ≡ go_on vl position i → ran ≡ after_on vl vector position i
  unfolding after_on go_on
  after_vector v r = rw v r

  pub after_scalar : vector ≡ false → ran ≡ ended 4 position → ran ≡ after_on vl vector position i
  unfolding after_on
  after_scalar v r = rw v r

-- a unit that paused has left a position below VL
module _ (vl : ℕ) where
  abbrev Below : Ran → Type 0
  Below ran = pauses ran.answer ≡ true → ran.position.destination < vl

  go_on_below : (position : Position) (i : ℕ) → Below (go_on vl position i)
  unfolding go_on pauses
  go_on_below position i =
      by_cond Below (ltb (i + 1) vl) (λ e _. ltb-true (i + 1) vl e) (λ _ done. absurd (true≢false (sym done)))

  after_below : (vector : Bool) (position : Position) (i : ℕ) → Below (after_on vl vector position i)
  unfolding after_on pauses
  after_below vector position i =
      by_cond Below vector (λ _. go_on_below position i) (λ _ done. absurd (true≢false (sym done)))

position_below : (p : OperationPlan) (position : Position) (i : ℕ) → Below p.vl (position_after p position i)
unfolding position_after
position_below p position i =
    by_cond (Below p.vl) (is_on p.mask i)
    (λ _. after_below p.vl p.destination.vector position i)
    (λ _. go_on_below p.vl position i)

pub paused_below :
    (p : OperationPlan) (registers : List ℕ) (position : Position) (ran : Ran) (after : List ℕ) →
    WithAnyMemory (operation_unit p) registers position ran after → Below p.vl ran
unfolding operation_unit
paused_below p registers position ran after e =
    let i = position.destination in
    let same : ran ≡ position_after p position i =
    ap (λ o. record { answer = o.answer; position = o.state.position }) (e [])
    in
    rw same (position_below p position i)
