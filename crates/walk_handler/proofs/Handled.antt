-- How a word is handled, by the check of its operands.
use Prim.Native.Nat.{ℕ, ◌<◌, ◌≤◌}
use mathlib.Core.Path.{◌≡◌, refl}
use mathlib.Core.Bool.{Bool, true, false, cond, true≢false}
use mathlib.Core.List.{List, [], ◌∷◌}
use lib.Dec.{eqb}
use Rattle.answers.specs.declared.Answer.{Answer}
use Rattle.answers.specs.declared.Answer.TheVariants.{Done, PastRegisters, BadWidth}
use Rattle.answers.specs.Answer.{number_of, accepts}
use Rattle.bits.specs.Lists.{all}
use Rattle.decode.specs.declared.decoded.ResolvedOperand.{ResolvedOperand}
use Rattle.decode.specs.declared.decoded.SecondOperand.{SecondOperand}
use Rattle.decode.specs.declared.decoded.SecondOperand.TheVariants.{Register, Immediate}
use Rattle.decode.specs.declared.decoded.OperationWord.{OperationWord}
use Rattle.decode.specs.declared.decoded.MoveWord.{MoveWord}
use Rattle.decode.specs.declared.decoded.LoadWord.{LoadWord}
use Rattle.decode.specs.declared.decoded.StoreWord.{StoreWord}
use Rattle.decode.specs.declared.decoded.Decoded.{Decoded}
use Rattle.decode.specs.declared.decoded.Decoded.TheVariants.{Operation, Move, Load, Store, Unknown}
use Rattle.walk_operands.specs.Place.{place_of, fits}
use Rattle.walk_pausable.specs.Outcome.{Outcome, outcome}
use Rattle.walk_pausable.specs.Walk.{walk}
use Rattle.walk_pausable.specs.Call.{begun}
use Rattle.bits.proofs.Booleans.{and_left, and_right}
use Rattle.walk_operations.specs.Context.{Context, pausing}
use Rattle.walk_transfers.specs.SidesReady.{SidesReady, OfRegisters, Within}
use Rattle.walk_operations.specs.declared.position.Position.{Position}
use Rattle.walk_operations.specs.declared.operation.OperationPlan.{OperationPlan}
use Rattle.walk_transfers.specs.declared.sides.Sides.{Sides}
use Rattle.walk_accesses.specs.declared.loading.LoadPlan.{LoadPlan}
use Rattle.walk_accesses.specs.declared.storing.StorePlan.{StorePlan}
use Rattle.walk_operations.specs.OperationReady.{SecondFits, OperationReady}
use Rattle.walk_plans.specs.Operands.{second_operands, operands_of, default_width, fitting, checked_operands, checked}
use Rattle.walk_plans.specs.Plan.{second_plan, operation_plan, move_plan, load_plan, store_plan}
use Rattle.walk_handler.specs.Prepare.{Plan, served, prepared}
use Rattle.walk_handler.specs.Unit.{unit_of, handled}

module _ (vl n : ℕ) (c : Context) where
  pub refused_word :
      (word : Decoded) → accepts (checked vl word) ≡ false → outcome (checked vl word) c ≡ handled vl word n c
  unfolding handled prepared served begun
  refused_word (Operation w) e = rw e
  refused_word (Move w) e = rw e
  refused_word (Load w) e = rw e
  refused_word (Store w) e = rw e
  refused_word Unknown e = absurd (true≢false (unfold accepts checked_operands all in e))

  -- of a word that is known to be another, by a plan that is known to be its own
  pub walked :
      {word known : Decoded} {made plan : Plan} → word ≡ known → made ≡ plan →
      prepared vl c.registers known ≡ served vl known plan → accepts (checked vl word) ≡ true →
      {out : Outcome Answer Context} → out ≡ walk pausing (unit_of made) n c → out ≡ handled vl word n c
  unfolding handled served begun
  walked is m same e o = let known = rw is at e in rw (o, is, m, same, known)

-- operands that are accepted have registers that exist
accepted_fit :
    (vl : ℕ) (ns : List ResolvedOperand) → accepts (checked_operands vl ns) ≡ true → all (fitting vl) ns ≡ true
unfolding checked_operands accepts
accepted_fit vl ns = by (all default_width ns) (all (fitting vl) ns)
  where
    by : (w f : Bool) → eqb (number_of (cond w (cond f (Done 0) PastRegisters) BadWidth)) 0 ≡ true → f ≡ true
    by w true e = refl
    by true false e = e
    by false false e = e

module _ (vl : ℕ) where
  first_fits :
      (n : ResolvedOperand) (ns : List ResolvedOperand) → all (fitting vl) (n ∷ ns) ≡ true →
      fits vl (place_of n) ≡ true
  unfolding all fitting
  first_fits n ns e = and_left _ _ e

  rest_fits :
      (n : ResolvedOperand) (ns : List ResolvedOperand) → all (fitting vl) (n ∷ ns) ≡ true →
      all (fitting vl) ns ≡ true
  unfolding all
  rest_fits n ns e = and_right (fitting vl n) _ e

  second_fits : (s : SecondOperand) → all (fitting vl) (second_operands s) ≡ true → SecondFits vl (second_plan s)
  second_fits (Register n) e = first_fits n [] e
  second_fits (Immediate value) e = tt

  -- the two operands of a word of another kind, in its order
  two_fit :
      (a b : ResolvedOperand) → all (fitting vl) (a ∷ b ∷ []) ≡ true →
      (fits vl (place_of a) ≡ true) × (fits vl (place_of b) ≡ true)
  two_fit a b e = (first_fits a (b ∷ []) e, first_fits b [] (rest_fits a (b ∷ []) e))

-- a word that is asked to be walked is known, and its plan is made
module _
    {vl : ℕ} {word : Decoded} {position : Position}
    (asked : (vl ≤ 64) × Within vl position × (accepts (checked vl word) ≡ true)) (registers : List ℕ)
  where
    fit : (known : Decoded) → word ≡ known → all (fitting vl) (operands_of known) ≡ true
    fit known is = accepted_fit vl (operands_of known) (rw is at asked.2)

    pub operation_ready :
        {w : OperationWord} {made : OperationPlan} → word ≡ Operation w → made ≡ operation_plan vl registers w →
        OperationReady made × (position.destination < made.vl)
    unfolding operation_plan
    operation_ready {w = w} is e =
        let others = second_operands w.second in
        let f = fit (Operation w) is in
        let rest = rest_fits vl w.destination (w.first ∷ others) f in
        rw e (
          record {
            most = asked.0;
            destination = first_fits vl w.destination (w.first ∷ others) f;
            first = first_fits vl w.first others rest;
            second = second_fits vl w.second (rest_fits vl w.first others rest);
          },
          asked.1.destination,
        )

    pub move_ready :
        {w : MoveWord} {made : Sides} → word ≡ Move w → made ≡ move_plan vl registers w →
        (SidesReady made × Within made.vl position) × (OfRegisters made.source × OfRegisters made.destination)
    unfolding move_plan
    move_ready {w = w} is e =
        let f = two_fit vl w.destination w.source (fit (Move w) is) in
        rw e ((record { most = asked.0; source = f.1; destination = f.0 }, asked.1), (λ v. v, λ v. v))

    pub load_ready :
        {w : LoadWord} {made : LoadPlan} → word ≡ Load w → made ≡ load_plan vl registers w →
        (SidesReady made.sides × Within made.sides.vl position) × OfRegisters made.sides.destination
    unfolding load_plan
    load_ready {w = w} is e =
        let f = two_fit vl w.destination w.address (fit (Load w) is) in
        rw e ((record { most = asked.0; source = f.1; destination = f.0 }, asked.1), λ v. v)

    pub store_ready :
        {w : StoreWord} {made : StorePlan} → word ≡ Store w → made ≡ store_plan vl registers w →
        (SidesReady made.sides × Within made.sides.vl position) × OfRegisters made.sides.source
    unfolding store_plan
    store_ready {w = w} is e =
        let f = two_fit vl w.«data» w.address (fit (Store w) is) in
        rw e ((record { most = asked.0; source = f.0; destination = f.1 }, asked.1), λ v. v)
