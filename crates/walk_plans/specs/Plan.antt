-- The plan of a run: operands resolved, and masks read, once.
use Rattle.std.specs.Prelude.{ℕ, Bool, true, not, ◌&&◌, List}
use Rattle.decode.specs.declared.decoded.ResolvedOperand.{ResolvedOperand}
use Rattle.decode.specs.declared.decoded.SecondOperand as word
use Rattle.decode.specs.declared.decoded.SecondOperand.TheVariants as second
use Rattle.decode.specs.declared.decoded.OperationWord.{OperationWord}
use Rattle.decode.specs.declared.decoded.MoveWord.{MoveWord}
use Rattle.decode.specs.declared.decoded.LoadWord.{LoadWord}
use Rattle.decode.specs.declared.decoded.StoreWord.{StoreWord}
use Rattle.walk_operands.specs.Place.{place_of}
use Rattle.walk_operands.specs.Mask.{mask_by}
use Rattle.walk_pairs.specs.declared.Side.{Side}
use Rattle.walk_operations.specs.declared.operation.SecondPlace.{SecondPlace}
use Rattle.walk_operations.specs.declared.operation.SecondPlace.TheVariants.{Register, Immediate}
use Rattle.walk_operations.specs.declared.operation.OperationPlan.{OperationPlan}
use Rattle.walk_transfers.specs.declared.sides.Sides.{Sides}
use Rattle.walk_accesses.specs.declared.loading.LoadPlan.{LoadPlan}
use Rattle.walk_accesses.specs.declared.storing.StorePlan.{StorePlan}

abbrev pub is_vector : ResolvedOperand → Bool
is_vector n = (place_of n).vector

abbrev pub second_plan : word.SecondOperand → SecondPlace
second_plan (second.Register n) = Register (place_of n)
second_plan (second.Immediate value) = Immediate value

-- the registers when the call starts
module _ (registers : List ℕ) where
  abbrev pub side_of : Bool → ResolvedOperand → Side
  side_of walks n = record { place = place_of n; walks = walks; mask = mask_by registers n.predicate }

  -- A vector side walks; an address side walks always.
  abbrev pub value_side : ResolvedOperand → Side
  value_side n = side_of (is_vector n) n

  abbrev pub address_side : ResolvedOperand → Side
  address_side n = side_of true n

module _ (vl : ℕ) (registers : List ℕ) where
  -- only the destination's mask counts
  unfoldable pub operation_plan : OperationWord → OperationPlan
  operation_plan w = record {
    vl = vl;
    operator = w.operator;
    destination = place_of w.destination;
    mask = mask_by registers w.destination.predicate;
    first = place_of w.first;
    second = second_plan w.second;
  }

  -- one element if the destination of a move or load is scalar, or both sides of a store are scalar
  unfoldable pub move_plan : MoveWord → Sides
  move_plan w = record {
    vl = vl;
    source = value_side registers w.source;
    destination = value_side registers w.destination;
    single = not (is_vector w.destination);
  }

  unfoldable pub load_plan : LoadWord → LoadPlan
  load_plan w = record {
    sides = record {
      vl = vl;
      source = address_side registers w.address;
      destination = value_side registers w.destination;
      single = not (is_vector w.destination);
    };
    offset = w.offset;
    width = w.width;
    signed = w.signed;
  }

  unfoldable pub store_plan : StoreWord → StorePlan
  store_plan w = record {
    sides = record {
      vl = vl;
      source = value_side registers w.«data»;
      destination = address_side registers w.address;
      single = not (is_vector w.«data») && not (is_vector w.address);
    };
    offset = w.offset;
    width = w.width;
  }
