-- How a unit of a move, a load or a store comes out, whatever its transfers are.
use Prim.Native.Nat.{ℕ, ◌<◌}
use mathlib.Core.Bool.{false, ◌||◌}
use mathlib.Core.List.{List}
use mathlib.Core.Logic.{inl, inr}
use mathlib.Core.Path.{◌≡◌, refl, sym, ◌∙◌}
use native.Mathlib.Omega.{arith}
use Rattle.bits.proofs.Booleans.{by_cond, or_false}
use Rattle.answers.specs.declared.Answer.{Answer}
use Rattle.walk_pausable.specs.Outcome.{Outcome}
use Rattle.walk_pausable.specs.Walk.{walk}
use Rattle.walk_pausable.proofs.Turn.{walk_same}
use Rattle.walk_operations.specs.declared.position.Fault.{Fault}
use Rattle.walk_operations.specs.declared.position.Position.{Position}
use Rattle.walk_operations.specs.declared.position.Ran.{Ran}
use Rattle.walk_operations.specs.Context.{Context, context, outcome_of, ended, faulted, pausing}
use Rattle.walk_pairs.specs.declared.Side.{Side}
use Rattle.walk_pairs.specs.declared.Pair.{Pair}
use Rattle.walk_pairs.specs.declared.Pair.TheVariants.{Found, Zeroed, End}
use Rattle.walk_pairs.specs.Side.{next, past}
use Rattle.walk_pairs.proofs.Found.{next_in}
use Rattle.walk_transfers.specs.declared.sides.Sides.{Sides}
use Rattle.walk_transfers.specs.SidesReady.{Stands, Within}
use Rattle.walk_transfers.specs.Transfer.{Transferred, moved, refused, Element}
use Rattle.walk_transfers.specs.Transfer.{started, pair_of, after_pair, after_transfer, at_pair, transfer_unit}
use Rattle.walk_transfers.proofs.Standing.{Reached, reached, started_pair}

-- both offsets below VL, and 0 on a side that doesn't walk
pub record Kept (s : Sides) (p : Position) : Type 0 where
  pub within : Within s.vl p
  pub stands : Stands s p

-- both sides where they start
abbrev pub at_start : Sides → Context → Context
at_start s c = context c.registers c.memory (started s c.position)

next_still : (s : Side) (i : ℕ) → (s.walks ≡ false → i ≡ 0) → s.walks ≡ false → next s i ≡ 0
unfolding next
next_still s i still w = rw w (still w)

module _ (s : Sides) (bytes : ℕ) (position : Position) (i j : ℕ) (r : Reached s i j) where
  after_kept : Kept s (after_pair s bytes position i j).position
  unfolding after_pair
  after_kept =
      let one = past s.source s.vl (next s.source i) in
      let two = past s.destination s.vl (next s.destination j) in
      let least : 0 < s.vl = omega (arith, r.i_below) in
      by_cond (λ (x : Ran). Kept s x.position) (s.single || one || two)
      (λ e. record {
        within = record { source = least; destination = least };
        stands = record { source = λ w. refl; destination = λ w. refl };
      })
      (λ e.
      let f = or_false (s.single || one) two e in
      record {
        within = record {
          source = next_in s.source s.vl i r.i_below (or_false s.single one f.0).1;
          destination = next_in s.destination s.vl j r.j_below f.1;
        };
        stands = record {
          source = next_still s.source i r.i_stands;
          destination = next_still s.destination j r.j_stands;
        };
      })

module _ (s : Sides) (bytes : ℕ) (transfer zero : Element) (c : Context) where
  module _ (p : Pair) (said : p ≡ pair_of s c.position) where
    pub unit_end :
        p ≡ End →
        outcome_of (ended bytes c.position) c.registers c.memory ≡ transfer_unit s bytes transfer zero c
    unfolding transfer_unit at_pair
    unit_end e = rw (sym said ∙ e)

    module _ (i j : ℕ) where
      pub unit_found : p ≡ Found i j → after_transfer s bytes c i j (transfer c i j) ≡ transfer_unit s bytes transfer zero c
      unfolding transfer_unit at_pair
      unit_found e = rw (sym said ∙ e)

      pub unit_zeroed : p ≡ Zeroed i j → after_transfer s bytes c i j (zero c i j) ≡ transfer_unit s bytes transfer zero c
      unfolding transfer_unit at_pair
      unit_zeroed e = rw (sym said ∙ e)

  -- whichever it was
  module _ (i j : ℕ) (t : Transferred) (at : after_transfer s bytes c i j t ≡ transfer_unit s bytes transfer zero c) where
    pub unit_moved :
        (registers memory : List ℕ) → t ≡ moved registers memory →
        outcome_of (after_pair s bytes c.position i j) registers memory ≡ transfer_unit s bytes transfer zero c
    unfolding after_transfer
    unit_moved registers memory e = rw e at at

    pub unit_refused :
        (fault : Fault) (address : ℕ) → t ≡ refused fault address →
        outcome_of (faulted fault address c.position i j) c.registers c.memory
        ≡ transfer_unit s bytes transfer zero c
    unfolding after_transfer
    unit_refused fault address e = rw e at at

  -- a unit goes by where both sides start, as transfers go by registers and memory
  unit_started :
      ((i j : ℕ) → transfer (at_start s c) i j ≡ transfer c i j) → ((i j : ℕ) → zero (at_start s c) i j ≡ zero c i j) →
      transfer_unit s bytes transfer zero (at_start s c) ≡ transfer_unit s bytes transfer zero c
  unfolding transfer_unit
  unit_started same same_zero = rw (started_pair s c.position) (by (pair_of s c.position))
    where
      at : (i j : ℕ) (t : Transferred) → after_transfer s bytes (at_start s c) i j t ≡ after_transfer s bytes c i j t
      at i j (moved registers memory) = unfold after_transfer after_pair started in refl
      at i j (refused fault address) = unfold after_transfer started in refl

      by : (p : Pair) → at_pair s bytes transfer zero (at_start s c) p ≡ at_pair s bytes transfer zero c p
      by End = unfold at_pair started in refl
      by (Found i j) = unfold at_pair in rw (same i j) (at i j (transfer c i j))
      by (Zeroed i j) = unfold at_pair in rw (same_zero i j) (at i j (zero c i j))

  -- and so does a walk
  pub walk_started :
      ((i j : ℕ) → transfer (at_start s c) i j ≡ transfer c i j) → ((i j : ℕ) → zero (at_start s c) i j ≡ zero c i j) →
      (n : ℕ) → 0 < n →
      walk pausing (transfer_unit s bytes transfer zero) n (at_start s c)
      ≡ walk pausing (transfer_unit s bytes transfer zero) n c
  walk_started same same_zero n h =
      walk_same pausing (transfer_unit s bytes transfer zero) n _ _ h (unit_started same same_zero)

  -- a unit leaves both offsets below VL and both sides standing, whatever it answers
  pub unit_kept :
      Within s.vl c.position → (o : Outcome Answer Context) → o ≡ transfer_unit s bytes transfer zero c →
      Kept s o.state.position
  unfolding transfer_unit
  unit_kept within o same = rw same (by (pair_of s c.position) refl)
    where
      least : 0 < s.vl
      least = omega (arith, within.source)

      at : (i j : ℕ) → Reached s i j → (t : Transferred) → Kept s (after_transfer s bytes c i j t).state.position
      at i j r (moved registers memory) = unfold after_transfer in after_kept s bytes c.position i j r
      at i j r (refused fault address) = unfold after_transfer in record {
        within = record { source = r.i_below; destination = r.j_below };
        stands = record { source = r.i_stands; destination = r.j_stands };
      }

      by :
          (p : Pair) → pair_of s c.position ≡ p → Kept s (at_pair s bytes transfer zero c p).state.position
      by End e = unfold at_pair in record {
        within = record { source = least; destination = least };
        stands = record { source = λ w. refl; destination = λ w. refl };
      }
      by (Found i j) e = unfold at_pair in at i j (reached s c.position i j within (inl e)) (transfer c i j)
      by (Zeroed i j) e = unfold at_pair in at i j (reached s c.position i j within (inr e)) (zero c i j)
