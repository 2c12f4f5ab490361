-- The same of a unit of a move, a load or a store.
use Prim.Native.Nat.{ℕ, ◌<◌}
use mathlib.Core.Path.{◌≡◌, refl}
use mathlib.Core.Logic.{inl, inr}
use mathlib.Core.Bool.{◌||◌}
use mathlib.Core.List.{List}
use Rattle.bits.proofs.Booleans.{by_cond}
use Rattle.walk_pairs.specs.declared.Pair.{Pair}
use Rattle.walk_pairs.specs.declared.Pair.TheVariants.{Found, Zeroed, End}
use Rattle.walk_pairs.specs.Side.{next, past}
use Rattle.walk_operations.specs.declared.position.Position.{Position}
use Rattle.walk_operations.specs.Context.{Context}
use Rattle.walk_transfers.specs.declared.sides.Sides.{Sides}
use Rattle.walk_transfers.specs.SidesReady.{Within}
use Rattle.walk_transfers.specs.Transfer.{Transferred, moved, refused, Element}
use Rattle.walk_transfers.specs.Transfer.{pair_of, after_pair, after_transfer, at_pair, transfer_unit}
use Rattle.walk_transfers.proofs.Standing.{reached}
use Rattle.claims_demands.proofs.RegistersKept.{RegistersKept, unwritten}
use Rattle.claims_demands.proofs.Units.{RanSound, UnitSound, paused_walked, ended_sound, faulted_sound}

module _ (s : Sides) (bytes : ℕ) (position : Position) (i j : ℕ) where
  after_pair_sound : RanSound (after_pair s bytes position i j)
  unfolding after_pair
  after_pair_sound =
      by_cond RanSound
      (s.single || past s.source s.vl (next s.source i)
      || past s.destination s.vl (next s.destination j)) (λ e. ended_sound position bytes)
      (λ e. paused_walked)

-- what a transfer may leave of the registers
abbrev pub TransferKept : (ℕ → Type 0) → List ℕ → Transferred → Type 0
TransferKept Writes registers (moved after memory) = RegistersKept Writes registers after
TransferKept Writes registers (refused fault address) = Unit {0}

module _ (s : Sides) (bytes : ℕ) (Writes : ℕ → Type 0) (c : Context) (w : Within s.vl c.position) where
  after_transfer_sound :
      (i j : ℕ) (t : Transferred) → TransferKept Writes c.registers t →
      UnitSound Writes c.registers (after_transfer s bytes c i j t)
  unfolding after_transfer
  after_transfer_sound i j (moved after memory) r =
      record { answer = after_pair_sound s bytes c.position i j; kept = r }
  after_transfer_sound i j (refused fault address) r =
      record { answer = faulted_sound c.position fault address i j; kept = unwritten c.registers }

  pub transfer_sound :
      (transfer zero : Element) →
      ((i j : ℕ) → i < s.vl → j < s.vl → TransferKept Writes c.registers (transfer c i j)) →
      ((i j : ℕ) → i < s.vl → j < s.vl → TransferKept Writes c.registers (zero c i j)) →
      UnitSound Writes c.registers (transfer_unit s bytes transfer zero c)
  unfolding transfer_unit
  transfer_sound transfer zero kept kept-zero = by (pair_of s c.position) refl
    where
      by :
          (q : Pair) → pair_of s c.position ≡ q →
          UnitSound Writes c.registers (at_pair s bytes transfer zero c q)
      by End e = unfold at_pair in
          record { answer = ended_sound c.position bytes; kept = unwritten c.registers }
      by (Found i j) e = unfold at_pair in
          let r = reached s c.position i j w (inl e) in
          after_transfer_sound i j (transfer c i j) (kept i j r.i_below r.j_below)
      by (Zeroed i j) e = unfold at_pair in
          let r = reached s c.position i j w (inr e) in
          after_transfer_sound i j (zero c i j) (kept-zero i j r.i_below r.j_below)
