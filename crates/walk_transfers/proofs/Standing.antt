-- Where both sides stand: below VL, and at 0 if they don't walk.
use Prim.Native.Nat.{ℕ, ◌<◌}
use mathlib.Core.Bool.{Bool, true, false, cond}
use mathlib.Core.Logic.{◌⊎◌, inl, inr}
use mathlib.Core.Path.{◌≡◌, refl, sym, ◌∙◌}
use Rattle.walk_operands.specs.Mask.{is_on}
use Rattle.walk_operands.specs.Place.{register_at}
use Rattle.walk_operands.proofs.Fits.{fits_at}
use Rattle.walk_pairs.specs.declared.Side.{Side}
use Rattle.walk_pairs.specs.declared.Pair.TheVariants.{Found}
use Rattle.walk_pairs.specs.Side.{start}
use Rattle.walk_pairs.specs.Pair.{pair_from, Meets}
use Rattle.walk_pairs.proofs.Skipping.{rests_on, both_rest}
use Rattle.walk_pairs.proofs.Found.{pair_in, pair_rest, rests_start, start_in}
use Rattle.walk_operations.specs.declared.position.Position.{Position}
use Rattle.walk_transfers.specs.declared.sides.Sides.{Sides}
use Rattle.walk_transfers.specs.SidesReady.{SidesReady, OfRegisters, Stands, Within}
use Rattle.walk_transfers.specs.Transfer.{started, pair_of}

start_still : (s : Side) (offset : ℕ) → s.walks ≡ false → start s offset ≡ 0
unfolding start
start_still s offset w = rw w

-- what is known of the pair that a unit works at
pub record Reached (s : Sides) (i j : ℕ) : Type 0 where
  pub i_below : i < s.vl
  pub j_below : j < s.vl
  pub i_stands : s.source.walks ≡ false → i ≡ 0
  pub j_stands : s.destination.walks ≡ false → j ≡ 0

pub reached :
    (s : Sides) (position : Position) (i j : ℕ) → Within s.vl position → Meets (pair_of s position) i j →
    Reached s i j
unfolding pair_of started
reached s position i j within met =
    let one = start_in s.source s.vl _ within.source in
    let two = start_in s.destination s.vl _ within.destination in
    let below = pair_in s.source s.destination s.vl _ _ i j one two met in
    let rest = pair_rest s.source s.destination s.vl _ _ i j met in
    record {
      i_below = below.0;
      j_below = below.1;
      i_stands = λ w. rests_start rest.source w ∙ start_still s.source _ w;
      j_stands = λ w. rests_start rest.destination w ∙ start_still s.destination _ w;
    }

-- the positions of a side of registers: 0, or any of a vector
pub of_registers :
    (s : Side) (i : ℕ) → OfRegisters s → (s.walks ≡ false → i ≡ 0) → (i ≡ 0) ⊎ (s.place.vector ≡ true)
of_registers s i of still = by s.walks refl
  where
    by : (t : Bool) → s.walks ≡ t → (i ≡ 0) ⊎ (s.place.vector ≡ true)
    by true w = inr (of w)
    by false w = inl (still w)

-- a side that stands is where it starts
stands_start : (s : Side) (offset : ℕ) → (s.walks ≡ false → offset ≡ 0) → start s offset ≡ offset
unfolding start
stands_start s offset still = by s.walks refl
  where
    by : (t : Bool) → s.walks ≡ t → cond t offset 0 ≡ offset
    by true w = refl
    by false w = sym (still w)

pub stands_pair :
    (s : Sides) (p : Position) → Stands s p →
    pair_from s.source s.destination s.vl p.source p.destination ≡ pair_of s p
unfolding pair_of started
stands_pair s p stands =
    rw (
      stands_start s.source p.source stands.source,
      stands_start s.destination p.destination stands.destination,
    )

module _ (s : Sides) (p : Position) where
  -- both sides stand where they start
  pub started_stands : Stands s (started s p)
  unfolding started
  started_stands =
      record { source = start_still s.source p.source; destination = start_still s.destination p.destination }

  pub started_within : Within s.vl p → Within s.vl (started s p)
  unfolding started
  started_within within = record {
    source = start_in s.source s.vl p.source within.source;
    destination = start_in s.destination s.vl p.destination within.destination;
  }

  pub started_pair : pair_of s (started s p) ≡ pair_of s p
  unfolding pair_of
  started_pair = sym (stands_pair s (started s p) started_stands)

-- a pair at which both sides are on is found at once
pub on_pair :
    (s : Sides) (p : Position) → Within s.vl p → Stands s p → is_on s.source.mask p.source ≡ true →
    is_on s.destination.mask p.destination ≡ true → Found p.source p.destination ≡ pair_of s p
on_pair s p within stands one two =
    both_rest s.source s.destination s.vl _ _ _ _ false false
    (rests_on s.source s.vl _ within.source one)
    (rests_on s.destination s.vl _ within.destination two)
    ∙ stands_pair s p stands

-- the registers of a pair that is reached: each side's exists
module _ {s : Sides} {i j : ℕ} (ready : SidesReady s) (r : Reached s i j) where
  pub source_register :
      OfRegisters s.source → (register_at s.source.place i < 128) × (i ≡ 0 ⊎ s.source.place.vector ≡ true)
  source_register of = (fits_at _ _ _ r.i_below ready.source, of_registers s.source _ of r.i_stands)

  pub destination_register :
      OfRegisters s.destination →
      (register_at s.destination.place j < 128) × (j ≡ 0 ⊎ s.destination.place.vector ≡ true)
  destination_register of = (fits_at _ _ _ r.j_below ready.destination, of_registers s.destination _ of r.j_stands)

-- also that of a position where both sides stand
pub standing : {s : Sides} {p : Position} → Within s.vl p → Stands s p → Reached s p.source p.destination
standing within stands = record {
  i_below = within.source;
  j_below = within.destination;
  i_stands = stands.source;
  j_stands = stands.destination;
}
