-- Why demand 3 has its premise: where a mask register lies among the registers that are written, a cut makes a
-- difference.
use Rattle.std.specs.Prelude.{◌≡◌, List, [], ◌∷◌, ℕ}
use Rattle.walk_pausable.specs.Call.{NextCall, total}
use Rattle.machine.specs.declared.Machine.{Machine}
use Rattle.machine.specs.Run.{system, run}
use Rattle.claims_demands.specs.Premise.{Apart}
use Rattle.claims_demands.specs.Cuts.{Between, nothing, runs}
use Rattle.claims_readings.specs.Machines.{add, most, base, holding, masked, positioned}
use Rattle.claims_readings.specs.Report.{Ends, Runs}

-- B with x7 = 1 and mask register 41 holding 15; entry 2952 is key 5, mask register 41
unfoldable pub mask_written : Machine
mask_written = masked 0x2952 (holding 41 (15 ∷ []) (holding 7 (1 ∷ []) base))

-- after the cut nothing happens, and the rest may be done
abbrev pub rest : List (NextCall Between)
rest = record { change = nothing; allowance = most } ∷ []

pub record WhyThePremise : Type 0 where
  -- uncut: 2, 3, 4, 5
  pub uncut : Runs add most mask_written 0 0 (positioned 4 0 0 (holding 40 (2 ∷ 3 ∷ 4 ∷ 5 ∷ []) mask_written))
  -- the cut is after 2, where register 41 holds 3
  pub first : Runs add 2 mask_written 1 0 (positioned 0 2 2 (holding 40 (2 ∷ 3 ∷ 0 ∷ 0 ∷ []) mask_written))
  -- cut after 2: elements 2 and 3 are off
  pub cut :
      (memory : List ℕ) →
      Ends (runs add 2 rest (system mask_written memory)) 0 0
      (system (positioned 4 0 0 (holding 40 (2 ∷ 3 ∷ 0 ∷ 0 ∷ []) mask_written)) memory)
  -- so the list of calls is not the one call of their sum
  pub differ :
      (memory : List ℕ) →
      runs add 2 rest (system mask_written memory) ≡ run add (total 2 rest) (system mask_written memory) → ⊥
  -- and the premise does not hold
  pub not_apart : Apart add mask_written → ⊥
