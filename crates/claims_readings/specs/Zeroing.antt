-- Readings of zeroing on moves, loads and stores: a table, of which every row holds.
use Rattle.std.specs.Prelude.{ℕ, List, [], ◌∷◌, ◌++◌, replicate}
use Rattle.walk_pausable.specs.Call.{NextCall}
use Rattle.machine.specs.declared.Machine.{Machine}
use Rattle.machine.specs.Run.{system}
use Rattle.machine.specs.Update.{with_predicate_table}
use Rattle.claims_demands.specs.Cuts.{Between, nothing, runs}
use Rattle.claims_readings.specs.Machines.{move, load, most, base, holding, tagged, with_lengths, positioned}
use Rattle.claims_readings.specs.Report.{Ends}

-- SD x5, 8(x6)
abbrev pub store : ℕ
store = 0x00533423

-- A word runs by calls of these allowances, each after the first made only where the last one paused, on a machine with
-- a memory. The number and the value of the last answer, the machine and the memory follow.
pub data Reading : Type 0 where
  reading : ℕ → ℕ → List ℕ → Machine → List ℕ → ℕ → ℕ → Machine → List ℕ → Reading

abbrev pub further : List ℕ → List (NextCall Between)
further [] = []
further (n ∷ ns) = record { change = nothing; allowance = n } ∷ further ns

abbrev pub Holds : Reading → Type 0
Holds (reading word n ns machine memory number value left after) =
    Ends (runs word n (further ns) (system machine memory)) number value (system left after)

abbrev pub Hold : List Reading → Type 0
Hold [] = Unit {0}
Hold (r ∷ rs) = Holds r × Hold rs

-- B with 9 in 40 to 43, two predicate entries, and their masks in x3 and x4. Entries 2D06 and 3508 are keys 5 and 6 with
-- zeroing and masks x3 and x4; 3108 is 3508 without zeroing.
unfoldable pub masks : ℕ → ℕ → ℕ → ℕ → Machine
masks first second x3 x4 =
    with_predicate_table (holding 40 (9 ∷ 9 ∷ 9 ∷ 9 ∷ []) (holding 3 (x3 ∷ x4 ∷ []) base))
    (first ∷ second ∷ replicate 14 0)

-- the same with VL 2 and x6 an untagged address
unfoldable pub accesses : ℕ → ℕ → ℕ → ℕ → ℕ → Machine
accesses first second x3 x4 x6 = tagged 1 0 (holding 6 (x6 ∷ []) (with_lengths 4 2 (masks first second x3 x4)))

-- and x5 untagged too
unfoldable pub scalars : ℕ → ℕ → ℕ → ℕ → Machine
scalars first second x3 x4 = tagged 0 0 (accesses first second x3 x4 16)

abbrev pub bytes : List ℕ
bytes = replicate 40 255

abbrev pub zeroing_table : List Reading
zeroing_table =
    -- C.MV, destination mask 0101: 1, 0, 3, 0
    reading move most [] (masks 0x2D06 0 0b0101 0) [] 0 0
    (positioned 2 0 0 (holding 40 (1 ∷ 0 ∷ 3 ∷ 0 ∷ []) (masks 0x2D06 0 0b0101 0))) []
    -- source mask 1010: 0, 2, 0, 4
    ∷ reading move most [] (masks 0x3508 0 0 0b1010) [] 0 0
    (positioned 2 0 0 (holding 40 (0 ∷ 2 ∷ 0 ∷ 4 ∷ []) (masks 0x3508 0 0 0b1010))) []
    -- both, destination 0101 and source 0011
    ∷ reading move most [] (masks 0x2D06 0x3508 0b0101 0b0011) [] 0 0
    (positioned 2 0 0 (holding 40 (1 ∷ 0 ∷ 0 ∷ 0 ∷ []) (masks 0x2D06 0x3508 0b0101 0b0011))) []
    -- the source mask without zeroing runs out first: position 1 is off on both sides, and 41 stays
    ∷ reading move most [] (masks 0x2D06 0x3108 0b0001 0b0001) [] 0 0
    (positioned 2 0 0 (holding 40 (1 ∷ []) (masks 0x2D06 0x3108 0b0001 0b0001))) []
    -- LD, every destination position off, no memory: done, zeros
    ∷ reading load most [] (accesses 0x2D06 0 0 0 16) [] 0 0
    (positioned 4 0 0 (holding 40 (0 ∷ 0 ∷ []) (accesses 0x2D06 0 0 0 16))) []
    -- every position of the address off, at an address that no access may have
    ∷ reading load most [] (accesses 0x3508 0 0 0 17) [] 0 0
    (positioned 4 0 0 (holding 40 (0 ∷ 0 ∷ []) (accesses 0x3508 0 0 0 17))) []
    -- SD, every destination position off, no memory: 5 at address 24, nothing changed
    ∷ reading store most [] (accesses 0x3508 0 0 0 16) [] 5 24 (accesses 0x3508 0 0 0 16) []
    -- every position of the data off: the same
    ∷ reading store most [] (accesses 0x2D06 0 0 0 16) [] 5 24 (accesses 0x2D06 0 0 0 16) []
    -- at an address that isn't divisible by 8: 9
    ∷ reading store most [] (accesses 0x3508 0 0 0 17) bytes 9 25 (accesses 0x3508 0 0 0 17) bytes
    -- with memory, zero bytes of the access width; with less, up to the element that fails
    ∷ reading store most [] (accesses 0x3508 0 0 0 16) bytes 0 0 (positioned 4 0 0 (accesses 0x3508 0 0 0 16))
    (replicate 24 255 ++ replicate 16 0)
    ∷ reading store most [] (accesses 0x2D06 0 0 0 16) (replicate 39 255) 5 32
    (positioned 0 1 1 (accesses 0x2D06 0 0 0 16)) (replicate 24 255 ++ replicate 8 0 ++ replicate 7 255)
    -- a load into a scalar ends on a zero: x5 is 0
    ∷ reading load most [] (scalars 0x3508 0 0 0b10) [] 0 0 (positioned 4 0 0 (holding 5 (0 ∷ []) (scalars 0x3508 0 0 0b10)))
    []
    -- and so does a store with both sides scalar: one element of zeros
    ∷ reading store most [] (scalars 0x3508 0 0 0b10) bytes 0 0 (positioned 4 0 0 (scalars 0x3508 0 0 0b10))
    (replicate 24 255 ++ replicate 8 0 ++ replicate 8 255)
    -- a scalar source doesn't walk, and its zeroing does nothing: x6, which is 7, is moved
    ∷ reading move most [] (tagged 1 0 (holding 6 (7 ∷ []) (masks 0x3508 0 0 0))) [] 0 0
    (positioned 2 0 0
    (holding 40 (7 ∷ 7 ∷ 7 ∷ 7 ∷ []) (tagged 1 0 (holding 6 (7 ∷ []) (masks 0x3508 0 0 0))))) []
    -- a paused run, cut in each place
    ∷ reading move 1 [] (masks 0x2D06 0x3508 0b0101 0b0110) [] 1 0
    (positioned 0 1 1 (holding 40 (0 ∷ []) (masks 0x2D06 0x3508 0b0101 0b0110))) []
    ∷ reading move 2 [] (masks 0x2D06 0x3508 0b0101 0b0110) [] 1 0
    (positioned 0 2 2 (holding 40 (0 ∷ 0 ∷ []) (masks 0x2D06 0x3508 0b0101 0b0110))) []
    ∷ reading move 3 [] (masks 0x2D06 0x3508 0b0101 0b0110) [] 1 0
    (positioned 0 3 3 (holding 40 (0 ∷ 0 ∷ 3 ∷ []) (masks 0x2D06 0x3508 0b0101 0b0110))) []
    ∷ reading move 1 (3 ∷ []) (masks 0x2D06 0x3508 0b0101 0b0110) [] 0 0
    (positioned 2 0 0 (holding 40 (0 ∷ 0 ∷ 3 ∷ 0 ∷ []) (masks 0x2D06 0x3508 0b0101 0b0110))) []
    ∷ reading move 2 (2 ∷ []) (masks 0x2D06 0x3508 0b0101 0b0110) [] 0 0
    (positioned 2 0 0 (holding 40 (0 ∷ 0 ∷ 3 ∷ 0 ∷ []) (masks 0x2D06 0x3508 0b0101 0b0110))) []
    ∷ reading move 3 (1 ∷ []) (masks 0x2D06 0x3508 0b0101 0b0110) [] 0 0
    (positioned 2 0 0 (holding 40 (0 ∷ 0 ∷ 3 ∷ 0 ∷ []) (masks 0x2D06 0x3508 0b0101 0b0110))) []
    ∷ reading move 1 (1 ∷ 1 ∷ 1 ∷ []) (masks 0x2D06 0x3508 0b0101 0b0110) [] 0 0
    (positioned 2 0 0 (holding 40 (0 ∷ 0 ∷ 3 ∷ 0 ∷ []) (masks 0x2D06 0x3508 0b0101 0b0110))) []
    ∷ []

abbrev pub ZeroingReadings : Type 0
ZeroingReadings = Hold zeroing_table
