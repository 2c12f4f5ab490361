-- The bench readings P1 to P12 of 01, one field or a few for each. Every field about a run equates the whole machine
-- and memory, so it says of each register, table entry and byte that isn't named that it stays. After the machine that
-- a call starts from stand the number and the value that it returns.
use Rattle.std.specs.Prelude.{ℕ, zero, suc, ◌≡◌, cond, List, [], ◌∷◌, ◌++◌, length, replicate}
use Rattle.tables.specs.Enabled.{enabled_range, in_range}
use Rattle.memory.specs.LittleEndian.{Bytes, number}
use Rattle.machine.specs.Shape.{fresh_machine}
use Rattle.machine.specs.Setting.{set_state_word}
use Rattle.machine.specs.Reading.{read_state_word}
use Rattle.claims_readings.specs.Report.{Replies, RunsOn, Runs}
use Rattle.claims_readings.specs.Machines.{
  add,
  move,
  load,
  most,
  base,
  stream,
  settings,
  holding,
  positioned,
  nines,
  scalar_destination,
  source_mask,
  destination_mask,
  loading,
  paused,
  full,
  sums,
}

-- the indices below n that a CFG enables, rising
unfoldable pub enabled_below : ℕ → ℕ → List ℕ
enabled_below zero cfg = []
enabled_below (suc n) cfg = enabled_below n cfg ++ cond (in_range (enabled_range cfg) n) (n ∷ []) []

-- every entry that a CFG enables, looked for below 32 and so past the 16 of a table
abbrev pub enabled_entries : ℕ → List ℕ
enabled_entries cfg = enabled_below 32 cfg

-- the number that 8 bytes from an address make
abbrev pub doubleword : List ℕ → ℕ → ℕ
doubleword memory address = number memory address 8

pub record Readings : Type 0 where
  -- B is the machine of the stream before its run
  pub base_set : Replies (settings stream fresh_machine) 0 0 base
  -- 40 to 43 become 11, 12, 13, 14
  pub p1 : Runs add most base 0 0 (positioned 4 0 0 (holding 40 (11 ∷ 12 ∷ 13 ∷ 14 ∷ []) base))
  -- 40 is 11, 42 is 13, 41 and 43 stay 9
  pub p2 :
      Runs add most (nines 0x2906) 0 0
      (positioned 4 0 0 (holding 40 (11 ∷ 9 ∷ 13 ∷ 9 ∷ []) (nines 0x2906)))
  -- with entry 2D06, 41 and 43 are 0
  pub p3 :
      Runs add most (nines 0x2D06) 0 0
      (positioned 4 0 0 (holding 40 (11 ∷ 0 ∷ 13 ∷ 0 ∷ []) (nines 0x2D06)))
  -- allowance 2: paused, offsets 2 and 2, 40 and 41 are 11 and 12, 42 and 43 still 0, program counter 0
  pub p4 : Runs add 2 base 1 0 (positioned 0 2 2 (holding 40 (11 ∷ 12 ∷ 0 ∷ 0 ∷ []) base))
  -- x5 is 13, done
  pub p5 : Runs add most scalar_destination 0 0 (positioned 4 0 0 (holding 5 (13 ∷ []) scalar_destination))
  -- source mask 1010 binary: 40 is 2, 41 is 4
  pub p6 :
      Runs move most (source_mask 0b1010) 0 0
      (positioned 2 0 0 (holding 40 (2 ∷ 4 ∷ 0 ∷ 0 ∷ []) (source_mask 0b1010)))
  -- destination mask 1000: 43 is 1
  pub p7 :
      Runs move most (destination_mask 0b1000) 0 0
      (positioned 2 0 0 (holding 40 (0 ∷ 0 ∷ 0 ∷ 1 ∷ []) (destination_mask 0b1000)))
  -- destination mask 0, allowance 1: done, nothing moved
  pub p8 : Runs move 1 (destination_mask 0) 0 0 (positioned 2 0 0 (destination_mask 0))
  -- memory of 40 bytes, whatever they are: answer 5, address 40, offsets 2 and 2, two elements loaded, the program
  -- counter as it was
  pub p9_short :
      (memory : List ℕ) → length memory ≡ 40 → Bytes memory →
      RunsOn memory load most loading 5 40
      (positioned 0 2 2 (holding 40 (doubleword memory 24 ∷ doubleword memory 32 ∷ []) loading))
  -- with 48 bytes, done
  pub p9_whole :
      (memory : List ℕ) → length memory ≡ 48 → Bytes memory →
      RunsOn memory load most loading 0 0
      (positioned 4 0 0
      (holding 40 (doubleword memory 24 ∷ doubleword memory 32 ∷ doubleword memory 40 ∷ []) loading))
  -- MVL 64, VL 10, offsets 3 and 5, CFG 24 is state word 1814327F hex
  pub p10_read : Replies (read_state_word paused) 0 0x1814327F paused
  pub p10_set : Replies (set_state_word fresh_machine 0x1814327F) 0 0 paused
  -- CFG 9 enables entries 2 to 5, 15 enables 14 and 15, 31 none
  pub p11_9 : enabled_entries 9 ≡ 2 ∷ 3 ∷ 4 ∷ 5 ∷ []
  pub p11_15 : enabled_entries 15 ≡ 14 ∷ 15 ∷ []
  pub p11_31 : enabled_entries 31 ≡ []
  -- vector at 64 with VL 64 is served, at 65 answer 3: first the destination, x5, then a source, x6
  pub p12_served : Runs add most (full 0 0xC085) 0 0 (positioned 4 0 0 (holding 64 sums (full 0 0xC085)))
  pub p12_refused : Runs add most (full 0 0xC185) 3 0 (full 0 0xC185)
  pub p12_source_served :
      Runs add most (full 1 0xC086) 0 0 (positioned 4 0 0 (holding 40 (replicate 64 10) (full 1 0xC086)))
  pub p12_source_refused : Runs add most (full 1 0xC186) 3 0 (full 1 0xC186)
