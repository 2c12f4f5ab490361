-- The words that the bench readings run, and the machines that they run on.
use Rattle.std.specs.Prelude.{ℕ, ◌+◌, List, [], ◌∷◌, ◌++◌, set, replicate}
use Rattle.machine.specs.declared.Machine.{Machine}
use Rattle.machine.specs.declared.Reply.{Reply}
use Rattle.machine.specs.Calls.{done}
use Rattle.machine.specs.Shape.{fresh_machine}
use Rattle.machine.specs.Update.{with_registers, with_pc, with_state, with_register_table, with_predicate_table}
use Rattle.state_word.specs.State.{with_offsets}
use Rattle.claims_calls.specs.Setting as call
use Rattle.claims_calls.specs.Setting.{Setting}
use Rattle.claims_calls.specs.Copy.{after}

-- ADD x5, x6, x7
abbrev pub add : ℕ
add = 0x007302B3

-- C.MV x5, x6
abbrev pub move : ℕ
move = 0x829A

-- LD x5, 8(x6)
abbrev pub load : ℕ
load = 0x00833283

-- the largest allowance
abbrev pub most : ℕ
most = 65535

-- some values put into registers from r on
unfoldable pub put_from : ℕ → List ℕ → List ℕ → List ℕ
put_from r [] registers = registers
put_from r (value ∷ values) registers = put_from (r + 1) values (set registers r value)

-- Base B: MVL 4, VL 4, CFG 24; key 5 is the vector at 40, key 6 the vector at 50; x7 is 10, and 50 to 53 are 1 to 4.
unfoldable pub base : Machine
base = record {
  registers = put_from 50 (1 ∷ 2 ∷ 3 ∷ 4 ∷ []) (put_from 7 (10 ∷ []) (replicate 128 0));
  pc = 0;
  state = record { mvl = 4; vl = 4; cfg = 24; source = 0; destination = 0 };
  register_table = 0xA885 ∷ 0xB286 ∷ replicate 14 0;
  predicate_table = replicate 16 0;
}

-- the records of the runner's stream before its run
abbrev pub stream : List Setting
stream =
    call.state_word 0x180000C3
    ∷ call.register_entry 0 0xA885
    ∷ call.register_entry 1 0xB286
    ∷ call.register 7 10
    ∷ call.register 50 1
    ∷ call.register 51 2
    ∷ call.register 52 3
    ∷ call.register 53 4
    ∷ []

-- one setting after another; the first that is refused is the last
unfoldable pub settings : List Setting → Machine → Reply
settings [] m = done m 0
settings (s ∷ ss) m = after (call.set m s) (settings ss)

-- registers from r on hold these values
unfoldable pub holding : ℕ → List ℕ → Machine → Machine
holding r values m = with_registers m (put_from r values m.registers)

-- a register entry, and predicate entry 0
unfoldable pub tagged : ℕ → ℕ → Machine → Machine
tagged i entry m = with_register_table m (set m.register_table i entry)

unfoldable pub masked : ℕ → Machine → Machine
masked entry m = with_predicate_table m (set m.predicate_table 0 entry)

-- MVL and VL
unfoldable pub with_lengths : ℕ → ℕ → Machine → Machine
with_lengths mvl vl m = with_state m (record { mvl = mvl; vl = vl; cfg = 24; source = 0; destination = 0 })

-- program counter, source offset and destination offset
unfoldable pub positioned : ℕ → ℕ → ℕ → Machine → Machine
positioned pc source destination m = with_state (with_pc m pc) (with_offsets m.state source destination)

-- P2 and P3: 41 and 43 hold 9, and x3, the mask by the given entry for key 5, is 5: positions 0 and 2 are on.
unfoldable pub nines : ℕ → Machine
nines entry = masked entry (holding 3 (5 ∷ []) (holding 40 (0 ∷ 9 ∷ 0 ∷ 9 ∷ []) base))

-- P5: x5 untagged, entry 2906 and x3 = 4: only position 2 is on.
unfoldable pub scalar_destination : Machine
scalar_destination = tagged 0 0 (masked 0x2906 (holding 3 (4 ∷ []) base))

-- P6: entry 3106 is key 6, mask x3.
unfoldable pub source_mask : ℕ → Machine
source_mask mask = masked 0x3106 (holding 3 (mask ∷ []) base)

-- P7 and P8: entry 2906 is key 5, mask x3.
unfoldable pub destination_mask : ℕ → Machine
destination_mask mask = masked 0x2906 (holding 3 (mask ∷ []) base)

-- P9: x6 untagged and 16, VL 3.
unfoldable pub loading : Machine
loading = tagged 1 0 (holding 6 (16 ∷ []) (with_lengths 4 3 base))

-- MVL 64, VL 10, offsets 3 and 5, CFG 24
abbrev pub paused : Machine
paused = with_state fresh_machine (record { mvl = 64; vl = 10; cfg = 24; source = 3; destination = 5 })

-- P12: MVL 64, VL 64, and a register entry in place of one of B's. Entries C085 and C185 are key 5 and the vectors at
-- 64 and 65; C086 and C186 the same with key 6.
unfoldable pub full : ℕ → ℕ → Machine
full i entry = tagged i entry (with_lengths 64 64 base)

-- What ADD leaves in 64 to 127 with x5 there and x6 at 50: each holds 10 more than the register 14 below it.
unfoldable pub sums : List ℕ
sums =
    (11 ∷ 12 ∷ 13 ∷ 14 ∷ replicate 10 10)
    ++ (21 ∷ 22 ∷ 23 ∷ 24 ∷ replicate 10 20)
    ++ (31 ∷ 32 ∷ 33 ∷ 34 ∷ replicate 10 30)
    ++ (41 ∷ 42 ∷ 43 ∷ 44 ∷ replicate 10 40)
    ++ (51 ∷ 52 ∷ 53 ∷ 54 ∷ replicate 4 50)
