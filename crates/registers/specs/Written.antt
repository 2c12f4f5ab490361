-- A write to a register.
use Rattle.std.specs.Prelude.{ℕ, cond, ◌&&◌, List, leb, ltb, set}

-- Register 0 is always 0: writes to it vanish. There is none above 127.
unfoldable pub written : List ℕ → ℕ → ℕ → List ℕ
written registers i value = cond (leb 1 i && ltb i 128) (set registers i value) registers
