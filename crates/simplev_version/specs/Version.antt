-- The version of the interface as one number.
use Rattle.std.specs.Prelude.{ℕ, ◌+◌, ◌*◌}

-- a byte for minor and for patch, so that a later version is a larger number
abbrev pub numbered : ℕ → ℕ → ℕ → ℕ
numbered major minor patch = major * 65536 + minor * 256 + patch

-- 2.0.0
abbrev pub version : ℕ
version = numbered 2 0 0
