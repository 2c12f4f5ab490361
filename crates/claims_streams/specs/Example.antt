-- The runner's example, and streams that end badly.
use Rattle.std.specs.Prelude.{ℕ, ◌≡◌, List, [], ◌∷◌, false}
use Rattle.stream_feed.specs.Stream.{fed, fresh_stream, output}
use Rattle.claims_streams.specs.Pieces.{output_of}
use Rattle.claims_streams.specs.ByRecord.{between}

-- 03 C3000018, 01 00 85A8, 01 01 86B2, 04 07 .., 04 32 .. to 04 35 .., 05 B3027300 FFFF
unfoldable pub example_bytes : List ℕ
example_bytes =
    0x03 ∷ 0xC3 ∷ 0x00 ∷ 0x00 ∷ 0x18
    ∷ 0x01 ∷ 0x00 ∷ 0x85 ∷ 0xA8
    ∷ 0x01 ∷ 0x01 ∷ 0x86 ∷ 0xB2
    ∷ 0x04 ∷ 0x07 ∷ 0x0A ∷ 0x00 ∷ 0x00 ∷ 0x00 ∷ 0x00 ∷ 0x00 ∷ 0x00 ∷ 0x00
    ∷ 0x04 ∷ 0x32 ∷ 0x01 ∷ 0x00 ∷ 0x00 ∷ 0x00 ∷ 0x00 ∷ 0x00 ∷ 0x00 ∷ 0x00
    ∷ 0x04 ∷ 0x33 ∷ 0x02 ∷ 0x00 ∷ 0x00 ∷ 0x00 ∷ 0x00 ∷ 0x00 ∷ 0x00 ∷ 0x00
    ∷ 0x04 ∷ 0x34 ∷ 0x03 ∷ 0x00 ∷ 0x00 ∷ 0x00 ∷ 0x00 ∷ 0x00 ∷ 0x00 ∷ 0x00
    ∷ 0x04 ∷ 0x35 ∷ 0x04 ∷ 0x00 ∷ 0x00 ∷ 0x00 ∷ 0x00 ∷ 0x00 ∷ 0x00 ∷ 0x00
    ∷ 0x05 ∷ 0xB3 ∷ 0x02 ∷ 0x73 ∷ 0x00 ∷ 0xFF ∷ 0xFF
    ∷ []

-- "0 4 0 0", then x7 10, x40 11 to x43 14, x50 1 to x53 4, a line each
unfoldable pub example_text : List ℕ
example_text =
    48 ∷ 32 ∷ 52 ∷ 32 ∷ 48 ∷ 32 ∷ 48 ∷ 10
    ∷ 120 ∷ 55 ∷ 32 ∷ 49 ∷ 48 ∷ 10
    ∷ 120 ∷ 52 ∷ 48 ∷ 32 ∷ 49 ∷ 49 ∷ 10
    ∷ 120 ∷ 52 ∷ 49 ∷ 32 ∷ 49 ∷ 50 ∷ 10
    ∷ 120 ∷ 52 ∷ 50 ∷ 32 ∷ 49 ∷ 51 ∷ 10
    ∷ 120 ∷ 52 ∷ 51 ∷ 32 ∷ 49 ∷ 52 ∷ 10
    ∷ 120 ∷ 53 ∷ 48 ∷ 32 ∷ 49 ∷ 10
    ∷ 120 ∷ 53 ∷ 49 ∷ 32 ∷ 50 ∷ 10
    ∷ 120 ∷ 53 ∷ 50 ∷ 32 ∷ 51 ∷ 10
    ∷ 120 ∷ 53 ∷ 51 ∷ 32 ∷ 52 ∷ 10
    ∷ []

-- "bad record at 0"
abbrev pub bad_at0 : List ℕ
bad_at0 = 98 ∷ 97 ∷ 100 ∷ 32 ∷ 114 ∷ 101 ∷ 99 ∷ 111 ∷ 114 ∷ 100 ∷ 32 ∷ 97 ∷ 116 ∷ 32 ∷ 48 ∷ 10 ∷ []

-- "bad record at 10", "x1 7"
abbrev pub bad_at10 : List ℕ
bad_at10 =
    98 ∷ 97 ∷ 100 ∷ 32 ∷ 114 ∷ 101 ∷ 99 ∷ 111 ∷ 114 ∷ 100 ∷ 32 ∷ 97 ∷ 116 ∷ 32 ∷ 49 ∷ 48 ∷ 10
    ∷ 120 ∷ 49 ∷ 32 ∷ 55 ∷ 10
    ∷ []

-- "refused 5"
abbrev pub refused5 : List ℕ
refused5 = 114 ∷ 101 ∷ 102 ∷ 117 ∷ 115 ∷ 101 ∷ 100 ∷ 32 ∷ 53 ∷ 10 ∷ []

-- "refused 8"
abbrev pub refused8 : List ℕ
refused8 = 114 ∷ 101 ∷ 102 ∷ 117 ∷ 115 ∷ 101 ∷ 100 ∷ 32 ∷ 56 ∷ 10 ∷ []

-- x1 = 7
abbrev pub set_x1 : List ℕ → List ℕ
set_x1 rest = 0x04 ∷ 0x01 ∷ 0x07 ∷ 0 ∷ 0 ∷ 0 ∷ 0 ∷ 0 ∷ 0 ∷ 0 ∷ rest

-- run x5, x6, x7 added, allowed 65,535
abbrev pub run_add : List ℕ
run_add = 0x05 ∷ 0xB3 ∷ 0x02 ∷ 0x73 ∷ 0x00 ∷ 0xFF ∷ 0xFF ∷ []

-- the output of a stream in which run records are not served
abbrev pub output_without_runs : List ℕ → List ℕ
output_without_runs bytes = output_of (fed (between false 0 fresh_stream.system) bytes)

pub record Outputs : Type 0 where
  pub example : output example_bytes ≡ example_text
  pub empty : output [] ≡ []
  -- an unknown kind, first and after a record; what follows it is not read
  pub unknown_first : output (0x00 ∷ 0x04 ∷ []) ≡ bad_at0
  pub unknown_later : output (set_x1 (0x7F ∷ set_x1 [])) ≡ bad_at10
  -- a record cut after its kind, and before its last byte
  pub cut_first : output (0x05 ∷ []) ≡ bad_at0
  pub cut_later : output (set_x1 (0x03 ∷ 0xC3 ∷ 0x00 ∷ 0x00 ∷ [])) ≡ bad_at10
  -- register entry 16; a memory record at 4,089
  pub no_entry : output (0x01 ∷ 0x10 ∷ 0x00 ∷ 0x00 ∷ []) ≡ refused8
  pub outside : output (0x06 ∷ 0xF9 ∷ 0x0F ∷ 1 ∷ 0 ∷ 0 ∷ 0 ∷ 0 ∷ 0 ∷ 0 ∷ 0 ∷ []) ≡ refused5
  -- where they are not served, a run record is bad, whole and cut
  pub run_not_served : output_without_runs (set_x1 run_add) ≡ bad_at10
  pub cut_run_not_served : output_without_runs (set_x1 (0x05 ∷ [])) ≡ bad_at10
