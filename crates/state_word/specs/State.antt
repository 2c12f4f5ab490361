-- The five fields of the state word, and the word itself.
use Rattle.std.specs.Prelude.{ℕ, ◌+◌, ◌-◌, min, Bool, ◌&&◌, eqb, leb, ltb}
use Rattle.state_word.specs.declared.State.{State}
use Rattle.bits.specs.Bits.{bits, in_bits}

-- MVL 1 to 64
abbrev pub mvl_in_range : ℕ → Bool
mvl_in_range n = leb 1 n && leb n 64

-- CFG 0 to 31
abbrev pub cfg_in_range : ℕ → Bool
cfg_in_range n = leb n 31

-- and VL 1 to MVL, source and destination offset each below VL
unfoldable pub state_in_shape : State → Bool
state_in_shape s =
    mvl_in_range s.mvl && leb 1 s.vl && leb s.vl s.mvl && cfg_in_range s.cfg && ltb s.source s.vl
    && ltb s.destination s.vl

-- VL becomes min(n, MVL), and both offsets 0
abbrev pub with_vl : State → ℕ → State
with_vl s n = record { mvl = s.mvl; vl = min n s.mvl; cfg = s.cfg; source = 0; destination = 0 }

-- MVL becomes n, VL min(VL, MVL), and both offsets 0
abbrev pub with_mvl : State → ℕ → State
with_mvl s n = record { mvl = n; vl = min s.vl n; cfg = s.cfg; source = 0; destination = 0 }

abbrev pub with_cfg : State → ℕ → State
with_cfg s n = record { mvl = s.mvl; vl = s.vl; cfg = n; source = s.source; destination = s.destination }

-- the offsets as given
abbrev pub with_offsets : State → ℕ → ℕ → State
with_offsets s source destination =
    record { mvl = s.mvl; vl = s.vl; cfg = s.cfg; source = source; destination = destination }

-- bits 5..0 MVL - 1, 11..6 VL - 1, 17..12 source offset, 23..18 destination offset, 28..24 CFG
unfoldable pub of_word : ℕ → State
of_word word = record {
  mvl = bits 5 0 word + 1;
  vl = bits 11 6 word + 1;
  cfg = bits 28 24 word;
  source = bits 17 12 word;
  destination = bits 23 18 word;
}

unfoldable pub word_of : State → ℕ
word_of s =
    in_bits 5 0 (s.mvl - 1) + in_bits 11 6 (s.vl - 1) + in_bits 17 12 s.source + in_bits 23 18 s.destination
    + in_bits 28 24 s.cfg

-- VL as min(VL, MVL)
abbrev pub cut : State → State
cut s = record {
  mvl = s.mvl;
  vl = min s.vl s.mvl;
  cfg = s.cfg;
  source = s.source;
  destination = s.destination;
}

-- bits 31..29 zero, and both offsets below the cut VL
unfoldable pub good_word : ℕ → Bool
good_word word =
    eqb (bits 31 29 word) 0 && ltb (cut (of_word word)).source (cut (of_word word)).vl
    && ltb (cut (of_word word)).destination (cut (of_word word)).vl
