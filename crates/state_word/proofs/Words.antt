-- The state word both ways: the word of a state in shape, and the state of a word that can be set.
use Prim.Native.Nat.{ℕ, ◌+◌, ◌-◌, ◌*◌, ◌/◌, ◌%◌, ◌^◌, ◌<◌, min}
use mathlib.Core.Path.{◌≡◌, sym, ◌∙◌}
use mathlib.Core.Bool.{true}
use native.Mathlib.Omega.{arith}
use Rattle.state_word.specs.declared.State.{State}
use Rattle.bits.specs.Bits.{bits}
use Rattle.state_word.specs.State.{state_in_shape, of_word, word_of, cut, good_word}
use Rattle.state_word.proofs.States.{bounds, good, is_good, word_kept}

-- one field of a word at a time, which is what linear arithmetic takes
digit : (q x high : ℕ) → x < 64 → q ≡ x + high * 64 → q % 64 ≡ x
digit q x high h e = omega arith

module _ (s : State) (h : state_in_shape s ≡ true) where
  packed :
      word_of s ≡
      s.mvl - 1 + (s.vl - 1) * 64 + s.source * 4096 + s.destination * 262144 + s.cfg * 16777216
  unfolding word_of
  packed = let b = bounds s h in omega arith

  mvl_fits : s.mvl - 1 < 64
  mvl_fits = let b = bounds s h in omega arith

  vl_fits : s.vl - 1 < 64
  vl_fits = let b = bounds s h in omega arith

  -- each field of the word is the state's
  pub mvl_back : bits 5 0 (word_of s) + 1 ≡ s.mvl
  mvl_back = let b = bounds s h in omega (arith, packed)

  pub vl_back : bits 11 6 (word_of s) + 1 ≡ s.vl
  vl_back =
      let b = bounds s h in
      let high = s.source + (s.destination + s.cfg * 64) * 64 in
      let d : bits 11 6 (word_of s) ≡ s.vl - 1 = digit _ (s.vl - 1) high (omega arith) (omega (arith, packed)) in
      omega arith

  source_back : bits 17 12 (word_of s) ≡ s.source
  source_back =
      let b = bounds s h in
      digit _ s.source (s.destination + s.cfg * 64) (omega arith) (omega (arith, packed))

  destination_back : bits 23 18 (word_of s) ≡ s.destination
  destination_back =
      let b = bounds s h in
      digit _ s.destination s.cfg (omega arith) (omega (arith, packed))

  cfg_back : bits 28 24 (word_of s) ≡ s.cfg
  cfg_back =
      let b = bounds s h in
      let q : word_of s / 16777216 ≡ s.cfg = omega (arith, packed) in
      omega arith

  pub of_word_back : of_word (word_of s) ≡ s
  unfolding of_word
  of_word_back = rw (mvl_back, vl_back, source_back, destination_back, cfg_back)

  top_back : bits 31 29 (word_of s) ≡ 0
  top_back = let b = bounds s h in omega (arith, packed)

  pub above_back : word_of s / 2 ^ 32 ≡ 0
  above_back = let b = bounds s h in omega (arith, packed)

  pub cut_same : cut s ≡ s
  cut_same = let b = bounds s h in let e : min s.vl s.mvl ≡ s.vl = omega arith in rw e

  pub good_back : good_word (word_of s) ≡ true
  good_back =
      let b = bounds s h in
      is_good (word_of s) (record {
        top = top_back;
        source = rw of_word_back (omega arith);
        destination = rw of_word_back (omega arith);
      })

-- bits 31..12 of a packed word
packed_above :
    (w a b c d e : ℕ) → a < 64 → b < 64 → c < 64 → d < 64 → e < 32 →
    w ≡ a + b * 64 + c * 4096 + d * 262144 + e * 16777216 → w / 4096 % 1048576 ≡ c + d * 64 + e * 4096
packed_above w a b c d e la lb lc ld le p =
    let q : w / 4096 ≡ c + d * 64 + e * 4096 = omega arith in omega arith

-- and of any word whose bits 31..29 are zero
word_above :
    (q r s t : ℕ) → q / 64 ≡ r → r / 64 ≡ s → s / 32 ≡ t → t % 8 ≡ 0 →
    q % 1048576 ≡ q % 64 + r % 64 * 64 + s % 32 * 4096
word_above q r s t p1 p2 p3 top = omega arith

-- An accepted state word: above VL, the word that is read back has the same bits.
pub rest_back : (word : ℕ) → good_word word ≡ true → bits 31 12 (word_of (cut (of_word word))) ≡ bits 31 12 word
unfolding of_word
rest_back word h =
    let s = cut (of_word word) in
    let k = word_kept word h in
    packed_above _ _ _ _ _ _ (mvl_fits s k) (vl_fits s k) (omega arith) (omega arith) (omega arith) (packed s k)
    ∙ sym (word_above (word / 4096) _ _ _ (omega arith) (omega arith) (omega arith) (good word h).top)
