-- Laws of the state: its ranges, and the settings that keep them.
use Prim.Native.Nat.{ℕ, ◌<◌, ◌≤◌}
use mathlib.Core.Path.{◌≡◌}
use mathlib.Core.Bool.{true}
use native.Mathlib.Omega.{arith}
use borrow.Author.Tests.{lt-ltb, le-leb, eq-eqb, leb-true, ltb-true, eqb-true}
use Rattle.state_word.specs.declared.State.{State}
use Rattle.bits.specs.Bits.{bits}
use Rattle.state_word.specs.State.{state_in_shape, with_vl, with_mvl, with_cfg, of_word, cut, good_word}
use Rattle.bits.proofs.Booleans.{and_left, and_right}

-- what being in shape says of the fields
pub record Bounds (s : State) : Type 0 where
  pub mvl_low : 1 ≤ s.mvl
  pub mvl_high : s.mvl ≤ 64
  pub vl_low : 1 ≤ s.vl
  pub vl_high : s.vl ≤ s.mvl
  pub cfg_high : s.cfg ≤ 31
  pub source_high : s.source < s.vl
  pub destination_high : s.destination < s.vl

pub bounds : (s : State) → state_in_shape s ≡ true → Bounds s
unfolding state_in_shape
bounds s h = record {
  mvl_low = leb-true _ _ (search (and_left, and_right) depth 10);
  mvl_high = leb-true _ _ (search (and_left, and_right) depth 10);
  vl_low = leb-true _ _ (search (and_left, and_right) depth 10);
  vl_high = leb-true _ _ (search (and_left, and_right) depth 10);
  cfg_high = leb-true _ _ (search (and_left, and_right) depth 10);
  source_high = ltb-true _ _ (search (and_left, and_right) depth 10);
  destination_high = ltb-true _ _ (search (and_left, and_right) depth 10);
}

pub in_shape : (s : State) → Bounds s → state_in_shape s ≡ true
unfolding state_in_shape
in_shape s b =
    rw (
      le-leb _ _ b.mvl_low,
      le-leb _ _ b.mvl_high,
      le-leb _ _ b.vl_low,
      le-leb _ _ b.vl_high,
      le-leb _ _ b.cfg_high,
      lt-ltb _ _ b.source_high,
      lt-ltb _ _ b.destination_high,
    )

module _ (s : State) (h : state_in_shape s ≡ true) where
  pub vl_kept : (n : ℕ) → 1 ≤ n → state_in_shape (with_vl s n) ≡ true
  vl_kept n low =
      let b = bounds s h in
      in_shape (with_vl s n) (record {
        mvl_low = b.mvl_low;
        mvl_high = b.mvl_high;
        vl_low = omega arith;
        vl_high = omega arith;
        cfg_high = b.cfg_high;
        source_high = omega arith;
        destination_high = omega arith;
      })

  pub mvl_kept : (n : ℕ) → 1 ≤ n → n ≤ 64 → state_in_shape (with_mvl s n) ≡ true
  mvl_kept n low high =
      let b = bounds s h in
      in_shape (with_mvl s n) (record {
        mvl_low = low;
        mvl_high = high;
        vl_low = omega arith;
        vl_high = omega arith;
        cfg_high = b.cfg_high;
        source_high = omega arith;
        destination_high = omega arith;
      })

  pub cfg_kept : (n : ℕ) → n ≤ 31 → state_in_shape (with_cfg s n) ≡ true
  cfg_kept n high =
      let b = bounds s h in
      in_shape (with_cfg s n) (record {
        mvl_low = b.mvl_low;
        mvl_high = b.mvl_high;
        vl_low = b.vl_low;
        vl_high = b.vl_high;
        cfg_high = high;
        source_high = b.source_high;
        destination_high = b.destination_high;
      })

-- what a good state word says
pub record Good (word : ℕ) : Type 0 where
  pub top : bits 31 29 word ≡ 0
  pub source : (of_word word).source < (cut (of_word word)).vl
  pub destination : (of_word word).destination < (cut (of_word word)).vl

pub good : (word : ℕ) → good_word word ≡ true → Good word
unfolding good_word
good word h = record {
  top = eqb-true _ _ (search (and_left, and_right) depth 10);
  source = ltb-true _ _ (search (and_left, and_right) depth 10);
  destination = ltb-true _ _ (search (and_left, and_right) depth 10);
}

pub is_good : (word : ℕ) → Good word → good_word word ≡ true
unfolding good_word
is_good word g = rw (eq-eqb _ _ g.top, lt-ltb _ _ g.source, lt-ltb _ _ g.destination)

pub word_kept : (word : ℕ) → good_word word ≡ true → state_in_shape (cut (of_word word)) ≡ true
unfolding of_word
word_kept word h =
    let g = good word h in
    in_shape (cut (of_word word)) (record {
      mvl_low = omega arith;
      mvl_high = omega arith;
      vl_low = omega arith;
      vl_high = omega arith;
      cfg_high = omega arith;
      source_high = g.source;
      destination_high = g.destination;
    })
