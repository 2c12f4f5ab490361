-- Texts stored one after the other.
use Prim.Native.Nat.{ℕ, suc, ◌+◌, ◌^◌, ◌<◌, ◌≤◌}
use native.Mathlib.Nat.{zero-add, add-zero, suc-add, add-suc}
use native.Mathlib.Numerals.{add-one}
use native.Mathlib.Omega.{arith}
use mathlib.Core.Path.{◌≡◌, refl, sym, ◌∙◌}
use mathlib.Core.List.{List, [], ◌∷◌, ◌++◌, append_assoc}
use lib.ListN.{length, get_or, set, drop, length-append}
use borrow.Rule.Slice.PartMut.{put_mid}
use lib.Seq.{sets, length-sets, sets-eq, drop-drop}
use Rattle.stream_text.specs.Decimal.{decimal}
use Rattle.stream_text.specs.Lines.{number_then, nonzero_line, lines_below}
use Rattle.stream_text.specs.Put.{Put}
use Rattle.stream_text.proofs.Digits.{most_digits}

pub sets_append : (l : List ℕ) (i : ℕ) (vs ws : List ℕ) → sets l i (vs ++ ws) ≡ sets (sets l i vs) (i + length vs) ws
sets_append l i [] ws = rw (add-zero i)
sets_append l i (v ∷ vs) ws =
    rw (add-suc i (length vs), ← suc-add i (length vs)) (sets_append (set l i v) (suc i) vs ws)

pub put_none : (l : List ℕ) (at : ℕ) → Put l at [] l at
put_none l at = record { end = omega arith; bytes = refl }

pub put_join :
    {a b c t u : List ℕ} {at next last : ℕ} → Put a at t b next → Put b next u c last → Put a at (t ++ u) c last
put_join {a} {b} {c} {t} {u} {at} p q = record {
  end = omega (arith, p.end, q.end, length-append t u);
  bytes = q.bytes ∙ rw (p.bytes, p.end) (sym (sets_append a at t u));
}

-- a byte more
pub put_byte :
    {a b t : List ℕ} {at next : ℕ} (x : ℕ) → Put a at t b next → Put a at (t ++ x ∷ []) (set b next x) (next + 1)
put_byte x p = put_join p (record { end = refl; bytes = refl })

pub put_length : {a b t : List ℕ} {at next : ℕ} → Put a at t b next → length b ≡ length a
put_length {a} {b} {t} {at} p = rw p.bytes (length-sets a at t)

-- a text copied over a part
pub put_part :
    {old text new : List ℕ} {at n : ℕ} → at + length text ≤ length old → n ≡ length text → new ≡ text →
    Put old at text (put_mid at n old new) (at + length text)
put_part {old} {text} {new} {at} {n} inside size copied = record {
  end = refl;
  bytes = rw (size, copied, sets-eq text old at inside, drop-drop (length text) at old, append_assoc);
}

-- the place after two numbers of at most k + 1 and j + 1 digits and a byte after each
pub pair_end :
    {a b : List ℕ} {at next : ℕ} (k j m n x y : ℕ) → m < 10 ^ suc k → n < 10 ^ suc j →
    Put a at (number_then m x ++ number_then n y) b next → next ≤ at + k + j + 4
pair_end k j m n x y g h p =
    omega (
      arith,
      p.end,
      length-append (number_then m x) (number_then n y),
      length-append (decimal m) (x ∷ []),
      length-append (decimal n) (y ∷ []),
      most_digits k m g,
      most_digits j n h,
    )

-- the place after some words, a number of at most k + 1 digits and a byte
pub labelled_end :
    {a b : List ℕ} {at next : ℕ} (k n x : ℕ) (label : List ℕ) → n < 10 ^ suc k →
    Put a at (label ++ number_then n x) b next →
    next ≤ at + length label + k + 2
labelled_end k n x label h p =
    omega (arith, p.end, length-append label (number_then n x), length-append (decimal n) (x ∷ []), most_digits k n h)

-- a register more
pub register_more :
    {a b c : List ℕ} {at next last : ℕ} (registers : List ℕ) (i : ℕ) →
    Put a at (lines_below registers i) b next → Put b next (nonzero_line i (get_or registers i 0)) c last →
    Put a at (lines_below registers (i + 1)) c last
unfolding lines_below
register_more registers i p q = rw (add-one i) (put_join p q)

-- a text put from the start on
pub put_over :
    {old new text : List ℕ} {next : ℕ} → Put old 0 text new next → length text ≤ length old →
    new ≡ text ++ drop (length text) old
put_over {old} {text} p h =
    let none = zero-add (length text) in
    p.bytes ∙ rw none at (sets-eq text old 0 (omega arith))

pub put_next : {old new text : List ℕ} {next : ℕ} → Put old 0 text new next → next ≡ length text
put_next p = omega (arith, p.end)

pub ruleset put_laws = (put_none, put_byte)
