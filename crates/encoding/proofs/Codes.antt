-- Rows found by one number, in which their fields stand side by side.
use Prim.Native.Nat.{ℕ, ◌+◌, ◌*◌, ◌/◌, ◌^◌}
use mathlib.Core.Path.{◌≡◌, refl}
use mathlib.Core.Bool.{Bool, true, false, ◌&&◌}
use mathlib.Core.List.{List, [], ◌∷◌}
use native.Mathlib.Omega.{arith}
use borrow.Author.Tests.{eq-eqb, ne_eqb, eqb-true, eqb-false, ltb-true}
use lib.Dec.{eqb, ltb}
use mir.Syntax.{w32}
use mir.Val.{Fits}
use Rattle.bits.specs.Bits.{bits}
use Rattle.bits.specs.Lists.{all}
use Rattle.bits.proofs.Booleans.{and_left, and_right}
use Rattle.encoding.specs.Fields.{opcode, funct3}
use Rattle.encoding.specs.Listing.{Top, any, from, Row, funct3_rows, funct6_rows, funct7_rows, listing}
use Rattle.encoding.specs.Listing.{has_top, fits_row, first_form, look_up, form_of}

-- two numbers are those asked for where one made of them is
both :
    (a b x y m n : ℕ) → (m ≡ n → b ≡ y) → (m ≡ n → a ≡ x) → (b ≡ y → a ≡ x → m ≡ n) →
    eqb b y && eqb a x ≡ eqb m n
both a b x y m n low high whole = by (eqb m n) refl
  where
    by : (t : Bool) → eqb m n ≡ t → eqb b y && eqb a x ≡ t
    by true e = let h = eqb-true m n e in rw (eq-eqb b y (low h), eq-eqb a x (high h))
    by false e = differ (eqb b y) refl
      where
        differ : (t : Bool) → eqb b y ≡ t → t && eqb a x ≡ false
        differ true g = ne_eqb a x (λ h. eqb-false m n e (whole (eqb-true b y g) h))
        differ false g = refl

-- the opcode and funct3 of a row in range
abbrev pub in_range : Row → Bool
in_range r = ltb r.opcode 128 && ltb r.funct3 8

-- two tests that agree on the rows find the same
same_first :
    (test other good : Row → Bool) → ((r : Row) → good r ≡ true → test r ≡ other r) →
    (rows : List Row) → all good rows ≡ true → first_form test rows ≡ first_form other rows
unfolding first_form all
same_first test other good law [] e = refl
same_first test other good law (r ∷ rows) e =
    rw (law r (and_left _ _ e), same_first test other good law rows (and_right (good r) (all good rows) e))

-- funct3 and the opcode of a row, and of a word
abbrev pub code_of : Row → ℕ
code_of r = r.funct3 * 128 + r.opcode

abbrev code : ℕ → ℕ
code word = funct3 word * 128 + opcode word

abbrev top_of : Top → ℕ
top_of any = 0
top_of (from low n) = n

-- with the highest bits before them
abbrev pub long_of : Row → ℕ
long_of r = top_of r.top * 1024 + code_of r

-- a row found by its code, with its highest bits apart or in it
abbrev pub fits_code : ℕ → ℕ → Row → Bool
fits_code word n r = eqb n (code_of r) && has_top r.top word

abbrev pub fits_long : ℕ → Row → Bool
fits_long n r = eqb n (long_of r)

code_fits :
    (word : ℕ) (r : Row) → in_range r ≡ true →
    eqb (opcode word) r.opcode && eqb (funct3 word) r.funct3 ≡ eqb (code word) (code_of r)
code_fits word r e =
    let o = ltb-true r.opcode 128 (and_left (ltb r.opcode 128) (ltb r.funct3 8) e) in
    both (funct3 word) (opcode word) r.funct3 r.opcode (code word) (code_of r)
    (λ h. omega arith) (λ h. omega arith) (λ p q. omega arith)

-- whether a row asks for bits 31..low
abbrev asks : ℕ → Top → Bool
asks low any = false
asks low (from l n) = eqb l low

has_top-asks : (word low : ℕ) (t : Top) → asks low t ≡ true → has_top t word ≡ eqb (bits 31 low word) (top_of t)
has_top-asks word low any e = cc
has_top-asks word low (from l n) e = rw (eqb-true l low e)

abbrev long_row : ℕ → Row → Bool
long_row low r = in_range r && asks low r.top

module _ (word n : ℕ) (e : n ≡ code word) where
  pub by_code : (rows : List Row) → all in_range rows ≡ true → look_up rows word ≡ first_form (fits_code word n) rows
  unfolding look_up
  by_code rows g =
      rw e (same_first (fits_row word) (fits_code word (code word)) in_range (λ r h. rw (code_fits word r h)) rows g)

  pub listed : form_of word ≡ first_form (fits_code word n) listing
  unfolding all funct3_rows funct6_rows funct7_rows
  listed = by_code listing refl

  module _ (low high : ℕ) (top : bits 31 low word ≡ high) where
    long_fits : (r : Row) → long_row low r ≡ true → fits_row word r ≡ fits_long (high * 1024 + n) r
    long_fits r h =
        let g = and_left (in_range r) (asks low r.top) h in
        let o = ltb-true r.opcode 128 (and_left (ltb r.opcode 128) (ltb r.funct3 8) g) in
        let f = ltb-true r.funct3 8 (and_right (ltb r.opcode 128) (ltb r.funct3 8) g) in
        rw (code_fits word r g, has_top-asks word low r.top (and_right (in_range r) (asks low r.top) h), top, ← e)
        (both high n (top_of r.top) (code_of r) (high * 1024 + n) (long_of r)
        (λ h. omega arith) (λ h. omega arith) (λ p q. omega arith))

    by_long :
        (rows : List Row) → all (long_row low) rows ≡ true →
        look_up rows word ≡ first_form (fits_long (high * 1024 + n)) rows
    unfolding look_up
    by_long rows g = same_first (fits_row word) (fits_long (high * 1024 + n)) (long_row low) long_fits rows g

  module _ (fits : Fits w32 word) where
    pub by_funct6 : look_up funct6_rows word ≡ first_form (fits_long (word / 2 ^ 26 * 1024 + n)) funct6_rows
    unfolding all funct6_rows
    by_funct6 = by_long 26 (word / 2 ^ 26) (omega arith) funct6_rows refl

    pub by_funct7 : look_up funct7_rows word ≡ first_form (fits_long (word / 2 ^ 25 * 1024 + n)) funct7_rows
    unfolding all funct7_rows
    by_funct7 = by_long 25 (word / 2 ^ 25) (omega arith) funct7_rows refl
