-- Rows that a match on a number has passed by.
use Prim.Native.Nat.{ℕ}
use mathlib.Core.Path.{◌≡◌, refl}
use mathlib.Core.Bool.{Bool, false}
use mathlib.Core.List.{List, [], ◌∷◌, ◌++◌}
use borrow.Author.Tests.{ne_eqb}
use Rattle.encoding.specs.Listing.{Row, first_form}
use Rattle.encoding.proofs.Codes.{code_of, long_of, fits_code, fits_long}

-- What a match on a number leaves, where its arms are the codes of rows: the number is none of them.
unfoldable pub Apart : Type 0 → ℕ → (Row → ℕ) → List Row → Type 0
Apart before n key [] = before
Apart before n key (r ∷ rows) = Apart (before × (n ≡ key r → ⊥)) n key rows

apart_before : (before : Type 0) (n : ℕ) (key : Row → ℕ) (rows : List Row) → Apart before n key rows → before
unfolding Apart
apart_before before n key [] h = h
apart_before before n key (r ∷ rows) h = (apart_before (before × (n ≡ key r → ⊥)) n key rows h).0

-- such rows are passed by
pass :
    (test : Row → Bool) (n : ℕ) (key : Row → ℕ) → ((r : Row) → (n ≡ key r → ⊥) → test r ≡ false) →
    (before : Type 0) (rows more : List Row) → Apart before n key rows →
    first_form test (rows ++ more) ≡ first_form test more
unfolding Apart first_form
pass test n key law before [] more h = refl
pass test n key law before (r ∷ rows) more h =
    let passed = before × (n ≡ key r → ⊥) in
    rw (law r (apart_before passed n key rows h).1) (pass test n key law passed rows more h)

pub pass_code :
    (word n : ℕ) (before : Type 0) (rows more : List Row) → Apart before n code_of rows →
    first_form (fits_code word n) (rows ++ more) ≡ first_form (fits_code word n) more
pass_code word n = pass (fits_code word n) n code_of (λ r h. rw (ne_eqb n (code_of r) h))

pub pass_long :
    (n : ℕ) (before : Type 0) (rows more : List Row) → Apart before n long_of rows →
    first_form (fits_long n) (rows ++ more) ≡ first_form (fits_long n) more
pass_long n = pass (fits_long n) n long_of (λ r h. ne_eqb n (long_of r) h)
