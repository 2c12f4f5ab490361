-- A memory of a known length, element by element.
use Prim.Native.Nat.{ℕ, zero, suc}
use mathlib.Core.Path.{◌≡◌, refl, ap, subst, sym}
use mathlib.Core.List.{List, [], ◌∷◌}
use lib.ListN.{length, get_or}

-- f 0, f 1, .., n of them
abbrev list_of : ℕ → (ℕ → ℕ) → List ℕ
list_of zero f = []
list_of (suc n) f = f 0 ∷ list_of n (λ i. f (suc i))

itself : (l : List ℕ) → list_of (length l) (λ i. get_or l i 0) ≡ l
itself [] = refl
itself (a ∷ l) = ap (λ (rest : List ℕ). a ∷ rest) (itself l)

-- what holds of every n elements holds of every list of length n
pub of_length : (P : List ℕ → Type 0) (n : ℕ) → ((f : ℕ → ℕ) → P (list_of n f)) → (l : List ℕ) → length l ≡ n → P l
of_length P n each l size =
    subst P (itself l)
    (subst (λ (k : ℕ). (f : ℕ → ℕ) → P (list_of k f)) (sym size) each (λ i. get_or l i 0))
