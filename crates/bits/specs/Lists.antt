-- Tests and properties of the members of a list.
use Rattle.std.specs.Prelude.{◌⊎◌, ◌≡◌, Bool, true, ◌&&◌, List, [], ◌∷◌}

unfoldable pub all : {A : Type 0} → (A → Bool) → List A → Bool
all test [] = true
all test (x ∷ xs) = test x && all test xs

module _ {A : Type 0} where
  abbrev pub Some : (A → Type 0) → List A → Type 0
  Some Q [] = ⊥
  Some Q (x ∷ xs) = Q x ⊎ Some Q xs

  abbrev pub Among : A → List A → Type 0
  Among x xs = Some (λ y. x ≡ y) xs
