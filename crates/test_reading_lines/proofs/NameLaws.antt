-- A word that has the length of no name.
use Prim.Native.Nat.{ℕ}
use mathlib.Core.Path.{◌≡◌, refl}
use mathlib.Core.List.{List, [], ◌∷◌}
use mathlib.Core.Logic.{◌≢◌}
use lib.Dec.{eqb}
use lib.ListN.{length}
use Rattle.std.specs.Prelude.{None}
use Rattle.std.specs.Cmp.Lexicographic.{unequal}
use Rattle.test_reading_lines.specs.Words.{ascii}
use Rattle.test_reading_lines.specs.Calls.{Form, named}

-- no form has a name of that length
abbrev pub NoneSoLong : {A : Type 0} → List (Form A) → ℕ → Type 0
NoneSoLong [] n = Unit {0}
NoneSoLong (f ∷ forms) n = (length (ascii f.name) ≢ n) × NoneSoLong forms n

pub unnamed :
    {A : Type 0} (forms : List (Form A)) (word : List ℕ) → NoneSoLong forms (length word) → None ≡ named forms word
unnamed [] word n = refl
unnamed (f ∷ forms) word n = rw (unequal eqb (ascii f.name) word n.0) (unnamed forms word n.1)
