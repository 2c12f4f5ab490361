-- Two claims of which each follows from the other.
use mathlib.Core.Logic.{◌↔◌}

pub both : {A B : Type 0} → A → B → A ↔ B
both a b = (λ x. b, λ y. a)

pub neither : {A B : Type 0} → (A → ⊥) → (B → ⊥) → A ↔ B
neither a b = (λ x. absurd (a x), λ y. absurd (b y))
