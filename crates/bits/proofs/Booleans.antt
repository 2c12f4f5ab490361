-- Laws of tests: conjunctions, disjunctions, negations, and a choice by a test.
use mathlib.Core.Path.{◌≡◌, refl, sym, ◌∙◌}
use mathlib.Core.Bool.{Bool, true, false, cond, ◌&&◌, ◌||◌, true≢false}

pub and_left : (a b : Bool) → a && b ≡ true → a ≡ true
and_left true b h = refl
and_left false b h = h

pub and_right : (a b : Bool) → a && b ≡ true → b ≡ true
and_right true b h = h
and_right false b h = absurd (true≢false (sym h))

pub and_true : (b : Bool) → b ≡ (b && true)
and_true true = refl
and_true false = refl

pub or_false : (a b : Bool) → (a || b) ≡ false → (a ≡ false) × (b ≡ false)
or_false true b e = absurd (true≢false e)
or_false false b e = (refl, e)

-- what a test of f's result says of the definition x that the result equals
pub fails : {b x : Bool} → b ≡ x → b ≡ false → x ≡ false
fails e h = sym e ∙ h

pub holds : {b x : Bool} → b ≡ x → b ≡ true → x ≡ true
holds e h = sym e ∙ h

-- one of two, by a test
pub by_cond : {A : Type 0} {x y : A} (Q : A → Type 0) (b : Bool) → (b ≡ true → Q x) → (b ≡ false → Q y) → Q (cond b x y)
by_cond Q true t f = t refl
by_cond Q false t f = f refl
