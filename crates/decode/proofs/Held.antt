-- The index of an entry that holds lies in the table.
use Prim.Native.Nat.{ℕ, zero, suc, ◌<◌}
use mathlib.Core.Path.{◌≡◌, sym, ◌∙◌}
use mathlib.Core.Bool.{Bool, true, false, cond}
use mathlib.Core.List.{List}
use native.Mathlib.Omega.{arith}
use Rattle.std.proofs.Common.{Option, Some}
use Rattle.tables.specs.declared.enabled.Range.{Range}
use Rattle.search.specs.declared.Table.{Table}
use Rattle.search.specs.Search.{candidate, highest, held_entry}

highest_below : (test : ℕ → Bool) (n i : ℕ) → highest test n ≡ Some i → i < n
unfolding highest
highest_below test zero i e = let z : ◌≡◌ {A = ℕ} 0 1 = cc in absurd (omega arith)
highest_below test (suc n) i e = by (test n) e (highest_below test n i)
  where
    by : (t : Bool) → cond t (Some n) (highest test n) ≡ Some i → (highest test n ≡ Some i → i < n) → i < suc n
    by true e next = let same : n ≡ i = cc in omega arith
    by false e next = let below = next e in omega arith

pub held_below :
    (table : Table) (entries : List ℕ) (range : Range) (key : ℕ) {found : Option ℕ} {i : ℕ} →
    found ≡ held_entry table entries range key → found ≡ Some i → i < 16
unfolding held_entry
held_below table entries range key {found} {i} e f = highest_below (candidate table entries range key) 16 i (sym e ∙ f)
