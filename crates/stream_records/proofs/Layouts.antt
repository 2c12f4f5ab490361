-- The kinds and their layouts.
use Prim.Native.Nat.{ℕ, ◌+◌, ◌≤◌}
use mathlib.Core.Bool.{Bool, true, false, cond}
use mathlib.Core.Path.{◌≡◌}
use native.Mathlib.Omega.{arith}
use borrow.Author.Tests.{ne_eqb}
use lib.Dec.{eqb}
use Rattle.std.specs.Prelude.{Result, Ok, Err}
use Rattle.stream_records.specs.Record.{kind_of, fields, layout_of, record_of}
use Rattle.stream_records.specs.declared.kind.UnknownKind.{UnknownKind}
use Rattle.stream_records.specs.declared.record.Record.TheVariants as one
use Rattle.stream_records.specs.declared.kind.Kind.{Kind}
use Rattle.stream_records.specs.declared.kind.Kind.TheVariants.{RegisterEntry, PredicateEntry, StateWord}
use Rattle.stream_records.specs.declared.kind.Kind.TheVariants.{Register, Run, Memory}
use Rattle.stream_records.specs.declared.kind.Layout.{Layout}

-- a byte that is none of 1 to 5
abbrev pub Other : ℕ → Type 0
Other byte = ((((Unit {0} × (byte ≡ 1 → ⊥)) × (byte ≡ 2 → ⊥)) × (byte ≡ 3 → ⊥)) × (byte ≡ 4 → ⊥)) × (byte ≡ 5 → ⊥)

module _ (byte : ℕ) (o : Other byte) where
  by_sixth :
      kind_of byte ≡ cond {A = Result Kind UnknownKind} (eqb byte 6) (Ok Memory) (Err record {})
  by_sixth =
      rw (
        ne_eqb byte 1 o.0.0.0.0.1,
        ne_eqb byte 2 o.0.0.0.1,
        ne_eqb byte 3 o.0.0.1,
        ne_eqb byte 4 o.0.1,
        ne_eqb byte 5 o.1,
      )

  -- no kind but 1 to 6
  pub unknown : (byte ≡ 6 → ⊥) → kind_of byte ≡ Err record {}
  unknown n = rw (by_sixth, ne_eqb byte 6 n)

  known : {k : Kind} → kind_of byte ≡ Ok k → k ≡ Memory
  known {k} e = by (eqb byte 6) (rw by_sixth at e)
    where
      by : (t : Bool) → cond {A = Result Kind UnknownKind} t (Ok Memory) (Err record {}) ≡ Ok k → k ≡ Memory
      by true f = cc
      by false f = let z : ◌≡◌ {A = ℕ} 0 1 = cc in absurd (omega arith)

  -- of these a known kind is 6
  pub sixth : {k : Kind} → kind_of byte ≡ Ok k → layout_of k ≡ fields 2 8
  sixth e = rw (known e)

  pub other_record : (first second : ℕ) {k : Kind} → kind_of byte ≡ Ok k → one.Memory first second ≡ record_of k first second
  other_record first second e = rw (known e)

-- no field is longer than 8 bytes, and a body has 3 to 10
pub record Small (l : Layout) : Type 0 where
  pub first : l.first ≤ 8
  pub second : l.second ≤ 8
  pub most : l.first + l.second ≤ 10
  pub least : 3 ≤ l.first + l.second

pub small : (k : Kind) → Small (layout_of k)
small RegisterEntry = record { first = omega arith; second = omega arith; most = omega arith; least = omega arith }
small PredicateEntry = record { first = omega arith; second = omega arith; most = omega arith; least = omega arith }
small StateWord = record { first = omega arith; second = omega arith; most = omega arith; least = omega arith }
small Register = record { first = omega arith; second = omega arith; most = omega arith; least = omega arith }
small Run = record { first = omega arith; second = omega arith; most = omega arith; least = omega arith }
small Memory = record { first = omega arith; second = omega arith; most = omega arith; least = omega arith }
