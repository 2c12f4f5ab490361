-- The one kind that is not served.
use Prim.Native.Nat.{ℕ, suc}
use native.Mathlib.Omega.{arith}
use mathlib.Core.Path.{◌≡◌, refl, ap}
use mathlib.Core.Bool.{Bool, true, false, cond}
use lib.Dec.{eqb}
use mathlib.Core.List.{List, ◌∷◌}
use borrow.Author.Tests.{ne_eqb, lt-leb}
use lib.ListN.{length, get_or}
use Rattle.std.specs.Prelude.{Ok, Err}
use Rattle.stream_records.specs.declared.kind.Kind.TheVariants.{RegisterEntry, PredicateEntry, StateWord}
use Rattle.stream_records.specs.declared.kind.Kind.TheVariants.{Register, Memory}
use Rattle.stream_records.specs.declared.record.NoRecord.TheVariants.{Unknown}
use Rattle.stream_records.specs.Record.{unknown, served_by, served_kind, body_at, next_record}
use Rattle.stream_feed.specs.Stream.{bad_text}
use Rattle.claims_streams.specs.Pieces.{output_of}
use Rattle.claims_streams.specs.WithoutRuns.{WithoutRuns}
use Rattle.claims_streams.proofs.ByRecord.{by_record}

run_unknown : (rest : List ℕ) → next_record false (5 ∷ rest) 0 ≡ Err Unknown
unfolding next_record served_kind body_at
run_unknown rest = rw (lt-leb (suc (length rest)) 0 (omega arith))

-- every other kind is served, and what stands for none is not
others : (byte : ℕ) → (byte ≡ 5 → ⊥) → served_kind false byte ≡ served_kind true byte
unfolding served_kind
others byte n = rw (ne_eqb byte 5 n) (by (eqb byte 1) (eqb byte 2) (eqb byte 3) (eqb byte 4) (eqb byte 6))
  where
    by :
        (a b c d f : Bool) →
        (let k = cond a (Ok RegisterEntry)
        (cond b (Ok PredicateEntry)
        (cond c (Ok StateWord)
        (cond d (Ok Register)
        (cond f (Ok Memory)
        (Err unknown))))) in
        served_by false k ≡ served_by true k)
    by true b c d f = refl
    by false true c d f = refl
    by false false true d f = refl
    by false false false true f = refl
    by false false false false true = refl
    by false false false false false = refl

pub without_runs : WithoutRuns
unfolding next_record bad_text
without_runs = record {
  reader = refl;
  unknown = run_unknown;
  bad = λ o s rest. ap output_of ((by_record false).unknown o s (5 ∷ rest) (run_unknown rest));
  others = λ bytes at n. rw (others (get_or bytes at 0) n);
}
