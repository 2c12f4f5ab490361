-- A reader that takes a byte.
use Prim.Native.Nat.{ℕ, ◌+◌, ◌<◌, ◌≤◌}
use native.Mathlib.Nat.{le_refl}
use native.Mathlib.Numerals.{add-one}
use native.Mathlib.Omega.{arith}
use mathlib.Core.Path.{◌≡◌, sym, ◌∙◌}
use mathlib.Core.Bool.{Bool, true, false}
use mathlib.Core.List.{List, [], ◌∷◌, ◌++◌}
use lib.ListN.{length, get_or, set, take, drop, length-set, drop_of_length-le}
use lib.Seq.{take-suc-set, take-set-le, length-take-le, drop-cons}
use Rattle.std.specs.Prelude.{Option, Some, None, Ok, Err}
use Rattle.stream_records.specs.Record.{Next, next_record}
use Rattle.stream_records.specs.Progress.{taken_by, taken, Search, searched, first_of, found}
use Rattle.stream_records.specs.Reader.{progress_of, Ready, Taking}
use Rattle.stream_records.specs.declared.reader.Reader.{Reader}
use Rattle.stream_records.specs.declared.record.Record.{Record}
use Rattle.stream_records.specs.declared.record.NoRecord.TheVariants.{Cut, Unknown, End}
use Rattle.stream_records.proofs.Next.{whole_within, cut_short}

-- a reader after another
abbrev reader : Reader → List ℕ → ℕ → ℕ → Bool → Reader
reader r kept length offset stopped =
    record { kept = kept; length = length; offset = offset; stopped = stopped; runs = r.runs }

module _ (r : Reader) (byte : ℕ) (ready : Ready r 1) (full : length r.kept ≡ 11) where
  pub taking_none : r.stopped ≡ true → Taking r byte None r
  unfolding taken
  taking_none e = record { same = rw e; sized = full; short = ready.short; reached = omega arith }

  -- the bytes with the new one after the others
  abbrev pub stored : List ℕ
  stored = set r.kept r.length byte

  -- those of the record
  abbrev pub with_byte : List ℕ
  with_byte = take (r.length + 1) stored

  stored_size : length stored ≡ 11
  stored_size = rw length-set full

  pub stored_length : r.length + 1 ≤ length stored
  stored_length = rw length-set (omega (arith, ready.short))

  pub part_length : r.length + 1 ≡ length with_byte
  part_length = sym (length-take-le (r.length + 1) stored stored_length)

  more : with_byte ≡ take r.length r.kept ++ byte ∷ []
  more = rw (add-one r.length) (take-suc-set r.kept r.length byte (omega (arith, ready.short)))

  same : take r.length stored ≡ take r.length r.kept
  same = take-set-le r.length r.kept r.length byte (le_refl r.length)

  module _ (going : r.stopped ≡ false) where
    by_next :
        (n : Next) → next_record r.runs with_byte 0 ≡ n →
        taken_by (progress_of r) with_byte n ≡ taken (progress_of r) byte
    unfolding taken
    by_next n e = rw (going, ← more, e)

    pub taking_whole :
        (w : Record) (next : ℕ) → next_record r.runs with_byte 0 ≡ Ok (w, next) →
        Taking r byte (Some w) (reader r stored 0 (r.offset + next) r.stopped)
    taking_whole w next e = record {
      sized = stored_size;
      same = cc (by_next (Ok (w, next)) e);
      short = omega arith;
      reached = omega (arith, (whole_within r.runs with_byte 0 next e).end, part_length);
    }

    pub taking_cut :
        next_record r.runs with_byte 0 ≡ Err Cut →
        Taking r byte None (reader r stored (r.length + 1) r.offset r.stopped)
    taking_cut e = record {
      sized = stored_size;
      same = cc (by_next (Err Cut) e);
      short = omega (arith, cut_short r.runs with_byte 0 e, part_length);
      reached = omega arith;
    }

    pub taking_unknown :
        next_record r.runs with_byte 0 ≡ Err Unknown →
        Taking r byte None (reader r stored r.length r.offset true)
    taking_unknown e = record {
      sized = stored_size;
      same = rw same (by_next (Err Unknown) e);
      short = ready.short;
      reached = omega arith;
    }

    pub taking_end :
        next_record r.runs with_byte 0 ≡ Err End →
        Taking r byte None (reader r stored r.length r.offset r.stopped)
    taking_end e =
        record { sized = stored_size; same = rw same (by_next (Err End) e); short = ready.short; reached = omega arith }

-- The first record in the bytes from a place on.
module _ (r : Reader) (piece : List ℕ) (i : ℕ) where
  abbrev pub first : Search
  first = found (progress_of r) (drop i piece)

  -- from any two places past the end
  pub found_past :
      {k : ℕ} → length piece ≤ i → length piece ≤ k → searched None (progress_of r) (drop k piece) ≡ first
  unfolding found
  found_past h e = rw (drop_of_length-le piece h, drop_of_length-le piece e)

  -- and from the end itself
  pub found_none : length piece ≤ i → searched None (progress_of r) (drop (length piece) piece) ≡ first
  found_none h = found_past h (omega arith)

module _ (r : Reader) (piece : List ℕ) (i : ℕ) (t : Option Record) (r' : Reader) (inside : i < length piece)
    (taking : Taking r (get_or piece i 0) t r')
  where
    abbrev here : Search
    here = searched t (progress_of r') (drop (i + 1) piece)

    pub found_step : first r piece i ≡ first_of t here (first r' piece (i + 1))
    unfolding found
    found_step = rw (drop-cons piece i 0 inside, add-one i, ← taking.same)

    pub found_later : t ≡ None → first r' piece (i + 1) ≡ first r piece i
    found_later e = sym (found_step ∙ rw e)
