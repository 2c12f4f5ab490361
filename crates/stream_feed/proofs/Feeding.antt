-- The records of a piece, one after the other.
use Prim.Native.Nat.{ℕ, ◌+◌, ◌-◌, ◌*◌, ◌<◌, ◌≤◌}
use native.Mathlib.Omega.{arith}
use mathlib.Core.Path.{◌≡◌, refl, sym, ap, ◌∙◌}
use mathlib.Core.List.{List, [], ◌++◌}
use lib.ListN.{length, drop}
use lib.Seq.{length-take-le}
use Rattle.machine.specs.declared.Machine.{Machine}
use Rattle.machine.specs.Run.{System, system}
use Rattle.stream_records.specs.declared.reader.Reader.{Reader}
use Rattle.stream_records.specs.declared.reader.Found.{Found}
use Rattle.stream_records.specs.Reader.{progress_of, Finding}
use Rattle.stream_records.proofs.Reaching.{found_far}
use Rattle.stream_text.specs.Put.{Put}
use Rattle.stream_text.proofs.Puts.{put_none, put_join, put_length, put_over, put_next}
use Rattle.stream_feed.specs.Feed.{over, text_out, feed_with, stream_of, fed_accepted, Applying}
use Rattle.stream_feed.proofs.Accepting.{Accepted}
use Rattle.std.specs.Prelude.{Some, None, Ok}
use Rattle.stream_records.specs.declared.record.Record.{Record}
use Rattle.stream_records.specs.Progress.{Progress, Search}
use Rattle.stream_feed.specs.Apply.{applied, printed}
use Rattle.stream_feed.specs.Stream.{stream, after, fed}
use Rattle.stream_feed.proofs.Fed.{feed_none, feed_whole, after_more, after_last}

-- the text of the end, put from the start on
pub finish_written :
    {old new text : List ℕ} {next : ℕ} → Put old 0 text new next → next ≤ length old →
    text_out (Ok next) new ≡ text_out (Ok (length text)) (over text old)
finish_written p h = rw (put_next p, put_over p (omega (arith, put_next p)))

-- what the loop over the records of a piece keeps
pub record FedSoFar (piece memory₀ out₀ : List ℕ) (reader₀ : Reader) (machine₀ : Machine)
    (memory out : List ℕ) (reader : Reader) (machine : Machine) (i at : ℕ) : Type 0
  where
    pub accepts : Accepted reader₀ (length piece) (length out₀)
    pub done : List ℕ
    pub short : reader.length ≤ 10
    pub reached :
        reader.offset + reader.length + (length piece - i) ≤ reader₀.offset + reader₀.length + length piece
    pub onward : reader₀.offset ≤ reader.offset
    pub room : at ≤ 14 * (reader.offset - reader₀.offset)
    pub put : Put out₀ 0 done out at
    pub held : length memory ≡ length memory₀
    pub same :
        after done (fed (stream_of reader machine memory) (drop i piece))
        ≡ fed (stream_of reader₀ machine₀ memory₀) piece

module _ (piece memory₀ out₀ : List ℕ) (reader₀ : Reader) (machine₀ : Machine) where
  pub started :
      Accepted reader₀ (length piece) (length out₀) →
      FedSoFar piece memory₀ out₀ reader₀ machine₀ memory₀ out₀ reader₀ machine₀ 0 0
  started accepts = record {
    accepts = accepts;
    done = [];
    short = accepts.short;
    reached = omega arith;
    onward = omega arith;
    room = omega arith;
    put = put_none out₀ 0;
    held = refl;
    same = refl;
  }

  module _ {memory out : List ℕ} {reader : Reader} {machine : Machine} {i at : ℕ}
      (p : FedSoFar piece memory₀ out₀ reader₀ machine₀ memory out reader machine i at)
      (f : Found) (finding : Finding reader piece i f)
    where
      abbrev s : System
      s = system machine memory

      abbrev p₁ : Progress
      p₁ = progress_of f.reader

      abbrev bytes : List ℕ
      bytes = drop i piece

      abbrev rest : List ℕ
      rest = drop f.at piece

      -- a record moves the offset
      module _ (w : Record) (whole : f.whole ≡ Some w) where
        pub moved : reader.offset + 4 ≤ f.reader.offset
        moved =
            rw (← finding.same) at
            (found_far (progress_of reader) bytes w (ap (λ (s : Search). s.whole) (sym finding.same) ∙ whole))

        pub falls :
            reader₀.offset + reader₀.length + length piece - f.reader.offset
            < reader₀.offset + reader₀.length + length piece - reader.offset
        falls = omega (arith, moved, finding.reached, p.reached)

        pub fits : at + 54 ≤ length out
        fits =
            let most = p.accepts.roomy in
            let size = put_length p.put in
            omega (arith, moved, finding.reached, p.reached, p.room, p.onward, p.accepts.short)

        pub stepped :
            {memory' out' : List ℕ} {machine' : Machine} {next : ℕ} →
            Applying machine w memory out at machine' memory' out' next → length memory' ≡ length memory →
            FedSoFar piece memory₀ out₀ reader₀ machine₀ memory' out' f.reader machine' f.at next
        stepped applying kept = record {
          accepts = p.accepts;
          done = p.done ++ printed w (applied w s);
          short = finding.short;
          reached = omega (arith, finding.reached, p.reached);
          onward = omega (arith, moved, p.onward);
          room = omega (arith, moved, p.room, p.onward, applying.room);
          put = put_join p.put applying.text;
          held = kept ∙ p.held;
          same =
              let one = feed_whole (progress_of reader) p₁ s bytes rest w (rw whole at finding.same) in
              let later = fed (stream p₁ (applied w s).state) rest in
              rw applying.state
              (after_more p.done (printed w (applied w s)) later ∙ ap (after p.done) one ∙ p.same);
        }

      pub ended :
          f.whole ≡ None →
          feed_with (Ok at) (stream_of f.reader machine memory) f.reader.length out
          ≡ fed_accepted reader₀ machine₀ piece memory₀ out₀
      unfolding fed_accepted
      ended none =
          let None-more = feed_none (progress_of reader) p₁ s bytes rest (rw none at finding.same) in
          let whole = sym (after_last p.done (stream p₁ s)) ∙ ap (after p.done) None-more ∙ p.same in
          let next = put_next p.put in
          let inside : length p.done ≤ length out₀ =
          omega (arith, p.room, p.onward, p.reached, p.accepts.roomy, p.accepts.short) in
          let kept : f.reader.length ≤ length f.reader.kept = omega (arith, finding.short, finding.sized) in
          let pending = length-take-le f.reader.length f.reader.kept kept in
          rw (← whole, next, put_over p.put inside, pending)
