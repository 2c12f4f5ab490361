-- Laws of feeding: up to the first record that ends, and piece after piece.
use Prim.Native.Nat.{ℕ}
use mathlib.Core.Path.{◌≡◌, refl, sym, ap, ◌∙◌}
use mathlib.Core.List.{List, [], ◌∷◌, ◌++◌, append_assoc, append-nil}
use Rattle.std.specs.Prelude.{Option, Some, None}
use Rattle.machine.specs.Run.{System}
use Rattle.stream_records.specs.declared.record.Record.{Record}
use Rattle.stream_records.specs.Progress.{Progress, Search, searched, first_of, taken, found}
use Rattle.stream_feed.specs.Apply.{applied, printed}
use Rattle.stream_feed.specs.Stream.{Stream, stream, Fed, fed_with, fed_record, fed_advance, after, fed}

-- feeding some bytes is feeding up to the first record that ends, and then the rest
abbrev search_fed : Search → System → Fed
search_fed s system =
    let first = fed_record s.whole s.progress system in
    after first.text (fed first.stream s.rest)

fed_found :
    (r : Progress) (system : System) (bytes : List ℕ) → fed (stream r system) bytes ≡ search_fed (found r bytes) system
unfolding fed found fed_record
fed_found r system [] = refl
fed_found r system (b ∷ bs) = by (taken r b).whole (fed_found (taken r b).progress system bs)
  where
    by :
        (e : Option Record) →
        fed (stream (taken r b).progress system) bs ≡ search_fed (found (taken r b).progress bs) system →
        after (fed_record e (taken r b).progress system).text (fed (fed_record e (taken r b).progress system).stream bs)
        ≡ search_fed (first_of e (searched e (taken r b).progress bs) (found (taken r b).progress bs)) system
    by (Some w) later = refl
    by None later = later

-- where none ends, no byte is left
none_rest : (r : Progress) (bytes : List ℕ) → (found r bytes).whole ≡ None → (found r bytes).rest ≡ []
unfolding found
none_rest r [] e = refl
none_rest r (b ∷ bs) e = by (taken r b).whole e (none_rest (taken r b).progress bs)
  where
    by :
        (v : Option Record) →
        (first_of v (searched v (taken r b).progress bs) (found (taken r b).progress bs)).whole ≡ None →
        ((found (taken r b).progress bs).whole ≡ None → (found (taken r b).progress bs).rest ≡ []) →
        (first_of v (searched v (taken r b).progress bs) (found (taken r b).progress bs)).rest ≡ []
    by (Some w) e later = cc
    by None e later = later e

module _ (r next : Progress) (system : System) (bytes rest : List ℕ) where
  pub feed_none :
      searched None next rest ≡ found r bytes → fed_with [] (stream next system) ≡ fed (stream r system) bytes
  unfolding fed fed_record
  feed_none e =
      let none : rest ≡ [] =
      ap (λ (s : Search). s.rest) e ∙ none_rest r bytes (ap (λ (s : Search). s.whole) (sym e)) in
      sym (fed_found r system bytes ∙ rw (← e, none))

  pub feed_whole :
      (w : Record) → searched (Some w) next rest ≡ found r bytes →
      after (printed w (applied w system)) (fed (stream next (applied w system).state) rest)
      ≡ fed (stream r system) bytes
  unfolding fed_record
  feed_whole w e = sym (fed_found r system bytes ∙ rw (← e))

-- more text before what is fed later
pub after_more : (a b : List ℕ) (f : Fed) → after (a ++ b) f ≡ after a (after b f)
after_more a b f = rw append_assoc

pub after_last : (a : List ℕ) (s : Stream) → after a (fed_with [] s) ≡ fed_with a s
after_last a s = rw append-nil

-- two pieces, one after the other
pub fed_append : (s : Stream) (a b : List ℕ) → fed s (a ++ b) ≡ after (fed s a).text (fed (fed s a).stream b)
unfolding fed
fed_append s [] b = refl
fed_append s (byte ∷ a) b =
    let first = fed_advance (taken s.progress byte) s.system in
    ap (after first.text) (fed_append first.stream a b)
    ∙ sym (after_more first.text (fed first.stream a).text (fed (fed first.stream a).stream b))
