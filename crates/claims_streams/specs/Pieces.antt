-- A stream that comes in pieces: where it is cut makes no difference.
use Rattle.std.specs.Prelude.{ℕ, ◌≡◌, List, [], ◌∷◌, ◌++◌}
use Rattle.stream_feed.specs.Stream.{Stream, Fed, fed_with, after, fed, finished, fresh_stream, output}

-- the pieces of a stream, one after the other
unfoldable pub fed_pieces : Stream → List (List ℕ) → Fed
fed_pieces s [] = fed_with [] s
fed_pieces s (piece ∷ pieces) =
    let first = fed s piece in
    after first.text (fed_pieces first.stream pieces)

-- the bytes of some pieces
abbrev pub joined : List (List ℕ) → List ℕ
joined [] = []
joined (piece ∷ pieces) = piece ++ joined pieces

-- what is printed of the pieces and at the end
abbrev pub output_of : Fed → List ℕ
output_of f = f.text ++ finished f.stream

pub record PiecesLaw : Type 0 where
  -- two pieces
  pub two : (s : Stream) (a b : List ℕ) → fed s (a ++ b) ≡ after (fed s a).text (fed (fed s a).stream b)
  -- any pieces
  pub any : (s : Stream) (pieces : List (List ℕ)) → fed_pieces s pieces ≡ fed s (joined pieces)
  pub whole : (pieces : List (List ℕ)) → output_of (fed_pieces fresh_stream pieces) ≡ output (joined pieces)
