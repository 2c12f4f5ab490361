-- Pieces fed one after the other.
use mathlib.Core.Path.{◌≡◌, refl, sym, ap, ◌∙◌}
use mathlib.Core.List.{List, [], ◌∷◌}
use Prim.Native.Nat.{ℕ}
use Rattle.stream_feed.specs.Stream.{Stream, after, fed, fresh_stream, output}
use Rattle.stream_feed.proofs.Fed.{fed_append}
use Rattle.claims_streams.specs.Pieces.{fed_pieces, joined, output_of, PiecesLaw}

any : (s : Stream) (pieces : List (List ℕ)) → fed_pieces s pieces ≡ fed s (joined pieces)
unfolding fed_pieces fed
any s [] = refl
any s (piece ∷ pieces) =
    ap (after (fed s piece).text) (any (fed s piece).stream pieces) ∙ sym (fed_append s piece (joined pieces))

pub pieces_law : PiecesLaw
unfolding output
pieces_law = record { two = fed_append; any = any; whole = λ pieces. ap output_of (any fresh_stream pieces) }
