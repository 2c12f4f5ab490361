-- The call that takes a whole stream, and writes its output into bytes that are lent.
use Rattle.std.specs.Prelude.{ℕ, ◌+◌, List, length}
use Rattle.stream_feed.specs.Stream.{output}
use Rattle.stream_feed.specs.Feed.{piece_room, last_room, TextOut, written_into}

-- room for all that so many bytes may print, and for the end
abbrev pub whole_room : ℕ → ℕ
whole_room bytes = piece_room bytes + last_room

unfoldable pub run_into : List ℕ → List ℕ → TextOut
run_into bytes out = written_into (whole_room (length bytes)) (output bytes) out
