-- One record of a stream: one byte of kind, then a body whose length the kind fixes; numbers little-endian.
use Rattle.std.specs.Prelude.{ℕ, ◌+◌, Bool, false, cond, List, leb, ltb, eqb, length, get_or, Result, Ok, Err}
use Rattle.memory.specs.LittleEndian.{number}
use Rattle.stream_records.specs.declared.kind.Kind.{Kind}
use Rattle.stream_records.specs.declared.kind.Kind.TheVariants as kind
use Rattle.stream_records.specs.declared.kind.UnknownKind.{UnknownKind}
use Rattle.stream_records.specs.declared.kind.Layout.{Layout}
use Rattle.stream_records.specs.declared.record.Record.{Record}
use Rattle.stream_records.specs.declared.record.Record.TheVariants.{RegisterEntry, PredicateEntry, StateWord}
use Rattle.stream_records.specs.declared.record.Record.TheVariants.{Register, Run, Memory}
use Rattle.stream_records.specs.declared.record.NoRecord.{NoRecord}
use Rattle.stream_records.specs.declared.record.NoRecord.TheVariants.{Cut, Unknown, End}

abbrev pub unknown : UnknownKind
unknown = record {}

-- what is at a place: a record and the place after it, or why there is none
abbrev pub Next : Type 0
Next = Result (Record × ℕ) NoRecord

-- the kind that a byte stands for
abbrev pub kind_of : ℕ → Result Kind UnknownKind
kind_of byte =
    cond (eqb byte 1) (Ok kind.RegisterEntry)
    (cond (eqb byte 2) (Ok kind.PredicateEntry)
    (cond (eqb byte 3) (Ok kind.StateWord)
    (cond (eqb byte 4) (Ok kind.Register)
    (cond (eqb byte 5) (Ok kind.Run)
    (cond (eqb byte 6) (Ok kind.Memory)
    (Err unknown))))))

-- a kind, where run records are served, and where they are not: there their kind is unknown
abbrev pub served : Bool → Kind → Result Kind UnknownKind
served false kind.Run = Err unknown
served runs k = Ok k

abbrev pub served_by : Bool → Result Kind UnknownKind → Result Kind UnknownKind
served_by runs (Ok k) = served runs k
served_by runs (Err e) = Err e

-- the same by the byte
unfoldable pub served_kind : Bool → ℕ → Result Kind UnknownKind
served_kind runs byte = served_by runs (kind_of byte)

abbrev pub fields : ℕ → ℕ → Layout
fields first second = record { first = first; second = second }

-- the bytes of the two fields of a kind's body
abbrev pub layout_of : Kind → Layout
layout_of kind.RegisterEntry = fields 1 2
layout_of kind.PredicateEntry = fields 1 2
layout_of kind.StateWord = fields 4 0
layout_of kind.Register = fields 1 8
layout_of kind.Run = fields 4 2
layout_of kind.Memory = fields 2 8

-- the record of a kind and its fields
abbrev pub record_of : Kind → ℕ → ℕ → Record
record_of kind.RegisterEntry first second = RegisterEntry first second
record_of kind.PredicateEntry first second = PredicateEntry first second
record_of kind.StateWord first second = StateWord first
record_of kind.Register first second = Register first second
record_of kind.Run first second = Run first second
record_of kind.Memory first second = Memory first second

-- a record whose body is all there, and the place after it
abbrev pub whole_at : List ℕ → ℕ → Kind → Record × ℕ
whole_at bytes body k =
    let l = layout_of k in
    let middle = body + l.first in
    (record_of k (number bytes body l.first) (number bytes middle l.second), middle + l.second)

-- the record of a kind whose body begins at a place, if the kind is known and the body all there
unfoldable pub body_at : List ℕ → ℕ → Result Kind UnknownKind → Next
body_at bytes body (Ok k) =
    let l = layout_of k in
    cond (ltb (length bytes) (body + l.first + l.second)) (Err Cut) (Ok (whole_at bytes body k))
body_at bytes body (Err e) = Err Unknown

-- the record at a place, where run records are served or not
unfoldable pub next_record : Bool → List ℕ → ℕ → Next
next_record runs bytes at =
    cond (leb (length bytes) at) (Err End) (body_at bytes (at + 1) (served_kind runs (get_or bytes at 0)))
