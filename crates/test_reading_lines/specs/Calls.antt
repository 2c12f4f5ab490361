-- The calls that a line can make.
use Rattle.std.specs.Prelude.{ℕ, ◌-◌, ◌^◌, cond, List, [], ◌∷◌, drop, Option, None, Some}
use Rattle.std.specs.Option.{option_or, option_map}
use Rattle.std.specs.Str.{bytes_eq}
use Prim.Native.String.{String}
use Rattle.test_reading_lines.specs.declared.call.Setting.{Setting}
use Rattle.test_reading_lines.specs.declared.call.Setting.TheVariants as setting
use Rattle.test_reading_lines.specs.declared.call.Query.{Query}
use Rattle.test_reading_lines.specs.declared.call.Query.TheVariants as query
use Rattle.test_reading_lines.specs.declared.call.Field.{Field}
use Rattle.test_reading_lines.specs.declared.call.Field.TheVariants as field
use Rattle.test_reading_lines.specs.declared.call.Call.{Call}
use Rattle.test_reading_lines.specs.declared.call.Call.TheVariants.{Set, Read, Run, Step, Write, Memory, Put, Bytes}
use Rattle.test_reading_lines.specs.declared.call.Limits.{Limits}
use Rattle.test_reading_lines.specs.Words.{ascii, word_at}
use Rattle.test_reading_lines.specs.Number.{up_to}

-- a value by its name
pub record Form (A : Type 0) : Type 0 where
  pub name : String
  pub value : A

abbrev pub form : {A : Type 0} → String → A → Form A
form name value = record { name = name; value = value }

-- the value of the first form that has a name
abbrev pub named : {A : Type 0} → List (Form A) → List ℕ → Option A
named [] word = None
named (f ∷ forms) word = cond (bytes_eq (ascii f.name) word) (Some f.value) (named forms word)

-- `set-..` sets
abbrev pub settings : List (Form Setting)
settings =
    form "set-vl" setting.Vl
    ∷ form "set-vl-immediate" setting.VlImmediate
    ∷ form "set-mvl" setting.Mvl
    ∷ form "set-cfg" setting.Cfg
    ∷ form "set-entry" setting.Entry
    ∷ form "set-predicate" setting.Predicate
    ∷ form "set-x" setting.X
    ∷ form "set-pc" setting.Pc
    ∷ form "set-state" setting.State
    ∷ []

abbrev pub setting_of : List ℕ → Option Setting
setting_of = named settings

-- a bare name reads
abbrev pub queries : List (Form Query)
queries =
    form "vl" query.Vl
    ∷ form "mvl" query.Mvl
    ∷ form "cfg" query.Cfg
    ∷ form "entry" query.Entry
    ∷ form "predicate" query.Predicate
    ∷ form "x" query.X
    ∷ form "pc" query.Pc
    ∷ form "state" query.State
    ∷ []

abbrev pub query_of : List ℕ → Option Query
query_of = named queries

-- `write-..` writes a field past the calls
abbrev pub fields : List (Form Field)
fields =
    form "write-mvl" field.Mvl
    ∷ form "write-vl" field.Vl
    ∷ form "write-cfg" field.Cfg
    ∷ form "write-source" field.Source
    ∷ form "write-destination" field.Destination
    ∷ form "write-x0" field.X0
    ∷ form "write-predicate" field.Predicate
    ∷ []

abbrev pub field_of : List ℕ → Option Field
field_of = named fields

-- the others
abbrev pub lone_calls : List (Form Call)
lone_calls =
    form "run" Run
    ∷ form "step" Step
    ∷ form "memory" Memory
    ∷ form "put" Put
    ∷ form "bytes" Bytes
    ∷ []

abbrev pub lone_call : List ℕ → Option Call
lone_call = named lone_calls

-- a call by its name, and none for any other word
abbrev pub call_of : List ℕ → Option Call
call_of word =
    option_or (option_map Set (setting_of word))
    (option_or (option_map Read (query_of word)) (option_or (option_map Write (field_of word)) (lone_call word)))

-- the largest number of some bits
abbrev pub largest : ℕ → ℕ
largest bits = 2 ^ bits - 1

-- of the arguments of a call that takes none, one or two
abbrev pub no_limits : Limits
no_limits = record { 0 = None; 1 = None }

abbrev pub one_limit : ℕ → Limits
one_limit most = record { 0 = Some most; 1 = None }

abbrev pub two_limits : ℕ → ℕ → Limits
two_limits first second = record { 0 = Some first; 1 = Some second }

-- the largest number that each argument of a call can be
unfoldable pub limits_of : Call → Limits
limits_of (Set setting.Vl) = one_limit (largest 64)
limits_of (Set setting.VlImmediate) = one_limit (largest 32)
limits_of (Set setting.Mvl) = one_limit (largest 32)
limits_of (Set setting.Cfg) = one_limit (largest 32)
limits_of (Set setting.Entry) = two_limits (largest 32) (largest 16)
limits_of (Set setting.Predicate) = two_limits (largest 32) (largest 16)
limits_of (Set setting.X) = two_limits (largest 32) (largest 64)
limits_of (Set setting.Pc) = one_limit (largest 64)
limits_of (Set setting.State) = one_limit (largest 32)
limits_of (Read query.Vl) = no_limits
limits_of (Read query.Mvl) = no_limits
limits_of (Read query.Cfg) = no_limits
limits_of (Read query.Entry) = one_limit (largest 32)
limits_of (Read query.Predicate) = one_limit (largest 32)
limits_of (Read query.X) = one_limit (largest 32)
limits_of (Read query.Pc) = no_limits
limits_of (Read query.State) = no_limits
limits_of Run = two_limits (largest 32) (largest 16)
limits_of Step = one_limit (largest 32)
limits_of (Write field.Mvl) = one_limit (largest 32)
limits_of (Write field.Vl) = one_limit (largest 32)
limits_of (Write field.Cfg) = one_limit (largest 32)
limits_of (Write field.Source) = one_limit (largest 32)
limits_of (Write field.Destination) = one_limit (largest 32)
limits_of (Write field.X0) = one_limit (largest 64)
limits_of (Write field.Predicate) = two_limits 15 (largest 16)
limits_of Memory = one_limit 128
limits_of Put = two_limits 127 (largest 64)
limits_of Bytes = one_limit 127

-- an argument of a call, by its limit, of the words that are left, and 0 with no word where it takes none
abbrev pub argument_of : Option ℕ → List (List ℕ) → Option ℕ
argument_of None words = Some 0
argument_of (Some most) words = up_to most (word_at 0 words)

abbrev pub after_argument : Option ℕ → List (List ℕ) → List (List ℕ)
after_argument None words = words
after_argument (Some most) words = drop 1 words
