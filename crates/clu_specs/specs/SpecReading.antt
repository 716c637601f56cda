-- Specifications read from their texts. 32 is a blank, 35 is #, 44 is a comma, 58 and 59 are : and ;, 61 is =, 91 and 93
-- are [ and ], 99 and 105 are the first letters of cluster and iter.
use Rattle.std.specs.Prelude.{ℕ, ◌+◌, Bool, true, false, not, ◌||◌, ◌==◌, nat_le, nat_lt, if◌then◌else◌, List, [], ◌∷◌, ◌++◌, length, map, codes, Option, Some, None, Result, Ok, Err}
use Rattle.std.specs.Str.{bytes_eq}
use Rattle.clu_types.specs.declared.spec.ParamKind.{ParamKind}
use Rattle.clu_types.specs.CluType.{CluType}
use Rattle.clu_specs.specs.declared.read_kinds.TheConstants.{KINDS}
use Rattle.clu_specs.specs.declared.scope.Sort.TheVariants as sort
use Rattle.clu_specs.specs.declared.scope.Scope.{Scope}
use Rattle.clu_specs.specs.Reading.{◌>>=◌, Read, literal_at, behind, begins_with, several, end_at}
use Rattle.clu_specs.specs.Names.{name_after, has_later}
use Rattle.clu_specs.specs.Scopes.{number_at, last_in, scope_of}
use Rattle.clu_specs.specs.TypeReading.{Reader, type_read, heading_read}
use Rattle.clu_specs.specs.Seen.{Demanded, Operation, Shape, routine, cluster, Specification}

-- proc or iter
unfoldable pub routine_word_read : Reader Bool
routine_word_read bytes =
    if begins_with 105 bytes then (literal_at (codes "iter") bytes >>= λ rest. Ok (true, rest)) else
    literal_at (codes "proc") bytes >>= λ rest. Ok (false, rest)

-- whether both have a first byte, the same
abbrev pub begin_alike : List ℕ → List ℕ → Bool
begin_alike [] bytes = false
begin_alike (b ∷ word) bytes = begins_with b bytes

-- the kind of the first entry whose word begins as the text does
abbrev pub kind_in : List (List ℕ × ParamKind) → Reader ParamKind
kind_in [] bytes = Err (length bytes)
kind_in (entry ∷ others) bytes = if begin_alike entry.0 bytes then (literal_at entry.0 bytes >>= λ rest. Ok (entry.1, rest)) else kind_in others bytes

unfoldable pub kind_read : Reader ParamKind
kind_read bytes = kind_in (map (λ entry. (entry.0.now, entry.1)) KINDS) bytes

abbrev pub kinds_step : List ParamKind → List ℕ → Read (List ParamKind)
kinds_step made bytes = kind_read bytes >>= λ k. Ok (made ++ k.0 ∷ [], k.1)

-- a comma, where another parameter may follow so many
abbrev pub next_kind : ℕ → List ℕ → Option (List ℕ)
next_kind count rest = if nat_lt count 4294967295 then behind 44 rest else None

abbrev pub kinds_next : List ParamKind → List ℕ → Option (List ℕ)
kinds_next made rest = next_kind (length made) rest

unfoldable pub kinds_read : Reader (List ParamKind)
kinds_read bytes = several kinds_step kinds_next (length bytes) [] bytes

unfoldable pub parameters_by : Option (List ℕ) → Reader (List ParamKind)
parameters_by None bytes = Ok ([], bytes)
parameters_by (Some rest) bytes = kinds_read rest >>= λ ks. literal_at (93 ∷ []) ks.1 >>= λ rest. Ok (ks.0, rest)

-- the kinds of the parameters in brackets, or none
abbrev pub parameters_read : Reader (List ParamKind)
parameters_read bytes = parameters_by (behind 91 bytes) bytes

-- the least parameter of a demand after one
abbrev pub least_behind : ℕ → List ℕ → ℕ
least_behind param name = if has_later name then param else param + 1

-- a demand's parameter and name after those of another, up to the colon
unfoldable pub asked_read : Scope → ℕ → List ℕ → Reader (ℕ × List ℕ)
asked_read scope param previous bytes =
    literal_at (35 ∷ []) bytes >>= λ rest. number_at scope sort.Type (least_behind param previous) rest >>= λ asked.
    literal_at (codes " has ") asked.1 >>= λ rest. name_after (if asked.0 == param then previous else []) 200 rest >>= λ name.
    literal_at (58 ∷ []) name.1 >>= λ rest. Ok ((asked.0, name.0), rest)

-- what the comma is followed by, where a demand after that of a parameter and a name is possible
abbrev pub next_demand : Scope → ℕ → List ℕ → List ℕ → Option (List ℕ)
next_demand scope param name rest = if nat_le (least_behind param name) (last_in scope sort.Type) then behind 44 rest else None

-- an operation's name after that of another, and whether it is an iterator
unfoldable pub operation_word_read : List ℕ → Reader (List ℕ × Bool)
operation_word_read previous bytes =
    literal_at (59 ∷ []) bytes >>= λ rest. name_after previous 200 rest >>= λ name. literal_at (58 ∷ []) name.1 >>= λ rest.
    routine_word_read rest >>= λ iter. Ok ((name.0, iter.0), iter.1)

-- the text of the next operation, which begins with its ;
abbrev pub next_operation : List ℕ → List ℕ → Option (List ℕ)
next_operation name rest = if not (has_later name) || not (begins_with 59 rest) then None else Some rest

module _ (scope : Scope) (part : Reader CluType) where
  -- a demand after that of a parameter and a name
  unfoldable pub demand_read : ℕ → List ℕ → Reader Demanded
  demand_read param previous bytes =
      asked_read scope param previous bytes >>= λ asked. part asked.1 >>= λ t. Ok (record { param = asked.0.0; op = asked.0.1; wanted = t.0 }, t.1)

  -- those that were read, with the parameter and the name of the last
  abbrev pub demands_step : List Demanded × ℕ × List ℕ → List ℕ → Read (List Demanded × ℕ × List ℕ)
  demands_step made bytes = demand_read made.1 made.2 bytes >>= λ d. Ok ((made.0 ++ d.0 ∷ [], d.0.param, d.0.op), d.1)

  abbrev pub demands_next : List Demanded × ℕ × List ℕ → List ℕ → Option (List ℕ)
  demands_next made rest = next_demand scope made.1 made.2 rest

  unfoldable pub demands_read : Reader (List Demanded)
  demands_read bytes = several demands_step demands_next (length bytes) ([], 0, []) bytes >>= λ x. Ok (x.0.0, x.1)

  -- a where clause, or nothing
  unfoldable pub all_demands_read : Reader (List Demanded)
  all_demands_read bytes =
      if not (begins_with 32 bytes) || not (nat_le 1 (last_in scope sort.Type)) then Ok ([], bytes) else
      literal_at (codes " where ") bytes >>= λ rest. demands_read rest >>= λ ds. literal_at (32 ∷ []) ds.1 >>= λ rest. Ok (ds.0, rest)

  -- a routine after its parameters
  unfoldable pub operation_read : List ℕ → Bool → Reader Operation
  operation_read name iter bytes =
      heading_read part iter bytes >>= λ h. all_demands_read h.1 >>= λ ds.
      Ok (record { name = name; iter = iter; args = h.0.0; results = h.0.1; signals = h.0.2; demands = ds.0 }, ds.1)

  -- an operation after that of a name
  unfoldable pub named_operation_read : List ℕ → Reader Operation
  named_operation_read previous bytes = operation_word_read previous bytes >>= λ word. operation_read word.0.0 word.0.1 word.1

  abbrev pub operations_step : List Operation × List ℕ → List ℕ → Read (List Operation × List ℕ)
  operations_step made bytes = named_operation_read made.1 bytes >>= λ op. Ok ((made.0 ++ op.0 ∷ [], op.0.name), op.1)

  abbrev pub operations_next : List Operation × List ℕ → List ℕ → Option (List ℕ)
  operations_next made rest = next_operation made.1 rest

  unfoldable pub operations_read : Reader (List Operation)
  operations_read bytes = several operations_step operations_next (length bytes) ([], []) bytes >>= λ x. Ok (x.0.0, x.1)

  -- the demands and operations of a cluster
  unfoldable pub cluster_form_read : Reader Shape
  cluster_form_read bytes =
      all_demands_read bytes >>= λ ds. literal_at (codes "is") ds.1 >>= λ rest. operations_read rest >>= λ ops.
      Ok (cluster ds.0 ops.0, ops.1)

  -- a routine, and the demands and operations of a cluster, to the end of a text
  unfoldable pub last_operation_read : List ℕ → Bool → List ℕ → Result Operation ℕ
  last_operation_read name iter bytes = operation_read name iter bytes >>= λ op. end_at op.0 op.1

  unfoldable pub last_form_read : List ℕ → Result Shape ℕ
  last_form_read bytes = cluster_form_read bytes >>= λ shape. end_at shape.0 shape.1

-- a routine's specification after its parameters, to the end; types are nested so deep at most
abbrev pub routine_over : List ℕ → Bool → List ParamKind → ℕ → List ℕ → Result Specification ℕ
routine_over name iter kinds depth bytes =
    operation_read (scope_of kinds) (type_read (scope_of kinds) depth) name iter bytes >>= λ op.
    end_at (record { name = name; kinds = kinds; shape = routine op.0 }) op.1

-- and after its =
unfoldable pub routine_read : List ℕ → ℕ → List ℕ → Result Specification ℕ
routine_read name depth bytes = routine_word_read bytes >>= λ iter. parameters_read iter.1 >>= λ kinds. routine_over name iter.0 kinds.0 depth kinds.1

abbrev pub cluster_over : List ℕ → List ParamKind → ℕ → List ℕ → Result Specification ℕ
cluster_over name kinds depth bytes =
    cluster_form_read (scope_of kinds) (type_read (scope_of kinds) depth) bytes >>= λ shape.
    end_at (record { name = name; kinds = kinds; shape = shape.0 }) shape.1

unfoldable pub cluster_read : List ℕ → ℕ → List ℕ → Result Specification ℕ
cluster_read name depth bytes = literal_at (codes "cluster") bytes >>= λ rest. parameters_read rest >>= λ kinds. cluster_over name kinds.0 depth kinds.1

-- a text that is a specification, and nothing more
unfoldable pub whole_spec : List ℕ → Result Specification ℕ
whole_spec bytes =
    name_after [] 200 bytes >>= λ name.
    if bytes_eq name.0 (codes "stream") then Err (length name.1) else
    literal_at (61 ∷ []) name.1 >>= λ rest.
    if begins_with 99 rest then cluster_read name.0 (length bytes) rest else routine_read name.0 (length bytes) rest
