-- Uses read from their texts. 36 is $.
use Rattle.std.specs.Prelude.{ℕ, ◌==◌, if◌then◌else◌, List, [], ◌∷◌, length, codes, Result, Ok, Err}
use Rattle.std.specs.Str.{bytes_eq}
use Rattle.clu_types.specs.CluType.{CluType, cluster_of}
use Rattle.clu_specs.specs.declared.read_uses.Operation.{Operation}
use Rattle.clu_specs.specs.declared.read_uses.Operation.TheVariants as operation
use Rattle.clu_specs.specs.Reading.{◌>>=◌, literal_at, end_at}
use Rattle.clu_specs.specs.Names.{name_after, first_word, behind_word}
use Rattle.clu_specs.specs.Scopes.{any_scope}
use Rattle.clu_specs.specs.TypeReading.{type_read}
use Rattle.clu_specs.specs.Seen.{Used, a_module, an_operation, own_set_up, force_of}

-- a module and its actual parameters were read as a cluster type
abbrev pub module_of : CluType → Result Used ℕ
module_of (cluster_of name given) = Ok (a_module name given)
module_of _ = Err 0

-- an operation of a type
abbrev pub operation_seen : CluType → Operation → Used
operation_seen t (operation.Named name) = an_operation t name
operation_seen t operation.Own = own_set_up t
operation_seen t operation.Force = force_of t

-- what stands after a type in a use, from its $ to the end
unfoldable pub operation_read : List ℕ → Result Operation ℕ
operation_read bytes =
    literal_at (36 ∷ []) bytes >>= λ rest.
    if bytes_eq (first_word rest) (codes "own") then end_at operation.Own (behind_word rest) else
    if bytes_eq (first_word rest) (codes "force") then end_at operation.Force (behind_word rest) else
    name_after [] 204 rest >>= λ name. end_at (operation.Named name.0) name.1

-- a text that is a use, and nothing more
unfoldable pub whole_use : List ℕ → Result Used ℕ
whole_use bytes =
    type_read any_scope (length bytes) bytes >>= λ t.
    if length t.1 == 0 then module_of t.0 else (operation_read t.1 >>= λ op. Ok (operation_seen t.0 op))
