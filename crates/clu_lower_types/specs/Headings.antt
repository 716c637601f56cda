-- Headings by types, and which of the formals of what is invoked are of type any.
use Rattle.std.specs.Prelude.{ℕ, Bool, false, if◌then◌else◌, codes, drop, take, List, [], ◌∷◌, Option, None, Some, option_map}
use Rattle.std.specs.List.{find}
use Rattle.std.specs.Str.{bytes_eq}
use Rattle.clu_types.specs.CluType.{CluType, array_of, record_of, proc_of, iter_of, CluTypes, Fields, no_fields, field_and, Signals}
use Rattle.clu_types.specs.Arena.{signals_at, type_at, types_at, types_of}
use Rattle.clu_types.specs.declared.term.Heading.{Heading}
use Rattle.clu_types.specs.declared.term.TypeId.{TypeId}
use Rattle.clu_types.specs.declared.term.Term.{Term}
use Rattle.clu_types.specs.declared.spec.Spec.{Spec}
use Rattle.clu_types.specs.declared.spec.OpSpec.{OpSpec}
use Rattle.clu_types.specs.declared.spec.Form.{Form}
use Rattle.clu_types.specs.declared.spec.Form.TheVariants as form
use Rattle.clu_core.specs.declared.checked.Checked.{Checked}
use Rattle.clu_core.specs.declared.op_ref.OpRef.{OpRef}
use Rattle.clu_core.specs.declared.op_ref.OpRef.TheVariants as op
use Rattle.clu_lower_types.specs.declared.seen.Seen.{Seen}
use Rattle.clu_lower_types.specs.Types.{any_among, is_any, operation_of, type_of_node}

-- what a routine takes, gives and signals
pub record Signature : Type 0 where
  pub args : CluTypes
  pub results : CluTypes
  pub signals : Signals

-- a heading, by the types of its arena
abbrev pub signature_at : List CluType → Heading → Signature
signature_at types h = record { args = types_at types h.args; results = types_at types h.results; signals = signals_at types h.signals }

abbrev pub signature_of : CluType → Option Signature
signature_of (proc_of args results signals) = Some (record { args = args; results = results; signals = signals })
signature_of (iter_of args results signals) = Some (record { args = args; results = results; signals = signals })
signature_of _ = None

abbrev pub signature_if : List CluType → Option TypeId → Option Signature
signature_if types None = None
signature_if types (Some of) = signature_of (type_at types of)

-- the heading of the routine that an expression is
abbrev pub heading_of : Checked → ℕ → Option Signature
heading_of c n = signature_if (types_of c.types) (type_of_node c n)

-- the heading of the operation that the sugar at a node invokes, if it is of no built-in type
abbrev pub signature_seen : Seen → Signature
signature_seen seen = signature_at (types_of seen.types.value) seen.heading.value

-- ---- operations that a cluster exports

abbrev pub operations_in : Form → List OpSpec
operations_in (form.Cluster demands ops) = ops
operations_in (form.Routine routine) = []

abbrev pub heading_with : List Term → OpSpec → List Term × Heading
heading_with types op = (types, op.heading)

abbrev pub operation_among : List Term → List OpSpec → List ℕ → Option (List Term × Heading)
operation_among types ops name = option_map (heading_with types) (find (λ (o : OpSpec). bytes_eq o.name name) ops)

abbrev pub operation_if : Option Spec → List ℕ → Option (List Term × Heading)
operation_if (Some spec) name = operation_among spec.types (operations_in spec.form) name
operation_if None name = None

-- the heading of an operation that a cluster exports, with the arena of its types
abbrev pub exported_operation : Checked → List ℕ → List ℕ → Option (List Term × Heading)
exported_operation c cluster name = operation_if (find (λ (s : Spec). bytes_eq s.name cluster) c.specs.items) name

-- ---- formals of type any

-- the component of this selector is of type any
abbrev pub holds_any : Fields → List ℕ → Bool
holds_any no_fields selector = false
holds_any (field_and name t fs) selector = if bytes_eq name selector then is_any t else holds_any fs selector

-- the operation sets a component of type any
abbrev pub sets_any : Fields → List ℕ → Bool
sets_any fs op = if bytes_eq (take 4 op) (codes "set_") then holds_any fs (drop 4 op) else false

abbrev pub array_formals : Bool → List ℕ → List Bool
array_formals any op = if bytes_eq op (codes "store") then false ∷ false ∷ any ∷ [] else []

-- of the operations that sugar stands for, store takes an element and set takes a component
abbrev pub builtin_formals : CluType → List ℕ → List Bool
builtin_formals (array_of t) op = array_formals (is_any t) op
builtin_formals (record_of fs) op = false ∷ sets_any fs op ∷ []
builtin_formals _ op = []

abbrev pub formals_of : List CluType → Option OpRef → Option (List Bool)
formals_of types (Some (op.Builtin of name)) = Some (builtin_formals (type_at types of) name)
formals_of types _ = None

-- for each formal of the operation of a node, whose heading is this one if it is of no built-in type, whether it is of
-- type any; those that aren't listed are of other types
abbrev pub any_formals : Checked → ℕ → Option Signature → Option (List Bool)
any_formals c n (Some seen) = Some (any_among seen.args)
any_formals c n None = formals_of (types_of c.types) (operation_of c n)
