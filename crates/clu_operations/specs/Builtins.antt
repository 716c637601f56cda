-- The operations of built-in types. That of a selector is found on the type with this component alone, in whose place the whole
-- type is put.
use Rattle.std.specs.Prelude.{◌≡◌, ℕ, ◌==◌, Bool, true, false, List, [], ◌∷◌, map, option_to_list, bytes_eq, if◌then◌else◌, ◌⊎◌, Option, Some, None}
use Rattle.clu_types.specs.CluType.{CluType, record_of, struct_of, oneof_of, variant_of, proc_of, iter_of, CluTypes, no_types, type_and, Fields, no_fields, field_and}
use Rattle.clu_types.specs.Arena.{type_at, types_at, type_of, PartsBelow}
use Rattle.clu_types.specs.declared.term.TypeId.{TypeId}
use Rattle.clu_types.specs.declared.term.Field.{Field}
use Rattle.clu_types.specs.declared.term.Heading.{Heading}
use Rattle.clu_types.specs.declared.term.Term.{Term}
use Rattle.clu_types.specs.declared.term.Term.TheVariants as term
use Rattle.clu_builtin.specs.declared.lookup.Builtin.{Builtin}
use Rattle.clu_builtin.specs.Operation.{Needed, Operation}
use Rattle.clu_builtin.specs.Table.{operation}
use Rattle.clu_operations.specs.ByName.{AreAscending, first_named}
use Rattle.clu_operations.specs.Told.{Ask, Told}

-- what stands behind the first `_`
abbrev pub selector_in : List ℕ → Option (List ℕ)
selector_in [] = None
selector_in (c ∷ cs) = if c == 95 then Some cs else selector_in cs

-- ---- the component of a name alone

abbrev pub field_name : Field → List ℕ
field_name field = field.name

abbrev pub only : List ℕ → List Field → List Field
only name fields = option_to_list (first_named field_name name fields)

-- components and tags
abbrev pub fields_of : Term → List Field
fields_of (term.Record fields) = fields
fields_of (term.Struct fields) = fields
fields_of (term.Oneof fields) = fields
fields_of (term.Variant fields) = fields
fields_of _ = []

-- a type of the same constructor with these, if it is one with components
abbrev pub with_fields : Term → List Field → Option Term
with_fields (term.Record _) fields = Some (term.Record fields)
with_fields (term.Struct _) fields = Some (term.Struct fields)
with_fields (term.Oneof _) fields = Some (term.Oneof fields)
with_fields (term.Variant _) fields = Some (term.Variant fields)
with_fields _ fields = None

abbrev pub term_with : List ℕ → Term → Option Term
term_with name its = with_fields its (only name (fields_of its))

-- the type of a term, or this one
abbrev pub type_or : List CluType → CluType → Option Term → CluType
type_or types t (Some its) = type_of types its
type_or types t None = t

abbrev pub IsWithin : ℕ → Option Term → Type 0
IsWithin n (Some its) = PartsBelow n its
IsWithin n None = Unit {0}

-- ---- the same of types

abbrev pub fields_with : List ℕ → Fields → Fields
fields_with name no_fields = no_fields
fields_with name (field_and selector t fields) = if bytes_eq selector name then field_and selector t no_fields else fields_with name fields

abbrev pub type_with : List ℕ → CluType → CluType
type_with name (record_of fields) = record_of (fields_with name fields)
type_with name (struct_of fields) = struct_of (fields_with name fields)
type_with name (oneof_of fields) = oneof_of (fields_with name fields)
type_with name (variant_of fields) = variant_of (fields_with name fields)
type_with name t = t

abbrev pub narrowed_to : Option (List ℕ) → CluType → CluType
narrowed_to (Some selector) t = type_with selector t
narrowed_to None t = t

-- the type with the component alone of which the operation of this name is, or the whole type
abbrev pub narrowed : List ℕ → CluType → CluType
narrowed operation t = narrowed_to (selector_in operation) t

abbrev pub names_in : Fields → List (List ℕ)
names_in no_fields = []
names_in (field_and selector t fields) = selector ∷ names_in fields

abbrev pub component_names : CluType → List (List ℕ)
component_names (record_of fields) = names_in fields
component_names (struct_of fields) = names_in fields
component_names (oneof_of fields) = names_in fields
component_names (variant_of fields) = names_in fields
component_names _ = []

-- its components ascend by name
abbrev pub ComponentsAscend : CluType → Type 0
ComponentsAscend t = AreAscending (λ (name : List ℕ). name) (component_names t)

-- ---- the whole type in the place of a part

-- u is t, or `of` if t is `part`
abbrev pub IsReplaced : CluType → CluType → CluType → CluType → Type 0
IsReplaced part of t u = ((t ≡ part) × (u ≡ of)) ⊎ ((t ≡ part → ⊥) × (u ≡ t))

abbrev pub AreReplaced : CluType → CluType → CluTypes → CluTypes → Type 0
AreReplaced part of no_types no_types = Unit {0}
AreReplaced part of no_types (type_and u us) = ⊥
AreReplaced part of (type_and t ts) no_types = ⊥
AreReplaced part of (type_and t ts) (type_and u us) = IsReplaced part of t u × AreReplaced part of ts us

-- ... and so in a heading
pub record IsInPlace (types : List CluType) (part of : TypeId) (old new : Heading) : Type 0 where
  pub args : AreReplaced (type_at types part) (type_at types of) (types_at types old.args) (types_at types new.args)
  pub results : AreReplaced (type_at types part) (type_at types of) (types_at types old.results) (types_at types new.results)
  pub signals : new.signals ≡ old.signals

-- ... and in an operation
pub record IsOfWhole (types : List CluType) (part of : TypeId) (old new : Builtin) : Type 0 where
  pub iter : new.iter ≡ old.iter
  pub heading : IsInPlace types part of old.heading new.heading
  pub needs : new.needs ≡ old.needs

-- the term of a routine
abbrev pub routine_term : Bool → Heading → Term
routine_term true h = term.Iter h
routine_term false h = term.Proc h

-- ---- what is told of an operation

-- of a name that may be none
abbrev pub operation_if : CluType → Option (List ℕ) → Option Operation
operation_if t (Some name) = operation t name
operation_if t None = None

abbrev pub builtin_type : Bool → Operation → CluType
builtin_type true op = iter_of op.args op.results op.signals
builtin_type false op = proc_of op.args op.results op.signals

abbrev pub need_told : Needed → Ask
need_told need = record { of = need.of; operation = need.op; wanted = need.wanted; in_set = false }

abbrev pub builtin_told : Operation → Told
builtin_told op = record { type = Some (builtin_type op.iter op); asks = map need_told op.needs }
