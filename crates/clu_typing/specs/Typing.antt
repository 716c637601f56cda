-- The types of expressions, by what is known of the nodes before.
use Rattle.std.specs.Prelude.{◌≡◌, ◌<◌, ℕ, Bool, true, false, List, [], ◌∷◌, codes, length, option_map, slice_get, Option, Some, None}
use Rattle.clu_base.specs.declared.constants.Const.{Const}
use Rattle.clu_base.specs.declared.constants.Const.TheVariants as constant
use Rattle.clu_constants.specs.declared.outline.Outline.{Outline}
use Rattle.clu_constants.specs.declared.outline.Outline.TheVariants as outline
use Rattle.clu_types.specs.CluType.{CluType, null_type, bool_type, int_type, char_type, string_type, any_type, proc_of, no_types, type_and, no_signals, signal_and}
use Rattle.clu_types.specs.Arena.{type_at, types_of}
use Rattle.clu_types.specs.declared.term.TypeId.{TypeId}
use Rattle.clu_types.specs.declared.term.Exception.{Exception}
use Rattle.clu_types.specs.declared.term.Term.{Term}
use Rattle.clu_types.specs.declared.term.Term.TheVariants as term
use Rattle.clu_syntax.specs.declared.words.Operator.{Operator}
use Rattle.clu_syntax.specs.declared.words.Operator.TheVariants as op
use Rattle.clu_syntax.specs.Kinds.{is_expression}
use Rattle.clu_syntax.specs.Items.{Item}
use Rattle.clu_syntax.specs.Nodes.{item_with}
use Rattle.clu_syntax.specs.Syntax.{Literal, nil, true_literal, false_literal, integer, real, character, string, Expression, an_infix, a_prefix, a_paren, a_literal, a_name, an_index, a_get, a_call, fields, elements, elements_from, an_operation, a_force, an_up, a_down}
use Rattle.clu_settle.specs.declared.value.Value.{Value}
use Rattle.clu_settle.specs.declared.value.Value.TheVariants as value
use Rattle.clu_settle.specs.Lists.{type_id}
use Rattle.clu_bindings.specs.declared.file.File.{File}
use Rattle.clu_bindings.specs.declared.file.Headed.{Headed}
use Rattle.clu_bindings.specs.declared.meaning.Meaning.{Meaning}
use Rattle.clu_bindings.specs.declared.meaning.Meaning.TheVariants as meaning
use Rattle.clu_bindings.specs.Readers.{kind_in, value_in, meaning_in}
use Rattle.clu_bindings.specs.Named.{parameter_type}
use Rattle.clu_bindings.specs.Inside.{own_type, representation, known_inside}
use Rattle.clu_operations.specs.declared.finding.Finding.{Finding}
use Rattle.clu_operations.specs.Finding.{IsBelowIf}
use Rattle.clu_operations.specs.Wished.{IsFinding}
use Rattle.clu_typing.specs.declared.applied.Applied.{Applied}
use Rattle.clu_typing.specs.declared.applied.Applied.TheVariants as applied
use Rattle.clu_typing.specs.Applied.{result_of}
use Rattle.clu_typing.specs.Facts.{type_found}
use Rattle.clu_typing.specs.Found.{IsModuleType}
use Rattle.clu_typing.specs.Nodes.{has_actuals, names_module, first_type, first_settled}

-- both are nothing, or the number is that of the type
abbrev pub IsType : List Term → Option TypeId → Option CluType → Type 0
IsType terms (Some id) (Some t) = (id.0 < length terms) × (t ≡ type_at (types_of terms) id)
IsType terms None None = Unit {0}
IsType terms _ _ = ⊥

-- ---- literals and constants

abbrev pub literal_type : Literal → Option CluType
literal_type nil = Some null_type
literal_type true_literal = Some bool_type
literal_type false_literal = Some bool_type
literal_type (integer digits) = Some int_type
literal_type (real text) = None
literal_type (character text) = Some char_type
literal_type (string text) = Some string_type

abbrev pub constant_type : Const → CluType
constant_type constant.Null = null_type
constant_type (constant.Bool b) = bool_type
constant_type (constant.Int n) = int_type
constant_type (constant.Char c) = char_type
constant_type (constant.Str bytes) = string_type

-- the same without its text
abbrev pub outline_type : Outline → CluType
outline_type outline.Null = null_type
outline_type (outline.Bool b) = bool_type
outline_type (outline.Int n) = int_type
outline_type (outline.Char c) = char_type
outline_type (outline.Str n) = string_type

-- ---- force[t]

unfoldable pub wrong_type : List Exception
wrong_type = record { name = codes "wrong_type"; objects = [] } ∷ []

abbrev pub force_term : TypeId → TypeId → Term
force_term any to = term.Proc (record { args = any ∷ []; results = to ∷ []; signals = wrong_type })

unfoldable pub force_type : CluType → CluType
force_type t = proc_of (type_and any_type no_types) (type_and t no_types) (signal_and (codes "wrong_type") no_types no_signals)

-- ---- that for which a node stands

abbrev pub applied_type : List Term → Finding → Applied → Option TypeId
applied_type terms finding (applied.Invoked first (Some last)) = result_of terms (type_found finding last.operation)
applied_type terms finding (applied.Invoked last None) = result_of terms (type_found finding last.operation)
applied_type terms finding (applied.Named (Some its)) = type_found finding its.operation
applied_type terms finding (applied.Named None) = None
applied_type terms finding applied.Nothing = None

-- ---- what the types of nodes are, where the terms of types have grown from old to new

module _ (old new : List Term) where
  abbrev pub IsForceType : Option TypeId → Option TypeId → Type 0
  IsForceType (Some to) of = to.0 < length old → IsType new of (Some (force_type (type_at (types_of old) to)))
  IsForceType None of = of ≡ None

  module _ (f : File) (n : ℕ) where
    -- of a value that stands at the node
    abbrev pub IsValueType : Value → Option TypeId → Type 0
    IsValueType (value.Constant place) of = IsType new of (option_map constant_type (slice_get f.constants.now place))
    IsValueType (value.Parameter number) of = of ≡ parameter_type f old n number
    IsValueType _ of = of ≡ None

  module _ (finding : Finding) (its : Applied) where
    abbrev pub IsInfixType : Operator → Option TypeId → Type 0
    IsInfixType op.Cand of = IsType new of (Some bool_type)
    IsInfixType op.Cor of = IsType new of (Some bool_type)
    IsInfixType _ of = of ≡ applied_type old finding its

  module _ (before after : Finding) (h : Headed) (n : ℕ) where
    -- of the routine of the module with actual parameters to which the node comes
    abbrev pub IsInstanceType : Option TypeId → Type 0
    IsInstanceType of = IsBelowIf (length old) (type_id (value_in h.file n)) → IsFinding h old before → IsModuleType h new after (type_id (value_in h.file n)) of

    module _ (its : Applied) where
      abbrev pub IsIndexTypeBy : Bool → Bool → Option TypeId → Type 0
      IsIndexTypeBy false named of = of ≡ applied_type old before its
      IsIndexTypeBy true false of = of ≡ None
      IsIndexTypeBy true true of = IsInstanceType of

      abbrev pub IsIndexType : Option TypeId → Type 0
      IsIndexType of = IsIndexTypeBy (has_actuals h.file n) (names_module h.file n) of

      abbrev pub IsNameType : (ℕ → Item) → Meaning → Option TypeId → Type 0
      IsNameType items (meaning.Equate right) of = IsValueType h.file n (value_in h.file right) of
      IsNameType items (meaning.ConstantParameter number) of = of ≡ parameter_type h.file old n number
      IsNameType items (meaning.Local t) of = of ≡ known_inside h items n t
      IsNameType items (meaning.OwnOfRoutine t) of = of ≡ known_inside h items n t
      IsNameType items (meaning.OwnOfCluster t) of = of ≡ known_inside h items n t
      IsNameType items meaning.RoutineOfCluster of = of ≡ applied_type old before its
      IsNameType items (meaning.Module id) of = IsInstanceType of
      IsNameType items meaning.TypeSet of = of ≡ None
      IsNameType items (meaning.TypeParameter number) of = of ≡ None

      module _ (known : List (Option TypeId)) where
        unfoldable pub IsTypeBy : (ℕ → Item) → Expression → Option TypeId → Type 0
        IsTypeBy items (an_infix m o a b) of = IsInfixType before its o of
        IsTypeBy items (a_prefix m s e) of = of ≡ applied_type old before its
        IsTypeBy items (a_paren m e) of = of ≡ first_type h.file known n
        IsTypeBy items (a_literal m literal) of = IsType new of (literal_type literal)
        IsTypeBy items (a_name m name) of = IsNameType items (meaning_in h.file n) of
        IsTypeBy items (an_index m e cs) of = IsIndexType of
        IsTypeBy items (a_get m e name) of = of ≡ applied_type old before its
        IsTypeBy items (a_call m e es) of = of ≡ result_of old (first_type h.file known n)
        IsTypeBy items (fields m t cs) of = of ≡ first_settled h.file n
        IsTypeBy items (elements m t es) of = of ≡ first_settled h.file n
        IsTypeBy items (elements_from m t e es) of = of ≡ first_settled h.file n
        IsTypeBy items (an_operation m t name) of = of ≡ applied_type old before its
        IsTypeBy items (a_force m t) of = IsForceType (first_settled h.file n) of
        IsTypeBy items (an_up m e) of = of ≡ own_type h.file n
        IsTypeBy items (a_down m e) of = of ≡ representation h n

        abbrev pub IsTypeHere : (ℕ → Item) → Option TypeId → Type 0
        IsTypeHere items of = IsTypeBy items (item_with items h.file.syntax.now n (slice_get h.file.syntax.now n)).expression of

        abbrev pub IsNodeTypeIf : Bool → (ℕ → Item) → Option TypeId → Type 0
        IsNodeTypeIf true items of = IsTypeHere items of
        IsNodeTypeIf false items of = of ≡ None

        -- of the node, if it is an expression
        abbrev pub IsNodeType : (ℕ → Item) → Option TypeId → Type 0
        IsNodeType items of = IsNodeTypeIf (is_expression (kind_in h.file n)) items of
