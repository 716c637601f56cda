-- What is read of an expression beside its operands, where the type that is noted of it comes of what its names and types stand for.
use Rattle.std.specs.Prelude.{◌≡◌, ℕ, Bool, true, false, List, [], ◌∷◌, slice_get, Option, Some, None}
use Rattle.std.specs.List.{AllByRecursion}
use Rattle.clu_tree.specs.declared.node.NodeKind.TheVariants as kind
use Rattle.clu_base.specs.declared.constants.Const.{Const}
use Rattle.clu_types.specs.CluType.{CluType, no_actuals}
use Rattle.clu_types.specs.declared.term.Term.{Term}
use Rattle.clu_syntax.specs.Items.{Item}
use Rattle.clu_syntax.specs.Syntax.{Identifier, Expression, a_name, an_index, fields, elements, elements_from, an_operation, a_force, an_up, a_down}
use Rattle.clu_meaning.specs.Settling.{Value as Settled, settled_type, settled_constant, settled_parameter, unsettled, module_type, type_settled, actuals_settled}
use Rattle.clu_settle.specs.declared.value.Value.{Value}
use Rattle.clu_settle.specs.declared.value.Value.TheVariants as value
use Rattle.clu_settle.specs.Lists.{type_id}
use Rattle.clu_bindings.specs.declared.file.File.{File as Read}
use Rattle.clu_bindings.specs.declared.file.Headed.{Headed}
use Rattle.clu_bindings.specs.declared.meaning.Meaning.{Meaning}
use Rattle.clu_bindings.specs.declared.meaning.Meaning.TheVariants as meant
use Rattle.clu_bindings.specs.declared.meaning.ModuleId.{ModuleId}
use Rattle.clu_bindings.specs.Inside as bound
use Rattle.clu_bindings.specs.Named as named
use Rattle.clu_bindings.specs.Readers.{children_in, kind_in, meaning_in, value_in}
use Rattle.clu_checking.specs.Files.{File, item, meaning, denotes_module}
use Rattle.clu_checking.specs.Headings.{known_inside, own_type, parameter_type}
use Rattle.clu_checking.specs.Settled.{value_settled}
use Rattle.clu_checking.specs.Typing.{representation, takes_actuals}
use Rattle.clu_typing.specs.Nodes.{first_settled, has_actuals, names_module}
use Rattle.clu_passes.specs.ConstantTables.{IsIndexKnown, IsKnown, Means}
use Rattle.clu_passes.specs.FactTables.{IsType}

-- the node of the type of a variable
abbrev pub variable_of : Meaning → Option ℕ
variable_of (meant.Local t) = Some t
variable_of (meant.OwnOfRoutine t) = Some t
variable_of (meant.OwnOfCluster t) = Some t
variable_of _ = None

-- the type that stands first in a node
abbrev pub IsTypeKnown : Read → List ℕ → Type 0
IsTypeKnown r [] = Unit {0}
IsTypeKnown r (c ∷ cs) = IsKnown r c

-- Of a name with actual parameters at which nothing is lost it is known what stands in its brackets, and of a type by its name the type.
pub record AreActualsKnown (r : Read) (lost : ℕ → Bool) : Type 0 where
  pub index : (n : ℕ) → lost n ≡ false → kind_in r n ≡ kind.Index → AllByRecursion (IsKnown r) (children_in r n) × IsIndexKnown r n
  pub type : (n : ℕ) → lost n ≡ false → kind_in r n ≡ kind.NameT → AllByRecursion (IsKnown r) (children_in r n) × IsKnown r n

module _ (f : File) (h : Headed) (items : ℕ → Item) (terms : List Term) where
  -- a value is known, and is so
  abbrev pub IsValueKnown : Value → Settled → Type 0
  IsValueKnown value.Nothing s = s ≡ unsettled
  IsValueKnown value.Lost s = ⊥
  IsValueKnown (value.Type id) s = (t : CluType) × (s ≡ settled_type t)
  IsValueKnown (value.Constant place) s = (c : Const) × (slice_get h.file.constants.now place ≡ Some c) × (s ≡ settled_constant c)
  IsValueKnown (value.Parameter k) s = s ≡ settled_parameter k

  -- of a name that is the expression at the node n
  pub record IsNameKnown (n m : ℕ) (name : Identifier) : Type 0 where
    pub means : Means f.nodes (meaning_in h.file n) (meaning f m name)
    pub equate : (c : ℕ) → meaning_in h.file n ≡ meant.Equate c → IsValueKnown (value_in h.file c) (value_settled f.scope (item f c).constant)
    pub parameters : (k : ℕ) → IsType terms (named.parameter_type h.file terms n k) (parameter_type f m k)
    pub variables : (t : ℕ) → variable_of (meaning_in h.file n) ≡ Some t → IsType terms (bound.known_inside h items n t) (known_inside f m (item f t).type)
    pub own : IsType terms (bound.own_type h.file n) (own_type f m)
    pub instance : (id : Option ModuleId) → meaning_in h.file n ≡ meant.Module id → IsType terms (type_id (value_in h.file n)) (Some (module_type name no_actuals))

  module _ (n : ℕ) where
    abbrev pub HasTypes : Expression → Type 0
    HasTypes (a_name m name) = IsNameKnown n m name
    HasTypes (an_index m (a_name k name) cs) = (has_actuals h.file n ≡ takes_actuals f k name) × (names_module h.file n ≡ denotes_module f (meaning f k name)) × (names_module h.file n ≡ true → IsType terms (type_id (value_in h.file n)) (Some (module_type name (actuals_settled f.scope cs))))
    HasTypes (an_index m e cs) = has_actuals h.file n ≡ false
    HasTypes (fields m t cs) = IsType terms (first_settled h.file n) (Some (type_settled f.scope t))
    HasTypes (elements m t es) = IsType terms (first_settled h.file n) (Some (type_settled f.scope t))
    HasTypes (elements_from m t e es) = IsType terms (first_settled h.file n) (Some (type_settled f.scope t))
    HasTypes (an_operation m t name) = IsType terms (first_settled h.file n) (Some (type_settled f.scope t))
    HasTypes (a_force m t) = IsType terms (first_settled h.file n) (Some (type_settled f.scope t))
    HasTypes (an_up m e) = IsType terms (bound.own_type h.file n) (own_type f m)
    HasTypes (a_down m e) = IsType terms (bound.representation h n) (representation f m)
    HasTypes _ = Unit {0}
