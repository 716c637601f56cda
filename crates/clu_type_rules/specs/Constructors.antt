-- What V13 ArgumentType asks, over the tables that it reads: of invocations, and of constructors.
use Rattle.std.specs.Prelude.{ℕ, ◌&&◌, ◌||◌, not, Bool, true, false, List, [], ◌∷◌, slice_get, Option, Some, None}
use Rattle.std.specs.List.{list_all}
use Rattle.std.specs.Option.{option_and_then}
use Rattle.clu_tree.specs.declared.node.NodeKind.{NodeKind}
use Rattle.clu_tree.specs.declared.node.NodeKind.TheVariants as kind
use Rattle.clu_syntax.specs.Items.{Item}
use Rattle.clu_types.specs.declared.term.TypeId.{TypeId}
use Rattle.clu_types.specs.declared.term.Field.{Field}
use Rattle.clu_types.specs.declared.term.Term.{Term}
use Rattle.clu_types.specs.declared.term.Term.TheVariants as term
use Rattle.clu_settle.specs.Names.{names_of}
use Rattle.clu_bindings.specs.Wanted.{is_object_wanted}
use Rattle.clu_name_rules.specs.Components.{component_type, components_of, element_of}
use Rattle.clu_name_rules.specs.Constructors.{has_low_at, term_at as type_term_at}
use Rattle.clu_type_rules.specs.declared.invocation_rules.Fault.TheVariants as fault
use Rattle.clu_type_rules.specs.declared.known.Known.{Known}
use Rattle.clu_type_rules.specs.Included.{may_be}
use Rattle.clu_type_rules.specs.InvocationRules.{some_has_fault}
use Rattle.clu_type_rules.specs.Known.{nodes, kind_in, children, wanted_in, type_at, term_at, first_type}

abbrev pub is_int : Term → Bool
is_int term.Int = true
is_int _ = false

-- a type that is known
abbrev pub is_other_than_int : Option Term → Bool
is_other_than_int (Some its) = not (is_int its)
is_other_than_int None = false

module _ (k : Known) where
  -- the type at a node, if it is known: its components, and the type of its elements
  abbrev pub components_at : ℕ → Option (List Field)
  components_at of = option_and_then components_of (type_term_at k.tables of)

  abbrev pub element_at : ℕ → Option TypeId
  element_at of = option_and_then element_of (type_term_at k.tables of)

  -- the value of a component is included in the type of each of its selectors
  abbrev pub component_fits : List Field → ℕ → Bool
  component_fits fields c = list_all (λ name. may_be k.tables.types.now (first_type k (children k c)) (component_type fields name)) (names_of (slice_get (nodes k) c))

  abbrev pub some_component_misfits : Option (List Field) → List ℕ → Bool
  some_component_misfits (Some fields) components = not (list_all (component_fits fields) components)
  some_component_misfits None components = false

  -- an element is included in the type of elements
  abbrev pub element_fits : Option TypeId → ℕ → Bool
  element_fits of e = may_be k.tables.types.now (type_at k e) of

  -- the low bound stands before the elements
  abbrev pub some_element_misfits : Bool → Option TypeId → List ℕ → Bool
  some_element_misfits false of elements = not (list_all (element_fits of) elements)
  some_element_misfits true of (low ∷ elements) = is_other_than_int (term_at k low) || not (list_all (element_fits of) elements)
  some_element_misfits true of [] = false

  module _ (items : ℕ → Item) where
    -- the parts of a constructor of this kind don't fit the type at the node of
    abbrev pub parts_misfit : NodeKind → ℕ → ℕ → List ℕ → Bool
    parts_misfit kind.Fields n of parts = some_component_misfits (components_at of) parts
    parts_misfit kind.Elems n of parts = some_element_misfits (has_low_at items (nodes k) n) (element_at of) parts
    parts_misfit _ n of parts = false

    -- the type stands first
    abbrev pub has_misfit : NodeKind → ℕ → List ℕ → Bool
    has_misfit its n (of ∷ parts) = parts_misfit its n of parts
    has_misfit its n [] = false

    -- a constructor where an object is wanted
    abbrev pub is_misfit : ℕ → Bool
    is_misfit n = is_object_wanted (wanted_in k n) && has_misfit (kind_in k n) n (children k n)

    -- V13: an argument's type isn't included in the formal's, or what is invoked is no routine; a component's or element's type
    -- isn't included in that of the constructor, or the low bound isn't an int
    abbrev pub v13 : ℕ → Bool
    v13 n = some_has_fault k fault.ArgumentTypes n || is_misfit n
