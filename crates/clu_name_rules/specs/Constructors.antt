-- The rule on selectors and constructors over the tables that it reads: V17 Selectors.
use Rattle.std.specs.Prelude.{ℕ, ◌&&◌, ◌||◌, not, length, is_none, Bool, true, false, List, [], ◌∷◌, slice_get, Option, Some, None}
use Rattle.std.specs.List.{list_all}
use Rattle.clu_tree.specs.declared.node.Node.{Node}
use Rattle.clu_tree.specs.declared.node.NodeKind.{NodeKind}
use Rattle.clu_tree.specs.declared.node.NodeKind.TheVariants as kind
use Rattle.clu_syntax.specs.Items.{Item}
use Rattle.clu_syntax.specs.Nodes.{item_with}
use Rattle.clu_syntax.specs.Syntax.{Expression, elements_from}
use Rattle.clu_types.specs.declared.term.TypeId.{TypeId}
use Rattle.clu_types.specs.declared.term.Field.{Field}
use Rattle.clu_types.specs.declared.term.Term.{Term}
use Rattle.clu_settle.specs.Lists.{type_id}
use Rattle.clu_settle.specs.Names.{names_of}
use Rattle.clu_head.specs.Refused.{is_set}
use Rattle.clu_bindings.specs.Readers.{kind_in, children_in, value_in, wanted_in}
use Rattle.clu_bindings.specs.Wanted.{is_object_wanted}
use Rattle.clu_name_rules.specs.declared.tables.Tables.{Tables}
use Rattle.clu_name_rules.specs.Components.{AreAscending, components_of, element_of, fields_in, is_array, is_selector_of, leaves_some}

-- of a type, or of a constructor
abbrev pub is_selector : NodeKind → Bool
is_selector kind.FieldT = true
is_selector kind.FieldE = true
is_selector _ = false

-- elements from a low bound on
abbrev pub has_low : Expression → Bool
has_low (elements_from n t low es) = true
has_low _ = false

abbrev pub has_low_at : (ℕ → Item) → List Node → ℕ → Bool
has_low_at items nodes n = has_low (item_with items nodes n (slice_get nodes n)).expression

-- the term of a type that is known
abbrev pub term_of : List Term → Option TypeId → Option Term
term_of types (Some id) = slice_get types id.0
term_of types None = None

-- each name of the node is a selector of the type
abbrev pub are_selectors : List Node → List Field → ℕ → Bool
are_selectors nodes fields c = list_all (is_selector_of fields) (names_of (slice_get nodes c))

-- the components have not exactly the selectors of the type, where no name of them stands twice: as that is refused at its own
-- node, names that are all selectors are all of them if none is left
abbrev pub are_others : List Node → List Field → List ℕ → Bool
are_others nodes fields components =
    not (list_all (are_selectors nodes fields) components)
    || leaves_some (λ c. names_of (slice_get nodes c)) (length fields) components

abbrev pub has_other_selectors : List Node → Option (List Field) → List ℕ → Bool
has_other_selectors nodes (Some fields) components = are_others nodes fields components
has_other_selectors nodes None components = true

-- the type has no elements, or none from a low bound on
abbrev pub has_no_elements : Bool → Term → Bool
has_no_elements true its = not (is_array its)
has_no_elements false its = is_none (element_of its)

module _ (t : Tables) where
  -- the term of the type at a node
  abbrev pub term_at : ℕ → Option Term
  term_at n = term_of t.types.now (type_id (value_in t.file n))

  -- the components and tags of each of these types ascend by name
  abbrev pub ValuesAscend : Type 0
  ValuesAscend = (n : ℕ) → AreAscending (fields_in (term_at n))

  module _ (items : ℕ → Item) where
    -- a constructor of this kind isn't one of its type
    abbrev pub is_of_other : NodeKind → ℕ → Term → List ℕ → Bool
    is_of_other kind.Fields n its parts = has_other_selectors t.file.syntax.now (components_of its) parts
    is_of_other kind.Elems n its parts = has_no_elements (has_low_at items t.file.syntax.now n) its
    is_of_other _ n its parts = false

    -- of one that is lost nothing is asked
    abbrev pub is_of_other_if : NodeKind → ℕ → Option Term → List ℕ → Bool
    is_of_other_if k n (Some its) parts = is_of_other k n its parts
    is_of_other_if k n None parts = false

    -- the type stands first
    abbrev pub has_no_constructor : NodeKind → ℕ → List ℕ → Bool
    has_no_constructor k n (of ∷ parts) = is_of_other_if k n (term_at of) parts
    has_no_constructor k n [] = false

    abbrev pub v17_at : NodeKind → ℕ → Bool
    v17_at kind.FieldT n = is_set (slice_get t.items.now.repeated.items n)
    v17_at kind.FieldE n = is_set (slice_get t.items.now.repeated.items n)
    v17_at kind.Fields n = is_object_wanted (wanted_in t.file n) && has_no_constructor kind.Fields n (children_in t.file n)
    v17_at kind.Elems n = is_object_wanted (wanted_in t.file n) && has_no_constructor kind.Elems n (children_in t.file n)
    v17_at _ n = false

    -- a selector stands twice, or a constructor isn't one of its type
    abbrev pub v17 : ℕ → Bool
    v17 n = v17_at (kind_in t.file n) n
