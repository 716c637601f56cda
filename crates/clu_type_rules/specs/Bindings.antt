-- What statements and own variables bind, over the tables that they read, and of V14 ResultCount and V15 AssignType what is
-- asked of them.
use Rattle.std.specs.Prelude.{ℕ, ◌==◌, ◌&&◌, ◌||◌, not, nat_lt, Bool, true, false, List, [], ◌∷◌, length, map, Option, Some, None}
use Rattle.clu_tree.specs.declared.node.NodeKind.{NodeKind}
use Rattle.clu_tree.specs.declared.node.NodeKind.TheVariants as kind
use Rattle.clu_syntax.specs.Items.{Item}
use Rattle.clu_syntax.specs.Splits.{run, after_run}
use Rattle.clu_types.specs.declared.term.TypeId.{TypeId}
use Rattle.clu_types.specs.declared.term.Heading.{Heading}
use Rattle.clu_bindings.specs.declared.meaning.Meaning.{Meaning}
use Rattle.clu_bindings.specs.declared.meaning.Meaning.TheVariants as meaning
use Rattle.clu_bindings.specs.Inside.{type_inside}
use Rattle.clu_bindings.specs.Tables.{items_at}
use Rattle.clu_type_rules.specs.declared.known.Known.{Known}
use Rattle.clu_type_rules.specs.declared.binding_rules.Variables.{Variables}
use Rattle.clu_type_rules.specs.declared.binding_rules.Variables.TheVariants as bound
use Rattle.clu_type_rules.specs.declared.binding_rules.Binding.{Binding as Binds}
use Rattle.clu_type_rules.specs.Included.{may_be}
use Rattle.clu_type_rules.specs.Known.{nodes, kind_in, is_node, children, type_at, term_of, heading_in, invoked_by}
use Rattle.clu_type_rules.specs.Objects.{names, types_of, declared_type, declared_types}
use Rattle.clu_type_rules.specs.Tags.{arm_misfits}

-- what is bound: variables, each with its type as far as that is known unless the target is no variable, and the types of the
-- objects
pub record Binding : Type 0 where
  pub variables : List (Option (Option TypeId))
  pub objects : List (Option TypeId)

module _ (k : Known) where
  abbrev pub meanings : ℕ → List Meaning
  meanings n = items_at k.tables.file.bindings.now.meanings.items k.tables.file.names.now.starts.items n

  -- the target is a variable, and the object may be one of its type
  abbrev pub names_one : Option (Option TypeId) → Option TypeId → Bool
  names_one (Some wanted) given = may_be k.tables.types.now given wanted
  names_one None given = false

  -- as far as there are both
  abbrev pub may_name : List (Option (Option TypeId)) → List (Option TypeId) → Bool
  may_name (variable ∷ variables) (given ∷ objects) = names_one variable given && may_name variables objects
  may_name _ _ = true

  module _ (items : ℕ → Item) where
    -- the type of a variable that is assigned to
    unfoldable pub variable_type : ℕ → Meaning → Option (Option TypeId)
    variable_type n (meaning.Local t) = Some (type_inside k.tables.file items n t)
    variable_type n (meaning.OwnOfRoutine t) = Some (type_inside k.tables.file items n t)
    variable_type n (meaning.OwnOfCluster t) = Some (type_inside k.tables.file items n t)
    variable_type n _ = None

    abbrev pub variables_of : Variables → List (Option (Option TypeId))
    variables_of (bound.One d) = Some (declared_type k items [] d) ∷ []
    variables_of (bound.Declared ds) = map (λ of. Some of) (declared_types k items [] ds.now)
    variables_of (bound.Named n meant) = map (variable_type n) meant.now

    -- what the code gives
    abbrev pub told : Binds → Binding
    told b = record { variables = variables_of b.variables; objects = types_of k b.objects }

  -- the results of an invocation, if a routine is invoked
  abbrev pub results_of : List (Option (Option TypeId)) → Option Heading → Option Binding
  results_of variables (Some heading) = Some (record { variables = variables; objects = map (λ of. Some of) heading.results })
  results_of variables None = None

  abbrev pub by_call : List (Option (Option TypeId)) → List ℕ → Option Binding
  by_call variables (call ∷ cs) = results_of variables (heading_in (term_of k (invoked_by k call)))
  by_call variables [] = None

  module _ (items : ℕ → Item) where
    abbrev pub declared : ℕ → List (Option (Option TypeId))
    declared n = map (λ of. Some of) (declared_types k items [] (run (nodes k) kind.Decl (children k n)))

    -- the call is the first child that declares nothing
    abbrev pub called : ℕ → List ℕ
    called n = after_run (nodes k) kind.Decl (children k n)

    abbrev pub targets : ℕ → List (Option (Option TypeId))
    targets n = map (variable_type items n) (meanings n)

    abbrev pub initialised : ℕ → List ℕ → Option Binding
    initialised n (t ∷ e ∷ cs) = Some (record { variables = Some (declared_type k items [] n) ∷ []; objects = type_at k e ∷ [] })
    initialised n _ = None

    -- with a name by an Init or an Own, or without by a call
    abbrev pub declared_by : ℕ → List (List ℕ) → Option Binding
    declared_by n (name ∷ rest) = initialised n (children k n)
    declared_by n [] = by_call (declared n) (called n)

    abbrev pub looped_by : ℕ → List (List ℕ) → Option Binding
    looped_by n (name ∷ rest) = by_call (targets n) (called n)
    looped_by n [] = by_call (declared n) (called n)

    -- several variables take all results of one invocation
    abbrev pub are_results : ℕ → List ℕ → Bool
    are_results n (call ∷ []) = nat_lt 1 (length (meanings n)) && is_node k kind.Call call
    are_results n _ = false

    abbrev pub assigned_by : ℕ → Bool → List ℕ → Option Binding
    assigned_by n true values = by_call (targets n) values
    assigned_by n false values = Some (record { variables = targets n; objects = map (type_at k) values })

    abbrev pub assigned : ℕ → List ℕ → Option Binding
    assigned n values = assigned_by n (are_results n values) values

    abbrev pub binding_at : NodeKind → ℕ → Option Binding
    binding_at kind.Init n = declared_by n (names k n)
    binding_at kind.Own n = declared_by n (names k n)
    binding_at kind.For n = looped_by n (names k n)
    binding_at kind.Assign n = assigned n (children k n)
    binding_at _ n = None

  abbrev pub is_other_number : Option Binding → Bool
  is_other_number (Some b) = not (length b.variables == length b.objects)
  is_other_number None = false

  abbrev pub is_misfit : Option Binding → Bool
  is_misfit (Some b) = not (may_name b.variables b.objects)
  is_misfit None = false

  -- V15: an object's type isn't included in the variable's, or what is assigned to is no variable
  abbrev pub v15 : (ℕ → Item) → ℕ → Bool
  v15 items n = arm_misfits k items (kind_in k n) n || is_misfit (binding_at items (kind_in k n) n)
