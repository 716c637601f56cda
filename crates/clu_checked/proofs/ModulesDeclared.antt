-- What is declared outside of every module is a module, by the name of the routine or cluster that it defines.
use Rattle.std.proofs.Common.{◌≡◌, ◌∙◌, ◌⊎◌, ℕ, Bool, true, false, if◌then◌else◌, List, [], ◌∷◌, ◌++◌, length, slice_get, Option, Some, None, inl, inr, refl, sym, ap, subst}
use Rattle.std.specs.Prelude.{bytes_eq}
use Rattle.std.specs.List.{list_any}
use Rattle.std.proofs.lemmas.Bool.{or_left, or_right, true≢false}
use Rattle.std.proofs.lemmas.Option.{none-some}
use Rattle.clu_base.proofs.Lists.{as_bytes}
use Rattle.clu_tree.specs.declared.node.Node.{Node}
use Rattle.clu_tree.specs.declared.node.NodeKind.{NodeKind}
use Rattle.clu_tree.specs.declared.node.NodeKind.TheVariants as kind
use Rattle.clu_parser.specs.Trees.{Text}
use Rattle.clu_syntax.specs.declared.round.Round.{Round}
use Rattle.clu_syntax.specs.Kinds.{kind_at, kind_of}
use Rattle.clu_syntax.specs.Rounds.{AreRounds, round_at, unit_in}
use Rattle.clu_syntax.specs.Splits.{first_name, is_of}
use Rattle.clu_syntax.specs.Syntax.{Identifier, Module}
use Rattle.clu_syntax.specs.Items.{Item, modules_at}
use Rattle.clu_syntax.specs.Nodes.{before, cluster_of, file_of, item_at, routine_of}
use Rattle.clu_names.specs.declared.scopes.Declared.{Declared}
use Rattle.clu_names.specs.Scopes.{declarations, declared_at, is_module, is_stream, kind_at_parent, module_named, node_at, own_at, scope_of, variable_of}
use Rattle.clu_checking.specs.Files.{module_name}
use Rattle.clu_declares.specs.Declares.{IsParsed}
use Rattle.clu_declares.proofs.Around.{IsAround}
use Rattle.clu_declares.proofs.Below.{item_there}
use Rattle.clu_declares.proofs.Facts.{module_at, root_parts}
use Rattle.clu_declares.proofs.Haves.{is_last, parent_of}
use Rattle.clu_declares.proofs.Parents.{HasParent, IsIn}
use Rattle.clu_passes.proofs.FileModules.{of_root}
use Rattle.clu_passes.proofs.Units.{AllOf, HasUnit, OwnsAre, VariablesAre, all_both, all_here, all_to, around_child, has_unit, inner_below, inner_opens, inner_scope, is_inner, no_file, of_owns, of_variables}

-- ---- kinds

-- in a Module stand its definition, and equates
record IsDefinition (outer k : NodeKind) : Type 0 where
  in_module : outer ≡ kind.Module
  either : (k ≡ kind.Routine) ⊎ (k ≡ kind.Cluster)

defined_in : (k : NodeKind) → is_module kind.Module k ≡ true → (k ≡ kind.Routine) ⊎ (k ≡ kind.Cluster)
defined_in kind.Routine e = inl refl
defined_in kind.Cluster e = inr refl
defined_in _ e = absurd (true≢false (sym e))

definition : (outer k : NodeKind) → is_module outer k ≡ true → IsDefinition outer k
definition kind.Module k e = record { in_module = refl; either = defined_in k e }
definition _ k e = absurd (true≢false (sym e))

pub no_other : (P : NodeKind → Type 0) (k : NodeKind) → P kind.Routine → P kind.Cluster → (k ≡ kind.Routine) ⊎ (k ≡ kind.Cluster) → P k
no_other P k r c (inl e) = subst P (sym e) r
no_other P k r c (inr e) = subst P (sym e) c

module _ (t : Text) (nodes : List Node) (rounds : List Round) (parsed : IsParsed t nodes) (are : AreRounds nodes rounds) where
  -- the node defines a module, of which this is the name
  pub record IsDefined (d : Declared) : Type 0 where
    pub node : Node
    pub at : slice_get nodes d.node ≡ Some node
    pub defines : is_module (kind_at_parent nodes (round_at rounds d.node).parent) node.kind ≡ true
    pub rest : List Identifier
    pub named : node.names ≡ d.name ∷ rest
    pub plain : is_stream d.name ≡ false

  abbrev Is : Declared → Type 0
  Is d = d.unit ≡ None → IsDefined d

  -- all else that is declared stands in a module
  in_one : (n : ℕ) (x : Declared) → HasUnit t nodes rounds parsed are n → (round_at rounds n).unit ≡ None → IsDefined x
  in_one n x its none = absurd (none-some its.0 (sym none ∙ its.1))

  variables_are : (n : ℕ) → VariablesAre nodes rounds Is n
  variables_are n p outer k above at is o first name none = in_one n _ (has_unit t nodes rounds parsed are n (inner_below t nodes rounds parsed are n p outer above at (no_file outer.kind (inner_opens outer.kind k o)))) none

  owns_are : (n : ℕ) → OwnsAre nodes rounds Is n
  owns_are n node at scope e name none =
      in_one n _ (has_unit t nodes rounds parsed are n (ap is_inner (ap kind_of at) ∙ inner_scope node.kind (kind_at_parent nodes (round_at rounds n).parent) n (round_at rounds n) scope e)) none

  module _ (n : ℕ) (node : Node) (at : slice_get nodes n ≡ Some node) where
    abbrev above : NodeKind
    above = kind_at_parent nodes (round_at rounds n).parent

    module_is : (b : Bool) → is_module above node.kind ≡ b → AllOf Is (if b then module_named n node.names else [])
    module_is false e = tt
    module_is true e = by node.names refl
      where
        one : (name : Identifier) (rest : List Identifier) → node.names ≡ name ∷ rest → (s : Bool) → is_stream name ≡ s → AllOf Is (if s then [] else record { name = name; node = n; from = 0; to = 4294967295; unit = None } ∷ [])
        one name rest named true s = tt
        one name rest named false s = (λ none. record { node = node; at = at; defines = e; rest = rest; named = named; plain = s }, tt)

        by : (names : List Identifier) → node.names ≡ names → AllOf Is (module_named n names)
        by [] named = tt
        by (name ∷ rest) named = one name rest named (is_stream name) refl

    here : AllOf Is (declared_at nodes rounds n (Some node))
    here =
        all_both Is (variable_of n node.kind (round_at rounds n) (round_at rounds n).parent (node_at nodes (round_at rounds n).parent) ++ own_at above n node (round_at rounds n)) (if is_module above node.kind then module_named n node.names else [])
        (all_both Is (variable_of n node.kind (round_at rounds n) (round_at rounds n).parent (node_at nodes (round_at rounds n).parent)) (own_at above n node (round_at rounds n))
        (of_variables nodes rounds Is n (variables_are n) node.kind (ap kind_of at) (round_at rounds n).parent refl (node_at nodes (round_at rounds n).parent) refl)
        (of_owns nodes rounds Is n (owns_are n) node at (scope_of node.kind above n (round_at rounds n)) refl))
        (module_is (is_module above node.kind) refl)

  each_is : (n : ℕ) (o : Option Node) → slice_get nodes n ≡ o → AllOf Is (declared_at nodes rounds n o)
  each_is n None at = tt
  each_is n (Some node) at = here n node at

  pub defined : (j : ℕ) (d : Declared) → slice_get (declarations nodes rounds) j ≡ Some d → d.unit ≡ None → IsDefined d
  defined = all_here Is (declarations nodes rounds) (all_to nodes rounds Is (length nodes) (λ n less. each_is n (slice_get nodes n) refl))

  -- ---- the module that it defines

  pub record OfModule (d : Declared) : Type 0 where
    pub unit : ℕ
    pub outer : Node
    pub at : slice_get nodes unit ≡ Some outer
    pub is : outer.kind ≡ kind.Module
    pub child : IsIn d.node outer.children
    pub stands : (round_at rounds d.node).unit ≡ Some unit
    pub named : module_name (item_at nodes unit).module_ ≡ d.name

  module _ (d : Declared) (x : IsDefined d) where
    abbrev its : IsDefinition (kind_at_parent nodes (round_at rounds d.node).parent) x.node.kind
    its = definition (kind_at_parent nodes (round_at rounds d.node).parent) x.node.kind x.defines

    pub its_kind : (x.node.kind ≡ kind.Routine) ⊎ (x.node.kind ≡ kind.Cluster)
    its_kind = its.either

    abbrev parent : HasParent nodes d.node
    parent = parent_of t nodes rounds parsed are 0 [] d.node x.node.kind (ap kind_of x.at) (no_other (λ (k : NodeKind). is_of k kind.File ≡ false) x.node.kind refl refl its_kind)

    around : IsAround rounds parent.parent parent.node d.node
    around = around_child t nodes rounds parsed are d.node parent

    a_module : parent.node.kind ≡ kind.Module
    a_module = sym (ap (kind_at_parent nodes) around.parent ∙ ap kind_of parent.at) ∙ its.in_module

    last_is : (module_at t nodes rounds parsed are parent.parent parent.node parent.at a_module).last ≡ d.node
    last_is =
        is_last t nodes rounds parsed are 0 [] parent.parent parent.node parent.at a_module d.node x.node.kind (ap kind_of x.at)
        (no_other (λ (k : NodeKind). is_of kind.Equate k ≡ false) x.node.kind refl refl its_kind) parent.child

    first_is : first_name x.node.names ≡ d.name
    first_is = ap first_name x.named

    kind_is : (k : NodeKind) → kind_at nodes (module_at t nodes rounds parsed are parent.parent parent.node parent.at a_module).last ≡ k → x.node.kind ≡ k
    kind_is k e = sym (ap (kind_at nodes) last_is ∙ ap kind_of x.at) ∙ e

    routine_named : x.node.kind ≡ kind.Routine → (item_at nodes d.node).routine.name ≡ d.name
    routine_named e =
        ap (λ (i : Item). i.routine.name) (item_there nodes d.node x.node x.at)
        ∙ ap (λ (k : NodeKind). (routine_of (before d.node (item_at nodes)) nodes d.node x.node k).name) e ∙ first_is

    cluster_named : x.node.kind ≡ kind.Cluster → (item_at nodes d.node).cluster.name ≡ d.name
    cluster_named e =
        ap (λ (i : Item). i.cluster.name) (item_there nodes d.node x.node x.at)
        ∙ ap (λ (k : NodeKind). (cluster_of (before d.node (item_at nodes)) nodes d.node x.node k).name) e ∙ first_is

    module_named_so : module_name (item_at nodes parent.parent).module_ ≡ d.name
    module_named_so = elim (module_at t nodes rounds parsed are parent.parent parent.node parent.at a_module).defines [
      | inl r ↦ ap module_name r.1 ∙ ap (λ (n : ℕ). (item_at nodes n).routine.name) last_is ∙ routine_named (kind_is kind.Routine r.0)
      | inr c ↦ ap module_name c.1 ∙ ap (λ (n : ℕ). (item_at nodes n).cluster.name) last_is ∙ cluster_named (kind_is kind.Cluster c.0)
    ]

    pub of_module : OfModule d
    of_module = record {
      unit = parent.parent;
      outer = parent.node;
      at = parent.at;
      is = a_module;
      child = parent.child;
      stands = around.unit ∙ ap (λ (k : NodeKind). unit_in k parent.parent (round_at rounds parent.parent)) a_module;
      named = module_named_so;
    }

  -- ---- so the file has a module of this name

  any_named : (name : Identifier) (u : ℕ) → module_name (item_at nodes u).module_ ≡ name → (cs : List ℕ) → IsIn u cs → list_any (λ m. bytes_eq (module_name m) name) (modules_at (item_at nodes) cs) ≡ true
  any_named name u same [] i = absurd i
  any_named name u same (c ∷ cs) (inl e) =
      or_left (bytes_eq (module_name (item_at nodes c).module_) name) (list_any (λ m. bytes_eq (module_name m) name) (modules_at (item_at nodes) cs))
      (as_bytes (module_name (item_at nodes c).module_) name (ap (λ (n : ℕ). module_name (item_at nodes n).module_) e ∙ same))
  any_named name u same (c ∷ cs) (inr i) =
      or_right (bytes_eq (module_name (item_at nodes c).module_) name) (list_any (λ m. bytes_eq (module_name m) name) (modules_at (item_at nodes) cs)) (any_named name u same cs i)

  pub own_named : (d : Declared) → OfModule d → list_any (λ m. bytes_eq (module_name m) d.name) (file_of nodes) ≡ true
  own_named d m =
      ap (λ (ms : List Module). list_any (λ m. bytes_eq (module_name m) d.name) ms) (root_parts t nodes rounds parsed are).1
      ∙ any_named d.name m.unit m.named parsed.file.0.children (of_root t nodes rounds parsed are m.unit m.outer m.at m.is)
