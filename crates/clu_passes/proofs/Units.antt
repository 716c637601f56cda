-- All that is declared outside of every module is a module; what each declaration says is shown of those of each node.
use Rattle.std.proofs.Common.{◌≡◌, ◌∙◌, ℕ, zero, suc, ◌+◌, ◌-◌, ◌<◌, ◌≤◌, Bool, true, false, ◌&&◌, if◌then◌else◌, List, [], ◌∷◌, ◌++◌, length, slice_get, Option, Some, None, inl, inr, refl, sym, ap, subst, arith}
use Rattle.std.specs.List.{AllByRecursion}
use Rattle.std.proofs.lemmas.Bool.{true≢false, cases_lt}
use Rattle.std.proofs.lemmas.Option.{none-some, same_Some, slice_get_within}
use Rattle.clu_tree.specs.declared.node.Node.{Node}
use Rattle.clu_tree.specs.declared.node.NodeKind.{NodeKind}
use Rattle.clu_tree.specs.declared.node.NodeKind.TheVariants as kind
use Rattle.clu_parser.specs.Trees.{Text}
use Rattle.clu_syntax.specs.declared.round.Round.{Round}
use Rattle.clu_syntax.specs.Kinds.{kind_of, kind_at}
use Rattle.clu_syntax.specs.Rounds.{AreRounds, round_at, unit_in}
use Rattle.clu_syntax.specs.Splits.{is_of}
use Rattle.clu_syntax.specs.Syntax.{Identifier}
use Rattle.clu_names.specs.declared.scopes.Declared.{Declared}
use Rattle.clu_names.specs.Latest.{is_local}
use Rattle.clu_names.specs.Scopes.{node_at, kind_at_parent, scope_of, own_names, declared_as, own_at, is_stream, module_named, is_module, module_at, is_first, opens, variable_names, variable_of, declared_at, declared_to, declarations}
use Rattle.clu_checking.specs.Files.{File}
use Rattle.clu_declares.specs.Declares.{IsParsed}
use Rattle.clu_declares.proofs.Around.{IsAround}
use Rattle.clu_declares.proofs.Facts.{around_at}
use Rattle.clu_declares.proofs.Haves.{parent_of}
use Rattle.clu_declares.proofs.Parents.{of_all, HasParent, has_parent, child_before, never_file, file_of_module, module_of_file}
use Rattle.clu_name_rules.specs.Closed.{is_definition}
use Rattle.clu_passes.specs.Notes.{DeclareModules}
use Rattle.clu_passes.proofs.OfParents.{root_outside}

-- ---- what holds of the declarations of each node

abbrev pub AllOf : (Declared → Type 0) → List Declared → Type 0
AllOf P ds = AllByRecursion P ds

pub all_both : (P : Declared → Type 0) (xs ys : List Declared) → AllOf P xs → AllOf P ys → AllOf P (xs ++ ys)
all_both P [] ys a b = b
all_both P (x ∷ xs) ys a b = (a.0, all_both P xs ys a.1 b)

pub all_here : (P : Declared → Type 0) (ds : List Declared) → AllOf P ds → (j : ℕ) (d : Declared) → slice_get ds j ≡ Some d → P d
all_here P [] ps j d at = absurd (none-some d at)
all_here P (x ∷ ds) ps zero d at = subst P (same_Some x d at) ps.0
all_here P (x ∷ ds) ps (suc j) d at = all_here P ds ps.1 j d at

all_as : (P : Declared → Type 0) (n : ℕ) (unit : Option ℕ) (scope : ℕ × ℕ) (names : List Identifier) → ((name : Identifier) → P (record { name = name; node = n; from = scope.0; to = scope.1; unit = unit })) → AllOf P (declared_as n unit (Some scope) names)
all_as P n unit scope [] each = tt
all_as P n unit scope (name ∷ names) each = (each name, all_as P n unit scope names each)

-- by what declares at a node: its parent's variable, the node by itself, a module
module _ (nodes : List Node) (rounds : List Round) (P : Declared → Type 0) (n : ℕ) where
  abbrev round : Round
  round = round_at rounds n

  abbrev above : NodeKind
  above = kind_at_parent nodes round.parent

  abbrev pub VariablesAre : Type 0
  VariablesAre = (p : ℕ) (outer : Node) (k : NodeKind) → round.parent ≡ Some p → slice_get nodes p ≡ Some outer → kind_at nodes n ≡ k → opens outer.kind k ≡ true → is_first n outer.children ≡ true → (name : Identifier) → P (record { name = name; node = p; from = round.body_first; to = round.body_last; unit = round.unit })

  abbrev pub OwnsAre : Type 0
  OwnsAre = (node : Node) → slice_get nodes n ≡ Some node → (scope : ℕ × ℕ) → scope_of node.kind above n round ≡ Some scope → (name : Identifier) → P (record { name = name; node = n; from = scope.0; to = scope.1; unit = round.unit })

  abbrev pub ModulesAre : Type 0
  ModulesAre = (node : Node) → slice_get nodes n ≡ Some node → is_module above node.kind ≡ true → (name : Identifier) → P (record { name = name; node = n; from = 0; to = 4294967295; unit = None })

  pub of_variables : VariablesAre → (k : NodeKind) → kind_at nodes n ≡ k → (o : Option ℕ) → round.parent ≡ o → (outer : Option Node) → node_at nodes o ≡ outer → AllOf P (variable_of n k round o outer)
  of_variables are k is None e outer f = tt
  of_variables are k is (Some p) e None f = tt
  of_variables are k is (Some p) e (Some its) f = by (opens its.kind k) refl (is_first n its.children) refl
    where
      by : (b : Bool) → opens its.kind k ≡ b → (c : Bool) → is_first n its.children ≡ c → AllOf P (if b && c then declared_as p round.unit (Some (round.body_first, round.body_last)) (variable_names its.kind its.names) else [])
      by true o true first = all_as P p round.unit (round.body_first, round.body_last) (variable_names its.kind its.names) (are p its k e f is o first)
      by true o false first = tt
      by false o c first = tt

  pub of_owns : OwnsAre → (node : Node) → slice_get nodes n ≡ Some node → (o : Option (ℕ × ℕ)) → scope_of node.kind above n round ≡ o → AllOf P (declared_as n round.unit o (own_names node.kind node))
  of_owns are node at None e = tt
  of_owns are node at (Some scope) e = all_as P n round.unit scope (own_names node.kind node) (are node at scope e)

  pub of_modules : ModulesAre → (node : Node) → slice_get nodes n ≡ Some node → (b : Bool) → is_module above node.kind ≡ b → AllOf P (if b then module_named n node.names else [])
  of_modules are node at false e = tt
  of_modules are node at true e = by node.names
    where
      one : (name : Identifier) (b : Bool) → AllOf P (if b then [] else record { name = name; node = n; from = 0; to = 4294967295; unit = None } ∷ [])
      one name true = tt
      one name false = (are node at e name, tt)

      by : (names : List Identifier) → AllOf P (module_named n names)
      by [] = tt
      by (name ∷ names) = one name (is_stream name)

  of_node : VariablesAre → OwnsAre → ModulesAre → (o : Option Node) → slice_get nodes n ≡ o → AllOf P (declared_at nodes rounds n o)
  of_node vs os ms None at = tt
  of_node vs os ms (Some node) at =
      all_both P (variable_of n node.kind round round.parent (node_at nodes round.parent) ++ own_at above n node round) (module_at above n node)
      (all_both P (variable_of n node.kind round round.parent (node_at nodes round.parent)) (own_at above n node round)
      (of_variables vs node.kind (ap kind_of at) round.parent refl (node_at nodes round.parent) refl)
      (of_owns os node at (scope_of node.kind above n round) refl))
      (of_modules ms node at (is_module above node.kind) refl)

  -- so of what is declared at the node
  pub at_node : VariablesAre → OwnsAre → ModulesAre → AllOf P (declared_at nodes rounds n (slice_get nodes n))
  at_node vs os ms = of_node vs os ms (slice_get nodes n) refl

pub record AreEach (nodes : List Node) (rounds : List Round) (P : Declared → Type 0) : Type 0 where
  pub variables : (n : ℕ) → VariablesAre nodes rounds P n
  pub owns : (n : ℕ) → OwnsAre nodes rounds P n
  pub modules : (n : ℕ) → ModulesAre nodes rounds P n

module _ (nodes : List Node) (rounds : List Round) (P : Declared → Type 0) where
  -- of the nodes before one
  pub all_to : (to : ℕ) → ((n : ℕ) → n < to → AllOf P (declared_at nodes rounds n (slice_get nodes n))) → AllOf P (declared_to nodes rounds to)
  unfolding declared_to
  all_to zero each = tt
  all_to (suc n) each = all_both P (declared_to nodes rounds n) (declared_at nodes rounds n (slice_get nodes n)) (all_to n (λ m less. each m (omega (arith, less)))) (each n (omega arith))

  -- so of each declaration of the file
  pub of_each : AreEach nodes rounds P → (j : ℕ) (d : Declared) → slice_get (declarations nodes rounds) j ≡ Some d → P d
  of_each each = all_here P (declarations nodes rounds) (all_to (length nodes) (λ n less. at_node nodes rounds P n (each.variables n) (each.owns n) (each.modules n)))

-- ---- all but the root and the modules stand in a module

abbrev pub is_inner : NodeKind → Bool
is_inner kind.File = false
is_inner kind.Module = false
is_inner _ = true

pub inner_no_file : (k : NodeKind) → is_inner k ≡ true → is_of k kind.File ≡ false
inner_no_file kind.File i = absurd (true≢false (sym i))
inner_no_file _ i = refl

inner_no_module : (k : NodeKind) → is_inner k ≡ true → is_of kind.Module k ≡ true → ⊥
inner_no_module kind.File i is = true≢false (sym i)
inner_no_module kind.Module i is = true≢false (sym i)
inner_no_module _ i is = true≢false (sym is)

pub inner_opens : (k j : NodeKind) → opens k j ≡ true → is_inner k ≡ true
inner_opens kind.File j o = absurd (true≢false (sym o))
inner_opens kind.Module j o = absurd (true≢false (sym o))
inner_opens _ j o = refl

pub no_file : (k : NodeKind) → is_inner k ≡ true → is_of kind.File k ≡ false
no_file kind.File i = absurd (true≢false (sym i))
no_file _ i = refl

pub inner_scope : (k outer : NodeKind) (n : ℕ) (r : Round) (scope : ℕ × ℕ) → scope_of k outer n r ≡ Some scope → is_inner k ≡ true
inner_scope kind.File outer n r scope e = absurd (none-some scope e)
inner_scope kind.Module outer n r scope e = absurd (none-some scope e)
inner_scope _ outer n r scope e = refl

module _ (t : Text) (nodes : List Node) (rounds : List Round) (parsed : IsParsed t nodes) (are : AreRounds nodes rounds) where
  abbrev pub HasUnit : ℕ → Type 0
  HasUnit c = (u : ℕ) × ((round_at rounds c).unit ≡ Some u)

  pub around_child : (c : ℕ) (q : HasParent nodes c) → IsAround rounds q.parent q.node c
  around_child c q = of_all (IsAround rounds q.parent q.node) c q.node.children (around_at t nodes rounds parsed are q.parent q.node q.at) q.child

  pub not_in_file : (c : ℕ) (q : HasParent nodes c) → is_inner (kind_at nodes c) ≡ true → q.node.kind ≡ kind.File → ⊥
  not_in_file c q i is = inner_no_module (kind_at nodes c) i (module_of_file nodes parsed.tree q.parent q.node q.at (parsed.forms q.parent q.node q.at) c q.child is)

  from_parent : (c : ℕ) (q : HasParent nodes c) → is_inner (kind_at nodes c) ≡ true → (is_inner (kind_at nodes q.parent) ≡ true → HasUnit q.parent) → (k : NodeKind) → q.node.kind ≡ k → HasUnit c
  from_parent c q i goes kind.File is = absurd (not_in_file c q i is)
  from_parent c q i goes kind.Module is = (q.parent, (around_child c q).unit ∙ ap (λ (k : NodeKind). unit_in k q.parent (round_at rounds q.parent)) is)
  from_parent c q i goes _ is =
      let up : HasUnit q.parent = goes (ap is_inner (ap kind_of q.at ∙ is)) in
      (up.0, (around_child c q).unit ∙ ap (λ (k : NodeKind). unit_in k q.parent (round_at rounds q.parent)) is ∙ up.1)

  -- where at most k nodes come from it on
  unit_from : (k c : ℕ) → length nodes ≤ c + k → is_inner (kind_at nodes c) ≡ true → HasUnit c
  unit_from zero c l i =
      let q : HasParent nodes c = parent_of t nodes rounds parsed are 0 [] c (kind_at nodes c) refl (inner_no_file (kind_at nodes c) i) in
      let below : c < q.parent = child_before nodes parsed.tree q.parent q.node q.at (parsed.forms q.parent q.node q.at) c q.child in
      let inside : q.parent < length nodes = slice_get_within nodes q.parent q.node q.at in
      absurd (omega (arith, below, inside, l))
  unit_from (suc k) c l i =
      let q : HasParent nodes c = parent_of t nodes rounds parsed are 0 [] c (kind_at nodes c) refl (inner_no_file (kind_at nodes c) i) in
      let below : c < q.parent = child_before nodes parsed.tree q.parent q.node q.at (parsed.forms q.parent q.node q.at) c q.child in
      from_parent c q i (unit_from k q.parent (omega (arith, below, l))) q.node.kind refl

  pub has_unit : (c : ℕ) → is_inner (kind_at nodes c) ≡ true → HasUnit c
  has_unit c = unit_from (length nodes) c (omega arith)

  -- what stands in such a node is such a node
  pub inner_below : (c p : ℕ) (outer : Node) → (round_at rounds c).parent ≡ Some p → slice_get nodes p ≡ Some outer → is_of kind.File outer.kind ≡ false → is_inner (kind_at nodes c) ≡ true
  inner_below c p outer above at other = by (kind_at nodes c) refl
    where
      its_kind : (q : HasParent nodes c) → q.node.kind ≡ outer.kind
      its_kind q =
          let place : q.parent ≡ p = same_Some q.parent p (sym (around_child c q).parent ∙ above) in
          ap (λ (n : Node). n.kind) (same_Some q.node outer (sym q.at ∙ ap (slice_get nodes) place ∙ at))

      not_file : kind_at nodes c ≡ kind.File → ⊥
      not_file is = elim (cases_lt c (length nodes - 1)) [
        | inl less ↦ (let q : HasParent nodes c = has_parent nodes parsed.order c less in never_file nodes parsed.tree q.parent q.node q.at (parsed.forms q.parent q.node q.at) c q.child is)
        | inr more ↦ none-some p (sym (root_outside t nodes rounds parsed are c more) ∙ above)
      ]

      not_module : kind_at nodes c ≡ kind.Module → ⊥
      not_module is =
          let q : HasParent nodes c = parent_of t nodes rounds parsed are 0 [] c kind.Module is refl in
          let file : is_of kind.File q.node.kind ≡ true = file_of_module nodes parsed.tree q.parent q.node q.at (parsed.forms q.parent q.node q.at) c q.child is in
          true≢false (sym file ∙ ap (is_of kind.File) (its_kind q) ∙ other)

      by : (k : NodeKind) → kind_at nodes c ≡ k → is_inner k ≡ true
      by kind.File is = absurd (not_file is)
      by kind.Module is = absurd (not_module is)
      by _ is = refl

  -- ---- what a node declares

  abbrev Is : Declared → Type 0
  Is d = is_local d.unit ≡ false → is_definition (kind_at nodes d.node) ≡ true

  module_here : (k : NodeKind) → is_module kind.Module k ≡ true → is_definition k ≡ true
  module_here kind.Routine e = refl
  module_here kind.Cluster e = refl
  module_here _ e = absurd (true≢false (sym e))

  defined : (k j : NodeKind) → is_module k j ≡ true → is_definition j ≡ true
  defined kind.Module j e = module_here j e
  defined _ j e = absurd (true≢false (sym e))

  none_alone : (unit : Option ℕ) (u : ℕ) → unit ≡ Some u → is_local unit ≡ false → ⊥
  none_alone (Some unit) u e alone = true≢false alone
  none_alone None u e alone = none-some u e

  each_is : AreEach nodes rounds Is
  each_is = record {
    variables = λ n p outer k above at is o first name alone. (let its : HasUnit n = has_unit n (inner_below n p outer above at (no_file outer.kind (inner_opens outer.kind k o))) in absurd (none_alone (round_at rounds n).unit its.0 its.1 alone));
    owns = λ n node at scope e name alone. (let its : HasUnit n = has_unit n (ap is_inner (ap kind_of at) ∙ inner_scope node.kind (kind_at_parent nodes (round_at rounds n).parent) n (round_at rounds n) scope e) in absurd (none_alone (round_at rounds n).unit its.0 its.1 alone));
    modules = λ n node at e name alone. ap is_definition (ap kind_of at) ∙ defined (kind_at_parent nodes (round_at rounds n).parent) node.kind e;
  }

  pub modules_declared : (j : ℕ) (d : Declared) → slice_get (declarations nodes rounds) j ≡ Some d → Is d
  modules_declared = of_each nodes rounds Is each_is

pub declare_modules : (t : Text) (f : File) → IsParsed t f.nodes → AreRounds f.nodes f.rounds → f.scope.declarations ≡ declarations f.nodes f.rounds → DeclareModules f
declare_modules t f parsed are same j d at = modules_declared t f.nodes f.rounds parsed are j d (ap (λ (ds : List Declared). slice_get ds j) (sym same) ∙ at)
