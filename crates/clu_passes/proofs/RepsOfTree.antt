-- What declares `rep` is an equate of a cluster, by what the grammar says of the tree.
use Rattle.std.proofs.Common.{◌≡◌, ◌∙◌, ℕ, zero, suc, ◌-◌, ◌<◌, ◌&&◌, ◌||◌, if◌then◌else◌, Bool, true, false, List, [], ◌∷◌, ◌++◌, drop, take, length, Option, Some, None, inl, inr, refl, sym, ap, arith}
use Rattle.std.specs.Prelude.{slice_get}
use Rattle.std.specs.List.{list_any}
use Rattle.std.proofs.lemmas.Bool.{true≢false, cases_lt, or_parts}
use Rattle.std.proofs.lemmas.Option.{slice_get_within}
use Rattle.clu_tree.specs.declared.node.Node.{Node}
use Rattle.clu_tree.specs.declared.node.NodeKind.{NodeKind}
use Rattle.clu_tree.specs.declared.node.NodeKind.TheVariants as kind
use Rattle.clu_parser.specs.Trees.{Text}
use Rattle.clu_syntax.specs.declared.round.Round.{Round}
use Rattle.clu_syntax.specs.Kinds.{kind_of}
use Rattle.clu_syntax.specs.Rounds.{round_at}
use Rattle.clu_syntax.specs.Roles.{has_no_name}
use Rattle.clu_syntax.specs.Splits.{is_of}
use Rattle.clu_syntax.specs.Syntax.{Identifier}
use Rattle.clu_names.specs.declared.scopes.Declared.{Declared}
use Rattle.clu_names.specs.Denotes.{is_rep}
use Rattle.clu_names.specs.Scopes.{declarations, declared_as, declared_at, equate_names, is_first, is_module, is_stream, kind_at_parent, module_at, module_named, node_at, opens, own_at, own_names, scope_of, variable_names, variable_of}
use Rattle.clu_checking.specs.Files.{File, is_kind_at, node_names}
use Rattle.clu_declares.specs.Declares.{IsParsed}
use Rattle.clu_declares.proofs.Parents.{HasParent, has_parent}
use Rattle.clu_passes.specs.Reps.{AreReps, IsRep}
use Rattle.clu_passes.specs.RepsOfTree.{HaveReps}
use Rattle.clu_passes.specs.Trees.{IsFileOfTree}
use Rattle.clu_passes.proofs.CvtPlaces.{parent_told}
use Rattle.clu_passes.proofs.OfParents.{has_it}
use Rattle.clu_passes.proofs.Units.{AllOf, all_both, all_here, all_to}

-- ---- names none of which is the word

none_first : (names : List Identifier) → list_any is_rep names ≡ false → list_any is_rep (take 1 names) ≡ false
none_first [] e = refl
none_first (name ∷ names) e = ap (λ (b : Bool). b || false) (or_parts (is_rep name) (list_any is_rep names) e).0

none_dropped : (n : ℕ) (names : List Identifier) → list_any is_rep names ≡ false → list_any is_rep (drop n names) ≡ false
none_dropped zero [] e = refl
none_dropped zero (name ∷ names) e = e
none_dropped (suc n) [] e = refl
none_dropped (suc n) (name ∷ names) e = none_dropped n names (or_parts (is_rep name) (list_any is_rep names) e).1

none_variables : (k : NodeKind) (names : List Identifier) → list_any is_rep names ≡ false → list_any is_rep (variable_names k names) ≡ false
none_variables kind.TypeSet names e = none_first names e
none_variables kind.File names e = none_dropped (length names - 1) names e
none_variables _ names e = none_dropped (length names - 1) names e

module _ (t : Text) (f : File) (parsed : IsParsed t f.nodes) (of : IsFileOfTree f) (are : f.scope.declarations ≡ declarations f.nodes f.rounds) (tree : HaveReps f.nodes) where
  abbrev nodes : List Node
  nodes = f.nodes

  abbrev rounds : List Round
  rounds = f.rounds

  abbrev IsFine : Declared → Type 0
  IsFine d = is_rep d.name ≡ true → IsRep f d.node

  -- ---- an equate without a name

  parent_there : (n : ℕ) (node : Node) → slice_get nodes n ≡ Some node → node.kind ≡ kind.Equate → HasParent nodes n
  parent_there n node at is = elim (cases_lt n (length nodes - 1)) [
    | inl less ↦ has_parent nodes of.ordered n less
    | inr more ↦
        (let inside : n < length nodes = slice_get_within nodes n node at in
        let same : n ≡ length nodes - 1 = omega (arith, more, inside) in
        absurd (true≢false (sym (ap (is_of kind.File) (ap kind_of (ap (slice_get nodes) same ∙ parsed.file.1) ∙ parsed.file.2)) ∙ ap (is_of kind.File) (ap kind_of at ∙ is))))
  ]

  rep_there : (n : ℕ) (node : Node) → slice_get nodes n ≡ Some node → node.kind ≡ kind.Equate → node.names ≡ [] → IsRep f n
  rep_there n node at is none =
      let q : HasParent nodes n = parent_there n node at is in
      let cluster : q.node.kind ≡ kind.Cluster = tree.clusters q.parent q.node q.at n node (has_it n q.node.children q.child) at is (ap has_no_name none) in
      record {
        equate = ap kind_of at ∙ is;
        unnamed = ap (λ (o : Option Node). has_no_name (node_names f o)) at ∙ ap has_no_name none;
        inside = ap (is_kind_at f kind.Cluster) (parent_told f of n q) ∙ ap (is_of kind.Cluster) (ap kind_of q.at ∙ cluster);
      }

  -- ---- what is declared

  named : (n : ℕ) (unit : Option ℕ) (o : Option (ℕ × ℕ)) (names : List Identifier) → list_any is_rep names ≡ false → AllOf IsFine (declared_as n unit o names)
  named n unit None names e = tt
  named n unit (Some scope) [] e = tt
  named n unit (Some scope) (name ∷ names) e =
      let both = or_parts (is_rep name) (list_any is_rep names) e in (λ hit. absurd (true≢false (sym hit ∙ both.0)), named n unit (Some scope) names both.1)

  of_variable : (n : ℕ) (k : NodeKind) (o : Option ℕ) (outer : Option Node) → node_at nodes o ≡ outer → AllOf IsFine (variable_of n k (round_at rounds n) o outer)
  of_variable n k None outer e = tt
  of_variable n k (Some p) None e = tt
  of_variable n k (Some p) (Some its) e = by (opens its.kind k && is_first n its.children)
    where
      by : (b : Bool) → AllOf IsFine (if b then declared_as p (round_at rounds n).unit (Some ((round_at rounds n).body_first, (round_at rounds n).body_last)) (variable_names its.kind its.names) else [])
      by true = named p (round_at rounds n).unit (Some ((round_at rounds n).body_first, (round_at rounds n).body_last)) (variable_names its.kind its.names) (none_variables its.kind its.names (tree.reserved p its e))
      by false = tt

  of_own : (n : ℕ) (node : Node) → slice_get nodes n ≡ Some node → (unit : Option ℕ) (o : Option (ℕ × ℕ)) (k : NodeKind) → node.kind ≡ k → AllOf IsFine (declared_as n unit o (own_names k node))
  of_own n node at unit o kind.Equate is = by node.names refl
    where
      alone : (o : Option (ℕ × ℕ)) → node.names ≡ [] → AllOf IsFine (declared_as n unit o (node.value ∷ []))
      alone None none = tt
      alone (Some scope) none = (λ hit. rep_there n node at is none, tt)

      by : (names : List Identifier) → node.names ≡ names → AllOf IsFine (declared_as n unit o (equate_names names node.value))
      by [] none = alone o none
      by (name ∷ names) e = named n unit o (name ∷ names) (sym (ap (list_any is_rep) e) ∙ tree.reserved n node at)
  of_own n node at unit o kind.Routine is = named n unit o (take 1 node.names) (none_first node.names (tree.reserved n node at))
  of_own n node at unit o kind.File is = named n unit o node.names (tree.reserved n node at)
  of_own n node at unit o _ is = named n unit o node.names (tree.reserved n node at)

  of_module : (n : ℕ) (names : List Identifier) → list_any is_rep names ≡ false → AllOf IsFine (module_named n names)
  of_module n [] e = tt
  of_module n (name ∷ names) e = by (is_stream name)
    where
      by : (b : Bool) → AllOf IsFine (if b then [] else record { name = name; node = n; from = 0; to = 4294967295; unit = None } ∷ [])
      by true = tt
      by false = (λ hit. absurd (true≢false (sym hit ∙ (or_parts (is_rep name) (list_any is_rep names) e).0)), tt)

  of_modules : (n : ℕ) (node : Node) → slice_get nodes n ≡ Some node → (above : NodeKind) → AllOf IsFine (module_at above n node)
  of_modules n node at above = by (is_module above node.kind)
    where
      by : (b : Bool) → AllOf IsFine (if b then module_named n node.names else [])
      by true = of_module n node.names (tree.reserved n node at)
      by false = tt

  at_node : (n : ℕ) (o : Option Node) → slice_get nodes n ≡ o → AllOf IsFine (declared_at nodes rounds n o)
  at_node n None at = tt
  at_node n (Some node) at =
      all_both IsFine (variable_of n node.kind (round_at rounds n) (round_at rounds n).parent (node_at nodes (round_at rounds n).parent) ++ own_at (kind_at_parent nodes (round_at rounds n).parent) n node (round_at rounds n))
      (module_at (kind_at_parent nodes (round_at rounds n).parent) n node)
      (all_both IsFine (variable_of n node.kind (round_at rounds n) (round_at rounds n).parent (node_at nodes (round_at rounds n).parent)) (own_at (kind_at_parent nodes (round_at rounds n).parent) n node (round_at rounds n))
      (of_variable n node.kind (round_at rounds n).parent (node_at nodes (round_at rounds n).parent) refl)
      (of_own n node at (round_at rounds n).unit (scope_of node.kind (kind_at_parent nodes (round_at rounds n).parent) n (round_at rounds n)) node.kind refl))
      (of_modules n node at (kind_at_parent nodes (round_at rounds n).parent))

  pub reps_of_tree : AreReps f
  reps_of_tree j d there =
      all_here IsFine (declarations nodes rounds) (all_to nodes rounds IsFine (length nodes) (λ n less. at_node n (slice_get nodes n) refl)) j d (ap (λ (ds : List Declared). slice_get ds j) (sym are) ∙ there)
