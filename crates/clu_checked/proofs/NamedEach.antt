-- The names that are noted of each module of a file are those of the other modules that the definitions say that it names, if each name
-- is known.
use Rattle.std.proofs.Common.{◌≡◌, ◌∙◌, ◌⊎◌, ℕ, zero, suc, ◌+◌, ◌-◌, ◌≤◌, ◌&&◌, not, cond, Bool, true, false, if◌then◌else◌, List, [], ◌∷◌, ◌++◌, fold, map, Option, Some, None, inl, inr, refl, sym, ap, ap₂, subst, arith}
use Rattle.std.specs.Prelude.{filter, flat_map, slice_get}
use Rattle.std.specs.List.{range_with_len}
use Rattle.std.proofs.lemmas.Bool.{true≢false}
use Rattle.std.proofs.lemmas.List.Sums.{fold-append}
use Rattle.clu_tree.specs.declared.node.Node.{Node}
use Rattle.clu_tree.specs.declared.node.NodeKind.{NodeKind}
use Rattle.clu_tree.specs.declared.node.NodeKind.TheVariants as kind
use Rattle.clu_parser.specs.Trees.{Text}
use Rattle.clu_syntax.specs.declared.round.Round.{Round}
use Rattle.clu_syntax.specs.Items.{modules_at}
use Rattle.clu_syntax.specs.Kinds.{kind_at, kind_of}
use Rattle.clu_syntax.specs.Nodes.{file_of, item_at}
use Rattle.clu_syntax.specs.Rounds.{AreRounds, round_at}
use Rattle.clu_syntax.specs.Splits.{is_of}
use Rattle.clu_syntax.specs.Syntax.{Identifier}
use Rattle.clu_names.specs.declared.scopes.Declared.{Declared}
use Rattle.clu_names.specs.Denotes.{found}
use Rattle.clu_names.specs.Scopes.{declarations, is_stream}
use Rattle.clu_parts.proofs.Fitting.{AreParts}
use Rattle.clu_checking.specs.Files.{File, is_known, node_names}
use Rattle.clu_checking.specs.Named as definition
use Rattle.clu_checking.specs.Named.{ascending, modules_named, named_from}
use Rattle.clu_checking.specs.Specifications.{Specification}
use Rattle.clu_declares.specs.Declares.{AreFew, IsParsed}
use Rattle.clu_declares.proofs.Below.{same_kind}
use Rattle.clu_declares.proofs.Facts.{There, root_parts, there, top}
use Rattle.clu_passes.specs.Bound.{AreOfModules}
use Rattle.clu_passes.proofs.FileModules.{modules_are}
use Rattle.clu_check_mod.specs.Naming as other
use Rattle.clu_check_mod.specs.Naming.{named_by_all, named_in, used_by, with_other, with_some}
use Rattle.clu_checked.proofs.ModulesPlaced.{facts, first_before, its_definition, its_node}
use Rattle.clu_checked.proofs.NamesAlone.{name_alone, type_alone}
use Rattle.clu_checked.proofs.NamesDenote.{f, same_test}
use Rattle.clu_checked.proofs.NamesInserted.{from_either_end, put_name}

-- a list whose last part is empty
without_last : {A : Type 0} (g : ℕ → List A) (from size : ℕ) → g (from + size) ≡ [] → flat_map g (range_with_len from (suc size)) ≡ flat_map g (range_with_len from size)
without_last g from zero none = let same : from + 0 ≡ from = omega arith in ap (λ (xs : List _). xs ++ []) (ap g (sym same) ∙ none)
without_last g from (suc size) none = let same : from + 1 + size ≡ from + suc size = omega arith in ap (λ (xs : List _). g from ++ xs) (without_last g (from + 1) size (ap g same ∙ none))

-- of the nodes that may name a module, the names
abbrev names_of : NodeKind → Option Node → List Identifier
names_of kind.Name (Some node) = node.names
names_of kind.NameT (Some node) = node.names
names_of _ o = []

module _ (t : Text) (nodes : List Node) (rounds : List Round) (parsed : IsParsed t nodes) (are : AreRounds nodes rounds) (few : AreFew nodes rounds) (parameters : AreOfModules nodes rounds) (library : List Specification) (refused : List ℕ) where
  abbrev its : File
  its = f t nodes rounds parsed are few parameters library refused

  abbrev ds : List Declared
  ds = declarations nodes rounds

  module _ (known : (n : ℕ) (node : Node) → slice_get nodes n ≡ Some node → (node.kind ≡ kind.Name) ⊎ (node.kind ≡ kind.NameT) → (name : Identifier) → node.names ≡ name ∷ [] → is_known its n name ≡ true) where
    module _ (u : ℕ) (outer : Node) (at_outer : slice_get nodes u ≡ Some outer) (is_module : outer.kind ≡ kind.Module) where
      abbrev first : ℕ
      first = (round_at rounds u).first

      abbrev last : ℕ
      last = (facts t nodes rounds parsed are u outer at_outer is_module).last

      abbrev of_node : ℕ → List Identifier
      of_node = named_from its last

      -- ---- one node

      module _ (names : List Identifier) (n : ℕ) where
        abbrev Same : NodeKind → Option Node → Type 0
        Same k o = with_some names (other.other_name nodes ds first u n (other.used_at o)) ≡ fold put_name names (filter (definition.is_other_module its last n) (names_of k o))

        one_name : (x : Identifier) → (other.is_other_module ds first u (found ds x n) && not (is_stream x)) ≡ definition.is_other_module its last n x →
            with_some names (other.other_name nodes ds first u n (Some x)) ≡ fold put_name names (filter (definition.is_other_module its last n) (x ∷ []))
        one_name x same = by (other.is_other_module ds first u (found ds x n)) (is_stream x) (definition.is_other_module its last n x) refl same
          where
            by : (a s b : Bool) → is_stream x ≡ s → (a && not s) ≡ b → with_some names (if a then Some x else None) ≡ fold put_name names (cond b (x ∷ []) [])
            by true true true is e = absurd (true≢false (sym e))
            by true true false is e = ap (λ (s : Bool). if s then names else put_name names x) is
            by true false true is e = ap (λ (s : Bool). if s then names else put_name names x) is
            by true false false is e = absurd (true≢false e)
            by false s true is e = absurd (true≢false (sym e))
            by false s false is e = refl

        alone : (node : Node) → slice_get nodes n ≡ Some node → (node.kind ≡ kind.Name) ⊎ (node.kind ≡ kind.NameT) → (x : Identifier) × (node.names ≡ x ∷ []) →
            with_some names (other.other_name nodes ds first u n (slice_get node.names 0)) ≡ fold put_name names (filter (definition.is_other_module its last n) node.names)
        alone node at either (x, named) =
            subst (λ (xs : List Identifier). with_some names (other.other_name nodes ds first u n (slice_get xs 0)) ≡ fold put_name names (filter (definition.is_other_module its last n) xs)) (sym named)
            (one_name x (same_test t nodes rounds parsed are few parameters library refused n x u outer at_outer is_module (known n node at either x named)))

        by_kind : (node : Node) → slice_get nodes n ≡ Some node → (k : NodeKind) → node.kind ≡ k →
            with_some names (other.other_name nodes ds first u n (used_by k node.names)) ≡ fold put_name names (filter (definition.is_other_module its last n) (names_of k (Some node)))
        by_kind node at kind.Name is = alone node at (inl is) (name_alone nodes node (parsed.forms n node at) is)
        by_kind node at kind.NameT is = alone node at (inr is) (type_alone nodes node (parsed.forms n node at) is)
        by_kind node at kind.File is = refl
        by_kind node at _ is = refl

        by_node : (o : Option Node) → slice_get nodes n ≡ o → Same (kind_of o) o
        by_node None at = refl
        by_node (Some node) at = by_kind node at node.kind refl

        names_there : (k : NodeKind) (o : Option Node) → slice_get nodes n ≡ o → names_of k o ≡ definition.names_at its k n
        names_there kind.Name None at = sym (ap (node_names its) at)
        names_there kind.Name (Some node) at = sym (ap (node_names its) at)
        names_there kind.NameT None at = sym (ap (node_names its) at)
        names_there kind.NameT (Some node) at = sym (ap (node_names its) at)
        names_there kind.File o at = refl
        names_there _ o at = refl

        one_node : with_other nodes ds first u names n ≡ fold put_name names (of_node n)
        one_node =
            by_node (slice_get nodes n) refl
            ∙ ap (λ (xs : List Identifier). fold put_name names (filter (definition.is_other_module its last n) xs)) (names_there (kind_at nodes n) (slice_get nodes n) refl)

      -- ---- all nodes of the module

      all_nodes : (from size : ℕ) (names : List Identifier) → fold (with_other nodes ds first u) names (range_with_len from size) ≡ fold put_name names (flat_map of_node (range_with_len from size))
      all_nodes from zero names = refl
      all_nodes from (suc size) names =
          ap (λ (ns : List Identifier). fold (with_other nodes ds first u) ns (range_with_len (from + 1) size)) (one_node names from)
          ∙ all_nodes (from + 1) size (fold put_name names (of_node from))
          ∙ sym (fold-append put_name names (of_node from) (flat_map of_node (range_with_len (from + 1) size)))

      -- it names nothing by itself
      none_itself : of_node u ≡ []
      none_itself = ap (λ (k : NodeKind). filter (definition.is_other_module its last u) (definition.names_at its k u)) (ap kind_of at_outer ∙ is_module)

      one_module : named_in nodes ds first u ≡ modules_named its (item_at nodes u).module_
      one_module =
          let low : first ≤ u = first_before t nodes rounds parsed are u outer at_outer is_module in
          let size : suc u - first ≡ suc (u - first) = omega (arith, low) in
          let same : first + (u - first) ≡ u = omega (arith, low) in
          all_nodes first (u - first) []
          ∙ from_either_end (flat_map of_node (range_with_len first (u - first)))
          ∙ ap ascending (sym (without_last of_node first (u - first) (ap of_node same ∙ none_itself)) ∙ ap (λ (k : ℕ). flat_map of_node (range_with_len first k)) (sym size))
          ∙ sym (ap₂ (λ (d n : ℕ). ascending (flat_map (named_from its d) (range_with_len (round_at rounds n).first (suc n - (round_at rounds n).first))))
          (its_definition t nodes rounds parsed are u outer at_outer is_module) (its_node t nodes rounds parsed are u outer at_outer is_module))

    -- ---- all modules

    all_modules : (cs : List ℕ) → AreParts nodes (is_of kind.Module) (top t nodes rounds parsed are) cs → map (λ (n : ℕ). named_in nodes ds (round_at rounds n).first n) cs ≡ map (modules_named its) (modules_at (item_at nodes) cs)
    all_modules [] ps = refl
    all_modules (c ∷ cs) ps =
        let x : There nodes c kind.Module = there nodes c kind.Module refl (same_kind kind.Module (kind_at nodes c) ps.0.1) in
        ap₂ (λ (xs : List Identifier) (xss : List (List Identifier)). xs ∷ xss) (one_module c x.node x.at x.is) (all_modules cs ps.1)

    pub each_named : named_by_all nodes rounds ds ≡ map (modules_named its) (file_of nodes)
    each_named =
        ap (map (λ (n : ℕ). named_in nodes ds (round_at rounds n).first n)) (modules_are t nodes rounds parsed are)
        ∙ all_modules parsed.file.0.children (root_parts t nodes rounds parsed are).0
        ∙ ap (map (modules_named its)) (sym (root_parts t nodes rounds parsed are).1)
