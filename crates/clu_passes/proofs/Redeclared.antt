-- Which names that a node defines are declared before, by the place of its first declaration: of nodes that declare all their names
-- by themselves.
use Rattle.std.proofs.Common.{◌≡◌, ◌∙◌, ℕ, suc, ◌^◌, ◌<◌, nat_lt, ◌==◌, ◌&&◌, Bool, true, false, List, [], ◌∷◌, ◌++◌, length, get_or, map, replicate, slice_get, Option, Some, refl, sym, ap, subst, arith, append_assoc}
use Rattle.std.specs.List.{list_any}
use Rattle.std.proofs.lemmas.Bool.{true≢false, ne_eqb}
use Rattle.std.proofs.lemmas.List.{length-replicate}
use Rattle.std.proofs.lemmas.Option.{same_Some, slice_get_within, slice_get-get_or}
use Rattle.clu_tree.specs.declared.node.Node.{Node}
use Rattle.clu_tree.specs.declared.node.NodeKind.{NodeKind}
use Rattle.clu_tree.specs.declared.node.NodeKind.TheVariants as kind
use Rattle.clu_parser.specs.Trees.{Text}
use Rattle.clu_syntax.specs.declared.round.Round.{Round}
use Rattle.clu_syntax.specs.Kinds.{kind_of}
use Rattle.clu_syntax.specs.Rounds.{AreRounds, round_at}
use Rattle.clu_syntax.specs.Splits.{is_of}
use Rattle.clu_syntax.specs.Syntax.{Identifier}
use Rattle.clu_names.specs.declared.binding.Names.{Names}
use Rattle.clu_names.specs.declared.scopes.Declared.{Declared}
use Rattle.clu_names.specs.Denotes.{found, names_in, bound_at}
use Rattle.clu_names.specs.Scopes.{next, node_at, kind_at_parent, decl_scope, scope_of, equate_names, own_names, declared_as, own_at, module_at, opens, variable_of, declared_at, declared_to, declarations}
use Rattle.clu_settle.specs.Names.{names_of}
use Rattle.clu_bindings.specs.Files.{bound_in}
use Rattle.clu_checking.specs.Files.{File, kind_in, names, node_names}
use Rattle.clu_checking.specs.NameRules as rules_of
use Rattle.clu_checking.specs.NameRules.{stands_twice, names_defined}
use Rattle.clu_declares.specs.Declares.{IsParsed}
use Rattle.clu_declares.proofs.Amounts.{whole_is}
use Rattle.clu_declares.proofs.Facts.{There, there}
use Rattle.clu_name_rules.specs.NameRules.{has_redefined, bound_defined}
use Rattle.clu_name_rules.specs.Own.{noted, noted_from, own_places}
use Rattle.clu_passes.specs.Owns.{first_from, declares_all}
use Rattle.clu_passes.specs.Tables.{AreNames, OpenOfOne}
use Rattle.clu_passes.proofs.InOrder.{NoneOf, redefined_in_order}
use Rattle.clu_passes.proofs.Owns.{size_if, own_first}
use Rattle.clu_passes.proofs.Tables.{bound_is}
use Rattle.clu_passes.proofs.Units.{AllOf, all_both, VariablesAre, of_variables, at_node, all_to}
use Rattle.clu_passes.proofs.Within.{open_of_one}

-- ---- the place that is noted

noted_size : (ds : List Declared) (k : ℕ) (own : List ℕ) → length (noted_from k ds own) ≡ length own
noted_size [] k own = refl
noted_size (d ∷ ds) k own = noted_size ds (suc k) (noted d.node k own) ∙ size_if own d.node k (nat_lt d.node (length own) && nat_lt k (get_or own d.node 0))

pub place_is : (ds : List Declared) (nodes n : ℕ) → n < nodes → get_or (own_places ds nodes) n (length ds) ≡ first_from 0 ds n (length ds)
place_is ds nodes n l =
    let size : length (own_places ds nodes) ≡ nodes = noted_size ds 0 (replicate nodes (length ds)) ∙ length-replicate nodes (length ds) in
    same_Some (get_or (own_places ds nodes) n (length ds)) (get_or (own_places ds nodes) n 0)
    (sym (slice_get-get_or (own_places ds nodes) n (length ds) (omega (arith, size, l))) ∙ slice_get-get_or (own_places ds nodes) n 0 (omega (arith, size, l)))
    ∙ own_first ds nodes n l

pub parted : (a v o m r : List Declared) → (a ++ ((v ++ o) ++ m)) ++ r ≡ (a ++ v) ++ (o ++ (m ++ r))
parted a v o m r =
    append_assoc a ((v ++ o) ++ m) r
    ∙ ap (λ (xs : List Declared). a ++ xs) (append_assoc (v ++ o) m r ∙ append_assoc v o (m ++ r))
    ∙ sym (append_assoc a v (o ++ (m ++ r)))

module _ (t : Text) (f : File) (parsed : IsParsed t f.nodes) (are : AreRounds f.nodes f.rounds) (same : f.scope.declarations ≡ declarations f.nodes f.rounds) (few : length f.nodes < 2 ^ 32) where
  abbrev ds : List Declared
  ds = f.scope.declarations

  abbrev round : ℕ → Round
  round n = round_at f.rounds n

  pub of_one : (n : ℕ) (name : Identifier) (own : ℕ) (e : Declared) → slice_get ds own ≡ Some e → e.node ≡ n → OpenOfOne ds n name e
  of_one n name own e there is =
      subst (λ (l : List Declared). OpenOfOne l n name e) (sym same)
      (open_of_one t f.nodes f.rounds parsed are few n name e own (ap (λ (l : List Declared). slice_get l own) (sym same) ∙ there) is)

  module _ (n : ℕ) (node : Node) (at : slice_get f.nodes n ≡ Some node) (closed : (j : NodeKind) → opens node.kind j ≡ false) where
    abbrev variables : List Declared
    variables = variable_of n node.kind (round n) (round n).parent (node_at f.nodes (round n).parent)

    abbrev Apart : Declared → Type 0
    Apart d = (d.node == n) ≡ false

    no_variable : (m : ℕ) → VariablesAre f.nodes f.rounds Apart m
    no_variable m p outer k above there is o first name =
        ne_eqb p n (λ own. true≢false (sym o ∙ ap (λ (its : Node). opens its.kind k) (same_Some outer node (sym there ∙ ap (slice_get f.nodes) own ∙ at)) ∙ closed k))

    before_is : (m : ℕ) → m < n → AllOf Apart (declared_at f.nodes f.rounds m (slice_get f.nodes m))
    before_is m less =
        at_node f.nodes f.rounds Apart m (no_variable m) (λ its there scope e name. ne_eqb m n (λ is. absurd (omega (arith, is, less)))) (λ its there e name. ne_eqb m n (λ is. absurd (omega (arith, is, less))))

    none_before : NoneOf n (declared_to f.nodes f.rounds n ++ variables)
    none_before =
        all_both Apart (declared_to f.nodes f.rounds n) variables (all_to f.nodes f.rounds Apart n before_is)
        (of_variables f.nodes f.rounds Apart n (no_variable n) node.kind (ap kind_of at) (round n).parent refl (node_at f.nodes (round n).parent) refl)

    pub own_redefined : (scope : ℕ × ℕ) → scope_of node.kind (kind_at_parent f.nodes (round n).parent) n (round n) ≡ Some scope → (its : List Identifier) → own_names node.kind node ≡ its → stands_twice its ≡ false →
        list_any (rules_of.is_redefined f n) its ≡ has_redefined ds (first_from 0 ds n (length ds)) (map (λ name. found ds name n) its)
    own_redefined scope is its own_is once =
        let inside : n < length f.nodes = slice_get_within f.nodes n node at in
        let whole = whole_is f.nodes f.rounds n inside in
        let here : declared_at f.nodes f.rounds n (slice_get f.nodes n) ≡ (variables ++ own_at (kind_at_parent f.nodes (round n).parent) n node (round n)) ++ module_at (kind_at_parent f.nodes (round n).parent) n node = ap (declared_at f.nodes f.rounds n) at in
        let own : own_at (kind_at_parent f.nodes (round n).parent) n node (round n) ≡ declared_as n (round n).unit (Some scope) its =
        ap (λ (o : Option (ℕ × ℕ)). declared_as n (round n).unit o (own_names node.kind node)) is ∙ ap (declared_as n (round n).unit (Some scope)) own_is in
        let all : ds ≡ (declared_to f.nodes f.rounds n ++ variables) ++ (declared_as n (round n).unit (Some scope) its ++ (module_at (kind_at_parent f.nodes (round n).parent) n node ++ whole.0)) =
        same ∙ whole.1 ∙ ap (λ (l : List Declared). (declared_to f.nodes f.rounds n ++ l) ++ whole.0) here
        ∙ parted (declared_to f.nodes f.rounds n) variables (own_at (kind_at_parent f.nodes (round n).parent) n node (round n)) (module_at (kind_at_parent f.nodes (round n).parent) n node) whole.0
        ∙ ap (λ (l : List Declared). (declared_to f.nodes f.rounds n ++ variables) ++ (l ++ (module_at (kind_at_parent f.nodes (round n).parent) n node ++ whole.0))) own in
        redefined_in_order f n (round n).unit scope (module_at (kind_at_parent f.nodes (round n).parent) n node ++ whole.0) (of_one n) (declared_to f.nodes f.rounds n ++ variables) its all none_before once

  module _ (table : Names) (table_is : AreNames f table) (with_variable : Bool) where
    abbrev own : ℕ → ℕ
    own n = get_or (own_places ds (length f.nodes)) n (length ds)

    abbrev Told : NodeKind → ℕ → Type 0
    Told k n = stands_twice (names_defined f k n) ≡ false → list_any (rules_of.is_redefined f n) (names_defined f k n) ≡ has_redefined ds (own n) (bound_defined k (names_of (slice_get f.nodes n)) with_variable (bound_in table n))

    -- of a node whose names, all declared, are those that it defines
    plain_told : (k : NodeKind) (n : ℕ) (node : Node) → slice_get f.nodes n ≡ Some node → node.kind ≡ k → ((j : NodeKind) → opens k j ≡ false) → (scope : ℕ × ℕ) → scope_of k (kind_at_parent f.nodes (round n).parent) n (round n) ≡ Some scope → own_names k node ≡ node.names → names_in k node ≡ node.names → stands_twice node.names ≡ false →
        list_any (rules_of.is_redefined f n) node.names ≡ has_redefined ds (own n) (bound_in table n)
    plain_told k n node at is closed scope scope_is own_is in_is once =
        let inside : n < length f.nodes = slice_get_within f.nodes n node at in
        let bounds : bound_in table n ≡ map (λ name. found ds name n) node.names =
        bound_is f table table_is n ∙ ap (bound_at ds n) at ∙ ap (λ (k : NodeKind). map (λ name. found ds name n) (names_in k node)) is ∙ ap (map (λ name. found ds name n)) in_is in
        own_redefined n node at (λ j. ap (λ (k : NodeKind). opens k j) is ∙ closed j) scope (ap (λ (k : NodeKind). scope_of k (kind_at_parent f.nodes (round n).parent) n (round n)) is ∙ scope_is) node.names (ap (λ (k : NodeKind). own_names k node) is ∙ own_is) once
        ∙ ap (λ (k : ℕ). has_redefined ds k (map (λ name. found ds name n) node.names)) (sym (place_is ds (length f.nodes) n inside))
        ∙ ap (has_redefined ds (own n)) (sym bounds)

    all_told : (k : NodeKind) (n : ℕ) (node : Node) → slice_get f.nodes n ≡ Some node → node.kind ≡ k → ((j : NodeKind) → opens k j ≡ false) → (scope : ℕ × ℕ) → scope_of k (kind_at_parent f.nodes (round n).parent) n (round n) ≡ Some scope → own_names k node ≡ node.names → names_in k node ≡ node.names → stands_twice (names f n) ≡ false →
        list_any (rules_of.is_redefined f n) (names f n) ≡ has_redefined ds (own n) (bound_in table n)
    all_told k n node at is closed scope scope_is own_is in_is once =
        let its : names f n ≡ node.names = ap (node_names f) at in
        ap (list_any (rules_of.is_redefined f n)) its ∙ plain_told k n node at is closed scope scope_is own_is in_is (sym (ap stands_twice its) ∙ once)

    -- the word `rep` is no name
    equate_told : (n : ℕ) (node : Node) → slice_get f.nodes n ≡ Some node → node.kind ≡ kind.Equate → Told kind.Equate n
    equate_told n node at is once = by node.names refl
      where
        by : (its : List Identifier) → node.names ≡ its → list_any (rules_of.is_redefined f n) (names f n) ≡ has_redefined ds (own n) (bound_defined kind.Equate (names_of (slice_get f.nodes n)) with_variable (bound_in table n))
        by [] none =
            ap (λ (its : List Identifier). list_any (rules_of.is_redefined f n) its) (ap (node_names f) at ∙ none)
            ∙ sym (ap (λ (its : List Identifier). has_redefined ds (own n) (bound_defined kind.Equate its with_variable (bound_in table n))) (ap names_of at ∙ none))
        by (name ∷ its) some =
            all_told kind.Equate n node at is (λ j. refl) ((round n).body_first, (round n).body_last) refl (ap (λ (xs : List Identifier). equate_names xs node.value) some ∙ sym some) (ap (λ (xs : List Identifier). equate_names xs node.value) some ∙ sym some) once
            ∙ sym (ap (λ (its : List Identifier). has_redefined ds (own n) (bound_defined kind.Equate its with_variable (bound_in table n))) (ap names_of at ∙ some))

    by_kind : (k : NodeKind) (n : ℕ) (node : Node) → slice_get f.nodes n ≡ Some node → node.kind ≡ k → declares_all k ≡ true → Told k n
    by_kind kind.Equate n node at is all once = equate_told n node at is once
    by_kind kind.Parm n node at is all once = all_told kind.Parm n node at is (λ j. refl) ((round n).body_first, (round n).body_last) refl refl refl once
    by_kind kind.Decl n node at is all once = all_told kind.Decl n node at is (λ j. refl) (decl_scope (kind_at_parent f.nodes (round n).parent) n (round n)) refl refl refl once
    by_kind kind.Init n node at is all once = all_told kind.Init n node at is (λ j. refl) (next n, (round n).body_last) refl refl refl once
    by_kind kind.Own n node at is all once = all_told kind.Own n node at is (λ j. refl) (next n, (round n).body_last) refl refl refl once
    by_kind _ n node at is all once = absurd (true≢false (sym all))

    other_file : (k : NodeKind) → declares_all k ≡ true → is_of k kind.File ≡ false
    other_file kind.File all = absurd (true≢false (sym all))
    other_file _ all = refl

    pub redefined_by_places : (n : ℕ) → declares_all (kind_in f n) ≡ true → stands_twice (names_defined f (kind_in f n) n) ≡ false →
        list_any (rules_of.is_redefined f n) (names_defined f (kind_in f n) n) ≡ has_redefined ds (own n) (bound_defined (kind_in f n) (names_of (slice_get f.nodes n)) with_variable (bound_in table n))
    redefined_by_places n all once =
        let its : There f.nodes n (kind_in f n) = there f.nodes n (kind_in f n) (other_file (kind_in f n) all) refl in
        by_kind (kind_in f n) n its.node its.at its.is all once
