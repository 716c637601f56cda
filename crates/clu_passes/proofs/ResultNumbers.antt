-- V14 by what is known of names and invocations, and by what nodes bind.
use Rattle.std.proofs.Common.{◌≡◌, ◌∙◌, ◌==◌, ℕ, Bool, true, false, ◌&&◌, ◌||◌, List, [], ◌∷◌, length, drop, ◌⊎◌, Option, Some, None, inl, inr, refl, sym, ap, ap₂, subst}
use Rattle.std.specs.Prelude.{not, is_some}
use Rattle.std.specs.List.{AllByRecursion, list_any}
use Rattle.std.proofs.Math.Bool.{or-false}
use Rattle.std.proofs.lemmas.Bool.{true≢false}
use Rattle.clu_base.specs.declared.constants.Const.{Const}
use Rattle.clu_tree.specs.declared.node.Node.{Node}
use Rattle.clu_tree.specs.declared.node.NodeKind.{NodeKind}
use Rattle.clu_tree.specs.declared.node.NodeKind.TheVariants as kind
use Rattle.clu_tree.specs.Nodes.{IsTree}
use Rattle.clu_parser.specs.Shape.{HaveForms}
use Rattle.clu_types.specs.CluType.{CluType}
use Rattle.clu_types.specs.declared.term.TypeId.{TypeId}
use Rattle.clu_types.specs.declared.term.Term.{Term}
use Rattle.clu_types.specs.Arena.{types_of}
use Rattle.clu_syntax.specs.Kinds.{kind_at, is_expression, is_type}
use Rattle.clu_syntax.specs.Slots.{any, is_constant, slots}
use Rattle.clu_syntax.specs.Splits.{child, first_name, children_of}
use Rattle.clu_syntax.specs.Syntax.{Identifier, Expression, a_name, an_index, Constants}
use Rattle.clu_syntax.specs.Items.{Item, constants_at}
use Rattle.clu_syntax.specs.Nodes.{before, item_at, expression_of}
use Rattle.clu_settle.specs.declared.value.Value.{Value}
use Rattle.clu_settle.specs.declared.value.Value.TheVariants as value
use Rattle.clu_settle.specs.Values.{told, Agrees}
use Rattle.clu_settle.specs.Lists.{type_id}
use Rattle.clu_settle.proofs.Shapes.{first_part}
use Rattle.clu_names.specs.Denotes.{found}
use Rattle.clu_meaning.specs.Scoping as means
use Rattle.clu_meaning.specs.Scoping.{Scope}
use Rattle.clu_meaning.specs.Settling.{Value as Settled}
use Rattle.clu_checking.specs.Settled.{value_settled}
use Rattle.clu_checking.specs.Specifications.{Specification}
use Rattle.clu_checking.specs.Files.{File, item, parent, meaning, node_names}
use Rattle.clu_checking.specs.Equates.{is_set_name}
use Rattle.clu_checking.specs.Typing as typing
use Rattle.clu_checking.specs.Wanted as wants
use Rattle.clu_checking.specs.Wanted.{first_name_at}
use Rattle.clu_checking.specs.ConstantRules.{is_module_routine}
use Rattle.clu_checking.specs.ExpressionRules as checking
use Rattle.clu_checking.specs.StatementRules.{Binding, bindings_in, v14}
use Rattle.clu_bindings.specs.declared.file.File.{File as Read}
use Rattle.clu_bindings.specs.declared.meaning.Meaning.{Meaning}
use Rattle.clu_bindings.specs.declared.meaning.Meaning.TheVariants as meant
use Rattle.clu_bindings.specs.declared.wanted.Wanted.{Wanted as WantedThere}
use Rattle.clu_bindings.specs.declared.wanted.Wanted.TheVariants as wanted
use Rattle.clu_bindings.specs.Files.{declaration_in}
use Rattle.clu_bindings.specs.Inside.{settled_type}
use Rattle.clu_bindings.specs.Readers as read
use Rattle.clu_bindings.specs.Readers.{value_in, meaning_in, module_of, is_routine, set_at}
use Rattle.clu_declares.proofs.Below.{before_is, item_there, same_kind}
use Rattle.clu_declares.proofs.Facts.{there}
use Rattle.clu_type_rules.specs.declared.known.Known.{Known}
use Rattle.clu_type_rules.specs.Known as known
use Rattle.clu_type_rules.specs.Known.{wanted_in}
use Rattle.clu_type_rules.specs.Bindings as of_tables
use Rattle.clu_type_rules.specs.Bindings.{meanings, binding_at}
use Rattle.clu_type_rules.specs.ResultRules as results
use Rattle.clu_passes.specs.Bound.{TellModules, IsNameKnown, AreTargets}
use Rattle.clu_passes.specs.ConstantTables.{Means, IsMeant, IsKnown, IsEquateKnown, IsWantedKnown, AreBracketsKnown, wanted_told, AreTables}
use Rattle.clu_passes.specs.FactTables.{AreFacts}
use Rattle.clu_passes.proofs.Bound.{IsBound, bound_is}
use Rattle.clu_passes.proofs.BoundParts.{each_length}
use Rattle.clu_passes.proofs.ConstantNodes as at_nodes
use Rattle.clu_passes.proofs.ConstantNodes.{is_name}
use Rattle.clu_passes.proofs.FactNodes as so
use Rattle.clu_passes.proofs.Invoked.{results_are, lengths}
use Rattle.clu_passes.proofs.OwnPlaces.{named_by}

-- ---- where one object is wanted

by_object : (j : NodeKind) → checking.is_one_wanted j wants.an_object ≡ results.is_one_wanted j wanted.Object
by_object kind.SetField = refl
by_object kind.SetIndex = refl
by_object _ = refl

one_wanted : (w : WantedThere) (j : NodeKind) → checking.is_one_wanted j (wanted_told w) ≡ results.is_one_wanted j w
one_wanted wanted.Object j = by_object j
one_wanted wanted.Objects kind.SetField = refl
one_wanted wanted.Objects kind.SetIndex = refl
one_wanted wanted.Objects _ = refl
one_wanted wanted.LoopCall kind.SetField = refl
one_wanted wanted.LoopCall kind.SetIndex = refl
one_wanted wanted.LoopCall _ = refl
one_wanted wanted.Constant kind.SetField = refl
one_wanted wanted.Constant kind.SetIndex = refl
one_wanted wanted.Constant _ = refl
one_wanted wanted.Type kind.SetField = refl
one_wanted wanted.Type kind.SetIndex = refl
one_wanted wanted.Type _ = refl
one_wanted wanted.NameWithActuals kind.SetField = refl
one_wanted wanted.NameWithActuals kind.SetIndex = refl
one_wanted wanted.NameWithActuals _ = refl
one_wanted wanted.Nothing kind.SetField = refl
one_wanted wanted.Nothing kind.SetIndex = refl
one_wanted wanted.Nothing _ = refl

-- a value that is known is a type just if it has the number of one
type_told : (types : List CluType) (constants : List Const) (v : Value) (s : Settled) → (v ≡ value.Lost → ⊥) → Agrees (told types constants v) s → typing.is_type_value s ≡ is_some (type_id v)
type_told types constants value.Nothing s known e = ap typing.is_type_value e
type_told types constants value.Lost s known e = absurd (known refl)
type_told types constants (value.Type id) s known e = ap typing.is_type_value e
type_told types constants (value.Constant k) s known e = ap typing.is_type_value e
type_told types constants (value.Parameter k) s known e = ap typing.is_type_value e

abbrev is_named : NodeKind → Bool
is_named kind.Name = true
is_named kind.Index = true
is_named _ = false

module _ (k : Known) (scope : Scope) (library : List Specification) (refused : List ℕ) where
  abbrev nodes : List Node
  nodes = k.tables.file.syntax.now

  abbrev f : File
  f = so.f k scope library refused

  abbrev r : Read
  r = k.tables.file

  abbrev terms : List Term
  terms = k.tables.types.now

  -- ---- as many variables as objects

  abbrev Any : Option (Option TypeId) → Option CluType → Type 0
  Any x y = Unit {0}

  all_of : (ms : List Meaning) → AllByRecursion (λ m. Unit {0}) ms
  all_of [] = tt
  all_of (m ∷ ms) = (tt, all_of ms)

  numbers_are : (b : Option of_tables.Binding) (xs : List Binding) → IsBound k scope library refused Any b xs → list_any (λ x. not (length x.variables == length x.objects)) xs ≡ of_tables.is_other_number k b
  numbers_are None [] is = refl
  numbers_are None (x ∷ xs) is = absurd is
  numbers_are (Some b) [] is = absurd is
  numbers_are (Some b) (x ∷ []) is =
      or-false (not (length x.variables == length x.objects))
      ∙ ap₂ (λ (m n : ℕ). not (m == n)) (each_length Any b.variables x.variables is.0) (lengths terms b.objects x.objects is.1)
  numbers_are (Some b) (x ∷ y ∷ xs) is = absurd is

  module _ (shaped : HaveForms nodes) (tree : IsTree nodes) (are : AreTables f k.tables) (modules : TellModules f r) (lost : ℕ → Bool) (facts : AreFacts f terms k.facts.now lost) where
    -- ---- names that stand for no object

    equated : (c : ℕ) (m : means.Meaning) → IsKnown r c → Means nodes (meant.Equate c) m → typing.is_type_value (value_settled scope (item f c).constant) ≡ is_some (settled_type r c)
    equated c m here is =
        type_told (types_of terms) r.constants.now (value_in r c) (value_settled scope (item f c).constant) here
        (at_nodes.value_agrees k.tables scope library refused shaped tree are c here is.0)

    no_object : (n : ℕ) (name : Identifier) (mean : Meaning) (m : means.Meaning) → IsEquateKnown r mean → Means nodes mean m → is_routine r (module_of mean) ≡ is_module_routine f n name → is_some (set_at r (declaration_in r.names.now n)) ≡ is_set_name f n name → checking.names_no_object f n name m ≡ results.means_no_object r n mean
    no_object n name (meant.Equate c) m here is routine set = ap (checking.names_no_object f n name) is.1 ∙ ap₂ (λ (a b : Bool). a || b) (equated c m here is) (sym set)
    no_object n name meant.TypeSet m here is routine set = ap (checking.names_no_object f n name) is
    no_object n name (meant.TypeParameter j) m here is routine set = ap (checking.names_no_object f n name) is
    no_object n name (meant.ConstantParameter j) m here is routine set = ap (checking.names_no_object f n name) is
    no_object n name (meant.Local u) m here is routine set = ap (checking.names_no_object f n name) is
    no_object n name (meant.OwnOfRoutine u) m here is routine set = ap (checking.names_no_object f n name) is
    no_object n name (meant.OwnOfCluster u) m here is routine set = ap (checking.names_no_object f n name) is
    no_object n name meant.RoutineOfCluster m here is routine set = ap (checking.names_no_object f n name) is
    no_object n name (meant.Module its) m here is routine set = ap (checking.names_no_object f n name) is ∙ ap not (sym routine)

    no_object_name : (n : ℕ) → kind_at nodes n ≡ kind.Name → IsEquateKnown r (meaning_in r n) → checking.is_no_object_name f n (first_name_at f n) ≡ results.names_no_object r n
    no_object_name n is here =
        let x = there nodes n kind.Name refl is in
        let mean : IsMeant f r n (first_name_at f n) = are.named n is in
        let named_so : first_name x.node.names ≡ first_name_at f n = ap (λ (its : Option Node). first_name (node_names f its)) (sym x.at) in
        let place : declaration_in r.names.now n ≡ found scope.declarations (first_name_at f n) n =
        named_by f shaped r.names.now are.names n x.node x.at x.is ∙ ap (λ (name : Identifier). found scope.declarations name n) named_so in
        no_object n (first_name_at f n) (meaning_in r n) (meaning f n (first_name_at f n)) here mean.means mean.routine
        (ap (λ (o : Option ℕ). is_some (set_at r o)) place ∙ are.sets n (first_name_at f n))

    wanted_above : (o : Option ℕ) → ((p : ℕ) → o ≡ Some p → IsWantedKnown r p) → checking.is_object_wanted_at f o ≡ results.is_object_wanted_at r o
    wanted_above None above = refl
    wanted_above (Some p) above = so.object_wanted_at k scope library refused are p (above p refl)

    name_is : (n : ℕ) → AreBracketsKnown r n → kind_at nodes n ≡ kind.Name → IsEquateKnown r (meaning_in r n) → (w : WantedThere) → checking.is_type_before_index f (wanted_told w) n ≡ results.is_no_object_name r w n
    name_is n brackets is here wanted.NameWithActuals = ap₂ (λ (a b : Bool). a && not b) (wanted_above (parent f n) brackets.above) (sym (modules n is))
    name_is n brackets is here wanted.Object = no_object_name n is here
    name_is n brackets is here wanted.Objects = no_object_name n is here
    name_is n brackets is here wanted.LoopCall = no_object_name n is here
    name_is n brackets is here wanted.Constant = refl
    name_is n brackets is here wanted.Type = refl
    name_is n brackets is here wanted.Nothing = refl

    -- ---- brackets

    no_name_index : (n : ℕ) (e : Expression) (cs : Constants) → is_name e ≡ false → checking.is_no_object_index f (an_index n e cs) ≡ false
    unfolding is_name
    no_name_index n (a_name m name) cs other = absurd (true≢false other)
    no_name_index n _ cs other = refl

    bracketed : (n c : ℕ) (cs : Constants) → IsEquateKnown r (meaning_in r c) → at_nodes.AName k.tables scope library refused c ⊎ at_nodes.NoName k.tables scope library refused c → checking.is_no_object_index f (an_index n (item f c).expression cs) ≡ (read.takes_actuals r c && results.names_no_object r c)
    bracketed n c cs here (inl x) =
        let takes : read.takes_actuals r c ≡ typing.takes_actuals f c (first_name_at f c) = are.takers c here ∙ ap (λ (b : Bool). b && typing.takes_actuals f c (first_name_at f c)) x.is in
        ap (λ (e : Expression). checking.is_no_object_index f (an_index n e cs)) x.expression
        ∙ ap₂ (λ (a b : Bool). a && b) (sym takes) (no_object_name c (same_kind kind.Name (kind_at nodes c) x.is) here)
    bracketed n c cs here (inr x) =
        let takes : read.takes_actuals r c ≡ false = are.takers c here ∙ ap (λ (b : Bool). b && typing.takes_actuals f c (first_name_at f c)) x.is in
        no_name_index n (item f c).expression cs x.expression
        ∙ ap (λ (b : Bool). b && results.names_no_object r c) (sym takes)

    index_is : (n : ℕ) → kind_at nodes n ≡ kind.Index → IsNameKnown r kind.Index n (known.children k n) → checking.is_no_object_index f (item f n).expression ≡ results.is_no_object_index r (known.children k n)
    index_is n is here =
        let x = there nodes n kind.Index refl is in
        let first = first_part nodes tree shaped is_expression (any is_constant ∷ []) n x.node x.at (ap slots x.is) in
        let c : ℕ = child 0 x.node in
        let kids : known.children k n ≡ c ∷ drop 1 x.node.children = ap children_of x.at ∙ first.is in
        let cs : Constants = constants_at (before n (item_at nodes)) (drop 1 x.node.children) in
        ap (λ (i : Item). checking.is_no_object_index f i.expression) (item_there nodes n x.node x.at)
        ∙ ap (λ (j : NodeKind). checking.is_no_object_index f (expression_of (before n (item_at nodes)) nodes n x.node j)) x.is
        ∙ ap (λ (i : Item). checking.is_no_object_index f (an_index n i.expression cs)) (before_is nodes n c first.first.0)
        ∙ bracketed n c cs (subst (IsNameKnown r kind.Index n) kids here) (at_nodes.name_or_none k.tables scope library refused c first.first.1)
        ∙ ap (results.is_no_object_index r) (sym kids)

    no_object_by : (n : ℕ) (j : NodeKind) → is_named j ≡ false → checking.is_no_object f j n ≡ (is_type j && checking.is_object_wanted_at f (Some n))
    no_object_by n kind.Name other = absurd (true≢false other)
    no_object_by n kind.Index other = absurd (true≢false other)
    no_object_by n _ other = refl

    none_by : (n : ℕ) (j : NodeKind) → is_named j ≡ false → results.is_no_object r j n ≡ (is_type j && results.is_object_wanted_at r (Some n))
    none_by n kind.Name other = absurd (true≢false other)
    none_by n kind.Index other = absurd (true≢false other)
    none_by n _ other = refl

    no_object_at : (n : ℕ) → AreBracketsKnown r n → (j : NodeKind) → kind_at nodes n ≡ j → IsNameKnown r j n (known.children k n) → (b : Bool) → is_named j ≡ b → checking.is_no_object f j n ≡ results.is_no_object r j n
    no_object_at n brackets j is here false e = no_object_by n j e ∙ ap (λ (b : Bool). is_type j && b) (so.object_wanted_at k scope library refused are n brackets.round) ∙ sym (none_by n j e)
    no_object_at n brackets j is here true e = by j is here e
      where
        by : (j : NodeKind) → kind_at nodes n ≡ j → IsNameKnown r j n (known.children k n) → is_named j ≡ true → checking.is_no_object f j n ≡ results.is_no_object r j n
        by kind.Name is here e = ap (λ (w : wants.Wanted). checking.is_type_before_index f w n) (sym (are.wanted n brackets.round)) ∙ name_is n brackets is here (wanted_in k n)
        by kind.Index is here e = ap₂ (λ (a b : Bool). a && b) (so.object_wanted_at k scope library refused are n brackets.round) (index_is n is here)
        by _ is here e = absurd (true≢false (sym e))

    -- ---- the rule

    one_result : (n : ℕ) → IsWantedKnown r n → lost n ≡ false → checking.has_no_one_result f n ≡ results.has_no_one_result k n
    one_result n round here =
        ap₂ (λ (a b : Bool). a && b)
        (ap (checking.is_one_wanted (kind_at nodes n)) (sym (are.wanted n round)) ∙ one_wanted (wanted_in k n) (kind_at nodes n))
        (results_are f k are.arena lost facts n here)

    pub v14_is : AreTargets f k → (others : ℕ → Item) (n : ℕ) → lost n ≡ false → IsNameKnown r (known.kind_in k n) n (known.children k n) → AreBracketsKnown r n → v14 f n ≡ results.has_other_number k others n
    v14_is targets others n here known_so brackets =
        ap₂ (λ (a b : Bool). a || b)
        (ap₂ (λ (a b : Bool). a || b) (one_result n brackets.round here) (no_object_at n brackets (kind_at nodes n) refl known_so (is_named (kind_at nodes n)) refl))
        (numbers_are (binding_at k others (kind_at nodes n) n) (bindings_in f (kind_at nodes n) n)
        (bound_is k scope library refused shaped tree are lost facts Any (λ n m. Unit {0}) others (λ n t is here. tt) (λ n m x mean known. tt) targets n here (kind_at nodes n) refl (λ assigns. all_of (meanings k n))))
