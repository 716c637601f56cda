-- What a name denotes is another module by the table of declarations just if it is one by the definitions, for names that are known.
use Rattle.std.proofs.Common.{◌≡◌, ◌∙◌, ℕ, suc, ◌<◌, ◌==◌, nat_lt, ◌&&◌, ◌||◌, not, Bool, true, false, if◌then◌else◌, List, [], ◌∷◌, length, Option, Some, None, is_some, is_none, slice_get, refl, sym, ap, ap₂, subst, arith, eq-eqb, eqb-true, lt-ltb}
use Rattle.std.specs.Prelude.{bytes_eq}
use Rattle.std.specs.List.{list_any}
use Rattle.std.proofs.Math.Bool.{and-true}
use Rattle.std.proofs.lemmas.Bool.{and_parts, true≢false}
use Rattle.std.proofs.lemmas.Option.{none-some, slice_get_within}
use Rattle.clu_base.proofs.Lists.{same_bytes}
use Rattle.clu_tree.specs.declared.node.Node.{Node}
use Rattle.clu_tree.specs.declared.node.NodeKind.{NodeKind}
use Rattle.clu_tree.specs.declared.node.NodeKind.TheVariants as kind
use Rattle.clu_parser.specs.Trees.{Text}
use Rattle.clu_syntax.specs.declared.round.Round.{Round}
use Rattle.clu_syntax.specs.Kinds.{kind_at, kind_of}
use Rattle.clu_syntax.specs.Rounds.{AreRounds, round_at}
use Rattle.clu_syntax.specs.Splits.{children_of}
use Rattle.clu_syntax.specs.Syntax.{Identifier, Module, TypeExpression}
use Rattle.clu_syntax.specs.Nodes.{file_of, item_at}
use Rattle.clu_names.specs.declared.scopes.Declared.{Declared}
use Rattle.clu_names.specs.Denotes.{found, is_open, stands_in}
use Rattle.clu_names.specs.Latest.{IsBest, IsBestAt}
use Rattle.clu_names.specs.Scopes.{declarations, is_stream, next}
use Rattle.clu_names.proofs.Best.{found_is}
use Rattle.clu_meaning.specs.Scoping as means
use Rattle.clu_meaning.specs.Scoping.{bound_at, declaration_at}
use Rattle.clu_checking.specs.Specifications.{Specification}
use Rattle.clu_checking.specs.Files.{File, declaring_node, denotes_module, is_kept, is_known, is_own_module, module_name, scope_in}
use Rattle.clu_checking.specs.Named as definition
use Rattle.clu_settle.specs.declared.meanings.Meaning.{Meaning}
use Rattle.clu_settle.specs.declared.meanings.Meaning.TheVariants as meaning
use Rattle.clu_settle.specs.Meant as meant
use Rattle.clu_settle.specs.Names.{Means, is_other, meaning_in}
use Rattle.clu_settle.specs.Parameters.{counted, counted_in, is_counted, is_parameter, is_unit, number_at}
use Rattle.clu_declares.specs.Declares.{AreFew, IsParsed}
use Rattle.clu_declares.proofs.Each.{grown, more_declared, name_meant, none_declared}
use Rattle.clu_declares.proofs.Modules.{unit_is}
use Rattle.clu_passes.specs.Bound.{AreOfModules}
use Rattle.clu_passes.proofs.Units.{AreEach, of_each}
use Rattle.clu_check_mod.specs.Naming as other
use Rattle.clu_checked.proofs.ModulesDeclared.{IsDefined, defined, its_kind, no_other, of_module, own_named}
use Rattle.clu_checked.proofs.ModulesPlaced.{facts, other_placed}

-- ---- meanings

abbrev is_module : Meaning → Bool
is_module meaning.Module = true
is_module _ = false

other_meant : (f : File) (m : means.Meaning) → is_other m ≡ true → denotes_module f m ≡ false
other_meant f means.is_module e = absurd (true≢false (sym e))
other_meant f means.is_type_set e = refl
other_meant f _ e = refl

no_module_meant : (f : File) (x : Meaning) (m : means.Meaning) → is_module x ≡ false → Means f.nodes x m → denotes_module f m ≡ false
no_module_meant f (meaning.Equate c) m apart e = ap (denotes_module f) e.2
no_module_meant f (meaning.TypeParameter k) m apart e = ap (denotes_module f) e
no_module_meant f (meaning.ConstantParameter k) m apart e = ap (denotes_module f) e
no_module_meant f meaning.Module m apart e = absurd (true≢false apart)
no_module_meant f meaning.Other m apart e = other_meant f m e

module_meant : (f : File) (x : Meaning) (m : means.Meaning) → x ≡ meaning.Module → Means f.nodes x m → denotes_module f m ≡ true
module_meant f x m is e = ap (denotes_module f) (subst (λ (x : Meaning). Means f.nodes x m) is e)

-- ---- what is declared in a module is none

no_equate : (k : NodeKind) (c : ℕ) → is_module (meant.equated_by k c) ≡ false
no_equate kind.TypeSet c = refl
no_equate kind.File c = refl
no_equate _ c = refl

no_side : (nodes : List Node) (cs : List ℕ) → is_module (meant.right_of nodes cs) ≡ false
no_side nodes [] = refl
no_side nodes (c ∷ cs) = no_equate (kind_at nodes c) c

no_parameter : (type : Option TypeExpression) (number : ℕ) → (number ≡ 0 → ⊥) → is_module (meant.parameter_in type number) ≡ false
no_parameter type number some = by (number == 0) refl
  where
    typed : (type : Option TypeExpression) → is_module (meant.parameter_as type number) ≡ false
    typed None = refl
    typed (Some its) = refl

    by : (b : Bool) → (number == 0) ≡ b → is_module (if b then meaning.Module else meant.parameter_as type number) ≡ false
    by true e = absurd (some (eqb-true number 0 e))
    by false e = typed type

none_inside : (nodes : List Node) (k : NodeKind) (n unit count number : ℕ) → (k ≡ kind.Parm → number ≡ 0 → ⊥) → is_module (meant.declared_in nodes k n (Some unit) count number) ≡ false
none_inside nodes kind.Equate n unit count number some = no_side nodes (children_of (slice_get nodes n))
none_inside nodes kind.Parm n unit count number some = no_parameter (item_at nodes n).parameter.type number (some refl)
none_inside nodes kind.TypeSet n unit count number some = refl
none_inside nodes kind.Routine n unit count number some = refl
none_inside nodes kind.Cluster n unit count number some = refl
none_inside nodes kind.File n unit count number some = refl
none_inside nodes _ n unit count number some = refl

module _ (t : Text) (nodes : List Node) (rounds : List Round) (parsed : IsParsed t nodes) (are : AreRounds nodes rounds) where
  abbrev ds : List Declared
  ds = declarations nodes rounds

  -- what is declared in a module names one of the nodes
  abbrev Inside : Declared → Type 0
  Inside d = (u : ℕ) → d.unit ≡ Some u → u < length nodes

  node_of : (n u : ℕ) → (round_at rounds n).unit ≡ Some u → u < length nodes
  node_of n u e = let m = unit_is t nodes rounds parsed are n u e in slice_get_within nodes u m.0 m.1

  each_inside : AreEach nodes rounds Inside
  each_inside = record {
    variables = λ n p outer k above at is o first name u e. node_of n u e;
    owns = λ n node at scope is name u e. node_of n u e;
    modules = λ n node at is name u e. absurd (none-some u e);
  }

  -- the number of a parameter is not 0
  module _ (p : ℕ) (d : Declared) (at : slice_get ds p ≡ Some d) (unit : ℕ) (of : d.unit ≡ Some unit) (is : is_parameter nodes rounds d.node ≡ true) where
    is_one : is_counted nodes rounds unit (slice_get ds p) ≡ true
    is_one =
        ap (is_counted nodes rounds unit) at
        ∙ ap₂ (λ (a b : Bool). a && b) is
        (ap (is_unit (length nodes) unit) of ∙ ap₂ (λ (a b : Bool). a && b) (eq-eqb unit unit refl) (lt-ltb unit (length nodes) (of_each nodes rounds Inside each_inside p d at unit of)))

    one_more : counted nodes rounds ds unit (suc p) ≡ 0 → ⊥
    unfolding counted
    one_more e = by (is_counted nodes rounds unit (slice_get ds p)) is_one e
      where
        by : (b : Bool) → b ≡ true → (if b then next (counted nodes rounds ds unit p) else counted nodes rounds ds unit p) ≡ 0 → ⊥
        by true so e = omega (arith, e)
        by false so e = true≢false (sym so)

    numbered : number_at nodes rounds ds p (Some d) ≡ 0 → ⊥
    numbered e = one_more (sym (ap (λ (b : Bool). if b then counted_in nodes rounds ds d.unit (suc p) else 0) is ∙ ap (λ (o : Option ℕ). counted_in nodes rounds ds o (suc p)) of) ∙ e)

  module _ (few : AreFew nodes rounds) (parameters : AreOfModules nodes rounds) (library : List Specification) (refused : List ℕ) where
    abbrev pub f : File
    f = record { nodes = nodes; rounds = rounds; scope = scope_in nodes rounds; library = library; refused = refused }

    abbrev table : List Meaning
    table = meant.declared_to nodes rounds ds (length ds)

    module _ (n : ℕ) (name : Identifier) where
      -- ---- of the declaration that a name denotes

      module _ (p : ℕ) (bound : found ds name n ≡ Some p) (d : Declared) (at : slice_get ds p ≡ Some d) where
        abbrev its : means.Meaning
        its = bound_at (scope_in nodes rounds).bindings d.node d.name

        abbrev count : ℕ
        count = counted_in nodes rounds ds d.unit (length ds)

        abbrev number : ℕ
        number = number_at nodes rounds ds p (Some d)

        told : meaning_in (slice_get table p) ≡ meant.declared_at nodes rounds ds p (Some d)
        told =
            ap meaning_in (grown (meant.declared_to nodes rounds ds) (λ q. meant.declared_at nodes rounds ds q (slice_get ds q)) (none_declared nodes rounds ds) (more_declared nodes rounds ds) (length ds) p (slice_get_within ds p d at))
            ∙ ap (meant.declared_at nodes rounds ds p) at

        said : Means nodes (meant.declared_in nodes (kind_at nodes d.node) d.node d.unit count number) its
        said =
            subst (λ (m : Meaning). Means nodes m its) told
            (subst (λ (o : Option Declared). Means nodes (meaning_in (slice_get table p)) (means.declared_at (scope_in nodes rounds) (Some p) o).1) at
            (subst (λ (o : Option ℕ). Means nodes (meant.bound_to_one table o) (means.declared_at (scope_in nodes rounds) o (declaration_at (scope_in nodes rounds) o)).1) bound (name_meant t nodes rounds parsed are few n name)))

        inside_none : (unit : ℕ) → d.unit ≡ Some unit → denotes_module f its ≡ false
        inside_none unit of =
            no_module_meant f (meant.declared_in nodes (kind_at nodes d.node) d.node d.unit count number) its
            (ap (λ (o : Option ℕ). is_module (meant.declared_in nodes (kind_at nodes d.node) d.node o count number)) of
            ∙ none_inside nodes (kind_at nodes d.node) d.node unit count number (λ is none. numbered p d at unit of (parameters d.node is) none))
            said

        outside_one : d.unit ≡ None → IsDefined t nodes rounds parsed are d → denotes_module f its ≡ true
        outside_one of x =
            module_meant f (meant.declared_in nodes (kind_at nodes d.node) d.node d.unit count number) its
            (ap (λ (k : NodeKind). meant.declared_in nodes k d.node d.unit count number) (ap kind_of x.at)
            ∙ no_other (λ (k : NodeKind). meant.declared_in nodes k d.node d.unit count number ≡ meaning.Module) x.node.kind (ap meant.definition_in of) (ap meant.definition_in of) (its_kind t nodes rounds parsed are d x))
            said

      -- ---- whether it is another module

      module _ (u : ℕ) (node : Node) (there : slice_get nodes u ≡ Some node) (is : node.kind ≡ kind.Module) where
        abbrev first : ℕ
        first = (round_at rounds u).first

        abbrev last : ℕ
        last = (facts t nodes rounds parsed are u node there is).last

        abbrev stream : Bool
        stream = is_stream name

        -- both tests, by the declaration
        abbrev Agree : Bool → Option ℕ → Option Declared → Type 0
        Agree one p o =
            (one && not stream) ≡
            ((denotes_module f (means.declared_at (scope_in nodes rounds) p o).1 && not stream && (is_own_module f name || is_kept f name)) && not (definition.is_node last (declaring_node f o)))

        none_bound : ((is_kept f name || stream) ≡ true) → Agree true None None
        none_bound known = by stream (is_kept f name) (is_own_module f name) known
          where
            by : (s kept own : Bool) → (kept || s) ≡ true → (true && not s) ≡ ((true && not s && (own || kept)) && true)
            by true kept own e = refl
            by false true true e = refl
            by false true false e = refl
            by false false own e = absurd (true≢false (sym e))

        module _ (p : ℕ) (bound : found ds name n ≡ Some p) (d : Declared) (best : IsBestAt (λ j d. is_open name n d ≡ true) ds p d) where
          named : d.name ≡ name
          named = same_bytes d.name name (and_parts (bytes_eq d.name name) (stands_in d.unit d.from d.to n) best.passes).0

          abbrev others : Bool
          others = nat_lt d.node first || nat_lt u d.node

          by_unit : (o : Option ℕ) → d.unit ≡ o → Agree (is_none d.unit && others) (Some p) (Some d)
          by_unit (Some unit) of =
              ap (λ (o : Option ℕ). (is_none o && others) && not stream) of
              ∙ sym (ap (λ (b : Bool). (b && not stream && (is_own_module f name || is_kept f name)) && not (d.node == last)) (inside_none p bound d best.there unit of))
          by_unit None of =
              let x : IsDefined t nodes rounds parsed are d = defined t nodes rounds parsed are p d best.there of in
              let plain : stream ≡ false = ap is_stream (sym named) ∙ x.plain in
              let own : is_own_module f name ≡ true = ap (λ (y : Identifier). list_any (λ (m : Module). bytes_eq (module_name m) y) (file_of nodes)) (sym named) ∙ own_named t nodes rounds parsed are d (of_module t nodes rounds parsed are d x) in
              ap (λ (o : Option ℕ). (is_none o && others) && not stream) of
              ∙ ap (λ (s : Bool). others && not s) plain ∙ and-true others ∙ other_placed t nodes rounds parsed are u node there is d x
              ∙ sym (ap (λ (b : Bool). (b && not stream && (is_own_module f name || is_kept f name)) && not (d.node == last)) (outside_one p bound d best.there of x)
              ∙ ap (λ (s : Bool). (true && not s && (is_own_module f name || is_kept f name)) && not (d.node == last)) plain
              ∙ ap (λ (b : Bool). (true && true && (b || is_kept f name)) && not (d.node == last)) own)

        by_bound : (o : Option ℕ) → found ds name n ≡ o → ((is_some (declaration_at (scope_in nodes rounds) o) || is_kept f name || stream) ≡ true) → Agree (other.is_other_module ds first u o) o (declaration_at (scope_in nodes rounds) o)
        by_bound None bound known = none_bound known
        by_bound (Some p) bound known =
            let x : IsBest (λ j d. is_open name n d ≡ true) ds (Some p) = subst (IsBest (λ j d. is_open name n d ≡ true) ds) bound (found_is ds name n) in
            subst (λ (o : Option Declared). Agree (other.is_other first u o) (Some p) o) (sym x.1.there) (by_unit p bound x.0 x.1 x.0.unit refl)

        pub same_test : is_known f n name ≡ true → (other.is_other_module ds first u (found ds name n) && not stream) ≡ definition.is_other_module f last n name
        same_test known = by_bound (found ds name n) refl known
