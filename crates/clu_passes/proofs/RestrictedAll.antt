-- What the table has of each Restrict is what it restricts, and by which type set: of a first name that is no type parameter it has
-- none either, as each Parm is a parameter of a module.
use Rattle.std.proofs.Common.{◌≡◌, ◌∙◌, ◌<◌, ◌&&◌, ℕ, suc, ◌-◌, ◌^◌, nat_lt, Bool, true, false, if◌then◌else◌, List, length, Option, Some, None, refl, ap, sym, subst, arith, eq-eqb, lt-ltb, ne_eqb}
use Rattle.std.specs.Prelude.{slice_get}
use Rattle.std.proofs.lemmas.Bool.{true≢false}
use Rattle.std.proofs.lemmas.Option.{none-some, same_Some, slice_get_within}
use Rattle.clu_tree.specs.declared.node.Node.{Node}
use Rattle.clu_tree.specs.declared.node.NodeKind.{NodeKind}
use Rattle.clu_tree.specs.declared.node.NodeKind.TheVariants as kind
use Rattle.clu_parser.specs.Trees.{Text}
use Rattle.clu_syntax.specs.declared.round.Round.{Round}
use Rattle.clu_syntax.specs.Kinds.{kind_at, kind_of}
use Rattle.clu_syntax.specs.Rounds.{AreRounds}
use Rattle.clu_syntax.specs.Splits.{children_of, first_name, type_of}
use Rattle.clu_syntax.specs.Syntax.{Identifier, TypeExpression}
use Rattle.clu_syntax.specs.Items.{Item, type_of_option}
use Rattle.clu_syntax.specs.Nodes.{before, item_at, parameter_of as parameter_from}
use Rattle.clu_names.specs.declared.scopes.Declared.{Declared}
use Rattle.clu_names.specs.Denotes.{found, is_open}
use Rattle.clu_names.specs.Latest.{IsBest, IsBestAt, is_local}
use Rattle.clu_names.specs.Scopes.{declarations, next}
use Rattle.clu_names.proofs.Best.{found_is}
use Rattle.clu_meaning.specs.Scoping as means
use Rattle.clu_meaning.specs.Scoping.{meaning_of}
use Rattle.clu_checking.specs.Specifications.{Specification}
use Rattle.clu_checking.specs.Files.{scope_in}
use Rattle.clu_settle.specs.declared.meanings.Meaning.{Meaning}
use Rattle.clu_settle.specs.declared.meanings.Meaning.TheVariants as meaning
use Rattle.clu_settle.specs.Meant as meant
use Rattle.clu_settle.specs.Names as settled
use Rattle.clu_settle.specs.Parameters.{is_counted, is_unit, counted, counted_in, number_at, numbers_to}
use Rattle.clu_declares.specs.Declares.{AreFew, IsParsed}
use Rattle.clu_declares.proofs.Below.{item_there, same_kind}
use Rattle.clu_declares.proofs.Each.{name_meant}
use Rattle.clu_declares.proofs.Facts.{There, there}
use Rattle.clu_head.specs.declared.known.Known.{Known}
use Rattle.clu_head.specs.Restricting.{number_of, parameter_in, parameter_of, restricted_to, type_parameter}
use Rattle.clu_head.specs.Sets.{kept_at, said_of, set_led}
use Rattle.clu_head.specs.There.{is_there}
use Rattle.clu_name_rules.specs.Closed.{is_definition}
use Rattle.clu_passes.specs.Bound.{AreOfModules}
use Rattle.clu_passes.specs.Heads.{AreRestricted, file_known, parameter_meant}
use Rattle.clu_passes.proofs.Joined.{table_at}
use Rattle.clu_passes.proofs.NamesMean.{declared_are, numbers_are}
use Rattle.clu_passes.proofs.OwnPlaces.{there_is}
use Rattle.clu_passes.proofs.RestrictedKnown.{at_parameter, parameter_is, restricted_with}
use Rattle.clu_passes.proofs.Units.{is_inner, has_unit, modules_declared}
use Rattle.clu_passes.proofs.Within.{StandsIn, open_there, within}

counted_next : (nodes : List Node) (rounds : List Round) (ds : List Declared) (u p : ℕ) → counted nodes rounds ds u (suc p) ≡ (if is_counted nodes rounds u (slice_get ds p) then next (counted nodes rounds ds u p) else counted nodes rounds ds u p)
unfolding counted
counted_next nodes rounds ds u p = refl

module _ (t : Text) (k : Known) (library : List Specification) (refused : List ℕ) (parsed : IsParsed t k.syntax.now) (are : AreRounds k.syntax.now k.rounds.now) (few : AreFew k.syntax.now k.rounds.now) (parms : AreOfModules k.syntax.now k.rounds.now)
    (numbers : List ℕ) (numbered : numbers ≡ numbers_to k.syntax.now k.rounds.now (declarations k.syntax.now k.rounds.now) (length (declarations k.syntax.now k.rounds.now)))
    (sets : List (Option ℕ)) (kept : (place : ℕ) → kept_at sets place ≡ set_led (said_of k.syntax.now (declarations k.syntax.now k.rounds.now) (declarations k.syntax.now k.rounds.now)) place) where
  abbrev nodes : List Node
  nodes = k.syntax.now

  abbrev rounds : List Round
  rounds = k.rounds.now

  abbrev ds : List Declared
  ds = declarations k.syntax.now k.rounds.now

  few_nodes : length nodes < 2 ^ 32
  few_nodes = omega (arith, few)

  module _ (n : ℕ) (node : Node) (at : slice_get nodes n ≡ Some node) (is : node.kind ≡ kind.Restrict) where
    inner : is_inner (kind_at nodes n) ≡ true
    inner = ap is_inner (ap kind_of at ∙ is)

    abbrev u : ℕ
    u = (has_unit t nodes rounds parsed are n inner).0

    stands : StandsIn t nodes rounds parsed are u n
    stands = ((has_unit t nodes rounds parsed are n inner).1, inner)

    module _ (name : Identifier) (j place : ℕ) (d : Declared) (here : slice_get ds place ≡ Some d) (opened : is_open name n d ≡ true) where
      abbrev number : ℕ
      number = number_at nodes rounds ds place (Some d)

      numbered_so : slice_get numbers place ≡ Some number
      numbered_so =
          ap (λ (xs : List ℕ). slice_get xs place) (numbered ∙ numbers_are nodes rounds ds (length ds)) ∙ table_at (λ p. number_at nodes rounds ds p (slice_get ds p)) (length ds) place (slice_get_within ds place d here)
          ∙ ap (λ (o : Option Declared). Some (number_at nodes rounds ds place o)) here

      module _ (of_parm : kind_at nodes d.node ≡ kind.Parm) where
        -- it has a number, from 1 on
        counted_once : (v : ℕ) → d.unit ≡ Some v → 0 < number
        counted_once v e =
            let its = open_there t nodes rounds parsed are few_nodes u n name stands place d here opened v e in
            let of_module : kind_at nodes u ≡ kind.Module = (within t nodes rounds parsed are d.node u its.1.1 its.1.0).of_module in
            let th : There nodes u kind.Module = there nodes u kind.Module refl of_module in
            let inside : u < length nodes = slice_get_within nodes u th.node th.at in
            let unit : is_unit (length nodes) u d.unit ≡ true =
            ap (is_unit (length nodes) u) its.0 ∙ ap (λ (b : Bool). b && nat_lt u (length nodes)) (eq-eqb u u refl) ∙ lt-ltb u (length nodes) inside in
            let counts : is_counted nodes rounds u (slice_get ds place) ≡ true =
            ap (is_counted nodes rounds u) here ∙ ap (λ (b : Bool). b && is_unit (length nodes) u d.unit) (parms d.node of_parm) ∙ unit in
            let same : number ≡ next (counted nodes rounds ds u place) =
            ap (λ (b : Bool). if b then counted_in nodes rounds ds d.unit (suc place) else 0) (parms d.node of_parm)
            ∙ ap (λ (o : Option ℕ). counted_in nodes rounds ds o (suc place)) its.0
            ∙ counted_next nodes rounds ds u place
            ∙ ap (λ (b : Bool). if b then next (counted nodes rounds ds u place) else counted nodes rounds ds u place) counts in
            omega (arith, same)

        number_there : 0 < number
        number_there = by d.unit refl
          where
            by : (o : Option ℕ) → d.unit ≡ o → 0 < number
            by (Some v) e = counted_once v e
            by None e = absurd (true≢false (sym (modules_declared t nodes rounds parsed are place d here (ap is_local e)) ∙ ap is_definition of_parm))

        its_node : There nodes d.node kind.Parm
        its_node = there nodes d.node kind.Parm refl of_parm

        its_type : (item_at nodes d.node).parameter.type ≡ type_of_option (before d.node (item_at nodes)) (type_of nodes (children_of (slice_get nodes d.node)))
        its_type =
            ap (λ (i : Item). i.parameter.type) (item_there nodes d.node its_node.node its_node.at)
            ∙ ap (λ (k : NodeKind). (parameter_from (before d.node (item_at nodes)) nodes d.node its_node.node k).type) its_node.is
            ∙ sym (ap (λ (o : Option Node). type_of_option (before d.node (item_at nodes)) (type_of nodes (children_of o))) its_node.at)

        -- a parameter without a type
        untyped : (m : means.Meaning) → (item_at nodes d.node).parameter.type ≡ None → settled.Means nodes (meant.parameter_in (item_at nodes d.node).parameter.type number) m → m ≡ means.is_type_parameter number
        untyped m none s =
            subst (λ (b : Bool). settled.Means nodes (if b then meaning.Module else meaning.TypeParameter number) m) (ne_eqb number 0 (λ e. omega (arith, e, number_there)))
            (subst (λ (o : Option TypeExpression). settled.Means nodes (meant.parameter_in o number) m) none s)

        by_type : (m : means.Meaning) (o : Option ℕ) → type_of nodes (children_of (slice_get nodes d.node)) ≡ o → settled.Means nodes (meant.parameter_in (item_at nodes d.node).parameter.type number) m → number_of o (slice_get numbers place) ≡ Some j → m ≡ means.is_type_parameter j
        by_type m (Some c) e s f = absurd (none-some j f)
        by_type m None e s f =
            untyped m (its_type ∙ ap (type_of_option (before d.node (item_at nodes))) e) s ∙ ap means.is_type_parameter (same_Some number j (sym numbered_so ∙ f))

      declares : (m : means.Meaning) → settled.Means nodes (meant.declared_at nodes rounds ds place (Some d)) m → type_parameter nodes numbers place d ≡ Some j → m ≡ means.is_type_parameter j
      declares m s f = by (is_there kind.Parm (slice_get nodes d.node)) refl (sym (at_parameter nodes ds sets numbers place d) ∙ f)
        where
          by : (b : Bool) → is_there kind.Parm (slice_get nodes d.node) ≡ b → (if b then number_of (type_of nodes (children_of (slice_get nodes d.node))) (slice_get numbers place) else None) ≡ Some j → m ≡ means.is_type_parameter j
          by false parm f = absurd (none-some j f)
          by true parm f =
              let of_parm : kind_at nodes d.node ≡ kind.Parm = same_kind kind.Parm (kind_at nodes d.node) (there_is kind.Parm refl (slice_get nodes d.node) ∙ parm) in
              by_type of_parm m (type_of nodes (children_of (slice_get nodes d.node))) refl
              (subst (λ (q : NodeKind). settled.Means nodes (meant.declared_in nodes q d.node d.unit (counted_in nodes rounds ds d.unit (length ds)) number) m) of_parm s) f

    abbrev table : List Meaning
    table = meant.declared_to nodes rounds ds (length ds)

    bound : (name : Identifier) (j : ℕ) (m : means.Meaning) (o : Option ℕ) → IsBest (λ i d. is_open name n d ≡ true) ds o → settled.Means nodes (meant.bound_to_one table o) m → parameter_of nodes numbers ds o ≡ Some j → m ≡ means.is_type_parameter j
    bound name j m None best s f = absurd (none-some j f)
    bound name j m (Some place) best s f = at_place best
      where
        at_place : (d : Declared) × IsBestAt (λ i d. is_open name n d ≡ true) ds place d → m ≡ means.is_type_parameter j
        at_place (d, its) =
            let meant_so : meant.bound_to_one table (Some place) ≡ meant.declared_at nodes rounds ds place (Some d) =
            ap settled.meaning_in (ap (λ (xs : List Meaning). slice_get xs place) (declared_are nodes rounds ds (length ds)) ∙ table_at (λ p. meant.declared_at nodes rounds ds p (slice_get ds p)) (length ds) place (slice_get_within ds place d its.there))
            ∙ ap (meant.declared_at nodes rounds ds place) its.there in
            declares name j place d its.there its.passes m (subst (λ (q : Meaning). settled.Means nodes q m) meant_so s)
            (sym (ap (parameter_in nodes numbers place) its.there) ∙ f)

    table_says : (name : Identifier) (j : ℕ) → parameter_of nodes numbers ds (found ds name n) ≡ Some j → meaning_of (scope_in nodes rounds) n name ≡ means.is_type_parameter j
    table_says name j f = bound name j (meaning_of (scope_in nodes rounds) n name) (found ds name n) (found_is ds name n) (name_meant t nodes rounds parsed are few n name) f

    parameter_told : (name : Identifier) → parameter_of nodes numbers ds (found ds name n) ≡ parameter_meant (meaning_of (scope_in nodes rounds) n name)
    parameter_told name = by (parameter_of nodes numbers ds (found ds name n)) refl
      where
        of_none : (m : means.Meaning) → meaning_of (scope_in nodes rounds) n name ≡ m → parameter_of nodes numbers ds (found ds name n) ≡ None → None ≡ parameter_meant m
        of_none (means.is_type_parameter j) e none = sym none ∙ parameter_is t k library refused parsed are few numbers numbered sets kept n node at is name j e
        of_none _ e none = refl

        by : (o : Option ℕ) → parameter_of nodes numbers ds (found ds name n) ≡ o → parameter_of nodes numbers ds (found ds name n) ≡ parameter_meant (meaning_of (scope_in nodes rounds) n name)
        by (Some j) e = e ∙ sym (ap parameter_meant (table_says name j e))
        by None e = e ∙ of_none (meaning_of (scope_in nodes rounds) n name) refl e

  pub restricted_all : AreRestricted (file_known k (scope_in nodes rounds) library refused) (restricted_to nodes ds sets numbers (length nodes))
  restricted_all n is =
      let th : There nodes n kind.Restrict = there nodes n kind.Restrict refl is in
      restricted_with t k library refused parsed are few numbers numbered sets kept n th.node th.at th.is (parameter_told n th.node th.at th.is (first_name th.node.names))
