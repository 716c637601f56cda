-- `cvt` as the body of a routine sees it is by the tables what the definitions say, where the `rep` that counts there is known: the type of
-- that, or of the cluster if it has none.
use Rattle.std.proofs.Common.{◌≡◌, ◌∙◌, ℕ, ◌<◌, ◌&&◌, if◌then◌else◌, Bool, true, false, List, [], ◌∷◌, codes, drop, get_or, is_none, is_some, length, Option, Some, None, refl, sym, ap, subst}
use Rattle.std.specs.Prelude.{slice_get}
use Rattle.std.proofs.lemmas.Bool.{true≢false, and_parts}
use Rattle.std.proofs.lemmas.Option.{none-some, same_Some, slice_get_within}
use Rattle.clu_tree.specs.declared.node.Node.{Node}
use Rattle.clu_tree.specs.declared.node.NodeKind.{NodeKind}
use Rattle.clu_tree.specs.declared.node.NodeKind.TheVariants as kind
use Rattle.clu_parser.specs.Trees.{Text}
use Rattle.clu_types.specs.CluType.{CluType, cluster_of, no_actuals}
use Rattle.clu_types.specs.declared.term.Term.{Term}
use Rattle.clu_types.specs.declared.term.TypeId.{TypeId}
use Rattle.clu_syntax.specs.declared.words.SimpleType.{SimpleType}
use Rattle.clu_syntax.specs.declared.words.SimpleType.TheVariants as simple
use Rattle.clu_syntax.specs.Items.{Item}
use Rattle.clu_syntax.specs.Kinds.{kind_at}
use Rattle.clu_syntax.specs.Nodes.{before, item_at, item_with, type_expression_of}
use Rattle.clu_syntax.specs.Slots.{is_right_side, slots}
use Rattle.clu_syntax.specs.Splits.{child, children_of, is_of}
use Rattle.clu_syntax.specs.Syntax.{a_simple_type}
use Rattle.clu_syntax.specs.Words.{simple_type, symbol_in}
use Rattle.clu_names.specs.declared.scopes.Declared.{Declared}
use Rattle.clu_names.specs.Denotes.{found}
use Rattle.clu_names.specs.Latest.{is_local}
use Rattle.clu_names.specs.Scopes.{declarations}
use Rattle.clu_meaning.specs.Programs.{cvt}
use Rattle.clu_meaning.specs.Resolving.{Place, cluster_place, heading_type}
use Rattle.clu_meaning.specs.Scoping as means
use Rattle.clu_meaning.specs.Scoping.{Scope, declaration_at, own_actuals}
use Rattle.clu_meaning.specs.Settling.{Value, settled, settled_type, type_in, value_of_meaning}
use Rattle.clu_checking.specs.ConstantRules.{is_cluster_round, is_no_type_side, is_word}
use Rattle.clu_checking.specs.Files.{File, children, cluster_at, declaration, declaring_node, equate_named, equate_of, item, kind_in, meaning, node_children, round, scope_in}
use Rattle.clu_checking.specs.Headings as headings
use Rattle.clu_checking.specs.Headings.{for_body, is_represented, own_type, place_at, place_in}
use Rattle.clu_checking.specs.Settled.{value_settled}
use Rattle.clu_checking.specs.Specifications.{Specification}
use Rattle.clu_checking.specs.Typing.{is_type_value, rep_value, representation_of}
use Rattle.clu_settle.proofs.Shapes.{first_part}
use Rattle.clu_declares.proofs.Below.{item_there}
use Rattle.clu_declares.proofs.Facts.{There, there}
use Rattle.clu_bindings.specs.declared.file.File.{File as Read}
use Rattle.clu_bindings.specs.declared.file.Headed.{Headed}
use Rattle.clu_bindings.specs.declared.meaning.Meaning.{Meaning}
use Rattle.clu_bindings.specs.declared.meaning.Meaning.TheVariants as meant
use Rattle.clu_bindings.specs.Declaring as table
use Rattle.clu_bindings.specs.Inside as bound
use Rattle.clu_bindings.specs.Inside.{rep_at, rep_type, type_inside}
use Rattle.clu_bindings.specs.Modules.{named}
use Rattle.clu_bindings.specs.Owned.{AreOwned}
use Rattle.clu_bindings.specs.Reps.{if_in_module, in_module}
use Rattle.clu_name_rules.specs.Closed.{is_definition}
use Rattle.clu_name_rules.specs.declared.tables.Tables.{Tables}
use Rattle.clu_passes.specs.ConstantTables.{IsKnown, Means, file_with}
use Rattle.clu_passes.specs.FactTables.{IsType}
use Rattle.clu_passes.specs.KnownFiles.{AreCvtsKnown, IsRepFine}
use Rattle.clu_passes.specs.Lost.{is_cvt_at}
use Rattle.clu_passes.specs.Made.{IsWhole}
use Rattle.clu_passes.specs.Reps.{AreReps, IsAtHome, IsRep}
use Rattle.clu_passes.proofs.ClustersRound.{stand, there_kind}
use Rattle.clu_passes.proofs.Constants.{word_is}
use Rattle.clu_passes.proofs.FewParameters.{few_parameters}
use Rattle.clu_passes.proofs.InsideKnown.{word_as}
use Rattle.clu_passes.proofs.NamesMean as meaning_of
use Rattle.clu_passes.proofs.OwnTable.{own_said}
use Rattle.clu_passes.proofs.RepMeant as rep
use Rattle.clu_passes.proofs.RepsAtHome.{rep_declared}
use Rattle.clu_passes.proofs.Units.{modules_declared}

-- ---- words and values

cvt_word : (n : ℕ) (w : SimpleType) → is_word simple.Cvt (a_simple_type n w) ≡ true → w ≡ simple.Cvt
cvt_word n simple.Cvt e = refl
cvt_word n simple.Null e = absurd (true≢false (sym e))
cvt_word n simple.Bool e = absurd (true≢false (sym e))
cvt_word n simple.Int e = absurd (true≢false (sym e))
cvt_word n simple.Real e = absurd (true≢false (sym e))
cvt_word n simple.Char e = absurd (true≢false (sym e))
cvt_word n simple.String e = absurd (true≢false (sym e))
cvt_word n simple.Any e = absurd (true≢false (sym e))
cvt_word n simple.Rep e = absurd (true≢false (sym e))

simple_is : (k : NodeKind) → is_of kind.Simple k ≡ true → k ≡ kind.Simple
simple_is kind.Simple e = refl
simple_is kind.File e = absurd (true≢false (sym e))
simple_is _ e = absurd (true≢false (sym e))

-- of a value that is a type it is that
its_type : (v : Value) → is_type_value v ≡ true → representation_of v ≡ Some (type_in v)
its_type (settled_type t) e = refl
its_type _ e = absurd (true≢false (sym e))

-- the type of the cluster where it has no `rep`
without_rep : (terms : List Term) (own rep : Option TypeId) (u : CluType) → IsType terms own (Some u) → IsType terms (if is_some own && true then own else rep) (Some u)
without_rep terms (Some id) rep u is = is
without_rep terms None rep u is = absurd is

-- else that of its `rep`
with_rep : (terms : List Term) (own rep : Option TypeId) (u : CluType) → IsType terms rep (Some u) → IsType terms (if is_some own && false then own else rep) (Some u)
with_rep terms (Some id) rep u is = is
with_rep terms None rep u is = is

module _ (t : Text) (h : Headed) (its : Tables) (library : List Specification) (refused : List ℕ) (whole : IsWhole t (record its { file = h.file }) library refused)
    (owned : AreOwned its.types.now h.file.values.now h.file.syntax.now (length h.file.syntax.now) h.file.bindings.now.own.items) where
  abbrev r : Read
  r = h.file

  abbrev nodes : List Node
  nodes = h.file.syntax.now

  abbrev ds : List Declared
  ds = declarations h.file.syntax.now h.file.rounds.now

  abbrev scope : Scope
  scope = scope_in h.file.syntax.now h.file.rounds.now

  abbrev f : File
  f = file_with h.file (scope_in h.file.syntax.now h.file.rounds.now) library refused

  abbrev terms : List Term
  terms = its.types.now

  -- ---- own types

  pub own_typed : (n : ℕ) → IsType terms (bound.own_type r n) (own_type f n)
  own_typed =
      own_said t r scope library refused terms whole.made.file.arena whole.made.file.parsed whole.made.file.rounds owned
      (λ n m has. few_parameters t nodes h.file.rounds.now whole.made.file.parsed whole.made.file.rounds whole.made.file.few m
      (there_kind nodes kind.Cluster m (stand nodes h.file.rounds.now whole.made.file.parsed.tree whole.made.file.rounds n m has)))

  -- ---- `rep`

  module _ (reps : AreReps f) where
    -- it is noted just if it is declared
    place_is : (n : ℕ) → n < length nodes → (o : Option Declared) → declaration f n (codes "rep") ≡ o → is_none (rep_at r n) ≡ is_none o
    place_is n less o said = ap is_none (rep.rep_there t h its library refused whole n less) ∙ by (found ds (codes "rep") n) said
      where
        in_it : (p : ℕ) (d : Declared) → slice_get ds p ≡ Some d → o ≡ Some d → in_module (slice_get ds p) ≡ true
        in_it p d there is = ap in_module there ∙ by_unit (is_local d.unit) refl
          where
            its_rep : IsRep f d.node
            its_rep = rep_declared f reps n d (said ∙ is)

            by_unit : (b : Bool) → is_local d.unit ≡ b → is_local d.unit ≡ true
            by_unit true e = e
            by_unit false e =
                absurd (true≢false (sym (modules_declared t nodes h.file.rounds.now whole.made.file.parsed whole.made.file.rounds p d there e) ∙ ap is_definition its_rep.equate))

        at_place : (p : ℕ) (there : Option Declared) → slice_get ds p ≡ there → there ≡ o → is_none (if in_module (slice_get ds p) then Some p else None) ≡ is_none o
        at_place p None there same = ap (λ (x : Option Declared). is_none (if in_module x then Some p else None)) there ∙ ap is_none same
        at_place p (Some d) there same = ap (λ (b : Bool). is_none (if b then Some p else None)) (in_it p d there (sym same)) ∙ ap is_none same

        by : (place : Option ℕ) → declaration_at scope place ≡ o → is_none (if_in_module ds place) ≡ is_none o
        by None e = ap is_none e
        by (Some p) e = at_place p (slice_get ds p) refl e

    -- ---- `cvt` at c, as the node n sees it, which stands in the same cluster as m

    module _ (items : ℕ → Item) (n m c : ℕ) (less : n < length nodes) (hit : is_cvt_at f c ≡ true) (cluster : is_cluster_round f c ≡ true) (home : IsAtHome f n c) (home_too : IsAtHome f m c) (fine : IsRepFine f r n) where
      of_simple : kind_at nodes c ≡ kind.Simple
      of_simple = simple_is (kind_at nodes c) (and_parts (is_of kind.Simple (kind_in f c)) (is_word simple.Cvt (item f c).type) hit).0

      x : There nodes c kind.Simple
      x = there nodes c kind.Simple refl of_simple

      inside : c < length nodes
      inside = slice_get_within nodes c x.node x.at

      word : is_word simple.Cvt (item f c).type ≡ true
      word = (and_parts (is_of kind.Simple (kind_in f c)) (is_word simple.Cvt (item f c).type) hit).1

      form : (item f c).type ≡ a_simple_type c simple.Cvt
      form =
          as_simple ∙ ap (a_simple_type c) (cvt_word c (the_word x.node) (ap (is_word simple.Cvt) (sym as_simple) ∙ word))
        where
          the_word : Node → SimpleType
          the_word node = simple_type (symbol_in node.value)

          as_simple : (item f c).type ≡ a_simple_type c (the_word x.node)
          as_simple = ap (λ (i : Item). i.type) (item_there nodes c x.node x.at) ∙ ap (λ (k : NodeKind). type_expression_of (before c (item_at nodes)) nodes c x.node k) x.is

      in_table : bound.is_cvt items nodes c ≡ true
      in_table = sym (word_as (item_with items nodes c (slice_get nodes c)).type) ∙ sym (word_is items nodes c of_simple simple.Cvt) ∙ word

      table_is : type_inside r items n c ≡ (if is_some (bound.own_type r n) && is_none (rep_at r n) then bound.own_type r n else rep_type r c)
      table_is = ap (λ (b : Bool). if b then (if is_some (bound.own_type r n) && is_none (rep_at r n) then bound.own_type r n else rep_type r c) else bound.settled_type r c) in_table

      -- ---- the cluster

      abbrev representation : CluType
      representation = type_in (value_of_meaning scope (settled scope) (codes "rep") no_actuals (meaning f c (codes "rep")))

      module _ (k : ℕ) (round_is : (round f c).cluster ≡ Some k) where
        abbrev place : Place
        place = cluster_place scope (item f k).cluster

        abbrev abstract : CluType
        abstract = cluster_of (item f k).cluster.name (own_actuals 1 (item f k).cluster.parameters)

        place_of : (a : ℕ) → (round f c).cluster ≡ (round f a).cluster → place_at f a ≡ place
        place_of a same = ap (λ (o : Option ℕ). place_in f (cluster_at f o)) (sym same ∙ round_is)

        own_is : IsType terms (bound.own_type r n) (Some abstract)
        own_is = subst (λ (p : Place). IsType terms (bound.own_type r n) p.home) (place_of n home.cluster) (own_typed n)

        definition_is : headings.type_inside f m (item f c).type ≡ for_body (is_represented f m) (cvt abstract representation)
        definition_is =
            ap (headings.type_inside f m) form
            ∙ ap (λ (p : Place). for_body (is_represented f m) (heading_type p (a_simple_type c simple.Cvt))) (place_of m home_too.cluster)

        -- ---- without `rep`

        none_said : declaration f n (codes "rep") ≡ None → IsType terms (type_inside r items n c) (Some (headings.type_inside f m (item f c).type))
        none_said said =
            let no_rep : is_represented f m ≡ false = ap is_some (sym home_too.rep ∙ home.rep ∙ said) in
            let as_own : headings.type_inside f m (item f c).type ≡ abstract = definition_is ∙ ap (λ (b : Bool). for_body b (cvt abstract representation)) no_rep in
            let no_place : is_none (rep_at r n) ≡ true = place_is n less None said in
            let its_table : type_inside r items n c ≡ (if is_some (bound.own_type r n) && true then bound.own_type r n else rep_type r c) =
            table_is ∙ ap (λ (b : Bool). if is_some (bound.own_type r n) && b then bound.own_type r n else rep_type r c) no_place in
            subst (λ (of : Option TypeId). IsType terms of (Some (headings.type_inside f m (item f c).type))) (sym its_table)
            (subst (λ (u : CluType). IsType terms (if is_some (bound.own_type r n) && true then bound.own_type r n else rep_type r c) (Some u)) (sym as_own)
            (without_rep terms (bound.own_type r n) (rep_type r c) abstract own_is))

        -- ---- with `rep`

        module _ (d : Declared) (said : declaration f n (codes "rep") ≡ Some d) where
          its_rep : IsRep f d.node
          its_rep = rep_declared f reps n d said

          named_by : (o : Option Declared) → o ≡ Some d → equate_of f (declaring_node f o) ≡ Some d.node
          named_by o is = ap (λ (o : Option Declared). equate_of f (declaring_node f o)) is ∙ ap (λ (k : NodeKind). if is_of kind.Equate k then Some d.node else None) its_rep.equate

          e : There nodes d.node kind.Equate
          e = there nodes d.node kind.Equate refl its_rep.equate

          right : ℕ
          right = child 0 e.node

          its_children : e.node.children ≡ right ∷ drop 1 e.node.children
          unfolding right e
          its_children = (first_part nodes whole.made.file.parsed.tree whole.made.file.parsed.forms is_right_side [] d.node e.node e.at (ap slots e.is)).is

          kids : children f d.node ≡ right ∷ drop 1 e.node.children
          kids = ap (node_children f) e.at ∙ its_children

          known : IsKnown r right × ((is_no_type_side f (kind_in f right) right ≡ false) × (is_type_value (value_settled scope (item f right).constant) ≡ true))
          known = fine d.node right (drop 1 e.node.children) (named_by (declaration f n (codes "rep")) said) kids

          -- what the table has for it
          equated : (k : NodeKind) → is_no_type_side f k right ≡ false → table.equated_by k right ≡ meant.Equate right
          equated kind.TypeSet miss = absurd (true≢false miss)
          equated kind.File miss = refl
          equated _ miss = refl

          meant_as : (p number : ℕ) → slice_get ds p ≡ Some d → table.declared_at nodes h.file.rounds.now (named h.file.bindings.now.modules) h.file.bindings.now.parameters.counts.items number (slice_get ds p) ≡ meant.Equate right
          meant_as p number there =
              ap (table.declared_at nodes h.file.rounds.now (named h.file.bindings.now.modules) h.file.bindings.now.parameters.counts.items number) there
              ∙ ap (λ (k : NodeKind). table.declared_in nodes h.file.rounds.now (named h.file.bindings.now.modules) h.file.bindings.now.parameters.counts.items k (children_of (slice_get nodes d.node)) d number) its_rep.equate
              ∙ ap (table.right_of nodes) (ap children_of e.at ∙ its_children)
              ∙ equated (kind_at nodes right) known.1.0

          meant_c : rep.meant_there t h its library refused whole c ≡ meant.Equate right
          meant_c = by (found ds (codes "rep") c) (home.rep ∙ said)
            where
              by : (o : Option ℕ) → declaration_at scope o ≡ Some d → table.meant_by (named h.file.bindings.now.modules) h.file.bindings.now.declared.items o None ≡ meant.Equate right
              by None none = absurd (none-some d none)
              by (Some p) there =
                  meaning_of.there t r library refused whole.made.file.parsed whole.made.file.rounds whole.made.file.few whole.made.file.names whole.made.file.bindings p (slice_get_within ds p d there)
                  ∙ meant_as p (get_or h.file.bindings.now.parameters.numbers.items p 0) there

          means_it : meaning f c (codes "rep") ≡ means.is_equate (item f right).constant
          means_it = (subst (λ (m : Meaning). Means nodes m (meaning f c (codes "rep"))) meant_c (rep.means_so t h its library refused whole c)).1

          same_value : settled scope (item f right).constant ≡ value_settled scope (item f right).constant
          same_value = rep.right_settled t h its library refused whole c right meant_c known.0

          value_is : rep_value f (meaning f c (codes "rep")) ≡ Some representation
          value_is =
              ap (rep_value f) means_it
              ∙ its_type (value_settled scope (item f right).constant) known.1.1
              ∙ ap (λ (v : Value). Some (type_in v)) (sym same_value)
              ∙ ap (λ (m : means.Meaning). Some (type_in (value_of_meaning scope (settled scope) (codes "rep") no_actuals m))) (sym means_it)

          rep_is : IsType terms (rep_type r c) (Some representation)
          rep_is =
              subst (IsType terms (rep_type r c)) value_is
              (rep.rep_typed t h its library refused whole c inside (λ other is const.
              subst (IsKnown r) (same_equate right other (sym meant_c ∙ is)) known.0))
            where
              node_meant : Meaning → ℕ
              node_meant (meant.Equate k) = k
              node_meant _ = 0

              same_equate : (a b : ℕ) → meant.Equate a ≡ meant.Equate b → a ≡ b
              same_equate a b same = ap node_meant same

          some_said : IsType terms (type_inside r items n c) (Some (headings.type_inside f m (item f c).type))
          some_said =
              let has_rep : is_represented f m ≡ true = ap is_some (sym home_too.rep ∙ home.rep ∙ said) in
              let as_rep : headings.type_inside f m (item f c).type ≡ representation = definition_is ∙ ap (λ (b : Bool). for_body b (cvt abstract representation)) has_rep in
              let has_place : is_none (rep_at r n) ≡ false = place_is n less (Some d) said in
              let its_table : type_inside r items n c ≡ (if is_some (bound.own_type r n) && false then bound.own_type r n else rep_type r c) =
              table_is ∙ ap (λ (b : Bool). if is_some (bound.own_type r n) && b then bound.own_type r n else rep_type r c) has_place in
              subst (λ (of : Option TypeId). IsType terms of (Some (headings.type_inside f m (item f c).type))) (sym its_table)
              (subst (λ (u : CluType). IsType terms (if is_some (bound.own_type r n) && false then bound.own_type r n else rep_type r c) (Some u)) (sym as_rep)
              (with_rep terms (bound.own_type r n) (rep_type r c) representation rep_is))

      cvt_known : IsType terms (type_inside r items n c) (Some (headings.type_inside f m (item f c).type))
      cvt_known = by (round f c).cluster refl cluster
        where
          by_declared : (k : ℕ) → (round f c).cluster ≡ Some k → (o : Option Declared) → declaration f n (codes "rep") ≡ o → IsType terms (type_inside r items n c) (Some (headings.type_inside f m (item f c).type))
          by_declared k round_is None said = none_said k round_is said
          by_declared k round_is (Some d) said = some_said k round_is d said

          by : (o : Option ℕ) → (round f c).cluster ≡ o → is_some o ≡ true → IsType terms (type_inside r items n c) (Some (headings.type_inside f m (item f c).type))
          by (Some k) round_is some = by_declared k round_is (declaration f n (codes "rep")) refl
          by None round_is some = absurd (true≢false (sym some))

    pub cvts_known : AreCvtsKnown f h terms
    cvts_known items n m c less hit cluster home home_too fine = cvt_known items n m c less hit cluster home home_too fine
