-- Types as bodies see them, and the representation of a cluster, are by the tables those of the definitions, where they are not refused.
use Rattle.std.proofs.Common.{◌≡◌, ◌∙◌, ℕ, ◌<◌, ◌≤◌, ◌^◌, ◌+◌, ◌&&◌, ◌||◌, not, if◌then◌else◌, Bool, true, false, List, [], ◌∷◌, length, codes, is_none, is_some, Option, Some, None, inl, inr, refl, sym, ap, ap₂, subst, arith}
use Rattle.std.specs.Prelude.{drop, slice_get}
use Rattle.std.specs.List.{AllByRecursion}
use Rattle.std.proofs.Math.Bool.{or-false}
use Rattle.std.proofs.lemmas.Bool.{true≢false, cases_lt, or_parts, and_parts, or_right}
use Rattle.std.proofs.lemmas.Option.{none-some, same_Some, slice_get_within}
use Rattle.clu_base.specs.declared.rules.Rule.TheVariants as rule
use Rattle.clu_tree.specs.declared.node.Node.{Node}
use Rattle.clu_tree.specs.declared.node.NodeKind.{NodeKind}
use Rattle.clu_tree.specs.declared.node.NodeKind.TheVariants as kind
use Rattle.clu_parser.specs.Trees.{Text}
use Rattle.clu_types.specs.CluType.{CluType}
use Rattle.clu_types.specs.declared.term.Term.{Term}
use Rattle.clu_types.specs.declared.term.TypeId.{TypeId}
use Rattle.clu_syntax.specs.declared.words.SimpleType.{SimpleType}
use Rattle.clu_syntax.specs.declared.words.SimpleType.TheVariants as simple
use Rattle.clu_syntax.specs.Items.{Item}
use Rattle.clu_syntax.specs.Kinds.{is_expression, is_type, kind_at, kind_of}
use Rattle.clu_syntax.specs.Nodes.{before, elements_of, expression_of, item_at, item_with, type_expression_of}
use Rattle.clu_syntax.specs.Roles.{has_no_name}
use Rattle.clu_syntax.specs.Splits.{child, is_of}
use Rattle.clu_syntax.specs.Syntax.{Cluster, TypeExpression, a_simple_type}
use Rattle.clu_names.specs.declared.scopes.Declared.{Declared}
use Rattle.clu_names.specs.Denotes.{found}
use Rattle.clu_meaning.specs.Scoping.{Scope, declaration_at}
use Rattle.clu_meaning.specs.Settling.{settled, type_settled, value_of_constant}
use Rattle.clu_meaning.specs.Programs.{HeadingType, plain, cvt}
use Rattle.clu_meaning.specs.Resolving.{Place, heading_type}
use Rattle.clu_checking.specs.Specifications.{Specification}
use Rattle.clu_checking.specs.Equates.{type_node}
use Rattle.clu_checking.specs.Files.{File, cluster_round, declaration, declaring_node, equate_named, equate_of, is_kind_at, is_refused, is_refused_at, item, kind_in, meaning, names, node_children, parent, round, scope_in}
use Rattle.clu_checking.specs.ConstantRules.{has_bad_type, is_bad_rep, is_cluster_round, is_long_type, is_neither, is_no_type, is_no_type_side, is_of_heading, is_real, is_real_literal, is_rep_equate, is_too_long, is_word, v10, v31, v31_at, v9}
use Rattle.clu_checking.specs.Headings as headings
use Rattle.clu_checking.specs.Headings.{for_body, is_refused_inside, is_refused_rep, is_represented, known_inside, place_at, place_in}
use Rattle.clu_checking.specs.Refusals.{is_bad_of, is_no_type_at, refused_nodes, rules_of_types}
use Rattle.clu_checking.specs.Typing as typing
use Rattle.clu_checking.specs.Wanted.{wants_type}
use Rattle.clu_checking.specs.Settled.{value_settled}
use Rattle.clu_checking.specs.Typing.{is_type_value, rep_value}
use Rattle.clu_syntax.proofs.Items.{item_is}
use Rattle.clu_settle.specs.Names.{is_constant}
use Rattle.clu_settle.proofs.Parts.{constant_is, type_is_constant}
use Rattle.clu_declares.proofs.Below.{item_there}
use Rattle.clu_declares.proofs.Around.{there as node_at}
use Rattle.clu_declares.proofs.Facts.{There, there}
use Rattle.clu_declares.proofs.Parents.{IsIn}
use Rattle.clu_bindings.specs.declared.file.File.{File as Read}
use Rattle.clu_bindings.specs.declared.file.Headed.{Headed}
use Rattle.clu_bindings.specs.declared.meaning.Meaning.{Meaning}
use Rattle.clu_bindings.specs.declared.meaning.Meaning.TheVariants as meant
use Rattle.clu_bindings.specs.Files as files
use Rattle.clu_bindings.specs.Inside as bound
use Rattle.clu_bindings.specs.Inside.{is_cvt_type, rep_at, rep_type, settled_type, type_inside}
use Rattle.clu_name_rules.specs.declared.tables.Tables.{Tables}
use Rattle.clu_passes.specs.ConstantTables.{AreTables, IsKnown, file_with}
use Rattle.clu_passes.specs.FactTables.{IsType}
use Rattle.clu_passes.specs.KnownFiles.{IsFileRead, IsRepFine}
use Rattle.clu_passes.specs.Losing.{HasReason}
use Rattle.clu_passes.specs.Lost.{is_cvt_at}
use Rattle.clu_passes.specs.Reps.{IsAtHome, IsRep, IsVariableType}
use Rattle.clu_passes.specs.Trees.{IsFileOfTree}
use Rattle.clu_passes.proofs.Constants.{word_is}
use Rattle.clu_passes.proofs.EquatesOutside.{equate_outside}
use Rattle.clu_passes.proofs.LegalForms.{node_of_type}
use Rattle.clu_passes.proofs.CvtPlaces.{constant_top, cvt_refused, parent_told}
use Rattle.clu_passes.proofs.LostRefused.{IsSideOf, reason_there, refused_by, side_inside}
use Rattle.clu_passes.proofs.Subtrees.{is_subtree}
use Rattle.clu_passes.proofs.Within.{forest_goes_on}
use Rattle.clu_passes.proofs.NamesHeld.{settled_known}
use Rattle.clu_passes.proofs.RefusedInside.{none_refused}
use Rattle.clu_passes.proofs.RepMeant as rep
use Rattle.clu_passes.proofs.RepsAtHome.{rep_declared}
use Rattle.clu_passes.proofs.TablesMade.{tables_are}
use Rattle.clu_passes.proofs.ValuesKnown as known_at
use Rattle.clu_name_rules.specs.ConstantRules as of_tables

-- ---- forms of types

-- only a word is `cvt`
no_word : (items : ℕ → Item) (nodes : List Node) (n : ℕ) (node : Node) (k : NodeKind) → is_type k ≡ true → is_of kind.Simple k ≡ false → is_cvt_type (type_expression_of items nodes n node k) ≡ false
no_word items nodes n node kind.Simple is apart = absurd (true≢false apart)
no_word items nodes n node kind.ListT is apart = refl
no_word items nodes n node kind.FieldsT is apart = refl
no_word items nodes n node kind.RoutineT is apart = refl
no_word items nodes n node kind.NameT is apart = refl
no_word items nodes n node kind.File is apart = absurd (true≢false (sym is))
no_word items nodes n node _ is apart = absurd (true≢false (sym is))

pub word_as : (t : TypeExpression) → of_tables.is_word simple.Cvt t ≡ is_cvt_type t
word_as (a_simple_type n simple.Cvt) = refl
word_as (a_simple_type n simple.Null) = refl
word_as (a_simple_type n simple.Bool) = refl
word_as (a_simple_type n simple.Int) = refl
word_as (a_simple_type n simple.Real) = refl
word_as (a_simple_type n simple.Char) = refl
word_as (a_simple_type n simple.String) = refl
word_as (a_simple_type n simple.Any) = refl
word_as (a_simple_type n simple.Rep) = refl
word_as _ = refl

plain_type : (place : Place) (t : TypeExpression) → is_word simple.Cvt t ≡ false → heading_type place t ≡ plain (type_settled place.scope t)
plain_type place (a_simple_type n simple.Cvt) e = absurd (true≢false e)
plain_type place _ e = refl

for_plain : (b : Bool) (t : CluType) → for_body b (plain t) ≡ t
for_plain true t = refl
for_plain false t = refl

-- whether a type is refused, as a body sees it
inside_as : (f : File) (n m : ℕ) (t : TypeExpression) → type_node t ≡ m → is_refused_inside f n t ≡ (is_refused f m || (is_word simple.Cvt t && is_refused_rep f n))
inside_as f n m (a_simple_type k simple.Cvt) e = ap (λ (i : ℕ). is_refused f i || is_refused_rep f n) e
inside_as f n m (a_simple_type k simple.Null) e = ap (is_refused f) e ∙ sym (or-false (is_refused f m))
inside_as f n m (a_simple_type k simple.Bool) e = ap (is_refused f) e ∙ sym (or-false (is_refused f m))
inside_as f n m (a_simple_type k simple.Int) e = ap (is_refused f) e ∙ sym (or-false (is_refused f m))
inside_as f n m (a_simple_type k simple.Real) e = ap (is_refused f) e ∙ sym (or-false (is_refused f m))
inside_as f n m (a_simple_type k simple.Char) e = ap (is_refused f) e ∙ sym (or-false (is_refused f m))
inside_as f n m (a_simple_type k simple.String) e = ap (is_refused f) e ∙ sym (or-false (is_refused f m))
inside_as f n m (a_simple_type k simple.Any) e = ap (is_refused f) e ∙ sym (or-false (is_refused f m))
inside_as f n m (a_simple_type k simple.Rep) e = ap (is_refused f) e ∙ sym (or-false (is_refused f m))
inside_as f n m t e = ap (is_refused f) e ∙ sym (or-false (is_refused f m))

-- `cvt` that is not misplaced stands in a cluster
right_and : (a b : Bool) → a ≡ true → (a && b) ≡ false → b ≡ false
right_and true b e h = h
right_and false b e h = absurd (true≢false (sym e))

second_of : (a b c d e : Bool) → (a || b || c || d || e) ≡ false → b ≡ false
second_of true b c d e is = absurd (true≢false is)
second_of false true c d e is = absurd (true≢false is)
second_of false false c d e is = refl

cluster_there : (word cluster heading rep : Bool) → word ≡ true → ((word && not (cluster && heading)) || rep) ≡ false → cluster ≡ true
cluster_there true true heading rep w e = refl
cluster_there true false heading rep w e = absurd (true≢false e)
cluster_there false cluster heading rep w e = absurd (true≢false (sym w))

-- one of two is true
one_of : (a b : Bool) → (not a && not b) ≡ false → b ≡ false → a ≡ true
one_of true b e h = refl
one_of false true e h = absurd (true≢false h)
one_of false false e h = absurd (true≢false e)

-- only a literal is a real literal
is_literal : (k : NodeKind) → is_of kind.Literal k ≡ true → k ≡ kind.Literal
is_literal kind.Literal e = refl
is_literal kind.File e = absurd (true≢false (sym e))
is_literal _ e = absurd (true≢false (sym e))

no_elements : (items : ℕ → Item) (nodes : List Node) (n : ℕ) (t : TypeExpression) (token : Option ℕ) (cs : List ℕ) → is_real_literal (elements_of items nodes n t token cs) ≡ false
no_elements items nodes n t None cs = refl
no_elements items nodes n t (Some token) [] = refl
no_elements items nodes n t (Some token) (c ∷ cs) = refl

literal_alone : (items : ℕ → Item) (nodes : List Node) (n : ℕ) (node : Node) (k : NodeKind) → is_of kind.Literal k ≡ false → is_real_literal (expression_of items nodes n node k) ≡ false
literal_alone items nodes n node kind.Literal apart = absurd (true≢false apart)
literal_alone items nodes n node kind.Elems apart = no_elements items nodes n (items (child 0 node)).type node.value_token (drop 1 node.children)
literal_alone items nodes n node _ apart = refl

module _ (t : Text) (h : Headed) (its : Tables) (library : List Specification) (refused : List ℕ) (is : IsFileRead t h its library refused) where
  abbrev tables : Tables
  tables = record its { file = h.file }

  abbrev r : Read
  r = h.file

  abbrev nodes : List Node
  nodes = h.file.syntax.now

  abbrev scope : Scope
  scope = scope_in h.file.syntax.now h.file.rounds.now

  abbrev f : File
  f = file_with h.file (scope_in h.file.syntax.now h.file.rounds.now) library refused

  abbrev unrefused : File
  unrefused = file_with h.file (scope_in h.file.syntax.now h.file.rounds.now) library []

  abbrev terms : List Term
  terms = its.types.now

  abbrev of : IsFileOfTree f
  of = known_at.of_tree t tables library refused (is.whole refused).made (is.whole refused).lost

  are : AreTables f tables
  are = tables_are t tables library refused (is.whole refused).made

  -- ---- where nothing is refused

  fine_in : (n : ℕ) → n < length nodes → is_refused f n ≡ false → (m : ℕ) → (round f n).first ≤ m → m ≤ n → is_no_type_at unrefused m ≡ false
  fine_in n inside fine m low high = none_refused f (is_no_type_at unrefused) is.refused_are n inside fine m low high

  -- ---- types that are no `cvt`

  scope_is : (o : Option Cluster) → (place_in f o).scope ≡ scope
  scope_is None = refl
  scope_is (Some c) = refl

  cvt_by : (items : ℕ → Item) (c : ℕ) (node : Node) → slice_get nodes c ≡ Some node → is_type node.kind ≡ true → (b : Bool) → is_of kind.Simple node.kind ≡ b → bound.is_cvt items nodes c ≡ (b && is_word simple.Cvt (item f c).type)
  cvt_by items c node at of_type true hit =
      let simple_here : kind_at nodes c ≡ kind.Simple = ap kind_of at ∙ is_simple node.kind hit in
      sym (word_as (item_with items nodes c (slice_get nodes c)).type) ∙ sym (word_is items nodes c simple_here simple.Cvt)
    where
      is_simple : (k : NodeKind) → is_of kind.Simple k ≡ true → k ≡ kind.Simple
      is_simple kind.Simple e = refl
      is_simple kind.File e = absurd (true≢false (sym e))
      is_simple _ e = absurd (true≢false (sym e))
  cvt_by items c node at of_type false apart =
      ap (λ (o : Option Node). is_cvt_type (item_with items nodes c o).type) at ∙ no_word items nodes c node node.kind of_type apart

  pub cvt_is : (items : ℕ → Item) (c : ℕ) → is_type (kind_at nodes c) ≡ true → bound.is_cvt items nodes c ≡ is_cvt_at f c
  cvt_is items c of_type = by (slice_get nodes c) refl
    where
      by : (o : Option Node) → slice_get nodes c ≡ o → bound.is_cvt items nodes c ≡ is_cvt_at f c
      by None at = absurd (true≢false (sym of_type ∙ ap (λ (o : Option Node). is_type (kind_of o)) at))
      by (Some node) at =
          cvt_by items c node at (sym (ap (λ (o : Option Node). is_type (kind_of o)) at) ∙ of_type) (is_of kind.Simple node.kind) refl
          ∙ ap (λ (o : Option Node). is_of kind.Simple (kind_of o) && is_word simple.Cvt (item f c).type) (sym at)

  -- a type that is known
  pub type_there : (items : ℕ → Item) (c : ℕ) → is_type (kind_at nodes c) ≡ true → IsKnown r c → IsType terms (settled_type r c) (Some (type_settled scope (item f c).type))
  type_there items c of_type known =
      settled_known h its scope library refused (is.whole refused).made.file.parsed.forms (is.whole refused).made.file.parsed.tree are items c (type_settled scope (item f c).type) known (type_is_constant nodes c of_type)
      (ap (value_of_constant scope (settled scope)) (constant_is nodes c true of_type))

  word_apart : (c : ℕ) → is_type (kind_at nodes c) ≡ true → is_cvt_at f c ≡ false → is_word simple.Cvt (item f c).type ≡ false
  word_apart c of_type apart = by (slice_get nodes c) refl
    where
      by_simple : (node : Node) → slice_get nodes c ≡ Some node → is_type node.kind ≡ true → (b : Bool) → is_of kind.Simple node.kind ≡ b → (b && is_word simple.Cvt (item f c).type) ≡ false → is_word simple.Cvt (item f c).type ≡ false
      by_simple node at its_type true hit e = e
      by_simple node at its_type false other e =
          ap (λ (i : Item). is_word simple.Cvt i.type) (item_there nodes c node at)
          ∙ as_table (type_expression_of (before c (item_at nodes)) nodes c node node.kind)
          ∙ no_word (before c (item_at nodes)) nodes c node node.kind its_type other
        where
          as_table : (u : TypeExpression) → is_word simple.Cvt u ≡ is_cvt_type u
          as_table (a_simple_type n simple.Cvt) = refl
          as_table (a_simple_type n simple.Null) = refl
          as_table (a_simple_type n simple.Bool) = refl
          as_table (a_simple_type n simple.Int) = refl
          as_table (a_simple_type n simple.Real) = refl
          as_table (a_simple_type n simple.Char) = refl
          as_table (a_simple_type n simple.String) = refl
          as_table (a_simple_type n simple.Any) = refl
          as_table (a_simple_type n simple.Rep) = refl
          as_table _ = refl

      by : (o : Option Node) → slice_get nodes c ≡ o → is_word simple.Cvt (item f c).type ≡ false
      by None at = absurd (true≢false (sym of_type ∙ ap (λ (o : Option Node). is_type (kind_of o)) at))
      by (Some node) at =
          by_simple node at (sym (ap (λ (o : Option Node). is_type (kind_of o)) at) ∙ of_type) (is_of kind.Simple node.kind) refl
          (sym (ap (λ (o : Option Node). is_of kind.Simple (kind_of o) && is_word simple.Cvt (item f c).type) at) ∙ apart)

  pub plain_inside : (items : ℕ → Item) (n m c : ℕ) → is_type (kind_at nodes c) ≡ true → is_cvt_at f c ≡ false → IsKnown r c → IsType terms (type_inside r items n c) (Some (headings.type_inside f m (item f c).type))
  plain_inside items n m c of_type apart known =
      let definition : headings.type_inside f m (item f c).type ≡ type_settled scope (item f c).type =
      ap (for_body (is_represented f m)) (plain_type (place_at f m) (item f c).type (word_apart c of_type apart))
      ∙ for_plain (is_represented f m) (type_settled (place_at f m).scope (item f c).type)
      ∙ ap (λ (s : Scope). type_settled s (item f c).type) (scope_is (cluster_round f m)) in
      subst (λ (of : Option TypeId). IsType terms of (Some (headings.type_inside f m (item f c).type))) (sym (ap (λ (b : Bool). if b then (if is_some (bound.own_type r n) && is_none (rep_at r n) then bound.own_type r n else rep_type r c) else settled_type r c) (cvt_is items c of_type ∙ apart)))
      (subst (λ (u : CluType). IsType terms (settled_type r c) (Some u)) (sym definition) (type_there items c of_type known))

  -- ---- `rep`

  abbrev Counted : ℕ → Type 0
  Counted e = is_refused f e ≡ bound.is_refused h e

  counts_at : (e c : ℕ) → IsSideOf f of e c → Counted e
  counts_at e c side =
      is.counts e (slice_get_within nodes e side.its side.at) (equate_outside f of (known_at.parents t tables library refused (is.whole refused).made (is.whole refused).lost) e (ap kind_of side.at ∙ side.is))

  -- of the same equate, in the file of which no node is refused
  unrefused_side : (e c : ℕ) → IsSideOf f of e c → IsSideOf unrefused (known_at.of_tree t tables library [] (is.whole []).made (is.whole []).lost) e c
  unrefused_side e c side = record { its = side.its; at = side.at; is = side.is; rest = side.rest; children = side.children }

  -- the right side of a `rep` that is not refused is known
  rep_known : (n c : ℕ) → rep.meant_there t h its library refused (is.whole refused) n ≡ meant.Equate c → is_refused_rep f n ≡ false → is_constant nodes c ≡ true → IsKnown r c
  rep_known n c mean fine const =
      let x = rep.has_rep t h its library refused (is.whole refused) n c mean in
      rep.side_known t h its library [] (is.whole []) x.equate c (unrefused_side x.equate c x.side) const
      (λ m low less. fine_in x.equate (slice_get_within nodes x.equate x.side.its x.side.at) (sym (ap (is_refused_at f) x.named_so) ∙ fine) m low (omega (arith, less)))

  rep_same : (n c : ℕ) → n < length nodes → rep.meant_there t h its library refused (is.whole refused) n ≡ meant.Equate c → is_refused_rep f n ≡ bound.is_refused_rep h n
  rep_same n c less mean = rep.rep_refused t h its library refused (is.whole refused) n c less mean (λ e side. counts_at e c side)

  unless_by : (a b : Bool) (of : Option TypeId) (u : Option CluType) → a ≡ b → (b ≡ false → IsType terms of u) → IsType terms (if a then None else of) (if b then None else u)
  unless_by a b of u same known = subst (λ (a : Bool). IsType terms (if a then None else of) (if b then None else u)) (sym same) (by b known)
    where
      by : (b : Bool) → (b ≡ false → IsType terms of u) → IsType terms (if b then None else of) (if b then None else u)
      by true known = tt
      by false known = known refl

  -- nothing in any case
  none_by : (a b : Bool) (of : Option TypeId) (u : Option CluType) → of ≡ None → IsType terms of u → IsType terms (if a then None else of) (if b then None else u)
  none_by a b of u none known =
      subst (λ (of : Option TypeId). IsType terms (if a then None else of) (if b then None else u)) (sym none)
      (by a b u (subst (λ (of : Option TypeId). IsType terms of u) none known))
    where
      by : (a b : Bool) (u : Option CluType) → IsType terms None u → IsType terms (if a then None else None) (if b then None else u)
      by true true u known = tt
      by true false u known = known
      by false true u known = tt
      by false false u known = known

  abbrev IsRepTold : ℕ → Type 0
  IsRepTold n = IsType terms (bound.representation h n) (typing.representation f n)

  pub represented : (n : ℕ) → n < length nodes → IsType terms (bound.representation h n) (typing.representation f n)
  represented n less = by (rep.meant_there t h its library refused (is.whole refused) n) refl
    where
      -- where the table has no equate
      no_equate : (m : Meaning) → rep.meant_there t h its library refused (is.whole refused) n ≡ m → ((c : ℕ) → m ≡ meant.Equate c → ⊥) → bound.type_meant r (Some m) ≡ None → IsRepTold n
      no_equate m mean never none =
          none_by (bound.is_refused_rep h n) (is_refused_rep f n) (rep_type r n) (rep_value f (meaning f n (codes "rep")))
          (rep.rep_as t h its library refused (is.whole refused) n less ∙ ap (λ (m : Meaning). bound.type_meant r (Some m)) mean ∙ none)
          (rep.rep_typed t h its library refused (is.whole refused) n less (λ c e const. absurd (never c (sym mean ∙ e))))

      by : (m : Meaning) → rep.meant_there t h its library refused (is.whole refused) n ≡ m → IsRepTold n
      by (meant.Equate c) mean =
          unless_by (bound.is_refused_rep h n) (is_refused_rep f n) (rep_type r n) (rep_value f (meaning f n (codes "rep"))) (sym (rep_same n c less mean))
          (λ fine. rep.rep_typed t h its library refused (is.whole refused) n less (λ d e const. rep_known n d e fine const))
      by meant.TypeSet mean = no_equate meant.TypeSet mean (λ c e. cc) refl
      by (meant.TypeParameter k) mean = no_equate (meant.TypeParameter k) mean (λ c e. cc) refl
      by (meant.ConstantParameter k) mean = no_equate (meant.ConstantParameter k) mean (λ c e. cc) refl
      by (meant.Local c) mean = no_equate (meant.Local c) mean (λ c e. cc) refl
      by (meant.OwnOfRoutine c) mean = no_equate (meant.OwnOfRoutine c) mean (λ c e. cc) refl
      by (meant.OwnOfCluster c) mean = no_equate (meant.OwnOfCluster c) mean (λ c e. cc) refl
      by meant.RoutineOfCluster mean = no_equate meant.RoutineOfCluster mean (λ c e. cc) refl
      by (meant.Module m) mean = no_equate (meant.Module m) mean (λ c e. cc) refl

  is_an_equate : (k : NodeKind) → is_of kind.Equate k ≡ true → k ≡ kind.Equate
  is_an_equate kind.Equate e = refl
  is_an_equate kind.File e = absurd (true≢false (sym e))
  is_an_equate _ e = absurd (true≢false (sym e))

  named_equate : (o : Option ℕ) (e : ℕ) → equate_of f o ≡ Some e → kind_in f e ≡ kind.Equate
  named_equate None e said = absurd (none-some e said)
  named_equate (Some m) e said = by (is_of kind.Equate (kind_in f m)) refl said
    where
      by : (b : Bool) → is_of kind.Equate (kind_in f m) ≡ b → (if b then Some m else None) ≡ Some e → kind_in f e ≡ kind.Equate
      by true hit said = subst (λ (i : ℕ). kind_in f i ≡ kind.Equate) (same_Some m e said) (is_an_equate (kind_in f m) hit)
      by false hit said = absurd (none-some e said)

  kind_there : (e : ℕ) → kind_in f e ≡ kind.Equate → e < length nodes
  kind_there e its_kind = let x = there nodes e kind.Equate refl its_kind in slice_get_within nodes e x.node x.at

  -- it has no name
  unnamed_so : (n e : ℕ) → equate_named f n (codes "rep") ≡ Some e → has_no_name (names f e) ≡ true
  unnamed_so n e named = by (declaration f n (codes "rep")) refl
    where
      by : (o : Option Declared) → declaration f n (codes "rep") ≡ o → has_no_name (names f e) ≡ true
      by None said = absurd (none-some e (sym (ap (λ (o : Option Declared). equate_of f (declaring_node f o)) said) ∙ named))
      by (Some d) said =
          let its : IsRep f d.node = rep_declared f is.reps n d said in
          let same : d.node ≡ e = same_Some d.node e
          (sym (ap (λ (k : NodeKind). if is_of kind.Equate k then Some d.node else None) its.equate)
          ∙ sym (ap (λ (o : Option Declared). equate_of f (declaring_node f o)) said) ∙ named) in
          subst (λ (i : ℕ). has_no_name (names f i) ≡ true) same its.unnamed

  -- whether it is refused is told by counts, where it is declared by an equate alone
  rep_counted : (n : ℕ) → n < length nodes → is_refused_rep f n ≡ bound.is_refused_rep h n
  rep_counted n less = by (equate_named f n (codes "rep")) refl
    where
      by : (o : Option ℕ) → equate_named f n (codes "rep") ≡ o → is_refused_rep f n ≡ bound.is_refused_rep h n
      by (Some e) named =
          let its_kind : kind_in f e ≡ kind.Equate = named_equate (declaring_node f (declaration f n (codes "rep"))) e named in
          ap (is_refused_at f) named
          ∙ is.counts e (kind_there e its_kind) (equate_outside f of (known_at.parents t tables library refused (is.whole refused).made (is.whole refused).lost) e its_kind)
          ∙ sym (ap (bound.is_refused_at h) (rep.declared_there t h its library refused (is.whole refused) n e less named))
      by None named = ap (is_refused_at f) named ∙ sym (ap (bound.is_refused_at h) (no_node (rep_at r n) refl))
        where
          no_declared : (d : Option Declared) → declaration f n (codes "rep") ≡ d → files.node_of d ≡ None
          no_declared None said = refl
          no_declared (Some d) said =
              let its : IsRep f d.node = rep_declared f is.reps n d said in
              absurd (none-some d.node (sym named ∙ ap (λ (o : Option Declared). equate_of f (declaring_node f o)) said ∙ ap (λ (k : NodeKind). if is_of kind.Equate k then Some d.node else None) its.equate))

          no_node : (o : Option ℕ) → rep_at r n ≡ o → files.declaring_node r.names.now (rep_at r n) ≡ None
          no_node None at_none = ap (files.declaring_node r.names.now) at_none
          no_node (Some p) at_place =
              ap (files.declaring_node r.names.now) at_place
              ∙ ap (λ (ds : List Declared). files.node_of (slice_get ds p)) (is.whole refused).made.file.names.declared
              ∙ ap (λ (o : Option ℕ). files.node_of (declaration_at scope o)) (sym (rep.place_found t h its library refused (is.whole refused) n p less at_place))
              ∙ no_declared (declaration f n (codes "rep")) refl

  -- ---- types of variables

  node_there : (c : ℕ) → is_type (kind_at nodes c) ≡ true → (node : Node) × (slice_get nodes c ≡ Some node)
  node_there c of_type = by (slice_get nodes c) refl
    where
      by : (o : Option Node) → slice_get nodes c ≡ o → (node : Node) × (slice_get nodes c ≡ Some node)
      by None at = absurd (true≢false (sym of_type ∙ ap (λ (o : Option Node). is_type (kind_of o)) at))
      by (Some node) at = (node, at)

  node_is : (c : ℕ) → is_type (kind_at nodes c) ≡ true → type_node (item f c).type ≡ c
  node_is c of_type =
      let x = node_there c of_type in
      ap (λ (i : Item). type_node i.type) (item_there nodes c x.0 x.1) ∙ node_of_type (before c (item_at nodes)) nodes c x.0 x.0.kind

  word_at : (c : ℕ) → is_type (kind_at nodes c) ≡ true → is_word simple.Cvt (item f c).type ≡ is_cvt_at f c
  word_at c of_type = by (is_cvt_at f c) refl
    where
      by : (b : Bool) → is_cvt_at f c ≡ b → is_word simple.Cvt (item f c).type ≡ is_cvt_at f c
      by true hit = (and_parts (is_of kind.Simple (kind_in f c)) (is_word simple.Cvt (item f c).type) hit).1 ∙ sym hit
      by false apart = word_apart c of_type apart ∙ sym apart

  module _ (its_refused : List ℕ) where
    abbrev g : File
    g = file_with h.file (scope_in h.file.syntax.now h.file.rounds.now) library its_refused

    abbrev of_g : IsFileOfTree g
    of_g = known_at.of_tree t tables library its_refused (is.whole its_refused).made (is.whole its_refused).lost

    -- where no type is refused at or below a type its value is known, if it is not `cvt`
    whole_known : (c : ℕ) → is_type (kind_at nodes c) ≡ true → is_cvt_at f c ≡ false → ((m : ℕ) → (round f c).first ≤ m → m ≤ c → is_no_type_at g m ≡ false) → IsKnown r c
    whole_known c of_type apart fine =
        let x = node_there c of_type in
        let inside : c < length nodes = slice_get_within nodes c x.0 x.1 in
        elim (reason_there g of_g c inside) [
          | inl why ↦ absurd (by x.0 x.1 why)
          | inr found ↦ known_at.found_known t tables library its_refused (is.whole its_refused).made (is.whole its_refused).lost c inside found
        ]
      where
        by : (node : Node) → slice_get nodes c ≡ Some node → HasReason g c → ⊥
        by node at why = elim why.reason [
          | inl bad ↦ true≢false (sym bad ∙ fine why.node why.first why.upto)
          | inr word ↦ elim (cases_lt why.node c) [
            | inl less ↦
                cvt_refused g of_g c node at
                (constant_top node.kind (or_right (is_expression node.kind) (is_type node.kind) (sym (ap (λ (o : Option Node). is_type (kind_of o)) at) ∙ of_type))) why.node why.first less word
            | inr more ↦
                let high : why.node ≤ c = why.upto in
                let same : why.node ≡ c = omega (arith, more, high) in
                true≢false (sym (ap₂ (λ (k : NodeKind) (b : Bool). is_of kind.Simple k && b) word.of_word word.word) ∙ ap (is_cvt_at f) same ∙ apart)
          ]
        ]

    -- where no type is refused at the node itself, it is no `cvt` that is misplaced
    placed_there : (c : ℕ) → is_no_type_at g c ≡ false → v31 f c ≡ false
    placed_there c fine = by (v31 g c) refl
      where
        by : (b : Bool) → v31 g c ≡ b → v31 g c ≡ false
        by false e = e
        by true e = absurd (true≢false (sym (refused_by g of_g c 8 rule.CvtPlace refl e) ∙ fine))

    upto : (c : ℕ) → is_type (kind_at nodes c) ≡ true → (round f c).first ≤ c
    upto c of_type = let x = node_there c of_type in forest_goes_on f.nodes (round f c).first c x.0.children (is_subtree f.nodes f.rounds of.tree of.surrounded of.ordered c x.0 x.1)

    -- `cvt` that is not refused stands in a cluster
    in_cluster : (c : ℕ) → is_type (kind_at nodes c) ≡ true → is_cvt_at f c ≡ true → ((m : ℕ) → (round f c).first ≤ m → m ≤ c → is_no_type_at g m ≡ false) → is_cluster_round f c ≡ true
    in_cluster c of_type hit fine =
        let parts = and_parts (is_of kind.Simple (kind_in f c)) (is_word simple.Cvt (item f c).type) hit in
        cluster_there (is_word simple.Cvt (item f c).type) (is_cluster_round f c) (is_of_heading f (parent f c)) (is_word simple.Rep (item f c).type && not (is_cluster_round f c)) parts.1
        (ap (λ (k : NodeKind). v31_at f k c) (sym (is_simple (kind_in f c) parts.0)) ∙ placed_there c (fine c (upto c of_type) (omega arith)))
      where
        is_simple : (k : NodeKind) → is_of kind.Simple k ≡ true → k ≡ kind.Simple
        is_simple kind.Simple e = refl
        is_simple kind.File e = absurd (true≢false (sym e))
        is_simple _ e = absurd (true≢false (sym e))

    -- the right side of `rep`, where no type is refused in it
    pub rep_fine : (n : ℕ) → ((e m : ℕ) → equate_named f n (codes "rep") ≡ Some e → (round f e).first ≤ m → m < e → is_no_type_at g m ≡ false) → IsRepFine f r n
    rep_fine n fine e c cs named kids = (known, (no_side, side_typed (kind_in f c) no_side no_real))
      where
        is_equate_here : kind_in f e ≡ kind.Equate
        is_equate_here = named_equate (declaring_node f (declaration f n (codes "rep"))) e named

        x : There nodes e kind.Equate
        x = there nodes e kind.Equate refl is_equate_here

        its_children : x.node.children ≡ c ∷ cs
        its_children = sym (ap (node_children f) x.at) ∙ kids

        side : IsSideOf g of_g e c
        side = record { its = x.node; at = x.at; is = x.is; rest = cs; children = its_children }

        up : parent f c ≡ Some e
        up = parent_told f of c (record { parent = e; node = x.node; at = x.at; child = subst (IsIn c) (sym its_children) (inl refl) })

        there_is : c < e
        there_is = (side_inside g of_g e c side).1

        fine_there : is_no_type_at g c ≡ false
        fine_there =
            let least : (round f e).first ≤ (round f c).first = (side_inside g of_g e c side).0 in
            let inside : e < length nodes = slice_get_within nodes e x.node x.at in
            let y = node_at nodes c (omega (arith, there_is, inside)) in
            let own : (round f c).first ≤ c = forest_goes_on f.nodes (round f c).first c y.0.children (is_subtree f.nodes f.rounds of.tree of.surrounded of.ordered c y.0 y.1) in
            fine e c named (omega (arith, least, own)) there_is

        type_told : v9 g (is_bad_of g (rules_of_types g)) c ≡ false
        type_told = by (v9 g (is_bad_of g (rules_of_types g)) c) refl
          where
            by : (b : Bool) → v9 g (is_bad_of g (rules_of_types g)) c ≡ b → v9 g (is_bad_of g (rules_of_types g)) c ≡ false
            by false e = e
            by true e = absurd (true≢false (sym (refused_by g of_g c 4 rule.NotType refl e) ∙ fine_there))

        no_side : is_no_type_side f (kind_in f c) c ≡ false
        no_side =
            right_and (is_rep_equate f (parent f c)) (is_no_type_side f (kind_in f c) c)
            (ap (is_rep_equate f) up ∙ ap₂ (λ (a b : Bool). a && b) (ap (is_of kind.Equate) is_equate_here) (unnamed_so n e named))
            (second_of (is_neither g c && wants_type g c) (is_bad_rep g c) (is_no_type g (kind_in g c) c) (has_bad_type g (is_bad_of g (rules_of_types g)) (kind_in g c) c) (is_too_long g is_long_type c) type_told)

        real_told : v10 g c ≡ false
        real_told = by (v10 g c) refl
          where
            by : (b : Bool) → v10 g c ≡ b → v10 g c ≡ false
            by false e = e
            by true e = absurd (true≢false (sym (refused_by g of_g c 5 rule.Real refl e) ∙ fine_there))

        -- `real` is no type, but is told by another rule
        no_real : is_real_literal (item f c).expression ≡ false
        no_real = by_node (slice_get nodes c) refl
          where
            by_kind : (node : Node) → slice_get nodes c ≡ Some node → (b : Bool) → is_of kind.Literal node.kind ≡ b → is_real_literal (item f c).expression ≡ false
            by_kind node at true hit = ap (λ (k : NodeKind). is_real g k c) (sym (ap kind_of at ∙ is_literal node.kind hit)) ∙ real_told
            by_kind node at false other = ap (λ (i : Item). is_real_literal i.expression) (item_there nodes c node at) ∙ literal_alone (before c (item_at nodes)) nodes c node node.kind other

            by_node : (o : Option Node) → slice_get nodes c ≡ o → is_real_literal (item f c).expression ≡ false
            by_node None at = ap (λ (i : Item). is_real_literal i.expression) (item_is nodes c ∙ ap (item_with (before c (item_at nodes)) nodes c) at)
            by_node (Some node) at = by_kind node at (is_of kind.Literal node.kind) refl

        side_typed : (k : NodeKind) → is_no_type_side f k c ≡ false → is_real_literal (item f c).expression ≡ false → is_type_value (value_settled f.scope (item f c).constant) ≡ true
        side_typed kind.TypeSet e real = absurd (true≢false e)
        side_typed kind.File e real = one_of (is_type_value (value_settled f.scope (item f c).constant)) (is_real_literal (item f c).expression) e real
        side_typed _ e real = one_of (is_type_value (value_settled f.scope (item f c).constant)) (is_real_literal (item f c).expression) e real

        set_apart : (k : NodeKind) → is_no_type_side f k c ≡ false → is_of kind.TypeSet k ≡ false
        set_apart kind.TypeSet miss = absurd (true≢false miss)
        set_apart kind.File miss = refl
        set_apart _ miss = refl

        known : IsKnown r c
        known =
            rep.side_known t h its library its_refused (is.whole its_refused) e c side
            (are.sides c (ap₂ (λ (a b : Bool). a && not b) (ap (is_kind_at f kind.Equate) up ∙ ap (is_of kind.Equate) is_equate_here) (set_apart (kind_in f c) no_side))) (λ m low less. fine e m named low less)

  -- a type in which nothing is refused, as a body sees it
  pub inside_told : (its_refused : List ℕ) (items : ℕ → Item) (n m c : ℕ) → n < length nodes → is_type (kind_at nodes c) ≡ true → (is_cvt_at f c ≡ true → IsAtHome f n c × IsAtHome f m c) → ((m : ℕ) → (round f c).first ≤ m → m ≤ c → is_no_type_at (g its_refused) m ≡ false) → (is_cvt_at f c ≡ true → IsRepFine f r n) → IsType terms (type_inside r items n c) (Some (headings.type_inside f m (item f c).type))
  inside_told its_refused items n m c less of_type home fine fine_rep = by (is_cvt_at f c) refl
    where
      by : (b : Bool) → is_cvt_at f c ≡ b → IsType terms (type_inside r items n c) (Some (headings.type_inside f m (item f c).type))
      by true hit = is.cvts items n m c less hit (in_cluster its_refused c of_type hit fine) (home hit).0 (home hit).1 (fine_rep hit)
      by false apart = plain_inside items n m c of_type apart (whole_known its_refused c of_type apart fine)

  -- the type of a variable by its name, unless it is refused
  pub known_told : (items : ℕ → Item) (n c : ℕ) → n < length nodes → IsVariableType f n c → IsType terms (bound.known_inside h items n c) (known_inside f n (item f c).type)
  known_told items n c less its_type =
      let x = node_there c its_type.is in
      let inside : c < length nodes = slice_get_within nodes c x.0 x.1 in
      let seen : is_refused_inside f n (item f c).type ≡ (is_refused f c || (is_cvt_at f c && is_refused_rep f n)) =
      inside_as f n c (item f c).type (node_is c its_type.is) ∙ ap (λ (b : Bool). is_refused f c || (b && is_refused_rep f n)) (word_at c its_type.is) in
      let same : is_refused_inside f n (item f c).type ≡ bound.is_refused_inside h items n c =
      seen
      ∙ ap₂ (λ (a b : Bool). a || (is_cvt_at f c && b)) (is.counts c inside its_type.outside) (rep_counted n less)
      ∙ ap (λ (b : Bool). bound.is_refused h c || (b && bound.is_refused_rep h n)) (sym (cvt_is items c its_type.is)) in
      unless_by (bound.is_refused_inside h items n c) (is_refused_inside f n (item f c).type) (type_inside r items n c) (Some (headings.type_inside f n (item f c).type)) (sym same)
      (λ fine.
      let its_fine : is_refused f c ≡ false = (or_parts (is_refused f c) (is_cvt_at f c && is_refused_rep f n) (sym seen ∙ fine)).0 in
      let good : v31 f c ≡ false = placed_there [] c (fine_in c inside its_fine c (upto [] c its_type.is) (omega arith)) in
      inside_told [] items n n c less its_type.is (λ hit. (its_type.home hit good, its_type.home hit good)) (fine_in c inside its_fine)
      (λ hit. rep_fine [] n (λ e m named low high.
      let told : is_refused_rep f n ≡ false = ap (λ (b : Bool). b && is_refused_rep f n) (sym hit) ∙ (or_parts (is_refused f c) (is_cvt_at f c && is_refused_rep f n) (sym seen ∙ fine)).1 in
      fine_in e (kind_there e (named_equate (declaring_node f (declaration f n (codes "rep"))) e named)) (sym (ap (is_refused_at f) named) ∙ told) m low (omega (arith, high)))))
