-- Of an accepted file nothing is lost at assignments to components and elements, and no module that is named or invoked has the name
-- `stream`, which is a type.
use Rattle.std.proofs.Common.{◌≡◌, ◌∙◌, ℕ, ◌+◌, ◌++◌, ◌<◌, ◌≤◌, ◌==◌, ◌&&◌, ◌||◌, not, Bool, true, false, List, ◌∷◌, codes, drop, get_or, length, Option, Some, None, inl, inr, refl, sym, ap, subst, arith}
use Rattle.std.specs.Prelude.{slice_get}
use Rattle.std.specs.List.{AllByRecursion, list_any}
use Rattle.std.proofs.lemmas.Bool.{true≢false, and_parts, cases_lt, or_parts}
use Rattle.clu_base.specs.declared.rules.Rule.{Rule}
use Rattle.clu_base.specs.declared.rules.Rule.TheVariants as rule
use Rattle.clu_tree.specs.declared.node.Node.{Node}
use Rattle.clu_tree.specs.declared.node.NodeKind.{NodeKind}
use Rattle.clu_tree.specs.declared.node.NodeKind.TheVariants as kind
use Rattle.clu_parser.specs.Order.{IsForest, none, tree}
use Rattle.clu_parser.specs.Shape as shape
use Rattle.clu_parser.specs.Shape.{forms, is_child}
use Rattle.clu_parser.specs.Trees.{Text}
use Rattle.clu_types.specs.CluType.{CluType, cluster_of, parameter}
use Rattle.clu_syntax.specs.declared.words.SimpleType.TheVariants as simple
use Rattle.clu_syntax.specs.Items.{Item, expressions_at}
use Rattle.clu_syntax.specs.Kinds.{is_expression, is_type}
use Rattle.clu_syntax.specs.Nodes.{before, expression_of, item_at}
use Rattle.clu_syntax.specs.Splits.{child, first_name, is_of}
use Rattle.clu_syntax.specs.Syntax.{Constants, Expression, Identifier, an_infix, a_prefix, a_name, an_index, a_get, a_call, an_operation, Statement, a_set_field, a_set_index, a_declare}
use Rattle.clu_meaning.specs.Constants.{Sugar, is_cand, is_cor, is_operation, is_negated, prefix_name, sugar}
use Rattle.clu_meaning.specs.Scoping.{Meaning, is_module, is_routine_of_cluster}
use Rattle.clu_meaning.specs.Settling.{type_settled}
use Rattle.clu_names.specs.Scopes.{is_stream}
use Rattle.clu_parts.proofs.Fitting.{IsPart, Slot, Stand, just, on_head}
use Rattle.clu_declares.specs.Declares.{IsParsed}
use Rattle.clu_declares.proofs.Below.{before_is, item_there, same_kind}
use Rattle.clu_declares.proofs.Facts.{There, there}
use Rattle.clu_declares.proofs.Parents.{IsIn, child_before, kind_of_child, no_form}
use Rattle.clu_checking.specs.ConstantRules.{is_routine, is_word}
use Rattle.clu_checking.specs.ExpressionRules.{has_no_one_result, is_no_object, is_no_object_index, is_no_object_name, is_not_one_object, is_type_before_index, names_no_object}
use Rattle.clu_checking.specs.Files.{File, denotes_module, is_kept, is_own_module, item, kind_in, meaning, node_children, node_names, round}
use Rattle.clu_checking.specs.Headings.{own_type, specification}
use Rattle.clu_checking.specs.Invocations.{is_object_wanted}
use Rattle.clu_checking.specs.Invoked.{Invoked, by_index, by_infix, by_sugar, if_object, instance_of, invoked_at, invoked_by, invoked_by_statement, invoked_in, named_as, named_by, of_module, operation_of, or_stored}
use Rattle.clu_checking.specs.Refusals.{fault_at, is_bad, refusal, rules_by}
use Rattle.clu_checking.specs.Rules.{all_rules, least, violates}
use Rattle.clu_checking.specs.StatementRules.{Binding, bindings_at, v14}
use Rattle.clu_checking.specs.Typing.{name_type, takes_actuals, takes_actuals_by, type_of}
use Rattle.clu_checking.specs.Wanted.{Wanted, a_name_with_actuals, an_object, first_name_at, wanted}
use Rattle.clu_passes.specs.Losing.{is_definition, walk_by, walk_of}
use Rattle.clu_passes.specs.Lost.{is_cvt_at, lost}
use Rattle.clu_passes.specs.Notes.{HaveParents}
use Rattle.clu_passes.specs.Trees.{IsFileOfTree, is_of_constant}
use Rattle.clu_passes.proofs.AcceptedFine.{accepted_clear, accepted_kept, faultless}
use Rattle.clu_passes.proofs.CalleesWanted.{callee_wanted}
use Rattle.clu_passes.proofs.InsideTold.{fine_kept}
use Rattle.clu_passes.proofs.LostNodes.{lost_below, no_cvt}
use Rattle.clu_passes.proofs.NodeSaid.{form, form_at}
use Rattle.clu_passes.proofs.OthersFine.{least_none, outside_of}
use Rattle.clu_passes.proofs.RowsPassed.{stands}
use Rattle.clu_passes.proofs.Subtrees.{is_subtree}
use Rattle.clu_passes.proofs.ValuesKnown.{all_by}

-- ---- kinds

no_simple : (k : NodeKind) → is_expression k ≡ true → is_of kind.Simple k ≡ false
no_simple kind.Simple e = absurd (true≢false (sym e))
no_simple kind.File e = refl
no_simple _ e = refl

-- no expression is `cvt`
pub expression_apart : (f : File) (n : ℕ) → is_expression (kind_in f n) ≡ true → is_cvt_at f n ≡ false
expression_apart f n here = ap (λ (b : Bool). b && is_word simple.Cvt (item f n).type) (no_simple (kind_in f n) here)

-- both sides, and the index, are expressions
field_parts : (k : NodeKind) → (is_expression k || no_form (forms kind.SetField) k) ≡ true
unfolding no_form
field_parts kind.File = refl
field_parts _ = refl

index_parts : (k : NodeKind) → (is_expression k || no_form (forms kind.SetIndex) k) ≡ true
unfolding no_form
index_parts kind.File = refl
index_parts _ = refl

abbrev pub is_setting : NodeKind → Bool
is_setting kind.SetField = true
is_setting kind.SetIndex = true
is_setting _ = false

setting_parts : (k : NodeKind) → is_setting k ≡ true → (j : NodeKind) → (is_expression j || no_form (forms k) j) ≡ true
setting_parts kind.SetField e j = field_parts j
setting_parts kind.SetIndex e j = index_parts j
setting_parts kind.File e j = absurd (true≢false (sym e))
setting_parts _ e j = absurd (true≢false (sym e))

-- what is no constant, nor a type
record IsApart (k : NodeKind) : Type 0 where
  no_file : is_of k kind.File ≡ false
  no_constant : is_of_constant k ≡ false
  no_word : is_of kind.Simple k ≡ false

setting_apart : (k : NodeKind) → is_setting k ≡ true → IsApart k
setting_apart kind.SetField e = record { no_file = refl; no_constant = refl; no_word = refl }
setting_apart kind.SetIndex e = record { no_file = refl; no_constant = refl; no_word = refl }
setting_apart kind.File e = absurd (true≢false (sym e))
setting_apart _ e = absurd (true≢false (sym e))

-- ---- nothing is lost at an assignment to a component or an element

module _ (f : File) (of : IsFileOfTree f) (parents : HaveParents f) where
  -- nor below nodes at which it isn't
  kept_in : (from to : ℕ) (roots : List ℕ) → IsForest f.nodes from roots to → AllByRecursion (λ (c : ℕ). lost f c ≡ false) roots → (m : ℕ) → from ≤ m → m < to → lost f m ≡ false
  kept_in from to _ (none _) kept m low high = absurd (omega (arith, low, high))
  kept_in from to _ (tree _ root _ its roots at inside behind) kept m low high = elim (cases_lt m root) [
    | inl less ↦ kept_in from root its.children inside (subst (λ (o : Option Node). AllByRecursion (λ (c : ℕ). lost f c ≡ false) (node_children f o)) at (lost_below f of parents root kept.0)) m low less
    | inr upto ↦ elim (cases_lt root m) [
      | inl after ↦ kept_in (root + 1) to roots behind kept.1 m (omega (arith, after)) high
      | inr back ↦ let same : root ≡ m = omega (arith, upto, back) in subst (λ (k : ℕ). lost f k ≡ false) same kept.0
    ]
  ]

  module _ (accepted : refusal f ≡ None) where
    pub expression_kept : (n : ℕ) → n < length f.nodes → is_expression (kind_in f n) ≡ true → lost f n ≡ false
    expression_kept n inside here = accepted_kept f of parents accepted n inside (ap (λ (b : Bool). b || is_type (kind_in f n)) here) (expression_apart f n here)

    module _ (n : ℕ) (inside : n < length f.nodes) (setting : is_setting (kind_in f n) ≡ true) where
      apart : IsApart (kind_in f n)
      apart = setting_apart (kind_in f n) setting

      its : There f.nodes n (kind_in f n)
      its = there f.nodes n (kind_in f n) apart.no_file refl

      part_kept : (c : ℕ) → IsIn c its.node.children → lost f c ≡ false
      part_kept c i =
          let less : c < n = child_before f.nodes of.tree n its.node its.at (of.shaped n its.node its.at) c i in
          let expression : is_expression (kind_in f c) ≡ true =
          kind_of_child f.nodes of.tree n its.node its.at (of.shaped n its.node its.at) c i is_expression
          (λ j. ap (λ (k : NodeKind). is_expression j || no_form (forms k) j) its.is ∙ setting_parts (kind_in f n) setting j) in
          expression_kept c (omega (arith, less, inside)) expression

      below_kept : (m : ℕ) → (round f n).first ≤ m → m < n → lost f m ≡ false
      below_kept =
          kept_in (round f n).first n its.node.children (is_subtree f.nodes f.rounds of.tree of.surrounded of.ordered n its.node its.at)
          (all_by (λ (c : ℕ). lost f c ≡ false) its.node.children part_kept)

      plain_there : (m : ℕ) → (round f n).first ≤ m → m ≤ n → is_cvt_at f m ≡ false
      plain_there m low high = elim (cases_lt m n) [
        | inl less ↦ no_cvt f m (below_kept m low less)
        | inr back ↦
            let same : n ≡ m = omega (arith, high, back) in
            subst (λ (k : ℕ). is_cvt_at f k ≡ false) same (ap (λ (b : Bool). b && is_word simple.Cvt (item f n).type) apart.no_word)
      ]

      pub setting_kept : lost f n ≡ false
      setting_kept =
          fine_kept f of parents n inside
          (record { outside = outside_of f of parents n apart.no_constant; below = λ m low high. accepted_clear f accepted m (omega (arith, inside, high)); plain = plain_there })

-- ---- what is invoked is no module `stream`

abbrev pub NoStream : Option Invoked → Type 0
NoStream (Some (of_module name given)) = is_stream name ≡ false
NoStream _ = Unit {0}

type_plain : (t : CluType) (name : Identifier) → NoStream (Some (operation_of t name))
type_plain (cluster_of c given) name = tt
type_plain (parameter k) name = tt
type_plain _ name = tt

sugar_plain : (name : Identifier) (t : Option CluType) → NoStream (by_sugar name t)
sugar_plain name (Some t) = type_plain t name
sugar_plain name None = tt

infix_plain : (s : Sugar) (t : Option CluType) → NoStream (by_infix s t)
infix_plain is_cand t = tt
infix_plain is_cor t = tt
infix_plain (is_operation name) t = sugar_plain name t
infix_plain (is_negated name) t = sugar_plain name t

stored_plain : (o : Option Invoked) → NoStream o → NoStream (Some (or_stored o))
stored_plain (Some i) plain = plain
stored_plain None plain = tt

-- a module that is an object has another name
other_name : (denotes stream known routine : Bool) → not ((denotes && not stream && known) && routine) ≡ false → stream ≡ false
other_name denotes false known routine e = refl
other_name true true known routine e = absurd (true≢false e)
other_name false true known routine e = absurd (true≢false e)

module _ (f : File) where
  name_plain : (n : ℕ) (name : Identifier) (m : Meaning) → names_no_object f n name m ≡ false → NoStream (named_as f n name m)
  name_plain n name is_routine_of_cluster e = sugar_plain name (own_type f n)
  name_plain n name is_module e = other_name (denotes_module f (meaning f n name)) (is_stream name) (is_own_module f name || is_kept f name) (is_routine (specification f name)) e
  name_plain n name _ e = tt

  instance_plain : (n : ℕ) (name : Identifier) (cs : Constants) (m : Meaning) → (takes_actuals_by f n name m && names_no_object f n name m) ≡ false → NoStream (instance_of f name cs m)
  instance_plain n name cs is_module e = other_name (denotes_module f (meaning f n name)) (is_stream name) (is_own_module f name || is_kept f name) (is_routine (specification f name)) e
  instance_plain n name cs _ e = tt

  index_plain : (b : Bool) (n : ℕ) (name : Identifier) (cs : Constants) → (takes_actuals f n name && is_no_object_name f n name) ≡ false → NoStream (by_index f b n name cs)
  index_plain true n name cs e = instance_plain n name cs (meaning f n name) e
  index_plain false n name cs e = sugar_plain (codes "fetch") (name_type f n name)

  -- the name of what is no object
  abbrev names_other : Expression → Bool
  names_other (a_name n name) = is_no_object_name f n name
  names_other e = is_no_object_index f e

  routine_plain : (e : Expression) → names_other e ≡ false → NoStream (named_by f e)
  routine_plain (a_name n name) fine = name_plain n name (meaning f n name) fine
  routine_plain (an_index n (a_name m name) cs) fine = instance_plain m name cs (meaning f m name) fine
  routine_plain (an_operation n t name) fine = type_plain (type_settled f.scope t) name
  routine_plain (an_infix n o a b) fine = tt
  routine_plain _ fine = tt

  expression_plain : (e : Expression) → is_of kind.Call (form e) ≡ false → names_other e ≡ false → NoStream (invoked_by f e)
  expression_plain (an_infix n o a b) apart fine = infix_plain (sugar o) (type_of f a)
  expression_plain (a_prefix n s e) apart fine = sugar_plain (prefix_name s) (type_of f e)
  expression_plain (an_index n (a_name m name) cs) apart fine = index_plain (takes_actuals f m name) m name cs fine
  expression_plain (an_index n e cs) apart fine = sugar_plain (codes "fetch") (type_of f e)
  expression_plain (a_get n e name) apart fine = sugar_plain (codes "get_" ++ name) (type_of f e)
  expression_plain (a_call n e es) apart fine = absurd (true≢false apart)
  expression_plain (a_name n name) apart fine = name_plain n name (meaning f n name) fine
  expression_plain (an_operation n t name) apart fine = type_plain (type_settled f.scope t) name
  expression_plain _ apart fine = tt

  statement_plain : (s : Statement) → NoStream (invoked_by_statement f s)
  statement_plain (a_set_field n r name e) = sugar_plain (codes "set_" ++ name) (type_of f r)
  statement_plain (a_set_index n a i e) = sugar_plain (codes "store") (type_of f a)
  statement_plain (a_declare n d) = tt
  statement_plain _ = tt

  -- ---- by kinds

  index_other : (e : Expression) → is_of kind.Index (form e) ≡ true → is_no_object_index f e ≡ false → names_other e ≡ false
  index_other (a_name n name) is fine = absurd (true≢false (sym is))
  index_other (an_infix n o a b) is fine = fine
  index_other _ is fine = fine

  no_other : (e : Expression) → is_of kind.Name (form e) ≡ false → is_of kind.Index (form e) ≡ false → names_other e ≡ false
  no_other (a_name n name) apart beside = absurd (true≢false apart)
  no_other (an_index n e cs) apart beside = absurd (true≢false beside)
  no_other (an_infix n o a b) apart beside = refl
  no_other _ apart beside = refl

  name_wanted : (n : ℕ) (w : Wanted) → is_object_wanted w ≡ true → is_type_before_index f w n ≡ false → is_no_object_name f n (first_name_at f n) ≡ false
  name_wanted n a_name_with_actuals used e = absurd (true≢false (sym used))
  name_wanted n an_object used e = e
  name_wanted n _ used e = sym (ap (λ (b : Bool). b && is_no_object_name f n (first_name_at f n)) used) ∙ e

-- ---- of an accepted file

-- a rule that is asked at a node is not violated where none is
pub asked_fine : (v : Rule → Bool) (i : ℕ) (r : Rule) → slice_get all_rules i ≡ Some r → (k : NodeKind) (heading : Bool) → is_definition k ≡ false → least v (rules_by k (walk_by (is_definition k) heading) heading) ≡ None → v r ≡ false
asked_fine v i r at kind.Module heading apart e = absurd (true≢false apart)
asked_fine v i r at kind.Routine heading apart e = absurd (true≢false apart)
asked_fine v i r at kind.Cluster heading apart e = absurd (true≢false apart)
asked_fine v i r at kind.File true apart e = least_none v all_rules i r at e
asked_fine v i r at kind.File false apart e = least_none v all_rules i r at e
asked_fine v i r at _ true apart e = least_none v all_rules i r at e
asked_fine v i r at _ false apart e = least_none v all_rules i r at e

no_definition : (k : NodeKind) → is_expression k ≡ true → is_definition k ≡ false
no_definition kind.Module e = absurd (true≢false (sym e))
no_definition kind.Routine e = absurd (true≢false (sym e))
no_definition kind.Cluster e = absurd (true≢false (sym e))
no_definition kind.File e = refl
no_definition _ e = refl

an_expression_child : (k : NodeKind) → is_child shape.expression k ≡ is_expression k
an_expression_child kind.File = refl
an_expression_child _ = refl

module _ (t : Text) (f : File) (of : IsFileOfTree f) (parsed : IsParsed t f.nodes) (accepted : refusal f ≡ None) where
  objects_fine : (n : ℕ) → n < length f.nodes → is_expression (kind_in f n) ≡ true → is_no_object f (kind_in f n) n ≡ false
  objects_fine n inside expression =
      let none_there : fault_at f (walk_of f n) n ≡ None = faultless f accepted (walk_of f n) n inside in
      let fine : v14 f n ≡ false = asked_fine (violates f (is_bad f) n) 10 rule.ResultCount refl (kind_in f n) (round f n).heading (no_definition (kind_in f n) expression) none_there in
      (or_parts (has_no_one_result f n) (is_no_object f (kind_in f n) n)
      (or_parts (is_not_one_object f n) (list_any (λ (b : Binding). not (length b.variables == length b.objects)) (bindings_at f n)) fine).0).1

  module _ (n : ℕ) (inside : n < length f.nodes) (expression : is_expression (kind_in f n) ≡ true) (used : is_object_wanted (wanted f n) ≡ true) where
    name_fine : kind_in f n ≡ kind.Name → names_other f (item f n).expression ≡ false
    name_fine is =
        let x : There f.nodes n kind.Name = there f.nodes n kind.Name refl is in
        let its : (item f n).expression ≡ a_name n (first_name_at f n) =
        ap (λ (i : Item). i.expression) (item_there f.nodes n x.node x.at)
        ∙ ap (expression_of (before n (item_at f.nodes)) f.nodes n x.node) x.is
        ∙ ap (λ (o : Option Node). a_name n (first_name (node_names f o))) (sym x.at) in
        ap (names_other f) its ∙ name_wanted f n (wanted f n) used (sym (ap (λ (k : NodeKind). is_no_object f k n) is) ∙ objects_fine n inside expression)

    index_fine : kind_in f n ≡ kind.Index → names_other f (item f n).expression ≡ false
    index_fine is =
        index_other f (item f n).expression (ap (is_of kind.Index) (form_at f.nodes n expression ∙ is))
        (sym (ap (λ (b : Bool). b && is_no_object_index f (item f n).expression) used) ∙ sym (ap (λ (k : NodeKind). is_no_object f k n) is) ∙ objects_fine n inside expression)

    by_kind : (k : NodeKind) → kind_in f n ≡ k → names_other f (item f n).expression ≡ false
    by_kind kind.Name is = name_fine is
    by_kind kind.Index is = index_fine is
    by_kind kind.File is = no_other f (item f n).expression (ap (is_of kind.Name) (form_at f.nodes n expression ∙ is)) (ap (is_of kind.Index) (form_at f.nodes n expression ∙ is))
    by_kind _ is = no_other f (item f n).expression (ap (is_of kind.Name) (form_at f.nodes n expression ∙ is)) (ap (is_of kind.Index) (form_at f.nodes n expression ∙ is))

    object_fine : names_other f (item f n).expression ≡ false
    object_fine = by_kind (kind_in f n) refl

  -- what is called is an object
  callee_fine : (n : ℕ) → n < length f.nodes → (node : Node) → slice_get f.nodes n ≡ Some node → node.kind ≡ kind.Call → (c : ℕ) (rest : List ℕ) → IsPart f.nodes (is_child shape.expression) n c → node.children ≡ c ∷ rest
      → names_other f (before n (item_at f.nodes) c).expression ≡ false
  callee_fine n inside node at is c rest part begins =
      let less : c < n = part.0 in
      let expression : is_expression (kind_in f c) ≡ true = sym (an_expression_child (kind_in f c)) ∙ part.1 in
      ap (λ (i : Item). names_other f i.expression) (before_is f.nodes n c part.0)
      ∙ object_fine c (omega (arith, less, inside)) expression (callee_wanted f of n node at is c rest begins expression)

  module _ (n : ℕ) (inside : n < length f.nodes) where
    module _ (x : There f.nodes n kind.Call) where
      abbrev IsFirst : List ℕ → Type 0
      IsFirst cs = x.node.children ≡ cs → names_other f (before n (item_at f.nodes) (get_or cs 0 0)).expression ≡ false

      first_fine : (ss : List Slot) (cs : List ℕ) → Stand f.nodes n (just (is_child shape.expression) ∷ ss) cs → IsFirst cs
      first_fine ss cs s = on_head f.nodes n IsFirst (is_child shape.expression) ss (λ c rest part s. callee_fine n inside x.node x.at x.is c rest part) cs s

      its_expression : (item f n).expression ≡ a_call n (before n (item_at f.nodes) (child 0 x.node)).expression (expressions_at (before n (item_at f.nodes)) (drop 1 x.node.children))
      its_expression = ap (λ (i : Item). i.expression) (item_there f.nodes n x.node x.at) ∙ ap (expression_of (before n (item_at f.nodes)) f.nodes n x.node) x.is

      call_plain : NoStream (invoked_by f (item f n).expression)
      call_plain =
          subst (λ (e : Expression). NoStream (invoked_by f e)) (sym its_expression)
          (stored_plain (named_by f (before n (item_at f.nodes) (child 0 x.node)).expression)
          (routine_plain f (before n (item_at f.nodes) (child 0 x.node)).expression (first_fine _ x.node.children (stands t f.nodes parsed n kind.Call x _ refl) refl)))

    used_plain : is_expression (kind_in f n) ≡ true → is_object_wanted (wanted f n) ≡ true → (b : Bool) → is_of kind.Call (kind_in f n) ≡ b → NoStream (invoked_by f (item f n).expression)
    used_plain expression used true is = call_plain (there f.nodes n kind.Call refl (same_kind kind.Call (kind_in f n) is))
    used_plain expression used false is = expression_plain f (item f n).expression (ap (is_of kind.Call) (form_at f.nodes n expression) ∙ is) (object_fine n inside expression used)

    object_plain : (b : Bool) → (is_expression (kind_in f n) && is_object_wanted (wanted f n)) ≡ b → NoStream (if_object f b n)
    object_plain true is = let both = and_parts (is_expression (kind_in f n)) (is_object_wanted (wanted f n)) is in used_plain both.0 both.1 (is_of kind.Call (kind_in f n)) refl
    object_plain false is = tt

    plain_as : (k : NodeKind) → kind_in f n ≡ k → NoStream (invoked_in f k n)
    plain_as kind.SetField is = statement_plain f (item f n).statement
    plain_as kind.SetIndex is = statement_plain f (item f n).statement
    plain_as k is = object_plain (is_expression k && is_object_wanted (wanted f n)) (ap (λ (j : NodeKind). is_expression j && is_object_wanted (wanted f n)) is)

    pub no_stream : NoStream (invoked_at f n)
    no_stream = plain_as (kind_in f n) refl
