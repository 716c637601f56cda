-- A type of a heading that is lost is refused there, so a routine has no type only where its heading is refused.
use Rattle.std.proofs.Common.{◌≡◌, ◌∙◌, ℕ, zero, suc, ◌+◌, ◌-◌, ◌<◌, ◌≤◌, ◌&&◌, ◌||◌, not, nat_le, Bool, true, false, cond, if◌then◌else◌, List, [], ◌∷◌, ◌++◌, drop, take, length, map, filter, is_some, Option, Some, None, inl, inr, refl, sym, ap, subst, arith}
use Rattle.std.specs.Prelude.{slice_get}
use Rattle.std.specs.List.{AllByRecursion, list_any, range_with_len}
use Rattle.std.specs.Option.{option_and_then, option_map}
use Rattle.std.proofs.lemmas.Bool.{true≢false, and_from, cases_lt, le-leb, or_right}
use Rattle.std.proofs.lemmas.Option.{none-some, slice_get_within}
use Rattle.clu_base.specs.declared.constants.Const.{Const}
use Rattle.clu_base.specs.declared.rules.Rule.TheVariants as rule
use Rattle.clu_tree.specs.declared.node.Node.{Node}
use Rattle.clu_tree.specs.declared.node.NodeKind.{NodeKind}
use Rattle.clu_tree.specs.declared.node.NodeKind.TheVariants as kind
use Rattle.clu_types.specs.Arena.{types_of}
use Rattle.clu_types.specs.declared.term.Exception.{Exception}
use Rattle.clu_types.specs.declared.term.Heading.{Heading}
use Rattle.clu_types.specs.declared.term.Term.{Term}
use Rattle.clu_types.specs.declared.term.TypeId.{TypeId}
use Rattle.clu_syntax.specs.declared.round.Round.{Round}
use Rattle.clu_syntax.specs.declared.words.SimpleType.TheVariants as simple
use Rattle.clu_syntax.specs.Items.{Item}
use Rattle.clu_syntax.specs.Kinds.{is_expression, is_type, kind_at, kind_of}
use Rattle.clu_syntax.specs.Nodes.{before, item_at, routine_of, type_expression_of}
use Rattle.clu_syntax.specs.Rounds.{cluster_in}
use Rattle.clu_syntax.specs.Slots.{any, one, slots}
use Rattle.clu_syntax.specs.Splits.{after_one, after_run, child, children_of, first_name, is_of, leading, parts, run}
use Rattle.clu_syntax.specs.Syntax.{Constant, Routine, TypeExpression, a_simple_type}
use Rattle.clu_parts.proofs.Fitting.{AreBefore, children_before}
use Rattle.clu_meaning.specs.Settling.{settled, settled_type, type_settled, value_of_constant}
use Rattle.clu_declares.proofs.Around.{IsAround, around}
use Rattle.clu_declares.proofs.Below.{item_there, same_kind}
use Rattle.clu_declares.proofs.Facts.{There, further, there}
use Rattle.clu_declares.proofs.Parents.{IsIn, of_all}
use Rattle.clu_checking.specs.Files.{File, children, item, kind_in, node_children, parent, round, stands_below}
use Rattle.clu_checking.specs.ConstantRules.{is_cluster_round, is_of_heading, is_word, v31_at}
use Rattle.clu_checking.specs.Headings.{is_in_type_of, is_of_type, is_refused_heading}
use Rattle.clu_checking.specs.Refusals.{is_no_type_at, with_refused}
use Rattle.clu_settle.specs.declared.value.Value.{Value}
use Rattle.clu_settle.specs.declared.value.Value.TheVariants as value
use Rattle.clu_settle.specs.Inserted.{in_order}
use Rattle.clu_settle.specs.Lists.{exception_before, exception_with, type_id, value_of}
use Rattle.clu_settle.specs.Lost.{IsLost}
use Rattle.clu_settle.specs.Meant.{meanings_of}
use Rattle.clu_settle.specs.Settled.{AreSettled}
use Rattle.clu_settle.specs.Values.{Agrees, told}
use Rattle.clu_settle.proofs.Parts.{constant_is, type_is_constant}
use Rattle.clu_settle.proofs.Shapes.{FirstPart, all_parts, first_part}
use Rattle.clu_head.specs.Outside as outside
use Rattle.clu_head.specs.Outside.{arguments_behind, declared_at, first_type, heading_outside, signals_behind, times, type_outside, types_behind}
use Rattle.clu_head.specs.Routines.{arguments_in, behind_arguments, results_in}
use Rattle.clu_head.specs.Routines as routines
use Rattle.clu_head.specs.Seen.{is_cvt, seen_type}
use Rattle.clu_passes.specs.Losing.{HasReason, IsReason, IsWholeCvt}
use Rattle.clu_passes.specs.Trees.{IsFileOfTree}
use Rattle.clu_passes.proofs.CvtPlaces.{constant_top, cvt_refused, misplaced_at}
use Rattle.clu_passes.proofs.LegalForms.{word_is}
use Rattle.clu_passes.proofs.LostRefused.{lost_refused, refused_by}
use Rattle.clu_passes.proofs.Subtrees.{is_subtree}
use Rattle.clu_passes.proofs.ValuesKnown.{IsBelow, child_below}
use Rattle.clu_passes.proofs.Within.{forest_goes_on}

-- ---- lists

kept_there : (p q : ℕ → Bool) (a len m : ℕ) → a ≤ m → m < a + len → q m ≡ true → p m ≡ true → list_any p (filter q (range_with_len a len)) ≡ true
kept_there p q a zero m l h is has = absurd (omega (arith, l, h))
kept_there p q a (suc len) m l h is has = elim (cases_lt a m) [
  | inl more ↦ by (q a) (kept_there p q (a + 1) len m (omega (arith, more)) (omega (arith, h)) is has)
  | inr back ↦
      (let same : m ≡ a = omega (arith, l, back) in
      ap (λ (b : Bool). list_any p (cond b (a ∷ filter q (range_with_len (a + 1) len)) (filter q (range_with_len (a + 1) len)))) (ap q (sym same) ∙ is)
      ∙ ap (λ (b : Bool). b || list_any p (filter q (range_with_len (a + 1) len))) (ap p (sym same) ∙ has))
]
  where
    by : (b : Bool) → list_any p (filter q (range_with_len (a + 1) len)) ≡ true → list_any p (cond b (a ∷ filter q (range_with_len (a + 1) len)) (filter q (range_with_len (a + 1) len))) ≡ true
    by true later = or_right (p a) (list_any p (filter q (range_with_len (a + 1) len))) later
    by false later = later

any_in : (p : ℕ → Bool) (c : ℕ) (cs : List ℕ) → IsIn c cs → p c ≡ true → list_any p cs ≡ true
any_in p c [] i is = absurd i
any_in p c (x ∷ cs) (inl e) is = ap (λ (b : Bool). b || list_any p cs) (ap p e ∙ is)
any_in p c (x ∷ cs) (inr i) is = or_right (p x) (list_any p cs) (any_in p c cs i is)

in_taken : (m c : ℕ) (cs : List ℕ) → IsIn c (take m cs) → IsIn c cs
in_taken zero c cs i = absurd i
in_taken (suc m) c [] i = absurd i
in_taken (suc m) c (x ∷ cs) (inl e) = inl e
in_taken (suc m) c (x ∷ cs) (inr i) = inr (in_taken m c cs i)

in_dropped : (m c : ℕ) (cs : List ℕ) → IsIn c (drop m cs) → IsIn c cs
in_dropped zero c cs i = i
in_dropped (suc m) c [] i = absurd i
in_dropped (suc m) c (x ∷ cs) i = inr (in_dropped m c cs i)

in_rest : (nodes : List Node) (k : NodeKind) (c : ℕ) (cs : List ℕ) → IsIn c (after_one nodes k cs) → IsIn c cs
in_rest nodes k c [] i = absurd i
in_rest nodes k c (x ∷ cs) i = by (is_of k (kind_at nodes x)) i
  where
    by : (b : Bool) → IsIn c (if b then cs else x ∷ cs) → IsIn c (x ∷ cs)
    by true i = inr i
    by false i = i

-- a child of the first node of a list, which is of this kind
record IsInPart (nodes : List Node) (k : NodeKind) (cs : List ℕ) (t : ℕ) : Type 0 where
  part : ℕ
  stands : IsIn part cs
  its : There nodes part k
  inside : IsIn t its.node.children

in_part : (nodes : List Node) (k : NodeKind) → is_of k kind.File ≡ false → (t : ℕ) (cs : List ℕ) → IsIn t (parts nodes k cs) → IsInPart nodes k cs t
in_part nodes k apart t [] i = absurd i
in_part nodes k apart t (c ∷ cs) i = by (is_of k (kind_at nodes c)) refl i
  where
    by : (b : Bool) → is_of k (kind_at nodes c) ≡ b → IsIn t (if b then children_of (slice_get nodes c) else []) → IsInPart nodes k (c ∷ cs) t
    by false is i = absurd i
    by true is i =
        let x : There nodes c k = there nodes c k apart (same_kind k (kind_at nodes c) is) in
        record { part = c; stands = inl refl; its = x; inside = subst (λ (o : Option Node). IsIn t (children_of o)) x.at i }

run_first : (nodes : List Node) (k : NodeKind) (c x : ℕ) (rest : List ℕ) → kind_at nodes x ≡ k → (IsIn c rest → kind_at nodes c ≡ k) → IsIn c (x ∷ rest) → kind_at nodes c ≡ k
run_first nodes k c x rest is later (inl e) = sym (ap (kind_at nodes) e) ∙ is
run_first nodes k c x rest is later (inr i) = later i

pub run_kind : (nodes : List Node) (k : NodeKind) (c : ℕ) (cs : List ℕ) → IsIn c (run nodes k cs) → kind_at nodes c ≡ k
unfolding leading
run_kind nodes k c [] i = absurd i
run_kind nodes k c (x ∷ cs) i = by (is_of k (kind_at nodes x)) refl i (λ i. run_kind nodes k c cs i)
  where
    by : (b : Bool) → is_of k (kind_at nodes x) ≡ b → IsIn c (take (if b then leading nodes k cs + 1 else 0) (x ∷ cs)) → (IsIn c (take (leading nodes k cs) cs) → kind_at nodes c ≡ k) → kind_at nodes c ≡ k
    by false is i later = absurd i
    by true is i later =
        let next : leading nodes k cs + 1 ≡ suc (leading nodes k cs) = omega arith in
        run_first nodes k c x (take (leading nodes k cs) cs) (same_kind k (kind_at nodes x) is) later (subst (λ (m : ℕ). IsIn c (take m (x ∷ cs))) next i)

-- ---- forms

cvt_form : (t : TypeExpression) → is_cvt t ≡ true → (m : ℕ) × (t ≡ a_simple_type m simple.Cvt)
cvt_form (a_simple_type n simple.Cvt) e = (n, refl)
cvt_form (a_simple_type n _) e = absurd (true≢false (sym e))
cvt_form _ e = absurd (true≢false (sym e))

word_cvt : (t : TypeExpression) → is_word simple.Cvt t ≡ true → is_cvt t ≡ true
word_cvt (a_simple_type n simple.Cvt) e = refl
word_cvt (a_simple_type n _) e = absurd (true≢false (sym e))
word_cvt _ e = absurd (true≢false (sym e))

abbrev made : List TypeId → List TypeId → List Exception → Heading
made args results signals = record { args = args; results = results; signals = signals }

misplaced : (a c h e : Bool) → a ≡ true → c ≡ false → ((a && not (c && h)) || e) ≡ true
misplaced true true h e is none = absurd (true≢false none)
misplaced true false h e is none = refl
misplaced false c h e is none = absurd (true≢false (sym is))

same_round : (k : NodeKind) (n : ℕ) (r : Round) → is_of kind.Cluster k ≡ false → cluster_in k n r ≡ r.cluster
same_round kind.Cluster n r apart = absurd (true≢false apart)
same_round kind.File n r apart = refl
same_round _ n r apart = refl

module _ (f : File) (of : IsFileOfTree f) where
  -- children stand in the cluster in which their parent does
  same_cluster : (n : ℕ) (node : Node) → slice_get f.nodes n ≡ Some node → is_of kind.Cluster node.kind ≡ false → (c : ℕ) → IsIn c node.children → (round f c).cluster ≡ (round f n).cluster
  same_cluster n node at apart c i =
      let inside : n < length f.nodes = slice_get_within f.nodes n node at in
      let a : IsAround f.rounds n node c =
      of_all (IsAround f.rounds n node) c node.children
      (around f.nodes f.rounds n node of.surrounded at (further n (length f.nodes) node.children (omega (arith, inside)) (children_before f.nodes of.tree n node at))) i in
      a.cluster ∙ same_round node.kind n (round f n) apart

  -- a type is refused at the node or below it
  pub record IsRefusedIn (n : ℕ) : Type 0 where
    pub node : ℕ
    pub first : (round f n).first ≤ node
    pub upto : node ≤ n
    pub refused : is_no_type_at f node ≡ true

  refused_above : (n : ℕ) (node : Node) → slice_get f.nodes n ≡ Some node → (c : ℕ) → IsIn c node.children → IsRefusedIn c → IsRefusedIn n
  refused_above n node at c i r =
      let x : IsBelow f of n c = child_below f of n node at c i in
      let first : (round f n).first ≤ (round f c).first = x.first in
      let less : c < n = x.less in
      let low : (round f c).first ≤ r.node = r.first in
      let high : r.node ≤ c = r.upto in
      record { node = r.node; first = omega (arith, first, low); upto = omega (arith, less, high); refused = r.refused }

  refused_itself : (n : ℕ) (node : Node) → slice_get f.nodes n ≡ Some node → is_no_type_at f n ≡ true → IsRefusedIn n
  refused_itself n node at e =
      record { node = n; first = forest_goes_on f.nodes (round f n).first n node.children (is_subtree f.nodes f.rounds of.tree of.surrounded of.ordered n node at); upto = omega arith; refused = e }

  stands : (n : ℕ) (r : IsRefusedIn n) → stands_below f r.node n ≡ true
  stands n r = and_from (nat_le (round f n).first r.node) (nat_le r.node n) (le-leb (round f n).first r.node r.first) (le-leb r.node n r.upto)

  -- a part of the heading of a routine
  heading_so : (r : Routine) (n : ℕ) (node : Node) → r.node ≡ n → slice_get f.nodes n ≡ Some node → (c : ℕ) → IsIn c node.children → is_of_type (kind_in f c) ≡ true → c < length f.nodes → IsRefusedIn c → is_refused_heading (with_refused f) r ≡ true
  heading_so r n node named at c i has inside x =
      let upto : x.node ≤ c = x.upto in
      let listed : children (with_refused f) r.node ≡ node.children = ap (children (with_refused f)) named ∙ ap (node_children (with_refused f)) at in
      kept_there (is_in_type_of (with_refused f) r) (is_no_type_at f) 0 (length f.nodes) x.node (omega arith) (omega (arith, inside, upto)) x.refused
      (ap (list_any (λ d. is_of_type (kind_in f d) && stands_below f x.node d)) listed
      ∙ any_in (λ d. is_of_type (kind_in f d) && stands_below f x.node d) c node.children i (and_from (is_of_type (kind_in f c)) (stands_below f x.node c) has (stands c x)))

  module _ (types : List Term) (constants : List Const) (values : List Value) (known : AreSettled f.nodes f.scope types constants values)
      (lost : (n : ℕ) → n < length f.nodes → value_of values n ≡ value.Lost → IsLost f.nodes (meanings_of f.nodes f.rounds f.scope.declarations) n) where
    -- a type that has no number is lost
    type_lost : (c : ℕ) → is_type (kind_at f.nodes c) ≡ true → type_id (value_of values c) ≡ None → value_of values c ≡ value.Lost
    type_lost c is none = by (value_of values c) refl none agrees
      where
        agrees : Agrees (told (types_of types) constants (value_of values c)) (settled_type (type_settled f.scope (item_at f.nodes c).type))
        agrees = subst (λ (k : Constant). Agrees (told (types_of types) constants (value_of values c)) (value_of_constant f.scope (settled f.scope) k)) (constant_is f.nodes c true is) (known.each c (type_is_constant f.nodes c is))

        by : (v : Value) → value_of values c ≡ v → type_id v ≡ None → Agrees (told (types_of types) constants v) (settled_type (type_settled f.scope (item_at f.nodes c).type)) → value_of values c ≡ value.Lost
        by value.Lost at none e = at
        by value.Nothing at none e = absurd (cc)
        by (value.Constant k) at none e = absurd (cc)
        by (value.Parameter k) at none e = absurd (cc)
        by (value.Type id) at none e = absurd (none-some id (sym none))

    -- the types of the heading, where `cvt` stands for the cluster
    module _ (own : Option TypeId) where
      abbrev IsGone : ℕ → Type 0
      IsGone t = type_outside own f.nodes values t ≡ None

      gone_is : (t : ℕ) → IsGone t → seen_type own (item_at f.nodes t).type (value_of values t) ≡ None
      unfolding type_outside
      gone_is t e = e

      -- in a module that is a routine it stands for nothing
      abbrev IfAlone : ℕ → Type 0
      IfAlone n = own ≡ None → (round f n).cluster ≡ None

      module _ (t : ℕ) (node : Node) (at : slice_get f.nodes t ≡ Some node) (is : is_type node.kind ≡ true) where
        abbrev written : TypeExpression
        written = (item_at f.nodes t).type

        of_cvt : is_cvt written ≡ true → (round f t).cluster ≡ None → IsRefusedIn t
        of_cvt cvt none =
            let form : (m : ℕ) × (written ≡ a_simple_type m simple.Cvt) = cvt_form written cvt in
            let word : node.kind ≡ kind.Simple = (word_is (before t (item_at f.nodes)) f.nodes t node node.kind form.0 simple.Cvt is (sym form.1 ∙ ap (λ (i : Item). i.type) (item_there f.nodes t node at))).0 in
            refused_itself t node at
            (refused_by f of t 8 rule.CvtPlace refl
            (ap (λ (k : NodeKind). v31_at f k t) (ap kind_of at ∙ word)
            ∙ misplaced (is_word simple.Cvt written) (is_cluster_round f t) (is_of_heading f (parent f t)) (is_word simple.Rep written && not (is_cluster_round f t)) (ap (is_word simple.Cvt) form.1) (ap is_some none)))

        of_lost : is_cvt written ≡ false → value_of values t ≡ value.Lost → IsRefusedIn t
        of_lost plain gone =
            let inside : t < length f.nodes = slice_get_within f.nodes t node at in
            by (lost_refused f of t inside (lost t inside gone))
          where
            never : (r : HasReason f t) → IsWholeCvt f r.node → ⊥
            never r whole = elim (cases_lt r.node t) [
              | inl less ↦ cvt_refused f of t node at (constant_top node.kind (or_right (is_expression node.kind) (is_type node.kind) is)) r.node r.first less whole
              | inr more ↦
                  (let high : r.node ≤ t = r.upto in
                  let same : r.node ≡ t = omega (arith, high, more) in
                  true≢false (sym (word_cvt written (ap (λ (n : ℕ). is_word simple.Cvt (item_at f.nodes n).type) (sym same) ∙ whole.word)) ∙ plain))
            ]

            by : HasReason f t → IsRefusedIn t
            by r = elim r.reason [
              | inl refused ↦ record { node = r.node; first = r.first; upto = r.upto; refused = refused }
              | inr whole ↦ absurd (never r whole)
            ]

        pub type_refused : IfAlone t → IsGone t → IsRefusedIn t
        type_refused alone e = by (is_cvt written) refl (type_id (value_of values t)) refl (gone_is t e)
          where
            by : (b : Bool) → is_cvt written ≡ b → (o : Option TypeId) → type_id (value_of values t) ≡ o → (if b then own else o) ≡ None → IsRefusedIn t
            by true cvt o of_value none = of_cvt cvt (alone none)
            by false plain o of_value none = of_lost plain (type_lost t (ap (λ (o : Option Node). is_type (kind_of o)) at ∙ is) (of_value ∙ none))

      -- ---- which of them is lost

      record HasGone (cs : List ℕ) : Type 0 where
        place : ℕ
        stands_in : IsIn place cs
        of_types : is_type (kind_at f.nodes place) ≡ true
        gone : IsGone place

      abbrev AreTypes : List ℕ → Type 0
      AreTypes cs = (c : ℕ) → IsIn c cs → is_type (kind_at f.nodes c) ≡ true

      some_gone : (cs : List ℕ) (ids : List TypeId) → AreTypes cs → types_behind own f.nodes values ids cs ≡ None → HasGone cs
      some_gone [] ids are e = absurd (none-some ids (sym e))
      some_gone (t ∷ ts) ids are e = by (type_outside own f.nodes values t) refl e (λ id e. some_gone ts (ids ++ id ∷ []) (λ d i. are d (inr i)) e)
        where
          by : (o : Option TypeId) → type_outside own f.nodes values t ≡ o → option_and_then (λ id. types_behind own f.nodes values (ids ++ id ∷ []) ts) o ≡ None
              → ((id : TypeId) → types_behind own f.nodes values (ids ++ id ∷ []) ts ≡ None → HasGone ts) → HasGone (t ∷ ts)
          by None is e later = record { place = t; stands_in = inl refl; of_types = are t (inl refl); gone = is }
          by (Some id) is e later = let x : HasGone ts = later id e in record { place = x.place; stands_in = inr x.stands_in; of_types = x.of_types; gone = x.gone }

      -- all children of a Results or an Exc
      types_below : (c : ℕ) (part : Node) → slice_get f.nodes c ≡ Some part → slots part.kind ≡ any is_type ∷ [] → AreTypes part.children
      types_below c part at slot t i = (of_all (λ (t : ℕ). (t < c) × (is_type (kind_at f.nodes t) ≡ true)) t part.children (all_parts f.nodes of.tree of.shaped is_type c part at slot) i).1

      -- that of a Decl, and one of an Exc
      record HasGoneIn (k : NodeKind) (cs : List ℕ) : Type 0 where
        part : ℕ
        stands_in : IsIn part cs
        its : There f.nodes part k
        gone : HasGone its.node.children

      more_gone : (k : NodeKind) (c : ℕ) (cs : List ℕ) → HasGoneIn k cs → HasGoneIn k (c ∷ cs)
      more_gone k c cs x = record { part = x.part; stands_in = inr x.stands_in; its = x.its; gone = x.gone }

      abbrev AreOf : NodeKind → List ℕ → Type 0
      AreOf k cs = (c : ℕ) → IsIn c cs → kind_at f.nodes c ≡ k

      argument_gone : (cs : List ℕ) (ids : List TypeId) → AreOf kind.Decl cs → arguments_behind own f.nodes values ids cs ≡ None → HasGoneIn kind.Decl cs
      argument_gone [] ids are e = absurd (none-some ids (sym e))
      argument_gone (c ∷ cs) ids are e =
          let x : There f.nodes c kind.Decl = there f.nodes c kind.Decl refl (are c (inl refl)) in
          let one : FirstPart f.nodes of.tree of.shaped is_type [] c x.node = first_part f.nodes of.tree of.shaped is_type [] c x.node x.at (ap slots x.is) in
          let so : declared_at own f.nodes values (slice_get f.nodes c) ≡ option_map (λ of. times of x.node.names) (type_outside own f.nodes values (child 0 x.node)) =
          ap (declared_at own f.nodes values) x.at ∙ ap (λ (ds : List ℕ). option_map (λ of. times of x.node.names) (first_type own f.nodes values ds)) one.is in
          by x (subst (IsIn (child 0 x.node)) (sym one.is) (inl refl)) one.first.1 (type_outside own f.nodes values (child 0 x.node)) refl
          (sym (ap (λ (o : Option (List TypeId)). option_and_then (λ all. arguments_behind own f.nodes values all cs) (option_map (λ more. ids ++ more) o)) so) ∙ e)
          (λ all e. argument_gone cs all (λ d i. are d (inr i)) e)
        where
          by : (x : There f.nodes c kind.Decl) → IsIn (child 0 x.node) x.node.children → is_type (kind_at f.nodes (child 0 x.node)) ≡ true → (o : Option TypeId) → type_outside own f.nodes values (child 0 x.node) ≡ o
              → option_and_then (λ all. arguments_behind own f.nodes values all cs) (option_map (λ more. ids ++ more) (option_map (λ of. times of x.node.names) o)) ≡ None
              → ((all : List TypeId) → arguments_behind own f.nodes values all cs ≡ None → HasGoneIn kind.Decl cs) → HasGoneIn kind.Decl (c ∷ cs)
          by x first its_type None is e later = record { part = c; stands_in = inl refl; its = x; gone = record { place = child 0 x.node; stands_in = first; of_types = its_type; gone = is } }
          by x first its_type (Some id) is e later = more_gone kind.Decl c cs (later (ids ++ times id x.node.names) e)

      signal_gone : (cs : List ℕ) (done : List Exception) → AreOf kind.Exc cs → signals_behind own f.nodes values done cs ≡ None → HasGoneIn kind.Exc cs
      signal_gone [] done are e = absurd (none-some done (sym e))
      signal_gone (c ∷ cs) done are e =
          let x : There f.nodes c kind.Exc = there f.nodes c kind.Exc refl (are c (inl refl)) in
          by x (types_behind own f.nodes values [] x.node.children) refl
          (sym (ap (λ (o : Option Node). option_and_then (λ all. signals_behind own f.nodes values all cs) (option_map (λ more. done ++ more) (outside.exceptions_at own f.nodes values o))) x.at) ∙ e)
          (λ all e. signal_gone cs all (λ d i. are d (inr i)) e)
        where
          by : (x : There f.nodes c kind.Exc) (o : Option (List TypeId)) → types_behind own f.nodes values [] x.node.children ≡ o
              → option_and_then (λ all. signals_behind own f.nodes values all cs) (option_map (λ more. done ++ more) (option_map (exception_with (first_name x.node.names)) o)) ≡ None
              → ((all : List Exception) → signals_behind own f.nodes values all cs ≡ None → HasGoneIn kind.Exc cs) → HasGoneIn kind.Exc (c ∷ cs)
          by x None is e later = record { part = c; stands_in = inl refl; its = x; gone = some_gone x.node.children [] (types_below c x.node x.at (ap slots x.is)) is }
          by x (Some ids) is e later = more_gone kind.Exc c cs (later (done ++ exception_with (first_name x.node.names) ids) e)

      -- ---- so it is refused in the heading

      module _ (n : ℕ) (x : There f.nodes n kind.Routine) (alone : IfAlone n) where
        -- of a type below a part
        below_part : (c : ℕ) (part : Node) → slice_get f.nodes c ≡ Some part → is_of kind.Cluster part.kind ≡ false → (round f c).cluster ≡ (round f n).cluster → HasGone part.children → IsRefusedIn c
        below_part c part at apart same gone = refused_above c part at gone.place gone.stands_in (by gone.of_types (slice_get f.nodes gone.place) refl)
          where
            by : is_type (kind_at f.nodes gone.place) ≡ true → (o : Option Node) → slice_get f.nodes gone.place ≡ o → IsRefusedIn gone.place
            by is None at_type = absurd (true≢false (sym is ∙ ap (λ (o : Option Node). is_type (kind_of o)) at_type))
            by is (Some t) at_type =
                type_refused gone.place t at_type (sym (ap (λ (o : Option Node). is_type (kind_of o)) at_type) ∙ is)
                (λ none. same_cluster c part at apart gone.place gone.stands_in ∙ same ∙ alone none) gone.gone

        abbrev behind_parms : List ℕ
        behind_parms = after_run f.nodes kind.Parm x.node.children

        -- what stands behind them is a child too
        behind_in : (c : ℕ) → IsIn c (behind_arguments f.nodes x.node) → IsIn c x.node.children
        behind_in c i = in_dropped (leading f.nodes kind.Parm x.node.children) c x.node.children (in_dropped (leading f.nodes kind.Decl behind_parms) c behind_parms i)

        no_cluster : (c : ℕ) → IsIn c x.node.children → (round f c).cluster ≡ (round f n).cluster
        no_cluster = same_cluster n x.node x.at (ap (is_of kind.Cluster) x.is)

        abbrev r : Routine
        r = (item f n).routine

        its_node : r.node ≡ n
        its_node = ap (λ (i : Item). i.routine.node) (item_there f.nodes n x.node x.at) ∙ ap (λ (k : NodeKind). (routine_of (before n (item_at f.nodes)) f.nodes n x.node k).node) x.is

        -- a part in which a type is refused
        part_so : (k : NodeKind) → is_of_type k ≡ true → (c : ℕ) → IsIn c x.node.children → There f.nodes c k → IsRefusedIn c → is_refused_heading (with_refused f) r ≡ true
        part_so k has c i y refused = heading_so r n x.node its_node x.at c i (ap is_of_type (ap kind_of y.at ∙ y.is) ∙ has) (slice_get_within f.nodes c y.node y.at) refused

        arguments_so : HasGoneIn kind.Decl (arguments_in f.nodes x.node) → is_refused_heading (with_refused f) r ≡ true
        arguments_so gone =
            let i : IsIn gone.part x.node.children =
            in_dropped (leading f.nodes kind.Parm x.node.children) gone.part x.node.children (in_taken (leading f.nodes kind.Decl behind_parms) gone.part behind_parms gone.stands_in) in
            part_so kind.Decl refl gone.part i gone.its (below_part gone.part gone.its.node gone.its.at (ap (is_of kind.Cluster) gone.its.is) (no_cluster gone.part i) gone.gone)

        -- all of Results are children of one part
        results_so : HasGone (results_in f.nodes x.node) → is_refused_heading (with_refused f) r ≡ true
        results_so gone =
            let part : IsInPart f.nodes kind.Results (behind_arguments f.nodes x.node) gone.place = in_part f.nodes kind.Results refl gone.place (behind_arguments f.nodes x.node) gone.stands_in in
            let i : IsIn part.part x.node.children = behind_in part.part part.stands in
            part_so kind.Results refl part.part i part.its
            (below_part part.part part.its.node part.its.at (ap (is_of kind.Cluster) part.its.is) (no_cluster part.part i)
            (record { place = gone.place; stands_in = part.inside; of_types = gone.of_types; gone = gone.gone }))

        signals_so : HasGoneIn kind.Exc (routines.exceptions_in f.nodes x.node) → is_refused_heading (with_refused f) r ≡ true
        signals_so gone =
            let rest : List ℕ = after_one f.nodes kind.Results (behind_arguments f.nodes x.node) in
            let list : List ℕ = parts f.nodes kind.Signals rest in
            let part : IsInPart f.nodes kind.Signals rest gone.part = in_part f.nodes kind.Signals refl gone.part rest (in_taken (leading f.nodes kind.Exc list) gone.part list gone.stands_in) in
            let i : IsIn part.part x.node.children = behind_in part.part (in_rest f.nodes kind.Results part.part (behind_arguments f.nodes x.node) part.stands) in
            let same : (round f gone.part).cluster ≡ (round f n).cluster =
            same_cluster part.part part.its.node part.its.at (ap (is_of kind.Cluster) part.its.is) gone.part part.inside ∙ no_cluster part.part i in
            part_so kind.Signals refl part.part i part.its
            (refused_above part.part part.its.node part.its.at gone.part part.inside (below_part gone.part gone.its.node gone.its.at (ap (is_of kind.Cluster) gone.its.is) same gone.gone))

        -- the types of results are types
        result_types : AreTypes (results_in f.nodes x.node)
        result_types t i =
            let part : IsInPart f.nodes kind.Results (behind_arguments f.nodes x.node) t = in_part f.nodes kind.Results refl t (behind_arguments f.nodes x.node) i in
            types_below part.part part.its.node part.its.at (ap slots part.its.is) t part.inside

        pub heading_lost : heading_outside own f.nodes values (arguments_in f.nodes x.node) (results_in f.nodes x.node) (routines.exceptions_in f.nodes x.node) ≡ None → is_refused_heading (with_refused f) r ≡ true
        heading_lost e =
            by (arguments_behind own f.nodes values [] (arguments_in f.nodes x.node)) refl (types_behind own f.nodes values [] (results_in f.nodes x.node)) refl
            (signals_behind own f.nodes values [] (routines.exceptions_in f.nodes x.node)) refl e
          where
            by : (a : Option (List TypeId)) → arguments_behind own f.nodes values [] (arguments_in f.nodes x.node) ≡ a → (b : Option (List TypeId)) → types_behind own f.nodes values [] (results_in f.nodes x.node) ≡ b
                → (c : Option (List Exception)) → signals_behind own f.nodes values [] (routines.exceptions_in f.nodes x.node) ≡ c
                → option_and_then (λ args. option_and_then (λ types. option_map (λ signals. made args types signals) (option_map (in_order exception_before) c)) b) a ≡ None → is_refused_heading (with_refused f) r ≡ true
            by None is b was c so e = arguments_so (argument_gone (arguments_in f.nodes x.node) [] (λ c i. run_kind f.nodes kind.Decl c behind_parms i) is)
            by (Some args) is None was c so e = results_so (some_gone (results_in f.nodes x.node) [] result_types was)
            by (Some args) is (Some results) was None so e =
                signals_so (signal_gone (routines.exceptions_in f.nodes x.node) [] (λ c i. run_kind f.nodes kind.Exc c (parts f.nodes kind.Signals (after_one f.nodes kind.Results (behind_arguments f.nodes x.node))) i) so)
            by (Some args) is (Some results) was (Some list) so e = absurd (none-some (made args results (in_order exception_before list)) (sym e))
