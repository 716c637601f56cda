-- What is asked by where clauses in which no type is refused has types that are wanted, also where they name type sets: the name of a
-- bad equate is refused.
use Rattle.std.proofs.Common.{◌≡◌, ◌∙◌, ◌⊎◌, ℕ, zero, suc, ◌<◌, ◌≤◌, ◌-◌, ◌&&◌, ◌||◌, nat_le, Bool, true, false, cond, if◌then◌else◌, List, [], ◌∷◌, ◌++◌, drop, length, map, filter, is_some, get_or, Option, Some, None, inl, inr, refl, sym, ap, ap₂, subst, arith}
use Rattle.std.specs.Prelude.{slice_get}
use Rattle.std.specs.List.{AllByRecursion, list_any}
use Rattle.std.proofs.lemmas.Bool.{true≢false, and_parts, leb-true, or_parts}
use Rattle.std.proofs.lemmas.Option.{none-some, same_Some, slice_get_within, slice_get-get_or}
use Rattle.clu_base.specs.declared.rules.Rule.TheVariants as rule
use Rattle.clu_tree.specs.declared.node.Node.{Node}
use Rattle.clu_tree.specs.declared.node.NodeKind.{NodeKind}
use Rattle.clu_tree.specs.declared.node.NodeKind.TheVariants as kind
use Rattle.clu_types.specs.CluType.{CluType}
use Rattle.clu_syntax.specs.Enough.{least_names}
use Rattle.clu_syntax.specs.Items.{Item, operations_at, restrictions_at}
use Rattle.clu_syntax.specs.Kinds.{is_expression, is_type, kind_at, kind_of}
use Rattle.clu_syntax.specs.Nodes.{before, constant_of, equate_name, equate_of, equated, expression_of, item_at, operation_of, restricted as restriction_with, restriction_of, type_expression_of, type_set_of}
use Rattle.clu_syntax.specs.Slots.{is_right_side, one, slots}
use Rattle.clu_syntax.specs.Splits.{after_one, after_run, child, children_of, first_name, is_of, leading, one_of, parts, run}
use Rattle.clu_syntax.specs.Syntax.{Constant, Equate, Identifier, Restriction, Routine, TypeSet, Typed, a_type_set, an_equate, has_operations, is_in, is_in_set}
use Rattle.clu_syntax.proofs.Enough.{enough}
use Rattle.clu_parts.proofs.Fitting.{AreBefore, AreParts, IsPart, children_before}
use Rattle.clu_meaning.specs.Scoping.{Meaning, Scope, is_module, is_type_parameter, meaning_of}
use Rattle.clu_meaning.specs.Settling.{type_settled}
use Rattle.clu_declares.proofs.Below.{before_is, item_there, same_kind}
use Rattle.clu_declares.proofs.Facts.{There, all_drop, all_take, run_kinds, there}
use Rattle.clu_declares.proofs.Parents.{IsIn}
use Rattle.clu_checking.specs.Specifications.{Demand}
use Rattle.clu_checking.specs.Files.{File, children, declared_by, equate_named, is_kind, is_refused, item, kind_in, names, node_names, numbers, round, stands_below}
use Rattle.clu_checking.specs.Files as checking
use Rattle.clu_checking.specs.Equates.{asked_at, asked_by, asked_by_set, bad_unless, demands_by, demands_for, demands_in, is_bad_at, is_bad_name, is_circular, is_circular_at, names_unfolded, operations_asked, restricted, restriction_node, set_at, set_in, set_named, set_of, type_node, unless_refused, with_variable}
use Rattle.clu_checking.specs.Headings.{is_of_type, is_refused_heading}
use Rattle.clu_checking.specs.NameRules.{leads_to_circle}
use Rattle.clu_checking.specs.ConstantRules.{has_bad_type, is_bad_rep, is_long_type, is_neither, is_no_type, is_too_long}
use Rattle.clu_checking.specs.Wanted.{wants_type}
use Rattle.clu_checking.specs.Refusals.{is_no_type_at, right_side, rules_of_types}
use Rattle.clu_settle.proofs.Shapes.{FirstPart, first_part}
use Rattle.clu_passes.specs.Clear.{IsOutside}
use Rattle.clu_passes.specs.CountsRefused.{RefusesAgain}
use Rattle.clu_passes.specs.Notes.{HaveParents}
use Rattle.clu_passes.specs.Trees.{IsFileOfTree}
use Rattle.clu_passes.specs.WholeTold.{IsTypedDemand}
use Rattle.clu_passes.proofs.BadEquates.{none_in}
use Rattle.clu_passes.proofs.FileModules.{names_there}
use Rattle.clu_passes.proofs.HeadTypes.{any_turned}
use Rattle.clu_passes.proofs.HeadingsFine.{FineOf, IsFine, fine_child, fine_children}
use Rattle.clu_passes.proofs.LegalForms.{node_of_type}
use Rattle.clu_passes.proofs.LostRefused.{HasEquate, IsSideOf, refused_by, types_bad}
use Rattle.clu_passes.proofs.OutsideBrackets.{outside_oper}
use Rattle.clu_passes.proofs.SetsNamed.{no_set, other_side, right_kind}
use Rattle.clu_passes.proofs.StepsEnough.{bad_unfolds, equate_there}
use Rattle.clu_passes.proofs.Subtrees.{is_subtree}
use Rattle.clu_passes.proofs.ValuesKnown.{IsBelow, child_below}
use Rattle.clu_passes.proofs.WhyLost.{odd_refused}
use Rattle.clu_passes.proofs.Within.{forest_goes_on}

-- ---- lists

module _ {X : Type 0} (P : X → Type 0) where
  pub all_both : (xs ys : List X) → AllByRecursion P xs → AllByRecursion P ys → AllByRecursion P (xs ++ ys)
  all_both [] ys all more = more
  all_both (x ∷ xs) ys all more = (all.0, all_both xs ys all.1 more)

  pub all_mapped : {Y : Type 0} (g : Y → X) (ys : List Y) → ((y : Y) → P (g y)) → AllByRecursion P (map g ys)
  all_mapped g [] each = tt
  all_mapped g (y ∷ ys) each = (each y, all_mapped g ys each)

none_kept : (p q : ℕ → Bool) (ns : List ℕ) → ((m : ℕ) → q m ≡ true → p m ≡ false) → list_any p (filter q ns) ≡ false
none_kept p q [] each = refl
none_kept p q (n ∷ ns) each = by (q n) refl (none_kept p q ns each)
  where
    by : (b : Bool) → q n ≡ b → list_any p (filter q ns) ≡ false → list_any p (cond b (n ∷ filter q ns) (filter q ns)) ≡ false
    by true is rest = ap₂ (λ (a b : Bool). a || b) (each n is) rest
    by false is rest = rest

-- none passes both tests
none_of : (p q : ℕ → Bool) (cs : List ℕ) → AllByRecursion (λ c. p c ≡ true → q c ≡ false) cs → list_any (λ c. p c && q c) cs ≡ false
none_of p q [] all = refl
none_of p q (c ∷ cs) all = ap₂ (λ (a b : Bool). a || b) (by (p c) refl) (none_of p q cs all.1)
  where
    by : (b : Bool) → p c ≡ b → (p c && q c) ≡ false
    by false is = ap (λ (b : Bool). b && q c) is
    by true is = ap (λ (b : Bool). b && q c) is ∙ all.0 is

fourth_in : (a b c x e : Bool) → x ≡ true → (a || b || c || x || e) ≡ true
fourth_in true b c x e h = refl
fourth_in false true c x e h = refl
fourth_in false false true x e h = refl
fourth_in false false false x e h = ap (λ (y : Bool). y || e) h

-- what would be refused
not_so : (a b : Bool) → (a ≡ true → b ≡ true) → b ≡ false → a ≡ false
not_so true b goes none = absurd (true≢false (sym (goes refl) ∙ none))
not_so false b goes none = refl

module _ (f : File) (of : IsFileOfTree f) where
  abbrev nodes : List Node
  nodes = f.nodes

  abbrev its : ℕ → ℕ → Item
  its n = before n (item_at f.nodes)

  abbrev IsFineNode : ℕ → Type 0
  IsFineNode n = IsFine f of n

  all_before : (n : ℕ) (node : Node) → slice_get nodes n ≡ Some node → AreBefore n node.children
  all_before n node at = children_before nodes of.tree n node at

  -- the children of the first node of a list, where that is of this kind
  pub parts_fine : (k : NodeKind) (test : NodeKind → Bool) → is_of k kind.File ≡ false → test k ≡ true → (cs : List ℕ) → AllByRecursion (FineOf f of test) cs → AllByRecursion IsFineNode (parts nodes k cs)
  parts_fine k test apart has [] all = tt
  parts_fine k test apart has (c ∷ cs) all = by (is_of k (kind_at nodes c)) refl
    where
      by : (b : Bool) → is_of k (kind_at nodes c) ≡ b → AllByRecursion IsFineNode (if b then children_of (slice_get nodes c) else [])
      by false is = tt
      by true is =
          let x : There nodes c k = there nodes c k apart (same_kind k (kind_at nodes c) is) in
          subst (λ (o : Option Node). AllByRecursion IsFineNode (children_of o)) (sym x.at)
          (fine_children f of c x.node x.at (all.0 (ap test (same_kind k (kind_at nodes c) is) ∙ has)))

  pub rest_fine : (k : NodeKind) (test : NodeKind → Bool) (cs : List ℕ) → AllByRecursion (FineOf f of test) cs → AllByRecursion (FineOf f of test) (after_one nodes k cs)
  rest_fine k test [] all = tt
  rest_fine k test (c ∷ cs) all = by (is_of k (kind_at nodes c))
    where
      by : (b : Bool) → AllByRecursion (FineOf f of test) (if b then cs else c ∷ cs)
      by true = all.1
      by false = all

  -- ---- names that lead to type sets

  -- the equate that a name names is neither circular nor bad
  abbrev IsUsable : ℕ → Identifier → Type 0
  IsUsable n name = (e : ℕ) → equate_named f n name ≡ Some e → (is_circular f e ≡ false) × (types_bad f of e ≡ false)

  kind_by : (e : ℕ) (o : Option ℕ) → checking.equate_of f o ≡ Some e → is_kind f kind.Equate e ≡ true
  kind_by e None is = absurd (none-some e is)
  kind_by e (Some n) is = by (is_kind f kind.Equate n) refl is
    where
      by : (b : Bool) → is_kind f kind.Equate n ≡ b → (if b then Some n else None) ≡ Some e → is_kind f kind.Equate e ≡ true
      by true so is = subst (λ (n : ℕ). is_kind f kind.Equate n ≡ true) (same_Some n e is) so
      by false so is = absurd (none-some e is)

  named_kind : (n : ℕ) (name : Identifier) (e : ℕ) → equate_named f n name ≡ Some e → is_kind f kind.Equate e ≡ true
  named_kind n name e is = kind_by e (declared_by f n name) is

  module _ (e : ℕ) (node : Node) (at : slice_get nodes e ≡ Some node) (is : node.kind ≡ kind.Equate) where
    its_side : FirstPart nodes of.tree of.shaped is_right_side [] e node
    its_side = first_part nodes of.tree of.shaped is_right_side [] e node at (ap slots is)

    side_of : IsSideOf f of e (child 0 node)
    side_of = record { its = node; at = at; is = is; rest = drop 1 node.children; children = its_side.is }

    -- no type is refused in it
    side_fine : is_circular f e ≡ false → types_bad f of e ≡ false → IsFineNode (child 0 node)
    side_fine circle bad m low high =
        let equate : is_kind f kind.Equate e ≡ true = ap (λ (o : Option Node). is_of kind.Equate (kind_of o)) at ∙ ap (is_of kind.Equate) is in
        let all : list_any (is_no_type_at f) (right_side f e) ≡ false = sym (bad_unfolds f of (rules_of_types f) e equate circle) ∙ bad in
        let x : IsBelow f of e (child 0 node) = child_below f of e node at (child 0 node) (subst (IsIn (child 0 node)) (sym its_side.is) (inl refl)) in
        let first : (round f e).first ≤ (round f (child 0 node)).first = x.first in
        let less : child 0 node < e = x.less in
        none_in (is_no_type_at f) (round f e).first (e - (round f e).first) all m (omega (arith, low, first)) (omega (arith, high, less, low, first))

  -- the node itself
  pub own_fine : (n : ℕ) (node : Node) → slice_get nodes n ≡ Some node → IsFineNode n → is_no_type_at f n ≡ false
  own_fine n node at fine = fine n (forest_goes_on nodes (round f n).first n node.children (is_subtree nodes f.rounds of.tree of.surrounded of.ordered n node at)) (omega arith)

  name_usable : (c : ℕ) (x : There nodes c kind.Name) → is_no_type_at f c ≡ false → IsUsable c (first_name x.node.names)
  name_usable c x clear e named = by (is_circular f e) refl (types_bad f of e) refl
    where
      there_is : (node : Node) × (slice_get nodes e ≡ Some node) × (node.kind ≡ kind.Equate)
      there_is = equate_there f of e (named_kind c (first_name x.node.names) e named)

      many : 1 ≤ length x.node.names
      many =
          let some : least_names x.node.kind ≤ length x.node.names = (enough nodes of.shaped c x.node x.at).names in
          let same : least_names x.node.kind ≡ least_names kind.Name = ap least_names x.is in
          omega (arith, some, same)

      list : (rest : List Identifier) × (x.node.names ≡ first_name x.node.names ∷ rest)
      list = names_there x.node.names many

      has : HasEquate f of c (child 0 there_is.0)
      has = record {
        name = first_name x.node.names;
        others = list.0;
        listed = ap (λ (k : NodeKind). names_unfolded f k c) (ap kind_of x.at ∙ x.is) ∙ ap (node_names f) x.at ∙ list.1;
        equate = e;
        named = named;
        side_of = side_of e there_is.0 there_is.1 there_is.2;
      }

      odd : (is_circular f e ≡ true) ⊎ ((is_circular f e ≡ false) × (types_bad f of e ≡ true)) → ⊥
      odd why = true≢false (sym (odd_refused f of c (record { right = child 0 there_is.0; its = has; why = why })) ∙ clear)

      by : (a : Bool) → is_circular f e ≡ a → (b : Bool) → types_bad f of e ≡ b → (is_circular f e ≡ false) × (types_bad f of e ≡ false)
      by true circle b bad = absurd (odd (inl circle))
      by false circle true bad = absurd (odd (inr (circle, bad)))
      by false circle false bad = (circle, bad)

  abbrev leads_round : ℕ → Identifier → Bool
  leads_round n name = is_circular_at f (equate_named f n name)

  abbrev is_bad_one : ℕ → Identifier → Bool
  is_bad_one n name = is_bad_name f (types_bad f of) n name

  -- the set that a Restrict names
  restrict_usable : (n : ℕ) (x : There nodes n kind.Restrict) (a b : Identifier) (ns : List Identifier) → x.node.names ≡ a ∷ b ∷ ns → is_no_type_at f n ≡ false → IsUsable n b
  restrict_usable n x a b ns are clear e named = (circle, bad)
    where
      kind_is : kind_in f n ≡ kind.Restrict
      kind_is = ap kind_of x.at ∙ x.is

      names_are : names f n ≡ a ∷ b ∷ ns
      names_are = ap (node_names f) x.at ∙ are

      circles : list_any (leads_round n) (a ∷ b ∷ ns) ≡ false
      circles = not_so (list_any (leads_round n) (a ∷ b ∷ ns)) (is_no_type_at f n) (λ so. refused_by f of n 2 rule.CircularEquate refl (ap (λ (k : NodeKind). leads_to_circle f k n) kind_is ∙ ap (list_any (leads_round n)) names_are ∙ so)) clear

      circle : is_circular f e ≡ false
      circle = sym (ap (is_circular_at f) named) ∙ (or_parts (leads_round n b) (list_any (leads_round n) ns) (or_parts (leads_round n a) (list_any (leads_round n) (b ∷ ns)) circles).1).0

      bads : list_any (is_bad_one n) (a ∷ b ∷ ns) ≡ false
      bads =
          not_so (list_any (is_bad_one n) (a ∷ b ∷ ns)) (is_no_type_at f n)
          (λ so. refused_by f of n 4 rule.NotType refl
          (fourth_in (is_neither f n && wants_type f n) (is_bad_rep f n) (is_no_type f (kind_in f n) n) (has_bad_type f (types_bad f of) (kind_in f n) n) (is_too_long f is_long_type n)
          (ap (λ (k : NodeKind). has_bad_type f (types_bad f of) k n) kind_is ∙ ap (list_any (is_bad_one n)) names_are ∙ so)))
          clear

      bad : types_bad f of e ≡ false
      bad =
          sym (ap (is_bad_at f (types_bad f of)) named ∙ ap (λ (c : Bool). bad_unless f (types_bad f of) c e) circle)
          ∙ (or_parts (is_bad_one n b) (list_any (is_bad_one n) ns) (or_parts (is_bad_one n a) (list_any (is_bad_one n) (b ∷ ns)) bads).1).0

  -- ---- what is refused

  module _ (parents : HaveParents f) (again : RefusesAgain f) where
    below_none : (m n : ℕ) → is_no_type_at f m ≡ true → IsFineNode n → stands_below f m n ≡ false
    below_none m n refused fine = by (stands_below f m n) refl
      where
        by : (b : Bool) → stands_below f m n ≡ b → stands_below f m n ≡ false
        by false is = is
        by true is =
            let both = and_parts (nat_le (round f n).first m) (nat_le m n) is in
            absurd (true≢false (sym refused ∙ fine m (leb-true (round f n).first m both.0) (leb-true m n both.1)))

    pub not_refused : (n : ℕ) → n < length nodes → IsOutside f n → IsFineNode n → is_refused f n ≡ false
    not_refused n inside outside fine =
        again n inside outside
        ∙ none_kept (λ m. stands_below f m n) (is_no_type_at f) (numbers nodes) (λ m refused. below_none m n refused fine)

    -- of a routine of which no Decl, Results and Signals is so
    pub heading_not_refused : (r : Routine) → AllByRecursion (λ c. is_of_type (kind_in f c) ≡ true → is_refused f c ≡ false) (children f r.node) → is_refused_heading f r ≡ false
    heading_not_refused r all =
        any_turned (λ (c : ℕ). is_of_type (kind_in f c)) (λ (d c : ℕ). stands_below f d c) f.refused (children f r.node)
        ∙ none_of (λ c. is_of_type (kind_in f c)) (is_refused f) (children f r.node) all

    -- ---- by operations

    abbrev AreFineTypes : List Typed → Type 0
    AreFineTypes ds = AllByRecursion (λ d. is_refused f (type_node d.type) ≡ false) ds

    wanted_there : (n : ℕ) (t : CluType) → is_refused f n ≡ false → is_some (unless_refused f n t) ≡ true
    wanted_there n t fine = ap (λ (b : Bool). is_some (if b then None else Some t)) fine

    operations_whole : (scope : Scope) (k : ℕ) (ds : List Typed) → AreFineTypes ds → AllByRecursion IsTypedDemand (operations_asked f scope k ds)
    operations_whole scope k [] fine = tt
    operations_whole scope k (d ∷ ds) fine =
        all_both IsTypedDemand (demands_for f scope d.node k d.type false d.names) (operations_asked f scope k ds)
        (all_mapped IsTypedDemand (λ (name : Identifier). record { node = d.node; parameter = k; operation = name; wanted = unless_refused f (type_node d.type) (type_settled scope d.type); in_set = false }) d.names (λ name. wanted_there (type_node d.type) (type_settled scope d.type) fine.0))
        (operations_whole scope k ds fine.1)

    module _ (c : ℕ) (x : There nodes c kind.Oper) where
      its_first : FirstPart nodes of.tree of.shaped is_type [] c x.node
      its_first = first_part nodes of.tree of.shaped is_type [] c x.node x.at (ap slots x.is)

      abbrev typed : Typed
      typed = operation_of (its c) nodes c x.node kind.Oper

      type_is : type_node typed.type ≡ child 0 x.node
      type_is =
          let less : child 0 x.node < c = its_first.first.0 in
          let here : c < length nodes = slice_get_within nodes c x.node x.at in
          let node : Node = get_or nodes (child 0 x.node) x.node in
          ap (λ (i : Item). type_node i.type) (before_is nodes c (child 0 x.node) less ∙ item_there nodes (child 0 x.node) node (slice_get-get_or nodes (child 0 x.node) x.node (omega (arith, less, here))))
          ∙ node_of_type (its (child 0 x.node)) nodes (child 0 x.node) node node.kind

      type_fine : IsFineNode c → is_refused f (type_node typed.type) ≡ false
      type_fine fine =
          let child_in : IsIn (child 0 x.node) x.node.children = subst (IsIn (child 0 x.node)) (sym its_first.is) (inl refl) in
          let less : child 0 x.node < c = its_first.first.0 in
          let here : c < length nodes = slice_get_within nodes c x.node x.at in
          ap (is_refused f) type_is
          ∙ not_refused (child 0 x.node) (omega (arith, less, here)) (outside_oper f of parents c x.node x.at (child 0 x.node) child_in x.is) (fine_child f of c x.node x.at fine (child 0 x.node) child_in)

    opers_fine : (n : ℕ) (cs : List ℕ) → AreParts nodes (is_of kind.Oper) n cs → AllByRecursion IsFineNode cs → AreFineTypes (operations_at (its n) cs)
    opers_fine n [] ps fine = tt
    opers_fine n (c ∷ cs) ps fine =
        let x : There nodes c kind.Oper = there nodes c kind.Oper refl (same_kind kind.Oper (kind_at nodes c) ps.0.1) in
        let same : (its n c).operation ≡ typed c x = ap (λ (i : Item). i.operation) (before_is nodes n c ps.0.0 ∙ item_there nodes c x.node x.at) ∙ ap (operation_of (its c) nodes c x.node) x.is in
        (ap (λ (d : Typed). is_refused f (type_node d.type)) same ∙ type_fine c x fine.0, opers_fine n cs ps.1 fine.1)

    -- the Opers with which the children of a node begin
    own_opers : (n : ℕ) (node : Node) → slice_get nodes n ≡ Some node → IsFineNode n → AreFineTypes (operations_at (its n) (run nodes kind.Oper node.children))
    own_opers n node at fine =
        opers_fine n (run nodes kind.Oper node.children) (run_kinds nodes kind.Oper n node.children (all_before n node at))
        (all_take IsFineNode (leading nodes kind.Oper node.children) node.children (fine_children f of n node at fine))

    -- ---- by type sets

    abbrev IsFineSet : TypeSet → Type 0
    IsFineSet (a_type_set n variable asked operations es) = AreFineTypes operations

    abbrev IfFineSet : Option TypeSet → Type 0
    IfFineSet None = Unit {0}
    IfFineSet (Some set) = IsFineSet set

    set_fine : (c : ℕ) → kind_at nodes c ≡ kind.TypeSet → IsFineNode c → IsFineSet (item f c).type_set
    set_fine c is fine =
        let x : There nodes c kind.TypeSet = there nodes c kind.TypeSet refl is in
        subst IsFineSet (sym (ap (λ (i : Item). i.type_set) (item_there nodes c x.node x.at) ∙ ap (type_set_of (its c) nodes c x.node) x.is))
        (own_opers c x.node x.at fine)

    module _ (s : ℕ) (later : (n : ℕ) (name : Identifier) → IsUsable n name → IfFineSet (set_in f s n name)) where
      by_side : (e : ℕ) (name : Option Identifier) (c : ℕ) → c < e → (x : Node) → slice_get nodes c ≡ Some x → is_right_side x.kind ≡ true → IsFineNode c → IfFineSet (set_of f (set_in f s) (equated (its e) nodes e name x.kind c))
      by_side e name c less x at right fine = by (is_of kind.TypeSet x.kind) refl (is_of kind.Name x.kind) refl
        where
          constant_at : (k : NodeKind) → x.kind ≡ k → (its e c).constant ≡ constant_of (is_type k) (expression_of (its c) nodes c x k) (type_expression_of (its c) nodes c x k)
          constant_at k is =
              ap (λ (i : Item). i.constant) (before_is nodes e c less ∙ item_there nodes c x at)
              ∙ ap (λ (k : NodeKind). constant_of (is_type k) (expression_of (its c) nodes c x k) (type_expression_of (its c) nodes c x k)) is

          by : (a : Bool) → is_of kind.TypeSet x.kind ≡ a → (b : Bool) → is_of kind.Name x.kind ≡ b → IfFineSet (set_of f (set_in f s) (equated (its e) nodes e name x.kind c))
          by true is b other =
              let k : x.kind ≡ kind.TypeSet = same_kind kind.TypeSet x.kind is in
              subst (λ (k : NodeKind). IfFineSet (set_of f (set_in f s) (equated (its e) nodes e name k c))) (sym k)
              (subst (λ (i : Item). IsFineSet i.type_set) (sym (before_is nodes e c less)) (set_fine c (ap kind_of at ∙ k) fine))
          by false is true other =
              let k : x.kind ≡ kind.Name = same_kind kind.Name x.kind other in
              subst (λ (k : NodeKind). IfFineSet (set_of f (set_in f s) (equated (its e) nodes e name k c))) (sym k)
              (subst (λ (y : Constant). IfFineSet (set_of f (set_in f s) (an_equate e name y))) (sym (constant_at kind.Name k))
              (later c (first_name x.names) (name_usable c (record { node = x; at = at; is = k }) (own_fine c x at fine))))
          by false is false other =
              subst IfFineSet
              (sym (ap (set_of f (set_in f s)) (other_side (its e) nodes e name x.kind c is)
              ∙ ap (λ (y : Constant). set_of f (set_in f s) (an_equate e name y)) (constant_at x.kind refl)
              ∙ no_set f (set_in f s) (its c) e name c x x.kind (right_kind x.kind right is) other)) tt

      by_equate : (e : ℕ) (node : Node) → slice_get nodes e ≡ Some node → node.kind ≡ kind.Equate → (is_circular f e ≡ false) × (types_bad f of e ≡ false) → IfFineSet (set_of f (set_in f s) (item f e).equate)
      by_equate e node at is good =
          let side : FirstPart nodes of.tree of.shaped is_right_side [] e node = its_side e node at is in
          let c : ℕ = child 0 node in
          let here : e < length nodes = slice_get_within nodes e node at in
          let less : c < e = side.first.0 in
          let x : Node = get_or nodes c node in
          let x_at : slice_get nodes c ≡ Some x = slice_get-get_or nodes c node (omega (arith, less, here)) in
          let its_kind : kind_at nodes c ≡ x.kind = ap kind_of x_at in
          subst (λ (q : Equate). IfFineSet (set_of f (set_in f s) q))
          (sym (ap (λ (i : Item). i.equate) (item_there nodes e node at) ∙ ap (equate_of (its e) nodes e node) is ∙ ap (λ (k : NodeKind). equated (its e) nodes e (equate_name node.names) k c) its_kind))
          (by_side e (equate_name node.names) c less x x_at (sym (ap is_right_side its_kind) ∙ side.first.1) (side_fine e node at is good.0 good.1))

      by_name : (n : ℕ) (name : Identifier) → IsUsable n name → (o : Option ℕ) → equate_named f n name ≡ o → IfFineSet (set_at f (set_in f s) o)
      by_name n name good None named = tt
      by_name n name good (Some e) named = let x = equate_there f of e (named_kind n name e named) in by_equate e x.0 x.1 x.2 (good e named)

    named_fine : (steps n : ℕ) (name : Identifier) → IsUsable n name → IfFineSet (set_in f steps n name)
    unfolding set_in
    named_fine zero n name good = tt
    named_fine (suc s) n name good = by_name s (λ m other so. named_fine s m other so) n name good (equate_named f n name) refl

    renamed_whole : (n : ℕ) (ds : List Demand) → AllByRecursion IsTypedDemand ds → AllByRecursion IsTypedDemand (map (asked_at f n) ds)
    renamed_whole n [] all = tt
    renamed_whole n (d ∷ ds) all = (all.0, renamed_whole n ds all.1)

    by_set_whole : (n k : ℕ) (o : Option TypeSet) → IfFineSet o → AllByRecursion IsTypedDemand (asked_by f n k o)
    by_set_whole n k None fine = tt
    by_set_whole n k (Some (a_type_set c variable asked operations es)) fine =
        renamed_whole n (operations_asked f (with_variable f c variable k) k operations) (operations_whole (with_variable f c variable k) k operations fine)

    -- ---- by restrictions

    by_meaning : (r : Restriction) → ((k : ℕ) → AllByRecursion IsTypedDemand (restricted f r (is_type_parameter k))) → (m : Meaning) → AllByRecursion IsTypedDemand (restricted f r m)
    by_meaning (has_operations n name operations) each (is_type_parameter k) = each k
    by_meaning (has_operations n name operations) each is_module = tt
    by_meaning (has_operations n name operations) each _ = tt
    by_meaning (is_in n name set) each (is_type_parameter k) = each k
    by_meaning (is_in n name set) each is_module = tt
    by_meaning (is_in n name set) each _ = tt
    by_meaning (is_in_set n name set) each (is_type_parameter k) = each k
    by_meaning (is_in_set n name set) each is_module = tt
    by_meaning (is_in_set n name set) each _ = tt

    abbrev IfSetNode : ℕ → Option ℕ → Type 0
    IfSetNode n None = Unit {0}
    IfSetNode n (Some c) = (c < n) × (kind_at nodes c ≡ kind.TypeSet) × IsFineNode c

    one_set : (n : ℕ) (cs : List ℕ) → AreBefore n cs → AllByRecursion IsFineNode cs → IfSetNode n (one_of nodes kind.TypeSet cs)
    one_set n [] l fine = tt
    one_set n (c ∷ cs) l fine = by (is_of kind.TypeSet (kind_at nodes c)) refl
      where
        by : (b : Bool) → is_of kind.TypeSet (kind_at nodes c) ≡ b → IfSetNode n (if b then Some c else None)
        by true is = (l.0, same_kind kind.TypeSet (kind_at nodes c) is, fine.0)
        by false is = tt

    module _ (n : ℕ) (x : There nodes n kind.Restrict) (fine : IsFineNode n) (m : Meaning) where
      abbrev opers : List ℕ
      opers = run nodes kind.Oper x.node.children

      by_form : (ns : List Identifier) → x.node.names ≡ ns → (o : Option ℕ) → IfSetNode n o → AllByRecursion IsTypedDemand (restricted f (restriction_with (its n) nodes n ns o opers) m)
      by_form ns are (Some c) set =
          by_meaning (is_in_set n (first_name ns) (its n c).type_set)
          (λ k. by_set_whole n k (Some (its n c).type_set) (subst (λ (i : Item). IsFineSet i.type_set) (sym (before_is nodes n c set.0)) (set_fine c set.1 set.2))) m
      by_form [] are None set = by_meaning (has_operations n (first_name []) (operations_at (its n) opers)) (λ k. operations_whole f.scope k (operations_at (its n) opers) (own_opers n x.node x.at fine)) m
      by_form (a ∷ []) are None set = by_meaning (has_operations n a (operations_at (its n) opers)) (λ k. operations_whole f.scope k (operations_at (its n) opers) (own_opers n x.node x.at fine)) m
      by_form (a ∷ b ∷ ns) are None set =
          by_meaning (is_in n a b)
          (λ k. by_set_whole n k (set_named f n b) (named_fine (length f.scope.declarations) n b (restrict_usable n x a b ns are (own_fine n x.node x.at fine)))) m

      restricted_fine : AllByRecursion IsTypedDemand (restricted f (item f n).restriction m)
      restricted_fine =
          subst (λ (r : Restriction). AllByRecursion IsTypedDemand (restricted f r m))
          (sym (ap (λ (i : Item). i.restriction) (item_there nodes n x.node x.at) ∙ ap (restriction_of (its n) nodes n x.node) x.is))
          (by_form x.node.names refl (one_of nodes kind.TypeSet x.node.children) (one_set n x.node.children (all_before n x.node x.at) (fine_children f of n x.node x.at fine)))

    pub demands_fine : (n : ℕ) (cs : List ℕ) → AreParts nodes (is_of kind.Restrict) n cs → AllByRecursion IsFineNode cs → AllByRecursion IsTypedDemand (demands_in f (restrictions_at (its n) cs))
    demands_fine n [] ps fine = tt
    demands_fine n (c ∷ cs) ps fine =
        let x : There nodes c kind.Restrict = there nodes c kind.Restrict refl (same_kind kind.Restrict (kind_at nodes c) ps.0.1) in
        let r : Restriction = (item f c).restriction in
        all_both IsTypedDemand (demands_by f (its n c).restriction) (demands_in f (restrictions_at (its n) cs))
        (subst (λ (i : Item). AllByRecursion IsTypedDemand (demands_by f i.restriction)) (sym (before_is nodes n c ps.0.0))
        (restricted_fine c x fine.0 (meaning_of f.scope (restriction_node f r).0 (restriction_node f r).1)))
        (demands_fine n cs ps.1 fine.1)
