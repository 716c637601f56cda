-- What is declared in a module has its scope inside of it, so the declarations that a node has in their scope, but for modules,
-- are those of one module.
use Rattle.std.proofs.Common.{◌≡◌, ◌∙◌, ◌⊎◌, ℕ, zero, suc, ◌+◌, ◌^◌, ◌<◌, ◌≤◌, Bool, true, false, ◌&&◌, ◌||◌, if◌then◌else◌, List, [], ◌∷◌, length, map, slice_get, bytes_eq, Option, Some, None, inl, inr, refl, sym, ap, subst, arith, eq-eqb}
use Rattle.std.specs.Prelude.{nat_le}
use Rattle.std.specs.List.{AllByRecursion}
use Rattle.std.proofs.lemmas.Bool.{true≢false, and_parts, cases_lt, leb-true}
use Rattle.std.proofs.lemmas.Option.{none-some, same_Some, slice_get_within}
use Rattle.clu_tree.specs.declared.node.Node.{Node}
use Rattle.clu_tree.specs.declared.node.NodeKind.{NodeKind}
use Rattle.clu_tree.specs.declared.node.NodeKind.TheVariants as kind
use Rattle.clu_parser.specs.Order.{IsForest, none, tree}
use Rattle.clu_parser.specs.Trees.{Text}
use Rattle.clu_syntax.specs.declared.bodies.Part.{Part}
use Rattle.clu_syntax.specs.declared.round.Round.{Round}
use Rattle.clu_syntax.specs.Bodies.{after_heads, last_of_items, last_of_body, opened, begins, first_part, is_behind, behind_at, head_at, differ}
use Rattle.clu_syntax.specs.Kinds.{kind_of, kind_at, is_head, is_outside}
use Rattle.clu_syntax.specs.Rounds.{AreRounds, round_at, rounds_in, body_at, body_in, unit_in, child_part, child_round, round_in}
use Rattle.clu_syntax.specs.Splits.{is_of}
use Rattle.clu_syntax.specs.Syntax.{Identifier}
use Rattle.clu_parts.proofs.Fitting.{AreBefore}
use Rattle.clu_names.specs.declared.scopes.Declared.{Declared}
use Rattle.clu_names.specs.Denotes.{is_open, stands_in}
use Rattle.clu_names.specs.Latest.{is_local}
use Rattle.clu_names.specs.Scopes.{next, after, kind_at_parent, scope_of, decl_scope, routine_scope, opens, is_module, declarations}
use Rattle.clu_declares.specs.Declares.{IsParsed}
use Rattle.clu_declares.proofs.Around.{IsAround, there}
use Rattle.clu_declares.proofs.Facts.{There, there as there_of, around_at}
use Rattle.clu_declares.proofs.Haves.{parent_of}
use Rattle.clu_declares.proofs.Parents.{of_all, HasParent, child_before}
use Rattle.clu_name_rules.specs.NameRules.{same_unit}
use Rattle.clu_passes.specs.Tables.{OpenOfOne}
use Rattle.clu_passes.proofs.Subtrees.{AreFirst, firsts_of, is_subtree}
use Rattle.clu_passes.proofs.Units.{AreEach, of_each, is_inner, inner_no_file, inner_opens, no_file, inner_scope, around_child, not_in_file, inner_below}

-- ---- places of the bodies of a node, between two numbers

abbrev pub AreIn : ℕ → ℕ → List ℕ → Type 0
AreIn low high cs = AllByRecursion (λ c. (low ≤ c) × (c < high)) cs

pub record IsPartIn (low high : ℕ) (p : Part) : Type 0 where
  pub from : low ≤ p.from
  pub last : p.last ≤ high

module _ (nodes : List Node) (node : Node) (low high : ℕ) where
  heads_in : (first : ℕ) (cs : List ℕ) → low ≤ first → AreIn low high cs → low ≤ after_heads nodes first cs
  unfolding after_heads
  heads_in first [] l cs_in = l
  heads_in first (c ∷ cs) l cs_in = by (heads_in (c + 1) cs (let least : low ≤ c = cs_in.0.0 in omega (arith, least)) cs_in.1) (head_at (slice_get nodes c))
    where
      by : low ≤ after_heads nodes (c + 1) cs → (b : Bool) → low ≤ (if b then after_heads nodes (c + 1) cs else first)
      by more true = more
      by more false = l

  items_in : (behind : Bool) (last : ℕ) (cs : List ℕ) → last ≤ high → AreIn low high cs → last_of_items nodes node behind last cs ≤ high
  unfolding last_of_items
  items_in behind last [] l cs_in = l
  items_in behind last (c ∷ cs) l cs_in = by (items_in behind c cs (let most : c < high = cs_in.0.1 in omega (arith, most)) cs_in.1) (head_at (slice_get nodes c) || differ (behind_at node (slice_get nodes c)) behind)
    where
      by : last_of_items nodes node behind c cs ≤ high → (b : Bool) → (if b then last else last_of_items nodes node behind c cs) ≤ high
      by more true = l
      by more false = more

  last_in : (last : ℕ) (cs : List ℕ) → last ≤ high → AreIn low high cs → last_of_body nodes node last cs ≤ high
  unfolding last_of_body
  last_in last [] l cs_in = l
  last_in last (c ∷ cs) l cs_in = by (last_in c cs (let most : c < high = cs_in.0.1 in omega (arith, most)) cs_in.1) (items_in (behind_at node (slice_get nodes c)) last (c ∷ cs) l cs_in) (head_at (slice_get nodes c))
    where
      by : last_of_body nodes node c cs ≤ high → last_of_items nodes node (behind_at node (slice_get nodes c)) last (c ∷ cs) ≤ high → (b : Bool) →
          (if b then last_of_body nodes node c cs else last_of_items nodes node (behind_at node (slice_get nodes c)) last (c ∷ cs)) ≤ high
      by more items true = more
      by more items false = items

  opened_in : (first : ℕ) (head behind : Bool) (cs : List ℕ) → low ≤ first → first ≤ high → AreIn low high cs → IsPartIn low high (opened nodes node first head behind cs)
  opened_in first head behind cs l m cs_in = record { from = heads_in first cs l cs_in; last = last_in first cs m cs_in }

  part_in : (child : Option Node) (before : Part) (first : ℕ) (cs : List ℕ) → IsPartIn low high before → low ≤ first → first ≤ high → AreIn low high cs → IsPartIn low high (child_part nodes node child before first cs)
  part_in None before first cs b l m cs_in = b
  part_in (Some child) before first cs b l m cs_in = by (begins before (is_head child.kind) (is_behind node child))
    where
      by : (c : Bool) → IsPartIn low high (if c then opened nodes node first (is_head child.kind) (is_behind node child) cs else record { from = before.from; last = before.last; head = is_head child.kind; behind = is_behind node child })
      by true = opened_in first (is_head child.kind) (is_behind node child) cs l m cs_in
      by false = record { from = b.from; last = b.last }

-- ---- the body round a child lies between two numbers

pub record IsBodyIn (low high : ℕ) (body : ℕ × ℕ) : Type 0 where
  pub first : low ≤ body.0
  pub last : body.1 ≤ high

module _ (low high n : ℕ) (round : Round) (child : NodeKind) (part : Part) (least : low ≤ round.first) (most : n ≤ high) (part_is : IsPartIn round.first n part) where
  whole_in : IsBodyIn low high (round.first, n)
  whole_in = record { first = least; last = most }

  either_in : IsBodyIn low high (round.body_first, round.body_last) → IsBodyIn low high (body_at child round part)
  either_in outer = by (is_outside child)
    where
      by : (b : Bool) → IsBodyIn low high (if b then (round.body_first, round.body_last) else (part.from, part.last))
      by true = outer
      by false = let from : round.first ≤ part.from = part_is.from in let last : part.last ≤ n = part_is.last in record { first = omega (arith, from, least); last = omega (arith, last, most) }

  -- the body of a module is all of it
  child_body_in : (k : NodeKind) → (is_of kind.Module k ≡ false → IsBodyIn low high (round.body_first, round.body_last)) → IsBodyIn low high (body_in k child n round part)
  child_body_in kind.File outer = whole_in
  child_body_in kind.Module outer = whole_in
  child_body_in kind.Routine outer = whole_in
  child_body_in kind.Cluster outer = whole_in
  child_body_in kind.TypeSet outer = whole_in
  child_body_in kind.Begin outer = whole_in
  child_body_in kind.While outer = either_in (outer refl)
  child_body_in kind.For outer = either_in (outer refl)
  child_body_in kind.If outer = either_in (outer refl)
  child_body_in kind.Tagcase outer = either_in (outer refl)
  child_body_in kind.TagArm outer = either_in (outer refl)
  child_body_in kind.When outer = either_in (outer refl)
  child_body_in kind.Others outer = either_in (outer refl)
  child_body_in _ outer = outer refl

-- ---- children between the first node of their parent and it

pub forest_goes_on : (nodes : List Node) (from to : ℕ) (roots : List ℕ) → IsForest nodes from roots to → from ≤ to
forest_goes_on nodes from to _ (none _) = omega arith
forest_goes_on nodes from to _ (tree _ root _ its roots at inside behind) =
    let below : from ≤ root = forest_goes_on nodes from root its.children inside in
    let beyond : root + 1 ≤ to = forest_goes_on nodes (root + 1) to roots behind in
    omega (arith, below, beyond)

more_in : (low least high : ℕ) (cs : List ℕ) → low ≤ least → AreIn least high cs → AreIn low high cs
more_in low least high [] l cs_in = tt
more_in low least high (c ∷ cs) l cs_in = let its : least ≤ c = cs_in.0.0 in ((omega (arith, its, l), cs_in.0.1), more_in low least high cs l cs_in.1)

pub roots_in : (nodes : List Node) (from to : ℕ) (roots : List ℕ) → IsForest nodes from roots to → AreIn from to roots
roots_in nodes from to _ (none _) = tt
roots_in nodes from to _ (tree _ root _ its roots at inside behind) =
    let below : from ≤ root = forest_goes_on nodes from root its.children inside in
    let beyond : root + 1 ≤ to = forest_goes_on nodes (root + 1) to roots behind in
    ((below, omega (arith, beyond)), more_in from (root + 1) to roots (omega (arith, below)) (roots_in nodes (root + 1) to roots behind))

pub all_first : (rounds : List Round) (low high first : ℕ) (cs : List ℕ) → low ≤ first → AreFirst rounds first cs → AreIn low high cs → AllByRecursion (λ c. low ≤ (round_at rounds c).first) cs
all_first rounds low high first [] l firsts cs_in = tt
all_first rounds low high first (c ∷ cs) l firsts cs_in =
    let its : (round_at rounds c).first ≡ first = firsts.0 in
    let least : low ≤ c = cs_in.0.0 in
    (omega (arith, its, l), all_first rounds low high (c + 1) cs (omega (arith, least)) firsts.1 cs_in.1)

module _ (t : Text) (nodes : List Node) (rounds : List Round) (parsed : IsParsed t nodes) (are : AreRounds nodes rounds) where
  abbrev round : ℕ → Round
  round n = round_at rounds n

  children_in : (n : ℕ) (node : Node) → slice_get nodes n ≡ Some node → AreIn (round n).first n node.children
  children_in n node at = roots_in nodes (round n).first n node.children (is_subtree nodes rounds parsed.tree are parsed.order n node at)

  -- ---- the body round each child of a node

  module _ (low high n : ℕ) (node : Node) (at : slice_get nodes n ≡ Some node) (least : low ≤ (round n).first) (most : n ≤ high)
      (outer : is_of kind.Module node.kind ≡ false → IsBodyIn low high ((round n).body_first, (round n).body_last)) where
    abbrev IsHere : ℕ → Type 0
    IsHere c = IsBodyIn low high ((round c).body_first, (round c).body_last)

    bodies_in : (before : Part) (first : ℕ) (cs : List ℕ) → IsPartIn (round n).first n before → (round n).first ≤ first → first ≤ n → AreIn (round n).first n cs → AreBefore (length nodes) cs →
        map (round_at rounds) cs ≡ rounds_in nodes n node (round n) before first cs → AllByRecursion IsHere cs
    unfolding rounds_in
    bodies_in before first [] b l m cs_in inside e = tt
    bodies_in before first (c ∷ cs) b l m cs_in inside e =
        let part : Part = child_part nodes node (slice_get nodes c) before first (c ∷ cs) in
        let head : round_at rounds c ≡ child_round nodes n node (slice_get nodes c) (round n) first part = cc in
        let tail : map (round_at rounds) cs ≡ rounds_in nodes n node (round n) part (c + 1) cs = cc in
        let its = there nodes c inside.0 in
        let is : round_at rounds c ≡ round_in nodes n node its.0 (round n) first part = head ∙ ap (λ (o : Option Node). child_round nodes n node o (round n) first part) its.1 in
        let part_is : IsPartIn (round n).first n part = part_in nodes node (round n).first n (slice_get nodes c) before first (c ∷ cs) b l m cs_in in
        let lower : (round n).first ≤ c = cs_in.0.0 in
        let upper : c < n = cs_in.0.1 in (
          subst (λ (r : Round). IsBodyIn low high (r.body_first, r.body_last)) (sym is) (one_body_in its.0.kind part part_is),
          bodies_in part (c + 1) cs part_is (omega (arith, lower)) (omega (arith, upper)) cs_in.1 inside.1 tail,
        )
      where
        one_body_in : (k : NodeKind) (part : Part) → IsPartIn (round n).first n part → IsBodyIn low high ((body_in node.kind k n (round n) part).0, (body_in node.kind k n (round n) part).1)
        one_body_in k part part_is =
            let its : IsBodyIn low high (body_in node.kind k n (round n) part) = child_body_in low high n (round n) k part least most part_is node.kind outer in
            record { first = its.first; last = its.last }

    before_in : (high : ℕ) (cs : List ℕ) → n ≤ high → AreIn (round n).first n cs → AreBefore high cs
    before_in high [] l cs_in = tt
    before_in high (c ∷ cs) l cs_in = let less : c < n = cs_in.0.1 in (omega (arith, less, l), before_in high cs l cs_in.1)

    pub each_body : (round n).first ≤ n → AllByRecursion IsHere node.children
    each_body first =
        let inside : n < length nodes = slice_get_within nodes n node at in
        bodies_in (first_part nodes node (round n).first) (round n).first node.children
        (opened_in nodes node (round n).first n (round n).first true false node.children (omega arith) first (children_in n node at)) (omega arith) first (children_in n node at)
        (before_in (length nodes) node.children (omega (arith, inside)) (children_in n node at)) (are.children_are n node at)

  -- ---- in a module

  -- the node and what surrounds it lies in the module u
  pub record IsWithin (u c : ℕ) : Type 0 where
    pub of_module : kind_at nodes u ≡ kind.Module
    pub lower : (round u).first ≤ c
    pub upper : c < u
    pub first : (round u).first ≤ (round c).first
    pub body : IsBodyIn (round u).first u ((round c).body_first, (round c).body_last)

  own_first : (n : ℕ) (node : Node) → slice_get nodes n ≡ Some node → (round n).first ≤ n
  own_first n node at = forest_goes_on nodes (round n).first n node.children (is_subtree nodes rounds parsed.tree are parsed.order n node at)

  -- in its parent's module, or in its parent
  from_parent : (u c : ℕ) (q : HasParent nodes c) → kind_at nodes u ≡ kind.Module → (q.parent ≡ u) ⊎ IsWithin u q.parent → (is_of kind.Module q.node.kind ≡ false → IsWithin u q.parent) → IsWithin u c
  from_parent u c q is_module either up = of_low (low either) (high either)
    where
      low : (q.parent ≡ u) ⊎ IsWithin u q.parent → (round u).first ≤ (round q.parent).first
      low (inl same) = let alike : (round q.parent).first ≡ (round u).first = ap (λ (n : ℕ). (round n).first) same in omega (arith, alike)
      low (inr w) = w.first

      high : (q.parent ≡ u) ⊎ IsWithin u q.parent → q.parent ≤ u
      high (inl same) = omega (arith, same)
      high (inr w) = let upper : q.parent < u = w.upper in omega (arith, upper)

      of_low : (round u).first ≤ (round q.parent).first → q.parent ≤ u → IsWithin u c
      of_low l m =
          let cs_in : AreIn (round q.parent).first q.parent q.node.children = children_in q.parent q.node q.at in
          let its = of_all (λ c. ((round q.parent).first ≤ c) × (c < q.parent)) c q.node.children cs_in q.child in
          let lower : (round q.parent).first ≤ c = its.0 in
          let upper : c < q.parent = its.1 in
          let first : (round q.parent).first ≤ (round c).first =
          of_all (λ c. (round q.parent).first ≤ (round_at rounds c).first) c q.node.children (all_first rounds (round q.parent).first q.parent (round q.parent).first q.node.children (omega arith) (firsts_of nodes rounds parsed.tree are q.parent q.node q.at) cs_in) q.child in
          record {
            of_module = is_module;
            lower = omega (arith, lower, l);
            upper = omega (arith, upper, m);
            first = omega (arith, first, l);
            body =
                of_all (λ c. IsBodyIn (round u).first u ((round c).body_first, (round c).body_last)) c q.node.children
                (each_body (round u).first u q.parent q.node q.at l m (λ other. (up other).body) (own_first q.parent q.node q.at)) q.child;
          }

  from_kind : (u c : ℕ) (q : HasParent nodes c) → is_inner (kind_at nodes c) ≡ true → (round c).unit ≡ Some u → (is_inner (kind_at nodes q.parent) ≡ true → (round q.parent).unit ≡ Some u → IsWithin u q.parent) → (k : NodeKind) → q.node.kind ≡ k → IsWithin u c
  from_kind u c q i e goes kind.File is = absurd (not_in_file t nodes rounds parsed are c q i is)
  from_kind u c q i e goes kind.Module is =
      let same : q.parent ≡ u = same_Some q.parent u (sym ((around_child t nodes rounds parsed are c q).unit ∙ ap (λ (k : NodeKind). unit_in k q.parent (round q.parent)) is) ∙ e) in
      from_parent u c q (ap (kind_at nodes) (sym same) ∙ ap kind_of q.at ∙ is) (inl same) (λ other. absurd (true≢false (sym (ap (is_of kind.Module) is) ∙ other)))
  from_kind u c q i e goes _ is =
      let w : IsWithin u q.parent = goes (ap is_inner (ap kind_of q.at ∙ is)) (sym ((around_child t nodes rounds parsed are c q).unit ∙ ap (λ (k : NodeKind). unit_in k q.parent (round q.parent)) is) ∙ e) in
      from_parent u c q w.of_module (inr w) (λ other. w)

  parent_at : (c : ℕ) → is_inner (kind_at nodes c) ≡ true → HasParent nodes c
  parent_at c i = parent_of t nodes rounds parsed are 0 [] c (kind_at nodes c) refl (inner_no_file (kind_at nodes c) i)

  parent_above : (c : ℕ) (q : HasParent nodes c) → (c < q.parent) × (q.parent < length nodes)
  parent_above c q = (child_before nodes parsed.tree q.parent q.node q.at (parsed.forms q.parent q.node q.at) c q.child, slice_get_within nodes q.parent q.node q.at)

  -- where at most k nodes come from it on
  within_from : (k c u : ℕ) → length nodes ≤ c + k → is_inner (kind_at nodes c) ≡ true → (round c).unit ≡ Some u → IsWithin u c
  within_from zero c u l i e =
      let q : HasParent nodes c = parent_at c i in
      let above = parent_above c q in
      let below : c < q.parent = above.0 in
      let inside : q.parent < length nodes = above.1 in
      absurd (omega (arith, below, inside, l))
  within_from (suc k) c u l i e =
      let q : HasParent nodes c = parent_at c i in
      let below : c < q.parent = (parent_above c q).0 in
      from_kind u c q i e (λ j f. within_from k q.parent u (omega (arith, below, l)) j f) q.node.kind refl

  pub within : (c u : ℕ) → is_inner (kind_at nodes c) ≡ true → (round c).unit ≡ Some u → IsWithin u c
  within c u = within_from (length nodes) c u (omega arith)

  -- ---- what lies in a module stands in it

  pub inner_unit : (k : NodeKind) (n : ℕ) (r : Round) → is_inner k ≡ true → unit_in k n r ≡ r.unit
  inner_unit kind.Module n r i = absurd (true≢false (sym i))
  inner_unit _ n r i = refl

  abbrev pub StandsIn : ℕ → ℕ → Type 0
  StandsIn u c = ((round c).unit ≡ Some u) × (is_inner (kind_at nodes c) ≡ true)

  all_stand : (u n : ℕ) (node : Node) → slice_get nodes n ≡ Some node → is_of kind.File node.kind ≡ false → unit_in node.kind n (round n) ≡ Some u → (cs : List ℕ) → AllByRecursion (IsAround rounds n node) cs → AllByRecursion (StandsIn u) cs
  all_stand u n node at other e [] rs = tt
  all_stand u n node at other e (c ∷ cs) rs = ((rs.0.unit ∙ e, inner_below t nodes rounds parsed are c n node rs.0.parent at other), all_stand u n node at other e cs rs.1)

  pub children_stand : (u n : ℕ) (node : Node) → slice_get nodes n ≡ Some node → is_of kind.File node.kind ≡ false → unit_in node.kind n (round n) ≡ Some u → AllByRecursion (StandsIn u) node.children
  children_stand u n node at other e = all_stand u n node at other e node.children (around_at t nodes rounds parsed are n node at)

  of_forest : (u from to : ℕ) (roots : List ℕ) → IsForest nodes from roots to → AllByRecursion (StandsIn u) roots → (m : ℕ) → from ≤ m → m < to → (round m).unit ≡ Some u
  of_forest u from to _ (none _) stand m l h = absurd (omega (arith, l, h))
  of_forest u from to _ (tree _ root _ its roots at inside behind) stand m l h = elim (cases_lt m root) [
    | inl less ↦
        (let i : is_inner its.kind ≡ true = ap is_inner (sym (ap kind_of at)) ∙ stand.0.1 in
        of_forest u from root its.children inside (children_stand u root its at (no_file its.kind i) (inner_unit its.kind root (round root) i ∙ stand.0.0)) m l less)
    | inr upto ↦ elim (cases_lt root m) [
      | inl beyond ↦ of_forest u (root + 1) to roots behind stand.1 m (omega (arith, beyond)) h
      | inr back ↦ (let same : root ≡ m = omega (arith, upto, back) in ap (λ (n : ℕ). (round n).unit) (sym same) ∙ stand.0.0)
    ]
  ]

  -- the node is the module, or stands in it
  abbrev IsOf : ℕ → ℕ → Type 0
  IsOf u m = ((m ≡ u) × (kind_at nodes u ≡ kind.Module)) ⊎ ((round m).unit ≡ Some u)

  in_module : (u m : ℕ) → kind_at nodes u ≡ kind.Module → (round u).first ≤ m → m ≤ u → IsOf u m
  in_module u m is l h = elim (cases_lt m u) [
    | inl less ↦
        (let its : There nodes u kind.Module = there_of nodes u kind.Module refl is in
        inr (of_forest u (round u).first u its.node.children (is_subtree nodes rounds parsed.tree are parsed.order u its.node its.at)
        (children_stand u u its.node its.at (ap (is_of kind.File) its.is) (ap (λ (k : NodeKind). unit_in k u (round u)) its.is)) m l less))
    | inr upto ↦ inl (omega (arith, upto, h), is)
  ]

  -- ---- scopes

  module _ (few : length nodes < 2 ^ 32) where
    -- a scope begins behind a node of the module
    behind_in : (low u n : ℕ) → low ≤ n → n < length nodes → low ≤ next n
    behind_in low u n l inside = omega (arith, l, inside, few)

    next_in : (low high n last : ℕ) → low ≤ n → n < length nodes → last ≤ high → IsBodyIn low high (next n, last)
    next_in low high n last l inside m = record { first = behind_in low high n l inside; last = m }

    module _ (u n : ℕ) (i : is_inner (kind_at nodes n) ≡ true) (w : IsWithin u n) where
      abbrev IsScope : ℕ × ℕ → Type 0
      IsScope scope = IsBodyIn (round u).first u scope

      inside_is : n < length nodes
      inside_is = let q : HasParent nodes n = parent_at n i in let above = parent_above n q in let below : n < q.parent = above.0 in let most : q.parent < length nodes = above.1 in omega (arith, below, most)

      from_next : IsScope (next n, (round n).body_last)
      from_next = next_in (round u).first u n (round n).body_last w.lower inside_is w.body.last

      behind_parent : (o : Option ℕ) → (round n).parent ≡ o → IsScope (after o, (round n).body_last)
      behind_parent None e = absurd (none-some (parent_at n i).parent (sym e ∙ (around_child t nodes rounds parsed are n (parent_at n i)).parent))
      behind_parent (Some p) e =
          let q : HasParent nodes n = parent_at n i in
          let same : q.parent ≡ p = same_Some q.parent p (sym (around_child t nodes rounds parsed are n (parent_at n i)).parent ∙ e) in
          let above = parent_above n q in
          let below : n < q.parent = above.0 in
          let most : q.parent < length nodes = above.1 in
          let lower : (round u).first ≤ n = w.lower in
          next_in (round u).first u p (round n).body_last (omega (arith, same, below, lower)) (omega (arith, same, most)) w.body.last

      of_decl : (outer : NodeKind) → IsScope (decl_scope outer n (round n))
      of_decl kind.Routine = from_next
      of_decl kind.For = w.body
      of_decl kind.When = w.body
      of_decl _ = behind_parent (round n).parent refl

      of_routine : (outer : NodeKind) (scope : ℕ × ℕ) → routine_scope outer (round n) ≡ Some scope → IsScope scope
      of_routine kind.Cluster scope e = subst IsScope (same_Some ((round n).body_first, (round n).body_last) scope e) w.body
      of_routine _ scope e = absurd (none-some scope e)

      scope_in : (k outer : NodeKind) (scope : ℕ × ℕ) → scope_of k outer n (round n) ≡ Some scope → IsScope scope
      scope_in kind.Equate outer scope e = subst IsScope (same_Some ((round n).body_first, (round n).body_last) scope e) w.body
      scope_in kind.Parm outer scope e = subst IsScope (same_Some ((round n).body_first, (round n).body_last) scope e) w.body
      scope_in kind.Init outer scope e = subst IsScope (same_Some (next n, (round n).body_last) scope e) from_next
      scope_in kind.Own outer scope e = subst IsScope (same_Some (next n, (round n).body_last) scope e) from_next
      scope_in kind.Decl outer scope e = subst IsScope (same_Some (decl_scope outer n (round n)) scope e) (of_decl outer)
      scope_in kind.Routine outer scope e = of_routine outer scope e
      scope_in _ outer scope e = absurd (none-some scope e)

    -- ---- declarations of a module: each node in the scope stands in it, or is the module

    abbrev HoldsUnit : Declared → Type 0
    HoldsUnit d = (u : ℕ) → d.unit ≡ Some u → (m : ℕ) → d.from ≤ m → m ≤ d.to → IsOf u m

    scope_holds : (u n : ℕ) (scope : ℕ × ℕ) → kind_at nodes u ≡ kind.Module → IsBodyIn (round u).first u scope → (m : ℕ) → scope.0 ≤ m → m ≤ scope.1 → IsOf u m
    scope_holds u n scope is body m l h =
        let first : (round u).first ≤ scope.0 = body.first in
        let last : scope.1 ≤ u = body.last in
        in_module u m is (omega (arith, first, l)) (omega (arith, last, h))

    opened_inner : (n p : ℕ) (outer : Node) (k : NodeKind) → (round n).parent ≡ Some p → slice_get nodes p ≡ Some outer → opens outer.kind k ≡ true → is_inner (kind_at nodes n) ≡ true
    opened_inner n p outer k above at o = inner_below t nodes rounds parsed are n p outer above at (no_file outer.kind (inner_opens outer.kind k o))

    own_inner : (n : ℕ) (node : Node) → slice_get nodes n ≡ Some node → (outer : NodeKind) (scope : ℕ × ℕ) → scope_of node.kind outer n (round n) ≡ Some scope → is_inner (kind_at nodes n) ≡ true
    own_inner n node at outer scope e = ap is_inner (ap kind_of at) ∙ inner_scope node.kind outer n (round n) scope e

    each_holds : AreEach nodes rounds HoldsUnit
    each_holds = record {
      variables = λ n p outer k above at is o first name u e m l h.
          (let i : is_inner (kind_at nodes n) ≡ true = opened_inner n p outer k above at o in
          let w : IsWithin u n = within n u i e in
          scope_holds u n ((round n).body_first, (round n).body_last) w.of_module w.body m l h);
      owns = λ n node at scope is name u e m l h.
          (let i : is_inner (kind_at nodes n) ≡ true = own_inner n node at (kind_at_parent nodes (round n).parent) scope is in
          let w : IsWithin u n = within n u i e in
          scope_holds u n scope w.of_module (scope_in u n i w node.kind (kind_at_parent nodes (round n).parent) scope is) m l h);
      modules = λ n node at is name u e m l h. absurd (none-some u e);
    }

    -- the node that declares stands in the module
    abbrev OwnsUnit : Declared → Type 0
    OwnsUnit d = (u : ℕ) → d.unit ≡ Some u → StandsIn u d.node

    each_owns : AreEach nodes rounds OwnsUnit
    each_owns = record {
      variables = λ n p outer k above at is o first name u e.
          (let i : is_inner (kind_at nodes n) ≡ true = opened_inner n p outer k above at o in
          let q : HasParent nodes n = parent_at n i in
          let same : q.parent ≡ p = same_Some q.parent p (sym (around_child t nodes rounds parsed are n (parent_at n i)).parent ∙ above) in
          let its : q.node ≡ outer = same_Some q.node outer (sym q.at ∙ ap (slice_get nodes) same ∙ at) in
          let j : is_inner q.node.kind ≡ true = ap (λ (m : Node). is_inner m.kind) its ∙ inner_opens outer.kind k o in
          let unit : (round q.parent).unit ≡ Some u = sym ((around_child t nodes rounds parsed are n (parent_at n i)).unit ∙ inner_unit q.node.kind q.parent (round q.parent) j) ∙ e in
          (ap (λ (m : ℕ). (round m).unit) (sym same) ∙ unit, ap is_inner (ap kind_of at) ∙ inner_opens outer.kind k o));
      owns = λ n node at scope is name u e. (e, own_inner n node at (kind_at_parent nodes (round n).parent) scope is);
      modules = λ n node at is name u e. absurd (none-some u e);
    }

    by_units : (name : Identifier) (n : ℕ) (d e : Declared) → HoldsUnit d → OwnsUnit e → e.node ≡ n → is_open name n d ≡ true → (a b : Option ℕ) → d.unit ≡ a → e.unit ≡ b → is_local a ≡ true → is_local b ≡ true → same_unit a b ≡ true
    by_units name n d e holds owns own opened None b x y la lb = absurd (true≢false (sym la))
    by_units name n d e holds owns own opened (Some u) None x y la lb = absurd (true≢false (sym lb))
    by_units name n d e holds owns own opened (Some u) (Some v) x y la lb =
        let stands : StandsIn v n = subst (StandsIn v) own (owns v y) in
        let open_is = and_parts (bytes_eq d.name name) (nat_le d.from n && nat_le n d.to) (sym (ap (λ (o : Option ℕ). bytes_eq d.name name && stands_in o d.from d.to n) x) ∙ opened) in
        let both = and_parts (nat_le d.from n) (nat_le n d.to) open_is.1 in
        elim (holds u x n (leb-true d.from n both.0) (leb-true n d.to both.1)) [
          | inl same ↦ absurd (true≢false (sym stands.1 ∙ ap (λ (m : ℕ). is_inner (kind_at nodes m)) same.0 ∙ ap is_inner same.1))
          | inr unit ↦ eq-eqb u v (same_Some u v (sym unit ∙ stands.0))
        ]

    pub open_of_one : (n : ℕ) (name : Identifier) (e : Declared) (own : ℕ) → slice_get (declarations nodes rounds) own ≡ Some e → e.node ≡ n → OpenOfOne (declarations nodes rounds) n name e
    open_of_one n name e own at is j d there opened la lb = by_units name n d e (of_each nodes rounds HoldsUnit each_holds j d there) (of_each nodes rounds OwnsUnit each_owns own e at) is opened d.unit e.unit refl refl la lb

    -- what has a node of a module in its scope is a module or declared in that one
    pub open_there : (u n : ℕ) (name : Identifier) → StandsIn u n → (j : ℕ) (d : Declared) → slice_get (declarations nodes rounds) j ≡ Some d → is_open name n d ≡ true → (v : ℕ) → d.unit ≡ Some v → (d.unit ≡ Some u) × StandsIn u d.node
    open_there u n name stands j d at opened v e =
        let open_is = and_parts (bytes_eq d.name name) (nat_le d.from n && nat_le n d.to) (sym (ap (λ (o : Option ℕ). bytes_eq d.name name && stands_in o d.from d.to n) e) ∙ opened) in
        let both = and_parts (nat_le d.from n) (nat_le n d.to) open_is.1 in
        elim (of_each nodes rounds HoldsUnit each_holds j d at v e n (leb-true d.from n both.0) (leb-true n d.to both.1)) [
          | inl same ↦ absurd (true≢false (sym stands.1 ∙ ap (λ (m : ℕ). is_inner (kind_at nodes m)) same.0 ∙ ap is_inner same.1))
          | inr unit ↦ (let its : d.unit ≡ Some u = e ∙ sym unit ∙ stands.0 in (its, of_each nodes rounds OwnsUnit each_owns j d at u its))
        ]
