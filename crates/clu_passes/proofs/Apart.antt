-- The equates that lead to no circle, in an order in which each comes after those that it leads to, and then the Decls of arms:
-- what stands in each reads bits of equates before it alone. So the bits that come of it say which equates are bad.
use Rattle.std.proofs.Common.{◌≡◌, ◌∙◌, ◌⊎◌, ◌&&◌, ℕ, zero, suc, ◌+◌, ◌-◌, ◌<◌, ◌≤◌, if◌then◌else◌, Bool, true, false, List, [], ◌∷◌, length, map, fold, Option, Some, None, is_some, inl, inr, refl, sym, ap, subst, arith, rules, length-append}
use Rattle.std.specs.Prelude.{◌↔◌, replicate, slice_get}
use Rattle.std.specs.List.{list_any, range_with_len}
use Rattle.std.specs.Option.{option_map}
use Rattle.std.proofs.lemmas.Bool.{true≢false, cases_lt, and_parts}
use Rattle.std.proofs.lemmas.List.{length-map}
use Rattle.std.proofs.lemmas.List.Folds.{fold-map}
use Rattle.std.proofs.lemmas.List.Sums.{fold-append}
use Rattle.std.proofs.lemmas.Option.{none-some, same_Some, slice_get_within, slice_get-map, slice_get_past}
use Rattle.clu_base.specs.declared.rules.Rule.{Rule}
use Rattle.clu_tree.specs.declared.node.Node.{Node}
use Rattle.clu_tree.specs.declared.node.NodeKind.{NodeKind}
use Rattle.clu_tree.specs.declared.node.NodeKind.TheVariants as kind
use Rattle.clu_tree.specs.contracts.node.NodeKind.{the_type}
use Rattle.clu_syntax.specs.declared.round.Round.{Round}
use Rattle.clu_syntax.specs.Kinds.{kind_of, kind_at}
use Rattle.clu_syntax.specs.Rounds.{round_at}
use Rattle.clu_syntax.specs.Splits.{is_of}
use Rattle.clu_names.specs.declared.binding.Names.{Names}
use Rattle.clu_names.specs.declared.scopes.Declared.{Declared}
use Rattle.clu_names.specs.Denotes.{bound_at}
use Rattle.clu_names.specs.Scopes.{declarations}
use Rattle.clu_circles.specs.declared.states.Span.{Span}
use Rattle.clu_circles.specs.Circles.{AreCircles, Leads}
use Rattle.clu_checking.specs.Files.{File, is_kind}
use Rattle.clu_checking.specs.Equates.{is_circular}
use Rattle.clu_checking.specs.Rules.{least, violates}
use Rattle.clu_checking.specs.Refusals.{right_side, is_bad_of}
use Rattle.clu_settle.specs.Circular as by_place
use Rattle.clu_settle.specs.Circular.{spans_to, unfolded_starts}
use Rattle.clu_settle.specs.Graph as graph
use Rattle.clu_settle.specs.Graph.{is_equate_at, if_used, unfolded_at, unfolded_to}
use Rattle.clu_settle.proofs.Unfolding.{named_leads}
use Rattle.clu_head.specs.There.{is_there}
use Rattle.clu_bindings.specs.Tables.{optional}
use Rattle.clu_bindings.specs.Files.{bound_in, declaration_in, declared_by, declaring_node, node_of, stands_in}
use Rattle.clu_name_rules.specs.NameRules.{equate_of}
use Rattle.clu_type_rules.specs.Walking.{Asked, asked_if, asked_of, asked_equate, asked_arm, none_asked, bad_in}
use Rattle.clu_passes.specs.Bad.{AreBadBy}
use Rattle.clu_passes.specs.Marks.{AreMarks}
use Rattle.clu_passes.specs.Tables.{AreNames}
use Rattle.clu_passes.specs.Trees.{IsFileOfTree, is_of_constant}
use Rattle.clu_passes.specs.Turns.{AreApart, DeclareOnce, Inside, Reads, ReadsAlone, arm_declared, asked_if_there, bit, equate_declared, first_in, nodes_asked, nodes_in, read_at}
use Rattle.clu_passes.proofs.AskedOnce.{asked_all}
use Rattle.clu_passes.proofs.BadEquates.{any_same, bad_is}
use Rattle.clu_passes.proofs.ByNodes.{circular_same, equate_kind}
use Rattle.clu_passes.proofs.InEquates.{in_constants, in_declarations}
use Rattle.clu_passes.proofs.Marked.{none_there}
use Rattle.clu_passes.proofs.Places.{Declares, equate_declares}
use Rattle.clu_passes.proofs.Tables.{bound_is}
use denote.Enum.Bare.{same_true}
use Rattle.clu_base.proofs.Lists.{mapped_at as map_get, got_front, split}

-- ---- lists

range_get : (a len j x : ℕ) → slice_get (range_with_len a len) j ≡ Some x → x ≡ a + j
range_get a zero j x e = absurd (none-some x e)
range_get a (suc len) zero x e = let same : a ≡ x = same_Some a x e in omega (arith, same)
range_get a (suc len) (suc j) x e = let same : x ≡ a + 1 + j = range_get (a + 1) len j x e in omega (arith, same)

pub record IsMapped {X Y : Type 0} (h : X → Option Y) (xs : List X) (i : ℕ) (y : Y) : Type 0 where
  pub item : X
  pub there : slice_get xs i ≡ Some item
  pub gives : h item ≡ Some y

pub mapped_at : {X Y : Type 0} (h : X → Option Y) (xs : List X) (i : ℕ) (y : Y) → slice_get (map h xs) i ≡ Some (Some y) → IsMapped h xs i y
mapped_at h [] i y e = absurd (none-some (Some y) e)
mapped_at h (x ∷ xs) zero y e = record { item = x; there = refl; gives = same_Some (h x) (Some y) e }
mapped_at h (x ∷ xs) (suc i) y e = let m = mapped_at h xs i y e in record { item = m.item; there = m.there; gives = m.gives }

pub if_some : (b : Bool) (x y : ℕ) → if◌then◌else◌ {A = Option ℕ} b (Some x) None ≡ Some y → (b ≡ true) × (x ≡ y)
if_some true x y e = (refl, same_Some x y e)
if_some false x y e = absurd (none-some y e)

pub bit_false : (bits : List Bool) (k : ℕ) → k < length bits → (slice_get bits k ≡ Some true → ⊥) → (o : Option Bool) → slice_get bits k ≡ o → slice_get bits k ≡ Some false
bit_false bits k less other (Some false) is = is
bit_false bits k less other (Some true) is = absurd (other is)
bit_false bits k less other None is = absurd (none_there bits k less is)

-- ---- kinds

pub record IsNode (k : NodeKind) (o : Option Node) : Type 0 where
  pub node : Node
  pub there : o ≡ Some node
  pub its : node.kind ≡ k

pub node_there : (k : NodeKind) (o : Option Node) → is_there k o ≡ true → IsNode k o
node_there k None e = absurd (true≢false (sym e))
node_there k (Some node) e = record { node = node; there = refl; its = same_true the_type (search rules) node.kind k e }

pub equate_there : (o : Option Node) → is_there kind.Equate o ≡ is_of kind.Equate (kind_of o)
equate_there None = refl
equate_there (Some node) = refl

no_both : (o : Option Node) → is_there kind.Equate o ≡ true → is_there kind.Decl o ≡ true → ⊥
no_both o e d =
    let a = node_there kind.Equate o e in
    let b = node_there kind.Decl o d in
    let same : a.node ≡ b.node = same_Some a.node b.node (sym a.there ∙ b.there) in
    true≢false (ap (is_of kind.Equate) (sym a.its ∙ ap (λ (node : Node). node.kind) same ∙ b.its))

-- ---- what is asked, as one list

module _ (nodes : List Node) (rounds : List Round) (fault : List Bool → ℕ → Bool) (ds : List Declared) where
  if_there : (b : Bool) (a : Asked) (n : ℕ) → asked_if rounds fault b a n ≡ asked_if_there rounds fault a (if b then Some n else None)
  if_there true a n = refl
  if_there false a n = refl

  equate_step : (a : Asked) (o : Option Declared) → asked_of nodes rounds fault a o ≡ asked_if_there rounds fault a (equate_declared nodes o)
  equate_step a None = refl
  equate_step a (Some d) = if_there (is_there kind.Equate (slice_get nodes d.node)) a d.node

  equates_fold : (a : Asked) (order : List ℕ) →
      fold (asked_equate nodes rounds fault ds) a order ≡ fold (asked_if_there rounds fault) a (map (λ place. equate_declared nodes (slice_get ds place)) order)
  equates_fold a [] = refl
  equates_fold a (k ∷ order) =
      ap (λ (x : Asked). fold (asked_equate nodes rounds fault ds) x order) (equate_step a (slice_get ds k))
      ∙ equates_fold (asked_if_there rounds fault a (equate_declared nodes (slice_get ds k))) order

  arms_fold : (a : Asked) (ns : List ℕ) → fold (asked_arm nodes rounds fault) a ns ≡ fold (asked_if_there rounds fault) a (map (arm_declared nodes rounds) ns)
  arms_fold a [] = refl
  arms_fold a (n ∷ ns) =
      ap (λ (x : Asked). fold (asked_arm nodes rounds fault) x ns) (if_there (is_there kind.Decl (slice_get nodes n) && stands_in nodes rounds kind.When n) a n)
      ∙ arms_fold (asked_if_there rounds fault a (arm_declared nodes rounds n)) ns

  pub bad_by_turns : (order : List ℕ) → bad_in nodes rounds fault ds order ≡ (fold (asked_if_there rounds fault) (none_asked nodes rounds fault) (nodes_asked nodes rounds ds order)).bad
  bad_by_turns order =
      let equates : List (Option ℕ) = map (λ place. equate_declared nodes (slice_get ds place)) order in
      let arms : List (Option ℕ) = map (arm_declared nodes rounds) (range_with_len 0 (length nodes)) in
      ap (λ (a : Asked). (fold (asked_arm nodes rounds fault) a (range_with_len 0 (length nodes))).bad) (equates_fold (none_asked nodes rounds fault) order)
      ∙ ap (λ (a : Asked). a.bad) (arms_fold (fold (asked_if_there rounds fault) (none_asked nodes rounds fault) equates) (range_with_len 0 (length nodes)))
      ∙ ap (λ (a : Asked). a.bad) (sym (fold-append (asked_if_there rounds fault) (none_asked nodes rounds fault) equates arms))

-- ---- in a file

module _ (f : File) (of : IsFileOfTree f) (names : Names) (are : AreNames f names) (once : DeclareOnce f.nodes f.scope.declarations) (order : List ℕ) (circular : List Bool)
    (circles : AreCircles (unfolded_to f.nodes f.scope.declarations (length f.nodes)) (spans_to f.nodes f.rounds f.scope.declarations) order circular) where
  abbrev ds : List Declared
  ds = f.scope.declarations

  abbrev targets : List (Option ℕ)
  targets = unfolded_to f.nodes ds (length f.nodes)

  abbrev spans : List Span
  spans = spans_to f.nodes f.rounds ds

  abbrev equates : List (Option ℕ)
  equates = map (λ place. equate_declared f.nodes (slice_get ds place)) order

  abbrev arms : List (Option ℕ)
  arms = map (arm_declared f.nodes f.rounds) (range_with_len 0 (length f.nodes))

  abbrev es : List (Option ℕ)
  es = nodes_asked f.nodes f.rounds ds order

  -- the declaration of an equate, and its place in the order
  record IsEquate (p e : ℕ) : Type 0 where
    place : ℕ
    its : Declared
    there : slice_get order p ≡ Some place
    declared : slice_get ds place ≡ Some its
    declares : its.node ≡ e
    equate : is_there kind.Equate (slice_get f.nodes e) ≡ true

  record IsArm (p e : ℕ) : Type 0 where
    behind : p ≡ length order + e
    decl : is_there kind.Decl (slice_get f.nodes e) ≡ true

  equate_by : (p k e : ℕ) → slice_get order p ≡ Some k → (o : Option Declared) → slice_get ds k ≡ o → equate_declared f.nodes o ≡ Some e → IsEquate p e
  equate_by p k e there None at gives = absurd (none-some e gives)
  equate_by p k e there (Some d) at gives =
      let both = if_some (is_there kind.Equate (slice_get f.nodes d.node)) d.node e gives in
      record { place = k; its = d; there = there; declared = at; declares = both.1; equate = subst (λ (n : ℕ). is_there kind.Equate (slice_get f.nodes n) ≡ true) both.1 both.0 }

  arm_by : (p j e : ℕ) → p ≡ length equates + j → slice_get arms j ≡ Some (Some e) → IsArm p e
  arm_by p j e at there =
      let m = mapped_at (arm_declared f.nodes f.rounds) (range_with_len 0 (length f.nodes)) j e there in
      let both = if_some (is_there kind.Decl (slice_get f.nodes m.item) && stands_in f.nodes f.rounds kind.When m.item) m.item e m.gives in
      let number : m.item ≡ 0 + j = range_get 0 (length f.nodes) j m.item m.there in
      let same : m.item ≡ e = both.1 in
      let many : length equates ≡ length order = length-map order (λ place. equate_declared f.nodes (slice_get ds place)) in
      record {
        behind = omega (arith, at, number, same, many);
        decl = subst (λ (n : ℕ). is_there kind.Decl (slice_get f.nodes n) ≡ true) same (and_parts (is_there kind.Decl (slice_get f.nodes m.item)) (stands_in f.nodes f.rounds kind.When m.item) both.0).0;
      }

  which : (p e : ℕ) → slice_get es p ≡ Some (Some e) → IsEquate p e ⊎ IsArm p e
  which p e there = elim (split equates arms p (Some e) there) [
    | inl front ↦
        let m = mapped_at (λ place. equate_declared f.nodes (slice_get ds place)) order p e front in
        inl (equate_by p m.item e m.there (slice_get ds m.item) refl m.gives)
    | inr behind ↦ inr (arm_by p behind.0 e behind.1 behind.2)
  ]

  -- ---- each stands once

  pub stands_once : (p q e : ℕ) → slice_get es p ≡ Some (Some e) → slice_get es q ≡ Some (Some e) → p ≡ q
  stands_once p q e a b = by (which p e a) (which q e b)
    where
      by : IsEquate p e ⊎ IsArm p e → IsEquate q e ⊎ IsArm q e → p ≡ q
      by (inl x) (inl y) =
          let same : x.place ≡ y.place = once x.place y.place x.its y.its x.declared y.declared (ap (λ (n : ℕ). is_there kind.Equate (slice_get f.nodes n)) x.declares ∙ x.equate) (x.declares ∙ sym y.declares) in
          circles.once p q x.place x.there (y.there ∙ ap (λ (k : ℕ). Some k) (sym same))
      by (inl x) (inr y) = absurd (no_both (slice_get f.nodes e) x.equate y.decl)
      by (inr x) (inl y) = absurd (no_both (slice_get f.nodes e) y.equate x.decl)
      by (inr x) (inr y) = x.behind ∙ sym y.behind

  -- ---- what is read

  -- the equate that is read at a node is one of those to which names at the node lead
  record IsNamed (n m : ℕ) : Type 0 where
    place : ℕ
    its : Declared
    declared : slice_get ds place ≡ Some its
    declares : its.node ≡ m
    equate : is_there kind.Equate (slice_get f.nodes m) ≡ true
    unfolded : slice_get (unfolded_at f.nodes ds n) 0 ≡ Some (Some place)

  equate_is : (m : ℕ) → is_there kind.Equate (slice_get f.nodes m) ≡ true → is_equate_at f.nodes m ≡ true
  equate_is m is = equate_kind (kind_at f.nodes m) ∙ sym (equate_there (slice_get f.nodes m)) ∙ is

  first_bound : (bounds : List (Option ℕ)) (place : ℕ) → optional (slice_get bounds 0) ≡ Some place → slice_get bounds 0 ≡ Some (Some place)
  first_bound [] place e = absurd (none-some place e)
  first_bound (x ∷ xs) place e = ap (λ (o : Option ℕ). Some o) e

  target_is : (place : ℕ) (d : Declared) → slice_get ds place ≡ Some d → is_equate_at f.nodes d.node ≡ true → graph.equate_of f.nodes ds (Some place) ≡ Some place
  target_is place d at is = ap (graph.equate_at f.nodes place) at ∙ ap (λ (b : Bool). if b then Some place else None) is

  module _ (n m : ℕ) (used : if_used (kind_at f.nodes n) (bound_at ds n (slice_get f.nodes n)) ≡ bound_at ds n (slice_get f.nodes n)) where
    named_by : (place : ℕ) (d : Declared) → slice_get (bound_in names n) 0 ≡ Some (Some place) → slice_get ds place ≡ Some d → equate_of f.nodes (Some d.node) ≡ Some m → IsNamed n m
    named_by place d bound at gives =
        let both = if_some (is_there kind.Equate (slice_get f.nodes d.node)) d.node m gives in
        let there : slice_get (if_used (kind_at f.nodes n) (bound_at ds n (slice_get f.nodes n))) 0 ≡ Some (Some place) =
        ap (λ (xs : List (Option ℕ)). slice_get xs 0) (used ∙ sym (bound_is f names are n)) ∙ bound in
        record {
          place = place;
          its = d;
          declared = at;
          declares = both.1;
          equate = subst (λ (n : ℕ). is_there kind.Equate (slice_get f.nodes n) ≡ true) both.1 both.0;
          unfolded = map_get (graph.equate_of f.nodes ds) (if_used (kind_at f.nodes n) (bound_at ds n (slice_get f.nodes n))) 0 (Some place) there
              ∙ ap (λ (o : Option ℕ). Some o) (target_is place d at (equate_is d.node both.0));
        }

    named_at : (place : ℕ) → slice_get (bound_in names n) 0 ≡ Some (Some place) → (o : Option Declared) → slice_get ds place ≡ o → equate_of f.nodes (node_of o) ≡ Some m → IsNamed n m
    named_at place bound None at gives = absurd (none-some m gives)
    named_at place bound (Some d) at gives = named_by place d bound at gives

    named_if : (o : Option ℕ) → declaration_in names n ≡ o → equate_of f.nodes (declaring_node names o) ≡ Some m → IsNamed n m
    named_if None is gives = absurd (none-some m gives)
    named_if (Some place) is gives =
        named_at place (first_bound (bound_in names n) place is) (slice_get ds place) refl
        (ap (λ (xs : List Declared). equate_of f.nodes (node_of (slice_get xs place))) (sym are.declared) ∙ gives)

    named : equate_of f.nodes (declared_by names n) ≡ Some m → IsNamed n m
    named gives = named_if (declaration_in names n) refl gives

  is_named : (n m : ℕ) (k : NodeKind) → kind_at f.nodes n ≡ k → read_at f.nodes names k n ≡ Some m → IsNamed n m
  is_named n m kind.Name is gives = named n m (ap (λ (k : NodeKind). if_used k (bound_at ds n (slice_get f.nodes n))) is) gives
  is_named n m kind.NameT is gives = named n m (ap (λ (k : NodeKind). if_used k (bound_at ds n (slice_get f.nodes n))) is) gives
  is_named n m kind.Simple is gives = named n m (ap (λ (k : NodeKind). if_used k (bound_at ds n (slice_get f.nodes n))) is) gives
  is_named n m _ is gives = absurd (none-some m gives)

  -- ---- it comes before

  leads : (p e n m : ℕ) → IsEquate p e → Inside f.rounds e n → (named : IsNamed n m) → (x : ℕ) × (x < p) × (slice_get order x ≡ Some named.place)
  leads p e n m x inside named =
      let from : (round_at f.rounds x.its.node).first ≤ n = subst (λ (i : ℕ). first_in f.rounds i ≤ n) (sym x.declares) inside.from in
      let below : n < x.its.node = subst (λ (i : ℕ). n < i) (sym x.declares) inside.below in
      let is : is_equate_at f.nodes x.its.node ≡ true = equate_is x.its.node (ap (λ (i : ℕ). is_there kind.Equate (slice_get f.nodes i)) x.declares ∙ x.equate) in
      circles.after p x.place named.place x.there
      (named_leads f.nodes ds f.rounds of.surrounded.size targets (unfolded_starts f.nodes ds (length f.nodes)) (length targets) spans refl refl refl refl x.place x.its x.declared is n 0 named.place from below named.unfolded)

  -- where the equate stands in the list
  stands_at : (q m : ℕ) (named : IsNamed q m) (x : ℕ) → slice_get order x ≡ Some named.place → slice_get es x ≡ Some (Some m)
  stands_at q m named x there =
      got_front equates arms x (Some m)
      (map_get (λ place. equate_declared f.nodes (slice_get ds place)) order x named.place there
      ∙ ap (λ (o : Option Declared). Some (equate_declared f.nodes o)) named.declared
      ∙ ap (λ (b : Bool). Some (if◌then◌else◌ {A = Option ℕ} b (Some named.its.node) None)) (ap (λ (i : ℕ). is_there kind.Equate (slice_get f.nodes i)) named.declares ∙ named.equate)
      ∙ ap (λ (i : ℕ). Some (Some i)) named.declares)

  in_order : (q m : ℕ) → slice_get es q ≡ Some (Some m) → is_there kind.Equate (slice_get f.nodes m) ≡ true → q < length order
  in_order q m there is = by (which q m there)
    where
      by : IsEquate q m ⊎ IsArm q m → q < length order
      by (inl x) = slice_get_within order q x.place x.there
      by (inr x) = absurd (no_both (slice_get f.nodes m) is x.decl)

  pub comes_before : (p q e m n : ℕ) → slice_get es p ≡ Some (Some e) → slice_get es q ≡ Some (Some m) → Inside f.rounds e n → Reads f.nodes names n m → q < p
  comes_before p q e m n a b inside reads = by (which p e a) (is_named n m (kind_at f.nodes n) refl reads)
    where
      by : IsEquate p e ⊎ IsArm p e → IsNamed n m → q < p
      by (inl x) named =
          let before = leads p e n m x inside named in
          let less : before.0 < p = before.1 in
          let same : q ≡ before.0 = stands_once q before.0 m b (stands_at n m named before.0 before.2) in
          omega (arith, less, same)
      by (inr x) named =
          let early : q < length order = in_order q m b named.equate in
          let behind : p ≡ length order + e = x.behind in
          omega (arith, early, behind)

  -- ---- below what is asked stand constants

  constant_in : (p e n : ℕ) → slice_get es p ≡ Some (Some e) → Inside f.rounds e n → is_of_constant (kind_at f.nodes n) ≡ true
  constant_in p e n there inside = by (which p e there)
    where
      by : IsEquate p e ⊎ IsArm p e → is_of_constant (kind_at f.nodes n) ≡ true
      by (inl x) =
          let its = node_there kind.Equate (slice_get f.nodes e) x.equate in
          in_constants f.nodes f.rounds of.shaped of.ordered of.tree of.surrounded e its.node its.there (ap is_of_constant its.its) n inside.from inside.below
      by (inr x) =
          let its = node_there kind.Decl (slice_get f.nodes e) x.decl in
          in_declarations f.nodes f.rounds of.shaped of.ordered of.tree of.surrounded e its.node its.there its.its n inside.from inside.below

  module _ (fault : List Bool → ℕ → Bool) (alone : ReadsAlone f.nodes names fault) where
    are_apart : AreApart f.rounds fault es (Reads f.nodes names)
    are_apart = record {
      reads = λ p e n there inside b c same. alone n (constant_in p e n there inside) b c same;
      once = stands_once;
      before = comes_before;
    }

    inside_all : (q e : ℕ) → slice_get es q ≡ Some (Some e) → e < length f.nodes
    inside_all q e there = by (which q e there)
      where
        by : IsEquate q e ⊎ IsArm q e → e < length f.nodes
        by (inl x) = let its = node_there kind.Equate (slice_get f.nodes e) x.equate in slice_get_within f.nodes e its.node its.there
        by (inr x) = let its = node_there kind.Decl (slice_get f.nodes e) x.decl in slice_get_within f.nodes e its.node its.there

    -- the bits at the end
    abbrev bits : List Bool
    bits = bad_in f.nodes f.rounds fault ds order

    abbrev turned : Asked
    turned = fold (asked_if_there f.rounds fault) (none_asked f.nodes f.rounds fault) es

    right_at : (p e : ℕ) → slice_get es p ≡ Some (Some e) → bit turned.bad e ≡ list_any (fault turned.bad) (nodes_in f.rounds e)
    right_at p e there = (asked_all f.rounds fault es (Reads f.nodes names) are_apart (length f.nodes) inside_all).done p e (slice_get_within es p (Some e) there) there

    pub bits_right : (p e : ℕ) → slice_get es p ≡ Some (Some e) → bit bits e ≡ list_any (fault bits) (nodes_in f.rounds e)
    bits_right p e there = subst (λ (b : List Bool). bit b e ≡ list_any (fault b) (nodes_in f.rounds e)) (sym (bad_by_turns f.nodes f.rounds fault ds order)) (right_at p e there)

    -- ---- an equate that leads to no circle is asked

    module _ (all : ds ≡ declarations f.nodes f.rounds) (marks : AreMarks f circular) (e : ℕ) (equate : is_kind f kind.Equate e ≡ true) (straight : is_circular f e ≡ false) where
      there_is : is_there kind.Equate (slice_get f.nodes e) ≡ true
      there_is = equate_there (slice_get f.nodes e) ∙ equate

      declared_there : Declares ds e
      declared_there =
          let its = node_there kind.Equate (slice_get f.nodes e) there_is in
          subst (λ (xs : List Declared). Declares xs e) (sym all) (equate_declares f.nodes f.rounds e its.node its.there its.its)

      not_marked : (k : ℕ) (d : Declared) → slice_get ds k ≡ Some d → d.node ≡ e → slice_get circular k ≡ Some true → ⊥
      not_marked k d at declares marked =
          let says : by_place.is_circular f.nodes f.rounds ds k ≡ true = (marks k (slice_get_within ds k d at)).0 marked in
          true≢false (sym says ∙ circular_same f of.shaped k d at ∙ ap (λ (n : ℕ). is_kind f kind.Equate n && is_circular f n) declares ∙ ap (λ (b : Bool). b && is_circular f e) equate ∙ straight)

      listed : (p : ℕ) × (slice_get es p ≡ Some (Some e))
      listed =
          let d = declared_there in
          let place : d.place < length ds = slice_get_within ds d.place d.its d.there in
          let many : length spans ≡ length ds = length-map ds (by_place.span_in f.nodes f.rounds (length targets) (unfolded_starts f.nodes ds (length f.nodes))) in
          let size : length circular ≡ length spans = circles.size in
          let other : slice_get circular d.place ≡ Some true → ⊥ = not_marked d.place d.its d.there d.declares in
          let at = circles.listed d.place (bit_false circular d.place (omega (arith, place, many, size)) other (slice_get circular d.place) refl) in (
            at.0,
            got_front equates arms at.0 (Some e)
                (map_get (λ place. equate_declared f.nodes (slice_get ds place)) order at.0 d.place at.1
                ∙ ap (λ (o : Option Declared). Some (equate_declared f.nodes o)) d.there
                ∙ ap (λ (b : Bool). Some (if◌then◌else◌ {A = Option ℕ} b (Some d.its.node) None)) (ap (λ (i : ℕ). is_there kind.Equate (slice_get f.nodes i)) d.declares ∙ there_is)
                ∙ ap (λ (i : ℕ). Some (Some i)) d.declares),
          )

      pub equate_right : bit bits e ≡ list_any (fault bits) (right_side f e)
      equate_right = bits_right listed.0 e listed.1

    -- ---- so it says which equates are bad

    module _ (all : ds ≡ declarations f.nodes f.rounds) (marks : AreMarks f circular) (its_rules : List Rule)
        (same : (n : ℕ) → is_of_constant (kind_at f.nodes n) ≡ true → fault bits n ≡ is_some (least (violates f (bit bits) n) its_rules)) where
      are_bad : AreBadBy f its_rules (bit bits)
      are_bad e equate straight =
          let its = node_there kind.Equate (slice_get f.nodes e) (equate_there (slice_get f.nodes e) ∙ equate) in
          equate_right all marks e equate straight
          ∙ any_same (fault bits) (λ n. is_some (least (violates f (bit bits) n) its_rules)) (round_at f.rounds e).first (e - (round_at f.rounds e).first) (λ n l m.
          same n (in_constants f.nodes f.rounds of.shaped of.ordered of.tree of.surrounded e its.node its.there (ap is_of_constant its.its) n l (omega (arith, l, m))))

      pub bits_are_bad : (e : ℕ) → is_kind f kind.Equate e ≡ true → is_circular f e ≡ false → bit bits e ≡ is_bad_of f its_rules e
      bits_are_bad e equate straight = bad_is f of its_rules (bit bits) are_bad e equate straight
