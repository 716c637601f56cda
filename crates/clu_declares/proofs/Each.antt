-- The table of meanings is that of the scope of the file.
use Rattle.std.proofs.Common.{◌≡◌, ◌∙◌, ◌⊎◌, ℕ, zero, suc, ◌+◌, ◌-◌, ◌^◌, ◌<◌, ◌≤◌, ◌&&◌, ◌==◌, Bool, true, false, if◌then◌else◌, List, [], ◌∷◌, ◌++◌, length, map, take, Option, Some, None, slice_get, refl, ap, ap₂, sym, subst, inl, inr, arith, append-nil, codes, length-append, eqb-true}
use Rattle.std.specs.Prelude.{bytes_eq}
use Rattle.std.proofs.lemmas.Bool.{true≢false, cases_Bool, cases_lt}
use Rattle.std.proofs.lemmas.Option.{same_Some, slice_get_within}
use Rattle.std.proofs.lemmas.Slice.Eq.{bytes_eq-Decides}
use Rattle.clu_base.proofs.Lists.{some_at, got_front, split, get_before, get_last}
use Rattle.clu_tree.specs.declared.node.Node.{Node}
use Rattle.clu_tree.specs.declared.node.NodeKind.{NodeKind}
use Rattle.clu_tree.specs.declared.node.NodeKind.TheVariants as kind
use Rattle.clu_parser.specs.Trees.{Text}
use Rattle.clu_syntax.specs.declared.round.Round.{Round}
use Rattle.clu_syntax.specs.Kinds.{is_type, kind_of, kind_at}
use Rattle.clu_syntax.specs.Rounds.{AreRounds, round_at, unit_in}
use Rattle.clu_syntax.specs.Splits.{first_name}
use Rattle.clu_syntax.specs.Syntax.{Identifier, Parameter}
use Rattle.clu_syntax.specs.Nodes.{item_at}
use Rattle.clu_syntax.specs.Enough.{least_names}
use Rattle.clu_syntax.proofs.Enough.{enough}
use Rattle.clu_names.specs.declared.scopes.Declared.{Declared}
use Rattle.clu_names.specs.Scopes.{next, node_at, kind_at_parent, decl_scope, routine_scope, scope_of, equate_names, own_names, declared_as, own_at, is_stream, module_named, is_module as is_definition, module_at, is_first, opens, variable_names, variable_of, declared_at}
use Rattle.clu_names.specs.Denotes.{stands_in, rank_of, is_open, found, names_in}
use Rattle.clu_names.specs.Denotes as denotes
use Rattle.clu_names.specs.Latest.{IsUnder, IsBest}
use Rattle.clu_names.proofs.Best.{found_is}
use Rattle.clu_meaning.specs.Scoping as means
use Rattle.clu_meaning.specs.Scoping.{Scope, parameter_number, bound_at, meaning_of}
use Rattle.clu_checking.specs.Files.{parameters_in, parameters_round, scope_in}
use Rattle.clu_settle.specs.declared.meanings.Meaning.{Meaning}
use Rattle.clu_settle.specs.Names.{Means, meaning_in, AreMeanings, may_stand, may_name, name_in, name_at}
use Rattle.clu_settle.specs.Graph.{if_used}
use Rattle.clu_settle.specs.Parameters.{parent_round, is_parameter, counted, counted_in, number_at}
use Rattle.clu_settle.specs.Meant as meant
use Rattle.clu_declares.specs.Declares.{IsParsed, numbered, outer_kind, declared_in, declared_by}
use Rattle.clu_declares.proofs.Around.{IsAround}
use Rattle.clu_declares.proofs.Below.{same_kind}
use Rattle.clu_declares.proofs.Parents.{IsIn, HasParent, module_of_cluster}
use Rattle.clu_declares.proofs.RepWords.{rep_told}
use Rattle.clu_declares.proofs.Haves.{form_at, parent_of}
use Rattle.clu_declares.proofs.Amounts.{and_left, and_right, parm_in_module, amount, at_node, up_to, IsPlaced, placed, whole_is, counted_is}
use Rattle.clu_declares.proofs.Modules.{OfModule, of_module, around_parent, unit_is}
use Rattle.clu_declares.proofs.Numbered.{IsOf, count_is, number_is}
use Rattle.clu_declares.proofs.Meant.{IsNamed, named, bound_is, Good, decl_good, init_good, own_good, equate_good, other_parm, parm_good, set_variable_good, arm_good, others_good, inner_good, module_routine_good, module_cluster_good}

-- ---- lists

named_at : (n : ℕ) (unit : Option ℕ) (scope : ℕ × ℕ) (names : List Identifier) (j : ℕ) (name : Identifier) → slice_get names j ≡ Some name → slice_get (declared_as n unit (Some scope) names) j ≡ Some (record { name = name; node = n; from = scope.0; to = scope.1; unit = unit })
named_at n unit scope [] j name e = absurd (cc)
named_at n unit scope (x ∷ names) zero name e = ap (λ (x : Identifier). Some (record { name = x; node = n; from = scope.0; to = scope.1; unit = unit })) (same_Some x name e)
named_at n unit scope (x ∷ names) (suc j) name e = named_at n unit scope names j name e

in_middle : {X : Type 0} (xs ys zs : List X) (j : ℕ) (d : X) → slice_get ys j ≡ Some d → slice_get ((xs ++ ys) ++ zs) (length xs + j) ≡ Some d
in_middle [] ys zs j d e = let same : 0 + j ≡ j = omega arith in ap (slice_get (ys ++ zs)) same ∙ got_front ys zs j d e
in_middle (x ∷ xs) ys zs j d e =
    let same : suc (length xs) + j ≡ suc (length xs + j) = omega arith in ap (slice_get (x ∷ ((xs ++ ys) ++ zs))) same ∙ in_middle xs ys zs j d e

-- ---- lists that grow

pub grown_size : {X : Type 0} (g : ℕ → List X) (f : ℕ → X) → g 0 ≡ [] → ((n : ℕ) → g (suc n) ≡ g n ++ f n ∷ []) → (m : ℕ) → length (g m) ≡ m
grown_size g f e h zero = ap length e
grown_size g f e h (suc m) = let before : length (g m) ≡ m = grown_size g f e h m in ap length (h m) ∙ length-append (g m) (f m ∷ []) ∙ omega (arith, before)

pub grown : {X : Type 0} (g : ℕ → List X) (f : ℕ → X) → g 0 ≡ [] → ((n : ℕ) → g (suc n) ≡ g n ++ f n ∷ []) → (m n : ℕ) → n < m → slice_get (g m) n ≡ Some (f n)
grown g f e h zero n l = absurd (omega (arith, l))
grown g f e h (suc m) n l =
    let size : length (g m) ≡ m = grown_size g f e h m in
    ap (λ (xs : List _). slice_get xs n) (h m) ∙ elim (cases_lt n m) [
      | inl less ↦ get_before (g m) (f m) n (omega (arith, less, size)) ∙ grown g f e h m n less
      | inr more ↦
          (let same : n ≡ m = omega (arith, l, more) in
          ap (slice_get (g m ++ f m ∷ [])) (same ∙ sym size) ∙ get_last (g m) (f m) ∙ ap (λ (k : ℕ). Some (f k)) (sym same))
    ]

pub none_declared : (nodes : List Node) (rounds : List Round) (ds : List Declared) → meant.declared_to nodes rounds ds 0 ≡ []
unfolding meant.declared_to
none_declared nodes rounds ds = refl

pub more_declared : (nodes : List Node) (rounds : List Round) (ds : List Declared) (p : ℕ) → meant.declared_to nodes rounds ds (suc p) ≡ meant.declared_to nodes rounds ds p ++ meant.declared_at nodes rounds ds p (slice_get ds p) ∷ []
unfolding meant.declared_to
more_declared nodes rounds ds p = refl

none_meant : (nodes : List Node) (ds : List Declared) (declared : List Meaning) → meant.meant_to nodes ds declared 0 ≡ []
unfolding meant.meant_to
none_meant nodes ds declared = refl

more_meant : (nodes : List Node) (ds : List Declared) (declared : List Meaning) (n : ℕ) → meant.meant_to nodes ds declared (suc n) ≡ meant.meant_to nodes ds declared n ++ meant.meant_at nodes ds declared n ∷ []
unfolding meant.meant_to
more_meant nodes ds declared n = refl

-- what the table of meanings has at a node
pub meaning_there : (nodes : List Node) (rounds : List Round) (ds : List Declared) (n : ℕ) → n < length nodes → slice_get (meant.meanings_of nodes rounds ds) n ≡ Some (meant.meant_at nodes ds (meant.declared_to nodes rounds ds (length ds)) n)
meaning_there nodes rounds ds n l =
    grown (meant.meant_to nodes ds (meant.declared_to nodes rounds ds (length ds))) (meant.meant_at nodes ds (meant.declared_to nodes rounds ds (length ds))) (none_meant nodes ds (meant.declared_to nodes rounds ds (length ds))) (more_meant nodes ds (meant.declared_to nodes rounds ds (length ds))) (length nodes) n l

open_same : (name : Identifier) (n : ℕ) (e d : Declared) → e.name ≡ d.name → e.unit ≡ d.unit → e.from ≡ d.from → e.to ≡ d.to → is_open name n e ≡ is_open name n d
open_same name n e d a b c f =
    ap (λ (x : Identifier). bytes_eq x name && stands_in e.unit e.from e.to n) a
    ∙ ap (λ (x : Option ℕ). bytes_eq d.name name && stands_in x e.from e.to n) b
    ∙ ap₂ (λ (x y : ℕ). bytes_eq d.name name && stands_in d.unit x y n) c f

-- a declaration in a list of which the test tells whether it is empty
unless_empty : (b : Bool) (ds : List Declared) (i : ℕ) (d : Declared) → slice_get (if b then ds else []) i ≡ Some d → (b ≡ true) × (slice_get ds i ≡ Some d)
unless_empty true ds i d e = (refl, e)
unless_empty false ds i d e = absurd (cc)

-- ---- kinds

-- which kinds have a variable that is declared at their first child
data IsOpening : NodeKind → Type 0 where
  a_set : IsOpening kind.TypeSet
  an_arm : IsOpening kind.TagArm
  the_others : IsOpening kind.Others

opening : (k child : NodeKind) → opens k child ≡ true → IsOpening k
opening kind.TypeSet child e = a_set
opening kind.TagArm child e = an_arm
opening kind.Others child e = the_others
opening _ child e = absurd (true≢false (sym e))

inner_scope : (k : NodeKind) (r : Round) (n : ℕ) (unit : Option ℕ) (names : List Identifier) (i : ℕ) (d : Declared) → slice_get (declared_as n unit (routine_scope k r) names) i ≡ Some d → (k ≡ kind.Cluster) × (slice_get (declared_as n unit (Some (r.body_first, r.body_last)) names) i ≡ Some d)
inner_scope kind.Cluster r n unit names i d e = (refl, e)
inner_scope _ r n unit names i d e = absurd (cc)

data IsDefinition : NodeKind → NodeKind → Type 0 where
  a_routine : IsDefinition kind.Module kind.Routine
  a_cluster : IsDefinition kind.Module kind.Cluster

definition : (o k : NodeKind) → is_definition o k ≡ true → IsDefinition o k
definition kind.Module kind.Routine e = a_routine
definition kind.Module kind.Cluster e = a_cluster
definition kind.Module _ e = absurd (true≢false (sym e))
definition _ k e = absurd (true≢false (sym e))

either_least : (b : Bool) (k m l : ℕ) → k + l ≤ m → k ≤ (if b then k else m)
either_least true k m l e = omega arith
either_least false k m l e = omega (arith, e)

least : (k n : ℕ) (ps : List Parameter) → k ≤ numbered k ps n
least k n [] = omega arith
least k n (p ∷ ps) = either_least (p.node == n) k (numbered (k + length p.names) ps n) (length p.names) (least (k + length p.names) n ps)

record IsModuleNamed (n : ℕ) (names : List Identifier) (d : Declared) : Type 0 where
  name : first_name names ≡ d.name
  node : d.node ≡ n
  unit : d.unit ≡ None

module_name : (n : ℕ) (names : List Identifier) (i : ℕ) (d : Declared) → slice_get (module_named n names) i ≡ Some d → IsModuleNamed n names d
module_name n [] i d e = absurd (cc)
module_name n (x ∷ names) i d e = by (is_stream x) i e
  where
    by : (b : Bool) (i : ℕ) → slice_get (if b then [] else record { name = x; node = n; from = 0; to = 4294967295; unit = None } ∷ []) i ≡ Some d → IsModuleNamed n (x ∷ names) d
    by true i e = absurd (cc)
    by false zero e =
        let same : record { name = x; node = n; from = 0; to = 4294967295; unit = None } ≡ d = same_Some (record { name = x; node = n; from = 0; to = 4294967295; unit = None }) d e in
        record { name = ap (λ (d : Declared). d.name) same; node = sym (ap (λ (d : Declared). d.node) same); unit = sym (ap (λ (d : Declared). d.unit) same) }
    by false (suc i) e = absurd (cc)

module _ (t : Text) (nodes : List Node) (rounds : List Round) (parsed : IsParsed t nodes) (are : AreRounds nodes rounds) where
  abbrev pub ds : List Declared
  ds = up_to nodes rounds (length nodes)

  module _ (few : length nodes + length (up_to nodes rounds (length nodes)) < 2 ^ 32) where
    few_ds : length ds < 2 ^ 32
    few_ds = omega (arith, few)

    abbrev count : Option ℕ → ℕ
    count unit = counted_in nodes rounds ds unit (length ds)

    abbrev number : ℕ → Declared → ℕ
    number p d = number_at nodes rounds ds p (Some d)

    abbrev IsMeant : ℕ → Declared → Type 0
    IsMeant p d = Means nodes (meant.declared_at nodes rounds ds p (Some d)) (bound_at (declared_by nodes rounds d.node) d.node d.name)

    abbrev IsGood : (n : ℕ) (node : Node) → slice_get nodes n ≡ Some node → NodeKind → ℕ → Declared → Type 0
    IsGood n node at k p d = Good t nodes rounds parsed are n node at k d.unit (count d.unit) (number p d) d.name

    put : (p : ℕ) (d : Declared) (n : ℕ) (node : Node) (at : slice_get nodes n ≡ Some node) (k : NodeKind) → d.node ≡ n → node.kind ≡ k → IsGood n node at k p d → IsMeant p d
    put p d n node at k same is good =
        subst (λ (x : ℕ). Means nodes (meant.declared_in nodes (kind_at nodes x) x d.unit (count d.unit) (number p d)) (bound_at (declared_in nodes rounds (kind_at nodes x) x) x d.name)) (sym same)
        (subst (λ (k : NodeKind). Means nodes (meant.declared_in nodes k n d.unit (count d.unit) (number p d)) (bound_at (declared_in nodes rounds k n) n d.name)) (sym (ap kind_of at ∙ is)) good)

    -- ---- variables at the first child

    first_in : (m : ℕ) (cs : List ℕ) → is_first m cs ≡ true → IsIn m cs
    first_in m [] e = absurd (true≢false (sym e))
    first_in m (c ∷ cs) e = inl (eqb-true c m e)

    count_round : (n : ℕ) (o : Option ℕ) → (round_at rounds n).unit ≡ o → count o ≡ parameter_number (parameters_round nodes o)
    count_round n None e = refl
    count_round n (Some u) e = let m = unit_is t nodes rounds parsed are n u e in count_is t nodes rounds parsed are few_ds u m.0 m.1 m.2

    count_small : (o : Option ℕ) → count o ≤ length ds
    count_small None = omega arith
    count_small (Some u) = let c = counted_is nodes rounds ds few_ds u (length ds) (omega arith) in let e : count (Some u) ≡ amount nodes rounds u (take (length ds) ds) = c.0 in let l : amount nodes rounds u (take (length ds) ds) ≤ length ds = c.1 in omega (arith, e, l)

    module _ (p m i q : ℕ) (d : Declared) (node outer : Node) (at : slice_get nodes m ≡ Some node) (outer_at : slice_get nodes q ≡ Some outer) (opened : (opens outer.kind node.kind && is_first m outer.children) ≡ true)
        (f : slice_get (declared_as q (round_at rounds m).unit (Some ((round_at rounds m).body_first, (round_at rounds m).body_last)) (variable_names outer.kind outer.names)) i ≡ Some d) where
      its : IsNamed q (round_at rounds m).unit ((round_at rounds m).body_first, (round_at rounds m).body_last) (variable_names outer.kind outer.names) i d
      its = named q (round_at rounds m).unit ((round_at rounds m).body_first, (round_at rounds m).body_last) (variable_names outer.kind outer.names) i d f

      first : is_first m outer.children ≡ true
      first = and_right (opens outer.kind node.kind) (is_first m outer.children) opened

      by_opening : (k : NodeKind) → outer.kind ≡ k → IsOpening k → IsMeant p d
      by_opening _ is a_set =
          let around : IsAround rounds q outer m = around_parent t nodes rounds parsed are m (record { parent = q; node = outer; at = outer_at; child = first_in m outer.children first }) in
          let unit : d.unit ≡ (round_at rounds q).unit = its.unit_is ∙ around.unit ∙ ap (λ (k : NodeKind). unit_in k q (round_at rounds q)) is in
          let same : count d.unit ≡ parameter_number (parameters_round nodes (round_at rounds q).unit) = ap count unit ∙ count_round q (round_at rounds q).unit refl in
          let inside : q < length nodes = slice_get_within nodes q outer outer_at in
          let small : count d.unit ≤ length ds = count_small d.unit in
          put p d q outer outer_at kind.TypeSet its.node is
          (set_variable_good t nodes rounds parsed are q outer outer_at is d.unit (count d.unit) (number p d) i d.name (sym (ap (λ (k : NodeKind). slice_get (variable_names k outer.names) i) is) ∙ its.at) same (omega (arith, inside, small, few)))
      by_opening _ is an_arm =
          put p d q outer outer_at kind.TagArm its.node is
          (arm_good t nodes rounds parsed are q outer outer_at is m first (ap is_type (ap kind_of at) ∙ sym (ap (λ (k : NodeKind). opens k node.kind) is) ∙ and_left (opens outer.kind node.kind) (is_first m outer.children) opened) d.unit (count d.unit) (number p d) i d.name
          (sym (ap (λ (k : NodeKind). slice_get (variable_names k outer.names) i) is) ∙ its.at))
      by_opening _ is the_others =
          put p d q outer outer_at kind.Others its.node is
          (others_good t nodes rounds parsed are q outer outer_at is m first (ap is_type (ap kind_of at) ∙ sym (ap (λ (k : NodeKind). opens k node.kind) is) ∙ and_left (opens outer.kind node.kind) (is_first m outer.children) opened) d.unit (count d.unit) (number p d) i d.name
          (sym (ap (λ (k : NodeKind). slice_get (variable_names k outer.names) i) is) ∙ its.at))

      pub opened_meant : IsMeant p d
      opened_meant = by_opening outer.kind refl (opening outer.kind node.kind (and_left (opens outer.kind node.kind) (is_first m outer.children) opened))

    variable_meant : (p m i : ℕ) (d : Declared) (node : Node) → slice_get nodes m ≡ Some node → (parent : Option ℕ) (outer : Option Node) → node_at nodes parent ≡ outer → slice_get (variable_of m node.kind (round_at rounds m) parent outer) i ≡ Some d → IsMeant p d
    variable_meant p m i d node at None outer e f = absurd (cc)
    variable_meant p m i d node at (Some q) None e f = absurd (cc)
    variable_meant p m i d node at (Some q) (Some outer) e f =
        let u = unless_empty (opens outer.kind node.kind && is_first m outer.children) (declared_as q (round_at rounds m).unit (Some ((round_at rounds m).body_first, (round_at rounds m).body_last)) (variable_names outer.kind outer.names)) i d f in
        opened_meant p m i q d node outer at e u.0 u.1

    -- ---- what a node itself declares

    inner_unit : (m : ℕ) (node : Node) → slice_get nodes m ≡ Some node → node.kind ≡ kind.Routine → outer_kind nodes rounds m ≡ kind.Cluster → (u : ℕ) × ((round_at rounds m).unit ≡ Some u)
    inner_unit m node at is outer = by (parent_of t nodes rounds parsed are 0 [] m kind.Routine (ap kind_of at ∙ is) refl)
      where
        made : (q : HasParent nodes m) → q.node.kind ≡ kind.Cluster → HasParent nodes q.parent → (u : ℕ) × ((round_at rounds m).unit ≡ Some u)
        made q cluster r =
            let a : IsAround rounds q.parent q.node m = around_parent t nodes rounds parsed are m q in
            let b : IsAround rounds r.parent r.node q.parent = around_parent t nodes rounds parsed are q.parent r in
            let is_module : r.node.kind ≡ kind.Module = same_kind kind.Module r.node.kind (module_of_cluster nodes parsed.tree r.parent r.node r.at (form_at t nodes rounds parsed are 0 [] r.parent r.node r.at) q.parent r.child (ap kind_of q.at ∙ cluster)) in
            (r.parent, a.unit ∙ ap (λ (k : NodeKind). unit_in k q.parent (round_at rounds q.parent)) cluster ∙ b.unit ∙ ap (λ (k : NodeKind). unit_in k r.parent (round_at rounds r.parent)) is_module)

        by : HasParent nodes m → (u : ℕ) × ((round_at rounds m).unit ≡ Some u)
        by q =
            let a : IsAround rounds q.parent q.node m = around_parent t nodes rounds parsed are m q in
            let cluster : q.node.kind ≡ kind.Cluster = sym (ap (kind_at_parent nodes) a.parent ∙ ap kind_of q.at) ∙ outer in
            made q cluster (parent_of t nodes rounds parsed are 0 [] q.parent kind.Cluster (ap kind_of q.at ∙ cluster) refl)

    module _ (p m i : ℕ) (d : Declared) (node : Node) (at : slice_get nodes m ≡ Some node) (other : is_parameter nodes rounds m ≡ false) where
      abbrev r : Round
      r = round_at rounds m

      abbrev outer : NodeKind
      outer = outer_kind nodes rounds m

      own_meant : (k : NodeKind) → node.kind ≡ k → slice_get (declared_as m (round_at rounds m).unit (scope_of k (outer_kind nodes rounds m) m (round_at rounds m)) (own_names k node)) i ≡ Some d → IsMeant p d
      own_meant kind.Equate is e =
          let x = named m r.unit (r.body_first, r.body_last) (equate_names node.names node.value) i d e in
          put p d m node at kind.Equate x.node is (equate_good t nodes rounds parsed are m node at is d.unit (count d.unit) (number p d) i d.name x.at)
      own_meant kind.Parm is e =
          let x = named m r.unit (r.body_first, r.body_last) node.names i d e in
          put p d m node at kind.Parm x.node is (other_parm t nodes rounds parsed are m node at d.unit (count d.unit) (number p d) d.name other
          (ap (λ (b : Bool). if b then counted_in nodes rounds ds d.unit (suc p) else 0) (ap (is_parameter nodes rounds) x.node ∙ other)))
      own_meant kind.Init is e =
          let x = named m r.unit (next m, r.body_last) node.names i d e in
          put p d m node at kind.Init x.node is (init_good t nodes rounds parsed are m node at is d.unit (count d.unit) (number p d) i d.name x.at)
      own_meant kind.Own is e =
          let x = named m r.unit (next m, r.body_last) node.names i d e in
          put p d m node at kind.Own x.node is (own_good t nodes rounds parsed are m node at is d.unit (count d.unit) (number p d) i d.name x.at)
      own_meant kind.Decl is e =
          let x = named m r.unit (decl_scope outer m r) node.names i d e in
          put p d m node at kind.Decl x.node is (decl_good t nodes rounds parsed are m node at is d.unit (count d.unit) (number p d) i d.name x.at)
      own_meant kind.Routine is e =
          let s = inner_scope outer r m r.unit (take 1 node.names) i d e in
          let x = named m r.unit (r.body_first, r.body_last) (take 1 node.names) i d s.1 in
          let u = inner_unit m node at is s.0 in
          put p d m node at kind.Routine x.node is
          (subst (λ (o : Option ℕ). Good t nodes rounds parsed are m node at kind.Routine o (count d.unit) (number p d) d.name) (sym (x.unit_is ∙ u.1))
          (inner_good t nodes rounds parsed are m node at is s.0 u.0 (count d.unit) (number p d) i d.name x.at))
      own_meant _ is e = absurd (cc)

      -- ---- modules

      by_definition : (o k : NodeKind) → outer_kind nodes rounds m ≡ o → node.kind ≡ k → IsDefinition o k → slice_get (module_named m node.names) i ≡ Some d → IsMeant p d
      by_definition _ _ outer_is is a_routine e =
          let x = module_name m node.names i d e in
          put p d m node at kind.Routine x.node is
          (subst (λ (o : Option ℕ). Good t nodes rounds parsed are m node at kind.Routine o (count d.unit) (number p d) d.name) (sym x.unit)
          (module_routine_good t nodes rounds parsed are m node at is outer_is (count d.unit) (number p d) d.name x.name))
      by_definition _ _ outer_is is a_cluster e =
          let x = module_name m node.names i d e in
          put p d m node at kind.Cluster x.node is
          (subst (λ (o : Option ℕ). Good t nodes rounds parsed are m node at kind.Cluster o (count d.unit) (number p d) d.name) (sym x.unit)
          (module_cluster_good t nodes rounds parsed are m node at is (count d.unit) (number p d) d.name x.name))

      module_meant : slice_get (module_at (outer_kind nodes rounds m) m node) i ≡ Some d → IsMeant p d
      module_meant e =
          let u = unless_empty (is_definition (outer_kind nodes rounds m) node.kind) (module_named m node.names) i d e in
          by_definition (outer_kind nodes rounds m) node.kind refl refl (definition (outer_kind nodes rounds m) node.kind u.0) u.1

    plain_meant : (p m i : ℕ) (d : Declared) (node : Node) → slice_get nodes m ≡ Some node → is_parameter nodes rounds m ≡ false → slice_get (declared_at nodes rounds m (Some node)) i ≡ Some d → IsMeant p d
    plain_meant p m i d node at other e =
        let a : List Declared = variable_of m node.kind (round_at rounds m) (round_at rounds m).parent (node_at nodes (round_at rounds m).parent) in
        let b : List Declared = own_at (outer_kind nodes rounds m) m node (round_at rounds m) in
        let c : List Declared = module_at (outer_kind nodes rounds m) m node in
        elim (split (a ++ b) c i d e) [
          | inl y ↦ elim (split a b i d y) [
            | inl x ↦ variable_meant p m i d node at (round_at rounds m).parent (node_at nodes (round_at rounds m).parent) refl x
            | inr x ↦ own_meant p m x.0 d node at other node.kind refl x.2
          ]
          | inr x ↦ module_meant p m x.0 d node at other x.2
        ]

    -- ---- parameters

    -- no declaration before it has its name and scope
    abbrev pub IsFirst : ℕ → Declared → Type 0
    IsFirst p d = (j : ℕ) (e : Declared) → j < p → slice_get ds j ≡ Some e → e.name ≡ d.name → e.unit ≡ d.unit → e.from ≡ d.from → e.to ≡ d.to → ⊥

    module _ (p m i : ℕ) (d : Declared) (node : Node) (at : slice_get nodes m ≡ Some node) (yes_it : is_parameter nodes rounds m ≡ true) where
      o : OfModule t nodes rounds parsed are m
      o = of_module t nodes rounds parsed are m yes_it

      abbrev u : ℕ
      u = o.outer.parent

      is_parm : node.kind ≡ kind.Parm
      is_parm = sym (ap kind_of at) ∙ (parm_in_module (kind_at nodes m) (kind_at_parent nodes (parent_round rounds (round_at rounds m).parent)) yes_it).0

      abbrev scope : ℕ × ℕ
      scope = ((round_at rounds m).body_first, (round_at rounds m).body_last)

      abbrev parts : NodeKind → NodeKind → Option ℕ → Option Node → List Declared
      parts k outer parent its =
          variable_of m k (round_at rounds m) parent its ++ declared_as m (round_at rounds m).unit (scope_of k outer m (round_at rounds m)) (own_names k node)
          ++ (if is_definition outer k then module_named m node.names else [])

      alone_in : (q : NodeKind) (above : Node) → above.kind ≡ q → (q ≡ kind.Routine) ⊎ (q ≡ kind.Cluster) → parts kind.Parm q (Some o.parent.parent) (Some above) ≡ declared_as m (round_at rounds m).unit (Some scope) node.names
      alone_in q above is d =
          ap (λ (k : NodeKind). (if opens k kind.Parm && is_first m above.children then declared_as o.parent.parent (round_at rounds m).unit (Some scope) (variable_names k above.names) else []) ++ declared_as m (round_at rounds m).unit (Some scope) node.names ++ (if is_definition q kind.Parm then module_named m node.names else [])) is
          ∙ closed q d
        where
          closed : (q : NodeKind) → (q ≡ kind.Routine) ⊎ (q ≡ kind.Cluster) → (if opens q kind.Parm && is_first m above.children then declared_as o.parent.parent (round_at rounds m).unit (Some scope) (variable_names q above.names) else []) ++ declared_as m (round_at rounds m).unit (Some scope) node.names ++ (if is_definition q kind.Parm then module_named m node.names else []) ≡ declared_as m (round_at rounds m).unit (Some scope) node.names
          closed q (inl e) = ap (λ (k : NodeKind). (if opens k kind.Parm && is_first m above.children then declared_as o.parent.parent (round_at rounds m).unit (Some scope) (variable_names k above.names) else []) ++ declared_as m (round_at rounds m).unit (Some scope) node.names ++ (if is_definition k kind.Parm then module_named m node.names else [])) e ∙ append-nil (declared_as m (round_at rounds m).unit (Some scope) node.names)
          closed q (inr e) = ap (λ (k : NodeKind). (if opens k kind.Parm && is_first m above.children then declared_as o.parent.parent (round_at rounds m).unit (Some scope) (variable_names k above.names) else []) ++ declared_as m (round_at rounds m).unit (Some scope) node.names ++ (if is_definition k kind.Parm then module_named m node.names else [])) e ∙ append-nil (declared_as m (round_at rounds m).unit (Some scope) node.names)

      declares : at_node nodes rounds m ≡ declared_as m (Some u) (Some scope) node.names
      declares =
          let parent : (round_at rounds m).parent ≡ Some o.parent.parent = (around_parent t nodes rounds parsed are m o.parent).parent in
          ap (declared_at nodes rounds m) at
          ∙ ap (λ (k : NodeKind). parts k (outer_kind nodes rounds m) (round_at rounds m).parent (node_at nodes (round_at rounds m).parent)) is_parm
          ∙ ap (λ (x : Option ℕ). parts kind.Parm (kind_at_parent nodes x) x (node_at nodes x)) parent
          ∙ ap (λ (x : Option Node). parts kind.Parm (kind_of x) (Some o.parent.parent) x) o.parent.at
          ∙ alone_in o.parent.node.kind o.parent.node refl o.definition
          ∙ ap (λ (x : Option ℕ). declared_as m x (Some scope) node.names) o.unit

      parm_meant : slice_get (at_node nodes rounds m) i ≡ Some d → p ≡ length (up_to nodes rounds m) + i → slice_get ds p ≡ Some d → IsFirst p d → IsMeant p d
      parm_meant e place there first =
          let x : IsNamed m (Some u) scope node.names i d = named m (Some u) scope node.names i d (sym (ap (λ (xs : List Declared). slice_get xs i) declares) ∙ e) in
          let l : p < length ds = slice_get_within ds p d there in
          let inside : i < length node.names = slice_get_within node.names i d.name x.at in
          let is : IsOf t nodes rounds parsed are u m = (yes_it, o.unit) in
          let counted_so : counted nodes rounds ds u (suc p) ≡ numbered 1 (parameters_in (item_at nodes u).module_) m + i = number_is t nodes rounds parsed are few_ds m i p u node o.outer.node scope at o.outer.at o.is_module is declares inside place l in
          let number_so : number p d ≡ counted nodes rounds ds u (suc p) =
          ap (λ (b : Bool). if b then counted_in nodes rounds ds d.unit (suc p) else 0) (ap (is_parameter nodes rounds) x.node ∙ yes_it) ∙ ap (λ (o : Option ℕ). counted_in nodes rounds ds o (suc p)) x.unit_is in
          let round_so : numbered 1 (parameters_round nodes (round_at rounds m).unit) m ≡ numbered 1 (parameters_in (item_at nodes u).module_) m = ap (λ (x : Option ℕ). numbered 1 (parameters_round nodes x) m) o.unit in
          let low : 1 ≤ numbered 1 (parameters_in (item_at nodes u).module_) m = least 1 m (parameters_in (item_at nodes u).module_) in
          put p d m node at kind.Parm x.node is_parm
          (parm_good t nodes rounds parsed are m node at is_parm d.unit (count d.unit) (number p d) i d.name yes_it x.at
          (λ j less same. before j less same x) (omega (arith, number_so, counted_so, round_so)) (λ z. omega (arith, z, number_so, counted_so, low)))
        where
          before : (j : ℕ) → j < i → slice_get node.names j ≡ Some d.name → IsNamed m (Some u) scope node.names i d → ⊥
          before j less same x =
              let rest = whole_is nodes rounds m (slice_get_within nodes m node at) in
              let here : slice_get (at_node nodes rounds m) j ≡ Some (record { name = d.name; node = m; from = scope.0; to = scope.1; unit = Some u }) = ap (λ (xs : List Declared). slice_get xs j) declares ∙ named_at m (Some u) scope node.names j d.name same in
              let at_place : slice_get ds (length (up_to nodes rounds m) + j) ≡ Some (record { name = d.name; node = m; from = scope.0; to = scope.1; unit = Some u }) =
              ap (λ (xs : List Declared). slice_get xs (length (up_to nodes rounds m) + j)) rest.1 ∙ in_middle (up_to nodes rounds m) (at_node nodes rounds m) rest.0 j (record { name = d.name; node = m; from = scope.0; to = scope.1; unit = Some u }) here in
              first (length (up_to nodes rounds m) + j) (record { name = d.name; node = m; from = scope.0; to = scope.1; unit = Some u }) (omega (arith, less, place)) at_place refl (sym x.unit_is) (sym x.from) (sym x.to)

    each_placed : (p : ℕ) (d : Declared) → slice_get ds p ≡ Some d → IsFirst p d → IsPlaced nodes rounds (length nodes) p d → IsMeant p d
    each_placed p d there first x = by (some_at nodes x.m x.before)
      where
        by : (node : Node) × (slice_get nodes x.m ≡ Some node) → IsMeant p d
        by (node, at) = elim (cases_Bool (is_parameter nodes rounds x.m)) [
          | inl parm ↦ parm_meant p x.m x.i d node at parm x.at x.place there first
          | inr other ↦ plain_meant p x.m x.i d node at other (sym (ap (λ (o : Option Node). slice_get (declared_at nodes rounds x.m o) x.i) at) ∙ x.at)
        ]

    -- each declaration that can be found is what the table says
    each_meant : (p : ℕ) (d : Declared) → slice_get ds p ≡ Some d → IsFirst p d → Means nodes (meant.declared_at nodes rounds ds p (Some d)) (bound_at (scope_in nodes rounds).bindings d.node d.name)
    each_meant p d there first =
        subst (Means nodes (meant.declared_at nodes rounds ds p (Some d))) (sym (bound_is t nodes rounds parsed are d.node d.name)) (each_placed p d there first (placed nodes rounds (length nodes) p d there))

    -- ---- names

    abbrev table : List Meaning
    table = meant.declared_to nodes rounds ds (length ds)

    abbrev scope_of_file : Scope
    scope_of_file = scope_in nodes rounds

    declared_there : (m p : ℕ) → p < m → slice_get (meant.declared_to nodes rounds ds m) p ≡ Some (meant.declared_at nodes rounds ds p (slice_get ds p))
    declared_there m p l = grown (meant.declared_to nodes rounds ds) (λ p. meant.declared_at nodes rounds ds p (slice_get ds p)) (none_declared nodes rounds ds) (more_declared nodes rounds ds) m p l

    bound_meant : (n : ℕ) (name : Identifier) (o : Option ℕ) → IsBest (λ j d. is_open name n d ≡ true) ds o → Means nodes (meant.bound_to_one table o) (means.declared_at (scope_in nodes rounds) o (means.declaration_at (scope_in nodes rounds) o)).1
    bound_meant n name None best = refl
    bound_meant n name (Some p) (d, best) =
        let first : IsFirst p d = λ j e less at name_same unit_same from_same to_same.
        let under : IsUnder e j d p = best.best j e at (open_same name n e d name_same unit_same from_same to_same ∙ best.passes) in
        let after : p ≤ j = under.first (ap₂ rank_of unit_same to_same) in
        omega (arith, less, after) in
        let said : meant.bound_to_one table (Some p) ≡ meant.declared_at nodes rounds ds p (Some d) = ap meaning_in (declared_there (length ds) p (slice_get_within ds p d best.there)) ∙ ap (meant.declared_at nodes rounds ds p) best.there in
        subst (λ (m : Meaning). Means nodes m (means.declared_at (scope_in nodes rounds) (Some p) (slice_get ds p)).1) (sym said)
        (subst (λ (x : Option Declared). Means nodes (meant.declared_at nodes rounds ds p (Some d)) (means.declared_at (scope_in nodes rounds) (Some p) x).1) (sym best.there)
        (each_meant p d best.there first))

    pub name_meant : (n : ℕ) (name : Identifier) → Means nodes (meant.bound_to_one table (found ds name n)) (meaning_of (scope_in nodes rounds) n name)
    name_meant n name = bound_meant n name (found ds name n) (found_is ds name n)

    abbrev Uses : ℕ → Node → NodeKind → Type 0
    Uses n node k = (rest : List (Option ℕ)) × (if_used k (map (λ name. found ds name n) (names_in k node)) ≡ found ds (name_in k (Some node)) n ∷ rest)

    by_names : (n : ℕ) (names : List Identifier) → 1 ≤ length names → (rest : List (Option ℕ)) × (map (λ name. found ds name n) names ≡ found ds (first_name names) n ∷ rest)
    by_names n [] l = absurd (omega (arith, l))
    by_names n (x ∷ names) l = (map (λ name. found ds name n) names, refl)

    uses : (n : ℕ) (node : Node) → slice_get nodes n ≡ Some node → (k : NodeKind) → node.kind ≡ k → may_stand k node.value ≡ true → Uses n node k
    uses n node at kind.Name is may = by_names n node.names (subst (λ (k : NodeKind). least_names k ≤ length node.names) is (enough nodes parsed.forms n node at).names)
    uses n node at kind.NameT is may = by_names n node.names (subst (λ (k : NodeKind). least_names k ≤ length node.names) is (enough nodes parsed.forms n node at).names)
    uses n node at kind.Simple is may =
        let rep : bytes_eq node.value (codes "rep") ≡ true = rep_told nodes node (parsed.forms n node at) is ∙ may in
        let word : node.value ≡ codes "rep" = (bytes_eq-Decides node.value (codes "rep")).0 rep in
        ([], ap (λ (b : Bool). map (λ name. found ds name n) (if b then node.value ∷ [] else [])) rep ∙ ap (λ (x : Identifier). found ds x n ∷ []) word)
    uses n node at _ is may = absurd (true≢false (sym may))

    node_meant : (n : ℕ) (node : Node) → slice_get nodes n ≡ Some node → may_stand node.kind node.value ≡ true → Means nodes (meant.meant_at nodes ds table n) (meaning_of (scope_in nodes rounds) n (name_at nodes n))
    node_meant n node at may =
        let u = uses n node at node.kind refl may in
        let here : meant.meant_at nodes ds table n ≡ meant.bound_to_one table (found ds (name_in node.kind (Some node)) n) =
        ap (λ (x : Option Node). meant.first_of nodes ds table (if_used (kind_of x) (denotes.bound_at ds n x))) at ∙ ap (meant.first_of nodes ds table) u.1 in
        let name : name_at nodes n ≡ name_in node.kind (Some node) = ap (λ (x : Option Node). name_in (kind_of x) x) at in
        subst (λ (m : Meaning). Means nodes m (meaning_of (scope_in nodes rounds) n (name_at nodes n))) (sym here)
        (subst (λ (x : Identifier). Means nodes (meant.bound_to_one table (found ds (name_in node.kind (Some node)) n)) (meaning_of (scope_in nodes rounds) n x)) (sym name)
        (name_meant n (name_in node.kind (Some node))))

    at_meant : (n : ℕ) (its : Option Node) → slice_get nodes n ≡ its → may_name its ≡ true → Means nodes (meaning_in (slice_get (meant.meanings_of nodes rounds ds) n)) (meaning_of (scope_in nodes rounds) n (name_at nodes n))
    at_meant n None at may = absurd (true≢false (sym may))
    at_meant n (Some node) at may =
        subst (λ (m : Meaning). Means nodes m (meaning_of (scope_in nodes rounds) n (name_at nodes n)))
        (sym (ap meaning_in (meaning_there nodes rounds ds n (slice_get_within nodes n node at))))
        (node_meant n node at may)

    pub are_meanings : AreMeanings nodes (scope_in nodes rounds) (meant.meanings_of nodes rounds ds)
    are_meanings = record {
      size = grown_size (meant.meant_to nodes ds table) (meant.meant_at nodes ds table) (none_meant nodes ds table) (more_meant nodes ds table) (length nodes);
      each = λ n may. at_meant n (slice_get nodes n) refl may;
    }
