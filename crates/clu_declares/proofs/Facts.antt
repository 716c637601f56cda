-- What the routines, clusters and modules of a tree are, and what is bound below them.
use Rattle.std.proofs.Common.{◌≡◌, ◌≢◌, ◌∙◌, ◌⊎◌, ℕ, zero, suc, ◌+◌, ◌-◌, ◌<◌, ◌≤◌, ◌&&◌, Bool, true, false, if◌then◌else◌, List, [], ◌∷◌, ◌++◌, length, get_or, take, drop, Option, Some, None, slice_get, refl, ap, sym, subst, inl, inr, arith, add-one}
use Rattle.std.specs.Prelude.{AllPairs}
use Rattle.std.specs.List.{AllByRecursion}
use Rattle.std.proofs.lemmas.Bool.{true≢false, cases_Bool}
use Rattle.std.proofs.lemmas.Option.{slice_get_within}
use Rattle.clu_tree.specs.declared.node.Node.{Node}
use Rattle.clu_tree.specs.declared.node.NodeKind.{NodeKind}
use Rattle.clu_tree.specs.declared.node.NodeKind.TheVariants as kind
use Rattle.clu_tree.specs.Nodes.{IsRoot}
use Rattle.clu_parser.specs.Shape as shape
use Rattle.clu_parser.specs.Shape.{is_child, HasForm}
use Rattle.clu_parser.specs.Trees.{Text}
use Rattle.clu_syntax.specs.declared.round.Round.{Round}
use Rattle.clu_syntax.specs.Kinds.{kind_of, kind_at}
use Rattle.clu_syntax.specs.Rounds.{AreRounds, round_at, routine_in}
use Rattle.clu_syntax.specs.Splits.{is_of, run, after_run, leading, after_one, last_child}
use Rattle.clu_syntax.specs.Syntax.{Equates, Routine, Cluster, Module, a_routine, a_cluster, TypeSet}
use Rattle.clu_syntax.specs.Items.{Item, equates_at, parameters_at, routines_at, modules_at}
use Rattle.clu_syntax.specs.Nodes.{before, item_at, routine_of, cluster_of, module_of, modules_of, defined, type_set_of, file_of}
use Rattle.clu_names.specs.Scopes.{kind_at_parent}
use Rattle.clu_parts.proofs.Fitting.{AreParts, AreBefore, Stand, children_before}
use Rattle.clu_parts.proofs.Lists.{last_of}
use Rattle.clu_meaning.specs.Scoping.{is_own_of_routine, is_own_of_cluster, Bindings, of_equates, of_owns, of_routine}
use Rattle.clu_declares.specs.Declares.{IsParsed, own_variable, outer_kind, declared_by}
use Rattle.clu_declares.proofs.Around.{IsAround, around}
use Rattle.clu_declares.proofs.Below.{binds, same_kind, before_is, item_there, all_at, all_in, AreOwns}
use Rattle.clu_declares.proofs.Wholes.{whole, local_in, stand_in, form_of}
use Rattle.clu_declares.proofs.IfWhole.{if_whole}
use Rattle.clu_declares.proofs.Tops.{routine_slots, routine_is, cluster_is, ClusterParts, set_is, ModuleParts, module_is, modules_are, arguments_of, rest_of, owns_of, cluster_rest, cluster_own, cluster_routines, AreOthers, behind_parms, behind_cluster_parms}

-- ---- lists

pub all_take : (P : ℕ → Type 0) (m : ℕ) (cs : List ℕ) → AllByRecursion P cs → AllByRecursion P (take m cs)
all_take P zero cs ps = tt
all_take P (suc m) [] ps = tt
all_take P (suc m) (c ∷ cs) ps = (ps.0, all_take P m cs ps.1)

pub all_drop : (P : ℕ → Type 0) (m : ℕ) (cs : List ℕ) → AllByRecursion P cs → AllByRecursion P (drop m cs)
all_drop P zero cs ps = ps
all_drop P (suc m) [] ps = tt
all_drop P (suc m) (c ∷ cs) ps = all_drop P m cs ps.1

all_after_one : (P : ℕ → Type 0) (nodes : List Node) (k : NodeKind) (cs : List ℕ) → AllByRecursion P cs → AllByRecursion P (after_one nodes k cs)
all_after_one P nodes k [] ps = tt
all_after_one P nodes k (c ∷ cs) ps = by (is_of k (kind_at nodes c))
  where
    by : (b : Bool) → AllByRecursion P (if b then cs else c ∷ cs)
    by true = ps.1
    by false = ps

all_last : (P : ℕ → Type 0) (xs : List ℕ) (y : ℕ) → AllByRecursion P (xs ++ y ∷ []) → P y
all_last P [] y ps = ps.0
all_last P (x ∷ xs) y ps = all_last P xs y ps.1

pub further : (n m : ℕ) (cs : List ℕ) → n ≤ m → AreBefore n cs → AreBefore m cs
further n m [] l bs = tt
further n m (c ∷ cs) l bs = let less : c < n = bs.0 in (omega (arith, less, l), further n m cs l bs.1)

-- no two are the same
abbrev pub AreApart : List ℕ → Type 0
AreApart [] = Unit {0}
AreApart (c ∷ cs) = AllByRecursion (λ (y : ℕ). c ≡ y → ⊥) cs × AreApart cs

pub apart_take : (m : ℕ) (cs : List ℕ) → AreApart cs → AreApart (take m cs)
apart_take zero cs ps = tt
apart_take (suc m) [] ps = tt
apart_take (suc m) (c ∷ cs) ps = (all_take (λ (y : ℕ). c ≡ y → ⊥) m cs ps.0, apart_take m cs ps.1)

apart_from : (c : ℕ) (ys : List ℕ) → ((j d : ℕ) → j < length ys → c ≡ get_or ys j d → ⊥) → AllByRecursion (λ (y : ℕ). c ≡ y → ⊥) ys
apart_from c [] f = tt
apart_from c (y ∷ ys) f = (f 0 0 (omega arith), apart_from c ys (λ j d l. f (suc j) d (omega (arith, l))))

pub are_apart : (cs : List ℕ) → AllPairs ◌≢◌ cs → AreApart cs
are_apart [] f = tt
are_apart (c ∷ cs) f = (apart_from c cs (λ j d l. f 0 (suc j) d (omega arith) (omega (arith, l))), are_apart cs (λ i j d l m. f (suc i) (suc j) d (omega (arith, l)) (omega (arith, m))))

-- those with which a list begins are of one kind
pub run_kinds : (nodes : List Node) (k : NodeKind) (n : ℕ) (cs : List ℕ) → AreBefore n cs → AreParts nodes (is_of k) n (run nodes k cs)
unfolding leading
run_kinds nodes k n [] l = tt
run_kinds nodes k n (c ∷ cs) l = elim (cases_Bool (is_of k (kind_at nodes c))) [
  | inl e ↦
      let counted : leading nodes k (c ∷ cs) ≡ suc (leading nodes k cs) = ap (λ (b : Bool). if b then leading nodes k cs + 1 else 0) e ∙ add-one (leading nodes k cs) in
      subst (λ (x : ℕ). AreParts nodes (is_of k) n (take x (c ∷ cs))) (sym counted) ((l.0, e), run_kinds nodes k n cs l.1)
  | inr e ↦
      let none : leading nodes k (c ∷ cs) ≡ 0 = ap (λ (b : Bool). if b then leading nodes k cs + 1 else 0) e in
      subst (λ (x : ℕ). AreParts nodes (is_of k) n (take x (c ∷ cs))) (sym none) tt
]

-- a node of a kind that is not that of a File is there
pub record There (nodes : List Node) (n : ℕ) (k : NodeKind) : Type 0 where
  pub node : Node
  pub at : slice_get nodes n ≡ Some node
  pub is : node.kind ≡ k

pub there : (nodes : List Node) (n : ℕ) (k : NodeKind) → is_of k kind.File ≡ false → kind_at nodes n ≡ k → There nodes n k
there nodes n k other e = by (slice_get nodes n) refl
  where
    same_self : (k : NodeKind) → is_of k k ≡ true
    same_self kind.File = refl
    same_self _ = refl

    by : (its : Option Node) → slice_get nodes n ≡ its → There nodes n k
    by None at = absurd (true≢false (sym (same_self k) ∙ ap (is_of k) (sym e ∙ ap kind_of at) ∙ other))
    by (Some node) at = record { node = node; at = at; is = sym (ap kind_of at) ∙ e }

file_item : (nodes : List Node) (root : Node) → slice_get nodes (length nodes - 1) ≡ Some root → file_of nodes ≡ (item_at nodes (length nodes - 1)).modules
file_item [] root e = absurd (cc)
file_item (x ∷ xs) root e = let l : length xs ≡ length (x ∷ xs) - 1 = omega arith in ap (λ (k : ℕ). (item_at (x ∷ xs) k).modules) l

modules_same : (nodes : List Node) (n : ℕ) (cs : List ℕ) → AreBefore n cs → modules_at (before n (item_at nodes)) cs ≡ modules_at (item_at nodes) cs
modules_same nodes n [] l = refl
modules_same nodes n (c ∷ cs) l = ap (λ (i : Item). i.module_ ∷ modules_at (before n (item_at nodes)) cs) (before_is nodes n c l.0) ∙ ap (λ (ms : List Module). (item_at nodes c).module_ ∷ ms) (modules_same nodes n cs l.1)

module _ (t : Text) (nodes : List Node) (rounds : List Round) (parsed : IsParsed t nodes) (are : AreRounds nodes rounds) where
  abbrev pub all : List ℕ → Bindings
  all = all_in nodes rounds

  abbrev pub top : ℕ
  top = length nodes - 1

  form_at : (n : ℕ) (node : Node) → slice_get nodes n ≡ Some node → HasForm nodes node
  form_at n node at = parsed.forms n node at

  pub around_at : (n : ℕ) (node : Node) → slice_get nodes n ≡ Some node → AllByRecursion (IsAround rounds n node) node.children
  around_at n node at = around nodes rounds n node are at (further n (length nodes) node.children (let l : n < length nodes = slice_get_within nodes n node at in omega (arith, l)) (children_before nodes parsed.tree n node at))

  pub whole_at : (n : ℕ) (node : Node) → slice_get nodes n ≡ Some node → binds node.kind ≡ true → all_at nodes rounds n ≡ declared_by nodes rounds n ++ all node.children
  whole_at n node at b = whole nodes rounds parsed.tree n node at (form_at n node at) (around_at n node at) (if_whole nodes rounds n t parsed.shape parsed.tree node at) b

  pub outer_of : (n : ℕ) (node : Node) (k : NodeKind) (c : ℕ) → slice_get nodes n ≡ Some node → node.kind ≡ k → IsAround rounds n node c → outer_kind nodes rounds c ≡ k
  outer_of n node k c at is r = ap (kind_at_parent nodes) r.parent ∙ ap kind_of at ∙ is

  -- ---- routines

  pub record RoutineIs (d : ℕ) (node : Node) : Type 0 where
    pub itself : (item_at nodes d).routine.node ≡ d
    pub bound : of_routine (item_at nodes d).routine ≡ all node.children
    pub parameters : (item_at nodes d).routine.parameters ≡ parameters_at (before d (item_at nodes)) (run nodes kind.Parm node.children)
    pub others : AreOthers nodes rounds d kind.Parm (after_run nodes kind.Parm node.children)

  own_in : (d : ℕ) (node : Node) → node.kind ≡ kind.Routine → (cs : List ℕ) → AllByRecursion (IsAround rounds d node) cs → AreOwns nodes rounds d is_own_of_routine cs
  own_in d node is [] rs = tt
  own_in d node is (c ∷ cs) rs = (ap own_variable (rs.0.routine ∙ ap (λ (k : NodeKind). routine_in k d (round_at rounds d)) is), own_in d node is cs rs.1)

  pub routine_at : (d : ℕ) (node : Node) → slice_get nodes d ≡ Some node → node.kind ≡ kind.Routine → RoutineIs d node
  routine_at d node at is =
      let its : (item_at nodes d).routine ≡ routine_of (before d (item_at nodes)) nodes d node kind.Routine = ap (λ (i : Item). i.routine) (item_there nodes d node at) ∙ ap (routine_of (before d (item_at nodes)) nodes d node) is in
      let rs : AllByRecursion (IsAround rounds d node) node.children = around_at d node at in
      let parms_behind : AllByRecursion (IsAround rounds d node) (after_run nodes kind.Parm node.children) = all_drop (IsAround rounds d node) (leading nodes kind.Parm node.children) node.children rs in
      let arguments : AllByRecursion (IsAround rounds d node) (arguments_of nodes rounds d node.children) = all_take (IsAround rounds d node) (leading nodes kind.Decl (after_run nodes kind.Parm node.children)) (after_run nodes kind.Parm node.children) parms_behind in
      let rest : AllByRecursion (IsAround rounds d node) (rest_of nodes rounds d node.children) = all_drop (IsAround rounds d node) (leading nodes kind.Decl (after_run nodes kind.Parm node.children)) (after_run nodes kind.Parm node.children) parms_behind in
      let body : List ℕ = after_one nodes kind.Where (after_one nodes kind.Signals (after_one nodes kind.Results (rest_of nodes rounds d node.children))) in
      let in_body : AllByRecursion (IsAround rounds d node) (after_one nodes kind.Where (after_one nodes kind.Signals (after_one nodes kind.Results (rest_of nodes rounds d node.children)))) =
      all_after_one (IsAround rounds d node) nodes kind.Where (after_one nodes kind.Signals (after_one nodes kind.Results (rest_of nodes rounds d node.children)))
      (all_after_one (IsAround rounds d node) nodes kind.Signals (after_one nodes kind.Results (rest_of nodes rounds d node.children))
      (all_after_one (IsAround rounds d node) nodes kind.Results (rest_of nodes rounds d node.children) rest)) in
      let owns : AllByRecursion (IsAround rounds d node) (owns_of nodes rounds d node.children) =
      all_take (IsAround rounds d node) (leading nodes kind.Own (after_run nodes kind.Equate body)) (after_run nodes kind.Equate body) (all_drop (IsAround rounds d node) (leading nodes kind.Equate body) body in_body) in
      let made = routine_is nodes rounds d node node.children in
      record {
        itself = ap (λ (r : Routine). r.node) its;
        bound =
            ap of_routine its
            ∙ made (stands d node at is)
            (local_in nodes rounds parsed.tree d node at (form_at d node at) rs kind.Routine (λ r. refl) is (arguments_of nodes rounds d node.children) arguments)
            (own_in d node is (owns_of nodes rounds d node.children) owns);
        parameters = ap (λ (r : Routine). r.parameters) its;
        others = behind_parms nodes rounds d node.children (stands d node at is);
      }
    where
      stands : (d : ℕ) (node : Node) → slice_get nodes d ≡ Some node → node.kind ≡ kind.Routine → Stand nodes d routine_slots node.children
      stands d node at is = elim (form_of nodes rounds parsed.tree d node at (form_at d node at) (around_at d node at) kind.Routine is) [
        | inl e ↦ stand_in nodes rounds parsed.tree d node at (form_at d node at) (around_at d node at) _ e
        | inr (inl e) ↦ stand_in nodes rounds parsed.tree d node at (form_at d node at) (around_at d node at) _ e
        | inr (inr never) ↦ absurd never
      ]

  -- ---- clusters, which stand in no routine

  pub record ClusterIs (d : ℕ) (node : Node) : Type 0 where
    pub itself : (item_at nodes d).cluster.node ≡ d
    pub bound : of_equates (item_at nodes d).cluster.equates ++ of_owns is_own_of_cluster (item_at nodes d).cluster.owns ≡ all node.children
    pub parameters : (item_at nodes d).cluster.parameters ≡ parameters_at (before d (item_at nodes)) (run nodes kind.Parm node.children)
    pub routines : (item_at nodes d).cluster.routines ≡ routines_at (before d (item_at nodes)) (cluster_routines nodes rounds d node.children)
    pub parts : ClusterParts nodes rounds d node.children
    pub others : AreOthers nodes rounds d kind.Parm (after_run nodes kind.Parm node.children)

  outer_own_in : (d : ℕ) (node : Node) → node.kind ≡ kind.Cluster → (round_at rounds d).routine ≡ None → (cs : List ℕ) → AllByRecursion (IsAround rounds d node) cs → AreOwns nodes rounds d is_own_of_cluster cs
  outer_own_in d node is none [] rs = tt
  outer_own_in d node is none (c ∷ cs) rs = (ap own_variable (rs.0.routine ∙ ap (λ (k : NodeKind). routine_in k d (round_at rounds d)) is ∙ none), outer_own_in d node is none cs rs.1)

  pub cluster_at : (d : ℕ) (node : Node) → slice_get nodes d ≡ Some node → node.kind ≡ kind.Cluster → (round_at rounds d).routine ≡ None → ClusterIs d node
  cluster_at d node at is none =
      let its : (item_at nodes d).cluster ≡ cluster_of (before d (item_at nodes)) nodes d node kind.Cluster = ap (λ (i : Item). i.cluster) (item_there nodes d node at) ∙ ap (cluster_of (before d (item_at nodes)) nodes d node) is in
      let rs : AllByRecursion (IsAround rounds d node) node.children = around_at d node at in
      let rest : AllByRecursion (IsAround rounds d node) (cluster_rest nodes rounds d node.children) = all_after_one (IsAround rounds d node) nodes kind.Where (after_run nodes kind.Parm node.children) (all_drop (IsAround rounds d node) (leading nodes kind.Parm node.children) node.children rs) in
      let owns : AllByRecursion (IsAround rounds d node) (cluster_own nodes rounds d node.children) =
      all_take (IsAround rounds d node) (leading nodes kind.Own (after_run nodes kind.Equate (cluster_rest nodes rounds d node.children))) (after_run nodes kind.Equate (cluster_rest nodes rounds d node.children))
      (all_drop (IsAround rounds d node) (leading nodes kind.Equate (cluster_rest nodes rounds d node.children)) (cluster_rest nodes rounds d node.children) rest) in
      let parts : ClusterParts nodes rounds d node.children = elim (form_of nodes rounds parsed.tree d node at (form_at d node at) rs kind.Cluster is) [
        | inl e ↦ cluster_is nodes rounds d node.children (stand_in nodes rounds parsed.tree d node at (form_at d node at) rs _ e) (outer_own_in d node is none (cluster_own nodes rounds d node.children) owns)
        | inr never ↦ absurd never
      ] in
      record {
        itself = ap (λ (r : Cluster). r.node) its;
        bound = ap (λ (r : Cluster). of_equates r.equates ++ of_owns is_own_of_cluster r.owns) its ∙ parts.bound;
        parameters = ap (λ (r : Cluster). r.parameters) its;
        routines = ap (λ (r : Cluster). r.routines) its;
        parts = parts;
        others = elim (form_of nodes rounds parsed.tree d node at (form_at d node at) rs kind.Cluster is) [
          | inl e ↦ behind_cluster_parms nodes rounds d node.children (stand_in nodes rounds parsed.tree d node at (form_at d node at) rs _ e)
          | inr never ↦ absurd never
        ];
      }

  pub around_routines : (d : ℕ) (node : Node) → slice_get nodes d ≡ Some node → AllByRecursion (IsAround rounds d node) (cluster_routines nodes rounds d node.children)
  around_routines d node at =
      let rest : List ℕ = after_run nodes kind.Equate (cluster_rest nodes rounds d node.children) in
      let behind : AllByRecursion (IsAround rounds d node) (after_run nodes kind.Own (after_run nodes kind.Equate (cluster_rest nodes rounds d node.children))) =
      all_drop (IsAround rounds d node) (leading nodes kind.Own rest) rest
      (all_drop (IsAround rounds d node) (leading nodes kind.Equate (cluster_rest nodes rounds d node.children)) (cluster_rest nodes rounds d node.children)
      (all_after_one (IsAround rounds d node) nodes kind.Where (after_run nodes kind.Parm node.children) (all_drop (IsAround rounds d node) (leading nodes kind.Parm node.children) node.children (around_at d node at)))) in
      all_take (IsAround rounds d node) (leading nodes kind.Routine (after_run nodes kind.Own rest)) (after_run nodes kind.Own rest) behind

  -- ---- type sets

  pub set_bound : (n : ℕ) (node : Node) → slice_get nodes n ≡ Some node → node.kind ≡ kind.TypeSet → (es : Equates) → (item_at nodes n).type_set ≡ type_set_of (before n (item_at nodes)) nodes n node kind.TypeSet → es ≡ equates_at (before n (item_at nodes)) (run nodes kind.Equate (after_run nodes kind.Oper node.children)) → of_equates es ≡ all node.children
  set_bound n node at is es its e = elim (form_of nodes rounds parsed.tree n node at (form_at n node at) (around_at n node at) kind.TypeSet is) [
    | inl form ↦ ap of_equates e ∙ set_is nodes rounds n node.children (stand_in nodes rounds parsed.tree n node at (form_at n node at) (around_at n node at) _ form)
    | inr never ↦ absurd never
  ]

  -- ---- modules

  abbrev Defines : ℕ → Equates → ℕ → Type 0
  Defines c es last =
      ((kind_at nodes last ≡ kind.Routine) × ((item_at nodes c).module_ ≡ a_routine c es (item_at nodes last).routine))
      ⊎ ((kind_at nodes last ≡ kind.Cluster) × ((item_at nodes c).module_ ≡ a_cluster c es (item_at nodes last).cluster))

  pub record ModuleIs (c : ℕ) (node : Node) : Type 0 where
    pub last : ℕ
    pub is_last : (run nodes kind.Equate node.children ++ last ∷ []) ≡ node.children
    pub round : IsAround rounds c node last
    pub equates : Equates
    pub bound : of_equates equates ≡ all node.children
    pub defines : Defines c equates last

  one_routine : (j : NodeKind) → is_child (shape.one kind.Routine) j ≡ is_of kind.Routine j
  one_routine kind.File = refl
  one_routine _ = refl

  one_cluster : (j : NodeKind) → is_child (shape.one kind.Cluster) j ≡ is_of kind.Cluster j
  one_cluster kind.File = refl
  one_cluster _ = refl

  equate_routine : (j : NodeKind) → (is_of kind.Equate j && is_child (shape.one kind.Routine) j) ≡ false
  equate_routine kind.File = refl
  equate_routine _ = refl

  equate_cluster : (j : NodeKind) → (is_of kind.Equate j && is_child (shape.one kind.Cluster) j) ≡ false
  equate_cluster kind.File = refl
  equate_cluster _ = refl

  plain_routine : (j : NodeKind) → (is_child (shape.one kind.Routine) j && binds j) ≡ false
  plain_routine kind.File = refl
  plain_routine _ = refl

  plain_cluster : (j : NodeKind) → (is_child (shape.one kind.Cluster) j && binds j) ≡ false
  plain_cluster kind.File = refl
  plain_cluster _ = refl

  module _ (c : ℕ) (node : Node) (at : slice_get nodes c ≡ Some node) (is : node.kind ≡ kind.Module) where
    abbrev items : ℕ → Item
    items = before c (item_at nodes)

    its : (item_at nodes c).module_ ≡ defined items nodes c (run nodes kind.Equate node.children) (kind_at nodes (last_child node)) (last_child node)
    its = ap (λ (i : Item). i.module_) (item_there nodes c node at) ∙ ap (module_of items nodes c node) is

    last_is : (xs : List ℕ) (d : ℕ) → node.children ≡ xs ++ d ∷ [] → last_child node ≡ d
    last_is xs d e = ap (λ (cs : List ℕ). get_or cs (length cs - 1) 0) e ∙ last_of xs d

    round_last : (xs : List ℕ) (d : ℕ) → node.children ≡ xs ++ d ∷ [] → IsAround rounds c node d
    round_last xs d e = all_last (IsAround rounds c node) xs d (subst (AllByRecursion (IsAround rounds c node)) e (around_at c node at))

    by_routine : ModuleParts nodes rounds c (is_child (shape.one kind.Routine)) node.children → ModuleIs c node
    by_routine p =
        let k : kind_at nodes p.last ≡ kind.Routine = same_kind kind.Routine (kind_at nodes p.last) (sym (one_routine (kind_at nodes p.last)) ∙ p.part.1) in
        let d : last_child node ≡ p.last = last_is (run nodes kind.Equate node.children) p.last p.is in
        let es : List ℕ = run nodes kind.Equate node.children in
        record {
          last = p.last;
          is_last = sym p.is;
          round = round_last (run nodes kind.Equate node.children) p.last p.is;
          equates = equates_at items (run nodes kind.Equate node.children);
          bound = p.bound;
          defines = inl (
            k,
            (its ∙ ap (λ (d : ℕ). defined items nodes c (run nodes kind.Equate node.children) (kind_at nodes d) d) d
                ∙ ap (λ (k : NodeKind). defined items nodes c (run nodes kind.Equate node.children) k p.last) k
                ∙ ap (λ (i : Item). a_routine c (equates_at items (run nodes kind.Equate node.children)) i.routine) (before_is nodes c p.last p.part.0)),
          );
        }

    by_cluster : ModuleParts nodes rounds c (is_child (shape.one kind.Cluster)) node.children → ModuleIs c node
    by_cluster p =
        let k : kind_at nodes p.last ≡ kind.Cluster = same_kind kind.Cluster (kind_at nodes p.last) (sym (one_cluster (kind_at nodes p.last)) ∙ p.part.1) in
        let d : last_child node ≡ p.last = last_is (run nodes kind.Equate node.children) p.last p.is in
        record {
          last = p.last;
          is_last = sym p.is;
          round = round_last (run nodes kind.Equate node.children) p.last p.is;
          equates = equates_at items (run nodes kind.Equate node.children);
          bound = p.bound;
          defines = inr (
            k,
            (its ∙ ap (λ (d : ℕ). defined items nodes c (run nodes kind.Equate node.children) (kind_at nodes d) d) d
                ∙ ap (λ (k : NodeKind). defined items nodes c (run nodes kind.Equate node.children) k p.last) k
                ∙ ap (λ (i : Item). a_cluster c (equates_at items (run nodes kind.Equate node.children)) i.cluster) (before_is nodes c p.last p.part.0)),
          );
        }

    pub module_at : ModuleIs c node
    module_at = elim (form_of nodes rounds parsed.tree c node at (form_at c node at) (around_at c node at) kind.Module is) [
      | inl e ↦ by_routine (module_is nodes rounds c (is_child (shape.one kind.Routine)) node.children equate_routine plain_routine (stand_in nodes rounds parsed.tree c node at (form_at c node at) (around_at c node at) _ e))
      | inr (inl e) ↦ by_cluster (module_is nodes rounds c (is_child (shape.one kind.Cluster)) node.children equate_cluster plain_cluster (stand_in nodes rounds parsed.tree c node at (form_at c node at) (around_at c node at) _ e))
      | inr (inr never) ↦ absurd never
    ]

  -- ---- the file

  abbrev root : Node
  root = parsed.file.0

  pub root_parts : (AreParts nodes (is_of kind.Module) top root.children) × (file_of nodes ≡ modules_at (item_at nodes) root.children)
  root_parts = elim (form_of nodes rounds parsed.tree top root parsed.file.1 (form_at top root parsed.file.1) (around_at top root parsed.file.1) kind.File parsed.file.2) [
    | inl e ↦
        (let m = modules_are nodes rounds top root.children (stand_in nodes rounds parsed.tree top root parsed.file.1 (form_at top root parsed.file.1) (around_at top root parsed.file.1) _ e) in (
          m.0,
          file_item nodes root parsed.file.1 ∙ ap (λ (i : Item). i.modules) (item_there nodes top root parsed.file.1) ∙ ap (modules_of (before top (item_at nodes)) nodes root) parsed.file.2
              ∙ ap (modules_at (before top (item_at nodes))) m.1 ∙ modules_same nodes top root.children (children_before nodes parsed.tree top root parsed.file.1),
        ))
    | inr never ↦ absurd never
  ]

  -- nothing stands round the root
  pub top_alone : IsRoot nodes top
  top_alone i n at h =
      let less : get_or n.children h.0 top < i = parsed.tree.below i n at h.0 top h.1 in
      let l : i < length nodes = slice_get_within nodes i n at in
      omega (arith, less, l, h.2)

  pub no_routine : (c d : ℕ) (node : Node) → node.kind ≡ kind.Module → IsAround rounds top root c → IsAround rounds c node d → (round_at rounds d).routine ≡ None
  no_routine c d node is r q =
      q.routine ∙ ap (λ (k : NodeKind). routine_in k c (round_at rounds c)) is
      ∙ r.routine ∙ ap (λ (k : NodeKind). routine_in k top (round_at rounds top)) parsed.file.2
      ∙ ap (λ (r : Round). r.routine) (are.roots_are top top_alone)
