-- Each demand of a node is made at a node that stands in its clause.
use Rattle.std.proofs.Common.{◌≡◌, ◌∙◌, ◌⊎◌, inl, inr, ℕ, ◌-◌, ◌<◌, ◌≤◌, ◌&&◌, Bool, true, false, if◌then◌else◌, List, [], ◌∷◌, ◌++◌, Contains, length, get_or, slice_get, Option, Some, None, refl, sym, ap, arith}
use Rattle.std.specs.List.{AllByRecursion}
use Rattle.std.specs.Option.{option_or}
use Rattle.std.proofs.lemmas.Bool.{true≢false, cases_lt}
use Rattle.std.proofs.lemmas.List.Elements.{Contains-append_cases}
use Rattle.std.proofs.lemmas.Option.{slice_get_within}
use Rattle.clu_base.proofs.Lists.{head_or_tail, in_none}
use Rattle.clu_tree.specs.declared.node.Node.{Node}
use Rattle.clu_tree.specs.declared.node.NodeKind.{NodeKind}
use Rattle.clu_tree.specs.declared.node.NodeKind.TheVariants as kind
use Rattle.clu_tree.specs.Nodes.{IsRoot}
use Rattle.clu_parser.specs.Trees.{Text}
use Rattle.clu_parts.proofs.Fitting.{AreBefore, AreParts, children_before}
use Rattle.clu_syntax.specs.declared.round.Round.{Round}
use Rattle.clu_syntax.specs.Kinds.{kind_of, kind_at}
use Rattle.clu_syntax.specs.Rounds.{AreRounds, outside, round_at, cluster_in, routine_in}
use Rattle.clu_syntax.specs.Splits.{is_of, leading, run, after_run, parts, after_one, one_of, children_of}
use Rattle.clu_checking.specs.Files.{File, is_kind, is_kind_at, stands_in, parent, round}
use Rattle.clu_declares.specs.Declares.{IsParsed}
use Rattle.clu_declares.proofs.Around.{IsAround}
use Rattle.clu_declares.proofs.Below.{same_kind}
use Rattle.clu_declares.proofs.Facts.{all_take, all_drop, around_at, run_kinds}
use Rattle.clu_declares.proofs.Parents.{of_all, HasParent, has_parent, never_file, file_of_module, module_of_cluster}
use Rattle.clu_head.specs.declared.clauses.Asking.{Asking}
use Rattle.clu_head.specs.declared.clauses.InSet.{InSet}
use Rattle.clu_head.specs.declared.head.Demanded.{Demanded}
use Rattle.clu_head.specs.declared.restricted.Restricted.{Restricted}
use Rattle.clu_head.specs.Asked.{demands_at}
use Rattle.clu_head.specs.Asking.{opers_in, set_operations, operations_by, operations_had, had_operations, routine_restrictions, cluster_restrictions, restrictions_in, restricted_in, variable_of, asked_by_opers, asked_of_parameter, asked_by_parts, asked_by_restriction, asked_by_restrictions, asked_at, asking_node, demanded, demanded_by, names_in, demands_by, demands_by_all}
use Rattle.clu_head.specs.There.{is_there}
use Rattle.clu_passes.specs.Demands.{clause_of}

-- ---- lists

all_after_one : (P : ℕ → Type 0) (nodes : List Node) (k : NodeKind) (cs : List ℕ) → AllByRecursion P cs → AllByRecursion P (after_one nodes k cs)
all_after_one P nodes k [] ps = tt
all_after_one P nodes k (c ∷ cs) ps = by (is_of k (kind_at nodes c))
  where
    by : (b : Bool) → AllByRecursion P (if b then cs else c ∷ cs)
    by true = ps.1
    by false = ps

all_after_run : (P : ℕ → Type 0) (nodes : List Node) (k : NodeKind) (cs : List ℕ) → AllByRecursion P cs → AllByRecursion P (after_run nodes k cs)
all_after_run P nodes k cs ps = all_drop P (leading nodes k cs) cs ps

all_more : (P Q : ℕ → Type 0) → ((c : ℕ) → P c → Q c) → (cs : List ℕ) → AllByRecursion P cs → AllByRecursion Q cs
all_more P Q each [] ps = tt
all_more P Q each (c ∷ cs) ps = (each c ps.0, all_more P Q each cs ps.1)

-- a node of a kind by its place
kind_there : (nodes : List Node) (k : NodeKind) (n : ℕ) → is_there k (slice_get nodes n) ≡ true → kind_at nodes n ≡ k
kind_there nodes k n is = by (slice_get nodes n) refl is
  where
    by : (o : Option Node) → slice_get nodes n ≡ o → is_there k o ≡ true → kind_at nodes n ≡ k
    by (Some node) at is = ap kind_of at ∙ same_kind k node.kind is
    by None at is = absurd (true≢false (sym is))

module _ (t : Text) (f : File) (parsed : IsParsed t f.nodes) (are : AreRounds f.nodes f.rounds) where
  abbrev nodes : List Node
  nodes = f.nodes

  -- ---- no routine stands round a cluster

  last_is_root : (n : ℕ) → length nodes - 1 ≤ n → IsRoot nodes n
  last_is_root n l m node at child =
      let below : get_or node.children child.0 n < m = parsed.tree.below m node at child.0 n child.1 in
      let inside : m < length nodes = slice_get_within nodes m node at in
      absurd (omega (arith, below, child.2, inside, l))

  above : (n : ℕ) → (round_at f.rounds n ≡ outside) ⊎ HasParent nodes n
  above n = elim (cases_lt n (length nodes - 1)) [
    | inl less ↦ inr (has_parent nodes parsed.order n less)
    | inr more ↦ inl (are.roots_are n (last_is_root n more))
  ]

  around_of : (n : ℕ) (p : HasParent nodes n) → IsAround f.rounds p.parent p.node n
  around_of n p = of_all (IsAround f.rounds p.parent p.node) n p.node.children (around_at t nodes f.rounds parsed are p.parent p.node p.at) p.child

  abbrev Free : ℕ → Type 0
  Free n = (round_at f.rounds n).routine ≡ None

  free_outside : (n : ℕ) → round_at f.rounds n ≡ outside → Free n
  free_outside n is = ap (λ (r : Round). r.routine) is

  file_free : (n : ℕ) → kind_at nodes n ≡ kind.File → Free n
  file_free n is = elim (above n) [
    | inl out ↦ free_outside n out
    | inr p ↦ absurd (never_file nodes parsed.tree p.parent p.node p.at (parsed.forms p.parent p.node p.at) n p.child is)
  ]

  module_free : (n : ℕ) → kind_at nodes n ≡ kind.Module → Free n
  module_free n is = elim (above n) [
    | inl out ↦ free_outside n out
    | inr p ↦ (let its : p.node.kind ≡ kind.File = same_kind kind.File p.node.kind (file_of_module nodes parsed.tree p.parent p.node p.at (parsed.forms p.parent p.node p.at) n p.child is) in
        (around_of n p).routine ∙ ap (λ (k : NodeKind). routine_in k p.parent (round_at f.rounds p.parent)) its ∙ file_free p.parent (ap kind_of p.at ∙ its))
  ]

  cluster_free : (n : ℕ) → kind_at nodes n ≡ kind.Cluster → Free n
  cluster_free n is = elim (above n) [
    | inl out ↦ free_outside n out
    | inr p ↦ (let its : p.node.kind ≡ kind.Module = same_kind kind.Module p.node.kind (module_of_cluster nodes parsed.tree p.parent p.node p.at (parsed.forms p.parent p.node p.at) n p.child is) in
        (around_of n p).routine ∙ ap (λ (k : NodeKind). routine_in k p.parent (round_at f.rounds p.parent)) its ∙ module_free p.parent (ap kind_of p.at ∙ its))
  ]

  -- ---- who asks in the clause of a node

  abbrev IsIn : ℕ → Asking → Type 0
  IsIn c a = is_there kind.Oper (slice_get nodes a.oper) ≡ true → clause_of f (asking_node a.oper a.set) ≡ Some c

  abbrev AreIn : ℕ → List Asking → Type 0
  AreIn c [] = Unit {0}
  AreIn c (a ∷ as_more) = IsIn c a × AreIn c as_more

  joined : (c : ℕ) (xs ys : List Asking) → AreIn c xs → AreIn c ys → AreIn c (xs ++ ys)
  joined c [] ys p q = q
  joined c (a ∷ xs) ys p q = (p.0, joined c xs ys p.1 q)

  by_opers : (c parameter : ℕ) (set : Option InSet) (os : List ℕ) → AllByRecursion (λ (o : ℕ). is_there kind.Oper (slice_get nodes o) ≡ true → clause_of f (asking_node o set) ≡ Some c) os → AreIn c (asked_by_opers parameter set os)
  by_opers c parameter set [] all = tt
  by_opers c parameter set (o ∷ os) all = (all.0, by_opers c parameter set os all.1)

  -- an Oper of a type set
  clause_in_set : (o c : ℕ) → kind_at nodes o ≡ kind.Oper → parent f o ≡ Some c → kind_at nodes c ≡ kind.TypeSet → clause_of f o ≡ Some c
  clause_in_set o c is up set =
      let oper : is_kind f kind.Oper o ≡ true = ap (is_of kind.Oper) is in
      let inside : stands_in f kind.TypeSet o ≡ true = ap (is_kind_at f kind.TypeSet) up ∙ ap (is_of kind.TypeSet) set in
      ap (λ (b : Bool). if b then parent f o else option_or (round f o).routine (round f o).cluster) (ap (λ (b : Bool). b && stands_in f kind.TypeSet o) oper ∙ inside) ∙ up

  -- what stands in no type set
  clause_outside : (n c : ℕ) → (is_kind f kind.Oper n && stands_in f kind.TypeSet n) ≡ false → option_or (round f n).routine (round f n).cluster ≡ Some c → clause_of f n ≡ Some c
  clause_outside n c not_set is = ap (λ (b : Bool). if b then parent f n else option_or (round f n).routine (round f n).cluster) not_set ∙ is

  and_false : (a b : Bool) → b ≡ false → (a && b) ≡ false
  and_false true b e = e
  and_false false b e = refl

  -- ---- by a Restrict

  module _ (counts : List ℕ) (restricted : List Restricted) (c r : ℕ) (is : kind_at nodes r ≡ kind.Restrict) (round_is : option_or (round f r).routine (round f r).cluster ≡ Some c) where
    restrict_itself : clause_of f r ≡ Some c
    restrict_itself = clause_outside r c (ap (λ (b : Bool). b && stands_in f kind.TypeSet r) (ap (is_of kind.Oper) is)) round_is

    its_oper : (node : Node) → slice_get nodes r ≡ Some node → (o : ℕ) → IsAround f.rounds r node o → clause_of f o ≡ Some c
    its_oper node at o round_o =
        let its : node.kind ≡ kind.Restrict = sym (ap kind_of at) ∙ is in
        let up : stands_in f kind.TypeSet o ≡ false = ap (is_kind_at f kind.TypeSet) round_o.parent ∙ ap (is_of kind.TypeSet) is in
        let routine : (round f o).routine ≡ (round f r).routine = round_o.routine ∙ ap (λ (k : NodeKind). routine_in k r (round f r)) its in
        let cluster : (round f o).cluster ≡ (round f r).cluster = round_o.cluster ∙ ap (λ (k : NodeKind). cluster_in k r (round f r)) its in
        clause_outside o c (and_false (is_kind f kind.Oper o) (stands_in f kind.TypeSet o) up)
        (ap (λ (x : Option ℕ). option_or x (round f o).cluster) routine ∙ ap (λ (x : Option ℕ). option_or (round f r).routine x) cluster ∙ round_is)

    abbrev OperIn : ℕ → Type 0
    OperIn o = is_there kind.Oper (slice_get nodes o) ≡ true → clause_of f o ≡ Some c

    opers_by : (names : List (List ℕ)) (set : Option ℕ) (os : List ℕ) → AllByRecursion OperIn os → AllByRecursion OperIn (operations_by nodes names set os)
    opers_by names (Some s) os all = tt
    opers_by [] None os all = all
    opers_by (a ∷ []) None os all = all
    opers_by (a ∷ b ∷ names) None os all = tt

    opers_had : (o : Option Node) → slice_get nodes r ≡ o → AllByRecursion OperIn (operations_had nodes o)
    opers_had None at = tt
    opers_had (Some node) at =
        opers_by node.names (one_of nodes kind.TypeSet node.children) (run nodes kind.Oper node.children)
        (all_take OperIn (leading nodes kind.Oper node.children) node.children
        (all_more (IsAround f.rounds r node) OperIn (λ o round_o there. its_oper node at o round_o) node.children (around_at t nodes f.rounds parsed are r node at)))

    had : AllByRecursion OperIn (had_operations nodes (slice_get nodes r))
    unfolding had_operations
    had = by (is_there kind.Restrict (slice_get nodes r))
      where
        by : (b : Bool) → AllByRecursion OperIn (if b then operations_had nodes (slice_get nodes r) else [])
        by true = opers_had (slice_get nodes r) refl
        by false = tt

    of_number : (number : ℕ) (set : Option ℕ) → AreIn c (asked_of_parameter nodes f.rounds counts r number set)
    unfolding asked_of_parameter
    of_number number (Some s) =
        by_opers c number (Some (record { node = r; variable = variable_of counts f.rounds s })) (set_operations nodes (slice_get nodes s))
        (each (set_operations nodes (slice_get nodes s)))
      where
        each : (os : List ℕ) → AllByRecursion (λ (o : ℕ). is_there kind.Oper (slice_get nodes o) ≡ true → clause_of f r ≡ Some c) os
        each [] = tt
        each (o ∷ os) = (λ there. restrict_itself, each os)
    of_number number None = by_opers c number None (had_operations nodes (slice_get nodes r)) had

    of_parts : (number set : Option ℕ) → AreIn c (asked_by_parts nodes f.rounds counts r number set)
    of_parts (Some number) set = of_number number set
    of_parts None set = tt

    of_restriction : AreIn c (asked_by_restriction nodes f.rounds counts restricted r)
    unfolding asked_by_restriction
    of_restriction = of_parts (restricted_in (slice_get restricted r)).parameter (restricted_in (slice_get restricted r)).set

  -- ---- by a Routine, a Cluster or a TypeSet

  module _ (counts : List ℕ) (restricted : List Restricted) (c : ℕ) where
    -- it is a Restrict in the clause of c
    abbrev IsRestrict : ℕ → Type 0
    IsRestrict r = (kind_at nodes r ≡ kind.Restrict) × (option_or (round f r).routine (round f r).cluster ≡ Some c)

    of_restrictions : (rs : List ℕ) → AllByRecursion IsRestrict rs → AreIn c (asked_by_restrictions nodes f.rounds counts restricted rs)
    of_restrictions [] all = tt
    of_restrictions (r ∷ rs) all =
        joined c (asked_by_restriction nodes f.rounds counts restricted r) (asked_by_restrictions nodes f.rounds counts restricted rs)
        (of_restriction counts restricted c r all.0.0 all.0.1) (of_restrictions rs all.1)

    -- those of a Where
    abbrev IsRound : ℕ → Type 0
    IsRound n = option_or (round f n).routine (round f n).cluster ≡ Some c

    merged : (n : ℕ) (rs : List ℕ) → AreParts nodes (is_of kind.Restrict) n rs → AllByRecursion IsRound rs → AllByRecursion IsRestrict rs
    merged n [] kinds all = tt
    merged n (r ∷ rs) kinds all = ((same_kind kind.Restrict (kind_at nodes r) kinds.0.1, all.0), merged n rs kinds.1 all.1)

    restricts : (n : ℕ) (cs : List ℕ) → AreBefore n cs → AllByRecursion IsRound cs → AllByRecursion IsRestrict (run nodes kind.Restrict cs)
    restricts n cs l all = merged n (run nodes kind.Restrict cs) (run_kinds nodes kind.Restrict n cs l) (all_take IsRound (leading nodes kind.Restrict cs) cs all)

    child_round : (w : ℕ) (node : Node) → node.kind ≡ kind.Where → IsRound w → (r : ℕ) → IsAround f.rounds w node r → IsRound r
    child_round w node its round_w r round_r =
        let routine : (round f r).routine ≡ (round f w).routine = round_r.routine ∙ ap (λ (k : NodeKind). routine_in k w (round f w)) its in
        let cluster : (round f r).cluster ≡ (round f w).cluster = round_r.cluster ∙ ap (λ (k : NodeKind). cluster_in k w (round f w)) its in
        ap (λ (x : Option ℕ). option_or x (round f r).cluster) routine ∙ ap (λ (x : Option ℕ). option_or (round f w).routine x) cluster ∙ round_w

    of_where : (rest : List ℕ) → AllByRecursion IsRound rest → AllByRecursion IsRestrict (run nodes kind.Restrict (parts nodes kind.Where rest))
    of_where [] all = restricts 0 [] tt tt
    of_where (w ∷ rest) all = by (is_of kind.Where (kind_at nodes w)) refl
      where
        its_children : (o : Option Node) → slice_get nodes w ≡ o → kind_at nodes w ≡ kind.Where → AllByRecursion IsRestrict (run nodes kind.Restrict (children_of o))
        its_children None at is = restricts 0 [] tt tt
        its_children (Some node) at is =
            restricts w node.children (children_before nodes parsed.tree w node at)
            (all_more (IsAround f.rounds w node) IsRound (child_round w node (sym (ap kind_of at) ∙ is) all.0) node.children (around_at t nodes f.rounds parsed are w node at))

        by : (b : Bool) → is_of kind.Where (kind_at nodes w) ≡ b → AllByRecursion IsRestrict (run nodes kind.Restrict (if b then children_of (slice_get nodes w) else []))
        by true is = its_children (slice_get nodes w) refl (same_kind kind.Where (kind_at nodes w) is)
        by false is = restricts 0 [] tt tt

    -- ---- the children of the node

    round_routine : (node : Node) → slice_get nodes c ≡ Some node → node.kind ≡ kind.Routine → AllByRecursion IsRound node.children
    round_routine node at its =
        all_more (IsAround f.rounds c node) IsRound
        (λ n round_n. ap (λ (x : Option ℕ). option_or x (round f n).cluster) (round_n.routine ∙ ap (λ (k : NodeKind). routine_in k c (round f c)) its))
        node.children (around_at t nodes f.rounds parsed are c node at)

    round_cluster : (node : Node) → slice_get nodes c ≡ Some node → node.kind ≡ kind.Cluster → AllByRecursion IsRound node.children
    round_cluster node at its =
        all_more (IsAround f.rounds c node) IsRound
        (λ n round_n.
        ap (λ (x : Option ℕ). option_or x (round f n).cluster) (round_n.routine ∙ ap (λ (k : NodeKind). routine_in k c (round f c)) its ∙ cluster_free c (ap kind_of at ∙ its))
        ∙ round_n.cluster ∙ ap (λ (k : NodeKind). cluster_in k c (round f c)) its)
        node.children (around_at t nodes f.rounds parsed are c node at)

    by_routine : (o : Option Node) → slice_get nodes c ≡ o → is_there kind.Routine o ≡ true → AllByRecursion IsRestrict (routine_restrictions nodes o)
    by_routine None at is = absurd (true≢false (sym is))
    by_routine (Some node) at is =
        let all = round_routine node at (same_kind kind.Routine node.kind is) in
        let behind_parms = all_after_run IsRound nodes kind.Parm node.children all in
        let behind_decls = all_after_run IsRound nodes kind.Decl (after_run nodes kind.Parm node.children) behind_parms in
        let behind_results = all_after_one IsRound nodes kind.Results (after_run nodes kind.Decl (after_run nodes kind.Parm node.children)) behind_decls in
        of_where (after_one nodes kind.Signals (after_one nodes kind.Results (after_run nodes kind.Decl (after_run nodes kind.Parm node.children))))
        (all_after_one IsRound nodes kind.Signals (after_one nodes kind.Results (after_run nodes kind.Decl (after_run nodes kind.Parm node.children))) behind_results)

    by_cluster : (o : Option Node) → slice_get nodes c ≡ o → is_there kind.Cluster o ≡ true → AllByRecursion IsRestrict (cluster_restrictions nodes o)
    by_cluster None at is = absurd (true≢false (sym is))
    by_cluster (Some node) at is =
        of_where (after_run nodes kind.Parm node.children) (all_after_run IsRound nodes kind.Parm node.children (round_cluster node at (same_kind kind.Cluster node.kind is)))

    all_restricts : AllByRecursion IsRestrict (restrictions_in nodes (slice_get nodes c))
    unfolding restrictions_in
    all_restricts = by (is_there kind.Routine (slice_get nodes c)) refl (is_there kind.Cluster (slice_get nodes c)) refl
      where
        by : (a : Bool) → is_there kind.Routine (slice_get nodes c) ≡ a → (b : Bool) → is_there kind.Cluster (slice_get nodes c) ≡ b
            → AllByRecursion IsRestrict (if a then routine_restrictions nodes (slice_get nodes c) else if b then cluster_restrictions nodes (slice_get nodes c) else [])
        by true is b other = by_routine (slice_get nodes c) refl is
        by false is true other = by_cluster (slice_get nodes c) refl other
        by false is false other = tt

    -- a type set, of its own variable
    abbrev IsOwnOper : ℕ → Type 0
    IsOwnOper o = is_there kind.Oper (slice_get nodes o) ≡ true → clause_of f o ≡ Some c

    set_opers : (o : Option Node) → slice_get nodes c ≡ o → is_there kind.TypeSet o ≡ true → AllByRecursion IsOwnOper (opers_in nodes o)
    set_opers None at is = tt
    set_opers (Some node) at is =
        all_take IsOwnOper (leading nodes kind.Oper node.children) node.children
        (all_more (IsAround f.rounds c node) IsOwnOper
        (λ n round_n there. clause_in_set n c (kind_there nodes kind.Oper n there) round_n.parent (ap kind_of at ∙ same_kind kind.TypeSet node.kind is))
        node.children (around_at t nodes f.rounds parsed are c node at))

    own_opers : AllByRecursion IsOwnOper (set_operations nodes (slice_get nodes c))
    unfolding set_operations
    own_opers = by (is_there kind.TypeSet (slice_get nodes c)) refl
      where
        by : (b : Bool) → is_there kind.TypeSet (slice_get nodes c) ≡ b → AllByRecursion IsOwnOper (if b then opers_in nodes (slice_get nodes c) else [])
        by true is = set_opers (slice_get nodes c) refl is
        by false is = tt

    all_in : AreIn c (asked_at nodes f.rounds counts restricted c)
    unfolding asked_at
    all_in =
        joined c (asked_by_opers (variable_of counts f.rounds c) None (set_operations nodes (slice_get nodes c))) (asked_by_restrictions nodes f.rounds counts restricted (restrictions_in nodes (slice_get nodes c)))
        (by_opers c (variable_of counts f.rounds c) None (set_operations nodes (slice_get nodes c)) own_opers)
        (of_restrictions (restrictions_in nodes (slice_get nodes c)) all_restricts)

  -- ---- what is asked by them

  named_at : (a : Asking) (names : List (List ℕ)) (d : Demanded) → Contains (demanded_by a None names) d → d.node ≡ asking_node a.oper a.set
  unfolding demanded
  named_at a [] d h = in_none d h
  named_at a (name ∷ names) d h = elim (head_or_tail (demanded a None name) (demanded_by a None names) d h) [
    | inl is ↦ ap (λ (x : Demanded). x.node) (sym is)
    | inr there ↦ named_at a names d there
  ]

  by_one : (c : ℕ) (a : Asking) → IsIn c a → (d : Demanded) → Contains (demands_by nodes a) d → clause_of f d.node ≡ Some c
  unfolding demands_by
  by_one c a its d h = by (is_there kind.Oper (slice_get nodes a.oper)) refl h
    where
      by : (b : Bool) → is_there kind.Oper (slice_get nodes a.oper) ≡ b → Contains (if b then demanded_by a None (names_in nodes (slice_get nodes a.oper)) else []) d → clause_of f d.node ≡ Some c
      by true is there = ap (clause_of f) (named_at a (names_in nodes (slice_get nodes a.oper)) d there) ∙ its is
      by false is there = in_none d there

  by_all : (c : ℕ) (askings : List Asking) → AreIn c askings → (d : Demanded) → Contains (demands_by_all nodes askings) d → clause_of f d.node ≡ Some c
  unfolding demands_by_all
  by_all c [] all d h = in_none d h
  by_all c (a ∷ askings) all d h = elim (Contains-append_cases (demands_by nodes a) (demands_by_all nodes askings) d h) [
    | inl here ↦ by_one c a all.0 d here
    | inr there ↦ by_all c askings all.1 d there
  ]

  pub all_inside : (counts : List ℕ) (restricted : List Restricted) (c : ℕ) (d : Demanded) → Contains (demands_at nodes f.rounds counts restricted c) d → clause_of f d.node ≡ Some c
  unfolding demands_at
  all_inside counts restricted c d h = by_all c (asked_at nodes f.rounds counts restricted c) (all_in counts restricted c) d h
