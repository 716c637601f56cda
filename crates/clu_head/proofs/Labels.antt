-- Which nodes the parts of a node are: a reading of nodes that gives each number a part of its own tells one from another.
use Rattle.std.proofs.Common.{◌≡◌, ◌∙◌, ℕ, List, [], ◌∷◌, Option, Some, None, refl, ap, sym}
use Rattle.clu_tree.specs.declared.node.Node.{Node}
use Rattle.clu_tree.specs.declared.node.NodeKind.TheVariants as kind
use Rattle.clu_syntax.specs.declared.modules.Routine.{Routine as RoutineView}
use Rattle.clu_syntax.specs.declared.modules.Cluster.{Cluster as ClusterView}
use Rattle.clu_syntax.specs.declared.declarations.TypeSet.{TypeSet as TypeSetView}
use Rattle.clu_syntax.specs.declared.declarations.Restriction.{Restriction as RestrictionView}
use Rattle.clu_syntax.specs.declared.declarations.Restriction.TheVariants as r
use Rattle.clu_syntax.specs.Kinds.{kind_of}
use Rattle.clu_syntax.specs.Splits.{one_of}
use Rattle.clu_syntax.specs.Syntax.{Identifier, Typed, Restriction, has_operations, is_in, is_in_set, TypeSet, a_type_set, Routine, Cluster}
use Rattle.clu_syntax.specs.Items.{Item, no_item, no_type, operations_at, restrictions_at}
use Rattle.clu_syntax.specs.Nodes.{item_with, restricted, type_set_of, restriction_of, routine_of, cluster_of}
use Rattle.clu_syntax.specs.Views.{routine_told, cluster_told, type_set_told, restriction_told}
use Rattle.clu_head.specs.Asking.{opers_of, opers_in, operations_by, operations_had, routine_restrictions, cluster_restrictions}

abbrev pub label : ℕ → Item
label c = record no_item {
  operation = record { node = c; names = []; type = no_type };
  restriction = is_in c [] [];
}

pub operations_named : (xs ys : List ℕ) → operations_at label xs ≡ operations_at label ys → xs ≡ ys
operations_named [] [] e = refl
operations_named [] (y ∷ ys) e = absurd (cc)
operations_named (x ∷ xs) [] e = absurd (cc)
operations_named (x ∷ xs) (y ∷ ys) e =
    let heads : (label x).operation ≡ (label y).operation = cc in
    let first : x ≡ y = ap (λ (t : Typed). t.node) heads in
    let rest : operations_at label xs ≡ operations_at label ys = cc in
    let others : xs ≡ ys = operations_named xs ys rest in
    cc

pub restrictions_named : (xs ys : List ℕ) → restrictions_at label xs ≡ restrictions_at label ys → xs ≡ ys
restrictions_named [] [] e = refl
restrictions_named [] (y ∷ ys) e = absurd (cc)
restrictions_named (x ∷ xs) [] e = absurd (cc)
restrictions_named (x ∷ xs) (y ∷ ys) e =
    let first : x ≡ y = cc in
    let rest : restrictions_at label xs ≡ restrictions_at label ys = cc in
    let others : xs ≡ ys = restrictions_named xs ys rest in
    cc

-- ---- the Opers of a TypeSet

abbrev set_typed : TypeSet → List Typed
set_typed (a_type_set n variable asked operations es) = operations

pub set_opers : (nodes : List Node) (n : ℕ) (v : TypeSetView) (its : Option Node) → kind_of its ≡ kind.TypeSet → type_set_told label n v ≡ (item_with label nodes n its).type_set → v.operations.now ≡ opers_in nodes its
set_opers nodes n v None is e = absurd (cc)
set_opers nodes n v (Some node) is e =
    let whole = e ∙ ap (type_set_of label nodes n node) is in
    operations_named v.operations.now (opers_of nodes node) (ap set_typed whole)

-- ---- those of a Restrict

abbrev restricts_typed : Restriction → List Typed
restricts_typed (has_operations n name operations) = operations
restricts_typed (is_in n a b) = []
restricts_typed (is_in_set n a set) = []

abbrev pub view_opers : RestrictionView → List ℕ
view_opers (r.Has name operations) = operations.now
view_opers (r.In name set) = []
view_opers (r.InSet name set) = []

viewed : (n : ℕ) (v : RestrictionView) → restricts_typed (restriction_told label n v) ≡ operations_at label (view_opers v)
viewed n (r.Has name operations) = refl
viewed n (r.In name set) = refl
viewed n (r.InSet name set) = refl

written : (nodes : List Node) (n : ℕ) (names : List Identifier) (set : Option ℕ) (opers : List ℕ) → restricts_typed (restricted label nodes n names set opers) ≡ operations_at label (operations_by nodes names set opers)
written nodes n [] (Some c) opers = refl
written nodes n (a ∷ []) (Some c) opers = refl
written nodes n (a ∷ b ∷ names) (Some c) opers = refl
written nodes n [] None opers = refl
written nodes n (a ∷ []) None opers = refl
written nodes n (a ∷ b ∷ names) None opers = refl

pub restrict_opers : (nodes : List Node) (n : ℕ) (v : RestrictionView) (its : Option Node) → kind_of its ≡ kind.Restrict → restriction_told label n v ≡ (item_with label nodes n its).restriction → view_opers v ≡ operations_had nodes its
restrict_opers nodes n v None is e = absurd (cc)
restrict_opers nodes n v (Some node) is e =
    let whole = e ∙ ap (restriction_of label nodes n node) is in
    operations_named (view_opers v) (operations_by nodes node.names (one_of nodes kind.TypeSet node.children) (opers_of nodes node))
    (sym (viewed n v) ∙ ap restricts_typed whole ∙ written nodes n node.names (one_of nodes kind.TypeSet node.children) (opers_of nodes node))

-- ---- the Restricts of a Routine and of a Cluster

pub routine_restricts : (nodes : List Node) (n : ℕ) (v : RoutineView) (its : Option Node) → kind_of its ≡ kind.Routine → routine_told label n v ≡ (item_with label nodes n its).routine → v.restrictions.now ≡ routine_restrictions nodes its
routine_restricts nodes n v None is e = absurd (cc)
routine_restricts nodes n v (Some node) is e =
    let whole = e ∙ ap (routine_of label nodes n node) is in
    restrictions_named v.restrictions.now (routine_restrictions nodes (Some node)) (ap (λ (r : Routine). r.restrictions) whole)

pub cluster_restricts : (nodes : List Node) (n : ℕ) (v : ClusterView) (its : Option Node) → kind_of its ≡ kind.Cluster → cluster_told label n v ≡ (item_with label nodes n its).cluster → v.restrictions.now ≡ cluster_restrictions nodes its
cluster_restricts nodes n v None is e = absurd (cc)
cluster_restricts nodes n v (Some node) is e =
    let whole = e ∙ ap (cluster_of label nodes n node) is in
    restrictions_named v.restrictions.now (cluster_restrictions nodes (Some node)) (ap (λ (r : Cluster). r.restrictions) whole)
