-- The parts of modules, and their heads while the arena grows.
use Rattle.std.proofs.Common.{◌≡◌, ◌∙◌, ℕ, ◌+◌, ◌<◌, ◌≤◌, ◌||◌, Bool, true, false, if◌then◌else◌, List, [], ◌∷◌, ◌++◌, length, take, get_or, bytes_eq, Option, Some, None, refl, ap, ap₂, sym, subst, append_assoc, take_all}
use Rattle.std.specs.Prelude.{slice_get}
use Rattle.std.specs.List.{AllZip, list_any}
use Rattle.std.proofs.lemmas.List.{append-nil, take_more}
use Rattle.std.proofs.lemmas.List.Folds.{list_any-append, list_any_at}
use Rattle.std.proofs.lemmas.Slice.Eq.{bytes_eq-Decides}
use Rattle.indexmap.specs.IndexSet.{insert_key}
use Rattle.clu_tree.specs.declared.node.Node.{Node}
use Rattle.clu_tree.specs.declared.node.NodeKind.{NodeKind}
use Rattle.clu_tree.specs.declared.node.NodeKind.TheVariants as kind
use Rattle.clu_tree.specs.Nodes.{modules}
use Rattle.clu_syntax.specs.declared.modules.Routine.{Routine as RoutineView}
use Rattle.clu_syntax.specs.declared.modules.Cluster.{Cluster as ClusterView}
use Rattle.clu_syntax.specs.declared.modules.Module.{Module as ModuleView}
use Rattle.clu_syntax.specs.declared.modules.Definition.{Definition}
use Rattle.clu_syntax.specs.declared.modules.Definition.TheVariants as defines
use Rattle.clu_syntax.specs.Kinds.{kind_of, kind_at}
use Rattle.clu_syntax.specs.Splits.{last_child, run}
use Rattle.clu_syntax.specs.Syntax.{Parameter, Routine, Cluster, Module, a_routine, a_cluster}
use Rattle.clu_syntax.specs.Items.{Item, no_item, no_routine, parameters_at, routines_at}
use Rattle.clu_syntax.specs.Nodes.{item_with, routine_of, cluster_of, module_of, defined}
use Rattle.clu_syntax.specs.Views.{routine_told, cluster_told, definition_told, module_told}
use Rattle.clu_types.specs.declared.spec.ParamKind.{ParamKind}
use Rattle.clu_types.specs.declared.term.TypeId.{TypeId}
use Rattle.clu_types.specs.declared.term.Term.{Term}
use Rattle.clu_types.specs.Arena.{Grows}
use Rattle.clu_types.proofs.Carrying.{grows_on}
use Rattle.clu_head.specs.declared.asked.Asked.{Asked}
use Rattle.clu_head.specs.declared.head.RoutineHead.{RoutineHead}
use Rattle.clu_head.specs.declared.head.HeadForm.{HeadForm}
use Rattle.clu_head.specs.declared.head.HeadForm.TheVariants as form
use Rattle.clu_head.specs.declared.head.Demanded.{Demanded}
use Rattle.clu_head.specs.declared.head.Head.{Head}
use Rattle.clu_head.specs.declared.known.Known.{Known}
use Rattle.clu_head.specs.Adding.{Adds}
use Rattle.clu_head.specs.Asked.{demands_of}
use Rattle.clu_head.specs.Listed.{listed}
use Rattle.clu_head.specs.OwnTypes.{IsOwnType}
use Rattle.clu_head.specs.ParameterKinds.{kinds_of}
use Rattle.clu_head.specs.Ranks.{before, same, demand_rank, both_asked}
use Rattle.clu_head.specs.Routines.{name_at, once_if, routines_among, listed_nodes, IsHead, AreHeads, AreListed}
use Rattle.clu_head.specs.Modules.{definition_of, definition_at, is_defined, has_head, parameters_in, routines_in, exports_in, among, AreKinds, IsRoutineForm, IsClusterForm, IsOfRoutine, IsOfCluster, IsOfDefinition, IsOfModule, AreOfModules}
use Rattle.clu_head.proofs.Adding.{adds_behind}
use Rattle.clu_head.proofs.OfRoutines as OfRoutines
use Rattle.clu_head.proofs.OfRoutines.{head_wider, heads_wider, same_grows, name_viewed}

-- ---- the parts of modules, by a reading of nodes that gives each number a part of its own

abbrev pub label : ℕ → Item
label c = record no_item {
  parameter = record { node = c; names = []; type = None };
  routine = record no_routine { node = c };
  cluster = record { node = c; name = []; closing = []; parameters = []; exports = []; restrictions = []; equates = no_item.cluster.equates; owns = []; routines = [] };
}

parameters_named : (xs ys : List ℕ) → parameters_at label xs ≡ parameters_at label ys → xs ≡ ys
parameters_named [] [] e = refl
parameters_named [] (y ∷ ys) e = absurd (cc)
parameters_named (x ∷ xs) [] e = absurd (cc)
parameters_named (x ∷ xs) (y ∷ ys) e =
    let heads : (label x).parameter ≡ (label y).parameter = cc in
    let first : x ≡ y = ap (λ (p : Parameter). p.node) heads in
    let rest : parameters_at label xs ≡ parameters_at label ys = cc in
    let others : xs ≡ ys = parameters_named xs ys rest in
    cc

routines_numbered : (xs ys : List ℕ) → routines_at label xs ≡ routines_at label ys → xs ≡ ys
routines_numbered [] [] e = refl
routines_numbered [] (y ∷ ys) e = absurd (cc)
routines_numbered (x ∷ xs) [] e = absurd (cc)
routines_numbered (x ∷ xs) (y ∷ ys) e =
    let heads : (label x).routine ≡ (label y).routine = cc in
    let first : x ≡ y = ap (λ (r : Routine). r.node) heads in
    let rest : routines_at label xs ≡ routines_at label ys = cc in
    let others : xs ≡ ys = routines_numbered xs ys rest in
    cc

pub routine_parameters : (nodes : List Node) (n : ℕ) (v : RoutineView) (its : Option Node) → kind_of its ≡ kind.Routine → routine_told label n v ≡ (item_with label nodes n its).routine → v.parameters.now ≡ parameters_in nodes its
routine_parameters nodes n v None is e = absurd (cc)
routine_parameters nodes n v (Some node) is e = parameters_named v.parameters.now (parameters_in nodes (Some node)) (ap (λ (r : Routine). r.parameters) (e ∙ ap (routine_of label nodes n node) is))

cluster_whole : (nodes : List Node) (n : ℕ) (v : ClusterView) (node : Node) → node.kind ≡ kind.Cluster → cluster_told label n v ≡ (item_with label nodes n (Some node)).cluster → cluster_told label n v ≡ cluster_of label nodes n node kind.Cluster
cluster_whole nodes n v node is e = e ∙ ap (cluster_of label nodes n node) is

pub cluster_name : (nodes : List Node) (n : ℕ) (v : ClusterView) (its : Option Node) → kind_of its ≡ kind.Cluster → cluster_told label n v ≡ (item_with label nodes n its).cluster → v.name.now ≡ name_at its
cluster_name nodes n v None is e = absurd (cc)
cluster_name nodes n v (Some node) is e = ap (λ (c : Cluster). c.name) (cluster_whole nodes n v node is e)

pub cluster_exports : (nodes : List Node) (n : ℕ) (v : ClusterView) (its : Option Node) → kind_of its ≡ kind.Cluster → cluster_told label n v ≡ (item_with label nodes n its).cluster → v.exports.now ≡ exports_in its
cluster_exports nodes n v None is e = absurd (cc)
cluster_exports nodes n v (Some node) is e = ap (λ (c : Cluster). c.exports) (cluster_whole nodes n v node is e)

pub cluster_parameters : (nodes : List Node) (n : ℕ) (v : ClusterView) (its : Option Node) → kind_of its ≡ kind.Cluster → cluster_told label n v ≡ (item_with label nodes n its).cluster → v.parameters.now ≡ parameters_in nodes its
cluster_parameters nodes n v None is e = absurd (cc)
cluster_parameters nodes n v (Some node) is e = parameters_named v.parameters.now (parameters_in nodes (Some node)) (ap (λ (c : Cluster). c.parameters) (cluster_whole nodes n v node is e))

pub cluster_routines : (nodes : List Node) (n : ℕ) (v : ClusterView) (its : Option Node) → kind_of its ≡ kind.Cluster → cluster_told label n v ≡ (item_with label nodes n its).cluster → v.routines.now ≡ routines_in nodes its
cluster_routines nodes n v None is e = absurd (cc)
cluster_routines nodes n v (Some node) is e = routines_numbered v.routines.now (routines_in nodes (Some node)) (ap (λ (c : Cluster). c.routines) (cluster_whole nodes n v node is e))

-- which node a module defines
abbrev node_of : Module → ℕ
node_of (a_routine n es r) = r.node
node_of (a_cluster n es c) = c.node

abbrev is_cluster : Module → Bool
is_cluster (a_routine n es r) = false
is_cluster (a_cluster n es c) = true

abbrev viewed : Bool → ℕ → Definition
viewed true c = defines.Cluster c
viewed false c = defines.Routine c

abbrev seen : Module → Definition
seen m = viewed (is_cluster m) (node_of m)

told_seen : (n : ℕ) (es : List ℕ) (d : Definition) → d ≡ seen (definition_told label n es d)
told_seen n es (defines.Routine c) = refl
told_seen n es (defines.Cluster c) = refl

defined_seen : (nodes : List Node) (n : ℕ) (es : List ℕ) (k : NodeKind) (c : ℕ) → seen (defined label nodes n es k c) ≡ definition_of k c
defined_seen nodes n es kind.Cluster c = refl
defined_seen nodes n es _ c = refl

pub module_defines : (nodes : List Node) (n : ℕ) (v : ModuleView) (its : Option Node) → kind_of its ≡ kind.Module → module_told label n v ≡ (item_with label nodes n its).module_ → v.definition ≡ definition_at nodes its
unfolding definition_at
module_defines nodes n v None is e = absurd (cc)
module_defines nodes n v (Some node) is e =
    told_seen n v.equates.now v.definition
    ∙ ap seen (e ∙ ap (module_of label nodes n node) is)
    ∙ defined_seen nodes n (run nodes kind.Equate node.children) (kind_at nodes (last_child node)) (last_child node)

-- ---- exported names as a set

module _ (x : List ℕ) where
  inserted_in : (ks : List (List ℕ)) (k : List ℕ) (b : Bool) → list_any (bytes_eq k) ks ≡ b → list_any (bytes_eq x) (if b then ks else ks ++ k ∷ []) ≡ (list_any (bytes_eq x) ks || bytes_eq x k)
  inserted_in ks k false is = list_any-append (bytes_eq x) ks (k ∷ []) ∙ ap (λ (b : Bool). list_any (bytes_eq x) ks || b) (or_none (bytes_eq x k))
    where
      or_none : (b : Bool) → (b || false) ≡ b
      or_none true = refl
      or_none false = refl
  inserted_in ks k true is = by (bytes_eq x k) refl
    where
      or_none : (b : Bool) → b ≡ (b || false)
      or_none true = refl
      or_none false = refl

      or_so : (b : Bool) → b ≡ true → b ≡ (b || true)
      or_so true e = refl
      or_so false e = e

      by : (b : Bool) → bytes_eq x k ≡ b → list_any (bytes_eq x) ks ≡ (list_any (bytes_eq x) ks || b)
      by false e = or_none (list_any (bytes_eq x) ks)
      by true e = or_so (list_any (bytes_eq x) ks) (ap (λ (y : List ℕ). list_any (bytes_eq y) ks) ((bytes_eq-Decides x k).0 e) ∙ is)

  pub exported_more : (ks new : List (List ℕ)) (k copy : List ℕ) → copy ≡ k → new ≡ insert_key bytes_eq ks copy → list_any (bytes_eq x) new ≡ (list_any (bytes_eq x) ks || bytes_eq x k)
  exported_more ks new k copy same is =
      ap (list_any (bytes_eq x)) is
      ∙ inserted_in ks copy (list_any (bytes_eq copy) ks) refl
      ∙ ap (λ (y : List ℕ). list_any (bytes_eq x) ks || bytes_eq x y) same

  pub exported_next : (names ks new : List (List ℕ)) (i : ℕ) (name : List ℕ) → i < length names → name ≡ get_or names i name → list_any (bytes_eq x) ks ≡ list_any (bytes_eq x) (take i names)
      → list_any (bytes_eq x) new ≡ (list_any (bytes_eq x) ks || bytes_eq x name) → list_any (bytes_eq x) new ≡ list_any (bytes_eq x) (take (i + 1) names)
  exported_next names ks new i name inside is so_far more =
      more
      ∙ ap (λ (b : Bool). b || bytes_eq x name) so_far
      ∙ ap (λ (b : Bool). list_any (bytes_eq x) (take i names) || b) (or_none (bytes_eq x name))
      ∙ sym (list_any-append (bytes_eq x) (take i names) (name ∷ []))
      ∙ ap (λ (y : List ℕ). list_any (bytes_eq x) (take i names ++ y ∷ [])) is
      ∙ ap (list_any (bytes_eq x)) (sym (take_more names i name inside))
    where
      or_none : (b : Bool) → b ≡ (b || false)
      or_none true = refl
      or_none false = refl

-- ---- heads by a set of exported names

module _ (k : Known) (asked : Asked) (own : Option TypeId) (keys names : List (List ℕ)) (same : (x : List ℕ) → list_any (bytes_eq x) keys ≡ list_any (bytes_eq x) names) (old new : List Term) where
  head_named : (n : ℕ) (h : RoutineHead) → IsHead k asked own keys old new n h → IsHead k asked own names old new n h
  head_named n h is = record {
    node = is.node;
    name = is.name;
    iter = is.iter;
    of_type = is.of_type;
    demands = is.demands;
    exported = is.exported ∙ same h.name;
  }

  heads_named : (ns : List ℕ) (hs : List RoutineHead) → AreHeads (IsHead k asked own keys old new) ns hs → AreHeads (IsHead k asked own names old new) ns hs
  heads_named [] [] are = tt
  heads_named [] (h ∷ hs) are = are
  heads_named (n ∷ ns) [] are = are
  heads_named (n ∷ ns) (h ∷ hs) are = (head_named n h are.0, heads_named ns hs are.1)

  pub listed_named : (ns : List ℕ) (hs : List RoutineHead) → AreListed k.syntax.now (IsHead k asked own keys old new) ns hs → AreListed k.syntax.now (IsHead k asked own names old new) ns hs
  unfolding AreListed
  listed_named ns hs are = (are.0, are.1, heads_named (routines_among k.syntax.now (listed_nodes are.0)) hs are.2)

  pub one_named : (n : ℕ) (h : RoutineHead) → names ≡ [] → IsHead k asked own keys old new n h → IsHead k asked own [] old new n h
  one_named n h none is = subst (λ (xs : List (List ℕ)). IsHead k asked own xs old new n h) none (head_named n h is)

-- ---- in an arena that was shorter before and is longer then

module _ (k : Known) (asked : Asked) (first old new last : List Term) (front : Grows first old) (behind : Grows new last) where
  kinds_wider : (parameters : List ℕ) (kinds : List (Option ParamKind)) → AreKinds k asked old new parameters kinds → AreKinds k asked first last parameters kinds
  unfolding AreKinds
  kinds_wider parameters kinds are = (are.0, grows_on first old are.0 front are.1, grows_on are.0 new last are.2 behind, are.3)

  routine_form_wider : (n : ℕ) (f : HeadForm) → IsRoutineForm k asked old new n f → IsRoutineForm k asked first last n f
  unfolding IsRoutineForm
  routine_form_wider n f is = (is.0, is.1, head_wider k asked None [] first old new last front behind n is.0 is.2)

  listed_wider : (own : Option TypeId) (exports : List (List ℕ)) (ns : List ℕ) (hs : List RoutineHead) → AreListed k.syntax.now (IsHead k asked own exports old new) ns hs → AreListed k.syntax.now (IsHead k asked own exports first last) ns hs
  unfolding AreListed
  listed_wider own exports ns hs are = (are.0, are.1, heads_wider k asked own exports first old new last front behind (routines_among k.syntax.now (listed_nodes are.0)) hs are.2)

  pub cluster_form_wider : (own : Option TypeId) (exports : List (List ℕ)) (routines : List ℕ) (n : ℕ) (f : HeadForm) → IsClusterForm k asked old new own exports routines n f → IsClusterForm k asked first last own exports routines n f
  unfolding IsClusterForm
  cluster_form_wider own exports routines n f is = (is.0, is.1, listed_wider own exports routines is.0 is.2)

  of_routine_wider : (n : ℕ) (h : Head) → IsOfRoutine k asked old new n h → IsOfRoutine k asked first last n h
  of_routine_wider n h is = record {
    name = is.name;
    kinds = kinds_wider (parameters_in k.syntax.now (slice_get k.syntax.now n)) h.kinds is.kinds;
    form = routine_form_wider n h.form is.form;
  }

module _ (k : Known) (asked : Asked) (first old new last : List Term) (front : Grows first old) (behind : Grows new last) where
  of_cluster_wider : (n : ℕ) (h : Head) → IsOfCluster k asked old new n h → IsOfCluster k asked first last n h
  of_cluster_wider n h is = record {
    name = is.name;
    kinds = kinds_wider k asked first old new last front behind (parameters_in k.syntax.now (slice_get k.syntax.now n)) h.kinds is.kinds;
    own = is.own;
    between = is.between;
    front = grows_on first old is.between front is.front;
    behind = grows_on is.between new last is.behind behind;
    of_own = is.of_own;
    form = cluster_form_wider k asked is.between is.between new last (same_grows k asked None [] is.between) behind is.own (exports_in (slice_get k.syntax.now n)) (routines_in k.syntax.now (slice_get k.syntax.now n)) n h.form is.form;
  }

  of_definition_wider : (d : Definition) (h : Head) → IsOfDefinition k asked old new d h → IsOfDefinition k asked first last d h
  unfolding IsOfDefinition
  of_definition_wider (defines.Routine n) h is = of_routine_wider k asked first old new last front behind n h is
  of_definition_wider (defines.Cluster n) h is = of_cluster_wider n h is

  pub of_module_wider : (n : ℕ) (h : Head) → IsOfModule k asked old new n h → IsOfModule k asked first last n h
  unfolding IsOfModule
  of_module_wider n h is = of_definition_wider (definition_at k.syntax.now (slice_get k.syntax.now n)) h is

-- ---- one after the other

among_joined : (test : ℕ → Bool) (ns : List ℕ) (n : ℕ) → among test (ns ++ n ∷ []) ≡ among test ns ++ once_if (test n) n
among_joined test [] n = append-nil (once_if (test n) n)
among_joined test (m ∷ ns) n = ap (λ (xs : List ℕ). once_if (test m) m ++ xs) (among_joined test ns n) ∙ sym (append_assoc (once_if (test m) m) (among test ns) (once_if (test n) n))

pub module_made : (P : ℕ → Head → Type 0) (n : ℕ) (b : Bool) → b ≡ true → (old new : List Head) (h : Head) → new ≡ old ++ h ∷ [] → P n h → Adds P (once_if b n) old new
unfolding Adds
module_made P n b is old new h e p = (h ∷ [], e, subst (λ (b : Bool). AllZip P (once_if b n) (h ∷ [])) (sym is) (p, tt))

pub no_module : (P : ℕ → Head → Type 0) (n : ℕ) (b : Bool) → b ≡ false → (old new : List Head) → new ≡ old → Adds P (once_if b n) old new
unfolding Adds
no_module P n b is old new e = ([], e ∙ sym (append-nil old), subst (λ (b : Bool). AllZip P (once_if b n) []) (sym is) tt)

module _ (k : Known) (asked : Asked) where
  abbrev there : ℕ → Bool
  there = has_head k.syntax.now

  pub modules_first : (ts : List Term) (hs : List Head) → hs ≡ [] → AreOfModules k asked ts ts [] hs
  unfolding AreOfModules
  modules_first ts hs is = subst (AllZip (IsOfModule k asked ts ts) []) (sym is) tt

  pub modules_next : (first old new : List Term) → Grows first old → Grows old new → (all : List ℕ) (i : ℕ) → i < length all → (hs gs : List Head)
      → AreOfModules k asked first old (take i all) hs → Adds (IsOfModule k asked old new) (once_if (there (get_or all i 0)) (get_or all i 0)) hs gs → AreOfModules k asked first new (take (i + 1) all) gs
  unfolding AreOfModules
  modules_next first old new front behind all i inside hs gs have more =
      let n : ℕ = get_or all i 0 in
      subst (λ (ns : List ℕ). AllZip (IsOfModule k asked first new) ns gs) (sym (ap (among there) (take_more all i 0 inside) ∙ among_joined there (take i all) n))
      (adds_behind (IsOfModule k asked first old) (IsOfModule k asked old new) (IsOfModule k asked first new) (of_module_wider k asked first first old new (same_grows k asked None [] first) behind)
      (of_module_wider k asked first old new new front (same_grows k asked None [] new)) (among there (take i all)) (once_if (there n) n) hs gs have more)

-- ---- heads as they are made

pub kinds_by : (k : Known) (asked : Asked) (old at new : List Term) → Grows old at → Grows at new → (parameters these : List ℕ) (kinds : List (Option ParamKind)) → parameters ≡ these → kinds ≡ kinds_of at k.values.now k.syntax.now parameters
    → AreKinds k asked old new these kinds
unfolding AreKinds
kinds_by k asked old at new front behind parameters these kinds same is = (at, front, behind, is ∙ ap (kinds_of at k.values.now k.syntax.now) same)

pub routine_formed : (k : Known) (asked : Asked) (keys none : List (List ℕ)) → ((x : List ℕ) → list_any (bytes_eq x) keys ≡ list_any (bytes_eq x) none) → none ≡ [] → (old new : List Term) (n : ℕ) (r : RoutineHead) (f : HeadForm)
    → IsHead k asked None keys old new n r → f ≡ form.Routine r → IsRoutineForm k asked old new n f
unfolding IsRoutineForm
routine_formed k asked keys none same empty old new n r f is so = (r, so, one_named k asked None keys none same old new n r empty is)

pub cluster_formed : (k : Known) (asked : Asked) (own : Option TypeId) (keys names : List (List ℕ)) → ((x : List ℕ) → list_any (bytes_eq x) keys ≡ list_any (bytes_eq x) names) → (old new : List Term) (routines : List ℕ) (n : ℕ) (ds : List Demanded) (rs : List RoutineHead) (f : HeadForm)
    → ds ≡ listed (before demand_rank) (same demand_rank) both_asked (demands_of asked.demands.items asked.starts.items n) → AreListed k.syntax.now (IsHead k asked own keys old new) routines rs → f ≡ form.Cluster ds rs
    → IsClusterForm k asked old new own names routines n f
unfolding IsClusterForm
cluster_formed k asked own keys names same old new routines n ds rs f asks are so = (rs, so ∙ ap (λ (ds : List Demanded). form.Cluster ds rs) asks, listed_named k asked own keys names same old new routines rs are)

module _ (k : Known) (asked : Asked) where
  pub of_routine_made : (old new : List Term) → Grows old new → (n : ℕ) (v : RoutineView) (h : Head) (f : HeadForm) → kind_at k.syntax.now n ≡ kind.Routine → ((items : ℕ → Item) → routine_told items n v ≡ (item_with items k.syntax.now n (slice_get k.syntax.now n)).routine)
      → h.name ≡ v.name.now → h.kinds ≡ kinds_of new k.values.now k.syntax.now v.parameters.now → h.form ≡ f → IsRoutineForm k asked old new n f → IsOfRoutine k asked old new n h
  of_routine_made old new grows n v h f is told named kinds formed so =
      let its : Option Node = slice_get k.syntax.now n in
      record {
        name = named ∙ name_viewed k.syntax.now n v its is (told OfRoutines.label);
        kinds = kinds_by k asked old new new grows (same_grows k asked None [] new) v.parameters.now (parameters_in k.syntax.now its) h.kinds (routine_parameters k.syntax.now n v its is (told label)) kinds;
        form = subst (IsRoutineForm k asked old new n) (sym formed) so;
      }

  -- where the own type is made of kinds by the arena before, and the form by that of the own type
  pub of_cluster_made : (old mid new : List Term) → Grows old mid → Grows mid new → (n : ℕ) (v : ClusterView) (own : Option TypeId) (h : Head) (f : HeadForm) → kind_at k.syntax.now n ≡ kind.Cluster
      → ((items : ℕ → Item) → cluster_told items n v ≡ (item_with items k.syntax.now n (slice_get k.syntax.now n)).cluster) → h.name ≡ v.name.now → h.kinds ≡ kinds_of old k.values.now k.syntax.now v.parameters.now → IsOwnType mid v.name.now h.kinds own
      → h.form ≡ f → IsClusterForm k asked mid new own v.exports.now v.routines.now n f → IsOfCluster k asked old new n h
  of_cluster_made old mid new front behind n v own h f is told named kinds owns formed so =
      let its : Option Node = slice_get k.syntax.now n in
      let seen = told label in
      record {
        name = named ∙ cluster_name k.syntax.now n v its is seen;
        kinds = kinds_by k asked old old new (same_grows k asked None [] old) (grows_on old mid new front behind) v.parameters.now (parameters_in k.syntax.now its) h.kinds (cluster_parameters k.syntax.now n v its is seen) kinds;
        own = own;
        between = mid;
        front = front;
        behind = behind;
        of_own = subst (λ (name : List ℕ). IsOwnType mid name h.kinds own) (sym named) owns;
        form =
            subst (IsClusterForm k asked mid new own (exports_in its) (routines_in k.syntax.now its) n) (sym formed)
            (subst (λ (exports : List (List ℕ)). IsClusterForm k asked mid new own exports (routines_in k.syntax.now its) n f) (cluster_exports k.syntax.now n v its is seen)
            (subst (λ (routines : List ℕ). IsClusterForm k asked mid new own v.exports.now routines n f) (cluster_routines k.syntax.now n v its is seen) so));
      }
