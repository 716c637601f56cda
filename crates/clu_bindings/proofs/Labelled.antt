-- Which nodes the parameters of a module are: a reading of nodes that gives each number a parameter of its own tells one from
-- another.
use Rattle.std.proofs.Common.{◌≡◌, ◌∙◌, ℕ, Bool, true, false, List, [], ◌∷◌, Option, Some, None, option_map, refl, ap, ap₂, sym}
use Rattle.clu_tree.specs.declared.node.Node.{Node}
use Rattle.clu_tree.specs.declared.node.NodeKind.TheVariants as kind
use Rattle.clu_syntax.specs.declared.modules.Routine.{Routine as RoutineView}
use Rattle.clu_syntax.specs.declared.modules.Cluster.{Cluster as ClusterView}
use Rattle.clu_syntax.specs.Kinds.{kind_of}
use Rattle.clu_syntax.specs.Splits.{first_name, run}
use Rattle.clu_syntax.specs.Syntax.{Identifier, Parameter, Routine, Cluster}
use Rattle.clu_syntax.specs.Items.{Item, no_item, parameters_at}
use Rattle.clu_syntax.specs.Nodes.{item_with, routine_of, cluster_of}
use Rattle.clu_syntax.specs.Views.{routine_told, cluster_told}
use Rattle.clu_bindings.specs.Headlines.{Headline, headline_of}

abbrev pub label : ℕ → Item
label c = record no_item { parameter = record { node = c; names = []; type = None } }

parameters_named : (xs ys : List ℕ) → parameters_at label xs ≡ parameters_at label ys → xs ≡ ys
parameters_named [] [] e = refl
parameters_named [] (y ∷ ys) e = absurd (cc)
parameters_named (x ∷ xs) [] e = absurd (cc)
parameters_named (x ∷ xs) (y ∷ ys) e =
    let heads : (label x).parameter ≡ (label y).parameter = cc in
    let first : x ≡ y = ap (λ (p : Parameter). p.node) heads in
    let rest : parameters_at label xs ≡ parameters_at label ys = cc in
    let others : xs ≡ ys = parameters_named xs ys rest in
    cc

abbrev told : Bool → Identifier → List ℕ → Option Headline
told is_routine name xs = Some (record { name = name; parameters = xs; is_routine = is_routine })

headline_is : (is_routine : Bool) (name other : Identifier) (xs ys : List ℕ) → name ≡ other → xs ≡ ys → ◌≡◌ {A = Option Headline} (Some (record { name = other; parameters = ys; is_routine = is_routine })) (Some (record { name = name; parameters = xs; is_routine = is_routine }))
headline_is is_routine name other xs ys a b = ap₂ (told is_routine) (sym a) (sym b)

pub routine_headline : (nodes : List Node) (n : ℕ) (r : RoutineView) (its : Option Node) → kind_of its ≡ kind.Routine → routine_told label n r ≡ (item_with label nodes n its).routine
    → option_map (headline_of nodes true) its ≡ Some (record { name = r.name.now; parameters = r.parameters.now; is_routine = true })
routine_headline nodes n r None is e = absurd (cc)
routine_headline nodes n r (Some node) is e =
    let whole = e ∙ ap (routine_of label nodes n node) is in
    headline_is true r.name.now (first_name node.names) r.parameters.now (run nodes kind.Parm node.children) (ap (λ (r : Routine). r.name) whole)
    (parameters_named r.parameters.now (run nodes kind.Parm node.children) (ap (λ (r : Routine). r.parameters) whole))

pub cluster_headline : (nodes : List Node) (n : ℕ) (r : ClusterView) (its : Option Node) → kind_of its ≡ kind.Cluster → cluster_told label n r ≡ (item_with label nodes n its).cluster
    → option_map (headline_of nodes false) its ≡ Some (record { name = r.name.now; parameters = r.parameters.now; is_routine = false })
cluster_headline nodes n r None is e = absurd (cc)
cluster_headline nodes n r (Some node) is e =
    let whole = e ∙ ap (cluster_of label nodes n node) is in
    headline_is false r.name.now (first_name node.names) r.parameters.now (run nodes kind.Parm node.children) (ap (λ (r : Cluster). r.name) whole)
    (parameters_named r.parameters.now (run nodes kind.Parm node.children) (ap (λ (r : Cluster). r.parameters) whole))
