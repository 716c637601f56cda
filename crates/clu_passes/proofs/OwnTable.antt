-- The own type that the table has of the cluster round each node is that of the definition.
use Rattle.std.proofs.Common.{◌≡◌, ◌∙◌, ℕ, zero, suc, ◌≤◌, Bool, false, List, [], ◌∷◌, length, map, Option, Some, None, refl, ap, sym, subst, arith}
use Rattle.std.specs.Prelude.{slice_get}
use Rattle.std.proofs.lemmas.Option.{slice_get_within}
use Rattle.clu_tree.specs.declared.node.Node.{Node}
use Rattle.clu_tree.specs.declared.node.NodeKind.{NodeKind}
use Rattle.clu_tree.specs.declared.node.NodeKind.TheVariants as kind
use Rattle.clu_parser.specs.Trees.{Text}
use Rattle.clu_types.specs.declared.spec.ParamKind.{ParamKind}
use Rattle.clu_types.specs.declared.term.Term.{Term}
use Rattle.clu_types.specs.declared.term.Term.TheVariants as term
use Rattle.clu_types.specs.declared.term.TypeId.{TypeId}
use Rattle.clu_types.specs.declared.term.Actual.{Actual}
use Rattle.clu_types.specs.Arena.{IsArena}
use Rattle.clu_syntax.specs.declared.round.Round.{Round}
use Rattle.clu_syntax.specs.Items.{Item}
use Rattle.clu_syntax.specs.Nodes.{before, item_at, cluster_of}
use Rattle.clu_syntax.specs.Rounds.{AreRounds, round_at}
use Rattle.clu_syntax.specs.Splits.{first_name, run}
use Rattle.clu_syntax.specs.Syntax.{Cluster, Parameter, TypeExpression}
use Rattle.clu_meaning.specs.Scoping.{Scope, parameter_number}
use Rattle.clu_meaning.specs.Settling.{type_settled}
use Rattle.clu_checking.specs.Files.{File, cluster_at}
use Rattle.clu_checking.specs.Headings.{place_in, own_type, kind_of_type, kind_of_parameter, kinds_in, types_in, is_no_parameter_type}
use Rattle.clu_checking.specs.Specifications.{Specification}
use Rattle.clu_parts.proofs.Fitting.{children_before}
use Rattle.clu_declares.specs.Declares.{IsParsed}
use Rattle.clu_declares.proofs.Below.{item_there}
use Rattle.clu_declares.proofs.Facts.{There, there, run_kinds}
use Rattle.clu_declares.proofs.Haves.{cluster_facts}
use Rattle.clu_settle.specs.declared.value.Value.{Value}
use Rattle.clu_settle.specs.Lists.{type_id, value_of}
use Rattle.clu_head.specs.OwnTypes.{number_at, is_type_parameter, IsOwn, AreOwn, IsOwnActual, IsOwnType}
use Rattle.clu_head.specs.ParameterKinds as head
use Rattle.clu_head.specs.ParameterKinds.{kind_declared, kinds_of}
use Rattle.clu_bindings.specs.declared.file.File.{File as Read}
use Rattle.clu_bindings.specs.Headlines.{headline_of}
use Rattle.clu_bindings.specs.Inside.{cluster_type}
use Rattle.clu_bindings.specs.Inside.{own_type as own_type_of}
use Rattle.clu_bindings.specs.Owned.{IsOwned, AreOwned}
use Rattle.clu_bindings.specs.Parameters.{of_parms}
use Rattle.clu_bindings.specs.Tables.{optional}
use Rattle.clu_passes.specs.ConstantTables.{file_with, IsTypeOf}
use Rattle.clu_passes.specs.FactTables.{IsType}
use Rattle.clu_passes.proofs.ClustersRound.{stand, there_kind}
use Rattle.clu_passes.proofs.DeclaredParameters.{AreTypes, parms_types}
use Rattle.clu_passes.proofs.ModulesSaid.{kinds_by_nodes, kinds_by_types}
use Rattle.clu_passes.proofs.OwnTypes.{no_type_parameter, unless_no, own_told}

-- ---- kinds of which the same are those of types

abbrev AreAlike : List (Option ParamKind) → List (Option ParamKind) → Type 0
AreAlike (k ∷ ks) (l ∷ ls) = (is_type_parameter k ≡ is_type_parameter l) × AreAlike ks ls
AreAlike [] [] = Unit {0}
AreAlike _ _ = ⊥

own_alike : (types : List Term) (ks ls : List (Option ParamKind)) → AreAlike ks ls → (place : ℕ) (xs : List Actual) → AreOwn types place ks xs → AreOwn types place ls xs
unfolding AreOwn IsOwnActual
own_alike types [] [] alike place xs are = are
own_alike types [] (l ∷ ls) alike place xs are = absurd alike
own_alike types (k ∷ ks) [] alike place xs are = absurd alike
own_alike types (k ∷ ks) (l ∷ ls) alike place [] are = absurd are
own_alike types (k ∷ ks) (l ∷ ls) alike place (a ∷ xs) are =
    (subst (λ (b : Bool). IsOwn types b (number_at place) a) alike.0 are.0, own_alike types ks ls alike.1 (suc place) xs are.1)

no_term_parameter : (t : Term) → is_type_parameter (head.kind_of_term t) ≡ false
no_term_parameter term.Null = refl
no_term_parameter term.Bool = refl
no_term_parameter term.Int = refl
no_term_parameter term.Char = refl
no_term_parameter term.Str = refl
no_term_parameter _ = refl

no_number_parameter : (types : List Term) (o : Option TypeId) → is_type_parameter (head.kind_of_type types o) ≡ false
no_number_parameter types None = refl
no_number_parameter types (Some id) = by (slice_get types id.0)
  where
    by : (o : Option Term) → is_type_parameter (head.kind_in o) ≡ false
    by (Some t) = no_term_parameter t
    by None = refl

module _ (f : File) (seen : List Term) (values : List Value) where
  one_alike : (x : Option ℕ) (y : Option TypeExpression) → IsTypeOf f.nodes x y → is_type_parameter (kind_declared seen values x) ≡ is_type_parameter (kind_of_parameter f y)
  one_alike None None is = refl
  one_alike None (Some y) is = absurd is
  one_alike (Some c) None is = absurd is
  one_alike (Some c) (Some y) is =
      no_number_parameter seen (type_id (value_of values c))
      ∙ sym (unless_no (is_no_parameter_type f y) (kind_of_type (type_settled f.scope y)) (no_type_parameter (type_settled f.scope y)))

  kinds_alike : (xs : List (Option ℕ)) (ys : List (Option TypeExpression)) → AreTypes f.nodes xs ys → AreAlike (map (kind_declared seen values) xs) (map (kind_of_parameter f) ys)
  kinds_alike [] [] is = tt
  kinds_alike [] (y ∷ ys) is = absurd is
  kinds_alike (x ∷ xs) [] is = absurd is
  kinds_alike (x ∷ xs) (y ∷ ys) is = (one_alike x y is.0, kinds_alike xs ys is.1)

module _ (t : Text) (r : Read) (scope : Scope) (library : List Specification) (refused : List ℕ) (types : List Term) (arena : IsArena types) (parsed : IsParsed t r.syntax.now) (are : AreRounds r.syntax.now r.rounds.now)
    (owned : AreOwned types r.values.now r.syntax.now (length r.syntax.now) r.bindings.now.own.items) where
  abbrev nodes : List Node
  nodes = r.syntax.now

  abbrev f : File
  f = file_with r scope library refused

  its_name : (m : ℕ) (th : There nodes m kind.Cluster) → first_name th.node.names ≡ (item_at nodes m).cluster.name
  its_name m th = sym (ap (λ (i : Item). i.cluster.name) (item_there nodes m th.node th.at) ∙ ap (λ (k : NodeKind). (cluster_of (before m (item_at nodes)) nodes m th.node k).name) th.is)

  its_type : (types : List Term) (c : Cluster) (kinds : List (Option ParamKind)) (name : List ℕ) → name ≡ c.name → AreAlike kinds (kinds_in f c.parameters) → (found : Option TypeId) → IsOwnType types name kinds found → IsOwnType types c.name (kinds_in f c.parameters) found
  unfolding IsOwnType
  its_type types c kinds name same alike (Some id) own = (own.0, own.1 ∙ ap (λ (x : List ℕ). Some (term.Cluster x own.0)) same, own_alike types kinds (kinds_in f c.parameters) alike 0 own.0 own.2)
  its_type types c kinds name same alike None own = own

  below : (c : Cluster) (kinds : List (Option ParamKind)) (id : TypeId) → IsOwnType types c.name kinds (Some id) → suc id.0 ≤ length types
  unfolding IsOwnType
  below c kinds id own = slice_get_within types id.0 (term.Cluster c.name own.0) own.1

  told : (c : Cluster) → parameter_number c.parameters ≤ 4294967295 → (found : Option TypeId) → IsOwnType types c.name (kinds_in f c.parameters) found → IsType types found (place_in f (Some c)).home
  unfolding IsOwnType
  told c few (Some id) own = (below c (kinds_in f c.parameters) id own, sym (own_told f types arena c id few own))
  told c few None own = absurd own

  by_cluster : (m : ℕ) → There nodes m kind.Cluster → parameter_number (item_at nodes m).cluster.parameters ≤ 4294967295 → IsType types (optional (slice_get r.bindings.now.own.items m)) (place_in f (Some (item_at nodes m).cluster)).home
  by_cluster m th few = by (slice_get r.bindings.now.own.items m) refl
    where
      parameters : kinds_in f (item_at nodes m).cluster.parameters ≡ map (kind_of_parameter f) (types_in (item_at nodes m).cluster.parameters)
      parameters = kinds_by_types f (item_at nodes m).cluster.parameters

      alike : (seen : List Term) → AreAlike (kinds_of seen r.values.now nodes (run nodes kind.Parm th.node.children)) (kinds_in f (item_at nodes m).cluster.parameters)
      alike seen =
          subst (λ (ks : List (Option ParamKind)). AreAlike ks (kinds_in f (item_at nodes m).cluster.parameters)) (sym (kinds_by_nodes seen r.values.now nodes (run nodes kind.Parm th.node.children)))
          (subst (λ (ls : List (Option ParamKind)). AreAlike (map (kind_declared seen r.values.now) (of_parms nodes (run nodes kind.Parm th.node.children))) ls) (sym parameters)
          (kinds_alike f seen r.values.now (of_parms nodes (run nodes kind.Parm th.node.children)) (types_in (item_at nodes m).cluster.parameters)
          (subst (λ (ps : List Parameter). AreTypes nodes (of_parms nodes (run nodes kind.Parm th.node.children)) (types_in ps)) (sym (cluster_facts t nodes r.rounds.now parsed are 0 [] m th.node th.at th.is).parameters)
          (parms_types t nodes r.rounds.now parsed are m (run nodes kind.Parm th.node.children) (run_kinds nodes kind.Parm m th.node.children (children_before nodes parsed.tree m th.node th.at))))))

      by : (o : Option (Option TypeId)) → slice_get r.bindings.now.own.items m ≡ o → IsType types (optional o) (place_in f (Some (item_at nodes m).cluster)).home
      by None e = absurd (missing r.bindings.now.own.items m e (size m (slice_get_within nodes m th.node th.at)))
        where
          missing : (xs : List (Option TypeId)) (i : ℕ) → slice_get xs i ≡ None → suc i ≤ length xs → ⊥
          missing [] i e l = omega (arith, l)
          missing (x ∷ xs) zero e l = cc
          missing (x ∷ xs) (suc i) e l = missing xs i e (omega (arith, l))

          size : (i : ℕ) → suc i ≤ length nodes → suc i ≤ length r.bindings.now.own.items
          size i l = let s : length r.bindings.now.own.items ≡ length nodes = owned.size in omega (arith, l, s)
      by (Some found) e =
          let its : IsOwned types r.values.now nodes (headline_of nodes false th.node) found = owned.each m th.node found th.at th.is e in
          told (item_at nodes m).cluster few found (its_type types (item_at nodes m).cluster (kinds_of its.seen r.values.now nodes (run nodes kind.Parm th.node.children)) (first_name th.node.names) (its_name m th) (alike its.seen) found its.own)

  pub own_said : ((n m : ℕ) → (round_at r.rounds.now n).cluster ≡ Some m → parameter_number (item_at nodes m).cluster.parameters ≤ 4294967295) → (n : ℕ) → IsType types (own_type_of r n) (own_type f n)
  own_said few n = by (round_at r.rounds.now n).cluster refl
    where
      by : (o : Option ℕ) → (round_at r.rounds.now n).cluster ≡ o → IsType types (cluster_type r o) (place_in f (cluster_at f o)).home
      by None e = tt
      by (Some m) e = by_cluster m (there nodes m kind.Cluster refl (there_kind nodes kind.Cluster m (stand nodes r.rounds.now parsed.tree are n m e))) (few n m e)
