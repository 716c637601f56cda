-- What routines and clusters ask by their where clauses is, but for types, what the definition lists of these in the order of the
-- text.
use Rattle.std.proofs.Common.{◌≡◌, ◌∙◌, ℕ, ◌<◌, Bool, false, if◌then◌else◌, List, [], ◌∷◌, ◌++◌, map, Option, Some, None, refl, sym, ap, ap₂, append_assoc}
use Rattle.std.specs.Prelude.{slice_get}
use Rattle.std.specs.Option.{option_map}
use Rattle.std.proofs.lemmas.List.{map-append}
use Rattle.std.proofs.lemmas.Option.{none-some, same_Some}
use Rattle.clu_base.proofs.Lists.{mapped}
use Rattle.clu_tree.specs.declared.node.Node.{Node}
use Rattle.clu_tree.specs.declared.node.NodeKind.{NodeKind}
use Rattle.clu_tree.specs.declared.node.NodeKind.TheVariants as kind
use Rattle.clu_tree.specs.Nodes.{IsTree}
use Rattle.clu_parser.specs.Shape.{HaveForms}
use Rattle.clu_types.specs.CluType.{CluType}
use Rattle.clu_syntax.specs.declared.round.Round.{Round}
use Rattle.clu_syntax.specs.Kinds.{kind_at}
use Rattle.clu_syntax.specs.Splits.{is_of, one_of, run, first_name}
use Rattle.clu_syntax.specs.Syntax.{Identifier, TypeSet, Typed, Restriction, has_operations, is_in, is_in_set}
use Rattle.clu_syntax.specs.Items.{Item, operations_at, restrictions_at}
use Rattle.clu_syntax.specs.Nodes.{before, item_at, operation_of, type_set_of, restriction_of, restricted as restriction_with}
use Rattle.clu_meaning.specs.Scoping.{Meaning, is_type_parameter, Scope, meaning_of}
use Rattle.clu_meaning.specs.Settling.{type_settled}
use Rattle.clu_checking.specs.Specifications.{Demand}
use Rattle.clu_checking.specs.Files.{File, names, node_names}
use Rattle.clu_checking.specs.Equates as checking
use Rattle.clu_checking.specs.Equates.{operations_asked, asked_by, demands_in}
use Rattle.clu_declares.proofs.Below.{same_kind, before_is, item_there}
use Rattle.clu_declares.proofs.Facts.{There, there}
use Rattle.clu_settle.proofs.Shapes.{AreParts, children_before, run_parts}
use Rattle.clu_head.specs.declared.head.Demanded.{Demanded}
use Rattle.clu_head.specs.declared.restricted.Restricted.{Restricted}
use Rattle.clu_head.specs.declared.clauses.InSet.{InSet}
use Rattle.clu_head.specs.declared.clauses.Asking.{Asking}
use Rattle.clu_head.specs.Asked.{demands_at}
use Rattle.clu_head.specs.Asking.{asked_by_opers, asked_of_parameter, asked_by_parts, asked_by_restriction, asked_by_restrictions, asked_at, set_operations, had_operations, operations_by, restrictions_in, restricted_in, variable_of, demanded, demanded_by, demands_by, demands_by_all, names_in, opers_of, opers_in, operations_had}
use Rattle.clu_head.specs.There.{is_there}
use Rattle.clu_passes.specs.Told.{demand_told}
use Rattle.clu_passes.specs.Heads.{without_type, parameter_meant, set_meant, IsRestricted, AreRestricted}
use Rattle.clu_passes.proofs.ClauseParts.{routine_clause, routine_parts, routine_restricts, routine_asks, cluster_clause, cluster_parts, cluster_restricts, cluster_asks}

-- ---- lists

by_all_append : (nodes : List Node) (xs ys : List Asking) → demands_by_all nodes (xs ++ ys) ≡ demands_by_all nodes xs ++ demands_by_all nodes ys
unfolding demands_by_all
by_all_append nodes [] ys = refl
by_all_append nodes (a ∷ xs) ys = ap (λ (ds : List Demanded). demands_by nodes a ++ ds) (by_all_append nodes xs ys) ∙ sym (append_assoc (demands_by nodes a) (demands_by_all nodes xs) (demands_by_all nodes ys))

by_none : (nodes : List Node) → demands_by_all nodes [] ≡ []
unfolding demands_by_all
by_none nodes = refl

by_more : (nodes : List Node) (a : Asking) (more : List Asking) → demands_by_all nodes (a ∷ more) ≡ demands_by nodes a ++ demands_by_all nodes more
unfolding demands_by_all
by_more nodes a more = refl

module _ (f : File) (shaped : HaveForms f.nodes) (tree : IsTree f.nodes) (types : List CluType) where
  abbrev nodes : List Node
  nodes = f.nodes

  abbrev its : ℕ → ℕ → Item
  its n = before n (item_at nodes)

  abbrev told : List Demanded → List Demand
  told ds = map (demand_told types) ds

  -- ---- by Opers

  -- each demand of the definition, turned into what is asked there
  abbrev IsTurned : (Demand → Demand) → ℕ → Option InSet → Type 0
  IsTurned turn k set = (oper : ℕ) (name : Identifier) (wanted : Option CluType) →
      demand_told types (demanded (record { oper = oper; parameter = k; set = set }) None name) ≡ without_type (turn (record { node = oper; parameter = k; operation = name; wanted = wanted; in_set = false }))

  module _ (turn : Demand → Demand) (k : ℕ) (set : Option InSet) (turned : IsTurned turn k set) where
    abbrev asking : ℕ → Asking
    asking oper = record { oper = oper; parameter = k; set = set }

    names_told : (oper : ℕ) (wanted : Option CluType) (ns : List Identifier) → told (demanded_by (asking oper) None ns) ≡ map (λ d. without_type (turn d)) (map (λ name. record { node = oper; parameter = k; operation = name; wanted = wanted; in_set = false }) ns)
    names_told oper wanted [] = refl
    names_told oper wanted (name ∷ ns) = ap₂ (λ (d : Demand) (ds : List Demand). d ∷ ds) (turned oper name wanted) (names_told oper wanted ns)

    by_oper : (c : ℕ) (x : There nodes c kind.Oper) → demands_by nodes (asking c) ≡ demanded_by (asking c) None x.node.names
    unfolding demands_by
    by_oper c x =
        ap (λ (o : Option Node). if is_there kind.Oper o then demanded_by (asking c) None (names_in nodes o) else []) x.at
        ∙ ap (λ (j : NodeKind). if is_of kind.Oper j then demanded_by (asking c) None x.node.names else []) x.is

    operation_is : (n c : ℕ) → c < n → (x : There nodes c kind.Oper) → (its n c).operation ≡ operation_of (its c) nodes c x.node kind.Oper
    operation_is n c less x = ap (λ (i : Item). i.operation) (before_is nodes n c less ∙ item_there nodes c x.node x.at) ∙ ap (operation_of (its c) nodes c x.node) x.is

    opers_told : (scope : Scope) (n : ℕ) (cs : List ℕ) → AreParts nodes (is_of kind.Oper) n cs → told (demands_by_all nodes (asked_by_opers k set cs)) ≡ map (λ d. without_type (turn d)) (operations_asked f scope k (operations_at (its n) cs))
    opers_told scope n [] ps = ap told (by_none nodes)
    opers_told scope n (c ∷ cs) ps =
        let x = there nodes c kind.Oper refl (same_kind kind.Oper (kind_at nodes c) ps.0.1) in
        let d : Typed = operation_of (its c) nodes c x.node kind.Oper in
        let wanted : Option CluType = checking.unless_refused f (checking.type_node d.type) (type_settled scope d.type) in
        ap told (by_more nodes (asking c) (asked_by_opers k set cs))
        ∙ map-append (demand_told types) (demands_by nodes (asking c)) (demands_by_all nodes (asked_by_opers k set cs))
        ∙ ap₂ (λ (xs ys : List Demand). xs ++ ys) (ap told (by_oper c x) ∙ names_told c wanted x.node.names) (opers_told scope n cs ps.1)
        ∙ sym (map-append (λ d. without_type (turn d)) (checking.demands_for f scope d.node k d.type false d.names) (operations_asked f scope k (operations_at (its n) cs)))
        ∙ sym (ap (λ (d : Typed). map (λ d. without_type (turn d)) (operations_asked f scope k (d ∷ operations_at (its n) cs))) (operation_is n c ps.0.0 x))

  none_turned : (k : ℕ) → IsTurned (λ d. d) k None
  unfolding demanded
  none_turned k oper name wanted = refl

  set_turned : (k n variable : ℕ) → IsTurned (checking.asked_at f n) k (Some (record { node = n; variable = variable }))
  unfolding demanded
  set_turned k n variable oper name wanted = refl

  -- ---- of a type set

  pub set_opers : (c : ℕ) (x : There nodes c kind.TypeSet) → set_operations nodes (slice_get nodes c) ≡ run nodes kind.Oper x.node.children
  unfolding set_operations
  set_opers c x =
      ap (λ (o : Option Node). if is_there kind.TypeSet o then opers_in nodes o else []) x.at
      ∙ ap (λ (j : NodeKind). if is_of kind.TypeSet j then opers_of nodes x.node else []) x.is

  pub type_set_is : (c : ℕ) (x : There nodes c kind.TypeSet) → (item_at nodes c).type_set ≡ type_set_of (its c) nodes c x.node kind.TypeSet
  type_set_is c x = ap (λ (i : Item). i.type_set) (item_there nodes c x.node x.at) ∙ ap (type_set_of (its c) nodes c x.node) x.is

  of_set : (k n variable c : ℕ) → kind_at nodes c ≡ kind.TypeSet → told (demands_by_all nodes (asked_by_opers k (Some (record { node = n; variable = variable })) (set_operations nodes (slice_get nodes c)))) ≡ map without_type (asked_by f n k (Some (item_at nodes c).type_set))
  of_set k n variable c is =
      let x = there nodes c kind.TypeSet refl is in
      let scope : Scope = checking.with_variable f c (first_name x.node.names) k in
      let opers : AreParts nodes (is_of kind.Oper) c (run nodes kind.Oper x.node.children) = run_parts nodes kind.Oper c x.node.children (children_before nodes tree shaped c x.node x.at) in
      ap (λ (cs : List ℕ). told (demands_by_all nodes (asked_by_opers k (Some (record { node = n; variable = variable })) cs))) (set_opers c x)
      ∙ opers_told (checking.asked_at f n) k (Some (record { node = n; variable = variable })) (set_turned k n variable) scope c (run nodes kind.Oper x.node.children) opers
      ∙ mapped without_type (checking.asked_at f n) (operations_asked f scope k (operations_at (its c) (run nodes kind.Oper x.node.children)))
      ∙ sym (ap (λ (set : TypeSet). map without_type (asked_by f n k (Some set))) (type_set_is c x))

  -- ---- by one restriction

  pub is_parameter : (m : Meaning) (k : ℕ) → parameter_meant m ≡ Some k → m ≡ is_type_parameter k
  is_parameter (is_type_parameter j) k e = ap is_type_parameter (same_Some j k e)
  is_parameter _ k e = absurd (none-some k e)

  pub none_of : (r : Restriction) (m : Meaning) → parameter_meant m ≡ None → checking.restricted f r m ≡ []
  none_of (has_operations n name operations) (is_type_parameter k) e = absurd (none-some k (sym e))
  none_of (has_operations n name operations) _ e = refl
  none_of (is_in n name set) (is_type_parameter k) e = absurd (none-some k (sym e))
  none_of (is_in n name set) _ e = refl
  none_of (is_in_set n name set) (is_type_parameter k) e = absurd (none-some k (sym e))
  none_of (is_in_set n name set) _ e = refl

  abbrev formed : ℕ → List Identifier → Option ℕ → List ℕ → Restriction
  formed n ns o cs = restriction_with (its n) nodes n ns o cs

  pub node_is : (n : ℕ) (ns : List Identifier) (o : Option ℕ) (cs : List ℕ) → checking.restriction_node f (formed n ns o cs) ≡ (n, first_name ns)
  node_is n ns (Some c) cs = refl
  node_is n [] None cs = refl
  node_is n (a ∷ []) None cs = refl
  node_is n (a ∷ b ∷ ns) None cs = refl

  module _ (rounds : List Round) (counts : List ℕ) where
    by_form : (n k : ℕ) (ns : List Identifier) (o : Option ℕ) (cs : List ℕ) → AreParts nodes (is_of kind.Oper) n cs → (s : Option ℕ) → option_map (λ c. (item_at nodes c).type_set) s ≡ set_meant f (formed n ns o cs)
        → ((c : ℕ) → s ≡ Some c → kind_at nodes c ≡ kind.TypeSet) → had_operations nodes (slice_get nodes n) ≡ operations_by nodes ns o cs
        → told (demands_by_all nodes (asked_of_parameter nodes rounds counts n k s)) ≡ map without_type (checking.restricted f (formed n ns o cs) (is_type_parameter k))
    unfolding asked_of_parameter
    by_form n k ns (Some d) cs ps (Some c) e is had = of_set k n (variable_of counts rounds c) c (is c refl) ∙ ap (λ (set : Option TypeSet). map without_type (asked_by f n k set)) e
    by_form n k ns (Some d) cs ps None e is had = absurd (none-some (its n d).type_set e)
    by_form n k (a ∷ b ∷ ns) None cs ps (Some c) e is had = of_set k n (variable_of counts rounds c) c (is c refl) ∙ ap (λ (set : Option TypeSet). map without_type (asked_by f n k set)) e
    by_form n k (a ∷ b ∷ ns) None cs ps None e is had =
        ap (λ (cs : List ℕ). told (demands_by_all nodes (asked_by_opers k None cs))) had
        ∙ ap told (by_none nodes)
        ∙ ap (λ (set : Option TypeSet). map without_type (asked_by f n k set)) e
    by_form n k [] None cs ps (Some c) e is had = absurd (none-some (item_at nodes c).type_set (sym e))
    by_form n k [] None cs ps None e is had =
        ap (λ (cs : List ℕ). told (demands_by_all nodes (asked_by_opers k None cs))) had
        ∙ opers_told (λ d. d) k None (none_turned k) f.scope n cs ps
    by_form n k (a ∷ []) None cs ps (Some c) e is had = absurd (none-some (item_at nodes c).type_set (sym e))
    by_form n k (a ∷ []) None cs ps None e is had =
        ap (λ (cs : List ℕ). told (demands_by_all nodes (asked_by_opers k None cs))) had
        ∙ opers_told (λ d. d) k None (none_turned k) f.scope n cs ps

    module _ (restricted : List Restricted) (are : AreRestricted f restricted) where
      pub had_is : (n : ℕ) (x : There nodes n kind.Restrict) → had_operations nodes (slice_get nodes n) ≡ operations_by nodes x.node.names (one_of nodes kind.TypeSet x.node.children) (run nodes kind.Oper x.node.children)
      unfolding had_operations
      had_is n x =
          ap (λ (o : Option Node). if is_there kind.Restrict o then operations_had nodes o else []) x.at
          ∙ ap (λ (j : NodeKind). if is_of kind.Restrict j then operations_had nodes (Some x.node) else []) x.is

      by_restriction : (n : ℕ) → kind_at nodes n ≡ kind.Restrict → told (demands_by_all nodes (asked_by_restriction nodes rounds counts restricted n)) ≡ map without_type (checking.demands_by f (item_at nodes n).restriction)
      unfolding asked_by_restriction
      by_restriction n is = by (parameter_meant (meaning_of f.scope n (first_name (names f n)))) refl
        where
          x : There nodes n kind.Restrict
          x = there nodes n kind.Restrict refl is

          so : IsRestricted f n (restricted_in (slice_get restricted n))
          so = are n is

          form : Restriction
          form = formed n x.node.names (one_of nodes kind.TypeSet x.node.children) (run nodes kind.Oper x.node.children)

          form_is : (item_at nodes n).restriction ≡ form
          form_is = ap (λ (i : Item). i.restriction) (item_there nodes n x.node x.at) ∙ ap (restriction_of (its n) nodes n x.node) x.is

          meant : checking.demands_by f (item_at nodes n).restriction ≡ checking.restricted f form (meaning_of f.scope n (first_name (names f n)))
          meant =
              ap (checking.demands_by f) form_is
              ∙ ap (λ (p : ℕ × Identifier). checking.restricted f form (meaning_of f.scope p.0 p.1)) (node_is n x.node.names (one_of nodes kind.TypeSet x.node.children) (run nodes kind.Oper x.node.children))
              ∙ sym (ap (λ (o : Option Node). checking.restricted f form (meaning_of f.scope n (first_name (node_names f o)))) x.at)

          by : (o : Option ℕ) → parameter_meant (meaning_of f.scope n (first_name (names f n))) ≡ o → told (demands_by_all nodes (asked_by_parts nodes rounds counts n (restricted_in (slice_get restricted n)).parameter (restricted_in (slice_get restricted n)).set)) ≡ map without_type (checking.demands_by f (item_at nodes n).restriction)
          by None e =
              ap (λ (p : Option ℕ). told (demands_by_all nodes (asked_by_parts nodes rounds counts n p (restricted_in (slice_get restricted n)).set))) (so.parameter ∙ e)
              ∙ ap told (by_none nodes)
              ∙ sym (ap (map without_type) (meant ∙ none_of form (meaning_of f.scope n (first_name (names f n))) e))
          by (Some k) e =
              ap (λ (p : Option ℕ). told (demands_by_all nodes (asked_by_parts nodes rounds counts n p (restricted_in (slice_get restricted n)).set))) (so.parameter ∙ e)
              ∙ by_form n k x.node.names (one_of nodes kind.TypeSet x.node.children) (run nodes kind.Oper x.node.children) (run_parts nodes kind.Oper n x.node.children (children_before nodes tree shaped n x.node x.at))
              (restricted_in (slice_get restricted n)).set (so.set ∙ ap (set_meant f) form_is) so.node (had_is n x)
              ∙ sym (ap (map without_type) (meant ∙ ap (checking.restricted f form) (is_parameter (meaning_of f.scope n (first_name (names f n))) k e)))

      all_told : (n : ℕ) (cs : List ℕ) → AreParts nodes (is_of kind.Restrict) n cs → told (demands_by_all nodes (asked_by_restrictions nodes rounds counts restricted cs)) ≡ map without_type (demands_in f (restrictions_at (its n) cs))
      all_told n [] ps = ap told (by_none nodes)
      all_told n (c ∷ cs) ps =
          ap told (by_all_append nodes (asked_by_restriction nodes rounds counts restricted c) (asked_by_restrictions nodes rounds counts restricted cs))
          ∙ map-append (demand_told types) (demands_by_all nodes (asked_by_restriction nodes rounds counts restricted c)) (demands_by_all nodes (asked_by_restrictions nodes rounds counts restricted cs))
          ∙ ap₂ (λ (xs ys : List Demand). xs ++ ys) (by_restriction c (same_kind kind.Restrict (kind_at nodes c) ps.0.1)) (all_told n cs ps.1)
          ∙ sym (map-append without_type (checking.demands_by f (item_at nodes c).restriction) (demands_in f (restrictions_at (its n) cs)))
          ∙ sym (ap (λ (i : Item). map without_type (checking.demands_by f i.restriction ++ demands_in f (restrictions_at (its n) cs))) (before_is nodes n c ps.0.0))

      -- ---- by a routine, and by a cluster

      no_set : (n : ℕ) (node : Node) → slice_get nodes n ≡ Some node → is_of kind.TypeSet node.kind ≡ false → set_operations nodes (slice_get nodes n) ≡ []
      unfolding set_operations
      no_set n node at other =
          ap (λ (o : Option Node). if is_there kind.TypeSet o then opers_in nodes o else []) at
          ∙ ap (λ (b : Bool). if b then opers_of nodes node else []) other

      of_node : (n : ℕ) (node : Node) → slice_get nodes n ≡ Some node → is_of kind.TypeSet node.kind ≡ false → (cs : List ℕ) → restrictions_in nodes (slice_get nodes n) ≡ cs → AreParts nodes (is_of kind.Restrict) n cs → told (demands_at nodes rounds counts restricted n) ≡ map without_type (demands_in f (restrictions_at (its n) cs))
      unfolding demands_at asked_at
      of_node n node at other cs are_these ps =
          ap (λ (os : List ℕ). told (demands_by_all nodes (asked_by_opers (variable_of counts rounds n) None os ++ asked_by_restrictions nodes rounds counts restricted (restrictions_in nodes (slice_get nodes n))))) (no_set n node at other)
          ∙ ap (λ (cs : List ℕ). told (demands_by_all nodes (asked_by_restrictions nodes rounds counts restricted cs))) are_these
          ∙ all_told n cs ps

      pub of_routine : (n : ℕ) (node : Node) → slice_get nodes n ≡ Some node → node.kind ≡ kind.Routine → told (demands_at nodes rounds counts restricted n) ≡ map without_type (demands_in f (item_at nodes n).routine.restrictions)
      of_routine n node at is =
          of_node n node at (ap (is_of kind.TypeSet) is) (routine_clause nodes tree shaped n node at) (routine_restricts nodes tree shaped n node at is) (routine_parts nodes tree shaped n node at)
          ∙ sym (ap (λ (rs : List Restriction). map without_type (demands_in f rs)) (routine_asks nodes tree shaped n node at is))

      pub of_cluster : (n : ℕ) (node : Node) → slice_get nodes n ≡ Some node → node.kind ≡ kind.Cluster → told (demands_at nodes rounds counts restricted n) ≡ map without_type (demands_in f (item_at nodes n).cluster.restrictions)
      of_cluster n node at is =
          of_node n node at (ap (is_of kind.TypeSet) is) (cluster_clause nodes tree shaped n node at) (cluster_restricts nodes tree shaped n node at is) (cluster_parts nodes tree shaped n node at)
          ∙ sym (ap (λ (rs : List Restriction). map without_type (demands_in f rs)) (cluster_asks nodes tree shaped n node at is))
