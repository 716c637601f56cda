-- What routines, clusters and type sets ask is, with the types that are wanted, what the definition asks of them; so the table of what
-- nodes ask tells it.
use Rattle.std.proofs.Common.{◌≡◌, ◌∙◌, ℕ, zero, suc, ◌+◌, ◌^◌, ◌<◌, ◌≤◌, min, Bool, false, if◌then◌else◌, List, [], ◌∷◌, ◌++◌, map, length, get_or, Option, Some, None, inl, inr, refl, sym, ap, ap₂, subst, arith, append-nil}
use Rattle.std.specs.Prelude.{slice_get}
use Rattle.std.specs.List.{AllZip}
use Rattle.std.specs.Option.{option_map}
use Rattle.std.proofs.lemmas.Bool.{cases_lt}
use Rattle.std.proofs.lemmas.Option.{none-some, slice_get_past, slice_get_within}
use Rattle.clu_base.specs.declared.constants.Const.{Const}
use Rattle.clu_tree.specs.declared.node.Node.{Node}
use Rattle.clu_tree.specs.declared.node.NodeKind.{NodeKind}
use Rattle.clu_tree.specs.declared.node.NodeKind.TheVariants as kind
use Rattle.clu_parser.specs.Trees.{Text}
use Rattle.clu_types.specs.Arena.{types_of}
use Rattle.clu_types.specs.declared.term.Term.{Term}
use Rattle.clu_syntax.specs.declared.round.Round.{Round}
use Rattle.clu_syntax.specs.Kinds.{kind_at, kind_of}
use Rattle.clu_syntax.specs.Rounds.{AreRounds, round_at}
use Rattle.clu_syntax.specs.Splits.{is_of, one_of, run, first_name}
use Rattle.clu_syntax.specs.Syntax.{Identifier, TypeSet, Restriction}
use Rattle.clu_syntax.specs.Items.{Item, operations_at, restrictions_at}
use Rattle.clu_syntax.specs.Nodes.{before, item_at, type_set_of, restriction_of, restricted as restriction_with}
use Rattle.clu_names.specs.Scopes.{declarations}
use Rattle.clu_meaning.specs.Scoping.{is_type_parameter, Scope, meaning_of, parameter_number}
use Rattle.clu_checking.specs.Specifications.{Demand, Specification}
use Rattle.clu_checking.specs.Files.{File, names, node_names, scope_in, parameters_round, variable_number}
use Rattle.clu_checking.specs.Equates as checking
use Rattle.clu_checking.specs.Equates.{operations_asked, asked_by, demands_in}
use Rattle.clu_settle.specs.Parameters.{counted}
use Rattle.clu_settle.specs.Settled.{AreSettled}
use Rattle.clu_settle.specs.Values.{AreWithin}
use Rattle.clu_settle.proofs.Shapes.{AreParts, children_before, run_parts}
use Rattle.clu_declares.specs.Declares.{AreFew, IsParsed}
use Rattle.clu_declares.proofs.Below.{same_kind, before_is, item_there}
use Rattle.clu_declares.proofs.Around.{there as there_at}
use Rattle.clu_declares.proofs.Facts.{There, there}
use Rattle.clu_declares.proofs.Modules.{unit_is}
use Rattle.clu_declares.proofs.Numbered.{count_is}
use Rattle.clu_head.specs.declared.heads.Heads.{Heads}
use Rattle.clu_head.specs.declared.head.Demanded.{Demanded}
use Rattle.clu_head.specs.declared.clauses.Asking.{Asking}
use Rattle.clu_head.specs.declared.known.Known.{Known}
use Rattle.clu_head.specs.Asked.{demands_at, demands_of, starts_to}
use Rattle.clu_head.specs.Asking.{asked_by_opers, asked_of_parameter, asked_by_parts, asked_by_restriction, asked_by_restrictions, asked_at, set_operations, had_operations, operations_by, restrictions_in, restricted_in, variable_of, count_in, count_of, unit_in, opers_in, routine_restrictions, cluster_restrictions}
use Rattle.clu_head.specs.Modules.{AreKnown, AreOf}
use Rattle.clu_head.specs.There.{is_there}
use Rattle.clu_head.specs.Wanted.{IsAskedBy, one_list, AreAsked}
use Rattle.clu_passes.specs.Bound.{AreOfModules}
use Rattle.clu_passes.specs.DemandsTold.{AreOpersCounted, AreOpersLost, TellDemands}
use Rattle.clu_passes.specs.Demands as wanted
use Rattle.clu_passes.specs.Told.{demand_told}
use Rattle.clu_passes.specs.Heads.{file_known, parameter_meant, set_meant, IsRestricted, AreRestricted}
use Rattle.clu_passes.proofs.AskedEach.{asked_split, each_asked}
use Rattle.clu_passes.proofs.AskedInSets as sets
use Rattle.clu_passes.proofs.AskedInside.{past_none}
use Rattle.clu_passes.proofs.AskedPieces.{starts_size}
use Rattle.std.proofs.lemmas.List.{map-append}
use Rattle.clu_passes.proofs.AskedTold as untyped
use Rattle.clu_passes.proofs.AskedTypes as asked
use Rattle.clu_passes.proofs.ClauseParts.{routine_clause, routine_parts, routine_restricts, routine_asks, cluster_clause, cluster_parts, cluster_restricts, cluster_asks}
use Rattle.clu_passes.proofs.RestrictedAll.{restricted_all}

-- ---- surroundings and counts in the one form and in the other

unit_same : (rounds : List Round) (n : ℕ) → unit_in (slice_get rounds n) ≡ (round_at rounds n).unit
unit_same [] n = refl
unit_same (r ∷ rounds) zero = refl
unit_same (r ∷ rounds) (suc n) = unit_same rounds n

count_same : (counts : List ℕ) (u : ℕ) → count_in (slice_get counts u) ≡ get_or counts u 0
count_same [] u = refl
count_same (c ∷ counts) zero = refl
count_same (c ∷ counts) (suc u) = count_same counts u

variable_is : (counts : List ℕ) (rounds : List Round) (n : ℕ) → variable_of counts rounds n ≡ min (min (n + 1) 4294967295 + count_of counts (unit_in (slice_get rounds n))) 4294967295
unfolding variable_of
variable_is counts rounds n = refl

module _ (t : Text) (k : Known) (library : List Specification) (refused : List ℕ) (parsed : IsParsed t k.syntax.now) (surrounded : AreRounds k.syntax.now k.rounds.now) (few : AreFew k.syntax.now k.rounds.now) (parms : AreOfModules k.syntax.now k.rounds.now)
    (counted_so : AreOpersCounted (file_known k (scope_in k.syntax.now k.rounds.now) library refused) k.refused.now) (bits : List Bool) (made : AreKnown k.syntax.now k.rounds.now (declarations k.syntax.now k.rounds.now) k.values.now bits k)
    (old new : List Term) (constant_many : ℕ) (within : AreWithin (length old) constant_many k.values.now) (constants : List Const) (known : AreSettled k.syntax.now (scope_in k.syntax.now k.rounds.now) new constants k.values.now)
    (lost : AreOpersLost (file_known k (scope_in k.syntax.now k.rounds.now) library refused) k.values.now) where
  abbrev nodes : List Node
  nodes = k.syntax.now

  abbrev rounds : List Round
  rounds = k.rounds.now

  abbrev scope : Scope
  scope = scope_in k.syntax.now k.rounds.now

  abbrev f : File
  f = file_known k scope library refused

  abbrev its : ℕ → ℕ → Item
  its n = before n (item_at nodes)

  abbrev told : List Demanded → List Demand
  told ds = map (demand_told (types_of new)) ds

  abbrev Are : List Asking → List Demanded → Type 0
  Are all ds = AreAsked k old new all ds

  none_asked : (ds : List Demanded) → Are [] ds → ds ≡ []
  unfolding AreAsked
  none_asked ds by = by.1 ∙ none by.0 by.2
    where
      none : (ps : List (List Demanded)) → AllZip (IsAskedBy k old new) [] ps → one_list ps ≡ []
      none [] a = refl
      none (p ∷ ps) a = absurd a

  -- ---- of a type set

  module _ (c : ℕ) (x : There nodes c kind.TypeSet) where
    abbrev variable : ℕ
    variable = sets.variable t k library refused parsed surrounded few counted_so old new constant_many constants known within lost c x.node x.at x.is

    abbrev u : ℕ
    u = sets.u t k library refused parsed surrounded few counted_so old new constant_many constants known within lost c x.node x.at x.is

    unit : (round_at rounds c).unit ≡ Some u
    unit = sets.unit t k library refused parsed surrounded few counted_so old new constant_many constants known within lost c x.node x.at x.is

    inside : c < length nodes
    inside = slice_get_within nodes c x.node x.at

    counts_are : count_of k.counts.now (unit_in (slice_get rounds c)) ≡ counted nodes rounds (declarations nodes rounds) u (length (declarations nodes rounds))
    counts_are =
        ap (count_of k.counts.now) (unit_same rounds c ∙ unit) ∙ count_same k.counts.now u ∙ ap (λ (counts : List ℕ). get_or counts u 0) made.counts ∙ made.numbered.counts u

    -- its number in the table
    number_is : variable_of k.counts.now rounds c ≡ variable
    number_is =
        variable_is k.counts.now rounds c
        ∙ ap (λ (m : ℕ). min (min (c + 1) 4294967295 + m) 4294967295) counts_are
        ∙ sets.number_there t k library refused parsed surrounded few counted_so old new constant_many constants known within lost c x.node x.at x.is

    -- and in the definition
    number_told : variable_of k.counts.now rounds c ≡ variable_number nodes rounds c
    number_told =
        let m = unit_is t nodes rounds parsed surrounded c u unit in
        let few_ds : length (declarations nodes rounds) < 2 ^ 32 = omega (arith, few) in
        number_is
        ∙ ap (λ (y : ℕ). suc c + y) (count_is t nodes rounds parsed surrounded few_ds u m.0 m.1 m.2)
        ∙ ap (λ (o : Option ℕ). suc c + parameter_number (parameters_round nodes o)) (sym unit)

    its_opers : set_operations nodes (slice_get nodes c) ≡ run nodes kind.Oper x.node.children
    its_opers = untyped.set_opers f parsed.forms parsed.tree (types_of new) c x

    its_set : (item_at nodes c).type_set ≡ type_set_of (its c) nodes c x.node kind.TypeSet
    its_set = untyped.type_set_is f parsed.forms parsed.tree (types_of new) c x

    opers_are : AreParts nodes (is_of kind.Oper) c (run nodes kind.Oper x.node.children)
    opers_are = run_parts nodes kind.Oper c x.node.children (children_before nodes parsed.tree parsed.forms c x.node x.at)

    -- by one who names it
    in_set : (p n : ℕ) (ds : List Demanded) → Are (asked_by_opers p (Some (record { node = n; variable = variable_of k.counts.now rounds c })) (set_operations nodes (slice_get nodes c))) ds → told ds ≡ asked_by f n p (Some (item_at nodes c).type_set)
    in_set p n ds by =
        sets.in_told t k library refused parsed surrounded few counted_so old new constant_many constants known within lost c x.node x.at x.is n p (run nodes kind.Oper x.node.children) opers_are
        (sets.opers_stand t k library refused parsed surrounded few counted_so old new constant_many constants known within lost c x.node x.at x.is) ds
        (subst (λ (v : ℕ). Are (asked_by_opers p (Some (record { node = n; variable = v })) (run nodes kind.Oper x.node.children)) ds) number_is
        (subst (λ (cs : List ℕ). Are (asked_by_opers p (Some (record { node = n; variable = variable_of k.counts.now rounds c })) cs) ds) its_opers by))
        ∙ sym (ap (λ (set : TypeSet). asked_by f n p (Some set)) its_set)

    -- by itself
    by_set : (ds : List Demanded) → Are (asked_by_opers (variable_of k.counts.now rounds c) None (set_operations nodes (slice_get nodes c))) ds → told ds ≡ checking.asked_by_set f (variable_number nodes rounds c) (item_at nodes c).type_set
    by_set ds by =
        sets.own_told t k library refused parsed surrounded few counted_so old new constant_many constants known within lost c x.node x.at x.is (run nodes kind.Oper x.node.children) opers_are
        (sets.opers_stand t k library refused parsed surrounded few counted_so old new constant_many constants known within lost c x.node x.at x.is) ds
        (subst (λ (v : ℕ). Are (asked_by_opers v None (run nodes kind.Oper x.node.children)) ds) number_is
        (subst (λ (cs : List ℕ). Are (asked_by_opers (variable_of k.counts.now rounds c) None cs) ds) its_opers by))
        ∙ ap (λ (v : ℕ). operations_asked f (checking.with_variable f c (first_name x.node.names) v) v (operations_at (its c) (run nodes kind.Oper x.node.children))) (sym number_is ∙ number_told)
        ∙ sym (ap (checking.asked_by_set f (variable_number nodes rounds c)) its_set)

  -- ---- by one restriction

  by_form : (n p : ℕ) (ns : List Identifier) (o : Option ℕ) (cs : List ℕ) → AreParts nodes (is_of kind.Oper) n cs → (s : Option ℕ) → option_map (λ c. (item_at nodes c).type_set) s ≡ set_meant f (restriction_with (its n) nodes n ns o cs)
      → ((c : ℕ) → s ≡ Some c → kind_at nodes c ≡ kind.TypeSet) → had_operations nodes (slice_get nodes n) ≡ operations_by nodes ns o cs
      → (ds : List Demanded) → Are (asked_of_parameter nodes rounds k.counts.now n p s) ds → told ds ≡ checking.restricted f (restriction_with (its n) nodes n ns o cs) (is_type_parameter p)
  unfolding asked_of_parameter
  by_form n p ns (Some d) cs ps (Some c) e is had ds by = in_set c (there nodes c kind.TypeSet refl (is c refl)) p n ds by ∙ ap (asked_by f n p) e
  by_form n p ns (Some d) cs ps None e is had ds by = absurd (none-some (its n d).type_set e)
  by_form n p (a ∷ b ∷ ns) None cs ps (Some c) e is had ds by = in_set c (there nodes c kind.TypeSet refl (is c refl)) p n ds by ∙ ap (asked_by f n p) e
  by_form n p (a ∷ b ∷ ns) None cs ps None e is had ds by =
      ap told (none_asked ds (subst (λ (cs : List ℕ). Are (asked_by_opers p None cs) ds) had by)) ∙ ap (asked_by f n p) e
  by_form n p [] None cs ps (Some c) e is had ds by = absurd (none-some (item_at nodes c).type_set (sym e))
  by_form n p [] None cs ps None e is had ds by =
      asked.opers_told k scope library refused parsed.forms parsed.tree counted_so old new constants known lost p n cs ps ds (subst (λ (cs : List ℕ). Are (asked_by_opers p None cs) ds) had by)
  by_form n p (a ∷ []) None cs ps (Some c) e is had ds by = absurd (none-some (item_at nodes c).type_set (sym e))
  by_form n p (a ∷ []) None cs ps None e is had ds by =
      asked.opers_told k scope library refused parsed.forms parsed.tree counted_so old new constants known lost p n cs ps ds (subst (λ (cs : List ℕ). Are (asked_by_opers p None cs) ds) had by)

  restricts : AreRestricted f k.restricted.now
  restricts =
      subst (AreRestricted f) (sym made.restricted)
      (restricted_all t k library refused parsed surrounded few parms made.parameters.numbers.items made.numbered.numbers made.sets made.led)

  by_restriction : (n : ℕ) → kind_at nodes n ≡ kind.Restrict → (ds : List Demanded) → Are (asked_by_restriction nodes rounds k.counts.now k.restricted.now n) ds → told ds ≡ checking.demands_by f (item_at nodes n).restriction
  unfolding asked_by_restriction
  by_restriction n is ds by = of (parameter_meant (meaning_of f.scope n (first_name (names f n)))) refl by
    where
      x : There nodes n kind.Restrict
      x = there nodes n kind.Restrict refl is

      so : IsRestricted f n (restricted_in (slice_get k.restricted.now n))
      so = restricts n is

      form : Restriction
      form = restriction_with (its n) nodes n x.node.names (one_of nodes kind.TypeSet x.node.children) (run nodes kind.Oper x.node.children)

      form_is : (item_at nodes n).restriction ≡ form
      form_is = ap (λ (i : Item). i.restriction) (item_there nodes n x.node x.at) ∙ ap (restriction_of (its n) nodes n x.node) x.is

      meant : checking.demands_by f (item_at nodes n).restriction ≡ checking.restricted f form (meaning_of f.scope n (first_name (names f n)))
      meant =
          ap (checking.demands_by f) form_is
          ∙ ap (λ (q : ℕ × Identifier). checking.restricted f form (meaning_of f.scope q.0 q.1)) (untyped.node_is f parsed.forms parsed.tree (types_of new) n x.node.names (one_of nodes kind.TypeSet x.node.children) (run nodes kind.Oper x.node.children))
          ∙ sym (ap (λ (o : Option Node). checking.restricted f form (meaning_of f.scope n (first_name (node_names f o)))) x.at)

      its_parts : Option ℕ → List Asking
      its_parts p = asked_by_parts nodes rounds k.counts.now n p (restricted_in (slice_get k.restricted.now n)).set

      of : (o : Option ℕ) → parameter_meant (meaning_of f.scope n (first_name (names f n))) ≡ o → Are (its_parts (restricted_in (slice_get k.restricted.now n)).parameter) ds → told ds ≡ checking.demands_by f (item_at nodes n).restriction
      of None e all =
          ap told (none_asked ds (subst (λ (p : Option ℕ). Are (its_parts p) ds) (so.parameter ∙ e) all))
          ∙ sym (meant ∙ untyped.none_of f parsed.forms parsed.tree (types_of new) form (meaning_of f.scope n (first_name (names f n))) e)
      of (Some p) e all =
          by_form n p x.node.names (one_of nodes kind.TypeSet x.node.children) (run nodes kind.Oper x.node.children) (run_parts nodes kind.Oper n x.node.children (children_before nodes parsed.tree parsed.forms n x.node x.at))
          (restricted_in (slice_get k.restricted.now n)).set (so.set ∙ ap (set_meant f) form_is) so.node (untyped.had_is f parsed.forms parsed.tree (types_of new) rounds k.counts.now k.restricted.now restricts n x) ds
          (subst (λ (p : Option ℕ). Are (its_parts p) ds) (so.parameter ∙ e) all)
          ∙ sym (meant ∙ ap (checking.restricted f form) (untyped.is_parameter f parsed.forms parsed.tree (types_of new) (meaning_of f.scope n (first_name (names f n))) p e))

  all_told : (n : ℕ) (cs : List ℕ) → AreParts nodes (is_of kind.Restrict) n cs → (ds : List Demanded) → Are (asked_by_restrictions nodes rounds k.counts.now k.restricted.now cs) ds → told ds ≡ demands_in f (restrictions_at (its n) cs)
  all_told n [] ps ds by = ap told (none_asked ds by)
  all_told n (c ∷ cs) ps ds by =
      let both = asked_split k old new (asked_by_restriction nodes rounds k.counts.now k.restricted.now c) (asked_by_restrictions nodes rounds k.counts.now k.restricted.now cs) ds by in
      ap told both.2
      ∙ map-append (demand_told (types_of new)) both.0 both.1
      ∙ ap₂ (λ (xs ys : List Demand). xs ++ ys) (by_restriction c (same_kind kind.Restrict (kind_at nodes c) ps.0.1) both.0 both.3) (all_told n cs ps.1 both.1 both.4)
      ∙ sym (ap (λ (i : Item). checking.demands_by f i.restriction ++ demands_in f (restrictions_at (its n) cs)) (before_is nodes n c ps.0.0))

  -- ---- by a node

  abbrev all_of : ℕ → List Asking
  all_of n = asked_at nodes rounds k.counts.now k.restricted.now n

  abbrev set_part : ℕ → List Asking
  set_part n = asked_by_opers (variable_of k.counts.now rounds n) None (set_operations nodes (slice_get nodes n))

  abbrev clause_part : ℕ → List Asking
  clause_part n = asked_by_restrictions nodes rounds k.counts.now k.restricted.now (restrictions_in nodes (slice_get nodes n))

  two_parts : (n : ℕ) → all_of n ≡ set_part n ++ clause_part n
  unfolding asked_at
  two_parts n = refl

  no_set : (n : ℕ) (o : Option Node) → slice_get nodes n ≡ o → is_there kind.TypeSet o ≡ false → set_part n ≡ []
  unfolding set_operations
  no_set n o at other =
      ap (λ (its : Option Node). asked_by_opers (variable_of k.counts.now rounds n) None (if is_there kind.TypeSet its then opers_in nodes its else [])) at
      ∙ ap (λ (b : Bool). asked_by_opers (variable_of k.counts.now rounds n) None (if b then opers_in nodes o else [])) other

  -- what stands in a clause
  of_clause : (n : ℕ) (o : Option Node) → slice_get nodes n ≡ o → is_there kind.TypeSet o ≡ false → (cs : List ℕ) → restrictions_in nodes (slice_get nodes n) ≡ cs → AreParts nodes (is_of kind.Restrict) n cs → (ds : List Demanded) → Are (all_of n) ds → told ds ≡ demands_in f (restrictions_at (its n) cs)
  of_clause n o at other cs are_these ps ds by =
      all_told n cs ps ds
      (subst (λ (cs : List ℕ). Are (asked_by_restrictions nodes rounds k.counts.now k.restricted.now cs) ds) are_these
      (subst (λ (all : List Asking). Are all ds) (two_parts n ∙ ap (λ (front : List Asking). front ++ clause_part n) (no_set n o at other)) by))

  routine_there : (n : ℕ) (x : There nodes n kind.Routine) → (ds : List Demanded) → Are (all_of n) ds → told ds ≡ demands_in f (item_at nodes n).routine.restrictions
  routine_there n x ds by =
      of_clause n (Some x.node) x.at (ap (is_of kind.TypeSet) x.is) (routine_clause nodes parsed.tree parsed.forms n x.node x.at) (routine_restricts nodes parsed.tree parsed.forms n x.node x.at x.is) (routine_parts nodes parsed.tree parsed.forms n x.node x.at) ds by
      ∙ sym (ap (demands_in f) (routine_asks nodes parsed.tree parsed.forms n x.node x.at x.is))

  cluster_there : (n : ℕ) (x : There nodes n kind.Cluster) → (ds : List Demanded) → Are (all_of n) ds → told ds ≡ demands_in f (item_at nodes n).cluster.restrictions
  cluster_there n x ds by =
      of_clause n (Some x.node) x.at (ap (is_of kind.TypeSet) x.is) (cluster_clause nodes parsed.tree parsed.forms n x.node x.at) (cluster_restricts nodes parsed.tree parsed.forms n x.node x.at x.is) (cluster_parts nodes parsed.tree parsed.forms n x.node x.at) ds by
      ∙ sym (ap (demands_in f) (cluster_asks nodes parsed.tree parsed.forms n x.node x.at x.is))

  -- what has no clause
  no_restricts : (n : ℕ) (o : Option Node) → slice_get nodes n ≡ o → is_there kind.Routine o ≡ false → is_there kind.Cluster o ≡ false → restrictions_in nodes (slice_get nodes n) ≡ []
  unfolding restrictions_in
  no_restricts n o at routine cluster =
      ap (λ (its : Option Node). if is_there kind.Routine its then routine_restrictions nodes its else if is_there kind.Cluster its then cluster_restrictions nodes its else []) at
      ∙ ap (λ (b : Bool). if b then routine_restrictions nodes o else if is_there kind.Cluster o then cluster_restrictions nodes o else []) routine
      ∙ ap (λ (b : Bool). if b then cluster_restrictions nodes o else []) cluster

  set_there : (n : ℕ) (x : There nodes n kind.TypeSet) → (ds : List Demanded) → Are (all_of n) ds → told ds ≡ checking.asked_by_set f (variable_number nodes rounds n) (item_at nodes n).type_set
  set_there n x ds by =
      by_set n x ds
      (subst (λ (all : List Asking). Are all ds)
      (two_parts n
      ∙ ap (λ (cs : List ℕ). set_part n ++ asked_by_restrictions nodes rounds k.counts.now k.restricted.now cs) (no_restricts n (Some x.node) x.at (ap (is_of kind.Routine) x.is) (ap (is_of kind.Cluster) x.is))
      ∙ append-nil (set_part n))
      by)

  nothing_there : (n : ℕ) (o : Option Node) → slice_get nodes n ≡ o → is_there kind.TypeSet o ≡ false → is_there kind.Routine o ≡ false → is_there kind.Cluster o ≡ false → (ds : List Demanded) → Are (all_of n) ds → told ds ≡ []
  nothing_there n o at set routine cluster ds by =
      ap told (none_asked ds
      (subst (λ (all : List Asking). Are all ds)
      (two_parts n
      ∙ ap (λ (front : List Asking). front ++ clause_part n) (no_set n o at set)
      ∙ ap (λ (cs : List ℕ). asked_by_restrictions nodes rounds k.counts.now k.restricted.now cs) (no_restricts n o at routine cluster))
      by))

  node_told : (n : ℕ) (node : Node) → slice_get nodes n ≡ Some node → (q : NodeKind) → node.kind ≡ q → (ds : List Demanded) → Are (all_of n) ds → told ds ≡ wanted.asked_by f q n
  node_told n node at kind.Routine is ds by = routine_there n (record { node = node; at = at; is = is }) ds by
  node_told n node at kind.Cluster is ds by = cluster_there n (record { node = node; at = at; is = is }) ds by
  node_told n node at kind.TypeSet is ds by = set_there n (record { node = node; at = at; is = is }) ds by
  node_told n node at _ is ds by = nothing_there n (Some node) at (ap (is_of kind.TypeSet) is) (ap (is_of kind.Routine) is) (ap (is_of kind.Cluster) is) ds by

  -- ---- by the table

  pub table_told : (heads : Heads) → AreOf k old new heads → TellDemands f (types_of new) heads.asked
  table_told heads all c = elim (cases_lt c (length nodes)) [ inl less ↦ here less | inr past ↦ beyond past ]
    where
      of : ℕ → List Demanded
      of = demands_at nodes rounds k.counts.now k.restricted.now

      begun : demands_of heads.asked.demands.items heads.asked.starts.items c ≡ demands_of heads.asked.demands.items (starts_to of (length nodes)) c
      begun = ap (λ (starts : List ℕ). demands_of heads.asked.demands.items starts c) all.starts

      here : c < length nodes → told (demands_of heads.asked.demands.items heads.asked.starts.items c) ≡ wanted.asked_by f (kind_at nodes c) c
      here less =
          let x = there_at nodes c less in
          ap told begun
          ∙ node_told c x.0 x.1 (kind_at nodes c) (sym (ap kind_of x.1)) (demands_of heads.asked.demands.items (starts_to of (length nodes)) c) (each_asked k old new (length nodes) heads.asked.demands.items all.asked c less)

      beyond : length nodes ≤ c → told (demands_of heads.asked.demands.items heads.asked.starts.items c) ≡ wanted.asked_by f (kind_at nodes c) c
      beyond past =
          let size : length (starts_to of (length nodes)) ≡ length nodes = starts_size of (length nodes) in
          ap told (begun
          ∙ past_none heads.asked.demands.items (starts_to of (length nodes)) c
          (slice_get_past (starts_to of (length nodes)) c (omega (arith, size, past))) (slice_get_past (starts_to of (length nodes)) (c + 1) (omega (arith, size, past))))
          ∙ sym (ap (λ (o : Option Node). wanted.asked_by f (kind_of o) c) (slice_get_past nodes c past))
