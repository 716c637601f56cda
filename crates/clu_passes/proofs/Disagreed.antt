-- The bits of demands that disagree say what V6 asks of demands.
use Rattle.std.proofs.Common.{◌≡◌, ◌∙◌, ◌⊎◌, inl, inr, ℕ, zero, suc, ◌+◌, ◌<◌, ◌≤◌, ◌==◌, ◌&&◌, ◌||◌, not, Bool, true, false, if◌then◌else◌, List, [], ◌∷◌, Contains, length, map, get_or, slice_get, replicate, bytes_eq, option_map, Option, Some, None, IfSome, refl, sym, ap, subst, arith, eqb-true, eq-eqb}
use Rattle.std.specs.List.{list_any}
use Rattle.std.specs.Option.{option_or}
use Rattle.std.proofs.Math.Bool.{or-false, and_comm}
use Rattle.std.proofs.lemmas.Bool.{cases_lt, cases_eq, and_parts}
use Rattle.std.proofs.lemmas.Option.{none-some, same_Some, slice_get_past}
use Rattle.std.proofs.lemmas.Slice.Eq.{bytes_eq-Decides}
use Rattle.clu_base.proofs.Bools.{same_truth}
use Rattle.clu_types.specs.CluType.{CluType}
use Rattle.clu_types.specs.Arena.{IsArena, type_at, types_of}
use Rattle.clu_types.specs.declared.term.Term.{Term}
use Rattle.clu_types.specs.declared.term.TypeId.{TypeId}
use Rattle.clu_types.proofs.Arenas.{length-types_of}
use Rattle.clu_layout.specs.SameType.{same_type}
use Rattle.clu_tree.specs.declared.node.NodeKind.{NodeKind}
use Rattle.clu_tree.specs.declared.node.NodeKind.TheVariants as kind
use Rattle.clu_syntax.specs.Kinds.{kind_of, kind_at}
use Rattle.clu_tree.specs.declared.node.Node.{Node}
use Rattle.clu_tree.specs.Nodes.{IsTree}
use Rattle.clu_parser.specs.Shape.{HaveForms}
use Rattle.clu_syntax.specs.Splits.{is_of}
use Rattle.clu_syntax.specs.Syntax.{Identifier}
use Rattle.clu_names.specs.declared.scopes.Declared.{Declared}
use Rattle.clu_names.specs.Denotes.{bound_at, found, names_in}
use Rattle.clu_meaning.specs.Scoping.{Scope}
use Rattle.clu_checking.specs.Specifications.{Demand, Specification}
use Rattle.clu_checking.specs.Files.{File, kind_in, is_kind, is_kind_at, names, node_names, stands_in, parent, round, routine_at, cluster_at}
use Rattle.clu_checking.specs.Equates.{demands_in, is_bad_name}
use Rattle.clu_checking.specs.NameRules as checking
use Rattle.clu_head.specs.Refused.{is_set}
use Rattle.clu_head.specs.declared.asked.Asked.{Asked}
use Rattle.clu_head.specs.declared.head.Demanded.{Demanded}
use Rattle.clu_type_rules.specs.Disagreeing as tables
use Rattle.clu_type_rules.specs.Disagreeing.{with_clauses}
use Rattle.clu_type_rules.proofs.Differing.{bits_say}
use Rattle.clu_declares.proofs.Below.{same_kind}
use Rattle.clu_declares.proofs.Facts.{there}
use Rattle.clu_bindings.specs.Files.{bound_in}
use Rattle.clu_name_rules.specs.NameRules as rules
use Rattle.clu_name_rules.specs.NameRules.{is_marked}
use Rattle.clu_name_rules.specs.declared.tables.Tables.{Tables}
use Rattle.clu_passes.specs.ConstantTables.{AreTables, AreBad, file_with}
use Rattle.clu_passes.proofs.ConstantNodes as so
use Rattle.clu_passes.proofs.Marked.{circle_is}
use Rattle.clu_passes.proofs.Tables.{bound_is}
use Rattle.clu_passes.specs.Demands.{asked_by, clause_of, asked_round, TellAsked, AreOfKinds}
use Rattle.clu_passes.specs.Told.{demand_told}
use Rattle.clu_passes.proofs.UpDown.{same_numbers}

-- ---- tests

turned : (a b : ℕ) → (a == b) ≡ (b == a)
turned a b = same_truth (a == b) (b == a) (λ e. eq-eqb b a (sym (eqb-true a b e))) (λ e. eq-eqb a b (sym (eqb-true b a e)))

turned_name : (a b : List ℕ) → bytes_eq a b ≡ bytes_eq b a
turned_name a b = same_truth (bytes_eq a b) (bytes_eq b a) (λ e. (bytes_eq-Decides b a).1 (sym ((bytes_eq-Decides a b).0 e))) (λ e. (bytes_eq-Decides a b).1 (sym ((bytes_eq-Decides b a).0 e)))

and_assoc : (a b c : Bool) → ((a && b) && c) ≡ (a && b && c)
and_assoc true b c = refl
and_assoc false b c = refl

join3 : {A B C D : Type 0} (f : A → B → C → D) {a a' : A} {b b' : B} {c c' : C} → a ≡ a' → b ≡ b' → c ≡ c' → f a b c ≡ f a' b' c'
join3 f p q r = cc

-- the items of a list by what they have
abbrev Each : (Demanded → Type 0) → List Demanded → Type 0
Each P ds = (d : Demanded) → Contains ds d → P d

first_of : (P : Demanded → Type 0) (d : Demanded) (ds : List Demanded) → Each P (d ∷ ds) → P d
first_of P d ds each = each d (0, omega arith, refl)

rest_of : (P : Demanded → Type 0) (d : Demanded) (ds : List Demanded) → Each P (d ∷ ds) → Each P ds
rest_of P d ds each e h = each e (suc h.0, omega (arith, h.1), h.2)

-- ---- one list by types

module _ (terms : List Term) (arena : IsArena terms) where
  abbrev told : Demanded → Demand
  told d = demand_told (types_of terms) d

  abbrev IsBelow : Demanded → Type 0
  IsBelow d = IfSome d.wanted (λ id. id.0 < length terms)

  other_same : (a b : Option TypeId) → IfSome a (λ id. id.0 < length terms) → IfSome b (λ id. id.0 < length terms)
      → tables.are_other b a ≡ checking.are_other_types (option_map (type_at (types_of terms)) a) (option_map (type_at (types_of terms)) b)
  other_same (Some a) (Some b) p q = ap not (sym (same_numbers terms arena b a q p))
  other_same (Some a) None p q = refl
  other_same None (Some b) p q = refl
  other_same None None p q = refl

  disagree_same : (d e : Demanded) → IsBelow d → IsBelow e → tables.disagrees d e ≡ checking.disagrees (told d) (told e)
  disagree_same d e p q =
      join3 (λ (a b c : Bool). (a && b) && c) (turned e.parameter d.parameter) (turned_name e.operation d.operation) (other_same d.wanted e.wanted p q)
      ∙ and_assoc (d.parameter == e.parameter) (bytes_eq d.operation e.operation) (checking.are_other_types (told d).wanted (told e).wanted)

  any_same : (d : Demanded) → IsBelow d → (before : List Demanded) → Each IsBelow before → list_any (tables.disagrees d) before ≡ list_any (checking.disagrees (told d)) (map told before)
  any_same d p [] each = refl
  any_same d p (e ∷ before) each =
      ap (λ (b : Bool). b || list_any (tables.disagrees d) before) (disagree_same d e p (first_of IsBelow e before each))
      ∙ ap (λ (b : Bool). checking.disagrees (told d) (told e) || b) (any_same d p before (rest_of IsBelow e before each))

  with_same : (n : ℕ) (before ds : List Demanded) → Each IsBelow before → Each IsBelow ds → tables.disagrees_with n before ds ≡ checking.disagrees_with n (map told before) (map told ds)
  with_same n before [] past each = refl
  with_same n before (d ∷ ds) past each =
      let here : IsBelow d = first_of IsBelow d ds each in
      ap (λ (b : Bool). (d.node == n && b) || tables.disagrees_with n (d ∷ before) ds) (any_same d here before past)
      ∙ ap (λ (b : Bool). (d.node == n && list_any (checking.disagrees (told d)) (map told before)) || b)
      (with_same n (d ∷ before) ds (λ e h. elim (tail_or_head d before e h) [ inl is ↦ subst IsBelow is here | inr there ↦ past e there ]) (rest_of IsBelow d ds each))
    where
      tail_or_head : (x : Demanded) (xs : List Demanded) (e : Demanded) → Contains (x ∷ xs) e → (x ≡ e) ⊎ Contains xs e
      tail_or_head x xs e h = by h.0 h.1 h.2
        where
          by : (k : ℕ) → k < length (x ∷ xs) → get_or (x ∷ xs) k e ≡ e → (x ≡ e) ⊎ Contains xs e
          by zero lt is = inl is
          by (suc k) lt is = inr (k, omega (arith, lt), is)

-- where no demand is of the node, none of it disagrees
none_of : (n : ℕ) (before ds : List Demanded) → Each (λ d. (d.node == n) ≡ false) ds → tables.disagrees_with n before ds ≡ false
none_of n before [] each = refl
none_of n before (d ∷ ds) each =
    ap (λ (b : Bool). (b && list_any (tables.disagrees d) before) || tables.disagrees_with n (d ∷ before) ds) (first_of (λ d. (d.node == n) ≡ false) d ds each)
    ∙ none_of n (d ∷ before) ds (rest_of (λ d. (d.node == n) ≡ false) d ds each)

-- ---- all clauses: one alone may have demands of the node

module _ (asked : Asked) (n : ℕ) where
  abbrev in_clause : ℕ → Bool
  in_clause c = tables.disagrees_with n [] (tables.demands_in asked c)

  none_below : (many : ℕ) → ((c : ℕ) → c < many → in_clause c ≡ false) → tables.is_disagreeing asked many n ≡ false
  none_below zero none = refl
  none_below (suc many) none =
      ap (λ (b : Bool). tables.is_disagreeing asked many n || b) (none many (omega arith))
      ∙ or-false (tables.is_disagreeing asked many n)
      ∙ none_below many (λ c lt. none c (omega (arith, lt)))

  one_below : (many its : ℕ) → its < many → ((c : ℕ) → (c ≡ its → ⊥) → in_clause c ≡ false) → tables.is_disagreeing asked many n ≡ in_clause its
  one_below zero its lt others = absurd (omega (arith, lt))
  one_below (suc many) its lt others = elim (cases_eq many its) [
    | inl same ↦
        ap (λ (b : Bool). b || in_clause many) (none_below many (λ c less. others c (λ is. omega (arith, less, is, same)))) ∙ ap in_clause same
    | inr other ↦
        ap (λ (b : Bool). tables.is_disagreeing asked many n || b) (others many other)
        ∙ or-false (tables.is_disagreeing asked many n)
        ∙ one_below many its (omega (arith, lt, other)) others
  ]

-- ---- the clause of a node

module _ (f : File) (bad : ℕ → Bool) (terms : List Term) (arena : IsArena terms) (asked : Asked) (tell : TellAsked f (types_of terms) asked) (kinds : AreOfKinds f) (n : ℕ) where
  others : (its : Option ℕ) → clause_of f n ≡ its → (c : ℕ) → (its ≡ Some c → ⊥) → in_clause asked n c ≡ false
  others its is c other = none_of n [] (tables.demands_in asked c) (λ d h. by d h (d.node == n) refl)
    where
      by : (d : Demanded) → Contains (tables.demands_in asked c) d → (b : Bool) → (d.node == n) ≡ b → b ≡ false
      by d h false e = refl
      by d h true e = absurd (other (sym is ∙ ap (clause_of f) (sym (eqb-true d.node n e)) ∙ tell.inside c d h))

  at_clause : (c : ℕ) → in_clause asked n c ≡ checking.disagrees_with n [] (asked_by f (kind_in f c) c)
  at_clause c =
      with_same terms arena n [] (tables.demands_in asked c) (λ d h. absurd (omega (arith, h.1)))
      (λ d h. subst (λ (k : ℕ). IfSome d.wanted (λ (id : TypeId). id.0 < k)) (length-types_of terms) (tell.within c d h))
      ∙ ap (checking.disagrees_with n []) (tell.told c)

  past_kind : (c : ℕ) → length f.nodes ≤ c → kind_in f c ≡ kind.File
  past_kind c past = ap kind_of (slice_get_past f.nodes c past)

  within : (k : NodeKind) (c : ℕ) → (kind.File ≡ k → ⊥) → kind_in f c ≡ k → c < length f.nodes
  within k c other is = elim (cases_lt c (length f.nodes)) [
    | inl less ↦ less
    | inr past ↦ absurd (other (sym (past_kind c past) ∙ is))
  ]

  found_in : (k : NodeKind) (c : ℕ) → (kind.File ≡ k → ⊥) → kind_in f c ≡ k → clause_of f n ≡ Some c → tables.is_disagreeing asked (length f.nodes) n ≡ checking.disagrees_with n [] (asked_by f k c)
  found_in k c other kind_is is =
      one_below asked n (length f.nodes) c (within k c other kind_is) (λ d apart. others (Some c) is d (λ e. apart (sym (same_Some c d e))))
      ∙ at_clause c
      ∙ ap (λ (j : NodeKind). checking.disagrees_with n [] (asked_by f j c)) kind_is

  found_none : clause_of f n ≡ None → tables.is_disagreeing asked (length f.nodes) n ≡ false
  found_none is = none_below asked n (length f.nodes) (λ c less. others None is c (λ e. none-some c e))

  abbrev in_set : Bool
  in_set = is_kind f kind.Oper n && stands_in f kind.TypeSet n

  -- an Oper of a type set
  in_a_set : in_set ≡ true → (o : Option ℕ) → parent f n ≡ o → clause_of f n ≡ o → tables.is_disagreeing asked (length f.nodes) n ≡ checking.disagrees_with n [] (checking.asked_in_set f bad o)
  in_a_set e None at is = found_none is
  in_a_set e (Some c) at is =
      let stands : stands_in f kind.TypeSet n ≡ true = (and_parts (is_kind f kind.Oper n) (stands_in f kind.TypeSet n) e).1 in
      let set : is_kind f kind.TypeSet c ≡ true = sym (ap (is_kind_at f kind.TypeSet) at) ∙ stands in
      found_in kind.TypeSet c (λ x. cc) (same_kind kind.TypeSet (kind_in f c) set) is

  -- what stands in a where clause
  in_a_clause : (r c : Option ℕ) → (round f n).routine ≡ r → (round f n).cluster ≡ c → clause_of f n ≡ option_or r c
      → tables.is_disagreeing asked (length f.nodes) n ≡ checking.disagrees_with n [] (demands_in f (checking.restrictions_of (routine_at f r) (cluster_at f c)))
  in_a_clause (Some r) c at_r at_c is = found_in kind.Routine r (λ x. cc) (kinds.routines n r at_r) is
  in_a_clause None (Some c) at_r at_c is = found_in kind.Cluster c (λ x. cc) (kinds.clusters n c at_c) is
  in_a_clause None None at_r at_c is = found_none is

  by_place : (b : Bool) → in_set ≡ b → tables.is_disagreeing asked (length f.nodes) n ≡ checking.disagrees_with n [] (if b then checking.asked_in_set f bad (parent f n) else checking.clause_round f bad n)
  by_place true e = in_a_set e (parent f n) refl (ap (λ (b : Bool). if b then parent f n else option_or (round f n).routine (round f n).cluster) e)
  by_place false e = in_a_clause (round f n).routine (round f n).cluster refl refl (ap (λ (b : Bool). if b then parent f n else option_or (round f n).routine (round f n).cluster) e)

  -- the bit of a node
  pub bit_is : n < length f.nodes → is_set (slice_get (with_clauses asked (length f.nodes) (replicate (length f.nodes) false)) n) ≡ checking.disagrees_with n [] (asked_round f bad n)
  bit_is less = bits_say asked (length f.nodes) n less ∙ by_place in_set refl

-- ---- V6 of demands

module _ (t : Tables) (scope : Scope) (library : List Specification) (refused : List ℕ) where
  abbrev nodes : List Node
  nodes = t.file.syntax.now

  abbrev f : File
  f = file_with t.file scope library refused

  abbrev ds : List Declared
  ds = scope.declarations

  module _ (shaped : HaveForms nodes) (tree : IsTree nodes) (are : AreTables f t) (bits : List Bool) (bad : ℕ → Bool) (are_bad : AreBad f bits bad) where
    unusable_name : (n : ℕ) (name : Identifier) → checking.is_unusable f bad n name ≡ rules.is_unusable nodes t.file.names.now t.circular.now bits (found ds name n)
    unusable_name n name =
        ap (λ (b : Bool). b || is_bad_name f bad n name) (circle_is f shaped t.circular.now are.marks n name)
        ∙ ap (λ (b : Bool). is_marked t.circular.now (found ds name n) || b) (so.bad_name t scope library refused shaped tree are bits bad are_bad n name)

    any_unusable : (n : ℕ) (its : List Identifier) → list_any (checking.is_unusable f bad n) its ≡ list_any (rules.is_unusable nodes t.file.names.now t.circular.now bits) (map (λ name. found ds name n) its)
    any_unusable n [] = refl
    any_unusable n (name ∷ rest) =
        ap (λ (b : Bool). b || list_any (checking.is_unusable f bad n) rest) (unusable_name n name)
        ∙ ap (λ (b : Bool). rules.is_unusable nodes t.file.names.now t.circular.now bits (found ds name n) || b) (any_unusable n rest)

    unusable_at : (n : ℕ) → kind_at nodes n ≡ kind.Restrict → list_any (checking.is_unusable f bad n) (names f n) ≡ list_any (rules.is_unusable nodes t.file.names.now t.circular.now bits) (bound_in t.file.names.now n)
    unusable_at n is =
        let x = there nodes n kind.Restrict refl is in
        ap (λ (its : Option Node). list_any (checking.is_unusable f bad n) (node_names f its)) x.at
        ∙ any_unusable n x.node.names
        ∙ ap (λ (k : NodeKind). list_any (rules.is_unusable nodes t.file.names.now t.circular.now bits) (map (λ name. found ds name n) (names_in k x.node))) (sym x.is)
        ∙ ap (λ (its : Option Node). list_any (rules.is_unusable nodes t.file.names.now t.circular.now bits) (bound_at ds n its)) (sym x.at)
        ∙ ap (list_any (rules.is_unusable nodes t.file.names.now t.circular.now bits)) (sym (bound_is f t.file.names.now are.names n))

    module _ (terms : List Term) (arena : IsArena terms) (asked : Asked) (tell : TellAsked f (types_of terms) asked) (kinds : AreOfKinds f) where
      abbrev disagreeing : List Bool
      disagreeing = with_clauses asked (length nodes) (replicate (length nodes) false)

      at_bit : (n : ℕ) (k : NodeKind) → (kind.File ≡ k → ⊥) → kind_at nodes n ≡ k → is_set (slice_get disagreeing n) ≡ checking.disagrees_with n [] (asked_round f bad n)
      at_bit n k other is = bit_is f bad terms arena asked tell kinds n (within f bad terms arena asked tell kinds n k n other is)

      at_oper : (n : ℕ) → kind_at nodes n ≡ kind.Oper → (b : Bool) → stands_in f kind.TypeSet n ≡ b
          → (if b then checking.disagrees_with n [] (checking.asked_in_set f bad (parent f n)) else checking.disagrees_with n [] (checking.clause_round f bad n)) ≡ checking.disagrees_with n [] (asked_round f bad n)
      at_oper n is b e =
          sym (ap (λ (c : Bool). checking.disagrees_with n [] (if c then checking.asked_in_set f bad (parent f n) else checking.clause_round f bad n)) (ap (λ (j : NodeKind). is_of kind.Oper j && stands_in f kind.TypeSet n) is ∙ e) ∙ choose b)
        where
          choose : (b : Bool) → checking.disagrees_with n [] (if b then checking.asked_in_set f bad (parent f n) else checking.clause_round f bad n)
              ≡ (if b then checking.disagrees_with n [] (checking.asked_in_set f bad (parent f n)) else checking.disagrees_with n [] (checking.clause_round f bad n))
          choose true = refl
          choose false = refl

      at_restrict : (n : ℕ) → kind_at nodes n ≡ kind.Restrict → checking.disagrees_with n [] (checking.clause_round f bad n) ≡ checking.disagrees_with n [] (asked_round f bad n)
      at_restrict n is = sym (ap (λ (j : NodeKind). checking.disagrees_with n [] (if is_of kind.Oper j && stands_in f kind.TypeSet n then checking.asked_in_set f bad (parent f n) else checking.clause_round f bad n)) is)

      by_kind : (n : ℕ) (k : NodeKind) → kind_at nodes n ≡ k → checking.disagrees_at f bad k n ≡ rules.disagrees_by nodes t.file.names.now t.circular.now bits disagreeing k n
      by_kind n kind.Oper is =
          at_oper n is (stands_in f kind.TypeSet n) refl ∙ sym (at_bit n kind.Oper (λ x. cc) is)
      by_kind n kind.Restrict is =
          ap (λ (b : Bool). not b && checking.disagrees_with n [] (checking.clause_round f bad n)) (unusable_at n is)
          ∙ ap (λ (b : Bool). not (list_any (rules.is_unusable nodes t.file.names.now t.circular.now bits) (bound_in t.file.names.now n)) && b) (at_restrict n is ∙ sym (at_bit n kind.Restrict (λ x. cc) is))
          ∙ and_comm (not (list_any (rules.is_unusable nodes t.file.names.now t.circular.now bits) (bound_in t.file.names.now n))) (is_set (slice_get disagreeing n))
      by_kind n _ is = refl

      pub disagrees_same : (n : ℕ) → checking.disagrees_at f bad (kind_at nodes n) n ≡ rules.disagrees_by nodes t.file.names.now t.circular.now bits disagreeing (kind_at nodes n) n
      disagrees_same n = by_kind n (kind_at nodes n) refl
