-- What where clauses and type sets give at a node, told by the heads, is what the definition finds.
use Rattle.std.proofs.Common.{◌≡◌, ◌∙◌, ℕ, zero, suc, ◌+◌, ◌-◌, ◌<◌, ◌≤◌, nat_le, nat_lt, ◌==◌, ◌&&◌, ◌||◌, ◌⊎◌, inl, inr, cond, Bool, true, false, if◌then◌else◌, List, [], ◌∷◌, ◌++◌, length, map, filter, flat_map, find, bytes_eq, option_map, Option, Some, None, refl, sym, ap, ap₂, arith}
use Rattle.std.specs.List.{AllByRecursion, list_any, range_with_len}
use Rattle.std.specs.Option.{option_or}
use Rattle.std.proofs.Math.Bool.{and-false, and_assoc}
use Rattle.std.proofs.lemmas.Bool.{true≢false, and_parts, cases_lt, eqb-true, eq-eqb, lt-ltb}
use Rattle.std.proofs.lemmas.List.Folds.{find-append}
use Rattle.std.proofs.lemmas.Option.{slice_get_past}
use Rattle.std.proofs.lemmas.Slice.Eq.{bytes_eq-Decides}
use Rattle.clu_types.specs.CluType.{CluType}
use Rattle.clu_tree.specs.declared.node.Node.{Node}
use Rattle.clu_tree.specs.declared.node.NodeKind.{NodeKind}
use Rattle.clu_tree.specs.declared.node.NodeKind.TheVariants as kind
use Rattle.clu_syntax.specs.Kinds.{kind_of}
use Rattle.clu_syntax.specs.Splits.{is_of}
use Rattle.clu_syntax.specs.Syntax.{Identifier, Typed, TypeSet, a_type_set}
use Rattle.clu_meaning.specs.Scoping.{Scope, parameter_number}
use Rattle.clu_checking.specs.Specifications.{Demand, Specification}
use Rattle.clu_checking.specs.Files.{File, item, kind_in, round, stands_below, routine_at, cluster_at, type_sets, is_type_set_node, numbers, variable_number, parameters_round}
use Rattle.clu_checking.specs.Equates.{asked_by_set, operations_asked, demands_for, with_variable}
use Rattle.clu_checking.specs.Operations.{Found, is_given, given_of, given_by_set, given_by_sets, given_by_routine, given_by_cluster, given_at, given_found, sets_round}
use Rattle.clu_head.specs.declared.head.Demanded.{Demanded}
use Rattle.clu_bindings.specs.declared.file.Headed.{Headed}
use Rattle.clu_declares.proofs.Below.{same_kind}
use Rattle.clu_operations.specs.Clauses.{count_round, is_set_kind, is_set_round, set_round}
use Rattle.clu_operations.specs.Given.{asked_in, first_asked, told_given, told_round}
use Rattle.clu_operations.specs.Told.{given_told}
use Rattle.clu_passes.specs.ConstantTables.{file_with}
use Rattle.clu_passes.specs.Demands.{asked_by}
use Rattle.clu_passes.specs.FoundTold.{found_of, TellHeads}
use Rattle.clu_passes.specs.Told.{demand_told}

-- ---- searches

turned_name : (a b : List ℕ) → bytes_eq a b ≡ bytes_eq b a
turned_name a b = by (bytes_eq a b) refl (bytes_eq b a) refl
  where
    by : (p : Bool) → bytes_eq a b ≡ p → (q : Bool) → bytes_eq b a ≡ q → p ≡ q
    by true e true g = refl
    by false e false g = refl
    by true e false g = absurd (true≢false (sym ((bytes_eq-Decides b a).1 (sym ((bytes_eq-Decides a b).0 e))) ∙ g))
    by false e true g = absurd (true≢false (sym ((bytes_eq-Decides a b).1 (sym ((bytes_eq-Decides b a).0 g))) ∙ e))

pub map_or : {A B : Type 0} (g : A → B) (a b : Option A) → option_map g (option_or a b) ≡ option_or (option_map g a) (option_map g b)
map_or g (Some a) b = refl
map_or g None b = refl

-- a number in a list of numbers
abbrev has : ℕ → List ℕ → Bool
has m xs = list_any (λ x. x == m) xs

has_filtered : (q : ℕ → Bool) (m : ℕ) (xs : List ℕ) → has m (filter q xs) ≡ (has m xs && q m)
has_filtered q m [] = refl
has_filtered q m (x ∷ xs) = by (q x) refl (x == m) refl (has_filtered q m xs)
  where
    by : (b : Bool) → q x ≡ b → (e : Bool) → (x == m) ≡ e → has m (filter q xs) ≡ (has m xs && q m) → has m (cond b (x ∷ filter q xs) (filter q xs)) ≡ ((e || has m xs) && q m)
    by true passes true same more = ap (λ (b : Bool). b || has m (filter q xs)) same ∙ sym (ap q (sym (eqb-true x m same)) ∙ passes)
    by true passes false same more = ap (λ (b : Bool). b || has m (filter q xs)) same ∙ more
    by false passes true same more =
        let fails : q m ≡ false = ap q (sym (eqb-true x m same)) ∙ passes in
        more ∙ ap (λ (b : Bool). has m xs && b) fails ∙ and-false (has m xs) ∙ sym fails
    by false passes false same more = more

has_in_range : (from count m : ℕ) → from ≤ m → m < from + count → has m (range_with_len from count) ≡ true
has_in_range from zero m low high = absurd (omega (arith, low, high))
has_in_range from (suc count) m low high = by (from == m) refl (λ further. has_in_range (from + 1) count m further (omega (arith, high)))
  where
    apart : (from == m) ≡ false → (from < m) ⊎ (m ≤ from) → from + 1 ≤ m
    apart e (inl lt) = omega (arith, lt)
    apart e (inr ge) = absurd (true≢false (sym (eq-eqb from m (omega (arith, ge, low))) ∙ e))

    by : (b : Bool) → (from == m) ≡ b → (from + 1 ≤ m → has m (range_with_len (from + 1) count) ≡ true) → (b || has m (range_with_len (from + 1) count)) ≡ true
    by true same more = refl
    by false other more = more (apart other (cases_lt from m))

-- ---- what one node asks

module _ (f : File) (types : List CluType) where
  pub asked_same : (k : ℕ) (name : List ℕ) (ds : List Demanded) → option_map found_of (option_map (given_told types) (first_asked k name ds)) ≡ option_map (given_found f) (find (is_given k name) (map (demand_told types) ds))
  asked_same k name [] = refl
  asked_same k name (d ∷ ds) =
      ap (λ (b : Bool). option_map found_of (option_map (given_told types) (if (d.parameter == k) && b then Some d else first_asked k name ds))) (turned_name name d.operation)
      ∙ by ((d.parameter == k) && bytes_eq d.operation name) (asked_same k name ds)
    where
      by : (b : Bool) → option_map found_of (option_map (given_told types) (first_asked k name ds)) ≡ option_map (given_found f) (find (is_given k name) (map (demand_told types) ds))
          → option_map found_of (option_map (given_told types) (if b then Some d else first_asked k name ds)) ≡ option_map (given_found f) (cond b (Some (demand_told types d)) (find (is_given k name) (map (demand_told types) ds)))
      by true more = refl
      by false more = more

-- ---- demands of one parameter

abbrev AreOf : ℕ → List Demand → Type 0
AreOf k ds = AllByRecursion (λ d. d.parameter ≡ k) ds

of_both : (k : ℕ) (xs ys : List Demand) → AreOf k xs → AreOf k ys → AreOf k (xs ++ ys)
of_both k [] ys a b = b
of_both k (x ∷ xs) ys a b = (a.0, of_both k xs ys a.1 b)

none_of : (k other : ℕ) (name : List ℕ) (ds : List Demand) → AreOf k ds → (k == other) ≡ false → find (is_given other name) ds ≡ None
none_of k other name [] are differ = refl
none_of k other name (d ∷ ds) are differ =
    ap (λ (b : Bool). cond (b && bytes_eq d.operation name) (Some d) (find (is_given other name) ds)) (ap (λ (j : ℕ). j == other) are.0 ∙ differ)
    ∙ none_of k other name ds are.1 differ

module _ (f : File) where
  named_of : (scope : Scope) (node k : ℕ) (d : Typed) (names : List Identifier) → AreOf k (demands_for f scope node k d.type false names)
  named_of scope node k d [] = tt
  named_of scope node k d (name ∷ names) = (refl, named_of scope node k d names)

  operations_of : (scope : Scope) (k : ℕ) (ds : List Typed) → AreOf k (operations_asked f scope k ds)
  operations_of scope k [] = tt
  operations_of scope k (d ∷ ds) = of_both k (demands_for f scope d.node k d.type false d.names) (operations_asked f scope k ds) (named_of scope d.node k d d.names) (operations_of scope k ds)

  set_of : (k : ℕ) (set : TypeSet) → AreOf k (asked_by_set f k set)
  set_of k (a_type_set n variable asked operations es) = operations_of (with_variable f n variable k) k operations

  -- ---- type sets round a node

  abbrev number : ℕ → ℕ
  number s = variable_number f.nodes f.rounds s

  abbrev of_set : ℕ → List Demand
  of_set s = given_by_set f s (item f s).type_set

  abbrev found_of_set : ℕ → List ℕ → ℕ → Option Demand
  found_of_set k name m = find (is_given k name) (of_set m)

  or_none : (o : Option Demand) (b : Bool) → option_or o (if b then o else None) ≡ o
  or_none (Some d) b = refl
  or_none None true = refl
  or_none None false = refl

  -- the set whose variable it is, if this is among them
  in_sets : (k : ℕ) (name : List ℕ) (own : ℕ) (sets : List ℕ) → AllByRecursion (λ s. (number s == k) ≡ true → s ≡ own) sets
      → find (is_given k name) (flat_map of_set sets) ≡ (if has own sets then find (is_given k name) (of_set own) else None)
  in_sets k name own [] only = refl
  in_sets k name own (s ∷ sets) only = find-append (is_given k name) (of_set s) (flat_map of_set sets) ∙ by (s == own) refl (in_sets k name own sets only.1)
    where
      other : (b : Bool) → (number s == k) ≡ b → (s == own) ≡ false → found_of_set k name s ≡ None
      other true is differ = absurd (true≢false (sym (eq-eqb s own (only.0 is)) ∙ differ))
      other false is differ = none_of (number s) k name (of_set s) (set_of (number s) (item f s).type_set) is

      by : (b : Bool) → (s == own) ≡ b → find (is_given k name) (flat_map of_set sets) ≡ (if has own sets then found_of_set k name own else None)
          → option_or (found_of_set k name s) (find (is_given k name) (flat_map of_set sets)) ≡ (if b || has own sets then found_of_set k name own else None)
      by true same more = ap (λ (o : Option Demand). option_or (found_of_set k name s) o) more ∙ ap (λ (m : ℕ). option_or (found_of_set k name m) (if has own sets then found_of_set k name own else None)) (eqb-true s own same) ∙ or_none (found_of_set k name own) (has own sets)
      by false differ more = ap (λ (o : Option Demand). option_or o (find (is_given k name) (flat_map of_set sets))) (other (number s == k) refl differ) ∙ more

-- ---- at a node

set_kind : (k : NodeKind) → is_of kind.TypeSet k ≡ is_set_kind k
set_kind kind.TypeSet = refl
set_kind _ = refl

module _ (h : Headed) (scope : Scope) (library : List Specification) (refused : List ℕ) (types : List CluType) (tell : TellHeads h (file_with h.file scope library refused) types) where
  abbrev f : File
  f = file_with h.file scope library refused

  abbrev given_in : List Demand → ℕ → List ℕ → Option Found
  given_in ds k name = option_map (given_found f) (find (is_given k name) ds)

  by_node : (c k : ℕ) (name : List ℕ) (its : NodeKind) → kind_in f c ≡ its → option_map found_of (told_given h types (Some c) k name) ≡ given_in (asked_by f its c) k name
  by_node c k name its is =
      asked_same f types k name (asked_in h c)
      ∙ ap (λ (ds : List Demand). given_in ds k name) (tell.asked c)
      ∙ ap (λ (x : NodeKind). given_in (asked_by f x c) k name) is

  pub by_routine : (n k : ℕ) (name : List ℕ) (o : Option ℕ) → (round f n).routine ≡ o → option_map found_of (told_given h types o k name) ≡ given_in (given_by_routine f (routine_at f o)) k name
  by_routine n k name (Some c) is = by_node c k name kind.Routine (tell.kinds.routines n c is)
  by_routine n k name None is = refl

  pub by_cluster : (n k : ℕ) (name : List ℕ) (o : Option ℕ) → (round f n).cluster ≡ o → option_map found_of (told_given h types o k name) ≡ given_in (given_by_cluster f (cluster_at f o)) k name
  by_cluster n k name (Some c) is = by_node c k name kind.Cluster (tell.kinds.clusters n c is)
  by_cluster n k name None is = refl

  -- ---- by type sets

  abbrev is_round : ℕ → ℕ → Bool
  is_round n s = is_type_set_node f.nodes s && stands_below f n s

  -- a set stands in the list just if the node stands in it
  within : (s : ℕ) → is_type_set_node f.nodes s ≡ true → has s (numbers f.nodes) ≡ true
  within s is = has_in_range 0 (length f.nodes) s (omega arith) (inside (cases_lt s (length f.nodes)))
    where
      inside : (s < length f.nodes) ⊎ (length f.nodes ≤ s) → s < 0 + length f.nodes
      inside (inl lt) = omega (arith, lt)
      inside (inr past) = absurd (true≢false (sym is ∙ ap (λ (o : Option Node). is_of kind.TypeSet (kind_of o)) (slice_get_past f.nodes s past)))

  has_set : (n s : ℕ) → has s (sets_round f n) ≡ is_round n s
  has_set n s =
      has_filtered (stands_below f n) s (type_sets f.nodes)
      ∙ ap (λ (b : Bool). b && stands_below f n s) (has_filtered (is_type_set_node f.nodes) s (numbers f.nodes) ∙ by (is_type_set_node f.nodes s) refl)
    where
      by : (b : Bool) → is_type_set_node f.nodes s ≡ b → (has s (numbers f.nodes) && b) ≡ b
      by true is = ap (λ (b : Bool). b && true) (within s is)
      by false is = and-false (has s (numbers f.nodes))

  -- the set of a variable has its number
  abbrev own_of : ℕ → ℕ → ℕ
  own_of n k = k - count_round h.file n - 1

  numbered : (n k s : ℕ) → is_round n s ≡ true → (variable_number f.nodes f.rounds s == k) ≡ true → (count_round h.file n < k) × (s ≡ own_of n k)
  numbered n k s is same =
      let parts = and_parts (is_type_set_node f.nodes s) (stands_below f n s) is in
      let count : count_round h.file n ≡ parameter_number (parameters_round f.nodes (round f s).unit) = tell.counts n s parts.0 parts.1 in
      let number : suc s + parameter_number (parameters_round f.nodes (round f s).unit) ≡ k = eqb-true (variable_number f.nodes f.rounds s) k same in
      (omega (arith, count, number), omega (arith, count, number))

  -- what holds of the sets round a node
  each_round : (n : ℕ) (P : ℕ → Type 0) → ((s : ℕ) → is_round n s ≡ true → P s) → AllByRecursion P (sets_round f n)
  each_round n P all = outer (type_sets f.nodes) (inner (numbers f.nodes))
    where
      inner : (xs : List ℕ) → AllByRecursion (λ s. is_type_set_node f.nodes s ≡ true) (filter (is_type_set_node f.nodes) xs)
      inner [] = tt
      inner (x ∷ xs) = by (is_type_set_node f.nodes x) refl (inner xs)
        where
          by : (b : Bool) → is_type_set_node f.nodes x ≡ b → AllByRecursion (λ s. is_type_set_node f.nodes s ≡ true) (filter (is_type_set_node f.nodes) xs)
              → AllByRecursion (λ s. is_type_set_node f.nodes s ≡ true) (cond b (x ∷ filter (is_type_set_node f.nodes) xs) (filter (is_type_set_node f.nodes) xs))
          by true is more = (is, more)
          by false is more = more

      outer : (xs : List ℕ) → AllByRecursion (λ s. is_type_set_node f.nodes s ≡ true) xs → AllByRecursion P (filter (stands_below f n) xs)
      outer [] are = tt
      outer (x ∷ xs) are = by (stands_below f n x) refl (outer xs are.1)
        where
          by : (b : Bool) → stands_below f n x ≡ b → AllByRecursion P (filter (stands_below f n) xs) → AllByRecursion P (cond b (x ∷ filter (stands_below f n) xs) (filter (stands_below f n) xs))
          by true stands more = (all x (ap₂ (λ (a b : Bool). a && b) are.0 stands), more)
          by false stands more = more

  set_same : (n s : ℕ) → is_set_round h.file n s ≡ is_round n s
  set_same n s = and_assoc (is_set_kind (kind_in f s)) (nat_le (round f s).first n) (nat_le n s) ∙ ap (λ (b : Bool). b && stands_below f n s) (sym (set_kind (kind_in f s)))

  pub by_sets : (n k : ℕ) (name : List ℕ) → option_map found_of (told_given h types (set_round h.file n k) k name) ≡ given_in (given_by_sets f n) k name
  by_sets n k name = by (nat_lt (count_round h.file n) k) refl (is_set_round h.file n (own_of n k)) refl
    where
      found : find (is_given k name) (given_by_sets f n) ≡ (if has (own_of n k) (sets_round f n) then find (is_given k name) (given_by_set f (own_of n k) (item f (own_of n k)).type_set) else None)
      found = in_sets f k name (own_of n k) (sets_round f n) (each_round n (λ s. (variable_number f.nodes f.rounds s == k) ≡ true → s ≡ (own_of n k)) (λ s is same. (numbered n k s is same).1))

      among : has (own_of n k) (sets_round f n) ≡ is_set_round h.file n (own_of n k)
      among = has_set n (own_of n k) ∙ sym (set_same n (own_of n k))

      listed : (b : Bool) → is_set_round h.file n (own_of n k) ≡ b → given_in (given_by_sets f n) k name ≡ option_map (given_found f) (if b then find (is_given k name) (given_by_set f (own_of n k) (item f (own_of n k)).type_set) else None)
      listed b is = ap (option_map (given_found f)) (found ∙ ap (λ (b : Bool). if b then find (is_given k name) (given_by_set f (own_of n k) (item f (own_of n k)).type_set) else None) (among ∙ is))

      by : (a : Bool) → nat_lt (count_round h.file n) k ≡ a → (b : Bool) → is_set_round h.file n (own_of n k) ≡ b → option_map found_of (told_given h types (if a && b then Some (own_of n k) else None) k name) ≡ given_in (given_by_sets f n) k name
      by true above true is = by_node (own_of n k) k name kind.TypeSet (same_kind kind.TypeSet (kind_in f (own_of n k)) (and_parts (is_type_set_node f.nodes (own_of n k)) (stands_below f n (own_of n k)) (sym (set_same n (own_of n k)) ∙ is)).0) ∙ sym (listed true is)
      by true above false is = sym (listed false is)
      by false above false is = sym (listed false is)
      by false above true is = sym (listed true is ∙ ap (option_map (given_found f)) (none (variable_number f.nodes f.rounds (own_of n k) == k) refl))
        where
          none : (b : Bool) → (variable_number f.nodes f.rounds (own_of n k) == k) ≡ b → find (is_given k name) (given_by_set f (own_of n k) (item f (own_of n k)).type_set) ≡ None
          none true same = absurd (true≢false (sym (lt-ltb (count_round h.file n) k (numbered n k (own_of n k) (sym (set_same n (own_of n k)) ∙ is) same).0) ∙ above))
          none false same = none_of (variable_number f.nodes f.rounds (own_of n k)) k name (given_by_set f (own_of n k) (item f (own_of n k)).type_set) (set_of f (variable_number f.nodes f.rounds (own_of n k)) (item f (own_of n k)).type_set) same

  -- ---- all of them

  abbrev by_routines : ℕ → List Demand
  by_routines n = given_by_routine f (routine_at f (round f n).routine)

  abbrev by_clusters : ℕ → List Demand
  by_clusters n = given_by_cluster f (cluster_at f (round f n).cluster)

  pub round_same : (n k : ℕ) (name : List ℕ) → option_map found_of (told_round h types n k name) ≡ option_map (given_found f) (given_of (given_at f n) k name)
  round_same n k name =
      map_or found_of (option_or (told_given h types (round f n).routine k name) (told_given h types (round f n).cluster k name)) (told_given h types (set_round h.file n k) k name)
      ∙ ap₂ (λ (a b : Option Found). option_or a b)
      (map_or found_of (told_given h types (round f n).routine k name) (told_given h types (round f n).cluster k name)
      ∙ ap₂ (λ (a b : Option Found). option_or a b) (by_routine n k name (round f n).routine refl) (by_cluster n k name (round f n).cluster refl)
      ∙ sym (map_or (given_found f) (find (is_given k name) (by_routines n)) (find (is_given k name) (by_clusters n)))
      ∙ ap (option_map (given_found f)) (sym (find-append (is_given k name) (by_routines n) (by_clusters n))))
      (by_sets n k name)
      ∙ sym (map_or (given_found f) (find (is_given k name) (by_routines n ++ by_clusters n)) (find (is_given k name) (given_by_sets f n)))
      ∙ ap (option_map (given_found f)) (sym (find-append (is_given k name) (by_routines n ++ by_clusters n) (given_by_sets f n)))
