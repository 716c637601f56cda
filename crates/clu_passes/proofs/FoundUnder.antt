-- What is looked for at a node, in any arena that has grown, is what is found under the clauses of the node.
use Rattle.std.proofs.Common.{◌≡◌, ◌∙◌, inl, inr, ℕ, suc, ◌<◌, ◌||◌, Bool, true, false, if◌then◌else◌, List, [], ◌∷◌, ◌++◌, Contains, length, map, flat_map, take, drop, get_or, slice_get, option_map, option_and_then, Option, Some, None, IfSome, refl, sym, ap, subst, arith, append_assoc, length-append, ap₂}
use Rattle.std.proofs.Math.Seq.{get_or-append_seam, split_at}
use Rattle.std.proofs.lemmas.List.{length-take}
use Rattle.std.proofs.lemmas.Option.{none-some, same_Some, get_or_from_slice_get, slice_get-get_or, slice_get_within}
use Rattle.std.specs.Option.{option_or}
use Rattle.clu_base.proofs.Lists.{head_or_tail}
use Rattle.clu_types.specs.CluType.{CluType, null_type, bool_type, int_type, char_type, string_type, any_type, stream_type, array_of, sequence_of, record_of, struct_of, oneof_of, variant_of, proc_of, iter_of, cluster_of, parameter, Actuals}
use Rattle.clu_types.specs.Arena.{type_at, type_of, types_of, actuals_at, Grows}
use Rattle.clu_types.specs.Substituted.{substituted, type_put}
use Rattle.clu_types.specs.declared.spec.Demand.{Demand}
use Rattle.clu_types.specs.declared.spec.OpSpec.{OpSpec}
use Rattle.clu_types.specs.declared.term.Term.{Term}
use Rattle.clu_types.specs.declared.term.Term.TheVariants as term
use Rattle.clu_types.specs.declared.term.TypeId.{TypeId}
use Rattle.clu_types.proofs.Arenas.{types_of-push, length-types_of, types_kept, types_grown}
use Rattle.clu_builtin.specs.Operation.{Needed, Operation}
use Rattle.clu_builtin.specs.Table.{operation}
use Rattle.clu_tree.specs.declared.node.NodeKind.{NodeKind}
use Rattle.clu_tree.specs.declared.node.NodeKind.TheVariants as kind
use Rattle.clu_head.specs.declared.head.Demanded.{Demanded}
use Rattle.clu_head.specs.declared.head.RoutineHead.{RoutineHead}
use Rattle.clu_bindings.specs.declared.file.Headed.{Headed}
use Rattle.clu_bindings.specs.declared.meaning.ModuleId.{ModuleId}
use Rattle.clu_bindings.specs.Modules.{named}
use Rattle.clu_bindings.specs.Readers.{kind_in, round_in}
use Rattle.clu_operations.specs.declared.finding.Finding.{Finding}
use Rattle.clu_operations.specs.declared.found.View.TheVariants as view
use Rattle.clu_operations.specs.declared.shapes.Shape.{Shape}
use Rattle.clu_operations.specs.declared.shapes.Shape.TheVariants as shape
use Rattle.clu_operations.specs.declared.words.NameId.{NameId}
use Rattle.clu_operations.specs.Builtins.{need_told, operation_if, builtin_told}
use Rattle.clu_operations.specs.Bundles.{WantedBelow, PartBelow, RoutinesBelow}
use Rattle.clu_operations.specs.ByName.{is_named, first_named}
use Rattle.clu_operations.specs.Clauses.{set_round}
use Rattle.clu_operations.specs.Finding.{IsBelowIf}
use Rattle.clu_operations.specs.Found.{ModuleBelow}
use Rattle.clu_operations.specs.Given.{is_asked, first_asked, asked_in, told_given}
use Rattle.clu_operations.specs.Modules.{Module, own, kept, Shows, known_of, routines_in, operations_in, routine_name, operation_name, if_seen, routine_named, of_routine}
use Rattle.clu_operations.specs.Operations.{view_by}
use Rattle.clu_operations.specs.Shapes.{shape_in, shape_of, name_in}
use Rattle.clu_operations.specs.Told.{Ask, Told, asked_of, type_given, demand_told, kept_demand_told, part_told, routine_told, given_told}
use Rattle.clu_operations.specs.Wished.{cluster_given, told_in, told_by, wished_told, told_view, told_seen, IsFinding}
use Rattle.clu_operations.proofs.Pushing.{option_stays}
use Rattle.clu_type_rules.specs.declared.unmet.Clauses.{Clauses}
use Rattle.clu_type_rules.specs.declared.unmet.Need.{Need}
use Rattle.clu_type_rules.specs.Meeting.{fitting, may_fit}
use Rattle.clu_type_rules.specs.Needs.{Looks, if_some, if_asking, if_set, set_at, clauses_at, told_fitting, told_for, told_shape, told_asked}
use Rattle.clu_passes.specs.Ascending.{ActualsAscend}
use Rattle.clu_passes.specs.Settings.{ascends, given_inside, exported_in, module_of_name, found_under, setting_of, AreInSets}
use Rattle.clu_passes.proofs.AscendTests.{ascends_true, true_ascends, part_up, put_up}
use Rattle.clu_passes.proofs.PartNeeds.{needs_of_parts}
use Rattle.clu_passes.proofs.TermsAscend.{components_up}

-- ---- a number has the type of its term, over some types

record Reads (terms : List Term) (of : TypeId) (its : Term) : Type 0 where
  types : List CluType
  is : type_at (types_of terms) of ≡ type_of types its

at_end : (front : List Term) (its : Term) (of : TypeId) → length front ≡ of.0 → type_at (types_of front ++ type_of (types_of front) its ∷ []) of ≡ type_of (types_of front) its
at_end front its of long =
    ap (λ (k : ℕ). get_or (types_of front ++ type_of (types_of front) its ∷ []) k null_type) (sym long ∙ sym (length-types_of front))
    ∙ get_or-append_seam (types_of front) (type_of (types_of front) its) [] null_type

read_split : (terms front rest : List Term) (its : Term) (of : TypeId) → terms ≡ front ++ its ∷ rest → length front ≡ of.0 → Reads terms of its
read_split terms front rest its of cut long = record {
  types = types_of front;
  is = ap (λ (l : List Term). type_at (types_of l) of) (cut ∙ sym (append_assoc front (its ∷ []) rest))
      ∙ types_kept (front ++ its ∷ []) rest of (omega (arith, long, length-append front (its ∷ [])))
      ∙ ap (λ (ts : List CluType). type_at ts of) (types_of-push front its)
      ∙ at_end front its of long;
}

reads : (terms : List Term) (of : TypeId) (its : Term) → slice_get terms of.0 ≡ Some its → Reads terms of its
reads terms of its at =
    let lt : of.0 < length terms = slice_get_within terms of.0 its at in
    let read : get_or terms of.0 its ≡ its = get_or_from_slice_get terms of.0 its its at in
    read_split terms (take of.0 terms) (drop (suc of.0) terms) its of
    (split_at terms of.0 its lt ∙ ap (λ (t : Term). take of.0 terms ++ t ∷ drop (suc of.0) terms) read) (omega (arith, lt, length-take of.0 terms))

-- ---- what modules tell stays while the arena grows

module _ (old new : List Term) (grows : Grows old new) where
  type_stays : (given : Actuals) (of : Option TypeId) → IsBelowIf (length old) of → type_given (types_of new) given of ≡ type_given (types_of old) given of
  type_stays given (Some id) lt = ap (λ (t : CluType). Some (substituted given t)) (types_grown old new grows id lt)
  type_stays given None lt = refl

  demands_stay : (given : Actuals) (demands : List Demanded) → WantedBelow (length old) demands → flat_map (demand_told (types_of new) given) demands ≡ flat_map (demand_told (types_of old) given) demands
  demands_stay given [] b = refl
  demands_stay given (d ∷ demands) b =
      ap₂ (λ (xs ys : List Ask). xs ++ ys) (ap (asked_of given d.parameter d.operation d.in_set) (type_stays given d.wanted b.0)) (demands_stay given demands b.1)

  part_stays : (given : Actuals) (shows : Shows) → PartBelow (length old) shows → part_told (types_of new) given shows ≡ part_told (types_of old) given shows
  part_stays given shows b = ap₂ (λ (t : Option CluType) (a : List Ask). let it : Told = record { type = t; asks = a } in it) (type_stays given shows.of b.1) (demands_stay given shows.demands b.0)

  among_routines : (name : List ℕ) (given : Actuals) (rs : List RoutineHead) → RoutinesBelow (length old) rs
      → option_map (λ (r : RoutineHead). part_told (types_of new) given (of_routine r)) (if_seen false (first_named routine_name name rs)) ≡ option_map (λ (r : RoutineHead). part_told (types_of old) given (of_routine r)) (if_seen false (first_named routine_name name rs))
  among_routines name given [] b = refl
  among_routines name given (r ∷ rs) b = by (is_named routine_name name r) (among_routines name given rs b.1)
    where
      seen : (t : Bool) → option_map (λ (q : RoutineHead). part_told (types_of new) given (of_routine q)) (if t then Some r else None) ≡ option_map (λ (q : RoutineHead). part_told (types_of old) given (of_routine q)) (if t then Some r else None)
      seen true = ap (λ (t : Told). Some t) (part_stays given (of_routine r) b.0)
      seen false = refl

      by : (t : Bool) → option_map (λ (q : RoutineHead). part_told (types_of new) given (of_routine q)) (if_seen false (first_named routine_name name rs)) ≡ option_map (λ (q : RoutineHead). part_told (types_of old) given (of_routine q)) (if_seen false (first_named routine_name name rs))
          → option_map (λ (q : RoutineHead). part_told (types_of new) given (of_routine q)) (if_seen false (if t then Some r else first_named routine_name name rs))
          ≡ option_map (λ (q : RoutineHead). part_told (types_of old) given (of_routine q)) (if_seen false (if t then Some r else first_named routine_name name rs))
      by true rest = seen (false || r.exported)
      by false rest = rest

  in_stays : (its : Module) → ModuleBelow (length old) its → (name : List ℕ) (given : Actuals) → told_in (types_of new) false its (Some name) given ≡ told_in (types_of old) false its (Some name) given
  in_stays (own head) b name given = among_routines name given (routines_in head.form) b.1
  in_stays (kept spec) b name given = refl

  -- ---- what is given

  first_wanted : (number : ℕ) (name : List ℕ) (demands : List Demanded) → WantedBelow (length old) demands → option_map (given_told (types_of new)) (first_asked number name demands) ≡ option_map (given_told (types_of old)) (first_asked number name demands)
  first_wanted number name [] b = refl
  first_wanted number name (d ∷ demands) b = by (is_asked number name d) (first_wanted number name demands b.1)
    where
      by : (t : Bool) → option_map (given_told (types_of new)) (first_asked number name demands) ≡ option_map (given_told (types_of old)) (first_asked number name demands)
          → option_map (given_told (types_of new)) (if t then Some d else first_asked number name demands) ≡ option_map (given_told (types_of old)) (if t then Some d else first_asked number name demands)
      by true rest = ap (λ (t : Option CluType). let it : Told = record { type = t; asks = [] } in Some it) (option_stays old new grows d.wanted b.0)
      by false rest = rest

  module _ (headed : Headed) (below : (n : ℕ) → WantedBelow (length old) (asked_in headed n)) where
    by_stays : (node : Option ℕ) (number : ℕ) (name : List ℕ) → told_given headed (types_of new) node number name ≡ told_given headed (types_of old) node number name
    by_stays (Some node) number name = first_wanted number name (asked_in headed node) (below node)
    by_stays None number name = refl

    fitting_stays : (number : ℕ) (wanted : CluType) (node : Option ℕ) (name : List ℕ) → told_fitting headed (types_of new) number wanted node name ≡ told_fitting headed (types_of old) number wanted node name
    fitting_stays number wanted node name = ap (fitting wanted) (by_stays node number name)

    round_stays : (n number : ℕ) (wanted : CluType) (name : List ℕ) → told_for headed (types_of new) number wanted n name ≡ told_for headed (types_of old) number wanted n name
    round_stays n number wanted name =
        ap₂ (λ (a b : Option Told). option_or a b)
        (ap₂ (λ (a b : Option Told). option_or a b) (fitting_stays number wanted (round_in headed.file n).routine name) (fitting_stays number wanted (round_in headed.file n).cluster name))
        (fitting_stays number wanted (set_round headed.file n number) name)

-- ---- clauses say what is given

or_none : {A : Type 0} (a : Option A) → option_or a None ≡ a
or_none (Some x) = refl
or_none None = refl

set_first : (n : ℕ) (k : NodeKind) (m : ℕ) → if_set n k ≡ Some m → n ≡ m
set_first n kind.TypeSet m e = same_Some n m e
set_first n _ m e = absurd (none-some m e)

set_is : (n m : ℕ) (inner outer : NodeKind) → option_or (if_set n inner) (if_set n outer) ≡ Some m → n ≡ m
set_is n m inner outer e = by (if_set n inner) refl e
  where
    by : (o : Option ℕ) → if_set n inner ≡ o → option_or o (if_set n outer) ≡ Some m → n ≡ m
    by (Some x) is e = set_first n inner m (is ∙ e)
    by None is e = set_first n outer m e

module _ (headed : Headed) (types : List CluType) where
  asking_same : (node : Option ℕ) (number : ℕ) (name : List ℕ) → told_given headed types (if_asking headed node) number name ≡ told_given headed types node number name
  asking_same (Some node) number name = by (asked_in headed node) refl
    where
      by : (demands : List Demanded) → asked_in headed node ≡ demands → told_given headed types (if_some node demands) number name ≡ option_map (given_told types) (first_asked number name demands)
      by [] e = refl
      by (d ∷ demands) e = ap (λ (l : List Demanded). option_map (given_told types) (first_asked number name l)) e
  asking_same None number name = refl

  abbrev by_node : ℕ → CluType → List ℕ → Option ℕ → Option Told
  by_node number wanted name node = told_fitting headed types number wanted node name

  asking_fits : (number : ℕ) (wanted : CluType) (name : List ℕ) (node : Option ℕ) → by_node number wanted name node ≡ by_node number wanted name (if_asking headed node)
  asking_fits number wanted name node = ap (fitting wanted) (sym (asking_same node number name))

  pub given_same : AreInSets headed → (n number : ℕ) (wanted : CluType) (name : List ℕ) → told_for headed types number wanted n name ≡ given_inside headed types (clauses_at headed n) number name wanted (set_at headed n)
  given_same sets n number wanted name = by (set_at headed n) refl
    where
      by : (o : Option ℕ) → set_at headed n ≡ o → told_for headed types number wanted n name ≡ given_inside headed types (clauses_at headed n) number name wanted o
      by (Some m) e = ap (λ (k : ℕ). told_for headed types number wanted k name) (set_is n m (kind_in headed.file n) (kind_in headed.file (round_in headed.file n).body_last) e)
      by None e =
          ap (λ (set : Option ℕ). option_or (option_or (by_node number wanted name (round_in headed.file n).routine) (by_node number wanted name (round_in headed.file n).cluster)) (by_node number wanted name set)) (sets n e number)
          ∙ or_none (option_or (by_node number wanted name (round_in headed.file n).routine) (by_node number wanted name (round_in headed.file n).cluster))
          ∙ ap₂ (λ (a b : Option Told). option_or a b) (asking_fits number wanted name (round_in headed.file n).routine) (asking_fits number wanted name (round_in headed.file n).cluster)

-- ---- what is told of a type

module _ (headed : Headed) (start : List Term) (sets : AreInSets headed) (finding : Finding) (was : IsFinding headed start finding) (now : List Term) (grows : Grows start now) (names : List (List ℕ)) (n : ℕ) (need : Need) (name : List ℕ)
    (named_so : slice_get names need.operation.0 ≡ Some name) where
  abbrev of : TypeId
  of = need.of

  abbrev operation_id : NameId
  operation_id = need.operation

  abbrev asked_type : CluType
  asked_type = type_at (types_of now) need.wanted

  abbrev IsTold : CluType → Type 0
  IsTold t = told_asked headed now names n need ≡ found_under headed (types_of start) (clauses_at headed n) t name asked_type

  as_parameter : (number : ℕ) → shape_of now of ≡ shape.Parameter number → IsTold (parameter number)
  unfolding told_asked
  as_parameter number is =
      ap (told_shape headed now names n need) is
      ∙ ap (option_and_then (told_for headed (types_of now) number asked_type n)) named_so
      ∙ round_stays start now grows headed was.asked n number asked_type name
      ∙ given_same headed (types_of start) sets n number asked_type name

  -- of a built-in type
  builtin_is : (t : CluType) → shape_of now of ≡ shape.Builtin → type_at (types_of now) of ≡ t → told_asked headed now names n need ≡ option_map builtin_told (operation t name)
  unfolding told_asked told_seen wished_told
  builtin_is t is type =
      ap (told_shape headed now names n need) is
      ∙ ap (λ (s : Shape). told_view headed now names of (Some operation_id) (view_by headed.file now None of s)) is
      ∙ ap (λ (o : Option (List ℕ)). option_map builtin_told (operation_if (type_at (types_of now) of) o)) named_so
      ∙ ap (λ (u : CluType). option_map builtin_told (operation u name)) type

  -- of a cluster
  abbrev seen_of : List CluType → List ℕ → Option Actuals → Option ModuleId → Option Told
  seen_of types own_name given (Some id) = option_and_then (λ its. option_and_then (told_by types false its names (Some operation_id)) given) (known_of headed id)
  seen_of types own_name given None = None

  cluster_is : (c : List ℕ) (given : Actuals) (o : Option ModuleId) → seen_of (types_of now) c (Some given) o ≡ exported_in headed (types_of start) name given (option_and_then (known_of headed) o)
  cluster_is c given None = refl
  cluster_is c given (Some id) = by (known_of headed id) refl
    where
      by : (o : Option Module) → known_of headed id ≡ o → option_and_then (λ its. option_and_then (told_by (types_of now) false its names (Some operation_id)) (Some given)) o ≡ exported_in headed (types_of start) name given o
      by (Some its) e =
          ap (option_and_then (λ (own_name : List ℕ). told_in (types_of now) false its (Some own_name) given)) named_so
          ∙ in_stays start now grows its ((was.ready id its e).below) name given
      by None e = refl

  as_cluster : (c : List ℕ) (given : Actuals) → shape_of now of ≡ shape.Cluster → name_in (slice_get now of.0) ≡ Some c → type_at (types_of now) of ≡ cluster_of c given → IsTold (cluster_of c given)
  unfolding told_asked told_seen wished_told
  as_cluster c given is own_name type =
      ap (told_shape headed now names n need) is
      ∙ ap (λ (s : Shape). told_view headed now names of (Some operation_id) (view_by headed.file now None of s)) is
      ∙ ap (λ (o : Option (List ℕ)). told_view headed now names of (Some operation_id) (option_and_then (λ (its_name : List ℕ). option_map view.Outside (named headed.file.bindings.now.modules its_name)) o)) own_name
      ∙ by (named headed.file.bindings.now.modules c)
    where
      by : (o : Option ModuleId) → told_view headed now names of (Some operation_id) (option_map view.Outside o) ≡ exported_in headed (types_of start) name given (option_and_then (known_of headed) o)
      by (Some id) =
          ap (λ (t : CluType). seen_of (types_of now) c (cluster_given t) (Some id)) type ∙ cluster_is c given (Some id)
      by None = refl

  pub told_of_term : (its : Term) → slice_get now of.0 ≡ Some its → (types : List CluType) → type_at (types_of now) of ≡ type_of types its → IsTold (type_of types its)
  told_of_term (term.Cluster c actuals) at types is = as_cluster c (actuals_at types actuals) (ap shape_in at) (ap name_in at) is
  told_of_term (term.Param number) at types is = as_parameter number (ap shape_in at)
  told_of_term (term.Array id) at types is = builtin_is (type_of types (term.Array id)) (ap shape_in at) is
  told_of_term (term.Sequence id) at types is = builtin_is (type_of types (term.Sequence id)) (ap shape_in at) is
  told_of_term (term.Record fields) at types is = builtin_is (type_of types (term.Record fields)) (ap shape_in at) is
  told_of_term (term.Struct fields) at types is = builtin_is (type_of types (term.Struct fields)) (ap shape_in at) is
  told_of_term (term.Oneof fields) at types is = builtin_is (type_of types (term.Oneof fields)) (ap shape_in at) is
  told_of_term (term.Variant fields) at types is = builtin_is (type_of types (term.Variant fields)) (ap shape_in at) is
  told_of_term (term.Proc heading) at types is = builtin_is (type_of types (term.Proc heading)) (ap shape_in at) is
  told_of_term (term.Iter heading) at types is = builtin_is (type_of types (term.Iter heading)) (ap shape_in at) is
  told_of_term term.Null at types is = builtin_is (type_of types term.Null) (ap shape_in at) is
  told_of_term term.Bool at types is = builtin_is (type_of types term.Bool) (ap shape_in at) is
  told_of_term term.Int at types is = builtin_is (type_of types term.Int) (ap shape_in at) is
  told_of_term term.Char at types is = builtin_is (type_of types term.Char) (ap shape_in at) is
  told_of_term term.Str at types is = builtin_is (type_of types term.Str) (ap shape_in at) is
  told_of_term term.Any at types is = builtin_is (type_of types term.Any) (ap shape_in at) is
  told_of_term term.Stream at types is = builtin_is (type_of types term.Stream) (ap shape_in at) is

-- ---- what is found of a type that ascends asks of such types

abbrev AllUp : List Ask → Type 0
AllUp asks = (a : Ask) → Contains asks a → ascends a.of ≡ true

abbrev AsksUp : Option Told → Type 0
AsksUp o = IfSome o (λ it. AllUp it.asks)

no_asks : AllUp []
no_asks a h = absurd (omega (arith, h.1))

one_up : (a : Ask) → ascends a.of ≡ true → AllUp (a ∷ [])
one_up a up b h = elim (head_or_tail a [] b h) [
  | inl is ↦ ap (λ (x : Ask). ascends x.of) (sym is) ∙ up
  | inr there ↦ absurd (omega (arith, there.1))
]

both_up : (xs ys : List Ask) → AllUp xs → AllUp ys → AllUp (xs ++ ys)
both_up [] ys p q a h = q a h
both_up (x ∷ xs) ys p q a h = elim (head_or_tail x (xs ++ ys) a h) [
  | inl is ↦ ap (λ (y : Ask). ascends y.of) (sym is) ∙ p x (0, omega arith, refl)
  | inr there ↦ both_up xs ys (λ b k. p b (suc k.0, omega (arith, k.1), k.2)) q a there
]

put_asks : (given : Actuals) → ActualsAscend given → (number : ℕ) (name : List ℕ) (in_set : Bool) (wanted : Option CluType) → AllUp (asked_of given number name in_set wanted)
put_asks given up number name in_set (Some wanted) = one_up (record { of = type_put given number; operation = name; wanted = wanted; in_set = in_set }) (true_ascends (type_put given number) (put_up given up number))
put_asks given up number name in_set None = no_asks

own_asks : (types : List CluType) (given : Actuals) → ActualsAscend given → (demands : List Demanded) → AllUp (flat_map (demand_told types given) demands)
own_asks types given up [] = no_asks
own_asks types given up (d ∷ demands) =
    both_up (demand_told types given d) (flat_map (demand_told types given) demands) (put_asks given up d.parameter d.operation d.in_set (type_given types given d.wanted)) (own_asks types given up demands)

kept_asks : (types : List CluType) (given : Actuals) → ActualsAscend given → (demands : List Demand) → AllUp (flat_map (kept_demand_told types given) demands)
kept_asks types given up [] = no_asks
kept_asks types given up (d ∷ demands) =
    both_up (kept_demand_told types given d) (flat_map (kept_demand_told types given) demands) (put_asks given up d.param d.op false (Some (substituted given (type_at types d.wanted)))) (kept_asks types given up demands)

needed_up : (needs : List Needed) → ((x : Needed) → Contains needs x → ascends x.of ≡ true) → AllUp (map need_told needs)
needed_up [] each a h = no_asks a h
needed_up (x ∷ needs) each a h = elim (head_or_tail (need_told x) (map need_told needs) a h) [
  | inl is ↦ ap (λ (b : Ask). ascends b.of) (sym is) ∙ each x (0, omega arith, refl)
  | inr there ↦ needed_up needs (λ y k. each y (suc k.0, omega (arith, k.1), k.2)) a there
]

builtin_up : (t : CluType) → ascends t ≡ true → (name : List ℕ) → AsksUp (option_map builtin_told (operation t name))
builtin_up t up name = by (operation t name) refl
  where
    by : (o : Option Operation) → operation t name ≡ o → AsksUp (option_map builtin_told o)
    by (Some op) e = needed_up op.needs (λ x h. true_ascends x.of (part_up t (ascends_true t up) x.of (needs_of_parts t name op e x h)))
    by None e = tt

module _ (headed : Headed) (types : List CluType) where
  routine_up : (given : Actuals) → ActualsAscend given → (o : Option RoutineHead) → AsksUp (option_map (λ (r : RoutineHead). part_told types given (of_routine r)) o)
  routine_up given up (Some r) = own_asks types given up r.demands
  routine_up given up None = tt

  module_up : (given : Actuals) → ActualsAscend given → (name : List ℕ) (o : Option Module) → AsksUp (exported_in headed types name given o)
  module_up given up name (Some (own head)) = routine_up given up (routine_named false name (routines_in head.form))
  module_up given up name (Some (kept spec)) = by (first_named operation_name name (operations_in spec.form))
    where
      by : (o : Option OpSpec) → AsksUp (option_map (λ (op : OpSpec). routine_told (types_of spec.types) given (Some op) op.demands) o)
      by (Some op) = kept_asks (types_of spec.types) given up op.demands
      by None = tt
  module_up given up name None = tt

  some_up : (a b : Option Told) → AsksUp a → AsksUp b → AsksUp (option_or a b)
  some_up (Some x) b p q = p
  some_up None b p q = q

  by_up : (node : Option ℕ) (number : ℕ) (name : List ℕ) → AsksUp (told_given headed types node number name)
  by_up (Some node) number name = by (first_asked number name (asked_in headed node))
    where
      by : (o : Option Demanded) → AsksUp (option_map (given_told types) o)
      by (Some d) = no_asks
      by None = tt
  by_up None number name = tt

  fitting_up : (number : ℕ) (wanted : CluType) (node : Option ℕ) (name : List ℕ) → AsksUp (told_fitting headed types number wanted node name)
  fitting_up number wanted node name = by (told_given headed types node number name) (by_up node number name)
    where
      if_fits : (it : Told) → AllUp it.asks → (b : Bool) → AsksUp (if b then Some it else None)
      if_fits it up true = up
      if_fits it up false = tt

      by : (o : Option Told) → AsksUp o → AsksUp (fitting wanted o)
      by (Some it) up = if_fits it up (may_fit it.type wanted)
      by None up = tt

  given_up : (u : Clauses) (number : ℕ) (name : List ℕ) (wanted : CluType) (o : Option ℕ) → AsksUp (given_inside headed types u number name wanted o)
  given_up u number name wanted (Some n) =
      some_up _ _ (some_up _ _ (fitting_up number wanted (round_in headed.file n).routine name) (fitting_up number wanted (round_in headed.file n).cluster name)) (fitting_up number wanted (set_round headed.file n number) name)
  given_up u number name wanted None = some_up _ _ (fitting_up number wanted u.routine name) (fitting_up number wanted u.cluster name)

  found_up : (u : Clauses) (t : CluType) → ascends t ≡ true → (name : List ℕ) (wanted : CluType) → AsksUp (found_under headed types u t name wanted)
  found_up u (cluster_of c given) up name wanted = module_up given (ascends_true (cluster_of c given) up) name (module_of_name headed types c)
  found_up u (parameter number) up name wanted = given_up u number name wanted u.set
  found_up u (array_of t) up name wanted = builtin_up (array_of t) up name
  found_up u (sequence_of t) up name wanted = builtin_up (sequence_of t) up name
  found_up u (record_of fields) up name wanted = builtin_up (record_of fields) up name
  found_up u (struct_of fields) up name wanted = builtin_up (struct_of fields) up name
  found_up u (oneof_of fields) up name wanted = builtin_up (oneof_of fields) up name
  found_up u (variant_of fields) up name wanted = builtin_up (variant_of fields) up name
  found_up u (proc_of args results signals) up name wanted = builtin_up (proc_of args results signals) up name
  found_up u (iter_of args results signals) up name wanted = builtin_up (iter_of args results signals) up name
  found_up u null_type up name wanted = builtin_up null_type up name
  found_up u bool_type up name wanted = builtin_up bool_type up name
  found_up u int_type up name wanted = builtin_up int_type up name
  found_up u char_type up name wanted = builtin_up char_type up name
  found_up u string_type up name wanted = builtin_up string_type up name
  found_up u any_type up name wanted = builtin_up any_type up name
  found_up u stream_type up name wanted = builtin_up stream_type up name

-- ---- all that is asked of a setting

pub setting_looks : (headed : Headed) (terms : List Term) (finding : Finding) → AreInSets headed → IsFinding headed terms finding → Looks headed (setting_of headed terms finding)
setting_looks headed terms finding sets was = record {
  told = λ n now later its need there.
      (let d : Term = term.Null in
      let name : List ℕ = get_or now.finding.words need.operation.0 [] in
      let wanted : CluType = type_at (types_of now.terms) need.wanted in
      let at : slice_get now.terms need.of.0 ≡ Some (get_or now.terms need.of.0 d) = slice_get-get_or now.terms need.of.0 d there.of in
      let read : Reads now.terms need.of (get_or now.terms need.of.0 d) = reads now.terms need.of (get_or now.terms need.of.0 d) at in
      subst (λ (t : CluType). told_asked headed now.terms now.finding.words n need ≡ found_under headed (types_of terms) (clauses_at headed n) t name wanted) (sym read.is)
      (told_of_term headed terms sets finding was now.terms later.0 now.finding.words n need name (slice_get-get_or now.finding.words need.operation.0 [] there.operation) (get_or now.terms need.of.0 d) at read.types read.is));
  ascend = λ t up. components_up t (ascends_true t up);
  fine = λ u t name wanted it up is a h. fine_by (found_under headed (types_of terms) u t name wanted) (found_up headed (types_of terms) u t up name wanted) it is a h;
}
  where
    fine_by : (o : Option Told) → AsksUp o → (it : Told) → o ≡ Some it → AllUp it.asks
    fine_by (Some x) up it e = subst (λ (y : Told). AllUp y.asks) (same_Some x it e) up
    fine_by None up it e = absurd (none-some it e)
