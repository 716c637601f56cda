-- What is asked is met just if it is one of some of which each is answered by an operation that asks no others.
use Rattle.std.proofs.Common.{◌≡◌, ◌∙◌, ◌↔◌, ◌⊎◌, inl, inr, ℕ, zero, suc, ◌-◌, ◌<◌, ◌==◌, ◌&&◌, ◌||◌, Bool, true, false, if◌then◌else◌, List, [], ◌∷◌, ◌++◌, Contains, length, map, flat_map, get_or, Option, Some, None, IsTrue, refl, sym, ap, subst, arith, eq-eqb, eqb-true}
use Rattle.std.specs.List.{list_all}
use Rattle.std.specs.Option.{option_map, option_or}
use Rattle.std.proofs.lemmas.Bool.{true≢false, and_parts, and_from}
use Rattle.std.proofs.lemmas.Option.{none-some, same_Some}
use Rattle.std.proofs.lemmas.List.Elements.{Contains-append_left, Contains-append_right}
use Rattle.clu_types.specs.CluType.{CluType, null_type, bool_type, int_type, char_type, string_type, any_type, stream_type, array_of, sequence_of, record_of, struct_of, oneof_of, variant_of, proc_of, iter_of, cluster_of, parameter, Fields, no_fields, field_and, Actuals, no_actuals, actual_type, actual_const, actual_param}
use Rattle.clu_types.specs.Substituted.{substituted, type_put, type_of_actual}
use Rattle.clu_builtin.specs.Operation.{Needed, Operation}
use Rattle.clu_builtin.specs.Table.{operation}
use Rattle.clu_layout.specs.SameType.{same_type, fits}
use Rattle.clu_layout.proofs.SameTypeLaws.{types_are, type_same}
use Rattle.clu_syntax.specs.Syntax.{Identifier}
use Rattle.clu_checking.specs.Specifications.{Demand, Heading, Specification}
use Rattle.clu_checking.specs.Operations.{Asked, Found, needed, builtin_type, builtin_found, given_of, asked_as, demanded, routine_found, are_met_by, is_met_by, may_fit, is_put_met, is_met_in, exported_operation, is_included, is_given_by, meets, part_meets, actual_meets}
use Rattle.clu_operations.specs.Told.{Ask, Told}
use Rattle.clu_type_rules.specs.Closed.{IsAnswered, IsClosed, IsMet}
use Rattle.clu_type_rules.specs.Meeting as tables
use Rattle.clu_type_rules.specs.Meeting.{plain, Meets}
use Rattle.clu_passes.specs.Met.{IsComponent, IsPartOf, given_counted, fitting, given_for, counted, asked_told, found_told, TellCounted}
use Rattle.clu_passes.proofs.PartNeeds.{needs_of_parts}

-- ---- tests and lists

module _ {X : Type 0} where
  head_or_tail : (x : X) (xs : List X) (m : X) → Contains (x ∷ xs) m → (x ≡ m) ⊎ Contains xs m
  head_or_tail x xs m h = by h.0 h.1 h.2
    where
      by : (k : ℕ) → k < length (x ∷ xs) → get_or (x ∷ xs) k m ≡ m → (x ≡ m) ⊎ Contains xs m
      by zero lt is = inl is
      by (suc k) lt is = inr (k, omega (arith, lt), is)

  in_head : (x : X) (xs : List X) → Contains (x ∷ xs) x
  in_head x xs = (0, omega arith, refl)

  in_tail : (x : X) (xs : List X) (m : X) → Contains xs m → Contains (x ∷ xs) m
  in_tail x xs m h = (suc h.0, omega (arith, h.1), h.2)

  in_none : {A : Type 0} (m : X) → Contains [] m → A
  in_none m h = absurd (omega (arith, h.1))

  in_either : (xs ys : List X) (m : X) → Contains (xs ++ ys) m → Contains xs m ⊎ Contains ys m
  in_either [] ys m h = inr h
  in_either (x ∷ xs) ys m h = elim (head_or_tail x (xs ++ ys) m h) [
    | inl is ↦ inl (subst (λ (y : X). Contains (x ∷ xs) y) is (in_head x xs))
    | inr there ↦ elim (in_either xs ys m there) [ inl a ↦ inl (in_tail x xs m a) | inr b ↦ inr b ]
  ]

  all_true : (p : X → Bool) (xs : List X) → ((x : X) → Contains xs x → p x ≡ true) → list_all p xs ≡ true
  all_true p [] each = refl
  all_true p (x ∷ xs) each = ap (λ (b : Bool). b && list_all p xs) (each x (in_head x xs)) ∙ all_true p xs (λ y h. each y (in_tail x xs y h))

  each_true : (p : X → Bool) (xs : List X) → list_all p xs ≡ true → (x : X) → Contains xs x → p x ≡ true
  each_true p [] all x h = in_none x h
  each_true p (y ∷ xs) all x h = elim (head_or_tail y xs x h) [
    | inl is ↦ ap p (sym is) ∙ (and_parts (p y) (list_all p xs) all).0
    | inr there ↦ each_true p xs (and_parts (p y) (list_all p xs) all).1 x there
  ]

module _ {X Y : Type 0} where
  in_mapped : (f : X → Y) (xs : List X) (x : X) → Contains xs x → Contains (map f xs) (f x)
  in_mapped f [] x h = in_none x h
  in_mapped f (y ∷ xs) x h = elim (head_or_tail y xs x h) [
    | inl is ↦ subst (λ (z : X). Contains (map f (y ∷ xs)) (f z)) is (in_head (f y) (map f xs))
    | inr there ↦ in_tail (f y) (map f xs) (f x) (in_mapped f xs x there)
  ]

  from_mapped : (f : X → Y) (xs : List X) (y : Y) → Contains (map f xs) y → (x : X) × Contains xs x × (f x ≡ y)
  from_mapped f [] y h = in_none y h
  from_mapped f (x ∷ xs) y h = elim (head_or_tail (f x) (map f xs) y h) [
    | inl is ↦ (x, in_head x xs, is)
    | inr there ↦ (let r = from_mapped f xs y there in (r.0, in_tail x xs r.0 r.1, r.2))
  ]

  in_flat : (f : X → List Y) (xs : List X) (x : X) (y : Y) → Contains xs x → Contains (f x) y → Contains (flat_map f xs) y
  in_flat f [] x y h k = in_none x h
  in_flat f (z ∷ xs) x y h k = elim (head_or_tail z xs x h) [
    | inl is ↦ Contains-append_left (f z) (flat_map f xs) y (subst (λ (u : X). Contains (f u) y) (sym is) k)
    | inr there ↦ Contains-append_right (f z) (flat_map f xs) y (in_flat f xs x y there k)
  ]

  from_flat : (f : X → List Y) (xs : List X) (y : Y) → Contains (flat_map f xs) y → (x : X) × Contains xs x × Contains (f x) y
  from_flat f [] y h = in_none y h
  from_flat f (x ∷ xs) y h = elim (in_either (f x) (flat_map f xs) y h) [
    | inl here ↦ (x, in_head x xs, here)
    | inr there ↦ (let r = from_flat f xs y there in (r.0, in_tail x xs r.0 r.1, r.2))
  ]

not_first : (i : ℕ) → (suc (suc i) == 1) ≡ false
not_first i = by (suc (suc i) == 1) refl
  where
    by : (b : Bool) → (suc (suc i) == 1) ≡ b → b ≡ false
    by true e = absurd (omega (arith, eqb-true (suc (suc i)) 1 e))
    by false e = refl

less_one : (i : ℕ) → suc (suc i) - 1 ≡ suc i
less_one i = omega arith

-- ---- lists that are closed, joined

module _ {N : Type 0} (asks : N → Option (List N)) where
  stays : (few many : List N) → ((n : N) → Contains few n → Contains many n) → (n : N) → IsAnswered asks few n → IsAnswered asks many n
  stays few many more n a = (a.0, a.1, λ x h. more x (a.2 x h))

  both_closed : (xs ys : List N) → IsClosed asks xs → IsClosed asks ys → IsClosed asks (xs ++ ys)
  both_closed xs ys p q n h = elim (in_either xs ys n h) [
    | inl here ↦ stays xs (xs ++ ys) (λ m k. Contains-append_left xs ys m k) n (p n here)
    | inr there ↦ stays ys (xs ++ ys) (λ m k. Contains-append_right xs ys m k) n (q n there)
  ]

  gathered : (more : List N) → ((m : N) → Contains more m → IsMet asks m) → (all : List N) × ((m : N) → Contains more m → Contains all m) × IsClosed asks all
  gathered [] each = ([], λ m h. h, λ m h. in_none m h)
  gathered (m ∷ more) each =
      let first = each m (in_head m more) in
      let rest = gathered more (λ x h. each x (in_tail m more x h)) in (
        first.0 ++ rest.0,
        λ x h. elim (head_or_tail m more x h) [
          | inl is ↦ Contains-append_left first.0 rest.0 x (subst (λ (y : N). Contains first.0 y) is first.1)
          | inr there ↦ Contains-append_right first.0 rest.0 x (rest.1 x there)
        ],
        both_closed first.0 rest.0 first.2 rest.2,
      )

  -- what asks only what is met is met
  is_met : (n : N) (more : List N) → asks n ≡ Some more → ((m : N) → Contains more m → IsMet asks m) → IsMet asks n
  is_met n more e each =
      let rest = gathered more each in (
        n ∷ rest.0,
        in_head n rest.0,
        λ x h. elim (head_or_tail n rest.0 x h) [
          | inl is ↦ subst (IsAnswered asks (n ∷ rest.0)) is (more, e, λ m k. in_tail n rest.0 m (rest.1 m k))
          | inr there ↦ stays rest.0 (n ∷ rest.0) (λ m k. in_tail n rest.0 m k) x (rest.2 x there)
        ],
      )

-- ---- what is asked of a type by the definitions

abbrev ask : CluType → List ℕ → CluType → Ask
ask t name wanted = record { of = t; operation = name; wanted = wanted; in_set = false }

abbrev asked_of : Asked → Ask
asked_of a = ask a.of a.operation a.wanted

abbrev asks_by : CluType → Option Found → Option (List Ask)
asks_by wanted (Some it) = if may_fit it.type wanted then Some (map asked_of it.asks) else None
asks_by wanted None = None

abbrev none_asked : Option (List Ask)
none_asked = Some []

-- what is given asks nothing else
asks_given : (k : ℕ) (name : List ℕ) (wanted : CluType) (clauses : List (List Demand)) → asks_by wanted (option_map given_counted (given_for clauses k name wanted)) ≡ (if is_given_by clauses k name wanted then none_asked else None)
asks_given k name wanted [] = refl
asks_given k name wanted (given ∷ clauses) = by (given_of given k name) (asks_given k name wanted clauses)
  where
    among : (d : Demand) → asks_by wanted (option_map given_counted (given_for clauses k name wanted)) ≡ (if is_given_by clauses k name wanted then none_asked else None) → (b : Bool) → may_fit d.wanted wanted ≡ b
        → asks_by wanted (option_map given_counted (option_or (if b then Some d else None) (given_for clauses k name wanted))) ≡ (if b || is_given_by clauses k name wanted then none_asked else None)
    among d later true e = ap (λ (b : Bool). if b then none_asked else None) e
    among d later false e = later

    by : (o : Option Demand) → asks_by wanted (option_map given_counted (given_for clauses k name wanted)) ≡ (if is_given_by clauses k name wanted then none_asked else None)
        → asks_by wanted (option_map given_counted (option_or (fitting wanted o) (given_for clauses k name wanted))) ≡ (if is_included wanted o || is_given_by clauses k name wanted then none_asked else None)
    by (Some d) later = among d later (may_fit d.wanted wanted) refl
    by None later = later

-- ---- the actual of a number

module _ (clauses : List (List Demand)) (specified : Identifier → Option Specification) where
  abbrev put : Actuals → ℕ → Identifier → CluType → Bool
  put placed = λ k op w. actual_meets clauses specified placed k (is_given_by clauses k op w) op w

  first_actual : (t : CluType) (rest : Actuals) (stays : Bool) (name : List ℕ) (wanted : CluType) → actual_meets clauses specified (actual_type t rest) 1 stays name wanted ≡ meets clauses specified t name wanted
  first_actual t rest stays name wanted = ap (λ (b : Bool). if b then meets clauses specified t name wanted else actual_meets clauses specified rest (1 - 1) stays name wanted) (eq-eqb 1 1 refl)

  later_actual : (t : CluType) (rest : Actuals) (i : ℕ) (stays : Bool) (name : List ℕ) (wanted : CluType) → actual_meets clauses specified (actual_type t rest) (suc (suc i)) stays name wanted ≡ actual_meets clauses specified rest (suc i) stays name wanted
  later_actual t rest i stays name wanted =
      ap (λ (b : Bool). if b then meets clauses specified t name wanted else actual_meets clauses specified rest (suc (suc i) - 1) stays name wanted) (not_first i)
      ∙ ap (λ (k : ℕ). actual_meets clauses specified rest k stays name wanted) (less_one i)

  -- none has the number 0
  no_actual : (placed : Actuals) (k : ℕ) → k ≡ 0 → (stays : Bool) (name : List ℕ) (wanted : CluType) → actual_meets clauses specified placed k stays name wanted ≡ stays
  no_actual no_actuals k e stays name wanted = refl
  no_actual (actual_type t rest) k e stays name wanted =
      ap (λ (b : Bool). if b then meets clauses specified t name wanted else actual_meets clauses specified rest (k - 1) stays name wanted) (not_zero k e) ∙ no_actual rest (k - 1) (omega (arith, e)) stays name wanted
    where
      not_zero : (k : ℕ) → k ≡ 0 → (k == 1) ≡ false
      not_zero k e = by (k == 1) refl
        where
          by : (b : Bool) → (k == 1) ≡ b → b ≡ false
          by true is = absurd (omega (arith, e, eqb-true k 1 is))
          by false is = refl
  no_actual (actual_const c rest) k e stays name wanted = no_actual rest (k - 1) (omega (arith, e)) stays name wanted
  no_actual (actual_param p rest) k e stays name wanted = no_actual rest (k - 1) (omega (arith, e)) stays name wanted

module _ (clauses : List (List Demand)) (specified : Identifier → Option Specification) where
  abbrev asks : Ask → Option (List Ask)
  asks a = asks_by a.wanted (counted clauses specified a.of a.operation a.wanted)

  -- ---- what is closed is met

  module _ (those : List Ask) (closed : IsClosed asks those) where
    abbrev There : CluType → List ℕ → CluType → Type 0
    There t name wanted = Contains those (ask t name wanted)

    abbrev Answer : CluType → Found → Type 0
    Answer wanted it = (may_fit it.type wanted ≡ true) × ((a : Asked) → Contains it.asks a → There a.of a.operation a.wanted)

    answered : (t : CluType) (name : List ℕ) (wanted : CluType) → There t name wanted → (o : Option Found) → counted clauses specified t name wanted ≡ o → (it : Found) × (o ≡ Some it) × Answer wanted it
    answered t name wanted h o e = by o e (closed (ask t name wanted) h)
      where
        fitting : (it : Found) (b : Bool) → may_fit it.type wanted ≡ b → (more : List Ask) → (if b then Some (map asked_of it.asks) else None) ≡ Some more → ((m : Ask) → Contains more m → Contains those m) → Answer wanted it
        fitting it true fit more is sub = (fit, λ a k. sub (asked_of a) (subst (λ (l : List Ask). Contains l (asked_of a)) (same_Some (map asked_of it.asks) more is) (in_mapped asked_of it.asks a k)))
        fitting it false fit more is sub = absurd (none-some more is)

        by : (o : Option Found) → counted clauses specified t name wanted ≡ o → IsAnswered asks those (ask t name wanted) → (it : Found) × (o ≡ Some it) × Answer wanted it
        by (Some it) e a = (it, refl, fitting it (may_fit it.type wanted) refl a.0 (sym (ap (asks_by wanted) e) ∙ a.1) a.2)
        by None e a = absurd (none-some a.0 (sym (ap (asks_by wanted) e) ∙ a.1))

    builtin_met : (t : CluType) (name : List ℕ) (wanted : CluType) (test : CluType → Identifier → CluType → Bool) → counted clauses specified t name wanted ≡ option_map builtin_found (operation t name) → There t name wanted
        → ((o : Operation) → operation t name ≡ Some o → (n : Needed) → Contains o.needs n → There n.of n.op n.wanted → test n.of n.op n.wanted ≡ true) → is_met_by test wanted (operation t name) ≡ true
    builtin_met t name wanted test is h each = by (operation t name) refl
      where
        by : (o : Option Operation) → operation t name ≡ o → is_met_by test wanted o ≡ true
        by None e = let a = answered t name wanted h None (is ∙ ap (option_map builtin_found) e) in absurd (none-some a.0 a.1)
        by (Some op) e =
            let a = answered t name wanted h (Some (builtin_found op)) (is ∙ ap (option_map builtin_found) e) in
            let it : builtin_found op ≡ a.0 = same_Some (builtin_found op) a.0 a.1 in
            let found : Answer wanted (builtin_found op) = subst (Answer wanted) (sym it) a.2 in
            and_from (fits (builtin_type op.iter op) wanted) (are_met_by test op.needs) found.0
            (all_true (λ (n : Needed). test n.of n.op n.wanted) op.needs (λ n k. each op e n k (found.1 (needed n) (in_mapped needed op.needs n k))))

    in_part : (t of : CluType) (name : List ℕ) (wanted : CluType) (fs : Fields) → (t ≡ of) ⊎ IsComponent fs of → (t ≡ of → meets clauses specified t name wanted ≡ true) → (IsComponent fs of → part_meets clauses specified fs of name wanted ≡ true) → (b : Bool) → same_type t of ≡ b
        → (if b then meets clauses specified t name wanted else part_meets clauses specified fs of name wanted) ≡ true
    in_part t of name wanted fs is here later true e = here (types_are t of e)
    in_part t of name wanted fs (inl same) here later false e = absurd (true≢false (sym (type_same of) ∙ ap (λ (u : CluType). same_type u of) (sym same) ∙ e))
    in_part t of name wanted fs (inr there) here later false e = later there

    of_given : (k : ℕ) (name : List ℕ) (wanted : CluType) → There (parameter k) name wanted → is_given_by clauses k name wanted ≡ true
    of_given k name wanted h = by (is_given_by clauses k name wanted) (sym (asks_given k name wanted clauses) ∙ (closed (ask (parameter k) name wanted) h).1)
      where
        by : (b : Bool) → (if b then none_asked else None) ≡ Some (closed (ask (parameter k) name wanted) h).0 → b ≡ true
        by true e = refl
        by false e = absurd (none-some (closed (ask (parameter k) name wanted) h).0 e)

    -- of each actual, where what its parameter would be is so
    abbrev EachActual : Actuals → Type 0
    EachActual placed = (i : ℕ) (other : CluType) (stays : Bool) (op : List ℕ) (w : CluType) → (There other op w → stays ≡ true) → There (type_of_actual placed i other) op w → actual_meets clauses specified placed (suc i) stays op w ≡ true

    by_number : (placed : Actuals) (k : ℕ) (op : List ℕ) (w : CluType) → EachActual placed → There (type_put placed k) op w → put clauses specified placed k op w ≡ true
    by_number placed zero op w each there = no_actual clauses specified placed zero refl (is_given_by clauses zero op w) op w ∙ of_given zero op w there
    by_number placed (suc i) op w each there = each i (parameter (suc i)) (is_given_by clauses (suc i) op w) op w (λ h. of_given (suc i) op w h) there

    one_put : (placed : Actuals) (demands : List Demand) (d : Demand) → Contains demands d → (o : Option CluType) → d.wanted ≡ o → ((x : Asked) → Contains (flat_map (demanded placed) demands) x → There x.of x.operation x.wanted) → EachActual placed → is_put_met (put clauses specified placed) placed d o ≡ true
    one_put placed demands d k None e found each = refl
    one_put placed demands d k (Some v) e found each =
        let x : Asked = record { of = type_put placed d.parameter; operation = d.operation; wanted = substituted placed v; in_set = d.in_set } in
        by_number placed d.parameter d.operation (substituted placed v) each (found x (in_flat (demanded placed) demands d x k (subst (λ (o : Option CluType). Contains (asked_as placed d o) x) (sym e) (in_head x []))))

    of_heading : (c : List ℕ) (placed : Actuals) (name : List ℕ) (wanted : CluType) → There (cluster_of c placed) name wanted → (o : Option Heading) → exported_operation name (specified c) ≡ o → EachActual placed → is_met_in (put clauses specified placed) placed wanted o ≡ true
    of_heading c placed name wanted h None e each = let a = answered (cluster_of c placed) name wanted h None (ap (option_map (routine_found placed)) e) in absurd (none-some a.0 a.1)
    of_heading c placed name wanted h (Some its) e each =
        let a = answered (cluster_of c placed) name wanted h (Some (routine_found placed its)) (ap (option_map (routine_found placed)) e) in
        let found : Answer wanted (routine_found placed its) = subst (Answer wanted) (sym (same_Some (routine_found placed its) a.0 a.1)) a.2 in
        and_from (may_fit (option_map (substituted placed) its.type) wanted) (list_all (λ d. is_put_met (put clauses specified placed) placed d d.wanted) its.demands) found.0
        (all_true (λ d. is_put_met (put clauses specified placed) placed d d.wanted) its.demands (λ d k. one_put placed its.demands d k d.wanted refl (λ w there. found.1 w there) each))

    mutual
      sound : (t : CluType) (name : List ℕ) (wanted : CluType) → There t name wanted → meets clauses specified t name wanted ≡ true
      sound null_type name wanted h = builtin_met null_type name wanted (λ of op w. true) refl h (λ o e n k there. refl)
      sound bool_type name wanted h = builtin_met bool_type name wanted (λ of op w. true) refl h (λ o e n k there. refl)
      sound int_type name wanted h = builtin_met int_type name wanted (λ of op w. true) refl h (λ o e n k there. refl)
      sound char_type name wanted h = builtin_met char_type name wanted (λ of op w. true) refl h (λ o e n k there. refl)
      sound string_type name wanted h = builtin_met string_type name wanted (λ of op w. true) refl h (λ o e n k there. refl)
      sound any_type name wanted h = builtin_met any_type name wanted (λ of op w. true) refl h (λ o e n k there. refl)
      sound stream_type name wanted h = builtin_met stream_type name wanted (λ of op w. true) refl h (λ o e n k there. refl)
      sound (proc_of args results signals) name wanted h = builtin_met (proc_of args results signals) name wanted (λ of op w. true) refl h (λ o e n k there. refl)
      sound (iter_of args results signals) name wanted h = builtin_met (iter_of args results signals) name wanted (λ of op w. true) refl h (λ o e n k there. refl)
      sound (array_of t) name wanted h =
          builtin_met (array_of t) name wanted (λ of op w. meets clauses specified t op w) refl h
          (λ o e n k there. sound t n.op n.wanted (subst (λ (u : CluType). There u n.op n.wanted) (sym (needs_of_parts (array_of t) name o e n k)) there))
      sound (sequence_of t) name wanted h =
          builtin_met (sequence_of t) name wanted (λ of op w. meets clauses specified t op w) refl h
          (λ o e n k there. sound t n.op n.wanted (subst (λ (u : CluType). There u n.op n.wanted) (sym (needs_of_parts (sequence_of t) name o e n k)) there))
      sound (record_of fs) name wanted h =
          builtin_met (record_of fs) name wanted (part_meets clauses specified fs) refl h (λ o e n k there. sound_part fs n.of (needs_of_parts (record_of fs) name o e n k) n.op n.wanted there)
      sound (struct_of fs) name wanted h =
          builtin_met (struct_of fs) name wanted (part_meets clauses specified fs) refl h (λ o e n k there. sound_part fs n.of (needs_of_parts (struct_of fs) name o e n k) n.op n.wanted there)
      sound (oneof_of fs) name wanted h =
          builtin_met (oneof_of fs) name wanted (part_meets clauses specified fs) refl h (λ o e n k there. sound_part fs n.of (needs_of_parts (oneof_of fs) name o e n k) n.op n.wanted there)
      sound (variant_of fs) name wanted h =
          builtin_met (variant_of fs) name wanted (part_meets clauses specified fs) refl h (λ o e n k there. sound_part fs n.of (needs_of_parts (variant_of fs) name o e n k) n.op n.wanted there)
      sound (cluster_of c placed) name wanted h = of_heading c placed name wanted h (exported_operation name (specified c)) refl (λ i other stays op w left there. sound_actual placed i other stays op w left there)
      sound (parameter k) name wanted h = of_given k name wanted h

      sound_part : (fs : Fields) (of : CluType) → IsComponent fs of → (name : List ℕ) (wanted : CluType) → There of name wanted → part_meets clauses specified fs of name wanted ≡ true
      sound_part no_fields of is name wanted h = absurd is
      sound_part (field_and selector t fs) of is name wanted h =
          in_part t of name wanted fs is (λ e. sound t name wanted (subst (λ (u : CluType). There u name wanted) (sym e) h)) (λ later. sound_part fs of later name wanted h) (same_type t of) refl

      sound_actual : (placed : Actuals) (i : ℕ) (other : CluType) (stays : Bool) (name : List ℕ) (wanted : CluType) → (There other name wanted → stays ≡ true) → There (type_of_actual placed i other) name wanted → actual_meets clauses specified placed (suc i) stays name wanted ≡ true
      sound_actual no_actuals i other stays name wanted left h = left h
      sound_actual (actual_type t rest) zero other stays name wanted left h = first_actual clauses specified t rest stays name wanted ∙ sound t name wanted h
      sound_actual (actual_type t rest) (suc i) other stays name wanted left h = later_actual clauses specified t rest i stays name wanted ∙ sound_actual rest i other stays name wanted left h
      sound_actual (actual_const c rest) zero other stays name wanted left h = no_actual clauses specified rest (1 - 1) (omega arith) stays name wanted ∙ left h
      sound_actual (actual_const c rest) (suc i) other stays name wanted left h = ap (λ (k : ℕ). actual_meets clauses specified rest k stays name wanted) (less_one i) ∙ sound_actual rest i other stays name wanted left h
      sound_actual (actual_param p rest) zero other stays name wanted left h = no_actual clauses specified rest (1 - 1) (omega arith) stays name wanted ∙ left h
      sound_actual (actual_param p rest) (suc i) other stays name wanted left h = ap (λ (k : ℕ). actual_meets clauses specified rest k stays name wanted) (less_one i) ∙ sound_actual rest i other stays name wanted left h

  -- ---- what is met is closed

  builtin_closed : (t : CluType) (name : List ℕ) (wanted : CluType) (test : CluType → Identifier → CluType → Bool) → counted clauses specified t name wanted ≡ option_map builtin_found (operation t name) → is_met_by test wanted (operation t name) ≡ true
      → ((o : Operation) → operation t name ≡ Some o → (n : Needed) → Contains o.needs n → test n.of n.op n.wanted ≡ true → IsMet asks (ask n.of n.op n.wanted)) → IsMet asks (ask t name wanted)
  builtin_closed t name wanted test is met each = by (operation t name) refl met
    where
      by : (o : Option Operation) → operation t name ≡ o → is_met_by test wanted o ≡ true → IsMet asks (ask t name wanted)
      by None e met = absurd (true≢false (sym met))
      by (Some op) e met =
          is_met asks (ask t name wanted) (map asked_of (map needed op.needs))
          (ap (asks_by wanted) (is ∙ ap (option_map builtin_found) e) ∙ ap (λ (b : Bool). if b then Some (map asked_of (map needed op.needs)) else None) (and_parts (fits (builtin_type op.iter op) wanted) (are_met_by test op.needs) met).0)
          (λ m h.
          (let r = from_mapped asked_of (map needed op.needs) m h in
          let q = from_mapped needed op.needs r.0 r.1 in
          subst (λ (x : Ask). IsMet asks x) (ap asked_of q.2 ∙ r.2)
          (each op e q.0 q.1 (each_true (λ (n : Needed). test n.of n.op n.wanted) op.needs (and_parts (fits (builtin_type op.iter op) wanted) (are_met_by test op.needs) met).1 q.0 q.1))))

  nothing_needed : (t : CluType) (name : List ℕ) (o : Operation) → operation t name ≡ Some o → ((of : CluType) → IsPartOf t of → ⊥) → (n : Needed) → Contains o.needs n → IsMet asks (ask n.of n.op n.wanted)
  nothing_needed t name o e none n k = absurd (none n.of (needs_of_parts t name o e n k))

  put_closed : (placed : Actuals) (d : Demand) → ((k : ℕ) (op : List ℕ) (w : CluType) → put clauses specified placed k op w ≡ true → IsMet asks (ask (type_put placed k) op w)) → (o : Option CluType) → is_put_met (put clauses specified placed) placed d o ≡ true
      → (x : Asked) → Contains (asked_as placed d o) x → IsMet asks (asked_of x)
  put_closed placed d each None met x h = in_none x h
  put_closed placed d each (Some w) met x h = elim (head_or_tail _ [] x h) [
    | inl is ↦ subst (λ (y : Asked). IsMet asks (asked_of y)) is (each d.parameter d.operation (substituted placed w) met)
    | inr there ↦ in_none x there
  ]

  heading_closed : (c : List ℕ) (placed : Actuals) (name : List ℕ) (wanted : CluType) → ((k : ℕ) (op : List ℕ) (w : CluType) → put clauses specified placed k op w ≡ true → IsMet asks (ask (type_put placed k) op w)) → (o : Option Heading) → exported_operation name (specified c) ≡ o
      → is_met_in (put clauses specified placed) placed wanted o ≡ true → IsMet asks (ask (cluster_of c placed) name wanted)
  heading_closed c placed name wanted each None e met = absurd (true≢false (sym met))
  heading_closed c placed name wanted each (Some its) e met =
      let fit : Bool = may_fit (option_map (substituted placed) its.type) wanted in
      let rest : Bool = list_all (λ d. is_put_met (put clauses specified placed) placed d d.wanted) its.demands in
      is_met asks (ask (cluster_of c placed) name wanted) (map asked_of (flat_map (demanded placed) its.demands))
      (ap (λ (o : Option Heading). asks_by wanted (option_map (routine_found placed) o)) e ∙ ap (λ (b : Bool). if b then Some (map asked_of (flat_map (demanded placed) its.demands)) else None) (and_parts fit rest met).0)
      (λ m h.
      (let r = from_mapped asked_of (flat_map (demanded placed) its.demands) m h in
      let q = from_flat (demanded placed) its.demands r.0 r.1 in
      subst (λ (x : Ask). IsMet asks x) r.2
      (put_closed placed q.0 each q.0.wanted (each_true (λ d. is_put_met (put clauses specified placed) placed d d.wanted) its.demands (and_parts fit rest met).1 q.0 q.1) r.0 q.2)))

  given_closed : (k : ℕ) (name : List ℕ) (wanted : CluType) → is_given_by clauses k name wanted ≡ true → IsMet asks (ask (parameter k) name wanted)
  given_closed k name wanted met = is_met asks (ask (parameter k) name wanted) [] (asks_given k name wanted clauses ∙ ap (λ (b : Bool). if b then none_asked else None) met) (λ m h. in_none m h)

  either_part : (t of : CluType) (name : List ℕ) (wanted : CluType) (fs : Fields) → (meets clauses specified t name wanted ≡ true → IsMet asks (ask t name wanted)) → (part_meets clauses specified fs of name wanted ≡ true → IsMet asks (ask of name wanted)) → (b : Bool) → same_type t of ≡ b
      → (if b then meets clauses specified t name wanted else part_meets clauses specified fs of name wanted) ≡ true → IsMet asks (ask of name wanted)
  either_part t of name wanted fs here later true e met = subst (λ (u : CluType). IsMet asks (ask u name wanted)) (types_are t of e) (here met)
  either_part t of name wanted fs here later false e met = later met

  number_closed : (placed : Actuals)
      → ((i : ℕ) (other : CluType) (stays : Bool) (op : List ℕ) (w : CluType) → (stays ≡ true → IsMet asks (ask other op w)) → actual_meets clauses specified placed (suc i) stays op w ≡ true → IsMet asks (ask (type_of_actual placed i other) op w))
      → (k : ℕ) (op : List ℕ) (w : CluType) → put clauses specified placed k op w ≡ true → IsMet asks (ask (type_put placed k) op w)
  number_closed placed each zero op w met = given_closed zero op w (sym (no_actual clauses specified placed zero refl (is_given_by clauses zero op w) op w) ∙ met)
  number_closed placed each (suc i) op w met = each i (parameter (suc i)) (is_given_by clauses (suc i) op w) op w (λ e. given_closed (suc i) op w e) met

  mutual
    complete : (t : CluType) (name : List ℕ) (wanted : CluType) → meets clauses specified t name wanted ≡ true → IsMet asks (ask t name wanted)
    complete null_type name wanted met = builtin_closed null_type name wanted (λ of op w. true) refl met (λ o e n k t. nothing_needed null_type name o e (λ of h. h) n k)
    complete bool_type name wanted met = builtin_closed bool_type name wanted (λ of op w. true) refl met (λ o e n k t. nothing_needed bool_type name o e (λ of h. h) n k)
    complete int_type name wanted met = builtin_closed int_type name wanted (λ of op w. true) refl met (λ o e n k t. nothing_needed int_type name o e (λ of h. h) n k)
    complete char_type name wanted met = builtin_closed char_type name wanted (λ of op w. true) refl met (λ o e n k t. nothing_needed char_type name o e (λ of h. h) n k)
    complete string_type name wanted met = builtin_closed string_type name wanted (λ of op w. true) refl met (λ o e n k t. nothing_needed string_type name o e (λ of h. h) n k)
    complete any_type name wanted met = builtin_closed any_type name wanted (λ of op w. true) refl met (λ o e n k t. nothing_needed any_type name o e (λ of h. h) n k)
    complete stream_type name wanted met = builtin_closed stream_type name wanted (λ of op w. true) refl met (λ o e n k t. nothing_needed stream_type name o e (λ of h. h) n k)
    complete (proc_of args results signals) name wanted met =
        builtin_closed (proc_of args results signals) name wanted (λ of op w. true) refl met (λ o e n k t. nothing_needed (proc_of args results signals) name o e (λ of h. h) n k)
    complete (iter_of args results signals) name wanted met =
        builtin_closed (iter_of args results signals) name wanted (λ of op w. true) refl met (λ o e n k t. nothing_needed (iter_of args results signals) name o e (λ of h. h) n k)
    complete (array_of t) name wanted met =
        builtin_closed (array_of t) name wanted (λ of op w. meets clauses specified t op w) refl met
        (λ o e n k true_there. subst (λ (u : CluType). IsMet asks (ask u n.op n.wanted)) (needs_of_parts (array_of t) name o e n k) (complete t n.op n.wanted true_there))
    complete (sequence_of t) name wanted met =
        builtin_closed (sequence_of t) name wanted (λ of op w. meets clauses specified t op w) refl met
        (λ o e n k true_there. subst (λ (u : CluType). IsMet asks (ask u n.op n.wanted)) (needs_of_parts (sequence_of t) name o e n k) (complete t n.op n.wanted true_there))
    complete (record_of fs) name wanted met = builtin_closed (record_of fs) name wanted (part_meets clauses specified fs) refl met (λ o e n k t. complete_part fs n.of n.op n.wanted t)
    complete (struct_of fs) name wanted met = builtin_closed (struct_of fs) name wanted (part_meets clauses specified fs) refl met (λ o e n k t. complete_part fs n.of n.op n.wanted t)
    complete (oneof_of fs) name wanted met = builtin_closed (oneof_of fs) name wanted (part_meets clauses specified fs) refl met (λ o e n k t. complete_part fs n.of n.op n.wanted t)
    complete (variant_of fs) name wanted met = builtin_closed (variant_of fs) name wanted (part_meets clauses specified fs) refl met (λ o e n k t. complete_part fs n.of n.op n.wanted t)
    complete (cluster_of c placed) name wanted met = heading_closed c placed name wanted (number_closed placed (λ i other stays op w left e. complete_actual placed i other stays op w left e)) (exported_operation name (specified c)) refl met
    complete (parameter k) name wanted met = given_closed k name wanted met

    complete_part : (fs : Fields) (of : CluType) (name : List ℕ) (wanted : CluType) → part_meets clauses specified fs of name wanted ≡ true → IsMet asks (ask of name wanted)
    complete_part no_fields of name wanted met = absurd (true≢false (sym met))
    complete_part (field_and selector t fs) of name wanted met = either_part t of name wanted fs (λ e. complete t name wanted e) (λ e. complete_part fs of name wanted e) (same_type t of) refl met

    complete_actual : (placed : Actuals) (i : ℕ) (other : CluType) (stays : Bool) (name : List ℕ) (wanted : CluType) → (stays ≡ true → IsMet asks (ask other name wanted)) → actual_meets clauses specified placed (suc i) stays name wanted ≡ true → IsMet asks (ask (type_of_actual placed i other) name wanted)
    complete_actual no_actuals i other stays name wanted left met = left met
    complete_actual (actual_type t rest) zero other stays name wanted left met = complete t name wanted (sym (first_actual clauses specified t rest stays name wanted) ∙ met)
    complete_actual (actual_type t rest) (suc i) other stays name wanted left met = complete_actual rest i other stays name wanted left (sym (later_actual clauses specified t rest i stays name wanted) ∙ met)
    complete_actual (actual_const c rest) zero other stays name wanted left met = left (sym (no_actual clauses specified rest (1 - 1) (omega arith) stays name wanted) ∙ met)
    complete_actual (actual_const c rest) (suc i) other stays name wanted left met = complete_actual rest i other stays name wanted left (sym (ap (λ (k : ℕ). actual_meets clauses specified rest k stays name wanted) (less_one i)) ∙ met)
    complete_actual (actual_param p rest) zero other stays name wanted left met = left (sym (no_actual clauses specified rest (1 - 1) (omega arith) stays name wanted) ∙ met)
    complete_actual (actual_param p rest) (suc i) other stays name wanted left met = complete_actual rest i other stays name wanted left (sym (ap (λ (k : ℕ). actual_meets clauses specified rest k stays name wanted) (less_one i)) ∙ met)

  -- ---- by what is told

  module _ (found : CluType → List ℕ → CluType → Option Told) (tell : TellCounted clauses specified found) where
    fit_same : (o : Option CluType) (wanted : CluType) → tables.may_fit o wanted ≡ may_fit o wanted
    fit_same (Some t) wanted = refl
    fit_same None wanted = refl

    plain_same : (xs : List Ask) → map plain xs ≡ map asked_of (map asked_told xs)
    plain_same [] = refl
    plain_same (x ∷ xs) = ap (λ (l : List Ask). plain x ∷ l) (plain_same xs)

    told_same : (wanted : CluType) (o : Option Told) → tables.asks_if found wanted o ≡ asks_by wanted (option_map found_told o)
    told_same wanted (Some it) =
        ap (λ (b : Bool). if b then Some (map plain it.asks) else None) (fit_same it.type wanted)
        ∙ ap (λ (l : List Ask). if may_fit it.type wanted then Some l else None) (plain_same it.asks)
    told_same wanted None = refl

    asks_same : (a : Ask) → tables.asks_of found a ≡ asks a
    asks_same a = told_same a.wanted (found a.of a.operation a.wanted) ∙ ap (asks_by a.wanted) (tell a.of a.operation a.wanted)

    pub met_same : (a : Ask) → Meets found a ↔ IsTrue (meets clauses specified a.of a.operation a.wanted)
    met_same a = (
      λ m. sound m.0 (λ n h. let r = m.2 n h in (r.0, sym (asks_same n) ∙ r.1, r.2)) a.of a.operation a.wanted m.1,
      λ e. let m = complete a.of a.operation a.wanted e in (m.0, m.1, λ n h. let r = m.2 n h in (r.0, asks_same n ∙ r.1, r.2)),
    )
