-- Types that are looked at one after the other, each of which adds its parts.
use Rattle.std.proofs.Common.{◌≡◌, ◌↔◌, ◌⊎◌, inl, inr, ℕ, ◌+◌, ◌<◌, ◌≤◌, zero, suc, Bool, true, false, true≢false, List, [], ◌∷◌, ◌++◌, Contains, map, fold, length, drop, get_or, slice_get, Some, Result, Ok, Err, IfOk, OnOk, IsTrue, refl, sym, ap, ◌∙◌, subst, arith}
use Rattle.std.proofs.Math.Dec.{ltb}
use Rattle.std.proofs.Math.Seq.{drop-cons}
use borrow.Author.Tests.{ltb-true, ltb-false}
use Rattle.std.proofs.lemmas.List.{append-nil, drop_all}
use Rattle.std.proofs.lemmas.Option.{same_Some}
use Rattle.clu_base.specs.declared.errors.Memory.{Memory}
use Rattle.clu_base.proofs.Lists.{front_of, head_or_tail, in_head, in_tail, in_none, place_in, is_there}
use Rattle.clu_types.specs.CluType.{CluType}
use Rattle.clu_types.specs.Arena.{type_at, type_of, types_of, AreBelow, PartsBelow, Grows}
use Rattle.clu_types.specs.declared.spec.Demand.{Demand}
use Rattle.clu_types.specs.declared.spec.Spec.{Spec}
use Rattle.clu_types.specs.declared.term.TypeId.{TypeId}
use Rattle.clu_types.specs.declared.term.Term.{Term}
use Rattle.clu_types.proofs.Arenas.{types_grown}
use Rattle.clu_types.proofs.Carrying.{grows_on, length_grows}
use Rattle.clu_types.proofs.Parts.{parts_more, type_same}
use Rattle.clu_builtin.specs.Operation.{Needed}
use Rattle.clu_specs.specs.Seen.{Demanded, demand_seen}
use Rattle.clu_specs.specs.Specifications.{DemandsBelow}
use Rattle.clu_demands.specs.declared.needs.Asked.{Asked}
use Rattle.clu_demands.specs.Asking.{asked_seen, all_seen, IsBelow, AreBelowAll}
use Rattle.clu_demands.specs.Meeting.{Meets, IsClosed}
use Rattle.clu_sound.specs.Parts.{part_types, with_id, with_parts}
use Rattle.clu_sound.specs.Sound.{IsTypeMet}
use Rattle.clu_sound.specs.Visiting.{HoldsMet, AreAllMet, IsOwnMet, AreIdsMet, HasVisited}
use Rattle.clu_demands.proofs.Seen.{one_same, all_same, demands_same, more_below}
use Rattle.clu_demands.proofs.Closing.{none_closed, none_below}
use Rattle.clu_sound.proofs.Growing.{parts_folded, all_front, all_kept, all_here, all_from, below_all, below_in, parts_below}
use Rattle.clu_sound.proofs.Parting.{term_own, term_parts, ids_in, ids_each, whole_met}

-- ---- what was met before, told of an arena from which the present one grew

-- what is given stays, so what holds told of it then is told of it now, and back
pub holds_now : (given : List Demand) (specs : List Spec) (start now : List Term) (met : List Asked) → Grows start now → DemandsBelow (length start) given → HoldsMet given specs start now met → HoldsMet given specs now now met
holds_now given specs start now met g below h =
    (h.0, subst (λ (gives : List Demanded). IsClosed gives specs (all_seen (types_of now) met)) (sym (demands_same start now g given below)) h.1)

pub holds_then : (given : List Demand) (specs : List Spec) (start now newer : List Term) (met : List Asked) → Grows start now → DemandsBelow (length start) given → HoldsMet given specs now newer met → HoldsMet given specs start newer met
holds_then given specs start now newer met g below h =
    (h.0, subst (λ (gives : List Demanded). IsClosed gives specs (all_seen (types_of newer) met)) (demands_same start now g given below) h.1)

pub on_then : (given : List Demand) (specs : List Spec) (start now newer : List Term) (met : List Asked) → Grows start now → DemandsBelow (length start) given → (r : Result Bool Memory) → OnOk r (HoldsMet given specs now newer met) → OnOk r (HoldsMet given specs start newer met)
on_then given specs start now newer met g below (Ok b) h = holds_then given specs start now newer met g below h
on_then given specs start now newer met g below (Err e) h = tt

pub holds_grown : (given : List Demand) (specs : List Spec) (start now : List Term) (met : List Asked) → Grows start now → HoldsMet given specs start start met → HoldsMet given specs start now met
holds_grown given specs start now met g h = (
  more_below (length start) (length now) (length_grows start now g) met h.0,
  subst (λ (ns : List Needed). IsClosed (map (demand_seen (types_of start)) given) specs ns) (sym (all_same start now g met h.0)) h.1,
)

pub holds_none : (given : List Demand) (specs : List Spec) (start : List Term) (none : List Asked) → none ≡ [] → HoldsMet given specs start start none
holds_none given specs start none is = (none_below (length start) none is, none_closed (map (demand_seen (types_of start)) given) specs (types_of start) none is)

-- ---- needs, one after the other

pub next_here : {X : Type 0} (xs : List X) (i : ℕ) (d : X) → d ≡ get_or xs i d → i < length xs → drop i xs ≡ d ∷ drop (i + 1) xs
next_here xs i d is lt =
    let next : suc i ≡ i + 1 = omega arith in
    drop-cons xs i d lt ∙ ap (λ x. x ∷ drop (suc i) xs) (sym is) ∙ ap (λ (n : ℕ). d ∷ drop n xs) next

need_below : (n : ℕ) (xs : List Asked) (i : ℕ) (d : Asked) → AreBelowAll n xs → i < length xs → IsBelow n (get_or xs i d)
need_below n [] i d b lt = absurd (omega arith)
need_below n (x ∷ xs) zero d b lt = b.0
need_below n (x ∷ xs) (suc i) d b lt = need_below n xs i d b.1 (omega arith)

pub need_here : (m n : ℕ) → m ≤ n → (xs : List Asked) (i : ℕ) (d : Asked) → d ≡ get_or xs i d → AreBelowAll m xs → i < length xs → IsBelow n d
need_here m n le xs i d is b lt = let low : IsBelow m d = subst (IsBelow m) (sym is) (need_below m xs i d b lt) in (omega (arith, low.0), omega (arith, low.1))

module _ (given : List Demand) (specs : List Spec) (start : List Term) (all : List Asked) where
  abbrev gives : List Demanded
  gives = map (demand_seen (types_of start)) given

  -- all of those before a place are met
  pub record AreMetTo (now : List Term) (met : List Asked) (i : ℕ) : Type 0 where
    pub grows : Grows start now
    pub holds : HoldsMet given specs start now met
    pub here : AreAllMet gives specs (types_of start) all → AreAllMet gives specs (types_of start) (drop i all)
    pub from : AreAllMet gives specs (types_of start) (drop i all) → AreAllMet gives specs (types_of start) all

  pub met_first : (met : List Asked) → HoldsMet given specs start start met → AreMetTo start met 0
  met_first met h = record { grows = ([], sym (append-nil start)); holds = h; here = λ m. m; from = λ m. m }

  module _ (now newer : List Term) (met new : List Asked) (i : ℕ) (a : Asked) (b : Bool) (given_in : DemandsBelow (length start) given) (all_in : AreBelowAll (length start) all) (lt : i < length all) (is : a ≡ get_or all i a)
      (so_far : AreMetTo now met i) (g : Grows now newer) (h : HoldsMet given specs now newer new) (one : IsTrue b ↔ Meets (map (demand_seen (types_of now)) given) specs (asked_seen (types_of now) a)) where
    need_low : IsBelow (length start) a
    need_low = need_here (length start) (length start) (omega arith) all i a is all_in lt

    meets_then : Meets (map (demand_seen (types_of now)) given) specs (asked_seen (types_of now) a) → Meets gives specs (asked_seen (types_of start) a)
    meets_then m =
        subst (λ (n : Needed). Meets gives specs n) (one_same start now so_far.grows a need_low)
        (subst (λ (x : List Demanded). Meets x specs (asked_seen (types_of now) a)) (demands_same start now so_far.grows given given_in) m)

    meets_now : Meets gives specs (asked_seen (types_of start) a) → Meets (map (demand_seen (types_of now)) given) specs (asked_seen (types_of now) a)
    meets_now m =
        subst (λ (x : List Demanded). Meets x specs (asked_seen (types_of now) a)) (sym (demands_same start now so_far.grows given given_in))
        (subst (λ (n : Needed). Meets gives specs n) (sym (one_same start now so_far.grows a need_low)) m)

    abbrev All : List Asked → Type 0
    All xs = AreAllMet gives specs (types_of start) xs

    pub met_more : b ≡ true → AreMetTo newer new (i + 1)
    met_more so = record {
      grows = grows_on start now newer so_far.grows g;
      holds = holds_then given specs start now newer new so_far.grows given_in h;
      here = λ m. (subst All (next_here all i a is lt) (so_far.here m)).1;
      from = λ m. so_far.from (subst All (sym (next_here all i a is lt)) (meets_then (one.0 so), m));
    }

    pub met_not : b ≡ false → All all → ⊥
    met_not not_so m =
        let this : Meets gives specs (asked_seen (types_of start) a) = (subst All (next_here all i a is lt) (so_far.here m)).0 in
        true≢false (sym (one.1 (meets_now this)) ∙ not_so)

  pub met_all : (now : List Term) (met : List Asked) (i : ℕ) → length all ≤ i → AreMetTo now met i → AreAllMet gives specs (types_of start) all
  met_all now met i le so_far = so_far.from (subst (AreAllMet gives specs (types_of start)) (sym (drop_all i all le)) tt)

-- all of a list, told of each
pub all_each : (given : List Demanded) (specs : List Spec) (types : List CluType) (xs : List Asked) → AreAllMet given specs types xs → (n : Needed) → Contains (all_seen types xs) n → Meets given specs n
all_each given specs types [] h n c = in_none n c
all_each given specs types (x ∷ xs) h n c = by (head_or_tail (asked_seen types x) (all_seen types xs) n c) (all_each given specs types xs h.1 n)
  where
    by : (asked_seen types x ≡ n) ⊎ Contains (all_seen types xs) n → (Contains (all_seen types xs) n → Meets given specs n) → Meets given specs n
    by (inl is) later = subst (Meets given specs) is h.0
    by (inr there) later = later there

pub each_all : (given : List Demanded) (specs : List Spec) (types : List CluType) (xs : List Asked) → ((n : Needed) → Contains (all_seen types xs) n → Meets given specs n) → AreAllMet given specs types xs
each_all given specs types [] h = tt
each_all given specs types (x ∷ xs) h =
    (h (asked_seen types x) (in_head (asked_seen types x) (all_seen types xs) (asked_seen types x) refl), each_all given specs types xs (λ n c. h n (in_tail (asked_seen types x) (all_seen types xs) n c)))

-- ---- types, one after the other

module _ (given : List Demand) (specs : List Spec) (start : List Term) (first : List TypeId) where
  abbrev put : List Demanded
  put = map (demand_seen (types_of start)) given

  abbrev IsMet : TypeId → Type 0
  IsMet id = IsTypeMet put specs (type_at (types_of start) id)

  -- a type was found met itself, and its parts are among these
  pub record IsSeen (ids : List TypeId) (id : TypeId) : Type 0 where
    pub shape : Term
    pub of_type : type_at (types_of start) id ≡ type_of (types_of start) shape
    pub parts : PartsBelow id.0 shape
    pub own : IsOwnMet put specs (type_at (types_of start) id)
    pub here : (p : TypeId) → Contains (part_types shape) p → Contains ids p

  pub record Visiting (now : List Term) (ids : List TypeId) (met : List Asked) (n : ℕ) : Type 0 where
    pub few : n ≤ 9223372036854775808
    pub grows : Grows start now
    pub within : AreBelow (length start) ids
    pub holds : HoldsMet given specs start now met
    pub kept : (p : TypeId) → Contains first p → Contains ids p
    pub due : AreIdsMet put specs (types_of start) first → (p : TypeId) → Contains ids p → IsMet p
    pub seen : (k : ℕ) (p : TypeId) → k < n → slice_get ids k ≡ Some p → IsSeen ids p

  pub visiting_first : (met : List Asked) → AreBelow (length start) first → HoldsMet given specs start start met → Visiting start first met 0
  visiting_first met low h = record {
    few = omega arith;
    grows = ([], sym (append-nil start));
    within = low;
    holds = h;
    kept = λ p c. c;
    due = λ m p c. ids_in put specs (types_of start) first m p c;
    seen = λ k p lt e. absurd (omega (arith, lt));
  }

  module _ (given_in : DemandsBelow (length start) given) (now : List Term) (ids : List TypeId) (met : List Asked) (n : ℕ) (so_far : Visiting now ids met n) where
    -- what was found of the n-th, told of the first arena
    module _ (id : TypeId) (at : slice_get ids n ≡ Some id) (new : List TypeId) (b : Bool) (v : HasVisited (map (demand_seen (types_of now)) given) specs now ids new id b) where
      id_low : id.0 < length start
      id_low = below_in (length start) ids id so_far.within (is_there ids n id at)

      same_type : type_at (types_of now) id ≡ type_at (types_of start) id
      same_type = types_grown start now so_far.grows id id_low

      parts_low : PartsBelow (length start) v.shape
      parts_low = parts_more id.0 (length start) (omega (arith, id_low)) v.shape v.parts

      of_type : type_at (types_of start) id ≡ type_of (types_of start) v.shape
      of_type = sym same_type ∙ v.of_type ∙ type_same (types_of now) (types_of start) (length start) (types_grown start now so_far.grows) v.shape parts_low

      own_then : IsOwnMet (map (demand_seen (types_of now)) given) specs (type_at (types_of now) id) → IsOwnMet put specs (type_at (types_of start) id)
      own_then o =
          subst (λ (t : CluType). IsOwnMet put specs t) same_type
          (subst (λ (x : List Demanded). IsOwnMet x specs (type_at (types_of now) id)) (demands_same start now so_far.grows given given_in) o)

      own_now : IsOwnMet put specs (type_at (types_of start) id) → IsOwnMet (map (demand_seen (types_of now)) given) specs (type_at (types_of now) id)
      own_now o =
          subst (λ (x : List Demanded). IsOwnMet x specs (type_at (types_of now) id)) (sym (demands_same start now so_far.grows given given_in))
          (subst (λ (t : CluType). IsOwnMet put specs t) (sym same_type) o)

      folded : new ≡ fold with_id ids (part_types v.shape)
      folded = v.added ∙ parts_folded ids v.shape

      pub visiting_not : b ≡ false → AreIdsMet put specs (types_of start) first → ⊥
      visiting_not not_so m =
          let this : IsMet id = so_far.due m id (is_there ids n id at) in
          let own : IsOwnMet put specs (type_at (types_of start) id) = subst (IsOwnMet put specs) (sym of_type) (term_own put specs (types_of start) v.shape (subst (IsTypeMet put specs) of_type this)) in
          true≢false (sym (v.own.1 (own_now own)) ∙ not_so)

      pub visiting_more : b ≡ true → n < length ids → n < 9223372036854775808 → (newer : List Term) (others : List Asked) → Grows now newer → HoldsMet given specs now newer others → Visiting newer new others (n + 1)
      visiting_more so lt small newer others g h = record {
        few = omega (arith, small);
        grows = grows_on start now newer so_far.grows g;
        within = subst (AreBelow (length start)) (sym folded) (below_all (length start) ids (part_types v.shape) so_far.within (parts_below (length start) v.shape parts_low));
        holds = holds_then given specs start now newer others so_far.grows given_in h;
        kept = λ p c. more p (so_far.kept p c);
        due = λ m p c. due m p (all_from ids (part_types v.shape) p (subst (λ (l : List TypeId). Contains l p) folded c));
        seen = λ k p less e. seen k p less e (ltb k n) refl;
      }
        where
          more : (p : TypeId) → Contains ids p → Contains new p
          more p c = subst (λ (l : List TypeId). Contains l p) (sym folded) (all_kept ids (part_types v.shape) p c)

          due : AreIdsMet put specs (types_of start) first → (p : TypeId) → Contains ids p ⊎ Contains (part_types v.shape) p → IsMet p
          due m p (inl c) = so_far.due m p c
          due m p (inr c) =
              let this : IsMet id = so_far.due m id (is_there ids n id at) in
              ids_in put specs (types_of start) (part_types v.shape) (term_parts put specs (types_of start) v.shape (subst (IsTypeMet put specs) of_type this)) p c

          front : (rest : List TypeId) × (new ≡ ids ++ rest)
          front = let f = all_front ids (part_types v.shape) in (f.0, folded ∙ f.1)

          at_front : (k : ℕ) (p : TypeId) → k < length ids → slice_get new k ≡ Some p → slice_get ids k ≡ Some p
          at_front k p less e = front_of ids front.0 k p less (sym (ap (λ (l : List TypeId). slice_get l k) front.1) ∙ e)

          wider : (p : TypeId) → IsSeen ids p → IsSeen new p
          wider p s = record { shape = s.shape; of_type = s.of_type; parts = s.parts; own = s.own; here = λ q c. more q (s.here q c) }

          this_one : IsSeen new id
          this_one = record {
            shape = v.shape;
            of_type = of_type;
            parts = v.parts;
            own = own_then (v.own.0 so);
            here = λ q c. subst (λ (l : List TypeId). Contains l q) (sym folded) (all_here ids (part_types v.shape) q c);
          }

          seen : (k : ℕ) (p : TypeId) → k < n + 1 → slice_get new k ≡ Some p → (b : Bool) → ltb k n ≡ b → IsSeen new p
          seen k p less e true earlier =
              let inside : k < n = omega (arith, ltb-true) in
              wider p (so_far.seen k p inside (at_front k p (omega (arith, lt)) e))
          seen k p less e false last =
              let here : k ≡ n = omega (arith, ltb-false, less) in
              let there : slice_get ids k ≡ Some p = at_front k p (omega (arith, lt, here)) e in
              subst (IsSeen new) (same_Some id p (sym at ∙ ap (slice_get ids) (sym here) ∙ there)) this_one

    -- when all were looked at, those of the beginning are met
    pub visiting_all : length ids ≤ n → AreIdsMet put specs (types_of start) first
    visiting_all le = ids_each put specs (types_of start) first (λ p c. whole_met put specs (types_of start) (λ (q : TypeId). Contains ids q) whole p (so_far.kept p c))
      where
        whole : (p : TypeId) → Contains ids p → (t : Term) × (type_at (types_of start) p ≡ type_of (types_of start) t) × PartsBelow p.0 t × IsOwnMet put specs (type_at (types_of start) p) × ((q : TypeId) → Contains (part_types t) q → Contains ids q)
        whole p c =
            let place = place_in ids p c in
            let s = so_far.seen place.0 p (omega (arith, place.1, le)) place.2 in
            (s.shape, s.of_type, s.parts, s.own, s.here)

-- ---- results

-- what was found of a type
pub visited_ok : (given : List Demanded) (specs : List Spec) (terms : List Term) (old new : List TypeId) (id : TypeId) (t : Term) → slice_get terms id.0 ≡ Some t → PartsBelow id.0 t → type_at (types_of terms) id ≡ type_of (types_of terms) t → new ≡ with_parts old t
    → (r : Result Bool Memory) → IfOk r (λ met. IsTrue met ↔ IsOwnMet given specs (type_at (types_of terms) id)) → IfOk r (HasVisited given specs terms old new id)
visited_ok given specs terms old new id t at low is added (Ok b) h = record { own = h; shape = t; at = at; parts = low; of_type = is; added = added }
visited_ok given specs terms old new id t at low is added (Err e) h = h

pub visited_at : (given : List Demanded) (specs : List Spec) (terms : List Term) (old new : List TypeId) (n : ℕ) (id : TypeId) → Some id ≡ slice_get old n → (r : Result Bool Memory) → IfOk r (HasVisited given specs terms old new id)
    → IfOk r (λ met. (p : TypeId) → slice_get old n ≡ Some p → HasVisited given specs terms old new p met)
visited_at given specs terms old new n id is (Ok b) h = λ p e. subst (λ (q : TypeId). HasVisited given specs terms old new q b) (same_Some id p (is ∙ e)) h
visited_at given specs terms old new n id is (Err e) h = h

-- what is so of one type is so of the other
pub ok_iff : (P Q : Type 0) → (P → Q) → (Q → P) → (r : Result Bool Memory) → IfOk r (λ b. IsTrue b ↔ P) → IfOk r (λ b. IsTrue b ↔ Q)
ok_iff P Q to from (Ok b) h = (λ t. to (h.0 t), λ q. h.1 (from q))
ok_iff P Q to from (Err e) h = h
