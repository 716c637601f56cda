-- Needs that are asked one after the other, each of which adds what it asks, in a world that changes on the way. What they ask
-- is known of those of one kind, which ask others of that kind alone.
use Rattle.std.proofs.Common.{◌≡◌, ℕ, ◌+◌, ◌<◌, ◌≤◌, Bool, true, false, List, [], ◌∷◌, ◌++◌, Contains, length, map, take, slice_get, Option, Some, None, refl, sym, ap, ◌∙◌, subst, append_assoc, arith, ltb, ltb-true, ltb-false}
use Rattle.std.proofs.Math.Seq.{take-append_seam}
use Rattle.std.proofs.lemmas.Option.{slice_get_within, same_Some}
use Rattle.indexmap.specs.IndexSet.{insert_key}
use Rattle.clu_base.proofs.Lists.{none_is_not, in_tail, place_in, is_there}
use Rattle.clu_type_rules.specs.Closed.{IsAnswered, IsClosed, IsClosedFor, IsMet, IsFrontOf, HasAdded}
use Rattle.clu_type_rules.proofs.Lists.{in_mapped, from_mapped, those_of, to_those, from_those, kept_in, at_front, front_on, front_self, one_front, one_here, one_from}

-- an answer stays
pub answer_stays : {N : Type 0} (asks : N → Option (List N)) (few many : List N) → ((n : N) → Contains few n → Contains many n) → (n : N) → IsAnswered asks few n → IsAnswered asks many n
answer_stays asks few many more n a = (a.0, a.1, λ x h. more x (a.2 x h))

-- those of a kind are closed by themselves
pub kind_closed : {N : Type 0} (asks : N → Option (List N)) (is_of : N → Bool) → ((n : N) (more : List N) → is_of n ≡ true → asks n ≡ Some more → (m : N) → Contains more m → is_of m ≡ true) → (all : List N) → IsClosedFor asks is_of all → IsClosed asks (those_of is_of all)
kind_closed asks is_of ask_same all closed n h =
    let r = from_those is_of all n h in
    let a = closed n r.0 r.1 in (a.0, a.1, λ m k. to_those is_of all m (a.2 m k) (ask_same n a.0 r.1 a.1 m k))

module _ {W A N : Type 0} (Later : W → W → Type 0) (There : W → A → Type 0) (seen : W → A → N) (asks : N → Option (List N)) (is_of : N → Bool)
    (on : (u v w : W) → Later u v → Later v w → Later u w)
    (stays : (v w : W) → Later v w → (a : A) → There v a → There w a)
    (same : (v w : W) → Later v w → (a : A) → There v a → seen w a ≡ seen v a) where
  abbrev AreThere : W → List A → Type 0
  AreThere w xs = (a : A) → Contains xs a → There w a

  abbrev HasFrom : W → List A → ℕ → List N → Type 0
  HasFrom w xs before those = (k : ℕ) (a : A) → before ≤ k → slice_get xs k ≡ Some a → Contains those (seen w a)

  abbrev AreOf : W → List A → ℕ → Type 0
  AreOf w xs before = (k : ℕ) (a : A) → before ≤ k → slice_get xs k ≡ Some a → is_of (seen w a) ≡ true

  abbrev AreAnswered : W → List A → ℕ → Type 0
  AreAnswered w xs n = (k : ℕ) (a : A) → k < n → slice_get xs k ≡ Some a → is_of (seen w a) ≡ true → IsAnswered asks (map (seen w) xs) (seen w a)

  -- those of a list are those of one with more, later
  pub seen_on : (v w : W) → Later v w → (few many : List A) → AreThere v few → ((a : A) → Contains few a → Contains many a) → (n : N) → Contains (map (seen v) few) n → Contains (map (seen w) many) n
  seen_on v w late few many there more n h =
      let r = from_mapped (seen v) few n h in
      subst (λ (x : N). Contains (map (seen w) many) x) (same v w late r.0 (there r.0 r.1) ∙ r.2) (in_mapped (seen w) many r.0 (more r.0 r.1))

  pub all_same : (v w : W) → Later v w → (xs : List A) → AreThere v xs → map (seen w) xs ≡ map (seen v) xs
  all_same v w late xs there = by xs there
    where
      by : (xs : List A) → AreThere v xs → map (seen w) xs ≡ map (seen v) xs
      by [] there = refl
      by (x ∷ xs) there =
          ap (λ (n : N). n ∷ map (seen w) xs) (same v w late x (there x (is_there (x ∷ xs) 0 x refl)))
          ∙ ap (λ (ns : List N). seen v x ∷ ns) (by xs (λ a h. there a (in_tail x xs a h)))

  pub all_stay : (v w : W) → Later v w → (xs : List A) → AreThere v xs → AreThere w xs
  all_stay v w late xs there a h = stays v w late a (there a h)

  module _ (start : W) (first : List A) (before : ℕ) where
    -- the needs that were found, when the first n of them were asked; those before a place had been answered
    pub record Asking (now : W) (found : List A) (n : ℕ) : Type 0 where
      pub past : before ≤ n
      pub later : Later start now
      pub there : AreThere now found
      pub front : IsFrontOf first found
      pub answered : AreAnswered now found n
      pub all_of : AreOf start first before → AreOf now found before
      pub due : AreOf start first before → (those : List N) → IsClosed asks those → HasFrom start first before those → HasFrom now found before those

    pub asking_first : Later start start → AreThere start first → AreAnswered start first before → Asking start first before
    asking_first self there answered = record {
      past = omega arith;
      later = self;
      there = there;
      front = front_self first;
      answered = answered;
      all_of = λ its. its;
      due = λ its those closed has. has;
    }

    module _ (now : W) (found : List A) (n : ℕ) (so_far : Asking now found n) where
      -- one more was asked
      pub asking_more : (newer : W) → Later now newer → (new : List A) (need : A) → slice_get found n ≡ Some need → (asked : List A) → AreThere newer asked → HasAdded found asked new
          → (is_of (seen now need) ≡ true → asks (seen now need) ≡ Some (map (seen newer) asked)) → (is_of (seen now need) ≡ true → (a : A) → Contains asked a → is_of (seen newer a) ≡ true) → Asking newer new (n + 1)
      asking_more newer late new need at asked there added its same_of = record {
        past = omega (arith, so_far.past);
        later = on start now newer so_far.later late;
        there = λ a h. there_now a (place_in new a h);
        front = front_on first found new so_far.front added.front;
        answered = λ k a less e of. answered k a less e of (ltb k n) refl;
        all_of = λ of k a le e. all_of of k a le e (ltb k (length found)) refl;
        due = λ of those closed has k a le e. due of those closed has k a le e (ltb k (length found)) refl;
      }
        where
          there_at : (k : ℕ) (a : A) → slice_get new k ≡ Some a → (b : Bool) → ltb k (length found) ≡ b → There newer a
          there_at k a e true lt = stays now newer late a (so_far.there a (is_there found k a (at_front found new added.front k a (omega (arith, ltb-true)) e)))
          there_at k a e false lt = there a (added.from k a (omega (arith, ltb-false)) e)

          there_now : (a : A) → ((k : ℕ) × (k < length new) × (slice_get new k ≡ Some a)) → There newer a
          there_now a p = there_at p.0 a p.2 (ltb p.0 (length found)) refl

          more : (x : N) → Contains (map (seen now) found) x → Contains (map (seen newer) new) x
          more x h = seen_on now newer late found new so_far.there (kept_in found new added.front) x h

          -- what the n-th asks was added
          here : (x : N) → Contains (map (seen newer) asked) x → Contains (map (seen newer) new) x
          here x h =
              let r = from_mapped (seen newer) asked x h in
              subst (λ (y : N). Contains (map (seen newer) new) y) r.2 (in_mapped (seen newer) new r.0 (added.here r.0 r.1))

          seen_now : (k : ℕ) (a : A) → k < length found → slice_get new k ≡ Some a → seen newer a ≡ seen now a
          seen_now k a less e = same now newer late a (so_far.there a (is_there found k a (at_front found new added.front k a less e)))

          within : n < length found
          within = slice_get_within found n need at

          answered : (k : ℕ) (a : A) → k < n + 1 → slice_get new k ≡ Some a → is_of (seen newer a) ≡ true → (b : Bool) → ltb k n ≡ b → IsAnswered asks (map (seen newer) new) (seen newer a)
          answered k a less e of true earlier =
              let inside : k < n = omega (arith, ltb-true) in
              let short : k < length found = omega (arith, inside, within) in
              subst (IsAnswered asks (map (seen newer) new)) (sym (seen_now k a short e))
              (answer_stays asks (map (seen now) found) (map (seen newer) new) more (seen now a) (so_far.answered k a inside (at_front found new added.front k a short e) (sym (ap is_of (seen_now k a short e)) ∙ of)))
          answered k a less e of false last =
              let place : k ≡ n = omega (arith, ltb-false) in
              let short : k < length found = omega (arith, place, within) in
              let there_k : slice_get found k ≡ Some a = at_front found new added.front k a short e in
              let is : need ≡ a = same_Some need a (sym at ∙ ap (slice_get found) (sym place) ∙ there_k) in
              let its_of : is_of (seen now need) ≡ true = ap (λ (x : A). is_of (seen now x)) is ∙ sym (ap is_of (seen_now k a short e)) ∙ of in
              let that : IsAnswered asks (map (seen newer) new) (seen now need) = (map (seen newer) asked, its its_of, here) in
              subst (IsAnswered asks (map (seen newer) new)) (ap (seen now) is ∙ sym (seen_now k a short e)) that

          all_of : AreOf start first before → (k : ℕ) (a : A) → before ≤ k → slice_get new k ≡ Some a → (b : Bool) → ltb k (length found) ≡ b → is_of (seen newer a) ≡ true
          all_of of k a le e true earlier =
              let short : k < length found = omega (arith, ltb-true) in
              ap is_of (seen_now k a short e) ∙ so_far.all_of of k a le (at_front found new added.front k a short e)
          all_of of k a le e false later = same_of (so_far.all_of of n need so_far.past at) a (added.from k a (omega (arith, ltb-false)) e)

          due : AreOf start first before → (those : List N) → IsClosed asks those → HasFrom start first before those → (k : ℕ) (a : A) → before ≤ k → slice_get new k ≡ Some a → (b : Bool) → ltb k (length found) ≡ b → Contains those (seen newer a)
          due of those closed has k a le e true earlier =
              let short : k < length found = omega (arith, ltb-true) in
              subst (λ (x : N). Contains those x) (sym (seen_now k a short e)) (so_far.due of those closed has k a le (at_front found new added.front k a short e))
          due of those closed has k a le e false later =
              let one : Contains asked a = added.from k a (omega (arith, ltb-false)) e in
              let that = closed (seen now need) (so_far.due of those closed has n need so_far.past at) in
              let these : that.0 ≡ map (seen newer) asked = same_Some that.0 (map (seen newer) asked) (sym that.1 ∙ its (so_far.all_of of n need so_far.past at)) in
              that.2 (seen newer a) (subst (λ (l : List N). Contains l (seen newer a)) (sym these) (in_mapped (seen newer) asked a one))

      -- when all were asked, they are closed
      pub asking_all : length found ≤ n → IsClosedFor asks is_of (map (seen now) found)
      asking_all le x h of =
          let r = from_mapped (seen now) found x h in
          let place = place_in found r.0 r.1 in
          subst (IsAnswered asks (map (seen now) found)) r.2 (so_far.answered place.0 r.0 (omega (arith, place.1)) place.2 (ap is_of r.2 ∙ of))

      -- when one asks for what there is none of, those from the place on are not met
      pub asking_none : (need : A) → slice_get found n ≡ Some need → (is_of (seen now need) ≡ true → asks (seen now need) ≡ None) → AreOf start first before → (those : List N) → IsClosed asks those → HasFrom start first before those → ⊥
      asking_none need at none of those closed has =
          let there = closed (seen now need) (so_far.due of those closed has n need so_far.past at) in
          none_is_not there.0 (sym (none (so_far.all_of of n need so_far.past at)) ∙ there.1)

  -- ---- one need, besides those that are closed

  module _ (eq : A → A → Bool) (equal : (a b : A) → eq a b ≡ true → a ≡ b) (self : (w : W) → Later w w)
      (start : W) (met : List A) (need : A) (closed : IsClosedFor asks is_of (map (seen start) met)) (met_there : AreThere start met) (need_there : There start need) (first : List A) (is : first ≡ insert_key eq met need) where
    begun : IsFrontOf met first
    begun = let f = one_front eq met need in (f.0, is ∙ f.1)

    pub begun_answered : (before : ℕ) → before ≡ length met → AreAnswered start first before
    begun_answered before many k a lt e of =
        let at : slice_get met k ≡ Some a = at_front met first begun k a (omega (arith, many)) e in
        answer_stays asks (map (seen start) met) (map (seen start) first)
        (λ x h. seen_on start start (self start) met first met_there (kept_in met first begun) x h)
        (seen start a) (closed (seen start a) (in_mapped (seen start) met a (is_there met k a at)) of)

    pub last_is : (k : ℕ) (a : A) → length met ≤ k → slice_get first k ≡ Some a → need ≡ a
    last_is k a le e = one_from eq met need k a le (sym (ap (λ (l : List A). slice_get l k) is) ∙ e)

    begun_of : (before : ℕ) → before ≡ length met → is_of (seen start need) ≡ true → AreOf start first before
    begun_of before many of k a le e = ap (λ (x : A). is_of (seen start x)) (sym (last_is k a (omega (arith, many, le)) e)) ∙ of

    pub begun_there : AreThere start first
    begun_there a h = by (place_in first a h)
      where
        at : (k : ℕ) → slice_get first k ≡ Some a → (b : Bool) → ltb k (length met) ≡ b → There start a
        at k e true lt = met_there a (is_there met k a (at_front met first begun k a (omega (arith, ltb-true)) e))
        at k e false lt = subst (There start) (last_is k a (omega (arith, ltb-false)) e) need_there

        by : ((k : ℕ) × (k < length first) × (slice_get first k ≡ Some a)) → There start a
        by p = at p.0 p.2 (ltb p.0 (length met)) refl

    pub is_met : (now : W) (found : List A) → Later start now → IsFrontOf first found → IsClosedFor asks is_of (map (seen now) found) → is_of (seen start need) ≡ true
        → ((n : N) (more : List N) → is_of n ≡ true → asks n ≡ Some more → (m : N) → Contains more m → is_of m ≡ true) → IsMet asks (seen start need)
    is_met now found late front all of ask_same =
        let there : Contains first need = subst (λ (l : List A). Contains l need) (sym is) (one_here eq met need equal) in
        let in_now : Contains (map (seen now) found) (seen now need) = in_mapped (seen now) found need (kept_in first found front need there) in
        let in_start : Contains (map (seen now) found) (seen start need) = subst (λ (x : N). Contains (map (seen now) found) x) (same start now late need need_there) in_now in
        (those_of is_of (map (seen now) found), to_those is_of (map (seen now) found) (seen start need) in_start of, kind_closed asks is_of ask_same (map (seen now) found) all)

    pub is_not_met : (before : ℕ) → before ≡ length met → (AreOf start first before → (those : List N) → IsClosed asks those → HasFrom start first before those → ⊥) → is_of (seen start need) ≡ true → IsMet asks (seen start need) → ⊥
    is_not_met before many none of m =
        none (begun_of before many of) m.0 m.2 (λ k a le e. subst (λ (x : A). Contains m.0 (seen start x)) (last_is k a (omega (arith, many, le)) e) m.1)

    -- those that were closed are what is left then
    pub met_left : (before : ℕ) → before ≡ length met → (found : List A) → IsFrontOf first found → take before found ≡ met
    met_left before many found front =
        ap (λ (n : ℕ). take n found) many
        ∙ ap (take (length met)) (front.1 ∙ ap (λ (l : List A). l ++ front.0) begun.1 ∙ append_assoc met begun.0 front.0) ∙ take-append_seam met (begun.0 ++ front.0)

    pub left_closed : (now : W) → Later start now → (left : List A) → left ≡ met → IsClosedFor asks is_of (map (seen now) left)
    left_closed now late left same_left = subst (λ (ns : List N). IsClosedFor asks is_of ns) (sym (ap (map (seen now)) same_left ∙ all_same start now late met met_there)) closed

    pub left_there : (now : W) → Later start now → (left : List A) → left ≡ met → AreThere now left
    left_there now late left same_left = subst (AreThere now) (sym same_left) (all_stay start now late met met_there)
