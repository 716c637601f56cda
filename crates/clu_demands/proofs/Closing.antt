-- Needs that are asked one after the other, each of which adds what it asks.
use Rattle.std.proofs.Common.{◌≡◌, ◌⊎◌, inl, inr, ℕ, ◌+◌, ◌<◌, ◌≤◌, Bool, true, false, List, [], ◌∷◌, ◌++◌, Contains, length, map, take, slice_get, Option, Some, None, Result, Ok, Err, IfOk, refl, sym, ap, ◌∙◌, subst, append_assoc, arith, length-append}
use Rattle.std.proofs.Math.Dec.{ltb}
use Rattle.std.proofs.Math.Seq.{take-append_seam}
use borrow.Author.Tests.{ltb-true, ltb-false}
use Rattle.std.proofs.lemmas.List.{append-nil}
use Rattle.std.proofs.lemmas.List.Elements.{Contains-append_left}
use Rattle.std.proofs.lemmas.Option.{slice_get_within, same_Some}
use Rattle.clu_base.specs.declared.errors.Memory.{Memory}
use Rattle.clu_base.proofs.Lists.{none_is_not, some_at, front_of, in_none, place_in, is_there}
use Rattle.clu_types.specs.CluType.{CluType}
use Rattle.clu_types.specs.Arena.{types_of, Grows}
use Rattle.clu_types.specs.declared.spec.Demand.{Demand}
use Rattle.clu_types.specs.declared.spec.Spec.{Spec}
use Rattle.clu_types.specs.declared.term.Term.{Term}
use Rattle.clu_types.proofs.Carrying.{grows_on, length_grows}
use Rattle.clu_builtin.specs.Operation.{Needed}
use Rattle.clu_specs.specs.Seen.{Demanded, demand_seen}
use Rattle.clu_specs.specs.Specifications.{DemandsBelow}
use Rattle.clu_demands.specs.declared.needs.Asked.{Asked}
use Rattle.clu_demands.specs.Asking.{asked_seen, all_seen, IsBelow, AreBelowAll, AreAnswered, AreNotMet, HasFrom, IsFrontOf, HasAdded, HasFound, HasAsked, AsksNone, Answers, AreBelowIf}
use Rattle.clu_demands.specs.Meeting.{Asks, IsAnswered, IsClosed, Meets}
use Rattle.clu_demands.proofs.Lists.{with_one, one_front, one_here, one_from}
use Rattle.clu_demands.proofs.Seen.{one_same, all_same, more_below, one_more_below, below_at, below_in, below_each, demands_more, demands_same, seen_in, seen_from, seen_grown}
use Rattle.clu_demands.proofs.Once.{asks_once}

kept_in : (front whole : List Asked) → IsFrontOf front whole → (a : Asked) → Contains front a → Contains whole a
kept_in front whole f a h = subst (λ (l : List Asked). Contains l a) (sym f.1) (Contains-append_left front f.0 a h)

at_front : (front whole : List Asked) → IsFrontOf front whole → (k : ℕ) (a : Asked) → k < length front → slice_get whole k ≡ Some a → slice_get front k ≡ Some a
at_front front whole f k a lt e = front_of front f.0 k a lt (sym (ap (λ (l : List Asked). slice_get l k) f.1) ∙ e)

-- what was added is below, too
below_added : (n : ℕ) (old added new : List Asked) → HasAdded old added new → AreBelowAll n old → AreBelowAll n added → AreBelowAll n new
below_added n old added new h b c = below_each n new (λ k a e. at k a e (ltb k (length old)) refl)
  where
    at : (k : ℕ) (a : Asked) → slice_get new k ≡ Some a → (b : Bool) → ltb k (length old) ≡ b → IsBelow n a
    at k a e true lt = below_at n old k a b (at_front old new h.front k a (omega (arith, ltb-true)) e)
    at k a e false lt = below_in n added a c (h.from k a (omega (arith, ltb-false)) e)

-- an answer stays
answer_stays : (given : List Demanded) (specs : List Spec) (few many : List Needed) → ((n : Needed) → Contains few n → Contains many n) → (n : Needed) → IsAnswered given specs few n → IsAnswered given specs many n
answer_stays given specs few many more n a = (a.0, a.1, λ x h. more x (a.2 x h))

module _ (given : List Demanded) (specs : List Spec) (start : List Term) (first : List Asked) (before : ℕ) where
  -- the needs that were found, when the first n of them were asked; those before a place had been answered
  pub record Asking (now : List Term) (found : List Asked) (n : ℕ) : Type 0 where
    pub few : n ≤ 9223372036854775808
    pub past : before ≤ n
    pub grows : Grows start now
    pub within : AreBelowAll (length now) found
    pub front : IsFrontOf first found
    pub answered : AreAnswered given specs (types_of now) found n
    pub due : (needs : List Needed) → IsClosed given specs needs → HasFrom (types_of start) first before needs → (k : ℕ) (a : Asked) → before ≤ k → slice_get found k ≡ Some a → Contains needs (asked_seen (types_of now) a)

  pub asking_first : before ≤ 9223372036854775808 → AreBelowAll (length start) first → AreAnswered given specs (types_of start) first before → Asking start first before
  asking_first few below answered = record {
    few = few;
    past = omega arith;
    grows = ([], sym (append-nil start));
    within = below;
    front = ([], sym (append-nil first));
    answered = answered;
    due = λ needs closed has k a le e. has k a le e;
  }

  module _ (now : List Term) (found : List Asked) (n : ℕ) (so_far : Asking now found n) where
    -- one more was asked
    pub asking_more : n < length found → n < 9223372036854775808 → (newer : List Term) (new : List Asked) → Grows now newer → HasAsked given specs now newer found new n → Asking newer new (n + 1)
    asking_more lt small newer new g h = record {
      few = omega arith;
      past = omega (arith, so_far.past);
      grows = grows_on start now newer so_far.grows g;
      within = below_added (length newer) found h.asked new h.added (more_below (length now) (length newer) (length_grows now newer g) found so_far.within) h.within;
      front = (so_far.front.0 ++ h.added.front.0, h.added.front.1 ∙ ap (λ (l : List Asked). l ++ h.added.front.0) so_far.front.1 ∙ append_assoc first so_far.front.0 h.added.front.0);
      answered = λ k a less e. answered k a less e (ltb k n) refl;
      due = λ needs closed has k a le e. due needs closed has k a le e (ltb k (length found)) refl;
    }
      where
        below_found : (a : Asked) → Contains found a → IsBelow (length now) a
        below_found a there = below_in (length now) found a so_far.within there

        more : (x : Needed) → Contains (all_seen (types_of now) found) x → Contains (all_seen (types_of newer) new) x
        more x there = seen_grown now newer g found new so_far.within (kept_in found new h.added.front) x there

        -- what the n-th asks was added
        added : (x : Needed) → Contains (all_seen (types_of newer) h.asked) x → Contains (all_seen (types_of newer) new) x
        added x there =
            let r = seen_from (types_of newer) h.asked x there in
            subst (λ (y : Needed). Contains (all_seen (types_of newer) new) y) r.2 (seen_in (types_of newer) new r.0 (h.added.here r.0 r.1))

        seen_now : (k : ℕ) (a : Asked) → k < length found → slice_get new k ≡ Some a → asked_seen (types_of newer) a ≡ asked_seen (types_of now) a
        seen_now k a less e = one_same now newer g a (below_at (length now) found k a so_far.within (at_front found new h.added.front k a less e))

        answered : (k : ℕ) (a : Asked) → k < n + 1 → slice_get new k ≡ Some a → (b : Bool) → ltb k n ≡ b → IsAnswered given specs (all_seen (types_of newer) new) (asked_seen (types_of newer) a)
        answered k a less e true earlier =
            let inside : k < n = omega (arith, ltb-true) in
            let at : slice_get found k ≡ Some a = at_front found new h.added.front k a (omega arith) e in
            subst (IsAnswered given specs (all_seen (types_of newer) new)) (sym (seen_now k a (omega arith) e))
            (answer_stays given specs (all_seen (types_of now) found) (all_seen (types_of newer) new) more (asked_seen (types_of now) a) (so_far.answered k a inside at))
        answered k a less e false last =
            let here : k ≡ n = omega (arith, ltb-false) in
            let at : slice_get found k ≡ Some a = at_front found new h.added.front k a (omega arith) e in
            let same : h.need ≡ a = same_Some h.need a (sym h.at ∙ ap (slice_get found) (sym here) ∙ at) in
            let of_need : asked_seen (types_of now) h.need ≡ asked_seen (types_of newer) a = ap (asked_seen (types_of now)) same ∙ sym (seen_now k a (omega arith) e) in
            let that : IsAnswered given specs (all_seen (types_of newer) new) (asked_seen (types_of now) h.need) = (all_seen (types_of newer) h.asked, h.asks, added) in
            subst (IsAnswered given specs (all_seen (types_of newer) new)) of_need that

        due : (needs : List Needed) → IsClosed given specs needs → HasFrom (types_of start) first before needs → (k : ℕ) (a : Asked) → before ≤ k → slice_get new k ≡ Some a → (b : Bool) → ltb k (length found) ≡ b → Contains needs (asked_seen (types_of newer) a)
        due needs closed has k a le e true earlier =
            let inside : k < length found = omega (arith, ltb-true) in
            subst (λ (x : Needed). Contains needs x) (sym (seen_now k a inside e)) (so_far.due needs closed has k a le (at_front found new h.added.front k a inside e))
        due needs closed has k a le e false later =
            let one : Contains h.asked a = h.added.from k a (omega (arith, ltb-false)) e in
            let that = closed (asked_seen (types_of now) h.need) (so_far.due needs closed has n h.need so_far.past h.at) in
            let these : that.0 ≡ all_seen (types_of newer) h.asked = asks_once given specs (asked_seen (types_of now) h.need) that.0 (all_seen (types_of newer) h.asked) that.1 h.asks in
            that.2 (asked_seen (types_of newer) a) (subst (λ (l : List Needed). Contains l (asked_seen (types_of newer) a)) (sym these) (seen_in (types_of newer) h.asked a one))

    -- when all were asked, they are met
    pub asking_all : length found ≤ n → IsClosed given specs (all_seen (types_of now) found)
    asking_all le x h =
        let r = seen_from (types_of now) found x h in
        let place = place_in found r.0 r.1 in
        subst (IsAnswered given specs (all_seen (types_of now) found)) r.2 (so_far.answered place.0 r.0 (omega (arith, place.1)) place.2)

    -- when one has no operation, they are not
    pub asking_none : n < length found → AsksNone given specs (types_of now) found n → AreNotMet given specs (types_of start) first before
    asking_none lt none needs closed has =
        let here = some_at found n lt in
        let there = closed (asked_seen (types_of now) here.0) (so_far.due needs closed has n here.0 so_far.past here.1) in
        none here.0 here.1 there.0 there.1

-- ---- one need, besides those that are met

module _ (given : List Demanded) (specs : List Spec) (start : List Term) (met : List Asked) (need : Asked) (closed : IsClosed given specs (all_seen (types_of start) met)) (met_in : AreBelowAll (length start) met) (need_in : IsBelow (length start) need) where
  begun : (first : List Asked) → first ≡ with_one met need → IsFrontOf met first
  begun first is = let f = one_front met need in (f.0, is ∙ f.1)

  pub begun_answered : (first : List Asked) → first ≡ with_one met need → (before : ℕ) → before ≡ length met → AreAnswered given specs (types_of start) first before
  begun_answered first is before many k a lt e =
      let at : slice_get met k ≡ Some a = at_front met first (begun first is) k a (omega (arith, many)) e in
      answer_stays given specs (all_seen (types_of start) met) (all_seen (types_of start) first)
      (λ x there. seen_grown start start ([], sym (append-nil start)) met first met_in (kept_in met first (begun first is)) x there)
      (asked_seen (types_of start) a) (closed (asked_seen (types_of start) a) (seen_in (types_of start) met a (is_there met k a at)))

  last_is : (first : List Asked) → first ≡ with_one met need → (k : ℕ) (a : Asked) → length met ≤ k → slice_get first k ≡ Some a → need ≡ a
  last_is first is k a le e = one_from met need k a le (sym (ap (λ (l : List Asked). slice_get l k) is) ∙ e)

  pub begun_below : (first : List Asked) → first ≡ with_one met need → AreBelowAll (length start) first
  begun_below first is = below_each (length start) first (λ k a e. at k a e (ltb k (length met)) refl)
    where
      at : (k : ℕ) (a : Asked) → slice_get first k ≡ Some a → (b : Bool) → ltb k (length met) ≡ b → IsBelow (length start) a
      at k a e true lt = below_at (length start) met k a met_in (at_front met first (begun first is) k a (omega (arith, ltb-true)) e)
      at k a e false lt = subst (IsBelow (length start)) (last_is first is k a (omega (arith, ltb-false)) e) need_in

  pub is_met : (first : List Asked) → first ≡ with_one met need → (now : List Term) (found : List Asked) → Grows start now → IsFrontOf first found → IsClosed given specs (all_seen (types_of now) found) → Meets given specs (asked_seen (types_of start) need)
  is_met first is now found g front all =
      let there : Contains first need = subst (λ (l : List Asked). Contains l need) (sym is) (one_here met need) in
      let seen : Contains (all_seen (types_of now) found) (asked_seen (types_of now) need) = seen_in (types_of now) found need (kept_in first found front need there) in
      (all_seen (types_of now) found, subst (λ (x : Needed). Contains (all_seen (types_of now) found) x) (one_same start now g need need_in) seen, all)

  pub is_not_met : (first : List Asked) → first ≡ with_one met need → (before : ℕ) → before ≡ length met → AreNotMet given specs (types_of start) first before → Meets given specs (asked_seen (types_of start) need) → ⊥
  is_not_met first is before many none m =
      none m.0 m.2 (λ k a le e. subst (λ (x : Asked). Contains m.0 (asked_seen (types_of start) x)) (last_is first is k a (omega (arith, many, le)) e) m.1)

  -- those that were met are what is left then
  pub met_left : (first : List Asked) → first ≡ with_one met need → (before : ℕ) → before ≡ length met → (found : List Asked) → IsFrontOf first found → take before found ≡ met
  met_left first is before many found front =
      let f = begun first is in
      ap (λ (n : ℕ). take n found) many
      ∙ ap (take (length met)) (front.1 ∙ ap (λ (l : List Asked). l ++ front.0) f.1 ∙ append_assoc met f.0 front.0) ∙ take-append_seam met (f.0 ++ front.0)

  pub left_closed : (now : List Term) → Grows start now → (left : List Asked) → left ≡ met → IsClosed given specs (all_seen (types_of now) left)
  left_closed now g left is = subst (λ (ns : List Needed). IsClosed given specs ns) (sym (ap (all_seen (types_of now)) is ∙ all_same start now g met met_in)) closed

  pub left_below : (now : List Term) → Grows start now → (left : List Asked) → left ≡ met → AreBelowAll (length now) left
  left_below now g left is = subst (AreBelowAll (length now)) (sym is) (more_below (length start) (length now) (length_grows start now g) met met_in)

-- nothing is met before
pub none_closed : (given : List Demanded) (specs : List Spec) (types : List CluType) (none : List Asked) → none ≡ [] → IsClosed given specs (all_seen types none)
none_closed given specs types none is = subst (λ (l : List Asked). IsClosed given specs (all_seen types l)) (sym is) (λ n h. in_none n h)

pub none_below : (n : ℕ) (none : List Asked) → none ≡ [] → AreBelowAll n none
none_below n none is = subst (AreBelowAll n) (sym is) tt

-- ---- what is found of one

module _ (given : List Demanded) (specs : List Spec) (old new : List Term) (keys newer : List Asked) (n : ℕ) (need : Asked) (at : slice_get keys n ≡ Some need) where
  pub asked_found : (found : Option (List Asked)) → Answers (Asks given specs (asked_seen (types_of old) need)) (types_of new) found → AreBelowIf (length new) found → HasFound found keys newer → HasAsked given specs old new keys newer n
  asked_found None a b h = absurd h
  asked_found (Some asked) a b h = record { need = need; at = at; asked = asked; asks = a; within = b; added = h }

  pub none_found : (found : Option (List Asked)) → Answers (Asks given specs (asked_seen (types_of old) need)) (types_of new) found → found ≡ None → AsksNone given specs (types_of old) keys n
  none_found (Some asked) a none other there = none_is_not asked (sym none)
  none_found None a none other there =
      subst (λ (x : Asked). (asks : List Needed) → Asks given specs (asked_seen (types_of old) x) asks → ⊥) (same_Some need other (sym at ∙ there)) a

  pub asked_if_ok : (found : Option (List Asked)) → Answers (Asks given specs (asked_seen (types_of old) need)) (types_of new) found → AreBelowIf (length new) found → (r : Result Bool Memory)
      → IfOk r (λ b. b ≡ true → HasFound found keys newer) → IfOk r (λ b. b ≡ true → HasAsked given specs old new keys newer n)
  asked_if_ok found a w (Ok b) h = λ e. asked_found found a w (h e)
  asked_if_ok found a w (Err x) h = h

  pub none_if_ok : (found : Option (List Asked)) → Answers (Asks given specs (asked_seen (types_of old) need)) (types_of new) found → (r : Result Bool Memory)
      → IfOk r (λ b. b ≡ false → found ≡ None) → IfOk r (λ b. b ≡ false → AsksNone given specs (types_of old) keys n)
  none_if_ok found a (Ok b) h = λ e. none_found found a (h e)
  none_if_ok found a (Err x) h = h

pub none_there : (given : List Demanded) (specs : List Spec) (types : List CluType) (keys : List Asked) (n : ℕ) → None ≡ slice_get keys n → AsksNone given specs types keys n
none_there given specs types keys n none need there = none_is_not need (none ∙ there)

-- ---- what is given is the same while the arena grows
pub asked_from : (ds : List Demand) (specs : List Spec) (start now newer : List Term) → Grows start now → DemandsBelow (length start) ds → (found new : List Asked) (n : ℕ)
    → HasAsked (map (demand_seen (types_of now)) ds) specs now newer found new n → HasAsked (map (demand_seen (types_of start)) ds) specs now newer found new n
asked_from ds specs start now newer g below found new n h =
    subst (λ (given : List Demanded). HasAsked given specs now newer found new n) (demands_same start now g ds below) h

pub none_from : (ds : List Demand) (specs : List Spec) (start now : List Term) → Grows start now → DemandsBelow (length start) ds → (found : List Asked) (n : ℕ)
    → AsksNone (map (demand_seen (types_of now)) ds) specs (types_of now) found n → AsksNone (map (demand_seen (types_of start)) ds) specs (types_of now) found n
none_from ds specs start now g below found n h =
    subst (λ (given : List Demanded). AsksNone given specs (types_of now) found n) (demands_same start now g ds below) h

pub given_below : (ds : List Demand) (start now : List Term) → Grows start now → DemandsBelow (length start) ds → DemandsBelow (length now) ds
given_below ds start now g below = demands_more (length start) (length now) (length_grows start now g) ds below
