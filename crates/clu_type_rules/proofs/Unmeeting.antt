-- What is asked and not met: of one that is asked, of several, and of askers that are kept.
use Rattle.std.proofs.Common.{◌≡◌, ◌∙◌, ◌↔◌, ◌⊎◌, inl, inr, ℕ, ◌+◌, ◌<◌, ◌≤◌, ◌&&◌, ◌||◌, not, cond, Bool, true, false, true≢false, List, [], ◌∷◌, ◌++◌, Contains, length, map, drop, slice_get, Option, Some, None, IsTrue, refl, sym, ap, subst, arith, ltb, ltb-true, ltb-false, length-append, ap₂}
use Rattle.std.specs.HashMap.{get}
use Rattle.std.proofs.Math.Bool.{or-false, or_assoc}
use Rattle.std.proofs.lemmas.List.{drop_all}
use Rattle.std.proofs.lemmas.Option.{slice_get_within, same_Some}
use Rattle.std.proofs.lemmas.List.Elements.{Contains-append_left, Contains-append_right, Contains-append_cases}
use Rattle.clu_base.proofs.Lists.{none_is_not, front_of, at_seam, head_or_tail, in_head, in_tail, in_none, is_there}
use Rattle.clu_types.specs.CluType.{CluType}
use Rattle.clu_types.specs.Arena.{types_of}
use Rattle.clu_bindings.specs.declared.file.Headed.{Headed}
use Rattle.clu_operations.specs.declared.found.Asked.{Asked}
use Rattle.clu_operations.specs.declared.found.FoundId.{FoundId}
use Rattle.clu_operations.specs.Finding.{asked_by}
use Rattle.clu_operations.specs.Told.{Ask, Told, ask_told}
use Rattle.clu_operations.specs.Wished.{IsFinding}
use Rattle.clu_operations.proofs.Naming.{length_extends}
use Rattle.clu_operations.proofs.Lasting.{told_stays}
use Rattle.clu_typing.specs.declared.facts.Invocations.{Invocations}
use Rattle.clu_typing.specs.Facts.{askers_at}
use Rattle.clu_type_rules.specs.declared.unmet.Asker.{Asker}
use Rattle.clu_type_rules.specs.declared.unmet.Clauses.{Clauses}
use Rattle.clu_type_rules.specs.declared.unmet.Meeting.{Meeting}
use Rattle.clu_type_rules.specs.declared.unmet.Need.{Need}
use Rattle.clu_type_rules.specs.declared.unmet.Unmet.{Unmet}
use Rattle.clu_type_rules.specs.Askers.{either, unmet_one, same_asker, asks_by, asks_by_all, IsAsker, AreAskers, Keeps, Brings, AreFoundAt}
use Rattle.clu_type_rules.specs.Meeting.{Meets, SomeUnmet, AreUnmet, plain}
use Rattle.clu_type_rules.specs.Needs.{World, Later, Due, seen, need_of, clauses_at, Setting, Looks, is_fine, AreFine, AreUnmetIf, IsThere, AreThere, Rests, MeetsOne, MeetsAll}
use Rattle.clu_type_rules.specs.Unmet.{all_met}
use Rattle.clu_type_rules.proofs.Keys.{asker_equal}
use Rattle.clu_type_rules.proofs.Lists.{in_flat, in_mapped}
use Rattle.clu_type_rules.proofs.Needing.{later_self, later_on, stays, same, needs_there}

-- ---- one and several that are asked

module _ (found : CluType → List ℕ → CluType → Option Told) where
  none_unmet : (in_set : Bool) → SomeUnmet found in_set [] → ⊥
  none_unmet in_set h = in_none h.0 h.1

  pub unmet_none : AreUnmet found [] all_met
  unmet_none = record {
    by_has = (λ t. absurd (true≢false (sym t)), λ h. absurd (none_unmet false h));
    by_in = (λ t. absurd (true≢false (sym t)), λ h. absurd (none_unmet true h));
  }

  left_unmet : (in_set : Bool) (xs ys : List Ask) → SomeUnmet found in_set xs → SomeUnmet found in_set (xs ++ ys)
  left_unmet in_set xs ys h = (h.0, Contains-append_left xs ys h.0 h.1, h.2, h.3)

  right_unmet : (in_set : Bool) (xs ys : List Ask) → SomeUnmet found in_set ys → SomeUnmet found in_set (xs ++ ys)
  right_unmet in_set xs ys h = (h.0, Contains-append_right xs ys h.0 h.1, h.2, h.3)

  which_unmet : (in_set : Bool) (xs ys : List Ask) → SomeUnmet found in_set (xs ++ ys) → SomeUnmet found in_set xs ⊎ SomeUnmet found in_set ys
  which_unmet in_set xs ys h = elim (Contains-append_cases xs ys h.0 h.1) [
    | inl there ↦ inl (h.0, there, h.2, h.3)
    | inr there ↦ inr (h.0, there, h.2, h.3)
  ]

  both : (in_set : Bool) (xs ys : List Ask) (a b : Bool) → (IsTrue a ↔ SomeUnmet found in_set xs) → (IsTrue b ↔ SomeUnmet found in_set ys) → IsTrue (a || b) ↔ SomeUnmet found in_set (xs ++ ys)
  both in_set xs ys true b p q = (λ t. left_unmet in_set xs ys (p.0 refl), λ h. refl)
  both in_set xs ys false b p q = (
    λ t. right_unmet in_set xs ys (q.0 t),
    λ h. elim (which_unmet in_set xs ys h) [
      | inl first ↦ absurd (true≢false (sym (p.1 first)))
      | inr second ↦ q.1 second
    ],
  )

  pub unmet_both : (xs ys : List Ask) (u w : Unmet) → AreUnmet found xs u → AreUnmet found ys w → AreUnmet found (xs ++ ys) (either u w)
  unmet_both xs ys u w p q = record {
    by_has = both false xs ys u.by_has w.by_has p.by_has q.by_has;
    by_in = both true xs ys u.by_in w.by_in p.by_in q.by_in;
  }

  only : (a b : Ask) → Contains (a ∷ []) b → a ≡ b
  only a b h = elim (head_or_tail a [] b h) [
    | inl is ↦ is
    | inr there ↦ in_none b there
  ]

  -- of one: it is unmet by the kind of clause that asks it
  one_by : (a : Ask) (in_set is own : Bool) → a.in_set ≡ own → (IsTrue is ↔ Meets found a) → (b : Bool) → (b ≡ true → own ≡ in_set) → (own ≡ in_set → b ≡ true) → IsTrue (not is && b) ↔ SomeUnmet found in_set (a ∷ [])
  one_by a in_set true own of met b to from = (
    λ t. absurd (true≢false (sym t)),
    λ h. absurd (h.3 (subst (Meets found) (only a h.0 h.1) (met.0 refl))),
  )
  one_by a in_set false own of met b to from = (
    λ t. (a, in_head a [] a refl, of ∙ to t, λ m. true≢false (sym (met.1 m))),
    λ h. from (sym of ∙ ap (λ (x : Ask). x.in_set) (only a h.0 h.1) ∙ h.2),
  )

  not_to : (own : Bool) → not own ≡ true → own ≡ false
  not_to true e = absurd (true≢false (sym e))
  not_to false e = refl

  not_from : (own : Bool) → own ≡ false → not own ≡ true
  not_from true e = absurd (true≢false e)
  not_from false e = refl

  unmet_at_one : (a : Ask) (is : Bool) → (IsTrue is ↔ Meets found a) → AreUnmet found (a ∷ []) (unmet_one is a.in_set)
  unmet_at_one a is met = record {
    by_has = one_by a false is a.in_set refl met (not a.in_set) (not_to a.in_set) (not_from a.in_set);
    by_in = one_by a true is a.in_set refl met a.in_set (λ e. e) (λ e. e);
  }

abbrev unmet_with : Bool → Bool → Unmet
unmet_with a b = record { by_has = a; by_in = b }

either_all : (u : Unmet) → either u all_met ≡ unmet_with u.by_has u.by_in
either_all u = ap₂ unmet_with (or-false u.by_has) (or-false u.by_in)

either_assoc : (u v w : Unmet) → either (either u v) w ≡ either u (either v w)
either_assoc u v w = ap₂ unmet_with (or_assoc u.by_has v.by_has w.by_has) (or_assoc u.by_in v.by_in w.by_in)

-- ---- several, one after the other: those that are left decide

module _ (found : CluType → List ℕ → CluType → Option Told) (all : List Ask) where
  abbrev pub Left : List Ask → Unmet → Type 0
  Left rest u = (w : Unmet) → AreUnmet found rest w → AreUnmet found all (either u w)

  pub left_first : Left all all_met
  left_first w h = record { by_has = h.by_has; by_in = h.by_in }

  pub left_more : (now rest : List Ask) (u w : Unmet) → Left (now ++ rest) u → AreUnmet found now w → Left rest (either u w)
  left_more now rest u w left one x h = subst (AreUnmet found all) (sym (either_assoc u w x)) (left (either w x) (unmet_both found now rest w x one h))

  pub left_none : (u : Unmet) → Left [] u → AreUnmet found all u
  left_none u left =
      let h : AreUnmet found all (unmet_with u.by_has u.by_in) = subst (AreUnmet found all) (either_all u) (left all_met (unmet_none found)) in
      record { by_has = h.by_has; by_in = h.by_in }

-- ---- a list of what is asked at a place

module _ (headed : Headed) (s : Setting) (v : World) (under : Clauses) (asked : List Asked) where
  abbrev told_all : List Asked → List Ask
  told_all xs = map (ask_told (types_of v.terms) v.finding.words) xs

  -- after the first i of them
  pub record Among (w : World) (met : List Need) (u : Unmet) (i : ℕ) : Type 0 where
    pub rests : Rests headed s w met
    pub later : Later v w
    pub there : AreThere v (map (need_of under) asked)
    pub left : AreFine s (told_all asked) → Left (s.found under) (told_all asked) (told_all (drop i asked)) u

  pub among_first : (met : List Need) → Rests headed s v met → AreThere v (map (need_of under) asked) → Among v met all_met 0
  among_first met rests there = record { rests = rests; later = later_self v; there = there; left = λ fine. left_first (s.found under) (told_all asked) }

  module _ (w : World) (met : List Need) (u : Unmet) (i : ℕ) (among : Among w met u i) (one : Asked) (at : drop i asked ≡ one ∷ drop (i + 1) asked) (has : Contains asked one) where
    one_there : IsThere v (need_of under one)
    one_there = among.there (need_of under one) (in_mapped (need_of under) asked one has)

    among_there : IsThere w (need_of under one)
    among_there = stays v w among.later (need_of under one) one_there

    pub among_more : (newer : World) (new : List Need) (is : Bool) → MeetsOne headed s w newer new (need_of under one) is → Among newer new (either u (unmet_one is one.in_set)) (i + 1)
    among_more newer new is meets = record {
      rests = meets.rests;
      later = later_on v w newer among.later meets.later;
      there = among.there;
      left = λ fine.
          left_more (s.found under) (told_all asked) (this ∷ []) (told_all (drop (i + 1) asked)) u (unmet_one is one.in_set)
          (subst (λ (xs : List Asked). Left (s.found under) (told_all asked) (told_all xs) u) at (among.left fine))
          (unmet_at_one (s.found under) this is (its_met (fine this (in_mapped (ask_told (types_of v.terms) v.finding.words) asked one has))));
    }
      where
        this : Ask
        this = ask_told (types_of v.terms) v.finding.words one

        alike : (seen w (need_of under one)).ask ≡ plain this
        alike = ap (λ (d : Due). d.ask) (same v w among.later (need_of under one) one_there)

        its_met : s.fine this.of ≡ true → IsTrue is ↔ Meets (s.found under) this
        its_met fine =
            let its : is_fine s (seen w (need_of under one)) ≡ true = ap (λ (a : Ask). s.fine a.of) alike ∙ fine in (
              λ t. subst (λ (a : Ask). Meets (s.found under) a) alike ((meets.met its).0 t),
              λ m. (meets.met its).1 (subst (λ (a : Ask). Meets (s.found under) a) (sym alike) m),
            )

    -- as calls say so
    pub among_is_there : (need : Need) → need ≡ need_of under one → IsThere w need
    among_is_there need is = subst (IsThere w) (sym is) among_there

    pub among_next : (need : Need) → need ≡ need_of under one → (newer : World) (new : List Need) (is : Bool) → MeetsOne headed s w newer new need is → (x : Unmet) → x ≡ unmet_one is one.in_set → (all : Unmet) → all ≡ either u x → Among newer new all (i + 1)
    among_next need same newer new is meets x x_is all all_is =
        subst (λ (y : Unmet). Among newer new y (i + 1)) (sym (all_is ∙ ap (either u) x_is))
        (among_more newer new is (subst (λ (a : Need). MeetsOne headed s w newer new a is) same meets))

  pub among_all : (w : World) (met : List Need) (u : Unmet) (i : ℕ) → length asked ≤ i → Among w met u i → MeetsAll headed s v w met under (told_all asked) u
  among_all w met u i past among = record {
    rests = among.rests;
    later = among.later;
    unmet = λ fine. left_none (s.found under) (told_all asked) u (subst (λ (xs : List Asked). Left (s.found under) (told_all asked) (told_all xs) u) (drop_all i asked past) (among.left fine));
  }

-- ---- askers

module _ (headed : Headed) (s : Setting) where
  -- what they ask stays
  pub asks_stay : (v w : World) → Later v w → IsFinding headed v.terms v.finding → (id : FoundId) → id.0 < length v.finding.founds.items → asks_by w id ≡ asks_by v id
  asks_stay v w late finding id there = ap (λ (it : Told). it.asks) (told_stays v.terms w.terms late.0 v.finding w.finding late.1 finding.within id there)

  founds_grow : (v w : World) → Later v w → (n : ℕ) → n < length v.finding.founds.items → n < length w.finding.founds.items
  founds_grow v w late n lt = omega (arith, lt, length_extends v.finding.founds.items w.finding.founds.items late.1.founds)

  pub asker_stays : (v w : World) → Later v w → (id : FoundId) → IsAsker v id → IsAsker w id
  asker_stays v w late id there = founds_grow v w late id.0 there

  pub asked_needs : (v : World) → IsFinding headed v.terms v.finding → (under : Clauses) (id : FoundId) (asked : List Asked) → asked ≡ asked_by v.finding id → AreThere v (map (need_of under) asked)
  asked_needs v finding under id asked all = subst (λ (l : List Asked). AreThere v (map (need_of under) l)) (sym all) (needs_there headed v finding under id)

  -- what is kept stays, while more is met
  kept_stays : (v w : World) → Later v w → IsFinding headed v.terms v.finding → (meeting : Meeting) → Keeps headed s v meeting → (asker : Asker) (u : Unmet) → get same_asker meeting.askers asker ≡ Some u → AreUnmetIf s asker.under u (asks_by w asker.found)
  kept_stays v w late finding meeting keeps asker u e =
      subst (AreUnmetIf s asker.under u) (sym (asks_stay v w late finding asker.found (keeps.there asker u e))) (keeps.unmet asker u e)

  pub brings_kept : (v : World) (meeting : Meeting) → Keeps headed s v meeting → (asker : Asker) (u : Unmet) → get same_asker meeting.askers asker ≡ Some u → Brings headed s v v meeting asker.under (asks_by v asker.found) u
  brings_kept v meeting keeps asker u e = record { keeps = keeps; later = later_self v; unmet = keeps.unmet asker u e }

  module _ (v w : World) (old new : Meeting) (keeps : Keeps headed s v old) (asker : Asker) (is : IsAsker v asker.found) (u : Unmet) (meets : MeetsAll headed s v w new.met.keys asker.under (asks_by v asker.found) u)
      (put : (q : Asker) → get same_asker new.askers q ≡ cond (same_asker asker q) (Some u) (get same_asker old.askers q)) where
    finding : IsFinding headed v.terms v.finding
    finding = keeps.rests.stands.finding

    there : (b : Bool) (q : Asker) (x : Unmet) → same_asker asker q ≡ b → get same_asker new.askers q ≡ Some x → IsAsker w q.found
    there true q x e at = founds_grow v w meets.later q.found.0 (subst (λ (a : Asker). IsAsker v a.found) (asker_equal asker q e) is)
    there false q x e at =
        founds_grow v w meets.later q.found.0 (keeps.there q x (sym (ap (λ (b : Bool). cond b (Some u) (get same_asker old.askers q)) e) ∙ sym (put q) ∙ at))

    unmet : (b : Bool) (q : Asker) (x : Unmet) → same_asker asker q ≡ b → get same_asker new.askers q ≡ Some x → AreUnmetIf s q.under x (asks_by w q.found)
    unmet true q x e at =
        let it : u ≡ x = same_Some u x (sym (ap (λ (b : Bool). cond b (Some u) (get same_asker old.askers q)) e) ∙ sym (put q) ∙ at) in
        let mine : AreUnmetIf s asker.under u (asks_by w asker.found) = subst (AreUnmetIf s asker.under u) (sym (asks_stay v w meets.later finding asker.found is)) meets.unmet in
        subst (λ (y : Unmet). AreUnmetIf s q.under y (asks_by w q.found)) it (subst (λ (a : Asker). AreUnmetIf s a.under u (asks_by w a.found)) (asker_equal asker q e) mine)
    unmet false q x e at =
        kept_stays v w meets.later finding old keeps q x (sym (ap (λ (b : Bool). cond b (Some u) (get same_asker old.askers q)) e) ∙ sym (put q) ∙ at)

    pub brings_new : Brings headed s v w new asker.under (asks_by v asker.found) u
    brings_new = record {
      keeps = record {
        rests = meets.rests;
        there = λ q x at. there (same_asker asker q) q x refl at;
        unmet = λ q x at. unmet (same_asker asker q) q x refl at;
      };
      later = meets.later;
      unmet = meets.unmet;
    }

  -- the same, of a list that is what it asks
  pub brings_asked : (v w : World) (old new : Meeting) → Keeps headed s v old → (asker : Asker) → IsAsker v asker.found → (under : Clauses) → asker.under ≡ under → (asked : List Asked) → asked ≡ asked_by v.finding asker.found → (u : Unmet)
      → MeetsAll headed s v w new.met.keys under (map (ask_told (types_of v.terms) v.finding.words) asked) u → ((q : Asker) → get same_asker new.askers q ≡ cond (same_asker asker q) (Some u) (get same_asker old.askers q)) → Brings headed s v w new under (asks_by v asker.found) u
  brings_asked v w old new keeps asker is under same asked all u meets put =
      subst (λ (k : Clauses). Brings headed s v w new k (asks_by v asker.found) u) same
      (brings_new v w old new keeps asker is u
      (subst (λ (k : Clauses). MeetsAll headed s v w new.met.keys k (asks_by v asker.found) u) (sym same)
      (subst (λ (l : List Asked). MeetsAll headed s v w new.met.keys under (map (ask_told (types_of v.terms) v.finding.words) l) u) all meets)) put)

-- ---- several askers at a place

module _ (headed : Headed) (s : Setting) (v : World) (under : Clauses) (ids : List FoundId) where
  pub record Asking (w : World) (meeting : Meeting) (u : Unmet) (i : ℕ) : Type 0 where
    pub keeps : Keeps headed s w meeting
    pub later : Later v w
    pub finding : IsFinding headed v.terms v.finding
    pub askers : AreAskers v ids
    pub left : AreFine s (asks_by_all v ids) → Left (s.found under) (asks_by_all v ids) (asks_by_all v (drop i ids)) u

  pub asking_first : (meeting : Meeting) → Keeps headed s v meeting → AreAskers v ids → Asking v meeting all_met 0
  asking_first meeting keeps askers = record {
    keeps = keeps;
    later = later_self v;
    finding = keeps.rests.stands.finding;
    askers = askers;
    left = λ fine. left_first (s.found under) (asks_by_all v ids);
  }

  module _ (w : World) (meeting : Meeting) (u : Unmet) (i : ℕ) (asking : Asking w meeting u i) (id : FoundId) (at : drop i ids ≡ id ∷ drop (i + 1) ids) (has : Contains ids id) where
    pub asking_one : IsAsker w id
    asking_one = asker_stays headed s v w asking.later id (asking.askers id has)

    pub asking_more : (newer : World) (new : Meeting) (x : Unmet) → Brings headed s w newer new under (asks_by w id) x → Asking newer new (either u x) (i + 1)
    asking_more newer new x brings = record {
      keeps = brings.keeps;
      later = later_on v w newer asking.later brings.later;
      finding = asking.finding;
      askers = asking.askers;
      left = λ fine.
          left_more (s.found under) (asks_by_all v ids) (asks_by v id) (asks_by_all v (drop (i + 1) ids)) u x
          (subst (λ (l : List FoundId). Left (s.found under) (asks_by_all v ids) (asks_by_all v l) u) at (asking.left fine))
          (subst (AreUnmetIf s under x) (asks_stay headed s v w asking.later asking.finding id (asking.askers id has)) brings.unmet (λ a h. fine a (in_flat (asks_by v) ids id a has h)));
    }

    -- as calls say so
    pub asking_next : (newer : World) (new : Meeting) (x : Unmet) → Brings headed s w newer new under (asks_by w id) x → (all : Unmet) → all ≡ either u x → Asking newer new all (i + 1)
    asking_next newer new x brings all is = subst (λ (y : Unmet). Asking newer new y (i + 1)) (sym is) (asking_more newer new x brings)

  pub asking_all : (w : World) (meeting : Meeting) (u : Unmet) (i : ℕ) → length ids ≤ i → Asking w meeting u i → Brings headed s v w meeting under (asks_by_all v ids) u
  asking_all w meeting u i past asking = record {
    keeps = asking.keeps;
    later = asking.later;
    unmet = λ fine. left_none (s.found under) (asks_by_all v ids) u (subst (λ (l : List FoundId). Left (s.found under) (asks_by_all v ids) (asks_by_all v l) u) (drop_all i ids past) (asking.left fine));
  }

-- who asks nothing has all that it asks
pub nothing_asked : (headed : Headed) (s : Setting) (w : World) (meeting : Meeting) (under : Clauses) → Keeps headed s w meeting → Brings headed s w w meeting under [] all_met
nothing_asked headed s w meeting under keeps = record {
  keeps = keeps;
  later = later_self w;
  unmet = λ fine. unmet_none (s.found under);
}

-- ---- all nodes

module _ (headed : Headed) (s : Setting) (v : World) (list : Invocations) where
  pub record Nodes (w : World) (meeting : Meeting) (all : List Unmet) : Type 0 where
    pub keeps : Keeps headed s w meeting
    pub later : Later v w
    pub finding : IsFinding headed v.terms v.finding
    pub askers : (n : ℕ) → AreAskers v (askers_at list n)
    pub at : AreFoundAt headed s v list all

  pub nodes_first : (meeting : Meeting) → Keeps headed s v meeting → ((n : ℕ) → AreAskers v (askers_at list n)) → (all : List Unmet) → all ≡ [] → Nodes v meeting all
  nodes_first meeting keeps askers all none = record {
    keeps = keeps;
    later = later_self v;
    finding = keeps.rests.stands.finding;
    askers = askers;
    at = λ n u e. none_is_not u (sym (ap (λ (l : List Unmet). slice_get l n) none) ∙ e);
  }

  all_stay : (w : World) → Later v w → IsFinding headed v.terms v.finding → (ids : List FoundId) → AreAskers v ids → asks_by_all w ids ≡ asks_by_all v ids
  all_stay w late was [] askers = refl
  all_stay w late was (id ∷ ids) askers =
      ap₂ (λ (xs ys : List Ask). xs ++ ys) (asks_stay headed s v w late was id (askers id (is_there (id ∷ ids) 0 id refl))) (all_stay w late was ids (λ x h. askers x (in_tail id ids x h)))

  module _ (w : World) (meeting : Meeting) (all : List Unmet) (nodes : Nodes w meeting all) where
    pub nodes_askers : (n : ℕ) → AreAskers w (askers_at list n)
    nodes_askers n id h = asker_stays headed s v w nodes.later id (nodes.askers n id h)

    pub nodes_more : (n : ℕ) → length all ≡ n → (newer : World) (new : Meeting) (u : Unmet) → Brings headed s w newer new (clauses_at headed n) (asks_by_all w (askers_at list n)) u → (more : List Unmet) → more ≡ all ++ u ∷ [] → Nodes newer new more
    nodes_more n size newer new u brings more is = record {
      keeps = brings.keeps;
      later = later_on v w newer nodes.later brings.later;
      finding = nodes.finding;
      askers = nodes.askers;
      at = λ k x e. at k x (sym (ap (λ (l : List Unmet). slice_get l k) is) ∙ e) (ltb k (length all)) refl;
    }
      where
        mine : AreUnmetIf s (clauses_at headed n) u (asks_by_all v (askers_at list n))
        mine = subst (AreUnmetIf s (clauses_at headed n) u) (all_stay w nodes.later nodes.finding (askers_at list n) (nodes.askers n)) brings.unmet

        at : (k : ℕ) (x : Unmet) → slice_get (all ++ u ∷ []) k ≡ Some x → (b : Bool) → ltb k (length all) ≡ b → AreUnmetIf s (clauses_at headed k) x (asks_by_all v (askers_at list k))
        at k x e true lt = nodes.at k x (front_of all (u ∷ []) k x (omega (arith, ltb-true)) e)
        at k x e false lt =
            let it : u ≡ x = at_seam all u x k (omega (arith, ltb-false)) e in
            let short : k < length (all ++ u ∷ []) = slice_get_within (all ++ u ∷ []) k x e in
            let place : n ≡ k = omega (arith, ltb-false, short, size, length-append all (u ∷ [])) in
            subst (λ (m : ℕ). AreUnmetIf s (clauses_at headed m) x (asks_by_all v (askers_at list m))) place
            (subst (λ (y : Unmet). AreUnmetIf s (clauses_at headed n) y (asks_by_all v (askers_at list n))) it mine)

    -- as calls say so
    pub nodes_next : (n : ℕ) → length all ≡ n → (askers : List FoundId) → askers ≡ askers_at list n → (newer : World) (new : Meeting) (u : Unmet) → (AreAskers w askers → Brings headed s w newer new (clauses_at headed n) (asks_by_all w askers) u)
        → (more : List Unmet) → more ≡ all ++ u ∷ [] → Nodes newer new more
    nodes_next n size askers are newer new u brings more is =
        nodes_more n size newer new u
        (subst (λ (l : List FoundId). Brings headed s w newer new (clauses_at headed n) (asks_by_all w l) u) are (brings (subst (AreAskers w) (sym are) (nodes_askers n)))) more is

-- nothing is kept at first
module _ (headed : Headed) (s : Setting) (v : World) where
  pub keeps_first : Looks headed s → s.start ≡ v → IsFinding headed v.terms v.finding → (meeting : Meeting) → meeting.met.keys ≡ [] → ((q : Asker) → get same_asker meeting.askers q ≡ None) → Keeps headed s v meeting
  keeps_first looks start finding meeting none nobody = record {
    rests = record {
      stands = record {
        looks = looks;
        later = subst (λ (w : World). Later w v) (sym start) (later_self v);
        finding = finding;
        there = λ a h. in_none a (subst (λ (l : List Need). Contains l a) none h);
      };
      closed = λ d h fine. in_none d (subst (λ (l : List Need). Contains (map (seen v) l) d) none h);
    };
    there = λ q u e. none_is_not u (sym (nobody q) ∙ e);
    unmet = λ q u e. none_is_not u (sym (nobody q) ∙ e);
  }
