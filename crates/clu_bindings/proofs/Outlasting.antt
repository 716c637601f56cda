-- The two passes over declarations of `rep` find the one that counts at each node.
use Rattle.std.proofs.Common.{◌≡◌, ◌∙◌, ◌⊎◌, ℕ, zero, suc, ◌+◌, ◌<◌, ◌≤◌, List, [], ◌∷◌, ◌++◌, length, get_or, replicate, set, Option, Some, None, refl, ap, ap₂, sym, subst, inl, inr, arith}
use Rattle.std.specs.Prelude.{◌&&◌, ◌||◌, ◌==◌, nat_lt, nat_le, if◌then◌else◌, Bool, true, false, bytes_eq, codes, slice_get}
use Rattle.std.proofs.lemmas.Bool.{cases_eq, and_parts, and_from, and_cases, or_cases, or_parts, ltb-true, ltb-false, leb-true, leb-false, le-leb, eqb-true, eqb-false, true≢false}
use Rattle.std.proofs.lemmas.List.{get_or-set_same, get_or-set_other, get_or-replicate, length-set, length-replicate}
use Rattle.std.proofs.lemmas.Option.{same_Some, slice_get_within, slice_get-get_or}
use Rattle.clu_names.specs.declared.scopes.Declared.{Declared}
use Rattle.clu_names.specs.Denotes.{rank, rank_of, is_open, stands_in, found}
use Rattle.clu_names.specs.Latest.{IsUnder, IsBestAt, IsBest, is_local, outlasts, reaches}
use Rattle.clu_names.proofs.Best.{same_best, found_is, is_found}
use Rattle.clu_bindings.specs.Tables.{optional, table_to}
use Rattle.clu_bindings.specs.Reps.{in_module, if_in_module, rep_found, declares_rep_in, declares_rep, outlasting, with_begun_at, begun_to, begun_of, outlasting_from, outlasting_at, reaching, best_to, reached_at, reached_of}

-- ---- declarations of `rep`

rank_is : (d : Declared) → declares_rep d ≡ true → rank d ≡ d.to + 1
rank_is d e = by d.unit e
  where
    by : (unit : Option ℕ) → declares_rep_in unit d.name ≡ true → rank_of unit d.to ≡ d.to + 1
    by (Some u) e = refl
    by None e = absurd (true≢false (sym e))

local_is : (d : Declared) → declares_rep d ≡ true → is_local d.unit ≡ true
local_is d e = by d.unit e
  where
    by : (unit : Option ℕ) → declares_rep_in unit d.name ≡ true → is_local unit ≡ true
    by (Some u) e = refl
    by None e = absurd (true≢false (sym e))

open_is : (d : Declared) (n : ℕ) → declares_rep d ≡ true → d.from ≤ n → n ≤ d.to → is_open (codes "rep") n d ≡ true
open_is d n e low high = by d.unit e
  where
    by : (unit : Option ℕ) → declares_rep_in unit d.name ≡ true → (bytes_eq d.name (codes "rep") && stands_in unit d.from d.to n) ≡ true
    by (Some u) e = and_from (bytes_eq d.name (codes "rep")) (nat_le d.from n && nat_le n d.to) e (and_from (nat_le d.from n) (nat_le n d.to) (le-leb d.from n low) (le-leb n d.to high))
    by None e = absurd (true≢false (sym e))

-- of a declaration that `rep` may denote at the node, where a module has it inside itself
record IsOpenRep (n j : ℕ) (d : Declared) : Type 0 where
  pub rep : declares_rep d ≡ true
  pub from : d.from ≤ n
  pub to : n ≤ d.to

opened : (d : Declared) (n j : ℕ) → is_open (codes "rep") n d ≡ true → is_local d.unit ≡ true → IsOpenRep n j d
opened d n j e local = by d.unit refl e local
  where
    by : (unit : Option ℕ) → d.unit ≡ unit → (bytes_eq d.name (codes "rep") && stands_in unit d.from d.to n) ≡ true → is_local unit ≡ true → IsOpenRep n j d
    by None is e local = absurd (true≢false (sym local))
    by (Some u) is e local =
        let both = and_parts (bytes_eq d.name (codes "rep")) (nat_le d.from n && nat_le n d.to) e in
        let range = and_parts (nat_le d.from n) (nat_le n d.to) both.1 in
        record { rep = ap (λ (unit : Option ℕ). declares_rep_in unit d.name) is ∙ both.0; from = leb-true d.from n range.0; to = leb-true n d.to range.1 }

-- ---- the one that counts of two kinds of declarations

itself : (d : Declared) (k : ℕ) → IsUnder d k d k
itself d k = record { small = omega arith; first = λ e. omega arith }

module _ (ds : List Declared) (P Q : ℕ → Declared → Type 0) (kept : (j : ℕ) (e : Declared) → P j e → Q j e) (reps : (j : ℕ) (e : Declared) → Q j e → declares_rep e ≡ true) where
  -- the second kind has the declaration d at a place, which counts there
  module _ (R : ℕ → Declared → Type 0) (either : (j : ℕ) (e : Declared) → slice_get ds j ≡ Some e → Q j e → P j e ⊎ R j e) (place : ℕ) (d : Declared) (here : IsBestAt R ds place d) (too : Q place d) where
    mine : rank d ≡ d.to + 1
    mine = rank_is d (reps place d too)

    only : ((j : ℕ) (e : Declared) → slice_get ds j ≡ Some e → P j e → ⊥) → IsBest Q ds (Some place)
    only none = (d, record { there = here.there; passes = too; best = λ j x there q. elim (either j x there q) [ inl p ↦ absurd (none j x there p) | inr r ↦ here.best j x there r ] })

    module _ (b : ℕ) (o : Declared) (best : IsBestAt P ds b o) where
      other : rank o ≡ o.to + 1
      other = rank_is o (reps b o (kept b o best.passes))

      longer : (nat_lt o.to d.to || (o.to == d.to && nat_lt place b)) ≡ true → (j : ℕ) (x : Declared) → IsUnder x j o b → IsUnder x j d place
      longer test j x u =
          let m : rank d ≡ d.to + 1 = mine in
          let r : rank o ≡ o.to + 1 = other in
          let small : rank x ≤ rank o = u.small in
          elim (or_cases (nat_lt o.to d.to) (o.to == d.to && nat_lt place b) test) [
            | inl less ↦ (let l : o.to < d.to = ltb-true o.to d.to less in record { small = omega (arith, m, r, small, l); first = λ e. absurd (omega (arith, m, r, small, l, e)) })
            | inr both ↦ (let parts = and_parts (o.to == d.to) (nat_lt place b) both in
                let same : o.to ≡ d.to = eqb-true o.to d.to parts.0 in
                let l : place < b = ltb-true place b parts.1 in
                record { small = omega (arith, m, r, small, same); first = λ e. let y : b ≤ j = u.first (omega (arith, m, r, same, e)) in omega (arith, l, y) })
          ]

      shorter : (nat_lt o.to d.to || (o.to == d.to && nat_lt place b)) ≡ false → IsUnder d place o b
      shorter test =
          let m : rank d ≡ d.to + 1 = mine in
          let r : rank o ≡ o.to + 1 = other in
          let parts = or_parts (nat_lt o.to d.to) (o.to == d.to && nat_lt place b) test in
          let l : d.to ≤ o.to = ltb-false o.to d.to parts.0 in
          record {
            small = omega (arith, m, r, l);
            first = λ e. elim (and_cases (o.to == d.to) (nat_lt place b) parts.1) [
              | inl differ ↦ absurd (eqb-false o.to d.to differ (omega (arith, m, r, e)))
              | inr late ↦ ltb-false place b late
            ];
          }

      under_both : (j : ℕ) (x : Declared) → IsUnder x j d place → IsUnder d place o b → IsUnder x j o b
      under_both j x u v =
          let a : rank x ≤ rank d = u.small in
          let c : rank d ≤ rank o = v.small in
          record {
            small = omega (arith, a, c);
            first = λ e. let p : place ≤ j = u.first (omega (arith, a, c, e)) in let q : b ≤ place = v.first (omega (arith, a, c, e)) in omega (arith, p, q);
          }

      of_two : (test : Bool) → (nat_lt o.to d.to || (o.to == d.to && nat_lt place b)) ≡ test → IsBest Q ds (if test then Some place else Some b)
      of_two true test = (d, record { there = here.there; passes = too; best = λ j x there q. elim (either j x there q) [ inl p ↦ longer test j x (best.best j x there p) | inr r ↦ here.best j x there r ] })
      of_two false test = (o, record { there = best.there; passes = kept b o best.passes; best = λ j x there q. elim (either j x there q) [ inl p ↦ best.best j x there p | inr r ↦ under_both j x (here.best j x there r) (shorter test) ] })

    best_of : (a : Option ℕ) → IsBest P ds a → IsBest Q ds (outlasting ds d place a)
    best_of None none = only none
    best_of (Some b) (o, best) =
        subst (λ (its : Option Declared). IsBest Q ds (if outlasts d place its (Some b) then Some place else Some b)) (sym best.there)
        (of_two b o best (nat_lt o.to d.to || (o.to == d.to && nat_lt place b)) refl)

-- ---- what begins at each node

-- of the first p declarations
record IsBegun (m p j : ℕ) (d : Declared) : Type 0 where
  pub rep : declares_rep d ≡ true
  pub from : d.from ≡ m
  pub before : j < p

looked : (xs : List (Option ℕ)) (m : ℕ) → m < length xs → optional (slice_get xs m) ≡ get_or xs m None
looked xs m l = ap optional (slice_get-get_or xs m None l)

module _ (ds : List Declared) (nodes : ℕ) where
  begun_none : begun_to ds nodes 0 ≡ replicate nodes None
  unfolding begun_to
  begun_none = refl

  begun_next : (p : ℕ) → begun_to ds nodes (suc p) ≡ with_begun_at ds (begun_to ds nodes p) p (slice_get ds p)
  unfolding begun_to
  begun_next p = refl

  set_size : (begun : List (Option ℕ)) (p : ℕ) (d : Declared) (b : Bool) → length (if b then set begun d.from (outlasting ds d p (optional (slice_get begun d.from))) else begun) ≡ length begun
  set_size begun p d true = length-set begun d.from (outlasting ds d p (optional (slice_get begun d.from)))
  set_size begun p d false = refl

  with_size : (begun : List (Option ℕ)) (p : ℕ) (o : Option Declared) → length (with_begun_at ds begun p o) ≡ length begun
  with_size begun p None = refl
  with_size begun p (Some d) = set_size begun p d (declares_rep d)

  begun_size : (p : ℕ) → length (begun_to ds nodes p) ≡ nodes
  begun_size zero = ap length begun_none ∙ length-replicate nodes None
  begun_size (suc p) = ap length (begun_next p) ∙ with_size (begun_to ds nodes p) p (slice_get ds p) ∙ begun_size p

  module _ (m : ℕ) (inside : m < nodes) where
    here : ℕ → Option ℕ
    here p = get_or (begun_to ds nodes p) m None

    -- one more that doesn't begin here
    passed : (p : ℕ) (a : Option ℕ) → ((d : Declared) → slice_get ds p ≡ Some d → declares_rep d ≡ true → d.from ≡ m → ⊥) → IsBest (IsBegun m p) ds a → IsBest (IsBegun m (suc p)) ds a
    passed p a never best =
        same_best (IsBegun m p) (IsBegun m (suc p)) ds a
        (λ j e there s. let l : j < p = s.before in record { rep = s.rep; from = s.from; before = omega (arith, l) })
        (λ j e there s. elim (cases_eq j p) [
          | inl same ↦ absurd (never e (sym (ap (slice_get ds) same) ∙ there) s.rep s.from)
          | inr other ↦ (let l : j < suc p = s.before in record { rep = s.rep; from = s.from; before = omega (arith, l, other) })
        ])
        best

    -- one more that begins here
    noted : (p : ℕ) (d : Declared) (a : Option ℕ) → slice_get ds p ≡ Some d → declares_rep d ≡ true → d.from ≡ m → IsBest (IsBegun m p) ds a → IsBest (IsBegun m (suc p)) ds (outlasting ds d p a)
    noted p d a there rep from best =
        best_of ds (IsBegun m p) (IsBegun m (suc p)) (λ j e s. let l : j < p = s.before in record { rep = s.rep; from = s.from; before = omega (arith, l) }) (λ j e s. s.rep)
        (λ j e. (j ≡ p) × (e ≡ d))
        (λ j e at s. elim (cases_eq j p) [
          | inl same ↦ inr (same, same_Some e d (sym at ∙ ap (slice_get ds) same ∙ there))
          | inr other ↦ inl (let l : j < suc p = s.before in record { rep = s.rep; from = s.from; before = omega (arith, l, other) })
        ])
        p d
        (record { there = there; passes = (refl, refl); best = λ j e at is. subst (λ (k : ℕ). IsUnder e k d p) (sym is.0) (subst (λ (x : Declared). IsUnder x p d p) (sym is.1) (itself d p)) })
        (record { rep = rep; from = from; before = omega arith })
        a best

    abbrev Noted : ℕ → List (Option ℕ) → Type 0
    Noted p begun = IsBest (IsBegun m p) ds (get_or begun m None)

    with_noted : (begun : List (Option ℕ)) (p : ℕ) (d : Declared) → length begun ≡ nodes → slice_get ds p ≡ Some d → Noted p begun → (rep : Bool) → declares_rep d ≡ rep →
        Noted (suc p) (if rep then set begun d.from (outlasting ds d p (optional (slice_get begun d.from))) else begun)
    with_noted begun p d size there best false rep = passed p (get_or begun m None) (λ e at is from. true≢false (sym is ∙ ap declares_rep (same_Some e d (sym at ∙ there)) ∙ rep)) best
    with_noted begun p d size there best true rep = elim (cases_eq d.from m) [
      | inl same ↦
          (let l : m < length begun = omega (arith, size, inside) in
          let v : Option ℕ = outlasting ds d p (optional (slice_get begun d.from)) in
          let its : get_or (set begun d.from v) m None ≡ outlasting ds d p (get_or begun m None) =
          ap (λ (k : ℕ). get_or (set begun k (outlasting ds d p (optional (slice_get begun k)))) m None) same
          ∙ get_or-set_same begun m (outlasting ds d p (optional (slice_get begun m))) None l
          ∙ ap (outlasting ds d p) (looked begun m l) in
          subst (IsBest (IsBegun m (suc p)) ds) (sym its) (noted p d (get_or begun m None) there rep same best))
      | inr other ↦
          (let v : Option ℕ = outlasting ds d p (optional (slice_get begun d.from)) in
          subst (IsBest (IsBegun m (suc p)) ds) (sym (get_or-set_other begun d.from m v None (λ e. other (sym e))))
          (passed p (get_or begun m None) (λ e at is from. other (ap (λ (x : Declared). x.from) (same_Some d e (sym there ∙ at)) ∙ from)) best))
    ]

    with_noted_at : (begun : List (Option ℕ)) (p : ℕ) → length begun ≡ nodes → Noted p begun → (o : Option Declared) → slice_get ds p ≡ o → Noted (suc p) (with_begun_at ds begun p o)
    with_noted_at begun p size best (Some d) there = with_noted begun p d size there best (declares_rep d) refl
    with_noted_at begun p size best None there = passed p (get_or begun m None) (λ d at rep from. absurd (let never : None ≡ Some d = sym there ∙ at in cc)) best

    begun_best : (p : ℕ) → Noted p (begun_to ds nodes p)
    begun_best zero =
        subst (IsBest (IsBegun m 0) ds) (sym (ap (λ (xs : List (Option ℕ)). get_or xs m None) begun_none ∙ get_or-replicate nodes m None None inside))
        (λ j e there s. let l : j < 0 = s.before in absurd (omega (arith, l)))
    begun_best (suc p) =
        subst (Noted (suc p)) (sym (begun_next p)) (with_noted_at (begun_to ds nodes p) p (begun_size p) (begun_best p) (slice_get ds p) refl)

  -- ---- what has begun

  record HasBegun (n j : ℕ) (d : Declared) : Type 0 where
    pub rep : declares_rep d ≡ true
    pub from : d.from < n

  abbrev begun : List (Option ℕ)
  begun = begun_of ds nodes

  best_none : best_to ds begun 0 ≡ None
  unfolding best_to
  best_none = refl

  best_next : (n : ℕ) → best_to ds begun (suc n) ≡ outlasting_at ds (optional (slice_get begun n)) (best_to ds begun n)
  unfolding best_to
  best_next n = refl

  nothing_more : (n : ℕ) (a : Option ℕ) → ((j : ℕ) (e : Declared) → slice_get ds j ≡ Some e → IsBegun n (length ds) j e → ⊥) → IsBest (HasBegun n) ds a → IsBest (HasBegun (suc n)) ds a
  nothing_more n a none best =
      same_best (HasBegun n) (HasBegun (suc n)) ds a
      (λ j e there s. let l : e.from < n = s.from in record { rep = s.rep; from = omega (arith, l) })
      (λ j e there s. elim (cases_eq e.from n) [
        | inl same ↦ absurd (none j e there (record { rep = s.rep; from = same; before = slice_get_within ds j e there }))
        | inr other ↦ (let l : e.from < suc n = s.from in record { rep = s.rep; from = omega (arith, l, other) })
      ])
      best

  one_more : (n : ℕ) (place a : Option ℕ) → IsBest (IsBegun n (length ds)) ds place → IsBest (HasBegun n) ds a → IsBest (HasBegun (suc n)) ds (outlasting_at ds place a)
  one_more n None a none best = nothing_more n a none best
  one_more n (Some place) a (d, here) best =
      subst (λ (o : Option Declared). IsBest (HasBegun (suc n)) ds (outlasting_from ds o place a)) (sym here.there)
      (best_of ds (HasBegun n) (HasBegun (suc n)) (λ j e s. let l : e.from < n = s.from in record { rep = s.rep; from = omega (arith, l) }) (λ j e s. s.rep)
      (IsBegun n (length ds))
      (λ j e there s. elim (cases_eq e.from n) [
        | inl same ↦ inr (record { rep = s.rep; from = same; before = slice_get_within ds j e there })
        | inr other ↦ inl (let l : e.from < suc n = s.from in record { rep = s.rep; from = omega (arith, l, other) })
      ])
      place d here (let from : d.from ≡ n = here.passes.from in record { rep = here.passes.rep; from = omega (arith, from) }) a best)

  begun_at : (n : ℕ) → n < nodes → IsBest (IsBegun n (length ds)) ds (optional (slice_get begun n))
  begun_at n l =
      let size : length begun ≡ nodes = begun_size (length ds) in
      subst (IsBest (IsBegun n (length ds)) ds) (sym (looked begun n (omega (arith, l, size)))) (begun_best n l (length ds))

  best_is : (n : ℕ) → n ≤ nodes → IsBest (HasBegun n) ds (best_to ds begun n)
  best_is zero l = subst (IsBest (HasBegun 0) ds) (sym best_none) (λ j e there s. let x : e.from < 0 = s.from in absurd (omega (arith, x)))
  best_is (suc n) l =
      subst (IsBest (HasBegun (suc n)) ds) (sym (best_next n))
      (one_more n (optional (slice_get begun n)) (best_to ds begun n) (begun_at n (omega (arith, l))) (best_is n (omega (arith, l))))

  -- ---- what counts, if its scope reaches the node

  reached : (n b : ℕ) (d : Declared) → IsBestAt (HasBegun (suc n)) ds b d → (t : Bool) → nat_le n d.to ≡ t → IsBest (IsOpenRep n) ds (if t then Some b else None)
  reached n b d best true e = (
    d,
    record {
      there = best.there;
      passes = (let l : d.from < suc n = best.passes.from in record { rep = best.passes.rep; from = omega (arith, l); to = leb-true n d.to e });
      best = λ j x there s. (let l : x.from ≤ n = s.from in best.best j x there (record { rep = s.rep; from = omega (arith, l) }));
    },
  )
  reached n b d best false e = λ j x there s.
      let low : x.from ≤ n = s.from in
      let high : n ≤ x.to = s.to in
      let u : IsUnder x j d b = best.best j x there (record { rep = s.rep; from = omega (arith, low) }) in
      let small : rank x ≤ rank d = u.small in
      let mine : rank x ≡ x.to + 1 = rank_is x s.rep in
      let other : rank d ≡ d.to + 1 = rank_is d best.passes.rep in
      let past : d.to < n = leb-false n d.to e in
      absurd (omega (arith, high, small, mine, other, past))

  reaching_is : (n : ℕ) (a : Option ℕ) → IsBest (HasBegun (suc n)) ds a → IsBest (IsOpenRep n) ds (reaching ds a n)
  reaching_is n None none = λ j x there s. let l : x.from ≤ n = s.from in none j x there (record { rep = s.rep; from = omega (arith, l) })
  reaching_is n (Some b) (d, best) =
      subst (λ (o : Option Declared). IsBest (IsOpenRep n) ds (if reaches n o then Some b else None)) (sym best.there) (reached n b d best (nat_le n d.to) refl)

  -- ---- as a name is found

  under_local : (n j b : ℕ) (x d : Declared) → IsBestAt (IsOpenRep n) ds b d → slice_get ds j ≡ Some x → is_open (codes "rep") n x ≡ true → (t : Bool) → is_local x.unit ≡ t → IsUnder x j d b
  under_local n j b x d best there e true local = best.best j x there (opened x n j e local)
  under_local n j b x d best there e false local =
      let none : rank x ≡ 0 = by x.unit local in
      let other : rank d ≡ d.to + 1 = rank_is d best.passes.rep in
      record { small = omega (arith, none, other); first = λ same. absurd (omega (arith, none, other, same)) }
    where
      by : (unit : Option ℕ) → is_local unit ≡ false → rank_of unit x.to ≡ 0
      by None e = refl
      by (Some u) e = absurd (true≢false e)

  found_some : (n b : ℕ) (d : Declared) → IsBestAt (IsOpenRep n) ds b d → Some b ≡ if_in_module ds (found ds (codes "rep") n)
  found_some n b d best =
      let whole : IsBest (λ j x. is_open (codes "rep") n x ≡ true) ds (Some b) = (
        d,
        record {
          there = best.there;
          passes = open_is d n best.passes.rep best.passes.from best.passes.to;
          best = λ j x there e. under_local n j b x d best there e (is_local x.unit) refl;
        },
      ) in
      sym (ap (λ (t : Bool). if t then Some b else None) (ap in_module best.there ∙ local_is d best.passes.rep))
      ∙ ap (if_in_module ds) (is_found ds (codes "rep") n (Some b) whole)

  found_none : (n : ℕ) → IsBest (IsOpenRep n) ds None → (place : Option ℕ) → IsBest (λ j x. is_open (codes "rep") n x ≡ true) ds place → None ≡ if_in_module ds place
  found_none n none None best = refl
  found_none n none (Some p) (d, best) = by (is_local d.unit) refl ∙ sym (ap (λ (o : Option Declared). if in_module o then Some p else None) best.there)
    where
      by : (t : Bool) → is_local d.unit ≡ t → None ≡ (if t then Some p else None)
      by false e = refl
      by true e = absurd (none p d best.there (opened d n p best.passes e))

  as_found : (n : ℕ) (a : Option ℕ) → IsBest (IsOpenRep n) ds a → a ≡ if_in_module ds (found ds (codes "rep") n)
  as_found n None none = found_none n none (found ds (codes "rep") n) (found_is ds (codes "rep") n)
  as_found n (Some b) (d, best) = found_some n b d best

  rep_is : (n : ℕ) → n < nodes → reached_at ds begun n ≡ rep_found ds n
  unfolding rep_found
  rep_is n l = as_found n (reaching ds (best_to ds begun (suc n)) n) (reaching_is n (best_to ds begun (suc n)) (best_is (suc n) (omega (arith, l))))

-- ---- tables

table_same : {A : Type 0} (f g : ℕ → A) (m : ℕ) → ((n : ℕ) → n < m → f n ≡ g n) → table_to f m ≡ table_to g m
unfolding table_to
table_same f g zero same = refl
table_same f g (suc m) same = ap₂ (λ (xs : List _) (x : _). xs ++ x ∷ []) (table_same f g m (λ n l. same n (omega (arith, l)))) (same m (omega arith))

pub reps_found : (ds : List Declared) (nodes : ℕ) → reached_of ds (begun_of ds nodes) nodes ≡ table_to (rep_found ds) nodes
reps_found ds nodes = table_same (reached_at ds (begun_of ds nodes)) (rep_found ds) nodes (rep_is ds nodes)
