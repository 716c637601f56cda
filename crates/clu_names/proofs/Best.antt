-- The fold over all declarations finds the one that counts, which is one alone.
use Rattle.std.proofs.Common.{◌≡◌, ◌∙◌, ℕ, suc, ◌+◌, ◌<◌, ◌≤◌, List, [], ◌∷◌, length, Option, Some, None, refl, ap, sym, subst, inl, inr, arith}
use Rattle.std.specs.Prelude.{◌&&◌, if◌then◌else◌, Bool, true, false, slice_get}
use Rattle.std.proofs.lemmas.Option.{same_Some, slice_get_within}
use Rattle.std.proofs.lemmas.Bool.{cases_lt, cases_Bool, and_parts, and_from, ltb-true, ltb-false, true≢false}
use Rattle.clu_names.specs.declared.scopes.Declared.{Declared}
use Rattle.clu_names.specs.Denotes.{rank, outranks, best_from, place_of, is_open, found}
use Rattle.clu_names.specs.Latest.{IsUnder, IsBest}

-- the best of the first k declarations
record Leads (test : Declared → Bool) (ds : List Declared) (k p r : ℕ) (d : Declared) : Type 0 where
  pub there : slice_get ds p ≡ Some d
  pub passes : test d ≡ true
  pub ranked : r ≡ rank d
  pub before : p < k
  pub best : (j : ℕ) (e : Declared) → slice_get ds j ≡ Some e → j < k → test e ≡ true → IsUnder e j d p

abbrev SoFar : (Declared → Bool) → List Declared → ℕ → Option (ℕ × ℕ) → Type 0
SoFar test ds k None = (j : ℕ) (e : Declared) → slice_get ds j ≡ Some e → j < k → test e ≡ true → ⊥
SoFar test ds k (Some best) = (d : Declared) × Leads test ds k best.0 best.1 d

itself : (d : Declared) (k : ℕ) → IsUnder d k d k
itself d k = record { small = omega arith; first = λ e. omega arith }

same_at : (ds : List Declared) (j k : ℕ) (e d : Declared) → j ≡ k → slice_get ds j ≡ Some e → slice_get ds k ≡ Some d → d ≡ e
same_at ds j k e d same there at = same_Some d e (sym at ∙ ap (slice_get ds) (sym same) ∙ there)

under_itself : (ds : List Declared) (j k : ℕ) (e d : Declared) → j ≡ k → slice_get ds j ≡ Some e → slice_get ds k ≡ Some d → IsUnder e j d k
under_itself ds j k e d same there at =
    subst (λ (x : ℕ). IsUnder e x d k) (sym same) (subst (λ (x : Declared). IsUnder x k d k) (same_at ds j k e d same there at) (itself d k))

taken : (test : Declared → Bool) (ds : List Declared) (k : ℕ) (d : Declared) (best : Option (ℕ × ℕ)) → slice_get ds k ≡ Some d → test d ≡ true → outranks (rank d) best ≡ true → SoFar test ds k best → SoFar test ds (suc k) (Some (k, rank d))
taken test ds k d None at pass high so_far = (
  d,
  record {
    there = at;
    passes = pass;
    ranked = refl;
    before = omega arith;
    best = λ j e there l hit. elim (cases_lt j k) [ inl less ↦ absurd (so_far j e there less hit) | inr more ↦ under_itself ds j k e d (omega arith) there at ];
  },
)
taken test ds k d (Some (p, r)) at pass high (o, leads) = (
  d,
  record {
    there = at;
    passes = pass;
    ranked = refl;
    before = omega arith;
    best = λ j e there l hit. elim (cases_lt j k) [
      | inl less ↦ let u : IsUnder e j o p = leads.best j e there less hit in
          let over : r < rank d = ltb-true r (rank d) high in
          let same : r ≡ rank o = leads.ranked in
          let least : rank e ≤ rank o = u.small in
          record { small = omega (arith, over, same, least); first = λ x. absurd (omega (arith, over, same, least, x)) }
      | inr more ↦ under_itself ds j k e d (omega arith) there at
    ];
  },
)

left : (test : Declared → Bool) (ds : List Declared) (k : ℕ) (d : Declared) (best : Option (ℕ × ℕ)) → slice_get ds k ≡ Some d → (test d && outranks (rank d) best) ≡ false → SoFar test ds k best → SoFar test ds (suc k) best
left test ds k d None at low so_far = λ j e there l hit. elim (cases_lt j k) [
  | inl less ↦ so_far j e there less hit
  | inr more ↦ true≢false (sym (and_from (test d) true (subst (λ (x : Declared). test x ≡ true) (sym (same_at ds j k e d (omega arith) there at)) hit) refl) ∙ low)
]
left test ds k d (Some (p, r)) at low (o, leads) = (
  o,
  record {
    there = leads.there;
    passes = leads.passes;
    ranked = leads.ranked;
    before = omega (arith, leads.before);
    best = λ j e there l hit. elim (cases_lt j k) [
      | inl less ↦ leads.best j e there less hit
      | inr more ↦ last j e there (omega arith) hit
    ];
  },
)
  where
    last : (j : ℕ) (e : Declared) → slice_get ds j ≡ Some e → j ≡ k → test e ≡ true → IsUnder e j o p
    last j e there same hit =
        let is : d ≡ e = same_at ds j k e d same there at in
        let pass : test d ≡ true = subst (λ (x : Declared). test x ≡ true) (sym is) hit in
        let under : rank d ≤ r = elim (cases_Bool (outranks (rank d) (Some (p, r)))) [
          | inl high ↦ absurd (true≢false (sym (and_from (test d) (outranks (rank d) (Some (p, r))) pass high) ∙ low))
          | inr not_high ↦ ltb-false r (rank d) not_high
        ] in
        let ranked : r ≡ rank o = leads.ranked in
        let before : p < k = leads.before in
        let same_rank : rank d ≡ rank e = ap rank is in
        record { small = omega (arith, under, ranked, same_rank); first = λ x. omega (arith, before, same) }

step : (test : Declared → Bool) (ds : List Declared) (k : ℕ) (d : Declared) (best : Option (ℕ × ℕ)) → slice_get ds k ≡ Some d → SoFar test ds k best → SoFar test ds (suc k) (if test d && outranks (rank d) best then Some (k, rank d) else best)
step test ds k d best at so_far = by (test d && outranks (rank d) best) refl
  where
    by : (b : Bool) → (test d && outranks (rank d) best) ≡ b → SoFar test ds (suc k) (if b then Some (k, rank d) else best)
    by true e = let parts = and_parts (test d) (outranks (rank d) best) e in taken test ds k d best at parts.0 parts.1 so_far
    by false e = left test ds k d best at e so_far

all_seen : (test : Declared → Bool) (ds : List Declared) (k : ℕ) (rest : List Declared) (best : Option (ℕ × ℕ)) → ((i : ℕ) → slice_get ds (k + i) ≡ slice_get rest i) → SoFar test ds k best → SoFar test ds (k + length rest) (best_from test best k rest)
all_seen test ds k [] best is so_far = subst (λ (x : ℕ). SoFar test ds x best) (omega arith) so_far
all_seen test ds k (d ∷ rest) best is so_far =
    let at : slice_get ds k ≡ Some d = ap (slice_get ds) (omega arith) ∙ is 0 in
    let further : (i : ℕ) → slice_get ds (suc k + i) ≡ slice_get rest i = λ i. ap (slice_get ds) (omega arith) ∙ is (suc i) in
    subst (λ (x : ℕ). SoFar test ds x (best_from test (if test d && outranks (rank d) best then Some (k, rank d) else best) (suc k) rest)) (omega arith)
    (all_seen test ds (suc k) rest (if test d && outranks (rank d) best then Some (k, rank d) else best) further (step test ds k d best at so_far))

as_best : (test : Declared → Bool) (ds : List Declared) (best : Option (ℕ × ℕ)) → SoFar test ds (length ds) best → IsBest (λ j d. test d ≡ true) ds (place_of best)
as_best test ds None so_far = λ j e there hit. so_far j e there (slice_get_within ds j e there) hit
as_best test ds (Some (p, r)) (d, leads) = (
  d,
  record {
    there = leads.there;
    passes = leads.passes;
    best = λ j e there hit. leads.best j e there (slice_get_within ds j e there) hit;
  },
)

pub found_is : (ds : List Declared) (name : List ℕ) (n : ℕ) → IsBest (λ j d. is_open name n d ≡ true) ds (found ds name n)
found_is ds name n =
    as_best (is_open name n) ds (best_from (is_open name n) None 0 ds)
    (subst (λ (x : ℕ). SoFar (is_open name n) ds x (best_from (is_open name n) None 0 ds)) (omega arith)
    (all_seen (is_open name n) ds 0 ds None (λ i. ap (slice_get ds) (omega arith)) (λ j e there l hit. absurd (omega arith))))

one_alone : (test : ℕ → Declared → Type 0) (ds : List Declared) (a b : Option ℕ) → IsBest test ds a → IsBest test ds b → a ≡ b
one_alone test ds None None x y = refl
one_alone test ds None (Some b) x (d, y) = absurd (x b d y.there y.passes)
one_alone test ds (Some a) None (d, x) y = absurd (y a d x.there x.passes)
one_alone test ds (Some a) (Some b) (d, x) (e, y) =
    let u : IsUnder e b d a = x.best b e y.there y.passes in
    let v : IsUnder d a e b = y.best a d x.there x.passes in
    let up : rank e ≤ rank d = u.small in
    let down : rank d ≤ rank e = v.small in
    let before : a ≤ b = u.first (omega (arith, up, down)) in
    let after : b ≤ a = v.first (omega (arith, up, down)) in
    let same : a ≡ b = omega (arith, before, after) in
    ap Some same

pub is_found : (ds : List Declared) (name : List ℕ) (n : ℕ) (a : Option ℕ) → IsBest (λ j d. is_open name n d ≡ true) ds a → a ≡ found ds name n
is_found ds name n a best = one_alone (λ j d. is_open name n d ≡ true) ds a (found ds name n) best (found_is ds name n)

-- one test in place of another that the same declarations pass
pub same_best : (P Q : ℕ → Declared → Type 0) (ds : List Declared) (a : Option ℕ) → ((j : ℕ) (e : Declared) → slice_get ds j ≡ Some e → P j e → Q j e) → ((j : ℕ) (e : Declared) → slice_get ds j ≡ Some e → Q j e → P j e) → IsBest P ds a → IsBest Q ds a
same_best P Q ds None to back best = λ j e there hit. best j e there (back j e there hit)
same_best P Q ds (Some b) to back (d, best) = (
  d,
  record {
    there = best.there;
    passes = to b d best.there best.passes;
    best = λ j e there hit. best.best j e there (back j e there hit);
  },
)
