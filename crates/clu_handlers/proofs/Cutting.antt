-- Cuts that are made one by one, each at the next bound.
use Rattle.std.proofs.Common.{◌≡◌, ℕ, zero, suc, ◌+◌, ◌*◌, ◌^◌, ◌<◌, ◌≤◌, List, [], ◌∷◌, ◌++◌, length, Bool, true, false, ◌&&◌, nat_lt, nat_le, cond, refl, sym, ◌∙◌, ap, ap₂, inl, inr, ◌⊎◌, ⊎_elim, arith, le-leb, lt-ltb, ltb-true, ltb-false}
use Rattle.std.proofs.lemmas.Bool.{and_parts, and_cases, cases_lt, cases_Bool, lt-leb, le-ltb}
use Rattle.clu_handlers.specs.declared.region.Region.{Region}
use Rattle.clu_handlers.specs.declared.region.Cut.{Cut}
use Rattle.clu_handlers.specs.Regions.{is_round}
use Rattle.clu_handlers.specs.Cuts.{innermost_behind, innermost, named_behind, named_at, no_region, Ascend, StartAt, AreCuts, nearer, next_behind, next_bound}

-- The next bound.

nearer_cases : (next pc bound : ℕ) → ((nearer next pc bound ≡ next) × ((bound ≤ pc) ⊎ (next ≤ bound))) ⊎ ((nearer next pc bound ≡ bound) × (pc < bound) × (bound < next))
nearer_cases next pc bound = by (nat_lt pc bound) (nat_lt bound next) refl refl
  where
    by : (s t : Bool) → nat_lt pc bound ≡ s → nat_lt bound next ≡ t
        → ((cond (s && t) bound next ≡ next) × ((bound ≤ pc) ⊎ (next ≤ bound))) ⊎ ((cond (s && t) bound next ≡ bound) × (pc < bound) × (bound < next))
    by true true es et = inr (refl, ltb-true pc bound es, ltb-true bound next et)
    by true false es et = inl (refl, inr (ltb-false bound next et))
    by false t es et = inl (refl, inl (ltb-false pc bound es))

nearer_most : (next pc bound : ℕ) → nearer next pc bound ≤ next
nearer_most next pc bound = ⊎_elim (λ h. omega (arith, h.0)) (λ h. omega (arith, h.0, h.2)) (nearer_cases next pc bound)

nearer_clear : (next pc bound : ℕ) → (bound ≤ pc) ⊎ (nearer next pc bound ≤ bound)
nearer_clear next pc bound = ⊎_elim
    (λ h. ⊎_elim (λ le. inl le) (λ le. inr (omega (arith, h.0, le))) h.1)
    (λ h. inr (omega (arith, h.0)))
    (nearer_cases next pc bound)

nearer_above : (next pc bound : ℕ) → pc < next → pc < nearer next pc bound
nearer_above next pc bound lt = ⊎_elim (λ h. omega (arith, h.0, lt)) (λ h. omega (arith, h.0, h.1)) (nearer_cases next pc bound)

next_most : (rs : List Region) (before pc : ℕ) → next_behind before rs pc ≤ before
next_most [] before pc = omega arith
next_most (r ∷ rs) before pc =
    let first : ℕ = nearer before pc r.first in
    omega (arith, next_most rs (nearer first pc (suc r.last)) pc, nearer_most first pc (suc r.last), nearer_most before pc r.first)

pub next_above : (rs : List Region) (before pc : ℕ) → pc < before → pc < next_behind before rs pc
next_above [] before pc lt = lt
next_above (r ∷ rs) before pc lt =
    let first : ℕ = nearer before pc r.first in
    next_above rs (nearer first pc (suc r.last)) pc (nearer_above first pc (suc r.last) (nearer_above before pc r.first lt))

-- no bound of the regions is between two places
abbrev Clear : List Region → ℕ → ℕ → Type 0
Clear [] pc next = Unit {0}
Clear (r ∷ rs) pc next = ((r.first ≤ pc) ⊎ (next ≤ r.first)) × ((suc r.last ≤ pc) ⊎ (next ≤ suc r.last)) × Clear rs pc next

lower : (pc bound near next : ℕ) → next ≤ near → (bound ≤ pc) ⊎ (near ≤ bound) → (bound ≤ pc) ⊎ (next ≤ bound)
lower pc bound near next le h = ⊎_elim (λ b. inl b) (λ n. inr (omega (arith, le, n))) h

next_clear : (rs : List Region) (before pc : ℕ) → Clear rs pc (next_behind before rs pc)
next_clear [] before pc = tt
next_clear (r ∷ rs) before pc =
    let first : ℕ = nearer before pc r.first in
    let near : ℕ = nearer first pc (suc r.last) in
    let next : ℕ = next_behind near rs pc in
    let most : next ≤ near = next_most rs near pc in (
      lower pc r.first first next (omega (arith, most, nearer_most first pc (suc r.last))) (nearer_clear before pc r.first),
      lower pc (suc r.last) near next most (nearer_clear first pc (suc r.last)),
      next_clear rs near pc,
    )

-- Between two bounds the innermost region is the same.

round_same : (r : Region) (pc place next : ℕ) → pc ≤ place → place < next → (r.first ≤ pc) ⊎ (next ≤ r.first) → (suc r.last ≤ pc) ⊎ (next ≤ suc r.last) → is_round r pc ≡ is_round r place
round_same r pc place next le lt first last = ap₂ (λ (s t : Bool). s && t) firsts lasts
  where
    firsts : nat_le r.first pc ≡ nat_le r.first place
    firsts = ⊎_elim
        (λ h. le-leb r.first pc h ∙ sym (le-leb r.first place (omega (arith, h, le))))
        (λ h. lt-leb r.first pc (omega (arith, h, le, lt)) ∙ sym (lt-leb r.first place (omega (arith, h, lt))))
        first

    lasts : nat_le pc r.last ≡ nat_le place r.last
    lasts = ⊎_elim
        (λ h. lt-leb pc r.last (omega (arith, h)) ∙ sym (lt-leb place r.last (omega (arith, h, le))))
        (λ h. le-leb pc r.last (omega (arith, h, le, lt)) ∙ sym (le-leb place r.last (omega (arith, h, lt))))
        last

innermost_same : (rs : List Region) (before n pc place next : ℕ) → Clear rs pc next → pc ≤ place → place < next → innermost_behind before n rs pc ≡ innermost_behind before n rs place
innermost_same [] before n pc place next clear le lt = refl
innermost_same (r ∷ rs) before n pc place next clear le lt =
    ap (λ (t : Bool). innermost_behind (cond t n before) (suc n) rs pc) (round_same r pc place next le lt clear.0 clear.1)
    ∙ innermost_same rs (cond (is_round r place) n before) (suc n) pc place next clear.2 le lt

-- How many bounds are after a place.

abbrev over : ℕ → ℕ → ℕ
over pc bound = cond (nat_lt pc bound) 1 0

abbrev above : List Region → ℕ → ℕ
above [] pc = 0
above (r ∷ rs) pc = over pc r.first + over pc (suc r.last) + above rs pc

over_most : (pc bound : ℕ) → over pc bound ≤ 1
over_most pc bound = ⊎_elim
    (λ e. omega (arith, ap {B = ℕ} (λ (t : Bool). cond t 1 0) e))
    (λ e. omega (arith, ap {B = ℕ} (λ (t : Bool). cond t 1 0) e))
    (cases_Bool (nat_lt pc bound))

over_is : (pc bound : ℕ) → pc < bound → over pc bound ≡ 1
over_is pc bound lt = ap {B = ℕ} (λ (t : Bool). cond t 1 0) (lt-ltb pc bound lt)

over_not : (pc bound : ℕ) → bound ≤ pc → over pc bound ≡ 0
over_not pc bound le = ap {B = ℕ} (λ (t : Bool). cond t 1 0) (le-ltb pc bound le)

over_falls : (pc next bound : ℕ) → pc ≤ next → over next bound ≤ over pc bound
over_falls pc next bound le = ⊎_elim
    (λ lt. omega (arith, over_is pc bound lt, over_most next bound))
    (λ ge. omega (arith, over_not next bound (omega (arith, ge, le))))
    (cases_lt pc bound)

above_falls : (rs : List Region) (pc next : ℕ) → pc ≤ next → above rs next ≤ above rs pc
above_falls [] pc next le = omega arith
above_falls (r ∷ rs) pc next le = omega (arith, over_falls pc next r.first le, over_falls pc next (suc r.last) le, above_falls rs pc next le)

above_most : (rs : List Region) (pc : ℕ) → above rs pc ≤ 2 * length rs
above_most [] pc = omega arith
above_most (r ∷ rs) pc = omega (arith, over_most pc r.first, over_most pc (suc r.last), above_most rs pc)

-- the next bound is one fewer, if there is one
bound_falls : (rs : List Region) (before pc : ℕ) → pc < before → (next_behind before rs pc ≡ before) ⊎ (above rs (next_behind before rs pc) < above rs pc)
bound_falls [] before pc lt = inl refl
bound_falls (r ∷ rs) before pc lt =
    let first : ℕ = nearer before pc r.first in
    let near : ℕ = nearer first pc (suc r.last) in
    let next : ℕ = next_behind near rs pc in
    let above_near : pc < near = nearer_above first pc (suc r.last) (nearer_above before pc r.first lt) in
    let behind : pc ≤ next = omega (arith, next_above rs near pc above_near) in
    let first_falls : over next r.first ≤ over pc r.first = over_falls pc next r.first behind in
    let last_falls : over next (suc r.last) ≤ over pc (suc r.last) = over_falls pc next (suc r.last) behind in
    let rest_falls : above rs next ≤ above rs pc = above_falls rs pc next behind in
    ⊎_elim
    (λ e. ⊎_elim
    (λ h. ⊎_elim
    (λ g. inl (e ∙ h.0 ∙ g.0))
    (λ g. inr (omega (arith, over_is pc r.first g.1, over_not next r.first (omega (arith, e, h.0, g.0)), last_falls, rest_falls)))
    (nearer_cases before pc r.first))
    (λ h. inr (omega (arith, over_is pc (suc r.last) h.1, over_not next (suc r.last) (omega (arith, e, h.0)), first_falls, rest_falls)))
    (nearer_cases first pc (suc r.last)))
    (λ h. inr (omega (arith, h, first_falls, last_falls)))
    (bound_falls rs near pc above_near)

-- Cuts with one more.

named_with : (cs : List Cut) (c : Cut) (before pc : ℕ) → named_behind before (cs ++ c ∷ []) pc ≡ cond (nat_le c.from pc) c.region (named_behind before cs pc)
named_with [] c before pc = refl
named_with (x ∷ cs) c before pc = named_with cs c (cond (nat_le x.from pc) x.region before) pc

-- they ascend, and end below a place
abbrev AscendTo : ℕ → List Cut → ℕ → Type 0
AscendTo low [] end = low ≤ end
AscendTo low (c ∷ cs) end = (low ≤ c.from) × AscendTo (suc c.from) cs end

ascend_with : (cs : List Cut) (c : Cut) (low end : ℕ) → AscendTo low cs c.from → c.from < end → AscendTo low (cs ++ c ∷ []) end
ascend_with [] c low end h lt = (h, omega (arith, lt))
ascend_with (x ∷ cs) c low end h lt = (h.0, ascend_with cs c (suc x.from) end h.1 lt)

ascend_all : (cs : List Cut) (low end : ℕ) → AscendTo low cs end → Ascend low cs
ascend_all [] low end h = tt
ascend_all (x ∷ cs) low end h = (h.0, ascend_all cs (suc x.from) end h.1)

-- the first one is at place 0, or will be
abbrev StartSoFar : List Cut → ℕ → Type 0
StartSoFar [] from = from ≡ 0
StartSoFar (c ∷ cs) from = c.from ≡ 0

start_with : (cs : List Cut) (c : Cut) (end : ℕ) → StartSoFar cs c.from → StartSoFar (cs ++ c ∷ []) end
start_with [] c end h = h
start_with (x ∷ cs) c end h = h

count_with : (cs : List Cut) (c : Cut) → length (cs ++ c ∷ []) ≡ suc (length cs)
count_with [] c = refl
count_with (x ∷ cs) c = ap suc (count_with cs c)

-- how many cuts may still come
abbrev pub left : List Region → ℕ → ℕ
left rs from = cond (nat_lt from (2 ^ 32)) (suc (above rs from)) 0

left_most : (rs : List Region) (from : ℕ) → left rs from ≤ suc (above rs from)
left_most rs from = ⊎_elim
    (λ e. omega (arith, ap {B = ℕ} (λ (t : Bool). cond t (suc (above rs from)) 0) e))
    (λ e. omega (arith, ap {B = ℕ} (λ (t : Bool). cond t (suc (above rs from)) 0) e))
    (cases_Bool (nat_lt from (2 ^ 32)))

left_falls : (rs : List Region) (from : ℕ) → from < 2 ^ 32 → left rs (next_bound rs from) < left rs from
left_falls rs from lt =
    let here : left rs from ≡ suc (above rs from) = ap {B = ℕ} (λ (t : Bool). cond t (suc (above rs from)) 0) (lt-ltb from (2 ^ 32) lt) in
    ⊎_elim
    (λ e. let none : left rs (next_bound rs from) ≡ 0 = ap (left rs) e in omega (arith, here, none))
    (λ h. omega (arith, here, h, left_most rs (next_bound rs from)))
    (bound_falls rs (2 ^ 32) from lt)

-- The cuts below a place.

pub record CutSoFar (rs : List Region) (cuts : List Cut) (from : ℕ) : Type 0 where
  pub start : StartSoFar cuts from
  pub ascend : AscendTo 0 cuts from
  pub few : length cuts + left rs from ≤ 2 * length rs + 1
  pub innermost : (pc : ℕ) → pc < from → named_at cuts pc ≡ innermost rs pc

pub cut_start : (rs : List Region) → CutSoFar rs [] 0
cut_start rs = record {
  start = refl;
  ascend = omega arith;
  few = omega (arith, left_most rs 0, above_most rs 0);
  innermost = λ pc lt. absurd (omega (arith, lt));
}

-- up to the next bound the region of the new cut is the innermost
named_after : (rs : List Region) (cuts : List Cut) (c : Cut) → c.region ≡ innermost rs c.from → ((pc : ℕ) → pc < c.from → named_at cuts pc ≡ innermost rs pc)
    → (pc : ℕ) → pc < next_bound rs c.from → named_at (cuts ++ c ∷ []) pc ≡ innermost rs pc
named_after rs cuts c is before pc lt = ⊎_elim
    (λ below. named_with cuts c no_region pc ∙ ap (λ (t : Bool). cond t c.region (named_at cuts pc)) (lt-leb c.from pc below) ∙ before pc below)
    (λ behind. named_with cuts c no_region pc ∙ ap (λ (t : Bool). cond t c.region (named_at cuts pc)) (le-leb c.from pc behind) ∙ is
    ∙ innermost_same rs no_region 0 c.from pc (next_bound rs c.from) (next_clear rs (2 ^ 32) c.from) behind lt)
    (cases_lt pc c.from)

pub cut_next : (rs : List Region) (cuts : List Cut) (c : Cut) → c.region ≡ innermost rs c.from → c.from < 2 ^ 32 → CutSoFar rs cuts c.from → CutSoFar rs (cuts ++ c ∷ []) (next_bound rs c.from)
cut_next rs cuts c is lt so = record {
  start = start_with cuts c (next_bound rs c.from) so.start;
  ascend = ascend_with cuts c 0 (next_bound rs c.from) so.ascend (next_above rs (2 ^ 32) c.from lt);
  few = omega (arith, so.few, count_with cuts c, left_falls rs c.from lt);
  innermost = named_after rs cuts c is so.innermost;
}

start_of : (cuts : List Cut) (from : ℕ) → StartSoFar cuts from → 2 ^ 32 ≤ from → StartAt 0 cuts
start_of [] from h le = absurd (omega (arith, h, le))
start_of (c ∷ cuts) from h le = h

pub cuts_whole : (rs : List Region) (cuts : List Cut) (from : ℕ) → CutSoFar rs cuts from → 2 ^ 32 ≤ from → AreCuts rs cuts
cuts_whole rs cuts from so le = record {
  start = start_of cuts from so.start le;
  ascend = ascend_all cuts 0 from so.ascend;
  few = omega (arith, so.few);
  innermost = λ pc lt. so.innermost pc (omega (arith, lt, le));
}
