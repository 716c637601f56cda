-- The declaration that counts of each name, as scopes begin one after the other.
use Rattle.std.proofs.Common.{◌≡◌, ◌∙◌, ℕ, suc, ◌+◌, ◌<◌, ◌≤◌, List, length, get_or, Option, Some, None, refl, ap, sym, subst, inl, inr, arith}
use Rattle.std.specs.Prelude.{◌&&◌, ◌||◌, ◌==◌, nat_lt, nat_le, not, if◌then◌else◌, Bool, true, false, slice_get}
use Rattle.std.specs.Str.{bytes_eq}
use Rattle.std.proofs.lemmas.Option.{same_Some, slice_get_within, slice_get_cases}
use Rattle.std.proofs.lemmas.Bool.{cases_lt, cases_eq, and_parts, and_from, and_cases, or_cases, or_parts, ltb-true, ltb-false, leb-true, leb-false, le-leb, eqb-true, eqb-false, true≢false}
use Rattle.clu_base.proofs.Lists.{same_bytes, as_bytes}
use Rattle.clu_names.specs.declared.scopes.Declared.{Declared}
use Rattle.clu_names.specs.Denotes.{rank, rank_of, is_open, stands_in, found}
use Rattle.clu_names.specs.Latest.{IsUnder, IsBestAt, IsBest, is_local, is_none, IsModuleSoFar, IsLocalSoFar, AreModules, AreLocals, outlasts, at, with_local, local_at, with_module, denoted}
use Rattle.clu_names.specs.Order.{IsNext, AreChains}
use Rattle.clu_names.proofs.Best.{same_best, is_found}

local_rank : (unit : Option ℕ) (to : ℕ) → is_local unit ≡ true → rank_of unit to ≡ to + 1
local_rank (Some u) to e = refl
local_rank None to e = absurd (true≢false (sym e))

module_rank : (unit : Option ℕ) (to : ℕ) → is_local unit ≡ false → rank_of unit to ≡ 0
module_rank (Some u) to e = absurd (true≢false e)
module_rank None to e = refl

is_same : (ds : List Declared) (j k : ℕ) (e d : Declared) → j ≡ k → slice_get ds j ≡ Some e → slice_get ds k ≡ Some d → d ≡ e
is_same ds j k e d same there here = same_Some d e (sym here ∙ ap (slice_get ds) (sym same) ∙ there)

under_itself : (ds : List Declared) (j k : ℕ) (e d : Declared) → j ≡ k → slice_get ds j ≡ Some e → slice_get ds k ≡ Some d → IsUnder e j d k
under_itself ds j k e d same there here = let r : rank d ≡ rank e = ap rank (is_same ds j k e d same there here) in record { small = omega arith; first = λ x. omega (arith, same) }

-- ---- declarations of a text

-- one that is none of the name, or of no text, changes nothing
others : (ds : List Declared) (n i : ℕ) (d : Declared) (name : List ℕ) (o : Option ℕ) → slice_get ds i ≡ Some d → (d.name ≡ name → is_local d.unit ≡ true → ⊥) → IsBest (IsLocalSoFar name n i) ds o → IsBest (IsLocalSoFar name n (suc i)) ds o
others ds n i d name o here out best = same_best (IsLocalSoFar name n i) (IsLocalSoFar name n (suc i)) ds o
    (λ j e there s. let b : e.from ≡ n → j < i = s.before in record { named = s.named; of_unit = s.of_unit; begun = s.begun; before = λ f. let x : j < i = b f in omega arith })
    (λ j e there s. record {
      named = s.named;
      of_unit = s.of_unit;
      begun = s.begun;
      before = λ f. elim (cases_eq j i) [
        | inl same ↦ let is : d ≡ e = is_same ds j i e d same there here in absurd (out (ap (λ (x : Declared). x.name) is ∙ s.named) (ap (λ (x : Declared). is_local x.unit) is ∙ s.of_unit))
        | inr other ↦ let x : j < suc i = s.before f in omega arith
      ];
    })
    best

-- what comes last counts, where what counted stands under it
comes : (ds : List Declared) (n i : ℕ) (d : Declared) (name : List ℕ) → slice_get ds i ≡ Some d → d.from ≡ n → d.name ≡ name → is_local d.unit ≡ true →
    ((j : ℕ) (e : Declared) → slice_get ds j ≡ Some e → IsLocalSoFar name n i j e → IsUnder e j d i) → IsBest (IsLocalSoFar name n (suc i)) ds (Some i)
comes ds n i d name here from named unit over = (
  d,
  record {
    there = here;
    passes = record { named = named; of_unit = unit; begun = omega arith; before = λ f. omega arith };
    best = λ j e there s. elim (cases_eq j i) [
      | inl same ↦ under_itself ds j i e d same there here
      | inr other ↦ over j e there (record { named = s.named; of_unit = s.of_unit; begun = s.begun; before = λ f. let x : j < suc i = s.before f in omega arith })
    ];
  },
)

-- what counted goes on to count, where what comes stands under it
stays : (ds : List Declared) (n i b : ℕ) (d o : Declared) (name : List ℕ) → slice_get ds i ≡ Some d → IsUnder d i o b → IsBestAt (IsLocalSoFar name n i) ds b o → IsBest (IsLocalSoFar name n (suc i)) ds (Some b)
stays ds n i b d o name here under best = (
  o,
  record {
    there = best.there;
    passes = record { named = best.passes.named; of_unit = best.passes.of_unit; begun = best.passes.begun; before = λ f. let x : b < i = best.passes.before f in omega arith };
    best = λ j e there s. elim (cases_eq j i) [
      | inl same ↦ subst (λ (x : ℕ). IsUnder e x o b) (sym same) (subst (λ (x : Declared). IsUnder x i o b) (is_same ds j i e d same there here) under)
      | inr other ↦ best.best j e there (record { named = s.named; of_unit = s.of_unit; begun = s.begun; before = λ f. let x : j < suc i = s.before f in omega arith })
    ];
  },
)

longer : (ds : List Declared) (n i b : ℕ) (d o : Declared) (name : List ℕ) → is_local d.unit ≡ true → (nat_lt o.to d.to || (o.to == d.to && nat_lt i b)) ≡ true → IsBestAt (IsLocalSoFar name n i) ds b o →
    (j : ℕ) (e : Declared) → slice_get ds j ≡ Some e → IsLocalSoFar name n i j e → IsUnder e j d i
longer ds n i b d o name unit test best j e there s =
    let u : IsUnder e j o b = best.best j e there s in
    let mine : rank d ≡ d.to + 1 = local_rank d.unit d.to unit in
    let other : rank o ≡ o.to + 1 = local_rank o.unit o.to best.passes.of_unit in
    let small : rank e ≤ rank o = u.small in
    elim (or_cases (nat_lt o.to d.to) (o.to == d.to && nat_lt i b) test) [
      | inl less ↦ let l : o.to < d.to = ltb-true o.to d.to less in record { small = omega (arith, mine, other, small, l); first = λ x. absurd (omega (arith, mine, other, small, l, x)) }
      | inr both ↦ let parts = and_parts (o.to == d.to) (nat_lt i b) both in
          let same : o.to ≡ d.to = eqb-true o.to d.to parts.0 in
          let l : i < b = ltb-true i b parts.1 in
          record { small = omega (arith, mine, other, small, same); first = λ x. let y : b ≤ j = u.first (omega (arith, mine, other, same, x)) in omega arith }
    ]

shorter : (ds : List Declared) (n i b : ℕ) (d o : Declared) (name : List ℕ) → is_local d.unit ≡ true → (nat_lt o.to d.to || (o.to == d.to && nat_lt i b)) ≡ false → IsBestAt (IsLocalSoFar name n i) ds b o → IsUnder d i o b
shorter ds n i b d o name unit test best =
    let mine : rank d ≡ d.to + 1 = local_rank d.unit d.to unit in
    let other : rank o ≡ o.to + 1 = local_rank o.unit o.to best.passes.of_unit in
    let parts = or_parts (nat_lt o.to d.to) (o.to == d.to && nat_lt i b) test in
    let l : d.to ≤ o.to = ltb-false o.to d.to parts.0 in
    record {
      small = omega (arith, mine, other, l);
      first = λ x. elim (and_cases (o.to == d.to) (nat_lt i b) parts.1) [
        | inl differ ↦ absurd (eqb-false o.to d.to differ (omega (arith, mine, other, x)))
        | inr late ↦ ltb-false i b late
      ];
    }

at_best : (test : ℕ → Declared → Type 0) (ds : List Declared) (b : ℕ) (o : Declared) → IsBestAt test ds b o → at ds (Some b) ≡ Some o
at_best test ds b o best = best.there

mine : (ds : List Declared) (n i : ℕ) (d : Declared) (o : Option ℕ) → slice_get ds i ≡ Some d → d.from ≡ n → is_local d.unit ≡ true → IsBest (IsLocalSoFar d.name n i) ds o →
    IsBest (IsLocalSoFar d.name n (suc i)) ds (if outlasts d i (at ds o) o then Some i else o)
mine ds n i d None here from unit best = comes ds n i d d.name here from refl unit (λ j e there s. absurd (best j e there s))
mine ds n i d (Some b) here from unit (o, best) = rw best.there (by (nat_lt o.to d.to || (o.to == d.to && nat_lt i b)) refl)
  where
    by : (t : Bool) → (nat_lt o.to d.to || (o.to == d.to && nat_lt i b)) ≡ t → IsBest (IsLocalSoFar d.name n (suc i)) ds (if t then Some i else Some b)
    by true e = comes ds n i d d.name here from refl unit (longer ds n i b d o d.name unit e best)
    by false e = stays ds n i b d o d.name here (shorter ds n i b d o d.name unit e best) best

pub entered : (ds : List Declared) (n i : ℕ) (d : Declared) (before after : List ℕ → Option ℕ) → slice_get ds i ≡ Some d → d.from ≡ n → ((name : List ℕ) → after name ≡ with_local ds d i before name) → AreLocals ds n i before → AreLocals ds n (suc i) after
entered ds n i d before after here from is are = record { each = λ name. rw (is name) (one name (bytes_eq d.name name) refl) }
  where
    of_text : (name : List ℕ) (u : Bool) → is_local d.unit ≡ u → d.name ≡ name → IsBest (IsLocalSoFar name n (suc i)) ds (if u && outlasts d i (at ds (before d.name)) (before d.name) then Some i else before name)
    of_text name true e same = subst (λ (x : List ℕ). IsBest (IsLocalSoFar x n (suc i)) ds (if outlasts d i (at ds (before d.name)) (before d.name) then Some i else before x)) same (mine ds n i d (before d.name) here from e (are.each d.name))
    of_text name false e same = others ds n i d name (before name) here (λ x u. true≢false (sym u ∙ e)) (are.each name)

    one : (name : List ℕ) (t : Bool) → bytes_eq d.name name ≡ t → IsBest (IsLocalSoFar name n (suc i)) ds (if t && (is_local d.unit && outlasts d i (at ds (before d.name)) (before d.name)) then Some i else before name)
    one name true e = of_text name (is_local d.unit) refl (same_bytes d.name name e)
    one name false e = others ds n i d name (before name) here (λ x u. true≢false (sym (as_bytes d.name name x) ∙ e)) (are.each name)

pub moved : (ds : List Declared) (n i k : ℕ) (latest : List ℕ → Option ℕ) → IsNext ds n i k → AreLocals ds n i latest → AreLocals ds n k latest
moved ds n i k latest next are = record {
  each = λ name. same_best (IsLocalSoFar name n i) (IsLocalSoFar name n k) ds (latest name)
      (λ j e there s. record { named = s.named; of_unit = s.of_unit; begun = s.begun; before = λ f. let x : j < i = s.before f in omega (arith, next.onward) })
      (λ j e there s. record { named = s.named; of_unit = s.of_unit; begun = s.begun; before = λ f. elim (cases_lt j i) [ inl less ↦ less | inr more ↦ absurd (next.none j e there more (s.before f) f) ] })
      (are.each name);
}

pub passed : (ds : List Declared) (n i : ℕ) (latest : List ℕ → Option ℕ) → length ds ≤ i → AreLocals ds n i latest → AreLocals ds (suc n) 0 latest
passed ds n i latest l are = record {
  each = λ name. same_best (IsLocalSoFar name n i) (IsLocalSoFar name (suc n) 0) ds (latest name)
      (λ j e there s. let b : e.from ≤ n = s.begun in record { named = s.named; of_unit = s.of_unit; begun = omega arith; before = λ f. absurd (omega arith) })
      (λ j e there s. let b : e.from ≤ suc n = s.begun in
      let inside : j < length ds = slice_get_within ds j e there in
      record { named = s.named; of_unit = s.of_unit; begun = elim (cases_eq e.from (suc n)) [ inl same ↦ let x : j < 0 = s.before same in absurd (omega arith) | inr other ↦ omega arith ]; before = λ f. omega arith })
      (are.each name);
}

pub none_begun : (ds : List Declared) (latest : List ℕ → Option ℕ) → ((name : List ℕ) → latest name ≡ None) → AreLocals ds 0 0 latest
none_begun ds latest none = record { each = λ name. rw (none name) (λ j e there s. let b : e.from ≤ 0 = s.begun in let x : j < 0 = s.before (omega arith) in absurd (omega arith)) }

-- ---- modules

pub no_modules : (ds : List Declared) (first : List ℕ → Option ℕ) → ((name : List ℕ) → first name ≡ None) → AreModules ds 0 first
no_modules ds first none = record { each = λ name. rw (none name) (λ j e there s. let x : j < 0 = s.before in absurd (omega arith)) }

other_modules : (ds : List Declared) (k : ℕ) (d : Declared) (name : List ℕ) (o : Option ℕ) → slice_get ds k ≡ Some d → (d.name ≡ name → is_local d.unit ≡ false → ⊥) → IsBest (IsModuleSoFar name k) ds o → IsBest (IsModuleSoFar name (suc k)) ds o
other_modules ds k d name o here out best = same_best (IsModuleSoFar name k) (IsModuleSoFar name (suc k)) ds o
    (λ j e there s. let x : j < k = s.before in record { named = s.named; of_none = s.of_none; before = omega arith })
    (λ j e there s. let x : j < suc k = s.before in record {
      named = s.named;
      of_none = s.of_none;
      before = elim (cases_eq j k) [
        | inl same ↦ let is : d ≡ e = is_same ds j k e d same there here in absurd (out (ap (λ (y : Declared). y.name) is ∙ s.named) (ap (λ (y : Declared). is_local y.unit) is ∙ s.of_none))
        | inr other ↦ omega arith
      ];
    })
    best

new_module : (ds : List Declared) (k : ℕ) (d : Declared) (o : Option ℕ) → slice_get ds k ≡ Some d → is_local d.unit ≡ false → IsBest (IsModuleSoFar d.name k) ds o →
    IsBest (IsModuleSoFar d.name (suc k)) ds (if is_none o then Some k else o)
new_module ds k d None here unit best = (
  d,
  record {
    there = here;
    passes = record { named = refl; of_none = unit; before = omega arith };
    best = λ j e there s. elim (cases_eq j k) [
      | inl same ↦ under_itself ds j k e d same there here
      | inr other ↦ let x : j < suc k = s.before in absurd (best j e there (record { named = s.named; of_none = s.of_none; before = omega arith }))
    ];
  },
)
new_module ds k d (Some b) here unit (o, best) = (
  o,
  record {
    there = best.there;
    passes = let x : b < k = best.passes.before in record { named = best.passes.named; of_none = best.passes.of_none; before = omega arith };
    best = λ j e there s. let x : j < suc k = s.before in
        let low : rank e ≡ 0 = module_rank e.unit e.to s.of_none in
        let least : rank o ≡ 0 = module_rank o.unit o.to best.passes.of_none in
        let y : b < k = best.passes.before in
        elim (cases_eq j k) [
          | inl same ↦ record { small = omega (arith, low, least); first = λ z. omega (arith, y, same) }
          | inr other ↦ best.best j e there (record { named = s.named; of_none = s.of_none; before = omega arith })
        ];
  },
)

pub added : (ds : List Declared) (k : ℕ) (d : Declared) (before after : List ℕ → Option ℕ) → slice_get ds k ≡ Some d → ((name : List ℕ) → after name ≡ with_module d k before name) → AreModules ds k before → AreModules ds (suc k) after
added ds k d before after here is are = record { each = λ name. rw (is name) (one name (bytes_eq d.name name) refl) }
  where
    of_none : (name : List ℕ) (u : Bool) → is_local d.unit ≡ u → d.name ≡ name → IsBest (IsModuleSoFar name (suc k)) ds (if not u && is_none (before d.name) then Some k else before name)
    of_none name true e same = other_modules ds k d name (before name) here (λ x u. true≢false (sym e ∙ u)) (are.each name)
    of_none name false e same = subst (λ (x : List ℕ). IsBest (IsModuleSoFar x (suc k)) ds (if is_none (before d.name) then Some k else before x)) same (new_module ds k d (before d.name) here e (are.each d.name))

    one : (name : List ℕ) (t : Bool) → bytes_eq d.name name ≡ t → IsBest (IsModuleSoFar name (suc k)) ds (if t && (not (is_local d.unit) && is_none (before d.name)) then Some k else before name)
    one name true e = of_none name (is_local d.unit) refl (same_bytes d.name name e)
    one name false e = other_modules ds k d name (before name) here (λ x u. true≢false (sym (as_bytes d.name name x) ∙ e)) (are.each name)

-- ---- both together

in_module : (unit : Option ℕ) (from to n : ℕ) → is_local unit ≡ false → stands_in unit from to n ≡ true
in_module None from to n e = refl
in_module (Some u) from to n e = absurd (true≢false e)

in_text : (unit : Option ℕ) (from to n : ℕ) → is_local unit ≡ true → stands_in unit from to n ≡ true → (from ≤ n) × (n ≤ to)
in_text None from to n e h = absurd (true≢false (sym e))
in_text (Some u) from to n e h = let parts = and_parts (nat_le from n) (nat_le n to) h in (leb-true from n parts.0, leb-true n to parts.1)

from_text : (unit : Option ℕ) (from to n : ℕ) → is_local unit ≡ true → from ≤ n → n ≤ to → stands_in unit from to n ≡ true
from_text None from to n e low high = refl
from_text (Some u) from to n e low high = and_from (nat_le from n) (nat_le n to) (le-leb from n low) (le-leb n to high)

-- of what is open: a declaration of the text has begun, one of none is a module
record Opened (ds : List Declared) (name : List ℕ) (n k j : ℕ) (e : Declared) : Type 0 where
  pub named : e.name ≡ name
  pub of_unit : is_local e.unit ≡ true → IsLocalSoFar name n k j e × (n ≤ e.to)
  pub of_none : is_local e.unit ≡ false → IsModuleSoFar name k j e

opened : (ds : List Declared) (name : List ℕ) (n k j : ℕ) (e : Declared) → length ds ≤ k → slice_get ds j ≡ Some e → is_open name n e ≡ true → Opened ds name n k j e
opened ds name n k j e l there open_here =
    let parts = and_parts (bytes_eq e.name name) (stands_in e.unit e.from e.to n) open_here in
    let inside : j < length ds = slice_get_within ds j e there in
    record {
      named = same_bytes e.name name parts.0;
      of_unit = λ u. let ends = in_text e.unit e.from e.to n u parts.1 in (record { named = same_bytes e.name name parts.0; of_unit = u; begun = ends.0; before = λ f. omega arith }, ends.1);
      of_none = λ u. record { named = same_bytes e.name name parts.0; of_none = u; before = omega arith };
    }

-- the declaration of the text that counts reaches the node
local_counts : (ds : List Declared) (name : List ℕ) (n k b : ℕ) (d : Declared) → length ds ≤ k → n ≤ d.to → IsBestAt (IsLocalSoFar name n k) ds b d → IsBest (λ j e. is_open name n e ≡ true) ds (Some b)
local_counts ds name n k b d l reach best = (
  d,
  record {
    there = best.there;
    passes = and_from (bytes_eq d.name name) (stands_in d.unit d.from d.to n) (as_bytes d.name name best.passes.named) (from_text d.unit d.from d.to n best.passes.of_unit best.passes.begun reach);
    best = λ j e there hit. under j e there (opened ds name n k j e l there hit) (is_local e.unit) refl;
  },
)
  where
    under : (j : ℕ) (e : Declared) → slice_get ds j ≡ Some e → Opened ds name n k j e → (u : Bool) → is_local e.unit ≡ u → IsUnder e j d b
    under j e there o true u = best.best j e there (o.of_unit u).0
    under j e there o false u =
        let low : rank e ≡ 0 = module_rank e.unit e.to u in
        let high : rank d ≡ d.to + 1 = local_rank d.unit d.to best.passes.of_unit in
        record { small = omega (arith, low, high); first = λ x. absurd (omega (arith, low, high, x)) }

-- no declaration of the text is open, so the module counts
module_counts : (ds : List Declared) (name : List ℕ) (n k : ℕ) (m : Option ℕ) → length ds ≤ k → ((j : ℕ) (e : Declared) → slice_get ds j ≡ Some e → IsLocalSoFar name n k j e → n ≤ e.to → ⊥) → IsBest (IsModuleSoFar name k) ds m → IsBest (λ j e. is_open name n e ≡ true) ds m
module_counts ds name n k None l none best = λ j e there hit. by j e there (opened ds name n k j e l there hit) (is_local e.unit) refl
  where
    by : (j : ℕ) (e : Declared) → slice_get ds j ≡ Some e → Opened ds name n k j e → (u : Bool) → is_local e.unit ≡ u → ⊥
    by j e there o true u = let both = o.of_unit u in none j e there both.0 both.1
    by j e there o false u = best j e there (o.of_none u)
module_counts ds name n k (Some b) l none (d, best) = (
  d,
  record {
    there = best.there;
    passes = and_from (bytes_eq d.name name) (stands_in d.unit d.from d.to n) (as_bytes d.name name best.passes.named) (in_module d.unit d.from d.to n best.passes.of_none);
    best = λ j e there hit. by j e there (opened ds name n k j e l there hit) (is_local e.unit) refl;
  },
)
  where
    by : (j : ℕ) (e : Declared) → slice_get ds j ≡ Some e → Opened ds name n k j e → (u : Bool) → is_local e.unit ≡ u → IsUnder e j d b
    by j e there o true u = let both = o.of_unit u in absurd (none j e there both.0 both.1)
    by j e there o false u = best.best j e there (o.of_none u)

chosen : (ds : List Declared) (name : List ℕ) (n k : ℕ) (o m : Option ℕ) → length ds ≤ k → IsBest (IsLocalSoFar name n k) ds o → IsBest (IsModuleSoFar name k) ds m → IsBest (λ j e. is_open name n e ≡ true) ds (denoted ds n o m)
chosen ds name n k None m l none best = module_counts ds name n k m l (λ j e there s reach. none j e there s) best
chosen ds name n k (Some b) m l (d, local) best = rw local.there (by (nat_le n d.to) refl)
  where
    by : (t : Bool) → nat_le n d.to ≡ t → IsBest (λ j e. is_open name n e ≡ true) ds (if t then Some b else m)
    by true e = local_counts ds name n k b d l (leb-true n d.to e) local
    by false e = module_counts ds name n k m l (λ j o there s reach.
        let past : d.to < n = leb-false n d.to e in
        let u : IsUnder o j d b = local.best j o there s in
        let high : rank d ≡ d.to + 1 = local_rank d.unit d.to local.passes.of_unit in
        let low : rank o ≡ o.to + 1 = local_rank o.unit o.to s.of_unit in
        let small : rank o ≤ rank d = u.small in
        omega (arith, past, high, low, small, reach)) best

pub denotes : (ds : List Declared) (n k i : ℕ) (name : List ℕ) (latest first : List ℕ → Option ℕ) → k ≡ length ds → length ds ≤ i → AreLocals ds n i latest → AreModules ds k first → denoted ds n (latest name) (first name) ≡ found ds name n
denotes ds n k i name latest first size l locals modules =
    is_found ds name n (denoted ds n (latest name) (first name))
    (chosen ds name n k (latest name) (first name) (omega arith)
    (same_best (IsLocalSoFar name n i) (IsLocalSoFar name n k) ds (latest name)
    (λ j e there s. let inside : j < length ds = slice_get_within ds j e there in record { named = s.named; of_unit = s.of_unit; begun = s.begun; before = λ f. omega arith })
    (λ j e there s. let inside : j < length ds = slice_get_within ds j e there in record { named = s.named; of_unit = s.of_unit; begun = s.begun; before = λ f. omega arith })
    (locals.each name))
    (modules.each name))

-- ---- the loop over one chain

pub full : (ds : List Declared) (n i : ℕ) (latest : List ℕ → Option ℕ) → length ds ≤ i → AreLocals ds n i latest → AreLocals ds n (length ds) latest
full ds n i latest l are = record {
  each = λ name. same_best (IsLocalSoFar name n i) (IsLocalSoFar name n (length ds)) ds (latest name)
      (λ j e there s. let inside : j < length ds = slice_get_within ds j e there in record { named = s.named; of_unit = s.of_unit; begun = s.begun; before = λ f. omega arith })
      (λ j e there s. let inside : j < length ds = slice_get_within ds j e there in record { named = s.named; of_unit = s.of_unit; begun = s.begun; before = λ f. omega arith })
      (are.each name);
}

abbrev pub AtNext : List Declared → ℕ → ℕ → (List ℕ → Option ℕ) → Type 0
AtNext ds n k latest = AreLocals ds n k latest × ((d : Declared) → slice_get ds k ≡ Some d → d.from ≡ n)

pub stepped : (ds : List Declared) (n p : ℕ) (heads nexts : List ℕ) (before after : List ℕ → Option ℕ) → p < length ds → n < length heads → AreChains ds 0 heads nexts → AreLocals ds n p before →
    ((d : Declared) → slice_get ds p ≡ Some d → d.from ≡ n) → ((name : List ℕ) → after name ≡ local_at ds (slice_get ds p) p before name) → AtNext ds n (get_or nexts p 0) after
stepped ds n p heads nexts before after l inside chains are here is = elim (slice_get_cases ds p).1 [
  | inl h ↦ by h.0 h.2
  | inr h ↦ absurd (omega (arith, h.0))
]
  where
    by : (d : Declared) → slice_get ds p ≡ Some d → AtNext ds n (get_or nexts p 0) after
    by d there =
        let from : d.from ≡ n = here d there in
        let next : IsNext ds n (suc p) (get_or nexts p 0) = subst (λ (x : ℕ). IsNext ds x (suc p) (get_or nexts p 0)) from (chains.nexts_are p d there (omega arith) (omega (arith, from))) in
        (moved ds n (suc p) (get_or nexts p 0) after next (entered ds n p d before after there from (λ name. is name ∙ ap (λ (o : Option Declared). local_at ds o p before name) there) are), next.there)
