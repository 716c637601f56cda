-- Numbers and constants: where one is refused, the bytes before that begin one that can stand there.
use Rattle.std.proofs.Common.{◌≡◌, ℕ, zero, suc, ◌+◌, ◌-◌, ◌*◌, ◌/◌, ◌%◌, ◌^◌, ◌<◌, ◌≤◌, ◌⊎◌, ℤ, pos, negsuc, ◌==◌, not, ◌&&◌, ◌||◌, Bool, true, false, nat_lt, nat_le, List, [], ◌∷◌, ◌++◌, length, decimal, slice_get, flat_map, Option, Some, None, Result, Ok, Err, if◌then◌else◌, refl, sym, ap, subst, ◌∙◌, arith, append_assoc, append-nil, inl, inr}
use Rattle.std.specs.Fmt.{signed_decimal}
use Rattle.std.specs.Char.{is_ascii_digit}
use Rattle.std.proofs.lemmas.Bool.{cases_Bool, cases_lt, eqb-true, eqb-false, leb-true, ltb-true, ltb-false, not-true, not-false, and_parts, or_parts}
use Rattle.std.proofs.lemmas.Fmt.{decimal_step, decimal_digit}
use Rattle.clu_types.specs.declared.spec.ParamKind.{ParamKind}
use Rattle.clu_specs.specs.declared.scope.Sort.{Sort}
use Rattle.clu_specs.specs.declared.scope.Sort.TheVariants as sort
use Rattle.clu_specs.specs.declared.scope.Scope.{Scope}
use Rattle.clu_specs.specs.Reading.{◌>>=◌, Read, behind}
use Rattle.clu_specs.specs.Numbers.{digits_from, digits_at, shorten, begins_decimal}
use Rattle.clu_specs.specs.Scopes.{any_scope, scope_of, is_of, is_some_of, last_from, last_in, names, begins_here, begins_among, begins_number, left_of_number, number_at, parameter_at}
use Rattle.clu_specs.specs.Constants.{hex_digit, hex_byte, hex_value, digit_by, digit_at, byte_at, string_step, string_at, negative_at, integer_at}
use Rattle.clu_specs.specs.Grammar.{IsParameter, IsInteger, AreBytes}
use Rattle.clu_specs.proofs.Outcomes.{either}
use Rattle.clu_specs.proofs.Spelled.{digit_bounds, one_more, digit_spelled, hex_made, byte_spelled, positive_at}
use Rattle.clu_specs.proofs.LocalNumbers.{accepted_err}
use Rattle.clu_specs.proofs.Fronts.{Front, Fronts, same_left, never, at_once, front_on, front_as, and_fails, shown_before}

-- a number up to a limit goes on from the bytes
pub record DigitsBegun (limit : ℕ) (q : List ℕ) : Type 0 where
  pub n : ℕ
  pub rest : List ℕ
  pub some : 0 < n
  pub small : n ≤ limit
  pub spelled : decimal n ≡ q ++ rest

digit_refused : {A : Type 0} (stop fits : Bool) (x : A) (more : Result A ℕ) (at left : ℕ) → (if stop then Ok x else if fits then more else Err at) ≡ Err left → (at ≡ left) ⊎ ((stop ≡ false) × (fits ≡ true) × (more ≡ Err left))
digit_refused true fits x more at left e = absurd (never x left e)
digit_refused false true x more at left e = inr (refl, refl, e)
digit_refused {A} false false x more at left e = inl (same_left {A = A} (Err at) at left refl e)

from_front : (limit : ℕ) (bytes : List ℕ) (read left : ℕ) → limit ≤ 2 ^ 63 → 0 < read → read ≤ limit → digits_from limit read bytes ≡ Err left → Front (λ q. DigitsBegun limit (decimal read ++ q)) bytes left
from_front limit [] read left small some le e = absurd (never (read, []) left e)
from_front limit (b ∷ bytes) read left small some le e =
    let m : ℕ = 10 * read + (b - 48) in
    elim (digit_refused (not (is_ascii_digit b)) (nat_le m limit) (read, b ∷ bytes) (digits_from limit m bytes) (suc (length bytes)) left e) [
      | inl same ↦ at_once (b ∷ bytes) left same (record { n = read; rest = []; some = some; small = le; spelled = sym (append-nil (decimal read)) ∙ sym (append-nil (decimal read ++ [])) })
      | inr h ↦ (let digit = digit_bounds b (not-false (is_ascii_digit b) h.0) in
          let fits : m ≤ limit = leb-true m limit h.1 in
          let one : (q : List ℕ) → decimal read ++ b ∷ q ≡ decimal m ++ q = λ q. one_more read b q some (omega (arith, fits, small)) digit.0 digit.1 in
          let inner : Front (λ q. DigitsBegun limit (decimal m ++ q)) bytes left = from_front limit bytes m left small (omega (arith, some)) fits h.2 in
          front_on (b ∷ []) (b ∷ bytes) bytes left refl inner (λ q d. record { n = d.n; rest = d.rest; some = d.some; small = d.small; spelled = d.spelled ∙ ap (λ (x : List ℕ). x ++ d.rest) (sym (one q)) }))
    ]

one_begun : (limit : ℕ) → 9 ≤ limit → DigitsBegun limit []
one_begun limit nine = record { n = 1; rest = decimal 1; some = omega arith; small = omega (arith, nine); spelled = refl }

pub digits_front : (limit : ℕ) → 9 ≤ limit → limit ≤ 2 ^ 63 → Fronts (DigitsBegun limit) (digits_at limit)
unfolding digits_at
digits_front limit nine small [] left e = at_once [] left (same_left {A = ℕ × List ℕ} (Err 0) 0 left refl e) (one_begun limit nine)
digits_front limit nine small (b ∷ bytes) left e =
    elim (either (nat_le 49 b && nat_le b 57) (digits_from limit 0 (b ∷ bytes)) (Err (suc (length bytes))) (Err left) e) [
      | inl h ↦ (let p = and_parts (nat_le 49 b) (nat_le b 57) h.0 in
          let low : 49 ≤ b = leb-true 49 b p.0 in
          let high : b ≤ 57 = leb-true b 57 p.1 in
          let m : ℕ = 10 * 0 + (b - 48) in
          let text : decimal m ≡ b ∷ [] = decimal_digit m (omega (arith, low, high)) ∙ ap (λ (x : ℕ). x ∷ []) (omega (arith, low)) in
          elim (digit_refused (not (is_ascii_digit b)) (nat_le m limit) (0, b ∷ bytes) (digits_from limit m bytes) (suc (length bytes)) left h.1) [
            | inl same ↦ at_once (b ∷ bytes) left same (one_begun limit nine)
            | inr g ↦ (let inner : Front (λ q. DigitsBegun limit (decimal m ++ q)) bytes left = from_front limit bytes m left small (omega (arith, low)) (leb-true m limit g.1) g.2 in
                front_on (b ∷ []) (b ∷ bytes) bytes left refl inner (λ q d. record { n = d.n; rest = d.rest; some = d.some; small = d.small; spelled = d.spelled ∙ ap (λ (x : List ℕ). (x ++ q) ++ d.rest) text }))
          ])
      | inr h ↦ at_once (b ∷ bytes) left (same_left {A = ℕ × List ℕ} (Err (suc (length bytes))) (suc (length bytes)) left refl h.1) (one_begun limit nine)
    ]

-- the digits of a number begin with those of another
shorten_le : (k first number : ℕ) → shorten k first number ≤ number
shorten_le zero first number = omega arith
shorten_le (suc k) first number = elim (cases_Bool (nat_le number first)) [ inl holds ↦ rw holds (omega arith) | inr fails ↦ rw fails (omega (arith, shorten_le k first (number / 10))) ]

abbrev GoesOn : ℕ → ℕ → Type 0
GoesOn first number = (more : List ℕ) × (decimal number ≡ decimal first ++ more)

shortened_goes : (k first number : ℕ) → 0 < first → number < 2 ^ 64 → shorten k first number ≡ first → GoesOn first number
shortened_goes zero first number some lt e = ([], ap decimal e ∙ sym (append-nil (decimal first)))
shortened_goes (suc k) first number some lt e = elim (cases_Bool (nat_le number first)) [
  | inl holds ↦ (let same : number ≡ first = rw holds at e in ([], ap decimal same ∙ sym (append-nil (decimal first))))
  | inr fails ↦ (let shorter : shorten k first (number / 10) ≡ first = rw fails at e in
      let h = shortened_goes k first (number / 10) some (omega (arith, lt)) shorter in
      let ten : 10 ≤ number = omega (arith, some, shorter, shorten_le k first (number / 10)) in
      let last : List ℕ = (48 + number % 10) ∷ [] in
      (h.0 ++ last, decimal_step number ten lt ∙ ap (λ (x : List ℕ). x ++ last) h.1 ∙ append_assoc (decimal first) h.0 last))
]

-- a parameter's number goes on from the bytes
pub record ParameterBegun (scope : Scope) (of : Sort) (least : ℕ) (q : List ℕ) : Type 0 where
  pub n : ℕ
  pub rest : List ℕ
  pub is : IsParameter scope of n
  pub after : least ≤ n
  pub spelled : decimal n ≡ q ++ rest

-- from the digits of a number that were read
pub record Reached (scope : Scope) (of : Sort) (least m : ℕ) : Type 0 where
  pub n : ℕ
  pub some : 0 < m
  pub is : IsParameter scope of n
  pub after : least ≤ n
  pub more : List ℕ
  pub text : decimal n ≡ decimal m ++ more

module _ (scope : Scope) (of : Sort) (least : ℕ) (some : ParameterBegun scope of least []) (goes : (m : ℕ) → begins_number scope of least m ≡ true → Reached scope of least m) where
  -- what was read, and its value
  abbrev Stands : ℕ → List ℕ → Type 0
  Stands read done = ((read ≡ 0) × (done ≡ [])) ⊎ ((0 < read) × (done ≡ decimal read) × (begins_number scope of least read ≡ true))

  stands_begun : (read : ℕ) (done : List ℕ) → Stands read done → ParameterBegun scope of least done
  stands_begun read done (inl h) = subst (ParameterBegun scope of least) (sym h.1) some
  stands_begun read done (inr h) =
      let r = goes read h.2 in
      record { n = r.n; rest = r.more; is = r.is; after = r.after; spelled = r.text ∙ ap (λ (x : List ℕ). x ++ r.more) (sym h.1) }

  stands_on : (read b : ℕ) (done : List ℕ) → Stands read done → is_ascii_digit b ≡ true → read ≤ 4294967295 → begins_number scope of least (10 * read + (b - 48)) ≡ true → Stands (10 * read + (b - 48)) (done ++ b ∷ [])
  stands_on read b done (inl h) digit small begun =
      let bounds = digit_bounds b digit in
      let m : ℕ = 10 * read + (b - 48) in
      let r = goes m begun in
      let back : 48 + m ≡ b = omega (arith, h.0, bounds.0) in
      let text : decimal m ≡ b ∷ [] = decimal_digit m (omega (arith, h.0, bounds.1)) ∙ ap (λ (x : ℕ). x ∷ []) back in
      inr (r.some, ap (λ (x : List ℕ). x ++ b ∷ []) h.1 ∙ sym text, begun)
  stands_on read b done (inr h) digit small begun =
      let bounds = digit_bounds b digit in
      let m : ℕ = 10 * read + (b - 48) in
      let r = goes m begun in
      let text : decimal read ++ b ∷ [] ≡ decimal m ++ [] = one_more read b [] h.0 (omega (arith, small, bounds.1)) bounds.0 bounds.1 in
      inr (r.some, ap (λ (x : List ℕ). x ++ b ∷ []) h.1 ∙ text ∙ append-nil (decimal m), begun)

  stands_now : (read : ℕ) (done : List ℕ) → Stands read done → ParameterBegun scope of least (done ++ [])
  stands_now read done st = subst (ParameterBegun scope of least) (sym (append-nil done)) (stands_begun read done st)

  left_front : (bytes : List ℕ) (read : ℕ) (done : List ℕ) → Stands read done → Front (λ q. ParameterBegun scope of least (done ++ q)) bytes (left_of_number scope of least read bytes)
  left_front [] read done st = at_once [] 0 refl (stands_now read done st)
  left_front (b ∷ bytes) read done st =
      let m : ℕ = 10 * read + (b - 48) in
      elim (cases_Bool (not (is_ascii_digit b) || nat_lt 4294967295 read)) [
        | inl holds ↦ rw holds (at_once (b ∷ bytes) (suc (length bytes)) refl (stands_now read done st))
        | inr fails ↦ rw fails (elim (cases_Bool (begins_number scope of least (10 * read + (b - 48)))) [
          | inl begun ↦ (let n = or_parts (not (is_ascii_digit b)) (nat_lt 4294967295 read) fails in
              let on : Stands m (done ++ b ∷ []) = stands_on read b done st (not-false (is_ascii_digit b) n.0) (ltb-false 4294967295 read n.1) begun in
              let inner : Front (λ q. ParameterBegun scope of least ((done ++ b ∷ []) ++ q)) bytes (left_of_number scope of least m bytes) = left_front bytes m (done ++ b ∷ []) on in
              rw begun (front_on (b ∷ []) (b ∷ bytes) bytes (left_of_number scope of least m bytes) refl inner (λ q x. subst (ParameterBegun scope of least) (append_assoc done (b ∷ []) q) x)))
          | inr stops ↦ rw stops (at_once (b ∷ bytes) (suc (length bytes)) refl (stands_now read done st))
        ])
      ]

  pub number_front : Fronts (ParameterBegun scope of least) (number_at scope of least)
  unfolding number_at
  number_front bytes left e =
      let same = accepted_err scope of least (digits_at 4294967295 bytes) (left_of_number scope of least 0 bytes) left e in
      subst (Front (ParameterBegun scope of least) bytes) same (left_front bytes 0 [] (inl (refl, refl)))

-- a scope whose digits lead to its parameters
pub record Leads (scope : Scope) : Type 0 where
  pub some : (of : Sort) → nat_le 1 (last_in scope of) ≡ true → ParameterBegun scope of 1 []
  pub goes : (of : Sort) (m : ℕ) → begins_number scope of 1 m ≡ true → Reached scope of 1 m

pub parameter_front : (scope : Scope) → Leads scope → (of : Sort) (bytes behind_mark : List ℕ) (left : ℕ) → parameter_at scope of bytes behind_mark ≡ Err left → (length bytes ≡ left) ⊎ Front (ParameterBegun scope of 1) behind_mark left
unfolding parameter_at
parameter_front scope leads of bytes behind_mark left e =
    elim (either (nat_le 1 (last_in scope of)) (number_at scope of 1 behind_mark) (Err (length bytes)) (Err left) e) [
      | inl h ↦ inr (number_front scope of 1 (leads.some of h.0) (leads.goes of) behind_mark left h.1)
      | inr h ↦ inl (same_left {A = ℕ × List ℕ} (Err (length bytes)) (length bytes) left refl h.1)
    ]

-- any number
any_named : (of : Sort) (m : ℕ) → 0 < m → nat_le m 4294967295 ≡ true → names any_scope of m ≡ true
any_named of zero lt e = absurd (omega (arith, lt))
any_named of (suc m) lt e = e

any_goes : (of : Sort) (m : ℕ) → begins_number any_scope of 1 m ≡ true → Reached any_scope of 1 m
any_goes of m e =
    let p = and_parts (nat_lt 0 m) (nat_le m 4294967295) e in
    let some : 0 < m = ltb-true 0 m p.0 in
    record { n = m; some = some; is = record { named = any_named of m some p.1; small = leb-true m 4294967295 p.1 }; after = omega (arith, some); more = []; text = sym (append-nil (decimal m)) }

pub any_leads : Leads any_scope
any_leads = record {
  some = λ of h. record { n = 1; rest = decimal 1; is = record { named = refl; small = omega arith }; after = omega arith; spelled = refl };
  goes = any_goes;
}

-- the parameters of a specification
record Among (of : Sort) (least m at : ℕ) (kinds : List ParamKind) : Type 0 where
  pub index : ℕ
  pub named : is_some_of of (slice_get kinds index) ≡ true
  pub after : least ≤ at + index
  pub begins : begins_decimal m (at + index) ≡ true
  pub within : index < length kinds

among_found : (of : Sort) (least m at : ℕ) (kinds : List ParamKind) → begins_among of least m at kinds ≡ true → Among of least m at kinds
among_found of least m at [] e = absurd (cc)
among_found of least m at (k ∷ ks) e = elim (cases_Bool (begins_here of least m at k)) [
  | inl holds ↦ (let p = and_parts (nat_le least at && is_of of k) (begins_decimal m at) holds in
      let h = and_parts (nat_le least at) (is_of of k) p.0 in
      let same : at ≡ at + 0 = omega arith in
      record { index = 0; named = h.1; after = omega (arith, leb-true least at h.0); begins = ap (begins_decimal m) (sym same) ∙ p.1; within = omega arith })
  | inr fails ↦ (let a = among_found of least m (at + 1) ks (rw fails at e) in
      let same : at + 1 + a.index ≡ at + suc a.index = omega arith in
      record { index = suc a.index; named = a.named; after = omega (arith, a.after); begins = ap (begins_decimal m) (sym same) ∙ a.begins; within = omega (arith, a.within) })
]

not_none : (m : ℕ) → not (m == 0) ≡ true → 0 < m
not_none m e = elim (cases_lt 0 m) [ inl lt ↦ lt | inr le ↦ absurd (eqb-false m 0 (not-true (m == 0) e) (omega (arith, le))) ]

record Last (of : Sort) (kinds : List ParamKind) (n number : ℕ) : Type 0 where
  pub index : ℕ
  pub named : is_some_of of (slice_get kinds index) ≡ true
  pub is : number ≡ n + suc index
  pub within : index < length kinds

last_on : (of : Sort) (k : ParamKind) (ks : List ParamKind) (n number : ℕ) → Last of ks (n + 1) number → Last of (k ∷ ks) n number
last_on of k ks n number f = record { index = suc f.index; named = f.named; is = omega (arith, f.is); within = omega (arith, f.within) }

last_found : (of : Sort) (ks : List ParamKind) (n last : ℕ) → (last_from of n last ks ≡ last) ⊎ Last of ks n (last_from of n last ks)
last_found of [] n last = inl refl
last_found of (k ∷ ks) n last = elim (cases_Bool (is_of of k)) [
  | inl holds ↦ rw holds (elim (last_found of ks (n + 1) (n + 1)) [
    | inl same ↦ inr (record { index = 0; named = holds; is = omega (arith, same); within = omega arith })
    | inr f ↦ inr (last_on of k ks n (last_from of (n + 1) (n + 1) ks) f)
  ])
  | inr fails ↦ rw fails (elim (last_found of ks (n + 1) last) [
    | inl same ↦ inl same
    | inr f ↦ inr (last_on of k ks n (last_from of (n + 1) last ks) f)
  ])
]

module _ (kinds : List ParamKind) (few : length kinds ≤ 4294967295) where
  pub spec_goes : (of : Sort) (least m : ℕ) → begins_number (scope_of kinds) of least m ≡ true → Reached (scope_of kinds) of least m
  spec_goes of least m e =
      let a = among_found of least m 1 kinds e in
      let number : 1 + a.index ≡ suc a.index = omega arith in
      let begins : begins_decimal m (suc a.index) ≡ true = ap (begins_decimal m) (sym number) ∙ a.begins in
      let p = and_parts (not (m == 0)) (shorten 20 m (suc a.index) == m) begins in
      let some : 0 < m = not_none m p.0 in
      let h = shortened_goes 20 m (suc a.index) some (omega (arith, few, a.within)) (eqb-true (shorten 20 m (suc a.index)) m p.1) in
      record { n = suc a.index; some = some; is = record { named = a.named; small = omega (arith, few, a.within) }; after = omega (arith, a.after); more = h.0; text = h.1 }

  last_is : (of : Sort) → last_in (scope_of kinds) of ≡ last_from of 0 0 kinds
  last_is sort.Type = refl
  last_is sort.Constant = refl

  pub spec_some : (of : Sort) (least : ℕ) → nat_le 1 (last_in (scope_of kinds) of) ≡ true → nat_le least (last_in (scope_of kinds) of) ≡ true → ParameterBegun (scope_of kinds) of least []
  spec_some of least one e =
      let le : least ≤ last_from of 0 0 kinds = omega (arith, leb-true least (last_in (scope_of kinds) of) e, last_is of) in
      let some : 1 ≤ last_from of 0 0 kinds = omega (arith, leb-true 1 (last_in (scope_of kinds) of) one, last_is of) in
      elim (last_found of kinds 0 0) [
        | inl same ↦ absurd (omega (arith, some, same))
        | inr f ↦ record { n = suc f.index; rest = decimal (suc f.index); is = record { named = f.named; small = omega (arith, few, f.within) }; after = omega (arith, le, f.is); spelled = refl }
      ]

  pub spec_leads : Leads (scope_of kinds)
  spec_leads = record { some = λ of h. spec_some of 1 h h; goes = λ of m e. spec_goes of 1 m e }

-- hexadecimal digits
digit_left_by : (o : Option ℕ) (b : ℕ) (bytes : List ℕ) (left : ℕ) → digit_by o b bytes ≡ Err left → suc (length bytes) ≡ left
digit_left_by None b bytes left e = same_left {A = ℕ × List ℕ} (Err (suc (length bytes))) (suc (length bytes)) left refl e
digit_left_by (Some v) b bytes left e = absurd (never (v, bytes) left e)

digit_left : (bytes : List ℕ) (left : ℕ) → digit_at bytes ≡ Err left → length bytes ≡ left
digit_left [] left e = same_left {A = ℕ × List ℕ} (Err 0) 0 left refl e
digit_left (b ∷ bytes) left e = digit_left_by (hex_value b) b bytes left e

pub record ByteBegun (q : List ℕ) : Type 0 where
  pub b : ℕ
  pub rest : List ℕ
  pub small : b < 256
  pub spelled : hex_byte b ≡ q ++ rest

byte_none : ByteBegun []
byte_none = record { b = 0; rest = hex_byte 0; small = omega arith; spelled = refl }

pub byte_front : Fronts ByteBegun byte_at
unfolding byte_at
byte_front bytes left e =
    elim (and_fails (digit_at bytes) (λ (high : ℕ × List ℕ). digit_at high.1 >>= λ low. Ok (16 * high.0 + low.0, low.1)) left e) [
      | inl h ↦ at_once bytes left (digit_left bytes left h) byte_none
      | inr h ↦ elim (and_fails (digit_at h.0.1) (λ (low : ℕ × List ℕ). Ok (16 * h.0.0 + low.0, low.1)) left h.2) [
        | inl g ↦ (let d = digit_spelled bytes h.0.0 h.0.1 h.1 in
            record {
              front = hex_digit h.0.0 ∷ [];
              back = h.0.1;
              whole = d.0;
              rest = digit_left h.0.1 left g;
              begun = record { b = 16 * h.0.0 + 0; rest = hex_digit 0 ∷ []; small = omega (arith, d.1); spelled = sym (append-nil (hex_byte (16 * h.0.0 + 0))) ∙ sym (hex_made h.0.0 0 [] d.1 (omega arith)) };
            })
        | inr g ↦ absurd (never (16 * h.0.0 + g.0.0, g.0.1) left g.2)
      ]
    ]

-- strings
pub record StringBegun (q : List ℕ) : Type 0 where
  pub text : List ℕ
  pub rest : List ℕ
  pub are : AreBytes text
  pub spelled : flat_map hex_byte text ++ 34 ∷ [] ≡ q ++ rest

string_refused : (o : Option (List ℕ)) (made : List ℕ) (more : Read (List ℕ)) (left : ℕ) → string_step o made more ≡ Err left → more ≡ Err left
string_refused None made more left e = e
string_refused (Some after) made more left e = absurd (never (made, after) left e)

string_none : StringBegun []
string_none = record { text = []; rest = 34 ∷ []; are = tt; spelled = refl }

pub string_front : (n : ℕ) (made : List ℕ) → Fronts StringBegun (string_at n made)
unfolding string_at
string_front zero made bytes left e = at_once bytes left (same_left {A = List ℕ × List ℕ} (Err (length bytes)) (length bytes) left refl e) string_none
string_front (suc n) made bytes left e =
    let more = string_refused (behind 34 bytes) made (byte_at bytes >>= λ x. string_at n (made ++ x.0 ∷ []) x.1) left e in
    elim (and_fails (byte_at bytes) (λ (x : ℕ × List ℕ). string_at n (made ++ x.0 ∷ []) x.1) left more) [
      | inl h ↦ front_as bytes left (byte_front bytes left h) (λ q x. record {
        text = x.b ∷ [];
        rest = x.rest ++ 34 ∷ [];
        are = (x.small, tt);
        spelled = ap (λ (y : List ℕ). y ++ 34 ∷ []) (append-nil (hex_byte x.b)) ∙ shown_before (hex_byte x.b) (34 ∷ []) q x.rest x.spelled;
      })
      | inr h ↦ (let byte = byte_spelled bytes h.0.0 h.0.1 h.1 in
          front_on (hex_byte h.0.0) bytes h.0.1 left byte.0 (string_front n (made ++ h.0.0 ∷ []) h.0.1 left h.2) (λ q x. record {
            text = h.0.0 ∷ x.text;
            rest = x.rest;
            are = (byte.1, x.are);
            spelled = append_assoc (hex_byte h.0.0) (flat_map hex_byte x.text) (34 ∷ []) ∙ ap (λ (y : List ℕ). hex_byte h.0.0 ++ y) x.spelled ∙ sym (append_assoc (hex_byte h.0.0) q x.rest);
          }))
    ]

-- integers
pub record IntegerBegun (q : List ℕ) : Type 0 where
  pub n : ℤ
  pub rest : List ℕ
  pub is : IsInteger n
  pub spelled : signed_decimal n ≡ q ++ rest

integer_none : IntegerBegun []
integer_none = record { n = pos 0; rest = signed_decimal (pos 0); is = omega arith; spelled = refl }

negative_begun : (q : List ℕ) → DigitsBegun 9223372036854775808 q → IntegerBegun (45 ∷ q)
negative_begun q d =
    let back : suc (d.n - 1) ≡ d.n = omega (arith, d.some) in
    record { n = negsuc (d.n - 1); rest = d.rest; is = omega (arith, d.small, d.some); spelled = ap (λ (x : ℕ). 45 ∷ decimal x) back ∙ ap (λ (x : List ℕ). 45 ∷ x) d.spelled }

negative_front : (bytes : List ℕ) (left : ℕ) → negative_at bytes ≡ Err left → Front (DigitsBegun 9223372036854775808) bytes left
unfolding negative_at
negative_front bytes left e =
    elim (and_fails (digits_at 9223372036854775808 bytes) (λ (x : ℕ × List ℕ). Ok (negsuc (x.0 - 1), x.1)) left e) [
      | inl h ↦ digits_front 9223372036854775808 (omega arith) (omega arith) bytes left h
      | inr h ↦ absurd (never (negsuc (h.0.0 - 1), h.0.1) left h.2)
    ]

positive_front : (bytes : List ℕ) (left : ℕ) → positive_at bytes ≡ Err left → Front IntegerBegun bytes left
positive_front bytes left e =
    elim (and_fails (digits_at 9223372036854775807 bytes) (λ (x : ℕ × List ℕ). Ok (pos x.0, x.1)) left e) [
      | inl h ↦ front_as bytes left (digits_front 9223372036854775807 (omega arith) (omega arith) bytes left h) (λ q d. record { n = pos d.n; rest = d.rest; is = omega (arith, d.small); spelled = d.spelled })
      | inr h ↦ absurd (never (pos h.0.0, h.0.1) left h.2)
    ]

pub integer_front : Fronts IntegerBegun integer_at
unfolding integer_at
integer_front [] left e = at_once [] left (same_left {A = ℤ × List ℕ} (Err 0) 0 left refl e) integer_none
integer_front (b ∷ bytes) left e =
    elim (either (b == 48) (Ok (pos 0, bytes)) (if b == 45 then negative_at bytes else positive_at (b ∷ bytes)) (Err left) e) [
      | inl h ↦ absurd (never (pos 0, bytes) left h.1)
      | inr h ↦ elim (either (b == 45) (negative_at bytes) (positive_at (b ∷ bytes)) (Err left) h.1) [
        | inl g ↦ (let mark : b ∷ bytes ≡ (45 ∷ []) ++ bytes = ap (λ (x : ℕ). x ∷ bytes) (eqb-true b 45 g.0) in
            front_on (45 ∷ []) (b ∷ bytes) bytes left mark (negative_front bytes left g.1) (λ q d. negative_begun q d))
        | inr g ↦ positive_front (b ∷ bytes) left g.1
      ]
    ]
