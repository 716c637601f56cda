-- Numbers and constants go by the bytes up to where they stop.
use Rattle.std.proofs.Common.{◌≡◌, ℕ, zero, suc, ◌+◌, ◌-◌, ◌*◌, ◌/◌, ◌<◌, ◌≤◌, pos, negsuc, ◌==◌, not, ◌&&◌, ◌||◌, Bool, true, false, nat_lt, nat_le, List, [], ◌∷◌, ◌++◌, length, slice_get, Option, Some, None, Ok, Err, if◌then◌else◌, refl, sym, ap, subst, ◌∙◌, arith, length-append, inl, inr}
use Rattle.std.specs.Char.{is_ascii_digit}
use Rattle.std.proofs.lemmas.Bool.{cases_Bool, cases_lt, eq-eqb, ne_eqb, leb-true, le-leb, le-ltb, lt-ltb, not-false, and_from, and_parts, or_from, cond-true, cond-false}
use Rattle.clu_types.specs.declared.spec.ParamKind.{ParamKind}
use Rattle.clu_specs.specs.declared.scope.Sort.{Sort}
use Rattle.clu_specs.specs.declared.scope.Scope.{Scope}
use Rattle.clu_specs.specs.Reading.{◌>>=◌, Read, behind}
use Rattle.clu_specs.specs.Numbers.{digits_from, digits_at, shorten, begins_decimal}
use Rattle.clu_specs.specs.Scopes.{is_some_of, is_of, names, begins_here, begins_among, begins_number, left_of_number, accepted, number_at}
use Rattle.clu_specs.specs.Constants.{hex_value, digit_by, digit_at, byte_at, string_step, string_at, negative_at, integer_at}
use Rattle.clu_specs.proofs.Outcomes.{passed, ok_same, behind_spelled}
use Rattle.clu_specs.proofs.Spelled.{digit_bounds, digit_choice, accepted_ok, number_read, byte_spelled, positive_at}
use Rattle.clu_specs.proofs.Decimals.{number_by}
use Rattle.clu_specs.proofs.Local.{left_of, Like, Local, Consumes, local_from, just, after_bound, after_like, then_on}

-- digits
digits_bound : (limit read : ℕ) (bytes : List ℕ) → left_of (digits_from limit read bytes) ≤ length bytes
digits_bound limit read [] = omega arith
digits_bound limit read (b ∷ bytes) = elim (cases_Bool (not (is_ascii_digit b))) [
  | inl holds ↦ rw holds (omega arith)
  | inr fails ↦ rw fails (elim (cases_Bool (nat_le (10 * read + (b - 48)) limit)) [ inl holds ↦ rw holds (omega (arith, digits_bound limit (10 * read + (b - 48)) bytes)) | inr fails ↦ rw fails (omega arith) ])
]

digits_like : (limit read : ℕ) (p s t : List ℕ) → length s < left_of (digits_from limit read (p ++ s)) → Like s t (digits_from limit read (p ++ s)) (digits_from limit read (p ++ t))
digits_like limit read [] s t c = absurd (omega (arith, c, digits_bound limit read s))
digits_like limit read (b ∷ p) s t c = elim (cases_Bool (not (is_ascii_digit b))) [
  | inl holds ↦ rw holds (b ∷ p, refl, refl)
  | inr fails ↦ (let now : length s < left_of (if nat_le (10 * read + (b - 48)) limit then digits_from limit (10 * read + (b - 48)) (p ++ s) else Err (suc (length (p ++ s)))) = rw fails at c in
      rw fails (elim (cases_Bool (nat_le (10 * read + (b - 48)) limit)) [
        | inl fits ↦ rw fits (digits_like limit (10 * read + (b - 48)) p s t (rw fits at now))
        | inr large ↦ rw large (suc (length (p ++ t)), refl)
      ]))
]

cond_bound : {A : Type 0} (c : Bool) (r : Read A) (left n : ℕ) → left_of r ≤ n → left ≤ n → left_of (if c then r else Err left) ≤ n
cond_bound true r left n b l = b
cond_bound false r left n b l = l

cond_like : {A : Type 0} (c : Bool) (s t : List ℕ) (r o : Read A) (left other : ℕ) → (length s < left_of r → Like s t r o) → length s < left_of (if c then r else Err left) → Like s t (if c then r else Err left) (if c then o else Err other)
cond_like true s t r o left other h c = h c
cond_like false s t r o left other h c = (other, refl)

left_cond : (a b : Bool) (left n : ℕ) → left ≤ n → (if a then suc n else if b then left else suc n) ≤ suc n
left_cond true b left n le = omega arith
left_cond false true left n le = omega (arith, le)
left_cond false false left n le = omega arith

no_ok : {A : Type 0} (x : A × List ℕ) (left : ℕ) → Ok x ≡ Err left → ⊥
no_ok x left e = cc

same_err : {A : Type 0} (r : Read A) (left at : ℕ) → r ≡ Err left → r ≡ Err at → left ≡ at
same_err r left at p q = cc

-- what is known where the first reader succeeds
like_ok : {A : Type 0} (s t : List ℕ) (r o : Read A) (x : A × List ℕ) → r ≡ Ok x → (length s < left_of r → Like s t r o) → length s < length x.1 → (front : List ℕ) × (x.1 ≡ front ++ s) × (o ≡ Ok (x.0, front ++ t))
like_ok s t r o x e h c =
    let inside : length s < left_of r = subst (λ (z : Read _). length s < left_of z) (sym e) c in
    subst (λ (z : Read _). Like s t z o) e (h inside)

digits_at_bound : (limit : ℕ) (bytes : List ℕ) → left_of (digits_at limit bytes) ≤ length bytes
unfolding digits_at
digits_at_bound limit [] = omega arith
digits_at_bound limit (b ∷ bytes) = elim (cases_Bool (nat_le 49 b && nat_le b 57)) [
  | inl holds ↦ cond_bound (nat_le 49 b && nat_le b 57) (digits_from limit 0 (b ∷ bytes)) (suc (length bytes)) (length (b ∷ bytes)) (digits_bound limit 0 (b ∷ bytes)) (omega arith)
  | inr fails ↦ cond_bound (nat_le 49 b && nat_le b 57) (digits_from limit 0 (b ∷ bytes)) (suc (length bytes)) (length (b ∷ bytes)) (digits_bound limit 0 (b ∷ bytes)) (omega arith)
]

pub digits_at_like : (limit : ℕ) (p s t : List ℕ) → length s < left_of (digits_at limit (p ++ s)) → Like s t (digits_at limit (p ++ s)) (digits_at limit (p ++ t))
unfolding digits_at
digits_at_like limit [] s t c = absurd (omega (arith, c, digits_at_bound limit s))
digits_at_like limit (b ∷ p) s t c =
    cond_like (nat_le 49 b && nat_le b 57) s t (digits_from limit 0 (b ∷ (p ++ s))) (digits_from limit 0 (b ∷ (p ++ t))) (suc (length (p ++ s))) (suc (length (p ++ t))) (digits_like limit 0 (b ∷ p) s t) c

pub digits_local : (limit m n : ℕ) → Local m n (digits_at limit) (digits_at limit)
digits_local limit m n = record { bound = digits_at_bound limit; like = λ p s t a d c. digits_at_like limit p s t c }

-- the digits of a number begin with those that were read first
abbrev divided : ℕ → ℕ → ℕ
divided zero n = n
divided (suc j) n = divided j (n / 10)

divided_le : (j n : ℕ) → divided j n ≤ n
divided_le zero n = omega arith
divided_le (suc j) n = omega (arith, divided_le j (n / 10))

-- one digit more in front
divided_last : (j n : ℕ) → divided (suc j) n ≡ divided j n / 10
divided_last zero n = refl
divided_last (suc j) n = divided_last j (n / 10)

shortened : (k j first number : ℕ) → divided j number ≡ first → j ≤ k → shorten k first number ≡ first
shortened zero zero first number e le = e
shortened zero (suc j) first number e le = absurd (omega (arith, le))
shortened (suc k) zero first number e le = rw (le-leb number first (omega (arith, e))) e
shortened (suc k) (suc j) first number e le = elim (cases_Bool (nat_le number first)) [
  | inl holds ↦ rw holds (omega (arith, leb-true number first holds, e, divided_le (suc j) number))
  | inr fails ↦ rw fails (shortened k j first (number / 10) e (omega (arith, le)))
]

abbrev tens : ℕ → ℕ
tens zero = 1
tens (suc k) = 10 * tens k

few_digits : (k j n : ℕ) → 0 < divided j n → n < tens k → j < k
few_digits zero j n some lt = absurd (omega (arith, divided_le j n, lt, some))
few_digits (suc k) zero n some lt = omega arith
few_digits (suc k) (suc j) n some lt = omega (arith, few_digits k j (n / 10) some (omega (arith, lt)))

begins : (j first number : ℕ) → 0 < first → divided j number ≡ first → number ≤ 4294967295 → begins_decimal first number ≡ true
begins j first number some e small =
    let few : j < 20 = few_digits 20 j number (omega (arith, some, e)) (omega (arith, small)) in
    and_from (not (first == 0)) (shorten 20 first number == first) (ap not (ne_eqb first 0 (λ z. absurd (omega (arith, z, some)))))
    (eq-eqb (shorten 20 first number) first (shortened 20 j first number e (omega (arith, few))))

digits_divided : (limit read : ℕ) (bytes : List ℕ) (n : ℕ) (rest : List ℕ) → digits_from limit read bytes ≡ Ok (n, rest) → (j : ℕ) × (divided j n ≡ read)
digits_divided limit read [] n rest e =
    let same : (read, []) ≡ (n, rest) = ok_same (Ok (read, [])) (read, []) (n, rest) refl e in
    (0, ap (λ (x : ℕ × List ℕ). x.0) (sym same))
digits_divided limit read (b ∷ bytes) n rest e =
    let m : ℕ = 10 * read + (b - 48) in
    elim (digit_choice (not (is_ascii_digit b)) (nat_le m limit) (read, b ∷ bytes) (digits_from limit m bytes) (suc (length bytes)) (n, rest) e) [
      | inl h ↦ (0, ap (λ (x : ℕ × List ℕ). x.0) (sym h.1))
      | inr h ↦ (let digit = digit_bounds b (not-false (is_ascii_digit b) h.0) in
          let more = digits_divided limit m bytes n rest h.2 in
          (suc more.0, divided_last more.0 n ∙ ap (λ (x : ℕ). x / 10) more.1 ∙ omega (arith, digit.0, digit.1)))
    ]

-- numbers of parameters
module _ (scope : Scope) (of : Sort) (least : ℕ) where
  left_bound : (read : ℕ) (bytes : List ℕ) → left_of_number scope of least read bytes ≤ length bytes
  left_bound read [] = omega arith
  left_bound read (b ∷ bytes) = elim (cases_Bool (not (is_ascii_digit b) || nat_lt 4294967295 read)) [
    | inl holds ↦ left_cond (not (is_ascii_digit b) || nat_lt 4294967295 read) (begins_number scope of least (10 * read + (b - 48))) (left_of_number scope of least (10 * read + (b - 48)) bytes) (length bytes) (left_bound (10 * read + (b - 48)) bytes)
    | inr fails ↦ left_cond (not (is_ascii_digit b) || nat_lt 4294967295 read) (begins_number scope of least (10 * read + (b - 48))) (left_of_number scope of least (10 * read + (b - 48)) bytes) (length bytes) (left_bound (10 * read + (b - 48)) bytes)
  ]

  among : (ks : List ParamKind) (m n at i : ℕ) → is_some_of of (slice_get ks i) ≡ true → n ≡ at + i → least ≤ n → begins_decimal m n ≡ true → begins_among of least m at ks ≡ true
  among [] m n at i e same le b = absurd (cc)
  among (k ∷ ks) m n at zero e same le b =
      let here : at ≡ n = omega (arith, same) in
      let is : begins_here of least m at k ≡ true = and_from (nat_le least at && is_of of k) (begins_decimal m at) (and_from (nat_le least at) (is_of of k) (le-leb least at (omega (arith, le, here))) e) (ap (begins_decimal m) here ∙ b) in
      cond-true (begins_here of least m at k) true (begins_among of least m (at + 1) ks) is
  among (k ∷ ks) m n at (suc i) e same le b =
      let more : begins_among of least m (at + 1) ks ≡ true = among ks m n (at + 1) i e (omega (arith, same)) le b in
      elim (cases_Bool (begins_here of least m at k)) [
        | inl holds ↦ cond-true (begins_here of least m at k) true (begins_among of least m (at + 1) ks) holds
        | inr fails ↦ cond-false (begins_here of least m at k) true (begins_among of least m (at + 1) ks) fails ∙ more
      ]

  begun_by : (alone : Bool) (m n : ℕ) → scope.alone ≡ alone → 0 < m → m ≤ 4294967295 → names scope of n ≡ true → least ≤ n → begins_decimal m n ≡ true → begins_number scope of least m ≡ true
  begun_by true m n a some small named le b = cond-true scope.alone (nat_lt 0 m && nat_le m 4294967295) (begins_among of least m 1 scope.kinds) a ∙ and_from (nat_lt 0 m) (nat_le m 4294967295) (lt-ltb 0 m some) (le-leb m 4294967295 small)
  begun_by false m zero a some small named le b = absurd (cc)
  begun_by false m (suc i) a some small named le b =
      let of_kind : is_some_of of (slice_get scope.kinds i) ≡ true = sym (cond-false scope.alone (nat_le (suc i) 4294967295) (is_some_of of (slice_get scope.kinds i)) a) ∙ named in
      cond-false scope.alone (nat_lt 0 m && nat_le m 4294967295) (begins_among of least m 1 scope.kinds) a ∙ among scope.kinds m (suc i) 1 i of_kind (omega arith) le b

  -- all bytes of a front that are digits of such a number are passed, whatever follows
  passes_on : (b read : ℕ) (p s t : List ℕ) (n : ℕ) (rest : List ℕ) → 0 < 10 * read + (b - 48) → names scope of n ≡ true → least ≤ n → n ≤ 4294967295 → digits_from 4294967295 read (b ∷ (p ++ t)) ≡ Ok (n, rest) → length rest ≤ length t
      → (digits_from 4294967295 (10 * read + (b - 48)) (p ++ t) ≡ Ok (n, rest) → left_of_number scope of least (10 * read + (b - 48)) (p ++ s) ≤ length s) → left_of_number scope of least read (b ∷ (p ++ s)) ≤ length s
  passes_on b read p s t n rest some named le small e short more =
      let m : ℕ = 10 * read + (b - 48) in
      elim (digit_choice (not (is_ascii_digit b)) (nat_le m 4294967295) (read, b ∷ (p ++ t)) (digits_from 4294967295 m (p ++ t)) (suc (length (p ++ t))) (n, rest) e) [
        | inl h ↦ absurd (omega (arith, ap (λ (x : ℕ × List ℕ). length x.1) h.1, short, length-append p t))
        | inr h ↦ (let fits : m ≤ 4294967295 = leb-true m 4294967295 h.1 in
            let j = digits_divided 4294967295 m (p ++ t) n rest h.2 in
            let begun : begins_number scope of least m ≡ true = begun_by scope.alone m n refl some fits named le (begins j.0 m n some j.1 small) in
            let goes : (not (is_ascii_digit b) || nat_lt 4294967295 read) ≡ false = or_from (not (is_ascii_digit b)) (nat_lt 4294967295 read) h.0 (le-ltb 4294967295 read (omega (arith, fits))) in
            rw (goes, begun) (more h.2))
      ]

  passes : (read : ℕ) (p s t : List ℕ) (n : ℕ) (rest : List ℕ) → 0 < read → names scope of n ≡ true → least ≤ n → n ≤ 4294967295 → digits_from 4294967295 read (p ++ t) ≡ Ok (n, rest) → length rest ≤ length t
      → left_of_number scope of least read (p ++ s) ≤ length s
  passes read [] s t n rest some named le small e short = left_bound read s
  passes read (b ∷ p) s t n rest some named le small e short =
      passes_on b read p s t n rest (omega (arith, some)) named le small e short (λ more. passes (10 * read + (b - 48)) p s t n rest (omega (arith, some)) named le small more short)

  passes_all : (p s t : List ℕ) (n : ℕ) (rest : List ℕ) → names scope of n ≡ true → least ≤ n → n ≤ 4294967295 → digits_at 4294967295 (p ++ t) ≡ Ok (n, rest) → length rest ≤ length t → left_of_number scope of least 0 (p ++ s) ≤ length s
  unfolding digits_at
  passes_all [] s t n rest named le small e short = left_bound 0 s
  passes_all (b ∷ p) s t n rest named le small e short =
      let h = passed (nat_le 49 b && nat_le b 57) (suc (length (p ++ t))) (digits_from 4294967295 0 (b ∷ (p ++ t))) (n, rest) e in
      let first : 49 ≤ b = leb-true 49 b (and_parts (nat_le 49 b) (nat_le b 57) h.0).0 in
      passes_on b 0 p s t n rest (omega (arith, first)) named le small h.1 short (λ more. passes (10 * 0 + (b - 48)) p s t n rest (omega (arith, first)) named le small more short)

  pub accepted_err : (read : Read ℕ) (left at : ℕ) → accepted scope of least read left ≡ Err at → left ≡ at
  accepted_err (Err x) left at e = cc
  accepted_err (Ok x) left at e = elim (cases_Bool (nat_le least x.0 && names scope of x.0)) [
    | inl holds ↦ absurd (no_ok x at (sym (cond-true (nat_le least x.0 && names scope of x.0) (Ok x) (Err left) holds) ∙ e))
    | inr fails ↦ same_err (accepted scope of least (Ok x) left) left at (cond-false (nat_le least x.0 && names scope of x.0) (Ok x) (Err left) fails) e
  ]

  accepted_bound : (read : Read ℕ) (left n : ℕ) → left_of read ≤ n → left ≤ n → left_of (accepted scope of least read left) ≤ n
  accepted_bound (Err x) left n b l = l
  accepted_bound (Ok x) left n b l = cond_bound (nat_le least x.0 && names scope of x.0) (Ok x) left n b l

  number_bound : (bytes : List ℕ) → left_of (number_at scope of least bytes) ≤ length bytes
  unfolding number_at
  number_bound bytes = accepted_bound (digits_at 4294967295 bytes) (left_of_number scope of least 0 bytes) (length bytes) (digits_at_bound 4294967295 bytes) (left_bound 0 bytes)

  abbrev at : List ℕ → Read ℕ
  at bytes = number_at scope of least bytes

  number_like_by : (p s t : List ℕ) (r o : Read ℕ) → at (p ++ s) ≡ r → at (p ++ t) ≡ o → length s < left_of r → Like s t r o
  unfolding number_at
  number_like_by p s t (Ok x) o e f c =
      let a = accepted_ok scope of least (digits_at 4294967295 (p ++ s)) (left_of_number scope of least 0 (p ++ s)) x e in
      let h = like_ok s t (digits_at 4294967295 (p ++ s)) (digits_at 4294967295 (p ++ t)) x a.0 (digits_at_like 4294967295 p s t) c in
      (h.0, h.1, sym f ∙ number_by scope of x.0 least (p ++ t) (h.0 ++ t) h.2 a.1 a.2)
  number_like_by p s t (Err left) (Err other) e f c = (other, refl)
  number_like_by p s t (Err left) (Ok x) e f c =
      let a = accepted_ok scope of least (digits_at 4294967295 (p ++ t)) (left_of_number scope of least 0 (p ++ t)) x f in
      let read = number_read 4294967295 (p ++ t) x.0 x.1 (omega arith) a.0 in
      absurd (elim (cases_lt (length t) (length x.1)) [
        | inl inside ↦ (let h = like_ok t s (digits_at 4294967295 (p ++ t)) (digits_at 4294967295 (p ++ s)) x a.0 (digits_at_like 4294967295 p t s) inside in
            no_ok (x.0, h.0 ++ s) left (sym (number_by scope of x.0 least (p ++ s) (h.0 ++ s) h.2 a.1 a.2) ∙ e))
        | inr out ↦ (let same : left_of_number scope of least 0 (p ++ s) ≡ left = accepted_err (digits_at 4294967295 (p ++ s)) (left_of_number scope of least 0 (p ++ s)) left e in
            omega (arith, c, same, passes_all p s t x.0 x.1 a.2 (leb-true least x.0 a.1) read.small a.0 out))
      ])

  pub number_local : (m n : ℕ) → Local m n at at
  number_local m n = record { bound = number_bound; like = λ p s t a d c. number_like_by p s t (at (p ++ s)) (at (p ++ t)) refl refl c }

-- hexadecimal digits
digit_made_bound : (o : Option ℕ) (b : ℕ) (bytes : List ℕ) → left_of (digit_by o b bytes) ≤ suc (length bytes)
digit_made_bound None b bytes = omega arith
digit_made_bound (Some v) b bytes = omega arith

digit_bound : (bytes : List ℕ) → left_of (digit_at bytes) ≤ length bytes
digit_bound [] = omega arith
digit_bound (b ∷ bytes) = digit_made_bound (hex_value b) b bytes

digit_made_like : (o : Option ℕ) (b : ℕ) (p s t : List ℕ) → Like s t (digit_by o b (p ++ s)) (digit_by o b (p ++ t))
digit_made_like None b p s t = (suc (length (p ++ t)), refl)
digit_made_like (Some v) b p s t = (p, refl, refl)

digit_local : (m n : ℕ) → Local m n digit_at digit_at
digit_local m n = local_from digit_at digit_at m n digit_bound (λ c p s t a d e. digit_made_like (hex_value c) c p s t)

pub byte_local : (m n : ℕ) → Local m n byte_at byte_at
unfolding byte_at
byte_local m n = then_on (λ high b. digit_at b >>= λ low. Ok (16 * high + low.0, low.1)) (λ high b. digit_at b >>= λ low. Ok (16 * high + low.0, low.1)) digit_at digit_at m n (digit_local m n)
    (λ high. then_on (λ low b. Ok (16 * high + low, b)) (λ low b. Ok (16 * high + low, b)) digit_at digit_at m n (digit_local m n) (λ low. just m n (16 * high + low)))

byte_consumes : Consumes 1 byte_at
byte_consumes bytes x e =
    let h = byte_spelled bytes x.0 x.1 e in
    omega (arith, ap length h.0)

-- strings
string_turn_bound : (o : Option (List ℕ)) (made bytes : List ℕ) (more : Read (List ℕ)) → ((rest : List ℕ) → o ≡ Some rest → length rest ≤ length bytes) → left_of more ≤ length bytes → left_of (string_step o made more) ≤ length bytes
string_turn_bound None made bytes more h b = b
string_turn_bound (Some rest) made bytes more h b = h rest refl

string_bound : (k : ℕ) (made bytes : List ℕ) → left_of (string_at k made bytes) ≤ length bytes
unfolding string_at
string_bound zero made bytes = omega arith
string_bound (suc k) made bytes =
    string_turn_bound (behind 34 bytes) made bytes (byte_at bytes >>= λ x. string_at k (made ++ x.0 ∷ []) x.1) (λ rest o. omega (arith, ap length (behind_spelled 34 bytes rest o)))
    (after_bound (λ x. string_at k (made ++ x ∷ [])) (λ x. string_at k (made ++ x ∷ [])) bytes (byte_at bytes) ((byte_local 0 0).bound bytes) (λ x rest. string_bound k (made ++ x ∷ []) rest))

string_local : (k i : ℕ) (made : List ℕ) → Local k i (string_at k made) (string_at i made)
unfolding string_at
string_local zero i made = record { bound = string_bound zero made; like = λ p s t a d c. absurd (omega (arith, a, c)) }
string_local (suc k) zero made = record { bound = string_bound (suc k) made; like = λ p s t a d c. absurd (omega (arith, d, c, string_bound (suc k) made (p ++ s), length-append p s, length-append p t)) }
string_local (suc k) (suc i) made = local_from (string_at (suc k) made) (string_at (suc i) made) (suc k) (suc i) (string_bound (suc k) made) (λ c p s t a d e. elim (cases_Bool (c == 34)) [
  | inl holds ↦ rw holds (p, refl, refl)
  | inr fails ↦ rw fails (after_like (λ x. string_at k (made ++ x ∷ [])) (λ x. string_at i (made ++ x ∷ [])) 1 k i (c ∷ p) s t (byte_at (c ∷ (p ++ s))) (byte_at (c ∷ (p ++ t))) (byte_consumes (c ∷ (p ++ s)))
      ((byte_local (suc k) (suc i)).like (c ∷ p) s t a d) (λ x. string_local k i (made ++ x ∷ [])) (omega (arith, a)) (omega (arith, d)) (rw fails at e))
])

pub whole_string_local : (m n : ℕ) → Local m n (λ b. string_at (length b) [] b) (λ b. string_at (length b) [] b)
whole_string_local m n = record { bound = λ bytes. string_bound (length bytes) [] bytes; like = λ p s t a d c. (string_local (length (p ++ s)) (length (p ++ t)) []).like p s t (omega arith) (omega arith) c }

-- integers
negative_local : (m n : ℕ) → Local m n negative_at negative_at
unfolding negative_at
negative_local m n = then_on (λ x b. Ok (negsuc (x - 1), b)) (λ x b. Ok (negsuc (x - 1), b)) (digits_at 9223372036854775808) (digits_at 9223372036854775808) m n (digits_local 9223372036854775808 m n) (λ x. just m n (negsuc (x - 1)))

positive_local : (m n : ℕ) → Local m n positive_at positive_at
positive_local m n = then_on (λ x b. Ok (pos x, b)) (λ x b. Ok (pos x, b)) (digits_at 9223372036854775807) (digits_at 9223372036854775807) m n (digits_local 9223372036854775807 m n) (λ x. just m n (pos x))

integer_bound : (bytes : List ℕ) → left_of (integer_at bytes) ≤ length bytes
unfolding integer_at
integer_bound [] = omega arith
integer_bound (b ∷ bytes) = elim (cases_Bool (b == 48)) [
  | inl holds ↦ rw holds (omega arith)
  | inr fails ↦ rw fails (elim (cases_Bool (b == 45)) [ inl holds ↦ rw holds (omega (arith, (negative_local 0 0).bound bytes)) | inr other ↦ rw other ((positive_local 0 0).bound (b ∷ bytes)) ])
]

pub integer_local : (m n : ℕ) → Local m n integer_at integer_at
unfolding integer_at
integer_local m n = local_from integer_at integer_at m n integer_bound (λ c p s t a d e. elim (cases_Bool (c == 48)) [
  | inl holds ↦ rw holds (p, refl, refl)
  | inr fails ↦ (let now : length s < left_of (if c == 45 then negative_at (p ++ s) else positive_at (c ∷ (p ++ s))) = rw fails at e in
      rw fails (elim (cases_Bool (c == 45)) [
        | inl holds ↦ rw holds ((negative_local m n).like p s t (omega (arith, a)) (omega (arith, d)) (rw holds at now))
        | inr other ↦ rw other ((positive_local m n).like (c ∷ p) s t a d (rw other at now))
      ]))
])
