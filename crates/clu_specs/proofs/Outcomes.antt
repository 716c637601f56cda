-- What is known where a reader has read something.
use Rattle.std.proofs.Common.{◌≡◌, ℕ, zero, suc, ◌==◌, ◌⊎◌, Bool, true, false, List, [], ◌∷◌, ◌++◌, length, Option, Some, None, Result, Ok, Err, if◌then◌else◌, refl, ap, subst, ◌∙◌, arith, inl, inr}
use Rattle.std.proofs.lemmas.Bool.{eqb-true}
use Rattle.clu_specs.specs.Reading.{◌>>=◌, Read, literal_at, behind, end_at, go_on, several}

-- a value with the bytes after it is another
abbrev pub SameRead : (A : Type 0) → A × List ℕ → A × List ℕ → Type 0
SameRead A x y = x ≡ y

pub and_then : {A B : Type 0} (r : Result A ℕ) (f : A → Result B ℕ) (y : B) → (r >>= f) ≡ Ok y → (x : A) × (r ≡ Ok x) × (f x ≡ Ok y)
and_then (Ok x) f y e = (x, refl, e)
and_then (Err left) f y e = absurd (cc)

pub ok_same : {A : Type 0} (r : Result A ℕ) (x y : A) → r ≡ Ok x → r ≡ Ok y → x ≡ y
ok_same r x y p q = cc

-- refused where a test holds, or where it fails
pub not_refused : {A : Type 0} (c : Bool) (left : ℕ) (r : Result A ℕ) (y : A) → (if c then Err left else r) ≡ Ok y → (c ≡ false) × (r ≡ Ok y)
not_refused true left r y e = absurd (cc)
not_refused false left r y e = (refl, e)

pub passed : {A : Type 0} (c : Bool) (left : ℕ) (r : Result A ℕ) (y : A) → (if c then r else Err left) ≡ Ok y → (c ≡ true) × (r ≡ Ok y)
passed true left r y e = (refl, e)
passed false left r y e = absurd (cc)

pub found : {A : Type 0} (c : Bool) (x y : A) → (if c then Some x else None) ≡ Some y → (c ≡ true) × (x ≡ y)
found true x y e = (refl, cc)
found false x y e = absurd (cc)

pub either : {A : Type 0} (c : Bool) (x y z : A) → (if c then x else y) ≡ z → ((c ≡ true) × (x ≡ z)) ⊎ ((c ≡ false) × (y ≡ z))
either true x y z e = inl (refl, e)
either false x y z e = inr (refl, e)

pub literal_spelled : (fixed bytes rest : List ℕ) → literal_at fixed bytes ≡ Ok rest → bytes ≡ fixed ++ rest
unfolding literal_at
literal_spelled [] bytes rest e = cc
literal_spelled (m ∷ fixed) [] rest e = absurd (cc)
literal_spelled (m ∷ fixed) (b ∷ bytes) rest e =
    let h = passed (b == m) (suc (length bytes)) (literal_at fixed bytes) rest e in
    let same : b ≡ m = eqb-true b m h.0 in
    let more : bytes ≡ fixed ++ rest = literal_spelled fixed bytes rest h.1 in
    cc

pub behind_spelled : (m : ℕ) (bytes rest : List ℕ) → behind m bytes ≡ Some rest → bytes ≡ m ∷ rest
behind_spelled m [] rest e = absurd (cc)
behind_spelled m (b ∷ bytes) rest e =
    let h = found (b == m) bytes rest e in
    let same : b ≡ m = eqb-true b m h.0 in
    cc

-- a value, and a mark after its text
abbrev pub closing : {A : Type 0} → ℕ → A → List ℕ → Read A
closing m x bytes = literal_at (m ∷ []) bytes >>= λ rest. Ok (x, rest)

pub closed_spelled : {A : Type 0} (m : ℕ) (x : A) (bytes : List ℕ) (y : A) (rest : List ℕ) → closing m x bytes ≡ Ok (y, rest) → (x ≡ y) × (bytes ≡ m ∷ rest)
closed_spelled {A} m x bytes y rest e =
    let h = and_then (literal_at (m ∷ []) bytes) (λ (rest : List ℕ). Ok (x, rest)) (y, rest) e in
    let same : (x, h.0) ≡ (y, rest) = ok_same (Ok (x, h.0)) (x, h.0) (y, rest) refl h.2 in
    (ap (λ (p : A × List ℕ). p.0) same, literal_spelled (m ∷ []) bytes h.0 h.1 ∙ ap (λ (p : A × List ℕ). m ∷ p.1) same)

pub none_left : (bytes : List ℕ) → (length bytes == 0) ≡ true → bytes ≡ []
none_left [] e = refl
none_left (b ∷ bytes) e = absurd (omega (arith, eqb-true (length (b ∷ bytes)) 0 e))

pub ended_spelled : {A : Type 0} (x : A) (bytes : List ℕ) (y : A) → end_at x bytes ≡ Ok y → (x ≡ y) × (bytes ≡ [])
ended_spelled x bytes y e =
    let h = passed (length bytes == 0) (length bytes) (Ok x) y e in
    (cc, none_left bytes h.0)

went_on : {A : Type 0} (o : Option (List ℕ)) (x : A × List ℕ) (more : List ℕ → Read A) (y : A × List ℕ) → go_on o x more ≡ Ok y → ((o ≡ None) × (x ≡ y)) ⊎ ((rest : List ℕ) × (o ≡ Some rest) × (more rest ≡ Ok y))
went_on None x more y e = inl (refl, cc)
went_on (Some rest) x more y e = inr (rest, refl, e)

-- items in a row: what holds before each and after each
module _ {A : Type 0} (step : A → List ℕ → Read A) (next : A → List ℕ → Option (List ℕ)) (Before After : A → List ℕ → Type 0)
    (on : (made : A) (bytes : List ℕ) (more : A) (after : List ℕ) → Before made bytes → step made bytes ≡ Ok (more, after) → After more after)
    (again : (made : A) (bytes rest : List ℕ) → After made bytes → next made bytes ≡ Some rest → Before made rest) where
  pub row_spelled : (n : ℕ) (made : A) (bytes : List ℕ) (last : A) (rest : List ℕ) → Before made bytes → several step next n made bytes ≡ Ok (last, rest) → After last rest
  unfolding several
  row_spelled zero made bytes last rest b e = absurd (cc)
  row_spelled (suc n) made bytes last rest b e =
      let s = and_then (step made bytes) (λ (x : A × List ℕ). go_on (next x.0 x.1) x (λ rest. several step next n x.0 rest)) (last, rest) e in
      let here : After s.0.0 s.0.1 = on made bytes s.0.0 s.0.1 b s.1 in
      elim (went_on (next s.0.0 s.0.1) s.0 (λ rest. several step next n s.0.0 rest) (last, rest) s.2) [
        | inl h ↦ subst (λ (x : A × List ℕ). After x.0 x.1) h.1 here
        | inr h ↦ row_spelled n s.0.0 h.0 last rest (again s.0.0 s.0.1 h.0 here h.1) h.2
      ]
