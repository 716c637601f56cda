-- Where a text is refused, the bytes before that begin a text of its sort.
use Rattle.std.proofs.Common.{◌≡◌, ℕ, zero, suc, ◌⊎◌, ◌==◌, List, [], ◌∷◌, ◌++◌, length, Option, Some, None, Result, Ok, Err, refl, sym, ap, subst, ◌∙◌, append_assoc, inl, inr}
use Rattle.std.proofs.lemmas.Bool.{eqb-true}
use Rattle.clu_specs.specs.Reading.{◌>>=◌, Read, literal_at, go_on, several, end_at}
use Rattle.clu_specs.proofs.Outcomes.{either, literal_spelled, closing}

-- the front of a text that is refused with so many bytes left, and what it begins
pub record Front (Begins : List ℕ → Type 0) (bytes : List ℕ) (left : ℕ) : Type 0 where
  pub front : List ℕ
  pub back : List ℕ
  pub whole : bytes ≡ front ++ back
  pub rest : length back ≡ left
  pub begun : Begins front

-- each refusal of the reader
abbrev pub Fronts : {A : Type 0} → (List ℕ → Type 0) → (List ℕ → Result A ℕ) → Type 0
Fronts Begins one = (bytes : List ℕ) (left : ℕ) → one bytes ≡ Err left → Front Begins bytes left

pub same_left : {A : Type 0} (r : Result A ℕ) (left at : ℕ) → r ≡ Err left → r ≡ Err at → left ≡ at
same_left r left at p q = cc

pub never : {A : Type 0} (x : A) (left : ℕ) → Ok x ≡ Err left → ⊥
never x left e = cc

-- refused at once
pub at_once : {Begins : List ℕ → Type 0} (bytes : List ℕ) (left : ℕ) → length bytes ≡ left → Begins [] → Front Begins bytes left
at_once bytes left e b = record { front = []; back = bytes; whole = refl; rest = e; begun = b }

-- after a text that was read
pub front_on : {In Out : List ℕ → Type 0} (u bytes rest : List ℕ) (left : ℕ) → bytes ≡ u ++ rest → Front In rest left → ((q : List ℕ) → In q → Out (u ++ q)) → Front Out bytes left
front_on u bytes rest left e s f = record {
  front = u ++ s.front;
  back = s.back;
  whole = e ∙ ap (λ (x : List ℕ). u ++ x) s.whole ∙ sym (append_assoc u s.front s.back);
  rest = s.rest;
  begun = f s.front s.begun;
}

pub front_as : {In Out : List ℕ → Type 0} (bytes : List ℕ) (left : ℕ) → Front In bytes left → ((q : List ℕ) → In q → Out q) → Front Out bytes left
front_as bytes left s f = record { front = s.front; back = s.back; whole = s.whole; rest = s.rest; begun = f s.front s.begun }

-- a step that was refused, or one after it
pub and_fails : {A B : Type 0} (r : Result A ℕ) (f : A → Result B ℕ) (left : ℕ) → (r >>= f) ≡ Err left → (r ≡ Err left) ⊎ ((x : A) × (r ≡ Ok x) × (f x ≡ Err left))
and_fails {A} {B} (Err at) f left e = let same : at ≡ left = same_left {A = B} (Err at) at left refl e in inl (rw same refl)
and_fails (Ok x) f left e = inr (x, refl, e)

-- a text goes on after the front
pub shown : (u inner tail q rest : List ℕ) → inner ≡ q ++ rest → u ++ (inner ++ tail) ≡ (u ++ q) ++ (rest ++ tail)
shown u inner tail q rest e = ap (λ (x : List ℕ). u ++ (x ++ tail)) e ∙ simp append_assoc

pub shown_on : (u inner q rest : List ℕ) → inner ≡ q ++ rest → u ++ inner ≡ (u ++ q) ++ rest
shown_on u inner q rest e = ap (λ (x : List ℕ). u ++ x) e ∙ sym (append_assoc u q rest)

pub shown_before : (inner tail q rest : List ℕ) → inner ≡ q ++ rest → inner ++ tail ≡ q ++ (rest ++ tail)
shown_before inner tail q rest e = ap (λ (x : List ℕ). x ++ tail) e ∙ append_assoc q rest tail

-- a fixed part
abbrev pub Part : List ℕ → List ℕ → Type 0
Part fixed q = (more : List ℕ) × (fixed ≡ q ++ more)

pub literal_front : (fixed : List ℕ) → Fronts (Part fixed) (literal_at fixed)
unfolding literal_at
literal_front [] bytes left e = absurd (never bytes left e)
literal_front (m ∷ fixed) [] left e = at_once [] left (same_left {A = List ℕ} (Err 0) 0 left refl e) (m ∷ fixed, refl)
literal_front (m ∷ fixed) (b ∷ bytes) left e =
    elim (either (b == m) (literal_at fixed bytes) (Err (suc (length bytes))) (Err left) e) [
      | inl h ↦ (let same : b ≡ m = eqb-true b m h.0 in
          front_on (m ∷ []) (b ∷ bytes) bytes left (ap (λ (x : ℕ). x ∷ bytes) same) (literal_front fixed bytes left h.1) (λ q part. (part.0, ap (λ (x : List ℕ). m ∷ x) part.1)))
      | inr h ↦ at_once (b ∷ bytes) left (same_left {A = List ℕ} (Err (suc (length bytes))) (suc (length bytes)) left refl h.1) (m ∷ fixed, refl)
    ]

pub closing_front : {A : Type 0} (m : ℕ) (x : A) → Fronts (Part (m ∷ [])) (closing m x)
closing_front {A} m x bytes left e =
    elim (and_fails (literal_at (m ∷ []) bytes) (λ (rest : List ℕ). Ok (x, rest)) left e) [
      | inl h ↦ literal_front (m ∷ []) bytes left h
      | inr h ↦ absurd (never (x, h.0) left h.2)
    ]

-- a fixed part, and then a reader
module _ {B : Type 0} (f : List ℕ → Result B ℕ) where
  pub fixed_front : {In Out : List ℕ → Type 0} (fixed : List ℕ) → Fronts In f → ((q : List ℕ) → Part fixed q → Out q) → ((q : List ℕ) → In q → Out (fixed ++ q)) → Fronts Out (λ b. literal_at fixed b >>= f)
  fixed_front fixed inside part on bytes left e =
      elim (and_fails (literal_at fixed bytes) f left e) [
        | inl h ↦ front_as bytes left (literal_front fixed bytes left h) part
        | inr h ↦ front_on fixed bytes h.0 left (literal_spelled fixed bytes h.0 h.1) (inside h.0 left h.2) on
      ]

-- nothing more may follow
pub ended_front : {A : Type 0} (x : A) (bytes : List ℕ) (left : ℕ) → end_at x bytes ≡ Err left → length bytes ≡ left
ended_front x bytes left e =
    elim (either (length bytes == 0) (Ok x) (Err (length bytes)) (Err left) e) [ inl h ↦ absurd (never x left h.1) | inr h ↦ same_left (Err (length bytes)) (length bytes) left refl h.1 ]

goes_wrong : {A : Type 0} (o : Option (List ℕ)) (x : A × List ℕ) (more : List ℕ → Read A) (left : ℕ) → go_on o x more ≡ Err left → (rest : List ℕ) × (o ≡ Some rest) × (more rest ≡ Err left)
goes_wrong None x more left e = absurd (never x left e)
goes_wrong (Some rest) x more left e = (rest, refl, e)

-- items in a row: what holds before each and after each, and what comes of a refusal
module _ {A : Type 0} (step : A → List ℕ → Read A) (next : A → List ℕ → Option (List ℕ)) (Before After : A → List ℕ → Type 0) (Goal : ℕ → Type 0)
    (on : (made : A) (bytes : List ℕ) (more : A) (after : List ℕ) → Before made bytes → step made bytes ≡ Ok (more, after) → After more after)
    (again : (made : A) (bytes rest : List ℕ) → After made bytes → next made bytes ≡ Some rest → Before made rest)
    (fails : (made : A) (bytes : List ℕ) (left : ℕ) → Before made bytes → step made bytes ≡ Err left → Goal left)
    (out : (made : A) (bytes : List ℕ) → Before made bytes → Goal (length bytes)) where
  pub row_front : (n : ℕ) (made : A) (bytes : List ℕ) (left : ℕ) → Before made bytes → several step next n made bytes ≡ Err left → Goal left
  unfolding several
  row_front zero made bytes left b e = subst Goal (same_left {A = A × List ℕ} (Err (length bytes)) (length bytes) left refl e) (out made bytes b)
  row_front (suc n) made bytes left b e =
      elim (and_fails (step made bytes) (λ (x : A × List ℕ). go_on (next x.0 x.1) x (λ rest. several step next n x.0 rest)) left e) [
        | inl h ↦ fails made bytes left b h
        | inr h ↦ (let here : After h.0.0 h.0.1 = on made bytes h.0.0 h.0.1 b h.1 in
            let g = goes_wrong (next h.0.0 h.0.1) h.0 (λ rest. several step next n h.0.0 rest) left h.2 in
            row_front n h.0.0 g.0 left (again h.0.0 h.0.1 g.0 here g.1) g.2)
      ]
