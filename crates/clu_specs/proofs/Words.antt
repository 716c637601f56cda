-- Names at the front of a text: what is written of a name is read again.
use Rattle.std.proofs.Common.{◌≡◌, ℕ, zero, suc, ◌<◌, ◌≤◌, Bool, true, false, ◌⊎◌, ◌==◌, nat_lt, List, [], ◌∷◌, ◌++◌, length, take, drop, Option, Some, None, is_some, Ok, if◌then◌else◌, refl, ap, ◌∙◌, arith, inl, inr}
use Rattle.std.proofs.lemmas.Bool.{lt-ltb, le-ltb, ltb-true, eqb-true, cases_lt}
use Rattle.std.proofs.Math.Seq.{take-append_seam, drop-append_seam}
use Rattle.clu_specs.specs.Names.{goes_on_name, word_len, first_word, behind_word, is_named, is_reserved, is_before, below_z, last_below_z, shared_with_later, has_later, name_after}
use Rattle.clu_specs.specs.Grammar.{IsName}

-- a test that counts
counted : (c : Bool) (n m : ℕ) → (if c then suc n else 0) ≡ suc m → (c ≡ true) × (n ≡ m)
counted true n m e = (refl, omega (arith, e))
counted false n m e = absurd (omega (arith, e))

pub word_goes_on : (b : ℕ) (bytes : List ℕ) → word_len (b ∷ bytes) ≡ length (b ∷ bytes) → (goes_on_name b ≡ true) × (word_len bytes ≡ length bytes)
word_goes_on b bytes e = counted (goes_on_name b) (word_len bytes) (length bytes) e

pub word_ends : (name rest : List ℕ) → word_len name ≡ length name → word_len rest ≡ 0 → word_len (name ++ rest) ≡ length name
word_ends [] rest e r = r
word_ends (b ∷ name) rest e r =
    let h = word_goes_on b name e in
    let more : word_len (name ++ rest) ≡ length name = word_ends name rest h.1 r in
    rw (h.0, more) refl

module _ (name rest : List ℕ) (e : word_len name ≡ length name) (r : word_len rest ≡ 0) where
  pub word_first : first_word (name ++ rest) ≡ name
  word_first = ap (λ (n : ℕ). take n (name ++ rest)) (word_ends name rest e r) ∙ take-append_seam name rest

  pub word_behind : behind_word (name ++ rest) ≡ rest
  word_behind = ap (λ (n : ℕ). drop n (name ++ rest)) (word_ends name rest e r) ∙ drop-append_seam name rest

pub take_all : (limit : ℕ) (name : List ℕ) → length name ≤ limit → take limit name ≡ name
take_all zero [] le = refl
take_all (suc limit) [] le = refl
take_all zero (b ∷ name) le = absurd (omega (arith, le))
take_all (suc limit) (b ∷ name) le = ap (λ (x : List ℕ). b ∷ x) (take_all limit name (omega (arith, le)))

name_by : (previous bytes word rest : List ℕ) (limit : ℕ) → first_word bytes ≡ word → behind_word bytes ≡ rest → take limit word ≡ word → is_named word ≡ true → is_before previous word ≡ true
    → nat_lt limit (length word) ≡ false → is_reserved word ≡ false → name_after previous limit bytes ≡ Ok (word, rest)
unfolding name_after
name_by previous bytes word rest limit f g t n b l r = rw (f, g, t, n, b, l, r) refl

pub name_again : (previous name rest : List ℕ) (limit : ℕ) → IsName limit name → is_before previous name ≡ true → word_len rest ≡ 0 → name_after previous limit (name ++ rest) ≡ Ok (name, rest)
name_again previous name rest limit n b r =
    name_by previous (name ++ rest) name rest limit (word_first name rest n.goes_on r) (word_behind name rest n.goes_on r) (take_all limit name n.short) n.begins b
    (le-ltb limit (length name) n.short) n.free

-- z is the greatest byte of a name
pub byte_small : (b : ℕ) → goes_on_name b ≡ true → b ≤ 122
byte_small b e = grind arith

below_some : (b : ℕ) (more : Option ℕ) → is_some more ≡ true → is_some (below_z b more) ≡ true
below_some b None e = absurd (cc)
below_some b (Some i) e = refl

below_less : (b : ℕ) (more : Option ℕ) → b < 122 → is_some (below_z b more) ≡ true
below_less b None lt = rw (lt-ltb b 122 lt) refl
below_less b (Some i) lt = refl

pub chosen : {X : Type 0} (c : Bool) (x y z : X) → (if c then x else y) ≡ z → ((c ≡ true) × (x ≡ z)) ⊎ ((c ≡ false) × (y ≡ z))
chosen true x y z e = inl (refl, e)
chosen false x y z e = inr (refl, e)

pub before_cons : (x y : ℕ) (a b : List ℕ) → is_before (x ∷ a) (y ∷ b) ≡ true → ((x ≡ y) × (is_before a b ≡ true)) ⊎ (x < y)
before_cons x y a b e = elim (chosen (x == y) (is_before a b) (nat_lt x y) true e) [ inl h ↦ inl (eqb-true x y h.0, h.1) | inr h ↦ inr (ltb-true x y h.1) ]

-- where a name comes after another of the greatest length, a byte of this can be replaced by a greater one
last_some : (a b : List ℕ) → is_before a b ≡ true → length b ≤ length a → word_len b ≡ length b → is_some (last_below_z a) ≡ true
last_some a [] e le w = absurd (cc)
last_some [] (y ∷ b) e le w = absurd (omega (arith, le))
last_some (x ∷ a) (y ∷ b) e le w =
    let h = word_goes_on y b w in
    elim (before_cons x y a b e) [
      | inl same ↦ below_some x (last_below_z a) (last_some a b same.1 (omega (arith, le)) h.1)
      | inr less ↦ below_less x (last_below_z a) (omega (arith, less, byte_small y h.0))
    ]

pub later_some : (name later : List ℕ) → IsName 200 name → IsName 200 later → is_before name later ≡ true → has_later name ≡ true
unfolding shared_with_later
later_some name later n l b = elim (cases_lt (length name) 200) [
  | inl short ↦ rw (lt-ltb (length name) 200 short) refl
  | inr long ↦ rw (le-ltb (length name) 200 long) (last_some name later b (omega (arith, l.short, long)) l.goes_on)
]
