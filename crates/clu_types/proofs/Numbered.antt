-- A list of terms stays numbered when a new one comes behind the others.
use Rattle.std.proofs.Common.{◌≡◌, ℕ, suc, zero, Bool, true, false, List, [], ◌∷◌, ◌++◌, length, Some, None, refl, ap, sym, ◌∙◌, slice_get, ◌⊎◌, inl, inr, cond, subst, ◌<◌, arith, length-append}
use Rattle.std.specs.HashMap.{HashMap, get, IsEmpty, IsUnchanged, Updates}
use Rattle.clu_types.specs.declared.term.Term.{Term}
use Rattle.clu_types.specs.contracts.term.TermPartialEq.TheImpl as terms
use Rattle.std.proofs.lemmas.Option.{slice_get_within}
use Rattle.clu_types.specs.Interned.{AreNumbered, IsAddedTo, IsNew}
use Rattle.clu_types.proofs.Equality.{same_term}

abbrev same : Term → Term → Bool
same = (terms.ghosts).eq

lookup_empty : {S : Type 0} (m : HashMap Term ℕ S) (t : Term) → IsEmpty m → get same m t ≡ None
lookup_empty m t empty = rw empty refl

pub none_numbered : {S : Type 0} (m : HashMap Term ℕ S) → IsEmpty m → AreNumbered m []
none_numbered m empty = record { told = told; known = known }
  where
    told : (t : Term) (n : ℕ) → get same m t ≡ Some n → slice_get [] n ≡ Some t
    told t n e = let none = lookup_empty m t empty in cc

    known : (t : Term) (n : ℕ) → slice_get [] n ≡ Some t → get same m t ≡ Some n
    known t n e = cc

get_unchanged : {S : Type 0} (m n : HashMap Term ℕ S) (t : Term) → IsUnchanged m n → get same n t ≡ get same m t
get_unchanged m n t e = rw e refl

pub same_numbered : {S : Type 0} (m : HashMap Term ℕ S) (old new : List Term) → new ≡ old → AreNumbered m old → AreNumbered m new
same_numbered m old new is a = subst (AreNumbered m) (sym is) a

pub kept_numbered : {S : Type 0} (m n : HashMap Term ℕ S) (old new : List Term) → IsUnchanged m n → new ≡ old → AreNumbered m old → AreNumbered n new
kept_numbered m n old new e is a =
    same_numbered n old new is
    (record { told = λ t k is. a.told t k (sym (get_unchanged m n t e) ∙ is); known = λ t k is. get_unchanged m n t e ∙ a.known t k is })

-- the last of a list, those before it, and no others
pub last_of : (list : List Term) (t : Term) → slice_get (list ++ t ∷ []) (length list) ≡ Some t
last_of [] t = refl
last_of (x ∷ xs) t = last_of xs t

before_last : (list : List Term) (t x : Term) (k : ℕ) → slice_get list k ≡ Some x → slice_get (list ++ t ∷ []) k ≡ Some x
before_last [] t x k e = cc
before_last (y ∷ ys) t x zero e = e
before_last (y ∷ ys) t x (suc k) e = before_last ys t x k e

last_or_before : (list : List Term) (t x : Term) (k : ℕ) → slice_get (list ++ t ∷ []) k ≡ Some x → (slice_get list k ≡ Some x) ⊎ ((k ≡ length list) × (t ≡ x))
last_or_before [] t x zero e = inr (refl, cc)
last_or_before [] t x (suc k) e = cc
last_or_before (y ∷ ys) t x zero e = inl e
last_or_before (y ∷ ys) t x (suc k) e = elim (last_or_before ys t x k e) [ inl h ↦ inl h | inr h ↦ inr (ap suc h.0, h.1) ]

pub add_numbered : {S : Type 0} (m n : HashMap Term ℕ S) (list : List Term) (t : Term)
    → Updates same m n t (Some (length list)) → IsNew list t → AreNumbered m list → AreNumbered n (list ++ t ∷ [])
add_numbered m n list t updates fresh a = record { told = told; known = known }
  where
    put : (x : Term) (b : Bool) → same t x ≡ b → get same n x ≡ cond b (Some (length list)) (get same m x)
    put x b is = updates.0 x ∙ ap (λ (c : Bool). cond c (Some (length list)) (get same m x)) is

    told_by : (x : Term) (k : ℕ) (b : Bool) → same t x ≡ b → get same n x ≡ Some k → slice_get (list ++ t ∷ []) k ≡ Some x
    told_by x k true is e =
        let there : get same n x ≡ Some (length list) = put x true is in
        let long : length list ≡ k = cc in
        let equal : t ≡ x = (same_term t x).0 is in
        ap (slice_get (list ++ t ∷ [])) (sym long) ∙ last_of list t ∙ ap Some equal
    told_by x k false is e = before_last list t x k (a.told x k (sym (put x false is) ∙ e))

    told : (x : Term) (k : ℕ) → get same n x ≡ Some k → slice_get (list ++ t ∷ []) k ≡ Some x
    told x k e = told_by x k (same t x) refl e

    known_before : (x : Term) (k : ℕ) (b : Bool) → same t x ≡ b → slice_get list k ≡ Some x → get same n x ≡ Some k
    known_before x k true is e = absurd (fresh k (e ∙ ap Some (sym ((same_term t x).0 is))))
    known_before x k false is e = put x false is ∙ a.known x k e

    known : (x : Term) (k : ℕ) → slice_get (list ++ t ∷ []) k ≡ Some x → get same n x ≡ Some k
    known x k e =
        elim (last_or_before list t x k e) [
          | inl h ↦ known_before x k (same t x) refl h
          | inr h ↦ put x true ((same_term t x).1 h.1) ∙ ap Some (sym h.0)
        ]

-- what is known of the list once a copy of a new term has come behind the others
module _ (old new : List Term) (t copied : Term) (number : ℕ) (long : number ≡ length old) (is : copied ≡ t) (behind : new ≡ old ++ copied ∷ []) where
  with_term : new ≡ old ++ t ∷ []
  with_term = behind ∙ ap (λ (x : Term). old ++ x ∷ []) is

  pub added_numbered : {S : Type 0} (m n : HashMap Term ℕ S) → Updates same m n t (Some number) → IsNew old t → AreNumbered m old → AreNumbered n new
  added_numbered m n updates fresh a =
      let told : Updates same m n t (Some (length old)) = subst (λ (k : ℕ). Updates same m n t (Some k)) long updates in
      same_numbered n (old ++ t ∷ []) new with_term (add_numbered m n old t told fresh a)

  pub added_found : slice_get new number ≡ Some t
  added_found = rw long (rw with_term (last_of old t))

  pub added_within : number < length new
  added_within = omega (arith, long, ap length with_term, length-append old (t ∷ []))

  pub added_to : IsNew old t → IsAddedTo old new t
  added_to fresh = inr (with_term, fresh)

-- a term that the map does not have is new
pub not_known : {S : Type 0} (m : HashMap Term ℕ S) (list : List Term) (t : Term) → AreNumbered m list → get same m t ≡ None → IsNew list t
not_known m list t a none n e = let there = a.known t n e in cc

-- a term that the map has is there
pub known_found : {S : Type 0} (m : HashMap Term ℕ S) (list : List Term) (t : Term) (n : ℕ) → AreNumbered m list → get same m t ≡ Some n → slice_get list n ≡ Some t
known_found m list t n a is = a.told t n is

pub known_within : {S : Type 0} (m : HashMap Term ℕ S) (list : List Term) (t : Term) (n : ℕ) → AreNumbered m list → get same m t ≡ Some n → n < length list
known_within m list t n a is = slice_get_within list n t (a.told t n is)

pub ruleset numbered = (none_numbered, same_numbered, kept_numbered, added_numbered, added_found, added_within, added_to, not_known, known_found, known_within)
