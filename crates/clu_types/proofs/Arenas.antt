-- Arenas: numbers keep their type while an arena grows, and different numbers have different types.
use Rattle.std.proofs.Common.{◌≡◌, ℕ, ◌+◌, ◌<◌, ◌≤◌, suc, zero, Bool, true, false, List, [], ◌∷◌, ◌++◌, length, fold, take, drop, get_or, Some, refl, ap, sym, ◌∙◌, subst, arith, append_assoc, length-append, slice_get, ◌⊎◌, inl, inr, IsTrue}
use borrow.Author.Tests.{ltb-true, ltb-false}
use Rattle.std.proofs.Math.Dec.{ltb}
use Rattle.std.specs.Bool.{Decides}
use Rattle.std.proofs.lemmas.List.{append-nil, length-take, take_more, get_or-take}
use Rattle.std.proofs.lemmas.List.Sums.{fold-append}
use Rattle.std.proofs.lemmas.Option.{get_or_from_slice_get, slice_get-get_or}
use Rattle.std.proofs.Math.ListN.{get_or-append}
use Rattle.std.proofs.Math.Seq.{get_or-append_seam, split_at}
use Rattle.clu_types.specs.Interned.{IsAddedTo}
use Rattle.clu_types.specs.CluType.{CluType, null_type}
use Rattle.clu_types.specs.Arena.{type_at, type_of, types_of, PartsBelow, IsArena, Grows}
use Rattle.clu_types.specs.declared.term.TypeId.{TypeId}
use Rattle.clu_types.specs.declared.term.Term.{Term}
use Rattle.clu_types.specs.declared.term.Term.TheVariants as term
use Rattle.clu_types.proofs.Parts.{parts_more, type_same, term_back}

abbrev pub number : ℕ → TypeId
number n = record { 0 = n }

same_number : (a b : TypeId) → a.0 ≡ b.0 → a ≡ b
same_number a b e = ap number e

abbrev step : List CluType → Term → List CluType
step types t = types ++ type_of types t ∷ []

pub types_of-push : (ts : List Term) (t : Term) → types_of (ts ++ t ∷ []) ≡ types_of ts ++ type_of (types_of ts) t ∷ []
unfolding types_of
types_of-push ts t = fold-append step [] ts (t ∷ [])

length-steps : (ks : List CluType) (ts : List Term) → length (fold step ks ts) ≡ length ks + length ts
length-steps ks [] = omega arith
length-steps ks (t ∷ ts) = omega (arith, length-steps (step ks t) ts, length-append ks (type_of ks t ∷ []))

pub length-types_of : (ts : List Term) → length (types_of ts) ≡ length ts
unfolding types_of
length-types_of ts = omega (arith, length-steps [] ts)

-- a number keeps its type while terms are added
pub types_kept : (ts more : List Term) (id : TypeId) → id.0 < length ts → type_at (types_of (ts ++ more)) id ≡ type_at (types_of ts) id
types_kept ts [] id lt = ap (λ (xs : List Term). type_at (types_of xs) id) (append-nil ts)
types_kept ts (t ∷ more) id lt =
    let inside : id.0 < length (ts ++ t ∷ []) = omega (arith, length-append ts (t ∷ [])) in
    let there : id.0 < length (types_of ts) = omega (arith, length-types_of ts) in
    ap (λ (xs : List Term). type_at (types_of xs) id) (sym (append_assoc ts (t ∷ []) more))
    ∙ types_kept (ts ++ t ∷ []) more id inside
    ∙ ap (λ (ks : List CluType). type_at ks id) (types_of-push ts t)
    ∙ get_or-append (types_of ts) (type_of (types_of ts) t ∷ []) null_type id.0 there

pub types_grown : (old new : List Term) → Grows old new → (id : TypeId) → id.0 < length old → type_at (types_of new) id ≡ type_at (types_of old) id
types_grown old new g id lt = ap (λ (xs : List Term). type_at (types_of xs) id) g.1 ∙ types_kept old g.0 id lt

-- a term that is added has the type that its parts give it
read_seam : (front rest : List Term) (t : Term) → PartsBelow (length front) t
    → type_at (types_of (front ++ t ∷ rest)) (number (length front)) ≡ type_of (types_of (front ++ t ∷ rest)) t
read_seam front rest t b =
    let inside : length front < length (front ++ t ∷ []) = omega (arith, length-append front (t ∷ [])) in
    let at_end : get_or (types_of front ++ type_of (types_of front) t ∷ []) (length front) null_type ≡ type_of (types_of front) t =
    rw (← length-types_of front) (get_or-append_seam (types_of front) (type_of (types_of front) t) [] null_type) in
    ap (λ (xs : List Term). type_at (types_of xs) (number (length front))) (sym (append_assoc front (t ∷ []) rest))
    ∙ types_kept (front ++ t ∷ []) rest (number (length front)) inside
    ∙ ap (λ (ks : List CluType). type_at ks (number (length front))) (types_of-push front t)
    ∙ at_end
    ∙ type_same (types_of front) (types_of (front ++ t ∷ rest)) (length front) (λ id lt. sym (types_kept front (t ∷ rest) id lt)) t b

read_split : (ts front rest : List Term) (t : Term) (i : ℕ) → ts ≡ front ++ t ∷ rest → length front ≡ i → PartsBelow i t
    → type_at (types_of ts) (number i) ≡ type_of (types_of ts) t
read_split ts front rest t i cut long b =
    let P : ℕ → List Term → Type 0 = λ i ts. type_at (types_of ts) (number i) ≡ type_of (types_of ts) t in
    let Below : ℕ → Type 0 = λ i. PartsBelow i t in
    let at_seam : P (length front) (front ++ t ∷ rest) = read_seam front rest t (subst Below (sym long) b) in
    let at_i : P i (front ++ t ∷ rest) = subst (λ i. P i (front ++ t ∷ rest)) long at_seam in
    subst (P i) (sym cut) at_i

pub type_read : (ts : List Term) → IsArena ts → (id : TypeId) (d : Term) → id.0 < length ts → type_at (types_of ts) id ≡ type_of (types_of ts) (get_or ts id.0 d)
type_read ts a id d lt = read_split ts (take id.0 ts) (drop (suc id.0) ts) (get_or ts id.0 d) id.0 (split_at ts id.0 d lt) (omega (arith, length-take id.0 ts)) (a.parts id.0 d lt)

pub type_found : (ts : List Term) → IsArena ts → (id : TypeId) (t : Term) → slice_get ts id.0 ≡ Some t → id.0 < length ts → type_at (types_of ts) id ≡ type_of (types_of ts) t
type_found ts a id t found lt = type_read ts a id t lt ∙ ap (type_of (types_of ts)) (get_or_from_slice_get ts id.0 t t found)

distinct_below : (ts : List Term) → IsArena ts → (n : ℕ) → n ≤ length ts → (a b : TypeId) → a.0 < n → b.0 < n → type_at (types_of ts) a ≡ type_at (types_of ts) b → a ≡ b
distinct_below ts arena zero le a b p q e = absurd (omega arith)
distinct_below ts arena (suc n) le a b p q e =
    let d : Term = term.Null in
    let in_a : a.0 < length ts = omega arith in
    let in_b : b.0 < length ts = omega arith in
    let below_a = parts_more a.0 n (omega arith) (get_or ts a.0 d) (arena.parts a.0 d in_a) in
    let below_b = parts_more b.0 n (omega arith) (get_or ts b.0 d) (arena.parts b.0 d in_b) in
    let alike : type_of (types_of ts) (get_or ts a.0 d) ≡ type_of (types_of ts) (get_or ts b.0 d) =
    sym (type_read ts arena a d in_a) ∙ e ∙ type_read ts arena b d in_b in
    same_number a b (arena.once a.0 b.0 d in_a in_b
    (term_back (types_of ts) n (distinct_below ts arena n (omega arith)) _ _ below_a below_b alike))

pub distinct : (ts : List Term) → IsArena ts → (a b : TypeId) → a.0 < length ts → b.0 < length ts → type_at (types_of ts) a ≡ type_at (types_of ts) b → a ≡ b
distinct ts arena = distinct_below ts arena (length ts) (omega arith)

-- the place of an item in a list with one item more
item : (ts : List Term) (t : Term) (i : ℕ) (d : Term) → i < length (ts ++ t ∷ [])
    → ((i < length ts) × (get_or (ts ++ t ∷ []) i d ≡ get_or ts i d)) ⊎ ((i ≡ length ts) × (get_or (ts ++ t ∷ []) i d ≡ t))
item ts t i d lt = by (ltb i (length ts)) refl
  where
    by : (b : Bool) → ltb i (length ts) ≡ b → ((i < length ts) × (get_or (ts ++ t ∷ []) i d ≡ get_or ts i d)) ⊎ ((i ≡ length ts) × (get_or (ts ++ t ∷ []) i d ≡ t))
    by true e = let front : i < length ts = omega (arith, ltb-true) in inl (front, get_or-append ts (t ∷ []) d i front)
    by false e =
        let back : i ≡ length ts = omega (arith, ltb-false, length-append ts (t ∷ [])) in
        inr (back, rw back (get_or-append_seam ts t [] d))

push_arena : (ts : List Term) (t : Term) → IsArena ts → PartsBelow (length ts) t → ((i : ℕ) (d : Term) → i < length ts → get_or ts i d ≡ t → ⊥) → IsArena (ts ++ t ∷ [])
push_arena ts t arena b fresh = record { parts = parts; once = once }
  where
    parts : (i : ℕ) (d : Term) → i < length (ts ++ t ∷ []) → PartsBelow i (get_or (ts ++ t ∷ []) i d)
    parts i d lt = elim (item ts t i d lt) [ inl h ↦ rw h.1 (arena.parts i d h.0) | inr h ↦ rw h.1 (rw h.0 b) ]

    once : (i j : ℕ) (d : Term) → i < length (ts ++ t ∷ []) → j < length (ts ++ t ∷ []) → get_or (ts ++ t ∷ []) i d ≡ get_or (ts ++ t ∷ []) j d → i ≡ j
    once i j d p q e =
        elim (item ts t i d p) [
          | inl h ↦ elim (item ts t j d q) [ inl k ↦ arena.once i j d h.0 k.0 (sym h.1 ∙ e ∙ k.1) | inr k ↦ absurd (fresh i d h.0 (sym h.1 ∙ e ∙ k.1)) ]
          | inr h ↦ elim (item ts t j d q) [ inl k ↦ absurd (fresh j d k.0 (sym k.1 ∙ sym e ∙ h.1)) | inr k ↦ h.0 ∙ sym k.0 ]
        ]

pub added_arena : (ts new : List Term) (t : Term) → IsAddedTo ts new t → IsArena ts → PartsBelow (length ts) t → IsArena new
added_arena ts new t added arena b =
    elim added [
      | inl e ↦ rw e arena
      | inr h ↦ rw h.0 (push_arena ts t arena b (λ i d lt is. h.1 i (slice_get-get_or ts i d lt ∙ ap Some is)))
    ]

pub added_grows : (ts new : List Term) (t : Term) → IsAddedTo ts new t → Grows ts new
added_grows ts new t added = elim added [ inl e ↦ ([], e ∙ sym (append-nil ts)) | inr h ↦ (t ∷ [], h.0) ]

pub added_at_most : (ts new : List Term) (t : Term) → IsAddedTo ts new t → (new ≡ ts) ⊎ (new ≡ ts ++ t ∷ [])
added_at_most ts new t added = elim added [ inl e ↦ inl e | inr h ↦ inr h.0 ]

-- a term has the type that its parts had before the arena grew
pub type_grown : (old new : List Term) (t : Term) (id : TypeId) → IsArena new → Grows old new → PartsBelow (length old) t → slice_get new id.0 ≡ Some t → id.0 < length new
    → type_at (types_of new) id ≡ type_of (types_of old) t
type_grown old new t id arena grows b found lt =
    type_found new arena id t found lt ∙ type_same (types_of new) (types_of old) (length old) (types_grown old new grows) t b

-- equal numbers exactly for equal types
pub equal_ids : (ts : List Term) → IsArena ts → (a b : TypeId) → a.0 < length ts → b.0 < length ts → (r : Bool) → Decides r (a ≡ b)
    → (IsTrue r → type_at (types_of ts) a ≡ type_at (types_of ts) b) × (type_at (types_of ts) a ≡ type_at (types_of ts) b → IsTrue r)
equal_ids ts arena a b p q r same = (λ e. ap (type_at (types_of ts)) (same.0 e), λ e. same.1 (distinct ts arena a b p q e))

-- the next term of an arena is none of those before it, so interning it adds it
pub next_added : (ts new : List Term) → IsArena ts → (i : ℕ) (t : Term) (id : TypeId) → i < length ts → t ≡ get_or ts i t
    → (new ≡ take i ts) ⊎ (new ≡ take i ts ++ t ∷ []) → slice_get new id.0 ≡ Some t → id.0 < length new → new ≡ take (i + 1) ts
next_added ts new arena i t id lt is added found within = elim added [ inl e ↦ absurd (there e) | inr e ↦ e ∙ ap (λ (x : Term). take i ts ++ x ∷ []) is ∙ sym (take_more ts i t lt) ]
  where
    there : new ≡ take i ts → ⊥
    there e =
        let front : id.0 < i = omega (arith, ap (λ (x : List Term). length x) e, length-take i ts) in
        let inside : id.0 < length ts = omega arith in
        let read : get_or ts id.0 t ≡ t = sym (get_or-take i ts id.0 t front) ∙ ap (λ (x : List Term). get_or x id.0 t) (sym e) ∙ get_or_from_slice_get new id.0 t t found in
        let same : id.0 ≡ i = arena.once id.0 i t inside lt (read ∙ is) in
        omega arith
