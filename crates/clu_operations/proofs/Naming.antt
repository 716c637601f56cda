-- Names that are kept, and what their numbers stand for.
use Rattle.std.proofs.Common.{◌≡◌, ◌∙◌, ℕ, suc, ◌+◌, ◌<◌, ◌≤◌, ◌||◌, not, cond, Bool, true, false, if◌then◌else◌, List, [], ◌∷◌, ◌++◌, length, get_or, bytes_eq, refl, sym, ap, arith, append_assoc, append-nil, length-append}
use Rattle.std.specs.List.{list_any, position_or_len}
use Rattle.std.proofs.lemmas.List.{get_or_append_left}
use Rattle.std.proofs.lemmas.Slice.Eq.{bytes_eq-Decides}
use Rattle.clu_operations.specs.Finding.{Extends}
use Rattle.clu_operations.specs.Words.{is_kept, with_name, number_with}

-- ---- lists of which one begins with another

pub extends_self : {A : Type 0} (xs : List A) → Extends xs xs
extends_self xs = ([], sym (append-nil xs))

pub extends_on : {A : Type 0} (a b c : List A) → Extends a b → Extends b c → Extends a c
extends_on {A} a b c g h = (g.0 ++ h.0, h.1 ∙ ap (λ (x : List A). x ++ h.0) g.1 ∙ append_assoc a g.0 h.0)

pub length_extends : {A : Type 0} (a b : List A) → Extends a b → length a ≤ length b
length_extends {A} a b g = omega (arith, ap (λ (x : List A). length x) g.1, length-append a g.0)

pub name_stays : (names newer : List (List ℕ)) → Extends names newer → (n : ℕ) → n < length names → get_or newer n [] ≡ get_or names n []
name_stays names newer g n lt = ap (λ (x : List (List ℕ)). get_or x n []) g.1 ∙ get_or_append_left names g.0 [] n lt

-- ---- one more name

pub kept_extends : (names : List (List ℕ)) (name : List ℕ) → Extends names (with_name names name)
kept_extends names name = by (is_kept names name)
  where
    by : (b : Bool) → Extends names (if b then names else names ++ name ∷ [])
    by true = extends_self names
    by false = (name ∷ [], refl)

pub number_named : (names : List (List ℕ)) (name : List ℕ) → get_or (with_name names name) (number_with names name).0 [] ≡ name
number_named [] name = refl
number_named (x ∷ names) name = by (bytes_eq name x) refl (list_any (bytes_eq name) names) (number_named names name)
  where
    by : (b : Bool) → bytes_eq name x ≡ b → (more : Bool) → get_or (if more then names else names ++ name ∷ []) (position_or_len (bytes_eq name) names) [] ≡ name
        → get_or (if b || more then x ∷ names else x ∷ (names ++ name ∷ [])) (cond (not b) (1 + position_or_len (bytes_eq name) names) 0) [] ≡ name
    by true e more rest = sym ((bytes_eq-Decides name x).0 e)
    by false e true rest = let one : 1 + position_or_len (bytes_eq name) names ≡ suc (position_or_len (bytes_eq name) names) = omega arith in ap (λ (n : ℕ). get_or (x ∷ names) n []) one ∙ rest
    by false e false rest = let one : 1 + position_or_len (bytes_eq name) names ≡ suc (position_or_len (bytes_eq name) names) = omega arith in ap (λ (n : ℕ). get_or (x ∷ (names ++ name ∷ [])) n []) one ∙ rest

pub number_below : (names : List (List ℕ)) (name : List ℕ) → (number_with names name).0 < length (with_name names name)
number_below [] name = omega arith
number_below (x ∷ names) name = by (bytes_eq name x) (list_any (bytes_eq name) names) (number_below names name)
  where
    by : (b more : Bool) → position_or_len (bytes_eq name) names < length (if more then names else names ++ name ∷ [])
        → cond (not b) (1 + position_or_len (bytes_eq name) names) 0 < length (if b || more then x ∷ names else x ∷ (names ++ name ∷ []))
    by true more rest = omega arith
    by false true rest = omega (arith, rest)
    by false false rest = omega (arith, rest)
