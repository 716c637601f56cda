-- Strings that are joined.
use Rattle.std.proofs.Common.{◌≡◌, ◌≤◌, ◌∙◌, ℕ, ◌+◌, ◌-◌, ◌^◌, min, List, [], ◌∷◌, ◌++◌, length, slice_get, Option, Some, None, refl, ap, sym, subst, arith}
use Rattle.clu_base.specs.declared.constants.Const.{Const}
use Rattle.clu_base.specs.declared.constants.Const.TheVariants as constant
use Rattle.clu_constants.specs.Held.{AreHeld, AreJoined, IsJoin, capped, length_of, listed, text_at, text_in}
use Rattle.clu_constants.specs.declared.held.Held.{Held}
use Rattle.clu_constants.specs.declared.held.Held.TheVariants as held
use Rattle.clu_constants.proofs.Listed.{get_first, held_push, listed_push}

-- what has a length is a string of that length
pub record IsString (found : Option Const) (n : ℕ) : Type 0 where
  pub bytes : List ℕ
  pub is : found ≡ Some (constant.Str bytes)
  pub size : n ≡ capped (length bytes)

some_number : (m n : ℕ) → Some m ≡ Some n → m ≡ n
some_number m n e = cc

pub string_of : (found : Option Const) (n : ℕ) → Some n ≡ length_of found → IsString found n
string_of None n e = absurd (cc)
string_of (Some constant.Null) n e = absurd (cc)
string_of (Some (constant.Bool b)) n e = absurd (cc)
string_of (Some (constant.Int i)) n e = absurd (cc)
string_of (Some (constant.Char c)) n e = absurd (cc)
string_of (Some (constant.Str bytes)) n e = record { bytes = bytes; is = refl; size = some_number n (capped (length bytes)) e }

none_left : (bytes : List ℕ) → 0 ≡ capped (length bytes) → bytes ≡ []
none_left [] e = refl
none_left (b ∷ bytes) e = absurd (omega (arith, e))

append_nil : (xs : List ℕ) → xs ++ [] ≡ xs
append_nil [] = refl
append_nil (x ∷ xs) = ap (λ (l : List ℕ). x ∷ l) (append_nil xs)

text_is : (found : Option Const) (n : ℕ) (s : IsString found n) → text_in found ≡ s.bytes
text_is found n s = ap text_in s.is

module _ (constants : List Const) (a b m n : ℕ) (l : IsString (slice_get constants a) m) (r : IsString (slice_get constants b) n) where
  -- an empty one leaves the other
  pub empty_left : m ≡ 0 → AreJoined constants constants a b b
  empty_left zeros = record {
    left = [];
    right = r.bytes;
    at_left = subst (λ (x : List ℕ). slice_get constants a ≡ Some (constant.Str x)) (none_left l.bytes (sym zeros ∙ l.size)) l.is;
    at_right = r.is;
    both = r.is;
  }

  pub empty_right : n ≡ 0 → AreJoined constants constants a b a
  empty_right zeros = record {
    left = l.bytes;
    right = [];
    at_left = l.is;
    at_right = subst (λ (x : List ℕ). slice_get constants b ≡ Some (constant.Str x)) (none_left r.bytes (sym zeros ∙ r.size)) r.is;
    both = subst (λ (x : List ℕ). slice_get constants a ≡ Some (constant.Str x)) (sym (append_nil l.bytes)) l.is;
  }

  -- two that have bytes are joined
  pub may_join : 1 ≤ m → 1 ≤ n → IsJoin (text_at constants a) (text_at constants b) (min (m + n) (2 ^ 64 - 1))
  may_join some_m some_n =
      let size_left = ap {B = ℕ} length (text_is (slice_get constants a) m l) in
      let size_right = ap {B = ℕ} length (text_is (slice_get constants b) n r) in record {
        some_left = omega (arith, l.size, some_m, size_left);
        some_right = omega (arith, r.size, some_n, size_right);
        size = omega (arith, l.size, r.size, size_left, size_right);
      }

  pub both_joined : (new : List Const) → new ≡ constants ++ constant.Str (text_at constants a ++ text_at constants b) ∷ [] → AreJoined constants new a b (length constants)
  both_joined new is = record {
    left = text_at constants a;
    right = text_at constants b;
    at_left = subst (λ (x : List ℕ). slice_get constants a ≡ Some (constant.Str x)) (sym (text_is (slice_get constants a) m l)) l.is;
    at_right = subst (λ (x : List ℕ). slice_get constants b ≡ Some (constant.Str x)) (sym (text_is (slice_get constants b) n r)) r.is;
    both = subst (λ (l : List Const). slice_get l (length constants) ≡ Some (constant.Str (text_at constants a ++ text_at constants b))) (sym is) (get_first constants [] (constant.Str (text_at constants a ++ text_at constants b)));
  }

-- as it is held
module _ (hs new : List Held) (constants : List Const) (view : listed hs ≡ constants) (a b n : ℕ) (is : new ≡ hs ++ held.Joined a b n ∷ []) where
  pub pushed_held : AreHeld [] hs → IsJoin (text_at constants a) (text_at constants b) n → AreHeld [] new
  pushed_held are join = subst (AreHeld []) (sym is) (held_push [] hs (held.Joined a b n) are (subst (λ (l : List Const). IsJoin (text_at l a) (text_at l b) n) (sym view) join))

  pub pushed_listed : listed new ≡ constants ++ constant.Str (text_at constants a ++ text_at constants b) ∷ []
  pushed_listed = ap listed is ∙ listed_push [] hs (held.Joined a b n) ∙ ap (λ (l : List Const). l ++ constant.Str (text_at l a ++ text_at l b) ∷ []) view
