-- Which constants stand at the places of a list, by what is held there.
use Rattle.std.proofs.Common.{◌≡◌, ◌≤◌, ◌∙◌, ℕ, zero, suc, ◌+◌, List, [], ◌∷◌, ◌++◌, length, slice_get, Some, None, append_assoc, refl, ap, sym, subst, arith}
use Rattle.std.specs.Option.{option_map}
use Rattle.std.proofs.lemmas.Option.{slice_get_past}
use Rattle.clu_base.specs.declared.constants.Const.{Const}
use Rattle.clu_base.specs.declared.constants.Const.TheVariants as constant
use Rattle.clu_constants.specs.declared.held.Held.{Held}
use Rattle.clu_constants.specs.declared.held.Held.TheVariants as held
use Rattle.clu_constants.specs.declared.outline.Outline.TheVariants as outline
use Rattle.clu_constants.specs.Outlines.{outlined}
use Rattle.clu_constants.specs.Held.{AreHeld, IsHeld, IsJoin, held_by, listed, listed_after, text_at}

-- ---- one more

pub listed_push : (before : List Const) (hs : List Held) (h : Held) → listed_after before (hs ++ h ∷ []) ≡ listed_after before hs ++ held_by (listed_after before hs) h ∷ []
listed_push before [] h = refl
listed_push before (x ∷ hs) h = listed_push (before ++ held_by before x ∷ []) hs h

pub held_push : (before : List Const) (hs : List Held) (h : Held) → AreHeld before hs → IsHeld (listed_after before hs) h → AreHeld before (hs ++ h ∷ [])
held_push before [] h are is = (is, tt)
held_push before (x ∷ hs) h are is = (are.0, held_push (before ++ held_by before x ∷ []) hs h are.1 is)

length_with : (xs : List Const) (x : Const) → length (xs ++ x ∷ []) ≡ suc (length xs)
length_with [] x = refl
length_with (y ∷ xs) x = ap {B = ℕ} suc (length_with xs x)

pub length_listed : (before : List Const) (hs : List Held) → length (listed_after before hs) ≡ length before + length hs
length_listed before [] = omega arith
length_listed before (h ∷ hs) = omega (arith, length_listed (before ++ held_by before h ∷ []) hs, length_with before (held_by before h))

pub length_both : (xs ys : List ℕ) → length (xs ++ ys) ≡ length xs + length ys
length_both [] ys = omega arith
length_both (x ∷ xs) ys = omega (arith, length_both xs ys)

-- ---- what stands at a place

-- those before it are known, and what is held of it is right
pub record IsFound (all : List Const) (i : ℕ) (h : Held) : Type 0 where
  pub before : List Const
  pub more : List Const
  pub is : all ≡ before ++ held_by before h ∷ more
  pub size : length before ≡ i
  pub good : IsHeld before h

begun : (before : List Const) (hs : List Held) → (more : List Const) × (listed_after before hs ≡ before ++ more)
begun before [] = ([], sym (append_nil before))
  where
    append_nil : (xs : List Const) → xs ++ [] ≡ xs
    append_nil [] = refl
    append_nil (x ∷ xs) = ap (λ (l : List Const). x ∷ l) (append_nil xs)
begun before (h ∷ hs) =
    let rest = begun (before ++ held_by before h ∷ []) hs in (held_by before h ∷ rest.0, rest.1 ∙ append_assoc before (held_by before h ∷ []) rest.0)

first_some : (h k : Held) → Some h ≡ Some k → h ≡ k
first_some h k e = cc

pub found : (before : List Const) (hs : List Held) (i : ℕ) (h : Held) → slice_get hs i ≡ Some h → AreHeld before hs → IsFound (listed_after before hs) (length before + i) h
found before [] i h e are = absurd (cc)
found before (x ∷ hs) zero h e are =
    let same : x ≡ h = first_some x h e in
    let rest = begun (before ++ held_by before h ∷ []) hs in
    record {
      before = before;
      more = rest.0;
      is = subst (λ (y : Held). listed_after before (y ∷ hs) ≡ before ++ held_by before h ∷ rest.0) (sym same) (rest.1 ∙ append_assoc before (held_by before h ∷ []) rest.0);
      size = omega arith;
      good = subst (IsHeld before) same are.0;
    }
found before (x ∷ hs) (suc i) h e are =
    let all : List Const = listed_after before (x ∷ hs) in
    subst (λ (n : ℕ). IsFound all n h) (omega (arith, length_with before (held_by before x))) (found (before ++ held_by before x ∷ []) hs i h e are.1)

pub get_first : (before more : List Const) (c : Const) → slice_get (before ++ c ∷ more) (length before) ≡ Some c
get_first [] more c = refl
get_first (x ∷ before) more c = get_first before more c

-- a text that has bytes stays, whatever comes behind
pub text_stays : (before more : List Const) (place : ℕ) → 1 ≤ length (text_at before place) → text_at (before ++ more) place ≡ text_at before place
text_stays [] more place some = absurd (omega (arith, some))
text_stays (x ∷ before) more zero some = refl
text_stays (x ∷ before) more (suc place) some = text_stays before more place some

pub found_is : (all : List Const) (i : ℕ) (h : Held) (at : IsFound all i h) → slice_get all i ≡ Some (held_by at.before h)
found_is all i h at =
    subst (λ (n : ℕ). slice_get all n ≡ Some (held_by at.before h)) at.size
    (subst (λ (l : List Const). slice_get l (length at.before) ≡ Some (held_by at.before h)) (sym at.is) (get_first at.before at.more (held_by at.before h)))

pub length_all : (hs : List Held) → length (listed hs) ≡ length hs
length_all hs = omega (arith, length_listed [] hs)

from_first : (hs : List Held) (i : ℕ) (h : Held) → slice_get hs i ≡ Some h → AreHeld [] hs → IsFound (listed hs) i h
from_first hs i h e are = subst (λ (n : ℕ). IsFound (listed hs) n h) (omega arith) (found [] hs i h e are)

module _ (hs : List Held) (are : AreHeld [] hs) where
  pub whole_at : (i : ℕ) (c : Const) → slice_get hs i ≡ Some (held.Whole c) → slice_get (listed hs) i ≡ Some c
  whole_at i c e = found_is (listed hs) i (held.Whole c) (from_first hs i (held.Whole c) e are)

  -- a text is that of two places, each with bytes
  pub record IsJoined (i a b n : ℕ) : Type 0 where
    pub is : slice_get (listed hs) i ≡ Some (constant.Str (text_at (listed hs) a ++ text_at (listed hs) b))
    pub join : IsJoin (text_at (listed hs) a) (text_at (listed hs) b) n

  pub joined_at : (i a b n : ℕ) → slice_get hs i ≡ Some (held.Joined a b n) → IsJoined i a b n
  joined_at i a b n e =
      let at = from_first hs i (held.Joined a b n) e are in
      let stays : (place : ℕ) → 1 ≤ length (text_at at.before place) → text_at at.before place ≡ text_at (listed hs) place = λ place some.
      sym (subst (λ (l : List Const). text_at l place ≡ text_at at.before place) (sym at.is) (text_stays at.before (held_by at.before (held.Joined a b n) ∷ at.more) place some)) in
      let left = stays a at.good.some_left in
      let right = stays b at.good.some_right in record {
        is = subst (λ (x : List ℕ). slice_get (listed hs) i ≡ Some (constant.Str (x ++ text_at (listed hs) b))) left
            (subst (λ (y : List ℕ). slice_get (listed hs) i ≡ Some (constant.Str (text_at at.before a ++ y))) right (found_is (listed hs) i (held.Joined a b n) at));
        join = subst (λ (x : List ℕ). IsJoin x (text_at (listed hs) b) n) left (subst (λ (y : List ℕ). IsJoin (text_at at.before a) y n) right at.good);
      }

  pub none_at : (i : ℕ) → slice_get hs i ≡ None → slice_get (listed hs) i ≡ None
  none_at i e = slice_get_past (listed hs) i (omega (arith, length_listed [] hs, past hs i e))
    where
      past : (xs : List Held) (k : ℕ) → slice_get xs k ≡ None → length xs ≤ k
      past [] k e = omega arith
      past (x ∷ xs) zero e = absurd (cc)
      past (x ∷ xs) (suc k) e = omega (arith, past xs k e)

  pub outline_joined : (i a b n : ℕ) → slice_get hs i ≡ Some (held.Joined a b n) → option_map outlined (slice_get (listed hs) i) ≡ Some (outline.Str n)
  outline_joined i a b n e =
      let j = joined_at i a b n e in
      ap (option_map outlined) j.is ∙ ap (λ (k : ℕ). Some (outline.Str k)) (omega (arith, j.join.size, length_both (text_at (listed hs) a) (text_at (listed hs) b)))
