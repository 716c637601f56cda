-- The search in an image takes the arm that `find` gives.
use Rattle.std.proofs.Common.{◌≡◌, ◌∙◌, ℕ, zero, suc, ◌<◌, ◌≤◌, ◌==◌, Bool, true, false, List, [], ◌∷◌, length, map, Option, Some, None, slice_get, get_or, nat_lt, refl, ap, sym, arith}
use Rattle.std.specs.List.{position_or_len}
use Rattle.std.specs.Prelude.{if◌then◌else◌, cond, option_map}
use Rattle.std.specs.Str.{bytes_eq}
use Rattle.std.proofs.lemmas.Bool.Decides.{nat_tests}
use Rattle.std.proofs.lemmas.List.Quantifiers.{position-Some}
use Rattle.std.proofs.lemmas.List.Sums.{fails_before_first}
use Rattle.std.proofs.lemmas.Option.{same_Some}
use Rattle.clu_base.proofs.Lists.{none_is_not, some_at}
use Rattle.clu_wir.specs.declared.region.Arm.{Arm}
use Rattle.clu_handlers.specs.Arms.{arm_for, named}
use Rattle.clu_handlers.specs.Arms as arms
use Rattle.clu_handlers.specs.Regions.{IsInnermost, arm_at, arm_in, is_round}
use Rattle.clu_handlers.specs.Seen.{seen}
use Rattle.clu_handlers.specs.declared.region.Found.{Found}
use Rattle.clu_handlers.specs.declared.region.Region.{Region}
use Rattle.clu_frames.specs.Flattening.{arm_at as arm_named_at}
use Rattle.clu_flat_meaning.specs.Image.{FlatArm}
use Rattle.clu_flat_meaning.specs.Machine.{arm_from, arm_named, or_else}
use Rattle.clu_flat_meaning.specs.Machine as flat
use Rattle.laws_frames.specs.Finding.{WordsTell, searched}
use Rattle.laws_frames.specs.Tables.{arm_word, flat_arm, flat_arms, flat_region, table_of}

pub if_true : {A : Type 0} (b : Bool) (x y : A) → b ≡ true → (if b then x else y) ≡ x
if_true b x y e = rw e refl

if_false : {A : Type 0} (b : Bool) (x y : A) → b ≡ false → (if b then x else y) ≡ y
if_false b x y e = rw e refl

module _ (word : List ℕ → ℕ) where
  -- The first arm of a word.

  abbrev Has : ℕ → Arm → Bool
  Has x a = arm_word word a.name == x

  first_at : (list : List Arm) (i x : ℕ) → i < length list → ((a : Arm) → slice_get list i ≡ Some a → Has x a ≡ true) → ((k : ℕ) (a : Arm) → k < i → slice_get list k ≡ Some a → Has x a ≡ false) →
      arm_named x (flat_arms word list) ≡ option_map (flat_arm word) (slice_get list i)
  unfolding arm_named
  first_at [] i x l here before = absurd (omega (arith, l))
  first_at (a ∷ list) zero x l here before = if_true (Has x a) (Some (flat_arm word a)) (arm_named x (flat_arms word list)) (here a refl)
  first_at (a ∷ list) (suc i) x l here before =
      if_false (Has x a) (Some (flat_arm word a)) (arm_named x (flat_arms word list)) (before 0 a (omega arith) refl)
      ∙ first_at list i x (omega (arith, l)) here (λ k b g h. before (suc k) b (omega (arith, g)) h)

  none_at : (list : List Arm) (x : ℕ) → ((k : ℕ) (a : Arm) → slice_get list k ≡ Some a → Has x a ≡ false) → arm_named x (flat_arms word list) ≡ None
  unfolding arm_named
  none_at [] x k = refl
  none_at (a ∷ list) x k = if_false (Has x a) (Some (flat_arm word a)) (arm_named x (flat_arms word list)) (k 0 a refl) ∙ none_at list x (λ n b h. k (suc n) b h)

  abbrev at_place : List Arm → Option ℕ → Option FlatArm
  at_place list None = None
  at_place list (Some i) = option_map (flat_arm word) (slice_get list i)

  read : (list : List Arm) (k : ℕ) (a d : Arm) → slice_get list k ≡ Some a → get_or list k d ≡ a
  read [] k a d e = none_is_not a e
  read (b ∷ list) zero a d e = same_Some b a e
  read (b ∷ list) (suc k) a d e = read list k a d e

  within : (list : List Arm) (k : ℕ) (a : Arm) → slice_get list k ≡ Some a → k < length list
  within [] k a e = none_is_not a e
  within (b ∷ list) zero a e = omega arith
  within (b ∷ list) (suc k) a e = omega (arith, within list k a e)

  past_all : (b : Bool) (n m : ℕ) → nat_lt n m ≡ b → cond b (Some n) None ≡ None → m ≤ n
  past_all true n m t e = absurd (none_is_not {A = ⊥} n (sym e))
  past_all false n m t e = grind (arith, nat_tests, t)

  named_is : (list : List Arm) (n : List ℕ) (x : ℕ) → ((k : ℕ) (a : Arm) → slice_get list k ≡ Some a → Has x a ≡ bytes_eq a.name n) → (o : Option ℕ) → named n list ≡ o → arm_named x (flat_arms word list) ≡ at_place list o
  named_is list n x same None e =
      let d : Arm = arm_named_at [] 0 0 in
      let test : Arm → Bool = λ a. bytes_eq a.name n in
      let all : length list ≤ position_or_len test list = past_all (nat_lt (position_or_len test list) (length list)) (position_or_len test list) (length list) refl e in
      none_at list x (λ k a h. same k a h ∙ ap test (sym (read list k a d h)) ∙ fails_before_first test list k d (omega (arith, all, within list k a h)))
  named_is list n x same (Some i) e =
      let d : Arm = arm_named_at [] 0 0 in
      let test : Arm → Bool = λ a. bytes_eq a.name n in
      let p = position-Some test list i d e in
      first_at list i x p.0 (λ a h. same i a h ∙ ap test (sym (read list i a d h)) ∙ p.1) (λ k a l h. same k a h ∙ ap test (sym (read list k a d h)) ∙ p.2 k l)

  there : (list : List Arm) (n : List ℕ) (i : ℕ) → named n list ≡ Some i → (a : Arm) × (slice_get list i ≡ Some a)
  there list n i e = some_at list i (position-Some (λ a. bytes_eq a.name n) list i (arm_named_at [] 0 0) e).0

  or_place : (list : List Arm) (a b : Option ℕ) → ((i : ℕ) → a ≡ Some i → (x : Arm) × (slice_get list i ≡ Some x)) → or_else (at_place list a) (at_place list b) ≡ at_place list (arms.or_else a b)
  or_place list None b k = refl
  or_place list (Some i) b k = let z = k i refl in ap (λ (o : Option Arm). or_else (option_map (flat_arm word) o) (at_place list b)) z.1 ∙ sym (ap (option_map (flat_arm word)) z.1)

  module _ (pc v : ℕ) (name : List ℕ) where
    -- the arm of a region
    for_is : (list : List Arm) → ((k : ℕ) (a : Arm) → slice_get list k ≡ Some a → Has v a ≡ bytes_eq a.name name) → ((k : ℕ) (a : Arm) → slice_get list k ≡ Some a → Has 0 a ≡ bytes_eq a.name []) →
        or_else (arm_named v (flat_arms word list)) (arm_named 0 (flat_arms word list)) ≡ at_place list (arm_for list name)
    for_is list same others =
        ap (λ o. or_else o (arm_named 0 (flat_arms word list))) (named_is list name v same (named name list) refl) ∙ ap (or_else (at_place list (named name list))) (named_is list [] 0 others (named [] list) refl)
        ∙ or_place list (named name list) (named [] list) (λ i e. there list name i e)

    -- what a region gives at the place
    abbrev gives : Region → Option FlatArm
    gives r = if is_round r pc then flat.arm_in v (flat_region word (seen r)) else None

    pub gives_is : (r : Region) → ((k : ℕ) (a : Arm) → slice_get r.arms.items k ≡ Some a → Has v a ≡ bytes_eq a.name name) → ((k : ℕ) (a : Arm) → slice_get r.arms.items k ≡ Some a → Has 0 a ≡ bytes_eq a.name []) →
        gives r ≡ at_place r.arms.items (arm_at r pc name)
    gives_is r same others = by_round (is_round r pc) (for_is r.arms.items same others)
      where
        by_round : (b : Bool) → flat.arm_in v (flat_region word (seen r)) ≡ at_place r.arms.items (arm_for r.arms.items name) →
            (if b then flat.arm_in v (flat_region word (seen r)) else None) ≡ at_place r.arms.items (if b then arm_for r.arms.items name else None)
        by_round true e = e
        by_round false e = refl

    abbrev from : Option FlatArm → List Region → Option FlatArm
    from o rs = arm_from o (table_of word (map seen rs)) pc v

    none_gives : (rs : List Region) (o : Option FlatArm) → ((k : ℕ) (r : Region) → slice_get rs k ≡ Some r → gives r ≡ None) → from o rs ≡ o
    unfolding arm_from
    none_gives [] o k = refl
    none_gives (r ∷ rs) o k = ap (λ x. from (or_else x o) rs) (k 0 r refl) ∙ none_gives rs o (λ n x h. k (suc n) x h)

    last_gives : (rs : List Region) (o : Option FlatArm) (n : ℕ) (own : Region) (a : FlatArm) → slice_get rs n ≡ Some own → gives own ≡ Some a → ((k : ℕ) (r : Region) → n < k → slice_get rs k ≡ Some r → gives r ≡ None) → from o rs ≡ Some a
    unfolding arm_from
    last_gives [] o n own a is g k = none_is_not own is
    last_gives (r ∷ rs) o zero own a is g k =
        let e : gives r ≡ Some a = ap gives (same_Some r own is) ∙ g in
        ap (λ x. from (or_else x o) rs) e ∙ none_gives rs (Some a) (λ n x h. k (suc n) x (omega arith) h)
    last_gives (r ∷ rs) o (suc n) own a is g k = last_gives rs (or_else (gives r) o) n own a is g (λ m x l h. k (suc m) x (omega (arith, l)) h)

    module _ (rs : List Region) (tell : WordsTell word rs v name) where
      at_region : (n : ℕ) (r : Region) → slice_get rs n ≡ Some r → gives r ≡ at_place r.arms.items (arm_at r pc name)
      at_region n r e = gives_is r (λ k a h. tell.same n k r a e h) (λ k a h. tell.others n k r a e h)

      in_region : (n : ℕ) (r : Region) → slice_get rs n ≡ Some r → arm_in rs pc name n ≡ arm_at r pc name
      in_region n r e = rw e refl

      no_arm : (n : ℕ) (r : Region) → slice_get rs n ≡ Some r → arm_in rs pc name n ≡ None → gives r ≡ None
      no_arm n r e h = at_region n r e ∙ ap (at_place r.arms.items) (sym (in_region n r e) ∙ h)

      none_later : (found : Found) → IsInnermost rs pc name found → (n : ℕ) → found.region < n → (o : Option ℕ) → arm_in rs pc name n ≡ o → o ≡ None
      none_later found is n l None e = refl
      none_later found is n l (Some arm) e = absurd (omega (arith, is.last n arm e, l))

      pub found_is : (found : Found) → IsInnermost rs pc name found → (r : Region) (a : Arm) → slice_get rs found.region ≡ Some r → slice_get r.arms.items found.arm ≡ Some a → searched word rs pc v ≡ Some (flat_arm word a)
      found_is found is r a er ea =
          last_gives rs None found.region r (flat_arm word a) er
          (at_region found.region r er ∙ ap (at_place r.arms.items) (sym (in_region found.region r er) ∙ is.takes) ∙ ap (option_map (flat_arm word)) ea)
          (λ k x l h. no_arm k x h (none_later found is k l (arm_in rs pc name k) refl))

      pub none_is : ((n : ℕ) → arm_in rs pc name n ≡ None) → searched word rs pc v ≡ None
      none_is k = none_gives rs None (λ n r e. no_arm n r e (k n))
