-- The arms of a guard in the table of regions: which of them takes a name.
use Rattle.std.proofs.Common.{◌≡◌, ◌∙◌, ℕ, suc, ◌+◌, ◌==◌, Bool, true, false, List, [], ◌∷◌, ◌++◌, length, Option, Some, None, slice_get, refl, ap, sym, subst, arith, append_assoc, append-nil, true≢false}
use Rattle.std.specs.Prelude.{if◌then◌else◌, ◌||◌}
use Rattle.std.specs.Str.{bytes_eq}
use Rattle.std.proofs.lemmas.List.{length-append}
use Rattle.std.proofs.lemmas.Option.{same_Some, slice_get_within}
use Rattle.clu_base.proofs.Lists.{get_last, none_is_not}
use Rattle.clu_wir.specs.Adding.{Added}
use Rattle.clu_wir.specs.Plain.{Arms, Stmts, arm_and, no_arms}
use Rattle.clu_wir.specs.declared.region.Arm.{Arm}
use Rattle.clu_frames.specs.Plain as flat
use Rattle.clu_frames.specs.Flattening.{Made, Round, all_onto, arm_at, arm_begun, armed, arms_onto, begun_by, closed, named_onto, opened, pushed}
use Rattle.clu_frames.specs.Regions.{begun_at, ended_at, with_arm}
use Rattle.clu_frames.proofs.Pieces.{still_results, still_taken}
use Rattle.clu_flat_meaning.specs.Image.{FlatArm}
use Rattle.clu_flat_meaning.specs.Machine.{arm_named}
use Rattle.laws_frames.specs.Formed.{ArmNames, EachName}
use Rattle.laws_frames.specs.Tables.{arm_word, flat_arms}
use Rattle.laws_frames.proofs.Growing.{NoLabel, Grows, changed_own, grows_all_then, grows_push, grows_still}
use Rattle.laws_frames.proofs.Guarding.{arm_done, has_name, named_at, other_at}
use Rattle.laws_frames.proofs.Lying.{all_grow}

-- The arms that are added to a region.

abbrev pub arms_named : ℕ → ℕ → List (List ℕ) → List Arm
arms_named target mark [] = []
arms_named target mark (name ∷ names) = arm_at name target mark ∷ arms_named target mark names

abbrev pub arm_others : Bool → ℕ → ℕ → List Arm
arm_others true target mark = arm_at [] target mark ∷ []
arm_others false target mark = []

abbrev pub arms_listed : Arms → ℕ → ℕ → ℕ → Round → Made → List Arm
arms_listed no_arms label end region round m = []
arms_listed (arm_and names others slots body more) label end region round m =
    arms_named (length m.code) round.mark names ++ (arm_others others (length m.code) round.mark ++ arms_listed more (label + 1) end region round (arm_done names others slots body label end region round m))

pub record Has (n : ℕ) (arms : List Arm) (m : Made) : Type 0 where
  pub region : Added
  pub is : slice_get m.regions n ≡ Some region
  pub arms_are : region.arms ≡ arms

-- of a region that is closed and has none yet
pub has_closed : (parent : Option ℕ) (end : ℕ) (m m2 : Made) → Grows (opened parent m) m2 → Has (length m.regions) [] (closed (length m.regions) end m2)
has_closed parent end m m2 g =
    let r = begun_at (length m.code) parent in
    let n = length m.regions in
    let one : length (opened parent m).regions ≡ suc n = length-append m.regions (r ∷ []) ∙ omega arith in
    let there : slice_get m2.regions n ≡ Some r = (g (suc n)).kept n (omega (arith, one)) (λ e. omega (arith, e)) ∙ get_last m.regions r in
    record { region = ended_at (length m2.code) r; is = changed_own (ended_at (length m2.code)) n m2.regions r there; arms_are = refl }

pub has_kept : (n : ℕ) (arms : List Arm) (m m' : Made) → Has n arms m → Grows m m' → Has n arms m'
has_kept n arms m m' h g = record { region = h.region; is = (g (suc n)).kept n (slice_get_within m.regions n h.region h.is) (λ e. omega (arith, e)) ∙ h.is; arms_are = h.arms_are }

has_armed : (n mark : ℕ) (name : List ℕ) (arms : List Arm) (m : Made) → Has n arms m → Has n (arms ++ arm_at name (length m.code) mark ∷ []) (armed n mark name m)
has_armed n mark name arms m h = record {
  region = with_arm (arm_at name (length m.code) mark) h.region;
  is = changed_own (with_arm (arm_at name (length m.code) mark)) n m.regions h.region h.is;
  arms_are = ap (λ (l : List Arm). l ++ arm_at name (length m.code) mark ∷ []) h.arms_are;
}

pub has_named : (n mark : ℕ) (names : List (List ℕ)) (arms : List Arm) (m : Made) → Has n arms m → Has n (arms ++ arms_named (length m.code) mark names) (named_onto n mark names m)
has_named n mark [] arms m h = subst (λ l. Has n l m) (sym (append-nil arms)) h
has_named n mark (name ∷ names) arms m h =
    subst (λ l. Has n l (named_onto n mark names (armed n mark name m))) (append_assoc arms (arm_at name (length m.code) mark ∷ []) (arms_named (length m.code) mark names))
    (has_named n mark names (arms ++ arm_at name (length m.code) mark ∷ []) (armed n mark name m) (has_armed n mark name arms m h))

named_length : (n mark : ℕ) (names : List (List ℕ)) (m : Made) → length (named_onto n mark names m).code ≡ length m.code
named_length n mark [] m = refl
named_length n mark (name ∷ names) m = named_length n mark names (armed n mark name m)

has_begun : (others : Bool) (slots : List ℕ) (n mark : ℕ) (arms : List Arm) (m : Made) → Has n arms m → Has n (arms ++ arm_others others (length m.code) mark) (begun_by others slots n mark m)
has_begun true slots n mark arms m h = has_kept n _ (armed n mark [] m) _ (has_armed n mark [] arms m h) (λ skip. grows_still (armed n mark [] m) _ (still_taken NoLabel slots (armed n mark [] m)))
has_begun false slots n mark arms m h = subst (λ l. Has n l (begun_by false slots n mark m)) (sym (append-nil arms)) (has_kept n arms m _ h (λ skip. grows_still m _ (still_results NoLabel 0 slots m)))

has_arm : (names : List (List ℕ)) (others : Bool) (slots : List ℕ) (n mark : ℕ) (arms : List Arm) (m : Made) → Has n arms m →
    Has n ((arms ++ arms_named (length m.code) mark names) ++ arm_others others (length m.code) mark) (arm_begun names others slots n mark m)
has_arm names others slots n mark arms m h =
    subst (λ l. Has n ((arms ++ arms_named (length m.code) mark names) ++ arm_others others l mark) (arm_begun names others slots n mark m)) (named_length n mark names m)
    (has_begun others slots n mark (arms ++ arms_named (length m.code) mark names) (named_onto n mark names m) (has_named n mark names arms m h))

pub has_arms : (arms : Arms) (label end n : ℕ) (round : Round) (m : Made) (front : List Arm) → Has n front m → Has n (front ++ arms_listed arms label end n round m) (arms_onto arms label end n round m)
unfolding arms_onto
has_arms no_arms label end n round m front h = subst (λ l. Has n l (pushed (flat.Label end) m)) (sym (append-nil front)) (has_kept n front m _ h (λ skip. grows_push (flat.Label end) m))
has_arms (arm_and names others slots body more) label end n round m front h =
    let a = arms_named (length m.code) round.mark names in
    let b = arm_others others (length m.code) round.mark in
    let m1 = arm_begun names others slots n round.mark m in
    let m2 = pushed (flat.Label label) m1 in
    let m4 = arm_done names others slots body label end n round m in
    let c = arms_listed more (label + 1) end n round m4 in
    let one : Has n ((front ++ a) ++ b) m4 = has_kept n ((front ++ a) ++ b) m1 m4 (has_arm names others slots n round.mark front m h)
    (grows_all_then m1 m2 m4 (λ skip. grows_push (flat.Label label) m1) (grows_all_then m2 (all_onto body round m2) m4 (all_grow body round m2) (λ skip. grows_push (flat.Jump end) (all_onto body round m2)))) in
    subst (λ l. Has n l (arms_onto more (label + 1) end n round m4)) (append_assoc (front ++ a) b c ∙ append_assoc front a (b ++ c))
    (has_arms more (label + 1) end n round m4 ((front ++ a) ++ b) one)

-- The search in them.

-- the names of arms alone
abbrev pub OwnNames : (List ℕ → Type 0) → Arms → Type 0
OwnNames P no_arms = Unit {0}
OwnNames P (arm_and names others slots body more) = EachName P names × OwnNames P more

pub each_name : (P Q : List ℕ → Type 0) → ((n : List ℕ) → P n → Q n) → (names : List (List ℕ)) → EachName P names → EachName Q names
each_name P Q f [] k = tt
each_name P Q f (n ∷ names) k = (f n k.0, each_name P Q f names k.1)

pub only_names : (P Q : List ℕ → Type 0) → ((n : List ℕ) → P n → Q n) → (arms : Arms) → OwnNames P arms → OwnNames Q arms
only_names P Q f no_arms k = tt
only_names P Q f (arm_and names others slots body more) k = (each_name P Q f names k.0, only_names P Q f more k.1)

pub own_names : (P : List ℕ → Type 0) (arms : Arms) → ArmNames P arms → OwnNames P arms
own_names P no_arms k = tt
own_names P (arm_and names others slots body more) k = (k.0, own_names P more k.2)

-- an arm that begins at a place and has a mark
pub record Hit (o : Option FlatArm) (target mark : ℕ) : Type 0 where
  pub arm : FlatArm
  pub is : o ≡ Some arm
  pub begins : arm.target ≡ target
  pub marks : arm.mark ≡ mark

pub hit_as : (o p : Option FlatArm) (target mark : ℕ) → o ≡ p → Hit p target mark → Hit o target mark
hit_as o p target mark e h = record { arm = h.arm; is = e ∙ h.is; begins = h.begins; marks = h.marks }

-- tells words of names apart
pub record Tells (word : List ℕ → ℕ) (v : ℕ) (name n : List ℕ) : Type 0 where
  pub same : (arm_word word n == v) ≡ bytes_eq n name
  pub filled : (arm_word word n == 0) ≡ false

module _ (word : List ℕ → ℕ) (v : ℕ) (name : List ℕ) (others : (0 == v) ≡ false) where
  abbrev Known : List ℕ → Type 0
  Known n = Tells word v name n

  if_true : {A : Type 0} (b : Bool) (x y : A) → b ≡ true → (if b then x else y) ≡ x
  if_true b x y e = rw e refl

  if_false : {A : Type 0} (b : Bool) (x y : A) → b ≡ false → (if b then x else y) ≡ y
  if_false b x y e = rw e refl

  abbrev hit_of : ℕ → ℕ → List ℕ → FlatArm
  hit_of target mark n = record { name = arm_word word n; target = target; mark = mark }

  abbrev search : List (List ℕ) → ℕ → ℕ → List Arm → Option FlatArm
  search names target mark rest = arm_named v (flat_arms word (arms_named target mark names ++ rest))

  hit_first : (b : Bool) (n : List ℕ) (names : List (List ℕ)) (target mark : ℕ) (rest : List Arm) → Known n → bytes_eq n name ≡ b → (b ≡ false → Hit (search names target mark rest) target mark) → Hit (search (n ∷ names) target mark rest) target mark
  unfolding arm_named
  hit_first true n names target mark rest known is later =
      record { arm = hit_of target mark n; is = if_true (arm_word word n == v) (Some (hit_of target mark n)) (search names target mark rest) (known.same ∙ is); begins = refl; marks = refl }
  hit_first false n names target mark rest known is later =
      hit_as _ (search names target mark rest) target mark (if_false (arm_word word n == v) (Some (hit_of target mark n)) (search names target mark rest) (known.same ∙ is)) (later refl)

  has_later : (b : Bool) (rest : Bool) → b || rest ≡ true → b ≡ false → rest ≡ true
  has_later true rest e f = absurd (true≢false f)
  has_later false rest e f = e

  pub names_hit : (names : List (List ℕ)) (target mark : ℕ) (rest : List Arm) → EachName Known names → has_name name names ≡ true → Hit (search names target mark rest) target mark
  names_hit [] target mark rest known e = absurd (true≢false (sym e))
  names_hit (n ∷ names) target mark rest known e =
      hit_first (bytes_eq n name) n names target mark rest known.0 refl (λ no. names_hit names target mark rest known.1 (has_later (bytes_eq n name) (has_name name names) e no))

  neither : (a b : Bool) → a || b ≡ false → (a ≡ false) × (b ≡ false)
  neither false false e = (refl, refl)
  neither true b e = absurd (true≢false e)
  neither false true e = absurd (true≢false e)

  pub names_miss : (names : List (List ℕ)) (target mark : ℕ) (rest : List Arm) → EachName Known names → has_name name names ≡ false → search names target mark rest ≡ arm_named v (flat_arms word rest)
  unfolding arm_named
  names_miss [] target mark rest known e = refl
  names_miss (n ∷ names) target mark rest known e =
      let k = neither (bytes_eq n name) (has_name name names) e in
      if_false (arm_word word n == v) (Some (hit_of target mark n)) (search names target mark rest) (known.0.same ∙ k.0) ∙ names_miss names target mark rest known.1 k.1

  -- those for all others have the word 0, which is that of no name
  pub names_zero : (names : List (List ℕ)) (target mark : ℕ) (rest : List Arm) → EachName Known names → arm_named 0 (flat_arms word (arms_named target mark names ++ rest)) ≡ arm_named 0 (flat_arms word rest)
  unfolding arm_named
  names_zero [] target mark rest known = refl
  names_zero (n ∷ names) target mark rest known =
      if_false (arm_word word n == 0) (Some (record { name = arm_word word n; target = target; mark = mark })) (arm_named 0 (flat_arms word (arms_named target mark names ++ rest))) known.0.filled ∙ names_zero names target mark rest known.1

  -- an arm for all others is not one of a name
  others_named : (b : Bool) (target mark : ℕ) (rest : List Arm) → arm_named v (flat_arms word (arm_others b target mark ++ rest)) ≡ arm_named v (flat_arms word rest)
  unfolding arm_named
  others_named true target mark rest = if_false (0 == v) (Some (hit_of target mark [])) (arm_named v (flat_arms word rest)) others
  others_named false target mark rest = refl

  others_hit : (target mark : ℕ) (rest : List Arm) → Hit (arm_named 0 (flat_arms word (arm_others true target mark ++ rest))) target mark
  unfolding arm_named
  others_hit target mark rest = record { arm = hit_of target mark []; is = refl; begins = refl; marks = refl }

  -- by cases on whether the first arm takes the name

  named_case : (b : Bool) (names : List (List ℕ)) (place mark : ℕ) (rest : List Arm) (o : Option ℕ) (target : ℕ) → EachName Known names → has_name name names ≡ b → (if b then Some place else o) ≡ Some target →
      (o ≡ Some target → Hit (arm_named v (flat_arms word rest)) target mark) → Hit (search names place mark rest) target mark
  named_case true names place mark rest o target known is e later = subst (λ (t : ℕ). Hit (search names place mark rest) t mark) (same_Some place target e) (names_hit names place mark rest known is)
  named_case false names place mark rest o target known is e later = hit_as _ (arm_named v (flat_arms word rest)) target mark (names_miss names place mark rest known is) (later e)

  miss_case : (b : Bool) (names : List (List ℕ)) (place mark : ℕ) (rest : List Arm) (o : Option ℕ) → EachName Known names → has_name name names ≡ b → (if b then Some place else o) ≡ None →
      (o ≡ None → arm_named v (flat_arms word rest) ≡ None) → search names place mark rest ≡ None
  miss_case true names place mark rest o known is e later = absurd (none_is_not {A = ⊥} place (sym e))
  miss_case false names place mark rest o known is e later = names_miss names place mark rest known is ∙ later e

  other_case : (b : Bool) (place mark : ℕ) (rest : List Arm) (o : Option ℕ) (target : ℕ) → (if b then Some place else o) ≡ Some target → (o ≡ Some target → Hit (arm_named 0 (flat_arms word rest)) target mark) →
      Hit (arm_named 0 (flat_arms word (arm_others b place mark ++ rest))) target mark
  other_case true place mark rest o target e later = subst (λ (t : ℕ). Hit (arm_named 0 (flat_arms word (arm_others true place mark ++ rest))) t mark) (same_Some place target e) (others_hit place mark rest)
  other_case false place mark rest o target e later = later e

  none_case : (b : Bool) (place mark : ℕ) (rest : List Arm) (o : Option ℕ) → (if b then Some place else o) ≡ None → (o ≡ None → arm_named 0 (flat_arms word rest) ≡ None) →
      arm_named 0 (flat_arms word (arm_others b place mark ++ rest)) ≡ None
  none_case true place mark rest o e later = absurd (none_is_not {A = ⊥} place (sym e))
  none_case false place mark rest o e later = later e

  module _ (end n : ℕ) (round : Round) where
    abbrev listed : Arms → ℕ → Made → List Arm
    listed arms label m = arms_listed arms label end n round m

    abbrev next : List (List ℕ) → Bool → List ℕ → Stmts → ℕ → Made → Made
    next names others slots body label m = arm_done names others slots body label end n round m

    pub named_hit : (arms : Arms) (label : ℕ) (m : Made) (target : ℕ) → OwnNames Known arms → named_at arms label end n round m name ≡ Some target → Hit (arm_named v (flat_arms word (listed arms label m))) target round.mark
    named_hit no_arms label m target known e = none_is_not target e
    named_hit (arm_and names rest_of slots body more) label m target known e =
        let m4 = next names rest_of slots body label m in
        named_case (has_name name names) names (length m.code) round.mark (arm_others rest_of (length m.code) round.mark ++ listed more (label + 1) m4) (named_at more (label + 1) end n round m4 name) target known.0 refl e
        (λ h. hit_as _ (arm_named v (flat_arms word (listed more (label + 1) m4))) target round.mark (others_named rest_of (length m.code) round.mark (listed more (label + 1) m4)) (named_hit more (label + 1) m4 target known.1 h))

    pub named_miss : (arms : Arms) (label : ℕ) (m : Made) → OwnNames Known arms → named_at arms label end n round m name ≡ None → arm_named v (flat_arms word (listed arms label m)) ≡ None
    unfolding arm_named
    named_miss no_arms label m known e = refl
    named_miss (arm_and names rest_of slots body more) label m known e =
        let m4 = next names rest_of slots body label m in
        miss_case (has_name name names) names (length m.code) round.mark (arm_others rest_of (length m.code) round.mark ++ listed more (label + 1) m4) (named_at more (label + 1) end n round m4 name) known.0 refl e
        (λ h. others_named rest_of (length m.code) round.mark (listed more (label + 1) m4) ∙ named_miss more (label + 1) m4 known.1 h)

    pub other_hit : (arms : Arms) (label : ℕ) (m : Made) (target : ℕ) → OwnNames Known arms → other_at arms label end n round m ≡ Some target → Hit (arm_named 0 (flat_arms word (listed arms label m))) target round.mark
    other_hit no_arms label m target known e = none_is_not target e
    other_hit (arm_and names rest_of slots body more) label m target known e =
        let m4 = next names rest_of slots body label m in
        hit_as _ (arm_named 0 (flat_arms word (arm_others rest_of (length m.code) round.mark ++ listed more (label + 1) m4))) target round.mark
        (names_zero names (length m.code) round.mark (arm_others rest_of (length m.code) round.mark ++ listed more (label + 1) m4) known.0)
        (other_case rest_of (length m.code) round.mark (listed more (label + 1) m4) (other_at more (label + 1) end n round m4) target e (λ h. other_hit more (label + 1) m4 target known.1 h))

    pub other_miss : (arms : Arms) (label : ℕ) (m : Made) → OwnNames Known arms → other_at arms label end n round m ≡ None → arm_named 0 (flat_arms word (listed arms label m)) ≡ None
    unfolding arm_named
    other_miss no_arms label m known e = refl
    other_miss (arm_and names rest_of slots body more) label m known e =
        let m4 = next names rest_of slots body label m in
        names_zero names (length m.code) round.mark (arm_others rest_of (length m.code) round.mark ++ listed more (label + 1) m4) known.0
        ∙ none_case rest_of (length m.code) round.mark (listed more (label + 1) m4) (other_at more (label + 1) end n round m4) e (λ h. other_miss more (label + 1) m4 known.1 h)
