-- In the finished words each instruction stands where it was written.
use Rattle.std.proofs.Common.{◌≡◌, ◌∙◌, ◌≢◌, ℕ, zero, suc, pos, List, [], ◌∷◌, ◌++◌, length, slice_get, slice_set, Option, Some, None, refl, ap, sym, subst, arith, append_assoc}
use Rattle.std.proofs.lemmas.List.{length-append}
use Rattle.clu_object.specs.declared.object.Hole.{Hole}
use Rattle.clu_wir.specs.declared.hole.HoleKind.{HoleKind}
use Rattle.rv_isa.specs.declared.instr.Instr.{Instr}
use Rattle.rv_isa.specs.declared.instr.Instr.TheVariants as instr
use Rattle.rv_isa.specs.declared.op.Op.TheVariants as op
use Rattle.rv_select.specs.declared.register.Register.{Register}
use Rattle.rv_select.specs.declared.words.Reference.{Reference}
use Rattle.rv_select.specs.Registers.{register_number}
use Rattle.rv_select.specs.Finished.{all_landed, bytes_between, finished, landed, landed_at, with_bytes}
use Rattle.rv_select.specs.Written.{Written, emitted, hole_onto, holed, noted, referred}
use Rattle.laws_selection.specs.Running.{Code}
use Rattle.laws_selection.specs.Growing.{Before, Behind, Front, HolesBefore, HolesBehind, IsUnholed, Sound, Stands}
use Rattle.laws_selection.proofs.Growing.{Stood, before_then, emitted_adds, emitted_length, front_adds, hole_at, referred_length}

set_other : {A : Type 0} (xs : List A) (n l : ℕ) (x : A) → l ≢ n → slice_get (slice_set xs n x) l ≡ slice_get xs l
set_other [] n l x d = refl
set_other (y ∷ xs) zero zero x d = absurd (d refl)
set_other (y ∷ xs) zero (suc l) x d = refl
set_other (y ∷ xs) (suc n) zero x d = refl
set_other (y ∷ xs) (suc n) (suc l) x d = set_other xs n l x (λ e. d (ap suc e))

set_there : {A : Type 0} (xs : List A) (n : ℕ) (x y : A) → slice_get xs n ≡ Some y → slice_get (slice_set xs n x) n ≡ Some x
set_there [] n x y e = absurd (cc)
set_there (z ∷ xs) zero x y e = refl
set_there (z ∷ xs) (suc n) x y e = set_there xs n x y e

get_front : {A : Type 0} (xs : List A) (x : A) (more : List A) → slice_get (xs ++ x ∷ more) (length xs) ≡ Some x
get_front [] x more = refl
get_front (y ∷ xs) x more = get_front xs x more

abbrev Apart : ℕ → List Reference → Type 0
Apart k [] = Unit {0}
Apart k (r ∷ rs) = (k ≢ r.at) × Apart k rs

before_apart : (k : ℕ) (rs : List Reference) → Before k rs → Apart k rs
before_apart k [] b = tt
before_apart k (r ∷ rs) b = let first = b.0 in ((λ e. absurd (omega arith)), before_apart k rs b.1)

behind_apart : (k : ℕ) (rs : List Reference) → Behind (suc k) rs → Apart k rs
behind_apart k [] b = tt
behind_apart k (r ∷ rs) b = let first = b.0 in ((λ e. absurd (omega arith)), behind_apart k rs b.1)

apart_append : (k : ℕ) (rs ss : List Reference) → Apart k rs → Apart k ss → Apart k (rs ++ ss)
apart_append k [] ss a b = b
apart_append k (r ∷ rs) ss a b = (a.0, apart_append k rs ss a.1 b)

landed_other : (labels : List (Option ℕ)) (r : Reference) (code : List Instr) (k : ℕ) → k ≢ r.at → slice_get (landed labels r code) k ≡ slice_get code k
unfolding landed
landed_other labels r code k d = by (slice_get labels r.label)
  where
    by : (o : Option (Option ℕ)) → slice_get (landed_at o r code) k ≡ slice_get code k
    by None = refl
    by (Some None) = refl
    by (Some (Some place)) = set_other code r.at k _ d

all_other : (labels : List (Option ℕ)) (rs : List Reference) (code : List Instr) (k : ℕ) → Apart k rs → slice_get (all_landed labels rs code) k ≡ slice_get code k
all_other labels [] code k a = refl
all_other labels (r ∷ rs) code k a = all_other labels rs (landed labels r code) k a.1 ∙ landed_other labels r code k a.0

landed_there : (labels : List (Option ℕ)) (r : Reference) (code : List Instr) (word : Instr) (place : ℕ) → slice_get labels r.label ≡ Some (Some place) → slice_get code r.at ≡ Some word →
    slice_get (landed labels r code) r.at ≡ Some (with_bytes r.instr (bytes_between r.at place))
unfolding landed
landed_there labels r code word place l e = ap (λ o. slice_get (landed_at o r code) r.at) l ∙ set_there code r.at _ word e

all_there : (labels : List (Option ℕ)) (before : List Reference) (r : Reference) (after : List Reference) (code : List Instr) (word : Instr) (place : ℕ) → Apart r.at before → Apart r.at after → slice_get labels r.label ≡ Some (Some place) → slice_get code r.at ≡ Some word →
    slice_get (all_landed labels (before ++ r ∷ after) code) r.at ≡ Some (with_bytes r.instr (bytes_between r.at place))
all_there labels [] r after code word place a b l e = all_other labels after (landed labels r code) r.at b ∙ landed_there labels r code word place l e
all_there labels (q ∷ before) r after code word place a b l e = all_there labels before r after (landed labels q code) word place a.1 b l (landed_other labels q code r.at a.0 ∙ e)

-- one that names no label
pub plain_there : (i : Instr) (w W : Written) → Before (length w.code) w.references → Front (emitted i w) W → slice_get (finished W) (length w.code) ≡ Some i
unfolding finished emitted
plain_there i w W before f =
    let k = length w.code in
    let e = f.extends in
    let long : length (w.code ++ i ∷ []) ≡ suc k = omega (arith, length-append w.code (i ∷ [])) in
    let apart : Apart k W.references = subst (Apart k) (sym e.references) (apart_append k w.references e.more (before_apart k w.references before) (behind_apart k e.more (subst (λ n. Behind n e.more) long e.behind))) in
    all_other W.labels W.references W.code k apart ∙ ap (λ c. slice_get c k) (e.code ∙ append_assoc w.code (i ∷ []) e.words) ∙ get_front w.code i e.words

-- one that names a label
pub named_there : (i : Instr) (l p : ℕ) (w W : Written) → Sound w → Front (referred i l w) W → slice_get W.labels l ≡ Some (Some p) → slice_get (finished W) (length w.code) ≡ Some (with_bytes i (bytes_between (length w.code) p))
unfolding finished noted emitted
named_there i l p w W sound f is =
    let k = length w.code in
    let e = f.extends in
    let r : Reference = record { at = k; label = l; instr = i } in
    let long : length (w.code ++ i ∷ []) ≡ suc k = omega (arith, length-append w.code (i ∷ [])) in
    let refs : W.references ≡ w.references ++ r ∷ e.more = e.references ∙ append_assoc w.references (r ∷ []) e.more in
    let word : slice_get W.code k ≡ Some i = ap (λ c. slice_get c k) (e.code ∙ append_assoc w.code (i ∷ []) e.words) ∙ get_front w.code i e.words in
    ap (λ rs. slice_get (all_landed W.labels rs W.code) k) refs
    ∙ all_there W.labels w.references r e.more W.code i p (before_apart k w.references sound.before) (behind_apart k e.more (subst (λ n. Behind n e.more) long e.behind)) is word

-- no hole has it
unholed_before : (k : ℕ) (hs : List Hole) → HolesBefore k hs → IsUnholed k hs
unholed_before k [] b = tt
unholed_before k (h ∷ hs) b = let first = b.0 in ((λ e. absurd (omega arith)), (λ e. absurd (omega arith)), unholed_before k hs b.1)

unholed_behind : (k : ℕ) (hs : List Hole) → HolesBehind (suc k) hs → IsUnholed k hs
unholed_behind k [] b = tt
unholed_behind k (h ∷ hs) b = let first = b.0 in ((λ e. absurd (omega arith)), (λ e. absurd (omega arith)), unholed_behind k hs b.1)

unholed_append : (k : ℕ) (hs gs : List Hole) → IsUnholed k hs → IsUnholed k gs → IsUnholed k (hs ++ gs)
unholed_append k [] gs a b = b
unholed_append k (h ∷ hs) gs a b = (a.0, a.1, unholed_append k hs gs a.2 b)

unholed_there : (w v W : Written) → Sound w → length v.code ≡ suc (length w.code) → v.holes ≡ w.holes → Front v W → IsUnholed (length w.code) W.holes
unholed_there w v W sound long same f =
    let k = length w.code in
    let e = f.extends in
    subst (IsUnholed k) (sym (e.holes ∙ ap (λ hs. hs ++ e.others) same))
    (unholed_append k w.holes e.others (unholed_before k w.holes sound.filled) (unholed_behind k e.others (subst (λ n. HolesBehind n e.others) long e.holes_behind)))

emitted_holes : (i : Instr) (w : Written) → (emitted i w).holes ≡ w.holes
unfolding emitted
emitted_holes i w = refl

noted_holes : (i : Instr) (l : ℕ) (w : Written) → (referred i l w).holes ≡ w.holes
unfolding emitted noted
noted_holes i l w = refl

-- the words of a hole
record HoleWords (W : Written) (k to : ℕ) : Type 0 where
  first : slice_get (finished W) k ≡ Some (instr.Upper op.Lui to (pos 0))
  second : slice_get (finished W) (suc k) ≡ Some (instr.Imm op.Addi to to (pos 0))

hole_words : (kind : HoleKind) (number : ℕ) (to : Register) (w W : Written) → Sound w → Front (hole_onto to kind number w) W → HoleWords W (length w.code) (register_number to)
unfolding holed
hole_words kind number to w W sound f =
    let i = instr.Upper op.Lui (register_number to) (pos 0) in
    let j = instr.Imm op.Addi (register_number to) (register_number to) (pos 0) in
    let w1 = holed kind number w in
    let w2 = emitted i w1 in
    let long : length w2.code ≡ suc (length w.code) = emitted_length i w1 in
    let f2 = front_adds w2 (emitted j w2) W (emitted_adds j w2) f in
    let later : Before (length w2.code) w2.references = before_then w1 w2 (emitted_adds i w1).extends sound.before in
    record { first = plain_there i w1 W sound.before f2; second = subst (λ k. slice_get (finished W) k ≡ Some j) long (plain_there j w2 W later f) }

hole_there : (kind : HoleKind) (number : ℕ) (to : Register) (w W : Written) → Front (hole_onto to kind number w) W → slice_get W.holes (length w.holes) ≡ Some (hole_at kind number w)
unfolding holed emitted
hole_there kind number to w W f =
    let e = f.extends in
    ap (λ hs. slice_get hs (length w.holes)) (e.holes ∙ append_assoc w.holes (hole_at kind number w ∷ []) e.others) ∙ get_front w.holes (hole_at kind number w) e.others

-- what stands in the end stands where it was written
pub stood : (W : Written) (code : Code) (base : ℕ) (hole : HoleKind → ℕ → ℕ) → Stands W code base hole → Stood W code base hole
stood W code base hole s = record {
  aligned = s.aligned;
  fits = s.fits;
  holed = λ kind number to w sound f. let words = hole_words kind number to w W sound f in
      s.filled kind number (register_number to) (length w.code) (length w.holes) (hole_there kind number to w W f) words.first words.second;
  plain = λ i w sound f. s.plain (length w.code) i (plain_there i w W sound.before f) (unholed_there w (emitted i w) W sound (emitted_length i w) (emitted_holes i w) f);
  named = λ i l p w sound f is. s.plain (length w.code) (with_bytes i (bytes_between (length w.code) p)) (named_there i l p w W sound f is)
      (unholed_there w (referred i l w) W sound (referred_length i l w) (noted_holes i l w) f);
}
