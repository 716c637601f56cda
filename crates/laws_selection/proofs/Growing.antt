-- What is written grows.
use Rattle.std.proofs.Common.{Bool, true, false, ◌≡◌, ◌∙◌, ◌≢◌, ℕ, ℤ, pos, zero, suc, ◌%◌, ◌<◌, ◌≤◌, List, [], ◌∷◌, ◌++◌, length, slice_get, slice_set, Option, Some, None, refl, ap, sym, subst, arith, append_assoc, append-nil}
use Rattle.std.specs.Prelude.{◌&&◌, nat_lt}
use Rattle.std.proofs.lemmas.List.{length-append}
use Rattle.clu_object.specs.declared.object.Hole.{Hole}
use Rattle.clu_wir.specs.declared.hole.HoleKind.{HoleKind}
use Rattle.clu_wir.specs.Numbers.{kind_number}
use Rattle.rv_isa.specs.declared.instr.Instr.{Instr}
use Rattle.rv_isa.specs.declared.instr.Instr.TheVariants as instr
use Rattle.rv_isa.specs.declared.op.Op.TheVariants as op
use Rattle.rv_select.specs.declared.register.Register.{Register}
use Rattle.rv_select.specs.Registers.{register_number}
use Rattle.rv_select.specs.declared.words.Reference.{Reference}
use Rattle.rv_select.specs.declared.operand.Scope.{Scope}
use Rattle.rv_select.specs.Evaluation.{binding}
use Rattle.rv_select.specs.Finished.{bytes_between, with_bytes}
use Rattle.rv_select.specs.Operands.{has_free, taking}
use Rattle.rv_select.specs.Slots.{is_reached, reaching}
use Rattle.rv_select.specs.Written.{Written, emitted, fresh, hole_onto, holed, noted, placed, referred}
use Rattle.laws_selection.specs.Running.{At, Code}
use Rattle.laws_selection.specs.Growing.{Adds, Before, Behind, Extends, Front, Holed, HolesBefore, HolesBehind, Sound, address}

behind_less : (n m : ℕ) (rs : List Reference) → n ≤ m → Behind m rs → Behind n rs
behind_less n m [] l b = tt
behind_less n m (r ∷ rs) l b = let first = b.0 in (omega arith, behind_less n m rs l b.1)

behind_append : (n : ℕ) (rs ss : List Reference) → Behind n rs → Behind n ss → Behind n (rs ++ ss)
behind_append n [] ss a b = b
behind_append n (r ∷ rs) ss a b = (a.0, behind_append n rs ss a.1 b)

before_more : (n m : ℕ) (rs : List Reference) → n ≤ m → Before n rs → Before m rs
before_more n m [] l b = tt
before_more n m (r ∷ rs) l b = let first = b.0 in (omega arith, before_more n m rs l b.1)

before_append : (n : ℕ) (rs ss : List Reference) → Before n rs → Before n ss → Before n (rs ++ ss)
before_append n [] ss a b = b
before_append n (r ∷ rs) ss a b = (a.0, before_append n rs ss a.1 b)

holes_less : (n m : ℕ) (hs : List Hole) → n ≤ m → HolesBehind m hs → HolesBehind n hs
holes_less n m [] l b = tt
holes_less n m (h ∷ hs) l b = let first = b.0 in (omega arith, holes_less n m hs l b.1)

holes_append : (n : ℕ) (hs gs : List Hole) → HolesBehind n hs → HolesBehind n gs → HolesBehind n (hs ++ gs)
holes_append n [] gs a b = b
holes_append n (h ∷ hs) gs a b = (a.0, holes_append n hs gs a.1 b)

filled_more : (n m : ℕ) (hs : List Hole) → n ≤ m → HolesBefore n hs → HolesBefore m hs
filled_more n m [] l b = tt
filled_more n m (h ∷ hs) l b = let first = b.0 in (omega arith, filled_more n m hs l b.1)

filled_append : (n : ℕ) (hs gs : List Hole) → HolesBefore n hs → HolesBefore n gs → HolesBefore n (hs ++ gs)
filled_append n [] gs a b = b
filled_append n (h ∷ hs) gs a b = (a.0, filled_append n hs gs a.1 b)

extends_same : (w : Written) → Extends w w
extends_same w = record { words = []; code = sym (append-nil w.code); more = []; references = sym (append-nil w.references); behind = tt; within = tt; others = []; holes = sym (append-nil w.holes); holes_behind = tt; holes_within = tt; fits = λ e. e }

longer : (w v : Written) → Extends w v → length w.code ≤ length v.code
longer w v e = rw e.code (omega (arith, length-append w.code e.words))

pub extends_then : (u w v : Written) → Extends u w → Extends w v → Extends u v
extends_then u w v a b = record {
  words = a.words ++ b.words;
  code = b.code ∙ ap (λ (c : List Instr). c ++ b.words) a.code ∙ append_assoc u.code a.words b.words;
  more = a.more ++ b.more;
  references = b.references ∙ ap (λ (c : List Reference). c ++ b.more) a.references ∙ append_assoc u.references a.more b.more;
  behind = behind_append (length u.code) a.more b.more a.behind (behind_less (length u.code) (length w.code) b.more (longer u w a) b.behind);
  within = before_append (length v.code) a.more b.more (before_more (length w.code) (length v.code) a.more (longer w v b) a.within) b.within;
  others = a.others ++ b.others;
  holes = b.holes ∙ ap (λ (c : List Hole). c ++ b.others) a.holes ∙ append_assoc u.holes a.others b.others;
  holes_behind = holes_append (length u.code) a.others b.others a.holes_behind (holes_less (length u.code) (length w.code) b.others (longer u w a) b.holes_behind);
  holes_within = filled_append (length v.code) a.others b.others (filled_more (length w.code) (length v.code) a.others (longer w v b) a.holes_within) b.holes_within;
  fits = λ e. a.fits (b.fits e);
}

pub before_then : (w v : Written) → Extends w v → Before (length w.code) w.references → Before (length v.code) v.references
before_then w v e b = subst (λ (rs : List Reference). Before (length v.code) rs) (sym e.references)
    (before_append (length v.code) w.references e.more (before_more (length w.code) (length v.code) w.references (longer w v e) b) e.within)

pub sound_then : (w v : Written) → Extends w v → Sound w → Sound v
sound_then w v e s = record {
  before = before_then w v e s.before;
  filled = subst (λ (hs : List Hole). HolesBefore (length v.code) hs) (sym e.holes)
      (filled_append (length v.code) w.holes e.others (filled_more (length w.code) (length v.code) w.holes (longer w v e) s.filled) e.holes_within);
}

pub adds_same : (w : Written) → Adds w w
adds_same w = record { extends = extends_same w; below = λ l h. refl; count = omega arith }

pub adds_then : (u w v : Written) → Adds u w → Adds w v → Adds u v
adds_then u w v a b =
    let first = a.count in
    let second = b.count in
    record { extends = extends_then u w v a.extends b.extends; below = λ l h. b.below l (omega arith) ∙ a.below l h; count = omega arith }

get_inside : {A : Type 0} (xs : List A) (l : ℕ) (x : A) → slice_get xs l ≡ Some x → l < length xs
get_inside [] l x e = absurd (cc)
get_inside (y ∷ xs) zero x e = omega arith
get_inside (y ∷ xs) (suc l) x e = let deeper = get_inside xs l x e in omega arith

pub front_adds : (u w v : Written) → Adds u w → Front w v → Front u v
front_adds u w v a f = record {
  extends = extends_then u w v a.extends f.extends;
  places = λ l p e. f.places l p (a.below l (get_inside u.labels l (Some p) e) ∙ e);
}

pub emitted_adds : (i : Instr) (w : Written) → Adds w (emitted i w)
unfolding emitted
emitted_adds i w = record {
  extends = record { words = i ∷ []; code = refl; more = []; references = sym (append-nil w.references); behind = tt; within = tt; others = []; holes = sym (append-nil w.holes); holes_behind = tt; holes_within = tt; fits = λ e. e };
  below = λ l h. refl;
  count = omega arith;
}

pub emitted_length : (i : Instr) (w : Written) → length (emitted i w).code ≡ suc (length w.code)
unfolding emitted
emitted_length i w = omega (arith, length-append w.code (i ∷ []))

-- the two words of a hole
abbrev pub hole_at : HoleKind → ℕ → Written → Hole
hole_at kind number w = record { at = length w.code; kind = kind_number kind; number = number }

pub hole_adds : (to : Register) (kind : HoleKind) (number : ℕ) (w : Written) → Adds w (hole_onto to kind number w)
unfolding holed emitted
hole_adds to kind number w =
    let i = instr.Upper op.Lui (register_number to) (pos 0) in
    let j = instr.Imm op.Addi (register_number to) (register_number to) (pos 0) in
    let long : length ((w.code ++ i ∷ []) ++ j ∷ []) ≡ suc (suc (length w.code)) = omega (arith, length-append (w.code ++ i ∷ []) (j ∷ []), length-append w.code (i ∷ [])) in
    record {
      extends = record {
        words = i ∷ j ∷ [];
        code = append_assoc w.code (i ∷ []) (j ∷ []);
        more = [];
        references = sym (append-nil w.references);
        behind = tt;
        within = tt;
        others = hole_at kind number w ∷ [];
        holes = refl;
        holes_behind = (omega arith, tt);
        holes_within = (omega (arith, long), tt);
        fits = λ e. e;
      };
      below = λ l h. refl;
      count = omega arith;
    }

pub hole_length : (to : Register) (kind : HoleKind) (number : ℕ) (w : Written) → length (hole_onto to kind number w).code ≡ suc (suc (length w.code))
unfolding holed emitted
hole_length to kind number w =
    let i = instr.Upper op.Lui (register_number to) (pos 0) in
    let j = instr.Imm op.Addi (register_number to) (register_number to) (pos 0) in
    omega (arith, length-append (w.code ++ i ∷ []) (j ∷ []), length-append w.code (i ∷ []))

get_append : {A : Type 0} (xs ys : List A) (l : ℕ) → l < length xs → slice_get (xs ++ ys) l ≡ slice_get xs l
get_append [] ys l h = absurd (omega arith)
get_append (x ∷ xs) ys zero h = refl
get_append (x ∷ xs) ys (suc l) h = get_append xs ys l (omega arith)

abbrev one_label : List (Option ℕ)
one_label = None ∷ []

pub fresh_adds : (w : Written) → Adds w (fresh w)
unfolding fresh
fresh_adds w = record {
  extends = record { words = []; code = sym (append-nil w.code); more = []; references = sym (append-nil w.references); behind = tt; within = tt; others = []; holes = sym (append-nil w.holes); holes_behind = tt; holes_within = tt; fits = λ e. e };
  below = λ l h. get_append w.labels (None ∷ []) l h;
  count = omega (arith, length-append w.labels one_label);
}

pub referred_adds : (i : Instr) (l : ℕ) (w : Written) → Adds w (referred i l w)
unfolding noted emitted
referred_adds i l w = record {
  extends = record {
    words = i ∷ [];
    code = refl;
    more = record { at = length w.code; label = l; instr = i } ∷ [];
    references = refl;
    behind = (omega arith, tt);
    within = (omega (arith, length-append w.code (i ∷ [])), tt);
    others = [];
    holes = sym (append-nil w.holes);
    holes_behind = tt;
    holes_within = tt;
    fits = λ e. e;
  };
  below = λ l h. refl;
  count = omega arith;
}

pub referred_length : (i : Instr) (l : ℕ) (w : Written) → length (referred i l w).code ≡ suc (length w.code)
unfolding noted emitted
referred_length i l w = omega (arith, length-append w.code (i ∷ []))

pub set_other : {A : Type 0} (xs : List A) (n l : ℕ) (x : A) → l ≢ n → slice_get (slice_set xs n x) l ≡ slice_get xs l
set_other [] n l x d = refl
set_other (y ∷ xs) zero zero x d = absurd (d refl)
set_other (y ∷ xs) zero (suc l) x d = refl
set_other (y ∷ xs) (suc n) zero x d = refl
set_other (y ∷ xs) (suc n) (suc l) x d = set_other xs n l x (λ e. d (ap suc e))

pub set_same : {A : Type 0} (xs : List A) (n : ℕ) (x : A) → n < length xs → slice_get (slice_set xs n x) n ≡ Some x
set_same [] n x h = absurd (omega arith)
set_same (y ∷ xs) zero x h = refl
set_same (y ∷ xs) (suc n) x h = set_same xs n x (omega arith)

pub length_set : {A : Type 0} (xs : List A) (n : ℕ) (x : A) → length (slice_set xs n x) ≡ length xs
length_set [] n x = refl
length_set (y ∷ xs) zero x = refl
length_set (y ∷ xs) (suc n) x = ap suc (length_set xs n x)

-- a label that was made since
pub placed_adds : (w v : Written) (l : ℕ) → Adds w v → length w.labels ≤ l → Adds w (placed l v)
unfolding placed
placed_adds w v l a h = record {
  extends = record { words = a.extends.words; code = a.extends.code; more = a.extends.more; references = a.extends.references; behind = a.extends.behind; within = a.extends.within; others = a.extends.others; holes = a.extends.holes; holes_behind = a.extends.holes_behind; holes_within = a.extends.holes_within; fits = a.extends.fits };
  below = λ k s. set_other v.labels l k (Some (length v.code)) (λ e. absurd (omega arith)) ∙ a.below k s;
  count = subst (λ n. length w.labels ≤ n) (sym (length_set v.labels l (Some (length v.code)))) a.count;
}

by_label : (v W : Written) (l k p : ℕ) → slice_get v.labels l ≡ Some None → slice_get v.labels k ≡ Some (Some p) → k ≢ l
by_label v W l k p n e same = absurd (cc (ap (slice_get v.labels) same))

-- a label that had no place
pub front_placed : (v W : Written) (l : ℕ) → slice_get v.labels l ≡ Some None → Front (placed l v) W → Front v W
unfolding placed
front_placed v W l n f = record {
  extends = record { words = f.extends.words; code = f.extends.code; more = f.extends.more; references = f.extends.references; behind = f.extends.behind; within = f.extends.within; others = f.extends.others; holes = f.extends.holes; holes_behind = f.extends.holes_behind; holes_within = f.extends.holes_within; fits = f.extends.fits };
  places = λ k p e. f.places k p (set_other v.labels l k (Some (length v.code)) (by_label v W l k p n e) ∙ e);
}

pub placed_there : (v W : Written) (l : ℕ) → l < length v.labels → Front (placed l v) W → slice_get W.labels l ≡ Some (Some (length v.code))
unfolding placed
placed_there v W l h f = f.places l (length v.code) (set_same v.labels l (Some (length v.code)) h)

pub placed_length : (l : ℕ) (v : Written) → length (placed l v).code ≡ length v.code
unfolding placed
placed_length l v = refl

pub placed_sound : (l : ℕ) (v : Written) → Sound v → Sound (placed l v)
unfolding placed
placed_sound l v s = record { before = s.before; filled = s.filled }

pub fresh_length : (w : Written) → length (fresh w).code ≡ length w.code
unfolding fresh
fresh_length w = refl

pub fresh_label : (w : Written) → (length w.labels < length (fresh w).labels) × (slice_get (fresh w).labels (length w.labels) ≡ Some None)
unfolding fresh
fresh_label w = (omega (arith, length-append w.labels one_label), at_end w.labels)
  where
    at_end : (xs : List (Option ℕ)) → slice_get (xs ++ None ∷ []) (length xs) ≡ Some None
    at_end [] = refl
    at_end (x ∷ xs) = at_end xs

pub extends_longer : (w v : Written) → Extends w v → length w.code ≤ length v.code
extends_longer w v e = longer w v e

pub placed_other : (l k : ℕ) (v : Written) → k ≢ l → slice_get (placed l v).labels k ≡ slice_get v.labels k
unfolding placed
placed_other l k v d = set_other v.labels l k (Some (length v.code)) d

pub placed_count : (l : ℕ) (v : Written) → length (placed l v).labels ≡ length v.labels
unfolding placed
placed_count l v = length_set v.labels l (Some (length v.code))

-- What fits.

abbrev pub both_of : Bool → Bool → Type 0
both_of a b = (a ≡ true) × (b ≡ true)

pub and_true : (a b : Bool) → (a && b) ≡ true → both_of a b
and_true true b e = (refl, e)
and_true false b e = absurd (cc)

-- a test that is seen to the end changes nothing else
pub tested_adds : (b : Bool) (w : Written) → Adds w (record w { fits = w.fits && b })
tested_adds b w = record {
  extends = record { words = []; code = sym (append-nil w.code); more = []; references = sym (append-nil w.references); behind = tt; within = tt; others = []; holes = sym (append-nil w.holes); holes_behind = tt; holes_within = tt; fits = λ e. (and_true w.fits b e).0 };
  below = λ l h. refl;
  count = omega arith;
}

pub tested : (b : Bool) (w W : Written) → W.fits ≡ true → Front (record w { fits = w.fits && b }) W → b ≡ true
tested b w W e f = (and_true w.fits b (f.extends.fits e)).1

pub taking_adds : (s : Scope) (w : Written) → Adds w (taking s w)
taking_adds s w = tested_adds (has_free s) w

pub binding_adds : (number : ℕ) (w : Written) → Adds w (binding number w)
binding_adds number w = tested_adds (nat_lt number 4) w

pub reaching_adds : (d : ℤ) (w : Written) → Adds w (reaching d w)
reaching_adds d w = tested_adds (is_reached d) w

-- The same as Stands, of what is written so far.
pub record Stood (W : Written) (code : Code) (base : ℕ) (hole : HoleKind → ℕ → ℕ) : Type 0 where
  pub holed : (kind : HoleKind) (number : ℕ) (to : Register) (w : Written) → Sound w → Front (hole_onto to kind number w) W → Holed code (address base (length w.code)) (register_number to) (hole kind number)
  pub aligned : base % 4 ≡ 0
  pub fits : W.fits ≡ true
  pub plain : (i : Instr) (w : Written) → Sound w → Front (emitted i w) W → At code (address base (length w.code)) i
  pub named : (i : Instr) (l p : ℕ) (w : Written) → Sound w → Front (referred i l w) W → slice_get W.labels l ≡ Some (Some p) →
      At code (address base (length w.code)) (with_bytes i (bytes_between (length w.code) p))
