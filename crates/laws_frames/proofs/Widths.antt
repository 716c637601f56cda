-- The slots that steps name are of their frame, and no label stands twice, as flattening promises.
use Rattle.std.proofs.Common.{◌≡◌, ◌∙◌, ℕ, zero, suc, ◌+◌, ◌<◌, ◌≤◌, ◌==◌, Bool, true, false, not, List, [], ◌∷◌, ◌++◌, length, Option, Some, None, slice_get, refl, ap, sym, subst, arith, true≢false}
use Rattle.std.specs.Prelude.{◌||◌, nat_le, nat_lt}
use Rattle.std.specs.Option.{option_to_list}
use Rattle.std.proofs.lemmas.Bool.{and_parts}
use Rattle.std.proofs.lemmas.Bool.Decides.{nat_tests}
use Rattle.std.proofs.lemmas.Option.{same_Some}
use Rattle.clu_base.proofs.Lists.{none_is_not}
use Rattle.clu_wir.specs.Plain.{Expr, expr_of, expr_step}
use Rattle.clu_wir.specs.Plain as plain
use Rattle.clu_wir.specs.Widths.{slots_of, slots_step}
use Rattle.clu_wir.specs.declared.expression.WExpr.{WExpr, WExpr-F, fold_out-WExpr, map-WExpr, out-WExpr}
use Rattle.clu_frames.specs.declared.flat.Flat.{Flat}
use Rattle.clu_frames.specs.declared.flat.Flat.TheVariants as steps
use Rattle.clu_frames.specs.Labels.{differ, is_among, label_of, labels_of}
use Rattle.clu_frames.specs.Plain.{Step, plain_code, step_of}
use Rattle.clu_frames.specs.Plain as flat
use Rattle.clu_frames.specs.Flattening.{Made, moves_onto, pushed, sets_onto, slot_of}
use Rattle.clu_frames.specs.Within.{are_within, is_within, value_within}
use Rattle.clu_frames.proofs.Numbering.{labels_cons}
use Rattle.clu_flat_meaning.proofs.Runs.{Front, Once, at_push, front_more}
use Rattle.laws_frames.proofs.Fronts.{front_moves, front_sets}

-- Slots of steps.

abbrev pub IsSlot : ℕ → Option ℕ → Type 0
IsSlot frame None = Unit {0}
IsSlot frame (Some n) = n < frame

abbrev pub Fits : ℕ → Step → Type 0
Fits frame (flat.Set to e) = (to < frame) × IsSlot frame (slot_of e)
Fits frame (flat.Take to) = to < frame
Fits frame _ = Unit {0}

slot_fits : (frame : ℕ) (x : WExpr-F WExpr) → slots_step (map-WExpr WExpr ℕ slots_of x) ≤ frame → IsSlot frame (slot_of (expr_step (map-WExpr WExpr Expr expr_of x)))
slot_fits frame (WExpr-F.Slot n) l = omega (arith, l)
slot_fits frame (WExpr-F.Word w) l = tt
slot_fits frame (WExpr-F.Hole kind number) l = tt
slot_fits frame (WExpr-F.Load address bytes) l = tt
slot_fits frame (WExpr-F.Byte address) l = tt
slot_fits frame (WExpr-F.Binary op left right) l = tt
slot_fits frame (WExpr-F.If condition first other) l = tt
slot_fits frame (WExpr-F.Check condition trap value) l = tt
slot_fits frame (WExpr-F.With values body) l = tt
slot_fits frame (WExpr-F.Bound number) l = tt

pub is_le : (a b : ℕ) → nat_le a b ≡ true → a ≤ b
is_le a b e = grind (arith, nat_tests, e)

pub is_lt : (a b : ℕ) → nat_lt a b ≡ true → a < b
is_lt a b e = grind (arith, nat_tests, e)

value_fits : (frame : ℕ) (value : WExpr) → value_within frame value ≡ true → IsSlot frame (slot_of (expr_of value))
value_fits frame value e =
    subst (λ (x : Expr). IsSlot frame (slot_of x)) (sym (fold_out-WExpr Expr expr_step value))
    (slot_fits frame (out-WExpr value) (subst (λ (n : ℕ). n ≤ frame) (fold_out-WExpr ℕ slots_step value) (is_le (slots_of value) frame e)))

step_fits : (frame : ℕ) (step : Flat) → is_within frame step ≡ true → Fits frame (step_of step)
step_fits frame (steps.Set to value) e = let k = and_parts (nat_lt to frame) (value_within frame value) e in (is_lt to frame k.0, value_fits frame value k.1)
step_fits frame (steps.Take to) e = is_lt to frame e
step_fits frame _ e = tt

-- each step of the code
abbrev pub AllFit : ℕ → List Step → Type 0
AllFit frame code = (n : ℕ) (step : Step) → slice_get code n ≡ Some step → Fits frame step

pub all_fit : (frame : ℕ) (code : List Flat) → are_within frame code ≡ true → AllFit frame (plain_code code)
all_fit frame [] e n step h = none_is_not step h
all_fit frame (x ∷ code) e zero step h = subst (Fits frame) (same_Some (step_of x) step h) (step_fits frame x (and_parts (is_within frame x) (are_within frame code) e).0)
all_fit frame (x ∷ code) e (suc n) step h = all_fit frame code (and_parts (is_within frame x) (are_within frame code) e).1 n step h

-- words side by side have room
pub sets_fit : (frame : ℕ) (code : List Step) → AllFit frame code → (es : List Expr) (to : ℕ) (m : Made) → Front (sets_onto to es m).code code → to ≤ frame → to + length es ≤ frame
sets_fit frame code fits [] to m front l = omega (arith, l)
sets_fit frame code fits (e ∷ es) to m front l =
    let m1 : Made = pushed (flat.Set to e) m in
    let f1 : Front m1.code code = front_more m1.code _ code (front_sets es (to + 1) m1) front in
    let own : (to < frame) × IsSlot frame (slot_of e) = fits (length m.code) (flat.Set to e) (at_push m.code code (flat.Set to e) f1) in
    let rest : to + 1 + length es ≤ frame = sets_fit frame code fits es (to + 1) m1 front (omega (arith, own.0)) in
    omega (arith, rest)

pub moves_fit : (frame : ℕ) (code : List Step) → AllFit frame code → (slots : List ℕ) (from : ℕ) (m : Made) → Front (moves_onto slots from m).code code → from ≤ frame → from + length slots ≤ frame
moves_fit frame code fits [] from m front l = omega (arith, l)
moves_fit frame code fits (slot ∷ slots) from m front l =
    let m1 : Made = pushed (flat.Set slot (plain.slot from)) m in
    let f1 : Front m1.code code = front_more m1.code _ code (front_moves slots (from + 1) m1) front in
    let own : (slot < frame) × (from < frame) = fits (length m.code) (flat.Set slot (plain.slot from)) (at_push m.code code (flat.Set slot (plain.slot from)) f1) in
    let rest : from + 1 + length slots ≤ frame = moves_fit frame code fits slots (from + 1) m1 front (omega (arith, own.1)) in
    omega (arith, rest)

-- Labels.

or_first : (a b : Bool) → a ≡ true → a || b ≡ true
or_first a b e = rw e refl

or_second : (a b : Bool) → b ≡ true → a || b ≡ true
or_second true b e = refl
or_second false b e = e

among_more : (l : ℕ) (o : Option ℕ) (ns : List ℕ) → is_among l ns ≡ true → is_among l (option_to_list o ++ ns) ≡ true
among_more l None ns e = e
among_more l (Some a) ns e = or_second (a == l) (is_among l ns) e

among_own : (l : ℕ) (o : Option ℕ) (ns : List ℕ) → o ≡ Some l → is_among l (option_to_list o ++ ns) ≡ true
among_own l None ns e = none_is_not l e
among_own l (Some a) ns e = let same : a ≡ l = same_Some a l e in let t : (a == l) ≡ true = grind (arith, nat_tests, same) in or_first (a == l) (is_among l ns) t

label_among : (code : List Step) (l j : ℕ) → slice_get code j ≡ Some (flat.Label l) → is_among l (labels_of code) ≡ true
label_among [] l j e = none_is_not (flat.Label l) e
label_among (step ∷ code) l zero e = ap (is_among l) (labels_cons step code) ∙ among_own l (label_of step) (labels_of code) (ap label_of (same_Some step (flat.Label l) e))
label_among (step ∷ code) l (suc j) e = ap (is_among l) (labels_cons step code) ∙ among_more l (label_of step) (labels_of code) (label_among code l j e)

differ_rest : (o : Option ℕ) (ns : List ℕ) → differ (option_to_list o ++ ns) ≡ true → differ ns ≡ true
differ_rest None ns e = e
differ_rest (Some a) ns e = (and_parts (not (is_among a ns)) (differ ns) e).1

not_true : (b : Bool) → not b ≡ true → b ≡ true → ⊥
not_true true e f = absurd (true≢false (sym e))
not_true false e f = absurd (true≢false (sym f))

differ_first : (l : ℕ) (o : Option ℕ) (ns : List ℕ) → o ≡ Some l → differ (option_to_list o ++ ns) ≡ true → is_among l ns ≡ true → ⊥
differ_first l None ns e d a = none_is_not l e
differ_first l (Some x) ns e d a = not_true (is_among x ns) (and_parts (not (is_among x ns)) (differ ns) d).0 (ap (λ (n : ℕ). is_among n ns) (same_Some x l e) ∙ a)

once_at : (code : List Step) → differ (labels_of code) ≡ true → (l i j : ℕ) → slice_get code i ≡ Some (flat.Label l) → slice_get code j ≡ Some (flat.Label l) → i ≡ j
once_at [] d l i j a b = none_is_not (flat.Label l) a
once_at (step ∷ code) d l zero zero a b = refl
once_at (step ∷ code) d l zero (suc j) a b = absurd (differ_first l (label_of step) (labels_of code) (ap label_of (same_Some step (flat.Label l) a)) (ap differ (sym (labels_cons step code)) ∙ d) (label_among code l j b))
once_at (step ∷ code) d l (suc i) zero a b = absurd (differ_first l (label_of step) (labels_of code) (ap label_of (same_Some step (flat.Label l) b)) (ap differ (sym (labels_cons step code)) ∙ d) (label_among code l i a))
once_at (step ∷ code) d l (suc i) (suc j) a b = ap suc (once_at code (differ_rest (label_of step) (labels_of code) (ap differ (sym (labels_cons step code)) ∙ d)) l i j a b)

pub once_of : (code : List Step) → differ (labels_of code) ≡ true → Once code
once_of code d = record { at = once_at code d }
