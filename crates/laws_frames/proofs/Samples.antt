-- What the laws want of an image holds of one: no premise of theirs contradicts another.
use Rattle.std.proofs.Common.{◌≡◌, ◌∙◌, ℕ, suc, ◌+◌, ◌-◌, ◌==◌, Bool, true, false, List, [], ◌∷◌, Option, None, Some, codes, refl, ap, sym, arith}
use Rattle.std.specs.Prelude.{if◌then◌else◌, nat_le}
use Rattle.std.specs.Str.{bytes_eq}
use Rattle.std.proofs.lemmas.Bool.{eqb-true}
use Rattle.std.proofs.lemmas.Bool.Decides.{nat_tests}
use Rattle.std.proofs.lemmas.Option.{same_Some}
use Rattle.clu_base.proofs.Lists.{none_is_not}
use Rattle.clu_wir.specs.Traps.{trap_name}
use Rattle.clu_wir.specs.declared.trap.Trap.{Trap}
use Rattle.clu_wir.specs.declared.trap.Trap.TheVariants as trap
use Rattle.clu_frames.specs.Plain as flat
use Rattle.clu_word_meaning.specs.World.{failure_name}
use Rattle.clu_word_meaning.specs.Words.{Linked}
use Rattle.clu_flat_meaning.specs.Image.{Body, Descriptor, Image, at_end, at_step}
use Rattle.laws_frames.specs.Ending.{IsClosed, SomeImage}
use Rattle.laws_frames.specs.Flattened.{descriptor_of}
use Rattle.laws_frames.specs.Promises.{Honest, instance_at}
use Rattle.laws_frames.proofs.Finding.{if_true}

abbrev only : Body
only = record { code = flat.Enter 0 ∷ flat.Leave 0 0 ∷ []; frame = 0 }

abbrev word_of : List ℕ → ℕ
word_of n =
    if bytes_eq n (codes "failure") then 8 else if bytes_eq n (codes "overflow") then 16 else if bytes_eq n (codes "zero_divide") then 24 else if bytes_eq n (codes "bounds") then 32 else
    if bytes_eq n (codes "illegal_char") then 40 else if bytes_eq n (codes "wrong_tag") then 48 else 0

abbrev name_at : ℕ → Option (List ℕ)
name_at v =
    if v == 8 then Some (codes "failure") else if v == 16 then Some (codes "overflow") else if v == 24 then Some (codes "zero_divide") else if v == 32 then Some (codes "bounds") else
    if v == 40 then Some (codes "illegal_char") else if v == 48 then Some (codes "wrong_tag") else None

abbrev trap_word : Trap → ℕ
trap_word trap.Overflow = 16
trap_word trap.ZeroDivide = 24
trap_word trap.Bounds = 32
trap_word trap.IllegalChar = 40
trap_word trap.WrongTag = 48
trap_word trap.Uninitialized = 8

abbrev linked : Linked
linked = record { hole = λ k n. None; name_word = word_of; trap_words = λ t. [] }

-- one routine, whose steps have the addresses from 100 on, and the end at 1
abbrev image : Image
image = record {
  body = λ n. if n == 0 then Some only else None;
  address = λ n step. 100 + step;
  entry = λ a. if nat_le 100 a then Some (at_step 0 (a - 100)) else if a == 1 then Some at_end else None;
  descriptor = λ w. if w == 0 then Some (descriptor_of (instance_at 0 0)) else None;
  hole = λ table k n. None;
  regions = λ table. [];
  name_of = name_at;
  trap_name = trap_word;
  trap_objects = λ t. 0;
  failure = 8;
  fixed = λ a. None;
  bottom = 1;
  has_stack = λ n. true;
  has_store = λ n. true;
}

case : (b : Bool) (v k : ℕ) (text name : List ℕ) (rest : Option (List ℕ)) → (v == k) ≡ b → (if b then Some text else rest) ≡ Some name → word_of text ≡ k → (rest ≡ Some name → word_of name ≡ v) → word_of name ≡ v
case true v k text name rest t e w later = ap word_of (sym (same_Some text name e)) ∙ w ∙ sym (eqb-true v k t)
case false v k text name rest t e w later = later e

named : (v : ℕ) (name : List ℕ) → name_at v ≡ Some name → word_of name ≡ v
named v name e =
    case (v == 8) v 8 (codes "failure") name _ refl e refl (λ e. case (v == 16) v 16 (codes "overflow") name _ refl e refl (λ e. case (v == 24) v 24 (codes "zero_divide") name _ refl e refl
    (λ e. case (v == 32) v 32 (codes "bounds") name _ refl e refl (λ e. case (v == 40) v 40 (codes "illegal_char") name _ refl e refl (λ e. case (v == 48) v 48 (codes "wrong_tag") name _ refl e refl
    (λ e. none_is_not name e))))))

filled : (v : ℕ) → name_at v ≡ Some [] → ⊥
filled v e = let z : 0 ≡ v = named v [] e in absurd (none_is_not {A = ⊥} [] (ap name_at z ∙ e))

trap_named : (t : Trap) → name_at (trap_word t) ≡ Some (trap_name t)
unfolding trap_name
trap_named trap.Overflow = refl
trap_named trap.ZeroDivide = refl
trap_named trap.Bounds = refl
trap_named trap.IllegalChar = refl
trap_named trap.WrongTag = refl
trap_named trap.Uninitialized = refl

only_zero : (b : Bool) (n : ℕ) (body : Body) → (n == 0) ≡ b → (if b then Some only else None) ≡ Some body → n ≡ 0
only_zero true n body t e = eqb-true n 0 t
only_zero false n body t e = none_is_not body e

at_each : (n step : ℕ) (body : Body) → image.body n ≡ Some body → image.entry (image.address n step) ≡ Some (at_step n step)
at_each n step body e =
    let z : n ≡ 0 = only_zero (n == 0) n body refl e in
    if_true (nat_le 100 (100 + step)) (Some (at_step 0 ((100 + step) - 100))) _ (grind (arith, nat_tests)) ∙ (let y : (100 + step) - 100 ≡ step = omega arith in ap (λ k. Some (at_step 0 k)) y) ∙ ap (λ k. Some (at_step k step)) (sym z)

pub honest : Honest image linked
unfolding failure_name
honest = record {
  leads = λ n step body x e here back. at_each n (suc step) body e;
  names = named;
  zero_word = refl;
  filled = filled;
  failure = refl;
  traps = trap_named;
  objects = λ t i w e. none_is_not w e;
  stack = λ n. refl;
  store = λ n. refl;
  bottom = omega arith;
}

step_body : (b c : Bool) (a body n : ℕ) → (if b then Some (at_step 0 (a - 100)) else if c then Some at_end else None) ≡ Some (at_step body n) → body ≡ 0
step_body true c a body n e = cc
step_body false true a body n e = absurd (cc)
step_body false false a body n e = none_is_not (at_step body n) e

called_body : (b : Bool) (d : Descriptor) (body n : ℕ) → (if b then Some (descriptor_of (instance_at 0 0)) else None) ≡ Some d → d.entry ≡ at_step body n → body ≡ 0
called_body true d body n e g = let z : at_step 0 0 ≡ at_step body n = ap (λ (x : Descriptor). x.entry) (same_Some _ d e) ∙ g in cc
called_body false d body n e g = none_is_not d e

pub closed : IsClosed image
closed = record {
  entries = λ a b n e. (only, ap image.body (step_body (nat_le 100 a) (a == 1) a b n e));
  descriptors = λ w b n d e g. (only, ap image.body (called_body (w == 0) d b n e g));
  none_more = (1, refl);
}

pub sample : SomeImage
sample = record { image = image; linked = linked; honest = honest; closed = closed }
