-- The words of a routine are those of its steps, one after the other, and each label has the place of its step.
use Rattle.std.proofs.Common.{◌≡◌, ◌∙◌, ◌≢◌, ℕ, zero, suc, ◌^◌, ◌<◌, ◌≤◌, true, List, [], ◌∷◌, length, replicate, take, slice_get, Option, Some, None, refl, ap, subst, arith}
use Rattle.clu_wir.specs.declared.hole.HoleKind.{HoleKind}
use Rattle.clu_wir.specs.declared.trap.Trap.{Trap}
use Rattle.clu_frames.specs.Plain.{Step}
use Rattle.clu_frames.specs.Plain as flat
use Rattle.clu_flat_meaning.specs.Image.{Body}
use Rattle.rv_select.specs.Finished.{blank, steps_onto}
use Rattle.rv_select.specs.Selection.{step_onto}
use Rattle.rv_select.specs.Written.{Written}
use Rattle.laws_selection.specs.Evaluating.{Traps}
use Rattle.laws_selection.specs.Fitting.{Fits, step_fits}
use Rattle.laws_selection.specs.Growing.{Front, Sound}
use Rattle.laws_selection.specs.Running.{Code}
use Rattle.laws_selection.specs.Standing.{body_words, words_before}
use Rattle.laws_selection.proofs.Adding.{AddsUnless, step_adds}
use Rattle.laws_selection.proofs.Growing.{Stood, adds_same, front_adds, front_placed, placed_count, placed_other, placed_sound, placed_there, sound_then}

front_same : (w : Written) → Front w w
front_same w = record { extends = (adds_same w).extends; places = λ l p e. e }

pub inside_get : {A : Type 0} (xs : List A) (l : ℕ) (x : A) → slice_get xs l ≡ Some x → l < length xs
inside_get [] l x e = absurd (cc)
inside_get (y ∷ xs) zero x e = omega arith
inside_get (y ∷ xs) (suc l) x e = let deeper = inside_get xs l x e in omega arith

abbrev unset : Option ℕ
unset = None

none_there : (n l : ℕ) → l < n → slice_get (replicate n unset) l ≡ Some None
none_there zero l h = absurd (omega arith)
none_there (suc n) zero h = refl
none_there (suc n) (suc l) h = none_there n l (omega arith)

blank_count : (n : ℕ) → length (replicate n unset) ≡ n
blank_count zero = refl
blank_count (suc n) = ap suc (blank_count n)

-- labels without a place
abbrev Unplaced : List Step → Written → Type 0
Unplaced ss w = (n l : ℕ) → slice_get ss n ≡ Some (flat.Label l) → slice_get w.labels l ≡ Some None

abbrev Once : List Step → Type 0
Once ss = (n k l : ℕ) → slice_get ss n ≡ Some (flat.Label l) → slice_get ss k ≡ Some (flat.Label l) → n ≡ k

abbrev AllFit : ℕ → List Step → Type 0
AllFit frame ss = (n : ℕ) (step : Step) → slice_get ss n ≡ Some step → step_fits frame step ≡ true

once_rest : (s : Step) (ss : List Step) → Once (s ∷ ss) → Once ss
once_rest s ss once n k l e f = let same : suc n ≡ suc k = once (suc n) (suc k) l e f in omega (arith, same)

module _ (code : Code) (base : ℕ) (W : Written) (hole : HoleKind → ℕ → ℕ) (stands : Stood W code base hole) (trap_address : Trap → ℕ) (few : length W.code < 2 ^ 32) (traps : Traps hole trap_address) (frame : ℕ) where
  adds : (s : Step) (w : Written) → step_fits frame s ≡ true → AddsUnless code base W hole stands trap_address few traps frame s w
  adds s w h = step_adds code base W hole stands trap_address few traps frame s w h

  front_first : (s : Step) (w V : Written) → step_fits frame s ≡ true → ((l : ℕ) → s ≡ flat.Label l → slice_get w.labels l ≡ Some None) → Front (step_onto frame s w) V → Front w V
  front_first (flat.Label l) w V h un f = front_placed w V l (un l refl) f
  front_first s w V h un f = front_adds w (step_onto frame s w) V (adds s w h) f

  unplaced_other : (s : Step) (w : Written) (l : ℕ) → step_fits frame s ≡ true → ((k : ℕ) → s ≡ flat.Label k → l ≢ k) → slice_get w.labels l ≡ Some None → slice_get (step_onto frame s w).labels l ≡ Some None
  unplaced_other (flat.Label k) w l h other is = placed_other k l w (other k refl) ∙ is
  unplaced_other s w l h other is = (adds s w h).below l (inside_get w.labels l None is) ∙ is

  unplaced_rest : (s : Step) (ss : List Step) (w : Written) → step_fits frame s ≡ true → Once (s ∷ ss) → Unplaced (s ∷ ss) w → Unplaced ss (step_onto frame s w)
  unplaced_rest s ss w h once un n l e = unplaced_other s w l h (λ k is same. apart k is same) (un (suc n) l e)
    where
      apart : (k : ℕ) → s ≡ flat.Label k → l ≡ k → ⊥
      apart k is same = let both : zero ≡ suc n = once zero (suc n) k (ap Some is) (e ∙ ap (λ x. Some (flat.Label x)) same) in absurd (cc both)

  pub front_steps : (ss : List Step) (w : Written) → AllFit frame ss → Once ss → Unplaced ss w → Front w (steps_onto frame ss w)
  front_steps [] w fit once un = front_same w
  front_steps (s ∷ ss) w fit once un =
      front_first s w (steps_onto frame ss (step_onto frame s w)) (fit zero s refl) (λ l is. un zero l (ap Some is))
      (front_steps ss (step_onto frame s w) (λ n t e. fit (suc n) t e) (once_rest s ss once) (unplaced_rest s ss w (fit zero s refl) once un))

  -- what a step adds comes before what the others after it add
  split_front : (ss : List Step) (w : Written) (k : ℕ) (step : Step) → AllFit frame ss → Once ss → Unplaced ss w → slice_get ss k ≡ Some step → Front (step_onto frame step (steps_onto frame (take k ss) w)) (steps_onto frame ss w)
  split_front [] w k step fit once un e = absurd (cc)
  split_front (s ∷ ss) w zero step fit once un e =
      subst (λ (x : Step). Front (step_onto frame x w) (steps_onto frame ss (step_onto frame s w))) (same e)
      (front_steps ss (step_onto frame s w) (λ n t e. fit (suc n) t e) (once_rest s ss once) (unplaced_rest s ss w (fit zero s refl) once un))
    where
      same : Some s ≡ Some step → s ≡ step
      same e = ap (λ (o : Option Step). Rattle.std.specs.Prelude.unwrap_or o s) e
  split_front (s ∷ ss) w (suc k) step fit once un e =
      split_front ss (step_onto frame s w) k step (λ n t e. fit (suc n) t e) (once_rest s ss once) (unplaced_rest s ss w (fit zero s refl) once un) e

  sound_first : (s : Step) (w : Written) → step_fits frame s ≡ true → Sound w → Sound (step_onto frame s w)
  sound_first (flat.Label l) w h sound = placed_sound l w sound
  sound_first s w h sound = sound_then w (step_onto frame s w) (adds s w h).extends sound

  sound_take : (ss : List Step) (w : Written) (k : ℕ) → AllFit frame ss → Sound w → Sound (steps_onto frame (take k ss) w)
  sound_take ss w zero fit sound = sound
  sound_take [] w (suc k) fit sound = sound
  sound_take (s ∷ ss) w (suc k) fit sound = sound_take ss (step_onto frame s w) k (λ n t e. fit (suc n) t e) (sound_first s w (fit zero s refl) sound)

  count_first : (s : Step) (w : Written) (n : ℕ) → step_fits frame s ≡ true → n ≤ length w.labels → n ≤ length (step_onto frame s w).labels
  count_first (flat.Label l) w n h le = let same = placed_count l w in omega (arith, same, le)
  count_first s w n h le = let more = (adds s w h).count in omega (arith, more, le)

  label_place : (ss : List Step) (w : Written) (k l : ℕ) → AllFit frame ss → Once ss → Unplaced ss w → slice_get ss k ≡ Some (flat.Label l) → suc l ≤ length w.labels →
      slice_get (steps_onto frame ss w).labels l ≡ Some (Some (length (steps_onto frame (take k ss) w).code))
  label_place [] w k l fit once un e low = absurd (cc)
  label_place (s ∷ ss) w zero l fit once un e low =
      placed_there w (steps_onto frame ss (step_onto frame s w)) l (omega (arith, low))
      (subst (λ (x : Step). Front (step_onto frame x w) (steps_onto frame ss (step_onto frame s w))) (same e)
      (front_steps ss (step_onto frame s w) (λ n t e. fit (suc n) t e) (once_rest s ss once) (unplaced_rest s ss w (fit zero s refl) once un)))
    where
      same : Some s ≡ Some (flat.Label l) → s ≡ flat.Label l
      same e = ap (λ (o : Option Step). Rattle.std.specs.Prelude.unwrap_or o s) e
  label_place (s ∷ ss) w (suc k) l fit once un e low =
      label_place ss (step_onto frame s w) k l (λ n t e. fit (suc n) t e) (once_rest s ss once) (unplaced_rest s ss w (fit zero s refl) once un) e (count_first s w (suc l) (fit zero s refl) low)

take_more : (frame : ℕ) (ss : List Step) (w : Written) (k : ℕ) (step : Step) → slice_get ss k ≡ Some step → steps_onto frame (take (suc k) ss) w ≡ step_onto frame step (steps_onto frame (take k ss) w)
take_more frame [] w k step e = absurd (cc)
take_more frame (s ∷ ss) w zero step e = ap (λ (o : Option Step). step_onto frame (Rattle.std.specs.Prelude.unwrap_or o s) w) e
take_more frame (s ∷ ss) w (suc k) step e = take_more frame ss (step_onto frame s w) k step e

blank_sound : (n : ℕ) → Sound (blank n)
blank_sound n = record { before = tt; filled = tt }

-- Of a routine whose code fits its frame.

abbrev pub upto : Body → ℕ → Written
upto b n = steps_onto b.frame (take n b.code) (blank (length b.code))

pub record StepAt (b : Body) (n : ℕ) (step : Step) : Type 0 where
  pub sound : Sound (upto b n)
  pub front : Front (step_onto b.frame step (upto b n)) (body_words b)
  pub behind : words_before b (suc n) ≡ length (step_onto b.frame step (upto b n)).code
  pub inside : n < length b.code

module _ (code : Code) (base : ℕ) (b : Body) (hole : HoleKind → ℕ → ℕ) (stands : Stood (body_words b) code base hole) (trap_address : Trap → ℕ) (few : length (body_words b).code < 2 ^ 32) (traps : Traps hole trap_address) (fits : Fits b) where
  unplaced : Unplaced b.code (blank (length b.code))
  unplaced n l e = none_there (length b.code) l (fits.numbered n l e)

  pub step_at : (n : ℕ) (step : Step) → slice_get b.code n ≡ Some step → StepAt b n step
  step_at n step e = record {
    sound = sound_take code base (body_words b) hole stands trap_address few traps b.frame b.code (blank (length b.code)) n fits.step (blank_sound (length b.code));
    front = split_front code base (body_words b) hole stands trap_address few traps b.frame b.code (blank (length b.code)) n step fits.step fits.once unplaced e;
    behind = ap (λ (w : Written). length w.code) (take_more b.frame b.code (blank (length b.code)) n step e);
    inside = inside_get b.code n step e;
  }

  -- the place of a label
  pub label_at : (n l : ℕ) → slice_get b.code n ≡ Some (flat.Label l) → slice_get (body_words b).labels l ≡ Some (Some (words_before b n))
  label_at n l e = label_place code base (body_words b) hole stands trap_address few traps b.frame b.code (blank (length b.code)) n l fits.step fits.once unplaced e
      (let count = blank_count (length b.code) in let low = fits.numbered n l e in omega (arith, count, low))
