-- What a machine of an image with a step for the end of the run is in the image itself: the same, or one that has ended.
use Rattle.std.proofs.Common.{◌≡◌, ◌≢◌, ◌∙◌, ◌⊎◌, inl, inr, ℕ, zero, suc, ◌==◌, Bool, true, false, List, Option, Some, None, refl, ap, sym, subst}
use Rattle.clu_base.proofs.Lists.{none_is_not}
use Rattle.clu_flat_meaning.specs.Image.{Body, Descriptor, Image, at_end, at_step}
use Rattle.clu_flat_meaning.specs.Machine.{Comes, Ended, Machine, Mode, at_bottom, ended, failed, in_body, in_frame, last_text, on_mode, run, running, searching, stepped, wrong}
use Rattle.clu_flat_meaning.proofs.Runs.{comes_same}
use Rattle.laws_frames.proofs.Leaving.{Ends, Out, Pair, Passes, Strays, ending, stepped_pair}

module _ (image : Image) (end f : ℕ) (ends : image.entry end ≡ Some at_end) (entries : (a b n : ℕ) → image.entry a ≡ Some (at_step b n) → b ≢ f) (descriptors : (w b n : ℕ) (d : Descriptor) → image.descriptor w ≡ Some d → d.entry ≡ at_step b n → b ≢ f)
    (free : image.body f ≡ None) where
  abbrev other : Image
  other = ending image end f

  abbrev Left : Machine → Machine → Type 0
  Left a b = Out image end f ends entries descriptors a b

  -- a machine that does nothing more
  abbrev Halted : Machine → Type 0
  Halted a = (a.mode ≡ wrong) ⊎ ((how : Ended) × (a.mode ≡ ended how))

  halted_steps : (a : Machine) → Halted a → stepped other a ≡ a
  unfolding stepped on_mode
  halted_steps a (inl e) = ap (λ m. on_mode other m a) e
  halted_steps a (inr h) = ap (λ m. on_mode other m a) h.1

  halted_stays : (n : ℕ) (a : Machine) → Halted a → run other n a ≡ a
  unfolding run
  halted_stays zero a h = refl
  halted_stays (suc n) a h = ap (run other n) (halted_steps a h) ∙ halted_stays n a h

  abbrev pub Alive : Machine → Type 0
  Alive a = (a.mode ≡ running) ⊎ (a.mode ≡ searching)

  not_both : (a : Machine) → Halted a → Alive a → ⊥
  not_both a (inl e) (inl g) = absurd (cc)
  not_both a (inl e) (inr g) = absurd (cc)
  not_both a (inr h) (inl g) = let e = h.1 in absurd (cc)
  not_both a (inr h) (inr g) = let e = h.1 in absurd (cc)

  -- where no body is, the machine goes no further
  no_body_halts : (o : Option Body) (g : Body → Machine → Machine) (a : Machine) → o ≡ None → Halted (in_body other g o a)
  unfolding in_body
  no_body_halts None g a e = inl refl
  no_body_halts (Some b) g a e = absurd (none_is_not {A = ⊥} b (sym e))

  bottom_halts : (o : Option (List ℕ)) (a : Machine) → Halted (at_bottom other o a)
  unfolding at_bottom
  bottom_halts None a = inl refl
  bottom_halts (Some text) a = inr (failed text, refl)

  frame_halts : (b : Bool) (a : Machine) → a.who.body ≡ f → Halted (in_frame other b a)
  unfolding in_frame
  frame_halts true a e = bottom_halts (last_text other a) a
  frame_halts false a e = no_body_halts (image.body a.who.body) _ a (ap image.body e ∙ free)

  mode_halts : (m : Mode) (a : Machine) → a.mode ≡ m → a.who.body ≡ f → Halted (on_mode other m a)
  unfolding on_mode
  mode_halts running a h e = no_body_halts (image.body a.who.body) _ a (ap image.body e ∙ free)
  mode_halts searching a h e = frame_halts (a.fp == 0) a e
  mode_halts wrong a h e = inl h
  mode_halts (ended how) a h e = inr (how, h)

  out_halts : (a : Machine) → a.who.body ≡ f → Halted (stepped other a)
  unfolding stepped
  out_halts a e = mode_halts a.mode a refl e

  pub left_body : (a b : Machine) → Left a b → a.who.body ≡ f
  left_body a b o = by_way o.how
    where
      by_way : Ends image end f ends entries descriptors o.from a b ⊎ (Passes image end f ends entries descriptors o.from a b ⊎ Strays image end f ends entries descriptors o.from a) → a.who.body ≡ f
      by_way (inl k) = ap (λ (x : Machine). x.who.body) k.0
      by_way (inr (inl k)) = ap (λ (x : Machine). x.who.body) k.0
      by_way (inr (inr k)) = ap (λ (x : Machine). x.who.body) k

  one_more : (c d : Machine) → Comes image (stepped image c) d → Comes image c d
  unfolding run
  one_more c d k = record { steps = suc k.steps; come = k.come }

  after_left : (n : ℕ) (a d b : Machine) → Left a b → run other n a ≡ d → Alive d → Left d b
  unfolding run
  after_left zero a d b o e l = subst (λ (x : Machine). Left x b) e o
  after_left (suc n) a d b o e l =
      let h = out_halts a (left_body a b o) in
      let is : stepped other a ≡ d = sym (halted_stays n (stepped other a) h) ∙ e in
      absurd (not_both d (subst Halted is h) l)

  abbrev pub Came : Machine → Machine → Type 0
  Came c d = (Comes image c d × (d.who.body ≢ f)) ⊎ ((b : Machine) × Comes image c b × Left d b)

  came_more : (c d : Machine) → Came (stepped image c) d → Came c d
  came_more c d (inl k) = inl (one_more c d k.0, k.1)
  came_more c d (inr k) = inr (k.0, one_more c k.0 k.1, k.2)

  by_pair : (n : ℕ) (c d : Machine) → Pair image end f ends entries descriptors (stepped other c) (stepped image c) → run other n (stepped other c) ≡ d → Alive d →
      ((stepped image c).who.body ≢ f → run other n (stepped image c) ≡ d → Came (stepped image c) d) → Came c d
  by_pair n c d (inl k) e l again = came_more c d (again k.1 (ap (run other n) (sym k.0) ∙ e))
  by_pair n c d (inr o) e l again = inr (stepped image c, one_more c (stepped image c) (comes_same image (stepped image c)), after_left n (stepped other c) d (stepped image c) o e l)

  -- what a machine that still runs comes from: the same one, or one that has left all routines
  pub mirror : (n : ℕ) (c d : Machine) → c.who.body ≢ f → run other n c ≡ d → Alive d → Came c d
  unfolding run
  mirror zero c d r e l = inl (record { steps = 0; come = e }, subst (λ (x : Machine). x.who.body ≢ f) e r)
  mirror (suc n) c d r e l = by_pair n c d (stepped_pair image end f ends entries descriptors c r) e l (λ real g. mirror n (stepped image c) d real g l)
