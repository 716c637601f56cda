-- A step that goes on in its frame is followed.
use Rattle.std.proofs.Common.{◌≡◌, ◌∙◌, ℕ, ◌+◌, ◌*◌, ◌≤◌, Bool, true, false, max, slice_get, Some, refl, ap, sym, subst, arith, true≢false}
use Rattle.std.specs.Prelude.{◌&&◌, nat_le}
use Rattle.std.proofs.lemmas.Bool.Decides.{nat_tests}
use Rattle.clu_frames.specs.Plain.{Step}
use Rattle.clu_frames.specs.Plain as flat
use Rattle.clu_flat_meaning.specs.Image.{Body, Image}
use Rattle.clu_flat_meaning.specs.Machine.{Machine, in_body, is_address, is_frame, next, number_at, on_found, on_mode, on_step, running, stands, stepped, where_so}
use Rattle.rv_machine.specs.State.{State, register}
use Rattle.laws_selection.specs.Fitting.{Fits, Lawful}
use Rattle.laws_selection.specs.Growing.{address}
use Rattle.laws_selection.specs.Holding.{Arrives, Held, Runs, stack_end}
use Rattle.laws_selection.specs.Laws.{is_followed}
use Rattle.laws_selection.specs.Standing.{Standing, words_before}
use Rattle.laws_selection.proofs.Entering.{enter_follows}
use Rattle.laws_selection.proofs.Following.{branch_follows, jump_follows, label_follows, set_follows, take_follows}
use Rattle.laws_selection.proofs.Travelling.{cut_follows, result_follows}
use Rattle.laws_selection.proofs.Growing.{and_true}
use Rattle.laws_selection.proofs.Running.{reaches_same}
use Rattle.laws_selection.proofs.Raising.{pass_follows, raise_step_follows, signal_follows}
use Rattle.laws_selection.proofs.Resuming.{resume_follows}
use Rattle.laws_selection.proofs.Returning.{leave_follows}
use Rattle.laws_selection.proofs.Stepping.{Framed, base}

module _ (image : Image) (m : State) (standing : Standing image m) (c : Machine) (b : Body) (is : image.body c.who.body ≡ Some b) (fits : Fits b) (lawful : Lawful image m standing c) (mode : c.mode ≡ running) where
  framed : (s : State) → Held image m c s → is_frame image b c ≡ true → Framed image m b.frame c
  framed s h e =
      let both = and_true (nat_le image.bottom c.fp) (nat_le (c.fp + (4 + b.frame)) c.peak) e in
      let peak = h.sized.peak in
      record { low = grind (arith, nat_tests, both.0); high = grind (arith, nat_tests, both.1, peak) }

  abbrev base' : ℕ
  base' = base image m standing c b is fits lawful.instance

  -- where the machine is
  pc_is : (s : State) → Runs image c s → c.pc ≤ Rattle.std.specs.Prelude.length b.code → s.pc ≡ address base' (words_before b c.pc)
  pc_is s r inside = r.pc ∙ standing.places c.who.body b is c.pc inside

  -- the step of the place
  pub stepped_is : (step : Step) → slice_get b.code c.pc ≡ Some step → stepped image c ≡ where_so (stands image b step c) (on_step image b step c) c
  unfolding stepped on_mode in_body on_found
  stepped_is step there =
      ap (λ k. on_mode image k c) mode
      ∙ ap (λ o. in_body image (λ x d. on_found image x (slice_get x.code d.pc) d) o c) is
      ∙ ap (λ o. on_found image b o c) there

  follows_by : (d : Machine) (s : State) (t : Bool) → (t ≡ true → Arrives image m standing d s) → Arrives image m standing (where_so t d c) s
  unfolding where_so
  follows_by d s true f = f refl
  follows_by d s false f = record { state = s; reaches = reaches_same s; at = tt }

  -- where the top of the stack is cut to
  cut_room : (n : ℕ) (f t : Bool) → f ≡ true → t ≡ true → image.has_stack (where_so f (where_so t (next (record c { top = n; high = max c.high n })) c) c).top ≡ true → 8 * n ≤ stack_end m
  unfolding where_so
  cut_room n true true p q e = let fits_in : nat_le (8 * n) (stack_end m) ≡ true = sym (standing.stack n) ∙ e in grind (arith, nat_tests, fits_in)
  cut_room n true false p q e = absurd (true≢false (sym q))
  cut_room n false t p q e = absurd (true≢false (sym p))

  step_by : (step : Step) (s : State) → slice_get b.code c.pc ≡ Some step → is_followed step ≡ true → Held image m c s → s.pc ≡ address base' (words_before b c.pc) → (c.pc ≡ 0 → register s 1 ≡ c.back) → (c.pc ≡ 0 → register s 7 ≡ c.caller) →
      image.has_stack (where_so (stands image b step c) (on_step image b step c) c).top ≡ true → Arrives image m standing (where_so (stands image b step c) (on_step image b step c) c) s
  unfolding on_step where_so
  step_by (flat.Set to e) s there simple h pc back caller top = follows_by _ s (is_frame image b c) (λ t. set_follows image m standing c b is fits lawful.instance mode to e s there (framed s h t) h pc)
  step_by (flat.Label label) s there simple h pc back caller top = follows_by _ s (is_frame image b c) (λ t. label_follows image m standing c b is fits lawful.instance mode label s there h pc)
  step_by (flat.Jump label) s there simple h pc back caller top = follows_by _ s (is_frame image b c) (λ t. jump_follows image m standing c b is fits lawful.instance mode label s there (framed s h t) h pc)
  step_by (flat.Branch e sense label) s there simple h pc back caller top = follows_by _ s (is_frame image b c) (λ t. branch_follows image m standing c b is fits lawful.instance mode e sense label s there (framed s h t) h pc)
  step_by (flat.Take to) s there simple h pc back caller top = follows_by _ s (is_frame image b c) (λ t. take_follows image m standing c b is fits lawful.instance mode to s there (framed s h t) h pc)
  step_by (flat.Result to number) s there simple h pc back caller top = follows_by _ s (is_frame image b c) (λ t. result_follows image m standing c b is fits lawful.instance mode to number s there (framed s h t) h pc)
  step_by (flat.Cut mark) s there simple h pc back caller top = follows_by _ s (is_frame image b c)
      (λ t. cut_follows image m standing c b is fits lawful.instance mode mark s there (framed s h t) h pc (λ e. cut_room (number_at (c.stack (c.fp + mark))) (is_frame image b c) (is_address (c.stack (c.fp + mark))) t e top))
  step_by (flat.Enter arguments) s there simple h pc back caller top = enter_follows image m standing c b is fits lawful.instance mode arguments s there h pc (back (fits.enters c.pc (flat.Enter arguments) there refl)) (caller (fits.enters c.pc (flat.Enter arguments) there refl))
  step_by (flat.Leave slot count) s there simple h pc back caller top = follows_by _ s (is_frame image b c)
      (λ t. leave_follows image m standing c b is fits lawful.instance mode slot count s there (framed s h t) h pc (λ other number step e f. lawful.left b other slot count number step is there e f))
  step_by (flat.Raise slot) s there simple h pc back caller top = follows_by _ s (is_frame image b c) (λ t. raise_step_follows image m standing c b is fits lawful.instance slot s there (framed s h t) h pc)
  step_by (flat.Signal slot) s there simple h pc back caller top = follows_by _ s (is_frame image b c) (λ t. signal_follows image m standing c b is fits lawful.instance slot s there (framed s h t) h pc lawful.outer)
  step_by flat.Pass s there simple h pc back caller top = follows_by _ s (is_frame image b c) (λ t. pass_follows image m standing c b is fits lawful.instance mode s there (framed s h t) h pc lawful.outer)
  step_by (flat.Resume slot) s there simple h pc back caller top = follows_by _ s (is_frame image b c)
      (λ t. resume_follows image m standing c b is fits lawful.instance mode slot s there (framed s h t) h pc (λ other number step e f. lawful.resumed b other slot number step is there e f))
  step_by _ s there simple h pc back caller top = absurd (cc)

  pub steps_follow : (step : Step) → slice_get b.code c.pc ≡ Some step → is_followed step ≡ true → image.has_stack (stepped image c).top ≡ true → (s : State) → Held image m c s → Runs image c s → Arrives image m standing (stepped image c) s
  steps_follow step there simple top s h r =
      let l = Rattle.laws_selection.proofs.Fronts.inside_get b.code c.pc step there in
      subst (λ (d : Machine). Arrives image m standing d s) (sym (stepped_is step there)) (step_by step s there simple h (pc_is s r (omega (arith, l))) r.back r.caller (ap (λ (d : Machine). image.has_stack d.top) (sym (stepped_is step there)) ∙ top))
