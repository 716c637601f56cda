-- Steps that go on in their frame: a word into a slot, what travels into a slot, labels, jumps and branches.
use Rattle.std.proofs.Common.{◌≡◌, ◌∙◌, inl, inr, ℕ, suc, ◌^◌, ◌<◌, ◌==◌, Bool, true, false, not, List, [], ◌∷◌, drop, length, slice_get, Some, refl, ap, sym, subst, arith, true≢false}
use Rattle.std.specs.Prelude.{if◌then◌else◌, nat_lt}
use Rattle.std.proofs.lemmas.Bool.Decides.{nat_tests}
use Rattle.clu_wir.specs.Plain.{Expr}
use Rattle.clu_wir.specs.Value.{Gives, Raises, Stuck, Value, meant}
use Rattle.clu_wir.specs.declared.trap.Trap.{Trap}
use Rattle.clu_frames.specs.Plain.{Step}
use Rattle.clu_frames.specs.Plain as flat
use Rattle.clu_flat_meaning.specs.Image.{Body, Image}
use Rattle.clu_flat_meaning.specs.Machine.{Machine, branches, by_word, goes_to, goes_wrong, next, place_of, put_in, running, searching, with_word}
use Rattle.rv_machine.specs.State.{State}
use Rattle.rv_select.specs.declared.register.Register.TheVariants as name
use Rattle.rv_select.specs.Conditions.{far}
use Rattle.rv_select.specs.Evaluation.{at_of, in_register_onto, jump_of, onto_of, part_of, same}
use Rattle.rv_select.specs.Operands.{unbound}
use Rattle.rv_select.specs.Selection.{set_onto, step_onto}
use Rattle.rv_select.specs.Slots.{slot_distance}
use Rattle.rv_select.specs.Written.{Written}
use Rattle.laws_selection.specs.Evaluating.{Outcome, Raised, Turned, Went, is_so}
use Rattle.laws_selection.specs.Fitting.{Fits, Travels, is_inside, is_read, step_fits, the_value, the_words, value_fits}
use Rattle.laws_selection.specs.Growing.{Adds, Sound, address}
use Rattle.laws_selection.specs.Holding.{Arrives, Held, IsAt, Sized, is_read_from, reads}
use Rattle.laws_selection.specs.Running.{Reaches}
use Rattle.laws_selection.specs.Sized.{is_sized}
use Rattle.laws_selection.specs.Standing.{Standing, body_words, words_before}
use Rattle.laws_selection.proofs.Adding.{branch_adds, into_adds, save_adds}
use Rattle.laws_selection.proofs.Checking.{turns_of}
use Rattle.laws_selection.proofs.Expressions.{evaluates}
use Rattle.laws_selection.proofs.Fronts.{StepAt, upto}
use Rattle.laws_selection.proofs.Growing.{adds_same, adds_then, and_true, front_adds, placed_length, placed_sound, sound_then, taking_adds}
use Rattle.laws_selection.proofs.Holding.{held_at, held_done, held_registers, seen_bounded, stays_all}
use Rattle.laws_selection.proofs.Jumping.{go_goes}
use Rattle.laws_selection.proofs.Meaning.{said_is}
use Rattle.laws_selection.proofs.Parts.{raised_in}
use Rattle.laws_selection.proofs.Running.{done_same, reaches_same, reaches_then}
use Rattle.laws_selection.proofs.Setting.{evaluated, set_then, value_is}
use Rattle.laws_selection.proofs.Stepping.{Came, Framed, Target, arrives_next, base, cells, here, linked, nothing_bound, not_so, reads_here, reads_next, runs_at, save_gives, stands, target, trap_at, traps, view}
use Rattle.laws_selection.proofs.Stepping as stepping
use Rattle.laws_selection.proofs.Trapping.{trapped}

take_more : (t : Travels) (to : ℕ) (rest : List Step) → is_read t rest ≡ true → is_read t (flat.Take to ∷ rest) ≡ true
take_more the_value to rest e = refl
take_more the_words to rest e = e

module _ (image : Image) (m : State) (standing : Standing image m) (c : Machine) (b : Body) (is : image.body c.who.body ≡ Some b) (fits : Fits b) (instance : standing.is_instance c.who.body c.who.table ≡ true) where
  abbrev Arrives' : Machine → State → Type 0
  Arrives' = Arrives image m standing

  abbrev base' : ℕ
  base' = base image m standing c b is fits instance

  abbrev W : Written
  W = body_words b

  abbrev Target' : ℕ → Type 0
  Target' = Target image m standing c b is fits instance

  pub wrong : (d : Machine) (s : State) → Arrives' (goes_wrong d) s
  wrong d s = record { state = s; reaches = reaches_same s; at = tt }

  -- A trap.

  abbrev raising : Trap → Machine
  raising t = record c { clock = suc c.clock; mode = searching; value = image.trap_name t; words = image.trap_objects t }

  sized_raising : (t : Trap) → Sized image m c → Sized image m (raising t)
  sized_raising t z =
      let x = standing.traps t in
      let inside = x.fixed in
      let area = standing.area in
      record {
        table = z.table;
        back = z.back;
        caller = z.caller;
        value = x.small;
        words = subst (λ n. n < 2 ^ 64) (sym (standing.objects t)) (omega (arith, inside, area));
        frame = z.frame;
        top = z.top;
        peak = z.peak;
        stack = z.stack;
        byte = z.byte;
        writable = z.writable;
        next = z.next;
      }

  pub raise_follows : (step : Step) (x : StepAt b c.pc step) (s : State) (t : Trap) → Held image m c s → Raised base' (trap_at standing) (upto b c.pc) (step_onto b.frame step (upto b c.pc)) s t → Arrives' (raising t) s
  raise_follows step x s t h r =
      let k = stays_all 0 in
      let h1 = held_registers image m standing c c s r.state h r.same refl refl h.sized (record {
        zero = r.stays name.Zero k.0 (λ e. absurd (omega (arith, e))) ∙ h.fixed.zero;
        top = r.stays name.Top k.1 (λ e. absurd (omega (arith, e))) ∙ h.top;
        store = r.stays name.Store k.2 (λ e. absurd (omega (arith, e))) ∙ h.store;
        store_end = r.stays name.StoreEnd k.3 (λ e. absurd (omega (arith, e))) ∙ h.fixed.store_end;
        stack_end = r.stays name.StackEnd k.4 (λ e. absurd (omega (arith, e))) ∙ h.fixed.stack_end;
        table = r.stays name.Table k.5 (λ e. absurd (omega (arith, e))) ∙ h.table;
        frame = r.stays name.Frame k.6 (λ e. absurd (omega (arith, e))) ∙ h.frame;
        value = λ q. r.stays name.Value k.7 (λ e. absurd (omega (arith, e))) ∙ h.value q;
        words = λ q. r.stays name.Words k.8 (λ e. absurd (omega (arith, e))) ∙ h.words q;
      }) in
      let y = trapped image m standing r.state t h1.fixed r.pc in
      let keep = y.spared.keeps in
      let high = r.high in
      let behind = x.behind in
      record {
        state = y.state;
        reaches = reaches_then r.reaches y.reaches;
        at = (
          held_registers image m standing c (raising t) r.state y.state h1 y.spared.same refl refl (sized_raising t h.sized) (record {
            zero = keep 0 (λ e. absurd (omega (arith, e))) (λ e. absurd (omega (arith, e))) (λ e. absurd (omega (arith, e))) (λ e. absurd (omega (arith, e))) ∙ h1.fixed.zero;
            store_end = keep 4 (λ e. absurd (omega (arith, e))) (λ e. absurd (omega (arith, e))) (λ e. absurd (omega (arith, e))) (λ e. absurd (omega (arith, e))) ∙ h1.fixed.store_end;
            stack_end = keep 8 (λ e. absurd (omega (arith, e))) (λ e. absurd (omega (arith, e))) (λ e. absurd (omega (arith, e))) (λ e. absurd (omega (arith, e))) ∙ h1.fixed.stack_end;
            frame = keep 18 (λ e. absurd (omega (arith, e))) (λ e. absurd (omega (arith, e))) (λ e. absurd (omega (arith, e))) (λ e. absurd (omega (arith, e))) ∙ h1.frame;
            top = keep 2 (λ e. absurd (omega (arith, e))) (λ e. absurd (omega (arith, e))) (λ e. absurd (omega (arith, e))) (λ e. absurd (omega (arith, e))) ∙ h1.top;
            table = keep 9 (λ e. absurd (omega (arith, e))) (λ e. absurd (omega (arith, e))) (λ e. absurd (omega (arith, e))) (λ e. absurd (omega (arith, e))) ∙ h1.table;
            store = keep 3 (λ e. absurd (omega (arith, e))) (λ e. absurd (omega (arith, e))) (λ e. absurd (omega (arith, e))) (λ e. absurd (omega (arith, e))) ∙ h1.store;
            value = λ q. y.value;
            words = λ q. y.words;
          }),
          record {
            pc = inl y.pc;
            within = inr (record {
              code = b;
              there = is;
              word = r.word;
              low = r.low;
              high = omega (arith, high, behind);
              back = keep 1 (λ e. absurd (omega (arith, e))) (λ e. absurd (omega (arith, e))) (λ e. absurd (omega (arith, e))) (λ e. absurd (omega (arith, e))) ∙ r.back;
            });
          },
        );
      }

  module _ (mode : c.mode ≡ running) where
    -- a slot is filled, and the next place comes
    pub filled : (step : Step) (there : slice_get b.code c.pc ≡ Some step) (x : StepAt b c.pc step) (to n : ℕ) (s : State) →
        ((t : Travels) → reads image t c.who.body (suc c.pc) c.mode ≡ true → reads image t c.who.body c.pc c.mode ≡ true) → Came image m standing c b is fits instance (step_onto b.frame step (upto b c.pc)) s (put_in to n c) → Arrives' (next (put_in to n c)) s
    filled step there x to n s r came =
        arrives_next image m standing c b is fits instance step (next (put_in to n c)) s x refl refl mode
        (record { state = came.state; reaches = came.reaches; held = held_at image m standing (put_in to n c) (suc c.pc) (suc c.clock) came.state r came.held; sound = came.sound; pc = came.pc })

    -- SET
    pub set_follows : (to : ℕ) (e : Expr) (s : State) → slice_get b.code c.pc ≡ Some (flat.Set to e) → Framed image m b.frame c → Held image m c s → s.pc ≡ address base' (words_before b c.pc) →
        Arrives' (with_word image e (λ w d. next (put_in to w d)) c) s
    unfolding by_word
    set_follows to e s there framed held pc =
        let step = flat.Set to e in
        let x = stepping.at_step image m standing c b is fits instance step there in
        let h = fits.step c.pc step there in
        let both = and_true (nat_lt to b.frame) (value_fits b.frame e) h in
        let sized = (and_true (is_inside b.frame e) (is_sized e) both.1).1 in
        let w = upto b c.pc in
        let v = onto_of (part_of e) (unbound false) w in
        let rest = adds_then v (in_register_onto (part_of e) (unbound false) w) (set_onto to (part_of e) (unbound false) w) (in_rest sized) (save_rest) in
        let o = evaluated image m standing c b is fits instance e both.1 w s framed held x.sound pc (front_adds v (set_onto to (part_of e) (unbound false) w) W rest x.front) in
        subst (λ (u : Value). Arrives' (by_word image u (λ n d. next (put_in to n d)) c) s) (sym (value_is image m standing c b is fits instance e both.1)) (by x rest h (meant (view image m standing c b is fits instance) e []) refl o)
      where
        code' : Rattle.laws_selection.specs.Running.Code
        code' = m.code

        in_rest : is_sized e ≡ true → Adds (onto_of (part_of e) (unbound false) (upto b c.pc)) (in_register_onto (part_of e) (unbound false) (upto b c.pc))
        in_rest sized = adds_then _ (Rattle.rv_select.specs.Operands.taking (unbound false) (onto_of (part_of e) (unbound false) (upto b c.pc))) _ (taking_adds (unbound false) _)
            (into_adds code' base' W (cells image m standing c b is fits instance) (stands image m standing c b is fits instance) (trap_at standing) (stepping.placed image m standing c b is fits instance).stands.few (traps image m standing c b is fits instance) e (unbound false) _)

        save_rest : Adds (in_register_onto (part_of e) (unbound false) (upto b c.pc)) (set_onto to (part_of e) (unbound false) (upto b c.pc))
        save_rest = save_adds code' base' W (cells image m standing c b is fits instance) (stands image m standing c b is fits instance) (trap_at standing) (stepping.placed image m standing c b is fits instance).stands.few (traps image m standing c b is fits instance) _ name.Frame (slot_distance to) _

        by : (x : StepAt b c.pc (flat.Set to e)) → Adds (onto_of (part_of e) (unbound false) (upto b c.pc)) (set_onto to (part_of e) (unbound false) (upto b c.pc)) → step_fits b.frame (flat.Set to e) ≡ true → (u : Value) → meant (view image m standing c b is fits instance) e [] ≡ u →
            Outcome (view image m standing c b is fits instance) m.code base' (cells image m standing c b is fits instance) false (trap_at standing) 0 (upto b c.pc) (onto_of (part_of e) (unbound false) (upto b c.pc)) s (at_of (part_of e) (unbound false)) u →
            Arrives' (by_word image u (λ n d. next (put_in to n d)) c) s
        by x rest h (Gives n) q o = filled (flat.Set to e) there x to n s (λ t. reads_next image m standing c b is fits instance (flat.Set to e) there mode t (λ r k. k)) (set_then image m standing c b is fits instance to n e s h framed held x.front q o)
        by x rest h (Raises t) q o = raise_follows (flat.Set to e) x s t held
            (raised_in (view image m standing c b is fits instance) m.code base' W (cells image m standing c b is fits instance) (stands image m standing c b is fits instance) false (trap_at standing) 0 (upto b c.pc) (upto b c.pc) _ _ (adds_same _) rest (reaches_same s) (done_same 0 s) o)
        by x rest h Stuck q o = wrong c s

    -- TAKE
    pub take_follows : (to : ℕ) (s : State) → slice_get b.code c.pc ≡ Some (flat.Take to) → Framed image m b.frame c → Held image m c s → s.pc ≡ address base' (words_before b c.pc) → Arrives' (next (put_in to c.value c)) s
    take_follows to s there framed held pc =
        let step = flat.Take to in
        let x = stepping.at_step image m standing c b is fits instance step there in
        let inside = fits.step c.pc step there in
        let now = reads_here image m standing c b is fits instance step there mode the_value (λ r. refl) in
        filled step there x to c.value s (λ t. reads_next image m standing c b is fits instance step there mode t (λ rest. take_more t to rest))
        (save_gives image m standing c b is fits instance (upto b c.pc) s name.Value to c.value framed refl x.sound pc held x.front (held.value now) held.sized.value (grind (arith, nat_tests, inside)))

    -- behind its words, where nothing else changed
    pub goes_next : (step : Step) (there : slice_get b.code c.pc ≡ Some step) (x : StepAt b c.pc step) (s t : State) → ((k : Travels) (rest : List Step) → is_read k rest ≡ true → is_read k (step ∷ rest) ≡ true) → Reaches s t → Held image m c t → Sound (step_onto b.frame step (upto b c.pc)) →
        t.pc ≡ address base' (length (step_onto b.frame step (upto b c.pc)).code) → Arrives' (next c) s
    goes_next step there x s t more reaches held sound pc =
        arrives_next image m standing c b is fits instance step (next c) s x refl refl mode
        (record { state = t; reaches = reaches; held = held_at image m standing c (suc c.pc) (suc c.clock) t (λ k. reads_next image m standing c b is fits instance step there mode k (more k)) held; sound = sound; pc = pc })

    -- LABEL
    pub label_follows : (label : ℕ) (s : State) → slice_get b.code c.pc ≡ Some (flat.Label label) → Held image m c s → s.pc ≡ address base' (words_before b c.pc) → Arrives' (next c) s
    label_follows label s there held pc =
        let step = flat.Label label in
        let x = stepping.at_step image m standing c b is fits instance step there in
        goes_next step there x s s (λ t r k. k) (reaches_same s) held (placed_sound label (upto b c.pc) x.sound) (pc ∙ ap (address base') (sym (placed_length label (upto b c.pc))))

    -- to the place of a label
    goes_there : (label : ℕ) (s t : State) → Target' label → ((k : Travels) → is_read k (drop (place_of b.code label) b.code) ≡ false) → Reaches s t → Held image m c t → t.pc ≡ address base' (words_before b (place_of b.code label)) → Arrives' (goes_to (place_of b.code label) c) s
    goes_there label s t x unread reaches held pc = record {
      state = t;
      reaches = reaches;
      at = subst (λ k. IsAt image m standing (goes_to (place_of b.code label) c) t k) (sym mode)
          (held_at image m standing c (place_of b.code label) (suc c.clock) t none held, runs_at image m standing c b is fits instance (goes_to (place_of b.code label) c) t (place_of b.code label) refl refl x.inside pc x.some);
    }
      where
        none : (k : Travels) → reads image k c.who.body (place_of b.code label) c.mode ≡ true → reads image k c.who.body c.pc c.mode ≡ true
        none k r =
            let so : reads image k c.who.body (place_of b.code label) running ≡ true = subst (λ n. reads image k c.who.body (place_of b.code label) n ≡ true) mode r in
            absurd (true≢false (sym so ∙ ap (λ o. is_read_from k o (place_of b.code label)) is ∙ unread k))

    -- JUMP
    pub jump_follows : (label : ℕ) (s : State) → slice_get b.code c.pc ≡ Some (flat.Jump label) → Framed image m b.frame c → Held image m c s → s.pc ≡ address base' (words_before b c.pc) → Arrives' (goes_to (place_of b.code label) c) s
    jump_follows label s there framed held pc =
        let step = flat.Jump label in
        let x = stepping.at_step image m standing c b is fits instance step there in
        let y = target image m standing c b is fits instance label (fits.labelled c.pc step there) in
        let g = go_goes (view image m standing c b is fits instance) m.code base' W (cells image m standing c b is fits instance) (stands image m standing c b is fits instance) false (stepping.placed image m standing c b is fits instance).stands.few 0
        (upto b c.pc) s label (words_before b (place_of b.code label)) (here image m standing c b is fits instance (upto b c.pc) s framed held x.sound pc) x.front y.placed_at y.short in
        goes_there label s g.state y (λ k. not_so _ (fits.unread k c.pc step there)) g.reaches (held_done image m standing 0 c s g.state g.done held) g.pc

    -- BRANCH
    pub branch_follows : (e : Expr) (sense : Bool) (label : ℕ) (s : State) → slice_get b.code c.pc ≡ Some (flat.Branch e sense label) → Framed image m b.frame c → Held image m c s → s.pc ≡ address base' (words_before b c.pc) →
        Arrives' (with_word image e (λ w d. branches image (w == 0) sense b.code label d) c) s
    unfolding by_word
    branch_follows e sense label s there framed held pc =
        let step = flat.Branch e sense label in
        let x = stepping.at_step image m standing c b is fits instance step there in
        let h = fits.step c.pc step there in
        let y = target image m standing c b is fits instance label (fits.labelled c.pc step there) in
        let v = view image m standing c b is fits instance in
        let sized = (and_true (is_inside b.frame e) (is_sized e) h).1 in
        let hole = cells image m standing c b is fits instance in
        let st = stands image m standing c b is fits instance in
        let few = (stepping.placed image m standing c b is fits instance).stands.few in
        let bounded = seen_bounded image m standing b.frame fits.frame c s hole held (linked image m standing c b is fits instance) in
        let z = evaluates v m.code base' W hole st (trap_at standing) few bounded (traps image m standing c b is fits instance) e sized in
        let o = turns_of v m.code base' W hole st (trap_at standing) few (part_of e) z.good z.jumps sense (far label) (unbound false) [] (upto b c.pc) s (words_before b (place_of b.code label)) (nothing_bound s)
        (here image m standing c b is fits instance (upto b c.pc) s framed held x.sound pc) x.front y.placed_at y.short in
        subst (λ (u : Value). Arrives' (by_word image u (λ n d. branches image (n == 0) sense b.code label d) c) s) (sym (value_is image m standing c b is fits instance e h))
        (by x y (branch_adds m.code base' W hole st (trap_at standing) few (traps image m standing c b is fits instance) e sized sense label (unbound false) (upto b c.pc)) (meant v e [])
        (subst (λ (u : Value). Turned v m.code base' hole (trap_at standing) 0 (upto b c.pc) (jump_of (part_of e) sense (far label) (unbound false) (upto b c.pc)) s sense (words_before b (place_of b.code label)) u) (sym (said_is v e [])) o))
      where
        went : (x : StepAt b c.pc (flat.Branch e sense label)) → Target' label → Adds (upto b c.pc) (step_onto b.frame (flat.Branch e sense label) (upto b c.pc)) → (so : Bool) →
            Went (view image m standing c b is fits instance) m.code base' (cells image m standing c b is fits instance) false 0 (step_onto b.frame (flat.Branch e sense label) (upto b c.pc)) s so (words_before b (place_of b.code label)) →
            Arrives' (if so then goes_to (place_of b.code label) c else next c) s
        went x y a true g = goes_there label s g.state y (λ k. not_so _ (fits.unread k c.pc (flat.Branch e sense label) there)) g.reaches (held_done image m standing 0 c s g.state g.done held) g.pc
        went x y a false g = goes_next (flat.Branch e sense label) there x s g.state (λ t r k. k) g.reaches (held_done image m standing 0 c s g.state g.done held) (sound_then (upto b c.pc) _ a.extends x.sound) g.pc

        turned : (z t : Bool) → branches image z t b.code label c ≡ (if same t (not z) then goes_to (place_of b.code label) c else next c)
        turned true true = refl
        turned true false = refl
        turned false true = refl
        turned false false = refl

        by : (x : StepAt b c.pc (flat.Branch e sense label)) → Target' label → Adds (upto b c.pc) (step_onto b.frame (flat.Branch e sense label) (upto b c.pc)) → (u : Value) →
            Turned (view image m standing c b is fits instance) m.code base' (cells image m standing c b is fits instance) (trap_at standing) 0 (upto b c.pc) (step_onto b.frame (flat.Branch e sense label) (upto b c.pc)) s sense (words_before b (place_of b.code label)) u →
            Arrives' (by_word image u (λ n d. branches image (n == 0) sense b.code label d) c) s
        by x y a (Gives n) o = subst (λ (d : Machine). Arrives' d s) (sym (turned (n == 0) sense)) (went x y a (same sense (is_so n)) o)
        by x y a (Raises t) o = raise_follows (flat.Branch e sense label) x s t held o
        by x y a Stuck o = wrong c s
