-- Calls: of routines with a frame, and of routines without one.
use Rattle.std.proofs.Common.{◌≡◌, ◌∙◌, ℕ, suc, ◌+◌, ◌*◌, ◌%◌, ◌^◌, ◌<◌, ◌≤◌, Bool, true, List, [], ◌∷◌, length, Option, Some, None, slice_get, refl, ap, sym, subst, arith}
use Rattle.std.specs.Prelude.{if◌then◌else◌, nat_lt}
use Rattle.std.proofs.lemmas.Bool.Decides.{nat_tests}
use Rattle.std.proofs.lemmas.Option.{slice_get_within}
use Rattle.clu_wir.specs.Plain.{Deed, Expr, gives_value, puts_word}
use Rattle.clu_wir.specs.Traps.{trap_name}
use Rattle.clu_wir.specs.Value.{Gives, Raises, Stuck, Value, value}
use Rattle.clu_word_meaning.specs.World.{World, put_word}
use Rattle.clu_word_meaning.specs.Words.{Computation, Linked, State, by_value, continue_either_way, counted, either_way, ended, ends, gives, normal, out_of_turns, raised, sees, valued, view, with_slots, with_state, worlds}
use Rattle.clu_word_meaning.specs.Words.{Entry as WordEntry}
use Rattle.clu_word_meaning.specs.Levels.{arguments, deed_done}
use Rattle.clu_flat_meaning.specs.Image.{Body, Descriptor, Image, Instance, at_deed, at_step}
use Rattle.clu_flat_meaning.specs.Machine.{Machine, address_of, by_word, called, calling, does_deed, invoked, leaf_slots, leaf_value, next, puts_world, running, searching, view_of, word_below, words_below}
use Rattle.clu_flat_meaning.proofs.Runs.{comes_same}
use Rattle.laws_frames.specs.Calls.{AtCall, Brings, Called, Context, Spends}
use Rattle.laws_frames.specs.Promises.{Honest, instance_at}
use Rattle.laws_frames.proofs.Simple.{fixed_word, stack_word}
use Rattle.laws_frames.proofs.Entering.{EntryOk, FrameOk, Local}
use Rattle.laws_frames.proofs.Agreeing.{Agree, Within, agrees}

-- Words of a row of slots, as the first step of a routine reads them.
pub row_read : (image : Image) (end : ℕ) (s : ℕ → ℕ) (ws : List ℕ) (n : ℕ) → image.bottom ≤ n → n + length ws ≤ end → ((i w : ℕ) → slice_get ws i ≡ Some w → s (n + i) ≡ w) → words_below image end s (address_of n) (length ws) ≡ Some ws
unfolding words_below
row_read image end s [] n deep high row = refl
row_read image end s (w ∷ ws) n deep high row =
    let one : word_below image end s (address_of n) ≡ Some w = stack_word image end s n w deep (omega (arith, high)) ((let z : n ≡ n + 0 = omega arith in ap s z) ∙ row 0 w refl) in
    let more : words_below image end s (address_of n + 8) (length ws) ≡ Some ws =
    (let z : address_of n + 8 ≡ address_of (suc n) = omega arith in ap (λ a. words_below image end s a (length ws)) z)
    ∙ row_read image end s ws (suc n) (omega (arith, deep)) (omega (arith, high)) (λ i v e. (let z : suc n + i ≡ n + suc i = omega arith in ap s z) ∙ row (suc i) v e) in
    rw (one, more) refl

module _ (image : Image) where
  descriptor_is : (o : Option Descriptor) (d : Descriptor) (slot : ℕ) (c : Machine) → o ≡ Some d → invoked image o slot c ≡ called image d.entry d.table slot c
  unfolding invoked
  descriptor_is o d slot c e = rw e refl

  -- A routine with a frame: its first step comes next.
  pub frame_call : (w : ℕ) (who : Instance) (entry : WordEntry) → image.descriptor w ≡ Some (record { entry = at_step who.body 0; table = who.table }) → FrameOk image who entry → EntryOk image w entry
  unfolding called
  frame_call w who entry there ok = record {
    runs = λ k local live room body bok ws t st c slot at.
        let e : Machine = record (calling image slot c) { who = instance_at who.body who.table; pc = 0; clock = suc c.clock } in
        let is : invoked image (image.descriptor w) slot c ≡ e = descriptor_is (image.descriptor w) (record { entry = at_step who.body 0; table = who.table }) slot c there in
        subst (λ x. Called image k x (entry live body ws t st)) (sym is) (ok.runs k local live room body bok ws t st e (record {
          pc = refl;
          who = refl;
          mode = at.mode;
          back = at_site c k at.who at.pc;
          frame = at.frame;
          link = ap (λ (i : Instance). i.table) at.who;
          top = at.top;
          words = row_read image c.top c.stack ws (c.fp + 4 + slot) (omega (arith, at.deep)) (omega (arith, at.inside, local.high, at.top)) at.words;
          below = at.below;
          world = at.world;
          pay = at.pay;
          within = (at.within.0, at.within.1, at.more, at.within.3, at.within.4);
        }));
  }
    where
      at_site : (c : Machine) (k : Context) → c.who ≡ k.link → c.pc ≡ k.site → image.address c.who.body (suc c.pc) ≡ image.address k.link.body (suc k.site)
      at_site c k e f = ap (λ (i : Instance). image.address i.body (suc c.pc)) e ∙ ap (λ n. image.address k.link.body (suc n)) f

  -- the same where the levels are at an end
  pub frame_stops : (w : ℕ) (who : Instance) (shape : Body) → image.body who.body ≡ Some shape → image.descriptor w ≡ Some (record { entry = at_step who.body 0; table = who.table }) → EntryOk image w (λ live body ws turns st. out_of_turns st)
  unfolding called
  frame_stops w who shape own there = record {
    runs = λ k local live room body bok ws t st c slot at.
        let e : Machine = record (calling image slot c) { who = instance_at who.body who.table; pc = 0; clock = suc c.clock } in
        let is : invoked image (image.descriptor w) slot c ≡ e = descriptor_is (image.descriptor w) (record { entry = at_step who.body 0; table = who.table }) slot c there in
        subst (λ x. Spends image x st) (sym is) (record { machine = e; comes = comes_same image e; there = (shape, own); output = ap (λ (x : World). x.output) at.world; mode = at.mode; pay = at.pay; within = (at.within.0, at.within.1, at.more, at.within.3, at.within.4) });
  }

  -- A routine without a frame: all is done at its call.

  abbrev pub DeedWithin : ℕ → Deed → Type 0
  DeedWithin base (gives_value e) = Within base e
  DeedWithin base (puts_word address bytes e) = Within base address × Within base e

  pub record Bare (w : ℕ) (l : Linked) (deed : Deed) : Type 0 where
    pub table : ℕ
    pub there : image.descriptor w ≡ Some (record { entry = at_deed deed; table = table })
    pub holes : image.hole table ≡ l.hole
    pub honest : Honest image l
    pub base : ℕ
    pub within : DeedWithin base deed

  module _ (l : Linked) (honest : Honest image l) (entries : ℕ → WordEntry) (k : Context) (local : Local image k) (slot : ℕ) (ws : List ℕ) (st : State) (c : Machine) (at : AtCall image k slot ws st c) (table : ℕ) (holes : image.hole table ≡ l.hole) where
    abbrev x : Machine
    x = calling image slot c

    by_test : (b : Bool) (v w : ℕ) → b ≡ true → v ≡ w → (if b then Some v else None) ≡ Some w
    by_test b v w e f = rw (e, f) refl

    slots_seen : (base n w : ℕ) → n < base → arguments ws n ≡ Some w → leaf_slots image slot x n ≡ Some w
    slots_seen base n w h e =
        let inside : n < length ws = slice_get_within ws n w e in
        let t : nat_lt (c.fp + 4 + slot + n) c.peak ≡ true = let z : c.fp + 4 + slot + n < c.peak = omega (arith, inside, at.inside, at.room) in grind (arith, nat_tests, z) in
        by_test (nat_lt (c.fp + 4 + slot + n) c.peak) (c.stack (c.fp + 4 + slot + n)) w t (at.words n w e)

    seen : (now : State) → now.slots ≡ arguments ws → now.world ≡ st.world → (base : ℕ) (e : Expr) → Within base e → Agree (value (view l now.slots now.world) e) (leaf_value image table slot x e)
    seen now slots world base e h =
        let same : now.world ≡ c.world = world ∙ sym at.world in
        subst (λ s. Agree (value (view l s now.world) e) (leaf_value image table slot x e)) (sym slots)
        (subst (λ v. Agree (value (view l (arguments ws) v) e) (leaf_value image table slot x e)) (sym same)
        (agrees (view l (arguments ws) c.world) (view_of image (leaf_slots image slot x) table c.world) base (slots_seen base) holes refl refl e h []))

    -- the word of an expression, or what it raises at the call
    by_value_at : (v v' : Value) → Agree v v' → (f : ℕ → Computation (List ℕ)) (g : ℕ → Machine → Machine) (t : ℕ) (now : State) → now.outer ≡ st.outer → now.world ≡ st.world → now.meters.spent ≡ st.meters.spent → now.meters.most ≡ st.meters.most →
        now.meters.store ≡ st.meters.store → st.meters.steps ≤ now.meters.steps → ((w : ℕ) → Called image k (g w x) (f w t now)) → Called image k (by_word image v' g x) (by_value l entries v f t now)
    unfolding by_value by_word ends
    by_value_at (Gives w) v' e f g t now outer world spent most store steps h = subst (λ u. Called image k (by_word image u g x) (f w t now)) (sym e) (h w)
    by_value_at (Raises trap) v' e f g t now outer world spent most store steps h =
        let d : Machine = record x { clock = suc c.clock; mode = searching; value = image.trap_name trap; words = image.trap_objects trap } in
        subst (λ u. Called image k (by_word image u g x) (ended (raised (trap_name trap) (l.trap_words trap)) t now)) (sym e) (record {
          machine = d;
          comes = comes_same image d;
          pc = at.pc;
          who = at.who;
          frame = at.frame;
          mode = refl;
          brings = record { named = honest.traps trap; words = record { at = λ i w is s same. let o = honest.objects trap i w is in fixed_word image c.peak s (image.trap_objects trap + 8 * i) w o.0 o.1 } };
          below = subst (λ o. k.inv c.stack o) (sym outer) at.below;
          world = at.world ∙ sym world;
          pay = omega (arith, at.pay, spent);
          within = (omega (arith, at.within.0, most), omega (arith, at.within.1, store), omega (arith, at.more, steps), omega (arith, at.within.3, most), at.within.4);
          room = at.room;
          top = λ m. absurd (not_both m);
        })
      where
        not_both : searching ≡ running → ⊥
        not_both e = absurd (cc)
    by_value_at Stuck v' e f g t now outer world spent most store steps h = tt

    ends_at : (d : Machine) (given : List ℕ) (t : ℕ) (now : State) → d.pc ≡ suc c.pc → d.who ≡ c.who → d.fp ≡ c.fp → d.top ≡ c.top → d.mode ≡ c.mode → d.stack ≡ c.stack → d.world ≡ now.world → d.clock ≡ suc c.clock → d.peak ≡ c.peak → d.used ≡ c.used → d.high ≡ c.high →
        Brings image k.last given d → now.outer ≡ st.outer → now.meters.spent ≡ st.meters.spent → now.meters.most ≡ st.meters.most → now.meters.store ≡ st.meters.store → st.meters.steps ≤ now.meters.steps → Called image k d (normal given t now)
    ends_at d given t now pc who fp tp mode stack world clock peak used high brings outer spent most store steps = record {
      machine = d;
      comes = comes_same image d;
      pc = pc ∙ ap suc at.pc;
      who = who ∙ at.who;
      frame = fp ∙ at.frame;
      mode = mode ∙ at.mode;
      brings = brings;
      below = subst (λ o. k.inv d.stack o) (sym outer) (subst (λ s. k.inv s st.outer) (sym stack) at.below);
      world = world;
      pay = omega (arith, at.pay, clock, spent);
      within = (omega (arith, at.within.0, peak, most), omega (arith, at.within.1, used, store), omega (arith, at.more, clock, steps), omega (arith, at.within.3, high, most), omega (arith, at.within.4, tp, high));
      room = omega (arith, at.room, peak);
      top = λ m. tp ∙ at.top;
    }

    put_case : (o : Option World) (t : ℕ) (now : State) → now.outer ≡ st.outer → now.meters.spent ≡ st.meters.spent → now.meters.most ≡ st.meters.most → now.meters.store ≡ st.meters.store → st.meters.steps ≤ now.meters.steps →
        Called image k (puts_world image o x) (continue_either_way (λ done. gives []) ends (worlds o t now))
    unfolding puts_world worlds continue_either_way gives ends
    put_case None t now outer spent most store steps = tt
    put_case (Some w) t now outer spent most store steps = ends_at (next (record x { world = w })) [] t (record now { world = w }) refl refl refl refl refl refl refl refl refl refl refl tt outer spent most store steps

    deed_ok : (base : ℕ) (deed : Deed) → DeedWithin base deed → (t : ℕ) → Called image k (does_deed image deed table slot x) (with_state (with_slots (λ s. arguments ws)) (deed_done l entries deed) t st)
    unfolding does_deed deed_done with_state valued gives sees either_way
    deed_ok base (gives_value e) h t =
        let now : State = with_slots (λ s. arguments ws) st in
        by_value_at _ _ (seen now refl refl base e h) (λ w. gives (w ∷ [])) (λ w c. next (record c { value = w })) t (counted 1 now) refl refl refl refl refl (omega arith)
        (λ w. ends_at (next (record x { value = w })) (w ∷ []) t (counted 1 now) refl refl refl refl refl refl at.world refl refl refl refl refl refl refl refl refl (omega arith))
    deed_ok base (puts_word address bytes e) h t =
        let now : State = with_slots (λ s. arguments ws) st in
        let g : ℕ → ℕ → Machine → Machine = λ w a c. puts_world image (put_word c.world ((a + bytes) % 2 ^ 64) w) c in
        let f : ℕ → ℕ → Computation (List ℕ) = λ w a. sees (λ st. either_way (worlds (put_word st.world ((a + bytes) % 2 ^ 64) w)) (λ done. gives []) ends) in
        by_value_at _ _ (seen now refl refl base e h.1) (λ w. valued l entries address (f w)) (λ w c. by_word image (leaf_value image table slot c address) (g w) c) t (counted 1 now) refl refl refl refl refl (omega arith)
        (λ w. by_value_at _ _ (seen (counted 1 now) refl refl base address h.0) (f w) (g w) t (counted 1 (counted 1 now)) refl refl refl refl refl (omega arith)
        (λ a. subst (λ v. Called image k (puts_world image (put_word v ((a + bytes) % 2 ^ 64) w) x) (continue_either_way (λ done. gives []) ends (worlds (put_word st.world ((a + bytes) % 2 ^ 64) w) t (counted 1 (counted 1 now))))) (sym at.world)
        (put_case (put_word st.world ((a + bytes) % 2 ^ 64) w) t (counted 1 (counted 1 now)) refl refl refl refl (omega arith))))

  pub bare_ok : (w : ℕ) (l : Linked) (deed : Deed) (entries : ℕ → WordEntry) → Bare w l deed → EntryOk image w (λ live body ws turns st. with_state (with_slots (λ s. arguments ws)) (deed_done l entries deed) turns st)
  unfolding called
  bare_ok w l deed entries b = record {
    runs = λ k local live room body bok ws t st c slot at.
        subst (λ x. Called image k x (with_state (with_slots (λ s. arguments ws)) (deed_done l entries deed) t st)) (sym (descriptor_is (image.descriptor w) (record { entry = at_deed deed; table = b.table }) slot c b.there))
        (deed_ok l b.honest entries k local slot ws st c at b.table b.holes b.base deed b.within t);
  }
