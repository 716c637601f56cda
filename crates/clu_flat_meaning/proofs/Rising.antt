-- The highest top of the stack, and that of its frames and records, never sink.
use Rattle.std.proofs.Common.{◌≡◌, ℕ, zero, suc, ◌+◌, ◌-◌, ◌≤◌, ◌==◌, Bool, true, false, List, Option, Some, None, slice_get, refl, subst, arith}
use Rattle.std.specs.Prelude.{max}
use Rattle.clu_wir.specs.Numbers.{primitives}
use Rattle.clu_wir.specs.Plain.{Deed, gives_value, puts_word}
use Rattle.clu_wir.specs.Value.{Gives, Raises, Stuck, Value}
use Rattle.clu_wir.specs.declared.primitive.Primitive.{Primitive}
use Rattle.clu_frames.specs.Plain.{Step}
use Rattle.clu_frames.specs.Plain as flat
use Rattle.clu_word_meaning.specs.World.{Done, World}
use Rattle.clu_flat_meaning.specs.Image.{Body, Descriptor, Entry, FlatArm, Image, at_deed, at_end, at_step}
use Rattle.clu_flat_meaning.specs.Machine.{Comes, Ended, Machine, Mode, address_of, at_arm, at_bottom, branches, called, calling, callers, does, does_deed, does_primitive, ended, entered, excepted, failing, handed_out, in_body, in_frame, invoked, is_address, leaving, next, number_at, on_arm, on_found, on_mode, on_step, or_wrong, outward, put_at, put_in, puts_world, resuming, returns, run, running, searches, searching, stepped, to_body, to_call, where_room, where_so, with_results, by_word, wrong, yielding}
use Rattle.clu_flat_meaning.specs.Rising.{Rises}

still : (c d : Machine) → d.high ≡ c.high → d.peak ≡ c.peak → d.top ≡ c.top → Rises c d
still c d h p t = record { high = omega (arith, h); peak = omega (arith, p); top = λ l. omega (arith, h, t, l) }

same : (c : Machine) → Rises c c
same c = still c c refl refl refl

rises_then : (a b c : Machine) → Rises a b → Rises b c → Rises a c
rises_then a b c p q = record { high = omega (arith, p.high, q.high); peak = omega (arith, p.peak, q.peak); top = λ l. q.top (p.top l) }

so_rises : (b : Bool) (d c : Machine) → Rises c d → Rises c (where_so b d c)
unfolding where_so
so_rises true d c k = k
so_rises false d c k = still c _ refl refl refl

room_rises : (b : Bool) (how : Ended) (d c : Machine) → Rises c d → Rises c (where_room b how d c)
unfolding where_room
room_rises true how d c k = k
room_rises false how d c k = still c _ refl refl refl

wrong_rises : {A : Type 0} (o : Option A) (f : A → Machine) (c : Machine) → ((a : A) → Rises c (f a)) → Rises c (or_wrong o f c)
unfolding or_wrong
wrong_rises None f c k = still c _ refl refl refl
wrong_rises (Some a) f c k = k a

module _ (image : Image) where
  word_rises : (v : Value) (f : ℕ → Machine → Machine) (c : Machine) → ((w : ℕ) → Rises c (f w c)) → Rises c (by_word image v f c)
  unfolding by_word
  word_rises (Gives w) f c k = k w
  word_rises (Raises t) f c k = still c _ refl refl refl
  word_rises Stuck f c k = still c _ refl refl refl

  branches_rise : (b sense : Bool) (code : List Step) (l : ℕ) (c : Machine) → Rises c (branches image b sense code l c)
  branches_rise true true code l c = still c _ refl refl refl
  branches_rise true false code l c = still c _ refl refl refl
  branches_rise false true code l c = still c _ refl refl refl
  branches_rise false false code l c = still c _ refl refl refl

  returns_rise : (o : Option Entry) (c : Machine) → Rises c (returns image o c)
  unfolding returns
  returns_rise None c = still c _ refl refl refl
  returns_rise (Some (at_step body step)) c = still c _ refl refl refl
  returns_rise (Some (at_deed deed)) c = still c _ refl refl refl
  returns_rise (Some at_end) c = still c _ refl refl refl

  call_rises : (o : Option Entry) (c : Machine) → Rises c (to_call image o c)
  unfolding to_call
  call_rises None c = still c _ refl refl refl
  call_rises (Some (at_step body step)) c = still c _ refl refl refl
  call_rises (Some (at_deed deed)) c = still c _ refl refl refl
  call_rises (Some at_end) c = still c _ refl refl refl

  body_rises : (o : Option Entry) (c : Machine) → Rises c (to_body image o c)
  unfolding to_body
  body_rises None c = still c _ refl refl refl
  body_rises (Some (at_step body step)) c = still c _ refl refl refl
  body_rises (Some (at_deed deed)) c = still c _ refl refl refl
  body_rises (Some at_end) c = still c _ refl refl refl

  leaving_rises : (on : Option Entry → Machine → Machine) (c : Machine) → ((o : Option Entry) (d : Machine) → Rises d (on o d)) → Rises c (leaving image on c)
  leaving_rises on c k =
      let d : Machine = record (callers image c) { top = c.fp; high = max c.high c.fp } in
      so_rises (is_address (c.stack (c.fp + 1))) (on (image.entry (c.stack c.fp)) d) c
      (rises_then c d (on (image.entry (c.stack c.fp)) d) (record { high = omega arith; peak = omega arith; top = λ l. omega arith }) (k (image.entry (c.stack c.fp)) d))

  results_rise : (slot count : ℕ) (c : Machine) → Rises c (with_results image slot count c)
  unfolding with_results
  results_rise slot zero c = still c _ refl refl refl
  results_rise slot (suc zero) c = still c _ refl refl refl
  results_rise slot (suc (suc n)) c = still c _ refl refl refl

  world_rises : (o : Option World) (c : Machine) → Rises c (puts_world image o c)
  unfolding puts_world
  world_rises None c = still c _ refl refl refl
  world_rises (Some w) c = still c _ refl refl refl

  does_rises : (slot : ℕ) (o : Option Done) (c : Machine) → Rises c (does image slot o c)
  unfolding does
  does_rises slot None c = still c _ refl refl refl
  does_rises slot (Some d) c = room_rises _ _ _ c (still c _ refl refl refl)

  primitive_rises : (o : Option Primitive) (slot : ℕ) (c : Machine) → Rises c (does_primitive image o slot c)
  unfolding does_primitive
  primitive_rises None slot c = still c _ refl refl refl
  primitive_rises (Some p) slot c = does_rises slot _ c

  deed_rises : (deed : Deed) (table slot : ℕ) (c : Machine) → Rises c (does_deed image deed table slot c)
  unfolding does_deed
  deed_rises (gives_value e) table slot c = word_rises _ _ c (λ w. still c _ refl refl refl)
  deed_rises (puts_word address bytes e) table slot c = word_rises _ _ c (λ w. word_rises _ _ c (λ a. world_rises _ c))

  called_rises : (entry : Entry) (table slot : ℕ) (c : Machine) → Rises c (called image entry table slot c)
  unfolding called
  called_rises (at_step body step) table slot c = still c _ refl refl refl
  called_rises (at_deed deed) table slot c = rises_then c (calling image slot c) _ (still c _ refl refl refl) (deed_rises deed table slot (calling image slot c))
  called_rises at_end table slot c = still c _ refl refl refl

  invoked_rises : (o : Option Descriptor) (slot : ℕ) (c : Machine) → Rises c (invoked image o slot c)
  unfolding invoked
  invoked_rises None slot c = still c _ refl refl refl
  invoked_rises (Some d) slot c = called_rises d.entry d.table slot c

  entered_rises : (top : ℕ) (o : Option (List ℕ)) (c : Machine) → Rises c (entered image top o c)
  unfolding entered
  entered_rises top None c = still c _ refl refl refl
  entered_rises top (Some ws) c = record { high = omega arith; peak = omega arith; top = λ l. omega arith }

  yielding_rises : (slot count : ℕ) (c : Machine) → Rises c (yielding image (handed_out image slot count c))
  unfolding handed_out
  yielding_rises slot zero c = record { high = omega arith; peak = omega arith; top = λ l. omega arith }
  yielding_rises slot (suc n) c = record { high = omega arith; peak = omega arith; top = λ l. omega arith }

  resuming_rises : (low : ℕ) (c : Machine) → Rises c (resuming image low c)
  resuming_rises low c =
      let d : Machine = record c { top = low; high = max c.high low; fp = number_at (c.stack (low + 1)); who = record c.who { table = c.stack (low + 2) } } in
      rises_then c d (resuming image low c) (record { high = omega arith; peak = omega arith; top = λ l. omega arith }) (returns_rise (image.entry (c.stack low)) d)

  step_rises : (b : Body) (step : Step) (c : Machine) → Rises c (on_step image b step c)
  unfolding on_step
  step_rises b (flat.Set to e) c = word_rises _ (λ w c. next (put_in to w c)) c (λ w. still c _ refl refl refl)
  step_rises b (flat.Put address bytes e) c = word_rises _ _ c (λ w. word_rises _ _ c (λ a. world_rises _ c))
  step_rises b (flat.Label l) c = still c _ refl refl refl
  step_rises b (flat.Jump l) c = still c _ refl refl refl
  step_rises b (flat.Branch e sense l) c = word_rises _ (λ w c. branches image (w == 0) sense b.code l c) c (λ w. branches_rise (w == 0) sense b.code l c)
  step_rises b (flat.Enter n) c = room_rises _ _ _ c (so_rises _ _ c (entered_rises _ _ c))
  step_rises b (flat.Bind number e to) c = word_rises _ _ c (λ n. word_rises _ _ c (λ w. does_rises to _ c))
  step_rises b (flat.Invoke e slot) c = word_rises _ (λ d c. invoked image (image.descriptor d) slot c) c (λ d. invoked_rises (image.descriptor d) slot c)
  step_rises b (flat.Yield slot count) c =
      room_rises _ _ _ c (so_rises _ _ c (rises_then c (yielding image (handed_out image slot count c)) _ (yielding_rises slot count c) (body_rises (image.entry (c.stack c.fp)) (yielding image (handed_out image slot count c)))))
  step_rises b (flat.Resume slot) c = so_rises _ _ c (resuming_rises _ c)
  step_rises b (flat.Take to) c = still c _ refl refl refl
  step_rises b (flat.Result to n) c = wrong_rises _ (λ w. next (put_in to w c)) c (λ w. still c _ refl refl refl)
  step_rises b (flat.Cut mark) c = so_rises _ _ c (record { high = omega arith; peak = omega arith; top = λ l. omega arith })
  step_rises b (flat.Leave slot count) c = rises_then c (with_results image slot count c) _ (results_rise slot count c) (leaving_rises (returns image) (with_results image slot count c) returns_rise)
  step_rises b (flat.Raise slot) c = still c _ refl refl refl
  step_rises b (flat.Signal slot) c = rises_then c (excepted image slot c) _ (still c _ refl refl refl) (leaving_rises (to_call image) (excepted image slot c) call_rises)
  step_rises b flat.Pass c = leaving_rises (to_call image) c call_rises
  step_rises b (flat.Prim n slot) c = primitive_rises (slice_get primitives n) slot c

  failing_rises : (o : Option World) (c : Machine) → Rises c (failing image o c)
  unfolding failing
  failing_rises None c = still c _ refl refl refl
  failing_rises (Some w) c =
      let d : Machine = record (callers image c) { value = image.failure; words = address_of c.fp; stack = put_at c.fp c.world.next c.stack; world = w; used = max c.used w.next } in
      room_rises _ _ _ c (so_rises _ _ c (rises_then c d _ (still c d refl refl refl) (call_rises (image.entry (c.stack c.fp)) d)))

  outward_rises : (b : Bool) (o : Option (List ℕ)) (c : Machine) → Rises c (outward image b o c)
  unfolding outward
  outward_rises true o c = so_rises _ _ c (rises_then c (callers image c) _ (still c _ refl refl refl) (call_rises (image.entry (c.stack c.fp)) (callers image c)))
  outward_rises false None c = still c _ refl refl refl
  outward_rises false (Some name) c = failing_rises _ c

  arm_rises : (o : Option FlatArm) (c : Machine) → Rises c (on_arm image o c)
  unfolding on_arm at_arm
  arm_rises (Some arm) c = so_rises _ _ c (record { high = omega arith; peak = omega arith; top = λ l. omega arith })
  arm_rises None c = outward_rises _ _ c

  bottom_rises : (o : Option (List ℕ)) (c : Machine) → Rises c (at_bottom image o c)
  unfolding at_bottom
  bottom_rises None c = still c _ refl refl refl
  bottom_rises (Some text) c = still c _ refl refl refl

  found_rises : (b : Body) (o : Option Step) (c : Machine) → Rises c (on_found image b o c)
  unfolding on_found
  found_rises b (Some step) c = so_rises _ _ c (step_rises b step c)
  found_rises b None c = still c _ refl refl refl

  searches_rise : (b : Body) (c : Machine) → Rises c (searches image b c)
  unfolding searches
  searches_rise b c = so_rises _ _ c (arm_rises _ c)

  in_body_rises : (f : Body → Machine → Machine) (o : Option Body) (c : Machine) → ((b : Body) → Rises c (f b c)) → Rises c (in_body image f o c)
  unfolding in_body
  in_body_rises f (Some b) c k = k b
  in_body_rises f None c k = still c _ refl refl refl

  frame_rises : (b : Bool) (c : Machine) → Rises c (in_frame image b c)
  unfolding in_frame
  frame_rises true c = bottom_rises _ c
  frame_rises false c = in_body_rises (searches image) (image.body c.who.body) c (λ b. searches_rise b c)

  mode_rises : (mode : Mode) (c : Machine) → Rises c (on_mode image mode c)
  unfolding on_mode
  mode_rises running c = in_body_rises (λ b c. on_found image b (slice_get b.code c.pc) c) (image.body c.who.body) c (λ b. found_rises b (slice_get b.code c.pc) c)
  mode_rises searching c = frame_rises (c.fp == 0) c
  mode_rises wrong c = same c
  mode_rises (ended how) c = same c

  pub run_rises : (n : ℕ) (c : Machine) → Rises c (run image n c)
  unfolding run stepped
  run_rises zero c = same c
  run_rises (suc n) c = rises_then c (stepped image c) _ (mode_rises c.mode c) (run_rises n (stepped image c))

  pub comes_rises : (c d : Machine) → Comes image c d → Rises c d
  comes_rises c d k = subst (λ (x : Machine). Rises c x) k.come (run_rises k.steps c)

  pub comes_high : (c d : Machine) → Comes image c d → c.high ≤ d.high
  comes_high c d k = (comes_rises c d k).high

  pub comes_peak : (c d : Machine) → Comes image c d → c.peak ≤ d.peak
  comes_peak c d k = (comes_rises c d k).peak
