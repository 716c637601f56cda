-- The most of the store never sinks, and nothing that was written is taken back.
use Rattle.std.proofs.Common.{◌≡◌, ℕ, zero, suc, ◌+◌, ◌≤◌, ◌==◌, Bool, true, false, List, Option, Some, None, slice_get, refl, ap, subst, arith}
use Rattle.std.specs.Prelude.{max}
use Rattle.clu_wir.specs.Numbers.{primitives}
use Rattle.clu_wir.specs.Plain.{Deed, gives_value, puts_word}
use Rattle.clu_wir.specs.Value.{Gives, Raises, Stuck, Value}
use Rattle.clu_wir.specs.declared.primitive.Primitive.{Primitive}
use Rattle.clu_frames.specs.Plain.{Step}
use Rattle.clu_frames.specs.Plain as flat
use Rattle.clu_word_meaning.specs.World.{Done, World}
use Rattle.clu_flat_meaning.specs.Image.{Body, Descriptor, Entry, FlatArm, Image, at_deed, at_end, at_step}
use Rattle.clu_flat_meaning.specs.Machine.{Comes, Ended, Machine, Mode, address_of, at_arm, at_bottom, branches, called, calling, callers, does, does_deed, does_primitive, ended, entered, excepted, failing, handed_out, in_body, in_frame, invoked, is_address, leaving, next, number_at, on_arm, on_found, on_mode, on_step, or_wrong, outward, put_at, put_in, puts_world, resuming, returns, run, running, searches, searching, stepped, to_body, to_call, where_room, where_so, with_results, by_word, wrong, yielding}
use Rattle.clu_word_meaning.specs.Growing.{Front}
use Rattle.clu_word_meaning.proofs.Going.{front_is, front_then}
use Rattle.clu_word_meaning.proofs.Writing.{bound_output, done_output, string_output, word_output}

pub record Widens (c d : Machine) : Type 0 where
  -- the most of the store never sinks, and nothing that was written is taken back
  pub used : c.used ≤ d.used
  pub output : Front c.world.output d.world.output

still : (c d : Machine) → d.used ≡ c.used → d.world ≡ c.world → Widens c d
still c d u w = record { used = omega (arith, u); output = front_is c.world.output d.world.output (ap (λ (x : World). x.output) w) }

same : (c : Machine) → Widens c c
same c = still c c refl refl

widens_then : (a b c : Machine) → Widens a b → Widens b c → Widens a c
widens_then a b c p q = record { used = omega (arith, p.used, q.used); output = front_then a.world.output b.world.output c.world.output p.output q.output }

so_widens : (b : Bool) (d c : Machine) → Widens c d → Widens c (where_so b d c)
unfolding where_so
so_widens true d c k = k
so_widens false d c k = still c _ refl refl

room_widens : (b : Bool) (how : Ended) (d c : Machine) → Widens c d → Widens c (where_room b how d c)
unfolding where_room
room_widens true how d c k = k
room_widens false how d c k = still c _ refl refl

wrong_widens : {A : Type 0} (o : Option A) (f : A → Machine) (c : Machine) → ((a : A) → Widens c (f a)) → Widens c (or_wrong o f c)
unfolding or_wrong
wrong_widens None f c k = still c _ refl refl
wrong_widens (Some a) f c k = k a

module _ (image : Image) where
  word_widens : (v : Value) (f : ℕ → Machine → Machine) (c : Machine) → ((w : ℕ) → Widens c (f w c)) → Widens c (by_word image v f c)
  unfolding by_word
  word_widens (Gives w) f c k = k w
  word_widens (Raises t) f c k = still c _ refl refl
  word_widens Stuck f c k = still c _ refl refl

  branches_widens : (b sense : Bool) (code : List Step) (l : ℕ) (c : Machine) → Widens c (branches image b sense code l c)
  branches_widens true true code l c = still c _ refl refl
  branches_widens true false code l c = still c _ refl refl
  branches_widens false true code l c = still c _ refl refl
  branches_widens false false code l c = still c _ refl refl

  returns_widens : (o : Option Entry) (c : Machine) → Widens c (returns image o c)
  unfolding returns
  returns_widens None c = still c _ refl refl
  returns_widens (Some (at_step body step)) c = still c _ refl refl
  returns_widens (Some (at_deed deed)) c = still c _ refl refl
  returns_widens (Some at_end) c = still c _ refl refl

  call_widens : (o : Option Entry) (c : Machine) → Widens c (to_call image o c)
  unfolding to_call
  call_widens None c = still c _ refl refl
  call_widens (Some (at_step body step)) c = still c _ refl refl
  call_widens (Some (at_deed deed)) c = still c _ refl refl
  call_widens (Some at_end) c = still c _ refl refl

  body_widens : (o : Option Entry) (c : Machine) → Widens c (to_body image o c)
  unfolding to_body
  body_widens None c = still c _ refl refl
  body_widens (Some (at_step body step)) c = still c _ refl refl
  body_widens (Some (at_deed deed)) c = still c _ refl refl
  body_widens (Some at_end) c = still c _ refl refl

  leaving_widens : (on : Option Entry → Machine → Machine) (c : Machine) → ((o : Option Entry) (d : Machine) → Widens d (on o d)) → Widens c (leaving image on c)
  leaving_widens on c k =
      let d : Machine = record (callers image c) { top = c.fp; high = max c.high c.fp } in
      so_widens (is_address (c.stack (c.fp + 1))) (on (image.entry (c.stack c.fp)) d) c
      (widens_then c d (on (image.entry (c.stack c.fp)) d) (still _ _ refl refl) (k (image.entry (c.stack c.fp)) d))

  results_widens : (slot count : ℕ) (c : Machine) → Widens c (with_results image slot count c)
  unfolding with_results
  results_widens slot zero c = still c _ refl refl
  results_widens slot (suc zero) c = still c _ refl refl
  results_widens slot (suc (suc n)) c = still c _ refl refl

  world_widens : (o : Option World) (c : Machine) → ((w : World) → o ≡ Some w → w.output ≡ c.world.output) → Widens c (puts_world image o c)
  unfolding puts_world
  world_widens None c k = still c _ refl refl
  world_widens (Some w) c k = record { used = omega arith; output = front_is c.world.output w.output (k w refl) }

  does_widens : (slot : ℕ) (o : Option Done) (c : Machine) → ((d : Done) → o ≡ Some d → Front c.world.output d.world.output) → Widens c (does image slot o c)
  unfolding does
  does_widens slot None c k = still c _ refl refl
  does_widens slot (Some d) c k = room_widens _ _ _ c (record { used = omega arith; output = k d refl })

  primitive_widens : (o : Option Primitive) (slot : ℕ) (c : Machine) → Widens c (does_primitive image o slot c)
  unfolding does_primitive
  primitive_widens None slot c = still c _ refl refl
  primitive_widens (Some p) slot c = does_widens slot _ c (λ d e. done_output (Some p) _ c.world d e)

  deed_widens : (deed : Deed) (table slot : ℕ) (c : Machine) → Widens c (does_deed image deed table slot c)
  unfolding does_deed
  deed_widens (gives_value e) table slot c = word_widens _ _ c (λ w. still c _ refl refl)
  deed_widens (puts_word address bytes e) table slot c = word_widens _ _ c (λ w. word_widens _ _ c (λ a. world_widens _ c (λ v e. word_output c.world v _ _ e)))

  called_widens : (entry : Entry) (table slot : ℕ) (c : Machine) → Widens c (called image entry table slot c)
  unfolding called
  called_widens (at_step body step) table slot c = still c _ refl refl
  called_widens (at_deed deed) table slot c = widens_then c (calling image slot c) _ (still c _ refl refl) (deed_widens deed table slot (calling image slot c))
  called_widens at_end table slot c = still c _ refl refl

  invoked_widens : (o : Option Descriptor) (slot : ℕ) (c : Machine) → Widens c (invoked image o slot c)
  unfolding invoked
  invoked_widens None slot c = still c _ refl refl
  invoked_widens (Some d) slot c = called_widens d.entry d.table slot c

  entered_widens : (top : ℕ) (o : Option (List ℕ)) (c : Machine) → Widens c (entered image top o c)
  unfolding entered
  entered_widens top None c = still c _ refl refl
  entered_widens top (Some ws) c = still _ _ refl refl

  yielding_widens : (slot count : ℕ) (c : Machine) → Widens c (yielding image (handed_out image slot count c))
  unfolding handed_out
  yielding_widens slot zero c = still _ _ refl refl
  yielding_widens slot (suc n) c = still _ _ refl refl

  resuming_widens : (low : ℕ) (c : Machine) → Widens c (resuming image low c)
  resuming_widens low c =
      let d : Machine = record c { top = low; high = max c.high low; fp = number_at (c.stack (low + 1)); who = record c.who { table = c.stack (low + 2) } } in
      widens_then c d (resuming image low c) (still _ _ refl refl) (returns_widens (image.entry (c.stack low)) d)

  step_widens : (b : Body) (step : Step) (c : Machine) → Widens c (on_step image b step c)
  unfolding on_step
  step_widens b (flat.Set to e) c = word_widens _ (λ w c. next (put_in to w c)) c (λ w. still c _ refl refl)
  step_widens b (flat.Put address bytes e) c = word_widens _ _ c (λ w. word_widens _ _ c (λ a. world_widens _ c (λ v e. word_output c.world v _ _ e)))
  step_widens b (flat.Label l) c = still c _ refl refl
  step_widens b (flat.Jump l) c = still c _ refl refl
  step_widens b (flat.Branch e sense l) c = word_widens _ (λ w c. branches image (w == 0) sense b.code l c) c (λ w. branches_widens (w == 0) sense b.code l c)
  step_widens b (flat.Enter n) c = room_widens _ _ _ c (so_widens _ _ c (entered_widens _ _ c))
  step_widens b (flat.Bind number e to) c = word_widens _ _ c (λ n. word_widens _ _ c (λ w. does_widens to _ c (λ d e. bound_output n w c.world d e)))
  step_widens b (flat.Invoke e slot) c = word_widens _ (λ d c. invoked image (image.descriptor d) slot c) c (λ d. invoked_widens (image.descriptor d) slot c)
  step_widens b (flat.Yield slot count) c =
      room_widens _ _ _ c (so_widens _ _ c (widens_then c (yielding image (handed_out image slot count c)) _ (yielding_widens slot count c) (body_widens (image.entry (c.stack c.fp)) (yielding image (handed_out image slot count c)))))
  step_widens b (flat.Resume slot) c = so_widens _ _ c (resuming_widens _ c)
  step_widens b (flat.Take to) c = still c _ refl refl
  step_widens b (flat.Result to n) c = wrong_widens _ (λ w. next (put_in to w c)) c (λ w. still c _ refl refl)
  step_widens b (flat.Cut mark) c = so_widens _ _ c (still _ _ refl refl)
  step_widens b (flat.Leave slot count) c = widens_then c (with_results image slot count c) _ (results_widens slot count c) (leaving_widens (returns image) (with_results image slot count c) returns_widens)
  step_widens b (flat.Raise slot) c = still c _ refl refl
  step_widens b (flat.Signal slot) c = widens_then c (excepted image slot c) _ (still c _ refl refl) (leaving_widens (to_call image) (excepted image slot c) call_widens)
  step_widens b flat.Pass c = leaving_widens (to_call image) c call_widens
  step_widens b (flat.Prim n slot) c = primitive_widens (slice_get primitives n) slot c

  failing_widens : (o : Option World) (c : Machine) → ((w : World) → o ≡ Some w → w.output ≡ c.world.output) → Widens c (failing image o c)
  unfolding failing
  failing_widens None c k = still c _ refl refl
  failing_widens (Some w) c k =
      let d : Machine = record (callers image c) { value = image.failure; words = address_of c.fp; stack = put_at c.fp c.world.next c.stack; world = w; used = max c.used w.next } in
      room_widens _ _ _ c (so_widens _ _ c (widens_then c d _ (record { used = omega arith; output = front_is c.world.output w.output (k w refl) }) (call_widens (image.entry (c.stack c.fp)) d)))

  outward_widens : (b : Bool) (o : Option (List ℕ)) (c : Machine) → Widens c (outward image b o c)
  unfolding outward
  outward_widens true o c = so_widens _ _ c (widens_then c (callers image c) _ (still c _ refl refl) (call_widens (image.entry (c.stack c.fp)) (callers image c)))
  outward_widens false None c = still c _ refl refl
  outward_widens false (Some name) c = failing_widens _ c (λ w e. string_output c.world w _ e)

  arm_widens : (o : Option FlatArm) (c : Machine) → Widens c (on_arm image o c)
  unfolding on_arm at_arm
  arm_widens (Some arm) c = so_widens _ _ c (still _ _ refl refl)
  arm_widens None c = outward_widens _ _ c

  bottom_widens : (o : Option (List ℕ)) (c : Machine) → Widens c (at_bottom image o c)
  unfolding at_bottom
  bottom_widens None c = still c _ refl refl
  bottom_widens (Some text) c = still c _ refl refl

  found_widens : (b : Body) (o : Option Step) (c : Machine) → Widens c (on_found image b o c)
  unfolding on_found
  found_widens b (Some step) c = so_widens _ _ c (step_widens b step c)
  found_widens b None c = still c _ refl refl

  searches_widens : (b : Body) (c : Machine) → Widens c (searches image b c)
  unfolding searches
  searches_widens b c = so_widens _ _ c (arm_widens _ c)

  in_body_widens : (f : Body → Machine → Machine) (o : Option Body) (c : Machine) → ((b : Body) → Widens c (f b c)) → Widens c (in_body image f o c)
  unfolding in_body
  in_body_widens f (Some b) c k = k b
  in_body_widens f None c k = still c _ refl refl

  frame_widens : (b : Bool) (c : Machine) → Widens c (in_frame image b c)
  unfolding in_frame
  frame_widens true c = bottom_widens _ c
  frame_widens false c = in_body_widens (searches image) (image.body c.who.body) c (λ b. searches_widens b c)

  mode_widens : (mode : Mode) (c : Machine) → Widens c (on_mode image mode c)
  unfolding on_mode
  mode_widens running c = in_body_widens (λ b c. on_found image b (slice_get b.code c.pc) c) (image.body c.who.body) c (λ b. found_widens b (slice_get b.code c.pc) c)
  mode_widens searching c = frame_widens (c.fp == 0) c
  mode_widens wrong c = same c
  mode_widens (ended how) c = same c

  pub run_widens : (n : ℕ) (c : Machine) → Widens c (run image n c)
  unfolding run stepped
  run_widens zero c = same c
  run_widens (suc n) c = widens_then c (stepped image c) _ (mode_widens c.mode c) (run_widens n (stepped image c))

  pub comes_widens : (c d : Machine) → Comes image c d → Widens c d
  comes_widens c d k = subst (λ (x : Machine). Widens c x) k.come (run_widens k.steps c)
