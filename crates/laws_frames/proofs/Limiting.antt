-- A run with limits on the stack and the store is the run without, or ends full before, where a later top or the store passes the limit.
use Rattle.std.proofs.Common.{◌≡◌, ◌≢◌, ◌∙◌, ◌⊎◌, inl, inr, ℕ, zero, suc, ◌+◌, ◌≤◌, ◌==◌, Bool, true, false, List, ◌∷◌, Option, Some, None, slice_get, refl, ap, sym, subst, arith}
use Rattle.std.specs.Prelude.{max, nat_le}
use Rattle.clu_wir.specs.Numbers.{primitives}
use Rattle.clu_wir.specs.Plain.{Deed, gives_value, puts_word}
use Rattle.clu_wir.specs.Value.{Gives, Raises, Stuck, Value}
use Rattle.clu_wir.specs.declared.primitive.Primitive.{Primitive}
use Rattle.clu_frames.specs.Plain.{Step}
use Rattle.clu_frames.specs.Plain as flat
use Rattle.clu_word_meaning.specs.Growing.{Front}
use Rattle.clu_word_meaning.specs.World.{Done, World, also, bound, unhandled_text, with_string}
use Rattle.clu_flat_meaning.specs.Image.{Body, Descriptor, Entry, FlatArm, Image, at_deed, at_end, at_step}
use Rattle.clu_flat_meaning.specs.Machine.{Comes, Machine, Mode, address_of, arm_at, at_arm, at_bottom, branches, by_word, called, callers, calling, does, does_deed, does_primitive, ended, entered, excepted, failing, handed_out, in_body, in_frame, invoked, last_text, leaving, on_arm, on_found, on_mode, on_step, outward, put_at, puts_world, returns, run, running, searches, searching, stack_full, stands, stepped, stops, store_full, to_body, to_call, where_room, where_so, with_results, word_below, words_below, wrong, yielding}
use Rattle.clu_flat_meaning.proofs.Rising.{comes_peak}
use Rattle.laws_frames.specs.Limits.{endless}
use Rattle.laws_frames.proofs.Widening.{run_widens}

module _ (image : Image) where
  abbrev free : Image
  free = endless image

  -- the stack or the store is full at a step, which without limits goes on above the limit, or wrong
  pub record Full (c a b : Machine) : Type 0 where
    pub how : ((a ≡ stops stack_full c) × ((t : ℕ) × (image.has_stack t ≡ false) × ((t ≤ b.peak) ⊎ (b.mode ≡ wrong)))) ⊎ ((a ≡ stops store_full c) × ((t : ℕ) × (image.has_store t ≡ false) × ((t ≤ b.used) ⊎ (b.mode ≡ wrong))))

  abbrev pub Pair : Machine → Machine → Machine → Type 0
  Pair c a b = (a ≡ b) ⊎ Full c a b

  -- Tests.

  so_pair : (t : Bool) (x y c : Machine) → Pair c x y → Pair c (where_so t x c) (where_so t y c)
  unfolding where_so
  so_pair true x y c p = p
  so_pair false x y c p = inl refl

  so_same : (t : Bool) (x y c : Machine) → x ≡ y → where_so t x c ≡ where_so t y c
  so_same t x y c e = ap (λ z. where_so t z c) e

  stack_by : (t : Bool) (n : ℕ) (x y c : Machine) → image.has_stack n ≡ t → x ≡ y → (n ≤ y.peak) ⊎ (y.mode ≡ wrong) → Pair c (where_room t stack_full x c) (where_room true stack_full y c)
  unfolding where_room
  stack_by true n x y c e same reach = inl same
  stack_by false n x y c e same reach = inr (record { how = inl (refl, (n, e, reach)) })

  store_by : (t : Bool) (n : ℕ) (x y c : Machine) → image.has_store n ≡ t → x ≡ y → (n ≤ y.used) ⊎ (y.mode ≡ wrong) → Pair c (where_room t store_full x c) (where_room true store_full y c)
  unfolding where_room
  store_by true n x y c e same reach = inl same
  store_by false n x y c e same reach = inr (record { how = inr (refl, (n, e, reach)) })

  so_reach : (f : Machine → ℕ) (n : ℕ) (t : Bool) (x c : Machine) → (n ≤ f x) ⊎ (x.mode ≡ wrong) → (n ≤ f (where_so t x c)) ⊎ ((where_so t x c).mode ≡ wrong)
  unfolding where_so
  so_reach f n true x c r = r
  so_reach f n false x c r = inr refl

  -- Parts of steps that ask for no room.

  returns_same : (o : Option Entry) (x : Machine) → returns image o x ≡ returns free o x
  unfolding returns
  returns_same (Some (at_step b n)) x = refl
  returns_same (Some at_end) x = refl
  returns_same (Some (at_deed d)) x = refl
  returns_same None x = refl

  call_same : (o : Option Entry) (x : Machine) → to_call image o x ≡ to_call free o x
  unfolding to_call
  call_same (Some (at_step b n)) x = refl
  call_same (Some at_end) x = refl
  call_same (Some (at_deed d)) x = refl
  call_same None x = refl

  body_same : (o : Option Entry) (x : Machine) → to_body image o x ≡ to_body free o x
  unfolding to_body
  body_same (Some (at_step b n)) x = refl
  body_same (Some at_end) x = refl
  body_same (Some (at_deed d)) x = refl
  body_same None x = refl

  body_reach : (n : ℕ) (o : Option Entry) (x : Machine) → n ≤ x.peak → (n ≤ (to_body free o x).peak) ⊎ ((to_body free o x).mode ≡ wrong)
  unfolding to_body
  body_reach n (Some (at_step b m)) x l = inl l
  body_reach n (Some at_end) x l = inr refl
  body_reach n (Some (at_deed d)) x l = inr refl
  body_reach n None x l = inr refl

  call_used : (o : Option Entry) (x : Machine) → (to_call free o x).used ≡ x.used
  unfolding to_call
  call_used (Some (at_step b n)) x = refl
  call_used (Some at_end) x = refl
  call_used (Some (at_deed d)) x = refl
  call_used None x = refl

  word_same : (v : Value) (g h : ℕ → Machine → Machine) (c : Machine) → ((w : ℕ) → g w c ≡ h w c) → by_word image v g c ≡ by_word free v h c
  unfolding by_word
  word_same (Gives w) g h c k = k w
  word_same (Raises t) g h c k = refl
  word_same Stuck g h c k = refl

  word_pair : (v : Value) (g h : ℕ → Machine → Machine) (c : Machine) → ((w : ℕ) → Pair c (g w c) (h w c)) → Pair c (by_word image v g c) (by_word free v h c)
  unfolding by_word
  word_pair (Gives w) g h c k = k w
  word_pair (Raises t) g h c k = inl refl
  word_pair Stuck g h c k = inl refl

  branch_same : (a b : Bool) (code : List Step) (label : ℕ) (c : Machine) → branches image a b code label c ≡ branches free a b code label c
  branch_same true true code label c = refl
  branch_same true false code label c = refl
  branch_same false true code label c = refl
  branch_same false false code label c = refl

  world_same : (o : Option World) (c : Machine) → puts_world image o c ≡ puts_world free o c
  unfolding puts_world
  world_same None c = refl
  world_same (Some w) c = refl

  does_pair : (slot : ℕ) (o : Option Done) (c : Machine) → Pair c (does image slot o c) (does free slot o c)
  unfolding does
  does_pair slot None c = inl refl
  does_pair slot (Some d) c = store_by (image.has_store d.world.next) d.world.next _ _ c refl refl (inl (omega arith))

  primitive_pair : (o : Option Primitive) (slot : ℕ) (c : Machine) → Pair c (does_primitive image o slot c) (does_primitive free o slot c)
  unfolding does_primitive
  primitive_pair None slot c = inl refl
  primitive_pair (Some p) slot c = does_pair slot _ c

  deed_same : (deed : Deed) (table slot : ℕ) (c : Machine) → does_deed image deed table slot c ≡ does_deed free deed table slot c
  unfolding does_deed
  deed_same (gives_value e) table slot c = word_same _ _ _ c (λ w. refl)
  deed_same (puts_word address bytes e) table slot c = word_same _ _ _ c (λ w. word_same _ _ _ c (λ a. world_same _ c))

  called_same : (e : Entry) (table slot : ℕ) (c : Machine) → called image e table slot c ≡ called free e table slot c
  unfolding called
  called_same (at_step b n) table slot c = refl
  called_same (at_deed deed) table slot c = deed_same deed table slot (calling image slot c)
  called_same at_end table slot c = refl

  invoked_same : (o : Option Descriptor) (slot : ℕ) (c : Machine) → invoked image o slot c ≡ invoked free o slot c
  unfolding invoked
  invoked_same None slot c = refl
  invoked_same (Some d) slot c = called_same d.entry d.table slot c

  words_same : (high : ℕ) (s : ℕ → ℕ) (a n : ℕ) → words_below image high s a n ≡ words_below free high s a n
  unfolding words_below
  words_same high s a zero = refl
  words_same high s a (suc n) = ap (λ (o : Option (List ℕ)). also (word_below image high s a) (λ w. also o (λ ws. Some (w ∷ ws)))) (words_same high s (a + 8) n)

  entered_same : (top : ℕ) (o : Option (List ℕ)) (c : Machine) → entered image top o c ≡ entered free top o c
  unfolding entered
  entered_same top None c = refl
  entered_same top (Some ws) c = refl

  entered_reach : (top : ℕ) (o : Option (List ℕ)) (c : Machine) → (top ≤ (entered free top o c).peak) ⊎ ((entered free top o c).mode ≡ wrong)
  unfolding entered
  entered_reach top None c = inr refl
  entered_reach top (Some ws) c = inl (omega arith)

  handed_same : (slot n : ℕ) (c : Machine) → handed_out image slot n c ≡ handed_out free slot n c
  unfolding handed_out
  handed_same slot zero c = refl
  handed_same slot (suc n) c = refl

  yielding_high : (slot n : ℕ) (c : Machine) → c.top + 3 ≤ (yielding free (handed_out free slot n c)).peak
  unfolding handed_out
  yielding_high slot zero c = omega arith
  yielding_high slot (suc n) c = omega arith

  results_same : (slot n : ℕ) (c : Machine) → with_results image slot n c ≡ with_results free slot n c
  unfolding with_results
  results_same slot zero c = refl
  results_same slot (suc zero) c = refl
  results_same slot (suc (suc n)) c = refl

  step_pair : (b : Body) (step : Step) (c : Machine) → Pair c (on_step image b step c) (on_step free b step c)
  unfolding on_step
  step_pair b (flat.Set to e) c = inl (word_same _ _ _ c (λ w. refl))
  step_pair b (flat.Put address bytes e) c = inl (word_same _ _ _ c (λ w. word_same _ _ _ c (λ a. world_same _ c)))
  step_pair b (flat.Label label) c = inl refl
  step_pair b (flat.Jump label) c = inl refl
  step_pair b (flat.Branch e sense label) c = inl (word_same _ _ _ c (λ w. branch_same (w == 0) sense b.code label c))
  step_pair b (flat.Enter arguments) c =
      let top = c.top + (4 + b.frame) in
      stack_by (image.has_stack top) top _ _ c refl
      (so_same (nat_le image.bottom c.top) _ _ c (ap (λ o. entered image top o c) (words_same c.top c.stack c.value arguments) ∙ entered_same top (words_below free c.top c.stack c.value arguments) c))
      (so_reach (λ (m : Machine). m.peak) top (nat_le image.bottom c.top) _ c (entered_reach top (words_below free c.top c.stack c.value arguments) c))
  step_pair b (flat.Bind number e to) c = word_pair _ _ _ c (λ n. word_pair _ _ _ c (λ w. does_pair to (bound n w c.world) c))
  step_pair b (flat.Invoke routine slot) c = inl (word_same _ _ _ c (λ d. invoked_same (image.descriptor d) slot c))
  step_pair b (flat.Yield slot count) c =
      stack_by (image.has_stack (c.top + 3)) (c.top + 3) _ _ c refl
      (so_same _ _ _ c (ap (λ y. to_body image (image.entry (c.stack c.fp)) (yielding image y)) (handed_same slot count c) ∙ body_same (image.entry (c.stack c.fp)) (yielding free (handed_out free slot count c))))
      (so_reach (λ (m : Machine). m.peak) (c.top + 3) _ _ c (body_reach (c.top + 3) (image.entry (c.stack c.fp)) (yielding free (handed_out free slot count c)) (yielding_high slot count c)))
  step_pair b (flat.Resume slot) c = inl (so_same _ _ _ c (returns_same _ _))
  step_pair b (flat.Take to) c = inl refl
  step_pair b (flat.Result to number) c = inl refl
  step_pair b (flat.Cut mark) c = inl refl
  step_pair b (flat.Leave slot count) c = inl (ap (leaving image (returns image)) (results_same slot count c) ∙ so_same _ _ _ (with_results free slot count c) (returns_same _ _))
  step_pair b (flat.Raise slot) c = inl refl
  step_pair b (flat.Signal slot) c = inl (so_same _ _ _ (excepted image slot c) (call_same _ _))
  step_pair b flat.Pass c = inl (so_same _ _ _ c (call_same _ _))
  step_pair b (flat.Prim number slot) c = primitive_pair (slice_get primitives number) slot c

  -- The search.

  failing_pair : (o : Option World) (c : Machine) → Pair c (failing image o c) (failing free o c)
  unfolding failing
  failing_pair None c = inl refl
  failing_pair (Some w) c =
      let d : Machine = record (callers free c) { value = image.failure; words = address_of c.fp; stack = put_at c.fp c.world.next c.stack; world = w; used = max c.used w.next } in
      let z : (to_call free (image.entry (c.stack c.fp)) d).used ≡ max c.used w.next = call_used (image.entry (c.stack c.fp)) d in
      store_by (image.has_store w.next) w.next _ _ c refl (so_same _ _ _ c (call_same _ _))
      (so_reach (λ (m : Machine). m.used) w.next _ _ c (inl (omega (arith, z))))

  outward_pair : (b : Bool) (o : Option (List ℕ)) (c : Machine) → Pair c (outward image b o c) (outward free b o c)
  unfolding outward
  outward_pair true o c = inl (so_same _ _ _ c (call_same _ _))
  outward_pair false None c = inl refl
  outward_pair false (Some name) c = failing_pair (with_string (unhandled_text name) c.world) c

  arm_pair : (o : Option FlatArm) (c : Machine) → Pair c (on_arm image o c) (on_arm free o c)
  unfolding on_arm at_arm
  arm_pair (Some arm) c = inl refl
  arm_pair None c = outward_pair (c.value == image.failure) (image.name_of c.value) c

  bottom_same : (o : Option (List ℕ)) (c : Machine) → at_bottom image o c ≡ at_bottom free o c
  unfolding at_bottom
  bottom_same None c = refl
  bottom_same (Some text) c = refl

  in_pair : (g h : Body → Machine → Machine) (o : Option Body) (c : Machine) → ((b : Body) → Pair c (g b c) (h b c)) → Pair c (in_body image g o c) (in_body free h o c)
  unfolding in_body
  in_pair g h None c k = inl refl
  in_pair g h (Some b) c k = k b

  frame_pair : (b : Bool) (c : Machine) → Pair c (in_frame image b c) (in_frame free b c)
  unfolding in_frame searches
  frame_pair true c = inl (bottom_same (last_text image c) c)
  frame_pair false c = in_pair _ _ (image.body c.who.body) c (λ b. so_pair _ _ _ c (arm_pair (arm_at (image.regions c.who.table) c.pc c.value) c))

  stands_same : (b : Body) (step : Step) (c : Machine) → stands image b step c ≡ stands free b step c
  stands_same b (flat.Enter arguments) c = refl
  stands_same b _ c = refl

  found_pair : (b : Body) (o : Option Step) (c : Machine) → Pair c (on_found image b o c) (on_found free b o c)
  unfolding on_found
  found_pair b None c = inl refl
  found_pair b (Some step) c =
      subst (λ t. Pair c (where_so (stands image b step c) (on_step image b step c) c) (where_so t (on_step free b step c) c)) (stands_same b step c) (so_pair (stands image b step c) _ _ c (step_pair b step c))

  mode_pair : (mode : Mode) (c : Machine) → Pair c (on_mode image mode c) (on_mode free mode c)
  unfolding on_mode
  mode_pair running c = in_pair _ _ (image.body c.who.body) c (λ b. found_pair b (slice_get b.code c.pc) c)
  mode_pair searching c = frame_pair (c.fp == 0) c
  mode_pair wrong c = inl refl
  mode_pair (ended how) c = inl refl

  stepped_pair : (c : Machine) → Pair c (stepped image c) (stepped free c)
  unfolding stepped
  stepped_pair c = mode_pair c.mode c

  -- Runs.

  wrong_stays : (n : ℕ) (c : Machine) → c.mode ≡ wrong → run free n c ≡ c
  unfolding run stepped on_mode
  wrong_stays zero c e = refl
  wrong_stays (suc n) c e = ap (λ m. run free n (on_mode free m c)) e ∙ wrong_stays n c e

  -- it ended full before the second machine, with a front of its output
  pub record Stopped (c d : Machine) : Type 0 where
    pub machine : Machine
    pub comes : Comes image c machine
    pub output : Front machine.world.output d.world.output
    pub passes : ((machine.mode ≡ ended stack_full) × ((t : ℕ) × (image.has_stack t ≡ false) × (t ≤ d.peak))) ⊎ ((machine.mode ≡ ended store_full) × ((t : ℕ) × (image.has_store t ≡ false) × (t ≤ d.used)))

  run_none : (c : Machine) → run image 0 c ≡ c
  unfolding run
  run_none c = refl

  one_more : (c d : Machine) → Comes image (stepped image c) d → Comes image c d
  unfolding run
  one_more c d k = record { steps = suc k.steps; come = k.come }

  module _ (c b d : Machine) (n : ℕ) (is : run free n b ≡ d) (right : d.mode ≢ wrong) where
    not_wrong : b.mode ≢ wrong
    not_wrong e = right (ap (λ (m : Machine). m.mode) (sym (sym (wrong_stays n b e) ∙ is)) ∙ e)

    peak_by : (t : ℕ) → (t ≤ b.peak) ⊎ (b.mode ≡ wrong) → t ≤ d.peak
    peak_by t (inl l) = let z = comes_peak free b d (record { steps = n; come = is }) in omega (arith, l, z)
    peak_by t (inr e) = absurd (not_wrong e)

    used_by : (t : ℕ) → (t ≤ b.used) ⊎ (b.mode ≡ wrong) → t ≤ d.used
    used_by t (inl l) = let z = (run_widens free n b).used in let e = ap (λ (m : Machine). m.used) is in omega (arith, l, z, e)
    used_by t (inr e) = absurd (not_wrong e)

    stopped_by : (a : Machine) → stepped image c ≡ a → Front c.world.output d.world.output → Full c a b → Stopped c d
    stopped_by a s front f = by_how f.how
      where
        by_how : ((a ≡ stops stack_full c) × ((t : ℕ) × (image.has_stack t ≡ false) × ((t ≤ b.peak) ⊎ (b.mode ≡ wrong)))) ⊎ ((a ≡ stops store_full c) × ((t : ℕ) × (image.has_store t ≡ false) × ((t ≤ b.used) ⊎ (b.mode ≡ wrong)))) → Stopped c d
        by_how (inl k) = record {
          machine = stops stack_full c;
          comes = one_more c (stops stack_full c) (record { steps = 0; come = run_none (stepped image c) ∙ s ∙ k.0 });
          output = front;
          passes = inl (refl, (k.1.0, k.1.1, peak_by k.1.0 k.1.2));
        }
        by_how (inr k) = record {
          machine = stops store_full c;
          comes = one_more c (stops store_full c) (record { steps = 0; come = run_none (stepped image c) ∙ s ∙ k.0 });
          output = front;
          passes = inr (refl, (k.1.0, k.1.1, used_by k.1.0 k.1.2));
        }

  stopped_more : (c e d : Machine) → stepped image c ≡ e → Stopped e d → Stopped c d
  stopped_more c e d is s = record { machine = s.machine; comes = one_more c s.machine (subst (λ (x : Machine). Comes image x s.machine) (sym is) s.comes); output = s.output; passes = s.passes }

  by_pair : (n : ℕ) (c d : Machine) → run free (suc n) c ≡ d → run free n (stepped free c) ≡ d → d.mode ≢ wrong → Pair c (stepped image c) (stepped free c) → (Comes image (stepped free c) d ⊎ Stopped (stepped free c) d) → Comes image c d ⊎ Stopped c d
  by_pair n c d whole is right (inl e) (inl k) = inl (one_more c d (subst (λ (x : Machine). Comes image x d) (sym e) k))
  by_pair n c d whole is right (inl e) (inr k) = inr (stopped_more c (stepped free c) d e k)
  by_pair n c d whole is right (inr f) o = inr (stopped_by c (stepped free c) d n is right (stepped image c) refl (subst (λ (x : Machine). Front c.world.output x.world.output) whole (run_widens free (suc n) c).output) f)

  pub limited : (n : ℕ) (c d : Machine) → run free n c ≡ d → d.mode ≢ wrong → Comes image c d ⊎ Stopped c d
  unfolding run
  limited zero c d e right = inl (record { steps = 0; come = e })
  limited (suc n) c d e right = by_pair n c d e e right (stepped_pair c) (limited n (stepped free c) d e right)
