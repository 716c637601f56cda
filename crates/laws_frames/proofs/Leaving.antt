-- An image in which the end of the run is a step of a body that isn't there: what its machines do is what the image's own do, up to
-- where the run ends.
use Rattle.std.proofs.Common.{◌≡◌, ◌≢◌, ◌∙◌, ◌⊎◌, inl, inr, ℕ, zero, suc, ◌+◌, ◌*◌, ◌==◌, Bool, true, false, List, ◌∷◌, Option, Some, None, slice_get, refl, ap, sym, subst, arith}
use Rattle.std.specs.Prelude.{if◌then◌else◌, ◌&&◌, max}
use Rattle.std.proofs.lemmas.Bool.{eqb-true}
use Rattle.std.proofs.lemmas.Bool.Decides.{nat_tests}
use Rattle.clu_wir.specs.Numbers.{primitives}
use Rattle.clu_wir.specs.Plain.{Deed, gives_value, puts_word}
use Rattle.clu_wir.specs.Value.{Gives, Raises, Stuck, Value}
use Rattle.clu_wir.specs.declared.primitive.Primitive.{Primitive}
use Rattle.clu_frames.specs.Plain.{Step}
use Rattle.clu_frames.specs.Plain as flat
use Rattle.clu_word_meaning.specs.World.{Done, World, also, bound, unhandled_text, with_string}
use Rattle.clu_flat_meaning.specs.Image.{Body, Descriptor, Entry, FlatArm, Image, at_deed, at_end, at_step}
use Rattle.clu_flat_meaning.specs.Machine.{Ended, Machine, Mode, arm_at, at_arm, at_bottom, branches, by_word, called, callers, calling, does, does_deed, does_primitive, ended, entered, excepted, failing, handed_out, in_body, in_frame, invoked, last_text, leaving, next, on_arm, on_found, on_mode, on_step, or_wrong, outward, put_at, put_in, puts_world, returned, returns, running, searches, searching, stands, stepped, to_body, to_call, travelled, where_room, where_so, with_results, word_below, words_below, wrong, yielding, yields}
use Rattle.laws_frames.specs.Promises.{instance_at}

-- the end of a run as a step
abbrev pub ending : Image → ℕ → ℕ → Image
ending image end f = record image { entry = λ a. if a == end then Some (at_step f 1) else image.entry a; address = λ b n. if b == f && n == 1 then end else image.address b n }

module _ (image : Image) (end f : ℕ) (ends : image.entry end ≡ Some at_end) (entries : (a b n : ℕ) → image.entry a ≡ Some (at_step b n) → b ≢ f) (descriptors : (w b n : ℕ) (d : Descriptor) → image.descriptor w ≡ Some d → d.entry ≡ at_step b n → b ≢ f) where
  abbrev other : Image
  other = ending image end f

  abbrev Real : Machine → Type 0
  Real c = c.who.body ≢ f

  -- of the machine of the other image, and that of the image: the run ends, is searched outside of all routines, or goes wrong
  abbrev pub Ends : Machine → Machine → Machine → Type 0
  Ends x a b = (a ≡ record x { who = instance_at f x.who.table; pc = 1; clock = suc x.clock }) × (b ≡ record x { mode = ended returned; clock = suc x.clock })

  abbrev pub Passes : Machine → Machine → Machine → Type 0
  Passes x a b = (a ≡ record x { who = instance_at f x.who.table; pc = 0; mode = searching; clock = suc x.clock }) × (b ≡ record x { mode = searching; clock = suc x.clock })

  abbrev pub Strays : Machine → Machine → Type 0
  Strays x a = a ≡ record x { who = instance_at f x.who.table; pc = 2; clock = suc x.clock }

  pub record Out (a b : Machine) : Type 0 where
    pub from : Machine
    pub how : Ends from a b ⊎ (Passes from a b ⊎ Strays from a)

  abbrev pub Pair : Machine → Machine → Type 0
  Pair a b = ((a ≡ b) × Real b) ⊎ Out a b

  same : (a : Machine) → Real a → Pair a a
  same a r = inl (refl, r)

  as_pair : (a a' b b' : Machine) → a ≡ a' → b ≡ b' → Pair a' b' → Pair a b
  as_pair a a' b b' e g p = subst (λ x. Pair x b) (sym e) (subst (λ x. Pair a' x) (sym g) p)

  -- Where a return leads.

  entry_so : (a : ℕ) (t : Bool) → (a == end) ≡ t → t ≡ true → (other.entry a ≡ Some (at_step f 1)) × (image.entry a ≡ Some at_end)
  entry_so a t e h =
      let is : (a == end) ≡ true = e ∙ h in
      (by_if (a == end) (Some (at_step f 1)) (image.entry a) is, ap image.entry (eqb-true a end is) ∙ ends)
    where
      by_if : (b : Bool) (x y : Option Entry) → b ≡ true → (if b then x else y) ≡ x
      by_if b x y e = rw e refl

  entry_not : (a : ℕ) → (a == end) ≡ false → other.entry a ≡ image.entry a
  entry_not a e = by_if (a == end) (Some (at_step f 1)) (image.entry a) e
    where
      by_if : (b : Bool) (x y : Option Entry) → b ≡ false → (if b then x else y) ≡ y
      by_if b x y e = rw e refl

  abbrev On : Type 0
  On = Option Entry → Machine → Machine

  -- ways to go on at a return address
  record Goes (g g' : On) : Type 0 where
    at_end_of : (x : Machine) → Real x → Pair (g' (Some (at_step f 1)) x) (g (Some at_end) x)
    elsewhere : (o : Option Entry) (x : Machine) → Real x → ((b n : ℕ) → o ≡ Some (at_step b n) → b ≢ f) → Pair (g' o x) (g o x)

  goes_on : (g g' : On) → Goes g g' → (a : ℕ) (x : Machine) → Real x → Pair (g' (other.entry a) x) (g (image.entry a) x)
  goes_on g g' k a x r = by_test (a == end) refl
    where
      by_test : (t : Bool) → (a == end) ≡ t → Pair (g' (other.entry a) x) (g (image.entry a) x)
      by_test true e = let z = entry_so a true e refl in as_pair _ (g' (Some (at_step f 1)) x) _ (g (Some at_end) x) (ap (λ o. g' o x) z.0) (ap (λ o. g o x) z.1) (k.at_end_of x r)
      by_test false e = as_pair _ (g' (image.entry a) x) _ (g (image.entry a) x) (ap (λ o. g' o x) (entry_not a e)) refl (k.elsewhere (image.entry a) x r (λ b n h. entries a b n h))

  returns_go : Goes (returns image) (returns other)
  unfolding returns
  returns_go = record {
    at_end_of = λ x r. inr (record { from = x; how = inl (refl, refl) });
    elsewhere = λ o x r k. by_entry o x r k;
  }
    where
      by_entry : (o : Option Entry) (x : Machine) → Real x → ((b n : ℕ) → o ≡ Some (at_step b n) → b ≢ f) → Pair (returns other o x) (returns image o x)
      by_entry (Some (at_step b n)) x r k = inl (refl, k b n refl)
      by_entry (Some at_end) x r k = inl (refl, r)
      by_entry (Some (at_deed d)) x r k = inl (refl, r)
      by_entry None x r k = inl (refl, r)

  calls_go : Goes (to_call image) (to_call other)
  unfolding to_call
  calls_go = record {
    at_end_of = λ x r. inr (record { from = x; how = inr (inl (refl, refl)) });
    elsewhere = λ o x r k. by_entry o x r k;
  }
    where
      by_entry : (o : Option Entry) (x : Machine) → Real x → ((b n : ℕ) → o ≡ Some (at_step b n) → b ≢ f) → Pair (to_call other o x) (to_call image o x)
      by_entry (Some (at_step b n)) x r k = inl (refl, k b n refl)
      by_entry (Some at_end) x r k = inl (refl, r)
      by_entry (Some (at_deed d)) x r k = inl (refl, r)
      by_entry None x r k = inl (refl, r)

  bodies_go : Goes (to_body image) (to_body other)
  unfolding to_body
  bodies_go = record {
    at_end_of = λ x r. inr (record { from = x; how = inr (inr refl) });
    elsewhere = λ o x r k. by_entry o x r k;
  }
    where
      by_entry : (o : Option Entry) (x : Machine) → Real x → ((b n : ℕ) → o ≡ Some (at_step b n) → b ≢ f) → Pair (to_body other o x) (to_body image o x)
      by_entry (Some (at_step b n)) x r k = inl (refl, k b n refl)
      by_entry (Some at_end) x r k = inl (refl, r)
      by_entry (Some (at_deed d)) x r k = inl (refl, r)
      by_entry None x r k = inl (refl, r)

  -- Parts of steps.

  so_pair : (b : Bool) (x y c : Machine) → Real c → Pair x y → Pair (where_so b x c) (where_so b y c)
  unfolding where_so
  so_pair true x y c r p = p
  so_pair false x y c r p = inl (refl, r)

  room_pair : (b : Bool) (how : Ended) (x y c : Machine) → Real c → Pair x y → Pair (where_room b how x c) (where_room b how y c)
  unfolding where_room
  room_pair true how x y c r p = p
  room_pair false how x y c r p = inl (refl, r)

  word_pair : (v : Value) (g g' : ℕ → Machine → Machine) (c : Machine) → Real c → ((w : ℕ) → Pair (g' w c) (g w c)) → Pair (by_word other v g' c) (by_word image v g c)
  unfolding by_word
  word_pair (Gives w) g g' c r k = k w
  word_pair (Raises t) g g' c r k = inl (refl, r)
  word_pair Stuck g g' c r k = inl (refl, r)

  or_pair : (o : Option ℕ) (g : ℕ → Machine) (c : Machine) → Real c → ((w : ℕ) → Real (g w)) → Pair (or_wrong o g c) (or_wrong o g c)
  unfolding or_wrong
  or_pair None g c r k = inl (refl, r)
  or_pair (Some w) g c r k = inl (refl, k w)

  branch_pair : (a b : Bool) (code : List Step) (label : ℕ) (c : Machine) → Real c → Pair (branches other a b code label c) (branches image a b code label c)
  branch_pair true true code label c r = inl (refl, r)
  branch_pair true false code label c r = inl (refl, r)
  branch_pair false true code label c r = inl (refl, r)
  branch_pair false false code label c r = inl (refl, r)

  world_pair : (o : Option World) (c : Machine) → Real c → Pair (puts_world other o c) (puts_world image o c)
  unfolding puts_world
  world_pair None c r = inl (refl, r)
  world_pair (Some w) c r = inl (refl, r)

  does_pair : (slot : ℕ) (o : Option Done) (c : Machine) → Real c → Pair (does other slot o c) (does image slot o c)
  unfolding does
  does_pair slot None c r = inl (refl, r)
  does_pair slot (Some d) c r = room_pair _ _ _ _ c r (inl (refl, r))

  primitive_pair : (o : Option Primitive) (slot : ℕ) (c : Machine) → Real c → Pair (does_primitive other o slot c) (does_primitive image o slot c)
  unfolding does_primitive
  primitive_pair None slot c r = inl (refl, r)
  primitive_pair (Some p) slot c r = does_pair slot _ c r

  deed_pair : (deed : Deed) (table slot : ℕ) (c : Machine) → Real c → Pair (does_deed other deed table slot c) (does_deed image deed table slot c)
  unfolding does_deed
  deed_pair (gives_value e) table slot c r = word_pair _ _ _ c r (λ w. inl (refl, r))
  deed_pair (puts_word address bytes e) table slot c r = word_pair _ _ _ c r (λ w. word_pair _ _ _ c r (λ a. world_pair _ c r))

  -- an address of the running instance
  address_same : (c : Machine) (n : ℕ) → Real c → other.address c.who.body n ≡ image.address c.who.body n
  address_same c n r = by_if (c.who.body == f) (n == 1) (let t : (c.who.body == f) ≡ false = grind (arith, nat_tests, r) in t)
    where
      by_if : (a b : Bool) → a ≡ false → (if a && b then end else image.address c.who.body n) ≡ image.address c.who.body n
      by_if a b e = rw e refl

  called_pair : (e : Entry) (table slot : ℕ) (c : Machine) → Real c → ((b n : ℕ) → e ≡ at_step b n → b ≢ f) → Pair (called other e table slot c) (called image e table slot c)
  unfolding called
  called_pair (at_step b n) table slot c r k =
      inl (ap (λ a. record c { back = a; caller = c.who.table; value = 8 * (c.fp + 4 + slot); who = instance_at b table; pc = n; clock = suc c.clock }) (address_same c (suc c.pc) r), k b n refl)
  called_pair (at_deed deed) table slot c r k =
      as_pair _ (does_deed other deed table slot (calling image slot c)) _ (does_deed image deed table slot (calling image slot c))
      (ap (λ a. does_deed other deed table slot (record c { back = a; caller = c.who.table; value = 8 * (c.fp + 4 + slot) })) (address_same c (suc c.pc) r)) refl (deed_pair deed table slot (calling image slot c) r)
  called_pair at_end table slot c r k = inl (refl, r)

  invoked_pair : (w : ℕ) (o : Option Descriptor) → image.descriptor w ≡ o → (slot : ℕ) (c : Machine) → Real c → Pair (invoked other o slot c) (invoked image o slot c)
  unfolding invoked
  invoked_pair w None e slot c r = inl (refl, r)
  invoked_pair w (Some d) e slot c r = called_pair d.entry d.table slot c r (λ b n h. descriptors w b n d e h)

  words_same : (high : ℕ) (s : ℕ → ℕ) (a n : ℕ) → words_below other high s a n ≡ words_below image high s a n
  unfolding words_below
  words_same high s a zero = refl
  words_same high s a (suc n) = ap (λ (o : Option (List ℕ)). also (word_below image high s a) (λ w. also o (λ ws. Some (w ∷ ws)))) (words_same high s (a + 8) n)

  entered_pair : (top : ℕ) (o : Option (List ℕ)) (c : Machine) → Real c → Pair (entered other top o c) (entered image top o c)
  unfolding entered
  entered_pair top None c r = inl (refl, r)
  entered_pair top (Some ws) c r = inl (refl, r)

  handed_same : (slot n : ℕ) (c : Machine) → handed_out other slot n c ≡ handed_out image slot n c
  unfolding handed_out
  handed_same slot zero c = refl
  handed_same slot (suc n) c = refl

  handed_real : (slot n : ℕ) (c : Machine) → Real c → Real (handed_out image slot n c)
  unfolding handed_out
  handed_real slot zero c r = r
  handed_real slot (suc n) c r = r

  results_same : (slot n : ℕ) (c : Machine) → with_results other slot n c ≡ with_results image slot n c
  unfolding with_results
  results_same slot zero c = refl
  results_same slot (suc zero) c = refl
  results_same slot (suc (suc n)) c = refl

  results_real : (slot n : ℕ) (c : Machine) → Real c → Real (with_results image slot n c)
  unfolding with_results
  results_real slot zero c r = r
  results_real slot (suc zero) c r = r
  results_real slot (suc (suc n)) c r = r

  yielding_same : (c : Machine) → Real c → yielding other c ≡ yielding image c
  yielding_same c r = ap (λ a. record (callers image c) { value = 8 * (c.top + 3); top = c.top + 3; peak = max c.peak (c.top + 3); high = max c.high (c.top + 3); stack = put_at (c.top + 2) c.who.table (put_at (c.top + 1) (8 * c.fp) (put_at c.top a c.stack)) }) (address_same c (suc c.pc) r)

  yields_pair : (slot count : ℕ) (c : Machine) → Real c → Pair (yields other slot count c) (yields image slot count c)
  yields_pair slot count c r =
      let x = handed_out image slot count c in
      let rx : Real x = handed_real slot count c r in
      room_pair _ _ _ _ c r (so_pair _ _ _ c r (as_pair _ (to_body other (other.entry (c.stack c.fp)) (yielding image x)) _ (to_body image (image.entry (c.stack c.fp)) (yielding image x))
      (ap (λ y. to_body other (other.entry (c.stack c.fp)) (yielding other y)) (handed_same slot count c) ∙ ap (to_body other (other.entry (c.stack c.fp))) (yielding_same x rx)) refl
      (goes_on (to_body image) (to_body other) bodies_go (c.stack c.fp) (yielding image x) rx)))

  leaving_pair : (g g' : On) → Goes g g' → (c : Machine) → Real c → Pair (leaving other g' c) (leaving image g c)
  leaving_pair g g' k c r = so_pair _ _ _ c r (goes_on g g' k (c.stack c.fp) _ r)

  step_pair : (b : Body) (step : Step) (c : Machine) → Real c → Pair (on_step other b step c) (on_step image b step c)
  unfolding on_step
  step_pair b (flat.Set to e) c r = word_pair _ _ _ c r (λ w. inl (refl, r))
  step_pair b (flat.Put address bytes e) c r = word_pair _ _ _ c r (λ w. word_pair _ _ _ c r (λ a. world_pair _ c r))
  step_pair b (flat.Label label) c r = inl (refl, r)
  step_pair b (flat.Jump label) c r = inl (refl, r)
  step_pair b (flat.Branch e sense label) c r = word_pair _ _ _ c r (λ w. branch_pair (w == 0) sense b.code label c r)
  step_pair b (flat.Enter arguments) c r =
      let top = c.top + (4 + b.frame) in
      room_pair _ _ _ _ c r (so_pair _ _ _ c r (as_pair _ (entered other top (words_below image c.top c.stack c.value arguments) c) _ _ (ap (λ o. entered other top o c) (words_same c.top c.stack c.value arguments)) refl
      (entered_pair top (words_below image c.top c.stack c.value arguments) c r)))
  step_pair b (flat.Bind number e to) c r = word_pair _ _ _ c r (λ n. word_pair _ _ _ c r (λ w. does_pair to (bound n w c.world) c r))
  step_pair b (flat.Invoke routine slot) c r = word_pair _ _ _ c r (λ d. invoked_pair d (image.descriptor d) refl slot c r)
  step_pair b (flat.Yield slot count) c r = yields_pair slot count c r
  step_pair b (flat.Resume slot) c r = so_pair _ _ _ c r (goes_on (returns image) (returns other) returns_go _ _ r)
  step_pair b (flat.Take to) c r = inl (refl, r)
  step_pair b (flat.Result to number) c r = or_pair (travelled image c number) (λ w. next (put_in to w c)) c r (λ w. r)
  step_pair b (flat.Cut mark) c r = so_pair _ _ _ c r (inl (refl, r))
  step_pair b (flat.Leave slot count) c r =
      as_pair _ (leaving other (returns other) (with_results image slot count c)) _ _ (ap (leaving other (returns other)) (results_same slot count c)) refl
      (leaving_pair (returns image) (returns other) returns_go (with_results image slot count c) (results_real slot count c r))
  step_pair b (flat.Raise slot) c r = inl (refl, r)
  step_pair b (flat.Signal slot) c r = leaving_pair (to_call image) (to_call other) calls_go (excepted image slot c) r
  step_pair b flat.Pass c r = leaving_pair (to_call image) (to_call other) calls_go c r
  step_pair b (flat.Prim number slot) c r = primitive_pair (slice_get primitives number) slot c r

  -- The search.

  failing_pair : (o : Option World) (c : Machine) → Real c → Pair (failing other o c) (failing image o c)
  unfolding failing
  failing_pair None c r = inl (refl, r)
  failing_pair (Some w) c r = room_pair _ _ _ _ c r (so_pair _ _ _ c r (goes_on (to_call image) (to_call other) calls_go (c.stack c.fp) _ r))

  outward_pair : (b : Bool) (o : Option (List ℕ)) (c : Machine) → Real c → Pair (outward other b o c) (outward image b o c)
  unfolding outward
  outward_pair true o c r = so_pair _ _ _ c r (goes_on (to_call image) (to_call other) calls_go (c.stack c.fp) _ r)
  outward_pair false None c r = inl (refl, r)
  outward_pair false (Some name) c r = failing_pair (with_string (unhandled_text name) c.world) c r

  arm_pair : (o : Option FlatArm) (c : Machine) → Real c → Pair (on_arm other o c) (on_arm image o c)
  unfolding on_arm at_arm
  arm_pair (Some arm) c r = so_pair _ _ _ c r (inl (refl, r))
  arm_pair None c r = outward_pair (c.value == image.failure) (image.name_of c.value) c r

  bottom_pair : (o : Option (List ℕ)) (c : Machine) → Real c → Pair (at_bottom other o c) (at_bottom image o c)
  unfolding at_bottom
  bottom_pair None c r = inl (refl, r)
  bottom_pair (Some text) c r = inl (refl, r)

  body_pair : (g g' : Body → Machine → Machine) (o : Option Body) (c : Machine) → Real c → ((b : Body) → Pair (g' b c) (g b c)) → Pair (in_body other g' o c) (in_body image g o c)
  unfolding in_body
  body_pair g g' None c r k = inl (refl, r)
  body_pair g g' (Some b) c r k = k b

  frame_pair : (b : Bool) (c : Machine) → Real c → Pair (in_frame other b c) (in_frame image b c)
  unfolding in_frame searches
  frame_pair true c r = bottom_pair (last_text image c) c r
  frame_pair false c r = body_pair _ _ (image.body c.who.body) c r (λ b. so_pair _ _ _ c r (arm_pair (arm_at (image.regions c.who.table) c.pc c.value) c r))

  stands_same : (b : Body) (step : Step) (c : Machine) → stands other b step c ≡ stands image b step c
  stands_same b (flat.Enter arguments) c = refl
  stands_same b _ c = refl

  found_pair : (b : Body) (o : Option Step) (c : Machine) → Real c → Pair (on_found other b o c) (on_found image b o c)
  unfolding on_found
  found_pair b None c r = inl (refl, r)
  found_pair b (Some step) c r =
      as_pair _ (where_so (stands image b step c) (on_step other b step c) c) _ _ (ap (λ t. where_so t (on_step other b step c) c) (stands_same b step c)) refl (so_pair _ _ _ c r (step_pair b step c r))

  mode_pair : (mode : Mode) (c : Machine) → Real c → Pair (on_mode other mode c) (on_mode image mode c)
  unfolding on_mode
  mode_pair running c r = body_pair _ _ (image.body c.who.body) c r (λ b. found_pair b (slice_get b.code c.pc) c r)
  mode_pair searching c r = frame_pair (c.fp == 0) c r
  mode_pair wrong c r = inl (refl, r)
  mode_pair (ended how) c r = inl (refl, r)

  pub stepped_pair : (c : Machine) → Real c → Pair (stepped other c) (stepped image c)
  unfolding stepped
  stepped_pair c r = mode_pair c.mode c r
