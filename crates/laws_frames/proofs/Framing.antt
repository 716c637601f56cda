-- Routines that are entered, and routines without a frame.
use Rattle.std.proofs.Common.{◌≡◌, ◌≢◌, ◌∙◌, ℕ, zero, suc, ◌+◌, ◌-◌, ◌*◌, ◌^◌, ◌<◌, ◌≤◌, ◌==◌, Bool, true, false, List, [], ◌∷◌, length, Option, Some, None, slice_get, refl, ap, sym, arith}
use Rattle.std.specs.Prelude.{max, nat_le}
use Rattle.std.specs.Str.{bytes_eq}
use Rattle.std.proofs.lemmas.Bool.{eqb-true}
use Rattle.std.proofs.lemmas.Bool.Decides.{nat_tests}
use Rattle.std.proofs.lemmas.Option.{same_Some}
use Rattle.clu_base.proofs.Bools.{same_truth}
use Rattle.clu_base.proofs.Lists.{as_bytes, none_is_not, same_bytes}
use Rattle.clu_frames.specs.Plain.{Step}
use Rattle.clu_frames.specs.Plain as flat
use Rattle.clu_frames.specs.Flattening.{Guarding, Onto, Round, begun, outermost, pushed}
use Rattle.clu_base.specs.declared.constants.ObjConst.{ObjConst}
use Rattle.clu_wir.specs.Plain.{Expr}
use Rattle.clu_wir.specs.Plain as plain
use Rattle.clu_wir.specs.Value.{value}
use Rattle.clu_word_meaning.specs.World.{World, failure_name, unhandled_text, with_string}
use Rattle.clu_word_meaning.specs.Words.{Body, Computation, Ending, Result, State, broken, continue_either_way, continued, counted, either, either_way, ended, ends, exec_all, exited, gives, is_same, need, normal, out_of_turns, paid, raised, returned, sees, signalled, spends_a_turn, stores, through, view, with_state, with_world, wrong}
use Rattle.clu_word_meaning.specs.Words.{Entry as WordEntry}
use Rattle.clu_word_meaning.specs.Levels.{WordRoutine, entering, enters, fails, fails_as, inside, routine_ending}
use Rattle.clu_flat_meaning.specs.Image.{Entry, FlatArm, Image, Instance, at_step}
use Rattle.clu_flat_meaning.specs.Machine.{Comes, Machine, Mode, address_of, arm_at, callers, failing, framed, is_address, next, number_at, on_arm, on_step, outward, passing, put_all, put_at, running, searching, slots_at, stack_full, store_full, to_call, view_of, where_so, word_below, words_below}
use Rattle.clu_flat_meaning.specs.Image as parts
use Rattle.clu_flat_meaning.specs.Machine.{entered as framed_with, enters as frame_made}
use Rattle.clu_flat_meaning.proofs.Runs.{Front, Once, address_so, at_push, comes_as, comes_same, comes_then, first_step, front_back, front_more, number_so, one_search, put_other, put_same, room_is, so_is, le_so}
use Rattle.laws_frames.specs.Calls.{Backs, Brings, Called, Context, Excepts}
use Rattle.laws_frames.specs.Promises.{Honest, instance_at}
use Rattle.laws_frames.proofs.Relation.{Agree, Arrives, Lands, Laws, Outcome, Owes, Place, Seeks, Starts, beyond, regions}
use Rattle.laws_frames.proofs.Simple.{excepts_less, frame_so, stack_word, stood}
use Rattle.laws_frames.proofs.Control.{DoesAt, Fronts}
use Rattle.laws_frames.proofs.Rows.{call_is, leave_at}
use Rattle.laws_frames.proofs.Entering.{AtEntry, BodyOk, FrameOk, Local}

-- Words that are put side by side.

pub put_all_below : (ws : List ℕ) (to : ℕ) (s : ℕ → ℕ) (i : ℕ) → i < to → put_all to ws s i ≡ s i
unfolding put_all
put_all_below [] to s i l = refl
put_all_below (w ∷ ws) to s i l = put_all_below ws (suc to) (put_at to w s) i (omega (arith, l)) ∙ put_other to i w s (λ x. omega (arith, x, l))

pub put_all_at : (ws : List ℕ) (to : ℕ) (s : ℕ → ℕ) (j w : ℕ) → slice_get ws j ≡ Some w → put_all to ws s (to + j) ≡ w
unfolding put_all
put_all_at [] to s j w e = absurd (none_is_not w e)
put_all_at (v ∷ ws) to s zero w e = put_all_below ws (suc to) (put_at to v s) (to + 0) (omega arith) ∙ put_same to (to + 0) v s (omega arith) ∙ same_Some v w e
put_all_at (v ∷ ws) to s (suc j) w e = (let z : to + suc j ≡ suc to + j = omega arith in ap (put_all (suc to) ws (put_at to v s)) z) ∙ put_all_at ws (suc to) (put_at to v s) j w e

module _ (image : Image) (who : Instance) (q : WordRoutine) (shape : parts.Body) (seek : Option ℕ → ℕ → Option FlatArm) (Good : Expr → Type 0) where
  -- the place of the routine's frame, on what stands below
  abbrev pub place_on : Context → Place
  place_on k = record { image = image; shape = shape; me = who; linked = q.linked; base = q.slots; fp = k.last; site = k.site; caller = k.caller; link = k.link; high = k.high; inv = k.inv; out = k.out; seek = seek }

  -- what is asked of the flat code of a routine, but of its statements
  pub record Compiled : Type 1 where
    pub there : image.body who.body ≡ Some shape
    pub honest : Honest image q.linked
    pub args : q.args ≤ q.slots
    pub slots : q.slots ≤ shape.frame
    -- a frame takes at most the words that are counted for a call
    pub nodes : 4 + shape.frame ≤ 16 + (q.nodes + q.nodes)
    pub once : Once shape.code
    pub none : (v : ℕ) → seek None v ≡ None
    pub few : q.slots < 2 ^ 32
    pub slot_good : (n : ℕ) → Good (plain.slot n) → n < q.slots
    pub agrees : (k : Context) (e : Expr) → Good e → (st : State) (c : Machine) → Owes (place_on k) st c →
        Agree (place_on k) (value (view q.linked st.slots st.world) e) (value (view_of image (slots_at image c) c.who.table c.world) e)

  module _ (compiled : Compiled) (constants : List ObjConst) (on : Onto) (front : Front (pushed (flat.Leave q.slots 0) (on (outermost constants q.slots) (begun q.args))).code shape.code) (fronts : Fronts on) where
    abbrev pub outer : Round
    outer = outermost constants q.slots

    abbrev pub laws_on : (k : Context) → Local image k → ℕ → Laws (place_on k) Good
    laws_on k local live = record { live = live; honest = compiled.honest; at_me = compiled.there; leads = local.leads; local = local.on; small = compiled.slots; deep = local.deep; high = local.high; few = compiled.few; slot_good = compiled.slot_good; agrees = compiled.agrees k }

    module _ (entries : ℕ → WordEntry) (k : Context) (local : Local image k) (c : Machine) where
      abbrev p : Place
      p = place_on k

      abbrev top : ℕ
      top = c.top + (4 + shape.frame)

      module _ (live : ℕ) (room : k.last ≤ live) (body : Body) (ok : BodyOk image k body) (ws : List ℕ) (st : State) (at : AtEntry image k who ws st c) where
        -- the routine's frame is made
        abbrev made : Machine
        made = next (record c { fp = c.top; top = top; peak = max c.peak top; high = max c.high top; stack = put_all (c.top + 4) ws (framed image top c) })

        abbrev up : ℕ
        up = inside live q

        abbrev s1 : ℕ → ℕ
        s1 = put_at c.top c.back c.stack

        abbrev s2 : ℕ → ℕ
        s2 = put_at (c.top + 1) (address_of c.fp) s1

        abbrev s3 : ℕ → ℕ
        s3 = put_at (c.top + 2) c.caller s2

        in_stack : (i : ℕ) → i < c.top + 4 → made.stack i ≡ put_at (c.top + 3) (address_of top) s3 i
        in_stack i l = put_all_below ws (c.top + 4) (put_at (c.top + 3) (address_of top) s3) i l

        foot3 : made.stack (k.last + 3) ≡ address_of top
        foot3 = in_stack (k.last + 3) (omega (arith, at.top)) ∙ put_same (c.top + 3) (k.last + 3) (address_of top) s3 (omega (arith, at.top))

        foot2 : made.stack (k.last + 2) ≡ c.caller
        foot2 = in_stack (k.last + 2) (omega (arith, at.top)) ∙ put_other (c.top + 3) (k.last + 2) (address_of top) s3 (λ x. omega (arith, at.top, x)) ∙ put_same (c.top + 2) (k.last + 2) c.caller s2 (omega (arith, at.top))

        foot1 : made.stack (k.last + 1) ≡ address_of c.fp
        foot1 = in_stack (k.last + 1) (omega (arith, at.top)) ∙ put_other (c.top + 3) (k.last + 1) (address_of top) s3 (λ x. omega (arith, at.top, x)) ∙ put_other (c.top + 2) (k.last + 1) c.caller s2 (λ x. omega (arith, at.top, x))
            ∙ put_same (c.top + 1) (k.last + 1) (address_of c.fp) s1 (omega (arith, at.top))

        foot0 : made.stack k.last ≡ c.back
        foot0 = in_stack k.last (omega (arith, at.top)) ∙ put_other (c.top + 3) k.last (address_of top) s3 (λ x. omega (arith, at.top, x)) ∙ put_other (c.top + 2) k.last c.caller s2 (λ x. omega (arith, at.top, x))
            ∙ put_other (c.top + 1) k.last (address_of c.fp) s1 (λ x. omega (arith, at.top, x)) ∙ put_same c.top k.last c.back c.stack (omega (arith, at.top))

        under : (i : ℕ) → i < k.last → made.stack i ≡ c.stack i
        under i l = in_stack i (omega (arith, at.top, l)) ∙ put_other (c.top + 3) i (address_of top) s3 (λ x. omega (arith, at.top, x, l)) ∙ put_other (c.top + 2) i c.caller s2 (λ x. omega (arith, at.top, x, l))
            ∙ put_other (c.top + 1) i (address_of c.fp) s1 (λ x. omega (arith, at.top, x, l)) ∙ put_other c.top i c.back c.stack (λ x. omega (arith, at.top, x, l))

        begins : (t : ℕ) → q.args ≡ length ws → Starts p up outer (begun q.args) (entering up ws (paid st)) made
        begins t n = record {
          pc = ap suc at.pc;
          mode = at.mode;
          top = omega (arith, at.top);
          room = compiled.slots;
          mark = foot3;
          site = foot0 ∙ at.back;
          caller = foot1 ∙ ap address_of at.frame;
          link = foot2 ∙ at.link;
          low = omega (arith, at.top, room, compiled.nodes);
          cut = tt;
          guards = λ n g e. absurd (no_guard n g e);
          sees = record {
            slots = λ i v h e. (let z : k.last + 4 + i ≡ c.top + 4 + i = omega (arith, at.top) in ap made.stack z) ∙ put_all_at ws (c.top + 4) (framed image top c) i v e;
            below = local.on c.stack made.stack st.outer under at.below;
            world = at.world;
            who = at.who;
            frame = at.top;
            room = omega (arith, at.top);
            pay = omega (arith, at.pay);
            within = (omega (arith, at.within.0, at.top, room, compiled.nodes), at.within.1, omega (arith, at.within.2), omega (arith, at.within.3, at.top, room, compiled.nodes), omega arith);
          };
        }
          where
            no_guard : (n : ℕ) (g : Guarding) → slice_get outer.guards n ≡ Some g → ⊥
            no_guard n g e = none_is_not g e

        -- An exception that no arm takes.

        at_failure : (name : List ℕ) (x : Machine) → image.name_of x.value ≡ Some name → (x.value == image.failure) ≡ bytes_eq name failure_name
        at_failure name x e = same_truth (x.value == image.failure) (bytes_eq name failure_name)
            (λ t. let z : x.value ≡ image.failure = eqb-true x.value image.failure t in as_bytes name failure_name (same_Some name failure_name (sym e ∙ ap image.name_of z ∙ compiled.honest.failure)))
            (λ t.
            let z : name ≡ failure_name = same_bytes name failure_name t in
            let y : x.value ≡ image.failure = sym (compiled.honest.names x.value name e) ∙ ap q.linked.name_word z ∙ compiled.honest.names image.failure failure_name compiled.honest.failure in
            grind (arith, nat_tests, y))

        module _ (name objects : List ℕ) (t : ℕ) (here : State) (o : Seeks p q.slots made.top made.stack made None name objects here) (a : Comes image c made) where
          abbrev x : Machine
          x = o.machine

          below : (i : ℕ) → i < 4 → x.stack (k.last + i) ≡ made.stack (k.last + i)
          below = o.keeps.foot

          at_zero : x.stack x.fp ≡ image.address k.link.body (suc k.site)
          at_zero = ap x.stack o.sees.frame ∙ (let z : k.last ≡ k.last + 0 = omega arith in ap x.stack z ∙ below 0 (omega arith) ∙ ap made.stack (sym z)) ∙ foot0 ∙ at.back

          at_one : x.stack (x.fp + 1) ≡ address_of k.caller
          at_one = ap (λ n. x.stack (n + 1)) o.sees.frame ∙ below 1 (omega arith) ∙ foot1 ∙ ap address_of at.frame

          at_two : x.stack (x.fp + 2) ≡ k.link.table
          at_two = ap (λ n. x.stack (n + 2)) o.sees.frame ∙ below 2 (omega arith) ∙ foot2 ∙ at.link

          searched : Comes image x (outward image (x.value == image.failure) (image.name_of x.value) x)
          unfolding on_arm
          searched =
              let none : arm_at (regions p) x.pc x.value ≡ None = o.home ∙ compiled.none x.value in
              let table : image.regions x.who.table ≡ regions p = ap (λ (i : Instance). image.regions i.table) o.sees.who in
              let deep : x.fp ≢ 0 = λ z. omega (arith, z, o.sees.frame, local.deep, compiled.honest.bottom) in
              let inside : (x.fp == 0) ≡ false = grind (arith, nat_tests, deep) in
              comes_as image x (on_arm image (arm_at (image.regions x.who.table) x.pc x.value) x) _ (ap (λ r. on_arm image (arm_at r x.pc x.value) x) table ∙ ap (λ f. on_arm image f x) none)
              (one_search image shape x (ap (λ (i : Instance). image.body i.body) o.sees.who ∙ compiled.there) o.mode inside (frame_so p x local.deep (stood p o.sees)))

          -- out of the frame, with what travels
          outside : (d : Machine) → Comes image x d → d.pc ≡ suc k.site - 1 → d.who ≡ instance_at k.link.body (x.stack (x.fp + 2)) → d.fp ≡ number_at (x.stack (x.fp + 1)) → d.mode ≡ searching → d.top ≡ x.top → d.high ≡ x.high → d.peak ≡ x.peak → d.clock ≡ suc x.clock →
              (given : List ℕ) (words : List ℕ) (now : State) → Excepts image k.last given words d → k.inv d.stack now.outer → d.world ≡ now.world → now.meters.spent ≡ here.meters.spent → now.meters.most ≡ here.meters.most → now.meters.steps ≡ suc here.meters.steps →
              d.used ≤ now.meters.store → Called image k c (ended (raised given words) t now)
          outside d g pc who fp mode tp high peak clock given words now ex inv world spent most steps used = record {
            machine = d;
            comes = comes_then image c made d a (comes_then image made x d o.comes g);
            pc = pc ∙ (let z : suc k.site - 1 ≡ k.site = omega arith in z);
            who = who ∙ ap (instance_at k.link.body) at_two;
            frame = fp ∙ number_so (x.stack (x.fp + 1)) k.caller at_one;
            mode = mode;
            brings = ex;
            below = inv;
            world = world;
            pay = omega (arith, o.sees.pay, clock, spent);
            within = (omega (arith, o.sees.within.0, peak, most), used, omega (arith, o.sees.within.2, clock, steps), omega (arith, o.sees.within.3, high, most), omega (arith, o.sees.within.4, tp, high));
            room = omega (arith, o.sees.room, peak, local.high);
            top = λ e. absurd (not_both e);
          }
            where
              not_both : searching ≡ running → ⊥
              not_both e = absurd (cc)

          passes : passing image x ≡ record (callers image x) { who = instance_at k.link.body (x.stack (x.fp + 2)); pc = suc k.site - 1; mode = searching; clock = suc x.clock }
          passes =
              so_is (is_address (x.stack (x.fp + 1))) (to_call image (image.entry (x.stack x.fp)) (callers image x)) x (address_so (x.stack (x.fp + 1)) k.caller at_one)
              ∙ call_is p Good (laws_on k local 0) compiled.once (image.entry (x.stack x.fp)) k.link.body (suc k.site) (callers image x) (ap image.entry at_zero ∙ local.leads)

          as_failure : bytes_eq name failure_name ≡ true → Called image k c (ended (raised name objects) t (counted 1 here))
          unfolding outward
          as_failure e =
              let d : Machine = record (callers image x) { who = instance_at k.link.body (x.stack (x.fp + 2)); pc = suc k.site - 1; mode = searching; clock = suc x.clock } in
              let g : Comes image x d = comes_as image x (outward image (x.value == image.failure) (image.name_of x.value) x) d (ap (λ b. outward image b (image.name_of x.value) x) (at_failure name x o.excepts.named ∙ e) ∙ passes) searched in
              let ex = excepts_less image k.last (beyond p) name objects x (omega arith) o.excepts in
              outside d g refl refl refl refl refl refl refl refl name objects (counted 1 here) (record { named = ex.named; words = record { at = ex.words.at } }) o.sees.below o.sees.world refl refl (omega arith) o.sees.within.1

          with_text : (w : Option World) → with_string (unhandled_text name) here.world ≡ w → bytes_eq name failure_name ≡ false → Called image k c (fails_as here.world.next w t here)
          unfolding outward failing fails_as
          with_text None e b = tt
          with_text (Some w) e b =
              let y : Machine = record (callers image x) { value = image.failure; words = address_of x.fp; stack = put_at x.fp x.world.next x.stack; world = w; used = max x.used w.next } in
              let d : Machine = record y { who = instance_at k.link.body (x.stack (x.fp + 2)); pc = suc k.site - 1; mode = searching; clock = suc x.clock } in
              let go : Machine = to_call image (image.entry (x.stack x.fp)) y in
              let is : outward image (x.value == image.failure) (image.name_of x.value) x ≡ d =
              ap (λ b. outward image b (image.name_of x.value) x) (at_failure name x o.excepts.named ∙ b) ∙ ap (λ n. outward image false n x) o.excepts.named
              ∙ ap (λ w. failing image w x) (ap (with_string (unhandled_text name)) o.sees.world ∙ e)
              ∙ room_is (image.has_store w.next) store_full (where_so (is_address (x.stack (x.fp + 1))) go x) x (compiled.honest.store w.next)
              ∙ so_is (is_address (x.stack (x.fp + 1))) go x (address_so (x.stack (x.fp + 1)) k.caller at_one)
              ∙ call_is p Good (laws_on k local 0) compiled.once (image.entry (x.stack x.fp)) k.link.body (suc k.site) y (ap image.entry at_zero ∙ local.leads) in
              outside d (comes_as image x (outward image (x.value == image.failure) (image.name_of x.value) x) d is searched) refl refl refl refl refl refl refl refl failure_name (here.world.next ∷ [])
              (counted 1 (stores w.next (with_world w here)))
              (record { named = compiled.honest.failure; words = record { at = text_at d } })
              (local.on x.stack d.stack here.outer (λ i h. put_other x.fp i x.world.next x.stack (λ z. omega (arith, z, h, o.sees.frame))) o.sees.below) refl refl refl (omega arith) (omega (arith, o.sees.within.1))
            where
              text_at : (d : Machine) → (i v : ℕ) → slice_get (here.world.next ∷ []) i ≡ Some v → (s : ℕ → ℕ) → ((n : ℕ) → k.last ≤ n → s n ≡ put_at x.fp x.world.next x.stack n) → word_below image x.peak s (address_of x.fp + 8 * i) ≡ Some v
              text_at d zero v h s same = (let z : address_of x.fp + 8 * 0 ≡ address_of x.fp = omega arith in ap (word_below image x.peak s) z)
                  ∙ stack_word image x.peak s x.fp v (omega (arith, local.deep, o.sees.frame)) (omega (arith, o.sees.room, o.sees.frame))
                  (same x.fp (omega (arith, o.sees.frame)) ∙ put_same x.fp x.fp x.world.next x.stack refl ∙ ap (λ (w : World). w.next) o.sees.world ∙ same_Some here.world.next v h)
              text_at d (suc i) v h s same = absurd (none_is_not v h)

          by_failure : (b : Bool) → b ≡ bytes_eq name failure_name → Called image k c (either b (with_state (counted 1) (ends (raised name objects))) (sees (λ st. fails_as st.world.next (with_string (unhandled_text name) st.world))) t here)
          unfolding either with_state ends sees
          by_failure true e = as_failure (sym e)
          by_failure false e = with_text (with_string (unhandled_text name) here.world) refl (sym e)

          unhandled : Called image k c (fails name objects t here)
          unfolding fails
          unhandled = by_failure (bytes_eq name failure_name) refl

        -- what the body ends with, where it isn't its end
        backs : (x : Machine) (given : Machine → Type 0) (into : Mode) (to : ℕ) (now : State) → Comes image c x → Backs image k.inv k.caller k.link k.last k.high x to into given now → Backs image k.inv k.caller k.link k.last k.high c to into given now
        backs x given into to now a o = record { machine = o.machine; comes = comes_then image c x o.machine a o.comes; pc = o.pc; who = o.who; frame = o.frame; mode = o.mode; brings = o.brings; below = o.below; world = o.world; pay = o.pay; within = o.within; room = o.room; top = o.top }

        ends_as : (t : ℕ) (e : Ending) (now : State) → Comes image c made → Lands p outer made.top made.stack made e now → Called image k c (routine_ending e t now)
        unfolding routine_ending gives ends
        ends_as t broken now a o = tt
        ends_as t continued now a o = tt
        ends_as t (returned given) now a o = backs made (Brings image k.last given) running (suc k.site) now a o
        ends_as t (signalled name given) now a o = backs made (Excepts image k.last name given) searching k.site now a o
        ends_as t (raised name given) now a o = unhandled name given t now o a
        ends_as t (exited deep arm given) now a o = tt
        ends_as t (through e) now a o = (o.0, comes_then image c made o.0 a o.1, o.2)
        ends_as t wrong now a o = tt

        reaches_end : (t : ℕ) (now : State) → Comes image c made → Arrives p q.slots made.top made.stack made (length (on outer (begun q.args)).code) made.top now →
            Backs image k.inv k.caller k.link k.last k.high c (suc k.site) running (Brings image k.last []) (counted 1 now)
        unfolding ends
        reaches_end t now a o =
            let y = o.machine in
            let r = leave_at p Good (laws_on k local up) compiled.once outer (on outer (begun q.args)) q.slots [] 0 t (counted 1 now) y made.top made.stack 0 refl front o.pc o.mode
            (record {
              slots = o.sees.slots;
              below = o.sees.below;
              world = o.sees.world;
              who = o.sees.who;
              frame = o.sees.frame;
              room = o.sees.room;
              pay = omega (arith, o.sees.pay);
              within = (o.sees.within.0, o.sees.within.1, omega (arith, o.sees.within.2), o.sees.within.3, o.sees.within.4);
            }) (omega (arith, o.sees.within.2)) (omega (arith, o.sees.within.4, o.top, at.top))
            ((let z : k.last ≡ k.last + 0 = omega arith in ap y.stack z ∙ o.keeps.foot 0 (omega arith) ∙ ap made.stack (sym z)) ∙ foot0 ∙ at.back)
            (o.keeps.foot 1 (omega arith) ∙ foot1 ∙ ap address_of at.frame) (o.keeps.foot 2 (omega arith) ∙ foot2 ∙ at.link)
            (omega (arith, o.sees.room, compiled.slots)) (λ i v e. absurd (none_is_not v e)) in
            backs y (Brings image k.last []) running (suc k.site) (counted 1 now) (comes_then image c made y a o.comes) r

        outcome : (res : Result (Unit {0})) → Comes image c made → Outcome p outer (length (on outer (begun q.args)).code) made.top made.stack made res →
            Called image k c (continue_either_way (λ done. with_state (counted 1) (gives [])) routine_ending res)
        unfolding continue_either_way with_state gives
        outcome (normal x t now) a o = reaches_end t now a o
        outcome (ended e t now) a o = ends_as t e now a o
        outcome (out_of_turns now) a o = record { machine = o.machine; comes = comes_then image c made o.machine a o.comes; there = o.there; output = o.output; mode = o.mode; pay = o.pay; within = o.within }

        module _ (body_of : Computation (Unit {0})) (does : DoesAt p Good (laws_on k local up) compiled.once outer (begun q.args) body_of on) where
          -- the first step of the routine
          enters_frame : q.args ≡ length ws → Comes image c made
          unfolding on_step framed_with
          enters_frame n =
              let go : Machine = framed_with image top (words_below image c.top c.stack c.value q.args) c in
              let is : frame_made image q.args top c ≡ made =
              room_is (image.has_stack top) stack_full (where_so (nat_le image.bottom c.top) go c) c (compiled.honest.stack top)
              ∙ so_is (nat_le image.bottom c.top) go c (le_so image.bottom c.top (omega (arith, local.deep, at.top)))
              ∙ ap (λ o. framed_with image top o c) (ap (words_below image c.top c.stack c.value) n ∙ at.words) in
              comes_as image c (on_step image shape (flat.Enter q.args) c) made is
              (first_step image shape (flat.Enter q.args) c (ap (λ (i : Instance). image.body i.body) at.who ∙ compiled.there) at.mode (ap (slice_get shape.code) at.pc ∙ at_push [] shape.code (flat.Enter q.args)
              (front_more _ _ _ (fronts outer (begun q.args)) (front_back (on outer (begun q.args)).code shape.code (flat.Leave q.slots 0) front))) refl)

          runs_by : (b : Bool) (t : ℕ) → b ≡ is_same q.args (length ws) →
              Called image k c (need b (spends_a_turn (with_state (entering up ws) (either_way body_of (λ done. with_state (counted 1) (gives [])) routine_ending))) t st)
          unfolding need spends_a_turn with_state either_way ends
          runs_by false t e = tt
          runs_by true zero e = record { machine = c; comes = comes_same image c; there = (shape, ap (λ (i : Instance). image.body i.body) at.who ∙ compiled.there); output = ap (λ (x : World). x.output) at.world; mode = at.mode; pay = omega (arith, at.pay); within = (at.within.0, at.within.1, omega (arith, at.within.2), at.within.3, at.within.4) }
          runs_by true (suc t) e =
              let n : q.args ≡ length ws = eqb-true q.args (length ws) (sym e) in
              outcome (body_of t (entering up ws (paid st))) (enters_frame n)
              (does t (entering up ws (paid st)) made (front_back (on outer (begun q.args)).code shape.code (flat.Leave q.slots 0) front) (begins t n))

    -- a routine whose statements do what they mean is an entry that does
    pub enter_ok : (entries : ℕ → WordEntry) → ((k : Context) (local : Local image k) (live : ℕ) (body : Body) → BodyOk image k body →
        DoesAt (place_on k) Good (laws_on k local live) compiled.once outer (begun q.args) (exec_all q.linked entries body live q.body) on) → FrameOk image who (enters entries q)
    enter_ok entries does = record {
      runs = λ k local live room body ok ws t st c at.
          runs_by entries k local c live room body ok ws st at (exec_all q.linked entries body (inside live q) q.body) (does k local (inside live q) body ok) (is_same q.args (length ws)) t refl;
    }
