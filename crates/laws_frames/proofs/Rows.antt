-- Words side by side, and statements that leave.
use Rattle.std.proofs.Common.{◌≡◌, ◌∙◌, ℕ, zero, suc, ◌+◌, ◌-◌, ◌*◌, ◌<◌, ◌≤◌, true, List, [], ◌∷◌, length, Option, Some, None, slice_get, refl, ap, sym, subst, arith}
use Rattle.std.specs.Prelude.{max}
use Rattle.std.proofs.lemmas.Option.{same_Some, slice_get_within}
use Rattle.std.proofs.lemmas.List.{length-append}
use Rattle.clu_frames.specs.Plain.{Step}
use Rattle.clu_frames.specs.Plain as flat
use Rattle.clu_frames.specs.declared.surroundings.Turns.{Turns}
use Rattle.clu_frames.specs.Flattening.{Made, Round, break_onto, continue_onto, cut_onto, pushed, sets_onto}
use Rattle.clu_wir.specs.Plain.{Expr}
use Rattle.clu_word_meaning.specs.Words.{Computation, State, broken, continued, counted, counted_twice, ends, raised, returned, signalled, values, with_state, with_steps}
use Rattle.clu_word_meaning.specs.Words.{Entry as WordEntry}
use Rattle.clu_flat_meaning.specs.Image.{Entry, at_step}
use Rattle.clu_flat_meaning.specs.Machine.{Comes, Machine, address_of, arm_at, callers, excepted, goes_to, is_address, leaving, next, number_at, on_step, place_of, put_in, returns, running, searching, to_call, with_results, word_below}
use Rattle.clu_flat_meaning.proofs.Runs.{Front, Once, address_so, at_push, comes_as, comes_then, front_back, front_more, front_push, front_same, length_push, number_so, put_other, put_same, so_is}
use Rattle.laws_frames.specs.Calls.{Brings, Carries, Excepts}
use Rattle.laws_frames.specs.Promises.{instance_at}
use Rattle.laws_frames.proofs.Relation.{ArrivesBy, AtEnd, AtNext, CutLow, CutTop, Fit, Home, IsTop, Keeps, Laws, Outcome, Owes, Place, Sees, beyond, cut_top, regions}
use Rattle.laws_frames.proofs.Sim.{keeps_same, keeps_then}
use Rattle.laws_frames.proofs.Simple.{keeps_work, owes, sees_counted, sees_work, stack_word, stood, valued_runs}
use Rattle.laws_frames.proofs.Control.{DoesNext, step_there}

pub front_length : {A : Type 0} (a b : List A) → Front a b → length a ≤ length b
front_length a b f = omega (arith, length-append a f.more, ap length f.parts)

module _ (p : Place) where
  -- places of a region
  pub record Homes (region : Option ℕ) (low high : ℕ) : Type 0 where
    pub home : (i : ℕ) → low ≤ i → i < high → Home p region i

  -- slots that lie side by side already need no room for work
  abbrev pub Wide : Option ℕ → ℕ → Type 0
  Wide None n = n ≤ p.shape.frame
  Wide (Some first) n = Unit {0}

  abbrev pub AllGood : (Expr → Type 0) → List Expr → Type 0
  AllGood Good [] = Unit {0}
  AllGood Good (e ∷ es) = Good e × AllGood Good es

  module _ (Good : Expr → Type 0) (laws : Laws p Good) (once : Once p.shape.code) where
    abbrev code : List Step
    code = p.shape.code

    pub sets_front : (es : List Expr) (to : ℕ) (m : Made) → Front m.code (sets_onto to es m).code
    sets_front [] to m = front_same m.code
    sets_front (e ∷ es) to m = front_more _ _ _ (front_push m.code (flat.Set to e)) (sets_front es (to + 1) (pushed (flat.Set to e) m))

    -- the words of expressions lie side by side
    pub record Row (round : Round) (to top bound : ℕ) (s : ℕ → ℕ) (at : ℕ) (st : State) (c : Machine) (ws : List ℕ) (d : Machine) : Type 0 where
      pub pc : d.pc ≡ at
      pub mode : d.mode ≡ running
      pub tops : d.top ≡ top
      pub sees : Owes p st d
      pub keeps : Keeps p round.work bound s d.stack
      pub grown : c.high ≤ d.high
      pub lower : (i : ℕ) → round.work ≤ i → i < to → d.stack (p.fp + 4 + i) ≡ c.stack (p.fp + 4 + i)
      pub row : (i w : ℕ) → slice_get ws i ≡ Some w → d.stack (p.fp + 4 + to + i) ≡ w

    row_of : (to w : ℕ) (c d : Machine) (x : Machine) (ws : List ℕ) → d.stack (p.fp + 4 + to) ≡ w → ((i v : ℕ) → slice_get ws i ≡ Some v → d.stack (p.fp + 4 + (to + 1) + i) ≡ v) →
        (i v : ℕ) → slice_get (w ∷ ws) i ≡ Some v → d.stack (p.fp + 4 + to + i) ≡ v
    row_of to w c d x ws h k zero v e = (let z : p.fp + 4 + to + 0 ≡ p.fp + 4 + to = omega arith in ap d.stack z) ∙ h ∙ same_Some w v e
    row_of to w c d x ws h k (suc i) v e = (let z : p.fp + 4 + to + suc i ≡ p.fp + 4 + (to + 1) + i = omega arith in ap d.stack z) ∙ k i v e

    pub values_run : (entries : ℕ → WordEntry) (round : Round) (end bound : ℕ) (s : ℕ → ℕ) (es : List Expr) (to high : ℕ) (m : Made) (f : List ℕ → Computation (Unit {0})) (turns : ℕ) (st : State) (c : Machine) →
        Fit p round → AllGood Good es → round.work ≤ to → to + length es ≤ p.shape.frame → Homes round.region (length m.code) high → length (sets_onto to es m).code ≤ high →
        Front (sets_onto to es m).code code → c.pc ≡ length m.code → c.mode ≡ running → Owes p st c → Keeps p round.work bound s c.stack →
        ((ws : List ℕ) (d : Machine) (x : ℕ) → length ws ≡ length es → Row round to c.top bound s (length (sets_onto to es m).code) (with_steps x st) c ws d → Outcome p round end bound s d (f ws turns (with_steps x st))) →
        Outcome p round end bound s c (values p.linked entries es f turns st)
    unfolding values on_step
    values_run entries round end bound s [] to high m f turns st c fit good low wide homes tall front pc mode see keep k =
        k [] c st.meters.steps refl (record { pc = pc; mode = mode; tops = refl; sees = see; keeps = keep; grown = omega arith; lower = λ i g h. refl; row = λ i w e. absurd (none_there i w e) })
      where
        none_there : (i w : ℕ) → slice_get [] i ≡ Some w → ⊥
        none_there i w e = absurd (cc)
    values_run entries round end bound s (e ∷ es) to high m f turns st c fit good low wide homes tall front pc mode see keep k =
        let m1 : Made = pushed (flat.Set to e) m in
        let f1 : Front m1.code code = front_more _ _ _ (sets_front es (to + 1) m1) front in
        let long : length m1.code ≤ length (sets_onto (to + 1) es m1).code = front_length _ _ (sets_front es (to + 1) m1) in
        let l1 : length m1.code ≡ suc (length m.code) = length_push m.code (flat.Set to e) in
        valued_runs p Good laws once round end bound s c entries e good.0 (λ w. values p.linked entries es (λ ws. f (w ∷ ws))) (λ w c. next (put_in to w c)) turns st see keep
        (subst (Home p round.region) (sym pc) (homes.home (length m.code) (omega arith) (omega (arith, tall, long, l1))))
        (step_there p Good laws once (length m.code) (flat.Set to e) c pc (stood p see) mode (at_push m.code code (flat.Set to e) f1))
        (λ w.
        let b : Machine = next (put_in to w c) in
        let sb : Sees p (counted 1 st) b = sees_work p (counted 1 st) c to w laws.local (omega (arith, low, fit.work)) (sees_counted p 1 st c see) (omega (arith, see.within.2)) in
        let kb : Keeps p round.work bound s b.stack = keeps_then p round.work bound round.work bound s c.stack b.stack (omega arith) (omega arith) keep (keeps_work p round.work bound c to w low (omega (arith, wide)) see.frame) in
        values_run entries round end bound s es (to + 1) high m1 (λ ws. f (w ∷ ws)) turns (counted 1 st) b fit good.1 (omega (arith, low)) (omega (arith, wide))
        (record { home = λ i g h. homes.home i (omega (arith, g, l1)) h }) tall front (ap suc pc ∙ sym l1) mode (owes p (counted 1 st) b sb) kb
        (λ ws d x n r. k (w ∷ ws) d x (ap suc n) (record {
          pc = r.pc;
          mode = r.mode;
          tops = r.tops;
          sees = r.sees;
          keeps = r.keeps;
          grown = r.grown;
          lower = λ i g h. r.lower i g (omega (arith, h)) ∙ put_other (c.fp + 4 + to) (p.fp + 4 + i) w c.stack (λ x. omega (arith, x, h, see.frame));
          row = row_of to w c d b ws (r.lower to low (omega arith) ∙ put_same (c.fp + 4 + to) (p.fp + 4 + to) w c.stack (omega (arith, see.frame))) r.row;
        })))

    -- Leaving loops

    -- the stack is cut, where there is something to cut
    pub cut_step : (mark : ℕ) (m : Made) (st : State) (c : Machine) → Owes p st c → c.mode ≡ running → c.pc ≡ length m.code → IsTop p mark c.top c.stack → Front (pushed (flat.Cut mark) m).code code →
        Comes p.image c (next (record c { top = number_at (c.stack (p.fp + mark)); high = max c.high (number_at (c.stack (p.fp + mark))) }))
    unfolding on_step
    cut_step mark m st c see mode pc t f =
        let same : c.stack (c.fp + mark) ≡ c.stack (p.fp + mark) = ap (λ n. c.stack (n + mark)) see.frame in
        let is : is_address (c.stack (c.fp + mark)) ≡ true = address_so (c.stack (c.fp + mark)) (number_at (c.stack (p.fp + mark))) (same ∙ t.address) in
        comes_as p.image c (on_step p.image p.shape (flat.Cut mark) c) _
        (so_is (is_address (c.stack (c.fp + mark))) (next (record c { top = number_at (c.stack (c.fp + mark)); high = max c.high (number_at (c.stack (c.fp + mark))) })) c is
        ∙ ap (λ x. next (record c { top = number_at x; high = max c.high (number_at x) })) same)
        (step_there p Good laws once (length m.code) (flat.Cut mark) c pc (stood p see) mode (at_push m.code code (flat.Cut mark) f))

    pub break_runs : (t : Turns) (round : Round) (m : Made) → round.turns ≡ Some t → Fit p round → DoesNext p Good laws once round m (with_state counted_twice (ends broken)) (λ round m. break_onto (Some t) m)
    unfolding ends on_step with_state
    break_runs t round m e fit turns st c front s = subst (λ o. AtEnd p o round.work c.top c.stack c (counted_twice st)) (sym e) (by_cut t.cut (subst (λ o. CutLow p o c.stack c.top) e s.cut) front)
      where
        by_cut : (o : Option ℕ) → CutTop p o c.stack c.top → Front (pushed (flat.Jump t.end) (cut_onto o m)).code code → ArrivesBy p suc round.work c.top c.stack c (place_of code t.end) (cut_top p o c.stack c.top) (counted_twice st)
        by_cut None l f = record {
          machine = goes_to (place_of code t.end) c;
          comes = step_there p Good laws once (length m.code) (flat.Jump t.end) c s.pc (stood p s.sees) s.mode (at_push m.code code (flat.Jump t.end) f);
          pc = refl;
          top = refl;
          mode = s.mode;
          sees = record {
            slots = s.sees.slots;
            below = s.sees.below;
            world = s.sees.world;
            who = s.sees.who;
            frame = s.sees.frame;
            room = s.sees.room;
            pay = omega (arith, s.sees.pay);
            within = (s.sees.within.0, s.sees.within.1, omega (arith, s.sees.within.2), s.sees.within.3, s.sees.within.4);
          };
          keeps = keeps_same p round.work c.top c.stack;
        }
        by_cut (Some mark) l f =
            let m1 : Made = pushed (flat.Cut mark) m in
            let top : ℕ = number_at (c.stack (p.fp + mark)) in
            let b : Machine = next (record c { top = top; high = max c.high top }) in
            let k = cut_step mark m st c s.sees s.mode s.pc l (front_back m1.code code (flat.Jump t.end) f) in
            let g = step_there p Good laws once (length m1.code) (flat.Jump t.end) b (ap suc s.pc ∙ sym (length_push m.code (flat.Cut mark)))
            (record { who = s.sees.who; frame = s.sees.frame; room = s.sees.room }) s.mode (at_push m1.code code (flat.Jump t.end) f) in
            record {
              machine = goes_to (place_of code t.end) b;
              comes = comes_then p.image c b (goes_to (place_of code t.end) b) k g;
              pc = refl;
              top = refl;
              mode = s.mode;
              sees = record {
                slots = s.sees.slots;
                below = s.sees.below;
                world = s.sees.world;
                who = s.sees.who;
                frame = s.sees.frame;
                room = s.sees.room;
                pay = omega (arith, s.sees.pay);
                within = (s.sees.within.0, s.sees.within.1, omega (arith, s.sees.within.2), omega (arith, s.sees.within.3, s.sees.within.4, l.low), omega arith);
              };
              keeps = keeps_same p round.work c.top c.stack;
            }

    pub continue_runs : (t : Turns) (round : Round) (m : Made) → round.turns ≡ Some t → Fit p round → DoesNext p Good laws once round m (with_state (counted 1) (ends continued)) (λ round m. continue_onto (Some t) m)
    unfolding ends on_step with_state
    continue_runs t round m e fit turns st c front s = subst (λ o. AtNext p o round.work c.top c.stack c (counted 1 st)) (sym e) (record {
      machine = goes_to (place_of code t.next) c;
      comes = step_there p Good laws once (length m.code) (flat.Jump t.next) c s.pc (stood p s.sees) s.mode (at_push m.code code (flat.Jump t.next) front);
      pc = refl;
      top = refl;
      mode = s.mode;
      sees = record { slots = s.sees.slots; below = s.sees.below; world = s.sees.world; who = s.sees.who; frame = s.sees.frame; room = s.sees.room; pay = omega (arith, s.sees.pay); within = (s.sees.within.0, s.sees.within.1, omega (arith, s.sees.within.2), s.sees.within.3, s.sees.within.4) };
      keeps = keeps_same p round.work c.top c.stack;
    })

    -- Leaving the routine, and raising, with words that lie side by side.

    -- words of the stack that lie above a number travel
    pub row_carries : (from n : ℕ) (ws : List ℕ) (c : Machine) → c.words ≡ address_of n → from ≤ n → p.image.bottom ≤ n → n + length ws ≤ c.peak → ((i w : ℕ) → slice_get ws i ≡ Some w → c.stack (n + i) ≡ w) →
        Carries p.image from ws c
    row_carries from n ws c e low deep high row = record {
      at = λ i w is s same.
          let inside : i < length ws = slice_get_within ws i w is in
          ap (λ a. word_below p.image c.peak s (a + 8 * i)) e ∙ ap (word_below p.image c.peak s) (let z : address_of n + 8 * i ≡ address_of (n + i) = omega arith in z)
          ∙ stack_word p.image c.peak s (n + i) w (omega (arith, deep)) (omega (arith, high, inside)) (same (n + i) (omega (arith, low)) ∙ row i w is);
    }

    -- the frame is left with what travels
    pub left : (on : Option Entry → Machine → Machine) (c d : Machine) (st : State) → Owes p st c → c.stack (p.fp + 1) ≡ address_of p.caller →
        on (p.image.entry (c.stack c.fp)) (record (callers p.image c) { top = c.fp; high = max c.high c.fp }) ≡ d → leaving p.image on c ≡ d
    left on c d st see caller e =
        so_is (is_address (c.stack (c.fp + 1))) (on (p.image.entry (c.stack c.fp)) (record (callers p.image c) { top = c.fp; high = max c.high c.fp })) c
        (address_so (c.stack (c.fp + 1)) p.caller (ap (λ n. c.stack (n + 1)) see.frame ∙ caller)) ∙ e

    pub returns_is : (o : Option Entry) (body step : ℕ) (c : Machine) → o ≡ Some (at_step body step) → returns p.image o c ≡ record c { who = record { body = body; table = c.who.table }; pc = step; clock = suc c.clock }
    unfolding returns
    returns_is o body step c e = rw e refl

    pub call_is : (o : Option Entry) (body step : ℕ) (c : Machine) → o ≡ Some (at_step body step) →
        to_call p.image o c ≡ record c { who = record { body = body; table = c.who.table }; pc = step - 1; mode = searching; clock = suc c.clock }
    unfolding to_call
    call_is o body step c e = rw e refl

    pub site_leads : (c : Machine) (st : State) → Owes p st c → c.stack p.fp ≡ p.image.address p.link.body (suc p.site) → p.image.entry (c.stack c.fp) ≡ Some (at_step p.link.body (suc p.site))
    site_leads c st see site = ap p.image.entry (ap c.stack see.frame ∙ site) ∙ laws.leads

    results_brought : (slot : ℕ) (ws : List ℕ) (c : Machine) → c.fp ≡ p.fp → p.fp + 4 + slot + length ws ≤ c.peak → ((i w : ℕ) → slice_get ws i ≡ Some w → c.stack (p.fp + 4 + slot + i) ≡ w) →
        (d : Machine) → d.stack ≡ c.stack → d.peak ≡ c.peak → d.words ≡ (with_results p.image slot (length ws) c).words → d.value ≡ (with_results p.image slot (length ws) c).value → Brings p.image p.fp ws d
    unfolding with_results
    results_brought slot [] c frame high row d stack peak words value = tt
    results_brought slot (w ∷ []) c frame high row d stack peak words value =
        value ∙ ap (λ n. c.stack (n + 4 + slot)) frame ∙ (let z : p.fp + 4 + slot ≡ p.fp + 4 + slot + 0 = omega arith in ap c.stack z) ∙ row 0 w refl
    results_brought slot (w ∷ v ∷ ws) c frame high row d stack peak words value =
        row_carries p.fp (p.fp + 4 + slot) (w ∷ v ∷ ws) d (words ∙ ap (λ n. address_of (n + 4 + slot)) frame) (omega arith) (omega (arith, laws.deep)) (omega (arith, high, peak))
        (λ i x h. ap (λ (f : ℕ → ℕ). f (p.fp + 4 + slot + i)) stack ∙ row i x h)

    with_results_keeps : (slot count : ℕ) (c : Machine) → (with_results p.image slot count c ≡ record c { value = (with_results p.image slot count c).value; words = (with_results p.image slot count c).words })
    unfolding with_results
    with_results_keeps slot zero c = refl
    with_results_keeps slot (suc zero) c = refl
    with_results_keeps slot (suc (suc n)) c = refl

    pub leave_at : (round : Round) (m0 : Made) (slot : ℕ) (ws : List ℕ) (count turns : ℕ) (st : State) (c : Machine) (top : ℕ) (s : ℕ → ℕ) (end : ℕ) → count ≡ length ws → Front (pushed (flat.Leave slot count) m0).code code →
        c.pc ≡ length m0.code → c.mode ≡ running → Owes p st c → suc c.clock ≤ st.meters.steps → p.fp ≤ c.high → c.stack p.fp ≡ p.image.address p.link.body (suc p.site) → c.stack (p.fp + 1) ≡ address_of p.caller → c.stack (p.fp + 2) ≡ p.link.table →
        p.fp + 4 + slot + length ws ≤ c.peak → ((i w : ℕ) → slice_get ws i ≡ Some w → c.stack (p.fp + 4 + slot + i) ≡ w) → Outcome p round end top s c (ends (returned ws) turns st)
    unfolding ends on_step
    leave_at round m0 slot ws count turns st c top s end len front pc mode see more base site caller link high row =
        let r : Machine = with_results p.image slot (length ws) c in
        let b : Machine = record c { value = r.value; words = r.words } in
        let d : Machine = record (callers p.image b) { top = c.fp; high = max c.high c.fp; who = record { body = p.link.body; table = c.stack (c.fp + 2) }; pc = suc p.site; clock = suc c.clock } in
        let e : leaving p.image (returns p.image) (with_results p.image slot count c) ≡ d =
        ap (λ n. leaving p.image (returns p.image) (with_results p.image slot n c)) len
        ∙ ap (leaving p.image (returns p.image)) (with_results_keeps slot (length ws) c)
        ∙ left (returns p.image) b d st (record { slots = see.slots; below = see.below; world = see.world; who = see.who; frame = see.frame; room = see.room; pay = see.pay; within = see.within }) caller
        (returns_is (p.image.entry (c.stack c.fp)) p.link.body (suc p.site) (record (callers p.image b) { top = c.fp; high = max c.high c.fp }) (site_leads c st see site)) in
        record {
          machine = d;
          comes = comes_as p.image c (on_step p.image p.shape (flat.Leave slot count) c) d e (step_there p Good laws once (length m0.code) (flat.Leave slot count) c pc (stood p see) mode (at_push m0.code code (flat.Leave slot count) front));
          pc = refl;
          who = ap (instance_at p.link.body) (ap (λ n. c.stack (n + 2)) see.frame ∙ link);
          frame = number_so (c.stack (c.fp + 1)) p.caller (ap (λ n. c.stack (n + 1)) see.frame ∙ caller);
          mode = mode;
          brings = results_brought slot ws c see.frame high row d refl refl refl refl;
          below = see.below;
          world = see.world;
          pay = omega (arith, see.pay);
          within = (see.within.0, see.within.1, more, omega (arith, see.within.3, see.frame, base), omega arith);
          room = omega (arith, see.room, laws.high);
          top = λ m. see.frame;
        }

    excepts_at : (from slot : ℕ) (name ws : List ℕ) (c : Machine) → c.fp ≡ p.fp → from ≤ p.fp + 4 + slot → p.fp + 4 + slot + 1 + length ws ≤ c.peak → p.image.name_of (c.stack (p.fp + 4 + slot)) ≡ Some name →
        ((i w : ℕ) → slice_get ws i ≡ Some w → c.stack (p.fp + 4 + slot + 1 + i) ≡ w) → (d : Machine) → d.stack ≡ c.stack → d.peak ≡ c.peak → d.value ≡ c.stack (c.fp + 4 + slot) → d.words ≡ address_of (c.fp + 4 + (slot + 1)) →
        Excepts p.image from name ws d
    excepts_at from slot name ws c frame low high named row d stack peak value words = record {
      named = ap p.image.name_of (value ∙ ap (λ n. c.stack (n + 4 + slot)) frame) ∙ named;
      words = row_carries from (p.fp + 4 + slot + 1) ws d (words ∙ (let z : address_of (c.fp + 4 + (slot + 1)) ≡ address_of (p.fp + 4 + slot + 1) = omega (arith, frame) in z)) (omega (arith, low)) (omega (arith, laws.deep)) (omega (arith, high, peak))
          (λ i x h. ap (λ (f : ℕ → ℕ). f (p.fp + 4 + slot + 1 + i)) stack ∙ row i x h);
    }

    pub raise_at : (round : Round) (m0 : Made) (slot : ℕ) (name ws : List ℕ) (turns : ℕ) (st : State) (c : Machine) (top : ℕ) (s : ℕ → ℕ) (end : ℕ) → Front (pushed (flat.Raise slot) m0).code code →
        c.pc ≡ length m0.code → c.mode ≡ running → Owes p st c → suc c.clock ≤ st.meters.steps → Keeps p round.work top s c.stack → Home p round.region (length m0.code) → p.base ≤ slot → p.fp + 4 + slot + 1 + length ws ≤ c.peak →
        p.image.name_of (c.stack (p.fp + 4 + slot)) ≡ Some name → ((i w : ℕ) → slice_get ws i ≡ Some w → c.stack (p.fp + 4 + slot + 1 + i) ≡ w) → Outcome p round end top s c (ends (raised name ws) turns st)
    unfolding ends on_step
    raise_at round m0 slot name ws turns st c top s end front pc mode see more keep home low high named row =
        let d : Machine = record (excepted p.image slot c) { mode = searching; clock = suc c.clock } in
        record {
          machine = d;
          comes = step_there p Good laws once (length m0.code) (flat.Raise slot) c pc (stood p see) mode (at_push m0.code code (flat.Raise slot) front);
          mode = refl;
          home = ap (λ x. arm_at (regions p) x d.value) pc ∙ home.finds d.value;
          excepts = excepts_at (beyond p) slot name ws c see.frame (omega (arith, low)) high named row d refl refl refl refl;
          sees = record { slots = see.slots; below = see.below; world = see.world; who = see.who; frame = see.frame; room = see.room; pay = omega (arith, see.pay); within = (see.within.0, see.within.1, more, see.within.3, see.within.4) };
          keeps = keep;
        }

    pub signal_at : (round : Round) (m0 : Made) (slot : ℕ) (name ws : List ℕ) (turns : ℕ) (st : State) (c : Machine) (top : ℕ) (s : ℕ → ℕ) (end : ℕ) → Front (pushed (flat.Signal slot) m0).code code →
        c.pc ≡ length m0.code → c.mode ≡ running → Owes p st c → suc c.clock ≤ st.meters.steps → p.fp ≤ c.high → c.stack p.fp ≡ p.image.address p.link.body (suc p.site) → c.stack (p.fp + 1) ≡ address_of p.caller → c.stack (p.fp + 2) ≡ p.link.table →
        p.fp + 4 + slot + 1 + length ws ≤ c.peak → p.image.name_of (c.stack (p.fp + 4 + slot)) ≡ Some name → ((i w : ℕ) → slice_get ws i ≡ Some w → c.stack (p.fp + 4 + slot + 1 + i) ≡ w) → Outcome p round end top s c (ends (signalled name ws) turns st)
    unfolding ends on_step
    signal_at round m0 slot name ws turns st c top s end front pc mode see more base site caller link high named row =
        let b : Machine = excepted p.image slot c in
        let d : Machine = record (callers p.image b) { top = c.fp; high = max c.high c.fp; who = record { body = p.link.body; table = c.stack (c.fp + 2) }; pc = suc p.site - 1; mode = searching; clock = suc c.clock } in
        let e : leaving p.image (to_call p.image) b ≡ d =
        left (to_call p.image) b d st (record { slots = see.slots; below = see.below; world = see.world; who = see.who; frame = see.frame; room = see.room; pay = see.pay; within = see.within }) caller
        (call_is (p.image.entry (c.stack c.fp)) p.link.body (suc p.site) (record (callers p.image b) { top = c.fp; high = max c.high c.fp }) (site_leads c st see site)) in
        record {
          machine = d;
          comes = comes_as p.image c (on_step p.image p.shape (flat.Signal slot) c) d e (step_there p Good laws once (length m0.code) (flat.Signal slot) c pc (stood p see) mode (at_push m0.code code (flat.Signal slot) front));
          pc = (let z : suc p.site - 1 ≡ p.site = omega arith in z);
          who = ap (instance_at p.link.body) (ap (λ n. c.stack (n + 2)) see.frame ∙ link);
          frame = number_so (c.stack (c.fp + 1)) p.caller (ap (λ n. c.stack (n + 1)) see.frame ∙ caller);
          mode = refl;
          brings = excepts_at p.fp slot name ws c see.frame (omega arith) high named row d refl refl refl refl;
          below = see.below;
          world = see.world;
          pay = omega (arith, see.pay);
          within = (see.within.0, see.within.1, more, omega (arith, see.within.3, see.frame, base), omega arith);
          room = omega (arith, see.room, laws.high);
          top = λ m. see.frame;
        }
