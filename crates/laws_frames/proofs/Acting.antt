-- Statements that change the world: Put, primitives, and binding to type any; and words from slots to slots.
use Rattle.std.proofs.Common.{◌≡◌, ◌∙◌, ℕ, suc, ◌+◌, ◌%◌, ◌^◌, ◌<◌, ◌≤◌, Bool, true, false, List, [], ◌∷◌, length, Option, Some, None, slice_get, refl, ap, sym, subst, arith, pos}
use Rattle.std.specs.Prelude.{max}
use Rattle.std.proofs.lemmas.Bool.{eqb-true}
use Rattle.clu_base.proofs.Lists.{none_is_not}
use Rattle.clu_wir.specs.Numbers.{primitives}
use Rattle.clu_wir.specs.Plain.{Expr}
use Rattle.clu_wir.specs.Plain as plain
use Rattle.clu_wir.specs.Value.{meant}
use Rattle.clu_wir.specs.declared.primitive.Primitive.{Primitive}
use Rattle.clu_wir.specs.declared.primitive.Primitive.TheVariants as primitive
use Rattle.clu_frames.specs.Plain.{Step}
use Rattle.clu_frames.specs.Plain as flat
use Rattle.clu_frames.specs.Flattening.{Made, Round, moves_onto, primitive_onto, pushed, sets_onto}
use Rattle.clu_word_meaning.specs.World.{Done, World, arity, bound, done, put_word}
use Rattle.clu_word_meaning.specs.Words.{Computation, State, continue_either_way, counted, either_way, ends, gives, is_same, need, put_slot, puts, sees, stores, takes, valued, values, with_slots, with_state, with_steps, with_world, worlds}
use Rattle.clu_word_meaning.specs.Words.{Entry as WordEntry, does as does_word}
use Rattle.clu_flat_meaning.specs.Machine.{Comes, Machine, at_offset, by_word, does, does_primitive, next, on_step, put_all, put_at, put_in, puts_world, row_of, running, store_full, with_word}
use Rattle.clu_flat_meaning.proofs.Runs.{Front, Once, at_push, comes_as, comes_same, comes_then, front_back, front_more, front_push, front_same, length_push, put_other, room_is}
use Rattle.laws_frames.proofs.Relation.{Begins, Fit, Home, Keeps, Laws, Outcome, Owes, Place, Sees, SeesBy}
use Rattle.laws_frames.proofs.Sim.{keeps_same, keeps_then}
use Rattle.laws_frames.proofs.Simple.{keeps_put, owes, sees_counted, sees_put, stood, valued_from, valued_runs}
use Rattle.laws_frames.proofs.Control.{DoesNext, step_there}
use Rattle.laws_frames.proofs.Rows.{AllGood, Homes, values_run}
use Rattle.laws_frames.proofs.Iterating.{AllBelow}
use Rattle.laws_frames.proofs.Framing.{put_all_at, put_all_below}

put_all_above : (ws : List ℕ) (to : ℕ) (s : ℕ → ℕ) (i : ℕ) → to + length ws ≤ i → put_all to ws s i ≡ s i
unfolding put_all
put_all_above [] to s i l = refl
put_all_above (w ∷ ws) to s i l = put_all_above ws (suc to) (put_at to w s) i (omega (arith, l)) ∙ put_other to i w s (λ x. omega (arith, x, l))

row_is : (ws : List ℕ) (s : ℕ → ℕ) (from : ℕ) → ((i w : ℕ) → slice_get ws i ≡ Some w → s (from + i) ≡ w) → row_of s from (length ws) ≡ ws
unfolding row_of
row_is [] s from h = refl
row_is (w ∷ ws) s from h =
    ap (λ x. x ∷ row_of s (suc from) (length ws)) ((let z : from ≡ from + 0 = omega arith in ap s z) ∙ h 0 w refl)
    ∙ ap (λ x. w ∷ x) (row_is ws s (suc from) (λ i v e. (let z : suc from + i ≡ from + suc i = omega arith in ap s z) ∙ h (suc i) v e))

-- a primitive takes as many words as it does
done_arity : (p : Primitive) (ws : List ℕ) (w : World) (d : Done) → done (Some p) ws w ≡ Some d → length ws ≡ arity p
unfolding done
done_arity primitive.Allocate [] w d e = none_is_not d e
done_arity primitive.Allocate (n ∷ []) w d e = refl
done_arity primitive.Allocate (n ∷ m ∷ ws) w d e = none_is_not d e
done_arity primitive.Write [] w d e = none_is_not d e
done_arity primitive.Write (n ∷ []) w d e = none_is_not d e
done_arity primitive.Write (n ∷ m ∷ []) w d e = refl
done_arity primitive.Write (n ∷ m ∷ k ∷ ws) w d e = none_is_not d e
done_arity primitive.TakeByte [] w d e = refl
done_arity primitive.TakeByte (n ∷ ws) w d e = none_is_not d e
done_arity primitive.PeekByte [] w d e = refl
done_arity primitive.PeekByte (n ∷ ws) w d e = none_is_not d e
done_arity primitive.SaveByte [] w d e = none_is_not d e
done_arity primitive.SaveByte (n ∷ []) w d e = none_is_not d e
done_arity primitive.SaveByte (n ∷ m ∷ []) w d e = refl
done_arity primitive.SaveByte (n ∷ m ∷ k ∷ ws) w d e = none_is_not d e

done_none : (ws : List ℕ) (w : World) → done None ws w ≡ None
unfolding done
done_none ws w = refl

module _ (p : Place) (Good : Expr → Type 0) (laws : Laws p Good) (once : Once p.shape.code) (entries : ℕ → WordEntry) where
  abbrev code : List Step
  code = p.shape.code

  -- Put.

  put_done : (o : Option World) (round : Round) (m : Made) (step : Step) (t : ℕ) (st now : State) (c : Machine) → Begins p laws.live round m st c → now.slots ≡ st.slots → now.outer ≡ st.outer → now.meters.spent ≡ st.meters.spent → now.meters.most ≡ st.meters.most →
      now.meters.store ≡ st.meters.store → suc st.meters.steps ≤ now.meters.steps → Outcome p round (length (pushed step m).code) c.top c.stack (puts_world p.image o c) (worlds o t now)
  unfolding puts_world worlds
  put_done None round m step t st now c s slots outer spent most store steps = tt
  put_done (Some w) round m step t st now c s slots outer spent most store steps =
      let d : Machine = next (record c { world = w }) in
      record {
        machine = d;
        comes = comes_same p.image d;
        pc = ap suc s.pc ∙ sym (length_push m.code step);
        top = refl;
        mode = s.mode;
        sees = record {
          slots = λ n v h e. s.sees.slots n v h (ap (λ (f : ℕ → Option ℕ). f n) (sym slots) ∙ e);
          below = subst (λ o. p.inv c.stack o) (sym outer) s.sees.below;
          world = refl;
          who = s.sees.who;
          frame = s.sees.frame;
          room = s.sees.room;
          pay = omega (arith, s.sees.pay, spent);
          within = (omega (arith, s.sees.within.0, most), omega (arith, s.sees.within.1, store), omega (arith, s.sees.within.2, steps), omega (arith, s.sees.within.3, most), s.sees.within.4);
        };
        keeps = keeps_same p round.work c.top c.stack;
      }

  pub put_runs : (address e : Expr) (bytes : ℕ) (round : Round) (m : Made) → Good address → Good e → Home p round.region (length m.code) →
      DoesNext p Good laws once round m (valued p.linked entries e (λ w. valued p.linked entries address (λ a. sees (λ st. worlds (put_word st.world ((a + bytes) % 2 ^ 64) w))))) (λ round m. pushed (flat.Put address (pos bytes) e) m)
  unfolding on_step sees
  put_runs address e bytes round m good_address good home t st c front s =
      let step : Step = flat.Put address (pos bytes) e in
      let end = length (pushed step m).code in
      let here : Home p round.region c.pc = subst (Home p round.region) (sym s.pc) home in
      let g : ℕ → ℕ → Machine → Machine = λ w a c. puts_world p.image (put_word c.world (at_offset a (pos bytes)) w) c in
      valued_runs p Good laws once round end c.top c.stack c entries e good (λ w. valued p.linked entries address (λ a. sees (λ st. worlds (put_word st.world ((a + bytes) % 2 ^ 64) w)))) (λ w c. with_word p.image address (g w) c) t st s.sees
      (keeps_same p round.work c.top c.stack) here (step_there p Good laws once (length m.code) step c s.pc (stood p s.sees) s.mode (at_push m.code code step front))
      (λ w. valued_from p Good laws once round end c.top c.stack (with_word p.image address (g w) c) c entries address good_address (λ a. sees (λ st. worlds (put_word st.world ((a + bytes) % 2 ^ 64) w))) (g w) t (counted 1 st)
      (sees_counted p 1 st c s.sees) (keeps_same p round.work c.top c.stack) here (comes_same p.image (with_word p.image address (g w) c))
      (λ a. subst (λ x. Outcome p round end c.top c.stack (puts_world p.image (put_word x ((a + bytes) % 2 ^ 64) w) c) (worlds (put_word st.world ((a + bytes) % 2 ^ 64) w) t (counted 1 (counted 1 st)))) (sym s.sees.world)
      (put_done (put_word st.world ((a + bytes) % 2 ^ 64) w) round m step t st (counted 1 (counted 1 st)) c s refl refl refl refl refl (omega arith))))

  -- Words go from slots for work to slots.

  pub moves_front : (slots : List ℕ) (from : ℕ) (m : Made) → Front m.code (moves_onto slots from m).code
  moves_front [] from m = front_same m.code
  moves_front (n ∷ slots) from m = front_more _ _ _ (front_push m.code (flat.Set n (plain.slot from))) (moves_front slots (from + 1) (pushed (flat.Set n (plain.slot from)) m))

  -- where a turn may be owed before them and after them
  pub record Moved (slack : ℕ → ℕ) (count : ℕ) (m : Made) (work bound : ℕ) (s : ℕ → ℕ) (st : State) (c d : Machine) : Type 0 where
    pub comes : Comes p.image c d
    pub pc : d.pc ≡ length m.code
    pub mode : d.mode ≡ running
    pub top : d.top ≡ c.top
    pub sees : SeesBy p slack st d
    pub keeps : Keeps p work bound s d.stack
    pub clock : d.clock ≤ c.clock + count

  module _ (slack : ℕ → ℕ) (up : (st : State) (c : Machine) → Sees p st c → SeesBy p slack st c) (owe : (st : State) (c : Machine) → SeesBy p slack st c → Owes p st c) where
    pub moves_by : (slots ws : List ℕ) (from : ℕ) (m : Made) (work top : ℕ) (s : ℕ → ℕ) (st : State) (c : Machine) → AllBelow p.base slots → length slots ≡ length ws → p.base ≤ from →
        Front (moves_onto slots from m).code code → c.pc ≡ length m.code → c.mode ≡ running → SeesBy p slack st c → Keeps p work top s c.stack → ((i w : ℕ) → slice_get ws i ≡ Some w → c.stack (p.fp + 4 + from + i) ≡ w) →
        c.clock + length slots ≤ st.meters.steps → (d : Machine) × Moved slack (length slots) (moves_onto slots from m) work top s (with_slots (puts slots ws) st) c d
    unfolding puts on_step by_word meant
    moves_by [] ws from m work top s st c ok e low f pc mode see keep row more = (c, record { comes = comes_same p.image c; pc = pc; mode = mode; top = refl; sees = see; keeps = keep; clock = omega arith })
    moves_by (n ∷ slots) [] from m work top s st c ok e low f pc mode see keep row more = absurd (omega (arith, e))
    moves_by (n ∷ slots) (w ∷ ws) from m work top s st c ok e low f pc mode see keep row more =
        let step : Step = flat.Set n (plain.slot from) in
        let m1 : Made = pushed step m in
        let f1 : Front m1.code code = front_more _ _ _ (moves_front slots (from + 1) m1) f in
        let v : ℕ = c.stack (c.fp + 4 + from) in
        let b : Machine = next (put_in n v c) in
        let h : v ≡ w = ap (λ k. c.stack (k + 4 + from)) see.frame ∙ (let z : p.fp + 4 + from ≡ p.fp + 4 + from + 0 = omega arith in ap c.stack z) ∙ row 0 w refl in
        let k : Comes p.image c b = step_there p Good laws once (length m.code) step c pc (stood p see) mode (at_push m.code code step f1) in
        let sb : Sees p (with_slots (put_slot n w) st) b = subst (λ x. Sees p (with_slots (put_slot n x) st) b) h (sees_put p st c n v laws.local ok.0 (owe st c see) (omega (arith, more))) in
        let kb : Keeps p work top s b.stack = keeps_then p work top work top s c.stack b.stack (omega arith) (omega arith) keep (keeps_put p work top c n v ok.0 laws.small see.frame) in
        let r = moves_by slots ws (from + 1) m1 work top s (with_slots (put_slot n w) st) b ok.1 (omega (arith, e)) (omega (arith, low)) f (ap suc pc ∙ sym (length_push m.code step)) mode (up (with_slots (put_slot n w) st) b sb) kb
        (λ i x g. put_other (c.fp + 4 + n) (p.fp + 4 + (from + 1) + i) v c.stack (λ y. omega (arith, y, see.frame, ok.0, low))
        ∙ (let z : p.fp + 4 + (from + 1) + i ≡ p.fp + 4 + from + suc i = omega arith in ap c.stack z) ∙ row (suc i) x g) (omega (arith, more)) in
        (r.0, record { comes = comes_then p.image c b r.0 k r.1.comes; pc = r.1.pc; mode = r.1.mode; top = r.1.top; sees = r.1.sees; keeps = r.1.keeps; clock = omega (arith, r.1.clock) })

  -- Primitives: their words stand side by side in slots for work, and their results in place of them.

  module _ (results : List ℕ) (own : AllBelow p.base results) (round : Round) (fit : Fit p round) (number : ℕ) (m0 : Made) (wide : round.work + length results ≤ p.shape.frame) (front : Front (moves_onto results round.work (pushed (flat.Prim number round.work) m0)).code code)
      (bound : ℕ) (s : ℕ → ℕ) (ws : List ℕ) (t : ℕ) (st : State) (c : Machine) (tops : c.top ≡ bound) (pc : c.pc ≡ length m0.code) (mode : c.mode ≡ running) (see : Owes p st c) (keep : Keeps p round.work bound s c.stack) (row : (i w : ℕ) → slice_get ws i ≡ Some w → c.stack (p.fp + 4 + round.work + i) ≡ w) where
    abbrev m1 : Made
    m1 = pushed (flat.Prim number round.work) m0

    abbrev end : ℕ
    end = length (moves_onto results round.work m1).code

    taken : (d : Done) (b : Bool) → b ≡ is_same (length results) (length d.results) → Comes p.image c (does p.image round.work (Some d) c) →
        Outcome p round end bound s c (need b (with_state (with_slots (puts results d.results)) (gives {A = Unit {0}} tt)) t (stores d.world.next (with_world d.world (counted (suc (length results)) st))))
    unfolding need with_state gives ends does
    taken d false e k = tt
    taken d true e k =
        let len : length results ≡ length d.results = eqb-true (length results) (length d.results) (sym e) in
        let to : ℕ = c.fp + 4 + round.work in
        let x : Machine = next (record c { stack = put_all to d.results c.stack; world = d.world; used = max c.used d.world.next }) in
        let kx : Comes p.image c x = comes_as p.image c (does p.image round.work (Some d) c) x (room_is (p.image.has_store d.world.next) store_full x c (laws.honest.store d.world.next)) k in
        let now : State = stores d.world.next (with_world d.world (counted (suc (length results)) st)) in
        let sx : Sees p now x = record {
          slots = λ n w h g. put_all_below d.results to c.stack (p.fp + 4 + n) (omega (arith, h, fit.work, see.frame)) ∙ see.slots n w h g;
          below = laws.local c.stack x.stack st.outer (λ i h. put_all_below d.results to c.stack i (omega (arith, h, see.frame))) see.below;
          world = refl;
          who = see.who;
          frame = see.frame;
          room = see.room;
          pay = omega (arith, see.pay);
          within = (see.within.0, omega (arith, see.within.1), omega (arith, see.within.2), see.within.3, see.within.4);
        } in
        let kk : Keeps p round.work bound s x.stack = keeps_then p round.work bound round.work bound s c.stack x.stack (omega arith) (omega arith) keep (record {
          foot = λ i h. put_all_below d.results to c.stack (p.fp + i) (omega (arith, h, see.frame));
          marks = λ i g h. put_all_below d.results to c.stack (p.fp + 4 + i) (omega (arith, h, see.frame));
          above = λ i g h. put_all_above d.results to c.stack i (omega (arith, g, len, wide, see.frame));
        }) in
        let r = moves_by (λ n. n) (λ st c k. k) (owes p) results d.results round.work m1 round.work bound s now x own len fit.work front (ap suc pc ∙ sym (length_push m0.code (flat.Prim number round.work))) mode sx kk
        (λ i w h. (let z : p.fp + 4 + round.work + i ≡ to + i = omega (arith, see.frame) in ap x.stack z) ∙ put_all_at d.results to c.stack i w h) (omega (arith, see.within.2)) in
        record { machine = r.0; comes = comes_then p.image c x r.0 kx r.1.comes; pc = r.1.pc; top = r.1.top ∙ tops; mode = r.1.mode; sees = r.1.sees; keeps = r.1.keeps }

    by_done : (q : Primitive) (o : Option Done) → done (Some q) ws st.world ≡ o → Comes p.image c (does_primitive p.image (Some q) round.work c) →
        Outcome p round end bound s c (continue_either_way (takes p.linked entries results) ends (does_word o t (counted (suc (length results)) st)))
    unfolding does_word does_primitive continue_either_way ends
    by_done q None e k = tt
    by_done q (Some d) e k =
        let len : length ws ≡ arity q = done_arity q ws st.world d e in
        let from : ℕ = c.fp + 4 + round.work in
        let row_at : row_of c.stack from (arity q) ≡ ws = ap (row_of c.stack from) (sym len) ∙ row_is ws c.stack from (λ i w g. (let z : from + i ≡ p.fp + 4 + round.work + i = omega (arith, see.frame) in ap c.stack z) ∙ row i w g) in
        let is : done (Some q) (row_of c.stack from (arity q)) c.world ≡ Some d = ap (λ x. done (Some q) x c.world) row_at ∙ ap (done (Some q) ws) see.world ∙ e in
        taken d (is_same (length results) (length d.results)) refl (subst (λ o. Comes p.image c (does p.image round.work o c)) is k)

    by_primitive : (o : Option Primitive) → Comes p.image c (does_primitive p.image o round.work c) →
        Outcome p round end bound s c (continue_either_way (takes p.linked entries results) ends (does_word (done o ws st.world) t (counted (suc (length results)) st)))
    unfolding does_word continue_either_way ends
    by_primitive None k = subst (λ o. Outcome p round end bound s c (continue_either_way (takes p.linked entries results) ends (does_word o t (counted (suc (length results)) st)))) (sym (done_none ws st.world)) tt
    by_primitive (Some q) k = by_done q (done (Some q) ws st.world) refl k

    pub prim_at : Outcome p round end bound s c (with_state (counted (suc (length results))) (sees (λ st. either_way (does_word (done (slice_get primitives number) ws st.world)) (takes p.linked entries results) ends)) t st)
    unfolding with_state sees either_way on_step
    prim_at = by_primitive (slice_get primitives number)
        (step_there p Good laws once (length m0.code) (flat.Prim number round.work) c pc (stood p see) mode (at_push m0.code code (flat.Prim number round.work) (front_more _ _ _ (moves_front results round.work m1) front)))

  pub prim_runs : (number : ℕ) (es : List Expr) (results : List ℕ) (round : Round) (m : Made) → Fit p round → AllGood p Good es → AllBelow p.base results → round.work + length es ≤ p.shape.frame → round.work + length results ≤ p.shape.frame →
      Homes p round.region (length m.code) (length (sets_onto round.work es m).code) →
      DoesNext p Good laws once round m (values p.linked entries es (λ ws. with_state (counted (suc (length results))) (sees (λ st. either_way (does_word (done (slice_get primitives number) ws st.world)) (takes p.linked entries results) ends))))
      (λ round m. primitive_onto number es results round.work m)
  prim_runs number es results round m fit goods own wide room homes t st c front s =
      let m0 = sets_onto round.work es m in
      let m1 = pushed (flat.Prim number round.work) m0 in
      let f1 : Front m1.code code = front_more _ _ _ (moves_front results round.work m1) front in
      let f0 : Front m0.code code = front_back m0.code code (flat.Prim number round.work) f1 in
      let end = length (moves_onto results round.work m1).code in
      values_run p Good laws once entries round end c.top c.stack es round.work (length m0.code) m
      (λ ws. with_state (counted (suc (length results))) (sees (λ st. either_way (does_word (done (slice_get primitives number) ws st.world)) (takes p.linked entries results) ends))) t st c
      fit goods (omega arith) wide homes (omega arith) f0 s.pc s.mode s.sees (keeps_same p round.work c.top c.stack)
      (λ ws d x n r. prim_at results own round fit number m0 room front c.top c.stack ws t (with_steps x st) d r.tops r.pc r.mode r.sees r.keeps r.row)

  -- Binding to type any.

  module _ (round : Round) (m : Made) (step : Step) (to t : ℕ) (st now : State) (c : Machine) (own : to < p.base) (s : Begins p laws.live round m st c) (slots : now.slots ≡ st.slots) (outer : now.outer ≡ st.outer)
      (spent : now.meters.spent ≡ st.meters.spent) (most : now.meters.most ≡ st.meters.most) (store : now.meters.store ≡ st.meters.store) (steps : suc st.meters.steps ≤ now.meters.steps) where
    abbrev after : ℕ
    after = length (pushed step m).code

    bound_case : (w : World) (ws : List ℕ) (b : Bool) → b ≡ is_same 1 (length ws) → Outcome p round after c.top c.stack (does p.image to (Some (record { results = ws; world = w })) c)
        (need b (with_state (with_slots (puts (to ∷ []) ws)) (gives {A = Unit {0}} tt)) t (stores w.next (with_world w now)))
    unfolding need with_state gives ends does puts put_all
    bound_case w ws false e = tt
    bound_case w [] true e = absurd (omega (arith, eqb-true 1 0 (sym e)))
    bound_case w (v ∷ x ∷ ws) true e = absurd (omega (arith, eqb-true 1 (suc (suc (length ws))) (sym e)))
    bound_case w (v ∷ []) true e =
        let y : Machine = next (record c { stack = put_at (c.fp + 4 + to) v c.stack; world = w; used = max c.used w.next }) in
        let put = sees_put p (record now { world = st.world }) c to v laws.local own (record {
          slots = λ n x h g. s.sees.slots n x h (ap (λ (f : ℕ → Option ℕ). f n) (sym slots) ∙ g);
          below = subst (λ o. p.inv c.stack o) (sym outer) s.sees.below;
          world = s.sees.world;
          who = s.sees.who;
          frame = s.sees.frame;
          room = s.sees.room;
          pay = omega (arith, s.sees.pay, spent);
          within = (omega (arith, s.sees.within.0, most), omega (arith, s.sees.within.1, store), omega (arith, s.sees.within.2, steps), omega (arith, s.sees.within.3, most), s.sees.within.4);
        }) (omega (arith, s.sees.within.2, steps)) in
        record {
          machine = y;
          comes = comes_as p.image (does p.image to (Some (record { results = v ∷ []; world = w })) c) (does p.image to (Some (record { results = v ∷ []; world = w })) c) y
              (room_is (p.image.has_store w.next) store_full y c (laws.honest.store w.next)) (comes_same p.image (does p.image to (Some (record { results = v ∷ []; world = w })) c));
          pc = ap suc s.pc ∙ sym (length_push m.code step);
          top = refl;
          mode = s.mode;
          sees = record { slots = put.slots; below = put.below; world = refl; who = put.who; frame = put.frame; room = put.room; pay = put.pay; within = (put.within.0, omega (arith, put.within.1), put.within.2, put.within.3, put.within.4) };
          keeps = keeps_put p round.work c.top c to v own laws.small s.sees.frame;
        }

    bound_done : (o : Option Done) → Outcome p round after c.top c.stack (does p.image to o c) (continue_either_way (takes p.linked entries (to ∷ [])) ends (does_word o t now))
    unfolding does does_word continue_either_way ends
    bound_done None = tt
    bound_done (Some d) = bound_case d.world d.results (is_same 1 (length d.results)) refl

  pub bind_runs : (number e : Expr) (to : ℕ) (round : Round) (m : Made) → Good number → Good e → to < p.base → Home p round.region (length m.code) →
      DoesNext p Good laws once round m (valued p.linked entries number (λ n. valued p.linked entries e (λ w. sees (λ st. either_way (does_word (bound n w st.world)) (takes p.linked entries (to ∷ [])) ends)))) (λ round m. pushed (flat.Bind number e to) m)
  unfolding on_step sees either_way
  bind_runs number e to round m good_number good own home t st c front s =
      let step : Step = flat.Bind number e to in
      let end = length (pushed step m).code in
      let here : Home p round.region c.pc = subst (Home p round.region) (sym s.pc) home in
      let g : ℕ → ℕ → Machine → Machine = λ n w c. does p.image to (bound n w c.world) c in
      let f : ℕ → ℕ → Computation (Unit {0}) = λ n w. sees (λ st. either_way (does_word (bound n w st.world)) (takes p.linked entries (to ∷ [])) ends) in
      valued_runs p Good laws once round end c.top c.stack c entries number good_number (λ n. valued p.linked entries e (f n)) (λ n c. with_word p.image e (g n) c) t st s.sees
      (keeps_same p round.work c.top c.stack) here (step_there p Good laws once (length m.code) step c s.pc (stood p s.sees) s.mode (at_push m.code code step front))
      (λ n. valued_from p Good laws once round end c.top c.stack (with_word p.image e (g n) c) c entries e good (f n) (g n) t (counted 1 st)
      (sees_counted p 1 st c s.sees) (keeps_same p round.work c.top c.stack) here (comes_same p.image (with_word p.image e (g n) c))
      (λ w. subst (λ x. Outcome p round end c.top c.stack (does p.image to (bound n w x) c) (continue_either_way (takes p.linked entries (to ∷ [])) ends (does_word (bound n w st.world) t (counted 1 (counted 1 st))))) (sym s.sees.world)
      (bound_done round m step to t st (counted 1 (counted 1 st)) c own s refl refl refl refl refl (omega arith) (bound n w st.world))))
