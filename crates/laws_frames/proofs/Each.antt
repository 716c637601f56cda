-- Each statement does in flat code what it means, where it stands.
use Rattle.std.proofs.Common.{◌≡◌, ◌∙◌, inl, inr, ℕ, zero, suc, ◌+◌, ◌≤◌, true, List, ◌∷◌, length, Option, Some, None, slice_get, refl, ap, sym, subst, arith}
use Rattle.std.proofs.lemmas.Option.{same_Some}
use Rattle.clu_frames.specs.Plain.{Step}
use Rattle.clu_frames.specs.Plain as flat
use Rattle.clu_frames.specs.Flattening.{Guarding, Made, Onto, Round, all_onto, arms_onto, closed, first_of_row, guard_at, in_guard, in_loop, in_turns, labelled, opened, pushed, results_onto, row_sets, row_slot, sets_onto, slots_of, taken_onto, turns_at, turns_ended, unless_from}
use Rattle.clu_wir.specs.Plain.{Arms, Expr, Stmts}
use Rattle.clu_wir.specs.Value.{Gives, value}
use Rattle.clu_word_meaning.specs.Words.{Body, Computation, Entry, Result, State, calls, chosen, continue_either_way, counted, either_way, ends, gives, guard_done, handled, iterates, named_arm, numbered_arm, other_arm, raised, returned, signalled, takes, valued, values, with_state, with_steps, yields}
use Rattle.clu_flat_meaning.specs.Machine.{Comes, Machine, address_of, by_word, invoked, next, number_at, on_step, put_in, slots_at, view_of}
use Rattle.clu_flat_meaning.proofs.Runs.{Front, Once, at_push, front_back, front_more, length_push, number_so, put_same}
use Rattle.laws_frames.proofs.Relation.{Begins, Fit, GuardsLow, Home, IsMark, IsTop, Keeps, Laws, Outcome, Place, Starts, laws_at}
use Rattle.laws_frames.proofs.Sim.{before, foot_zero, guards_from, keeps_same, low_from, mark_kept, outcome_from}
use Rattle.laws_frames.proofs.Simple.{keeps_work, owes, sees_counted, sees_work, stood, valued_runs}
use Rattle.laws_frames.proofs.Control.{DoesAt, DoesNext, Fronts, step_there}
use Rattle.laws_frames.proofs.Rows.{AllGood, Homes, Wide, front_length, leave_at, raise_at, sets_front, signal_at, values_run}
use Rattle.laws_frames.proofs.Choosing.{unless_runs}
use Rattle.laws_frames.proofs.Entering.{BodyOk, EntryOk}
use Rattle.laws_frames.proofs.Iterating.{AllBelow, iterate_runs, results_front}
use Rattle.laws_frames.proofs.Yielding.{call_runs, context_of, yield_runs}
use Rattle.laws_frames.proofs.Fronts.{count_of, front_arms, front_taken, row_by}
use Rattle.laws_frames.proofs.Guarding.{ArmsDo, SeekLaw, arms_done, guard_case}
use Rattle.laws_frames.proofs.Placing.{Placed, placed_run}

module _ (p : Place) where
  -- a name is a known word
  pub record Named (e : Expr) (name : List ℕ) : Type 0 where
    pub word : ℕ
    pub is : (c : Machine) → c.who ≡ p.me → value (view_of p.image (slots_at p.image c) c.who.table c.world) e ≡ Gives word
    pub named : p.image.name_of word ≡ Some name

  -- after the list of a guard
  abbrev pub guard_body : Stmts → Arms → Round → Made → Made
  guard_body body arms round m = closed (length m.regions) (m.labels + count_of arms) (all_onto body (in_guard (guard_at (slots_of arms) m.labels round.mark) (length m.regions) round) (opened round.region (labelled 1 (labelled (count_of arms) m))))

module _ (p : Place) (Good : Expr → Type 0) (laws : Laws p Good) (once : Once p.shape.code) (entries : ℕ → Entry) (entry_ok : (w : ℕ) → EntryOk p.image w (entries w)) (yielded : Body) (yielded_ok : BodyOk p.image (context_of p) yielded) where
  abbrev code : List Step
  code = p.shape.code

  starts_counted : (round : Round) (m : Made) (st : State) (c : Machine) → Begins p laws.live round m st c → Begins p laws.live round m (counted 1 st) c
  starts_counted round m st c s = record { pc = s.pc; mode = s.mode; top = s.top; room = s.room; mark = s.mark; site = s.site; caller = s.caller; link = s.link; low = s.low; cut = s.cut; guards = s.guards; sees = sees_counted p 1 st c s.sees }

  -- after words that were put side by side
  starts_placed : (round : Round) (slot : ℕ) (m m' : Made) (st st' : State) (c d : Machine) (ws : List ℕ) → Fit p round → Begins p laws.live round m st c → Placed p Good laws once entries round slot c.top c.top c.stack (length m'.code) st' c ws d → Begins p laws.live round m' st' d
  starts_placed round slot m m' st st' c d ws fit s r = record {
    pc = r.pc;
    mode = r.mode;
    top = omega (arith, s.top, r.tops);
    room = s.room;
    mark = mark_kept p round.work c.top round.mark c.stack d.stack fit.mark r.keeps ∙ s.mark ∙ ap address_of (sym r.tops);
    site = foot_zero p round.work c.top c.stack d.stack r.keeps ∙ s.site;
    caller = r.keeps.foot 1 (omega arith) ∙ s.caller;
    link = r.keeps.foot 2 (omega arith) ∙ s.link;
    low = omega (arith, s.low, r.tops);
    cut = low_from p round.turns round.work c.top c.top d.top c.stack d.stack fit.turns r.keeps (omega (arith, r.tops)) s.cut;
    guards = guards_from p round.guards round.work c.top c.top d.top c.stack d.stack fit.guards r.keeps (omega (arith, r.tops)) s.guards;
    sees = r.sees;
  }

  back_to_start : (round : Round) (end : ℕ) (c d e : Machine) (r : Result (Unit {0})) → Fit p round → d.top ≡ c.top → Keeps p round.work c.top c.stack d.stack → Outcome p round end d.top d.stack e r → Outcome p round end c.top c.stack e r
  back_to_start round end c d e r fit tops keeps o = outcome_from p round end c.top c.stack d.stack e r fit keeps (subst (λ t. Outcome p round end t d.stack e r) tops o)

  -- the slots of a call's arguments, as its step reads them
  row_at : (slot : ℕ) (ws : List ℕ) (d : Machine) → d.fp ≡ p.fp → ((i w : ℕ) → slice_get ws i ≡ Some w → d.stack (p.fp + 4 + slot + i) ≡ w) → (i w : ℕ) → slice_get ws i ≡ Some w → d.stack (d.fp + 4 + slot + i) ≡ w
  row_at slot ws d frame row i w e = ap (λ x. d.stack (x + 4 + slot + i)) frame ∙ row i w e

  pub call_by : (o : Option ℕ) (routine : Expr) (es : List Expr) (results : List ℕ) (round : Round) (m : Made) → first_of_row es ≡ o → Fit p round → Good routine → AllGood p Good es → AllBelow p.base results → Wide p o (round.work + length es) →
      Homes p round.region (length m.code) (length (pushed (flat.Invoke routine (row_slot round.work o)) (row_sets round.work es o m)).code) →
      DoesNext p Good laws once round m (values p.linked entries es (λ ws. valued p.linked entries routine (λ w. calls p.linked entries laws.live w ws results)))
      (λ round m. taken_onto results (pushed (flat.Invoke routine (row_slot round.work o)) (row_sets round.work es o m)))
  unfolding on_step
  call_by o routine es results round m e fit good goods own wide homes t st c front s =
      let slot : ℕ = row_slot round.work o in
      let m0 = row_sets round.work es o m in
      let m1 = pushed (flat.Invoke routine slot) m0 in
      let end = length (taken_onto results m1).code in
      let f1 : Front m1.code code = front_more m1.code _ code (front_taken results m1) front in
      let f0 : Front m0.code code = front_back m0.code code (flat.Invoke routine slot) f1 in
      let l1 : length m1.code ≡ suc (length m0.code) = length_push m0.code (flat.Invoke routine slot) in
      let long : length m.code ≤ length m0.code = front_length _ _ (row_by round.work es o m) in
      placed_run p Good laws once entries o round end c.top c.stack es round.work m (λ ws. valued p.linked entries routine (λ w. calls p.linked entries laws.live w ws results)) t st c e
      fit goods (omega arith) wide (record { home = λ i g h. homes.home i g (omega (arith, h, l1)) }) f0 s.pc s.mode s.sees (keeps_same p round.work c.top c.stack)
      (λ ws d x n grown r.
      let h : Home p round.region d.pc = subst (Home p round.region) (sym r.pc) (homes.home (length m0.code) long (omega (arith, l1))) in
      valued_runs p Good laws once round end c.top c.stack d entries routine good (λ w. calls p.linked entries laws.live w ws results)
      (λ v c. invoked p.image (p.image.descriptor v) slot c) t (with_steps x st) r.sees r.keeps h
      (step_there p Good laws once (length m0.code) (flat.Invoke routine slot) d r.pc (stood p r.sees) r.mode (at_push m0.code code (flat.Invoke routine slot) f1))
      (λ w. back_to_start round end c d (invoked p.image (p.image.descriptor w) slot d) _ fit r.tops r.keeps
      (call_runs p Good laws once entries round m0 slot routine results own front f1 (counted 1 (with_steps x st)) d (starts_counted round m0 (with_steps x st) d (starts_placed round slot m m0 st (with_steps x st) c d ws fit s r)) h w (entry_ok w) ws t
      (row_at slot ws d r.sees.frame r.row) r.wide (omega (arith, r.sees.within.2)))))

  pub yield_by : (o : Option ℕ) (es : List Expr) (round : Round) (m : Made) → first_of_row es ≡ o → Fit p round → AllGood p Good es → Wide p o (round.work + length es) → Homes p round.region (length m.code) (length (row_sets round.work es o m).code) →
      DoesNext p Good laws once round m (values p.linked entries es (yields p.linked entries laws.live yielded))
      (λ round m. pushed (flat.Yield (row_slot round.work o) (length es)) (row_sets round.work es o m))
  yield_by o es round m e fit goods wide homes t st c front s =
      let slot : ℕ = row_slot round.work o in
      let m0 = row_sets round.work es o m in
      let end = length (pushed (flat.Yield slot (length es)) m0).code in
      let f0 : Front m0.code code = front_back m0.code code (flat.Yield slot (length es)) front in
      placed_run p Good laws once entries o round end c.top c.stack es round.work m (yields p.linked entries laws.live yielded) t st c e
      fit goods (omega arith) wide homes f0 s.pc s.mode s.sees (keeps_same p round.work c.top c.stack)
      (λ ws d x n grown r. back_to_start round end c d d (yields p.linked entries laws.live yielded ws t (with_steps x st)) fit r.tops r.keeps
      (yield_runs p Good laws once entries round m0 slot (length es) front (with_steps x st) d (starts_placed round slot m m0 st (with_steps x st) c d ws fit s r) yielded yielded_ok ws (sym n) r.wide r.row t))

  pub leave_by : (o : Option ℕ) (es : List Expr) (round : Round) (m : Made) → first_of_row es ≡ o → Fit p round → AllGood p Good es → Wide p o (round.work + length es) → Homes p round.region (length m.code) (length (row_sets round.work es o m).code) →
      DoesNext p Good laws once round m (values p.linked entries es (λ ws. with_state (counted 1) (ends (returned ws))))
      (λ round m. pushed (flat.Leave (row_slot round.work o) (length es)) (row_sets round.work es o m))
  unfolding with_state
  leave_by o es round m e fit goods wide homes t st c front s =
      let slot : ℕ = row_slot round.work o in
      let m0 = row_sets round.work es o m in
      let end = length (pushed (flat.Leave slot (length es)) m0).code in
      let f0 : Front m0.code code = front_back m0.code code (flat.Leave slot (length es)) front in
      placed_run p Good laws once entries o round end c.top c.stack es round.work m (λ ws. with_state (counted 1) (ends (returned ws))) t st c e
      fit goods (omega arith) wide homes f0 s.pc s.mode s.sees (keeps_same p round.work c.top c.stack)
      (λ ws d x n grown r. let z = starts_placed round slot m m0 st (with_steps x st) c d ws fit s r in
      leave_at p Good laws once round m0 slot ws (length es) t (counted 1 (with_steps x st)) d c.top c.stack end (sym n) front z.pc z.mode (sees_counted p 1 (with_steps x st) d z.sees) (omega (arith, z.sees.within.2)) (omega (arith, z.top, z.sees.within.4))
      z.site z.caller z.link (omega (arith, r.wide, r.sees.room)) r.row)

  -- the name of an exception goes into the first slot for work
  named_step : (e : Expr) (name : List ℕ) (named : Named p e name) (round : Round) (m : Made) (st : State) (c : Machine) → Begins p laws.live round m st c → Front (pushed (flat.Set round.work e) m).code code → Comes p.image c (next (put_in round.work named.word c))
  unfolding on_step by_word
  named_step e name named round m st c s f =
      subst (λ x. Comes p.image c (by_word p.image x (λ w c. next (put_in round.work w c)) c)) (named.is c s.sees.who)
      (step_there p Good laws once (length m.code) (flat.Set round.work e) c s.pc (stood p s.sees) s.mode (at_push m.code code (flat.Set round.work e) f))

  pub raise_by : (e : Expr) (name : List ℕ) → Named p e name → (es : List Expr) (round : Round) (m : Made) → Fit p round → AllGood p Good es → round.work + 1 + length es ≤ p.shape.frame →
      Homes p round.region (length m.code) (length (pushed (flat.Raise round.work) (sets_onto (round.work + 1) es (pushed (flat.Set round.work e) m))).code) →
      DoesNext p Good laws once round m (with_state (counted 1) (values p.linked entries es (λ ws. with_state (counted 1) (ends (raised name ws)))))
      (λ round m. pushed (flat.Raise round.work) (sets_onto (round.work + 1) es (pushed (flat.Set round.work e) m)))
  unfolding with_state
  raise_by e name named es round m fit goods wide homes t st c front s =
      let m1 = pushed (flat.Set round.work e) m in
      let m0 = sets_onto (round.work + 1) es m1 in
      let end = length (pushed (flat.Raise round.work) m0).code in
      let f0 : Front m0.code code = front_back m0.code code (flat.Raise round.work) front in
      let f1 : Front m1.code code = front_more m1.code m0.code code (sets_front p Good laws once es (round.work + 1) m1) f0 in
      let l1 : length m1.code ≡ suc (length m.code) = length_push m.code (flat.Set round.work e) in
      let l0 : end ≡ suc (length m0.code) = length_push m0.code (flat.Raise round.work) in
      let long : length m1.code ≤ length m0.code = front_length _ _ (sets_front p Good laws once es (round.work + 1) m1) in
      let b : Machine = next (put_in round.work named.word c) in
      let kb : Keeps p round.work c.top c.stack b.stack = keeps_work p round.work c.top c round.work named.word (omega arith) (omega (arith, wide)) s.sees.frame in
      before p round end c.top c.stack c b (values p.linked entries es (λ ws. with_state (counted 1) (ends (raised name ws))) t (counted 1 st)) (named_step e name named round m st c s f1)
      (values_run p Good laws once entries round end c.top c.stack es (round.work + 1) (length m0.code) m1 (λ ws. with_state (counted 1) (ends (raised name ws))) t (counted 1 st) b
      fit goods (omega arith) wide (record { home = λ i g h. homes.home i (omega (arith, g, l1)) (omega (arith, h, l0)) }) (omega arith) f0 (ap suc s.pc ∙ sym l1) s.mode
      (owes p (counted 1 st) b (sees_work p (counted 1 st) c round.work named.word laws.local fit.work (sees_counted p 1 st c s.sees) (omega (arith, s.sees.within.2)))) kb
      (λ ws d x n r. raise_at p Good laws once round m0 round.work name ws t (counted 1 (with_steps x st)) d c.top c.stack end front r.pc r.mode (sees_counted p 1 (with_steps x st) d r.sees) (omega (arith, r.sees.within.2)) r.keeps
      (homes.home (length m0.code) (omega (arith, long, l1)) (omega (arith, l0))) fit.work (omega (arith, wide, n, r.sees.room))
      (ap p.image.name_of (r.lower round.work (omega arith) (omega arith) ∙ put_same (c.fp + 4 + round.work) (p.fp + 4 + round.work) named.word c.stack (omega (arith, s.sees.frame))) ∙ named.named)
      (λ i w h. (let z : p.fp + 4 + round.work + 1 + i ≡ p.fp + 4 + (round.work + 1) + i = omega arith in ap d.stack z) ∙ r.row i w h)))

  pub signal_by : (e : Expr) (name : List ℕ) → Named p e name → (es : List Expr) (round : Round) (m : Made) → Fit p round → AllGood p Good es → round.work + 1 + length es ≤ p.shape.frame →
      Homes p round.region (length m.code) (length (pushed (flat.Signal round.work) (sets_onto (round.work + 1) es (pushed (flat.Set round.work e) m))).code) →
      DoesNext p Good laws once round m (with_state (counted 1) (values p.linked entries es (λ ws. with_state (counted 1) (ends (signalled name ws)))))
      (λ round m. pushed (flat.Signal round.work) (sets_onto (round.work + 1) es (pushed (flat.Set round.work e) m)))
  unfolding with_state
  signal_by e name named es round m fit goods wide homes t st c front s =
      let m1 = pushed (flat.Set round.work e) m in
      let m0 = sets_onto (round.work + 1) es m1 in
      let end = length (pushed (flat.Signal round.work) m0).code in
      let f0 : Front m0.code code = front_back m0.code code (flat.Signal round.work) front in
      let f1 : Front m1.code code = front_more m1.code m0.code code (sets_front p Good laws once es (round.work + 1) m1) f0 in
      let l1 : length m1.code ≡ suc (length m.code) = length_push m.code (flat.Set round.work e) in
      let l0 : end ≡ suc (length m0.code) = length_push m0.code (flat.Signal round.work) in
      let b : Machine = next (put_in round.work named.word c) in
      let kb : Keeps p round.work c.top c.stack b.stack = keeps_work p round.work c.top c round.work named.word (omega arith) (omega (arith, wide)) s.sees.frame in
      before p round end c.top c.stack c b (values p.linked entries es (λ ws. with_state (counted 1) (ends (signalled name ws))) t (counted 1 st)) (named_step e name named round m st c s f1)
      (values_run p Good laws once entries round end c.top c.stack es (round.work + 1) (length m0.code) m1 (λ ws. with_state (counted 1) (ends (signalled name ws))) t (counted 1 st) b
      fit goods (omega arith) wide (record { home = λ i g h. homes.home i (omega (arith, g, l1)) (omega (arith, h, l0)) }) (omega arith) f0 (ap suc s.pc ∙ sym l1) s.mode
      (owes p (counted 1 st) b (sees_work p (counted 1 st) c round.work named.word laws.local fit.work (sees_counted p 1 st c s.sees) (omega (arith, s.sees.within.2)))) kb
      (λ ws d x n r.
      signal_at p Good laws once round m0 round.work name ws t (counted 1 (with_steps x st)) d c.top c.stack end front r.pc r.mode (sees_counted p 1 (with_steps x st) d r.sees) (omega (arith, r.sees.within.2)) (omega (arith, s.top, r.tops, r.sees.within.4))
      (foot_zero p round.work c.top c.stack d.stack r.keeps ∙ s.site) (r.keeps.foot 1 (omega arith) ∙ s.caller) (r.keeps.foot 2 (omega arith) ∙ s.link) (omega (arith, wide, n, r.sees.room))
      (ap p.image.name_of (r.lower round.work (omega arith) (omega arith) ∙ put_same (c.fp + 4 + round.work) (p.fp + 4 + round.work) named.word c.stack (omega (arith, s.sees.frame))) ∙ named.named)
      (λ i w h. (let z : p.fp + 4 + round.work + 1 + i ≡ p.fp + 4 + (round.work + 1) + i = omega arith in ap d.stack z) ∙ r.row i w h)))

  pub iterate_by : (o : Option ℕ) (routine : Expr) (es : List Expr) (items : List ℕ) (inner : ℕ → Computation (Unit {0})) (on : Onto) (round : Round) (m : Made) → first_of_row es ≡ o → Fit p round → Good routine → AllGood p Good es → AllBelow p.base items →
      Wide p o (round.work + 1 + length es) → round.work + 1 ≤ p.shape.frame → Fronts on →
      Homes p round.region (length m.code) (length (pushed (flat.Invoke routine (row_slot (round.work + 1) o)) (row_sets (round.work + 1) es o (labelled 2 m))).code) →
      ((now : ℕ) → DoesAt p Good (laws_at p laws now) once (in_turns (turns_at m.labels round.mark) round)
      (results_onto 0 items (pushed (flat.Take round.work) (pushed (flat.Jump (m.labels + 1)) (pushed (flat.Invoke routine (row_slot (round.work + 1) o)) (row_sets (round.work + 1) es o (labelled 2 m)))))) (inner now) on) →
      DoesNext p Good laws once round m (values p.linked entries es (λ ws. valued p.linked entries routine (λ w. iterates p.linked entries laws.live w ws (λ now given. with_state (counted (suc (length items))) (either_way (takes p.linked entries items given) (λ done. inner now) ends)))))
      (λ round m. turns_ended on (turns_at m.labels round.mark) round
      (results_onto 0 items (pushed (flat.Take round.work) (pushed (flat.Jump (m.labels + 1)) (pushed (flat.Invoke routine (row_slot (round.work + 1) o)) (row_sets (round.work + 1) es o (labelled 2 m)))))))
  unfolding on_step
  iterate_by o routine es items inner on round m e fit good goods own wide low fronts homes does t st c front s =
      let slot : ℕ = row_slot (round.work + 1) o in
      let ml = labelled 2 m in
      let m0 = row_sets (round.work + 1) es o ml in
      let m1 = pushed (flat.Invoke routine slot) m0 in
      let whole = turns_ended on (turns_at m.labels round.mark) round (results_onto 0 items (pushed (flat.Take round.work) (pushed (flat.Jump (m.labels + 1)) m1))) in
      let end = length whole.code in
      let f1 : Front m1.code code = iterate_front round m1 m.labels items on fronts front in
      let f0 : Front m0.code code = front_back m0.code code (flat.Invoke routine slot) f1 in
      let l1 : length m1.code ≡ suc (length m0.code) = length_push m0.code (flat.Invoke routine slot) in
      let long : length m.code ≤ length m0.code = front_length _ _ (row_by (round.work + 1) es o ml) in
      let body : Body = λ now given. with_state (counted (suc (length items))) (either_way (takes p.linked entries items given) (λ done. inner now) ends) in
      placed_run p Good laws once entries o round end c.top c.stack es (round.work + 1) ml (λ ws. valued p.linked entries routine (λ w. iterates p.linked entries laws.live w ws body)) t st c e
      fit goods (omega arith) wide (record { home = λ i g h. homes.home i g (omega (arith, h, l1)) }) f0 s.pc s.mode s.sees (keeps_same p round.work c.top c.stack)
      (λ ws d x n grown r.
      let h : Home p round.region d.pc = subst (Home p round.region) (sym r.pc) (homes.home (length m0.code) long (omega (arith, l1))) in
      valued_runs p Good laws once round end c.top c.stack d entries routine good (λ w. iterates p.linked entries laws.live w ws body)
      (λ v c. invoked p.image (p.image.descriptor v) slot c) t (with_steps x st) r.sees r.keeps h
      (step_there p Good laws once (length m0.code) (flat.Invoke routine slot) d r.pc (stood p r.sees) r.mode (at_push m0.code code (flat.Invoke routine slot) f1))
      (λ w. back_to_start round end c d (invoked p.image (p.image.descriptor w) slot d) _ fit r.tops r.keeps
      (iterate_runs p Good laws once entries round fit m0 m.labels items own (omega (arith, low)) on fronts routine slot front (counted 1 (with_steps x st)) d (starts_counted round m0 (with_steps x st) d (starts_placed round slot m m0 st (with_steps x st) c d ws fit s r)) inner does h w (entry_ok w) ws t
      (row_at slot ws d r.sees.frame r.row) r.wide (omega (arith, r.sees.within.2)))))
    where
      iterate_front : (round : Round) (m1 : Made) (l : ℕ) (items : List ℕ) (on : Onto) → Fronts on →
          Front (turns_ended on (turns_at l round.mark) round (results_onto 0 items (pushed (flat.Take round.work) (pushed (flat.Jump (l + 1)) m1)))).code code → Front m1.code code
      iterate_front round m1 l items on fronts front =
          let m2 = pushed (flat.Jump (l + 1)) m1 in
          let m3 = pushed (flat.Take round.work) m2 in
          let m4 = results_onto 0 items m3 in
          let m5 = on (in_turns (turns_at l round.mark) round) m4 in
          let m6 = pushed (flat.Label l) m5 in
          let m7 = pushed (flat.Resume round.work) m6 in
          front_back m1.code code (flat.Jump (l + 1)) (front_back m2.code code (flat.Take round.work) (front_more m3.code m4.code code (results_front p Good laws once 0 items m3)
          (front_more m4.code m5.code code (fronts (in_turns (turns_at l round.mark) round) m4) (front_back m5.code code (flat.Label l) (front_back m6.code code (flat.Resume round.work) (front_back m7.code code (flat.Label (l + 1)) front))))))

  guard_low : (round : Round) (m : Made) (st : State) (c : Machine) → Starts p laws.live round m st c → (slots : List (List ℕ)) (label : ℕ) → GuardsLow p (guard_at slots label round.mark ∷ round.guards) c.stack c.top
  guard_low round m st c s slots label zero g e =
      let z : number_at (c.stack (p.fp + round.mark)) ≡ c.top = number_so (c.stack (p.fp + round.mark)) c.top s.mark in
      subst (λ (x : Guarding). IsTop p x.mark c.top c.stack) (same_Some (guard_at slots label round.mark) g e) (record { address = s.mark ∙ ap address_of (sym z); low = omega (arith, z) })
  guard_low round m st c s slots label (suc k) g e = s.guards k g e

  pub guard_by : (f : Computation (Unit {0})) (arms : Arms) (body : Stmts) (round : Round) (m : Made) → Fit p round → SeekLaw p Good laws once entries yielded arms m.labels (m.labels + count_of arms) (length m.regions) round (guard_body p body arms round m) →
      ArmsDo p Good laws once entries yielded arms m.labels (m.labels + count_of arms) (length m.regions) round (guard_body p body arms round m) →
      DoesAt p Good laws once (in_guard (guard_at (slots_of arms) m.labels round.mark) (length m.regions) round) (opened round.region (labelled 1 (labelled (count_of arms) m))) f (all_onto body) →
      DoesAt p Good laws once round m (either_way f (λ done. guard_done) (handled (λ name ws. named_arm p.linked entries yielded laws.live arms name ws (other_arm p.linked entries yielded laws.live arms name ws)) (numbered_arm p.linked entries yielded laws.live arms)))
      (λ round m. arms_onto arms m.labels (m.labels + count_of arms) (length m.regions) round (guard_body p body arms round m))
  unfolding either_way
  guard_by f arms body round m fit law arms_do does t st c front s =
      let label = m.labels in
      let end = m.labels + count_of arms in
      let region = length m.regions in
      let m1 = opened round.region (labelled 1 (labelled (count_of arms) m)) in
      let m2 = all_onto body (in_guard (guard_at (slots_of arms) label round.mark) region round) m1 in
      let m3 = guard_body p body arms round m in
      let f3 : Front m3.code code = front_more _ _ _ (front_arms arms label end region round m3) front in
      let f2 : Front m2.code code = front_back m2.code code (flat.Jump end) f3 in
      let s1 : Starts p laws.live (in_guard (guard_at (slots_of arms) label round.mark) region round) m1 st c = record { pc = s.pc; mode = s.mode; top = s.top; room = s.room; mark = s.mark; site = s.site; caller = s.caller; link = s.link; low = s.low; cut = s.cut; guards = guard_low round m st c s (slots_of arms) label; sees = s.sees } in
      let o = does t st c f2 s1 in
      subst (λ (x : Made). Outcome p round (length x.code) c.top c.stack c (continue_either_way (λ done. guard_done) (handled (λ name ws. named_arm p.linked entries yielded laws.live arms name ws (other_arm p.linked entries yielded laws.live arms name ws)) (numbered_arm p.linked entries yielded laws.live arms)) (f t st))) (sym (arms_done p Good laws once entries yielded arms label end region round m3))
      (guard_case p Good laws once entries yielded round fit arms label end region m1 m3 body law arms_do m st c s front m2 (guard_at (slots_of arms) label round.mark) refl f3 (f t st) o)

  -- What stands round the parts of a statement

  wider : (work mark : ℕ) → IsMark p work mark → IsMark p (work + 1) mark
  wider work mark (inl l) = inl l
  wider work mark (inr r) = inr (r.0, omega (arith, r.1))

  pub fit_in_loop : (l : ℕ) (round : Round) → Fit p round → Fit p (in_loop l round)
  fit_in_loop l round f = record { work = f.work; mark = f.mark; turns = tt; guards = f.guards }

  pub fit_in_turns : (l : ℕ) (round : Round) → Fit p round → Fit p (in_turns (turns_at l round.mark) round)
  fit_in_turns l round f = record { work = omega (arith, f.work); mark = inr (omega (arith, f.work), omega arith); turns = wider round.work round.mark f.mark; guards = λ k g e. wider round.work g.mark (f.guards k g e) }

  pub fit_in_guard : (arms : Arms) (l region : ℕ) (round : Round) → Fit p round → Fit p (in_guard (guard_at (slots_of arms) l round.mark) region round)
  fit_in_guard arms l region round f = record { work = f.work; mark = f.mark; turns = f.turns; guards = each }
    where
      each : (k : ℕ) (g : Guarding) → slice_get (guard_at (slots_of arms) l round.mark ∷ round.guards) k ≡ Some g → IsMark p round.work g.mark
      each zero g e = subst (λ (x : Guarding). IsMark p round.work x.mark) (same_Some (guard_at (slots_of arms) l round.mark) g e) f.mark
      each (suc k) g e = f.guards k g e

  pub unless_by : (o : Option ℕ) → o ≡ None → (e : Expr) (f : Computation (Unit {0})) (on : Onto) (round : Round) (m : Made) → Good e → Fit p round → Fronts on → Home p round.region (length m.code) →
      DoesAt p Good laws once round (pushed (flat.Branch e true m.labels) (labelled 1 m)) f on →
      DoesNext p Good laws once round m (valued p.linked entries e (λ w. chosen w f (gives tt))) (λ round m. unless_from o e on round m)
  unless_by None h e f on round m good fit fronts home does = unless_runs p Good laws once entries round m e f on good fit fronts home does
  unless_by (Some x) h e f on round m good fit fronts home does = λ t st c front s. absurd (some_none x h)
    where
      some_none : (x : ℕ) → Some x ≡ None → ⊥
      some_none x h = absurd (cc)
