-- Flat code does what word code means.
use Rattle.std.proofs.Common.{◌≡◌, ◌∙◌, inl, inr, ℕ, suc, ◌+◌, ◌-◌, ◌≤◌, List, Option, Some, None, slice_get, refl, ap, sym, arith}
use Rattle.clu_frames.specs.declared.surroundings.Turns.{Turns}
use Rattle.clu_frames.specs.Flattening.{Guarding, Round}
use Rattle.clu_word_meaning.specs.Words.{Computation, Ending, Result, State, broken, continue_either_way, continued, ended, ends, exited, normal, out_of_turns, raised, returned, signalled, through, wrong}
use Rattle.clu_flat_meaning.specs.Machine.{Comes, Machine, Mode, address_of, number_at, running, searching}
use Rattle.clu_flat_meaning.proofs.Runs.{comes_then}
use Rattle.laws_frames.specs.Calls.{Brings, Excepts}
use Rattle.laws_frames.proofs.Relation.{Arrives, ArrivesBy, AtArm, AtEnd, AtNext, AtSlots, CutFits, CutLow, CutTop, Fit, GuardsLow, IsMark, IsTop, Keeps, Lands, Leaves, Outcome, Place, TurnsFit, cut_top}

module _ (p : Place) where
  -- What is kept

  pub keeps_same : (work top : ℕ) (s : ℕ → ℕ) → Keeps p work top s s
  keeps_same work top s = record { foot = λ i l. refl; marks = λ i l h. refl; above = λ i l h. refl }

  -- one behind the other; the later one may keep more
  pub keeps_then : (work top work' top' : ℕ) (a b c : ℕ → ℕ) → work ≤ work' → top ≤ top' → Keeps p work top a b → Keeps p work' top' b c → Keeps p work top a c
  keeps_then work top work' top' a b c lw lt k l = record {
    foot = λ i h. l.foot i h ∙ k.foot i h;
    marks = λ i g h. l.marks i g (omega (arith, h, lw)) ∙ k.marks i g h;
    above = λ i g h. l.above i g (omega (arith, h, lt)) ∙ k.above i g h;
  }

  pub mark_kept : (work top mark : ℕ) (a b : ℕ → ℕ) → IsMark p work mark → Keeps p work top a b → b (p.fp + mark) ≡ a (p.fp + mark)
  mark_kept work top mark a b (inl l) k = k.foot mark l
  mark_kept work top mark a b (inr r) k =
      let e : p.fp + mark ≡ p.fp + 4 + (mark - 4) = omega (arith, r.0) in
      ap b e ∙ k.marks (mark - 4) (omega (arith, r.0)) (omega (arith, r.1, r.0)) ∙ ap a (sym e)

  -- What comes before

  before_end : (t : Option Turns) (work top : ℕ) (s : ℕ → ℕ) (a b : Machine) (st : State) → Comes p.image a b → AtEnd p t work top s b st → AtEnd p t work top s a st
  before_end None work top s a b st k o = tt
  before_end (Some t) work top s a b st k o = record { machine = o.machine; comes = comes_then p.image a b o.machine k o.comes; pc = o.pc; top = o.top; mode = o.mode; sees = o.sees; keeps = o.keeps }

  before_next : (t : Option Turns) (work top : ℕ) (s : ℕ → ℕ) (a b : Machine) (st : State) → Comes p.image a b → AtNext p t work top s b st → AtNext p t work top s a st
  before_next None work top s a b st k o = tt
  before_next (Some t) work top s a b st k o = record { machine = o.machine; comes = comes_then p.image a b o.machine k o.comes; pc = o.pc; top = o.top; mode = o.mode; sees = o.sees; keeps = o.keeps }

  before_slots : (o : Option (List ℕ)) (label mark : ℕ) (ws : List ℕ) (work top : ℕ) (s : ℕ → ℕ) (a b : Machine) (st : State) → Comes p.image a b →
      AtSlots p o label mark ws work top s b st → AtSlots p o label mark ws work top s a st
  before_slots None label mark ws work top s a b st k o = tt
  before_slots (Some slots) label mark ws work top s a b st k f = λ e.
      let o = f e in record { machine = o.machine; comes = comes_then p.image a b o.machine k o.comes; pc = o.pc; top = o.top; mode = o.mode; sees = o.sees; keeps = o.keeps }

  before_arm : (g : Option Guarding) (arm : ℕ) (ws : List ℕ) (work top : ℕ) (s : ℕ → ℕ) (a b : Machine) (st : State) → Comes p.image a b →
      AtArm p g arm ws work top s b st → AtArm p g arm ws work top s a st
  before_arm None arm ws work top s a b st k o = tt
  before_arm (Some g) arm ws work top s a b st k o = before_slots (slice_get g.slots arm) (g.label + arm) g.mark ws work top s a b st k o

  before_leave : (a b : Machine) (at : ℕ) (mode : Mode) (brought : Machine → Type 0) (st : State) → Comes p.image a b → Leaves p b at mode brought st → Leaves p a at mode brought st
  before_leave a b at mode brought st k o = record {
    machine = o.machine;
    comes = comes_then p.image a b o.machine k o.comes;
    pc = o.pc;
    who = o.who;
    frame = o.frame;
    mode = o.mode;
    brings = o.brings;
    below = o.below;
    world = o.world;
    pay = o.pay;
    within = o.within;
    room = o.room;
    top = o.top;
  }

  pub before_lands : (round : Round) (top : ℕ) (s : ℕ → ℕ) (a b : Machine) (e : Ending) (st : State) → Comes p.image a b → Lands p round top s b e st → Lands p round top s a e st
  before_lands round top s a b broken st k o = before_end round.turns round.work top s a b st k o
  before_lands round top s a b continued st k o = before_next round.turns round.work top s a b st k o
  before_lands round top s a b (returned ws) st k o = before_leave a b (suc p.site) running (Brings p.image p.fp ws) st k o
  before_lands round top s a b (signalled name ws) st k o = before_leave a b p.site searching (Excepts p.image p.fp name ws) st k o
  before_lands round top s a b (raised name ws) st k o = record { machine = o.machine; comes = comes_then p.image a b o.machine k o.comes; mode = o.mode; home = o.home; excepts = o.excepts; sees = o.sees; keeps = o.keeps }
  before_lands round top s a b (exited inside arm ws) st k o = before_arm (slice_get round.guards inside) arm ws round.work top s a b st k o
  before_lands round top s a b (through e) st k o = (o.0, comes_then p.image a b o.0 k o.1, o.2)
  before_lands round top s a b wrong st k o = tt

  pub before : (round : Round) (at top : ℕ) (s : ℕ → ℕ) (a b : Machine) (r : Result (Unit {0})) → Comes p.image a b → Outcome p round at top s b r → Outcome p round at top s a r
  before round at top s a b (normal u turns st) k o = record { machine = o.machine; comes = comes_then p.image a b o.machine k o.comes; pc = o.pc; top = o.top; mode = o.mode; sees = o.sees; keeps = o.keeps }
  before round at top s a b (ended e turns st) k o = before_lands round top s a b e st k o
  before round at top s a b (out_of_turns st) k o = record { machine = o.machine; comes = comes_then p.image a b o.machine k o.comes; there = o.there; output = o.output; mode = o.mode; pay = o.pay; within = o.within }

  -- An earlier stack in the place of a later one

  abbrev Kept : Round → ℕ → (ℕ → ℕ) → (ℕ → ℕ) → Type 0
  Kept round top a b = Keeps p round.work top a b

  pub arrives_from : {slack : ℕ → ℕ} → (work top : ℕ) (a b : ℕ → ℕ) (c : Machine) (pc last last' : ℕ) (st : State) → Keeps p work top a b → last ≡ last' → ArrivesBy p slack work top b c pc last st → ArrivesBy p slack work top a c pc last' st
  arrives_from work top a b c pc last last' st k e o = record { machine = o.machine; comes = o.comes; pc = o.pc; top = o.top ∙ e; mode = o.mode; sees = o.sees; keeps = keeps_then work top work top a b o.machine.stack (omega arith) (omega arith) k o.keeps }

  cut_same : (cut : Option ℕ) (work top : ℕ) (a b : ℕ → ℕ) → CutFits p work cut → Keeps p work top a b → cut_top p cut b top ≡ cut_top p cut a top
  cut_same None work top a b f k = refl
  cut_same (Some mark) work top a b f k = ap number_at (mark_kept work top mark a b f k)

  pub top_from : (work top mark high high' : ℕ) (a b : ℕ → ℕ) → IsMark p work mark → Keeps p work top a b → high ≤ high' → IsTop p mark high a → IsTop p mark high' b
  top_from work top mark high high' a b f k l o =
      let z : b (p.fp + mark) ≡ a (p.fp + mark) = mark_kept work top mark a b f k in
      record { address = z ∙ o.address ∙ ap (λ x. address_of (number_at x)) (sym z); low = omega (arith, ap number_at z, l, o.low) }

  cut_from : (cut : Option ℕ) (work top high high' : ℕ) (a b : ℕ → ℕ) → CutFits p work cut → Keeps p work top a b → high ≤ high' → CutTop p cut a high → CutTop p cut b high'
  cut_from None work top high high' a b f k l o = tt
  cut_from (Some mark) work top high high' a b f k l o = top_from work top mark high high' a b f k l o

  pub low_from : (t : Option Turns) (work top high high' : ℕ) (a b : ℕ → ℕ) → TurnsFit p work t → Keeps p work top a b → high ≤ high' → CutLow p t a high → CutLow p t b high'
  low_from None work top high high' a b f k l o = tt
  low_from (Some t) work top high high' a b f k l o = cut_from t.cut work top high high' a b f k l o

  pub guards_from : (guards : List Guarding) (work top high high' : ℕ) (a b : ℕ → ℕ) → ((n : ℕ) (g : Guarding) → slice_get guards n ≡ Some g → IsMark p work g.mark) → Keeps p work top a b → high ≤ high' →
      GuardsLow p guards a high → GuardsLow p guards b high'
  guards_from guards work top high high' a b f k l o = λ n g e. top_from work top g.mark high high' a b (f n g e) k l (o n g e)

  pub end_from : (t : Option Turns) (work top : ℕ) (a b : ℕ → ℕ) (c : Machine) (st : State) → TurnsFit p work t → Keeps p work top a b → AtEnd p t work top b c st → AtEnd p t work top a c st
  end_from None work top a b c st f k o = tt
  end_from (Some t) work top a b c st f k o = arrives_from work top a b c _ _ _ st k (cut_same t.cut work top a b f k) o

  next_from : (t : Option Turns) (work top : ℕ) (a b : ℕ → ℕ) (c : Machine) (st : State) → Keeps p work top a b → AtNext p t work top b c st → AtNext p t work top a c st
  next_from None work top a b c st k o = tt
  next_from (Some t) work top a b c st k o = arrives_from work top a b c _ _ _ st k refl o

  slots_from : (o : Option (List ℕ)) (label mark : ℕ) (ws : List ℕ) (work top : ℕ) (a b : ℕ → ℕ) (c : Machine) (st : State) → IsMark p work mark → Keeps p work top a b →
      AtSlots p o label mark ws work top b c st → AtSlots p o label mark ws work top a c st
  slots_from None label mark ws work top a b c st f k o = tt
  slots_from (Some slots) label mark ws work top a b c st f k o = λ e. arrives_from work top a b c _ _ _ _ k (ap number_at (mark_kept work top mark a b f k)) (o e)

  pub arm_from : (g : Option Guarding) (arm : ℕ) (ws : List ℕ) (work top : ℕ) (a b : ℕ → ℕ) (c : Machine) (st : State) → ((h : Guarding) → g ≡ Some h → IsMark p work h.mark) → Keeps p work top a b →
      AtArm p g arm ws work top b c st → AtArm p g arm ws work top a c st
  arm_from None arm ws work top a b c st f k o = tt
  arm_from (Some g) arm ws work top a b c st f k o = slots_from (slice_get g.slots arm) (g.label + arm) g.mark ws work top a b c st (f g refl) k o

  pub foot_zero : (work top : ℕ) (a b : ℕ → ℕ) → Keeps p work top a b → b p.fp ≡ a p.fp
  foot_zero work top a b k = let e : p.fp ≡ p.fp + 0 = omega arith in ap b e ∙ k.foot 0 (omega arith) ∙ ap a (sym e)

  pub lands_from : (round : Round) (top : ℕ) (a b : ℕ → ℕ) (c : Machine) (e : Ending) (st : State) → Fit p round → Keeps p round.work top a b → Lands p round top b c e st → Lands p round top a c e st
  lands_from round top a b c broken st f k o = end_from round.turns round.work top a b c st f.turns k o
  lands_from round top a b c continued st f k o = next_from round.turns round.work top a b c st k o
  lands_from round top a b c (returned ws) st f k o = o
  lands_from round top a b c (signalled name ws) st f k o = o
  lands_from round top a b c (raised name ws) st f k o = record { machine = o.machine; comes = o.comes; mode = o.mode; home = o.home; excepts = o.excepts; sees = o.sees; keeps = keeps_then round.work top round.work top a b o.machine.stack (omega arith) (omega arith) k o.keeps }
  lands_from round top a b c (exited inside arm ws) st f k o = arm_from (slice_get round.guards inside) arm ws round.work top a b c st (λ g e. f.guards inside g e) k o
  lands_from round top a b c (through e) st f k o = o
  lands_from round top a b c wrong st f k o = tt

  pub outcome_from : (round : Round) (at top : ℕ) (a b : ℕ → ℕ) (c : Machine) (r : Result (Unit {0})) → Fit p round → Keeps p round.work top a b → Outcome p round at top b c r → Outcome p round at top a c r
  outcome_from round at top a b c (normal u turns st) f k o = arrives_from round.work top a b c at top top st k refl o
  outcome_from round at top a b c (ended e turns st) f k o = lands_from round top a b c e st f k o
  outcome_from round at top a b c (out_of_turns st) f k o = record { machine = o.machine; comes = o.comes; there = o.there; output = o.output; mode = o.mode; pay = o.pay; within = o.within }

  -- One computation behind another

  pub then_runs : (round : Round) (mid at top : ℕ) (s : ℕ → ℕ) (c : Machine) (rest : Computation (Unit {0})) (r : Result (Unit {0})) → Outcome p round mid top s c r →
      ((turns : ℕ) (st : State) (a : Arrives p round.work top s c mid top st) → Outcome p round at top s a.machine (rest turns st)) →
      Outcome p round at top s c (continue_either_way (λ done. rest) ends r)
  unfolding continue_either_way ends
  then_runs round mid at top s c rest (normal u turns st) o k = before round at top s c o.machine (rest turns st) o.comes (k turns st o)
  then_runs round mid at top s c rest (ended e turns st) o k = o
  then_runs round mid at top s c rest (out_of_turns st) o k = o
