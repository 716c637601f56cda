-- For statements, and what the text of a routine that is called leaves it with.
use Rattle.std.proofs.Common.{◌≡◌, ℕ, Bool, true, false, List, Some, refl, sym, ap, subst}
use Rattle.std.specs.Prelude.{not}
use Rattle.std.proofs.lemmas.Bool.{false≢true, true≢false}
use Rattle.clu_base.proofs.Lists.{same_bytes}
use Rattle.clu_types.specs.CluType.{CluType, proc_of, iter_of, CluTypes, no_types, Signals, no_signals}
use Rattle.clu_types.specs.Included.{AreAmong}
use Rattle.clu_layout.specs.Objects.{Routine, Object, Cell, own_types}
use Rattle.clu_layout.specs.SameType.{all_fit}
use Rattle.clu_meaning.specs.Programs.{Variable, Statements, ClusterDefinition, Program}
use Rattle.clu_meaning.specs.Computations.{Ending, broken, continued, returned, signalled, raised, exited, through, wrong, needed}
use Rattle.clu_meaning.specs.Unhandled.{failure}
use Rattle.clu_meaning.specs.Binding.{Running, outward, types_of_formals}
use Rattle.clu_meaning.specs.Operations.{signals_of, routine_type, heading_of, headed, defined}
use Rattle.clu_meaning.specs.Calls.{Round, in_procedure, in_iterator, here, Level, setting_up, iterates, executes, calls}
use Rattle.clu_meaning.specs.Typed.{AllTyped, EndingFits}
use Rattle.clu_meaning.proofs.TypedFacts.{all_on}
use Rattle.clu_meaning.proofs.TypedFine.{Fine, fine_defined, set_up_fine}
use Rattle.laws_sound.specs.Raises.{Raise, Takes, raised_by}
use Rattle.laws_sound.specs.WellTyped.{Site, Bind, Calls, AllWellTyped}
use Rattle.laws_sound.specs.Sound.{FailsWithText, outermost, RoutineWellTyped, ProgramWellTyped}
use Rattle.laws_sound.proofs.Safe.{Sound, sound_as, sound_needed, AreOf}
use Rattle.laws_sound.proofs.Moves.{OnlyRaises}
use Rattle.laws_sound.proofs.Transitive.{trans_all}
use Rattle.laws_sound.proofs.Evaluating.{fewer_covered}
use Rattle.laws_sound.proofs.Handing.{TextFits}
use Rattle.laws_sound.proofs.Calling.{Done, raises_of, results_of, Leaves, SetsUpWell, sound_executes, sound_calls}
use Rattle.laws_sound.proofs.Endings.{Nest, no_loop, loop_at, Permits, RoundTyped, Ends, Goes, LevelGoes}
use Rattle.laws_sound.proofs.Iterating.{is_own, IterEnds, sound_iterates}
use Rattle.laws_sound.proofs.TextHeadings.{callee_of}

text_fits : (raises : List Raise) → FailsWithText raises → (name : List ℕ) (os : List Object) → Takes raises name os → TextFits name os
text_fits raises text name os t = λ is. text os (subst (λ n. Takes raises n os) (same_bytes name failure is) t)

-- what a heading is
pub record IsProc (r : Running) (args results : CluTypes) (ss : Signals) : Type 0 where
  pub plain : r.definition.is_iterator ≡ false
  pub formals : outward r.given (types_of_formals r.definition.formals) ≡ args
  pub given : results_of r ≡ results
  pub signals : signals_of r.given r.definition.signals ≡ ss

pub record IsIter (r : Running) (args results : CluTypes) (ss : Signals) : Type 0 where
  pub plain : r.definition.is_iterator ≡ true
  pub formals : outward r.given (types_of_formals r.definition.formals) ≡ args
  pub given : results_of r ≡ results
  pub signals : signals_of r.given r.definition.signals ≡ ss

abbrev pub is_proc : CluType → Bool
is_proc (proc_of args results ss) = true
is_proc _ = false

abbrev pub arguments_in : CluType → CluTypes
arguments_in (proc_of args results ss) = args
arguments_in (iter_of args results ss) = args
arguments_in _ = no_types

abbrev pub results_in : CluType → CluTypes
results_in (proc_of args results ss) = results
results_in (iter_of args results ss) = results
results_in _ = no_types

abbrev pub signals_in : CluType → Signals
signals_in (proc_of args results ss) = ss
signals_in (iter_of args results ss) = ss
signals_in _ = no_signals

proc_by : (r : Running) (args results : CluTypes) (ss : Signals) (b : Bool) → r.definition.is_iterator ≡ b → routine_type b (outward r.given (types_of_formals r.definition.formals)) (results_of r) (signals_of r.given r.definition.signals) ≡ proc_of args results ss → IsProc r args results ss
proc_by r args results ss true is e = absurd (false≢true (ap is_proc e))
proc_by r args results ss false is e = record { plain = is; formals = ap arguments_in e; given = ap results_in e; signals = ap signals_in e }

pub proc_is : (r : Running) (args results : CluTypes) (ss : Signals) → heading_of r ≡ proc_of args results ss → IsProc r args results ss
proc_is r args results ss e = proc_by r args results ss r.definition.is_iterator refl e

iter_by : (r : Running) (args results : CluTypes) (ss : Signals) (b : Bool) → r.definition.is_iterator ≡ b → routine_type b (outward r.given (types_of_formals r.definition.formals)) (results_of r) (signals_of r.given r.definition.signals) ≡ iter_of args results ss → IsIter r args results ss
iter_by r args results ss false is e = absurd (true≢false (ap is_proc e))
iter_by r args results ss true is e = record { plain = is; formals = ap arguments_in e; given = ap results_in e; signals = ap signals_in e }

pub iter_is : (r : Running) (args results : CluTypes) (ss : Signals) → heading_of r ≡ iter_of args results ss → IsIter r args results ss
iter_is r args results ss e = iter_by r args results ss r.definition.is_iterator refl e

module _ (program : Program) (lawful : Routine → Type 0) where
  -- ---- what a text leaves its routine with

  set_up_end : (r : Running) (raises : List Raise) → FailsWithText raises → (cells : List Cell) (e : Ending) → Ends program lawful (in_procedure r) no_loop (outermost false raises) cells e → SetsUpWell program lawful cells e
  set_up_end r raises text cells (raised name os) h = (h.0, text_fits raises text name os h.1)
  set_up_end r raises text cells (returned os) h = absurd (false≢true h.1.0)
  set_up_end r raises text cells (signalled name os) h = absurd (false≢true h.1.0)
  set_up_end r raises text cells broken h = absurd (false≢true h.1)
  set_up_end r raises text cells continued h = absurd (false≢true h.1)
  set_up_end r raises text cells (exited name os) h = absurd h.1
  set_up_end r raises text cells (through e) h = absurd h.1
  set_up_end r raises text cells wrong h = absurd h.1

  procedure_end : (r : Running) (b : Bool) (raises : List Raise) → FailsWithText raises → (cells : List Cell) (e : Ending) → Ends program lawful (in_procedure r) no_loop (outermost b raises) cells e → Leaves program lawful r cells e
  procedure_end r b raises text cells (raised name os) h = (h.0, text_fits raises text name os h.1)
  procedure_end r b raises text cells (returned os) h = (h.0, h.1.1)
  procedure_end r b raises text cells (signalled name os) h = (h.0, (h.1.1, h.1.2))
  procedure_end r b raises text cells broken h = absurd (false≢true h.1)
  procedure_end r b raises text cells continued h = absurd (false≢true h.1)
  procedure_end r b raises text cells (exited name os) h = absurd h.1
  procedure_end r b raises text cells (through e) h = absurd h.1
  procedure_end r b raises text cells wrong h = absurd h.1

  module _ (r : Running) (body : Statements) (declared : ℕ) (xs : List Variable) (caller : Round) (q : Site) (n : Nest) where
    abbrev QB : List Cell → Ending → Type 0
    QB cells e = Permits e caller n q

    abbrev Iterates : List Cell → Ending → Type 0
    Iterates = IterEnds program lawful QB (λ c x. x) (λ a b l x k. k) r

    iterator_end : (b : Bool) (raises : List Raise) → FailsWithText raises → (cells : List Cell) (e : Ending) → Ends program lawful (in_iterator r body declared xs caller) (loop_at q n) (outermost b raises) cells e → Iterates cells e
    iterator_end b raises text cells (raised name os) h = (h.0, text_fits raises text name os h.1)
    iterator_end b raises text cells (returned os) h = (h.0, tt)
    iterator_end b raises text cells (signalled name os) h = (h.0, h.1.1)
    iterator_end b raises text cells broken h = absurd (false≢true h.1)
    iterator_end b raises text cells continued h = absurd (false≢true h.1)
    iterator_end b raises text cells (exited name os) h = absurd h.1
    iterator_end b raises text cells (through broken) h = h
    iterator_end b raises text cells (through continued) h = h
    iterator_end b raises text cells (through (returned os)) h = h
    iterator_end b raises text cells (through (signalled name os)) h = h
    iterator_end b raises text cells (through (raised name os)) h = h
    iterator_end b raises text cells (through (exited name os)) h = h
    iterator_end b raises text cells (through (through e)) h = h
    iterator_end b raises text cells (through wrong) h = h
    iterator_end b raises text cells wrong h = absurd h.1

  -- ---- the set-up of the cluster's own variables

  module _ (low : Level) (lows : LevelGoes program lawful low) where
    shared_sets : (r : Running) → Fine program r → RoutineWellTyped program lawful r → (cluster : ClusterDefinition) → r.home ≡ Some cluster → (cells : List Cell) →
        Sound program lawful (in_procedure (setting_up r cluster)) cells Done (SetsUpWell program lawful) (low (in_procedure (setting_up r cluster)) cluster.set_up)
    shared_sets r fine typed cluster e cells =
        let s = typed.shared cluster e in
        sound_as program lawful (in_procedure (setting_up r cluster)) cells Done Done (Ends program lawful (in_procedure (setting_up r cluster)) no_loop (outermost false s.raises)) (SetsUpWell program lawful) _ (λ c a k. k)
        (set_up_end (setting_up r cluster) s.raises s.text)
        (lows.at (in_procedure (setting_up r cluster)) no_loop (set_up_fine program r cluster e fine.home, refl) (outermost false s.raises) cluster.set_up s.body cells)

    -- ---- a call of a procedure

    pub procedure_executes : (r : Running) → Fine program r → RoutineWellTyped program lawful r → r.definition.is_iterator ≡ false → (base : List Cell) (os : List Object) → AllTyped program lawful base os →
        all_fit (own_types os) (outward r.given (types_of_formals r.definition.formals)) ≡ true → Sound program lawful (in_procedure r) base Done (Leaves program lawful r) (executes low (in_procedure r) os)
    procedure_executes r fine typed plain base os h fit =
        let place : Round = in_procedure r in
        let there : RoundTyped program lawful place no_loop = (fine, plain) in
        sound_executes program lawful low place fine (Leaves program lawful r) (λ b c xs t f. (t, λ e. f)) (shared_sets r fine typed)
        (λ c. sound_as program lawful place c Done Done (Ends program lawful place no_loop (outermost false typed.raises)) (Leaves program lawful r) _ (λ d a k. k) (procedure_end r false typed.raises typed.text)
        (lows.at place no_loop there (outermost false typed.raises) r.definition.set_up typed.set_up c))
        (λ c. sound_as program lawful place c Done Done (Ends program lawful place no_loop (outermost true typed.raises)) (Leaves program lawful r) _ (λ d a k. k) (procedure_end r true typed.raises typed.text)
        (lows.at place no_loop there (outermost true typed.raises) r.definition.body typed.body c))
        base os h fit

    pub sound_procedure : (r : Running) → Fine program r → RoutineWellTyped program lawful r → (args results : CluTypes) (ss : Signals) → IsProc r args results ss → (round : Round) (base : List Cell) (os : List Object) → AllTyped program lawful base os → all_fit (own_types os) args ≡ true →
        Sound program lawful round base (AreOf program lawful results) (OnlyRaises program lawful (raised_by ss)) (calls low r os)
    sound_procedure r fine typed args results ss is round base os h fit = sound_as program lawful round base (AreOf program lawful (results_of r)) (AreOf program lawful results) (OnlyRaises program lawful (raises_of r)) (OnlyRaises program lawful (raised_by ss)) _
        (λ cells given k. (k.0, subst (λ ts. all_fit (own_types given) ts ≡ true) is.given k.1)) (λ cells e k. subst (λ s. OnlyRaises program lawful (raised_by s) cells e) is.signals k)
        (sound_calls program lawful round r low base os (ap not is.plain) (λ cells l. procedure_executes r fine typed is.plain cells os (all_on program lawful base cells l os h)
        (subst (λ ts. all_fit (own_types os) ts ≡ true) (sym is.formals) fit)))

  -- ---- a for statement

  module _ (whole : ProgramWellTyped program lawful) (low : Level) (lows : LevelGoes program lawful low) (round : Round) (nest : Nest) (stands : RoundTyped program lawful round nest) (p : Site) where
    passed_on : (cells : List Cell) (e : Ending) → EndingFits program lawful cells e → Permits e round nest (record p { in_loop = true }) → is_own e ≡ false → Ends program lawful round nest p cells e
    passed_on cells (returned os) f h own = (f, h)
    passed_on cells (signalled name os) f h own = (f, h)
    passed_on cells (raised name os) f h own = (f, h)
    passed_on cells (exited name os) f h own = (f, h)
    passed_on cells (through e) f h own = (f, h)
    passed_on cells broken f h own = absurd (true≢false own)
    passed_on cells continued f h own = absurd (true≢false own)
    passed_on cells wrong f h own = absurd h

    pub sound_for : (declared : ℕ) (xs : List Variable) (body : Statements) (args ts : CluTypes) (few ss : Signals) (us : CluTypes) (r : Routine) → headed program r ≡ Some (iter_of args ts few) → lawful r → AreAmong few ss → Calls program lawful (here round) p.raises args us ss →
        Bind program lawful (here round) xs ts → AllWellTyped program lawful (here round) (record p { in_loop = true }) body → (base : List Cell) (os : List Object) → AreOf program lawful us base os →
        Goes program lawful round nest p base (needed (defined program r) (λ callee. iterates low callee os body declared xs round))
    sound_for declared xs body args ts few ss us r heading law among c b hb base os h =
        let found = callee_of program r args ts few heading in
        let callee : Running = found.callee in
        let is = iter_is callee args ts few found.is in
        let fine = fine_defined program whole.headings r callee found.there in
        let typed = whole.routines r callee found.there law in
        let q : Site = record p { in_loop = true } in
        let place : Round = in_iterator callee body declared xs round in
        let there : RoundTyped program lawful place (loop_at q nest) = (fine, is.plain, stands, hb, subst (Bind program lawful (here round) xs) (sym is.given) b) in
        let covered = fewer_covered few ss p.raises among c.raises in
        let Q : List Cell → Ending → Type 0 = Iterates callee body declared xs round q nest in
        sound_needed program lawful round base Done (Ends program lawful round nest p) (defined program r) _ callee found.there
        (sound_iterates program lawful (QB callee body declared xs round q nest) (λ cells x. x) (λ a d l x k. k) low callee body declared xs round (Ends program lawful round nest p)
        (λ cells name objects t k. (t, covered.at name objects (subst (λ s. Takes (raised_by s) name objects) is.signals k)))
        (λ cells e f k own. passed_on cells e f k own) base os is.plain (λ cells l.
        sound_executes program lawful low place fine Q (λ d e objects t f. (t, λ same. f)) (shared_sets low lows callee fine typed)
        (λ d. sound_as program lawful place d Done Done (Ends program lawful place (loop_at q nest) (outermost false typed.raises)) Q _ (λ e a k. k) (iterator_end callee body declared xs round q nest false typed.raises typed.text)
        (lows.at place (loop_at q nest) there (outermost false typed.raises) callee.definition.set_up typed.set_up d))
        (λ d. sound_as program lawful place d Done Done (Ends program lawful place (loop_at q nest) (outermost true typed.raises)) Q _ (λ e a k. k) (iterator_end callee body declared xs round q nest true typed.raises typed.text)
        (lows.at place (loop_at q nest) there (outermost true typed.raises) callee.definition.body typed.body d))
        cells os (all_on program lawful base cells l os h.0) (subst (λ vs. all_fit (own_types os) vs ≡ true) (sym is.formals) (trans_all (own_types os) us args h.1 c.fit))))
