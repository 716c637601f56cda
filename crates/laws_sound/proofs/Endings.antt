-- How a statement that is well typed may end where it stands: in a procedure, or in iterators that loops have called.
use Rattle.std.proofs.Common.{◌≡◌, Bool, true, false, List}
use Rattle.clu_layout.specs.Objects.{Routine, Object, Cell, own_types}
use Rattle.clu_layout.specs.SameType.{all_fit}
use Rattle.clu_meaning.specs.Programs.{Statements, Program}
use Rattle.clu_meaning.specs.Computations.{Ending, broken, continued, returned, signalled, raised, exited, through, wrong, Computation, gives, ends}
use Rattle.clu_meaning.specs.Binding.{outward}
use Rattle.clu_meaning.specs.Calls.{Round, in_procedure, in_iterator, here, Level}
use Rattle.clu_meaning.specs.Typed.{EndingFits}
use Rattle.clu_meaning.proofs.TypedFacts.{ending_on}
use Rattle.clu_meaning.proofs.TypedFine.{Fine}
use Rattle.laws_sound.specs.Raises.{Takes}
use Rattle.laws_sound.specs.WellTyped.{Site, Bind, AllWellTyped}
use Rattle.laws_sound.proofs.Safe.{Sound, sound_as, sound_gives, sound_ends}
use Rattle.laws_sound.proofs.Moves.{OnlyRaises}
use Rattle.laws_sound.proofs.Handing.{TextFits}
use Rattle.laws_sound.proofs.Calling.{Done, raises_of, results_of}

-- where the bodies of the for statements stand that have called the running iterators, the innermost first
pub data Nest : Type 0 where
  no_loop : Nest
  loop_at : Site → Nest → Nest

-- what a loop's body ended with, as it passes the iterator: not continue, at which the iterator goes on
abbrev pub Passed : Ending → Type 0 → Type 0
Passed broken X = Unit {0}
Passed continued X = ⊥
Passed e X = X

abbrev pub Returned : Round → Bool → List Object → Type 0
Returned (in_procedure r) may os = (may ≡ true) × (all_fit (own_types os) (results_of r) ≡ true)
Returned (in_iterator r body declared xs caller) may os = may ≡ true

abbrev pub Through : Round → Nest → (Round → Nest → Site → Type 0) → Ending → Type 0
Through (in_iterator r body declared xs caller) (loop_at q n) P e = Passed e (P caller n q)
Through _ _ P e = ⊥

abbrev pub Permits : Ending → Round → Nest → Site → Type 0
Permits broken round nest p = p.in_loop ≡ true
Permits continued round nest p = p.in_loop ≡ true
Permits (returned os) round nest p = Returned round p.may_end os
Permits (signalled name os) round nest p = (p.may_end ≡ true) × Takes (raises_of (here round)) name os × TextFits name os
Permits (raised name os) round nest p = Takes p.raises name os
Permits (exited name os) round nest p = Takes p.exits name os
Permits (through e) round nest p = Through round nest (λ caller n q. Permits e caller n q) e
Permits wrong round nest p = ⊥

module _ (program : Program) (lawful : Routine → Type 0) where
  -- each routine of the nest is the program's, and each loop's body is well typed where it stands
  abbrev pub RoundTyped : Round → Nest → Type 0
  RoundTyped (in_procedure r) no_loop = Fine program r × (r.definition.is_iterator ≡ false)
  RoundTyped (in_iterator r body declared xs caller) (loop_at q n) = Fine program r × (r.definition.is_iterator ≡ true) × RoundTyped caller n × AllWellTyped program lawful (here caller) q body ×
      Bind program lawful (here caller) xs (outward r.given r.definition.results)
  RoundTyped _ _ = ⊥

  pub fine_of : (round : Round) (nest : Nest) → RoundTyped round nest → Fine program (here round)
  fine_of (in_procedure r) no_loop h = h.0
  fine_of (in_iterator r body declared xs caller) (loop_at q n) h = h.0
  fine_of (in_procedure r) (loop_at q n) h = absurd h
  fine_of (in_iterator r body declared xs caller) no_loop h = absurd h

  module _ (round : Round) (nest : Nest) where
    abbrev pub Ends : Site → List Cell → Ending → Type 0
    Ends p cells e = EndingFits program lawful cells e × Permits e round nest p

    abbrev pub Goes : Site → List Cell → Computation (Unit {0}) → Type 0
    Goes p base m = Sound program lawful round base Done (Ends p) m

    raised_end : (p : Site) (cells : List Cell) (e : Ending) → OnlyRaises program lawful p.raises cells e → Ends p cells e
    raised_end p cells (raised name os) h = h
    raised_end p cells _ h = absurd h.1

    pub of_objects : {A : Type 0} (P : List Cell → A → Type 0) (p : Site) (base : List Cell) (m : Computation A) → Sound program lawful round base P (OnlyRaises program lawful p.raises) m → Sound program lawful round base P (Ends p) m
    of_objects P p base m h = sound_as program lawful round base P P (OnlyRaises program lawful p.raises) (Ends p) m (λ cells a k. k) (raised_end p) h

    pub end_on : (p : Site) (base : List Cell) (e : Ending) → Ends p base e → Goes p base (ends e)
    end_on p base e h = sound_ends program lawful round base Done (Ends p) e (λ cells l. (ending_on program lawful base cells l e h.0, h.1))

    pub done : (p : Site) (base : List Cell) → Goes p base (gives tt)
    done p base = sound_gives program lawful round base Done (Ends p) tt (λ cells l. tt)

  -- the level below goes as well as statements are typed
  pub record LevelGoes (low : Level) : Type 0 where
    pub at : (round : Round) (nest : Nest) → RoundTyped round nest → (p : Site) (ss : Statements) → AllWellTyped program lawful (here round) p ss → (base : List Cell) → Goes round nest p base (low round ss)
