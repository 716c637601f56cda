-- What computations are put together from keeps that more turns only go on, and that output and meters grow.
use Rattle.std.proofs.Common.{◌≡◌, ℕ, zero, suc, ◌+◌, Bool, true, false, List, [], ◌∷◌, ◌++◌, Option, None, Some, refl, sym, ap, ◌∙◌, subst, arith, append_assoc, append-nil, ◌<◌, ◌≤◌}
use Rattle.clu_layout.specs.Objects.{Object, bool_object, routine_object, Routine}
use Rattle.clu_layout.specs.Actions.{World, Action}
use Rattle.clu_layout.specs.Actions as layout
use Rattle.clu_layout.specs.Primitive.{done_in}
use Rattle.clu_layout.proofs.Laws.{done_later, EndsLater}
use Rattle.clu_layout.proofs.Laws as layout_laws
use Rattle.clu_meaning.specs.State.{Instance, Frame, Owns, Stack, State, deeper, entered, as_before}
use Rattle.clu_meaning.specs.Computations.{Ending, Result, normal, ended, out_of_turns, Computation, gives, ends, continue_with, and_then, continue_either_way, either_way, spends_a_turn, need, needed, with_one, with_bool, with_routine, either, if_there, sees_frame, sees_world, sees_owns, sees_stack, with_frame, with_owns, enters, goes_deeper, leaves, counts, takes, traced, raises, outcome, does}
use Rattle.clu_meaning.specs.More.{Later, state_of, turns_of, GoesOn}

-- ---- Later

pub later_same : (st : State) → Later st st
later_same st = record { more = []; output = sym (append-nil st.world.output); words = omega arith; work = omega arith; most = omega arith }

pub later_then : (a b c : State) → Later a b → Later b c → Later a c
later_then a b c l m = record {
  more = l.more ++ m.more;
  output = m.output ∙ ap (λ (bytes : List ℕ). bytes ++ m.more) l.output ∙ append_assoc a.world.output l.more m.more;
  words = omega (arith, l.words, m.words);
  work = omega (arith, l.work, m.work);
  most = omega (arith, l.most, m.most);
}

-- ---- the law: with k turns more the second computation goes on from the first; with fewer than b turns they are the same;
-- and the second only adds to output and meters, and gets no turns

pub record Goes {A : Type 0} (k b : ℕ) (m more : Computation A) : Type 0 where
  pub follows : (turns : ℕ) (st : State) → GoesOn k (m turns st) (more (turns + k) st)
  pub grows : (turns : ℕ) (st : State) → Later st (state_of (more turns st))
  pub same : (turns : ℕ) → turns < b → (st : State) → m turns st ≡ more turns st
  pub fewer : (turns : ℕ) (st : State) → turns_of (more turns st) ≤ turns

pub goes_sooner : {A : Type 0} {k b : ℕ} {m m' : Computation A} → Goes k (suc b) m m' → Goes k b m m'
goes_sooner g = record { follows = g.follows; grows = g.grows; same = λ turns l st. g.same turns (omega (arith, l)) st; fewer = g.fewer }

-- ---- results

pub goes_gives : {A : Type 0} {k b : ℕ} (a : A) → Goes k b (gives a) (gives a)
unfolding gives
goes_gives a = record { follows = λ turns st. refl; grows = λ turns st. later_same st; same = λ turns l st. refl; fewer = λ turns st. omega arith }

pub goes_ends : {A : Type 0} {k b : ℕ} (e : Ending) → Goes {A = A} k b (ends e) (ends e)
unfolding ends
goes_ends e = record { follows = λ turns st. refl; grows = λ turns st. later_same st; same = λ turns l st. refl; fewer = λ turns st. omega arith }

continued_grows : {A B : Type 0} (f : A → Computation B) (r : Result A) (st : State) → Later st (state_of r) →
    ((a : A) (turns : ℕ) (now : State) → Later now (state_of (f a turns now))) → Later st (state_of (continue_with f r))
unfolding continue_with
continued_grows f (normal a turns now) st l g = later_then st now (state_of (f a turns now)) l (g a turns now)
continued_grows f (ended e turns now) st l g = l
continued_grows f (out_of_turns now) st l g = l

continued_follows : {A B : Type 0} (k b : ℕ) (f f' : A → Computation B) (r more : Result A) → GoesOn k r more →
    ((a : A) → Goes k b (f a) (f' a)) → GoesOn k (continue_with f r) (continue_with f' more)
unfolding continue_with
continued_follows k b f f' (normal a turns st) more e g = subst (λ x. GoesOn k (f a turns st) (continue_with f' x)) (sym e) ((g a).follows turns st)
continued_follows k b f f' (ended e turns st) more h g = ap (continue_with f') h
continued_follows k b f f' (out_of_turns st) more l g = continued_grows f' more st l (λ a turns now. (g a).grows turns now)

continued_same : {A B : Type 0} (k b : ℕ) (f f' : A → Computation B) (r : Result A) → turns_of r < b → ((a : A) → Goes k b (f a) (f' a)) →
    continue_with f r ≡ continue_with f' r
unfolding continue_with
continued_same k b f f' (normal a turns st) l g = (g a).same turns l st
continued_same k b f f' (ended e turns st) l g = refl
continued_same k b f f' (out_of_turns st) l g = refl

continued_fewer : {A B : Type 0} (f : A → Computation B) (r : Result A) (n : ℕ) → turns_of r ≤ n →
    ((a : A) (turns : ℕ) (now : State) → turns_of (f a turns now) ≤ turns) → turns_of (continue_with f r) ≤ n
unfolding continue_with
continued_fewer f (normal a turns st) n l g = omega (arith, l, g a turns st)
continued_fewer f (ended e turns st) n l g = l
continued_fewer f (out_of_turns st) n l g = omega arith

pub goes_and_then : {A B : Type 0} {k b : ℕ} {m m' : Computation A} {f f' : A → Computation B} → Goes k b m m' → ((a : A) → Goes k b (f a) (f' a)) →
    Goes k b (and_then m f) (and_then m' f')
unfolding and_then
goes_and_then {k = k} {b = b} {m = m} {m' = m'} {f = f} {f' = f'} g h = record {
  follows = λ turns st. continued_follows k b f f' (m turns st) (m' (turns + k) st) (g.follows turns st) h;
  grows = λ turns st. continued_grows f' (m' turns st) st (g.grows turns st) (λ a. (h a).grows);
  same = λ turns l st. ap (continue_with f) (g.same turns l st) ∙ continued_same k b f f' (m' turns st) (omega (arith, l, g.fewer turns st)) h;
  fewer = λ turns st. continued_fewer f' (m' turns st) turns (g.fewer turns st) (λ a. (h a).fewer);
}

either_grows : {A B : Type 0} (f : A → Computation B) (u : Ending → Computation B) (r : Result A) (st : State) → Later st (state_of r) →
    ((a : A) (turns : ℕ) (now : State) → Later now (state_of (f a turns now))) → ((e : Ending) (turns : ℕ) (now : State) → Later now (state_of (u e turns now))) →
    Later st (state_of (continue_either_way f u r))
unfolding continue_either_way
either_grows f u (normal a turns now) st l g h = later_then st now (state_of (f a turns now)) l (g a turns now)
either_grows f u (ended e turns now) st l g h = later_then st now (state_of (u e turns now)) l (h e turns now)
either_grows f u (out_of_turns now) st l g h = l

either_follows : {A B : Type 0} (k b : ℕ) (f f' : A → Computation B) (u u' : Ending → Computation B) (r more : Result A) → GoesOn k r more →
    ((a : A) → Goes k b (f a) (f' a)) → ((e : Ending) → Goes k b (u e) (u' e)) → GoesOn k (continue_either_way f u r) (continue_either_way f' u' more)
unfolding continue_either_way
either_follows k b f f' u u' (normal a turns st) more e g h = subst (λ x. GoesOn k (f a turns st) (continue_either_way f' u' x)) (sym e) ((g a).follows turns st)
either_follows k b f f' u u' (ended x turns st) more e g h = subst (λ y. GoesOn k (u x turns st) (continue_either_way f' u' y)) (sym e) ((h x).follows turns st)
either_follows k b f f' u u' (out_of_turns st) more l g h = either_grows f' u' more st l (λ a. (g a).grows) (λ e. (h e).grows)

either_same : {A B : Type 0} (k b : ℕ) (f f' : A → Computation B) (u u' : Ending → Computation B) (r : Result A) → turns_of r < b →
    ((a : A) → Goes k b (f a) (f' a)) → ((e : Ending) → Goes k b (u e) (u' e)) → continue_either_way f u r ≡ continue_either_way f' u' r
unfolding continue_either_way
either_same k b f f' u u' (normal a turns st) l g h = (g a).same turns l st
either_same k b f f' u u' (ended e turns st) l g h = (h e).same turns l st
either_same k b f f' u u' (out_of_turns st) l g h = refl

either_fewer : {A B : Type 0} (f : A → Computation B) (u : Ending → Computation B) (r : Result A) (n : ℕ) → turns_of r ≤ n →
    ((a : A) (turns : ℕ) (now : State) → turns_of (f a turns now) ≤ turns) → ((e : Ending) (turns : ℕ) (now : State) → turns_of (u e turns now) ≤ turns) →
    turns_of (continue_either_way f u r) ≤ n
unfolding continue_either_way
either_fewer f u (normal a turns st) n l g h = omega (arith, l, g a turns st)
either_fewer f u (ended e turns st) n l g h = omega (arith, l, h e turns st)
either_fewer f u (out_of_turns st) n l g h = omega arith

pub goes_either_way : {A B : Type 0} {k b : ℕ} {m m' : Computation A} {f f' : A → Computation B} {u u' : Ending → Computation B} → Goes k b m m' →
    ((a : A) → Goes k b (f a) (f' a)) → ((e : Ending) → Goes k b (u e) (u' e)) → Goes k b (either_way m f u) (either_way m' f' u')
unfolding either_way
goes_either_way {k = k} {b = b} {m = m} {m' = m'} {f = f} {f' = f'} {u = u} {u' = u'} g h i = record {
  follows = λ turns st. either_follows k b f f' u u' (m turns st) (m' (turns + k) st) (g.follows turns st) h i;
  grows = λ turns st. either_grows f' u' (m' turns st) st (g.grows turns st) (λ a. (h a).grows) (λ e. (i e).grows);
  same = λ turns l st. ap (continue_either_way f u) (g.same turns l st) ∙ either_same k b f f' u u' (m' turns st) (omega (arith, l, g.fewer turns st)) h i;
  fewer = λ turns st. either_fewer f' u' (m' turns st) turns (g.fewer turns st) (λ a. (h a).fewer) (λ e. (i e).fewer);
}

-- ---- turns

spent_grows : {A : Type 0} (k b : ℕ) (m m' : Computation A) → Goes k b m m' → (turns : ℕ) (st : State) → Later st (state_of (spends_a_turn m' turns st))
unfolding spends_a_turn
spent_grows k b m m' g zero st = later_same st
spent_grows k b m m' g (suc turns) st = g.grows turns st

spent_follows : {A : Type 0} (k b : ℕ) (m m' : Computation A) → Goes k b m m' → (turns : ℕ) (st : State) → GoesOn k (spends_a_turn m turns st) (spends_a_turn m' (turns + k) st)
unfolding spends_a_turn
spent_follows k b m m' g zero st = spent_grows k b m m' g (zero + k) st
spent_follows k b m m' g (suc turns) st =
    let e : suc (turns + k) ≡ suc turns + k = omega arith in
    subst (λ n. GoesOn k (m turns st) (spends_a_turn m' n st)) e (g.follows turns st)

spent_same : {A : Type 0} (k b : ℕ) (m m' : Computation A) → Goes k b m m' → (turns : ℕ) → turns < suc b → (st : State) → spends_a_turn m turns st ≡ spends_a_turn m' turns st
unfolding spends_a_turn
spent_same k b m m' g zero l st = refl
spent_same k b m m' g (suc turns) l st = g.same turns (omega (arith, l)) st

spent_fewer : {A : Type 0} (k b : ℕ) (m m' : Computation A) → Goes k b m m' → (turns : ℕ) (st : State) → turns_of (spends_a_turn m' turns st) ≤ turns
unfolding spends_a_turn
spent_fewer k b m m' g zero st = omega arith
spent_fewer k b m m' g (suc turns) st = omega (arith, g.fewer turns st)

pub goes_spends : {A : Type 0} {k b : ℕ} {m m' : Computation A} → Goes k b m m' → Goes k (suc b) (spends_a_turn m) (spends_a_turn m')
goes_spends {k = k} {b = b} {m = m} {m' = m'} g = record { follows = spent_follows k b m m' g; grows = spent_grows k b m m' g; same = spent_same k b m m' g; fewer = spent_fewer k b m m' g }

-- ---- cases

pub goes_need : {A : Type 0} {k b : ℕ} {m m' : Computation A} (test : Bool) → Goes k b m m' → Goes k b (need test m) (need test m')
unfolding need
goes_need true g = g
goes_need false g = goes_ends _

pub goes_needed : {A B : Type 0} {k b : ℕ} {f f' : A → Computation B} (o : Option A) → ((a : A) → Goes k b (f a) (f' a)) → Goes k b (needed o f) (needed o f')
unfolding needed
goes_needed (Some x) g = g x
goes_needed None g = goes_ends _

pub goes_with_one : {A : Type 0} {k b : ℕ} {f f' : Object → Computation A} (os : List Object) → ((o : Object) → Goes k b (f o) (f' o)) → Goes k b (with_one os f) (with_one os f')
unfolding with_one
goes_with_one (o ∷ []) g = g o
goes_with_one [] g = goes_ends _
goes_with_one (o ∷ x ∷ os) g = goes_ends _

pub goes_with_bool : {A : Type 0} {k b : ℕ} {f f' : Bool → Computation A} (o : Object) → ((c : Bool) → Goes k b (f c) (f' c)) → Goes k b (with_bool o f) (with_bool o f')
unfolding with_bool
goes_with_bool (bool_object c) g = g c
goes_with_bool _ g = goes_ends _

pub goes_with_routine : {A : Type 0} {k b : ℕ} {f f' : Routine → Computation A} (o : Object) → ((r : Routine) → Goes k b (f r) (f' r)) → Goes k b (with_routine o f) (with_routine o f')
unfolding with_routine
goes_with_routine (routine_object r heading) g = g r
goes_with_routine _ g = goes_ends _

pub goes_either : {A : Type 0} {k b : ℕ} {m m' n n' : Computation A} (test : Bool) → Goes k b m m' → Goes k b n n' → Goes k b (either test m n) (either test m' n')
unfolding either
goes_either true g h = g
goes_either false g h = h

pub goes_if_there : {A B : Type 0} {k b : ℕ} {f f' : A → Computation B} {n n' : Computation B} (o : Option A) → ((a : A) → Goes k b (f a) (f' a)) → Goes k b n n' →
    Goes k b (if_there o f n) (if_there o f' n')
unfolding if_there
goes_if_there (Some x) g h = g x
goes_if_there None g h = h

-- ---- what is seen and changed

pub goes_sees_frame : {A : Type 0} {k b : ℕ} {f f' : Frame → Computation A} → ((x : Frame) → Goes k b (f x) (f' x)) → Goes k b (sees_frame f) (sees_frame f')
unfolding sees_frame
goes_sees_frame g = record { follows = λ turns st. (g st.frame).follows turns st; grows = λ turns st. (g st.frame).grows turns st; same = λ turns l st. (g st.frame).same turns l st; fewer = λ turns st. (g st.frame).fewer turns st }

pub goes_sees_world : {A : Type 0} {k b : ℕ} {f f' : World → Computation A} → ((x : World) → Goes k b (f x) (f' x)) → Goes k b (sees_world f) (sees_world f')
unfolding sees_world
goes_sees_world g = record { follows = λ turns st. (g st.world).follows turns st; grows = λ turns st. (g st.world).grows turns st; same = λ turns l st. (g st.world).same turns l st; fewer = λ turns st. (g st.world).fewer turns st }

pub goes_sees_owns : {A : Type 0} {k b : ℕ} {f f' : Owns → Computation A} → ((x : Owns) → Goes k b (f x) (f' x)) → Goes k b (sees_owns f) (sees_owns f')
unfolding sees_owns
goes_sees_owns g = record { follows = λ turns st. (g st.owns).follows turns st; grows = λ turns st. (g st.owns).grows turns st; same = λ turns l st. (g st.owns).same turns l st; fewer = λ turns st. (g st.owns).fewer turns st }

pub goes_sees_stack : {A : Type 0} {k b : ℕ} {f f' : Stack → Computation A} → ((x : Stack) → Goes k b (f x) (f' x)) → Goes k b (sees_stack f) (sees_stack f')
unfolding sees_stack
goes_sees_stack g = record { follows = λ turns st. (g st.stack).follows turns st; grows = λ turns st. (g st.stack).grows turns st; same = λ turns l st. (g st.stack).same turns l st; fewer = λ turns st. (g st.stack).fewer turns st }

-- a change that comes before the rest, where the state is later by it
changed : {A : Type 0} (k b : ℕ) (m m' : Computation A) (change : State → State) → ((st : State) → Later st (change st)) → Goes k b m m' →
    Goes k b (λ turns st. m turns (change st)) (λ turns st. m' turns (change st))
changed k b m m' change l g = record {
  follows = λ turns st. g.follows turns (change st);
  grows = λ turns st. later_then st (change st) (state_of (m' turns (change st))) (l st) (g.grows turns (change st));
  same = λ turns few st. g.same turns few (change st);
  fewer = λ turns st. g.fewer turns (change st);
}

pub goes_with_frame : {A : Type 0} {k b : ℕ} {m m' : Computation A} (f : Frame → Frame) → Goes k b m m' → Goes k b (with_frame f m) (with_frame f m')
unfolding with_frame
goes_with_frame {k = k} {b = b} {m = m} {m' = m'} f g = changed k b m m' (λ st. record st { frame = f st.frame })
    (λ st. record { more = []; output = sym (append-nil st.world.output); words = omega arith; work = omega arith; most = omega arith }) g

pub goes_with_owns : {A : Type 0} {k b : ℕ} {m m' : Computation A} (f : Owns → Owns) → Goes k b m m' → Goes k b (with_owns f m) (with_owns f m')
unfolding with_owns
goes_with_owns {k = k} {b = b} {m = m} {m' = m'} f g = changed k b m m' (λ st. record st { owns = f st.owns })
    (λ st. record { more = []; output = sym (append-nil st.world.output); words = omega arith; work = omega arith; most = omega arith }) g

pub goes_enters : {A : Type 0} {k b : ℕ} {m m' : Computation A} (i : Instance) (n : ℕ) → Goes k b m m' → Goes k b (enters i n m) (enters i n m')
unfolding enters
goes_enters {k = k} {b = b} {m = m} {m' = m'} i n g = changed k b m m' (λ st. record st { stack = entered i n st.stack; world = record st.world { work = st.world.work + n } })
    (λ st. record { more = []; output = sym (append-nil st.world.output); words = omega arith; work = omega arith; most = omega arith }) g

pub goes_goes_deeper : {A : Type 0} {k b : ℕ} {m m' : Computation A} (n : ℕ) → Goes k b m m' → Goes k b (goes_deeper n m) (goes_deeper n m')
unfolding goes_deeper
goes_goes_deeper {k = k} {b = b} {m = m} {m' = m'} n g = changed k b m m' (λ st. record st { stack = deeper n st.stack })
    (λ st. record { more = []; output = sym (append-nil st.world.output); words = omega arith; work = omega arith; most = omega arith }) g

pub goes_leaves : {A : Type 0} {k b : ℕ} {m m' : Computation A} (saved : Stack) → Goes k b m m' → Goes k b (leaves saved m) (leaves saved m')
unfolding leaves
goes_leaves {k = k} {b = b} {m = m} {m' = m'} saved g = changed k b m m' (λ st. record st { stack = as_before saved st.stack })
    (λ st. record { more = []; output = sym (append-nil st.world.output); words = omega arith; work = omega arith; most = omega arith }) g

pub goes_counts : {A : Type 0} {k b : ℕ} {m m' : Computation A} (n : ℕ) → Goes k b m m' → Goes k b (counts n m) (counts n m')
unfolding counts
goes_counts {k = k} {b = b} {m = m} {m' = m'} n g = changed k b m m' (λ st. record st { world = record st.world { work = st.world.work + n } })
    (λ st. record { more = []; output = sym (append-nil st.world.output); words = omega arith; work = omega arith; most = omega arith }) g

pub goes_takes : {A : Type 0} {k b : ℕ} {m m' : Computation A} (n : ℕ) → Goes k b m m' → Goes k b (takes n m) (takes n m')
unfolding takes
goes_takes {k = k} {b = b} {m = m} {m' = m'} n g = changed k b m m' (λ st. record st { world = record st.world { words = st.world.words + n; work = st.world.work + n } })
    (λ st. record { more = []; output = sym (append-nil st.world.output); words = omega arith; work = omega arith; most = omega arith }) g

pub goes_traced : {A : Type 0} {k b : ℕ} {m m' : Computation A} → Goes k b m m' → Goes k b (traced m) (traced m')
unfolding traced
goes_traced {k = k} {b = b} {m = m} {m' = m'} g = changed k b m m' (λ st. record st { trace = st.stack.live })
    (λ st. record { more = []; output = sym (append-nil st.world.output); words = omega arith; work = omega arith; most = omega arith }) g

pub goes_raises : {A : Type 0} {k b : ℕ} (name : List ℕ) (os : List Object) → Goes {A = A} k b (raises name os) (raises name os)
goes_raises name os = goes_counts _ (goes_traced (goes_ends _))

-- ---- operations

world_later : (st : State) (w : World) → layout_laws.Later st.world w → Later st (record st { world = w })
world_later st w l = record { more = l.more; output = l.output; words = l.words; work = l.work; most = omega arith }

outcome_follows : (k : ℕ) (o : layout.Outcome) (turns : ℕ) (st : State) → GoesOn k (outcome o turns st) (outcome o (turns + k) st)
unfolding outcome
outcome_follows k (layout.returned os w) turns st = refl
outcome_follows k (layout.signalled name os w) turns st =
    (goes_raises {A = List Object} {k = k} {b = 0} name os).follows turns (record st { world = w })
outcome_follows k layout.wrong turns st = refl

outcome_grows : (o : layout.Outcome) (turns : ℕ) (st : State) → EndsLater st.world o → Later st (state_of (outcome o turns st))
unfolding outcome
outcome_grows (layout.returned os w) turns st l = world_later st w l
outcome_grows (layout.signalled name os w) turns st l =
    later_then st (record st { world = w }) (state_of (raises {A = List Object} name os turns (record st { world = w }))) (world_later st w l)
    ((goes_raises {A = List Object} {k = 0} {b = 0} name os).grows turns (record st { world = w }))
outcome_grows layout.wrong turns st l = later_same st

outcome_fewer : (o : layout.Outcome) (turns : ℕ) (st : State) → turns_of (outcome o turns st) ≤ turns
unfolding outcome
outcome_fewer (layout.returned os w) turns st = omega arith
outcome_fewer (layout.signalled name os w) turns st = (goes_raises {A = List Object} {k = 0} {b = 0} name os).fewer turns (record st { world = w })
outcome_fewer layout.wrong turns st = omega arith

pub goes_does : {k b : ℕ} (action : Action) → Goes k b (does action) (does action)
unfolding does
goes_does {k = k} {b = b} action = record {
  follows = λ turns st. outcome_follows k (done_in st.world action) turns st;
  grows = λ turns st. outcome_grows (done_in st.world action) turns st (done_later st.world action);
  same = λ turns l st. refl;
  fewer = λ turns st. outcome_fewer (done_in st.world action) turns st;
}
