-- What holds of every operation, whatever its objects: no byte of the output is taken away, no meter falls, and what is
-- given has the types of the heading.
use Rattle.std.proofs.Common.{◌≡◌, refl, ap, arith}
use Rattle.std.specs.Prelude.{ℕ, ◌+◌, ◌≤◌, Bool, true, false, List, [], ◌∷◌, ◌++◌, Option, Some, None}
use Rattle.clu_types.specs.CluType.{CluType, any_type, CluTypes}
use Rattle.clu_builtin.specs.Operation.{Operation}
use Rattle.clu_builtin.specs.Table.{operation}
use Rattle.clu_layout.specs.Objects.{Object, listed, inside, own_types}
use Rattle.clu_layout.specs.SameType.{all_fit}
use Rattle.clu_layout.specs.Actions.{World, Outcome, returned, signalled, wrong, Action, Primitive, need, needed, no_case, takes, counts, continued, and_then, gives_all}
use Rattle.clu_layout.specs.Primitive.{before, added, outcome_in, done_in, invoked, invocation, gives_results, may_be_arguments, words_for_all, primitive, prim, force, force_heading, force_invocation, forcing}

-- ---- output and meters

-- the output goes on from the earlier one, and no meter has fallen
pub record Later (a b : World) : Type 0 where
  pub more : List ℕ
  pub output : b.output ≡ a.output ++ more
  pub words : a.words ≤ b.words
  pub work : a.work ≤ b.work

abbrev pub EndsLater : World → Outcome → Type 0
EndsLater w (returned os v) = Later w v
EndsLater w (signalled name os v) = Later w v
EndsLater w wrong = Unit {0}

added_later : (w made : World) → Later w (added w made)
added_later w made = record { more = made.output; output = refl; words = omega arith; work = omega arith }

outcome_later : (w : World) (o : Outcome) → EndsLater w (outcome_in w o)
outcome_later w (returned os made) = added_later w made
outcome_later w (signalled name os made) = added_later w made
outcome_later w wrong = tt

-- of every action that is done in a world, constructors too
pub done_later : (w : World) (action : Action) → EndsLater w (done_in w action)
unfolding done_in
done_later w action = outcome_later w (action (before w))

pub prim_later : (T : CluType) (op : List ℕ) (os : List Object) (w : World) → EndsLater w (prim T op os w)
unfolding prim
prim_later T op os w = done_later w (invocation T op os)

pub force_later : (t : CluType) (os : List Object) (w : World) → EndsLater w (force t os w)
unfolding force
force_later t os w = done_later w (force_invocation t os)

-- ---- results

-- what is given has these types
abbrev pub GivesTypes : CluTypes → Outcome → Type 0
GivesTypes types (returned os v) = all_fit (own_types os) types ≡ true
GivesTypes types (signalled name os v) = Unit {0}
GivesTypes types wrong = Unit {0}

bound_types : (types : CluTypes) (os : List Object) (w : World) (b : Bool) → all_fit (own_types os) types ≡ b →
    GivesTypes types (need b (takes (words_for_all types) (gives_all os)) w)
unfolding need no_case takes gives_all
bound_types types os w true e = e
bound_types types os w false e = tt

continued_types : (types : CluTypes) (o : Outcome) → GivesTypes types (continued (gives_results types) o)
unfolding continued
continued_types types (returned os w) = bound_types types os w (all_fit (own_types os) types) refl
continued_types types (signalled name os w) = tt
continued_types types wrong = tt

needed_types : (types : CluTypes) (b : Bool) (rest : Action) → ((w : World) → GivesTypes types (rest w)) → (w : World) → GivesTypes types (need b rest w)
unfolding need no_case
needed_types types true rest h w = h w
needed_types types false rest h w = tt

invoked_types : (T : CluType) (heading : Operation) (p : Primitive) (os : List Object) (w : World) → GivesTypes heading.results (invoked T heading p os w)
unfolding need takes counts and_then
invoked_types T heading p os w = needed_types heading.results (may_be_arguments T (own_types os) heading.args)
    (takes (words_for_all heading.args) (counts 1 (and_then (p os) (gives_results heading.results))))
    (λ v. continued_types heading.results (p os (record v { words = v.words + words_for_all heading.args; work = (v.work + words_for_all heading.args) + 1 }))) w

outcome_types : (types : CluTypes) (w : World) (o : Outcome) → GivesTypes types o → GivesTypes types (outcome_in w o)
outcome_types types w (returned os v) h = h
outcome_types types w (signalled name os v) h = tt
outcome_types types w wrong h = tt

found_types : (T : CluType) (heading : Operation) (p : Option Primitive) (os : List Object) (w : World) →
    GivesTypes heading.results (needed p (λ q. invoked T heading q os) w)
unfolding needed no_case
found_types T heading None os w = tt
found_types T heading (Some p) os w = invoked_types T heading p os w

headed_types : (T : CluType) (op : List ℕ) (os : List Object) (w : World) (heading : Operation) (h : Option Operation) → h ≡ Some heading →
    GivesTypes heading.results (outcome_in w (needed h (λ found. needed (primitive T op) (λ p. invoked T found p os)) (before w)))
unfolding needed
headed_types T op os w heading h e = rw e
    (outcome_types heading.results w (needed (primitive T op) (λ p. invoked T heading p os) (before w))
    (found_types T heading (primitive T op) os (before w)))

-- each result is of the type that the heading says
pub prim_types : (T : CluType) (op : List ℕ) (os : List Object) (w : World) (heading : Operation) → operation T op ≡ Some heading →
    GivesTypes heading.results (prim T op os w)
unfolding prim done_in
prim_types T op os w heading e = headed_types T op os w heading (operation T op) e

pub force_types : (t : CluType) (os : List Object) (w : World) → GivesTypes (force_heading t).results (force t os w)
unfolding force done_in
force_types t os w = outcome_types (force_heading t).results w (force_invocation t os (before w))
    (invoked_types any_type (force_heading t) (forcing t) os (before w))

-- ---- sequences and structs

-- what was put inside a sequence or struct is listed again
pub listed_inside : (xs : List Object) → listed (inside xs) ≡ xs
listed_inside [] = refl
listed_inside (x ∷ xs) = ap (λ ys. x ∷ ys) (listed_inside xs)
