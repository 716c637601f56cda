-- What flattening promises of a routine's code and regions is all that its statements ask of the place where they stand.
use Rattle.std.proofs.Common.{◌≡◌, ℕ, zero, suc, true, List, [], ◌∷◌, length, is_some, Option, Some, None, slice_get, refl, ap, sym, arith, true≢false}
use Rattle.clu_base.proofs.Lists.{none_is_not}
use Rattle.clu_wir.specs.Adding.{Added}
use Rattle.clu_wir.specs.Formed.{Standing, has_arm, is_count}
use Rattle.clu_wir.specs.Plain.{Arms, Expr, Stmt, Stmts, arm_and, no_arms, no_stmts, stmt_and}
use Rattle.clu_wir.specs.Plain as plain
use Rattle.clu_frames.specs.declared.surroundings.Turns.{Turns}
use Rattle.clu_frames.specs.Plain.{Step}
use Rattle.clu_frames.specs.Flattening.{Guarding, Made, Round, all_onto, end_of_turns, end_uncut, exit_of, labelled, pushed, results_onto, row_onto, slots_of}
use Rattle.clu_frames.proofs.Pieces.{still_results, still_row}
use Rattle.clu_word_meaning.specs.Words.{Body, Entry}
use Rattle.clu_flat_meaning.proofs.Runs.{Once, front_same}
use Rattle.laws_frames.specs.Formed.{counts_in}
use Rattle.laws_frames.proofs.Relation.{Laws, Place}
use Rattle.laws_frames.proofs.Entering.{BodyOk, EntryOk}
use Rattle.laws_frames.proofs.Yielding.{context_of}
use Rattle.laws_frames.proofs.Fronts.{front_results, front_row}
use Rattle.laws_frames.proofs.Growing.{NoLabel, grows_still}
use Rattle.laws_frames.proofs.Standing.{Part, Stands, part_all, part_labels, part_less, part_list, part_push, part_still, part_then, stands_part}
use Rattle.laws_frames.proofs.Whole.{Leaving}

-- What stands round a statement, as well-formed word code asks it.

abbrev pub lengths : List (List ℕ) → List ℕ
lengths [] = []
lengths (slots ∷ more) = length slots ∷ lengths more

abbrev pub counts_round : List Guarding → List (List ℕ)
counts_round [] = []
counts_round (g ∷ gs) = lengths g.slots ∷ counts_round gs

abbrev pub standing : Round → Standing
standing round = record { constants = round.constants; in_loop = is_some round.turns; guards = counts_round round.guards }

pub same_counts : (arms : Arms) → lengths (slots_of arms) ≡ counts_in arms
same_counts no_arms = refl
same_counts (arm_and names others slots body more) = ap (λ (l : List ℕ). length slots ∷ l) (same_counts more)

slots_there : (all : List (List ℕ)) (arm count : ℕ) → is_count count (slice_get (lengths all) arm) ≡ true → (slots : List ℕ) × (slice_get all arm ≡ Some slots)
slots_there [] arm count e = absurd (true≢false (sym e))
slots_there (slots ∷ more) zero count e = (slots, refl)
slots_there (slots ∷ more) (suc arm) count e = slots_there more arm count e

pub arm_there : (gs : List Guarding) (inside arm count : ℕ) → has_arm arm count (slice_get (counts_round gs) inside) ≡ true → (g : Guarding) × (slots : List ℕ) × (slice_get gs inside ≡ Some g) × (slice_get g.slots arm ≡ Some slots)
arm_there [] inside arm count e = absurd (true≢false (sym e))
arm_there (g ∷ gs) zero arm count e = let k = slots_there g.slots arm count e in (g, k.0, refl, k.1)
arm_there (g ∷ gs) (suc inside) arm count e = arm_there gs inside arm count e

pub turns_there : (o : Option Turns) → is_some o ≡ true → (t : Turns) × (o ≡ Some t)
turns_there None e = absurd (true≢false (sym e))
turns_there (Some t) e = (t, refl)

-- What adds to all that is there.

abbrev pub Adds : Made → Made → Type 0
Adds m m' = Part 0 m m'

pub adds_then : (a b c : Made) → Adds a b → Adds b c → Adds a c
adds_then a b c f g = part_then a b c (omega arith) f g

pub adds_row : (work : ℕ) (es : List Expr) (m : Made) → Adds m (row_onto work es m)
adds_row work es m = part_all m _ (front_row work es m) (λ skip. grows_still m _ (still_row NoLabel work es m))

pub adds_results : (n : ℕ) (slots : List ℕ) (m : Made) → Adds m (results_onto n slots m)
adds_results n slots m = part_all m _ (front_results n slots m) (λ skip. grows_still m _ (still_results NoLabel n slots m))

pub adds_list : (ss : Stmts) (round : Round) (m : Made) → Adds m (all_onto ss round m)
adds_list ss round m = part_list ss round m

pub adds_push : (step : Step) (m : Made) → Adds m (pushed step m)
adds_push step m = part_push step m

pub adds_labels : (count : ℕ) (m : Made) → Adds m (labelled count m)
adds_labels count m = part_labels count m

pub adds_same : (m : Made) → Adds m m
adds_same m = part_still m m (front_same m.code) refl (omega arith)

abbrev more : {low : ℕ} (m m' : Made) → Adds m m' → Part low m m'
more m m' a = part_less m m' (omega arith) a

pub stands_sub : (code : List Step) (rs : List Added) (round : Round) (m a b m' : Made) → Stands code rs round m m' → Adds m a → Adds a b → Adds b m' → Stands code rs round a b
stands_sub code rs round m a b m' s p q t = stands_part code rs round m a b m' s (more m a p) (more a b q) (more b m' t)

-- lists that only leave a loop
module _ (p : Place) (Good : Expr → Type 0) (laws : Laws p Good) (once : Once p.shape.code) (entries : ℕ → Entry) (entry_ok : (w : ℕ) → EntryOk p.image w (entries w)) (yielded : Body) (yielded_ok : BodyOk p.image (context_of p) yielded) where
  abbrev Leaves : Stmts → Option Turns → Type 0
  Leaves = Leaving p Good laws once entries entry_ok yielded yielded_ok

  leaving_cut : (t : Turns) (cut : Option ℕ) (x : ℕ) → t.cut ≡ cut → end_uncut cut t.end ≡ Some x → Leaves (stmt_and plain.break_loop no_stmts) (Some t)
  leaving_cut t None x e f = record { only = refl; loop = t; is = refl; uncut = e }
  leaving_cut t (Some mark) x e f = none_is_not x f

  leaving_turns : (turns : Option Turns) (x : ℕ) → end_of_turns turns ≡ Some x → Leaves (stmt_and plain.break_loop no_stmts) turns
  leaving_turns None x e = none_is_not x e
  leaving_turns (Some t) x e = leaving_cut t t.cut x refl e

  pub leaving_of : (list : Stmts) (turns : Option Turns) (x : ℕ) → exit_of list turns ≡ Some x → Leaves list turns
  leaving_of no_stmts turns x e = none_is_not x e
  leaving_of (stmt_and plain.break_loop no_stmts) turns x e = leaving_turns turns x e
  leaving_of (stmt_and s no_stmts) turns x e = none_is_not x e
  leaving_of (stmt_and s (stmt_and y rest)) turns x e = none_is_not x e
