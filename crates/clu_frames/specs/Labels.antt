-- The labels of flat code, and the loops over iterators in it.
use Rattle.std.specs.Prelude.{ℕ, ◌<◌, ◌^◌, ◌==◌, Bool, true, false, not, ◌&&◌, ◌||◌, IsTrue, List, [], ◌∷◌, length, Option, Some, None, nat_lt}
use Rattle.std.specs.List.{flat_map, list_all, list_any}
use Rattle.std.specs.Option.{option_to_list}
use Rattle.clu_frames.specs.Plain.{Step}
use Rattle.clu_frames.specs.Plain as flat

-- Numbers.

abbrev pub is_among : ℕ → List ℕ → Bool
is_among n ns = list_any (λ (m : ℕ). m == n) ns

-- whether no number stands twice
abbrev pub differ : List ℕ → Bool
differ [] = true
differ (n ∷ ns) = not (is_among n ns) && differ ns

-- whether two numbers are there and the same
abbrev pub same : Option ℕ → Option ℕ → Bool
same None other = false
same (Some a) None = false
same (Some a) (Some b) = a == b

-- whether there is a last item, and it passes
abbrev pub at_last : {X : Type 0} → (X → Bool) → List X → Bool
at_last test [] = false
at_last test (x ∷ []) = test x
at_last test (x ∷ y ∷ rest) = at_last test (y ∷ rest)

-- What a step says to others.

abbrev pub label_of : Step → Option ℕ
label_of (flat.Label label) = Some label
label_of _ = None

abbrev pub jump_of : Step → Option ℕ
jump_of (flat.Jump label) = Some label
jump_of _ = None

-- the label at which a step may go on
abbrev pub target_of : Step → Option ℕ
target_of (flat.Jump label) = Some label
target_of (flat.Branch condition sense label) = Some label
target_of _ = None

-- the slot that holds the top of a loop over an iterator: as its body begins, and as its next turn does
abbrev pub taken_slot : Step → Option ℕ
taken_slot (flat.Take slot) = Some slot
taken_slot _ = None

abbrev pub resumed_slot : Step → Option ℕ
resumed_slot (flat.Resume slot) = Some slot
resumed_slot _ = None

abbrev pub is_invoke : Step → Bool
is_invoke (flat.Invoke routine slot) = true
is_invoke _ = false

-- whether a step may go on at the next place
abbrev pub goes_on : Step → Bool
goes_on (flat.Jump label) = false
goes_on (flat.Resume slot) = false
goes_on (flat.Leave slot count) = false
goes_on (flat.Raise slot) = false
goes_on (flat.Signal slot) = false
goes_on flat.Pass = false
goes_on _ = true

-- Labels.

abbrev pub labels_of : List Step → List ℕ
labels_of code = flat_map (λ (step : Step). option_to_list (label_of step)) code

-- whether the label that a step names, if it names one, is among these
abbrev pub names_one : List ℕ → Option ℕ → Bool
names_one labels None = true
names_one labels (Some label) = is_among label labels

-- whether each is below their number, as labels are numbered from 0
abbrev pub are_numbered : List ℕ → Bool
are_numbered labels = list_all (λ (n : ℕ). nat_lt n (length labels)) labels

abbrev pub is_known : List ℕ → Step → Bool
is_known labels step = names_one labels (target_of step)

-- Loops over iterators: the call, the jump to the loop's end, the body, which begins as it takes the top into the loop's slot,
-- and what resumes, before the label of the end. A yield comes to the place after the jump.

abbrev pub begins_loop : ℕ → ℕ → List Step → Bool
begins_loop slot end [] = false
begins_loop slot end (x ∷ []) = false
begins_loop slot end (x ∷ y ∷ []) = false
begins_loop slot end (x ∷ y ∷ z ∷ rest) = is_invoke x && (same (Some end) (jump_of y) && same (Some slot) (taken_slot z))

abbrev pub has_loop : ℕ → ℕ → List Step → Bool
has_loop slot end [] = false
has_loop slot end (x ∷ rest) = begins_loop slot end (x ∷ rest) || has_loop slot end rest

abbrev pub loop_to : List Step → ℕ → Option ℕ → Bool
loop_to code slot None = false
loop_to code slot (Some end) = has_loop slot end code

abbrev pub loop_before : List Step → ℕ → List Step → Bool
loop_before code slot [] = false
loop_before code slot (x ∷ rest) = loop_to code slot (label_of x)

abbrev pub ends_loop : List Step → Option ℕ → List Step → Bool
ends_loop code None rest = true
ends_loop code (Some slot) rest = loop_before code slot rest

-- each of the last of these places that resumes ends a loop of the code
abbrev pub are_loops : List Step → List Step → Bool
are_loops code [] = true
are_loops code (x ∷ rest) = ends_loop code (resumed_slot x) rest && are_loops code rest

-- What holds of the code of each routine.
pub record IsFlat (code : List Step) : Type 0 where
  -- places have numbers of 32 bits
  pub few : length code < 2 ^ 32
  -- no label is placed twice
  pub labels : IsTrue (differ (labels_of code))
  -- labels are numbered from 0
  pub numbered : IsTrue (are_numbered (labels_of code))
  -- each label that a step names is placed
  pub names : IsTrue (list_all (is_known (labels_of code)) code)
  -- the last place goes on to no next one
  pub ends : IsTrue (at_last (λ (step : Step). not (goes_on step)) code)
  -- what resumes ends a loop, so that the jump after the call of its iterator is not before its own label
  pub loops : IsTrue (are_loops code code)
