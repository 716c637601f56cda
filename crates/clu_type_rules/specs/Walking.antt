-- What comes first on a walk over the nodes of a file, and which equates are bad, whatever the rules are.
use Rattle.std.specs.Prelude.{ℕ, ◌+◌, ◌-◌, ◌||◌, ◌&&◌, if◌then◌else◌, Bool, true, false, List, [], ◌∷◌, fold, length, replicate, set, slice_get, Option, Some, None, Result, Ok, Err}
use Rattle.std.specs.List.{range_with_len}
use Rattle.clu_base.specs.declared.rules.Rule.{Rule}
use Rattle.clu_base.specs.declared.rules.Refused.{Refused}
use Rattle.clu_tree.specs.declared.node.Node.{Node}
use Rattle.clu_tree.specs.declared.node.NodeKind.TheVariants as kind
use Rattle.clu_syntax.specs.declared.round.Round.{Round}
use Rattle.clu_syntax.specs.Rounds.{round_at}
use Rattle.clu_names.specs.declared.scopes.Declared.{Declared}
use Rattle.clu_head.specs.There.{is_there}
use Rattle.clu_bindings.specs.Files.{stands_in}
use Rattle.clu_bindings.specs.Tables.{optional}

-- ---- a walk

-- a fault, told at the place of its node
abbrev pub told : Option Rule → Node → Option Refused
told (Some r) node = Some (record { rule = r; place = node.place })
told None node = None

abbrev pub first_of : Option Refused → Option Refused → Option Refused
first_of (Some refused) later = Some refused
first_of None later = later

-- the first of these nodes, whose numbers begin with n, at which there is a fault
abbrev pub first_fault : (ℕ → Option Rule) → ℕ → List Node → Option Refused
first_fault fault n [] = None
first_fault fault n (node ∷ nodes) = first_of (told (fault n) node) (first_fault fault (n + 1) nodes)

-- ---- bad equates

-- which equates are bad, and for each node that was asked whether there is a fault
pub record Asked : Type 0 where
  pub bad : List Bool
  pub faulty : List (Option Bool)

abbrev pub answer : Option Bool → Bool → Bool
answer (Some known) new = known
answer None new = new

abbrev pub noted : Option Bool → List (Option Bool) → ℕ → Bool → List (Option Bool)
noted (Some known) faulty n new = faulty
noted None faulty n new = set faulty n (Some new)

-- while what stands in a node is asked: whether there was a fault so far
pub record Looked : Type 0 where
  pub faulty : List (Option Bool)
  pub found : Bool

abbrev pub if_so : Bool → List Bool → ℕ → List Bool
if_so true bad n = set bad n true
if_so false bad n = bad

module _ (fault : List Bool → ℕ → Bool) where
  -- each node is asked once
  abbrev pub looked : List Bool → Looked → ℕ → Looked
  looked bad l n = record {
    faulty = noted (optional (slice_get l.faulty n)) l.faulty n (fault bad n);
    found = answer (optional (slice_get l.faulty n)) (fault bad n) || l.found;
  }

  abbrev pub looked_over : Asked → List ℕ → Looked
  looked_over a ns = fold (looked a.bad) (record { faulty = a.faulty; found = false }) ns

abbrev pub after_look : Asked → ℕ → Looked → Asked
after_look a n l = record { bad = if_so l.found a.bad n; faulty = l.faulty }

module _ (rounds : List Round) (fault : List Bool → ℕ → Bool) where
  -- what stands in the node n
  abbrev pub looked_inside : Asked → ℕ → Looked
  looked_inside a n = looked_over fault a (range_with_len (round_at rounds n).first (n - (round_at rounds n).first))

  abbrev pub asked_in : Asked → ℕ → Asked
  asked_in a n = after_look a n (looked_inside a n)

  abbrev pub asked_if : Bool → Asked → ℕ → Asked
  asked_if true a n = asked_in a n
  asked_if false a n = a

module _ (nodes : List Node) (rounds : List Round) (fault : List Bool → ℕ → Bool) where
  abbrev pub asked_of : Asked → Option Declared → Asked
  asked_of a (Some d) = asked_if rounds fault (is_there kind.Equate (slice_get nodes d.node)) a d.node
  asked_of a None = a

  -- the equate that is the declaration of this place
  abbrev pub asked_equate : List Declared → Asked → ℕ → Asked
  asked_equate declared a place = asked_of a (slice_get declared place)

  -- the declaration of an arm
  abbrev pub asked_arm : Asked → ℕ → Asked
  asked_arm a n = asked_if rounds fault (is_there kind.Decl (slice_get nodes n) && stands_in nodes rounds kind.When n) a n

  abbrev pub none_asked : Asked
  none_asked = record { bad = replicate (length nodes) false; faulty = replicate (length nodes) None }

  -- the equates of these places, one after the other, and then the declarations of arms
  abbrev pub bad_in : List Declared → List ℕ → List Bool
  bad_in declared order = (fold asked_arm (fold (asked_equate declared) none_asked order) (range_with_len 0 (length nodes))).bad
