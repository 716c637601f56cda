-- What is asked of types at the nodes of a file by numbers, while types are added to the arena and more is found.
use Rattle.std.specs.Prelude.{◌≡◌, ◌↔◌, ◌<◌, ◌≤◌, ℕ, Bool, true, false, List, [], ◌∷◌, length, map, get_or, slice_get, option_map, option_and_then, Contains, IsTrue, if◌then◌else◌, Option, Some, None}
use Rattle.std.specs.Option.{option_or}
use Rattle.indexmap.specs.IndexSet.{insert_key}
use Rattle.clu_types.specs.CluType.{CluType}
use Rattle.clu_types.specs.Arena.{type_at, types_of, Grows}
use Rattle.clu_types.specs.declared.term.Term.{Term}
use Rattle.clu_types.specs.declared.term.TypeId.{TypeId}
use Rattle.clu_tree.specs.declared.node.NodeKind.{NodeKind}
use Rattle.clu_tree.specs.declared.node.NodeKind.TheVariants as kind
use Rattle.clu_head.specs.declared.head.Demanded.{Demanded}
use Rattle.clu_bindings.specs.declared.file.Headed.{Headed}
use Rattle.clu_bindings.specs.Readers.{kind_in, round_in}
use Rattle.clu_operations.specs.declared.finding.Finding.{Finding}
use Rattle.clu_operations.specs.declared.found.Asked.{Asked}
use Rattle.clu_operations.specs.declared.found.FoundId.{FoundId}
use Rattle.clu_operations.specs.declared.shapes.Shape.{Shape}
use Rattle.clu_operations.specs.declared.shapes.Shape.TheVariants as shape
use Rattle.clu_operations.specs.Builtins.{ComponentsAscend}
use Rattle.clu_operations.specs.Finding.{found_at, Follows}
use Rattle.clu_operations.specs.Clauses.{given_by, set_round}
use Rattle.clu_operations.specs.Given.{asked_in, told_given}
use Rattle.clu_operations.specs.Shapes.{shape_of}
use Rattle.clu_operations.specs.Told.{Ask, Told}
use Rattle.clu_operations.specs.Wished.{told_seen, IsFinding}
use Rattle.clu_type_rules.specs.declared.unmet.Clauses.{Clauses}
use Rattle.clu_type_rules.specs.declared.unmet.Need.{Need}
use Rattle.clu_type_rules.specs.declared.unmet.Place.{Place}
use Rattle.clu_type_rules.specs.declared.unmet.Unmet.{Unmet}
use Rattle.clu_type_rules.specs.contracts.unmet.NeedPartialEq.TheImpl as needs
use Rattle.clu_type_rules.specs.Closed.{IsAnswered, IsClosed, IsClosedFor, IsFrontOf, HasAdded}
use Rattle.clu_type_rules.specs.Included.{may_be}
use Rattle.clu_type_rules.specs.Meeting.{fitting, asks_of, Meets, AreUnmet}

-- ---- the where clauses that count at a node

abbrev pub if_some : ℕ → List Demanded → Option ℕ
if_some n [] = None
if_some n (d ∷ demands) = Some n

abbrev pub if_set : ℕ → NodeKind → Option ℕ
if_set n kind.TypeSet = Some n
if_set n _ = None

module _ (headed : Headed) where
  -- the node, if it asks something
  abbrev pub if_asking : Option ℕ → Option ℕ
  if_asking (Some n) = if_some n (asked_in headed n)
  if_asking None = None

  -- the node, if it is a type set or stands in one
  abbrev pub set_at : ℕ → Option ℕ
  set_at n = option_or (if_set n (kind_in headed.file n)) (if_set n (kind_in headed.file (round_in headed.file n).body_last))

  abbrev pub clauses_at : ℕ → Clauses
  clauses_at n = record { routine = if_asking (round_in headed.file n).routine; cluster = if_asking (round_in headed.file n).cluster; set = set_at n }

  -- ---- the operation that a type has at a node for what is asked: of a type parameter what is given there, of others what is seen
  -- from outside

  -- of several where clauses the first that gives it of a type that is included in the wanted one
  module _ (types : List CluType) (number : ℕ) (wanted : CluType) where
    abbrev pub told_fitting : Option ℕ → List ℕ → Option Told
    told_fitting node name = fitting wanted (told_given headed types node number name)

    abbrev pub told_for : ℕ → List ℕ → Option Told
    told_for n name =
        option_or (option_or (told_fitting (round_in headed.file n).routine name) (told_fitting (round_in headed.file n).cluster name))
        (told_fitting (set_round headed.file n number) name)

  module _ (terms : List Term) (names : List (List ℕ)) (n : ℕ) (need : Need) where
    abbrev pub told_shape : Shape → Option Told
    told_shape (shape.Parameter number) = option_and_then (told_for (types_of terms) number (type_at (types_of terms) need.wanted) n) (slice_get names need.operation.0)
    told_shape _ = told_seen headed terms names None need.of (Some need.operation)

    unfoldable pub told_asked : Option Told
    told_asked = told_shape (shape_of terms need.of)

-- the same by numbers

abbrev pub fitting_by : List Term → Finding → TypeId → Option FoundId → Option FoundId
fitting_by terms finding wanted (Some id) = if may_be terms (found_at finding.founds.items id).of (Some wanted) then Some id else None
fitting_by terms finding wanted None = None

abbrev pub given_for : Headed → List Term → Finding → ℕ → ℕ → Need → Option FoundId
given_for headed terms finding n number need =
    let given : Option ℕ → Option FoundId = λ node. fitting_by terms finding need.wanted (given_by finding node number need.operation) in
    option_or (option_or (given (round_in headed.file n).routine) (given (round_in headed.file n).cluster)) (given (set_round headed.file n number))

-- ---- by numbers

-- the arena, and what was found
pub record World : Type 0 where
  pub terms : List Term
  pub finding : Finding

abbrev pub world : List Term → Finding → World
world terms finding = record { terms = terms; finding = finding }

abbrev pub Later : World → World → Type 0
Later old new = Grows old.terms new.terms × Follows old.finding new.finding

-- what is asked under these clauses
pub record Due : Type 0 where
  pub ask : Ask
  pub under : Clauses

abbrev pub due : Clauses → Ask → Due
due under ask = record { ask = ask; under = under }

abbrev pub seen : World → Need → Due
seen w a = due a.under (record { of = type_at (types_of w.terms) a.of; operation = get_or w.finding.words a.operation.0 []; wanted = type_at (types_of w.terms) a.wanted; in_set = false })

abbrev pub same_need : Need → Need → Bool
same_need = (needs.ghosts).eq

abbrev pub need_of : Clauses → Asked → Need
need_of under a = record { of = a.of; operation = a.operation; wanted = a.wanted; under = under }

-- these are asked, too
abbrev pub with_asked : Clauses → List Asked → List Need → List Need
with_asked under [] keys = keys
with_asked under (a ∷ asked) keys = with_asked under asked (insert_key same_need keys (need_of under a))

abbrev pub with_asked_if : Bool → Clauses → List Asked → List Need → List Need
with_asked_if true under asked keys = with_asked under asked keys
with_asked_if false under asked keys = keys

-- its numbers are there
pub record IsThere (w : World) (a : Need) : Type 0 where
  pub of : a.of.0 < length w.terms
  pub wanted : a.wanted.0 < length w.terms
  pub operation : a.operation.0 < length w.finding.words

-- ---- what is found under clauses from now on, and of which types this is said

pub record Setting : Type 0 where
  pub start : World
  pub found : Clauses → CluType → List ℕ → CluType → Option Told
  pub fine : CluType → Bool

-- what is looked for in any later state is what the setting says; what is fine has components that ascend, and asks of what is
-- fine alone
pub record Looks (headed : Headed) (s : Setting) : Type 0 where
  pub told : (n : ℕ) (now : World) → Later s.start now → IsFinding headed now.terms now.finding → (need : Need) → IsThere now need
      → told_asked headed now.terms now.finding.words n need ≡ s.found (clauses_at headed n) (type_at (types_of now.terms) need.of) (get_or now.finding.words need.operation.0 []) (type_at (types_of now.terms) need.wanted)
  pub ascend : (t : CluType) → s.fine t ≡ true → ComponentsAscend t
  pub fine : (under : Clauses) (t : CluType) (name : List ℕ) (wanted : CluType) (it : Told) → s.fine t ≡ true → s.found under t name wanted ≡ Some it → (a : Ask) → Contains it.asks a → s.fine a.of ≡ true

-- what this asks in its turn
abbrev pub dues : Setting → Due → Option (List Due)
dues s d = option_map (map (due d.under)) (asks_of (s.found d.under) d.ask)

-- whether it is asked of a type of which the setting says what is found
abbrev pub is_fine : Setting → Due → Bool
is_fine s d = s.fine d.ask.of

abbrev pub AreFine : Setting → List Ask → Type 0
AreFine s asks = (a : Ask) → Contains asks a → s.fine a.of ≡ true

-- what of these isn't met, if all is asked of such types
abbrev pub AreUnmetIf : Setting → Clauses → Unmet → List Ask → Type 0
AreUnmetIf s under u asks = AreFine s asks → AreUnmet (s.found under) asks u

abbrev pub IsPlace : Place → Type 0
IsPlace place = place.clauses ≡ clauses_at place.headed place.node

abbrev pub AreThere : World → List Need → Type 0
AreThere w needs = (a : Need) → Contains needs a → IsThere w a

module _ (s : Setting) where
  -- one need asks these, which are added
  pub record Asks (v w : World) (old new : List Need) (need : Need) : Type 0 where
    pub asked : List Need
    pub there : AreThere w asked
    pub added : HasAdded old asked new
    pub under : (a : Need) → Contains asked a → a.under ≡ need.under
    pub asks : is_fine s (seen v need) ≡ true → dues s (seen v need) ≡ Some (map (seen w) asked)
    pub fine : is_fine s (seen v need) ≡ true → (a : Need) → Contains asked a → is_fine s (seen w a) ≡ true

  abbrev pub AreAnswered : World → List Need → ℕ → Type 0
  AreAnswered w needs n = (k : ℕ) (a : Need) → k < n → slice_get needs k ≡ Some a → is_fine s (seen w a) ≡ true → IsAnswered (dues s) (map (seen w) needs) (seen w a)

  abbrev pub HasFrom : World → List Need → ℕ → List Due → Type 0
  HasFrom w needs before those = (k : ℕ) (a : Need) → before ≤ k → slice_get needs k ≡ Some a → Contains those (seen w a)

  abbrev pub AreFineFrom : World → List Need → ℕ → Type 0
  AreFineFrom w needs before = (k : ℕ) (a : Need) → before ≤ k → slice_get needs k ≡ Some a → is_fine s (seen w a) ≡ true

  -- those from a place on are not all among some of which each is answered by them
  abbrev pub AreNotMet : World → List Need → ℕ → Type 0
  AreNotMet w needs before = AreFineFrom w needs before → (those : List Due) → IsClosed (dues s) those → HasFrom w needs before those → ⊥

abbrev pub AreUnder : Clauses → List Need → ℕ → Type 0
AreUnder under needs before = (k : ℕ) (a : Need) → before ≤ k → slice_get needs k ≡ Some a → a.under ≡ under

module _ (headed : Headed) (s : Setting) where
  -- all that stands between two calls
  pub record Stands (w : World) (met : List Need) : Type 0 where
    pub looks : Looks headed s
    pub later : Later s.start w
    pub finding : IsFinding headed w.terms w.finding
    pub there : AreThere w met

  -- one need was asked: whether it has its operation
  pub record Steps (v w : World) (old new : List Need) (need : Need) (is : Bool) : Type 0 where
    pub later : Later v w
    pub finding : IsFinding headed w.terms w.finding
    pub more : is ≡ true → Asks s v w old new need
    pub none : is ≡ false → is_fine s (seen v need) ≡ true → dues s (seen v need) ≡ None
    pub same : is ≡ false → new ≡ old

  -- those from a place on were asked, and all that came of them
  pub record Comes (v w : World) (first found : List Need) (before : ℕ) (all : Bool) : Type 0 where
    pub stands : Stands w found
    pub later : Later v w
    pub front : IsFrontOf first found
    pub closed : all ≡ true → IsClosedFor (dues s) (is_fine s) (map (seen w) found)
    pub none : all ≡ false → AreNotMet s v first before

  -- ---- between two needs that are asked at nodes

  pub record Rests (w : World) (met : List Need) : Type 0 where
    pub stands : Stands w met
    pub closed : IsClosedFor (dues s) (is_fine s) (map (seen w) met)

  pub record MeetsOne (v w : World) (keys : List Need) (need : Need) (is : Bool) : Type 0 where
    pub rests : Rests w keys
    pub later : Later v w
    pub met : is_fine s (seen v need) ≡ true → IsTrue is ↔ Meets (s.found need.under) (seen v need).ask

  pub record MeetsAll (v w : World) (met : List Need) (under : Clauses) (asks : List Ask) (u : Unmet) : Type 0 where
    pub rests : Rests w met
    pub later : Later v w
    pub unmet : AreUnmetIf s under u asks
