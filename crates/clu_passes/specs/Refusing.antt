-- Rules over tables that find the first fault which the definitions find. Where something is lost both may differ behind it.
use Rattle.std.specs.Prelude.{◌≡◌, ◌<◌, ◌≤◌, ℕ, suc, ◌&&◌, Bool, true, false, List, [], ◌∷◌, find, is_some, length, map, Option, None}
use Rattle.clu_base.specs.declared.rules.Rule.{Rule}
use Rattle.clu_base.specs.declared.rules.Rule.TheVariants as rule
use Rattle.clu_circles.specs.Circles.{AreCircles}
use Rattle.clu_tree.specs.declared.node.NodeKind.TheVariants as kind
use Rattle.clu_syntax.specs.Items.{Item}
use Rattle.clu_syntax.specs.Kinds.{kind_at}
use Rattle.clu_syntax.specs.Rounds.{round_at}
use Rattle.clu_names.specs.declared.binding.Names.{Names}
use Rattle.clu_names.specs.Scopes.{declarations}
use Rattle.clu_checking.specs.Files.{File, is_kind, kind_in, numbers, round}
use Rattle.clu_checking.specs.Equates.{is_circular}
use Rattle.clu_checking.specs.Rules as definition
use Rattle.clu_checking.specs.Rules.{least}
use Rattle.clu_checking.specs.Refusals.{fault_at, first_on, headings, is_bad, rest}
use Rattle.clu_settle.specs.Circular.{spans_to}
use Rattle.clu_settle.specs.Graph.{unfolded_to}
use Rattle.clu_name_rules.specs.declared.tables.Tables.{Tables}
use Rattle.clu_type_rules.specs.declared.known.Known.{Known}
use Rattle.clu_type_rules.specs.Asked.{rules_at, rules_of_headings, rules_of_rest}
use Rattle.clu_type_rules.specs.Rules.{violates, violates_of_types}
use Rattle.clu_type_rules.specs.Walking.{bad_in}
use Rattle.clu_passes.specs.Marks.{AreMarks}
use Rattle.clu_passes.specs.Tables.{AreNames}

-- both say the same of the first of these rules, and if it is not violated, of those behind it
abbrev pub AgreeOn : (Rule → Bool) → (Rule → Bool) → List Rule → Type 0
AgreeOn found violated [] = Unit {0}
AgreeOn found violated (r ∷ rs) = (found r ≡ violated r) × (violated r ≡ false → AgreeOn found violated rs)

-- at each of so many nodes, if there is no fault at those before it, what is found is the fault that there is
abbrev pub FindsFirst : ℕ → (ℕ → Option Rule) → (ℕ → Option Rule) → Type 0
FindsFirst size found fault = (n : ℕ) → n < size → ((m : ℕ) → m < n → fault m ≡ None) → found n ≡ fault n

-- a rule by which types are refused
abbrev pub is_of_types : Rule → Bool
is_of_types rule.LiteralRange = true
is_of_types rule.UnknownName = true
is_of_types rule.CircularEquate = true
is_of_types rule.NotConstant = true
is_of_types rule.NotType = true
is_of_types rule.Real = true
is_of_types rule.Selectors = true
is_of_types rule.ParameterKind = true
is_of_types rule.CvtPlace = true
is_of_types _ = false

abbrev pub of_types : (Rule → Bool) → Rule → Bool
of_types violated r = is_of_types r && violated r

-- ---- what the rules over tables find at a node

module _ (k : Known) (items : ℕ → Item) where
  abbrev pub heading_fault : List Bool → ℕ → Option Rule
  heading_fault bits n = find (violates k bits items n) (rules_of_headings (kind_at k.tables.file.syntax.now n) (round_at k.tables.file.rounds.now n).heading)

  abbrev pub rest_fault : List Bool → ℕ → Option Rule
  rest_fault bits n = find (violates k bits items n) (rules_of_rest (kind_at k.tables.file.syntax.now n) (round_at k.tables.file.rounds.now n).heading)

  abbrev pub has_fault : List Bool → ℕ → Bool
  has_fault bits n = is_some (find (violates k bits items n) (rules_at (kind_at k.tables.file.syntax.now n)))

abbrev pub is_no_type : Tables → (ℕ → Item) → List Bool → ℕ → Bool
is_no_type t items bits n = is_some (find (violates_of_types t bits items n) (rules_at (kind_at t.file.syntax.now n)))

-- for each node whether a type is refused there
abbrev pub refused_bits : Tables → (ℕ → Item) → List Bool → List Bool
refused_bits t items bits = map (is_no_type t items bits) (numbers t.file.syntax.now)

-- ---- up to the first fault both say the same of the rules that are asked at a node

module _ (f : File) (found : ℕ → Rule → Bool) where
  -- of the headings
  abbrev pub AgreeInHeadings : Type 0
  AgreeInHeadings =
      (n : ℕ) → n < length f.nodes → ((m : ℕ) → m < n → fault_at f headings m ≡ None) → AgreeOn (found n) (definition.violates f (is_bad f) n) (rules_of_headings (kind_in f n) (round f n).heading)

  -- of the rest, if there is none in the headings
  abbrev pub AgreeInRest : Type 0
  AgreeInRest =
      first_on f headings ≡ None → (n : ℕ) → n < length f.nodes → ((m : ℕ) → m < n → fault_at f rest m ≡ None) → AgreeOn (found n) (definition.violates f (is_bad f) n) (rules_of_rest (kind_in f n) (round f n).heading)

  -- at the nodes of these numbers, from the first to the one before the other
  abbrev pub AgreeFrom : (ℕ → Rule → Bool) → ℕ → ℕ → Type 0
  AgreeFrom violated from to =
      (n : ℕ) → from ≤ n → n < to → ((m : ℕ) → from ≤ m → m < n → least (violated m) (rules_at (kind_in f m)) ≡ None) → AgreeOn (found n) (violated n) (rules_at (kind_in f n))

  -- below a node, and there too
  abbrev pub AgreeBelow : (ℕ → Rule → Bool) → ℕ → Type 0
  AgreeBelow violated n = AgreeFrom violated (round f n).first n

  abbrev pub AgreeWithin : (ℕ → Rule → Bool) → ℕ → Type 0
  AgreeWithin violated n = AgreeFrom violated (round f n).first (suc n)

  -- in each equate that leads to no circle
  abbrev pub AgreeInEquates : (ℕ → Rule → Bool) → Type 0
  AgreeInEquates violated = (e : ℕ) → is_kind f kind.Equate e ≡ true → is_circular f e ≡ false → AgreeBelow violated e

-- ---- bad equates

-- the order of the places of declarations in which equates are asked, and the bits of those that lead to circles
pub record IsOrder (f : File) (names : Names) (order : List ℕ) (circular : List Bool) : Type 0 where
  pub all : f.scope.declarations ≡ declarations f.nodes f.rounds
  pub named : AreNames f names
  pub circles : AreCircles (unfolded_to f.nodes f.scope.declarations (length f.nodes)) (spans_to f.nodes f.rounds f.scope.declarations) order circular
  pub marks : AreMarks f circular

-- the bits that come of it
abbrev pub bits_in : File → List ℕ → (List Bool → ℕ → Bool) → List Bool
bits_in f order fault = bad_in f.nodes f.rounds fault f.scope.declarations order
