-- Bad equates by the rules that are asked, and the nodes at which types are refused.
use Rattle.std.specs.Prelude.{◌≡◌, ◌<◌, ◌≤◌, ℕ, ◌&&◌, ◌||◌, Bool, true, List, find, is_some, length, map, slice_get}
use Rattle.std.specs.List.{range_with_len}
use Rattle.clu_tree.specs.declared.node.NodeKind.TheVariants as kind
use Rattle.clu_names.specs.declared.scopes.Declared.{Declared}
use Rattle.clu_syntax.specs.Items.{Item}
use Rattle.clu_syntax.specs.Kinds.{kind_at}
use Rattle.clu_syntax.specs.Rounds.{round_at}
use Rattle.clu_head.specs.There.{is_there}
use Rattle.clu_bindings.specs.declared.file.File.{File}
use Rattle.clu_bindings.specs.Files.{stands_in}
use Rattle.clu_name_rules.specs.declared.tables.Tables.{Tables}
use Rattle.clu_name_rules.specs.Constructors.{ValuesAscend}
use Rattle.clu_type_rules.specs.declared.known.Known.{Known}
use Rattle.clu_type_rules.specs.Asked.{rules_at}
use Rattle.clu_type_rules.specs.Walking.{Asked, asked_equate, asked_arm, bad_in}
use Rattle.clu_check_mod.specs.Asking.{RulesAscend, is_violated, is_violated_of_types}
use Rattle.clu_check_mod.specs.declared.bad.Asking.{Asking}
use Rattle.clu_check_mod.specs.declared.bad.By.{By}
use Rattle.clu_check_mod.specs.declared.bad.By.TheVariants as by

abbrev pub file_by : By → File
file_by (by.Types t) = t.now.file
file_by (by.All k) = k.now.tables.file

-- what the rules look for by its name at the node m ascends
abbrev pub NodeAscends : Known → ℕ → Type 0
NodeAscends k m = RulesAscend k m (rules_at (kind_at k.tables.file.syntax.now m))

-- at each node that stands in the node n
abbrev pub InsideAscends : Known → ℕ → Type 0
InsideAscends k n = (m : ℕ) → (round_at k.tables.file.rounds.now n).first ≤ m → m < n → NodeAscends k m

-- an Equate, or a Decl of an arm
abbrev pub is_settled : File → ℕ → Bool
is_settled f n = is_there kind.Equate (slice_get f.syntax.now n) || (is_there kind.Decl (slice_get f.syntax.now n) && stands_in f.syntax.now f.rounds.now kind.When n)

-- in each of these
abbrev pub EquatesAscend : Known → Type 0
EquatesAscend k = ValuesAscend k.tables × ((n : ℕ) → is_settled k.tables.file n ≡ true → InsideAscends k n)

-- the same by the rules that are asked, of which those by which types are refused look for no tags
abbrev pub AscendsAt : By → ℕ → Type 0
AscendsAt (by.Types t) m = ValuesAscend t.now
AscendsAt (by.All k) m = ValuesAscend k.now.tables × NodeAscends k.now m

abbrev pub AscendIn : By → ℕ → Type 0
AscendIn (by.Types t) n = ValuesAscend t.now
AscendIn (by.All k) n = ValuesAscend k.now.tables × InsideAscends k.now n

abbrev pub AscendBy : By → Type 0
AscendBy (by.Types t) = ValuesAscend t.now
AscendBy (by.All k) = EquatesAscend k.now

abbrev pub state : Asking → Asked
state a = record { bad = a.bad.items; faulty = a.faulty.items }

-- ---- the node violates a rule

module _ (items : ℕ → Item) where
  -- one by which types are refused
  unfoldable pub fault_of_types : Tables → List Bool → ℕ → Bool
  fault_of_types t bad n = is_some (find (is_violated_of_types t bad items n) (rules_at (kind_at t.file.syntax.now n)))

  -- or any
  unfoldable pub fault_of_all : Known → List Bool → ℕ → Bool
  fault_of_all k bad n = is_some (find (is_violated k bad items n) (rules_at (kind_at k.tables.file.syntax.now n)))

  unfoldable pub fault_by : By → List Bool → ℕ → Bool
  fault_by (by.Types t) bad n = fault_of_types t.now bad n
  fault_by (by.All k) bad n = fault_of_all k.now bad n

-- ---- bad equates, where equates are asked in this order of the places of their declarations

module _ (its : By) (items : ℕ → Item) where
  abbrev pub equates_by : List Declared → Asked → ℕ → Asked
  equates_by declared = asked_equate (file_by its).syntax.now (file_by its).rounds.now (fault_by items its) declared

  abbrev pub arms_by : Asked → ℕ → Asked
  arms_by = asked_arm (file_by its).syntax.now (file_by its).rounds.now (fault_by items its)

  abbrev pub bad_by : List ℕ → List Bool
  bad_by order = bad_in (file_by its).syntax.now (file_by its).rounds.now (fault_by items its) (file_by its).names.now.declared.items order

abbrev pub bad_of_types : Tables → (ℕ → Item) → List ℕ → List Bool
bad_of_types t items order = bad_in t.file.syntax.now t.file.rounds.now (fault_of_types items t) t.file.names.now.declared.items order

abbrev pub bad_of_all : Known → (ℕ → Item) → List ℕ → List Bool
bad_of_all k items order = bad_in k.tables.file.syntax.now k.tables.file.rounds.now (fault_of_all items k) k.tables.file.names.now.declared.items order

-- for each node whether a type is refused that stands there
abbrev pub refused_of : Tables → (ℕ → Item) → List ℕ → List Bool
refused_of t items order = map (fault_of_types items t (bad_of_types t items order)) (range_with_len 0 (length t.file.syntax.now))
