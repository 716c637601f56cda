-- What a check answers of a file: its first fault, by the tables that are made of it.
use Rattle.std.specs.Prelude.{◌≡◌, ◌<◌, ◌↔◌, ℕ, Bool, true, false, List, length, map, nat_lt, replicate, slice_get, Option, Some, None, Result, Ok, Err}
use Rattle.clu_base.specs.declared.constants.Const.{Const}
use Rattle.clu_base.specs.declared.rules.Refused.{Refused}
use Rattle.clu_circles.specs.Circles.{AreCircles}
use Rattle.clu_tree.specs.declared.node.Node.{Node}
use Rattle.clu_tree.specs.Nodes.{modules}
use Rattle.clu_syntax.specs.declared.round.Round.{Round}
use Rattle.clu_syntax.specs.Items.{Item}
use Rattle.clu_syntax.specs.Rounds.{AreRounds}
use Rattle.clu_names.specs.declared.binding.Names.{Names}
use Rattle.clu_names.specs.Denotes.{bound_to, starts_to}
use Rattle.clu_names.specs.Scopes.{declarations}
use Rattle.clu_types.specs.declared.spec.Spec.{Spec}
use Rattle.clu_types.specs.declared.term.Term.{Term}
use Rattle.clu_types.specs.Arena.{Grows, IsArena}
use Rattle.clu_meaning.specs.Scoping.{Scope}
use Rattle.clu_settle.specs.declared.settling.Values.{Values}
use Rattle.clu_settle.specs.declared.value.Value.TheVariants as value
use Rattle.clu_settle.specs.Circular.{is_circular, spans_to}
use Rattle.clu_settle.specs.Graph.{unfolded_to}
use Rattle.clu_settle.specs.Lists.{value_of}
use Rattle.clu_settle.specs.Lost.{IsLost, AreRead}
use Rattle.clu_settle.specs.Meant.{meanings_of}
use Rattle.clu_settle.specs.Names.{AreMeanings}
use Rattle.clu_settle.specs.Settled.{AreSettled}
use Rattle.clu_head.specs.Modules.{AreHeadsOf}
use Rattle.clu_head.specs.Refused.{counts_to}
use Rattle.clu_bindings.specs.declared.file.File.{File}
use Rattle.clu_bindings.specs.declared.file.Headed.{Headed}
use Rattle.clu_bindings.specs.Bindings.{AreBindings}
use Rattle.clu_bindings.specs.Modules.{AreModules, modules_in}
use Rattle.clu_bindings.specs.Numbered.{AreNumbered}
use Rattle.clu_bindings.specs.Owned.{AreOwned}
use Rattle.clu_operations.specs.Wished.{IsFinding}
use Rattle.clu_typing.specs.declared.facts.Facts.{Facts}
use Rattle.clu_typing.specs.Facts.{askers_at}
use Rattle.clu_typing.specs.Pass.{AreKnown, HaveTypes, IsSound}
use Rattle.clu_name_rules.specs.declared.tables.Tables.{Tables}
use Rattle.clu_name_rules.specs.Constructors.{ValuesAscend}
use Rattle.clu_name_rules.specs.Lengths.{constant_length, lengths_of}
use Rattle.clu_name_rules.specs.Own.{own_places}
use Rattle.clu_name_rules.specs.Repeated.{AreNoted, notes_of}
use Rattle.clu_name_rules.specs.Words.{words_to}
use Rattle.clu_type_rules.specs.declared.known.Known.{Known}
use Rattle.clu_type_rules.specs.Askers.{AreAskers, AreFoundAt, FindsOn, with_finding}
use Rattle.clu_type_rules.specs.Disagreeing.{with_clauses}
use Rattle.clu_type_rules.specs.Needs.{Looks, Setting, world}
use Rattle.clu_type_rules.specs.Routines.{parts_to}
use Rattle.clu_check_mod.specs.Modules.{AreMade, AreOf, AreSpecified}
use Rattle.clu_core.specs.declared.checked.Checked.{Checked}
use Rattle.clu_check_mod.specs.Bad.{EquatesAscend, bad_of_all, refused_of}
use Rattle.clu_check_mod.specs.Notes.{constants_of, denoted_of, operations_of}
use Rattle.clu_check_mod.specs.Walks.{WalksAscend, first_in}
use Rattle.clu_check_mod.specs.declared.checking.Found.{Found}
use Rattle.clu_check_mod.specs.declared.checking.Lists.{Lists}
use Rattle.clu_check_mod.specs.declared.checking.Long.{Long}
use Rattle.clu_check_mod.specs.declared.errors.CheckError.{CheckError}
use Rattle.clu_check_mod.specs.declared.errors.CheckError.TheVariants as error
use Rattle.clu_check_mod.specs.declared.walk.Extent.{Extent}
use Rattle.clu_check_mod.specs.declared.walk.Extent.TheVariants as extent

-- ---- an answer, by what is the first fault of a file, if it has one

-- a refusal is answered if it is the first fault; what is found only if there is none, and that a specification is lost if this is so
abbrev pub IsAnswerBy : (Option Refused → Type 0) → Type 0 → CheckError → Type 0
IsAnswerBy IsFirst Unspecified (error.Refused r) = IsFirst (Some r)
IsAnswerBy IsFirst Unspecified error.Memory = Unit {0}
IsAnswerBy IsFirst Unspecified error.NotYet = Unspecified

abbrev pub IsAnswer : (Option Refused → Type 0) → Type 0 → {A : Type 0} → Result A CheckError → Type 0
IsAnswer IsFirst Unspecified (Ok found) = IsFirst None
IsAnswer IsFirst Unspecified (Err e) = IsAnswerBy IsFirst Unspecified e

-- the same, where more is told of what is found
abbrev pub IsAnswerWith : {A : Type 0} → Result A CheckError → (A → Type 0) → (Option Refused → Type 0) → Type 0 → Type 0
IsAnswerWith (Ok found) Told IsFirst Unspecified = Told found
IsAnswerWith (Err e) Told IsFirst Unspecified = IsAnswerBy IsFirst Unspecified e

abbrev pub IsNoRefusal : CheckError → Type 0
IsNoRefusal (error.Refused r) = ⊥
IsNoRefusal error.Memory = Unit {0}
IsNoRefusal error.NotYet = Unit {0}

-- no specification is lost, or what is so if one is
abbrev pub IsNoLoss : CheckError → Type 0
IsNoLoss (error.Refused r) = Unit {0}
IsNoLoss error.Memory = Unit {0}
IsNoLoss error.NotYet = ⊥

abbrev pub IfLost : CheckError → Type 0 → Type 0
IfLost (error.Refused r) P = Unit {0}
IfLost error.Memory P = Unit {0}
IfLost error.NotYet P = P

-- ---- what is made of a tree

-- what its names are bound to
pub record AreNamed (nodes : List Node) (rounds : List Round) (names : Names) : Type 0 where
  pub declared : names.declared.items ≡ declarations nodes rounds
  pub bound : names.bound.items ≡ bound_to nodes names.declared.items (length nodes)
  pub starts : names.starts.items ≡ starts_to nodes names.declared.items (length nodes)

-- what its constants and types come to
pub record AreValues (nodes : List Node) (rounds : List Round) (names : Names) (settled : Values) : Type 0 where
  pub meanings : settled.meanings.items ≡ meanings_of nodes rounds names.declared.items
  pub known : (scope : Scope) → AreMeanings nodes scope settled.meanings.items → AreSettled nodes scope settled.types settled.constants settled.values.items
  pub lost : (n : ℕ) → n < length nodes → value_of settled.values.items n ≡ value.Lost → IsLost nodes settled.meanings.items n
  pub read : AreRead nodes settled.meanings.items settled.values.items

-- and what comes of its names
pub record AreLists (nodes : List Node) (rounds : List Round) (names : Names) (lists : Lists) : Type 0 where
  pub order : AreCircles (unfolded_to nodes names.declared.items (length nodes)) (spans_to nodes rounds names.declared.items) lists.circles.order.items lists.circles.circular.items
  pub circular : length rounds ≡ length nodes → (k : ℕ) → k < length names.declared.items → (slice_get lists.circles.circular.items k ≡ Some true) ↔ (is_circular nodes rounds names.declared.items k ≡ true)
  pub own : lists.own.items ≡ own_places names.declared.items (length nodes)
  pub words : lists.words.value ≡ words_to nodes (length nodes)
  pub items : AreNoted (length nodes) (notes_of lists.words.value nodes names.declared.items) lists.items.value
  pub routines : (items : ℕ → Item) → lists.routines.value.parts.items ≡ parts_to items nodes (length nodes)

pub record AreLong (terms : List Term) (its : List Const) (long : Long) : Type 0 where
  pub types : long.types.items ≡ map (nat_lt 65536) (lengths_of terms)
  pub constants : long.constants.items ≡ map (λ c. nat_lt 65536 (constant_length c)) its

-- ---- the tables of a file

pub record AreTables (t : Tables) (file : File) (lists : Lists) (long : Long) : Type 0 where
  pub file_is : t.file ≡ file
  pub long_types : t.long_types.now ≡ long.types.items
  pub long_constants : t.long_constants.now ≡ long.constants.items
  pub circular : t.circular.now ≡ lists.circles.circular.items
  pub own : t.own.now ≡ lists.own.items
  pub words : t.words.now ≡ lists.words.value
  pub items : t.items.now ≡ lists.items.value

-- ---- the first fault of a file

-- what is not met of what is asked at nodes, where this was known of them with these types, and which demands disagree
pub record AreAsked (headed : Headed) (terms : List Term) (facts : Facts) (known : Known) : Type 0 where
  pub size : length known.unmet.now ≡ length headed.file.syntax.now
  pub unmet : (s : Setting) → Looks headed s → s.start ≡ world terms facts.finding → IsFinding headed terms facts.finding → ((n : ℕ) → AreAskers (world terms facts.finding) (askers_at facts.invocations n)) → AreFoundAt headed s (world terms facts.finding) facts.invocations known.unmet.now
  pub later : (s : Setting) → Looks headed s → s.start ≡ world terms facts.finding → IsFinding headed terms facts.finding → ((n : ℕ) → AreAskers (world terms facts.finding) (askers_at facts.invocations n)) → FindsOn headed (world terms facts.finding) (world known.tables.types.now known.facts.now.finding)
  pub same : known.facts.now ≡ with_finding facts known.facts.now.finding
  pub grows : Grows terms known.tables.types.now
  pub disagrees : known.disagrees.now ≡ with_clauses headed.heads.now.asked (length headed.file.syntax.now) (replicate (length headed.file.syntax.now) false)

-- where this is known of its nodes
pub record IsFirstOf (headed : Headed) (terms : List Term) (facts : Facts) (lists : Lists) (long : Long) (asked : Extent) (first : Option Refused) : Type 0 where
  pub known : Known
  pub headed_is : known.headed ≡ headed
  pub tables : AreTables known.tables headed.file lists long
  pub arena : IsArena known.tables.types.now
  pub routines : known.routines.now ≡ lists.routines.value
  pub asks : AreAsked headed terms facts known
  pub is : (items : ℕ → Item) → EquatesAscend known → WalksAscend known (bad_of_all known items lists.circles.order.items) items asked → first_in known (bad_of_all known items lists.circles.order.items) items asked ≡ first

-- where its headings are known, with these types
pub record IsFirstBy (headed : Headed) (before : List Term) (lists : Lists) (long : Long) (asked : Extent) (first : Option Refused) : Type 0 where
  pub terms : List Term
  pub facts : Facts
  pub noted : (items : ℕ → Item) → AreKnown headed items before (length headed.file.syntax.now) terms facts
  pub sound : HaveTypes headed (length before) → IsArena terms → IsSound headed terms facts
  pub grows : Grows before terms
  pub is : IsFirstOf headed terms facts lists long asked first

-- where its types are, as far as they stand in no heading: types that are refused are found by tables before
pub record IsFirstIn (file : File) (types : List Term) (lists : Lists) (asked : Extent) (first : Option Refused) : Type 0 where
  pub headed : Headed
  pub long : Long
  pub before : Tables
  pub refused : List Bool
  pub file_is : headed.file ≡ file
  pub long_are : AreLong types file.constants.now long
  pub tables : AreTables before file lists long
  pub types_are : before.types.now ≡ types
  pub refused_are : (items : ℕ → Item) → ValuesAscend before → refused ≡ refused_of before items lists.circles.order.items
  pub counts : headed.refused.now ≡ counts_to refused (length refused)
  pub terms : List Term
  pub heads : AreHeadsOf file.syntax.now file.rounds.now file.names.now.declared.items file.values.now refused types terms headed.heads.now
  pub grows : Grows types terms
  pub is : IsFirstBy headed terms lists long asked first

-- where its names and values are
pub record IsFirstWith (nodes : List Node) (rounds : List Round) (names : Names) (settled : Values) (library : List Spec) (asked : Extent) (first : Option Refused) : Type 0 where
  pub file : File
  pub types : List Term
  pub lists : Lists
  pub nodes_are : file.syntax.now ≡ nodes
  pub rounds_are : file.rounds.now ≡ rounds
  pub names_are : file.names.now ≡ names
  pub values : file.values.now ≡ settled.values.items
  pub constants : file.constants.now ≡ settled.constants
  pub library_is : file.library.now ≡ library
  pub bindings : AreBindings nodes rounds names settled.values.items file.bindings.now
  pub modules : AreModules file.bindings.now.modules (modules_in settled.types settled.values.items nodes library)
  pub numbered : AreNumbered nodes file.bindings.now.modules
  pub own : AreOwned types settled.values.items nodes (length nodes) file.bindings.now.own.items
  pub grows : Grows settled.types types
  pub lists_are : AreLists nodes rounds names lists
  pub is : IsFirstIn file types lists asked first

-- of these nodes, under these specifications
pub record IsFirst (nodes : List Node) (library : List Spec) (asked : Extent) (first : Option Refused) : Type 0 where
  pub rounds : List Round
  pub names : Names
  pub settled : Values
  pub surrounded : AreRounds nodes rounds
  pub names_are : AreNamed nodes rounds names
  pub values : AreValues nodes rounds names settled
  pub is : IsFirstWith nodes rounds names settled library asked first

-- ---- no fault comes first, and this is found

-- with these types and facts at last
pub record IsFoundOf (headed : Headed) (terms : List Term) (facts : Facts) (lists : Lists) (long : Long) (asked : Extent) (last : List Term) (now : Facts) : Type 0 where
  pub is : IsFirstOf headed terms facts lists long asked None
  pub types_are : is.known.tables.types.now ≡ last
  pub facts_are : is.known.facts.now ≡ now

-- the types of nodes, what they invoke and the specifications of modules, by what is known of them
pub record AreFoundBy (nodes : List Node) (known : Known) (last : List Term) (found : Found) : Type 0 where
  pub types_are : known.tables.types.now ≡ last
  pub type_of : found.type_of.items ≡ known.facts.now.types.items
  pub op_of : found.op_of.items ≡ operations_of last known.facts.now nodes
  pub own : AreMade last known.headed.heads.now.modules.items found.own.items

pub record IsFoundBy (headed : Headed) (before : List Term) (lists : Lists) (long : Long) (asked : Extent) (last : List Term) (found : Found) : Type 0 where
  pub is : IsFirstBy headed before lists long asked None
  pub are : AreFoundBy headed.file.syntax.now is.is.known last found

pub record IsFoundIn (file : File) (types : List Term) (lists : Lists) (asked : Extent) (last : List Term) (found : Found) : Type 0 where
  pub is : IsFirstIn file types lists asked None
  pub are : AreFoundBy file.syntax.now is.is.is.known last found

pub record IsFoundWith (nodes : List Node) (rounds : List Round) (names : Names) (settled : Values) (library : List Spec) (asked : Extent) (last : List Term) (found : Found) : Type 0 where
  pub is : IsFirstWith nodes rounds names settled library asked None
  pub are : AreFoundBy nodes is.is.is.is.known last found

-- with what constants and types come to at last
pub record AreFoundIn (nodes : List Node) (library : List Spec) (asked : Extent) (settled : Values) (found : Found) : Type 0 where
  pub is : IsFirst nodes library asked None
  pub are : AreFoundBy nodes is.is.is.is.is.known settled.types found
  pub values : settled.values.items ≡ is.settled.values.items
  pub constants : settled.constants ≡ is.settled.constants

-- what an accepted file is handed on with is what its tables say
pub record IsNoted (nodes : List Node) (library : List Spec) (checked : Checked) : Type 0 where
  pub is : IsFirst nodes library extent.Whole None
  pub types_are : is.is.is.is.is.known.tables.types.now ≡ checked.types
  pub type_of : checked.type_of.items ≡ is.is.is.is.is.known.facts.now.types.items
  pub op_of : checked.op_of.items ≡ operations_of checked.types is.is.is.is.is.known.facts.now nodes
  pub denoted : checked.denoted.items ≡ denoted_of is.settled.values.items nodes
  pub constant_of : checked.constant_of.items ≡ constants_of nodes is.settled.values.items
  pub constants : checked.constants ≡ is.settled.constants

-- and there is a specification of each of its modules, made of the head of its place
pub record AreOwn (nodes : List Node) (library : List Spec) (asked : Extent) (own : List Spec) : Type 0 where
  pub is : IsFirst nodes library asked None
  pub named : AreOf nodes (modules nodes) own
  pub made : AreMade is.is.is.is.is.known.tables.types.now is.is.is.is.is.known.headed.heads.now.modules.items own

-- ---- no fault comes first, and of a module there is no specification, though its headings are known

pub record IsUnspecifiedBy (headed : Headed) (before : List Term) (lists : Lists) (long : Long) (asked : Extent) : Type 0 where
  pub is : IsFirstBy headed before lists long asked None
  pub lost : AreSpecified headed.file.syntax.now before headed.heads.now.modules.items → ⊥

pub record IsUnspecifiedIn (file : File) (types : List Term) (lists : Lists) (asked : Extent) : Type 0 where
  pub is : IsFirstIn file types lists asked None
  pub lost : AreSpecified is.headed.file.syntax.now is.terms is.headed.heads.now.modules.items → ⊥

pub record IsUnspecifiedWith (nodes : List Node) (rounds : List Round) (names : Names) (settled : Values) (library : List Spec) (asked : Extent) : Type 0 where
  pub is : IsFirstWith nodes rounds names settled library asked None
  pub lost : AreSpecified is.is.headed.file.syntax.now is.is.terms is.is.headed.heads.now.modules.items → ⊥

pub record IsUnspecified (nodes : List Node) (library : List Spec) (asked : Extent) : Type 0 where
  pub is : IsFirst nodes library asked None
  pub lost : AreSpecified is.is.is.headed.file.syntax.now is.is.is.terms is.is.is.headed.heads.now.modules.items → ⊥
