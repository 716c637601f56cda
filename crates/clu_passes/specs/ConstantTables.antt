-- The tables that the rules on constants and types read.
use Rattle.std.specs.Prelude.{◌≡◌, ◌<◌, ◌&&◌, ℕ, Bool, true, false, List, [], ◌∷◌, length, slice_get, is_none, is_some, if◌then◌else◌, codes, Option, Some, None}
use Rattle.std.specs.List.{AllByRecursion}
use Rattle.std.specs.Option.{option_and_then}
use Rattle.clu_specs.specs.Texts.{type_text}
use Rattle.clu_specs.specs.Constants.{constant_text}
use Rattle.clu_tree.specs.declared.node.Node.{Node}
use Rattle.clu_tree.specs.declared.node.NodeKind.{NodeKind}
use Rattle.clu_tree.specs.declared.node.NodeKind.TheVariants as kind
use Rattle.clu_types.specs.declared.term.TypeId.{TypeId}
use Rattle.clu_types.specs.Arena.{types_of, type_at, IsArena}
use Rattle.clu_syntax.specs.declared.words.SimpleType.TheVariants as simple
use Rattle.clu_syntax.specs.Kinds.{is_type, kind_at}
use Rattle.clu_syntax.specs.Nodes.{item_at}
use Rattle.clu_syntax.specs.Syntax.{Identifier, TypeExpression}
use Rattle.clu_names.specs.Denotes.{found}
use Rattle.clu_meaning.specs.Scoping as means
use Rattle.clu_meaning.specs.Scoping.{Scope}
use Rattle.clu_checking.specs.Specifications.{Specification}
use Rattle.clu_checking.specs.Files.{File, item, is_kind, parent, children, meaning, is_of_module, equate_named}
use Rattle.clu_checking.specs.Equates.{is_set_name}
use Rattle.clu_checking.specs.Headings as headings
use Rattle.clu_checking.specs.Headings.{specification}
use Rattle.clu_checking.specs.Typing as typing
use Rattle.clu_checking.specs.Wanted as wants
use Rattle.clu_checking.specs.Wanted.{Wanted, an_object, some_objects, a_loop_call, a_constant, a_type, a_name_with_actuals, nothing, first_name_at, place_in, kinds_of}
use Rattle.clu_checking.specs.ConstantRules.{is_module_routine, is_right_side, is_long_text, is_word}
use Rattle.clu_settle.specs.declared.value.Value.TheVariants as value
use Rattle.clu_settle.specs.Values.{constant_at}
use Rattle.clu_settle.specs.Settled.{AreSettled}
use Rattle.clu_settle.specs.Standing.{is_cvt_type}
use Rattle.clu_settle.specs.Names.{is_constant}
use Rattle.clu_head.specs.ParameterKinds as head
use Rattle.clu_head.specs.Refused.{is_set}
use Rattle.clu_bindings.specs.declared.file.File.{File as Read}
use Rattle.clu_bindings.specs.declared.meaning.Meaning.{Meaning}
use Rattle.clu_bindings.specs.declared.meaning.Meaning.TheVariants as meant
use Rattle.clu_bindings.specs.declared.wanted.Wanted.{Wanted as WantedThere}
use Rattle.clu_bindings.specs.declared.wanted.Wanted.TheVariants as wanted
use Rattle.clu_bindings.specs.Named as table
use Rattle.clu_bindings.specs.Readers as read
use Rattle.clu_bindings.specs.Readers.{kind_in, round_in, value_in, wanted_in, meaning_in, module_in, kinds_in, is_routine, set_at, children_in, declared_parameter}
use Rattle.clu_name_rules.specs.declared.tables.Tables.{Tables}
use Rattle.clu_passes.specs.Legal.{AreLegalKnown}
use Rattle.clu_passes.specs.Marks.{AreMarks}
use Rattle.clu_passes.specs.Tables.{AreNames}

-- the file whose nodes and surroundings are read
abbrev pub file_with : Read → Scope → List Specification → List ℕ → File
file_with r scope library refused = record { nodes = r.syntax.now; rounds = r.rounds.now; scope = scope; library = library; refused = refused }

-- ---- what a name means

-- an equate is given by the node of its right side, a variable by that of its type
abbrev pub Means : List Node → Meaning → means.Meaning → Type 0
Means nodes (meant.Equate c) m = (is_constant nodes c ≡ true) × (m ≡ means.is_equate (item_at nodes c).constant)
Means nodes meant.TypeSet m = m ≡ means.is_type_set
Means nodes (meant.TypeParameter k) m = m ≡ means.is_type_parameter k
Means nodes (meant.ConstantParameter k) m = m ≡ means.is_constant_parameter k
Means nodes (meant.Local t) m = m ≡ means.is_local (item_at nodes t).type
Means nodes (meant.OwnOfRoutine t) m = m ≡ means.is_own_of_routine (item_at nodes t).type
Means nodes (meant.OwnOfCluster t) m = m ≡ means.is_own_of_cluster (item_at nodes t).type
Means nodes meant.RoutineOfCluster m = m ≡ means.is_routine_of_cluster
Means nodes (meant.Module its) m = m ≡ means.is_module

-- an equate, of a type set too
abbrev pub is_equated : means.Meaning → Bool
is_equated (means.is_equate c) = true
is_equated means.is_type_set = true
is_equated _ = false

-- ---- what is wanted

abbrev pub wanted_told : WantedThere → Wanted
wanted_told wanted.Object = an_object
wanted_told wanted.Objects = some_objects
wanted_told wanted.LoopCall = a_loop_call
wanted_told wanted.Constant = a_constant
wanted_told wanted.Type = a_type
wanted_told wanted.NameWithActuals = a_name_with_actuals
wanted_told wanted.Nothing = nothing

-- ---- types of parameters

abbrev pub IsTypeOf : List Node → Option ℕ → Option TypeExpression → Type 0
IsTypeOf nodes (Some c) (Some t) = (is_type (kind_at nodes c) ≡ true) × ((item_at nodes c).type ≡ t)
IsTypeOf nodes None None = Unit {0}
IsTypeOf nodes _ _ = ⊥

-- ---- what is lost violates no rule by itself

abbrev pub IsKnown : Read → ℕ → Type 0
IsKnown r n = value_in r n ≡ value.Lost → ⊥

abbrev pub IsEquateKnown : Read → Meaning → Type 0
IsEquateKnown r (meant.Equate c) = IsKnown r c
IsEquateKnown r _ = Unit {0}

-- the value of an equate that stands before the brackets of an Index is known, so it is known what stands in them
abbrev pub IsFirstKnown : Read → List ℕ → Type 0
IsFirstKnown r [] = Unit {0}
IsFirstKnown r (c ∷ cs) = IsEquateKnown r (meaning_in r c)

abbrev pub IsIndexKnown : Read → ℕ → Type 0
IsIndexKnown r n = kind_in r n ≡ kind.Index → IsFirstKnown r (children_in r n)

abbrev pub IsIndexKnownAt : Read → Option ℕ → Type 0
IsIndexKnownAt r (Some n) = IsIndexKnown r n
IsIndexKnownAt r None = Unit {0}

-- so it is of the brackets in which the node stands, if it stands in some
abbrev pub IsWantedKnown : Read → ℕ → Type 0
IsWantedKnown r n = IsIndexKnownAt r (round_in r n).parent

-- of those that it has itself, of those in which it stands, and of those in which its parent does
pub record AreBracketsKnown (r : Read) (n : ℕ) : Type 0 where
  pub own : IsIndexKnown r n
  pub round : IsWantedKnown r n
  pub above : (p : ℕ) → (round_in r n).parent ≡ Some p → IsWantedKnown r p

-- the value of an operator or of what stands in parentheses is known
abbrev pub IsOperatorKnown : Read → NodeKind → ℕ → Type 0
IsOperatorKnown r kind.Infix n = IsKnown r n
IsOperatorKnown r kind.Prefix n = IsKnown r n
IsOperatorKnown r kind.Paren n = IsKnown r n
IsOperatorKnown r _ n = Unit {0}

-- that of the equate which a type by its name or the word `rep` denotes
abbrev pub IsTypeNameKnown : Read → NodeKind → ℕ → Type 0
IsTypeNameKnown r kind.NameT n = IsEquateKnown r (meaning_in r n)
IsTypeNameKnown r kind.Simple n = is_word simple.Rep (item_at r.syntax.now n).type ≡ true → IsEquateKnown r (meaning_in r n)
IsTypeNameKnown r _ n = Unit {0}

-- of all in which nodes stand at which nothing is lost
abbrev pub AreWantedKnown : Read → (ℕ → Bool) → Type 0
AreWantedKnown r lost = (n : ℕ) → lost n ≡ false → IsWantedKnown r n

-- ---- modules by name

-- the table has what this name means at the node, and if it is a module, of which kinds its parameters are and whether it is
-- a routine
pub record IsMeant (f : File) (r : Read) (n : ℕ) (name : Identifier) : Type 0 where
  pub means : Means f.nodes (meaning_in r n) (meaning f n name)
  pub kinds : AreLegalKnown f r.values.now → kinds_in r (module_in r n) ≡ (if is_of_module f n name then kinds_of (specification f name) else [])
  pub routine : is_routine r (module_in r n) ≡ is_module_routine f n name

-- ---- the tables

pub record AreTables (f : File) (t : Tables) : Type 0 where
  pub names : AreNames f t.file.names.now
  pub marks : AreMarks f t.circular.now
  pub arena : IsArena t.types.now
  -- what is known of a value is so
  pub values : AreSettled f.nodes f.scope t.types.now t.file.constants.now t.file.values.now
  -- nothing is known of `cvt`
  pub cvt : (n : ℕ) → is_type (kind_at f.nodes n) ≡ true → is_cvt_type (item_at f.nodes n).type ≡ true → value_in t.file n ≡ value.Lost
  -- a type whose value is lost is none that a parameter may have
  pub legal : AreLegalKnown f t.file.values.now
  -- the first name of a Name, of a type by its name and of a Restrict, and the word `rep`
  pub named : (n : ℕ) → kind_at f.nodes n ≡ kind.Name → IsMeant f t.file n (first_name_at f n)
  pub named_types : (n : ℕ) → kind_at f.nodes n ≡ kind.NameT → IsMeant f t.file n (first_name_at f n)
  pub restricted : (n : ℕ) → kind_at f.nodes n ≡ kind.Restrict → Means f.nodes (meaning_in t.file n) (meaning f n (first_name_at f n))
  pub reps : (n : ℕ) → kind_at f.nodes n ≡ kind.Simple → is_word simple.Rep (item f n).type ≡ true → Means f.nodes (meaning_in t.file n) (meaning f n (codes "rep"))
  pub equates : (n : ℕ) (name : Identifier) → is_some (equate_named f n name) ≡ is_equated (meaning f n name)
  pub sets : (n : ℕ) (name : Identifier) → is_some (set_at t.file (found f.scope.declarations name n)) ≡ is_set_name f n name
  pub takers : (n : ℕ) → IsEquateKnown t.file (meaning_in t.file n) → read.takes_actuals t.file n ≡ (is_kind f kind.Name n && typing.takes_actuals f n (first_name_at f n))
  pub wanted : (n : ℕ) → IsWantedKnown t.file n → wanted_told (wanted_in t.file n) ≡ wants.wanted f n
  pub places : (n p : ℕ) → parent f n ≡ Some p → read.place_in t.file n ≡ place_in f (children f p) n
  pub parameters : (n k : ℕ) → IsTypeOf f.nodes (declared_parameter t.file n k) (headings.declared_parameter f n k)
  -- what stands on the right side of an equate is a constant or a type set
  pub sides : (n : ℕ) → is_right_side f n ≡ true → is_constant f.nodes n ≡ true
  -- of types that are values of nodes
  pub long_types : (n : ℕ) (id : TypeId) → value_in t.file n ≡ value.Type id → is_set (slice_get t.long_types.now id.0) ≡ is_long_text (type_text (type_at (types_of t.types.now) id))
  pub long_constants : (k : ℕ) → k < length t.file.constants.now → is_set (slice_get t.long_constants.now k) ≡ is_long_text (constant_text (constant_at t.file.constants.now k))

-- the bits of bad equates
abbrev pub AreBad : File → List Bool → (ℕ → Bool) → Type 0
AreBad f bits bad = (e : ℕ) → is_kind f kind.Equate e ≡ true → is_set (slice_get bits e) ≡ bad e

-- the values of the children are known
abbrev pub AreChildrenKnown : Read → ℕ → Type 0
AreChildrenKnown r n = AllByRecursion (IsKnown r) (children_in r n)
