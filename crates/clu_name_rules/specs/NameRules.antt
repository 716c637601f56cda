-- The rules on names over the tables that they read: V4 LiteralRange, V5 UnknownName, V6 DefinedTwice,
-- V7 CircularEquate, V37 OwnPlace.
use Rattle.std.specs.Prelude.{ℕ, ◌+◌, ◌-◌, ◌*◌, ◌&&◌, ◌||◌, ◌==◌, nat_lt, not, is_none, is_some, Bool, true, false, if◌then◌else◌, List, [], ◌∷◌, length, take, drop, get_or, slice_get, Option, Some, None}
use Rattle.std.specs.List.{list_any, range_with_len}
use Rattle.clu_literal.specs.Literal.{char_denoted}
use Rattle.clu_tree.specs.declared.node.Node.{Node}
use Rattle.clu_tree.specs.declared.node.NodeKind.{NodeKind}
use Rattle.clu_tree.specs.declared.node.NodeKind.TheVariants as kind
use Rattle.clu_syntax.specs.declared.round.Round.{Round}
use Rattle.clu_syntax.specs.Items.{Item}
use Rattle.clu_syntax.specs.Kinds.{kind_at}
use Rattle.clu_syntax.specs.Nodes.{item_with}
use Rattle.clu_syntax.specs.Rounds.{round_at}
use Rattle.clu_syntax.specs.Syntax.{Expression, a_literal, Literal, integer, character, string}
use Rattle.clu_names.specs.Denotes.{rank}
use Rattle.clu_names.specs.Scopes.{is_stream}
use Rattle.clu_names.specs.declared.scopes.Declared.{Declared}
use Rattle.clu_names.specs.declared.binding.Names.{Names}
use Rattle.clu_settle.specs.declared.value.Value.{Value}
use Rattle.clu_settle.specs.declared.value.Value.TheVariants as value
use Rattle.clu_bindings.specs.declared.meaning.Meaning.{Meaning}
use Rattle.clu_bindings.specs.declared.meaning.Meaning.TheVariants as meaning
use Rattle.clu_head.specs.Refused.{is_set}
use Rattle.clu_head.specs.There.{is_there}
use Rattle.clu_settle.specs.Names.{names_of}
use Rattle.clu_bindings.specs.Files.{stands_in, bound_in, declaring_node, declared_by}

-- ---- V4: a literal is out of range, by the value to which it comes

-- what decimal digits write after a number
abbrev pub number_after : ℕ → List ℕ → ℕ
number_after n [] = n
number_after n (digit ∷ digits) = number_after (10 * n + (digit - 48)) digits

abbrev pub is_large : ℕ → Bool
is_large n = nat_lt 9223372036854775807 n

-- it comes to no value
abbrev pub is_nothing : Value → Bool
is_nothing value.Nothing = true
is_nothing _ = false

-- a literal that comes to this value; of a string the value says whether an octal code in it is too large
abbrev pub is_out_of_range : Literal → Value → Bool
is_out_of_range (integer digits) v = is_large (number_after 0 digits)
is_out_of_range (character text) v = is_none (char_denoted text)
is_out_of_range (string text) v = is_nothing v
is_out_of_range _ v = false

abbrev pub is_literal_out_of_range : Expression → Value → Bool
is_literal_out_of_range (a_literal n literal) v = is_out_of_range literal v
is_literal_out_of_range _ v = false

-- ---- V5: a name denotes nothing

-- it is the name of a module that is there
abbrev pub is_module : Meaning → Bool
is_module (meaning.Module its) = is_some its
is_module _ = false

abbrev pub is_known : List ℕ → Option ℕ → Meaning → Bool
is_known name bound meant = is_some bound || is_module meant || is_stream name

-- by what each name is bound to and means
abbrev pub has_unknown : List (List ℕ) → List (Option ℕ) → List Meaning → Bool
has_unknown (name ∷ names) (bound ∷ bounds) (meant ∷ meanings) = not (is_known name bound meant) || has_unknown names bounds meanings
has_unknown _ _ _ = false

-- at a node of this kind; the first name of a type set is declared there
abbrev pub uses_unknown : NodeKind → List (List ℕ) → List (Option ℕ) → List Meaning → Bool
uses_unknown kind.Name names bounds meanings = has_unknown names bounds meanings
uses_unknown kind.NameT names bounds meanings = has_unknown names bounds meanings
uses_unknown kind.Assign names bounds meanings = has_unknown names bounds meanings
uses_unknown kind.For names bounds meanings = has_unknown names bounds meanings
uses_unknown kind.Restrict names bounds meanings = has_unknown names bounds meanings
uses_unknown kind.TypeSet names bounds meanings = has_unknown (drop 1 names) (drop 1 bounds) (drop 1 meanings)
uses_unknown _ names bounds meanings = false

-- ---- V6: a name is defined twice

abbrev pub same_unit : Option ℕ → Option ℕ → Bool
same_unit (Some a) (Some b) = a == b
same_unit _ _ = false

-- the declaration d at the place k comes before another one of its module: its scope ends later, or it stands before it
abbrev pub comes_before : ℕ → Declared → ℕ → Declared → Bool
comes_before k d own e = same_unit d.unit e.unit && (nat_lt (rank e) (rank d) || (rank d == rank e && nat_lt k own))

abbrev pub both_before : ℕ → Option Declared → ℕ → Option Declared → Bool
both_before k (Some d) own (Some e) = comes_before k d own e
both_before k _ own _ = false

module _ (ds : List Declared) where
  -- the name that is declared at this place is bound there to a declaration that comes before
  abbrev pub is_redefined : ℕ → Option ℕ → Bool
  is_redefined own (Some k) = both_before k (slice_get ds k) own (slice_get ds own)
  is_redefined own None = false

  -- so is one of the names whose declarations follow one another from this place on
  abbrev pub has_redefined : ℕ → List (Option ℕ) → Bool
  has_redefined own [] = false
  has_redefined own (bound ∷ bounds) = nat_lt own (length ds) && (is_redefined own bound || has_redefined (own + 1) bounds)

-- what the names that a node of this kind declares in its module are bound to there: of an arm that is the last name, if it
-- declares a variable, of a type set and a routine the first. The word `rep` is no name
abbrev pub if_named : List (List ℕ) → List (Option ℕ) → List (Option ℕ)
if_named [] bounds = []
if_named (name ∷ names) bounds = bounds

abbrev pub last_if : Bool → List (Option ℕ) → List (Option ℕ)
last_if true bounds = drop (length bounds - 1) bounds
last_if false bounds = []

abbrev pub bound_defined : NodeKind → List (List ℕ) → Bool → List (Option ℕ) → List (Option ℕ)
bound_defined kind.Equate names with_variable bounds = if_named names bounds
bound_defined kind.Parm names with_variable bounds = bounds
bound_defined kind.Decl names with_variable bounds = bounds
bound_defined kind.Init names with_variable bounds = bounds
bound_defined kind.Own names with_variable bounds = bounds
bound_defined kind.Others names with_variable bounds = bounds
bound_defined kind.Routine names with_variable bounds = take 1 bounds
bound_defined kind.TypeSet names with_variable bounds = take 1 bounds
bound_defined kind.TagArm names with_variable bounds = last_if with_variable bounds
bound_defined _ names with_variable bounds = []

-- an arm that does
abbrev pub declares_variable : (ℕ → Item) → List Node → ℕ → Bool
declares_variable items nodes n = is_there kind.TagArm (slice_get nodes n) && is_some (item_with items nodes n (slice_get nodes n)).tag_arm.variable

-- names that stand twice at a node of this kind are defined twice; of selectors, tags and arms other rules are asked
abbrev pub is_listed_once : NodeKind → Bool
is_listed_once kind.Equate = true
is_listed_once kind.Parm = true
is_listed_once kind.Decl = true
is_listed_once kind.Init = true
is_listed_once kind.Own = true
is_listed_once kind.Others = true
is_listed_once kind.Exc = true
is_listed_once kind.Routine = true
is_listed_once kind.Cluster = true
is_listed_once _ = false

abbrev pub is_module_node : List Node → List Round → ℕ → Bool
is_module_node nodes rounds n = is_there kind.Cluster (slice_get nodes n) || (is_there kind.Routine (slice_get nodes n) && stands_in nodes rounds kind.Module n)

abbrev pub begins_with_stream : List (List ℕ) → Bool
begins_with_stream [] = false
begins_with_stream (name ∷ names) = is_stream name

-- `repeated` says of each node whether a name stands twice there, `own` where its declarations begin
abbrev pub is_defined_twice : (ℕ → Item) → List Node → List Round → Names → List Bool → List ℕ → ℕ → Bool
is_defined_twice items nodes rounds names repeated own n =
    (is_listed_once (kind_at nodes n) && is_set (slice_get repeated n))
    || ((is_module_node nodes rounds n && begins_with_stream (names_of (slice_get nodes n)))
    || has_redefined names.declared.items (get_or own n (length names.declared.items)) (bound_defined (kind_at nodes n) (names_of (slice_get nodes n)) (declares_variable items nodes n) (bound_in names n)))

-- ---- names of circular and bad equates

abbrev pub is_marked : List Bool → Option ℕ → Bool
is_marked marks (Some place) = is_set (slice_get marks place)
is_marked marks None = false

abbrev pub equate_of : List Node → Option ℕ → Option ℕ
equate_of nodes (Some n) = if is_there kind.Equate (slice_get nodes n) then Some n else None
equate_of nodes None = None

abbrev pub is_bad_at : List Bool → Option ℕ → Bool
is_bad_at bad (Some e) = is_set (slice_get bad e)
is_bad_at bad None = false

module _ (nodes : List Node) (names : Names) (marks bad : List Bool) where
  abbrev pub is_bad_name : Option ℕ → Bool
  is_bad_name bound = is_bad_at bad (equate_of nodes (declaring_node names bound)) && not (is_marked marks bound)

  abbrev pub is_unusable : Option ℕ → Bool
  is_unusable bound = is_marked marks bound || is_bad_name bound

  -- V6 of demands: `disagrees` says of each node whether a demand of it disagrees with one before it; nothing is asked by a
  -- type set that is bad or circular
  abbrev pub disagrees_by : List Bool → NodeKind → ℕ → Bool
  disagrees_by disagrees kind.Oper n = is_set (slice_get disagrees n)
  disagrees_by disagrees kind.Restrict n = is_set (slice_get disagrees n) && not (list_any is_unusable (bound_in names n))
  disagrees_by disagrees _ n = false

-- ---- V7: a name leads to an equate whose unfolding meets itself

-- at a node of this kind, whose names denote these declarations
abbrev pub leads_to_mark : List Bool → NodeKind → List (Option ℕ) → Bool
leads_to_mark marks kind.Name bound = list_any (is_marked marks) bound
leads_to_mark marks kind.NameT bound = list_any (is_marked marks) bound
leads_to_mark marks kind.Simple bound = list_any (is_marked marks) bound
leads_to_mark marks kind.Restrict bound = list_any (is_marked marks) bound
leads_to_mark marks _ bound = false

-- ---- V37: the initialiser of an own variable names a formal argument

module _ (nodes : List Node) (rounds : List Round) (names : Names) where
  abbrev pub is_argument : Option ℕ → Bool
  is_argument (Some d) = is_there kind.Decl (slice_get nodes d) && stands_in nodes rounds kind.Routine d
  is_argument None = false

  abbrev pub names_argument : ℕ → Bool
  names_argument n = is_there kind.Name (slice_get nodes n) && is_argument (declared_by names n)

  -- some node below an Own does
  abbrev pub takes_argument : ℕ → Bool
  takes_argument n = is_there kind.Own (slice_get nodes n) && list_any names_argument (range_with_len (round_at rounds n).first (n - (round_at rounds n).first))
