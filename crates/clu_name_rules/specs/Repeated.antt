-- Names that stand twice in a list, and the first item of each name: of what is noted one after the other, the latest first.
use Rattle.std.specs.Prelude.{◌≡◌, ℕ, zero, suc, ◌==◌, not, Bool, true, false, List, [], ◌∷◌, length, take, replicate, set, slice_get, is_none, cond, if◌then◌else◌, fold, Option, Some, None}
use Rattle.std.specs.HashMap.{get}
use Rattle.clu_tree.specs.declared.node.Node.{Node}
use Rattle.clu_tree.specs.declared.node.NodeKind.{NodeKind}
use Rattle.clu_tree.specs.declared.node.NodeKind.TheVariants as kind
use Rattle.clu_syntax.specs.Items.{no_item}
use Rattle.clu_syntax.specs.Kinds.{kind_at}
use Rattle.clu_syntax.specs.Nodes.{item_with}
use Rattle.clu_syntax.specs.Splits.{children_of}
use Rattle.clu_names.specs.declared.scopes.Declared.{Declared}
use Rattle.clu_settle.specs.Names.{names_of}
use Rattle.clu_name_rules.specs.declared.repeated.ListKind.{ListKind}
use Rattle.clu_name_rules.specs.declared.repeated.ListKind.TheVariants as list
use Rattle.clu_name_rules.specs.declared.repeated.Listed.{Listed}
use Rattle.clu_name_rules.specs.declared.repeated.Items.{Items}
use Rattle.clu_name_rules.specs.contracts.repeated.ListedPartialEq.TheImpl as listed
use Rattle.clu_name_rules.specs.Words.{number_of}

abbrev pub same : Listed → Listed → Bool
same = (listed.ghosts).eq

-- a name in a list, and the node that has it
pub record Note : Type 0 where
  pub name : Listed
  pub node : ℕ

-- ---- what is known after some notes

-- what was noted first stays
abbrev pub put_first : Option ℕ → Bool → ℕ → Option ℕ → Option ℕ
put_first (Some first) is n old = old
put_first None is n old = cond is (Some n) old

-- the first node of a name
abbrev pub first_in : List Note → Listed → Option ℕ
first_in [] name = None
first_in (note ∷ before) name = put_first (first_in before note.name) (same note.name name) note.node (first_in before name)

-- a name that an item of this kind has already is one too many: one exception and one arm may have it twice, and two routines of
-- a cluster are declarations
abbrev pub is_refused : ListKind → Bool → Bool
is_refused list.Exceptions is_same = not is_same
is_refused list.WhenArms is_same = not is_same
is_refused list.Routines is_same = false
is_refused _ is_same = true

abbrev pub marked : Option ℕ → Note → List Bool → List Bool
marked (Some first) note bits = if is_refused note.name.kind (first == note.node) then set bits note.node true else bits
marked None note bits = bits

-- for each of so many nodes whether a name of it is refused
abbrev pub repeated_in : ℕ → List Note → List Bool
repeated_in nodes [] = replicate nodes false
repeated_in nodes (note ∷ before) = marked (first_in before note.name) note (repeated_in nodes before)

pub record AreNoted (nodes : ℕ) (notes : List Note) (items : Items) : Type 0 where
  pub first : (name : Listed) → get same items.first name ≡ first_in notes name
  pub repeated : items.repeated.items ≡ repeated_in nodes notes

-- one step brings this to what was noted
abbrev pub Notes : (List Note → List Note) → Items → Items → Type 0
Notes more old new = (nodes : ℕ) (notes : List Note) → AreNoted nodes notes old → AreNoted nodes (more notes) new

-- ---- what is noted of a file, where `all` numbers its names

-- the list in which items of this kind stand
abbrev pub list_of : NodeKind → Option ListKind
list_of kind.Exc = Some list.Exceptions
list_of kind.Decl = Some list.Declared
list_of kind.FieldT = Some list.Selectors
list_of kind.FieldE = Some list.Components
list_of kind.When = Some list.WhenArms
list_of kind.TagArm = Some list.Tags
list_of kind.Routine = Some list.Routines
list_of _ = None

-- the exported names of a cluster
abbrev pub exports_at : List Node → ℕ → List (List ℕ)
exports_at nodes n = (item_with (λ m. no_item) nodes n (slice_get nodes n)).cluster.exports

-- the tags of an arm
abbrev pub tags_at : List Node → ℕ → List (List ℕ)
tags_at nodes n = (item_with (λ m. no_item) nodes n (slice_get nodes n)).tag_arm.tags

module _ (nodes : List Node) where
  -- the names of an item of a list: of an arm its tags, of a routine the first
  abbrev pub item_names : ListKind → ℕ → List (List ℕ)
  item_names list.Tags n = tags_at nodes n
  item_names list.Routines n = take 1 (names_of (slice_get nodes n))
  item_names _ n = names_of (slice_get nodes n)

  -- the names of a node that are a list by themselves
  abbrev pub own_names : NodeKind → ℕ → List (List ℕ)
  own_names kind.Equate n = names_of (slice_get nodes n)
  own_names kind.Parm n = names_of (slice_get nodes n)
  own_names kind.Init n = names_of (slice_get nodes n)
  own_names kind.Own n = names_of (slice_get nodes n)
  own_names kind.Others n = names_of (slice_get nodes n)
  own_names kind.Cluster n = exports_at nodes n
  own_names _ n = []

module _ (all : List (List ℕ)) where
  abbrev pub listed_name : ℕ → ListKind → List ℕ → Listed
  listed_name top k name = record { list = top; kind = k; word = number_of all name }

  abbrev pub with_name : ℕ → ListKind → ℕ → List Note → List ℕ → List Note
  with_name top k n before name = record { name = listed_name top k name; node = n } ∷ before

  abbrev pub with_names : ℕ → ListKind → ℕ → List (List ℕ) → List Note → List Note
  with_names top k n names before = fold (with_name top k n) before names

  -- the modules, in the list that is no node
  abbrev pub with_module : ℕ → List Note → Declared → List Note
  with_module nodes before d = if is_none d.unit then with_name nodes list.Modules d.node before d.name else before

  module _ (nodes : List Node) where
    abbrev pub with_item_of : Option ListKind → ℕ → ℕ → List Note → List Note
    with_item_of None top n before = before
    with_item_of (Some k) top n before = with_names top k n (item_names nodes k n) before

    abbrev pub with_item : ℕ → List Note → ℕ → List Note
    with_item top before n = with_item_of (list_of (kind_at nodes n)) top n before

    -- a node as a list: its items, and its own names
    abbrev pub with_node : ℕ → List Note → List Note
    with_node n before = with_names n list.Names n (own_names nodes (kind_at nodes n) n) (fold (with_item n) before (children_of (slice_get nodes n)))

    abbrev pub with_nodes : ℕ → List Note → List Note
    with_nodes zero before = before
    with_nodes (suc n) before = with_node n (with_nodes n before)

    -- all notes of a file
    abbrev pub notes_of : List Declared → List Note
    notes_of ds = fold (with_module (length nodes)) (with_nodes (length nodes) []) ds
