-- The names that stand twice, as they are noted of a file; and what its tree has.
use Rattle.std.specs.Prelude.{◌≡◌, ◌&&◌, ◌==◌, not, Bool, true, false, ℕ, List, [], ◌∷◌, length, map, filter, slice_get, Some, None}
use Rattle.std.specs.List.{list_any}
use Rattle.clu_tree.specs.declared.node.NodeKind.{NodeKind}
use Rattle.clu_tree.specs.declared.node.NodeKind.TheVariants as kind
use Rattle.clu_names.specs.declared.scopes.Declared.{Declared}
use Rattle.clu_names.specs.Latest.{is_local}
use Rattle.clu_checking.specs.Files.{File, item, kind_in, is_kind, parent, children}
use Rattle.clu_name_rules.specs.Closed.{is_definition}
use Rattle.clu_name_rules.specs.Words.{words_to}
use Rattle.clu_name_rules.specs.Repeated.{list_of, repeated_in, notes_of}

abbrev pub has : ℕ → List ℕ → Bool
has n ns = list_any (λ m. m == n) ns

abbrev pub each_once : List ℕ → Bool
each_once [] = true
each_once (n ∷ ns) = not (has n ns) && each_once ns

-- each node stands once among the children of its parent, and among those of no other node, as the tree of a file has it; what
-- is an item of a list has a parent
pub record HaveParents (f : File) : Type 0 where
  pub above : (m n : ℕ) → has n (children f m) ≡ true → parent f n ≡ Some m
  pub below : (m n : ℕ) → parent f n ≡ Some m → has n (children f m) ≡ true
  pub once : (m : ℕ) → each_once (children f m) ≡ true
  pub items : (n : ℕ) → parent f n ≡ None → list_of (kind_in f n) ≡ None

-- the routines of a cluster are its children that are routines, as the grammar has it
abbrev pub HaveRoutines : File → Type 0
HaveRoutines f = (n : ℕ) → kind_in f n ≡ kind.Cluster → map (λ c. (item f c).routine) (filter (is_kind f kind.Routine) (children f n)) ≡ (item f n).cluster.routines

-- what is declared outside of every module is a module
abbrev pub DeclareModules : File → Type 0
DeclareModules f = (j : ℕ) (d : Declared) → slice_get f.scope.declarations j ≡ Some d → is_local d.unit ≡ false → is_definition (kind_in f d.node) ≡ true

-- the bits are those that `Items` has of the file
abbrev pub AreRepeated : File → List Bool → Type 0
AreRepeated f bits = bits ≡ repeated_in (length f.nodes) (notes_of (words_to f.nodes (length f.nodes)) f.nodes f.scope.declarations)

-- a name of such a node stands twice if another item of its list has it before, or the node itself has it twice
abbrev pub is_listed_item : NodeKind → Bool
is_listed_item kind.Decl = true
is_listed_item kind.FieldT = true
is_listed_item kind.FieldE = true
is_listed_item _ = false

-- only another item
abbrev pub is_arm : NodeKind → Bool
is_arm kind.Exc = true
is_arm kind.When = true
is_arm _ = false

-- the names of such a node are a list by themselves
abbrev pub is_own_list : NodeKind → Bool
is_own_list kind.Equate = true
is_own_list kind.Parm = true
is_own_list kind.Init = true
is_own_list kind.Own = true
is_own_list kind.Others = true
is_own_list _ = false
