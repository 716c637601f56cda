-- The first declaration of a node, and nodes that declare all their names.
use Rattle.std.specs.Prelude.{ℕ, suc, ◌==◌, Bool, true, false, List, [], ◌∷◌, if◌then◌else◌}
use Rattle.clu_tree.specs.declared.node.NodeKind.{NodeKind}
use Rattle.clu_tree.specs.declared.node.NodeKind.TheVariants as kind
use Rattle.clu_names.specs.declared.scopes.Declared.{Declared}

-- the place of the first declaration of the node m, where the first of the list has the place k
abbrev pub first_from : ℕ → List Declared → ℕ → ℕ → ℕ
first_from k [] m none = none
first_from k (d ∷ ds) m none = if d.node == m then k else first_from (suc k) ds m none

-- all names of such a node are its own
abbrev pub declares_all : NodeKind → Bool
declares_all kind.Equate = true
declares_all kind.Parm = true
declares_all kind.Decl = true
declares_all kind.Init = true
declares_all kind.Own = true
declares_all _ = false
