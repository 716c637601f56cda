-- How many children and names a node has at least, by its kind.
use Rattle.std.specs.Prelude.{ℕ, ◌≤◌, length}
use Rattle.clu_tree.specs.declared.node.Node.{Node}
use Rattle.clu_tree.specs.declared.node.NodeKind.{NodeKind}
use Rattle.clu_tree.specs.declared.node.NodeKind.TheVariants as kind

abbrev pub least_children : NodeKind → ℕ
least_children kind.Infix = 2
least_children kind.Prefix = 1
least_children kind.Paren = 1
least_children kind.Index = 1
least_children kind.Get = 1
least_children kind.Call = 1
least_children kind.Fields = 1
least_children kind.FieldE = 1
least_children kind.Elems = 1
least_children kind.OperOf = 1
least_children kind.Force = 1
least_children kind.Up = 1
least_children kind.Down = 1
least_children kind.ListT = 1
least_children kind.FieldT = 1
least_children kind.Oper = 1
least_children kind.Decl = 1
least_children kind.Equate = 1
least_children kind.Declare = 1
least_children kind.Init = 2
least_children kind.Assign = 1
least_children kind.SetField = 2
least_children kind.SetIndex = 3
least_children kind.CallS = 1
least_children kind.While = 1
least_children kind.For = 1
least_children kind.If = 1
least_children kind.Tagcase = 1
least_children kind.Resignal = 1
least_children kind.Except = 1
least_children kind.Module = 1
least_children _ = 0

abbrev pub least_names : NodeKind → ℕ
least_names kind.Name = 1
least_names kind.Get = 1
least_names kind.OperOf = 1
least_names kind.NameT = 1
least_names kind.SetField = 1
least_names kind.Signal = 1
least_names kind.Exit = 1
least_names kind.Exc = 1
least_names kind.TypeSet = 2
least_names kind.Restrict = 1
least_names kind.TagArm = 1
least_names kind.Routine = 2
least_names kind.Cluster = 3
least_names _ = 0

pub record HasEnough (n : Node) : Type 0 where
  pub children : least_children n.kind ≤ length n.children
  pub names : least_names n.kind ≤ length n.names
