-- Which nodes are an expr, a type and a stmt of the language.
use Rattle.std.specs.Prelude.{Bool, true, false}
use Rattle.clu_tree.specs.declared.node.NodeKind.{NodeKind}
use Rattle.clu_tree.specs.declared.node.NodeKind.TheVariants as k

-- expr = Infix / Prefix / Paren / primary
abbrev pub is_expression : NodeKind → Bool
is_expression k.Infix = true
is_expression k.Prefix = true
is_expression k.Paren = true
is_expression k.Literal = true
is_expression k.Name = true
is_expression k.Index = true
is_expression k.Get = true
is_expression k.Call = true
is_expression k.Fields = true
is_expression k.Elems = true
is_expression k.OperOf = true
is_expression k.Force = true
is_expression k.Up = true
is_expression k.Down = true
is_expression _ = false

-- type = Simple / ListT / FieldsT / RoutineT / NameT
abbrev pub is_type : NodeKind → Bool
is_type k.Simple = true
is_type k.ListT = true
is_type k.FieldsT = true
is_type k.RoutineT = true
is_type k.NameT = true
is_type _ = false

abbrev pub is_statement : NodeKind → Bool
is_statement k.Declare = true
is_statement k.Init = true
is_statement k.Assign = true
is_statement k.SetField = true
is_statement k.SetIndex = true
is_statement k.CallS = true
is_statement k.While = true
is_statement k.For = true
is_statement k.If = true
is_statement k.Tagcase = true
is_statement k.Return = true
is_statement k.Yield = true
is_statement k.Signal = true
is_statement k.Exit = true
is_statement k.Break = true
is_statement k.Continue = true
is_statement k.Begin = true
is_statement k.Resignal = true
is_statement k.Except = true
is_statement _ = false
