-- The parts of a node, kind by kind, as the syntax reads them (clu_syntax, `Nodes`): their numbers, in the order of the text.
use Rattle.std.specs.Prelude.{◌++◌, ℕ, List, [], ◌∷◌, take, drop, Option, Some, None}
use Rattle.clu_tree.specs.declared.node.Node.{Node}
use Rattle.clu_tree.specs.declared.node.NodeKind.{NodeKind}
use Rattle.clu_tree.specs.declared.node.NodeKind.TheVariants as kind
use Rattle.clu_syntax.specs.Splits.{child, last_child, leading_types, leading_items, leading_before, run, after_run, after_one, one_of, type_of, after_option}
use Rattle.clu_syntax.specs.Syntax.{Identifier}

abbrev pub list_of : Option ℕ → List ℕ
list_of None = []
list_of (Some c) = c ∷ []

-- the body after `else` or `others`, if that is the value of the node
abbrev pub otherwise_parts : Option ℕ → List ℕ → List ℕ
otherwise_parts None cs = []
otherwise_parts (Some at) cs = cs

abbrev pub taken_parts : Option ℕ → List ℕ → List ℕ
taken_parts None decls = decls
taken_parts (Some at) decls = []

abbrev pub restricted_parts : List Identifier → Option ℕ → List ℕ → List ℕ
restricted_parts names (Some c) cs = c ∷ []
restricted_parts (a ∷ b ∷ names) None cs = []
restricted_parts names None cs = cs

-- where `decls` are the declarations, behind which the others stand
abbrev pub owned_parts : List Identifier → List ℕ → List ℕ → List ℕ
owned_parts [] decls [] = decls
owned_parts [] decls (c ∷ cs) = decls ++ c ∷ []
owned_parts (name ∷ names) decls (c ∷ d ∷ cs) = c ∷ d ∷ []
owned_parts (name ∷ names) decls _ = decls

abbrev pub for_parts : List Identifier → List ℕ → List ℕ → List ℕ
for_parts names decls [] = []
for_parts [] decls (c ∷ cs) = decls ++ c ∷ cs
for_parts (name ∷ names) decls (c ∷ cs) = c ∷ cs

abbrev pub init_parts : List Node → Node → List Identifier → List ℕ
init_parts nodes node [] = run nodes kind.Decl node.children ++ last_child node ∷ []
init_parts nodes node (name ∷ names) = child 0 node ∷ child 1 node ∷ []

module _ (nodes : List Node) where
  -- a type, if one stands there, and what stands behind it
  abbrev pub behind_type : List ℕ → List ℕ
  behind_type cs = list_of (type_of nodes cs) ++ after_option (type_of nodes cs) cs

  -- [Results] [Signals] of a type
  abbrev pub results_parts : List ℕ → List ℕ
  results_parts cs = list_of (one_of nodes kind.Results cs) ++ list_of (one_of nodes kind.Signals (after_one nodes kind.Results cs))

  -- {Equate} {Own} {stmt}
  abbrev pub body_parts : List ℕ → List ℕ
  body_parts cs = run nodes kind.Equate cs ++ run nodes kind.Own (after_run nodes kind.Equate cs) ++ after_run nodes kind.Own (after_run nodes kind.Equate cs)

  abbrev pub where_parts : List ℕ → List ℕ
  where_parts cs = list_of (one_of nodes kind.Where cs) ++ body_parts (after_one nodes kind.Where cs)

  abbrev pub signals_parts : List ℕ → List ℕ
  signals_parts cs = list_of (one_of nodes kind.Signals cs) ++ where_parts (after_one nodes kind.Signals cs)

  abbrev pub heading_parts : List ℕ → List ℕ
  heading_parts cs = list_of (one_of nodes kind.Results cs) ++ signals_parts (after_one nodes kind.Results cs)

  abbrev pub routine_parts : List ℕ → List ℕ
  routine_parts cs = run nodes kind.Decl cs ++ heading_parts (after_run nodes kind.Decl cs)

  -- {Equate} {Own} Routine {Routine}
  abbrev pub owns_parts : List ℕ → List ℕ
  owns_parts cs = run nodes kind.Own cs ++ run nodes kind.Routine (after_run nodes kind.Own cs)

  abbrev pub equates_parts : List ℕ → List ℕ
  equates_parts cs = run nodes kind.Equate cs ++ owns_parts (after_run nodes kind.Equate cs)

  abbrev pub cluster_parts : List ℕ → List ℕ
  cluster_parts cs = list_of (one_of nodes kind.Where cs) ++ equates_parts (after_one nodes kind.Where cs)

  -- what stands before the first condition belongs to no clause
  abbrev pub clauses_parts : List ℕ → List ℕ
  clauses_parts cs = drop (leading_items nodes cs) cs

  abbrev pub parts_of : Node → NodeKind → List ℕ
  parts_of node kind.File = run nodes kind.Module node.children
  parts_of node kind.Module = run nodes kind.Equate node.children ++ last_child node ∷ []
  parts_of node kind.Routine = run nodes kind.Parm node.children ++ routine_parts (after_run nodes kind.Parm node.children)
  parts_of node kind.Cluster = run nodes kind.Parm node.children ++ cluster_parts (after_run nodes kind.Parm node.children)
  parts_of node kind.Parm = list_of (type_of nodes node.children)
  parts_of node kind.Results = node.children
  parts_of node kind.Signals = run nodes kind.Exc node.children
  parts_of node kind.Exc = node.children
  parts_of node kind.Where = run nodes kind.Restrict node.children
  parts_of node kind.Restrict = restricted_parts node.names (one_of nodes kind.TypeSet node.children) (run nodes kind.Oper node.children)
  parts_of node kind.Oper = child 0 node ∷ []
  parts_of node kind.TypeSet = run nodes kind.Oper node.children ++ run nodes kind.Equate (after_run nodes kind.Oper node.children)
  parts_of node kind.Equate = child 0 node ∷ []
  parts_of node kind.Own = owned_parts node.names (run nodes kind.Decl node.children) (after_run nodes kind.Decl node.children)
  parts_of node kind.Decl = child 0 node ∷ []
  parts_of node kind.ListT = child 0 node ∷ []
  parts_of node kind.FieldsT = run nodes kind.FieldT node.children
  parts_of node kind.FieldT = child 0 node ∷ []
  parts_of node kind.RoutineT = take (leading_types nodes node.children) node.children ++ results_parts (drop (leading_types nodes node.children) node.children)
  parts_of node kind.NameT = node.children
  parts_of node kind.Declare = child 0 node ∷ []
  parts_of node kind.Init = init_parts nodes node node.names
  parts_of node kind.Assign = node.children
  parts_of node kind.SetField = child 0 node ∷ child 1 node ∷ []
  parts_of node kind.SetIndex = child 0 node ∷ child 1 node ∷ child 2 node ∷ []
  parts_of node kind.CallS = child 0 node ∷ []
  parts_of node kind.While = child 0 node ∷ drop 1 node.children
  parts_of node kind.For = for_parts node.names (run nodes kind.Decl node.children) (after_run nodes kind.Decl node.children)
  parts_of node kind.If = clauses_parts (take (leading_before nodes node node.children) node.children) ++ otherwise_parts node.value_token (drop (leading_before nodes node node.children) node.children)
  parts_of node kind.Tagcase = child 0 node ∷ run nodes kind.TagArm (drop 1 node.children) ++ otherwise_parts node.value_token (after_run nodes kind.TagArm (drop 1 node.children))
  parts_of node kind.TagArm = behind_type node.children
  parts_of node kind.Return = node.children
  parts_of node kind.Yield = node.children
  parts_of node kind.Signal = node.children
  parts_of node kind.Exit = node.children
  parts_of node kind.Begin = node.children
  parts_of node kind.Resignal = child 0 node ∷ []
  parts_of node kind.Except = child 0 node ∷ run nodes kind.When (drop 1 node.children) ++ list_of (one_of nodes kind.Others (after_run nodes kind.When (drop 1 node.children)))
  parts_of node kind.When = taken_parts node.value_token (run nodes kind.Decl node.children) ++ after_run nodes kind.Decl node.children
  parts_of node kind.Others = behind_type node.children
  parts_of node kind.Infix = child 0 node ∷ child 1 node ∷ []
  parts_of node kind.Prefix = child 0 node ∷ []
  parts_of node kind.Paren = child 0 node ∷ []
  parts_of node kind.Index = child 0 node ∷ drop 1 node.children
  parts_of node kind.Get = child 0 node ∷ []
  parts_of node kind.Call = child 0 node ∷ drop 1 node.children
  parts_of node kind.Fields = child 0 node ∷ run nodes kind.FieldE (drop 1 node.children)
  parts_of node kind.FieldE = child 0 node ∷ []
  parts_of node kind.Elems = child 0 node ∷ drop 1 node.children
  parts_of node kind.OperOf = child 0 node ∷ []
  parts_of node kind.Force = child 0 node ∷ []
  parts_of node kind.Up = child 0 node ∷ []
  parts_of node kind.Down = child 0 node ∷ []
  parts_of node _ = []
