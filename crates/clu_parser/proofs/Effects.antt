-- What each nonterminal does to the tree in the making, as far as it must be known before it is read. The tests in
-- `Reading` show that the table does so; nothing rests on how it was found.
use Rattle.std.proofs.Common.{ℕ, suc, Bool, true, false}
use Rattle.clu_grammar.specs.declared.items.Nonterminal.{Nonterminal}
use Rattle.clu_grammar.specs.declared.items.Nonterminal.TheVariants as r

-- how many of the nodes that have begun become whole, or are given up
abbrev pub ends : Nonterminal → ℕ
ends r.Definition = 2
ends r.OwnRest = 2
ends r.OwnOne = 2
ends r.ModuleItem = 1
ends r.Proc = 1
ends r.Iter = 1
ends r.RoutineBodyIdn = 1
ends r.ClusterDefinition = 1
ends r.Routine = 1
ends r.ParmRest = 1
ends r.Restrict = 1
ends r.Opers = 1
ends r.OperIdn = 1
ends r.InRest = 1
ends r.OperRest = 1
ends r.TypeSetRest = 1
ends r.EquateRest = 1
ends r.OwnMany = 1
ends r.OwnEnd = 1
ends r.DeclRest = 1
ends r.FieldTRest = 1
ends r.BodyIdn = 1
ends r.StmtByIdn = 1
ends r.StmtByNames = 1
ends r.DeclOne = 1
ends r.GetStmt = 1
ends r.IndexStmt = 1
ends r.IndexTypeStmt = 1
ends r.IndexOneStmt = 1
ends r.IndexEndStmt = 1
ends r.BaseIndexStmt = 1
ends r.BaseIndexTypeStmt = 1
ends r.BaseIndexOneStmt = 1
ends r.BaseIndexEndStmt = 1
ends r.BaseStmt = 1
ends r.ForKind = 1
ends r.TagArmRest = 1
ends r.IdnExpr = 1
ends r.BaseExpr = 1
ends r.IdnCall = 1
ends r.BaseCall = 1
ends r.AfterDollar = 1
ends r.FieldERest = 1
ends _ = 0

-- how many nodes must have begun: all but a file stand in the node of a file
abbrev pub begun_before : Nonterminal → ℕ
begun_before r.File = 0
begun_before n = suc (ends n)

-- how many whole nodes must be there: one, where it may begin with an action that wraps it
abbrev pub tops_before : Nonterminal → ℕ
tops_before r.ConstantRest = 1
tops_before r.AfterStmt = 1
tops_before r.AfterSemicolon = 1
tops_before r.DeclMany = 1
tops_before r.DeclEnd = 1
tops_before r.PostfixStmt = 1
tops_before r.SelectorStmt = 1
tops_before r.AfterCallStmt = 1
tops_before r.IndexTypeStmt = 1
tops_before r.BaseIndexTypeStmt = 1
tops_before r.Operators = 1
tops_before r.Pow = 1
tops_before r.Mul = 1
tops_before r.Add = 1
tops_before r.Compare = 1
tops_before r.And = 1
tops_before r.Or = 1
tops_before r.PostfixExpr = 1
tops_before r.SelectorExpr = 1
tops_before r.PostfixCall = 1
tops_before r.SelectorCall = 1
tops_before r.AfterCall = 1
tops_before r.Dollar = 1
tops_before _ = 0

-- whether a node becomes whole in any case
abbrev pub makes_whole : Nonterminal → Bool
makes_whole r.File = true
makes_whole r.Definition = true
makes_whole r.ModuleItem = true
makes_whole r.Proc = true
makes_whole r.Iter = true
makes_whole r.RoutineBodyIdn = true
makes_whole r.ClusterBody = true
makes_whole r.ClusterDefinition = true
makes_whole r.ClusterOwns = true
makes_whole r.Routine = true
makes_whole r.ParmRest = true
makes_whole r.Restrict = true
makes_whole r.Opers = true
makes_whole r.OperIdn = true
makes_whole r.InRest = true
makes_whole r.OperRest = true
makes_whole r.TypeSetRest = true
makes_whole r.EquateRest = true
makes_whole r.OwnRest = true
makes_whole r.OwnOne = true
makes_whole r.OwnMany = true
makes_whole r.OwnEnd = true
makes_whole r.DeclRest = true
makes_whole r.Constant = true
makes_whole r.AnyType = true
makes_whole r.WordType = true
makes_whole r.FieldTRest = true
makes_whole r.BodyIdn = true
makes_whole r.StmtByIdn = true
makes_whole r.StmtByNames = true
makes_whole r.DeclOne = true
makes_whole r.DeclMany = true
makes_whole r.DeclEnd = true
makes_whole r.PostfixStmt = true
makes_whole r.SelectorStmt = true
makes_whole r.GetStmt = true
makes_whole r.AfterCallStmt = true
makes_whole r.IndexStmt = true
makes_whole r.IndexTypeStmt = true
makes_whole r.IndexOneStmt = true
makes_whole r.IndexEndStmt = true
makes_whole r.BaseIndexStmt = true
makes_whole r.BaseIndexTypeStmt = true
makes_whole r.BaseIndexOneStmt = true
makes_whole r.BaseIndexEndStmt = true
makes_whole r.BaseStmt = true
makes_whole r.TagArmRest = true
makes_whole r.Expr = true
makes_whole r.Unary = true
makes_whole r.Operand = true
makes_whole r.Primary = true
makes_whole r.Atom = true
makes_whole r.IdnExpr = true
makes_whole r.BaseExpr = true
makes_whole r.Call = true
makes_whole r.IdnCall = true
makes_whole r.BaseCall = true
makes_whole r.PostfixCall = true
makes_whole r.SelectorCall = true
makes_whole r.Dollar = true
makes_whole r.AfterDollar = true
makes_whole r.FieldERest = true
makes_whole _ = false

-- whether the symbol before it may be noted
abbrev pub notes_before : Nonterminal → Bool
notes_before r.OperIdn = true
notes_before _ = false
