-- The grammar of CLU as data. Each comment is a production of the language: `[x]` is optional, `{x}` is any
-- number, `x#` is one or more x separated by commas, `a / b` is a choice. Below it are the productions that read it,
-- one nonterminal a line. `take` reads one of the symbols and then the items, `peek` is for where one of the symbols
-- comes next, `otherwise` for any other. Items are `t` symbol, `n` nonterminal, and what makes the tree.
use Rattle.std.specs.Prelude.{List, [], ◌∷◌}
use Rattle.clu_lexer.specs.declared.symbols.Symbol.{Symbol}
use Rattle.clu_lexer.specs.declared.symbols.Symbol.TheVariants as s
use Rattle.clu_tree.specs.declared.node.NodeKind.TheVariants as k
use Rattle.clu_grammar.specs.declared.items.Nonterminal.{Nonterminal}
use Rattle.clu_grammar.specs.declared.items.Nonterminal.TheVariants as r
use Rattle.clu_grammar.specs.Rows.{Production, take, peek, otherwise, t, n, begin, wrap, note, close, base, give}

abbrev pub simple : List Symbol
simple = s.Null ∷ s.Bool ∷ s.Int ∷ s.Real ∷ s.Char ∷ s.String ∷ s.Any ∷ s.Rep ∷ s.Cvt ∷ []

abbrev pub list : List Symbol
list = s.Array ∷ s.Sequence ∷ []

abbrev pub fields : List Symbol
fields = s.Record ∷ s.Struct ∷ s.Oneof ∷ s.Variant ∷ []

abbrev pub type_words : List Symbol
type_words = s.Null ∷ s.Bool ∷ s.Int ∷ s.Real ∷ s.Char ∷ s.String ∷ s.Any ∷ s.Rep ∷ s.Cvt ∷ s.Array ∷ s.Sequence ∷ s.Record ∷ s.Struct ∷ s.Oneof ∷ s.Variant ∷ s.Proctype ∷ s.Itertype ∷ []

abbrev pub literals : List Symbol
literals = s.Nil ∷ s.True ∷ s.False ∷ s.IntLiteral ∷ s.RealLiteral ∷ s.CharLiteral ∷ s.StringLiteral ∷ []

abbrev pub signs : List Symbol
signs = s.Tilde ∷ s.Minus ∷ []

abbrev pub mul_operators : List Symbol
mul_operators = s.Star ∷ s.Slash ∷ s.Remainder ∷ []

abbrev pub add_operators : List Symbol
add_operators = s.Plus ∷ s.Minus ∷ s.Concat ∷ []

abbrev pub comparisons : List Symbol
comparisons = s.Less ∷ s.AtMost ∷ s.Equal ∷ s.AtLeast ∷ s.Greater ∷ s.NotLess ∷ s.NotAtMost ∷ s.NotEqual ∷ s.NotAtLeast ∷ s.NotGreater ∷ []

abbrev pub and_operators : List Symbol
and_operators = s.And ∷ s.Cand ∷ []

abbrev pub or_operators : List Symbol
or_operators = s.Bar ∷ s.Cor ∷ []

abbrev pub postfixes : List Symbol
postfixes = s.Point ∷ s.LeftBracket ∷ s.LeftParen ∷ []

abbrev pub has_or_in : List Symbol
has_or_in = s.Has ∷ s.In ∷ []

abbrev pub body_ends : List Symbol
body_ends = s.End ∷ s.Elseif ∷ s.Else ∷ s.Tag ∷ s.Others ∷ s.When ∷ []

abbrev pub productions : Nonterminal → List Production
-- File = Module {Module}
productions r.File = take (s.Idn ∷ []) (begin ∷ begin ∷ begin ∷ note ∷ t s.Equal ∷ n r.Definition ∷ n r.Modules ∷ close k.File ∷ []) ∷ []
productions r.Modules =
    take (s.Idn ∷ []) (begin ∷ begin ∷ note ∷ t s.Equal ∷ n r.Definition ∷ n r.Modules ∷ []) ∷
    otherwise [] ∷
    []
-- Module = {Equate} (Routine / Cluster); Def stands after idn "="
productions r.Definition =
    take (s.Proc ∷ []) (note ∷ n r.Parms ∷ n r.Proc ∷ close k.Module ∷ []) ∷
    take (s.Iter ∷ []) (note ∷ n r.Parms ∷ n r.Iter ∷ close k.Module ∷ []) ∷
    take (s.Cluster ∷ []) (note ∷ n r.Parms ∷ t s.Is ∷ t s.Idn ∷ note ∷ n r.Names ∷ n r.Where ∷ n r.ClusterBody ∷ t s.End ∷ t s.Idn ∷ note ∷ close k.Cluster ∷ close k.Module ∷ []) ∷
    otherwise (n r.EquateRest ∷ n r.ModuleItem ∷ []) ∷
    []
productions r.ModuleItem = take (s.Idn ∷ []) (begin ∷ note ∷ t s.Equal ∷ n r.Definition ∷ []) ∷ []
-- Routine = idn "=" (proc / iter) ["[" Parm# "]"] "(" [Decl#] ")" [Results] [Signals] [Where] {Equate} {Own} {stmt} end idn
productions r.Proc = take (s.LeftParen ∷ []) (n r.Decls ∷ t s.RightParen ∷ n r.Returns ∷ n r.Signals ∷ n r.Where ∷ n r.RoutineBody ∷ t s.End ∷ t s.Idn ∷ note ∷ close k.Routine ∷ []) ∷ []
productions r.Iter = take (s.LeftParen ∷ []) (n r.Decls ∷ t s.RightParen ∷ n r.Yields ∷ n r.Signals ∷ n r.Where ∷ n r.RoutineBody ∷ t s.End ∷ t s.Idn ∷ note ∷ close k.Routine ∷ []) ∷ []
productions r.RoutineBody =
    take (s.Idn ∷ []) (begin ∷ note ∷ n r.RoutineBodyIdn ∷ []) ∷
    take (s.Own ∷ []) (begin ∷ note ∷ t s.Idn ∷ begin ∷ note ∷ n r.OwnRest ∷ n r.Owns ∷ []) ∷
    otherwise (n r.StmtsByWord ∷ []) ∷
    []
productions r.RoutineBodyIdn =
    take (s.Equal ∷ []) (n r.EquateRest ∷ n r.RoutineBody ∷ []) ∷
    otherwise (n r.StmtByIdn ∷ []) ∷
    []
productions r.Owns =
    take (s.Own ∷ []) (begin ∷ note ∷ t s.Idn ∷ begin ∷ note ∷ n r.OwnRest ∷ n r.Owns ∷ []) ∷
    otherwise (n r.Stmts ∷ []) ∷
    []
-- Cluster = idn "=" cluster ["[" Parm# "]"] is idn# [Where] {Equate} {Own} Routine {Routine} end idn
productions r.ClusterBody =
    take (s.Idn ∷ []) (begin ∷ note ∷ t s.Equal ∷ n r.ClusterDefinition ∷ []) ∷
    take (s.Rep ∷ []) (begin ∷ note ∷ t s.Equal ∷ n r.EquateRest ∷ n r.ClusterBody ∷ []) ∷
    take (s.Own ∷ []) (begin ∷ note ∷ t s.Idn ∷ begin ∷ note ∷ n r.OwnRest ∷ n r.ClusterOwns ∷ []) ∷
    []
productions r.ClusterDefinition =
    take (s.Proc ∷ []) (note ∷ n r.Proc ∷ n r.Routines ∷ []) ∷
    take (s.Iter ∷ []) (note ∷ n r.Iter ∷ n r.Routines ∷ []) ∷
    otherwise (n r.EquateRest ∷ n r.ClusterBody ∷ []) ∷
    []
productions r.ClusterOwns =
    take (s.Own ∷ []) (begin ∷ note ∷ t s.Idn ∷ begin ∷ note ∷ n r.OwnRest ∷ n r.ClusterOwns ∷ []) ∷
    take (s.Idn ∷ []) (begin ∷ note ∷ t s.Equal ∷ n r.Routine ∷ n r.Routines ∷ []) ∷
    []
productions r.Routines =
    take (s.Idn ∷ []) (begin ∷ note ∷ t s.Equal ∷ n r.Routine ∷ n r.Routines ∷ []) ∷
    otherwise [] ∷
    []
productions r.Routine =
    take (s.Proc ∷ []) (note ∷ n r.Proc ∷ []) ∷
    take (s.Iter ∷ []) (note ∷ n r.Iter ∷ []) ∷
    []
-- Parm = idn# ":" (type-word / type); Names is idn# after its first idn
productions r.Parms =
    take (s.LeftBracket ∷ []) (t s.Idn ∷ begin ∷ note ∷ n r.ParmRest ∷ n r.ParmsRest ∷ t s.RightBracket ∷ []) ∷
    otherwise [] ∷
    []
productions r.ParmsRest =
    take (s.Comma ∷ []) (t s.Idn ∷ begin ∷ note ∷ n r.ParmRest ∷ n r.ParmsRest ∷ []) ∷
    otherwise [] ∷
    []
productions r.ParmRest = otherwise (n r.Names ∷ t s.Colon ∷ n r.ParmType ∷ close k.Parm ∷ []) ∷ []
productions r.ParmType =
    take (s.TypeWord ∷ []) (note ∷ []) ∷
    otherwise (n r.AnyType ∷ []) ∷
    []
productions r.Names =
    take (s.Comma ∷ []) (t s.Idn ∷ note ∷ n r.Names ∷ []) ∷
    otherwise [] ∷
    []
-- Results = returns "(" type# ")" / yields "(" type# ")"
productions r.Returns =
    take (s.Returns ∷ []) (begin ∷ note ∷ t s.LeftParen ∷ n r.AnyType ∷ n r.TypesRest ∷ t s.RightParen ∷ close k.Results ∷ []) ∷
    otherwise [] ∷
    []
productions r.Yields =
    take (s.Yields ∷ []) (begin ∷ note ∷ t s.LeftParen ∷ n r.AnyType ∷ n r.TypesRest ∷ t s.RightParen ∷ close k.Results ∷ []) ∷
    otherwise [] ∷
    []
-- Signals = signals "(" Exc# ")"; Exc = idn ["(" type# ")"]
productions r.Signals =
    take (s.Signals ∷ []) (begin ∷ t s.LeftParen ∷ t s.Idn ∷ begin ∷ note ∷ n r.ExcRest ∷ close k.Exc ∷ n r.ExcsRest ∷ t s.RightParen ∷ close k.Signals ∷ []) ∷
    otherwise [] ∷
    []
productions r.ExcsRest =
    take (s.Comma ∷ []) (t s.Idn ∷ begin ∷ note ∷ n r.ExcRest ∷ close k.Exc ∷ n r.ExcsRest ∷ []) ∷
    otherwise [] ∷
    []
productions r.ExcRest =
    take (s.LeftParen ∷ []) (n r.AnyType ∷ n r.TypesRest ∷ t s.RightParen ∷ []) ∷
    otherwise [] ∷
    []
-- Where = where Restrict#; Restrict = idn has Oper# / idn in idn / idn in TypeSet
productions r.Where =
    take (s.Where ∷ []) (begin ∷ t s.Idn ∷ begin ∷ note ∷ n r.Restrict ∷ close k.Where ∷ []) ∷
    otherwise [] ∷
    []
productions r.Restrict =
    take (s.Has ∷ []) (note ∷ t s.Idn ∷ begin ∷ note ∷ n r.OperRest ∷ n r.Opers ∷ []) ∷
    take (s.In ∷ []) (note ∷ n r.InRest ∷ []) ∷
    []
productions r.Opers =
    take (s.Comma ∷ []) (t s.Idn ∷ n r.OperIdn ∷ []) ∷
    otherwise (close k.Restrict ∷ []) ∷
    []
productions r.OperIdn =
    peek has_or_in (close k.Restrict ∷ begin ∷ note ∷ n r.Restrict ∷ []) ∷
    otherwise (begin ∷ note ∷ n r.OperRest ∷ n r.Opers ∷ []) ∷
    []
productions r.InRest =
    take (s.Idn ∷ []) (note ∷ close k.Restrict ∷ n r.RestrictsRest ∷ []) ∷
    take (s.LeftBrace ∷ []) (begin ∷ n r.TypeSetRest ∷ close k.Restrict ∷ n r.RestrictsRest ∷ []) ∷
    []
productions r.RestrictsRest =
    take (s.Comma ∷ []) (t s.Idn ∷ begin ∷ note ∷ n r.Restrict ∷ []) ∷
    otherwise [] ∷
    []
-- Oper = idn# ":" type
productions r.OperRest = otherwise (n r.Names ∷ t s.Colon ∷ n r.AnyType ∷ close k.Oper ∷ []) ∷ []
-- TypeSet = "{" idn "|" idn has Oper# {Equate} "}"
productions r.TypeSetRest = take (s.Idn ∷ []) (note ∷ t s.Bar ∷ t s.Idn ∷ note ∷ t s.Has ∷ t s.Idn ∷ begin ∷ note ∷ n r.OperRest ∷ n r.TypeSetOpers ∷ n r.TypeSetEquates ∷ t s.RightBrace ∷ close k.TypeSet ∷ []) ∷ []
productions r.TypeSetOpers =
    take (s.Comma ∷ []) (t s.Idn ∷ begin ∷ note ∷ n r.OperRest ∷ n r.TypeSetOpers ∷ []) ∷
    otherwise [] ∷
    []
productions r.TypeSetEquates =
    take (s.Idn ∷ []) (begin ∷ note ∷ t s.Equal ∷ n r.EquateRest ∷ n r.TypeSetEquates ∷ []) ∷
    otherwise [] ∷
    []
-- Equate = (idn / rep) "=" (constant / TypeSet), and one ";"
productions r.EquateRest =
    take (s.LeftBrace ∷ []) (begin ∷ n r.TypeSetRest ∷ close k.Equate ∷ n r.Semicolon ∷ []) ∷
    otherwise (n r.Constant ∷ close k.Equate ∷ n r.Semicolon ∷ []) ∷
    []
productions r.Semicolon =
    take (s.Semicolon ∷ []) [] ∷
    otherwise [] ∷
    []
-- Own = own (Decl# / idn ":" type ":=" expr / Decl# ":=" Call), and one ";"
productions r.OwnRest =
    take (s.Colon ∷ []) (n r.AnyType ∷ n r.OwnOne ∷ []) ∷
    take (s.Comma ∷ []) (t s.Idn ∷ note ∷ n r.Names ∷ t s.Colon ∷ n r.AnyType ∷ close k.Decl ∷ n r.OwnMany ∷ []) ∷
    []
productions r.OwnOne =
    take (s.Assign ∷ []) (give ∷ n r.Expr ∷ close k.Own ∷ n r.Semicolon ∷ []) ∷
    otherwise (close k.Decl ∷ n r.OwnEnd ∷ []) ∷
    []
productions r.OwnMany =
    take (s.Assign ∷ []) (n r.Call ∷ close k.Own ∷ n r.Semicolon ∷ []) ∷
    otherwise (n r.OwnEnd ∷ []) ∷
    []
productions r.OwnEnd =
    take (s.Comma ∷ []) (t s.Idn ∷ begin ∷ note ∷ n r.DeclRest ∷ n r.OwnMany ∷ []) ∷
    otherwise (close k.Own ∷ n r.Semicolon ∷ []) ∷
    []
-- Decl = idn# ":" type
productions r.DeclRest = otherwise (n r.Names ∷ t s.Colon ∷ n r.AnyType ∷ close k.Decl ∷ []) ∷ []
productions r.DeclsRest =
    take (s.Comma ∷ []) (t s.Idn ∷ begin ∷ note ∷ n r.DeclRest ∷ n r.DeclsRest ∷ []) ∷
    otherwise [] ∷
    []
productions r.Decls =
    take (s.Idn ∷ []) (begin ∷ note ∷ n r.DeclRest ∷ n r.DeclsRest ∷ []) ∷
    otherwise [] ∷
    []
-- constant = expr / type
productions r.Constant =
    peek type_words (n r.WordType ∷ n r.ConstantRest ∷ []) ∷
    otherwise (n r.Operand ∷ n r.Operators ∷ []) ∷
    []
productions r.ConstantRest =
    peek (s.Dollar ∷ []) (n r.Dollar ∷ n r.PostfixExpr ∷ n r.Operators ∷ []) ∷
    otherwise [] ∷
    []
productions r.ConstantsRest =
    take (s.Comma ∷ []) (n r.Constant ∷ n r.ConstantsRest ∷ []) ∷
    otherwise [] ∷
    []
-- type = Simple / ListT / FieldsT / RoutineT / NameT; TypeW is all but NameT; FieldT = idn# ":" type
productions r.AnyType =
    take (s.Idn ∷ []) (begin ∷ note ∷ n r.Actuals ∷ close k.NameT ∷ []) ∷
    otherwise (n r.WordType ∷ []) ∷
    []
productions r.Actuals =
    take (s.LeftBracket ∷ []) (n r.Constant ∷ n r.ConstantsRest ∷ t s.RightBracket ∷ []) ∷
    otherwise [] ∷
    []
productions r.WordType =
    take simple (begin ∷ note ∷ close k.Simple ∷ []) ∷
    take list (begin ∷ note ∷ t s.LeftBracket ∷ n r.AnyType ∷ t s.RightBracket ∷ close k.ListT ∷ []) ∷
    take fields (begin ∷ note ∷ t s.LeftBracket ∷ t s.Idn ∷ begin ∷ note ∷ n r.FieldTRest ∷ n r.FieldTsRest ∷ t s.RightBracket ∷ close k.FieldsT ∷ []) ∷
    take (s.Proctype ∷ []) (begin ∷ note ∷ t s.LeftParen ∷ n r.Types ∷ t s.RightParen ∷ n r.Returns ∷ n r.Signals ∷ close k.RoutineT ∷ []) ∷
    take (s.Itertype ∷ []) (begin ∷ note ∷ t s.LeftParen ∷ n r.Types ∷ t s.RightParen ∷ n r.Yields ∷ n r.Signals ∷ close k.RoutineT ∷ []) ∷
    []
productions r.Types =
    peek (s.RightParen ∷ []) [] ∷
    otherwise (n r.AnyType ∷ n r.TypesRest ∷ []) ∷
    []
productions r.TypesRest =
    take (s.Comma ∷ []) (n r.AnyType ∷ n r.TypesRest ∷ []) ∷
    otherwise [] ∷
    []
productions r.FieldTRest = otherwise (n r.Names ∷ t s.Colon ∷ n r.AnyType ∷ close k.FieldT ∷ []) ∷ []
productions r.FieldTsRest =
    take (s.Comma ∷ []) (t s.Idn ∷ begin ∷ note ∷ n r.FieldTRest ∷ n r.FieldTsRest ∷ []) ∷
    otherwise [] ∷
    []
-- body = {Equate} {stmt}
productions r.Body =
    take (s.Idn ∷ []) (begin ∷ note ∷ n r.BodyIdn ∷ []) ∷
    otherwise (n r.StmtsByWord ∷ []) ∷
    []
productions r.BodyIdn =
    take (s.Equal ∷ []) (n r.EquateRest ∷ n r.Body ∷ []) ∷
    otherwise (n r.StmtByIdn ∷ []) ∷
    []
-- {stmt}: Stmts all, StmtsW what doesn't begin with an idn, Next after a stmt
productions r.Stmts =
    take (s.Idn ∷ []) (begin ∷ note ∷ n r.StmtByIdn ∷ []) ∷
    otherwise (n r.StmtsByWord ∷ []) ∷
    []
productions r.StmtsByWord =
    take (s.While ∷ []) (begin ∷ n r.Expr ∷ t s.Do ∷ n r.Body ∷ t s.End ∷ close k.While ∷ n r.AfterStmt ∷ []) ∷
    take (s.For ∷ []) (begin ∷ n r.ForVars ∷ t s.In ∷ n r.Call ∷ t s.Do ∷ n r.Body ∷ t s.End ∷ close k.For ∷ n r.AfterStmt ∷ []) ∷
    take (s.If ∷ []) (begin ∷ n r.Expr ∷ t s.Then ∷ n r.Body ∷ n r.Elses ∷ t s.End ∷ close k.If ∷ n r.AfterStmt ∷ []) ∷
    take (s.Tagcase ∷ []) (begin ∷ n r.Expr ∷ t s.Tag ∷ begin ∷ t s.Idn ∷ note ∷ n r.TagArmRest ∷ n r.TagArms ∷ t s.End ∷ close k.Tagcase ∷ n r.AfterStmt ∷ []) ∷
    take (s.Return ∷ []) (begin ∷ n r.ExprsInParens ∷ close k.Return ∷ n r.AfterStmt ∷ []) ∷
    take (s.Yield ∷ []) (begin ∷ n r.ExprsInParens ∷ close k.Yield ∷ n r.AfterStmt ∷ []) ∷
    take (s.Signal ∷ []) (begin ∷ t s.Idn ∷ note ∷ n r.ExprsInParens ∷ close k.Signal ∷ n r.AfterStmt ∷ []) ∷
    take (s.Exit ∷ []) (begin ∷ t s.Idn ∷ note ∷ n r.ExprsInParens ∷ close k.Exit ∷ n r.AfterStmt ∷ []) ∷
    take (s.Break ∷ []) (begin ∷ close k.Break ∷ n r.AfterStmt ∷ []) ∷
    take (s.Continue ∷ []) (begin ∷ close k.Continue ∷ n r.AfterStmt ∷ []) ∷
    take (s.Begin ∷ []) (begin ∷ n r.Body ∷ t s.End ∷ close k.Begin ∷ n r.AfterStmt ∷ []) ∷
    peek body_ends [] ∷
    otherwise (n r.Primary ∷ n r.PostfixStmt ∷ []) ∷
    []
-- Resignal = stmt resignal idn#; Except = stmt except {When} [Others] end; one ";" after each stmt
productions r.AfterStmt =
    take (s.Semicolon ∷ []) (n r.AfterSemicolon ∷ []) ∷
    otherwise (n r.AfterSemicolon ∷ []) ∷
    []
productions r.AfterSemicolon =
    take (s.Resignal ∷ []) (wrap ∷ t s.Idn ∷ note ∷ n r.Names ∷ close k.Resignal ∷ n r.AfterStmt ∷ []) ∷
    take (s.Except ∷ []) (wrap ∷ n r.Whens ∷ t s.End ∷ close k.Except ∷ n r.AfterStmt ∷ []) ∷
    otherwise (n r.Stmts ∷ []) ∷
    []
-- a stmt that begins with an idn, after it
productions r.StmtByIdn =
    take (s.Colon ∷ []) (n r.AnyType ∷ n r.DeclOne ∷ []) ∷
    take (s.Comma ∷ []) (t s.Idn ∷ note ∷ n r.Names ∷ n r.StmtByNames ∷ []) ∷
    take (s.Assign ∷ []) (n r.Expr ∷ n r.ExprsRest ∷ close k.Assign ∷ n r.AfterStmt ∷ []) ∷
    take (s.LeftBracket ∷ []) (base ∷ n r.BaseIndexStmt ∷ []) ∷
    peek (s.Dollar ∷ []) (close k.NameT ∷ n r.Dollar ∷ n r.PostfixStmt ∷ []) ∷
    otherwise (close k.Name ∷ n r.SelectorStmt ∷ []) ∷
    []
-- Declare = Decl; Init = idn ":" type ":=" expr / Decl# ":=" Call; Assign = idn# ":=" expr#
productions r.StmtByNames =
    take (s.Colon ∷ []) (n r.AnyType ∷ close k.Decl ∷ n r.DeclMany ∷ []) ∷
    take (s.Assign ∷ []) (n r.Expr ∷ n r.ExprsRest ∷ close k.Assign ∷ n r.AfterStmt ∷ []) ∷
    []
productions r.DeclOne =
    take (s.Assign ∷ []) (n r.Expr ∷ close k.Init ∷ n r.AfterStmt ∷ []) ∷
    otherwise (close k.Decl ∷ n r.DeclEnd ∷ []) ∷
    []
productions r.DeclMany =
    take (s.Assign ∷ []) (wrap ∷ n r.Call ∷ close k.Init ∷ n r.AfterStmt ∷ []) ∷
    otherwise (n r.DeclEnd ∷ []) ∷
    []
productions r.DeclEnd =
    take (s.Comma ∷ []) (wrap ∷ t s.Idn ∷ begin ∷ note ∷ n r.DeclRest ∷ n r.DeclsRest ∷ t s.Assign ∷ n r.Call ∷ close k.Init ∷ n r.AfterStmt ∷ []) ∷
    otherwise (wrap ∷ close k.Declare ∷ n r.AfterStmt ∷ []) ∷
    []
-- SetField = primary "." idn ":=" expr; CallS = Call; PostS after a primary that can't be a stmt, MoreS after a Call
productions r.PostfixStmt =
    take (s.LeftBracket ∷ []) (wrap ∷ n r.IndexStmt ∷ []) ∷
    otherwise (n r.SelectorStmt ∷ []) ∷
    []
productions r.SelectorStmt =
    take (s.Point ∷ []) (wrap ∷ t s.Idn ∷ note ∷ n r.GetStmt ∷ []) ∷
    take (s.LeftParen ∷ []) (wrap ∷ n r.Arguments ∷ t s.RightParen ∷ close k.Call ∷ n r.AfterCallStmt ∷ []) ∷
    []
productions r.GetStmt =
    take (s.Assign ∷ []) (n r.Expr ∷ close k.SetField ∷ n r.AfterStmt ∷ []) ∷
    otherwise (close k.Get ∷ n r.PostfixStmt ∷ []) ∷
    []
productions r.AfterCallStmt =
    peek postfixes (n r.PostfixStmt ∷ []) ∷
    otherwise (wrap ∷ close k.CallS ∷ n r.AfterStmt ∷ []) ∷
    []
-- SetIndex = primary "[" expr "]" ":=" expr; IdxS inside the "[" of a chain
productions r.IndexStmt =
    peek type_words (n r.WordType ∷ n r.IndexTypeStmt ∷ []) ∷
    otherwise (n r.Operand ∷ n r.Operators ∷ n r.IndexOneStmt ∷ []) ∷
    []
productions r.IndexTypeStmt =
    peek (s.Dollar ∷ []) (n r.Dollar ∷ n r.PostfixExpr ∷ n r.Operators ∷ n r.IndexOneStmt ∷ []) ∷
    otherwise (n r.ConstantsRest ∷ t s.RightBracket ∷ close k.Index ∷ n r.PostfixStmt ∷ []) ∷
    []
productions r.IndexOneStmt =
    take (s.RightBracket ∷ []) (n r.IndexEndStmt ∷ []) ∷
    take (s.Comma ∷ []) (n r.Constant ∷ n r.ConstantsRest ∷ t s.RightBracket ∷ close k.Index ∷ n r.PostfixStmt ∷ []) ∷
    []
productions r.IndexEndStmt =
    take (s.Assign ∷ []) (n r.Expr ∷ close k.SetIndex ∷ n r.AfterStmt ∷ []) ∷
    otherwise (close k.Index ∷ n r.PostfixStmt ∷ []) ∷
    []
-- the same inside the "[" after a stmt's first idn, which may be a NameT's
productions r.BaseIndexStmt =
    peek type_words (n r.WordType ∷ n r.BaseIndexTypeStmt ∷ []) ∷
    otherwise (n r.Operand ∷ n r.Operators ∷ n r.BaseIndexOneStmt ∷ []) ∷
    []
productions r.BaseIndexTypeStmt =
    peek (s.Dollar ∷ []) (n r.Dollar ∷ n r.PostfixExpr ∷ n r.Operators ∷ n r.BaseIndexOneStmt ∷ []) ∷
    otherwise (n r.ConstantsRest ∷ t s.RightBracket ∷ n r.BaseStmt ∷ []) ∷
    []
productions r.BaseIndexOneStmt =
    take (s.RightBracket ∷ []) (n r.BaseIndexEndStmt ∷ []) ∷
    take (s.Comma ∷ []) (n r.Constant ∷ n r.ConstantsRest ∷ t s.RightBracket ∷ n r.BaseStmt ∷ []) ∷
    []
productions r.BaseIndexEndStmt =
    take (s.Assign ∷ []) (n r.Expr ∷ close k.SetIndex ∷ n r.AfterStmt ∷ []) ∷
    otherwise (n r.BaseStmt ∷ []) ∷
    []
productions r.BaseStmt =
    peek (s.Dollar ∷ []) (close k.NameT ∷ n r.Dollar ∷ n r.PostfixStmt ∷ []) ∷
    otherwise (close k.Index ∷ n r.PostfixStmt ∷ []) ∷
    []
-- For = for [Decl# / idn#] in Call do body end
productions r.ForVars =
    take (s.Idn ∷ []) (begin ∷ note ∷ n r.Names ∷ n r.ForKind ∷ []) ∷
    otherwise [] ∷
    []
productions r.ForKind =
    take (s.Colon ∷ []) (n r.AnyType ∷ close k.Decl ∷ n r.DeclsRest ∷ []) ∷
    otherwise (give ∷ []) ∷
    []
-- If = if expr then body {elseif expr then body} [else body] end
productions r.Elses =
    take (s.Elseif ∷ []) (n r.Expr ∷ t s.Then ∷ n r.Body ∷ n r.Elses ∷ []) ∷
    take (s.Else ∷ []) (note ∷ n r.Body ∷ []) ∷
    otherwise [] ∷
    []
-- Tagcase = tagcase expr TagArm {TagArm} [others ":" body] end; TagArm = tag idn# ["(" idn ":" type ")"] ":" body
productions r.TagArmRest = otherwise (n r.Names ∷ n r.Variable ∷ t s.Colon ∷ n r.Body ∷ close k.TagArm ∷ []) ∷ []
productions r.TagArms =
    take (s.Tag ∷ []) (begin ∷ t s.Idn ∷ note ∷ n r.TagArmRest ∷ n r.TagArms ∷ []) ∷
    take (s.Others ∷ []) (note ∷ t s.Colon ∷ n r.Body ∷ []) ∷
    otherwise [] ∷
    []
productions r.Variable =
    take (s.LeftParen ∷ []) (t s.Idn ∷ note ∷ t s.Colon ∷ n r.AnyType ∷ t s.RightParen ∷ []) ∷
    otherwise [] ∷
    []
-- Return, Yield, Signal, Exit: ["(" expr# ")"]
productions r.ExprsInParens =
    take (s.LeftParen ∷ []) (n r.Expr ∷ n r.ExprsRest ∷ t s.RightParen ∷ []) ∷
    otherwise [] ∷
    []
-- When = when idn# ["(" Decl# ")" / "(" "*" ")"] ":" body; Others = others ["(" idn ":" type ")"] ":" body
productions r.Whens =
    take (s.When ∷ []) (begin ∷ t s.Idn ∷ note ∷ n r.Names ∷ n r.WhenParens ∷ t s.Colon ∷ n r.Body ∷ close k.When ∷ n r.Whens ∷ []) ∷
    take (s.Others ∷ []) (begin ∷ n r.Variable ∷ t s.Colon ∷ n r.Body ∷ close k.Others ∷ []) ∷
    otherwise [] ∷
    []
productions r.WhenParens =
    take (s.LeftParen ∷ []) (n r.WhenInside ∷ t s.RightParen ∷ []) ∷
    otherwise [] ∷
    []
productions r.WhenInside =
    take (s.Star ∷ []) (note ∷ []) ∷
    take (s.Idn ∷ []) (begin ∷ note ∷ n r.DeclRest ∷ n r.DeclsRest ∷ []) ∷
    []
-- expr = Infix / Prefix / Paren / primary; Unary any operand, Operand one that doesn't begin with a type word
productions r.Expr = otherwise (n r.Unary ∷ n r.Operators ∷ []) ∷ []
productions r.ExprsRest =
    take (s.Comma ∷ []) (n r.Expr ∷ n r.ExprsRest ∷ []) ∷
    otherwise [] ∷
    []
productions r.Arguments =
    peek (s.RightParen ∷ []) [] ∷
    otherwise (n r.Expr ∷ n r.ExprsRest ∷ []) ∷
    []
productions r.Unary =
    peek type_words (n r.WordType ∷ n r.Dollar ∷ n r.PostfixExpr ∷ []) ∷
    otherwise (n r.Operand ∷ []) ∷
    []
productions r.Operand =
    take signs (begin ∷ note ∷ n r.Unary ∷ close k.Prefix ∷ []) ∷
    take (s.LeftParen ∷ []) (begin ∷ n r.Expr ∷ t s.RightParen ∷ close k.Paren ∷ []) ∷
    take (s.Idn ∷ []) (begin ∷ note ∷ n r.IdnExpr ∷ []) ∷
    otherwise (n r.Atom ∷ n r.PostfixExpr ∷ []) ∷
    []
-- Infix = expr operator expr
productions r.Operators = otherwise (n r.Pow ∷ n r.Mul ∷ n r.Add ∷ n r.Compare ∷ n r.And ∷ n r.Or ∷ []) ∷ []
productions r.Pow =
    take (s.Power ∷ []) (wrap ∷ note ∷ n r.Unary ∷ n r.Pow ∷ close k.Infix ∷ []) ∷
    otherwise [] ∷
    []
productions r.Mul =
    take mul_operators (wrap ∷ note ∷ n r.Unary ∷ n r.Pow ∷ close k.Infix ∷ n r.Mul ∷ []) ∷
    otherwise [] ∷
    []
productions r.Add =
    take add_operators (wrap ∷ note ∷ n r.Unary ∷ n r.Pow ∷ n r.Mul ∷ close k.Infix ∷ n r.Add ∷ []) ∷
    otherwise [] ∷
    []
productions r.Compare =
    take comparisons (wrap ∷ note ∷ n r.Unary ∷ n r.Pow ∷ n r.Mul ∷ n r.Add ∷ close k.Infix ∷ n r.Compare ∷ []) ∷
    otherwise [] ∷
    []
productions r.And =
    take and_operators (wrap ∷ note ∷ n r.Unary ∷ n r.Pow ∷ n r.Mul ∷ n r.Add ∷ n r.Compare ∷ close k.Infix ∷ n r.And ∷ []) ∷
    otherwise [] ∷
    []
productions r.Or =
    take or_operators (wrap ∷ note ∷ n r.Unary ∷ n r.Pow ∷ n r.Mul ∷ n r.Add ∷ n r.Compare ∷ n r.And ∷ close k.Infix ∷ n r.Or ∷ []) ∷
    otherwise [] ∷
    []
-- primary = Literal / Name / Index / Get / Call / Fields / Elems / OperOf / Force / Up / Down; Prim begins with no idn
productions r.Primary =
    peek type_words (n r.WordType ∷ n r.Dollar ∷ []) ∷
    otherwise (n r.Atom ∷ []) ∷
    []
productions r.Atom =
    take literals (begin ∷ note ∷ close k.Literal ∷ []) ∷
    take (s.Force ∷ []) (begin ∷ t s.LeftBracket ∷ n r.AnyType ∷ t s.RightBracket ∷ close k.Force ∷ []) ∷
    take (s.Up ∷ []) (begin ∷ t s.LeftParen ∷ n r.Expr ∷ t s.RightParen ∷ close k.Up ∷ []) ∷
    take (s.Down ∷ []) (begin ∷ t s.LeftParen ∷ n r.Expr ∷ t s.RightParen ∷ close k.Down ∷ []) ∷
    []
-- Name = idn; Index = primary "[" constant# "]"; Get = primary "." idn; Call = primary "(" [expr#] ")"
productions r.IdnExpr =
    take (s.LeftBracket ∷ []) (base ∷ n r.Constant ∷ n r.ConstantsRest ∷ t s.RightBracket ∷ n r.BaseExpr ∷ []) ∷
    peek (s.Dollar ∷ []) (close k.NameT ∷ n r.Dollar ∷ n r.PostfixExpr ∷ []) ∷
    otherwise (close k.Name ∷ n r.SelectorExpr ∷ []) ∷
    []
productions r.BaseExpr =
    peek (s.Dollar ∷ []) (close k.NameT ∷ n r.Dollar ∷ n r.PostfixExpr ∷ []) ∷
    otherwise (close k.Index ∷ n r.PostfixExpr ∷ []) ∷
    []
productions r.PostfixExpr =
    take (s.LeftBracket ∷ []) (wrap ∷ n r.Constant ∷ n r.ConstantsRest ∷ t s.RightBracket ∷ close k.Index ∷ n r.PostfixExpr ∷ []) ∷
    otherwise (n r.SelectorExpr ∷ []) ∷
    []
productions r.SelectorExpr =
    take (s.Point ∷ []) (wrap ∷ t s.Idn ∷ note ∷ close k.Get ∷ n r.PostfixExpr ∷ []) ∷
    take (s.LeftParen ∷ []) (wrap ∷ n r.Arguments ∷ t s.RightParen ∷ close k.Call ∷ n r.PostfixExpr ∷ []) ∷
    otherwise [] ∷
    []
-- a primary that must be a Call (For, Init, Own): PostC after one that is none, MoreC after a Call
productions r.Call =
    take (s.Idn ∷ []) (begin ∷ note ∷ n r.IdnCall ∷ []) ∷
    otherwise (n r.Primary ∷ n r.PostfixCall ∷ []) ∷
    []
productions r.IdnCall =
    take (s.LeftBracket ∷ []) (base ∷ n r.Constant ∷ n r.ConstantsRest ∷ t s.RightBracket ∷ n r.BaseCall ∷ []) ∷
    peek (s.Dollar ∷ []) (close k.NameT ∷ n r.Dollar ∷ n r.PostfixCall ∷ []) ∷
    otherwise (close k.Name ∷ n r.SelectorCall ∷ []) ∷
    []
productions r.BaseCall =
    peek (s.Dollar ∷ []) (close k.NameT ∷ n r.Dollar ∷ n r.PostfixCall ∷ []) ∷
    otherwise (close k.Index ∷ n r.PostfixCall ∷ []) ∷
    []
productions r.PostfixCall =
    take (s.LeftBracket ∷ []) (wrap ∷ n r.Constant ∷ n r.ConstantsRest ∷ t s.RightBracket ∷ close k.Index ∷ n r.PostfixCall ∷ []) ∷
    otherwise (n r.SelectorCall ∷ []) ∷
    []
productions r.SelectorCall =
    take (s.Point ∷ []) (wrap ∷ t s.Idn ∷ note ∷ close k.Get ∷ n r.PostfixCall ∷ []) ∷
    take (s.LeftParen ∷ []) (wrap ∷ n r.Arguments ∷ t s.RightParen ∷ close k.Call ∷ n r.AfterCall ∷ []) ∷
    []
productions r.AfterCall =
    peek postfixes (n r.PostfixCall ∷ []) ∷
    otherwise [] ∷
    []
-- OperOf = type "$" idn; Fields = type "$" "{" FieldE# "}"; FieldE = idn# ":" expr
-- Elems = type "$" "[" [expr ":"] [expr#] "]"
productions r.Dollar = take (s.Dollar ∷ []) (wrap ∷ n r.AfterDollar ∷ []) ∷ []
productions r.AfterDollar =
    take (s.Idn ∷ []) (note ∷ close k.OperOf ∷ []) ∷
    take (s.LeftBrace ∷ []) (t s.Idn ∷ begin ∷ note ∷ n r.FieldERest ∷ n r.FieldEsRest ∷ t s.RightBrace ∷ close k.Fields ∷ []) ∷
    take (s.LeftBracket ∷ []) (n r.Elems ∷ t s.RightBracket ∷ close k.Elems ∷ []) ∷
    []
productions r.FieldERest = otherwise (n r.Names ∷ t s.Colon ∷ n r.Expr ∷ close k.FieldE ∷ []) ∷ []
productions r.FieldEsRest =
    take (s.Comma ∷ []) (t s.Idn ∷ begin ∷ note ∷ n r.FieldERest ∷ n r.FieldEsRest ∷ []) ∷
    otherwise [] ∷
    []
productions r.Elems =
    peek (s.RightBracket ∷ []) [] ∷
    otherwise (n r.Expr ∷ n r.ElemsRest ∷ []) ∷
    []
productions r.ElemsRest =
    take (s.Colon ∷ []) (note ∷ n r.ElemsLow ∷ []) ∷
    otherwise (n r.ExprsRest ∷ []) ∷
    []
productions r.ElemsLow =
    peek (s.RightBracket ∷ []) [] ∷
    otherwise (n r.Expr ∷ n r.ExprsRest ∷ []) ∷
    []
