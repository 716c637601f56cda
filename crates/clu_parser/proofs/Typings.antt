-- What each nonterminal does to the forms of the nodes, and the test that the table of the grammar does so. Nothing
-- rests on how it was found.
use Rattle.std.proofs.Common.{◌&&◌, not, Bool, true, false, List, [], ◌∷◌, ◌++◌, Some, None}
use Rattle.std.specs.List.{list_all, list_any}
use Rattle.clu_lexer.specs.declared.symbols.Symbol.{Symbol}
use Rattle.clu_lexer.specs.declared.symbols.Symbol.TheVariants as s
use Rattle.clu_lexer.specs.contracts.symbols.Symbol.{the_type}
use Rattle.clu_tree.specs.declared.node.NodeKind.{NodeKind}
use Rattle.clu_tree.specs.declared.node.NodeKind.TheVariants as k
use Rattle.clu_grammar.specs.declared.items.Action.TheVariants as action
use Rattle.clu_grammar.specs.declared.items.Item.{Item}
use Rattle.clu_grammar.specs.declared.items.Item.TheVariants as item
use Rattle.clu_grammar.specs.declared.items.Nonterminal.{Nonterminal}
use Rattle.clu_grammar.specs.declared.items.Nonterminal.TheVariants as r
use Rattle.clu_grammar.specs.Choice.{has}
use Rattle.clu_grammar.specs.Grammar.{productions}
use Rattle.clu_grammar.specs.Rows.{Production, take, peek, otherwise}
use Rattle.clu_parser.specs.Shape.{expression, any_type, constant, statement, one, semicolon, more_names, more_types, types, types_in_parens, more_constants, actuals, more_expressions, expressions, expressions_in_parens, more_modules, equates, owns, statements, more_routines, parms, more_parms, decls, more_decls, decls_in_parens, results, signals, demands, more_exceptions, more_restricts, more_opers, more_fields, more_components, elseifs, more_arms, whens, others, variable, Part, token, name, value, child, many, maybe}
use Rattle.clu_parser.proofs.Sketch.{Known, nothing_known, in_bracket, at_dollar, Typing, is_one_of, passed, kept, push, acted, based, applied_one}
use denote.Enum.Bare.{sameb}

-- it adds to the node that it stands in
abbrev adds : List Part → List Typing
adds g = record { when = nothing_known; takes = []; from = []; gives = g ∷ [] } ∷ []

-- it adds in one of two ways
abbrev adds_either : List Part → List Part → List Typing
adds_either g h = record { when = nothing_known; takes = []; from = []; gives = g ∷ h ∷ [] } ∷ []

-- it ends the innermost node, of this form, and adds to the node round it
abbrev ends : List Part → List Part → List Typing
ends a g = record { when = nothing_known; takes = a ∷ []; from = []; gives = g ∷ [] } ∷ []

-- it puts something in the place of the last child
abbrev turns : List Part → List Part → List Typing
turns f g = record { when = nothing_known; takes = []; from = f; gives = g ∷ [] } ∷ []

-- it ends the node that began with a name and a bracket: the name of a type if the bracket closes before a `$`, else an
-- expression
abbrev within : (Bool → Known) → List Part → List Part → List Typing
within known rest g =
    record { when = known true; takes = (name ∷ token s.LeftBracket ∷ rest) ∷ []; from = []; gives = g ∷ [] } ∷
    record { when = known false; takes = (child (one k.Name) ∷ token s.LeftBracket ∷ rest) ∷ []; from = []; gives = g ∷ [] } ∷
    []

abbrev an_expression : List Part
an_expression = child expression ∷ []

abbrev a_type : List Part
a_type = child any_type ∷ []

abbrev a_call : List Part
a_call = child (one k.Call) ∷ []

abbrev a_statement : List Part
a_statement = child statement ∷ []

abbrev body : List Part
body = many equates ∷ many statements ∷ []

abbrev some_statements : List Part
some_statements = many statements ∷ []

abbrev node_of : NodeKind → List Part
node_of kind = child (one kind) ∷ []

abbrev own_given : List Part
own_given = child (one k.Own) ∷ maybe semicolon ∷ []

abbrev restricts : List Part
restricts = child (one k.Restrict) ∷ many more_restricts ∷ []

abbrev bracketed : List Part
bracketed = child constant ∷ many more_constants ∷ token s.RightBracket ∷ []

abbrev of_routine : Symbol → List Part
of_routine word = name ∷ token s.Equal ∷ value (word ∷ []) ∷ maybe parms ∷ []

abbrev equate_begun : List Typing
equate_begun =
    record { when = nothing_known; takes = (name ∷ token s.Equal ∷ []) ∷ []; from = []; gives = (child (one k.Equate) ∷ maybe semicolon ∷ []) ∷ [] } ∷
    record { when = nothing_known; takes = (value (s.Rep ∷ []) ∷ token s.Equal ∷ []) ∷ []; from = []; gives = (child (one k.Equate) ∷ maybe semicolon ∷ []) ∷ [] } ∷
    []

abbrev two_end : List Part → List Part → List Part → List Typing
two_end a b g = record { when = nothing_known; takes = a ∷ b ∷ []; from = []; gives = g ∷ [] } ∷ []

abbrev pub typings : Nonterminal → List Typing
typings r.File = adds (node_of k.File)
typings r.Modules = adds (many more_modules ∷ [])
typings r.Definition = two_end (name ∷ token s.Equal ∷ []) (many equates ∷ []) (node_of k.Module)
typings r.ModuleItem = ends (many equates ∷ []) (node_of k.Module)
typings r.Proc = ends (of_routine s.Proc) (node_of k.Routine)
typings r.Iter = ends (of_routine s.Iter) (node_of k.Routine)
typings r.RoutineBody = adds (many equates ∷ many owns ∷ many statements ∷ [])
typings r.RoutineBodyIdn = ends (name ∷ []) (many equates ∷ many owns ∷ many statements ∷ [])
typings r.Owns = adds (many owns ∷ many statements ∷ [])
typings r.ClusterBody = adds (many equates ∷ many owns ∷ child (one k.Routine) ∷ many more_routines ∷ [])
typings r.ClusterDefinition = ends (name ∷ token s.Equal ∷ []) (many equates ∷ many owns ∷ child (one k.Routine) ∷ many more_routines ∷ [])
typings r.ClusterOwns = adds (many owns ∷ child (one k.Routine) ∷ many more_routines ∷ [])
typings r.Routines = adds (many more_routines ∷ [])
typings r.Routine = ends (name ∷ token s.Equal ∷ []) (node_of k.Routine)
typings r.Parms = adds (maybe parms ∷ [])
typings r.ParmsRest = adds (many more_parms ∷ [])
typings r.ParmRest = ends (name ∷ []) (node_of k.Parm)
typings r.ParmType = adds_either (value (s.TypeWord ∷ []) ∷ []) a_type
typings r.Names = adds (many more_names ∷ [])
typings r.Returns = adds (maybe results ∷ [])
typings r.Yields = adds (maybe results ∷ [])
typings r.Signals = adds (maybe signals ∷ [])
typings r.ExcsRest = adds (many more_exceptions ∷ [])
typings r.ExcRest = adds (maybe types_in_parens ∷ [])
typings r.Where = adds (maybe demands ∷ [])
typings r.Restrict = ends (name ∷ []) restricts
typings r.Opers = ends (name ∷ value (s.Has ∷ []) ∷ child (one k.Oper) ∷ many more_opers ∷ []) restricts
typings r.OperIdn = ends (name ∷ value (s.Has ∷ []) ∷ child (one k.Oper) ∷ many more_opers ∷ token s.Comma ∷ token s.Idn ∷ []) restricts
typings r.InRest = ends (name ∷ value (s.In ∷ []) ∷ []) restricts
typings r.RestrictsRest = adds (many more_restricts ∷ [])
typings r.OperRest = ends (name ∷ []) (node_of k.Oper)
typings r.TypeSetRest = ends (token s.LeftBrace ∷ []) (node_of k.TypeSet)
typings r.TypeSetOpers = adds (many more_opers ∷ [])
typings r.TypeSetEquates = adds (many equates ∷ [])
typings r.EquateRest = equate_begun
typings r.Semicolon = adds (maybe semicolon ∷ [])
typings r.OwnRest = two_end (name ∷ []) (value (s.Own ∷ []) ∷ []) own_given
typings r.OwnOne = two_end (name ∷ token s.Colon ∷ child any_type ∷ []) (value (s.Own ∷ []) ∷ []) own_given
typings r.OwnMany = ends (value (s.Own ∷ []) ∷ child (one k.Decl) ∷ many more_decls ∷ []) own_given
typings r.OwnEnd = ends (value (s.Own ∷ []) ∷ child (one k.Decl) ∷ many more_decls ∷ []) own_given
typings r.DeclRest = ends (name ∷ []) (node_of k.Decl)
typings r.DeclsRest = adds (many more_decls ∷ [])
typings r.Decls = adds (maybe decls ∷ [])
typings r.Constant = adds (child constant ∷ [])
typings r.ConstantRest = turns a_type (child constant ∷ [])
typings r.ConstantsRest = adds (many more_constants ∷ [])
typings r.AnyType = adds a_type
typings r.Actuals = adds (maybe actuals ∷ [])
typings r.WordType = adds a_type
typings r.Types = adds (maybe types ∷ [])
typings r.TypesRest = adds (many more_types ∷ [])
typings r.FieldTRest = ends (name ∷ []) (node_of k.FieldT)
typings r.FieldTsRest = adds (many more_fields ∷ [])
typings r.Body = adds body
typings r.BodyIdn = ends (name ∷ []) body
typings r.Stmts = adds some_statements
typings r.StmtsByWord = adds some_statements
typings r.AfterStmt = turns a_statement some_statements
typings r.AfterSemicolon = turns (child statement ∷ maybe semicolon ∷ []) some_statements
typings r.StmtByIdn = ends (name ∷ []) some_statements
typings r.StmtByNames = ends (name ∷ many more_names ∷ []) some_statements
typings r.DeclOne = ends (name ∷ token s.Colon ∷ child any_type ∷ []) some_statements
typings r.DeclMany = turns (node_of k.Decl) some_statements
typings r.DeclEnd = turns (node_of k.Decl) some_statements
typings r.PostfixStmt = turns an_expression some_statements
typings r.SelectorStmt = turns an_expression some_statements
typings r.GetStmt = ends (child expression ∷ token s.Point ∷ name ∷ []) some_statements
typings r.AfterCallStmt = turns a_call some_statements
typings r.IndexStmt = ends (child expression ∷ token s.LeftBracket ∷ []) some_statements
typings r.IndexTypeStmt = ends (child expression ∷ token s.LeftBracket ∷ child any_type ∷ []) some_statements
typings r.IndexOneStmt = ends (child expression ∷ token s.LeftBracket ∷ child expression ∷ []) some_statements
typings r.IndexEndStmt = ends (child expression ∷ token s.LeftBracket ∷ child expression ∷ token s.RightBracket ∷ []) some_statements
typings r.BaseIndexStmt = within in_bracket [] some_statements
typings r.BaseIndexTypeStmt = within in_bracket a_type some_statements
typings r.BaseIndexOneStmt = within in_bracket an_expression some_statements
typings r.BaseIndexEndStmt = within at_dollar (child expression ∷ token s.RightBracket ∷ []) some_statements
typings r.BaseStmt = within at_dollar bracketed some_statements
typings r.ForVars = adds_either (maybe decls ∷ []) (name ∷ many more_names ∷ [])
typings r.ForKind = record { when = nothing_known; takes = (name ∷ many more_names ∷ []) ∷ []; from = []; gives = (child (one k.Decl) ∷ many more_decls ∷ []) ∷ (name ∷ many more_names ∷ []) ∷ [] } ∷ []
typings r.Elses = adds_either (many elseifs ∷ []) (many elseifs ∷ value (s.Else ∷ []) ∷ many equates ∷ many statements ∷ [])
typings r.TagArmRest = ends (token s.Tag ∷ name ∷ []) (node_of k.TagArm)
typings r.TagArms = adds_either (many more_arms ∷ []) (many more_arms ∷ value (s.Others ∷ []) ∷ token s.Colon ∷ many equates ∷ many statements ∷ [])
typings r.Variable = adds (maybe variable ∷ [])
typings r.ExprsInParens = adds (maybe expressions_in_parens ∷ [])
typings r.Whens = adds (many whens ∷ maybe others ∷ [])
typings r.WhenParens = adds_either (maybe decls_in_parens ∷ []) (token s.LeftParen ∷ value (s.Star ∷ []) ∷ token s.RightParen ∷ [])
typings r.WhenInside = adds_either (value (s.Star ∷ []) ∷ []) (child (one k.Decl) ∷ many more_decls ∷ [])
typings r.Expr = adds an_expression
typings r.ExprsRest = adds (many more_expressions ∷ [])
typings r.Arguments = adds (maybe expressions ∷ [])
typings r.Unary = adds an_expression
typings r.Operand = adds an_expression
typings r.Operators = turns an_expression an_expression
typings r.Pow = turns an_expression an_expression
typings r.Mul = turns an_expression an_expression
typings r.Add = turns an_expression an_expression
typings r.Compare = turns an_expression an_expression
typings r.And = turns an_expression an_expression
typings r.Or = turns an_expression an_expression
typings r.Primary = adds an_expression
typings r.Atom = adds an_expression
typings r.IdnExpr = ends (name ∷ []) an_expression
typings r.BaseExpr = within at_dollar bracketed an_expression
typings r.PostfixExpr = turns an_expression an_expression
typings r.SelectorExpr = turns an_expression an_expression
typings r.Call = adds a_call
typings r.IdnCall = ends (name ∷ []) a_call
typings r.BaseCall = within at_dollar bracketed a_call
typings r.PostfixCall = turns an_expression a_call
typings r.SelectorCall = turns an_expression a_call
typings r.AfterCall = turns a_call a_call
typings r.Dollar = turns a_type an_expression
typings r.AfterDollar = ends (child any_type ∷ token s.Dollar ∷ []) an_expression
typings r.FieldERest = ends (name ∷ []) (node_of k.FieldE)
typings r.FieldEsRest = adds (many more_components ∷ [])
typings r.Elems = adds_either (maybe expressions ∷ []) (child expression ∷ value (s.Colon ∷ []) ∷ maybe expressions ∷ [])
typings r.ElemsRest = adds_either (many more_expressions ∷ []) (value (s.Colon ∷ []) ∷ maybe expressions ∷ [])
typings r.ElemsLow = adds (maybe expressions ∷ [])

abbrev pub ends_as : List (List Part) → List (List Part) → Bool
ends_as (a ∷ []) goals = is_one_of a goals
ends_as _ goals = false

-- the items make one of these of the forms
abbrev pub makes : List Item → Known → List (List Part) → List (List Part) → Bool
makes [] known forms goals = ends_as forms goals
makes (item.Terminal x ∷ items) known forms goals = makes items (passed x known) (push (token x) forms) goals
makes (item.Action action.Base ∷ items) known forms goals =
    elim (based forms) [
      | None ↦ false
      | Some next ↦ (makes items (in_bracket true) forms goals && makes items (in_bracket false) next goals)
    ]
makes (item.Action a ∷ items) known forms goals = elim (acted a forms) [ None ↦ false | Some next ↦ makes items known next goals ]
makes (item.Nonterminal n ∷ items) known forms goals =
    elim (applied_one (typings n) known forms) [ None ↦ false | Some ways ↦ list_all (λ way. makes items (kept n known) way goals) ways ]

-- some symbol of the list may come next
abbrev pub may_come : Known → Symbol → Bool
may_come (at_dollar true) x = sameb the_type x s.Dollar
may_come (at_dollar false) x = not (sameb the_type x s.Dollar)
may_come _ x = true

-- the production is chosen if it is reached, whatever symbol comes
abbrev pub is_last : Known → List Symbol → Bool
is_last (at_dollar true) heads = has heads s.Dollar
is_last _ heads = false

abbrev pub start : Typing → List (List Part)
start t = t.takes ++ t.from ∷ []

abbrev pub row_makes : Typing → List Item → Bool
row_makes t items = makes items t.when (start t) t.gives

abbrev pub taken_makes : Typing → List Item → Symbol → Bool
taken_makes t items x = elim (may_come t.when x) [ false ↦ true | true ↦ row_makes t (item.Terminal x ∷ items) ]

abbrev pub peeked_makes : Typing → List Symbol → List Item → Bool
peeked_makes t heads items = elim (list_any (may_come t.when) heads) [ false ↦ true | true ↦ row_makes t items ]

abbrev pub rows_make : Typing → List Production → Bool
rows_make t [] = true
rows_make t (take heads items ∷ ps) = list_all (taken_makes t items) heads && elim (is_last t.when heads) [ true ↦ true | false ↦ rows_make t ps ]
rows_make t (peek heads items ∷ ps) = peeked_makes t heads items && elim (is_last t.when heads) [ true ↦ true | false ↦ rows_make t ps ]
rows_make t (otherwise items ∷ ps) = row_makes t items

abbrev pub all_make : Nonterminal → Bool
all_make n = list_all (λ t. rows_make t (productions n)) (typings n)
