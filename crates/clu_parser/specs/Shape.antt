-- What each node is made of, from its first token to its last: tokens of its own, and its children. A comment is the
-- production of the language: `[x]` is optional, `{x}` is any number, `x#` is one or more x separated by commas,
-- `a / b` is a choice.
use Rattle.std.specs.Prelude.{◌≡◌, ℕ, ◌+◌, ◌≤◌, ◌⊎◌, ◌||◌, Bool, true, false, List, [], ◌∷◌, ◌++◌, length, map, slice_get, Option, Some, None}
use Rattle.clu_lexer.specs.declared.symbols.Symbol.{Symbol}
use Rattle.clu_lexer.specs.declared.symbols.Symbol.TheVariants as s
use Rattle.clu_tree.specs.declared.node.Node.{Node}
use Rattle.clu_tree.specs.declared.node.NodeKind.{NodeKind}
use Rattle.clu_tree.specs.declared.node.NodeKind.TheVariants as k
use Rattle.clu_tree.specs.contracts.node.NodeKind.{the_type}
use Rattle.clu_grammar.specs.Choice.{has}
use Rattle.clu_grammar.specs.Kinds.{is_expression, is_type, is_statement}
use Rattle.clu_grammar.specs.Grammar.{simple, list, fields, literals, signs}
use Rattle.clu_base.specs.declared.tokens.Kind.{Kind}
use Rattle.clu_lexer.specs.Words.{symbol_of}
use Rattle.clu_parser.specs.Spellings.{spelled}
use Rattle.clu_parser.specs.Trees.{Text, spelling_at, value_of}
use denote.Enum.Bare.{sameb}

-- which nodes may be a child; constant = expr / type
pub data Child : Type 0 where
  expression : Child
  any_type : Child
  constant : Child
  statement : Child
  one : NodeKind → Child

abbrev pub is_child : Child → NodeKind → Bool
is_child expression kind = is_expression kind
is_child any_type kind = is_type kind
is_child constant kind = is_expression kind || is_type kind
is_child statement kind = is_statement kind
is_child (one it) kind = sameb the_type it kind

-- what may stand in a node several times, or not at all
pub data Group : Type 0 where
  semicolon : Group
  more_names : Group
  more_types : Group
  types : Group
  types_in_parens : Group
  more_constants : Group
  actuals : Group
  more_expressions : Group
  expressions : Group
  expressions_in_parens : Group
  more_modules : Group
  equates : Group
  owns : Group
  statements : Group
  more_routines : Group
  parms : Group
  more_parms : Group
  decls : Group
  more_decls : Group
  decls_in_parens : Group
  results : Group
  signals : Group
  demands : Group
  more_exceptions : Group
  more_restricts : Group
  more_opers : Group
  more_fields : Group
  more_components : Group
  elseifs : Group
  more_arms : Group
  whens : Group
  others : Group
  variable : Group

-- what stands in a node, one after the other
pub data Part : Type 0 where
  -- a word or a mark
  token : Symbol → Part
  -- an identifier, which is a name of the node
  name : Part
  -- one of these words, marks and literals, which is the node's value
  value : List Symbol → Part
  child : Child → Part
  -- any number of them, and one or none
  many : Group → Part
  maybe : Group → Part

abbrev pub parts_of : Group → List Part
parts_of semicolon = token s.Semicolon ∷ []
parts_of more_names = token s.Comma ∷ name ∷ []
parts_of more_types = token s.Comma ∷ child any_type ∷ []
parts_of types = child any_type ∷ many more_types ∷ []
parts_of types_in_parens = token s.LeftParen ∷ child any_type ∷ many more_types ∷ token s.RightParen ∷ []
parts_of more_constants = token s.Comma ∷ child constant ∷ []
parts_of actuals = token s.LeftBracket ∷ child constant ∷ many more_constants ∷ token s.RightBracket ∷ []
parts_of more_expressions = token s.Comma ∷ child expression ∷ []
parts_of expressions = child expression ∷ many more_expressions ∷ []
parts_of expressions_in_parens = token s.LeftParen ∷ child expression ∷ many more_expressions ∷ token s.RightParen ∷ []
parts_of more_modules = child (one k.Module) ∷ []
parts_of equates = child (one k.Equate) ∷ maybe semicolon ∷ []
parts_of owns = child (one k.Own) ∷ maybe semicolon ∷ []
parts_of statements = child statement ∷ maybe semicolon ∷ []
parts_of more_routines = child (one k.Routine) ∷ []
parts_of parms = token s.LeftBracket ∷ child (one k.Parm) ∷ many more_parms ∷ token s.RightBracket ∷ []
parts_of more_parms = token s.Comma ∷ child (one k.Parm) ∷ []
parts_of decls = child (one k.Decl) ∷ many more_decls ∷ []
parts_of more_decls = token s.Comma ∷ child (one k.Decl) ∷ []
parts_of decls_in_parens = token s.LeftParen ∷ child (one k.Decl) ∷ many more_decls ∷ token s.RightParen ∷ []
parts_of results = child (one k.Results) ∷ []
parts_of signals = child (one k.Signals) ∷ []
parts_of demands = child (one k.Where) ∷ []
parts_of more_exceptions = token s.Comma ∷ child (one k.Exc) ∷ []
parts_of more_restricts = token s.Comma ∷ child (one k.Restrict) ∷ []
parts_of more_opers = token s.Comma ∷ child (one k.Oper) ∷ []
parts_of more_fields = token s.Comma ∷ child (one k.FieldT) ∷ []
parts_of more_components = token s.Comma ∷ child (one k.FieldE) ∷ []
parts_of elseifs = token s.Elseif ∷ child expression ∷ token s.Then ∷ many equates ∷ many statements ∷ []
parts_of more_arms = child (one k.TagArm) ∷ []
parts_of whens = child (one k.When) ∷ []
parts_of others = child (one k.Others) ∷ []
parts_of variable = token s.LeftParen ∷ name ∷ token s.Colon ∷ child any_type ∷ token s.RightParen ∷ []

-- idn# ":" type
abbrev pub typed_names : List Part
typed_names = name ∷ many more_names ∷ token s.Colon ∷ child any_type ∷ []

abbrev pub infix_operators : List Symbol
infix_operators =
    s.Power ∷ s.Star ∷ s.Slash ∷ s.Remainder ∷ s.Plus ∷ s.Minus ∷ s.Concat ∷ s.Less ∷ s.AtMost ∷ s.Equal ∷ s.AtLeast ∷ s.Greater ∷ s.NotLess ∷ s.NotAtMost ∷ s.NotEqual ∷ s.NotAtLeast ∷ s.NotGreater ∷ s.And ∷ s.Cand ∷ s.Bar ∷ s.Cor ∷ []

-- idn "=" (proc / iter) ["[" Parm# "]"] "(" [Decl#] ")" [Results] [Signals] [Where] {Equate} {Own} {stmt} end idn
abbrev pub routine : Symbol → List Part
routine word =
    name ∷ token s.Equal ∷ value (word ∷ []) ∷ maybe parms ∷ token s.LeftParen ∷ maybe decls ∷ token s.RightParen ∷ maybe results ∷ maybe signals ∷ maybe demands ∷ many equates ∷ many owns ∷ many statements ∷ token s.End ∷ name ∷ []

-- word "(" type# ")"
abbrev pub gives : Symbol → List Part
gives word = value (word ∷ []) ∷ token s.LeftParen ∷ child any_type ∷ many more_types ∷ token s.RightParen ∷ []

-- word "(" [type#] ")" [Results] [Signals]
abbrev pub routine_type : Symbol → List Part
routine_type word = value (word ∷ []) ∷ token s.LeftParen ∷ maybe types ∷ token s.RightParen ∷ maybe results ∷ maybe signals ∷ []

-- the forms of a node of each kind
abbrev pub forms : NodeKind → List (List Part)
-- File = Module {Module}
forms k.File = (child (one k.Module) ∷ many more_modules ∷ []) ∷ []
-- Module = {Equate} (Routine / Cluster)
forms k.Module = (many equates ∷ child (one k.Routine) ∷ []) ∷ (many equates ∷ child (one k.Cluster) ∷ []) ∷ []
forms k.Routine = routine s.Proc ∷ routine s.Iter ∷ []
-- Cluster = idn "=" cluster ["[" Parm# "]"] is idn# [Where] {Equate} {Own} Routine {Routine} end idn
forms k.Cluster =
    (name ∷ token s.Equal ∷ value (s.Cluster ∷ []) ∷ maybe parms ∷ token s.Is ∷ name ∷ many more_names ∷ maybe demands ∷ many equates ∷ many owns ∷ child (one k.Routine) ∷ many more_routines ∷ token s.End ∷ name ∷ []) ∷ []
-- Parm = idn# ":" (type-word / type)
forms k.Parm = (name ∷ many more_names ∷ token s.Colon ∷ value (s.TypeWord ∷ []) ∷ []) ∷ typed_names ∷ []
-- Results = returns "(" type# ")" / yields "(" type# ")"
forms k.Results = gives s.Returns ∷ gives s.Yields ∷ []
-- Signals = signals "(" Exc# ")"
forms k.Signals = (token s.Signals ∷ token s.LeftParen ∷ child (one k.Exc) ∷ many more_exceptions ∷ token s.RightParen ∷ []) ∷ []
-- Exc = idn ["(" type# ")"]
forms k.Exc = (name ∷ maybe types_in_parens ∷ []) ∷ []
-- Where = where Restrict#
forms k.Where = (token s.Where ∷ child (one k.Restrict) ∷ many more_restricts ∷ []) ∷ []
-- Restrict = idn has Oper# / idn in idn / idn in TypeSet
forms k.Restrict =
    (name ∷ value (s.Has ∷ []) ∷ child (one k.Oper) ∷ many more_opers ∷ []) ∷
    (name ∷ value (s.In ∷ []) ∷ name ∷ []) ∷
    (name ∷ value (s.In ∷ []) ∷ child (one k.TypeSet) ∷ []) ∷
    []
-- Oper = idn# ":" type
forms k.Oper = typed_names ∷ []
-- TypeSet = "{" idn "|" idn has Oper# {Equate} "}"
forms k.TypeSet = (token s.LeftBrace ∷ name ∷ token s.Bar ∷ name ∷ token s.Has ∷ child (one k.Oper) ∷ many more_opers ∷ many equates ∷ token s.RightBrace ∷ []) ∷ []
-- Equate = (idn / rep) "=" (constant / TypeSet)
forms k.Equate =
    (name ∷ token s.Equal ∷ child constant ∷ []) ∷
    (name ∷ token s.Equal ∷ child (one k.TypeSet) ∷ []) ∷
    (value (s.Rep ∷ []) ∷ token s.Equal ∷ child constant ∷ []) ∷
    (value (s.Rep ∷ []) ∷ token s.Equal ∷ child (one k.TypeSet) ∷ []) ∷
    []
-- Own = own (Decl# / idn ":" type ":=" expr / Decl# ":=" Call)
forms k.Own =
    (value (s.Own ∷ []) ∷ child (one k.Decl) ∷ many more_decls ∷ []) ∷
    (value (s.Own ∷ []) ∷ name ∷ token s.Colon ∷ child any_type ∷ token s.Assign ∷ child expression ∷ []) ∷
    (value (s.Own ∷ []) ∷ child (one k.Decl) ∷ many more_decls ∷ token s.Assign ∷ child (one k.Call) ∷ []) ∷
    []
-- Decl = idn# ":" type
forms k.Decl = typed_names ∷ []
-- Simple = null / bool / int / real / char / string / any / rep / cvt
forms k.Simple = (value simple ∷ []) ∷ []
-- ListT = (array / sequence) "[" type "]"
forms k.ListT = (value list ∷ token s.LeftBracket ∷ child any_type ∷ token s.RightBracket ∷ []) ∷ []
-- FieldsT = (record / struct / oneof / variant) "[" FieldT# "]"
forms k.FieldsT = (value fields ∷ token s.LeftBracket ∷ child (one k.FieldT) ∷ many more_fields ∷ token s.RightBracket ∷ []) ∷ []
-- FieldT = idn# ":" type
forms k.FieldT = typed_names ∷ []
forms k.RoutineT = routine_type s.Proctype ∷ routine_type s.Itertype ∷ []
-- NameT = idn ["[" constant# "]"]
forms k.NameT = (name ∷ maybe actuals ∷ []) ∷ []
-- Declare = Decl
forms k.Declare = (child (one k.Decl) ∷ []) ∷ []
-- Init = idn ":" type ":=" expr / Decl# ":=" Call
forms k.Init =
    (name ∷ token s.Colon ∷ child any_type ∷ token s.Assign ∷ child expression ∷ []) ∷
    (child (one k.Decl) ∷ many more_decls ∷ token s.Assign ∷ child (one k.Call) ∷ []) ∷
    []
-- Assign = idn# ":=" expr#
forms k.Assign = (name ∷ many more_names ∷ token s.Assign ∷ child expression ∷ many more_expressions ∷ []) ∷ []
-- SetField = primary "." idn ":=" expr
forms k.SetField = (child expression ∷ token s.Point ∷ name ∷ token s.Assign ∷ child expression ∷ []) ∷ []
-- SetIndex = primary "[" expr "]" ":=" expr
forms k.SetIndex = (child expression ∷ token s.LeftBracket ∷ child expression ∷ token s.RightBracket ∷ token s.Assign ∷ child expression ∷ []) ∷ []
-- CallS = Call
forms k.CallS = (child (one k.Call) ∷ []) ∷ []
-- While = while expr do body end; body = {Equate} {stmt}
forms k.While = (token s.While ∷ child expression ∷ token s.Do ∷ many equates ∷ many statements ∷ token s.End ∷ []) ∷ []
-- For = for [Decl# / idn#] in Call do body end
forms k.For =
    (token s.For ∷ maybe decls ∷ token s.In ∷ child (one k.Call) ∷ token s.Do ∷ many equates ∷ many statements ∷ token s.End ∷ []) ∷
    (token s.For ∷ name ∷ many more_names ∷ token s.In ∷ child (one k.Call) ∷ token s.Do ∷ many equates ∷ many statements ∷ token s.End ∷ []) ∷
    []
-- If = if expr then body {elseif expr then body} [else body] end
forms k.If =
    (token s.If ∷ child expression ∷ token s.Then ∷ many equates ∷ many statements ∷ many elseifs ∷ token s.End ∷ []) ∷
    (token s.If ∷ child expression ∷ token s.Then ∷ many equates ∷ many statements ∷ many elseifs ∷ value (s.Else ∷ []) ∷ many equates ∷ many statements ∷ token s.End ∷ []) ∷
    []
-- Tagcase = tagcase expr TagArm {TagArm} [others ":" body] end
forms k.Tagcase =
    (token s.Tagcase ∷ child expression ∷ child (one k.TagArm) ∷ many more_arms ∷ token s.End ∷ []) ∷
    (token s.Tagcase ∷ child expression ∷ child (one k.TagArm) ∷ many more_arms ∷ value (s.Others ∷ []) ∷ token s.Colon ∷ many equates ∷ many statements ∷ token s.End ∷ []) ∷
    []
-- TagArm = tag idn# ["(" idn ":" type ")"] ":" body
forms k.TagArm = (token s.Tag ∷ name ∷ many more_names ∷ maybe variable ∷ token s.Colon ∷ many equates ∷ many statements ∷ []) ∷ []
-- Return = return ["(" expr# ")"], and likewise Yield
forms k.Return = (token s.Return ∷ maybe expressions_in_parens ∷ []) ∷ []
forms k.Yield = (token s.Yield ∷ maybe expressions_in_parens ∷ []) ∷ []
-- Signal = signal idn ["(" expr# ")"], and likewise Exit
forms k.Signal = (token s.Signal ∷ name ∷ maybe expressions_in_parens ∷ []) ∷ []
forms k.Exit = (token s.Exit ∷ name ∷ maybe expressions_in_parens ∷ []) ∷ []
forms k.Break = (token s.Break ∷ []) ∷ []
forms k.Continue = (token s.Continue ∷ []) ∷ []
-- Begin = begin body end
forms k.Begin = (token s.Begin ∷ many equates ∷ many statements ∷ token s.End ∷ []) ∷ []
-- Resignal = stmt resignal idn#
forms k.Resignal = (child statement ∷ maybe semicolon ∷ token s.Resignal ∷ name ∷ many more_names ∷ []) ∷ []
-- Except = stmt except {When} [Others] end
forms k.Except = (child statement ∷ maybe semicolon ∷ token s.Except ∷ many whens ∷ maybe others ∷ token s.End ∷ []) ∷ []
-- When = when idn# ["(" Decl# ")" / "(" "*" ")"] ":" body
forms k.When =
    (token s.When ∷ name ∷ many more_names ∷ maybe decls_in_parens ∷ token s.Colon ∷ many equates ∷ many statements ∷ []) ∷
    (token s.When ∷ name ∷ many more_names ∷ token s.LeftParen ∷ value (s.Star ∷ []) ∷ token s.RightParen ∷ token s.Colon ∷ many equates ∷ many statements ∷ []) ∷
    []
-- Others = others ["(" idn ":" type ")"] ":" body
forms k.Others = (token s.Others ∷ maybe variable ∷ token s.Colon ∷ many equates ∷ many statements ∷ []) ∷ []
-- Infix = expr operator expr
forms k.Infix = (child expression ∷ value infix_operators ∷ child expression ∷ []) ∷ []
-- Prefix = ("~" / "-") expr
forms k.Prefix = (value signs ∷ child expression ∷ []) ∷ []
-- Paren = "(" expr ")"
forms k.Paren = (token s.LeftParen ∷ child expression ∷ token s.RightParen ∷ []) ∷ []
forms k.Literal = (value literals ∷ []) ∷ []
forms k.Name = (name ∷ []) ∷ []
-- Index = primary "[" constant# "]"
forms k.Index = (child expression ∷ token s.LeftBracket ∷ child constant ∷ many more_constants ∷ token s.RightBracket ∷ []) ∷ []
-- Get = primary "." idn
forms k.Get = (child expression ∷ token s.Point ∷ name ∷ []) ∷ []
-- Call = primary "(" [expr#] ")"
forms k.Call = (child expression ∷ token s.LeftParen ∷ maybe expressions ∷ token s.RightParen ∷ []) ∷ []
-- Fields = type "$" "{" FieldE# "}"
forms k.Fields = (child any_type ∷ token s.Dollar ∷ token s.LeftBrace ∷ child (one k.FieldE) ∷ many more_components ∷ token s.RightBrace ∷ []) ∷ []
-- FieldE = idn# ":" expr
forms k.FieldE = (name ∷ many more_names ∷ token s.Colon ∷ child expression ∷ []) ∷ []
-- Elems = type "$" "[" [expr ":"] [expr#] "]"
forms k.Elems =
    (child any_type ∷ token s.Dollar ∷ token s.LeftBracket ∷ maybe expressions ∷ token s.RightBracket ∷ []) ∷
    (child any_type ∷ token s.Dollar ∷ token s.LeftBracket ∷ child expression ∷ value (s.Colon ∷ []) ∷ maybe expressions ∷ token s.RightBracket ∷ []) ∷
    []
-- OperOf = type "$" idn
forms k.OperOf = (child any_type ∷ token s.Dollar ∷ name ∷ []) ∷ []
-- Force = force "[" type "]"
forms k.Force = (token s.Force ∷ token s.LeftBracket ∷ child any_type ∷ token s.RightBracket ∷ []) ∷ []
-- Up = up "(" expr ")", and likewise Down
forms k.Up = (token s.Up ∷ token s.LeftParen ∷ child expression ∷ token s.RightParen ∷ []) ∷ []
forms k.Down = (token s.Down ∷ token s.LeftParen ∷ child expression ∷ token s.RightParen ∷ []) ∷ []

-- what stands in a certain node
pub data Letter : Type 0 where
  own : Symbol → Letter
  named : Letter
  valued : Symbol → Letter
  node : NodeKind → Letter

-- the letters are of the form
pub data IsWord : List Part → List Letter → Type 0 where
  nothing : IsWord [] []
  token_is : (x : Symbol) (ps : List Part) (w : List Letter) → IsWord ps w → IsWord (token x ∷ ps) (own x ∷ w)
  name_is : (ps : List Part) (w : List Letter) → IsWord ps w → IsWord (name ∷ ps) (named ∷ w)
  value_is : (xs : List Symbol) (x : Symbol) (ps : List Part) (w : List Letter) → has xs x ≡ true → IsWord ps w → IsWord (value xs ∷ ps) (valued x ∷ w)
  child_is : (c : Child) (kind : NodeKind) (ps : List Part) (w : List Letter) → is_child c kind ≡ true → IsWord ps w → IsWord (child c ∷ ps) (node kind ∷ w)
  no_more : (g : Group) (ps : List Part) (w : List Letter) → IsWord ps w → IsWord (many g ∷ ps) w
  one_more : (g : Group) (ps : List Part) (v w u : List Letter) → IsWord (parts_of g) v → IsWord (many g ∷ ps) w → u ≡ v ++ w → IsWord (many g ∷ ps) u
  without : (g : Group) (ps : List Part) (w : List Letter) → IsWord ps w → IsWord (maybe g ∷ ps) w
  with_one : (g : Group) (ps : List Part) (v w u : List Letter) → IsWord (parts_of g) v → IsWord ps w → u ≡ v ++ w → IsWord (maybe g ∷ ps) u

-- the tokens from one number up to the other are these letters: the tokens of a child are one letter. It gives the
-- children, and the numbers of the tokens that are names and values.
pub data Spelled (t : Text) (nodes : List Node) : ℕ → List Letter → List ℕ → List ℕ → List ℕ → ℕ → Type 0 where
  ended : (at : ℕ) → Spelled t nodes at [] [] [] [] at
  own_token : (x : Symbol) (at : ℕ) (w : List Letter) (children names values : List ℕ) (to : ℕ) → slice_get t.symbols at ≡ Some x → Spelled t nodes (at + 1) w children names values to → Spelled t nodes at (own x ∷ w) children names values to
  a_name : (at : ℕ) (w : List Letter) (children names values : List ℕ) (to : ℕ) → slice_get t.symbols at ≡ Some s.Idn → Spelled t nodes (at + 1) w children names values to → Spelled t nodes at (named ∷ w) children (at ∷ names) values to
  a_value : (x : Symbol) (at : ℕ) (w : List Letter) (children names values : List ℕ) (to : ℕ) → slice_get t.symbols at ≡ Some x → Spelled t nodes (at + 1) w children names values to → Spelled t nodes at (valued x ∷ w) children names (at ∷ values) to
  a_child : (c : ℕ) (n : Node) (w : List Letter) (children names values : List ℕ) (to : ℕ) → slice_get nodes c ≡ Some n → Spelled t nodes (n.last + 1) w children names values to → Spelled t nodes n.first (node n.kind ∷ w) (c ∷ children) names values to

-- the last of the numbers
abbrev pub last_in : List ℕ → Option ℕ
last_in [] = None
last_in (n ∷ []) = Some n
last_in (n ∷ m ∷ ns) = last_in (m ∷ ns)

abbrev pub IsFormOf : List Part → List (List Part) → Type 0
IsFormOf form [] = ⊥
IsFormOf form (it ∷ more) = (form ≡ it) ⊎ IsFormOf form more

-- the node is one production of its kind over the tokens from its first to its last
pub record IsProduction (t : Text) (nodes : List Node) (n : Node) : Type 0 where
  pub form : List Part
  pub word : List Letter
  pub names : List ℕ
  pub values : List ℕ
  pub of_kind : IsFormOf form (forms n.kind)
  pub is_word : IsWord form word
  pub spelled : Spelled t nodes n.first word n.children names values (n.last + 1)
  pub names_are : n.names ≡ map (spelling_at t) names
  pub token_is : n.value_token ≡ last_in values
  pub value_is : n.value ≡ value_of t n.value_token
  pub ordered : n.first ≤ n.last

-- each node is
abbrev pub IsShaped : Text → List Node → Type 0
IsShaped t nodes = (i : ℕ) (n : Node) → slice_get nodes i ≡ Some n → IsProduction t nodes n

-- what the tree itself tells of it: the kinds of the children, how many names there are, and what the value spells
abbrev pub kinds_in : List Letter → List NodeKind
kinds_in [] = []
kinds_in (node kind ∷ w) = kind ∷ kinds_in w
kinds_in (_ ∷ w) = kinds_in w

abbrev pub names_in : List Letter → ℕ
names_in [] = 0
names_in (named ∷ w) = names_in w + 1
names_in (_ ∷ w) = names_in w

abbrev pub values_in : List Letter → List Symbol
values_in [] = []
values_in (valued x ∷ w) = x ∷ values_in w
values_in (_ ∷ w) = values_in w

abbrev pub HaveKinds : List Node → List ℕ → List NodeKind → Type 0
HaveKinds nodes [] [] = Unit {0}
HaveKinds nodes [] (kind ∷ kinds) = ⊥
HaveKinds nodes (c ∷ cs) [] = ⊥
HaveKinds nodes (c ∷ cs) (kind ∷ kinds) = (n : Node) × (slice_get nodes c ≡ Some n) × (n.kind ≡ kind) × HaveKinds nodes cs kinds

-- the bytes are a token that is this symbol
pub record Spells (bytes : List ℕ) (x : Symbol) : Type 0 where
  pub kind : Kind
  pub written : List ℕ
  pub is : symbol_of kind written ≡ x
  pub spelled_so : bytes ≡ spelled kind written

-- the value is the last of these symbols, or there is none
abbrev pub HasValue : Node → List Symbol → Type 0
HasValue n [] = (n.value_token ≡ None) × (n.value ≡ [])
HasValue n (x ∷ []) = (at : ℕ) × (n.value_token ≡ Some at) × Spells n.value x
HasValue n (x ∷ y ∷ xs) = HasValue n (y ∷ xs)

pub record HasForm (nodes : List Node) (n : Node) : Type 0 where
  pub form : List Part
  pub word : List Letter
  pub of_kind : IsFormOf form (forms n.kind)
  pub is_word : IsWord form word
  pub children_are : HaveKinds nodes n.children (kinds_in word)
  pub names_are : length n.names ≡ names_in word
  pub value_is : HasValue n (values_in word)

abbrev pub HaveForms : List Node → Type 0
HaveForms nodes = (i : ℕ) (n : Node) → slice_get nodes i ≡ Some n → HasForm nodes n
