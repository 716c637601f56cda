-- The operations that are defined by texts. Each is the tree of the CLU text above it, in which `t` is the type of the
-- elements, and each name denotes the declaration that has it.
use Prim.Native.String.{String}
use Rattle.std.specs.Prelude.{ℕ, List, [], ◌∷◌, map, Option, None, Some, if◌then◌else◌, bytes_eq, codes}
use Rattle.std.specs.Option.{option_map}
use Rattle.clu_types.specs.CluType.{CluType, int_type, string_type, array_of, sequence_of, record_of, struct_of, oneof_of, variant_of, Actuals, no_actuals, actual_type}
use Rattle.clu_syntax.specs.declared.words.Operator.{Operator}
use Rattle.clu_syntax.specs.declared.words.Operator.TheVariants as op
use Rattle.clu_syntax.specs.declared.words.Sign.TheVariants as sign
use Rattle.clu_syntax.specs.declared.words.SimpleType.TheVariants as simple
use Rattle.clu_syntax.specs.declared.words.ListType.TheVariants as list
use Rattle.clu_syntax.specs.declared.words.RoutineKind.{RoutineKind}
use Rattle.clu_syntax.specs.declared.words.RoutineKind.TheVariants as kind
use Rattle.clu_syntax.specs.Syntax.{true_literal, false_literal, integer, Expression, an_infix, a_prefix, a_paren, a_literal, a_name, an_index, a_call, an_operation, Expressions, no_expressions, expression_and, an_expression, no_constants, constant_and, TypeExpression, a_simple_type, a_list_type, a_named_type, TypeExpressions, no_types, type_and, no_exceptions, Typed, no_equates, objects, Statement, an_init, an_assign, a_call_statement, a_while, a_for, an_if, a_return, a_yield, an_except, Statements, no_statements, statement_and, Body, a_body, no_clauses, clause_and, nothing_else, no_whens, when_and, no_others, Routine}
use Rattle.clu_names.specs.declared.scopes.Declared.{Declared}
use Rattle.clu_meaning.specs.Programs.{RoutineDefinition}
use Rattle.clu_meaning.specs.Scoping.{Bindings, binding, is_type_parameter, of_routine}
use Rattle.clu_meaning.specs.Resolving.{routine_definition}
use Rattle.clu_meaning.specs.Schemes.{scheme_of}

-- ---- words for trees. All nodes have the number 0, and each declaration is in scope at all of them

abbrev infix_of : Operator → Expression → Expression → Expression
infix_of = an_infix 0

abbrev name : String → Expression
name x = a_name 0 (codes x)

abbrev number : String → Expression
number digits = a_literal 0 (integer (codes digits))

abbrev truth : Expression
truth = a_literal 0 true_literal

abbrev falsehood : Expression
falsehood = a_literal 0 false_literal

abbrev not : Expression → Expression
not = a_prefix 0 sign.Not

abbrev in_parentheses : Expression → Expression
in_parentheses = a_paren 0

-- a[i]
abbrev element : String → String → Expression
element a i = an_index 0 (name a) (constant_and (an_expression (name i)) no_constants)

abbrev these : List Expression → Expressions
these [] = no_expressions
these (e ∷ es) = expression_and e (these es)

-- t$op(es)
abbrev apply : TypeExpression → String → List Expression → Expression
apply u operation es = a_call 0 (an_operation 0 u (codes operation)) (these es)

-- u$op(x)
abbrev of : TypeExpression → String → String → Expression
of u operation x = apply u operation (name x ∷ [])

abbrev t : TypeExpression
t = a_named_type 0 (codes "t") no_constants

abbrev int : TypeExpression
int = a_simple_type 0 simple.Int

abbrev bool : TypeExpression
bool = a_simple_type 0 simple.Bool

abbrev string : TypeExpression
string = a_simple_type 0 simple.String

abbrev array_t : TypeExpression
array_t = a_list_type 0 list.Array t

abbrev sequence_t : TypeExpression
sequence_t = a_list_type 0 list.Sequence t

abbrev one_type : TypeExpression → TypeExpressions
one_type u = type_and u no_types

abbrev declared : List String → TypeExpression → Typed
declared names u = record { node = 0; names = map codes names; type = u }

abbrev all : List Statement → Statements
all [] = no_statements
all (s ∷ ss) = statement_and s (all ss)

abbrev block : List Statement → Body
block ss = a_body no_equates (all ss)

-- x: t := e
abbrev init : String → TypeExpression → Expression → Statement
init x u e = an_init 0 (record { name = codes x; type = u }) e

-- for x: t in e do ss end
abbrev for : String → TypeExpression → Expression → List Statement → Statement
for x u e ss = a_for 0 (declared (x ∷ []) u ∷ []) e (block ss)

abbrev yield : Expression → Statement
yield e = a_yield 0 (these (e ∷ []))

abbrev return : List Expression → Statement
return es = a_return 0 (these es)

-- if e then s end
abbrev when_true : Expression → Statement → Statement
when_true e s = an_if 0 (clause_and e (block (s ∷ [])) no_clauses) nothing_else

abbrev text : String → RoutineKind → List Typed → TypeExpression → List Statement → Routine
text name k arguments result ss = record { node = 0; name = codes name; closing = codes name; kind = k; parameters = []; arguments = arguments; results = one_type result; signals = no_exceptions; restrictions = []; equates = no_equates; owns = []; statements = all ss }

-- ---- int

-- (s > 0 cand x <= b)
abbrev upward : Expression
upward = in_parentheses (infix_of op.Cand (infix_of op.Greater (name "s") (number "0")) (infix_of op.AtMost (name "x") (name "b")))

-- (s < 0 cand x >= b)
abbrev downward : Expression
downward = in_parentheses (infix_of op.Cand (infix_of op.Less (name "s") (number "0")) (infix_of op.AtLeast (name "x") (name "b")))

-- (s > 0 cand x <= b) cor (s < 0 cand x >= b) cor s = 0
abbrev goes_on : Expression
goes_on = infix_of op.Cor (infix_of op.Cor upward downward) (infix_of op.Equal (name "s") (number "0"))

-- x := x + s
abbrev one_step : Statement
one_step = an_assign 0 (codes "x" ∷ []) (these (infix_of op.Add (name "x") (name "s") ∷ []))

-- s except when overflow: end
abbrev until_overflow : Statement → Statement
until_overflow s = an_except 0 s (when_and 0 (codes "overflow" ∷ []) (objects []) (block []) no_whens) no_others

-- from_to_by = iter (a, b, s: int) yields (int)
--   x: int := a
--   while (s > 0 cand x <= b) cor (s < 0 cand x >= b) cor s = 0 do
--     yield (x)
--     x := x + s
--   end except when overflow: end
-- end from_to_by
abbrev pub from_to_by : Routine
from_to_by = text "from_to_by" kind.Iterator (declared ("a" ∷ "b" ∷ "s" ∷ []) int ∷ []) int
    (init "x" int (name "a") ∷
    until_overflow (a_while 0 goes_on (block (yield (name "x") ∷ one_step ∷ []))) ∷
    [])

-- from_to = iter (a, b: int) yields (int)
--   for x: int in int$from_to_by(a, b, 1) do yield (x) end
-- end from_to
abbrev pub from_to : Routine
from_to = text "from_to" kind.Iterator (declared ("a" ∷ "b" ∷ []) int ∷ []) int
    (for "x" int (apply int "from_to_by" (name "a" ∷ name "b" ∷ number "1" ∷ [])) (yield (name "x") ∷ []) ∷
    [])

-- ---- string

-- chars = iter (s: string) yields (char)
--   for i: int in int$from_to(1, string$size(s)) do yield (s[i]) end
-- end chars
abbrev pub chars : Routine
chars = text "chars" kind.Iterator (declared ("s" ∷ []) string ∷ []) (a_simple_type 0 simple.Char)
    (for "i" int (apply int "from_to" (number "1" ∷ of string "size" "s" ∷ [])) (yield (element "s" "i") ∷ []) ∷
    [])

-- ---- arrays

-- indexes = iter (a: array[t]) yields (int)
--   for i: int in int$from_to(array[t]$low(a), array[t]$high(a)) do yield (i) end
-- end indexes
abbrev pub array_indexes : Routine
array_indexes = text "indexes" kind.Iterator (declared ("a" ∷ []) array_t ∷ []) int
    (for "i" int (apply int "from_to" (of array_t "low" "a" ∷ of array_t "high" "a" ∷ [])) (yield (name "i") ∷ []) ∷
    [])

-- i < array[t]$low(a) | i > array[t]$high(a)
abbrev outside : Expression
outside = infix_of op.Or (infix_of op.Less (name "i") (of array_t "low" "a")) (infix_of op.Greater (name "i") (of array_t "high" "a"))

-- elements = iter (a: array[t]) yields (t)
--   for i: int in array[t]$indexes(a) do
--     if i < array[t]$low(a) | i > array[t]$high(a) then return end
--     yield (a[i])
--   end
-- end elements
abbrev pub array_elements : Routine
array_elements = text "elements" kind.Iterator (declared ("a" ∷ []) array_t ∷ []) t
    (for "i" int (of array_t "indexes" "a") (when_true outside (return []) ∷ yield (element "a" "i") ∷ []) ∷
    [])

-- u$op(a) ~= u$op(b)
abbrev unlike : TypeExpression → String → Expression
unlike u operation = infix_of op.NotEqual (of u operation "a") (of u operation "b")

-- if ~t$op(a[i], b[i]) then return (false) end
abbrev unless_alike : String → Statement
unless_alike operation = when_true (not (apply t operation (element "a" "i" ∷ element "b" "i" ∷ []))) (return (falsehood ∷ []))

-- similar = proc (a, b: array[t]) returns (bool)
--   if array[t]$low(a) ~= array[t]$low(b) | array[t]$size(a) ~= array[t]$size(b)
--     then return (false) end
--   for i: int in array[t]$indexes(a) do
--     if ~t$similar(a[i], b[i]) then return (false) end
--   end
--   return (true)
-- end similar
-- and similar1 is this with t$equal
abbrev pub array_similar : String → String → Routine
array_similar operation compares = text operation kind.Procedure (declared ("a" ∷ "b" ∷ []) array_t ∷ []) bool
    (when_true (infix_of op.Or (unlike array_t "low") (unlike array_t "size")) (return (falsehood ∷ [])) ∷
    for "i" int (of array_t "indexes" "a") (unless_alike compares ∷ []) ∷
    return (truth ∷ []) ∷
    [])

-- array[t]$addh(b, t$copy(x))
abbrev adds_a_copy : Statement
adds_a_copy = a_call_statement 0 (apply array_t "addh" (name "b" ∷ of t "copy" "x" ∷ []))

-- copy = proc (a: array[t]) returns (array[t])
--   b: array[t] := array[t]$create(array[t]$low(a))
--   for x: t in array[t]$elements(a) do array[t]$addh(b, t$copy(x)) end
--   return (b)
-- end copy
abbrev pub array_copy : Routine
array_copy = text "copy" kind.Procedure (declared ("a" ∷ []) array_t ∷ []) array_t
    (init "b" array_t (apply array_t "create" (of array_t "low" "a" ∷ [])) ∷
    for "x" t (of array_t "elements" "a") (adds_a_copy ∷ []) ∷
    return (name "b" ∷ []) ∷
    [])

-- ---- sequences

-- indexes = iter (a: sequence[t]) yields (int)
--   for i: int in int$from_to(1, sequence[t]$size(a)) do yield (i) end
-- end indexes
abbrev pub sequence_indexes : Routine
sequence_indexes = text "indexes" kind.Iterator (declared ("a" ∷ []) sequence_t ∷ []) int
    (for "i" int (apply int "from_to" (number "1" ∷ of sequence_t "size" "a" ∷ [])) (yield (name "i") ∷ []) ∷
    [])

-- elements = iter (a: sequence[t]) yields (t)
--   for i: int in sequence[t]$indexes(a) do yield (a[i]) end
-- end elements
abbrev pub sequence_elements : Routine
sequence_elements = text "elements" kind.Iterator (declared ("a" ∷ []) sequence_t ∷ []) t
    (for "i" int (of sequence_t "indexes" "a") (yield (element "a" "i") ∷ []) ∷
    [])

-- similar = proc (a, b: sequence[t]) returns (bool)
--   if sequence[t]$size(a) ~= sequence[t]$size(b) then return (false) end
--   for i: int in sequence[t]$indexes(a) do
--     if ~t$similar(a[i], b[i]) then return (false) end
--   end
--   return (true)
-- end similar
-- and equal is this with t$equal
abbrev pub sequence_similar : String → Routine
sequence_similar operation = text operation kind.Procedure (declared ("a" ∷ "b" ∷ []) sequence_t ∷ []) bool
    (when_true (unlike sequence_t "size") (return (falsehood ∷ [])) ∷
    for "i" int (of sequence_t "indexes" "a") (unless_alike operation ∷ []) ∷
    return (truth ∷ []) ∷
    [])

-- copy = proc (a: sequence[t]) returns (sequence[t])
--   b: array[t] := array[t]$new()
--   for x: t in sequence[t]$elements(a) do array[t]$addh(b, t$copy(x)) end
--   return (sequence[t]$a2s(b))
-- end copy
abbrev pub sequence_copy : Routine
sequence_copy = text "copy" kind.Procedure (declared ("a" ∷ []) sequence_t ∷ []) sequence_t
    (init "b" array_t (apply array_t "new" []) ∷
    for "x" t (of sequence_t "elements" "a") (adds_a_copy ∷ []) ∷
    return (of sequence_t "a2s" "b" ∷ []) ∷
    [])

-- ---- the table

abbrev pub Texts : Type 0
Texts = List Routine

abbrev pub int_texts : Texts
int_texts = from_to ∷ from_to_by ∷ []

abbrev pub string_texts : Texts
string_texts = chars ∷ []

abbrev pub array_texts : Texts
array_texts = array_elements ∷ array_indexes ∷ array_similar "similar" "similar" ∷ array_similar "similar1" "equal" ∷ array_copy ∷ []

abbrev pub sequence_texts : Texts
sequence_texts = sequence_elements ∷ sequence_indexes ∷ sequence_similar "equal" ∷ sequence_similar "similar" ∷ sequence_copy ∷ []

abbrev pub texts_of : CluType → Texts
texts_of int_type = int_texts
texts_of string_type = string_texts
texts_of (array_of u) = array_texts
texts_of (sequence_of u) = sequence_texts
texts_of _ = []

abbrev pub text_named : Texts → List ℕ → Option Routine
text_named [] operation = None
text_named (r ∷ rs) operation = if bytes_eq r.name operation then Some r else text_named rs operation

-- ---- as definitions

-- each name of a text is declared once; `t` is the parameter of number 1
abbrev pub text_bindings : Routine → Bindings
text_bindings r = binding 0 (is_type_parameter 1) (codes "t") ∷ of_routine r

abbrev pub in_scope : Bindings → List Declared
in_scope bindings = map (λ b. record { name = b.name; node = b.node; from = 0; to = 0; unit = Some 0 }) bindings

abbrev pub defined_by : Routine → RoutineDefinition
defined_by r = routine_definition (record { scope = record { declarations = in_scope (text_bindings r); bindings = text_bindings r }; home = None }) 0 r

-- the definition of an operation of a type that has one
abbrev pub text_of : CluType → List ℕ → Option RoutineDefinition
text_of (record_of fs) operation = scheme_of (record_of fs) operation
text_of (struct_of fs) operation = scheme_of (struct_of fs) operation
text_of (oneof_of fs) operation = scheme_of (oneof_of fs) operation
text_of (variant_of fs) operation = scheme_of (variant_of fs) operation
text_of T operation = option_map defined_by (text_named (texts_of T) operation)

-- the actuals of its parameters
abbrev pub text_given : CluType → Actuals
text_given (array_of u) = actual_type u no_actuals
text_given (sequence_of u) = actual_type u no_actuals
text_given T = no_actuals
