-- The operations of structs, records, oneofs and variants that apply an operation of each component's type: a family of
-- texts over the selectors, in ascending order. `a` and `b` are the arguments, T their type.
use Rattle.std.specs.Prelude.{ℕ, suc, ◌+◌, ◌*◌, true, false, List, [], ◌∷◌, ◌++◌, Option, None, Some, if◌then◌else◌, bytes_eq, codes}
use Rattle.clu_base.specs.declared.constants.Const.TheVariants as constant_of
use Rattle.clu_types.specs.CluType.{CluType, bool_type, record_of, struct_of, oneof_of, variant_of, Fields, no_fields, field_and}
use Rattle.clu_layout.specs.Objects.{operation_of}
use Rattle.clu_meaning.specs.Lists.{is_among, selectors}
use Rattle.clu_meaning.specs.Programs.{local, Expression, constant, variable, routine, operator, call, fields, besides, Expressions, no_expressions, expression_and, Components, no_components, component_and, Statement, if_statement, tagcase_statement, return_statement, Statements, no_statements, statement_and, no_clauses, clause_and, nothing_else, otherwise, TagArms, no_tag_arms, tag_arm_and, plain, Declaration, Formal, RoutineDefinition}

-- the nodes that a scheme counts
abbrev pub scheme_count : Fields → ℕ
scheme_count fs = 8 + 8 * selectors fs

-- ---- words for trees

abbrev one : Expression → Expressions
one e = expression_and e no_expressions

abbrev two : Expression → Expression → Expressions
two e f = expression_and e (one f)

abbrev only : Statement → Statements
only s = statement_and s no_statements

abbrev numbered : ℕ → Expression
numbered n = variable (local n)

abbrev a : Expression
a = numbered 0

abbrev b : Expression
b = numbered 1

abbrev component : Expression → List ℕ → Expression
component r s = operator (codes "get_" ++ s) r no_expressions

-- u$op(es)
abbrev apply : CluType → List ℕ → Expressions → Expression
apply u op es = call (routine (operation_of u op)) es

abbrev returns : Expression → Statement
returns e = return_statement (one e)

abbrev truth : Expression
truth = constant (constant_of.Bool true)

abbrev falsehood : Expression
falsehood = constant (constant_of.Bool false)

-- if ~e then return (false) end
abbrev unless_false : Expression → Statement
unless_false e = if_statement (clause_and (operator (codes "not") e no_expressions) (only (returns falsehood)) no_clauses) nothing_else

-- ---- structs and records

-- if ~u$op(a.s, b.s) then return (false) end, for each selector s, whose type is u; return (true)
abbrev pub comparing : List ℕ → Fields → Statements
comparing op no_fields = only (returns truth)
comparing op (field_and s u rest) = statement_and (unless_false (apply u op (two (component a s) (component b s)))) (comparing op rest)

-- s: u$copy(a.s), for each selector
abbrev pub copied_components : Fields → Components
copied_components no_fields = no_components
copied_components (field_and s u rest) = component_and (s ∷ []) (apply u (codes "copy") (one (component a s))) (copied_components rest)

-- return (T${..}); each component of the new object is a unit of work
abbrev pub copying : CluType → Fields → Statements
copying T fs = only (returns (besides (selectors fs) (fields T (copied_components fs))))

-- ---- oneofs and variants

-- for each tag s an arm with a variable of its own, where the first has the number n
abbrev pub tags_comparing : List ℕ → ℕ → Fields → TagArms
tags_comparing op n no_fields = no_tag_arms
tags_comparing op n (field_and s u rest) =
    -- tag s (x: u): tagcase b tag s (y: u): return (u$op(x, y)) others: return (false) end
    tag_arm_and (s ∷ []) (local n ∷ [])
    (only (tagcase_statement b
    (tag_arm_and (s ∷ []) (local (n + 1) ∷ []) (only (returns (apply u op (two (numbered n) (numbered (n + 1)))))) no_tag_arms)
    (otherwise (only (returns falsehood)))))
    (tags_comparing op (n + 2) rest)

abbrev pub tags_copying : CluType → ℕ → Fields → TagArms
tags_copying T n no_fields = no_tag_arms
tags_copying T n (field_and s u rest) =
    -- tag s (x: u): return (T$make_s(u$copy(x)))
    tag_arm_and (s ∷ []) (local n ∷ [])
    (only (returns (apply T (codes "make_" ++ s) (one (apply u (codes "copy") (one (numbered n)))))))
    (tags_copying T (n + 2) rest)

abbrev pub tag_variables : ℕ → Fields → List Declaration
tag_variables n no_fields = []
tag_variables n (field_and s u rest) = record { number = n; type = u } ∷ record { number = n + 1; type = u } ∷ tag_variables (n + 2) rest

abbrev pub by_tag : TagArms → Statements
by_tag arms = only (tagcase_statement a arms nothing_else)

-- ---- definitions

-- the arguments, numbered from n
abbrev pub formals_from : ℕ → List CluType → List Formal
formals_from n [] = []
formals_from n (u ∷ us) = record { number = n; type = plain u } ∷ formals_from (suc n) us

abbrev pub locals_from : ℕ → List CluType → List Declaration
locals_from n [] = []
locals_from n (u ∷ us) = record { number = n; type = u } ∷ locals_from (suc n) us

abbrev pub scheme : List ℕ → List CluType → CluType → Fields → Statements → RoutineDefinition
scheme op arguments result fs body = record {
  name = op;
  is_iterator = false;
  parameters = 0;
  formals = formals_from 0 arguments;
  results = plain result ∷ [];
  signals = [];
  locals = locals_from 0 arguments ++ tag_variables 2 fs;
  owns = [];
  set_up = no_statements;
  body = body;
  count = scheme_count fs;
}

-- a comparison of two objects of T by this operation of their components
abbrev pub comparison : List ℕ → CluType → Fields → Statements → Option RoutineDefinition
comparison op T fs body = Some (scheme op (T ∷ T ∷ []) bool_type fs body)

abbrev pub copy : CluType → Fields → Statements → Option RoutineDefinition
copy T fs body = Some (scheme (codes "copy") (T ∷ []) T fs body)

-- similar1 is similar by equal
abbrev pub applied_by : List ℕ → List ℕ
applied_by op = if bytes_eq op (codes "similar1") then codes "equal" else op

-- the operation if it is one of these comparisons, or copy
abbrev pub scheme_among : List (List ℕ) → List ℕ → CluType → Fields → Statements → Statements → Option RoutineDefinition
scheme_among comparisons op T fs compares copies =
    if is_among comparisons op then comparison op T fs compares else
    if bytes_eq op (codes "copy") then copy T fs copies else
    None

-- of an immutable type, and of a mutable one
abbrev pub immutable_comparisons : List (List ℕ)
immutable_comparisons = codes "equal" ∷ codes "similar" ∷ []

abbrev pub mutable_comparisons : List (List ℕ)
mutable_comparisons = codes "similar" ∷ codes "similar1" ∷ []

abbrev pub scheme_of : CluType → List ℕ → Option RoutineDefinition
scheme_of (struct_of fs) op = scheme_among immutable_comparisons op (struct_of fs) fs (comparing (applied_by op) fs) (copying (struct_of fs) fs)
scheme_of (record_of fs) op = scheme_among mutable_comparisons op (record_of fs) fs (comparing (applied_by op) fs) (copying (record_of fs) fs)
scheme_of (oneof_of fs) op = scheme_among immutable_comparisons op (oneof_of fs) fs (by_tag (tags_comparing (applied_by op) 2 fs)) (by_tag (tags_copying (oneof_of fs) 2 fs))
scheme_of (variant_of fs) op = scheme_among mutable_comparisons op (variant_of fs) fs (by_tag (tags_comparing (applied_by op) 2 fs)) (by_tag (tags_copying (variant_of fs) 2 fs))
scheme_of _ op = None
