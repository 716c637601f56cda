-- What a statement may raise: pairs of a name and the types of objects, as callers see them.
use Rattle.std.specs.Prelude.{ℕ, ◌++◌, not, Bool, true, false, List, [], ◌∷◌, filter, bytes_eq, codes, Option, Some, None}
use Rattle.std.specs.List.{list_any}
use Rattle.clu_types.specs.CluType.{CluType, string_type, CluTypes, no_types, type_and, Signals, no_signals, signal_and}
use Rattle.clu_syntax.specs.Syntax.{Identifier, Expression, an_infix, a_prefix, a_paren, a_literal, a_name, an_index, a_get, a_call, fields, elements, elements_from, an_operation, a_force, an_up, a_down, Expressions, no_expressions, expression_and, Components, no_components, component_and, Constant, an_expression, a_type, Constants, no_constants, constant_and, Statement, a_declare, an_init, a_call_init, an_assign, a_set_field, a_set_index, a_call_statement, a_while, a_for, a_for_of_names, an_if, a_tagcase, a_return, a_yield, a_signal, an_exit, a_break, a_continue, a_begin, a_resignal, an_except, Statements, no_statements, statement_and, Body, a_body, Clauses, no_clauses, clause_and, Otherwise, nothing_else, otherwise, TagArms, no_tag_arms, tag_arm_and, Whens, no_whens, when_and, Others, no_others, others, Routine}
use Rattle.clu_meaning.specs.Constants.{Sugar, is_cand, is_cor, is_operation, is_negated, sugar, prefix_name}
use Rattle.clu_meaning.specs.Scoping.{Meaning, is_local, is_own_of_routine, is_own_of_cluster}
use Rattle.clu_checking.specs.Files.{File, meaning}
use Rattle.clu_checking.specs.Typing.{type_of, found_type, sugar_found, sugar_type, takes_actuals, name_type, signals_of}

abbrev pub Raise : Type 0
Raise = Identifier × CluTypes

abbrev pub failure : Raise
failure = (codes "failure", type_and string_type no_types)

abbrev pub listed : Signals → List Raise
listed no_signals = []
listed (signal_and name ts rest) = (name, ts) ∷ listed rest

-- an invocation of what has this type
abbrev pub invoked : Option CluType → List Raise
invoked (Some t) = failure ∷ listed (signals_of t)
invoked None = []

abbrev pub is_named : List Identifier → Raise → Bool
is_named names raise = list_any (bytes_eq raise.0) names

-- without those of these names
abbrev pub without : List Identifier → List Raise → List Raise
without names raises = filter (λ raise. not (is_named names raise)) raises

abbrev pub names_taken : Whens → List Identifier
names_taken no_whens = []
names_taken (when_and n names taken body ws) = names ++ names_taken ws

-- what the arms of an except don't take
abbrev pub passed_on : Whens → Others → List Raise → List Raise
passed_on ws no_others raises = without (names_taken ws) raises
passed_on ws (others n x body) raises = []

abbrev pub use_of : Meaning → List Raise
use_of (is_local t) = failure ∷ []
use_of (is_own_of_routine t) = failure ∷ []
use_of (is_own_of_cluster t) = failure ∷ []
use_of _ = []

module _ (f : File) where
  abbrev pub by_sugar : ℕ → Identifier → Option CluType → List Raise
  by_sugar n name t = invoked (found_type (sugar_found f n name t))

  abbrev pub by_infix : ℕ → Sugar → Option CluType → List Raise
  by_infix n is_cand t = []
  by_infix n is_cor t = []
  by_infix n (is_operation name) t = by_sugar n name t
  by_infix n (is_negated name) t = by_sugar n name t ++ by_sugar n (codes "not") (sugar_type f n name t)

  abbrev pub by_name : ℕ → Identifier → List Raise
  by_name n name = use_of (meaning f n name)

  -- actuals are not evaluated
  abbrev pub by_index : Bool → ℕ → ℕ → Identifier → List Raise → List Raise
  by_index true n m name inside = []
  by_index false n m name inside = by_name m name ++ inside ++ by_sugar n (codes "fetch") (name_type f m name)

  abbrev mutual
    pub by_expression : Expression → List Raise
    by_expression (an_infix n op a b) = by_expression a ++ by_expression b ++ by_infix n (sugar op) (type_of f a)
    by_expression (a_prefix n s e) = by_expression e ++ by_sugar n (prefix_name s) (type_of f e)
    by_expression (a_paren n e) = by_expression e
    by_expression (a_literal n literal) = []
    by_expression (a_name n name) = by_name n name
    by_expression (an_index n (a_name m name) cs) = by_index (takes_actuals f m name) n m name (by_constants cs)
    by_expression (an_index n e cs) = by_expression e ++ by_constants cs ++ by_sugar n (codes "fetch") (type_of f e)
    by_expression (a_get n e name) = by_expression e ++ by_sugar n (codes "get_" ++ name) (type_of f e)
    by_expression (a_call n e es) = by_expression e ++ by_expressions es ++ invoked (type_of f e)
    by_expression (fields n t cs) = by_components cs
    by_expression (elements n t es) = by_expressions es ++ failure ∷ []
    by_expression (elements_from n t e es) = by_expression e ++ by_expressions es ++ failure ∷ []
    by_expression (an_operation n t name) = []
    by_expression (a_force n t) = []
    by_expression (an_up n e) = by_expression e
    by_expression (a_down n e) = by_expression e

    pub by_expressions : Expressions → List Raise
    by_expressions no_expressions = []
    by_expressions (expression_and e es) = by_expression e ++ by_expressions es

    pub by_components : Components → List Raise
    by_components no_components = []
    by_components (component_and n names e cs) = by_expression e ++ by_components cs

    -- an index
    pub by_constant : Constant → List Raise
    by_constant (an_expression e) = by_expression e
    by_constant (a_type t) = []

    pub by_constants : Constants → List Raise
    by_constants no_constants = []
    by_constants (constant_and c cs) = by_constant c ++ by_constants cs

  abbrev mutual
    pub by_statement : Statement → List Raise
    by_statement (a_declare n d) = []
    by_statement (an_init n x e) = by_expression e
    by_statement (a_call_init n ds e) = by_expression e
    by_statement (an_assign n names es) = by_expressions es
    by_statement (a_set_field n r name e) = by_expression r ++ by_expression e ++ by_sugar n (codes "set_" ++ name) (type_of f r)
    by_statement (a_set_index n a i e) = by_expression a ++ by_expression i ++ by_expression e ++ by_sugar n (codes "store") (type_of f a)
    by_statement (a_call_statement n e) = by_expression e
    by_statement (a_while n e body) = by_expression e ++ by_body body
    by_statement (a_for n ds e body) = by_expression e ++ by_body body
    by_statement (a_for_of_names n names e body) = by_expression e ++ by_body body
    by_statement (an_if n clauses other) = by_clauses clauses ++ by_otherwise other
    by_statement (a_tagcase n e arms other) = by_expression e ++ by_tag_arms arms ++ by_otherwise other
    by_statement (a_return n es) = by_expressions es
    by_statement (a_yield n es) = by_expressions es
    by_statement (a_signal n name es) = by_expressions es
    by_statement (an_exit n name es) = by_expressions es
    by_statement (a_break n) = []
    by_statement (a_continue n) = []
    by_statement (a_begin n body) = by_body body
    by_statement (a_resignal n s names) = without names (by_statement s)
    by_statement (an_except n s ws other) = passed_on ws other (by_statement s) ++ by_whens ws ++ by_others other

    pub by_statements : Statements → List Raise
    by_statements no_statements = []
    by_statements (statement_and s ss) = by_statement s ++ by_statements ss

    pub by_body : Body → List Raise
    by_body (a_body es ss) = by_statements ss

    pub by_clauses : Clauses → List Raise
    by_clauses no_clauses = []
    by_clauses (clause_and e body cs) = by_expression e ++ by_body body ++ by_clauses cs

    pub by_otherwise : Otherwise → List Raise
    by_otherwise nothing_else = []
    by_otherwise (otherwise body) = by_body body

    pub by_tag_arms : TagArms → List Raise
    by_tag_arms no_tag_arms = []
    by_tag_arms (tag_arm_and n tags x body arms) = by_body body ++ by_tag_arms arms

    pub by_whens : Whens → List Raise
    by_whens no_whens = []
    by_whens (when_and n names taken body ws) = by_body body ++ by_whens ws

    pub by_others : Others → List Raise
    by_others no_others = []
    by_others (others n x body) = by_body body

  -- the body of a routine
  abbrev pub by_routine : Routine → List Raise
  by_routine r = by_statements r.statements
