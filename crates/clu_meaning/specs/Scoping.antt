-- What each declaration of a file declares, by its node and name; and so what a name denotes at a node.
use Rattle.std.specs.Prelude.{ℕ, suc, ◌+◌, ◌&&◌, ◌==◌, List, [], ◌∷◌, ◌++◌, length, map, Option, None, Some, if◌then◌else◌, slice_get, bytes_eq, codes}
use Rattle.clu_types.specs.CluType.{Actuals, no_actuals, actual_type, actual_param, parameter}
use Rattle.clu_syntax.specs.Syntax.{Identifier, Constant, TypeExpression, Typed, Equate, an_equate, a_set_equate, Equates, no_equates, equate_and, Variable, Taken, objects, any_objects, Statement, a_declare, an_init, a_call_init, a_while, a_for, a_for_of_names, an_if, a_tagcase, a_begin, a_resignal, an_except, Statements, no_statements, statement_and, Body, a_body, Clauses, no_clauses, clause_and, Otherwise, nothing_else, otherwise, TagArms, no_tag_arms, tag_arm_and, Whens, no_whens, when_and, Others, no_others, others, Parameter, Own, own_variables, own_init, own_call_init, Routine, Module, a_routine, a_cluster}
use Rattle.clu_names.specs.declared.scopes.Declared.{Declared}
use Rattle.clu_names.specs.Denotes.{found}

-- what is declared: an equate; a parameter, by its number; a variable; a routine of a cluster; a module, also one of a
-- library, which no declaration of the file declares
pub data Meaning : Type 0 where
  is_equate : Constant → Meaning
  is_type_set : Meaning
  is_type_parameter is_constant_parameter : ℕ → Meaning
  is_local is_own_of_routine is_own_of_cluster : TypeExpression → Meaning
  is_routine_of_cluster : Meaning
  is_module : Meaning

pub record Binding : Type 0 where
  pub node : ℕ
  pub name : Identifier
  pub meaning : Meaning

abbrev pub Bindings : Type 0
Bindings = List Binding

abbrev pub binding : ℕ → Meaning → Identifier → Binding
binding n m name = record { node = n; name = name; meaning = m }

-- `rep` is the word that an equate without an identifier defines
abbrev pub equate_name : Option Identifier → Identifier
equate_name (Some name) = name
equate_name None = codes "rep"

abbrev pub equate_binding : Equate → Binding
equate_binding (an_equate n name c) = binding n (is_equate c) (equate_name name)
equate_binding (a_set_equate n name set) = binding n is_type_set (equate_name name)

abbrev pub of_equates : Equates → Bindings
of_equates no_equates = []
of_equates (equate_and e es) = equate_binding e ∷ of_equates es

-- declarations of variables, of which `variable` says which these are
abbrev pub of_declarations : (TypeExpression → Meaning) → List Typed → Bindings
of_declarations variable [] = []
of_declarations variable (d ∷ ds) = map (binding d.node (variable d.type)) d.names ++ of_declarations variable ds

abbrev pub of_variable : ℕ → (TypeExpression → Meaning) → Option Variable → Bindings
of_variable n variable None = []
of_variable n variable (Some x) = binding n (variable x.type) x.name ∷ []

abbrev pub of_taken : Taken → Bindings
of_taken (objects ds) = of_declarations is_local ds
of_taken any_objects = []

abbrev mutual
  pub of_statement : Statement → Bindings
  of_statement (a_declare n d) = of_declarations is_local (d ∷ [])
  of_statement (an_init n x e) = of_variable n is_local (Some x)
  of_statement (a_call_init n ds e) = of_declarations is_local ds
  of_statement (a_while n e body) = of_body body
  of_statement (a_for n ds e body) = of_declarations is_local ds ++ of_body body
  of_statement (a_for_of_names n names e body) = of_body body
  of_statement (an_if n clauses other) = of_clauses clauses ++ of_otherwise other
  of_statement (a_tagcase n e arms other) = of_tag_arms arms ++ of_otherwise other
  of_statement (a_begin n body) = of_body body
  of_statement (a_resignal n s names) = of_statement s
  of_statement (an_except n s whens other) = of_statement s ++ of_whens whens ++ of_others other
  of_statement _ = []

  pub of_statements : Statements → Bindings
  of_statements no_statements = []
  of_statements (statement_and s ss) = of_statement s ++ of_statements ss

  pub of_body : Body → Bindings
  of_body (a_body es ss) = of_equates es ++ of_statements ss

  pub of_clauses : Clauses → Bindings
  of_clauses no_clauses = []
  of_clauses (clause_and e body clauses) = of_body body ++ of_clauses clauses

  pub of_otherwise : Otherwise → Bindings
  of_otherwise nothing_else = []
  of_otherwise (otherwise body) = of_body body

  pub of_tag_arms : TagArms → Bindings
  of_tag_arms no_tag_arms = []
  of_tag_arms (tag_arm_and n tags x body arms) = of_variable n is_local x ++ of_body body ++ of_tag_arms arms

  pub of_whens : Whens → Bindings
  of_whens no_whens = []
  of_whens (when_and n names taken body whens) = of_taken taken ++ of_body body ++ of_whens whens

  pub of_others : Others → Bindings
  of_others no_others = []
  of_others (others n x body) = of_variable n is_local x ++ of_body body

abbrev pub of_own : (TypeExpression → Meaning) → Own → Bindings
of_own variable (own_variables n ds) = of_declarations variable ds
of_own variable (own_init n x e) = of_variable n variable (Some x)
of_own variable (own_call_init n ds e) = of_declarations variable ds

abbrev pub of_owns : (TypeExpression → Meaning) → List Own → Bindings
of_owns variable [] = []
of_owns variable (o ∷ os) = of_own variable o ++ of_owns variable os

-- the equates and variables of a routine
abbrev pub of_routine : Routine → Bindings
of_routine r =
    of_declarations is_local r.arguments ++ of_equates r.equates ++ of_owns is_own_of_routine r.owns
    ++ of_statements r.statements

abbrev pub of_routines : List Routine → Bindings
of_routines [] = []
of_routines (r ∷ rs) = binding r.node is_routine_of_cluster r.name ∷ of_routine r ++ of_routines rs

-- ---- parameters, which are numbered from 1

abbrev pub parameter_meaning : Option TypeExpression → ℕ → Meaning
parameter_meaning None k = is_type_parameter k
parameter_meaning (Some t) k = is_constant_parameter k

abbrev pub of_names : ℕ → Option TypeExpression → ℕ → List Identifier → Bindings
of_names n type k [] = []
of_names n type k (name ∷ names) = binding n (parameter_meaning type k) name ∷ of_names n type (suc k) names

-- where the first of them has the number k
abbrev pub of_parameters : ℕ → List Parameter → Bindings
of_parameters k [] = []
of_parameters k (p ∷ ps) = of_names p.node p.type k p.names ++ of_parameters (k + length p.names) ps

abbrev pub parameter_number : List Parameter → ℕ
parameter_number [] = 0
parameter_number (p ∷ ps) = length p.names + parameter_number ps

-- a module's parameters as actuals for itself
abbrev pub own_names : Option TypeExpression → ℕ → List Identifier → Actuals → Actuals
own_names type k [] rest = rest
own_names None k (name ∷ names) rest = actual_type (parameter k) (own_names None (suc k) names rest)
own_names (Some t) k (name ∷ names) rest = actual_param k (own_names (Some t) (suc k) names rest)

abbrev pub own_actuals : ℕ → List Parameter → Actuals
own_actuals k [] = no_actuals
own_actuals k (p ∷ ps) = own_names p.type k p.names (own_actuals (k + length p.names) ps)

-- ---- modules

abbrev pub of_module : Module → Bindings
of_module (a_routine n es r) = binding r.node is_module r.name ∷ of_equates es ++ of_parameters 1 r.parameters ++ of_routine r
of_module (a_cluster n es c) =
    binding c.node is_module c.name ∷ of_equates es ++ of_parameters 1 c.parameters ++ of_equates c.equates
    ++ of_owns is_own_of_cluster c.owns ++ of_routines c.routines

abbrev pub of_modules : List Module → Bindings
of_modules [] = []
of_modules (m ∷ ms) = of_module m ++ of_modules ms

-- ---- what a name denotes

-- the declarations of a file, with what each of them declares
pub record Scope : Type 0 where
  pub declarations : List Declared
  pub bindings : Bindings

abbrev pub bound_at : Bindings → ℕ → Identifier → Meaning
bound_at [] n name = is_module
bound_at (b ∷ bs) n name = if b.node == n && bytes_eq b.name name then b.meaning else bound_at bs n name

-- the number of its declaration, and what it declares
abbrev pub declared_at : Scope → Option ℕ → Option Declared → ℕ × Meaning
declared_at scope (Some k) (Some d) = (k, bound_at scope.bindings d.node d.name)
declared_at scope _ _ = (length scope.declarations, is_module)

abbrev pub declaration_at : Scope → Option ℕ → Option Declared
declaration_at scope (Some k) = slice_get scope.declarations k
declaration_at scope None = None

abbrev pub denotation : Scope → ℕ → Identifier → ℕ × Meaning
denotation scope n name =
    declared_at scope (found scope.declarations name n) (declaration_at scope (found scope.declarations name n))

abbrev pub meaning_of : Scope → ℕ → Identifier → Meaning
meaning_of scope n name = (denotation scope n name).1

abbrev pub number_of : Scope → ℕ → Identifier → ℕ
number_of scope n name = (denotation scope n name).0
