-- How often equates are unfolded for the nodes that are settled: as often as there are right sides of equates among these.
use Rattle.std.specs.Prelude.{◌≡◌, ℕ, zero, suc, ◌+◌, ◌≤◌, eqb, Bool, true, false, List, [], ◌∷◌, ◌++◌, length}
use Rattle.std.specs.List.{list_any}
use Rattle.clu_base.specs.declared.constants.Const.{Const}
use Rattle.clu_tree.specs.declared.node.Node.{Node}
use Rattle.clu_types.specs.declared.term.Term.{Term}
use Rattle.clu_types.specs.Arena.{types_of}
use Rattle.clu_names.specs.declared.scopes.Declared.{Declared}
use Rattle.clu_syntax.specs.Syntax.{Expression, an_infix, a_prefix, a_paren, a_literal, a_name, an_index, a_get, a_call, fields, elements, elements_from, an_operation, a_force, an_up, a_down, Constant, an_expression, a_type, TypeExpression, a_simple_type, a_list_type, a_fields_type, a_routine_type, a_named_type}
use Rattle.clu_meaning.specs.Scoping as means
use Rattle.clu_meaning.specs.Scoping.{Bindings, Scope, bound_at}
use Rattle.clu_meaning.specs.Settling.{unfolded_to}
use Rattle.clu_settle.specs.declared.value.Value.{Value}
use Rattle.clu_settle.specs.declared.meanings.Meaning.{Meaning}
use Rattle.clu_settle.specs.Values.{AreWithin}
use Rattle.clu_settle.specs.Names.{AreMeanings}
use Rattle.clu_settle.specs.Known.{AreKnown}

-- ---- the nodes of right sides

abbrev pub expression_node : Expression → ℕ
expression_node (an_infix n op a b) = n
expression_node (a_prefix n s e) = n
expression_node (a_paren n e) = n
expression_node (a_literal n literal) = n
expression_node (a_name n name) = n
expression_node (an_index n e cs) = n
expression_node (a_get n e selector) = n
expression_node (a_call n e es) = n
expression_node (fields n t cs) = n
expression_node (elements n t es) = n
expression_node (elements_from n t low es) = n
expression_node (an_operation n t op) = n
expression_node (a_force n t) = n
expression_node (an_up n e) = n
expression_node (a_down n e) = n

abbrev pub type_node : TypeExpression → ℕ
type_node (a_simple_type n word) = n
type_node (a_list_type n word t) = n
type_node (a_fields_type n word ss) = n
type_node (a_routine_type n word args results signals) = n
type_node (a_named_type n name cs) = n

abbrev pub constant_node : Constant → ℕ
constant_node (an_expression e) = expression_node e
constant_node (a_type t) = type_node t

abbrev pub right_in : means.Meaning → List ℕ
right_in (means.is_equate c) = constant_node c ∷ []
right_in _ = []

abbrev pub rights_in : Bindings → List Declared → List ℕ
rights_in bindings [] = []
rights_in bindings (d ∷ ds) = right_in (bound_at bindings d.node d.name) ++ rights_in bindings ds

abbrev pub is_right : Scope → ℕ → Bool
is_right scope n = list_any (eqb n) (rights_in scope.bindings scope.declarations)

-- ---- how many of the first numbers of a list pass a test

abbrev pub one_if : Bool → ℕ
one_if true = 1
one_if false = 0

abbrev pub counted : (ℕ → Bool) → List ℕ → ℕ → ℕ
counted test xs zero = 0
counted test [] (suc p) = 0
counted test (x ∷ xs) (suc p) = one_if (test x) + counted test xs p

-- The first p nodes in order have their values. Whatever is known is so after as many steps of unfolding as there are right
-- sides among them.
pub record ArePassed (nodes : List Node) (meanings : List Meaning) (order : List ℕ) (p : ℕ) (types : List Term) (constants : List Const) (values : List Value) : Type 0 where
  pub size : length values ≡ length nodes
  pub within : AreWithin (length types) (length constants) values
  pub known : (scope : Scope) → AreMeanings nodes scope meanings → (steps : ℕ) → counted (is_right scope) order p ≤ steps → AreKnown nodes scope meanings (types_of types) constants values (unfolded_to scope steps)
