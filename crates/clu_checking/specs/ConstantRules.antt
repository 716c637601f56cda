-- The rules on constants and types: V8 NotConstant, V9 NotType, V10 Real, V19 ParameterKind, V31 CvtPlace. `bad` says of an
-- Equate whether a rule is violated in it, or in one that it leads to.
use Rattle.std.specs.Prelude.{ℕ, ◌+◌, ◌==◌, ◌&&◌, ◌||◌, nat_lt, not, Bool, true, false, List, length, is_none, is_some, codes, bytes_eq, if◌then◌else◌, Option, Some, None}
use Rattle.std.specs.List.{list_any}
use Rattle.clu_specs.specs.Texts.{type_text}
use Rattle.clu_specs.specs.Constants.{constant_text}
use Rattle.clu_tree.specs.declared.node.NodeKind.{NodeKind}
use Rattle.clu_tree.specs.declared.node.NodeKind.TheVariants as kind
use Rattle.clu_syntax.specs.declared.words.SimpleType.{SimpleType}
use Rattle.clu_syntax.specs.declared.words.SimpleType.TheVariants as simple
use Rattle.clu_syntax.specs.contracts.words.SimpleType.{the_type}
use denote.Enum.Bare.{sameb}
use Rattle.clu_syntax.specs.Kinds.{is_expression}
use Rattle.clu_syntax.specs.Roles.{has_no_name}
use Rattle.clu_syntax.specs.Syntax.{Identifier, real, Expression, a_name, a_literal, an_index, Constant, an_expression, a_type, Constants, no_constants, constant_and, TypeExpression, a_simple_type, Restriction, is_in, TypeSet, a_type_set, Equate, an_equate, a_set_equate, Equates, no_equates, equate_and}
use Rattle.clu_meaning.specs.Scoping.{Meaning, is_equate, is_type_set, is_type_parameter, is_constant_parameter, is_local, is_own_of_routine, is_own_of_cluster, is_routine_of_cluster, is_module}
use Rattle.clu_meaning.specs.Settling.{Value, settled_type, settled_constant, settled_parameter}
use Rattle.clu_checking.specs.Settled.{value_settled}
use Rattle.clu_checking.specs.Specifications.{Form, of_routine, of_cluster, Specification}
use Rattle.clu_checking.specs.Files.{File, item, kind_in, is_kind, is_kind_at, stands_in, parent, parent_of, names, round, meaning, is_of_module, equate_named}
use Rattle.clu_checking.specs.Equates.{set_named, is_bad_name}
use Rattle.clu_checking.specs.Headings.{specification, kind_of_parameter, parameter_type}
use Rattle.clu_checking.specs.Typing.{is_type_value, takes_actuals}
use Rattle.clu_checking.specs.Invocations.{is_object_wanted}
use Rattle.clu_checking.specs.Wanted.{Wanted, a_constant, wanted, wants_type, Named, named_at, has_fitting_kinds, first_name_at}

abbrev pub is_routine_form : Form → Bool
is_routine_form (of_routine h) = true
is_routine_form (of_cluster ds hs) = false

abbrev pub is_routine : Option Specification → Bool
is_routine (Some s) = is_routine_form s.form
is_routine None = false

abbrev pub is_constant_value : Value → Bool
is_constant_value (settled_constant c) = true
is_constant_value (settled_parameter k) = true
is_constant_value _ = false

abbrev pub is_constant_wanted : Wanted → Bool
is_constant_wanted a_constant = true
is_constant_wanted _ = false

abbrev pub is_real_literal : Expression → Bool
is_real_literal (a_literal n (real text)) = true
is_real_literal _ = false

abbrev pub same_word : SimpleType → SimpleType → Bool
same_word a b = sameb the_type a b

abbrev pub is_word : SimpleType → TypeExpression → Bool
is_word word (a_simple_type n other) = same_word word other
is_word word _ = false

-- an equated value has a text of at most 65,536 bytes
abbrev pub is_long_text : List ℕ → Bool
is_long_text text = nat_lt 65536 (length text)

abbrev pub is_long_type : Value → Bool
is_long_type (settled_type t) = is_long_text (type_text t)
is_long_type _ = false

abbrev pub is_long_constant : Value → Bool
is_long_constant (settled_constant c) = is_long_text (constant_text c)
is_long_constant _ = false

abbrev pub is_cvt : Constant → Bool
is_cvt (a_type t) = is_word simple.Cvt t
is_cvt (an_expression e) = false

abbrev pub is_rep : Equate → Bool
is_rep (an_equate n None c) = true
is_rep (a_set_equate n None set) = true
is_rep _ = false

abbrev pub rep_number : Equates → ℕ
rep_number no_equates = 0
rep_number (equate_and e es) = if is_rep e then 1 + rep_number es else rep_number es

abbrev pub has_constants : Constants → Bool
has_constants no_constants = false
has_constants (constant_and c cs) = true

module _ (f : File) where
  -- ---- what is no constant and no type, as a whole

  abbrev pub is_module_routine : ℕ → Identifier → Bool
  is_module_routine n name = is_of_module f n name && is_routine (specification f name)

  -- variables and routines are no constants; whether an equate is bad is another question
  abbrev pub names_object : ℕ → Identifier → Meaning → Bool
  names_object n name (is_local t) = true
  names_object n name (is_own_of_routine t) = true
  names_object n name (is_own_of_cluster t) = true
  names_object n name is_routine_of_cluster = true
  names_object n name is_module = is_module_routine n name
  names_object n name _ = false

  abbrev pub is_no_constant_name : ℕ → Identifier → Bool
  is_no_constant_name n name = names_object n name (meaning f n name)

  -- brackets after what is no module make no constant, unless it is a type, of which V19 is asked
  abbrev pub is_no_constant_index : Expression → Bool
  is_no_constant_index (an_index n (a_name m name) cs) = if takes_actuals f m name then is_no_constant_name m name else true
  is_no_constant_index _ = true

  abbrev pub is_no_value : ℕ → Bool
  is_no_value n = not (is_constant_value (value_settled f.scope (item f n).constant))

  abbrev pub is_no_constant : NodeKind → ℕ → Bool
  is_no_constant kind.Literal n = false
  is_no_constant kind.Name n = is_no_constant_name n (first_name_at f n)
  is_no_constant kind.Index n = is_no_constant_index (item f n).expression
  is_no_constant kind.Infix n = is_no_value n
  is_no_constant kind.Prefix n = is_no_value n
  is_no_constant kind.Paren n = is_no_value n
  is_no_constant k n = is_expression k

  -- a whole constant that is neither a constant nor a type
  abbrev pub is_neither : ℕ → Bool
  is_neither n = is_constant_wanted (wanted f n) && is_no_constant (kind_in f n) n

  -- the right side of `rep` that is no type
  abbrev pub is_rep_equate : Option ℕ → Bool
  is_rep_equate (Some e) = is_kind f kind.Equate e && has_no_name (names f e)
  is_rep_equate None = false

  abbrev pub is_no_type_side : NodeKind → ℕ → Bool
  is_no_type_side kind.TypeSet n = true
  is_no_type_side k n = not (is_type_value (value_settled f.scope (item f n).constant)) && not (is_real_literal (item f n).expression)

  abbrev pub is_bad_rep : ℕ → Bool
  is_bad_rep n = is_rep_equate (parent f n) && is_no_type_side (kind_in f n) n

  -- ---- a text that is too long, on the right side of an equate; none is asked of `cvt`, which may not stand there

  abbrev pub is_right_side : ℕ → Bool
  is_right_side n = stands_in f kind.Equate n && not (is_kind f kind.TypeSet n)

  abbrev pub is_too_long : (Value → Bool) → ℕ → Bool
  is_too_long test n = is_right_side n && (not (is_cvt (item f n).constant) && test (value_settled f.scope (item f n).constant))

  -- ---- names of types

  abbrev pub names_no_type : ℕ → Identifier → Meaning → Bool
  names_no_type n name (is_equate c) = not (is_type_value (value_settled f.scope c))
  names_no_type n name is_type_set = true
  names_no_type n name (is_type_parameter k) = false
  names_no_type n name is_module = is_module_routine n name
  names_no_type n name _ = true

  abbrev pub is_no_type_name : ℕ → Identifier → Bool
  is_no_type_name n name = names_no_type n name (meaning f n name)

  abbrev pub is_cluster_round : ℕ → Bool
  is_cluster_round n = is_some (round f n).cluster

  -- `rep` in a cluster that has none, or in one whose `rep` is no type
  abbrev pub is_no_type_rep : ℕ → Bool
  is_no_type_rep n = is_word simple.Rep (item f n).type && is_cluster_round n && (is_none (equate_named f n (codes "rep")) || is_no_type_name n (codes "rep"))

  abbrev pub denotes_parameter : Meaning → Bool
  denotes_parameter (is_type_parameter k) = true
  denotes_parameter _ = false

  abbrev pub has_no_set : Restriction → Bool
  has_no_set (is_in n name set) = is_none (set_named f n set)
  has_no_set _ = false

  abbrev pub is_no_restriction : ℕ → Bool
  is_no_restriction n = not (denotes_parameter (meaning f n (first_name_at f n))) || has_no_set (item f n).restriction

  abbrev pub is_other_variable : TypeSet → Bool
  is_other_variable (a_type_set n variable asked operations es) = not (bytes_eq asked variable)

  abbrev pub is_no_type : NodeKind → ℕ → Bool
  is_no_type kind.NameT n = is_no_type_name n (first_name_at f n)
  is_no_type kind.Simple n = is_no_type_rep n
  is_no_type kind.Restrict n = is_no_restriction n
  is_no_type kind.TypeSet n = is_other_variable (item f n).type_set
  is_no_type _ n = false

  -- ---- V10: `real`, or a real literal

  abbrev pub is_real : NodeKind → ℕ → Bool
  is_real kind.Simple n = is_word simple.Real (item f n).type
  is_real kind.Literal n = is_real_literal (item f n).expression
  is_real _ n = false

  abbrev pub v10 : ℕ → Bool
  v10 n = is_real (kind_in f n) n

  -- ---- V19: another number or kind of actuals, or actuals of what is no module; a constant parameter of another type
  -- than null, bool, int, char and string, where it is declared and where it is used

  abbrev pub has_bad_actuals : Named → Bool
  has_bad_actuals x = if is_of_module f x.node x.name then not (has_fitting_kinds f x) else has_constants x.constants

  abbrev pub is_illegal_use : ℕ → Meaning → Bool
  is_illegal_use n (is_constant_parameter k) = is_none (parameter_type f n k)
  is_illegal_use n _ = false

  abbrev pub is_illegal_parameter : NodeKind → ℕ → Bool
  is_illegal_parameter kind.Parm n = is_none (kind_of_parameter f (item f n).parameter.type)
  is_illegal_parameter kind.Name n = is_object_wanted (wanted f n) && is_illegal_use n (meaning f n (first_name_at f n))
  is_illegal_parameter _ n = false

  abbrev pub v19 : ℕ → Bool
  v19 n = list_any has_bad_actuals (named_at f n) || is_illegal_parameter (kind_in f n) n

  -- ---- V31: `cvt` elsewhere than as a whole type in the heading of a cluster's routine, `rep` outside a cluster, or a
  -- cluster without exactly one `rep`

  abbrev pub is_of_heading : Option ℕ → Bool
  is_of_heading (Some p) =
      (is_kind f kind.Decl p && stands_in f kind.Routine p) ||
      (is_kind f kind.Results p && stands_in f kind.Routine p) ||
      (is_kind f kind.Exc p && is_kind_at f kind.Routine (parent_of f (parent f p)))
  is_of_heading None = false

  abbrev pub is_misplaced_word : ℕ → Bool
  is_misplaced_word n =
      (is_word simple.Cvt (item f n).type && not (is_cluster_round n && is_of_heading (parent f n))) ||
      (is_word simple.Rep (item f n).type && not (is_cluster_round n))

  abbrev pub v31_at : NodeKind → ℕ → Bool
  v31_at kind.Simple n = is_misplaced_word n
  v31_at kind.Cluster n = not (rep_number (item f n).cluster.equates == 1)
  v31_at _ n = false

  abbrev pub v31 : ℕ → Bool
  v31 n = v31_at (kind_in f n) n

module _ (f : File) (bad : ℕ → Bool) where
  -- ---- names of equates that are bad

  -- a Name stands alone where a type is wanted
  abbrev pub is_type_wanted : Wanted → ℕ → Bool
  is_type_wanted a_constant n = wants_type f n
  is_type_wanted _ n = false

  abbrev pub has_bad_constant : NodeKind → ℕ → Bool
  has_bad_constant kind.Name n = is_bad_name f bad n (first_name_at f n) && not (is_type_wanted (wanted f n) n)
  has_bad_constant _ n = false

  abbrev pub has_bad_type : NodeKind → ℕ → Bool
  has_bad_type kind.Name n = is_bad_name f bad n (first_name_at f n) && is_type_wanted (wanted f n) n
  has_bad_type kind.NameT n = is_bad_name f bad n (first_name_at f n)
  has_bad_type kind.Simple n = is_word simple.Rep (item f n).type && is_bad_name f bad n (codes "rep")
  has_bad_type kind.Restrict n = list_any (is_bad_name f bad n) (names f n)
  has_bad_type _ n = false

  -- V8: a constant is wanted and this is none, or it is the name of a bad equate
  abbrev pub v8 : ℕ → Bool
  v8 n = (is_neither f n && not (wants_type f n)) || has_bad_constant (kind_in f n) n || is_too_long f is_long_constant n

  -- V9: a type or a type set is wanted and this is none, or it is the name of a bad equate
  abbrev pub v9 : ℕ → Bool
  v9 n = (is_neither f n && wants_type f n) || is_bad_rep f n || is_no_type f (kind_in f n) n || has_bad_type (kind_in f n) n || is_too_long f is_long_type n
