-- The operation that is named or invoked at a node, as it is compiled: by its type or module, with the actuals put in.
use Rattle.std.specs.Prelude.{ℕ, ◌++◌, ◌&&◌, Bool, true, false, codes, Option, Some, None}
use Rattle.std.specs.Option.{option_map}
use Rattle.clu_types.specs.CluType.{CluType, cluster_of, parameter, Actuals, no_actuals}
use Rattle.clu_tree.specs.declared.node.NodeKind.{NodeKind}
use Rattle.clu_tree.specs.declared.node.NodeKind.TheVariants as kind
use Rattle.clu_syntax.specs.Kinds.{is_expression}
use Rattle.clu_syntax.specs.Syntax.{Identifier, Expression, an_infix, a_prefix, a_name, an_index, a_get, a_call, an_operation, Constants, Statement, a_set_field, a_set_index}
use Rattle.clu_meaning.specs.Constants.{Sugar, is_cand, is_cor, is_operation, is_negated, sugar, prefix_name}
use Rattle.clu_meaning.specs.Scoping.{Meaning, is_routine_of_cluster, is_module}
use Rattle.clu_meaning.specs.Settling.{type_settled, actuals_settled}
use Rattle.clu_checking.specs.Files.{File, item, kind_in, meaning}
use Rattle.clu_checking.specs.Headings.{own_type}
use Rattle.clu_checking.specs.Typing.{type_of, name_type, takes_actuals}
use Rattle.clu_checking.specs.Wanted.{wanted}
use Rattle.clu_checking.specs.Invocations.{is_object_wanted}

-- an operation of a built-in type; one of a cluster with its actuals; the routine of a module, with actuals; one that a
-- where clause gives of a type parameter; a routine object
pub data Invoked : Type 0 where
  of_builtin : CluType → Identifier → Invoked
  of_cluster : CluType → Identifier → Invoked
  of_module : Identifier → Actuals → Invoked
  of_parameter : ℕ → Identifier → Invoked
  stored : Invoked

abbrev pub operation_of : CluType → Identifier → Invoked
operation_of (cluster_of c given) name = of_cluster (cluster_of c given) name
operation_of (parameter k) name = of_parameter k name
operation_of t name = of_builtin t name

abbrev pub or_stored : Option Invoked → Invoked
or_stored (Some i) = i
or_stored None = stored

-- the operation of the left operand's type
abbrev pub by_sugar : Identifier → Option CluType → Option Invoked
by_sugar name t = option_map (λ t. operation_of t name) t

-- of a comparison with `~` it is the comparison's
abbrev pub by_infix : Sugar → Option CluType → Option Invoked
by_infix is_cand t = None
by_infix is_cor t = None
by_infix (is_operation name) t = by_sugar name t
by_infix (is_negated name) t = by_sugar name t

module _ (f : File) where
  abbrev pub named_as : ℕ → Identifier → Meaning → Option Invoked
  named_as n name is_routine_of_cluster = by_sugar name (own_type f n)
  named_as n name is_module = Some (of_module name no_actuals)
  named_as n name _ = None

  abbrev pub instance_of : Identifier → Constants → Meaning → Option Invoked
  instance_of name cs is_module = Some (of_module name (actuals_settled f.scope cs))
  instance_of name cs _ = None

  -- the routine that an expression names
  abbrev pub named_by : Expression → Option Invoked
  named_by (a_name n name) = named_as n name (meaning f n name)
  named_by (an_index n (a_name m name) cs) = instance_of name cs (meaning f m name)
  named_by (an_operation n t name) = Some (operation_of (type_settled f.scope t) name)
  named_by _ = None

  abbrev pub by_index : Bool → ℕ → Identifier → Constants → Option Invoked
  by_index true m name cs = instance_of name cs (meaning f m name)
  by_index false m name cs = by_sugar (codes "fetch") (name_type f m name)

  abbrev pub invoked_by : Expression → Option Invoked
  invoked_by (an_infix n op a b) = by_infix (sugar op) (type_of f a)
  invoked_by (a_prefix n s e) = by_sugar (prefix_name s) (type_of f e)
  invoked_by (an_index n (a_name m name) cs) = by_index (takes_actuals f m name) m name cs
  invoked_by (an_index n e cs) = by_sugar (codes "fetch") (type_of f e)
  invoked_by (a_get n e name) = by_sugar (codes "get_" ++ name) (type_of f e)
  invoked_by (a_call n e es) = Some (or_stored (named_by e))
  invoked_by e = named_by e

  abbrev pub invoked_by_statement : Statement → Option Invoked
  invoked_by_statement (a_set_field n r name e) = by_sugar (codes "set_" ++ name) (type_of f r)
  invoked_by_statement (a_set_index n a i e) = by_sugar (codes "store") (type_of f a)
  invoked_by_statement _ = None

  -- constants and actuals invoke nothing
  abbrev pub if_object : Bool → ℕ → Option Invoked
  if_object true n = invoked_by (item f n).expression
  if_object false n = None

  abbrev pub invoked_in : NodeKind → ℕ → Option Invoked
  invoked_in kind.SetField n = invoked_by_statement (item f n).statement
  invoked_in kind.SetIndex n = invoked_by_statement (item f n).statement
  invoked_in k n = if_object (is_expression k && is_object_wanted (wanted f n)) n

  -- what is named or invoked at a node, if anything is
  abbrev pub invoked_at : ℕ → Option Invoked
  invoked_at n = invoked_in (kind_in f n) n
