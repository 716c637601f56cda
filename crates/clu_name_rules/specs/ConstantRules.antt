-- The rules on constants and types over the tables that they read: V8 NotConstant, V9 NotType, V10 Real,
-- V19 ParameterKind, V31 CvtPlace. `items` says what the nodes before a node are, and `bad` of each Equate whether it is bad.
use Rattle.std.specs.Prelude.{ℕ, ◌&&◌, ◌||◌, not, bytes_eq, is_none, is_some, Bool, true, false, List, [], ◌∷◌, slice_get, if◌then◌else◌, Option, Some, None}
use Rattle.std.specs.List.{list_any}
use Rattle.clu_tree.specs.declared.node.NodeKind.{NodeKind}
use Rattle.clu_tree.specs.declared.node.NodeKind.TheVariants as kind
use Rattle.clu_syntax.specs.declared.words.SimpleType.{SimpleType}
use Rattle.clu_syntax.specs.declared.words.SimpleType.TheVariants as simple
use Rattle.clu_syntax.specs.contracts.words.SimpleType.{the_type}
use denote.Enum.Bare.{sameb}
use Rattle.clu_syntax.specs.Items.{Item}
use Rattle.clu_syntax.specs.Kinds.{is_expression}
use Rattle.clu_syntax.specs.Nodes.{item_with}
use Rattle.clu_syntax.specs.Roles.{has_no_name}
use Rattle.clu_syntax.specs.Splits.{type_of}
use Rattle.clu_syntax.specs.Syntax.{Expression, a_literal, real, TypeExpression, a_simple_type, Restriction, is_in}
use Rattle.clu_settle.specs.declared.value.Value.{Value}
use Rattle.clu_settle.specs.declared.value.Value.TheVariants as value
use Rattle.clu_settle.specs.Lists.{type_id}
use Rattle.clu_settle.specs.Names.{names_of}
use Rattle.clu_head.specs.ParameterKinds.{kind_of_type}
use Rattle.clu_head.specs.Refused.{is_set}
use Rattle.clu_head.specs.There.{is_there}
use Rattle.clu_bindings.specs.declared.file.File.{File}
use Rattle.clu_bindings.specs.declared.meaning.Meaning.{Meaning}
use Rattle.clu_bindings.specs.declared.meaning.Meaning.TheVariants as meaning
use Rattle.clu_bindings.specs.declared.wanted.Wanted.{Wanted}
use Rattle.clu_bindings.specs.declared.wanted.Wanted.TheVariants as wanted
use Rattle.clu_bindings.specs.Files.{stands_in, bound_in, declaration_in}
use Rattle.clu_bindings.specs.Readers.{kind_in, round_in, children_in, value_in, wanted_in, takes_actuals, meaning_in, is_routine, set_at}
use Rattle.clu_bindings.specs.Wanted.{is_object_wanted}
use Rattle.clu_bindings.specs.Named.{named_in, wants_type, parameter_type, has_fitting_kinds}
use Rattle.clu_name_rules.specs.declared.tables.Tables.{Tables}
use Rattle.clu_name_rules.specs.NameRules.{is_bad_name}

-- ---- values; what is lost may be a type, and a constant

abbrev pub is_type_value : Value → Bool
is_type_value (value.Type id) = true
is_type_value value.Lost = true
is_type_value _ = false

abbrev pub is_constant_value : Value → Bool
is_constant_value (value.Constant k) = true
is_constant_value (value.Parameter k) = true
is_constant_value value.Lost = true
is_constant_value _ = false

-- by the types and constants whose texts are too long
abbrev pub is_long_type : List Bool → Value → Bool
is_long_type long (value.Type id) = is_set (slice_get long id.0)
is_long_type long _ = false

abbrev pub is_long_constant : List Bool → Value → Bool
is_long_constant long (value.Constant k) = is_set (slice_get long k)
is_long_constant long _ = false

-- ---- words

abbrev pub is_real_literal : Expression → Bool
is_real_literal (a_literal n (real text)) = true
is_real_literal _ = false

abbrev pub is_word : SimpleType → TypeExpression → Bool
is_word word (a_simple_type n other) = sameb the_type word other
is_word word _ = false

-- a where clause asks it of a type set by its name
abbrev pub names_set : Restriction → Bool
names_set (is_in n name set) = true
names_set _ = false

-- ---- meanings

abbrev pub is_constant_wanted : Wanted → Bool
is_constant_wanted wanted.Constant = true
is_constant_wanted _ = false

abbrev pub is_type_parameter : Meaning → Bool
is_type_parameter (meaning.TypeParameter k) = true
is_type_parameter _ = false

abbrev pub is_second_other : List (List ℕ) → Bool
is_second_other (variable ∷ asked ∷ names) = not (bytes_eq asked variable)
is_second_other _ = false

abbrev pub second_bound : List (Option ℕ) → Option ℕ
second_bound (first ∷ second ∷ bounds) = second
second_bound _ = None

module _ (f : File) where
  abbrev pub is_kind : NodeKind → ℕ → Bool
  is_kind k n = is_there k (slice_get f.syntax.now n)

  abbrev pub is_of_cluster : ℕ → Bool
  is_of_cluster n = is_some (round_in f n).cluster

  -- ---- what is no constant and no type, as a whole

  -- variables and routines are no constants; whether an equate is bad is another question
  abbrev pub names_object : Meaning → Bool
  names_object (meaning.Local t) = true
  names_object (meaning.OwnOfRoutine t) = true
  names_object (meaning.OwnOfCluster t) = true
  names_object meaning.RoutineOfCluster = true
  names_object (meaning.Module its) = is_routine f its
  names_object _ = false

  -- brackets after what is no module make no constant, unless it is a type, of which V19 is asked
  abbrev pub is_no_constant_index : List ℕ → Bool
  is_no_constant_index [] = true
  is_no_constant_index (c ∷ cs) = if takes_actuals f c then names_object (meaning_in f c) else true

  abbrev pub is_no_constant : NodeKind → ℕ → Bool
  is_no_constant kind.Literal n = false
  is_no_constant kind.Name n = names_object (meaning_in f n)
  is_no_constant kind.Index n = is_no_constant_index (children_in f n)
  is_no_constant kind.Infix n = not (is_constant_value (value_in f n))
  is_no_constant kind.Prefix n = not (is_constant_value (value_in f n))
  is_no_constant kind.Paren n = not (is_constant_value (value_in f n))
  is_no_constant k n = is_expression k

  -- a whole constant that is neither a constant nor a type
  abbrev pub is_neither : ℕ → Bool
  is_neither n = is_constant_wanted (wanted_in f n) && is_no_constant (kind_in f n) n

  -- ---- right sides of equates

  abbrev pub is_rep : ℕ → Bool
  is_rep e = is_kind kind.Equate e && has_no_name (names_of (slice_get f.syntax.now e))

  abbrev pub is_rep_at : Option ℕ → Bool
  is_rep_at (Some e) = is_rep e
  is_rep_at None = false

  abbrev pub is_right_side : ℕ → Bool
  is_right_side n = stands_in f.syntax.now f.rounds.now kind.Equate n && not (is_kind kind.TypeSet n)

  -- ---- names of types

  abbrev pub names_no_type : Meaning → Bool
  names_no_type (meaning.Equate c) = not (is_type_value (value_in f c))
  names_no_type (meaning.TypeParameter k) = false
  names_no_type (meaning.Module its) = is_routine f its
  names_no_type _ = true

  abbrev pub names_equated_type : Meaning → Bool
  names_equated_type (meaning.Equate c) = is_type_value (value_in f c)
  names_equated_type _ = false

  -- ---- where a type is wanted

  -- of a Name that stands alone
  abbrev pub is_type_wanted : Wanted → ℕ → Bool
  is_type_wanted wanted.Constant n = wants_type f n
  is_type_wanted _ n = false

  -- ---- places of `cvt` and equates of `rep`

  abbrev pub is_in_routine : Option ℕ → Bool
  is_in_routine (Some p) = stands_in f.syntax.now f.rounds.now kind.Routine p
  is_in_routine None = false

  abbrev pub is_heading_part : NodeKind → ℕ → Bool
  is_heading_part kind.Decl p = is_in_routine (Some p)
  is_heading_part kind.Results p = is_in_routine (Some p)
  is_heading_part kind.Exc p = is_in_routine (round_in f p).parent
  is_heading_part _ p = false

  abbrev pub is_of_heading : Option ℕ → Bool
  is_of_heading (Some p) = is_heading_part (kind_in f p) p
  is_of_heading None = false

  -- exactly one of the nodes is an equate of `rep`; none, if one is known already
  abbrev pub has_one_rep : Bool → List ℕ → Bool
  has_one_rep known [] = known
  has_one_rep known (e ∷ es) = if is_rep e then not known && has_one_rep true es else has_one_rep known es

module _ (f : File) (items : ℕ → Item) where
  abbrev pub item_in : ℕ → Item
  item_in n = item_with items f.syntax.now n (slice_get f.syntax.now n)

  abbrev pub is_word_at : SimpleType → ℕ → Bool
  is_word_at word n = is_word word (item_in n).type

  -- the right side of `rep` that is no type
  abbrev pub is_no_type_side : NodeKind → ℕ → Bool
  is_no_type_side kind.TypeSet n = true
  is_no_type_side k n = not (is_type_value (value_in f n)) && not (is_real_literal (item_in n).expression)

  abbrev pub is_bad_rep : ℕ → Bool
  is_bad_rep n = is_rep_at f (round_in f n).parent && is_no_type_side (kind_in f n) n

  -- `rep` in a cluster that has none, or in one whose `rep` is no type
  abbrev pub is_no_type_rep : ℕ → Bool
  is_no_type_rep n = is_word_at simple.Rep n && (is_of_cluster f n && not (names_equated_type f (meaning_in f n)))

  abbrev pub has_no_set : ℕ → Bool
  has_no_set n = is_kind f kind.Restrict n && (names_set (item_in n).restriction && is_none (set_at f (second_bound (bound_in f.names.now n))))

  abbrev pub is_no_type : NodeKind → ℕ → Bool
  is_no_type kind.NameT n = names_no_type f (meaning_in f n)
  is_no_type kind.Simple n = is_no_type_rep n
  is_no_type kind.Restrict n = not (is_type_parameter (meaning_in f n)) || has_no_set n
  is_no_type kind.TypeSet n = is_second_other (names_of (slice_get f.syntax.now n))
  is_no_type _ n = false

  -- ---- V10: `real`, or a real literal

  abbrev pub is_real : NodeKind → ℕ → Bool
  is_real kind.Simple n = is_word_at simple.Real n
  is_real kind.Literal n = is_real_literal (item_in n).expression
  is_real _ n = false

  abbrev pub v10 : ℕ → Bool
  v10 n = is_real (kind_in f n) n

  -- ---- V31: `cvt` elsewhere than as a whole type in the heading of a cluster's routine, `rep` outside a cluster, or a
  -- cluster without exactly one `rep`

  abbrev pub is_misplaced_word : ℕ → Bool
  is_misplaced_word n =
      (is_word_at simple.Cvt n && not (is_of_cluster f n && is_of_heading f (round_in f n).parent))
      || (is_word_at simple.Rep n && not (is_of_cluster f n))

  abbrev pub v31_at : NodeKind → ℕ → Bool
  v31_at kind.Simple n = is_misplaced_word n
  v31_at kind.Cluster n = not (has_one_rep f false (children_in f n))
  v31_at _ n = false

  abbrev pub v31 : ℕ → Bool
  v31 n = v31_at (kind_in f n) n

module _ (t : Tables) where
  -- ---- V19: another number or kind of actuals, or actuals of what is no module; a constant parameter of another type than
  -- null, bool, int, char and string, where it is declared and where it is used

  abbrev pub is_misfit : Option (ℕ × List ℕ) → Bool
  is_misfit (Some named) = not (has_fitting_kinds t.file t.types.now named.0 named.1)
  is_misfit None = false

  abbrev pub is_illegal_type : Option ℕ → Bool
  is_illegal_type (Some declared) = is_none (kind_of_type t.types.now (type_id (value_in t.file declared)))
  is_illegal_type None = false

  abbrev pub is_illegal_use : ℕ → Meaning → Bool
  is_illegal_use n (meaning.ConstantParameter k) = is_none (parameter_type t.file t.types.now n k)
  is_illegal_use n _ = false

  abbrev pub is_illegal_parameter : NodeKind → ℕ → Bool
  is_illegal_parameter kind.Parm n = is_illegal_type (type_of t.file.syntax.now (children_in t.file n))
  is_illegal_parameter kind.Name n = is_object_wanted (wanted_in t.file n) && is_illegal_use n (meaning_in t.file n)
  is_illegal_parameter _ n = false

  abbrev pub v19 : ℕ → Bool
  v19 n = is_misfit (named_in t.file n) || is_illegal_parameter (kind_in t.file n) n

  module _ (bad : List Bool) where
    -- ---- names of bad equates

    abbrev pub is_bad : Option ℕ → Bool
    is_bad bound = is_bad_name t.file.syntax.now t.file.names.now t.circular.now bad bound

    abbrev pub is_bad_first : ℕ → Bool
    is_bad_first n = is_bad (declaration_in t.file.names.now n)

    abbrev pub has_bad_constant : NodeKind → ℕ → Bool
    has_bad_constant kind.Name n = is_bad_first n && not (is_type_wanted t.file (wanted_in t.file n) n)
    has_bad_constant _ n = false

    abbrev pub has_bad_type : NodeKind → ℕ → Bool
    has_bad_type kind.Name n = is_bad_first n && is_type_wanted t.file (wanted_in t.file n) n
    has_bad_type kind.NameT n = is_bad_first n
    has_bad_type kind.Simple n = is_bad_first n
    has_bad_type kind.Restrict n = list_any is_bad (bound_in t.file.names.now n)
    has_bad_type _ n = false

    -- V8: a constant is wanted and this is none, or it is the name of a bad equate
    abbrev pub v8 : ℕ → Bool
    v8 n =
        (is_neither t.file n && not (wants_type t.file n))
        || (has_bad_constant (kind_in t.file n) n
        || (is_right_side t.file n && is_long_constant t.long_constants.now (value_in t.file n)))

    -- V9: a type or a type set is wanted and this is none, or it is the name of a bad equate
    abbrev pub v9 : (ℕ → Item) → ℕ → Bool
    v9 items n =
        (is_neither t.file n && wants_type t.file n)
        || (is_bad_rep t.file items n
        || (is_no_type t.file items (kind_in t.file n) n
        || (has_bad_type (kind_in t.file n) n
        || (is_right_side t.file n && is_long_type t.long_types.now (value_in t.file n)))))
