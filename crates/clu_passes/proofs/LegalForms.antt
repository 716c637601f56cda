-- Forms of types and expressions, and what has no kind as the type of a parameter.
use Rattle.std.proofs.Common.{◌≡◌, ◌∙◌, ℕ, Bool, true, false, List, [], ◌∷◌, drop, codes, bytes_eq, Option, Some, None, refl, ap, sym}
use Rattle.std.specs.Prelude.{if◌then◌else◌}
use Rattle.std.proofs.lemmas.Bool.{true≢false}
use Rattle.clu_base.specs.declared.constants.Const.{Const}
use Rattle.clu_tree.specs.declared.node.Node.{Node}
use Rattle.clu_tree.specs.declared.node.NodeKind.{NodeKind}
use Rattle.clu_tree.specs.declared.node.NodeKind.TheVariants as kind
use Rattle.clu_types.specs.CluType.{CluType, CluTypes, Fields, Signals, Actuals, no_actuals, actual_type, actual_const, actual_param, stream_type, cluster_of}
use Rattle.clu_syntax.specs.declared.words.Operator.{Operator}
use Rattle.clu_syntax.specs.declared.words.SimpleType.{SimpleType}
use Rattle.clu_syntax.specs.declared.words.ListType.{ListType}
use Rattle.clu_syntax.specs.declared.words.ListType.TheVariants as list
use Rattle.clu_syntax.specs.declared.words.FieldsType.{FieldsType}
use Rattle.clu_syntax.specs.declared.words.FieldsType.TheVariants as fields
use Rattle.clu_syntax.specs.declared.words.RoutineKind.{RoutineKind}
use Rattle.clu_syntax.specs.declared.words.RoutineKind.TheVariants as routine
use Rattle.clu_syntax.specs.Kinds.{is_expression, is_type}
use Rattle.clu_syntax.specs.Items.{Item}
use Rattle.clu_syntax.specs.Nodes.{elements_of, expression_of, type_expression_of}
use Rattle.clu_syntax.specs.Splits.{child, first_name}
use Rattle.clu_syntax.specs.Syntax.{Identifier, Expression, a_name, elements, elements_from, TypeExpression, a_simple_type, a_named_type, Constant, Constants}
use Rattle.clu_syntax.specs.Words.{symbol_in, simple_type}
use Rattle.clu_meaning.specs.Constants.{folded, sugar}
use Rattle.clu_meaning.specs.Scoping as means
use Rattle.clu_meaning.specs.Scoping.{Scope}
use Rattle.clu_meaning.specs.Settling.{Value as Settled, settled_type, settled_constant, settled_parameter, unsettled, type_in, constant_value, infix_value, with_brackets, module_type, list_type, fields_type, routine_type, value_of_meaning}
use Rattle.clu_checking.specs.Files.{File}
use Rattle.clu_checking.specs.Equates.{type_node, means_cvt}
use Rattle.clu_checking.specs.Headings.{kind_of_type}
use Rattle.clu_settle.specs.declared.value.Value.{Value}
use Rattle.clu_settle.specs.declared.value.Value.TheVariants as value
use Rattle.clu_settle.specs.Names.{is_other}
use Rattle.clu_settle.specs.Standing.{is_lost}

-- ---- types and values without a kind

abbrev pub NoKind : Settled → Type 0
NoKind v = kind_of_type (type_in v) ≡ None

pub module_kind : (name : Identifier) (given : Actuals) → kind_of_type (module_type name given) ≡ None
module_kind name no_actuals = by (bytes_eq name (codes "stream"))
  where
    by : (b : Bool) → kind_of_type (if b then stream_type else cluster_of name no_actuals) ≡ None
    by true = refl
    by false = refl
module_kind name (actual_type t rest) = refl
module_kind name (actual_const c rest) = refl
module_kind name (actual_param k rest) = refl

pub list_kind : (w : ListType) (t : CluType) → kind_of_type (list_type w t) ≡ None
list_kind list.Array t = refl
list_kind list.Sequence t = refl

pub fields_kind : (w : FieldsType) (fs : Fields) → kind_of_type (fields_type w fs) ≡ None
fields_kind fields.Record fs = refl
fields_kind fields.Struct fs = refl
fields_kind fields.Oneof fs = refl
fields_kind fields.Variant fs = refl

pub routine_type_kind : (w : RoutineKind) (args results : CluTypes) (ss : Signals) → kind_of_type (routine_type w args results ss) ≡ None
routine_type_kind routine.Procedure args results ss = refl
routine_type_kind routine.Iterator args results ss = refl

pub constant_kind : (c : Option Const) → NoKind (constant_value c)
constant_kind (Some c) = refl
constant_kind None = refl

pub infix_kind : (op : Operator) (a b : Option Const) → NoKind (infix_value op a b)
infix_kind op (Some a) (Some b) = constant_kind (folded (sugar op) a b)
infix_kind op (Some a) None = refl
infix_kind op None b = refl

pub brackets_kind : (v : Settled) → NoKind v → NoKind (with_brackets v)
brackets_kind (settled_type t) none_there = none_there
brackets_kind (settled_constant c) none_there = refl
brackets_kind (settled_parameter k) none_there = refl
brackets_kind unsettled none_there = refl

-- ---- meanings of names

abbrev pub is_equated : means.Meaning → Bool
is_equated (means.is_equate c) = true
is_equated _ = false

pub other_named : (m : means.Meaning) → is_other m ≡ true → is_equated m ≡ false
other_named (means.is_equate c) e = absurd (true≢false (sym e))
other_named means.is_type_set e = refl
other_named (means.is_type_parameter k) e = refl
other_named (means.is_constant_parameter k) e = refl
other_named (means.is_local t) e = refl
other_named (means.is_own_of_routine t) e = refl
other_named (means.is_own_of_cluster t) e = refl
other_named means.is_routine_of_cluster e = refl
other_named means.is_module e = refl

pub no_cvt : (f : File) (leads : Constant → Bool) (m : means.Meaning) → is_equated m ≡ false → means_cvt f leads m ≡ false
no_cvt f leads (means.is_equate c) e = absurd (true≢false e)
no_cvt f leads means.is_type_set e = refl
no_cvt f leads (means.is_type_parameter k) e = refl
no_cvt f leads (means.is_constant_parameter k) e = refl
no_cvt f leads (means.is_local t) e = refl
no_cvt f leads (means.is_own_of_routine t) e = refl
no_cvt f leads (means.is_own_of_cluster t) e = refl
no_cvt f leads means.is_routine_of_cluster e = refl
no_cvt f leads means.is_module e = refl

pub no_kind : (scope : Scope) (unfolded : Constant → Settled) (name : Identifier) (given : Actuals) (m : means.Meaning) → is_equated m ≡ false → NoKind (value_of_meaning scope unfolded name given m)
no_kind scope unfolded name given (means.is_equate c) e = absurd (true≢false e)
no_kind scope unfolded name given means.is_type_set e = refl
no_kind scope unfolded name given (means.is_type_parameter k) e = refl
no_kind scope unfolded name given (means.is_constant_parameter k) e = refl
no_kind scope unfolded name given (means.is_local t) e = refl
no_kind scope unfolded name given (means.is_own_of_routine t) e = refl
no_kind scope unfolded name given (means.is_own_of_cluster t) e = refl
no_kind scope unfolded name given means.is_routine_of_cluster e = refl
no_kind scope unfolded name given means.is_module e = module_kind name given

-- ---- values

pub lost_is : (v : Value) → is_lost v ≡ true → v ≡ value.Lost
lost_is value.Lost e = refl
lost_is value.Nothing e = absurd (true≢false (sym e))
lost_is (value.Type id) e = absurd (true≢false (sym e))
lost_is (value.Constant k) e = absurd (true≢false (sym e))
lost_is (value.Parameter k) e = absurd (true≢false (sym e))

-- ---- forms

pub is_elements : Expression → Bool
is_elements (elements n t es) = true
is_elements (elements_from n t low es) = true
is_elements _ = false

pub elements_are : (items : ℕ → Item) (nodes : List Node) (n : ℕ) (t : TypeExpression) (low : Option ℕ) (cs : List ℕ) → is_elements (elements_of items nodes n t low cs) ≡ true
unfolding is_elements
elements_are items nodes n t None cs = refl
elements_are items nodes n t (Some token) [] = refl
elements_are items nodes n t (Some token) (c ∷ cs) = refl

pub name_is : (items : ℕ → Item) (nodes : List Node) (n : ℕ) (node : Node) (k : NodeKind) (m : ℕ) (name : Identifier) → is_expression k ≡ true → a_name m name ≡ expression_of items nodes n node k → (k ≡ kind.Name) × (m ≡ n) × (first_name node.names ≡ name)
unfolding is_elements
name_is items nodes n node kind.Name m name of is = (refl, (cc), (cc))
name_is items nodes n node kind.Infix m name of is = absurd (cc)
name_is items nodes n node kind.Prefix m name of is = absurd (cc)
name_is items nodes n node kind.Paren m name of is = absurd (cc)
name_is items nodes n node kind.Literal m name of is = absurd (cc)
name_is items nodes n node kind.Index m name of is = absurd (cc)
name_is items nodes n node kind.Get m name of is = absurd (cc)
name_is items nodes n node kind.Call m name of is = absurd (cc)
name_is items nodes n node kind.Fields m name of is = absurd (cc)
name_is items nodes n node kind.Elems m name of is =
    let same : is_elements (a_name m name) ≡ is_elements (elements_of items nodes n (items (child 0 node)).type node.value_token (drop 1 node.children)) = ap is_elements is in
    absurd (true≢false (sym (elements_are items nodes n (items (child 0 node)).type node.value_token (drop 1 node.children)) ∙ sym same))
name_is items nodes n node kind.OperOf m name of is = absurd (cc)
name_is items nodes n node kind.Force m name of is = absurd (cc)
name_is items nodes n node kind.Up m name of is = absurd (cc)
name_is items nodes n node kind.Down m name of is = absurd (cc)
name_is items nodes n node _ m name of is = absurd (true≢false (sym of))

pub word_is : (items : ℕ → Item) (nodes : List Node) (n : ℕ) (node : Node) (k : NodeKind) (m : ℕ) (w : SimpleType) → is_type k ≡ true → a_simple_type m w ≡ type_expression_of items nodes n node k → (k ≡ kind.Simple) × (m ≡ n) × (simple_type (symbol_in node.value) ≡ w)
word_is items nodes n node kind.Simple m w of is = (refl, (cc), (cc))
word_is items nodes n node kind.ListT m w of is = absurd (cc)
word_is items nodes n node kind.FieldsT m w of is = absurd (cc)
word_is items nodes n node kind.RoutineT m w of is = absurd (cc)
word_is items nodes n node kind.NameT m w of is = absurd (cc)
word_is items nodes n node _ m w of is = absurd (true≢false (sym of))

pub named_is : (items : ℕ → Item) (nodes : List Node) (n : ℕ) (node : Node) (k : NodeKind) (m : ℕ) (name : Identifier) (cs : Constants) → a_named_type m name cs ≡ type_expression_of items nodes n node k → (k ≡ kind.NameT) × (m ≡ n) × (first_name node.names ≡ name)
named_is items nodes n node kind.NameT m name cs is = (refl, (cc), (cc))
named_is items nodes n node kind.ListT m name cs is = absurd (cc)
named_is items nodes n node kind.FieldsT m name cs is = absurd (cc)
named_is items nodes n node kind.RoutineT m name cs is = absurd (cc)
named_is items nodes n node _ m name cs is = absurd (cc)

-- the node of a type, as the definitions of equates have it
pub node_of_type : (items : ℕ → Item) (nodes : List Node) (n : ℕ) (node : Node) (k : NodeKind) → type_node (type_expression_of items nodes n node k) ≡ n
node_of_type items nodes n node kind.ListT = refl
node_of_type items nodes n node kind.FieldsT = refl
node_of_type items nodes n node kind.RoutineT = refl
node_of_type items nodes n node kind.NameT = refl
node_of_type items nodes n node _ = refl
