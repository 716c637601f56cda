-- The types of nodes and their texts, which of them are any, and the operations that were found for nodes.
use Rattle.std.specs.Prelude.{ℕ, Bool, true, false, List, [], ◌∷◌, Option, None, Some}
use Rattle.std.specs.List.{position}
use Rattle.std.specs.Str.{bytes_eq}
use Rattle.clu_tree.specs.declared.node.Node.{Node}
use Rattle.clu_syntax.specs.Syntax.{TypeExpression, a_simple_type}
use Rattle.clu_syntax.specs.Nodes.{item_at}
use Rattle.clu_syntax.specs.declared.words.SimpleType.{SimpleType}
use Rattle.clu_syntax.specs.declared.words.SimpleType.TheVariants as simple
use Rattle.clu_types.specs.CluType.{CluType, any_type, CluTypes, no_types, type_and}
use Rattle.clu_types.specs.Arena.{type_at, types_of}
use Rattle.clu_types.specs.declared.term.Field.{Field}
use Rattle.clu_types.specs.declared.term.TypeId.{TypeId}
use Rattle.clu_core.specs.declared.checked.Checked.{Checked}
use Rattle.clu_core.specs.declared.op_ref.OpRef.{OpRef}
use Rattle.clu_specs.specs.Texts.{type_text}
use Rattle.clu_lower_types.specs.declared.fixed.Fixed.{Fixed}
use Rattle.clu_lower_types.specs.Declarations.{entry}

abbrev pub is_any : CluType → Bool
is_any any_type = true
is_any _ = false

-- for each of these types whether it is any
abbrev pub any_among : CluTypes → List Bool
any_among no_types = []
any_among (type_and t ts) = is_any t ∷ any_among ts

-- the texts of types
abbrev pub texts_of : CluTypes → List (List ℕ)
texts_of no_types = []
texts_of (type_and t ts) = type_text t ∷ texts_of ts

-- the type of the expression at a node
abbrev pub type_of_node : Checked → ℕ → Option TypeId
type_of_node c n = entry c.type_of.items n

-- the operation that was found for a node
abbrev pub operation_of : Checked → ℕ → Option OpRef
operation_of c n = entry c.op_of.items n

abbrev pub is_cvt_word : SimpleType → Bool
is_cvt_word simple.Cvt = true
is_cvt_word _ = false

abbrev pub is_cvt_type : TypeExpression → Bool
is_cvt_type (a_simple_type n word) = is_cvt_word word
is_cvt_type _ = false

-- the type at a node is the word `cvt`
abbrev pub is_cvt : List Node → ℕ → Bool
is_cvt nodes n = is_cvt_type (item_at nodes n).type

abbrev pub if_cvt : Bool → Option TypeId → Option TypeId
if_cvt true rep = rep
if_cvt false rep = None

abbrev pub denoted_or : Option TypeId → Option TypeId → Option TypeId
denoted_or (Some of) other = Some of
denoted_or None other = other

-- the type that a type's node denotes; `cvt` is the representation of the cluster round it
abbrev pub denoted_type : Fixed → ℕ → Option TypeId
denoted_type f n = denoted_or (entry f.c.now.denoted.items n) (if_cvt (is_cvt f.syntax.now n) f.rep)

abbrev pub any_if : List CluType → Option TypeId → Option Bool
any_if types None = None
any_if types (Some of) = Some (is_any (type_at types of))

-- the type that a type's node denotes is any
abbrev pub denotes_any : Fixed → ℕ → Option Bool
denotes_any f n = any_if (types_of f.c.now.types) (denoted_type f n)

-- the place of the component of a selector
abbrev pub place_of : List Field → List ℕ → Option ℕ
place_of components name = position (λ (f : Field). bytes_eq f.name name) components
