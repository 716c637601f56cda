-- What the value of a string literal tells, where it is known.
use Rattle.std.proofs.Common.{◌≡◌, ◌∙◌, ◌||◌, ℕ, zero, suc, true, false, List, [], ◌∷◌, get_or, Option, Some, None, refl, ap, subst}
use Rattle.std.specs.Prelude.{is_none}
use Rattle.std.specs.Option.{option_map}
use Rattle.clu_base.specs.declared.constants.Const.{Const}
use Rattle.clu_base.specs.declared.constants.Const.TheVariants as constant
use Rattle.clu_literal.specs.Literal.{string_denoted}
use Rattle.clu_tree.specs.declared.node.Node.{Node}
use Rattle.clu_tree.specs.declared.node.NodeKind.{NodeKind}
use Rattle.clu_types.specs.CluType.{CluType}
use Rattle.clu_types.specs.declared.term.Term.{Term}
use Rattle.clu_types.specs.Arena.{types_of}
use Rattle.clu_syntax.specs.Kinds.{is_expression, is_type, kind_of, kind_at}
use Rattle.clu_syntax.specs.Nodes.{item_at}
use Rattle.clu_syntax.specs.Syntax.{Constant, an_expression, a_literal, Literal, string}
use Rattle.clu_meaning.specs.Settling.{settled, constant_value, value_of_constant}
use Rattle.clu_checking.specs.Files.{File}
use Rattle.clu_settle.specs.declared.value.Value.{Value}
use Rattle.clu_settle.specs.declared.value.Value.TheVariants as value
use Rattle.clu_settle.specs.Values.{told, Agrees}
use Rattle.clu_settle.specs.Lists.{value_of}
use Rattle.clu_settle.specs.Names.{is_constant}
use Rattle.clu_settle.specs.Settled.{AreSettled}
use Rattle.clu_settle.proofs.Parts.{constant_is}
use Rattle.clu_name_rules.specs.NameRules.{is_nothing}
use Rattle.clu_passes.specs.Tables.{TellStrings, AreFoundStrings}
use Rattle.clu_passes.proofs.Literals.{literal_is}

pub value_same : (values : List Value) (n : ℕ) → get_or values n value.Lost ≡ value_of values n
value_same [] n = refl
value_same (v ∷ values) zero = refl
value_same (v ∷ values) (suc n) = value_same values n

told_so : (types : List CluType) (constants : List Const) (text : Option (List ℕ)) (v : Value) → (v ≡ value.Lost → ⊥) → Agrees (told types constants v) (constant_value (option_map constant.Str text)) → is_nothing v ≡ is_none text
told_so types constants None value.Nothing known agrees = refl
told_so types constants (Some text) value.Nothing known agrees = cc
told_so types constants text value.Lost known agrees = absurd (known refl)
told_so types constants None (value.Type id) known agrees = cc
told_so types constants (Some text) (value.Type id) known agrees = cc
told_so types constants None (value.Constant k) known agrees = cc
told_so types constants (Some text) (value.Constant k) known agrees = refl
told_so types constants None (value.Parameter k) known agrees = cc
told_so types constants (Some text) (value.Parameter k) known agrees = cc

module _ (f : File) (types : List Term) (constants : List Const) (values : List Value) (known : AreSettled f.nodes f.scope types constants values) (found : AreFoundStrings f values) where
  pub strings_told : TellStrings f values
  strings_told n node text at is e =
      let type_no : is_type (kind_at f.nodes n) ≡ false = ap (λ (its : Option Node). is_type (kind_of its)) at ∙ ap is_type is in
      let there : is_constant f.nodes n ≡ true = ap (λ (its : Option Node). is_expression (kind_of its) || is_type (kind_of its)) at ∙ ap (λ (k : NodeKind). is_expression k || is_type k) is in
      let its : (item_at f.nodes n).constant ≡ an_expression (a_literal n (string text)) =
      constant_is f.nodes n false type_no ∙ ap an_expression (literal_is f.nodes n node at is ∙ ap (λ (l : Literal). a_literal n l) e) in
      let agrees : Agrees (told (types_of types) constants (value_of values n)) (constant_value (option_map constant.Str (string_denoted text))) =
      subst (λ (c : Constant). Agrees (told (types_of types) constants (value_of values n)) (value_of_constant f.scope (settled f.scope) c)) its (known.each n there) in
      ap is_nothing (value_same values n) ∙ told_so (types_of types) constants (string_denoted text) (value_of values n) (λ lost. found n node text at is e (value_same values n ∙ lost)) agrees
