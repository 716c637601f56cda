-- The type of a constant is known without its text.
use Rattle.std.proofs.Common.{◌≡◌, ◌∙◌, List, Option, Some, None, option_map, refl, ap, sym, subst}
use Rattle.std.proofs.lemmas.Option.{same_Some}
use Rattle.clu_base.specs.declared.constants.Const.{Const}
use Rattle.clu_base.specs.declared.constants.Const.TheVariants as constant
use Rattle.clu_constants.specs.declared.outline.Outline.{Outline}
use Rattle.clu_constants.specs.Outlines.{outlined}
use Rattle.clu_types.specs.CluType.{CluType}
use Rattle.clu_types.specs.declared.term.Term.{Term}
use Rattle.clu_types.specs.declared.term.TypeId.{TypeId}
use Rattle.clu_typing.specs.Typing.{IsType, constant_type, outline_type}

type_told : (c : Const) → outline_type (outlined c) ≡ constant_type c
type_told constant.Null = refl
type_told (constant.Bool b) = refl
type_told (constant.Int n) = refl
type_told (constant.Char b) = refl
type_told (constant.Str bytes) = refl

module _ (terms : List Term) (of : Option TypeId) (found : Option Const) where
  pub type_found : (o : Outline) → Some o ≡ option_map outlined found → IsType terms of (Some (outline_type o)) → IsType terms of (option_map constant_type found)
  type_found o e is = by found e
    where
      by : (f : Option Const) → Some o ≡ option_map outlined f → IsType terms of (option_map constant_type f)
      by None e = absurd (cc)
      by (Some c) e = subst (λ (t : CluType). IsType terms of (Some t)) (ap outline_type (same_Some o (outlined c) e) ∙ type_told c) is

  pub type_missing : None ≡ option_map outlined found → of ≡ None → IsType terms of (option_map constant_type found)
  type_missing e none = by found e
    where
      by : (f : Option Const) → None ≡ option_map outlined f → IsType terms of (option_map constant_type f)
      by None e = subst (λ (o : Option TypeId). IsType terms o None) (sym none) tt
      by (Some c) e = absurd (cc)
