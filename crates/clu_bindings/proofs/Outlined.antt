-- The kind of a constant is known without its text.
use Rattle.std.proofs.Common.{◌≡◌, ◌∙◌, Option, Some, None, option_map, refl, ap, sym}
use Rattle.std.proofs.lemmas.Option.{same_Some}
use Rattle.clu_base.specs.declared.constants.Const.{Const}
use Rattle.clu_base.specs.declared.constants.Const.TheVariants as constant
use Rattle.clu_constants.specs.declared.outline.Outline.{Outline}
use Rattle.clu_constants.specs.Outlines.{outlined}
use Rattle.clu_types.specs.declared.spec.ParamKind.{ParamKind}
use Rattle.clu_bindings.specs.Named.{kind_of_constant, kind_of_outline, kind_of_place}

kind_told : (c : Const) → kind_of_outline (outlined c) ≡ kind_of_constant c
kind_told constant.Null = refl
kind_told (constant.Bool b) = refl
kind_told (constant.Int n) = refl
kind_told (constant.Char b) = refl
kind_told (constant.Str bytes) = refl

pub kind_found : (found : Option Const) (o : Outline) → Some o ≡ option_map outlined found → Some (kind_of_outline o) ≡ kind_of_place found
kind_found None o e = absurd (cc)
kind_found (Some c) o e = ap (λ (k : ParamKind). Some k) (ap kind_of_outline (same_Some o (outlined c) e) ∙ kind_told c)

pub kind_missing : (found : Option Const) → None ≡ option_map outlined found → None ≡ kind_of_place found
kind_missing None e = refl
kind_missing (Some c) e = absurd (cc)
