-- The kinds of actual parameters.
use Rattle.std.specs.Prelude.{◌≡◌, ℕ, zero, suc, List, [], ◌∷◌, Option, Some, None, slice_get}
use Rattle.clu_base.specs.declared.constants.Const.{Const}
use Rattle.clu_base.specs.declared.constants.Const.TheVariants as value
use Rattle.clu_types.specs.declared.spec.ParamKind.{ParamKind}
use Rattle.clu_types.specs.declared.spec.ParamKind.TheVariants as kind
use Rattle.clu_types.specs.declared.term.Actual.{Actual}
use Rattle.clu_types.specs.declared.term.Actual.TheVariants as actual
use Rattle.clu_types.specs.CluType.{Actuals, no_actuals, actual_type, actual_const, actual_param}

abbrev pub kind_of_value : Const → ParamKind
kind_of_value value.Null = kind.Null
kind_of_value (value.Bool b) = kind.Bool
kind_of_value (value.Int n) = kind.Int
kind_of_value (value.Char c) = kind.Char
kind_of_value (value.Str text) = kind.Str

-- the kind of the parameter of a number, from 1
abbrev pub kind_at : List ParamKind → ℕ → Option ParamKind
kind_at own zero = None
kind_at own (suc n) = slice_get own n

-- the kind of an actual parameter in a module with parameters of these kinds
abbrev pub kind_of : List ParamKind → Actual → Option ParamKind
kind_of own (actual.Of id) = Some kind.OfType
kind_of own (actual.Const c) = Some (kind_of_value c)
kind_of own (actual.ConstParam n) = kind_at own n

abbrev pub AreOfKinds : List ParamKind → List Actual → List ParamKind → Type 0
AreOfKinds own [] [] = Unit {0}
AreOfKinds own [] (k ∷ kinds) = ⊥
AreOfKinds own (a ∷ actuals) [] = ⊥
AreOfKinds own (a ∷ actuals) (k ∷ kinds) = (kind_of own a ≡ Some k) × AreOfKinds own actuals kinds

-- an actual parameter may be of a kind, whatever module it stands in: of a constant parameter it is only known that it is no type
abbrev pub MayBe : Actual → ParamKind → Type 0
MayBe (actual.Of id) k = k ≡ kind.OfType
MayBe (actual.Const c) k = k ≡ kind_of_value c
MayBe (actual.ConstParam n) k = k ≡ kind.OfType → ⊥

abbrev pub MayBeAll : List Actual → List ParamKind → Type 0
MayBeAll [] [] = Unit {0}
MayBeAll [] (k ∷ kinds) = ⊥
MayBeAll (a ∷ actuals) [] = ⊥
MayBeAll (a ∷ actuals) (k ∷ kinds) = MayBe a k × MayBeAll actuals kinds

-- the same of the actual parameters of a type
abbrev pub MayBeOf : Actuals → List ParamKind → Type 0
MayBeOf no_actuals [] = Unit {0}
MayBeOf no_actuals (k ∷ kinds) = ⊥
MayBeOf (actual_type t rest) [] = ⊥
MayBeOf (actual_type t rest) (k ∷ kinds) = (k ≡ kind.OfType) × MayBeOf rest kinds
MayBeOf (actual_const c rest) [] = ⊥
MayBeOf (actual_const c rest) (k ∷ kinds) = (k ≡ kind_of_value c) × MayBeOf rest kinds
MayBeOf (actual_param n rest) [] = ⊥
MayBeOf (actual_param n rest) (k ∷ kinds) = (k ≡ kind.OfType → ⊥) × MayBeOf rest kinds
