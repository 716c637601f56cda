-- What is computed of types one by one, and of a number that is none of an arena.
use Rattle.std.proofs.Common.{◌≡◌, ◌<◌, ℕ, Bool, true, false, List, [], ◌∷◌, length, map, refl, ap, arith}
use borrow.Author.Tests.{ltb-true, ltb-false}
use Rattle.std.proofs.Math.Dec.{ltb}
use Rattle.std.proofs.lemmas.List.{get_or_past}
use Rattle.clu_types.specs.CluType.{CluType, null_type}
use Rattle.clu_types.specs.Arena.{type_at, types_at, types_of}
use Rattle.clu_types.specs.declared.term.Term.{Term}
use Rattle.clu_types.specs.declared.term.TypeId.{TypeId}
use Rattle.clu_types.proofs.Arenas.{length-types_of}
use Rattle.clu_specs.specs.Texts.{type_text}
use Rattle.clu_lower_types.specs.Types.{any_among, is_any, texts_of}

pub any_each : (types : List CluType) (ids : List TypeId) → any_among (types_at types ids) ≡ map (λ (of : TypeId). is_any (type_at types of)) ids
any_each types [] = refl
any_each types (id ∷ ids) = ap (λ (rest : List Bool). is_any (type_at types id) ∷ rest) (any_each types ids)

pub texts_each : (types : List CluType) (ids : List TypeId) → texts_of (types_at types ids) ≡ map (λ (of : TypeId). type_text (type_at types of)) ids
texts_each types [] = refl
texts_each types (id ∷ ids) = ap (λ (rest : List (List ℕ)). type_text (type_at types id) ∷ rest) (texts_each types ids)

-- what is no number of an arena stands for null
pub not_there : (terms : List Term) (of : TypeId) → (of.0 < length terms → ⊥) → type_at (types_of terms) of ≡ null_type
not_there terms of past = by (ltb of.0 (length terms)) refl
  where
    by : (b : Bool) → ltb of.0 (length terms) ≡ b → type_at (types_of terms) of ≡ null_type
    by true e = absurd (past (omega (arith, ltb-true)))
    by false e = get_or_past (types_of terms) of.0 null_type (omega (arith, ltb-false, length-types_of terms))
