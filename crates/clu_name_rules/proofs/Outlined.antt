-- How long the text of a constant is, is known without that of a string.
use Rattle.std.proofs.Common.{◌≡◌, ◌∙◌, ◌<◌, ◌*◌, ◌+◌, ◌-◌, ◌^◌, min, ℕ, zero, suc, Bool, false, List, [], ◌∷◌, ◌++◌, length, map, take, slice_get, Option, Some, None, option_map, refl, ap, sym, arith}
use Rattle.std.specs.Prelude.{nat_lt}
use Rattle.std.proofs.lemmas.Option.{same_Some}
use Rattle.clu_base.specs.declared.constants.Const.{Const}
use Rattle.clu_base.specs.declared.constants.Const.TheVariants as constant
use Rattle.clu_constants.specs.declared.outline.Outline.{Outline}
use Rattle.clu_constants.specs.Held.{capped}
use Rattle.clu_constants.specs.Outlines.{outlined}
use Rattle.clu_name_rules.specs.Lengths.{constant_length, is_long_at, outline_length}

pub length_told : (c : Const) → outline_length (outlined c) ≡ constant_length c
length_told constant.Null = refl
length_told (constant.Bool b) = refl
length_told (constant.Int n) = refl
length_told (constant.Char b) = refl
length_told (constant.Str bytes) = omega arith

pub long_found : (found : Option Const) (o : Outline) → Some o ≡ option_map outlined found → nat_lt 65536 (outline_length o) ≡ is_long_at found
long_found None o e = absurd (cc)
long_found (Some c) o e = ap (nat_lt 65536) (ap outline_length (same_Some o (outlined c) e) ∙ length_told c)

pub long_missing : (found : Option Const) → None ≡ option_map outlined found → false ≡ is_long_at found
long_missing None e = refl
long_missing (Some c) e = absurd (cc)

-- the constants before a place, and that one
pub long_next : (cs : List Const) (k : ℕ) → k < length cs → map (λ c. nat_lt 65536 (constant_length c)) (take (suc k) cs) ≡ map (λ c. nat_lt 65536 (constant_length c)) (take k cs) ++ is_long_at (slice_get cs k) ∷ []
long_next [] k lt = absurd (omega (arith, lt))
long_next (c ∷ cs) zero lt = refl
long_next (c ∷ cs) (suc k) lt = ap (λ (l : List Bool). nat_lt 65536 (constant_length c) ∷ l) (long_next cs k (omega (arith, lt)))
