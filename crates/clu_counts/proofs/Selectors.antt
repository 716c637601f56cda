-- A scheme counts by the number of selectors.
use Rattle.std.proofs.Common.{◌≡◌, refl, ap, ◌∙◌, arith}
use Rattle.std.specs.Prelude.{ℕ, suc, ◌+◌, ◌*◌, ◌<◌, ◌^◌, List, [], ◌∷◌, length}
use Rattle.clu_types.specs.CluType.{CluType}
use Rattle.clu_types.specs.declared.term.Field.{Field}
use Rattle.clu_types.specs.Arena.{fields_at}
use Rattle.clu_rt_data.specs.Schemes.{scheme_nodes}
use Rattle.clu_meaning.specs.Lists.{selectors}
use Rattle.clu_meaning.specs.Schemes.{scheme_count}

same_number : (types : List CluType) (fields : List Field) → length fields ≡ selectors (fields_at types fields)
same_number types [] = refl
same_number types (f ∷ fs) = ap suc (same_number types fs)

nodes_fit : (n : ℕ) → 8 + 8 * n < 2 ^ 32 → scheme_nodes n ≡ 8 + 8 * n
nodes_fit n h = omega (arith, h)

pub same_counts : (types : List CluType) (fields : List Field) → 8 + 8 * length fields < 2 ^ 32 → scheme_nodes (length fields) ≡ scheme_count (fields_at types fields)
same_counts types fields h = nodes_fit (length fields) h ∙ ap (λ (n : ℕ). 8 + 8 * n) (same_number types fields)
