-- The operation for which an operator stands.
use Rattle.std.specs.Prelude.{ℕ, Bool, true, false, List, Option, Some, None}
use Rattle.clu_meaning.specs.Constants.{Sugar, is_cand, is_cor, is_operation, is_negated}

abbrev pub operation_of : Sugar → Option (List ℕ)
operation_of is_cand = None
operation_of is_cor = None
operation_of (is_operation name) = Some name
operation_of (is_negated name) = Some name

abbrev pub negates : Sugar → Bool
negates (is_negated name) = true
negates _ = false
