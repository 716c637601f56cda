use Rattle.std.proofs.Common.{rules}
use Rattle.std.proofs.lemmas.List.Sorted.{IsNonDecreasingBy-from_sort_by_key}
use Rattle.clu_operations.specs.declared.words.NameId.{NameId}
use Rattle.clu_typing.proofs.Sets.{same_permutation, same_sym}
use Rattle.clu_typing.proofs.handled.ascending.Goals as goal

pub returns-clause-ascends : goal.returns-clause-ascends
returns-clause-ascends c = IsNonDecreasingBy-from_sort_by_key (λ (id : NameId). id.0) _ c.sort_unstable_by_key.ensures.sorted (λ a r f' k. search rules)

pub returns-clause-same : goal.returns-clause-same
returns-clause-same c = same_sym _ _ (same_permutation _ _ c.sort_unstable_by_key.ensures.permutation)
