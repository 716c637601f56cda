-- What an operation gives, by the terms of types.
use Rattle.std.specs.Prelude.{List, [], ◌∷◌, slice_get, Option, Some, None}
use Rattle.clu_types.specs.declared.term.TypeId.{TypeId}
use Rattle.clu_types.specs.declared.term.Term.{Term}
use Rattle.clu_types.specs.declared.term.Term.TheVariants as term

abbrev pub only : List TypeId → Option TypeId
only (of ∷ []) = Some of
only _ = None

abbrev pub results_of : Term → List TypeId
results_of (term.Proc heading) = heading.results
results_of (term.Iter heading) = heading.results
results_of _ = []

abbrev pub result_in : Option Term → Option TypeId
result_in (Some t) = only (results_of t)
result_in None = None

-- the only result of a routine; another number of results, and what is no routine, gives none
abbrev pub result_of : List Term → Option TypeId → Option TypeId
result_of terms (Some of) = result_in (slice_get terms of.0)
result_of terms None = None
