-- The only result of a routine, by its term.
use Rattle.std.proofs.Common.{List, [], ◌∷◌, length, Option, Some, None, refl, sym, subst}
use Rattle.std.specs.Option.{option_and_then}
use Rattle.clu_types.specs.CluType.{CluType}
use Rattle.clu_types.specs.declared.term.TypeId.{TypeId}
use Rattle.clu_types.specs.declared.term.Term.{Term}
use Rattle.clu_types.specs.declared.term.Term.TheVariants as term
use Rattle.clu_types.specs.Arena.{type_of, types_at, types_of, AreBelow, PartsBelow, IsArena}
use Rattle.clu_checking.specs.Typing as typing
use Rattle.clu_typing.specs.Applied.{only, results_of, result_in, result_of}
use Rattle.clu_passes.specs.FactTables.{IsType}
use Rattle.clu_passes.proofs.FactTypes.{IsTerm, term_of_type}

module _ (terms : List Term) where
  only_same : (ids : List TypeId) → AreBelow (length terms) ids → IsType terms (only ids) (typing.only (types_at (types_of terms) ids))
  only_same [] within = tt
  only_same (id ∷ []) within = (within.0, refl)
  only_same (id ∷ other ∷ ids) within = tt

  result_same : (its : Term) → PartsBelow (length terms) its → IsType terms (only (results_of its)) (typing.result_of (type_of (types_of terms) its))
  result_same (term.Proc h) within = only_same h.results within.1
  result_same (term.Iter h) within = only_same h.results within.1
  result_same _ within = tt

  pub results_same : IsArena terms → (of : Option TypeId) (t : Option CluType) → IsType terms of t → IsType terms (result_of terms of) (option_and_then typing.result_of t)
  results_same arena None None is = tt
  results_same arena None (Some t) is = absurd is
  results_same arena (Some id) None is = absurd is
  results_same arena (Some id) (Some t) is =
      let its : IsTerm terms id t = term_of_type terms arena id t is.0 is.1 in
      let told : IsType terms (result_in (Some its.its)) (typing.result_of t) = subst (λ (x : CluType). IsType terms (result_in (Some its.its)) (typing.result_of x)) (sym its.is) (result_same its.its its.parts) in
      subst (λ (o : Option Term). IsType terms (result_in o) (typing.result_of t)) (sym its.there) told
