-- Over a table with no entries, and with nothing put in, a term stays.
use Rattle.std.proofs.Common.{◌≡◌, ℕ, zero, suc, List, [], ◌∷◌, map, Option, None, unwrap_or, refl, ap, ap₂}
use Rattle.clu_types.specs.Renumbered.{Numbers, number_in, field_in, signal_in, heading_in, actual_in, term_in}
use Rattle.clu_types.specs.declared.term.TypeId.{TypeId}
use Rattle.clu_types.specs.declared.term.Field.{Field}
use Rattle.clu_types.specs.declared.term.Exception.{Exception}
use Rattle.clu_types.specs.declared.term.Heading.{Heading}
use Rattle.clu_types.specs.declared.term.Actual.{Actual}
use Rattle.clu_types.specs.declared.term.Actual.TheVariants as actual
use Rattle.clu_types.specs.declared.term.Term.{Term}
use Rattle.clu_types.specs.declared.term.Term.TheVariants as term
use Rattle.clu_types.proofs.Equality.{join3}

module _ (table : Numbers) (none : (n : ℕ) → table n ≡ None) where
  number_stays : (id : TypeId) → number_in table id ≡ id
  number_stays id = ap (λ (o : Option TypeId). unwrap_or o id) (none id.0)

  ids_stay : (ids : List TypeId) → map (number_in table) ids ≡ ids
  ids_stay [] = refl
  ids_stay (id ∷ ids) = ap₂ (λ (x : TypeId) (xs : List TypeId). x ∷ xs) (number_stays id) (ids_stay ids)

  fields_stay : (fs : List Field) → map (field_in table) fs ≡ fs
  fields_stay [] = refl
  fields_stay (f ∷ fs) = ap₂ (λ (of : TypeId) (xs : List Field). let x : Field = record { name = f.name; of = of } in x ∷ xs) (number_stays f.of) (fields_stay fs)

  pub signal_stays : (s : Exception) → signal_in table s ≡ s
  signal_stays s = ap (λ (ids : List TypeId). let x : Exception = record { name = s.name; objects = ids } in x) (ids_stay s.objects)

  signals_stay : (ss : List Exception) → map (signal_in table) ss ≡ ss
  signals_stay [] = refl
  signals_stay (s ∷ ss) = ap₂ (λ (x : Exception) (xs : List Exception). x ∷ xs) (signal_stays s) (signals_stay ss)

  pub heading_stays : (h : Heading) → heading_in table h ≡ h
  heading_stays h =
      join3 (λ (xs ys : List TypeId) (ss : List Exception). let x : Heading = record { args = xs; results = ys; signals = ss } in x)
      (ids_stay h.args) (ids_stay h.results) (signals_stay h.signals)

  actual_stays : (a : Actual) → actual_in table [] a ≡ a
  actual_stays (actual.Of id) = ap actual.Of (number_stays id)
  actual_stays (actual.Const c) = refl
  actual_stays (actual.ConstParam zero) = refl
  actual_stays (actual.ConstParam (suc n)) = refl

  actuals_stay : (given : List Actual) → map (actual_in table []) given ≡ given
  actuals_stay [] = refl
  actuals_stay (a ∷ rest) = ap₂ (λ (x : Actual) (xs : List Actual). x ∷ xs) (actual_stays a) (actuals_stay rest)

  pub term_stays : (t : Term) → term_in table [] t ≡ t
  term_stays term.Null = refl
  term_stays term.Bool = refl
  term_stays term.Int = refl
  term_stays term.Char = refl
  term_stays term.Str = refl
  term_stays term.Any = refl
  term_stays term.Stream = refl
  term_stays (term.Array of) = ap term.Array (number_stays of)
  term_stays (term.Sequence of) = ap term.Sequence (number_stays of)
  term_stays (term.Record fs) = ap term.Record (fields_stay fs)
  term_stays (term.Struct fs) = ap term.Struct (fields_stay fs)
  term_stays (term.Oneof fs) = ap term.Oneof (fields_stay fs)
  term_stays (term.Variant fs) = ap term.Variant (fields_stay fs)
  term_stays (term.Proc h) = ap term.Proc (heading_stays h)
  term_stays (term.Iter h) = ap term.Iter (heading_stays h)
  term_stays (term.Cluster name given) = ap (term.Cluster name) (actuals_stay given)
  term_stays (term.Param n) = refl
