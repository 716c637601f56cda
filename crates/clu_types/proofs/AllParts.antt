-- What holds of all parts of a term.
use Rattle.std.proofs.Common.{ℕ, ◌<◌, List, [], ◌∷◌}
use Rattle.clu_types.specs.Arena.{AreBelow, FieldsBelow, SignalsBelow, ActualBelow, ActualsBelow, HeadingBelow, PartsBelow}
use Rattle.clu_types.specs.Carried.{AreAll, FieldsAll, SignalsAll, HeadingAll, ActualAll, ActualsAll, PartsAll}
use Rattle.clu_types.specs.declared.term.TypeId.{TypeId}
use Rattle.clu_types.specs.declared.term.Field.{Field}
use Rattle.clu_types.specs.declared.term.Exception.{Exception}
use Rattle.clu_types.specs.declared.term.Heading.{Heading}
use Rattle.clu_types.specs.declared.term.Actual.{Actual}
use Rattle.clu_types.specs.declared.term.Actual.TheVariants as actual
use Rattle.clu_types.specs.declared.term.Term.{Term}
use Rattle.clu_types.specs.declared.term.Term.TheVariants as term

-- two facts of each part give a third
module _ (P Q R : TypeId → Type 0) (both : (id : TypeId) → P id → Q id → R id) where
  ids_both : (ids : List TypeId) → AreAll P ids → AreAll Q ids → AreAll R ids
  ids_both [] p q = tt
  ids_both (id ∷ ids) p q = (both id p.0 q.0, ids_both ids p.1 q.1)

  fields_both : (fs : List Field) → FieldsAll P fs → FieldsAll Q fs → FieldsAll R fs
  fields_both [] p q = tt
  fields_both (f ∷ fs) p q = (both f.of p.0 q.0, fields_both fs p.1 q.1)

  signals_both : (ss : List Exception) → SignalsAll P ss → SignalsAll Q ss → SignalsAll R ss
  signals_both [] p q = tt
  signals_both (s ∷ ss) p q = (ids_both s.objects p.0 q.0, signals_both ss p.1 q.1)

  heading_both : (h : Heading) → HeadingAll P h → HeadingAll Q h → HeadingAll R h
  heading_both h p q = (ids_both h.args p.0 q.0, ids_both h.results p.1 q.1, signals_both h.signals p.2 q.2)

  actual_both : (a : Actual) → ActualAll P a → ActualAll Q a → ActualAll R a
  actual_both (actual.Of id) p q = both id p q
  actual_both (actual.Const c) p q = tt
  actual_both (actual.ConstParam n) p q = tt

  actuals_both : (given : List Actual) → ActualsAll P given → ActualsAll Q given → ActualsAll R given
  actuals_both [] p q = tt
  actuals_both (a ∷ rest) p q = (actual_both a p.0 q.0, actuals_both rest p.1 q.1)

  pub parts_both : (t : Term) → PartsAll P t → PartsAll Q t → PartsAll R t
  parts_both term.Null p q = tt
  parts_both term.Bool p q = tt
  parts_both term.Int p q = tt
  parts_both term.Char p q = tt
  parts_both term.Str p q = tt
  parts_both term.Any p q = tt
  parts_both term.Stream p q = tt
  parts_both (term.Array of) p q = both of p q
  parts_both (term.Sequence of) p q = both of p q
  parts_both (term.Record fs) p q = fields_both fs p q
  parts_both (term.Struct fs) p q = fields_both fs p q
  parts_both (term.Oneof fs) p q = fields_both fs p q
  parts_both (term.Variant fs) p q = fields_both fs p q
  parts_both (term.Proc h) p q = heading_both h p q
  parts_both (term.Iter h) p q = heading_both h p q
  parts_both (term.Cluster name given) p q = actuals_both given p q
  parts_both (term.Param n) p q = tt

-- a fact of all numbers below n holds of the parts below n
module _ (n : ℕ) (P : TypeId → Type 0) (known : (id : TypeId) → id.0 < n → P id) where
  pub ids_known : (ids : List TypeId) → AreBelow n ids → AreAll P ids
  ids_known [] b = tt
  ids_known (id ∷ ids) b = (known id b.0, ids_known ids b.1)

  fields_known : (fs : List Field) → FieldsBelow n fs → FieldsAll P fs
  fields_known [] b = tt
  fields_known (f ∷ fs) b = (known f.of b.0, fields_known fs b.1)

  signals_known : (ss : List Exception) → SignalsBelow n ss → SignalsAll P ss
  signals_known [] b = tt
  signals_known (s ∷ ss) b = (ids_known s.objects b.0, signals_known ss b.1)

  heading_known : (h : Heading) → HeadingBelow n h → HeadingAll P h
  heading_known h b = (ids_known h.args b.0, ids_known h.results b.1, signals_known h.signals b.2)

  actual_known : (a : Actual) → ActualBelow n a → ActualAll P a
  actual_known (actual.Of id) b = known id b
  actual_known (actual.Const c) b = tt
  actual_known (actual.ConstParam p) b = tt

  actuals_known : (given : List Actual) → ActualsBelow n given → ActualsAll P given
  actuals_known [] b = tt
  actuals_known (a ∷ rest) b = (actual_known a b.0, actuals_known rest b.1)

  pub parts_known : (t : Term) → PartsBelow n t → PartsAll P t
  parts_known term.Null b = tt
  parts_known term.Bool b = tt
  parts_known term.Int b = tt
  parts_known term.Char b = tt
  parts_known term.Str b = tt
  parts_known term.Any b = tt
  parts_known term.Stream b = tt
  parts_known (term.Array of) b = known of b
  parts_known (term.Sequence of) b = known of b
  parts_known (term.Record fs) b = fields_known fs b
  parts_known (term.Struct fs) b = fields_known fs b
  parts_known (term.Oneof fs) b = fields_known fs b
  parts_known (term.Variant fs) b = fields_known fs b
  parts_known (term.Proc h) b = heading_known h b
  parts_known (term.Iter h) b = heading_known h b
  parts_known (term.Cluster name given) b = actuals_known given b
  parts_known (term.Param p) b = tt
