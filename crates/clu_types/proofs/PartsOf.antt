-- What holds of each part of a term, and of each in the list of its parts.
use Rattle.std.proofs.Common.{ℕ, List, [], ◌∷◌, ◌++◌}
use Rattle.clu_types.specs.Arena.{AreBelow, FieldsBelow, SignalsBelow, ActualBelow, ActualsBelow, HeadingBelow, PartsBelow}
use Rattle.clu_types.specs.PartsOf.{field_parts, signal_parts, heading_parts, actual_part, actual_parts, parts_of}
use Rattle.clu_types.specs.Carried.{AreAll, FieldsAll, SignalsAll, HeadingAll, ActualAll, ActualsAll, PartsAll}
use Rattle.clu_types.specs.declared.term.TypeId.{TypeId}
use Rattle.clu_types.specs.declared.term.Field.{Field}
use Rattle.clu_types.specs.declared.term.Exception.{Exception}
use Rattle.clu_types.specs.declared.term.Heading.{Heading}
use Rattle.clu_types.specs.declared.term.Actual.{Actual}
use Rattle.clu_types.specs.declared.term.Actual.TheVariants as actual
use Rattle.clu_types.specs.declared.term.Term.{Term}
use Rattle.clu_types.specs.declared.term.Term.TheVariants as term

module _ (P : TypeId → Type 0) where
  all_front : (xs ys : List TypeId) → AreAll P (xs ++ ys) → AreAll P xs
  all_front [] ys h = tt
  all_front (x ∷ xs) ys h = (h.0, all_front xs ys h.1)

  all_behind : (xs ys : List TypeId) → AreAll P (xs ++ ys) → AreAll P ys
  all_behind [] ys h = h
  all_behind (x ∷ xs) ys h = all_behind xs ys h.1

  pub all_joined : (xs ys : List TypeId) → AreAll P xs → AreAll P ys → AreAll P (xs ++ ys)
  all_joined [] ys h k = k
  all_joined (x ∷ xs) ys h k = (h.0, all_joined xs ys h.1 k)

  fields_all : (fs : List Field) → AreAll P (field_parts fs) → FieldsAll P fs
  fields_all [] h = tt
  fields_all (f ∷ fs) h = (h.0, fields_all fs h.1)

  signals_all : (ss : List Exception) → AreAll P (signal_parts ss) → SignalsAll P ss
  signals_all [] h = tt
  signals_all (s ∷ ss) h = (all_front s.objects (signal_parts ss) h, signals_all ss (all_behind s.objects (signal_parts ss) h))

  heading_all : (h : Heading) → AreAll P (heading_parts h) → HeadingAll P h
  heading_all h all =
      let front = all_front (h.args ++ h.results) (signal_parts h.signals) all in
      (all_front h.args h.results front, all_behind h.args h.results front, signals_all h.signals (all_behind (h.args ++ h.results) (signal_parts h.signals) all))

  actual_all : (a : Actual) → AreAll P (actual_part a) → ActualAll P a
  actual_all (actual.Of id) h = h.0
  actual_all (actual.Const c) h = tt
  actual_all (actual.ConstParam n) h = tt

  actuals_all : (given : List Actual) → AreAll P (actual_parts given) → ActualsAll P given
  actuals_all [] h = tt
  actuals_all (a ∷ rest) h = (actual_all a (all_front (actual_part a) (actual_parts rest) h), actuals_all rest (all_behind (actual_part a) (actual_parts rest) h))

  pub parts_all : (t : Term) → AreAll P (parts_of t) → PartsAll P t
  parts_all term.Null h = tt
  parts_all term.Bool h = tt
  parts_all term.Int h = tt
  parts_all term.Char h = tt
  parts_all term.Str h = tt
  parts_all term.Any h = tt
  parts_all term.Stream h = tt
  parts_all (term.Array of) h = h.0
  parts_all (term.Sequence of) h = h.0
  parts_all (term.Record fs) h = fields_all fs h
  parts_all (term.Struct fs) h = fields_all fs h
  parts_all (term.Oneof fs) h = fields_all fs h
  parts_all (term.Variant fs) h = fields_all fs h
  parts_all (term.Proc g) h = heading_all g h
  parts_all (term.Iter g) h = heading_all g h
  parts_all (term.Cluster name given) h = actuals_all given h
  parts_all (term.Param n) h = tt

module _ (n : ℕ) where
  below_joined : (xs ys : List TypeId) → AreBelow n xs → AreBelow n ys → AreBelow n (xs ++ ys)
  below_joined [] ys h k = k
  below_joined (x ∷ xs) ys h k = (h.0, below_joined xs ys h.1 k)

  fields_below : (fs : List Field) → FieldsBelow n fs → AreBelow n (field_parts fs)
  fields_below [] b = tt
  fields_below (f ∷ fs) b = (b.0, fields_below fs b.1)

  signals_below : (ss : List Exception) → SignalsBelow n ss → AreBelow n (signal_parts ss)
  signals_below [] b = tt
  signals_below (s ∷ ss) b = below_joined s.objects (signal_parts ss) b.0 (signals_below ss b.1)

  heading_below : (h : Heading) → HeadingBelow n h → AreBelow n (heading_parts h)
  heading_below h b = below_joined (h.args ++ h.results) (signal_parts h.signals) (below_joined h.args h.results b.0 b.1) (signals_below h.signals b.2)

  actual_below : (a : Actual) → ActualBelow n a → AreBelow n (actual_part a)
  actual_below (actual.Of id) b = (b, tt)
  actual_below (actual.Const c) b = tt
  actual_below (actual.ConstParam p) b = tt

  actuals_below : (given : List Actual) → ActualsBelow n given → AreBelow n (actual_parts given)
  actuals_below [] b = tt
  actuals_below (a ∷ rest) b = below_joined (actual_part a) (actual_parts rest) (actual_below a b.0) (actuals_below rest b.1)

  pub parts_below : (t : Term) → PartsBelow n t → AreBelow n (parts_of t)
  parts_below term.Null b = tt
  parts_below term.Bool b = tt
  parts_below term.Int b = tt
  parts_below term.Char b = tt
  parts_below term.Str b = tt
  parts_below term.Any b = tt
  parts_below term.Stream b = tt
  parts_below (term.Array of) b = (b, tt)
  parts_below (term.Sequence of) b = (b, tt)
  parts_below (term.Record fs) b = fields_below fs b
  parts_below (term.Struct fs) b = fields_below fs b
  parts_below (term.Oneof fs) b = fields_below fs b
  parts_below (term.Variant fs) b = fields_below fs b
  parts_below (term.Proc h) b = heading_below h b
  parts_below (term.Iter h) b = heading_below h b
  parts_below (term.Cluster name given) b = actuals_below given b
  parts_below (term.Param p) b = tt
