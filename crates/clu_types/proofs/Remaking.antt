-- A term over the numbers of a table, where the parts have numbers there, denotes the type with the actuals put in.
use Rattle.std.proofs.Common.{◌≡◌, ℕ, List, [], ◌∷◌, map, length, Option, None, Some, refl, sym, ap, ◌∙◌, ap₂}
use Rattle.clu_types.specs.CluType.{CluType, array_of, sequence_of, record_of, struct_of, oneof_of, variant_of, proc_of, iter_of, cluster_of, type_and, field_and, signal_and, Actuals, actual_type, actual_const}
use Rattle.clu_types.specs.Actual.{nth}
use Rattle.clu_types.specs.Arena.{types_at, fields_at, signals_at, actual_at, actuals_at, type_of, types_of, AreBelow, FieldsBelow, SignalsBelow, ActualBelow, ActualsBelow, HeadingBelow, PartsBelow}
use Rattle.clu_types.specs.Substituted.{substituted, types_substituted, fields_substituted, signals_substituted, actuals_substituted}
use Rattle.clu_types.specs.Renumbered.{Numbers, number_in, field_in, signal_in, heading_in, constant_by, actual_in, term_in}
use Rattle.clu_types.specs.Carried.{AreAll, FieldsAll, SignalsAll, HeadingAll, ActualAll, ActualsAll, PartsAll, IsMade, Stays}
use Rattle.clu_types.specs.declared.term.TypeId.{TypeId}
use Rattle.clu_types.specs.declared.term.Field.{Field}
use Rattle.clu_types.specs.declared.term.Exception.{Exception}
use Rattle.clu_types.specs.declared.term.Heading.{Heading}
use Rattle.clu_types.specs.declared.term.Actual.{Actual}
use Rattle.clu_types.specs.declared.term.Actual.TheVariants as actual
use Rattle.clu_types.specs.declared.term.Term.{Term}
use Rattle.clu_types.specs.declared.term.Term.TheVariants as term
use Rattle.clu_types.proofs.Equality.{join3}
use Rattle.clu_types.proofs.PutIn.{constant_put-nth, constant_put_by}

constant_within : (m : ℕ) (found : Option Actual) (n : ℕ) → ActualBelow m (constant_by found n)
constant_within m None n = tt
constant_within m (Some (actual.Of id)) n = tt
constant_within m (Some (actual.Const c)) n = tt
constant_within m (Some (actual.ConstParam p)) n = tt

constant_at : (types : List CluType) (found : Option Actual) (n : ℕ) (rest : Actuals) → actual_at types (constant_by found n) rest ≡ constant_put_by found n rest
constant_at types None n rest = refl
constant_at types (Some (actual.Of id)) n rest = refl
constant_at types (Some (actual.Const c)) n rest = refl
constant_at types (Some (actual.ConstParam p)) n rest = refl

module _ (source : List CluType) (given : List Actual) (terms : List Term) (table : Numbers) where
  abbrev types : List CluType
  types = types_of terms

  abbrev put : Actuals
  put = actuals_at (types_of terms) given

  abbrev Made : TypeId → Type 0
  Made = IsMade source put terms table

  -- the parts are numbers of the arena
  ids_within : (ids : List TypeId) → AreAll Made ids → AreBelow (length terms) (map (number_in table) ids)
  ids_within [] h = tt
  ids_within (id ∷ ids) h = (h.0.within, ids_within ids h.1)

  fields_within : (fs : List Field) → FieldsAll Made fs → FieldsBelow (length terms) (map (field_in table) fs)
  fields_within [] h = tt
  fields_within (f ∷ fs) h = (h.0.within, fields_within fs h.1)

  signals_within : (ss : List Exception) → SignalsAll Made ss → SignalsBelow (length terms) (map (signal_in table) ss)
  signals_within [] h = tt
  signals_within (s ∷ ss) h = (ids_within s.objects h.0, signals_within ss h.1)

  heading_within : (h : Heading) → HeadingAll Made h → HeadingBelow (length terms) (heading_in table h)
  heading_within h m = (ids_within h.args m.0, ids_within h.results m.1, signals_within h.signals m.2)

  actual_within : (a : Actual) → ActualAll Made a → ActualBelow (length terms) (actual_in table given a)
  actual_within (actual.Of id) h = h.within
  actual_within (actual.Const c) h = tt
  actual_within (actual.ConstParam n) h = constant_within (length terms) (nth given n) n

  actuals_within : (inner : List Actual) → ActualsAll Made inner → ActualsBelow (length terms) (map (actual_in table given) inner)
  actuals_within [] h = tt
  actuals_within (a ∷ rest) h = (actual_within a h.0, actuals_within rest h.1)

  pub term_within : (t : Term) → PartsAll Made t → PartsBelow (length terms) (term_in table given t)
  term_within term.Null h = tt
  term_within term.Bool h = tt
  term_within term.Int h = tt
  term_within term.Char h = tt
  term_within term.Str h = tt
  term_within term.Any h = tt
  term_within term.Stream h = tt
  term_within (term.Array of) h = h.within
  term_within (term.Sequence of) h = h.within
  term_within (term.Record fs) h = fields_within fs h
  term_within (term.Struct fs) h = fields_within fs h
  term_within (term.Oneof fs) h = fields_within fs h
  term_within (term.Variant fs) h = fields_within fs h
  term_within (term.Proc g) h = heading_within g h
  term_within (term.Iter g) h = heading_within g h
  term_within (term.Cluster name inner) h = actuals_within inner h
  term_within (term.Param n) h = tt

  -- their types are those with the actuals put in
  ids_remade : (ids : List TypeId) → AreAll Made ids → types_at types (map (number_in table) ids) ≡ types_substituted put (types_at source ids)
  ids_remade [] h = refl
  ids_remade (id ∷ ids) h = ap₂ type_and h.0.of_type (ids_remade ids h.1)

  fields_remade : (fs : List Field) → FieldsAll Made fs → fields_at types (map (field_in table) fs) ≡ fields_substituted put (fields_at source fs)
  fields_remade [] h = refl
  fields_remade (f ∷ fs) h = ap₂ (field_and f.name) h.0.of_type (fields_remade fs h.1)

  signals_remade : (ss : List Exception) → SignalsAll Made ss → signals_at types (map (signal_in table) ss) ≡ signals_substituted put (signals_at source ss)
  signals_remade [] h = refl
  signals_remade (s ∷ ss) h = ap₂ (signal_and s.name) (ids_remade s.objects h.0) (signals_remade ss h.1)

  actuals_remade : (inner : List Actual) → ActualsAll Made inner → actuals_at types (map (actual_in table given) inner) ≡ actuals_substituted put (actuals_at source inner)
  actuals_remade [] h = refl
  actuals_remade (actual.Of id ∷ rest) h = ap₂ actual_type h.0.of_type (actuals_remade rest h.1)
  actuals_remade (actual.Const c ∷ rest) h = ap (actual_const c) (actuals_remade rest h.1)
  actuals_remade (actual.ConstParam n ∷ rest) h =
      let behind : Actuals = actuals_substituted put (actuals_at source rest) in
      ap (actual_at types (constant_by (nth given n) n)) (actuals_remade rest h.1)
      ∙ constant_at types (nth given n) n behind
      ∙ sym (constant_put-nth types given n behind (nth given n) refl)

  pub term_remade : (t : Term) → PartsAll Made t → Stays given t → type_of types (term_in table given t) ≡ substituted put (type_of source t)
  term_remade term.Null h s = refl
  term_remade term.Bool h s = refl
  term_remade term.Int h s = refl
  term_remade term.Char h s = refl
  term_remade term.Str h s = refl
  term_remade term.Any h s = refl
  term_remade term.Stream h s = refl
  term_remade (term.Array of) h s = ap array_of h.of_type
  term_remade (term.Sequence of) h s = ap sequence_of h.of_type
  term_remade (term.Record fs) h s = ap record_of (fields_remade fs h)
  term_remade (term.Struct fs) h s = ap struct_of (fields_remade fs h)
  term_remade (term.Oneof fs) h s = ap oneof_of (fields_remade fs h)
  term_remade (term.Variant fs) h s = ap variant_of (fields_remade fs h)
  term_remade (term.Proc g) h s = join3 proc_of (ids_remade g.args h.0) (ids_remade g.results h.1) (signals_remade g.signals h.2)
  term_remade (term.Iter g) h s = join3 iter_of (ids_remade g.args h.0) (ids_remade g.results h.1) (signals_remade g.signals h.2)
  term_remade (term.Cluster name inner) h s = ap (cluster_of name) (actuals_remade inner h)
  term_remade (term.Param n) h s = sym (s types)

-- a term that is no parameter stays
pub other_stays : (given : List Actual) (t : Term) → ((n : ℕ) → t ≡ term.Param n → ⊥) → Stays given t
other_stays given term.Null other = tt
other_stays given term.Bool other = tt
other_stays given term.Int other = tt
other_stays given term.Char other = tt
other_stays given term.Str other = tt
other_stays given term.Any other = tt
other_stays given term.Stream other = tt
other_stays given (term.Array of) other = tt
other_stays given (term.Sequence of) other = tt
other_stays given (term.Record fs) other = tt
other_stays given (term.Struct fs) other = tt
other_stays given (term.Oneof fs) other = tt
other_stays given (term.Variant fs) other = tt
other_stays given (term.Proc g) other = tt
other_stays given (term.Iter g) other = tt
other_stays given (term.Cluster name inner) other = tt
other_stays given (term.Param n) other = absurd (other n refl)
