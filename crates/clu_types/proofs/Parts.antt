-- The type of a term and its parts: it depends on their types alone, and it gives them back.
use Rattle.std.proofs.Common.{◌≡◌, ℕ, ◌<◌, ◌≤◌, List, [], ◌∷◌, refl, ap, arith, ap₂}
use Rattle.clu_types.specs.CluType.{CluType, Actuals}
use Rattle.clu_types.specs.Arena.{type_at, types_at, fields_at, signals_at, actual_at, actuals_at, type_of, AreBelow, FieldsBelow, SignalsBelow, ActualBelow, ActualsBelow, HeadingBelow, PartsBelow}
use Rattle.clu_types.specs.declared.term.TypeId.{TypeId}
use Rattle.clu_types.specs.declared.term.Field.{Field}
use Rattle.clu_types.specs.declared.term.Exception.{Exception}
use Rattle.clu_types.specs.declared.term.Heading.{Heading}
use Rattle.clu_types.specs.declared.term.Actual.{Actual}
use Rattle.clu_types.specs.declared.term.Actual.TheVariants as actual
use Rattle.clu_types.specs.declared.term.Term.{Term}
use Rattle.clu_types.specs.declared.term.Term.TheVariants as term
use Rattle.clu_types.proofs.Equality.{join3}

-- what is below m is below a greater n
module _ (m n : ℕ) (le : m ≤ n) where
  pub ids_more : (ids : List TypeId) → AreBelow m ids → AreBelow n ids
  ids_more [] b = tt
  ids_more (id ∷ ids) b = (omega arith, ids_more ids b.1)

  pub fields_more : (fs : List Field) → FieldsBelow m fs → FieldsBelow n fs
  fields_more [] b = tt
  fields_more (f ∷ fs) b = (omega arith, fields_more fs b.1)

  pub signals_more : (ss : List Exception) → SignalsBelow m ss → SignalsBelow n ss
  signals_more [] b = tt
  signals_more (s ∷ ss) b = (ids_more s.objects b.0, signals_more ss b.1)

  actual_more : (a : Actual) → ActualBelow m a → ActualBelow n a
  actual_more (actual.Of id) b = omega arith
  actual_more (actual.Const c) b = tt
  actual_more (actual.ConstParam p) b = tt

  pub actuals_more : (given : List Actual) → ActualsBelow m given → ActualsBelow n given
  actuals_more [] b = tt
  actuals_more (a ∷ rest) b = (actual_more a b.0, actuals_more rest b.1)

  heading_more : (h : Heading) → HeadingBelow m h → HeadingBelow n h
  heading_more h b = (ids_more h.args b.0, ids_more h.results b.1, signals_more h.signals b.2)

  pub parts_more : (t : Term) → PartsBelow m t → PartsBelow n t
  parts_more term.Null b = tt
  parts_more term.Bool b = tt
  parts_more term.Int b = tt
  parts_more term.Char b = tt
  parts_more term.Str b = tt
  parts_more term.Any b = tt
  parts_more term.Stream b = tt
  parts_more (term.Array of) b = omega arith
  parts_more (term.Sequence of) b = omega arith
  parts_more (term.Record fs) b = fields_more fs b
  parts_more (term.Struct fs) b = fields_more fs b
  parts_more (term.Oneof fs) b = fields_more fs b
  parts_more (term.Variant fs) b = fields_more fs b
  parts_more (term.Proc h) b = heading_more h b
  parts_more (term.Iter h) b = heading_more h b
  parts_more (term.Cluster name given) b = actuals_more given b
  parts_more (term.Param p) b = tt

-- two lists of types that agree below n read the parts below n alike
module _ (ks ls : List CluType) (n : ℕ) (same : (id : TypeId) → id.0 < n → type_at ks id ≡ type_at ls id) where
  pub types_same : (ids : List TypeId) → AreBelow n ids → types_at ks ids ≡ types_at ls ids
  types_same [] b = refl
  types_same (id ∷ ids) b = let h = same id b.0 in let t = types_same ids b.1 in cc

  pub fields_same : (fs : List Field) → FieldsBelow n fs → fields_at ks fs ≡ fields_at ls fs
  fields_same [] b = refl
  fields_same (f ∷ fs) b = let h = same f.of b.0 in let t = fields_same fs b.1 in cc

  pub signals_same : (ss : List Exception) → SignalsBelow n ss → signals_at ks ss ≡ signals_at ls ss
  signals_same [] b = refl
  signals_same (s ∷ ss) b = let h = types_same s.objects b.0 in let t = signals_same ss b.1 in cc

  actual_same : (a : Actual) (rest more : Actuals) → ActualBelow n a → rest ≡ more → actual_at ks a rest ≡ actual_at ls a more
  actual_same (actual.Of id) rest more b e = let h = same id b in cc
  actual_same (actual.Const c) rest more b e = cc
  actual_same (actual.ConstParam p) rest more b e = cc

  pub actuals_same : (given : List Actual) → ActualsBelow n given → actuals_at ks given ≡ actuals_at ls given
  actuals_same [] b = refl
  actuals_same (a ∷ rest) b = actual_same a _ _ b.0 (actuals_same rest b.1)

  pub type_same : (t : Term) → PartsBelow n t → type_of ks t ≡ type_of ls t
  type_same term.Null b = refl
  type_same term.Bool b = refl
  type_same term.Int b = refl
  type_same term.Char b = refl
  type_same term.Str b = refl
  type_same term.Any b = refl
  type_same term.Stream b = refl
  type_same (term.Array of) b = let h = same of b in cc
  type_same (term.Sequence of) b = let h = same of b in cc
  type_same (term.Record fs) b = let h = fields_same fs b in cc
  type_same (term.Struct fs) b = let h = fields_same fs b in cc
  type_same (term.Oneof fs) b = let h = fields_same fs b in cc
  type_same (term.Variant fs) b = let h = fields_same fs b in cc
  type_same (term.Proc h) b = let x = types_same h.args b.0 in let y = types_same h.results b.1 in let z = signals_same h.signals b.2 in cc
  type_same (term.Iter h) b = let x = types_same h.args b.0 in let y = types_same h.results b.1 in let z = signals_same h.signals b.2 in cc
  type_same (term.Cluster name given) b = let h = actuals_same given b in cc
  type_same (term.Param p) b = refl

-- where different numbers below n have different types, types give the parts below n back
module _ (ks : List CluType) (n : ℕ) (distinct : (a b : TypeId) → a.0 < n → b.0 < n → type_at ks a ≡ type_at ks b → a ≡ b) where
  pub ids_back : (xs ys : List TypeId) → AreBelow n xs → AreBelow n ys → types_at ks xs ≡ types_at ks ys → xs ≡ ys
  ids_back [] [] p q e = refl
  ids_back (x ∷ xs) (y ∷ ys) p q e = ap₂ (λ (x : TypeId) (xs : List TypeId). x ∷ xs) (distinct x y p.0 q.0 cc) (ids_back xs ys p.1 q.1 cc)
  ids_back [] (y ∷ ys) p q e = cc
  ids_back (x ∷ xs) [] p q e = cc

  field_back : (f g : Field) → f.of.0 < n → g.of.0 < n → f.name ≡ g.name → type_at ks f.of ≡ type_at ks g.of → f ≡ g
  field_back f g p q e h = ap₂ (λ (x : List ℕ) (i : TypeId). let f : Field = record { name = x; of = i } in f) e (distinct f.of g.of p q h)

  fields_back : (xs ys : List Field) → FieldsBelow n xs → FieldsBelow n ys → fields_at ks xs ≡ fields_at ks ys → xs ≡ ys
  fields_back [] [] p q e = refl
  fields_back (x ∷ xs) (y ∷ ys) p q e = ap₂ (λ (x : Field) (xs : List Field). x ∷ xs) (field_back x y p.0 q.0 (cc) (cc)) (fields_back xs ys p.1 q.1 cc)
  fields_back [] (y ∷ ys) p q e = cc
  fields_back (x ∷ xs) [] p q e = cc

  pub signal_back : (s t : Exception) → AreBelow n s.objects → AreBelow n t.objects → s.name ≡ t.name → types_at ks s.objects ≡ types_at ks t.objects → s ≡ t
  signal_back s t p q e h =
      ap₂ (λ (x : List ℕ) (ids : List TypeId). let s : Exception = record { name = x; objects = ids } in s) e (ids_back s.objects t.objects p q h)

  pub signals_back : (xs ys : List Exception) → SignalsBelow n xs → SignalsBelow n ys → signals_at ks xs ≡ signals_at ks ys → xs ≡ ys
  signals_back [] [] p q e = refl
  signals_back (x ∷ xs) (y ∷ ys) p q e = ap₂ (λ (x : Exception) (xs : List Exception). x ∷ xs) (signal_back x y p.0 q.0 (cc) (cc)) (signals_back xs ys p.1 q.1 cc)
  signals_back [] (y ∷ ys) p q e = cc
  signals_back (x ∷ xs) [] p q e = cc

  actual_back : (a b : Actual) (rest more : Actuals) → ActualBelow n a → ActualBelow n b → actual_at ks a rest ≡ actual_at ks b more → (a ≡ b) × (rest ≡ more)
  actual_back (actual.Of a) (actual.Of b) rest more p q e = (ap actual.Of (distinct a b p q cc), cc)
  actual_back (actual.Const a) (actual.Const b) rest more p q e = (cc, cc)
  actual_back (actual.ConstParam a) (actual.ConstParam b) rest more p q e = (cc, cc)
  actual_back _ _ rest more p q e = cc

  actuals_back : (xs ys : List Actual) → ActualsBelow n xs → ActualsBelow n ys → actuals_at ks xs ≡ actuals_at ks ys → xs ≡ ys
  actuals_back [] [] p q e = refl
  actuals_back (x ∷ xs) (y ∷ ys) p q e =
      let h = actual_back x y (actuals_at ks xs) (actuals_at ks ys) p.0 q.0 e in
      ap₂ (λ (x : Actual) (xs : List Actual). x ∷ xs) h.0 (actuals_back xs ys p.1 q.1 h.1)
  actuals_back [] (actual.Of y ∷ ys) p q e = cc
  actuals_back [] (actual.Const y ∷ ys) p q e = cc
  actuals_back [] (actual.ConstParam y ∷ ys) p q e = cc
  actuals_back (actual.Of x ∷ xs) [] p q e = cc
  actuals_back (actual.Const x ∷ xs) [] p q e = cc
  actuals_back (actual.ConstParam x ∷ xs) [] p q e = cc

  heading_back : (g h : Heading) → HeadingBelow n g → HeadingBelow n h → types_at ks g.args ≡ types_at ks h.args → types_at ks g.results ≡ types_at ks h.results
      → signals_at ks g.signals ≡ signals_at ks h.signals → g ≡ h
  heading_back g h p q x y z =
      join3 (λ (xs ys : List TypeId) (ss : List Exception). let h : Heading = record { args = xs; results = ys; signals = ss } in h)
      (ids_back g.args h.args p.0 q.0 x) (ids_back g.results h.results p.1 q.1 y) (signals_back g.signals h.signals p.2 q.2 z)

  pub term_back : (s t : Term) → PartsBelow n s → PartsBelow n t → type_of ks s ≡ type_of ks t → s ≡ t
  term_back term.Null term.Null p q e = refl
  term_back term.Bool term.Bool p q e = refl
  term_back term.Int term.Int p q e = refl
  term_back term.Char term.Char p q e = refl
  term_back term.Str term.Str p q e = refl
  term_back term.Any term.Any p q e = refl
  term_back term.Stream term.Stream p q e = refl
  term_back (term.Array a) (term.Array b) p q e = ap term.Array (distinct a b p q cc)
  term_back (term.Sequence a) (term.Sequence b) p q e = ap term.Sequence (distinct a b p q cc)
  term_back (term.Record a) (term.Record b) p q e = ap term.Record (fields_back a b p q cc)
  term_back (term.Struct a) (term.Struct b) p q e = ap term.Struct (fields_back a b p q cc)
  term_back (term.Oneof a) (term.Oneof b) p q e = ap term.Oneof (fields_back a b p q cc)
  term_back (term.Variant a) (term.Variant b) p q e = ap term.Variant (fields_back a b p q cc)
  term_back (term.Proc a) (term.Proc b) p q e = ap term.Proc (heading_back a b p q (cc) (cc) (cc))
  term_back (term.Iter a) (term.Iter b) p q e = ap term.Iter (heading_back a b p q (cc) (cc) (cc))
  term_back (term.Cluster a xs) (term.Cluster b ys) p q e = let h : a ≡ b = cc in ap₂ term.Cluster h (actuals_back xs ys p q cc)
  term_back (term.Param a) (term.Param b) p q e = cc
  term_back _ _ p q e = cc
