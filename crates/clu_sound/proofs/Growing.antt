-- Lists of numbers that grow by the parts of types.
use Rattle.std.proofs.Common.{◌≡◌, ◌⊎◌, inl, inr, ℕ, ◌==◌, ◌<◌, Bool, true, false, cond, List, [], ◌∷◌, ◌++◌, Contains, fold, refl, sym, ap, ◌∙◌, subst, append_assoc}
use Rattle.std.specs.List.{list_any}
use Rattle.std.proofs.lemmas.List.{append-nil}
use Rattle.std.proofs.lemmas.List.Sums.{fold-append}
use Rattle.std.proofs.lemmas.List.Elements.{Contains-append_left, Contains-push, Contains-push_cases}
use Rattle.indexmap.proofs.CallerLemmas.{Contains-list_any}
use Rattle.clu_base.proofs.Lists.{head_or_tail, in_head, in_tail, in_none}
use Rattle.clu_types.specs.Arena.{AreBelow, FieldsBelow, SignalsBelow, ActualsBelow, HeadingBelow, PartsBelow}
use Rattle.clu_types.specs.declared.spec.Demand.{Demand}
use Rattle.clu_types.specs.declared.spec.OpSpec.{OpSpec}
use Rattle.clu_types.specs.declared.term.TypeId.{TypeId}
use Rattle.clu_types.specs.declared.term.Field.{Field}
use Rattle.clu_types.specs.declared.term.Exception.{Exception}
use Rattle.clu_types.specs.declared.term.Heading.{Heading}
use Rattle.clu_types.specs.declared.term.Actual.{Actual}
use Rattle.clu_types.specs.declared.term.Actual.TheVariants as actual
use Rattle.clu_types.specs.declared.term.Term.{Term}
use Rattle.clu_types.specs.declared.term.Term.TheVariants as term
use Rattle.clu_types.proofs.Equality.{same_id}
use Rattle.clu_specs.specs.Specifications.{DemandsBelow, OpBelow}
use Rattle.clu_sound.specs.Parts.{field_types, object_types, type_actuals, heading_types, wanted_types, op_types, part_types, with_id, with_field, with_objects, with_actual, with_heading, with_wanted, with_op, with_parts}

-- ---- a list with some is one with the numbers of their types

fields_folded : (ids : List TypeId) (fs : List Field) → fold with_field ids fs ≡ fold with_id ids (field_types fs)
fields_folded ids [] = refl
fields_folded ids (f ∷ fs) = fields_folded (with_id ids f.of) fs

wanted_folded : (ids : List TypeId) (ds : List Demand) → fold with_wanted ids ds ≡ fold with_id ids (wanted_types ds)
wanted_folded ids [] = refl
wanted_folded ids (d ∷ ds) = wanted_folded (with_id ids d.wanted) ds

objects_folded : (ids : List TypeId) (ss : List Exception) → fold with_objects ids ss ≡ fold with_id ids (object_types ss)
objects_folded ids [] = refl
objects_folded ids (s ∷ ss) = objects_folded (fold with_id ids s.objects) ss ∙ sym (fold-append with_id ids s.objects (object_types ss))

actuals_folded : (ids : List TypeId) (given : List Actual) → fold with_actual ids given ≡ fold with_id ids (type_actuals given)
actuals_folded ids [] = refl
actuals_folded ids (actual.Of id ∷ rest) = actuals_folded (with_id ids id) rest
actuals_folded ids (actual.Const c ∷ rest) = actuals_folded ids rest
actuals_folded ids (actual.ConstParam n ∷ rest) = actuals_folded ids rest

heading_folded : (ids : List TypeId) (h : Heading) → with_heading ids h ≡ fold with_id ids (heading_types h)
heading_folded ids h =
    objects_folded (fold with_id (fold with_id ids h.args) h.results) h.signals
    ∙ sym (fold-append with_id (fold with_id ids h.args) h.results (object_types h.signals))
    ∙ sym (fold-append with_id ids h.args (h.results ++ object_types h.signals))

pub op_folded : (ids : List TypeId) (o : OpSpec) → with_op ids o ≡ fold with_id ids (op_types o)
op_folded ids o =
    wanted_folded (with_heading ids o.heading) o.demands
    ∙ ap (λ (l : List TypeId). fold with_id l (wanted_types o.demands)) (heading_folded ids o.heading)
    ∙ sym (fold-append with_id ids (heading_types o.heading) (wanted_types o.demands))

pub demands_folded : (ids : List TypeId) (ds : List Demand) → fold with_wanted ids ds ≡ fold with_id ids (wanted_types ds)
demands_folded ids ds = wanted_folded ids ds

pub parts_folded : (ids : List TypeId) (t : Term) → with_parts ids t ≡ fold with_id ids (part_types t)
parts_folded ids term.Null = refl
parts_folded ids term.Bool = refl
parts_folded ids term.Int = refl
parts_folded ids term.Char = refl
parts_folded ids term.Str = refl
parts_folded ids term.Any = refl
parts_folded ids term.Stream = refl
parts_folded ids (term.Array of) = refl
parts_folded ids (term.Sequence of) = refl
parts_folded ids (term.Record fs) = fields_folded ids fs
parts_folded ids (term.Struct fs) = fields_folded ids fs
parts_folded ids (term.Oneof fs) = fields_folded ids fs
parts_folded ids (term.Variant fs) = fields_folded ids fs
parts_folded ids (term.Proc h) = heading_folded ids h
parts_folded ids (term.Iter h) = heading_folded ids h
parts_folded ids (term.Cluster name given) = actuals_folded ids given
parts_folded ids (term.Param n) = refl

-- ---- how a list changes with one number

abbrev is_same : TypeId → TypeId → Bool
is_same a b = a.0 == b.0

same_numbers : (a b : TypeId) → is_same a b ≡ true → a ≡ b
same_numbers a b e = (same_id a b).0 e

module _ (ids : List TypeId) (id : TypeId) where
  one_front : (more : List TypeId) × (with_id ids id ≡ ids ++ more)
  one_front = by (list_any (is_same id) ids)
    where
      by : (b : Bool) → (more : List TypeId) × (cond b ids (ids ++ id ∷ []) ≡ ids ++ more)
      by true = ([], sym (append-nil ids))
      by false = (id ∷ [], refl)

  one_here : Contains (with_id ids id) id
  one_here = by (list_any (is_same id) ids) refl
    where
      by : (b : Bool) → list_any (is_same id) ids ≡ b → Contains (cond b ids (ids ++ id ∷ [])) id
      by true e = Contains-list_any is_same same_numbers ids id e
      by false e = Contains-push ids id

  one_from : (p : TypeId) → Contains (with_id ids id) p → Contains ids p ⊎ (id ≡ p)
  one_from p = by (list_any (is_same id) ids)
    where
      by : (b : Bool) → Contains (cond b ids (ids ++ id ∷ [])) p → Contains ids p ⊎ (id ≡ p)
      by true h = inl h
      by false h = Contains-push_cases ids id p h

-- ---- and with many

pub all_front : (ids more : List TypeId) → (rest : List TypeId) × (fold with_id ids more ≡ ids ++ rest)
all_front ids [] = ([], sym (append-nil ids))
all_front ids (x ∷ xs) = both (one_front ids x) (all_front (with_id ids x) xs)
  where
    both : (a : List TypeId) × (with_id ids x ≡ ids ++ a) → (b : List TypeId) × (fold with_id (with_id ids x) xs ≡ with_id ids x ++ b) → (rest : List TypeId) × (fold with_id (with_id ids x) xs ≡ ids ++ rest)
    both a b = (a.0 ++ b.0, b.1 ∙ ap (λ (l : List TypeId). l ++ b.0) a.1 ∙ append_assoc ids a.0 b.0)

pub all_kept : (ids more : List TypeId) (p : TypeId) → Contains ids p → Contains (fold with_id ids more) p
all_kept ids more p h = let front = all_front ids more in subst (λ (l : List TypeId). Contains l p) (sym front.1) (Contains-append_left ids front.0 p h)

pub all_here : (ids more : List TypeId) (p : TypeId) → Contains more p → Contains (fold with_id ids more) p
all_here ids [] p h = in_none p h
all_here ids (x ∷ xs) p h = by (head_or_tail x xs p h) (all_here (with_id ids x) xs p)
  where
    by : (x ≡ p) ⊎ Contains xs p → (Contains xs p → Contains (fold with_id (with_id ids x) xs) p) → Contains (fold with_id (with_id ids x) xs) p
    by (inl is) later = all_kept (with_id ids x) xs p (subst (λ (q : TypeId). Contains (with_id ids x) q) is (one_here ids x))
    by (inr there) later = later there

pub all_from : (ids more : List TypeId) (p : TypeId) → Contains (fold with_id ids more) p → Contains ids p ⊎ Contains more p
all_from ids [] p h = inl h
all_from ids (x ∷ xs) p h = by (all_from (with_id ids x) xs p h)
  where
    first : Contains ids p ⊎ (x ≡ p) → Contains ids p ⊎ Contains (x ∷ xs) p
    first (inl there) = inl there
    first (inr is) = inr (in_head x xs p is)

    by : Contains (with_id ids x) p ⊎ Contains xs p → Contains ids p ⊎ Contains (x ∷ xs) p
    by (inl there) = first (one_from ids x p there)
    by (inr there) = inr (in_tail x xs p there)

-- ---- below

pub below_in : (n : ℕ) (ids : List TypeId) (p : TypeId) → AreBelow n ids → Contains ids p → p.0 < n
below_in n [] p b h = in_none p h
below_in n (x ∷ xs) p b h = by (head_or_tail x xs p h) (below_in n xs p b.1)
  where
    by : (x ≡ p) ⊎ Contains xs p → (Contains xs p → p.0 < n) → p.0 < n
    by (inl is) later = subst (λ (q : TypeId). q.0 < n) is b.0
    by (inr there) later = later there

pub below_each : (n : ℕ) (ids : List TypeId) → ((p : TypeId) → Contains ids p → p.0 < n) → AreBelow n ids
below_each n [] h = tt
below_each n (x ∷ xs) h = (h x (in_head x xs x refl), below_each n xs (λ p c. h p (in_tail x xs p c)))

pub below_all : (n : ℕ) (ids more : List TypeId) → AreBelow n ids → AreBelow n more → AreBelow n (fold with_id ids more)
below_all n ids more a b = below_each n (fold with_id ids more) (λ p c. by p (all_from ids more p c))
  where
    by : (p : TypeId) → Contains ids p ⊎ Contains more p → p.0 < n
    by p (inl h) = below_in n ids p a h
    by p (inr h) = below_in n more p b h

both_below : (n : ℕ) (xs ys : List TypeId) → AreBelow n xs → AreBelow n ys → AreBelow n (xs ++ ys)
both_below n [] ys a b = b
both_below n (x ∷ xs) ys a b = (a.0, both_below n xs ys a.1 b)

fields_below : (n : ℕ) (fs : List Field) → FieldsBelow n fs → AreBelow n (field_types fs)
fields_below n [] b = tt
fields_below n (f ∷ fs) b = (b.0, fields_below n fs b.1)

objects_below : (n : ℕ) (ss : List Exception) → SignalsBelow n ss → AreBelow n (object_types ss)
objects_below n [] b = tt
objects_below n (s ∷ ss) b = both_below n s.objects (object_types ss) b.0 (objects_below n ss b.1)

actuals_below : (n : ℕ) (given : List Actual) → ActualsBelow n given → AreBelow n (type_actuals given)
actuals_below n [] b = tt
actuals_below n (actual.Of id ∷ rest) b = (b.0, actuals_below n rest b.1)
actuals_below n (actual.Const c ∷ rest) b = actuals_below n rest b.1
actuals_below n (actual.ConstParam p ∷ rest) b = actuals_below n rest b.1

heading_below : (n : ℕ) (h : Heading) → HeadingBelow n h → AreBelow n (heading_types h)
heading_below n h b = both_below n h.args (h.results ++ object_types h.signals) b.0 (both_below n h.results (object_types h.signals) b.1 (objects_below n h.signals b.2))

pub wanted_below : (n : ℕ) (ds : List Demand) → DemandsBelow n ds → AreBelow n (wanted_types ds)
wanted_below n [] b = tt
wanted_below n (d ∷ ds) b = (b.0, wanted_below n ds b.1)

pub op_below : (n : ℕ) (o : OpSpec) → OpBelow n o → AreBelow n (op_types o)
op_below n o b = both_below n (heading_types o.heading) (wanted_types o.demands) (heading_below n o.heading b.0) (wanted_below n o.demands b.1)

pub parts_below : (n : ℕ) (t : Term) → PartsBelow n t → AreBelow n (part_types t)
parts_below n term.Null b = tt
parts_below n term.Bool b = tt
parts_below n term.Int b = tt
parts_below n term.Char b = tt
parts_below n term.Str b = tt
parts_below n term.Any b = tt
parts_below n term.Stream b = tt
parts_below n (term.Array of) b = (b, tt)
parts_below n (term.Sequence of) b = (b, tt)
parts_below n (term.Record fs) b = fields_below n fs b
parts_below n (term.Struct fs) b = fields_below n fs b
parts_below n (term.Oneof fs) b = fields_below n fs b
parts_below n (term.Variant fs) b = fields_below n fs b
parts_below n (term.Proc h) b = heading_below n h b
parts_below n (term.Iter h) b = heading_below n h b
parts_below n (term.Cluster name given) b = actuals_below n given b
parts_below n (term.Param p) b = tt
