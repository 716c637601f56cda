-- Lists that a reader makes while its arena grows.
use Rattle.std.proofs.Common.{ℕ, zero, suc, get_or, ◌<◌, ◌≤◌, List, [], ◌∷◌, ◌++◌, length, arith}
use Rattle.clu_types.specs.Arena.{AreBelow, FieldsBelow, SignalsBelow, ActualBelow, ActualsBelow, HeadingBelow, Grows}
use Rattle.clu_types.specs.declared.term.Heading.{Heading}
use Rattle.clu_types.specs.declared.term.Term.TheVariants as term
use Rattle.clu_types.specs.declared.spec.Demand.{Demand}
use Rattle.clu_types.specs.declared.spec.OpSpec.{OpSpec}
use Rattle.clu_types.specs.declared.term.TypeId.{TypeId}
use Rattle.clu_types.specs.declared.term.Field.{Field}
use Rattle.clu_types.specs.declared.term.Exception.{Exception}
use Rattle.clu_types.specs.declared.term.Actual.{Actual}
use Rattle.clu_types.specs.declared.term.Term.{Term}
use Rattle.clu_types.proofs.Parts.{ids_more, signals_more, actuals_more, parts_more}
use Rattle.clu_types.proofs.Carrying.{grows_on, length_grows}
use Rattle.clu_specs.specs.Specifications.{DemandsBelow, OpBelow, OpsBelow}

-- what a loop has made, over the arena as it was and as it is
pub record Makes {X : Type 0} (below : ℕ → List X → Type 0) (old new : List Term) (made : List X) : Type 0 where
  pub grows : Grows old new
  pub within : below (length new) made

-- a turn of a loop that adds y
abbrev pub Turn : {X : Type 0} (below : ℕ → List X → Type 0) → Type 0
Turn {X} below =
    (old new newer : List Term) (made : List X) (y : X) → Makes below old new made → Grows new newer → below (length newer) (y ∷ []) → Makes below old newer (made ++ y ∷ [])

module _ {X : Type 0} (below : ℕ → List X → Type 0)
    (more : (m n : ℕ) → m ≤ n → (xs : List X) → below m xs → below n xs)
    (both : (n : ℕ) (xs ys : List X) → below n xs → below n ys → below n (xs ++ ys)) where
  turn : Turn below
  turn old new newer made y m g b = record {
    grows = grows_on old new newer m.grows g;
    within = both (length newer) made (y ∷ []) (more (length new) (length newer) (length_grows new newer g) made m.within) b;
  }

ids_both : (n : ℕ) (xs ys : List TypeId) → AreBelow n xs → AreBelow n ys → AreBelow n (xs ++ ys)
ids_both n [] ys p q = q
ids_both n (x ∷ xs) ys p q = (p.0, ids_both n xs ys p.1 q)

pub types_pushed : (n : ℕ) (xs : List TypeId) (x : TypeId) → AreBelow n xs → x.0 < n → AreBelow n (xs ++ x ∷ [])
types_pushed n xs x p lt = ids_both n xs (x ∷ []) p (lt, tt)

pub types_turn : Turn AreBelow
types_turn = turn AreBelow ids_more ids_both

fields_both : (n : ℕ) (xs ys : List Field) → FieldsBelow n xs → FieldsBelow n ys → FieldsBelow n (xs ++ ys)
fields_both n [] ys p q = q
fields_both n (x ∷ xs) ys p q = (p.0, fields_both n xs ys p.1 q)

pub fields_pushed : (n : ℕ) (xs : List Field) (x : Field) → FieldsBelow n xs → x.of.0 < n → FieldsBelow n (xs ++ x ∷ [])
fields_pushed n xs x p lt = fields_both n xs (x ∷ []) p (lt, tt)

signals_both : (n : ℕ) (xs ys : List Exception) → SignalsBelow n xs → SignalsBelow n ys → SignalsBelow n (xs ++ ys)
signals_both n [] ys p q = q
signals_both n (x ∷ xs) ys p q = (p.0, signals_both n xs ys p.1 q)

pub signals_pushed : (n : ℕ) (xs : List Exception) (x : Exception) → SignalsBelow n xs → AreBelow n x.objects → SignalsBelow n (xs ++ x ∷ [])
signals_pushed n xs x p b = signals_both n xs (x ∷ []) p (b, tt)

pub signals_turn : Turn SignalsBelow
signals_turn = turn SignalsBelow signals_more signals_both

actuals_both : (n : ℕ) (xs ys : List Actual) → ActualsBelow n xs → ActualsBelow n ys → ActualsBelow n (xs ++ ys)
actuals_both n [] ys p q = q
actuals_both n (x ∷ xs) ys p q = (p.0, actuals_both n xs ys p.1 q)

pub actuals_pushed : (n : ℕ) (xs : List Actual) (x : Actual) → ActualsBelow n xs → ActualBelow n x → ActualsBelow n (xs ++ x ∷ [])
actuals_pushed n xs x p b = actuals_both n xs (x ∷ []) p (b, tt)

heading_more : (m n : ℕ) → m ≤ n → (h : Heading) → HeadingBelow m h → HeadingBelow n h
heading_more m n le h b = parts_more m n le (term.Iter h) b

demands_more : (m n : ℕ) → m ≤ n → (ds : List Demand) → DemandsBelow m ds → DemandsBelow n ds
demands_more m n le [] b = tt
demands_more m n le (d ∷ ds) b = (omega arith, demands_more m n le ds b.1)

demands_both : (n : ℕ) (xs ys : List Demand) → DemandsBelow n xs → DemandsBelow n ys → DemandsBelow n (xs ++ ys)
demands_both n [] ys p q = q
demands_both n (x ∷ xs) ys p q = (p.0, demands_both n xs ys p.1 q)

pub demands_turn : Turn DemandsBelow
demands_turn = turn DemandsBelow demands_more demands_both

ops_more : (m n : ℕ) → m ≤ n → (ops : List OpSpec) → OpsBelow m ops → OpsBelow n ops
ops_more m n le [] b = tt
ops_more m n le (op ∷ ops) b = ((heading_more m n le op.heading b.0.0, demands_more m n le op.demands b.0.1), ops_more m n le ops b.1)

ops_both : (n : ℕ) (xs ys : List OpSpec) → OpsBelow n xs → OpsBelow n ys → OpsBelow n (xs ++ ys)
ops_both n [] ys p q = q
ops_both n (x ∷ xs) ys p q = (p.0, ops_both n xs ys p.1 q)

pub ops_turn : Turn OpsBelow
ops_turn = turn OpsBelow ops_more ops_both

-- what is below the number of types is so when the arena has grown
module _ (old new : List Term) (g : Grows old new) where
  pub heading_grown : (h : Heading) → HeadingBelow (length old) h → HeadingBelow (length new) h
  heading_grown = heading_more (length old) (length new) (length_grows old new g)

  pub demands_grown : (ds : List Demand) → DemandsBelow (length old) ds → DemandsBelow (length new) ds
  demands_grown = demands_more (length old) (length new) (length_grows old new g)

  pub ids_grown : (ids : List TypeId) → AreBelow (length old) ids → AreBelow (length new) ids
  ids_grown = ids_more (length old) (length new) (length_grows old new g)

  pub actuals_grown : (xs : List Actual) → ActualsBelow (length old) xs → ActualsBelow (length new) xs
  actuals_grown = actuals_more (length old) (length new) (length_grows old new g)

-- a demand of a list
pub demand_below : (n : ℕ) (ds : List Demand) (i : ℕ) (d : Demand) → DemandsBelow n ds → i < length ds → (get_or ds i d).wanted.0 < n
demand_below n [] i d b lt = absurd (omega arith)
demand_below n (x ∷ xs) zero d b lt = b.0
demand_below n (x ∷ xs) (suc i) d b lt = demand_below n xs i d b.1 (omega arith)

pub op_below : (n : ℕ) (ops : List OpSpec) (i : ℕ) (d : OpSpec) → OpsBelow n ops → i < length ops → OpBelow n (get_or ops i d)
op_below n [] i d b lt = absurd (omega arith)
op_below n (x ∷ xs) zero d b lt = b.0
op_below n (x ∷ xs) (suc i) d b lt = op_below n xs i d b.1 (omega arith)
