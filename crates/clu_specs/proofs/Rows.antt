-- Items in a row, as a loop reads them while its arena grows.
use Rattle.std.proofs.Common.{◌≡◌, ℕ, suc, ◌+◌, ◌-◌, ◌<◌, ◌≤◌, List, [], ◌∷◌, ◌++◌, length, Result, Ok, Err, Option, Some, None, Bool, true, false, ◌==◌, refl, sym, ap, subst, ◌∙◌, arith}
use Rattle.std.proofs.lemmas.Bool.{ne_eqb}
use Rattle.clu_base.specs.declared.errors.FormatError.{FormatError}
use Rattle.clu_base.specs.declared.errors.FormatError.TheVariants as error
use Rattle.clu_types.specs.CluType.{CluType, Actuals, no_types, type_and, no_fields, field_and, no_signals, signal_and, actual_type, actual_const, actual_param}
use Rattle.clu_types.specs.Arena.{type_at, types_at, fields_at, signals_at, actuals_at, types_of, AreBelow, SignalsBelow, Grows}
use Rattle.clu_types.specs.declared.term.TypeId.{TypeId}
use Rattle.clu_types.specs.declared.term.Field.{Field}
use Rattle.clu_types.specs.declared.term.Exception.{Exception}
use Rattle.clu_types.specs.declared.term.Actual.{Actual}
use Rattle.clu_types.specs.declared.term.Actual.TheVariants as actual
use Rattle.clu_types.specs.declared.term.Term.{Term}
use Rattle.clu_types.proofs.Arenas.{types_grown}
use Rattle.clu_types.proofs.Carrying.{grows_on}
use Rattle.clu_types.proofs.Parts.{types_same, signals_same}
use Rattle.clu_specs.specs.declared.actuals.Lead.{Lead}
use Rattle.clu_specs.specs.declared.scope.Scope.{Scope}
use Rattle.clu_specs.specs.Reading.{◌>>=◌, Read, Fails, behind, several}
use Rattle.clu_specs.specs.Pending.{given, actual_ended, actual_begun, item_begun}
use Rattle.clu_specs.specs.TypeReading.{Reader, types_joined, fields_joined, signals_joined, actuals_joined, types_step, signals_step, signal_read, lead_of, is_marked, marked_actual_read, arguments_read, results_read, all_signals_read, heading_read}

module _ {A : Type 0} (step : A → List ℕ → Read A) (next : A → List ℕ → Option (List ℕ)) where
  pub row_on : (len i : ℕ) (made more : A) (bytes after rest : List ℕ) (total : Read A) → i < len → step made bytes ≡ Ok (more, after) → next more after ≡ Some rest
      → several step next (len - i) made bytes ≡ total → several step next (len - (i + 1)) more rest ≡ total
  unfolding several
  row_on len i made more bytes after rest total lt s n so_far =
      let k : len - i ≡ suc (len - (i + 1)) = omega arith in
      let one : several step next (len - i) made bytes ≡ several step next (len - (i + 1)) more rest = rw (k, s, n) refl in
      sym one ∙ so_far

  pub row_end : (len i : ℕ) (made more : A) (bytes after : List ℕ) (total : Read A) → i < len → step made bytes ≡ Ok (more, after) → next more after ≡ None
      → several step next (len - i) made bytes ≡ total → total ≡ Ok (more, after)
  unfolding several
  row_end len i made more bytes after total lt s n so_far =
      let k : len - i ≡ suc (len - (i + 1)) = omega arith in
      let one : several step next (len - i) made bytes ≡ Ok (more, after) = rw (k, s, n) refl in
      sym so_far ∙ one

  pub row_fails : (e : FormatError) (len i : ℕ) (made : A) (bytes : List ℕ) (total : Read A) → i < len → Fails e (step made bytes)
      → several step next (len - i) made bytes ≡ total → Fails e total
  unfolding several
  row_fails error.Memory len i made bytes total lt s so_far = tt
  row_fails (error.Bad left) len i made bytes total lt s so_far =
      let k : len - i ≡ suc (len - (i + 1)) = omega arith in
      let one : several step next (len - i) made bytes ≡ Err left = rw (k, s) refl in
      sym so_far ∙ one

  pub row_out : (len i : ℕ) (made : A) (bytes : List ℕ) (total : Read A) → len ≤ i → several step next (len - i) made bytes ≡ total → total ≡ Err (length bytes)
  unfolding several
  row_out len i made bytes total le so_far =
      let k : len - i ≡ 0 = omega arith in
      let one : several step next (len - i) made bytes ≡ Err (length bytes) = rw k refl in
      sym so_far ∙ one

-- what is refused by a step is refused with what follows it
pub fails_on : {X Y : Type 0} (e : FormatError) (r : Result X ℕ) (f : X → Result Y ℕ) → Fails e r → Fails e (r >>= f)
fails_on error.Memory r f h = tt
fails_on (error.Bad left) r f h = rw h refl

-- a constant or a constant parameter that is refused, in a list that waits for it
pub begun_marked_fails : (scope : Scope) (name : List ℕ) (left : ℕ) (made : Actuals) (e : FormatError) (lead : Lead) (bytes : List ℕ) → 0 < left → Fails e (marked_actual_read scope lead bytes) → is_marked lead ≡ true → lead ≡ lead_of bytes
    → Fails e (item_begun scope (given name left made) bytes)
unfolding item_begun actual_begun
begun_marked_fails scope name left made e lead bytes some h marked same =
    let now : is_marked (lead_of bytes) ≡ true = ap is_marked (sym same) ∙ marked in
    let more : (left == 0) ≡ false = ne_eqb left 0 (λ z. omega (arith, some, z)) in
    rw (more, now) (fails_on e (marked_actual_read scope (lead_of bytes) bytes) (λ a. actual_ended name (left - 1) (actuals_joined made a.0) (behind 44 a.1) a.1) (subst (λ (x : Lead). Fails e (marked_actual_read scope x bytes)) same h))

-- one item more
pub types_push : (ks : List CluType) (xs : List TypeId) (y : TypeId) → types_at ks (xs ++ y ∷ []) ≡ types_joined (types_at ks xs) (type_and (type_at ks y) no_types)
types_push ks [] y = refl
types_push ks (x ∷ xs) y = ap (type_and (type_at ks x)) (types_push ks xs y)

pub fields_push : (ks : List CluType) (xs : List Field) (y : Field) → fields_at ks (xs ++ y ∷ []) ≡ fields_joined (fields_at ks xs) (field_and y.name (type_at ks y.of) no_fields)
fields_push ks [] y = refl
fields_push ks (x ∷ xs) y = ap (field_and x.name (type_at ks x.of)) (fields_push ks xs y)

pub signals_push : (ks : List CluType) (xs : List Exception) (y : Exception) → signals_at ks (xs ++ y ∷ []) ≡ signals_joined (signals_at ks xs) (signal_and y.name (types_at ks y.objects) no_signals)
signals_push ks [] y = refl
signals_push ks (x ∷ xs) y = ap (signal_and x.name (types_at ks x.objects)) (signals_push ks xs y)

pub actuals_push : (ks : List CluType) (xs : List Actual) (y : Actual) → actuals_at ks (xs ++ y ∷ []) ≡ actuals_joined (actuals_at ks xs) (actuals_at ks (y ∷ []))
actuals_push ks [] y = refl
actuals_push ks (actual.Of id ∷ xs) y = ap (actual_type (type_at ks id)) (actuals_push ks xs y)
actuals_push ks (actual.Const c ∷ xs) y = ap (actual_const c) (actuals_push ks xs y)
actuals_push ks (actual.ConstParam n ∷ xs) y = ap (actual_param n) (actuals_push ks xs y)

-- what a turn of each loop has made
module _ (new newer : List Term) (g : Grows new newer) where
  pub types_made : (part : Reader CluType) (made : List TypeId) (y : TypeId) (bytes after : List ℕ) → AreBelow (length new) made → part bytes ≡ Ok (type_at (types_of newer) y, after)
      → types_step part (types_at (types_of new) made) bytes ≡ Ok (types_at (types_of newer) (made ++ y ∷ []), after)
  types_made part made y bytes after b p =
      let kept : types_at (types_of newer) made ≡ types_at (types_of new) made = types_same (types_of newer) (types_of new) (length new) (types_grown new newer g) made b in
      rw (p, types_push (types_of newer) made y, kept) refl

  pub signals_made : (part : Reader CluType) (made : List Exception) (y : Exception) (previous name bytes after : List ℕ) → name ≡ y.name → SignalsBelow (length new) made
      → signal_read part previous bytes ≡ Ok ((y.name, types_at (types_of newer) y.objects), after)
      → signals_step part (signals_at (types_of new) made, previous) bytes ≡ Ok ((signals_at (types_of newer) (made ++ y ∷ []), name), after)
  signals_made part made y previous name bytes after same b p =
      let kept : signals_at (types_of newer) made ≡ signals_at (types_of new) made = signals_same (types_of newer) (types_of new) (length new) (types_grown new newer g) made b in
      rw (same, p, signals_push (types_of newer) made y, kept) refl

-- the three lists of a heading, made one after the other
pub heading_made : (part : Reader CluType) (iter : Bool) (bytes r1 r2 r3 : List ℕ) (t1 t2 t3 : List Term) (args results : List TypeId) (signals : List Exception) → Grows t1 t2 → Grows t2 t3
    → AreBelow (length t1) args → AreBelow (length t2) results
    → arguments_read part bytes ≡ Ok (types_at (types_of t1) args, r1) → results_read part iter r1 ≡ Ok (types_at (types_of t2) results, r2) → all_signals_read part r2 ≡ Ok (signals_at (types_of t3) signals, r3)
    → heading_read part iter bytes ≡ Ok ((types_at (types_of t3) args, types_at (types_of t3) results, signals_at (types_of t3) signals), r3)
unfolding heading_read
heading_made part iter bytes r1 r2 r3 t1 t2 t3 args results signals g12 g23 b1 b2 x y z =
    let kept_args : types_at (types_of t3) args ≡ types_at (types_of t1) args = types_same (types_of t3) (types_of t1) (length t1) (types_grown t1 t3 (grows_on t1 t2 t3 g12 g23)) args b1 in
    let kept_results : types_at (types_of t3) results ≡ types_at (types_of t2) results = types_same (types_of t3) (types_of t2) (length t2) (types_grown t2 t3 g23) results b2 in
    rw (x, y, z, kept_args, kept_results) refl
