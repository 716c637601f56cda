-- The public calls, from how a whole text is read.
use Rattle.std.proofs.Common.{◌≡◌, ℕ, ◌==◌, Bool, List, length, Result, Ok, Err, refl, ap, subst, inl, inr}
use Rattle.clu_base.specs.declared.errors.FormatError.{FormatError}
use Rattle.clu_base.specs.declared.errors.FormatError.TheVariants as error
use Rattle.clu_types.specs.declared.spec.ParamKind.{ParamKind}
use Rattle.clu_specs.specs.declared.scope.Scope.{Scope}
use Rattle.clu_specs.specs.Reading.{◌>>=◌, Read, Fails, end_at, offset_error}
use Rattle.clu_specs.specs.Scopes.{scope_of}
use Rattle.clu_specs.specs.TypeReading.{type_read}
use Rattle.clu_specs.specs.Seen.{Operation, Shape, routine, Specification}
use Rattle.clu_specs.specs.SpecReading.{operation_read, cluster_form_read, last_operation_read, last_form_read, routine_over, cluster_over}
use Rattle.clu_specs.proofs.Outcomes.{passed, either}
use Rattle.clu_specs.proofs.Fronts.{same_left, never}

no_error : {Y : Type 0} (read : Result Y ℕ) (y : Y) (left : ℕ) → read ≡ Ok y → read ≡ Err left → ⊥
no_error read y left p q = cc

-- a text that is read whole is refused only when memory runs out
pub refused : {Y : Type 0} (e : FormatError) (read : Result Y ℕ) (n : ℕ) (y : Y) → Fails e read → read ≡ Ok y → Fails (offset_error n e) (Ok y)
refused error.Memory read n y f e = tt
refused (error.Bad left) read n y f e = absurd (no_error read y left e f)

-- what ends a text, with more made of it
module _ {A B : Type 0} (made : A → B) where
  pub ended_ok : (r : Read A) (a : A) → (r >>= λ x. end_at x.0 x.1) ≡ Ok a → (r >>= λ x. end_at (made x.0) x.1) ≡ Ok (made a)
  ended_ok (Err left) a e = absurd (cc)
  ended_ok (Ok x) a e =
      let h = passed (length x.1 == 0) (length x.1) (Ok x.0) a e in
      let same : x.0 ≡ a = cc in
      rw h.0 (ap (λ (y : A). Ok (made y)) same)

  pub ended_fails : (r : Read A) (e : FormatError) → Fails e (r >>= λ x. end_at x.0 x.1) → Fails e (r >>= λ x. end_at (made x.0) x.1)
  ended_fails r error.Memory f = tt
  ended_fails (Err at) (error.Bad left) f = let same : at ≡ left = same_left {A = A} (Err at) at left refl f in rw same refl
  ended_fails (Ok x) (error.Bad left) f = elim (either (length x.1 == 0) (Ok x.0) (Err (length x.1)) (Err left) f) [
    | inl h ↦ absurd (never x.0 left h.1)
    | inr h ↦ rw h.0 (let same : length x.1 ≡ left = same_left {A = A} (Err (length x.1)) (length x.1) left refl h.1 in rw same refl)
  ]

-- a specification over its parameters, where what stands after them is read to the end
module _ (name : List ℕ) (kinds : List ParamKind) (depth : ℕ) (bytes : List ℕ) (scope : Scope) (s : scope ≡ scope_of kinds) where
  abbrev routine_spec : Operation → Specification
  routine_spec op = record { name = name; kinds = kinds; shape = routine op }

  abbrev form_spec : Shape → Specification
  form_spec shape = record { name = name; kinds = kinds; shape = shape }

  pub routine_fails : (iter : Bool) (e : FormatError) → Fails e (last_operation_read scope (type_read scope depth) name iter bytes) → Fails e (routine_over name iter kinds depth bytes)
  unfolding last_operation_read
  routine_fails iter e f =
      ended_fails routine_spec (operation_read (scope_of kinds) (type_read (scope_of kinds) depth) name iter bytes) e
      (subst (λ (x : Scope). Fails e (last_operation_read x (type_read x depth) name iter bytes)) s f)

  pub cluster_fails : (e : FormatError) → Fails e (last_form_read scope (type_read scope depth) bytes) → Fails e (cluster_over name kinds depth bytes)
  unfolding last_form_read
  cluster_fails e f =
      ended_fails form_spec (cluster_form_read (scope_of kinds) (type_read (scope_of kinds) depth) bytes) e
      (subst (λ (x : Scope). Fails e (last_form_read x (type_read x depth) bytes)) s f)

  kinds_of_scope : scope.kinds ≡ kinds
  kinds_of_scope = ap (λ (x : Scope). x.kinds) s

  pub routine_made : (named : List ℕ) (iter : Bool) (op : Operation) → named ≡ name → last_operation_read scope (type_read scope depth) name iter bytes ≡ Ok op
      → routine_over name iter kinds depth bytes ≡ Ok (record { name = named; kinds = scope.kinds; shape = routine op })
  unfolding last_operation_read
  routine_made named iter op n e =
      rw (n, kinds_of_scope) (ended_ok routine_spec (operation_read (scope_of kinds) (type_read (scope_of kinds) depth) name iter bytes) op
      (subst (λ (x : Scope). last_operation_read x (type_read x depth) name iter bytes ≡ Ok op) s e))

  pub cluster_made : (named : List ℕ) (shape : Shape) → named ≡ name → last_form_read scope (type_read scope depth) bytes ≡ Ok shape
      → cluster_over name kinds depth bytes ≡ Ok (record { name = named; kinds = scope.kinds; shape = shape })
  unfolding last_form_read
  cluster_made named shape n e =
      rw (n, kinds_of_scope) (ended_ok form_spec (cluster_form_read (scope_of kinds) (type_read (scope_of kinds) depth) bytes) shape
      (subst (λ (x : Scope). last_form_read x (type_read x depth) bytes ≡ Ok shape) s e))
