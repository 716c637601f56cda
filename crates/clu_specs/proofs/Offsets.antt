-- The offset of a refusal: the bytes before it begin a text, and no text begins with these and the byte at it.
use Rattle.std.proofs.Common.{◌≡◌, ℕ, ◌+◌, ◌-◌, ◌<◌, List, [], ◌∷◌, ◌++◌, length, take, drop, Result, Ok, Err, refl, sym, ap, subst, ◌∙◌, arith, length-append, length-drop}
use Rattle.std.proofs.lemmas.Bool.{ne_eqb}
use Rattle.std.proofs.lemmas.List.{take-append-drop}
use Rattle.std.proofs.Math.Seq.{take-append_seam}
use Rattle.clu_base.specs.declared.errors.FormatError.{FormatError}
use Rattle.clu_base.specs.declared.errors.FormatError.TheVariants as error
use Rattle.clu_specs.specs.Reading.{◌>>=◌, Read, Fails, end_at, offset_error}
use Rattle.clu_specs.specs.Scopes.{any_scope}
use Rattle.clu_specs.specs.TypeReading.{type_read, whole_type}
use Rattle.clu_specs.specs.Offsets.{BeginsType, BeginsUse, BeginsSpec, SoFar, NoFurther}
use Rattle.clu_specs.proofs.TypesAgain.{whole_again}
use Rattle.clu_specs.proofs.Local.{left_of, Like}
use Rattle.clu_specs.proofs.LocalActuals.{type_local}
use Rattle.clu_specs.specs.UseReading.{whole_use}
use Rattle.clu_specs.specs.SpecReading.{whole_spec}
use Rattle.clu_specs.proofs.UsesAgain.{use_again}
use Rattle.clu_specs.proofs.SpecsAgain.{spec_again}
use Rattle.clu_specs.proofs.LocalWholes.{whole_use_alike, whole_spec_alike}
use Rattle.clu_specs.proofs.Fronts.{Front, front_as}
use Rattle.clu_specs.proofs.FrontsActuals.{whole_type_front}
use Rattle.clu_specs.proofs.FrontsUses.{whole_use_front}
use Rattle.clu_specs.proofs.FrontsSpecs.{whole_spec_front}

-- a whole text is refused alike, whatever comes after the byte at the fault
abbrev pub RefusedAlike : {A : Type 0} → (List ℕ → Result A ℕ) → Type 0
RefusedAlike whole = (p s t : List ℕ) (left : ℕ) → whole (p ++ s) ≡ Err left → length s < left → (at : ℕ) × (whole (p ++ t) ≡ Err at)

no_both : {A : Type 0} (r : Result A ℕ) (x : A) (left : ℕ) → r ≡ Ok x → r ≡ Err left → ⊥
no_both r x left p q = cc

err_same : {A : Type 0} (r : Result A ℕ) (left at : ℕ) → r ≡ Err left → r ≡ Err at → left ≡ at
err_same r left at p q = cc

-- nothing more may follow
end_more : {A : Type 0} (x : A) (b : ℕ) (bytes : List ℕ) → end_at x (b ∷ bytes) ≡ Err (length (b ∷ bytes))
end_more x b bytes = rw (ne_eqb (length (b ∷ bytes)) 0 (λ e. absurd (omega (arith, e)))) refl

end_left : {A : Type 0} (x : A) (bytes : List ℕ) (left : ℕ) → end_at x bytes ≡ Err left → left ≡ length bytes
end_left x [] left e = absurd (no_both (Ok x) x left refl e)
end_left x (b ∷ bytes) left e =
    let now : end_at x (b ∷ bytes) ≡ Err (length (b ∷ bytes)) = end_more x b bytes in
    err_same (end_at x (b ∷ bytes)) left (length (b ∷ bytes)) e now

end_alike : {A : Type 0} (x : A) (q s t : List ℕ) → length s < length (q ++ s) → (at : ℕ) × (end_at x (q ++ t) ≡ Err at)
end_alike x [] s t less = absurd (omega (arith, less))
end_alike x (b ∷ q) s t less = (length (b ∷ (q ++ t)), end_more x b (q ++ t))

alike_by : {A B : Type 0} (f : A → B) (s t : List ℕ) (r o : Read A) (left : ℕ) → (length s < left_of r → Like s t r o) → (r >>= λ x. end_at (f x.0) x.1) ≡ Err left → length s < left → (at : ℕ) × ((o >>= λ x. end_at (f x.0) x.1) ≡ Err at)
alike_by {A} {B} f s t (Err at) o left like e less =
    let same : at ≡ left = err_same {A = B} (Err at) at left refl e in
    let h = like (omega (arith, less, same)) in
    (h.0, rw h.1 refl)
alike_by f s t (Ok x) o left like e less =
    let h = like (omega (arith, less, end_left (f x.0) x.1 left e)) in
    let more = end_alike (f x.0) h.0 s t (omega (arith, less, end_left (f x.0) x.1 left e, ap length h.1)) in
    (more.0, rw h.2 more.1)

whole_type_alike : RefusedAlike whole_type
unfolding whole_type
whole_type_alike p s t left e less =
    alike_by (λ x. x) s t (type_read any_scope (length (p ++ s)) (p ++ s)) (type_read any_scope (length (p ++ t)) (p ++ t)) left ((type_local any_scope (length (p ++ s)) (length (p ++ t))).like p s t (omega arith) (omega arith)) e less

-- what is refused at an offset begins no text with the byte there
no_further_by : {A : Type 0} (whole : List ℕ → Result A ℕ) (bytes : List ℕ) (left : ℕ) → RefusedAlike whole → whole bytes ≡ Err left → length bytes - left < length bytes
    → (x : A) (text rest : List ℕ) → whole text ≡ Ok x → text ≡ take (length bytes - left + 1) bytes ++ rest → ⊥
no_further_by whole bytes left alike e less x text rest again begun =
    let k : ℕ = length bytes - left + 1 in
    let p : List ℕ = take k bytes in
    let s : List ℕ = drop k bytes in
    let whole_now : whole (p ++ s) ≡ Err left = ap whole (take-append-drop k bytes) ∙ e in
    let h = alike p s rest left whole_now (omega (arith, less, length-drop k bytes)) in
    no_both (whole text) x h.0 again (ap whole begun ∙ h.1)

pub type_no_further : (e : FormatError) (bytes : List ℕ) → Fails e (whole_type bytes) → NoFurther BeginsType bytes (offset_error (length bytes) e)
type_no_further error.Memory bytes f = tt
type_no_further (error.Bad left) bytes f = λ less begun. no_further_by whole_type bytes left whole_type_alike f less begun.0 (take (length bytes - left + 1) bytes ++ begun.1) begun.1 (whole_again begun.0 (take (length bytes - left + 1) bytes ++ begun.1) begun.2 (sym begun.3)) refl

pub use_no_further : (e : FormatError) (bytes : List ℕ) → Fails e (whole_use bytes) → NoFurther BeginsUse bytes (offset_error (length bytes) e)
use_no_further error.Memory bytes f = tt
use_no_further (error.Bad left) bytes f = λ less begun. no_further_by whole_use bytes left whole_use_alike f less begun.0 (take (length bytes - left + 1) bytes ++ begun.1) begun.1 (use_again begun.0 (take (length bytes - left + 1) bytes ++ begun.1) begun.2 (sym begun.3)) refl

pub spec_no_further : (e : FormatError) (bytes : List ℕ) → Fails e (whole_spec bytes) → NoFurther BeginsSpec bytes (offset_error (length bytes) e)
spec_no_further error.Memory bytes f = tt
spec_no_further (error.Bad left) bytes f = λ less begun. no_further_by whole_spec bytes left whole_spec_alike f less begun.0 (take (length bytes - left + 1) bytes ++ begun.1) begun.1 (spec_again begun.0 (take (length bytes - left + 1) bytes ++ begun.1) begun.2 (sym begun.3)) refl

-- the bytes before the offset
module _ (Begins : List ℕ → Type 0) (bytes : List ℕ) (left : ℕ) where
  taken : (f : Front Begins bytes left) → take (length bytes - left) bytes ≡ f.front
  taken f =
      let many : length bytes - left ≡ length f.front = omega (arith, ap length f.whole, length-append f.front f.back, f.rest) in
      ap (λ (n : ℕ). take n bytes) many ∙ ap (take (length f.front)) f.whole ∙ take-append_seam f.front f.back

  so_far_by : Front Begins bytes left → SoFar Begins bytes (error.Bad (length bytes - left))
  so_far_by f = (omega arith, subst Begins (sym (taken f)) f.begun)

pub type_so_far : (e : FormatError) (bytes : List ℕ) → Fails e (whole_type bytes) → SoFar BeginsType bytes (offset_error (length bytes) e)
type_so_far error.Memory bytes f = tt
type_so_far (error.Bad left) bytes f = so_far_by BeginsType bytes left (front_as bytes left (whole_type_front bytes left f) (λ q x. (x.t, x.rest, x.is, x.spelled)))

pub use_so_far : (e : FormatError) (bytes : List ℕ) → Fails e (whole_use bytes) → SoFar BeginsUse bytes (offset_error (length bytes) e)
use_so_far error.Memory bytes f = tt
use_so_far (error.Bad left) bytes f = so_far_by BeginsUse bytes left (front_as bytes left (whole_use_front bytes left f) (λ q x. (x.u, x.rest, x.is, x.spelled)))

pub spec_so_far : (e : FormatError) (bytes : List ℕ) → Fails e (whole_spec bytes) → SoFar BeginsSpec bytes (offset_error (length bytes) e)
spec_so_far error.Memory bytes f = tt
spec_so_far (error.Bad left) bytes f = so_far_by BeginsSpec bytes left (front_as bytes left (whole_spec_front bytes left f) (λ q x. (x.s, x.rest, x.is, x.spelled)))
