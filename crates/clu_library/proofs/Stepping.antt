-- The turns of loops that read one item after the other.
use Rattle.std.proofs.Common.{◌≡◌, ℕ, suc, ◌+◌, ◌-◌, ◌<◌, ◌≤◌, List, [], ◌∷◌, ◌++◌, Ok, Err, refl, sym, ◌∙◌, arith}
use Rattle.clu_base.specs.declared.errors.FormatError.{FormatError}
use Rattle.clu_base.specs.declared.errors.FormatError.TheVariants as error
use Rattle.clu_specs.specs.Reading.{Read, Fails}
use Rattle.clu_library.specs.LibraryReading.{stepped, beside, behind_names}

module _ {S : Type 0} (step : S → List ℕ → Read S) where
  pub step_on : (count i : ℕ) (s t : S) (bytes after : List ℕ) (total : Read S) → i < count → step s bytes ≡ Ok (t, after)
      → stepped step (count - i) s bytes ≡ total → stepped step (count - (i + 1)) t after ≡ total
  unfolding stepped
  step_on count i s t bytes after total lt read so_far =
      let k : count - i ≡ suc (count - (i + 1)) = omega arith in
      let one : stepped step (count - i) s bytes ≡ stepped step (count - (i + 1)) t after = rw (k, read) refl in
      sym one ∙ so_far

  pub step_fails : (e : FormatError) (count i : ℕ) (s : S) (bytes : List ℕ) (total : Read S) → i < count → Fails e (step s bytes)
      → stepped step (count - i) s bytes ≡ total → Fails e total
  unfolding stepped
  step_fails error.Memory count i s bytes total lt read so_far = tt
  step_fails (error.Bad left) count i s bytes total lt read so_far =
      let k : count - i ≡ suc (count - (i + 1)) = omega arith in
      let one : stepped step (count - i) s bytes ≡ Err left = rw (k, read) refl in
      sym so_far ∙ one

  pub all_stepped : (count i : ℕ) (s : S) (bytes : List ℕ) (total : Read S) → count ≤ i → stepped step (count - i) s bytes ≡ total → total ≡ Ok (s, bytes)
  unfolding stepped
  all_stepped count i s bytes total le so_far =
      let k : count - i ≡ 0 = omega arith in
      let one : stepped step (count - i) s bytes ≡ Ok (s, bytes) = rw k refl in
      sym so_far ∙ one

-- what was made beside the last name
pub beside_fails : {A B : Type 0} (e : FormatError) (read : Read (A × B)) → Fails e read → Fails e (beside read)
beside_fails error.Memory read h = tt
beside_fails (error.Bad left) read h = rw h refl

-- the name behind others
pub behind_pushed : (last name : List ℕ) (names : List (List ℕ)) → behind_names last (names ++ name ∷ []) ≡ name
behind_pushed last name [] = refl
behind_pushed last name (n ∷ names) = behind_pushed n name names
