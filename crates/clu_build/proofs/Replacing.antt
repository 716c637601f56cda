-- What a library is as specifications take the place of kept ones, one after the other.
use Rattle.std.proofs.Common.{◌≡◌, ℕ, ◌+◌, Bool, List, [], ◌∷◌, ◌++◌, take, slice_get, Some, refl, sym, subst, Option, None}
use Rattle.clu_library.specs.Contents.{Contents, spec_of}
use Rattle.clu_library.specs.Replacing.{Replaces}
use Rattle.clu_library.specs.Unmet.{TellsUnmet}
use Rattle.clu_types.specs.declared.spec.Spec.{Spec}
use Rattle.clu_build.specs.Entering.{AreReplaced}
use Rattle.clu_build.specs.Refusals.{IsOfEach, IsOfOne}
use Rattle.clu_build.specs.declared.errors.BuildError.{BuildError}
use Rattle.clu_build.specs.declared.errors.BuildError.TheVariants as error
use Rattle.clu_build.proofs.Lists.{next}

replaced_then : (before between after : Contents) (specs : List Spec) (s : Spec) (changed : Bool) → AreReplaced before specs between → Replaces between s (spec_of between s.name) after changed → AreReplaced before (specs ++ s ∷ []) after
replaced_then before between after [] s changed same one =
    let P : Contents → Type 0 = λ c. Replaces c s (spec_of c s.name) after changed in
    (after, changed, subst P same one, refl)
replaced_then before between after (x ∷ specs) s changed first one = (first.0, first.1, first.2, replaced_then first.0 between after specs s changed first.3 one)

pub replaced_more : (before between after : Contents) (specs : List Spec) (n : ℕ) (s : Spec) (changed : Bool) → slice_get specs n ≡ Some s → AreReplaced before (take n specs) between → Replaces between s (spec_of between s.name) after changed
    → AreReplaced before (take (n + 1) specs) after
replaced_more before between after specs n s changed at first one =
    let P : List Spec → Type 0 = λ ss. AreReplaced before ss after in
    subst P (sym (next specs n s at)) (replaced_then before between after (take n specs) s changed first one)

pub one_is_of_each : (e : BuildError) (before between : Contents) (specs : List Spec) (n : ℕ) (s : Spec) → slice_get specs n ≡ Some s → AreReplaced before (take n specs) between → IsOfOne e between s → IsOfEach e before specs
one_is_of_each error.LibraryFull before between specs n s at first is = (n, s, between, at, first, is)
one_is_of_each error.Memory before between specs n s at first is = tt
one_is_of_each error.NotYet before between specs n s at first is = tt
one_is_of_each _ before between specs n s at first is = elim is [ ]

-- no other specification is unsound
pub told_none : (library : Contents) (names besides : List (List ℕ)) (o : Option (List ℕ)) → names ≡ besides → TellsUnmet library names o → o ≡ None → TellsUnmet library besides None
told_none library names besides o same told none =
    let P : Option (List ℕ) → Type 0 = λ x. TellsUnmet library names x in
    let Q : List (List ℕ) → Type 0 = λ ns. TellsUnmet library ns None in
    subst Q same (subst P none told)
