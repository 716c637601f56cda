-- What holds of the content that was read holds of the library under its name.
use Rattle.std.proofs.Common.{◌≡◌, ℕ, List, [], All, Option, Some, None, Result, Ok, Err, IfErr, IfOk, arith, subst, sym}
use Rattle.std.proofs.lemmas.List.{length-map}
use Rattle.std.proofs.lemmas.Option.{none-some}
use Rattle.clu_base.specs.Outside.{Files}
use Rattle.clu_base.specs.declared.errors.FormatError.TheVariants.{Bad}
use Rattle.clu_base.specs.declared.errors.FormatError.{FormatError}
use Rattle.clu_library.specs.Contents.{Contents, nothing}
use Rattle.clu_library.specs.Libraries.{IsLibrary}
use Rattle.clu_library.specs.LibraryReading.{library_seen}
use Rattle.clu_specs.specs.Reading.{Fails}
use Rattle.clu_specs.specs.Seen.{seen}
use Rattle.clu_specs.specs.Specifications.{SpecHolds}
use Rattle.clu_checked.specs.Sources.{AreKept}
use Rattle.clu_driver.specs.Found.{IsUnder, NotHad}
use Rattle.clu_driver.specs.Held.{IsBadAt, IsUnreadable, NotLibrary}
use Rattle.clu_outcome.specs.declared.outcome.Outcome.{Outcome}
use Rattle.clu_outcome.specs.declared.outcome.Outcome.TheVariants as outcome
use Rattle.clu_driver.proofs.Ascending.{library_ascends}
use Rattle.clu_driver.proofs.Showing.{library_shows}

pub under_with : (P : Option (List ℕ) → Type 0) (files : Option Files) (name : List ℕ) (content : Option (List ℕ)) → IsUnder files name (λ c. c ≡ content) → P content → IsUnder files name P
under_with P None name content held p = tt
under_with P (Some all) name content held p = subst P (sym held) p

-- what follows for each answer follows for this one
pub ok_with : {X E : Type 0} (P Q : X → Type 0) (result : Result X E) → ((x : X) → P x → Q x) → IfOk result P → IfOk result Q
ok_with P Q (Ok x) gives p = gives x p
ok_with P Q (Err e) gives p = tt

pub err_with : {X E : Type 0} (P Q : E → Type 0) (result : Result X E) → ((e : E) → P e → Q e) → IfErr result P → IfErr result Q
err_with P Q (Ok x) gives p = tt
err_with P Q (Err e) gives p = gives e p

-- a reader's refusal tells the first bad field
pub bad_at : {Y : Type 0} (read : Result Y ℕ) (at : ℕ) (e : FormatError) → e ≡ Bad at → Fails e read → read ≡ Err at
bad_at read at e is fails = let P : FormatError → Type 0 = λ f. Fails f read in subst P is fails

-- why a file has no library
pub unreadable : (how : Outcome) (name : List ℕ) (files : Option Files) (faults faults' : ℕ) (content : Option (List ℕ))
    → IsUnder files name (λ c. c ≡ content) → IsUnreadable how content → NotLibrary how name files faults faults'
unreadable (outcome.LibraryBad at) name files faults faults' content held why = under_with (IsBadAt at) files name content held why
unreadable outcome.Memory name files faults faults' content held why = tt
unreadable _ name files faults faults' content held why = elim why [ ]

pub unknown : (how : Outcome) (name : List ℕ) (files : Option Files) (faults faults' : ℕ) → NotHad how name faults faults' → NotLibrary how name files faults faults'
unknown (outcome.LibraryBad at) name files faults faults' why = elim why [ ]
unknown _ name files faults faults' why = why

-- what a library that is read keeps
pub read_kept : (l : Contents) → IsLibrary (library_seen l) → All SpecHolds l.specs → AreKept l.specs
read_kept l is holds = let same = length-map l.specs seen in let most = is.few_modules in record { few = omega (arith, same, most); ascending = record { components = library_shows l is; operations = library_ascends l is holds } }

-- and an empty one
pub none_kept : AreKept []
none_kept = record { few = omega arith; ascending = record { components = tt; operations = λ i s at. absurd (none-some s at) } }

pub empty_kept : (l : Contents) → l ≡ nothing → AreKept l.specs
empty_kept l is = subst (λ (l : Contents). AreKept l.specs) (sym is) none_kept

pub same_kept : (a b : Contents) → a ≡ b → AreKept b.specs → AreKept a.specs
same_kept a b same = subst (λ (l : Contents). AreKept l.specs) (sym same)
