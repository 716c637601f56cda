-- What a call that enters something makes of a library, by what is kept already.
use Rattle.std.proofs.Common.{◌≡◌, ◌<◌, ℕ, List, All, Bool, Option, Some, None, IfSome, slice_get, find, length, refl, sym, subst}
use Rattle.clu_specs.specs.Specifications.{SpecHolds}
use Rattle.clu_types.specs.Specs.{with_spec}
use Rattle.clu_types.specs.declared.spec.Spec.{Spec}
use Rattle.clu_library.specs.Contents.{Contents, HaveSameText, IsDifference, MayEnter, NotAdded, NotEntered, entered_by, limit, spec_of, with_entered, with_new_spec}
use Rattle.clu_library.specs.declared.errors.EnterError.{EnterError}
use Rattle.clu_library.proofs.Kept.{of_found, of_nth, with_one}

-- a specification that is found holds its types
pub found_holds : (p : Spec → Bool) (xs : List Spec) (s : Spec) → All SpecHolds xs → Some s ≡ find p xs → SpecHolds s
found_holds p xs s all is = let P : Option Spec → Type 0 = λ o. IfSome o SpecHolds in subst P (sym is) (of_found SpecHolds p xs all)

-- and so does one at a place
pub nth_holds : (xs : List Spec) (n : ℕ) (s : Spec) → All SpecHolds xs → Some s ≡ slice_get xs n → SpecHolds s
nth_holds xs n s all is = let P : Option Spec → Type 0 = λ o. IfSome o SpecHolds in subst P (sym is) (of_nth SpecHolds xs n all)

-- all of a list with one more hold theirs
pub with_held : (xs new : List Spec) (s : Spec) → All SpecHolds xs → SpecHolds s → new ≡ with_spec xs s → All SpecHolds new
with_held xs new s all this is = subst (All SpecHolds) (sym is) (with_one SpecHolds xs s all this)

-- where one is kept
pub entered_kept : (library : Contents) (s kept : Spec) → Some kept ≡ spec_of library s.name → library ≡ with_entered library s
entered_kept library s kept is = let P : Option Spec → Type 0 = λ o. library ≡ entered_by library s o in subst P is refl

pub may_kept : (library : Contents) (s kept : Spec) → Some kept ≡ spec_of library s.name → HaveSameText kept s → MayEnter library s (spec_of library s.name)
may_kept library s kept is same = let P : Option Spec → Type 0 = λ o. MayEnter library s o in subst P is same

pub not_kept : (e : EnterError) (library : Contents) (s kept : Spec) → Some kept ≡ spec_of library s.name → IsDifference e kept s → NotEntered e library s (spec_of library s.name)
not_kept e library s kept is different = let P : Option Spec → Type 0 = λ o. NotEntered e library s o in subst P is different

-- where none is kept
pub entered_new : (library new : Contents) (s : Spec) → None ≡ spec_of library s.name → new ≡ with_new_spec library s → new ≡ with_entered library s
entered_new library new s is same = let P : Option Spec → Type 0 = λ o. new ≡ entered_by library s o in subst P is same

pub may_new : (library : Contents) (s : Spec) → None ≡ spec_of library s.name → length library.specs < limit → MayEnter library s (spec_of library s.name)
may_new library s is room = let P : Option Spec → Type 0 = λ o. MayEnter library s o in subst P is room

pub not_new : (e : EnterError) (library : Contents) (s : Spec) → None ≡ spec_of library s.name → NotAdded e library → NotEntered e library s (spec_of library s.name)
not_new e library s is full = let P : Option Spec → Type 0 = λ o. NotEntered e library s o in subst P is full

pub ruleset laws = (found_holds, nth_holds, with_held, entered_kept, may_kept, not_kept, entered_new, may_new, not_new)
