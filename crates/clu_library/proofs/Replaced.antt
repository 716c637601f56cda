-- What a library is after a specification took the place of another one.
use Rattle.std.proofs.Common.{◌≡◌, ◌<◌, ◌↔◌, ◌⊎◌, inl, inr, List, [], ℕ, Bool, true, false, IsTrue, length, Option, Some, None, refl, sym, subst, ◌∙◌, true≢false}
use Rattle.clu_types.specs.declared.spec.Spec.{Spec}
use Rattle.clu_library.specs.Contents.{Contents, HaveSameText, NotAdded, limit, spec_of, with_new_spec}
use Rattle.clu_library.specs.Replacing.{AreLeft, AreLostIfAny, IsBroken, IsKept, IsReplaced, NotChanged, NotReplaced, Replaces, last_revision, with_replaced, without_any}
use Rattle.clu_library.specs.declared.errors.EnterError.{EnterError}
use Rattle.clu_library.specs.declared.errors.EnterError.TheVariants as error
use Rattle.clu_library.specs.declared.program.Program.{Program}
use Rattle.clu_library.specs.declared.replacing.Kept.{Kept}
use Rattle.clu_library.specs.declared.replacing.Kept.TheVariants as kept
use Rattle.clu_library.proofs.Losing.{programs_left}

-- what is kept
pub kept_same : (library : Contents) (s old : Spec) (same : Bool) → Some old ≡ spec_of library s.name → (IsTrue same ↔ HaveSameText old s) → same ≡ true → IsKept kept.Same s (spec_of library s.name)
kept_same library s old same is says really = let P : Option Spec → Type 0 = λ o. IsKept kept.Same s o in subst P is (says.0 really)

pub kept_other : (library : Contents) (s old : Spec) (same : Bool) → Some old ≡ spec_of library s.name → (IsTrue same ↔ HaveSameText old s) → same ≡ false → IsKept kept.Other s (spec_of library s.name)
kept_other library s old same is says never = let P : Option Spec → Type 0 = λ o. IsKept kept.Other s o in subst P is (λ equal. differs (says.1 equal))
  where
    differs : IsTrue same → ⊥
    differs really = true≢false (sym really ∙ never)

pub kept_nothing : (library : Contents) (s : Spec) → None ≡ spec_of library s.name → IsKept kept.Nothing s (spec_of library s.name)
kept_nothing library s is = let P : Option Spec → Type 0 = λ o. IsKept kept.Nothing s o in subst P is tt

pub ruleset keepings = (kept_same, kept_other, kept_nothing)

-- what is entered
pub replaces_new : (library new : Contents) (s : Spec) (o : Option Spec) → IsKept kept.Nothing s o → length library.specs < limit → new ≡ with_new_spec library s → Replaces library s o new true
replaces_new library new s None is room made = (room, made)
replaces_new library new s (Some old) is room made = absurd is

pub replaces_same : (library : Contents) (s : Spec) (o : Option Spec) → IsKept kept.Same s o → Replaces library s o library false
replaces_same library s None is = absurd is
replaces_same library s (Some old) is = (is, refl)

pub replaces_other : (library new : Contents) (s : Spec) (o : Option Spec) → IsKept kept.Other s o → library.revision < last_revision → IsReplaced library s new → Replaces library s o new true
replaces_other library new s None is room made = absurd is
replaces_other library new s (Some old) is room made = (is, room, made)

pub not_new : (e : EnterError) (library : Contents) (s : Spec) (o : Option Spec) → IsKept kept.Nothing s o → NotAdded e library → NotReplaced e library s o
not_new error.Differs library s o is never = never
not_new error.Memory library s o is never = tt
not_new error.Full library s None is never = never
not_new error.Full library s (Some old) is never = absurd is

pub not_changed : (e : EnterError) (library : Contents) (s : Spec) (o : Option Spec) → IsKept kept.Other s o → NotChanged e library → NotReplaced e library s o
not_changed error.Differs library s o is never = never
not_changed error.Memory library s o is never = tt
not_changed error.Full library s None is never = absurd is
not_changed error.Full library s (Some old) is never = (is, never)

pub ruleset replacings = (replaces_new, replaces_same, replaces_other, not_new, not_changed)

-- and what is left of the programs
left_of : (library : Contents) (s : Spec) (names : List (List ℕ)) → AreLostIfAny library s names → AreLeft (IsBroken (with_replaced library s) s.name) library.programs (without_any names library.programs)
left_of library s names (inl none) = let P : List Program → Type 0 = λ ps. AreLeft (IsBroken (with_replaced library s) s.name) ps (without_any names ps) in subst P (sym none) refl
left_of library s names (inr lost) = programs_left (with_replaced library s) s.name names lost library.programs

pub replaced_of : (library new : Contents) (s : Spec) (names : List (List ℕ)) → AreLostIfAny library s names → new ≡ record (with_replaced library s) { programs = without_any names library.programs } → IsReplaced library s new
replaced_of library new s names lost made = (without_any names library.programs, made, left_of library s names lost)

pub ruleset changings = (replaced_of)
