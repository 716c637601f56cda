-- What is kept of a name once a specification was entered: what was kept before, or else this one if it has the name.
use Rattle.std.proofs.Common.{◌≡◌, ℕ, List, [], ◌∷◌, Bool, true, false, Option, Some, None, refl, sym, subst, ◌∙◌}
use Rattle.std.specs.Str.{bytes_eq}
use Rattle.std.specs.Option.{option_or}
use Rattle.std.proofs.lemmas.Slice.Eq.{bytes_eq-Decides}
use Rattle.clu_types.specs.declared.spec.Spec.{Spec}
use Rattle.clu_types.specs.Specs.{with_spec}
use Rattle.clu_library.specs.Contents.{Contents, KeepsFirst, spec_of, with_new_spec}
use Rattle.clu_library.proofs.Placed.{named, found_other, found_this}

alone : (o : Option Spec) → o ≡ option_or o None
alone (Some x) = refl
alone None = refl

-- where none of its name is kept
kept_new : (before : List Spec) (s : Spec) → named s.name before ≡ None → (name : List ℕ) → named name (with_spec before s) ≡ option_or (named name before) (named name (s ∷ []))
kept_new before s none name = by (bytes_eq s.name name) refl
  where
    by : (b : Bool) → bytes_eq s.name name ≡ b → named name (with_spec before s) ≡ option_or (named name before) (named name (s ∷ []))
    by true e =
        let same : s.name ≡ name = (bytes_eq-Decides s.name name).0 e in
        let none_too : named name before ≡ None = let P : List ℕ → Type 0 = λ n. named n before ≡ None in subst P same none in
        rw none_too (rw e (found_this name before s e))
    by false e = rw e (found_other name before s e ∙ alone (named name before))

pub first_new : (library new : Contents) (s : Spec) → None ≡ spec_of library s.name → new ≡ with_new_spec library s → KeepsFirst library new s
first_new library new s none is =
    let P : Contents → Type 0 = λ c. KeepsFirst library c s in
    subst P (sym is) (record { of_name = kept_new library.specs s (sym none) })

-- where one of its name is kept
kept_kept : (before : List Spec) (s kept : Spec) → named s.name before ≡ Some kept → (name : List ℕ) → named name before ≡ option_or (named name before) (named name (s ∷ []))
kept_kept before s kept some name = by (bytes_eq s.name name) refl
  where
    by : (b : Bool) → bytes_eq s.name name ≡ b → named name before ≡ option_or (named name before) (named name (s ∷ []))
    by true e =
        let same : s.name ≡ name = (bytes_eq-Decides s.name name).0 e in
        let some_too : named name before ≡ Some kept = let P : List ℕ → Type 0 = λ n. named n before ≡ Some kept in subst P same some in
        rw some_too refl
    by false e = rw e (alone (named name before))

pub first_kept : (library : Contents) (s kept : Spec) → Some kept ≡ spec_of library s.name → KeepsFirst library library s
first_kept library s kept some = record { of_name = kept_kept library.specs s kept (sym some) }

pub ruleset firsts = (first_new, first_kept)
