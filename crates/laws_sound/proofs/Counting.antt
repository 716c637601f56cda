-- The program of specs/Counting is well typed.
use Rattle.std.proofs.Common.{◌≡◌, ℕ, true, List, [], ◌∷◌, Option, None, Some, refl, ap, subst, inl, inr}
use Rattle.std.specs.Prelude.{◌⊎◌, bytes_eq, codes}
use Rattle.std.proofs.lemmas.Bool.{false≢true, or_cases}
use Rattle.clu_base.proofs.Lists.{same_bytes}
use Rattle.clu_types.specs.CluType.{bool_type, int_type, no_types, Actuals}
use Rattle.clu_builtin.specs.Operation.{one, two, overflow, quiet}
use Rattle.clu_layout.specs.Objects.{Routine, module_routine, operation_of, Object}
use Rattle.clu_meaning.specs.State.{of_routine}
use Rattle.clu_meaning.specs.Binding.{Running}
use Rattle.clu_meaning.specs.Operations.{defined}
use Rattle.clu_meaning.specs.Unhandled.{failure}
use Rattle.laws_sound.specs.Raises.{Raise, Takes, Covers, failing, raised_by}
use Rattle.laws_sound.specs.WellTyped.{HasOperation}
use Rattle.laws_sound.specs.Sound.{FailsWithText, LawfulBy, RoutineWellTyped, IsWellTyped}
use Rattle.laws_sound.specs.Counting.{counting_text, counting, counting_lawful}

none_some : {A : Type 0} {x : A} → None ≡ Some x → ⊥
none_some e = subst is_none e tt
  where
    is_none : {A : Type 0} → Option A → Type 0
    is_none None = Unit {0}
    is_none (Some x) = ⊥

some_is : {A : Type 0} {x y : A} → Some x ≡ Some y → x ≡ y
some_is {A} {x} {y} e = ap (λ o. get o x) e
  where
    get : Option A → A → A
    get (Some z) other = z
    get None other = other

abbrev raises : List Raise
raises = failing ∷ (codes "overflow", no_types) ∷ []

abbrev lawful : Routine → Type 0
lawful = LawfulBy counting_lawful

abbrev running : Actuals → Running
running given = record { instance = of_routine (module_routine (codes "start") given); given = given; home = None; definition = counting_text }

text : FailsWithText raises
text os (inl h) = h.1
text os (inr (inl h)) = absurd (false≢true (ap (λ name. bytes_eq name failure) h.0))
text os (inr (inr h)) = absurd h

fails : Covers (failing ∷ []) raises
fails = record { at = λ name os h. by name os h }
  where
    by : (name : List ℕ) (os : List Object) → Takes (failing ∷ []) name os → Takes raises name os
    by name os (inl h) = inl h
    by name os (inr h) = absurd h

compares : Covers (raised_by quiet) raises
compares = fails

adds : Covers (raised_by (overflow quiet)) raises
adds = record { at = λ name os h. h }

module _ (given : Actuals) where
  less : HasOperation counting lawful (running given) raises (codes "lt") int_type (one int_type) (one bool_type)
  less = inl (record { object = refl; plain = refl; args = two int_type int_type; signals = quiet; heading = refl; may = refl; law = refl; fit = refl; raises = compares })

  sum : HasOperation counting lawful (running given) raises (codes "add") int_type (one int_type) (one int_type)
  sum = inl (record { object = refl; plain = refl; args = two int_type int_type; signals = overflow quiet; heading = refl; may = refl; law = refl; fit = refl; raises = adds })

  start_typed : RoutineWellTyped counting lawful (running given)
  start_typed = record {
    raises = raises;
    text = text;
    set_up = tt;
    body = (
      (one int_type, refl, record { types = one int_type; declared = (refl, tt); fit = refl }),
      (
        (
          (int_type, one int_type, (int_type, refl, refl, fails), (refl, tt), less),
          ((one int_type, ((int_type, one int_type, (int_type, refl, refl, fails), (refl, tt), sum), tt), record { types = one int_type; declared = (refl, tt); fit = refl }), tt),
        ),
        ((no_types, tt, refl, refl), tt),
      ),
    );
    shared = λ cluster e. absurd (none_some e);
  }

-- the start alone is lawful and defined
typed : (p : Routine) (r : Running) → defined counting p ≡ Some r → lawful p → RoutineWellTyped counting lawful r
typed (module_routine m given) r e law =
    let start : m ≡ codes "start" = same_bytes m (codes "start") law in
    subst (RoutineWellTyped counting lawful) (some_is (subst (λ n. defined counting (module_routine n given) ≡ Some r) start e)) (start_typed given)
typed (operation_of int_type op) r e law = by (or_cases (bytes_eq op (codes "lt")) (bytes_eq op (codes "add")) law)
  where
    by : ((bytes_eq op (codes "lt") ≡ true) ⊎ (bytes_eq op (codes "add") ≡ true)) → RoutineWellTyped counting lawful r
    by (inl h) = absurd (none_some (subst (λ n. defined counting (operation_of int_type n) ≡ Some r) (same_bytes op (codes "lt") h) e))
    by (inr h) = absurd (none_some (subst (λ n. defined counting (operation_of int_type n) ≡ Some r) (same_bytes op (codes "add") h) e))
typed _ r e law = absurd (false≢true law)

pub counting_typed : IsWellTyped counting counting_lawful
counting_typed = record { headings = (record { declared = tt; formals = tt; results = tt; signals = tt }, tt); routines = typed }
