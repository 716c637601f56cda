-- Each scheme of a struct or record that is lawful is well typed.
use Rattle.std.proofs.Common.{◌≡◌, ℕ, Bool, true, false, List, [], ◌∷◌, Option, None, Some, refl, ap, subst, cond}
use Rattle.std.specs.Prelude.{◌||◌, bytes_eq, codes}
use Rattle.clu_base.proofs.Lists.{same_bytes}
use Rattle.clu_types.specs.CluType.{CluType, bool_type, record_of, struct_of, Fields}
use Rattle.clu_builtin.specs.Table.{or_else, named, struct_operations, record_operations, parts_of}
use Rattle.clu_layout.specs.Objects.{Routine, operation_of}
use Rattle.clu_meaning.specs.Programs.{RoutineDefinition, Program}
use Rattle.clu_meaning.specs.State.{Instance}
use Rattle.clu_meaning.specs.Schemes.{comparing, copying, scheme, scheme_among, applied_by}
use Rattle.clu_meaning.specs.Texts.{text_of}
use Rattle.clu_meaning.proofs.TypedElements.{IfThere, if_found}
use Rattle.laws_sound.specs.Sound.{RoutineWellTyped}
use Rattle.laws_sound.specs.Builtins.{AreDistinct, BuiltinsLawful}
use Rattle.laws_sound.proofs.TextHeadings.{text_runs, no_struct_selector, no_record_selector}
use Rattle.laws_sound.proofs.TextsTyped.{text_raises, text_fails}
use Rattle.laws_sound.proofs.SchemesTyped.{all_there, whole_fit, struct_gets, record_gets, compare_each, copy_each, compares_typed, copies_typed}

none_some : {A : Type 0} {x : A} → None ≡ Some x → ⊥
none_some e = subst is_none e tt
  where
    is_none : {A : Type 0} → Option A → Type 0
    is_none None = Unit {0}
    is_none (Some x) = ⊥

module _ (program : Program) (lawful : Routine → Type 0) (closed : BuiltinsLawful program lawful) (i : Instance) where
  scheme_typed : (T : CluType) (first second op : List ℕ) (fs : Fields) → lawful (operation_of T op) →
      (lawful (operation_of T first) → RoutineWellTyped program lawful (text_runs i T (scheme first (T ∷ T ∷ []) bool_type fs (comparing (applied_by first) fs)))) →
      (lawful (operation_of T second) → RoutineWellTyped program lawful (text_runs i T (scheme second (T ∷ T ∷ []) bool_type fs (comparing (applied_by second) fs)))) →
      (lawful (operation_of T (codes "copy")) → RoutineWellTyped program lawful (text_runs i T (scheme (codes "copy") (T ∷ []) T fs (copying T fs)))) →
      IfThere (λ x. RoutineWellTyped program lawful (text_runs i T x)) (scheme_among (first ∷ second ∷ []) op T fs (comparing (applied_by op) fs) (copying T fs))
  scheme_typed T first second op fs law one two copy = by (bytes_eq first op) (bytes_eq second op) (bytes_eq op (codes "copy")) refl refl refl
    where
      at : (name : List ℕ) → (lawful (operation_of T name) → RoutineWellTyped program lawful (text_runs i T (scheme name (T ∷ T ∷ []) bool_type fs (comparing (applied_by name) fs)))) → bytes_eq name op ≡ true →
          RoutineWellTyped program lawful (text_runs i T (scheme op (T ∷ T ∷ []) bool_type fs (comparing (applied_by op) fs)))
      at name h e = subst (λ n. lawful (operation_of T n) → RoutineWellTyped program lawful (text_runs i T (scheme n (T ∷ T ∷ []) bool_type fs (comparing (applied_by n) fs)))) (same_bytes name op e) h law

      by : (a b c : Bool) → bytes_eq first op ≡ a → bytes_eq second op ≡ b → bytes_eq op (codes "copy") ≡ c →
          IfThere (λ x. RoutineWellTyped program lawful (text_runs i T x)) (cond (a || (b || false)) (Some (scheme op (T ∷ T ∷ []) bool_type fs (comparing (applied_by op) fs))) (cond c (Some (scheme (codes "copy") (T ∷ []) T fs (copying T fs))) None))
      by true b c x y z = at first one x
      by false true c x y z = at second two y
      by false false true x y z = copy (subst (λ n. lawful (operation_of T n)) (same_bytes op (codes "copy") z) law)
      by false false false x y z = tt

  struct_equal : (fs : Fields) → AreDistinct fs → lawful (operation_of (struct_of fs) (codes "equal")) → RoutineWellTyped program lawful (text_runs i (struct_of fs) (scheme (codes "equal") ((struct_of fs) ∷ (struct_of fs) ∷ []) bool_type fs (comparing (codes "equal") fs)))
  struct_equal fs d law = record {
    raises = text_raises;
    text = text_fails;
    set_up = tt;
    body = compares_typed program lawful closed (struct_of fs) refl refl i (codes "equal") (codes "equal") fs (comparing (codes "equal") fs) fs (struct_gets program lawful closed fs fs (codes "equal") law (all_there fs d))
        (compare_each program lawful closed (codes "equal") fs (closed.needs (struct_of fs) (codes "equal") _ law (ap (λ o. or_else o (named (struct_operations (struct_of fs) (parts_of fs)) (codes "equal"))) (no_struct_selector (codes "equal") (struct_of fs) (λ s t. refl) fs))));
    shared = λ cluster e. absurd (none_some e);
  }

  struct_similar : (fs : Fields) → AreDistinct fs → lawful (operation_of (struct_of fs) (codes "similar")) → RoutineWellTyped program lawful (text_runs i (struct_of fs) (scheme (codes "similar") ((struct_of fs) ∷ (struct_of fs) ∷ []) bool_type fs (comparing (codes "similar") fs)))
  struct_similar fs d law = record {
    raises = text_raises;
    text = text_fails;
    set_up = tt;
    body = compares_typed program lawful closed (struct_of fs) refl refl i (codes "similar") (codes "similar") fs (comparing (codes "similar") fs) fs (struct_gets program lawful closed fs fs (codes "similar") law (all_there fs d))
        (compare_each program lawful closed (codes "similar") fs (closed.needs (struct_of fs) (codes "similar") _ law (ap (λ o. or_else o (named (struct_operations (struct_of fs) (parts_of fs)) (codes "similar"))) (no_struct_selector (codes "similar") (struct_of fs) (λ s t. refl) fs))));
    shared = λ cluster e. absurd (none_some e);
  }

  struct_copy : (fs : Fields) → AreDistinct fs → lawful (operation_of (struct_of fs) (codes "copy")) → RoutineWellTyped program lawful (text_runs i (struct_of fs) (scheme (codes "copy") ((struct_of fs) ∷ []) (struct_of fs) fs (copying (struct_of fs) fs)))
  struct_copy fs d law = record {
    raises = text_raises;
    text = text_fails;
    set_up = tt;
    body = copies_typed program lawful closed (struct_of fs) refl refl i fs (copying (struct_of fs) fs) (struct_gets program lawful closed fs fs (codes "copy") law (all_there fs d))
        (copy_each program lawful closed fs (closed.needs (struct_of fs) (codes "copy") _ law (ap (λ o. or_else o (named (struct_operations (struct_of fs) (parts_of fs)) (codes "copy"))) (no_struct_selector (codes "copy") (struct_of fs) (λ s t. refl) fs)))) (whole_fit fs d);
    shared = λ cluster e. absurd (none_some e);
  }

  pub struct_schemes : (fs : Fields) (op : List ℕ) (d : RoutineDefinition) → AreDistinct fs → text_of (struct_of fs) op ≡ Some d → lawful (operation_of (struct_of fs) op) → RoutineWellTyped program lawful (text_runs i (struct_of fs) d)
  struct_schemes fs op d distinct e law = if_found (λ x. RoutineWellTyped program lawful (text_runs i (struct_of fs) x)) (text_of (struct_of fs) op) d e
      (scheme_typed (struct_of fs) (codes "equal") (codes "similar") op fs law (struct_equal fs distinct) (struct_similar fs distinct) (struct_copy fs distinct))

  record_similar : (fs : Fields) → AreDistinct fs → lawful (operation_of (record_of fs) (codes "similar")) → RoutineWellTyped program lawful (text_runs i (record_of fs) (scheme (codes "similar") ((record_of fs) ∷ (record_of fs) ∷ []) bool_type fs (comparing (codes "similar") fs)))
  record_similar fs d law = record {
    raises = text_raises;
    text = text_fails;
    set_up = tt;
    body = compares_typed program lawful closed (record_of fs) refl refl i (codes "similar") (codes "similar") fs (comparing (codes "similar") fs) fs (record_gets program lawful closed fs fs (codes "similar") law (all_there fs d))
        (compare_each program lawful closed (codes "similar") fs (closed.needs (record_of fs) (codes "similar") _ law (ap (λ o. or_else o (named (record_operations (record_of fs) (parts_of fs)) (codes "similar"))) (no_record_selector (codes "similar") (record_of fs) (λ s t. refl) fs))));
    shared = λ cluster e. absurd (none_some e);
  }

  record_similar1 : (fs : Fields) → AreDistinct fs → lawful (operation_of (record_of fs) (codes "similar1")) → RoutineWellTyped program lawful (text_runs i (record_of fs) (scheme (codes "similar1") ((record_of fs) ∷ (record_of fs) ∷ []) bool_type fs (comparing (codes "equal") fs)))
  record_similar1 fs d law = record {
    raises = text_raises;
    text = text_fails;
    set_up = tt;
    body = compares_typed program lawful closed (record_of fs) refl refl i (codes "similar1") (codes "equal") fs (comparing (codes "equal") fs) fs (record_gets program lawful closed fs fs (codes "similar1") law (all_there fs d))
        (compare_each program lawful closed (codes "equal") fs (closed.needs (record_of fs) (codes "similar1") _ law (ap (λ o. or_else o (named (record_operations (record_of fs) (parts_of fs)) (codes "similar1"))) (no_record_selector (codes "similar1") (record_of fs) (λ s t. refl) fs))));
    shared = λ cluster e. absurd (none_some e);
  }

  record_copy : (fs : Fields) → AreDistinct fs → lawful (operation_of (record_of fs) (codes "copy")) → RoutineWellTyped program lawful (text_runs i (record_of fs) (scheme (codes "copy") ((record_of fs) ∷ []) (record_of fs) fs (copying (record_of fs) fs)))
  record_copy fs d law = record {
    raises = text_raises;
    text = text_fails;
    set_up = tt;
    body = copies_typed program lawful closed (record_of fs) refl refl i fs (copying (record_of fs) fs) (record_gets program lawful closed fs fs (codes "copy") law (all_there fs d))
        (copy_each program lawful closed fs (closed.needs (record_of fs) (codes "copy") _ law (ap (λ o. or_else o (named (record_operations (record_of fs) (parts_of fs)) (codes "copy"))) (no_record_selector (codes "copy") (record_of fs) (λ s t. refl) fs)))) (whole_fit fs d);
    shared = λ cluster e. absurd (none_some e);
  }

  pub record_schemes : (fs : Fields) (op : List ℕ) (d : RoutineDefinition) → AreDistinct fs → text_of (record_of fs) op ≡ Some d → lawful (operation_of (record_of fs) op) → RoutineWellTyped program lawful (text_runs i (record_of fs) d)
  record_schemes fs op d distinct e law = if_found (λ x. RoutineWellTyped program lawful (text_runs i (record_of fs) x)) (text_of (record_of fs) op) d e
      (scheme_typed (record_of fs) (codes "similar") (codes "similar1") op fs law (record_similar fs distinct) (record_similar1 fs distinct) (record_copy fs distinct))
