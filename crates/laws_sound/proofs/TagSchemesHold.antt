-- Each scheme of a oneof or variant that is lawful is well typed.
use Rattle.std.proofs.Common.{◌≡◌, ℕ, Bool, true, false, List, [], ◌∷◌, Option, None, Some, refl, sym, ap, subst, cond}
use Rattle.std.specs.Prelude.{◌||◌, bytes_eq, codes}
use Rattle.clu_base.proofs.Lists.{same_bytes}
use Rattle.clu_types.specs.CluType.{CluType, bool_type, oneof_of, variant_of, Fields}
use Rattle.clu_types.proofs.Identity.{substituted-none}
use Rattle.clu_builtin.specs.Operation.{one}
use Rattle.clu_builtin.specs.Table.{or_else, named, struct_operations, record_operations, parts_of}
use Rattle.clu_layout.specs.Objects.{Routine, operation_of}
use Rattle.clu_layout.specs.SameType.{all_fit}
use Rattle.clu_meaning.specs.Programs.{RoutineDefinition, Program}
use Rattle.clu_meaning.specs.State.{Instance}
use Rattle.clu_meaning.specs.Schemes.{tags_comparing, tags_copying, by_tag, scheme, scheme_among, applied_by}
use Rattle.clu_meaning.specs.Texts.{text_of}
use Rattle.clu_meaning.proofs.TypedElements.{IfThere, if_found}
use Rattle.laws_sound.specs.Sound.{RoutineWellTyped}
use Rattle.laws_sound.specs.Builtins.{AreDistinct, BuiltinsLawful}
use Rattle.laws_sound.proofs.TextHeadings.{text_runs, no_oneof_selector, no_variant_selector}
use Rattle.laws_sound.proofs.TextsTyped.{text_raises, text_fails, fails}
use Rattle.laws_sound.proofs.Invoking.{fit_same}
use Rattle.laws_sound.proofs.SchemesTyped.{all_there, compare_each, copy_each}
use Rattle.laws_sound.proofs.TagSchemes.{numbered_one, numbered_two, oneof_makes, variant_makes, compares_arms, copies_arms, comparing_exhausts, copying_exhausts}

none_some : {A : Type 0} {x : A} → None ≡ Some x → ⊥
none_some e = subst is_none e tt
  where
    is_none : {A : Type 0} → Option A → Type 0
    is_none None = Unit {0}
    is_none (Some x) = ⊥

module _ (program : Program) (lawful : Routine → Type 0) (closed : BuiltinsLawful program lawful) (i : Instance) where
  scheme_typed : (T : CluType) (first second op : List ℕ) (fs : Fields) → lawful (operation_of T op) →
      (lawful (operation_of T first) → RoutineWellTyped program lawful (text_runs i T (scheme first (T ∷ T ∷ []) bool_type fs (by_tag (tags_comparing (applied_by first) 2 fs))))) →
      (lawful (operation_of T second) → RoutineWellTyped program lawful (text_runs i T (scheme second (T ∷ T ∷ []) bool_type fs (by_tag (tags_comparing (applied_by second) 2 fs))))) →
      (lawful (operation_of T (codes "copy")) → RoutineWellTyped program lawful (text_runs i T (scheme (codes "copy") (T ∷ []) T fs (by_tag (tags_copying T 2 fs))))) →
      IfThere (λ x. RoutineWellTyped program lawful (text_runs i T x)) (scheme_among (first ∷ second ∷ []) op T fs (by_tag (tags_comparing (applied_by op) 2 fs)) (by_tag (tags_copying T 2 fs)))
  scheme_typed T first second op fs law first_typed second_typed copy_typed = by (bytes_eq first op) (bytes_eq second op) (bytes_eq op (codes "copy")) refl refl refl
    where
      at : (name : List ℕ) → (lawful (operation_of T name) → RoutineWellTyped program lawful (text_runs i T (scheme name (T ∷ T ∷ []) bool_type fs (by_tag (tags_comparing (applied_by name) 2 fs))))) → bytes_eq name op ≡ true →
          RoutineWellTyped program lawful (text_runs i T (scheme op (T ∷ T ∷ []) bool_type fs (by_tag (tags_comparing (applied_by op) 2 fs))))
      at name h e = subst (λ n. lawful (operation_of T n) → RoutineWellTyped program lawful (text_runs i T (scheme n (T ∷ T ∷ []) bool_type fs (by_tag (tags_comparing (applied_by n) 2 fs))))) (same_bytes name op e) h law

      by : (a b c : Bool) → bytes_eq first op ≡ a → bytes_eq second op ≡ b → bytes_eq op (codes "copy") ≡ c →
          IfThere (λ x. RoutineWellTyped program lawful (text_runs i T x)) (cond (a || (b || false)) (Some (scheme op (T ∷ T ∷ []) bool_type fs (by_tag (tags_comparing (applied_by op) 2 fs)))) (cond c (Some (scheme (codes "copy") (T ∷ []) T fs (by_tag (tags_copying T 2 fs)))) None))
      by true b c x y z = at first first_typed x
      by false true c x y z = at second second_typed y
      by false false true x y z = copy_typed (subst (λ n. lawful (operation_of T n)) (same_bytes op (codes "copy") z) law)
      by false false false x y z = tt

  oneof_equal : (fs : Fields) → AreDistinct fs → lawful (operation_of (oneof_of fs) (codes "equal")) → RoutineWellTyped program lawful (text_runs i (oneof_of fs) (scheme (codes "equal") ((oneof_of fs) ∷ (oneof_of fs) ∷ []) bool_type fs (by_tag (tags_comparing (codes "equal") 2 fs))))
  oneof_equal fs distinct law = record {
    raises = text_raises;
    text = text_fails;
    set_up = tt;
    body = (
      (
        (oneof_of fs),
        fs,
        ((oneof_of fs), ap Some (substituted-none (oneof_of fs)), refl, fails),
        refl,
        comparing_exhausts (codes "equal") fs 2,
        compares_arms program lawful closed (oneof_of fs) fs refl (text_runs i (oneof_of fs) (scheme (codes "equal") ((oneof_of fs) ∷ (oneof_of fs) ∷ []) bool_type fs (by_tag (tags_comparing (codes "equal") 2 fs)))) refl refl (codes "equal") (ap Some (substituted-none (oneof_of fs))) refl refl fs 2 (all_there fs distinct) (numbered_two (oneof_of fs) fs)
            (compare_each program lawful closed (codes "equal") fs (closed.needs (oneof_of fs) (codes "equal") _ law (ap (λ o. or_else o (named (struct_operations (oneof_of fs) (parts_of fs)) (codes "equal"))) (no_oneof_selector (codes "equal") (oneof_of fs) (λ s t. refl) fs)))),
        tt,
      ),
      tt,
    );
    shared = λ cluster e. absurd (none_some e);
  }

  oneof_similar : (fs : Fields) → AreDistinct fs → lawful (operation_of (oneof_of fs) (codes "similar")) → RoutineWellTyped program lawful (text_runs i (oneof_of fs) (scheme (codes "similar") ((oneof_of fs) ∷ (oneof_of fs) ∷ []) bool_type fs (by_tag (tags_comparing (codes "similar") 2 fs))))
  oneof_similar fs distinct law = record {
    raises = text_raises;
    text = text_fails;
    set_up = tt;
    body = (
      (
        (oneof_of fs),
        fs,
        ((oneof_of fs), ap Some (substituted-none (oneof_of fs)), refl, fails),
        refl,
        comparing_exhausts (codes "similar") fs 2,
        compares_arms program lawful closed (oneof_of fs) fs refl (text_runs i (oneof_of fs) (scheme (codes "similar") ((oneof_of fs) ∷ (oneof_of fs) ∷ []) bool_type fs (by_tag (tags_comparing (codes "similar") 2 fs)))) refl refl (codes "similar") (ap Some (substituted-none (oneof_of fs))) refl refl fs 2 (all_there fs distinct) (numbered_two (oneof_of fs) fs)
            (compare_each program lawful closed (codes "similar") fs (closed.needs (oneof_of fs) (codes "similar") _ law (ap (λ o. or_else o (named (struct_operations (oneof_of fs) (parts_of fs)) (codes "similar"))) (no_oneof_selector (codes "similar") (oneof_of fs) (λ s t. refl) fs)))),
        tt,
      ),
      tt,
    );
    shared = λ cluster e. absurd (none_some e);
  }

  oneof_copy : (fs : Fields) → AreDistinct fs → lawful (operation_of (oneof_of fs) (codes "copy")) → RoutineWellTyped program lawful (text_runs i (oneof_of fs) (scheme (codes "copy") ((oneof_of fs) ∷ []) (oneof_of fs) fs (by_tag (tags_copying (oneof_of fs) 2 fs))))
  oneof_copy fs distinct law = record {
    raises = text_raises;
    text = text_fails;
    set_up = tt;
    body = (
      (
        (oneof_of fs),
        fs,
        ((oneof_of fs), ap Some (substituted-none (oneof_of fs)), refl, fails),
        refl,
        copying_exhausts (oneof_of fs) fs 2,
        copies_arms program lawful closed (oneof_of fs) fs refl (text_runs i (oneof_of fs) (scheme (codes "copy") ((oneof_of fs) ∷ []) (oneof_of fs) fs (by_tag (tags_copying (oneof_of fs) 2 fs)))) refl refl (subst (λ v. all_fit (one (oneof_of fs)) (one v) ≡ true) (sym (substituted-none (oneof_of fs))) (fit_same (one (oneof_of fs)))) refl fs 2 (all_there fs distinct) (numbered_one (oneof_of fs) fs)
            (oneof_makes program lawful closed fs fs (codes "copy") law (all_there fs distinct)) (copy_each program lawful closed fs (closed.needs (oneof_of fs) (codes "copy") _ law (ap (λ o. or_else o (named (struct_operations (oneof_of fs) (parts_of fs)) (codes "copy"))) (no_oneof_selector (codes "copy") (oneof_of fs) (λ s t. refl) fs)))),
        tt,
      ),
      tt,
    );
    shared = λ cluster e. absurd (none_some e);
  }

  pub oneof_schemes : (fs : Fields) (op : List ℕ) (d : RoutineDefinition) → AreDistinct fs → text_of (oneof_of fs) op ≡ Some d → lawful (operation_of (oneof_of fs) op) → RoutineWellTyped program lawful (text_runs i (oneof_of fs) d)
  oneof_schemes fs op d distinct e law = if_found (λ x. RoutineWellTyped program lawful (text_runs i (oneof_of fs) x)) (text_of (oneof_of fs) op) d e
      (scheme_typed (oneof_of fs) (codes "equal") (codes "similar") op fs law (oneof_equal fs distinct) (oneof_similar fs distinct) (oneof_copy fs distinct))

  variant_similar : (fs : Fields) → AreDistinct fs → lawful (operation_of (variant_of fs) (codes "similar")) → RoutineWellTyped program lawful (text_runs i (variant_of fs) (scheme (codes "similar") ((variant_of fs) ∷ (variant_of fs) ∷ []) bool_type fs (by_tag (tags_comparing (codes "similar") 2 fs))))
  variant_similar fs distinct law = record {
    raises = text_raises;
    text = text_fails;
    set_up = tt;
    body = (
      (
        (variant_of fs),
        fs,
        ((variant_of fs), ap Some (substituted-none (variant_of fs)), refl, fails),
        refl,
        comparing_exhausts (codes "similar") fs 2,
        compares_arms program lawful closed (variant_of fs) fs refl (text_runs i (variant_of fs) (scheme (codes "similar") ((variant_of fs) ∷ (variant_of fs) ∷ []) bool_type fs (by_tag (tags_comparing (codes "similar") 2 fs)))) refl refl (codes "similar") (ap Some (substituted-none (variant_of fs))) refl refl fs 2 (all_there fs distinct) (numbered_two (variant_of fs) fs)
            (compare_each program lawful closed (codes "similar") fs (closed.needs (variant_of fs) (codes "similar") _ law (ap (λ o. or_else o (named (record_operations (variant_of fs) (parts_of fs)) (codes "similar"))) (no_variant_selector (codes "similar") (variant_of fs) (λ s t. refl) fs)))),
        tt,
      ),
      tt,
    );
    shared = λ cluster e. absurd (none_some e);
  }

  variant_similar1 : (fs : Fields) → AreDistinct fs → lawful (operation_of (variant_of fs) (codes "similar1")) → RoutineWellTyped program lawful (text_runs i (variant_of fs) (scheme (codes "similar1") ((variant_of fs) ∷ (variant_of fs) ∷ []) bool_type fs (by_tag (tags_comparing (codes "equal") 2 fs))))
  variant_similar1 fs distinct law = record {
    raises = text_raises;
    text = text_fails;
    set_up = tt;
    body = (
      (
        (variant_of fs),
        fs,
        ((variant_of fs), ap Some (substituted-none (variant_of fs)), refl, fails),
        refl,
        comparing_exhausts (codes "equal") fs 2,
        compares_arms program lawful closed (variant_of fs) fs refl (text_runs i (variant_of fs) (scheme (codes "similar1") ((variant_of fs) ∷ (variant_of fs) ∷ []) bool_type fs (by_tag (tags_comparing (codes "equal") 2 fs)))) refl refl (codes "equal") (ap Some (substituted-none (variant_of fs))) refl refl fs 2 (all_there fs distinct) (numbered_two (variant_of fs) fs)
            (compare_each program lawful closed (codes "equal") fs (closed.needs (variant_of fs) (codes "similar1") _ law (ap (λ o. or_else o (named (record_operations (variant_of fs) (parts_of fs)) (codes "similar1"))) (no_variant_selector (codes "similar1") (variant_of fs) (λ s t. refl) fs)))),
        tt,
      ),
      tt,
    );
    shared = λ cluster e. absurd (none_some e);
  }

  variant_copy : (fs : Fields) → AreDistinct fs → lawful (operation_of (variant_of fs) (codes "copy")) → RoutineWellTyped program lawful (text_runs i (variant_of fs) (scheme (codes "copy") ((variant_of fs) ∷ []) (variant_of fs) fs (by_tag (tags_copying (variant_of fs) 2 fs))))
  variant_copy fs distinct law = record {
    raises = text_raises;
    text = text_fails;
    set_up = tt;
    body = (
      (
        (variant_of fs),
        fs,
        ((variant_of fs), ap Some (substituted-none (variant_of fs)), refl, fails),
        refl,
        copying_exhausts (variant_of fs) fs 2,
        copies_arms program lawful closed (variant_of fs) fs refl (text_runs i (variant_of fs) (scheme (codes "copy") ((variant_of fs) ∷ []) (variant_of fs) fs (by_tag (tags_copying (variant_of fs) 2 fs)))) refl refl (subst (λ v. all_fit (one (variant_of fs)) (one v) ≡ true) (sym (substituted-none (variant_of fs))) (fit_same (one (variant_of fs)))) refl fs 2 (all_there fs distinct) (numbered_one (variant_of fs) fs)
            (variant_makes program lawful closed fs fs (codes "copy") law (all_there fs distinct)) (copy_each program lawful closed fs (closed.needs (variant_of fs) (codes "copy") _ law (ap (λ o. or_else o (named (record_operations (variant_of fs) (parts_of fs)) (codes "copy"))) (no_variant_selector (codes "copy") (variant_of fs) (λ s t. refl) fs)))),
        tt,
      ),
      tt,
    );
    shared = λ cluster e. absurd (none_some e);
  }

  pub variant_schemes : (fs : Fields) (op : List ℕ) (d : RoutineDefinition) → AreDistinct fs → text_of (variant_of fs) op ≡ Some d → lawful (operation_of (variant_of fs) op) → RoutineWellTyped program lawful (text_runs i (variant_of fs) d)
  variant_schemes fs op d distinct e law = if_found (λ x. RoutineWellTyped program lawful (text_runs i (variant_of fs) x)) (text_of (variant_of fs) op) d e
      (scheme_typed (variant_of fs) (codes "similar") (codes "similar1") op fs law (variant_similar fs distinct) (variant_similar1 fs distinct) (variant_copy fs distinct))
