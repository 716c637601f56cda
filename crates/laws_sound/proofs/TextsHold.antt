-- Each text of a built-in operation that is lawful, and each scheme, is well typed; so a program is if its modules are.
use Rattle.std.proofs.Common.{◌≡◌, ℕ, Bool, true, false, List, [], ◌∷◌, Option, None, Some, refl, sym, ap, subst, ◌∙◌, cond}
use Rattle.std.specs.Prelude.{bytes_eq, codes}
use Rattle.std.specs.Option.{option_map}
use Rattle.std.proofs.lemmas.Bool.{false≢true}
use Rattle.clu_base.proofs.Lists.{same_bytes}
use Rattle.clu_types.specs.CluType.{CluType, int_type, string_type, bool_type, array_of, sequence_of, record_of, struct_of, oneof_of, variant_of, cluster_of}
use Rattle.clu_builtin.specs.Operation.{one, two}
use Rattle.clu_syntax.specs.Syntax as syntax
use Rattle.clu_layout.specs.Objects.{Routine, module_routine, operation_of, force_of}
use Rattle.clu_meaning.specs.Programs.{RoutineDefinition, Program}
use Rattle.clu_meaning.specs.State.{Instance, of_routine}
use Rattle.clu_meaning.specs.Binding.{Running}
use Rattle.clu_meaning.specs.Operations.{with_definition, defined}
use Rattle.clu_meaning.specs.Texts.{Texts, int_texts, string_texts, array_texts, sequence_texts, text_named, defined_by, text_of, text_given}
use Rattle.clu_meaning.proofs.TypedElements.{IfThere, if_found}
use Rattle.laws_sound.specs.Sound.{RoutineWellTyped, ProgramWellTyped}
use Rattle.laws_sound.specs.Builtins.{BuiltinsLawful, ModulesWellTyped}
use Rattle.laws_sound.proofs.TextHeadings.{is_cluster, text_runs, of_type_is}
use Rattle.laws_sound.proofs.TextsTyped.{met_applies, from_to_typed, from_to_by_typed, chars_typed, array_elements_typed, array_indexes_typed, array_similar_typed, array_similar1_typed, array_copy_typed, sequence_elements_typed, sequence_indexes_typed, sequence_equal_typed, sequence_similar_typed, sequence_copy_typed}
use Rattle.laws_sound.proofs.SchemesHold.{struct_schemes, record_schemes}
use Rattle.laws_sound.proofs.TagSchemesHold.{oneof_schemes, variant_schemes}

none_some : {A : Type 0} {x : A} → None ≡ Some x → ⊥
none_some e = subst is_none e tt
  where
    is_none : {A : Type 0} → Option A → Type 0
    is_none None = Unit {0}
    is_none (Some x) = ⊥

some_is : {A : Type 0} {x y : A} → Some x ≡ Some y → x ≡ y
some_is {A} {x} {y} e = ap (λ o. get o x) e
  where
    get : Option A → A → A
    get (Some z) other = z
    get None other = other

module _ (program : Program) (lawful : Routine → Type 0) (closed : BuiltinsLawful program lawful) (i : Instance) where
  -- ---- the texts of a type by name

  module _ (T : CluType) (op : List ℕ) (law : lawful (operation_of T op)) where
    abbrev IsTyped : RoutineDefinition → Type 0
    IsTyped d = RoutineWellTyped program lawful (text_runs i T d)

    abbrev EachTyped : Texts → Type 0
    EachTyped [] = Unit {0}
    EachTyped (x ∷ xs) = (bytes_eq x.name op ≡ true → IsTyped (defined_by x)) × EachTyped xs

    chosen_typed : (b : Bool) (x : syntax.Routine) (others : Option syntax.Routine) → (b ≡ true → IsTyped (defined_by x)) → IfThere IsTyped (option_map defined_by others) → IfThere IsTyped (option_map defined_by (cond b (Some x) others))
    chosen_typed true x others h k = h refl
    chosen_typed false x others h k = k

    named_typed : (xs : Texts) → EachTyped xs → IfThere IsTyped (option_map defined_by (text_named xs op))
    named_typed [] h = tt
    named_typed (x ∷ xs) h = chosen_typed (bytes_eq x.name op) x (text_named xs op) h.0 (named_typed xs h.1)

    -- the law at the name of a text
    at : (name : List ℕ) → bytes_eq name op ≡ true → lawful (operation_of T name)
    at name e = subst (λ n. lawful (operation_of T n)) (sym (same_bytes name op e)) law

  ints_hold : (op : List ℕ) (law : lawful (operation_of int_type op)) → EachTyped int_type op law int_texts
  ints_hold op law = ((λ e. from_to_typed program lawful closed i), ((λ e. from_to_by_typed program lawful closed i), tt))

  strings_hold : (op : List ℕ) (law : lawful (operation_of string_type op)) → EachTyped string_type op law string_texts
  strings_hold op law = ((λ e. chars_typed program lawful closed i (at string_type op law (codes "chars") e)), tt)

  arrays_hold : (u : CluType) (op : List ℕ) (law : lawful (operation_of (array_of u) op)) → EachTyped (array_of u) op law array_texts
  arrays_hold u op law = (
    (λ e. array_elements_typed program lawful closed u i (at (array_of u) op law (codes "elements") e)),
    (
      (λ e. array_indexes_typed program lawful closed u i (at (array_of u) op law (codes "indexes") e)),
      (
        (λ e. let here = at (array_of u) op law (codes "similar") e in
            array_similar_typed program lawful closed u i here (met_applies program lawful u (codes "similar") (two u u) (one bool_type) (closed.needs (array_of u) (codes "similar") _ here refl).0)),
        (
          (λ e. let here = at (array_of u) op law (codes "similar1") e in
              array_similar1_typed program lawful closed u i here (met_applies program lawful u (codes "equal") (two u u) (one bool_type) (closed.needs (array_of u) (codes "similar1") _ here refl).0)),
          (
            (λ e. let here = at (array_of u) op law (codes "copy") e in
                array_copy_typed program lawful closed u i here (met_applies program lawful u (codes "copy") (one u) (one u) (closed.needs (array_of u) (codes "copy") _ here refl).0)),
            tt,
          ),
        ),
      ),
    ),
  )

  sequences_hold : (u : CluType) (op : List ℕ) (law : lawful (operation_of (sequence_of u) op)) → EachTyped (sequence_of u) op law sequence_texts
  sequences_hold u op law = (
    (λ e. sequence_elements_typed program lawful closed u i (at (sequence_of u) op law (codes "elements") e)),
    (
      (λ e. sequence_indexes_typed program lawful closed u i (at (sequence_of u) op law (codes "indexes") e)),
      (
        (λ e. let here = at (sequence_of u) op law (codes "equal") e in
            sequence_equal_typed program lawful closed u i here (met_applies program lawful u (codes "equal") (two u u) (one bool_type) (closed.needs (sequence_of u) (codes "equal") _ here refl).0)),
        (
          (λ e. let here = at (sequence_of u) op law (codes "similar") e in
              sequence_similar_typed program lawful closed u i here (met_applies program lawful u (codes "similar") (two u u) (one bool_type) (closed.needs (sequence_of u) (codes "similar") _ here refl).0)),
          (
            (λ e. let here = at (sequence_of u) op law (codes "copy") e in
                sequence_copy_typed program lawful closed u i here (met_applies program lawful u (codes "copy") (one u) (one u) (closed.needs (sequence_of u) (codes "copy") _ here refl).0)),
            tt,
          ),
        ),
      ),
    ),
  )

  pub texts_typed : (T : CluType) (op : List ℕ) (d : RoutineDefinition) → text_of T op ≡ Some d → lawful (operation_of T op) → RoutineWellTyped program lawful (text_runs i T d)
  texts_typed int_type op d e law = if_found (IsTyped int_type op law) (text_of int_type op) d e (named_typed int_type op law int_texts (ints_hold op law))
  texts_typed string_type op d e law = if_found (IsTyped string_type op law) (text_of string_type op) d e (named_typed string_type op law string_texts (strings_hold op law))
  texts_typed (array_of u) op d e law = if_found (IsTyped (array_of u) op law) (text_of (array_of u) op) d e (named_typed (array_of u) op law array_texts (arrays_hold u op law))
  texts_typed (sequence_of u) op d e law = if_found (IsTyped (sequence_of u) op law) (text_of (sequence_of u) op) d e (named_typed (sequence_of u) op law sequence_texts (sequences_hold u op law))
  texts_typed (record_of fs) op d e law = record_schemes program lawful closed i fs op d (closed.distinct (record_of fs) op law) e law
  texts_typed (struct_of fs) op d e law = struct_schemes program lawful closed i fs op d (closed.distinct (struct_of fs) op law) e law
  texts_typed (oneof_of fs) op d e law = oneof_schemes program lawful closed i fs op d (closed.distinct (oneof_of fs) op law) e law
  texts_typed (variant_of fs) op d e law = variant_schemes program lawful closed i fs op d (closed.distinct (variant_of fs) op law) e law
  texts_typed _ op d e law = absurd (none_some e)

-- ---- the modules are enough

module _ (program : Program) (lawful : Routine → Type 0) (modules : ModulesWellTyped program lawful) where
  text_routine : (T : CluType) (op : List ℕ) (r : Running) → lawful (operation_of T op) → (found : Option RoutineDefinition) → text_of T op ≡ found → with_definition (operation_of T op) (text_given T) None found ≡ Some r → RoutineWellTyped program lawful r
  text_routine T op r law (Some d) is e = subst (RoutineWellTyped program lawful) (some_is e) (texts_typed program lawful modules.builtins (of_routine (operation_of T op)) T op d is law)
  text_routine T op r law None is e = absurd (none_some e)

  type_routine : (T : CluType) (op : List ℕ) (r : Running) → defined program (operation_of T op) ≡ Some r → lawful (operation_of T op) → (b : Bool) → is_cluster T ≡ b → RoutineWellTyped program lawful r
  type_routine (cluster_of c given) op r e law b is = modules.of_clusters c given op r e law
  type_routine T op r e law true is = absurd (false≢true is)
  type_routine T op r e law false is = text_routine T op r law (text_of T op) refl (sym (of_type_is program (operation_of T op) T op is) ∙ e)

  routine_typed : (p : Routine) (r : Running) → defined program p ≡ Some r → lawful p → RoutineWellTyped program lawful r
  routine_typed (module_routine m given) r e law = modules.of_routines m given r e law
  routine_typed (operation_of T op) r e law = type_routine T op r e law (is_cluster T) refl
  routine_typed (force_of t) r e law = absurd (none_some e)

  pub program_typed : ProgramWellTyped program lawful
  program_typed = record { headings = modules.headings; routines = routine_typed }
