-- The texts of built-in operations are well typed.
use Rattle.std.proofs.Common.{◌≡◌, ℕ, true, List, [], ◌∷◌, ◌++◌, Option, None, Some, refl, ap, subst, ◌∙◌, inl, inr}
use Rattle.std.specs.Prelude.{bytes_eq, codes}
use Rattle.std.proofs.lemmas.Bool.{false≢true}
use Rattle.clu_literal.specs.Literal.{with_byte}
use Rattle.clu_types.specs.CluType.{CluType, bool_type, int_type, char_type, string_type, array_of, sequence_of, proc_of, iter_of, CluTypes, no_types, type_and, Signals, no_signals}
use Rattle.clu_types.specs.Included.{AreAmong}
use Rattle.clu_builtin.specs.Operation.{one, two, three, quiet, overflow, bounds}
use Rattle.clu_layout.specs.Objects.{Routine, operation_of, Object, own_types}
use Rattle.clu_layout.specs.SameType.{all_fit}
use Rattle.clu_meaning.specs.Lists.{is_among}
use Rattle.clu_meaning.specs.Programs.{Program}
use Rattle.clu_meaning.specs.State.{Instance}
use Rattle.clu_meaning.specs.Settling.{unfolded_to}
use Rattle.clu_meaning.specs.Unhandled.{failure}
use Rattle.clu_meaning.specs.Operations.{headed, may_name}
use Rattle.clu_meaning.specs.Binding.{Running}
use Rattle.clu_meaning.specs.Texts.{from_to_by, from_to, chars, array_indexes, array_elements, array_similar, array_copy, sequence_indexes, sequence_elements, sequence_similar, sequence_copy, defined_by}
use Rattle.laws_sound.specs.Raises.{Raise, Takes, Covers, failing, raised_by}
use Rattle.laws_sound.specs.WellTyped.{Names, HasOperation}
use Rattle.laws_sound.specs.Sound.{FailsWithText, RoutineWellTyped}
use Rattle.laws_sound.specs.Builtins.{IsMet, BuiltinsLawful}
use Rattle.laws_sound.proofs.Evaluating.{proc_fits, fewer_covered}
use Rattle.laws_sound.proofs.Invoking.{fit_same}
use Rattle.laws_sound.proofs.TextHeadings.{text_runs}

none_some : {A : Type 0} {x : A} → None ≡ Some x → ⊥
none_some e = subst is_none e tt
  where
    is_none : {A : Type 0} → Option A → Type 0
    is_none None = Unit {0}
    is_none (Some x) = ⊥

-- ---- what texts may raise

abbrev pub text_raises : List Raise
text_raises = failing ∷ (codes "bounds", no_types) ∷ (codes "overflow", no_types) ∷ []

pub text_fails : FailsWithText text_raises
text_fails os (inl h) = h.1
text_fails os (inr (inl h)) = absurd (false≢true (ap (λ name. bytes_eq name failure) h.0))
text_fails os (inr (inr (inl h))) = absurd (false≢true (ap (λ name. bytes_eq name failure) h.0))
text_fails os (inr (inr (inr h))) = absurd h

pub fails : Covers (failing ∷ []) text_raises
fails = record { at = λ name os h. by name os h }
  where
    by : (name : List ℕ) (os : List Object) → Takes (failing ∷ []) name os → Takes text_raises name os
    by name os (inl h) = inl h
    by name os (inr h) = absurd h

bounded : Covers (raised_by (bounds quiet)) text_raises
bounded = record { at = λ name os h. by name os h }
  where
    by : (name : List ℕ) (os : List Object) → Takes (raised_by (bounds quiet)) name os → Takes text_raises name os
    by name os (inl h) = inl h
    by name os (inr (inl h)) = inr (inl h)
    by name os (inr (inr h)) = absurd h

overflown : Covers (raised_by (overflow quiet)) text_raises
overflown = record { at = λ name os h. by name os h }
  where
    by : (name : List ℕ) (os : List Object) → Takes (raised_by (overflow quiet)) name os → Takes text_raises name os
    by name os (inl h) = inl h
    by name os (inr (inl h)) = inr (inr (inl h))
    by name os (inr (inr h)) = absurd h

-- the arm for overflow takes no objects
no_objects_taken : (name : List ℕ) (os : List Object) → is_among (codes "overflow" ∷ []) name ≡ true → Takes (text_raises ++ []) name os → all_fit (own_types os) no_types ≡ true
no_objects_taken name os is (inl h) = absurd (false≢true (ap (is_among (codes "overflow" ∷ [])) h.0 ∙ is))
no_objects_taken name os is (inr (inl h)) = h.1
no_objects_taken name os is (inr (inr (inl h))) = h.1
no_objects_taken name os is (inr (inr (inr h))) = absurd h

-- ---- an operation that is met, by its heading

few_none : (few : Signals) → AreAmong few no_signals → Covers (raised_by few) text_raises
few_none few h = fewer_covered few no_signals text_raises h fails

module _ (program : Program) (lawful : Routine → Type 0) where
  pub record Applies (T : CluType) (op : List ℕ) (args results : CluTypes) : Type 0 where
    pub signals : Signals
    pub heading : headed program (operation_of T op) ≡ Some (proc_of args results signals)
    pub may : may_name program None (operation_of T op) ≡ true
    pub law : lawful (operation_of T op)
    pub raises : Covers (raised_by signals) text_raises

  pub met_applies : (T : CluType) (op : List ℕ) (args results : CluTypes) → IsMet program lawful (record { of = T; op = op; wanted = proc_of args results no_signals }) → Applies T op args results
  met_applies T op args results m =
      let p = proc_fits m.heading args results no_signals m.fit in
      record { signals = p.0; heading = m.there ∙ ap Some p.1; may = m.may; law = m.law; raises = few_none p.0 p.2 }

  module _ (closed : BuiltinsLawful program lawful) where
    -- a sugared operation of int or bool
    on_ints : (r : Running) (name : List ℕ) (us ts args : CluTypes) (ss : Signals) → headed program (operation_of int_type name) ≡ Some (proc_of args ts ss) → all_fit (type_and int_type us) args ≡ true → Covers (raised_by ss) text_raises →
        HasOperation program lawful r text_raises name int_type us ts
    on_ints r name us ts args ss e fit c = inl (record { object = refl; plain = refl; args = args; signals = ss; heading = e; may = refl; law = closed.ints name; fit = fit; raises = c })

    on_bools : (r : Running) (name : List ℕ) (us ts args : CluTypes) (ss : Signals) → headed program (operation_of bool_type name) ≡ Some (proc_of args ts ss) → all_fit (type_and bool_type us) args ≡ true → Covers (raised_by ss) text_raises →
        HasOperation program lawful r text_raises name bool_type us ts
    on_bools r name us ts args ss e fit c = inl (record { object = refl; plain = refl; args = args; signals = ss; heading = e; may = refl; law = closed.bools name; fit = fit; raises = c })

    compares : (r : Running) (name : List ℕ) → headed program (operation_of int_type name) ≡ Some (proc_of (two int_type int_type) (one bool_type) quiet) → HasOperation program lawful r text_raises name int_type (one int_type) (one bool_type)
    compares r name e = on_ints r name (one int_type) (one bool_type) (two int_type int_type) quiet e refl fails

    pub negates : (r : Running) → HasOperation program lawful r text_raises (codes "not") bool_type no_types (one bool_type)
    negates r = on_bools r (codes "not") no_types (one bool_type) (one bool_type) quiet refl refl fails

    either_holds : (r : Running) → HasOperation program lawful r text_raises (codes "or") bool_type (one bool_type) (one bool_type)
    either_holds r = on_bools r (codes "or") (one bool_type) (one bool_type) (two bool_type bool_type) quiet refl refl fails

    -- ---- int

    pub from_to_by_typed : (i : Instance) → RoutineWellTyped program lawful (text_runs i int_type (defined_by from_to_by))
    unfolding with_byte unfolded_to
    from_to_by_typed i =
        let r : Running = text_runs i int_type (defined_by from_to_by) in
        record {
          raises = text_raises;
          text = text_fails;
          set_up = tt;
          body = (
            (one int_type, (int_type, refl, refl, fails), record { types = one int_type; declared = (refl, tt); fit = refl }),
            (
              (
                text_raises,
                [],
                (
                  (
                    (
                      (
                        bool_type,
                        (
                          (int_type, one int_type, (int_type, refl, refl, fails), (refl, tt), compares r (codes "gt") refl),
                          (int_type, one int_type, (int_type, refl, refl, fails), ((int_type, refl, refl, fails), tt), compares r (codes "le") refl),
                          refl,
                        ),
                        refl,
                      ),
                      (
                        bool_type,
                        (
                          (int_type, one int_type, (int_type, refl, refl, fails), (refl, tt), compares r (codes "lt") refl),
                          (int_type, one int_type, (int_type, refl, refl, fails), ((int_type, refl, refl, fails), tt), compares r (codes "ge") refl),
                          refl,
                        ),
                        refl,
                      ),
                      refl,
                    ),
                    (int_type, one int_type, (int_type, refl, refl, fails), (refl, tt), compares r (codes "equal") refl),
                    refl,
                  ),
                  (
                    (one int_type, ((int_type, refl, refl, fails), tt), refl, refl, refl),
                    (
                      (
                        one int_type,
                        ((int_type, one int_type, (int_type, refl, refl, fails), ((int_type, refl, refl, fails), tt), on_ints r (codes "add") (one int_type) (one int_type) (two int_type int_type) (overflow quiet) refl refl overflown), tt),
                        record { types = one int_type; declared = (refl, tt); fit = refl },
                      ),
                      tt,
                    ),
                  ),
                ),
                ((no_types, tt, no_objects_taken), tt, tt),
                (λ name os not_handled t. t),
                (λ name os not_handled t. t),
                tt,
              ),
              tt,
            ),
          );
          shared = λ cluster e. absurd (none_some e);
        }

    pub from_to_typed : (i : Instance) → RoutineWellTyped program lawful (text_runs i int_type (defined_by from_to))
    unfolding with_byte unfolded_to
    from_to_typed i = record {
      raises = text_raises;
      text = text_fails;
      set_up = tt;
      body = (
        (
          three int_type int_type int_type,
          one int_type,
          quiet,
          three int_type int_type int_type,
          record { heading = iter_of (three int_type int_type int_type) (one int_type) quiet; there = refl; may = refl; law = closed.ints (codes "from_to_by"); is = refl },
          ((int_type, refl, refl, fails), ((int_type, refl, refl, fails), (refl, tt))),
          record { fit = refl; raises = fails },
          record { types = one int_type; declared = (refl, tt); fit = refl },
          ((one int_type, ((int_type, refl, refl, fails), tt), refl, refl, refl), tt),
        ),
        tt,
      );
      shared = λ cluster e. absurd (none_some e);
    }

    -- ---- names of operations

    pub named_proc : (r : Running) (p : Routine) (args results : CluTypes) (ss : Signals) → headed program p ≡ Some (proc_of args results ss) → may_name program r.home p ≡ true → lawful p → Names program lawful r p (one (proc_of args results ss))
    named_proc r p args results ss e may law = record { heading = proc_of args results ss; there = e; may = may; law = law; is = refl }

    named_iter : (r : Running) (p : Routine) (args results : CluTypes) (ss : Signals) → headed program p ≡ Some (iter_of args results ss) → may_name program r.home p ≡ true → lawful p → Names program lawful r p (one (iter_of args results ss))
    named_iter r p args results ss e may law = record { heading = iter_of args results ss; there = e; may = may; law = law; is = refl }

    from_to_named : (r : Running) → Names program lawful r (operation_of int_type (codes "from_to")) (one (iter_of (two int_type int_type) (one int_type) quiet))
    from_to_named r = named_iter r (operation_of int_type (codes "from_to")) (two int_type int_type) (one int_type) quiet refl refl (closed.ints (codes "from_to"))

    pub chars_typed : (i : Instance) → lawful (operation_of string_type (codes "chars")) → RoutineWellTyped program lawful (text_runs i string_type (defined_by chars))
    unfolding with_byte unfolded_to
    chars_typed i law =
        let r : Running = text_runs i string_type (defined_by chars) in
        let size = named_proc r (operation_of string_type (codes "size")) (one string_type) (one int_type) quiet refl refl (closed.same string_type (codes "chars") (codes "size") _ law refl refl) in
        let fetch : HasOperation program lawful r text_raises (codes "fetch") string_type (one int_type) (one char_type) = inl (record { object = refl; plain = refl; args = two string_type int_type; signals = bounds quiet; heading = refl; may = refl; law = closed.same string_type (codes "chars") (codes "fetch") _ law refl refl; fit = refl; raises = bounded }) in
        record {
          raises = text_raises;
          text = text_fails;
          set_up = tt;
          body = (
            (
              two int_type int_type,
              one int_type,
              quiet,
              two int_type int_type,
              from_to_named r,
              (refl, ((one string_type, quiet, one string_type, size, ((string_type, refl, refl, fails), tt), record { fit = refl; raises = fails }), tt)),
              record { fit = refl; raises = fails },
              record { types = one int_type; declared = (refl, tt); fit = refl },
              ((one char_type, ((string_type, one int_type, (string_type, refl, refl, fails), ((int_type, refl, refl, fails), tt), fetch), tt), refl, refl, refl), tt),
            ),
            tt,
          );
          shared = λ cluster e. absurd (none_some e);
        }

    -- ---- arrays

    module _ (u : CluType) where
      abbrev A : CluType
      A = array_of u

      -- operations of it that ask nothing, where one is lawful
      module _ (op : List ℕ) (law : lawful (operation_of A op)) (r : Running) where
        array_low : Names program lawful r (operation_of A (codes "low")) (one (proc_of (one A) (one int_type) quiet))
        array_low = named_proc r (operation_of A (codes "low")) (one A) (one int_type) quiet refl refl (closed.same A op (codes "low") _ law refl refl)

        array_high : Names program lawful r (operation_of A (codes "high")) (one (proc_of (one A) (one int_type) quiet))
        array_high = named_proc r (operation_of A (codes "high")) (one A) (one int_type) quiet refl refl (closed.same A op (codes "high") _ law refl refl)

        array_create : Names program lawful r (operation_of A (codes "create")) (one (proc_of (one int_type) (one A) quiet))
        array_create = named_proc r (operation_of A (codes "create")) (one int_type) (one A) quiet refl refl (closed.same A op (codes "create") _ law refl refl)

        array_addh : Names program lawful r (operation_of A (codes "addh")) (one (proc_of (two A u) no_types quiet))
        array_addh = named_proc r (operation_of A (codes "addh")) (two A u) no_types quiet refl refl (closed.same A op (codes "addh") _ law refl refl)

        array_size : Names program lawful r (operation_of A (codes "size")) (one (proc_of (one A) (one int_type) quiet))
        array_size = named_proc r (operation_of A (codes "size")) (one A) (one int_type) quiet refl refl (closed.same A op (codes "size") _ law refl refl)

        named_array_indexes : Names program lawful r (operation_of A (codes "indexes")) (one (iter_of (one A) (one int_type) quiet))
        named_array_indexes = named_iter r (operation_of A (codes "indexes")) (one A) (one int_type) quiet refl refl (closed.same A op (codes "indexes") _ law refl refl)

        named_array_elements : Names program lawful r (operation_of A (codes "elements")) (one (iter_of (one A) (one u) quiet))
        named_array_elements = named_iter r (operation_of A (codes "elements")) (one A) (one u) quiet refl refl (closed.same A op (codes "elements") _ law refl refl)

        array_fetch : HasOperation program lawful r text_raises (codes "fetch") A (one int_type) (one u)
        array_fetch = inl (record { object = refl; plain = refl; args = two A int_type; signals = bounds quiet; heading = refl; may = refl; law = closed.same A op (codes "fetch") _ law refl refl; fit = fit_same (two A int_type); raises = bounded })

      pub array_indexes_typed : (i : Instance) → lawful (operation_of A (codes "indexes")) → RoutineWellTyped program lawful (text_runs i A (defined_by array_indexes))
      unfolding with_byte unfolded_to
      array_indexes_typed i law =
          let r : Running = text_runs i A (defined_by array_indexes) in
          record {
            raises = text_raises;
            text = text_fails;
            set_up = tt;
            body = ((two int_type int_type, one int_type, quiet, two int_type int_type, from_to_named r, ((one A, quiet, one A, array_low (codes "indexes") law r, ((A, refl, refl, fails), tt), record { fit = fit_same (one A); raises = fails }), ((one A, quiet, one A, array_high (codes "indexes") law r, ((A, refl, refl, fails), tt), record { fit = fit_same (one A); raises = fails }), tt)), record { fit = refl; raises = fails }, record { types = one int_type; declared = (refl, tt); fit = refl }, ((one int_type, ((int_type, refl, refl, fails), tt), refl, refl, refl), tt)), tt);
            shared = λ cluster e. absurd (none_some e);
          }

      pub array_elements_typed : (i : Instance) → lawful (operation_of A (codes "elements")) → RoutineWellTyped program lawful (text_runs i A (defined_by array_elements))
      unfolding with_byte unfolded_to
      array_elements_typed i law =
          let r : Running = text_runs i A (defined_by array_elements) in
          record {
            raises = text_raises;
            text = text_fails;
            set_up = tt;
            body = ((one A, one int_type, quiet, one A, named_array_indexes (codes "elements") law r, ((A, refl, refl, fails), tt), record { fit = fit_same (one A); raises = fails }, record { types = one int_type; declared = (refl, tt); fit = refl }, ((((bool_type, one bool_type, (int_type, one int_type, (int_type, refl, refl, fails), ((one A, quiet, one A, array_low (codes "elements") law r, ((A, refl, refl, fails), tt), record { fit = fit_same (one A); raises = fails }), tt), compares r (codes "lt") refl), ((int_type, one int_type, (int_type, refl, refl, fails), ((one A, quiet, one A, array_high (codes "elements") law r, ((A, refl, refl, fails), tt), record { fit = fit_same (one A); raises = fails }), tt), compares r (codes "gt") refl), tt), either_holds r), ((no_types, tt, refl, refl), tt), tt), tt), ((one u, ((A, one int_type, (A, refl, refl, fails), ((int_type, refl, refl, fails), tt), array_fetch (codes "elements") law r), tt), refl, refl, fit_same (one u)), tt))), tt);
            shared = λ cluster e. absurd (none_some e);
          }

      pub array_similar_typed : (i : Instance) → lawful (operation_of A (codes "similar")) → Applies u (codes "similar") (two u u) (one bool_type) → RoutineWellTyped program lawful (text_runs i A (defined_by (array_similar "similar" "similar")))
      unfolding with_byte unfolded_to
      array_similar_typed i law a =
          let r : Running = text_runs i A (defined_by (array_similar "similar" "similar")) in
          record {
            raises = text_raises;
            text = text_fails;
            set_up = tt;
            body = ((((bool_type, one bool_type, (int_type, one int_type, bool_type, (one A, quiet, one A, array_low (codes "similar") law r, ((A, refl, refl, fails), tt), record { fit = fit_same (one A); raises = fails }), ((one A, quiet, one A, array_low (codes "similar") law r, ((A, refl, refl, fails), tt), record { fit = fit_same (one A); raises = fails }), tt), compares r (codes "equal") refl, negates r), ((int_type, one int_type, bool_type, (one A, quiet, one A, array_size (codes "similar") law r, ((A, refl, refl, fails), tt), record { fit = fit_same (one A); raises = fails }), ((one A, quiet, one A, array_size (codes "similar") law r, ((A, refl, refl, fails), tt), record { fit = fit_same (one A); raises = fails }), tt), compares r (codes "equal") refl, negates r), tt), either_holds r), ((one bool_type, (refl, tt), refl, refl), tt), tt), tt), ((one A, one int_type, quiet, one A, named_array_indexes (codes "similar") law r, ((A, refl, refl, fails), tt), record { fit = fit_same (one A); raises = fails }, record { types = one int_type; declared = (refl, tt); fit = refl }, ((((bool_type, no_types, (two u u, a.signals, two u u, named_proc r (operation_of u (codes "similar")) (two u u) (one bool_type) a.signals a.heading a.may a.law, ((A, one int_type, (A, refl, refl, fails), ((int_type, refl, refl, fails), tt), array_fetch (codes "similar") law r), ((A, one int_type, (A, refl, refl, fails), ((int_type, refl, refl, fails), tt), array_fetch (codes "similar") law r), tt)), record { fit = fit_same (two u u); raises = a.raises }), tt, negates r), ((one bool_type, (refl, tt), refl, refl), tt), tt), tt), tt)), ((one bool_type, (refl, tt), refl, refl), tt)));
            shared = λ cluster e. absurd (none_some e);
          }

      pub array_similar1_typed : (i : Instance) → lawful (operation_of A (codes "similar1")) → Applies u (codes "equal") (two u u) (one bool_type) → RoutineWellTyped program lawful (text_runs i A (defined_by (array_similar "similar1" "equal")))
      unfolding with_byte unfolded_to
      array_similar1_typed i law a =
          let r : Running = text_runs i A (defined_by (array_similar "similar1" "equal")) in
          record {
            raises = text_raises;
            text = text_fails;
            set_up = tt;
            body = ((((bool_type, one bool_type, (int_type, one int_type, bool_type, (one A, quiet, one A, array_low (codes "similar1") law r, ((A, refl, refl, fails), tt), record { fit = fit_same (one A); raises = fails }), ((one A, quiet, one A, array_low (codes "similar1") law r, ((A, refl, refl, fails), tt), record { fit = fit_same (one A); raises = fails }), tt), compares r (codes "equal") refl, negates r), ((int_type, one int_type, bool_type, (one A, quiet, one A, array_size (codes "similar1") law r, ((A, refl, refl, fails), tt), record { fit = fit_same (one A); raises = fails }), ((one A, quiet, one A, array_size (codes "similar1") law r, ((A, refl, refl, fails), tt), record { fit = fit_same (one A); raises = fails }), tt), compares r (codes "equal") refl, negates r), tt), either_holds r), ((one bool_type, (refl, tt), refl, refl), tt), tt), tt), ((one A, one int_type, quiet, one A, named_array_indexes (codes "similar1") law r, ((A, refl, refl, fails), tt), record { fit = fit_same (one A); raises = fails }, record { types = one int_type; declared = (refl, tt); fit = refl }, ((((bool_type, no_types, (two u u, a.signals, two u u, named_proc r (operation_of u (codes "equal")) (two u u) (one bool_type) a.signals a.heading a.may a.law, ((A, one int_type, (A, refl, refl, fails), ((int_type, refl, refl, fails), tt), array_fetch (codes "similar1") law r), ((A, one int_type, (A, refl, refl, fails), ((int_type, refl, refl, fails), tt), array_fetch (codes "similar1") law r), tt)), record { fit = fit_same (two u u); raises = a.raises }), tt, negates r), ((one bool_type, (refl, tt), refl, refl), tt), tt), tt), tt)), ((one bool_type, (refl, tt), refl, refl), tt)));
            shared = λ cluster e. absurd (none_some e);
          }

      pub array_copy_typed : (i : Instance) → lawful (operation_of A (codes "copy")) → Applies u (codes "copy") (one u) (one u) → RoutineWellTyped program lawful (text_runs i A (defined_by array_copy))
      unfolding with_byte unfolded_to
      array_copy_typed i law a =
          let r : Running = text_runs i A (defined_by array_copy) in
          record {
            raises = text_raises;
            text = text_fails;
            set_up = tt;
            body = ((one (array_of u), (one int_type, quiet, one int_type, array_create (codes "copy") law r, ((one A, quiet, one A, array_low (codes "copy") law r, ((A, refl, refl, fails), tt), record { fit = fit_same (one A); raises = fails }), tt), record { fit = refl; raises = fails }), record { types = one (array_of u); declared = (refl, tt); fit = fit_same (one (array_of u)) }), ((one A, one u, quiet, one A, named_array_elements (codes "copy") law r, ((A, refl, refl, fails), tt), record { fit = fit_same (one A); raises = fails }, record { types = one u; declared = (refl, tt); fit = fit_same (one u) }, ((no_types, (two (array_of u) u, quiet, two (array_of u) u, array_addh (codes "copy") law r, ((array_of u, refl, refl, fails), ((one u, a.signals, one u, named_proc r (operation_of u (codes "copy")) (one u) (one u) a.signals a.heading a.may a.law, ((u, refl, refl, fails), tt), record { fit = fit_same (one u); raises = a.raises }), tt)), record { fit = fit_same (two (array_of u) u); raises = fails })), tt)), ((one (array_of u), ((array_of u, refl, refl, fails), tt), refl, fit_same (one (array_of u))), tt)));
            shared = λ cluster e. absurd (none_some e);
          }

    -- ---- sequences

    module _ (u : CluType) where
      abbrev S : CluType
      S = sequence_of u

      -- operations of it that ask nothing, where one is lawful
      module _ (op : List ℕ) (law : lawful (operation_of S op)) (r : Running) where
        sequence_a2s : Names program lawful r (operation_of S (codes "a2s")) (one (proc_of (one (array_of u)) (one S) quiet))
        sequence_a2s = named_proc r (operation_of S (codes "a2s")) (one (array_of u)) (one S) quiet refl refl (closed.same S op (codes "a2s") _ law refl refl)

        sequence_size : Names program lawful r (operation_of S (codes "size")) (one (proc_of (one S) (one int_type) quiet))
        sequence_size = named_proc r (operation_of S (codes "size")) (one S) (one int_type) quiet refl refl (closed.same S op (codes "size") _ law refl refl)

        named_sequence_indexes : Names program lawful r (operation_of S (codes "indexes")) (one (iter_of (one S) (one int_type) quiet))
        named_sequence_indexes = named_iter r (operation_of S (codes "indexes")) (one S) (one int_type) quiet refl refl (closed.same S op (codes "indexes") _ law refl refl)

        named_sequence_elements : Names program lawful r (operation_of S (codes "elements")) (one (iter_of (one S) (one u) quiet))
        named_sequence_elements = named_iter r (operation_of S (codes "elements")) (one S) (one u) quiet refl refl (closed.same S op (codes "elements") _ law refl refl)

        sequence_fetch : HasOperation program lawful r text_raises (codes "fetch") S (one int_type) (one u)
        sequence_fetch = inl (record { object = refl; plain = refl; args = two S int_type; signals = bounds quiet; heading = refl; may = refl; law = closed.same S op (codes "fetch") _ law refl refl; fit = fit_same (two S int_type); raises = bounded })

        new_array : Names program lawful r (operation_of (array_of u) (codes "new")) (one (proc_of no_types (one (array_of u)) quiet))
        new_array = named_proc r (operation_of (array_of u) (codes "new")) no_types (one (array_of u)) quiet refl refl (closed.arrays u op (codes "new") _ law refl refl)

        adds_to_array : Names program lawful r (operation_of (array_of u) (codes "addh")) (one (proc_of (two (array_of u) u) no_types quiet))
        adds_to_array = named_proc r (operation_of (array_of u) (codes "addh")) (two (array_of u) u) no_types quiet refl refl (closed.arrays u op (codes "addh") _ law refl refl)

      pub sequence_indexes_typed : (i : Instance) → lawful (operation_of S (codes "indexes")) → RoutineWellTyped program lawful (text_runs i S (defined_by sequence_indexes))
      unfolding with_byte unfolded_to
      sequence_indexes_typed i law =
          let r : Running = text_runs i S (defined_by sequence_indexes) in
          record {
            raises = text_raises;
            text = text_fails;
            set_up = tt;
            body = ((two int_type int_type, one int_type, quiet, two int_type int_type, from_to_named r, (refl, ((one S, quiet, one S, sequence_size (codes "indexes") law r, ((S, refl, refl, fails), tt), record { fit = fit_same (one S); raises = fails }), tt)), record { fit = refl; raises = fails }, record { types = one int_type; declared = (refl, tt); fit = refl }, ((one int_type, ((int_type, refl, refl, fails), tt), refl, refl, refl), tt)), tt);
            shared = λ cluster e. absurd (none_some e);
          }

      pub sequence_elements_typed : (i : Instance) → lawful (operation_of S (codes "elements")) → RoutineWellTyped program lawful (text_runs i S (defined_by sequence_elements))
      unfolding with_byte unfolded_to
      sequence_elements_typed i law =
          let r : Running = text_runs i S (defined_by sequence_elements) in
          record {
            raises = text_raises;
            text = text_fails;
            set_up = tt;
            body = ((one S, one int_type, quiet, one S, named_sequence_indexes (codes "elements") law r, ((S, refl, refl, fails), tt), record { fit = fit_same (one S); raises = fails }, record { types = one int_type; declared = (refl, tt); fit = refl }, ((one u, ((S, one int_type, (S, refl, refl, fails), ((int_type, refl, refl, fails), tt), sequence_fetch (codes "elements") law r), tt), refl, refl, fit_same (one u)), tt)), tt);
            shared = λ cluster e. absurd (none_some e);
          }

      pub sequence_equal_typed : (i : Instance) → lawful (operation_of S (codes "equal")) → Applies u (codes "equal") (two u u) (one bool_type) → RoutineWellTyped program lawful (text_runs i S (defined_by (sequence_similar "equal")))
      unfolding with_byte unfolded_to
      sequence_equal_typed i law a =
          let r : Running = text_runs i S (defined_by (sequence_similar "equal")) in
          record {
            raises = text_raises;
            text = text_fails;
            set_up = tt;
            body = ((((int_type, one int_type, bool_type, (one S, quiet, one S, sequence_size (codes "equal") law r, ((S, refl, refl, fails), tt), record { fit = fit_same (one S); raises = fails }), ((one S, quiet, one S, sequence_size (codes "equal") law r, ((S, refl, refl, fails), tt), record { fit = fit_same (one S); raises = fails }), tt), compares r (codes "equal") refl, negates r), ((one bool_type, (refl, tt), refl, refl), tt), tt), tt), ((one S, one int_type, quiet, one S, named_sequence_indexes (codes "equal") law r, ((S, refl, refl, fails), tt), record { fit = fit_same (one S); raises = fails }, record { types = one int_type; declared = (refl, tt); fit = refl }, ((((bool_type, no_types, (two u u, a.signals, two u u, named_proc r (operation_of u (codes "equal")) (two u u) (one bool_type) a.signals a.heading a.may a.law, ((S, one int_type, (S, refl, refl, fails), ((int_type, refl, refl, fails), tt), sequence_fetch (codes "equal") law r), ((S, one int_type, (S, refl, refl, fails), ((int_type, refl, refl, fails), tt), sequence_fetch (codes "equal") law r), tt)), record { fit = fit_same (two u u); raises = a.raises }), tt, negates r), ((one bool_type, (refl, tt), refl, refl), tt), tt), tt), tt)), ((one bool_type, (refl, tt), refl, refl), tt)));
            shared = λ cluster e. absurd (none_some e);
          }

      pub sequence_similar_typed : (i : Instance) → lawful (operation_of S (codes "similar")) → Applies u (codes "similar") (two u u) (one bool_type) → RoutineWellTyped program lawful (text_runs i S (defined_by (sequence_similar "similar")))
      unfolding with_byte unfolded_to
      sequence_similar_typed i law a =
          let r : Running = text_runs i S (defined_by (sequence_similar "similar")) in
          record {
            raises = text_raises;
            text = text_fails;
            set_up = tt;
            body = ((((int_type, one int_type, bool_type, (one S, quiet, one S, sequence_size (codes "similar") law r, ((S, refl, refl, fails), tt), record { fit = fit_same (one S); raises = fails }), ((one S, quiet, one S, sequence_size (codes "similar") law r, ((S, refl, refl, fails), tt), record { fit = fit_same (one S); raises = fails }), tt), compares r (codes "equal") refl, negates r), ((one bool_type, (refl, tt), refl, refl), tt), tt), tt), ((one S, one int_type, quiet, one S, named_sequence_indexes (codes "similar") law r, ((S, refl, refl, fails), tt), record { fit = fit_same (one S); raises = fails }, record { types = one int_type; declared = (refl, tt); fit = refl }, ((((bool_type, no_types, (two u u, a.signals, two u u, named_proc r (operation_of u (codes "similar")) (two u u) (one bool_type) a.signals a.heading a.may a.law, ((S, one int_type, (S, refl, refl, fails), ((int_type, refl, refl, fails), tt), sequence_fetch (codes "similar") law r), ((S, one int_type, (S, refl, refl, fails), ((int_type, refl, refl, fails), tt), sequence_fetch (codes "similar") law r), tt)), record { fit = fit_same (two u u); raises = a.raises }), tt, negates r), ((one bool_type, (refl, tt), refl, refl), tt), tt), tt), tt)), ((one bool_type, (refl, tt), refl, refl), tt)));
            shared = λ cluster e. absurd (none_some e);
          }

      pub sequence_copy_typed : (i : Instance) → lawful (operation_of S (codes "copy")) → Applies u (codes "copy") (one u) (one u) → RoutineWellTyped program lawful (text_runs i S (defined_by sequence_copy))
      unfolding with_byte unfolded_to
      sequence_copy_typed i law a =
          let r : Running = text_runs i S (defined_by sequence_copy) in
          record {
            raises = text_raises;
            text = text_fails;
            set_up = tt;
            body = ((one (array_of u), (no_types, quiet, no_types, new_array (codes "copy") law r, tt, record { fit = refl; raises = fails }), record { types = one (array_of u); declared = (refl, tt); fit = fit_same (one (array_of u)) }), ((one S, one u, quiet, one S, named_sequence_elements (codes "copy") law r, ((S, refl, refl, fails), tt), record { fit = fit_same (one S); raises = fails }, record { types = one u; declared = (refl, tt); fit = fit_same (one u) }, ((no_types, (two (array_of u) u, quiet, two (array_of u) u, adds_to_array (codes "copy") law r, ((array_of u, refl, refl, fails), ((one u, a.signals, one u, named_proc r (operation_of u (codes "copy")) (one u) (one u) a.signals a.heading a.may a.law, ((u, refl, refl, fails), tt), record { fit = fit_same (one u); raises = a.raises }), tt)), record { fit = fit_same (two (array_of u) u); raises = fails })), tt)), ((one S, ((one (array_of u), quiet, one (array_of u), sequence_a2s (codes "copy") law r, ((array_of u, refl, refl, fails), tt), record { fit = fit_same (one (array_of u)); raises = fails }), tt), refl, fit_same (one S)), tt)));
            shared = λ cluster e. absurd (none_some e);
          }
