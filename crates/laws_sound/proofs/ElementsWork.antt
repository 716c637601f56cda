-- The primitive operations of arrays and sequences give objects of their headings' results.
use Rattle.std.proofs.Common.{◌≡◌, refl}
use Rattle.std.proofs.lemmas.Bool.{and_from}
use Rattle.std.specs.Prelude.{ℕ, ℤ, pos, ◌-ℤ◌, ◌+ℤ◌, true, false, List, [], ◌∷◌, ◌++◌, take, replicate, codes}
use Rattle.clu_types.specs.CluType.{CluType, bool_type, int_type, array_of, sequence_of, CluTypes, no_types}
use Rattle.clu_builtin.specs.Operation.{one, two}
use Rattle.clu_builtin.specs.Table.{operation}
use Rattle.clu_layout.specs.Objects.{Routine, Object, bool_object, int_object, Array, Cell, array_cell, own_type, own_types}
use Rattle.clu_layout.specs.SameType.{is_any, is_routine_type, fits, all_fit}
use Rattle.clu_layout.specs.Places.{count_of}
use Rattle.clu_layout.specs.Actions.{Action, with_one, with_array, with_sequence, gives_all, changes_array}
use Rattle.clu_layout.specs.PlainOperations.{same_cell}
use Rattle.clu_layout.specs.ArrayOperations.{array_and_int, array_create, array_new, array_predict, array_fill, array_size, array_low, array_high, array_empty, array_set_low, array_fetch, array_store, array_bottom, array_top, grows, array_addh, array_addl, array_remh, array_reml, array_trim, array_copy1, array_primitives}
use Rattle.clu_layout.specs.SequenceOperations.{sequence_new, sequence_e2s, sequence_fill, sequence_size, sequence_empty, sequence_fetch, sequence_bottom, sequence_top, sequence_replace, sequence_addh, sequence_addl, sequence_remh, sequence_reml, sequence_concat, sequence_subseq, sequence_a2s, sequence_s2a, sequence_primitives}
use Rattle.clu_layout.proofs.CellLaws.{Longer}
use Rattle.clu_meaning.specs.Programs.{Program}
use Rattle.clu_meaning.specs.Typed.{AllTyped}
use Rattle.clu_meaning.proofs.TypedFacts.{typed_on}
use Rattle.clu_meaning.proofs.TypedElements.{if_found, Is, Each, item_is, first_is, last_is}
use Rattle.laws_sound.proofs.Shapes.{included_is, is_cell_type}
use Rattle.laws_sound.proofs.Works.{Works, works_gives, works_signals_if, works_or_signals, works_either, works_or_fails, works_counts, works_takes, works_changes, works_none, works_one, works_two, works_three, works_int, works_cell, works_array, works_sequence, works_same, works_new_array, works_new_sequence}
use Rattle.laws_sound.proofs.PlainWorks.{WorksHeaded, AllWork}

module _ (program : Program) (lawful : Routine → Type 0) where
  -- ---- equal of mutable objects

  pub same_cell_works : (T : CluType) → is_cell_type T ≡ true → is_any T ≡ false → is_routine_type T ≡ false → (base : List Cell) (os : List Object) → AllTyped program lawful base os → all_fit (own_types os) (two T T) ≡ true → Works program lawful base (one bool_type) (same_cell os)
  same_cell_works T k any routine base os typed fit = works_two program lawful base (one bool_type) T T os _ typed fit (λ a b ta tb fa fb.
      works_cell program lawful base (one bool_type) a T _ k ta (included_is (own_type a) T any routine fa) (λ c. works_cell program lawful base (one bool_type) b T _ k tb (included_is (own_type b) T any routine fb) (λ d.
      works_gives program lawful base (one bool_type) (bool_object _ ∷ []) refl)))

  -- ---- arrays

  -- an array that is changed, and then objects that fit
  changed : (cells : List Cell) (results : CluTypes) (c : ℕ) (a : Array) (os : List Object) → all_fit (own_types os) results ≡ true → Works program lawful cells results (changes_array c a (gives_all os))
  changed cells results c a os h = works_or_fails program lawful cells results _ _ _ (works_changes program lawful cells results c (array_cell a) os h)

  grown : (cells : List Cell) (c : ℕ) (a b : Array) → Works program lawful cells no_types (grows c a b)
  grown cells c a b = works_either program lawful cells no_types _ _ _
      (works_counts program lawful cells no_types _ _ (works_or_fails program lawful cells no_types _ _ _ (works_takes program lawful cells no_types _ _ (works_changes program lawful cells no_types c _ [] refl))))
      (works_or_fails program lawful cells no_types _ _ _ (works_changes program lawful cells no_types c (array_cell b) [] refl))

  one_fits : (t : CluType) (x : Object) → fits (own_type x) t ≡ true → all_fit (own_types (x ∷ [])) (one t) ≡ true
  one_fits t x h = and_from (fits (own_type x) t) true h refl

  module _ (t : CluType) where
    create_works : WorksHeaded program lawful (operation (array_of t) (codes "create")) (array_create t)
    create_works base os typed fit = works_one program lawful base (one (array_of t)) int_type os _ typed fit (λ b tb fb. works_int program lawful base (one (array_of t)) b _ tb fb (λ low. works_new_array program lawful base t t low [] refl))

    new_works : WorksHeaded program lawful (operation (array_of t) (codes "new")) (array_new t)
    new_works base os typed fit = works_none program lawful base (one (array_of t)) os _ fit (works_new_array program lawful base t t (pos 1) [] refl)

    predict_works : WorksHeaded program lawful (operation (array_of t) (codes "predict")) (array_predict t)
    predict_works base os typed fit = works_two program lawful base (one (array_of t)) int_type int_type os _ typed fit (λ b n tb tn fb fn. works_int program lawful base (one (array_of t)) b _ tb fb (λ low. works_new_array program lawful base t t low [] refl))

    fill_works : WorksHeaded program lawful (operation (array_of t) (codes "fill")) (array_fill t)
    fill_works base os typed fit = works_three program lawful base (one (array_of t)) int_type int_type t os _ typed fit (λ b c x tb tc tx fb fc fx. works_int program lawful base (one (array_of t)) b _ tb fb (λ low. works_int program lawful base (one (array_of t)) c _ tc fc (λ n.
        works_signals_if program lawful base (one (array_of t)) _ _ _ (λ not_. works_new_array program lawful base t t low (replicate (count_of n) x) refl))))

    -- an operation of one array
    of_one : (results : CluTypes) (base : List Cell) (os : List Object) (rest : ℕ → Array → Action) → AllTyped program lawful base os → all_fit (own_types os) (one (array_of t)) ≡ true →
        ((cells : List Cell) → Longer base cells → (c : ℕ) (a : Array) → a.element ≡ t → Each program lawful cells t a.items → Works program lawful cells results (rest c a)) → Works program lawful base results (with_one os (λ r. with_array r rest))
    of_one results base os rest typed fit h = works_one program lawful base results (array_of t) os _ typed fit (λ r tr fr. works_array program lawful base results r t rest tr fr h)

    -- of one array and an int
    of_two : (results : CluTypes) (base : List Cell) (os : List Object) (rest : ℕ → Array → ℤ → Action) → AllTyped program lawful base os → all_fit (own_types os) (two (array_of t) int_type) ≡ true →
        ((cells : List Cell) → Longer base cells → (c : ℕ) (a : Array) (i : ℤ) → a.element ≡ t → Each program lawful cells t a.items → Works program lawful cells results (rest c a i)) → Works program lawful base results (array_and_int os rest)
    of_two results base os rest typed fit h = works_two program lawful base results (array_of t) int_type os _ typed fit (λ r b tr tb fr fb. works_array program lawful base results r t _ tr fr (λ cells l c a is each.
        works_int program lawful cells results b _ (typed_on program lawful base cells l b tb) fb (λ i. h cells l c a i is each)))

    size_works : WorksHeaded program lawful (operation (array_of t) (codes "size")) array_size
    size_works base os typed fit = of_one (one int_type) base os _ typed fit (λ cells l c a is each. works_gives program lawful cells (one int_type) (int_object _ ∷ []) refl)

    low_works : WorksHeaded program lawful (operation (array_of t) (codes "low")) array_low
    low_works base os typed fit = of_one (one int_type) base os _ typed fit (λ cells l c a is each. works_gives program lawful cells (one int_type) (int_object _ ∷ []) refl)

    high_works : WorksHeaded program lawful (operation (array_of t) (codes "high")) array_high
    high_works base os typed fit = of_one (one int_type) base os _ typed fit (λ cells l c a is each. works_gives program lawful cells (one int_type) (int_object _ ∷ []) refl)

    empty_works : WorksHeaded program lawful (operation (array_of t) (codes "empty")) array_empty
    empty_works base os typed fit = of_one (one bool_type) base os _ typed fit (λ cells l c a is each. works_gives program lawful cells (one bool_type) (bool_object _ ∷ []) refl)

    set_low_works : WorksHeaded program lawful (operation (array_of t) (codes "set_low")) array_set_low
    set_low_works base os typed fit = of_two no_types base os _ typed fit (λ cells l c a low is each. changed cells no_types c (record a { low = low }) [] refl)

    fetch_works : WorksHeaded program lawful (operation (array_of t) (codes "fetch")) array_fetch
    fetch_works base os typed fit = of_two (one t) base os _ typed fit (λ cells l c a i is each. works_or_signals program lawful cells (one t) _ _ _ (λ x e.
        works_same program lawful cells t x (if_found (Is program lawful cells t) _ x e (item_is program lawful cells t a.items (i -ℤ a.low) each)).1))

    store_works : WorksHeaded program lawful (operation (array_of t) (codes "store")) array_store
    store_works base os typed fit = works_three program lawful base no_types (array_of t) int_type t os _ typed fit (λ r b x tr tb tx fr fb fx. works_array program lawful base no_types r t _ tr fr (λ cells l c a is each.
        works_int program lawful cells no_types b _ (typed_on program lawful base cells l b tb) fb (λ i. works_or_signals program lawful cells no_types _ _ _ (λ xs e. changed cells no_types c (record a { items = xs }) [] refl))))

    bottom_works : WorksHeaded program lawful (operation (array_of t) (codes "bottom")) array_bottom
    bottom_works base os typed fit = of_one (one t) base os _ typed fit (λ cells l c a is each. works_or_signals program lawful cells (one t) _ _ _ (λ x e.
        works_same program lawful cells t x (if_found (Is program lawful cells t) _ x e (first_is program lawful cells t a.items each)).1))

    top_works : WorksHeaded program lawful (operation (array_of t) (codes "top")) array_top
    top_works base os typed fit = of_one (one t) base os _ typed fit (λ cells l c a is each. works_or_signals program lawful cells (one t) _ _ _ (λ x e.
        works_same program lawful cells t x (if_found (Is program lawful cells t) _ x e (last_is program lawful cells t a.items each)).1))

    addh_works : WorksHeaded program lawful (operation (array_of t) (codes "addh")) array_addh
    addh_works base os typed fit = works_two program lawful base no_types (array_of t) t os _ typed fit (λ r x tr tx fr fx. works_array program lawful base no_types r t _ tr fr (λ cells l c a is each. grown cells c a (record a { items = a.items ++ x ∷ [] })))

    addl_works : WorksHeaded program lawful (operation (array_of t) (codes "addl")) array_addl
    addl_works base os typed fit = works_two program lawful base no_types (array_of t) t os _ typed fit (λ r x tr tx fr fx. works_array program lawful base no_types r t _ tr fr (λ cells l c a is each. grown cells c a (record a { low = a.low -ℤ pos 1; items = x ∷ a.items })))

    remh_works : WorksHeaded program lawful (operation (array_of t) (codes "remh")) array_remh
    remh_works base os typed fit = of_one (one t) base os _ typed fit (λ cells l c a is each. works_or_signals program lawful cells (one t) _ _ _ (λ x e. works_or_signals program lawful cells (one t) _ _ _ (λ xs k.
        changed cells (one t) c (record a { items = xs }) (x ∷ []) (one_fits t x (if_found (Is program lawful cells t) _ x e (last_is program lawful cells t a.items each)).1))))

    reml_works : WorksHeaded program lawful (operation (array_of t) (codes "reml")) array_reml
    reml_works base os typed fit = of_one (one t) base os _ typed fit (λ cells l c a is each. works_or_signals program lawful cells (one t) _ _ _ (λ x e. works_or_signals program lawful cells (one t) _ _ _ (λ xs k.
        changed cells (one t) c (record a { low = a.low +ℤ pos 1; items = xs }) (x ∷ []) (one_fits t x (if_found (Is program lawful cells t) _ x e (first_is program lawful cells t a.items each)).1))))

    trim_works : WorksHeaded program lawful (operation (array_of t) (codes "trim")) array_trim
    trim_works base os typed fit = works_three program lawful base no_types (array_of t) int_type int_type os _ typed fit (λ r b d tr tb td fr fb fd. works_array program lawful base no_types r t _ tr fr (λ cells l c a is each.
        works_int program lawful cells no_types b _ (typed_on program lawful base cells l b tb) fb (λ i. works_int program lawful cells no_types d _ (typed_on program lawful base cells l d td) fd (λ n.
        works_signals_if program lawful cells no_types _ _ _ (λ not_. works_or_signals program lawful cells no_types _ _ _ (λ rest e. changed cells no_types c (record a { low = i; items = take (count_of n) rest }) [] refl))))))

    copy1_works : WorksHeaded program lawful (operation (array_of t) (codes "copy1")) array_copy1
    copy1_works base os typed fit = of_one (one (array_of t)) base os _ typed fit (λ cells l c a is each. works_new_array program lawful cells t a.element a.low a.items is)

    pub arrays_work : AllWork program lawful (operation (array_of t)) (array_primitives t)
    arrays_work = (
      create_works,
      (
        new_works,
        (
          predict_works,
          (
            fill_works,
            (
              size_works,
              (
                low_works,
                (
                  high_works,
                  (
                    empty_works,
                    (
                      set_low_works,
                      (
                        fetch_works,
                        (
                          store_works,
                          (
                            bottom_works,
                            (
                              top_works,
                              (
                                addh_works,
                                (
                                  addl_works,
                                  (
                                    remh_works,
                                    (
                                      reml_works,
                                      (
                                        trim_works,
                                        (copy1_works, (same_cell_works (array_of t) refl refl refl, tt)),
                                      ),
                                    ),
                                  ),
                                ),
                              ),
                            ),
                          ),
                        ),
                      ),
                    ),
                  ),
                ),
              ),
            ),
          ),
        ),
      ),
    )

    -- ---- sequences

    -- of one sequence
    of_sequence : (results : CluTypes) (base : List Cell) (os : List Object) (rest : List Object → Action) → AllTyped program lawful base os → all_fit (own_types os) (one (sequence_of t)) ≡ true →
        ((xs : List Object) → Each program lawful base t xs → Works program lawful base results (rest xs)) → Works program lawful base results (with_one os (λ s. with_sequence s rest))
    of_sequence results base os rest typed fit h = works_one program lawful base results (sequence_of t) os _ typed fit (λ s ts fs. works_sequence program lawful base results s t rest ts fs h)

    sequence_new_works : WorksHeaded program lawful (operation (sequence_of t) (codes "new")) (sequence_new t)
    sequence_new_works base os typed fit = works_none program lawful base (one (sequence_of t)) os _ fit (works_new_sequence program lawful base t [])

    e2s_works : WorksHeaded program lawful (operation (sequence_of t) (codes "e2s")) (sequence_e2s t)
    e2s_works base os typed fit = works_one program lawful base (one (sequence_of t)) t os _ typed fit (λ x tx fx. works_new_sequence program lawful base t (x ∷ []))

    sequence_fill_works : WorksHeaded program lawful (operation (sequence_of t) (codes "fill")) (sequence_fill t)
    sequence_fill_works base os typed fit = works_two program lawful base (one (sequence_of t)) int_type t os _ typed fit (λ b x tb tx fb fx. works_int program lawful base (one (sequence_of t)) b _ tb fb (λ n.
        works_signals_if program lawful base (one (sequence_of t)) _ _ _ (λ not_. works_new_sequence program lawful base t (replicate (count_of n) x))))

    sequence_size_works : WorksHeaded program lawful (operation (sequence_of t) (codes "size")) sequence_size
    sequence_size_works base os typed fit = of_sequence (one int_type) base os _ typed fit (λ xs each. works_gives program lawful base (one int_type) (int_object _ ∷ []) refl)

    sequence_empty_works : WorksHeaded program lawful (operation (sequence_of t) (codes "empty")) sequence_empty
    sequence_empty_works base os typed fit = of_sequence (one bool_type) base os _ typed fit (λ xs each. works_gives program lawful base (one bool_type) (bool_object _ ∷ []) refl)

    sequence_fetch_works : WorksHeaded program lawful (operation (sequence_of t) (codes "fetch")) sequence_fetch
    sequence_fetch_works base os typed fit = works_two program lawful base (one t) (sequence_of t) int_type os _ typed fit (λ s b ts tb fs fb. works_sequence program lawful base (one t) s t _ ts fs (λ xs each. works_int program lawful base (one t) b _ tb fb (λ i.
        works_or_signals program lawful base (one t) _ _ _ (λ x e. works_same program lawful base t x (if_found (Is program lawful base t) _ x e (item_is program lawful base t xs (i -ℤ pos 1) each)).1))))

    sequence_bottom_works : WorksHeaded program lawful (operation (sequence_of t) (codes "bottom")) sequence_bottom
    sequence_bottom_works base os typed fit = of_sequence (one t) base os _ typed fit (λ xs each. works_or_signals program lawful base (one t) _ _ _ (λ x e.
        works_same program lawful base t x (if_found (Is program lawful base t) _ x e (first_is program lawful base t xs each)).1))

    sequence_top_works : WorksHeaded program lawful (operation (sequence_of t) (codes "top")) sequence_top
    sequence_top_works base os typed fit = of_sequence (one t) base os _ typed fit (λ xs each. works_or_signals program lawful base (one t) _ _ _ (λ x e.
        works_same program lawful base t x (if_found (Is program lawful base t) _ x e (last_is program lawful base t xs each)).1))

    replace_works : WorksHeaded program lawful (operation (sequence_of t) (codes "replace")) (sequence_replace t)
    replace_works base os typed fit = works_three program lawful base (one (sequence_of t)) (sequence_of t) int_type t os _ typed fit (λ s b x ts tb tx fs fb fx. works_sequence program lawful base (one (sequence_of t)) s t _ ts fs (λ xs each.
        works_int program lawful base (one (sequence_of t)) b _ tb fb (λ i. works_or_signals program lawful base (one (sequence_of t)) _ _ _ (λ ys e. works_new_sequence program lawful base t ys))))

    sequence_addh_works : WorksHeaded program lawful (operation (sequence_of t) (codes "addh")) (sequence_addh t)
    sequence_addh_works base os typed fit = works_two program lawful base (one (sequence_of t)) (sequence_of t) t os _ typed fit (λ s x ts tx fs fx. works_sequence program lawful base (one (sequence_of t)) s t _ ts fs (λ xs each. works_new_sequence program lawful base t (xs ++ x ∷ [])))

    sequence_addl_works : WorksHeaded program lawful (operation (sequence_of t) (codes "addl")) (sequence_addl t)
    sequence_addl_works base os typed fit = works_two program lawful base (one (sequence_of t)) (sequence_of t) t os _ typed fit (λ s x ts tx fs fx. works_sequence program lawful base (one (sequence_of t)) s t _ ts fs (λ xs each. works_new_sequence program lawful base t (x ∷ xs)))

    sequence_remh_works : WorksHeaded program lawful (operation (sequence_of t) (codes "remh")) (sequence_remh t)
    sequence_remh_works base os typed fit = of_sequence (one (sequence_of t)) base os _ typed fit (λ xs each. works_or_signals program lawful base (one (sequence_of t)) _ _ _ (λ ys e. works_new_sequence program lawful base t ys))

    sequence_reml_works : WorksHeaded program lawful (operation (sequence_of t) (codes "reml")) (sequence_reml t)
    sequence_reml_works base os typed fit = of_sequence (one (sequence_of t)) base os _ typed fit (λ xs each. works_or_signals program lawful base (one (sequence_of t)) _ _ _ (λ ys e. works_new_sequence program lawful base t ys))

    concat_works : WorksHeaded program lawful (operation (sequence_of t) (codes "concat")) (sequence_concat t)
    concat_works base os typed fit = works_two program lawful base (one (sequence_of t)) (sequence_of t) (sequence_of t) os _ typed fit (λ a b ta tb fa fb. works_sequence program lawful base (one (sequence_of t)) a t _ ta fa (λ xs each.
        works_sequence program lawful base (one (sequence_of t)) b t _ tb fb (λ ys more. works_new_sequence program lawful base t (xs ++ ys))))

    subseq_works : WorksHeaded program lawful (operation (sequence_of t) (codes "subseq")) (sequence_subseq t)
    subseq_works base os typed fit = works_three program lawful base (one (sequence_of t)) (sequence_of t) int_type int_type os _ typed fit (λ s b d ts tb td fs fb fd. works_sequence program lawful base (one (sequence_of t)) s t _ ts fs (λ xs each.
        works_int program lawful base (one (sequence_of t)) b _ tb fb (λ i. works_int program lawful base (one (sequence_of t)) d _ td fd (λ n. works_signals_if program lawful base (one (sequence_of t)) _ _ _ (λ not_.
        works_or_signals program lawful base (one (sequence_of t)) _ _ _ (λ rest e. works_new_sequence program lawful base t (take (count_of n) rest)))))))

    a2s_works : WorksHeaded program lawful (operation (sequence_of t) (codes "a2s")) (sequence_a2s t)
    a2s_works base os typed fit = of_one (one (sequence_of t)) base os _ typed fit (λ cells l c a is each. works_new_sequence program lawful cells t a.items)

    s2a_works : WorksHeaded program lawful (operation (sequence_of t) (codes "s2a")) (sequence_s2a t)
    s2a_works base os typed fit = of_sequence (one (array_of t)) base os _ typed fit (λ xs each. works_new_array program lawful base t t (pos 1) xs refl)

    pub sequences_work : AllWork program lawful (operation (sequence_of t)) (sequence_primitives t)
    sequences_work = (
      sequence_new_works,
      (
        e2s_works,
        (
          sequence_fill_works,
          (
            sequence_size_works,
            (
              sequence_empty_works,
              (
                sequence_fetch_works,
                (
                  sequence_bottom_works,
                  (
                    sequence_top_works,
                    (
                      replace_works,
                      (
                        sequence_addh_works,
                        (
                          sequence_addl_works,
                          (
                            sequence_remh_works,
                            (sequence_reml_works, (concat_works, (subseq_works, (a2s_works, (s2a_works, tt))))),
                          ),
                        ),
                      ),
                    ),
                  ),
                ),
              ),
            ),
          ),
        ),
      ),
    )
