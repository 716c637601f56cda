-- The primitive operations of null, routine types, bool, int, char, string and stream give objects of their headings' results.
use Rattle.std.proofs.Common.{◌≡◌, refl, ap, ◌∙◌}
use Rattle.std.specs.Prelude.{ℕ, pos, true, List, [], ◌∷◌, ◌++◌, map, take, drop, Option, Some, None, codes}
use Rattle.clu_types.specs.CluType.{CluType, null_type, bool_type, int_type, char_type, string_type, stream_type, array_of, proc_of, iter_of, CluTypes, Signals}
use Rattle.clu_builtin.specs.Operation.{Operation, one, two}
use Rattle.clu_builtin.specs.Table.{operation}
use Rattle.clu_layout.specs.Objects.{Routine, Object, char_object, bool_object, Cell, own_types}
use Rattle.clu_layout.specs.SameType.{is_routine_type, all_fit}
use Rattle.clu_layout.specs.Actions.{Primitive}
use Rattle.clu_layout.specs.PlainOperations.{Primitives, copy_of_immutable, null_primitives, routine_equal, routine_primitives, bool_primitives}
use Rattle.clu_layout.specs.NumberOperations.{int_primitives, char_primitives}
use Rattle.clu_layout.specs.StringOperations.{string_primitives, string_s2ac, string_ac2s}
use Rattle.clu_layout.specs.StreamOperations.{stream_primitives}
use Rattle.clu_layout.specs.Actions.{char_of, after_char, bytes_of}
use Rattle.clu_meaning.specs.Programs.{Program}
use Rattle.clu_meaning.specs.Typed.{AllTyped}
use Rattle.clu_meaning.proofs.TypedElements.{Each}
use Rattle.laws_sound.proofs.Shapes.{included_is, included_routine, char_is}
use Rattle.laws_sound.proofs.Works.{Works, working, works_none, works_one, works_two, works_three, works_string, works_array, works_needed, works_new_array, works_counts, works_takes, works_same, works_routine, works_gives}

module _ (program : Program) (lawful : Routine → Type 0) where
  abbrev pub WorksHeaded : Option Operation → Primitive → Type 0
  WorksHeaded None p = Unit {0}
  WorksHeaded (Some heading) p = (base : List Cell) (os : List Object) → AllTyped program lawful base os → all_fit (own_types os) heading.args ≡ true → Works program lawful base heading.results (p os)

  abbrev pub AllWork : (List ℕ → Option Operation) → Primitives → Type 0
  AllWork heading [] = Unit {0}
  AllWork heading ((name, p) ∷ rest) = WorksHeaded (heading name) p × AllWork heading rest

  pub joined_work : (heading : List ℕ → Option Operation) (ps qs : Primitives) → AllWork heading ps → AllWork heading qs → AllWork heading (ps ++ qs)
  joined_work heading [] qs f g = g
  joined_work heading ((name, p) ∷ ps) qs f g = (f.0, joined_work heading ps qs f.1 g)

  pub nulls_work : AllWork (operation null_type) null_primitives
  nulls_work = search (working, works_one, works_two) depth 14 fits 4000

  -- ---- routine types

  equal_works : (T : CluType) → is_routine_type T ≡ true → (base : List Cell) (os : List Object) → AllTyped program lawful base os → all_fit (own_types os) (two T T) ≡ true → Works program lawful base (one bool_type) (routine_equal os)
  equal_works T r base os typed fit = works_two program lawful base (one bool_type) T T os _ typed fit (λ a b ta tb fa fb.
      works_routine program lawful base (one bool_type) a _ ta (included_routine _ T r fa) (λ f. works_routine program lawful base (one bool_type) b _ tb (included_routine _ T r fb) (λ g.
      works_gives program lawful base (one bool_type) (bool_object _ ∷ []) refl)))

  copy_works : (T : CluType) (base : List Cell) (os : List Object) → AllTyped program lawful base os → all_fit (own_types os) (one T) ≡ true → Works program lawful base (one T) (copy_of_immutable os)
  copy_works T base os typed fit = works_one program lawful base (one T) T os _ typed fit (λ a ta fa. works_same program lawful base T a fa)

  pub procs_work : (args results : CluTypes) (ss : Signals) → AllWork (operation (proc_of args results ss)) routine_primitives
  procs_work args results ss = (equal_works (proc_of args results ss) refl, (equal_works (proc_of args results ss) refl, (copy_works (proc_of args results ss), tt)))

  pub iters_work : (args results : CluTypes) (ss : Signals) → AllWork (operation (iter_of args results ss)) routine_primitives
  iters_work args results ss = (equal_works (iter_of args results ss) refl, (equal_works (iter_of args results ss) refl, (copy_works (iter_of args results ss), tt)))

  -- ---- bool, int and char

  pub bools_work : AllWork (operation bool_type) bool_primitives
  bools_work = search (working, works_one, works_two) depth 14 fits 4000

  pub ints_work : AllWork (operation int_type) int_primitives
  ints_work = joined_work (operation int_type) (take 5 int_primitives) (drop 5 int_primitives) (search (working, works_one, works_two) depth 14 fits 4000)
      (joined_work (operation int_type) (take 5 (drop 5 int_primitives)) (drop 10 int_primitives) (search (working, works_one, works_two) depth 14 fits 4000) (search (working, works_one, works_two) depth 14 fits 4000))

  pub chars_work : AllWork (operation char_type) char_primitives
  chars_work = joined_work (operation char_type) (take 4 char_primitives) (drop 4 char_primitives) (search (working, works_one, works_two) depth 14 fits 4000) (search (working, works_one, works_two) depth 14 fits 4000)

  -- ---- string

  s2ac_works : WorksHeaded (operation string_type (codes "s2ac")) string_s2ac
  s2ac_works base os typed fit = works_one program lawful base (one (array_of char_type)) string_type os _ typed fit (λ a ta fa. works_string program lawful base (one (array_of char_type)) a _ ta fa (λ s.
      works_new_array program lawful base char_type char_type (pos 1) (map char_object s) refl))

  -- chars have bytes
  bytes_there : (base : List Cell) (xs : List Object) → Each program lawful base char_type xs → (bytes : List ℕ) × (bytes_of xs ≡ Some bytes)
  bytes_there base [] h = ([], refl)
  bytes_there base (x ∷ xs) h =
      let is = char_is program lawful base x h.0.0 (included_is _ char_type refl refl h.0.1) in
      let rest = bytes_there base xs h.1 in
      (is.0 ∷ rest.0, ap (λ o. after_char (char_of o) (bytes_of xs)) is.1 ∙ ap (after_char (Some is.0)) rest.1)

  ac2s_works : WorksHeaded (operation string_type (codes "ac2s")) string_ac2s
  ac2s_works base os typed fit = works_one program lawful base (one string_type) (array_of char_type) os _ typed fit (λ a ta fa. works_array program lawful base (one string_type) a char_type _ ta fa (λ cells l c array is each.
      let bytes = bytes_there cells array.items each in
      works_needed program lawful cells (one string_type) _ _ bytes.0 bytes.1 (works_counts program lawful cells (one string_type) _ _ (works_takes program lawful cells (one string_type) _ _ (works_gives program lawful cells (one string_type) _ refl)))))

  pub strings_work : AllWork (operation string_type) string_primitives
  strings_work = joined_work (operation string_type) (take 5 string_primitives) (drop 5 string_primitives) (search (working, works_one, works_two) depth 14 fits 4000)
      (joined_work (operation string_type) (take 5 (drop 5 string_primitives)) (drop 10 string_primitives) (search (working, works_one, works_two) depth 14 fits 4000)
      (joined_work (operation string_type) (take 4 (drop 10 string_primitives)) (drop 14 string_primitives) (search (working, works_one, works_two, works_three) depth 16 fits 4000)
      (joined_work (operation string_type) (take 2 (drop 14 string_primitives)) (drop 16 string_primitives) (s2ac_works, (ac2s_works, tt)) (search (working, works_one, works_two) depth 14 fits 4000))))

  -- ---- stream

  pub streams_work : AllWork (operation stream_type) stream_primitives
  streams_work = joined_work (operation stream_type) (take 4 stream_primitives) (drop 4 stream_primitives) (search (working, works_none, works_one, works_two) depth 14 fits 4000) (search (working, works_none, works_one, works_two) depth 14 fits 4000)
