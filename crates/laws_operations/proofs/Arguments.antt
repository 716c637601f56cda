-- The objects that operations take apart, beside the words in their slots.
use Rattle.std.proofs.Common.{◌≡◌, ℕ, ℤ, Bool, true, false, ◌&&◌, List, [], ◌∷◌, ◌<◌, Some, refl, ap, ◌∙◌, subst}
use Rattle.clu_types.specs.CluType.{CluType, CluTypes, no_types, type_and, bool_type, int_type, char_type}
use Rattle.clu_layout.specs.Objects.{own_type, own_types, Stream, Object, bool_object, int_object, char_object, stream_object, routine_object, reference, Routine}
use Rattle.clu_layout.specs.Actions.{Action, World, Outcome, wrong, no_case, with_one, with_two, with_bool, with_int, with_char, with_stream, with_routine, with_cell}
use Rattle.clu_layout.specs.Primitive.{may_be_argument, may_be_arguments}
use Rattle.clu_layout.specs.NumberOperations.{one_int, two_ints}
use Rattle.clu_layout.specs.PlainOperations.{two_bools}
use Rattle.clu_wir.specs.Value.{Value, View}
use Rattle.clu_representation.specs.Layout.{Image, Layout}
use Rattle.clu_representation.specs.Shown.{At, Bare, IsInt, bit}
use Rattle.laws_operations.specs.Comes.{Comes, InSlots}

pub as_int : (P : Outcome → Type 0) → P wrong → (o : Object) (rest : ℤ → Action) (w : World) → ((x : ℤ) → o ≡ int_object x → P (rest x w)) → P (with_int o rest w)
unfolding with_int no_case
as_int P z (int_object x) rest w f = f x refl
as_int P z _ rest w f = z

pub as_bool : (P : Outcome → Type 0) → P wrong → (o : Object) (rest : Bool → Action) (w : World) → ((x : Bool) → o ≡ bool_object x → P (rest x w)) → P (with_bool o rest w)
unfolding with_bool no_case
as_bool P z (bool_object x) rest w f = f x refl
as_bool P z _ rest w f = z

pub as_char : (P : Outcome → Type 0) → P wrong → (o : Object) (rest : ℕ → Action) (w : World) → ((x : ℕ) → o ≡ char_object x → P (rest x w)) → P (with_char o rest w)
unfolding with_char no_case
as_char P z (char_object x) rest w f = f x refl
as_char P z _ rest w f = z

pub as_stream : (P : Outcome → Type 0) → P wrong → (o : Object) (rest : Stream → Action) (w : World) → ((x : Stream) → o ≡ stream_object x → P (rest x w)) → P (with_stream o rest w)
unfolding with_stream no_case
as_stream P z (stream_object x) rest w f = f x refl
as_stream P z _ rest w f = z

pub as_routine : (P : Outcome → Type 0) → P wrong → (o : Object) (rest : Routine → Action) (w : World) → ((x : Routine) (heading : CluType) → o ≡ routine_object x heading → P (rest x w)) → P (with_routine o rest w)
unfolding with_routine no_case
as_routine P z (routine_object x heading) rest w f = f x heading refl
as_routine P z _ rest w f = z

pub as_cell : (P : Outcome → Type 0) → P wrong → (o : Object) (rest : ℕ → Action) (w : World) → ((t : CluType) (x : ℕ) → o ≡ reference t x → P (rest x w)) → P (with_cell o rest w)
unfolding with_cell no_case
as_cell P z (reference t x) rest w f = f t x refl
as_cell P z _ rest w f = z

pub both_true : (a b : Bool) → a && b ≡ true → (a ≡ true) × (b ≡ true)
both_true true true e = (refl, refl)
both_true true false e = absurd (cc e)
both_true false b e = absurd (cc e)

module _ (image : Image) (map : Layout) (view : View) (results : CluTypes) (Then : World → Type 0) (value : Value) where
  abbrev pub Goal : Outcome → Type 0
  Goal out = Comes image map results Then out value

  -- the word in a slot shows an object
  abbrev pub Slot : ℕ → Object → ℕ → Type 0
  Slot n o u = (view.slot n ≡ Some u) × Bare image map o u

  pub one_object : (t : CluType) (rest : Object → Action) (os : List Object) (w : World) → InSlots image map view (type_and t no_types) 0 os →
      ((o : Object) (u : ℕ) → view.slot 0 ≡ Some u → At image map t o u → Goal (rest o w)) → Goal (with_one os rest w)
  unfolding with_one
  one_object t rest [] w h f = absurd h
  one_object t rest (a ∷ []) w ((u, p, s), h) f = f a u p s
  one_object t rest (a ∷ b ∷ os) w ((u, p, s), h) f = absurd h

  pub two_objects : (t s : CluType) (rest : Object → Object → Action) (os : List Object) (w : World) → InSlots image map view (type_and t (type_and s no_types)) 0 os →
      ((a b : Object) (u v : ℕ) → view.slot 0 ≡ Some u → view.slot 1 ≡ Some v → At image map t a u → At image map s b v → Goal (rest a b w)) → Goal (with_two os rest w)
  unfolding with_two
  two_objects t s rest [] w h f = absurd h
  two_objects t s rest (a ∷ []) w (k, h) f = absurd h
  two_objects t s rest (a ∷ b ∷ []) w ((u, p, k), ((v, q, l), h)) f = f a b u v p q k l
  two_objects t s rest (a ∷ b ∷ c ∷ os) w (k, (l, h)) f = absurd h

  -- with what is known of the types of arguments
  pub one_fitting : (T t : CluType) (rest : Object → Action) (os : List Object) (w : World) → InSlots image map view (type_and t no_types) 0 os → may_be_arguments T (own_types os) (type_and t no_types) ≡ true →
      ((o : Object) (u : ℕ) → view.slot 0 ≡ Some u → At image map t o u → may_be_argument T (own_type o) t ≡ true → Goal (rest o w)) → Goal (with_one os rest w)
  unfolding with_one
  one_fitting T t rest [] w h e f = absurd h
  one_fitting T t rest (a ∷ []) w ((u, p, s), h) e f = f a u p s (both_true (may_be_argument T (own_type a) t) true e).0
  one_fitting T t rest (a ∷ b ∷ os) w ((u, p, s), h) e f = absurd h

  pub two_fitting : (T t s : CluType) (rest : Object → Object → Action) (os : List Object) (w : World) → InSlots image map view (type_and t (type_and s no_types)) 0 os →
      may_be_arguments T (own_types os) (type_and t (type_and s no_types)) ≡ true →
      ((a b : Object) (u v : ℕ) → view.slot 0 ≡ Some u → view.slot 1 ≡ Some v → At image map t a u → At image map s b v → may_be_argument T (own_type a) t ≡ true → Goal (rest a b w)) → Goal (with_two os rest w)
  unfolding with_two
  two_fitting T t s rest [] w h e f = absurd h
  two_fitting T t s rest (a ∷ []) w (k, h) e f = absurd h
  two_fitting T t s rest (a ∷ b ∷ []) w ((u, p, k), ((v, q, l), h)) e f = f a b u v p q k l (both_true (may_be_argument T (own_type a) t) (may_be_argument T (own_type b) s && true) e).0
  two_fitting T t s rest (a ∷ b ∷ c ∷ os) w (k, (l, h)) e f = absurd h

  pub an_int : (rest : ℤ → Action) (os : List Object) (w : World) → InSlots image map view (type_and int_type no_types) 0 os →
      ((x : ℤ) (u : ℕ) → view.slot 0 ≡ Some u → IsInt x u → Goal (rest x w)) → Goal (one_int os rest w)
  an_int rest os w h f = one_object int_type (λ a. with_int a rest) os w h (λ o u p s.
      as_int Goal tt o rest w (λ x e. f x u p (subst (λ a. Bare image map a u) e s)))

  pub both_ints : (rest : ℤ → ℤ → Action) (os : List Object) (w : World) → InSlots image map view (type_and int_type (type_and int_type no_types)) 0 os →
      ((x y : ℤ) (u v : ℕ) → view.slot 0 ≡ Some u → view.slot 1 ≡ Some v → IsInt x u → IsInt y v → Goal (rest x y w)) → Goal (two_ints os rest w)
  both_ints rest os w h f = two_objects int_type int_type (λ a b. with_int a (λ x. with_int b (λ y. rest x y))) os w h (λ a b u v p q k l.
      as_int Goal tt a (λ x. with_int b (λ y. rest x y)) w (λ x e. as_int Goal tt b (λ y. rest x y) w (λ y g.
      f x y u v p q (subst (λ o. Bare image map o u) e k) (subst (λ o. Bare image map o v) g l))))

  pub both_chars : (rest : ℕ → ℕ → Action) (os : List Object) (w : World) → InSlots image map view (type_and char_type (type_and char_type no_types)) 0 os →
      ((x y : ℕ) → view.slot 0 ≡ Some x → view.slot 1 ≡ Some y → x < 256 → y < 256 → Goal (rest x y w)) → Goal (with_two os (λ a b. with_char a (λ c. with_char b (λ d. rest c d))) w)
  both_chars rest os w h f = two_objects char_type char_type (λ a b. with_char a (λ c. with_char b (λ d. rest c d))) os w h (λ a b u v p q k l.
      as_char Goal tt a (λ c. with_char b (λ d. rest c d)) w (λ x e. as_char Goal tt b (λ d. rest x d) w (λ y g.
      let m = subst (λ o. Bare image map o u) e k in let n = subst (λ o. Bare image map o v) g l in
      f x y (p ∙ ap Some m.0) (q ∙ ap Some n.0) m.1 n.1)))

  pub a_bool : (rest : Bool → Action) (os : List Object) (w : World) → InSlots image map view (type_and bool_type no_types) 0 os →
      ((x : Bool) → view.slot 0 ≡ Some (bit x) → Goal (rest x w)) → Goal (with_one os (λ a. with_bool a rest) w)
  a_bool rest os w h f = one_object bool_type (λ a. with_bool a rest) os w h (λ o u p s.
      as_bool Goal tt o rest w (λ x e. f x (p ∙ ap Some (subst (λ a. Bare image map a u) e s))))

  pub both_bools : (rest : Bool → Bool → Action) (os : List Object) (w : World) → InSlots image map view (type_and bool_type (type_and bool_type no_types)) 0 os →
      ((x y : Bool) → view.slot 0 ≡ Some (bit x) → view.slot 1 ≡ Some (bit y) → Goal (rest x y w)) → Goal (two_bools os rest w)
  both_bools rest os w h f = two_objects bool_type bool_type (λ a b. with_bool a (λ x. with_bool b (λ y. rest x y))) os w h (λ a b u v p q k l.
      as_bool Goal tt a (λ x. with_bool b (λ y. rest x y)) w (λ x e. as_bool Goal tt b (λ y. rest x y) w (λ y g.
      f x y (p ∙ ap Some (subst (λ o. Bare image map o u) e k)) (q ∙ ap Some (subst (λ o. Bare image map o v) g l)))))
