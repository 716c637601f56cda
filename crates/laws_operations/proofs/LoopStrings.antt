-- The operations that compare strings.
use Rattle.std.proofs.Common.{◌≡◌, ℕ, suc, ◌+◌, ◌*◌, ◌==◌, Bool, true, List, [], ◌∷◌, length, Some, refl, ap, subst, arith}
use Rattle.std.specs.Prelude.{codes}
use Rattle.std.specs.declared.cmp.Ordering.{Ordering}
use Rattle.std.specs.declared.cmp.Ordering.TheVariants as ordering
use Rattle.std.specs.Ordering.{is_lt, is_le, is_eq, is_ge, is_gt, nat_cmp}
use Rattle.std.specs.Cmp.Lexicographic.{slice_cmp}
use Rattle.clu_types.specs.CluType.{CluType, no_types, type_and, bool_type, string_type}
use Rattle.clu_layout.specs.Objects.{Object}
use Rattle.clu_layout.specs.Actions.{Action, World, Outcome, counts, gives_all, gives_bool, with_string, with_two}
use Rattle.clu_layout.specs.StringOperations.{string_compared}
use Rattle.clu_wir.specs.Value.{View}
use Rattle.clu_word_meaning.specs.Levels.{arguments, entered, framed, inside}
use Rattle.clu_word_meaning.specs.Words.{Body, Computation, Entry, Linked, State, ended, returned, view}
use Rattle.clu_representation.specs.Layout.{Image, Layout}
use Rattle.clu_representation.specs.Shown.{At, Bare, bit}
use Rattle.clu_representation.specs.Stored.{Seen}
use Rattle.laws_operations.specs.Comes.{InSlots}
use Rattle.laws_operations.specs.LoopCodes.{compared_code, compared_row, equal_code, string_compared_rows}
use Rattle.laws_operations.specs.LoopRows.{EachSteps, StepsRow, routine_of}
use Rattle.laws_operations.proofs.LoopCompared.{Anything, compares}
use Rattle.laws_operations.proofs.LoopEntering.{Within, returning, steps, steps_do}
use Rattle.laws_operations.proofs.LoopEqual.{tells}
use Rattle.laws_operations.proofs.LoopSteps.{Runs}
use Rattle.laws_operations.proofs.LoopTexts.{Text, text_of}
use Rattle.laws_operations.proofs.StringLoads.{as_string}

pub two_of : (image : Image) (map : Layout) (view : View) (P : Outcome → Type 0) (t s : CluType) (rest : Object → Object → Action) (os : List Object) (w : World) → InSlots image map view (type_and t (type_and s no_types)) 0 os →
    ((a b : Object) (u v : ℕ) → view.slot 0 ≡ Some u → view.slot 1 ≡ Some v → At image map t a u → At image map s b v → P (rest a b w)) → P (with_two os rest w)
unfolding with_two
two_of image map view P t s rest [] w h f = absurd h
two_of image map view P t s rest (a ∷ []) w (k, h) f = absurd h
two_of image map view P t s rest (a ∷ b ∷ []) w ((u, p, k), ((v, q, l), h)) f = f a b u v p q k l
two_of image map view P t s rest (a ∷ b ∷ c ∷ os) w (k, (l, h)) f = absurd h

module _ (image : Image) (map : Layout) (l : Linked) (entries : ℕ → Entry) (live : ℕ) (body : Body) (ws : List ℕ) (st : State) (seen : Seen map (view l (arguments ws) st.world)) (os : List Object)
    (shown : InSlots image map (view l (arguments ws) st.world) (type_and string_type (type_and string_type no_types)) 0 os) where
  abbrev routine : StepsRow → Computation (List ℕ)
  routine row = entered entries (Some (framed (routine_of row l))) live body ws

  -- an operation that counts the bytes of both and gives a bool
  of_both : (row : StepsRow) (holds : List ℕ → List ℕ → Bool) (fits : (row.args == length ws) ≡ true) →
      ((s t : List ℕ) (u v : ℕ) → Text map (view l (arguments ws) st.world) s u → Text map (view l (arguments ws) st.world) t v → arguments ws 0 ≡ Some u → arguments ws 1 ≡ Some v →
      Runs st.outer st.world (steps l entries live body row ws st fits) (arguments ws) (13 + 10 * length s) (37 + 32 * length s) (λ k st. ended (returned (bit (holds s t) ∷ [])) k st) Anything) →
      (w : World) → Within image map (routine row) st (inside live (routine_of row l)) (type_and bool_type no_types) w
      (with_two os (λ a b. with_string a (λ s. with_string b (λ t. counts (length s + length t) (gives_bool (holds s t))))) w)
  unfolding counts gives_all
  of_both row holds fits runs w =
      let P = Within image map (routine row) st (inside live (routine_of row l)) (type_and bool_type no_types) w in
      two_of image map (view l (arguments ws) st.world) P string_type string_type (λ a b. with_string a (λ s. with_string b (λ t. counts (length s + length t) (gives_bool (holds s t))))) os w shown (λ a b u v p q k m.
      as_string P tt a (λ s. with_string b (λ t. counts (length s + length t) (gives_bool (holds s t)))) w (λ s e.
      as_string P tt b (λ t. counts (length s + length t) (gives_bool (holds s t))) w (λ t g.
      record {
        v = bit (holds s t);
        work = length s + length t;
        shown = refl;
        ran = returning l entries live body row ws st fits (bit (holds s t)) (suc (length s + length t)) (omega arith) (omega arith)
            (runs s t u v (text_of map (view l (arguments ws) st.world) seen s u (subst (λ o. Bare image map o u) e k)) (text_of map (view l (arguments ws) st.world) seen t v (subst (λ o. Bare image map o v) g m)) p q);
        same = refl;
      })))

  compared : (name : List ℕ) (holds : Ordering → Bool) (less greater equal : ℕ) → less ≡ bit (holds ordering.Less) → greater ≡ bit (holds ordering.Greater) → equal ≡ bit (holds ordering.Equal) → length ws ≡ 2 → (w : World) →
      Within image map (routine (compared_row name (compared_code less greater equal))) st (inside live (routine_of (compared_row name (compared_code less greater equal)) l)) (type_and bool_type no_types) w (string_compared holds os w)
  compared name holds less greater equal le ge ee fits w =
      let row = compared_row name (compared_code less greater equal) in
      of_both row (λ s t. holds (slice_cmp nat_cmp s t)) (ap (λ n. 2 == n) fits) (λ s t u v su tv p q.
      compares st.outer st.world l entries body (inside live (routine_of row l)) map (arguments ws) seen holds less greater equal le ge ee s t u v su tv p q) w

  told : (name : List ℕ) → length ws ≡ 2 → (w : World) →
      Within image map (routine (compared_row name equal_code)) st (inside live (routine_of (compared_row name equal_code) l)) (type_and bool_type no_types) w (string_compared is_eq os w)
  told name fits w =
      let row = compared_row name equal_code in
      of_both row (λ s t. is_eq (slice_cmp nat_cmp s t)) (ap (λ n. 2 == n) fits) (λ s t u v su tv p q.
      tells st.outer st.world l entries body (inside live (routine_of row l)) map (arguments ws) seen s t u v su tv p q) w

pub compared_right : EachSteps string_type string_compared_rows
compared_right = (
  λ image map l entries live body ws st os w around h fits. steps_do image map _ st _ string_type (codes "lt") os w (compared image map l entries live body ws st around.seen os h (codes "lt") is_lt 1 0 0 refl refl refl fits),
  (
    λ image map l entries live body ws st os w around h fits. steps_do image map _ st _ string_type (codes "le") os w (compared image map l entries live body ws st around.seen os h (codes "le") is_le 1 0 1 refl refl refl fits),
    (
      λ image map l entries live body ws st os w around h fits. steps_do image map _ st _ string_type (codes "ge") os w (compared image map l entries live body ws st around.seen os h (codes "ge") is_ge 0 1 1 refl refl refl fits),
      (
        λ image map l entries live body ws st os w around h fits. steps_do image map _ st _ string_type (codes "gt") os w (compared image map l entries live body ws st around.seen os h (codes "gt") is_gt 0 1 0 refl refl refl fits),
        (
          λ image map l entries live body ws st os w around h fits. steps_do image map _ st _ string_type (codes "equal") os w (told image map l entries live body ws st around.seen os h (codes "equal") fits),
          (
            λ image map l entries live body ws st os w around h fits. steps_do image map _ st _ string_type (codes "similar") os w (told image map l entries live body ws st around.seen os h (codes "similar") fits),
            tt,
          ),
        ),
      ),
    ),
  ),
)
