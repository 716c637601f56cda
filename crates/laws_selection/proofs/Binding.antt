-- Words that are bound in an expression.
use Rattle.std.proofs.Common.{◌≡◌, ◌∙◌, ◌≢◌, ℕ, zero, suc, ℤ, ◌+◌, ◌-◌, ◌^◌, ◌<◌, ◌≤◌, ◌==◌, Bool, true, false, List, [], ◌∷◌, ◌++◌, length, slice_get, slice_set, Option, Some, None, refl, ap, sym, subst, arith}
use Rattle.std.specs.Prelude.{if◌then◌else◌, min, nat_lt, unwrap_or}
use Rattle.std.specs.Int.{w64, cast_signed}
use Rattle.std.proofs.lemmas.Bool.Decides.{nat_tests}
use Rattle.std.proofs.lemmas.Bool.{eqb-true}
use Rattle.std.proofs.Common.{true≢false}
use Rattle.clu_wir.specs.declared.hole.HoleKind.{HoleKind}
use Rattle.clu_wir.specs.declared.trap.Trap.{Trap}
use Rattle.rv_machine.specs.State.{State}
use Rattle.rv_select.specs.declared.conditions.Target.{Target}
use Rattle.rv_select.specs.declared.operand.Operand.{Operand}
use Rattle.rv_select.specs.declared.operand.Operand.TheVariants.{At as In, Known}
use Rattle.rv_select.specs.declared.operand.Scope.{Scope}
use Rattle.rv_select.specs.declared.register.Register.{Register}
use Rattle.rv_select.specs.Operands.{free, keeping, register_onto, taking, unbound}
use Rattle.rv_select.specs.Combining.{small}
use Rattle.rv_select.specs.Evaluation.{Part, at_of, binding, bound_onto, bound_scope, held, held_by, held_onto, held_onto_by, inner_scope, jump_of, onto_of, within}
use Rattle.rv_select.specs.Written.{Onto, Written, in_turn}
use Rattle.clu_wir.specs.Value.{Gives, Raises, Stuck, Value, View, then_word}
use Rattle.laws_selection.proofs.Meaning.{Meant, with_words}
use Rattle.laws_selection.specs.Registers.{stays}
use Rattle.laws_selection.specs.Running.{Code, Done, Reaches}
use Rattle.laws_selection.specs.Growing.{Adds, Front}
use Rattle.laws_selection.specs.Evaluating.{Gave, Here, HoldsWord, IsPlaced, Outcome, Raised, Scoped, Turned}
use Rattle.laws_selection.proofs.Registers.{stays_own}
use Rattle.laws_selection.proofs.Running.{done_less, done_same, done_then, reaches_same, reaches_then}
use Rattle.laws_selection.proofs.Growing.{Stood, adds_same, adds_then, binding_adds, front_adds, length_set, set_other, set_same, taking_adds, tested}
use Rattle.laws_selection.proofs.Evaluating.{gave_same, here_tested}
use Rattle.laws_selection.proofs.Combining.{Numbers, keeps_more, register_adds, register_gives}
use Rattle.laws_selection.proofs.Known.{number_adds, numbers}
use Rattle.laws_selection.proofs.Parts.{AreSmall, Good, adds_of, gives_of, here_taking, longer, raised_within, scoped_then, taken}
use Rattle.laws_selection.proofs.Checking.{Jumps, jump_of_adds, turns_of}

get_push : {A : Type 0} (xs : List A) (x : A) (n : ℕ) (y : A) → slice_get (xs ++ x ∷ []) n ≡ Some y → (c : Bool) → (n == length xs) ≡ c → (c ≡ true → x ≡ y) × (c ≡ false → slice_get xs n ≡ Some y)
get_push xs x n y e true q = ((λ t. at_end xs x y (subst (λ k. slice_get (xs ++ x ∷ []) k ≡ Some y) (eqb-true n (length xs) q) e)), (λ f. absurd (cc)))
  where
    at_end : {A : Type 0} (xs : List A) (x y : A) → slice_get (xs ++ x ∷ []) (length xs) ≡ Some y → x ≡ y
    at_end [] x y e = ap (λ o. Rattle.std.specs.Prelude.unwrap_or o x) e
    at_end (z ∷ xs) x y e = at_end xs x y e
get_push xs x n y e false q = ((λ t. absurd (cc)), (λ f. front xs x n y (λ same. let t : (n == length xs) ≡ true = grind (arith, nat_tests, same) in absurd (true≢false (sym t ∙ q))) e))
  where
    front : {A : Type 0} (xs : List A) (x : A) (n : ℕ) (y : A) → n ≢ length xs → slice_get (xs ++ x ∷ []) n ≡ Some y → slice_get xs n ≡ Some y
    front [] x zero y d e = absurd (d refl)
    front [] x (suc n) y d e = absurd (cc)
    front (z ∷ xs) x zero y d e = e
    front (z ∷ xs) x (suc n) y d e = front xs x n y (λ s. d (ap suc s)) e

push_length : {A : Type 0} (xs : List A) (x : A) → length (xs ++ x ∷ []) ≡ suc (length xs)
push_length [] x = refl
push_length (y ∷ xs) x = ap suc (push_length xs x)

-- what comes of values one after the other
abbrev pub Comes : Value → (ℕ → Type 0) → (Trap → Type 0) → Type 0
Comes (Gives n) p f = p n
Comes (Raises t) p f = f t
Comes Stuck p f = Unit {0}

abbrev pub AllCome : List Meant → List ℕ → List ℕ → (List ℕ → Type 0) → (Trap → Type 0) → Type 0
AllCome [] bound words p f = p words
AllCome (m ∷ ms) bound words p f = Comes (m bound) (λ n. AllCome ms bound (words ++ n ∷ []) p f) f

come_then : (x : Value) (p q : ℕ → Type 0) (f g : Trap → Type 0) → ((n : ℕ) → p n → q n) → ((t : Trap) → f t → g t) → Comes x p f → Comes x q g
come_then (Gives n) p q f g h k c = h n c
come_then (Raises t) p q f g h k c = k t c
come_then Stuck p q f g h k c = tt

all_then : (ms : List Meant) (bound words : List ℕ) (p q : List ℕ → Type 0) (f g : Trap → Type 0) → ((ws : List ℕ) → p ws → q ws) → ((t : Trap) → f t → g t) → AllCome ms bound words p f → AllCome ms bound words q g
all_then [] bound words p q f g h k c = h words c
all_then (m ∷ ms) bound words p q f g h k c =
    come_then (m bound) (λ n. AllCome ms bound (words ++ n ∷ []) p f) (λ n. AllCome ms bound (words ++ n ∷ []) q g) f g (λ n d. all_then ms bound (words ++ n ∷ []) p q f g h k d) k c

module _ (view : View) (image : Code) (base : ℕ) (W : Written) (hole : HoleKind → ℕ → ℕ) (stands : Stood W image base hole) (trap_address : Trap → ℕ) (few : length W.code < 2 ^ 32) where
  abbrev Here' : Written → State → Type 0
  Here' = Here view image base hole false

  abbrev Gave' : ℕ → Written → State → Operand → ℕ → Type 0
  Gave' = Gave view image base hole false

  abbrev Scoped' : Scope → List ℕ → State → Type 0
  Scoped' = Scoped false

  abbrev Outcome' : ℕ → Written → Written → State → Operand → Value → Type 0
  Outcome' = Outcome view image base hole false trap_address

  abbrev Raised' : Written → Written → State → Trap → Type 0
  Raised' = Raised base trap_address

  abbrev Good' : Part → Meant → Type 0
  Good' = Good view image base W hole stands false trap_address

  abbrev Jumps' : Part → Meant → Type 0
  Jumps' = Jumps view image base W hole stands trap_address few

  abbrev Turned' : ℕ → Written → Written → State → Bool → ℕ → Value → Type 0
  Turned' = Turned view image base hole trap_address

  abbrev nums : Numbers view image base W hole stands false
  nums = numbers view image base W hole stands false

  abbrev regs_add : (o : Operand) (to : Register) (w : Written) → Adds w (register_onto o to w)
  regs_add = register_adds view image base W hole stands false nums number_adds

  -- A bound word is an immediate, or in a register.
  held_adds : (o : Operand) (sc : Scope) (w : Written) → Adds w (held_onto o sc w)
  unfolding held_onto
  held_adds (In r) sc w = adds_same w
  held_adds (Known word) sc w = by (small (cast_signed w64 word))
    where
      by : (n : Option ℤ) → Adds w (held_onto_by n word sc w)
      by None = adds_then w (taking sc w) _ (taking_adds sc w) (regs_add (Known word) (free sc) (taking sc w))
      by (Some n) = adds_same w

  held_gives : (w : Written) (s : State) (o : Operand) (sc : Scope) (n : ℕ) → IsPlaced o → Here' w s → HoldsWord o s n → Front (held_onto o sc w) W → Gave' sc.kept (held_onto o sc w) s (held o sc) n
  unfolding held_onto held
  held_gives w s (In r) sc n p h e f = gave_same view image base W hole stands false sc.kept w s (In r) n h e p
  held_gives w s (Known word) sc n p h e f = by (small (cast_signed w64 word)) f
    where
      by : (k : Option ℤ) → Front (held_onto_by k word sc w) W → Gave' sc.kept (held_onto_by k word sc w) s (held_by k word sc) n
      by None f =
          let v = taking sc w in
          let spare = taken view image base W hole stands false trap_address sc w (front_adds v _ W (regs_add (Known word) (free sc) v) f) in
          register_gives view image base W hole stands false nums number_adds sc.kept v s (Known word) (free sc) n p (here_taking view image base W hole stands false trap_address sc w s h) e f spare.spare spare.near
      by (Some k) f = gave_same view image base W hole stands false sc.kept w s (Known word) n h e p

  abbrev pub AllGood : List Part → List Meant → Type 0
  AllGood [] [] = Unit {0}
  AllGood (p ∷ ps) (m ∷ ms) = Good' p m × AllGood ps ms
  AllGood _ _ = ⊥

  -- the words that are bound so far
  pub record Inner (inner kept : Scope) (words : List ℕ) (number : ℕ) (s : State) : Type 0 where
    pub count : length words ≡ number
    pub room : length inner.bound ≡ 4
    pub small : (n v : ℕ) → slice_get words n ≡ Some v → v < 2 ^ 64
    pub held' : (n v : ℕ) → slice_get words n ≡ Some v → (o : Operand) × (slice_get inner.bound n ≡ Some o) × HoldsWord o s v × IsPlaced o × ((r : Register) → o ≡ In r → stays kept.kept r ≡ true)
    pub placed : (n : ℕ) (o : Operand) → slice_get inner.bound n ≡ Some o → IsPlaced o

  still : (kept : Scope) (o : Operand) (s t : State) (v : ℕ) → ((r : Register) → o ≡ In r → stays kept.kept r ≡ true) → Done kept.kept s t → HoldsWord o s v → HoldsWord o t v
  still kept (In r) s t v k d h = d.stays r (k r refl) ∙ h
  still kept (Known w) s t v k d h = h

  own_stays : (kept : Scope) (o : Operand) → IsPlaced o → (r : Register) → o ≡ In r → stays (keeping o kept).kept r ≡ true
  own_stays kept (In q) p r e = subst (λ x. stays (keeping (In q) kept).kept x ≡ true) (in_same q r e) (stays_own kept.kept q p)
    where
      register_in : Operand → Register
      register_in (In x) = x
      register_in (Known k) = q

      in_same : (q r : Register) → In q ≡ In r → q ≡ r
      in_same q r e = ap register_in e
  own_stays kept (Known k) p r e = absurd (cc)

  inner_then : (inner kept : Scope) (words : List ℕ) (number : ℕ) (s t : State) (o : Operand) (n : ℕ) → number < 4 → n < 2 ^ 64 → IsPlaced o → HoldsWord o t n → Done kept.kept s t → Inner inner kept words number s →
      Inner (record inner { bound = slice_set inner.bound number o }) (keeping o kept) (words ++ n ∷ []) (min (number + 1) (2 ^ 64 - 1)) t
  inner_then inner kept words number s t o n few low p h d i =
      let count = i.count in
      record {
        count = push_length words n ∙ ap suc i.count ∙ grind (arith, nat_tests);
        room = length_set inner.bound number o ∙ i.room;
        small = λ k v e. small_by k v e (k == length words) refl;
        held' = λ k v e. held_by' k v e (k == length words) refl;
        placed = λ k q e. placed_by k q e (k == number) refl;
      }
    where
      small_by : (k v : ℕ) → slice_get (words ++ n ∷ []) k ≡ Some v → (c : Bool) → (k == length words) ≡ c → v < 2 ^ 64
      small_by k v e true q = subst (λ x. x < 2 ^ 64) ((get_push words n k v e true q).0 refl) low
      small_by k v e false q = i.small k v ((get_push words n k v e false q).1 refl)

      placed_by : (k : ℕ) (q : Operand) → slice_get (slice_set inner.bound number o) k ≡ Some q → (c : Bool) → (k == number) ≡ c → IsPlaced q
      placed_by k q e true is =
          let there : slice_get (slice_set inner.bound number o) k ≡ Some o = subst (λ j. slice_get (slice_set inner.bound number o) j ≡ Some o) (sym (eqb-true k number is)) (set_same inner.bound number o (subst (λ j. number < j) (sym i.room) few)) in
          subst IsPlaced (ap (λ x. unwrap_or x o) (sym there ∙ e)) p
      placed_by k q e false is =
          let differ : k ≢ number = λ same. let t : (k == number) ≡ true = grind (arith, nat_tests, same) in absurd (true≢false (sym t ∙ is)) in
          i.placed k q (sym (set_other inner.bound number k o differ) ∙ e)

      held_by' : (k v : ℕ) → slice_get (words ++ n ∷ []) k ≡ Some v → (c : Bool) → (k == length words) ≡ c →
          (x : Operand) × (slice_get (slice_set inner.bound number o) k ≡ Some x) × HoldsWord x t v × IsPlaced x × ((r : Register) → x ≡ In r → stays (keeping o kept).kept r ≡ true)
      held_by' k v e true q =
          let is : k ≡ number = eqb-true k (length words) q ∙ i.count in
          (o, subst (λ j. slice_get (slice_set inner.bound number o) j ≡ Some o) (sym is) (set_same inner.bound number o (subst (λ j. number < j) (sym i.room) few)), subst (HoldsWord o t) ((get_push words n k v e true q).0 refl) h, p, own_stays kept o p)
      held_by' k v e false q =
          let x = i.held' k v ((get_push words n k v e false q).1 refl) in
          let count = i.count in
          let differ : k ≢ number = λ same. let t : (k == length words) ≡ true = grind (arith, nat_tests, same, count) in absurd (true≢false (sym t ∙ q)) in
          (x.0, set_other inner.bound number k o differ ∙ x.1, still kept x.0 s t v x.4 d x.2, x.3, λ r is. keeps_more o kept r (x.4 r is))

  bound_adds : (ps : List Part) (ms : List Meant) → AllGood ps ms → (number : ℕ) (kept : Scope) (w : Written) → Adds w (bound_onto ps number kept w)
  bound_adds [] [] g number kept w = adds_same w
  bound_adds (p ∷ ps) (m ∷ ms) g number kept w =
      let w1 = onto_of p kept w in
      let w2 = held_onto (at_of p kept) kept w1 in
      let w3 = binding number w2 in
      adds_then w w1 _ (adds_of view image base W hole stands false trap_address p g.0 kept w) (adds_then w1 w2 _ (held_adds (at_of p kept) kept w1)
      (adds_then w2 w3 _ (binding_adds number w2) (bound_adds ps ms g.1 (min (number + 1) (2 ^ 64 - 1)) (keeping (held (at_of p kept) kept) kept) w3)))
  bound_adds [] (m ∷ ms) g number kept w = absurd g
  bound_adds (p ∷ ps) [] g number kept w = absurd g

  -- the machine is behind the values, with their words where the scope says
  pub record BoundAt (kept : ℕ) (v : Written) (s : State) (sc : Scope) (words : List ℕ) : Type 0 where
    pub state : State
    pub reaches : Reaches s state
    pub here : Here' v state
    pub done : Done kept s state
    pub scoped : Scoped' sc words state

  bound_later : (kept : Scope) (o : Operand) (v : Written) {s t : State} (sc : Scope) (words : List ℕ) → Reaches s t → Done kept.kept s t → BoundAt (keeping o kept).kept v t sc words → BoundAt kept.kept v s sc words
  bound_later kept o v sc words r d x =
      record { state = x.state; reaches = reaches_then r x.reaches; here = x.here; done = done_then d (done_less kept.kept (keeping o kept).kept (λ q k. keeps_more o kept q k) x.done); scoped = x.scoped }

  -- WITH
  binds : (ps : List Part) (ms : List Meant) → AllGood ps ms → (number : ℕ) (kept inner : Scope) (bound words : List ℕ) (w : Written) (s : State) → Scoped' kept bound s → Inner inner kept words number s → Here' w s → Front (bound_onto ps number kept w) W →
      AllCome ms bound words (λ ws. BoundAt kept.kept (bound_onto ps number kept w) s (bound_scope ps number kept inner) ws) (λ t. Raised' w (bound_onto ps number kept w) s t)
  binds [] [] g number kept inner bound words w s scoped i h f =
      record { state = s; reaches = reaches_same s; here = h; done = done_same kept.kept s; scoped = record { leaf = scoped.leaf; small = i.small; placed = i.placed; held = i.held' } }
  binds (p ∷ ps) (m ∷ ms) g number kept inner bound words w s scoped i h f =
      value_then (λ inner' ws t sc' i' h' f'. binds ps ms g.1 (min (number + 1) (2 ^ 64 - 1)) (keeping (held (at_of p kept) kept) kept) inner' bound ws (binding number (held_onto (at_of p kept) kept (onto_of p kept w))) t sc' i' h' f')
      (m bound) refl (gives_of view image base W hole stands false trap_address p g.0 kept bound w s scoped h (front_adds w1 last W rest1 f))
    where
      o : Operand
      o = held (at_of p kept) kept

      next : ℕ
      next = min (number + 1) (2 ^ 64 - 1)

      w1 : Written
      w1 = onto_of p kept w

      w2 : Written
      w2 = held_onto (at_of p kept) kept w1

      w3 : Written
      w3 = binding number w2

      last : Written
      last = bound_onto ps next (keeping (held (at_of p kept) kept) kept) w3

      rest3 : Adds w3 last
      rest3 = bound_adds ps ms g.1 next (keeping (held (at_of p kept) kept) kept) w3

      rest2 : Adds w2 last
      rest2 = adds_then w2 w3 last (binding_adds number w2) rest3

      rest1 : Adds w1 last
      rest1 = adds_then w1 w2 last (held_adds (at_of p kept) kept w1) rest2

      first3 : Adds w w3
      first3 = adds_then w w1 w3 (adds_of view image base W hole stands false trap_address p g.0 kept w) (adds_then w1 w2 w3 (held_adds (at_of p kept) kept w1) (binding_adds number w2))

      scope : Scope
      scope = bound_scope ps next (keeping (held (at_of p kept) kept) kept) (record inner { bound = slice_set inner.bound number (held (at_of p kept) kept) })

      Again : Type 0
      Again = (inner' : Scope) (ws : List ℕ) (t : State) → Scoped' (keeping (held (at_of p kept) kept) kept) bound t → Inner inner' (keeping (held (at_of p kept) kept) kept) ws next t → Here' w3 t → Front last W →
          AllCome ms bound ws (λ vs. BoundAt (keeping (held (at_of p kept) kept) kept).kept last t (bound_scope ps next (keeping (held (at_of p kept) kept) kept) inner') vs) (λ q. Raised' w3 last t q)

      value_then : Again → (x : Value) → m bound ≡ x → Outcome' kept.kept w w1 s (at_of p kept) x →
          Comes x (λ n. AllCome ms bound (words ++ n ∷ []) (λ ws. BoundAt kept.kept last s scope ws) (λ t. Raised' w last s t)) (λ t. Raised' w last s t)
      value_then again (Gives n) e x =
          let y = held_gives w1 x.state (at_of p kept) kept n x.placed x.here x.holds (front_adds w2 last W rest2 f) in
          let d = done_then x.done y.done in
          let number_few : number < 4 = few_of (tested (nat_lt number 4) w2 W stands.fits (front_adds w3 last W rest3 f)) in
          let h3 : Here' w3 y.state = here_tested view image base W hole stands false (nat_lt number 4) w2 y.state y.here in
          let r = again (record inner { bound = slice_set inner.bound number (held (at_of p kept) kept) }) (words ++ n ∷ []) y.state
          (scoped_then view image base W hole stands false trap_address kept bound s y.state (held (at_of p kept) kept) d scoped)
          (inner_then inner kept words number s y.state (held (at_of p kept) kept) n number_few (g.0.small bound n scoped.small e) y.placed y.holds d i) h3 f in
          all_then ms bound (words ++ n ∷ []) (λ ws. BoundAt (keeping (held (at_of p kept) kept) kept).kept last y.state scope ws) (λ ws. BoundAt kept.kept last s scope ws) (λ t. Raised' w3 last y.state t) (λ t. Raised' w last s t)
          (λ ws b. bound_later kept (held (at_of p kept) kept) last scope ws (reaches_then x.reaches y.reaches) d b)
          (λ t q. raised_within view image base W hole stands false trap_address kept.kept w w3 last last (longer w w3 first3) (omega arith) (reaches_then x.reaches y.reaches) d q) r
        where
          few_of : nat_lt number 4 ≡ true → number < 4
          few_of e = grind (arith, nat_tests)
      value_then again (Raises t) e x = raised_within view image base W hole stands false trap_address kept.kept w w w1 last (omega arith) (longer w1 last rest1) (reaches_same s) (done_same kept.kept s) x
      value_then again Stuck e x = tt
  binds [] (m ∷ ms) g number kept inner bound words w s scoped i h f = absurd g
  binds (p ∷ ps) [] g number kept inner bound words w s scoped i h f = absurd g

  -- nothing is bound yet
  nothing_yet : (sc : Scope) (s : State) → Inner (unbound sc.is_leaf) sc [] 0 s
  nothing_yet sc s = record { count = refl; room = refl; small = λ n v e. absurd (cc); held' = λ n v e. absurd (cc); placed = λ n o e. known_zero n o e }
    where
      known_zero : (n : ℕ) (o : Operand) → slice_get (Known 0 ∷ Known 0 ∷ Known 0 ∷ Known 0 ∷ []) n ≡ Some o → IsPlaced o
      known_zero zero o e = subst IsPlaced (ap (λ x. unwrap_or x o) e) (search arith)
      known_zero (suc zero) o e = subst IsPlaced (ap (λ x. unwrap_or x o) e) (search arith)
      known_zero (suc (suc zero)) o e = subst IsPlaced (ap (λ x. unwrap_or x o) e) (search arith)
      known_zero (suc (suc (suc zero))) o e = subst IsPlaced (ap (λ x. unwrap_or x o) e) (search arith)
      known_zero (suc (suc (suc (suc n)))) o e = absurd (cc)

  module _ (ps : List Part) (ms : List Meant) (g : AllGood ps ms) (body : Part) {mb : Meant} (gb : Good' body mb) where
    abbrev pub with_meant : Meant
    with_meant bound = with_words ms bound [] mb

    abbrev all_onto : Scope → Onto
    all_onto sc = in_turn (bound_onto ps 0 sc ∷ onto_of body (inner_scope ps sc) ∷ [])

    ends : (ms : List Meant) (bound words : List ℕ) (P : List ℕ → Type 0) (F : Trap → Type 0) (R : Value → Type 0) → R Stuck → ((t : Trap) → F t → R (Raises t)) → ((ws : List ℕ) → P ws → R (mb ws)) → AllCome ms bound words P F → R (with_words ms bound words mb)
    ends [] bound words P F R stuck raised given c = given words c
    ends (m ∷ ms) bound words P F R stuck raised given c = by (λ n d. ends ms bound (words ++ n ∷ []) P F R stuck raised given d) (m bound) c
      where
        by : ((n : ℕ) → AllCome ms bound (words ++ n ∷ []) P F → R (with_words ms bound (words ++ n ∷ []) mb)) → (x : Value) → Comes x (λ n. AllCome ms bound (words ++ n ∷ []) P F) F → R (then_word x (λ n. with_words ms bound (words ++ n ∷ []) mb))
        by again (Gives n) c = again n c
        by again (Raises t) c = raised t c
        by again Stuck c = stuck

    body_adds : (sc : Scope) (w : Written) → Adds (bound_onto ps 0 sc w) (all_onto sc w)
    body_adds sc w = adds_of view image base W hole stands false trap_address body gb (inner_scope ps sc) (bound_onto ps 0 sc w)

    later : (kept : ℕ) (w u v : Written) {s t : State} (o : Operand) → length w.code ≤ length u.code → Reaches s t → Done kept s t → (x : Value) → Outcome' kept u v t o x → Outcome' kept w v s o x
    later kept w u v o a r d (Gives n) x = record { state = x.state; reaches = reaches_then r x.reaches; here = x.here; done = done_then d x.done; holds = x.holds; placed = x.placed }
    later kept w u v o a r d (Raises t) x = raised_within view image base W hole stands false trap_address kept w u v v a (omega arith) r d x
    later kept w u v o a r d Stuck x = tt

    -- more registers are kept inside
    inner_keeps : (ps : List Part) (number : ℕ) (kept inner : Scope) (q : Register) → stays kept.kept q ≡ true → stays (bound_scope ps number kept inner).kept q ≡ true
    inner_keeps [] number kept inner q h = h
    inner_keeps (p ∷ ps) number kept inner q h = inner_keeps ps (min (number + 1) (2 ^ 64 - 1)) (keeping (held (at_of p kept) kept) kept) (record inner { bound = slice_set inner.bound number (held (at_of p kept) kept) }) q (keeps_more (held (at_of p kept) kept) kept q h)

    outer : (sc : Scope) (w v : Written) (s : State) (o : Operand) (x : Value) → Outcome' (inner_scope ps sc).kept w v s o x → Outcome' sc.kept w v s o x
    outer sc w v s o (Gives n) x = record { state = x.state; reaches = x.reaches; here = x.here; done = done_less sc.kept (inner_scope ps sc).kept (λ q k. inner_keeps ps 0 sc (unbound sc.is_leaf) q k) x.done; holds = x.holds; placed = x.placed }
    outer sc w v s o (Raises t) x = x
    outer sc w v s o Stuck x = tt

    bound_longer : (sc : Scope) (w : Written) → length w.code ≤ length (bound_onto ps 0 sc w).code
    bound_longer sc w = longer w (bound_onto ps 0 sc w) (bound_adds ps ms g 0 sc w)

    within_gives : (sc : Scope) (bound : List ℕ) (w : Written) (s : State) → Scoped' sc bound s → Here' w s → Front (all_onto sc w) W → Outcome' sc.kept w (all_onto sc w) s (at_of body (inner_scope ps sc)) (with_meant bound)
    within_gives sc bound w s scoped h f =
        let u = bound_onto ps 0 sc w in
        ends ms bound [] (λ ws. BoundAt sc.kept u s (inner_scope ps sc) ws) (λ t. Raised' w u s t) (λ x. Outcome' sc.kept w (all_onto sc w) s (at_of body (inner_scope ps sc)) x) tt
        (λ t r. raised_within view image base W hole stands false trap_address sc.kept w w u (all_onto sc w) (omega arith) (longer u (all_onto sc w) (body_adds sc w)) (reaches_same s) (done_same sc.kept s) r)
        (λ ws b. later sc.kept w u (all_onto sc w) (at_of body (inner_scope ps sc)) (bound_longer sc w) b.reaches b.done (mb ws)
        (outer sc u (all_onto sc w) b.state (at_of body (inner_scope ps sc)) (mb ws) (gives_of view image base W hole stands false trap_address body gb (inner_scope ps sc) ws u b.state b.scoped b.here f)))
        (binds ps ms g 0 sc (unbound sc.is_leaf) bound [] w s scoped (nothing_yet sc s) h (front_adds u (all_onto sc w) W (body_adds sc w) f))

    with_small : (ps : List Part) (ms : List Meant) → AllGood ps ms → (bound words : List ℕ) (n : ℕ) → AreSmall bound → AreSmall words → with_words ms bound words mb ≡ Gives n → n < 2 ^ 64
    with_small [] [] g bound words n h k e = gb.small words n k e
    with_small (p ∷ ps) (m ∷ ms) g bound words n h k e = by (λ v low d. with_small ps ms g.1 bound (words ++ v ∷ []) n h (pushed v low) d) (m bound) refl e
      where
        pushed : (v : ℕ) → v < 2 ^ 64 → AreSmall (words ++ v ∷ [])
        pushed v low j x is = push_by (j == length words) refl
          where
            push_by : (c : Bool) → (j == length words) ≡ c → x < 2 ^ 64
            push_by true q = subst (λ y. y < 2 ^ 64) ((get_push words v j x is true q).0 refl) low
            push_by false q = k j x ((get_push words v j x is false q).1 refl)

        by : ((v : ℕ) → v < 2 ^ 64 → with_words ms bound (words ++ v ∷ []) mb ≡ Gives n → n < 2 ^ 64) → (x : Value) → m bound ≡ x → then_word x (λ v. with_words ms bound (words ++ v ∷ []) mb) ≡ Gives n → n < 2 ^ 64
        by again (Gives v) is e = again v (g.0.small bound v h is) e
        by again (Raises t) is e = absurd (cc)
        by again Stuck is e = absurd (cc)
    with_small [] (m ∷ ms) g bound words n h k e = absurd g
    with_small (p ∷ ps) [] g bound words n h k e = absurd g

    none_small : AreSmall []
    none_small k v e = absurd (cc)

    pub within_good : (words : ℕ) → Good' (within ps body words) with_meant
    within_good words = record {
      known = λ sc bound s k h e. absurd (cc);
      adds = λ sc w. adds_then w (bound_onto ps 0 sc w) (all_onto sc w) (bound_adds ps ms g 0 sc w) (body_adds sc w);
      gives = λ sc bound w s scoped h f. within_gives sc bound w s scoped h f;
      small = λ bound n h e. with_small ps ms g bound [] n h none_small e;
      ready = λ sc bound s o h e. absurd (cc);
      truth = λ t bound n e. absurd (cc);
    }

    -- as a condition
    module _ (jb : Jumps' body mb) where
      abbrev jumped : Bool → Target → Scope → Onto
      jumped sense t sc = in_turn (bound_onto ps 0 sc ∷ jump_of body sense t (inner_scope ps sc) ∷ [])

      turned_later : (kept : ℕ) (w u v : Written) {s t : State} (sense : Bool) (place : ℕ) → length w.code ≤ length u.code → Reaches s t → Done kept s t → (x : Value) → Turned' kept u v t sense place x → Turned' kept w v s sense place x
      turned_later kept w u v sense place a r d (Gives n) x = record { state = x.state; reaches = reaches_then r x.reaches; done = done_then d x.done; sees = x.sees; pc = x.pc }
      turned_later kept w u v sense place a r d (Raises t) x = raised_within view image base W hole stands false trap_address kept w u v v a (omega arith) r d x
      turned_later kept w u v sense place a r d Stuck x = tt

      turned_outer : (sc : Scope) (w v : Written) (s : State) (sense : Bool) (place : ℕ) (x : Value) → Turned' (inner_scope ps sc).kept w v s sense place x → Turned' sc.kept w v s sense place x
      turned_outer sc w v s sense place (Gives n) x = record { state = x.state; reaches = x.reaches; done = done_less sc.kept (inner_scope ps sc).kept (λ q k. inner_keeps ps 0 sc (unbound sc.is_leaf) q k) x.done; sees = x.sees; pc = x.pc }
      turned_outer sc w v s sense place (Raises t) x = x
      turned_outer sc w v s sense place Stuck x = tt

      pub within_jumps : (words : ℕ) → Jumps' (within ps body words) with_meant
      within_jumps words = record {
        adds = λ sense t sc w. adds_then w (bound_onto ps 0 sc w) (jumped sense t sc w) (bound_adds ps ms g 0 sc w) (jump_of_adds view image base W hole stands trap_address few body jb sense t (inner_scope ps sc) (bound_onto ps 0 sc w));
        turns = λ sense t sc bound w s place scoped h f there low.
            let u = bound_onto ps 0 sc w in
            let more = jump_of_adds view image base W hole stands trap_address few body jb sense t (inner_scope ps sc) u in
            ends ms bound [] (λ ws. BoundAt sc.kept u s (inner_scope ps sc) ws) (λ r. Raised' w u s r) (λ x. Turned' sc.kept w (jumped sense t sc w) s sense place x) tt
            (λ q r. raised_within view image base W hole stands false trap_address sc.kept w w u (jumped sense t sc w) (omega arith) (longer u (jumped sense t sc w) more) (reaches_same s) (done_same sc.kept s) r)
            (λ ws b. turned_later sc.kept w u (jumped sense t sc w) sense place (bound_longer sc w) b.reaches b.done (mb ws)
            (turned_outer sc u (jumped sense t sc w) b.state sense place (mb ws) (turns_of view image base W hole stands trap_address few body gb jb sense t (inner_scope ps sc) ws u b.state place b.scoped b.here f there low)))
            (binds ps ms g 0 sc (unbound sc.is_leaf) bound [] w s scoped (nothing_yet sc s) h (front_adds u (jumped sense t sc w) W more f));
      }
