-- Choices as conditions: both of two, or one of two.
use Rattle.std.proofs.Common.{◌≡◌, ◌∙◌, ℕ, ◌^◌, ◌<◌, ◌≤◌, ◌==◌, Bool, true, false, not, List, length, slice_get, Option, Some, None, refl, ap, sym, subst, arith}
use Rattle.std.specs.Prelude.{if◌then◌else◌}
use Rattle.std.proofs.lemmas.Bool.{eqb-true}
use Rattle.clu_wir.specs.declared.hole.HoleKind.{HoleKind}
use Rattle.clu_wir.specs.declared.trap.Trap.{Trap}
use Rattle.rv_machine.specs.State.{State}
use Rattle.rv_select.specs.declared.conditions.Target.{Target}
use Rattle.rv_select.specs.declared.operand.Scope.{Scope}
use Rattle.rv_select.specs.Conditions.{far}
use Rattle.rv_select.specs.Evaluation.{Part, choice, is_known, is_word, jump_of, plain_jump, same, short_jump, short_of}
use Rattle.rv_select.specs.Written.{Onto, Written, fresh, placed}
use Rattle.clu_wir.specs.Value.{Gives, Raises, Stuck, Value, View, by_truth, then_word}
use Rattle.laws_selection.proofs.Meaning.{Meant}
use Rattle.laws_selection.specs.Running.{Code, Done, Reaches}
use Rattle.laws_selection.specs.Growing.{Adds, Front, Sound, address}
use Rattle.laws_selection.specs.Evaluating.{Here, Raised, Scoped, Turned, Went, is_so}
use Rattle.laws_selection.proofs.Running.{done_same, done_then, reaches_same, reaches_then}
use Rattle.laws_selection.proofs.Growing.{Stood, adds_then, extends_longer, fresh_adds, fresh_label, fresh_length, front_adds, front_placed, placed_adds, placed_length, placed_there, sound_then}
use Rattle.laws_selection.proofs.Parts.{Agrees, Good, longer, raised_within, scoped_same}
use Rattle.laws_selection.proofs.Checking.{Jumps, jump_of_adds, plain_adds, plain_turns, turns_of}

module _ (view : View) (image : Code) (base : ℕ) (W : Written) (hole : HoleKind → ℕ → ℕ) (stands : Stood W image base hole) (trap_address : Trap → ℕ) (few : length W.code < 2 ^ 32) where
  abbrev Here' : Written → State → Type 0
  Here' = Here view image base hole false

  abbrev Scoped' : Scope → List ℕ → State → Type 0
  Scoped' = Scoped false

  abbrev Raised' : Written → Written → State → Trap → Type 0
  Raised' = Raised base trap_address

  abbrev Good' : Part → Meant → Type 0
  Good' = Good view image base W hole stands false trap_address

  abbrev Jumps' : Part → Meant → Type 0
  Jumps' = Jumps view image base W hole stands trap_address few

  abbrev Went' : ℕ → Written → State → Bool → ℕ → Type 0
  Went' = Went view image base hole false

  abbrev Turned' : ℕ → Written → Written → State → Bool → ℕ → Value → Type 0
  Turned' = Turned view image base hole trap_address

  -- The condition skips the second one, or it decides.
  module _ (c p : Part) {mc mp : Meant} (gc : Good' c mc) (jc : Jumps' c mc) (gp : Good' p mp) (jp : Jumps' p mp) where
    abbrev around : Written → ℕ
    around w = length w.labels

    -- the label to which the condition goes
    abbrev skip : Bool → Bool → Target → Written → ℕ
    skip z sense t w = if same sense z then around w else t.label

    abbrev v2 : Bool → Bool → Target → Scope → Written → Written
    v2 z sense t sc w = jump_of c (not z) (far (skip z sense t w)) sc (fresh w)

    abbrev v3 : Bool → Bool → Target → Scope → Written → Written
    v3 z sense t sc w = jump_of p sense t sc (v2 z sense t sc w)

    abbrev v4 : Bool → Bool → Target → Scope → Written → Written
    v4 z sense t sc w = placed (around w) (v3 z sense t sc w)

    a12 : (z sense : Bool) (t : Target) (sc : Scope) (w : Written) → Adds (fresh w) (v2 z sense t sc w)
    a12 z sense t sc w = jump_of_adds view image base W hole stands trap_address few c jc (not z) (far (skip z sense t w)) sc (fresh w)

    a23 : (z sense : Bool) (t : Target) (sc : Scope) (w : Written) → Adds (v2 z sense t sc w) (v3 z sense t sc w)
    a23 z sense t sc w = jump_of_adds view image base W hole stands trap_address few p jp sense t sc (v2 z sense t sc w)

    pub short_adds : (z sense : Bool) (t : Target) (sc : Scope) (w : Written) → Adds w (v4 z sense t sc w)
    short_adds z sense t sc w = placed_adds w (v3 z sense t sc w) (around w) (adds_then w (fresh w) (v3 z sense t sc w) (fresh_adds w) (adds_then (fresh w) (v2 z sense t sc w) (v3 z sense t sc w) (a12 z sense t sc w) (a23 z sense t sc w))) (omega arith)

    record Fronts (z sense : Bool) (t : Target) (sc : Scope) (w : Written) : Type 0 where
      front3 : Front (v3 z sense t sc w) W
      front2 : Front (v2 z sense t sc w) W
      over : slice_get W.labels (around w) ≡ Some (Some (length (v3 z sense t sc w).code))
      short : length (v3 z sense t sc w).code < 2 ^ 32

    fronts_are : (z sense : Bool) (t : Target) (sc : Scope) (w : Written) → Front (v4 z sense t sc w) W → Fronts z sense t sc w
    fronts_are z sense t sc w f =
        let a13 = adds_then (fresh w) (v2 z sense t sc w) (v3 z sense t sc w) (a12 z sense t sc w) (a23 z sense t sc w) in
        let is = fresh_label w in
        let first = is.0 in
        let count = a13.count in
        let f3 = front_placed (v3 z sense t sc w) W (around w) (a13.below (around w) is.0 ∙ is.1) f in
        let whole = extends_longer (v3 z sense t sc w) W f3.extends in
        record { front3 = f3; front2 = front_adds (v2 z sense t sc w) (v3 z sense t sc w) W (a23 z sense t sc w) f3; over = placed_there (v3 z sense t sc w) W (around w) (omega arith) f; short = omega (arith, few) }

    -- where the condition leads: behind all, or to the target
    abbrev skip_place : Bool → Bool → ℕ → Written → ℕ
    skip_place z sense place v = if same sense z then length v.code else place

    skip_there : (z sense : Bool) (t : Target) (sc : Scope) (w : Written) (place : ℕ) → Fronts z sense t sc w → slice_get W.labels t.label ≡ Some (Some place) → place < 2 ^ 32 →
        (slice_get W.labels (skip z sense t w) ≡ Some (Some (skip_place z sense place (v3 z sense t sc w)))) × (skip_place z sense place (v3 z sense t sc w) < 2 ^ 32)
    skip_there z sense t sc w place fronts there low = by (same sense z) (v3 z sense t sc w) fronts.over fronts.short
      where
        by : (b : Bool) (v : Written) → slice_get W.labels (around w) ≡ Some (Some (length v.code)) → length v.code < 2 ^ 32 →
            (slice_get W.labels (if b then around w else t.label) ≡ Some (Some (if b then length v.code else place))) × ((if b then length v.code else place) < 2 ^ 32)
        by true v o l = (o, l)
        by false v o l = (there, low)

    turned_later : (kept : ℕ) (w u v : Written) {s t : State} (sense : Bool) (place : ℕ) → length w.code ≤ length u.code → Reaches s t → Done kept s t → (x : Value) → Turned' kept u v t sense place x → Turned' kept w v s sense place x
    turned_later kept w u v sense place a r d (Gives n) x = record { state = x.state; reaches = reaches_then r x.reaches; done = done_then d x.done; sees = x.sees; pc = x.pc }
    turned_later kept w u v sense place a r d (Raises t) x = raised_within view image base W hole stands false trap_address kept w u v v a (omega arith) r d x
    turned_later kept w u v sense place a r d Stuck x = tt

    turned_placed : (kept : ℕ) (w v : Written) (l : ℕ) (s : State) (sense : Bool) (place : ℕ) (x : Value) → Turned' kept w v s sense place x → Turned' kept w (placed l v) s sense place x
    turned_placed kept w v l s sense place (Gives n) x = record {
      state = x.state;
      reaches = x.reaches;
      done = x.done;
      sees = x.sees;
      pc = x.pc ∙ ap (λ k. address base (if same sense (is_so n) then place else k)) (sym (placed_length l v));
    }
    turned_placed kept w v l s sense place (Raises t) x = raised_within view image base W hole stands false trap_address kept w w v (placed l v) (omega arith) (subst (λ n. length v.code ≤ n) (sym (placed_length l v)) (omega arith)) (reaches_same s) (done_same kept s) x
    turned_placed kept w v l s sense place Stuck x = tt

    -- it is skipped: so where the condition alone holds
    abbrev skipped_word : Bool → ℕ
    skipped_word z = if z then 0 else 1

    skip_is : (z sense : Bool) (place k : ℕ) → (if same sense z then k else place) ≡ (if same sense (is_so (skipped_word z)) then place else k)
    skip_is true true place k = refl
    skip_is true false place k = refl
    skip_is false true place k = refl
    skip_is false false place k = refl

    decides : (z sense : Bool) (t : Target) (sc : Scope) (bound : List ℕ) (w : Written) (s : State) (place : ℕ) → Scoped' sc bound s → Sound w → Fronts z sense t sc w → slice_get W.labels t.label ≡ Some (Some place) → place < 2 ^ 32 → (so : Bool) →
        Went' sc.kept (v2 z sense t sc w) s so (skip_place z sense place (v3 z sense t sc w)) → Turned' sc.kept w (v4 z sense t sc w) s sense place (if so then Gives (skipped_word z) else mp bound)
    decides z sense t sc bound w s place scoped sound fronts there low true x =
        record {
          state = x.state;
          reaches = x.reaches;
          done = x.done;
          sees = x.sees;
          pc = x.pc ∙ ap (address base) (skip_is z sense place (length (v3 z sense t sc w).code) ∙ ap (λ k. if same sense (is_so (skipped_word z)) then place else k) (sym (placed_length (around w) (v3 z sense t sc w))));
        }
    decides z sense t sc bound w s place scoped sound fronts there low false x =
        let a = adds_then w (fresh w) (v2 z sense t sc w) (fresh_adds w) (a12 z sense t sc w) in
        let h : Here' (v2 z sense t sc w) x.state = record { sound = sound_then w (v2 z sense t sc w) a.extends sound; pc = x.pc; sees = x.sees } in
        turned_later sc.kept w (v2 z sense t sc w) (v4 z sense t sc w) sense place (longer w (v2 z sense t sc w) a) x.reaches x.done (mp bound)
        (turned_placed sc.kept (v2 z sense t sc w) (v3 z sense t sc w) (around w) x.state sense place (mp bound)
        (turns_of view image base W hole stands trap_address few p gp jp sense t sc bound (v2 z sense t sc w) x.state place (scoped_same view image base W hole stands false trap_address sc bound s x.state x.done scoped) h fronts.front3 there low))

    short_by : (z sense : Bool) (t : Target) (sc : Scope) (bound : List ℕ) (w : Written) (s : State) (place : ℕ) → Scoped' sc bound s → Sound w → Fronts z sense t sc w → slice_get W.labels t.label ≡ Some (Some place) → place < 2 ^ 32 → (x : Value) →
        Turned' sc.kept (fresh w) (v2 z sense t sc w) s (not z) (skip_place z sense place (v3 z sense t sc w)) x → Turned' sc.kept w (v4 z sense t sc w) s sense place (then_word x (λ n. if same (not z) (is_so n) then Gives (skipped_word z) else mp bound))
    short_by z sense t sc bound w s place scoped sound fronts there low (Gives n) x = decides z sense t sc bound w s place scoped sound fronts there low (same (not z) (is_so n)) x
    short_by z sense t sc bound w s place scoped sound fronts there low (Raises q) x =
        raised_within view image base W hole stands false trap_address sc.kept w (fresh w) (v2 z sense t sc w) (v4 z sense t sc w) (longer w (fresh w) (fresh_adds w))
        (subst (λ n. length (v2 z sense t sc w).code ≤ n) (sym (placed_length (around w) (v3 z sense t sc w))) (longer (v2 z sense t sc w) (v3 z sense t sc w) (a23 z sense t sc w))) (reaches_same s) (done_same sc.kept s) x
    short_by z sense t sc bound w s place scoped sound fronts there low Stuck x = tt

    pub short_turns : (z sense : Bool) (t : Target) (sc : Scope) (bound : List ℕ) (w : Written) (s : State) (place : ℕ) → Scoped' sc bound s → Here' w s → Front (v4 z sense t sc w) W → slice_get W.labels t.label ≡ Some (Some place) → place < 2 ^ 32 →
        Turned' sc.kept w (v4 z sense t sc w) s sense place (then_word (mc bound) (λ n. if same (not z) (is_so n) then Gives (skipped_word z) else mp bound))
    short_turns z sense t sc bound w s place scoped h f there low =
        let fronts = fronts_are z sense t sc w f in
        let to = skip_there z sense t sc w place fronts there low in
        let start : Here' (fresh w) s = record { sound = sound_then w (fresh w) (fresh_adds w).extends h.sound; pc = h.pc ∙ ap (address base) (sym (fresh_length w)); sees = h.sees } in
        short_by z sense t sc bound w s place scoped h.sound fronts there low (mc bound)
        (turns_of view image base W hole stands trap_address few c gc jc (not z) (far (skip z sense t w)) sc bound (fresh w) s (skip_place z sense place (v3 z sense t sc w)) scoped start fronts.front2 to.0 to.1)

  known_word : (k : Option ℕ) (word : ℕ) → is_word k word ≡ true → k ≡ Some word
  known_word None word e = absurd (cc)
  known_word (Some n) word e = ap Some (eqb-true n word e)

  module _ (c first other : Part) {mc mf mo : Meant} (gc : Good' c mc) (jc : Jumps' c mc) (gf : Good' first mf) (jf : Jumps' first mf) (go : Good' other mo) (jo : Jumps' other mo)
      (g : Good' (choice c first other) (λ bound. then_word (mc bound) (λ n. by_truth n (mf bound) (mo bound)))) where
    abbrev if_meant : Meant
    if_meant bound = then_word (mc bound) (λ n. by_truth n (mf bound) (mo bound))

    -- a side that is known: as it is told, or stuck
    both_as : (kept : ℕ) (w v : Written) (s : State) (sense : Bool) (place : ℕ) (x y z : Value) → Agrees 0 z → Turned' kept w v s sense place (then_word x (λ n. if same false (is_so n) then Gives 0 else y)) → Turned' kept w v s sense place (then_word x (λ n. by_truth n y z))
    both_as kept w v s sense place (Gives n) y z a t = by (n == 0) z a t
      where
        by : (b : Bool) (z : Value) → Agrees 0 z → Turned' kept w v s sense place (if same false (not b) then Gives 0 else y) → Turned' kept w v s sense place (if b then z else y)
        by true (Gives k) a t = subst (λ m. Turned' kept w v s sense place (Gives m)) a t
        by true (Raises q) a t = absurd a
        by true Stuck a t = tt
        by false z a t = t
    both_as kept w v s sense place (Raises q) y z a t = t
    both_as kept w v s sense place Stuck y z a t = tt

    one_as : (kept : ℕ) (w v : Written) (s : State) (sense : Bool) (place : ℕ) (x y z : Value) → Agrees 1 y → Turned' kept w v s sense place (then_word x (λ n. if same true (is_so n) then Gives 1 else z)) → Turned' kept w v s sense place (then_word x (λ n. by_truth n y z))
    one_as kept w v s sense place (Gives n) y z a t = by (n == 0) y a t
      where
        by : (b : Bool) (y : Value) → Agrees 1 y → Turned' kept w v s sense place (if same true (not b) then Gives 1 else z) → Turned' kept w v s sense place (if b then z else y)
        by true y a t = t
        by false (Gives k) a t = subst (λ m. Turned' kept w v s sense place (Gives m)) a t
        by false (Raises q) a t = absurd a
        by false Stuck a t = tt
    one_as kept w v s sense place (Raises q) y z a t = t
    one_as kept w v s sense place Stuck y z a t = tt

    abbrev jumped : Option Bool → Bool → Target → Scope → Onto
    jumped k sense t sc w = short_jump k c first other (plain_jump (choice c first other) sense t sc) sense t sc w

    short_choice_adds : (k : Option Bool) (sense : Bool) (t : Target) (sc : Scope) (w : Written) → Adds w (jumped k sense t sc w)
    short_choice_adds None sense t sc w = plain_adds view image base W hole stands trap_address few (choice c first other) g sense t sc w
    short_choice_adds (Some true) sense t sc w = short_adds c first gc jc gf jf true sense t sc w
    short_choice_adds (Some false) sense t sc w = short_adds c other gc jc go jo false sense t sc w

    abbrev Turns : Bool → Target → Scope → List ℕ → Written → State → ℕ → Option Bool → Type 0
    Turns sense t sc bound w s place k = Front (jumped k sense t sc w) W → Turned' sc.kept w (jumped k sense t sc w) s sense place (if_meant bound)

    choice_turns : (sense : Bool) (t : Target) (sc : Scope) (bound : List ℕ) (w : Written) (s : State) (place : ℕ) → Scoped' sc bound s → Here' w s → slice_get W.labels t.label ≡ Some (Some place) → place < 2 ^ 32 → Turns sense t sc bound w s place (short_of first other sc)
    choice_turns sense t sc bound w s place scoped h there low = one (is_known other 0 sc) refl
      where
        two : (b : Bool) → is_known first 1 sc ≡ b → Turns sense t sc bound w s place (if b then Some false else None)
        two true e f = one_as sc.kept w _ s sense place (mc bound) (mf bound) (mo bound) (gf.known sc bound s 1 scoped (known_word (first.known sc) 1 e)) (short_turns c other gc jc go jo false sense t sc bound w s place scoped h f there low)
        two false e f = plain_turns view image base W hole stands trap_address few (choice c first other) g sense t sc bound w s place scoped h f there low

        one : (b : Bool) → is_known other 0 sc ≡ b → Turns sense t sc bound w s place (if b then Some true else (if is_known first 1 sc then Some false else None))
        one true e f = both_as sc.kept w _ s sense place (mc bound) (mf bound) (mo bound) (go.known sc bound s 0 scoped (known_word (other.known sc) 0 e)) (short_turns c first gc jc gf jf true sense t sc bound w s place scoped h f there low)
        one false e f = two (is_known first 1 sc) refl f

    pub choice_jumps : Jumps' (choice c first other) if_meant
    choice_jumps = record {
      adds = λ sense t sc w. short_choice_adds (short_of first other sc) sense t sc w;
      turns = λ sense t sc bound w s place scoped h f there low. choice_turns sense t sc bound w s place scoped h there low f;
    }
