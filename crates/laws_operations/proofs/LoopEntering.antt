-- A routine that only reads is entered, and its operation invoked.
use Rattle.std.proofs.Common.{◌≡◌, ℕ, suc, ◌+◌, ◌*◌, ◌≤◌, ◌==◌, max, Bool, true, false, List, [], ◌∷◌, ◌++◌, length, Option, None, Some, refl, ap, ◌∙◌, arith}
use Rattle.clu_types.specs.CluType.{CluType, CluTypes}
use Rattle.clu_builtin.specs.Operation.{Operation}
use Rattle.clu_builtin.specs.Table.{operation}
use Rattle.clu_layout.specs.Objects.{Object, own_types}
use Rattle.clu_layout.specs.SameType.{all_fit}
use Rattle.clu_layout.specs.Actions.{Primitive, World, Outcome, returned, signalled, wrong, continued, and_then, counts, gives_all, need, needed, no_case, takes}
use Rattle.clu_layout.specs.Primitive.{added, before, done_in, gives_results, invoked, may_be_arguments, outcome_in, prim, primitive, words_for_all}
use Rattle.clu_wir.specs.Value as value
use Rattle.clu_word_meaning.specs.Levels.{arguments, entered, framed, inside, routine_ending}
use Rattle.clu_word_meaning.specs.Words as of
use Rattle.clu_word_meaning.specs.Words.{Body, Computation, Entry, Linked, Meters, Slots, State, continue_either_way, counted, either_way, ended, ends, exec_all, gives, normal, raised, spends_a_turn, with_state}
use Rattle.clu_representation.specs.Layout.{Image, Layout}
use Rattle.laws_operations.specs.Comes.{Result, Untouched}
use Rattle.laws_operations.specs.LoopRows.{Ran, StepsCome, StepsRow, left_by, routine_of}
use Rattle.laws_operations.specs.Rows.{results_of}
use Rattle.laws_operations.proofs.Doing.{doing, nothing_after, tried}
use Rattle.laws_operations.proofs.LoopSteps.{Runs, at}

-- ---- the routine

module _ (l : Linked) (entries : ℕ → Entry) (live : ℕ) (body : Body) (row : StepsRow) (ws : List ℕ) (st : State) (fits : (row.args == length ws) ≡ true) where
  abbrev pub steps : Computation (Unit {0})
  steps = exec_all l entries body (inside live (routine_of row l)) row.body

  abbrev start : Meters
  start = record { most = max st.meters.most (inside live (routine_of row l)); store = st.meters.store; steps = 1 + st.meters.steps; spent = suc st.meters.spent }

  entered_step : (k : ℕ) → entered entries (Some (framed (routine_of row l))) live body ws (suc k) st ≡
      continue_either_way (λ done. with_state (counted 1) (gives [])) routine_ending (steps k (at st.outer st.world (arguments ws) start))
  unfolding entered of.need spends_a_turn with_state either_way
  entered_step k = rw fits refl

  comes : {turns more : ℕ} {end : of.Ending} {Left : Slots → Type 0} (c : ℕ) (last : ℕ → State → of.Result (List ℕ)) → ((k : ℕ) (s : State) → routine_ending end k s ≡ last k s) → suc turns ≤ 32 * c → 1 + more ≤ 64 * c →
      Runs st.outer st.world steps (arguments ws) turns more (λ k s. ended end k s) Left →
      Ran (entered entries (Some (framed (routine_of row l))) live body ws) st (inside live (routine_of row l)) c last
  unfolding continue_either_way
  comes c last e few cheap r = record {
    used = suc r.used;
    n = r.n + 1;
    slots = r.after;
    is = λ k.
        let (q, h, is) = r.is k (r.used + k) start refl in
        let same : q ≡ (left_by st (inside live (routine_of row l)) (suc r.used) (r.n + 1) r.after).meters =
        λ i. record { most = h.most i; store = h.store i; steps = (h.steps ∙ sums r.n st.meters.steps) i; spent = (h.spent ∙ further r.used st.meters.spent) i } in
        ap (λ (t : ℕ). entered entries (Some (framed (routine_of row l))) live body ws t st) (fewer r.used k) ∙ entered_step (r.used + k)
        ∙ ap (continue_either_way (λ done. with_state (counted 1) (gives [])) routine_ending) is
        ∙ e k (at st.outer st.world r.after q)
        ∙ ap (λ (m : Meters). last k (at st.outer st.world r.after m)) same;
    turns = omega (arith, r.few, few);
    steps = omega (arith, r.cheap, cheap);
  }
    where
      fewer : (a k : ℕ) → suc a + k ≡ suc (a + k)
      fewer a k = omega arith

      sums : (n s : ℕ) → n + (1 + s) ≡ n + 1 + s
      sums n s = omega arith

      further : (n s : ℕ) → n + suc s ≡ suc n + s
      further n s = omega arith

  pub returning : {turns more : ℕ} {Left : Slots → Type 0} (v c : ℕ) → suc turns ≤ 32 * c → 1 + more ≤ 64 * c → Runs st.outer st.world steps (arguments ws) turns more (λ k s. ended (of.returned (v ∷ [])) k s) Left →
      Ran (entered entries (Some (framed (routine_of row l))) live body ws) st (inside live (routine_of row l)) c (λ k s. normal (v ∷ []) k s)
  unfolding routine_ending gives
  returning v c few cheap r = comes c (λ k s. normal (v ∷ []) k s) (λ k s. refl) few cheap r

  pub signalling : {turns more : ℕ} {Left : Slots → Type 0} (name : List ℕ) (c : ℕ) → suc turns ≤ 32 * c → 1 + more ≤ 64 * c → Runs st.outer st.world steps (arguments ws) turns more (λ k s. ended (of.signalled name []) k s) Left →
      Ran (entered entries (Some (framed (routine_of row l))) live body ws) st (inside live (routine_of row l)) c (λ k s. ended (raised name []) k s)
  unfolding routine_ending ends
  signalling name c few cheap r = comes c (λ k s. ended (raised name []) k s) (λ k s. refl) few cheap r

-- ---- the operation

-- once its arguments are bound, an operation gives an object and counts its work besides
pub record Gave (image : Image) (map : Layout) (types : CluTypes) (f : Computation (List ℕ)) (st : State) (now : ℕ) (w : World) (o : Object) (after : World) : Type 0 where
  pub v : ℕ
  pub work : ℕ
  pub shown : Result image map (o ∷ []) (value.Gives v) types
  pub ran : Ran f st now (suc work) (λ k s. normal (v ∷ []) k s)
  pub same : after ≡ record w { work = w.work + work }

pub record Raised (f : Computation (List ℕ)) (st : State) (now : ℕ) (w : World) (name : List ℕ) (after : World) : Type 0 where
  pub work : ℕ
  pub ran : Ran f st now (suc work) (λ k s. ended (raised name []) k s)
  pub same : after ≡ record w { work = w.work + work }

module _ (image : Image) (map : Layout) (f : Computation (List ℕ)) (st : State) (now : ℕ) where
  abbrev pub Within : CluTypes → World → Outcome → Type 0
  Within types w (returned (o ∷ []) after) = Gave image map types f st now w o after
  Within types w (signalled name [] after) = Raised f st now w name after
  Within types w wrong = Unit {0}
  Within types w _ = ⊥

  untouched : (w after : World) (n more c : ℕ) → after ≡ record (doing w n) { work = 0 + n + 1 + c } → Untouched w (added w (record after { words = after.words + more; work = after.work + more }))
  untouched w after n more c e = record {
    cells = ap (λ (x : World). x.cells) e;
    input = ap (λ (x : World). x.input) e;
    output = ap (λ (x : World). w.output ++ x.output) e ∙ nothing_after w.output;
    words = omega arith;
    work = omega (arith, ap (λ (x : World). x.work) e);
  }

  left_so : (w after : World) (n c : ℕ) → after ≡ record (doing w n) { work = 0 + n + 1 + c } → Untouched w (added w after)
  left_so w after n c e = record {
    cells = ap (λ (x : World). x.cells) e;
    input = ap (λ (x : World). x.input) e;
    output = ap (λ (x : World). w.output ++ x.output) e ∙ nothing_after w.output;
    words = omega arith;
    work = omega (arith, ap (λ (x : World). x.work) e);
  }

  results_bound : (types : CluTypes) (w after : World) (o : Object) (n : ℕ) (t : Bool) → Gave image map types f st now (doing w n) o after →
      StepsCome image map types f st now w (outcome_in w (need t (takes (words_for_all types) (gives_all (o ∷ []))) after))
  unfolding need no_case takes gives_all
  results_bound types w after o n true h = record { v = h.v; work = suc h.work; shown = h.shown; ran = h.ran; untouched = untouched w after n (words_for_all types) h.work h.same; worked = omega (arith, ap (λ (x : World). x.work) h.same) }
  results_bound types w after o n false h = tt

  done_so : (types : CluTypes) (w : World) (n : ℕ) (out : Outcome) → Within types (doing w n) out → StepsCome image map types f st now w (outcome_in w (continued (gives_results types) out))
  unfolding continued
  done_so types w n (returned [] after) h = absurd h
  done_so types w n (returned (o ∷ []) after) h = results_bound types w after o n (all_fit (own_types (o ∷ [])) types) h
  done_so types w n (returned (o ∷ b ∷ os) after) h = absurd h
  done_so types w n (signalled name [] after) h = record { work = suc h.work; ran = h.ran; untouched = left_so w after n h.work h.same; worked = omega (arith, ap (λ (x : World). x.work) h.same) }
  done_so types w n (signalled name (o ∷ os) after) h = absurd h
  done_so types w n wrong h = tt

  arguments_bound : (T : CluType) (h : Operation) (p : Primitive) (os : List Object) (w : World) (t : Bool) → ((v : World) → Within h.results v (p os v)) →
      StepsCome image map h.results f st now w (outcome_in w (need t (takes (words_for_all h.args) (counts 1 (and_then (p os) (gives_results h.results)))) (before w)))
  unfolding need no_case takes counts and_then
  arguments_bound T h p os w true g = done_so h.results w (words_for_all h.args) (p os (doing w (words_for_all h.args))) (g (doing w (words_for_all h.args)))
  arguments_bound T h p os w false g = tt

  by_rows : (T : CluType) (a : Option Operation) (b : Option Primitive) (os : List Object) (w : World) → ((v : World) → Within (results_of a) v (tried b os v)) →
      StepsCome image map (results_of a) f st now w (outcome_in w (needed a (λ h. needed b (λ p. invoked T h p os)) (before w)))
  unfolding needed no_case
  by_rows T None b os w g = tt
  by_rows T (Some h) None os w g = tt
  by_rows T (Some h) (Some p) os w g = arguments_bound T h p os w (may_be_arguments T (own_types os) h.args) g

  -- what the operation comes to in each world, its invocation comes to
  pub steps_do : (T : CluType) (op : List ℕ) (os : List Object) (w : World) → ((v : World) → Within (results_of (operation T op)) v (tried (primitive T op) os v)) →
      StepsCome image map (results_of (operation T op)) f st now w (prim T op os w)
  unfolding prim done_in
  steps_do T op os w g = by_rows T (operation T op) (primitive T op) os w g
