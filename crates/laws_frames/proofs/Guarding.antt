-- Guards: what is raised in their lists is handled by their arms.
use Rattle.std.proofs.Common.{◌≡◌, ◌≢◌, ◌∙◌, ℕ, zero, suc, ◌+◌, ◌<◌, ◌≤◌, ◌==◌, Bool, true, false, List, [], ◌∷◌, length, Option, Some, None, slice_get, refl, ap, ap₂, sym, subst, arith}
use Rattle.std.specs.List.{list_any}
use Rattle.std.specs.Str.{bytes_eq}
use Rattle.std.specs.Prelude.{if◌then◌else◌, max, nat_le}
use Rattle.std.proofs.lemmas.Bool.Decides.{nat_tests}
use Rattle.std.proofs.lemmas.Bool.{eqb-true}
use Rattle.clu_frames.specs.Plain.{Step}
use Rattle.clu_frames.specs.Plain as flat
use Rattle.clu_frames.specs.Flattening.{Guarding, Made, Onto, Round, all_onto, arm_begun, armed, arms_onto, guard_at, in_guard, named_onto, pushed, slots_of}
use Rattle.clu_wir.specs.Plain.{Arms, Expr, Stmts, arm_and, no_arms}
use Rattle.clu_word_meaning.specs.Words.{Body, Computation, Entry, Result, State, broken, closes, continue_either_way, continued, counted, counted_twice, either, either_way, ended, ends, exec_all, exited, gives, guard_done, handled, into_arm, is_same, listed, named_arm, need, normal, numbered_arm, other_arm, out_of_turns, put_slot, puts, raised, returned, signalled, through, with_slots, with_state, wrong}
use Rattle.clu_flat_meaning.specs.Image.{FlatArm, Instance}
use Rattle.clu_flat_meaning.specs.Machine.{Comes, Machine, address_of, arm_at, at_arm, goes_to, is_address, next, number_at, on_arm, on_step, place_of, put_in, running}
use Rattle.clu_flat_meaning.proofs.Runs.{Front, Once, address_so, at_push, comes_as, comes_same, comes_then, front_back, front_more, label_place, length_push, number_so, one_search, so_is}
use Rattle.clu_flat_meaning.proofs.Rising.{comes_high}
use Rattle.laws_frames.specs.Calls.{Carries}
use Rattle.laws_frames.proofs.Relation.{Arrives, AtSlots, Fit, Keeps, Laws, Outcome, Place, Seeks, Sees, Starts, beyond, regions}
use Rattle.laws_frames.proofs.Sim.{before, foot_zero, guards_from, keeps_then, low_from, mark_kept, outcome_from}
use Rattle.laws_frames.proofs.Simple.{frame_so, keeps_put, owes, sees_counted, sees_put, stood}
use Rattle.laws_frames.proofs.Control.{DoesAt, Fronts, over_label, step_there}
use Rattle.laws_frames.proofs.Iterating.{AllBelow, Took, reads_first, results_run}
use Rattle.laws_frames.proofs.Fronts.{front_all, front_arms}
use Rattle.laws_frames.proofs.Widths.{is_le}

-- whether a list of names has one
abbrev pub has_name : List ℕ → List (List ℕ) → Bool
has_name name names = list_any (λ (n : List ℕ). bytes_eq n name) names

-- behind an arm
abbrev pub arm_done : List (List ℕ) → Bool → List ℕ → Stmts → ℕ → ℕ → ℕ → Round → Made → Made
arm_done names others slots body label end region round m = pushed (flat.Jump end) (all_onto body round (pushed (flat.Label label) (arm_begun names others slots region round.mark m)))

-- where the arm of a name begins, and that of all others
abbrev pub named_at : Arms → ℕ → ℕ → ℕ → Round → Made → List ℕ → Option ℕ
named_at no_arms label end region round m name = None
named_at (arm_and names others slots body more) label end region round m name =
    if has_name name names then Some (length m.code) else named_at more (label + 1) end region round (arm_done names others slots body label end region round m) name

abbrev pub other_at : Arms → ℕ → ℕ → ℕ → Round → Made → Option ℕ
other_at no_arms label end region round m = None
other_at (arm_and names others slots body more) label end region round m =
    if others then Some (length m.code) else other_at more (label + 1) end region round (arm_done names others slots body label end region round m)

abbrev pub done_at : Arms → ℕ → ℕ → ℕ → Round → Made → Made
done_at no_arms label end region round m = m
done_at (arm_and names others slots body more) label end region round m = done_at more (label + 1) end region round (arm_done names others slots body label end region round m)

module _ (p : Place) (Good : Expr → Type 0) (laws : Laws p Good) (once : Once p.shape.code) (entries : ℕ → Entry) (yielded : Body) where
  abbrev code : List Step
  code = p.shape.code

  abbrev pub ArmsDo : Arms → ℕ → ℕ → ℕ → Round → Made → Type 0
  ArmsDo no_arms label end region round m = Unit {0}
  ArmsDo (arm_and names others slots body more) label end region round m =
      AllBelow p.base slots × DoesAt p Good laws once round (pushed (flat.Label label) (arm_begun names others slots region round.mark m)) (exec_all p.linked entries yielded laws.live body) (all_onto body)
      × ArmsDo more (label + 1) end region round (arm_done names others slots body label end region round m)

  -- the arm that takes a name in a region
  pub record Hits (o : Option FlatArm) (target mark : ℕ) : Type 0 where
    pub arm : FlatArm
    pub is : o ≡ Some arm
    pub begins : arm.target ≡ target
    pub marks : arm.mark ≡ mark

  module _ (round : Round) (fit : Fit p round) (end region top : ℕ) (s : ℕ → ℕ) (m0 : Made) (st0 : State) (c0 : Machine) (starts : Starts p laws.live round m0 st0 c0) (tops : c0.top ≡ top) (stacks : c0.stack ≡ s)
      (last : Made) (last_front : Front (pushed (flat.Label end) last).code code) where
    abbrev final : ℕ
    final = length (pushed (flat.Label end) last).code

    end_place : place_of code end ≡ length last.code
    end_place = label_place code once (length last.code) end (at_push last.code code (flat.Label end) last_front)

    -- from the jump to the end
    pub jump_end : (m : Made) (c : Machine) (st : State) → Front (pushed (flat.Jump end) m).code code → Arrives p round.work top s c (length m.code) top st → Arrives p round.work top s c final top (counted_twice st)
    unfolding on_step
    jump_end m c st f a =
        let b = goes_to (place_of code end) a.machine in
        let k = step_there p Good laws once (length m.code) (flat.Jump end) a.machine a.pc (stood p a.sees) a.mode (at_push m.code code (flat.Jump end) f) in
        over_label p Good laws once 0 round.work top s c last end top (counted 1 st) last_front (record {
          machine = b;
          comes = comes_then p.image c a.machine b a.comes k;
          pc = end_place;
          top = a.top;
          mode = a.mode;
          sees = record { slots = a.sees.slots; below = a.sees.below; world = a.sees.world; who = a.sees.who; frame = a.sees.frame; room = a.sees.room; pay = omega (arith, a.sees.pay); within = (a.sees.within.0, a.sees.within.1, omega (arith, a.sees.within.2), a.sees.within.3, a.sees.within.4) };
          keeps = a.keeps;
        })

    -- a list, and then the jump
    after_body : (m : Made) (c : Machine) (r : Result (Unit {0})) → Front (pushed (flat.Jump end) m).code code → Outcome p round (length m.code) top s c r → Outcome p round final top s c (continue_either_way (λ done. with_state (counted_twice) (gives tt)) ends r)
    unfolding continue_either_way with_state gives ends
    after_body m c (normal u t st) f o = jump_end m c st f o
    after_body m c (ended e t st) f o = o
    after_body m c (out_of_turns st) f o = o

    -- the list of an arm, from its label
    from_label : (m : Made) (label : ℕ) (f : Computation (Unit {0})) (on : Onto) (t : ℕ) (st : State) (d : Machine) → DoesAt p Good laws once round (pushed (flat.Label label) m) f on → Fronts on →
        Front (pushed (flat.Jump end) (on round (pushed (flat.Label label) m))).code code →
        c0.high ≤ d.high → d.pc ≡ length m.code → d.mode ≡ running → d.top ≡ top → Sees p st d → Keeps p round.work top s d.stack → Outcome p round final top s d (listed f t st)
    unfolding on_step with_state either_way
    from_label m label f on t st d does fronts front grown pc mode dtop see keep =
        let m1 : Made = pushed (flat.Label label) m in
        let m2 : Made = on round m1 in
        let f2 : Front m2.code code = front_back m2.code code (flat.Jump end) front in
        let f1 : Front m1.code code = front_more m1.code m2.code code (fronts round m1) f2 in
        let e : Machine = next d in
        let k = step_there p Good laws once (length m.code) (flat.Label label) d pc (stood p see) mode (at_push m.code code (flat.Label label) f1) in
        let ks : Keeps p round.work c0.top c0.stack d.stack = subst (λ x. Keeps p round.work c0.top x d.stack) (sym stacks) (subst (λ x. Keeps p round.work x s d.stack) (sym tops) keep) in
        let se : Starts p laws.live round m1 (counted 1 st) e = record {
          pc = ap suc pc ∙ sym (length_push m.code (flat.Label label));
          mode = mode;
          top = omega (arith, starts.top, tops, dtop);
          room = starts.room;
          mark = mark_kept p round.work c0.top round.mark c0.stack d.stack fit.mark ks ∙ starts.mark ∙ ap address_of (tops ∙ sym dtop);
          site = foot_zero p round.work c0.top c0.stack d.stack ks ∙ starts.site;
          caller = ks.foot 1 (omega arith) ∙ starts.caller;
          link = ks.foot 2 (omega arith) ∙ starts.link;
          low = omega (arith, starts.low, tops, dtop);
          cut = low_from p round.turns round.work c0.top c0.top e.top c0.stack d.stack fit.turns ks (omega (arith, dtop, tops)) starts.cut;
          guards = guards_from p round.guards round.work c0.top c0.top e.top c0.stack d.stack fit.guards ks (omega (arith, dtop, tops)) starts.guards;
          sees = record { slots = see.slots; below = see.below; world = see.world; who = see.who; frame = see.frame; room = see.room; pay = omega (arith, see.pay); within = (see.within.0, see.within.1, omega (arith, see.within.2), see.within.3, see.within.4) };
        } in
        let o : Outcome p round (length m2.code) d.top d.stack e (f t (counted 1 st)) = does t (counted 1 st) e f2 se in
        let o1 : Outcome p round (length m2.code) top d.stack e (f t (counted 1 st)) = subst (λ x. Outcome p round (length m2.code) x d.stack e (f t (counted 1 st))) dtop o in
        before p round final top s d e (closes f t (counted 1 st)) k (after_body m2 e (f t (counted 1 st)) front (outcome_from p round (length m2.code) top s d.stack e (f t (counted 1 st)) fit keep o1))

    -- a machine that has come to where an arm begins
    pub record AtTarget (st : State) (ws : List ℕ) (word target : ℕ) (d : Machine) : Type 0 where
      pub pc : d.pc ≡ target
      pub mode : d.mode ≡ running
      pub high : d.top ≡ top
      pub value : d.value ≡ word
      pub words : Carries p.image (beyond p) ws d
      pub sees : Sees p st d
      pub keeps : Keeps p round.work top s d.stack
      pub grown : c0.high ≤ d.high

    named_code : (mark : ℕ) (names : List (List ℕ)) (m : Made) → (named_onto region mark names m).code ≡ m.code
    named_code mark [] m = refl
    named_code mark (name ∷ names) m = named_code mark names (armed region mark name m)

    -- words into the slots of an arm, or its label at once
    taken_case : (b : Bool) (slots ws : List ℕ) (m : Made) (label : ℕ) (f : Computation (Unit {0})) (on : Onto) (t : ℕ) (st : State) (d : Machine) →
        (b ≡ true → (e : Machine) × Took p Good laws once m round.work top s (with_slots (puts slots ws) st) d e) →
        c0.high ≤ d.high → d.top ≡ top → DoesAt p Good laws once round (pushed (flat.Label label) m) f on → Fronts on → Front (pushed (flat.Jump end) (on round (pushed (flat.Label label) m))).code code →
        Outcome p round final top s d (continue_either_way (λ done. listed f) ends (need b (with_state (with_slots (puts slots ws)) (gives {A = Unit {0}} tt)) t st))
    unfolding need with_state gives ends continue_either_way
    taken_case false slots ws m label f on t st d k grown dt does fronts front = tt
    taken_case true slots ws m label f on t st d k grown dt does fronts front =
        let r = k refl in
        before p round final top s d r.0 (listed f t (with_slots (puts slots ws) st)) r.1.comes
        (from_label m label f on t (with_slots (puts slots ws) st) r.0 does fronts front (omega (arith, grown, comes_high p.image d r.0 r.1.comes)) r.1.pc r.1.mode (r.1.top ∙ dt) r.1.sees r.1.keeps)

    -- Exceptions

    by_name : (b : Bool) (x y : Computation (Unit {0})) (t : ℕ) (st : State) (d : Machine) → (b ≡ true → Outcome p round final top s d (x t st)) → (b ≡ false → Outcome p round final top s d (y t st)) →
        Outcome p round final top s d (either b x y t st)
    unfolding either
    by_name true x y t st d f g = f refl
    by_name false x y t st d f g = g refl

    if_true : (b : Bool) (n : ℕ) (o : Option ℕ) → b ≡ true → (if b then Some n else o) ≡ Some n
    if_true b n o e = rw e refl

    if_false : (b : Bool) (n : ℕ) (o : Option ℕ) → b ≡ false → (if b then Some n else o) ≡ o
    if_false b n o e = rw e refl

    -- the words of an exception of a name go into the arm's slots. An arm that takes all others names none here
    arm_words : (names : List (List ℕ)) (slots ws : List ℕ) (m : Made) (st : State) (word : ℕ) (d : Machine) → AllBelow p.base slots → Front (arm_begun names false slots region round.mark m).code code →
        AtTarget st ws word (length m.code) d → length slots ≤ length ws → (e : Machine) × Took p Good laws once (arm_begun names false slots region round.mark m) round.work top s (with_slots (puts slots ws) (counted (length slots) st)) d e
    arm_words names slots ws m st word d ok front a n =
        results_run p Good laws once slots ws 0 (named_onto region round.mark names m) round.work top s (counted (length slots) st) d ok n front (a.pc ∙ ap (λ (x : List Step). length x) (sym (named_code round.mark names m))) a.mode (sees_counted p (length slots) st d a.sees) a.keeps
        (reads_first p Good laws once ws d a.words) (omega (arith, a.sees.within.2))

    taken_one : (only : ℕ) (m : Made) (st : State) (word : ℕ) (d : Machine) → only < p.base → Front (pushed (flat.Take only) m).code code → d.pc ≡ length m.code → d.mode ≡ running → d.value ≡ word → Sees p st d →
        Keeps p round.work top s d.stack → (e : Machine) × Took p Good laws once (pushed (flat.Take only) m) round.work top s (with_slots (puts (only ∷ []) (word ∷ [])) (counted 1 st)) d e
    unfolding puts on_step
    taken_one only m st word d small front pc mode value see keep =
        let b : Machine = next (put_in only d.value d) in (
          b,
          record {
            comes = step_there p Good laws once (length m.code) (flat.Take only) d pc (stood p see) mode (at_push m.code code (flat.Take only) front);
            pc = ap suc pc ∙ sym (length_push m.code (flat.Take only));
            mode = mode;
            top = refl;
            sees = subst (λ x. Sees p (with_slots (put_slot only x) (counted 1 st)) b) value (sees_put p (counted 1 st) d only d.value laws.local small (owes p (counted 1 st) d (sees_counted p 1 st d see)) (omega (arith, see.within.2)));
            keeps = keeps_then p round.work top round.work top s d.stack b.stack (omega arith) (omega arith) keep (keeps_put p round.work top d only d.value small laws.small see.frame);
          },
        )

    -- at an arm's beginning
    arm_taken : (others : Bool) (names : List (List ℕ)) (slots ws : List ℕ) (m : Made) (label : ℕ) (name : List ℕ) (f : Computation (Unit {0})) (on : Onto) (t : ℕ) (st : State) (d : Machine) → AllBelow p.base slots →
        DoesAt p Good laws once round (pushed (flat.Label label) (arm_begun names others slots region round.mark m)) f on → Fronts on →
        Front (pushed (flat.Jump end) (on round (pushed (flat.Label label) (arm_begun names others slots region round.mark m)))).code code →
        AtTarget st ws (p.linked.name_word name) (length m.code) d → Outcome p round final top s d (into_arm p.linked entries others slots name ws (listed f) t st)
    unfolding into_arm either_way with_state on_step
    arm_taken false names slots ws m label name f on t st d ok does fronts front a =
        let mb = arm_begun names false slots region round.mark m in
        let fb : Front mb.code code = front_back mb.code code (flat.Label label) (front_more _ _ _ (fronts round (pushed (flat.Label label) mb)) (front_back _ code (flat.Jump end) front)) in
        taken_case (nat_le (length slots) (length ws)) slots ws mb label f on t (counted (length slots) st) d (λ n. arm_words names slots ws m st (p.linked.name_word name) d ok fb a (is_le (length slots) (length ws) n)) a.grown a.high does fronts front
    arm_taken true names [] ws m label name f on t st d ok does fronts front a =
        from_label (arm_begun names true [] region round.mark m) label f on t st d does fronts front a.grown (a.pc ∙ ap (λ (x : List Step). length x) (sym (named_code round.mark names m))) a.mode a.high a.sees a.keeps
    arm_taken true names (only ∷ []) ws m label name f on t st d ok does fronts front a =
        let mb = arm_begun names true (only ∷ []) region round.mark m in
        let fb : Front mb.code code = front_back mb.code code (flat.Label label) (front_more _ _ _ (fronts round (pushed (flat.Label label) mb)) (front_back _ code (flat.Jump end) front)) in
        taken_case (is_same 1 1) (only ∷ []) (p.linked.name_word name ∷ []) mb label f on t (counted 1 st) d
        (λ n. taken_one only (armed region round.mark [] (named_onto region round.mark names m)) st (p.linked.name_word name) d ok.0 fb (a.pc ∙ ap (λ (x : List Step). length x) (sym (named_code round.mark names m))) a.mode a.value a.sees a.keeps)
        a.grown a.high does fronts front
    arm_taken true names (first ∷ second ∷ rest) ws m label name f on t st d ok does fronts front a =
        taken_case (is_same (length (first ∷ second ∷ rest)) 1) (first ∷ second ∷ rest) (p.linked.name_word name ∷ []) (arm_begun names true (first ∷ second ∷ rest) region round.mark m) label f on t (counted 1 st) d
        (λ n. absurd (omega (arith, eqb-true (length (first ∷ second ∷ rest)) 1 n))) a.grown a.high does fronts front

    pub named_runs : (arms : Arms) (label : ℕ) (m : Made) (name ws : List ℕ) (rest : Computation (Unit {0})) (t : ℕ) (st : State) (x : Machine) → ArmsDo arms label end region round m →
        Front (arms_onto arms label end region round m).code code →
        ((target : ℕ) → named_at arms label end region round m name ≡ Some target → (d : Machine) × Comes p.image x d × AtTarget (counted 1 st) ws (p.linked.name_word name) target d) →
        (named_at arms label end region round m name ≡ None → Outcome p round final top s x (rest t st)) →
        Outcome p round final top s x (named_arm p.linked entries yielded laws.live arms name ws rest t st)
    unfolding named_arm arms_onto with_state
    named_runs no_arms label m name ws rest t st x ok front hit miss = miss refl
    named_runs (arm_and names others slots body more) label m name ws rest t st x ok front hit miss =
        let m2 = arm_done names others slots body label end region round m in
        by_name (has_name name names) (with_state (counted 1) (into_arm p.linked entries others slots name ws (listed (exec_all p.linked entries yielded laws.live body)))) (named_arm p.linked entries yielded laws.live more name ws rest) t st x
        (λ yes.
        let h = hit (length m.code) (if_true (has_name name names) (length m.code) (named_at more (label + 1) end region round m2 name) yes) in
        before p round final top s x h.0 (into_arm p.linked entries others slots name ws (listed (exec_all p.linked entries yielded laws.live body)) t (counted 1 st)) h.1
        (arm_taken others names slots ws m label name (exec_all p.linked entries yielded laws.live body) (all_onto body) t (counted 1 st) h.0 ok.0 ok.1 (front_all body)
        (front_more _ _ _ (front_arms more (label + 1) end region round m2) front) h.2))
        (λ no. named_runs more (label + 1) m2 name ws rest t st x ok.2 front
        (λ target h. hit target (if_false (has_name name names) (length m.code) (named_at more (label + 1) end region round m2 name) no ∙ h))
        (λ h. miss (if_false (has_name name names) (length m.code) (named_at more (label + 1) end region round m2 name) no ∙ h)))

    pub other_runs : (arms : Arms) (label : ℕ) (m : Made) (name ws : List ℕ) (t : ℕ) (st : State) (x : Machine) → ArmsDo arms label end region round m →
        Front (arms_onto arms label end region round m).code code →
        ((target : ℕ) → other_at arms label end region round m ≡ Some target → (d : Machine) × Comes p.image x d × AtTarget (counted 1 st) ws (p.linked.name_word name) target d) →
        (other_at arms label end region round m ≡ None → Outcome p round final top s x (ends (raised name ws) t st)) →
        Outcome p round final top s x (other_arm p.linked entries yielded laws.live arms name ws t st)
    unfolding other_arm arms_onto with_state
    other_runs no_arms label m name ws t st x ok front hit miss = miss refl
    other_runs (arm_and names others slots body more) label m name ws t st x ok front hit miss =
        let m2 = arm_done names others slots body label end region round m in
        by_name others (with_state (counted 1) (into_arm p.linked entries true slots name ws (listed (exec_all p.linked entries yielded laws.live body)))) (other_arm p.linked entries yielded laws.live more name ws) t st x
        (λ yes.
        let h = hit (length m.code) (if_true others (length m.code) (other_at more (label + 1) end region round m2) yes) in
        before p round final top s x h.0 (into_arm p.linked entries true slots name ws (listed (exec_all p.linked entries yielded laws.live body)) t (counted 1 st)) h.1
        (subst (λ b. Outcome p round final top s h.0 (into_arm p.linked entries b slots name ws (listed (exec_all p.linked entries yielded laws.live body)) t (counted 1 st))) yes
        (arm_taken others names slots ws m label name (exec_all p.linked entries yielded laws.live body) (all_onto body) t (counted 1 st) h.0 ok.0 ok.1 (front_all body)
        (front_more _ _ _ (front_arms more (label + 1) end region round m2) front) h.2)))
        (λ no. other_runs more (label + 1) m2 name ws t st x ok.2 front
        (λ target h. hit target (if_false others (length m.code) (other_at more (label + 1) end region round m2) no ∙ h))
        (λ h. miss (if_false others (length m.code) (other_at more (label + 1) end region round m2) no ∙ h)))

    -- Exits

    exit_case : (b : Bool) (slots ws : List ℕ) (m : Made) (label : ℕ) (f : Computation (Unit {0})) (on : Onto) (t : ℕ) (st : State) (x : Machine) → c0.high ≤ x.high → b ≡ is_same (length slots) (length ws) → place_of code label ≡ length m.code →
        (length slots ≡ length ws → Arrives p round.work top s x (place_of code label) (number_at (s (p.fp + round.mark))) (with_slots (puts slots ws) st)) →
        DoesAt p Good laws once round (pushed (flat.Label label) m) f on → Fronts on → Front (pushed (flat.Jump end) (on round (pushed (flat.Label label) m))).code code →
        Outcome p round final top s x (continue_either_way (λ done. listed f) ends (need b (with_state (with_slots (puts slots ws)) (gives {A = Unit {0}} tt)) t st))
    unfolding need with_state gives ends continue_either_way
    exit_case false slots ws m label f on t st x grown e place k does fronts front = tt
    exit_case true slots ws m label f on t st x grown e place k does fronts front =
        let a = k (eqb-true (length slots) (length ws) (sym e)) in
        before p round final top s x a.machine (listed f t (with_slots (puts slots ws) st)) a.comes
        (from_label m label f on t (with_slots (puts slots ws) st) a.machine does fronts front (omega (arith, grown, comes_high p.image x a.machine a.comes)) (a.pc ∙ place) a.mode
        (a.top ∙ ap (λ (x : ℕ → ℕ). number_at (x (p.fp + round.mark))) (sym stacks) ∙ number_so (c0.stack (p.fp + round.mark)) c0.top starts.mark ∙ tops) a.sees a.keeps)

    -- an arm that an exit goes to, by its number
    pub numbered_runs : (arms : Arms) (label : ℕ) (m : Made) (n : ℕ) (ws : List ℕ) (t : ℕ) (st : State) (x : Machine) → c0.high ≤ x.high → ArmsDo arms label end region round m →
        Front (arms_onto arms label end region round m).code code → AtSlots p (slice_get (slots_of arms) n) (label + n) round.mark ws round.work top s x st →
        Outcome p round final top s x (numbered_arm p.linked entries yielded laws.live arms n ws t st)
    unfolding numbered_arm arms_onto either_way ends
    numbered_runs no_arms label m n ws t st x grown ok front o = tt
    numbered_runs (arm_and names others slots body more) label m zero ws t st x grown ok front o =
        let mb = arm_begun names others slots region round.mark m in
        let m2 = arm_done names others slots body label end region round m in
        let f2 : Front m2.code code = front_more _ _ _ (front_arms more (label + 1) end region round m2) front in
        let fl : Front (pushed (flat.Label label) mb).code code = front_more _ _ _ (front_all body round (pushed (flat.Label label) mb)) (front_back (all_onto body round (pushed (flat.Label label) mb)).code code (flat.Jump end) f2) in
        exit_case (is_same (length slots) (length ws)) slots ws mb label (exec_all p.linked entries yielded laws.live body) (all_onto body) t st x grown refl
        (label_place code once (length mb.code) label (at_push mb.code code (flat.Label label) fl)) (subst (λ l. AtSlots p (Some slots) l round.mark ws round.work top s x st) (let z : label + 0 ≡ label = omega arith in z) o)
        ok.1 (front_all body) f2
    numbered_runs (arm_and names others slots body more) label m (suc n) ws t st x grown ok front o =
        numbered_runs more (label + 1) (arm_done names others slots body label end region round m) n ws t st x grown ok.2 front
        (subst (λ l. AtSlots p (slice_get (slots_of more) n) l round.mark ws round.work top s x st) (let z : label + suc n ≡ label + 1 + n = omega arith in z) o)

  -- The whole

  pub arms_done : (arms : Arms) (label end region : ℕ) (round : Round) (m : Made) → arms_onto arms label end region round m ≡ pushed (flat.Label end) (done_at arms label end region round m)
  unfolding arms_onto
  arms_done no_arms label end region round m = refl
  arms_done (arm_and names others slots body more) label end region round m = arms_done more (label + 1) end region round (arm_done names others slots body label end region round m)

  -- what the table of regions must say of a guard's region
  pub record SeekLaw (arms : Arms) (label end region : ℕ) (round : Round) (m : Made) : Type 0 where
    pub named : (v : ℕ) (name : List ℕ) (target : ℕ) → p.image.name_of v ≡ Some name → named_at arms label end region round m name ≡ Some target → Hits (p.seek (Some region) v) target round.mark
    pub other : (v : ℕ) (name : List ℕ) (target : ℕ) → p.image.name_of v ≡ Some name → named_at arms label end region round m name ≡ None → other_at arms label end region round m ≡ Some target → Hits (p.seek (Some region) v) target round.mark
    pub none : (v : ℕ) (name : List ℕ) → p.image.name_of v ≡ Some name → named_at arms label end region round m name ≡ None → other_at arms label end region round m ≡ None → p.seek (Some region) v ≡ p.seek round.region v

  module _ (round : Round) (fit : Fit p round) (arms : Arms) (label end region : ℕ) (m1 m3 : Made) (body : Stmts) (law : SeekLaw arms label end region round m3) (does_arms : ArmsDo arms label end region round m3)
      (m0 : Made) (st0 : State) (c : Machine) (starts : Starts p laws.live round m0 st0 c) (front : Front (arms_onto arms label end region round m3).code code) where
    abbrev last : Made
    last = done_at arms label end region round m3

    last_front : Front (pushed (flat.Label end) last).code code
    last_front = subst (λ (x : Made). Front x.code code) (arms_done arms label end region round m3) front

    abbrev whole : ℕ
    whole = length (pushed (flat.Label end) last).code

    -- the search comes to an arm
    comes_to : (name ws : List ℕ) (st : State) (target : ℕ) (o : Seeks p round.work c.top c.stack c (Some region) name ws st) → Hits (p.seek (Some region) o.machine.value) target round.mark →
        (d : Machine) × Comes p.image o.machine d × AtTarget round fit end region c.top c.stack m0 st0 c starts refl refl last last_front (counted 1 st) ws (p.linked.name_word name) target d
    unfolding on_arm at_arm
    comes_to name ws st target o h =
        let x = o.machine in
        let a : ℕ = x.stack (x.fp + h.arm.mark) in
        let up : a ≡ address_of c.top = ap₂ (λ f n. x.stack (f + n)) o.sees.frame h.marks ∙ mark_kept p round.work c.top round.mark c.stack x.stack fit.mark o.keeps ∙ starts.mark in
        let d : Machine = record x { mode = running; pc = h.arm.target; top = c.top; high = max x.high c.top; clock = suc x.clock } in
        let table : p.image.regions x.who.table ≡ regions p = ap (λ (i : Instance). p.image.regions i.table) o.sees.who in
        let deep : x.fp ≢ 0 = λ z. omega (arith, z, o.sees.frame, laws.deep, laws.honest.bottom) in
        let inside : (x.fp == 0) ≡ false = grind (arith, nat_tests, deep) in
        let is : on_arm p.image (arm_at (p.image.regions x.who.table) x.pc x.value) x ≡ d =
        ap (λ r. on_arm p.image (arm_at r x.pc x.value) x) table ∙ ap (λ f. on_arm p.image f x) (o.home ∙ h.is)
        ∙ so_is (is_address a) (record x { mode = running; pc = h.arm.target; top = number_at a; high = max x.high (number_at a); clock = suc x.clock }) x (address_so a c.top up)
        ∙ ap (λ n. record x { mode = running; pc = h.arm.target; top = n; high = max x.high n; clock = suc x.clock }) (number_so a c.top up) in
        let k : Comes p.image x d = comes_as p.image x (on_arm p.image (arm_at (p.image.regions x.who.table) x.pc x.value) x) d is
        (one_search p.image p.shape x (ap (λ (i : Instance). p.image.body i.body) o.sees.who ∙ laws.at_me) o.mode inside (frame_so p x laws.deep (stood p o.sees))) in (
          d,
          k,
          record {
            pc = h.begins;
            mode = refl;
            high = refl;
            value = sym (laws.honest.names x.value name o.excepts.named);
            words = record { at = o.excepts.words.at };
            sees = record {
              slots = o.sees.slots;
              below = o.sees.below;
              world = o.sees.world;
              who = o.sees.who;
              frame = o.sees.frame;
              room = o.sees.room;
              pay = omega (arith, o.sees.pay);
              within = (
                o.sees.within.0,
                o.sees.within.1,
                omega (arith, o.sees.within.2),
                omega (arith, o.sees.within.3, comes_high p.image c x o.comes, starts.sees.within.4),
                omega arith,
              );
            };
            keeps = o.keeps;
            grown = omega (arith, comes_high p.image c x o.comes);
          },
        )

    pub guard_case : (m2 : Made) (g : Guarding) → g ≡ guard_at (slots_of arms) label round.mark → Front (pushed (flat.Jump end) m2).code code → (r : Result (Unit {0})) →
        Outcome p (in_guard (guard_at (slots_of arms) label round.mark) region round) (length m2.code) c.top c.stack c r →
        Outcome p round whole c.top c.stack c (continue_either_way (λ done. guard_done) (handled (λ name ws. named_arm p.linked entries yielded laws.live arms name ws (other_arm p.linked entries yielded laws.live arms name ws)) (numbered_arm p.linked entries yielded laws.live arms)) r)
    unfolding continue_either_way gives handled with_state ends
    guard_case m2 g eg fj (normal u t st) o = jump_end round fit end region c.top c.stack m0 st0 c starts refl refl last last_front m2 c st fj o
    guard_case m2 g eg fj (ended broken t st) o = o
    guard_case m2 g eg fj (ended continued t st) o = o
    guard_case m2 g eg fj (ended (returned ws) t st) o = o
    guard_case m2 g eg fj (ended (signalled name ws) t st) o = o
    guard_case m2 g eg fj (ended (raised name ws) t st) o =
        before p round whole c.top c.stack c o.machine (named_arm p.linked entries yielded laws.live arms name ws (other_arm p.linked entries yielded laws.live arms name ws) t st) o.comes
        (named_runs round fit end region c.top c.stack m0 st0 c starts refl refl last last_front arms label m3 name ws (other_arm p.linked entries yielded laws.live arms name ws) t st o.machine does_arms front
        (λ target h. comes_to name ws st target o (law.named o.machine.value name target o.excepts.named h))
        (λ no. other_runs round fit end region c.top c.stack m0 st0 c starts refl refl last last_front arms label m3 name ws t st o.machine does_arms front
        (λ target h. comes_to name ws st target o (law.other o.machine.value name target o.excepts.named no h))
        (λ none. record { machine = o.machine; comes = comes_same p.image o.machine; mode = o.mode; home = o.home ∙ law.none o.machine.value name o.excepts.named no none; excepts = o.excepts; sees = o.sees; keeps = o.keeps })))
    guard_case m2 g eg fj (ended (exited zero arm ws) t st) o =
        numbered_runs round fit end region c.top c.stack m0 st0 c starts refl refl last last_front arms label m3 arm ws t st c (omega arith) does_arms front o
    guard_case m2 g eg fj (ended (exited (suc n) arm ws) t st) o = o
    guard_case m2 g eg fj (ended (through e) t st) o = o
    guard_case m2 g eg fj (ended wrong t st) o = tt
    guard_case m2 g eg fj (out_of_turns st) o = o
