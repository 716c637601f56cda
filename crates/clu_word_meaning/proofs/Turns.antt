-- What ends out of turns has spent all of them.
use Rattle.std.proofs.Common.{◌≡◌, ◌∙◌, ℕ, zero, suc, ◌+◌, ◌<◌, ◌≤◌, ◌==◌, Bool, true, false, List, [], ◌∷◌, length, Option, None, Some, refl, ap, subst, arith}
use Rattle.std.specs.List.{list_any}
use Rattle.std.specs.Str.{bytes_eq}
use Rattle.std.specs.Prelude.{nat_le}
use Rattle.clu_wir.specs.Plain.{Arms, Deed, Expr, Stmt, Stmts, arm_and, gives_value, no_arms, no_stmts, puts_word, stmt_and}
use Rattle.clu_wir.specs.Plain as plain
use Rattle.clu_wir.specs.Traps.{trap_name}
use Rattle.clu_wir.specs.Value.{Gives, Raises, Stuck, Value, value}
use Rattle.clu_word_meaning.specs.World.{Done, World, failure_name, unhandled_text, with_string}
use Rattle.clu_word_meaning.specs.Words.{Body, Computation, Ending, Entry, Linked, Result, State, as_before, back_to, begun, body_ending, broken, by_value, call_ending, called_from, caller_of, calls, closes, continue_either_way, continued, counted, counted_twice, does, either, either_way, ended, ends, exec, exec_all, exited, gives, handled, into_arm, is_around, is_same, iterates, listed, loop_at, loop_ending, loops, named_arm, need, no_body, normal, numbered_arm, other_arm, out_of_turns, puts, raised, resignals, returned, rises, sees, signalled, spends_a_turn, takes, takes_a_turn, takes_first, through, turn_ending, valued, values, view, with_slots, with_state, worlds, wrong, yields}
use Rattle.clu_word_meaning.specs.Levels.{Callee, arguments, bare, begun_in, deed_done, entered, entering, fails, fails_as, framed, inside, level, routine_ending, run}

-- turns left and turns spent: together as many as before, and none is left where it is out of turns
abbrev pub Kept : {A : Type 0} → ℕ → ℕ → Result A → Type 0
Kept most total (normal a t st) = (t ≤ most) × (t + st.meters.spent ≡ total)
Kept most total (ended e t st) = (t ≤ most) × (t + st.meters.spent ≡ total)
Kept most total (out_of_turns st) = st.meters.spent ≡ total

-- with less than so many turns
pub record Fair {A : Type 0} (n : ℕ) (f : Computation A) : Type 0 where
  pub keeps : (t : ℕ) (st : State) → t < n → Kept t (t + st.meters.spent) (f t st)

module _ (n : ℕ) where
  fair_gives : {A : Type 0} (a : A) → Fair n (gives a)
  unfolding gives
  fair_gives a = record { keeps = λ t st l. (omega arith, refl) }

  fair_ends : {A : Type 0} (e : Ending) → Fair n (ends {A = A} e)
  unfolding ends
  fair_ends e = record { keeps = λ t st l. (omega arith, refl) }

  kept_lower : {A : Type 0} (a b total total' : ℕ) (r : Result A) → a ≤ b → total ≡ total' → Kept a total r → Kept b total' r
  kept_lower a b total total' (normal x t st) l e k = (omega (arith, l, k.0), k.1 ∙ e)
  kept_lower a b total total' (ended x t st) l e k = (omega (arith, l, k.0), k.1 ∙ e)
  kept_lower a b total total' (out_of_turns st) l e k = k ∙ e

  continues : {A B : Type 0} (f : A → Computation B) (g : Ending → Computation B) (t total : ℕ) (r : Result A) → t < n → ((a : A) → Fair n (f a)) → ((e : Ending) → Fair n (g e)) → Kept t total r →
      Kept t total (continue_either_way f g r)
  unfolding continue_either_way
  continues f g t total (normal a t' st) l p q k = kept_lower t' t (t' + st.meters.spent) total (f a t' st) k.0 k.1 ((p a).keeps t' st (omega (arith, l, k.0)))
  continues f g t total (ended e t' st) l p q k = kept_lower t' t (t' + st.meters.spent) total (g e t' st) k.0 k.1 ((q e).keeps t' st (omega (arith, l, k.0)))
  continues f g t total (out_of_turns st) l p q k = k

  fair_either_way : {A B : Type 0} (first : Computation A) (f : A → Computation B) (g : Ending → Computation B) → Fair n first → ((a : A) → Fair n (f a)) → ((e : Ending) → Fair n (g e)) → Fair n (either_way first f g)
  unfolding either_way
  fair_either_way first f g o p q = record { keeps = λ t st l. continues f g t (t + st.meters.spent) (first t st) l p q (o.keeps t st l) }

  fair_and : {A B : Type 0} (first : Computation A) (f : A → Computation B) → Fair n first → ((a : A) → Fair n (f a)) → Fair n (either_way first f ends)
  fair_and first f o p = fair_either_way first f ends o p (λ e. fair_ends e)

  fair_with : {A : Type 0} (g : State → State) (f : Computation A) → ((st : State) → (g st).meters.spent ≡ st.meters.spent) → Fair n f → Fair n (with_state g f)
  unfolding with_state
  fair_with g f e o = record { keeps = λ t st l. kept_lower t t (t + (g st).meters.spent) (t + st.meters.spent) (f t (g st)) (omega arith) (ap (λ x. t + x) (e st)) (o.keeps t (g st) l) }

  fair_sees : {A : Type 0} (f : State → Computation A) → ((st : State) → Fair n (f st)) → Fair n (sees f)
  unfolding sees
  fair_sees f o = record { keeps = λ t st l. (o st).keeps t st l }

  fair_need : {A : Type 0} (b : Bool) (f : Computation A) → Fair n f → Fair n (need b f)
  unfolding need
  fair_need true f o = o
  fair_need false f o = fair_ends wrong

  fair_either : {A : Type 0} (b : Bool) (f g : Computation A) → Fair n f → Fair n g → Fair n (either b f g)
  unfolding either
  fair_either true f g o p = o
  fair_either false f g o p = p

  fair_turn : {A : Type 0} (f : Computation A) → Fair n f → Fair n (spends_a_turn f)
  unfolding spends_a_turn
  fair_turn f o = record { keeps = each }
    where
      each : (t : ℕ) (st : State) → t < n → Kept t (t + st.meters.spent) (spends_a_turn f t st)
      each zero st l = omega arith
      each (suc t) st l = kept_lower t (suc t) (t + suc st.meters.spent) (suc t + st.meters.spent) _ (omega arith) (omega arith) (o.keeps t _ (omega (arith, l)))

  fair_takes : (f : Computation (Unit {0})) → Fair n f → Fair n (takes_a_turn f)
  unfolding takes_a_turn
  fair_takes f o = record { keeps = each }
    where
      each : (t : ℕ) (st : State) → t < n → Kept t (t + st.meters.spent) (takes_a_turn f t st)
      each zero st l = omega arith
      each (suc t) st l = kept_lower t (suc t) (t + suc st.meters.spent) (suc t + st.meters.spent) _ (omega arith) (omega arith) (o.keeps t _ (omega (arith, l)))

  -- a turn that is spent leaves one less
  turn_below : {A : Type 0} (f : Computation A) → ((t : ℕ) (st : State) → suc t < suc n → Kept t (t + st.meters.spent) (f t st)) → (t : ℕ) (st : State) → t < suc n → Kept t (t + st.meters.spent) (spends_a_turn f t st)
  unfolding spends_a_turn
  turn_below f o zero st l = omega arith
  turn_below f o (suc t) st l = kept_lower t (suc t) (t + suc st.meters.spent) (suc t + st.meters.spent) _ (omega arith) (omega arith) (o t _ l)

pub fair_turn_up : {A : Type 0} (n : ℕ) (f : Computation A) → Fair n f → Fair (suc n) (spends_a_turn f)
fair_turn_up n f o = record { keeps = turn_below n f (λ t st l. o.keeps t st (omega (arith, l))) }

fair_less : {A : Type 0} (m n : ℕ) (f : Computation A) → m ≤ n → Fair n f → Fair m f
fair_less m n f le o = record { keeps = λ t st l. o.keeps t st (omega (arith, l, le)) }

by_ending : (k : ℕ) (again : Computation (Unit {0})) → Fair k again → (e : Ending) → Fair k (turn_ending again e)
unfolding turn_ending
by_ending k again r broken = fair_with k (counted 1) (gives tt) (λ st. refl) (fair_gives k tt)
by_ending k again r continued = r
by_ending k again r (returned ws) = fair_ends k (returned ws)
by_ending k again r (signalled name ws) = fair_ends k (signalled name ws)
by_ending k again r (raised name ws) = fair_ends k (raised name ws)
by_ending k again r (exited inside arm ws) = fair_ends k (exited inside arm ws)
by_ending k again r (through e) = fair_ends k (through e)
by_ending k again r wrong = fair_ends k wrong

loop_fair : (m n : ℕ) (body : Computation (Unit {0})) → m ≤ n → Fair n body → Fair m (loop_at m body)
unfolding loop_at
loop_fair zero n body le o = record { keeps = λ t st l. absurd (omega (arith, l)) }
loop_fair (suc m) n body le o =
    let rest : Fair (suc m) (spends_a_turn (loop_at m body)) = fair_turn_up m (loop_at m body) (loop_fair m n body (omega (arith, le)) o) in
    let whole = fair_either_way (suc m) body (λ done. spends_a_turn (loop_at m body)) (turn_ending (spends_a_turn (loop_at m body))) (fair_less (suc m) n body le o) (λ a. rest) (by_ending (suc m) (spends_a_turn (loop_at m body)) rest) in
    record { keeps = λ t st l. whole.keeps t (counted 1 st) l }

module _ (n : ℕ) (l : Linked) (entries : ℕ → Entry) where
  value_fair : {A : Type 0} (v : Value) (f : ℕ → Computation A) → ((w : ℕ) → Fair n (f w)) → Fair n (by_value l entries v f)
  unfolding by_value
  value_fair (Gives w) f o = o w
  value_fair (Raises t) f o = fair_ends n (raised (trap_name t) (l.trap_words t))
  value_fair Stuck f o = fair_ends n wrong

  valued_fair : {A : Type 0} (e : Expr) (f : ℕ → Computation A) → ((w : ℕ) → Fair n (f w)) → Fair n (valued l entries e f)
  unfolding valued
  valued_fair e f o = record { keeps = λ t st h. (value_fair (value (view l st.slots st.world) e) f o).keeps t (counted 1 st) h }

  values_fair : {A : Type 0} (es : List Expr) (f : List ℕ → Computation A) → ((ws : List ℕ) → Fair n (f ws)) → Fair n (values l entries es f)
  unfolding values
  values_fair [] f o = o []
  values_fair (e ∷ es) f o = valued_fair e (λ w. values l entries es (λ ws. f (w ∷ ws))) (λ w. values_fair es (λ ws. f (w ∷ ws)) (λ ws. o (w ∷ ws)))

  takes_fair : (slots ws : List ℕ) → Fair n (takes l entries slots ws)
  takes_fair slots ws = fair_need n (is_same (length slots) (length ws)) _ (fair_with n (with_slots (puts slots ws)) (gives tt) (λ st. refl) (fair_gives n tt))

  takes_first_fair : (slots ws : List ℕ) → Fair n (takes_first l entries slots ws)
  takes_first_fair slots ws = fair_need n (nat_le (length slots) (length ws)) _ (fair_with n (with_slots (puts slots ws)) (gives tt) (λ st. refl) (fair_gives n tt))

  worlds_fair : (o : Option World) → Fair n (worlds o)
  unfolding worlds
  worlds_fair None = record { keeps = λ t st h. (omega arith, refl) }
  worlds_fair (Some w) = record { keeps = λ t st h. (omega arith, refl) }

  does_fair : (o : Option Done) → Fair n (does o)
  unfolding does
  does_fair None = record { keeps = λ t st h. (omega arith, refl) }
  does_fair (Some w) = record { keeps = λ t st h. (omega arith, refl) }

  closes_fair : (f : Computation (Unit {0})) → Fair n f → Fair n (closes f)
  closes_fair f o = fair_and n f _ o (λ a. fair_with n counted_twice (gives tt) (λ st. refl) (fair_gives n tt))

  listed_fair : (f : Computation (Unit {0})) → Fair n f → Fair n (listed f)
  listed_fair f o = fair_with n (counted 1) (closes f) (λ st. refl) (closes_fair f o)

  into_fair : (others : Bool) (slots : List ℕ) (name ws : List ℕ) (f : Computation (Unit {0})) → Fair n f → Fair n (into_arm l entries others slots name ws f)
  unfolding into_arm
  into_fair true [] name ws f o = o
  into_fair true (slot ∷ slots) name ws f o = fair_with n (counted 1) _ (λ st. refl) (fair_and n _ (λ done. f) (takes_fair (slot ∷ slots) (l.name_word name ∷ [])) (λ a. o))
  into_fair false slots name ws f o = fair_with n (counted (length slots)) _ (λ st. refl) (fair_and n _ (λ done. f) (takes_first_fair slots ws) (λ a. o))

  call_end : (e : Ending) → Fair n (call_ending e)
  unfolding call_ending
  call_end (raised name ws) = fair_ends n (raised name ws)
  call_end broken = fair_ends n wrong
  call_end continued = fair_ends n wrong
  call_end (returned ws) = fair_ends n wrong
  call_end (signalled name ws) = fair_ends n wrong
  call_end (exited inside arm ws) = fair_ends n wrong
  call_end (through e) = fair_ends n wrong
  call_end wrong = fair_ends n wrong

  through_end : (e : Ending) → Fair n (loop_ending (through e))
  unfolding loop_ending
  through_end broken = fair_with n (counted 1) (gives tt) (λ st. refl) (fair_gives n tt)
  through_end (raised name ws) = fair_ends n (raised name ws)
  through_end continued = fair_ends n continued
  through_end (returned ws) = fair_ends n (returned ws)
  through_end (signalled name ws) = fair_ends n (signalled name ws)
  through_end (exited inside arm ws) = fair_ends n (exited inside arm ws)
  through_end (through e) = fair_ends n (through e)
  through_end wrong = fair_ends n wrong

  loop_end : (e : Ending) → Fair n (loop_ending e)
  unfolding loop_ending
  loop_end (through e) = through_end e
  loop_end (raised name ws) = fair_ends n (raised name ws)
  loop_end broken = fair_ends n wrong
  loop_end continued = fair_ends n wrong
  loop_end (returned ws) = fair_ends n wrong
  loop_end (signalled name ws) = fair_ends n wrong
  loop_end (exited inside arm ws) = fair_ends n wrong
  loop_end wrong = fair_ends n wrong

  body_end : (e : Ending) → Fair n (body_ending e)
  unfolding body_ending
  body_end continued = fair_with n counted_twice (gives tt) (λ st. refl) (fair_gives n tt)
  body_end wrong = fair_ends n wrong
  body_end broken = fair_ends n (through broken)
  body_end (returned ws) = fair_ends n (through (returned ws))
  body_end (signalled name ws) = fair_ends n (through (signalled name ws))
  body_end (raised name ws) = fair_ends n (through (raised name ws))
  body_end (exited inside arm ws) = fair_ends n (through (exited inside arm ws))
  body_end (through e) = fair_ends n (through (through e))

-- a body and an entry that spend what they are out of
abbrev pub FairBody : ℕ → Body → Type 0
FairBody n body = (now : ℕ) (ws : List ℕ) → Fair n (body now ws)

abbrev pub FairEntry : ℕ → Entry → Type 0
FairEntry n entry = (live : ℕ) (body : Body) → FairBody n body → (ws : List ℕ) → Fair n (entry live body ws)

module _ (n : ℕ) (l : Linked) (entries : ℕ → Entry) (entry : (w : ℕ) → FairEntry n (entries w)) where
  no_body_fair : FairBody n no_body
  no_body_fair now ws = fair_ends n wrong

  calls_fair : (live w : ℕ) (ws results : List ℕ) → Fair n (calls l entries live w ws results)
  calls_fair live w ws results = fair_sees n _ (λ before. fair_either_way n _ _ _ (fair_with n (begun []) _ (λ st. refl) (entry w live no_body no_body_fair ws))
      (λ given. fair_with n (λ st. counted (length results) (as_before before st)) _ (λ st. refl) (takes_fair n l entries results given))
      (λ e. fair_with n (as_before before) _ (λ st. refl) (call_end n l entries e)))

  iterates_fair : (live w : ℕ) (ws : List ℕ) (body : Body) → FairBody n body → Fair n (iterates l entries live w ws body)
  iterates_fair live w ws body o = fair_either_way n _ _ _ (fair_with n called_from _ (λ st. refl) (entry w live body o ws))
      (λ given. fair_with n (λ st. counted_twice (caller_of st)) _ (λ st. refl) (fair_gives n tt))
      (λ e. fair_with n caller_of _ (λ st. refl) (loop_end n l entries e))

  yields_fair : (live : ℕ) (body : Body) → FairBody n body → (ws : List ℕ) → Fair n (yields l entries live body ws)
  yields_fair live body o ws = fair_with n (counted 1) _ (λ st. refl) (fair_sees n _ (λ before. fair_either_way n _ _ _ (fair_with n (λ st. caller_of (rises (live + 16) st)) _ (λ st. refl) (o (live + 16) ws))
      (λ done. fair_with n (λ st. counted_twice (back_to before.slots st)) _ (λ st. refl) (fair_gives n tt))
      (λ e. fair_with n (back_to before.slots) _ (λ st. refl) (body_end n l entries e))))

  loops_fair : (body : Computation (Unit {0})) → Fair n body → Fair n (loops body)
  loops_fair body o = record { keeps = λ t st h. (loop_fair (suc t) n body (omega (arith, h)) o).keeps t st (omega arith) }

  resignals_fair : (names : List (List ℕ)) (e : Ending) → Fair n (resignals names e)
  unfolding resignals
  resignals_fair names (raised name ws) = fair_either n (list_any (bytes_eq name) names) _ _ (fair_with n counted_twice _ (λ st. refl) (fair_ends n (signalled name ws))) (fair_ends n (raised name ws))
  resignals_fair names broken = fair_ends n broken
  resignals_fair names continued = fair_ends n continued
  resignals_fair names (returned ws) = fair_ends n (returned ws)
  resignals_fair names (signalled name ws) = fair_ends n (signalled name ws)
  resignals_fair names (exited inside arm ws) = fair_ends n (exited inside arm ws)
  resignals_fair names (through e) = fair_ends n (through e)
  resignals_fair names wrong = fair_ends n wrong

  handled_fair : (raise : List ℕ → List ℕ → Computation (Unit {0})) (exit : ℕ → List ℕ → Computation (Unit {0})) → ((name ws : List ℕ) → Fair n (raise name ws)) → ((k : ℕ) (ws : List ℕ) → Fair n (exit k ws)) →
      (e : Ending) → Fair n (handled raise exit e)
  unfolding handled
  handled_fair raise exit p q (raised name ws) = p name ws
  handled_fair raise exit p q (exited zero arm ws) = q arm ws
  handled_fair raise exit p q (exited (suc inside) arm ws) = fair_ends n (exited inside arm ws)
  handled_fair raise exit p q broken = fair_ends n broken
  handled_fair raise exit p q continued = fair_ends n continued
  handled_fair raise exit p q (returned ws) = fair_ends n (returned ws)
  handled_fair raise exit p q (signalled name ws) = fair_ends n (signalled name ws)
  handled_fair raise exit p q (through e) = fair_ends n (through e)
  handled_fair raise exit p q wrong = fair_ends n wrong

  module _ (body : Body) (fair_body : FairBody n body) where
    mutual
      unfolding exec exec_all named_arm other_arm numbered_arm

      pub exec_fair : (live : ℕ) (s : Stmt) → Fair n (exec l entries body live s)
      exec_fair live (plain.set slot e) = valued_fair n l entries e _ (λ w. fair_with n (with_slots _) (gives tt) (λ st. refl) (fair_gives n tt))
      exec_fair live (plain.put address bytes e) = valued_fair n l entries e _ (λ w. valued_fair n l entries address _ (λ a. fair_sees n _ (λ st. worlds_fair n l entries _)))
      exec_fair live (plain.call routine es results) = values_fair n l entries es _ (λ ws. valued_fair n l entries routine _ (λ w. calls_fair live w ws results))
      exec_fair live (plain.prim number es results) = values_fair n l entries es _ (λ ws. fair_with n (counted (suc (length results))) _ (λ st. refl) (fair_sees n _ (λ st. fair_and n _ _ (does_fair n l entries _) (λ given. takes_fair n l entries results given))))
      exec_fair live (plain.bind number e slot) = valued_fair n l entries number _ (λ k. valued_fair n l entries e _ (λ w. fair_sees n _ (λ st. fair_and n _ _ (does_fair n l entries _) (λ given. takes_fair n l entries (slot ∷ []) given))))
      exec_fair live (plain.choose e first other) = valued_fair n l entries e _ (λ w. fair_with n (counted 1) _ (λ st. refl) (fair_either n (w == 0) _ _ (closes_fair n l entries _ (all_fair live other)) (closes_fair n l entries _ (all_fair live first))))
      exec_fair live (plain.loop inner) = loops_fair _ (all_fair live inner)
      exec_fair live plain.break_loop = fair_with n counted_twice _ (λ st. refl) (fair_ends n broken)
      exec_fair live plain.next_turn = fair_with n (counted 1) _ (λ st. refl) (fair_ends n continued)
      exec_fair live (plain.iterate routine es items inner) = values_fair n l entries es _ (λ ws. valued_fair n l entries routine _ (λ w. iterates_fair live w ws _
          (λ now given. fair_with n (counted (suc (length items))) _ (λ st. refl) (fair_and n _ _ (takes_fair n l entries items given) (λ done. all_fair now inner)))))
      exec_fair live (plain.yield_words es) = values_fair n l entries es _ (λ ws. yields_fair live body fair_body ws)
      exec_fair live (plain.raise_name name es) = fair_with n (counted 1) _ (λ st. refl) (values_fair n l entries es _ (λ ws. fair_with n (counted 1) _ (λ st. refl) (fair_ends n (raised name ws))))
      exec_fair live (plain.signal_name name es) = fair_with n (counted 1) _ (λ st. refl) (values_fair n l entries es _ (λ ws. fair_with n (counted 1) _ (λ st. refl) (fair_ends n (signalled name ws))))
      exec_fair live (plain.exit_to inside arm es) = values_fair n l entries es _ (λ ws. fair_with n (counted (suc (suc (length ws)))) _ (λ st. refl) (fair_ends n (exited inside arm ws)))
      exec_fair live (plain.guard inner arms) = fair_either_way n _ _ _ (all_fair live inner) (λ done. fair_with n counted_twice (gives tt) (λ st. refl) (fair_gives n tt))
          (handled_fair _ _ (λ name ws. named_fair live arms name ws _ (other_fair live arms name ws)) (λ k ws. numbered_fair live arms k ws))
      exec_fair live (plain.resignal inner names) = fair_either_way n _ _ _ (all_fair live inner) (λ done. fair_with n counted_twice (gives tt) (λ st. refl) (fair_gives n tt)) (resignals_fair names)
      exec_fair live (plain.leave_with es) = values_fair n l entries es _ (λ ws. fair_with n (counted 1) _ (λ st. refl) (fair_ends n (returned ws)))

      pub all_fair : (live : ℕ) (s : Stmts) → Fair n (exec_all l entries body live s)
      all_fair live no_stmts = fair_gives n tt
      all_fair live (stmt_and s rest) = fair_and n _ _ (fair_either n (is_around s) _ _ (exec_fair live s) (fair_takes n _ (exec_fair live s))) (λ done. all_fair live rest)

      named_fair : (live : ℕ) (arms : Arms) (name ws : List ℕ) (rest : Computation (Unit {0})) → Fair n rest → Fair n (named_arm l entries body live arms name ws rest)
      named_fair live no_arms name ws rest o = o
      named_fair live (arm_and names others slots inner more) name ws rest o =
          fair_either n (list_any (λ (k : List ℕ). bytes_eq k name) names) _ _ (fair_with n (counted 1) _ (λ st. refl) (into_fair n l entries others slots name ws _ (listed_fair n l entries _ (all_fair live inner)))) (named_fair live more name ws rest o)

      other_fair : (live : ℕ) (arms : Arms) (name ws : List ℕ) → Fair n (other_arm l entries body live arms name ws)
      other_fair live no_arms name ws = fair_ends n (raised name ws)
      other_fair live (arm_and names others slots inner more) name ws =
          fair_either n others _ _ (fair_with n (counted 1) _ (λ st. refl) (into_fair n l entries true slots name ws _ (listed_fair n l entries _ (all_fair live inner)))) (other_fair live more name ws)

      numbered_fair : (live : ℕ) (arms : Arms) (k : ℕ) (ws : List ℕ) → Fair n (numbered_arm l entries body live arms k ws)
      numbered_fair live no_arms k ws = fair_ends n wrong
      numbered_fair live (arm_and names others slots inner more) zero ws = fair_and n _ _ (takes_fair n l entries slots ws) (λ done. listed_fair n l entries _ (all_fair live inner))
      numbered_fair live (arm_and names others slots inner more) (suc k) ws = numbered_fair live more k ws

fails_as_fair : (n text : ℕ) (o : Option World) → Fair n (fails_as text o)
unfolding fails_as
fails_as_fair n text None = record { keeps = λ t st h. (omega arith, refl) }
fails_as_fair n text (Some w) = record { keeps = λ t st h. (omega arith, refl) }

fails_fair : (n : ℕ) (name ws : List ℕ) → Fair n (fails name ws)
unfolding fails
fails_fair n name ws = fair_either n (bytes_eq name failure_name) _ _ (fair_with n (counted 1) _ (λ st. refl) (fair_ends n (raised name ws))) (fair_sees n _ (λ st. fails_as_fair n st.world.next (with_string (unhandled_text name) st.world)))

routine_fair : (n : ℕ) (e : Ending) → Fair n (routine_ending e)
unfolding routine_ending
routine_fair n (returned ws) = fair_gives n ws
routine_fair n (signalled name ws) = fair_ends n (raised name ws)
routine_fair n (raised name ws) = fails_fair n name ws
routine_fair n (through e) = fair_ends n (through e)
routine_fair n broken = fair_ends n wrong
routine_fair n continued = fair_ends n wrong
routine_fair n (exited inside arm ws) = fair_ends n wrong
routine_fair n wrong = fair_ends n wrong

deed_fair : (n : ℕ) (l : Linked) (entries : ℕ → Entry) (deed : Deed) → Fair n (deed_done l entries deed)
unfolding deed_done
deed_fair n l entries (gives_value e) = valued_fair n l entries e _ (λ w. fair_gives n (w ∷ []))
deed_fair n l entries (puts_word address bytes e) = valued_fair n l entries e _ (λ w. valued_fair n l entries address _ (λ a. fair_sees n _ (λ st. fair_and n _ _ (worlds_fair n l entries _) (λ done. fair_gives n []))))

module _ (program : ℕ → Option Callee) where
  entered_fair : (n : ℕ) (o : Option Callee) (entries : ℕ → Entry) → ((w : ℕ) → FairEntry n (entries w)) → (live : ℕ) (body : Body) → FairBody n body → (ws : List ℕ) → Fair (suc n) (entered entries o live body ws)
  unfolding entered ends
  entered_fair n None entries ok live body fair ws = record { keeps = λ t st h. (omega arith, refl) }
  entered_fair n (Some (bare l deed)) entries ok live body fair ws = record {
    keeps = λ t st h.
        (fair_with (suc n) (with_slots (λ s. arguments ws)) _ (λ st. refl) (deed_fair (suc n) l entries deed)).keeps t st h;
  }
  entered_fair n (Some (framed r)) entries ok live body fair ws = record {
    keeps = λ t st h.
        (fair_need (suc n) (is_same r.args (length ws)) _ (fair_turn_up n _ (fair_with n (entering (inside live r) ws) _ (λ st. refl)
        (fair_either_way n _ _ _ (all_fair n r.linked entries ok body fair (inside live r) r.body) (λ done. fair_with n (counted 1) _ (λ st. refl) (fair_gives n [])) (routine_fair n))))).keeps t st h;
  }

  pub level_fair : (n w : ℕ) → FairEntry n (level program n w)
  unfolding level
  level_fair zero w live body fair ws = record { keeps = λ t st h. absurd (omega (arith, h)) }
  level_fair (suc n) w live body fair ws = record {
    keeps = λ t st h.
        (entered_fair n (program w) (level program n) (level_fair n) live body (λ now given. fair_less n (suc n) _ (omega arith) (fair now given)) ws).keeps t st h;
  }

  -- a program that is out of turns has spent all
  pub spent_all : (turns w live : ℕ) (ws : List ℕ) (st st' : State) → level program (suc turns) w live no_body ws turns st ≡ out_of_turns st' → st'.meters.spent ≡ turns + st.meters.spent
  spent_all turns w live ws st st' e =
      subst (λ (r : Result (List ℕ)). Kept turns (turns + st.meters.spent) r) e ((level_fair (suc turns) w live no_body (λ now given. fair_ends (suc turns) wrong) ws).keeps turns st (omega arith))

  pub run_spends : (start live : ℕ) (world : World) (turns : ℕ) (st : State) → run program start live world turns ≡ out_of_turns st → st.meters.spent ≡ turns
  run_spends start live world turns st e = spent_all turns start live [] (begun_in world) st e ∙ (let z : turns + 0 ≡ turns = omega arith in z)
