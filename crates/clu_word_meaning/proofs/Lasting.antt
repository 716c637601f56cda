-- With more turns a run is the same, or goes on from where it was out of turns; and output only grows.
use Rattle.std.proofs.Common.{◌≡◌, ℕ, zero, suc, ◌+◌, ◌%◌, ◌^◌, ◌<◌, ◌==◌, Bool, true, false, List, [], ◌∷◌, length, Option, None, Some, refl, subst, arith, slice_get}
use Rattle.std.specs.List.{list_any}
use Rattle.std.specs.Str.{bytes_eq}
use Rattle.std.specs.Prelude.{nat_le}
use Rattle.clu_wir.specs.Numbers.{primitives}
use Rattle.clu_wir.specs.Plain.{Arms, Deed, Expr, Stmt, Stmts, arm_and, gives_value, no_arms, no_stmts, puts_word, stmt_and}
use Rattle.clu_wir.specs.Plain as plain
use Rattle.clu_wir.specs.Traps.{trap_name}
use Rattle.clu_wir.specs.Value.{Gives, Raises, Stuck, Value, value}
use Rattle.clu_word_meaning.specs.Growing.{Front, Lasts, output_of}
use Rattle.clu_word_meaning.specs.World.{Done, World, bound, done, failure_name, grown, put_word, unhandled_text, with_string}
use Rattle.clu_word_meaning.specs.Words.{Body, Computation, Ending, Entry, Linked, State, as_before, back_to, begun, body_ending, broken, by_value, call_ending, called_from, caller_of, calls, closes, continue_either_way, continued, counted, counted_twice, does, either_way, ends, exec, exec_all, exited, gives, handled, into_arm, is_around, is_same, iterates, listed, loop_at, loop_ending, loops, named_arm, no_body, numbered_arm, other_arm, puts, raised, resignals, returned, rises, sees, signalled, takes, takes_first, through, valued, values, view, with_slots, worlds, wrong, yields}
use Rattle.clu_word_meaning.specs.Levels.{Callee, arguments, bare, begun_in, deed_done, entered, entering, fails, fails_as, framed, inside, level, no_entries, routine_ending, run, unentered}
use Rattle.clu_word_meaning.proofs.Going.{Goes, Kept, as_lasts, front_is, front_same, front_then, goes_and, goes_either, goes_either_way, goes_ends, goes_gives, goes_less, goes_need, goes_sees, goes_takes, goes_turn_up, goes_with, loop_goes, loop_grows}
use Rattle.clu_word_meaning.proofs.Writing.{bound_output, done_output, string_output, word_output}

module _ (n k : ℕ) where
  -- an act on the world
  pub put_goes : (a x : ℕ) → Goes n k (sees (λ st. worlds (put_word st.world a x))) (sees (λ st. worlds (put_word st.world a x)))
  unfolding sees worlds
  put_goes a x = record { grows = λ t st. grown (put_word st.world a x) t st (λ v e. front_is st.world.output v.output (word_output st.world v a x e)); lasts = λ t st l. lasting (put_word st.world a x) t st }
    where
      grown : (o : Option World) (t : ℕ) (st : State) → ((v : World) → o ≡ Some v → Front st.world.output v.output) → Front st.world.output (output_of (worlds o t st))
      grown None t st p = front_same st.world.output
      grown (Some v) t st p = p v refl

      lasting : (o : Option World) (t : ℕ) (st : State) → Kept t k (worlds o t st) (worlds o (t + k) st)
      lasting None t st = (omega arith, refl)
      lasting (Some v) t st = (omega arith, refl)

  -- an act on the world with results
  pub act_goes : {f : List ℕ → Computation (Unit {0})} (o : World → Option Done) → ((w : World) (d : Done) → o w ≡ Some d → Front w.output d.world.output) → ((ws : List ℕ) → Goes n k (f ws) (f ws)) →
      Goes n k (sees (λ st. either_way (does (o st.world)) f ends)) (sees (λ st. either_way (does (o st.world)) f ends))
  unfolding sees does either_way continue_either_way ends
  act_goes {f = f} o p q = record { grows = λ t st. grown (o st.world) t st (p st.world); lasts = λ t st l. lasting (o st.world) t st l }
    where
      grown : (r : Option Done) (t : ℕ) (st : State) → ((d : Done) → r ≡ Some d → Front st.world.output d.world.output) → Front st.world.output (output_of (either_way (does r) f ends t st))
      grown None t st h = front_same st.world.output
      grown (Some d) t st h = front_then st.world.output d.world.output _ (h d refl) ((q d.results).grows t _)

      lasting : (r : Option Done) (t : ℕ) (st : State) → t < n → Kept t k (either_way (does r) f ends t st) (either_way (does r) f ends (t + k) st)
      lasting None t st l = (omega arith, refl)
      lasting (Some d) t st l = (q d.results).lasts t _ l

module _ (n k : ℕ) (l : Linked) (entries entries' : ℕ → Entry) where
  value_goes : {A : Type 0} (v : Value) {f f' : ℕ → Computation A} → ((w : ℕ) → Goes n k (f w) (f' w)) → Goes n k (by_value l entries v f) (by_value l entries' v f')
  unfolding by_value
  value_goes (Gives w) o = o w
  value_goes (Raises t) o = goes_ends n k (raised (trap_name t) (l.trap_words t))
  value_goes Stuck o = goes_ends n k wrong

  valued_goes : {A : Type 0} (e : Expr) {f f' : ℕ → Computation A} → ((w : ℕ) → Goes n k (f w) (f' w)) → Goes n k (valued l entries e f) (valued l entries' e f')
  unfolding valued
  valued_goes e o = record {
    grows = λ t st. (value_goes (value (view l st.slots st.world) e) o).grows t (counted 1 st);
    lasts = λ t st h. (value_goes (value (view l st.slots st.world) e) o).lasts t (counted 1 st) h;
  }

  values_goes : {A : Type 0} (es : List Expr) {f f' : List ℕ → Computation A} → ((ws : List ℕ) → Goes n k (f ws) (f' ws)) → Goes n k (values l entries es f) (values l entries' es f')
  unfolding values
  values_goes [] o = o []
  values_goes (e ∷ es) o = valued_goes e (λ w. values_goes es (λ ws. o (w ∷ ws)))

  takes_goes : (slots ws : List ℕ) → Goes n k (takes l entries slots ws) (takes l entries' slots ws)
  takes_goes slots ws = goes_need n k (is_same (length slots) (length ws)) (goes_with n k (with_slots (puts slots ws)) (λ st. refl) (goes_gives n k tt))

  takes_first_goes : (slots ws : List ℕ) → Goes n k (takes_first l entries slots ws) (takes_first l entries' slots ws)
  takes_first_goes slots ws = goes_need n k (nat_le (length slots) (length ws)) (goes_with n k (with_slots (puts slots ws)) (λ st. refl) (goes_gives n k tt))

  closes_goes : {f f' : Computation (Unit {0})} → Goes n k f f' → Goes n k (closes f) (closes f')
  closes_goes o = goes_and n k o (λ a. goes_with n k counted_twice (λ st. refl) (goes_gives n k tt))

  listed_goes : {f f' : Computation (Unit {0})} → Goes n k f f' → Goes n k (listed f) (listed f')
  listed_goes o = goes_with n k (counted 1) (λ st. refl) (closes_goes o)

  into_goes : (others : Bool) (slots : List ℕ) (name ws : List ℕ) {f f' : Computation (Unit {0})} → Goes n k f f' → Goes n k (into_arm l entries others slots name ws f) (into_arm l entries' others slots name ws f')
  unfolding into_arm
  into_goes true [] name ws o = o
  into_goes true (slot ∷ slots) name ws o = goes_with n k (counted 1) (λ st. refl) (goes_and n k (takes_goes (slot ∷ slots) (l.name_word name ∷ [])) (λ a. o))
  into_goes false slots name ws o = goes_with n k (counted (length slots)) (λ st. refl) (goes_and n k (takes_first_goes slots ws) (λ a. o))

  call_end : (e : Ending) → Goes n k (call_ending e) (call_ending e)
  unfolding call_ending
  call_end (raised name ws) = goes_ends n k (raised name ws)
  call_end broken = goes_ends n k wrong
  call_end continued = goes_ends n k wrong
  call_end (returned ws) = goes_ends n k wrong
  call_end (signalled name ws) = goes_ends n k wrong
  call_end (exited inside arm ws) = goes_ends n k wrong
  call_end (through e) = goes_ends n k wrong
  call_end wrong = goes_ends n k wrong

  through_end : (e : Ending) → Goes n k (loop_ending (through e)) (loop_ending (through e))
  unfolding loop_ending
  through_end broken = goes_with n k (counted 1) (λ st. refl) (goes_gives n k tt)
  through_end (raised name ws) = goes_ends n k (raised name ws)
  through_end continued = goes_ends n k continued
  through_end (returned ws) = goes_ends n k (returned ws)
  through_end (signalled name ws) = goes_ends n k (signalled name ws)
  through_end (exited inside arm ws) = goes_ends n k (exited inside arm ws)
  through_end (through e) = goes_ends n k (through e)
  through_end wrong = goes_ends n k wrong

  loop_end : (e : Ending) → Goes n k (loop_ending e) (loop_ending e)
  unfolding loop_ending
  loop_end (through e) = through_end e
  loop_end (raised name ws) = goes_ends n k (raised name ws)
  loop_end broken = goes_ends n k wrong
  loop_end continued = goes_ends n k wrong
  loop_end (returned ws) = goes_ends n k wrong
  loop_end (signalled name ws) = goes_ends n k wrong
  loop_end (exited inside arm ws) = goes_ends n k wrong
  loop_end wrong = goes_ends n k wrong

  body_end : (e : Ending) → Goes n k (body_ending e) (body_ending e)
  unfolding body_ending
  body_end continued = goes_with n k counted_twice (λ st. refl) (goes_gives n k tt)
  body_end wrong = goes_ends n k wrong
  body_end broken = goes_ends n k (through broken)
  body_end (returned ws) = goes_ends n k (through (returned ws))
  body_end (signalled name ws) = goes_ends n k (through (signalled name ws))
  body_end (raised name ws) = goes_ends n k (through (raised name ws))
  body_end (exited inside arm ws) = goes_ends n k (through (exited inside arm ws))
  body_end (through e) = goes_ends n k (through (through e))

abbrev pub GoesBody : ℕ → ℕ → Body → Body → Type 0
GoesBody n k body body' = (now : ℕ) (ws : List ℕ) → Goes n k (body now ws) (body' now ws)

abbrev pub GoesEntry : ℕ → ℕ → Entry → Entry → Type 0
GoesEntry n k entry entry' = (live : ℕ) (body body' : Body) → GoesBody n k body body' → (ws : List ℕ) → Goes n k (entry live body ws) (entry' live body' ws)

module _ (n k : ℕ) (l : Linked) (entries entries' : ℕ → Entry) (entry : (w : ℕ) → GoesEntry n k (entries w) (entries' w)) where
  no_body_goes : GoesBody n k no_body no_body
  no_body_goes now ws = goes_ends n k wrong

  calls_goes : (live w : ℕ) (ws results : List ℕ) → Goes n k (calls l entries live w ws results) (calls l entries' live w ws results)
  calls_goes live w ws results = goes_sees n k (λ before. goes_either_way n k (goes_with n k (begun []) (λ st. refl) (entry w live no_body no_body no_body_goes ws))
      (λ given. goes_with n k (λ st. counted (length results) (as_before before st)) (λ st. refl) (takes_goes n k l entries entries' results given))
      (λ e. goes_with n k (as_before before) (λ st. refl) (call_end n k l entries entries' e)))

  iterates_goes : (live w : ℕ) (ws : List ℕ) (body body' : Body) → GoesBody n k body body' → Goes n k (iterates l entries live w ws body) (iterates l entries' live w ws body')
  iterates_goes live w ws body body' o = goes_either_way n k (goes_with n k called_from (λ st. refl) (entry w live body body' o ws))
      (λ given. goes_with n k (λ st. counted_twice (caller_of st)) (λ st. refl) (goes_gives n k tt))
      (λ e. goes_with n k caller_of (λ st. refl) (loop_end n k l entries entries' e))

  yields_goes : (live : ℕ) (body body' : Body) → GoesBody n k body body' → (ws : List ℕ) → Goes n k (yields l entries live body ws) (yields l entries' live body' ws)
  yields_goes live body body' o ws = goes_with n k (counted 1) (λ st. refl) (goes_sees n k (λ before. goes_either_way n k (goes_with n k (λ st. caller_of (rises (live + 16) st)) (λ st. refl) (o (live + 16) ws))
      (λ done. goes_with n k (λ st. counted_twice (back_to before.slots st)) (λ st. refl) (goes_gives n k tt))
      (λ e. goes_with n k (back_to before.slots) (λ st. refl) (body_end n k l entries entries' e))))

  loops_goes : {body body' : Computation (Unit {0})} → Goes n k body body' → Goes n k (loops body) (loops body')
  loops_goes {body = body} {body' = body'} o = record {
    grows = λ t st. loop_grows (suc t) body' o.grows t st;
    lasts = λ t st h. (let z : suc t + k ≡ suc (t + k) = omega arith in
        subst (λ u. Kept t k (loop_at (suc t) body t st) (loop_at u body' (t + k) st)) z ((loop_goes (suc t) n k (omega (arith, h)) o).lasts t st (omega arith)));
  }

  resignals_goes : (names : List (List ℕ)) (e : Ending) → Goes n k (resignals names e) (resignals names e)
  unfolding resignals
  resignals_goes names (raised name ws) = goes_either n k (list_any (bytes_eq name) names) (goes_with n k counted_twice (λ st. refl) (goes_ends n k (signalled name ws))) (goes_ends n k (raised name ws))
  resignals_goes names broken = goes_ends n k broken
  resignals_goes names continued = goes_ends n k continued
  resignals_goes names (returned ws) = goes_ends n k (returned ws)
  resignals_goes names (signalled name ws) = goes_ends n k (signalled name ws)
  resignals_goes names (exited inside arm ws) = goes_ends n k (exited inside arm ws)
  resignals_goes names (through e) = goes_ends n k (through e)
  resignals_goes names wrong = goes_ends n k wrong

  handled_goes : {raise raise' : List ℕ → List ℕ → Computation (Unit {0})} {exit exit' : ℕ → List ℕ → Computation (Unit {0})} → ((name ws : List ℕ) → Goes n k (raise name ws) (raise' name ws)) → ((j : ℕ) (ws : List ℕ) → Goes n k (exit j ws) (exit' j ws)) →
      (e : Ending) → Goes n k (handled raise exit e) (handled raise' exit' e)
  unfolding handled
  handled_goes p q (raised name ws) = p name ws
  handled_goes p q (exited zero arm ws) = q arm ws
  handled_goes p q (exited (suc inside) arm ws) = goes_ends n k (exited inside arm ws)
  handled_goes p q broken = goes_ends n k broken
  handled_goes p q continued = goes_ends n k continued
  handled_goes p q (returned ws) = goes_ends n k (returned ws)
  handled_goes p q (signalled name ws) = goes_ends n k (signalled name ws)
  handled_goes p q (through e) = goes_ends n k (through e)
  handled_goes p q wrong = goes_ends n k wrong

  module _ (body body' : Body) (goes_body : GoesBody n k body body') where
    mutual
      unfolding exec exec_all named_arm other_arm numbered_arm

      pub exec_goes : (live : ℕ) (s : Stmt) → Goes n k (exec l entries body live s) (exec l entries' body' live s)
      exec_goes live (plain.set slot e) = valued_goes n k l entries entries' e (λ w. goes_with n k (with_slots _) (λ st. refl) (goes_gives n k tt))
      exec_goes live (plain.put address bytes e) = valued_goes n k l entries entries' e (λ w. valued_goes n k l entries entries' address (λ a. put_goes n k ((a + bytes) % 2 ^ 64) w))
      exec_goes live (plain.call routine es results) = values_goes n k l entries entries' es (λ ws. valued_goes n k l entries entries' routine (λ w. calls_goes live w ws results))
      exec_goes live (plain.prim number es results) = values_goes n k l entries entries' es (λ ws. goes_with n k (counted (suc (length results))) (λ st. refl)
          (act_goes n k (λ w. done (slice_get primitives number) ws w) (λ w d e. done_output (slice_get primitives number) ws w d e) (λ given. takes_goes n k l entries entries' results given)))
      exec_goes live (plain.bind number e slot) = valued_goes n k l entries entries' number (λ j. valued_goes n k l entries entries' e (λ w.
          act_goes n k (λ v. bound j w v) (λ v d h. bound_output j w v d h) (λ given. takes_goes n k l entries entries' (slot ∷ []) given)))
      exec_goes live (plain.choose e first other) = valued_goes n k l entries entries' e (λ w. goes_with n k (counted 1) (λ st. refl)
          (goes_either n k (w == 0) (closes_goes n k l entries entries' (all_goes live other)) (closes_goes n k l entries entries' (all_goes live first))))
      exec_goes live (plain.loop inner) = loops_goes (all_goes live inner)
      exec_goes live plain.break_loop = goes_with n k counted_twice (λ st. refl) (goes_ends n k broken)
      exec_goes live plain.next_turn = goes_with n k (counted 1) (λ st. refl) (goes_ends n k continued)
      exec_goes live (plain.iterate routine es items inner) = values_goes n k l entries entries' es (λ ws. valued_goes n k l entries entries' routine (λ w. iterates_goes live w ws _ _
          (λ now given. goes_with n k (counted (suc (length items))) (λ st. refl) (goes_and n k (takes_goes n k l entries entries' items given) (λ done. all_goes now inner)))))
      exec_goes live (plain.yield_words es) = values_goes n k l entries entries' es (λ ws. yields_goes live body body' goes_body ws)
      exec_goes live (plain.raise_name name es) = goes_with n k (counted 1) (λ st. refl) (values_goes n k l entries entries' es (λ ws. goes_with n k (counted 1) (λ st. refl) (goes_ends n k (raised name ws))))
      exec_goes live (plain.signal_name name es) = goes_with n k (counted 1) (λ st. refl) (values_goes n k l entries entries' es (λ ws. goes_with n k (counted 1) (λ st. refl) (goes_ends n k (signalled name ws))))
      exec_goes live (plain.exit_to inside arm es) = values_goes n k l entries entries' es (λ ws. goes_with n k (counted (suc (suc (length ws)))) (λ st. refl) (goes_ends n k (exited inside arm ws)))
      exec_goes live (plain.guard inner arms) = goes_either_way n k (all_goes live inner) (λ done. goes_with n k counted_twice (λ st. refl) (goes_gives n k tt))
          (handled_goes (λ name ws. named_goes live arms name ws (other_goes live arms name ws)) (λ j ws. numbered_goes live arms j ws))
      exec_goes live (plain.resignal inner names) = goes_either_way n k (all_goes live inner) (λ done. goes_with n k counted_twice (λ st. refl) (goes_gives n k tt)) (resignals_goes names)
      exec_goes live (plain.leave_with es) = values_goes n k l entries entries' es (λ ws. goes_with n k (counted 1) (λ st. refl) (goes_ends n k (returned ws)))

      pub all_goes : (live : ℕ) (s : Stmts) → Goes n k (exec_all l entries body live s) (exec_all l entries' body' live s)
      all_goes live no_stmts = goes_gives n k tt
      all_goes live (stmt_and s rest) = goes_and n k (goes_either n k (is_around s) (exec_goes live s) (goes_takes n k (exec_goes live s))) (λ done. all_goes live rest)

      named_goes : (live : ℕ) (arms : Arms) (name ws : List ℕ) {rest rest' : Computation (Unit {0})} → Goes n k rest rest' → Goes n k (named_arm l entries body live arms name ws rest) (named_arm l entries' body' live arms name ws rest')
      named_goes live no_arms name ws o = o
      named_goes live (arm_and names others slots inner more) name ws o =
          goes_either n k (list_any (λ (j : List ℕ). bytes_eq j name) names) (goes_with n k (counted 1) (λ st. refl) (into_goes n k l entries entries' others slots name ws (listed_goes n k l entries entries' (all_goes live inner)))) (named_goes live more name ws o)

      other_goes : (live : ℕ) (arms : Arms) (name ws : List ℕ) → Goes n k (other_arm l entries body live arms name ws) (other_arm l entries' body' live arms name ws)
      other_goes live no_arms name ws = goes_ends n k (raised name ws)
      other_goes live (arm_and names others slots inner more) name ws =
          goes_either n k others (goes_with n k (counted 1) (λ st. refl) (into_goes n k l entries entries' true slots name ws (listed_goes n k l entries entries' (all_goes live inner)))) (other_goes live more name ws)

      numbered_goes : (live : ℕ) (arms : Arms) (j : ℕ) (ws : List ℕ) → Goes n k (numbered_arm l entries body live arms j ws) (numbered_arm l entries' body' live arms j ws)
      numbered_goes live no_arms j ws = goes_ends n k wrong
      numbered_goes live (arm_and names others slots inner more) zero ws = goes_and n k (takes_goes n k l entries entries' slots ws) (λ done. listed_goes n k l entries entries' (all_goes live inner))
      numbered_goes live (arm_and names others slots inner more) (suc j) ws = numbered_goes live more j ws

fails_goes : (n k : ℕ) (name ws : List ℕ) → Goes n k (fails name ws) (fails name ws)
unfolding fails fails_as sees
fails_goes n k name ws = goes_either n k (bytes_eq name failure_name) (goes_with n k (counted 1) (λ st. refl) (goes_ends n k (raised name ws)))
    (record {
      grows = λ t st. grown (with_string (unhandled_text name) st.world) t st (λ v e. front_is st.world.output v.output (string_output st.world v (unhandled_text name) e));
      lasts = λ t st l. lasting (with_string (unhandled_text name) st.world) st.world.next t st;
    })
  where
    grown : (o : Option World) (t : ℕ) (st : State) → ((v : World) → o ≡ Some v → Front st.world.output v.output) → Front st.world.output (output_of (fails_as st.world.next o t st))
    grown None t st p = front_same st.world.output
    grown (Some v) t st p = p v refl

    lasting : (o : Option World) (text t : ℕ) (st : State) → Kept t k (fails_as text o t st) (fails_as text o (t + k) st)
    lasting None text t st = (omega arith, refl)
    lasting (Some v) text t st = (omega arith, refl)

routine_goes : (n k : ℕ) (e : Ending) → Goes n k (routine_ending e) (routine_ending e)
unfolding routine_ending
routine_goes n k (returned ws) = goes_gives n k ws
routine_goes n k (signalled name ws) = goes_ends n k (raised name ws)
routine_goes n k (raised name ws) = fails_goes n k name ws
routine_goes n k (through e) = goes_ends n k (through e)
routine_goes n k broken = goes_ends n k wrong
routine_goes n k continued = goes_ends n k wrong
routine_goes n k (exited inside arm ws) = goes_ends n k wrong
routine_goes n k wrong = goes_ends n k wrong

put_then : (n k a w : ℕ) → Goes {A = List ℕ} n k (sees (λ st. either_way (worlds (put_word st.world a w)) (λ done. gives []) ends)) (sees (λ st. either_way (worlds (put_word st.world a w)) (λ done. gives []) ends))
unfolding sees either_way
put_then n k a w =
    let x = goes_and n k (put_goes n k a w) (λ done. goes_gives n k []) in
    record { grows = λ t st. x.grows t st; lasts = λ t st l. x.lasts t st l }

-- a routine without a frame does the same at all levels
deed_goes : (n k : ℕ) (l : Linked) (entries entries' : ℕ → Entry) (deed : Deed) → Goes n k (deed_done l entries deed) (deed_done l entries' deed)
unfolding deed_done
deed_goes n k l entries entries' (gives_value e) = valued_goes n k l entries entries' e (λ w. goes_gives n k (w ∷ []))
deed_goes n k l entries entries' (puts_word address bytes e) = valued_goes n k l entries entries' e (λ w. valued_goes n k l entries entries' address (λ a. put_then n k ((a + bytes) % 2 ^ 64) w))

module _ (program : ℕ → Option Callee) where
  entered_goes : (n k : ℕ) (o : Option Callee) (entries entries' : ℕ → Entry) → ((w : ℕ) → GoesEntry n k (entries w) (entries' w)) → (live : ℕ) (body body' : Body) → GoesBody n k body body' → (ws : List ℕ) →
      Goes (suc n) k (entered entries o live body ws) (entered entries' o live body' ws)
  unfolding entered ends
  entered_goes n k None entries entries' ok live body body' o ws = record { grows = λ t st. front_same st.world.output; lasts = λ t st l. (omega arith, refl) }
  entered_goes n k (Some (bare l deed)) entries entries' ok live body body' o ws =
      let x = goes_with (suc n) k (with_slots (λ s. arguments ws)) (λ st. refl) (deed_goes (suc n) k l entries entries' deed) in
      record { grows = λ t st. x.grows t st; lasts = λ t st l. x.lasts t st l }
  entered_goes n k (Some (framed r)) entries entries' ok live body body' o ws =
      let x = goes_need (suc n) k (is_same r.args (length ws)) (goes_turn_up n k (goes_with n k (entering (inside live r) ws) (λ st. refl)
      (goes_either_way n k (all_goes n k r.linked entries entries' ok body body' o (inside live r) r.body) (λ done. goes_with n k (counted 1) (λ st. refl) (goes_gives n k [])) (routine_goes n k)))) in
      record { grows = λ t st. x.grows t st; lasts = λ t st l. x.lasts t st l }

  unentered_grows : (o : Option Callee) (live : ℕ) (body : Body) (ws : List ℕ) (t : ℕ) (st : State) → Front st.world.output (output_of (unentered o live body ws t st))
  unfolding unentered ends
  unentered_grows None live body ws t st = front_same st.world.output
  unentered_grows (Some (framed r)) live body ws t st = front_same st.world.output
  unentered_grows (Some (bare l deed)) live body ws t st = (goes_with 0 0 (with_slots (λ s. arguments ws)) (λ st. refl) (deed_goes 0 0 l no_entries no_entries deed)).grows t st

  -- a body that only grows
  abbrev BodyGrows : Body → Type 0
  BodyGrows body = (now : ℕ) (ws : List ℕ) (t : ℕ) (st : State) → Front st.world.output (output_of (body now ws t st))

  without : {A : Type 0} {f g : Computation A} → ((t : ℕ) (st : State) → Front st.world.output (output_of (g t st))) → Goes 0 0 f g
  without h = record { grows = h; lasts = λ t st l. absurd (omega (arith, l)) }

  level_grows : (m w live : ℕ) (body : Body) → BodyGrows body → (ws : List ℕ) (t : ℕ) (st : State) → Front st.world.output (output_of (level program m w live body ws t st))
  unfolding level
  level_grows zero w live body o ws t st = unentered_grows (program w) live body ws t st
  level_grows (suc m) w live body o ws t st =
      (entered_goes 0 0 (program w) (level program m) (level program m) (λ v now first second h given. without (level_grows m v now second (λ n x. (h n x).grows) given)) live body body (λ now given. without (o now given)) ws).grows t st

  level_goes : (n k w : ℕ) → GoesEntry n k (level program n w) (level program (n + k) w)
  unfolding level
  level_goes zero k w live body body' o ws = record { grows = level_grows (zero + k) w live body' (λ now given. (o now given).grows) ws; lasts = λ t st l. absurd (omega (arith, l)) }
  level_goes (suc n) k w live body body' o ws =
      let x = entered_goes n k (program w) (level program n) (level program (n + k)) (level_goes n k) live body body' (λ now given. goes_less n (suc n) k (omega arith) (o now given)) ws in
      let z : suc (n + k) ≡ suc n + k = omega arith in
      subst (λ u. Goes (suc n) k (level program (suc n) w live body ws) (level program u w live body' ws)) z (record { grows = λ t st. x.grows t st; lasts = λ t st l. x.lasts t st l })

  -- no turns are left but those that a computation leaves, so a program goes on alike with more of them
  pub run_lasts : (start live : ℕ) (world : World) (turns k : ℕ) → Lasts k (run program start live world turns) (run program start live world (turns + k))
  run_lasts start live world turns k =
      let z : suc turns + k ≡ suc (turns + k) = omega arith in
      as_lasts turns k _ _ (subst (λ u. Kept turns k (run program start live world turns) (level program u start live no_body [] (turns + k) (begun_in world))) z
      ((level_goes (suc turns) k start live no_body no_body (λ now given. goes_ends (suc turns) k wrong) []).lasts turns (begun_in world) (omega arith)))

  pub run_grows : (start live : ℕ) (world : World) (turns : ℕ) → Front world.output (output_of (run program start live world turns))
  run_grows start live world turns = level_grows (suc turns) start live no_body (λ now given. (goes_ends 0 0 wrong).grows) [] turns (begun_in world)
