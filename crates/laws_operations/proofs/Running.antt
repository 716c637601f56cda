-- One statement of word code and then the rest.
use Rattle.std.proofs.Common.{◌≡◌, List, ℕ, suc, ◌+◌, ◌*◌, ◌%◌, ◌^◌, [], ◌∷◌, Some, refl}
use Rattle.clu_wir.specs.Plain.{Expr, Stmts, leave_with, no_stmts, stmt_and}
use Rattle.clu_wir.specs.Plain as plain
use Rattle.clu_wir.specs.Value.{Gives, value}
use Rattle.clu_word_meaning.specs.World.{World, done, grown, put_word}
use Rattle.clu_word_meaning.specs.Words.{Body, Computation, Entry, Linked, State, by_value, continue_either_way, counted, counted_twice, does, either, either_way, ended, ends, exec, exec_all, gives, need, put_slot, puts, returned, sees, signalled, stores, takes_a_turn, turned, valued, values, view, with_slots, with_state, with_world, worlds}

module _ (l : Linked) (entries : ℕ → Entry) (body : Body) (live : ℕ) where
  abbrev pub run : Stmts → Computation (Unit {0})
  run ss = exec_all l entries body live ss

  -- a word is put
  pub put_step : (st : State) (turns bytes a w : ℕ) (address e : Expr) (rest : Stmts) (after : World) → value (view l st.slots st.world) e ≡ Gives w → value (view l st.slots st.world) address ≡ Gives a →
      put_word st.world ((a + bytes) % 2 ^ 64) w ≡ Some after →
      run (stmt_and (plain.put address bytes e) rest) (suc turns) st ≡ run rest turns (with_world after (counted 1 (counted 1 (turned st))))
  unfolding exec_all exec either_way continue_either_way either takes_a_turn valued by_value sees worlds
  put_step st turns bytes a w address e rest after p q r = rw (p, q, r) refl

  -- words of the store are taken
  pub allocate_step : (st : State) (turns to n : ℕ) (e : Expr) (rest : Stmts) → value (view l st.slots st.world) e ≡ Gives n →
      run (stmt_and (plain.prim 0 (e ∷ []) (to ∷ [])) rest) (suc turns) st ≡
      run rest turns (with_slots (put_slot to st.world.next) (stores (grown (n * 8) st.world).next (with_world (grown (n * 8) st.world) (counted 2 (counted 1 (turned st))))))
  unfolding exec_all exec either_way continue_either_way either takes_a_turn valued values by_value sees with_state does done need puts gives
  allocate_step st turns to n e rest p = rw p refl

  -- the routine returns a word
  pub leave_step : (st : State) (turns w : ℕ) (e : Expr) (rest : Stmts) → value (view l st.slots st.world) e ≡ Gives w →
      run (stmt_and (leave_with (e ∷ [])) rest) (suc turns) st ≡ ended (returned (w ∷ [])) turns (counted 1 (counted 1 (turned st)))
  unfolding exec_all exec either_way continue_either_way either takes_a_turn valued values by_value with_state ends
  leave_step st turns w e rest p = rw p refl

  -- the routine returns nothing
  pub leave_nothing : (st : State) (turns : ℕ) (rest : Stmts) → run (stmt_and (leave_with []) rest) (suc turns) st ≡ ended (returned []) turns (counted 1 (turned st))
  unfolding exec_all exec either_way continue_either_way either takes_a_turn values with_state ends
  leave_nothing st turns rest = refl

  -- a test that isn't so
  pub skip_step : (st : State) (turns : ℕ) (test : Expr) (first rest : Stmts) → value (view l st.slots st.world) test ≡ Gives 0 →
      run (stmt_and (plain.choose test first no_stmts) rest) (suc turns) st ≡ run rest turns (counted_twice (counted 1 (counted 1 (turned st))))
  unfolding exec_all exec either_way continue_either_way either takes_a_turn valued by_value with_state gives
  skip_step st turns test first rest p = rw p refl

  -- a test that is so, with an exception of one word
  pub signal_step : (st : State) (turns w : ℕ) (test e : Expr) (name : List ℕ) (rest : Stmts) → value (view l st.slots st.world) test ≡ Gives 1 → value (view l st.slots st.world) e ≡ Gives w →
      run (stmt_and (plain.choose test (stmt_and (plain.signal_name name (e ∷ [])) no_stmts) no_stmts) rest) (suc (suc turns)) st ≡
      ended (signalled name (w ∷ [])) turns (counted 1 (counted 1 (counted 1 (turned (counted 1 (counted 1 (turned st)))))))
  unfolding exec_all exec either_way continue_either_way either takes_a_turn valued values by_value with_state ends
  signal_step st turns w test e name rest p q = rw (p, q) refl
