-- Where a program stops that is out of turns: before a statement of a list, as the state is there.
use Rattle.std.proofs.Common.{◌≡◌, ℕ, zero, false, refl, sym, subst}
use Rattle.clu_wir.specs.Plain.{Arms, Stmt, Stmts, stmt_and}
use Rattle.clu_wir.specs.Plain as plain
use Rattle.clu_word_meaning.specs.Words.{Body, Entry, Linked, Result, State, continue_either_way, either, either_way, ends, exec, exec_all, guard_done, handled, is_around, named_arm, numbered_arm, other_arm, out_of_turns, takes_a_turn}

module _ (l : Linked) (entries : ℕ → Entry) (body : Body) (live : ℕ) where
  pub stops : (s : Stmt) (rest : Stmts) (st : State) → is_around s ≡ false → exec_all l entries body live (stmt_and s rest) zero st ≡ out_of_turns st
  unfolding exec_all either either_way continue_either_way takes_a_turn
  stops s rest st e =
      subst (λ b. continue_either_way (λ done. exec_all l entries body live rest) ends (either b (exec l entries body live s) (takes_a_turn (exec l entries body live s)) zero st) ≡ out_of_turns st) (sym e) refl

  -- with a guard round it, at the same place
  pub stops_in_guard : (s : Stmt) (more rest : Stmts) (arms : Arms) (st : State) → is_around s ≡ false → exec_all l entries body live (stmt_and (plain.guard (stmt_and s more) arms) rest) zero st ≡ out_of_turns st
  unfolding exec exec_all either either_way continue_either_way takes_a_turn
  stops_in_guard s more rest arms st e =
      subst (λ (r : Result (Unit {0})). continue_either_way (λ done. exec_all l entries body live rest) ends (continue_either_way {A = Unit {0}} {B = Unit {0}} (λ done. guard_done) (handled (λ name ws. named_arm l entries body live arms name ws (other_arm l entries body live arms name ws)) (numbered_arm l entries body live arms)) r) ≡ out_of_turns st) (sym (stops s more st e)) refl
