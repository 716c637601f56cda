-- Whether word code names the slots of its routine alone.
use Rattle.std.specs.Prelude.{ℕ, Bool, true, false, ◌&&◌, List, [], ◌∷◌, length, nat_lt, nat_le}
use Rattle.clu_wir.specs.Plain.{Arms, Expr, Exprs, Stmt, Stmts, arm_and, body_of, expr_and, exprs_of, no_arms, no_exprs, no_stmts, stmt_and}
use Rattle.clu_wir.specs.Plain as plain
use Rattle.clu_wir.specs.declared.routine.WRoutine.{WRoutine}

-- Expressions.

abbrev mutual
  pub is_kept : ℕ → Expr → Bool
  is_kept slots (plain.slot n) = nat_lt n slots
  is_kept slots (plain.word w) = true
  is_kept slots (plain.hole kind number) = true
  is_kept slots (plain.load e bytes) = is_kept slots e
  is_kept slots (plain.byte e) = is_kept slots e
  is_kept slots (plain.binary op left right) = is_kept slots left && is_kept slots right
  is_kept slots (plain.choice e first other) = is_kept slots e && (is_kept slots first && is_kept slots other)
  is_kept slots (plain.check e trap value) = is_kept slots e && is_kept slots value
  is_kept slots (plain.binding values body) = are_kept slots values && is_kept slots body
  is_kept slots (plain.bound n) = true

  pub are_kept : ℕ → Exprs → Bool
  are_kept slots no_exprs = true
  are_kept slots (expr_and e es) = is_kept slots e && are_kept slots es

abbrev pub all_kept : ℕ → List Expr → Bool
all_kept slots es = are_kept slots (exprs_of es)

-- numbers of slots
abbrev pub are_slots : ℕ → List ℕ → Bool
are_slots slots [] = true
are_slots slots (n ∷ ns) = nat_lt n slots && are_slots slots ns

-- Statements. An arm for all others has no names, and at most one slot.

abbrev pub is_none : {A : Type 0} → List A → Bool
is_none [] = true
is_none (x ∷ xs) = false

abbrev pub is_arm : Bool → List (List ℕ) → List ℕ → Bool
is_arm true names slots = is_none names && nat_le (length slots) 1
is_arm false names slots = true

unfoldable mutual
  pub keeps : ℕ → Stmt → Bool
  keeps n (plain.set to e) = nat_lt to n && is_kept n e
  keeps n (plain.put address bytes e) = is_kept n address && is_kept n e
  keeps n (plain.call routine es results) = is_kept n routine && (all_kept n es && are_slots n results)
  keeps n (plain.prim number es results) = all_kept n es && are_slots n results
  keeps n (plain.bind number e to) = is_kept n number && (is_kept n e && nat_lt to n)
  keeps n (plain.choose e first other) = is_kept n e && (all_keep n first && all_keep n other)
  keeps n (plain.loop body) = all_keep n body
  keeps n plain.break_loop = true
  keeps n plain.next_turn = true
  keeps n (plain.iterate routine es items body) = is_kept n routine && (all_kept n es && (are_slots n items && all_keep n body))
  keeps n (plain.yield_words es) = all_kept n es
  keeps n (plain.raise_name name es) = all_kept n es
  keeps n (plain.signal_name name es) = all_kept n es
  keeps n (plain.exit_to inside arm es) = all_kept n es
  keeps n (plain.guard body arms) = all_keep n body && arms_keep n arms
  keeps n (plain.resignal body names) = all_keep n body
  keeps n (plain.leave_with es) = all_kept n es

  pub all_keep : ℕ → Stmts → Bool
  all_keep n no_stmts = true
  all_keep n (stmt_and s rest) = keeps n s && all_keep n rest

  pub arms_keep : ℕ → Arms → Bool
  arms_keep n no_arms = true
  arms_keep n (arm_and names others slots body more) = is_arm others names slots && (are_slots n slots && (all_keep n body && arms_keep n more))

-- its arguments are in its first slots
abbrev pub keeps_slots : WRoutine → Bool
keeps_slots r = nat_le r.args r.slots && all_keep r.slots (body_of r.body.items)
