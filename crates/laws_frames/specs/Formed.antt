-- Word code over plain trees that is well formed: of what stands round a statement, and of the names that it has.
use Rattle.std.specs.Prelude.{ℕ, Bool, true, ◌&&◌, List, [], ◌∷◌, length, slice_get}
use Rattle.clu_wir.specs.Formed.{Standing, has_arm, in_a_guard, in_a_loop, is_named}
use Rattle.clu_wir.specs.Plain.{Arms, Stmt, Stmts, arm_and, no_arms, no_stmts, stmt_and}
use Rattle.clu_wir.specs.Plain as plain

-- how many slots each arm has
abbrev pub counts_in : Arms → List ℕ
counts_in no_arms = []
counts_in (arm_and names others slots body more) = length slots ∷ counts_in more

-- breaks and next turns stand in loops, exits lead to arms that are there, and what is raised has a constant for its name
abbrev mutual
  pub forms : Standing → Stmt → Bool
  forms s (plain.set to e) = true
  forms s (plain.put address bytes e) = true
  forms s (plain.call routine es results) = true
  forms s (plain.prim number es results) = true
  forms s (plain.bind number e to) = true
  forms s (plain.choose e first other) = all_form s first && all_form s other
  forms s (plain.loop body) = all_form (in_a_loop s) body
  forms s plain.break_loop = s.in_loop
  forms s plain.next_turn = s.in_loop
  forms s (plain.iterate routine es items body) = all_form (in_a_loop s) body
  forms s (plain.yield_words es) = true
  forms s (plain.raise_name name es) = is_named name s
  forms s (plain.signal_name name es) = is_named name s
  forms s (plain.exit_to inside arm es) = has_arm arm (length es) (slice_get s.guards inside)
  forms s (plain.guard body arms) = all_form (in_a_guard (counts_in arms) s) body && arms_form s arms
  forms s (plain.resignal body names) = all_form s body
  forms s (plain.leave_with es) = true

  pub all_form : Standing → Stmts → Bool
  all_form s no_stmts = true
  all_form s (stmt_and x rest) = forms s x && all_form s rest

  pub arms_form : Standing → Arms → Bool
  arms_form s no_arms = true
  arms_form s (arm_and names others slots body more) = all_form s body && arms_form s more

-- Each name that is raised, signalled or handled.

abbrev pub EachName : (List ℕ → Type 0) → List (List ℕ) → Type 0
EachName P [] = Unit {0}
EachName P (name ∷ names) = P name × EachName P names

abbrev mutual
  pub Names : (List ℕ → Type 0) → Stmt → Type 0
  Names P (plain.choose e first other) = AllNames P first × AllNames P other
  Names P (plain.loop body) = AllNames P body
  Names P (plain.iterate routine es items body) = AllNames P body
  Names P (plain.raise_name name es) = P name
  Names P (plain.signal_name name es) = P name
  Names P (plain.guard body arms) = AllNames P body × ArmNames P arms
  Names P (plain.resignal body names) = AllNames P body × EachName P names
  Names P _ = Unit {0}

  pub AllNames : (List ℕ → Type 0) → Stmts → Type 0
  AllNames P no_stmts = Unit {0}
  AllNames P (stmt_and x rest) = Names P x × AllNames P rest

  pub ArmNames : (List ℕ → Type 0) → Arms → Type 0
  ArmNames P no_arms = Unit {0}
  ArmNames P (arm_and names others slots body more) = EachName P names × AllNames P body × ArmNames P more
