-- Word code as plain trees: of two copies of an expression or a statement, which differ in the memory that they lie in, the
-- trees are equal. What word code means is a function of them.
use Rattle.std.specs.Prelude.{ℕ, Bool, List, [], ◌∷◌, map}
use Rattle.clu_wir.specs.declared.hole.HoleKind.{HoleKind}
use Rattle.clu_wir.specs.declared.trap.Trap.{Trap}
use Rattle.clu_wir.specs.declared.expression.WOp.{WOp}
use Rattle.clu_wir.specs.declared.expression.WExpr.{WExpr, WExpr-F, fold-WExpr}
use Rattle.clu_wir.specs.declared.statement.WStmt.{WStmt, WStmt-F, fold-WStmt}
use Rattle.clu_wir.specs.declared.statement.WArm.{WArm, WArm-F, fold-WArm}
use Rattle.clu_wir.specs.declared.routine.WDeed.{WDeed}
use Rattle.clu_wir.specs.declared.routine.WDeed.TheVariants as deed

-- Expressions.

mutual
  pub data Expr : Type 0 where
    slot : ℕ → Expr
    word : ℕ → Expr
    hole : HoleKind → ℕ → Expr
    load : Expr → ℕ → Expr
    byte : Expr → Expr
    binary : WOp → Expr → Expr → Expr
    choice : Expr → Expr → Expr → Expr
    check : Expr → Trap → Expr → Expr
    binding : Exprs → Expr → Expr
    bound : ℕ → Expr

  pub data Exprs : Type 0 where
    no_exprs : Exprs
    expr_and : Expr → Exprs → Exprs

abbrev pub exprs_of : List Expr → Exprs
exprs_of [] = no_exprs
exprs_of (e ∷ es) = expr_and e (exprs_of es)

abbrev pub expr_step : WExpr-F Expr → Expr
expr_step (WExpr-F.Slot n) = slot n
expr_step (WExpr-F.Word w) = word w
expr_step (WExpr-F.Hole kind number) = hole kind number
expr_step (WExpr-F.Load address bytes) = load address.value bytes
expr_step (WExpr-F.Byte address) = byte address.value
expr_step (WExpr-F.Binary op left right) = binary op left.value right.value
expr_step (WExpr-F.If condition first other) = choice condition.value first.value other.value
expr_step (WExpr-F.Check condition trap value) = check condition.value trap value.value
expr_step (WExpr-F.With values body) = binding (exprs_of values.items) body.value
expr_step (WExpr-F.Bound number) = bound number

abbrev pub expr_of : WExpr → Expr
expr_of = fold-WExpr Expr expr_step

-- Statements.

mutual
  pub data Stmt : Type 0 where
    set : ℕ → Expr → Stmt
    put : Expr → ℕ → Expr → Stmt
    call : Expr → List Expr → List ℕ → Stmt
    prim : ℕ → List Expr → List ℕ → Stmt
    bind : Expr → Expr → ℕ → Stmt
    choose : Expr → Stmts → Stmts → Stmt
    loop : Stmts → Stmt
    break_loop next_turn : Stmt
    iterate : Expr → List Expr → List ℕ → Stmts → Stmt
    yield_words : List Expr → Stmt
    raise_name signal_name : List ℕ → List Expr → Stmt
    exit_to : ℕ → ℕ → List Expr → Stmt
    guard : Stmts → Arms → Stmt
    resignal : Stmts → List (List ℕ) → Stmt
    leave_with : List Expr → Stmt

  pub data Stmts : Type 0 where
    no_stmts : Stmts
    stmt_and : Stmt → Stmts → Stmts

  pub data Arms : Type 0 where
    no_arms : Arms
    arm_and : (names : List (List ℕ)) → (others : Bool) → (slots : List ℕ) → Stmts → Arms → Arms

pub record OneArm : Type 0 where
  pub names : List (List ℕ)
  pub others : Bool
  pub slots : List ℕ
  pub body : Stmts

abbrev pub stmts_of : List Stmt → Stmts
stmts_of [] = no_stmts
stmts_of (s ∷ ss) = stmt_and s (stmts_of ss)

abbrev pub arms_of : List OneArm → Arms
arms_of [] = no_arms
arms_of (a ∷ more) = arm_and a.names a.others a.slots a.body (arms_of more)

abbrev pub stmt_step : WStmt-F Stmt OneArm → Stmt
stmt_step (WStmt-F.Set to value) = set to (expr_of value)
stmt_step (WStmt-F.Put address bytes value) = put (expr_of address) bytes (expr_of value)
stmt_step (WStmt-F.Call routine values results) = call (expr_of routine) (map expr_of values.items) results.items
stmt_step (WStmt-F.Prim number values results) = prim number (map expr_of values.items) results.items
stmt_step (WStmt-F.Bind number value to) = bind (expr_of number) (expr_of value) to
stmt_step (WStmt-F.If condition first other) = choose (expr_of condition) (stmts_of first.items) (stmts_of other.items)
stmt_step (WStmt-F.Loop body) = loop (stmts_of body.items)
stmt_step WStmt-F.Break = break_loop
stmt_step WStmt-F.Continue = next_turn
stmt_step (WStmt-F.Iterate routine values items body) = iterate (expr_of routine) (map expr_of values.items) items.items (stmts_of body.items)
stmt_step (WStmt-F.Yield words) = yield_words (map expr_of words.items)
stmt_step (WStmt-F.Raise name objects) = raise_name name (map expr_of objects.items)
stmt_step (WStmt-F.Signal name objects) = signal_name name (map expr_of objects.items)
stmt_step (WStmt-F.Exit inside arm words) = exit_to inside arm (map expr_of words.items)
stmt_step (WStmt-F.Guard body arms) = guard (stmts_of body.items) (arms_of arms.items)
stmt_step (WStmt-F.Resignal body names) = resignal (stmts_of body.items) names.items
stmt_step (WStmt-F.Return results) = leave_with (map expr_of results.items)

abbrev pub arm_step : WArm-F Stmt OneArm → OneArm
arm_step arm = record { names = arm.names.items; others = arm.others; slots = arm.slots.items; body = stmts_of arm.body.items }

abbrev pub stmt_of : WStmt → Stmt
stmt_of = fold-WStmt Stmt OneArm stmt_step arm_step

abbrev pub arm_of : WArm → OneArm
arm_of = fold-WArm Stmt OneArm stmt_step arm_step

abbrev pub body_of : List WStmt → Stmts
body_of body = stmts_of (map stmt_of body)

-- Routines without a frame.

pub data Deed : Type 0 where
  gives_value : Expr → Deed
  puts_word : Expr → ℕ → Expr → Deed

abbrev pub deed_of : WDeed → Deed
deed_of (deed.Value value) = gives_value (expr_of value)
deed_of (deed.Put address bytes value) = puts_word (expr_of address) bytes (expr_of value)
