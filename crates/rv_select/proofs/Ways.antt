-- What an expression inside becomes, and a jump on the word of an operation.
use Rattle.std.proofs.Common.{◌≡◌, Bool, ap, subst, sym}
use Rattle.clu_wir.specs.declared.expression.WExpr.{WExpr, WExpr-F, fold-roll-WExpr, fold_out-WExpr, map-WExpr, out-WExpr, roll-WExpr}
use Rattle.clu_wir.specs.Plain.{Expr, expr_of, expr_step}
use Rattle.clu_wir.specs.declared.expression.WOp.{WOp}
use Rattle.rv_select.specs.declared.conditions.Target.{Target}
use Rattle.rv_select.specs.declared.knowing.Way.{Way}
use Rattle.rv_select.specs.declared.knowing.Way.TheVariants as way
use Rattle.rv_select.specs.declared.operand.Scope.{Scope}
use Rattle.rv_select.specs.Evaluation.{Part, binary, binary_plain, jump_by, plain_jump, way_of}
use Rattle.rv_select.specs.Written.{Written}

pub expr_roll : (x : WExpr-F WExpr) → expr_of (roll-WExpr x) ≡ expr_step (map-WExpr WExpr Expr expr_of x)
expr_roll = fold-roll-WExpr Expr expr_step

pub expr_out : (e : WExpr) → expr_of e ≡ expr_step (map-WExpr WExpr Expr expr_of (out-WExpr e))
expr_out = fold_out-WExpr Expr expr_step

pub jump_by_word : (p l r : Part) (o : WOp) (s : Scope) (sense : Bool) (t : Target) (w : Written) → p ≡ binary o l r → way.Word ≡ way_of o l r s
    → p.jump sense t s w ≡ plain_jump p sense t s w
jump_by_word p l r o s sense t w is word =
    subst (λ (q : Part). q.jump sense t s w ≡ plain_jump q sense t s w) (sym is)
    (ap (λ (y : Way). jump_by y o l r (plain_jump (binary_plain o l r) sense t s) sense t s w) (sym word))
