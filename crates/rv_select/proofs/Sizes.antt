-- The words that are counted of an expression where its parts are told.
use Rattle.std.proofs.Common.{◌≡◌, ℕ, List, [], ◌∷◌, map, refl, ap, sym, subst}
use Rattle.clu_wir.specs.declared.expression.WExpr.{WExpr, WExpr-F, fold-roll-WExpr, ind-WExpr, map-WExpr, roll-WExpr}
use Rattle.clu_wir.specs.Plain.{Expr, expr_of, expr_step, exprs_of}
use Rattle.clu_wir.specs.Rooms.{plus, words_of, words_step}
use Rattle.rv_select.specs.Evaluation.{Part, part_of, parts_of}

abbrev SameWords : WExpr → Type 0
SameWords e = (part_of (expr_of e)).words ≡ words_of e

abbrev One : Type 0
One = (e : WExpr) × SameWords e

abbrev expr : One → WExpr
expr e = e.0

all_same : (es : List One) → map (λ (p : Part). p.words) (parts_of (exprs_of (map expr_of (map expr es)))) ≡ map words_of (map expr es)
all_same [] = refl
all_same (e ∷ es) = rw (e.1, all_same es) refl

abbrev AtLayer : WExpr-F WExpr → Type 0
AtLayer z = (part_of (expr_step (map-WExpr WExpr Expr expr_of z))).words ≡ words_step (map-WExpr WExpr ℕ words_of z)

layer : (y : WExpr-F One) → AtLayer (map-WExpr One WExpr expr y)
layer (WExpr-F.Slot slot) = refl
layer (WExpr-F.Word word) = refl
layer (WExpr-F.Hole k number) = refl
layer (WExpr-F.Load address bytes) = ap (λ n. plus n 3) address.value.1
layer (WExpr-F.Byte address) = ap (λ n. plus n 1) address.value.1
layer (WExpr-F.Binary o left right) = rw (left.value.1, right.value.1) refl
layer (WExpr-F.If condition first other) = rw (condition.value.1, first.value.1, other.value.1) refl
layer (WExpr-F.Check condition trap value) = rw (condition.value.1, value.value.1) refl
layer (WExpr-F.With values body) = rw (all_same values.items, body.value.1) refl
layer (WExpr-F.Bound number) = refl

pub part_words : (e : WExpr) → (part_of (expr_of e)).words ≡ words_of e
part_words = ind-WExpr SameWords
    (λ x y is. subst (λ (p : Expr). (part_of p).words ≡ words_of (roll-WExpr x)) (sym (fold-roll-WExpr Expr expr_step x))
    (subst (λ (n : ℕ). (part_of (expr_step (map-WExpr WExpr Expr expr_of x))).words ≡ n) (sym (fold-roll-WExpr ℕ words_step x)) (subst AtLayer is (layer y))))
