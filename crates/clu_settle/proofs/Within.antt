-- Values whose type and constant are there stay so while types and constants are added.
use Rattle.std.proofs.Common.{◌≡◌, ◌∙◌, ℕ, zero, suc, ◌+◌, List, [], ◌∷◌, ◌++◌, length, ap, arith, length-append, append_assoc}
use Rattle.std.specs.List.{All}
use Rattle.std.proofs.lemmas.List.Elements.{All-head, All-tail, All-nil, All-cons}
use Rattle.clu_base.specs.declared.constants.Const.{Const}
use Rattle.clu_types.specs.declared.term.Term.{Term}
use Rattle.clu_types.specs.Arena.{Grows}
use Rattle.clu_settle.specs.declared.value.Value.{Value}
use Rattle.clu_settle.specs.declared.value.Value.TheVariants as value
use Rattle.clu_settle.specs.Values.{TypeWithin, ConstantWithin, IsWithin, AreWithin, Kept}
use Rattle.clu_settle.specs.Lists.{value_of}

pub value_has : (P : Value → Type 0) → P value.Lost → (values : List Value) (n : ℕ) → All P values → P (value_of values n)
value_has P lost [] n all = lost
value_has P lost (v ∷ vs) zero all = All-head P v vs all
value_has P lost (v ∷ vs) (suc n) all = value_has P lost vs n (All-tail P v vs all)

pub all_more : (P Q : Value → Type 0) → ((v : Value) → P v → Q v) → (vs : List Value) → All P vs → All Q vs
all_more P Q more [] all = All-nil Q
all_more P Q more (v ∷ vs) all = All-cons Q v vs (more v (All-head P v vs all)) (all_more P Q more vs (All-tail P v vs all))

pub more_types : (old new : List Term) → Grows old new → (v : Value) → TypeWithin (length old) v → TypeWithin (length new) v
more_types old new g (value.Type id) l = let size : length new ≡ length old + length g.0 = ap length g.1 ∙ length-append old g.0 in omega (arith, l, size)
more_types old new g value.Nothing l = tt
more_types old new g value.Lost l = tt
more_types old new g (value.Constant k) l = tt
more_types old new g (value.Parameter k) l = tt

pub more_constants : (old new : List Const) → Kept old new → (v : Value) → ConstantWithin (length old) v → ConstantWithin (length new) v
more_constants old new g (value.Constant k) l = let size : length new ≡ length old + length g.0 = ap length g.1 ∙ length-append old g.0 in omega (arith, l, size)
more_constants old new g value.Nothing l = tt
more_constants old new g value.Lost l = tt
more_constants old new g (value.Type id) l = tt
more_constants old new g (value.Parameter k) l = tt

pub value_within : (types constants : ℕ) (values : List Value) (n : ℕ) → AreWithin types constants values → IsWithin types constants (value_of values n)
value_within types constants values n all = (value_has (TypeWithin types) tt values n all.0, value_has (ConstantWithin constants) tt values n all.1)

pub grows_on : (a b c : List Term) → Grows a b → Grows b c → Grows a c
grows_on a b c g h = (g.0 ++ h.0, h.1 ∙ ap (λ (xs : List Term). xs ++ h.0) g.1 ∙ append_assoc a g.0 h.0)
