-- When a value is not lost: what is told of it, and what tests say.
use Rattle.std.proofs.Common.{◌≡◌, ◌∙◌, ℕ, ◌<◌, Bool, false, List, Option, Some, None, refl, ap, sym, subst}
use Rattle.std.specs.Prelude.{◌↔◌, IsTrue}
use Rattle.std.specs.List.{All}
use Rattle.std.specs.Option.{option_map}
use Rattle.std.proofs.lemmas.Bool.{true≢false}
use Rattle.std.proofs.lemmas.Option.{none-some}
use Rattle.clu_base.specs.declared.constants.Const.{Const}
use Rattle.clu_types.specs.CluType.{CluType}
use Rattle.clu_types.specs.declared.term.TypeId.{TypeId}
use Rattle.clu_meaning.specs.Settling.{Value as Settled}
use Rattle.clu_settle.specs.declared.value.Value.{Value}
use Rattle.clu_settle.specs.declared.value.Value.TheVariants as value
use Rattle.clu_settle.specs.Values.{told, TypeWithin}
use Rattle.clu_settle.specs.Lists.{type_id, value_of}
use Rattle.clu_settle.specs.Operators.{nothing_beside}
use Rattle.clu_settle.proofs.Within.{value_has}

pub told_there : (types : List CluType) (constants : List Const) (v : Value) (s : Settled) → told types constants v ≡ Some s → v ≡ value.Lost → ⊥
told_there types constants v s e is = none-some s (sym (ap (told types constants) is) ∙ e)

pub not_held : (r : Bool) (P : Type 0) → IsTrue r ↔ P → r ≡ false → P → ⊥
not_held r P h e p = true≢false (sym (h.1 p) ∙ e)

pub no_type_id : (v : Value) → ((id : TypeId) → v ≡ value.Type id → ⊥) → type_id v ≡ None
no_type_id (value.Type id) f = absurd (f id refl)
no_type_id value.Lost f = refl
no_type_id value.Nothing f = refl
no_type_id (value.Constant k) f = refl
no_type_id (value.Parameter k) f = refl

pub found_below : (m : ℕ) (values : List Value) (n : ℕ) (id : TypeId) → All (TypeWithin m) values → value_of values n ≡ value.Type id → id.0 < m
found_below m values n id within e = subst (TypeWithin m) e (value_has (TypeWithin m) tt values n within)

pub beside_lost : (v : Value) → nothing_beside v ≡ value.Lost → v ≡ value.Lost
beside_lost value.Lost e = refl
beside_lost value.Nothing e = absurd (cc)
beside_lost (value.Type id) e = absurd (cc)
beside_lost (value.Constant k) e = absurd (cc)
beside_lost (value.Parameter k) e = absurd (cc)

pub none_mapped : {A B : Type 0} (f : A → B) (found : Option B) (o : Option A) → found ≡ option_map f o → found ≡ None → o ≡ None
none_mapped f found None e is = refl
none_mapped f found (Some a) e is = absurd (none-some (f a) (sym is ∙ e))
