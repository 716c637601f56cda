use Rattle.std.proofs.Common.{◌≡◌, ◌∙◌, ℕ, zero, suc, List, [], ◌∷◌, slice_get, None, refl, sym}
use Rattle.clu_base.specs.declared.constants.Const.{Const}
use Rattle.clu_base.specs.declared.constants.Const.TheVariants as constant
use Rattle.clu_settle.specs.Values.{constant_at}
use Rattle.clu_settle.proofs.constants.constant_at.Goals as goal

none_there : (constants : List Const) (k : ℕ) → slice_get constants k ≡ None → constant.Null ≡ constant_at constants k
none_there [] k e = refl
none_there (c ∷ cs) zero e = absurd (cc)
none_there (c ∷ cs) (suc k) e = none_there cs k e

pub returns-in-None : goal.returns-in-None
returns-in-None c = none_there c.args.constants.now c.args.place (sym c.in_ok-constant.ensures ∙ c.in-None.is)
