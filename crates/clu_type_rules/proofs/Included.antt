-- What inclusion of types says is the test of the definitions.
use Rattle.std.proofs.Common.{◌≡◌, ◌↔◌, Bool, true, false, IsTrue, refl, sym}
use Rattle.clu_types.specs.CluType.{CluType}
use Rattle.clu_types.specs.Included.{Included}
use Rattle.clu_layout.specs.SameType.{fits}
use Rattle.clu_layout.proofs.SameTypeLaws.{fits_included, included_fits}

pub tells : (result : Bool) (a b : CluType) → (IsTrue result ↔ Included a b) → result ≡ fits a b
tells true a b says = sym (included_fits a b (says.0 refl))
tells false a b says = by (fits a b) refl
  where
    by : (test : Bool) → fits a b ≡ test → false ≡ test
    by false is = refl
    by true is = says.1 (fits_included a b is)
