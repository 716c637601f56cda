-- Texts of types and uses, as clu_specs reads them.
use Rattle.std.proofs.Common.{◌≡◌, ℕ, true, false, List, Result, Ok, Err, refl, ap, subst}
use Rattle.clu_base.specs.declared.errors.FormatError.{FormatError}
use Rattle.clu_base.specs.declared.errors.FormatError.TheVariants as error
use Rattle.clu_specs.specs.Reading.{Fails}
use Rattle.std.specs.Result.{is_ok}
use Rattle.clu_types.specs.CluType.{CluType}
use Rattle.clu_specs.specs.Grammar.{IsType, IsUse}
use Rattle.clu_specs.specs.Scopes.{any_scope}
use Rattle.clu_specs.specs.Seen.{Used, use_text}
use Rattle.clu_specs.specs.Texts.{type_text}
use Rattle.clu_specs.specs.TypeReading.{whole_type}
use Rattle.clu_specs.specs.UseReading.{whole_use}
use Rattle.clu_specs.proofs.ActualsSpelled.{whole_type_spelled}
use Rattle.clu_specs.proofs.TypesAgain.{whole_again}
use Rattle.clu_specs.proofs.UsesAgain.{use_again}
use Rattle.clu_specs.proofs.UsesSpelled.{whole_use_spelled}
use Rattle.clu_object.specs.ObjectReading.{is_use_text, is_type_text}

pub type_accepted : (t : CluType) (text : List ℕ) → text ≡ type_text t → IsType any_scope t → is_type_text text ≡ true
type_accepted t text e h = ap is_ok (whole_again t text h e)

pub use_accepted : (u : Used) (text : List ℕ) → text ≡ use_text u → IsUse u → is_use_text text ≡ true
use_accepted u text e h = ap is_ok (use_again u text h e)

none_ok : {X : Type 0} (r : Result X ℕ) → ((x : X) → r ≡ Ok x → ⊥) → is_ok r ≡ false
none_ok (Ok x) h = absurd (h x refl)
none_ok (Err left) h = refl

-- a text that is refused with an offset is that of no type, and of no use
pub type_refused : (text : List ℕ) (offset : ℕ) → ((t : CluType) → IsType any_scope t → text ≡ type_text t → Ok t ≡ Err offset) → is_type_text text ≡ false
type_refused text offset h = none_ok (whole_type text) (λ t e. let s = whole_type_spelled text t e in clash t offset (h t s.0 s.1))
  where
    clash : (t : CluType) (left : ℕ) → Ok t ≡ Err left → ⊥
    clash t left e = cc

pub use_refused : (text : List ℕ) (offset : ℕ) → ((u : Used) → IsUse u → text ≡ use_text u → Ok u ≡ Err offset) → is_use_text text ≡ false
use_refused text offset h = none_ok (whole_use text) (λ u e. let s = whole_use_spelled text u e in clash u offset (h u s.0 s.1))
  where
    clash : (u : Used) (left : ℕ) → Ok u ≡ Err left → ⊥
    clash u left e = cc

-- the same of what a call answered
pub type_not : (text : List ℕ) (e : FormatError) (offset : ℕ) → e ≡ error.Bad offset → ((t : CluType) → IsType any_scope t → text ≡ type_text t → Fails e (Ok t)) → is_type_text text ≡ false
type_not text e offset is h = type_refused text offset (λ t g s. subst (λ (x : FormatError). Fails x (Ok t)) is (h t g s))

pub use_not : (text : List ℕ) (e : FormatError) (offset : ℕ) → e ≡ error.Bad offset → ((u : Used) → IsUse u → text ≡ use_text u → Fails e (Ok u)) → is_use_text text ≡ false
use_not text e offset is h = use_refused text offset (λ u g s. subst (λ (x : FormatError). Fails x (Ok u)) is (h u g s))
