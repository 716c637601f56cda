-- Types of parameters: one whose value is lost has no kind, and one whose value is found leads neither to `cvt` nor to a circle.
use Rattle.std.specs.Prelude.{◌≡◌, ℕ, true, false, List, Some, None}
use Rattle.clu_syntax.specs.Kinds.{is_type, kind_at}
use Rattle.clu_checking.specs.Files.{File, item}
use Rattle.clu_checking.specs.Headings.{kind_of_parameter, is_no_parameter_type}
use Rattle.clu_settle.specs.declared.value.Value.{Value}
use Rattle.clu_settle.specs.declared.value.Value.TheVariants as value
use Rattle.clu_settle.specs.Lists.{value_of}

pub record IsLegalKnown (f : File) (values : List Value) (c : ℕ) : Type 0 where
  pub lost : value_of values c ≡ value.Lost → kind_of_parameter f (Some (item f c).type) ≡ None
  pub found : (value_of values c ≡ value.Lost → ⊥) → is_no_parameter_type f (item f c).type ≡ false

abbrev pub AreLegalKnown : File → List Value → Type 0
AreLegalKnown f values = (c : ℕ) → is_type (kind_at f.nodes c) ≡ true → IsLegalKnown f values c
