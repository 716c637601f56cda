-- V24 by the bits of names that stand twice.
use Rattle.std.proofs.Common.{◌≡◌, ◌∙◌, ℕ, Bool, true, false, ◌&&◌, List, refl, sym, ap, ap₂}
use Rattle.std.specs.Prelude.{slice_get}
use Rattle.clu_tree.specs.declared.node.NodeKind.TheVariants as kind
use Rattle.clu_syntax.specs.Splits.{is_of}
use Rattle.clu_checking.specs.Files.{File, kind_in}
use Rattle.clu_checking.specs.NameRules.{stands_before}
use Rattle.clu_checking.specs.ExceptionRules.{v24}
use Rattle.clu_head.specs.Refused.{is_set}
use Rattle.clu_head.specs.There.{is_there}
use Rattle.clu_declares.proofs.Below.{same_kind}
use Rattle.clu_passes.specs.Notes.{AreRepeated, DeclareModules, HaveParents}
use Rattle.clu_passes.proofs.ByNotes.{arms_told}
use Rattle.clu_passes.proofs.OwnPlaces.{there_is}

pub v24_is : (f : File) → HaveParents f → DeclareModules f → (bits : List Bool) → AreRepeated f bits → (n : ℕ) → v24 f n ≡ (is_there kind.When (slice_get f.nodes n) && is_set (slice_get bits n))
v24_is f parents modules bits are n = by (is_of kind.When (kind_in f n)) refl
  where
    by : (b : Bool) → is_of kind.When (kind_in f n) ≡ b → (is_of kind.When (kind_in f n) && stands_before f kind.When n) ≡ (is_there kind.When (slice_get f.nodes n) && is_set (slice_get bits n))
    by true e =
        ap₂ (λ (a b : Bool). a && b) (there_is kind.When refl (slice_get f.nodes n))
        (sym (arms_told f parents modules bits are n kind.When (same_kind kind.When (kind_in f n) e) refl))
    by false e =
        ap (λ (b : Bool). b && stands_before f kind.When n) e
        ∙ ap (λ (b : Bool). b && is_set (slice_get bits n)) (sym (sym (there_is kind.When refl (slice_get f.nodes n)) ∙ e))
