-- Specifications over the numbers of an arena.
use Rattle.std.specs.Prelude.{ℕ, ◌<◌, List, [], ◌∷◌, length}
use Rattle.clu_types.specs.Arena.{HeadingBelow}
use Rattle.clu_types.specs.declared.spec.Demand.{Demand}
use Rattle.clu_types.specs.declared.spec.OpSpec.{OpSpec}
use Rattle.clu_types.specs.declared.spec.Form.{Form}
use Rattle.clu_types.specs.declared.spec.Form.TheVariants as form
use Rattle.clu_types.specs.declared.spec.Spec.{Spec}

-- the numbers of the types are below n
abbrev pub DemandsBelow : ℕ → List Demand → Type 0
DemandsBelow n [] = Unit {0}
DemandsBelow n (d ∷ ds) = (d.wanted.0 < n) × DemandsBelow n ds

abbrev pub OpBelow : ℕ → OpSpec → Type 0
OpBelow n op = HeadingBelow n op.heading × DemandsBelow n op.demands

abbrev pub OpsBelow : ℕ → List OpSpec → Type 0
OpsBelow n [] = Unit {0}
OpsBelow n (op ∷ ops) = OpBelow n op × OpsBelow n ops

abbrev pub FormBelow : ℕ → Form → Type 0
FormBelow n (form.Routine op) = OpBelow n op
FormBelow n (form.Cluster demands ops) = DemandsBelow n demands × OpsBelow n ops

-- the types of the specification are those of its own arena
abbrev pub SpecHolds : Spec → Type 0
SpecHolds s = FormBelow (length s.types) s.form
