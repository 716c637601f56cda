use Rattle.std.proofs.Common.{◌≡◌, drop}
use Rattle.std.specs.List.{find}
use Rattle.std.specs.Str.{bytes_eq}
use Rattle.clu_types.specs.declared.spec.Spec.{Spec}
use Rattle.clu_lower_types.proofs.headings.spec_named.Given as goal

abbrev pub invariant-loop-spec : goal.invariant-loop-spec
invariant-loop-spec l = find (λ (s : Spec). bytes_eq s.name l.name) (drop l.spec-index l.specs) ≡ find (λ (s : Spec). bytes_eq s.name l.name) l.specs
