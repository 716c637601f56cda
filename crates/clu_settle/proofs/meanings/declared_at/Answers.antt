use Rattle.std.proofs.Common.{◌∙◌, List, ℕ, length, ap, get_or}
use Rattle.clu_settle.specs.Parameters.{count_in}
use Rattle.clu_settle.proofs.Numbering.{in_counts, number_in, declared_there}
use Rattle.clu_settle.proofs.meanings.declared_at.Goals as goal

pub returns : goal.returns
returns c = λ rounds are.
    declared_there c.args.syntax.now rounds c.args.declared.now c.args.place c.count_in-count.result c.number_at-number.result c.index-declared-place.result c.declared_in.result c.requires c.index-declared-place.is
    (c.count_in-count.ensures ∙ ap (λ (counts : List ℕ). count_in counts c.index-declared-place.result.unit) c.as_slice.ensures.value ∙ in_counts c.args.syntax.now rounds c.args.declared.now c.args.parameters.now.counts.items (length c.args.declared.now) are.counts c.index-declared-place.result.unit)
    (c.number_at-number.ensures ∙ ap (λ (numbers : List ℕ). get_or numbers c.args.place 0) c.as_slice-2.ensures.value ∙ number_in c.args.syntax.now rounds c.args.declared.now c.args.parameters.now.numbers.items c.args.place are.numbers c.requires)
    c.declared_in.ensures
