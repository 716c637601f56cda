use Rattle.std.proofs.Common.{rules, ◌∙◌, ◌++◌, ap, subst, ℕ, List}
use Rattle.clu_base.specs.Outside.{GrewWithin, appended}
use Rattle.clu_outcome.specs.Outcome.{mark_text}
use Rattle.clu_outcome.specs.declared.lines.Mark.TheVariants as mark
use Rattle.clu_outcome.proofs.Entries.{grew_next, on_err, one_more}
use Rattle.clu_outcome.proofs.lines.write_entries.Goals as goal

-- one more entry is written
pub loop-n-preserved : goal.loop-n-preserved
loop-n-preserved g c =
    let name = c.as_slice.ensures ∙ c.name.ensures in
    let wrote = c.in_ok-write_marked.ensures.whole ∙ ap (λ (t : List ℕ). appended (g.E.Sink.written c.loop-n.errors) (mark_text mark.Live ++ t)) name in
    record {
      grew = one_more c.args.map.now.names c.args.entries.now c.loop-n.n-index 0 _ _ _ (search rules) c.loop-n.invariant.grew wrote;
      counts = search (rules, c.loop-n.invariant.counts);
    }

-- the first ones and the front of the next
pub returns-in_err-write_marked-clause-part : goal.returns-in_err-write_marked-clause-part
returns-in_err-write_marked-clause-part g c =
    let name = c.as_slice.ensures ∙ c.name.ensures in
    let P : List ℕ → Type 0 = λ t. GrewWithin (g.E.Sink.written c.loop-n.errors) (g.E.Sink.written c.write_marked.new.errors) (mark_text mark.Live ++ t) in
    let within = subst P name c.in_err-write_marked.ensures.part in
    on_err c.from_residual.result _ (grew_next c.args.map.now.names c.args.entries.now c.loop-n.n-index 0 _ _ _ (search rules) c.loop-n.invariant.grew within)
