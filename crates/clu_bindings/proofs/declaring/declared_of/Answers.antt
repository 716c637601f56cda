use Rattle.std.proofs.Common.{◌≡◌, ◌∙◌, ℕ, List, Some, slice_get, get_or, length, refl, ap, sym}
use Rattle.std.proofs.lemmas.Option.{slice_get_read}
use Rattle.clu_bindings.specs.Modules.{named}
use Rattle.clu_bindings.specs.Declaring.{declared_at}
use Rattle.clu_bindings.proofs.Growing.{table_next}
use Rattle.clu_bindings.proofs.declaring.declared_of.Goals as goal

pub loop-place-preserved : goal.loop-place-preserved
loop-place-preserved c =
    let number_is : c.number_at-number.result ≡ get_or c.args.parameters.now.numbers.items c.loop-place.place 0 = c.number_at-number.ensures ∙ ap (λ (xs : List ℕ). get_or xs c.loop-place.place 0) c.as_slice.ensures.value in
    let one_is : c.declared_at.result ≡ declared_at c.args.tree.now c.args.rounds.now (named c.args.modules.now) c.args.parameters.now.counts.items (get_or c.args.parameters.now.numbers.items c.loop-place.place 0) (slice_get c.args.declared.now c.loop-place.place) =
    c.declared_at.ensures
    ∙ ap (λ (counts : List ℕ). declared_at c.args.tree.now c.args.rounds.now (named c.args.modules.now) counts c.number_at-number.result (Some c.index-declared-place.result)) c.as_slice-counts.ensures.value
    ∙ ap (λ (k : ℕ). declared_at c.args.tree.now c.args.rounds.now (named c.args.modules.now) c.args.parameters.now.counts.items k (Some c.index-declared-place.result)) number_is
    ∙ ap (declared_at c.args.tree.now c.args.rounds.now (named c.args.modules.now) c.args.parameters.now.counts.items (get_or c.args.parameters.now.numbers.items c.loop-place.place 0)) (sym (slice_get_read c.args.declared.now (length c.args.declared.now) c.loop-place.place c.index-declared-place.result refl c.loop-place-test.true c.index-declared-place.is)) in
    table_next (λ p. declared_at c.args.tree.now c.args.rounds.now (named c.args.modules.now) c.args.parameters.now.counts.items (get_or c.args.parameters.now.numbers.items p 0) (slice_get c.args.declared.now p))
    c.loop-place.place c.declared_at.result c.loop-place.all.items c.push.new.self.items c.loop-place.invariant one_is c.in_ok-push.ensures.items
