use Rattle.std.proofs.Common.{length, drop}
use Rattle.std.proofs.lemmas.Bool.Decides.{Decides-eqb}
use Rattle.std.proofs.lemmas.Slice.Eq.{starts_is}
use Rattle.clu_asm.proofs.CutLemmas.{code_begun}
use Rattle.clu_asm.proofs.FaultLemmas.{place_after_parts}
use Rattle.clu_asm.proofs.EntryLemmas.{entry_begun}
use Rattle.clu_asm.proofs.places.is_front.Goals as goal

pub returns : goal.returns
returns c =
    let is = starts_is Decides-eqb c.args.text.now c.args.cut.now c.starts_with.result c.starts_with.ensures.value in
    (λ t. (drop (length c.args.cut.now) c.args.text.now, is.0 t), λ f. is.1 f.0 f.1)
