use Rattle.clu_parts.proofs.Fitting.{fitted}
use Rattle.clu_parts.proofs.children_stand.Goals as goal

pub returns : goal.returns
returns c nodes tree forms i n at =
    let f = forms i n at in
    record { form = f.form; of_kind = f.of_kind; stand = fitted nodes tree i n at f }
