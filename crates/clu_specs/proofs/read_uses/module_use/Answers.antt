use Rattle.std.proofs.Common.{length, sym, ap, subst, ◌∙◌, arith}
use Rattle.clu_types.specs.Arena.{PartsBelow, type_of, types_of}
use Rattle.clu_types.proofs.Parts.{actuals_more}
use Rattle.clu_specs.specs.UseReading.{module_of}
use Rattle.clu_specs.proofs.read_uses.module_use.Goals as goal

pub returns-in-Cluster : goal.returns-in-Cluster
returns-in-Cluster c = record {
  within = actuals_more c.args.id.0 (length c.args.types.now) (omega arith) c.in-Cluster.actuals (subst (PartsBelow c.args.id.0) (sym c.in_ok-name.ensures ∙ c.in-Cluster.is) c.view.ensures.parts);
  reads = ap module_of (c.view.ensures.of_type ∙ ap (type_of (types_of c.args.types.now)) (sym c.in_ok-name.ensures ∙ c.in-Cluster.is));
}
