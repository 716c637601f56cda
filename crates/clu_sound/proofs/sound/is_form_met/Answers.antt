use Rattle.clu_types.specs.Arena.{types_of}
use Rattle.clu_sound.proofs.Judging.{form_routine, form_cluster}
use Rattle.clu_sound.proofs.sound.is_form_met.Goals as goal

pub returns-in-Routine : goal.returns-in-Routine
returns-in-Routine c = form_routine c.args.specs.now (types_of c.args.types.now) c.args.form.now c.in-Routine.op c.in-Routine.is _ c.as_slice.ensures _ c.is_routine_met.ensures.met

pub returns-in-Cluster : goal.returns-in-Cluster
returns-in-Cluster c =
    form_cluster c.args.specs.now (types_of c.args.types.now) c.args.form.now c.in-Cluster.demands c.in-Cluster.ops c.in-Cluster.is _ c.as_slice-in-Cluster.ensures _ c.as_slice-in-Cluster-2.ensures _ c.is_cluster_met.ensures
