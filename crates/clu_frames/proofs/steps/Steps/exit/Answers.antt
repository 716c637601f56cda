use Rattle.std.proofs.Common.{◌∙◌, Option, ap, length, subst, sym}
use Rattle.std.specs.Prelude.{IsTrue, option_map}
use Rattle.std.proofs.lemmas.Option.{slice_get-map}
use Rattle.clu_wir.specs.Formed.{has_arm}
use Rattle.clu_frames.specs.declared.surroundings.Guard.{Guard}
use Rattle.clu_frames.specs.Flattening.{guarding_of, guards_of}
use Rattle.clu_frames.specs.Standing.{arms_of}
use Rattle.clu_frames.proofs.Arms.{arm_found, guard_there}
use Rattle.clu_frames.proofs.steps.Steps.exit.Goals as goal

pub unwrap-requires : goal.unwrap-requires
unwrap-requires c =
    guard_there c.args.arm (length c.args.words.now) c.guard.result
    (arm_found (guards_of c.args.round) c.args.inside c.args.arm (length c.args.words.now) c.guard.result c.guard.ensures c.requires.formed)

pub exit_guard-requires : goal.exit_guard-requires
exit_guard-requires c = record {
  formed = subst (λ (o : Option Guard). IsTrue (has_arm c.args.arm (length c.args.words.now) (option_map arms_of o))) c.unwrap.ensures
      (arm_found (guards_of c.args.round) c.args.inside c.args.arm (length c.args.words.now) c.guard.result c.guard.ensures c.requires.formed);
}

pub returns : goal.returns
returns c =
    let at = slice_get-map guarding_of (guards_of c.args.round) c.args.inside ∙ ap (option_map guarding_of) (sym c.guard.ensures ∙ c.unwrap.ensures) in
    record { made = rw at c.exit_guard.ensures.made }
