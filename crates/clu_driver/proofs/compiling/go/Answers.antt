use Rattle.std.proofs.Common.{Bool, inl, refl, subst}
use Rattle.clu_driver.specs.Shows.{IsAsked}
use Rattle.clu_driver.proofs.Asked.{compiled_asked}
use Rattle.clu_driver.proofs.Found.{go_shows}
use Rattle.clu_driver.proofs.compiling.go.Goals as goal

-- the source was compiled: its image was put and run
pub returns-in-Ok : goal.returns-in-Ok
returns-in-Ok g c =
    let put = c.put_and_run.ensures.told in
    let before = c.compiled.ensures in
    let P : Bool → Type 0 = λ traced. IsAsked put.how traced in
    record {
      told = record {
        how = put.how;
        shown = (subst P c.in-Ok.ensures.traced put.shown.0, go_shows _ _ _ _ c.in-Ok.compiled.image _ _ _ _ _ _ c.in-Ok.ensures.accepted before.kept before.counts put.shown.1);
        told = put.told;
      };
    }

-- the source was not compiled
pub returns-in-Err : goal.returns-in-Err
returns-in-Err g c =
    let asked = compiled_asked c.in-Err.how c.args.flags.trace _ _ _ _ c.in-Err.ensures.refused in
    record { told = record { how = c.in-Err.how; shown = (asked.0, inl (asked.1, (c.compiled.ensures.kept, record { left = refl; written = refl }))); told = c.report.ensures.told } }
