-- What the errors of the crates below come to.
use Rattle.clu_frames.specs.declared.errors.FrameError.{FrameError}
use Rattle.clu_frames.specs.declared.errors.FrameError.TheVariants as frame
use Rattle.clu_library.specs.declared.errors.EnterError.{EnterError}
use Rattle.clu_library.specs.declared.errors.EnterError.TheVariants as enter
use Rattle.clu_reach.specs.declared.errors.LinkError.{LinkError}
use Rattle.clu_reach.specs.declared.errors.LinkError.TheVariants as link
use Rattle.clu_lower_types.specs.declared.errors.LowerError.{LowerError}
use Rattle.clu_lower_types.specs.declared.errors.LowerError.TheVariants as lower
use Rattle.rv_select.specs.declared.error.SelectError.{SelectError}
use Rattle.rv_select.specs.declared.error.SelectError.TheVariants as select
use Rattle.clu_build.specs.declared.errors.BuildError.{BuildError}
use Rattle.clu_build.specs.declared.errors.BuildError.TheVariants as build

abbrev pub of_enter : EnterError → BuildError
of_enter enter.Full = build.LibraryFull
of_enter enter.Memory = build.Memory
of_enter enter.Differs = build.NotYet

abbrev pub of_lower : LowerError → BuildError
of_lower lower.Memory = build.Memory
of_lower lower.NotYet = build.NotYet

abbrev pub of_frame : FrameError → BuildError
of_frame frame.Memory = build.Memory
of_frame frame.NotYet = build.NotYet

abbrev pub of_select : SelectError → BuildError
of_select select.Memory = build.Memory
of_select select.NotYet = build.NotYet

abbrev pub of_link : LinkError → BuildError
of_link (link.NoModule name) = build.NoModule name
of_link (link.BadStart name) = build.BadStart name
of_link link.TooManyInstances = build.TooManyInstances
of_link (link.NoBody name) = build.NoBody name
of_link (link.Stale name by changed checked) = build.Stale (record { name = name; by = by; changed = changed; checked = checked })
of_link (link.Misfit name) = build.Misfit name
of_link link.ProgramTooLarge = build.ProgramTooLarge
of_link link.Memory = build.Memory
of_link link.NotYet = build.NotYet
