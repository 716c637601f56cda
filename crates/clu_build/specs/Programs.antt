-- What entering a program does to a library.
use Rattle.std.specs.Prelude.{◌≡◌, ℕ, List}
use Rattle.clu_library.specs.Contents.{Contents, spec_of, with_program}
use Rattle.clu_library.specs.declared.program.Program.{Program}
use Rattle.clu_reach.specs.Causes.{HaveBodies}
use Rattle.clu_reach.specs.Starts.{MayStart}

-- a program has this name and this start
pub record IsCalled (name start : List ℕ) (p : Program) : Type 0 where
  pub name_is : p.name ≡ name
  pub start_is : p.start ≡ start

-- the library has a program more, or another one of this name, of modules whose kept bodies aren't stale, and nothing else changed
abbrev pub IsLinked : Contents → Contents → List ℕ → List ℕ → Type 0
IsLinked before after name start = MayStart (spec_of before start) × ((p : Program) × IsCalled name start p × HaveBodies before p.modules × (after ≡ with_program before p))
