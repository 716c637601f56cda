-- That the specifications with which a file is handed on are those of its modules.
use Rattle.std.specs.Prelude.{◌≡◌, List, map}
use Rattle.clu_types.specs.declared.spec.Spec.{Spec}
use Rattle.clu_checking.specs.Specifications.{specification_kept, specification_told}
use Rattle.clu_checking.specs.Files.{File}
use Rattle.clu_checking.specs.Headings.{own_specifications}

-- they are those that the definitions give of its modules, in the order of the text, as a library keeps them
abbrev pub AreSpecifications : File → List Spec → Type 0
AreSpecifications f own = map specification_told own ≡ map specification_kept (own_specifications f)
