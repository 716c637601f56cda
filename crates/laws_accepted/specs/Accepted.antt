-- An accepted file as a program, the routine objects that are lawful in it, and that its text is well typed.
use Rattle.std.specs.Prelude.{◌≡◌, ℕ, Bool, false, List, [], map, find, bytes_eq, Option, Some, None, length, ◌<◌}
use Rattle.clu_base.specs.declared.rules.Rule.{Rule}
use Rattle.clu_tree.specs.declared.node.Node.{Node}
use Rattle.clu_syntax.specs.declared.round.Round.{Round}
use Rattle.clu_syntax.specs.Nodes.{file_of}
use Rattle.clu_syntax.specs.Rounds.{AreRounds}
use Rattle.clu_syntax.specs.Syntax.{Module, a_cluster}
use Rattle.clu_layout.specs.Objects.{Routine}
use Rattle.clu_meaning.specs.Programs.{Program}
use Rattle.clu_meaning.specs.Resolving.{module_of}
use Rattle.clu_checking.specs.Specifications.{Heading, heading_named}
use Rattle.clu_checking.specs.Files.{File, module_name}
use Rattle.clu_checking.specs.Headings.{routines_of, specification}
use Rattle.clu_checking.specs.Rules.{violates}
use Rattle.clu_checking.specs.Refusals.{checked_file, is_bad, IsAccepted}
use Rattle.laws_sound.specs.Sound.{LawfulBy}
use Rattle.laws_sound.specs.Builtins.{ModulesWellTyped}
use Rattle.laws_accepted.specs.Lawful.{Routines, is_lawful, HasTexts}

-- the modules of a file as they run, by the scope that the rules go by
abbrev pub program_of : File → Program
program_of f = map (module_of f.scope) (file_of f.nodes)

-- of two modules of one name the first counts
abbrev pub module_called : List Module → List ℕ → Option Module
module_called ms name = find (λ m. bytes_eq (module_name m) name) ms

module _ (f : File) where
  abbrev pub routine_in : List ℕ → Option Module → Option Heading
  routine_in op (Some (a_cluster n es c)) = heading_named (routines_of f c) op
  routine_in op _ = None

  -- the headings of the routines of its clusters
  abbrev pub routines_in : Routines
  routines_in c op = routine_in op (module_called (file_of f.nodes) c)

  -- actuals are of their kinds and meet what is asked, by the specifications of the file
  abbrev pub lawful_in : Routine → Bool
  lawful_in = is_lawful (specification f) routines_in

-- no rule is violated at the node
abbrev pub KeepsRules : File → ℕ → Type 0
KeepsRules f n = (r : Rule) → violates f (is_bad f) n r ≡ false

-- The first case of soundness: a file that stands alone and in which no rule is violated is well typed, in each instance of
-- its modules.
abbrev pub AcceptedIsWellTyped : Type 0
AcceptedIsWellTyped = (nodes : List Node) (rounds : List Round) → AreRounds nodes rounds → IsAccepted (checked_file nodes rounds []) →
    ModulesWellTyped (program_of (checked_file nodes rounds [])) (LawfulBy (lawful_in (checked_file nodes rounds [])))

-- ---- the laws of files

abbrev pub AcceptedFilesKeepRules : Type 0
AcceptedFilesKeepRules = (f : File) → IsAccepted f → (n : ℕ) → n < length f.nodes → KeepsRules f n

abbrev pub FilesAreAsSpecified : Type 0
FilesAreAsSpecified = (f : File) → f.library ≡ [] → HasTexts (specification f) (routines_in f) (program_of f)
