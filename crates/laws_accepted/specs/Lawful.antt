-- The routine objects that are lawful in a program: those of legal types, whose demands are met. And what ties a program to
-- specifications: each routine has the heading that is specified.
use Rattle.std.specs.Prelude.{◌≡◌, ℕ, Bool, true, false, ◌&&◌, List, [], Option, Some, None}
use Rattle.clu_types.specs.CluType.{CluType, cluster_of, Actuals}
use Rattle.clu_types.specs.Substituted.{substituted}
use Rattle.clu_builtin.specs.Operation.{Operation}
use Rattle.clu_builtin.specs.Table.{operation}
use Rattle.clu_layout.specs.Objects.{Routine, module_routine, operation_of, force_of}
use Rattle.clu_meaning.specs.Programs.{Program}
use Rattle.clu_meaning.specs.Operations.{headed, exports, module_named}
use Rattle.clu_checking.specs.Specifications.{Heading, of_routine, Specification, heading_named, operations_of}
use Rattle.clu_checking.specs.Operations.{meets, are_met_by}
use Rattle.laws_sound.specs.Sound.{LawfulBy}
use Rattle.laws_sound.specs.Builtins.{BuiltinsLawful}
use Rattle.laws_accepted.specs.Legal.{Specified, closed, are_demands_met, is_instance, is_legal, actuals_legal}
use Rattle.laws_accepted.specs.Specified.{AllLegal}

-- the heading of each routine of a cluster, exported or not, by the names of both
abbrev pub Routines : Type 0
Routines = List ℕ → List ℕ → Option Heading

module _ (specified : Specified) (routines : Routines) where
  -- what a built-in operation needs is met
  abbrev pub are_needs_met : Option Operation → Bool
  are_needs_met (Some h) = are_met_by (meets [] specified) h.needs
  are_needs_met None = true

  -- what a routine of a cluster asks itself is met
  abbrev pub are_own_met : Actuals → Option Heading → Bool
  are_own_met given (Some h) = are_demands_met closed specified given h.demands
  are_own_met given None = false

  abbrev pub is_lawful : Routine → Bool
  is_lawful (module_routine m given) = actuals_legal closed specified given && is_instance closed specified (specified m) given
  is_lawful (operation_of (cluster_of c given) op) = is_legal closed specified (cluster_of c given) && are_own_met given (routines c op)
  is_lawful (operation_of T op) = is_legal closed specified T && are_needs_met (operation T op)
  is_lawful (force_of t) = is_legal closed specified t

  -- the modules of a program are as they are specified
  pub record HasTexts (program : Program) : Type 0 where
    pub of_modules : (m : List ℕ) (s : Specification) (h : Heading) (t : CluType) (given : Actuals) → specified m ≡ Some s → s.form ≡ of_routine h → h.type ≡ Some t → headed program (module_routine m given) ≡ Some (substituted given t)
    pub of_clusters : (c op : List ℕ) (h : Heading) (t : CluType) (given : Actuals) → routines c op ≡ Some h → h.type ≡ Some t → headed program (operation_of (cluster_of c given) op) ≡ Some (substituted given t)
    pub exported : (c op : List ℕ) (s : Specification) (h : Heading) → specified c ≡ Some s → heading_named (operations_of s.form) op ≡ Some h → (routines c op ≡ Some h) × (exports (module_named program c) op ≡ true)

-- the law of built-in operations, in each program that is as it is specified
abbrev pub BuiltinsAreLawful : Type 0
BuiltinsAreLawful = (program : Program) (specified : Specified) (routines : Routines) → AllLegal specified → HasTexts specified routines program → BuiltinsLawful program (LawfulBy (is_lawful specified routines))
