-- What a program that computes is told to come to.
use Prim.Native.String.{String}
use Rattle.std.specs.Prelude.{◌≡◌, ℕ, List, [], ◌∷◌, Option, codes}
use Rattle.clu_names.specs.declared.scopes.Declared.{Declared}
use Rattle.clu_types.specs.CluType.{no_actuals}
use Rattle.clu_layout.specs.Objects.{module_routine}
use Rattle.clu_syntax.specs.declared.words.RoutineKind.{RoutineKind}
use Rattle.clu_syntax.specs.Syntax.{Identifier, TypeExpression, TypeExpressions, Exceptions, Typed, Variable, Equates, Statements, Parameter, Own, Restriction, Routine, Cluster, Module}
use Rattle.clu_meaning.specs.State.{Instance, of_routine}
use Rattle.clu_meaning.specs.Resolving.{File, resolved}
use Rattle.clu_meaning.specs.Run.{Progress, Seen, run}

-- ---- words for trees

abbrev pub typed : ℕ → List Identifier → TypeExpression → Typed
typed node names type = record { node = node; names = names; type = type }

abbrev pub a_variable : Identifier → TypeExpression → Variable
a_variable name type = record { name = name; type = type }

abbrev pub parameter : ℕ → List Identifier → Option TypeExpression → Parameter
parameter node names type = record { node = node; names = names; type = type }

-- the parts in the order of the grammar, with the name after `end` behind the first one
abbrev pub routine : ℕ → Identifier → Identifier → RoutineKind → List Parameter → List Typed → TypeExpressions → Exceptions → List Restriction → Equates → List Own → Statements → Routine
routine node name closing kind parameters arguments results signals restrictions equates owns statements = record { node = node; name = name; closing = closing; kind = kind; parameters = parameters; arguments = arguments; results = results; signals = signals; restrictions = restrictions; equates = equates; owns = owns; statements = statements }

abbrev pub cluster : ℕ → Identifier → Identifier → List Parameter → List Identifier → List Restriction → Equates → List Own → List Routine → Cluster
cluster node name closing parameters exports restrictions equates owns routines = record { node = node; name = name; closing = closing; parameters = parameters; exports = exports; restrictions = restrictions; equates = equates; owns = owns; routines = routines }

-- a declaration: its name and node, the first and the last node of its scope, and its module
abbrev pub d : List ℕ → ℕ → ℕ → ℕ → Option ℕ → Declared
d name node from to unit = record { name = name; node = node; from = from; to = to; unit = unit }

-- ---- what a run comes to

abbrev pub file : List Declared → List Module → File
file declared modules = record { declarations = declared; modules = modules }

abbrev pub run_of_files : List File → List ℕ → ℕ → Seen
run_of_files files input turns = run (resolved files) (codes "start_up") input turns

abbrev pub run_of : List Declared → List Module → List ℕ → ℕ → Seen
run_of declared modules input turns = run_of_files (file declared modules ∷ []) input turns

abbrev pub told : Seen → Progress × List ℕ × ℕ × ℕ
told s = (s.progress, s.output, s.store, s.stack)

abbrev pub ending : Seen → Progress × List ℕ
ending s = (s.progress, s.output)

-- from start_up, with this input and so many turns: how it ends, its output, its words of store, and its most live words
abbrev pub Runs : List Declared → List Module → List ℕ → ℕ → Progress → List ℕ → ℕ → ℕ → Type 0
Runs declared modules input turns progress output store stack = told (run_of declared modules input turns) ≡ (progress, output, store, stack)

-- the same of the program of several files
abbrev pub RunsFiles : List File → List ℕ → ℕ → Progress → List ℕ → ℕ → ℕ → Type 0
RunsFiles files input turns progress output store stack = told (run_of_files files input turns) ≡ (progress, output, store, stack)

-- the same without meters
abbrev pub Ends : List Declared → List Module → List ℕ → ℕ → Progress → List ℕ → Type 0
Ends declared modules input turns progress output = ending (run_of declared modules input turns) ≡ (progress, output)

-- the same by the units of work
abbrev pub Works : List Declared → List Module → List ℕ → ℕ → ℕ → Type 0
Works declared modules input turns work = (run_of declared modules input turns).work ≡ work

-- a module's routine without actuals, as an instance
abbrev pub m : String → Instance
m name = of_routine (module_routine (codes name) no_actuals)

-- the same by the trace
abbrev pub Traces : List Declared → List Module → List ℕ → ℕ → List Instance → Type 0
Traces declared modules input turns trace = (run_of declared modules input turns).trace ≡ trace
