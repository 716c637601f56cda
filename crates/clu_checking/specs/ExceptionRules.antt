-- The rules on exceptions: V23 ArmTypes, V24 ArmTwice, V25 SignalNotListed, V26 SignalTypes, V27 ExitNoArm.
use Rattle.std.specs.Prelude.{ℕ, ◌&&◌, not, Bool, true, false, List, [], ◌∷◌, map, flat_map, filter, find, is_none, is_some, codes, bytes_eq, if◌then◌else◌, Option, Some, None}
use Rattle.std.specs.List.{list_any, list_all}
use Rattle.clu_types.specs.CluType.{CluType, string_type, CluTypes, no_types, type_and, Signals, no_signals, signal_and}
use Rattle.clu_layout.specs.SameType.{fits, same_types}
use Rattle.clu_tree.specs.declared.node.NodeKind.{NodeKind}
use Rattle.clu_tree.specs.declared.node.NodeKind.TheVariants as kind
use Rattle.clu_syntax.specs.Splits.{first_name}
use Rattle.clu_syntax.specs.Syntax.{Identifier, Typed, Taken, objects, any_objects, Statement, a_signal, an_exit, a_resignal, an_except, Whens, no_whens, when_and, Others, others, Exception, Routine}
use Rattle.clu_syntax.specs.Items.{When}
use Rattle.clu_checking.specs.Files.{File, numbers, item, kind_in, is_kind, parent, children, names, routine_round, stands_below}
use Rattle.clu_checking.specs.Headings.{type_inside, results_outside, signals_inside}
use Rattle.clu_checking.specs.Invocations.{types_of}
use Rattle.clu_checking.specs.NameRules.{stands_before}
use Rattle.clu_checking.specs.ExpressionRules.{may_be}
use Rattle.clu_checking.specs.Raising.{Raise, by_statement, is_named}
use Rattle.clu_checking.specs.StatementRules.{as_list, in_order, known, fit, declared_types}

abbrev pub is_failure : Identifier → Bool
is_failure name = bytes_eq name (codes "failure")

abbrev pub one_string : CluTypes
one_string = type_and string_type no_types

-- the objects of a signal of this name
abbrev pub listed_objects : Signals → Identifier → Option CluTypes
listed_objects no_signals name = None
listed_objects (signal_and other ts rest) name = if bytes_eq other name then Some ts else listed_objects rest name

-- the names of an arm, with what it takes
abbrev pub arms_of : Whens → List (List Identifier × Taken)
arms_of no_whens = []
arms_of (when_and n names taken body ws) = (names, taken) ∷ arms_of ws

abbrev pub takes_name : Identifier → List Identifier × Taken → Bool
takes_name name arm = list_any (bytes_eq name) arm.0

-- the type of a declaration, unless a rule is violated in it: then it takes every object, and is refused later in the text
abbrev pub type_unless : Bool → CluType → Option CluType
type_unless true t = None
type_unless false t = Some t

-- as many types as are wanted, each included as far as both are known
abbrev pub each_may_be : List (Option CluType) → List (Option CluType) → Bool
each_may_be [] [] = true
each_may_be (given ∷ givens) (wanted ∷ rest) = may_be given wanted && each_may_be givens rest
each_may_be _ _ = false

module _ (f : File) where
  -- ---- what the routine round a node may signal; failure belongs to every routine

  abbrev pub signals_of : Option Routine → Signals
  signals_of (Some r) = signals_inside f r.node r.signals
  signals_of None = no_signals

  abbrev pub objects_listed : ℕ → Identifier → Option CluTypes
  objects_listed n name = if is_failure name then Some one_string else listed_objects (signals_of (routine_round f n)) name

  abbrev pub is_listed : ℕ → Identifier → Bool
  is_listed n name = is_some (objects_listed n name)

  -- an exception that is not listed is another rule's
  abbrev pub fits_listed : List (Option CluType) → Option CluTypes → Bool
  fits_listed given (Some wanted) = fit given wanted
  fits_listed given None = true

  abbrev pub fits_heading : ℕ → Identifier → List (Option CluType) → Bool
  fits_heading n name given = fits_listed given (objects_listed n name)

  -- ---- what is raised in the statement of an Except or a Resignal

  abbrev pub guarded : Statement → List Raise
  guarded (an_except n s ws other) = by_statement f s
  guarded (a_resignal n s names) = by_statement f s
  guarded _ = []

  abbrev pub raised_round : Option ℕ → List Raise
  raised_round (Some p) = guarded (item f p).statement
  raised_round None = []

  -- ---- V23: an arm doesn't take the objects of a raise that it names, or that of others no string

  abbrev pub takes_raise : List CluType → Raise → Bool
  takes_raise variables raise = fit (known (as_list raise.1)) (in_order variables)

  abbrev pub takes_raises : When → Taken → List Raise → Bool
  takes_raises w (objects ds) raises = list_all (takes_raise (declared_types f ds)) (filter (is_named w.names) raises)
  takes_raises w any_objects raises = true

  abbrev pub takes_string : ℕ → Others → Bool
  takes_string n (others m (Some x) body) = fits string_type (type_inside f n x.type)
  takes_string n _ = true

  abbrev pub v23_in : NodeKind → ℕ → Bool
  v23_in kind.When n = not (takes_raises (item f n).when (item f n).when.taken (raised_round (parent f n)))
  v23_in kind.Others n = not (takes_string n (item f n).others)
  v23_in _ n = false

  abbrev pub v23 : ℕ → Bool
  v23 n = v23_in (kind_in f n) n

  -- V24: a name stands in an arm before this one
  abbrev pub v24 : ℕ → Bool
  v24 n = is_kind f kind.When n && stands_before f kind.When n

  -- ---- V25: signal or resignal of a name that is neither in the heading nor failure

  abbrev pub v25_in : NodeKind → ℕ → Bool
  v25_in kind.Signal n = not (is_listed n (first_name (names f n)))
  v25_in kind.Resignal n = not (list_all (is_listed n) (names f n))
  v25_in _ n = false

  abbrev pub v25 : ℕ → Bool
  v25 n = v25_in (kind_in f n) n

  -- ---- the arm to which an exit goes: the first of its name, from the innermost Except in whose statement it stands outward

  abbrev pub guards : ℕ → List ℕ → Bool
  guards n [] = false
  guards n (s ∷ arms) = stands_below f n s

  abbrev pub is_guarded_by : ℕ → ℕ → Bool
  is_guarded_by n e = is_kind f kind.Except e && guards n (children f e)

  abbrev pub arms_in : Statement → List (List Identifier × Taken)
  arms_in (an_except n s ws other) = arms_of ws
  arms_in _ = []

  abbrev pub arms_round : ℕ → List (List Identifier × Taken)
  arms_round n = flat_map (λ e. arms_in (item f e).statement) (filter (is_guarded_by n) (numbers f.nodes))

  abbrev pub arm_for : ℕ → Identifier → Option (List Identifier × Taken)
  arm_for n name = find (takes_name name) (arms_round n)

  -- V27: no when arm of that name is round the exit in the routine
  abbrev pub v27 : ℕ → Bool
  v27 n = is_kind f kind.Exit n && is_none (arm_for n (first_name (names f n)))

module _ (f : File) (bad : ℕ → Bool) where
  -- ---- V26: number or types of a signal, an exit or a raise that is resignalled don't fit; failure is listed with other
  -- than one string

  -- the types of an arm's variables, one for each name
  abbrev pub arm_types : List Typed → List (Option CluType)
  arm_types ds = flat_map (λ d. map (λ name. type_unless (bad d.node) (type_inside f d.node d.type)) d.names) ds

  abbrev pub takes_given : List (Option CluType) → Taken → Bool
  takes_given given (objects ds) = each_may_be given (arm_types ds)
  takes_given given any_objects = true

  abbrev pub arm_takes : List (Option CluType) → Option (List Identifier × Taken) → Bool
  arm_takes given (Some arm) = takes_given given arm.1
  arm_takes given None = true

  abbrev pub raise_fits : ℕ → Raise → Bool
  raise_fits n raise = fits_heading f n raise.0 (known (as_list raise.1))

  abbrev pub has_other_types : ℕ → Statement → Bool
  has_other_types n (a_signal m name es) = not (fits_heading f n name (types_of f es))
  has_other_types n (an_exit m name es) = not (arm_takes (types_of f es) (arm_for f n name))
  has_other_types n (a_resignal m s names) = not (list_all (raise_fits n) (filter (is_named names) (by_statement f s)))
  has_other_types n _ = false

  -- failure has one string, as callers see it
  abbrev pub is_other_failure : Exception → Bool
  is_other_failure e = is_failure e.name && not (same_types (results_outside f e.node e.types) one_string)

  abbrev pub v26_in : NodeKind → ℕ → Bool
  v26_in kind.Signal n = has_other_types n (item f n).statement
  v26_in kind.Exit n = has_other_types n (item f n).statement
  v26_in kind.Resignal n = has_other_types n (item f n).statement
  v26_in kind.Exc n = is_other_failure (item f n).exception
  v26_in _ n = false

  abbrev pub v26 : ℕ → Bool
  v26 n = v26_in (kind_in f n) n
