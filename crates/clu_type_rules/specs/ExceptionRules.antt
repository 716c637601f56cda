-- The rules on exceptions over the tables that they read: V23 ArmTypes, V25 SignalNotListed, V26 SignalTypes, V27 ExitNoArm.
use Rattle.std.specs.Prelude.{ℕ, zero, suc, ◌&&◌, ◌||◌, not, is_none, is_some, codes, bytes_eq, if◌then◌else◌, Bool, true, false, List, [], ◌∷◌, length, map, slice_get, Option, Some, None}
use Rattle.std.specs.Option.{option_or}
use Rattle.std.specs.List.{list_all}
use Rattle.std.specs.HashMap.{get}
use Rattle.clu_tree.specs.declared.node.Node.{Node}
use Rattle.clu_tree.specs.declared.node.NodeKind.{NodeKind}
use Rattle.clu_tree.specs.declared.node.NodeKind.TheVariants as kind
use Rattle.clu_syntax.specs.Items.{Item}
use Rattle.clu_syntax.specs.Rounds.{round_at}
use Rattle.clu_syntax.specs.Splits.{run, type_of}
use Rattle.clu_types.specs.declared.term.TypeId.{TypeId}
use Rattle.clu_types.specs.declared.term.Term.{Term}
use Rattle.clu_types.specs.declared.term.Term.TheVariants as term
use Rattle.clu_operations.specs.declared.words.NameId.{NameId}
use Rattle.clu_operations.specs.Words.{named}
use Rattle.clu_typing.specs.declared.raising.Raise.{Raise}
use Rattle.clu_typing.specs.declared.raising.RaisesId.{RaisesId}
use Rattle.clu_typing.specs.Facts.{raised_at}
use Rattle.clu_typing.specs.Raised.{objects_of, raises_named}
use Rattle.clu_bindings.specs.Inside.{type_inside, type_outside}
use Rattle.clu_name_rules.specs.declared.repeated.ListKind.{ListKind}
use Rattle.clu_name_rules.specs.declared.repeated.ListKind.TheVariants as list
use Rattle.clu_name_rules.specs.Repeated.{same}
use Rattle.clu_name_rules.specs.Words.{place_of}
use Rattle.clu_type_rules.specs.declared.exception_rules.Taker.{Taker}
use Rattle.clu_type_rules.specs.declared.exception_rules.Taker.TheVariants as taker
use Rattle.clu_type_rules.specs.declared.known.Known.{Known}
use Rattle.clu_type_rules.specs.declared.routines.Parts.{Parts}
use Rattle.clu_type_rules.specs.Known.{nodes, kind_in, is_node, children, parts_round, term_of, type_at}
use Rattle.clu_type_rules.specs.Objects.{names, fit, types_inside, take_objects}

abbrev pub is_failure : List ℕ → Bool
is_failure name = bytes_eq name (codes "failure")

abbrev pub is_string : Term → Bool
is_string term.Str = true
is_string _ = false

-- of a type that is not known too
abbrev pub may_be_string : Option Term → Bool
may_be_string (Some t) = is_string t
may_be_string None = true

abbrev pub is_string_or_any : Term → Bool
is_string_or_any term.Any = true
is_string_or_any t = is_string t

abbrev pub may_name_string : Option Term → Bool
may_name_string (Some t) = is_string_or_any t
may_name_string None = true

abbrev pub signals_in : Option Parts → Option ℕ
signals_in (Some parts) = parts.signals
signals_in None = None

-- `*` is the value of an arm that takes any objects
abbrev pub has_value : Option Node → Bool
has_value (Some node) = is_some node.value_token
has_value None = false

module _ (k : Known) where
  -- the first item of this name in a list of this kind
  abbrev pub first_named : ListKind → Option ℕ → Option ℕ → Option ℕ
  first_named its (Some top) (Some word) = get same k.tables.items.now.first (record { list = top; kind = its; word = word })
  first_named its _ _ = None

  abbrev pub number_of : List ℕ → Option ℕ
  number_of name = place_of k.tables.words.now name

  -- ---- what the routine round a node may signal; failure belongs to every routine, with one string

  -- the Exc of this name in its heading
  abbrev pub exception_named : ℕ → List ℕ → Option ℕ
  exception_named n name = first_named list.Exceptions (signals_in (parts_round k n)) (number_of name)

  abbrev pub is_listed : ℕ → List ℕ → Bool
  is_listed n name = is_failure name || is_some (exception_named n name)

  abbrev pub is_one_string : List (Option TypeId) → Bool
  is_one_string (of ∷ []) = may_be_string (term_of k of)
  is_one_string _ = false

  module _ (items : ℕ → Item) where
    -- an exception that is not listed is another rule's
    abbrev pub fits_exception : ℕ → List (Option TypeId) → Option ℕ → Bool
    fits_exception n given (Some exception) = fit k given (types_inside k items n (children k exception))
    fits_exception n given None = true

    abbrev pub fits_heading : ℕ → List ℕ → List (Option TypeId) → Bool
    fits_heading n name given = if is_failure name then is_one_string given else fits_exception n given (exception_named n name)

  -- ---- arms

  abbrev pub takes_any : ℕ → Bool
  takes_any arm = has_value (slice_get (nodes k) arm)

  -- the Decls of an arm
  abbrev pub arm_declarations : ℕ → List ℕ
  arm_declarations arm = run (nodes k) kind.Decl (children k arm)

  -- ---- what is raised in the statement of an Except or a Resignal

  -- of a name that isn't kept nothing is raised
  abbrev pub raised_if : RaisesId → Option NameId → List Raise
  raised_if set (Some name) = raises_named k.facts.now.raising set name
  raised_if set None = []

  abbrev pub raised_in : RaisesId → List ℕ → List Raise
  raised_in set name = raised_if set (named k.facts.now.finding.words name)

  -- the statement is the first child
  abbrev pub raised_first : List ℕ → List ℕ → List Raise
  raised_first (statement ∷ handlers) name = raised_in (raised_at k.facts.now statement) name
  raised_first [] name = []

  -- the raises of this name in the statement of e
  abbrev pub raised : ℕ → List ℕ → List Raise
  raised e name = raised_first (children k e) name

  -- the objects of a raise, by their types
  abbrev pub raised_objects : Raise → List (Option TypeId)
  raised_objects raise = map (λ of. Some of) (objects_of k.facts.now.raising raise)

  -- each raise of these names in the statement of e is taken
  abbrev pub takes_name : (List ℕ → Raise → Bool) → ℕ → List ℕ → Bool
  takes_name test e name = list_all (test name) (raised e name)

  abbrev pub takes_all : (List ℕ → Raise → Bool) → ℕ → List (List ℕ) → Bool
  takes_all test e names = list_all (takes_name test e) names

  module _ (items : ℕ → Item) where
    -- by the variables of these Decls, whatever its name
    abbrev pub arm_takes_raise : List ℕ → List ℕ → Raise → Bool
    arm_takes_raise declarations name raise = take_objects k items [] (raised_objects raise) declarations

    -- by the heading of the routine round e
    abbrev pub heading_takes_raise : ℕ → List ℕ → Raise → Bool
    heading_takes_raise e name raise = fits_heading items e name (raised_objects raise)

    abbrev pub takes : Taker → ℕ → List ℕ → Raise → Bool
    takes (taker.Arm declarations) e = arm_takes_raise declarations.now
    takes taker.Heading e = heading_takes_raise e

  -- ---- V23: an arm doesn't take the objects of a raise that it names, or that of others no string

  module _ (items : ℕ → Item) where
    abbrev pub arm_misfits_by : ℕ → ℕ → Bool
    arm_misfits_by n e = not (takes_any n) && not (takes_all (arm_takes_raise items (arm_declarations n)) e (names k n))

    abbrev pub arm_misfits : ℕ → Option ℕ → Bool
    arm_misfits n (Some e) = arm_misfits_by n e
    arm_misfits n None = false

    abbrev pub takes_string : ℕ → Option ℕ → Bool
    takes_string n (Some t) = may_name_string (term_of k (type_inside k.tables.file items n t))
    takes_string n None = true

    abbrev pub v23_at : NodeKind → ℕ → Bool
    v23_at kind.When n = arm_misfits n (round_at k.tables.file.rounds.now n).parent
    v23_at kind.Others n = not (takes_string n (type_of (nodes k) (children k n)))
    v23_at _ n = false

    abbrev pub v23 : ℕ → Bool
    v23 n = v23_at (kind_in k n) n

  -- ---- V25: signal or resignal of a name that is neither in the heading nor failure

  abbrev pub is_not_listed : NodeKind → ℕ → Bool
  is_not_listed kind.Signal n = not (list_all (is_listed n) (names k n))
  is_not_listed kind.Resignal n = not (list_all (is_listed n) (names k n))
  is_not_listed _ n = false

  -- ---- the arm to which an exit goes

  -- the first When of this name, from an Except in whose statement the exit stands outward
  abbrev pub arm_from : Option ℕ → Option ℕ → ℕ → Option ℕ
  arm_from word None steps = None
  arm_from word (Some e) zero = None
  arm_from word (Some e) (suc steps) = option_or (first_named list.WhenArms (Some e) word) (arm_from word (round_at k.tables.file.rounds.now e).guard steps)

  abbrev pub arm_named : ℕ → List (List ℕ) → Option ℕ
  arm_named n (name ∷ rest) = arm_from (number_of name) (round_at k.tables.file.rounds.now n).guard (length k.tables.file.rounds.now)
  arm_named n [] = None

  abbrev pub arm_for : ℕ → Option ℕ
  arm_for n = arm_named n (names k n)

  -- V27: no when arm of that name is round the exit in the routine
  abbrev pub lacks_arm : ℕ → Bool
  lacks_arm n = is_node k kind.Exit n && is_none (arm_for n)

  -- ---- V26: number or types of a signal, an exit or a raise that is resignalled don't fit; failure is listed with other
  -- than one string

  -- the values of a signal or an exit
  abbrev pub values_at : ℕ → List (Option TypeId)
  values_at n = map (type_at k) (children k n)

  module _ (items : ℕ → Item) where
    abbrev pub signals_other : ℕ → List (List ℕ) → Bool
    signals_other n (name ∷ rest) = not (fits_heading items n name (values_at n))
    signals_other n [] = false

    abbrev pub arm_takes : List Bool → List (Option TypeId) → Option ℕ → Bool
    arm_takes bad given (Some arm) = takes_any arm || take_objects k items bad given (arm_declarations arm)
    arm_takes bad given None = true

    abbrev pub is_other_failure : ℕ → List (List ℕ) → Bool
    is_other_failure n (name ∷ rest) = is_failure name && not (is_one_string (map (type_outside k.tables.file items n) (children k n)))
    is_other_failure n [] = false

    abbrev pub v26_at : List Bool → NodeKind → ℕ → Bool
    v26_at bad kind.Signal n = signals_other n (names k n)
    v26_at bad kind.Exit n = not (arm_takes bad (values_at n) (arm_for n))
    v26_at bad kind.Resignal n = not (takes_all (heading_takes_raise items n) n (names k n))
    v26_at bad kind.Exc n = is_other_failure n (names k n)
    v26_at bad _ n = false

    abbrev pub v26 : List Bool → ℕ → Bool
    v26 bad n = v26_at bad (kind_in k n) n
