-- The plan of what was reached: which codes, callables, strings, types and own variables a program has, by the list of its
-- instances and that of its primitive operations.
use Rattle.std.specs.Prelude.{◌≡◌, ℕ, suc, ◌+◌, ◌*◌, ◌==◌, ◌&&◌, Bool, false, if◌then◌else◌, List, [], ◌∷◌, ◌++◌, length, map, find, Option, Some, None, Result, Ok, Err, slice_get}
use Rattle.std.specs.List.{position, filter, list_any}
use Rattle.std.specs.Str.{bytes_eq}
use Rattle.clu_types.specs.CluType.{CluType, null_type, any_type, proc_of, iter_of, Actuals}
use Rattle.clu_types.specs.Substituted.{substituted}
use Rattle.clu_base.specs.declared.constants.Const.{Const}
use Rattle.clu_specs.specs.Texts.{type_text}
use Rattle.clu_specs.specs.Scopes.{any_scope}
use Rattle.clu_specs.specs.TypeReading.{type_read}
use Rattle.clu_specs.specs.UseReading.{whole_use}
use Rattle.clu_specs.specs.Seen.{Used, an_operation, own_set_up}
use Rattle.clu_library.specs.Contents.{Contents, body_of}
use Rattle.clu_library.specs.declared.body.Body.{Body}
use Rattle.clu_object.specs.declared.object.Hole.{Hole}
use Rattle.clu_object.specs.declared.object.ObjRoutine.{ObjRoutine}
use Rattle.clu_link_meaning.specs.Closed.{use_put, constant_put_in}
use Rattle.clu_link_meaning.specs.Same.{same_used}
use Rattle.clu_link_meaning.specs.Reach.{Source, of_module, of_builtin, source_of, parts_given}
use Rattle.clu_link_meaning.specs.Plan.{Plan, Code, Callable, or_none}
use Rattle.clu_link_meaning.specs.Bounds.{is_own}
use Rattle.rv_select.specs.Tables.{AreCutsOf}

-- ---- numbers of types: by their places, all differing

abbrev pub same_type : CluType → CluType → Bool
same_type a b = bytes_eq (type_text a) (type_text b)

abbrev pub number_by : CluType → ℕ → ℕ
number_by any_type place = 0
number_by (proc_of args results may) place = (place + 1) * 2 + 1
number_by (iter_of args results may) place = (place + 1) * 2 + 1
number_by t place = (place + 1) * 2

abbrev pub type_number : List CluType → CluType → ℕ
type_number types t = number_by t (or_none (position (same_type t) types))

abbrev pub type_put : Actuals → Result (CluType × List ℕ) ℕ → CluType
type_put given (Ok t) = substituted given t.0
type_put given (Err left) = null_type

abbrev pub type_in : Actuals → List ℕ → CluType
type_in given text = type_put given (type_read any_scope (length text) text)

-- ---- own variables: of an instance's routine; of all routines of a cluster instance; of the cluster round an instance in none

pub data Owner : Type 0 where
  of_routine of_no_cluster : ℕ → Owner
  of_cluster : CluType → Owner

abbrev pub same_owner : Owner → Owner → Bool
same_owner (of_routine m) (of_routine n) = m == n
same_owner (of_no_cluster m) (of_no_cluster n) = m == n
same_owner (of_cluster a) (of_cluster b) = same_type a b
same_owner _ _ = false

abbrev pub Owned : Type 0
Owned = Owner × ℕ

abbrev pub same_owned : Owned → Owned → Bool
same_owned a b = same_owner a.0 b.0 && (a.1 == b.1)

abbrev pub owner_round : ℕ → Used → Owner
owner_round n (an_operation t op) = of_cluster t
owner_round n (own_set_up t) = of_cluster t
owner_round n _ = of_no_cluster n

abbrev pub owned_by : ℕ → Used → Hole → Owned
owned_by n u h = (if h.kind == 3 then of_routine n else owner_round n u, h.number)

-- ---- codes: one for each routine, whatever its instances; one for each derived operation of a kind of types; one for each scheme

pub data CodeName : Type 0 where
  of_part : ℕ → CodeName
  of_kept : List ℕ → List ℕ → CodeName
  of_kind : ℕ → List ℕ → CodeName
  of_type : CluType → List ℕ → CodeName

abbrev pub given_of : Source → Actuals
given_of (of_module name routine cluster given) = given
given_of (of_builtin t op) = parts_given t

abbrev pub routine_in : List ℕ → Option Body → Option ObjRoutine
routine_in name None = None
routine_in name (Some b) = find (λ o. bytes_eq o.name name) b.object.routines

abbrev pub kept_as : List ℕ → List ℕ → Option ObjRoutine → Option (CodeName × ObjRoutine)
kept_as name routine None = None
kept_as name routine (Some o) = Some (of_kept name routine, o)

-- what is made for built-in types: by type and name the code's name and words, and the constants that a primitive one knows of
-- the type
pub record MadeCode : Type 0 where
  pub name : CodeName
  pub routine : ObjRoutine
  pub known : List Const

abbrev pub made_as : Option MadeCode → Option (CodeName × ObjRoutine)
made_as None = None
made_as (Some m) = Some (m.name, m.routine)

abbrev pub known_of : Option MadeCode → List Const
known_of None = []
known_of (Some m) = m.known

abbrev pub constants_of : Actuals → ObjRoutine → List (Option Const)
constants_of given o = map (constant_put_in given) o.constants

module _ (made : CluType → List ℕ → Option MadeCode) (own_type : Used → List (List ℕ) → CluType) where
  abbrev pub code_in : Contents → Source → Option (CodeName × ObjRoutine)
  code_in library (of_module name routine cluster given) = kept_as name routine (routine_in routine (body_of library name))
  code_in library (of_builtin t op) = made_as (made t op)

  abbrev pub all_constants : Source → ObjRoutine → List (Option Const)
  all_constants (of_module name routine cluster given) o = constants_of given o
  all_constants (of_builtin t op) o = map Some (known_of (made t op))

  -- the lists by which all is numbered: instances, primitive operations, names of codes, types, own variables
  pub record Numbered : Type 0 where
    pub instances : List Used
    pub primitives : List Used
    pub names : List CodeName
    pub types : List CluType
    pub owned : List Owned

  module _ (n : Numbered) where
    -- the callable of a use: instances first, then primitive operations
    abbrev pub callable_by : Option ℕ → ℕ → ℕ
    callable_by (Some i) other = i
    callable_by None other = length n.instances + other

    abbrev pub callable_of : Used → ℕ
    callable_of u = callable_by (position (same_used u) n.instances) (or_none (position (same_used u) n.primitives))

    abbrev pub used_in : Actuals → Result Used ℕ → ℕ
    used_in given (Ok u) = callable_of (use_put given u)
    used_in given (Err left) = 0

    abbrev pub is_some_of : Option ℕ → ℕ → Type 0
    is_some_of o k = o ≡ Some k

    -- a callable, by its number and what it is
    pub record IsCallable (library : Contents) (number : ℕ) (u : Used) (c : Callable) : Type 0 where
      pub name : CodeName
      pub routine : ObjRoutine
      pub found : code_in library (source_of u) ≡ Some (name, routine)
      pub code : slice_get n.names c.code ≡ Some name
      pub own : c.own ≡ type_number n.types (own_type u routine.types)
      pub uses : c.uses ≡ map (λ text. used_in (given_of (source_of u)) (whole_use text)) routine.uses
      pub constants : map Some c.constants ≡ all_constants (source_of u) routine
      pub variables : map (slice_get n.owned) c.variables ≡ map (λ h. Some (owned_by number u h)) (filter is_own routine.holes)
      pub types : c.types ≡ map (λ text. type_number n.types (type_in (given_of (source_of u)) text)) routine.types

    abbrev pub AreCallables : Contents → ℕ → List Used → List Callable → Type 0
    AreCallables library k [] [] = Unit {0}
    AreCallables library k (u ∷ us) (c ∷ cs) = IsCallable library k u c × AreCallables library (suc k) us cs
    AreCallables library k _ _ = ⊥

  -- none of a list is another's equal
  abbrev pub Differ : {X : Type 0} → (X → X → Bool) → List X → Type 0
  Differ eq [] = Unit {0}
  Differ eq (x ∷ xs) = (list_any (eq x) xs ≡ false) × Differ eq xs

  -- the codes, each once: that of a name is the one that its callables have; of its regions these are the cuts
  pub record IsProgram (library : Contents) (instances : List Used) (plan : Plan) : Type 0 where
    pub numbered : Numbered
    pub listed : numbered.instances ≡ instances
    pub named : length plan.codes ≡ length numbered.names
    pub callables : AreCallables numbered library 0 (numbered.instances ++ numbered.primitives) plan.callables
    pub code : (k : ℕ) (u : Used) (name : CodeName) (o : ObjRoutine) (c : Code) → code_in library (source_of u) ≡ Some (name, o) → slice_get numbered.names k ≡ Some name → slice_get plan.codes k ≡ Some c → c.routine ≡ o
    pub cuts : (k : ℕ) (c : Code) → slice_get plan.codes k ≡ Some c → AreCutsOf c.routine.regions c.cuts
    pub types : Differ same_type numbered.types
    pub owned : Differ same_owned numbered.owned
    pub primitives : Differ same_used numbered.primitives
    pub strings : Differ bytes_eq plan.strings
    pub variables : plan.variables ≡ length numbered.owned
