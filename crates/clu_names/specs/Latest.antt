-- The declaration that counts of each name, among those whose scope has begun.
use Rattle.std.specs.Prelude.{◌≡◌, ◌<◌, ◌≤◌, ◌&&◌, ◌||◌, ◌==◌, nat_lt, nat_le, not, if◌then◌else◌, Bool, true, false, ℕ, List, slice_get, Option, Some, None}
use Rattle.std.specs.Str.{bytes_eq}
use Rattle.clu_names.specs.declared.scopes.Declared.{Declared}
use Rattle.clu_names.specs.Denotes.{rank}

-- the declaration e at j doesn't count where d at b does
pub record IsUnder (e : Declared) (j : ℕ) (d : Declared) (b : ℕ) : Type 0 where
  pub small : rank e ≤ rank d
  pub first : rank e ≡ rank d → b ≤ j

-- the declaration d at b is the one that counts of those that pass the test
pub record IsBestAt (test : ℕ → Declared → Type 0) (ds : List Declared) (b : ℕ) (d : Declared) : Type 0 where
  pub there : slice_get ds b ≡ Some d
  pub passes : test b d
  pub best : (j : ℕ) (e : Declared) → slice_get ds j ≡ Some e → test j e → IsUnder e j d b

abbrev pub IsBest : (ℕ → Declared → Type 0) → List Declared → Option ℕ → Type 0
IsBest test ds None = (j : ℕ) (e : Declared) → slice_get ds j ≡ Some e → test j e → ⊥
IsBest test ds (Some b) = (d : Declared) × IsBestAt test ds b d

abbrev pub is_local : Option ℕ → Bool
is_local (Some unit) = true
is_local None = false

-- a module of this name among the first k declarations
pub record IsModuleSoFar (name : List ℕ) (k j : ℕ) (d : Declared) : Type 0 where
  pub named : d.name ≡ name
  pub of_none : is_local d.unit ≡ false
  pub before : j < k

-- a declaration of this name in a module whose scope begins before the node n, or there at a place before i
pub record IsLocalSoFar (name : List ℕ) (n i j : ℕ) (d : Declared) : Type 0 where
  pub named : d.name ≡ name
  pub of_unit : is_local d.unit ≡ true
  pub begun : d.from ≤ n
  pub before : d.from ≡ n → j < i

-- for each name the first of the modules among the first k declarations
pub record AreModules (ds : List Declared) (k : ℕ) (first : List ℕ → Option ℕ) : Type 0 where
  pub each : (name : List ℕ) → IsBest (IsModuleSoFar name k) ds (first name)

-- for each name the one that counts of those whose scope has begun
pub record AreLocals (ds : List Declared) (n i : ℕ) (latest : List ℕ → Option ℕ) : Type 0 where
  pub each : (name : List ℕ) → IsBest (IsLocalSoFar name n i) ds (latest name)

-- what counts of a name after the declaration d at j came, where `best` counted
abbrev pub outlasts : Declared → ℕ → Option Declared → Option ℕ → Bool
outlasts d j (Some e) (Some b) = nat_lt e.to d.to || (e.to == d.to && nat_lt j b)
outlasts d j _ _ = true

abbrev pub at : List Declared → Option ℕ → Option Declared
at ds (Some b) = slice_get ds b
at ds None = None

-- what counts of each name after the declaration d at j came
abbrev pub with_local : List Declared → Declared → ℕ → (List ℕ → Option ℕ) → List ℕ → Option ℕ
with_local ds d j latest name =
    if bytes_eq d.name name && (is_local d.unit && outlasts d j (at ds (latest d.name)) (latest d.name)) then Some j else latest name

abbrev pub is_none : Option ℕ → Bool
is_none None = true
is_none (Some b) = false

-- the first module of each name after the declaration d at j came
abbrev pub with_module : Declared → ℕ → (List ℕ → Option ℕ) → List ℕ → Option ℕ
with_module d j first name = if bytes_eq d.name name && (not (is_local d.unit) && is_none (first d.name)) then Some j else first name

abbrev pub local_at : List Declared → Option Declared → ℕ → (List ℕ → Option ℕ) → List ℕ → Option ℕ
local_at ds (Some d) j latest name = with_local ds d j latest name
local_at ds None j latest name = latest name

abbrev pub module_at : Option Declared → ℕ → (List ℕ → Option ℕ) → List ℕ → Option ℕ
module_at (Some d) j first name = with_module d j first name
module_at None j first name = first name

-- the scope of what counts goes to the node n
abbrev pub reaches : ℕ → Option Declared → Bool
reaches n (Some d) = nat_le n d.to
reaches n None = false

-- what counts at the node n, where `latest` and `first` count among the declarations of the text and the modules
abbrev pub denoted : List Declared → ℕ → Option ℕ → Option ℕ → Option ℕ
denoted ds n latest first = if reaches n (at ds latest) then latest else first
