-- How a specification takes the place of a kept one.
use Rattle.std.specs.Prelude.{◌≡◌, ◌<◌, ◌≤◌, ◌+◌, ◌⊎◌, ℕ, Bool, true, false, not, List, [], ◌∷◌, Contains, length, Option, Some, None}
use Rattle.std.specs.List.{filter, list_any}
use Rattle.std.specs.Str.{bytes_eq}
use Rattle.clu_types.specs.Specs.{with_spec}
use Rattle.clu_types.specs.declared.spec.Spec.{Spec}
use Rattle.clu_library.specs.ByName.{with_item}
use Rattle.clu_library.specs.Contents.{Contents, HaveSameText, limit, with_new_spec}
use Rattle.clu_library.specs.Staleness.{IsStale, IsStaleBody}
use Rattle.clu_library.specs.declared.body.Change.{Change}
use Rattle.clu_library.specs.declared.body.ModuleBody.{ModuleBody}
use Rattle.clu_library.specs.declared.errors.EnterError.{EnterError}
use Rattle.clu_library.specs.declared.errors.EnterError.TheVariants as error
use Rattle.clu_library.specs.declared.program.Program.{Program}
use Rattle.clu_library.specs.declared.replacing.Kept.{Kept}
use Rattle.clu_library.specs.declared.replacing.Kept.TheVariants as kept

-- the last revision that a library has
abbrev pub last_revision : ℕ
last_revision = 4294967295

-- the changes, with one of a module after a revision
abbrev pub with_change : List Change → List ℕ → ℕ → List Change
with_change changes name revision = with_item (λ c. c.name) changes (record { name = name; revision = revision + 1 })

-- the library with a specification in the place of the kept one of its module, its programs as they were: the revision rises by one and
-- is that of the change, and the body goes
abbrev pub with_replaced : Contents → Spec → Contents
with_replaced library s = record library {
  revision = library.revision + 1;
  specs = with_spec library.specs s;
  changes = with_change library.changes s.name library.revision;
  bodies = filter (λ b. not (bytes_eq b.name s.name)) library.bodies;
}

-- a program has a module that was replaced, or whose body is stale
abbrev pub IsLost : Contents → List ℕ → List ℕ → Type 0
IsLost library replaced name = (name ≡ replaced) ⊎ IsStale library name

abbrev pub IsBroken : Contents → List ℕ → Program → Type 0
IsBroken library replaced p = (name : List ℕ) × Contains p.modules name × IsLost library replaced name

-- those that are left of some programs are all but those of which P holds
abbrev pub AreLeft : (Program → Type 0) → List Program → List Program → Type 0
AreLeft P [] left = left ≡ []
AreLeft P (p ∷ ps) left = (P p × AreLeft P ps left) ⊎ ((P p → ⊥) × ((rest : List Program) × (left ≡ p ∷ rest) × AreLeft P ps rest))

-- the library after a specification took the place of another one
abbrev pub IsReplaced : Contents → Spec → Contents → Type 0
IsReplaced before s after =
    (left : List Program) × (after ≡ record (with_replaced before s) { programs = left }) × AreLeft (IsBroken (with_replaced before s) s.name) before.programs left

-- the library after a specification was entered, by the kept one of its module, and whether it is new or differs
abbrev pub Replaces : Contents → Spec → Option Spec → Contents → Bool → Type 0
Replaces before s None after true = (length before.specs < limit) × (after ≡ with_new_spec before s)
Replaces before s None after false = ⊥
Replaces before s (Some kept) after true = (HaveSameText kept s → ⊥) × (before.revision < last_revision) × IsReplaced before s after
Replaces before s (Some kept) after false = HaveSameText kept s × (after ≡ before)

-- why one isn't entered that differs from the kept one
abbrev pub NotChanged : EnterError → Contents → Type 0
NotChanged error.Differs library = ⊥
NotChanged error.Full library = library.revision ≡ last_revision
NotChanged error.Memory library = Unit {0}

-- why one isn't entered
abbrev pub NotReplaced : EnterError → Contents → Spec → Option Spec → Type 0
NotReplaced error.Differs library s kept = ⊥
NotReplaced error.Memory library s kept = Unit {0}
NotReplaced error.Full library s None = limit ≤ length library.specs
NotReplaced error.Full library s (Some kept) = (HaveSameText kept s → ⊥) × (library.revision ≡ last_revision)

-- the programs that have none of some modules
abbrev pub has_any : List (List ℕ) → Program → Bool
has_any names p = list_any (λ name. list_any (bytes_eq name) names) p.modules

abbrev pub without_any : List (List ℕ) → List Program → List Program
without_any names programs = filter (λ p. not (has_any names p)) programs

-- these are the modules that are lost, unless there are no programs
pub record AreLost (library : Contents) (replaced : List ℕ) (names : List (List ℕ)) : Type 0 where
  pub lost : (name : List ℕ) → Contains names name → IsLost library replaced name
  pub all : (name : List ℕ) → IsLost library replaced name → Contains names name

abbrev pub AreLostIfAny : Contents → Spec → List (List ℕ) → Type 0
AreLostIfAny library s names = (library.programs ≡ []) ⊎ AreLost (with_replaced library s) s.name names

-- what is kept of the module of a specification
abbrev pub IsKept : Kept → Spec → Option Spec → Type 0
IsKept kept.Nothing s None = Unit {0}
IsKept kept.Nothing s (Some old) = ⊥
IsKept kept.Same s None = ⊥
IsKept kept.Same s (Some old) = HaveSameText old s
IsKept kept.Other s None = ⊥
IsKept kept.Other s (Some old) = HaveSameText old s → ⊥

-- the names are those that were there and those of the bodies that are stale
pub record AreStaleOf (specs : List Spec) (changes : List Change) (bodies : List ModuleBody) (start names : List (List ℕ)) : Type 0 where
  pub kept : (name : List ℕ) → Contains start name → Contains names name
  pub stale : (name : List ℕ) → Contains names name → Contains start name ⊎ ((b : ModuleBody) × Contains bodies b × (b.name ≡ name) × IsStaleBody specs changes b.name b.body)
  pub all : (b : ModuleBody) → Contains bodies b → IsStaleBody specs changes b.name b.body → Contains names b.name
