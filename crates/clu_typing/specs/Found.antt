-- The operations for which nodes stand are those that their types have, as they were found.
use Rattle.std.specs.Prelude.{◌≡◌, ◌<◌, ℕ, Bool, true, false, List, codes, length, option_map, slice_get, IfSome, Option, Some, None}
use Rattle.clu_types.specs.Arena.{type_at, types_of}
use Rattle.clu_types.specs.declared.term.Term.{Term}
use Rattle.clu_types.specs.declared.term.TypeId.{TypeId}
use Rattle.clu_settle.specs.Lists.{type_id}
use Rattle.clu_bindings.specs.declared.file.File.{File}
use Rattle.clu_bindings.specs.declared.file.Headed.{Headed}
use Rattle.clu_bindings.specs.Inside.{own_type}
use Rattle.clu_bindings.specs.Readers.{value_in}
use Rattle.clu_operations.specs.declared.finding.Finding.{Finding}
use Rattle.clu_operations.specs.declared.found.FoundId.{FoundId}
use Rattle.clu_operations.specs.Builtins.{ComponentsAscend}
use Rattle.clu_operations.specs.Finding.{Follows, IsBelowIf}
use Rattle.clu_operations.specs.Told.{Told, told}
use Rattle.clu_operations.specs.Wished.{told_at, told_seen, IsFinding}
use Rattle.clu_typing.specs.declared.applied.Use.{Use}
use Rattle.clu_typing.specs.declared.applied.Applied.{Applied}
use Rattle.clu_typing.specs.declared.applied.Applied.TheVariants as applied
use Rattle.clu_typing.specs.declared.facts.Operation.{Operation}
use Rattle.clu_typing.specs.declared.facts.Operation.TheVariants as operation
use Rattle.clu_typing.specs.Applied.{result_of}
use Rattle.clu_typing.specs.Facts.{operation_of, type_found}
use Rattle.clu_typing.specs.Nodes.{first_type}
use Rattle.clu_typing.specs.Stands.{Stands, for_nothing, for_invoked, for_named}

-- An operation or a module of a type, told by the terms of now, if the components of the type ascend.
pub record IsToldOf (terms : List Term) (finding : Finding) (of : TypeId) (it : Option Told) (its : Operation) : Type 0 where
  pub found : Option FoundId
  pub is : its ≡ operation_of found
  pub within : of.0 < length terms
  pub there : IfSome found (λ id. id.0 < length finding.founds.items)
  pub tells : ComponentsAscend (type_at (types_of terms) of) → option_map (told (types_of terms) finding) found ≡ it

-- more was found, and all of it is what was looked for
pub record FindsMore (h : Headed) (terms : List Term) (before now : Finding) : Type 0 where
  pub follows : Follows before now
  pub finding : IsFinding h terms now

module _ (h : Headed) (terms : List Term) (finding : Finding) where
  -- the routine of a module with the actual parameters of a type
  abbrev pub IsModuleTold : Option TypeId → Operation → Type 0
  IsModuleTold (Some of) its = IsToldOf terms finding of (told_seen h terms finding.words None of None) its
  IsModuleTold None its = its ≡ operation.Missing

  -- its type, as it was found
  abbrev pub IsModuleType : Option TypeId → Option TypeId → Type 0
  IsModuleType its of = (found : Operation) × IsModuleTold its found × (of ≡ type_found finding found)

  module _ (n : ℕ) where
    -- the operation of this name that a type has at the node
    pub record IsUseTold (of : TypeId) (name : List ℕ) (its : Use) : Type 0 where
      pub same : its.of ≡ of
      pub named : slice_get finding.words its.name.0 ≡ Some name
      pub told : IsToldOf terms finding of (told_at h terms finding.words n of its.name) its.operation

    -- if there is a type
    abbrev pub IsUseToldIf : Option TypeId → List ℕ → Option Use → Type 0
    IsUseToldIf (Some of) name (Some its) = IsUseTold of name its
    IsUseToldIf None name None = Unit {0}
    IsUseToldIf _ _ _ = ⊥

    -- behind a comparison with `~`, which gives this
    abbrev pub IsBehindTold : Bool → Option TypeId → Option Use → Type 0
    IsBehindTold true of second = IsUseToldIf of (codes "not") second
    IsBehindTold false of second = second ≡ None

    abbrev pub IsInvokedTold : Option TypeId → List ℕ → Bool → Applied → Type 0
    IsInvokedTold (Some of) name negated (applied.Invoked first second) = IsUseTold of name first × IsBehindTold negated (result_of terms (type_found finding first.operation)) second
    IsInvokedTold None name negated applied.Nothing = Unit {0}
    IsInvokedTold _ _ _ _ = ⊥

    abbrev pub IsNamedTold : Option TypeId → List ℕ → Applied → Type 0
    IsNamedTold of name (applied.Named its) = IsUseToldIf of name its
    IsNamedTold of name _ = ⊥

    -- that for which the node stands
    abbrev pub IsAppliedTold : Stands → Applied → Type 0
    IsAppliedTold for_nothing its = its ≡ applied.Nothing
    IsAppliedTold (for_invoked of name negated) its = IsInvokedTold of name negated its
    IsAppliedTold (for_named of name) its = IsNamedTold of name its

-- The types of operands are of the arena, of which there are so many.
pub record HaveOperands (f : File) (known : List (Option TypeId)) (types : ℕ) : Type 0 where
  pub first : (n : ℕ) → IsBelowIf types (first_type f known n)
  pub values : (n : ℕ) → IsBelowIf types (type_id (value_in f n))
  pub own : (n : ℕ) → IsBelowIf types (own_type f n)
