-- What a refusal of the checks speaks of.
use Rattle.std.specs.Prelude.{◌≡◌, ◌≤◌, ◌&&◌, ◌==◌, Bool, true, List, Option, Some, None, Result, Ok, Err}
use Rattle.std.specs.List.{list_any}
use Rattle.clu_base.specs.Rules.{number_of}
use Rattle.clu_base.specs.declared.rules.Refused.{Refused}
use Rattle.clu_base.specs.declared.tokens.Place.{Place}
use Rattle.clu_check_mod.specs.declared.errors.CheckError.{CheckError}
use Rattle.clu_check_mod.specs.declared.errors.CheckError.TheVariants as error
use Rattle.clu_tree.specs.declared.node.Node.{Node}

-- a node stands at the place
abbrev pub is_at : Place → Node → Bool
is_at place node = (node.place.line == place.line) && (node.place.col == place.col)

-- a refusal is by one of V4 to V37, at the place of a node
abbrev pub IsOfTree : List Node → CheckError → Type 0
IsOfTree nodes (error.Refused r) = (4 ≤ number_of r.rule) × (list_any (is_at r.place) nodes ≡ true)
IsOfTree nodes error.Memory = Unit {0}
IsOfTree nodes error.NotYet = Unit {0}

-- a walk answers by this refusal, or that there is none; that memory runs out may be answered always
abbrev pub IsToldBy : CheckError → Option Refused → Type 0
IsToldBy (error.Refused r) first = first ≡ Some r
IsToldBy error.Memory first = Unit {0}
IsToldBy error.NotYet first = ⊥

abbrev pub IsTold : {A : Type 0} → Result A CheckError → Option Refused → Type 0
IsTold (Ok found) first = first ≡ None
IsTold (Err e) first = IsToldBy e first
