-- What the type of an expression comes of, where it comes of that for which the expression stands and of what stands in it.
use Rattle.std.specs.Prelude.{◌≡◌, ℕ, Bool, false, List, Option, Some}
use Rattle.clu_types.specs.declared.term.Term.{Term}
use Rattle.clu_types.specs.declared.term.TypeId.{TypeId}
use Rattle.clu_syntax.specs.Syntax.{Expression, an_infix, a_prefix, a_paren, a_literal, a_name, an_index, a_get, a_call, fields, elements, elements_from, an_operation, a_force, an_up, a_down}
use Rattle.clu_meaning.specs.Scoping.{is_routine_of_cluster}
use Rattle.clu_meaning.specs.Settling.{type_settled}
use Rattle.clu_bindings.specs.declared.file.Headed.{Headed}
use Rattle.clu_bindings.specs.declared.meaning.Meaning.TheVariants as meant
use Rattle.clu_bindings.specs.Inside as bound
use Rattle.clu_bindings.specs.Readers.{meaning_in}
use Rattle.clu_checking.specs.Files.{File, meaning}
use Rattle.clu_checking.specs.Headings.{own_type}
use Rattle.clu_checking.specs.Typing.{type_of, takes_actuals, representation}
use Rattle.clu_typing.specs.Nodes.{has_actuals, first_type, first_settled}
use Rattle.clu_passes.specs.ConstantTables.{Means}
use Rattle.clu_passes.specs.FactTables.{IsType}

-- Of names those of routines of the cluster round the node, and no module with actual parameters.
module _ (f : File) (h : Headed) (terms : List Term) (known : List (Option TypeId)) (n : ℕ) where
  abbrev pub HasParts : Expression → Type 0
  HasParts (a_paren m e) = IsType terms (first_type h.file known n) (type_of f e)
  HasParts (a_call m e es) = IsType terms (first_type h.file known n) (type_of f e)
  HasParts (a_name m name) = (meaning_in h.file n ≡ meant.RoutineOfCluster) × (meaning f m name ≡ is_routine_of_cluster)
  HasParts (an_index m (a_name k name) cs) = (has_actuals h.file n ≡ false) × (takes_actuals f k name ≡ false)
  HasParts (an_index m e cs) = has_actuals h.file n ≡ false
  HasParts (fields m t cs) = IsType terms (first_settled h.file n) (Some (type_settled f.scope t))
  HasParts (elements m t es) = IsType terms (first_settled h.file n) (Some (type_settled f.scope t))
  HasParts (elements_from m t e es) = IsType terms (first_settled h.file n) (Some (type_settled f.scope t))
  HasParts (a_force m t) = IsType terms (first_settled h.file n) (Some (type_settled f.scope t))
  HasParts (an_up m e) = IsType terms (bound.own_type h.file n) (own_type f m)
  HasParts (a_down m e) = IsType terms (bound.representation h n) (representation f m)
  HasParts _ = Unit {0}

-- the node of an expression
abbrev pub number_of : Expression → ℕ
number_of (an_infix m o a b) = m
number_of (a_prefix m s e) = m
number_of (a_paren m e) = m
number_of (a_literal m literal) = m
number_of (a_name m name) = m
number_of (an_index m e cs) = m
number_of (a_get m e name) = m
number_of (a_call m e es) = m
number_of (fields m t cs) = m
number_of (elements m t es) = m
number_of (elements_from m t e es) = m
number_of (an_operation m t name) = m
number_of (a_force m t) = m
number_of (an_up m e) = m
number_of (a_down m e) = m

-- What names stand for that are read of an expression at the node n beside its operands: after which names brackets hold actual
-- parameters, a type that is named, and what the name itself means.
module _ (f : File) (h : Headed) (terms : List Term) (n : ℕ) where
  abbrev pub HasNames : Expression → Type 0
  HasNames (an_index m (a_name k name) cs) = has_actuals h.file n ≡ takes_actuals f k name
  HasNames (an_index m e cs) = has_actuals h.file n ≡ false
  HasNames (an_operation m t name) = IsType terms (first_settled h.file n) (Some (type_settled f.scope t))
  HasNames (a_name m name) = IsType terms (bound.own_type h.file n) (own_type f m) × Means f.nodes (meaning_in h.file n) (meaning f m name)
  HasNames _ = Unit {0}
