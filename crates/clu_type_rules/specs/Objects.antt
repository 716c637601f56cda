-- Objects by their types, and whether variables and the types of a heading take them.
use Rattle.std.specs.Prelude.{ℕ, ◌==◌, ◌&&◌, if◌then◌else◌, Bool, true, false, List, [], ◌∷◌, length, map, drop, replicate, flat_map, slice_get, Option, Some, None}
use Rattle.clu_syntax.specs.Items.{Item}
use Rattle.clu_types.specs.declared.term.TypeId.{TypeId}
use Rattle.clu_settle.specs.Names.{names_of}
use Rattle.clu_head.specs.Refused.{is_set}
use Rattle.clu_bindings.specs.Inside.{type_inside}
use Rattle.clu_type_rules.specs.declared.known.Known.{Known}
use Rattle.clu_type_rules.specs.declared.objects.Objects.{Objects}
use Rattle.clu_type_rules.specs.declared.objects.Objects.TheVariants as objects
use Rattle.clu_type_rules.specs.Included.{may_be}
use Rattle.clu_type_rules.specs.Known.{nodes, children, type_at}

module _ (k : Known) where
  -- the types of objects, as far as they are known
  abbrev pub types_of : Objects → List (Option TypeId)
  types_of (objects.Of types) = map (λ of. Some of) types.now
  types_of (objects.Values values) = map (type_at k) values.now
  types_of (objects.Value e) = type_at k e ∷ []

  -- each object may be one of the type at its place, as far as there are both
  abbrev pub each_may_be : List (Option TypeId) → List (Option TypeId) → Bool
  each_may_be given [] = true
  each_may_be [] (wanted ∷ rest) = true
  each_may_be (given ∷ more) (wanted ∷ rest) = may_be k.tables.types.now given wanted && each_may_be more rest

  -- and there are as many
  abbrev pub fit : List (Option TypeId) → List (Option TypeId) → Bool
  fit given wanted = length given == length wanted && each_may_be given wanted

  -- the names of the variables that a node declares, and their types: one in which a rule is violated takes all
  abbrev pub names : ℕ → List (List ℕ)
  names d = names_of (slice_get (nodes k) d)

  module _ (items : ℕ → Item) where
    -- the types at nodes as the body in which the node n stands sees them
    abbrev pub types_inside : ℕ → List ℕ → List (Option TypeId)
    types_inside n ts = map (type_inside k.tables.file items n) ts

    abbrev pub first_inside : ℕ → List ℕ → Option TypeId
    first_inside d (t ∷ ts) = type_inside k.tables.file items d t
    first_inside d [] = None

    abbrev pub declared_type : List Bool → ℕ → Option TypeId
    declared_type bad d = if is_set (slice_get bad d) then None else first_inside d (children k d)

    -- those of its variables, one for each name
    abbrev pub variables_of : List Bool → ℕ → List (Option TypeId)
    variables_of bad d = replicate (length (names d)) (declared_type bad d)

    -- and those of Decls
    abbrev pub declared_types : List Bool → List ℕ → List (Option TypeId)
    declared_types bad ds = flat_map (variables_of bad) ds

    -- each object may be named by the variable at its place, Decl after Decl, as far as there are both
    abbrev pub may_name_each : List Bool → List (Option TypeId) → List ℕ → Bool
    may_name_each bad given [] = true
    may_name_each bad given (d ∷ ds) = each_may_be given (variables_of bad d) && may_name_each bad (drop (length (names d)) given) ds

    -- and there are as many
    abbrev pub take_objects : List Bool → List (Option TypeId) → List ℕ → Bool
    take_objects bad given ds = length (declared_types bad ds) == length given && may_name_each bad given ds
