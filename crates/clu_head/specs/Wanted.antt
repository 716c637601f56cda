-- The types that are wanted of operations: those at the nodes of Opers, and for an `in` clause with its parameter in the place of
-- the variable of its set.
use Rattle.std.specs.Prelude.{◌≡◌, ℕ, zero, suc, ◌<◌, if◌then◌else◌, List, [], ◌∷◌, ◌++◌, length, slice_get, Option, Some, None}
use Rattle.std.specs.List.{AllZip}
use Rattle.clu_tree.specs.declared.node.Node.{Node}
use Rattle.clu_tree.specs.declared.node.NodeKind.TheVariants as kind
use Rattle.clu_syntax.specs.declared.round.Round.{Round}
use Rattle.clu_syntax.specs.Splits.{children_of}
use Rattle.clu_types.specs.CluType.{parameter}
use Rattle.clu_types.specs.Arena.{type_at, types_of}
use Rattle.clu_types.specs.Substituted.{substituted}
use Rattle.clu_types.specs.declared.term.TypeId.{TypeId}
use Rattle.clu_types.specs.declared.term.Term.{Term}
use Rattle.clu_settle.specs.declared.value.Value.{Value}
use Rattle.clu_settle.specs.Lists.{type_id, value_of}
use Rattle.clu_head.specs.declared.head.Demanded.{Demanded}
use Rattle.clu_head.specs.declared.clauses.InSet.{InSet}
use Rattle.clu_head.specs.declared.clauses.Asking.{Asking}
use Rattle.clu_head.specs.declared.known.Known.{Known}
use Rattle.clu_head.specs.Asking.{asked_at, demanded_by, names_in}
use Rattle.clu_head.specs.Refused.{grows_in}
use Rattle.clu_head.specs.There.{is_there}
use Rattle.clu_head.specs.Unchanged.{only}

-- ---- the types at nodes

module _ (counts : List ℕ) (rounds : List Round) (values : List Value) where
  -- that at the node n, unless it is refused
  unfoldable pub wanted_at : ℕ → Option TypeId
  wanted_at n = if grows_in counts (slice_get rounds n) n then None else type_id (value_of values n)

  abbrev pub first_wanted : List ℕ → Option TypeId
  first_wanted [] = None
  first_wanted (c ∷ cs) = wanted_at c

  -- that of an Oper
  abbrev pub wanted_of : Option Node → Option TypeId
  wanted_of its = if is_there kind.Oper its then first_wanted (children_of its) else None

-- ---- with a parameter in the place of a variable

-- the type of id is that of t with the parameter put in for the variable, both in this arena
unfoldable pub IsPutIn : List Term → ℕ → ℕ → TypeId → TypeId → Type 0
IsPutIn types variable p t id = (t.0 < length types) × (id.0 < length types) × (type_at (types_of types) id ≡ substituted (only variable (parameter p)) (type_at (types_of types) t))

-- the number of that type in an arena as it is then; it has none if the type was not of the arena before
unfoldable pub IsPut : List Term → List Term → ℕ → ℕ → TypeId → Option TypeId → Type 0
IsPut old new variable p t (Some id) = IsPutIn new variable p t id
IsPut old new variable p t None = 0 < variable → t.0 < length old → ⊥

-- the same, if there is a type
unfoldable pub IsPutIf : List Term → List Term → ℕ → ℕ → Option TypeId → Option TypeId → Type 0
IsPutIf old new variable p (Some t) found = IsPut old new variable p t found
IsPutIf old new variable p None found = found ≡ None

-- what is wanted by one who asks of this parameter, where a type stands for what is asked
unfoldable pub IsWanted : List Term → List Term → Option InSet → ℕ → Option TypeId → Option TypeId → Type 0
IsWanted old new (Some set) p of found = IsPutIf old new set.variable p of found
IsWanted old new None p of found = found ≡ of

-- ---- what is asked

-- lists one behind the other
abbrev pub one_list : List (List Demanded) → List Demanded
one_list [] = []
one_list (ds ∷ more) = ds ++ one_list more

module _ (k : Known) (old new : List Term) where
  -- by the node of an Oper
  unfoldable pub HaveNamed : Asking → Node → List Demanded → List Demanded → Type 0
  HaveNamed a node before behind = (w : Option TypeId) × IsWanted old new a.set a.parameter (first_wanted k.refused.now k.rounds.now k.values.now node.children) w × (behind ≡ before ++ demanded_by a w node.names)

  -- by one who asks
  unfoldable pub IsAskedBy : Asking → List Demanded → Type 0
  IsAskedBy a ds =
      (w : Option TypeId) × IsWanted old new a.set a.parameter (wanted_of k.refused.now k.rounds.now k.values.now (slice_get k.syntax.now a.oper)) w
      × (ds ≡ (if is_there kind.Oper (slice_get k.syntax.now a.oper) then demanded_by a w (names_in k.syntax.now (slice_get k.syntax.now a.oper)) else []))

  -- by several
  unfoldable pub AreAsked : List Asking → List Demanded → Type 0
  AreAsked all ds = (pieces : List (List Demanded)) × (ds ≡ one_list pieces) × AllZip IsAskedBy all pieces

  -- what is appended is asked by these
  unfoldable pub HaveAsked : List Asking → List Demanded → List Demanded → Type 0
  HaveAsked all before behind = (made : List Demanded) × (behind ≡ before ++ made) × AreAsked all made

-- who asks, of the nodes below n
unfoldable pub asked_to : Known → ℕ → List Asking
asked_to k zero = []
asked_to k (suc n) = asked_to k n ++ asked_at k.syntax.now k.rounds.now k.counts.now k.restricted.now n
