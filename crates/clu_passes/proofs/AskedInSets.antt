-- What a type set asks, with the types that are wanted, is what the definition asks of the parameter that stands for its variable:
-- of another one, by `in`, and of its own.
use Rattle.std.proofs.Common.{◌≡◌, ◌∙◌, ℕ, ◌+◌, ◌<◌, min, Bool, true, false, if◌then◌else◌, List, [], ◌∷◌, ◌++◌, map, length, Option, Some, None, refl, sym, ap, ap₂, subst, arith}
use Rattle.std.specs.Prelude.{slice_get}
use Rattle.std.specs.List.{AllByRecursion, AllZip}
use Rattle.std.specs.Option.{option_map}
use Rattle.std.proofs.lemmas.List.{map-append}
use Rattle.std.proofs.lemmas.Option.{slice_get_within}
use Rattle.clu_base.specs.declared.constants.Const.{Const}
use Rattle.clu_tree.specs.declared.node.Node.{Node}
use Rattle.clu_tree.specs.declared.node.NodeKind.{NodeKind}
use Rattle.clu_tree.specs.declared.node.NodeKind.TheVariants as kind
use Rattle.clu_parser.specs.Trees.{Text}
use Rattle.clu_types.specs.CluType.{CluType, Actuals, no_actuals, parameter}
use Rattle.clu_types.specs.Arena.{type_at, types_of}
use Rattle.clu_types.specs.Substituted.{substituted, type_put}
use Rattle.clu_types.proofs.Identity.{substituted-none}
use Rattle.clu_types.specs.declared.term.TypeId.{TypeId}
use Rattle.clu_types.specs.declared.term.Term.{Term}
use Rattle.clu_syntax.specs.Kinds.{is_type, kind_at, kind_of}
use Rattle.clu_syntax.specs.Rounds.{AreRounds, round_at}
use Rattle.clu_syntax.specs.Slots.{slots}
use Rattle.clu_syntax.specs.Splits.{is_of, child, first_name, run, leading}
use Rattle.clu_syntax.specs.Syntax.{Identifier, Typed}
use Rattle.clu_syntax.specs.Items.{operations_at}
use Rattle.clu_syntax.specs.Nodes.{before, item_at}
use Rattle.clu_names.specs.Scopes.{declarations}
use Rattle.clu_meaning.specs.Scoping.{Scope}
use Rattle.clu_meaning.specs.Settling.{type_settled}
use Rattle.clu_checking.specs.Specifications.{Demand, Specification}
use Rattle.clu_checking.specs.Files.{File, is_refused, scope_in}
use Rattle.clu_checking.specs.Equates.{type_node, unless_refused, asked_at, demands_for, operations_asked, with_variable}
use Rattle.clu_declares.specs.Declares.{AreFew, IsParsed}
use Rattle.clu_declares.proofs.Below.{same_kind}
use Rattle.clu_declares.proofs.Facts.{There, there, all_take}
use Rattle.clu_settle.specs.Parameters.{counted}
use Rattle.clu_settle.specs.Settled.{AreSettled}
use Rattle.clu_settle.specs.Values.{AreWithin}
use Rattle.clu_settle.proofs.Shapes.{AreParts, FirstPart, first_part}
use Rattle.clu_head.specs.declared.head.Demanded.{Demanded}
use Rattle.clu_head.specs.declared.clauses.InSet.{InSet}
use Rattle.clu_head.specs.declared.clauses.Asking.{Asking}
use Rattle.clu_head.specs.declared.known.Known.{Known}
use Rattle.clu_head.specs.Asking.{asked_by_opers, demanded, demanded_by, names_in}
use Rattle.clu_head.specs.There.{is_there}
use Rattle.clu_head.specs.Unchanged.{only}
use Rattle.clu_head.specs.Wanted.{wanted_of, IsPutIn, IsPut, IsPutIf, IsWanted, IsAskedBy, one_list, AreAsked}
use Rattle.clu_operations.specs.Finding.{IsBelowIf}
use Rattle.clu_passes.specs.Told.{demand_told}
use Rattle.clu_passes.specs.DemandsTold.{AreOpersCounted, AreOpersLost}
use Rattle.clu_passes.specs.Heads.{file_known}
use Rattle.clu_passes.proofs.AskedTypes as asked
use Rattle.clu_passes.proofs.HeadNumbers.{of_below}
use Rattle.clu_passes.proofs.OnlyPut.{only_keeps, only_put, only_beside, none_keep, none_put}
use Rattle.clu_passes.proofs.PutMeanings.{TypeIn, settled_put}
use Rattle.clu_passes.proofs.PutTypes.{KeepConstants}
use Rattle.clu_passes.proofs.SetMeanings as meant
use Rattle.clu_passes.proofs.Units.{is_inner, has_unit}

-- ---- types that are put in

unless_put : (g : CluType → CluType) (b : Bool) (t : CluType) → option_map g (if b then None else Some t) ≡ (if b then None else Some (g t))
unless_put g true t = refl
unless_put g false t = refl

module _ (old new : List Term) (variable p : ℕ) (from : 0 < variable) where
  abbrev types : List CluType
  types = types_of new

  abbrev put : CluType → CluType
  put = substituted (only variable (parameter p))

  wanted_put : (of w : Option TypeId) → IsBelowIf (length old) of → IsPutIf old new variable p of w → option_map (type_at types) w ≡ option_map put (option_map (type_at types) of)
  unfolding IsPutIf IsPut IsPutIn
  wanted_put (Some t) (Some id) below is = ap Some is.2
  wanted_put (Some t) None below is = absurd (is from below)
  wanted_put None w below is = ap (option_map (type_at types)) is

module _ (t : Text) (k : Known) (library : List Specification) (refused : List ℕ) (parsed : IsParsed t k.syntax.now) (surrounded : AreRounds k.syntax.now k.rounds.now) (few : AreFew k.syntax.now k.rounds.now)
    (counted_so : AreOpersCounted (file_known k (scope_in k.syntax.now k.rounds.now) library refused) k.refused.now) (old new : List Term) (constant_many : ℕ) (constants : List Const) (known : AreSettled k.syntax.now (scope_in k.syntax.now k.rounds.now) new constants k.values.now)
    (within : AreWithin (length old) constant_many k.values.now) (lost : AreOpersLost (file_known k (scope_in k.syntax.now k.rounds.now) library refused) k.values.now) where
  abbrev nodes : List Node
  nodes = k.syntax.now

  abbrev scope : Scope
  scope = scope_in k.syntax.now k.rounds.now

  abbrev f : File
  f = file_known k scope library refused

  abbrev told : List Demanded → List Demand
  told ds = map (demand_told (types_of new)) ds

  abbrev typed : (c : ℕ) → There nodes c kind.Oper → Typed
  typed c x = asked.typed k scope library refused parsed.forms parsed.tree counted_so old new constants known lost c x

  module _ (s : ℕ) (node : Node) (at : slice_get nodes s ≡ Some node) (is : node.kind ≡ kind.TypeSet) where
    pub inner : is_inner (kind_at nodes s) ≡ true
    inner = ap is_inner (ap kind_of at ∙ is)

    -- the module in which it stands
    abbrev pub u : ℕ
    u = (has_unit t nodes k.rounds.now parsed surrounded s inner).0

    pub unit : (round_at k.rounds.now s).unit ≡ Some u
    unit = (has_unit t nodes k.rounds.now parsed surrounded s inner).1

    abbrev pub Stands : ℕ → Type 0
    Stands c = meant.Stands t nodes k.rounds.now parsed surrounded few u c

    abbrev pub variable : ℕ
    variable = meant.variable t nodes k.rounds.now parsed surrounded few u s node at is unit

    -- the number of its variable, as the code reckons it
    pub number_there : min (min (s + 1) 4294967295 + counted nodes k.rounds.now (declarations nodes k.rounds.now) u (length (declarations nodes k.rounds.now))) 4294967295 ≡ variable
    number_there = let small = meant.number_small t nodes k.rounds.now parsed surrounded few u s node at is unit s (slice_get_within nodes s node at) in omega (arith, small)

    abbrev variable_scope : ℕ → Scope
    variable_scope p = with_variable f s (first_name node.names) p

    -- the type of one of its Opers, with a parameter in the place of the variable
    module _ (given : Actuals) (keep : KeepConstants given) (p : ℕ) (put : type_put given variable ≡ parameter p) (beside : (j : ℕ) → (j ≡ variable → ⊥) → type_put given j ≡ parameter j) where
      typed_put : (c : ℕ) (x : There nodes c kind.Oper) → Stands c → type_settled (variable_scope p) (typed c x).type ≡ substituted given (type_settled scope (typed c x).type)
      typed_put c x stands =
          let first : FirstPart nodes parsed.tree parsed.forms is_type [] c x.node = first_part nodes parsed.tree parsed.forms is_type [] c x.node x.at (ap slots x.is) in
          let all : AllByRecursion Stands x.node.children = meant.children_in t nodes k.rounds.now parsed surrounded few u c x.node x.at stands in
          let below : Stands (child 0 x.node) = (subst (AllByRecursion Stands) first.is all).0 in
          let its : TypeIn Stands (item_at nodes (child 0 x.node)).type = (meant.names_stand t nodes k.rounds.now parsed surrounded few u (child 0 x.node) below).type in
          settled_put Stands given keep scope (meant.bindings t nodes k.rounds.now parsed surrounded few u s node at is unit given p put beside)
          (meant.names_put t nodes k.rounds.now parsed surrounded few u s node at is unit given p put beside) (typed c x).type
          (subst (TypeIn Stands) (sym (asked.its_type k scope library refused parsed.forms parsed.tree counted_so old new constants known lost c x)) its)

    -- ---- by `in`

    module _ (n p : ℕ) where
      abbrev its_set : InSet
      its_set = record { node = n; variable = variable }

      abbrev asking : ℕ → Asking
      asking oper = record { oper = oper; parameter = p; set = Some its_set }

      abbrev given : Actuals
      given = only variable (parameter p)

      from_one : 0 < variable
      from_one = omega arith

      oper_put : (c : ℕ) (x : There nodes c kind.Oper) → Stands c → type_settled (variable_scope p) (typed c x).type ≡ substituted given (type_settled scope (typed c x).type)
      oper_put c x stands = typed_put given (only_keeps variable (parameter p)) p (only_put variable (parameter p) from_one) (only_beside variable (parameter p) from_one) c x stands

      names_told : (c : ℕ) (w : Option TypeId) (wanted : Option CluType) → option_map (type_at (types_of new)) w ≡ wanted → (names : List Identifier)
          → told (demanded_by (asking c) w names) ≡ map (asked_at f n) (map (λ name. let one : Demand = record { node = c; parameter = p; operation = name; wanted = wanted; in_set = false } in one) names)
      unfolding demanded
      names_told c w wanted same [] = refl
      names_told c w wanted same (name ∷ names) = ap₂ (λ (d : Demand) (ds : List Demand). d ∷ ds) (ap (λ (o : Option CluType). let one : Demand = record { node = n; parameter = p; operation = name; wanted = o; in_set = true } in one) same) (names_told c w wanted same names)

      one_told : (c : ℕ) (x : There nodes c kind.Oper) → Stands c → (ds : List Demanded) → IsAskedBy k old new (asking c) ds → told ds ≡ map (asked_at f n) (demands_for f (variable_scope p) c p (typed c x).type false x.node.names)
      unfolding IsAskedBy IsWanted
      one_told c x stands ds by =
          let of : Option TypeId = wanted_of k.refused.now k.rounds.now k.values.now (slice_get nodes c) in
          let wanted : option_map (type_at (types_of new)) by.0 ≡ unless_refused f (type_node (typed c x).type) (type_settled (variable_scope p) (typed c x).type) =
          wanted_put old new variable p from_one of by.0 (of_below k (length old) constant_many within (slice_get nodes c)) by.1
          ∙ ap (option_map (substituted given)) (asked.wanted_so k scope library refused parsed.forms parsed.tree counted_so old new constants known lost c x)
          ∙ unless_put (substituted given) (is_refused f (type_node (typed c x).type)) (type_settled scope (typed c x).type)
          ∙ ap (unless_refused f (type_node (typed c x).type)) (sym (oper_put c x stands)) in
          ap told (by.2
          ∙ ap (λ (o : Option Node). if is_there kind.Oper o then demanded_by (asking c) by.0 (names_in nodes o) else []) x.at
          ∙ ap (λ (j : NodeKind). if is_of kind.Oper j then demanded_by (asking c) by.0 x.node.names else []) x.is)
          ∙ names_told c by.0 (unless_refused f (type_node (typed c x).type) (type_settled (variable_scope p) (typed c x).type)) wanted x.node.names

      all_told : (cs : List ℕ) → AreParts nodes (is_of kind.Oper) s cs → AllByRecursion Stands cs → (pieces : List (List Demanded)) → AllZip (IsAskedBy k old new) (asked_by_opers p (Some its_set) cs) pieces
          → told (one_list pieces) ≡ map (asked_at f n) (operations_asked f (variable_scope p) p (operations_at (before s (item_at nodes)) cs))
      all_told [] ps stand [] by = refl
      all_told [] ps stand (q ∷ qs) by = absurd by
      all_told (c ∷ cs) ps stand [] by = absurd by
      all_told (c ∷ cs) ps stand (q ∷ qs) by =
          let x = there nodes c kind.Oper refl (same_kind kind.Oper (kind_at nodes c) ps.0.1) in
          let same = asked.operation_is k scope library refused parsed.forms parsed.tree counted_so old new constants known lost p s c ps.0.0 x in
          map-append (demand_told (types_of new)) q (one_list qs)
          ∙ ap₂ (λ (xs ys : List Demand). xs ++ ys) (one_told c x stand.0 q by.0) (all_told cs ps.1 stand.1 qs by.1)
          ∙ sym (map-append (asked_at f n) (demands_for f (variable_scope p) c p (typed c x).type false x.node.names) (operations_asked f (variable_scope p) p (operations_at (before s (item_at nodes)) cs)))
          ∙ sym (ap (λ (d : Typed). map (asked_at f n) (operations_asked f (variable_scope p) p (d ∷ operations_at (before s (item_at nodes)) cs))) same)

      pub in_told : (cs : List ℕ) → AreParts nodes (is_of kind.Oper) s cs → AllByRecursion Stands cs → (ds : List Demanded) → AreAsked k old new (asked_by_opers p (Some its_set) cs) ds
          → told ds ≡ map (asked_at f n) (operations_asked f (variable_scope p) p (operations_at (before s (item_at nodes)) cs))
      unfolding AreAsked
      in_told cs ps stand ds by = ap told by.1 ∙ all_told cs ps stand by.0 by.2

    -- ---- of the variable itself

    own_put : (c : ℕ) (x : There nodes c kind.Oper) → Stands c → type_settled (variable_scope variable) (typed c x).type ≡ type_settled scope (typed c x).type
    own_put c x stands = typed_put no_actuals none_keep variable (none_put variable) (λ j apart. none_put j) c x stands ∙ substituted-none (type_settled scope (typed c x).type)

    own_same : (cs : List ℕ) → AreParts nodes (is_of kind.Oper) s cs → AllByRecursion Stands cs → operations_asked f scope variable (operations_at (before s (item_at nodes)) cs) ≡ operations_asked f (variable_scope variable) variable (operations_at (before s (item_at nodes)) cs)
    own_same [] ps stand = refl
    own_same (c ∷ cs) ps stand =
        let x = there nodes c kind.Oper refl (same_kind kind.Oper (kind_at nodes c) ps.0.1) in
        let same = asked.operation_is k scope library refused parsed.forms parsed.tree counted_so old new constants known lost variable s c ps.0.0 x in
        ap (λ (d : Typed). operations_asked f scope variable (d ∷ operations_at (before s (item_at nodes)) cs)) same
        ∙ ap₂ (λ (xs ys : List Demand). xs ++ ys)
        (ap (λ (w : CluType). map (λ name. let one : Demand = record { node = c; parameter = variable; operation = name; wanted = unless_refused f (type_node (typed c x).type) w; in_set = false } in one) x.node.names) (sym (own_put c x stand.0)))
        (own_same cs ps.1 stand.1)
        ∙ sym (ap (λ (d : Typed). operations_asked f (variable_scope variable) variable (d ∷ operations_at (before s (item_at nodes)) cs)) same)

    pub own_told : (cs : List ℕ) → AreParts nodes (is_of kind.Oper) s cs → AllByRecursion Stands cs → (ds : List Demanded) → AreAsked k old new (asked_by_opers variable None cs) ds
        → told ds ≡ operations_asked f (variable_scope variable) variable (operations_at (before s (item_at nodes)) cs)
    own_told cs ps stand ds by = asked.opers_told k scope library refused parsed.forms parsed.tree counted_so old new constants known lost variable s cs ps ds by ∙ own_same cs ps stand

    -- its Opers stand in its module
    pub opers_stand : AllByRecursion Stands (run nodes kind.Oper node.children)
    opers_stand = all_take Stands (leading nodes kind.Oper node.children) node.children (meant.children_in t nodes k.rounds.now parsed surrounded few u s node at (unit, inner))
