-- What is asked by operations, with the types that are wanted, is what the definition asks, where what is lost is refused.
use Rattle.std.proofs.Common.{◌≡◌, ◌∙◌, ℕ, ◌<◌, Bool, true, false, if◌then◌else◌, List, [], ◌∷◌, ◌++◌, map, length, get_or, Option, Some, None, inl, refl, sym, ap, ap₂, subst, arith}
use Rattle.std.specs.Prelude.{slice_get}
use Rattle.std.specs.List.{AllZip}
use Rattle.std.specs.Option.{option_map}
use Rattle.std.proofs.lemmas.Bool.{true≢false}
use Rattle.std.proofs.lemmas.List.{map-append}
use Rattle.std.proofs.lemmas.Option.{slice_get_within, slice_get-get_or}
use Rattle.clu_base.specs.declared.constants.Const.{Const}
use Rattle.clu_tree.specs.declared.node.Node.{Node}
use Rattle.clu_tree.specs.declared.node.NodeKind.{NodeKind}
use Rattle.clu_tree.specs.declared.node.NodeKind.TheVariants as kind
use Rattle.clu_tree.specs.Nodes.{IsTree}
use Rattle.clu_parser.specs.Shape.{HaveForms}
use Rattle.clu_types.specs.CluType.{CluType}
use Rattle.clu_types.specs.Arena.{type_at, types_of}
use Rattle.clu_types.specs.declared.term.TypeId.{TypeId}
use Rattle.clu_types.specs.declared.term.Term.{Term}
use Rattle.clu_syntax.specs.Kinds.{is_type, kind_at}
use Rattle.clu_syntax.specs.Slots.{one, slots}
use Rattle.clu_syntax.specs.Splits.{is_of, child}
use Rattle.clu_syntax.specs.Syntax.{Identifier, Typed}
use Rattle.clu_syntax.specs.Items.{Item, operations_at}
use Rattle.clu_syntax.specs.Nodes.{before, item_at, operation_of, type_expression_of}
use Rattle.clu_meaning.specs.Scoping.{Scope}
use Rattle.clu_meaning.specs.Settling.{type_settled}
use Rattle.clu_checking.specs.Specifications.{Demand, Specification}
use Rattle.clu_checking.specs.Files.{File, is_refused}
use Rattle.clu_checking.specs.Equates.{type_node, unless_refused, demands_for, operations_asked}
use Rattle.clu_declares.proofs.Below.{same_kind, before_is, item_there}
use Rattle.clu_declares.proofs.Facts.{There, there}
use Rattle.clu_declares.proofs.Parents.{IsIn}
use Rattle.clu_settle.specs.Lists.{type_id, value_of}
use Rattle.clu_settle.specs.Settled.{AreSettled}
use Rattle.clu_settle.proofs.Shapes.{AreParts, FirstPart, first_part}
use Rattle.clu_head.specs.declared.head.Demanded.{Demanded}
use Rattle.clu_head.specs.declared.clauses.Asking.{Asking}
use Rattle.clu_head.specs.declared.known.Known.{Known}
use Rattle.clu_head.specs.Asking.{asked_by_opers, demanded, demanded_by, names_in}
use Rattle.clu_head.specs.There.{is_there}
use Rattle.clu_head.specs.Wanted.{wanted_at, first_wanted, wanted_of, IsWanted, IsAskedBy, one_list, AreAsked}
use Rattle.clu_passes.specs.DemandsTold.{AreOpersCounted, AreOpersLost}
use Rattle.clu_passes.specs.Told.{demand_told}
use Rattle.clu_passes.specs.Heads.{file_known, AreCounted}
use Rattle.clu_passes.proofs.OutsideBrackets.{outside_oper}
use Rattle.clu_passes.proofs.Seen.{type_told}

-- the node of a type is the one that stands there
node_of_type : (items : ℕ → Item) (nodes : List Node) (n : ℕ) (node : Node) (k : NodeKind) → type_node (type_expression_of items nodes n node k) ≡ n
node_of_type items nodes n node kind.ListT = refl
node_of_type items nodes n node kind.FieldsT = refl
node_of_type items nodes n node kind.RoutineT = refl
node_of_type items nodes n node kind.NameT = refl
node_of_type items nodes n node _ = refl

-- where refused nodes are counted, so is the type of each Oper
pub opers_counted : (k : Known) (scope : Scope) (library : List Specification) (refused : List ℕ) → HaveForms k.syntax.now → IsTree k.syntax.now → AreCounted k (file_known k scope library refused) → AreOpersCounted (file_known k scope library refused) k.refused.now
opers_counted k scope library refused shaped tree are c node at is =
    let first : FirstPart k.syntax.now tree shaped is_type [] c node = first_part k.syntax.now tree shaped is_type [] c node at (ap slots is) in
    let here : c < length k.syntax.now = slice_get_within k.syntax.now c node at in
    let less : child 0 node < c = first.first.0 in
    are.same (child 0 node) (omega (arith, here, less)) (outside_oper (file_known k scope library refused) are.of_tree are.parents c node at (child 0 node) (subst (IsIn (child 0 node)) (sym first.is) (inl refl)) is)

module _ (k : Known) (scope : Scope) (library : List Specification) (refused : List ℕ) (shaped : HaveForms k.syntax.now) (tree : IsTree k.syntax.now) (counted : AreOpersCounted (file_known k scope library refused) k.refused.now)
    (old new : List Term) (constants : List Const) (known : AreSettled k.syntax.now scope new constants k.values.now) where
  abbrev f : File
  f = file_known k scope library refused

  abbrev nodes : List Node
  nodes = k.syntax.now

  abbrev types : List CluType
  types = types_of new

  abbrev told : List Demanded → List Demand
  told ds = map (demand_told types) ds

  module _ (lost : AreOpersLost f k.values.now) where
    module _ (c : ℕ) (x : There nodes c kind.Oper) where
      abbrev t : ℕ
      t = child 0 x.node

      its_first : FirstPart nodes tree shaped is_type [] c x.node
      its_first = first_part nodes tree shaped is_type [] c x.node x.at (ap slots x.is)

      inside : t < length nodes
      inside = let here : c < length nodes = slice_get_within nodes c x.node x.at in let less : t < c = its_first.first.0 in omega (arith, here, less)

      settled_so : (b : Bool) (o : Option TypeId) → is_refused f t ≡ b → type_id (value_of k.values.now t) ≡ o → option_map (type_at types) (if b then None else o) ≡ (if b then None else Some (type_settled scope (item_at nodes t).type))
      settled_so true o is known_as = refl
      settled_so false (Some id) is known_as = ap Some (sym (type_told nodes scope new constants k.values.now known t its_first.first.1 id known_as))
      settled_so false None is known_as = absurd (true≢false (sym (lost c x.node x.at x.is known_as) ∙ is))

      abbrev pub typed : Typed
      typed = operation_of (before c (item_at nodes)) nodes c x.node kind.Oper

      pub its_type : typed.type ≡ (item_at nodes t).type
      its_type = ap (λ (i : Item). i.type) (before_is nodes c t its_first.first.0)

      its_node : type_node (item_at nodes t).type ≡ t
      its_node =
          let node : Node = get_or nodes t x.node in
          ap (λ (i : Item). type_node i.type) (item_there nodes t node (slice_get-get_or nodes t x.node inside)) ∙ node_of_type (before t (item_at nodes)) nodes t node node.kind

      pub wanted_so : option_map (type_at types) (wanted_of k.refused.now k.rounds.now k.values.now (slice_get nodes c)) ≡ unless_refused f (type_node typed.type) (type_settled scope typed.type)
      unfolding wanted_at
      wanted_so =
          ap (λ (its : Option Node). option_map (type_at types) (wanted_of k.refused.now k.rounds.now k.values.now its)) x.at
          ∙ ap (λ (j : NodeKind). option_map (type_at types) (if is_of kind.Oper j then first_wanted k.refused.now k.rounds.now k.values.now x.node.children else None)) x.is
          ∙ ap (λ (cs : List ℕ). option_map (type_at types) (first_wanted k.refused.now k.rounds.now k.values.now cs)) its_first.is
          ∙ ap (λ (b : Bool). option_map (type_at types) (if b then None else type_id (value_of k.values.now t))) (sym (counted c x.node x.at x.is))
          ∙ settled_so (is_refused f t) (type_id (value_of k.values.now t)) refl refl
          ∙ ap (λ (m : ℕ). unless_refused f m (type_settled scope (item_at nodes t).type)) (sym its_node)
          ∙ ap (λ y. unless_refused f (type_node y) (type_settled scope y)) (sym its_type)

    -- of an Oper that asks itself
    module _ (p : ℕ) where
      abbrev asking : ℕ → Asking
      asking oper = record { oper = oper; parameter = p; set = None }

      names_told : (c : ℕ) (w : Option TypeId) (wanted : Option CluType) → option_map (type_at types) w ≡ wanted → (names : List Identifier)
          → told (demanded_by (asking c) w names) ≡ map (λ (name : Identifier). let one : Demand = record { node = c; parameter = p; operation = name; wanted = wanted; in_set = false } in one) names
      unfolding demanded
      names_told c w wanted is [] = refl
      names_told c w wanted is (name ∷ names) = ap₂ (λ (d : Demand) (ds : List Demand). d ∷ ds) (ap (λ (o : Option CluType). let one : Demand = record { node = c; parameter = p; operation = name; wanted = o; in_set = false } in one) is) (names_told c w wanted is names)

      one_told : (c : ℕ) (x : There nodes c kind.Oper) (ds : List Demanded) → IsAskedBy k old new (asking c) ds → told ds ≡ demands_for f scope c p (typed c x).type false x.node.names
      unfolding IsAskedBy IsWanted
      one_told c x ds is =
          ap told (is.2
          ∙ ap (λ (o : Option Node). if is_there kind.Oper o then demanded_by (asking c) is.0 (names_in nodes o) else []) x.at
          ∙ ap (λ (j : NodeKind). if is_of kind.Oper j then demanded_by (asking c) is.0 x.node.names else []) x.is)
          ∙ names_told c is.0 (unless_refused f (type_node (typed c x).type) (type_settled scope (typed c x).type)) (ap (option_map (type_at types)) is.1 ∙ wanted_so c x) x.node.names

      pub operation_is : (n c : ℕ) → c < n → (x : There nodes c kind.Oper) → (before n (item_at nodes) c).operation ≡ typed c x
      operation_is n c less x = ap (λ (i : Item). i.operation) (before_is nodes n c less ∙ item_there nodes c x.node x.at) ∙ ap (operation_of (before c (item_at nodes)) nodes c x.node) x.is

      all_told : (n : ℕ) (cs : List ℕ) → AreParts nodes (is_of kind.Oper) n cs → (pieces : List (List Demanded)) → AllZip (IsAskedBy k old new) (asked_by_opers p None cs) pieces
          → told (one_list pieces) ≡ operations_asked f scope p (operations_at (before n (item_at nodes)) cs)
      all_told n [] ps [] are = refl
      all_told n [] ps (q ∷ qs) are = absurd are
      all_told n (c ∷ cs) ps [] are = absurd are
      all_told n (c ∷ cs) ps (q ∷ qs) are =
          let x = there nodes c kind.Oper refl (same_kind kind.Oper (kind_at nodes c) ps.0.1) in
          map-append (demand_told types) q (one_list qs)
          ∙ ap₂ (λ (xs ys : List Demand). xs ++ ys) (one_told c x q are.0) (all_told n cs ps.1 qs are.1)
          ∙ sym (ap (λ (d : Typed). operations_asked f scope p (d ∷ operations_at (before n (item_at nodes)) cs)) (operation_is n c ps.0.0 x))

      pub opers_told : (n : ℕ) (cs : List ℕ) → AreParts nodes (is_of kind.Oper) n cs → (ds : List Demanded) → AreAsked k old new (asked_by_opers p None cs) ds → told ds ≡ operations_asked f scope p (operations_at (before n (item_at nodes)) cs)
      unfolding AreAsked
      opers_told n cs ps ds are = ap told are.1 ∙ all_told n cs ps are.0 are.2
