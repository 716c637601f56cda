-- Where the Modules of a tree are numbered in the order of the text, it is known which of the modules that a file may name are its own.
use Rattle.std.proofs.Common.{◌≡◌, ◌∙◌, ℕ, zero, suc, ◌+◌, ◌-◌, ◌^◌, ◌<◌, ◌≤◌, min, Bool, true, false, List, [], ◌∷◌, ◌++◌, length, Option, Some, None, refl, sym, ap, ap₂, subst, inl, inr, arith}
use Rattle.std.specs.Prelude.{slice_get}
use Rattle.std.proofs.Math.Nat.{min-eq_left}
use Rattle.std.proofs.lemmas.Bool.{true≢false, cases_Bool}
use Rattle.std.proofs.lemmas.Option.{none-some, same_Some}
use Rattle.clu_tree.specs.declared.node.Node.{Node}
use Rattle.clu_tree.specs.declared.node.NodeKind.{NodeKind}
use Rattle.clu_tree.specs.declared.node.NodeKind.TheVariants as kind
use Rattle.clu_tree.specs.Nodes.{module_at, modules, modules_from}
use Rattle.clu_syntax.specs.Splits.{is_of}
use Rattle.clu_declares.proofs.Below.{same_kind}
use Rattle.clu_head.specs.There.{is_there}
use Rattle.clu_bindings.specs.declared.bindings.Modules.{Modules}
use Rattle.clu_bindings.specs.declared.meaning.ModuleId.{ModuleId}
use Rattle.clu_bindings.specs.Numbered.{AreNumbered, modules_to, more_if, number_if, unit_at}
use Rattle.clu_bindings.specs.Tables.{optional, table_to}
use Rattle.clu_passes.specs.OwnModules.{AreOwnModules}
use Rattle.clu_passes.proofs.Joined.{table_at}

none_of : (at : ℕ) (k : NodeKind) → is_of kind.Module k ≡ false → module_at at k ≡ []
none_of at kind.Module other = absurd (true≢false other)
none_of at kind.File other = refl
none_of at _ other = refl

module _ (nodes : List Node) (few : length nodes < 2 ^ 32) where
  begun : modules_to nodes 0 ≡ 0
  unfolding modules_to
  begun = refl

  next : (n : ℕ) → modules_to nodes (suc n) ≡ more_if (is_there kind.Module (slice_get nodes n)) (modules_to nodes n)
  unfolding modules_to
  next n = refl

  -- these are the nodes from a place on
  abbrev StandFrom : ℕ → List Node → Type 0
  StandFrom at ns = (i : ℕ) → slice_get nodes (at + i) ≡ slice_get ns i

  stand_next : (at : ℕ) (n : Node) (ns : List Node) → StandFrom at (n ∷ ns) → StandFrom (at + 1) ns
  stand_next at n ns stand i = let same : at + 1 + i ≡ at + suc i = omega arith in ap (slice_get nodes) same ∙ stand (suc i)

  first_there : (at : ℕ) (n : Node) (ns : List Node) → StandFrom at (n ∷ ns) → slice_get nodes at ≡ Some n
  first_there at n ns stand = let same : at ≡ at + 0 = omega arith in ap (slice_get nodes) same ∙ stand 0

  step : (at : ℕ) (n : Node) (ns : List Node) → StandFrom at (n ∷ ns) → modules_to nodes (at + 1) ≡ more_if (is_of kind.Module n.kind) (modules_to nodes at)
  step at n ns stand =
      let one : at + 1 ≡ suc at = omega arith in
      ap (modules_to nodes) one ∙ next at ∙ ap (λ (o : Option Node). more_if (is_there kind.Module o) (modules_to nodes at)) (first_there at n ns stand)

  -- the node u is a Module, before which stand as many as `many` and i more
  record IsNumbered (many i u : ℕ) : Type 0 where
    pub within : u < length nodes
    pub is : is_there kind.Module (slice_get nodes u) ≡ true
    pub number : modules_to nodes u ≡ many + i
    pub small : modules_to nodes u ≤ u

  record AreCounted (at : ℕ) (numbers : List ℕ) (past : ℕ) : Type 0 where
    pub all : modules_to nodes past ≡ modules_to nodes at + length numbers
    pub each : (i u : ℕ) → slice_get numbers i ≡ Some u → IsNumbered (modules_to nodes at) i u

  none_counted : (at past : ℕ) → past ≡ at → AreCounted at [] past
  none_counted at past same =
      let as_many : modules_to nodes past ≡ modules_to nodes at = ap (modules_to nodes) same in
      record { all = omega (arith, as_many); each = λ i u e. absurd (none-some u e) }

  -- one more stands in front
  first_counted : (at past : ℕ) (numbers : List ℕ) → IsNumbered (modules_to nodes at) 0 at → modules_to nodes (at + 1) ≡ modules_to nodes at + 1 → AreCounted (at + 1) numbers past → AreCounted at (at ∷ numbers) past
  first_counted at past numbers here more counted =
      let rest : modules_to nodes past ≡ modules_to nodes (at + 1) + length numbers = counted.all in
      record { all = omega (arith, rest, more); each = each }
    where
      each : (i u : ℕ) → slice_get (at ∷ numbers) i ≡ Some u → IsNumbered (modules_to nodes at) i u
      each zero u e = subst (IsNumbered (modules_to nodes at) 0) (same_Some at u e) here
      each (suc i) u e =
          let later : IsNumbered (modules_to nodes (at + 1)) i u = counted.each i u e in
          let number : modules_to nodes u ≡ modules_to nodes (at + 1) + i = later.number in
          record { within = later.within; is = later.is; number = omega (arith, number, more); small = later.small }

  -- none stands in front
  same_counted : (at past : ℕ) (numbers : List ℕ) → modules_to nodes (at + 1) ≡ modules_to nodes at → AreCounted (at + 1) numbers past → AreCounted at numbers past
  same_counted at past numbers same counted =
      record {
        all = counted.all ∙ ap (λ (k : ℕ). k + length numbers) same;
        each = λ i u e. subst (λ (k : ℕ). IsNumbered k i u) same (counted.each i u e);
      }

  counted : (at : ℕ) (ns : List Node) → StandFrom at ns → at + length ns ≤ length nodes → modules_to nodes at ≤ at → AreCounted at (modules_from at ns) (at + length ns)
  counted at [] stand room small = none_counted at (at + 0) (omega arith)
  counted at (n ∷ ns) stand room small =
      let past : at + 1 + length ns ≡ at + suc (length ns) = omega arith in
      let upto : modules_to nodes (at + 1) ≡ more_if (is_of kind.Module n.kind) (modules_to nodes at) = step at n ns stand in
      elim (cases_Bool (is_of kind.Module n.kind)) [
        | inl is ↦
            (let bound : modules_to nodes at + 1 ≤ 4294967295 = omega (arith, few, room, small) in
            let more : modules_to nodes (at + 1) ≡ modules_to nodes at + 1 = upto ∙ ap (λ (b : Bool). more_if b (modules_to nodes at)) is ∙ min-eq_left bound in
            let its : modules_from at (n ∷ ns) ≡ at ∷ modules_from (at + 1) ns = ap (λ (k : NodeKind). module_at at k ++ modules_from (at + 1) ns) (same_kind kind.Module n.kind is) in
            subst (λ (numbers : List ℕ). AreCounted at numbers (at + suc (length ns))) (sym its)
            (first_counted at (at + suc (length ns)) (modules_from (at + 1) ns)
            (record { within = omega (arith, room); is = ap (is_there kind.Module) (first_there at n ns stand) ∙ is; number = omega arith; small = small })
            more
            (subst (AreCounted (at + 1) (modules_from (at + 1) ns)) past (counted (at + 1) ns (stand_next at n ns stand) (omega (arith, room)) (omega (arith, more, small))))))
        | inr other ↦
            (let same : modules_to nodes (at + 1) ≡ modules_to nodes at = upto ∙ ap (λ (b : Bool). more_if b (modules_to nodes at)) other in
            let its : modules_from at (n ∷ ns) ≡ modules_from (at + 1) ns = ap (λ (xs : List ℕ). xs ++ modules_from (at + 1) ns) (none_of at n.kind other) in
            subst (λ (numbers : List ℕ). AreCounted at numbers (at + suc (length ns))) (sym its)
            (same_counted at (at + suc (length ns)) (modules_from (at + 1) ns) same
            (subst (AreCounted (at + 1) (modules_from (at + 1) ns)) past (counted (at + 1) ns (stand_next at n ns stand) (omega (arith, room)) (omega (arith, same, small))))))
      ]

  all_counted : AreCounted 0 (modules nodes) (length nodes)
  all_counted =
      let past : 0 + length nodes ≡ length nodes = omega arith in
      subst (AreCounted 0 (modules nodes)) past
      (counted 0 nodes (λ i. let same : 0 + i ≡ i = omega arith in ap (slice_get nodes) same) (omega arith) (subst (λ (k : ℕ). k ≤ 0) (sym begun) (omega arith)))

  abbrev numbered : ℕ → Option ModuleId
  numbered k = Some (record { 0 = k })

  module _ (its : Modules) (are : AreNumbered nodes its) where
    pub own_numbered : AreOwnModules its (modules nodes)
    own_numbered = record {
      of_file =
          are.of_file
          ∙ (let all : modules_to nodes (length nodes) ≡ modules_to nodes 0 + length (modules nodes) = all_counted.all in
          let none : modules_to nodes 0 ≡ 0 = begun in
          omega (arith, all, none));
      units = λ i u e.
          (let a : IsNumbered (modules_to nodes 0) i u = all_counted.each i u e in
          let number : modules_to nodes u ≡ modules_to nodes 0 + i = a.number in
          let none : modules_to nodes 0 ≡ 0 = begun in
          let within : u < length nodes = a.within in
          let small : modules_to nodes u ≤ u = a.small in
          let place : modules_to nodes u ≡ i = omega (arith, number, none) in
          let bound : i ≤ 2 ^ 32 - 1 = omega (arith, few, within, small, place) in
          ap (λ (us : List (Option ModuleId)). optional (slice_get us u)) are.units
          ∙ ap optional (table_at (unit_at nodes) (length nodes) u within)
          ∙ ap₂ number_if a.is place
          ∙ ap numbered (sym (min-eq_left bound)));
    }
