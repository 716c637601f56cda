-- What is noted that nodes raise is what the definitions say, as a set, where nothing is lost.
use Rattle.std.proofs.Common.{◌≡◌, ◌<◌, ◌≤◌, ◌⊎◌, inl, inr, ◌||◌, nat_le, ℕ, Bool, true, false, List, [], ◌∷◌, length, slice_get, Option, Some, None, refl, sym, arith, ◌∙◌}
use Rattle.std.specs.List.{AllByRecursion}
use Rattle.std.proofs.lemmas.Bool.{true≢false, cases_lt, le-leb, leb-true, or_parts}
use Rattle.clu_tree.specs.declared.node.Node.{Node}
use Rattle.clu_parser.specs.Trees.{Text}
use Rattle.clu_types.specs.Arena.{Grows}
use Rattle.clu_types.specs.declared.term.Term.{Term}
use Rattle.clu_syntax.specs.Items.{Item}
use Rattle.clu_parts.proofs.Fitting.{AreBefore, children_before}
use Rattle.clu_meaning.specs.Scoping.{Scope}
use Rattle.clu_checking.specs.Specifications.{Specification}
use Rattle.clu_checking.specs.Files.{File, children, node_children}
use Rattle.clu_checking.specs.Raising.{Raise}
use Rattle.clu_bindings.specs.declared.file.Headed.{Headed}
use Rattle.clu_name_rules.specs.declared.tables.Tables.{Tables}
use Rattle.clu_typing.specs.declared.facts.Facts.{Facts}
use Rattle.clu_typing.specs.Facts.{type_of}
use Rattle.clu_typing.specs.Pass.{HaveRows, IsSound}
use Rattle.clu_typing.specs.Raises.{raised_told, row_told}
use Rattle.clu_typing.specs.Sets.{HaveSame}
use Rattle.clu_typing.proofs.Sets.{same_trans}
use Rattle.clu_passes.specs.ConstantTables.{AreTables, IsIndexKnown, file_with}
use Rattle.clu_passes.specs.FactTables.{IsType, typed}
use Rattle.clu_passes.specs.PassNoted.{IsKnownFile}
use Rattle.clu_passes.specs.Raised.{raises_of, row_of}
use Rattle.clu_passes.proofs.NodeStands.{node_given, node_stands}
use Rattle.clu_passes.proofs.OperandsGiven.{Typed}
use Rattle.clu_passes.proofs.RaisedTold.{told_same}
use Rattle.clu_passes.proofs.RowsKnown.{elsewhere}
use Rattle.clu_passes.proofs.RowsTables.{row_by_tables}

module _ (t : Text) (h : Headed) (scope : Scope) (library : List Specification) (refused : List ℕ) (items : ℕ → Item) (first : List Term) (lost : ℕ → Bool) (file : IsKnownFile t h (file_with h.file scope library refused) items first lost) (its : Tables)
    (are : AreTables (file_with h.file scope library refused) (record its { file = h.file })) (facts : Facts) (grows : Grows first its.types.now) (sound : IsSound h its.types.now facts)
    (types : (n : ℕ) → lost n ≡ false → IsType its.types.now (type_of facts n) (typed (file_with h.file scope library refused) n)) (indexes : (n : ℕ) → lost n ≡ false → IsIndexKnown h.file n) (rows : HaveRows h items (length h.file.syntax.now) its.types.now facts) where
  abbrev f : File
  f = file_with h.file scope library refused

  abbrev nodes : List Node
  nodes = h.file.syntax.now

  abbrev terms : List Term
  terms = its.types.now

  abbrev told : ℕ → List Raise
  told n = raised_told terms facts n

  -- what is no node counts as lost
  abbrev late : ℕ → Bool
  late n = lost n || nat_le (length nodes) n

  inside : (n : ℕ) → late n ≡ false → (lost n ≡ false) × (n < length nodes)
  inside n here =
      let parts = or_parts (lost n) (nat_le (length nodes) n) here in
      (parts.0, by parts.1 (cases_lt n (length nodes)))
    where
      by : nat_le (length nodes) n ≡ false → (n < length nodes) ⊎ (length nodes ≤ n) → n < length nodes
      by e (inl lt) = lt
      by e (inr past) = absurd (true≢false (sym (le-leb (length nodes) n past) ∙ e))

  not_late : (n : ℕ) → lost n ≡ false → n < length nodes → late n ≡ false
  not_late n here lt = by (lost n) here (nat_le (length nodes) n) refl
    where
      by : (a : Bool) → a ≡ false → (b : Bool) → nat_le (length nodes) n ≡ b → (a || b) ≡ false
      by true e b most = absurd (true≢false e)
      by false e false most = refl
      by false e true most = let past : length nodes ≤ n = leb-true (length nodes) n most in absurd (omega (arith, past, lt))

  kids_before : (n : ℕ) → AreBefore n (children f n)
  kids_before n = by (slice_get nodes n) refl
    where
      by : (o : Option Node) → slice_get nodes n ≡ o → AreBefore n (node_children f o)
      by None at = tt
      by (Some node) at = children_before nodes file.parsed.tree n node at

  late_below : (n : ℕ) → late n ≡ false → AllByRecursion (λ c. late c ≡ false) (children f n)
  late_below n here = let at = inside n here in by at.1 (children f n) (kids_before n) (file.below n at.0)
    where
      by : n < length nodes → (cs : List ℕ) → AreBefore n cs → AllByRecursion (λ c. lost c ≡ false) cs → AllByRecursion (λ c. late c ≡ false) cs
      by lt [] l all = tt
      by lt (c ∷ cs) l all = let less : c < n = l.0 in (not_late c all.0 (omega (arith, less, lt)), by lt cs l.1 all.1)

  kids : (n : ℕ) → lost n ≡ false → Typed f n terms facts.types.items (children f n)
  kids n here = by (children f n) (file.below n here)
    where
      by : (cs : List ℕ) → AllByRecursion (λ c. lost c ≡ false) cs → Typed f n terms facts.types.items cs
      by [] all = tt
      by (c ∷ cs) all = (types c all.0, by cs all.1)

  row_is : (n : ℕ) → late n ≡ false → HaveSame (told n) (row_of f told n)
  row_is n here =
      let at = inside n here in
      let one = rows.rows n at.1 in
      same_trans (told n) (row_told h.file terms facts one.0 n) (row_of f told n) one.1.row
      (row_by_tables t (record its { file = h.file }) scope library refused file.parsed are facts n one.0 (indexes n at.0)
      (node_stands t h scope library refused file.parsed file.library items terms are.arena (file.heads terms grows) facts sound.finding.within facts.types.items n one.0 one.1.stands (kids n at.0) (λ e. file.names n at.0 e terms grows))
      (elsewhere h terms facts.finding facts.types.items n items one.0 one.1.stands)
      (node_given t h scope library refused file.parsed file.library items terms are.arena (file.heads terms grows) facts sound.finding.within facts.types.items n one.0 one.1.stands (kids n at.0) (λ e. file.names n at.0 e terms grows)))

  pub raises_same : (n : ℕ) → n < length nodes → lost n ≡ false → HaveSame (told n) (raises_of f n)
  raises_same n lt here = told_same t f file.parsed late late_below told row_is n (not_late n here lt)
