-- After which names brackets hold actual parameters is what the table says, where the value of the name's equate is known.
use Rattle.std.proofs.Common.{◌≡◌, ◌∙◌, ℕ, ◌<◌, ◌≤◌, ◌&&◌, ◌||◌, Bool, true, false, List, [], ◌∷◌, length, map, drop, Option, Some, None, slice_get, is_some, refl, ap, ap₂, sym, inl, inr, arith}
use Rattle.std.proofs.lemmas.Bool.{cases_lt}
use Rattle.std.proofs.lemmas.Option.{slice_get_past}
use Rattle.clu_base.specs.declared.constants.Const.{Const}
use Rattle.clu_tree.specs.declared.node.Node.{Node}
use Rattle.clu_tree.specs.declared.node.NodeKind.{NodeKind}
use Rattle.clu_tree.specs.declared.node.NodeKind.TheVariants as kind
use Rattle.clu_parser.specs.Trees.{Text}
use Rattle.clu_types.specs.CluType.{CluType}
use Rattle.clu_types.specs.declared.term.Term.{Term}
use Rattle.clu_types.specs.Arena.{types_of}
use Rattle.clu_syntax.specs.Enough.{least_names}
use Rattle.clu_syntax.specs.Kinds.{kind_at, kind_of}
use Rattle.clu_syntax.specs.Rounds.{AreRounds}
use Rattle.clu_syntax.specs.Splits.{is_of, first_name}
use Rattle.clu_syntax.specs.Syntax.{Identifier}
use Rattle.clu_syntax.specs.Nodes.{item_at}
use Rattle.clu_syntax.proofs.Enough.{enough}
use Rattle.clu_names.specs.declared.scopes.Declared.{Declared}
use Rattle.clu_names.specs.Scopes.{declarations}
use Rattle.clu_names.specs.Denotes.{found, names_in}
use Rattle.clu_meaning.specs.Scoping as means
use Rattle.clu_meaning.specs.Settling.{Value as Settled}
use Rattle.clu_checking.specs.Specifications.{Specification}
use Rattle.clu_checking.specs.Settled.{value_settled}
use Rattle.clu_checking.specs.Files.{File, scope_in, node_names, is_kind, meaning}
use Rattle.clu_checking.specs.Equates.{is_set_name}
use Rattle.clu_checking.specs.Typing as typing
use Rattle.clu_checking.specs.Wanted.{first_name_at}
use Rattle.clu_settle.specs.declared.value.Value.{Value}
use Rattle.clu_settle.specs.declared.value.Value.TheVariants as value
use Rattle.clu_settle.specs.Names.{is_constant, names_of}
use Rattle.clu_settle.specs.Values.{value_in, told, Agrees}
use Rattle.clu_settle.specs.Settled.{AreSettled}
use Rattle.clu_declares.specs.Declares.{IsParsed, AreFew}
use Rattle.clu_declares.proofs.Below.{same_kind}
use Rattle.clu_declares.proofs.Facts.{There, there}
use Rattle.clu_head.specs.Refused.{is_set}
use Rattle.clu_head.specs.There.{is_there}
use Rattle.clu_bindings.specs.declared.file.File.{File as Read}
use Rattle.clu_bindings.specs.declared.meaning.Meaning.{Meaning}
use Rattle.clu_bindings.specs.declared.meaning.Meaning.TheVariants as meant
use Rattle.clu_bindings.specs.declared.meaning.ModuleId.{ModuleId}
use Rattle.clu_bindings.specs.Bindings.{AreBindings}
use Rattle.clu_bindings.specs.Declaring as table
use Rattle.clu_bindings.specs.Files.{bound_in}
use Rattle.clu_bindings.specs.Modules.{named}
use Rattle.clu_bindings.specs.Readers as read
use Rattle.clu_bindings.specs.Readers.{meaning_in, set_at}
use Rattle.clu_bindings.specs.Tables.{items_at, table_to}
use Rattle.clu_bindings.specs.Wanting as said
use Rattle.clu_passes.specs.ConstantTables.{Means, file_with, IsKnown, IsEquateKnown}
use Rattle.clu_passes.specs.Tables.{AreNames}
use Rattle.clu_passes.proofs.FileModules.{names_there}
use Rattle.clu_passes.proofs.Joined.{table_size, table_at}
use Rattle.clu_passes.proofs.NamesMean.{bound_first, meant_first, first_is, first_means}
use Rattle.clu_passes.proofs.Strings.{value_same}

-- a type is known as one
type_there : (types : List CluType) (constants : List Const) (o : Option Value) (s : Settled) → (value_in o ≡ value.Lost → ⊥) → Agrees (told types constants (value_in o)) s → said.is_type o ≡ typing.is_type_value s
type_there types constants None s known e = absurd (known refl)
type_there types constants (Some value.Nothing) s known e = sym (ap typing.is_type_value e)
type_there types constants (Some value.Lost) s known e = absurd (known refl)
type_there types constants (Some (value.Type id)) s known e = sym (ap typing.is_type_value e)
type_there types constants (Some (value.Constant k)) s known e = sym (ap typing.is_type_value e)
type_there types constants (Some (value.Parameter k)) s known e = sym (ap typing.is_type_value e)

module _ (t : Text) (r : Read) (library : List Specification) (refused : List ℕ) (types : List Term) (known : AreSettled r.syntax.now (scope_in r.syntax.now r.rounds.now) types r.constants.now r.values.now)
    (parsed : IsParsed t r.syntax.now) (are : AreRounds r.syntax.now r.rounds.now) (few : AreFew r.syntax.now r.rounds.now) (its_names : AreNames (file_with r (scope_in r.syntax.now r.rounds.now) library refused) r.names.now)
    (tables : AreBindings r.syntax.now r.rounds.now r.names.now r.values.now r.bindings.now) where
  abbrev nodes : List Node
  nodes = r.syntax.now

  abbrev scope : means.Scope
  scope = scope_in r.syntax.now r.rounds.now

  abbrev ds : List Declared
  ds = declarations r.syntax.now r.rounds.now

  abbrev f : File
  f = file_with r scope library refused

  abbrev of : Identifier → Option ModuleId
  of = named r.bindings.now.modules

  abbrev takes : Meaning → Option ℕ → Bool
  takes m bound = said.takes_actuals r.values.now r.bindings.now.sets.items m bound

  set_there : (o : Option ℕ) → said.stands_for_set r.bindings.now.sets.items o ≡ is_some (set_at r o)
  set_there None = refl
  set_there (Some p) = refl

  module _ (sets : (n : ℕ) (name : Identifier) → is_some (set_at r (found ds name n)) ≡ is_set_name f n name) where
    equate_takes : (c : ℕ) → is_constant nodes c ≡ true → IsKnown r c → said.is_type (slice_get r.values.now c) ≡ typing.is_type_value (value_settled scope (item_at nodes c).constant)
    equate_takes c is here = type_there (types_of types) r.constants.now (slice_get r.values.now c) (value_settled scope (item_at nodes c).constant) (λ e. here (value_same r.values.now c ∙ e)) (known.each c is)

    module _ (n : ℕ) (name : Identifier) where
      takes_same : (x : Meaning) (m : means.Meaning) → Means nodes x m → IsEquateKnown r x → takes x (found ds name n) ≡ typing.takes_actuals_by f n name m
      takes_same (meant.Equate c) m e here =
          ap₂ (λ (a b : Bool). a || b) (equate_takes c e.0 here) (set_there (found ds name n) ∙ sets n name)
          ∙ sym (ap (typing.takes_actuals_by f n name) e.1)
      takes_same meant.TypeSet m e here = sym (ap (typing.takes_actuals_by f n name) e)
      takes_same (meant.TypeParameter k) m e here = sym (ap (typing.takes_actuals_by f n name) e)
      takes_same (meant.ConstantParameter k) m e here = sym (ap (typing.takes_actuals_by f n name) e)
      takes_same (meant.Local c) m e here = sym (ap (typing.takes_actuals_by f n name) e)
      takes_same (meant.OwnOfRoutine c) m e here = sym (ap (typing.takes_actuals_by f n name) e)
      takes_same (meant.OwnOfCluster c) m e here = sym (ap (typing.takes_actuals_by f n name) e)
      takes_same meant.RoutineOfCluster m e here = sym (ap (typing.takes_actuals_by f n name) e)
      takes_same (meant.Module its) m e here = sym (ap (typing.takes_actuals_by f n name) e)

      first_takes : (node : Node) (rest : List Identifier) → slice_get nodes n ≡ Some node → names_in node.kind node ≡ name ∷ rest → IsEquateKnown r (meaning_in r n) →
          said.takes_first r.values.now r.bindings.now.sets.items (items_at r.bindings.now.meanings.items r.names.now.starts.items n) (bound_in r.names.now n) ≡ typing.takes_actuals f n name
      first_takes node rest at e here =
          ap₂ (said.takes_first r.values.now r.bindings.now.sets.items) (meant_first t r library refused parsed are few its_names tables n node name rest at e) (bound_first t r library refused parsed are few its_names tables n node name rest at e)
          ∙ ap (λ (m : Meaning). takes m (found ds name n)) (sym (first_is t r library refused parsed are few its_names tables n node name rest at e))
          ∙ takes_same (meaning_in r n) (meaning f n name) (first_means t r library refused parsed are few its_names tables n node name rest at e) here

    abbrev taker : ℕ → Bool
    taker n = said.is_taker r.values.now r.bindings.now.sets.items nodes r.names.now r.bindings.now.meanings.items n

    there_same : (o : Option Node) → is_there kind.Name o ≡ is_of kind.Name (kind_of o)
    there_same None = refl
    there_same (Some node) = refl

    at_name : (n : ℕ) → kind_at nodes n ≡ kind.Name → IsEquateKnown r (meaning_in r n) →
        said.takes_first r.values.now r.bindings.now.sets.items (items_at r.bindings.now.meanings.items r.names.now.starts.items n) (bound_in r.names.now n) ≡ typing.takes_actuals f n (first_name_at f n)
    at_name n is here =
        let th : There nodes n kind.Name = there nodes n kind.Name refl is in
        let some : least_names th.node.kind ≤ length th.node.names = (enough nodes parsed.forms n th.node th.at).names in
        let same : least_names th.node.kind ≡ least_names kind.Name = ap least_names th.is in
        let x = names_there th.node.names (omega (arith, some, same)) in
        first_takes n (first_name th.node.names) th.node x.0 th.at (ap (λ (k : NodeKind). names_in k th.node) th.is ∙ x.1) here
        ∙ sym (ap (λ (o : Option Node). typing.takes_actuals f n (first_name (node_names f o))) th.at)

    taker_is : (n : ℕ) → IsEquateKnown r (meaning_in r n) → taker n ≡ (is_kind f kind.Name n && typing.takes_actuals f n (first_name_at f n))
    taker_is n here =
        ap (λ (b : Bool). b && said.takes_first r.values.now r.bindings.now.sets.items (items_at r.bindings.now.meanings.items r.names.now.starts.items n) (bound_in r.names.now n)) (there_same (slice_get nodes n))
        ∙ by (is_of kind.Name (kind_at nodes n)) refl
      where
        by : (b : Bool) → is_of kind.Name (kind_at nodes n) ≡ b → (b && said.takes_first r.values.now r.bindings.now.sets.items (items_at r.bindings.now.meanings.items r.names.now.starts.items n) (bound_in r.names.now n)) ≡ (b && typing.takes_actuals f n (first_name_at f n))
        by true is = at_name n (same_kind kind.Name (kind_at nodes n) is) here
        by false is = refl

    pub takers_said : (n : ℕ) → IsEquateKnown r (meaning_in r n) → read.takes_actuals r n ≡ (is_kind f kind.Name n && typing.takes_actuals f n (first_name_at f n))
    takers_said n here = ap (λ (xs : List Bool). is_set (slice_get xs n)) tables.takes_actuals ∙ elim (cases_lt n (length nodes)) [
      | inl less ↦ ap is_set (table_at taker (length nodes) n less) ∙ taker_is n here
      | inr past ↦
          (let size : length (table_to taker (length nodes)) ≡ length nodes = table_size taker (length nodes) in
          ap is_set (slice_get_past (table_to taker (length nodes)) n (omega (arith, size, past)))
          ∙ sym (ap (λ (o : Option Node). is_of kind.Name (kind_of o) && typing.takes_actuals f n (first_name_at f n)) (slice_get_past nodes n past)))
    ]
