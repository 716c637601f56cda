-- The nodes at which a check refuses types are those at which the definitions do, as far as the rules over its tables say what these say.
use Rattle.std.proofs.Common.{◌≡◌, ◌∙◌, ℕ, ◌<◌, ◌≤◌, Bool, true, false, List, [], length, Option, Some, refl, sym, ap, subst}
use Rattle.std.specs.Prelude.{slice_get}
use Rattle.clu_base.specs.declared.rules.Refused.{Refused}
use Rattle.clu_tree.specs.declared.node.Node.{Node}
use Rattle.clu_tree.specs.declared.node.NodeKind.TheVariants as kind
use Rattle.clu_parser.specs.Trees.{Text}
use Rattle.clu_syntax.specs.declared.round.Round.{Round}
use Rattle.clu_syntax.specs.Items.{Item}
use Rattle.clu_names.specs.declared.binding.Names.{Names}
use Rattle.clu_names.specs.declared.scopes.Declared.{Declared}
use Rattle.clu_types.specs.declared.spec.Spec.{Spec}
use Rattle.clu_checking.specs.Specifications.{Specification}
use Rattle.clu_checking.specs.Files.{File, is_kind, is_refused, scope_in}
use Rattle.clu_checking.specs.Equates.{is_circular}
use Rattle.clu_checking.specs.Rules as definition
use Rattle.clu_checking.specs.Refusals.{is_bad_of, rules_of_types, with_refused}
use Rattle.clu_declares.specs.Declares.{IsParsed}
use Rattle.clu_head.specs.Refused.{counts_to, grows_in}
use Rattle.clu_bindings.specs.declared.file.File as bindings
use Rattle.clu_bindings.specs.declared.file.Headed.{Headed}
use Rattle.clu_name_rules.specs.declared.tables.Tables.{Tables}
use Rattle.clu_name_rules.specs.Constructors.{ValuesAscend}
use Rattle.clu_type_rules.specs.Rules.{violates_of_types}
use Rattle.clu_type_rules.specs.Walking.{bad_in}
use Rattle.clu_passes.specs.ConstantTables.{file_with}
use Rattle.clu_passes.specs.Refusing.{AgreeInEquates, AgreeWithin, IsOrder, bits_in, is_no_type, of_types, refused_bits}
use Rattle.clu_passes.specs.Trees.{IsFileOfTree}
use Rattle.clu_passes.specs.Turns.{bit}
use Rattle.clu_passes.proofs.FaultsFound as found
use Rattle.clu_passes.proofs.OrderTold.{order_told}
use Rattle.clu_check_mod.specs.Answered.{IsFirst}
use Rattle.clu_check_mod.specs.Asking.{is_violated_of_types}
use Rattle.clu_check_mod.specs.Bad.{bad_of_types, fault_of_types, refused_of}
use Rattle.clu_check_mod.specs.declared.walk.Extent.{Extent}
use Rattle.clu_checked.specs.Checked.{bits_of_types, circular, file, known, order, plain, tables}

module _ (t : Tables) (items : ℕ → Item) (places : List ℕ) where
  pub types_found : bad_of_types t items places ≡ bad_in t.file.syntax.now t.file.rounds.now (is_no_type t items) t.file.names.now.declared.items places
  unfolding fault_of_types is_violated_of_types
  types_found = refl

  pub nodes_found : refused_of t items places ≡ refused_bits t items (bad_of_types t items places)
  unfolding fault_of_types is_violated_of_types
  nodes_found = refl

module _ (text : Text) (nodes : List Node) (parsed : IsParsed text nodes) (library : List Spec) (asked : Extent) (first : Option Refused) (is : IsFirst nodes library asked first) (specs : List Specification) where
  abbrev t : Tables
  t = tables nodes library asked first is

  abbrev its : File
  its = plain nodes library asked first is specs

  of_tree : IsFileOfTree its
  of_tree = record { shaped = parsed.forms; ordered = parsed.order; tree = parsed.tree; surrounded = is.surrounded }

  is_order : IsOrder its is.names (order nodes library asked first is) (circular nodes library asked first is)
  is_order = order_told its is.surrounded refl is.names is.names_are.declared is.names_are.bound is.names_are.starts (order nodes library asked first is) (circular nodes library asked first is) is.is.lists_are.order is.is.lists_are.circular

  -- ---- the file as the laws on tables have it

  abbrev made : List Node → List Round → File
  made ns rs = record { nodes = ns; rounds = rs; scope = scope_in nodes is.rounds; library = specs; refused = [] }

  abbrev tabled : File
  tabled = file_with t.file (scope_in nodes is.rounds) specs []

  file_said : t.file ≡ is.is.file
  file_said = is.is.is.tables.file_is

  nodes_said : t.file.syntax.now ≡ nodes
  nodes_said = ap (λ (f : bindings.File). f.syntax.now) file_said ∙ is.is.nodes_are

  rounds_said : t.file.rounds.now ≡ is.rounds
  rounds_said = ap (λ (f : bindings.File). f.rounds.now) file_said ∙ is.is.rounds_are

  names_said : t.file.names.now ≡ is.names
  names_said = ap (λ (f : bindings.File). f.names.now) file_said ∙ is.is.names_are

  same : its ≡ tabled
  same = ap (λ (ns : List Node). made ns is.rounds) (sym nodes_said) ∙ ap (λ (rs : List Round). made t.file.syntax.now rs) (sym rounds_said)

  tabled_tree : IsFileOfTree tabled
  tabled_tree = subst IsFileOfTree same of_tree

  module _ (items : ℕ → Item) where
    abbrev its_bits : List Bool
    its_bits = bits_of_types nodes library asked first is items

    its_order : IsOrder tabled t.file.names.now (order nodes library asked first is) (circular nodes library asked first is)
    its_order =
        subst (λ (names : Names). IsOrder tabled names (order nodes library asked first is) (circular nodes library asked first is)) (sym names_said)
        (subst (λ (f : File). IsOrder f is.names (order nodes library asked first is) (circular nodes library asked first is)) same is_order)

    bits_are : its_bits ≡ bits_in tabled (order nodes library asked first is) (is_no_type t items)
    bits_are =
        types_found t items (order nodes library asked first is)
        ∙ ap (λ (ds : List Declared). bad_in t.file.syntax.now t.file.rounds.now (is_no_type t items) ds (order nodes library asked first is)) (ap (λ (names : Names). names.declared.items) names_said ∙ is.names_are.declared)

    abbrev Agreed : File → Type 0
    Agreed f = AgreeInEquates f (violates_of_types t its_bits items) (λ n. of_types (definition.violates f (bit its_bits) n))

    pub bad_told : Agreed its → (e : ℕ) → is_kind its kind.Equate e ≡ true → is_circular its e ≡ false → bit its_bits e ≡ is_bad_of its (rules_of_types its) e
    bad_told agree =
        subst (λ (f : File). (e : ℕ) → is_kind f kind.Equate e ≡ true → is_circular f e ≡ false → bit its_bits e ≡ is_bad_of f (rules_of_types f) e) (sym same)
        (found.bad_of_types_by_tables t (scope_in nodes is.rounds) specs [] tabled_tree items (order nodes library asked first is) (circular nodes library asked first is) its_order its_bits bits_are
        (subst Agreed same agree))

    -- ---- how many are refused before each node

    abbrev counted : List Bool → List ℕ
    counted bits = counts_to bits (length bits)

    pub counts_said : ValuesAscend t → (known nodes library asked first is).headed.refused.now ≡ counted (refused_bits t items its_bits)
    counts_said ascending =
        ap (λ (h : Headed). h.refused.now) is.is.is.is.is.headed_is
        ∙ is.is.is.counts
        ∙ ap counted (is.is.is.refused_are items ascending ∙ nodes_found t items (order nodes library asked first is))

    abbrev Within : File → ℕ → Type 0
    Within f n = AgreeWithin f (violates_of_types t its_bits items) (λ m. of_types (definition.violates f (is_bad_of f (rules_of_types f)) m)) n

    pub refused_told : ValuesAscend t → (n : ℕ) (its_round : Round) → n < length nodes → slice_get is.rounds n ≡ Some its_round → its_round.first ≤ n → Within its n →
        is_refused (file nodes library asked first is specs) n ≡ grows_in (known nodes library asked first is).headed.refused.now (slice_get is.rounds n) n
    refused_told ascending n its_round inside there ordered agree =
        let core = found.refused_by_bits t (scope_in nodes is.rounds) specs [] tabled_tree items its_bits n its_round
        (subst (λ (f : File). n < length f.nodes) same inside) (subst (λ (f : File). slice_get f.rounds n ≡ Some its_round) same there) ordered
        (subst (λ (f : File). Within f n) same agree) in
        subst (λ (f : File). is_refused (with_refused f) n ≡ grows_in (counted (refused_bits t items its_bits)) (slice_get f.rounds n) n) (sym same) core
        ∙ ap (λ (counts : List ℕ). grows_in counts (slice_get is.rounds n) n) (sym (counts_said ascending))
