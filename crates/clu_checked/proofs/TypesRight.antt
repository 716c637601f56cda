-- The bits of equates in which a check refuses a type are right, and so are its counts of refused nodes, at nodes that stand in no brackets.
use Rattle.std.proofs.Common.{◌≡◌, ◌∙◌, ◌+◌, ◌-◌, ◌^◌, ◌<◌, ◌≤◌, ℕ, Bool, true, false, List, [], length, map, Option, Some, refl, sym, ap, ap₂, subst, arith}
use Rattle.std.specs.Prelude.{slice_get}
use Rattle.std.proofs.lemmas.Option.{slice_get-get_or}
use Rattle.clu_base.specs.declared.rules.Refused.{Refused}
use Rattle.clu_tree.specs.declared.node.Node.{Node}
use Rattle.clu_tree.specs.declared.node.NodeKind.TheVariants as kind
use Rattle.clu_tree.specs.Nodes.{modules}
use Rattle.clu_parser.specs.Trees.{Text}
use Rattle.clu_syntax.specs.declared.round.Round.{Round}
use Rattle.clu_syntax.specs.Items.{Item}
use Rattle.clu_syntax.specs.Rounds.{outside, round_at}
use Rattle.clu_names.specs.declared.binding.Names.{Names}
use Rattle.clu_names.specs.declared.scopes.Declared.{Declared}
use Rattle.clu_types.specs.declared.spec.Spec.{Spec}
use Rattle.clu_checking.specs.Specifications.{Specification, specification_told}
use Rattle.clu_checking.specs.Files.{File, is_kind, is_refused, scope_in}
use Rattle.clu_checking.specs.Equates.{is_circular}
use Rattle.clu_checking.specs.Rules as definition
use Rattle.clu_checking.specs.Refusals.{is_bad_of, refused_nodes, rules_of_types, with_refused}
use Rattle.clu_settle.specs.Lists.{type_id}
use Rattle.clu_settle.proofs.Parts.{There, node_at}
use Rattle.clu_declares.specs.Declares.{AreFew, IsParsed}
use Rattle.clu_head.specs.declared.known.Known.{Known}
use Rattle.clu_head.specs.Modules.{AreKnown}
use Rattle.clu_head.specs.Refused.{counts_to, grows_in}
use Rattle.clu_bindings.specs.declared.file.File as bindings
use Rattle.clu_bindings.specs.declared.file.Headed.{Headed}
use Rattle.clu_name_rules.specs.declared.tables.Tables.{Tables}
use Rattle.clu_name_rules.specs.Constructors.{ValuesAscend}
use Rattle.clu_type_rules.specs.Rules.{violates_of_types}
use Rattle.clu_type_rules.specs.Walking.{bad_in}
use Rattle.clu_passes.specs.Clear.{IsOutside}
use Rattle.clu_passes.specs.Heads.{AreCounted, file_known}
use Rattle.clu_passes.specs.Made.{IsWhole}
use Rattle.clu_passes.specs.Notes.{HaveParents}
use Rattle.clu_passes.specs.Refusing.{AgreeInEquates, AgreeWithin, IsOrder, bits_in, is_no_type, of_types, refused_bits}
use Rattle.clu_passes.specs.Trees.{IsFileOfTree}
use Rattle.clu_passes.specs.Turns.{bit}
use Rattle.clu_passes.proofs.FaultsFound as found
use Rattle.clu_passes.proofs.KnownAscend.{values_ascend}
use Rattle.clu_passes.proofs.MeaningsThere.{meanings_are}
use Rattle.clu_passes.proofs.OfParents.{have_parents}
use Rattle.clu_passes.proofs.OrderTold.{order_told}
use Rattle.clu_passes.proofs.Strings.{value_same}
use Rattle.clu_passes.proofs.Subtrees.{is_subtree}
use Rattle.clu_passes.proofs.TypesSettled as settled
use Rattle.clu_passes.proofs.Within.{forest_goes_on}
use Rattle.clu_check_mod.specs.Answered.{IsFirst}
use Rattle.clu_check_mod.specs.declared.walk.Extent.{Extent}
use Rattle.clu_checked.specs.Checked.{bits_of_types, circular, file, known, order, plain, tables}
use Rattle.clu_checked.proofs.TypesTold.{counts_said, types_found}
use Rattle.clu_checked.proofs.Whole.{types_whole, whole as known_whole}

module _ (t : Text) (nodes : List Node) (parsed : IsParsed t nodes) (library : List Spec) (asked : Extent) (first : Option Refused) (is : IsFirst nodes library asked first)
    (few : AreFew nodes is.rounds) (few_modules : length (modules nodes) + length library < 2 ^ 32 - 1) where
  abbrev specs : List Specification
  specs = map specification_told library

  abbrev its : Tables
  its = tables nodes library asked first is

  abbrev its_plain : File
  its_plain = plain nodes library asked first is (map specification_told library)

  abbrev counts : List ℕ
  counts = (known nodes library asked first is).headed.refused.now

  file_said : its.file ≡ is.is.file
  file_said = is.is.is.tables.file_is

  nodes_said : its.file.syntax.now ≡ nodes
  nodes_said = ap (λ (f : bindings.File). f.syntax.now) file_said ∙ is.is.nodes_are

  rounds_said : its.file.rounds.now ≡ is.rounds
  rounds_said = ap (λ (f : bindings.File). f.rounds.now) file_said ∙ is.is.rounds_are

  names_said : its.file.names.now ≡ is.names
  names_said = ap (λ (f : bindings.File). f.names.now) file_said ∙ is.is.names_are

  -- ---- the components of the types that are values of nodes ascend

  ascend_in : (x : Tables) (refused : List ℕ) → IsWhole t x specs refused → ValuesAscend x
  ascend_in x refused all =
      values_ascend x (scope_in x.file.syntax.now x.file.rounds.now) all.made.file.values all.made.file.arena (λ n apart. ap type_id (value_same x.file.values.now n) ∙ all.made.file.read.other n apart)

  pub ascending : ValuesAscend its
  ascending = ascend_in its [] (types_whole t nodes parsed library asked first is few few_modules [])

  pub known_ascending : ValuesAscend (known nodes library asked first is).tables
  known_ascending = ascend_in (known nodes library asked first is).tables [] (known_whole t nodes parsed library asked first is few few_modules [])

  module _ (items : ℕ → Item) where
    abbrev its_bits : List Bool
    its_bits = bits_of_types nodes library asked first is items

    -- ---- whatever nodes are refused

    module _ (others : List ℕ) where
      abbrev made : List Node → List Round → File
      made ns rs = record { nodes = ns; rounds = rs; scope = scope_in ns rs; library = specs; refused = others }

      abbrev its_file : File
      its_file = made nodes is.rounds

      -- as the laws on tables have it
      abbrev tabled : File
      tabled = made its.file.syntax.now its.file.rounds.now

      whole : IsWhole t its specs others
      whole = types_whole t nodes parsed library asked first is few few_modules others

      same : its_file ≡ tabled
      same = ap₂ made (sym nodes_said) (sym rounds_said)

      of_tree : IsFileOfTree its_file
      of_tree = record { shaped = parsed.forms; ordered = parsed.order; tree = parsed.tree; surrounded = is.surrounded }

      plain_order : IsOrder its_file is.names (order nodes library asked first is) (circular nodes library asked first is)
      plain_order =
          order_told its_file is.surrounded refl is.names is.names_are.declared is.names_are.bound is.names_are.starts (order nodes library asked first is) (circular nodes library asked first is) is.is.lists_are.order is.is.lists_are.circular

      its_order : IsOrder tabled its.file.names.now (order nodes library asked first is) (circular nodes library asked first is)
      its_order =
          subst (λ (names : Names). IsOrder tabled names (order nodes library asked first is) (circular nodes library asked first is)) (sym names_said)
          (subst (λ (f : File). IsOrder f is.names (order nodes library asked first is) (circular nodes library asked first is)) same plain_order)

      bits_are : its_bits ≡ bits_in tabled (order nodes library asked first is) (is_no_type its items)
      bits_are =
          types_found its items (order nodes library asked first is)
          ∙ ap (λ (ds : List Declared). bad_in its.file.syntax.now its.file.rounds.now (is_no_type its items) ds (order nodes library asked first is)) whole.made.file.names.declared

      abbrev AgreeAt : List Bool → Type 0
      AgreeAt bits =
          (n : ℕ) (node : Node) → slice_get its.file.syntax.now n ≡ Some node → IsOutside tabled n →
          AgreeWithin tabled (violates_of_types its bits items) (λ m. of_types (definition.violates tabled (is_bad_of tabled (rules_of_types tabled)) m)) n

      nodes_agree : AgreeAt its_bits
      nodes_agree =
          subst AgreeAt (sym bits_are)
          (settled.agree_within t its specs others whole.made whole.lost (meanings_are t its.file specs others its.types.now whole.made.file) whole.noted.repeated items (order nodes library asked first is) (circular nodes library asked first is) its_order)

      -- each node begins with one that is no later
      begins : (n : ℕ) (node : Node) → slice_get its.file.syntax.now n ≡ Some node → (round_at its.file.rounds.now n).first ≤ n
      begins n node at =
          forest_goes_on its.file.syntax.now (round_at its.file.rounds.now n).first n node.children
          (is_subtree its.file.syntax.now its.file.rounds.now whole.made.file.parsed.tree whole.made.file.rounds whole.made.file.parsed.order n node at)

      abbrev AreGrown : File → Type 0
      AreGrown f = (n : ℕ) → n < length f.nodes → IsOutside f n → is_refused (with_refused f) n ≡ grows_in counts (slice_get f.rounds n) n

      counted : AreGrown tabled
      counted n inside apart =
          let size : length its.file.rounds.now ≡ length its.file.syntax.now = whole.made.file.rounds.size in
          let x : There its.file.syntax.now n = node_at its.file.syntax.now n inside in
          found.refused_by_bits its (scope_in its.file.syntax.now its.file.rounds.now) specs others (subst IsFileOfTree same of_tree) items its_bits n (round_at its.file.rounds.now n) inside
          (slice_get-get_or its.file.rounds.now n outside (omega (arith, size, inside))) (begins n x.node x.at) (nodes_agree n x.node x.at apart)
          ∙ ap (λ (ns : List ℕ). grows_in ns (slice_get its.file.rounds.now n) n)
          (sym (counts_said t nodes parsed library asked first is specs items ascending))

      pub refused_by_rules : AreGrown its_file
      refused_by_rules = subst AreGrown (sym same) counted

    -- ---- bad equates

    abbrev AreBits : File → List Bool → Type 0
    AreBits f bits = (e : ℕ) → is_kind f kind.Equate e ≡ true → is_circular f e ≡ false → bit bits e ≡ is_bad_of f (rules_of_types f) e

    pub bits_right : AreBits its_plain its_bits
    bits_right =
        subst (λ (f : File). AreBits f its_bits) (sym (same []))
        (subst (AreBits (tabled [])) (sym (bits_are []))
        (settled.bits_right t its specs [] (whole []).made (whole []).lost (meanings_are t its.file specs [] its.types.now (whole []).made.file) (whole []).noted.repeated items (order nodes library asked first is) (circular nodes library asked first is) (its_order [])))

    abbrev AgreeBy : File → List Bool → Type 0
    AgreeBy f bits = AgreeInEquates f (violates_of_types its bits items) (λ n. of_types (definition.violates f (bit bits) n))

    pub equates_agree : AgreeBy its_plain its_bits
    equates_agree =
        subst (λ (f : File). AgreeBy f its_bits) (sym (same []))
        (subst (AgreeBy (tabled [])) (sym (bits_are []))
        (settled.agree_in_equates t its specs [] (whole []).made (whole []).lost (meanings_are t its.file specs [] its.types.now (whole []).made.file) (whole []).noted.repeated items (order nodes library asked first is) (circular nodes library asked first is) (its_order [])))

    -- ---- refused nodes

    pub refused_right : (n : ℕ) → n < length nodes → IsOutside (file nodes library asked first is specs) n → is_refused (file nodes library asked first is specs) n ≡ grows_in counts (slice_get is.rounds n) n
    refused_right n inside apart = refused_by_rules [] n inside (record { beside = apart.beside; above = apart.above })

    -- ---- so they are of the tables from which heads are made

    abbrev checked : List Node → List Round → File
    checked = made (refused_nodes its_plain)

    abbrev IsCounted : List Node → List Round → List ℕ → Type 0
    IsCounted ns rs cs = IsFileOfTree (checked ns rs) × HaveParents (checked ns rs) × ((n : ℕ) → n < length ns → IsOutside (checked ns rs) n → is_refused (checked ns rs) n ≡ grows_in cs (slice_get rs n) n)

    pub counted_right : (k : Known) → AreKnown is.is.file.syntax.now is.is.file.rounds.now is.is.file.names.now.declared.items is.is.file.values.now is.is.is.refused k → AreCounted k (file_known k (scope_in k.syntax.now k.rounds.now) specs (refused_nodes its_plain))
    counted_right k tables =
        let first_counts : IsCounted nodes is.rounds counts = (of_tree (refused_nodes its_plain), have_parents t (checked nodes is.rounds) parsed is.surrounded, λ n inside apart. refused_right n inside (record { beside = apart.beside; above = apart.above })) in
        let there : IsCounted k.syntax.now k.rounds.now k.refused.now =
        subst (λ (ns : List Node). IsCounted ns k.rounds.now k.refused.now) (sym (tables.tree ∙ is.is.nodes_are))
        (subst (λ (rs : List Round). IsCounted nodes rs k.refused.now) (sym (tables.round ∙ is.is.rounds_are))
        (subst (IsCounted nodes is.rounds) (ap (λ (h : Headed). h.refused.now) is.is.is.is.is.headed_is ∙ is.is.is.counts ∙ sym tables.counted) first_counts)) in
        record { of_tree = there.0; parents = there.1; same = there.2 }
