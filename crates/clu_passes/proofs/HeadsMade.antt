-- The heads that are made of the file of a text tell its specifications, and each is whole where the headings have no fault.
use Rattle.std.proofs.Common.{◌≡◌, ◌∙◌, ℕ, zero, suc, ◌<◌, Bool, List, [], ◌∷◌, ◌++◌, length, map, Option, Some, None, refl, sym, ap, subst}
use Rattle.std.specs.Prelude.{slice_get}
use Rattle.std.specs.List.{AllByRecursion}
use Rattle.std.proofs.lemmas.List.{append-nil}
use Rattle.std.proofs.lemmas.Option.{none-some, same_Some}
use Rattle.clu_base.specs.declared.constants.Const.{Const}
use Rattle.clu_tree.specs.declared.node.Node.{Node}
use Rattle.clu_tree.specs.declared.node.NodeKind.{NodeKind}
use Rattle.clu_tree.specs.declared.node.NodeKind.TheVariants as kind
use Rattle.clu_tree.specs.Nodes.{modules}
use Rattle.clu_parser.specs.Trees.{Text}
use Rattle.clu_types.specs.CluType.{CluType}
use Rattle.clu_types.specs.Arena.{Grows, IsArena, types_of}
use Rattle.clu_types.specs.declared.term.Term.{Term}
use Rattle.clu_types.proofs.Carrying.{length_grows}
use Rattle.clu_syntax.specs.declared.round.Round.{Round}
use Rattle.clu_syntax.specs.Kinds.{kind_at}
use Rattle.clu_syntax.specs.Nodes.{item_at}
use Rattle.clu_syntax.specs.Rounds.{AreRounds}
use Rattle.clu_names.specs.declared.scopes.Declared.{Declared}
use Rattle.clu_names.specs.Scopes.{declarations}
use Rattle.clu_meaning.specs.Scoping.{Scope}
use Rattle.clu_meaning.specs.Settling.{settled, value_of_constant}
use Rattle.clu_checking.specs.Specifications.{Specification}
use Rattle.clu_checking.specs.Files.{File, is_refused, item, kind_in, scope_in}
use Rattle.clu_checking.specs.Headings.{own_specifications, routines_of}
use Rattle.clu_checking.specs.Refusals.{heading_refusal, refused_nodes}
use Rattle.clu_declares.specs.Declares.{AreFew, IsParsed}
use Rattle.clu_declares.proofs.Each.{are_meanings}
use Rattle.clu_declares.proofs.Parents.{IsIn}
use Rattle.clu_settle.specs.declared.value.Value.{Value}
use Rattle.clu_settle.specs.declared.value.Value.TheVariants as value
use Rattle.clu_settle.specs.Lists.{value_of}
use Rattle.clu_settle.specs.Lost.{AreRead, IsLost}
use Rattle.clu_settle.specs.Meant.{meanings_of}
use Rattle.clu_settle.specs.Settled.{AreSettled}
use Rattle.clu_settle.specs.Values.{Agrees, AreWithin}
use Rattle.clu_settle.proofs.Telling.{told_kept}
use Rattle.clu_settle.proofs.Within.{value_within}
use Rattle.clu_head.specs.declared.head.Head.{Head}
use Rattle.clu_head.specs.declared.heads.Heads.{Heads}
use Rattle.clu_head.specs.declared.known.Known.{Known}
use Rattle.clu_head.specs.Asked.{demands_of}
use Rattle.clu_head.specs.Modules.{AreHeadsOf, AreKnown, AreOf}
use Rattle.clu_head.specs.Refused.{counts_to, grows_in}
use Rattle.clu_head.specs.Wanted.{asked_to}
use Rattle.clu_head.specs.Whole.{IsWhole}
use Rattle.clu_bindings.specs.declared.file.File.{File as Read}
use Rattle.clu_operations.specs.Bundles.{WantedBelow}
use Rattle.clu_operations.specs.Finding.{IsBelowIf}
use Rattle.clu_operations.specs.Modules as operations
use Rattle.clu_passes.specs.Clear.{IsOutside}
use Rattle.clu_passes.specs.ConstantTables.{file_with}
use Rattle.clu_passes.specs.CountsRefused.{AreGone, CountRefused, RefusesAgain}
use Rattle.clu_passes.specs.Demands.{asked_by}
use Rattle.clu_passes.specs.DemandsTold.{TellDemands}
use Rattle.clu_passes.specs.Heads.{AreCounted, file_known}
use Rattle.clu_passes.specs.HeadsKnown.{AreHeadsKnown}
use Rattle.clu_passes.specs.Legal.{AreLegalKnown}
use Rattle.clu_passes.specs.Made.{IsMade}
use Rattle.clu_passes.specs.Tables.{AreNames}
use Rattle.clu_passes.specs.Told.{head_told, routine_told}
use Rattle.clu_passes.specs.Trees.{IsFileOfTree}
use Rattle.clu_passes.specs.WholeTold.{IsWholeTold}
use Rattle.clu_passes.proofs.DemandsEach.{Each, each_of}
use Rattle.clu_passes.proofs.HeadNumbers.{IsGood, asked_below, modules_good, wants_below}
use Rattle.clu_passes.proofs.HeadTypesFit.{types_fit}
use Rattle.clu_passes.proofs.HeadsComplete.{head_whole}
use Rattle.clu_passes.proofs.HeadsSaid.{heads_said, texts_said}
use Rattle.clu_passes.proofs.LegalTypes.{legal_known}
use Rattle.clu_passes.proofs.OfParents.{have_parents}
use Rattle.clu_passes.proofs.OwnTypeKept.{values_later}
use Rattle.clu_passes.proofs.WholeSpecifications.{specifications_whole}

-- values stay right while the arena grows
pub settled_later : (nodes : List Node) (scope : Scope) (old new : List Term) (constants : List Const) (values : List Value) → Grows old new → AreSettled nodes scope old constants values → AreSettled nodes scope new constants values
settled_later nodes scope old new constants values grows known = record {
  size = known.size;
  within = values_later (length old) (length new) (length constants) (length_grows old new grows) values known.within;
  each = λ n is.
      let here = value_within (length old) (length constants) values n known.within in
      subst (λ o. Agrees o (value_of_constant scope (settled scope) (item_at nodes n).constant)) (sym (told_kept old new constants constants grows ([], no_more constants) (value_of values n) here.0 here.1)) (known.each n is);
  rights = λ n r name so.
      let here = value_within (length old) (length constants) values r known.within in
      subst (λ o. Agrees o (settled scope (item_at nodes r).constant)) (sym (told_kept old new constants constants grows ([], no_more constants) (value_of values r) here.0 here.1)) (known.rights n r name so);
}
  where
    no_more : (cs : List Const) → cs ≡ cs ++ []
    no_more cs = sym (append-nil cs)

all_at : (types : List CluType) (hs : List Head) → AllByRecursion IsWholeTold (map (head_told types) hs) → (i : ℕ) (h : Head) → slice_get hs i ≡ Some h → IsWholeTold (head_told types h)
all_at types [] all i h at = absurd (none-some h at)
all_at types (g ∷ hs) all zero h at = subst (λ (x : Head). IsWholeTold (head_told types x)) (same_Some g h at) all.0
all_at types (g ∷ hs) all (suc i) h at = all_at types hs all.1 i h at

module _ (t : Text) (r : Read) (library : List Specification) (refused : List ℕ) (types : List Term) (made : IsMade t r library refused types) (gone : AreGone r.syntax.now r.rounds.now r.values.now)
    (refuses : refused ≡ refused_nodes (file_with r (scope_in r.syntax.now r.rounds.now) library [])) (bits : List Bool) (counted : CountRefused (file_with r (scope_in r.syntax.now r.rounds.now) library refused) bits)
    (terms : List Term) (grows : Grows types terms) (arena : IsArena terms) (heads : Heads) (told : TellDemands (file_with r (scope_in r.syntax.now r.rounds.now) library refused) (types_of terms) heads.asked) where
  abbrev nodes : List Node
  nodes = r.syntax.now

  abbrev rounds : List Round
  rounds = r.rounds.now

  abbrev file_by : List Node → List Round → File
  file_by ns rs = record { nodes = ns; rounds = rs; scope = scope_in ns rs; library = library; refused = refused }

  abbrev plain_by : List Node → List Round → File
  plain_by ns rs = record { nodes = ns; rounds = rs; scope = scope_in ns rs; library = library; refused = [] }

  abbrev f : File
  f = file_with r (scope_in r.syntax.now r.rounds.now) library refused

  of_tree : IsFileOfTree f
  of_tree = record { shaped = made.parsed.forms; ordered = made.parsed.order; tree = made.parsed.tree; surrounded = made.rounds }

  legal : AreLegalKnown f r.values.now
  legal =
      legal_known f of_tree r.values.now (are_meanings t nodes rounds made.parsed made.rounds made.few)
      (subst (λ (ds : List Declared). AreRead nodes (meanings_of nodes rounds ds) r.values.now) made.names.declared made.read)

  module _ (k : Known) (tells : AreKnown r.syntax.now r.rounds.now r.names.now.declared.items r.values.now bits k) (are : AreOf k types terms heads) where
    abbrev g : File
    g = file_known k (scope_in k.syntax.now k.rounds.now) library refused

    -- what holds of the nodes and surroundings holds of those that are known
    moved : (P : List Node → List Round → Type 0) → P nodes rounds → P k.syntax.now k.rounds.now
    moved P p = subst (λ (rs : List Round). P k.syntax.now rs) (sym tells.round) (subst (λ (ns : List Node). P ns rounds) (sym tells.tree) p)

    its_parsed : IsParsed t k.syntax.now
    its_parsed = moved (λ ns rs. IsParsed t ns) made.parsed

    its_rounds : AreRounds k.syntax.now k.rounds.now
    its_rounds = moved AreRounds made.rounds

    its_tree : IsFileOfTree g
    its_tree = moved (λ ns rs. IsFileOfTree (file_by ns rs)) of_tree

    its_counts : AreCounted k g
    its_counts = record {
      of_tree = its_tree;
      parents = have_parents t g its_parsed its_rounds;
      same =
          subst (λ (counts : List ℕ). (n : ℕ) → n < length k.syntax.now → IsOutside g n → is_refused g n ≡ grows_in counts (slice_get k.rounds.now n) n) (sym tells.counted)
          (moved (λ ns rs. CountRefused (file_by ns rs) bits) counted);
    }

    its_within : AreWithin (length types) (length r.constants.now) k.values.now
    its_within = subst (AreWithin (length types) (length r.constants.now)) (sym tells.value) made.values.within

    its_values : AreSettled k.syntax.now (scope_in k.syntax.now k.rounds.now) terms r.constants.now k.values.now
    its_values =
        subst (AreSettled k.syntax.now (scope_in k.syntax.now k.rounds.now) terms r.constants.now) (sym tells.value)
        (moved (λ ns rs. AreSettled ns (scope_in ns rs) terms r.constants.now r.values.now) (settled_later nodes (scope_in nodes rounds) types terms r.constants.now r.values.now grows made.values))

    its_told : TellDemands g (types_of terms) heads.asked
    its_told = moved (λ ns rs. TellDemands (file_by ns rs) (types_of terms) heads.asked) told

    its_known : AreHeadsKnown k g heads.asked terms
    its_known = record {
      legal = subst (AreLegalKnown g) (sym tells.value) (moved (λ ns rs. AreLegalKnown (file_by ns rs) r.values.now) legal);
      routines = λ n is. its_told n ∙ ap (λ (j : NodeKind). asked_by g j n) is;
      clusters = λ n is. its_told n ∙ ap (λ (j : NodeKind). asked_by g j n) is;
    }

    same : g ≡ f
    same = ap (λ (ns : List Node). file_by ns k.rounds.now) tells.tree ∙ ap (file_by nodes) tells.round

    told_so : map (head_told (types_of terms)) heads.modules.items ≡ own_specifications f
    told_so =
        heads_said t k library refused its_parsed its_rounds (moved AreFew made.few) its_counts (moved (λ ns rs. refused ≡ refused_nodes (plain_by ns rs)) refuses)
        heads.asked types terms arena r.constants.now its_within its_values
        (subst (AreGone k.syntax.now k.rounds.now) (sym tells.value) (moved (λ ns rs. AreGone ns rs r.values.now) gone)) its_known heads.modules.items are.modules
        ∙ ap own_specifications same

    whole_so : RefusesAgain f → heading_refusal f ≡ None → (i : ℕ) (h : Head) → slice_get heads.modules.items i ≡ Some h → IsWhole terms h
    whole_so again clear i h at =
        let below : IsGood (length terms) h.form =
        modules_good k heads.asked types terms
        (asked_below k (length types) (length r.constants.now) its_within types terms (length_grows types terms grows) (length k.syntax.now) heads.asked.demands.items are.asked)
        (modules k.syntax.now) heads.modules.items are.modules i h at in
        head_whole terms h (types_fit k types terms arena heads are i h at) below.0
        (all_at (types_of terms) heads.modules.items
        (subst (AllByRecursion IsWholeTold) (sym told_so) (specifications_whole t f made.parsed made.rounds again clear)) i h at)

  -- ---- numbers that stand in them, and the routines of clusters

  abbrev TextAt : List Node → List Round → Type 0
  TextAt ns rs =
      (i c u : ℕ) (node : Node) → kind_at ns c ≡ kind.Cluster → slice_get ns u ≡ Some node → node.kind ≡ kind.Module → IsIn c node.children → slice_get (modules ns) i ≡ Some u →
      (h : Head) × (slice_get heads.modules.items i ≡ Some h) × (map (routine_told (types_of terms)) (operations.routines_in h.form) ≡ routines_of (file_by ns rs) (item (file_by ns rs) c).cluster)

  module _ (k : Known) (tells : AreKnown r.syntax.now r.rounds.now r.names.now.declared.items r.values.now bits k) (are : AreOf k types terms heads) where
    below_asked : Each (IsBelowIf (length terms)) heads.asked.demands.items
    below_asked =
        asked_below k (length types) (length r.constants.now) (its_within k tells are) types terms (length_grows types terms grows) (length k.syntax.now) heads.asked.demands.items are.asked

    good_so : (i : ℕ) (h : Head) → slice_get heads.modules.items i ≡ Some h → IsGood (length terms) h.form
    good_so = modules_good k heads.asked types terms below_asked (modules k.syntax.now) heads.modules.items are.modules

    wanted_so : (n : ℕ) → WantedBelow (length terms) (demands_of heads.asked.demands.items heads.asked.starts.items n)
    wanted_so n =
        wants_below (length terms) (demands_of heads.asked.demands.items heads.asked.starts.items n) (each_of (IsBelowIf (length terms)) heads.asked.demands.items heads.asked.starts.items n below_asked)

    text_known : TextAt k.syntax.now k.rounds.now
    text_known i c u node cluster at is child placed =
        let x =
        texts_said t k library refused (its_parsed k tells are) (its_rounds k tells are) (moved k tells are AreFew made.few) (its_counts k tells are) (moved k tells are (λ ns rs. refused ≡ refused_nodes (plain_by ns rs)) refuses)
        heads.asked types terms arena r.constants.now (its_within k tells are) (its_values k tells are)
        (subst (AreGone k.syntax.now k.rounds.now) (sym tells.value) (moved k tells are (λ ns rs. AreGone ns rs r.values.now) gone)) (its_known k tells are) heads.modules.items are.modules i c u node cluster at is child placed in
        (x.head, x.there_is, x.routines)

    text_so : TextAt nodes rounds
    text_so = subst (λ (rs : List Round). TextAt nodes rs) tells.round (subst (λ (ns : List Node). TextAt ns k.rounds.now) tells.tree text_known)

  abbrev AreTheHeads : Type 0
  AreTheHeads = AreHeadsOf r.syntax.now r.rounds.now r.names.now.declared.items r.values.now bits types terms heads

  pub heads_good : AreTheHeads → (i : ℕ) (h : Head) → slice_get heads.modules.items i ≡ Some h → IsGood (length terms) h.form
  unfolding AreHeadsOf
  heads_good are = good_so are.0 are.1 are.2

  pub heads_wanted : AreTheHeads → (n : ℕ) → WantedBelow (length terms) (demands_of heads.asked.demands.items heads.asked.starts.items n)
  unfolding AreHeadsOf
  heads_wanted are = wanted_so are.0 are.1 are.2

  pub heads_texts : AreTheHeads → TextAt nodes rounds
  unfolding AreHeadsOf
  heads_texts are = text_so are.0 are.1 are.2

  pub heads_told : AreHeadsOf r.syntax.now r.rounds.now r.names.now.declared.items r.values.now bits types terms heads → map (head_told (types_of terms)) heads.modules.items ≡ own_specifications f
  unfolding AreHeadsOf
  heads_told are = told_so are.0 are.1 are.2

  pub heads_whole : AreHeadsOf r.syntax.now r.rounds.now r.names.now.declared.items r.values.now bits types terms heads → RefusesAgain f → heading_refusal f ≡ None → (i : ℕ) (h : Head) → slice_get heads.modules.items i ≡ Some h → IsWhole terms h
  unfolding AreHeadsOf
  heads_whole are again clear i h at = whole_so are.0 are.1 are.2 again clear i h at
