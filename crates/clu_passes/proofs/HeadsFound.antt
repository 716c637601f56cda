-- Heads tell what the definitions say of modules and of what nodes ask, for whatever types come later.
use Rattle.std.proofs.Common.{◌≡◌, ◌∙◌, ◌⊎◌, ℕ, zero, suc, ◌-◌, ◌<◌, ◌≤◌, nat_lt, Bool, true, false, if◌then◌else◌, List, [], ◌∷◌, length, map, bytes_eq, Option, Some, None, inl, inr, refl, sym, ap, subst, arith}
use Rattle.std.specs.Prelude.{slice_get}
use Rattle.std.specs.List.{AllByRecursion, list_any}
use Rattle.std.specs.Option.{option_map}
use Rattle.std.proofs.lemmas.Option.{none-some, same_Some, slice_get_within}
use Rattle.clu_tree.specs.declared.node.Node.{Node}
use Rattle.clu_tree.specs.declared.node.NodeKind.{NodeKind}
use Rattle.clu_tree.specs.declared.node.NodeKind.TheVariants as kind
use Rattle.clu_tree.specs.Nodes.{modules}
use Rattle.clu_parser.specs.Trees.{Text}
use Rattle.clu_types.specs.Arena.{Grows, IsArena, types_of}
use Rattle.clu_types.specs.declared.spec.Spec.{Spec}
use Rattle.clu_types.specs.declared.term.Term.{Term}
use Rattle.clu_types.specs.declared.term.TypeId.{TypeId}
use Rattle.clu_syntax.specs.declared.round.Round.{Round}
use Rattle.clu_syntax.specs.Enough.{least_names}
use Rattle.clu_syntax.specs.Items.{Item}
use Rattle.clu_syntax.specs.Kinds.{kind_at}
use Rattle.clu_syntax.specs.Nodes.{before, cluster_of, item_at}
use Rattle.clu_syntax.specs.Splits.{first_name}
use Rattle.clu_syntax.specs.Syntax.{Identifier}
use Rattle.clu_syntax.proofs.Enough.{enough}
use Rattle.clu_names.specs.declared.scopes.Declared.{Declared}
use Rattle.clu_names.specs.Scopes.{declarations}
use Rattle.clu_meaning.specs.Scoping.{Scope}
use Rattle.clu_checking.specs.Specifications.{Heading, Specification}
use Rattle.clu_checking.specs.Files.{File, item, round, scope_in}
use Rattle.clu_checking.specs.Headings.{own_specifications, routines_of}
use Rattle.clu_checking.specs.Refusals.{refused_nodes}
use Rattle.clu_declares.proofs.Below.{item_there}
use Rattle.clu_declares.proofs.Facts.{There, there}
use Rattle.clu_declares.proofs.Parents.{IsIn}
use Rattle.clu_settle.specs.declared.value.Value.{Value}
use Rattle.clu_settle.specs.Names.{names_of}
use Rattle.clu_head.specs.declared.head.Head.{Head}
use Rattle.clu_head.specs.declared.head.HeadForm.{HeadForm}
use Rattle.clu_head.specs.declared.head.HeadForm.TheVariants as form
use Rattle.clu_head.specs.declared.head.RoutineHead.{RoutineHead}
use Rattle.clu_head.specs.declared.heads.Heads.{Heads}
use Rattle.clu_head.specs.declared.known.Known.{Known}
use Rattle.clu_head.specs.Asked.{demands_of}
use Rattle.clu_head.specs.Modules.{AreHeadsOf, AreOf}
use Rattle.clu_head.specs.Routines.{AreHeads, AreListed, IsHead, listed_nodes, routines_among}
use Rattle.clu_bindings.specs.declared.file.File.{File as Read}
use Rattle.clu_bindings.specs.declared.file.Headed.{Headed}
use Rattle.clu_bindings.specs.declared.meaning.ModuleId.{ModuleId}
use Rattle.clu_bindings.specs.Modules.{module_id}
use Rattle.clu_bindings.specs.Parameters.{AreParameters}
use Rattle.clu_bindings.specs.Readers.{module_at}
use Rattle.clu_operations.specs.Modules.{Module, kept, known_of, own}
use Rattle.clu_operations.specs.Modules as operations
use Rattle.clu_passes.specs.ConstantTables.{file_with}
use Rattle.clu_passes.specs.CountsRefused.{AreGone, CountRefused}
use Rattle.clu_passes.specs.DemandsTold.{TellDemands}
use Rattle.clu_passes.specs.FoundTold.{AreExported, IsExported, IsTextKnown, TellHeads}
use Rattle.clu_passes.specs.Made.{IsMade}
use Rattle.clu_passes.specs.OwnModules.{AreOwnModules}
use Rattle.clu_passes.specs.Told.{head_told, routine_told}
use Rattle.clu_passes.proofs.ClustersRound.{of_kinds}
use Rattle.clu_passes.proofs.CountsRound.{counts_round}
use Rattle.clu_passes.proofs.EachHead.{each_head}
use Rattle.clu_passes.proofs.FileModules.{modules_are, root}
use Rattle.clu_passes.proofs.HeadNumbers.{IsGood}
use Rattle.clu_passes.proofs.HeadsLater.{demands_later, heads_later, routines_later}
use Rattle.clu_passes.proofs.HeadsMade.{heads_good, heads_texts, heads_told, heads_wanted}
use Rattle.clu_passes.proofs.ModulesShown.{forms_shown, known_own}
use Rattle.clu_passes.proofs.UnitsOfClusters.{ModuleOf, module_round, unit_round}

-- ---- those of its routines are exported that a cluster names

all_exported : (k : Known) (exports : List Identifier) (is : ℕ → RoutineHead → Type 0) → ((n : ℕ) (h : RoutineHead) → is n h → h.exported ≡ list_any (bytes_eq h.name) exports) → (ns : List ℕ) (hs : List RoutineHead) → AreHeads is ns hs → AreExported exports hs
all_exported k exports is each [] [] are = tt
all_exported k exports is each [] (h ∷ hs) are = absurd are
all_exported k exports is each (n ∷ ns) [] are = absurd are
all_exported k exports is each (n ∷ ns) (h ∷ hs) are = (each n h are.0, all_exported k exports is each ns hs are.1)

abbrev HasExports : HeadForm → Type 0
HasExports f = (keys : List Identifier) × AreExported keys (operations.routines_in f)

module _ (k : Known) (old new : List Term) (heads : Heads) (are : AreOf k old new heads) where
  listed_exported : (between : List Term) (cvt : Option TypeId) (exports : List Identifier) (routines : List ℕ) (rs : List RoutineHead) → AreListed k.syntax.now (IsHead k heads.asked cvt exports between new) routines rs → AreExported exports rs
  unfolding AreListed
  listed_exported between cvt exports routines rs all =
      all_exported k exports (IsHead k heads.asked cvt exports between new) (λ n h is. is.exported) (routines_among k.syntax.now (listed_nodes all.0)) rs all.2

  exports_known : (i : ℕ) (h : Head) → slice_get heads.modules.items i ≡ Some h → HasExports h.form
  exports_known =
      each_head k heads.asked old new HasExports (λ m n r at is. ([], tt))
      (λ between front behind cvt name kinds owns exports routines n rs all. (exports, listed_exported between cvt exports routines rs all)) (modules k.syntax.now) heads.modules.items are.modules

exports_there : (nodes : List Node) (rounds : List Round) (ds : List Declared) (values : List Value) (bits : List Bool) (old new : List Term) (heads : Heads) → AreHeadsOf nodes rounds ds values bits old new heads → (i : ℕ) (h : Head) → slice_get heads.modules.items i ≡ Some h → HasExports h.form
unfolding AreHeadsOf
exports_there nodes rounds ds values bits old new heads are = exports_known are.0 old new heads are.2

-- ---- the place of one in a list

place_in : (c : ℕ) (cs : List ℕ) → IsIn c cs → (i : ℕ) × (slice_get cs i ≡ Some c)
place_in c [] i = absurd i
place_in c (x ∷ cs) (inl e) = (0, ap Some e)
place_in c (x ∷ cs) (inr i) = let p = place_in c cs i in (suc p.0, p.1)

first_got : (names : List Identifier) → 1 ≤ length names → slice_get names 0 ≡ Some (first_name names)
first_got [] l = absurd (omega (arith, l))
first_got (name ∷ names) l = refl

module _ (t : Text) (h : Headed) (library : List Specification) (refused : List ℕ) (types : List Term) (made : IsMade t h.file library refused types) (gone : AreGone h.file.syntax.now h.file.rounds.now h.file.values.now)
    (refuses : refused ≡ refused_nodes (file_with h.file (scope_in h.file.syntax.now h.file.rounds.now) library [])) (bits : List Bool) (counted : CountRefused (file_with h.file (scope_in h.file.syntax.now h.file.rounds.now) library refused) bits)
    (terms : List Term) (grows : Grows types terms) (arena : IsArena terms) (told : TellDemands (file_with h.file (scope_in h.file.syntax.now h.file.rounds.now) library refused) (types_of terms) h.heads.now.asked)
    (are : AreHeadsOf h.file.syntax.now h.file.rounds.now h.file.names.now.declared.items h.file.values.now bits types terms h.heads.now) (owned : AreOwnModules h.file.bindings.now.modules (modules h.file.syntax.now))
    (later : List Term) (more : Grows terms later) where
  abbrev nodes : List Node
  nodes = h.file.syntax.now

  abbrev rounds : List Round
  rounds = h.file.rounds.now

  abbrev f : File
  f = file_with h.file (scope_in h.file.syntax.now h.file.rounds.now) library refused

  good : (i : ℕ) (x : Head) → slice_get h.heads.now.modules.items i ≡ Some x → IsGood (length terms) x.form
  good = heads_good t h.file library refused types made gone refuses bits counted terms grows arena h.heads.now told are

  told_later : map (head_told (types_of later)) h.heads.now.modules.items ≡ own_specifications f
  told_later = heads_later terms later more h.heads.now.modules.items (λ i x at. (good i x at).0) ∙ heads_told t h.file library refused types made gone refuses bits counted terms grows arena h.heads.now told are

  -- ---- what is exported

  own_exported : (o : Option Head) (i : ℕ) → slice_get h.heads.now.modules.items i ≡ o → (its : Module) → option_map own o ≡ Some its → IsExported its
  own_exported None i at its is = absurd (none-some its is)
  own_exported (Some x) i at its is = subst IsExported (same_Some (own x) its is) (exports_there nodes rounds h.file.names.now.declared.items h.file.values.now bits types terms h.heads.now are i x at)

  kept_exported : (o : Option Spec) (its : Module) → option_map kept o ≡ Some its → IsExported its
  kept_exported None its is = absurd (none-some its is)
  kept_exported (Some s) its is = subst IsExported (same_Some (kept s) its is) tt

  exported_known : (id : ModuleId) (its : Module) → known_of h id ≡ Some its → IsExported its
  exported_known id its is = by (nat_lt id.0 h.file.bindings.now.modules.of_file) is
    where
      by : (b : Bool) → (if b then option_map own (slice_get h.heads.now.modules.items id.0) else option_map kept (slice_get h.file.library.now (id.0 - h.file.bindings.now.modules.of_file))) ≡ Some its → IsExported its
      by true e = own_exported (slice_get h.heads.now.modules.items id.0) id.0 refl its e
      by false e = kept_exported (slice_get h.file.library.now (id.0 - h.file.bindings.now.modules.of_file)) its e

  -- ---- the texts of clusters

  cluster_name : (c : ℕ) → kind_at nodes c ≡ kind.Cluster → slice_get (names_of (slice_get nodes c)) 0 ≡ Some (item f c).cluster.name
  cluster_name c is =
      let x : There nodes c kind.Cluster = there nodes c kind.Cluster refl is in
      let some : least_names x.node.kind ≤ length x.node.names = (enough nodes made.parsed.forms c x.node x.at).names in
      let same : least_names x.node.kind ≡ least_names kind.Cluster = ap least_names x.is in
      ap (λ (o : Option Node). slice_get (names_of o) 0) x.at
      ∙ first_got x.node.names (omega (arith, some, same))
      ∙ ap Some (sym (ap (λ (i : Item). i.cluster.name) (item_there nodes c x.node x.at) ∙ ap (λ (k : NodeKind). (cluster_of (before c (item_at nodes)) nodes c x.node k).name) x.is))

  text_known : (n c : ℕ) → (round f n).cluster ≡ Some c → IsTextKnown h f (types_of later) n c
  text_known n c has =
      let cluster : kind_at nodes c ≡ kind.Cluster = (of_kinds f made.parsed.tree made.rounds).clusters n c has in
      let m : ModuleOf t nodes rounds made.parsed made.rounds c = module_round t nodes rounds made.parsed made.rounds c cluster in
      let p = place_in m.unit (root t nodes rounds made.parsed made.rounds).children m.among in
      let placed : slice_get (modules nodes) p.0 ≡ Some m.unit = ap (λ (ns : List ℕ). slice_get ns p.0) (modules_are t nodes rounds made.parsed made.rounds) ∙ p.1 in
      let text = heads_texts t h.file library refused types made gone refuses bits counted terms grows arena h.heads.now told are p.0 c m.unit m.node cluster m.at m.is m.child placed in
      let inside : p.0 < length (modules nodes) = slice_get_within (modules nodes) p.0 m.unit placed in
      let many : h.file.bindings.now.modules.of_file ≡ length (modules nodes) = owned.of_file in
      record {
        name = cluster_name c cluster;
        id = module_id p.0;
        head = text.0;
        unit = ap (module_at h.file) (unit_round t nodes rounds made.parsed made.rounds n c has m) ∙ owned.units p.0 m.unit placed;
        known = known_own t h library refused types made owned (types_of later) told_later p.0 (omega (arith, inside, many)) ∙ ap (option_map own) text.1;
        routines = routines_later terms later more (operations.routines_in text.0.form) (good p.0 text.0 text.1).0.1 ∙ text.2;
      }

  -- ---- all of it

  parameters : AreParameters nodes rounds (declarations nodes rounds) h.file.bindings.now.parameters
  parameters = subst (λ (ds : List Declared). AreParameters nodes rounds ds h.file.bindings.now.parameters) made.names.declared made.bindings.parameters

  pub heads_found : TellHeads h f (types_of later)
  heads_found = record {
    forms = forms_shown t h library refused types made owned (types_of later) told_later;
    exported = exported_known;
    texts = text_known;
    asked = λ c. demands_later terms later more (demands_of h.heads.now.asked.demands.items h.heads.now.asked.starts.items c) (heads_wanted t h.file library refused types made gone refuses bits counted terms grows arena h.heads.now told are c) ∙ told c;
    kinds = of_kinds f made.parsed.tree made.rounds;
    counts = counts_round t h.file (scope_in nodes rounds) library refused made.parsed made.rounds made.few parameters;
  }
