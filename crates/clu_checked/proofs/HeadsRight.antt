-- The heads of which a check answers tell the specifications of the file; and where its headings have no fault there is a specification of
-- each module.
use Rattle.std.proofs.Common.{◌≡◌, ◌∙◌, ◌+◌, ◌-◌, ◌^◌, ◌<◌, ◌≤◌, ℕ, zero, suc, Bool, List, [], ◌∷◌, ◌++◌, length, map, Option, Some, None, inl, inr, refl, sym, ap, subst, arith}
use Rattle.std.specs.Prelude.{slice_get}
use Rattle.std.specs.Option.{option_and_then}
use Rattle.std.proofs.lemmas.Option.{none-some, same_Some}
use Rattle.clu_base.specs.declared.rules.Refused.{Refused}
use Rattle.clu_tree.specs.declared.node.Node.{Node}
use Rattle.clu_tree.specs.declared.node.NodeKind.{NodeKind}
use Rattle.clu_tree.specs.declared.node.NodeKind.TheVariants as kind
use Rattle.clu_tree.specs.Nodes.{modules}
use Rattle.clu_parser.specs.Trees.{Text}
use Rattle.clu_types.specs.declared.spec.Spec.{Spec}
use Rattle.clu_types.specs.declared.term.Term.{Term}
use Rattle.clu_types.specs.CluType.{CluType}
use Rattle.clu_types.specs.Arena.{Grows, types_of}
use Rattle.clu_syntax.specs.declared.round.Round.{Round}
use Rattle.clu_syntax.specs.Enough.{least_names}
use Rattle.clu_syntax.specs.Items.{Item, modules_at}
use Rattle.clu_syntax.specs.Kinds.{kind_at, kind_of}
use Rattle.clu_syntax.specs.Nodes.{before, cluster_of, item_at, routine_of}
use Rattle.clu_syntax.specs.Rounds.{AreRounds}
use Rattle.clu_syntax.specs.Splits.{first_name, is_of, run}
use Rattle.clu_syntax.specs.Syntax.{Identifier, Module}
use Rattle.clu_syntax.proofs.Enough.{enough}
use Rattle.clu_parts.proofs.Fitting.{AreParts}
use Rattle.clu_names.specs.Scopes.{declarations}
use Rattle.clu_checking.specs.Specifications.{Specification}
use Rattle.clu_checking.specs.Files.{File, scope_in}
use Rattle.clu_checking.specs.Headings.{own_specifications, specification_of}
use Rattle.clu_checking.specs.Files as checking
use Rattle.clu_checking.specs.Refusals.{heading_refusal, refused_nodes}
use Rattle.clu_declares.specs.Declares.{AreFew, IsParsed}
use Rattle.clu_declares.proofs.Below.{item_there, same_kind}
use Rattle.clu_declares.proofs.Facts.{ModuleIs, There, root_parts, there, top}
use Rattle.clu_head.specs.declared.head.Head.{Head}
use Rattle.clu_head.specs.Modules.{AreHeadsOf}
use Rattle.clu_head.specs.Refused.{grows_in}
use Rattle.clu_head.specs.Whole.{IsWhole}
use Rattle.clu_bindings.specs.declared.file.File.{File as Read}
use Rattle.clu_bindings.specs.declared.file.Headed.{Headed}
use Rattle.clu_passes.specs.Bound.{AreOfModules}
use Rattle.clu_passes.specs.Clear.{IsOutside}
use Rattle.clu_passes.specs.ConstantTables.{file_with}
use Rattle.clu_passes.specs.CountsRefused.{AreGone, CountRefused, RefusesAgain}
use Rattle.clu_passes.specs.DemandsTold.{TellDemands}
use Rattle.clu_passes.specs.FoundTold.{TellHeads}
use Rattle.clu_passes.specs.Made.{IsMade}
use Rattle.clu_passes.specs.OwnModules.{AreOwnModules}
use Rattle.clu_passes.specs.Told.{head_told}
use Rattle.clu_passes.proofs.DeclaredParameters.{facts}
use Rattle.clu_passes.proofs.FileModules.{modules_are, names_there, root}
use Rattle.clu_passes.proofs.HeadsFound as found
use Rattle.clu_passes.proofs.HeadsMade as made
use Rattle.clu_passes.proofs.OwnNumbered.{own_numbered}
use Rattle.clu_check_mod.specs.Answered.{IsFirst}
use Rattle.clu_check_mod.specs.Modules.{AreSpecified, IsSpecified, definition_of, name_of}
use Rattle.clu_check_mod.specs.declared.walk.Extent.{Extent}
use Rattle.clu_checked.specs.Checked.{file, known}
use Rattle.clu_checked.proofs.DemandsRight.{counts_are, grown_first, lost_there, of_file, of_nodes, plain_of, same_file, specs, to_file, told_file}
use Rattle.clu_checked.proofs.RefusedAgain.{refuses_again}
use Rattle.clu_checked.proofs.TypesRight.{refused_right}
use Rattle.clu_checked.proofs.Whole.{file_made, first_arena, headed_arena}

-- ---- the head of each module, by its place

last_got : (xs : List ℕ) (x : ℕ) → slice_get (xs ++ x ∷ []) (length (xs ++ x ∷ []) - 1) ≡ Some x
last_got [] x = refl
last_got (y ∷ xs) x =
    let one : 1 ≤ length (xs ++ x ∷ []) = some xs in
    let size : length ((y ∷ xs) ++ x ∷ []) - 1 ≡ suc (length (xs ++ x ∷ []) - 1) = omega (arith, one) in
    ap (slice_get (y ∷ (xs ++ x ∷ []))) size ∙ last_got xs x
  where
    some : (xs : List ℕ) → 1 ≤ length (xs ++ x ∷ [])
    some [] = omega arith
    some (z ∷ zs) = omega arith

first_got : (names : List Identifier) → 1 ≤ length names → slice_get names 0 ≡ Some (first_name names)
first_got [] l = absurd (omega (arith, l))
first_got (name ∷ names) l = refl

record HasHead (types : List CluType) (hs : List Head) (i : ℕ) (s : Specification) : Type 0 where
  its : Head
  there_is : slice_get hs i ≡ Some its
  tells : head_told types its ≡ s

same_first : (a b : Specification) (xs ys : List Specification) → a ∷ xs ≡ b ∷ ys → a ≡ b
same_first a b xs ys e = cc

same_rest : (a b : Specification) (xs ys : List Specification) → a ∷ xs ≡ b ∷ ys → xs ≡ ys
same_rest a b xs ys e = cc

none_first : (b : Specification) (ys : List Specification) → [] ≡ b ∷ ys → ⊥
none_first b ys e = cc

module _ (f : File) (types : List CluType) where
  each_head : (ns : List ℕ) (hs : List Head) → map (head_told types) hs ≡ map (specification_of f) (modules_at (item_at f.nodes) ns) → (i u : ℕ) → slice_get ns i ≡ Some u → HasHead types hs i (specification_of f (item_at f.nodes u).module_)
  each_head [] hs told i u at = absurd (none-some u at)
  each_head (n ∷ ns) [] told i u at = absurd (none_first (specification_of f (item_at f.nodes n).module_) (map (specification_of f) (modules_at (item_at f.nodes) ns)) told)
  each_head (n ∷ ns) (h ∷ hs) told zero u at = record {
    its = h;
    there_is = refl;
    tells =
        same_first (head_told types h) (specification_of f (item_at f.nodes n).module_) (map (head_told types) hs) (map (specification_of f) (modules_at (item_at f.nodes) ns)) told
        ∙ ap (λ (m : ℕ). specification_of f (item_at f.nodes m).module_) (same_Some n u at);
  }
  each_head (n ∷ ns) (h ∷ hs) told (suc i) u at =
      let x : HasHead types hs i (specification_of f (item_at f.nodes u).module_) =
      each_head ns hs (same_rest (head_told types h) (specification_of f (item_at f.nodes n).module_) (map (head_told types) hs) (map (specification_of f) (modules_at (item_at f.nodes) ns)) told) i u at in
      record { its = x.its; there_is = x.there_is; tells = x.tells }

module _ (t : Text) (f : File) (parsed : IsParsed t f.nodes) (are : AreRounds f.nodes f.rounds) where
  abbrev nodes : List Node
  nodes = f.nodes

  -- the name of a module is that of its specification
  module _ (u : ℕ) (node : Node) (at : slice_get f.nodes u ≡ Some node) (is : node.kind ≡ kind.Module) where
    abbrev d : ModuleIs t f.nodes f.rounds parsed are u node
    d = facts t f.nodes f.rounds parsed are u node at is

    defined : (k : NodeKind) → There nodes d.last k → 1 ≤ least_names k → (x : Node) → slice_get nodes d.last ≡ Some x → x.kind ≡ k → name_of nodes u ≡ Some (first_name x.names)
    defined k th least x x_at x_is =
        let some : least_names x.kind ≤ length x.names = (enough nodes parsed.forms d.last x x_at).names in
        let same : least_names x.kind ≡ least_names k = ap least_names x_is in
        let last : slice_get node.children (length node.children - 1) ≡ Some d.last =
        ap (λ (cs : List ℕ). slice_get cs (length cs - 1)) (sym d.is_last) ∙ last_got (run nodes kind.Equate node.children) d.last in
        let definition : definition_of nodes u ≡ Some x =
        ap (λ (o : Option Node). option_and_then (λ m. option_and_then (slice_get nodes) (slice_get m.children (length m.children - 1))) o) at
        ∙ ap (λ (o : Option ℕ). option_and_then (slice_get nodes) o) last ∙ x_at in
        ap (λ (o : Option Node). option_and_then (λ d. slice_get d.names 0) o) definition ∙ first_got x.names (omega (arith, least, some, same))

    pub named_so : name_of nodes u ≡ Some (specification_of f (item_at nodes u).module_).name
    named_so = elim d.defines [
      | inl so ↦
          (let x : There nodes d.last kind.Routine = there nodes d.last kind.Routine refl so.0 in
          defined kind.Routine x (omega arith) x.node x.at x.is
          ∙ ap Some (sym (ap (λ (m : Module). (specification_of f m).name) so.1 ∙ ap (λ (i : Item). i.routine.name) (item_there nodes d.last x.node x.at) ∙ ap (λ (k : NodeKind). (routine_of (before d.last (item_at nodes)) nodes d.last x.node k).name) x.is)))
      | inr so ↦
          (let x : There nodes d.last kind.Cluster = there nodes d.last kind.Cluster refl so.0 in
          defined kind.Cluster x (omega arith) x.node x.at x.is
          ∙ ap Some (sym (ap (λ (m : Module). (specification_of f m).name) so.1 ∙ ap (λ (i : Item). i.cluster.name) (item_there nodes d.last x.node x.at) ∙ ap (λ (k : NodeKind). (cluster_of (before d.last (item_at nodes)) nodes d.last x.node k).name) x.is)))
    ]

  kind_among : (n : ℕ) (ns : List ℕ) → AreParts nodes (is_of kind.Module) n ns → (i u : ℕ) → slice_get ns i ≡ Some u → kind_at nodes u ≡ kind.Module
  kind_among n [] ps i u at = absurd (none-some u at)
  kind_among n (m ∷ ns) ps zero u at = subst (λ (m : ℕ). kind_at nodes m ≡ kind.Module) (same_Some m u at) (same_kind kind.Module (kind_at nodes m) ps.0.1)
  kind_among n (m ∷ ns) ps (suc i) u at = kind_among n ns ps.1 i u at

  -- where heads tell the specifications of the file, and are whole
  specified : (terms : List Term) (hs : List Head) → map (head_told (types_of terms)) hs ≡ own_specifications f → ((i : ℕ) (h : Head) → slice_get hs i ≡ Some h → IsWhole terms h) → AreSpecified f.nodes terms hs
  specified terms hs told whole i u at =
      let parts = root_parts t nodes f.rounds parsed are in
      let ns : List ℕ = (root t nodes f.rounds parsed are).children in
      let there_at : slice_get ns i ≡ Some u = ap (λ (ms : List ℕ). slice_get ms i) (sym (modules_are t nodes f.rounds parsed are)) ∙ at in
      let x : HasHead (types_of terms) hs i (specification_of f (item_at f.nodes u).module_) = each_head f (types_of terms) ns hs (told ∙ ap (map (specification_of f)) parts.1) i u there_at in
      let m : There nodes u kind.Module = there nodes u kind.Module refl (kind_among (top t nodes f.rounds parsed are) ns parts.0 i u there_at) in
      (x.its, x.there_is, record { named = named_so u m.node m.at m.is ∙ ap (λ (s : Specification). Some s.name) (sym x.tells); whole = whole i x.its x.there_is })

-- ---- by the tables of a check

module _ (t : Text) (nodes : List Node) (parsed : IsParsed t nodes) (library : List Spec) (asked : Extent) (first : Option Refused) (is : IsFirst nodes library asked first)
    (few : AreFew nodes is.rounds) (few_modules : length (modules nodes) + length library < 2 ^ 32 - 1) (parms : AreOfModules nodes is.rounds) where
  abbrev its_file : Read
  its_file = is.is.file

  abbrev library_told : List Specification
  library_told = specs t nodes parsed library asked first is few few_modules parms

  -- the file as the definitions have it, by the tables of names
  abbrev f : File
  f = of_file t nodes parsed library asked first is few few_modules parms is.is.file

  abbrev refused : List ℕ
  refused = refused_nodes (plain_of t nodes parsed library asked first is few few_modules parms is.is.file)

  abbrev heads : List Head
  heads = is.is.is.headed.heads.now.modules.items

  abbrev its_types : List CluType
  its_types = types_of is.is.is.terms

  its_made : IsMade t its_file library_told refused is.is.types
  its_made =
      file_made t nodes parsed library asked first is few few_modules is.is.types (grown_first t nodes parsed library asked first is few few_modules parms) (first_arena t nodes parsed library asked first is few few_modules)
      refused

  abbrev CountBy : List ℕ → List Node → List Round → Type 0
  CountBy counts ns rs =
      (n : ℕ) → n < length ns → IsOutside (of_nodes t nodes parsed library asked first is few few_modules parms ns rs) n →
      checking.is_refused (of_nodes t nodes parsed library asked first is few few_modules parms ns rs) n ≡ grows_in counts (slice_get rs n) n

  counted : CountRefused f is.is.is.refused
  counted =
      subst (λ (counts : List ℕ). CountBy counts is.is.file.syntax.now is.is.file.rounds.now) (counts_are t nodes parsed library asked first is few few_modules parms)
      (to_file t nodes parsed library asked first is few few_modules parms (CountBy (known nodes library asked first is).headed.refused.now)
      (λ n inside apart. refused_right t nodes parsed library asked first is few few_modules (item_at nodes) n inside apart))

  told_there : map (head_told its_types) heads ≡ own_specifications f
  told_there =
      made.heads_told t its_file library_told refused is.is.types its_made (lost_there t nodes parsed library asked first is few few_modules parms) refl is.is.is.refused counted is.is.is.terms is.is.is.grows
      (headed_arena t nodes parsed library asked first is few few_modules) is.is.is.headed.heads.now (told_file t nodes parsed library asked first is few few_modules parms).told is.is.is.heads

  whole_there : RefusesAgain f → heading_refusal f ≡ None → (i : ℕ) (h : Head) → slice_get heads i ≡ Some h → IsWhole is.is.is.terms h
  whole_there again clear =
      made.heads_whole t its_file library_told refused is.is.types its_made (lost_there t nodes parsed library asked first is few few_modules parms) refl is.is.is.refused counted is.is.is.terms is.is.is.grows
      (headed_arena t nodes parsed library asked first is few few_modules) is.is.is.headed.heads.now (told_file t nodes parsed library asked first is few few_modules parms).told is.is.is.heads again clear

  -- ---- of the file that is checked

  abbrev checked : File
  checked = file nodes library asked first is (specs t nodes parsed library asked first is few few_modules parms)

  same : checked ≡ f
  same = same_file t nodes parsed library asked first is few few_modules parms

  pub heads_right : map (head_told its_types) heads ≡ own_specifications checked
  heads_right = told_there ∙ ap own_specifications (sym same)

  pub heads_whole : heading_refusal checked ≡ None → (i : ℕ) (h : Head) → slice_get heads i ≡ Some h → IsWhole is.is.is.terms h
  heads_whole clear = whole_there (subst RefusesAgain same (refuses_again t nodes parsed library asked first is few few_modules)) (sym (ap heading_refusal same) ∙ clear)

  -- so there is a specification of each module
  pub specified_right : heading_refusal checked ≡ None → AreSpecified is.is.is.headed.file.syntax.now is.is.is.terms heads
  specified_right clear =
      let same_nodes : is.is.is.headed.file.syntax.now ≡ nodes = ap (λ (g : Read). g.syntax.now) is.is.is.file_is ∙ is.is.nodes_are in
      subst (λ (ns : List Node). AreSpecified ns is.is.is.terms heads) (sym same_nodes) (specified t checked parsed is.surrounded is.is.is.terms heads heads_right (heads_whole clear))

  -- ---- what is found by them

  -- which modules are those of the file
  pub own_right : AreOwnModules is.is.is.headed.file.bindings.now.modules (modules is.is.is.headed.file.syntax.now)
  own_right =
      let small : length nodes + length (declarations nodes is.rounds) < 2 ^ 32 = few in
      subst (λ (g : Read). AreOwnModules g.bindings.now.modules (modules g.syntax.now)) (sym is.is.is.file_is)
      (subst (λ (ns : List Node). AreOwnModules is.is.file.bindings.now.modules (modules ns)) (sym is.is.nodes_are)
      (own_numbered nodes (omega (arith, small)) is.is.file.bindings.now.modules is.is.numbered))

  module _ (later : List Term) (more : Grows is.is.is.terms later) where
    abbrev h : Headed
    h = is.is.is.headed

    -- what is so of the file is so of that with heads
    to_headed : (P : Read → Type 0) → P is.is.file → P is.is.is.headed.file
    to_headed P = subst P (sym is.is.is.file_is)

    abbrev with_file : Read → File
    with_file g = file_with g (scope_in g.syntax.now g.rounds.now) library_told refused

    found_there : TellHeads h (with_file h.file) (types_of later)
    found_there =
        found.heads_found t h library_told refused is.is.types (to_headed (λ g. IsMade t g library_told refused is.is.types) its_made)
        (to_headed (λ g. AreGone g.syntax.now g.rounds.now g.values.now) (lost_there t nodes parsed library asked first is few few_modules parms))
        (to_headed (λ g. refused ≡ refused_nodes (file_with g (scope_in g.syntax.now g.rounds.now) library_told [])) refl)
        is.is.is.refused (to_headed (λ g. CountRefused (with_file g) is.is.is.refused) counted) is.is.is.terms is.is.is.grows (headed_arena t nodes parsed library asked first is few few_modules)
        (to_headed (λ g. TellDemands (with_file g) its_types h.heads.now.asked) (told_file t nodes parsed library asked first is few few_modules parms).told)
        (to_headed (λ g. AreHeadsOf g.syntax.now g.rounds.now g.names.now.declared.items g.values.now is.is.is.refused is.is.types is.is.is.terms h.heads.now) is.is.is.heads)
        own_right later more

    pub found_right : TellHeads h checked (types_of later)
    found_right = subst (λ (g : File). TellHeads h g (types_of later)) (ap with_file is.is.is.file_is ∙ sym same) found_there
