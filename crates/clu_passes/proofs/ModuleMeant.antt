-- The first name of a node, as the tables say what it means: which module it is, of what kinds its parameters are and whether it
-- is a routine.
use Rattle.std.proofs.Common.{◌≡◌, ◌∙◌, ℕ, ◌-◌, ◌^◌, ◌<◌, ◌≤◌, ◌&&◌, ◌||◌, not, Bool, true, false, cond, if◌then◌else◌, List, [], ◌∷◌, length, map, Option, Some, None, slice_get, is_some, codes, refl, ap, sym, subst, arith}
use Rattle.std.specs.Prelude.{bytes_eq}
use Rattle.std.specs.List.{list_any}
use Rattle.std.proofs.Math.Bool.{and_assoc}
use Rattle.std.proofs.lemmas.Bool.{true≢false, or_parts}
use Rattle.std.proofs.lemmas.Slice.Eq.{bytes_eq-Decides}
use Rattle.clu_tree.specs.declared.node.Node.{Node}
use Rattle.clu_tree.specs.declared.node.NodeKind.{NodeKind}
use Rattle.clu_tree.specs.declared.node.NodeKind.TheVariants as kind
use Rattle.clu_parser.specs.Shape.{HaveForms}
use Rattle.clu_parser.specs.Trees.{Text}
use Rattle.clu_types.specs.declared.term.Term.{Term}
use Rattle.clu_types.specs.Arena.{IsArena}
use Rattle.clu_syntax.specs.declared.words.SimpleType.{SimpleType}
use Rattle.clu_syntax.specs.declared.words.SimpleType.TheVariants as simple
use Rattle.clu_syntax.specs.Enough.{least_names}
use Rattle.clu_syntax.specs.Rounds.{AreRounds}
use Rattle.clu_syntax.specs.Kinds.{kind_at}
use Rattle.clu_syntax.specs.Splits.{is_of, first_name}
use Rattle.clu_syntax.specs.Syntax.{Identifier, Module, a_routine, a_cluster}
use Rattle.clu_syntax.specs.Items.{Item, modules_at}
use Rattle.clu_syntax.specs.Nodes.{before, item_at, file_of, type_expression_of}
use Rattle.clu_syntax.specs.Words.{symbol_in, simple_type}
use Rattle.clu_syntax.proofs.Enough.{enough}
use Rattle.clu_names.specs.declared.scopes.Declared.{Declared}
use Rattle.clu_names.specs.Scopes.{is_stream, declarations}
use Rattle.clu_names.specs.Denotes.{found, names_in}
use Rattle.clu_meaning.specs.Scoping as means
use Rattle.clu_checking.specs.Specifications.{Specification, specification_in, specification_told}
use Rattle.clu_checking.specs.Files.{File, scope_in, item, module_name, node_names, meaning, is_kept, is_own_module, denotes_module, is_of_module}
use Rattle.clu_checking.specs.Headings.{specification, specification_of, own_specifications, or_kept}
use Rattle.clu_checking.specs.Wanted.{first_name_at, kinds_of}
use Rattle.clu_checking.specs.ConstantRules as rules_of
use Rattle.clu_checking.specs.ConstantRules.{is_module_routine, is_word}
use Rattle.clu_settle.specs.Names as settled
use Rattle.clu_settle.specs.Names.{names_of}
use Rattle.clu_settle.specs.Settled.{AreSettled}
use Rattle.clu_parts.proofs.Fitting.{AreParts}
use Rattle.clu_declares.specs.Declares.{IsParsed, AreFew}
use Rattle.clu_declares.proofs.Below.{same_kind, item_there}
use Rattle.clu_declares.proofs.Facts.{There, there, ModuleIs, root_parts, top}
use Rattle.clu_declares.proofs.RepWords.{rep_told}
use Rattle.clu_bindings.specs.declared.file.File.{File as Read}
use Rattle.clu_bindings.specs.declared.bindings.ModuleKnown.{ModuleKnown}
use Rattle.clu_bindings.specs.declared.meaning.ModuleId.{ModuleId}
use Rattle.clu_bindings.specs.Modules.{named, AreModules, modules_in}
use Rattle.clu_bindings.specs.Bindings.{AreBindings}
use Rattle.clu_bindings.specs.Readers.{known_in, kinds_known, kinds_in, is_routine_known, is_routine, meaning_in, module_in}
use Rattle.clu_passes.specs.ConstantTables.{Means, IsMeant, file_with}
use Rattle.clu_passes.specs.Legal.{AreLegalKnown}
use Rattle.clu_passes.specs.Tables.{AreNames}
use Rattle.clu_passes.proofs.FileModules.{Has, not_found, names_there, root, modules_are, declares}
use Rattle.clu_passes.proofs.ModulesSaid.{AreSame, modules_said, its, unit_name}
use Rattle.clu_passes.proofs.NamesMean.{is_module_meant, first_means, first_module}

-- ---- tests

pub denotes_same : (f : File) (m : means.Meaning) → denotes_module f m ≡ is_module_meant m
denotes_same f means.is_module = refl
denotes_same f means.is_type_set = refl
denotes_same f _ = refl

pub and_if : (a x : Bool) → (a && x) ≡ (if a then x else false)
and_if true x = refl
and_if false x = refl

kinds_said : (P : Type 0) (o : Option ModuleKnown) (s : Option Specification) → AreSame P o s → P → kinds_known o ≡ kinds_of s
kinds_said P (Some k) (Some s) same p = same.0 p
kinds_said P (Some k) None same p = absurd same
kinds_said P None (Some s) same p = absurd same
kinds_said P None None same p = refl

routine_said : (P : Type 0) (o : Option ModuleKnown) (s : Option Specification) → AreSame P o s → is_routine_known o ≡ rules_of.is_routine s
routine_said P (Some k) (Some s) same = same.1
routine_said P (Some k) None same = absurd same
routine_said P None (Some s) same = absurd same
routine_said P None None same = refl

-- ---- the first name of a node of a kind of which all names denote

pub of_first : (f : File) → HaveForms f.nodes → (P : Identifier → Type 0) (n : ℕ) (k : NodeKind) → 1 ≤ least_names k → ((node : Node) → names_in k node ≡ node.names) → is_of k kind.File ≡ false → kind_at f.nodes n ≡ k →
    ((node : Node) (name : Identifier) (rest : List Identifier) → slice_get f.nodes n ≡ Some node → names_in node.kind node ≡ name ∷ rest → slice_get node.names 0 ≡ Some name → P name) → P (first_name_at f n)
of_first f forms P n k least used other is told =
    let th : There f.nodes n k = there f.nodes n k other is in
    let some : least_names th.node.kind ≤ length th.node.names = (enough f.nodes forms n th.node th.at).names in
    let same : least_names th.node.kind ≡ least_names k = ap least_names th.is in
    let x = names_there th.node.names (omega (arith, least, some, same)) in
    let its : first_name_at f n ≡ first_name th.node.names = ap (λ (o : Option Node). first_name (node_names f o)) th.at in
    subst P (sym its) (told th.node (first_name th.node.names) x.0 th.at (ap (λ (k : NodeKind). names_in k th.node) th.is ∙ used th.node ∙ x.1) (ap (λ (names : List Identifier). slice_get names 0) x.1))

-- ---- modules of the file by their specifications

its_name : (f : File) (m : Module) → (specification_of f m).name ≡ module_name m
its_name f (a_routine n es r) = refl
its_name f (a_cluster n es c) = refl

some_either : (b : Bool) (s : Specification) (o : Option Specification) → is_some (cond b (Some s) o) ≡ (b || is_some o)
some_either true s o = refl
some_either false s o = refl

pub own_found : (f : File) (ms : List Module) (name : Identifier) → is_some (specification_in (map (specification_of f) ms) name) ≡ list_any (λ m. bytes_eq (module_name m) name) ms
own_found f [] name = refl
own_found f (m ∷ ms) name =
    ap (λ (x : Identifier). is_some (cond (bytes_eq x name) (Some (specification_of f m)) (specification_in (map (specification_of f) ms) name))) (its_name f m)
    ∙ some_either (bytes_eq (module_name m) name) (specification_of f m) (specification_in (map (specification_of f) ms) name)
    ∙ ap (λ (b : Bool). bytes_eq (module_name m) name || b) (own_found f ms name)

none_found : (o : Option Specification) → is_some o ≡ false → o ≡ None
none_found None e = refl
none_found (Some s) e = absurd (true≢false e)

pub rep_word : (w : SimpleType) → rules_of.same_word simple.Rep w ≡ settled.is_rep w
rep_word simple.Rep = refl
rep_word simple.Null = refl
rep_word _ = refl

module _ (t : Text) (r : Read) (library : List Specification) (refused : List ℕ) (types : List Term) (arena : IsArena types) (known : AreSettled r.syntax.now (scope_in r.syntax.now r.rounds.now) types r.constants.now r.values.now)
    (parsed : IsParsed t r.syntax.now) (are : AreRounds r.syntax.now r.rounds.now) (few : AreFew r.syntax.now r.rounds.now) (its_names : AreNames (file_with r (scope_in r.syntax.now r.rounds.now) library refused) r.names.now)
    (tables : AreBindings r.syntax.now r.rounds.now r.names.now r.values.now r.bindings.now) (kept : library ≡ map specification_told r.library.now) (there_are : AreModules r.bindings.now.modules (modules_in types r.values.now r.syntax.now r.library.now))
    (few_modules : length r.bindings.now.modules.known.items < 2 ^ 32 - 1) where
  abbrev nodes : List Node
  nodes = r.syntax.now

  abbrev scope : means.Scope
  scope = scope_in r.syntax.now r.rounds.now

  abbrev ds : List Declared
  ds = declarations r.syntax.now r.rounds.now

  abbrev f : File
  f = file_with r scope library refused

  abbrev of : Identifier → Option ModuleId
  of = named r.bindings.now.modules

  -- ---- modules of the file

  pub file_is : file_of nodes ≡ modules_at (item_at nodes) (root t nodes r.rounds.now parsed are).children
  file_is = (root_parts t nodes r.rounds.now parsed are).1

  parts_are : AreParts nodes (is_of kind.Module) (top t nodes r.rounds.now parsed are) (root t nodes r.rounds.now parsed are).children
  parts_are = (root_parts t nodes r.rounds.now parsed are).0

  pub same_module : (name : Identifier) → AreSame (AreLegalKnown f r.values.now) (known_in r (of name)) (specification f name)
  same_module name =
      modules_said t r scope library refused types arena known parsed are tables (top t nodes r.rounds.now parsed are) (root t nodes r.rounds.now parsed are).children parts_are (modules_are t nodes r.rounds.now parsed are) file_is kept there_are few_modules name

  -- one of a name that isn't declared is none of them
  module _ (n : ℕ) (name : Identifier) where
    unnamed : found ds name n ≡ None → is_stream name ≡ false → (u : ℕ) → is_of kind.Module (kind_at nodes u) ≡ true → bytes_eq (specification_of f (item_at nodes u).module_).name name ≡ true → ⊥
    unnamed e s u is hit =
        let th : There nodes u kind.Module = there nodes u kind.Module refl (same_kind kind.Module (kind_at nodes u) is) in
        let m : ModuleIs t nodes r.rounds.now parsed are u th.node = its t r scope library refused types arena known parsed are tables u th.node th.at th.is in
        let same : first_name (names_of (slice_get nodes m.last)) ≡ name =
        sym (unit_name t r scope library refused types arena known parsed are tables u th.node th.at th.is) ∙ (bytes_eq-Decides (specification_of f (item_at nodes u).module_).name name).0 hit in
        not_found ds name n e
        (subst (λ (x : Identifier). Has x ds) same (declares t nodes r.rounds.now parsed are u th.node th.at th.is (ap is_stream same ∙ s)))

    none_in : found ds name n ≡ None → is_stream name ≡ false → (ns : List ℕ) → AreParts nodes (is_of kind.Module) (top t nodes r.rounds.now parsed are) ns → specification_in (map (specification_of f) (modules_at (item_at nodes) ns)) name ≡ None
    none_in e s [] ps = refl
    none_in e s (u ∷ ns) ps = by (bytes_eq (specification_of f (item_at nodes u).module_).name name) refl (none_in e s ns ps.1)
      where
        by : (b : Bool) → bytes_eq (specification_of f (item_at nodes u).module_).name name ≡ b → specification_in (map (specification_of f) (modules_at (item_at nodes) ns)) name ≡ None
            → cond b (Some (specification_of f (item_at nodes u).module_)) (specification_in (map (specification_of f) (modules_at (item_at nodes) ns)) name) ≡ None
        by true hit rest = absurd (unnamed e s u ps.0.1 hit)
        by false hit rest = rest

    pub none_own : found ds name n ≡ None → is_stream name ≡ false → specification_in (own_specifications f) name ≡ None
    none_own e s = ap (λ (ms : List Module). specification_in (map (specification_of f) ms) name) file_is ∙ none_in e s (root t nodes r.rounds.now parsed are).children parts_are

    none_said : (not (is_stream name) && (is_own_module f name || is_kept f name)) ≡ false → specification f name ≡ None
    none_said e = by (is_stream name) refl
      where
        by : (s : Bool) → is_stream name ≡ s → specification f name ≡ None
        by true s = ap (λ (s : Bool). if s then None else or_kept f (specification_in (own_specifications f) name) name) s
        by false s =
            let parts : (is_own_module f name ≡ false) × (is_kept f name ≡ false) =
            or_parts (is_own_module f name) (is_kept f name) (sym (ap (λ (s : Bool). not s && (is_own_module f name || is_kept f name)) s) ∙ e) in
            ap (λ (s : Bool). if s then None else or_kept f (specification_in (own_specifications f) name) name) s
            ∙ ap (λ (o : Option Specification). or_kept f o name) (none_found (specification_in (own_specifications f) name) (own_found f (file_of nodes) name ∙ parts.0))
            ∙ none_found (specification_in library name) parts.1

    chosen : {A : Type 0} (g : Option Specification → A) → (if is_of_module f n name then g (specification f name) else g None) ≡ (if is_module_meant (meaning f n name) then g (specification f name) else g None)
    chosen g =
        ap (λ (b : Bool). if b then g (specification f name) else g None) (and_assoc (denotes_module f (meaning f n name)) (not (is_stream name)) (is_own_module f name || is_kept f name))
        ∙ by (denotes_module f (meaning f n name)) (not (is_stream name) && (is_own_module f name || is_kept f name)) refl
        ∙ ap (λ (b : Bool). if b then g (specification f name) else g None) (denotes_same f (meaning f n name))
      where
        by : (b c : Bool) → (not (is_stream name) && (is_own_module f name || is_kept f name)) ≡ c → (if b && c then g (specification f name) else g None) ≡ (if b then g (specification f name) else g None)
        by true true e = refl
        by true false e = sym (ap g (none_said e))
        by false c e = refl

    -- where it stands first among the names of a node
    module _ (node : Node) (rest : List Identifier) (at : slice_get nodes n ≡ Some node) (e : names_in node.kind node ≡ name ∷ rest) (first : slice_get node.names 0 ≡ Some name) where
      pub module_is : module_in r n ≡ (if is_module_meant (meaning f n name) then of name else None)
      module_is = first_module t r library refused parsed are few its_names tables n node name rest at e first

      kinds_are : AreLegalKnown f r.values.now → kinds_in r (module_in r n) ≡ (if is_of_module f n name then kinds_of (specification f name) else [])
      kinds_are p = ap (λ (o : Option ModuleId). kinds_known (known_in r o)) module_is ∙ by (is_module_meant (meaning f n name)) ∙ sym (chosen kinds_of)
        where
          by : (b : Bool) → kinds_known (known_in r (if b then of name else None)) ≡ (if b then kinds_of (specification f name) else kinds_of None)
          by true = kinds_said (AreLegalKnown f r.values.now) (known_in r (of name)) (specification f name) (same_module name) p
          by false = refl

      routine_is : is_routine r (module_in r n) ≡ is_module_routine f n name
      routine_is =
          ap (λ (o : Option ModuleId). is_routine_known (known_in r o)) module_is ∙ by (is_module_meant (meaning f n name)) ∙ sym (chosen rules_of.is_routine)
          ∙ sym (and_if (is_of_module f n name) (rules_of.is_routine (specification f name)))
        where
          by : (b : Bool) → is_routine_known (known_in r (if b then of name else None)) ≡ (if b then rules_of.is_routine (specification f name) else rules_of.is_routine None)
          by true = routine_said (AreLegalKnown f r.values.now) (known_in r (of name)) (specification f name) (same_module name)
          by false = refl

      meant_so : IsMeant f r n name
      meant_so = record { means = first_means t r library refused parsed are few its_names tables n node name rest at e; kinds = kinds_are; routine = routine_is }

  -- ---- by kinds of nodes

  meant_at : (n : ℕ) (k : NodeKind) → 1 ≤ least_names k → ((node : Node) → names_in k node ≡ node.names) → is_of k kind.File ≡ false → kind_at nodes n ≡ k → IsMeant f r n (first_name_at f n)
  meant_at n k least used other is = of_first f parsed.forms (IsMeant f r n) n k least used other is (λ node name rest. meant_so n name node rest)

  pub named_said : (n : ℕ) → kind_at nodes n ≡ kind.Name → IsMeant f r n (first_name_at f n)
  named_said n is = meant_at n kind.Name (omega arith) (λ node. refl) refl is

  pub named_types_said : (n : ℕ) → kind_at nodes n ≡ kind.NameT → IsMeant f r n (first_name_at f n)
  named_types_said n is = meant_at n kind.NameT (omega arith) (λ node. refl) refl is

  pub restricted_said : (n : ℕ) → kind_at nodes n ≡ kind.Restrict → Means nodes (meaning_in r n) (meaning f n (first_name_at f n))
  restricted_said n is = (meant_at n kind.Restrict (omega arith) (λ node. refl) refl is).means

  pub reps_said : (n : ℕ) → kind_at nodes n ≡ kind.Simple → is_word simple.Rep (item f n).type ≡ true → Means nodes (meaning_in r n) (meaning f n (codes "rep"))
  reps_said n is word =
      let th : There nodes n kind.Simple = there nodes n kind.Simple refl is in
      let type : is_word simple.Rep (item f n).type ≡ rules_of.same_word simple.Rep (simple_type (symbol_in th.node.value)) =
      ap (λ (i : Item). is_word simple.Rep i.type) (item_there nodes n th.node th.at)
      ∙ ap (λ (k : NodeKind). is_word simple.Rep (type_expression_of (before n (item_at nodes)) nodes n th.node k)) th.is in
      let rep : bytes_eq th.node.value (codes "rep") ≡ true = rep_told nodes th.node (parsed.forms n th.node th.at) th.is ∙ sym (rep_word (simple_type (symbol_in th.node.value))) ∙ sym type ∙ word in
      let names : names_in th.node.kind th.node ≡ th.node.value ∷ [] = ap (λ (k : NodeKind). names_in k th.node) th.is ∙ ap (λ (b : Bool). if b then th.node.value ∷ [] else []) rep in
      subst (λ (name : Identifier). Means nodes (meaning_in r n) (meaning f n name)) ((bytes_eq-Decides th.node.value (codes "rep")).0 rep)
      (first_means t r library refused parsed are few its_names tables n th.node th.node.value [] th.at names)
