-- A name that means an equate by the table of names is that of the Equate whose right side it says.
use Rattle.std.proofs.Common.{◌≡◌, ◌∙◌, ℕ, ◌<◌, ◌≤◌, Bool, true, false, if◌then◌else◌, List, [], ◌∷◌, length, map, get_or, Option, Some, None, slice_get, codes, refl, ap, sym, arith}
use Rattle.std.specs.Prelude.{bytes_eq}
use Rattle.std.proofs.lemmas.Bool.{true≢false}
use Rattle.std.proofs.lemmas.Option.{slice_get_within}
use Rattle.std.proofs.lemmas.Slice.Eq.{bytes_eq-Decides}
use Rattle.clu_tree.specs.declared.node.Node.{Node}
use Rattle.clu_tree.specs.declared.node.NodeKind.{NodeKind}
use Rattle.clu_tree.specs.declared.node.NodeKind.TheVariants as kind
use Rattle.clu_parser.specs.Trees.{Text}
use Rattle.clu_syntax.specs.Enough.{least_names}
use Rattle.clu_syntax.specs.Kinds.{kind_at, kind_of, is_expression}
use Rattle.clu_syntax.specs.Rounds.{AreRounds}
use Rattle.clu_syntax.specs.Splits.{is_of, children_of, first_name}
use Rattle.clu_syntax.specs.Syntax.{Identifier, a_simple_type}
use Rattle.clu_syntax.specs.Words.{symbol_in, simple_type}
use Rattle.clu_syntax.proofs.Enough.{enough}
use Rattle.clu_names.specs.declared.scopes.Declared.{Declared}
use Rattle.clu_names.specs.Denotes.{found, names_in}
use Rattle.clu_names.specs.Denotes as denotes
use Rattle.clu_names.specs.Scopes.{declarations}
use Rattle.clu_meaning.specs.Scoping.{declaration_at}
use Rattle.clu_checking.specs.Specifications.{Specification}
use Rattle.clu_checking.specs.Files.{File, scope_in, kind_in, item, names, node_names, declaring_node, equate_of, equate_named}
use Rattle.clu_checking.specs.Equates.{names_unfolded, word_named}
use Rattle.clu_checking.specs.ConstantRules as rules_of
use Rattle.clu_checking.specs.ConstantRules.{is_word}
use Rattle.clu_syntax.specs.declared.words.SimpleType.{SimpleType}
use Rattle.clu_syntax.specs.declared.words.SimpleType.TheVariants as simple
use Rattle.clu_settle.specs.Names.{names_of}
use Rattle.clu_declares.specs.Declares.{IsParsed, AreFew}
use Rattle.clu_declares.proofs.Below.{same_kind}
use Rattle.clu_declares.proofs.Facts.{There, there as there_of}
use Rattle.clu_declares.proofs.RepWords.{rep_told}
use Rattle.clu_bindings.specs.declared.file.File.{File as Read}
use Rattle.clu_bindings.specs.declared.meaning.Meaning.{Meaning}
use Rattle.clu_bindings.specs.declared.meaning.Meaning.TheVariants as meant
use Rattle.clu_bindings.specs.declared.meaning.ModuleId.{ModuleId}
use Rattle.clu_bindings.specs.Bindings.{AreBindings}
use Rattle.clu_bindings.specs.Declaring as table
use Rattle.clu_bindings.specs.Files.{bound_in}
use Rattle.clu_bindings.specs.Modules.{named}
use Rattle.clu_bindings.specs.Readers.{meaning_in}
use Rattle.clu_bindings.specs.Tables.{items_at}
use Rattle.clu_passes.specs.ConstantTables.{file_with}
use Rattle.clu_passes.specs.Tables.{AreNames}
use Rattle.clu_passes.specs.Trees.{IsFileOfTree}
use Rattle.clu_passes.proofs.ByNodes.{type_there}
use Rattle.clu_passes.proofs.EquatesSaid.{at_node, is_equate}
use Rattle.clu_passes.proofs.FileModules.{names_there}
use Rattle.clu_passes.proofs.LostRefused.{HasEquate, IsSideOf}
use Rattle.clu_passes.proofs.Marked.{none_there}
use Rattle.clu_passes.proofs.ModuleMeant.{rep_word}
use Rattle.clu_passes.proofs.NamesMean.{bound_there, first_is, meanings_there, meant_none, there}
use Rattle.clu_passes.proofs.Places.{found_inside}

-- the node of a right side that is a constant
abbrev is_side : Meaning → Bool
is_side (meant.Equate c) = true
is_side _ = false

abbrev side : Meaning → ℕ
side (meant.Equate c) = c
side _ = 0

no_side : {A : Type 0} (m : Meaning) (right : ℕ) → is_side m ≡ false → m ≡ meant.Equate right → A
no_side m right apart e = absurd (true≢false (sym (ap is_side e) ∙ apart))

side_by : (k : NodeKind) (c right : ℕ) → table.equated_by k c ≡ meant.Equate right → c ≡ right
side_by kind.TypeSet c right e = no_side meant.TypeSet right refl e
side_by kind.File c right e = ap side e
side_by _ c right e = ap side e

right_by : (nodes : List Node) (cs : List ℕ) (right : ℕ) → table.right_of nodes cs ≡ meant.Equate right → (rest : List ℕ) × (cs ≡ right ∷ rest)
right_by nodes [] right e = no_side table.nothing right refl e
right_by nodes (c ∷ cs) right e = (cs, ap (λ (n : ℕ). n ∷ cs) (side_by (kind_at nodes c) c right e))

word_named_rep : (f : File) (n : ℕ) (w : SimpleType) → rules_of.same_word simple.Rep w ≡ true → word_named f (a_simple_type n w) ≡ codes "rep" ∷ []
word_named_rep f n simple.Rep e = refl
word_named_rep f n simple.Null e = absurd (true≢false (sym e))
word_named_rep f n simple.Bool e = absurd (true≢false (sym e))
word_named_rep f n simple.Int e = absurd (true≢false (sym e))
word_named_rep f n simple.Real e = absurd (true≢false (sym e))
word_named_rep f n simple.Char e = absurd (true≢false (sym e))
word_named_rep f n simple.String e = absurd (true≢false (sym e))
word_named_rep f n simple.Any e = absurd (true≢false (sym e))
word_named_rep f n simple.Cvt e = absurd (true≢false (sym e))

-- an expression that is no Name has no names that denote
pub expression_names : (k : NodeKind) (node : Node) → is_expression k ≡ true → is_of kind.Name k ≡ false → names_in k node ≡ []
expression_names kind.Infix node e apart = refl
expression_names kind.Prefix node e apart = refl
expression_names kind.Paren node e apart = refl
expression_names kind.Literal node e apart = refl
expression_names kind.Name node e apart = absurd (true≢false apart)
expression_names kind.Index node e apart = refl
expression_names kind.Get node e apart = refl
expression_names kind.Call node e apart = refl
expression_names kind.Fields node e apart = refl
expression_names kind.Elems node e apart = refl
expression_names kind.OperOf node e apart = refl
expression_names kind.Force node e apart = refl
expression_names kind.Up node e apart = refl
expression_names kind.Down node e apart = refl
expression_names _ node e apart = absurd (true≢false (sym e))

module _ (t : Text) (r : Read) (library : List Specification) (refused : List ℕ) (parsed : IsParsed t r.syntax.now) (are : AreRounds r.syntax.now r.rounds.now) (few : AreFew r.syntax.now r.rounds.now)
    (its_names : AreNames (file_with r (scope_in r.syntax.now r.rounds.now) library refused) r.names.now) (tables : AreBindings r.syntax.now r.rounds.now r.names.now r.values.now r.bindings.now)
    (of : IsFileOfTree (file_with r (scope_in r.syntax.now r.rounds.now) library refused)) where
  abbrev nodes : List Node
  nodes = r.syntax.now

  abbrev f : File
  f = file_with r (scope_in r.syntax.now r.rounds.now) library refused

  abbrev ds : List Declared
  ds = declarations r.syntax.now r.rounds.now

  abbrev modules : Identifier → Option ModuleId
  modules = named r.bindings.now.modules

  abbrev counts : List ℕ
  counts = r.bindings.now.parameters.counts.items

  -- ---- what a declaration declares

  module _ (d : Declared) (number right : ℕ) (e : table.declared_at nodes r.rounds.now modules counts number (Some d) ≡ meant.Equate right) where
    equate : kind_at nodes d.node ≡ kind.Equate
    equate =
        same_kind kind.Equate (kind_at nodes d.node)
        (sym (at_node t r library refused parsed are few its_names tables number d (slice_get nodes d.node) refl) ∙ ap is_equate e)

    by_node : (o : Option Node) → slice_get nodes d.node ≡ o → IsSideOf f of d.node right
    by_node None at = absurd (true≢false (sym (ap (is_of kind.Equate) equate) ∙ ap (λ (o : Option Node). is_of kind.Equate (kind_of o)) at))
    by_node (Some node) at =
        let is : node.kind ≡ kind.Equate = sym (ap kind_of at) ∙ equate in
        let x = right_by nodes node.children right
        (sym (ap (λ (k : NodeKind). table.declared_in nodes r.rounds.now modules counts k node.children d number) is)
        ∙ sym (ap (λ (o : Option Node). table.declared_in nodes r.rounds.now modules counts (kind_of o) (children_of o) d number) at)
        ∙ e) in
        record { its = node; at = at; is = is; rest = x.0; children = x.1 }

    declares : (equate_of f (Some d.node) ≡ Some d.node) × IsSideOf f of d.node right
    declares = (ap (λ (k : NodeKind). if◌then◌else◌ {A = Option ℕ} (is_of kind.Equate k) (Some d.node) None) equate, by_node (slice_get nodes d.node) refl)

  -- ---- what a name means

  pub to_equate : (n : ℕ) (name : Identifier) (right : ℕ) (x : Option Identifier) (o : Option ℕ) → found ds name n ≡ o → table.meant_by modules r.bindings.now.declared.items o x ≡ meant.Equate right → (e : ℕ) × (equate_named f n name ≡ Some e) × IsSideOf f of e right
  to_equate n name right None None denotes e = no_side table.nothing right refl e
  to_equate n name right (Some x) None denotes e = no_side (meant.Module (modules x)) right refl e
  to_equate n name right x (Some p) denotes e = by (slice_get ds p) refl
    where
      less : p < length ds
      less = found_inside ds name n p denotes

      by : (o : Option Declared) → slice_get ds p ≡ o → (e : ℕ) × (equate_named f n name ≡ Some e) × IsSideOf f of e right
      by None at = absurd (none_there ds p less at)
      by (Some d) at =
          let its = declares d (get_or r.bindings.now.parameters.numbers.items p 0) right
          (sym (ap (table.declared_at nodes r.rounds.now modules counts (get_or r.bindings.now.parameters.numbers.items p 0)) at)
          ∙ sym (there t r library refused parsed are few its_names tables p less) ∙ e) in (
            d.node,
            ap (λ (o : Option ℕ). equate_of f (declaring_node f (declaration_at (scope_in nodes r.rounds.now) o))) denotes
                ∙ ap (λ (o : Option Declared). equate_of f (declaring_node f o)) at ∙ its.0,
            its.1,
          )

  named_by : (n : ℕ) (node : Node) (name : Identifier) (rest : List Identifier) (right : ℕ) → slice_get nodes n ≡ Some node → names_in node.kind node ≡ name ∷ rest → names_unfolded f (kind_in f n) n ≡ name ∷ rest →
      meaning_in r n ≡ meant.Equate right → HasEquate f of n right
  named_by n node name rest right at its listed e =
      let x = to_equate n name right (slice_get (names_of (slice_get nodes n)) 0) (found ds name n) refl (sym (first_is t r library refused parsed are few its_names tables n node name rest at its) ∙ e) in
      record { name = name; others = rest; listed = listed; equate = x.0; named = x.1; side_of = x.2 }

  -- a node of a kind of which all names denote
  all_names : (k : NodeKind) → 1 ≤ least_names k → ((node : Node) → names_in k node ≡ node.names) → is_of k kind.File ≡ false → ((n : ℕ) → names_unfolded f k n ≡ names f n) →
      (n right : ℕ) → kind_at nodes n ≡ k → meaning_in r n ≡ meant.Equate right → HasEquate f of n right
  all_names k least used apart unfolded n right is e =
      let th : There nodes n k = there_of nodes n k apart is in
      let some : least_names th.node.kind ≤ length th.node.names = (enough nodes parsed.forms n th.node th.at).names in
      let same : least_names th.node.kind ≡ least_names k = ap least_names th.is in
      let x = names_there th.node.names (omega (arith, least, some, same)) in
      named_by n th.node (first_name th.node.names) x.0 right th.at (ap (λ (k : NodeKind). names_in k th.node) th.is ∙ used th.node ∙ x.1)
      (ap (λ (k : NodeKind). names_unfolded f k n) is ∙ unfolded n ∙ ap (node_names f) th.at ∙ x.1) e

  pub name_led : (n right : ℕ) → kind_at nodes n ≡ kind.Name → meaning_in r n ≡ meant.Equate right → HasEquate f of n right
  name_led n right is e = all_names kind.Name (omega arith) (λ node. refl) refl (λ n. refl) n right is e

  pub type_led : (n right : ℕ) → kind_at nodes n ≡ kind.NameT → meaning_in r n ≡ meant.Equate right → HasEquate f of n right
  type_led n right is e = all_names kind.NameT (omega arith) (λ node. refl) refl (λ n. refl) n right is e

  pub rep_led : (n right : ℕ) → kind_at nodes n ≡ kind.Simple → is_word simple.Rep (item f n).type ≡ true → meaning_in r n ≡ meant.Equate right → HasEquate f of n right
  rep_led n right is word e =
      let th : There nodes n kind.Simple = there_of nodes n kind.Simple refl is in
      let its = type_there f parsed.forms n th.node th.at th.is in
      let same : rules_of.same_word simple.Rep (simple_type (symbol_in th.node.value)) ≡ true = sym (ap (is_word simple.Rep) its) ∙ word in
      let rep : bytes_eq th.node.value (codes "rep") ≡ true = rep_told nodes th.node (parsed.forms n th.node th.at) th.is ∙ sym (rep_word (simple_type (symbol_in th.node.value))) ∙ same in
      let value : th.node.value ≡ codes "rep" = (bytes_eq-Decides th.node.value (codes "rep")).0 rep in
      named_by n th.node th.node.value [] right th.at (ap (λ (k : NodeKind). names_in k th.node) th.is ∙ ap (λ (b : Bool). if b then th.node.value ∷ [] else []) rep)
      (ap (λ (k : NodeKind). names_unfolded f k n) is ∙ ap (word_named f) its ∙ word_named_rep f n (simple_type (symbol_in th.node.value)) same ∙ ap (λ (v : Identifier). v ∷ []) (sym value)) e

  -- ---- nodes without names

  pub unnamed : (n : ℕ) (node : Node) → slice_get nodes n ≡ Some node → names_in node.kind node ≡ [] → meaning_in r n ≡ meant.Module None
  unnamed n node at none =
      let bound : bound_in r.names.now n ≡ [] =
      bound_there t r library refused parsed are few its_names tables n ∙ ap (denotes.bound_at ds n) at ∙ ap (map (λ name. found ds name n)) none in
      let items : items_at r.bindings.now.meanings.items r.names.now.starts.items n ≡ [] =
      meanings_there t r library refused parsed are few its_names tables n (slice_get_within nodes n node at)
      ∙ ap (λ (bs : List (Option ℕ)). table.meant_of modules r.bindings.now.declared.items bs (names_of (slice_get nodes n))) bound
      ∙ meant_none modules r.bindings.now.declared.items (names_of (slice_get nodes n)) in
      ap (λ (xs : List Meaning). get_or xs 0 (meant.Module None)) items

  -- an expression that means an equate is a Name
  pub expression_led : (n right : ℕ) → is_expression (kind_at nodes n) ≡ true → meaning_in r n ≡ meant.Equate right → HasEquate f of n right
  expression_led n right is e = by (is_of kind.Name (kind_at nodes n)) refl
    where
      at_node_of : is_of kind.Name (kind_at nodes n) ≡ false → (o : Option Node) → slice_get nodes n ≡ o → HasEquate f of n right
      at_node_of apart None at = absurd (true≢false (sym is ∙ ap (λ (o : Option Node). is_expression (kind_of o)) at))
      at_node_of apart (Some node) at =
          no_side (meant.Module None) right refl
          (sym (unnamed n node at (expression_names node.kind node (sym (ap (λ (o : Option Node). is_expression (kind_of o)) at) ∙ is) (sym (ap (λ (o : Option Node). is_of kind.Name (kind_of o)) at) ∙ apart))) ∙ e)

      by : (b : Bool) → is_of kind.Name (kind_at nodes n) ≡ b → HasEquate f of n right
      by true hit = name_led n right (same_kind kind.Name (kind_at nodes n) hit) e
      by false apart = at_node_of apart (slice_get nodes n) refl
