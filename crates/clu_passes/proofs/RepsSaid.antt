-- At each node the word `rep` stands for an equate just if the table has one for it.
use Rattle.std.proofs.Common.{◌≡◌, ◌∙◌, ◌<◌, ℕ, Bool, true, false, if◌then◌else◌, List, length, get_or, is_some, codes, Option, Some, None, slice_get, refl, ap, sym}
use Rattle.std.proofs.lemmas.Bool.{true≢false}
use Rattle.std.proofs.lemmas.Option.{slice_get_within}
use Rattle.clu_tree.specs.declared.node.Node.{Node}
use Rattle.clu_tree.specs.declared.node.NodeKind.{NodeKind}
use Rattle.clu_tree.specs.declared.node.NodeKind.TheVariants as kind
use Rattle.clu_parser.specs.Trees.{Text}
use Rattle.clu_syntax.specs.declared.round.Round.{Round}
use Rattle.clu_syntax.specs.Kinds.{kind_at}
use Rattle.clu_syntax.specs.Rounds.{AreRounds}
use Rattle.clu_syntax.specs.Splits.{is_of}
use Rattle.clu_names.specs.declared.scopes.Declared.{Declared}
use Rattle.clu_names.specs.Denotes.{found, is_open}
use Rattle.clu_names.specs.Latest.{IsBest, IsBestAt, is_local}
use Rattle.clu_names.specs.Scopes.{declarations}
use Rattle.clu_names.proofs.Best.{found_is}
use Rattle.clu_meaning.specs.Scoping.{declaration_at}
use Rattle.clu_checking.specs.Specifications.{Specification}
use Rattle.clu_checking.specs.Files.{File, scope_in, declaring_node, equate_of, equate_named}
use Rattle.clu_declares.specs.Declares.{IsParsed, AreFew}
use Rattle.clu_bindings.specs.declared.file.File.{File as Read}
use Rattle.clu_bindings.specs.declared.meaning.Meaning.{Meaning}
use Rattle.clu_bindings.specs.declared.meaning.Meaning.TheVariants as meant
use Rattle.clu_bindings.specs.Bindings.{AreBindings}
use Rattle.clu_bindings.specs.Declaring as table
use Rattle.clu_bindings.specs.Inside.{declared_at, rep_at}
use Rattle.clu_bindings.specs.Modules.{named}
use Rattle.clu_bindings.specs.Reps.{if_in_module, in_module, rep_found}
use Rattle.clu_bindings.specs.Tables.{optional}
use Rattle.clu_name_rules.specs.Closed.{is_definition}
use Rattle.clu_type_rules.specs.ExpressionRules as rules_of
use Rattle.clu_passes.specs.ConstantTables.{file_with}
use Rattle.clu_passes.specs.Tables.{AreNames}
use Rattle.clu_passes.proofs.EquatesSaid.{at_node, is_equate}
use Rattle.clu_passes.proofs.Joined.{table_at}
use Rattle.clu_passes.proofs.Units.{modules_declared}

some_equate : (m : Meaning) → rules_of.is_equate (Some m) ≡ is_equate m
some_equate (meant.Equate c) = refl
some_equate meant.TypeSet = refl
some_equate _ = refl

no_equate : (k : NodeKind) → is_definition k ≡ true → is_of kind.Equate k ≡ false
no_equate kind.Routine e = refl
no_equate kind.Cluster e = refl
no_equate _ e = absurd (true≢false (sym e))

some_if : (b : Bool) (n : ℕ) → is_some (if b then Some n else None) ≡ b
some_if true n = refl
some_if false n = refl

pub found_so : (ds : List Declared) (n : ℕ) → rep_found ds n ≡ if_in_module ds (found ds (codes "rep") n)
unfolding rep_found
found_so ds n = refl

module _ (t : Text) (r : Read) (library : List Specification) (refused : List ℕ) (parsed : IsParsed t r.syntax.now) (are : AreRounds r.syntax.now r.rounds.now) (few : AreFew r.syntax.now r.rounds.now)
    (its_names : AreNames (file_with r (scope_in r.syntax.now r.rounds.now) library refused) r.names.now) (tables : AreBindings r.syntax.now r.rounds.now r.names.now r.values.now r.bindings.now) where
  abbrev nodes : List Node
  nodes = r.syntax.now

  abbrev rounds : List Round
  rounds = r.rounds.now

  abbrev ds : List Declared
  ds = declarations r.syntax.now r.rounds.now

  abbrev f : File
  f = file_with r (scope_in r.syntax.now r.rounds.now) library refused

  abbrev counts : List ℕ
  counts = r.bindings.now.parameters.counts.items

  abbrev number : ℕ → ℕ
  number p = get_or r.bindings.now.parameters.numbers.items p 0

  abbrev at_place : ℕ → Option Declared → Meaning
  at_place p d = table.declared_at nodes rounds (named r.bindings.now.modules) counts (number p) d

  declared_so : (p : ℕ) (d : Declared) → slice_get ds p ≡ Some d → rules_of.is_equate (declared_at r (Some p)) ≡ is_of kind.Equate (kind_at nodes d.node)
  declared_so p d at =
      ap (λ (xs : List Meaning). rules_of.is_equate (slice_get xs p)) (tables.declared ∙ ap (λ (ds : List Declared). table.declared_of nodes rounds (named r.bindings.now.modules) counts r.bindings.now.parameters.numbers.items ds) its_names.declared)
      ∙ ap rules_of.is_equate (table_at (λ p. at_place p (slice_get ds p)) (length ds) p (slice_get_within ds p d at))
      ∙ ap (λ (o : Option Declared). rules_of.is_equate (Some (at_place p o))) at
      ∙ some_equate (at_place p (Some d))
      ∙ at_node t r library refused parsed are few its_names tables (number p) d (slice_get nodes d.node) refl

  by_unit : (p : ℕ) (d : Declared) → slice_get ds p ≡ Some d → (unit : Option ℕ) → d.unit ≡ unit → rules_of.is_equate (declared_at r (if is_local unit then Some p else None)) ≡ is_of kind.Equate (kind_at nodes d.node)
  by_unit p d at (Some u) e = declared_so p d at
  by_unit p d at None e = sym (no_equate (kind_at nodes d.node) (modules_declared t nodes rounds parsed are p d at (ap is_local e)))

  by_place : (n : ℕ) (o : Option ℕ) → IsBest (λ j d. is_open (codes "rep") n d ≡ true) ds o → rules_of.is_equate (declared_at r (if_in_module ds o)) ≡ is_some (equate_of f (declaring_node f (declaration_at (scope_in nodes rounds) o)))
  by_place n None best = refl
  by_place n (Some p) best = at_best best
    where
      at_best : (d : Declared) × IsBestAt (λ j d. is_open (codes "rep") n d ≡ true) ds p d → rules_of.is_equate (declared_at r (if_in_module ds (Some p))) ≡ is_some (equate_of f (declaring_node f (declaration_at (scope_in nodes rounds) (Some p))))
      at_best (d, best) =
          ap (λ (o : Option Declared). rules_of.is_equate (declared_at r (if in_module o then Some p else None))) best.there
          ∙ by_unit p d best.there d.unit refl
          ∙ sym (some_if (is_of kind.Equate (kind_at nodes d.node)) d.node)
          ∙ sym (ap (λ (o : Option Declared). is_some (equate_of f (declaring_node f o))) best.there)

  pub rep_equated : (n : ℕ) → n < length nodes → rules_of.is_equate (declared_at r (rep_at r n)) ≡ is_some (equate_named f n (codes "rep"))
  rep_equated n less =
      ap (λ (xs : List (Option ℕ)). rules_of.is_equate (declared_at r (optional (slice_get xs n)))) tables.reps
      ∙ ap (λ (o : Option (Option ℕ)). rules_of.is_equate (declared_at r (optional o))) (table_at (rep_found r.names.now.declared.items) (length nodes) n less)
      ∙ ap (λ (ds : List Declared). rules_of.is_equate (declared_at r (rep_found ds n))) its_names.declared
      ∙ ap (λ (o : Option ℕ). rules_of.is_equate (declared_at r o)) (found_so ds n)
      ∙ by_place n (found ds (codes "rep") n) (found_is ds (codes "rep") n)
