-- Which bits of bad equates the rules over tables read at a node below an equate: that of the equate which its name denotes.
use Rattle.std.proofs.Common.{◌≡◌, ◌∙◌, ℕ, ◌&&◌, ◌||◌, not, Bool, true, false, List, [], ◌∷◌, Option, Some, None, is_some, refl, sym, ap}
use Rattle.std.specs.Prelude.{find, slice_get, cond}
use Rattle.std.proofs.lemmas.Bool.{true≢false}
use Rattle.clu_base.specs.declared.rules.Rule.{Rule}
use Rattle.clu_base.specs.declared.rules.Rule.TheVariants as rule
use Rattle.clu_tree.specs.declared.node.Node.{Node}
use Rattle.clu_tree.specs.declared.node.NodeKind.{NodeKind}
use Rattle.clu_tree.specs.declared.node.NodeKind.TheVariants as kind
use Rattle.clu_syntax.specs.Items.{Item}
use Rattle.clu_syntax.specs.Kinds.{kind_at}
use Rattle.clu_bindings.specs.Files.{declaration_in, declared_by}
use Rattle.clu_bindings.specs.Named.{wants_type}
use Rattle.clu_bindings.specs.Readers.{kind_in, value_in, wanted_in}
use Rattle.clu_name_rules.specs.declared.tables.Tables.{Tables}
use Rattle.clu_name_rules.specs.ConstantRules.{is_neither, is_right_side, is_long_constant, is_long_type, is_type_wanted, is_bad_rep, is_no_type, is_bad_first, has_bad_constant, has_bad_type}
use Rattle.clu_name_rules.specs.NameRules.{equate_of, is_bad_at, is_marked, is_defined_twice, disagrees_by}
use Rattle.clu_type_rules.specs.declared.known.Known.{Known}
use Rattle.clu_type_rules.specs.Asked.{rules_at}
use Rattle.clu_type_rules.specs.ExceptionRules.{v26_at}
use Rattle.clu_type_rules.specs.Rules.{violates, violates_of_types}
use Rattle.clu_passes.specs.Trees.{is_of_constant}
use Rattle.clu_passes.specs.Turns.{Reads, ReadsAlone, bit, read_at}

pub find_same : (v w : Rule → Bool) → ((r : Rule) → v r ≡ w r) → (rs : List Rule) → find v rs ≡ find w rs
find_same v w same [] = refl
find_same v w same (r ∷ rs) =
    ap (λ (b : Bool). cond b (Some r) (find v rs)) (same r)
    ∙ ap (λ (o : Option Rule). cond (w r) (Some r) o) (find_same v w same rs)

module _ (t : Tables) (b c : List Bool) (n : ℕ) where
  -- the bit that is read at a node of this kind is the same
  abbrev IsSame : NodeKind → Type 0
  IsSame kind.Name = is_bad_first t b n ≡ is_bad_first t c n
  IsSame kind.NameT = is_bad_first t b n ≡ is_bad_first t c n
  IsSame kind.Simple = is_bad_first t b n ≡ is_bad_first t c n
  IsSame _ = Unit {0}

  first_same : (o : Option ℕ) → ((m : ℕ) → o ≡ Some m → bit b m ≡ bit c m) → is_bad_at b o ≡ is_bad_at c o
  first_same None same = refl
  first_same (Some m) same = same m refl

  abbrev read : Option ℕ
  read = equate_of t.file.syntax.now (declared_by t.file.names.now n)

  bad_same : ((m : ℕ) → read ≡ Some m → bit b m ≡ bit c m) → is_bad_first t b n ≡ is_bad_first t c n
  bad_same same = ap (λ (x : Bool). x && not (is_marked t.circular.now (declaration_in t.file.names.now n))) (first_same read same)

  is_same : (k : NodeKind) → ((m : ℕ) → read_at t.file.syntax.now t.file.names.now k n ≡ Some m → bit b m ≡ bit c m) → IsSame k
  is_same kind.Name same = bad_same same
  is_same kind.NameT same = bad_same same
  is_same kind.Simple same = bad_same same
  is_same _ same = tt

  constant_same : (k : NodeKind) → IsSame k → has_bad_constant t b k n ≡ has_bad_constant t c k n
  constant_same kind.Name same = ap (λ (x : Bool). x && not (is_type_wanted t.file (wanted_in t.file n) n)) same
  constant_same _ same = refl

  type_same : (k : NodeKind) → is_of_constant k ≡ true → IsSame k → has_bad_type t b k n ≡ has_bad_type t c k n
  type_same kind.Name const same = ap (λ (x : Bool). x && is_type_wanted t.file (wanted_in t.file n) n) same
  type_same kind.NameT const same = same
  type_same kind.Simple const same = same
  type_same kind.Restrict const same = absurd (true≢false (sym const))
  type_same _ const same = refl

module _ (t : Tables) (b c : List Bool) (items : ℕ → Item) (n : ℕ) (const : is_of_constant (kind_at t.file.syntax.now n) ≡ true)
    (same : (m : ℕ) → Reads t.file.syntax.now t.file.names.now n m → bit b m ≡ bit c m) where
  abbrev k : NodeKind
  k = kind_at t.file.syntax.now n

  its : IsSame t b c n k
  its = is_same t b c n k same

  pub of_types_same : (r : Rule) → violates_of_types t b items n r ≡ violates_of_types t c items n r
  of_types_same rule.NotConstant =
      ap (λ (x : Bool). (is_neither t.file n && not (wants_type t.file n)) || (x || (is_right_side t.file n && is_long_constant t.long_constants.now (value_in t.file n)))) (constant_same t b c n k its)
  of_types_same rule.NotType =
      ap (λ (x : Bool). (is_neither t.file n && wants_type t.file n) || (is_bad_rep t.file items n || (is_no_type t.file items k n || (x || (is_right_side t.file n && is_long_type t.long_types.now (value_in t.file n)))))) (type_same t b c n k const its)
  of_types_same _ = refl

module _ (its : Known) (b c : List Bool) (items : ℕ → Item) (n : ℕ) where
  disagrees_same : (k : NodeKind) → is_of_constant k ≡ true →
      disagrees_by its.tables.file.syntax.now its.tables.file.names.now its.tables.circular.now b its.disagrees.now k n ≡ disagrees_by its.tables.file.syntax.now its.tables.file.names.now its.tables.circular.now c its.disagrees.now k n
  disagrees_same kind.Restrict const = absurd (true≢false (sym const))
  disagrees_same _ const = refl

  signal_same : (k : NodeKind) → is_of_constant k ≡ true → v26_at its items b k n ≡ v26_at its items c k n
  signal_same kind.Exit const = absurd (true≢false (sym const))
  signal_same _ const = refl

  pub rules_same : is_of_constant (kind_at its.tables.file.syntax.now n) ≡ true → ((m : ℕ) → Reads its.tables.file.syntax.now its.tables.file.names.now n m → bit b m ≡ bit c m) →
      (r : Rule) → violates its b items n r ≡ violates its c items n r
  rules_same const same rule.DefinedTwice =
      ap (λ (x : Bool). is_defined_twice items its.tables.file.syntax.now its.tables.file.rounds.now its.tables.file.names.now its.tables.items.now.repeated.items its.tables.own.now n || x)
      (disagrees_same (kind_at its.tables.file.syntax.now n) const)
  rules_same const same rule.SignalTypes = signal_same (kind_at its.tables.file.syntax.now n) const
  rules_same const same rule.NotConstant = of_types_same its.tables b c items n const same rule.NotConstant
  rules_same const same rule.NotType = of_types_same its.tables b c items n const same rule.NotType
  rules_same const same _ = refl

-- so whether there is a fault

pub faults_alone : (k : Known) (items : ℕ → Item) → ReadsAlone k.tables.file.syntax.now k.tables.file.names.now (λ b n. is_some (find (violates k b items n) (rules_at (kind_at k.tables.file.syntax.now n))))
faults_alone k items n const b c same =
    ap is_some (find_same (violates k b items n) (violates k c items n) (rules_same k b c items n const same) (rules_at (kind_at k.tables.file.syntax.now n)))

pub faults_of_types_alone : (t : Tables) (items : ℕ → Item) → ReadsAlone t.file.syntax.now t.file.names.now (λ b n. is_some (find (violates_of_types t b items n) (rules_at (kind_at t.file.syntax.now n))))
faults_of_types_alone t items n const b c same =
    ap is_some (find_same (violates_of_types t b items n) (violates_of_types t c items n) (of_types_same t b c items n const same) (rules_at (kind_at t.file.syntax.now n)))
