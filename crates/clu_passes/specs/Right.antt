-- Rules over tables that say at each node what the definitions say, up to the first that is violated, if none is before it.
use Rattle.std.specs.Prelude.{◌≡◌, ◌<◌, ◌≤◌, ℕ, Bool, true, false, List, length, Option, Some, None}
use Rattle.std.specs.List.{AllByRecursion}
use Rattle.clu_base.specs.declared.rules.Rule.{Rule}
use Rattle.clu_tree.specs.declared.node.NodeKind.TheVariants as kind
use Rattle.clu_syntax.specs.Items.{Item}
use Rattle.clu_syntax.specs.Syntax.{Identifier}
use Rattle.clu_checking.specs.Files.{File, is_kind, kind_in}
use Rattle.clu_checking.specs.Equates.{is_bad_name, is_circular, names_unfolded}
use Rattle.clu_checking.specs.Rules.{least, violates}
use Rattle.clu_checking.specs.Refusals.{fault_at, first_on, headings, is_bad, is_bad_of, rest, rules_of_types}
use Rattle.clu_type_rules.specs.Asked.{is_asked, rules_at}
use Rattle.clu_type_rules.specs.Rules as tables
use Rattle.clu_type_rules.specs.declared.known.Known.{Known}
use Rattle.clu_passes.specs.Bound.{AreBadDecls}
use Rattle.clu_passes.specs.Clear.{IsFrom}
use Rattle.clu_passes.specs.Losing.{IsPlain, is_plain, walk_of}
use Rattle.clu_passes.specs.Refusing.{AgreeOn}
use Rattle.clu_passes.specs.Trees.{is_of_constant}
use Rattle.clu_passes.specs.Turns.{bit}

-- no rule is violated below the node, nor before it in the brackets in which it stands
pub record IsQuiet (f : File) (bad : ℕ → Bool) (n : ℕ) : Type 0 where
  pub low : ℕ
  pub from : IsFrom f low n
  pub quiet : (m : ℕ) → low ≤ m → m < n → least (violates f bad m) (rules_at (kind_in f m)) ≡ None

-- no fault is before it on its walk, nor on the one over the headings
pub record IsFirst (f : File) (n : ℕ) : Type 0 where
  pub before : (m : ℕ) → m < n → fault_at f (walk_of f n) m ≡ None
  pub headed : walk_of f n ≡ rest → first_on f headings ≡ None

-- the bits of equates that lead to no circle
abbrev pub AreStraight : File → List Bool → (ℕ → Bool) → Type 0
AreStraight f bits bad = (e : ℕ) → is_kind f kind.Equate e ≡ true → is_circular f e ≡ false → bit bits e ≡ bad e

-- equates that lead to no circle are bad if a type is refused in them
abbrev pub AreTypesBad : File → (ℕ → Bool) → Type 0
AreTypesBad f bad = (e : ℕ) → is_kind f kind.Equate e ≡ true → is_circular f e ≡ false → is_bad_of f (rules_of_types f) e ≡ true → bad e ≡ true

module _ (f : File) (k : Known) (items : ℕ → Item) (bits : List Bool) where
  abbrev pub AgreeThere : (ℕ → Bool) → ℕ → Type 0
  AgreeThere bad n = AgreeOn (tables.violates k bits items n) (violates f bad n) (rules_at (kind_in f n))

  pub record AreRight : Type 0 where
    -- at what stands in equates and types: of the equates that a node names alone it matters whether they are bad
    pub constants : (bad : ℕ → Bool) (n : ℕ) → n < length f.nodes → is_of_constant (kind_in f n) ≡ true → AllByRecursion (λ (name : Identifier). is_bad_name f (bit bits) n name ≡ is_bad_name f bad n name) (names_unfolded f (kind_in f n) n) → AreTypesBad f bad → IsQuiet f bad n → AgreeThere bad n
    -- at statements, and what else stands in routines and clusters: whether a Decl of an arm is bad says there what is refused in it
    pub others : (n : ℕ) → n < length f.nodes → IsPlain (kind_in f n) → is_of_constant (kind_in f n) ≡ false → AreStraight f bits (is_bad f) → AreBadDecls f bits (is_bad f) → IsQuiet f (is_bad f) n → IsFirst f n → AgreeThere (is_bad f) n
    -- at the file, modules, routines and clusters, in any case
    pub definitions : (bad : ℕ → Bool) (n : ℕ) → n < length f.nodes → is_plain (kind_in f n) ≡ false → AreStraight f bits bad → (r : Rule) → is_asked (kind_in f n) r ≡ true → tables.violates k bits items n r ≡ violates f bad n r
