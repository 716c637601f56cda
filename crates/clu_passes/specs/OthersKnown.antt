-- What is to be known of a file so that at statements, and at what else stands in routines and clusters, the rules over tables say what
-- the definitions say.
use Rattle.std.specs.Prelude.{◌≡◌, ◌<◌, ◌≤◌, ◌⊎◌, ℕ, Bool, true, false, codes, length, Some}
use Rattle.std.specs.List.{AllByRecursion}
use Rattle.clu_tree.specs.declared.node.NodeKind.{NodeKind}
use Rattle.clu_tree.specs.declared.node.NodeKind.TheVariants as kind
use Rattle.clu_syntax.specs.Kinds.{is_type}
use Rattle.clu_syntax.specs.Syntax.{Identifier}
use Rattle.clu_checking.specs.Files.{File, equate_named, kind_in, round}
use Rattle.clu_checking.specs.ConstantRules.{v31}
use Rattle.clu_checking.specs.Refusals.{headings, is_no_type_at}
use Rattle.clu_bindings.specs.declared.meaning.Meaning.{Meaning}
use Rattle.clu_bindings.specs.declared.meaning.Meaning.TheVariants as meant
use Rattle.clu_type_rules.specs.declared.known.Known.{Known}
use Rattle.clu_type_rules.specs.Known as known
use Rattle.clu_type_rules.specs.Bindings.{meanings}
use Rattle.clu_type_rules.specs.ExceptionRules.{arm_declarations, arm_for, exception_named}
use Rattle.clu_type_rules.specs.Objects.{names}
use Rattle.clu_type_rules.specs.StatementRules.{results_round}
use Rattle.clu_passes.specs.Bound.{AreInside, IsInsideKnown, is_assigning}
use Rattle.clu_passes.specs.Clear.{IsOutside}
use Rattle.clu_passes.specs.FactTables.{IsResultKnown}
use Rattle.clu_passes.specs.Losing.{is_plain, walk_of}
use Rattle.clu_passes.specs.Lost.{is_cvt_at}
use Rattle.clu_passes.specs.Reps.{IsAtHome}
use Rattle.clu_passes.specs.Routines.{AreParts}
use Rattle.clu_passes.specs.RulesKnown.{AreRulesKnown}
use Rattle.clu_passes.specs.TableRaises.{AreRaises}
use Rattle.clu_passes.specs.Trees.{is_of_constant}

-- ---- where nothing is lost

-- no type is refused at the node or below it, where no `cvt` stands either; and the node stands in no brackets
pub record IsFine (f : File) (n : ℕ) : Type 0 where
  pub outside : IsOutside f n
  pub below : (m : ℕ) → (round f n).first ≤ m → m ≤ n → is_no_type_at f m ≡ false
  pub plain : (m : ℕ) → (round f n).first ≤ m → m ≤ n → is_cvt_at f m ≡ false

-- no type is refused at the type t or below it; if it is `cvt`, it stands in the cluster in which n does, and nothing is refused in the
-- equate of the `rep` that counts there
pub record IsTypeFine (f : File) (n t : ℕ) : Type 0 where
  pub typed : is_type (kind_in f t) ≡ true
  pub inside : t < length f.nodes
  pub outside : IsOutside f t
  pub below : (m : ℕ) → (round f t).first ≤ m → m ≤ t → is_no_type_at f m ≡ false
  pub home : is_cvt_at f t ≡ true → IsAtHome f n t
  pub rep : is_cvt_at f t ≡ true → (e m : ℕ) → equate_named f t (codes "rep") ≡ Some e → (round f e).first ≤ m → m ≤ e → is_no_type_at f m ≡ false

-- ---- what stands before a node, or in a heading, as a file of a text has it

-- a type that a rule reads at n
pub record IsTypeSeen (f : File) (n t : ℕ) : Type 0 where
  pub typed : is_type (kind_in f t) ≡ true
  pub inside : t < length f.nodes
  pub outside : IsOutside f t
  pub below : (m : ℕ) → (round f t).first ≤ m → m ≤ t → (m < n) ⊎ (walk_of f m ≡ headings)
  pub home : is_cvt_at f t ≡ true → v31 f t ≡ false → IsAtHome f n t
  pub rep : is_cvt_at f t ≡ true → v31 f t ≡ false → (e : ℕ) → equate_named f t (codes "rep") ≡ Some e → e < n

-- the type of a variable to which the node assigns
abbrev pub IsVariableSeen : File → ℕ → Meaning → Type 0
IsVariableSeen f n (meant.Local t) = IsTypeSeen f n t
IsVariableSeen f n (meant.OwnOfRoutine t) = IsTypeSeen f n t
IsVariableSeen f n (meant.OwnOfCluster t) = IsTypeSeen f n t
IsVariableSeen f n _ = Unit {0}

-- the type of a Decl of the arm to which an exit goes, which stands behind it
pub record IsArmType (f : File) (d t : ℕ) : Type 0 where
  pub outside : IsOutside f t
  pub first : (round f d).first ≤ (round f t).first
  pub less : t < d
  pub bare : (m : ℕ) → (round f t).first ≤ m → m ≤ t → (round f m).heading ≡ false

pub record IsArmDecl (f : File) (k : Known) (d : ℕ) : Type 0 where
  pub is : kind_in f d ≡ kind.Decl
  pub types : AllByRecursion (IsArmType f d) (known.children k d)

-- what may stand in a heading, but for constants and types
abbrev pub is_in_headings : NodeKind → Bool
is_in_headings kind.Parm = true
is_in_headings kind.Where = true
is_in_headings kind.Restrict = true
is_in_headings kind.Decl = true
is_in_headings _ = false

-- a statement, or what else stands in routines and clusters, but in no heading
pub record IsBare (f : File) (n : ℕ) : Type 0 where
  pub inside : n < length f.nodes
  pub apart : is_of_constant (kind_in f n) ≡ false
  pub plain : is_plain (kind_in f n) ≡ true
  pub bare : (round f n).heading ≡ false
  pub no_part : is_in_headings (kind_in f n) ≡ false

-- both see the same `rep`, which stands before n
pub record IsRepThere (f : File) (n t : ℕ) : Type 0 where
  pub home : IsAtHome f n t
  pub before : (e : ℕ) → equate_named f t (codes "rep") ≡ Some e → e < n

-- so it is of all that stands in a routine, and of the routine
abbrev pub AreRepsThere : File → Type 0
AreRepsThere f = (n t r : ℕ) → kind_in f r ≡ kind.Routine → (round f r).first ≤ n → n ≤ r → (round f r).first ≤ t → t < r → IsRepThere f n t

pub record ArePlaced (f : File) (k : Known) : Type 0 where
  pub variables : (n : ℕ) → IsBare f n → is_assigning (kind_in f n) ≡ true → AllByRecursion (IsVariableSeen f n) (meanings k n)
  pub results : (n : ℕ) → IsBare f n → AllByRecursion (IsTypeSeen f n) (results_round k n)
  pub exceptions : (n : ℕ) → IsBare f n → AllByRecursion (λ (name : Identifier). (c : ℕ) → exception_named k n name ≡ Some c → AllByRecursion (IsTypeSeen f n) (known.children k c)) (names k n)
  pub arms : (n : ℕ) → IsBare f n → kind_in f n ≡ kind.Exit → (c : ℕ) → arm_for k n ≡ Some c → AllByRecursion (IsArmDecl f k) (arm_declarations k c)

-- ---- all of it

pub record AreOthersKnown (f : File) (k : Known) (lost : ℕ → Bool) : Type 0 where
  pub rules : AreRulesKnown f k lost
  pub inside : AreInside f k lost
  pub raises : AreRaises f k lost
  pub parts : AreParts f k.routines.now.parts.items
  -- nothing is lost but where a type is refused or `cvt` stands
  pub kept : (n : ℕ) → n < length f.nodes → IsFine f n → lost n ≡ false
  -- types that a node sees, `cvt` among them
  pub variables : (n t : ℕ) → n < length f.nodes → IsTypeFine f n t → IsInsideKnown f k n t
  pub given : (n t : ℕ) → n < length f.nodes → IsTypeFine f n t → IsResultKnown f k n t
