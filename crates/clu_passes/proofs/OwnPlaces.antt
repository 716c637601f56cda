-- V37 by the tables of names.
use Rattle.std.proofs.Common.{◌≡◌, ◌∙◌, ◌⊎◌, ℕ, zero, suc, ◌+◌, ◌-◌, ◌<◌, ◌≤◌, Bool, true, false, ◌&&◌, ◌||◌, List, [], ◌∷◌, length, map, Option, Some, None, inl, inr, refl, sym, ap, arith, rules}
use Rattle.std.specs.Prelude.{slice_get}
use Rattle.std.specs.List.{list_any, range_with_len}
use Rattle.std.proofs.lemmas.Bool.{cases_lt}
use Rattle.clu_tree.specs.declared.node.Node.{Node}
use Rattle.clu_tree.specs.declared.node.NodeKind.{NodeKind}
use Rattle.clu_tree.specs.declared.node.NodeKind.TheVariants as kind
use Rattle.clu_tree.specs.contracts.node.NodeKind.{the_type}
use Rattle.clu_parser.specs.Shape.{HaveForms}
use Rattle.clu_syntax.specs.Enough.{least_names, HasEnough}
use Rattle.clu_syntax.specs.Kinds.{kind_of}
use Rattle.clu_syntax.specs.Rounds.{round_at}
use Rattle.clu_syntax.specs.Splits.{first_name, is_of}
use Rattle.clu_syntax.specs.Syntax.{Identifier}
use Rattle.clu_syntax.proofs.Enough.{enough}
use Rattle.clu_names.specs.declared.scopes.Declared.{Declared}
use Rattle.clu_names.specs.declared.binding.Names.{Names}
use Rattle.clu_names.specs.Denotes.{found, names_in, bound_at}
use Rattle.clu_meaning.specs.Scoping.{declaration_at}
use Rattle.clu_checking.specs.Files as checking
use Rattle.clu_checking.specs.Files.{File, is_kind, is_kind_at, node_names}
use Rattle.clu_checking.specs.NameRules as rules_of
use Rattle.clu_checking.specs.NameRules.{v37}
use Rattle.clu_bindings.specs.Tables.{optional}
use Rattle.clu_head.specs.There.{is_there}
use Rattle.clu_bindings.specs.Files.{is_there_at, node_of, declaration_in, declaring_node, declared_by}
use Rattle.clu_name_rules.specs.NameRules.{is_argument, names_argument, takes_argument}
use Rattle.clu_passes.specs.Tables.{AreNames}
use Rattle.clu_passes.proofs.Tables.{bound_is}
use denote.Enum.Bare.{same_true}

-- ---- ranges

last_fails : (test : ℕ → Bool) (a k n : ℕ) → a + k ≡ n → test n ≡ false → list_any test (range_with_len a (suc k)) ≡ list_any test (range_with_len a k)
last_fails test a zero n at fails = let same : a ≡ n = omega (arith, at) in ap (λ (m : ℕ). test m || false) same ∙ ap (λ (b : Bool). b || false) fails
last_fails test a (suc k) n at fails = ap (λ (b : Bool). test a || b) (last_fails test (a + 1) k n (omega (arith, at)) fails)

-- a range up to a number that fails the test, with that number and without it
range_same : (test : ℕ → Bool) (a n : ℕ) → test n ≡ false → list_any test (range_with_len a (suc n - a)) ≡ list_any test (range_with_len a (n - a))
range_same test a n fails = by (cases_lt n a)
  where
    by : (n < a) ⊎ (a ≤ n) → list_any test (range_with_len a (suc n - a)) ≡ list_any test (range_with_len a (n - a))
    by (inl less) = let same : suc n - a ≡ n - a = omega arith in ap (λ (k : ℕ). list_any test (range_with_len a k)) same
    by (inr more) =
        let same : suc n - a ≡ suc (n - a) = omega arith in
        ap (λ (k : ℕ). list_any test (range_with_len a k)) same ∙ last_fails test a (n - a) n (omega arith) fails

any_same : (f g : ℕ → Bool) → ((x : ℕ) → f x ≡ g x) → (xs : List ℕ) → list_any f xs ≡ list_any g xs
any_same f g same [] = refl
any_same f g same (x ∷ xs) = ap (λ (b : Bool). b || list_any f xs) (same x) ∙ ap (λ (b : Bool). g x || b) (any_same f g same xs)

-- ---- kinds

pub there_is : (k : NodeKind) → is_of k kind.File ≡ false → (its : Option Node) → is_of k (kind_of its) ≡ is_there k its
there_is k other None = other
there_is k other (Some node) = refl

no_names : (node : Node) → HasEnough node → node.kind ≡ kind.Name → node.names ≡ [] → ⊥
no_names node its is none =
    let least : least_names node.kind ≡ 1 = ap least_names is in
    let size : length node.names ≡ 0 = ap length none in
    let more : least_names node.kind ≤ length node.names = its.names in
    absurd (omega (arith, least, size, more))

module _ (f : File) (shaped : HaveForms f.nodes) (names : Names) (are : AreNames f names) where
  abbrev ds : List Declared
  ds = f.scope.declarations

  -- ---- the node that declares the first name

  node_same : (o : Option Declared) → checking.declaring_node f o ≡ node_of o
  node_same None = refl
  node_same (Some d) = refl

  declaring_same : (o : Option ℕ) → checking.declaring_node f (declaration_at f.scope o) ≡ declaring_node names o
  declaring_same None = refl
  declaring_same (Some place) = node_same (slice_get ds place) ∙ ap (λ (xs : List Declared). node_of (slice_get xs place)) (sym are.declared)

  first_same : (n : ℕ) (its : List Identifier) → (its ≡ [] → ⊥) → optional (slice_get (map (λ name. found ds name n) its) 0) ≡ found ds (first_name its) n
  first_same n [] some = absurd (some refl)
  first_same n (name ∷ rest) some = refl

  pub named_by : (n : ℕ) (node : Node) → slice_get f.nodes n ≡ Some node → node.kind ≡ kind.Name → declaration_in names n ≡ found ds (first_name node.names) n
  named_by n node at is =
      ap (λ (xs : List (Option ℕ)). optional (slice_get xs 0)) (bound_is f names are n)
      ∙ ap (λ (its : Option Node). optional (slice_get (bound_at ds n its) 0)) at
      ∙ ap (λ (k : NodeKind). optional (slice_get (map (λ name. found ds name n) (names_in k node)) 0)) is
      ∙ first_same n node.names (no_names node (enough f.nodes shaped n node at) is)

  declared_same : (n : ℕ) (node : Node) → slice_get f.nodes n ≡ Some node → node.kind ≡ kind.Name → checking.declared_by f n (first_name node.names) ≡ declared_by names n
  declared_same n node at is = declaring_same (found ds (first_name node.names) n) ∙ ap (λ (o : Option ℕ). declaring_node names o) (sym (named_by n node at is))

  -- ---- formal arguments

  in_same : (k : NodeKind) → is_of k kind.File ≡ false → (o : Option ℕ) → is_kind_at f k o ≡ is_there_at f.nodes k o
  in_same k other None = refl
  in_same k other (Some n) = there_is k other (slice_get f.nodes n)

  argument_same : (o : Option ℕ) → rules_of.is_argument f o ≡ is_argument f.nodes f.rounds names o
  argument_same None = refl
  argument_same (Some d) =
      ap (λ (b : Bool). b && is_kind_at f kind.Routine (round_at f.rounds d).parent) (there_is kind.Decl refl (slice_get f.nodes d))
      ∙ ap (λ (b : Bool). is_there kind.Decl (slice_get f.nodes d) && b) (in_same kind.Routine refl (round_at f.rounds d).parent)

  named_same : (n : ℕ) → rules_of.names_argument f n ≡ names_argument f.nodes f.rounds names n
  named_same n = by (slice_get f.nodes n) refl
    where
      with_node : (node : Node) → slice_get f.nodes n ≡ Some node → (b : Bool) → is_of kind.Name node.kind ≡ b → (b && rules_of.is_argument f (checking.declared_by f n (first_name node.names))) ≡ (b && is_argument f.nodes f.rounds names (declared_by names n))
      with_node node at false is = refl
      with_node node at true is =
          let its : node.kind ≡ kind.Name = same_true the_type (search rules) node.kind kind.Name is in
          argument_same (checking.declared_by f n (first_name node.names)) ∙ ap (λ (o : Option ℕ). is_argument f.nodes f.rounds names o) (declared_same n node at its)

      by : (its : Option Node) → slice_get f.nodes n ≡ its →
          (is_of kind.Name (kind_of its) && rules_of.is_argument f (checking.declared_by f n (first_name (node_names f its)))) ≡ (is_there kind.Name its && is_argument f.nodes f.rounds names (declared_by names n))
      by None at = refl
      by (Some node) at = with_node node at (is_of kind.Name node.kind) refl

  -- ---- the node itself is no Name

  own_fails : (n : ℕ) → is_there kind.Own (slice_get f.nodes n) ≡ true → names_argument f.nodes f.rounds names n ≡ false
  own_fails n is = by (slice_get f.nodes n) is
    where
      by : (its : Option Node) → is_there kind.Own its ≡ true → (is_there kind.Name its && is_argument f.nodes f.rounds names (declared_by names n)) ≡ false
      by None is = refl
      by (Some node) is =
          let its : node.kind ≡ kind.Own = same_true the_type (search rules) node.kind kind.Own is in
          ap (λ (k : NodeKind). is_of kind.Name k && is_argument f.nodes f.rounds names (declared_by names n)) its

  abbrev first : ℕ → ℕ
  first n = (round_at f.rounds n).first

  pub v37_is : (n : ℕ) → v37 f n ≡ takes_argument f.nodes f.rounds names n
  v37_is n =
      ap (λ (b : Bool). b && list_any (rules_of.names_argument f) (range_with_len (first n) (suc n - first n))) (there_is kind.Own refl (slice_get f.nodes n))
      ∙ by (is_there kind.Own (slice_get f.nodes n)) refl
    where
      by : (b : Bool) → is_there kind.Own (slice_get f.nodes n) ≡ b →
          (b && list_any (rules_of.names_argument f) (range_with_len (first n) (suc n - first n))) ≡ (b && list_any (names_argument f.nodes f.rounds names) (range_with_len (first n) (n - first n)))
      by false is = refl
      by true is =
          any_same (rules_of.names_argument f) (names_argument f.nodes f.rounds names) named_same (range_with_len (first n) (suc n - first n))
          ∙ range_same (names_argument f.nodes f.rounds names) (first n) n (own_fails n is)
