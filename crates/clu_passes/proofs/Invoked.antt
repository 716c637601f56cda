-- V11, V12 and V36 by what is known of operations and invocations, and what is asked of invocations by V13 and V14.
use Rattle.std.proofs.Common.{◌≡◌, ◌∙◌, ℕ, suc, Bool, true, false, ◌&&◌, ◌||◌, List, [], ◌∷◌, length, Option, Some, None, refl, sym, ap, ap₂}
use Rattle.std.specs.Prelude.{◌==◌, not, is_none}
use Rattle.std.specs.List.{list_any}
use Rattle.clu_types.specs.CluType.{CluType, CluTypes}
use Rattle.clu_types.specs.declared.term.TypeId.{TypeId}
use Rattle.clu_types.specs.declared.term.Term.{Term}
use Rattle.clu_types.specs.declared.term.Term.TheVariants as term
use Rattle.clu_types.specs.declared.term.Heading.{Heading}
use Rattle.clu_types.specs.Arena.{type_of, types_at, types_of, AreBelow, PartsBelow, IsArena}
use Rattle.clu_layout.specs.SameType.{is_routine_type}
use Rattle.clu_checking.specs.Files.{File}
use Rattle.clu_checking.specs.Typing.{found_type, arguments_of, results_of}
use Rattle.clu_checking.specs.Operations as operations
use Rattle.clu_checking.specs.Invocations as invoking
use Rattle.clu_checking.specs.ExpressionRules as rules_of
use Rattle.clu_checking.specs.ExpressionRules.{count, v11, v12, has_other_types, has_not_one_result, invokes_iterator}
use Rattle.clu_typing.specs.declared.facts.Facts.{Facts}
use Rattle.clu_typing.specs.declared.facts.Operation.{Operation}
use Rattle.clu_typing.specs.declared.facts.Operation.TheVariants as operation
use Rattle.clu_typing.specs.declared.facts.Invocation.{Invocation}
use Rattle.clu_typing.specs.Facts.{invocations, arguments, operation_type, operations_at}
use Rattle.clu_type_rules.specs.declared.known.Known.{Known}
use Rattle.clu_type_rules.specs.declared.invocation_rules.Fault.{Fault}
use Rattle.clu_type_rules.specs.declared.invocation_rules.Fault.TheVariants as fault
use Rattle.clu_type_rules.specs.Known.{term_of, heading_in, heading_of, is_iterator}
use Rattle.clu_type_rules.specs.InvocationRules.{is_missing, is_types_fault, lacks_operation, breaks, breaks_by, has_fault, some_has_fault}
use Rattle.clu_passes.specs.FactTables.{IsType, AreTypes, IsFound, AreFound, AreInvocations, AreFacts}
use Rattle.clu_passes.proofs.FactTypes.{IsTerm, term_of_type, all_may_same}

-- ---- V11

module _ (terms : List Term) (facts : Facts) where
  missing : (o : Operation) (x : Option operations.Found) → IsFound terms facts o x → is_none x ≡ is_missing o
  missing operation.Missing None is = refl
  missing operation.Missing (Some x) is = absurd is
  missing (operation.Found id) None is = absurd is
  missing (operation.Found id) (Some x) is = refl
  missing (operation.Object of) None is = absurd is
  missing (operation.Object of) (Some x) is = refl

  some_missing : (os : List Operation) (xs : List (Option operations.Found)) → AreFound terms facts os xs → list_any is_none xs ≡ list_any is_missing os
  some_missing [] [] are = refl
  some_missing [] (x ∷ xs) are = absurd are
  some_missing (o ∷ os) [] are = absurd are
  some_missing (o ∷ os) (x ∷ xs) are = ap₂ (λ (a b : Bool). a || b) (missing o x are.0) (some_missing os xs are.1)

  -- the types of what is invoked
  found_is : (o : Operation) (x : Option operations.Found) → IsFound terms facts o x → IsType terms (operation_type facts o) (found_type x)
  found_is operation.Missing None is = tt
  found_is operation.Missing (Some x) is = absurd is
  found_is (operation.Found id) None is = absurd is
  found_is (operation.Found id) (Some x) is = is
  found_is (operation.Object of) None is = absurd is
  found_is (operation.Object of) (Some x) is = is

pub v11_is : (f : File) (k : Known) (lost : ℕ → Bool) → AreFacts f k.tables.types.now k.facts.now lost → (n : ℕ) → lost n ≡ false → v11 f n ≡ lacks_operation k n
v11_is f k lost are n here = some_missing k.tables.types.now k.facts.now (operations_at k.facts.now n) (invoking.operations_at f n) (are.operations n here)

-- ---- faults of an invocation

counted : (types : List CluType) (ids : List TypeId) → count (types_at types ids) ≡ length ids
counted types [] = refl
counted types (id ∷ ids) = ap suc (counted types ids)

pub lengths : (terms : List Term) (ids : List (Option TypeId)) (ts : List (Option CluType)) → AreTypes terms ids ts → length ts ≡ length ids
lengths terms [] [] are = refl
lengths terms [] (t ∷ ts) are = absurd are
lengths terms (id ∷ ids) [] are = absurd are
lengths terms (id ∷ ids) (t ∷ ts) are = ap suc (lengths terms ids ts are.1)

-- which tests of the definition these faults are
abbrev pub test_of : Fault → List (Option CluType) → CluType → Bool
test_of fault.ArgumentCount given = λ t. is_routine_type t && not (count (arguments_of t) == length given)
test_of fault.ArgumentTypes given = λ t. not (is_routine_type t) || not (rules_of.all_may_fit given (arguments_of t))
test_of fault.ResultCount given = λ t. is_routine_type t && not (count (results_of t) == 1)
test_of fault.Iterator given = λ t. rules_of.is_iterator t

module _ (k : Known) (arena : IsArena k.tables.types.now) where
  abbrev terms : List Term
  terms = k.tables.types.now

  routine_is : (its : Fault) (given : List (Option TypeId)) (ts : List (Option CluType)) → AreTypes terms given ts → (h : Heading) → AreBelow (length terms) h.args → (t : CluType) → is_routine_type t ≡ true → arguments_of t ≡ types_at (types_of terms) h.args → results_of t ≡ types_at (types_of terms) h.results → (of : TypeId) → rules_of.is_iterator t ≡ is_iterator (term_of k (Some of)) → test_of its ts t ≡ breaks k its given (Some of) h
  routine_is fault.ArgumentCount given ts are h within t routine args results of iterates =
      ap (λ (b : Bool). b && not (count (arguments_of t) == length ts)) routine
      ∙ ap₂ (λ (a b : ℕ). not (a == b)) (ap count args ∙ counted (types_of terms) h.args) (lengths terms given ts are)
  routine_is fault.ArgumentTypes given ts are h within t routine args results of iterates =
      ap (λ (b : Bool). not b || not (rules_of.all_may_fit ts (arguments_of t))) routine
      ∙ ap (λ (wanted : CluTypes). not (rules_of.all_may_fit ts wanted)) args
      ∙ ap not (all_may_same terms given ts are h.args within)
  routine_is fault.ResultCount given ts are h within t routine args results of iterates =
      ap (λ (b : Bool). b && not (count (results_of t) == 1)) routine
      ∙ ap (λ (a : ℕ). not (a == 1)) (ap count results ∙ counted (types_of terms) h.results)
  routine_is fault.Iterator given ts are h within t routine args results of iterates = iterates

  -- what is no routine has other arguments
  other_is : (its : Fault) (ts : List (Option CluType)) (t : Term) → is_routine_type (type_of (types_of terms) t) ≡ false → rules_of.is_iterator (type_of (types_of terms) t) ≡ false → test_of its ts (type_of (types_of terms) t) ≡ is_types_fault its
  other_is fault.ArgumentCount ts t other none = ap (λ (b : Bool). b && not (count (arguments_of (type_of (types_of terms) t)) == length ts)) other
  other_is fault.ArgumentTypes ts t other none = ap (λ (b : Bool). not b || not (rules_of.all_may_fit ts (arguments_of (type_of (types_of terms) t)))) other
  other_is fault.ResultCount ts t other none = ap (λ (b : Bool). b && not (count (results_of (type_of (types_of terms) t)) == 1)) other
  other_is fault.Iterator ts t other none = none

  by_term : (its : Fault) (given : List (Option TypeId)) (ts : List (Option CluType)) → AreTypes terms given ts → (of : TypeId) (t : Term) → term_of k (Some of) ≡ Some t → PartsBelow (length terms) t → test_of its ts (type_of (types_of terms) t) ≡ breaks_by k its given (Some of) (heading_of t)
  by_term its given ts are of (term.Proc h) there within = routine_is its given ts are h within.0 (type_of (types_of terms) (term.Proc h)) refl refl refl of (ap is_iterator (sym there))
  by_term its given ts are of (term.Iter h) there within = routine_is its given ts are h within.0 (type_of (types_of terms) (term.Iter h)) refl refl refl of (ap is_iterator (sym there))
  by_term its given ts are of term.Null there within = other_is its ts term.Null refl refl
  by_term its given ts are of term.Bool there within = other_is its ts term.Bool refl refl
  by_term its given ts are of term.Int there within = other_is its ts term.Int refl refl
  by_term its given ts are of term.Char there within = other_is its ts term.Char refl refl
  by_term its given ts are of term.Str there within = other_is its ts term.Str refl refl
  by_term its given ts are of term.Any there within = other_is its ts term.Any refl refl
  by_term its given ts are of term.Stream there within = other_is its ts term.Stream refl refl
  by_term its given ts are of (term.Array x) there within = other_is its ts (term.Array x) refl refl
  by_term its given ts are of (term.Sequence x) there within = other_is its ts (term.Sequence x) refl refl
  by_term its given ts are of (term.Record x) there within = other_is its ts (term.Record x) refl refl
  by_term its given ts are of (term.Struct x) there within = other_is its ts (term.Struct x) refl refl
  by_term its given ts are of (term.Oneof x) there within = other_is its ts (term.Oneof x) refl refl
  by_term its given ts are of (term.Variant x) there within = other_is its ts (term.Variant x) refl refl
  by_term its given ts are of (term.Cluster x y) there within = other_is its ts (term.Cluster x y) refl refl
  by_term its given ts are of (term.Param x) there within = other_is its ts (term.Param x) refl refl

  by_type : (its : Fault) (given : List (Option TypeId)) (ts : List (Option CluType)) → AreTypes terms given ts → (of : Option TypeId) (t : Option CluType) → IsType terms of t → rules_of.holds_if (test_of its ts) t ≡ breaks_by k its given of (heading_in (term_of k of))
  by_type its given ts are None None is = refl
  by_type its given ts are None (Some t) is = absurd is
  by_type its given ts are (Some of) None is = absurd is
  by_type its given ts are (Some of) (Some t) is =
      let x : IsTerm terms of t = term_of_type terms arena of t is.0 is.1 in
      ap (test_of its ts) x.is
      ∙ by_term its given ts are of x.its x.there x.parts
      ∙ ap (λ (its_term : Option Term). breaks_by k its given (Some of) (heading_in its_term)) (sym x.there)

  -- what the definition asks of an invocation
  abbrev pub asked : Fault → invoking.Invocation → Bool
  asked its x = rules_of.holds_if (test_of its x.arguments) (found_type x.invoked)

  some_fault : (its : Fault) (is : List Invocation) (xs : List invoking.Invocation) → AreInvocations terms k.facts.now is xs → list_any (asked its) xs ≡ list_any (has_fault k its) is
  some_fault its [] [] are = refl
  some_fault its [] (x ∷ xs) are = absurd are
  some_fault its (i ∷ is) [] are = absurd are
  some_fault its (i ∷ is) (x ∷ xs) are =
      ap₂ (λ (a b : Bool). a || b)
      (by_type its (arguments k.facts.now i) x.arguments are.0.1 (operation_type k.facts.now i.operation) (found_type x.invoked) (found_is terms k.facts.now i.operation x.invoked are.0.0))
      (some_fault its is xs are.1)

module _ (f : File) (k : Known) (arena : IsArena k.tables.types.now) (lost : ℕ → Bool) (are : AreFacts f k.tables.types.now k.facts.now lost) (n : ℕ) (here : lost n ≡ false) where
  faults_are : (its : Fault) → list_any (asked k arena its) (invoking.invocations f n) ≡ some_has_fault k its n
  faults_are its = some_fault k arena its (invocations k.facts.now n) (invoking.invocations f n) (are.invoked n here)

  pub v12_is : v12 f n ≡ some_has_fault k fault.ArgumentCount n
  v12_is = faults_are fault.ArgumentCount

  pub types_are : list_any has_other_types (invoking.invocations f n) ≡ some_has_fault k fault.ArgumentTypes n
  types_are = faults_are fault.ArgumentTypes

  pub results_are : list_any has_not_one_result (invoking.invocations f n) ≡ some_has_fault k fault.ResultCount n
  results_are = faults_are fault.ResultCount

  pub iterators_are : list_any invokes_iterator (invoking.invocations f n) ≡ some_has_fault k fault.Iterator n
  iterators_are = faults_are fault.Iterator
