-- V28 and V29 by what surrounds a statement and the parts of routines.
use Rattle.std.proofs.Common.{◌≡◌, ◌∙◌, ℕ, zero, suc, ◌<◌, ◌≤◌, ◌⊎◌, Bool, true, ◌&&◌, ◌||◌, if◌then◌else◌, List, [], ◌∷◌, ◌++◌, length, Option, Some, None, inl, inr, refl, sym, ap, arith}
use Rattle.std.specs.Prelude.{not, slice_get}
use Rattle.std.proofs.lemmas.Bool.{cases_lt, true≢false}
use Rattle.std.proofs.lemmas.List.{length-append}
use Rattle.std.proofs.lemmas.Option.{slice_get_within}
use Rattle.clu_base.proofs.Lists.{get_before, get_last}
use Rattle.clu_tree.specs.declared.node.Node.{Node}
use Rattle.clu_tree.specs.declared.node.NodeKind.{NodeKind}
use Rattle.clu_tree.specs.declared.node.NodeKind.TheVariants as kind
use Rattle.clu_syntax.specs.declared.words.RoutineKind.{RoutineKind}
use Rattle.clu_syntax.specs.declared.words.RoutineKind.TheVariants as routine_kind
use Rattle.clu_syntax.specs.Items.{Item}
use Rattle.clu_syntax.specs.Kinds.{kind_of, kind_at}
use Rattle.clu_syntax.specs.Nodes.{item_at, item_to, item_with, before}
use Rattle.clu_syntax.specs.Rounds.{round_at}
use Rattle.clu_syntax.specs.Splits.{is_of}
use Rattle.clu_checking.specs.Files.{File, routine_at}
use Rattle.clu_checking.specs.StatementRules as checking
use Rattle.clu_checking.specs.StatementRules.{v28, v29}
use Rattle.clu_head.specs.There.{is_there}
use Rattle.clu_bindings.specs.Tables.{optional}
use Rattle.clu_type_rules.specs.declared.routines.Parts.{Parts}
use Rattle.clu_type_rules.specs.Routines.{is_procedure, parts_of, parts_at, parts_to, parts_in, is_in_procedure}
use Rattle.clu_type_rules.specs.Leaving.{leaves_turn, is_outside_loop, is_outside_iterator}
use Rattle.clu_passes.specs.Routines.{StandInRoutines, AreParts}

-- ---- V28

leaves_same : (k : NodeKind) → (is_of kind.Break k || is_of kind.Continue k) ≡ leaves_turn k
leaves_same kind.Break = refl
leaves_same kind.Continue = refl
leaves_same _ = refl

pub v28_is : (f : File) (n : ℕ) → v28 f n ≡ is_outside_loop f.nodes f.rounds n
v28_is f n = ap (λ (b : Bool). b && not (round_at f.rounds n).in_loop) (leaves_same (kind_at f.nodes n))

-- ---- the table of parts

module _ (items : ℕ → Item) (nodes : List Node) where
  size : (n : ℕ) → length (parts_to items nodes n) ≡ n
  size zero = refl
  size (suc n) = length-append (parts_to items nodes n) (parts_at items nodes n ∷ []) ∙ omega (arith, size n)

  part_at : (n k : ℕ) → k < n → slice_get (parts_to items nodes n) k ≡ Some (parts_at items nodes k)
  part_at zero k l = absurd (omega arith)
  part_at (suc n) k l = by (cases_lt k n) (part_at n k)
    where
      by : (k < n) ⊎ (n ≤ k) → (k < n → slice_get (parts_to items nodes n) k ≡ Some (parts_at items nodes k)) → slice_get (parts_to items nodes (suc n)) k ≡ Some (parts_at items nodes k)
      by (inl less) earlier = get_before (parts_to items nodes n) (parts_at items nodes n) k (omega (arith, less, size n)) ∙ earlier less
      by (inr more) earlier =
          let same : k ≡ length (parts_to items nodes n) = omega (arith, size n, more, l) in
          let last : k ≡ n = omega (arith, more, l) in
          ap (slice_get (parts_to items nodes n ++ parts_at items nodes n ∷ [])) same
          ∙ get_last (parts_to items nodes n) (parts_at items nodes n)
          ∙ ap (λ (x : ℕ). Some (parts_at items nodes x)) (sym last)

-- ---- V29

yields_same : (its : Option Node) → is_of kind.Yield (kind_of its) ≡ is_there kind.Yield its
yields_same None = refl
yields_same (Some node) = refl

procedure_same : (k : RoutineKind) → checking.is_procedure k ≡ is_procedure k
procedure_same routine_kind.Procedure = refl
procedure_same routine_kind.Iterator = refl

inside : (nodes : List Node) (r : ℕ) → is_there kind.Routine (slice_get nodes r) ≡ true → r < length nodes
inside nodes r is = by (slice_get nodes r) refl is
  where
    by : (its : Option Node) → slice_get nodes r ≡ its → is_there kind.Routine its ≡ true → r < length nodes
    by (Some node) at is = slice_get_within nodes r node at
    by None at is = absurd (true≢false (sym is))

kind_is : (nodes : List Node) (r : ℕ) → (item_at nodes r).routine.kind ≡ (item_with (before r (item_to nodes r)) nodes r (slice_get nodes r)).routine.kind
unfolding item_to
kind_is nodes r = refl

module _ (f : File) (stand : StandInRoutines f) (parts : List (Option Parts)) (are : AreParts f parts) where
  abbrev items : ℕ → ℕ → Item
  items r = before r (item_to f.nodes r)

  pub found : (r : ℕ) → is_there kind.Routine (slice_get f.nodes r) ≡ true → parts_in parts (Some r) ≡ Some (parts_of (items r) f.nodes r)
  found r is =
      ap (λ (table : List (Option Parts)). optional (slice_get table r)) (are (items r))
      ∙ ap optional (part_at (items r) f.nodes (length f.nodes) r (inside f.nodes r is))
      ∙ ap (λ (b : Bool). if b then Some (parts_of (items r) f.nodes r) else None) is

  pub in_procedure : (its : Option ℕ) → ((r : ℕ) → its ≡ Some r → is_there kind.Routine (slice_get f.nodes r) ≡ true) → checking.is_in_procedure f (routine_at f its) ≡ is_in_procedure (parts_in parts its)
  in_procedure None stands = refl
  in_procedure (Some r) stands =
      procedure_same (item_at f.nodes r).routine.kind
      ∙ ap is_procedure (kind_is f.nodes r)
      ∙ sym (ap is_in_procedure (found r (stands r refl)))

  pub v29_is : (n : ℕ) → v29 f n ≡ is_outside_iterator f.nodes f.rounds parts n
  v29_is n =
      ap (λ (b : Bool). b && checking.is_in_procedure f (routine_at f (round_at f.rounds n).routine)) (yields_same (slice_get f.nodes n))
      ∙ ap (λ (b : Bool). is_there kind.Yield (slice_get f.nodes n) && b) (in_procedure (round_at f.rounds n).routine (stand n))
