-- Places of declarations: what a name denotes is one of them, and each Equate and each Decl declares one. This is of names alone, and its
-- place is `clu_names`.
use Rattle.std.proofs.Common.{◌≡◌, ℕ, zero, suc, ◌+◌, ◌<◌, ◌≤◌, Bool, true, false, ◌&&◌, if◌then◌else◌, List, [], ◌∷◌, ◌++◌, length, Option, Some, None, inl, inr, refl, sym, subst, arith}
use Rattle.std.specs.Prelude.{slice_get}
use Rattle.std.proofs.lemmas.Bool.{cases_eq}
use Rattle.std.proofs.lemmas.Option.{none-some, slice_get_within, same_Some}
use Rattle.clu_base.proofs.Lists.{got_front}
use Rattle.clu_tree.specs.declared.node.Node.{Node}
use Rattle.clu_tree.specs.declared.node.NodeKind.{NodeKind}
use Rattle.clu_tree.specs.declared.node.NodeKind.TheVariants as kind
use Rattle.clu_syntax.specs.declared.round.Round.{Round}
use Rattle.clu_syntax.specs.Rounds.{round_at}
use Rattle.clu_names.specs.declared.scopes.Declared.{Declared}
use Rattle.clu_names.specs.Scopes.{node_at, kind_at_parent, decl_scope, scope_of, equate_names, own_names, declared_as, own_at, module_at, variable_of, declared_at, declared_to, declarations}
use Rattle.clu_names.specs.Denotes.{is_open, rank, outranks, best_from, place_of, found}

-- ---- what a name denotes

abbrev IsBefore : ℕ → Option (ℕ × ℕ) → Type 0
IsBefore k best = (p : ℕ) → place_of best ≡ Some p → p < k

best_inside : (test : Declared → Bool) (ds : List Declared) (best : Option (ℕ × ℕ)) (k p : ℕ) → IsBefore k best → place_of (best_from test best k ds) ≡ Some p → p < k + length ds
best_inside test [] best k p before e = let less : p < k = before p e in omega (arith, less)
best_inside test (d ∷ ds) best k p before e =
    let less : p < suc k + length ds = best_inside test ds (if test d && outranks (rank d) best then Some (k, rank d) else best) (suc k) p (by (test d && outranks (rank d) best)) e in
    omega (arith, less)
  where
    by : (b : Bool) → IsBefore (suc k) (if b then Some (k, rank d) else best)
    by true = λ q is. let same : k ≡ q = same_Some k q is in omega (arith, same)
    by false = λ q is. let less : q < k = before q is in omega (arith, less)

pub found_inside : (ds : List Declared) (name : List ℕ) (n p : ℕ) → found ds name n ≡ Some p → p < length ds
found_inside ds name n p e =
    let less : p < 0 + length ds = best_inside (is_open name n) ds None 0 p (λ q is. absurd (none-some q is)) e in
    omega (arith, less)

-- ---- what an Equate or a Decl declares

pub record Declares (ds : List Declared) (n : ℕ) : Type 0 where
  pub place : ℕ
  pub its : Declared
  pub there : slice_get ds place ≡ Some its
  pub declares : its.node ≡ n

in_left : (xs ys : List Declared) (n : ℕ) → Declares xs n → Declares (xs ++ ys) n
in_left xs ys n d = record { place = d.place; its = d.its; there = got_front xs ys d.place d.its d.there; declares = d.declares }

in_right : (xs ys : List Declared) (n : ℕ) → Declares ys n → Declares (xs ++ ys) n
in_right [] ys n d = d
in_right (x ∷ xs) ys n d = let more = in_right xs ys n d in record { place = suc more.place; its = more.its; there = more.there; declares = more.declares }

named_one : (n : ℕ) (unit : Option ℕ) (scope : ℕ × ℕ) (names : List (List ℕ)) (value : List ℕ) → Declares (declared_as n unit (Some scope) (equate_names names value)) n
named_one n unit scope [] value = record { place = 0; its = record { name = value; node = n; from = scope.0; to = scope.1; unit = unit }; there = refl; declares = refl }
named_one n unit scope (name ∷ names) value = record { place = 0; its = record { name = name; node = n; from = scope.0; to = scope.1; unit = unit }; there = refl; declares = refl }

own_one : (outer k : NodeKind) (n : ℕ) (node : Node) (round : Round) → k ≡ kind.Equate → Declares (declared_as n round.unit (scope_of k outer n round) (own_names k node)) n
own_one outer k n node round is =
    subst (λ (k : NodeKind). Declares (declared_as n round.unit (scope_of k outer n round) (own_names k node)) n) (sym is)
    (named_one n round.unit (round.body_first, round.body_last) node.names node.value)

named_some : (n : ℕ) (unit : Option ℕ) (scope : ℕ × ℕ) (names : List (List ℕ)) → 1 ≤ length names → Declares (declared_as n unit (Some scope) names) n
named_some n unit scope [] some = absurd (omega (arith, some))
named_some n unit scope (name ∷ names) some = record { place = 0; its = record { name = name; node = n; from = scope.0; to = scope.1; unit = unit }; there = refl; declares = refl }

own_some : (outer k : NodeKind) (n : ℕ) (node : Node) (round : Round) → k ≡ kind.Decl → 1 ≤ length node.names → Declares (declared_as n round.unit (scope_of k outer n round) (own_names k node)) n
own_some outer k n node round is some =
    subst (λ (k : NodeKind). Declares (declared_as n round.unit (scope_of k outer n round) (own_names k node)) n) (sym is)
    (named_some n round.unit (decl_scope outer n round) node.names some)

module _ (nodes : List Node) (rounds : List Round) (n : ℕ) (node : Node) (there : slice_get nodes n ≡ Some node) where
  abbrev round : Round
  round = round_at rounds n

  module _ (own : Declares (own_at (kind_at_parent nodes round.parent) n node round) n) where
    one_there : Declares (declared_at nodes rounds n (slice_get nodes n)) n
    one_there = subst (λ (its : Option Node). Declares (declared_at nodes rounds n its) n) (sym there)
        (in_left (variable_of n node.kind round round.parent (node_at nodes round.parent) ++ own_at (kind_at_parent nodes round.parent) n node round) (module_at (kind_at_parent nodes round.parent) n node) n
        (in_right (variable_of n node.kind round round.parent (node_at nodes round.parent)) (own_at (kind_at_parent nodes round.parent) n node round) n own))

    one_before : (m : ℕ) → n < m → Declares (declared_to nodes rounds m) n
    unfolding declared_to
    one_before zero less = absurd (omega (arith, less))
    one_before (suc m) less = elim (cases_eq n m) [
      | inl same ↦ in_right (declared_to nodes rounds m) (declared_at nodes rounds m (slice_get nodes m)) n (subst (λ (i : ℕ). Declares (declared_at nodes rounds i (slice_get nodes i)) n) same one_there)
      | inr apart ↦ in_left (declared_to nodes rounds m) (declared_at nodes rounds m (slice_get nodes m)) n (one_before m (omega (arith, less, apart)))
    ]

    by_own : Declares (declarations nodes rounds) n
    by_own = one_before (length nodes) (slice_get_within nodes n node there)

  pub equate_declares : node.kind ≡ kind.Equate → Declares (declarations nodes rounds) n
  equate_declares is = by_own (own_one (kind_at_parent nodes round.parent) node.kind n node round is)

  pub decl_declares : node.kind ≡ kind.Decl → 1 ≤ length node.names → Declares (declarations nodes rounds) n
  decl_declares is some = by_own (own_some (kind_at_parent nodes round.parent) node.kind n node round is some)
