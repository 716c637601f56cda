-- The variable of each type set by which a file asks has a number from 1 on.
use Rattle.std.proofs.Common.{◌≡◌, ℕ, zero, suc, ◌+◌, ◌<◌, min, Bool, true, false, List, [], ◌∷◌, ◌++◌, Option, Some, None, arith}
use Rattle.std.specs.Prelude.{slice_get}
use Rattle.std.specs.List.{AllByRecursion}
use Rattle.clu_tree.specs.declared.node.Node.{Node}
use Rattle.clu_syntax.specs.declared.round.Round.{Round}
use Rattle.clu_head.specs.declared.clauses.InSet.{InSet}
use Rattle.clu_head.specs.declared.clauses.Asking.{Asking}
use Rattle.clu_head.specs.declared.known.Known.{Known}
use Rattle.clu_head.specs.declared.restricted.Restricted.{Restricted}
use Rattle.clu_head.specs.Asking.{restricted_in, variable_of, asked_by_opers, set_operations, had_operations, restrictions_in, asked_of_parameter, asked_by_parts, asked_by_restriction, asked_by_restrictions, asked_at}
use Rattle.clu_head.specs.Wanted.{asked_to}

abbrev pub HasVariable : Option InSet → Type 0
HasVariable (Some set) = 0 < set.variable
HasVariable None = Unit {0}

abbrev pub IsFromOne : Asking → Type 0
IsFromOne a = HasVariable a.set

joined : (xs ys : List Asking) → AllByRecursion IsFromOne xs → AllByRecursion IsFromOne ys → AllByRecursion IsFromOne (xs ++ ys)
joined [] ys a b = b
joined (x ∷ xs) ys a b = (a.0, joined xs ys a.1 b)

by_opers : (parameter : ℕ) (set : Option InSet) (opers : List ℕ) → HasVariable set → AllByRecursion IsFromOne (asked_by_opers parameter set opers)
by_opers parameter set [] has = tt
by_opers parameter set (oper ∷ opers) has = (has, by_opers parameter set opers has)

module _ (nodes : List Node) (rounds : List Round) (counts : List ℕ) where
  from_one : (n : ℕ) → 0 < variable_of counts rounds n
  unfolding variable_of
  from_one n = omega arith

  of_parameter : (n parameter : ℕ) (set : Option ℕ) → AllByRecursion IsFromOne (asked_of_parameter nodes rounds counts n parameter set)
  unfolding asked_of_parameter
  of_parameter n parameter (Some set) = by_opers parameter (Some (record { node = n; variable = variable_of counts rounds set })) (set_operations nodes (slice_get nodes set)) (from_one set)
  of_parameter n parameter None = by_opers parameter None (had_operations nodes (slice_get nodes n)) tt

  by_parts : (n : ℕ) (parameter set : Option ℕ) → AllByRecursion IsFromOne (asked_by_parts nodes rounds counts n parameter set)
  by_parts n (Some parameter) set = of_parameter n parameter set
  by_parts n None set = tt

  module _ (restricted : List Restricted) where
    by_restriction : (n : ℕ) → AllByRecursion IsFromOne (asked_by_restriction nodes rounds counts restricted n)
    unfolding asked_by_restriction
    by_restriction n = by_parts n (restricted_in (slice_get restricted n)).parameter (restricted_in (slice_get restricted n)).set

    by_restrictions : (ns : List ℕ) → AllByRecursion IsFromOne (asked_by_restrictions nodes rounds counts restricted ns)
    by_restrictions [] = tt
    by_restrictions (n ∷ ns) = joined (asked_by_restriction nodes rounds counts restricted n) (asked_by_restrictions nodes rounds counts restricted ns) (by_restriction n) (by_restrictions ns)

    of_node : (n : ℕ) → AllByRecursion IsFromOne (asked_at nodes rounds counts restricted n)
    unfolding asked_at
    of_node n =
        joined (asked_by_opers (variable_of counts rounds n) None (set_operations nodes (slice_get nodes n))) (asked_by_restrictions nodes rounds counts restricted (restrictions_in nodes (slice_get nodes n)))
        (by_opers (variable_of counts rounds n) None (set_operations nodes (slice_get nodes n)) tt) (by_restrictions (restrictions_in nodes (slice_get nodes n)))

pub all_from_one : (k : Known) (n : ℕ) → AllByRecursion IsFromOne (asked_to k n)
unfolding asked_to
all_from_one k zero = tt
all_from_one k (suc n) =
    joined (asked_to k n) (asked_at k.syntax.now k.rounds.now k.counts.now k.restricted.now n) (all_from_one k n) (of_node k.syntax.now k.rounds.now k.counts.now k.restricted.now n)
