-- What an operation does once its arguments are bound is what its invocation does, but for what is counted.
use Rattle.std.proofs.Common.{◌≡◌, ℕ, ◌+◌, Bool, true, false, List, Option, None, Some, refl}
use Rattle.clu_types.specs.CluType.{CluType, CluTypes}
use Rattle.clu_builtin.specs.Operation.{Operation}
use Rattle.clu_builtin.specs.Table.{operation}
use Rattle.clu_layout.specs.Objects.{Object, own_types}
use Rattle.clu_layout.specs.SameType.{all_fit}
use Rattle.clu_layout.specs.Actions.{Primitive, World, Outcome, returned, signalled, wrong, continued, and_then, counts, gives_all, need, needed, no_case, takes}
use Rattle.clu_layout.specs.Primitive.{added, before, done_in, gives_results, invoked, may_be_arguments, outcome_in, prim, primitive, words_for_all}
use Rattle.laws_operations.specs.Rows.{args_of, results_of}
use Rattle.laws_operations.proofs.Doing.{doing, tried}

-- by what is returned; no exception is signalled
abbrev pub Returns : (List Object → World → Type 0) → Outcome → Type 0
Returns Q (returned os after) = Q os after
Returns Q (signalled name os after) = ⊥
Returns Q wrong = Unit {0}

-- as the invocation leaves a world, the results bound
abbrev pub bound_in : World → World → ℕ → World
bound_in w after more = added w (record after { words = after.words + more; work = after.work + more })

module _ (Q : CluTypes → List Object → World → Type 0) where
  results_bound : (types : CluTypes) (w after : World) (os : List Object) (t : Bool) → Q types os (bound_in w after (words_for_all types)) →
      Returns (Q types) (outcome_in w (need t (takes (words_for_all types) (gives_all os)) after))
  unfolding need no_case takes gives_all
  results_bound types w after os true h = h
  results_bound types w after os false h = tt

  after_it : (types : CluTypes) (w : World) (out : Outcome) → Returns (λ os after. Q types os (bound_in w after (words_for_all types))) out → Returns (Q types) (outcome_in w (continued (gives_results types) out))
  unfolding continued
  after_it types w (returned os after) h = results_bound types w after os (all_fit (own_types os) types) h
  after_it types w (signalled name os after) h = absurd h
  after_it types w wrong h = tt

  arguments_bound : (T : CluType) (h : Operation) (p : Primitive) (os : List Object) (w : World) (t : Bool) → may_be_arguments T (own_types os) h.args ≡ t →
      (may_be_arguments T (own_types os) h.args ≡ true → Returns (λ rs after. Q h.results rs (bound_in w after (words_for_all h.results))) (p os (doing w (words_for_all h.args)))) →
      Returns (Q h.results) (outcome_in w (need t (takes (words_for_all h.args) (counts 1 (and_then (p os) (gives_results h.results)))) (before w)))
  unfolding need no_case takes counts and_then
  arguments_bound T h p os w true e f = after_it h.results w (p os (doing w (words_for_all h.args))) (f e)
  arguments_bound T h p os w false e f = tt

  by_rows : (T : CluType) (a : Option Operation) (b : Option Primitive) (os : List Object) (w : World) →
      (may_be_arguments T (own_types os) (args_of a) ≡ true → Returns (λ rs after. Q (results_of a) rs (bound_in w after (words_for_all (results_of a)))) (tried b os (doing w (words_for_all (args_of a))))) →
      Returns (Q (results_of a)) (outcome_in w (needed a (λ h. needed b (λ p. invoked T h p os)) (before w)))
  unfolding needed no_case
  by_rows T None b os w f = tt
  by_rows T (Some h) None os w f = tt
  by_rows T (Some h) (Some p) os w f = arguments_bound T h p os w (may_be_arguments T (own_types os) h.args) refl f

  pub returns_of : (T : CluType) (op : List ℕ) (os : List Object) (w : World) →
      (may_be_arguments T (own_types os) (args_of (operation T op)) ≡ true →
      Returns (λ rs after. Q (results_of (operation T op)) rs (bound_in w after (words_for_all (results_of (operation T op))))) (tried (primitive T op) os (doing w (words_for_all (args_of (operation T op)))))) →
      Returns (Q (results_of (operation T op))) (prim T op os w)
  unfolding prim done_in
  returns_of T op os w f = by_rows T (operation T op) (primitive T op) os w f
