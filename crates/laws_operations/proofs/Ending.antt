-- What an operation that may signal does once its arguments are bound is what its invocation does, but for what is counted.
use Rattle.std.proofs.Common.{◌≡◌, ℕ, Bool, true, false, List, Option, None, Some, refl}
use Rattle.clu_types.specs.CluType.{CluType, CluTypes}
use Rattle.clu_builtin.specs.Operation.{Operation}
use Rattle.clu_builtin.specs.Table.{operation}
use Rattle.clu_layout.specs.Objects.{Object, own_types}
use Rattle.clu_layout.specs.SameType.{all_fit}
use Rattle.clu_layout.specs.Actions.{Primitive, World, Outcome, returned, signalled, wrong, continued, and_then, counts, gives_all, need, needed, no_case, takes}
use Rattle.clu_layout.specs.Primitive.{added, before, done_in, gives_results, invoked, may_be_arguments, outcome_in, prim, primitive, words_for_all}
use Rattle.laws_operations.specs.Rows.{args_of, results_of}
use Rattle.laws_operations.proofs.Doing.{doing, tried}
use Rattle.laws_operations.proofs.Invoking.{bound_in}

-- by what is returned, and by what is signalled
abbrev pub Ends : (List Object → World → Type 0) → (List ℕ → List Object → World → Type 0) → Outcome → Type 0
Ends Q S (returned os after) = Q os after
Ends Q S (signalled name os after) = S name os after
Ends Q S wrong = Unit {0}

module _ (Q : CluTypes → List Object → World → Type 0) (S : List ℕ → List Object → World → Type 0) where
  -- as the invocation leaves a world in which it signals
  abbrev pub Signalled : World → List ℕ → List Object → World → Type 0
  Signalled w name os after = S name os (added w after)

  results_bound : (types : CluTypes) (w after : World) (os : List Object) (t : Bool) → Q types os (bound_in w after (words_for_all types)) →
      Ends (Q types) S (outcome_in w (need t (takes (words_for_all types) (gives_all os)) after))
  unfolding need no_case takes gives_all
  results_bound types w after os true h = h
  results_bound types w after os false h = tt

  after_it : (types : CluTypes) (w : World) (out : Outcome) → Ends (λ os after. Q types os (bound_in w after (words_for_all types))) (Signalled w) out → Ends (Q types) S (outcome_in w (continued (gives_results types) out))
  unfolding continued
  after_it types w (returned os after) h = results_bound types w after os (all_fit (own_types os) types) h
  after_it types w (signalled name os after) h = h
  after_it types w wrong h = tt

  arguments_bound : (T : CluType) (h : Operation) (p : Primitive) (os : List Object) (w : World) (t : Bool) → may_be_arguments T (own_types os) h.args ≡ t →
      (may_be_arguments T (own_types os) h.args ≡ true → Ends (λ rs after. Q h.results rs (bound_in w after (words_for_all h.results))) (Signalled w) (p os (doing w (words_for_all h.args)))) →
      Ends (Q h.results) S (outcome_in w (need t (takes (words_for_all h.args) (counts 1 (and_then (p os) (gives_results h.results)))) (before w)))
  unfolding need no_case takes counts and_then
  arguments_bound T h p os w true e f = after_it h.results w (p os (doing w (words_for_all h.args))) (f e)
  arguments_bound T h p os w false e f = tt

  by_rows : (T : CluType) (a : Option Operation) (b : Option Primitive) (os : List Object) (w : World) →
      (may_be_arguments T (own_types os) (args_of a) ≡ true → Ends (λ rs after. Q (results_of a) rs (bound_in w after (words_for_all (results_of a)))) (Signalled w) (tried b os (doing w (words_for_all (args_of a))))) →
      Ends (Q (results_of a)) S (outcome_in w (needed a (λ h. needed b (λ p. invoked T h p os)) (before w)))
  unfolding needed no_case
  by_rows T None b os w f = tt
  by_rows T (Some h) None os w f = tt
  by_rows T (Some h) (Some p) os w f = arguments_bound T h p os w (may_be_arguments T (own_types os) h.args) refl f

  pub ends_of : (T : CluType) (op : List ℕ) (os : List Object) (w : World) →
      (may_be_arguments T (own_types os) (args_of (operation T op)) ≡ true →
      Ends (λ rs after. Q (results_of (operation T op)) rs (bound_in w after (words_for_all (results_of (operation T op))))) (Signalled w) (tried (primitive T op) os (doing w (words_for_all (args_of (operation T op)))))) →
      Ends (Q (results_of (operation T op))) S (prim T op os w)
  unfolding prim done_in
  ends_of T op os w f = by_rows T (operation T op) (primitive T op) os w f
