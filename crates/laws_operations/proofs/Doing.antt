-- An operation that changes nothing is invoked: what its row comes to is what the invocation comes to, but for what is counted.
use Rattle.std.proofs.Common.{◌≡◌, ℕ, ◌+◌, Bool, true, false, List, [], ◌∷◌, ◌++◌, Option, None, Some, refl, ap, ◌∙◌, arith}
use Rattle.clu_types.specs.CluType.{CluType, CluTypes}
use Rattle.clu_builtin.specs.Operation.{Operation}
use Rattle.clu_builtin.specs.Table.{operation}
use Rattle.clu_layout.specs.Objects.{Object, own_types}
use Rattle.clu_layout.specs.SameType.{all_fit}
use Rattle.clu_layout.specs.Actions.{Action, Primitive, World, Outcome, returned, signalled, wrong, continued, and_then, counts, gives_all, need, needed, no_case, takes}
use Rattle.clu_layout.specs.Primitive.{added, before, done_in, gives_results, invoked, may_be_arguments, outcome_in, prim, primitive, words_for_all}
use Rattle.clu_wir.specs.Value.{Value}
use Rattle.clu_representation.specs.Layout.{Image, Layout}
use Rattle.laws_operations.specs.Comes.{Comes, Untouched}
use Rattle.laws_operations.specs.Rows.{args_of, results_of}

pub nothing_after : {A : Type 0} (xs : List A) → xs ++ [] ≡ xs
nothing_after [] = refl
nothing_after (x ∷ xs) = ap (λ ys. x ∷ ys) (nothing_after xs)

abbrev pub tried : Option Primitive → List Object → Action
tried None os = no_case
tried (Some p) os = p os

-- the world in which an operation is done, its arguments bound and its 1 counted
abbrev pub doing : World → ℕ → World
doing w n = record w { output = []; words = 0 + n; work = 0 + n + 1 }

untouched : (w after : World) (n more : ℕ) → after ≡ doing w n → Untouched w (added w (record after { words = after.words + more; work = after.work + more }))
untouched w after n more e = record {
  cells = ap (λ (x : World). x.cells) e;
  input = ap (λ (x : World). x.input) e;
  output = ap (λ (x : World). w.output ++ x.output) e ∙ nothing_after w.output;
  words = omega arith;
  work = omega (arith, ap (λ (x : World). x.work) e);
}

pub left_so : (w after : World) (n : ℕ) → after ≡ doing w n → Untouched w (added w after)
left_so w after n e = record {
  cells = ap (λ (x : World). x.cells) e;
  input = ap (λ (x : World). x.input) e;
  output = ap (λ (x : World). w.output ++ x.output) e ∙ nothing_after w.output;
  words = omega arith;
  work = omega (arith, ap (λ (x : World). x.work) e);
}

module _ (image : Image) (map : Layout) (value : Value) where
  results_bound : (types : CluTypes) (w after : World) (os : List Object) (n : ℕ) (t : Bool) → Comes image map types (λ x. x ≡ doing w n) (returned os after) value →
      Comes image map types (Untouched w) (outcome_in w (need t (takes (words_for_all types) (gives_all os)) after)) value
  unfolding need no_case takes gives_all
  results_bound types w after os n true (h, e) = (h, untouched w after n (words_for_all types) e)
  results_bound types w after os n false h = tt

  done_so : (types : CluTypes) (w : World) (n : ℕ) (out : Outcome) → Comes image map types (λ x. x ≡ doing w n) out value →
      Comes image map types (Untouched w) (outcome_in w (continued (gives_results types) out)) value
  unfolding continued
  done_so types w n (returned os after) h = results_bound types w after os n (all_fit (own_types os) types) h
  done_so types w n (signalled name os after) (h, e) = (h, left_so w after n e)
  done_so types w n wrong h = tt

  arguments_bound : (T : CluType) (h : Operation) (p : Primitive) (os : List Object) (w : World) (t : Bool) → may_be_arguments T (own_types os) h.args ≡ t →
      (may_be_arguments T (own_types os) h.args ≡ true → (v : World) → v.cells ≡ w.cells → Comes image map h.results (λ x. x ≡ v) (p os v) value) →
      Comes image map h.results (Untouched w) (outcome_in w (need t (takes (words_for_all h.args) (counts 1 (and_then (p os) (gives_results h.results)))) (before w))) value
  unfolding need no_case takes counts and_then
  arguments_bound T h p os w true e f = done_so h.results w (words_for_all h.args) (p os (doing w (words_for_all h.args))) (f e (doing w (words_for_all h.args)) refl)
  arguments_bound T h p os w false e f = tt

  by_rows : (T : CluType) (a : Option Operation) (b : Option Primitive) (os : List Object) (w : World) →
      (may_be_arguments T (own_types os) (args_of a) ≡ true → (v : World) → v.cells ≡ w.cells → Comes image map (results_of a) (λ x. x ≡ v) (tried b os v) value) →
      Comes image map (results_of a) (Untouched w) (outcome_in w (needed a (λ h. needed b (λ p. invoked T h p os)) (before w))) value
  unfolding needed no_case
  by_rows T None b os w f = tt
  by_rows T (Some h) None os w f = tt
  by_rows T (Some h) (Some p) os w f = arguments_bound T h p os w (may_be_arguments T (own_types os) h.args) refl f

  -- what a row comes to in each world, its invocation comes to, with objects that may be its arguments
  pub row_does_for : (T : CluType) (op : List ℕ) (os : List Object) (w : World) →
      (may_be_arguments T (own_types os) (args_of (operation T op)) ≡ true → (v : World) → v.cells ≡ w.cells → Comes image map (results_of (operation T op)) (λ x. x ≡ v) (tried (primitive T op) os v) value) →
      Comes image map (results_of (operation T op)) (Untouched w) (prim T op os w) value
  unfolding prim done_in
  row_does_for T op os w f = by_rows T (operation T op) (primitive T op) os w f

  pub row_does : (T : CluType) (op : List ℕ) (os : List Object) (w : World) → ((v : World) → Comes image map (results_of (operation T op)) (λ x. x ≡ v) (tried (primitive T op) os v) value) →
      Comes image map (results_of (operation T op)) (Untouched w) (prim T op os w) value
  row_does T op os w f = row_does_for T op os w (λ fitting v same. f v)
