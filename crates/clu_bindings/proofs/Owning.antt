-- The types of clusters with their own parameters, while the arena grows.
use Rattle.std.proofs.Common.{◌≡◌, ◌∙◌, ℕ, zero, suc, ◌+◌, ◌<◌, Bool, true, false, List, [], ◌∷◌, ◌++◌, length, Option, Some, None, refl, ap, sym, subst, inl, inr, arith, length-append}
use Rattle.std.specs.Prelude.{slice_get}
use Rattle.std.proofs.lemmas.Bool.{cases_eq}
use Rattle.std.proofs.lemmas.Option.{none-some, same_Some, slice_get_within}
use Rattle.clu_base.proofs.Lists.{got_front}
use Rattle.clu_tree.specs.declared.node.Node.{Node}
use Rattle.clu_tree.specs.declared.node.NodeKind.TheVariants as kind
use Rattle.clu_types.specs.declared.spec.ParamKind.{ParamKind}
use Rattle.clu_types.specs.declared.term.TypeId.{TypeId}
use Rattle.clu_types.specs.declared.term.Actual.{Actual}
use Rattle.clu_types.specs.declared.term.Actual.TheVariants as actual
use Rattle.clu_types.specs.declared.term.Term.{Term}
use Rattle.clu_types.specs.declared.term.Term.TheVariants as term
use Rattle.clu_types.specs.Arena.{Grows}
use Rattle.clu_settle.specs.declared.value.Value.{Value}
use Rattle.clu_head.specs.OwnTypes.{number_at, is_type_parameter, IsOwn, IsOwnActual, AreOwn, IsOwnType}
use Rattle.clu_bindings.specs.Headlines.{Headline, headline_of}
use Rattle.clu_bindings.specs.Owned.{IsOwned, AreOwned}

-- an item of a list with one more behind it
got_before : {A : Type 0} (xs : List A) (y x : A) (i : ℕ) → slice_get (xs ++ y ∷ []) i ≡ Some x → i < length xs → slice_get xs i ≡ Some x
got_before [] y x i e l = absurd (omega (arith, l))
got_before (z ∷ xs) y x zero e l = e
got_before (z ∷ xs) y x (suc i) e l = got_before xs y x i e (omega (arith, l))

got_last : {A : Type 0} (xs : List A) (y x : A) (i : ℕ) → slice_get (xs ++ y ∷ []) i ≡ Some x → i ≡ length xs → y ≡ x
got_last [] y x zero e l = same_Some y x e
got_last [] y x (suc i) e l = absurd (omega (arith, l))
got_last (z ∷ xs) y x zero e l = absurd (omega (arith, l))
got_last (z ∷ xs) y x (suc i) e l = got_last xs y x i e (omega (arith, l))

module _ (old new : List Term) (grows : Grows old new) where
  kept_at : (i : ℕ) (t : Term) → slice_get old i ≡ Some t → slice_get new i ≡ Some t
  kept_at i t is = ap (λ (ts : List Term). slice_get ts i) grows.1 ∙ got_front old grows.0 i t is

  one_wider : (b : Bool) (n : ℕ) (a : Actual) → IsOwn old b n a → IsOwn new b n a
  one_wider true n (actual.Of id) is = kept_at id.0 (term.Param n) is
  one_wider true n (actual.Const c) is = absurd is
  one_wider true n (actual.ConstParam p) is = absurd is
  one_wider false n (actual.Of id) is = absurd is
  one_wider false n (actual.Const c) is = absurd is
  one_wider false n (actual.ConstParam p) is = is

  actuals_wider : (place : ℕ) (ks : List (Option ParamKind)) (xs : List Actual) → AreOwn old place ks xs → AreOwn new place ks xs
  unfolding AreOwn IsOwnActual
  actuals_wider place [] [] are = tt
  actuals_wider place [] (a ∷ xs) are = absurd are
  actuals_wider place (k ∷ ks) [] are = absurd are
  actuals_wider place (k ∷ ks) (a ∷ xs) are = (one_wider (is_type_parameter k) (number_at place) a are.0, actuals_wider (suc place) ks xs are.1)

  type_wider : (name : List ℕ) (kinds : List (Option ParamKind)) (found : Option TypeId) → IsOwnType old name kinds found → IsOwnType new name kinds found
  unfolding IsOwnType
  type_wider name kinds (Some id) own = (own.0, kept_at id.0 (term.Cluster name own.0) own.1, actuals_wider 0 kinds own.0 own.2)
  type_wider name kinds None own = own

  pub owned_wider : (values : List Value) (nodes : List Node) (h : Headline) (found : Option TypeId) → IsOwned old values nodes h found → IsOwned new values nodes h found
  owned_wider values nodes h found is = record { seen = is.seen; own = type_wider h.name _ found is.own }

pub none_owned : (types : List Term) (values : List Value) (nodes : List Node) (all : List (Option TypeId)) → all ≡ [] → AreOwned types values nodes 0 all
none_owned types values nodes all e = record {
  size = ap length e;
  each = λ n node found at is there. absurd (none-some found (sym (ap (λ (xs : List (Option TypeId)). slice_get xs n) e) ∙ there));
}

pub owned_next : (old new : List Term) → Grows old new → (values : List Value) (nodes : List Node) (count : ℕ) (all more : List (Option TypeId)) (one : Option TypeId) → AreOwned old values nodes count all
    → ((node : Node) → slice_get nodes count ≡ Some node → node.kind ≡ kind.Cluster → IsOwned new values nodes (headline_of nodes false node) one) → more ≡ all ++ one ∷ [] → AreOwned new values nodes (count + 1) more
owned_next old new grows values nodes count all more one are its is = record {
  size = size_more;
  each = λ n node found at of_kind there. each_more n node found at of_kind (sym (ap (λ (xs : List (Option TypeId)). slice_get xs n) is) ∙ there);
}
  where
    size : length all ≡ count
    size = are.size

    size_more : length more ≡ count + 1
    size_more =
        let longer : length (all ++ one ∷ []) ≡ length all + 1 = length-append all (one ∷ []) in
        let same : length more ≡ length (all ++ one ∷ []) = ap length is in
        let s : length all ≡ count = size in
        omega (arith, same, longer, s)

    each_more : (n : ℕ) (node : Node) (found : Option TypeId) → slice_get nodes n ≡ Some node → node.kind ≡ kind.Cluster → slice_get (all ++ one ∷ []) n ≡ Some found → IsOwned new values nodes (headline_of nodes false node) found
    each_more n node found at of_kind there = elim (cases_eq n count) [
      | inl same ↦
          subst (IsOwned new values nodes (headline_of nodes false node)) (got_last all one found n there (same ∙ sym size))
          (its node (sym (ap (slice_get nodes) same) ∙ at) of_kind)
      | inr apart ↦
          let within : n < length (all ++ one ∷ []) = slice_get_within (all ++ one ∷ []) n found there in
          let longer : length (all ++ one ∷ []) ≡ length all + 1 = length-append all (one ∷ []) in
          let s : length all ≡ count = size in
          owned_wider old new grows values nodes (headline_of nodes false node) found
          (are.each n node found at of_kind (got_before all one found n there (omega (arith, within, longer, s, apart))))
    ]
