-- Specifications that are made of the heads of their places.
use Rattle.std.proofs.Common.{◌≡◌, ◌∙◌, ◌+◌, ◌<◌, ℕ, List, [], ◌∷◌, ◌++◌, length, map, take, get_or, Option, Some, None, IfSome, Result, Ok, Err, IfOk, inl, inr, ap, subst, sym}
use Rattle.std.specs.Prelude.{slice_get}
use Rattle.std.proofs.lemmas.List.{map-append, take_more}
use Rattle.std.proofs.lemmas.Option.{none-some}
use Rattle.clu_circles.proofs.Places.{push_cases}
use Rattle.clu_tree.specs.declared.node.Node.{Node}
use Rattle.clu_types.specs.declared.spec.Spec.{Spec}
use Rattle.clu_types.specs.declared.term.Term.{Term}
use Rattle.clu_head.specs.declared.head.Head.{Head}
use Rattle.clu_check_mod.specs.Modules.{AreMade, AreOf, IsMadeIf, name_of}

-- three facts of what may be found are one
pub three_of : {A E : Type 0} (r : Result (Option A) E) (First Second Third All : A → Type 0) → ((x : A) → First x → Second x → Third x → All x)
    → IfOk r (λ o. IfSome o First) → IfOk r (λ o. IfSome o Second) → IfOk r (λ o. IfSome o Third) → IfOk r (λ o. IfSome o All)
three_of (Ok (Some x)) First Second Third All gives a b c = gives x a b c
three_of (Ok None) First Second Third All gives a b c = tt
three_of (Err e) First Second Third All gives a b c = tt

-- ---- one more

pub made_first : (types : List Term) (heads : List Head) (own : List Spec) → own ≡ [] → AreMade types heads own
made_first types heads own none i s at = absurd (none-some s (ap (λ (xs : List Spec). slice_get xs i) (sym none) ∙ at))

pub made_more : (types : List Term) (heads : List Head) (own more : List Spec) (s : Spec) (o : Option Head) (place : ℕ) → AreMade types heads own → place ≡ length own → o ≡ slice_get heads place → IsMadeIf types o s → more ≡ own ++ s ∷ [] → AreMade types heads more
made_more types heads own more s o place are count at made joined i x got = elim (push_cases own s x i (ap (λ (xs : List Spec). slice_get xs i) (sym joined) ∙ got)) [
  | inl old ↦ are i x old.1
  | inr last ↦
      (let here : i ≡ length own = last.0 in
      let same : s ≡ x = last.1 in
      subst (λ (o : Option Head). IsMadeIf types o x) (at ∙ ap (slice_get heads) (count ∙ sym here)) (subst (IsMadeIf types o) same made))
]

pub named_more : (nodes : List Node) (ns : List ℕ) (own more : List Spec) (i d : ℕ) (s : Spec) → i < length ns → AreOf nodes (take i ns) own → name_of nodes (get_or ns i d) ≡ Some s.name → more ≡ own ++ s ∷ [] → AreOf nodes (take (i + 1) ns) more
named_more nodes ns own more i d s inside had named joined =
    let Named : Spec → Option (List ℕ) = λ x. Some x.name in
    ap (map (name_of nodes)) (take_more ns i d inside) ∙ map-append (name_of nodes) (take i ns) (get_or ns i d ∷ [])
    ∙ ap (λ (xs : List (Option (List ℕ))). xs ++ name_of nodes (get_or ns i d) ∷ []) had ∙ ap (λ (o : Option (List ℕ)). map Named own ++ o ∷ []) named
    ∙ sym (map-append Named own (s ∷ [])) ∙ ap (map Named) (sym joined)
