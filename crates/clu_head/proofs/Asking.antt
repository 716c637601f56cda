-- What is asked, but for its types, and where that of each node begins.
use Rattle.std.proofs.Common.{◌≡◌, ◌∙◌, ℕ, suc, ◌+◌, List, [], ◌∷◌, ◌++◌, map, length, Option, None, refl, ap, sym, subst, add-one}
use Rattle.clu_types.specs.declared.term.TypeId.{TypeId}
use Rattle.clu_head.specs.declared.head.Demanded.{Demanded}
use Rattle.clu_head.specs.declared.clauses.Asking.{Asking}
use Rattle.clu_head.specs.Asking.{untyped, demanded, demanded_by}
use Rattle.clu_head.specs.Asked.{demands_to, starts_to}

one_untyped : (a : Asking) (wanted : Option TypeId) (name : List ℕ) → untyped (demanded a wanted name) ≡ demanded a None name
unfolding untyped demanded
one_untyped a wanted name = refl

pub named_untyped : (a : Asking) (wanted : Option TypeId) (names : List (List ℕ)) → map untyped (demanded_by a wanted names) ≡ demanded_by a None names
named_untyped a wanted [] = refl
named_untyped a wanted (name ∷ names) =
    ap (λ (d : Demanded). d ∷ map untyped (demanded_by a wanted names)) (one_untyped a wanted name)
    ∙ ap (λ (ds : List Demanded). demanded a None name ∷ ds) (named_untyped a wanted names)

pub joined_untyped : (xs ys : List Demanded) → map untyped (xs ++ ys) ≡ map untyped xs ++ map untyped ys
joined_untyped [] ys = refl
joined_untyped (x ∷ xs) ys = ap (λ (ds : List Demanded). untyped x ∷ ds) (joined_untyped xs ys)

as_many : (ds : List Demanded) → length (map untyped ds) ≡ length ds
as_many [] = refl
as_many (d ∷ ds) = ap suc (as_many ds)

module _ (of : ℕ → List Demanded) where
  pub none_demanded : (ds : List Demanded) → ds ≡ [] → map untyped ds ≡ demands_to of 0
  unfolding demands_to
  none_demanded ds is = ap (map untyped) is

  pub none_started : (starts : List ℕ) → starts ≡ [] → starts ≡ starts_to of 0
  unfolding starts_to
  none_started starts is = is

  pub demands_next : (n : ℕ) (old new : List Demanded) → map untyped old ≡ demands_to of n → map untyped new ≡ map untyped old ++ of n → map untyped new ≡ demands_to of (n + 1)
  unfolding demands_to
  demands_next n old new e f = subst (λ (k : ℕ). map untyped new ≡ demands_to of k) (sym (add-one n)) (f ∙ ap (λ (ds : List Demanded). ds ++ of n) e)

  pub starts_next : (n start : ℕ) (ds : List Demanded) (old new : List ℕ) → old ≡ starts_to of n → map untyped ds ≡ demands_to of n → start ≡ length ds → new ≡ old ++ start ∷ [] → new ≡ starts_to of (n + 1)
  unfolding starts_to
  starts_next n start ds old new e f g h =
      let size : start ≡ length (demands_to of n) = g ∙ sym (as_many ds) ∙ ap length f in
      subst (λ (k : ℕ). new ≡ starts_to of k) (sym (add-one n))
      (h ∙ ap (λ (xs : List ℕ). xs ++ start ∷ []) e ∙ ap (λ (k : ℕ). starts_to of n ++ k ∷ []) size)
