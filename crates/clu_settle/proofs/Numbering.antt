-- The number of a declaration, one declaration after the other.
use Rattle.std.proofs.Common.{◌≡◌, ◌∙◌, ℕ, zero, suc, ◌+◌, ◌<◌, if◌then◌else◌, List, [], ◌∷◌, ◌++◌, get_or, Option, Some, None, length, slice_get, refl, ap, sym, subst, inl, inr, arith, add-one, length-append}
use Rattle.std.proofs.lemmas.Option.{slice_get_read}
use Rattle.std.proofs.lemmas.Bool.{cases_lt}
use Rattle.clu_tree.specs.declared.node.Node.{Node}
use Rattle.clu_syntax.specs.declared.round.Round.{Round}
use Rattle.clu_syntax.specs.Kinds.{kind_at}
use Rattle.clu_names.specs.declared.scopes.Declared.{Declared}
use Rattle.clu_names.specs.Scopes.{next}
use Rattle.clu_settle.specs.declared.meanings.Meaning.{Meaning}
use Rattle.clu_settle.specs.Parameters.{is_parameter, is_counted, count_in, counted, counted_in, number_at, numbers_to}
use Rattle.clu_settle.specs.Meant.{declared_in, declared_at, declared_to, meant_at, meant_to}

get_front : (xs : List ℕ) (x k : ℕ) → k < length xs → get_or (xs ++ x ∷ []) k 0 ≡ get_or xs k 0
get_front [] x k l = absurd (omega (arith, l))
get_front (y ∷ ys) x zero l = refl
get_front (y ∷ ys) x (suc k) l = get_front ys x k (omega (arith, l))

get_last : (xs : List ℕ) (x : ℕ) → get_or (xs ++ x ∷ []) (length xs) 0 ≡ x
get_last [] x = refl
get_last (y ∷ ys) x = get_last ys x

module _ (nodes : List Node) (rounds : List Round) (ds : List Declared) where
  pub counted_next : (p u old new : ℕ) (d : Declared) → p < length ds → d ≡ get_or ds p d → old ≡ counted nodes rounds ds u p → new ≡ (if is_counted nodes rounds u (Some d) then next old else old) → new ≡ counted nodes rounds ds u (p + 1)
  unfolding counted
  counted_next p u old new d l at e is =
      subst (λ (k : ℕ). new ≡ counted nodes rounds ds u k) (sym (add-one p))
      (is ∙ ap (λ (k : ℕ). if is_counted nodes rounds u (Some d) then next k else k) e
      ∙ ap (λ (o : Option Declared). if is_counted nodes rounds u o then next (counted nodes rounds ds u p) else counted nodes rounds ds u p) (sym (slice_get_read ds (length ds) p d refl l at)))

  pub in_counts : (counts : List ℕ) (p : ℕ) → ((u : ℕ) → get_or counts u 0 ≡ counted nodes rounds ds u p) → (unit : Option ℕ) → count_in counts unit ≡ counted_in nodes rounds ds unit p
  in_counts counts p all None = refl
  in_counts counts p all (Some u) = all u

  pub numbers_next : (p number : ℕ) (d : Declared) (counts old new : List ℕ) → p < length ds → d ≡ get_or ds p d → ((u : ℕ) → get_or counts u 0 ≡ counted nodes rounds ds u (p + 1)) → old ≡ numbers_to nodes rounds ds p →
      number ≡ (if is_parameter nodes rounds d.node then count_in counts d.unit else 0) → new ≡ old ++ number ∷ [] → new ≡ numbers_to nodes rounds ds (p + 1)
  unfolding numbers_to
  numbers_next p number d counts old new l at all e is more =
      let counts_are : (u : ℕ) → get_or counts u 0 ≡ counted nodes rounds ds u (suc p) = λ u. all u ∙ ap (counted nodes rounds ds u) (add-one p) in
      subst (λ (k : ℕ). new ≡ numbers_to nodes rounds ds k) (sym (add-one p))
      (more ∙ ap (λ (xs : List ℕ). xs ++ number ∷ []) e
      ∙ ap (λ (k : ℕ). numbers_to nodes rounds ds p ++ k ∷ [])
      (is ∙ ap (λ (k : ℕ). if is_parameter nodes rounds d.node then k else 0) (in_counts counts (suc p) counts_are d.unit) ∙ ap (number_at nodes rounds ds p) (sym (slice_get_read ds (length ds) p d refl l at))))

  numbers_size : (m : ℕ) → length (numbers_to nodes rounds ds m) ≡ m
  unfolding numbers_to
  numbers_size zero = refl
  numbers_size (suc m) = length-append (numbers_to nodes rounds ds m) (number_at nodes rounds ds m (slice_get ds m) ∷ []) ∙ omega (arith, numbers_size m)

  number_there : (m p : ℕ) → p < m → get_or (numbers_to nodes rounds ds m) p 0 ≡ number_at nodes rounds ds p (slice_get ds p)
  unfolding numbers_to
  number_there zero p l = absurd (omega (arith, l))
  number_there (suc m) p l = elim (cases_lt p m) [
    | inl less ↦ get_front (numbers_to nodes rounds ds m) (number_at nodes rounds ds m (slice_get ds m)) p (omega (arith, less, numbers_size m)) ∙ number_there m p less
    | inr more ↦
        (let same : p ≡ m = omega (arith, l, more) in
        ap (λ (k : ℕ). get_or (numbers_to nodes rounds ds m ++ number_at nodes rounds ds m (slice_get ds m) ∷ []) k 0) (same ∙ sym (numbers_size m))
        ∙ get_last (numbers_to nodes rounds ds m) (number_at nodes rounds ds m (slice_get ds m))
        ∙ ap (λ (k : ℕ). number_at nodes rounds ds k (slice_get ds k)) (sym same))
  ]

  pub number_in : (numbers : List ℕ) (p : ℕ) → numbers ≡ numbers_to nodes rounds ds (length ds) → p < length ds → get_or numbers p 0 ≡ number_at nodes rounds ds p (slice_get ds p)
  number_in numbers p e l = ap (λ (ns : List ℕ). get_or ns p 0) e ∙ number_there (length ds) p l

  pub declared_there : (p count number : ℕ) (d : Declared) (m : Meaning) → p < length ds → d ≡ get_or ds p d → count ≡ counted_in nodes rounds ds d.unit (length ds) → number ≡ number_at nodes rounds ds p (slice_get ds p) →
      m ≡ declared_in nodes (kind_at nodes d.node) d.node d.unit count number → m ≡ declared_at nodes rounds ds p (slice_get ds p)
  declared_there p count number d m l is e f more =
      let at : slice_get ds p ≡ Some d = slice_get_read ds (length ds) p d refl l is in
      more ∙ ap (λ (k : ℕ). declared_in nodes (kind_at nodes d.node) d.node d.unit k number) e
      ∙ ap (declared_in nodes (kind_at nodes d.node) d.node d.unit (counted_in nodes rounds ds d.unit (length ds))) (f ∙ ap (number_at nodes rounds ds p) at)
      ∙ sym (ap (declared_at nodes rounds ds p) at)

  pub declared_next : (p : ℕ) (m : Meaning) (old new : List Meaning) → old ≡ declared_to nodes rounds ds p → m ≡ declared_at nodes rounds ds p (slice_get ds p) → new ≡ old ++ m ∷ [] → new ≡ declared_to nodes rounds ds (p + 1)
  unfolding declared_to
  declared_next p m old new e is more =
      subst (λ (k : ℕ). new ≡ declared_to nodes rounds ds k) (sym (add-one p))
      (more ∙ ap (λ (xs : List Meaning). xs ++ m ∷ []) e ∙ ap (λ (m : Meaning). declared_to nodes rounds ds p ++ m ∷ []) is)

pub meant_next : (nodes : List Node) (ds : List Declared) (declared : List Meaning) (n : ℕ) (m : Meaning) (old new : List Meaning) → old ≡ meant_to nodes ds declared n → m ≡ meant_at nodes ds declared n → new ≡ old ++ m ∷ [] → new ≡ meant_to nodes ds declared (n + 1)
unfolding meant_to
meant_next nodes ds declared n m old new e is more =
    subst (λ (k : ℕ). new ≡ meant_to nodes ds declared k) (sym (add-one n))
    (more ∙ ap (λ (xs : List Meaning). xs ++ m ∷ []) e ∙ ap (λ (m : Meaning). meant_to nodes ds declared n ++ m ∷ []) is)
