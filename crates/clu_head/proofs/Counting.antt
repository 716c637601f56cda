-- How counts of set bits go on.
use Rattle.std.proofs.Common.{◌≡◌, ◌∙◌, ℕ, suc, ◌+◌, ◌<◌, Bool, true, false, List, [], ◌∷◌, ◌++◌, length, get_or, Option, Some, if◌then◌else◌, refl, sym, ap, add-one}
use Rattle.std.proofs.lemmas.Option.{slice_get-get_or}
use Rattle.std.specs.Prelude.{slice_get}
use Rattle.clu_head.specs.Refused.{is_set, count_before, counts_to}

module _ (bits : List Bool) (n : ℕ) where
  at_next : count_before bits (suc n) ≡ count_before bits (n + 1)
  at_next = ap (count_before bits) (sym (add-one n))

  bit_there : n < length bits → (bit : Bool) → get_or bits n false ≡ bit → slice_get bits n ≡ Some bit
  bit_there inside bit is = slice_get-get_or bits n false inside ∙ ap Some is

  pub counted_set : (count : ℕ) → n < length bits → get_or bits n false ≡ true → count ≡ count_before bits n → count + 1 ≡ count_before bits (n + 1)
  unfolding count_before
  counted_set count inside bit is =
      let next : count_before bits (suc n) ≡ count_before bits n + 1 = ap (λ (o : Option Bool). if is_set o then count_before bits n + 1 else count_before bits n) (bit_there inside true bit) in
      ap (λ (k : ℕ). k + 1) is ∙ sym next ∙ at_next

  pub counted_same : (count : ℕ) → n < length bits → get_or bits n false ≡ false → count ≡ count_before bits n → count ≡ count_before bits (n + 1)
  unfolding count_before
  counted_same count inside bit is =
      let next : count_before bits (suc n) ≡ count_before bits n = ap (λ (o : Option Bool). if is_set o then count_before bits n + 1 else count_before bits n) (bit_there inside false bit) in
      is ∙ sym next ∙ at_next

  pub counts_next : (count : ℕ) (old new : List ℕ) → old ≡ counts_to bits n → count ≡ count_before bits (n + 1) → new ≡ old ++ count ∷ [] → new ≡ counts_to bits (n + 1)
  unfolding counts_to
  counts_next count old new is at grown =
      let last : count ≡ count_before bits (suc n) = at ∙ sym at_next in
      let whole : counts_to bits (suc n) ≡ counts_to bits n ++ count_before bits (suc n) ∷ [] = refl in
      grown ∙ ap (λ (xs : List ℕ). xs ++ count ∷ []) is ∙ ap (λ (k : ℕ). counts_to bits n ++ k ∷ []) last ∙ sym whole ∙ ap (counts_to bits) (sym (add-one n))

pub none_counted : (bits : List Bool) → 0 ≡ count_before bits 0
unfolding count_before
none_counted bits = refl

pub counts_begin : (bits : List Bool) (items : List ℕ) → items ≡ 0 ∷ [] → items ≡ counts_to bits 0
unfolding counts_to
counts_begin bits items is = is ∙ ap (λ (k : ℕ). k ∷ []) (none_counted bits)
