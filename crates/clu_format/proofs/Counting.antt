-- Lists after their counts, as a loop reads them, and what is written of them read again.
use Rattle.std.proofs.Common.{◌≡◌, ℕ, zero, suc, ◌+◌, ◌-◌, ◌<◌, ◌≤◌, List, [], ◌∷◌, ◌++◌, length, Result, Ok, Err, refl, sym, ap, ◌∙◌, append_assoc, arith}
use Rattle.std.proofs.lemmas.List.{append-nil}
use Rattle.std.specs.List.{flat_map}
use Rattle.clu_base.specs.declared.errors.FormatError.{FormatError}
use Rattle.clu_base.specs.declared.errors.FormatError.TheVariants as error
use Rattle.clu_specs.specs.Reading.{◌>>=◌, Read, Fails}
use Rattle.clu_format.specs.Lists.{counted}

module _ {X : Type 0} (item : List X → List ℕ → Read X) where
  pub turn_on : (count i : ℕ) (made : List X) (x : X) (bytes after : List ℕ) (total : Read (List X)) → i < count → item made bytes ≡ Ok (x, after)
      → counted item (count - i) made bytes ≡ total → counted item (count - (i + 1)) (made ++ x ∷ []) after ≡ total
  unfolding counted
  turn_on count i made x bytes after total lt read so_far =
      let k : count - i ≡ suc (count - (i + 1)) = omega arith in
      let one : counted item (count - i) made bytes ≡ counted item (count - (i + 1)) (made ++ x ∷ []) after = rw (k, read) refl in
      sym one ∙ so_far

  pub turn_fails : (e : FormatError) (count i : ℕ) (made : List X) (bytes : List ℕ) (total : Read (List X)) → i < count → Fails e (item made bytes)
      → counted item (count - i) made bytes ≡ total → Fails e total
  unfolding counted
  turn_fails error.Memory count i made bytes total lt read so_far = tt
  turn_fails (error.Bad left) count i made bytes total lt read so_far =
      let k : count - i ≡ suc (count - (i + 1)) = omega arith in
      let one : counted item (count - i) made bytes ≡ Err left = rw (k, read) refl in
      sym so_far ∙ one

  pub all_made : (count i : ℕ) (made : List X) (bytes : List ℕ) (total : Read (List X)) → count ≤ i → counted item (count - i) made bytes ≡ total → total ≡ Ok (made, bytes)
  unfolding counted
  all_made count i made bytes total le so_far =
      let k : count - i ≡ 0 = omega arith in
      let one : counted item (count - i) made bytes ≡ Ok (made, bytes) = rw k refl in
      sym so_far ∙ one

-- What is written of items, each good after those before it, is read as they are, if this holds of each.
module _ {X : Type 0} (item : List X → List ℕ → Read X) (bytes_of : X → List ℕ) (Good : List X → X → Type 0) where
  abbrev pub AllGood : List X → List X → Type 0
  AllGood made [] = Unit {0}
  AllGood made (x ∷ xs) = Good made x × AllGood (made ++ x ∷ []) xs

  pub list_again : ((made : List X) (x : X) (rest : List ℕ) → Good made x → item made (bytes_of x ++ rest) ≡ Ok (x, rest))
      → (made xs : List X) (rest : List ℕ) → AllGood made xs → counted item (length xs) made (flat_map bytes_of xs ++ rest) ≡ Ok (made ++ xs, rest)
  unfolding counted
  list_again again made [] rest good = rw (append-nil made) refl
  list_again again made (x ∷ xs) rest good =
      let more : List ℕ = flat_map bytes_of xs ++ rest in
      let here : item made (bytes_of x ++ more) ≡ Ok (x, more) = again made x more good.0 in
      let behind : counted item (length xs) (made ++ x ∷ []) more ≡ Ok ((made ++ x ∷ []) ++ xs, rest) = list_again again (made ++ x ∷ []) xs rest good.1 in
      rw (append_assoc (bytes_of x) (flat_map bytes_of xs) rest, here) (behind ∙ ap (λ (ys : List X). Ok (ys, rest)) (append_assoc made (x ∷ []) xs))
