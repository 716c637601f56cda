-- A string stands where the plan says: its size, and its bytes. So the word of a name tells the name.
use Rattle.std.proofs.Common.{◌≡◌, ◌∙◌, ℕ, zero, suc, ◌+◌, ◌-◌, ◌*◌, ◌/◌, ◌<◌, true, false, List, [], ◌∷◌, ◌++◌, length, replicate, ◌==◌, if◌then◌else◌, Some, slice_get, ap, arith}
use Rattle.std.proofs.lemmas.Bool.Decides.{nat_tests}
use Rattle.std.proofs.lemmas.Option.{same_Some, none-some}
use Rattle.std.proofs.lemmas.List.{length-append, length-replicate}
use Rattle.std.specs.List.{flat_map}
use Rattle.clu_link_meaning.specs.Plan.{Plan, before, all_of, string_size, string_at, fixed_start}
use Rattle.clu_link_meaning.specs.Image.{string_bytes, fixed_bytes}
use Rattle.laws_link.specs.Names.{name_of, named_from}
use Rattle.laws_link.proofs.CodeWords.{get_front}
use Rattle.laws_link.proofs.Tables.{flat_at, flat_length}

module _ (p : Plan) where
  pub string_length : (s : List ℕ) → length (string_bytes p s) ≡ string_size s
  string_length s =
      let z : List ℕ = replicate (8 * ((length s + 7) / 8) - length s) 0 in
      let a : length (s ++ z) ≡ length s + length z = length-append s z in
      let b : length z ≡ 8 * ((length s + 7) / 8) - length s = length-replicate (8 * ((length s + 7) / 8) - length s) 0 in
      omega (arith, a, b)

  inside : (xs : List (List ℕ)) (n : ℕ) (x : List ℕ) (j : ℕ) → slice_get xs n ≡ Some x → j < string_size x → before string_size xs n + j < all_of string_size xs
  inside [] n x j e l = absurd (none-some x e)
  inside (d ∷ ds) zero x j e l = let s : string_size d ≡ string_size x = ap string_size (same_Some d x e) in omega (arith, s, l)
  inside (d ∷ ds) (suc n) x j e l = let r : before string_size ds n + j < all_of string_size ds = inside ds n x j e l in omega (arith, r)

  pub string_stands : (n : ℕ) (s : List ℕ) (i : ℕ) → slice_get p.strings n ≡ Some s → i < string_size s → slice_get (fixed_bytes p) (before string_size p.strings n + i) ≡ slice_get (string_bytes p s) i
  string_stands n s i e l =
      let a : length (flat_map (string_bytes p) p.strings) ≡ all_of string_size p.strings = flat_length (string_bytes p) string_size string_length p.strings in
      let w : before string_size p.strings n + i < all_of string_size p.strings = inside p.strings n s i e l in
      get_front (flat_map (string_bytes p) p.strings) _ (before string_size p.strings n + i) (omega (arith, a, w)) ∙ flat_at (string_bytes p) string_size string_length p.strings n s i e l

named : (at : ℕ) (ss : List (List ℕ)) (n : ℕ) (s : List ℕ) → slice_get ss n ≡ Some s → named_from at ss (at + before string_size ss n) ≡ Some s
named at [] n s e = absurd (none-some s e)
named at (d ∷ ds) zero s e = let z : (at == at + 0) ≡ true = grind (arith, nat_tests) in ap (λ b. if b then Some d else named_from (at + string_size d) ds (at + 0)) z ∙ e
named at (d ∷ ds) (suc n) s e =
    let z : (at == at + (string_size d + before string_size ds n)) ≡ false = grind (arith, nat_tests) in
    let a : at + (string_size d + before string_size ds n) ≡ at + string_size d + before string_size ds n = omega arith in
    ap (λ b. if b then Some d else named_from (at + string_size d) ds (at + (string_size d + before string_size ds n))) z
    ∙ ap (named_from (at + string_size d) ds) a ∙ named (at + string_size d) ds n s e

-- a name's word tells the name
pub name_of_word : (p : Plan) (n : ℕ) (s : List ℕ) → slice_get p.strings n ≡ Some s → name_of p (string_at p n) ≡ Some s
name_of_word p n s e = named (fixed_start p) p.strings n s e
