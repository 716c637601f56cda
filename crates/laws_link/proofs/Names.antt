-- The word of a name that is a string of the program tells the name.
use Rattle.std.proofs.Common.{◌≡◌, ◌∙◌, ℕ, suc, ◌<◌, Bool, true, false, ◌||◌, List, [], ◌∷◌, length, get_or, Option, Some, slice_get, true≢false, refl, ap, sym, arith}
use Rattle.std.proofs.lemmas.Grind.{common_steps}
use Rattle.std.proofs.lemmas.List.Sums.{passes_at_first}
use Rattle.std.proofs.lemmas.Option.{same_Some, slice_get-get_or}
use Rattle.std.proofs.lemmas.Slice.Eq.{bytes_eq-Decides}
use Rattle.std.specs.List.{list_any, position, position_or_len}
use Rattle.std.specs.Str.{bytes_eq}
use Rattle.clu_link_meaning.specs.Plan.{Plan, name_word, or_none, string_at}
use Rattle.laws_link.specs.Names.{name_of}
use Rattle.laws_link.proofs.Strings.{name_of_word}

-- where one is listed, the first place of it is inside
inside : {X : Type 0} (p : X → Bool) (xs : List X) → list_any p xs ≡ true → position_or_len p xs < length xs
inside p [] h = absurd (true≢false (sym h))
inside p (x ∷ xs) h = by (p x) refl (inside p xs) h
  where
    by : (b : Bool) → p x ≡ b → (list_any p xs ≡ true → position_or_len p xs < length xs) → b || list_any p xs ≡ true → position_or_len p (x ∷ xs) < suc (length xs)
    by true e rest h = rw e (omega arith)
    by false e rest h = let r : position_or_len p xs < length xs = rest h in rw e (omega (arith, r))

pub listed_named : (p : Plan) (a : List ℕ) → list_any (bytes_eq a) p.strings ≡ true → name_of p (name_word p a) ≡ Some a
listed_named p a listed =
    let n : ℕ = position_or_len (bytes_eq a) p.strings in
    let within : position_or_len (bytes_eq a) p.strings < length p.strings = inside (bytes_eq a) p.strings listed in
    let s : List ℕ = get_or p.strings n a in
    let is : a ≡ s = (bytes_eq-Decides a s).0 (passes_at_first (bytes_eq a) p.strings a within) in
    let at : slice_get p.strings n ≡ Some s = slice_get-get_or p.strings n a within in
    let first : position (bytes_eq a) p.strings ≡ Some n = grind (arith, common_steps, within) in
    ap (λ (o : Option ℕ). name_of p (string_at p (or_none o))) first ∙ name_of_word p n s at ∙ ap Some (sym is)

pub words_told : (p : Plan) (a b : List ℕ) → list_any (bytes_eq a) p.strings ≡ true → list_any (bytes_eq b) p.strings ≡ true → name_word p a ≡ name_word p b → a ≡ b
words_told p a b la lb e = same_Some a b (sym (listed_named p a la) ∙ ap (name_of p) e ∙ listed_named p b lb)
