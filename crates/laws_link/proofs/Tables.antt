-- The words of the fixed part stand where the plan says.
use Rattle.std.proofs.Common.{◌≡◌, ◌∙◌, ℕ, zero, suc, ◌+◌, ◌*◌, ◌<◌, List, [], ◌∷◌, ◌++◌, length, map, Some, slice_get, refl, ap, sym, arith}
use Rattle.std.proofs.lemmas.Option.{same_Some, none-some}
use Rattle.std.proofs.lemmas.List.{length-append}
use Rattle.std.specs.List.{flat_map}
use Rattle.clu_link_meaning.specs.Plan.{Plan, Callable, before, all_of, cells_of, descriptors_start, table_at, descriptor_at, variable_at}
use Rattle.clu_link_meaning.specs.Image.{constant_word, entry_at, descriptor_words, descriptors_from, link_table, fixed_words}
use Rattle.laws_link.proofs.CodeWords.{get_front, get_back}

module _ {X Y : Type 0} (f : X → List Y) (size : X → ℕ) (sized : (x : X) → length (f x) ≡ size x) where
  -- parts side by side
  pub flat_at : (xs : List X) (n : ℕ) (x : X) (i : ℕ) → slice_get xs n ≡ Some x → i < size x → slice_get (flat_map f xs) (before size xs n + i) ≡ slice_get (f x) i
  flat_at [] n x i e l = absurd (none-some x e)
  flat_at (y ∷ ys) zero x i e l =
      let s : y ≡ x = same_Some y x e in
      let o : 0 + i ≡ i = omega arith in
      let k : length (f y) ≡ size y = sized y in
      let m : size y ≡ size x = ap size s in
      ap (slice_get (f y ++ flat_map f ys)) o ∙ get_front (f y) (flat_map f ys) i (omega (arith, k, l, m)) ∙ ap (λ z. slice_get (f z) i) s
  flat_at (y ∷ ys) (suc n) x i e l =
      let k : length (f y) ≡ size y = sized y in
      let b : size y + before size ys n + i ≡ length (f y) + (before size ys n + i) = omega (arith, k) in
      ap (slice_get (f y ++ flat_map f ys)) b ∙ get_back (f y) (flat_map f ys) (before size ys n + i) ∙ flat_at ys n x i e l

  pub flat_length : (xs : List X) → length (flat_map f xs) ≡ all_of size xs
  flat_length [] = refl
  flat_length (x ∷ xs) = let a : length (f x ++ flat_map f xs) ≡ length (f x) + length (flat_map f xs) = length-append (f x) (flat_map f xs) in
      let k : length (f x) ≡ size x = sized x in let r : length (flat_map f xs) ≡ all_of size xs = flat_length xs in omega (arith, a, k, r)

mapped : {X Y : Type 0} (f : X → Y) (xs : List X) → length (map f xs) ≡ length xs
mapped f [] = refl
mapped f (x ∷ xs) = ap suc (mapped f xs)

module _ (p : Plan) where
  pub table_length : (c : Callable) → length (link_table p c) ≡ cells_of c
  table_length c =
      let e : List ℕ = map (entry_at p) c.uses in
      let d : List ℕ = map (descriptor_at p) c.uses in
      let k : List ℕ = map (constant_word p) c.constants in
      let v : List ℕ = map (variable_at p) c.variables in
      let a : length (e ++ (d ++ (k ++ (v ++ c.types)))) ≡ length e + length (d ++ (k ++ (v ++ c.types))) = length-append e (d ++ (k ++ (v ++ c.types))) in
      let b : length (d ++ (k ++ (v ++ c.types))) ≡ length d + length (k ++ (v ++ c.types)) = length-append d (k ++ (v ++ c.types)) in
      let f : length (k ++ (v ++ c.types)) ≡ length k + length (v ++ c.types) = length-append k (v ++ c.types) in
      let g : length (v ++ c.types) ≡ length v + length c.types = length-append v c.types in
      let le : length e ≡ length c.uses = mapped (entry_at p) c.uses in
      let ld : length d ≡ length c.uses = mapped (descriptor_at p) c.uses in
      let lk : length k ≡ length c.constants = mapped (constant_word p) c.constants in
      let lv : length v ≡ length c.variables = mapped (variable_at p) c.variables in
      omega (arith, a, b, f, g, le, ld, lk, lv)

  pub descriptors_length : (n : ℕ) (cs : List Callable) → length (descriptors_from p n cs) ≡ 3 * length cs
  descriptors_length n [] = omega arith
  descriptors_length n (c ∷ cs) = let r : length (descriptors_from p (suc n) cs) ≡ 3 * length cs = descriptors_length (suc n) cs in omega (arith, r)

  descriptor_from : (k : ℕ) (cs : List Callable) (n : ℕ) (c : Callable) (i : ℕ) → slice_get cs n ≡ Some c → i < 3 → slice_get (descriptors_from p k cs) (3 * n + i) ≡ slice_get (descriptor_words p (k + n) c) i
  descriptor_from k [] n c i e l = absurd (none-some c e)
  descriptor_from k (d ∷ ds) zero c i e l =
      let s : d ≡ c = same_Some d c e in
      let o : 3 * 0 + i ≡ i = omega arith in
      let z : k ≡ k + 0 = omega arith in
      ap (slice_get (descriptors_from p k (d ∷ ds))) o ∙ get_front (descriptor_words p k d) (descriptors_from p (suc k) ds) i l ∙ ap (λ x. slice_get (descriptor_words p k x) i) s ∙ ap (λ m. slice_get (descriptor_words p m c) i) z
  descriptor_from k (d ∷ ds) (suc n) c i e l =
      let o : 3 * suc n + i ≡ 3 + (3 * n + i) = omega arith in
      let z : suc k + n ≡ k + suc n = omega arith in
      ap (slice_get (descriptors_from p k (d ∷ ds))) o ∙ get_back (descriptor_words p k d) (descriptors_from p (suc k) ds) (3 * n + i) ∙ descriptor_from (suc k) ds n c i e l ∙ ap (λ m. slice_get (descriptor_words p m c) i) z

  -- the words of a descriptor
  pub descriptor_stands : (n : ℕ) (c : Callable) (i : ℕ) → slice_get p.callables n ≡ Some c → i < 3 → slice_get (fixed_words p) (3 * n + i) ≡ slice_get (descriptor_words p n c) i
  descriptor_stands n c i e l =
      let d : length (descriptors_from p 0 p.callables) ≡ 3 * length p.callables = descriptors_length 0 p.callables in
      let r : n < length p.callables = there p.callables n c e in
      let z : 0 + n ≡ n = omega arith in
      get_front (descriptors_from p 0 p.callables) _ (3 * n + i) (omega (arith, d, r, l)) ∙ descriptor_from 0 p.callables n c i e l ∙ ap (λ m. slice_get (descriptor_words p m c) i) z
    where
      there : {X : Type 0} (xs : List X) (n : ℕ) (x : X) → slice_get xs n ≡ Some x → n < length xs
      there [] n x e = absurd (none-some x e)
      there (y ∷ ys) zero x e = omega arith
      there (y ∷ ys) (suc n) x e = let r : n < length ys = there ys n x e in omega (arith, r)

  -- the cells of a link table
  pub table_stands : (n : ℕ) (c : Callable) (j : ℕ) → slice_get p.callables n ≡ Some c → j < cells_of c →
      slice_get (fixed_words p) (3 * length p.callables + (before cells_of p.callables n + j)) ≡ slice_get (link_table p c) j
  table_stands n c j e l =
      let d : length (descriptors_from p 0 p.callables) ≡ 3 * length p.callables = descriptors_length 0 p.callables in
      let a : length (flat_map (link_table p) p.callables) ≡ all_of cells_of p.callables = flat_length (link_table p) cells_of table_length p.callables in
      let w : before cells_of p.callables n + j < all_of cells_of p.callables = inside p.callables n c j e l in
      ap (λ m. slice_get (fixed_words p) (m + (before cells_of p.callables n + j))) (sym d)
      ∙ get_back (descriptors_from p 0 p.callables) _ (before cells_of p.callables n + j)
      ∙ get_front (flat_map (link_table p) p.callables) _ (before cells_of p.callables n + j) (omega (arith, a, w))
      ∙ flat_at (link_table p) cells_of table_length p.callables n c j e l
    where
      inside : (cs : List Callable) (n : ℕ) (c : Callable) (j : ℕ) → slice_get cs n ≡ Some c → j < cells_of c → before cells_of cs n + j < all_of cells_of cs
      inside [] n c j e l = absurd (none-some c e)
      inside (d ∷ ds) zero c j e l = let s : cells_of d ≡ cells_of c = ap cells_of (same_Some d c e) in omega (arith, s, l)
      inside (d ∷ ds) (suc n) c j e l = let r : before cells_of ds n + j < all_of cells_of ds = inside ds n c j e l in omega (arith, r)

  -- at these addresses
  pub descriptor_address : (n i : ℕ) → descriptor_at p n + 8 * i ≡ descriptors_start p + 8 * (3 * n + i)
  descriptor_address n i = omega arith

  pub cell_address : (n j : ℕ) → table_at p n + 8 * j ≡ descriptors_start p + 8 * (3 * length p.callables + (before cells_of p.callables n + j))
  cell_address n j = omega arith
