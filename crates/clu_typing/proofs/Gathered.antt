-- Sets that a node puts together: each one more adds what it tells, and together they are the row of the node.
use Rattle.std.proofs.Common.{◌≡◌, inl, inr, ◌∙◌, ℕ, zero, suc, ◌+◌, ◌<◌, ◌≤◌, ◌==◌, ◌||◌, Bool, true, false, not, if◌then◌else◌, List, [], ◌∷◌, ◌++◌, length, map, flat_map, fold, get_or, bytes_eq, slice_get, Option, Some, None, Result, Ok, Err, IfOk, Vec, refl, sym, ap, ap₂, subst, arith, append_assoc, append-nil, true≢false, eq-eqb, ne_eqb, ltb-true, ltb-false}
use Rattle.std.specs.Prelude.{nat_lt, unwrap_or, cond}
use Rattle.std.specs.List.{list_any, position_or_len}
use Rattle.std.proofs.lemmas.List.Sums.{fold-append}
use Rattle.std.proofs.lemmas.Slice.Eq.{bytes_eq-Decides}
use Rattle.clu_tree.specs.declared.node.NodeKind.{NodeKind}
use Rattle.clu_tree.specs.declared.node.NodeKind.TheVariants as kind
use Rattle.clu_types.specs.declared.term.Term.{Term}
use Rattle.clu_types.specs.declared.term.TypeId.{TypeId}
use Rattle.clu_bindings.specs.declared.file.File.{File}
use Rattle.clu_bindings.specs.Readers.{children_in, kind_in}
use Rattle.clu_bindings.specs.Tables.{optional}
use Rattle.clu_operations.specs.declared.words.NameId.{NameId}
use Rattle.clu_operations.specs.Finding.{IsBelowIf, found_at}
use Rattle.clu_operations.specs.Words.{id_of, named}
use Rattle.clu_operations.specs.declared.found.Found.{Found}
use Rattle.clu_operations.proofs.Naming.{extends_self, extends_on}
use Rattle.clu_typing.specs.declared.applied.Applied.{Applied}
use Rattle.clu_typing.specs.declared.applied.Applied.TheVariants as applied
use Rattle.clu_typing.specs.declared.facts.Facts.{Facts}
use Rattle.clu_typing.specs.declared.facts.Operation.{Operation}
use Rattle.clu_typing.specs.declared.facts.Operation.TheVariants as operation
use Rattle.clu_typing.specs.declared.raising.Raise.{Raise}
use Rattle.clu_typing.specs.declared.raising.RaisesId.{RaisesId}
use Rattle.clu_typing.specs.Facts.{operation_type}
use Rattle.clu_typing.specs.Raised.{Raised, nothing, raises_of}
use Rattle.clu_typing.specs.Raises.{AreGathered, StayBut, called_in, done_told, failing_told, first_as, first_invoked, first_operation, invoked_told, is_named, is_others, names_at, numbers_as, numbers_behind, numbers_of_arms, numbers_taken, parts, passed_on, passed_told, raised_told, second_operation, taken_as, taken_at, told_without, with_failing, with_id, with_number}
use Rattle.clu_typing.specs.Raising.{AreDistinct, AreRaises, AscendByNumber, IsMade, IsRaise, IsSet, IsSetOf, Told, failing, failure, has_none_of, raise_told, raises_without, set_told}
use Rattle.clu_typing.specs.Sets.{Has, HaveSame}
use Rattle.clu_typing.proofs.Growing.{follows_refl, follows_trans, grows_refl, same_raises_told, same_set_told, set_there, still_set}
use Rattle.clu_typing.proofs.Sets.{from_kept, has_either, joined_behind, kept_alike, kept_mapped, map_joined, same_any, same_each, same_from, same_joined, same_mapped, same_refl, same_trans}

-- ---- one set more

module _ (terms : List Term) (names : List (List ℕ)) (first : Raised) (before : List (List ℕ)) (old : Raised) (list : List RaisesId) (told : List Told) (are : AreGathered terms names first before old list told) where
  -- a set that was found from here
  one_more : (more : List (List ℕ)) (new : Raised) (set : RaisesId) (its : List Told) → IsSetOf terms before more old new its set → AreGathered terms names first more new (list ++ set ∷ []) (told ++ its)
  one_more more new set its is = record {
    right = is.right;
    named = extends_on names before more are.named is.named;
    kept = follows_trans first old new are.kept is.kept;
    each = λ one h. elim (has_either list (set ∷ []) one h) [
      | inl here ↦ still_set old new is.kept one (are.each one here)
      | inr last ↦ elim last [ inl same ↦ subst (IsSet new) same is.there | inr none ↦ absurd none ]
    ];
    raises =
        same_trans (flat_map tells (list ++ set ∷ [])) (flat_map tells list ++ tells set) (told ++ its)
        (same_from _ _ (joined_behind tells list (set ∷ []) ∙ ap (λ (l : List Told). flat_map tells list ++ l) (append-nil (tells set))))
        (same_joined (flat_map tells list) (tells set) told its
        (same_trans (flat_map tells list) (flat_map (set_told terms before old) list) told
        (same_each tells (set_told terms before old) list (λ one h. same_from _ _ (same_set_told terms terms before more old new (grows_refl terms) is.named is.kept are.right one (are.each one h))))
        are.raises)
        is.raises);
  }
    where
      tells : RaisesId → List Told
      tells = set_told terms more new

  pub pushed_on : (more now : List (List ℕ)) (new : Raised) (set : RaisesId) (its : List Told) (made : List RaisesId) → now ≡ more → made ≡ list ++ set ∷ [] → IsSetOf terms before more old new its set → AreGathered terms names first now new made (told ++ its)
  pushed_on more now new set its made same are is =
      subst (λ (l : List (List ℕ)). AreGathered terms names first l new made (told ++ its)) (sym same)
      (subst (λ (l : List RaisesId). AreGathered terms names first more new l (told ++ its)) (sym are) (one_more more new set its is))

  -- failure
  fails_too : AreGathered terms names first before old (list ++ failing ∷ []) (told ++ failure ∷ [])
  fails_too = one_more before old failing (failure ∷ []) (record { right = are.right; named = extends_self before; kept = follows_refl old; there = are.right.second; raises = are.right.fails })

  -- nothing more
  pub none_more : AreGathered terms names first before old list (told ++ [])
  none_more = subst (λ (l : List Told). AreGathered terms names first before old list l) (sym (append-nil told)) are

  fails_if : (b : Bool) → AreGathered terms names first before old (with_failing b list) (told ++ (if b then failure ∷ [] else []))
  fails_if true = fails_too
  fails_if false = none_more

  pub failing_gathered : (b : Bool) (made : List RaisesId) → made ≡ with_failing b list → AreGathered terms names first before old made (told ++ (if b then failure ∷ [] else []))
  failing_gathered b made are = subst (λ (l : List RaisesId). AreGathered terms names first before old l (told ++ (if b then failure ∷ [] else []))) (sym are) (fails_if b)

  -- together
  all_together : (new : Raised) (set : RaisesId) → IsMade terms before old new (flat_map (raises_of old) list) set → IsSetOf terms names before first new told set
  all_together new set is = record {
    right = is.right;
    named = are.named;
    kept = follows_trans first old new are.kept is.kept;
    there = is.there;
    raises =
        same_trans (set_told terms before new set) (map (raise_told terms before new) (flat_map (raises_of old) list)) told
        (same_mapped (raise_told terms before new) (raises_of new set) (flat_map (raises_of old) list) is.same)
        (same_trans (map (raise_told terms before new) (flat_map (raises_of old) list)) (flat_map (λ (one : RaisesId). map (raise_told terms before new) (raises_of old one)) list) told
        (same_from _ _ (map_joined (raise_told terms before new) (raises_of old) list))
        (same_trans (flat_map (λ (one : RaisesId). map (raise_told terms before new) (raises_of old one)) list) (flat_map (set_told terms before old) list) told
        (same_each (λ (one : RaisesId). map (raise_told terms before new) (raises_of old one)) (set_told terms before old) list (λ one h. same_from _ _ (told_still one (are.each one h))))
        are.raises));
  }
    where
      told_still : (one : RaisesId) → IsSet old one → map (raise_told terms before new) (raises_of old one) ≡ set_told terms before old one
      told_still one there = same_raises_told terms terms before before old new (grows_refl terms) (extends_self before) is.kept are.right (raises_of old one) (are.right.within (raises_of old one) (set_there old one there))

  pub together_if : {E : Type 0} (r : Result RaisesId E) (new : Raised) → IfOk r (IsMade terms before old new (flat_map (raises_of old) list)) → IfOk r (IsSetOf terms names before first new told)
  together_if (Ok set) new is = all_together new set is
  together_if (Err e) new is = tt

-- ---- the sets of nodes

module _ (terms : List Term) (names : List (List ℕ)) (all : Raised) (right : AreRaises terms names all) where
  none_gathered : AreGathered terms names all names all [] []
  none_gathered = record { right = right; named = extends_self names; kept = follows_refl all; each = λ one h. absurd h; raises = same_refl [] }

  set_again : (set : RaisesId) → IsSet all set → IsSetOf terms names names all all (set_told terms names all set) set
  set_again set there = record { right = right; named = extends_self names; kept = follows_refl all; there = there; raises = same_refl (set_told terms names all set) }

  nodes_gathered : (raised : ℕ → RaisesId) → ((n : ℕ) → IsSet all (raised n)) → (list : List RaisesId) (told : List Told) (nodes : List ℕ) → AreGathered terms names all names all list told
      → AreGathered terms names all names all (fold (λ made n. made ++ raised n ∷ []) list nodes) (told ++ flat_map (λ n. set_told terms names all (raised n)) nodes)
  nodes_gathered raised there list told [] are = none_more terms names all names all list told are
  nodes_gathered raised there list told (n ∷ ns) are =
      let its : List Told = set_told terms names all (raised n) in
      subst (λ (l : List Told). AreGathered terms names all names all (fold (λ made n. made ++ raised n ∷ []) list (n ∷ ns)) l) (append_assoc told its (flat_map (λ n. set_told terms names all (raised n)) ns))
      (nodes_gathered raised there (list ++ raised n ∷ []) (told ++ its) ns (one_more terms names all names all list told are names all (raised n) its (set_again (raised n) (there n))))

  pub parts_gathered : (raised : ℕ → RaisesId) → ((n : ℕ) → IsSet all (raised n)) → (list made : List RaisesId) (slice nodes : List ℕ) → list ≡ [] → slice ≡ nodes → made ≡ fold (λ made n. made ++ raised n ∷ []) list slice
      → AreGathered terms names all names all made (flat_map (λ n. set_told terms names all (raised n)) nodes)
  parts_gathered raised there list made slice nodes empty same are =
      subst (λ (l : List RaisesId). AreGathered terms names all names all l (flat_map (λ n. set_told terms names all (raised n)) nodes))
      (sym (are ∙ ap₂ (λ (l : List RaisesId) (ns : List ℕ). fold (λ made n. made ++ raised n ∷ []) l ns) empty same))
      (nodes_gathered raised there [] [] nodes none_gathered)

  -- the set of none
  pub none_told : IsSetOf terms names names all all [] nothing
  none_told = record {
    right = right;
    named = extends_self names;
    kept = follows_refl all;
    there = omega (arith, right.second);
    raises = same_from (set_told terms names all nothing) [] (ap (λ (o : Option (List Raise)). map (raise_told terms names all) (unwrap_or o [])) right.empty);
  }

-- ---- names and their numbers

pub first_at : (p : List ℕ → Bool) (xs : List (List ℕ)) → position_or_len p xs < length xs → p (get_or xs (position_or_len p xs) []) ≡ true
first_at p [] lt = absurd (omega (arith, lt))
first_at p (x ∷ xs) lt = by (p x) refl lt (first_at p xs)
  where
    by : (b : Bool) → p x ≡ b → cond (not b) (1 + position_or_len p xs) 0 < length (x ∷ xs) → (position_or_len p xs < length xs → p (get_or xs (position_or_len p xs) []) ≡ true)
        → p (get_or (x ∷ xs) (cond (not b) (1 + position_or_len p xs) 0) []) ≡ true
    by true is lt rest = is
    by false is lt rest = let next : 1 + position_or_len p xs ≡ suc (position_or_len p xs) = omega arith in ap (λ (k : ℕ). p (get_or (x ∷ xs) k [])) next ∙ rest (omega (arith, lt))

pub before_first : (p : List ℕ → Bool) (xs : List (List ℕ)) (k : ℕ) → k < position_or_len p xs → p (get_or xs k []) ≡ false
before_first p [] k lt = absurd (omega (arith, lt))
before_first p (x ∷ xs) k lt = by (p x) refl k lt (before_first p xs)
  where
    by : (b : Bool) → p x ≡ b → (k : ℕ) → k < cond (not b) (1 + position_or_len p xs) 0 → ((k : ℕ) → k < position_or_len p xs → p (get_or xs k []) ≡ false) → p (get_or (x ∷ xs) k []) ≡ false
    by true is k lt rest = absurd (omega (arith, lt))
    by false is zero lt rest = is
    by false is (suc k) lt rest = rest k (omega (arith, lt))

abbrev pub is_number : ℕ → Option NameId → Bool
is_number k (Some id) = k == id.0
is_number k None = false

module _ (names : List (List ℕ)) (apart : AreDistinct names) (k : ℕ) (within : k < length names) where
  abbrev its_name : List ℕ
  its_name = get_or names k []

  -- a kept name is this one just if it has its number
  pub number_same : (name : List ℕ) → is_number k (named names name) ≡ bytes_eq its_name name
  number_same name = by (nat_lt i (length names)) refl (bytes_eq its_name name) refl
    where
      i : ℕ
      i = position_or_len (bytes_eq name) names

      by : (b : Bool) → nat_lt i (length names) ≡ b → (c : Bool) → bytes_eq its_name name ≡ c → is_number k (id_of (cond b (Some i) None)) ≡ c
      by true there true same =
          let inside : i < length names = ltb-true i (length names) there in
          let at : name ≡ get_or names i [] = (bytes_eq-Decides name (get_or names i [])).0 (first_at (bytes_eq name) names inside) in
          eq-eqb k i (apart k i within inside ((bytes_eq-Decides its_name name).0 same ∙ at))
      by true there false other =
          let inside : i < length names = ltb-true i (length names) there in
          let at : name ≡ get_or names i [] = (bytes_eq-Decides name (get_or names i [])).0 (first_at (bytes_eq name) names inside) in
          ne_eqb k i (λ e. true≢false (sym ((bytes_eq-Decides its_name name).1 (ap (λ (j : ℕ). get_or names j []) e ∙ sym at)) ∙ other))
      by false gone true same =
          let outside : length names ≤ i = ltb-false i (length names) gone in
          absurd (true≢false (sym ((bytes_eq-Decides name its_name).1 (sym ((bytes_eq-Decides its_name name).0 same))) ∙ before_first (bytes_eq name) names k (omega (arith, outside, within))))
      by false gone false other = refl

  any_behind : (ids : List NameId) (id : NameId) → list_any (λ (other : NameId). k == other.0) (ids ++ id ∷ []) ≡ (list_any (λ (other : NameId). k == other.0) ids || k == id.0)
  any_behind [] id = by (k == id.0)
    where
      by : (b : Bool) → (b || false) ≡ b
      by true = refl
      by false = refl
  any_behind (x ∷ xs) id = by (k == x.0) (any_behind xs id)
    where
      by : (b : Bool) → list_any (λ (other : NameId). k == other.0) (xs ++ id ∷ []) ≡ (list_any (λ (other : NameId). k == other.0) xs || k == id.0)
          → (b || list_any (λ (other : NameId). k == other.0) (xs ++ id ∷ [])) ≡ ((b || list_any (λ (other : NameId). k == other.0) xs) || k == id.0)
      by true rest = refl
      by false rest = rest

  id_more : (ids : List NameId) (id : Option NameId) → list_any (λ (other : NameId). k == other.0) (with_id ids id) ≡ (list_any (λ (other : NameId). k == other.0) ids || is_number k id)
  id_more ids (Some id) = any_behind ids id
  id_more ids None = by (list_any (λ (other : NameId). k == other.0) ids)
    where
      by : (b : Bool) → b ≡ (b || false)
      by true = refl
      by false = refl

  -- the number is among those of names just if the name is one of them
  pub among_numbers : (ids : List NameId) (taken : List (List ℕ)) → list_any (λ (other : NameId). k == other.0) (numbers_behind names ids taken) ≡ (list_any (λ (other : NameId). k == other.0) ids || list_any (bytes_eq its_name) taken)
  among_numbers ids [] = by (list_any (λ (other : NameId). k == other.0) ids)
    where
      by : (b : Bool) → b ≡ (b || false)
      by true = refl
      by false = refl
  among_numbers ids (name ∷ rest) =
      among_numbers (with_number names ids name) rest
      ∙ ap (λ (b : Bool). b || list_any (bytes_eq its_name) rest) (id_more ids (named names name) ∙ ap (λ (b : Bool). list_any (λ (other : NameId). k == other.0) ids || b) (number_same name))
      ∙ or_assoc (list_any (λ (other : NameId). k == other.0) ids) (bytes_eq its_name name) (list_any (bytes_eq its_name) rest)
    where
      or_assoc : (a b c : Bool) → ((a || b) || c) ≡ (a || (b || c))
      or_assoc true b c = refl
      or_assoc false b c = refl

-- those of arms, one after the other
pub arms_numbered : (f : File) (kept : List (List ℕ)) (ids : List NameId) (arms : List ℕ) → numbers_of_arms f kept ids arms ≡ numbers_behind kept ids (flat_map (names_at f) arms)
arms_numbered f kept ids [] = refl
arms_numbered f kept ids (a ∷ arms) =
    arms_numbered f kept (numbers_behind kept ids (names_at f a)) arms
    ∙ sym (fold-append (with_number kept) ids (names_at f a) (flat_map (names_at f) arms))

pub taken_numbered : (f : File) (kept : List (List ℕ)) (n : ℕ) (arms : List ℕ) → numbers_taken f kept n arms ≡ numbers_behind kept [] (taken_at f n arms)
taken_numbered f kept n arms = by (kind_in f n)
  where
    by : (k : NodeKind) → numbers_as f k kept n arms ≡ numbers_behind kept [] (taken_as f k n arms)
    by kind.Resignal = refl
    by kind.File = arms_numbered f kept [] arms
    by _ = arms_numbered f kept [] arms

-- ---- what isn't taken

module _ (terms : List Term) (names : List (List ℕ)) (old : Raised) (right : AreRaises terms names old) (set : RaisesId) (there : IsSet old set) (ids : List NameId) (taken : List (List ℕ)) (same : HaveSame ids (numbers_behind names [] taken)) where
  test_same : (raise : Raise) → IsRaise names old raise → has_none_of ids raise ≡ not (is_named taken (raise_told terms names old raise))
  test_same raise is = ap not (same_any (λ (other : NameId). raise.name.0 == other.0) ids (numbers_behind names [] taken) same ∙ among_numbers names right.distinct raise.name.0 is.name [] taken)

  left_told : map (raise_told terms names old) (raises_without old set ids) ≡ told_without taken (set_told terms names old set)
  left_told =
      ap (map (raise_told terms names old)) (kept_alike (has_none_of ids) (λ raise. not (is_named taken (raise_told terms names old raise))) (raises_of old set) (λ raise h. test_same raise (right.within (raises_of old set) (set_there old set there) raise h)))
      ∙ sym (kept_mapped (raise_told terms names old) (λ raise. not (is_named taken raise)) (raises_of old set))

  without_told : (new : Raised) (left : RaisesId) → IsMade terms names old new (raises_without old set ids) left → IsSetOf terms names names old new (told_without taken (set_told terms names old set)) left
  without_told new left is = record {
    right = is.right;
    named = extends_self names;
    kept = is.kept;
    there = is.there;
    raises =
        same_trans (set_told terms names new left) (map (raise_told terms names new) (raises_without old set ids)) _
        (same_mapped (raise_told terms names new) (raises_of new left) (raises_without old set ids) is.same)
        (same_from _ _ (told_still ∙ left_told));
  }
    where
      told_still : map (raise_told terms names new) (raises_without old set ids) ≡ map (raise_told terms names old) (raises_without old set ids)
      told_still =
          same_raises_told terms terms names names old new (grows_refl terms) (extends_self names) is.kept right (raises_without old set ids)
          (λ raise h. right.within (raises_of old set) (set_there old set there) raise (from_kept (has_none_of ids) (raises_of old set) raise h).0)

module _ {E : Type 0} (r : Result RaisesId E) (f : File) (n : ℕ) (arms : List ℕ) (terms : List Term) (names : List (List ℕ)) (old new : Raised) (right : AreRaises terms names old) where
  -- of the names in order
  pub left_if : (set : RaisesId) → IsSet old set → (ids slice : List NameId) → slice ≡ ids → AscendByNumber ids → HaveSame ids (numbers_taken f names n arms)
      → ((terms : List Term) (known : List (List ℕ)) → AreRaises terms known old → IsSet old set → AscendByNumber slice → IfOk r (IsMade terms known old new (raises_without old set slice)))
      → IfOk r (IsSetOf terms names names old new (told_without (taken_at f n arms) (set_told terms names old set)))
  left_if set there ids slice are up same gives =
      by r (subst (λ (l : List NameId). IfOk r (IsMade terms names old new (raises_without old set l))) are (gives terms names right there (subst AscendByNumber (sym are) up)))
    where
      by : (r : Result RaisesId E) → IfOk r (IsMade terms names old new (raises_without old set ids)) → IfOk r (IsSetOf terms names names old new (told_without (taken_at f n arms) (set_told terms names old set)))
      by (Ok left) is = without_told terms names old right set there ids (taken_at f n arms) (subst (HaveSame ids) (taken_numbered f names n arms) same) new left is
      by (Err e) is = tt

  -- where no arm takes all others
  pub named_if : (raises : List Told) → list_any (is_others f) arms ≡ false → IfOk r (IsSetOf terms names names old new (told_without (taken_at f n arms) raises)) → IfOk r (IsSetOf terms names names old new (passed_on f n arms raises))
  named_if raises none is = subst (λ (b : Bool). IfOk r (IsSetOf terms names names old new (if b then [] else told_without (taken_at f n arms) raises))) (sym none) is

  -- of what is in the table
  pub passed_if : (set its : RaisesId) → set ≡ its → IsSet old its → ((terms : List Term) → AreRaises terms names old → IsSet old set → IfOk r (IsSetOf terms names names old new (passed_on f n arms (set_told terms names old set))))
      → IfOk r (IsSetOf terms names names old new (passed_on f n arms (set_told terms names old its)))
  passed_if set its same there gives =
      subst (λ (s : RaisesId). IfOk r (IsSetOf terms names names old new (passed_on f n arms (set_told terms names old s)))) same
      (gives terms right (subst (λ (s : RaisesId). IsSet old s) (sym same) there))

-- where one takes all
pub others_passed : (f : File) (n : ℕ) (arms : List ℕ) (terms : List Term) (names : List (List ℕ)) (all : Raised) → AreRaises terms names all → (raises : List Told) → list_any (is_others f) arms ≡ true → IsSetOf terms names names all all (passed_on f n arms raises) nothing
others_passed f n arms terms names all right raises others =
    subst (λ (b : Bool). IsSetOf terms names names all all (if b then [] else told_without (taken_at f n arms) raises) nothing) (sym others) (none_told terms names all right)

-- ---- what is raised only if

module _ (b : Bool) (P : List Told → Type 0) (told : List Told) where
  pub if_so : b ≡ true → P told → P (if b then told else [])
  if_so is p = subst (λ (b : Bool). P (if b then told else [])) (sym is) p

  pub if_not : b ≡ false → P [] → P (if b then told else [])
  if_not is p = subst (λ (b : Bool). P (if b then told else [])) (sym is) p

-- ---- the tables of nodes stay

pub but_on : (a b c : Facts) → StayBut a b → StayBut b c → StayBut a c
but_on a b c s t = record {
  types = t.types ∙ s.types;
  invocations = t.invocations ∙ s.invocations;
  invoked = t.invoked ∙ s.invoked;
  raises = t.raises ∙ s.raises;
  founds = t.founds ∙ s.founds;
  asked = t.asked ∙ s.asked;
  wished = t.wished ∙ s.wished;
  given = t.given ∙ s.given;
  shown = t.shown ∙ s.shown;
}

same_items : {A Z : Type 0} (old new : Vec A Z) → new ≡ old → new.items ≡ old.items
same_items {A} {Z} old new e = ap (λ (v : Vec A Z). v.items) e

module _ (old new : Facts) (s : StayBut old new) where
  operation_still : (its : Operation) → operation_type new its ≡ operation_type old its
  operation_still operation.Missing = refl
  operation_still (operation.Found id) = ap (λ (l : List Found). (found_at l id).of) (same_items old.finding.founds new.finding.founds s.founds)
  operation_still (operation.Object of) = refl

  called_still : (children : List ℕ) → called_in new children ≡ called_in old children
  called_still [] = refl
  called_still (n ∷ ns) = ap (λ (l : List (Option TypeId)). optional (slice_get l n)) (same_items old.types new.types s.types)

  first_still : (its : Applied) → first_operation new its ≡ first_operation old its
  first_still (applied.Invoked first second) = operation_still first.operation
  first_still applied.Nothing = refl
  first_still (applied.Named its) = refl

  pub second_still : (its : Applied) → second_operation new its ≡ second_operation old its
  second_still (applied.Invoked first (Some second)) = operation_still second.operation
  second_still (applied.Invoked first None) = refl
  second_still applied.Nothing = refl
  second_still (applied.Named its) = refl

  pub invoked_still : (f : File) (its : Applied) (n : ℕ) → first_invoked f new its n ≡ first_invoked f old its n
  invoked_still f its n = by (kind_in f n)
    where
      by : (k : NodeKind) → first_as f new k its n ≡ first_as f old k its n
      by kind.Call = called_still (children_in f n)
      by kind.File = first_still its
      by _ = first_still its

-- ---- all that a node raises

module _ (f : File) (terms : List Term) (old middle new : Facts) (its : Applied) (n : ℕ) (all : List RaisesId) where
  -- behind what its parts raise, with what these types of routines raise
  abbrev pub AreAll : List Told → Option TypeId → Option TypeId → Type 0
  AreAll told a b = AreGathered terms old.finding.words old.raising new.finding.words new.raising all (((told ++ failing_told f n) ++ invoked_told terms a) ++ invoked_told terms b)

  abbrev pub by_parts : List Told
  by_parts = flat_map (raised_told terms old) (parts f n) ++ passed_told f terms old n

  all_gathered : StayBut old middle → AreAll by_parts (first_invoked f middle its n) (second_operation middle its) → AreAll by_parts (first_invoked f old its n) (second_operation old its)
  all_gathered kept are =
      subst (λ (o : Option TypeId). AreAll by_parts (first_invoked f old its n) o) (second_still old middle kept its)
      (subst (λ (o : Option TypeId). AreAll by_parts o (second_operation middle its)) (invoked_still old middle kept f its n) are)

  pub done_if : {E : Type 0} (r : Result RaisesId E) (last : Raised) (some : List RaisesId) → IsBelowIf (length terms) (first_invoked f old its n) → IsBelowIf (length terms) (second_operation old its) → StayBut old middle
      → AreGathered terms old.finding.words old.raising middle.finding.words middle.raising some by_parts
      → ((told : List Told) → IsBelowIf (length terms) (first_invoked f middle its n) → IsBelowIf (length terms) (second_operation middle its) → AreGathered terms old.finding.words old.raising middle.finding.words middle.raising some told → AreAll told (first_invoked f middle its n) (second_operation middle its))
      → ((terms : List Term) (names : List (List ℕ)) → AreRaises terms names new.raising → ((one : RaisesId) → Has all one → IsSet new.raising one) → IfOk r (IsMade terms names new.raising last (flat_map (raises_of new.raising) all)))
      → IfOk r (IsSetOf terms old.finding.words new.finding.words old.raising last (done_told f terms old its n))
  done_if r last some one two kept gathered own together =
      let whole = all_gathered kept
      (own by_parts (subst (λ (o : Option TypeId). IsBelowIf (length terms) o) (sym (invoked_still old middle kept f its n)) one)
      (subst (λ (o : Option TypeId). IsBelowIf (length terms) o) (sym (second_still old middle kept its)) two) gathered) in
      together_if terms old.finding.words old.raising new.finding.words new.raising all (done_told f terms old its n) whole r last (together terms new.finding.words whole.right whole.each)
