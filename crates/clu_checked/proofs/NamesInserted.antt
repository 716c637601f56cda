-- Names that are put into ascending order, each once, come to the same list from either end.
use Rattle.std.proofs.Common.{◌≡◌, ◌∙◌, Bool, true, false, if◌then◌else◌, List, [], ◌∷◌, fold, refl, sym, ap, subst}
use Rattle.std.specs.Prelude.{bytes_eq}
use Rattle.std.specs.BTreeSet.{insert_key}
use Rattle.std.specs.Cmp.{IsTotalOrder, alike_right}
use Rattle.std.specs.Cmp.Lexicographic.{nat_list_cmp_total, slice_cmp}
use Rattle.std.specs.Ordering.{is_eq, is_gt, match_ordering, nat_cmp, ordering_reverse}
use Rattle.std.specs.declared.cmp.Ordering.{Ordering}
use Rattle.std.specs.declared.cmp.Ordering.TheVariants.{Equal, Greater, Less}
use Rattle.std.proofs.lemmas.Map.Text.{is_eq-slice_cmp}
use Rattle.clu_base.proofs.Lists.{same_bytes}
use Rattle.clu_syntax.specs.Syntax.{Identifier}
use Rattle.clu_checking.specs.Named.{ascending, with_name}

module _ {K : Type 0} {R : K → K → Ordering} (o : IsTotalOrder R) where
  abbrev put : List K → K → List K
  put = insert_key R

  -- ---- where a key is put

  before : (a x : K) (xs : List K) → R a x ≡ Less → put (x ∷ xs) a ≡ a ∷ x ∷ xs
  before a x xs e = ap (λ (r : Ordering). match_ordering r (a ∷ x ∷ xs) (x ∷ xs) (x ∷ put xs a)) e

  beside : (a x : K) (xs : List K) → R a x ≡ Equal → put (x ∷ xs) a ≡ x ∷ xs
  beside a x xs e = ap (λ (r : Ordering). match_ordering r (a ∷ x ∷ xs) (x ∷ xs) (x ∷ put xs a)) e

  behind : (a x : K) (xs : List K) → R a x ≡ Greater → put (x ∷ xs) a ≡ x ∷ put xs a
  behind a x xs e = ap (λ (r : Ordering). match_ordering r (a ∷ x ∷ xs) (x ∷ xs) (x ∷ put xs a)) e

  -- ---- two keys, in either order

  turned : (a b : K) → R a b ≡ Less → R b a ≡ Greater
  turned a b e = o.antisymm b a ∙ ap ordering_reverse e

  turned_back : (a b : K) → R a b ≡ Greater → R b a ≡ Less
  turned_back a b e = o.antisymm b a ∙ ap ordering_reverse e

  less_first : (a b : K) → R a b ≡ Less → (xs : List K) → put (put xs a) b ≡ put (put xs b) a
  less_first a b l [] = behind b a [] (turned a b l) ∙ sym (before a b [] l)
  less_first a b l (x ∷ xs) = by (R a x) refl (less_first a b l xs)
    where
      -- the lesser one stands first
      in_front : R a x ≡ Less → (r : Ordering) → R b x ≡ r → a ∷ put (x ∷ xs) b ≡ put (put (x ∷ xs) b) a
      in_front e Less f = ap (λ (ys : List K). a ∷ ys) (before b x xs f) ∙ sym (before a b (x ∷ xs) l) ∙ ap (λ (ys : List K). put ys a) (sym (before b x xs f))
      in_front e Equal f = ap (λ (ys : List K). a ∷ ys) (beside b x xs f) ∙ sym (before a x xs e) ∙ ap (λ (ys : List K). put ys a) (sym (beside b x xs f))
      in_front e Greater f = ap (λ (ys : List K). a ∷ ys) (behind b x xs f) ∙ sym (before a x (put xs b) e) ∙ ap (λ (ys : List K). put ys a) (sym (behind b x xs f))

      by : (r : Ordering) → R a x ≡ r → put (put xs a) b ≡ put (put xs b) a → put (put (x ∷ xs) a) b ≡ put (put (x ∷ xs) b) a
      by Less e more = ap (λ (ys : List K). put ys b) (before a x xs e) ∙ behind b a (x ∷ xs) (turned a b l) ∙ in_front e (R b x) refl
      by Equal e more =
          let f : R b x ≡ Greater = sym (alike_right o a x b e) ∙ turned a b l in
          ap (λ (ys : List K). put ys b) (beside a x xs e) ∙ behind b x xs f ∙ sym (beside a x (put xs b) e) ∙ ap (λ (ys : List K). put ys a) (sym (behind b x xs f))
      by Greater e more =
          let f : R b x ≡ Greater = turned x b (o.trans x a b (turned_back a x e) l) in
          ap (λ (ys : List K). put ys b) (behind a x xs e) ∙ behind b x (put xs a) f ∙ ap (λ (ys : List K). x ∷ ys) more
          ∙ sym (behind a x (put xs b) e) ∙ ap (λ (ys : List K). put ys a) (sym (behind b x xs f))

-- ---- names

abbrev pub put_name : List Identifier → Identifier → List Identifier
put_name = insert_key (slice_cmp nat_cmp)

either_order : (a b : Identifier) (names : List Identifier) → put_name (put_name names a) b ≡ put_name (put_name names b) a
either_order a b names = by (slice_cmp nat_cmp a b) refl
  where
    by : (r : Ordering) → slice_cmp nat_cmp a b ≡ r → put_name (put_name names a) b ≡ put_name (put_name names b) a
    by Less e = less_first nat_list_cmp_total a b e names
    by Equal e =
        let same : a ≡ b = same_bytes a b (sym (is_eq-slice_cmp a b) ∙ ap is_eq e) in
        subst (λ (c : Identifier). put_name (put_name names a) c ≡ put_name (put_name names c) a) same refl
    by Greater e = sym (less_first nat_list_cmp_total b a (turned_back nat_list_cmp_total a b e) names)

put_so : (name : Identifier) (names : List Identifier) → put_name names name ≡ with_name name names
put_so name [] = refl
put_so name (other ∷ names) = by (slice_cmp nat_cmp name other) (bytes_eq name other) (is_eq-slice_cmp name other) (put_so name names)
  where
    by : (r : Ordering) (same : Bool) → is_eq r ≡ same → put_name names name ≡ with_name name names →
        match_ordering r (name ∷ other ∷ names) (other ∷ names) (other ∷ put_name names name) ≡ (if same then other ∷ names else if is_gt r then other ∷ with_name name names else name ∷ other ∷ names)
    by Less true e more = cc
    by Less false e more = refl
    by Equal true e more = refl
    by Equal false e more = cc
    by Greater true e more = cc
    by Greater false e more = ap (λ (ns : List Identifier). other ∷ ns) more

one_later : (xs names : List Identifier) (name : Identifier) → fold put_name (put_name names name) xs ≡ put_name (fold put_name names xs) name
one_later [] names name = refl
one_later (x ∷ xs) names name = ap (λ (ns : List Identifier). fold put_name ns xs) (either_order name x names) ∙ one_later xs (put_name names x) name

pub from_either_end : (xs : List Identifier) → fold put_name [] xs ≡ ascending xs
from_either_end [] = refl
from_either_end (x ∷ xs) = one_later xs [] x ∙ ap (λ (ns : List Identifier). put_name ns x) (from_either_end xs) ∙ put_so x (ascending xs)
