-- Lists after their counts: what is written of them is read again, and what was read is written as the same bytes.
use Rattle.std.proofs.Common.{◌≡◌, ℕ, zero, suc, ◌^◌, ◌<◌, ◌≤◌, min, Bool, true, List, [], ◌∷◌, ◌++◌, length, Ok, refl, sym, ap, subst, ◌∙◌, append_assoc, arith}
use Rattle.std.proofs.lemmas.Bool.{leb-true, le-leb, and_parts, and_from}
use Rattle.std.proofs.lemmas.List.{append-nil}
use Rattle.std.specs.List.{flat_map, list_all}
use Rattle.byteorder.specs.Endian.{little_bytes}
use Rattle.clu_specs.specs.Reading.{Read}
use Rattle.clu_specs.proofs.Outcomes.{and_then}
use Rattle.clu_format.specs.Fields.{number_read, count_bytes}
use Rattle.clu_format.specs.Lists.{counted}
use Rattle.clu_object.specs.ObjectFile.{list_bytes}
use Rattle.clu_object.specs.ObjectReading.{list_read}
use Rattle.clu_object.specs.Objects.{is_number, is_list}
use Rattle.clu_object.proofs.FieldLaws.{value_is, behind_is, AreBytes, number_again, number_spelled}

-- each item is good after those before it
abbrev pub AllGood : {X : Type 0} → (List X → X → Type 0) → List X → List X → Type 0
AllGood Good made [] = Unit {0}
AllGood Good made (x ∷ xs) = Good made x × AllGood Good (made ++ x ∷ []) xs

-- what was read of a list: the items, and what they are written as
pub record ItemsRead {X : Type 0} (bytes_of : X → List ℕ) (Good : List X → X → Type 0) (n : ℕ) (made : List X) (bytes : List ℕ) (all : List X) (rest : List ℕ) : Type 0 where
  pub items : List X
  pub all_is : all ≡ made ++ items
  pub count : length items ≡ n
  pub written : bytes ≡ flat_map bytes_of items ++ rest
  pub good : AllGood Good made items
  pub are_bytes : AreBytes rest

module _ {X : Type 0} (item : List X → List ℕ → Read X) (bytes_of : X → List ℕ) (Good : List X → X → Type 0) where
  pub counted_again : ((made : List X) (x : X) (rest : List ℕ) → Good made x → item made (bytes_of x ++ rest) ≡ Ok (x, rest))
      → (made xs : List X) (rest : List ℕ) → AllGood Good made xs → counted item (length xs) made (flat_map bytes_of xs ++ rest) ≡ Ok (made ++ xs, rest)
  unfolding counted
  counted_again again made [] rest good = rw (append-nil made) refl
  counted_again again made (x ∷ xs) rest good =
      let more : List ℕ = flat_map bytes_of xs ++ rest in
      let here : item made (bytes_of x ++ more) ≡ Ok (x, more) = again made x more good.0 in
      let behind : counted item (length xs) (made ++ x ∷ []) more ≡ Ok ((made ++ x ∷ []) ++ xs, rest) = counted_again again (made ++ x ∷ []) xs rest good.1 in
      rw (append_assoc (bytes_of x) (flat_map bytes_of xs) rest, here) (behind ∙ ap (λ (ys : List X). Ok (ys, rest)) (append_assoc made (x ∷ []) xs))

  pub list_again : ((made : List X) (x : X) (rest : List ℕ) → Good made x → item made (bytes_of x ++ rest) ≡ Ok (x, rest))
      → (xs : List X) (rest : List ℕ) → is_number (length xs) ≡ true → AllGood Good [] xs → list_read item (list_bytes bytes_of xs ++ rest) ≡ Ok (xs, rest)
  list_again again xs rest few good =
      let le : length xs ≤ 0xffff_ffff = leb-true (length xs) 0xffff_ffff few in
      let least : min (length xs) 0xffff_ffff ≡ length xs = omega arith in
      let more : List ℕ = flat_map bytes_of xs ++ rest in
      let count : number_read 4 (little_bytes 4 (length xs) ++ more) ≡ Ok (length xs, more) = number_again 4 (length xs) more (omega arith) in
      rw (append_assoc (count_bytes (length xs)) (flat_map bytes_of xs) rest, least, count) (counted_again again [] xs rest good)

  module _ (spelled : (made : List X) (bytes : List ℕ) (x : X) (rest : List ℕ) → AreBytes bytes → item made bytes ≡ Ok (x, rest) → (bytes ≡ bytes_of x ++ rest) × Good made x × AreBytes rest) where
    pub counted_spelled : (n : ℕ) (made : List X) (bytes : List ℕ) (all : List X) (rest : List ℕ) → AreBytes bytes → counted item n made bytes ≡ Ok (all, rest) → ItemsRead bytes_of Good n made bytes all rest
    unfolding counted
    counted_spelled zero made bytes all rest h e =
        let all_is : made ≡ all = value_is _ _ (e) in
        let rest_is : bytes ≡ rest = behind_is _ _ (e) in
        record {
          items = [];
          all_is = sym all_is ∙ sym (append-nil made);
          count = refl;
          written = rest_is;
          good = tt;
          are_bytes = rw rest_is at h;
        }
    counted_spelled (suc n) made bytes all rest h e =
        let r = and_then (item made bytes) (λ (x : X × List ℕ). counted item n (made ++ x.0 ∷ []) x.1) (all, rest) e in
        let one = spelled made bytes r.0.0 r.0.1 h r.1 in
        let more = counted_spelled n (made ++ r.0.0 ∷ []) r.0.1 all rest one.2 r.2 in
        record {
          items = r.0.0 ∷ more.items;
          all_is = more.all_is ∙ append_assoc made (r.0.0 ∷ []) more.items;
          count = ap suc more.count;
          written = one.0 ∙ ap (λ (bs : List ℕ). bytes_of r.0.0 ++ bs) more.written ∙ sym (append_assoc (bytes_of r.0.0) (flat_map bytes_of more.items) rest);
          good = (one.1, more.good);
          are_bytes = more.are_bytes;
        }

    pub list_spelled : (bytes : List ℕ) (all : List X) (rest : List ℕ) → AreBytes bytes → list_read item bytes ≡ Ok (all, rest)
        → (bytes ≡ list_bytes bytes_of all ++ rest) × (is_number (length all) ≡ true) × AllGood Good [] all × AreBytes rest
    list_spelled bytes all rest h e =
        let r = and_then (number_read 4 bytes) (λ (x : ℕ × List ℕ). counted item x.0 [] x.1) (all, rest) e in
        let count = number_spelled 4 bytes r.0.0 r.0.1 h r.1 in
        let read = counted_spelled r.0.0 [] r.0.1 all rest count.are_bytes r.2 in
        let all_is : all ≡ read.items = read.all_is in
        let size : length all ≡ r.0.0 = ap length all_is ∙ read.count in
        let small : r.0.0 < 256 ^ 4 = count.small in
        let le : length all ≤ 0xffff_ffff = omega (arith, size, small) in
        let least : min (length all) 0xffff_ffff ≡ r.0.0 = omega (arith, size, le) in
        let front : count_bytes (length all) ≡ little_bytes 4 r.0.0 = ap (little_bytes 4) least in
        let behind : r.0.1 ≡ flat_map bytes_of all ++ rest = read.written ∙ ap (λ (xs : List X). flat_map bytes_of xs ++ rest) (sym all_is) in (
          count.written ∙ ap (λ (bs : List ℕ). little_bytes 4 r.0.0 ++ bs) behind ∙ ap (λ (bs : List ℕ). bs ++ (flat_map bytes_of all ++ rest)) (sym front) ∙ sym (append_assoc (count_bytes (length all)) (flat_map bytes_of all) rest),
          le-leb (length all) 0xffff_ffff le,
          subst (AllGood Good []) (sym all_is) read.good,
          read.are_bytes,
        )

-- Items that a test tells, whatever stands before them.

abbrev pub Passes : {X : Type 0} → (X → Bool) → List X → X → Type 0
Passes test made x = test x ≡ true

pub all_good : {X : Type 0} (test : X → Bool) (made xs : List X) → list_all test xs ≡ true → AllGood (Passes test) made xs
all_good test made [] e = tt
all_good test made (x ∷ xs) e = let h = and_parts (test x) (list_all test xs) e in (h.0, all_good test (made ++ x ∷ []) xs h.1)

pub good_all : {X : Type 0} (test : X → Bool) (made xs : List X) → AllGood (Passes test) made xs → list_all test xs ≡ true
good_all test made [] h = refl
good_all test made (x ∷ xs) h = and_from (test x) (list_all test xs) h.0 (good_all test (made ++ x ∷ []) xs h.1)

-- the same for a list with its count
pub list_good : {X : Type 0} (test : X → Bool) (xs : List X) → is_list test xs ≡ true → (is_number (length xs) ≡ true) × AllGood (Passes test) [] xs
list_good test xs e = let h = and_parts (is_number (length xs)) (list_all test xs) e in (h.0, all_good test [] xs h.1)

pub good_list : {X : Type 0} (test : X → Bool) (xs : List X) → is_number (length xs) ≡ true → AllGood (Passes test) [] xs → is_list test xs ≡ true
good_list test xs few good = and_from (is_number (length xs)) (list_all test xs) few (good_all test [] xs good)
