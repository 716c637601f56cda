-- Bytes that are read as an image are a file of it.
use Rattle.std.proofs.Common.{◌≡◌, ℕ, zero, suc, ◌+◌, ◌-◌, ◌*◌, ◌%◌, ◌==◌, ◌^◌, ◌<◌, ◌≤◌, ◌&&◌, nat_lt, nat_le, nat_eq, Bool, true, false, List, [], ◌∷◌, ◌++◌, length, take, drop, get_or, codes, Option, Some, None, unwrap_or, Result, Ok, Err, refl, sym, ap, subst, ◌∙◌, append_assoc, arith, length-drop}
use Rattle.std.specs.List.{flat_map, starts_with}
use Rattle.std.specs.Option.{option_map_or}
use Rattle.std.proofs.lemmas.Bool.{leb-true, ltb-true, le-ltb, eqb-true, and_parts}
use Rattle.std.proofs.lemmas.List.{length-take-le, take-append-drop, drop-drop, get_or_default}
use Rattle.std.proofs.lemmas.List.Elements.{All-nil, All-cons}
use Rattle.byteorder.specs.Endian.{little_number}
use Rattle.clu_base.specs.Fields.{field_at}
use Rattle.clu_specs.proofs.Outcomes.{ok_same}
use Rattle.clu_image.specs.Faults.{passes, is_version, is_size, entry_of, words_of, fixed_size_of, area_size_of, area_size_at, code_at, fixed_at, area_at, end_of, fault_of}
use Rattle.clu_image.specs.ImageFile.{number_bytes, IsFileOf}
use Rattle.clu_image.specs.Parts.{HasContents}
use Rattle.clu_image.proofs.FileLemmas.{first_fault-head}
use Rattle.clu_image.proofs.FileOfContents.{file_of_contents}
use Rattle.clu_format.specs.Fields.{number_read}
use Rattle.clu_object.proofs.FieldLaws.{AreBytes, bytes_behind, number_spelled, NumberRead}
use Rattle.rv_isa.specs.Image.{AreWords, Contents, IsImage, max_words, max_bytes}
use Rattle.rv_isa.specs.Image.{AreBytes as AllBytes}
use Rattle.clu_library.specs.ImageReading.{numbers_in, image_of, image_by, image_read}

-- Bytes.

byte_before : (x : ℕ) (xs : List ℕ) → x < 256 → AreBytes xs → AreBytes (x ∷ xs)
byte_before x xs small are = λ k. at k
  where
    at : (k : ℕ) → get_or (x ∷ xs) k 0 < 256
    at zero = small
    at (suc k) = are k

pub bytes_front : (xs ys : List ℕ) → AreBytes (xs ++ ys) → AreBytes xs
bytes_front [] ys h = λ k. omega arith
bytes_front (x ∷ xs) ys h = byte_before x xs (h 0) (bytes_front xs ys (λ k. h (suc k)))

all_bytes : (b : List ℕ) → AreBytes b → AllBytes b
all_bytes b h = λ k d l. rw (get_or_default b k d 0 l) (h k)

-- Numbers.

number_first : (bytes : List ℕ) → 4 ≤ length bytes → AreBytes bytes → NumberRead 4 bytes (little_number 4 (take 4 bytes)) (drop 4 bytes)
number_first bytes le are =
    let enough : nat_lt (length bytes) 4 ≡ false = le-ltb (length bytes) 4 le in
    number_spelled 4 bytes (little_number 4 (take 4 bytes)) (drop 4 bytes) are (rw enough refl)

numbers_count : (n : ℕ) (bytes : List ℕ) → length (numbers_in n bytes) ≡ n
numbers_count zero bytes = refl
numbers_count (suc n) bytes = ap suc (numbers_count n (drop 4 bytes))

numbers_small : (n : ℕ) (bytes : List ℕ) → 4 * n ≤ length bytes → AreBytes bytes → AreWords (numbers_in n bytes)
numbers_small zero bytes le are = All-nil (λ n. n < 2 ^ 32)
numbers_small (suc n) bytes le are =
    let first = number_first bytes (omega (arith, le)) are in
    All-cons (λ n. n < 2 ^ 32) (little_number 4 (take 4 bytes)) (numbers_in n (drop 4 bytes)) first.small (numbers_small n (drop 4 bytes) (omega (arith, le, length-drop 4 bytes)) first.are_bytes)

numbers_written : (n : ℕ) (bytes : List ℕ) → 4 * n ≤ length bytes → AreBytes bytes → flat_map number_bytes (numbers_in n bytes) ++ drop (4 * n) bytes ≡ bytes
numbers_written zero bytes le are = refl
numbers_written (suc n) bytes le are =
    let x : ℕ = little_number 4 (take 4 bytes) in
    let more : List ℕ = drop 4 bytes in
    let others : List ℕ = flat_map number_bytes (numbers_in n more) in
    let first = number_first bytes (omega (arith, le)) are in
    let behind : others ++ drop (4 * n) more ≡ more = numbers_written n more (omega (arith, le, length-drop 4 bytes)) first.are_bytes in
    let places : 4 * suc n ≡ 4 + 4 * n = omega arith in
    let last : drop (4 * suc n) bytes ≡ drop (4 * n) more = ap (λ (k : ℕ). drop k bytes) places ∙ sym (drop-drop (4 * n) 4 bytes) in
    append_assoc (number_bytes x) others (drop (4 * suc n) bytes) ∙ ap (λ (bs : List ℕ). number_bytes x ++ (others ++ bs)) last ∙ ap (λ (bs : List ℕ). number_bytes x ++ bs) behind ∙ sym first.written

-- The parts of an image, by their sizes.

record PartsRead (words fixed area : ℕ) (rest : List ℕ) (i : Contents) : Type 0 where
  pub words_are : length i.code ≡ words
  pub fixed_is : length i.fixed ≡ fixed
  pub area_is : length i.area ≡ area
  pub written : rest ≡ flat_map number_bytes i.code ++ i.fixed ++ i.area
  pub code_words : AreWords i.code
  pub fixed_bytes : AllBytes i.fixed
  pub area_bytes : AllBytes i.area

parts_read : (entry words fixed area : ℕ) (rest : List ℕ) → AreBytes rest → length rest ≡ 4 * words + fixed + area → PartsRead words fixed area rest (image_of entry words fixed rest)
parts_read entry words fixed area rest are size =
    let code : List ℕ = flat_map number_bytes (numbers_in words rest) in
    let behind : List ℕ = drop (4 * words) rest in
    let last : List ℕ = drop (4 * words + fixed) rest in
    let enough : 4 * words ≤ length rest = omega (arith, size) in
    let behind_size : length behind ≡ fixed + area = omega (arith, size, length-drop (4 * words) rest) in
    let are_behind : AreBytes behind = bytes_behind (4 * words) rest are in
    let cut : take fixed behind ++ drop fixed behind ≡ behind = take-append-drop fixed behind in
    let last_is : drop fixed behind ≡ last = drop-drop fixed (4 * words) rest in
    let whole : code ++ behind ≡ rest = numbers_written words rest enough are in
    record {
      words_are = numbers_count words rest;
      fixed_is = length-take-le fixed behind (omega (arith, behind_size));
      area_is = omega (arith, size, length-drop (4 * words + fixed) rest);
      written = sym whole ∙ ap (λ (bs : List ℕ). code ++ bs) (sym cut) ∙ ap (λ (bs : List ℕ). code ++ (take fixed behind ++ bs)) last_is ∙ sym (append_assoc code (take fixed behind) last);
      code_words = numbers_small words rest enough are;
      fixed_bytes = all_bytes (take fixed behind) (bytes_front (take fixed behind) (drop fixed behind) (subst AreBytes (sym cut) are_behind));
      area_bytes = all_bytes last (bytes_behind (4 * words + fixed) rest are);
    }

-- Fields that are good are there.

there : (test : ℕ → Bool) (o : Option ℕ) → passes test o ≡ true → (n : ℕ) × (o ≡ Some n) × (test n ≡ true)
there test None h = absurd (cc)
there test (Some n) h = (n, refl, h)

size_is : (before n : ℕ) → is_size before n ≡ true → (n % 8 ≡ 0) × (before + n ≤ max_bytes)
size_is before n h = let parts = and_parts (n % 8 == 0) (nat_le (before + n) max_bytes) h in (eqb-true (n % 8) 0 parts.0, leb-true (before + n) max_bytes parts.1)

value_of : (o : Option ℕ) (n : ℕ) → o ≡ Some n → unwrap_or o 0 ≡ n
value_of o n e = ap (λ (o : Option ℕ). unwrap_or o 0) e

-- the sizes are those of the bytes behind the head
sizes_are : (at words fixed area w f a len size : ℕ) → words ≡ w → fixed ≡ f → area ≡ a → nat_le (at + 4 * words + fixed + area) len ≡ true → nat_le len (at + 4 * words + fixed + area) ≡ true → size ≡ len - at → size ≡ 4 * w + f + a
sizes_are at words fixed area w f a len size p q r least most is = omega (arith, p, q, r, is, leb-true (at + 4 * words + fixed + area) len least, leb-true len (at + 4 * words + fixed + area) most)

good_read : (b : List ℕ) → AreBytes b → fault_of b ≡ None → IsFileOf b (image_of (unwrap_or (entry_of b) 0) (unwrap_or (words_of b) 0) (unwrap_or (fixed_size_of b) 0) (drop (code_at b) b))
good_read b are good =
    let mark = first_fault-head (starts_with nat_eq b (codes "CLUI")) 0 _ good in
    let version = first_fault-head (passes is_version (field_at 4 b 4)) 4 _ mark.1 in
    let enters = first_fault-head (passes (λ entry. option_map_or (λ words. nat_lt entry words) (words_of b) true) (entry_of b)) 8 _ version.1 in
    let few = first_fault-head (passes (λ words. nat_le words max_words) (words_of b)) 12 _ enters.1 in
    let fixed_good = first_fault-head (passes (is_size 0) (fixed_size_of b)) 16 _ few.1 in
    let area_good = first_fault-head (passes (is_size (unwrap_or (fixed_size_of b) 0)) (area_size_of b)) (area_size_at b) _ fixed_good.1 in
    let code_there = first_fault-head (nat_le (fixed_at b) (length b)) (code_at b) _ area_good.1 in
    let fixed_there = first_fault-head (nat_le (area_at b) (length b)) (fixed_at b) _ code_there.1 in
    let area_there = first_fault-head (nat_le (end_of b) (length b)) (area_at b) _ fixed_there.1 in
    let ended = first_fault-head (nat_le (length b) (end_of b)) (end_of b) _ area_there.1 in
    let entry = there (λ entry. option_map_or (λ words. nat_lt entry words) (words_of b) true) (entry_of b) enters.0 in
    let words = there (λ words. nat_le words max_words) (words_of b) few.0 in
    let fixed = there (is_size 0) (fixed_size_of b) fixed_good.0 in
    let area = there (is_size (unwrap_or (fixed_size_of b) 0)) (area_size_of b) area_good.0 in
    let words_are : unwrap_or (words_of b) 0 ≡ words.0 = value_of (words_of b) words.0 words.1 in
    let fixed_is : unwrap_or (fixed_size_of b) 0 ≡ fixed.0 = value_of (fixed_size_of b) fixed.0 fixed.1 in
    let area_is : unwrap_or (area_size_of b) 0 ≡ area.0 = value_of (area_size_of b) area.0 area.1 in
    let before_end : nat_lt entry.0 words.0 ≡ true = subst (λ (o : Option ℕ). option_map_or (λ words. nat_lt entry.0 words) o true ≡ true) words.1 entry.2 in
    let fixed_size = size_is 0 fixed.0 fixed.2 in
    let area_size = size_is fixed.0 area.0 (subst (λ (n : ℕ). is_size n area.0 ≡ true) fixed_is area.2) in
    let rest : List ℕ = drop (code_at b) b in
    let size : length rest ≡ 4 * words.0 + fixed.0 + area.0 =
    sizes_are (code_at b) (unwrap_or (words_of b) 0) (unwrap_or (fixed_size_of b) 0) (unwrap_or (area_size_of b) 0) words.0 fixed.0 area.0 (length b) (length rest) words_are fixed_is area_is area_there.0 ended.0 (length-drop (code_at b) b) in
    let i : Contents = image_of entry.0 words.0 fixed.0 rest in
    let parts = parts_read entry.0 words.0 fixed.0 area.0 rest (bytes_behind (code_at b) b are) size in
    let image : IsImage i = image_is entry.0 words.0 fixed.0 area.0 i refl parts (ltb-true entry.0 words.0 before_end) (leb-true words.0 max_words words.2) fixed_size.0 area_size.0 area_size.1 in
    let has : HasContents b i =
    record { good = good; entry = entry.1; words = words.1 ∙ ap Some (sym parts.words_are); fixed = fixed.1 ∙ ap Some (sym parts.fixed_is); area = area.1 ∙ ap Some (sym parts.area_is); rest = parts.written; image = image } in
    let same : i ≡ image_of (unwrap_or (entry_of b) 0) (unwrap_or (words_of b) 0) (unwrap_or (fixed_size_of b) 0) rest = same_of rest (sym (value_of (entry_of b) entry.0 entry.1)) (sym words_are) (sym fixed_is) in
    subst (λ (j : Contents). IsFileOf b j) same (file_of_contents b i (all_bytes b are) has)
  where
    image_is : (entry words fixed area : ℕ) (i : Contents) {rest : List ℕ} → i.entry ≡ entry → PartsRead words fixed area rest i → entry < words → words ≤ max_words → fixed % 8 ≡ 0 → area % 8 ≡ 0 → fixed + area ≤ max_bytes → IsImage i
    image_is entry words fixed area i entered parts before_end few whole_fixed whole_area room =
        record {
          entry = omega (arith, entered, parts.words_are, before_end);
          code = omega (arith, parts.words_are, few);
          fixed = ap (λ (n : ℕ). n % 8) parts.fixed_is ∙ whole_fixed;
          area = ap (λ (n : ℕ). n % 8) parts.area_is ∙ whole_area;
          room = omega (arith, parts.fixed_is, parts.area_is, room);
          code_words = parts.code_words;
          fixed_bytes = parts.fixed_bytes;
          area_bytes = parts.area_bytes;
        }

    same_of : {e e' w w' f f' : ℕ} (rest : List ℕ) → e ≡ e' → w ≡ w' → f ≡ f' → image_of e w f rest ≡ image_of e' w' f' rest
    same_of rest p q r = rw (p, q, r) refl

pub image_spelled : (b : List ℕ) (i : Contents) → AreBytes b → image_read b ≡ Ok i → IsFileOf b i
unfolding image_read
image_spelled b i are e = by (fault_of b) refl e
  where
    by : (fault : Option ℕ) → fault_of b ≡ fault → image_by fault b ≡ Ok i → IsFileOf b i
    by None good e =
        let read : Contents = image_of (unwrap_or (entry_of b) 0) (unwrap_or (words_of b) 0) (unwrap_or (fixed_size_of b) 0) (drop (code_at b) b) in
        subst (λ (j : Contents). IsFileOf b j) (ok_same (Ok read) read i refl e) (good_read b are good)
    by (Some at) bad e = absurd (cc)
