-- What stands in a field of its own: a specification, an object, an image.
use Rattle.std.proofs.Common.{◌≡◌, ℕ, suc, ◌+◌, ◌*◌, ◌^◌, ◌<◌, true, false, List, [], ◌∷◌, ◌++◌, map, length, take, drop, unwrap_or, Option, Some, None, Result, Ok, Err, refl, ap, ◌∙◌, append_assoc, arith}
use Rattle.std.specs.List.{flat_map}
use Rattle.std.specs.Str.{bytes_eq}
use Rattle.std.proofs.lemmas.Bool.{lt-ltb}
use Rattle.std.proofs.lemmas.List.{take_at, drop_at, length-append}
use Rattle.std.proofs.lemmas.List.Elements.{All-head, All-tail}
use Rattle.std.specs.declared.cmp.Ordering.{Ordering}
use Rattle.std.specs.declared.cmp.Ordering.TheVariants.{Less, Equal, Greater}
use Rattle.byteorder.specs.Endian.{little_number}
use Rattle.byteorder.specs.Numbers.{little_from-take, little_number-reads_back}
use Rattle.clu_base.specs.declared.errors.FormatError.{FormatError}
use Rattle.clu_base.specs.declared.errors.FormatError.TheVariants as error
use Rattle.clu_types.specs.Specs.{name_order, with_spec}
use Rattle.clu_types.specs.Specs.{placed as spec_placed}
use Rattle.clu_types.specs.declared.spec.Spec.{Spec}
use Rattle.clu_specs.specs.Reading.{Fails, offset_of}
use Rattle.clu_specs.specs.Seen.{Specification, seen, spec_text}
use Rattle.clu_specs.specs.Grammar.{IsSpecification}
use Rattle.clu_specs.specs.SpecReading.{whole_spec}
use Rattle.clu_specs.proofs.SpecsAgain.{spec_again}
use Rattle.clu_specs.proofs.SpecsSpelled.{whole_spec_spelled}
use Rattle.clu_format.specs.Fields.{field_error}
use Rattle.clu_image.specs.Faults.{fault_of, entry_of, words_of, fixed_size_of, code_at, IsRefusal}
use Rattle.clu_image.specs.ImageFile.{IsFileOf, head_bytes, image_bytes, number_bytes}
use Rattle.clu_image.specs.Parts.{HasContents}
use Rattle.clu_image.proofs.ContentsOfFile.{contents_of_file}
use Rattle.clu_object.specs.Objects.{is_content}
use Rattle.rv_isa.specs.Image.{AreWords, Contents, IsImage, contents}
use Rattle.clu_library.specs.ByName.{with_item, placed}
use Rattle.clu_library.specs.Contents.{Contents as Library}
use Rattle.clu_library.specs.ImageReading.{numbers_in, image_of, image_by, image_read}
use Rattle.clu_library.specs.LibraryReading.{SeenLibrary, library_seen, content_in, named_spec, with_seen}

-- Specifications.

module _ (name text : List ℕ) (left : ℕ) where
  read_as : (s : Spec) → text ≡ spec_text (seen s) → IsSpecification (seen s) → named_spec name left (whole_spec text) ≡ named_spec name left (Ok (seen s))
  read_as s spelled grammar = ap (named_spec name left) (spec_again (seen s) text grammar spelled)

  pub named_same : (s : Spec) → text ≡ spec_text (seen s) → IsSpecification (seen s) → bytes_eq s.name name ≡ true → named_spec name left (whole_spec text) ≡ Ok (seen s)
  named_same s spelled grammar same = read_as s spelled grammar ∙ rw same refl

  pub named_other : (s : Spec) → text ≡ spec_text (seen s) → IsSpecification (seen s) → bytes_eq s.name name ≡ false → named_spec name left (whole_spec text) ≡ Err left
  named_other s spelled grammar other = read_as s spelled grammar ∙ rw other refl

  refused : (offset : ℕ) → ((s : Specification) → IsSpecification s → text ≡ spec_text s → Ok s ≡ Err offset) → named_spec name left (whole_spec text) ≡ Err left
  refused offset h = by (whole_spec text) refl
    where
      clash : (s : Specification) → Ok s ≡ Err offset → named_spec name left (Ok s) ≡ Err left
      clash s e = absurd (cc)

      by : (r : Result Specification ℕ) → whole_spec text ≡ r → named_spec name left r ≡ Err left
      by (Ok s) e = let w = whole_spec_spelled text s e in clash s (h s w.0 w.1)
      by (Err at) e = refl

  pub named_bad : (e : FormatError) → ((s : Specification) → IsSpecification s → text ≡ spec_text s → Fails e (Ok s)) → Fails (field_error left e) (named_spec name left (whole_spec text))
  named_bad error.Memory h = tt
  named_bad (error.Bad offset) h = refused offset h

pub ruleset specs = (named_same, named_other, named_bad)

-- one more of them
seen_with : (xs : List Spec) (s : Spec) → map seen (with_spec xs s) ≡ with_item (λ (x : Specification). x.name) (map seen xs) (seen s)
seen_with [] s = refl
seen_with (x ∷ xs) s = by (name_order x.name s.name) (seen_with xs s)
  where
    by : (o : Ordering) → map seen (with_spec xs s) ≡ with_item (λ (x : Specification). x.name) (map seen xs) (seen s)
        → map seen (spec_placed o s x xs (with_spec xs s)) ≡ placed o (seen s) (seen x) (map seen xs) (with_item (λ (x : Specification). x.name) (map seen xs) (seen s))
    by Less behind = ap (λ (ys : List Specification). seen x ∷ ys) behind
    by Equal behind = refl
    by Greater behind = refl

pub spec_seen : (library : Library) (new : List Spec) (s : Spec) → new ≡ with_spec library.specs s → library_seen (record library { specs = new }) ≡ with_seen (library_seen library) (seen s)
spec_seen library new s is = ap (λ (xs : List Specification). let made : SeenLibrary = record (library_seen library) { specs = xs } in made) (ap (map seen) is ∙ seen_with library.specs s)

-- Objects.

pub content_ok : {X : Type 0} (n left : ℕ) (r : Result X ℕ) (x : X) → offset_of n r ≡ Ok x → content_in left r ≡ Ok x
content_ok n left (Ok y) x e = e
content_ok n left (Err at) x e = absurd (cc)

pub content_bad : {X : Type 0} (e : FormatError) (n left : ℕ) (r : Result X ℕ) → Fails e (offset_of n r) → Fails (field_error left e) (content_in left r)
content_bad error.Memory n left r h = tt
content_bad (error.Bad offset) n left (Ok x) h = absurd (cc)
content_bad (error.Bad offset) n left (Err at) h = refl

pub ruleset objects = (content_ok, content_bad)

-- Images.

numbers_size : (code : List ℕ) → length (flat_map number_bytes code) ≡ 4 * length code
numbers_size [] = refl
numbers_size (w ∷ ws) = omega (arith, numbers_size ws)

numbers_again : (code rest : List ℕ) → AreWords code → numbers_in (length code) (flat_map number_bytes code ++ rest) ≡ code
numbers_again [] rest words = refl
numbers_again (w ∷ ws) rest words =
    let more : List ℕ = flat_map number_bytes ws ++ rest in
    let small : w < 2 ^ 32 = All-head (λ n. n < 2 ^ 32) w ws words in
    let number : little_number 4 (take 4 (number_bytes w ++ more)) ≡ w = little_from-take 0 4 4 (number_bytes w ++ more) (omega arith) ∙ little_number-reads_back 4 w more (omega (arith, small)) in
    let behind : drop 4 (number_bytes w ++ more) ≡ more = drop_at (number_bytes w) more 4 refl in
    let others : numbers_in (length ws) more ≡ ws = numbers_again ws rest (All-tail (λ n. n < 2 ^ 32) w ws words) in
    ap (λ (bs : List ℕ). numbers_in (suc (length ws)) bs) (append_assoc (number_bytes w) (flat_map number_bytes ws) rest) ∙ joined number (ap (numbers_in (length ws)) behind ∙ others)
  where
    joined : {a b : ℕ} {xs ys : List ℕ} → a ≡ b → xs ≡ ys → a ∷ xs ≡ b ∷ ys
    joined p q = cc

image_parts : (entry : ℕ) (code fixed area : List ℕ) → AreWords code → image_of entry (length code) (length fixed) ((flat_map number_bytes code ++ fixed) ++ area) ≡ contents entry code fixed area
image_parts entry code fixed area words =
    let front : List ℕ = flat_map number_bytes code in
    let size : length front ≡ 4 * length code = numbers_size code in
    let shape : (front ++ fixed) ++ area ≡ front ++ (fixed ++ area) = append_assoc front fixed area in
    let numbers : numbers_in (length code) ((front ++ fixed) ++ area) ≡ code = ap (numbers_in (length code)) shape ∙ numbers_again code (fixed ++ area) words in
    let behind : drop (4 * length code) ((front ++ fixed) ++ area) ≡ fixed ++ area = ap (drop (4 * length code)) shape ∙ drop_at front (fixed ++ area) (4 * length code) size in
    let fixed_is : take (length fixed) (drop (4 * length code) ((front ++ fixed) ++ area)) ≡ fixed = ap (take (length fixed)) behind ∙ take_at fixed area (length fixed) refl in
    let whole_size : length (front ++ fixed) ≡ 4 * length code + length fixed = omega (arith, length-append front fixed, size) in
    let area_is : drop (4 * length code + length fixed) ((front ++ fixed) ++ area) ≡ area = drop_at (front ++ fixed) area (4 * length code + length fixed) whole_size in
    parts numbers fixed_is area_is
  where
    parts : {c c' f f' a a' : List ℕ} → c ≡ c' → f ≡ f' → a ≡ a' → contents entry c f a ≡ contents entry c' f' a'
    parts p q r = rw (p, q, r) refl

image_again : (b : List ℕ) (i : Contents) → HasContents b i → image_read b ≡ Ok i
unfolding image_read
image_again b i h =
    let whole : image_of i.entry (length i.code) (length i.fixed) (drop (code_at b) b) ≡ i = ap (image_of i.entry (length i.code) (length i.fixed)) h.rest ∙ image_parts i.entry i.code i.fixed i.area h.image.code_words in
    ap (λ (o : Option ℕ). image_by o b) h.good ∙ sizes (entry_of b) (words_of b) (fixed_size_of b) h.entry h.words h.fixed ∙ same whole
  where
    same : {x y : Contents} → x ≡ y → ◌≡◌ {A = Result Contents ℕ} (Ok x) (Ok y)
    same e = ap Ok e

    sizes : (entry words fixed : Option ℕ) → entry ≡ Some i.entry → words ≡ Some (length i.code) → fixed ≡ Some (length i.fixed)
        → ◌≡◌ {A = Result Contents ℕ} (Ok (image_of (unwrap_or entry 0) (unwrap_or words 0) (unwrap_or fixed 0) (drop (code_at b) b))) (Ok (image_of i.entry (length i.code) (length i.fixed) (drop (code_at b) b)))
    sizes entry words fixed p q r = rw (p, q, r) refl

pub image_ok : (b : List ℕ) (left : ℕ) (i : Contents) → IsFileOf b i → content_in left (image_read b) ≡ Ok i
image_ok b left i file = ap (content_in left) (image_again b i (contents_of_file b i file))

pub image_bad : (e : FormatError) (b : List ℕ) (left : ℕ) → IsRefusal (fault_of b) e → Fails (field_error left e) (content_in left (image_read b))
unfolding image_read
image_bad e b left h = by (fault_of b) refl h
  where
    by : (o : Option ℕ) → fault_of b ≡ o → IsRefusal o e → Fails (field_error left e) (content_in left (image_by o b))
    by None is h = rw h tt
    by (Some at) is h = rw h refl

-- a field holds it
pub image_small : (i : Contents) → IsImage i → is_content (image_bytes i) ≡ true
image_small i is =
    let code : List ℕ = flat_map number_bytes i.code in
    let head : length (head_bytes i) ≡ 24 = refl in
    let size : length code ≡ 4 * length i.code = numbers_size i.code in
    let up_to_code = length-append (head_bytes i) code in
    let up_to_fixed = length-append (head_bytes i ++ code) i.fixed in
    let up_to_area = length-append ((head_bytes i ++ code) ++ i.fixed) i.area in
    lt-ltb (length (image_bytes i)) 0x1_0000_0000_0000_0000 (omega (arith, head, size, up_to_code, up_to_fixed, up_to_area, is.code, is.room))

pub ruleset images = (image_ok, image_bad)
