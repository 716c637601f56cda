-- Holes, and the counts behind them.
use Rattle.std.proofs.Common.{◌≡◌, ℕ, ◌+◌, ◌*◌, ◌^◌, ◌<◌, ◌≤◌, ◌&&◌, ◌||◌, ◌==◌, not, min, nat_lt, nat_le, Bool, true, false, List, [], ◌∷◌, ◌++◌, length, Option, Some, None, Ok, if◌then◌else◌, refl, sym, ap, subst, ◌∙◌, append_assoc, arith}
use Rattle.std.specs.Prelude.{slice_get}
use Rattle.std.specs.List.{flat_map, list_all}
use Rattle.std.proofs.lemmas.Bool.{leb-true, le-leb, ltb-true, ltb-false, lt-ltb, le-ltb, eqb-true, eqb-false, and_parts, and_from, not-false, or_parts}
use Rattle.std.proofs.lemmas.List.{length-append, drop_at}
use Rattle.std.proofs.lemmas.Option.{slice_get_within}
use Rattle.byteorder.specs.Endian.{little_bytes}
use Rattle.clu_base.specs.declared.constants.Const.TheVariants as value
use Rattle.clu_base.specs.declared.constants.ObjConst.{ObjConst}
use Rattle.clu_base.specs.declared.constants.ObjConst.TheVariants as constant
use Rattle.clu_specs.specs.Reading.{◌>>=◌}
use Rattle.clu_specs.proofs.Outcomes.{and_then}
use Rattle.clu_format.specs.Fields.{number_read, signed_bytes, text64_bytes, count_bytes, byte_read}
use Rattle.clu_object.specs.declared.counts_ahead.CountsAhead.{CountsAhead}
use Rattle.clu_object.specs.declared.object.Hole.{Hole}
use Rattle.clu_object.specs.Ahead.{skipped, text_skipped, value_skipped, constant_skipped, items_skipped, rest_of, count_at, counts_ahead, allows}
use Rattle.clu_object.specs.Holes.{is_pair_of, is_pair_at, are_holes, is_named, are_named}
use Rattle.clu_object.specs.ObjectFile.{number_bytes, list_bytes, hole_bytes, holes_bytes, constant_bytes, texts_bytes, constants_bytes}
use Rattle.clu_object.specs.ObjectReading.{place_read, kind_read, hole_number_read, hole_read, least_behind, next_hole_read, holes_read}
use Rattle.clu_object.specs.Objects.{is_number, is_content, is_constant}
use Rattle.clu_object.proofs.FieldLaws.{told, AreBytes, byte_spelled, number_again, number_spelled, text_again, but_ok}
use Rattle.clu_format.specs.Lists.{counted}
use Rattle.clu_object.proofs.ListLaws.{AllGood, counted_spelled}

-- What is skipped.

skipped_front : (front rest : List ℕ) (n : ℕ) → length front ≡ n → skipped n (front ++ rest) ≡ Some rest
skipped_front front rest n size =
    let enough : nat_lt (length (front ++ rest)) n ≡ false = le-ltb (length (front ++ rest)) n (omega (arith, size, length-append front rest)) in
    rw (enough, drop_at front rest n size) refl

pub text_behind : (text rest : List ℕ) → is_content text ≡ true → text_skipped (text64_bytes text ++ rest) ≡ Some rest
text_behind text rest h = ap rest_of (text_again 8 text rest (ltb-true (length text) 0x1_0000_0000_0000_0000 h))

pub constant_behind : (k : ObjConst) (rest : List ℕ) → is_constant k ≡ true → constant_skipped (constant_bytes k ++ rest) ≡ Some rest
unfolding value_skipped
constant_behind (constant.Value value.Null) rest h = refl
constant_behind (constant.Value (value.Bool true)) rest h = skipped_front (1 ∷ []) rest 1 refl
constant_behind (constant.Value (value.Bool false)) rest h = skipped_front (0 ∷ []) rest 1 refl
constant_behind (constant.Value (value.Int n)) rest h = skipped_front (signed_bytes n) rest 8 refl
constant_behind (constant.Value (value.Char b)) rest h = skipped_front (b ∷ []) rest 1 refl
constant_behind (constant.Value (value.Str text)) rest h = text_behind text rest h
constant_behind (constant.Param n) rest h = skipped_front (number_bytes n) rest 4 refl

items_behind : {X : Type 0} (item : List ℕ → Option (List ℕ)) (bytes_of : X → List ℕ) (test : X → Bool) → ((x : X) (rest : List ℕ) → test x ≡ true → item (bytes_of x ++ rest) ≡ Some rest)
    → (xs : List X) (rest : List ℕ) → list_all test xs ≡ true → items_skipped item (length xs) (flat_map bytes_of xs ++ rest) ≡ Some rest
unfolding items_skipped
items_behind item bytes_of test behind [] rest h = refl
items_behind item bytes_of test behind (x ∷ xs) rest h =
    let parts = and_parts (test x) (list_all test xs) h in
    rw (append_assoc (bytes_of x) (flat_map bytes_of xs) rest, behind x (flat_map bytes_of xs ++ rest) parts.0) (items_behind item bytes_of test behind xs rest parts.1)

holes_size : (holes : List Hole) → length (flat_map hole_bytes holes) ≡ 9 * length holes
holes_size [] = refl
holes_size (h ∷ holes) = omega (arith, holes_size holes)

-- a count that was written is found
count_found : {X : Type 0} (bytes_of : X → List ℕ) (xs : List X) (rest : List ℕ) → is_number (length xs) ≡ true → count_at (Some (list_bytes bytes_of xs ++ rest)) ≡ Some (length xs, flat_map bytes_of xs ++ rest)
count_found bytes_of xs rest few =
    let le : length xs ≤ 0xffff_ffff = leb-true (length xs) 0xffff_ffff few in
    let least : min (length xs) 0xffff_ffff ≡ length xs = omega arith in
    let count : number_read 4 (little_bytes 4 (length xs) ++ (flat_map bytes_of xs ++ rest)) ≡ Ok (length xs, flat_map bytes_of xs ++ rest) = number_again 4 (length xs) (flat_map bytes_of xs ++ rest) (omega arith) in
    rw (append_assoc (count_bytes (length xs)) (flat_map bytes_of xs) rest, least, count) refl

-- the counts of a routine's items
abbrev pub counts_of : ℕ → ℕ → ℕ → CountsAhead
counts_of uses constants types = record { uses = Some uses; constants = Some constants; types = Some types }

pub ahead_is : (holes : List Hole) (uses : List (List ℕ)) (constants : List ObjConst) (types : List (List ℕ)) (rest : List ℕ)
    → is_number (length uses) ≡ true → list_all is_content uses ≡ true → is_number (length constants) ≡ true → list_all is_constant constants ≡ true → is_number (length types) ≡ true
    → counts_ahead (length holes) (flat_map hole_bytes holes ++ (texts_bytes uses ++ (constants_bytes constants ++ (texts_bytes types ++ rest)))) ≡ counts_of (length uses) (length constants) (length types)
unfolding counts_ahead
ahead_is holes uses constants types rest few_uses good_uses few_constants good_constants few_types =
    let behind_uses : List ℕ = constants_bytes constants ++ (texts_bytes types ++ rest) in
    let behind_constants : List ℕ = texts_bytes types ++ rest in
    let behind_holes : skipped (9 * length holes) (flat_map hole_bytes holes ++ (texts_bytes uses ++ behind_uses)) ≡ Some (texts_bytes uses ++ behind_uses) = skipped_front (flat_map hole_bytes holes) (texts_bytes uses ++ behind_uses) (9 * length holes) (holes_size holes) in
    let uses_count : count_at (Some (texts_bytes uses ++ behind_uses)) ≡ Some (length uses, flat_map text64_bytes uses ++ behind_uses) = count_found text64_bytes uses behind_uses few_uses in
    let past_uses : items_skipped text_skipped (length uses) (flat_map text64_bytes uses ++ behind_uses) ≡ Some behind_uses = items_behind text_skipped text64_bytes is_content text_behind uses behind_uses good_uses in
    let constants_count : count_at (Some behind_uses) ≡ Some (length constants, flat_map constant_bytes constants ++ behind_constants) = count_found constant_bytes constants behind_constants few_constants in
    let past_constants : items_skipped constant_skipped (length constants) (flat_map constant_bytes constants ++ behind_constants) ≡ Some behind_constants = items_behind constant_skipped constant_bytes is_constant constant_behind constants behind_constants good_constants in
    let types_count : count_at (Some behind_constants) ≡ Some (length types, flat_map text64_bytes types ++ rest) = count_found text64_bytes types rest few_types in
    rw (behind_holes, uses_count, past_uses, constants_count, past_constants, types_count) refl

-- Where the last hole ends.

pub least_pushed : (least : ℕ) (made : List Hole) (h : Hole) → least_behind least (made ++ h ∷ []) ≡ h.at + 2
least_pushed least [] h = refl
least_pushed least (x ∷ made) h = least_pushed (x.at + 2) made h

-- A hole after others.
pub record HoleGood (code : List ℕ) (ahead : CountsAhead) (made : List Hole) (h : Hole) : Type 0 where
  pub after : least_behind 0 made ≤ h.at
  pub pair : is_pair_at code h.at ≡ true
  pub small : h.at < 2 ^ 32
  pub kind : h.kind ≤ 8
  pub allowed : allows ahead h.kind h.number (length code) ≡ true
  pub number : h.number < 2 ^ 32

pub hole_again : (code : List ℕ) (ahead : CountsAhead) (made : List Hole) (h : Hole) (rest : List ℕ) → HoleGood code ahead made h → next_hole_read code ahead made (hole_bytes h ++ rest) ≡ Ok (h, rest)
unfolding hole_read
hole_again code ahead made h rest good =
    let behind_kind : List ℕ = number_bytes h.number ++ rest in
    let behind_at : List ℕ = h.kind ∷ behind_kind in
    let at : number_read 4 (number_bytes h.at ++ behind_at) ≡ Ok (h.at, behind_at) = number_again 4 h.at behind_at good.small in
    let least : nat_lt h.at (least_behind 0 made) ≡ false = le-ltb h.at (least_behind 0 made) good.after in
    let small_kind : nat_lt 8 h.kind ≡ false = le-ltb 8 h.kind good.kind in
    let number : number_read 4 behind_kind ≡ Ok (h.number, rest) = number_again 4 h.number rest good.number in
    rw (at, least, good.pair, small_kind, number, good.allowed) refl

pub hole_spelled : (code : List ℕ) (ahead : CountsAhead) (made : List Hole) (bytes : List ℕ) (h : Hole) (rest : List ℕ) → AreBytes bytes → next_hole_read code ahead made bytes ≡ Ok (h, rest)
    → (bytes ≡ hole_bytes h ++ rest) × HoleGood code ahead made h × AreBytes rest
unfolding hole_read
hole_spelled code ahead made bytes h rest are e =
    let least : ℕ = least_behind 0 made in
    let p = and_then (place_read code least bytes) (λ (at : ℕ × List ℕ). kind_read at.1 >>= λ kind. hole_number_read ahead kind.0 (length code) kind.1 >>= λ number. Ok (record { at = at.0; kind = kind.0; number = number.0 }, number.1)) (h, rest) e in
    let k = and_then (kind_read p.0.1) (λ (kind : ℕ × List ℕ). hole_number_read ahead kind.0 (length code) kind.1 >>= λ number. Ok (record { at = p.0.0; kind = kind.0; number = number.0 }, number.1)) (h, rest) p.2 in
    let n = and_then (hole_number_read ahead k.0.0 (length code) k.0.1) (λ (number : ℕ × List ℕ). Ok (record { at = p.0.0; kind = k.0.0; number = number.0 }, number.1)) (h, rest) k.2 in
    let place = but_ok (λ at. nat_lt at least || not (is_pair_at code at)) (length bytes) (number_read 4 bytes) p.0 p.1 in
    let at = number_spelled 4 bytes p.0.0 p.0.1 are place.0 in
    let tests = or_parts (nat_lt p.0.0 least) (not (is_pair_at code p.0.0)) place.1 in
    let kind = but_ok (nat_lt 8) (length p.0.1) (byte_read p.0.1) k.0 k.1 in
    let byte = byte_spelled p.0.1 k.0.0 k.0.1 at.are_bytes kind.0 in
    let allowed = but_ok (λ number. not (allows ahead k.0.0 number (length code))) (length k.0.1) (number_read 4 k.0.1) n.0 n.1 in
    let number = number_spelled 4 k.0.1 n.0.0 n.0.1 byte.1 allowed.0 in
    let made_hole : Hole = record { at = p.0.0; kind = k.0.0; number = n.0.0 } in
    let written : bytes ≡ hole_bytes made_hole ++ n.0.1 = at.written ∙ ap (λ (bs : List ℕ). number_bytes p.0.0 ++ bs) (byte.0 ∙ ap (λ (bs : List ℕ). k.0.0 ∷ bs) number.written) in
    let good : HoleGood code ahead made made_hole = record {
      after = ltb-false p.0.0 least tests.0;
      pair = not-false (is_pair_at code p.0.0) tests.1;
      small = at.small;
      kind = ltb-false 8 k.0.0 kind.1;
      allowed = not-false (allows ahead k.0.0 n.0.0 (length code)) allowed.1;
      number = number.small;
    } in
    told (λ x behind. (bytes ≡ hole_bytes x ++ behind) × HoleGood code ahead made x × AreBytes behind) (made_hole, n.0.1) (h, rest) n.2 (written, good, number.are_bytes)

-- The tests of a routine's holes.

-- by its kind: at most 1, 2, 5, 8 or another
module _ (uses constants types words k n : ℕ) where
  abbrev named : Bool → Bool → Bool → Bool → Bool
  named k1 k2 k5 k8 = if k1 then nat_lt n uses else (if k2 then nat_lt n constants else (if k5 then nat_lt n types else (if k8 then nat_lt n words else (nat_lt k 8 && nat_le n 0xffff_ffff))))

  abbrev allowed : Bool → Bool → Bool → Bool → Bool
  allowed k1 k2 k5 k8 = if k1 then nat_lt n uses else (if k2 then nat_lt n constants else (if k5 then nat_lt n types else (if k8 then nat_lt n words else true)))

  allowed_named : (k1 k2 k5 k8 : Bool) → named k1 k2 k5 k8 ≡ true → allowed k1 k2 k5 k8 ≡ true
  allowed_named true k2 k5 k8 e = e
  allowed_named false true k5 k8 e = e
  allowed_named false false true k8 e = e
  allowed_named false false false true e = e
  allowed_named false false false false e = refl

  kind_named : (k1 k2 k5 k8 : Bool) → nat_le k 1 ≡ k1 → (k == 2) ≡ k2 → (k == 5) ≡ k5 → (k == 8) ≡ k8 → named k1 k2 k5 k8 ≡ true → k ≤ 8
  kind_named true k2 k5 k8 e1 e2 e5 e8 e = omega (arith, leb-true k 1 e1)
  kind_named false true k5 k8 e1 e2 e5 e8 e = omega (arith, eqb-true k 2 e2)
  kind_named false false true k8 e1 e2 e5 e8 e = omega (arith, eqb-true k 5 e5)
  kind_named false false false true e1 e2 e5 e8 e = omega (arith, eqb-true k 8 e8)
  kind_named false false false false e1 e2 e5 e8 e = omega (arith, ltb-true k 8 (and_parts (nat_lt k 8) (nat_le n 0xffff_ffff) e).0)

  number_named : uses ≤ 0xffff_ffff → constants ≤ 0xffff_ffff → types ≤ 0xffff_ffff → words ≤ 0xffff_ffff → (k1 k2 k5 k8 : Bool) → named k1 k2 k5 k8 ≡ true → n < 2 ^ 32
  number_named u c t w true k2 k5 k8 e = omega (arith, ltb-true n uses e)
  number_named u c t w false true k5 k8 e = omega (arith, ltb-true n constants e)
  number_named u c t w false false true k8 e = omega (arith, ltb-true n types e)
  number_named u c t w false false false true e = omega (arith, ltb-true n words e)
  number_named u c t w false false false false e = omega (arith, leb-true n 0xffff_ffff (and_parts (nat_lt k 8) (nat_le n 0xffff_ffff) e).1)

  named_allowed : (k1 k2 k5 k8 : Bool) → (k == 8) ≡ k8 → k ≤ 8 → n < 2 ^ 32 → allowed k1 k2 k5 k8 ≡ true → named k1 k2 k5 k8 ≡ true
  named_allowed true k2 k5 k8 e8 le lt e = e
  named_allowed false true k5 k8 e8 le lt e = e
  named_allowed false false true k8 e8 le lt e = e
  named_allowed false false false true e8 le lt e = e
  named_allowed false false false false e8 le lt e =
      let below : k < 8 = omega (arith, eqb-false k 8 e8, le) in
      and_from (nat_lt k 8) (nat_le n 0xffff_ffff) (lt-ltb k 8 below) (le-leb n 0xffff_ffff (omega (arith, lt)))

pair_within : (code : List ℕ) (at : ℕ) (upper lower : Option ℕ) → slice_get code at ≡ upper → is_pair_of upper lower ≡ true → at < length code
pair_within code at (Some upper) lower e h = slice_get_within code at upper e
pair_within code at None lower e h = absurd (cc)

module _ (code : List ℕ) (uses constants types : ℕ) where
  abbrev ahead : CountsAhead
  ahead = counts_of uses constants types

  pub holes_good : length code ≤ 0xffff_ffff → uses ≤ 0xffff_ffff → constants ≤ 0xffff_ffff → types ≤ 0xffff_ffff → (made holes : List Hole)
      → are_holes code (least_behind 0 made) holes ≡ true → are_named uses constants types (length code) holes ≡ true → AllGood (HoleGood code ahead) made holes
  holes_good w u c t made [] holes named = tt
  holes_good w u c t made (h ∷ holes) are named =
      let outer = and_parts (nat_le (least_behind 0 made) h.at && is_pair_at code h.at) (are_holes code (h.at + 2) holes) are in
      let inner = and_parts (nat_le (least_behind 0 made) h.at) (is_pair_at code h.at) outer.0 in
      let names = and_parts (is_named uses constants types (length code) h) (are_named uses constants types (length code) holes) named in
      let within : h.at < length code = pair_within code h.at (slice_get code h.at) (slice_get code (h.at + 1)) refl inner.1 in
      let good : HoleGood code ahead made h = record {
        after = leb-true (least_behind 0 made) h.at inner.0;
        pair = inner.1;
        small = omega (arith, within, w);
        kind = kind_named uses constants types (length code) h.kind h.number (nat_le h.kind 1) (h.kind == 2) (h.kind == 5) (h.kind == 8) refl refl refl refl names.0;
        allowed = allowed_named uses constants types (length code) h.kind h.number (nat_le h.kind 1) (h.kind == 2) (h.kind == 5) (h.kind == 8) names.0;
        number = number_named uses constants types (length code) h.kind h.number u c t w (nat_le h.kind 1) (h.kind == 2) (h.kind == 5) (h.kind == 8) names.0;
      } in
      (good, holes_good w u c t (made ++ h ∷ []) holes (subst (λ (least : ℕ). are_holes code least holes ≡ true) (sym (least_pushed 0 made h)) outer.1) names.1)

  pub good_holes : (made holes : List Hole) → AllGood (HoleGood code ahead) made holes → (are_holes code (least_behind 0 made) holes ≡ true) × (are_named uses constants types (length code) holes ≡ true)
  good_holes made [] good = (refl, refl)
  good_holes made (h ∷ holes) good =
      let one = good.0 in
      let more = good_holes (made ++ h ∷ []) holes good.1 in
      let named : is_named uses constants types (length code) h ≡ true = named_allowed uses constants types (length code) h.kind h.number (nat_le h.kind 1) (h.kind == 2) (h.kind == 5) (h.kind == 8) refl one.kind one.number one.allowed in
      let here : (nat_le (least_behind 0 made) h.at && is_pair_at code h.at) ≡ true = and_from _ _ (le-leb (least_behind 0 made) h.at one.after) one.pair in (
        and_from _ _ here (subst (λ (least : ℕ). are_holes code least holes ≡ true) (least_pushed 0 made h) more.0),
        and_from _ _ named more.1,
      )

-- Holes after their count.

pub holes_again : (code : List ℕ) (holes : List Hole) (behind : List ℕ) (found : CountsAhead) → is_number (length holes) ≡ true → counts_ahead (length holes) (flat_map hole_bytes holes ++ behind) ≡ found
    → counted (next_hole_read code found) (length holes) [] (flat_map hole_bytes holes ++ behind) ≡ Ok (holes, behind) → holes_read code (holes_bytes holes ++ behind) ≡ Ok (holes, behind)
holes_again code holes behind found few ahead read =
    let le : length holes ≤ 0xffff_ffff = leb-true (length holes) 0xffff_ffff few in
    let least : min (length holes) 0xffff_ffff ≡ length holes = omega arith in
    let more : List ℕ = flat_map hole_bytes holes ++ behind in
    let count : number_read 4 (little_bytes 4 (length holes) ++ more) ≡ Ok (length holes, more) = number_again 4 (length holes) more (omega arith) in
    rw (append_assoc (count_bytes (length holes)) (flat_map hole_bytes holes) behind, least, count, ahead) read

pub record HolesRead (code bytes : List ℕ) (holes : List Hole) (rest : List ℕ) : Type 0 where
  pub written : bytes ≡ holes_bytes holes ++ rest
  pub few : is_number (length holes) ≡ true
  pub good : AllGood (HoleGood code (counts_ahead (length holes) (flat_map hole_bytes holes ++ rest))) [] holes
  pub are_bytes : AreBytes rest

pub holes_spelled : (code bytes : List ℕ) (holes : List Hole) (rest : List ℕ) → AreBytes bytes → holes_read code bytes ≡ Ok (holes, rest) → HolesRead code bytes holes rest
holes_spelled code bytes holes rest are e =
    let r = and_then (number_read 4 bytes) (λ (x : ℕ × List ℕ). counted (next_hole_read code (counts_ahead x.0 x.1)) x.0 [] x.1) (holes, rest) e in
    let count = number_spelled 4 bytes r.0.0 r.0.1 are r.1 in
    let ahead : CountsAhead = counts_ahead r.0.0 r.0.1 in
    let read = counted_spelled (next_hole_read code ahead) hole_bytes (HoleGood code ahead) (hole_spelled code ahead) r.0.0 [] r.0.1 holes rest count.are_bytes r.2 in
    let all_is : holes ≡ read.items = read.all_is in
    let size : length holes ≡ r.0.0 = ap length all_is ∙ read.count in
    let small : r.0.0 < 256 ^ 4 = count.small in
    let le : length holes ≤ 0xffff_ffff = omega (arith, size, small) in
    let least : min (length holes) 0xffff_ffff ≡ r.0.0 = omega (arith, size, le) in
    let front : count_bytes (length holes) ≡ little_bytes 4 r.0.0 = ap (little_bytes 4) least in
    let behind : r.0.1 ≡ flat_map hole_bytes holes ++ rest = read.written ∙ ap (λ (xs : List Hole). flat_map hole_bytes xs ++ rest) (sym all_is) in
    let ahead_same : ahead ≡ counts_ahead (length holes) (flat_map hole_bytes holes ++ rest) = ap (λ (bs : List ℕ). counts_ahead r.0.0 bs) behind ∙ ap (λ (n : ℕ). counts_ahead n (flat_map hole_bytes holes ++ rest)) (sym size) in
    record {
      written = count.written ∙ ap (λ (bs : List ℕ). little_bytes 4 r.0.0 ++ bs) behind ∙ ap (λ (bs : List ℕ). bs ++ (flat_map hole_bytes holes ++ rest)) (sym front) ∙ sym (append_assoc (count_bytes (length holes)) (flat_map hole_bytes holes) rest);
      few = le-leb (length holes) 0xffff_ffff le;
      good = subst (λ (a : CountsAhead). AllGood (HoleGood code a) [] holes) ahead_same (subst (AllGood (HoleGood code ahead) []) (sym all_is) read.good);
      are_bytes = read.are_bytes;
    }
