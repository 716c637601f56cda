-- An object that was written is read again, and one that was read is written as the same bytes.
use Rattle.std.proofs.Common.{◌≡◌, ℕ, suc, ◌^◌, ◌<◌, ◌≤◌, ℤ, pos, negsuc, ◌&&◌, ◌==◌, not, nat_lt, nat_eq, Bool, true, false, List, [], ◌∷◌, ◌++◌, length, take, drop, codes, Result, Ok, Err, if◌then◌else◌, refl, sym, ap, subst, ◌∙◌, append_assoc, arith}
use Rattle.std.specs.List.{flat_map, list_all, starts_with}
use Rattle.std.specs.Int.{w64}
use Rattle.std.specs.Int.RustNames.{FitsSigned}
use Rattle.std.specs.Cmp.Lexicographic.{bytes_decides}
use Rattle.std.proofs.lemmas.Bool.{leb-true, le-leb, ltb-true, lt-ltb, eqb-true, eqb-false, ne_eqb, and_parts, and_from, not-false}
use Rattle.std.proofs.lemmas.List.{append-nil, take-append-drop}
use Rattle.byteorder.specs.Endian.{little_bytes}
use Rattle.clu_base.specs.declared.constants.Const.TheVariants as value
use Rattle.clu_base.specs.declared.constants.ObjConst.{ObjConst}
use Rattle.clu_base.specs.declared.constants.ObjConst.TheVariants as constant
use Rattle.clu_specs.specs.Reading.{Read, ◌>>=◌, end_at}
use Rattle.clu_specs.proofs.Outcomes.{and_then, ok_same, passed, ended_spelled}
use Rattle.clu_format.specs.Fields.{mark_read, byte_read, number_read, text_read, module_read, signed_read, text16_bytes, text64_bytes, is_module_name, is_after}
use Rattle.clu_format.specs.Lists.{counted}
use Rattle.clu_object.specs.declared.counts_ahead.CountsAhead.{CountsAhead}
use Rattle.clu_object.specs.declared.object.Hole.{Hole}
use Rattle.clu_object.specs.declared.object.ObjRoutine.{ObjRoutine}
use Rattle.clu_object.specs.declared.object.Object.{Object}
use Rattle.clu_object.specs.declared.object.Region.{Region}
use Rattle.clu_object.specs.declared.reading.Coded.{Coded}
use Rattle.clu_object.specs.declared.reading.Items.{Items}
use Rattle.clu_object.specs.Ahead.{counts_ahead}
use Rattle.clu_object.specs.Holes.{has_holes, are_holes, are_named}
use Rattle.clu_object.specs.ObjectFile.{number_bytes, constant_bytes, words_bytes, hole_bytes, holes_bytes, texts_bytes, constants_bytes, region_bytes, regions_bytes, routine_bytes, routines_bytes, object_bytes}
use Rattle.clu_object.specs.ObjectReading.{but, list_read, routine_name_read, is_routine_name, code_read, next_hole_read, holes_read, is_use_text, is_type_text, use_read, type_text_read, bool_of, bool_read, int_read, char_read, string_read, parameter_read, constant_by, constant_read, next_region_read, regions_read, coded_read, items_read, routine_of, routine_read, last_routines_read, version_read, head_read, object_read}
use Rattle.clu_object.specs.Objects.{is_number, is_content, is_list, is_use, is_type, is_int, is_constant, are_regions, is_coded, is_routine, is_object}
use Rattle.clu_object.proofs.FieldLaws.{value_is, behind_is, told, AreBytes, byte_spelled, number_again, number_spelled, signed_again, signed_spelled, text_again, text_spelled, text16_is, text16_again, then_ok, but_ok, but_again}
use Rattle.clu_object.proofs.ListLaws.{AllGood, Passes, counted_again, list_again, list_spelled, list_good, good_list}
use Rattle.clu_object.proofs.NameLaws.{routine_name_short, module_name_short, first_name}
use Rattle.clu_object.proofs.HoleLaws.{HoleGood, counts_of, ahead_is, hole_again, holes_again, holes_spelled, holes_good, good_holes}
use Rattle.clu_object.proofs.RegionLaws.{RegionGood, EarlyRegion, region_again, region_spelled, regions_good, good_regions}

-- Words, texts and constants.

word_again : (made : List ℕ) (n : ℕ) (rest : List ℕ) → is_number n ≡ true → number_read 4 (number_bytes n ++ rest) ≡ Ok (n, rest)
word_again made n rest h = number_again 4 n rest (let le : n ≤ 0xffff_ffff = leb-true n 0xffff_ffff h in omega (arith, le))

word_spelled : (made bytes : List ℕ) (n : ℕ) (rest : List ℕ) → AreBytes bytes → number_read 4 bytes ≡ Ok (n, rest) → (bytes ≡ number_bytes n ++ rest) × (is_number n ≡ true) × AreBytes rest
word_spelled made bytes n rest are e =
    let r = number_spelled 4 bytes n rest are e in
    let small : n < 256 ^ 4 = r.small in
    (r.written, le-leb n 0xffff_ffff (omega (arith, small)), r.are_bytes)

-- texts of a sort
module _ (sort : List ℕ → Bool) where
  sorted_again : (text rest : List ℕ) → (is_content text && sort text) ≡ true → but (λ text. not (sort text)) (length (text64_bytes text ++ rest)) (text_read 8 (text64_bytes text ++ rest)) ≡ Ok (text, rest)
  sorted_again text rest h =
      let parts = and_parts (is_content text) (sort text) h in
      let read : text_read 8 (text64_bytes text ++ rest) ≡ Ok (text, rest) = text_again 8 text rest (ltb-true (length text) 0x1_0000_0000_0000_0000 parts.0) in
      but_again (λ text. not (sort text)) (length (text64_bytes text ++ rest)) (text_read 8 (text64_bytes text ++ rest)) (text, rest) read (ap not parts.1)

  sorted_spelled : (bytes text rest : List ℕ) → AreBytes bytes → but (λ text. not (sort text)) (length bytes) (text_read 8 bytes) ≡ Ok (text, rest) → (bytes ≡ text64_bytes text ++ rest) × ((is_content text && sort text) ≡ true) × AreBytes rest
  sorted_spelled bytes text rest are e =
      let b = but_ok (λ text. not (sort text)) (length bytes) (text_read 8 bytes) (text, rest) e in
      let r = text_spelled 8 bytes text rest are b.0 in
      (r.written, and_from _ _ (lt-ltb (length text) 0x1_0000_0000_0000_0000 r.small) (not-false (sort text) b.1), r.are_bytes)

use_again : (made : List (List ℕ)) (text rest : List ℕ) → is_use text ≡ true → use_read (text64_bytes text ++ rest) ≡ Ok (text, rest)
unfolding use_read
use_again made text rest h = sorted_again is_use_text text rest h

use_spelled : (made : List (List ℕ)) (bytes text rest : List ℕ) → AreBytes bytes → use_read bytes ≡ Ok (text, rest) → (bytes ≡ text64_bytes text ++ rest) × (is_use text ≡ true) × AreBytes rest
unfolding use_read
use_spelled made bytes text rest are e = sorted_spelled is_use_text bytes text rest are e

type_again : (made : List (List ℕ)) (text rest : List ℕ) → is_type text ≡ true → type_text_read (text64_bytes text ++ rest) ≡ Ok (text, rest)
unfolding type_text_read
type_again made text rest h = sorted_again is_type_text text rest h

type_spelled : (made : List (List ℕ)) (bytes text rest : List ℕ) → AreBytes bytes → type_text_read bytes ≡ Ok (text, rest) → (bytes ≡ text64_bytes text ++ rest) × (is_type text ≡ true) × AreBytes rest
unfolding type_text_read
type_spelled made bytes text rest are e = sorted_spelled is_type_text bytes text rest are e

int_fits : (z : ℤ) → is_int z ≡ true → FitsSigned w64 z
int_fits (pos n) h = record { sfits = ltb-true n 0x8000_0000_0000_0000 h }
int_fits (negsuc n) h = record { sfits = ltb-true n 0x8000_0000_0000_0000 h }

int_is : (z : ℤ) → FitsSigned w64 z → is_int z ≡ true
int_is (pos n) fits = lt-ltb n 0x8000_0000_0000_0000 fits.sfits
int_is (negsuc n) fits = lt-ltb n 0x8000_0000_0000_0000 fits.sfits

constant_again : (made : List ObjConst) (k : ObjConst) (rest : List ℕ) → is_constant k ≡ true → constant_read (constant_bytes k ++ rest) ≡ Ok (k, rest)
unfolding constant_by
constant_again made (constant.Value value.Null) rest h = refl
constant_again made (constant.Value (value.Bool true)) rest h = refl
constant_again made (constant.Value (value.Bool false)) rest h = refl
constant_again made (constant.Value (value.Int n)) rest h = rw (signed_again n rest (int_fits n h)) refl
constant_again made (constant.Value (value.Char b)) rest h = refl
constant_again made (constant.Value (value.Str text)) rest h = rw (text_again 8 text rest (ltb-true (length text) 0x1_0000_0000_0000_0000 h)) refl
constant_again made (constant.Param n) rest h =
    let parts = and_parts (nat_lt 0 n) (is_number n) h in
    let above : 0 < n = ltb-true 0 n parts.0 in
    let some : (n == 0) ≡ false = ne_eqb n 0 (λ e. omega (arith, e, above)) in
    rw (word_again [] n rest parts.1, some) refl

-- a constant behind the byte of its kind
abbrev Spelled : ℕ → List ℕ → ObjConst → List ℕ → Type 0
Spelled kind bytes k rest = (kind ∷ bytes ≡ constant_bytes k ++ rest) × (is_constant k ≡ true) × AreBytes rest

bool_spelled : (bytes : List ℕ) (k : ObjConst) (rest : List ℕ) → AreBytes bytes → bool_read bytes ≡ Ok (k, rest) → Spelled 1 bytes k rest
bool_spelled bytes k rest are e =
    let b = and_then (byte_read bytes) (λ (x : ℕ × List ℕ). bool_of x.0 bytes x.1) (k, rest) e in
    let byte = byte_spelled bytes b.0.0 b.0.1 are b.1 in
    by b.0.0 (b.0.0 == 0) refl (b.0.0 == 1) refl b.0.1 byte.0 byte.1 b.2
  where
    by : (n : ℕ) (zeroed : Bool) → (n == 0) ≡ zeroed → (oned : Bool) → (n == 1) ≡ oned → (after : List ℕ) → bytes ≡ n ∷ after → AreBytes after
        → ◌≡◌ {A = Read ObjConst} (if zeroed then Ok (constant.Value (value.Bool false), after) else (if oned then Ok (constant.Value (value.Bool true), after) else Err (length bytes))) (Ok (k, rest)) → Spelled 1 bytes k rest
    by n true z oned o after is behind r =
        let n_is : n ≡ 0 = eqb-true n 0 z in
        let read : Spelled 1 (n ∷ after) (constant.Value (value.Bool false)) after = (ap (λ (m : ℕ). 1 ∷ m ∷ after) n_is, refl, behind) in
        subst (λ (bs : List ℕ). Spelled 1 bs k rest) (sym is) (told (Spelled 1 (n ∷ after)) (constant.Value (value.Bool false), after) (k, rest) r read)
    by n false z true o after is behind r =
        let n_is : n ≡ 1 = eqb-true n 1 o in
        let read : Spelled 1 (n ∷ after) (constant.Value (value.Bool true)) after = (ap (λ (m : ℕ). 1 ∷ m ∷ after) n_is, refl, behind) in
        subst (λ (bs : List ℕ). Spelled 1 bs k rest) (sym is) (told (Spelled 1 (n ∷ after)) (constant.Value (value.Bool true), after) (k, rest) r read)
    by n false z false o after is behind r = absurd (cc)

int_spelled : (bytes : List ℕ) (k : ObjConst) (rest : List ℕ) → AreBytes bytes → int_read bytes ≡ Ok (k, rest) → Spelled 2 bytes k rest
int_spelled bytes k rest are e =
    let n = and_then (signed_read bytes) (λ (x : ℤ × List ℕ). Ok (constant.Value (value.Int x.0), x.1)) (k, rest) e in
    let read = signed_spelled bytes n.0.0 n.0.1 are n.1 in
    let spelled : Spelled 2 bytes (constant.Value (value.Int n.0.0)) n.0.1 = (ap (λ (bs : List ℕ). 2 ∷ bs) read.written, int_is n.0.0 read.fits, read.are_bytes) in
    told (Spelled 2 bytes) (constant.Value (value.Int n.0.0), n.0.1) (k, rest) n.2 spelled

char_spelled : (bytes : List ℕ) (k : ObjConst) (rest : List ℕ) → AreBytes bytes → char_read bytes ≡ Ok (k, rest) → Spelled 3 bytes k rest
char_spelled bytes k rest are e =
    let b = and_then (byte_read bytes) (λ (x : ℕ × List ℕ). Ok (constant.Value (value.Char x.0), x.1)) (k, rest) e in
    let byte = byte_spelled bytes b.0.0 b.0.1 are b.1 in
    let spelled : Spelled 3 bytes (constant.Value (value.Char b.0.0)) b.0.1 = (ap (λ (bs : List ℕ). 3 ∷ bs) byte.0, refl, byte.1) in
    told (Spelled 3 bytes) (constant.Value (value.Char b.0.0), b.0.1) (k, rest) b.2 spelled

string_spelled : (bytes : List ℕ) (k : ObjConst) (rest : List ℕ) → AreBytes bytes → string_read bytes ≡ Ok (k, rest) → Spelled 4 bytes k rest
string_spelled bytes k rest are e =
    let t = and_then (text_read 8 bytes) (λ (x : List ℕ × List ℕ). Ok (constant.Value (value.Str x.0), x.1)) (k, rest) e in
    let read = text_spelled 8 bytes t.0.0 t.0.1 are t.1 in
    let spelled : Spelled 4 bytes (constant.Value (value.Str t.0.0)) t.0.1 = (ap (λ (bs : List ℕ). 4 ∷ bs) read.written, lt-ltb (length t.0.0) 0x1_0000_0000_0000_0000 read.small, read.are_bytes) in
    told (Spelled 4 bytes) (constant.Value (value.Str t.0.0), t.0.1) (k, rest) t.2 spelled

parameter_spelled : (bytes : List ℕ) (k : ObjConst) (rest : List ℕ) → AreBytes bytes → parameter_read bytes ≡ Ok (k, rest) → Spelled 5 bytes k rest
parameter_spelled bytes k rest are e =
    let n = and_then (but (λ n. n == 0) (length bytes) (number_read 4 bytes)) (λ (x : ℕ × List ℕ). Ok (constant.Param x.0, x.1)) (k, rest) e in
    let b = but_ok (λ n. n == 0) (length bytes) (number_read 4 bytes) n.0 n.1 in
    let read = word_spelled [] bytes n.0.0 n.0.1 are b.0 in
    let above : 0 < n.0.0 = above_zero n.0.0 (eqb-false n.0.0 0 b.1) in
    let spelled : Spelled 5 bytes (constant.Param n.0.0) n.0.1 = (ap (λ (bs : List ℕ). 5 ∷ bs) read.0, and_from _ _ (lt-ltb 0 n.0.0 above) read.1, read.2) in
    told (Spelled 5 bytes) (constant.Param n.0.0, n.0.1) (k, rest) n.2 spelled
  where
    above_zero : (n : ℕ) → (n ≡ 0 → ⊥) → 0 < n
    above_zero n h = omega (arith, h)

constant_spelled : (made : List ObjConst) (bytes : List ℕ) (k : ObjConst) (rest : List ℕ) → AreBytes bytes → constant_read bytes ≡ Ok (k, rest) → (bytes ≡ constant_bytes k ++ rest) × (is_constant k ≡ true) × AreBytes rest
unfolding constant_by
constant_spelled made bytes k rest are e =
    let b = and_then (byte_read bytes) (λ (x : ℕ × List ℕ). constant_by x.0 bytes x.1) (k, rest) e in
    let byte = byte_spelled bytes b.0.0 b.0.1 are b.1 in
    let read : Spelled b.0.0 b.0.1 k rest = by b.0.0 b.0.1 byte.1 (b.0.0 == 0) (b.0.0 == 1) (b.0.0 == 2) (b.0.0 == 3) (b.0.0 == 4) (b.0.0 == 5) refl refl refl refl refl refl b.2 in
    (byte.0 ∙ read.0, read.1, read.2)
  where
    of_kind : (n m : ℕ) (after : List ℕ) → (n == m) ≡ true → Spelled m after k rest → Spelled n after k rest
    of_kind n m after e h = subst (λ (x : ℕ). Spelled x after k rest) (sym (eqb-true n m e)) h

    by : (n : ℕ) (after : List ℕ) → AreBytes after → (n0 n1 n2 n3 n4 n5 : Bool) → (n == 0) ≡ n0 → (n == 1) ≡ n1 → (n == 2) ≡ n2 → (n == 3) ≡ n3 → (n == 4) ≡ n4 → (n == 5) ≡ n5
        → ◌≡◌ {A = Read ObjConst} (if n0 then Ok (constant.Value value.Null, after) else (if n1 then bool_read after else (if n2 then int_read after else (if n3 then char_read after else (if n4 then string_read after else (if n5 then parameter_read after else Err (length bytes))))))) (Ok (k, rest)) → Spelled n after k rest
    by n after h true n1 n2 n3 n4 n5 e0 e1 e2 e3 e4 e5 r =
        let spelled : Spelled 0 after (constant.Value value.Null) after = (refl, refl, h) in
        of_kind n 0 after e0 (told (Spelled 0 after) (constant.Value value.Null, after) (k, rest) r spelled)
    by n after h false true n2 n3 n4 n5 e0 e1 e2 e3 e4 e5 r = of_kind n 1 after e1 (bool_spelled after k rest h r)
    by n after h false false true n3 n4 n5 e0 e1 e2 e3 e4 e5 r = of_kind n 2 after e2 (int_spelled after k rest h r)
    by n after h false false false true n4 n5 e0 e1 e2 e3 e4 e5 r = of_kind n 3 after e3 (char_spelled after k rest h r)
    by n after h false false false false true n5 e0 e1 e2 e3 e4 e5 r = of_kind n 4 after e4 (string_spelled after k rest h r)
    by n after h false false false false false true e0 e1 e2 e3 e4 e5 r = of_kind n 5 after e5 (parameter_spelled after k rest h r)
    by n after h false false false false false false e0 e1 e2 e3 e4 e5 r = absurd (cc)

-- Routines.

-- parts, one after the other, and what follows them
joined : (a b c d e f g h rest : List ℕ) → (a ++ b ++ c ++ d ++ e ++ f ++ g ++ h) ++ rest ≡ a ++ (b ++ (c ++ (d ++ (e ++ (f ++ (g ++ (h ++ rest)))))))
joined a b c d e f g h rest = simp append_assoc

-- what a test of a routine's parts says of each
pub record RoutineGood (r : ObjRoutine) : Type 0 where
  pub name : is_routine_name r.name ≡ true
  pub nodes : is_number r.nodes ≡ true
  pub code : is_list is_number r.code ≡ true
  pub few_holes : is_number (length r.holes) ≡ true
  pub holes : has_holes r ≡ true
  pub constants : is_list is_constant r.constants ≡ true
  pub uses : is_list is_use r.uses ≡ true
  pub types : is_list is_type r.types ≡ true
  pub few_regions : is_number (length r.regions) ≡ true
  pub regions : are_regions (length r.code) [] r.regions ≡ true

routine_good : (r : ObjRoutine) → is_routine r ≡ true → RoutineGood r
routine_good r h =
    let h1 = and_parts (is_coded r && is_list is_use r.uses && is_list is_type r.types && is_number (length r.regions)) (are_regions (length r.code) [] r.regions) h in
    let h2 = and_parts (is_coded r && is_list is_use r.uses && is_list is_type r.types) (is_number (length r.regions)) h1.0 in
    let h3 = and_parts (is_coded r && is_list is_use r.uses) (is_list is_type r.types) h2.0 in
    let h4 = and_parts (is_coded r) (is_list is_use r.uses) h3.0 in
    let h5 = and_parts (is_routine_name r.name && is_number r.nodes && is_list is_number r.code && is_number (length r.holes) && has_holes r) (is_list is_constant r.constants) h4.0 in
    let h6 = and_parts (is_routine_name r.name && is_number r.nodes && is_list is_number r.code && is_number (length r.holes)) (has_holes r) h5.0 in
    let h7 = and_parts (is_routine_name r.name && is_number r.nodes && is_list is_number r.code) (is_number (length r.holes)) h6.0 in
    let h8 = and_parts (is_routine_name r.name && is_number r.nodes) (is_list is_number r.code) h7.0 in
    let h9 = and_parts (is_routine_name r.name) (is_number r.nodes) h8.0 in
    record { name = h9.0; nodes = h9.1; code = h8.1; few_holes = h7.1; holes = h6.1; constants = h5.1; uses = h4.1; types = h3.1; few_regions = h2.1; regions = h1.1 }

good_routine : (r : ObjRoutine) → RoutineGood r → is_routine r ≡ true
good_routine r g = rw (g.name, g.nodes, g.code, g.few_holes, g.holes, g.constants, g.uses, g.types, g.few_regions, g.regions) refl

all_contents : (test : List ℕ → Bool) (texts : List (List ℕ)) → list_all (λ text. is_content text && test text) texts ≡ true → list_all is_content texts ≡ true
all_contents test [] h = refl
all_contents test (t ∷ texts) h =
    let parts = and_parts (is_content t && test t) (list_all (λ text. is_content text && test text) texts) h in
    and_from _ _ (and_parts (is_content t) (test t) parts.0).0 (all_contents test texts parts.1)

module _ (r : ObjRoutine) (rest : List ℕ) (g : RoutineGood r) where
  abbrev from_regions : List ℕ
  from_regions = regions_bytes r.regions ++ rest

  abbrev from_uses : List ℕ
  from_uses = texts_bytes r.uses ++ (constants_bytes r.constants ++ (texts_bytes r.types ++ from_regions))

  holes_there : holes_read r.code (holes_bytes r.holes ++ from_uses) ≡ Ok (r.holes, from_uses)
  holes_there =
      let uses = and_parts (is_number (length r.uses)) (list_all is_use r.uses) g.uses in
      let constants = and_parts (is_number (length r.constants)) (list_all is_constant r.constants) g.constants in
      let types = and_parts (is_number (length r.types)) (list_all is_type r.types) g.types in
      let code = and_parts (is_number (length r.code)) (list_all is_number r.code) g.code in
      let ahead : counts_ahead (length r.holes) (flat_map hole_bytes r.holes ++ from_uses) ≡ counts_of (length r.uses) (length r.constants) (length r.types) =
      ahead_is r.holes r.uses r.constants r.types from_regions uses.0 (all_contents is_use_text r.uses uses.1) constants.0 constants.1 types.0 in
      let holes = and_parts (are_holes r.code 0 r.holes) (are_named (length r.uses) (length r.constants) (length r.types) (length r.code) r.holes) g.holes in
      let good = holes_good r.code (length r.uses) (length r.constants) (length r.types) (leb-true (length r.code) 0xffff_ffff code.0) (leb-true (length r.uses) 0xffff_ffff uses.0) (leb-true (length r.constants) 0xffff_ffff constants.0) (leb-true (length r.types) 0xffff_ffff types.0) [] r.holes holes.0 holes.1 in
      let found : CountsAhead = counts_of (length r.uses) (length r.constants) (length r.types) in
      let read : counted (next_hole_read r.code found) (length r.holes) [] (flat_map hole_bytes r.holes ++ from_uses) ≡ Ok (r.holes, from_uses) =
      counted_again (next_hole_read r.code found) hole_bytes (HoleGood r.code found) (hole_again r.code found) [] r.holes from_uses good in
      holes_again r.code r.holes from_uses found g.few_holes ahead read

  coded_again : coded_read (text16_bytes r.name ++ (number_bytes r.nodes ++ (words_bytes r.code ++ (holes_bytes r.holes ++ from_uses)))) ≡ Ok (record { name = r.name; nodes = r.nodes; code = r.code; holes = r.holes }, from_uses)
  unfolding coded_read
  coded_again =
      let from_holes : List ℕ = holes_bytes r.holes ++ from_uses in
      let from_code : List ℕ = words_bytes r.code ++ from_holes in
      let from_nodes : List ℕ = number_bytes r.nodes ++ from_code in
      let name : text_read 2 (text16_bytes r.name ++ from_nodes) ≡ Ok (r.name, from_nodes) = text16_again r.name from_nodes (routine_name_short r.name g.name) in
      let nodes : number_read 4 from_nodes ≡ Ok (r.nodes, from_code) = word_again [] r.nodes from_code g.nodes in
      let words = list_good is_number r.code g.code in
      let code : code_read from_code ≡ Ok (r.code, from_holes) = list_again (λ made. number_read 4) number_bytes (Passes is_number) word_again r.code from_holes words.0 words.1 in
      rw (name, g.name, nodes, code, holes_there) refl

  items_again : items_read from_uses ≡ Ok (record { uses = r.uses; constants = r.constants; types = r.types }, from_regions)
  unfolding items_read
  items_again =
      let from_types : List ℕ = texts_bytes r.types ++ from_regions in
      let from_constants : List ℕ = constants_bytes r.constants ++ from_types in
      let good_uses = list_good is_use r.uses g.uses in
      let good_constants = list_good is_constant r.constants g.constants in
      let good_types = list_good is_type r.types g.types in
      let uses : list_read (λ made. use_read) from_uses ≡ Ok (r.uses, from_constants) = list_again (λ made. use_read) text64_bytes (Passes is_use) use_again r.uses from_constants good_uses.0 good_uses.1 in
      let constants : list_read (λ made. constant_read) from_constants ≡ Ok (r.constants, from_types) = list_again (λ made. constant_read) constant_bytes (Passes is_constant) constant_again r.constants from_types good_constants.0 good_constants.1 in
      let types : list_read (λ made. type_text_read) from_types ≡ Ok (r.types, from_regions) = list_again (λ made. type_text_read) text64_bytes (Passes is_type) type_again r.types from_regions good_types.0 good_types.1 in
      rw (uses, constants, types) refl

  regions_again : regions_read (length r.code) from_regions ≡ Ok (r.regions, rest)
  regions_again =
      let words : length r.code ≤ 0xffff_ffff = leb-true (length r.code) 0xffff_ffff (and_parts (is_number (length r.code)) (list_all is_number r.code) g.code).0 in
      let few_regions : length r.regions ≤ 0xffff_ffff = leb-true (length r.regions) 0xffff_ffff g.few_regions in
      list_again (next_region_read (length r.code)) region_bytes (EarlyRegion (length r.code)) (λ made x behind e. region_again (length r.code) made x behind words e.early e.good) r.regions rest g.few_regions (regions_good (length r.code) [] r.regions (omega (arith, few_regions)) g.regions)

routine_again : (made : List ObjRoutine) (r : ObjRoutine) (rest : List ℕ) → is_routine r ≡ true → routine_read (routine_bytes r ++ rest) ≡ Ok (r, rest)
unfolding routine_read routine_bytes
routine_again made r rest h =
    let g : RoutineGood r = routine_good r h in
    let shape : routine_bytes r ++ rest ≡ text16_bytes r.name ++ (number_bytes r.nodes ++ (words_bytes r.code ++ (holes_bytes r.holes ++ from_uses r rest g))) =
    joined (text16_bytes r.name) (number_bytes r.nodes) (words_bytes r.code) (holes_bytes r.holes) (texts_bytes r.uses) (constants_bytes r.constants) (texts_bytes r.types) (regions_bytes r.regions) rest in
    rw (shape, coded_again r rest g, items_again r rest g, regions_again r rest g) refl

-- What was read of a routine.

record CodedSpelled (bytes : List ℕ) (c : Coded) (rest : List ℕ) : Type 0 where
  pub written : bytes ≡ text16_bytes c.name ++ (number_bytes c.nodes ++ (words_bytes c.code ++ (holes_bytes c.holes ++ rest)))
  pub name : is_routine_name c.name ≡ true
  pub nodes : is_number c.nodes ≡ true
  pub code : is_list is_number c.code ≡ true
  pub few_holes : is_number (length c.holes) ≡ true
  pub holes : AllGood (HoleGood c.code (counts_ahead (length c.holes) (flat_map hole_bytes c.holes ++ rest))) [] c.holes
  pub are_bytes : AreBytes rest

coded_spelled : (bytes : List ℕ) (c : Coded) (rest : List ℕ) → AreBytes bytes → coded_read bytes ≡ Ok (c, rest) → CodedSpelled bytes c rest
unfolding coded_read
coded_spelled bytes c rest are e =
    let n = and_then (routine_name_read bytes) (λ (name : List ℕ × List ℕ). number_read 4 name.1 >>= λ nodes. code_read nodes.1 >>= λ code. holes_read code.0 code.1 >>= λ holes. Ok (record { name = name.0; nodes = nodes.0; code = code.0; holes = holes.0 }, holes.1)) (c, rest) e in
    let d = and_then (number_read 4 n.0.1) (λ (nodes : ℕ × List ℕ). code_read nodes.1 >>= λ code. holes_read code.0 code.1 >>= λ holes. Ok (record { name = n.0.0; nodes = nodes.0; code = code.0; holes = holes.0 }, holes.1)) (c, rest) n.2 in
    let k = and_then (code_read d.0.1) (λ (code : List ℕ × List ℕ). holes_read code.0 code.1 >>= λ holes. Ok (record { name = n.0.0; nodes = d.0.0; code = code.0; holes = holes.0 }, holes.1)) (c, rest) d.2 in
    let h = and_then (holes_read k.0.0 k.0.1) (λ (holes : List Hole × List ℕ). Ok (record { name = n.0.0; nodes = d.0.0; code = k.0.0; holes = holes.0 }, holes.1)) (c, rest) k.2 in
    let named = but_ok (λ name. not (is_routine_name name)) (length bytes) (text_read 2 bytes) n.0 n.1 in
    let name = text_spelled 2 bytes n.0.0 n.0.1 are named.0 in
    let is_name : is_routine_name n.0.0 ≡ true = not-false (is_routine_name n.0.0) named.1 in
    let nodes = word_spelled [] n.0.1 d.0.0 d.0.1 name.are_bytes d.1 in
    let code = list_spelled (λ made. number_read 4) number_bytes (Passes is_number) word_spelled d.0.1 k.0.0 k.0.1 nodes.2 k.1 in
    let holes = holes_spelled k.0.0 k.0.1 h.0.0 h.0.1 code.3 h.1 in
    let made : Coded = record { name = n.0.0; nodes = d.0.0; code = k.0.0; holes = h.0.0 } in
    let name_bytes : (little_bytes 2 (length n.0.0) ++ n.0.0) ≡ text16_bytes n.0.0 = sym (text16_is n.0.0 (routine_name_short n.0.0 is_name)) in
    let spelled : CodedSpelled bytes made h.0.1 = record {
      written = name.written ∙ ap (λ (bs : List ℕ). bs ++ n.0.1) name_bytes ∙ ap (λ (bs : List ℕ). text16_bytes n.0.0 ++ bs) (nodes.0 ∙ ap (λ (bs : List ℕ). number_bytes d.0.0 ++ bs) (code.0 ∙ ap (λ (bs : List ℕ). words_bytes k.0.0 ++ bs) holes.written));
      name = is_name;
      nodes = nodes.1;
      code = good_list is_number k.0.0 code.1 code.2;
      few_holes = holes.few;
      holes = holes.good;
      are_bytes = holes.are_bytes;
    } in
    told (CodedSpelled bytes) (made, h.0.1) (c, rest) h.2 spelled

record ItemsSpelled (bytes : List ℕ) (i : Items) (rest : List ℕ) : Type 0 where
  pub written : bytes ≡ texts_bytes i.uses ++ (constants_bytes i.constants ++ (texts_bytes i.types ++ rest))
  pub uses : is_list is_use i.uses ≡ true
  pub constants : is_list is_constant i.constants ≡ true
  pub types : is_list is_type i.types ≡ true
  pub are_bytes : AreBytes rest

items_spelled : (bytes : List ℕ) (i : Items) (rest : List ℕ) → AreBytes bytes → items_read bytes ≡ Ok (i, rest) → ItemsSpelled bytes i rest
unfolding items_read
items_spelled bytes i rest are e =
    let u = and_then (list_read (λ made. use_read) bytes) (λ (uses : List (List ℕ) × List ℕ). list_read (λ made. constant_read) uses.1 >>= λ constants. list_read (λ made. type_text_read) constants.1 >>= λ types. Ok (record { uses = uses.0; constants = constants.0; types = types.0 }, types.1)) (i, rest) e in
    let k = and_then (list_read (λ made. constant_read) u.0.1) (λ (constants : List ObjConst × List ℕ). list_read (λ made. type_text_read) constants.1 >>= λ types. Ok (record { uses = u.0.0; constants = constants.0; types = types.0 }, types.1)) (i, rest) u.2 in
    let t = and_then (list_read (λ made. type_text_read) k.0.1) (λ (types : List (List ℕ) × List ℕ). Ok (record { uses = u.0.0; constants = k.0.0; types = types.0 }, types.1)) (i, rest) k.2 in
    let uses = list_spelled (λ made. use_read) text64_bytes (Passes is_use) use_spelled bytes u.0.0 u.0.1 are u.1 in
    let constants = list_spelled (λ made. constant_read) constant_bytes (Passes is_constant) constant_spelled u.0.1 k.0.0 k.0.1 uses.3 k.1 in
    let types = list_spelled (λ made. type_text_read) text64_bytes (Passes is_type) type_spelled k.0.1 t.0.0 t.0.1 constants.3 t.1 in
    let made : Items = record { uses = u.0.0; constants = k.0.0; types = t.0.0 } in
    let spelled : ItemsSpelled bytes made t.0.1 = record {
      written = uses.0 ∙ ap (λ (bs : List ℕ). texts_bytes u.0.0 ++ bs) (constants.0 ∙ ap (λ (bs : List ℕ). constants_bytes k.0.0 ++ bs) types.0);
      uses = good_list is_use u.0.0 uses.1 uses.2;
      constants = good_list is_constant k.0.0 constants.1 constants.2;
      types = good_list is_type t.0.0 types.1 types.2;
      are_bytes = types.3;
    } in
    told (ItemsSpelled bytes) (made, t.0.1) (i, rest) t.2 spelled

routine_spelled : (made : List ObjRoutine) (bytes : List ℕ) (r : ObjRoutine) (rest : List ℕ) → AreBytes bytes → routine_read bytes ≡ Ok (r, rest) → (bytes ≡ routine_bytes r ++ rest) × (is_routine r ≡ true) × AreBytes rest
unfolding routine_read routine_bytes
routine_spelled made bytes r rest are e =
    let c = and_then (coded_read bytes) (λ (coded : Coded × List ℕ). items_read coded.1 >>= λ items. regions_read (length coded.0.code) items.1 >>= λ regions. Ok (routine_of coded.0 items.0 regions.0, regions.1)) (r, rest) e in
    let i = and_then (items_read c.0.1) (λ (items : Items × List ℕ). regions_read (length c.0.0.code) items.1 >>= λ regions. Ok (routine_of c.0.0 items.0 regions.0, regions.1)) (r, rest) c.2 in
    let g = and_then (regions_read (length c.0.0.code) i.0.1) (λ (regions : List Region × List ℕ). Ok (routine_of c.0.0 i.0.0 regions.0, regions.1)) (r, rest) i.2 in
    let coded = coded_spelled bytes c.0.0 c.0.1 are c.1 in
    let items = items_spelled c.0.1 i.0.0 i.0.1 coded.are_bytes i.1 in
    let regions = list_spelled (next_region_read (length c.0.0.code)) region_bytes (RegionGood (length c.0.0.code)) (region_spelled (length c.0.0.code)) i.0.1 g.0.0 g.0.1 items.are_bytes g.1 in
    let read : ObjRoutine = routine_of c.0.0 i.0.0 g.0.0 in
    let uses = and_parts (is_number (length read.uses)) (list_all is_use read.uses) items.uses in
    let constants = and_parts (is_number (length read.constants)) (list_all is_constant read.constants) items.constants in
    let types = and_parts (is_number (length read.types)) (list_all is_type read.types) items.types in
    let ahead : counts_ahead (length read.holes) (flat_map hole_bytes read.holes ++ c.0.1) ≡ counts_of (length read.uses) (length read.constants) (length read.types) =
    ap (λ (bs : List ℕ). counts_ahead (length read.holes) (flat_map hole_bytes read.holes ++ bs)) items.written
    ∙ ahead_is read.holes read.uses read.constants read.types i.0.1 uses.0 (all_contents is_use_text read.uses uses.1) constants.0 constants.1 types.0 in
    let holes = good_holes read.code (length read.uses) (length read.constants) (length read.types) [] read.holes (subst (λ (a : CountsAhead). AllGood (HoleGood read.code a) [] read.holes) ahead coded.holes) in
    let good : RoutineGood read = record {
      name = coded.name;
      nodes = coded.nodes;
      code = coded.code;
      few_holes = coded.few_holes;
      holes = and_from _ _ holes.0 holes.1;
      constants = items.constants;
      uses = items.uses;
      types = items.types;
      few_regions = regions.1;
      regions = good_regions (length read.code) [] read.regions regions.2;
    } in
    let shape = joined (text16_bytes read.name) (number_bytes read.nodes) (words_bytes read.code) (holes_bytes read.holes) (texts_bytes read.uses) (constants_bytes read.constants) (texts_bytes read.types) (regions_bytes read.regions) g.0.1 in
    let behind : c.0.1 ≡ texts_bytes read.uses ++ (constants_bytes read.constants ++ (texts_bytes read.types ++ (regions_bytes read.regions ++ g.0.1))) =
    items.written ∙ ap (λ (bs : List ℕ). texts_bytes read.uses ++ (constants_bytes read.constants ++ (texts_bytes read.types ++ bs))) regions.0 in
    let written : bytes ≡ routine_bytes read ++ g.0.1 =
    coded.written ∙ ap (λ (bs : List ℕ). text16_bytes read.name ++ (number_bytes read.nodes ++ (words_bytes read.code ++ (holes_bytes read.holes ++ bs)))) behind ∙ sym shape in
    told (λ x behind. (bytes ≡ routine_bytes x ++ behind) × (is_routine x ≡ true) × AreBytes behind) (read, g.0.1) (r, rest) g.2 (written, good_routine read good, regions.3)

-- Objects.

signature : (bytes rest : List ℕ) → mark_read (codes "CLUO") bytes ≡ Ok rest → bytes ≡ codes "CLUO" ++ rest
signature bytes rest e =
    let p = passed (starts_with nat_eq bytes (codes "CLUO")) (length bytes) (Ok (drop 4 bytes)) rest e in
    let rest_is : drop 4 bytes ≡ rest = ok_same (Ok (drop 4 bytes)) (drop 4 bytes) rest refl p.1 in
    let same : codes "CLUO" ≡ take 4 bytes = (bytes_decides (codes "CLUO") (take 4 bytes)).0 p.0 in
    sym (take-append-drop 4 bytes) ∙ ap (λ (bs : List ℕ). bs ++ drop 4 bytes) (sym same) ∙ ap (λ (bs : List ℕ). codes "CLUO" ++ bs) rest_is

pub object_again : (o : Object) → is_object o ≡ true → object_read (object_bytes o) ≡ Ok o
unfolding object_read head_read
object_again o h =
    let parts = and_parts (is_module_name o.«module») (is_list is_routine o.routines) h in
    let routines = list_good is_routine o.routines parts.1 in
    let from_routines : List ℕ = routines_bytes o.routines in
    let from_name : List ℕ = text16_bytes o.«module» ++ from_routines in
    let from_version : List ℕ = number_bytes 2 ++ from_name in
    let shape : object_bytes o ≡ codes "CLUO" ++ from_version =
    append_assoc (codes "CLUO" ++ number_bytes 2) (text16_bytes o.«module») from_routines ∙ append_assoc (codes "CLUO") (number_bytes 2) from_name in
    let version : version_read from_version ≡ Ok (2, from_name) = but_again (λ version. not (version == 2)) (length from_version) (number_read 4 from_version) (2, from_name) (number_again 4 2 from_name (omega arith)) refl in
    let name : text_read 2 from_name ≡ Ok (o.«module», from_routines) = text16_again o.«module» from_routines (module_name_short o.«module» parts.0) in
    let is_first : (is_module_name o.«module» && is_after [] o.«module») ≡ true = and_from _ _ parts.0 (first_name o.«module» parts.0) in
    let named : module_read [] from_name ≡ Ok (o.«module», from_routines) =
    then_ok (text_read 2 from_name) (λ x. if is_module_name x.0 && is_after [] x.0 then Ok x else Err (length from_name)) (o.«module», from_routines) (Ok (o.«module», from_routines)) name
    (if_so (is_module_name o.«module» && is_after [] o.«module») (length from_name) (Ok (o.«module», from_routines)) is_first) in
    let head : head_read (codes "CLUO" ++ from_version) ≡ Ok (o.«module», from_routines) =
    then_ok (version_read from_version) (λ version. module_read [] version.1) (2, from_name) (Ok (o.«module», from_routines)) version named in
    let all : list_read (λ made. routine_read) from_routines ≡ Ok (o.routines, []) =
    ap (list_read (λ made. routine_read)) (sym (append-nil from_routines)) ∙ list_again (λ made. routine_read) routine_bytes (Passes is_routine) routine_again o.routines [] routines.0 routines.1 in
    let last : last_routines_read from_routines ≡ Ok o.routines =
    then_ok (list_read (λ made. routine_read) from_routines) (λ routines. end_at routines.0 routines.1) (o.routines, []) (Ok o.routines) all refl in
    ap object_read shape
    ∙ then_ok (head_read (codes "CLUO" ++ from_version)) (λ name. last_routines_read name.1 >>= λ routines. Ok (record { «module» = name.0; routines = routines })) (o.«module», from_routines) (Ok o) head
    (then_ok (last_routines_read from_routines) (λ routines. Ok (record { «module» = o.«module»; routines = routines })) o.routines (Ok o) last refl)
  where
    if_so : {A : Type 0} (c : Bool) (left : ℕ) (r : Result A ℕ) → c ≡ true → (if c then r else Err left) ≡ r
    if_so true left r e = refl
    if_so false left r e = absurd (cc)

pub object_spelled : (bytes : List ℕ) (o : Object) → AreBytes bytes → object_read bytes ≡ Ok o → (bytes ≡ object_bytes o) × (is_object o ≡ true)
unfolding object_read head_read
object_spelled bytes o are e =
    let h = and_then (head_read bytes) (λ (name : List ℕ × List ℕ). last_routines_read name.1 >>= λ routines. Ok (record { «module» = name.0; routines = routines })) o e in
    let r = and_then (last_routines_read h.0.1) (λ (routines : List ObjRoutine). Ok (record { «module» = h.0.0; routines = routines })) o h.2 in
    let m = and_then (mark_read (codes "CLUO") bytes) (λ (rest : List ℕ). version_read rest >>= λ version. module_read [] version.1) h.0 h.1 in
    let v = and_then (version_read m.0) (λ (version : ℕ × List ℕ). module_read [] version.1) h.0 m.2 in
    let n = and_then (text_read 2 v.0.1) (λ (x : List ℕ × List ℕ). if is_module_name x.0 && is_after [] x.0 then Ok x else Err (length v.0.1)) h.0 v.2 in
    let a = and_then (list_read (λ made. routine_read) h.0.1) (λ (routines : List ObjRoutine × List ℕ). end_at routines.0 routines.1) r.0 r.1 in
    let mark : bytes ≡ codes "CLUO" ++ m.0 = signature bytes m.0 m.1 in
    let marked_bytes : AreBytes m.0 = λ k. (subst AreBytes mark are) (suc (suc (suc (suc k)))) in
    let version = but_ok (λ version. not (version == 2)) (length m.0) (number_read 4 m.0) v.0 v.1 in
    let number = number_spelled 4 m.0 v.0.0 v.0.1 marked_bytes version.0 in
    let two : v.0.0 ≡ 2 = eqb-true v.0.0 2 (not-false (v.0.0 == 2) version.1) in
    let text = text_spelled 2 v.0.1 n.0.0 n.0.1 number.are_bytes n.1 in
    let named = passed (is_module_name n.0.0 && is_after [] n.0.0) (length v.0.1) (Ok n.0) h.0 n.2 in
    let name_is : n.0.0 ≡ h.0.0 = value_is _ _ (named.1) in
    let behind_same : n.0.1 ≡ h.0.1 = behind_is _ _ (named.1) in
    let is_name : is_module_name n.0.0 ≡ true = (and_parts (is_module_name n.0.0) (is_after [] n.0.0) named.0).0 in
    let all = list_spelled (λ made. routine_read) routine_bytes (Passes is_routine) routine_spelled h.0.1 a.0.0 a.0.1 (subst AreBytes behind_same text.are_bytes) a.1 in
    let ended = ended_spelled a.0.0 a.0.1 r.0 a.2 in
    let read : Object = record { «module» = h.0.0; routines = r.0 } in
    let o_is : read ≡ o = ok_same (Ok read) read o refl r.2 in
    let from_routines : h.0.1 ≡ routines_bytes r.0 = all.0 ∙ ap (λ (bs : List ℕ). routines_bytes a.0.0 ++ bs) ended.1 ∙ append-nil (routines_bytes a.0.0) ∙ ap routines_bytes ended.0 in
    let name_bytes : (little_bytes 2 (length n.0.0) ++ n.0.0) ≡ text16_bytes h.0.0 = sym (text16_is n.0.0 (module_name_short n.0.0 is_name)) ∙ ap text16_bytes name_is in
    let from_name : v.0.1 ≡ text16_bytes h.0.0 ++ routines_bytes r.0 = text.written ∙ ap (λ (bs : List ℕ). bs ++ n.0.1) name_bytes ∙ ap (λ (bs : List ℕ). text16_bytes h.0.0 ++ bs) (behind_same ∙ from_routines) in
    let from_version : m.0 ≡ number_bytes 2 ++ (text16_bytes h.0.0 ++ routines_bytes r.0) = number.written ∙ ap (λ (x : ℕ). number_bytes x ++ v.0.1) two ∙ ap (λ (bs : List ℕ). number_bytes 2 ++ bs) from_name in
    let shape : object_bytes read ≡ codes "CLUO" ++ (number_bytes 2 ++ (text16_bytes h.0.0 ++ routines_bytes r.0)) =
    append_assoc (codes "CLUO" ++ number_bytes 2) (text16_bytes h.0.0) (routines_bytes r.0) ∙ append_assoc (codes "CLUO") (number_bytes 2) (text16_bytes h.0.0 ++ routines_bytes r.0) in
    let written : bytes ≡ object_bytes read = mark ∙ ap (λ (bs : List ℕ). codes "CLUO" ++ bs) from_version ∙ sym shape in
    let good : is_object read ≡ true = and_from _ _ (subst (λ (x : List ℕ). is_module_name x ≡ true) name_is is_name) (subst (λ (rs : List ObjRoutine). is_list is_routine rs ≡ true) ended.0 (good_list is_routine a.0.0 all.1 all.2)) in
    (subst (λ (x : Object). bytes ≡ object_bytes x) o_is written, subst (λ (x : Object). is_object x ≡ true) o_is good)
