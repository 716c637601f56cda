-- Arms and regions: written and read, and how they nest.
use Rattle.std.proofs.Common.{◌≡◌, ℕ, suc, ◌+◌, ◌^◌, ◌<◌, ◌≤◌, ◌&&◌, ◌==◌, not, nat_lt, nat_le, Bool, true, false, List, [], ◌∷◌, ◌++◌, length, drop, Option, Some, None, Ok, Err, if◌then◌else◌, refl, sym, ap, subst, ◌∙◌, append_assoc, arith}
use Rattle.std.specs.Prelude.{slice_get}
use Rattle.std.specs.List.{list_all}
use Rattle.std.proofs.lemmas.Bool.{leb-true, le-leb, ltb-true, ltb-false, lt-ltb, le-ltb, eqb-true, ne_eqb, and_parts, and_from, not-false}
use Rattle.std.proofs.lemmas.List.{length_push, length-map, map-append}
use Rattle.std.proofs.lemmas.Option.{slice_get_within}
use Rattle.byteorder.specs.Endian.{little_bytes}
use Rattle.clu_wir.specs.declared.region.Arm.{Arm}
use Rattle.clu_specs.specs.Reading.{Read, ◌>>=◌}
use Rattle.clu_specs.proofs.Outcomes.{and_then, passed, not_refused}
use Rattle.clu_format.specs.Fields.{number_read, text_read, text16_bytes}
use Rattle.clu_object.specs.declared.object.Region.{Region}
use Rattle.clu_object.specs.Nesting.{nests, span, spans, lies_round, lies_apart}
use Rattle.clu_object.specs.ObjectFile.{number_bytes, arm_bytes, arms_bytes, parent_number, region_bytes}
use Rattle.clu_object.specs.ObjectReading.{is_arm_name, arm_name_read, target_read, arm_read, arms_read, range_read, parent_of, parent_read, region_read, next_region_read}
use Rattle.clu_object.specs.Objects.{is_number, is_arm, is_list, is_region, are_regions}
use Rattle.clu_object.proofs.FieldLaws.{value_is, behind_is, told, AreBytes, number_again, number_spelled, text_spelled, text16_is, text16_again, then_ok, otherwise, but_ok, but_again}
use Rattle.clu_object.proofs.ListLaws.{AllGood, Passes, list_again, list_spelled, list_good, good_list}
use Rattle.clu_object.proofs.NameLaws.{arm_name_short}

-- Arms.

pub arm_again : (words : ℕ) (made : List Arm) (a : Arm) (rest : List ℕ) → words ≤ 0xffff_ffff → is_arm words a ≡ true → arm_read words (arm_bytes a ++ rest) ≡ Ok (a, rest)
arm_again words made a rest few h =
    let outer = and_parts (is_arm_name a.name && nat_lt a.target words) (is_number a.mark) h in
    let inner = and_parts (is_arm_name a.name) (nat_lt a.target words) outer.0 in
    let short : length a.name ≤ 0xffff = arm_name_short a.name inner.0 in
    let below : a.target < words = ltb-true a.target words inner.1 in
    let mark_small : a.mark ≤ 0xffff_ffff = leb-true a.mark 0xffff_ffff outer.1 in
    let behind_target : List ℕ = number_bytes a.mark ++ rest in
    let behind_name : List ℕ = number_bytes a.target ++ behind_target in
    let bytes : List ℕ = text16_bytes a.name ++ behind_name in
    let name : arm_name_read bytes ≡ Ok (a.name, behind_name) = but_again (λ name. not (is_arm_name name)) (length bytes) (text_read 2 bytes) (a.name, behind_name) (text16_again a.name behind_name short) (ap not inner.0) in
    let target : target_read words behind_name ≡ Ok (a.target, behind_target) =
    but_again (λ target. not (nat_lt target words)) (length behind_name) (number_read 4 behind_name) (a.target, behind_target) (number_again 4 a.target behind_target (omega (arith, below, few))) (ap not inner.1) in
    let mark : number_read 4 behind_target ≡ Ok (a.mark, rest) = number_again 4 a.mark rest (omega (arith, mark_small)) in
    let shape : arm_bytes a ++ rest ≡ bytes =
    append_assoc (text16_bytes a.name ++ number_bytes a.target) (number_bytes a.mark) rest ∙ append_assoc (text16_bytes a.name) (number_bytes a.target) behind_target in
    ap (arm_read words) shape
    ∙ then_ok (arm_name_read bytes) (λ name. target_read words name.1 >>= λ target. number_read 4 target.1 >>= λ mark. Ok (record { name = name.0; target = target.0; mark = mark.0 }, mark.1)) (a.name, behind_name) (Ok (a, rest)) name
    (then_ok (target_read words behind_name) (λ target. number_read 4 target.1 >>= λ mark. Ok (record { name = a.name; target = target.0; mark = mark.0 }, mark.1)) (a.target, behind_target) (Ok (a, rest)) target
    (then_ok (number_read 4 behind_target) (λ mark. Ok (record { name = a.name; target = a.target; mark = mark.0 }, mark.1)) (a.mark, rest) (Ok (a, rest)) mark refl))

pub arm_spelled : (words : ℕ) (made : List Arm) (bytes : List ℕ) (a : Arm) (rest : List ℕ) → AreBytes bytes → arm_read words bytes ≡ Ok (a, rest)
    → (bytes ≡ arm_bytes a ++ rest) × (is_arm words a ≡ true) × AreBytes rest
arm_spelled words made bytes a rest are e =
    let p = and_then (arm_name_read bytes) (λ (name : List ℕ × List ℕ). target_read words name.1 >>= λ target. number_read 4 target.1 >>= λ mark. Ok (record { name = name.0; target = target.0; mark = mark.0 }, mark.1)) (a, rest) e in
    let t = and_then (target_read words p.0.1) (λ (target : ℕ × List ℕ). number_read 4 target.1 >>= λ mark. Ok (record { name = p.0.0; target = target.0; mark = mark.0 }, mark.1)) (a, rest) p.2 in
    let m = and_then (number_read 4 t.0.1) (λ (mark : ℕ × List ℕ). Ok (record { name = p.0.0; target = t.0.0; mark = mark.0 }, mark.1)) (a, rest) t.2 in
    let named = but_ok (λ name. not (is_arm_name name)) (length bytes) (text_read 2 bytes) p.0 p.1 in
    let name = text_spelled 2 bytes p.0.0 p.0.1 are named.0 in
    let is_name : is_arm_name p.0.0 ≡ true = not-false (is_arm_name p.0.0) named.1 in
    let targeted = but_ok (λ target. not (nat_lt target words)) (length p.0.1) (number_read 4 p.0.1) t.0 t.1 in
    let target = number_spelled 4 p.0.1 t.0.0 t.0.1 name.are_bytes targeted.0 in
    let below : nat_lt t.0.0 words ≡ true = not-false (nat_lt t.0.0 words) targeted.1 in
    let mark = number_spelled 4 t.0.1 m.0.0 m.0.1 target.are_bytes m.1 in
    let made_arm : Arm = record { name = p.0.0; target = t.0.0; mark = m.0.0 } in
    let shape : arm_bytes made_arm ++ m.0.1 ≡ (little_bytes 2 (length p.0.0) ++ p.0.0) ++ (number_bytes t.0.0 ++ (number_bytes m.0.0 ++ m.0.1)) =
    ap (λ (bs : List ℕ). (bs ++ number_bytes t.0.0 ++ number_bytes m.0.0) ++ m.0.1) (text16_is p.0.0 (arm_name_short p.0.0 is_name))
    ∙ append_assoc ((little_bytes 2 (length p.0.0) ++ p.0.0) ++ number_bytes t.0.0) (number_bytes m.0.0) m.0.1
    ∙ append_assoc (little_bytes 2 (length p.0.0) ++ p.0.0) (number_bytes t.0.0) (number_bytes m.0.0 ++ m.0.1) in
    let written : bytes ≡ arm_bytes made_arm ++ m.0.1 =
    name.written ∙ ap (λ (bs : List ℕ). (little_bytes 2 (length p.0.0) ++ p.0.0) ++ bs) (target.written ∙ ap (λ (bs : List ℕ). number_bytes t.0.0 ++ bs) mark.written) ∙ sym shape in
    let good : is_arm words made_arm ≡ true = and_from _ _ (and_from _ _ is_name below) (le-leb m.0.0 0xffff_ffff (let lt : m.0.0 < 256 ^ 4 = mark.small in omega (arith, lt))) in
    told (λ x behind. (bytes ≡ arm_bytes x ++ behind) × (is_arm words x ≡ true) × AreBytes behind) (made_arm, m.0.1) (a, rest) m.2 (written, good, mark.are_bytes)

-- Regions.

pub nests_parts : (before : List (ℕ × ℕ)) (first last : ℕ) (parent : Option ℕ) → nests before first last parent ≡ true → first ≤ last
nests_parts before first last None h = leb-true first last (and_parts (nat_le first last) (list_all (lies_apart first last) before) h).0
nests_parts before first last (Some p) h = leb-true first last (and_parts (nat_le first last) (lies_round first last (slice_get before p) && list_all (lies_apart first last) (drop (suc p) before)) h).0

round_within : (before : List (ℕ × ℕ)) (first last p : ℕ) (o : Option (ℕ × ℕ)) → slice_get before p ≡ o → lies_round first last o ≡ true → p < length before
round_within before first last p (Some s) e h = slice_get_within before p s e
round_within before first last p None e h = absurd (cc)

-- the number of a parent, read again
pub parent_again : (before : List (ℕ × ℕ)) (first last : ℕ) (parent : Option ℕ) → length before < 0xffff_ffff → nests before first last parent ≡ true → (parent_number parent < 2 ^ 32) × (parent_of (parent_number parent) ≡ parent)
parent_again before first last None few h = (omega arith, refl)
parent_again before first last (Some p) few h =
    let inner = (and_parts (nat_le first last) (lies_round first last (slice_get before p) && list_all (lies_apart first last) (drop (suc p) before)) h).1 in
    let within : p < length before = round_within before first last p (slice_get before p) refl (and_parts (lies_round first last (slice_get before p)) (list_all (lies_apart first last) (drop (suc p) before)) inner).0 in
    let other : (p == 0xffff_ffff) ≡ false = ne_eqb p 0xffff_ffff (λ e. omega (arith, e, within, few)) in
    (omega (arith, within, few), rw other refl)

pub record RegionGood (words : ℕ) (made : List Region) (r : Region) : Type 0 where
  pub region : is_region words r ≡ true
  pub nested : nests (spans made) r.first r.last r.parent ≡ true

parent_written : (n : ℕ) → parent_number (parent_of n) ≡ n
parent_written n = by (n == 0xffff_ffff) refl
  where
    by : (t : Bool) → (n == 0xffff_ffff) ≡ t → parent_number (if t then None else Some n) ≡ n
    by true e = sym (eqb-true n 0xffff_ffff e)
    by false e = refl

accepted : {A : Type 0} (c : Bool) (left : ℕ) (p q : A × List ℕ) → c ≡ true → p ≡ q → ◌≡◌ {A = Read A} (if c then Ok p else Err left) (Ok q)
accepted true left p q e same = ap Ok same
accepted false left p q e same = absurd (cc)

range_again : (words first last : ℕ) (rest : List ℕ) → words ≤ 0xffff_ffff → first ≤ last → last < words → range_read words (number_bytes first ++ (number_bytes last ++ rest)) ≡ Ok ((first, last), rest)
range_again words first last rest few ordered below =
    let behind : List ℕ = number_bytes last ++ rest in
    let bytes : List ℕ = number_bytes first ++ behind in
    let more : ℕ × List ℕ → ℕ × List ℕ → Read (ℕ × ℕ) = λ f l. if nat_lt l.0 f.0 then Err (length bytes) else (if not (nat_lt l.0 words) then Err (length f.1) else Ok ((f.0, l.0), l.1)) in
    let first_in : not (nat_lt first words) ≡ false = ap not (lt-ltb first words (omega (arith, ordered, below))) in
    let last_in : not (nat_lt last words) ≡ false = ap not (lt-ltb last words below) in
    let in_order : nat_lt last first ≡ false = le-ltb last first ordered in
    then_ok (number_read 4 bytes) (λ f. if not (nat_lt f.0 words) then Err (length bytes) else (number_read 4 f.1 >>= λ l. more f l)) (first, behind) (Ok ((first, last), rest)) (number_again 4 first behind (omega (arith, ordered, below, few)))
    (otherwise (not (nat_lt first words)) (length bytes) (number_read 4 behind >>= λ l. more (first, behind) l) (Ok ((first, last), rest)) first_in
    (then_ok (number_read 4 behind) (λ l. more (first, behind) l) (last, rest) (Ok ((first, last), rest)) (number_again 4 last rest (omega (arith, below, few)))
    (otherwise (nat_lt last first) (length bytes) (if not (nat_lt last words) then Err (length behind) else Ok ((first, last), rest)) (Ok ((first, last), rest)) in_order
    (otherwise (not (nat_lt last words)) (length behind) (Ok ((first, last), rest)) (Ok ((first, last), rest)) last_in refl))))

pub region_again : (words : ℕ) (made : List Region) (r : Region) (rest : List ℕ) → words ≤ 0xffff_ffff → length made < 0xffff_ffff → RegionGood words made r → next_region_read words made (region_bytes r ++ rest) ≡ Ok (r, rest)
unfolding region_bytes region_read
region_again words made r rest few early good =
    let parts = and_parts (nat_lt r.last words) (is_list (is_arm words) r.arms) good.region in
    let last_below : r.last < words = ltb-true r.last words parts.0 in
    let ordered : r.first ≤ r.last = nests_parts (spans made) r.first r.last r.parent good.nested in
    let size : length (spans made) ≡ length made = length-map made span in
    let parent = parent_again (spans made) r.first r.last r.parent (omega (arith, size, early)) good.nested in
    let arms_good = list_good (is_arm words) r.arms parts.1 in
    let behind_parent : List ℕ = arms_bytes r.arms ++ rest in
    let behind_last : List ℕ = number_bytes (parent_number r.parent) ++ behind_parent in
    let behind_first : List ℕ = number_bytes r.last ++ behind_last in
    let shape : region_bytes r ++ rest ≡ number_bytes r.first ++ behind_first =
    append_assoc (number_bytes r.first ++ number_bytes r.last ++ number_bytes (parent_number r.parent)) (arms_bytes r.arms) rest
    ∙ append_assoc (number_bytes r.first ++ number_bytes r.last) (number_bytes (parent_number r.parent)) behind_parent
    ∙ append_assoc (number_bytes r.first) (number_bytes r.last) behind_last in
    let whole : List ℕ = number_bytes r.first ++ behind_first in
    let range : range_read words whole ≡ Ok ((r.first, r.last), behind_last) = range_again words r.first r.last behind_last few ordered last_below in
    let number : number_read 4 behind_last ≡ Ok (parent_number r.parent, behind_parent) = number_again 4 (parent_number r.parent) behind_parent parent.0 in
    let nested : nests (spans made) r.first r.last (parent_of (parent_number r.parent)) ≡ true = ap (nests (spans made) r.first r.last) parent.1 ∙ good.nested in
    let placed : parent_read (spans made) r.first r.last behind_last ≡ Ok (r.parent, behind_parent) =
    then_ok (number_read 4 behind_last) (λ n. if nests (spans made) r.first r.last (parent_of n.0) then Ok (parent_of n.0, n.1) else Err (length behind_last)) (parent_number r.parent, behind_parent) (Ok (r.parent, behind_parent)) number
    (accepted (nests (spans made) r.first r.last (parent_of (parent_number r.parent))) (length behind_last) (parent_of (parent_number r.parent), behind_parent) (r.parent, behind_parent) nested (ap (λ (p : Option ℕ). (p, behind_parent)) parent.1)) in
    let arms : arms_read words behind_parent ≡ Ok (r.arms, rest) =
    list_again (λ made. arm_read words) arm_bytes (Passes (is_arm words)) (λ made a rest h. arm_again words made a rest few h) r.arms rest arms_good.0 arms_good.1 in
    ap (next_region_read words made) shape
    ∙ then_ok (range_read words whole) (λ range. parent_read (spans made) range.0.0 range.0.1 range.1 >>= λ parent. arms_read words parent.1 >>= λ arms. Ok (record { first = range.0.0; last = range.0.1; parent = parent.0; arms = arms.0 }, arms.1)) ((r.first, r.last), behind_last) (Ok (r, rest)) range
    (then_ok (parent_read (spans made) r.first r.last behind_last) (λ parent. arms_read words parent.1 >>= λ arms. Ok (record { first = r.first; last = r.last; parent = parent.0; arms = arms.0 }, arms.1)) (r.parent, behind_parent) (Ok (r, rest)) placed
    (then_ok (arms_read words behind_parent) (λ arms. Ok (record { first = r.first; last = r.last; parent = r.parent; arms = arms.0 }, arms.1)) (r.arms, rest) (Ok (r, rest)) arms refl))

pub record RangeRead (words : ℕ) (bytes : List ℕ) (first last : ℕ) (rest : List ℕ) : Type 0 where
  pub written : bytes ≡ number_bytes first ++ (number_bytes last ++ rest)
  pub ordered : first ≤ last
  pub below : nat_lt last words ≡ true
  pub are_bytes : AreBytes rest

pub range_spelled : (words : ℕ) (bytes : List ℕ) (range : ℕ × ℕ) (rest : List ℕ) → AreBytes bytes → range_read words bytes ≡ Ok (range, rest) → RangeRead words bytes range.0 range.1 rest
range_spelled words bytes range rest are e =
    let more : ℕ × List ℕ → ℕ × List ℕ → Read (ℕ × ℕ) = λ first last. if nat_lt last.0 first.0 then Err (length bytes) else (if not (nat_lt last.0 words) then Err (length first.1) else Ok ((first.0, last.0), last.1)) in
    let f = and_then (number_read 4 bytes) (λ (first : ℕ × List ℕ). if not (nat_lt first.0 words) then Err (length bytes) else (number_read 4 first.1 >>= λ last. more first last)) (range, rest) e in
    let first = number_spelled 4 bytes f.0.0 f.0.1 are f.1 in
    let s = not_refused (not (nat_lt f.0.0 words)) (length bytes) (number_read 4 f.0.1 >>= λ last. more f.0 last) (range, rest) f.2 in
    let l = and_then (number_read 4 f.0.1) (λ (last : ℕ × List ℕ). more f.0 last) (range, rest) s.1 in
    let last = number_spelled 4 f.0.1 l.0.0 l.0.1 first.are_bytes l.1 in
    let t = not_refused (nat_lt l.0.0 f.0.0) (length bytes) (if not (nat_lt l.0.0 words) then Err (length f.0.1) else Ok ((f.0.0, l.0.0), l.0.1)) (range, rest) l.2 in
    let u = not_refused (not (nat_lt l.0.0 words)) (length f.0.1) (Ok ((f.0.0, l.0.0), l.0.1)) (range, rest) t.1 in
    let written : bytes ≡ number_bytes f.0.0 ++ (number_bytes l.0.0 ++ l.0.1) = first.written ∙ ap (λ (bs : List ℕ). number_bytes f.0.0 ++ bs) last.written in
    let ordered : f.0.0 ≤ l.0.0 = ltb-false l.0.0 f.0.0 t.0 in
    let below : nat_lt l.0.0 words ≡ true = not-false (nat_lt l.0.0 words) u.0 in
    told (λ x behind. RangeRead words bytes x.0 x.1 behind) ((f.0.0, l.0.0), l.0.1) (range, rest) u.1
    (record { written = written; ordered = ordered; below = below; are_bytes = last.are_bytes })

pub region_spelled : (words : ℕ) (made : List Region) (bytes : List ℕ) (r : Region) (rest : List ℕ) → AreBytes bytes → next_region_read words made bytes ≡ Ok (r, rest)
    → (bytes ≡ region_bytes r ++ rest) × RegionGood words made r × AreBytes rest
unfolding region_bytes region_read
region_spelled words made bytes r rest are e =
    let before : List (ℕ × ℕ) = spans made in
    let g = and_then (range_read words bytes) (λ (range : (ℕ × ℕ) × List ℕ). parent_read before range.0.0 range.0.1 range.1 >>= λ parent. arms_read words parent.1 >>= λ arms. Ok (record { first = range.0.0; last = range.0.1; parent = parent.0; arms = arms.0 }, arms.1)) (r, rest) e in
    let range = range_spelled words bytes g.0.0 g.0.1 are g.1 in
    let p = and_then (parent_read before g.0.0.0 g.0.0.1 g.0.1) (λ (parent : Option ℕ × List ℕ). arms_read words parent.1 >>= λ arms. Ok (record { first = g.0.0.0; last = g.0.0.1; parent = parent.0; arms = arms.0 }, arms.1)) (r, rest) g.2 in
    let n = and_then (number_read 4 g.0.1) (λ (n : ℕ × List ℕ). if nests before g.0.0.0 g.0.0.1 (parent_of n.0) then Ok (parent_of n.0, n.1) else Err (length g.0.1)) p.0 p.1 in
    let number = number_spelled 4 g.0.1 n.0.0 n.0.1 range.are_bytes n.1 in
    let nested = passed (nests before g.0.0.0 g.0.0.1 (parent_of n.0.0)) (length g.0.1) (Ok (parent_of n.0.0, n.0.1)) p.0 n.2 in
    let parent_is : parent_of n.0.0 ≡ p.0.0 = value_is _ _ (nested.1) in
    let behind_same : n.0.1 ≡ p.0.1 = behind_is _ _ (nested.1) in
    let a = and_then (arms_read words p.0.1) (λ (arms : List Arm × List ℕ). Ok (record { first = g.0.0.0; last = g.0.0.1; parent = p.0.0; arms = arms.0 }, arms.1)) (r, rest) p.2 in
    let arms = list_spelled (λ made. arm_read words) arm_bytes (Passes (is_arm words)) (λ made bytes a rest are e. arm_spelled words made bytes a rest are e) p.0.1 a.0.0 a.0.1 (subst AreBytes behind_same number.are_bytes) a.1 in
    let made_region : Region = record { first = g.0.0.0; last = g.0.0.1; parent = p.0.0; arms = a.0.0 } in
    let parent_number_is : n.0.0 ≡ parent_number p.0.0 = sym (parent_written n.0.0) ∙ ap parent_number parent_is in
    let behind_parent : List ℕ = arms_bytes a.0.0 ++ a.0.1 in
    let behind_last : List ℕ = number_bytes (parent_number p.0.0) ++ behind_parent in
    let behind_range : g.0.1 ≡ behind_last = number.written ∙ ap (λ (m : ℕ). number_bytes m ++ n.0.1) parent_number_is ∙ ap (λ (bs : List ℕ). number_bytes (parent_number p.0.0) ++ bs) (behind_same ∙ arms.0) in
    let shape : region_bytes made_region ++ a.0.1 ≡ number_bytes g.0.0.0 ++ (number_bytes g.0.0.1 ++ behind_last) =
    append_assoc (number_bytes g.0.0.0 ++ number_bytes g.0.0.1 ++ number_bytes (parent_number p.0.0)) (arms_bytes a.0.0) a.0.1
    ∙ append_assoc (number_bytes g.0.0.0 ++ number_bytes g.0.0.1) (number_bytes (parent_number p.0.0)) behind_parent
    ∙ append_assoc (number_bytes g.0.0.0) (number_bytes g.0.0.1) behind_last in
    let written : bytes ≡ region_bytes made_region ++ a.0.1 = range.written ∙ ap (λ (bs : List ℕ). number_bytes g.0.0.0 ++ (number_bytes g.0.0.1 ++ bs)) behind_range ∙ sym shape in
    let good : RegionGood words made made_region = record {
      region = and_from _ _ range.below (good_list (is_arm words) a.0.0 arms.1 arms.2);
      nested = subst (λ (p : Option ℕ). nests before g.0.0.0 g.0.0.1 p ≡ true) parent_is nested.0;
    } in
    told (λ x behind. (bytes ≡ region_bytes x ++ behind) × RegionGood words made x × AreBytes behind) (made_region, a.0.1) (r, rest) a.2 (written, good, arms.3)

-- All regions of a routine.

spans_pushed : (made : List Region) (r : Region) → spans (made ++ r ∷ []) ≡ spans made ++ span r ∷ []
spans_pushed made r = map-append span made (r ∷ [])

-- a region of a list that is not too long
pub record EarlyRegion (words : ℕ) (made : List Region) (r : Region) : Type 0 where
  pub good : RegionGood words made r
  pub early : length made < 0xffff_ffff

pub regions_good : (words : ℕ) (made regions : List Region) → length made + length regions ≤ 0xffff_ffff → are_regions words (spans made) regions ≡ true → AllGood (EarlyRegion words) made regions
regions_good words made [] few h = tt
regions_good words made (r ∷ regions) few h =
    let outer = and_parts (is_region words r && nests (spans made) r.first r.last r.parent) (are_regions words (spans made ++ span r ∷ []) regions) h in
    let inner = and_parts (is_region words r) (nests (spans made) r.first r.last r.parent) outer.0 in
    let size : length (made ++ r ∷ []) ≡ length made + 1 = length_push made r in (
      record { good = record { region = inner.0; nested = inner.1 }; early = omega (arith, few) },
      regions_good words (made ++ r ∷ []) regions (omega (arith, few, size)) (subst (λ (before : List (ℕ × ℕ)). are_regions words before regions ≡ true) (sym (spans_pushed made r)) outer.1),
    )

pub good_regions : (words : ℕ) (made regions : List Region) → AllGood (RegionGood words) made regions → are_regions words (spans made) regions ≡ true
good_regions words made [] good = refl
good_regions words made (r ∷ regions) good =
    let more = good_regions words (made ++ r ∷ []) regions good.1 in
    and_from _ _ (and_from _ _ good.0.region good.0.nested) (subst (λ (before : List (ℕ × ℕ)). are_regions words before regions ≡ true) (spans_pushed made r) more)
