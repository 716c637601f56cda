-- The modules that were read are those of a library.
use Rattle.std.proofs.Common.{◌≡◌, ℕ, zero, suc, ◌<◌, ◌≤◌, ◌^◌, ◌⊎◌, inl, inr, not, ◌&&◌, ◌==◌, nat_lt, nat_le, Bool, true, false, List, [], ◌∷◌, ◌++◌, map, length, get_or, Option, Some, None, Result, Ok, Err, if◌then◌else◌, refl, sym, ap, subst, ◌∙◌, append_assoc, arith}
use Rattle.std.specs.List.{flat_map, cons_option, filter_map}
use Rattle.std.specs.Str.{bytes_eq}
use Rattle.std.proofs.lemmas.Bool.{eqb-true, le-leb, ltb-false, lt-ltb, and_parts, not_from_false, and_from}
use Rattle.std.proofs.lemmas.Cmp.{nat_list_cmp_total}
use Rattle.std.proofs.lemmas.List.{append-nil, length-map}
use Rattle.std.proofs.lemmas.Slice.Eq.{bytes_eq-Decides}
use Rattle.std.specs.declared.cmp.Ordering.TheVariants.{Less}
use Rattle.byteorder.specs.Endian.{little_bytes}
use Rattle.clu_types.specs.Specs.{name_order}
use Rattle.clu_specs.specs.Grammar.{IsSpecification}
use Rattle.clu_specs.specs.Reading.{Read, ◌>>=◌}
use Rattle.clu_specs.specs.Seen.{Specification, spec_text}
use Rattle.clu_specs.specs.SpecReading.{whole_spec}
use Rattle.clu_specs.proofs.Outcomes.{and_then, passed, ok_same, either}
use Rattle.clu_specs.proofs.SpecsSpelled.{whole_spec_spelled}
use Rattle.clu_format.specs.Fields.{byte_read, number_read, text_read, text16_bytes, text64_bytes, module_read, is_module_name, is_after}
use Rattle.clu_object.specs.ObjectFile.{number_bytes, object_bytes}
use Rattle.clu_object.specs.ObjectReading.{object_read}
use Rattle.clu_object.specs.Objects.{is_content, is_number, is_object}
use Rattle.clu_object.specs.declared.object.Object.{Object}
use Rattle.clu_object.proofs.FieldLaws.{value_is, behind_is, told, AreBytes, byte_spelled, number_spelled, text_spelled, text16_is, but_ok}
use Rattle.clu_object.proofs.ListLaws.{AllGood, list_spelled}
use Rattle.clu_object.proofs.NameLaws.{module_name_short}
use Rattle.clu_object.proofs.Objects.{object_spelled}
use Rattle.clu_library.specs.ByName.{with_item}
use Rattle.clu_library.specs.Libraries.{are_names, is_list_of_names, are_names_of, is_body, is_body_if, change_at, body_at}
use Rattle.clu_library.specs.LibraryFile.{list_of_names, names_bytes, kept_bytes}
use Rattle.clu_library.specs.LibraryReading.{SeenLibrary, stepped, content_in, number_up_to, behind_names, name_but_read, next_name_read, names_but, listed_read, names_by, names_read, named_spec, with_seen, spec_kept, with_revision, change_kept, object_kept, checked_kept, behind_text, text_kept, body_by, body_kept, module_kept, next_module_kept}
use Rattle.clu_library.specs.declared.body.Body.{Body}
use Rattle.clu_library.specs.declared.body.Change.{Change}
use Rattle.clu_library.specs.declared.body.ModuleBody.{ModuleBody}
use Rattle.clu_library.specs.declared.read_modules.Version.{Version}
use Rattle.clu_library.specs.declared.read_modules.Version.TheVariants as version
use Rattle.clu_library.proofs.Appending.{AllBefore, less_of_after, put_last, before_pushed, before_maybe, cons_after}
use Rattle.clu_library.proofs.ImageRead.{bytes_front}
use Rattle.clu_library.proofs.ModulesAgain.{NameGood, four_parts, body_shape, revision_put, named_change, named_body, ComesBefore, IsReady}
use Rattle.clu_library.proofs.Stepping.{behind_pushed}

-- what is so of files of version 2
abbrev pub InSecond : Version → Type 0 → Type 0
InSecond version.First A = Unit {0}
InSecond version.Second A = A

pub in_either : {A : Type 0} (v : Version) → A → InSecond v A
in_either version.First a = tt
in_either version.Second a = a

pub in_both : {A B C : Type 0} (v : Version) → InSecond v A → InSecond v B → (A → B → C) → InSecond v C
in_both version.First a b f = tt
in_both version.Second a b f = f a b

-- Fields.

bytes_last : (xs ys : List ℕ) → AreBytes (xs ++ ys) → AreBytes ys
bytes_last [] ys h = h
bytes_last (x ∷ xs) ys h = bytes_last xs ys (λ k. h (suc k))

pub record ContentRead (bytes text rest : List ℕ) : Type 0 where
  pub written : bytes ≡ text64_bytes text ++ rest
  pub fits : is_content text ≡ true
  pub are_bytes : AreBytes text
  pub are_behind : AreBytes rest

pub content_read : (bytes text rest : List ℕ) → AreBytes bytes → text_read 8 bytes ≡ Ok (text, rest) → ContentRead bytes text rest
content_read bytes text rest are e =
    let t = text_spelled 8 bytes text rest are e in
    let front : AreBytes (little_bytes 8 (length text) ++ text) = bytes_front (little_bytes 8 (length text) ++ text) rest (subst AreBytes t.written are) in
    record { written = t.written; fits = lt-ltb (length text) 0x1_0000_0000_0000_0000 t.small; are_bytes = bytes_last (little_bytes 8 (length text)) text front; are_behind = t.are_bytes }

pub up_to_read : (most n : ℕ) (bytes rest : List ℕ) → AreBytes bytes → number_up_to most bytes ≡ Ok (n, rest) → (n ≤ most) × AreBytes rest × (bytes ≡ number_bytes n ++ rest)
up_to_read most n bytes rest are e =
    let h = but_ok (nat_lt most) (length bytes) (number_read 4 bytes) (n, rest) e in
    let number = number_spelled 4 bytes n rest are h.0 in
    (ltb-false most n h.1, number.are_bytes, number.written)

pub content_is : {X : Type 0} (left : ℕ) (r : Result X ℕ) (x : X) → content_in left r ≡ Ok x → r ≡ Ok x
content_is left (Ok y) x e = e
content_is left (Err at) x e = absurd (cc)

-- Names.

pub record NameRead (previous bytes name rest : List ℕ) : Type 0 where
  pub written : bytes ≡ text16_bytes name ++ rest
  pub named : is_module_name name ≡ true
  pub in_order : is_after previous name ≡ true
  pub are_bytes : AreBytes rest

pub module_name_read : (previous bytes name rest : List ℕ) → AreBytes bytes → module_read previous bytes ≡ Ok (name, rest) → NameRead previous bytes name rest
module_name_read previous bytes name rest are e =
    let r = and_then (text_read 2 bytes) (λ (x : List ℕ × List ℕ). if is_module_name x.0 && is_after previous x.0 then Ok x else Err (length bytes)) (name, rest) e in
    let p = passed (is_module_name r.0.0 && is_after previous r.0.0) (length bytes) (Ok r.0) (name, rest) r.2 in
    let name_is : r.0.0 ≡ name = value_is _ _ p.1 in
    let rest_is : r.0.1 ≡ rest = behind_is _ _ p.1 in
    let parts = and_parts (is_module_name r.0.0) (is_after previous r.0.0) p.0 in
    let named : is_module_name name ≡ true = subst (λ (x : List ℕ). is_module_name x ≡ true) name_is parts.0 in
    let t = text_spelled 2 bytes r.0.0 r.0.1 are r.1 in
    let as_text : (little_bytes 2 (length name) ++ name) ≡ text16_bytes name = sym (text16_is name (module_name_short name named)) in
    record {
      written = t.written ∙ ap (λ (x : List ℕ). (little_bytes 2 (length x) ++ x) ++ r.0.1) name_is ∙ ap (λ (bs : List ℕ). (little_bytes 2 (length name) ++ name) ++ bs) rest_is ∙ ap (λ (bs : List ℕ). bs ++ rest) as_text;
      named = named;
      in_order = subst (λ (x : List ℕ). is_after previous x ≡ true) name_is parts.1;
      are_bytes = subst AreBytes rest_is t.are_bytes;
    }

name_spelled : (own : List ℕ) (made : List (List ℕ)) (bytes name rest : List ℕ) → AreBytes bytes → next_name_read own made bytes ≡ Ok (name, rest) → (bytes ≡ text16_bytes name ++ rest) × NameGood own made name × AreBytes rest
name_spelled own made bytes name rest are e =
    let h = but_ok (λ name. bytes_eq name own) (length bytes) (module_read (behind_names [] made) bytes) (name, rest) e in
    let n = module_name_read (behind_names [] made) bytes name rest are h.0 in
    (n.written, (n.named, n.in_order, h.1), n.are_bytes)

all_hold : (a b c d : Bool) → a ≡ true → b ≡ true → c ≡ true → d ≡ true → (a && b && c && d) ≡ true
all_hold a b c d p q r s = rw (p, q, r) s

names_good : (own : List ℕ) (made names : List (List ℕ)) → AllGood (NameGood own) made names → are_names own (behind_names [] made) names ≡ true
names_good own made [] h = refl
names_good own made (name ∷ names) h =
    let P : List ℕ → Type 0 = λ previous. are_names own previous names ≡ true in
    let others : are_names own name names ≡ true = subst P (behind_pushed [] name made) (names_good own (made ++ name ∷ []) names h.1) in
    all_hold (is_module_name name) (is_after (behind_names [] made) name) (not (bytes_eq name own)) (are_names own name names) h.0.0 h.0.1 (not_from_false (bytes_eq name own) h.0.2) others

pub names_spelled : (own bytes : List ℕ) (names : List (List ℕ)) (rest : List ℕ) → AreBytes bytes → names_but own bytes ≡ Ok (names, rest) → (is_list_of_names own names ≡ true) × AreBytes rest × (bytes ≡ list_of_names names ++ rest)
names_spelled own bytes names rest are e =
    let l = list_spelled (next_name_read own) text16_bytes (NameGood own) (name_spelled own) bytes names rest are e in
    (and_from (is_number (length names)) (are_names own [] names) l.1 (names_good own [] names l.2), l.3, l.0)

-- names of a body, and what follows them
abbrev AreRead : List ℕ → List ℕ → Option (List (List ℕ)) → List ℕ → Type 0
AreRead own bytes names rest = (are_names_of own names ≡ true) × AreBytes rest × (bytes ≡ names_bytes names ++ rest)

names_of_body : (own bytes : List ℕ) (names : Option (List (List ℕ))) (rest : List ℕ) → AreBytes bytes → names_read own bytes ≡ Ok (names, rest) → AreRead own bytes names rest
names_of_body own bytes names rest are e =
    let r = and_then (byte_read bytes) (λ (listed : ℕ × List ℕ). names_by own listed.0 bytes listed.1) (names, rest) e in
    let b = byte_spelled bytes r.0.0 r.0.1 are r.1 in
    by r.0.0 r.0.1 b.0 b.1 (either (r.0.0 == 0) (Ok (None, r.0.1)) (if r.0.0 == 1 then listed_read own r.0.1 else Err (length bytes)) (Ok (names, rest)) r.2)
  where
    listed : (behind : List ℕ) → bytes ≡ 1 ∷ behind → AreBytes behind → listed_read own behind ≡ Ok (names, rest) → AreRead own bytes names rest
    listed behind is are e =
        let r = and_then (names_but own behind) (λ (x : List (List ℕ) × List ℕ). Ok (Some x.0, x.1)) (names, rest) e in
        let n = names_spelled own behind r.0.0 r.0.1 are r.1 in
        told (AreRead own bytes) (Some r.0.0, r.0.1) (names, rest) r.2 (n.0, n.1, is ∙ ap (λ (bs : List ℕ). 1 ∷ bs) n.2)

    by : (b : ℕ) (behind : List ℕ) → bytes ≡ b ∷ behind → AreBytes behind
        → (((b == 0) ≡ true) × (◌≡◌ {A = Read (Option (List (List ℕ)))} (Ok (None, behind)) (Ok (names, rest)))) ⊎ (((b == 0) ≡ false) × ((if b == 1 then listed_read own behind else Err (length bytes)) ≡ Ok (names, rest)))
        → AreRead own bytes names rest
    by b behind is are (inl all) = told (AreRead own bytes) (None, behind) (names, rest) all.1 (refl, are, is ∙ ap (λ (x : ℕ). x ∷ behind) (eqb-true b 0 all.0))
    by b behind is are (inr some) =
        let one = passed (b == 1) (length bytes) (listed_read own behind) (names, rest) some.1 in
        listed behind (is ∙ ap (λ (x : ℕ). x ∷ behind) (eqb-true b 1 one.0)) are one.1

-- The parts of a module.

named_is : (name : List ℕ) (left : ℕ) (r : Result Specification ℕ) (s : Specification) → named_spec name left r ≡ Ok s → (r ≡ Ok s) × (bytes_eq s.name name ≡ true)
named_is name left (Ok x) s e = let p = passed (bytes_eq x.name name) left (Ok x) s e in (p.1, subst (λ (y : Specification). bytes_eq y.name name ≡ true) (ok_same (Ok x) x s refl p.1) p.0)
named_is name left (Err at) s e = absurd (cc)

record SpecKept (name bytes : List ℕ) (made new : SeenLibrary) (rest : List ℕ) : Type 0 where
  pub s : Specification
  pub named : s.name ≡ name
  pub grammar : IsSpecification s
  pub fits : is_content (spec_text s) ≡ true
  pub put : with_seen made s ≡ new
  pub written : bytes ≡ text64_bytes (spec_text s) ++ rest
  pub are_bytes : AreBytes rest

spec_read : (name bytes : List ℕ) (made new : SeenLibrary) (rest : List ℕ) → AreBytes bytes → spec_kept name made bytes ≡ Ok (new, rest) → SpecKept name bytes made new rest
unfolding spec_kept
spec_read name bytes made new rest are e =
    let r = and_then (text_read 8 bytes) (λ (text : List ℕ × List ℕ). named_spec name (length bytes) (whole_spec text.0) >>= λ s. Ok (with_seen made s, text.1)) (new, rest) e in
    let t = and_then (named_spec name (length bytes) (whole_spec r.0.0)) (λ (s : Specification). Ok (with_seen made s, r.0.1)) (new, rest) r.2 in
    let content = content_read bytes r.0.0 r.0.1 are r.1 in
    let n = named_is name (length bytes) (whole_spec r.0.0) t.0 t.1 in
    let spelled = whole_spec_spelled r.0.0 t.0 n.0 in
    record {
      s = t.0;
      named = (bytes_eq-Decides t.0.name name).0 n.1;
      grammar = spelled.0;
      fits = subst (λ (x : List ℕ). is_content x ≡ true) spelled.1 content.fits;
      put = value_is _ _ t.2;
      written = content.written ∙ ap (λ (x : List ℕ). text64_bytes x ++ r.0.1) spelled.1 ∙ ap (λ (bs : List ℕ). text64_bytes (spec_text t.0) ++ bs) (behind_is _ _ t.2);
      are_bytes = subst AreBytes (behind_is _ _ t.2) content.are_behind;
    }

record ChangeKept (version : Version) (most : ℕ) (name bytes : List ℕ) (made new : List Change) (rest : List ℕ) : Type 0 where
  pub revision : ℕ
  pub few : revision ≤ most
  pub put : made ++ cons_option (change_at name revision) [] ≡ new
  pub written : InSecond version (bytes ≡ number_bytes revision ++ rest)
  pub are_bytes : AreBytes rest

change_read : (version : Version) (most : ℕ) (name bytes : List ℕ) (made new : List Change) (rest : List ℕ) → AreBytes bytes → AllBefore (λ (c : Change). c.name) made name → change_kept version most name made bytes ≡ Ok (new, rest)
    → ChangeKept version most name bytes made new rest
change_read version.First most name bytes made new rest are before e =
    record { revision = 0; few = omega arith; put = append-nil made ∙ value_is _ _ e; written = tt; are_bytes = subst AreBytes (behind_is _ _ e) are }
change_read version.Second most name bytes made new rest are before e =
    let r = and_then (number_up_to most bytes) (λ (revision : ℕ × List ℕ). Ok (with_revision name revision.0 made, revision.1)) (new, rest) e in
    let n = up_to_read most r.0.0 bytes r.0.1 are r.1 in
    record {
      revision = r.0.0;
      few = n.0;
      put = sym (revision_put r.0.0 name made before) ∙ value_is _ _ r.2;
      written = n.2 ∙ ap (λ (bs : List ℕ). number_bytes r.0.0 ++ bs) (behind_is _ _ r.2);
      are_bytes = subst AreBytes (behind_is _ _ r.2) n.1;
    }

record ObjectKept (most : ℕ) (name text : List ℕ) (checked : ℕ) (names : Option (List (List ℕ))) (bytes : List ℕ) (made new : List ModuleBody) (rest : List ℕ) : Type 0 where
  pub body : Body
  pub text_is : body.text ≡ text
  pub checked_is : body.checked ≡ checked
  pub names_are : body.names ≡ names
  pub good : is_body most name body ≡ true
  pub put : made ++ record { name = name; body = body } ∷ [] ≡ new
  pub written : bytes ≡ text64_bytes (object_bytes body.object) ++ rest
  pub are_bytes : AreBytes rest

five_hold : (a b c d e : Bool) → a ≡ true → b ≡ true → c ≡ true → d ≡ true → e ≡ true → (a && b && c && d && e) ≡ true
five_hold a b c d e p q r s t = rw (p, q, r, s) t

object_read_kept : (most : ℕ) (name text : List ℕ) (checked : ℕ) (names : Option (List (List ℕ))) (bytes : List ℕ) (made new : List ModuleBody) (rest : List ℕ) → AreBytes bytes → AllBefore (λ (b : ModuleBody). b.name) made name
    → is_content text ≡ true → checked ≤ most → are_names_of name names ≡ true → object_kept name text checked names made bytes ≡ Ok (new, rest) → ObjectKept most name text checked names bytes made new rest
unfolding object_kept
object_read_kept most name text checked names bytes made new rest are before fits late listed e =
    let r = and_then (text_read 8 bytes)
    (λ (content : List ℕ × List ℕ). content_in (length bytes) (object_read content.0) >>= λ object. Ok (with_item (λ (b : ModuleBody). b.name) made (record { name = name; body = record { text = text; names = names; checked = checked; object = object } }), content.1))
    (new, rest) e in
    let o = and_then (content_in (length bytes) (object_read r.0.0))
    (λ (object : Object). Ok (with_item (λ (b : ModuleBody). b.name) made (record { name = name; body = record { text = text; names = names; checked = checked; object = object } }), r.0.1)) (new, rest) r.2 in
    let content = content_read bytes r.0.0 r.0.1 are r.1 in
    let spelled = object_spelled r.0.0 o.0 content.are_bytes (content_is (length bytes) (object_read r.0.0) o.0 o.1) in
    let body : Body = record { text = text; names = names; checked = checked; object = o.0 } in
    let object_fits : is_content (object_bytes o.0) ≡ true = subst (λ (x : List ℕ). is_content x ≡ true) spelled.0 content.fits in
    record {
      body = body;
      text_is = refl;
      checked_is = refl;
      names_are = refl;
      good = five_hold (is_content text) (nat_le checked most) (are_names_of name names) (is_object o.0) (is_content (object_bytes o.0)) fits (le-leb checked most late) listed spelled.1 object_fits;
      put = sym (put_last (λ (b : ModuleBody). b.name) made (record { name = name; body = body }) before) ∙ value_is _ _ o.2;
      written = content.written ∙ ap (λ (x : List ℕ). text64_bytes x ++ r.0.1) spelled.0 ∙ ap (λ (bs : List ℕ). text64_bytes (object_bytes o.0) ++ bs) (behind_is _ _ o.2);
      are_bytes = subst AreBytes (behind_is _ _ o.2) content.are_behind;
    }

record BodyKept (version : Version) (most : ℕ) (name bytes : List ℕ) (made new : List ModuleBody) (rest : List ℕ) : Type 0 where
  pub body : Option Body
  pub good : is_body_if most name body ≡ true
  pub put : made ++ cons_option (body_at name body) [] ≡ new
  pub written : InSecond version (bytes ≡ kept_bytes body ++ rest)
  pub are_bytes : AreBytes rest

-- what is read of a body stands behind the byte that tells that it is there
text_read_kept : (of : Version) (most : ℕ) (name bytes : List ℕ) (made new : List ModuleBody) (rest : List ℕ) → AreBytes bytes → AllBefore (λ (b : ModuleBody). b.name) made name → text_kept of most name made bytes ≡ Ok (new, rest)
    → BodyKept of most name (1 ∷ bytes) made new rest
text_read_kept of most name bytes made new rest are before e =
    let r = and_then (text_read 8 bytes) (λ (text : List ℕ × List ℕ). behind_text of most name text.0 made text.1) (new, rest) e in
    by of r.0.0 r.0.1 r.2 (content_read bytes r.0.0 r.0.1 are r.1)
  where
    by : (v : Version) (text behind : List ℕ) → behind_text v most name text made behind ≡ Ok (new, rest) → ContentRead bytes text behind → BodyKept v most name (1 ∷ bytes) made new rest
    by version.First text behind e content =
        let o = object_read_kept most name text 0 None behind made new rest content.are_behind before content.fits (omega arith) refl e in
        record { body = Some o.body; good = o.good; put = o.put; written = tt; are_bytes = o.are_bytes }
    by version.Second text behind e content =
        let k = and_then (number_up_to most behind) (λ (checked : ℕ × List ℕ). names_read name checked.1 >>= λ names. object_kept name text checked.0 names.0 made names.1) (new, rest) e in
        let n = and_then (names_read name k.0.1) (λ (names : Option (List (List ℕ)) × List ℕ). object_kept name text k.0.0 names.0 made names.1) (new, rest) k.2 in
        let checked = up_to_read most k.0.0 behind k.0.1 content.are_behind k.1 in
        let names = names_of_body name k.0.1 n.0.0 n.0.1 checked.1 n.1 in
        let o = object_read_kept most name text k.0.0 n.0.0 n.0.1 made new rest names.1 before content.fits checked.0 names.0 n.2 in
        let from_names : k.0.1 ≡ names_bytes o.body.names ++ (text64_bytes (object_bytes o.body.object) ++ rest) =
        names.2 ∙ ap (λ (bs : List ℕ). names_bytes n.0.0 ++ bs) o.written ∙ ap (λ (x : Option (List (List ℕ))). names_bytes x ++ (text64_bytes (object_bytes o.body.object) ++ rest)) (sym o.names_are) in
        let from_checked : behind ≡ number_bytes o.body.checked ++ (names_bytes o.body.names ++ (text64_bytes (object_bytes o.body.object) ++ rest)) =
        checked.2 ∙ ap (λ (x : ℕ). number_bytes x ++ k.0.1) (sym o.checked_is) ∙ ap (λ (bs : List ℕ). number_bytes o.body.checked ++ bs) from_names in
        let from_text : bytes ≡ text64_bytes o.body.text ++ (number_bytes o.body.checked ++ (names_bytes o.body.names ++ (text64_bytes (object_bytes o.body.object) ++ rest))) =
        content.written ∙ ap (λ (x : List ℕ). text64_bytes x ++ behind) (sym o.text_is) ∙ ap (λ (bs : List ℕ). text64_bytes o.body.text ++ bs) from_checked in
        record { body = Some o.body; good = o.good; put = o.put; written = ap (λ (bs : List ℕ). 1 ∷ bs) from_text ∙ sym (body_shape o.body rest); are_bytes = o.are_bytes }

body_read : (version : Version) (most : ℕ) (name bytes : List ℕ) (made new : List ModuleBody) (rest : List ℕ) → AreBytes bytes → AllBefore (λ (b : ModuleBody). b.name) made name → body_kept version most name made bytes ≡ Ok (new, rest)
    → BodyKept version most name bytes made new rest
unfolding body_kept
body_read version most name bytes made new rest are before e =
    let r = and_then (byte_read bytes) (λ (is_there : ℕ × List ℕ). body_by is_there.0 version most name made bytes is_there.1) (new, rest) e in
    let b = byte_spelled bytes r.0.0 r.0.1 are r.1 in
    by r.0.0 r.0.1 b.0 b.1 (either (r.0.0 == 0) (Ok (made, r.0.1)) (if r.0.0 == 1 then text_kept version most name made r.0.1 else Err (length bytes)) (Ok (new, rest)) r.2)
  where
    by : (b : ℕ) (behind : List ℕ) → bytes ≡ b ∷ behind → AreBytes behind
        → (((b == 0) ≡ true) × (◌≡◌ {A = Read (List ModuleBody)} (Ok (made, behind)) (Ok (new, rest)))) ⊎ (((b == 0) ≡ false) × ((if b == 1 then text_kept version most name made behind else Err (length bytes)) ≡ Ok (new, rest)))
        → BodyKept version most name bytes made new rest
    by b behind is are (inl none) =
        let rest_is : behind ≡ rest = behind_is _ _ none.1 in
        record {
          body = None;
          good = refl;
          put = append-nil made ∙ value_is _ _ none.1;
          written = in_either version (is ∙ ap (λ (x : ℕ). x ∷ behind) (eqb-true b 0 none.0) ∙ ap (λ (bs : List ℕ). 0 ∷ bs) rest_is);
          are_bytes = subst AreBytes rest_is are;
        }
    by b behind is are (inr some) =
        let one = passed (b == 1) (length bytes) (text_kept version most name made behind) (new, rest) some.1 in
        let is_one : bytes ≡ 1 ∷ behind = is ∙ ap (λ (x : ℕ). x ∷ behind) (eqb-true b 1 one.0) in
        subst (λ (bs : List ℕ). BodyKept version most name bs made new rest) (sym is_one) (text_read_kept version most name behind made new rest are before one.1)

-- What is read of a module.
pub record Entry : Type 0 where
  pub s : Specification
  pub changed : ℕ
  pub body : Option Body

abbrev pub entry_change : Entry → Option Change
entry_change e = change_at e.s.name e.changed

abbrev pub entry_body : Entry → Option ModuleBody
entry_body e = body_at e.s.name e.body

abbrev pub entry_bytes : Entry → List ℕ
entry_bytes e = text16_bytes e.s.name ++ text64_bytes (spec_text e.s) ++ number_bytes e.changed ++ kept_bytes e.body

entry_shape : (e : Entry) (rest : List ℕ) → entry_bytes e ++ rest ≡ text16_bytes e.s.name ++ (text64_bytes (spec_text e.s) ++ (number_bytes e.changed ++ (kept_bytes e.body ++ rest)))
entry_shape e rest = four_parts (text16_bytes e.s.name) (text64_bytes (spec_text e.s)) (number_bytes e.changed) (kept_bytes e.body) rest

pub record EntryGood (revision : ℕ) (previous : List ℕ) (e : Entry) : Type 0 where
  pub grammar : IsSpecification e.s
  pub fits : is_content (spec_text e.s) ≡ true
  pub named : is_module_name e.s.name ≡ true
  pub in_order : is_after previous e.s.name ≡ true
  pub few : e.changed ≤ revision
  pub body : is_body_if revision e.s.name e.body ≡ true

abbrev pub AreGood : ℕ → List ℕ → List Entry → Type 0
AreGood revision previous [] = Unit {0}
AreGood revision previous (e ∷ es) = EntryGood revision previous e × AreGood revision e.s.name es

abbrev pub entered : SeenLibrary → List Entry → SeenLibrary
entered made es = record made { specs = made.specs ++ map (λ (e : Entry). e.s) es; changes = made.changes ++ filter_map entry_change es; bodies = made.bodies ++ filter_map entry_body es }

record OneRead (version : Version) (revision : ℕ) (previous bytes name : List ℕ) (made new : SeenLibrary) (rest : List ℕ) : Type 0 where
  pub e : Entry
  pub named : e.s.name ≡ name
  pub good : EntryGood revision previous e
  pub put : entered made (e ∷ []) ≡ new
  pub written : InSecond version (bytes ≡ entry_bytes e ++ rest)
  pub are_bytes : AreBytes rest

-- what stands behind a specification
abbrev behind_spec : Version → List ℕ → SeenLibrary → List ℕ → Read SeenLibrary
behind_spec version name made bytes =
    change_kept version made.revision name made.changes bytes >>= λ changes. body_kept version made.revision name made.bodies changes.1 >>= λ bodies. Ok (record made { changes = changes.0; bodies = bodies.0 }, bodies.1)

one_read : (version : Version) (previous bytes : List ℕ) (made : SeenLibrary) (name : List ℕ) (new : SeenLibrary) (rest : List ℕ) → AreBytes bytes → IsReady previous made → next_module_kept version (previous, made) bytes ≡ Ok ((name, new), rest)
    → OneRead version made.revision previous bytes name made new rest
unfolding module_kept
one_read version previous bytes made name new rest are ready e =
    let n = and_then (module_read previous bytes) (λ (name : List ℕ × List ℕ). module_kept version name.0 made name.1 >>= λ more. Ok ((name.0, more.0), more.1)) ((name, new), rest) e in
    let m = and_then (module_kept version n.0.0 made n.0.1) (λ (more : SeenLibrary × List ℕ). Ok ((n.0.0, more.0), more.1)) ((name, new), rest) n.2 in
    let heading = module_name_read previous bytes n.0.0 n.0.1 are n.1 in
    let before = ready n.0.0 (less_of_after previous n.0.0 heading.in_order) in
    let s = and_then (spec_kept n.0.0 made n.0.1)
    (λ (specs : SeenLibrary × List ℕ). change_kept version specs.0.revision n.0.0 specs.0.changes specs.1 >>= λ changes. body_kept version specs.0.revision n.0.0 specs.0.bodies changes.1 >>= λ bodies. Ok (record specs.0 { changes = changes.0; bodies = bodies.0 }, bodies.1)) m.0 m.1 in
    let spec = spec_read n.0.0 n.0.1 made s.0.0 s.0.1 heading.are_bytes s.1 in
    behind n.0.0 n.0.1 m.0.0 m.0.1 s.0.0 s.0.1 heading before spec s.2 (ap (λ (x : List ℕ × SeenLibrary). x.0) (value_is _ _ m.2)) (ap (λ (x : List ℕ × SeenLibrary). x.1) (value_is _ _ m.2)) (behind_is _ _ m.2)
  where
    behind : (name' after : List ℕ) (read : SeenLibrary) (rest' : List ℕ) (specs : SeenLibrary) (from_change : List ℕ) → NameRead previous bytes name' after → ComesBefore made name' → SpecKept name' after made specs from_change
        → behind_spec version name' specs from_change ≡ Ok (read, rest')
        → name' ≡ name → read ≡ new → rest' ≡ rest → OneRead version made.revision previous bytes name made new rest
    behind name' after read rest' specs from_change heading before spec e name_is read_is rest_is = of_specs (sym spec.put)
      where
        of_specs : specs ≡ with_seen made spec.s → OneRead version made.revision previous bytes name made new rest
        of_specs is =
            let P : SeenLibrary → Type 0 = λ x. behind_spec version name' x from_change ≡ Ok (read, rest') in
            let here = subst P is e in
            let with_spec : SeenLibrary = with_seen made spec.s in
            let c = and_then (change_kept version made.revision name' made.changes from_change)
            (λ (changes : List Change × List ℕ). body_kept version made.revision name' made.bodies changes.1 >>= λ bodies. Ok (record with_spec { changes = changes.0; bodies = bodies.0 }, bodies.1)) (read, rest') here in
            let b = and_then (body_kept version made.revision name' made.bodies c.0.1) (λ (bodies : List ModuleBody × List ℕ). Ok (record with_spec { changes = c.0.0; bodies = bodies.0 }, bodies.1)) (read, rest') c.2 in
            let change = change_read version made.revision name' from_change made.changes c.0.0 c.0.1 spec.are_bytes before.1 c.1 in
            let body = body_read version made.revision name' c.0.1 made.bodies b.0.0 b.0.1 change.are_bytes before.2 b.1 in
            let entry : Entry = record { s = spec.s; changed = change.revision; body = body.body } in
            let Q : List ℕ → Type 0 = λ n. AllBefore (λ (x : Specification). x.name) made.specs n in
            let in_specs : made.specs ++ spec.s ∷ [] ≡ with_item (λ (x : Specification). x.name) made.specs spec.s = sym (put_last (λ (x : Specification). x.name) made.specs spec.s (subst Q (sym spec.named) before.0)) in
            let in_changes : made.changes ++ cons_option (change_at spec.s.name change.revision) [] ≡ c.0.0 = ap (λ (n : List ℕ). made.changes ++ cons_option (change_at n change.revision) []) spec.named ∙ change.put in
            let in_bodies : made.bodies ++ cons_option (body_at spec.s.name body.body) [] ≡ b.0.0 = ap (λ (n : List ℕ). made.bodies ++ cons_option (body_at n body.body) []) spec.named ∙ body.put in
            record {
              e = entry;
              named = spec.named ∙ name_is;
              good =
                  record {
                    grammar = spec.grammar;
                    fits = spec.fits;
                    named = subst (λ (n : List ℕ). is_module_name n ≡ true) (sym spec.named) heading.named;
                    in_order = subst (λ (n : List ℕ). is_after previous n ≡ true) (sym spec.named) heading.in_order;
                    few = change.few;
                    body = subst (λ (n : List ℕ). is_body_if made.revision n body.body ≡ true) (sym spec.named) body.good;
                  };
              put = together in_specs in_changes in_bodies ∙ value_is _ _ b.2 ∙ read_is;
              written = in_both version change.written body.written (λ p q. all_written entry c.0.1 b.0.1 (behind_is _ _ b.2 ∙ rest_is) (ap (λ (n : List ℕ). text16_bytes n ++ after) (sym spec.named)) refl p q);
              are_bytes = subst AreBytes (behind_is _ _ b.2 ∙ rest_is) body.are_bytes;
            }
          where
            all_written : (e : Entry) (from_body last : List ℕ) → last ≡ rest → text16_bytes name' ++ after ≡ text16_bytes e.s.name ++ after → spec_text spec.s ≡ spec_text e.s
                → from_change ≡ number_bytes e.changed ++ from_body → from_body ≡ kept_bytes e.body ++ last → bytes ≡ entry_bytes e ++ rest
            all_written e from_body last end name s p q =
                let from_spec : after ≡ text64_bytes (spec_text e.s) ++ from_change = spec.written ∙ ap (λ (x : List ℕ). text64_bytes x ++ from_change) s in
                let in_change : from_change ≡ number_bytes e.changed ++ (kept_bytes e.body ++ rest) = p ∙ ap (λ (bs : List ℕ). number_bytes e.changed ++ bs) (q ∙ ap (λ (bs : List ℕ). kept_bytes e.body ++ bs) end) in
                heading.written ∙ name ∙ ap (λ (bs : List ℕ). text16_bytes e.s.name ++ bs) (from_spec ∙ ap (λ (bs : List ℕ). text64_bytes (spec_text e.s) ++ bs) in_change) ∙ sym (entry_shape e rest)

            together : {specs specs' : List Specification} {changes changes' : List Change} {bodies bodies' : List ModuleBody} → specs ≡ specs' → changes ≡ changes' → bodies ≡ bodies'
                → ◌≡◌ {A = SeenLibrary} (record made { specs = specs; changes = changes; bodies = bodies }) (record made { specs = specs'; changes = changes'; bodies = bodies' })
            together p q r = rw (p, q, r) refl

-- One module after the other.

entered_on : (made : SeenLibrary) (e : Entry) (es : List Entry) → entered (entered made (e ∷ [])) es ≡ entered made (e ∷ es)
entered_on made e es =
    together (append_assoc made.specs (e.s ∷ []) (map (λ (e : Entry). e.s) es))
    (append_assoc made.changes (cons_option (entry_change e) []) (filter_map entry_change es) ∙ ap (λ (cs : List Change). made.changes ++ cs) (sym (cons_after (λ (c : Change). c.name) (entry_change e) (filter_map entry_change es))))
    (append_assoc made.bodies (cons_option (entry_body e) []) (filter_map entry_body es) ∙ ap (λ (bs : List ModuleBody). made.bodies ++ bs) (sym (cons_after (λ (b : ModuleBody). b.name) (entry_body e) (filter_map entry_body es))))
  where
    together : {specs specs' : List Specification} {changes changes' : List Change} {bodies bodies' : List ModuleBody} → specs ≡ specs' → changes ≡ changes' → bodies ≡ bodies'
        → ◌≡◌ {A = SeenLibrary} (record made { specs = specs; changes = changes; bodies = bodies }) (record made { specs = specs'; changes = changes'; bodies = bodies' })
    together p q r = rw (p, q, r) refl

entered_none : (made : SeenLibrary) → entered made [] ≡ made
entered_none made = rw (append-nil made.specs, append-nil made.changes, append-nil made.bodies) refl

ready_entered : (previous : List ℕ) (made : SeenLibrary) (e : Entry) → IsReady previous made → name_order previous e.s.name ≡ Less → IsReady e.s.name (entered made (e ∷ []))
ready_entered previous made e ready first name less =
    let before = ready name (nat_list_cmp_total.trans previous e.s.name name first less) in (
      before_pushed (λ (x : Specification). x.name) made.specs e.s name before.0 less,
      before_maybe (λ (c : Change). c.name) made.changes (entry_change e) e.s.name name before.1 (named_change e.s.name e.changed) less,
      before_maybe (λ (b : ModuleBody). b.name) made.bodies (entry_body e) e.s.name name before.2 (named_body e.s.name e.body) less,
    )

pub record AllRead (version : Version) (count : ℕ) (previous bytes : List ℕ) (made new : SeenLibrary) (rest : List ℕ) : Type 0 where
  pub es : List Entry
  pub count_is : length es ≡ count
  pub good : AreGood made.revision previous es
  pub put : entered made es ≡ new
  pub written : InSecond version (bytes ≡ flat_map entry_bytes es ++ rest)
  pub are_bytes : AreBytes rest

pub modules_read : (version : Version) (count : ℕ) (previous bytes : List ℕ) (made : SeenLibrary) (last : List ℕ) (new : SeenLibrary) (rest : List ℕ) → AreBytes bytes → IsReady previous made
    → stepped (next_module_kept version) count (previous, made) bytes ≡ Ok ((last, new), rest) → AllRead version count previous bytes made new rest
unfolding stepped
modules_read version zero previous bytes made last new rest are ready e =
    record { es = []; count_is = refl; good = tt; put = entered_none made ∙ ap (λ (x : List ℕ × SeenLibrary). x.1) (value_is _ _ e); written = in_either version (behind_is _ _ e); are_bytes = subst AreBytes (behind_is _ _ e) are }
modules_read version (suc n) previous bytes made last new rest are ready e =
    let r = and_then (next_module_kept version (previous, made) bytes) (λ (x : (List ℕ × SeenLibrary) × List ℕ). stepped (next_module_kept version) n x.0 x.1) ((last, new), rest) e in
    let one = one_read version previous bytes made r.0.0.0 r.0.0.1 r.0.1 are ready r.1 in
    let less : name_order previous one.e.s.name ≡ Less = less_of_after previous one.e.s.name one.good.in_order in
    let ready_one : IsReady one.e.s.name r.0.0.1 = subst (λ (x : SeenLibrary). IsReady one.e.s.name x) one.put (ready_entered previous made one.e ready less) in
    let ready_on : IsReady r.0.0.0 r.0.0.1 = subst (λ (x : List ℕ). IsReady x r.0.0.1) one.named ready_one in
    let behind = modules_read version n r.0.0.0 r.0.1 r.0.0.1 last new rest one.are_bytes ready_on r.2 in
    let revision : r.0.0.1.revision ≡ made.revision = ap (λ (x : SeenLibrary). x.revision) (sym one.put) in
    let good : AreGood made.revision one.e.s.name behind.es = subst (λ (x : ℕ). AreGood x one.e.s.name behind.es) revision (subst (λ (x : List ℕ). AreGood r.0.0.1.revision x behind.es) (sym one.named) behind.good) in
    record {
      es = one.e ∷ behind.es;
      count_is = ap suc behind.count_is;
      good = (one.good, good);
      put = sym (entered_on made one.e behind.es) ∙ ap (λ (x : SeenLibrary). entered x behind.es) one.put ∙ behind.put;
      written = in_both version one.written behind.written (λ p q. p ∙ ap (λ (bs : List ℕ). entry_bytes one.e ++ bs) q ∙ sym (append_assoc (entry_bytes one.e) (flat_map entry_bytes behind.es) rest));
      are_bytes = behind.are_bytes;
    }
