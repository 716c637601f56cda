-- The modules of a library that was written are read as they are.
use Rattle.std.proofs.Common.{◌≡◌, ℕ, ◌≤◌, not, ◌&&◌, nat_lt, nat_le, Bool, true, false, List, [], ◌∷◌, ◌++◌, map, length, Option, Some, None, IfSome, Result, Ok, Err, if◌then◌else◌, refl, sym, ap, subst, ◌∙◌, append_assoc, arith}
use Rattle.std.specs.List.{flat_map, cons_option}
use Rattle.std.specs.Str.{bytes_eq}
use Rattle.std.proofs.lemmas.Bool.{leb-true, ltb-true, le-ltb, and_parts, not-true, and_from}
use Rattle.std.proofs.lemmas.Cmp.{nat_list_cmp_total}
use Rattle.std.proofs.lemmas.List.{append-nil}
use Rattle.std.proofs.lemmas.Slice.Eq.{bytes_eq-Decides}
use Rattle.std.specs.declared.cmp.Ordering.TheVariants.{Less}
use Rattle.clu_types.specs.Specs.{name_order}
use Rattle.clu_types.specs.declared.spec.Spec.{Spec}
use Rattle.clu_specs.specs.Grammar.{IsSpecification}
use Rattle.clu_specs.specs.Reading.{Read, ◌>>=◌}
use Rattle.clu_specs.specs.Seen.{Specification, seen, spec_text}
use Rattle.clu_specs.specs.SpecReading.{whole_spec}
use Rattle.clu_format.specs.Fields.{number_read, text_read, text16_bytes, text64_bytes, module_read, is_module_name, is_after}
use Rattle.clu_object.specs.ObjectFile.{number_bytes, object_bytes}
use Rattle.clu_object.specs.ObjectReading.{object_read}
use Rattle.clu_object.specs.Objects.{is_content, is_number, is_object}
use Rattle.clu_object.proofs.FieldLaws.{number_again, text_again, text16_again, then_ok, but_again}
use Rattle.clu_object.proofs.ListLaws.{AllGood, list_again}
use Rattle.clu_object.proofs.NameLaws.{module_name_short}
use Rattle.clu_object.proofs.Objects.{object_again}
use Rattle.clu_library.specs.ByName.{with_item}
use Rattle.clu_library.specs.Contents.{Contents, body_of, last_change}
use Rattle.clu_library.specs.Libraries.{are_names, is_list_of_names, are_names_of, is_body_if, IsModule, AreModules, change_at, body_at, changes_of, bodies_of}
use Rattle.clu_library.specs.LibraryFile.{list_of_names, names_bytes, body_bytes, kept_bytes, module_bytes}
use Rattle.clu_library.specs.LibraryReading.{SeenLibrary, library_seen, stepped, content_in, number_up_to, behind_names, next_name_read, names_but, names_read, named_spec, with_seen, spec_kept, with_revision, change_kept, object_kept, checked_kept, text_kept, body_kept, module_kept, next_module_kept}
use Rattle.clu_library.specs.declared.body.Body.{Body}
use Rattle.clu_library.specs.declared.body.Change.{Change}
use Rattle.clu_library.specs.declared.body.ModuleBody.{ModuleBody}
use Rattle.clu_library.specs.declared.read_modules.Version.TheVariants as version
use Rattle.clu_library.proofs.Appending.{AllBefore, less_of_after, put_last, before_pushed, before_maybe, cons_after}
use Rattle.clu_library.proofs.Contained.{named_same}
use Rattle.clu_library.proofs.Stepping.{behind_pushed}

-- parts in a row, one behind the other
pub four_parts : (a b c d rest : List ℕ) → (a ++ b ++ c ++ d) ++ rest ≡ a ++ (b ++ (c ++ (d ++ rest)))
four_parts a b c d rest = append_assoc (a ++ b ++ c) d rest ∙ append_assoc (a ++ b) c (d ++ rest) ∙ append_assoc a b (c ++ (d ++ rest))

pub body_shape : (b : Body) (rest : List ℕ) → body_bytes b ++ rest ≡ 1 ∷ (text64_bytes b.text ++ (number_bytes b.checked ++ (names_bytes b.names ++ (text64_bytes (object_bytes b.object) ++ rest))))
body_shape b rest = four_parts ((1 ∷ []) ++ text64_bytes b.text) (number_bytes b.checked) (names_bytes b.names) (text64_bytes (object_bytes b.object)) rest

-- Numbers and names.

pub up_to_again : (most n : ℕ) (rest : List ℕ) → n ≤ most → n ≤ 0xffff_ffff → number_up_to most (number_bytes n ++ rest) ≡ Ok (n, rest)
up_to_again most n rest le small = but_again (nat_lt most) (length (number_bytes n ++ rest)) (number_read 4 (number_bytes n ++ rest)) (n, rest) (number_again 4 n rest (omega (arith, small))) (le-ltb most n le)

pub if_so : {A : Type 0} (c : Bool) (left : ℕ) (r : Result A ℕ) → c ≡ true → (if c then r else Err left) ≡ r
if_so true left r e = refl
if_so false left r e = absurd (cc)

pub module_name_again : (previous name rest : List ℕ) → is_module_name name ≡ true → is_after previous name ≡ true → module_read previous (text16_bytes name ++ rest) ≡ Ok (name, rest)
module_name_again previous name rest named in_order =
    let bytes : List ℕ = text16_bytes name ++ rest in
    then_ok (text_read 2 bytes) (λ x. if is_module_name x.0 && is_after previous x.0 then Ok x else Err (length bytes)) (name, rest) (Ok (name, rest)) (text16_again name rest (module_name_short name named))
    (if_so (is_module_name name && is_after previous name) (length bytes) (Ok (name, rest)) (and_from (is_module_name name) (is_after previous name) named in_order))

abbrev pub NameGood : List ℕ → List (List ℕ) → List ℕ → Type 0
NameGood own made name = (is_module_name name ≡ true) × (is_after (behind_names [] made) name ≡ true) × (bytes_eq name own ≡ false)

name_again : (own : List ℕ) (made : List (List ℕ)) (name rest : List ℕ) → NameGood own made name → next_name_read own made (text16_bytes name ++ rest) ≡ Ok (name, rest)
name_again own made name rest good =
    but_again (λ name. bytes_eq name own) (length (text16_bytes name ++ rest)) (module_read (behind_names [] made) (text16_bytes name ++ rest)) (name, rest) (module_name_again (behind_names [] made) name rest good.0 good.1) good.2

good_names : (own : List ℕ) (made names : List (List ℕ)) → are_names own (behind_names [] made) names ≡ true → AllGood (NameGood own) made names
good_names own made [] h = tt
good_names own made (name ∷ names) h =
    let outer = and_parts (is_module_name name && is_after (behind_names [] made) name && not (bytes_eq name own)) (are_names own name names) h in
    let middle = and_parts (is_module_name name && is_after (behind_names [] made) name) (not (bytes_eq name own)) outer.0 in
    let inner = and_parts (is_module_name name) (is_after (behind_names [] made) name) middle.0 in
    let P : List ℕ → Type 0 = λ previous. are_names own previous names ≡ true in
    ((inner.0, inner.1, not-true (bytes_eq name own) middle.1), good_names own (made ++ name ∷ []) names (subst P (sym (behind_pushed [] name made)) outer.1))

pub names_again : (own : List ℕ) (names : List (List ℕ)) (rest : List ℕ) → is_list_of_names own names ≡ true → names_but own (list_of_names names ++ rest) ≡ Ok (names, rest)
names_again own names rest h =
    let parts = and_parts (is_number (length names)) (are_names own [] names) h in
    list_again (next_name_read own) text16_bytes (NameGood own) (name_again own) names rest parts.0 (good_names own [] names parts.1)

names_of_body : (own : List ℕ) (names : Option (List (List ℕ))) (rest : List ℕ) → are_names_of own names ≡ true → names_read own (names_bytes names ++ rest) ≡ Ok (names, rest)
names_of_body own None rest h = refl
names_of_body own (Some names) rest h = then_ok (names_but own (list_of_names names ++ rest)) (λ x. Ok (Some x.0, x.1)) (names, rest) (Ok (Some names, rest)) (names_again own names rest h) refl

pub text64_again : (text rest : List ℕ) → is_content text ≡ true → text_read 8 (text64_bytes text ++ rest) ≡ Ok (text, rest)
text64_again text rest h = text_again 8 text rest (ltb-true (length text) 0x1_0000_0000_0000_0000 h)

-- The parts of a module.

spec_again_kept : (made : SeenLibrary) (s : Spec) (rest : List ℕ) → IsSpecification (seen s) → is_content (spec_text (seen s)) ≡ true → AllBefore (λ (x : Specification). x.name) made.specs s.name
    → spec_kept s.name made (text64_bytes (spec_text (seen s)) ++ rest) ≡ Ok (record made { specs = made.specs ++ seen s ∷ [] }, rest)
unfolding spec_kept
spec_again_kept made s rest grammar fits before =
    let text : List ℕ = spec_text (seen s) in
    let bytes : List ℕ = text64_bytes text ++ rest in
    let same : bytes_eq s.name s.name ≡ true = (bytes_eq-Decides s.name s.name).1 refl in
    let named : named_spec s.name (length bytes) (whole_spec text) ≡ Ok (seen s) = named_same s.name text (length bytes) s refl grammar same in
    let put : with_item (λ (x : Specification). x.name) made.specs (seen s) ≡ made.specs ++ seen s ∷ [] = put_last (λ (x : Specification). x.name) made.specs (seen s) before in
    let whole : Read SeenLibrary = Ok (record made { specs = made.specs ++ seen s ∷ [] }, rest) in
    then_ok (text_read 8 bytes) (λ text. named_spec s.name (length bytes) (whole_spec text.0) >>= λ x. Ok (with_seen made x, text.1)) (text, rest) whole (text64_again text rest fits)
    (then_ok (named_spec s.name (length bytes) (whole_spec text)) (λ x. Ok (with_seen made x, rest)) (seen s) whole named (ap (λ (xs : List Specification). Ok (record made { specs = xs }, rest)) put))

pub revision_put : (n : ℕ) (name : List ℕ) (made : List Change) → AllBefore (λ (c : Change). c.name) made name → with_revision name n made ≡ made ++ cons_option (change_at name n) []
revision_put n name made before = by (nat_lt 0 n) refl
  where
    by : (b : Bool) → nat_lt 0 n ≡ b → with_revision name n made ≡ made ++ cons_option (change_at name n) []
    by true e = rw e (put_last (λ (c : Change). c.name) made (record { name = name; revision = n }) before)
    by false e = rw e (sym (append-nil made))

change_again : (most n : ℕ) (name : List ℕ) (made : List Change) (rest : List ℕ) → n ≤ most → most ≤ 0xffff_ffff → AllBefore (λ (c : Change). c.name) made name
    → change_kept version.Second most name made (number_bytes n ++ rest) ≡ Ok (made ++ cons_option (change_at name n) [], rest)
change_again most n name made rest le small before =
    then_ok (number_up_to most (number_bytes n ++ rest)) (λ revision. Ok (with_revision name revision.0 made, revision.1)) (n, rest) (Ok (made ++ cons_option (change_at name n) [], rest)) (up_to_again most n rest le (omega (arith, le, small)))
    (ap (λ (cs : List Change). Ok (cs, rest)) (revision_put n name made before))

object_again_kept : (name : List ℕ) (made : List ModuleBody) (b : Body) (rest : List ℕ) → is_object b.object ≡ true → is_content (object_bytes b.object) ≡ true → AllBefore (λ (b : ModuleBody). b.name) made name
    → object_kept name b.text b.checked b.names made (text64_bytes (object_bytes b.object) ++ rest) ≡ Ok (made ++ record { name = name; body = b } ∷ [], rest)
unfolding object_kept
object_again_kept name made b rest is fits before =
    let content : List ℕ = object_bytes b.object in
    let bytes : List ℕ = text64_bytes content ++ rest in
    let read : content_in (length bytes) (object_read content) ≡ Ok b.object = ap (content_in (length bytes)) (object_again b.object is) in
    let this : ModuleBody = record { name = name; body = b } in
    let whole : Read (List ModuleBody) = Ok (made ++ this ∷ [], rest) in
    then_ok (text_read 8 bytes)
    (λ content. content_in (length bytes) (object_read content.0) >>= λ object. Ok (with_item (λ (b : ModuleBody). b.name) made (record { name = name; body = record { text = b.text; names = b.names; checked = b.checked; object = object } }), content.1))
    (content, rest) whole (text64_again content rest fits)
    (then_ok (content_in (length bytes) (object_read content))
    (λ object. Ok (with_item (λ (b : ModuleBody). b.name) made (record { name = name; body = record { text = b.text; names = b.names; checked = b.checked; object = object } }), rest)) b.object whole read
    (ap (λ (bs : List ModuleBody). Ok (bs, rest)) (put_last (λ (b : ModuleBody). b.name) made this before)))

body_again : (most : ℕ) (name : List ℕ) (made : List ModuleBody) (o : Option Body) (rest : List ℕ) → most ≤ 0xffff_ffff → is_body_if most name o ≡ true → AllBefore (λ (b : ModuleBody). b.name) made name
    → body_kept version.Second most name made (kept_bytes o ++ rest) ≡ Ok (made ++ cons_option (body_at name o) [], rest)
unfolding body_kept
body_again most name made None rest small h before = ap (λ (bs : List ModuleBody). Ok (bs, rest)) (sym (append-nil made))
body_again most name made (Some b) rest small h before =
    let outer = and_parts (is_content b.text && nat_le b.checked most && are_names_of name b.names && is_object b.object) (is_content (object_bytes b.object)) h in
    let third = and_parts (is_content b.text && nat_le b.checked most && are_names_of name b.names) (is_object b.object) outer.0 in
    let second = and_parts (is_content b.text && nat_le b.checked most) (are_names_of name b.names) third.0 in
    let first = and_parts (is_content b.text) (nat_le b.checked most) second.0 in
    let le : b.checked ≤ most = leb-true b.checked most first.1 in
    let from_object : List ℕ = text64_bytes (object_bytes b.object) ++ rest in
    let from_names : List ℕ = names_bytes b.names ++ from_object in
    let from_checked : List ℕ = number_bytes b.checked ++ from_names in
    let from_text : List ℕ = text64_bytes b.text ++ from_checked in
    let whole : Read (List ModuleBody) = Ok (made ++ record { name = name; body = b } ∷ [], rest) in
    let object : object_kept name b.text b.checked b.names made from_object ≡ whole = object_again_kept name made b rest third.1 outer.1 before in
    let names : checked_kept most name b.text made from_checked ≡ whole =
    then_ok (number_up_to most from_checked) (λ checked. names_read name checked.1 >>= λ names. object_kept name b.text checked.0 names.0 made names.1) (b.checked, from_names) whole (up_to_again most b.checked from_names le (omega (arith, le, small)))
    (then_ok (names_read name from_names) (λ names. object_kept name b.text b.checked names.0 made names.1) (b.names, from_object) whole (names_of_body name b.names from_object second.1) object) in
    let text : text_kept version.Second most name made from_text ≡ whole =
    then_ok (text_read 8 from_text) (λ text. checked_kept most name text.0 made text.1) (b.text, from_checked) whole (text64_again b.text from_checked first.0) names in
    ap (body_kept version.Second most name made) (body_shape b rest) ∙ text

-- One module after the other.

-- these modules of a library beside what there is
abbrev pub joined : Contents → SeenLibrary → List Spec → SeenLibrary
joined library made specs = record made { specs = made.specs ++ map seen specs; changes = made.changes ++ changes_of library.changes (map seen specs); bodies = made.bodies ++ bodies_of library.bodies (map seen specs) }

-- all that there is comes before a name
abbrev pub ComesBefore : SeenLibrary → List ℕ → Type 0
ComesBefore made name = AllBefore (λ (x : Specification). x.name) made.specs name × AllBefore (λ (c : Change). c.name) made.changes name × AllBefore (λ (b : ModuleBody). b.name) made.bodies name

-- it comes before all names after this one
abbrev pub IsReady : List ℕ → SeenLibrary → Type 0
IsReady previous made = (name : List ℕ) → name_order previous name ≡ Less → ComesBefore made name

pub named_change : (name : List ℕ) (n : ℕ) → IfSome (change_at name n) (λ c. c.name ≡ name)
named_change name n = by (nat_lt 0 n) refl
  where
    by : (b : Bool) → nat_lt 0 n ≡ b → IfSome (change_at name n) (λ c. c.name ≡ name)
    by true e = rw e refl
    by false e = rw e tt

pub named_body : (name : List ℕ) (o : Option Body) → IfSome (body_at name o) (λ b. b.name ≡ name)
named_body name None = tt
named_body name (Some b) = refl

module _ (library : Contents) (small : library.revision ≤ 0xffff_ffff) where
  one_module : (previous : List ℕ) (made : SeenLibrary) (s : Spec) (rest : List ℕ) → made.revision ≡ library.revision → IsModule (library_seen library) previous (seen s) → ComesBefore made s.name
      → next_module_kept version.Second (previous, made) (module_bytes library s ++ rest) ≡ Ok ((s.name, joined library made (s ∷ [])), rest)
  unfolding module_bytes module_kept
  one_module previous made s rest same good before =
      let n : ℕ = last_change library s.name in
      let o : Option Body = body_of library s.name in
      let from_body : List ℕ = kept_bytes o ++ rest in
      let from_change : List ℕ = number_bytes n ++ from_body in
      let from_spec : List ℕ = text64_bytes (spec_text (seen s)) ++ from_change in
      let shape : module_bytes library s ++ rest ≡ text16_bytes s.name ++ from_spec = four_parts (text16_bytes s.name) (text64_bytes (spec_text (seen s))) (number_bytes n) (kept_bytes o) rest in
      let with_spec : SeenLibrary = record made { specs = made.specs ++ seen s ∷ [] } in
      let changes : List Change = made.changes ++ cons_option (change_at s.name n) [] in
      let bodies : List ModuleBody = made.bodies ++ cons_option (body_at s.name o) [] in
      let few : made.revision ≤ 0xffff_ffff = omega (arith, same, small) in
      let late : n ≤ made.revision = omega (arith, same, good.changed) in
      let body_good : is_body_if made.revision s.name o ≡ true = ap (λ (r : ℕ). is_body_if r s.name o) same ∙ good.body in
      let whole : Read SeenLibrary = Ok (joined library made (s ∷ []), rest) in
      let spec : spec_kept s.name made from_spec ≡ Ok (with_spec, from_change) = spec_again_kept made s from_change good.grammar good.fits before.0 in
      let change : change_kept version.Second made.revision s.name made.changes from_change ≡ Ok (changes, from_body) = change_again made.revision n s.name made.changes from_body late few before.1 in
      let body : body_kept version.Second made.revision s.name made.bodies from_body ≡ Ok (bodies, rest) = body_again made.revision s.name made.bodies o rest few body_good before.2 in
      let read : module_kept version.Second s.name made from_spec ≡ whole =
      then_ok (spec_kept s.name made from_spec)
      (λ specs. change_kept version.Second specs.0.revision s.name specs.0.changes specs.1 >>= λ changes. body_kept version.Second specs.0.revision s.name specs.0.bodies changes.1 >>= λ bodies. Ok (record specs.0 { changes = changes.0; bodies = bodies.0 }, bodies.1))
      (with_spec, from_change) whole spec
      (then_ok (change_kept version.Second made.revision s.name made.changes from_change)
      (λ changes. body_kept version.Second made.revision s.name made.bodies changes.1 >>= λ bodies. Ok (record with_spec { changes = changes.0; bodies = bodies.0 }, bodies.1)) (changes, from_body) whole change
      (then_ok (body_kept version.Second made.revision s.name made.bodies from_body) (λ bodies. Ok (record with_spec { changes = changes; bodies = bodies.0 }, bodies.1)) (bodies, rest) whole body refl)) in
      ap (next_module_kept version.Second (previous, made)) shape
      ∙ then_ok (module_read previous (text16_bytes s.name ++ from_spec)) (λ name. module_kept version.Second name.0 made name.1 >>= λ more. Ok ((name.0, more.0), more.1)) (s.name, from_spec) (Ok ((s.name, joined library made (s ∷ [])), rest))
      (module_name_again previous s.name from_spec good.named good.in_order)
      (then_ok (module_kept version.Second s.name made from_spec) (λ more. Ok ((s.name, more.0), more.1)) (joined library made (s ∷ []), rest) (Ok ((s.name, joined library made (s ∷ [])), rest)) read refl)

  ready_on : (previous : List ℕ) (made : SeenLibrary) (s : Spec) → IsReady previous made → name_order previous s.name ≡ Less → IsReady s.name (joined library made (s ∷ []))
  ready_on previous made s ready first name less =
      let before = ready name (nat_list_cmp_total.trans previous s.name name first less) in (
        before_pushed (λ (x : Specification). x.name) made.specs (seen s) name before.0 less,
        before_maybe (λ (c : Change). c.name) made.changes (change_at s.name (last_change library s.name)) s.name name before.1 (named_change s.name (last_change library s.name)) less,
        before_maybe (λ (b : ModuleBody). b.name) made.bodies (body_at s.name (body_of library s.name)) s.name name before.2 (named_body s.name (body_of library s.name)) less,
      )

  joined_on : (made : SeenLibrary) (s : Spec) (specs : List Spec) → joined library (joined library made (s ∷ [])) specs ≡ joined library made (s ∷ specs)
  joined_on made s specs =
      let this : List Change = cons_option (change_at s.name (last_change library s.name)) [] in
      let that : List ModuleBody = cons_option (body_at s.name (body_of library s.name)) [] in
      let in_specs : (made.specs ++ seen s ∷ []) ++ map seen specs ≡ made.specs ++ seen s ∷ map seen specs = append_assoc made.specs (seen s ∷ []) (map seen specs) in
      let in_changes : (made.changes ++ this) ++ changes_of library.changes (map seen specs) ≡ made.changes ++ changes_of library.changes (map seen (s ∷ specs)) =
      append_assoc made.changes this (changes_of library.changes (map seen specs)) ∙ ap (λ (cs : List Change). made.changes ++ cs) (sym (cons_after (λ (c : Change). c.name) (change_at s.name (last_change library s.name)) (changes_of library.changes (map seen specs)))) in
      let in_bodies : (made.bodies ++ that) ++ bodies_of library.bodies (map seen specs) ≡ made.bodies ++ bodies_of library.bodies (map seen (s ∷ specs)) =
      append_assoc made.bodies that (bodies_of library.bodies (map seen specs)) ∙ ap (λ (bs : List ModuleBody). made.bodies ++ bs) (sym (cons_after (λ (b : ModuleBody). b.name) (body_at s.name (body_of library s.name)) (bodies_of library.bodies (map seen specs)))) in
      together in_specs in_changes in_bodies
    where
      together : {specs specs' : List Specification} {changes changes' : List Change} {bodies bodies' : List ModuleBody} → specs ≡ specs' → changes ≡ changes' → bodies ≡ bodies'
          → ◌≡◌ {A = SeenLibrary} (record made { specs = specs; changes = changes; bodies = bodies }) (record made { specs = specs'; changes = changes'; bodies = bodies' })
      together p q r = rw (p, q, r) refl

  pub modules_again : (specs : List Spec) (previous : List ℕ) (made : SeenLibrary) (rest : List ℕ) → made.revision ≡ library.revision → AreModules (library_seen library) previous (map seen specs) → IsReady previous made
      → (last : List ℕ) × (stepped (next_module_kept version.Second) (length specs) (previous, made) (flat_map (module_bytes library) specs ++ rest) ≡ Ok ((last, joined library made specs), rest))
  unfolding stepped
  modules_again [] previous made rest same good ready = (previous, at_end)
    where
      at_end : ◌≡◌ {A = Read (List ℕ × SeenLibrary)} (Ok ((previous, made), rest)) (Ok ((previous, joined library made []), rest))
      at_end = rw (append-nil made.specs, append-nil made.changes, append-nil made.bodies) refl
  modules_again (s ∷ specs) previous made rest same good ready =
      let more : List ℕ = flat_map (module_bytes library) specs ++ rest in
      let less : name_order previous s.name ≡ Less = less_of_after previous s.name good.0.in_order in
      let here : next_module_kept version.Second (previous, made) (module_bytes library s ++ more) ≡ Ok ((s.name, joined library made (s ∷ [])), more) = one_module previous made s more same good.0 (ready s.name less) in
      let behind = modules_again specs s.name (joined library made (s ∷ [])) rest same good.1 (ready_on previous made s ready less) in
      let shape : (module_bytes library s ++ flat_map (module_bytes library) specs) ++ rest ≡ module_bytes library s ++ more = append_assoc (module_bytes library s) (flat_map (module_bytes library) specs) rest in (
        behind.0,
        rw (shape, here) (behind.1 ∙ ap (λ (x : SeenLibrary). Ok ((behind.0, x), rest)) (joined_on made s specs)),
      )
