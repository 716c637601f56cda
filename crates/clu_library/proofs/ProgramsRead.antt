-- The programs that were read are those of a library, each with a file of its image.
use Rattle.std.proofs.Common.{◌≡◌, ℕ, zero, suc, ◌<◌, ◌≤◌, ◌^◌, ◌&&◌, true, List, [], ◌∷◌, ◌++◌, length, Ok, Err, if◌then◌else◌, refl, sym, ap, subst, ◌∙◌, append_assoc, arith}
use Rattle.std.specs.List.{flat_map}
use Rattle.std.proofs.lemmas.Bool.{and_parts}
use Rattle.std.proofs.lemmas.Cmp.{nat_list_cmp_total}
use Rattle.std.proofs.lemmas.List.{append-nil}
use Rattle.std.specs.declared.cmp.Ordering.TheVariants.{Less}
use Rattle.clu_types.specs.Specs.{name_order}
use Rattle.clu_specs.specs.Reading.{Read, ◌>>=◌}
use Rattle.clu_specs.proofs.Outcomes.{and_then, passed}
use Rattle.clu_format.specs.Fields.{text_read, text16_bytes, text64_bytes, is_after}
use Rattle.clu_image.specs.ImageFile.{IsFileOf}
use Rattle.clu_object.proofs.FieldLaws.{value_is, behind_is, told, AreBytes, text_spelled, text16_is}
use Rattle.rv_isa.specs.Image.{Contents as Image}
use Rattle.clu_library.specs.ByName.{with_item}
use Rattle.clu_library.specs.ImageReading.{image_read}
use Rattle.clu_library.specs.Libraries.{IsProgram, ArePrograms}
use Rattle.clu_library.specs.LibraryFile.{list_of_names, program_with, AreFilesOf}
use Rattle.clu_library.specs.LibraryReading.{stepped, content_in, names_but, is_program_name, program_name_read, image_kept, program_kept, next_program_kept}
use Rattle.clu_library.specs.declared.program.Program.{Program}
use Rattle.clu_library.proofs.Appending.{AllBefore, less_of_after, put_last, before_pushed}
use Rattle.clu_library.proofs.ImageRead.{image_spelled}
use Rattle.clu_library.proofs.LibraryAgain.{IsReady}
use Rattle.clu_library.proofs.ModulesAgain.{four_parts}
use Rattle.clu_library.proofs.ModulesRead.{content_read, content_is, names_spelled}

-- Fields.

text16_read : (bytes text rest : List ℕ) → AreBytes bytes → text_read 2 bytes ≡ Ok (text, rest) → (bytes ≡ text16_bytes text ++ rest) × (length text ≤ 0xffff) × AreBytes rest
text16_read bytes text rest are e =
    let t = text_spelled 2 bytes text rest are e in
    let small : length text < 256 ^ 2 = t.small in
    let le : length text ≤ 0xffff = omega (arith, small) in
    (t.written ∙ ap (λ (bs : List ℕ). bs ++ rest) (sym (text16_is text le)), le, t.are_bytes)

record NameRead (previous bytes name rest : List ℕ) : Type 0 where
  pub named : is_program_name name ≡ true
  pub in_order : is_after previous name ≡ true
  pub written : bytes ≡ text16_bytes name ++ rest
  pub are_bytes : AreBytes rest

name_read : (previous bytes name rest : List ℕ) → AreBytes bytes → program_name_read previous bytes ≡ Ok (name, rest) → NameRead previous bytes name rest
name_read previous bytes name rest are e =
    let r = and_then (text_read 2 bytes) (λ (x : List ℕ × List ℕ). if is_program_name x.0 && is_after previous x.0 then Ok x else Err (length bytes)) (name, rest) e in
    let p = passed (is_program_name r.0.0 && is_after previous r.0.0) (length bytes) (Ok r.0) (name, rest) r.2 in
    let parts = and_parts (is_program_name r.0.0) (is_after previous r.0.0) p.0 in
    let t = text16_read bytes r.0.0 r.0.1 are r.1 in
    let read : NameRead previous bytes r.0.0 r.0.1 = record { named = parts.0; in_order = parts.1; written = t.0; are_bytes = t.2 } in
    told (λ (n : List ℕ) (bs : List ℕ). NameRead previous bytes n bs) r.0 (name, rest) p.1 read

record ImageKept (name start : List ℕ) (modules : List (List ℕ)) (bytes : List ℕ) (made new : List Program) (rest : List ℕ) : Type 0 where
  pub image : Image
  pub content : List ℕ
  pub file : IsFileOf content image
  pub put : made ++ record { name = name; start = start; modules = modules; image = image } ∷ [] ≡ new
  pub written : bytes ≡ text64_bytes content ++ rest
  pub are_bytes : AreBytes rest

image_read_kept : (name start : List ℕ) (modules : List (List ℕ)) (bytes : List ℕ) (made new : List Program) (rest : List ℕ) → AreBytes bytes → AllBefore (λ (p : Program). p.name) made name
    → image_kept name start modules made bytes ≡ Ok (new, rest) → ImageKept name start modules bytes made new rest
unfolding image_kept
image_read_kept name start modules bytes made new rest are before e =
    let r = and_then (text_read 8 bytes)
    (λ (content : List ℕ × List ℕ). content_in (length bytes) (image_read content.0) >>= λ image. Ok (with_item (λ (p : Program). p.name) made (record { name = name; start = start; modules = modules; image = image }), content.1)) (new, rest) e in
    let i = and_then (content_in (length bytes) (image_read r.0.0))
    (λ (image : Image). Ok (with_item (λ (p : Program). p.name) made (record { name = name; start = start; modules = modules; image = image }), r.0.1)) (new, rest) r.2 in
    let content = content_read bytes r.0.0 r.0.1 are r.1 in
    let p : Program = record { name = name; start = start; modules = modules; image = i.0 } in
    record {
      image = i.0;
      content = r.0.0;
      file = image_spelled r.0.0 i.0 content.are_bytes (content_is (length bytes) (image_read r.0.0) i.0 i.1);
      put = sym (put_last (λ (p : Program). p.name) made p before) ∙ value_is _ _ i.2;
      written = content.written ∙ ap (λ (bs : List ℕ). text64_bytes r.0.0 ++ bs) (behind_is _ _ i.2);
      are_bytes = subst AreBytes (behind_is _ _ i.2) content.are_behind;
    }

-- One program after the other.

program_shape : (image : List ℕ) (p : Program) (rest : List ℕ) → program_with image p ++ rest ≡ text16_bytes p.name ++ (text16_bytes p.start ++ (list_of_names p.modules ++ (text64_bytes image ++ rest)))
program_shape image p rest = four_parts (text16_bytes p.name) (text16_bytes p.start) (list_of_names p.modules) (text64_bytes image) rest

record OneRead (previous bytes name : List ℕ) (made new : List Program) (rest : List ℕ) : Type 0 where
  pub p : Program
  pub named : p.name ≡ name
  pub good : IsProgram previous p
  pub put : made ++ p ∷ [] ≡ new
  pub content : List ℕ
  pub file : IsFileOf content p.image
  pub written : bytes ≡ program_with content p ++ rest
  pub are_bytes : AreBytes rest

one_read : (previous bytes : List ℕ) (made : List Program) (name : List ℕ) (new : List Program) (rest : List ℕ) → AreBytes bytes → IsReady previous made → next_program_kept (previous, made) bytes ≡ Ok ((name, new), rest)
    → OneRead previous bytes name made new rest
one_read previous bytes made name new rest are ready e =
    let h = and_then (program_name_read previous bytes) (λ (name : List ℕ × List ℕ). program_kept name.0 made name.1 >>= λ more. Ok ((name.0, more.0), more.1)) ((name, new), rest) e in
    let m = and_then (program_kept h.0.0 made h.0.1) (λ (more : List Program × List ℕ). Ok ((h.0.0, more.0), more.1)) ((name, new), rest) h.2 in
    let s = and_then (text_read 2 h.0.1) (λ (start : List ℕ × List ℕ). names_but [] start.1 >>= λ modules. image_kept h.0.0 start.0 modules.0 made modules.1) m.0 m.1 in
    let n = and_then (names_but [] s.0.1) (λ (modules : List (List ℕ) × List ℕ). image_kept h.0.0 s.0.0 modules.0 made modules.1) m.0 s.2 in
    let heading = name_read previous bytes h.0.0 h.0.1 are h.1 in
    let start = text16_read h.0.1 s.0.0 s.0.1 heading.are_bytes s.1 in
    let names = names_spelled [] s.0.1 n.0.0 n.0.1 start.2 n.1 in
    let before = ready h.0.0 (less_of_after previous h.0.0 heading.in_order) in
    let image = image_read_kept h.0.0 s.0.0 n.0.0 n.0.1 made m.0.0 m.0.1 names.1 before n.2 in
    let p : Program = record { name = h.0.0; start = s.0.0; modules = n.0.0; image = image.image } in
    let rest_is : m.0.1 ≡ rest = behind_is _ _ m.2 in
    let from_modules : s.0.1 ≡ list_of_names n.0.0 ++ (text64_bytes image.content ++ rest) =
    names.2 ∙ ap (λ (bs : List ℕ). list_of_names n.0.0 ++ bs) (image.written ∙ ap (λ (bs : List ℕ). text64_bytes image.content ++ bs) rest_is) in
    let from_start : h.0.1 ≡ text16_bytes s.0.0 ++ (list_of_names n.0.0 ++ (text64_bytes image.content ++ rest)) = start.0 ∙ ap (λ (bs : List ℕ). text16_bytes s.0.0 ++ bs) from_modules in
    record {
      p = p;
      named = ap (λ (x : List ℕ × List Program). x.0) (value_is _ _ m.2);
      good = record { named = heading.named; in_order = heading.in_order; start = start.1; modules = names.0; image = image.file.image };
      put = image.put ∙ ap (λ (x : List ℕ × List Program). x.1) (value_is _ _ m.2);
      content = image.content;
      file = image.file;
      written = heading.written ∙ ap (λ (bs : List ℕ). text16_bytes h.0.0 ++ bs) from_start ∙ sym (program_shape image.content p rest);
      are_bytes = subst AreBytes rest_is image.are_bytes;
    }

pub record AllRead (count : ℕ) (previous bytes : List ℕ) (made new : List Program) (rest : List ℕ) : Type 0 where
  pub ps : List Program
  pub count_is : length ps ≡ count
  pub good : ArePrograms previous ps
  pub put : made ++ ps ≡ new
  pub files : List ℕ
  pub are_files : AreFilesOf ps files
  pub written : bytes ≡ files ++ rest
  pub are_bytes : AreBytes rest

pub programs_read : (count : ℕ) (previous bytes : List ℕ) (made : List Program) (last : List ℕ) (new : List Program) (rest : List ℕ) → AreBytes bytes → IsReady previous made
    → stepped next_program_kept count (previous, made) bytes ≡ Ok ((last, new), rest) → AllRead count previous bytes made new rest
unfolding stepped
programs_read zero previous bytes made last new rest are ready e =
    record {
      ps = [];
      count_is = refl;
      good = tt;
      put = append-nil made ∙ ap (λ (x : List ℕ × List Program). x.1) (value_is _ _ e);
      files = [];
      are_files = refl;
      written = behind_is _ _ e;
      are_bytes = subst AreBytes (behind_is _ _ e) are;
    }
programs_read (suc n) previous bytes made last new rest are ready e =
    let r = and_then (next_program_kept (previous, made) bytes) (λ (x : (List ℕ × List Program) × List ℕ). stepped next_program_kept n x.0 x.1) ((last, new), rest) e in
    let one = one_read previous bytes made r.0.0.0 r.0.0.1 r.0.1 are ready r.1 in
    let less : name_order previous one.p.name ≡ Less = less_of_after previous one.p.name one.good.in_order in
    let ready_one : IsReady one.p.name (made ++ one.p ∷ []) = λ name later. before_pushed (λ (p : Program). p.name) made one.p name (ready name (nat_list_cmp_total.trans previous one.p.name name less later)) later in
    let ready_made : IsReady one.p.name r.0.0.1 = subst (λ (x : List Program). IsReady one.p.name x) one.put ready_one in
    let ready_on : IsReady r.0.0.0 r.0.0.1 = subst (λ (x : List ℕ). IsReady x r.0.0.1) one.named ready_made in
    let behind = programs_read n r.0.0.0 r.0.1 r.0.0.1 last new rest one.are_bytes ready_on r.2 in
    record {
      ps = one.p ∷ behind.ps;
      count_is = ap suc behind.count_is;
      good = (one.good, subst (λ (x : List ℕ). ArePrograms x behind.ps) (sym one.named) behind.good);
      put = sym (append_assoc made (one.p ∷ []) behind.ps) ∙ ap (λ (x : List Program). x ++ behind.ps) one.put ∙ behind.put;
      files = program_with one.content one.p ++ behind.files;
      are_files = (one.content, behind.files, one.file, refl, behind.are_files);
      written = one.written ∙ ap (λ (bs : List ℕ). program_with one.content one.p ++ bs) behind.written ∙ sym (append_assoc (program_with one.content one.p) behind.files rest);
      are_bytes = behind.are_bytes;
    }
