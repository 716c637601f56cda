-- What was read is a library, and its file has the bytes that are written of it.
use Rattle.std.proofs.Common.{◌≡◌, ℕ, zero, suc, ◌<◌, ◌≤◌, ◌^◌, ◌⊎◌, inl, inr, ◌==◌, nat_lt, nat_le, nat_eq, Bool, true, false, List, [], ◌∷◌, ◌++◌, map, length, take, drop, codes, Option, Some, None, option_map, find, Result, Ok, Err, if◌then◌else◌, refl, sym, ap, subst, ◌∙◌, append_assoc, arith}
use Rattle.std.specs.Cmp.Lexicographic.{bytes_decides}
use Rattle.std.specs.List.{cons_option, filter_map, flat_map, starts_with}
use Rattle.std.specs.Str.{bytes_eq}
use Rattle.std.proofs.lemmas.Bool.{le-leb, ltb-false, eqb-true}
use Rattle.std.proofs.lemmas.List.{append-nil, length-map, take-append-drop}
use Rattle.clu_types.specs.declared.spec.Spec.{Spec}
use Rattle.clu_specs.specs.Reading.{Read, ◌>>=◌, end_at}
use Rattle.clu_specs.specs.Seen.{Specification, seen, spec_text}
use Rattle.clu_specs.proofs.Outcomes.{and_then, passed, either, ended_spelled, ok_same}
use Rattle.clu_format.specs.Fields.{mark_read, number_read, text16_bytes, text64_bytes}
use Rattle.clu_image.specs.ImageFile.{image_bytes, IsFileOf}
use Rattle.clu_object.specs.ObjectFile.{number_bytes}
use Rattle.clu_object.proofs.FieldLaws.{value_is, behind_is, told, AreBytes, number_spelled}
use Rattle.clu_library.specs.Contents.{Contents, limit, nothing, revision_of}
use Rattle.clu_library.specs.Libraries.{IsLibrary, AreModules, ArePrograms, is_body_if, change_at, body_at, body_in, changes_of, bodies_of}
use Rattle.clu_library.specs.LibraryFile.{kept_bytes, module_bytes, program_with, program_bytes, library_with, library_bytes, AreFilesOf, HaveFixed, IsFirst, IsSecond, IsFile, IsPresent}
use Rattle.clu_library.specs.LibraryReading.{SeenLibrary, library_seen, stepped, beside, number_up_to, counts_read, second_head_read, head_by, head_read, next_module_kept, modules_kept, next_program_kept, programs_kept, library_into, library_read}
use Rattle.clu_library.specs.Staleness.{changed_in}
use Rattle.clu_library.specs.declared.body.Body.{Body}
use Rattle.clu_library.specs.declared.body.Change.{Change}
use Rattle.clu_library.specs.declared.body.ModuleBody.{ModuleBody}
use Rattle.clu_library.specs.declared.program.Program.{Program}
use Rattle.clu_library.specs.declared.reading.Head.{Head}
use Rattle.clu_library.specs.declared.read_modules.Version.{Version}
use Rattle.clu_library.specs.declared.read_modules.Version.TheVariants as version
use Rattle.clu_library.proofs.Appending.{less_of_after}
use Rattle.clu_library.proofs.LibraryAgain.{shape}
use Rattle.clu_library.proofs.LibraryAgain.{IsReady as ProgramsReady}
use Rattle.clu_library.proofs.Lookups.{Ascend, AreFound, all_found}
use Rattle.clu_library.proofs.ModulesAgain.{named_change, named_body}
use Rattle.clu_library.proofs.ModulesRead.{Entry, AreGood, entry_change, entry_body, entry_bytes, entered, InSecond, modules_read, up_to_read}
use Rattle.clu_library.proofs.ProgramsRead.{programs_read}

-- Modules, by what was read of each.

revision_at : (name : List ℕ) (n : ℕ) → revision_of (change_at name n) ≡ n
revision_at name n = by (nat_lt 0 n) refl
  where
    by : (b : Bool) → nat_lt 0 n ≡ b → revision_of (change_at name n) ≡ n
    by true e = rw e refl
    by false e = rw e (omega (arith, ltb-false 0 n e))

body_back : (name : List ℕ) (o : Option Body) → option_map (λ (b : ModuleBody). b.body) (body_at name o) ≡ o
body_back name None = refl
body_back name (Some b) = refl

ascends : (revision : ℕ) (previous : List ℕ) (es : List Entry) → AreGood revision previous es → Ascend (λ (e : Entry). e.s.name) (λ (c : Change). c.name) entry_change (λ e. named_change e.s.name e.changed) previous es
ascends revision previous [] h = tt
ascends revision previous (e ∷ es) h = (less_of_after previous e.s.name h.0.in_order, ascends revision e.s.name es h.1)

ascends_too : (revision : ℕ) (previous : List ℕ) (es : List Entry) → AreGood revision previous es → Ascend (λ (e : Entry). e.s.name) (λ (b : ModuleBody). b.name) entry_body (λ e. named_body e.s.name e.body) previous es
ascends_too revision previous [] h = tt
ascends_too revision previous (e ∷ es) h = (less_of_after previous e.s.name h.0.in_order, ascends_too revision e.s.name es h.1)

module _ (library : SeenLibrary) where
  abbrev ChangesFound : List Entry → Type 0
  ChangesFound es = AreFound (λ (e : Entry). e.s.name) (λ (c : Change). c.name) entry_change (λ e. named_change e.s.name e.changed) library.changes es

  abbrev BodiesFound : List Entry → Type 0
  BodiesFound es = AreFound (λ (e : Entry). e.s.name) (λ (b : ModuleBody). b.name) entry_body (λ e. named_body e.s.name e.body) library.bodies es

  changed_is : (e : Entry) → find (λ (c : Change). bytes_eq c.name e.s.name) library.changes ≡ entry_change e → changed_in library.changes e.s.name ≡ e.changed
  changed_is e found = ap revision_of found ∙ revision_at e.s.name e.changed

  body_is : (e : Entry) → find (λ (b : ModuleBody). bytes_eq b.name e.s.name) library.bodies ≡ entry_body e → body_in library.bodies e.s.name ≡ e.body
  body_is e found = ap (option_map (λ (b : ModuleBody). b.body)) found ∙ body_back e.s.name e.body

  are_modules : (previous : List ℕ) (es : List Entry) → AreGood library.revision previous es → ChangesFound es → BodiesFound es → AreModules library previous (map (λ (e : Entry). e.s) es)
  are_modules previous [] good changes bodies = tt
  are_modules previous (e ∷ es) good changes bodies = (
    record {
      grammar = good.0.grammar;
      fits = good.0.fits;
      named = good.0.named;
      in_order = good.0.in_order;
      changed = subst (λ (n : ℕ). n ≤ library.revision) (sym (changed_is e changes.0)) good.0.few;
      body = subst (λ (o : Option Body). is_body_if library.revision e.s.name o ≡ true) (sym (body_is e bodies.0)) good.0.body;
    },
    are_modules e.s.name es good.1 changes.1 bodies.1,
  )

  all_changes : (es : List Entry) → ChangesFound es → filter_map entry_change es ≡ changes_of library.changes (map (λ (e : Entry). e.s) es)
  all_changes [] found = refl
  all_changes (e ∷ es) found =
      let this : entry_change e ≡ change_at e.s.name (changed_in library.changes e.s.name) = ap (change_at e.s.name) (sym (changed_is e found.0)) in
      ap (λ (o : Option Change). cons_option o (filter_map entry_change es)) this ∙ ap (cons_option (change_at e.s.name (changed_in library.changes e.s.name))) (all_changes es found.1)

  all_bodies : (es : List Entry) → BodiesFound es → filter_map entry_body es ≡ bodies_of library.bodies (map (λ (e : Entry). e.s) es)
  all_bodies [] found = refl
  all_bodies (e ∷ es) found =
      let this : entry_body e ≡ body_at e.s.name (body_in library.bodies e.s.name) = ap (body_at e.s.name) (sym (body_is e found.0)) in
      ap (λ (o : Option ModuleBody). cons_option o (filter_map entry_body es)) this ∙ ap (cons_option (body_at e.s.name (body_in library.bodies e.s.name))) (all_bodies es found.1)

  -- what is written of a module
  abbrev bytes_of : Specification → List ℕ
  bytes_of s = text16_bytes s.name ++ text64_bytes (spec_text s) ++ number_bytes (changed_in library.changes s.name) ++ kept_bytes (body_in library.bodies s.name)

  entries_written : (es : List Entry) → ChangesFound es → BodiesFound es → flat_map entry_bytes es ≡ flat_map bytes_of (map (λ (e : Entry). e.s) es)
  entries_written [] changes bodies = refl
  entries_written (e ∷ es) changes bodies =
      let front : List ℕ = text16_bytes e.s.name ++ text64_bytes (spec_text e.s) in
      let this : entry_bytes e ≡ bytes_of e.s =
      ap (λ (n : ℕ). front ++ number_bytes n ++ kept_bytes e.body) (sym (changed_is e changes.0)) ∙ ap (λ (o : Option Body). front ++ number_bytes (changed_in library.changes e.s.name) ++ kept_bytes o) (sym (body_is e bodies.0)) in
      ap (λ (bs : List ℕ). bs ++ flat_map entry_bytes es) this ∙ ap (λ (bs : List ℕ). bytes_of e.s ++ bs) (entries_written es changes.1 bodies.1)

seen_written : (library : Contents) (specs : List Spec) → flat_map (bytes_of (library_seen library)) (map seen specs) ≡ flat_map (module_bytes library) specs
unfolding module_bytes
seen_written library [] = refl
seen_written library (s ∷ specs) = ap (λ (bs : List ℕ). bytes_of (library_seen library) (seen s) ++ bs) (seen_written library specs)

-- The whole, by its parts.

module _ (revision : ℕ) (es : List Entry) (ps : List Program) (good : AreGood revision [] es) where
  abbrev whole : SeenLibrary
  whole = record { revision = revision; specs = map (λ (e : Entry). e.s) es; changes = filter_map entry_change es; bodies = filter_map entry_body es; programs = ps }

  changes_found : ChangesFound whole es
  changes_found = all_found (λ (e : Entry). e.s.name) (λ (c : Change). c.name) entry_change (λ e. named_change e.s.name e.changed) [] [] es (λ n less. tt) (ascends revision [] es good)

  bodies_found : BodiesFound whole es
  bodies_found = all_found (λ (e : Entry). e.s.name) (λ (b : ModuleBody). b.name) entry_body (λ e. named_body e.s.name e.body) [] [] es (λ n less. tt) (ascends_too revision [] es good)

  parts_are_library : revision ≤ 0xffff_ffff → length es ≤ limit → length ps ≤ limit → ArePrograms [] ps → IsLibrary whole
  parts_are_library small few_modules few_programs programs =
      record {
        revision = le-leb revision 0xffff_ffff small;
        few_modules = omega (arith, few_modules, length-map es (λ (e : Entry). e.s));
        few_programs = few_programs;
        modules = are_modules whole [] es good changes_found bodies_found;
        changes = all_changes whole es changes_found;
        bodies = all_bodies whole es bodies_found;
        programs = programs;
      }

-- The head.

signature : (bytes rest : List ℕ) → mark_read (codes "CLUL") bytes ≡ Ok rest → bytes ≡ codes "CLUL" ++ rest
signature bytes rest e =
    let p = passed (starts_with nat_eq bytes (codes "CLUL")) (length bytes) (Ok (drop 4 bytes)) rest e in
    let rest_is : drop 4 bytes ≡ rest = ok_same (Ok (drop 4 bytes)) (drop 4 bytes) rest refl p.1 in
    let same : codes "CLUL" ≡ take 4 bytes = (bytes_decides (codes "CLUL") (take 4 bytes)).0 p.0 in
    sym (take-append-drop 4 bytes) ∙ ap (λ (bs : List ℕ). bs ++ drop 4 bytes) (sym same) ∙ ap (λ (bs : List ℕ). codes "CLUL" ++ bs) rest_is

record CountsRead (of : Version) (revision : ℕ) (bytes : List ℕ) (h : Head) (rest : List ℕ) : Type 0 where
  pub version_is : h.version ≡ of
  pub revision_is : h.revision ≡ revision
  pub few_modules : h.modules ≤ limit
  pub few_programs : h.programs ≤ limit
  pub written : bytes ≡ number_bytes h.modules ++ (number_bytes h.programs ++ rest)
  pub are_bytes : AreBytes rest

counts_spelled : (of : Version) (revision : ℕ) (bytes : List ℕ) (h : Head) (rest : List ℕ) → AreBytes bytes → counts_read of revision bytes ≡ Ok (h, rest) → CountsRead of revision bytes h rest
counts_spelled of revision bytes h rest are e =
    let m = and_then (number_up_to limit bytes) (λ (modules : ℕ × List ℕ). number_up_to limit modules.1 >>= λ programs. Ok (record { version = of; revision = revision; modules = modules.0; programs = programs.0 }, programs.1)) (h, rest) e in
    let p = and_then (number_up_to limit m.0.1) (λ (programs : ℕ × List ℕ). Ok (record { version = of; revision = revision; modules = m.0.0; programs = programs.0 }, programs.1)) (h, rest) m.2 in
    let modules = up_to_read limit m.0.0 bytes m.0.1 are m.1 in
    let programs = up_to_read limit p.0.0 m.0.1 p.0.1 modules.1 p.1 in
    let made : Head = record { version = of; revision = revision; modules = m.0.0; programs = p.0.0 } in
    let read : CountsRead of revision bytes made p.0.1 =
    record {
      version_is = refl;
      revision_is = refl;
      few_modules = modules.0;
      few_programs = programs.0;
      written = modules.2 ∙ ap (λ (bs : List ℕ). number_bytes m.0.0 ++ bs) programs.2;
      are_bytes = programs.1;
    } in
    told (λ (x : Head) (bs : List ℕ). CountsRead of revision bytes x bs) (made, p.0.1) (h, rest) p.2 read

-- how a file begins
abbrev Begins : Version → List ℕ → Head → List ℕ → Type 0
Begins version.First bytes h rest = IsFirst bytes
Begins version.Second bytes h rest = bytes ≡ codes "CLUL" ++ (number_bytes 2 ++ (number_bytes h.revision ++ (number_bytes h.modules ++ (number_bytes h.programs ++ rest))))

record HeadRead (bytes : List ℕ) (h : Head) (rest : List ℕ) : Type 0 where
  pub small : h.revision ≤ 0xffff_ffff
  pub few_modules : h.modules ≤ limit
  pub few_programs : h.programs ≤ limit
  pub begins : Begins h.version bytes h rest
  pub are_bytes : AreBytes rest

head_spelled : (bytes : List ℕ) (h : Head) (rest : List ℕ) → AreBytes bytes → head_read bytes ≡ Ok (h, rest) → HeadRead bytes h rest
unfolding head_read
head_spelled bytes h rest are e =
    let m = and_then (mark_read (codes "CLUL") bytes) (λ (field : List ℕ). number_read 4 field >>= λ number. head_by number.0 field number.1) (h, rest) e in
    let n = and_then (number_read 4 m.0) (λ (number : ℕ × List ℕ). head_by number.0 m.0 number.1) (h, rest) m.2 in
    let mark : bytes ≡ codes "CLUL" ++ m.0 = signature bytes m.0 m.1 in
    let marked_bytes : AreBytes m.0 = λ k. (subst AreBytes mark are) (suc (suc (suc (suc k)))) in
    let number = number_spelled 4 m.0 n.0.0 n.0.1 marked_bytes n.1 in
    let whole : bytes ≡ codes "CLUL" ++ (number_bytes n.0.0 ++ n.0.1) = mark ∙ ap (λ (bs : List ℕ). codes "CLUL" ++ bs) number.written in
    by n.0.0 n.0.1 (length m.0) whole number.are_bytes (either (n.0.0 == 1) (counts_read version.First 0 n.0.1) (if n.0.0 == 2 then second_head_read n.0.1 else Err (length m.0)) (Ok (h, rest)) n.2)
  where
    of_first : (behind : List ℕ) → bytes ≡ codes "CLUL" ++ (number_bytes 1 ++ behind) → CountsRead version.First 0 behind h rest → HeadRead bytes h rest
    of_first behind is counts =
        record {
          small = omega (arith, counts.revision_is);
          few_modules = counts.few_modules;
          few_programs = counts.few_programs;
          begins = subst (λ (v : Version). Begins v bytes h rest) (sym counts.version_is) (behind, is);
          are_bytes = counts.are_bytes;
        }

    of_second : (revision : ℕ) (behind from_counts : List ℕ) → bytes ≡ codes "CLUL" ++ (number_bytes 2 ++ behind) → behind ≡ number_bytes revision ++ from_counts → revision < 256 ^ 4 → CountsRead version.Second revision from_counts h rest → HeadRead bytes h rest
    of_second revision behind from_counts is in_revision small counts =
        let from_revision : behind ≡ number_bytes h.revision ++ (number_bytes h.modules ++ (number_bytes h.programs ++ rest)) =
        in_revision ∙ ap (λ (n : ℕ). number_bytes n ++ from_counts) (sym counts.revision_is) ∙ ap (λ (bs : List ℕ). number_bytes h.revision ++ bs) counts.written in
        let begins : Begins version.Second bytes h rest = is ∙ ap (λ (bs : List ℕ). codes "CLUL" ++ (number_bytes 2 ++ bs)) from_revision in
        record {
          small = omega (arith, counts.revision_is, small);
          few_modules = counts.few_modules;
          few_programs = counts.few_programs;
          begins = subst (λ (v : Version). Begins v bytes h rest) (sym counts.version_is) begins;
          are_bytes = counts.are_bytes;
        }

    by : (number : ℕ) (behind : List ℕ) (left : ℕ) → bytes ≡ codes "CLUL" ++ (number_bytes number ++ behind) → AreBytes behind
        → (((number == 1) ≡ true) × (counts_read version.First 0 behind ≡ Ok (h, rest))) ⊎ (((number == 1) ≡ false) × ((if number == 2 then second_head_read behind else Err left) ≡ Ok (h, rest))) → HeadRead bytes h rest
    by number behind left is are (inl first) =
        let one : number ≡ 1 = eqb-true number 1 first.0 in
        of_first behind (is ∙ ap (λ (n : ℕ). codes "CLUL" ++ (number_bytes n ++ behind)) one) (counts_spelled version.First 0 behind h rest are first.1)
    by number behind left is are (inr others) =
        let second = passed (number == 2) left (second_head_read behind) (h, rest) others.1 in
        let two : number ≡ 2 = eqb-true number 2 second.0 in
        let r = and_then (number_read 4 behind) (λ (revision : ℕ × List ℕ). counts_read version.Second revision.0 revision.1) (h, rest) second.1 in
        let revision = number_spelled 4 behind r.0.0 r.0.1 are r.1 in
        of_second r.0.0 behind r.0.1 (is ∙ ap (λ (n : ℕ). codes "CLUL" ++ (number_bytes n ++ behind)) two) revision.written revision.small (counts_spelled version.Second r.0.0 r.0.1 h rest revision.are_bytes r.2)

-- The whole file.

behind_last : {A B : Type 0} (read : Read (A × B)) (x : B) (rest : List ℕ) → beside read ≡ Ok (x, rest) → (last : A) × (read ≡ Ok ((last, x), rest))
behind_last {A} {B} read x rest e =
    let r = and_then read (λ (y : (A × B) × List ℕ). Ok (y.0.1, y.1)) (x, rest) e in
    let value : ◌≡◌ {A = Read (A × B)} (Ok r.0) (Ok ((r.0.0.0, x), r.0.1)) = ap (λ (b : B). Ok ((r.0.0.0, b), r.0.1)) (value_is _ _ r.2) in
    let behind : ◌≡◌ {A = Read (A × B)} (Ok ((r.0.0.0, x), r.0.1)) (Ok ((r.0.0.0, x), rest)) = ap (λ (bs : List ℕ). Ok ((r.0.0.0, x), bs)) (behind_is _ _ r.2) in
    (r.0.0.0, r.1 ∙ value ∙ behind)

-- what was read of a file, part by part
record WholeRead (bytes : List ℕ) (p : SeenLibrary) : Type 0 where
  pub h : Head
  pub es : List Entry
  pub ps : List Program
  pub files : List ℕ
  pub good : AreGood h.revision [] es
  pub is : whole h.revision es ps good ≡ p
  pub is_library : IsLibrary (whole h.revision es ps good)
  pub are_files : AreFilesOf ps files
  pub modules_are : length es ≡ h.modules
  pub programs_are : length ps ≡ h.programs
  pub from_modules : List ℕ
  pub begins : Begins h.version bytes h from_modules
  pub written : InSecond h.version (from_modules ≡ flat_map entry_bytes es ++ files)

abbrev with_programs : SeenLibrary → List Program → SeenLibrary
with_programs x ps = record x { programs = ps }

whole_read : (bytes : List ℕ) (p : SeenLibrary) → AreBytes bytes → library_read bytes ≡ Ok p → WholeRead bytes p
unfolding library_into
whole_read bytes p are e =
    let nothing_seen : SeenLibrary = library_seen nothing in
    let h = and_then (head_read bytes)
    (λ (head : Head × List ℕ). modules_kept head.0.version head.0.modules (record nothing_seen { revision = head.0.revision }) head.1 >>= λ modules. programs_kept head.0.programs modules.0.programs modules.1 >>= λ programs. end_at (record modules.0 { programs = programs.0 }) programs.1) p e in
    let begun : SeenLibrary = record nothing_seen { revision = h.0.0.revision } in
    let m = and_then (modules_kept h.0.0.version h.0.0.modules begun h.0.1)
    (λ (modules : SeenLibrary × List ℕ). programs_kept h.0.0.programs modules.0.programs modules.1 >>= λ programs. end_at (record modules.0 { programs = programs.0 }) programs.1) p h.2 in
    let r = and_then (programs_kept h.0.0.programs m.0.0.programs m.0.1) (λ (programs : List Program × List ℕ). end_at (record m.0.0 { programs = programs.0 }) programs.1) p m.2 in
    let ended = ended_spelled (record m.0.0 { programs = r.0.0 }) r.0.1 p r.2 in
    let head = head_spelled bytes h.0.0 h.0.1 are h.1 in
    let in_modules = behind_last (stepped (next_module_kept h.0.0.version) h.0.0.modules ([], begun) h.0.1) m.0.0 m.0.1 m.1 in
    let modules = modules_read h.0.0.version h.0.0.modules [] h.0.1 begun in_modules.0 m.0.0 m.0.1 head.are_bytes (λ name less. (tt, tt, tt)) in_modules.1 in
    let none : [] ≡ m.0.0.programs = ap (λ (x : SeenLibrary). x.programs) modules.put in
    let in_programs = behind_last (stepped next_program_kept h.0.0.programs ([], m.0.0.programs) m.0.1) r.0.0 r.0.1 r.1 in
    let ready : ProgramsReady [] m.0.0.programs = subst (λ (x : List Program). ProgramsReady [] x) none (λ name less. tt) in
    let programs = programs_read h.0.0.programs [] m.0.1 m.0.0.programs in_programs.0 r.0.0 r.0.1 modules.are_bytes ready in_programs.1 in
    let programs_are : programs.ps ≡ r.0.0 = ap (λ (x : List Program). x ++ programs.ps) none ∙ programs.put in
    let files_are : m.0.1 ≡ programs.files = programs.written ∙ ap (λ (bs : List ℕ). programs.files ++ bs) ended.1 ∙ append-nil programs.files in
    record {
      h = h.0.0;
      es = modules.es;
      ps = programs.ps;
      files = programs.files;
      good = modules.good;
      is = ap (λ (x : SeenLibrary). with_programs x programs.ps) modules.put ∙ ap (λ (x : List Program). with_programs m.0.0 x) programs_are ∙ ended.0;
      is_library = parts_are_library h.0.0.revision modules.es programs.ps modules.good head.small (omega (arith, modules.count_is, head.few_modules)) (omega (arith, programs.count_is, head.few_programs)) programs.good;
      are_files = programs.are_files;
      modules_are = modules.count_is;
      programs_are = programs.count_is;
      from_modules = h.0.1;
      begins = head.begins;
      written = in_files h.0.0.version (flat_map entry_bytes modules.es) h.0.1 m.0.1 programs.files modules.written files_are;
    }
  where
    in_files : (v : Version) (front bytes rest files : List ℕ) → InSecond v (bytes ≡ front ++ rest) → rest ≡ files → InSecond v (bytes ≡ front ++ files)
    in_files version.First front bytes rest files written e = tt
    in_files version.Second front bytes rest files written e = written ∙ ap (λ (bs : List ℕ). front ++ bs) e

-- what a reader says of the library that it gives
pub read_is_library : (b : List ℕ) (p : SeenLibrary) → AreBytes b → library_read b ≡ Ok p → IsLibrary p
read_is_library b p are e = let r = whole_read b p are e in subst (λ (x : SeenLibrary). IsLibrary x) r.is r.is_library

pub read_is_file : (b : List ℕ) (l : Contents) → AreBytes b → library_read b ≡ Ok (library_seen l) → IsFile b l
read_is_file b l are e = of_whole (whole_read b (library_seen l) are e)
  where
    of_whole : WholeRead b (library_seen l) → IsFile b l
    of_whole r = by r.h.version r.begins r.written
      where
        found_changes : ChangesFound (library_seen l) r.es
        found_changes = subst (λ (x : SeenLibrary). ChangesFound x r.es) r.is (changes_found r.h.revision r.es r.ps r.good)

        found_bodies : BodiesFound (library_seen l) r.es
        found_bodies = subst (λ (x : SeenLibrary). BodiesFound x r.es) r.is (bodies_found r.h.revision r.es r.ps r.good)

        specs_are : map (λ (e : Entry). e.s) r.es ≡ map seen l.specs
        specs_are = ap (λ (x : SeenLibrary). x.specs) r.is

        programs_are : r.ps ≡ l.programs
        programs_are = ap (λ (x : SeenLibrary). x.programs) r.is

        modules_written : flat_map entry_bytes r.es ≡ flat_map (module_bytes l) l.specs
        modules_written = entries_written (library_seen l) r.es found_changes found_bodies ∙ ap (flat_map (bytes_of (library_seen l))) specs_are ∙ seen_written l l.specs

        revision_is : r.h.revision ≡ l.revision
        revision_is = ap (λ (x : SeenLibrary). x.revision) r.is

        modules_count : r.h.modules ≡ length l.specs
        modules_count = sym r.modules_are ∙ sym (length-map r.es (λ (e : Entry). e.s)) ∙ ap length specs_are ∙ length-map l.specs seen

        programs_count : r.h.programs ≡ length l.programs
        programs_count = sym r.programs_are ∙ ap length programs_are

        library : IsLibrary (library_seen l)
        library = subst (λ (x : SeenLibrary). IsLibrary x) r.is r.is_library

        second : b ≡ codes "CLUL" ++ (number_bytes 2 ++ (number_bytes r.h.revision ++ (number_bytes r.h.modules ++ (number_bytes r.h.programs ++ r.from_modules)))) → r.from_modules ≡ flat_map entry_bytes r.es ++ r.files → IsSecond b l
        second is written =
            let parts : r.from_modules ≡ flat_map (module_bytes l) l.specs ++ r.files = written ∙ ap (λ (bs : List ℕ). bs ++ r.files) modules_written in
            record {
              programs = r.files;
              are_files = subst (λ (ps : List Program). AreFilesOf ps r.files) programs_are r.are_files;
              is = is ∙ parts_are revision_is modules_count programs_count parts ∙ sym (shape l library r.files);
            }
          where
            parts_are : {v v' m m' n n' : ℕ} {bs bs' : List ℕ} → v ≡ v' → m ≡ m' → n ≡ n' → bs ≡ bs'
                → codes "CLUL" ++ (number_bytes 2 ++ (number_bytes v ++ (number_bytes m ++ (number_bytes n ++ bs)))) ≡ codes "CLUL" ++ (number_bytes 2 ++ (number_bytes v' ++ (number_bytes m' ++ (number_bytes n' ++ bs'))))
            parts_are p q r s = rw (p, q, r, s) refl

        by : (v : Version) → Begins v b r.h r.from_modules → InSecond v (r.from_modules ≡ flat_map entry_bytes r.es ++ r.files) → IsFile b l
        by version.First begins written = inl begins
        by version.Second begins written = inr (second begins written)

-- Files whose images are of version 2 as well are written as they were.

same_files : (ps : List Program) (files : List ℕ) → AreFilesOf ps files → HaveFixed ps → files ≡ flat_map program_bytes ps
unfolding program_bytes
same_files [] files are fixed = are
same_files (p ∷ ps) files are fixed =
    let content : List ℕ = are.0 in
    let rest : List ℕ = are.1 in
    are.3 ∙ ap (λ (bs : List ℕ). program_with bs p ++ rest) (same_image content are.2) ∙ ap (λ (bs : List ℕ). program_with (image_bytes p.image) p ++ bs) (same_files ps rest are.4 fixed.1)
  where
    same_image : (content : List ℕ) → IsFileOf content p.image → content ≡ image_bytes p.image
    same_image content file = elim file.is [ inl second ↦ second | inr first ↦ absurd (fixed.0 first.0) ]

pub written_again : (b : List ℕ) (l : Contents) → AreBytes b → library_read b ≡ Ok (library_seen l) → IsPresent b l → library_bytes l ≡ b
written_again b l are e present = by (read_is_file b l are e)
  where
    by : IsFile b l → library_bytes l ≡ b
    by (inl first) = absurd (present.second first)
    by (inr second) = ap (λ (bs : List ℕ). library_with bs l) (sym (same_files l.programs second.programs second.are_files present.fixed)) ∙ sym second.is
