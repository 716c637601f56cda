-- A library that was written is read as it is.
use Rattle.std.proofs.Common.{◌≡◌, ℕ, ◌-◌, ◌≤◌, ◌&&◌, inl, min, nat_le, true, List, [], ◌∷◌, ◌++◌, map, length, take, codes, Result, Ok, Err, if◌then◌else◌, refl, sym, ap, ◌∙◌, append_assoc, arith}
use Rattle.std.specs.List.{flat_map}
use Rattle.std.proofs.lemmas.Bool.{leb-true, and_parts, and_from}
use Rattle.std.proofs.lemmas.List.{append-nil, take_all, length-map}
use Rattle.std.proofs.lemmas.Cmp.{nat_list_cmp_total}
use Rattle.std.specs.declared.cmp.Ordering.TheVariants.{Less}
use Rattle.clu_base.specs.declared.errors.FormatError.{FormatError}
use Rattle.clu_base.specs.declared.errors.FormatError.TheVariants as error
use Rattle.clu_types.specs.Specs.{name_order}
use Rattle.clu_specs.specs.Reading.{Read, ◌>>=◌, Fails, end_at, offset_error}
use Rattle.clu_specs.specs.Seen.{seen}
use Rattle.clu_specs.proofs.Outcomes.{ok_same}
use Rattle.clu_format.specs.Fields.{number_read, text_read, text16_bytes, text64_bytes, is_after}
use Rattle.clu_image.specs.ImageFile.{image_bytes, IsFileOf}
use Rattle.clu_object.specs.ObjectFile.{number_bytes}
use Rattle.clu_object.specs.Objects.{is_content}
use Rattle.clu_object.proofs.FieldLaws.{number_again, text16_again, then_ok}
use Rattle.rv_isa.specs.Image.{IsImage}
use Rattle.clu_library.specs.ByName.{with_item}
use Rattle.clu_library.specs.Contents.{Contents, limit, nothing}
use Rattle.clu_library.specs.ImageReading.{image_read}
use Rattle.clu_library.specs.Libraries.{IsLibrary, IsProgram, ArePrograms}
use Rattle.clu_library.specs.LibraryFile.{list_of_names, module_bytes, program_bytes, start_bytes, library_with, library_bytes}
use Rattle.clu_library.specs.LibraryReading.{SeenLibrary, library_seen, stepped, beside, content_in, number_up_to, counts_read, second_head_read, head_by, head_read, names_but, modules_kept, is_program_name, program_name_read, image_kept, program_kept, next_program_kept, programs_kept, library_into, library_read}
use Rattle.clu_library.specs.declared.body.Change.{Change}
use Rattle.clu_library.specs.declared.body.ModuleBody.{ModuleBody}
use Rattle.clu_library.specs.declared.program.Program.{Program}
use Rattle.clu_library.specs.declared.reading.Head.{Head}
use Rattle.clu_library.specs.declared.read_modules.Version.TheVariants as version
use Rattle.clu_library.proofs.Appending.{AllBefore, less_of_after, put_last, before_pushed}
use Rattle.clu_library.proofs.Contained.{image_ok, image_small}
use Rattle.clu_library.proofs.ModulesAgain.{four_parts, up_to_again, if_so, names_again, text64_again, joined, modules_again}

-- Programs.

program_name_short : (name : List ℕ) → is_program_name name ≡ true → length name ≤ 0xffff
program_name_short name h = omega (arith, leb-true (length name) 200 (and_parts (nat_le 1 (length name)) (nat_le (length name) 200) h).1)

image_again_kept : (p : Program) (made : List Program) (rest : List ℕ) → IsImage p.image → is_content (image_bytes p.image) ≡ true → AllBefore (λ (p : Program). p.name) made p.name
    → image_kept p.name p.start p.modules made (text64_bytes (image_bytes p.image) ++ rest) ≡ Ok (made ++ p ∷ [], rest)
unfolding image_kept
image_again_kept p made rest is fits before =
    let content : List ℕ = image_bytes p.image in
    let bytes : List ℕ = text64_bytes content ++ rest in
    let file : IsFileOf content p.image = record { image = is; is = inl refl } in
    let whole : Read (List Program) = Ok (made ++ p ∷ [], rest) in
    then_ok (text_read 8 bytes)
    (λ content. content_in (length bytes) (image_read content.0) >>= λ image. Ok (with_item (λ (p : Program). p.name) made (record { name = p.name; start = p.start; modules = p.modules; image = image }), content.1)) (content, rest) whole (text64_again content rest fits)
    (then_ok (content_in (length bytes) (image_read content)) (λ image. Ok (with_item (λ (p : Program). p.name) made (record { name = p.name; start = p.start; modules = p.modules; image = image }), rest)) p.image whole (image_ok content (length bytes) p.image file)
    (ap (λ (ps : List Program). Ok (ps, rest)) (put_last (λ (p : Program). p.name) made p before)))

one_program : (previous : List ℕ) (made : List Program) (p : Program) (rest : List ℕ) → IsProgram previous p → AllBefore (λ (p : Program). p.name) made p.name
    → next_program_kept (previous, made) (program_bytes p ++ rest) ≡ Ok ((p.name, made ++ p ∷ []), rest)
unfolding program_bytes
one_program previous made p rest good before =
    let from_image : List ℕ = text64_bytes (image_bytes p.image) ++ rest in
    let from_modules : List ℕ = list_of_names p.modules ++ from_image in
    let from_start : List ℕ = text16_bytes p.start ++ from_modules in
    let shape : program_bytes p ++ rest ≡ text16_bytes p.name ++ from_start = four_parts (text16_bytes p.name) (text16_bytes p.start) (list_of_names p.modules) (text64_bytes (image_bytes p.image)) rest in
    let bytes : List ℕ = text16_bytes p.name ++ from_start in
    let name : program_name_read previous bytes ≡ Ok (p.name, from_start) =
    then_ok (text_read 2 bytes) (λ x. if is_program_name x.0 && is_after previous x.0 then Ok x else Err (length bytes)) (p.name, from_start) (Ok (p.name, from_start)) (text16_again p.name from_start (program_name_short p.name good.named))
    (if_so (is_program_name p.name && is_after previous p.name) (length bytes) (Ok (p.name, from_start)) (and_from (is_program_name p.name) (is_after previous p.name) good.named good.in_order)) in
    let whole : Read (List Program) = Ok (made ++ p ∷ [], rest) in
    let image : image_kept p.name p.start p.modules made from_image ≡ whole = image_again_kept p made rest good.image (image_small p.image good.image) before in
    let program : program_kept p.name made from_start ≡ whole =
    then_ok (text_read 2 from_start) (λ start. names_but [] start.1 >>= λ modules. image_kept p.name start.0 modules.0 made modules.1) (p.start, from_modules) whole (text16_again p.start from_modules good.start)
    (then_ok (names_but [] from_modules) (λ modules. image_kept p.name p.start modules.0 made modules.1) (p.modules, from_image) whole (names_again [] p.modules from_image good.modules) image) in
    ap (next_program_kept (previous, made)) shape
    ∙ then_ok (program_name_read previous bytes) (λ name. program_kept name.0 made name.1 >>= λ more. Ok ((name.0, more.0), more.1)) (p.name, from_start) (Ok ((p.name, made ++ p ∷ []), rest)) name
    (then_ok (program_kept p.name made from_start) (λ more. Ok ((p.name, more.0), more.1)) (made ++ p ∷ [], rest) (Ok ((p.name, made ++ p ∷ []), rest)) program refl)

abbrev pub IsReady : List ℕ → List Program → Type 0
IsReady previous made = (name : List ℕ) → name_order previous name ≡ Less → AllBefore (λ (p : Program). p.name) made name

programs_again : (programs : List Program) (previous : List ℕ) (made : List Program) (rest : List ℕ) → ArePrograms previous programs → IsReady previous made
    → (last : List ℕ) × (stepped next_program_kept (length programs) (previous, made) (flat_map program_bytes programs ++ rest) ≡ Ok ((last, made ++ programs), rest))
unfolding stepped
programs_again [] previous made rest good ready = (previous, at_end)
  where
    at_end : ◌≡◌ {A = Read (List ℕ × List Program)} (Ok ((previous, made), rest)) (Ok ((previous, made ++ []), rest))
    at_end = rw (append-nil made) refl
programs_again (p ∷ programs) previous made rest good ready =
    let more : List ℕ = flat_map program_bytes programs ++ rest in
    let less : name_order previous p.name ≡ Less = less_of_after previous p.name good.0.in_order in
    let here : next_program_kept (previous, made) (program_bytes p ++ more) ≡ Ok ((p.name, made ++ p ∷ []), more) = one_program previous made p more good.0 (ready p.name less) in
    let ready_on : IsReady p.name (made ++ p ∷ []) = λ name later. before_pushed (λ (p : Program). p.name) made p name (ready name (nat_list_cmp_total.trans previous p.name name less later)) later in
    let behind = programs_again programs p.name (made ++ p ∷ []) rest good.1 ready_on in
    let shape : (program_bytes p ++ flat_map program_bytes programs) ++ rest ≡ program_bytes p ++ more = append_assoc (program_bytes p) (flat_map program_bytes programs) rest in (
      behind.0,
      rw (shape, here) (behind.1 ∙ ap (λ (ps : List Program). Ok ((behind.0, ps), rest)) (append_assoc made (p ∷ []) programs)),
    )

-- The whole file.

head_again : (revision modules programs : ℕ) (rest : List ℕ) → revision ≤ 0xffff_ffff → modules ≤ limit → programs ≤ limit
    → head_read (codes "CLUL" ++ (number_bytes 2 ++ (number_bytes revision ++ (number_bytes modules ++ (number_bytes programs ++ rest))))) ≡ Ok (record { version = version.Second; revision = revision; modules = modules; programs = programs }, rest)
unfolding head_read
head_again revision modules programs rest small few_modules few_programs =
    let from_programs : List ℕ = number_bytes programs ++ rest in
    let from_modules : List ℕ = number_bytes modules ++ from_programs in
    let from_revision : List ℕ = number_bytes revision ++ from_modules in
    let from_version : List ℕ = number_bytes 2 ++ from_revision in
    let whole : Read Head = Ok (record { version = version.Second; revision = revision; modules = modules; programs = programs }, rest) in
    let counts : counts_read version.Second revision from_modules ≡ whole =
    then_ok (number_up_to limit from_modules) (λ modules. number_up_to limit modules.1 >>= λ programs. Ok (record { version = version.Second; revision = revision; modules = modules.0; programs = programs.0 }, programs.1)) (modules, from_programs) whole
    (up_to_again limit modules from_programs few_modules (omega (arith, few_modules)))
    (then_ok (number_up_to limit from_programs) (λ programs. Ok (record { version = version.Second; revision = revision; modules = modules; programs = programs.0 }, programs.1)) (programs, rest) whole (up_to_again limit programs rest few_programs (omega (arith, few_programs))) refl) in
    let second : second_head_read from_revision ≡ whole =
    then_ok (number_read 4 from_revision) (λ revision. counts_read version.Second revision.0 revision.1) (revision, from_modules) whole (number_again 4 revision from_modules (omega (arith, small))) counts in
    then_ok (number_read 4 from_version) (λ number. head_by number.0 from_version number.1) (2, from_revision) whole (number_again 4 2 from_revision (omega arith)) second

module _ (library : Contents) (is : IsLibrary (library_seen library)) where
  abbrev modules_part : List ℕ
  modules_part = flat_map (module_bytes library) library.specs

  abbrev programs_part : List ℕ
  programs_part = flat_map program_bytes library.programs

  few_specs : length library.specs ≤ limit
  few_specs = omega (arith, length-map library.specs seen, is.few_modules)

  pub shape : (programs : List ℕ)
      → library_with programs library ≡ codes "CLUL" ++ (number_bytes 2 ++ (number_bytes library.revision ++ (number_bytes (length library.specs) ++ (number_bytes (length library.programs) ++ (modules_part ++ programs)))))
  unfolding start_bytes
  shape last =
      let modules : min (length library.specs) limit ≡ length library.specs = omega (arith, few_specs) in
      let programs : min (length library.programs) 0xffff_ffff ≡ length library.programs = omega (arith, is.few_programs) in
      let all : take limit library.specs ≡ library.specs = take_all limit library.specs few_specs in
      rw (modules, programs, all) joined_up
    where
      joined_up : ((codes "CLUL" ++ number_bytes 2 ++ number_bytes library.revision) ++ number_bytes (length library.specs) ++ number_bytes (length library.programs)) ++ modules_part ++ last
          ≡ codes "CLUL" ++ (number_bytes 2 ++ (number_bytes library.revision ++ (number_bytes (length library.specs) ++ (number_bytes (length library.programs) ++ (modules_part ++ last)))))
      joined_up =
          let parts : List ℕ = modules_part ++ last in
          let from_programs : List ℕ = number_bytes (length library.programs) ++ parts in
          let from_modules : List ℕ = number_bytes (length library.specs) ++ from_programs in
          append_assoc ((codes "CLUL" ++ number_bytes 2 ++ number_bytes library.revision) ++ number_bytes (length library.specs) ++ number_bytes (length library.programs)) modules_part last
          ∙ append_assoc ((codes "CLUL" ++ number_bytes 2 ++ number_bytes library.revision) ++ number_bytes (length library.specs)) (number_bytes (length library.programs)) parts
          ∙ append_assoc (codes "CLUL" ++ number_bytes 2 ++ number_bytes library.revision) (number_bytes (length library.specs)) from_programs
          ∙ append_assoc (codes "CLUL" ++ number_bytes 2) (number_bytes library.revision) from_modules
          ∙ append_assoc (codes "CLUL") (number_bytes 2) (number_bytes library.revision ++ from_modules)

  abbrev begun : SeenLibrary
  begun = record (library_seen nothing) { revision = library.revision }

  -- what is read of the modules
  all_modules : joined library begun library.specs ≡ record (library_seen library) { programs = [] }
  all_modules = together (sym is.changes) (sym is.bodies)
    where
      together : {changes changes' : List Change} {bodies bodies' : List ModuleBody} → changes ≡ changes' → bodies ≡ bodies'
          → ◌≡◌ {A = SeenLibrary} (record begun { specs = map seen library.specs; changes = changes; bodies = bodies }) (record begun { specs = map seen library.specs; changes = changes'; bodies = bodies' })
      together p q = rw (p, q) refl

  pub library_again : library_read (library_bytes library) ≡ Ok (library_seen library)
  unfolding library_into
  library_again =
      let small : library.revision ≤ 0xffff_ffff = leb-true library.revision 0xffff_ffff is.revision in
      let whole : Result SeenLibrary ℕ = Ok (library_seen library) in
      let parts : List ℕ = modules_part ++ programs_part in
      let head : Head = record { version = version.Second; revision = library.revision; modules = length library.specs; programs = length library.programs } in
      let bytes : List ℕ = codes "CLUL" ++ (number_bytes 2 ++ (number_bytes library.revision ++ (number_bytes (length library.specs) ++ (number_bytes (length library.programs) ++ parts)))) in
      let read_head : head_read bytes ≡ Ok (head, parts) = head_again library.revision (length library.specs) (length library.programs) parts small few_specs is.few_programs in
      let modules = modules_again library small library.specs [] begun programs_part refl is.modules (λ name less. (tt, tt, tt)) in
      let modules_read : modules_kept version.Second (length library.specs) begun parts ≡ Ok (record (library_seen library) { programs = [] }, programs_part) = ap beside modules.1 ∙ ap (λ (x : SeenLibrary). Ok (x, programs_part)) all_modules in
      let programs = programs_again library.programs [] [] [] is.programs (λ name less. tt) in
      let programs_read : programs_kept (length library.programs) [] programs_part ≡ Ok (library.programs, []) =
      ap (programs_kept (length library.programs) []) (sym (append-nil programs_part)) ∙ ap beside programs.1 in
      ap (library_into (library_seen nothing)) (shape programs_part)
      ∙ then_ok (head_read bytes)
      (λ head. modules_kept head.0.version head.0.modules (record (library_seen nothing) { revision = head.0.revision }) head.1 >>= λ modules. programs_kept head.0.programs modules.0.programs modules.1 >>= λ programs. end_at (record modules.0 { programs = programs.0 }) programs.1)
      (head, parts) whole read_head
      (then_ok (modules_kept version.Second (length library.specs) begun parts) (λ modules. programs_kept (length library.programs) modules.0.programs modules.1 >>= λ programs. end_at (record modules.0 { programs = programs.0 }) programs.1)
      (record (library_seen library) { programs = [] }, programs_part) whole modules_read
      (then_ok (programs_kept (length library.programs) [] programs_part) (λ programs. end_at (record (library_seen library) { programs = programs.0 }) programs.1) (library.programs, []) whole programs_read refl))

-- what a reader says of a library that was written
pub same_library : (b : List ℕ) (p : SeenLibrary) (l : Contents) → library_read b ≡ Ok p → IsLibrary (library_seen l) → b ≡ library_bytes l → p ≡ library_seen l
same_library b p l read is e = ok_same (library_read b) p (library_seen l) read (ap library_read e ∙ library_again l is)

pub not_refused : (e : FormatError) (b : List ℕ) (l : Contents) (n : ℕ) → Fails e (library_read b) → IsLibrary (library_seen l) → b ≡ library_bytes l → offset_error n e ≡ error.Memory
not_refused error.Memory b l n fails is same = refl
not_refused (error.Bad left) b l n fails is same = clash (sym fails ∙ (ap library_read same ∙ library_again l is))
  where
    clash : ◌≡◌ {A = Result SeenLibrary ℕ} (Err left) (Ok (library_seen l)) → error.Bad (n - left) ≡ error.Memory
    clash e = absurd (cc)
