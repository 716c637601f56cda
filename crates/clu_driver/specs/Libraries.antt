-- What the commands on libraries show of their outcome. `known` is the library that the file has before the command.
use Rattle.std.specs.Prelude.{◌≡◌, ◌≤◌, ◌⊎◌, ℕ, List, Option, Some, None, map}
use Rattle.std.specs.Char.{to_ascii_lowercase}
use Rattle.clu_base.specs.Outside.{Files}
use Rattle.clu_base.specs.declared.tokens.Token.{Token}
use Rattle.clu_build.specs.Entering.{AreEntered, AreReplaced, IsFileEntered, names_of, text_at}
use Rattle.clu_build.specs.Programs.{IsLinked}
use Rattle.clu_build.specs.References.{cross_reference}
use Rattle.clu_library.specs.Contents.{Contents, program_of}
use Rattle.clu_library.specs.LibraryFile.{library_bytes}
use Rattle.clu_library.specs.Unmet.{TellsUnmet}
use Rattle.clu_library.specs.declared.program.Program.{Program}
use Rattle.clu_check_mod.specs.declared.walk.Extent.TheVariants as extent
use Rattle.clu_tree.specs.Nodes.{modules}
use Rattle.clu_tree.specs.declared.node.Node.{Node}
use Rattle.clu_types.specs.declared.spec.Spec.{Spec}
use Rattle.clu_words.specs.Command.{Limits}
use Rattle.clu_checked.specs.Sources.{IsSource}
use Rattle.clu_driver.specs.Found.{IsFound, IsUnder}
use Rattle.clu_driver.specs.Held.{HasLibrary, IsLibraryFile, NotLibrary}
use Rattle.clu_driver.specs.Puts.{IsPut, NotPut}
use Rattle.clu_driver.specs.Refusals.{NotEntered, NotLinked, NotSpecified}
use Rattle.clu_driver.specs.Shows.{RunShows, TextShows}
use Rattle.clu_driver.specs.Sources.{AreSpecificationsOf, IsChecked, IsHeaded, IsParsed, NotAccepted, NotGot, NotParsed}
use Rattle.clu_driver.specs.World.{IsUnrun, Streams, World}
use Rattle.clu_outcome.specs.declared.outcome.Outcome.{Outcome}
use Rattle.clu_outcome.specs.declared.outcome.Outcome.TheVariants as outcome
use Rattle.clu_driver.specs.declared.specifying.Kept.{Kept}
use Rattle.clu_driver.specs.declared.specifying.Kept.TheVariants as kept

-- why a source is not read beside a library: its content is not got, or it breaks a rule and the library is one
abbrev pub NotBeside : Outcome → List ℕ → List ℕ → Option Files → ℕ → ℕ → Type 0
NotBeside (outcome.Refused n r) library file files faults faults' = IsUnder files library IsLibraryFile × NotParsed (outcome.Refused n r) file files faults faults'
NotBeside how library file files faults faults' = NotGot how file files faults faults'

-- why there is no library with a source, of which the library's file is read first
abbrev pub NotGathered : Outcome → List ℕ → List ℕ → Option Files → ℕ → ℕ → Type 0
NotGathered how library file files faults faults' =
    NotLibrary how library files faults faults'
    ⊎ ((between : ℕ) × (faults ≤ between) × NotBeside how library file files between faults')

-- bytes were put, or why they were not
abbrev pub BytesShow : Outcome → List ℕ → List ℕ → Option Files → Option Files → ℕ → ℕ → Type 0
BytesShow outcome.Done name bytes files files' faults faults' = IsPut name bytes files files'
BytesShow how name bytes files files' faults faults' = NotPut how name bytes files files' faults faults'

-- why a library has no file that can be read
abbrev pub IsUnwritable : Outcome → Type 0
IsUnwritable outcome.Memory = Unit {0}
IsUnwritable outcome.NotYet = Unit {0}
IsUnwritable _ = ⊥

-- the bytes of this library were put, which are read again as one, or why they were not
abbrev pub LibraryShows : Outcome → List ℕ → Contents → Option Files → Option Files → ℕ → ℕ → Type 0
LibraryShows how name kept files files' faults faults' =
    (IsUnwritable how × (files' ≡ files)) ⊎ (IsLibraryFile (Some (library_bytes kept)) × BytesShow how name (library_bytes kept) files files' faults faults')

-- the modules of a source with these specifications and texts were refused and no file changed, or the library was put in which they are
-- entered
abbrev pub EnteredShows : Outcome → List ℕ → Contents → List Spec → (ℕ → Option (List ℕ)) → Option Files → ℕ → Option Files → ℕ → Type 0
EnteredShows how name known own texts files faults files' faults' =
    (NotEntered how known × (files' ≡ files))
    ⊎ ((after : Contents) × IsFileEntered known after own texts × LibraryShows how name after files files' faults faults')

-- specifications were entered beside the kept ones, or in their place
abbrev pub IsSpecified : Kept → Contents → List Spec → Contents → Type 0
IsSpecified kept.Stays before specs after = AreEntered before after specs
IsSpecified kept.Goes before specs after = AreReplaced before specs after × TellsUnmet after (names_of specs) None

-- they were refused and no file changed, or the library was put in which they are entered
abbrev pub SpecsShow : Kept → Outcome → List ℕ → Contents → List Spec → Option Files → ℕ → Option Files → ℕ → Type 0
SpecsShow kept how name known specs files faults files' faults' =
    (NotSpecified kept how known specs × (files' ≡ files))
    ⊎ ((after : Contents) × IsSpecified kept known specs after × LibraryShows how name after files files' faults faults')

-- the headings of a tree were refused and no file changed, or they were accepted and the specifications of its modules were entered
abbrev pub SpecifiedShows : Kept → Outcome → List ℕ → List ℕ → List Node → Contents → Option Files → ℕ → Option Files → ℕ → Type 0
SpecifiedShows kept how name file nodes known files faults files' faults' =
    (NotAccepted extent.Headings how file known.specs nodes × (files' ≡ files))
    ⊎ (IsHeaded known.specs nodes
    × ((specs : List Spec) × AreSpecificationsOf known.specs nodes specs × SpecsShow kept how name known specs files faults files' faults'))

-- spec and replace: library or source was refused and no file changed, or the source is a file of the grammar and was specified
unfoldable pub SpecifyShows : Kept → Outcome → List ℕ → List ℕ → Option Files → ℕ → Option Files → ℕ → Type 0
SpecifyShows kept how library file files faults files' faults' =
    (NotGathered how library file files faults faults' × (files' ≡ files))
    ⊎ ((known : Contents) × HasLibrary files library known
    × ((nodes : List Node) × IsFound files file (λ bytes. IsParsed bytes nodes)
    × ((between : ℕ) × (faults ≤ between) × SpecifiedShows kept how library file nodes known files between files' faults')))

-- a tree was refused and no file changed, or it was accepted and its modules were entered, with their texts in the source
abbrev pub CompiledShows : Outcome → List ℕ → List ℕ → Contents → List ℕ → List Token → List Node → Option Files → ℕ → Option Files → ℕ → Type 0
CompiledShows how name file known bytes tokens nodes files faults files' faults' =
    (NotAccepted extent.Whole how file known.specs nodes × (files' ≡ files))
    ⊎ (IsChecked known.specs nodes
    × ((own : List Spec) × AreSpecificationsOf known.specs nodes own × EnteredShows how name known own (text_at bytes tokens nodes) files faults files' faults'))

-- compile: library or source was refused and no file changed, or the source is a file of the grammar and was compiled
unfoldable pub CompileShows : Outcome → List ℕ → List ℕ → Option Files → ℕ → Option Files → ℕ → Type 0
CompileShows how library file files faults files' faults' =
    (NotGathered how library file files faults faults' × (files' ≡ files))
    ⊎ ((known : Contents) × HasLibrary files library known
    × ((bytes : List ℕ) × (tokens : List Token) × (nodes : List Node) × IsFound files file (λ b. b ≡ bytes) × IsSource bytes tokens nodes
    × ((between : ℕ) × (faults ≤ between) × CompiledShows how library file known bytes tokens nodes files between files' faults')))

-- a program was refused and no file changed, or a library was put that has a program more, of this name and start
abbrev pub LinkedShows : Outcome → List ℕ → List ℕ → List ℕ → Contents → Option Files → ℕ → Option Files → ℕ → Type 0
LinkedShows how name program start known files faults files' faults' =
    (NotLinked how start known × (files' ≡ files))
    ⊎ ((after : Contents) × IsLinked known after program start × LibraryShows how name after files files' faults faults')

-- link: the library was refused and no file changed, or a program was linked from the start in lower case
unfoldable pub LinkShows : Outcome → List ℕ → List ℕ → List ℕ → Option Files → ℕ → Option Files → ℕ → Type 0
LinkShows how library program start files faults files' faults' =
    (NotLibrary how library files faults faults' × (files' ≡ files))
    ⊎ ((known : Contents) × HasLibrary files library known
    × ((between : ℕ) × (faults ≤ between) × LinkedShows how library program (map to_ascii_lowercase start) known files between files' faults'))

-- why a library gives no program: it has none of the name, or memory was refused
abbrev pub NotProgram : Outcome → List ℕ → Contents → Type 0
NotProgram (outcome.NoProgram n) name known = (n.now ≡ name) × (program_of known name ≡ None)
NotProgram outcome.Memory name known = Unit {0}
NotProgram _ name known = ⊥

-- there was no program, or its image was run
abbrev pub ProgramShows : Outcome → List ℕ → Contents → Limits → Streams → Streams → Type 0
ProgramShows how name known limits before after =
    (NotProgram how name known × IsUnrun before after)
    ⊎ ((program : Program) × (program_of known name ≡ Some program) × RunShows how program.image limits before after)

-- run: no file changed, and the library was refused and nothing run, or a program of it was
abbrev pub RunOfShows : Outcome → List ℕ → List ℕ → Limits → World → World → Type 0
RunOfShows how library name limits before after =
    (after.files ≡ before.files)
    × ((NotLibrary how library before.files before.store_faults after.store_faults × IsUnrun before.streams after.streams)
    ⊎ ((known : Contents) × HasLibrary before.files library known × ProgramShows how name known limits before.streams after.streams))

-- the text is the cross-reference of the library under a name
abbrev pub IsReferenceText : Option Files → List ℕ → List ℕ → Type 0
IsReferenceText files name text = (known : Contents) × HasLibrary files name known × (text ≡ cross_reference known)

-- xref: no file changed, and the library was refused and nothing written, or this text was written, or some first bytes of it
abbrev pub XrefShows : Outcome → List ℕ → Option Files → ℕ → Option (List ℕ) → ℕ → Option Files → ℕ → Option (List ℕ) → ℕ → Type 0
XrefShows how name files store_faults written faults files' store_faults' written' faults' =
    (files' ≡ files)
    × ((NotLibrary how name files store_faults store_faults' × (written' ≡ written))
    ⊎ ((text : List ℕ) × IsReferenceText files name text × TextShows how text written faults written' faults'))
