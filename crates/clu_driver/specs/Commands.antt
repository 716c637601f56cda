-- What each command shows of its outcome.
use Rattle.std.specs.Prelude.{◌≡◌, ◌≢◌, ◌≤◌, ◌⊎◌, ℕ, List, Option, Some, None}
use Rattle.clu_base.specs.Outside.{Files, GrewWithin, Rose, appended}
use Rattle.clu_base.specs.declared.tokens.Token.{Token}
use Rattle.clu_asm.specs.AssemblyText.{asm_text}
use Rattle.clu_asm.specs.Faults.{IsFaultAt}
use Rattle.clu_image.specs.Faults.{fault_of}
use Rattle.clu_image.specs.ImageFile.{IsFileOf, image_bytes}
use Rattle.clu_printed.specs.Again.{IsReadAgain}
use Rattle.clu_printer.specs.Printed.{printed}
use Rattle.clu_tree.specs.declared.node.Node.{Node}
use Rattle.clu_words.specs.Command.{Limits, Meant}
use Rattle.clu_words.specs.Command as command
use Rattle.rv_isa.specs.Image.{Contents, IsImage}
use Rattle.clu_checked.specs.Sources.{IsSource}
use Rattle.clu_driver.specs.Found.{IsFound, NotRead}
use Rattle.clu_driver.specs.Generated.{generated_text}
use Rattle.clu_driver.specs.Libraries.{CompileShows, LinkShows, RunOfShows, SpecifyShows, XrefShows}
use Rattle.clu_driver.specs.Puts.{IsPut, NotPut}
use Rattle.clu_driver.specs.Shows.{IsAsked, RunShows, TextShows, untraced}
use Rattle.clu_driver.specs.Sources.{IsAccepted, NotCompiled, NotParsed}
use Rattle.clu_driver.specs.World.{IsUnrun, IsUntouched, World, world_of}
use Rattle.clu_outcome.specs.declared.outcome.Outcome.{Outcome}
use Rattle.clu_outcome.specs.declared.outcome.Outcome.TheVariants as outcome
use Rattle.clu_driver.specs.declared.specifying.Kept.TheVariants as kept

-- why an image file was not loaded: it was not read, or its bytes are no image
abbrev pub NotLoaded : Outcome → List ℕ → Option Files → ℕ → ℕ → Type 0
NotLoaded (outcome.ImageBad at) name files faults faults' = IsFound files name (λ bytes. fault_of bytes ≡ Some at)
NotLoaded how name files faults faults' = NotRead how name files faults faults'

-- a file of this image was put, from which the same image is loaded
abbrev pub IsImagePut : List ℕ → Contents → Option Files → Option Files → Type 0
IsImagePut name image files files' = IsFileOf (image_bytes image) image × IsPut name (image_bytes image) files files'

-- exec: the image was refused and nothing changed, or it was run and no file changed
abbrev pub ExecShows : Outcome → List ℕ → Limits → World → World → Type 0
ExecShows how name limits before after =
    (NotLoaded how name before.files before.store_faults after.store_faults × IsUntouched before after)
    ⊎ ((after.files ≡ before.files)
    × ((image : Contents) × IsFound before.files name (λ bytes. IsFileOf bytes image) × RunShows how image limits before.streams after.streams))

-- the image was not put, or it was put and run
abbrev pub PutShows : Outcome → List ℕ → Contents → Limits → World → World → Type 0
PutShows how name image limits before after =
    (NotPut how name (image_bytes image) before.files after.files before.store_faults after.store_faults × IsUnrun before.streams after.streams)
    ⊎ (IsImagePut name image before.files after.files × RunShows how image limits before.streams after.streams)

-- go: the source was refused and nothing changed, or it was accepted and an image was put and run
abbrev pub GoShows : Outcome → List ℕ → List ℕ → Limits → World → World → Type 0
GoShows how file name limits before after =
    (NotCompiled how file before.files before.store_faults after.store_faults × IsUntouched before after)
    ⊎ (IsFound before.files file IsAccepted
    × ((image : Contents) × (faults : ℕ) × (before.store_faults ≤ faults) × PutShows how name image limits (world_of before.files faults before.streams) after))

-- gen: the source was written, or some first bytes of it
abbrev pub GenShows : Outcome → ℕ → Option (List ℕ) → Option (List ℕ) → ℕ → ℕ → Type 0
GenShows outcome.Done n written written' faults faults' = written' ≡ appended written (generated_text n)
GenShows outcome.WriteFault n written written' faults faults' = Rose faults faults' × GrewWithin written written' (generated_text n)
GenShows _ n written written' faults faults' = ⊥

-- the text is what the printer makes of a source of these bytes, and is read again: as a source with the same tree, which is
-- printed as the same text
abbrev pub IsPrintOf : List ℕ → List ℕ → Type 0
IsPrintOf bytes text = (tokens : List Token) × (nodes : List Node) × IsSource bytes tokens nodes × (text ≡ printed bytes tokens nodes) × IsReadAgain text nodes

-- the printed text of the file was written, or some first bytes of it
abbrev pub PrintShows : Outcome → List ℕ → Option Files → Option (List ℕ) → ℕ → Option (List ℕ) → ℕ → Type 0
PrintShows how file files written faults written' faults' =
    (text : List ℕ) × IsFound files file (λ bytes. IsPrintOf bytes text) × TextShows how text written faults written' faults'

-- print: no file changed, and the source was refused and nothing written, or its text was written
abbrev pub PrintedShows : Outcome → List ℕ → Option Files → ℕ → Option (List ℕ) → ℕ → Option Files → ℕ → Option (List ℕ) → ℕ → Type 0
PrintedShows how file files store_faults written faults files' store_faults' written' faults' =
    (files' ≡ files)
    × ((NotParsed how file files store_faults store_faults' × (written' ≡ written)) ⊎ PrintShows how file files written faults written' faults')

-- the text is the assembly text of an image with this file
abbrev pub IsListing : List ℕ → List ℕ → Type 0
IsListing bytes text = (image : Contents) × IsFileOf bytes image × (text ≡ asm_text image)

-- the assembly text of the file's image was written, or some first bytes of it
abbrev pub ListingShows : Outcome → List ℕ → Option Files → Option (List ℕ) → ℕ → Option (List ℕ) → ℕ → Type 0
ListingShows how name files written faults written' faults' =
    (text : List ℕ) × IsFound files name (λ bytes. IsListing bytes text) × TextShows how text written faults written' faults'

-- list: no file changed, and the image was refused and nothing written, or its text was written
abbrev pub ListShows : Outcome → List ℕ → Option Files → ℕ → Option (List ℕ) → ℕ → Option Files → ℕ → Option (List ℕ) → ℕ → Type 0
ListShows how name files store_faults written faults files' store_faults' written' faults' =
    (files' ≡ files)
    × ((NotLoaded how name files store_faults store_faults' × (written' ≡ written)) ⊎ ListingShows how name files written faults written' faults')

-- the bytes are the assembly text of no image, with the fault at this place
abbrev pub IsBadText : ℕ → List ℕ → Type 0
IsBadText at bytes = IsFaultAt at bytes × ((image : Contents) → IsImage image → bytes ≢ asm_text image)

-- why no image was read: the file was not read, or its bytes are no assembly text
abbrev pub NotAssembled : Outcome → List ℕ → Option Files → ℕ → ℕ → Type 0
NotAssembled (outcome.AsmBad at) name files faults faults' = IsFound files name (IsBadText at)
NotAssembled how name files faults faults' = NotRead how name files faults faults'

-- an image was put, or why it was not
abbrev pub AssembledShows : Outcome → List ℕ → Contents → Option Files → Option Files → ℕ → ℕ → Type 0
AssembledShows outcome.Done name image files files' faults faults' = IsImagePut name image files files'
AssembledShows how name image files files' faults faults' = NotPut how name (image_bytes image) files files' faults faults'

-- asm: the text was refused and no file changed, or the file has the text of an image, and this image was put
abbrev pub AsmShows : Outcome → List ℕ → List ℕ → Option Files → ℕ → Option Files → ℕ → Type 0
AsmShows how file name files faults files' faults' =
    (NotAssembled how file files faults faults' × (files' ≡ files))
    ⊎ ((image : Contents) × IsFound files file (λ bytes. bytes ≡ asm_text image)
    × ((between : ℕ) × (faults ≤ between) × AssembledShows how name image files files' between faults'))

-- what the command that the words are shows of the outcome
abbrev pub CommandShows : Option Meant → Outcome → World → World → Type 0
CommandShows None how before after = (how ≡ outcome.Usage) × IsUntouched before after
CommandShows (Some (command.go file image limits peep trace)) how before after = IsAsked how trace × GoShows (untraced how) file image limits before after
CommandShows (Some (command.exec image limits)) how before after = ExecShows how image limits before after
CommandShows (Some (command.gen procedures)) how before after =
    (after.files ≡ before.files) × (after.streams.left ≡ before.streams.left)
    × GenShows how procedures before.streams.written after.streams.written before.streams.write_faults after.streams.write_faults
CommandShows (Some (command.print file)) how before after =
    (after.streams.left ≡ before.streams.left)
    × PrintedShows how file before.files before.store_faults before.streams.written before.streams.write_faults
    after.files after.store_faults after.streams.written after.streams.write_faults
CommandShows (Some (command.list image)) how before after =
    (after.streams.left ≡ before.streams.left)
    × ListShows how image before.files before.store_faults before.streams.written before.streams.write_faults
    after.files after.store_faults after.streams.written after.streams.write_faults
CommandShows (Some (command.asm file image)) how before after =
    IsUnrun before.streams after.streams × AsmShows how file image before.files before.store_faults after.files after.store_faults
CommandShows (Some (command.spec library file)) how before after =
    IsUnrun before.streams after.streams × SpecifyShows kept.Stays how library file before.files before.store_faults after.files after.store_faults
CommandShows (Some (command.replace library file)) how before after =
    IsUnrun before.streams after.streams × SpecifyShows kept.Goes how library file before.files before.store_faults after.files after.store_faults
CommandShows (Some (command.compile library file peep)) how before after =
    IsUnrun before.streams after.streams × CompileShows how library file before.files before.store_faults after.files after.store_faults
CommandShows (Some (command.link library program start)) how before after =
    IsUnrun before.streams after.streams × LinkShows how library program start before.files before.store_faults after.files after.store_faults
CommandShows (Some (command.run library program limits)) how before after = RunOfShows how library program limits before after
CommandShows (Some (command.xref library)) how before after =
    (after.streams.left ≡ before.streams.left)
    × XrefShows how library before.files before.store_faults before.streams.written before.streams.write_faults
    after.files after.store_faults after.streams.written after.streams.write_faults

-- the same, or memory for reading the words was refused
abbrev pub CluShows : Option Meant → Outcome → World → World → Type 0
CluShows meant how before after = ((how ≡ outcome.Memory) × IsUntouched before after) ⊎ CommandShows meant how before after

-- a status with which a command is refused: its words, its files, its image, library or source, its program, or memory
abbrev pub IsRefusal : ℕ → Type 0
IsRefusal status =
    (status ≡ 2) ⊎ ((status ≡ 10) ⊎ ((status ≡ 11) ⊎ ((status ≡ 12) ⊎ ((status ≡ 13) ⊎ ((status ≡ 14) ⊎ ((status ≡ 15) ⊎ ((status ≡ 16)
    ⊎ ((status ≡ 17) ⊎ ((status ≡ 18) ⊎ ((status ≡ 19) ⊎ ((status ≡ 20) ⊎ ((status ≡ 21) ⊎ ((status ≡ 24) ⊎ ((status ≡ 25) ⊎ ((status ≡ 26)
    ⊎ ((status ≡ 27) ⊎ ((status ≡ 28) ⊎ ((status ≡ 29) ⊎ ((status ≡ 30) ⊎ (status ≡ 31))))))))))))))))))))
