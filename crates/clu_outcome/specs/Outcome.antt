-- The status and the line of each outcome of a command.
use Rattle.std.specs.Prelude.{◌≡◌, ℕ, ◌⊎◌, List, [], ◌∷◌, ◌++◌, Option, codes, decimal, slice_index_or}
use Rattle.std.specs.Int.{w64, to_be_bytes}
use Rattle.hex.specs.Hex.{encode_lower}
use Rattle.clu_base.specs.Outside.{appended, GrewWithin, Rose}
use Rattle.clu_base.specs.Rules.{name_of, number_of}
use Rattle.clu_base.specs.declared.rules.Refused.{Refused}
use Rattle.clu_base.specs.declared.rules.Rule.{Rule}
use Rattle.clu_base.specs.declared.tokens.Place.{Place}
use Rattle.clu_build.specs.declared.errors.Difference.{Difference}
use Rattle.clu_build.specs.declared.errors.StaleBody.{StaleBody}
use Rattle.clu_trace.specs.Traces.{Watched}
use Rattle.clu_outcome.specs.declared.lines.Mark.{Mark}
use Rattle.clu_outcome.specs.declared.lines.Mark.TheVariants as mark
use Rattle.clu_outcome.specs.declared.outcome.Outcome.{Outcome}
use Rattle.clu_outcome.specs.declared.outcome.Outcome.TheVariants as outcome

abbrev pub status_of : Outcome → ℕ
status_of outcome.Done = 0
status_of (outcome.Failure d) = 1
status_of (outcome.Traced d t) = 1
status_of outcome.Usage = 2
status_of outcome.StoreFull = 3
status_of outcome.StackFull = 4
status_of outcome.StepsSpent = 5
status_of (outcome.BadInstruction d) = 6
status_of (outcome.BadAccess d) = 7
status_of (outcome.BadJump d) = 8
status_of (outcome.BadEcall d) = 9
status_of (outcome.NoFile d) = 10
status_of (outcome.Refused n r) = 11
status_of (outcome.LibraryBad d) = 12
status_of (outcome.SpecDiffers d) = 13
status_of (outcome.NoModule n) = 14
status_of (outcome.NoBody n) = 15
status_of (outcome.BadStart n) = 16
status_of outcome.TooManyInstances = 17
status_of outcome.ProgramTooLarge = 18
status_of (outcome.NoProgram n) = 19
status_of (outcome.ImageBad d) = 20
status_of outcome.LibraryFull = 21
status_of outcome.ReadFault = 22
status_of outcome.WriteFault = 23
status_of (outcome.FileFault d) = 24
status_of outcome.Memory = 25
status_of (outcome.SourceTooLarge n) = 26
status_of outcome.NotYet = 27
status_of (outcome.Stale d) = 28
status_of (outcome.SpecNeeded n) = 29
status_of (outcome.AsmBad d) = 30
status_of (outcome.Misfit n) = 31

-- what the line says first
unfoldable pub text_of : Outcome → List ℕ
text_of outcome.Done = []
text_of (outcome.Failure d) = codes "failure: "
text_of (outcome.Traced d t) = codes "failure: "
text_of outcome.Usage = codes "usage: clu go|spec|replace|compile|link|run|exec|gen|list|asm|print|xref"
text_of outcome.StoreFull = codes "store full"
text_of outcome.StackFull = codes "stack full"
text_of outcome.StepsSpent = codes "steps spent"
text_of (outcome.BadInstruction d) = codes "bad instruction at "
text_of (outcome.BadAccess d) = codes "bad access at "
text_of (outcome.BadJump d) = codes "bad jump to "
text_of (outcome.BadEcall d) = codes "bad ecall "
text_of (outcome.NoFile d) = codes "no file: "
text_of (outcome.Refused n r) = []
text_of (outcome.LibraryBad d) = codes "library bad at "
text_of (outcome.SpecDiffers d) = codes "spec differs: "
text_of (outcome.NoModule n) = codes "no module: "
text_of (outcome.NoBody n) = codes "no body: "
text_of (outcome.BadStart n) = codes "bad start: "
text_of outcome.TooManyInstances = codes "too many instances"
text_of outcome.ProgramTooLarge = codes "program too large"
text_of (outcome.NoProgram n) = codes "no program: "
text_of (outcome.ImageBad d) = codes "image bad at "
text_of outcome.LibraryFull = codes "library full"
text_of outcome.ReadFault = codes "read fault"
text_of outcome.WriteFault = codes "write fault"
text_of (outcome.FileFault d) = codes "file fault: "
text_of outcome.Memory = codes "out of memory"
text_of (outcome.SourceTooLarge n) = codes "source too large: "
text_of outcome.NotYet = codes "not yet"
text_of (outcome.Stale d) = codes "stale: "
text_of (outcome.SpecNeeded n) = codes "spec needed: "
text_of (outcome.AsmBad d) = codes "asm bad at "
text_of (outcome.Misfit n) = codes "object misfit: "

-- the sixteen hexadecimal digits of an address
abbrev pub hexadecimal_of : ℕ → List ℕ
hexadecimal_of n = encode_lower (to_be_bytes w64 n)

-- what stands before a part of a refusal's lines
unfoldable pub mark_text : Mark → List ℕ
mark_text mark.Place = codes ":"
mark_text mark.Rule = codes ": V"
mark_text mark.Name = codes " "
mark_text mark.Line = codes "\n"
mark_text mark.By = codes ": "
mark_text mark.Changed = codes " changed at "
mark_text mark.Checked = codes ", checked at "
mark_text mark.Live = codes "\nat "

-- the file, line and column of a place
abbrev pub place_text : List ℕ → Place → List ℕ
place_text name place = name ++ ((mark_text mark.Place ++ decimal place.line) ++ (mark_text mark.Place ++ decimal place.col))

-- a rule's number and name, as in V2 Syntax
abbrev pub rule_text : Rule → List ℕ
rule_text rule = (mark_text mark.Rule ++ decimal (number_of rule)) ++ (mark_text mark.Name ++ name_of rule)

abbrev pub refused_text : List ℕ → Refused → List ℕ
refused_text name r = place_text name r.place ++ rule_text r.rule

-- a module's name, and on lines of their own the kept specification and the other one
abbrev pub difference_text : Difference → List ℕ
difference_text d = d.name ++ ((mark_text mark.Line ++ d.kept) ++ (mark_text mark.Line ++ d.given))

-- the revisions by which a body is stale
unfoldable pub revisions_text : ℕ → ℕ → List ℕ
revisions_text changed checked = (mark_text mark.Changed ++ decimal changed) ++ (mark_text mark.Checked ++ decimal checked)

abbrev pub stale_text : StaleBody → List ℕ
stale_text s = s.name ++ ((mark_text mark.By ++ s.by) ++ revisions_text s.changed s.checked)

-- the entries of a trace, each on a line of its own
abbrev pub entry_text : List (List ℕ) → ℕ → List ℕ
entry_text names n = mark_text mark.Live ++ slice_index_or names n []

abbrev pub entries_text : List (List ℕ) → List ℕ → List ℕ
entries_text names [] = []
entries_text names (n ∷ ns) = entry_text names n ++ entries_text names ns

-- the text of a failure, and the trace of its run
abbrev pub traced_text : List ℕ → Watched → List ℕ
traced_text text trace = text ++ entries_text trace.map.names trace.entries

-- what the line tells after it: a text or a name, an address, a number
abbrev pub detail_of : Outcome → List ℕ
detail_of (outcome.Failure d) = d.now
detail_of (outcome.Traced d t) = traced_text d.now t.now
detail_of (outcome.BadInstruction d) = hexadecimal_of d
detail_of (outcome.BadAccess d) = hexadecimal_of d
detail_of (outcome.BadJump d) = hexadecimal_of d
detail_of (outcome.BadEcall d) = decimal d
detail_of (outcome.NoFile d) = d.now
detail_of (outcome.Refused n r) = refused_text n.now r
detail_of (outcome.LibraryBad d) = decimal d
detail_of (outcome.SpecDiffers d) = difference_text d.now
detail_of (outcome.NoModule n) = n.now
detail_of (outcome.NoBody n) = n.now
detail_of (outcome.BadStart n) = n.now
detail_of (outcome.NoProgram n) = n.now
detail_of (outcome.Stale d) = stale_text d.now
detail_of (outcome.SpecNeeded n) = n.now
detail_of (outcome.Misfit n) = n.now
detail_of (outcome.SourceTooLarge n) = n.now
detail_of (outcome.ImageBad d) = decimal d
detail_of (outcome.AsmBad d) = decimal d
detail_of (outcome.FileFault d) = d.now
detail_of _ = []

-- a line ends by byte 10; an outcome without a line has none
abbrev pub line_end_of : Outcome → List ℕ
line_end_of outcome.Done = []
line_end_of _ = 10 ∷ []

abbrev pub line_of : Outcome → List ℕ
line_of ending = text_of ending ++ (detail_of ending ++ line_end_of ending)

-- the status is the outcome's and its line was written, or writing failed: then the status is 23
-- and some first bytes of the line were written
abbrev pub IsTold : Outcome → ℕ → Option (List ℕ) → Option (List ℕ) → ℕ → ℕ → Type 0
IsTold ending status old new faults_before faults_after =
    ((status ≡ status_of ending) × (new ≡ appended old (line_of ending)))
    ⊎ ((status ≡ 23) × Rose faults_before faults_after × GrewWithin old new (line_of ending))
