use Rattle.std.proofs.Common.{◌≡◌, ap, sym, subst, ◌∙◌, length}
use Rattle.clu_object.proofs.ReadLaws.{are_bytes}
use Rattle.clu_specs.specs.Reading.{Fails}
use Rattle.clu_library.specs.Contents.{Contents}
use Rattle.clu_library.specs.LibraryReading.{library_into, library_read, library_seen}
use Rattle.clu_library.proofs.LibraryAgain.{same_library, not_refused}
use Rattle.clu_library.proofs.LibraryRead.{read_is_library, read_is_file, written_again}
use Rattle.clu_library.proofs.library.Library.read.Goals as goal

pub returns-in-Ok-clause-library : goal.returns-in-Ok-clause-library
returns-in-Ok-clause-library c =
    let start : library_read c.args.b.now ≡ library_into (library_seen c.empty-library.result) c.args.b.now = ap (λ (x : Contents). library_into (library_seen x) c.args.b.now) (sym c.empty-library.ensures) in
    read_is_library c.args.b.now (library_seen c.read_whole.new.library) (are_bytes c.args.b.now c.type_inv.b) (start ∙ c.in-Ok.ensures)

pub returns-in-Ok-clause-file : goal.returns-in-Ok-clause-file
returns-in-Ok-clause-file c =
    let start : library_read c.args.b.now ≡ library_into (library_seen c.empty-library.result) c.args.b.now = ap (λ (x : Contents). library_into (library_seen x) c.args.b.now) (sym c.empty-library.ensures) in
    read_is_file c.args.b.now c.read_whole.new.library (are_bytes c.args.b.now c.type_inv.b) (start ∙ c.in-Ok.ensures)

pub returns-in-Ok-clause-written : goal.returns-in-Ok-clause-written
returns-in-Ok-clause-written c =
    let start : library_read c.args.b.now ≡ library_into (library_seen c.empty-library.result) c.args.b.now = ap (λ (x : Contents). library_into (library_seen x) c.args.b.now) (sym c.empty-library.ensures) in
    λ present. written_again c.args.b.now c.read_whole.new.library (are_bytes c.args.b.now c.type_inv.b) (start ∙ c.in-Ok.ensures) present

pub returns-in-Ok-clause-every_library : goal.returns-in-Ok-clause-every_library
returns-in-Ok-clause-every_library c =
    let start : library_read c.args.b.now ≡ library_into (library_seen c.empty-library.result) c.args.b.now = ap (λ (x : Contents). library_into (library_seen x) c.args.b.now) (sym c.empty-library.ensures) in
    λ l is e. same_library c.args.b.now (library_seen c.read_whole.new.library) l (start ∙ c.in-Ok.ensures) is e

pub returns-in-Err-clause-every_library : goal.returns-in-Err-clause-every_library
returns-in-Err-clause-every_library c =
    let fails : Fails c.in-Err.error (library_read c.args.b.now) = subst (λ (x : Contents). Fails c.in-Err.error (library_into (library_seen x) c.args.b.now)) c.empty-library.ensures c.in-Err.ensures in
    λ l is e. rw c.at_offset.ensures (not_refused c.in-Err.error c.args.b.now l (length c.args.b.now) fails is e)
