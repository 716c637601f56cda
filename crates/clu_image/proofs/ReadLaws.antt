-- What a reader that finds contents or a fault says of files.

use Rattle.std.proofs.Common.{◌≡◌, List, ℕ, Result, Ok, Err, IfOk, IfErr, Fits, w8, get_or}
use Rattle.std.proofs.lemmas.List.{get_or_default}
use Rattle.std.specs.Result.{MatchResult}
use Rattle.clu_base.specs.declared.errors.FormatError.{FormatError}
use Rattle.clu_base.specs.declared.errors.FormatError.TheVariants.{Memory}
use Rattle.rv_isa.specs.Image.{Contents, AreBytes}
use Rattle.clu_image.specs.ImageFile.{IsFileOf}
use Rattle.clu_image.specs.Faults.{IsRefusal, fault_of}
use Rattle.clu_image.specs.Parts.{HasContents}
use Rattle.clu_image.proofs.FileOfContents.{file_of_contents}
use Rattle.clu_image.proofs.ContentsOfFile.{contents_of_file, same_contents}

pub file_read : (b : List ℕ) (r : Result Contents FormatError) → AreBytes b → IfOk r (HasContents b) → IfOk r (IsFileOf b)
file_read b (Ok i) h read = file_of_contents b i h read
file_read b (Err e) h read = tt

pub every_file_read : (b : List ℕ) (r : Result Contents FormatError) → IfOk r (HasContents b) → IfErr r (IsRefusal (fault_of b)) → (i : Contents) → IsFileOf b i
    → MatchResult r (λ j. j ≡ i) (λ e. e ≡ Memory)
every_file_read b (Ok j) read refused i file = same_contents b j i read (contents_of_file b i file)
every_file_read b (Err e) read refused i file =
    let good = contents_of_file b i file in
    rw good.good at refused

-- the items of a slice of bytes are bytes
pub are_bytes : (b : List ℕ) → ((i : ℕ) → Fits w8 (get_or b i 0)) → AreBytes b
are_bytes b h = λ k d l. rw (get_or_default b k d 0 l) (h k).fits
