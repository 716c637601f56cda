-- What a reader of whole objects says of them.
use Rattle.std.proofs.Common.{◌≡◌, ℕ, true, List, get_or, Result, Ok, Fits, w8, refl, ap, ◌∙◌}
use Rattle.clu_base.specs.declared.errors.FormatError.{FormatError}
use Rattle.clu_base.specs.declared.errors.FormatError.TheVariants as error
use Rattle.clu_specs.specs.Reading.{Fails, offset_of, offset_error}
use Rattle.clu_specs.proofs.Outcomes.{ok_same}
use Rattle.clu_object.specs.declared.object.Object.{Object}
use Rattle.clu_object.specs.ObjectFile.{object_bytes}
use Rattle.clu_object.specs.ObjectReading.{object_read}
use Rattle.clu_object.specs.Objects.{is_object}
use Rattle.clu_object.proofs.FieldLaws.{AreBytes}
use Rattle.clu_object.proofs.Objects.{object_again}

-- the items of a slice of bytes are bytes
pub are_bytes : (b : List ℕ) → ((i : ℕ) → Fits w8 (get_or b i 0)) → AreBytes b
are_bytes b h = λ k. (h k).fits

pub offset_fails : {Y : Type 0} (e : FormatError) (read : Result Y ℕ) (n : ℕ) → Fails e read → Fails (offset_error n e) (offset_of n read)
offset_fails error.Memory read n h = tt
offset_fails (error.Bad left) read n h = rw h refl

pub same_object : (b : List ℕ) (p o : Object) → object_read b ≡ Ok p → is_object o ≡ true → b ≡ object_bytes o → p ≡ o
same_object b p o read is e = ok_same (object_read b) p o read (ap object_read e ∙ object_again o is)

pub not_refused : (e : FormatError) (b : List ℕ) (o : Object) (n : ℕ) → Fails e (object_read b) → is_object o ≡ true → b ≡ object_bytes o → offset_error n e ≡ error.Memory
not_refused error.Memory b o n fails is same = refl
not_refused (error.Bad left) b o n fails is same = let read : object_read b ≡ Ok o = ap object_read same ∙ object_again o is in absurd (cc)
