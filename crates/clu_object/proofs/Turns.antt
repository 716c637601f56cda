-- The turns of loops whose items depend on those before them.
use Rattle.std.proofs.Common.{◌≡◌, ℕ, ◌+◌, ◌-◌, ◌<◌, List, [], ◌∷◌, ◌++◌, length, Ok, Err, sym, ap, ◌∙◌}
use Rattle.std.proofs.lemmas.List.{map-append, length_push}
use Rattle.clu_base.specs.declared.errors.FormatError.{FormatError}
use Rattle.clu_base.specs.declared.errors.FormatError.TheVariants as error
use Rattle.clu_handlers.specs.declared.region.Region.{Region as Range}
use Rattle.clu_specs.specs.Reading.{Read, Fails}
use Rattle.clu_specs.proofs.Outcomes.{and_then}
use Rattle.clu_format.specs.Lists.{counted}
use Rattle.clu_format.proofs.Counting.{turn_on, turn_fails}
use Rattle.clu_object.specs.declared.object.Region.{Region}
use Rattle.clu_object.specs.Nesting.{span, spans, range_spans}
use Rattle.clu_object.specs.ObjectReading.{added}
use Rattle.clu_object.proofs.FieldLaws.{value_is, behind_is}
use Rattle.clu_object.proofs.NestingLaws.{spans_size}

module _ {X : Type 0} (item : List ℕ → Read X) where
  pub added_on : (count i : ℕ) (made more : List X) (bytes after : List ℕ) (total : Read (List X)) → i < count → added made (item bytes) ≡ Ok (more, after)
      → counted (λ made. item) (count - i) made bytes ≡ total → counted (λ made. item) (count - (i + 1)) more after ≡ total
  added_on count i made more bytes after total lt read so_far =
      let r = and_then (item bytes) (λ (x : X × List ℕ). Ok (made ++ x.0 ∷ [], x.1)) (more, after) read in
      let more_is : made ++ r.0.0 ∷ [] ≡ more = value_is _ _ (r.2) in
      let after_is : r.0.1 ≡ after = behind_is _ _ (r.2) in
      let turned = turn_on (λ made. item) count i made r.0.0 bytes r.0.1 total lt r.1 so_far in
      rw (more_is, after_is) at turned

  not_added : (e : FormatError) (made : List X) (read : Read X) → Fails e (added made read) → Fails e read
  not_added error.Memory made read h = tt
  not_added (error.Bad left) made (Ok x) h = absurd (cc)
  not_added (error.Bad left) made (Err at) h = cc

  pub added_fails : (e : FormatError) (count i : ℕ) (made : List X) (bytes : List ℕ) (total : Read (List X)) → i < count → Fails e (added made (item bytes))
      → counted (λ made. item) (count - i) made bytes ≡ total → Fails e total
  added_fails e count i made bytes total lt read so_far = turn_fails (λ made. item) e count i made bytes total lt (not_added e made (item bytes) read) so_far

-- a region more
pub spans_on : (old new : List Range) (made : List Region) (r : Region) → range_spans new ≡ range_spans old ++ span r ∷ [] → range_spans old ≡ spans made → range_spans new ≡ spans (made ++ r ∷ [])
spans_on old new made r more placed = more ∙ ap (λ (s : List (ℕ × ℕ)). s ++ span r ∷ []) placed ∙ sym (map-append span made (r ∷ []))

pub size_on : (old new : List Range) (s : ℕ × ℕ) → range_spans new ≡ range_spans old ++ s ∷ [] → length new ≡ length old + 1
size_on old new s more = sym (spans_size new) ∙ ap length more ∙ length_push (range_spans old) s ∙ ap (λ (n : ℕ). n + 1) (spans_size old)
