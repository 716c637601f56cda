-- The image that returns stands for the program that does nothing, the program that writes does so, and of four images
-- none stands for one of the programs.
use Rattle.std.proofs.Common.{◌≡◌, ◌∙◌, ◌≤◌, ◌<◌, ◌+◌, ◌^◌, ℕ, zero, suc, Bool, true, false, List, [], ◌∷◌, Some, refl, sym, ap, subst, inl, arith}
use Rattle.std.specs.Prelude.{◌⊎◌, codes}
use Rattle.std.proofs.lemmas.Bool.{false≢true}
use Rattle.std.proofs.lemmas.List.Elements.{All-nil}
use Rattle.rv_isa.specs.Decoded.{named_by}
use Rattle.rv_isa.specs.Image.{AreBytes}
use Rattle.rv_machine.specs.declared.ending.Ending.TheVariants as ending
use Rattle.rv_machine.specs.Emulation.{emulated, start}
use Rattle.rv_machine.specs.Limits.{Sizes}
use Rattle.rv_machine.specs.Snapshot.{IsPrefix}
use Rattle.rv_machine.specs.Steps.{next, executed}
use Rattle.clu_layout.specs.Computing.{computing}
use Rattle.clu_meaning.specs.Executing.{executing}
use Rattle.clu_meaning.specs.Run.{Seen, run}
use Rattle.laws_program.specs.Layers.{metered, IsFlatAt, IsFullAt, Layers}
use Rattle.laws_program.specs.Observed.{Region, store, stack, Outcome, Observed, running, returned, is_running, is_bad, is_over, meant, taken, shown, size_of}
use Rattle.laws_program.specs.Refused.{writes_a_byte, full_at_once, WritesWithin}
use Rattle.laws_program.specs.Samples.{nothing, returning, writing, failing}
use Rattle.laws_program.specs.Stands.{bytes_of, observed, Stands}
use Rattle.laws_program.proofs.Composed.{agrees}
use Rattle.laws_program.proofs.Machines.{observed_runs}
use Rattle.laws_program.proofs.Prefixes.{none_before}
use Rattle.laws_program.proofs.Refused.{silent_then}
use Rattle.laws_program.proofs.Sizes.{small, small_limits}

abbrev name : List ℕ
name = codes "start_up"

abbrev on_its_way : Observed
on_its_way = record { output = []; outcome = running }

abbrev over : Observed
over = record { output = []; outcome = returned }

-- ---- the program

meant_first : (input : List ℕ) → meant (run nothing name input 0) ≡ on_its_way
unfolding executing computing
meant_first input = refl

meant_then : (input : List ℕ) (n : ℕ) → meant (run nothing name input (suc n)) ≡ over
unfolding executing computing
meant_then input n = refl

store_first : (input : List ℕ) → taken (run nothing name input 0) store ≡ 0
unfolding executing computing
store_first input = refl

store_then : (input : List ℕ) (n : ℕ) → taken (run nothing name input (suc n)) store ≡ 0
unfolding executing computing
store_then input n = refl

-- ---- the image

shown_then : (sizes : Sizes) (input : List ℕ) → shown (emulated 1 (start returning sizes input)) ≡ over
unfolding named_by next executed
shown_then sizes input = refl

ended_then : (sizes : Sizes) (input : List ℕ) → (emulated 1 (start returning sizes input)).ended ≡ Some ending.Returned
unfolding named_by next executed
ended_then sizes input = refl

module _ (sizes : Sizes) (input : List ℕ) where
  abbrev program : ℕ → Seen
  program = run nothing name input

  abbrev image : ℕ → Observed
  image = observed returning sizes input

  flattened : (turns : ℕ) → is_bad (meant (program turns)).outcome ≡ false →
      (steps : ℕ) × (IsFlatAt sizes (metered (program turns)) (image steps) turns steps ⊎ IsFullAt sizes (metered (program turns)) (image steps))
  flattened zero fine = (
    0,
    inl (record {
      same = sym (meant_first input);
      fits = subst (λ n. bytes_of n ≤ sizes.store) (sym (store_first input)) (omega arith);
      in_time = λ e. omega arith;
    }),
  )
  flattened (suc n) fine = (
    1,
    inl (record {
      same = shown_then sizes input ∙ sym (meant_then input n);
      fits = subst (λ n. bytes_of n ≤ sizes.store) (sym (store_then input n)) (omega arith);
      in_time = λ e. absurd (false≢true (ap (λ (o : Observed). is_running o.outcome) (sym (meant_then input n)) ∙ e));
    }),
  )

  sound : (n : ℕ) → is_bad (meant (program n)).outcome ≡ false
  sound zero = ap (λ (o : Observed). is_bad o.outcome) (meant_first input)
  sound (suc n) = ap (λ (o : Observed). is_bad o.outcome) (meant_then input n)

  stays : (k : ℕ) → k + 0 ≡ k
  stays k = omega arith

  layers : Layers sizes program image
  layers = record {
    code = λ n. metered (program n);
    flat = image;
    flat_runs = observed_runs returning sizes input;
    lowered = λ n fine. (n, inl (record { same = refl; words = λ region. omega arith; in_time = λ e. omega arith }));
    flattened = flattened;
    selected = record { does = λ steps fine. (steps, refl); meets = λ fine k. (0, k, ap image (stays k)) };
    sound = sound;
  }

pub stands : Stands returning nothing name
stands = record { agrees = λ sizes limits input bytes. agrees sizes (run nothing name input) (observed returning sizes input) (observed_runs returning sizes input) (layers sizes input) }

-- ---- the program that writes

in_both : (region : Region) → bytes_of (taken (run writing name [] 10) region) ≤ size_of small region
unfolding executing computing
in_both store = omega arith
in_both stack = omega arith

writes_a : (run writing name [] 10).output ≡ 97 ∷ []
unfolding executing computing
writes_a = refl

pub writes : (region : Region) → WritesWithin region writing name
writes region = record {
  writes = record {
    sizes = small;
    limits = small_limits;
    input = [];
    bytes = All-nil (λ n. n < 2 ^ 8);
    turns = 10;
    byte = 97;
    rest = [];
    output = writes_a;
  };
  within = in_both region;
}

-- ---- what stands for no such program

module _ where
  none : AreBytes []
  none = All-nil (λ n. n < 2 ^ 8)

  -- one byte is written that the program never writes
  written : (emulated 4 (start writes_a_byte small [])).output ≡ 147 ∷ []
  unfolding named_by next executed
  written = refl

  silent : (n : ℕ) → (run nothing name [] n).output ≡ []
  unfolding executing computing
  silent zero = refl
  silent (suc n) = refl

  pub too_much : Stands writes_a_byte nothing name → ⊥
  too_much stands =
      let p = (stands.agrees small small_limits [] none).prefix 4 in
      none_before 147 [] (subst (λ xs. IsPrefix xs []) written (subst (λ xs. IsPrefix (emulated 4 (start writes_a_byte small [])).output xs) (silent p.0) p.1))

  -- the image returns where the program fails
  never_returns : (n : ℕ) → meant (run failing name [] n) ≡ over → ⊥
  unfolding executing computing
  never_returns zero e = false≢true (sym (ap (λ (o : Observed). is_running o.outcome) e))
  never_returns (suc n) e = false≢true (ap (λ (o : Observed). has_returned o.outcome) e)
    where
      has_returned : Outcome → Bool
      has_returned returned = true
      has_returned other = false

  pub too_soon : Stands returning failing name → ⊥
  too_soon stands =
      let agrees_here = stands.agrees small small_limits [] none in
      let end = agrees_here.meant_ending 1 (ap (λ (o : Observed). is_over o.outcome) (shown_then small [])) in
      never_returns end.0 (end.1 ∙ shown_then small [])

  -- a region is full which the program never fills
  meters : (region : Region) (n : ℕ) → bytes_of (taken (run nothing name [] n) region) ≤ size_of small region
  unfolding executing computing
  meters store zero = omega arith
  meters store (suc n) = omega arith
  meters stack zero = omega arith
  meters stack (suc n) = omega arith

  pub full_for_nothing : (region : Region) → Stands (full_at_once region) nothing name → ⊥
  full_for_nothing region stands =
      let agrees_here = stands.agrees small small_limits [] none in
      let duly = agrees_here.full_duly region 2 (ap (λ (o : Observed). o.outcome) (silent_then region small [])) in
      omega (arith, duly.passes, meters region duly.turns)
