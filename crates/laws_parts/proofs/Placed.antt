-- The part of an image that the linker places is the one that the search runs in.
use Rattle.std.proofs.Common.{◌≡◌, ◌∙◌, ◌≢◌, ℕ, suc, ◌==◌, Bool, true, false, slice_get, Some, refl, ap, sym, subst, arith, true≢false}
use Rattle.std.specs.Prelude.{◌||◌, if◌then◌else◌}
use Rattle.std.proofs.lemmas.Bool.Decides.{nat_tests}
use Rattle.clu_wir.specs.Numbers.{kind_number}
use Rattle.clu_wir.specs.declared.hole.HoleKind.TheVariants as kind
use Rattle.clu_flat_meaning.specs.Image.{Image}
use Rattle.rv_isa.specs.declared.instr.Instr.{Instr}
use Rattle.rv_isa.specs.declared.instr.Instr.TheVariants as instr
use Rattle.rv_isa.specs.declared.op.Op.TheVariants as op
use Rattle.rv_machine.specs.State.{State}
use Rattle.rv_machine.specs.Values.{sum, unsigned}
use Rattle.rv_select.specs.declared.parts.Part.TheVariants as part
use Rattle.rv_select.specs.Finished.{finished}
use Rattle.rv_select.specs.Searching.{search_onto}
use Rattle.rv_select.specs.Written.{emitted, fresh, holed, noted, placed}
use Rattle.laws_selection.specs.Growing.{Holed, IsUnholed, address}
use Rattle.laws_selection.specs.Running.{At}
use Rattle.laws_selection.specs.Standing.{Standing, part_words}
use Rattle.laws_selection.proofs.Evaluating.{next_address}
use Rattle.laws_parts.specs.Part.{Stood}
use Rattle.laws_parts.specs.Search.{is_hole, search_code}
use Rattle.laws_parts.proofs.Search.{search_words}

-- its two holes
record Holes (u : Unit {0}) : Type 0 where
  first : slice_get (part_words part.Search).holes 0 ≡ Some (record { at = 42; kind = kind_number kind.Regions; number = 0 })
  second : slice_get (part_words part.Search).holes 1 ≡ Some (record { at = 58; kind = kind_number kind.Regions; number = 0 })

holes : Holes tt
unfolding search_onto emitted holed placed fresh noted
holes = record { first = refl; second = refl }

unholed : (k : ℕ) → k ≢ 42 → k ≢ 43 → k ≢ 58 → k ≢ 59 → IsUnholed k (part_words part.Search).holes
unfolding search_onto emitted holed placed fresh noted
unholed k a b c d = (a, b, (c, d, tt))

-- a number that no hole has
apart : (k n : ℕ) → (k == n) ≡ false → k ≢ n
apart k n e same = grind (arith, nat_tests, e, same)

equal_of : (k n : ℕ) → (k == n) ≡ true → k ≡ n
equal_of k n e = grind (arith, nat_tests, e)

-- of two words that are both of a hole the first is one of two
either : (k : ℕ) (q r t : Bool) → (k == 43) ≡ q → (k == 58) ≡ r → (k == 59) ≡ t → (k == 42) ≡ false → is_hole k ≡ true → is_hole (suc k) ≡ true → k ≡ 58
either k true r t g h i z e f = absurd (true≢false (sym (subst (λ n. is_hole (suc n) ≡ true) (equal_of k 43 g) f)))
either k false true t g h i z e f = equal_of k 58 h
either k false false true g h i z e f = absurd (true≢false (sym (subst (λ n. is_hole (suc n) ≡ true) (equal_of k 59 i) f)))
either k false false false g h i z e f = let none : is_hole k ≡ false = rw (z, g, h, i) refl in absurd (true≢false (sym e ∙ none))

not_a_hole : (k : ℕ) → is_hole k ≡ false → IsUnholed k (part_words part.Search).holes
not_a_hole k e = by (k == 42) (k == 43) (k == 58) (k == 59) refl refl refl refl e
  where
    by : (p q r t : Bool) → (k == 42) ≡ p → (k == 43) ≡ q → (k == 58) ≡ r → (k == 59) ≡ t → (p || (q || (r || t))) ≡ false → IsUnholed k (part_words part.Search).holes
    by false false false false f g h i e = unholed k (apart k 42 f) (apart k 43 g) (apart k 58 h) (apart k 59 i)
    by true q r t f g h i e = absurd (true≢false e)
    by false true r t f g h i e = absurd (true≢false e)
    by false false true t f g h i e = absurd (true≢false e)
    by false false false true f g h i e = absurd (true≢false e)

-- the words of a hole in the end
lui_there : (k : ℕ) (i : Instr) → slice_get search_code k ≡ Some i → slice_get (finished (part_words part.Search)) k ≡ Some i
lui_there k i e = ap (λ c. slice_get c k) search_words ∙ e

module _ (image : Image) (m : State) (standing : Standing image m) where
  abbrev base : ℕ
  base = standing.part part.Search

  first_hole : Holed m.code (address base 42) 5 standing.runtime
  first_hole =
      let p = standing.parts part.Search in
      subst (Holed m.code (address base 42) 5) p.table (p.stands.filled kind.Regions 0 5 42 0 holes.first (lui_there 42 _ refl) (lui_there 43 _ refl))

  second_hole : Holed m.code (address base 58) 5 standing.runtime
  second_hole =
      let p = standing.parts part.Search in
      subst (Holed m.code (address base 58) 5) p.table (p.stands.filled kind.Regions 0 5 58 1 holes.second (lui_there 58 _ refl) (lui_there 59 _ refl))

  abbrev by_place : {A : Type 0} → ℕ → A → A → A
  by_place k x y = if k == 42 then x else y

  pub search_stands : Stood m.code (standing.part part.Search) standing.runtime
  search_stands = record {
    aligned = (standing.parts part.Search).stands.aligned;
    plain = λ k i e f. (standing.parts part.Search).stands.plain k i (lui_there k i e) (not_a_hole k f);
    high = λ k. by_place k first_hole.high second_hole.high;
    low = λ k. by_place k first_hole.low second_hole.low;
    upper = λ k e f. upper k e f;
    adds = λ k e f. adds k e f;
    whole = λ k. whole (k == 42);
  }
    where
      whole : (b : Bool) → sum (unsigned (if b then first_hole.high else second_hole.high)) (unsigned (if b then first_hole.low else second_hole.low)) ≡ standing.runtime
      whole true = first_hole.whole
      whole false = second_hole.whole

      upper : (k : ℕ) → is_hole k ≡ true → is_hole (suc k) ≡ true → At m.code (address base k) (instr.Upper op.Lui 5 (by_place k first_hole.high second_hole.high))
      upper k e f = by (k == 42) refl
        where
          by : (b : Bool) → (k == 42) ≡ b → At m.code (address base k) (instr.Upper op.Lui 5 (if b then first_hole.high else second_hole.high))
          by true g = subst (λ n. At m.code (address base n) (instr.Upper op.Lui 5 first_hole.high)) (sym (equal_of k 42 g)) first_hole.upper
          by false g = subst (λ n. At m.code (address base n) (instr.Upper op.Lui 5 second_hole.high)) (sym (either k (k == 43) (k == 58) (k == 59) refl refl refl g e f)) second_hole.upper

      adds : (k : ℕ) → is_hole k ≡ true → is_hole (suc k) ≡ true → At m.code (address base (suc k)) (instr.Imm op.Addi 5 5 (by_place k first_hole.low second_hole.low))
      adds k e f = by (k == 42) refl
        where
          by : (b : Bool) → (k == 42) ≡ b → At m.code (address base (suc k)) (instr.Imm op.Addi 5 5 (if b then first_hole.low else second_hole.low))
          by true g = subst (λ n. At m.code n (instr.Imm op.Addi 5 5 first_hole.low)) (next_address base 42 ∙ ap (λ n. address base (suc n)) (sym (equal_of k 42 g))) first_hole.adds
          by false g = subst (λ n. At m.code n (instr.Imm op.Addi 5 5 second_hole.low)) (next_address base 58 ∙ ap (λ n. address base (suc n)) (sym (either k (k == 43) (k == 58) (k == 59) refl refl refl g e f))) second_hole.adds
