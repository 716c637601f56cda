-- A table that the linker makes is laid out as the search needs it.
use Rattle.std.proofs.Common.{◌≡◌, ◌∙◌, ◌⊎◌, inl, inr, ℕ, zero, suc, ◌+◌, ◌*◌, ◌^◌, ◌<◌, ◌≤◌, ◌==◌, List, [], ◌∷◌, length, slice_get, Some, refl, ap, arith}
use Rattle.std.specs.Prelude.{if◌then◌else◌}
use Rattle.std.specs.Int.{w64}
use Rattle.clu_handlers.specs.declared.region.Cut.{Cut}
use Rattle.clu_handlers.specs.Cuts.{StartAt, no_region}
use Rattle.clu_object.specs.declared.object.Region.{Region}
use Rattle.rv_machine.specs.State.{State, read_at}
use Rattle.rv_select.specs.Tables.{AreCutsOf, code_address, row_address, rows_at}
use Rattle.laws_parts.proofs.Laying.{flat_regions, row_is}
use Rattle.laws_parts.proofs.Naming.{Alike, cut_names}
use Rattle.laws_parts.proofs.Whole.{Read, item, item_is}
use Rattle.laws_parts.specs.Tables.{Laid, Nest, last_below, row_of}

alike : (rs : List Region) (names : List ℕ) → Alike rs (flat_regions rs names)
alike [] names = tt
alike (r ∷ rs) names = (refl, refl, alike rs (Rattle.std.specs.Prelude.drop (length r.arms) names))

started : (cuts : List Cut) → StartAt 0 cuts → (1 ≤ length cuts) × ((item cuts 0).from ≡ 0)
started [] h = absurd h
started (c ∷ cs) h = (omega arith, h)

code_is : (code word : ℕ) → word < 2 ^ 32 → code + 2 ^ 35 < 2 ^ 64 → code_address code word ≡ code + 4 * word
code_is code word s l = grind arith

get_same : (cuts : List Cut) (i : ℕ) (d : Cut) → slice_get cuts i ≡ Some d → (i < length cuts) × (item cuts i ≡ d)
get_same [] i d e = absurd (cc)
get_same (c ∷ cs) zero d e = (omega arith, cc)
get_same (c ∷ cs) (suc i) d e = let x = get_same cs i d e in let l = x.0 in (omega arith, x.1)

-- the row of a region's number wraps as little
row_same : (rows n most : ℕ) → rows + 24 * most < 2 ^ 64 → (n < most) ⊎ (n ≡ no_region) → (if n == no_region then 0 else row_address rows n) ≡ (if n == no_region then 0 else (rows + 24 * n))
row_same rows n most l (inl h) = ap (λ k. if n == no_region then 0 else k) (row_is rows n (omega arith))
row_same rows n most l (inr h) = rw h refl

pub laid : (m : State) (link code at : ℕ) (cuts : List Cut) (regions : List Region) (names : List ℕ) → (t : Read m code at cuts regions names) → AreCutsOf regions cuts → Nest (flat_regions regions names) → read_at w64 m link ≡ Some at →
    length cuts ≤ 2 ^ 13 → code + 2 ^ 35 < 2 ^ 64 → length (flat_regions regions names) ≤ no_region → ((i : ℕ) → i < length cuts → ((item cuts i).from < 2 ^ 32) × (((item cuts i).region < length (flat_regions regions names)) ⊎ ((item cuts i).region ≡ no_region))) →
    Laid m (code_address code) link code (flat_regions regions names)
laid m link code at cuts regions names t are nest linked few near many small =
    record {
      tab = at;
      count = length cuts;
      from = λ i. code_address code (item cuts i).from;
      row = λ i. let n = (item cuts i).region in if n == no_region then 0 else row_address rows n;
      linked = linked;
      counted = t.counted;
      some = (started cuts are.start).0;
      few = few;
      first = ap (code_address code) (started cuts are.start).1 ∙ code_is code 0 (omega arith) near ∙ omega arith;
      cuts = t.cuts_read;
      rows = rows;
      laid = t.rows_read nest.parent;
      nest = nest;
      names = λ cut step name s l low next. named cut step name s l low next;
    }
  where
    rows : ℕ
    rows = rows_at at (length cuts)

    named : (cut step name : ℕ) → step < 2 ^ 32 → cut < length cuts → code_address code (item cuts cut).from ≤ code + 4 * step → (suc cut ≡ length cuts) ⊎ (code + 4 * step < code_address code (item cuts (suc cut)).from) →
        (if (item cuts cut).region == no_region then 0 else row_address rows (item cuts cut).region) ≡ row_of rows (last_below (flat_regions regions names) nest step name (length (flat_regions regions names)))
    named cut step name s l low next =
        let is = code_is code (item cuts cut).from (small cut l).0 near in
        row_same rows (item cuts cut).region (length (flat_regions regions names)) (t.rows_read nest.parent).room (small cut l).1
        ∙ cut_names (flat_regions regions names) nest step name regions cuts rows cut (item cuts cut) (alike regions names) are s many (item_is cuts cut l) (omega (arith, is)) (by next)
      where
        above : (d : Cut) → code + 4 * step < code_address code (item cuts (suc cut)).from → slice_get cuts (suc cut) ≡ Some d → step < d.from
        above d n e =
            let x = get_same cuts (suc cut) d e in
            let is = code_is code (item cuts (suc cut)).from (small (suc cut) x.0).0 near in
            omega (arith, is, ap (λ (c : Cut). c.from) x.1)

        by : (suc cut ≡ length cuts) ⊎ (code + 4 * step < code_address code (item cuts (suc cut)).from) → (suc cut ≡ length cuts) ⊎ ((d : Cut) → slice_get cuts (suc cut) ≡ Some d → step < d.from)
        by (inl e) = inl e
        by (inr n) = inr (λ d e. above d n e)
