-- What changes of layouts leave: a word that is put, and words that become somebody's.
use Rattle.std.proofs.Common.{◌≡◌, ℕ, ◌+◌, ◌*◌, Bool, true, false, List, [], ◌∷◌, Option, None, Some, refl, sym, ap, ◌∙◌, subst, arith, ◌≤◌, ◌≢◌, if◌then◌else◌, ◌==◌}
use Rattle.clu_types.specs.CluType.{CluType, Fields, no_fields, field_and}
use Rattle.clu_layout.specs.Objects.{Object, Cell, array_cell, record_cell, variant_cell}
use Rattle.clu_representation.specs.Layout.{Extends, Image, Layout, Owner, SameCell, fixed, nobody, of_cell, put, with_owner, with_word}
use Rattle.clu_representation.specs.Shown.{At, type_of_field}
use Rattle.clu_representation.specs.Held.{Cellular, CellularIf, Components, Holds, Own}
use Rattle.clu_representation.proofs.StaysShown.{at_on}

-- ---- a word is put

pub put_here : (word : ℕ → ℕ) (at v : ℕ) → put word at v at ≡ v
unfolding put
put_here word at v = by (at == at) refl
  where
    by : (t : Bool) → (at == at) ≡ t → (if t then v else word at) ≡ v
    by true e = refl
    by false e = absurd (grind arith)

pub put_there : (word : ℕ → ℕ) (at v n : ℕ) → n ≢ at → put word at v n ≡ word n
unfolding put
put_there word at v n k = by (n == at) refl
  where
    by : (t : Bool) → (n == at) ≡ t → (if t then v else word n) ≡ word n
    by true e = absurd (k (grind arith))
    by false e = refl

-- a word of a cell, or of nobody
pub extends_store : (map : Layout) (at v : ℕ) → map.owner at ≢ fixed → Extends map (with_word map at v)
extends_store map at v k = record {
  fixed_stay = λ n u f. record { whose = f.whose; is = put_there map.word at v n (λ e. k (ap map.owner (sym e) ∙ f.whose)) ∙ f.is };
  cells_stay = λ t c w r. record { at = r.at; whose = r.whose; type_is = r.type_is };
}

-- the words of another cell stay
pub cellular_on : (image : Image) (a b : Layout) → Extends a b → (c : ℕ) (t : CluType) (o : Object) (at : ℕ) → b.owner at ≡ a.owner at → b.word at ≡ a.word at → Cellular image a c t o at → Cellular image b c t o at
cellular_on image a b e c t o at whose is h = record { whose = whose ∙ h.whose; shown = subst (λ w. At image b t o w) (sym is) (at_on image a b e t o (a.word at) h.shown) }

own_on : (c : ℕ) (a b : Layout) → SameCell c a b → (n m v : ℕ) → m ≡ n → Own a c n v → Own b c m v
own_on c a b s n m v e h = let w = s.words n h.whose in record { whose = ap b.owner e ∙ w.0; is = ap b.word e ∙ w.1 ∙ h.is }

cell_word_on : (image : Image) (a b : Layout) → Extends a b → (c : ℕ) → SameCell c a b → (t : CluType) (o : Object) (n m : ℕ) → m ≡ n → Cellular image a c t o n → Cellular image b c t o m
cell_word_on image a b e c s t o n m same h =
    let w = s.words n h.whose in
    record { whose = ap b.owner same ∙ w.0; shown = subst (λ x. At image b t o x) (sym (ap b.word same ∙ w.1)) (at_on image a b e t o (a.word n) h.shown) }

components_on : (image : Image) (a b : Layout) → Extends a b → (c : ℕ) → SameCell c a b → (fs : Fields) (os : List Object) (n m : ℕ) → m ≡ n → Components image a c fs os n → Components image b c fs os m
components_on image a b e c s no_fields [] n m same h = tt
components_on image a b e c s (field_and name t fs) (o ∷ os) n m same (h, more) =
    (cell_word_on image a b e c s t o n m same h, components_on image a b e c s fs os (n + 8) (m + 8) (ap (λ x. x + 8) same) more)
components_on image a b e c s no_fields (o ∷ os) n m same h = h
components_on image a b e c s (field_and name t fs) [] n m same h = h

cellular_if_on : (image : Image) (a b : Layout) → Extends a b → (c : ℕ) → SameCell c a b → (t : Option CluType) (o : Object) (n m : ℕ) → m ≡ n → CellularIf image a c t o n → CellularIf image b c t o m
cellular_if_on image a b e c s None o n m same h = h
cellular_if_on image a b e c s (Some t) o n m same h = cell_word_on image a b e c s t o n m same h

-- a mutable object whose words stay is held as before
pub holds_on : (image : Image) (a b : Layout) → Extends a b → (c : ℕ) → SameCell c a b → (cell : Cell) → Holds image a c cell → Holds image b c cell
holds_on image a b e c s (array_cell x) h = record {
  type_is = s.kind ∙ h.type_is;
  low = h.low;
  low_is = h.low_is;
  holds_low = own_on c a b s _ _ h.low s.at h.holds_low;
  size = own_on c a b s _ _ _ (ap (λ n. n + 8) s.at) h.size;
  room = own_on c a b s _ _ _ (ap (λ n. n + 16) s.at) h.room;
  first = h.first;
  holds_first = own_on c a b s _ _ _ (ap (λ n. n + 24) s.at) h.holds_first;
  first_inside = h.first_inside;
  block = h.block;
  holds_block = own_on c a b s _ _ _ (ap (λ n. n + 32) s.at) h.holds_block;
  enough = h.enough;
  bounds = h.bounds;
  behind = λ l. subst (λ n. n + 48 ≤ h.block) (sym s.at) (h.behind l);
  items = λ i o there. cell_word_on image a b e c s x.element o _ _ refl (h.items i o there);
  whole_room = λ i l. (s.words (h.block + 8 * i) (h.whole_room i l)).0;
}
holds_on image a b e c s (record_cell fs os) (k, mine, h) = (s.kind ∙ k, ap b.owner s.at ∙ (s.words (a.address c) mine).0, components_on image a b e c s fs os _ _ (ap (λ n. n + 8) s.at) h)
holds_on image a b e c s (variant_cell fs tag o) (k, own, h) = (s.kind ∙ k, own_on c a b s _ _ _ s.at own, cellular_if_on image a b e c s (type_of_field fs tag) o _ _ (ap (λ n. n + 8) s.at) h)

-- a store to a word of one cell leaves each other cell
pub store_other : (map : Layout) (c d at v : ℕ) → map.owner at ≡ of_cell c → c ≢ d → SameCell d map (with_word map at v)
store_other map c d at v mine other = record {
  at = refl;
  kind = refl;
  words = λ n whose. (whose, put_there map.word at v n (λ e. other (cc_cells c d (sym mine ∙ ap map.owner (sym e) ∙ whose))));
}
  where
    cc_cells : (c d : ℕ) → of_cell c ≡ of_cell d → c ≡ d
    cc_cells c d e = ap (λ (o : Owner). number_of o) e
      where
        number_of : Owner → ℕ
        number_of (of_cell n) = n
        number_of _ = 0

-- ---- new words of nobody become somebody's

pub owner_before : (t : Bool) (mine : Owner) (now before : Owner) → now ≡ before → before ≢ nobody → (t ≡ true → before ≡ nobody) → (if t then mine else now) ≡ before
owner_before true mine now before e k f = absurd (k (f refl))
owner_before false mine now before e k f = e

-- words of nobody are handed out
pub extends_owner : (map : Layout) (mine : ℕ → Bool) (owner : ℕ → Owner) → ((n : ℕ) → mine n ≡ true → map.owner n ≡ nobody) → Extends map (with_owner map mine owner)
extends_owner map mine owner free = record {
  fixed_stay = λ n u f. record { whose = owner_before (mine n) (owner n) (map.owner n) fixed f.whose (λ e. cc e) (λ m. sym f.whose ∙ free n m); is = f.is };
  cells_stay = λ t c w r. record { at = r.at; type_is = r.type_is; whose = owner_before (mine w) (owner w) (map.owner w) (of_cell c) r.whose (λ e. cc e) (λ m. sym r.whose ∙ free w m) };
}

-- ---- one change after the other

pub extends_trans : (a b c : Layout) → Extends a b → Extends b c → Extends a c
extends_trans a b c f g = record { fixed_stay = λ at v h. g.fixed_stay at v (f.fixed_stay at v h); cells_stay = λ t n w h. g.cells_stay t n w (f.cells_stay t n w h) }

pub same_trans : (n : ℕ) (a b c : Layout) → SameCell n a b → SameCell n b c → SameCell n a c
same_trans n a b c f g = record {
  at = g.at ∙ f.at;
  kind = g.kind ∙ f.kind;
  words = λ m whose. let first = f.words m whose in let second = g.words m first.0 in (second.0, second.1 ∙ first.1);
}
