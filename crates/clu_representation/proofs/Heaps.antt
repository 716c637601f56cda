-- The mutable objects of a world in the words of their cells.
use Rattle.std.proofs.Common.{◌≡◌, ℕ, List, [], ◌∷◌, ◌++◌, length, Some, slice_get, slice_set, sym, subst, ◌∙◌, ◌≢◌, ⊎_elim}
use Rattle.std.proofs.lemmas.Bool.{cases_eq}
use Rattle.clu_layout.specs.Objects.{Cell}
use Rattle.clu_representation.specs.Layout.{Extends, Image, Layout, SameCell, of_cell, with_word}
use Rattle.clu_representation.specs.Held.{Heap, Holds}
use Rattle.clu_representation.proofs.Changes.{extends_store, holds_on, store_other}
use Rattle.clu_representation.proofs.Lists.{get_added, get_added_last, get_set_here, get_set_other}
use Rattle.clu_representation.proofs.OwnPuts.{of_a_cell}

-- one cell holds another mutable object, and the words of all others stay
pub heap_changed : (image : Image) (a b : Layout) (cells : List Cell) (c : ℕ) (cell : Cell) → Extends a b → ((d : ℕ) → c ≢ d → SameCell d a b) → Holds image b c cell → Heap image a cells →
    Heap image b (slice_set cells c cell)
heap_changed image a b cells c cell e same h heap d there is = ⊎_elim
    (λ here. let it = get_set_here cells c cell there (subst (λ n. slice_get (slice_set cells c cell) n ≡ Some there) here is) in
    subst (λ n. Holds image b n there) (sym here) (subst (λ x. Holds image b c x) (sym it) h))
    (λ other. holds_on image a b e d (same d (λ k. other (sym k))) there (heap d there (sym (get_set_other cells c d cell other) ∙ is)))
    (cases_eq d c)

-- a cell more
pub heap_added : (image : Image) (a b : Layout) (cells : List Cell) (cell : Cell) → Extends a b → ((d : ℕ) → length cells ≢ d → SameCell d a b) → Holds image b (length cells) cell → Heap image a cells →
    Heap image b (cells ++ cell ∷ [])
heap_added image a b cells cell e same h heap d there is = ⊎_elim
    (λ here. let it = get_added_last cells d cell there is here in
    subst (λ n. Holds image b n there) (sym here) (subst (λ x. Holds image b (length cells) x) (sym it) h))
    (λ other. holds_on image a b e d (same d (λ k. other (sym k))) there (heap d there (get_added cells d cell there is other)))
    (cases_eq d (length cells))

-- nothing that a cell holds is changed
pub heap_kept : (image : Image) (a b : Layout) (cells : List Cell) → Extends a b → ((d : ℕ) → SameCell d a b) → Heap image a cells → Heap image b cells
heap_kept image a b cells e same heap d there is = holds_on image a b e d (same d) there (heap d there is)

-- a word of one cell is put
pub heap_put : (image : Image) (map : Layout) (cells : List Cell) (c p v : ℕ) (cell : Cell) → map.owner p ≡ of_cell c → Heap image map cells → Holds image (with_word map p v) c cell →
    Heap image (with_word map p v) (slice_set cells c cell)
heap_put image map cells c p v cell mine heap h =
    heap_changed image map (with_word map p v) cells c cell (extends_store map p v (of_a_cell map c p mine)) (λ d k. store_other map c d p v mine k) h heap
