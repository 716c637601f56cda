-- The children of a node stand in the slots of its form: those of one kind with which a list begins, and what stands after them.
use Rattle.std.proofs.Common.{◌≡◌, ◌∙◌, ◌⊎◌, ℕ, zero, suc, ◌+◌, ◌<◌, ◌&&◌, ◌||◌, Bool, true, false, if◌then◌else◌, List, [], ◌∷◌, ◌++◌, take, drop, Some, slice_get, refl, ap, sym, subst, inl, inr, arith, add-one}
use Rattle.std.specs.List.{All}
use Rattle.std.proofs.lemmas.Bool.{true≢false, or_left, or_right}
use Rattle.std.proofs.lemmas.List.Elements.{All-head, All-tail}
use Rattle.clu_tree.specs.declared.node.Node.{Node}
use Rattle.clu_tree.specs.declared.node.NodeKind.{NodeKind}
use Rattle.clu_tree.specs.Nodes.{IsTree}
use Rattle.clu_parser.specs.Shape.{is_child, Part, parts_of, child, many, maybe, Letter, node, IsWord, nothing, token_is, name_is, value_is, child_is, no_more, one_more, without, with_one, kinds_in, HaveKinds, HasForm}
use Rattle.clu_syntax.specs.Kinds.{kind_of, kind_at}
use Rattle.clu_syntax.specs.Splits.{is_of, leading, run, after_run, after_one}
use Rattle.clu_syntax.proofs.Enough.{kinds_append}
pub use Rattle.clu_parts.specs.Slots.{Slot, just, several, at_most_one, has_none, has_one, may_stand, slot_many, slot_maybe, slots_of, IsPart, AreParts, AreBefore, Stand, none_left, just_one, not_there, there, no_others, another}

-- the kinds stand in these slots
pub data Fits : List Slot → List NodeKind → Type 0 where
  ended : Fits [] []
  is_there : (p : NodeKind → Bool) (k : NodeKind) (ss : List Slot) (ks : List NodeKind) → p k ≡ true → Fits ss ks → Fits (just p ∷ ss) (k ∷ ks)
  is_not : (p : NodeKind → Bool) (ss : List Slot) (ks : List NodeKind) → Fits ss ks → Fits (at_most_one p ∷ ss) ks
  is_one : (p : NodeKind → Bool) (k : NodeKind) (ss : List Slot) (ks : List NodeKind) → p k ≡ true → Fits ss ks → Fits (at_most_one p ∷ ss) (k ∷ ks)
  are_none : (p : NodeKind → Bool) (ss : List Slot) (ks : List NodeKind) → Fits ss ks → Fits (several p ∷ ss) ks
  are_more : (p : NodeKind → Bool) (k : NodeKind) (ss : List Slot) (ks : List NodeKind) → p k ≡ true → Fits (several p ∷ ss) ks → Fits (several p ∷ ss) (k ∷ ks)

abbrev pub AllOf : (NodeKind → Bool) → List NodeKind → Type 0
AllOf p [] = Unit {0}
AllOf p (k ∷ ks) = (p k ≡ true) × AllOf p ks

pub all_append : (p : NodeKind → Bool) (ks js : List NodeKind) → AllOf p ks → AllOf p js → AllOf p (ks ++ js)
all_append p [] js h g = g
all_append p (k ∷ ks) js h g = (h.0, all_append p ks js h.1 g)

all_weaker : (p q : NodeKind → Bool) (ks : List NodeKind) → ((k : NodeKind) → p k ≡ true → q k ≡ true) → AllOf p ks → AllOf q ks
all_weaker p q [] w h = tt
all_weaker p q (k ∷ ks) w h = (w k h.0, all_weaker p q ks w h.1)

true_all : (ks : List NodeKind) → AllOf (λ k. true) ks
true_all [] = tt
true_all (k ∷ ks) = (refl, true_all ks)

split_kinds : (v w u : List Letter) → u ≡ v ++ w → kinds_in u ≡ kinds_in v ++ kinds_in w
split_kinds v w u e = ap kinds_in e ∙ kinds_append v w

pub all_stand : (steps : ℕ) (ps : List Part) (w : List Letter) → IsWord ps w → AllOf (may_stand steps ps) (kinds_in w)
all_stand steps _ _ nothing = tt
all_stand steps _ _ (token_is x ps w d) = all_stand steps ps w d
all_stand steps _ _ (name_is ps w d) = all_stand steps ps w d
all_stand steps _ _ (value_is xs x ps w has d) = all_stand steps ps w d
all_stand steps _ _ (child_is c k ps w is d) = (or_left (is_child c k) (may_stand steps ps k) is, all_weaker (may_stand steps ps) (may_stand steps (child c ∷ ps)) (kinds_in w) (λ j h. or_right (is_child c j) (may_stand steps ps j) h) (all_stand steps ps w d))
all_stand zero _ _ (no_more g ps w d) = true_all (kinds_in w)
all_stand zero _ _ (one_more g ps v w u dv dw e) = true_all (kinds_in u)
all_stand zero _ _ (without g ps w d) = true_all (kinds_in w)
all_stand zero _ _ (with_one g ps v w u dv dw e) = true_all (kinds_in u)
all_stand (suc steps) _ _ (no_more g ps w d) = all_weaker (may_stand (suc steps) ps) (may_stand (suc steps) (many g ∷ ps)) (kinds_in w) (λ j h. or_right (may_stand steps (parts_of g) j) (may_stand (suc steps) ps j) h) (all_stand (suc steps) ps w d)
all_stand (suc steps) _ _ (one_more g ps v w u dv dw e) =
    subst (AllOf (may_stand (suc steps) (many g ∷ ps))) (sym (split_kinds v w u e))
    (all_append (may_stand (suc steps) (many g ∷ ps)) (kinds_in v) (kinds_in w)
    (all_weaker (may_stand steps (parts_of g)) (may_stand (suc steps) (many g ∷ ps)) (kinds_in v) (λ j h. or_left (may_stand steps (parts_of g) j) (may_stand (suc steps) ps j) h) (all_stand steps (parts_of g) v dv))
    (all_stand (suc steps) (many g ∷ ps) w dw))
all_stand (suc steps) _ _ (without g ps w d) = all_weaker (may_stand (suc steps) ps) (may_stand (suc steps) (maybe g ∷ ps)) (kinds_in w) (λ j h. or_right (may_stand steps (parts_of g) j) (may_stand (suc steps) ps j) h) (all_stand (suc steps) ps w d)
all_stand (suc steps) _ _ (with_one g ps v w u dv dw e) =
    subst (AllOf (may_stand (suc steps) (maybe g ∷ ps))) (sym (split_kinds v w u e))
    (all_append (may_stand (suc steps) (maybe g ∷ ps)) (kinds_in v) (kinds_in w)
    (all_weaker (may_stand steps (parts_of g)) (may_stand (suc steps) (maybe g ∷ ps)) (kinds_in v) (λ j h. or_left (may_stand steps (parts_of g) j) (may_stand (suc steps) ps j) h) (all_stand steps (parts_of g) v dv))
    (all_weaker (may_stand (suc steps) ps) (may_stand (suc steps) (maybe g ∷ ps)) (kinds_in w) (λ j h. or_right (may_stand steps (parts_of g) j) (may_stand (suc steps) ps j) h) (all_stand (suc steps) ps w dw)))

none_stand : (ps : List Part) (w : List Letter) → IsWord ps w → has_none ps ≡ true → kinds_in w ≡ []
none_stand _ _ nothing h = refl
none_stand _ _ (token_is x ps w d) h = none_stand ps w d h
none_stand _ _ (name_is ps w d) h = none_stand ps w d h
none_stand _ _ (value_is xs x ps w has d) h = none_stand ps w d h
none_stand _ _ (child_is c k ps w is d) h = absurd (cc)
none_stand _ _ (no_more g ps w d) h = absurd (cc)
none_stand _ _ (one_more g ps v w u dv dw e) h = absurd (cc)
none_stand _ _ (without g ps w d) h = absurd (cc)
none_stand _ _ (with_one g ps v w u dv dw e) h = absurd (cc)

-- one kind or none
IsShort : List NodeKind → Type 0
IsShort ks = (ks ≡ []) ⊎ ((k : NodeKind) × (ks ≡ k ∷ []))

one_stands : (ps : List Part) (w : List Letter) → IsWord ps w → has_one ps ≡ true → IsShort (kinds_in w)
unfolding IsShort
one_stands _ _ nothing h = inl refl
one_stands _ _ (token_is x ps w d) h = one_stands ps w d h
one_stands _ _ (name_is ps w d) h = one_stands ps w d h
one_stands _ _ (value_is xs x ps w has d) h = one_stands ps w d h
one_stands _ _ (child_is c k ps w is d) h = inr (k, ap (λ ks. k ∷ ks) (none_stand ps w d h))
one_stands _ _ (no_more g ps w d) h = absurd (cc)
one_stands _ _ (one_more g ps v w u dv dw e) h = absurd (cc)
one_stands _ _ (without g ps w d) h = absurd (cc)
one_stands _ _ (with_one g ps v w u dv dw e) h = absurd (cc)

-- ---- one part before others

pub several_before : (p : NodeKind → Bool) (ss : List Slot) (vs ks : List NodeKind) → AllOf p vs → Fits (several p ∷ ss) ks → Fits (several p ∷ ss) (vs ++ ks)
several_before p ss [] ks all f = f
several_before p ss (v ∷ vs) ks all f = are_more p v ss (vs ++ ks) all.0 (several_before p ss vs ks all.1 f)

no_more_of : (b : Bool) (p : NodeKind → Bool) (ss : List Slot) (ks : List NodeKind) → Fits ss ks → Fits (slot_many b p ss) ks
no_more_of true p ss ks f = f
no_more_of false p ss ks f = are_none p ss ks f

one_more_of : (b : Bool) (p : NodeKind → Bool) (ss : List Slot) (vs ks : List NodeKind) → (b ≡ true → vs ≡ []) → AllOf p vs → Fits (slot_many b p ss) ks → Fits (slot_many b p ss) (vs ++ ks)
one_more_of true p ss vs ks none all f = subst (λ (vs : List NodeKind). Fits ss (vs ++ ks)) (sym (none refl)) f
one_more_of false p ss vs ks none all f = several_before p ss vs ks all f

without_it : (b c : Bool) (p : NodeKind → Bool) (ss : List Slot) (ks : List NodeKind) → Fits ss ks → Fits (slot_maybe b c p ss) ks
without_it true c p ss ks f = f
without_it false true p ss ks f = is_not p ss ks f
without_it false false p ss ks f = are_none p ss ks f

short_before : (p : NodeKind → Bool) (ss : List Slot) (vs ks : List NodeKind) → IsShort vs → AllOf p vs → Fits ss ks → Fits (at_most_one p ∷ ss) (vs ++ ks)
unfolding IsShort
short_before p ss vs ks (inl e) all f = subst (λ (vs : List NodeKind). Fits (at_most_one p ∷ ss) (vs ++ ks)) (sym e) (is_not p ss ks f)
short_before p ss vs ks (inr one) all f =
    let is : p one.0 ≡ true = (subst (AllOf p) one.1 all).0 in
    subst (λ (vs : List NodeKind). Fits (at_most_one p ∷ ss) (vs ++ ks)) (sym one.1) (is_one p one.0 ss ks is f)

with_it : (b c : Bool) (p : NodeKind → Bool) (ss : List Slot) (vs ks : List NodeKind) → (b ≡ true → vs ≡ []) → (c ≡ true → IsShort vs) → AllOf p vs → Fits ss ks → Fits (slot_maybe b c p ss) (vs ++ ks)
with_it true c p ss vs ks none short all f = subst (λ (vs : List NodeKind). Fits ss (vs ++ ks)) (sym (none refl)) f
with_it false true p ss vs ks none short all f = short_before p ss vs ks (short refl) all f
with_it false false p ss vs ks none short all f = several_before p ss vs ks all (are_none p ss ks f)

pub word_fits : (form : List Part) (w : List Letter) → IsWord form w → Fits (slots_of form) (kinds_in w)
word_fits _ _ nothing = ended
word_fits _ _ (token_is x ps w d) = word_fits ps w d
word_fits _ _ (name_is ps w d) = word_fits ps w d
word_fits _ _ (value_is xs x ps w has d) = word_fits ps w d
word_fits _ _ (child_is c k ps w is d) = is_there (is_child c) k (slots_of ps) (kinds_in w) is (word_fits ps w d)
word_fits _ _ (no_more g ps w d) = no_more_of (has_none (parts_of g)) (may_stand 2 (parts_of g)) (slots_of ps) (kinds_in w) (word_fits ps w d)
word_fits _ _ (one_more g ps v w u dv dw e) =
    subst (Fits (slots_of (many g ∷ ps))) (sym (split_kinds v w u e))
    (one_more_of (has_none (parts_of g)) (may_stand 2 (parts_of g)) (slots_of ps) (kinds_in v) (kinds_in w) (none_stand (parts_of g) v dv) (all_stand 2 (parts_of g) v dv) (word_fits (many g ∷ ps) w dw))
word_fits _ _ (without g ps w d) = without_it (has_none (parts_of g)) (has_one (parts_of g)) (may_stand 2 (parts_of g)) (slots_of ps) (kinds_in w) (word_fits ps w d)
word_fits _ _ (with_one g ps v w u dv dw e) =
    subst (Fits (slots_of (maybe g ∷ ps))) (sym (split_kinds v w u e))
    (with_it (has_none (parts_of g)) (has_one (parts_of g)) (may_stand 2 (parts_of g)) (slots_of ps) (kinds_in v) (kinds_in w) (none_stand (parts_of g) v dv) (one_stands (parts_of g) v dv) (all_stand 2 (parts_of g) v dv) (word_fits ps w dw))

-- ---- the same of the children themselves

same_kind : (nodes : List Node) (p : NodeKind → Bool) (c : ℕ) (k : NodeKind) (m : Node) → slice_get nodes c ≡ Some m → m.kind ≡ k → p k ≡ true → p (kind_at nodes c) ≡ true
same_kind nodes p c k m at is h = subst (λ (k : NodeKind). p k ≡ true) (sym (ap kind_of at ∙ is)) h

pub stand : (nodes : List Node) (n : ℕ) (ss : List Slot) (ks : List NodeKind) (cs : List ℕ) → Fits ss ks → HaveKinds nodes cs ks → AreBefore n cs → Stand nodes n ss cs
stand nodes n _ _ [] ended h l = none_left
stand nodes n _ _ (c ∷ cs) ended h l = absurd h
stand nodes n _ _ [] (is_there p k ss ks is f) h l = absurd h
stand nodes n _ _ (c ∷ cs) (is_there p k ss ks is f) h l = just_one p c ss cs (l.0, same_kind nodes p c k h.0 h.1 h.2 is) (stand nodes n ss ks cs f h.3 l.1)
stand nodes n _ ks cs (is_not p ss _ f) h l = not_there p ss cs (stand nodes n ss ks cs f h l)
stand nodes n _ _ [] (is_one p k ss ks is f) h l = absurd h
stand nodes n _ _ (c ∷ cs) (is_one p k ss ks is f) h l = there p c ss cs (l.0, same_kind nodes p c k h.0 h.1 h.2 is) (stand nodes n ss ks cs f h.3 l.1)
stand nodes n _ ks cs (are_none p ss _ f) h l = no_others p ss cs (stand nodes n ss ks cs f h l)
stand nodes n _ _ [] (are_more p k ss ks is f) h l = absurd h
stand nodes n _ _ (c ∷ cs) (are_more p k ss ks is f) h l = another p c ss cs (l.0, same_kind nodes p c k h.0 h.1 h.2 is) (stand nodes n (several p ∷ ss) ks cs f h.3 l.1)

are_before : (n m : ℕ) (cs : List ℕ) → m < suc n → All (λ c. c < m) cs → AreBefore n cs
are_before n m [] l all = tt
are_before n m (c ∷ cs) l all = let first : c < m = All-head (λ c. c < m) c cs all in (omega (arith, first, l), are_before n m cs l (All-tail (λ c. c < m) c cs all))

-- the children of a node stand in the slots of its form
pub fitted : (nodes : List Node) → IsTree nodes → (i : ℕ) (n : Node) → slice_get nodes i ≡ Some n → (f : HasForm nodes n) → Stand nodes i (slots_of f.form) n.children
fitted nodes tree i n at f = stand nodes i (slots_of f.form) (kinds_in f.word) n.children (word_fits f.form f.word f.is_word) f.children_are (are_before i i n.children (omega arith) (tree.below i n at))

-- ---- runs of one kind

-- the kinds that may stand first
abbrev pub first_of : List Slot → NodeKind → Bool
first_of [] k = false
first_of (just p ∷ ss) k = p k
first_of (at_most_one p ∷ ss) k = p k || first_of ss k
first_of (several p ∷ ss) k = p k || first_of ss k

pub first_is : (nodes : List Node) (n : ℕ) (ss : List Slot) (c : ℕ) (cs : List ℕ) → Stand nodes n ss (c ∷ cs) → first_of ss (kind_at nodes c) ≡ true
first_is nodes n _ c cs (just_one p _ ss _ is s) = is.1
first_is nodes n _ c cs (not_there p ss _ s) = or_right (p (kind_at nodes c)) (first_of ss (kind_at nodes c)) (first_is nodes n ss c cs s)
first_is nodes n _ c cs (there p _ ss _ is s) = or_left (p (kind_at nodes c)) (first_of ss (kind_at nodes c)) is.1
first_is nodes n _ c cs (no_others p ss _ s) = or_right (p (kind_at nodes c)) (first_of ss (kind_at nodes c)) (first_is nodes n ss c cs s)
first_is nodes n _ c cs (another p _ ss _ is s) = or_left (p (kind_at nodes c)) (first_of ss (kind_at nodes c)) is.1

both_false : (a b : Bool) → (a && b) ≡ false → b ≡ true → a ≡ false
both_false true b e h = absurd (true≢false (sym h ∙ e))
both_false false b e h = refl

module _ (nodes : List Node) (n : ℕ) (k : NodeKind) where
  -- the first of what stands there is of another kind
  pub not_first : (ss : List Slot) (c : ℕ) (cs : List ℕ) → ((j : NodeKind) → (is_of k j && first_of ss j) ≡ false) → Stand nodes n ss (c ∷ cs) → is_of k (kind_at nodes c) ≡ false
  not_first ss c cs apart s = both_false (is_of k (kind_at nodes c)) (first_of ss (kind_at nodes c)) (apart (kind_at nodes c)) (first_is nodes n ss c cs s)

  -- those of one kind, and what stands after them
  pub record Run (ss : List Slot) (cs : List ℕ) : Type 0 where
    pub parts : AreParts nodes (is_of k) n (run nodes k cs)
    pub rest : Stand nodes n ss (after_run nodes k cs)

  counts_one : (c : ℕ) (cs : List ℕ) → is_of k (kind_at nodes c) ≡ true → leading nodes k (c ∷ cs) ≡ suc (leading nodes k cs)
  unfolding leading
  counts_one c cs e = ap (λ (b : Bool). if b then leading nodes k cs + 1 else 0) e ∙ add-one (leading nodes k cs)

  no_more_there : (c : ℕ) (cs : List ℕ) → is_of k (kind_at nodes c) ≡ false → leading nodes k (c ∷ cs) ≡ 0
  unfolding leading
  no_more_there c cs e = ap (λ (b : Bool). if b then leading nodes k cs + 1 else 0) e

  pub run_is : (p : NodeKind → Bool) (ss : List Slot) (cs : List ℕ) → ((j : NodeKind) → p j ≡ is_of k j) → ((j : NodeKind) → (is_of k j && first_of ss j) ≡ false) → Stand nodes n (several p ∷ ss) cs → Run ss cs
  unfolding leading
  run_is p ss [] same apart (no_others _ _ _ s) = record { parts = tt; rest = s }
  run_is p ss (c ∷ cs) same apart (no_others _ _ _ s) =
      let none : leading nodes k (c ∷ cs) ≡ 0 = no_more_there c cs (not_first ss c cs apart s) in
      record {
        parts = subst (λ (m : ℕ). AreParts nodes (is_of k) n (take m (c ∷ cs))) (sym none) tt;
        rest = subst (λ (m : ℕ). Stand nodes n ss (drop m (c ∷ cs))) (sym none) s;
      }
  run_is p ss (c ∷ cs) same apart (another _ _ _ _ is s) =
      let its : is_of k (kind_at nodes c) ≡ true = sym (same (kind_at nodes c)) ∙ is.1 in
      let more : leading nodes k (c ∷ cs) ≡ suc (leading nodes k cs) = counts_one c cs its in
      let others : Run ss cs = run_is p ss cs same apart s in
      record {
        parts = subst (λ (m : ℕ). AreParts nodes (is_of k) n (take m (c ∷ cs))) (sym more) ((is.0, its), others.parts);
        rest = subst (λ (m : ℕ). Stand nodes n ss (drop m (c ∷ cs))) (sym more) others.rest;
      }

  -- none of this kind, where another stands first
  pub no_run : (ss : List Slot) (cs : List ℕ) → ((j : NodeKind) → (is_of k j && first_of ss j) ≡ false) → Stand nodes n ss cs → leading nodes k cs ≡ 0
  unfolding leading
  no_run ss [] apart s = refl
  no_run ss (c ∷ cs) apart s = no_more_there c cs (not_first ss c cs apart s)

  -- one of this kind, or none
  pub after_one_is : (p : NodeKind → Bool) (ss : List Slot) (cs : List ℕ) → ((j : NodeKind) → p j ≡ is_of k j) → ((j : NodeKind) → (is_of k j && first_of ss j) ≡ false) → Stand nodes n (at_most_one p ∷ ss) cs → Stand nodes n ss (after_one nodes k cs)
  after_one_is p ss [] same apart (not_there _ _ _ s) = s
  after_one_is p ss (c ∷ cs) same apart (not_there _ _ _ s) = subst (λ (b : Bool). Stand nodes n ss (if b then cs else c ∷ cs)) (sym (not_first ss c cs apart s)) s
  after_one_is p ss (c ∷ cs) same apart (there _ _ _ _ is s) = subst (λ (b : Bool). Stand nodes n ss (if b then cs else c ∷ cs)) (sym (sym (same (kind_at nodes c)) ∙ is.1)) s

-- one more in front of several
pub several_from : (nodes : List Node) (n : ℕ) (p q : NodeKind → Bool) (ss : List Slot) (cs : List ℕ) → ((j : NodeKind) → p j ≡ q j) → Stand nodes n (just p ∷ several q ∷ ss) cs → Stand nodes n (several q ∷ ss) cs
several_from nodes n p q ss _ same (just_one _ c _ cs is s) = another q c ss cs (is.0, sym (same (kind_at nodes c)) ∙ is.1) s

-- ---- a list by its first slot

module _ (nodes : List Node) (n : ℕ) (P : List ℕ → Type 0) where
  pub on_head : (p : NodeKind → Bool) (ss : List Slot) → ((c : ℕ) (rest : List ℕ) → IsPart nodes p n c → Stand nodes n ss rest → P (c ∷ rest)) → (cs : List ℕ) → Stand nodes n (just p ∷ ss) cs → P cs
  on_head p ss f _ (just_one _ c _ rest is s) = f c rest is s

  pub on_option : (p : NodeKind → Bool) (ss : List Slot) → ((cs : List ℕ) → Stand nodes n ss cs → P cs) → ((c : ℕ) (rest : List ℕ) → IsPart nodes p n c → Stand nodes n ss rest → P (c ∷ rest)) → (cs : List ℕ) → Stand nodes n (at_most_one p ∷ ss) cs → P cs
  on_option p ss f g cs (not_there _ _ _ s) = f cs s
  on_option p ss f g _ (there _ c _ rest is s) = g c rest is s

  pub on_end : P [] → (cs : List ℕ) → Stand nodes n [] cs → P cs
  on_end done _ none_left = done

-- all that stands in one slot
pub all_several : (nodes : List Node) (n : ℕ) (p q : NodeKind → Bool) (cs : List ℕ) → ((j : NodeKind) → p j ≡ q j) → Stand nodes n (several p ∷ []) cs → AreParts nodes q n cs
all_several nodes n p q [] same s = tt
all_several nodes n p q (c ∷ cs) same (no_others _ _ _ s) = absurd (let none : false ≡ true = first_is nodes n [] c cs s in true≢false (sym none))
all_several nodes n p q (c ∷ cs) same (another _ _ _ _ is s) = ((is.0, sym (same (kind_at nodes c)) ∙ is.1), all_several nodes n p q cs same s)

-- the kinds that may stand anywhere in the slots
abbrev pub some_of : List Slot → NodeKind → Bool
some_of [] k = false
some_of (just p ∷ ss) k = p k || some_of ss k
some_of (at_most_one p ∷ ss) k = p k || some_of ss k
some_of (several p ∷ ss) k = p k || some_of ss k

all_some : (nodes : List Node) (n : ℕ) (ss rs : List Slot) (cs : List ℕ) → ((k : NodeKind) → some_of ss k ≡ true → some_of rs k ≡ true) → Stand nodes n ss cs → AreParts nodes (some_of rs) n cs
all_some nodes n _ rs _ w none_left = tt
all_some nodes n _ rs _ w (just_one p c ss cs is s) = ((is.0, w (kind_at nodes c) (or_left (p (kind_at nodes c)) (some_of ss (kind_at nodes c)) is.1)), all_some nodes n ss rs cs (λ k h. w k (or_right (p k) (some_of ss k) h)) s)
all_some nodes n _ rs cs w (not_there p ss _ s) = all_some nodes n ss rs cs (λ k h. w k (or_right (p k) (some_of ss k) h)) s
all_some nodes n _ rs _ w (there p c ss cs is s) = ((is.0, w (kind_at nodes c) (or_left (p (kind_at nodes c)) (some_of ss (kind_at nodes c)) is.1)), all_some nodes n ss rs cs (λ k h. w k (or_right (p k) (some_of ss k) h)) s)
all_some nodes n _ rs cs w (no_others p ss _ s) = all_some nodes n ss rs cs (λ k h. w k (or_right (p k) (some_of ss k) h)) s
all_some nodes n _ rs _ w (another p c ss cs is s) = ((is.0, w (kind_at nodes c) (or_left (p (kind_at nodes c)) (some_of ss (kind_at nodes c)) is.1)), all_some nodes n (several p ∷ ss) rs cs w s)

-- each child is of a kind that may stand in some slot
pub some_slot : (nodes : List Node) (n : ℕ) (ss : List Slot) (cs : List ℕ) → Stand nodes n ss cs → AreParts nodes (some_of ss) n cs
some_slot nodes n ss cs s = all_some nodes n ss ss cs (λ k h. h) s

are_of : (nodes : List Node) (n : ℕ) (p : NodeKind → Bool) (ks : List NodeKind) (cs : List ℕ) → AllOf p ks → HaveKinds nodes cs ks → AreBefore n cs → AreParts nodes p n cs
are_of nodes n p [] [] a h l = tt
are_of nodes n p [] (c ∷ cs) a h l = absurd h
are_of nodes n p (k ∷ ks) [] a h l = absurd h
are_of nodes n p (k ∷ ks) (c ∷ cs) a h l = ((l.0, same_kind nodes p c k h.0 h.1 h.2 a.0), are_of nodes n p ks cs a.1 h.3 l.1)

pub children_before : (nodes : List Node) → IsTree nodes → (i : ℕ) (n : Node) → slice_get nodes i ≡ Some n → AreBefore i n.children
children_before nodes tree i n at = are_before i i n.children (omega arith) (tree.below i n at)

-- each child is of a kind that may stand in the form
pub children_stand : (nodes : List Node) → IsTree nodes → (i : ℕ) (n : Node) → slice_get nodes i ≡ Some n → (f : HasForm nodes n) → AreParts nodes (may_stand 3 f.form) i n.children
children_stand nodes tree i n at f = are_of nodes i (may_stand 3 f.form) (kinds_in f.word) n.children (all_stand 3 f.form f.word f.is_word) f.children_are (children_before nodes tree i n at)
