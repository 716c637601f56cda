-- What it makes of the nodes and of their forms that the innermost node ends.
use Rattle.std.proofs.Common.{◌≡◌, ℕ, ◌+◌, ◌-◌, ◌<◌, ◌&&◌, Bool, true, false, cond, List, [], ◌∷◌, ◌++◌, length, take, drop, Some, None, slice_get, refl, sym, ap, ◌∙◌, subst, append_assoc, append-nil, arith}
use Rattle.std.specs.List.{list_all}
use Rattle.clu_tree.specs.declared.node.Node.{Node}
use Rattle.clu_tree.specs.declared.node.NodeKind.{NodeKind}
use Rattle.clu_tree.specs.declared.node.NodeKind.TheVariants as k
use Rattle.clu_tree.specs.contracts.node.NodeKind.{the_type as kind_type}
use Rattle.clu_grammar.proofs.Flags.{and_left, and_right}
use Rattle.clu_parser.specs.declared.begun.Begun.{Begun}
use Rattle.clu_parser.specs.Trees.{Text, Built, node_of, last_of as last_token_of, end_in, closed_in as closing, given_in as giving}
use Rattle.clu_parser.specs.Shape.{Child, one, Part, token, name, value, child, many, maybe, parts_of, forms, Letter, own, named, valued, node, IsWord, nothing, token_is, name_is, value_is, child_is, no_more, one_more, without, with_one, Spelled, ended, own_token, a_name, a_value, a_child, IsShaped}
use Rattle.clu_parser.proofs.Words.{all_plain, plain_own, word_append, word_split}
use Rattle.clu_parser.proofs.Fits.{fits_is}
use Rattle.clu_parser.proofs.Sketch.{deep, is_one_of, has_letter, is_childless, last_is_child, ends_with_child, Cut, cut_under, cut, is_silent_part, is_silent, is_whole, closed, closed_after, given}
use Rattle.clu_parser.proofs.Standing.{IsStack, shaped_more}
use Rattle.clu_parser.proofs.Making.{close_node, give_node, end_of, last_of}
use Rattle.clu_parser.proofs.Matching.{Matches, top, one_form}
use Rattle.clu_parser.proofs.Acts.{IsActed}
use denote.Enum.Bare.{sameb, true_same}
use Rattle.std.proofs.Math.Bool.{and-false}
use Rattle.std.proofs.lemmas.Bool.{and_from}
use Rattle.std.proofs.lemmas.Option.{same_Some}

-- a word with a letter
pub record IsCons (w : List Letter) : Type 0 where
  pub head : Letter
  pub tail : List Letter
  pub is : w ≡ head ∷ tail

cons_after : (a b w : List Letter) → IsCons b → w ≡ a ++ b → IsCons w
cons_after [] b w more is = record { head = more.head; tail = more.tail; is = is ∙ more.is }
cons_after (x ∷ a) b w more is = record { head = x; tail = a ++ b; is = is }

pub letter_of : (ps : List Part) (w : List Letter) → has_letter ps ≡ true → IsWord ps w → IsCons w
letter_of _ _ h nothing = absurd (cc)
letter_of _ _ h (token_is x ps w d) = record { head = own x; tail = w; is = refl }
letter_of _ _ h (name_is ps w d) = record { head = named; tail = w; is = refl }
letter_of _ _ h (value_is xs x ps w e d) = record { head = valued x; tail = w; is = refl }
letter_of _ _ h (child_is c kind ps w e d) = record { head = node kind; tail = w; is = refl }
letter_of _ w h (no_more g ps _ d) = letter_of ps w h d
letter_of _ w h (one_more g ps a b _ first d is) = cons_after a b w (letter_of (many g ∷ ps) b h d) is
letter_of _ w h (without g ps _ d) = letter_of ps w h d
letter_of _ w h (with_one g ps a b _ first d is) = cons_after a b w (letter_of ps b h d) is

kind_itself : (kind : NodeKind) → sameb kind_type kind kind ≡ true
kind_itself kind = true_same kind_type kind kind refl

pub no_letters : (t : Text) (nodes : List Node) (mid at : ℕ) → Spelled t nodes mid [] [] [] [] at → at ≡ mid
no_letters t nodes mid _ (ended _) = refl

-- the innermost node ends, but for the tokens after it
close_as : (t : Text) (at : ℕ) (b c : Built) (o : Begun) (os : List Begun) (kind : NodeKind) (last : ℕ) (whole after outer : List Part) (rest_forms : List (List Part)) (p : List Letter) (rest : List (List Letter)) (w ts : List Letter) (ws : List (List Letter))
    → is_whole kind whole ≡ true → all_plain after ≡ true → IsWord whole w → IsWord after ts → Matches (outer ∷ rest_forms) p rest ws
    → IsStack t b.nodes b.tops (o ∷ os) ((w ++ ts) ∷ ws) at → IsShaped t b.nodes
    → ((mid : ℕ) (vs : List ℕ) → o.first < mid → Spelled t b.nodes o.first w (drop o.height b.tops) o.names vs mid → Spelled t b.nodes mid ts [] [] [] at → (node_of t kind last b.nodes (drop o.height b.tops) o).last + 1 ≡ mid)
    → closing t kind last b (o ∷ os) ≡ Some c
    → IsActed t ((outer ++ child (one kind) ∷ after) ∷ rest_forms) p rest at c
close_as t at b c o os kind last whole after outer rest_forms p rest w ts ws is_it plain dw dts known stack shaped ends built =
    let f = one_form whole (forms kind) (and_left (is_one_of whole (forms kind)) (has_letter whole) is_it) in
    let l = letter_of whole w (and_right (is_one_of whole (forms kind)) (has_letter whole) is_it) dw in
    let v = top outer rest_forms p rest ws known in
    let stack' = subst (λ (x : List (List Letter)). IsStack t b.nodes b.tops (o ∷ os) (((l.head ∷ l.tail) ++ ts) ∷ x) at) v.is (subst (λ (x : List Letter). IsStack t b.nodes b.tops (o ∷ os) ((x ++ ts) ∷ ws) at) l.is stack) in
    let ends' = subst (λ (x : List Letter). (mid : ℕ) (vs : List ℕ) → o.first < mid → Spelled t b.nodes o.first x (drop o.height b.tops) o.names vs mid → Spelled t b.nodes mid ts [] [] [] at → (node_of t kind last b.nodes (drop o.height b.tops) o).last + 1 ≡ mid) l.is ends in
    let word = subst (IsWord f.form) l.is (fits_is deep whole f.form w f.fits_it dw) in
    let m = close_node t b.nodes o b.tops os l.head l.tail (v.front ++ v.word) ts v.others kind last at f.form shaped (plain_own after ts plain dts) word f.one stack' ends' in
    let n : Node = node_of t kind last b.nodes (drop o.height b.tops) o in
    let new : Built = record { nodes = b.nodes ++ n ∷ []; tops = take o.height b.tops ++ length b.nodes ∷ []; begun = os } in
    subst (λ (x : Built). IsActed t ((outer ++ child (one kind) ∷ after) ∷ rest_forms) p rest at x) (same_Some new c built)
    (record {
      words = (v.front ++ (v.word ++ node kind ∷ ts)) ∷ v.others;
      matches = v.again (outer ++ child (one kind) ∷ after) (v.word ++ node kind ∷ ts) (word_append outer (child (one kind) ∷ after) v.word (node kind ∷ ts) v.is_word (child_is (one kind) kind after ts (kind_itself kind) dts));
      stack = subst (λ (x : List Letter). IsStack t (b.nodes ++ n ∷ []) (take o.height b.tops ++ length b.nodes ∷ []) os (x ∷ v.others) at) (append_assoc v.front v.word (node kind ∷ ts)) m.stack;
      shaped = shaped_more t b.nodes n shaped m.production;
    })

-- most nodes end with the token just taken
last_same : (kind : NodeKind) → sameb kind_type kind k.Restrict ≡ false → (nodes : List Node) (cs : List ℕ) (last : ℕ) → last_token_of kind nodes cs last ≡ last
last_same k.Restrict h nodes cs last = absurd (cc)
last_same _ h nodes cs last = refl

close_plain : (t : Text) (at : ℕ) (b c : Built) (os : List Begun) (kind : NodeKind) (a outer : List Part) (rest_forms made : List (List Part)) (p : List Letter) (rest words : List (List Letter)) (test : Bool)
    → is_whole kind a ≡ test → cond test (Some ((outer ++ child (one kind) ∷ []) ∷ rest_forms)) None ≡ Some made
    → ((o : Begun) (vs : List ℕ) (w : List Letter) → IsWord a w → Spelled t b.nodes o.first w (drop o.height b.tops) o.names vs at → last_token_of kind b.nodes (drop o.height b.tops) (at - 1) ≡ at - 1)
    → closing t kind (at - 1) b os ≡ Some c → Matches (a ∷ outer ∷ rest_forms) p rest words → IsStack t b.nodes b.tops os words at → IsShaped t b.nodes → IsActed t made p rest at c
close_plain t at b c os kind a outer rest_forms made p rest words false is_it made_is last built known stack shaped = absurd (cc)
close_plain t at b c [] kind a outer rest_forms made p rest words true is_it made_is last built known stack shaped = absurd (cc)
close_plain t at b c (o ∷ os) kind a outer rest_forms made p rest words true is_it made_is last built known stack shaped =
    let stack' = subst (λ (x : List Letter). IsStack t b.nodes b.tops (o ∷ os) (x ∷ known.1) at) (sym (append-nil known.0)) (subst (λ (x : List (List Letter)). IsStack t b.nodes b.tops (o ∷ os) x at) known.3 stack) in
    subst (λ (m : List (List Part)). IsActed t m p rest at c) (same_Some ((outer ++ child (one kind) ∷ []) ∷ rest_forms) made made_is)
    (close_as t at b c o os kind (at - 1) a [] outer rest_forms p rest known.0 [] known.1 is_it refl known.2 nothing known.4 stack' shaped
    (λ mid vs less inner after.
    let here : at ≡ mid = no_letters t b.nodes mid at after in
    let same = last o vs known.0 known.2 (subst (λ (n : ℕ). Spelled t b.nodes o.first known.0 (drop o.height b.tops) o.names vs n) (sym here) inner) in
    omega (arith, same))
    built)

pub act_close : (t : Text) (at : ℕ) (b c : Built) (kind : NodeKind) (a outer : List Part) (rest_forms made : List (List Part)) (p : List Letter) (rest words : List (List Letter)) → sameb kind_type kind k.Restrict ≡ false → closed kind a outer rest_forms ≡ Some made → closing t kind (at - 1) b b.begun ≡ Some c → Matches (a ∷ outer ∷ rest_forms) p rest words → IsStack t b.nodes b.tops b.begun words at → IsShaped t b.nodes → IsActed t made p rest at c
act_close t at b c kind a outer rest_forms made p rest words other is built known stack shaped =
    close_plain t at b c b.begun kind a outer rest_forms made p rest words (is_whole kind a) refl is (λ o vs w d e. last_same kind other b.nodes (drop o.height b.tops) (at - 1)) built known stack shaped

-- without a child
abbrev is_no_node : Letter → Bool
is_no_node (node kind) = false
is_no_node _ = true

childless_word : (ps : List Part) (w : List Letter) → is_childless ps ≡ true → IsWord ps w → list_all is_no_node w ≡ true
childless_word _ _ h nothing = refl
childless_word _ _ h (token_is x ps w d) = childless_word ps w h d
childless_word _ _ h (name_is ps w d) = childless_word ps w h d
childless_word _ _ h (value_is xs x ps w e d) = childless_word ps w h d
childless_word _ _ h (child_is c kind ps w e d) = absurd (cc)
childless_word _ _ h (no_more g ps w d) = absurd (cc)
childless_word _ _ h (one_more g ps a b w first d is) = absurd (cc)
childless_word _ _ h (without g ps w d) = absurd (cc)
childless_word _ _ h (with_one g ps a b w first d is) = absurd (cc)

childless_spelled : (t : Text) (nodes : List Node) (at to : ℕ) (w : List Letter) (cs ns vs : List ℕ) → list_all is_no_node w ≡ true → Spelled t nodes at w cs ns vs to → cs ≡ []
childless_spelled t nodes at _ _ _ _ _ h (ended _) = refl
childless_spelled t nodes at to _ cs ns vs h (own_token x _ w _ _ _ _ is d) = childless_spelled t nodes (at + 1) to w cs ns vs h d
childless_spelled t nodes at to _ cs _ vs h (a_name _ w _ ns _ _ is d) = childless_spelled t nodes (at + 1) to w cs ns vs h d
childless_spelled t nodes at to _ cs ns _ h (a_value x _ w _ _ vs _ is d) = childless_spelled t nodes (at + 1) to w cs ns vs h d
childless_spelled t nodes _ to _ _ ns vs h (a_child c n w cs _ _ _ is d) = absurd (cc)

-- with one at the end
record EndsWithNode (w : List Letter) : Type 0 where
  front : List Letter
  kind : NodeKind
  is : w ≡ front ++ node kind ∷ []

record IsLastChild (ps : List Part) : Type 0 where
  before : List Part
  last : Child
  is : ps ≡ before ++ child last ∷ []

last_part : (p : Part) (ps : List Part) → last_is_child (p ∷ ps) ≡ true → IsLastChild (p ∷ ps)
last_part (child c) [] h = record { before = []; last = c; is = refl }
last_part (token x) [] h = absurd (cc)
last_part name [] h = absurd (cc)
last_part (value xs) [] h = absurd (cc)
last_part (many g) [] h = absurd (cc)
last_part (maybe g) [] h = absurd (cc)
last_part p (q ∷ ps) h = under p (last_part q ps (next p h))
  where
    next : (p : Part) → last_is_child (p ∷ q ∷ ps) ≡ true → last_is_child (q ∷ ps) ≡ true
    next (child c) h = h
    next (token x) h = h
    next name h = h
    next (value xs) h = h
    next (many g) h = h
    next (maybe g) h = h

    under : (p : Part) → IsLastChild (q ∷ ps) → IsLastChild (p ∷ q ∷ ps)
    under p r = record { before = p ∷ r.before; last = r.last; is = ap (λ (x : List Part). p ∷ x) r.is }

only_child : (c : Child) (ps : List Part) (w : List Letter) → IsWord ps w → ps ≡ child c ∷ [] → EndsWithNode w
only_child c _ _ nothing same = absurd (cc)
only_child c _ _ (token_is _ _ _ _) same = absurd (cc)
only_child c _ _ (name_is _ _ _) same = absurd (cc)
only_child c _ _ (value_is _ _ _ _ _ _) same = absurd (cc)
only_child c _ _ (child_is d kind ps w h e) same = let none : ps ≡ [] = cc in record { front = []; kind = kind; is = ap (λ (x : List Letter). node kind ∷ x) (empty ps w e none) }
  where
    empty : (ps : List Part) (w : List Letter) → IsWord ps w → ps ≡ [] → w ≡ []
    empty _ _ nothing same = refl
    empty _ _ (token_is _ _ _ _) same = absurd (cc)
    empty _ _ (name_is _ _ _) same = absurd (cc)
    empty _ _ (value_is _ _ _ _ _ _) same = absurd (cc)
    empty _ _ (child_is _ _ _ _ _ _) same = absurd (cc)
    empty _ _ (no_more _ _ _ _) same = absurd (cc)
    empty _ _ (one_more _ _ _ _ _ _ _ _) same = absurd (cc)
    empty _ _ (without _ _ _ _) same = absurd (cc)
    empty _ _ (with_one _ _ _ _ _ _ _ _) same = absurd (cc)
only_child c _ _ (no_more _ _ _ _) same = absurd (cc)
only_child c _ _ (one_more _ _ _ _ _ _ _ _) same = absurd (cc)
only_child c _ _ (without _ _ _ _) same = absurd (cc)
only_child c _ _ (with_one _ _ _ _ _ _ _ _) same = absurd (cc)

ends_after : (u w : List Letter) → EndsWithNode w → EndsWithNode (u ++ w)
ends_after u w e = record { front = u ++ e.front; kind = e.kind; is = ap (λ (x : List Letter). u ++ x) e.is ∙ sym (append_assoc u e.front (node e.kind ∷ [])) }

last_word : (ps : List Part) (w : List Letter) → last_is_child ps ≡ true → IsWord ps w → EndsWithNode w
last_word [] w h d = absurd (cc)
last_word (p ∷ ps) w h d =
    let l = last_part p ps h in
    let both = word_split l.before (child l.last ∷ []) w (subst (λ (x : List Part). IsWord x w) l.is d) in
    subst EndsWithNode (sym both.is) (ends_after both.left both.right (only_child l.last (child l.last ∷ []) both.right both.right_is refl))

ends_word : (ps : List Part) (w : List Letter) → IsWord ps w → (b : Bool) (u : List Letter) → ends_with_child ps b ≡ true → (b ≡ true → EndsWithNode u) → EndsWithNode (u ++ w)
ends_word _ _ nothing b u h known = subst EndsWithNode (sym (append-nil u)) (known h)
ends_word _ _ (token_is x ps w d) b u h known = subst EndsWithNode (append_assoc u (own x ∷ []) w) (ends_word ps w d false (u ++ own x ∷ []) h (λ no'. absurd (cc)))
ends_word _ _ (name_is ps w d) b u h known = subst EndsWithNode (append_assoc u (named ∷ []) w) (ends_word ps w d false (u ++ named ∷ []) h (λ no'. absurd (cc)))
ends_word _ _ (value_is xs x ps w e d) b u h known = subst EndsWithNode (append_assoc u (valued x ∷ []) w) (ends_word ps w d false (u ++ valued x ∷ []) h (λ no'. absurd (cc)))
ends_word _ _ (child_is c kind ps w e d) b u h known = subst EndsWithNode (append_assoc u (node kind ∷ []) w) (ends_word ps w d true (u ++ node kind ∷ []) h (λ yes'. record { front = u; kind = kind; is = refl }))
ends_word _ w (no_more g ps _ d) b u h known = ends_word ps w d (b && last_is_child (parts_of g)) u h (λ both. known (and_left b (last_is_child (parts_of g)) both))
ends_word _ w (one_more g ps x y _ first d is) b u h known =
    subst EndsWithNode (append_assoc u x y ∙ ap (λ (z : List Letter). u ++ z) (sym is))
    (by (last_is_child (parts_of g)) refl (λ b' h' known'. ends_word (many g ∷ ps) y d b' (u ++ x) h' known'))
  where
    by : (l : Bool) → last_is_child (parts_of g) ≡ l → ((b' : Bool) → ends_with_child (many g ∷ ps) b' ≡ true → (b' ≡ true → EndsWithNode (u ++ x)) → EndsWithNode ((u ++ x) ++ y)) → EndsWithNode ((u ++ x) ++ y)
    by true l again = again b h (λ yes'. ends_after u x (last_word (parts_of g) x l first))
    by false l again =
        again false (let h' : ends_with_child ps false ≡ true = subst (λ (z : Bool). ends_with_child ps z ≡ true) (ap (λ (z : Bool). b && z) l ∙ and-false b) h in h') (λ no'. absurd (cc))
ends_word _ w (without g ps _ d) b u h known = ends_word ps w d false u h (λ no'. absurd (cc))
ends_word _ w (with_one g ps x y _ first d is) b u h known = subst EndsWithNode (append_assoc u x y ∙ ap (λ (z : List Letter). u ++ z) (sym is)) (ends_word ps y d false (u ++ x) h (λ no'. absurd (cc)))

-- the tokens at the end, apart
record IsCut (ps : List Part) (c : Cut) : Type 0 where
  is : ps ≡ c.whole ++ c.rest
  plain : all_plain c.rest ≡ true

under_cut : (p : Part) (whole rest ps : List Part) → ps ≡ whole ++ rest → all_plain rest ≡ true → IsCut (p ∷ ps) (cut_under p whole rest)
under_cut (token x) [] rest ps is plain = record { is = ap (λ (y : List Part). token x ∷ y) is; plain = plain }
under_cut (token x) (q ∷ whole) rest ps is plain = record { is = ap (λ (y : List Part). token x ∷ y) is; plain = plain }
under_cut name whole rest ps is plain = record { is = ap (λ (y : List Part). name ∷ y) is; plain = plain }
under_cut (value xs) whole rest ps is plain = record { is = ap (λ (y : List Part). value xs ∷ y) is; plain = plain }
under_cut (child c) whole rest ps is plain = record { is = ap (λ (y : List Part). child c ∷ y) is; plain = plain }
under_cut (many g) whole rest ps is plain = record { is = ap (λ (y : List Part). many g ∷ y) is; plain = plain }
under_cut (maybe g) whole rest ps is plain = record { is = ap (λ (y : List Part). maybe g ∷ y) is; plain = plain }

cut_is : (ps : List Part) → IsCut ps (cut ps)
cut_is [] = record { is = refl; plain = refl }
cut_is (p ∷ ps) = let r = cut_is ps in under_cut p (cut ps).whole (cut ps).rest ps r.is r.plain

close_after : (t : Text) (at : ℕ) (b c : Built) (os : List Begun) (a outer : List Part) (rest_forms made : List (List Part)) (p : List Letter) (rest words : List (List Letter)) (e : Cut) (test : Bool)
    → IsCut a e → (is_whole k.Restrict e.whole && ends_with_child e.whole false) ≡ test → cond test (Some ((outer ++ child (one k.Restrict) ∷ e.rest) ∷ rest_forms)) None ≡ Some made
    → closing t k.Restrict (at - 1) b os ≡ Some c → Matches (a ∷ outer ∷ rest_forms) p rest words → IsStack t b.nodes b.tops os words at → IsShaped t b.nodes → IsActed t made p rest at c
close_after t at b c os a outer rest_forms made p rest words e false cut' is_it made_is built known stack shaped = absurd (cc)
close_after t at b c [] a outer rest_forms made p rest words e true cut' is_it made_is built known stack shaped = absurd (cc)
close_after t at b c (o ∷ os) a outer rest_forms made p rest words e true cut' is_it made_is built known stack shaped =
    let both = word_split e.whole e.rest known.0 (subst (λ (x : List Part). IsWord x known.0) cut'.is known.2) in
    let stack' = subst (λ (x : List Letter). IsStack t b.nodes b.tops (o ∷ os) (x ∷ known.1) at) both.is (subst (λ (x : List (List Letter)). IsStack t b.nodes b.tops (o ∷ os) x at) known.3 stack) in
    let n = ends_word e.whole both.left both.left_is false [] (and_right (is_whole k.Restrict e.whole) (ends_with_child e.whole false) is_it) (λ no'. absurd (cc)) in
    subst (λ (m : List (List Part)). IsActed t m p rest at c) (same_Some ((outer ++ child (one k.Restrict) ∷ e.rest) ∷ rest_forms) made made_is)
    (close_as t at b c o os k.Restrict (at - 1) e.whole e.rest outer rest_forms p rest both.left both.right known.1 (and_left (is_whole k.Restrict e.whole) (ends_with_child e.whole false) is_it) cut'.plain both.left_is both.right_is known.4 stack' shaped
    (λ mid vs less inner after.
    let it = end_of t b.nodes o.first mid n.kind n.front [] (drop o.height b.tops) o.names vs refl (subst (λ (x : List Letter). Spelled t b.nodes o.first x (drop o.height b.tops) o.names vs mid) n.is inner) in
    let l = last_of t b.nodes (drop o.height b.tops) it.cs it.number it.children_are in
    let here : mid ≡ it.child.last + 1 = no_letters t b.nodes (it.child.last + 1) mid it.after in
    let same : end_in b.nodes (slice_get (drop o.height b.tops) (length (drop o.height b.tops) - 1)) (at - 1) ≡ it.child.last = rw (l.got, it.got) refl in
    ap (λ (x : ℕ). x + 1) same ∙ sym here)
    built)

pub act_close_restrict : (t : Text) (at : ℕ) (b c : Built) (a outer : List Part) (rest_forms made : List (List Part)) (p : List Letter) (rest words : List (List Letter)) → closed_after a outer rest_forms (cut a) ≡ Some made → closing t k.Restrict (at - 1) b b.begun ≡ Some c → Matches (a ∷ outer ∷ rest_forms) p rest words → IsStack t b.nodes b.tops b.begun words at → IsShaped t b.nodes → IsActed t made p rest at c
act_close_restrict t at b c a outer rest_forms made p rest words is built known stack shaped = go (is_childless a) refl is
  where
    go : (test : Bool) → is_childless a ≡ test → cond test (closed k.Restrict a outer rest_forms) (cond (is_whole k.Restrict (cut a).whole && ends_with_child (cut a).whole false) (Some ((outer ++ child (one k.Restrict) ∷ (cut a).rest) ∷ rest_forms)) None) ≡ Some made → IsActed t made p rest at c
    go true none is =
        close_plain t at b c b.begun k.Restrict a outer rest_forms made p rest words (is_whole k.Restrict a) refl is
        (λ o vs w d e. ap (λ (cs : List ℕ). last_token_of k.Restrict b.nodes cs (at - 1)) (childless_spelled t b.nodes o.first at w (drop o.height b.tops) o.names vs (childless_word a w none d) e))
        built known stack shaped
    go false some is =
        close_after t at b c b.begun a outer rest_forms made p rest words (cut a) (is_whole k.Restrict (cut a).whole && ends_with_child (cut a).whole false) (cut_is a) refl is built known stack shaped

-- without a value
abbrev is_no_value : Letter → Bool
is_no_value (valued x) = false
is_no_value _ = true

all_join : (v w : List Letter) → list_all is_no_value v ≡ true → list_all is_no_value w ≡ true → list_all is_no_value (v ++ w) ≡ true
all_join [] w h e = e
all_join (x ∷ v) w h e = and_from (is_no_value x) (list_all is_no_value (v ++ w)) (and_left (is_no_value x) (list_all is_no_value v) h) (all_join v w (and_right (is_no_value x) (list_all is_no_value v) h) e)

flat_silent : (ps : List Part) (w : List Letter) → list_all is_silent_part ps ≡ true → IsWord ps w → list_all is_no_value w ≡ true
flat_silent _ _ h nothing = refl
flat_silent _ _ h (token_is x ps w d) = flat_silent ps w h d
flat_silent _ _ h (name_is ps w d) = flat_silent ps w h d
flat_silent _ _ h (value_is xs x ps w e d) = absurd (cc)
flat_silent _ _ h (child_is c kind ps w e d) = flat_silent ps w h d
flat_silent _ _ h (no_more g ps w d) = absurd (cc)
flat_silent _ _ h (one_more g ps a b w first d is) = absurd (cc)
flat_silent _ _ h (without g ps w d) = absurd (cc)
flat_silent _ _ h (with_one g ps a b w first d is) = absurd (cc)

silent_word : (ps : List Part) (w : List Letter) → is_silent ps ≡ true → IsWord ps w → list_all is_no_value w ≡ true
silent_word _ _ h nothing = refl
silent_word _ _ h (token_is x ps w d) = silent_word ps w h d
silent_word _ _ h (name_is ps w d) = silent_word ps w h d
silent_word _ _ h (value_is xs x ps w e d) = absurd (cc)
silent_word _ _ h (child_is c kind ps w e d) = silent_word ps w h d
silent_word _ w h (no_more g ps _ d) = silent_word ps w (and_right (list_all is_silent_part (parts_of g)) (is_silent ps) h) d
silent_word _ w h (one_more g ps a b _ first d is) =
    subst (λ (x : List Letter). list_all is_no_value x ≡ true) (sym is) (all_join a b (flat_silent (parts_of g) a (and_left (list_all is_silent_part (parts_of g)) (is_silent ps) h) first) (silent_word (many g ∷ ps) b h d))
silent_word _ _ h (without g ps w d) = absurd (cc)
silent_word _ _ h (with_one g ps a b w first d is) = absurd (cc)

silent_spelled : (t : Text) (nodes : List Node) (at to : ℕ) (w : List Letter) (cs ns vs : List ℕ) → list_all is_no_value w ≡ true → Spelled t nodes at w cs ns vs to → vs ≡ []
silent_spelled t nodes at _ _ _ _ _ h (ended _) = refl
silent_spelled t nodes at to _ cs ns vs h (own_token x _ w _ _ _ _ is d) = silent_spelled t nodes (at + 1) to w cs ns vs h d
silent_spelled t nodes at to _ cs _ vs h (a_name _ w _ ns _ _ is d) = silent_spelled t nodes (at + 1) to w cs ns vs h d
silent_spelled t nodes at to _ cs ns _ h (a_value x _ w _ _ vs _ is d) = absurd (cc)
silent_spelled t nodes _ to _ _ ns vs h (a_child c n w cs _ _ _ is d) = silent_spelled t nodes (n.last + 1) to w cs ns vs h d

give_as : (t : Text) (at : ℕ) (b c : Built) (os : List Begun) (a outer : List Part) (rest_forms made : List (List Part)) (p : List Letter) (rest words : List (List Letter)) (test : Bool) → is_silent a ≡ test → cond test (Some ((outer ++ a) ∷ rest_forms)) None ≡ Some made → giving b os ≡ Some c → Matches (a ∷ outer ∷ rest_forms) p rest words → IsStack t b.nodes b.tops os words at → IsShaped t b.nodes → IsActed t made p rest at c
give_as t at b c os a outer rest_forms made p rest words false is_it made_is built known stack shaped = absurd (cc)
give_as t at b c [] a outer rest_forms made p rest words true is_it made_is built known stack shaped = absurd (cc)
give_as t at b c (o ∷ []) a outer rest_forms made p rest words true is_it made_is built known stack shaped = absurd (cc)
give_as t at b c (o ∷ q ∷ os) a outer rest_forms made p rest words true is_it made_is built known stack shaped =
    let v = top outer rest_forms p rest known.1 known.4 in
    let stack' = subst (λ (x : List (List Letter)). IsStack t b.nodes b.tops (o ∷ q ∷ os) (known.0 ∷ x) at) v.is (subst (λ (x : List (List Letter)). IsStack t b.nodes b.tops (o ∷ q ∷ os) x at) known.3 stack) in
    let g = give_node t b.nodes b.tops o q os known.0 (v.front ++ v.word) v.others at (λ vs d. silent_spelled t b.nodes o.first at known.0 (drop o.height b.tops) o.names vs (silent_word a known.0 is_it known.2) d) stack' in
    let both : Begun = record { first = q.first; mark = q.mark; height = q.height; names = q.names ++ o.names; value = q.value } in
    let new : Built = record { nodes = b.nodes; tops = b.tops; begun = both ∷ os } in
    subst (λ (x : Built). IsActed t made p rest at x) (same_Some new c built)
    (subst (λ (m : List (List Part)). IsActed t m p rest at new) (same_Some ((outer ++ a) ∷ rest_forms) made made_is)
    (record {
      words = (v.front ++ (v.word ++ known.0)) ∷ v.others;
      matches = v.again (outer ++ a) (v.word ++ known.0) (word_append outer a v.word known.0 v.is_word known.2);
      stack = subst (λ (x : List Letter). IsStack t b.nodes b.tops (both ∷ os) (x ∷ v.others) at) (append_assoc v.front v.word known.0) g;
      shaped = shaped;
    }))

pub act_give : (t : Text) (at : ℕ) (b c : Built) (a outer : List Part) (rest_forms made : List (List Part)) (p : List Letter) (rest words : List (List Letter)) → given a outer rest_forms ≡ Some made → giving b b.begun ≡ Some c → Matches (a ∷ outer ∷ rest_forms) p rest words → IsStack t b.nodes b.tops b.begun words at → IsShaped t b.nodes → IsActed t made p rest at c
act_give t at b c a outer rest_forms made p rest words is built known stack shaped = give_as t at b c b.begun a outer rest_forms made p rest words (is_silent a) refl is built known stack shaped
