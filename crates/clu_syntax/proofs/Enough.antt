-- A node of the grammar has as many children and names as its kind wants.
use Rattle.std.proofs.Common.{◌≡◌, ◌∙◌, ℕ, suc, ◌+◌, ◌≤◌, ◌&&◌, Bool, true, List, [], ◌∷◌, ◌++◌, length, nat_le, Some, slice_get, refl, ap, sym, subst, inl, inr, arith, leb-true}
use Rattle.std.proofs.lemmas.Bool.{and_parts}
use Rattle.std.proofs.lemmas.List.{length-append}
use Rattle.clu_tree.specs.declared.node.Node.{Node}
use Rattle.clu_tree.specs.declared.node.NodeKind.{NodeKind}
use Rattle.clu_tree.specs.declared.node.NodeKind.TheVariants as k
use Rattle.clu_parser.specs.Shape.{Part, token, name, value, child, many, maybe, Letter, own, named, valued, node, IsWord, nothing, token_is, name_is, value_is, child_is, no_more, one_more, without, with_one, IsFormOf, forms, kinds_in, names_in, HaveKinds, HasForm, HaveForms}
use Rattle.clu_syntax.specs.Enough.{HasEnough, least_children, least_names}

-- how many children and names a form has at least
children_in : List Part → ℕ
children_in [] = 0
children_in (child c ∷ ps) = children_in ps + 1
children_in (_ ∷ ps) = children_in ps

names_of : List Part → ℕ
names_of [] = 0
names_of (name ∷ ps) = names_of ps + 1
names_of (_ ∷ ps) = names_of ps

pub kinds_append : (v w : List Letter) → kinds_in (v ++ w) ≡ kinds_in v ++ kinds_in w
kinds_append [] w = refl
kinds_append (own x ∷ v) w = kinds_append v w
kinds_append (named ∷ v) w = kinds_append v w
kinds_append (valued x ∷ v) w = kinds_append v w
kinds_append (node kind ∷ v) w = ap (λ ks. kind ∷ ks) (kinds_append v w)

names_append : (v w : List Letter) → names_in (v ++ w) ≡ names_in v + names_in w
names_append [] w = omega arith
names_append (own x ∷ v) w = names_append v w
names_append (named ∷ v) w = omega (arith, names_append v w)
names_append (valued x ∷ v) w = names_append v w
names_append (node kind ∷ v) w = names_append v w

children_grow : (n : ℕ) (v w u : List Letter) → u ≡ v ++ w → n ≤ length (kinds_in w) → n ≤ length (kinds_in u)
children_grow n v w u e h = omega (arith, ap (λ x. length (kinds_in x)) e, ap length (kinds_append v w), length-append (kinds_in v) (kinds_in w), h)

names_grow : (n : ℕ) (v w u : List Letter) → u ≡ v ++ w → n ≤ names_in w → n ≤ names_in u
names_grow n v w u e h = omega (arith, ap names_in e, names_append v w, h)

enough_children : (form : List Part) (w : List Letter) → IsWord form w → children_in form ≤ length (kinds_in w)
unfolding children_in
enough_children _ _ nothing = omega arith
enough_children _ _ (token_is x ps w d) = enough_children ps w d
enough_children _ _ (name_is ps w d) = enough_children ps w d
enough_children _ _ (value_is xs x ps w h d) = enough_children ps w d
enough_children _ _ (child_is c kind ps w h d) = omega (arith, enough_children ps w d)
enough_children _ _ (no_more g ps w d) = enough_children ps w d
enough_children _ _ (one_more g ps v w u dv dw e) = children_grow (children_in ps) v w u e (enough_children (many g ∷ ps) w dw)
enough_children _ _ (without g ps w d) = enough_children ps w d
enough_children _ _ (with_one g ps v w u dv dw e) = children_grow (children_in ps) v w u e (enough_children ps w dw)

enough_names : (form : List Part) (w : List Letter) → IsWord form w → names_of form ≤ names_in w
unfolding names_of
enough_names _ _ nothing = omega arith
enough_names _ _ (token_is x ps w d) = enough_names ps w d
enough_names _ _ (name_is ps w d) = omega (arith, enough_names ps w d)
enough_names _ _ (value_is xs x ps w h d) = enough_names ps w d
enough_names _ _ (child_is c kind ps w h d) = enough_names ps w d
enough_names _ _ (no_more g ps w d) = enough_names ps w d
enough_names _ _ (one_more g ps v w u dv dw e) = names_grow (names_of ps) v w u e (enough_names (many g ∷ ps) w dw)
enough_names _ _ (without g ps w d) = enough_names ps w d
enough_names _ _ (with_one g ps v w u dv dw e) = names_grow (names_of ps) v w u e (enough_names ps w dw)

-- each of the forms has so many
all_enough : ℕ → ℕ → List (List Part) → Bool
all_enough children names [] = true
all_enough children names (form ∷ fs) = nat_le children (children_in form) && nat_le names (names_of form) && all_enough children names fs

tested : (kind : NodeKind) → all_enough (least_children kind) (least_names kind) (forms kind) ≡ true
unfolding all_enough children_in names_of
tested k.File = refl
tested _ = refl

one_enough : (children names : ℕ) (form : List Part) (fs : List (List Part)) → IsFormOf form fs → all_enough children names fs ≡ true → (children ≤ children_in form) × (names ≤ names_of form)
unfolding all_enough
one_enough children names form [] at h = absurd at
one_enough children names form (f ∷ fs) (inl e) h =
    let parts = and_parts (nat_le children (children_in f) && nat_le names (names_of f)) (all_enough children names fs) h in
    let counts = and_parts (nat_le children (children_in f)) (nat_le names (names_of f)) parts.0 in
    subst (λ (g : List Part). (children ≤ children_in g) × (names ≤ names_of g)) (sym e) (leb-true children (children_in f) counts.0, leb-true names (names_of f) counts.1)
one_enough children names form (f ∷ fs) (inr more) h =
    one_enough children names form fs more (and_parts (nat_le children (children_in f) && nat_le names (names_of f)) (all_enough children names fs) h).1

kinds_length : (nodes : List Node) (cs : List ℕ) (kinds : List NodeKind) → HaveKinds nodes cs kinds → length cs ≡ length kinds
kinds_length nodes [] [] h = refl
kinds_length nodes [] (kind ∷ kinds) h = absurd h
kinds_length nodes (c ∷ cs) [] h = absurd h
kinds_length nodes (c ∷ cs) (kind ∷ kinds) h = ap suc (kinds_length nodes cs kinds h.3)

has_enough : (nodes : List Node) (n : Node) → HasForm nodes n → HasEnough n
has_enough nodes n f =
    let least = one_enough (least_children n.kind) (least_names n.kind) f.form (forms n.kind) f.of_kind (tested n.kind) in
    let children : children_in f.form ≤ length (kinds_in f.word) = enough_children f.form f.word f.is_word in
    let names : names_of f.form ≤ names_in f.word = enough_names f.form f.word f.is_word in
    let same : length n.children ≡ length (kinds_in f.word) = kinds_length nodes n.children (kinds_in f.word) f.children_are in
    record { children = omega (arith, least.0, children, same); names = omega (arith, least.1, names, f.names_are) }

pub enough : (nodes : List Node) → HaveForms nodes → (i : ℕ) (n : Node) → slice_get nodes i ≡ Some n → HasEnough n
enough nodes forms_are i n at = has_enough nodes n (forms_are i n at)
