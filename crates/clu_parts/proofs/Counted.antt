-- How many names and values a node has, by the form that it is of.
use Rattle.std.proofs.Common.{◌≡◌, ◌∙◌, ℕ, zero, suc, ◌+◌, ◌&&◌, Bool, true, false, List, [], ◌∷◌, ◌++◌, length, Some, None, refl, ap, sym, subst, arith}
use Rattle.std.proofs.lemmas.Bool.{true≢false, and_parts}
use Rattle.clu_lexer.specs.declared.symbols.Symbol.{Symbol}
use Rattle.clu_tree.specs.declared.node.Node.{Node}
use Rattle.clu_parser.specs.Shape.{Part, parts_of, token, name, value, child, many, maybe, Letter, own, named, valued, node, IsWord, nothing, token_is, name_is, value_is, child_is, no_more, one_more, without, with_one, names_in, values_in, HasValue}

-- the form holds no name, and no value
abbrev pub is_unnamed : ℕ → List Part → Bool
is_unnamed steps [] = true
is_unnamed steps (token x ∷ ps) = is_unnamed steps ps
is_unnamed steps (name ∷ ps) = false
is_unnamed steps (value xs ∷ ps) = is_unnamed steps ps
is_unnamed steps (child c ∷ ps) = is_unnamed steps ps
is_unnamed zero (many g ∷ ps) = false
is_unnamed zero (maybe g ∷ ps) = false
is_unnamed (suc steps) (many g ∷ ps) = is_unnamed steps (parts_of g) && is_unnamed (suc steps) ps
is_unnamed (suc steps) (maybe g ∷ ps) = is_unnamed steps (parts_of g) && is_unnamed (suc steps) ps

abbrev pub is_unvalued : ℕ → List Part → Bool
is_unvalued steps [] = true
is_unvalued steps (token x ∷ ps) = is_unvalued steps ps
is_unvalued steps (name ∷ ps) = is_unvalued steps ps
is_unvalued steps (value xs ∷ ps) = false
is_unvalued steps (child c ∷ ps) = is_unvalued steps ps
is_unvalued zero (many g ∷ ps) = false
is_unvalued zero (maybe g ∷ ps) = false
is_unvalued (suc steps) (many g ∷ ps) = is_unvalued steps (parts_of g) && is_unvalued (suc steps) ps
is_unvalued (suc steps) (maybe g ∷ ps) = is_unvalued steps (parts_of g) && is_unvalued (suc steps) ps

-- a value stands in it
abbrev pub is_valued : List Part → Bool
is_valued [] = false
is_valued (value xs ∷ ps) = true
is_valued (token x ∷ ps) = is_valued ps
is_valued (name ∷ ps) = is_valued ps
is_valued (child c ∷ ps) = is_valued ps
is_valued (many g ∷ ps) = is_valued ps
is_valued (maybe g ∷ ps) = is_valued ps

names_append : (v w : List Letter) → names_in (v ++ w) ≡ names_in v + names_in w
names_append [] w = omega arith
names_append (own x ∷ v) w = names_append v w
names_append (named ∷ v) w = omega (arith, names_append v w)
names_append (valued x ∷ v) w = names_append v w
names_append (node kind ∷ v) w = names_append v w

values_append : (v w : List Letter) → values_in (v ++ w) ≡ values_in v ++ values_in w
values_append [] w = refl
values_append (own x ∷ v) w = values_append v w
values_append (named ∷ v) w = values_append v w
values_append (valued x ∷ v) w = ap (λ (xs : List Symbol). x ∷ xs) (values_append v w)
values_append (node kind ∷ v) w = values_append v w

no_names_in : (v w u : List Letter) → u ≡ v ++ w → names_in v ≡ 0 → names_in w ≡ 0 → names_in u ≡ 0
no_names_in v w u e a b = omega (arith, ap names_in e, names_append v w, a, b)

pub no_names : (steps : ℕ) (ps : List Part) (w : List Letter) → IsWord ps w → is_unnamed steps ps ≡ true → names_in w ≡ 0
no_names steps _ _ nothing h = refl
no_names steps _ _ (token_is x ps w d) h = no_names steps ps w d h
no_names steps _ _ (name_is ps w d) h = absurd (true≢false (sym h))
no_names steps _ _ (value_is xs x ps w has d) h = no_names steps ps w d h
no_names steps _ _ (child_is c k ps w is d) h = no_names steps ps w d h
no_names zero _ _ (no_more g ps w d) h = absurd (true≢false (sym h))
no_names zero _ _ (one_more g ps v w u dv dw e) h = absurd (true≢false (sym h))
no_names zero _ _ (without g ps w d) h = absurd (true≢false (sym h))
no_names zero _ _ (with_one g ps v w u dv dw e) h = absurd (true≢false (sym h))
no_names (suc steps) _ _ (no_more g ps w d) h = no_names (suc steps) ps w d (and_parts (is_unnamed steps (parts_of g)) (is_unnamed (suc steps) ps) h).1
no_names (suc steps) _ _ (one_more g ps v w u dv dw e) h =
    no_names_in v w u e (no_names steps (parts_of g) v dv (and_parts (is_unnamed steps (parts_of g)) (is_unnamed (suc steps) ps) h).0) (no_names (suc steps) (many g ∷ ps) w dw h)
no_names (suc steps) _ _ (without g ps w d) h = no_names (suc steps) ps w d (and_parts (is_unnamed steps (parts_of g)) (is_unnamed (suc steps) ps) h).1
no_names (suc steps) _ _ (with_one g ps v w u dv dw e) h =
    let both = and_parts (is_unnamed steps (parts_of g)) (is_unnamed (suc steps) ps) h in
    no_names_in v w u e (no_names steps (parts_of g) v dv both.0) (no_names (suc steps) ps w dw both.1)

no_values_in : (v w u : List Letter) → u ≡ v ++ w → values_in v ≡ [] → values_in w ≡ [] → values_in u ≡ []
no_values_in v w u e a b = ap values_in e ∙ values_append v w ∙ ap (λ (xs : List Symbol). xs ++ values_in w) a ∙ b

pub no_values : (steps : ℕ) (ps : List Part) (w : List Letter) → IsWord ps w → is_unvalued steps ps ≡ true → values_in w ≡ []
no_values steps _ _ nothing h = refl
no_values steps _ _ (token_is x ps w d) h = no_values steps ps w d h
no_values steps _ _ (name_is ps w d) h = no_values steps ps w d h
no_values steps _ _ (value_is xs x ps w has d) h = absurd (true≢false (sym h))
no_values steps _ _ (child_is c k ps w is d) h = no_values steps ps w d h
no_values zero _ _ (no_more g ps w d) h = absurd (true≢false (sym h))
no_values zero _ _ (one_more g ps v w u dv dw e) h = absurd (true≢false (sym h))
no_values zero _ _ (without g ps w d) h = absurd (true≢false (sym h))
no_values zero _ _ (with_one g ps v w u dv dw e) h = absurd (true≢false (sym h))
no_values (suc steps) _ _ (no_more g ps w d) h = no_values (suc steps) ps w d (and_parts (is_unvalued steps (parts_of g)) (is_unvalued (suc steps) ps) h).1
no_values (suc steps) _ _ (one_more g ps v w u dv dw e) h =
    no_values_in v w u e (no_values steps (parts_of g) v dv (and_parts (is_unvalued steps (parts_of g)) (is_unvalued (suc steps) ps) h).0) (no_values (suc steps) (many g ∷ ps) w dw h)
no_values (suc steps) _ _ (without g ps w d) h = no_values (suc steps) ps w d (and_parts (is_unvalued steps (parts_of g)) (is_unvalued (suc steps) ps) h).1
no_values (suc steps) _ _ (with_one g ps v w u dv dw e) h =
    let both = and_parts (is_unvalued steps (parts_of g)) (is_unvalued (suc steps) ps) h in
    no_values_in v w u e (no_values steps (parts_of g) v dv both.0) (no_values (suc steps) ps w dw both.1)

-- some symbol is there
abbrev pub IsSome : List Symbol → Type 0
IsSome [] = ⊥
IsSome (x ∷ xs) = Unit {0}

some_behind : (xs ys zs : List Symbol) → zs ≡ xs ++ ys → IsSome ys → IsSome zs
some_behind [] ys zs e s = subst IsSome (sym e) s
some_behind (x ∷ xs) ys zs e s = subst IsSome (sym e) tt

pub some_value : (ps : List Part) (w : List Letter) → IsWord ps w → is_valued ps ≡ true → IsSome (values_in w)
some_value _ _ nothing h = absurd (true≢false (sym h))
some_value _ _ (token_is x ps w d) h = some_value ps w d h
some_value _ _ (name_is ps w d) h = some_value ps w d h
some_value _ _ (value_is xs x ps w has d) h = tt
some_value _ _ (child_is c k ps w is d) h = some_value ps w d h
some_value _ _ (no_more g ps w d) h = some_value ps w d h
some_value _ _ (one_more g ps v w u dv dw e) h = some_behind (values_in v) (values_in w) (values_in u) (ap values_in e ∙ values_append v w) (some_value (many g ∷ ps) w dw h)
some_value _ _ (without g ps w d) h = some_value ps w d h
some_value _ _ (with_one g ps v w u dv dw e) h = some_behind (values_in v) (values_in w) (values_in u) (ap values_in e ∙ values_append v w) (some_value ps w dw h)

-- ---- of a node: no name, a first name, no value, a value

pub unnamed : {A : Type 0} (names : List A) (m : ℕ) → length names ≡ m → m ≡ 0 → names ≡ []
unnamed [] m e z = refl
unnamed (x ∷ names) m e z = absurd (omega (arith, e, z))

pub record FirstName (names : List (List ℕ)) : Type 0 where
  pub first : List ℕ
  pub others : List (List ℕ)
  pub is : names ≡ first ∷ others

pub first_named : (names : List (List ℕ)) (m : ℕ) → length names ≡ m + 1 → FirstName names
first_named [] m e = absurd (omega (arith, e))
first_named (x ∷ names) m e = record { first = x; others = names; is = refl }

pub no_value : (n : Node) (xs : List Symbol) → HasValue n xs → xs ≡ [] → n.value_token ≡ None
no_value n xs h e = (subst (HasValue n) e h).0

pub value_there : (n : Node) (xs : List Symbol) → HasValue n xs → IsSome xs → (at : ℕ) × (n.value_token ≡ Some at)
value_there n [] h s = absurd s
value_there n (x ∷ []) h s = (h.0, h.1)
value_there n (x ∷ y ∷ xs) h s = value_there n (y ∷ xs) h tt
