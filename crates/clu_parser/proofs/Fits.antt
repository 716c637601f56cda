-- Whether each word of one form is a word of another, as a test.
use Rattle.std.proofs.Common.{◌≡◌, ℕ, zero, suc, ◌&&◌, ◌||◌, ◌==◌, Bool, true, false, List, [], ◌∷◌, ◌++◌, Some, slice_get, eqb-true, refl, sym, ap, ◌∙◌, subst, inl, inr, rules}
use Rattle.std.specs.List.{list_all}
use Rattle.clu_lexer.specs.declared.symbols.Symbol.{Symbol}
use Rattle.clu_lexer.specs.contracts.symbols.Symbol.{the_type}
use Rattle.clu_tree.specs.declared.node.NodeKind.{NodeKind}
use Rattle.clu_tree.specs.contracts.node.NodeKind.{the_type as kind_type}
use Rattle.clu_grammar.specs.Choice.{has}
use Rattle.clu_grammar.proofs.Flags.{and_left, and_right}
use Rattle.clu_grammar.specs.Kinds.{is_expression, is_type}
use Rattle.clu_parser.specs.Shape.{Child, expression, any_type, constant, statement, one, is_child, Group, semicolon, more_names, more_types, types, types_in_parens, more_constants, actuals, more_expressions, expressions, expressions_in_parens, more_modules, equates, owns, statements, more_routines, parms, more_parms, decls, more_decls, decls_in_parens, results, signals, demands, more_exceptions, more_restricts, more_opers, more_fields, more_components, elseifs, more_arms, whens, others, variable, Part, token, name, value, child, many, maybe, parts_of, Letter, own, IsWord, nothing, token_is, name_is, value_is, child_is, no_more, one_more, without, with_one}
use Rattle.clu_parser.proofs.Words.{word_split}
use denote.Enum.Bare.{sameb, same_true}
use Rattle.std.proofs.lemmas.Bool.{or_left, or_right, or_cases, cases_Bool}
use Rattle.std.proofs.lemmas.Option.{same_Some}

-- groups by number
abbrev number : Group → ℕ
number semicolon = 0
number more_names = 1
number more_types = 2
number types = 3
number types_in_parens = 4
number more_constants = 5
number actuals = 6
number more_expressions = 7
number expressions = 8
number expressions_in_parens = 9
number more_modules = 10
number equates = 11
number owns = 12
number statements = 13
number more_routines = 14
number parms = 15
number more_parms = 16
number decls = 17
number more_decls = 18
number decls_in_parens = 19
number results = 20
number signals = 21
number demands = 22
number more_exceptions = 23
number more_restricts = 24
number more_opers = 25
number more_fields = 26
number more_components = 27
number elseifs = 28
number more_arms = 29
number whens = 30
number others = 31
number variable = 32

abbrev groups : List Group
groups = semicolon ∷ more_names ∷ more_types ∷ types ∷ types_in_parens ∷ more_constants ∷ actuals ∷ more_expressions ∷ expressions ∷ expressions_in_parens ∷ more_modules ∷ equates ∷ owns ∷ statements ∷ more_routines ∷ parms ∷ more_parms ∷ decls ∷ more_decls ∷ decls_in_parens ∷ results ∷ signals ∷ demands ∷ more_exceptions ∷ more_restricts ∷ more_opers ∷ more_fields ∷ more_components ∷ elseifs ∷ more_arms ∷ whens ∷ others ∷ variable ∷ []

place_of : (g : Group) → slice_get groups (number g) ≡ Some g
place_of semicolon = refl
place_of _ = refl

abbrev same_group : Group → Group → Bool
same_group g h = number g == number h

same_group_is : (g h : Group) → same_group g h ≡ true → g ≡ h
same_group_is g h e =
    let same : number g ≡ number h = eqb-true (number g) (number h) e in
    same_Some g h (sym (place_of g) ∙ ap (slice_get groups) same ∙ place_of h)

-- each node of the one kind of children is one of the other
abbrev is_within : Child → Child → Bool
is_within (one kind) d = is_child d kind
is_within expression expression = true
is_within expression constant = true
is_within any_type any_type = true
is_within any_type constant = true
is_within constant constant = true
is_within statement statement = true
is_within _ _ = false

within_is : (c d : Child) (kind : NodeKind) → is_within c d ≡ true → is_child c kind ≡ true → is_child d kind ≡ true
within_is (one it) d kind h k = subst (λ (x : NodeKind). is_child d x ≡ true) (same_true kind_type (search rules) it kind k) h
within_is expression expression kind h k = k
within_is expression constant kind h k = or_left (is_expression kind) (is_type kind) k
within_is any_type any_type kind h k = k
within_is any_type constant kind h k = or_right (is_expression kind) (is_type kind) k
within_is constant constant kind h k = k
within_is statement statement kind h k = k
within_is _ _ kind h k = absurd (cc)

-- each symbol of the one list is in the other
abbrev all_in : List Symbol → List Symbol → Bool
all_in xs ys = list_all (has ys) xs

has_all : (xs ys : List Symbol) (x : Symbol) → all_in xs ys ≡ true → has xs x ≡ true → has ys x ≡ true
has_all [] ys x h k = absurd (cc)
has_all (y ∷ xs) ys x h k = elim (cases_Bool (sameb the_type y x)) [
  | inl same ↦ subst (λ (z : Symbol). has ys z ≡ true) (same_true the_type (search rules) y x same) (and_left (has ys y) (all_in xs ys) h)
  | inr other ↦ has_all xs ys x (and_right (has ys y) (all_in xs ys) h) (rw other at k)
]

abbrev tail : List Part → List Part
tail [] = []
tail (p ∷ ps) = ps

abbrev is_token : Symbol → List Part → Bool
is_token x [] = false
is_token x (token y ∷ ps) = sameb the_type y x
is_token x (_ ∷ ps) = false

abbrev is_name : List Part → Bool
is_name [] = false
is_name (name ∷ ps) = true
is_name (_ ∷ ps) = false

abbrev is_value : List Symbol → List Part → Bool
is_value xs [] = false
is_value xs (value ys ∷ ps) = all_in ys xs
is_value xs (_ ∷ ps) = false

abbrev is_kid : Child → List Part → Bool
is_kid c [] = false
is_kid c (child d ∷ ps) = is_within d c
is_kid c (_ ∷ ps) = false

abbrev is_many : Group → List Part → Bool
is_many g [] = false
is_many g (many h ∷ ps) = same_group h g
is_many g (_ ∷ ps) = false

abbrev is_maybe : Group → List Part → Bool
is_maybe g [] = false
is_maybe g (maybe h ∷ ps) = same_group h g
is_maybe g (_ ∷ ps) = false

abbrev is_empty : List Part → Bool
is_empty [] = true
is_empty (p ∷ ps) = false

-- with so many steps at most: the words of the first form are words of the second
abbrev pub fits : ℕ → List Part → List Part → Bool
fits zero ps qs = false
fits (suc n) ps [] = is_empty ps
fits (suc n) ps (token x ∷ qs) = let rest : Bool = fits n (tail ps) qs in is_token x ps && rest
fits (suc n) ps (name ∷ qs) = let rest : Bool = fits n (tail ps) qs in is_name ps && rest
fits (suc n) ps (value xs ∷ qs) = let rest : Bool = fits n (tail ps) qs in is_value xs ps && rest
fits (suc n) ps (child c ∷ qs) = let rest : Bool = fits n (tail ps) qs in is_kid c ps && rest
fits (suc n) ps (many g ∷ qs) =
    let rest : Bool = fits n (tail ps) (many g ∷ qs) in
    let same : Bool = (is_many g ps && rest) in
    let inside : Bool = fits n ps (parts_of g ++ many g ∷ qs) in
    let other : Bool = (same || inside) in
    fits n ps qs || other
fits (suc n) ps (maybe g ∷ qs) =
    let rest : Bool = fits n (tail ps) qs in
    let same : Bool = (is_maybe g ps && rest) in
    let inside : Bool = fits n ps (parts_of g ++ qs) in
    let other : Bool = (same || inside) in
    fits n ps qs || other

empty_is : (ps : List Part) → is_empty ps ≡ true → ps ≡ []
empty_is [] h = refl
empty_is (p ∷ ps) h = absurd (cc)

token_head : (x : Symbol) (ps qs : List Part) (w : List Letter) → is_token x ps ≡ true → IsWord ps w → ((v : List Letter) → IsWord (tail ps) v → IsWord qs v) → IsWord (token x ∷ qs) w
token_head x _ qs _ h nothing next = absurd (cc)
token_head x _ qs _ h (token_is y ps v d) next = subst (λ (z : Symbol). IsWord (token z ∷ qs) (own y ∷ v)) (same_true the_type (search rules) y x h) (token_is y qs v (next v d))
token_head x _ qs _ h (name_is _ _ _) next = absurd (cc)
token_head x _ qs _ h (value_is _ _ _ _ _ _) next = absurd (cc)
token_head x _ qs _ h (child_is _ _ _ _ _ _) next = absurd (cc)
token_head x _ qs _ h (no_more _ _ _ _) next = absurd (cc)
token_head x _ qs _ h (one_more _ _ _ _ _ _ _ _) next = absurd (cc)
token_head x _ qs _ h (without _ _ _ _) next = absurd (cc)
token_head x _ qs _ h (with_one _ _ _ _ _ _ _ _) next = absurd (cc)

name_head : (ps qs : List Part) (w : List Letter) → is_name ps ≡ true → IsWord ps w → ((v : List Letter) → IsWord (tail ps) v → IsWord qs v) → IsWord (name ∷ qs) w
name_head _ qs _ h nothing next = absurd (cc)
name_head _ qs _ h (token_is _ _ _ _) next = absurd (cc)
name_head _ qs _ h (name_is ps v d) next = name_is qs v (next v d)
name_head _ qs _ h (value_is _ _ _ _ _ _) next = absurd (cc)
name_head _ qs _ h (child_is _ _ _ _ _ _) next = absurd (cc)
name_head _ qs _ h (no_more _ _ _ _) next = absurd (cc)
name_head _ qs _ h (one_more _ _ _ _ _ _ _ _) next = absurd (cc)
name_head _ qs _ h (without _ _ _ _) next = absurd (cc)
name_head _ qs _ h (with_one _ _ _ _ _ _ _ _) next = absurd (cc)

value_head : (xs : List Symbol) (ps qs : List Part) (w : List Letter) → is_value xs ps ≡ true → IsWord ps w → ((v : List Letter) → IsWord (tail ps) v → IsWord qs v) → IsWord (value xs ∷ qs) w
value_head xs _ qs _ h nothing next = absurd (cc)
value_head xs _ qs _ h (token_is _ _ _ _) next = absurd (cc)
value_head xs _ qs _ h (name_is _ _ _) next = absurd (cc)
value_head xs _ qs _ h (value_is ys x ps v k d) next = value_is xs x qs v (has_all ys xs x h k) (next v d)
value_head xs _ qs _ h (child_is _ _ _ _ _ _) next = absurd (cc)
value_head xs _ qs _ h (no_more _ _ _ _) next = absurd (cc)
value_head xs _ qs _ h (one_more _ _ _ _ _ _ _ _) next = absurd (cc)
value_head xs _ qs _ h (without _ _ _ _) next = absurd (cc)
value_head xs _ qs _ h (with_one _ _ _ _ _ _ _ _) next = absurd (cc)

child_head : (c : Child) (ps qs : List Part) (w : List Letter) → is_kid c ps ≡ true → IsWord ps w → ((v : List Letter) → IsWord (tail ps) v → IsWord qs v) → IsWord (child c ∷ qs) w
child_head c _ qs _ h nothing next = absurd (cc)
child_head c _ qs _ h (token_is _ _ _ _) next = absurd (cc)
child_head c _ qs _ h (name_is _ _ _) next = absurd (cc)
child_head c _ qs _ h (value_is _ _ _ _ _ _) next = absurd (cc)
child_head c _ qs _ h (child_is b kind ps v k d) next = child_is c kind qs v (within_is b c kind h k) (next v d)
child_head c _ qs _ h (no_more _ _ _ _) next = absurd (cc)
child_head c _ qs _ h (one_more _ _ _ _ _ _ _ _) next = absurd (cc)
child_head c _ qs _ h (without _ _ _ _) next = absurd (cc)
child_head c _ qs _ h (with_one _ _ _ _ _ _ _ _) next = absurd (cc)

many_head : (g : Group) (ps qs : List Part) (w : List Letter) → is_many g ps ≡ true → IsWord ps w → ((v : List Letter) → IsWord (tail ps) v → IsWord (many g ∷ qs) v) → IsWord (many g ∷ qs) w
many_head g _ qs _ h nothing next = absurd (cc)
many_head g _ qs _ h (token_is _ _ _ _) next = absurd (cc)
many_head g _ qs _ h (name_is _ _ _) next = absurd (cc)
many_head g _ qs _ h (value_is _ _ _ _ _ _) next = absurd (cc)
many_head g _ qs _ h (child_is _ _ _ _ _ _) next = absurd (cc)
many_head g _ qs _ h (no_more f ps w d) next = next w d
many_head g _ qs _ h (one_more f ps a b w first d is) next = one_more g qs a b w (subst (λ (x : Group). IsWord (parts_of x) a) (same_group_is f g h) first) (many_head g (many f ∷ ps) qs b h d next) is
many_head g _ qs _ h (without _ _ _ _) next = absurd (cc)
many_head g _ qs _ h (with_one _ _ _ _ _ _ _ _) next = absurd (cc)

maybe_head : (g : Group) (ps qs : List Part) (w : List Letter) → is_maybe g ps ≡ true → IsWord ps w → ((v : List Letter) → IsWord (tail ps) v → IsWord qs v) → IsWord (maybe g ∷ qs) w
maybe_head g _ qs _ h nothing next = absurd (cc)
maybe_head g _ qs _ h (token_is _ _ _ _) next = absurd (cc)
maybe_head g _ qs _ h (name_is _ _ _) next = absurd (cc)
maybe_head g _ qs _ h (value_is _ _ _ _ _ _) next = absurd (cc)
maybe_head g _ qs _ h (child_is _ _ _ _ _ _) next = absurd (cc)
maybe_head g _ qs _ h (no_more _ _ _ _) next = absurd (cc)
maybe_head g _ qs _ h (one_more _ _ _ _ _ _ _ _) next = absurd (cc)
maybe_head g _ qs _ h (without f ps w d) next = without g qs w (next w d)
maybe_head g _ qs _ h (with_one f ps a b w first d is) next = with_one g qs a b w (subst (λ (x : Group). IsWord (parts_of x) a) (same_group_is f g h) first) (next b d) is

more_of : (g : Group) (qs : List Part) (w : List Letter) → IsWord (parts_of g ++ many g ∷ qs) w → IsWord (many g ∷ qs) w
more_of g qs w d = let r = word_split (parts_of g) (many g ∷ qs) w d in one_more g qs r.left r.right w r.left_is r.right_is r.is

one_of : (g : Group) (qs : List Part) (w : List Letter) → IsWord (parts_of g ++ qs) w → IsWord (maybe g ∷ qs) w
one_of g qs w d = let r = word_split (parts_of g) qs w d in with_one g qs r.left r.right w r.left_is r.right_is r.is

pub fits_is : (n : ℕ) (ps qs : List Part) (w : List Letter) → fits n ps qs ≡ true → IsWord ps w → IsWord qs w
fits_is zero ps qs w h d = absurd (cc)
fits_is (suc n) ps [] w h d = subst (λ (x : List Part). IsWord x w) (empty_is ps h) d
fits_is (suc n) ps (token x ∷ qs) w h d = token_head x ps qs w (and_left (is_token x ps) (fits n (tail ps) qs) h) d (λ v e. fits_is n (tail ps) qs v (and_right (is_token x ps) (fits n (tail ps) qs) h) e)
fits_is (suc n) ps (name ∷ qs) w h d = name_head ps qs w (and_left (is_name ps) (fits n (tail ps) qs) h) d (λ v e. fits_is n (tail ps) qs v (and_right (is_name ps) (fits n (tail ps) qs) h) e)
fits_is (suc n) ps (value xs ∷ qs) w h d = value_head xs ps qs w (and_left (is_value xs ps) (fits n (tail ps) qs) h) d (λ v e. fits_is n (tail ps) qs v (and_right (is_value xs ps) (fits n (tail ps) qs) h) e)
fits_is (suc n) ps (child c ∷ qs) w h d = child_head c ps qs w (and_left (is_kid c ps) (fits n (tail ps) qs) h) d (λ v e. fits_is n (tail ps) qs v (and_right (is_kid c ps) (fits n (tail ps) qs) h) e)
fits_is (suc n) ps (many g ∷ qs) w h d =
    elim (or_cases (fits n ps qs) ((is_many g ps && fits n (tail ps) (many g ∷ qs)) || fits n ps (parts_of g ++ many g ∷ qs)) h) [
      | inl rest ↦ no_more g qs w (fits_is n ps qs w rest d)
      | inr other ↦ elim (or_cases (is_many g ps && fits n (tail ps) (many g ∷ qs)) (fits n ps (parts_of g ++ many g ∷ qs)) other) [
        | inl same ↦ many_head g ps qs w (and_left (is_many g ps) (fits n (tail ps) (many g ∷ qs)) same) d (λ v e. fits_is n (tail ps) (many g ∷ qs) v (and_right (is_many g ps) (fits n (tail ps) (many g ∷ qs)) same) e)
        | inr inside ↦ more_of g qs w (fits_is n ps (parts_of g ++ many g ∷ qs) w inside d)
      ]
    ]
fits_is (suc n) ps (maybe g ∷ qs) w h d =
    elim (or_cases (fits n ps qs) ((is_maybe g ps && fits n (tail ps) qs) || fits n ps (parts_of g ++ qs)) h) [
      | inl rest ↦ without g qs w (fits_is n ps qs w rest d)
      | inr other ↦ elim (or_cases (is_maybe g ps && fits n (tail ps) qs) (fits n ps (parts_of g ++ qs)) other) [
        | inl same ↦ maybe_head g ps qs w (and_left (is_maybe g ps) (fits n (tail ps) qs) same) d (λ v e. fits_is n (tail ps) qs v (and_right (is_maybe g ps) (fits n (tail ps) qs) same) e)
        | inr inside ↦ one_of g qs w (fits_is n ps (parts_of g ++ qs) w inside d)
      ]
    ]
