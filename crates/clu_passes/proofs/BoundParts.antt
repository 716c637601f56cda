-- The parts of nodes that bind: names or declarations, and values or a call; and lists item by item.
use Rattle.std.proofs.Common.{◌≡◌, ℕ, suc, ◌+◌, Bool, true, false, ◌&&◌, List, [], ◌∷◌, ◌++◌, length, map, replicate, drop, Option, Some, None, refl, sym, ap}
use Rattle.std.proofs.lemmas.Bool.{true≢false}
use Rattle.clu_lexer.specs.declared.symbols.Symbol.{Symbol}
use Rattle.clu_tree.specs.declared.node.Node.{Node}
use Rattle.clu_tree.specs.declared.node.NodeKind.{NodeKind}
use Rattle.clu_tree.specs.declared.node.NodeKind.TheVariants as kind
use Rattle.clu_parser.specs.Shape as shape
use Rattle.clu_parser.specs.Shape.{Part, Letter, IsWord, name_is, value_is, is_child, parts_of, names_in}
use Rattle.clu_syntax.specs.Splits.{child, is_of}
use Rattle.clu_syntax.specs.Syntax.{Identifier, TypeExpression, Expression, a_call, no_expressions, expression_and, Expressions}
use Rattle.clu_syntax.specs.Items.{Item}
use Rattle.clu_syntax.specs.Nodes.{expression_of, elements_of}
use Rattle.clu_parts.specs.Slots.{Slot, just, may_stand, Stand, IsPart}
use Rattle.clu_parts.proofs.Fitting.{on_head, on_end, first_of}
use Rattle.clu_checking.specs.Files.{File}
use Rattle.clu_checking.specs.Typing as typing
use Rattle.clu_checking.specs.Invocations as invoking
use Rattle.clu_checking.specs.StatementRules as statements
use Rattle.clu_checking.specs.StatementRules.{call_results, bound_to, target_types}

-- ---- lists item by item

abbrev pub Each : {A B : Type 0} → (A → B → Type 0) → List A → List B → Type 0
Each R [] [] = Unit {0}
Each R (x ∷ xs) (y ∷ ys) = R x y × Each R xs ys
Each R _ _ = ⊥

pub each_joined : {A B : Type 0} (R : A → B → Type 0) (xs zs : List A) (ys ws : List B) → Each R xs ys → Each R zs ws → Each R (xs ++ zs) (ys ++ ws)
each_joined R [] zs [] ws e f = f
each_joined R [] zs (y ∷ ys) ws e f = absurd e
each_joined R (x ∷ xs) zs [] ws e f = absurd e
each_joined R (x ∷ xs) zs (y ∷ ys) ws e f = (e.0, each_joined R xs zs ys ws e.1 f)

pub each_mapped : {A B C D : Type 0} (R : C → D → Type 0) (f : A → C) (g : B → D) (xs : List A) (ys : List B) → Each (λ x y. R (f x) (g y)) xs ys → Each R (map f xs) (map g ys)
each_mapped R f g [] [] e = tt
each_mapped R f g [] (y ∷ ys) e = absurd e
each_mapped R f g (x ∷ xs) [] e = absurd e
each_mapped R f g (x ∷ xs) (y ∷ ys) e = (e.0, each_mapped R f g xs ys e.1)

pub each_name : {A B : Type 0} (R : A → B → Type 0) (x : A) (y : B) → R x y → (names : List Identifier) → Each R (replicate (length names) x) (map (λ name. y) names)
each_name R x y r [] = tt
each_name R x y r (name ∷ names) = (r, each_name R x y r names)

pub each_length : {A B : Type 0} (R : A → B → Type 0) (xs : List A) (ys : List B) → Each R xs ys → length ys ≡ length xs
each_length R [] [] e = refl
each_length R [] (y ∷ ys) e = absurd e
each_length R (x ∷ xs) [] e = absurd e
each_length R (x ∷ xs) (y ∷ ys) e = ap suc (each_length R xs ys e.1)

-- ---- calls

abbrev pub is_call : Expression → Bool
is_call (a_call n e es) = true
is_call _ = false

no_elements : (its : ℕ → Item) (nodes : List Node) (n : ℕ) (t : TypeExpression) (token : Option ℕ) (cs : List ℕ) → is_call (elements_of its nodes n t token cs) ≡ false
no_elements its nodes n t None cs = refl
no_elements its nodes n t (Some token) [] = refl
no_elements its nodes n t (Some token) (c ∷ cs) = refl

pub no_call : (its : ℕ → Item) (nodes : List Node) (n : ℕ) (node : Node) (j : NodeKind) → is_of kind.Call j ≡ false → is_call (expression_of its nodes n node j) ≡ false
no_call its nodes n node kind.Call other = absurd (true≢false other)
no_call its nodes n node kind.Elems other = no_elements its nodes n (its (child 0 node)).type node.value_token (drop 1 node.children)
no_call its nodes n node _ other = refl

module _ (f : File) where
  -- several values, and one that is no invocation
  pub other_value : (n : ℕ) (names : List Identifier) (e : Expression) → is_call e ≡ false → statements.assigned f n names (expression_and e no_expressions) ≡ bound_to f (target_types f n names) ((typing.type_of f e ∷ []) ∷ [])
  other_value n [] e other = refl
  other_value n (x ∷ []) e other = refl
  other_value n (x ∷ y ∷ names) (a_call m e es) other = absurd (true≢false other)
  other_value n (x ∷ y ∷ names) _ other = refl

  pub several_values : (n : ℕ) (names : List Identifier) (e d : Expression) (es : Expressions) → statements.assigned f n names (expression_and e (expression_and d es)) ≡ bound_to f (target_types f n names) (invoking.types_of f (expression_and e (expression_and d es)) ∷ [])
  several_values n [] e d es = refl
  several_values n (x ∷ []) e d es = refl
  several_values n (x ∷ y ∷ names) (a_call m e us) d es = refl
  several_values n (x ∷ y ∷ names) _ d es = refl

  pub no_value : (n : ℕ) (names : List Identifier) → statements.assigned f n names no_expressions ≡ bound_to f (target_types f n names) ([] ∷ [])
  no_value n [] = refl
  no_value n (x ∷ []) = refl
  no_value n (x ∷ y ∷ names) = refl

  pub results_of_call : (x y : Identifier) (names : List Identifier) (n : ℕ) (e : Expression) → is_call e ≡ true → statements.assigned f n (x ∷ y ∷ names) (expression_and e no_expressions) ≡ bound_to f (target_types f n (x ∷ y ∷ names)) (call_results f e)
  results_of_call x y names n (a_call m e es) is = refl
  results_of_call x y names n _ is = absurd (true≢false (sym is))

-- ---- two children, and those behind declarations

pub record Two (nodes : List Node) (n : ℕ) (p q : NodeKind → Bool) (cs : List ℕ) : Type 0 where
  pub first : ℕ
  pub second : ℕ
  pub is : cs ≡ first ∷ second ∷ []
  pub first_is : IsPart nodes p n first
  pub second_is : IsPart nodes q n second

pub two_of : (nodes : List Node) (n : ℕ) (p q : NodeKind → Bool) (cs : List ℕ) → Stand nodes n (just p ∷ just q ∷ []) cs → Two nodes n p q cs
two_of nodes n p q cs s =
    on_head nodes n (Two nodes n p q) p (just q ∷ [])
    (λ c rest is s.
    on_head nodes n (λ rest. Two nodes n p q (c ∷ rest)) q []
    (λ d rest is_second s. on_end nodes n (λ rest. Two nodes n p q (c ∷ d ∷ rest)) (record { first = c; second = d; is = refl; first_is = is; second_is = is_second }) rest s) rest s) cs s

pub record One (nodes : List Node) (n : ℕ) (p : NodeKind → Bool) (cs : List ℕ) : Type 0 where
  pub first : ℕ
  pub is : cs ≡ first ∷ []
  pub first_is : IsPart nodes p n first

pub one_of : (nodes : List Node) (n : ℕ) (p : NodeKind → Bool) (cs : List ℕ) → Stand nodes n (just p ∷ []) cs → One nodes n p cs
one_of nodes n p cs s =
    on_head nodes n (One nodes n p) p []
    (λ c rest is s. on_end nodes n (λ rest. One nodes n p (c ∷ rest)) (record { first = c; is = refl; first_is = is }) rest s) cs s

pub record Head (nodes : List Node) (n : ℕ) (p : NodeKind → Bool) (cs : List ℕ) : Type 0 where
  pub first : ℕ
  pub rest : List ℕ
  pub is : cs ≡ first ∷ rest
  pub first_is : IsPart nodes p n first

pub head_of : (nodes : List Node) (n : ℕ) (p : NodeKind → Bool) (ss : List Slot) (cs : List ℕ) → Stand nodes n (just p ∷ ss) cs → Head nodes n p cs
head_of nodes n p ss cs s = on_head nodes n (Head nodes n p) p ss (λ c rest is s. record { first = c; rest = rest; is = refl; first_is = is }) cs s

abbrev pub one_call : NodeKind → Bool
one_call = is_child (shape.one kind.Call)

abbrev pub one_decl : NodeKind → Bool
one_decl = is_child (shape.one kind.Decl)

abbrev pub more_decls : NodeKind → Bool
more_decls = may_stand 2 (parts_of shape.more_decls)

pub same_call : (j : NodeKind) → one_call j ≡ is_of kind.Call j
same_call kind.File = refl
same_call _ = refl

pub same_decls : (j : NodeKind) → more_decls j ≡ is_of kind.Decl j
same_decls kind.File = refl
same_decls _ = refl

pub first_decl : (j : NodeKind) → one_decl j ≡ more_decls j
first_decl kind.File = refl
first_decl _ = refl

pub call_apart : (j : NodeKind) → (is_of kind.Decl j && first_of (just one_call ∷ []) j) ≡ false
call_apart kind.File = refl
call_apart _ = refl

pub none_apart : (j : NodeKind) → (is_of kind.Decl j && first_of [] j) ≡ false
none_apart kind.File = refl
none_apart _ = refl

pub type_apart : (j : NodeKind) → (is_of kind.Decl j && first_of (just (is_child shape.any_type) ∷ just (is_child shape.expression) ∷ []) j) ≡ false
type_apart kind.File = refl
type_apart _ = refl

pub one_name : (ps : List Part) (w : List Letter) → IsWord (shape.name ∷ ps) w → (m : ℕ) × (names_in w ≡ m + 1)
one_name ps _ (name_is _ w d) = (names_in w, refl)

pub value_and_name : (xs : List Symbol) (ps : List Part) (w : List Letter) → IsWord (shape.value xs ∷ shape.name ∷ ps) w → (m : ℕ) × (names_in w ≡ m + 1)
value_and_name xs ps _ (value_is _ x _ w has d) = one_name ps w d
