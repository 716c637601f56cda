-- Each declaration declares what its node says, kind by kind.
use Rattle.std.proofs.Common.{◌≡◌, ◌∙◌, ◌⊎◌, ℕ, zero, suc, ◌+◌, ◌-◌, ◌<◌, ◌&&◌, ◌==◌, Bool, true, false, if◌then◌else◌, List, [], ◌∷◌, ◌++◌, length, map, codes, Option, Some, slice_get, refl, ap, ap₂, sym, subst, inl, inr, arith, eq-eqb}
use Rattle.std.specs.Prelude.{bytes_eq}
use Rattle.std.proofs.lemmas.Bool.{true≢false, cases_Bool}
use Rattle.std.proofs.lemmas.Option.{same_Some}
use Rattle.std.proofs.lemmas.Slice.Eq.{bytes_eq-Decides}
use Rattle.clu_lexer.specs.declared.symbols.Symbol.{Symbol}
use Rattle.clu_lexer.specs.declared.symbols.Symbol.TheVariants as s
use Rattle.clu_tree.specs.declared.node.Node.{Node}
use Rattle.clu_tree.specs.declared.node.NodeKind.{NodeKind}
use Rattle.clu_tree.specs.declared.node.NodeKind.TheVariants as kind
use Rattle.clu_tree.specs.Nodes.{IsTree}
use Rattle.clu_grammar.specs.Choice.{has}
use Rattle.clu_parser.specs.Shape as shape
use Rattle.clu_parser.specs.Shape.{Part, Letter, IsWord, name_is, value_is, IsFormOf, forms, names_in, values_in, HasValue, Spells, HasForm, is_child}
use Rattle.clu_syntax.specs.Kinds.{kind_at}
use Rattle.clu_syntax.specs.Splits.{is_of}
use Rattle.clu_syntax.specs.Syntax.{Identifier, TypeExpression, Equate}
use Rattle.clu_parts.proofs.Fitting.{Slot, slots_of, just, Stand, fitted, on_head}
use Rattle.clu_parts.proofs.Counted.{is_unnamed, is_unvalued, no_names, no_values, unnamed}
use Rattle.clu_meaning.specs.Scoping.{Meaning, Bindings, binding, of_names, parameter_meaning, bound_at}
use Rattle.clu_settle.specs.Names.{is_constant}
use Rattle.clu_declares.proofs.Below.{same_kind}
use Rattle.clu_declares.proofs.RepNames.{rep_spelled}

-- ---- bindings of one node

bytes_same : (name : Identifier) → bytes_eq name name ≡ true
bytes_same name = (bytes_eq-Decides name name).1 refl

pub bound_own : (n : ℕ) (m : Meaning) (name : Identifier) (rest : Bindings) → bound_at (binding n m name ∷ rest) n name ≡ m
bound_own n m name rest = ap (λ (b : Bool). if b then m else bound_at rest n name) (ap₂ (λ (a b : Bool). a && b) (eq-eqb n n refl) (bytes_same name))

either_way : (b : Bool) (m x : Meaning) → x ≡ m → (if b then m else x) ≡ m
either_way true m x e = refl
either_way false m x e = e

pub bound_map : (n : ℕ) (m : Meaning) (names : List Identifier) (i : ℕ) (name : Identifier) → slice_get names i ≡ Some name → bound_at (map (binding n m) names ++ []) n name ≡ m
bound_map n m [] i name e = absurd (cc)
bound_map n m (x ∷ names) zero name e =
    subst (λ (x : Identifier). bound_at (binding n m x ∷ (map (binding n m) names ++ [])) n name ≡ m) (sym (same_Some x name e)) (bound_own n m name (map (binding n m) names ++ []))
bound_map n m (x ∷ names) (suc i) name e = either_way (n == n && bytes_eq x name) m (bound_at (map (binding n m) names ++ []) n name) (bound_map n m names i name e)

-- of parameters the first one with a name counts
pub bound_names : (n : ℕ) (t : Option TypeExpression) (k : ℕ) (names : List Identifier) (i : ℕ) (name : Identifier) → slice_get names i ≡ Some name → ((j : ℕ) → j < i → slice_get names j ≡ Some name → ⊥) → bound_at (of_names n t k names) n name ≡ parameter_meaning t (k + i)
bound_names n t k [] i name e f = absurd (cc)
bound_names n t k (x ∷ names) zero name e f =
    subst (λ (x : Identifier). bound_at (binding n (parameter_meaning t k) x ∷ of_names n t (suc k) names) n name ≡ parameter_meaning t k) (sym (same_Some x name e)) (bound_own n (parameter_meaning t k) name (of_names n t (suc k) names))
    ∙ ap (parameter_meaning t) (omega arith)
bound_names n t k (x ∷ names) (suc i) name e f = elim (cases_Bool (bytes_eq x name)) [
  | inl same ↦ absurd (f 0 (omega arith) (ap Some ((bytes_eq-Decides x name).0 same)))
  | inr other ↦
      ap (λ (b : Bool). if n == n && b then parameter_meaning t k else bound_at (of_names n t (suc k) names) n name) other
      ∙ never (n == n) (parameter_meaning t k) (bound_at (of_names n t (suc k) names) n name)
      ∙ bound_names n t (suc k) names i name e (λ j l g. f (suc j) (omega (arith, l)) g)
      ∙ ap (parameter_meaning t) (omega arith)
]
  where
    never : (b : Bool) (m x : Meaning) → (if b && false then m else x) ≡ x
    never true m x = refl
    never false m x = refl

-- ---- names by the form

pub only_name : (x name : Identifier) (i : ℕ) → slice_get (x ∷ []) i ≡ Some name → x ≡ name
only_name x name zero e = same_Some x name e
only_name x name (suc i) e = absurd (cc)

pub none_there : (name : Identifier) (i : ℕ) → slice_get [] i ≡ Some name → ⊥
none_there name i e = cc

alone : (names : List Identifier) → length names ≡ 1 → (x : Identifier) × (names ≡ x ∷ [])
alone [] e = absurd (omega (arith, e))
alone (x ∷ []) e = (x, refl)
alone (x ∷ y ∷ names) e = absurd (omega (arith, e))

module _ (nodes : List Node) (n : ℕ) (node : Node) (f : HasForm nodes node) where
  form_of : (k : NodeKind) → node.kind ≡ k → IsFormOf f.form (forms k)
  form_of k is = subst (λ (k : NodeKind). IsFormOf f.form (forms k)) is f.of_kind

  word_in : (form : List Part) → f.form ≡ form → IsWord form f.word
  word_in form e = subst (λ (form : List Part). IsWord form f.word) e f.is_word

  one_name : (ps : List Part) (w : List Letter) → IsWord (shape.name ∷ ps) w → is_unnamed 2 ps ≡ true → names_in w ≡ 1
  one_name ps _ (name_is _ w d) none = let rest : names_in w ≡ 0 = no_names 2 ps w d none in omega (arith, rest)

  behind_value : (xs : List Symbol) (ps : List Part) (w : List Letter) → IsWord (shape.value xs ∷ shape.name ∷ ps) w → is_unnamed 2 ps ≡ true → names_in w ≡ 1
  behind_value xs ps _ (value_is _ _ _ w h d) none = one_name ps w d none

  no_name : (form : List Part) → f.form ≡ form → is_unnamed 2 form ≡ true → node.names ≡ []
  no_name form e none = unnamed node.names (names_in f.word) f.names_are (no_names 2 form f.word (word_in form e) none)

  -- an Init or Own of one name, or of none
  pub init_name : node.kind ≡ kind.Init → (node.names ≡ []) ⊎ ((x : Identifier) × (node.names ≡ x ∷ []))
  init_name is = elim (form_of kind.Init is) [
    | inl e ↦ inr (alone node.names (f.names_are ∙ one_name _ f.word (word_in _ e) refl))
    | inr (inl e) ↦ inl (no_name _ e refl)
    | inr (inr never) ↦ absurd never
  ]

  value_has : (xs : List Symbol) (ps : List Part) (w : List Letter) → IsWord (shape.value xs ∷ ps) w → is_unvalued 2 ps ≡ true → HasValue node (values_in w) → (x : Symbol) × (has xs x ≡ true) × Spells node.value x
  value_has xs ps _ (value_is _ x _ w h d) none v =
      let its : HasValue node (x ∷ []) = subst (λ (ys : List Symbol). HasValue node (x ∷ ys)) (no_values 2 ps w d none) v in
      (x, h, its.2)

  only_rep : (x : Symbol) → has (s.Rep ∷ []) x ≡ true → x ≡ s.Rep
  only_rep s.Rep e = refl
  only_rep _ e = absurd (true≢false (sym e))

  rep_value : (ps : List Part) → f.form ≡ (shape.value (s.Rep ∷ []) ∷ ps) → is_unvalued 2 ps ≡ true → bytes_eq node.value (codes "rep") ≡ true
  rep_value ps e none =
      let v = value_has (s.Rep ∷ []) ps f.word (word_in (shape.value (s.Rep ∷ []) ∷ ps) e) none f.value_is in
      rep_spelled node.value (subst (Spells node.value) (only_rep v.0 v.1) v.2)

  -- an Equate of one name, or of the word `rep`
  pub equate_alone : node.kind ≡ kind.Equate → ((x : Identifier) × (node.names ≡ x ∷ [])) ⊎ ((node.names ≡ []) × (bytes_eq node.value (codes "rep") ≡ true))
  equate_alone is = elim (form_of kind.Equate is) [
    | inl e ↦ inl (alone node.names (f.names_are ∙ one_name _ f.word (word_in _ e) refl))
    | inr (inl e) ↦ inl (alone node.names (f.names_are ∙ one_name _ f.word (word_in _ e) refl))
    | inr (inr (inl e)) ↦ inr (no_name _ e refl, rep_value _ e refl)
    | inr (inr (inr (inl e))) ↦ inr (no_name _ e refl, rep_value _ e refl)
    | inr (inr (inr (inr never))) ↦ absurd never
  ]

  -- an Own with a name has a type and a value
  abbrev typed_value : List Slot
  typed_value = just (is_child shape.any_type) ∷ just (is_child shape.expression) ∷ []

  pub own_alone : (t : IsTree nodes) → slice_get nodes n ≡ Some node → node.kind ≡ kind.Own → (node.names ≡ []) ⊎ ((x : Identifier) × (node.names ≡ x ∷ []) × Stand nodes n typed_value node.children)
  own_alone t at is = elim (form_of kind.Own is) [
    | inl e ↦ inl (no_name _ e refl)
    | inr (inl e) ↦
        (let a = alone node.names (f.names_are ∙ behind_value _ _ f.word (word_in _ e) refl) in
        inr (a.0, a.1, subst (λ (form : List Part). Stand nodes n (slots_of form) node.children) e (fitted nodes t n node at f)))
    | inr (inr (inl e)) ↦ inl (no_name _ e refl)
    | inr (inr (inr never)) ↦ absurd never
  ]

  -- the right side of an Equate
  abbrev pub Right : List ℕ → Type 0
  Right cs = (c : ℕ) × (rest : List ℕ) × (cs ≡ c ∷ rest) × (c < n) × ((is_constant nodes c ≡ true) ⊎ (kind_at nodes c ≡ kind.TypeSet))

  constant_side : (cs : List ℕ) → Stand nodes n (just (is_child shape.constant) ∷ []) cs → Right cs
  constant_side cs st = on_head nodes n Right (is_child shape.constant) [] (λ c rest is more. (c, rest, refl, is.0, inl is.1)) cs st

  set_side : (cs : List ℕ) → Stand nodes n (just (is_child (shape.one kind.TypeSet)) ∷ []) cs → Right cs
  set_side cs st = on_head nodes n Right (is_child (shape.one kind.TypeSet)) [] (λ c rest is more. (c, rest, refl, is.0, inr (same_kind kind.TypeSet (kind_at nodes c) (sym (one_set (kind_at nodes c)) ∙ is.1)))) cs st
    where
      one_set : (j : NodeKind) → is_child (shape.one kind.TypeSet) j ≡ is_of kind.TypeSet j
      one_set kind.File = refl
      one_set _ = refl

  pub equate_right : IsTree nodes → slice_get nodes n ≡ Some node → node.kind ≡ kind.Equate → Right node.children
  equate_right t at is = elim (form_of kind.Equate is) [
    | inl e ↦ constant_side node.children (stands e)
    | inr (inl e) ↦ set_side node.children (stands e)
    | inr (inr (inl e)) ↦ constant_side node.children (stands e)
    | inr (inr (inr (inl e))) ↦ set_side node.children (stands e)
    | inr (inr (inr (inr never))) ↦ absurd never
  ]
    where
      stands : {form : List Part} → f.form ≡ form → Stand nodes n (slots_of form) node.children
      stands e = subst (λ (form : List Part). Stand nodes n (slots_of form) node.children) e (fitted nodes t n node at f)
