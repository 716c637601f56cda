-- The children of a run are of its kind, and the clauses of an If fall where its conditions stand.
use Rattle.std.proofs.Common.{◌≡◌, ◌∙◌, ℕ, suc, ◌+◌, Bool, true, false, ◌-◌, ◌<◌, ◌≤◌, List, [], ◌∷◌, length, get_or, take, drop, if◌then◌else◌, slice_get, Some, refl, ap, ap₂, sym, subst, inl, inr, rules, arith}
use Rattle.std.specs.Prelude.{All}
use Rattle.std.proofs.lemmas.Bool.{cases_Bool}
use Rattle.std.proofs.lemmas.List.{take_all}
use Rattle.std.proofs.lemmas.List.Elements.{All-nil, All-cons}
use Rattle.clu_tree.specs.declared.node.Node.{Node}
use Rattle.clu_tree.specs.declared.node.NodeKind.{NodeKind}
use Rattle.clu_tree.specs.contracts.node.NodeKind.{the_type as kind_type}
use Rattle.clu_syntax.specs.Kinds.{is_expression, kind_of, kind_at}
use Rattle.clu_syntax.specs.Items.{Item}
use Rattle.clu_syntax.specs.Nodes.{body_of, clauses_of, split_clauses}
use Rattle.clu_syntax.specs.Splits.{is_of, leading, leading_items}
use Rattle.clu_syntax.specs.Syntax.{Clauses, no_clauses, clause_and}
use denote.Enum.Bare.{sameb, same_true}

pub node_kind : (nodes : List Node) (n : ℕ) (node : Node) (kind : NodeKind) → slice_get nodes n ≡ Some node → kind_at nodes n ≡ kind → node.kind ≡ kind
node_kind nodes n node kind at is = sym (ap kind_of at) ∙ is

take_more : (m : ℕ) (c : ℕ) (cs : List ℕ) → take (m + 1) (c ∷ cs) ≡ c ∷ take m cs
take_more m c cs = let e : m + 1 ≡ suc m = omega arith in ap (λ (k : ℕ). take k (c ∷ cs)) e

drop_more : (m : ℕ) (c : ℕ) (cs : List ℕ) → drop (m + 1) (c ∷ cs) ≡ drop m cs
drop_more m c cs = let e : m + 1 ≡ suc m = omega arith in ap (λ (k : ℕ). drop k (c ∷ cs)) e

pub leading_kinds : (nodes : List Node) (kind : NodeKind) (cs : List ℕ) → All (λ c. kind_at nodes c ≡ kind) (take (leading nodes kind cs) cs)
unfolding leading
leading_kinds nodes kind [] = All-nil (λ c. kind_at nodes c ≡ kind)
leading_kinds nodes kind (c ∷ cs) = elim (cases_Bool (is_of kind (kind_at nodes c))) [
  | inl e ↦
      let same : kind_at nodes c ≡ kind = same_true kind_type (search rules) (kind_at nodes c) kind e in
      rw (e, take_more (leading nodes kind cs) c cs) (All-cons (λ c. kind_at nodes c ≡ kind) c (take (leading nodes kind cs) cs) same (leading_kinds nodes kind cs))
  | inr e ↦ rw e (All-nil (λ c. kind_at nodes c ≡ kind))
]

module _ (items : ℕ → Item) (nodes : List Node) where
  items_are : (cs : List ℕ) → (split_clauses items nodes cs).0 ≡ take (leading_items nodes cs) cs
  unfolding leading_items
  items_are [] = refl
  items_are (c ∷ cs) = elim (cases_Bool (is_expression (kind_at nodes c))) [
    | inl e ↦ rw e refl
    | inr e ↦ rw (e, take_more (leading_items nodes cs) c cs) (ap (λ xs. c ∷ xs) (items_are cs))
  ]

  none_before : (c : ℕ) (cs : List ℕ) → is_expression (kind_at nodes c) ≡ true → drop (leading_items nodes (c ∷ cs)) (c ∷ cs) ≡ c ∷ cs
  unfolding leading_items
  none_before c cs e = rw e refl

  split_by : ℕ → List ℕ → Bool → List ℕ × Clauses
  split_by c cs b =
      if b then ([], clause_and (items c).expression (body_of items nodes (split_clauses items nodes cs).0) (split_clauses items nodes cs).1)
      else (c ∷ (split_clauses items nodes cs).0, (split_clauses items nodes cs).1)

  skip_one : (c : ℕ) (cs : List ℕ) → is_expression (kind_at nodes c) ≡ false → clauses_of items nodes (c ∷ cs) ≡ clauses_of items nodes cs
  unfolding split_by
  skip_one c cs e = ap (λ (b : Bool). (split_by c cs b).1) e

  one_clause : (c : ℕ) (cs : List ℕ) → is_expression (kind_at nodes c) ≡ true →
      clauses_of items nodes (c ∷ cs) ≡ clause_and (items c).expression (body_of items nodes (split_clauses items nodes cs).0) (clauses_of items nodes cs)
  unfolding split_by
  one_clause c cs e = ap (λ (b : Bool). (split_by c cs b).1) e

  past_one : (c : ℕ) (cs : List ℕ) → is_expression (kind_at nodes c) ≡ false → drop (leading_items nodes (c ∷ cs)) (c ∷ cs) ≡ drop (leading_items nodes cs) cs
  unfolding leading_items
  past_one c cs e = rw (e, drop_more (leading_items nodes cs) c cs) refl

  -- the items before the first condition belong to no clause
  pub clauses_after : (cs : List ℕ) → clauses_of items nodes cs ≡ clauses_of items nodes (drop (leading_items nodes cs) cs)
  unfolding leading_items
  clauses_after [] = refl
  clauses_after (c ∷ cs) = elim (cases_Bool (is_expression (kind_at nodes c))) [
    | inl e ↦ ap (clauses_of items nodes) (sym (none_before c cs e))
    | inr e ↦ skip_one c cs e ∙ clauses_after cs ∙ ap (clauses_of items nodes) (sym (past_one c cs e))
  ]

  first_is : (cs : List ℕ) (c : ℕ) (rest : List ℕ) → drop (leading_items nodes cs) cs ≡ c ∷ rest → is_expression (kind_at nodes c) ≡ true
  unfolding leading_items
  first_is [] c rest e = absurd (cc)
  first_is (d ∷ cs) c rest e = elim (cases_Bool (is_expression (kind_at nodes d))) [
    | inl is ↦ let all : d ∷ cs ≡ c ∷ rest = rw is at e in let same : d ≡ c = cc in subst (λ (x : ℕ). is_expression (kind_at nodes x) ≡ true) same is
    | inr not ↦ first_is cs c rest (sym (drop_more (leading_items nodes cs) d cs) ∙ (rw not at e))
  ]

  -- the first condition, the items up to the next one, and the clauses from there
  pub clauses_are : (cs : List ℕ) (c : ℕ) (rest : List ℕ) → drop (leading_items nodes cs) cs ≡ c ∷ rest →
      clauses_of items nodes cs ≡ clause_and (items c).expression (body_of items nodes (take (leading_items nodes rest) rest)) (clauses_of items nodes (drop (leading_items nodes rest) rest))
  clauses_are cs c rest e =
      clauses_after cs ∙ ap (clauses_of items nodes) e
      ∙ one_clause c rest (first_is cs c rest e)
      ∙ ap₂ (λ xs more. clause_and (items c).expression (body_of items nodes xs) more) (items_are rest) (clauses_after rest)

  pub no_clause : (cs r : List ℕ) → length r < 1 → drop (leading_items nodes cs) cs ≡ r → no_clauses ≡ clauses_of items nodes cs
  no_clause cs [] short e = sym (clauses_after cs ∙ ap (clauses_of items nodes) e)
  no_clause cs (c ∷ rest) short e = absurd (omega (arith, short))

  -- the same, as a pattern takes the list apart
  pub clauses_from : (cs r : List ℕ) → 1 ≤ length r → drop (leading_items nodes cs) cs ≡ r →
      clause_and (items (get_or r 0 0)).expression (body_of items nodes (take (leading_items nodes (take (length r - 1) (drop 1 r))) (take (length r - 1) (drop 1 r)))) (clauses_of items nodes (drop (leading_items nodes (take (length r - 1) (drop 1 r))) (take (length r - 1) (drop 1 r))))
      ≡ clauses_of items nodes cs
  clauses_from cs [] long e = absurd (omega (arith, long))
  clauses_from cs (c ∷ rest) long e =
      let all : take (length (c ∷ rest) - 1) rest ≡ rest = take_all (length (c ∷ rest) - 1) rest (omega arith) in
      rw all (sym (clauses_are cs c rest e))
