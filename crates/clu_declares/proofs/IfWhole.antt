-- The same of an If: its clauses and the body behind `else`.
use Rattle.std.proofs.Common.{◌≡◌, ◌∙◌, ℕ, ◌&&◌, Bool, true, false, if◌then◌else◌, List, [], ◌∷◌, ◌++◌, take, drop, Option, Some, None, slice_get, refl, ap, ap₂, sym, append-nil}
use Rattle.std.proofs.lemmas.Bool.{true≢false}
use Rattle.clu_tree.specs.declared.node.Node.{Node}
use Rattle.clu_tree.specs.declared.node.NodeKind.{NodeKind}
use Rattle.clu_tree.specs.declared.node.NodeKind.TheVariants as kind
use Rattle.clu_tree.specs.Nodes.{IsTree}
use Rattle.clu_grammar.specs.Kinds.{is_expression}
use Rattle.clu_parser.specs.Trees.{Text}
use Rattle.clu_parser.specs.Shape.{IsShaped}
use Rattle.clu_syntax.specs.declared.round.Round.{Round}
use Rattle.clu_syntax.specs.Kinds.{kind_at}
use Rattle.clu_syntax.specs.Splits.{leading_before}
use Rattle.clu_syntax.specs.Syntax.{Clauses, clause_and}
use Rattle.clu_syntax.specs.Items.{Item}
use Rattle.clu_syntax.specs.Nodes.{before, item_at, statement_of, body_of, split_clauses, otherwise_of}
use Rattle.clu_parts.proofs.Fitting.{AreParts, some_of, some_slot}
use Rattle.clu_parts.specs.Slots.{body_slots, HasClauses, no_more_clauses, clause, IsElse, IfParts}
use Rattle.clu_parts.proofs.Ifs.{if_parts}
use Rattle.clu_meaning.specs.Scoping.{Bindings, of_body, of_clauses, of_otherwise, of_statement}
use Rattle.clu_declares.proofs.Below.{all_in, all_nil, all_append, all_split, skip_first, plain_part, binds}
use Rattle.clu_declares.proofs.Whole.{body_is}

body_items : (k : NodeKind) → (some_of body_slots k && is_expression k) ≡ false
body_items kind.File = refl
body_items _ = refl

plain_condition : (k : NodeKind) → (is_expression k && binds k) ≡ false
plain_condition kind.File = refl
plain_condition _ = refl

and_out : (a b : Bool) → (a && b) ≡ false → a ≡ true → b ≡ false
and_out true b e h = e
and_out false b e h = absurd (true≢false (sym h))

module _ (nodes : List Node) (rounds : List Round) (n : ℕ) where
  abbrev items : ℕ → Item
  items = before n (item_at nodes)

  abbrev all : List ℕ → Bindings
  all = all_in nodes rounds

  abbrev split : List ℕ → List ℕ × Clauses
  split = split_clauses items nodes

  split_by : ℕ → List ℕ → Bool → List ℕ × Clauses
  split_by c cs b = if b then ([], clause_and (items c).expression (body_of items nodes (split cs).0) (split cs).1) else (c ∷ (split cs).0, (split cs).1)

  a_condition : (c : ℕ) (cs : List ℕ) → is_expression (kind_at nodes c) ≡ true → split (c ∷ cs) ≡ ([], clause_and (items c).expression (body_of items nodes (split cs).0) (split cs).1)
  unfolding split_by
  a_condition c cs e = ap (λ (b : Bool). split_by c cs b) e

  an_item : (c : ℕ) (cs : List ℕ) → is_expression (kind_at nodes c) ≡ false → split (c ∷ cs) ≡ (c ∷ (split cs).0, (split cs).1)
  unfolding split_by
  an_item c cs e = ap (λ (b : Bool). split_by c cs b) e

  some_items : (xs cs : List ℕ) → AreParts nodes (some_of body_slots) n xs → split (xs ++ cs) ≡ (xs ++ (split cs).0, (split cs).1)
  some_items [] cs ps = refl
  some_items (x ∷ xs) cs ps =
      an_item x (xs ++ cs) (and_out (some_of body_slots (kind_at nodes x)) (is_expression (kind_at nodes x)) (body_items (kind_at nodes x)) ps.0.1)
      ∙ ap (λ (r : List ℕ × Clauses). (x ∷ r.0, r.1)) (some_items xs cs ps.1)

  clauses_are : (cs : List ℕ) → HasClauses nodes n cs → ((split cs).0 ≡ []) × (of_clauses (split cs).1 ≡ all cs)
  clauses_are _ no_more_clauses = (refl, sym (all_nil nodes rounds))
  clauses_are _ (clause c body rest is s more) =
      let m = clauses_are rest more in
      let behind : split (body ++ rest) ≡ (body ++ (split rest).0, (split rest).1) = some_items body rest (some_slot nodes n body_slots body s) in
      let first : split (c ∷ body ++ rest) ≡ ([], clause_and (items c).expression (body_of items nodes (split (body ++ rest)).0) (split (body ++ rest)).1) = a_condition c (body ++ rest) is.1 in
      let inside : (split (body ++ rest)).0 ≡ body = ap (λ (r : List ℕ × Clauses). r.0) behind ∙ ap (λ (xs : List ℕ). body ++ xs) m.0 ∙ append-nil body in
      let others : of_clauses (split (body ++ rest)).1 ≡ all rest = ap (λ (r : List ℕ × Clauses). of_clauses r.1) behind ∙ m.1 in (
        ap (λ (r : List ℕ × Clauses). r.0) first,
        ap (λ (r : List ℕ × Clauses). of_clauses r.1) first
            ∙ ap₂ (λ (xs : List ℕ) (ys : Bindings). of_body (body_of items nodes xs) ++ ys) inside others
            ∙ ap (λ (xs : Bindings). xs ++ all rest) (body_is nodes rounds n body s)
            ∙ sym (all_append nodes rounds body rest)
            ∙ sym (skip_first nodes rounds c (body ++ rest) (plain_part nodes rounds n c is_expression plain_condition is)),
      )

  else_is : (o : Option ℕ) (cs : List ℕ) → IsElse nodes n o cs → of_otherwise (otherwise_of items nodes o cs) ≡ all cs
  else_is None cs e = sym (ap all e ∙ all_nil nodes rounds)
  else_is (Some token) cs s = body_is nodes rounds n cs s

  pub if_whole : (t : Text) (shaped : IsShaped t nodes) → IsTree nodes → (node : Node) → slice_get nodes n ≡ Some node → node.kind ≡ kind.If → of_statement (statement_of items nodes n node kind.If) ≡ all node.children
  if_whole t shaped tree node at is =
      let p : IfParts nodes n node = if_parts t nodes shaped tree n node at (shaped n node at) is in
      let count : ℕ = leading_before nodes node node.children in
      ap₂ (λ (xs ys : Bindings). xs ++ ys) (clauses_are (take (leading_before nodes node node.children) node.children) p.clauses).1 (else_is node.value_token (drop (leading_before nodes node node.children) node.children) p.behind)
      ∙ sym (all_split nodes rounds (leading_before nodes node node.children) node.children)
