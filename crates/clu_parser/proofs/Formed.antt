-- A node that is a production has children, names and a value of its form.
use Rattle.std.proofs.Common.{◌≡◌, ℕ, zero, suc, ◌+◌, List, [], ◌∷◌, length, map, Some, slice_get, refl, ap, ◌∙◌, subst, arith}
use Rattle.std.proofs.lemmas.List.{length-map}
use Rattle.clu_base.specs.declared.tokens.Token.{Token}
use Rattle.clu_lexer.specs.declared.symbols.Symbol.{Symbol}
use Rattle.clu_tree.specs.declared.node.Node.{Node}
use Rattle.clu_parser.specs.Parsing.{text_of, IsTreeOf}
use Rattle.clu_parser.specs.Shape.{Letter, Spelled, ended, own_token, a_name, a_value, a_child, kinds_in, names_in, values_in, last_in, HaveKinds, Spells, HasValue, HasForm, HaveForms, IsProduction, IsShaped}
use Rattle.clu_parser.specs.Spellings.{bytes_of, symbol_in}
use Rattle.clu_parser.specs.Trees.{Text, value_of}
use Rattle.clu_parser.proofs.Shaped.{built_shaped}

kinds_of : (t : Text) (nodes : List Node) (at to : ℕ) (w : List Letter) (cs ns vs : List ℕ) → Spelled t nodes at w cs ns vs to → HaveKinds nodes cs (kinds_in w)
kinds_of t nodes at _ _ _ _ _ (ended _) = tt
kinds_of t nodes at to _ cs ns vs (own_token x _ w _ _ _ _ is d) = kinds_of t nodes (at + 1) to w cs ns vs d
kinds_of t nodes at to _ cs _ vs (a_name _ w _ ns _ _ is d) = kinds_of t nodes (at + 1) to w cs ns vs d
kinds_of t nodes at to _ cs ns _ (a_value x _ w _ _ vs _ is d) = kinds_of t nodes (at + 1) to w cs ns vs d
kinds_of t nodes _ to _ _ ns vs (a_child c n w cs _ _ _ is d) = (n, is, refl, kinds_of t nodes (n.last + 1) to w cs ns vs d)

names_of : (t : Text) (nodes : List Node) (at to : ℕ) (w : List Letter) (cs ns vs : List ℕ) → Spelled t nodes at w cs ns vs to → length ns ≡ names_in w
names_of t nodes at _ _ _ _ _ (ended _) = refl
names_of t nodes at to _ cs ns vs (own_token x _ w _ _ _ _ is d) = names_of t nodes (at + 1) to w cs ns vs d
names_of t nodes at to _ cs _ vs (a_name _ w _ ns _ _ is d) = omega (arith, names_of t nodes (at + 1) to w cs ns vs d)
names_of t nodes at to _ cs ns _ (a_value x _ w _ _ vs _ is d) = names_of t nodes (at + 1) to w cs ns vs d
names_of t nodes _ to _ _ ns vs (a_child c n w cs _ _ _ is d) = names_of t nodes (n.last + 1) to w cs ns vs d

-- the tokens of these numbers are these symbols
abbrev AreAt : Text → List ℕ → List Symbol → Type 0
AreAt t [] [] = Unit {0}
AreAt t [] (x ∷ xs) = ⊥
AreAt t (v ∷ vs) [] = ⊥
AreAt t (v ∷ vs) (x ∷ xs) = (slice_get t.symbols v ≡ Some x) × AreAt t vs xs

values_of : (t : Text) (nodes : List Node) (at to : ℕ) (w : List Letter) (cs ns vs : List ℕ) → Spelled t nodes at w cs ns vs to → AreAt t vs (values_in w)
values_of t nodes at _ _ _ _ _ (ended _) = tt
values_of t nodes at to _ cs ns vs (own_token x _ w _ _ _ _ is d) = values_of t nodes (at + 1) to w cs ns vs d
values_of t nodes at to _ cs _ vs (a_name _ w _ ns _ _ is d) = values_of t nodes (at + 1) to w cs ns vs d
values_of t nodes at to _ cs ns _ (a_value x _ w _ _ vs _ is d) = (is, values_of t nodes (at + 1) to w cs ns vs d)
values_of t nodes _ to _ _ ns vs (a_child c n w cs _ _ _ is d) = values_of t nodes (n.last + 1) to w cs ns vs d

got_mapped : (f : Token → Symbol) (tokens : List Token) (i : ℕ) (x : Symbol) → slice_get (map f tokens) i ≡ Some x → (token : Token) × (slice_get tokens i ≡ Some token) × (f token ≡ x)
got_mapped f [] i x h = absurd (cc)
got_mapped f (k ∷ tokens) zero x h = (k, refl, cc)
got_mapped f (k ∷ tokens) (suc i) x h = got_mapped f tokens i x h

module _ (bytes : List ℕ) (tokens : List Token) where
  spells_at : (n : Node) (v : ℕ) (x : Symbol) → n.value ≡ value_of (text_of bytes tokens) n.value_token → n.value_token ≡ Some v → slice_get (text_of bytes tokens).symbols v ≡ Some x → Spells n.value x
  spells_at n v x value at is =
      let token = got_mapped (symbol_in bytes) tokens v x is in
      record { kind = token.0.kind; written = bytes_of bytes token.0; is = token.2; spelled_so = value ∙ rw (at, token.1) refl }

  value_at : (n : Node) (vs : List ℕ) (xs : List Symbol) → n.value ≡ value_of (text_of bytes tokens) n.value_token → n.value_token ≡ last_in vs → AreAt (text_of bytes tokens) vs xs → HasValue n xs
  value_at n [] [] value last known = (last, value ∙ rw last refl)
  value_at n [] (x ∷ xs) value last known = absurd known
  value_at n (v ∷ vs) [] value last known = absurd known
  value_at n (v ∷ []) (x ∷ []) value last known = (v, last, spells_at n v x value last known.0)
  value_at n (v ∷ []) (x ∷ y ∷ xs) value last known = absurd known.1
  value_at n (v ∷ u ∷ vs) (x ∷ []) value last known = absurd known.1
  value_at n (v ∷ u ∷ vs) (x ∷ y ∷ xs) value last known = value_at n (u ∷ vs) (y ∷ xs) value last known.1

  has_form : (nodes : List Node) (n : Node) → IsProduction (text_of bytes tokens) nodes n → HasForm nodes n
  has_form nodes n p =
      record {
        form = p.form;
        word = p.word;
        of_kind = p.of_kind;
        is_word = p.is_word;
        children_are = kinds_of (text_of bytes tokens) nodes n.first (n.last + 1) p.word n.children p.names p.values p.spelled;
        names_are = ap length p.names_are ∙ length-map p.names _ ∙ names_of (text_of bytes tokens) nodes n.first (n.last + 1) p.word n.children p.names p.values p.spelled;
        value_is = value_at n p.values _ p.value_is p.token_is (values_of (text_of bytes tokens) nodes n.first (n.last + 1) p.word n.children p.names p.values p.spelled);
      }

  pub tree_shaped : (nodes : List Node) → IsTreeOf bytes tokens nodes → IsShaped (text_of bytes tokens) nodes
  tree_shaped nodes tree = subst (IsShaped (text_of bytes tokens)) tree.2 (built_shaped (text_of bytes tokens) tree.0 tree.1)

  pub tree_formed : (nodes : List Node) → IsTreeOf bytes tokens nodes → HaveForms nodes
  tree_formed nodes tree i n at = has_form nodes n (tree_shaped nodes tree i n at)
