-- What has been built when a file has been read: one tree, whose root is the node of the file.
use Rattle.std.proofs.Common.{◌≡◌, ℕ, ◌+◌, ◌-◌, ◌<◌, ◌≤◌, Bool, true, false, cond, List, [], ◌∷◌, ◌++◌, length, take, drop, Option, Some, None, slice_get, refl, sym, ap, ◌∙◌, subst, inl, inr, arith, append_assoc}
use Rattle.std.proofs.lemmas.List.{length_push}
use Rattle.std.proofs.lemmas.Option.{same_Some}
use Rattle.clu_lexer.specs.declared.symbols.Symbol.{Symbol}
use Rattle.clu_lexer.specs.declared.symbols.Symbol.TheVariants as symbol
use Rattle.clu_tree.specs.declared.node.Node.{Node}
use Rattle.clu_tree.specs.declared.node.NodeKind.{NodeKind}
use Rattle.clu_tree.specs.declared.node.NodeKind.TheVariants as kind
use Rattle.clu_grammar.specs.declared.items.Action.{Action}
use Rattle.clu_grammar.specs.declared.items.Action.TheVariants as action
use Rattle.clu_grammar.specs.declared.items.Item.{Item}
use Rattle.clu_grammar.specs.declared.items.Item.TheVariants as item
use Rattle.clu_grammar.specs.declared.items.Nonterminal.{Nonterminal}
use Rattle.clu_grammar.specs.declared.items.Nonterminal.TheVariants as r
use Rattle.clu_grammar.specs.Grammar.{productions}
use Rattle.clu_grammar.specs.Language.{IsOneOf, whole}
use Rattle.clu_parser.specs.declared.begun.Begun.{Begun}
use Rattle.clu_parser.specs.Order.{IsForest, IsPostOrder, IsFileOver}
use Rattle.clu_parser.specs.Spellings.{closes, is_idn}
use Rattle.clu_parser.specs.Trees.{Text, Built, Builds, finished, terminal, act, chosen, nothing_built, IsBuilt, node_of, opened, wrapped_in, wrapped_on, noted, noted_in, given_in, closed, closed_in, then_wrapped, acted}
use Rattle.clu_parser.proofs.Above.{above_for, begun_above, IsAbove, above_is, above_alternative}
use Rattle.clu_parser.proofs.Acting.{acted_costs}
use Rattle.clu_parser.proofs.Forest.{got_last}
use Rattle.clu_parser.proofs.Reading.{begun_after, begun_left}

-- the outermost node that has begun holds all whole nodes, and begins with the first token
abbrev pub IsGround : List Begun → Type 0
IsGround [] = ⊥
IsGround (o ∷ []) = (o.height ≡ 0) × (o.first ≡ 0)
IsGround (o ∷ p ∷ os) = IsGround (p ∷ os)

ground_push : (o : Begun) (os : List Begun) → IsGround os → IsGround (o ∷ os)
ground_push o [] known = absurd known
ground_push o (p ∷ os) known = known

ground_pop : (o : Begun) (os : List Begun) → 0 < length os → IsGround (o ∷ os) → IsGround os
ground_pop o [] more known = absurd (omega arith)
ground_pop o (p ∷ os) more known = known

ground_same : (o p : Begun) (os : List Begun) → p.height ≡ o.height → p.first ≡ o.first → IsGround (o ∷ os) → IsGround (p ∷ os)
ground_same o p [] height first known = (height ∙ known.0, first ∙ known.1)
ground_same o p (q ∷ os) height first known = known

ground_wrapped_on : (taken : ℕ) (b c : Built) (o : Option Node) → wrapped_on taken b o ≡ Some c → IsGround b.begun → IsGround c.begun
ground_wrapped_on taken b c None is known = absurd (cc)
ground_wrapped_on taken b c (Some n) is known =
    subst (λ (x : Built). IsGround x.begun) (same_Some (opened n.first taken (length b.tops - 1) b) c is)
    (ground_push (record { first = n.first; mark = taken; height = length b.tops - 1; names = []; value = None }) b.begun known)

ground_wrapped_in : (taken : ℕ) (b c : Built) (o : Option ℕ) → wrapped_in taken b o ≡ Some c → IsGround b.begun → IsGround c.begun
ground_wrapped_in taken b c None is known = absurd (cc)
ground_wrapped_in taken b c (Some top) is known = ground_wrapped_on taken b c (slice_get b.nodes top) is known

ground_noted : (is_name : Bool) (taken : ℕ) (b c : Built) (os : List Begun) → noted_in is_name taken b os ≡ Some c → IsGround os → IsGround c.begun
ground_noted is_name taken b c [] is known = absurd known
ground_noted is_name taken b c (o ∷ os) is known =
    subst (λ (x : Built). IsGround x.begun) (same_Some (record { nodes = b.nodes; tops = b.tops; begun = noted is_name taken o ∷ os }) c is)
    (ground_same o (noted is_name taken o) os (height is_name) (first is_name) known)
  where
    height : (is_name : Bool) → (noted is_name taken o).height ≡ o.height
    height true = refl
    height false = refl

    first : (is_name : Bool) → (noted is_name taken o).first ≡ o.first
    first true = refl
    first false = refl

ground_closed : (s : Text) (k : NodeKind) (last : ℕ) (b c : Built) (os : List Begun) → closed_in s k last b os ≡ Some c → 1 < length os → IsGround os → IsGround c.begun
ground_closed s k last b c [] is more known = absurd known
ground_closed s k last b c (o ∷ os) is more known =
    subst (λ (x : Built). IsGround x.begun) (same_Some (record { nodes = b.nodes ++ node_of s k last b.nodes (drop o.height b.tops) o ∷ []; tops = take o.height b.tops ++ length b.nodes ∷ []; begun = os }) c is)
    (ground_pop o os (omega arith) known)

ground_given : (b c : Built) (os : List Begun) → given_in b os ≡ Some c → IsGround os → IsGround c.begun
ground_given b c [] is known = absurd known
ground_given b c (o ∷ []) is known = absurd (cc)
ground_given b c (o ∷ p ∷ os) is known =
    let both : Begun = record { first = p.first; mark = p.mark; height = p.height; names = p.names ++ o.names; value = p.value } in
    subst (λ (x : Built). IsGround x.begun) (same_Some (record { nodes = b.nodes; tops = b.tops; begun = both ∷ os }) c is) (ground_same p both os refl refl known)

ground_rewrapped : (s : Text) (taken : ℕ) (b c : Built) (o : Option Built) → closed s kind.Name (taken - 1) b ≡ o → then_wrapped taken o ≡ Some c → 1 < length b.begun → IsGround b.begun → IsGround c.begun
ground_rewrapped s taken b c None was is more known = absurd (cc)
ground_rewrapped s taken b c (Some d) was is more known = ground_wrapped_in taken d c (slice_get d.tops (length d.tops - 1)) is (ground_closed s kind.Name (taken - 1) b d b.begun was more known)

ground_base : (s : Text) (taken : ℕ) (b c : Built) (type : Bool) → cond type (Some b) (then_wrapped taken (closed s kind.Name (taken - 1) b)) ≡ Some c → 1 < length b.begun → IsGround b.begun → IsGround c.begun
ground_base s taken b c true is more known = subst (λ (x : Built). IsGround x.begun) (same_Some b c is) known
ground_base s taken b c false is more known = ground_rewrapped s taken b c (closed s kind.Name (taken - 1) b) refl is more known

ground_acted : (s : Text) (a : Action) (taken : ℕ) (b c : Built) → acted s a taken b ≡ Some c → above_for a ≤ length b.begun → IsGround b.begun → IsGround c.begun
ground_acted s action.Open taken b c is more known =
    subst (λ (x : Built). IsGround x.begun) (same_Some (opened taken taken (length b.tops) b) c is) (ground_push (record { first = taken; mark = taken; height = length b.tops; names = []; value = None }) b.begun known)
ground_acted s action.Wrap taken b c is more known = ground_wrapped_in taken b c (slice_get b.tops (length b.tops - 1)) is known
ground_acted s action.Note taken b c is more known = ground_noted (is_idn (slice_get s.symbols taken)) taken b c b.begun is known
ground_acted s (action.Close k) taken b c is more known = ground_closed s k taken b c b.begun is (omega arith) known
ground_acted s action.Base taken b c is more known = ground_base s taken b c (closes 0 (drop (taken + 1) s.symbols)) is (omega arith) known
ground_acted s action.Give taken b c is more known = ground_given b c b.begun is known

-- one tree over all tokens
pub record IsOne (s : Text) (to : ℕ) (z : Built) : Type 0 where
  pub tops_are : z.tops ≡ (length z.nodes - 1) ∷ []
  pub file : IsFileOver to z.nodes

closed_file : (s : Text) (at : ℕ) (b c : Built) (os : List Begun) → closed_in s kind.File (at - 1) b os ≡ Some c → length os ≡ 1 → 0 < at → IsGround os → IsOne s at c
closed_file s at b c [] is one more known = absurd known
closed_file s at b c (o ∷ p ∷ os) is one more known = absurd (omega arith)
closed_file s at b c (o ∷ []) is one more known =
    let node : Node = node_of s kind.File (at - 1) b.nodes (drop o.height b.tops) o in
    let new : Built = record { nodes = b.nodes ++ node ∷ []; tops = take o.height b.tops ++ length b.nodes ∷ []; begun = [] } in
    let place : length (b.nodes ++ node ∷ []) - 1 ≡ length b.nodes = omega (arith, length_push b.nodes node) in
    subst (IsOne s at) (same_Some new c is)
    (record {
      tops_are = ap (λ (h : ℕ). take h b.tops ++ length b.nodes ∷ []) known.0 ∙ ap (λ (k : ℕ). k ∷ []) (sym place);
      file = record { root = node; is_last = ap (slice_get (b.nodes ++ node ∷ [])) place ∙ got_last b.nodes node; kind_is = refl; first_is = known.1; last_is = omega arith };
    })

nothing_more : (s : Text) (items : List Item) (at : ℕ) (b : Built) (to : ℕ) (z : Built) → Builds s items at b to z → items ≡ [] → IsOne s at b → IsOne s to z
nothing_more s _ at b to z (finished _ _) none one = one
nothing_more s _ at b to z (terminal _ _ _ _ _ _ is d) none one = absurd (cc)
nothing_more s _ at b to z (act _ _ _ _ _ _ _ is d) none one = absurd (cc)
nothing_more s _ at b to z (chosen _ _ _ _ _ _ _ is d) none one = absurd (cc)

-- the rest of a file is read up to the end of its node
finishes : (s : Text) (front items : List Item) (at : ℕ) (b : Built) (to : ℕ) (z : Built) → Builds s items at b to z → items ≡ front ++ item.Action (action.Close kind.File) ∷ [] → IsAbove front (length b.begun) → begun_left front (length b.begun) ≡ 1 → IsGround b.begun → 0 < at → IsOne s to z
finishes s [] _ at b to z (finished _ _) same above left ground more = absurd (cc)
finishes s (x ∷ front) _ at b to z (finished _ _) same above left ground more = absurd (cc)
finishes s [] _ at b to z (terminal _ _ _ _ _ _ is d) same above left ground more = absurd (cc)
finishes s (item.Terminal y ∷ front) _ at b to z (terminal x items _ _ _ _ is d) same above left ground more = finishes s front items (at + 1) b to z d (cc) above left ground (omega arith)
finishes s (item.Action y ∷ front) _ at b to z (terminal _ _ _ _ _ _ is d) same above left ground more = absurd (cc)
finishes s (item.Nonterminal y ∷ front) _ at b to z (terminal _ _ _ _ _ _ is d) same above left ground more = absurd (cc)
finishes s [] _ at b to z (act a items _ _ c _ _ is d) same above left ground more =
    let file : a ≡ action.Close kind.File = cc in
    let none : items ≡ [] = cc in
    nothing_more s items at c to z d none (closed_file s at b c b.begun (subst (λ (x : Action). acted s x (at - 1) b ≡ Some c) file is) left more ground)
finishes s (item.Terminal y ∷ front) _ at b to z (act _ _ _ _ _ _ _ is d) same above left ground more = absurd (cc)
finishes s (item.Action y ∷ front) _ at b to z (act a items _ _ c _ _ is d) same above left ground more =
    let action_is : y ≡ a = cc in
    let above' = subst (λ (x : Action). (above_for x ≤ length b.begun) × IsAbove front (begun_after x (length b.begun))) action_is above in
    let left' : begun_left front (begun_after a (length b.begun)) ≡ 1 = subst (λ (x : Action). begun_left front (begun_after x (length b.begun)) ≡ 1) action_is left in
    let begun = (acted_costs s a (at - 1) 0 b c (omega arith) (omega arith) (omega (arith, begun_above a, above'.0)) is).begun_are in
    finishes s front items at c to z d (cc) (subst (IsAbove front) (sym begun) above'.1) (ap (begun_left front) begun ∙ left') (ground_acted s a (at - 1) b c is above'.0 ground) more
finishes s (item.Nonterminal y ∷ front) _ at b to z (act _ _ _ _ _ _ _ is d) same above left ground more = absurd (cc)
finishes s [] _ at b to z (chosen _ _ _ _ _ _ _ is d) same above left ground more = absurd (cc)
finishes s (item.Terminal y ∷ front) _ at b to z (chosen _ _ _ _ _ _ _ is d) same above left ground more = absurd (cc)
finishes s (item.Action y ∷ front) _ at b to z (chosen _ _ _ _ _ _ _ is d) same above left ground more = absurd (cc)
finishes s (item.Nonterminal y ∷ front) _ at b to z (chosen n items alternative _ _ _ _ one d) same above left ground more =
    let name : y ≡ n = cc in
    let rest : items ≡ front ++ item.Action (action.Close kind.File) ∷ [] = cc in
    let both = above_alternative n alternative front (length b.begun) one (subst (λ (x : Nonterminal). IsAbove (item.Nonterminal x ∷ front) (length b.begun)) name above) in
    let left' : begun_left (item.Nonterminal n ∷ front) (length b.begun) ≡ 1 = subst (λ (x : Nonterminal). begun_left (item.Nonterminal x ∷ front) (length b.begun) ≡ 1) name left in
    finishes s (alternative ++ front) (alternative ++ items) at b to z d (ap (λ (x : List Item). alternative ++ x) rest ∙ sym (append_assoc alternative front (item.Action (action.Close kind.File) ∷ []))) both.0 (both.1 ∙ left') ground more

-- a file's row after its first action, without its last
abbrev file_front : List Item
file_front =
    item.Action action.Open ∷ item.Action action.Open ∷ item.Action action.Note ∷ item.Terminal symbol.Equal ∷ item.Nonterminal r.Definition ∷ item.Nonterminal r.Modules ∷ []

opened_file : (s : Text) (items : List Item) (at : ℕ) (b : Built) (to : ℕ) (z : Built) → Builds s items at b to z → items ≡ item.Action action.Open ∷ (file_front ++ item.Action (action.Close kind.File) ∷ []) → b ≡ nothing_built → at ≡ 1 → IsOne s to z
opened_file s _ at b to z (finished _ _) same none one = absurd (cc)
opened_file s _ at b to z (terminal _ _ _ _ _ _ is d) same none one = absurd (cc)
opened_file s _ at b to z (chosen _ _ _ _ _ _ _ is d) same none one = absurd (cc)
opened_file s _ at b to z (act a items _ _ c _ _ is d) same none one =
    let opens : a ≡ action.Open = cc in
    let rest : items ≡ file_front ++ item.Action (action.Close kind.File) ∷ [] = cc in
    let first : c ≡ opened 0 0 0 nothing_built = (let h = subst (λ (x : Built). acted s action.Open 0 x ≡ Some c) none (subst (λ (k : ℕ). acted s action.Open (k - 1) b ≡ Some c) one (subst (λ (x : Action). acted s x (at - 1) b ≡ Some c) opens is)) in sym (same_Some (opened 0 0 0 nothing_built) c h)) in
    let size : length c.begun ≡ 1 = ap (λ (x : Built). length x.begun) first in
    finishes s file_front items at c to z d rest
    (subst (IsAbove file_front) (sym size) (above_is file_front 1 refl))
    (subst (λ (k : ℕ). begun_left file_front k ≡ 1) (sym size) refl)
    (subst (λ (x : Built). IsGround x.begun) (sym first) (refl, refl))
    (omega arith)

taken_file : (s : Text) (items : List Item) (x : Symbol) (at : ℕ) (b : Built) (to : ℕ) (z : Built) → Builds s items at b to z → items ≡ item.Terminal x ∷ item.Action action.Open ∷ (file_front ++ item.Action (action.Close kind.File) ∷ []) → b ≡ nothing_built → at ≡ 0 → IsOne s to z
taken_file s _ x at b to z (finished _ _) same none zero' = absurd (cc)
taken_file s _ x at b to z (act _ _ _ _ _ _ _ is d) same none zero' = absurd (cc)
taken_file s _ x at b to z (chosen _ _ _ _ _ _ _ is d) same none zero' = absurd (cc)
taken_file s _ x at b to z (terminal y items _ _ _ _ is d) same none zero' = opened_file s items (at + 1) b to z d (cc) none (omega arith)

whole_file : (s : Text) (items : List Item) (at : ℕ) (b : Built) (to : ℕ) (z : Built) → Builds s items at b to z → items ≡ whole → b ≡ nothing_built → at ≡ 0 → IsOne s to z
whole_file s _ at b to z (finished _ _) same none zero' = absurd (cc)
whole_file s _ at b to z (terminal _ _ _ _ _ _ is d) same none zero' = absurd (cc)
whole_file s _ at b to z (act _ _ _ _ _ _ _ is d) same none zero' = absurd (cc)
whole_file s _ at b to z (chosen n items alternative _ _ _ _ one d) same none zero' =
    let file : n ≡ r.File = cc in
    let rest : items ≡ [] = cc in
    elim (subst (λ (m : Nonterminal). IsOneOf (productions m) alternative) file one) [
      | inl is ↦ taken_file s (alternative ++ items) is.0 at b to z d (ap (λ (x : List Item). x ++ items) is.2 ∙ ap (λ (x : List Item). item.Terminal is.0 ∷ item.Action action.Open ∷ (file_front ++ (item.Action (action.Close kind.File) ∷ x))) rest) none zero'
      | inr never ↦ absurd never
    ]

-- when a file has been read, one tree stands there, in post-order
pub built_file : (s : Text) (z : Built) → IsBuilt s z → IsForest z.nodes 0 z.tops (length z.nodes) → IsPostOrder z.nodes × IsFileOver (length s.symbols) z.nodes
built_file s z built order =
    let one = whole_file s whole 0 nothing_built (length s.symbols) z built refl refl refl in
    (subst (λ (tops : List ℕ). IsForest z.nodes 0 tops (length z.nodes)) one.tops_are order, one.file)
