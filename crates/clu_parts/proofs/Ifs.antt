-- The children of an If: its clauses, each a condition with a body, and the body behind `else`, which stands behind the value of
-- the node.
use Rattle.std.proofs.Common.{◌≡◌, ◌∙◌, ℕ, suc, ◌+◌, ◌<◌, ◌≤◌, nat_lt, Bool, true, false, if◌then◌else◌, List, [], ◌∷◌, ◌++◌, length, take, drop, Option, Some, None, slice_get, refl, ap, ap₂, sym, subst, inl, inr, arith, add-one, append_assoc, append-nil, lt-ltb, ltb-true}
use Rattle.std.specs.List.{AllByRecursion}
use Rattle.std.proofs.lemmas.Bool.{cases_Bool}
use Rattle.clu_lexer.specs.declared.symbols.Symbol.{Symbol}
use Rattle.clu_lexer.specs.declared.symbols.Symbol.TheVariants as s
use Rattle.clu_tree.specs.declared.node.Node.{Node}
use Rattle.clu_tree.specs.declared.node.NodeKind.{NodeKind}
use Rattle.clu_tree.specs.declared.node.NodeKind.TheVariants as kind
use Rattle.clu_tree.specs.Nodes.{IsTree}
use Rattle.clu_grammar.specs.Kinds.{is_expression}
use Rattle.clu_parser.specs.Trees.{Text}
use Rattle.clu_parser.specs.Shape.{Part, parts_of, token, value, child, many, expression, Group, equates, statements, elseifs, Letter, own, named, valued, node, IsWord, nothing, token_is, value_is, child_is, no_more, one_more, IsFormOf, forms, kinds_in, values_in, HaveKinds, Spelled, ended, own_token, a_name, a_value, a_child, last_in, IsProduction, IsShaped}
use Rattle.clu_syntax.specs.Kinds.{kind_of, kind_at}
use Rattle.clu_syntax.specs.Bodies.{behind_at, behind_token}
use Rattle.clu_syntax.specs.Splits.{leading_before}
use Rattle.clu_syntax.proofs.Enough.{kinds_append}
use Rattle.clu_parts.specs.Slots.{body_slots, HasClauses, no_more_clauses, clause, IsElse, IfParts}
use Rattle.clu_parts.proofs.Fitting.{several, may_stand, Fits, AllOf, all_append, all_stand, several_before, are_none, ended as no_kinds, word_fits, AreBefore, stand, children_before}
use Rattle.clu_parts.proofs.Counted.{no_values}

-- ---- words: those of a group that repeats, and what stands behind them

record Front (g : Group) (ps : List Part) (w : List Letter) : Type 0 where
  first : List Letter
  rest : List Letter
  is : w ≡ first ++ rest
  all : AllOf (may_stand 2 (parts_of g)) (kinds_in first)
  behind : IsWord ps rest

front : (g : Group) (ps : List Part) (w : List Letter) → IsWord (many g ∷ ps) w → Front g ps w
front g ps w (no_more _ _ _ d) = record { first = []; rest = w; is = refl; all = tt; behind = d }
front g ps _ (one_more _ _ v w u dv dw e) =
    let f : Front g ps w = front g ps w dw in
    record {
      first = v ++ f.first;
      rest = f.rest;
      is = e ∙ ap (λ (xs : List Letter). v ++ xs) f.is ∙ sym (append_assoc v f.first f.rest);
      all = subst (AllOf (may_stand 2 (parts_of g))) (sym (kinds_append v f.first)) (all_append (may_stand 2 (parts_of g)) (kinds_in v) (kinds_in f.first) (all_stand 2 (parts_of g) v dv) f.all);
      behind = f.behind;
    }

-- a condition with its body, as often as it stands there
pub data AreClauses : List NodeKind → Type 0 where
  no_clause : AreClauses []
  a_clause : (k : NodeKind) (bs rest : List NodeKind) → is_expression k ≡ true → Fits body_slots bs → AreClauses rest → AreClauses (k ∷ bs ++ rest)

body_fits : (es ss : List NodeKind) → AllOf (may_stand 2 (parts_of equates)) es → AllOf (may_stand 2 (parts_of statements)) ss → Fits body_slots (es ++ ss)
body_fits es ss e s =
    several_before (may_stand 2 (parts_of equates)) (several (may_stand 2 (parts_of statements)) ∷ []) es ss e
    (are_none (may_stand 2 (parts_of equates)) (several (may_stand 2 (parts_of statements)) ∷ []) ss
    (subst (Fits (several (may_stand 2 (parts_of statements)) ∷ [])) (append-nil ss)
    (several_before (may_stand 2 (parts_of statements)) [] ss [] s (are_none (may_stand 2 (parts_of statements)) [] [] no_kinds))))

record Clauses (ps : List Part) (w : List Letter) : Type 0 where
  first : List Letter
  rest : List Letter
  is : w ≡ first ++ rest
  clauses : AreClauses (kinds_in first)
  behind : IsWord ps rest

-- {elseif expr then body}
more_clauses : (ps : List Part) (w : List Letter) → IsWord (many elseifs ∷ ps) w → Clauses ps w
more_clauses ps w (no_more _ _ _ d) = record { first = []; rest = w; is = refl; clauses = no_clause; behind = d }
more_clauses ps _ (one_more _ _ _ w u (token_is _ _ _ (child_is _ k _ _ is (token_is _ _ v dv))) dw e) =
    let more : Clauses ps w = more_clauses ps w dw in
    record {
      first = own s.Elseif ∷ node k ∷ own s.Then ∷ v ++ more.first;
      rest = more.rest;
      is = e ∙ ap (λ (xs : List Letter). own s.Elseif ∷ node k ∷ own s.Then ∷ v ++ xs) more.is ∙ ap (λ (xs : List Letter). own s.Elseif ∷ node k ∷ own s.Then ∷ xs) (sym (append_assoc v more.first more.rest));
      clauses = subst (λ (ks : List NodeKind). AreClauses (k ∷ ks)) (sym (kinds_append v more.first)) (a_clause k (kinds_in v) (kinds_in more.first) is (word_fits (many equates ∷ many statements ∷ []) v dv) more.clauses);
      behind = more.behind;
    }

-- if expr then body {elseif expr then body}
if_clauses : (ps : List Part) (w : List Letter) → IsWord (token s.If ∷ child expression ∷ token s.Then ∷ many equates ∷ many statements ∷ many elseifs ∷ ps) w → Clauses ps w
if_clauses ps _ (token_is _ _ _ (child_is _ k _ _ is (token_is _ _ v dv))) =
    let e : Front equates (many statements ∷ many elseifs ∷ ps) v = front equates (many statements ∷ many elseifs ∷ ps) v dv in
    let st : Front statements (many elseifs ∷ ps) e.rest = front statements (many elseifs ∷ ps) e.rest e.behind in
    let more : Clauses ps st.rest = more_clauses ps st.rest st.behind in
    let body : List Letter = e.first ++ st.first in
    let split : v ≡ e.first ++ st.first ++ more.first ++ more.rest =
    e.is ∙ ap (λ (xs : List Letter). e.first ++ xs) (st.is ∙ ap (λ (xs : List Letter). st.first ++ xs) more.is)
    ∙ sym (append_assoc e.first st.first (more.first ++ more.rest)) ∙ sym (append_assoc (e.first ++ st.first) more.first more.rest) in
    record {
      first = own s.If ∷ node k ∷ own s.Then ∷ e.first ++ st.first ++ more.first;
      rest = more.rest;
      is = ap (λ (xs : List Letter). own s.If ∷ node k ∷ own s.Then ∷ xs) split;
      clauses =
          subst (λ (ks : List NodeKind). AreClauses (k ∷ ks)) (sym (kinds_append (e.first ++ st.first) more.first))
          (a_clause k (kinds_in (e.first ++ st.first)) (kinds_in more.first) is (subst (Fits body_slots) (sym (kinds_append e.first st.first)) (body_fits (kinds_in e.first) (kinds_in st.first) e.all st.all)) more.clauses);
      behind = more.behind;
    }

-- ---- the same of the children themselves

record Split (nodes : List Node) (n : ℕ) (ks js : List NodeKind) (cs : List ℕ) : Type 0 where
  first : List ℕ
  rest : List ℕ
  is : cs ≡ first ++ rest
  have_first : HaveKinds nodes first ks
  have_rest : HaveKinds nodes rest js
  before_first : AreBefore n first
  before_rest : AreBefore n rest

split : (nodes : List Node) (n : ℕ) (ks js : List NodeKind) (cs : List ℕ) → HaveKinds nodes cs (ks ++ js) → AreBefore n cs → Split nodes n ks js cs
split nodes n [] js cs h l = record { first = []; rest = cs; is = refl; have_first = tt; have_rest = h; before_first = tt; before_rest = l }
split nodes n (k ∷ ks) js [] h l = absurd h
split nodes n (k ∷ ks) js (c ∷ cs) h l =
    let more : Split nodes n ks js cs = split nodes n ks js cs h.3 l.1 in
    record {
      first = c ∷ more.first;
      rest = more.rest;
      is = ap (λ (xs : List ℕ). c ∷ xs) more.is;
      have_first = (h.0, h.1, h.2, more.have_first);
      have_rest = more.have_rest;
      before_first = (l.0, more.before_first);
      before_rest = more.before_rest;
    }

kind_is : (nodes : List Node) (c : ℕ) (k : NodeKind) (m : Node) → slice_get nodes c ≡ Some m → m.kind ≡ k → is_expression k ≡ true → is_expression (kind_at nodes c) ≡ true
kind_is nodes c k m at is h = subst (λ (k : NodeKind). is_expression k ≡ true) (sym (ap kind_of at ∙ is)) h

has_clauses : (nodes : List Node) (n : ℕ) (ks : List NodeKind) (cs : List ℕ) → AreClauses ks → HaveKinds nodes cs ks → AreBefore n cs → HasClauses nodes n cs
has_clauses nodes n _ [] no_clause h l = no_more_clauses
has_clauses nodes n _ (c ∷ cs) no_clause h l = absurd h
has_clauses nodes n _ [] (a_clause k bs rest is f more) h l = absurd h
has_clauses nodes n _ (c ∷ cs) (a_clause k bs rest is f more) h l =
    let p : Split nodes n bs rest cs = split nodes n bs rest cs h.3 l.1 in
    subst (λ (xs : List ℕ). HasClauses nodes n (c ∷ xs)) (sym p.is)
    (clause c p.first p.rest (l.0, kind_is nodes c k h.0 h.1 h.2 is) (stand nodes n body_slots bs p.first f p.have_first p.before_first) (has_clauses nodes n rest p.rest more p.have_rest p.before_rest))

-- ---- where they stand in the text

module _ (t : Text) (nodes : List Node) (shaped : IsShaped t nodes) where
  have_kinds : (at to : ℕ) (w : List Letter) (cs ns vs : List ℕ) → Spelled t nodes at w cs ns vs to → HaveKinds nodes cs (kinds_in w)
  have_kinds at _ _ _ _ _ (ended _) = tt
  have_kinds at to _ cs ns vs (own_token x _ w _ _ _ _ is d) = have_kinds (at + 1) to w cs ns vs d
  have_kinds at to _ cs _ vs (a_name _ w _ ns _ _ is d) = have_kinds (at + 1) to w cs ns vs d
  have_kinds at to _ cs ns _ (a_value x _ w _ _ vs _ is d) = have_kinds (at + 1) to w cs ns vs d
  have_kinds _ to _ _ ns vs (a_child c n w cs _ _ _ is d) = (n, is, refl, have_kinds (n.last + 1) to w cs ns vs d)

  no_values_there : (at to : ℕ) (w : List Letter) (cs ns vs : List ℕ) → Spelled t nodes at w cs ns vs to → values_in w ≡ [] → vs ≡ []
  no_values_there at _ _ _ _ _ (ended _) e = refl
  no_values_there at to _ cs ns vs (own_token x _ w _ _ _ _ is d) e = no_values_there (at + 1) to w cs ns vs d e
  no_values_there at to _ cs _ vs (a_name _ w _ ns _ _ is d) e = no_values_there (at + 1) to w cs ns vs d e
  no_values_there at to _ cs ns _ (a_value x _ w _ _ vs _ is d) e = absurd (cc)
  no_values_there _ to _ _ ns vs (a_child c n w cs _ _ _ is d) e = no_values_there (n.last + 1) to w cs ns vs d e

  -- a child that begins before, or not before, a token
  abbrev BeginsBefore : ℕ → ℕ → Type 0
  BeginsBefore to c = (m : Node) → slice_get nodes c ≡ Some m → m.first < to

  abbrev BeginsFrom : ℕ → ℕ → Type 0
  BeginsFrom at c = (m : Node) → slice_get nodes c ≡ Some m → at ≤ m.first

  same_node : (c : ℕ) (n m : Node) → slice_get nodes c ≡ Some n → slice_get nodes c ≡ Some m → n ≡ m
  same_node c n m a b = let e : Some n ≡ Some m = sym a ∙ b in cc

  onward : (at to : ℕ) (w : List Letter) (cs ns vs : List ℕ) → Spelled t nodes at w cs ns vs to → at ≤ to
  onward at _ _ _ _ _ (ended _) = omega arith
  onward at to _ cs ns vs (own_token x _ w _ _ _ _ is d) = omega (arith, onward (at + 1) to w cs ns vs d)
  onward at to _ cs _ vs (a_name _ w _ ns _ _ is d) = omega (arith, onward (at + 1) to w cs ns vs d)
  onward at to _ cs ns _ (a_value x _ w _ _ vs _ is d) = omega (arith, onward (at + 1) to w cs ns vs d)
  onward _ to _ _ ns vs (a_child c n w cs _ _ _ is d) = let o : n.first ≤ n.last = (shaped c n is).ordered in omega (arith, onward (n.last + 1) to w cs ns vs d, o)

  all_before : (at to : ℕ) (w : List Letter) (cs ns vs : List ℕ) → Spelled t nodes at w cs ns vs to → AllByRecursion (BeginsBefore to) cs
  all_before at _ _ _ _ _ (ended _) = tt
  all_before at to _ cs ns vs (own_token x _ w _ _ _ _ is d) = all_before (at + 1) to w cs ns vs d
  all_before at to _ cs _ vs (a_name _ w _ ns _ _ is d) = all_before (at + 1) to w cs ns vs d
  all_before at to _ cs ns _ (a_value x _ w _ _ vs _ is d) = all_before (at + 1) to w cs ns vs d
  all_before _ to _ _ ns vs (a_child c n w cs _ _ _ is d) =
      let o : n.first ≤ n.last = (shaped c n is).ordered in
      let l : n.last + 1 ≤ to = onward (n.last + 1) to w cs ns vs d in
      (λ m e. subst (λ (x : Node). x.first < to) (same_node c n m is e) (omega (arith, o, l)), all_before (n.last + 1) to w cs ns vs d)

  further : (a b : ℕ) (cs : List ℕ) → a ≤ b → AllByRecursion (BeginsFrom b) cs → AllByRecursion (BeginsFrom a) cs
  further a b [] l all = tt
  further a b (c ∷ cs) l all = (λ m e. let f : b ≤ m.first = all.0 m e in omega (arith, f, l), further a b cs l all.1)

  all_from : (at to : ℕ) (w : List Letter) (cs ns vs : List ℕ) → Spelled t nodes at w cs ns vs to → AllByRecursion (BeginsFrom at) cs
  all_from at _ _ _ _ _ (ended _) = tt
  all_from at to _ cs ns vs (own_token x _ w _ _ _ _ is d) = further at (at + 1) cs (omega arith) (all_from (at + 1) to w cs ns vs d)
  all_from at to _ cs _ vs (a_name _ w _ ns _ _ is d) = further at (at + 1) cs (omega arith) (all_from (at + 1) to w cs ns vs d)
  all_from at to _ cs ns _ (a_value x _ w _ _ vs _ is d) = further at (at + 1) cs (omega arith) (all_from (at + 1) to w cs ns vs d)
  all_from _ to _ _ ns vs (a_child c n w cs _ _ _ is d) =
      let o : n.first ≤ n.last = (shaped c n is).ordered in
      (λ m e. subst (λ (x : Node). n.first ≤ x.first) (same_node c n m is e) (omega arith), further n.first (n.last + 1) cs (omega (arith, o)) (all_from (n.last + 1) to w cs ns vs d))

  -- the tokens of two words, one after the other
  record Parted (at to : ℕ) (v u : List Letter) (cs vs : List ℕ) : Type 0 where
    mid : ℕ
    first : List ℕ
    rest : List ℕ
    first_names : List ℕ
    rest_names : List ℕ
    first_values : List ℕ
    rest_values : List ℕ
    children : cs ≡ first ++ rest
    values : vs ≡ first_values ++ rest_values
    front : Spelled t nodes at v first first_names first_values mid
    behind : Spelled t nodes mid u rest rest_names rest_values to

  part : (at to : ℕ) (v u w : List Letter) (cs ns vs : List ℕ) → w ≡ v ++ u → Spelled t nodes at w cs ns vs to → Parted at to v u cs vs
  part at to [] u w cs ns vs e d =
      record { mid = at; first = []; rest = cs; first_names = []; rest_names = ns; first_values = []; rest_values = vs; children = refl; values = refl; front = ended at; behind = subst (λ (w : List Letter). Spelled t nodes at w cs ns vs to) e d }
  part at _ (l ∷ v) u _ _ _ _ e (ended _) = absurd (cc)
  part at to (own y ∷ v) u _ cs ns vs e (own_token x _ w _ _ _ _ is d) =
      let head : own x ≡ own y = cc in
      let same : x ≡ y = cc in
      let tail : w ≡ v ++ u = cc in
      let p : Parted (at + 1) to v u cs vs = part (at + 1) to v u w cs ns vs tail d in
      record { mid = p.mid; first = p.first; rest = p.rest; first_names = p.first_names; rest_names = p.rest_names; first_values = p.first_values; rest_values = p.rest_values; children = p.children; values = p.values; front = subst (λ (z : Symbol). Spelled t nodes at (own z ∷ v) p.first p.first_names p.first_values p.mid) same (own_token x at v p.first p.first_names p.first_values p.mid is p.front); behind = p.behind }
  part at to (named ∷ v) u _ cs _ vs e (a_name _ w _ ns _ _ is d) =
      let tail : w ≡ v ++ u = cc in
      let p : Parted (at + 1) to v u cs vs = part (at + 1) to v u w cs ns vs tail d in
      record { mid = p.mid; first = p.first; rest = p.rest; first_names = at ∷ p.first_names; rest_names = p.rest_names; first_values = p.first_values; rest_values = p.rest_values; children = p.children; values = p.values; front = a_name at v p.first p.first_names p.first_values p.mid is p.front; behind = p.behind }
  part at to (valued y ∷ v) u _ cs ns _ e (a_value x _ w _ _ vs _ is d) =
      let head : valued x ≡ valued y = cc in
      let same : x ≡ y = cc in
      let tail : w ≡ v ++ u = cc in
      let p : Parted (at + 1) to v u cs vs = part (at + 1) to v u w cs ns vs tail d in
      record { mid = p.mid; first = p.first; rest = p.rest; first_names = p.first_names; rest_names = p.rest_names; first_values = at ∷ p.first_values; rest_values = p.rest_values; children = p.children; values = ap (λ (xs : List ℕ). at ∷ xs) p.values; front = subst (λ (z : Symbol). Spelled t nodes at (valued z ∷ v) p.first p.first_names (at ∷ p.first_values) p.mid) same (a_value x at v p.first p.first_names p.first_values p.mid is p.front); behind = p.behind }
  part _ to (node k ∷ v) u _ _ ns vs e (a_child c n w cs _ _ _ is d) =
      let head : node n.kind ≡ node k = cc in
      let same : n.kind ≡ k = cc in
      let tail : w ≡ v ++ u = cc in
      let p : Parted (n.last + 1) to v u cs vs = part (n.last + 1) to v u w cs ns vs tail d in
      record { mid = p.mid; first = c ∷ p.first; rest = p.rest; first_names = p.first_names; rest_names = p.rest_names; first_values = p.first_values; rest_values = p.rest_values; children = ap (λ (xs : List ℕ). c ∷ xs) p.children; values = p.values; front = subst (λ (z : NodeKind). Spelled t nodes n.first (node z ∷ v) (c ∷ p.first) p.first_names p.first_values p.mid) same (a_child c n v p.first p.first_names p.first_values p.mid is p.front); behind = p.behind }
  part at to (own y ∷ v) u _ cs _ vs e (a_name _ w _ ns _ _ is d) = absurd (cc)
  part at to (own y ∷ v) u _ cs ns _ e (a_value x _ w _ _ vs _ is d) = absurd (cc)
  part _ to (own y ∷ v) u _ _ ns vs e (a_child c n w cs _ _ _ is d) = absurd (cc)
  part at to (named ∷ v) u _ cs ns vs e (own_token x _ w _ _ _ _ is d) = absurd (cc)
  part at to (named ∷ v) u _ cs ns _ e (a_value x _ w _ _ vs _ is d) = absurd (cc)
  part _ to (named ∷ v) u _ _ ns vs e (a_child c n w cs _ _ _ is d) = absurd (cc)
  part at to (valued y ∷ v) u _ cs ns vs e (own_token x _ w _ _ _ _ is d) = absurd (cc)
  part at to (valued y ∷ v) u _ cs _ vs e (a_name _ w _ ns _ _ is d) = absurd (cc)
  part _ to (valued y ∷ v) u _ _ ns vs e (a_child c n w cs _ _ _ is d) = absurd (cc)
  part at to (node k ∷ v) u _ cs ns vs e (own_token x _ w _ _ _ _ is d) = absurd (cc)
  part at to (node k ∷ v) u _ cs _ vs e (a_name _ w _ ns _ _ is d) = absurd (cc)
  part at to (node k ∷ v) u _ cs ns _ e (a_value x _ w _ _ vs _ is d) = absurd (cc)

  -- ---- which children stand before the value

  before_none : (n : Node) (cs : List ℕ) → n.value_token ≡ None → leading_before nodes n cs ≡ length cs
  unfolding leading_before
  before_none n [] e = refl
  before_none n (c ∷ cs) e = ap (λ (b : Bool). if b then 0 else leading_before nodes n cs + 1) (no_value_behind (slice_get nodes c)) ∙ add-one (leading_before nodes n cs) ∙ ap suc (before_none n cs e)
    where
      no_value_behind : (its : Option Node) → behind_at n its ≡ false
      no_value_behind None = refl
      no_value_behind (Some m) = ap (λ (o : Option ℕ). behind_token o m.first) e

  not_behind : (n : Node) (mid c : ℕ) → n.value_token ≡ Some mid → BeginsBefore mid c → behind_at n (slice_get nodes c) ≡ false
  not_behind n mid c e l = by (slice_get nodes c) refl
    where
      not_less : (a b : ℕ) → b ≤ a → nat_lt a b ≡ false
      not_less a b l = elim (cases_Bool (nat_lt a b)) [ inl y ↦ (let less : a < b = ltb-true a b y in absurd (omega (arith, less, l))) | inr y ↦ y ]

      by : (its : Option Node) → slice_get nodes c ≡ its → behind_at n its ≡ false
      by None at = refl
      by (Some m) at = let less : m.first < mid = l m at in ap (λ (o : Option ℕ). behind_token o m.first) e ∙ not_less mid m.first (omega (arith, less))

  is_behind_it : (n : Node) (mid c : ℕ) → n.value_token ≡ Some mid → (there : (m : Node) × (slice_get nodes c ≡ Some m)) → BeginsFrom (mid + 1) c → behind_at n (slice_get nodes c) ≡ true
  is_behind_it n mid c e there l =
      let more : mid + 1 ≤ there.0.first = l there.0 there.1 in
      ap (behind_at n) there.1 ∙ ap (λ (o : Option ℕ). behind_token o there.0.first) e ∙ lt-ltb mid there.0.first (omega (arith, more))

  before_some : (n : Node) (mid : ℕ) (cs ds : List ℕ) (ks : List NodeKind) → n.value_token ≡ Some mid → AllByRecursion (BeginsBefore mid) cs → AllByRecursion (BeginsFrom (mid + 1)) ds → HaveKinds nodes ds ks → leading_before nodes n (cs ++ ds) ≡ length cs
  unfolding leading_before
  before_some n mid [] [] ks e b f h = refl
  before_some n mid [] (d ∷ ds) [] e b f h = absurd h
  before_some n mid [] (d ∷ ds) (k ∷ ks) e b f h = ap (λ (b : Bool). if b then 0 else leading_before nodes n ds + 1) (is_behind_it n mid d e (h.0, h.1) f.0)
  before_some n mid (c ∷ cs) ds ks e b f h =
      ap (λ (b : Bool). if b then 0 else leading_before nodes n (cs ++ ds) + 1) (not_behind n mid c e b.0) ∙ add-one (leading_before nodes n (cs ++ ds)) ∙ ap suc (before_some n mid cs ds ks e b.1 f h)

  last_is : (xs : List ℕ) (y : ℕ) → last_in (xs ++ y ∷ []) ≡ Some y
  last_is [] y = refl
  last_is (x ∷ []) y = refl
  last_is (x ∷ z ∷ xs) y = last_is (z ∷ xs) y

  taken_all : (xs ys : List ℕ) → take (length xs) (xs ++ ys) ≡ xs
  taken_all [] ys = refl
  taken_all (x ∷ xs) ys = ap (λ (zs : List ℕ). x ∷ zs) (taken_all xs ys)

  dropped_all : (xs ys : List ℕ) → drop (length xs) (xs ++ ys) ≡ ys
  dropped_all [] ys = refl
  dropped_all (x ∷ xs) ys = dropped_all xs ys

  abbrev clause_parts : List Part → List Part
  clause_parts ps = token s.If ∷ child expression ∷ token s.Then ∷ many equates ∷ many statements ∷ many elseifs ∷ ps

  abbrev no_else : List Part
  no_else = token s.End ∷ []

  abbrev an_else : List Part
  an_else = value (s.Else ∷ []) ∷ many equates ∷ many statements ∷ token s.End ∷ []

  front_before : (i : ℕ) (xs ys : List ℕ) → AreBefore i (xs ++ ys) → AreBefore i xs
  front_before i [] ys l = tt
  front_before i (x ∷ xs) ys l = (l.0, front_before i xs ys l.1)

  rest_before : (i : ℕ) (xs ys : List ℕ) → AreBefore i (xs ++ ys) → AreBefore i ys
  rest_before i [] ys l = l
  rest_before i (x ∷ xs) ys l = rest_before i xs ys l.1

  module _ (tree : IsTree nodes) (i : ℕ) (n : Node) (at : slice_get nodes i ≡ Some n) (p : IsProduction t nodes n) where
    before_node : AreBefore i n.children
    before_node = children_before nodes tree i n at

    with_count : (xs ys : List ℕ) → n.children ≡ xs ++ ys → leading_before nodes n n.children ≡ length xs → HasClauses nodes i xs → IsElse nodes i n.value_token ys → IfParts nodes i n
    with_count xs ys e count h b =
        let front : take (leading_before nodes n n.children) n.children ≡ xs = ap₂ (λ (m : ℕ) (cs : List ℕ). take m cs) count e ∙ taken_all xs ys in
        let behind : drop (leading_before nodes n n.children) n.children ≡ ys = ap₂ (λ (m : ℕ) (cs : List ℕ). drop m cs) count e ∙ dropped_all xs ys in
        record { clauses = subst (HasClauses nodes i) (sym front) h; behind = subst (IsElse nodes i n.value_token) (sym behind) b }

    no_children : (at to : ℕ) (w : List Letter) (cs ns vs : List ℕ) → IsWord no_else w → Spelled t nodes at w cs ns vs to → cs ≡ []
    no_children at to _ cs ns vs (token_is _ _ _ nothing) (own_token _ _ _ _ _ _ _ is (ended _)) = refl

    without_else : (c : Clauses no_else p.word) → n.value_token ≡ None → IfParts nodes i n
    without_else c none =
        let q : Parted n.first (n.last + 1) c.first c.rest n.children p.values = part n.first (n.last + 1) c.first c.rest p.word n.children p.names p.values c.is p.spelled in
        let before_q : AreBefore i (q.first ++ q.rest) = subst (AreBefore i) q.children before_node in
        let empty : q.rest ≡ [] = no_children q.mid (n.last + 1) c.rest q.rest q.rest_names q.rest_values c.behind q.behind in
        let whole : n.children ≡ q.first ++ [] = q.children ∙ ap (λ (ys : List ℕ). q.first ++ ys) empty in
        with_count q.first [] whole (before_none n n.children none ∙ ap length (whole ∙ append-nil q.first))
        (has_clauses nodes i (kinds_in c.first) q.first c.clauses (have_kinds n.first q.mid c.first q.first q.first_names q.first_values q.front) (front_before i q.first q.rest before_q))
        (subst (λ (o : Option ℕ). IsElse nodes i o []) (sym none) refl)

    behind_value : (first_word : List Letter) → AreClauses (kinds_in first_word) → (x : Symbol) (u : List Letter) → IsWord (many equates ∷ many statements ∷ token s.End ∷ []) u →
        (mid : ℕ) (rest rest_names rest_values first first_names first_values : List ℕ) → n.children ≡ first ++ rest → p.values ≡ first_values ++ rest_values →
        Spelled t nodes n.first first_word first first_names first_values mid → Spelled t nodes mid (valued x ∷ u) rest rest_names rest_values (n.last + 1) → IfParts nodes i n
    behind_value first_word clauses x u du mid rest rest_names _ first first_names first_values children values sf (a_value _ _ _ _ _ vs _ _ d) =
        let none : vs ≡ [] = no_values_there (mid + 1) (n.last + 1) u rest rest_names vs d (no_values 2 (many equates ∷ many statements ∷ token s.End ∷ []) u du refl) in
        let found : n.value_token ≡ Some mid = p.token_is ∙ ap last_in (values ∙ ap (λ (xs : List ℕ). first_values ++ mid ∷ xs) none) ∙ last_is first_values mid in
        let before_q : AreBefore i (first ++ rest) = subst (AreBefore i) children before_node in
        let kinds : HaveKinds nodes rest (kinds_in u) = have_kinds (mid + 1) (n.last + 1) u rest rest_names vs d in
        with_count first rest children
        (ap (leading_before nodes n) children ∙ before_some n mid first rest (kinds_in u) found (all_before n.first mid first_word first first_names first_values sf) (all_from (mid + 1) (n.last + 1) u rest rest_names vs d) kinds)
        (has_clauses nodes i (kinds_in first_word) first clauses (have_kinds n.first mid first_word first first_names first_values sf) (front_before i first rest before_q))
        (subst (λ (o : Option ℕ). IsElse nodes i o rest) (sym found) (stand nodes i body_slots (kinds_in u) rest (word_fits (many equates ∷ many statements ∷ token s.End ∷ []) u du) kinds (rest_before i first rest before_q)))

    with_else : (c : Clauses an_else p.word) (rest : List Letter) → IsWord an_else rest → p.word ≡ c.first ++ rest → IfParts nodes i n
    with_else c _ (value_is _ x _ u has du) is =
        let q : Parted n.first (n.last + 1) c.first (valued x ∷ u) n.children p.values = part n.first (n.last + 1) c.first (valued x ∷ u) p.word n.children p.names p.values is p.spelled in
        behind_value c.first c.clauses x u du q.mid q.rest q.rest_names q.rest_values q.first q.first_names q.first_values q.children q.values q.front q.behind

    pub if_parts : n.kind ≡ kind.If → IfParts nodes i n
    if_parts is = elim (subst (λ (k : NodeKind). IsFormOf p.form (forms k)) is p.of_kind) [
      | inl e ↦ (let d : IsWord (clause_parts no_else) p.word = subst (λ (form : List Part). IsWord form p.word) e p.is_word in
          let vs : p.values ≡ [] = no_values_there n.first (n.last + 1) p.word n.children p.names p.values p.spelled (no_values 3 (clause_parts no_else) p.word d refl) in
          without_else (if_clauses no_else p.word d) (p.token_is ∙ ap last_in vs))
      | inr (inl e) ↦ (let c : Clauses an_else p.word = if_clauses an_else p.word (subst (λ (form : List Part). IsWord form p.word) e p.is_word) in with_else c c.rest c.behind c.is)
      | inr (inr never) ↦ absurd never
    ]
