-- Tokens that are spelled by letters: put together, taken apart, and with more nodes.
use Rattle.std.proofs.Common.{◌≡◌, ℕ, zero, suc, ◌+◌, ◌<◌, ◌≤◌, true, List, [], ◌∷◌, ◌++◌, Some, slice_get, refl, ap, subst, arith}
use Rattle.std.specs.List.{list_all}
use Rattle.clu_tree.specs.declared.node.Node.{Node}
use Rattle.clu_parser.specs.Trees.{Text}
use Rattle.clu_parser.specs.Shape.{Letter, own, named, valued, node, Spelled, ended, own_token, a_name, a_value, a_child, IsProduction, IsShaped}
use Rattle.clu_parser.proofs.Words.{is_own}

module _ (t : Text) (nodes : List Node) where
  pub spelled_append : (at mid to : ℕ) (v w : List Letter) (cs ds ms ns vs us : List ℕ) → Spelled t nodes at v cs ms vs mid → Spelled t nodes mid w ds ns us to → Spelled t nodes at (v ++ w) (cs ++ ds) (ms ++ ns) (vs ++ us) to
  spelled_append at _ to _ w _ ds _ ns _ us (ended _) e = e
  spelled_append _ mid to _ w cs ds ms ns vs us (own_token x at v _ _ _ _ is d) e = own_token x at (v ++ w) (cs ++ ds) (ms ++ ns) (vs ++ us) to is (spelled_append (at + 1) mid to v w cs ds ms ns vs us d e)
  spelled_append _ mid to _ w cs ds _ ns vs us (a_name at v _ ms _ _ is d) e = a_name at (v ++ w) (cs ++ ds) (ms ++ ns) (vs ++ us) to is (spelled_append (at + 1) mid to v w cs ds ms ns vs us d e)
  spelled_append _ mid to _ w cs ds ms ns _ us (a_value x at v _ _ vs _ is d) e = a_value x at (v ++ w) (cs ++ ds) (ms ++ ns) (vs ++ us) to is (spelled_append (at + 1) mid to v w cs ds ms ns vs us d e)
  spelled_append _ mid to _ w _ ds ms ns vs us (a_child c n v cs _ _ _ is d) e = a_child c n (v ++ w) (cs ++ ds) (ms ++ ns) (vs ++ us) to is (spelled_append (n.last + 1) mid to v w cs ds ms ns vs us d e)

  -- letters in two parts
  pub record Halves (at : ℕ) (v w : List Letter) (children names values : List ℕ) (to : ℕ) : Type 0 where
    pub mid : ℕ
    pub cs : List ℕ
    pub ds : List ℕ
    pub ms : List ℕ
    pub ns : List ℕ
    pub vs : List ℕ
    pub us : List ℕ
    pub left : Spelled t nodes at v cs ms vs mid
    pub right : Spelled t nodes mid w ds ns us to
    pub children_are : children ≡ cs ++ ds
    pub names_are : names ≡ ms ++ ns
    pub values_are : values ≡ vs ++ us

  halves : (at to : ℕ) (v w u : List Letter) (children names values : List ℕ) → Spelled t nodes at u children names values to → u ≡ v ++ w → Halves at v w children names values to
  halves at to [] w u children names values d same =
      record { mid = at; cs = []; ds = children; ms = []; ns = names; vs = []; us = values; left = ended at; right = subst (λ (x : List Letter). Spelled t nodes at x children names values to) same d; children_are = refl; names_are = refl; values_are = refl }
  halves at _ (l ∷ v) w _ _ _ _ (ended _) same = absurd (cc)
  halves at to (l ∷ v) w _ children names values (own_token x _ u _ _ _ _ is d) same =
      let head : own x ≡ l = cc in
      let r = halves (at + 1) to v w u children names values d (cc) in
      record { mid = r.mid; cs = r.cs; ds = r.ds; ms = r.ms; ns = r.ns; vs = r.vs; us = r.us; left = subst (λ (k : Letter). Spelled t nodes at (k ∷ v) r.cs r.ms r.vs r.mid) head (own_token x at v r.cs r.ms r.vs r.mid is r.left); right = r.right; children_are = r.children_are; names_are = r.names_are; values_are = r.values_are }
  halves at to (l ∷ v) w _ children _ values (a_name _ u _ names _ _ is d) same =
      let head : named ≡ l = cc in
      let r = halves (at + 1) to v w u children names values d (cc) in
      record { mid = r.mid; cs = r.cs; ds = r.ds; ms = at ∷ r.ms; ns = r.ns; vs = r.vs; us = r.us; left = subst (λ (k : Letter). Spelled t nodes at (k ∷ v) r.cs (at ∷ r.ms) r.vs r.mid) head (a_name at v r.cs r.ms r.vs r.mid is r.left); right = r.right; children_are = r.children_are; names_are = ap (λ (x : List ℕ). at ∷ x) r.names_are; values_are = r.values_are }
  halves at to (l ∷ v) w _ children names _ (a_value x _ u _ _ values _ is d) same =
      let head : valued x ≡ l = cc in
      let r = halves (at + 1) to v w u children names values d (cc) in
      record { mid = r.mid; cs = r.cs; ds = r.ds; ms = r.ms; ns = r.ns; vs = at ∷ r.vs; us = r.us; left = subst (λ (k : Letter). Spelled t nodes at (k ∷ v) r.cs r.ms (at ∷ r.vs) r.mid) head (a_value x at v r.cs r.ms r.vs r.mid is r.left); right = r.right; children_are = r.children_are; names_are = r.names_are; values_are = ap (λ (x : List ℕ). at ∷ x) r.values_are }
  halves _ to (l ∷ v) w _ _ names values (a_child c n u children _ _ _ is d) same =
      let head : node n.kind ≡ l = cc in
      let r = halves (n.last + 1) to v w u children names values d (cc) in
      record { mid = r.mid; cs = c ∷ r.cs; ds = r.ds; ms = r.ms; ns = r.ns; vs = r.vs; us = r.us; left = subst (λ (k : Letter). Spelled t nodes n.first (k ∷ v) (c ∷ r.cs) r.ms r.vs r.mid) head (a_child c n v r.cs r.ms r.vs r.mid is r.left); right = r.right; children_are = ap (λ (x : List ℕ). c ∷ x) r.children_are; names_are = r.names_are; values_are = r.values_are }

  pub spelled_split : (at to : ℕ) (v w : List Letter) (children names values : List ℕ) → Spelled t nodes at (v ++ w) children names values to → Halves at v w children names values to
  spelled_split at to v w children names values d = halves at to v w (v ++ w) children names values d refl

  -- tokens alone
  pub record IsPlain (at : ℕ) (w : List Letter) (children names values : List ℕ) (to : ℕ) : Type 0 where
    pub no_child : children ≡ []
    pub no_name : names ≡ []
    pub no_value : values ≡ []

  pub plain_spelled : (at to : ℕ) (w : List Letter) (children names values : List ℕ) → list_all is_own w ≡ true → Spelled t nodes at w children names values to → IsPlain at w children names values to
  plain_spelled at _ _ _ _ _ h (ended _) = record { no_child = refl; no_name = refl; no_value = refl }
  plain_spelled at to _ children names values h (own_token x _ w _ _ _ _ is d) =
      let r = plain_spelled (at + 1) to w children names values h d in record { no_child = r.no_child; no_name = r.no_name; no_value = r.no_value }
  plain_spelled at to _ children _ values h (a_name _ w _ names _ _ is d) = absurd (cc)
  plain_spelled at to _ children names _ h (a_value x _ w _ _ values _ is d) = absurd (cc)
  plain_spelled _ to _ _ names values h (a_child c n w children _ _ _ is d) = absurd (cc)

  -- the nodes end no earlier than they begin
  pub IsOrdered : Type 0
  IsOrdered = (i : ℕ) (n : Node) → slice_get nodes i ≡ Some n → n.first ≤ n.last

-- with more nodes
got_before : (nodes : List Node) (n m : Node) (i : ℕ) → slice_get nodes i ≡ Some m → slice_get (nodes ++ n ∷ []) i ≡ Some m
got_before [] n m i at = absurd (cc)
got_before (k ∷ nodes) n m zero at = at
got_before (k ∷ nodes) n m (suc i) at = got_before nodes n m i at

pub spelled_more : (t : Text) (nodes : List Node) (m : Node) (at to : ℕ) (w : List Letter) (children names values : List ℕ) → Spelled t nodes at w children names values to → Spelled t (nodes ++ m ∷ []) at w children names values to
spelled_more t nodes m at _ _ _ _ _ (ended _) = ended at
spelled_more t nodes m _ to _ children names values (own_token x at w _ _ _ _ is d) = own_token x at w children names values to is (spelled_more t nodes m (at + 1) to w children names values d)
spelled_more t nodes m _ to _ children _ values (a_name at w _ names _ _ is d) = a_name at w children names values to is (spelled_more t nodes m (at + 1) to w children names values d)
spelled_more t nodes m _ to _ children names _ (a_value x at w _ _ values _ is d) = a_value x at w children names values to is (spelled_more t nodes m (at + 1) to w children names values d)
spelled_more t nodes m _ to _ _ names values (a_child c n w children _ _ _ is d) = a_child c n w children names values to (got_before nodes m n c is) (spelled_more t nodes m (n.last + 1) to w children names values d)

pub production_more : (t : Text) (nodes : List Node) (m n : Node) → IsProduction t nodes n → IsProduction t (nodes ++ m ∷ []) n
production_more t nodes m n p =
    record {
      form = p.form;
      word = p.word;
      names = p.names;
      values = p.values;
      of_kind = p.of_kind;
      is_word = p.is_word;
      spelled = spelled_more t nodes m n.first (n.last + 1) p.word n.children p.names p.values p.spelled;
      names_are = p.names_are;
      token_is = p.token_is;
      value_is = p.value_is;
      ordered = p.ordered;
    }

-- the tokens do not end before they begin, and after that if there is a letter
pub spelled_forward : (t : Text) (nodes : List Node) (at to : ℕ) (w : List Letter) (children names values : List ℕ) → IsShaped t nodes → Spelled t nodes at w children names values to → at ≤ to
spelled_forward t nodes at _ _ _ _ _ shaped (ended _) = omega arith
spelled_forward t nodes _ to _ children names values shaped (own_token x at w _ _ _ _ is d) = omega (arith, spelled_forward t nodes (at + 1) to w children names values shaped d)
spelled_forward t nodes _ to _ children _ values shaped (a_name at w _ names _ _ is d) = omega (arith, spelled_forward t nodes (at + 1) to w children names values shaped d)
spelled_forward t nodes _ to _ children names _ shaped (a_value x at w _ _ values _ is d) = omega (arith, spelled_forward t nodes (at + 1) to w children names values shaped d)
spelled_forward t nodes _ to _ _ names values shaped (a_child c n w children _ _ _ is d) = omega (arith, spelled_forward t nodes (n.last + 1) to w children names values shaped d, (shaped c n is).ordered)

pub spelled_onward : (t : Text) (nodes : List Node) (at to : ℕ) (l : Letter) (w : List Letter) (children names values : List ℕ) → IsShaped t nodes → Spelled t nodes at (l ∷ w) children names values to → at < to
spelled_onward t nodes at to _ w children names values shaped (own_token x _ _ _ _ _ _ is d) = omega (arith, spelled_forward t nodes (at + 1) to w children names values shaped d)
spelled_onward t nodes at to _ w children _ values shaped (a_name _ _ _ names _ _ is d) = omega (arith, spelled_forward t nodes (at + 1) to w children names values shaped d)
spelled_onward t nodes at to _ w children names _ shaped (a_value x _ _ _ _ values _ is d) = omega (arith, spelled_forward t nodes (at + 1) to w children names values shaped d)
spelled_onward t nodes _ to _ w _ names values shaped (a_child c n _ children _ _ _ is d) = omega (arith, spelled_forward t nodes (n.last + 1) to w children names values shaped d, (shaped c n is).ordered)
