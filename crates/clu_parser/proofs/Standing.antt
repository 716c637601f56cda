-- The nodes that have begun, with the letters of each so far, and what the actions of the grammar make of them.
use Rattle.std.proofs.Common.{◌≡◌, ℕ, ◌+◌, ◌-◌, ◌≤◌, true, false, List, [], ◌∷◌, ◌++◌, length, take, drop, Some, None, slice_get, refl, sym, ap, ◌∙◌, subst, append-nil, arith, inl, inr}
use Rattle.std.proofs.lemmas.List.{length_push, take-append-le, drop-append-le, take_all, drop_all}
use Rattle.clu_lexer.specs.declared.symbols.Symbol.{Symbol}
use Rattle.clu_lexer.specs.declared.symbols.Symbol.TheVariants as s
use Rattle.clu_tree.specs.declared.node.Node.{Node}
use Rattle.clu_tree.proofs.Rows.{got_push}
use Rattle.clu_parser.specs.declared.begun.Begun.{Begun}
use Rattle.clu_parser.specs.Trees.{Text, noted}
use Rattle.clu_parser.specs.Shape.{Letter, own, named, valued, node, Spelled, ended, own_token, a_name, a_value, a_child, last_in, IsProduction, IsShaped}
use Rattle.clu_parser.proofs.Spelling.{spelled_append, spelled_split, spelled_more, production_more}

-- the letters of the nodes that have begun, the innermost first, and last those round all of them
abbrev pub IsStack : Text → List Node → List ℕ → List Begun → List (List Letter) → ℕ → Type 0
IsStack t nodes tops [] [] at = ⊥
IsStack t nodes tops [] (w ∷ []) at = Spelled t nodes 0 w tops [] [] at
IsStack t nodes tops [] (w ∷ v ∷ ws) at = ⊥
IsStack t nodes tops (o ∷ os) [] at = ⊥
IsStack t nodes tops (o ∷ os) (w ∷ ws) at =
    (vs : List ℕ) × (o.height ≤ length tops) × Spelled t nodes o.first w (drop o.height tops) o.names vs at × (o.value ≡ last_in vs) × IsStack t nodes (take o.height tops) os ws o.first

module _ (t : Text) (nodes : List Node) where
  -- one letter more
  push_own_in : (at to : ℕ) (w : List Letter) (x : Symbol) (cs ns vs : List ℕ) → Spelled t nodes at w cs ns vs to → slice_get t.symbols to ≡ Some x → Spelled t nodes at (w ++ own x ∷ []) cs ns vs (to + 1)
  push_own_in at _ _ x _ _ _ (ended _) is = own_token x at [] [] [] [] (at + 1) is (ended (at + 1))
  push_own_in _ to _ x cs ns vs (own_token y at w _ _ _ _ got d) is = own_token y at (w ++ own x ∷ []) cs ns vs (to + 1) got (push_own_in (at + 1) to w x cs ns vs d is)
  push_own_in _ to _ x cs _ vs (a_name at w _ ns _ _ got d) is = a_name at (w ++ own x ∷ []) cs ns vs (to + 1) got (push_own_in (at + 1) to w x cs ns vs d is)
  push_own_in _ to _ x cs ns _ (a_value y at w _ _ vs _ got d) is = a_value y at (w ++ own x ∷ []) cs ns vs (to + 1) got (push_own_in (at + 1) to w x cs ns vs d is)
  push_own_in _ to _ x _ ns vs (a_child c n w cs _ _ _ got d) is = a_child c n (w ++ own x ∷ []) cs ns vs (to + 1) got (push_own_in (n.last + 1) to w x cs ns vs d is)

  push_name_in : (at to : ℕ) (w : List Letter) (cs ns vs : List ℕ) → Spelled t nodes at w cs ns vs to → slice_get t.symbols to ≡ Some s.Idn → Spelled t nodes at (w ++ named ∷ []) cs (ns ++ to ∷ []) vs (to + 1)
  push_name_in at _ _ _ _ _ (ended _) is = a_name at [] [] [] [] (at + 1) is (ended (at + 1))
  push_name_in _ to _ cs ns vs (own_token y at w _ _ _ _ got d) is = own_token y at (w ++ named ∷ []) cs (ns ++ to ∷ []) vs (to + 1) got (push_name_in (at + 1) to w cs ns vs d is)
  push_name_in _ to _ cs _ vs (a_name at w _ ns _ _ got d) is = a_name at (w ++ named ∷ []) cs (ns ++ to ∷ []) vs (to + 1) got (push_name_in (at + 1) to w cs ns vs d is)
  push_name_in _ to _ cs ns _ (a_value y at w _ _ vs _ got d) is = a_value y at (w ++ named ∷ []) cs (ns ++ to ∷ []) vs (to + 1) got (push_name_in (at + 1) to w cs ns vs d is)
  push_name_in _ to _ _ ns vs (a_child c n w cs _ _ _ got d) is = a_child c n (w ++ named ∷ []) cs (ns ++ to ∷ []) vs (to + 1) got (push_name_in (n.last + 1) to w cs ns vs d is)

  push_value_in : (at to : ℕ) (w : List Letter) (x : Symbol) (cs ns vs : List ℕ) → Spelled t nodes at w cs ns vs to → slice_get t.symbols to ≡ Some x → Spelled t nodes at (w ++ valued x ∷ []) cs ns (vs ++ to ∷ []) (to + 1)
  push_value_in at _ _ x _ _ _ (ended _) is = a_value x at [] [] [] [] (at + 1) is (ended (at + 1))
  push_value_in _ to _ x cs ns vs (own_token y at w _ _ _ _ got d) is = own_token y at (w ++ valued x ∷ []) cs ns (vs ++ to ∷ []) (to + 1) got (push_value_in (at + 1) to w x cs ns vs d is)
  push_value_in _ to _ x cs _ vs (a_name at w _ ns _ _ got d) is = a_name at (w ++ valued x ∷ []) cs ns (vs ++ to ∷ []) (to + 1) got (push_value_in (at + 1) to w x cs ns vs d is)
  push_value_in _ to _ x cs ns _ (a_value y at w _ _ vs _ got d) is = a_value y at (w ++ valued x ∷ []) cs ns (vs ++ to ∷ []) (to + 1) got (push_value_in (at + 1) to w x cs ns vs d is)
  push_value_in _ to _ x _ ns vs (a_child c n w cs _ _ _ got d) is = a_child c n (w ++ valued x ∷ []) cs ns (vs ++ to ∷ []) (to + 1) got (push_value_in (n.last + 1) to w x cs ns vs d is)

  push_child_in : (at to : ℕ) (w : List Letter) (c : ℕ) (m : Node) (cs ns vs : List ℕ) → Spelled t nodes at w cs ns vs to → slice_get nodes c ≡ Some m → m.first ≡ to → Spelled t nodes at (w ++ node m.kind ∷ []) (cs ++ c ∷ []) ns vs (m.last + 1)
  push_child_in at _ _ c m _ _ _ (ended _) is here = subst (λ (k : ℕ). Spelled t nodes k (node m.kind ∷ []) (c ∷ []) [] [] (m.last + 1)) here (a_child c m [] [] [] [] (m.last + 1) is (ended (m.last + 1)))
  push_child_in _ to _ c m cs ns vs (own_token y at w _ _ _ _ got d) is here = own_token y at (w ++ node m.kind ∷ []) (cs ++ c ∷ []) ns vs (m.last + 1) got (push_child_in (at + 1) to w c m cs ns vs d is here)
  push_child_in _ to _ c m cs _ vs (a_name at w _ ns _ _ got d) is here = a_name at (w ++ node m.kind ∷ []) (cs ++ c ∷ []) ns vs (m.last + 1) got (push_child_in (at + 1) to w c m cs ns vs d is here)
  push_child_in _ to _ c m cs ns _ (a_value y at w _ _ vs _ got d) is here = a_value y at (w ++ node m.kind ∷ []) (cs ++ c ∷ []) ns vs (m.last + 1) got (push_child_in (at + 1) to w c m cs ns vs d is here)
  push_child_in _ to _ c m _ ns vs (a_child b n w cs _ _ _ got d) is here = a_child b n (w ++ node m.kind ∷ []) (cs ++ c ∷ []) ns vs (m.last + 1) got (push_child_in (n.last + 1) to w c m cs ns vs d is here)

  pub push_own : (tops : List ℕ) (os : List Begun) (w : List Letter) (ws : List (List Letter)) (at : ℕ) (x : Symbol) → IsStack t nodes tops os (w ∷ ws) at → slice_get t.symbols at ≡ Some x → IsStack t nodes tops os ((w ++ own x ∷ []) ∷ ws) (at + 1)
  push_own tops [] w [] at x known is = push_own_in 0 at w x tops [] [] known is
  push_own tops [] w (v ∷ ws) at x known is = absurd known
  push_own tops (o ∷ os) w ws at x known is = (known.0, known.1, push_own_in o.first at w x (drop o.height tops) o.names known.0 known.2 is, known.3, known.4)

  -- a token by itself
  record IsToken (at : ℕ) (x : Symbol) (cs ns vs : List ℕ) (to : ℕ) : Type 0 where
    is : slice_get t.symbols at ≡ Some x
    last : to ≡ at + 1
    no_child : cs ≡ []
    no_name : ns ≡ []
    no_value : vs ≡ []

  one_token : (at to : ℕ) (x : Symbol) (cs ns vs : List ℕ) → Spelled t nodes at (own x ∷ []) cs ns vs to → IsToken at x cs ns vs to
  one_token at to x cs ns vs (own_token _ _ _ _ _ _ _ is d) = let e = none (at + 1) to cs ns vs d in record { is = is; last = e.0; no_child = e.1; no_name = e.2; no_value = e.3 }
    where
      none : (at to : ℕ) (cs ns vs : List ℕ) → Spelled t nodes at [] cs ns vs to → (to ≡ at) × (cs ≡ []) × (ns ≡ []) × (vs ≡ [])
      none at _ _ _ _ (ended _) = (refl, refl, refl, refl)

  -- the last token taken, and the letters before it
  pub record IsTaken (tops : List ℕ) (os : List Begun) (w : List Letter) (ws : List (List Letter)) (at : ℕ) (x : Symbol) : Type 0 where
    pub mid : ℕ
    pub is : slice_get t.symbols mid ≡ Some x
    pub last : at ≡ mid + 1
    pub rest : IsStack t nodes tops os (w ∷ ws) mid

  pub pop_own : (tops : List ℕ) (os : List Begun) (w : List Letter) (ws : List (List Letter)) (at : ℕ) (x : Symbol) → IsStack t nodes tops os ((w ++ own x ∷ []) ∷ ws) at → IsTaken tops os w ws at x
  pop_own tops [] w [] at x known =
      let h = spelled_split t nodes 0 at w (own x ∷ []) tops [] [] known in
      let e = one_token h.mid at x h.ds h.ns h.us h.right in
      let cs : h.cs ≡ tops = sym (h.children_are ∙ ap (λ (y : List ℕ). h.cs ++ y) e.no_child ∙ append-nil h.cs) in
      let ms : h.ms ≡ [] = sym (h.names_are ∙ ap (λ (y : List ℕ). h.ms ++ y) e.no_name ∙ append-nil h.ms) in
      let vs : h.vs ≡ [] = sym (h.values_are ∙ ap (λ (y : List ℕ). h.vs ++ y) e.no_value ∙ append-nil h.vs) in
      record {
        mid = h.mid;
        is = e.is;
        last = e.last;
        rest = subst (λ (y : List ℕ). Spelled t nodes 0 w y [] [] h.mid) cs (subst (λ (y : List ℕ). Spelled t nodes 0 w h.cs y [] h.mid) ms (subst (λ (y : List ℕ). Spelled t nodes 0 w h.cs h.ms y h.mid) vs h.left));
      }
  pop_own tops [] w (v ∷ ws) at x known = absurd known
  pop_own tops (o ∷ os) w ws at x known =
      let h = spelled_split t nodes o.first at w (own x ∷ []) (drop o.height tops) o.names known.0 known.2 in
      let e = one_token h.mid at x h.ds h.ns h.us h.right in
      let cs : h.cs ≡ drop o.height tops = sym (h.children_are ∙ ap (λ (y : List ℕ). h.cs ++ y) e.no_child ∙ append-nil h.cs) in
      let ms : h.ms ≡ o.names = sym (h.names_are ∙ ap (λ (y : List ℕ). h.ms ++ y) e.no_name ∙ append-nil h.ms) in
      let vs : h.vs ≡ known.0 = sym (h.values_are ∙ ap (λ (y : List ℕ). h.vs ++ y) e.no_value ∙ append-nil h.vs) in
      record {
        mid = h.mid;
        is = e.is;
        last = e.last;
        rest = (
          known.0,
          known.1,
          subst (λ (y : List ℕ). Spelled t nodes o.first w y o.names known.0 h.mid) cs (subst (λ (y : List ℕ). Spelled t nodes o.first w h.cs y known.0 h.mid) ms (subst (λ (y : List ℕ). Spelled t nodes o.first w h.cs h.ms y h.mid) vs h.left)),
          known.3,
          known.4,
        );
      }

  -- a node begins at the token just taken
  pub open_node : (tops : List ℕ) (os : List Begun) (w : List Letter) (ws : List (List Letter)) (at : ℕ) (x : Symbol) → IsStack t nodes tops os ((w ++ own x ∷ []) ∷ ws) at
      → IsStack t nodes tops (record { first = at - 1; mark = at - 1; height = length tops; names = []; value = None } ∷ os) ((own x ∷ []) ∷ w ∷ ws) at
  open_node tops os w ws at x known =
      let e = pop_own tops os w ws at x known in
      let first : e.mid ≡ at - 1 = omega (arith, e.last) in
      let one : Spelled t nodes e.mid (own x ∷ []) [] [] [] at = subst (λ (k : ℕ). Spelled t nodes e.mid (own x ∷ []) [] [] [] k) (sym e.last) (own_token x e.mid [] [] [] [] (e.mid + 1) e.is (ended (e.mid + 1))) in (
        [],
        omega arith,
        subst (λ (y : List ℕ). Spelled t nodes (at - 1) (own x ∷ []) y [] [] at) (sym (drop_all (length tops) tops (omega arith))) (subst (λ (k : ℕ). Spelled t nodes k (own x ∷ []) [] [] [] at) first one),
        refl,
        subst (λ (y : List ℕ). IsStack t nodes y os (w ∷ ws) (at - 1)) (sym (take_all (length tops) tops (omega arith))) (subst (λ (k : ℕ). IsStack t nodes tops os (w ∷ ws) k) first e.rest),
      )

  last_push : (vs : List ℕ) (v : ℕ) → Some v ≡ last_in (vs ++ v ∷ [])
  last_push [] v = refl
  last_push (u ∷ []) v = refl
  last_push (u ∷ u' ∷ vs) v = last_push (u' ∷ vs) v

  -- the token just taken is a name of the innermost node
  pub note_name : (tops : List ℕ) (o : Begun) (os : List Begun) (w : List Letter) (ws : List (List Letter)) (at : ℕ) → IsStack t nodes tops (o ∷ os) ((w ++ own s.Idn ∷ []) ∷ ws) at → IsStack t nodes tops (noted true (at - 1) o ∷ os) ((w ++ named ∷ []) ∷ ws) at
  note_name tops o os w ws at known =
      let e = pop_own tops (o ∷ os) w ws at s.Idn known in
      let first : e.mid ≡ at - 1 = omega (arith, e.last) in
      let more = push_name_in o.first e.mid w (drop o.height tops) o.names e.rest.0 e.rest.2 e.is in
      (e.rest.0, e.rest.1, subst (λ (k : ℕ). Spelled t nodes o.first (w ++ named ∷ []) (drop o.height tops) (o.names ++ k ∷ []) e.rest.0 at) first (subst (λ (k : ℕ). Spelled t nodes o.first (w ++ named ∷ []) (drop o.height tops) (o.names ++ e.mid ∷ []) e.rest.0 k) (sym e.last) more), e.rest.3, e.rest.4)

  -- it is its value
  pub note_value : (tops : List ℕ) (o : Begun) (os : List Begun) (w : List Letter) (ws : List (List Letter)) (at : ℕ) (x : Symbol) → IsStack t nodes tops (o ∷ os) ((w ++ own x ∷ []) ∷ ws) at → IsStack t nodes tops (noted false (at - 1) o ∷ os) ((w ++ valued x ∷ []) ∷ ws) at
  note_value tops o os w ws at x known =
      let e = pop_own tops (o ∷ os) w ws at x known in
      let first : e.mid ≡ at - 1 = omega (arith, e.last) in
      let more = push_value_in o.first e.mid w x (drop o.height tops) o.names e.rest.0 e.rest.2 e.is in (
        e.rest.0 ++ (at - 1) ∷ [],
        e.rest.1,
        subst (λ (k : ℕ). Spelled t nodes o.first (w ++ valued x ∷ []) (drop o.height tops) o.names (e.rest.0 ++ k ∷ []) at) first (subst (λ (k : ℕ). Spelled t nodes o.first (w ++ valued x ∷ []) (drop o.height tops) o.names (e.rest.0 ++ e.mid ∷ []) k) (sym e.last) more),
        last_push e.rest.0 (at - 1),
        e.rest.4,
      )

  -- tokens after a node
  pub append_plain : (tops : List ℕ) (os : List Begun) (w ts : List Letter) (ws : List (List Letter)) (mid at : ℕ) → IsStack t nodes tops os (w ∷ ws) mid → Spelled t nodes mid ts [] [] [] at → IsStack t nodes tops os ((w ++ ts) ∷ ws) at
  append_plain tops [] w ts [] mid at known more = subst (λ (y : List ℕ). Spelled t nodes 0 (w ++ ts) y [] [] at) (append-nil tops) (spelled_append t nodes 0 mid at w ts tops [] [] [] [] [] known more)
  append_plain tops [] w ts (v ∷ ws) mid at known more = absurd known
  append_plain tops (o ∷ os) w ts ws mid at known more =
      let both = spelled_append t nodes o.first mid at w ts (drop o.height tops) [] o.names [] known.0 [] known.2 more in (
        known.0,
        known.1,
        subst (λ (y : List ℕ). Spelled t nodes o.first (w ++ ts) y o.names known.0 at) (append-nil (drop o.height tops)) (subst (λ (y : List ℕ). Spelled t nodes o.first (w ++ ts) (drop o.height tops ++ []) y known.0 at) (append-nil o.names) (subst (λ (y : List ℕ). Spelled t nodes o.first (w ++ ts) (drop o.height tops ++ []) (o.names ++ []) y at) (append-nil known.0) both)),
        known.3,
        known.4,
      )

  -- a whole node is a child of the innermost one
  pub push_child : (tops : List ℕ) (os : List Begun) (w : List Letter) (ws : List (List Letter)) (at c : ℕ) (m : Node) → IsStack t nodes tops os (w ∷ ws) at → slice_get nodes c ≡ Some m → m.first ≡ at → IsStack t nodes (tops ++ c ∷ []) os ((w ++ node m.kind ∷ []) ∷ ws) (m.last + 1)
  push_child tops [] w [] at c m known is here = push_child_in 0 at w c m tops [] [] known is here
  push_child tops [] w (v ∷ ws) at c m known is here = absurd known
  push_child tops (o ∷ os) w ws at c m known is here = (
    known.0,
    omega (arith, known.1, length_push tops c),
    subst (λ (y : List ℕ). Spelled t nodes o.first (w ++ node m.kind ∷ []) y o.names known.0 (m.last + 1)) (sym (drop-append-le o.height tops (c ∷ []) known.1)) (push_child_in o.first at w c m (drop o.height tops) o.names known.0 known.2 is here),
    known.3,
    subst (λ (y : List ℕ). IsStack t nodes y os ws o.first) (sym (take-append-le o.height tops (c ∷ []) known.1)) known.4,
  )

pub stack_more : (t : Text) (nodes : List Node) (m : Node) (tops : List ℕ) (os : List Begun) (ws : List (List Letter)) (at : ℕ) → IsStack t nodes tops os ws at → IsStack t (nodes ++ m ∷ []) tops os ws at
stack_more t nodes m tops [] [] at known = known
stack_more t nodes m tops [] (w ∷ []) at known = spelled_more t nodes m 0 at w tops [] [] known
stack_more t nodes m tops [] (w ∷ v ∷ ws) at known = known
stack_more t nodes m tops (o ∷ os) [] at known = known
stack_more t nodes m tops (o ∷ os) (w ∷ ws) at known = (known.0, known.1, spelled_more t nodes m o.first at w (drop o.height tops) o.names known.0 known.2, known.3, stack_more t nodes m (take o.height tops) os ws o.first known.4)

pub shaped_more : (t : Text) (nodes : List Node) (m : Node) → IsShaped t nodes → IsProduction t nodes m → IsShaped t (nodes ++ m ∷ [])
shaped_more t nodes m shaped new i n at = elim (got_push nodes m n i at) [
  | inl old ↦ production_more t nodes m n (shaped i n old)
  | inr here ↦ subst (IsProduction t (nodes ++ m ∷ [])) here.1 (production_more t nodes m m new)
]
