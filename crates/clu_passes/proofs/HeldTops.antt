-- While items are read that leave a node begun as it is, it comes to hold what is made meanwhile.
use Rattle.std.proofs.Common.{◌≡◌, ◌∙◌, ◌⊎◌, ℕ, zero, suc, ◌+◌, ◌-◌, ◌<◌, ◌≤◌, ◌&&◌, not, Bool, true, false, if◌then◌else◌, List, [], ◌∷◌, ◌++◌, length, take, drop, Option, Some, None, slice_get, refl, ap, sym, subst, inl, inr, arith, append-nil}
use Rattle.clu_tree.specs.declared.node.Node.{Node}
use Rattle.clu_tree.specs.declared.node.NodeKind.{NodeKind}
use Rattle.clu_tree.specs.declared.node.NodeKind.TheVariants as kind
use Rattle.clu_grammar.specs.declared.items.Action.{Action}
use Rattle.clu_grammar.specs.declared.items.Action.TheVariants as action
use Rattle.clu_parser.specs.declared.begun.Begun.{Begun}
use Rattle.clu_parser.specs.Spellings.{closes, is_idn}
use Rattle.clu_parser.specs.Trees.{Text, Built, acted, node_of, opened, wrapped_in, wrapped_on, noted, noted_in, given_in, closed, then_wrapped}
use Rattle.clu_parser.proofs.Above.{above_for}
use Rattle.clu_parser.proofs.Forest.{got_last}
use Rattle.clu_parser.proofs.Reading.{begun_after}
use Rattle.clu_syntax.specs.Splits.{is_of}
use Rattle.clu_passes.proofs.PlainNodes.{IsClosed, IsNoParm, closed_is, no_parm_more, taken_or}

-- ---- a node that has begun stays where others begin and end above it

pub record IsOver (h : ℕ) (os begun : List Begun) (depth : ℕ) : Type 0 where
  pub above : List Begun
  pub o : Begun
  pub is : begun ≡ above ++ o ∷ os
  pub height : o.height ≡ h
  pub size : length above + 1 ≡ depth

over_opened : (h : ℕ) (os begun : List Begun) (depth : ℕ) (new : Begun) → IsOver h os begun depth → IsOver h os (new ∷ begun) (depth + 1)
over_opened h os begun depth new x = let l : length x.above + 1 ≡ depth = x.size in record { above = new ∷ x.above; o = x.o; is = ap (λ (ys : List Begun). new ∷ ys) x.is; height = x.height; size = omega (arith, l) }

over_closed : (h : ℕ) (os : List Begun) (depth : ℕ) (p : Begun) (ps : List Begun) → 2 ≤ depth → IsOver h os (p ∷ ps) depth → IsOver h os ps (depth - 1)
over_closed h os depth p ps deep x = by x.above x.is x.size
  where
    by : (above : List Begun) → (p ∷ ps) ≡ above ++ x.o ∷ os → length above + 1 ≡ depth → IsOver h os ps (depth - 1)
    by [] e l = absurd (omega (arith, l, deep))
    by (a ∷ above) e l = record { above = above; o = x.o; is = cc; height = x.height; size = omega (arith, l) }

-- another one of the same height in the place of the innermost
over_changed : (h : ℕ) (os : List Begun) (depth : ℕ) (p q : Begun) (ps : List Begun) → q.height ≡ p.height → IsOver h os (p ∷ ps) depth → IsOver h os (q ∷ ps) depth
over_changed h os depth p q ps same x = by x.above x.is x.size
  where
    by : (above : List Begun) → (p ∷ ps) ≡ above ++ x.o ∷ os → length above + 1 ≡ depth → IsOver h os (q ∷ ps) depth
    by [] e l =
        let first : p ≡ x.o = cc in
        let rest : ps ≡ os = cc in
        record { above = []; o = q; is = ap (λ (ys : List Begun). q ∷ ys) rest; height = same ∙ ap (λ (o : Begun). o.height) first ∙ x.height; size = l }
    by (a ∷ above) e l = let rest : ps ≡ above ++ x.o ∷ os = cc in record { above = q ∷ above; o = x.o; is = ap (λ (ys : List Begun). q ∷ ys) rest; height = x.height; size = omega (arith, l) }

noted_height : (is_name : Bool) (taken : ℕ) (o : Begun) → (noted is_name taken o).height ≡ o.height
noted_height true taken o = refl
noted_height false taken o = refl

-- the whole nodes that no node holds: those that there were, or nodes that are no Parm
abbrev pub AreTops : List ℕ → Built → Type 0
AreTops old b = (k v : ℕ) → slice_get b.tops k ≡ Some v → (slice_get old k ≡ Some v) ⊎ IsNoParm b.nodes v

abbrev pub closes_parm : Action → Bool
closes_parm (action.Close k) = is_of kind.Parm k
closes_parm _ = false

pub record IsInside (h : ℕ) (os : List Begun) (old : List ℕ) (depth : ℕ) (b : Built) : Type 0 where
  pub over : IsOver h os b.begun depth
  pub tops : AreTops old b

module _ (h : ℕ) (os : List Begun) (old : List ℕ) where
  abbrev Inside : ℕ → Built → Type 0
  Inside = IsInside h os old

  opened_inside : (first mark height depth : ℕ) (b : Built) → Inside depth b → Inside (depth + 1) (opened first mark height b)
  opened_inside first mark height depth b x = record { over = over_opened h os b.begun depth (record { first = first; mark = mark; height = height; names = []; value = None }) x.over; tops = x.tops }

  wrapped_on_inside : (taken depth : ℕ) (b c : Built) (o : Option Node) → wrapped_on taken b o ≡ Some c → Inside depth b → Inside (depth + 1) c
  wrapped_on_inside taken depth b c None e x = absurd (cc)
  wrapped_on_inside taken depth b c (Some n) e x = let same : opened n.first taken (length b.tops - 1) b ≡ c = cc in subst (Inside (depth + 1)) same (opened_inside n.first taken (length b.tops - 1) depth b x)

  wrapped_inside : (taken depth : ℕ) (b c : Built) (o : Option ℕ) → wrapped_in taken b o ≡ Some c → Inside depth b → Inside (depth + 1) c
  wrapped_inside taken depth b c None e x = absurd (cc)
  wrapped_inside taken depth b c (Some top) e x = wrapped_on_inside taken depth b c (slice_get b.nodes top) e x

  noted_inside : (is_name : Bool) (taken depth : ℕ) (b c : Built) (all : List Begun) → b.begun ≡ all → noted_in is_name taken b all ≡ Some c → Inside depth b → Inside depth c
  noted_inside is_name taken depth b c [] same e x = absurd (cc)
  noted_inside is_name taken depth b c (o ∷ rest) same e x =
      let its : record { nodes = b.nodes; tops = b.tops; begun = noted is_name taken o ∷ rest } ≡ c = cc in
      subst (Inside depth) its
      (record { over = over_changed h os depth o (noted is_name taken o) rest (noted_height is_name taken o) (subst (λ (all : List Begun). IsOver h os all depth) same x.over); tops = x.tops })

  given_inside : (depth : ℕ) (b c : Built) (all : List Begun) → 2 ≤ depth → b.begun ≡ all → given_in b all ≡ Some c → Inside depth b → Inside (depth - 1) c
  given_inside depth b c [] deep same e x = absurd (cc)
  given_inside depth b c (o ∷ []) deep same e x = absurd (cc)
  given_inside depth b c (o ∷ p ∷ rest) deep same e x =
      let both : Begun = record { first = p.first; mark = p.mark; height = p.height; names = p.names ++ o.names; value = p.value } in
      let its : record { nodes = b.nodes; tops = b.tops; begun = record { first = p.first; mark = p.mark; height = p.height; names = p.names ++ o.names; value = p.value } ∷ rest } ≡ c = cc in
      subst (Inside (depth - 1)) its
      (record { over = over_changed h os (depth - 1) p both rest refl (over_closed h os depth o (p ∷ rest) deep (subst (λ (all : List Begun). IsOver h os all depth) same x.over)); tops = x.tops })

  closed_inside : (t : Text) (k : NodeKind) (last depth : ℕ) (b c : Built) → closed t k last b ≡ Some c → is_of kind.Parm k ≡ false → 2 ≤ depth → Inside depth b → Inside (depth - 1) c
  closed_inside t k last depth b c e other deep x =
      let y : IsClosed t k last b c = closed_is t k last b c b.begun refl e in
      let node : Node = node_of t k last b.nodes (drop y.o.height b.tops) y.o in
      subst (Inside (depth - 1)) (sym y.is)
      (record {
        over = over_closed h os depth y.o y.os deep (subst (λ (all : List Begun). IsOver h os all depth) y.begun x.over);
        tops = λ place v at. elim (taken_or y.o.height b.tops (length b.nodes) place v at) [
          | inl had ↦ elim (x.tops place v had) [
            | inl before ↦ inl before
            | inr made ↦ inr (no_parm_more b.nodes node v made)
          ]
          | inr new ↦ inr (node, subst (λ (i : ℕ). slice_get (b.nodes ++ node ∷ []) i ≡ Some node) new (got_last b.nodes node), other)
        ];
      })

  based_inside : (t : Text) (taken depth : ℕ) (b c : Built) (o : Option Built) → closed t kind.Name (taken - 1) b ≡ o → then_wrapped taken o ≡ Some c → 2 ≤ depth → Inside depth b → Inside depth c
  based_inside t taken depth b c None was e deep x = absurd (cc)
  based_inside t taken depth b c (Some d) was e deep x =
      let same : depth - 1 + 1 ≡ depth = omega (arith, deep) in
      subst (λ (n : ℕ). Inside n c) same (wrapped_inside taken (depth - 1) d c (slice_get d.tops (length d.tops - 1)) e (closed_inside t kind.Name (taken - 1) depth b d was refl deep x))

  pub acted_inside : (t : Text) (a : Action) (taken depth : ℕ) (b c : Built) → acted t a taken b ≡ Some c → closes_parm a ≡ false → above_for a ≤ depth → Inside depth b → Inside (begun_after a depth) c
  acted_inside t action.Open taken depth b c e other deep x = let same : opened taken taken (length b.tops) b ≡ c = cc in subst (Inside (depth + 1)) same (opened_inside taken taken (length b.tops) depth b x)
  acted_inside t action.Wrap taken depth b c e other deep x = wrapped_inside taken depth b c (slice_get b.tops (length b.tops - 1)) e x
  acted_inside t action.Note taken depth b c e other deep x = noted_inside (is_idn (slice_get t.symbols taken)) taken depth b c b.begun refl e x
  acted_inside t (action.Close k) taken depth b c e other deep x = closed_inside t k taken depth b c e other deep x
  acted_inside t action.Base taken depth b c e other deep x = by (closes 0 (drop (taken + 1) t.symbols)) e
    where
      by : (is_type : Bool) → (if is_type then Some b else then_wrapped taken (closed t kind.Name (taken - 1) b)) ≡ Some c → Inside depth c
      by true e = let same : b ≡ c = cc in subst (Inside depth) same x
      by false e = based_inside t taken depth b c (closed t kind.Name (taken - 1) b) refl e deep x
  acted_inside t action.Give taken depth b c e other deep x = given_inside depth b c b.begun deep refl e x
