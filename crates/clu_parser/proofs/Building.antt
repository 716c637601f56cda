-- What the builder keeps true, step by step. The innermost node that has begun is the last of its list.
use Rattle.std.proofs.Common.{◌≡◌, ℕ, ◌-◌, ◌<◌, ◌≤◌, ◌^◌, List, [], ◌∷◌, ◌++◌, length, reverse, take, drop, refl, sym, ◌∙◌, subst, arith}
use Rattle.std.proofs.lemmas.List.{length_push, length-take-le}
use Rattle.clu_tree.specs.declared.node.Node.{Node}
use Rattle.clu_tree.specs.declared.node.NodeKind.{NodeKind}
use Rattle.clu_tree.specs.Nodes.{Fits}
use Rattle.clu_parser.specs.declared.begun.Begun.{Begun}
use Rattle.clu_parser.specs.Order.{none}
use Rattle.clu_parser.specs.Steps.{spent}
use Rattle.clu_parser.specs.Trees.{Text, Built, IsSound, IsBuilding, AreStacked, node_of}
use Rattle.clu_parser.proofs.Acting.{node_counts}
use Rattle.clu_parser.proofs.Counted.{count_close}
use Rattle.clu_parser.proofs.Sound.{fits_close, sound_close}
use Rattle.clu_parser.proofs.Stack.{popped}
use Rattle.clu_parser.proofs.Stacked.{stacked_close, stacked_pop, stacked_same, stacked_within}

pub building_none : IsBuilding [] [] []
building_none =
    record {
      sound = record {
        below = λ k d less. absurd (omega arith);
        roots = λ k d less. absurd (omega arith);
        differ = λ i j d less less'. absurd (omega arith);
        children = λ i n at. absurd (cc);
        counted = omega arith;
        order = none 0;
      };
      stacked = tt;
    }

-- the innermost is taken away
pub building_pop : (nodes : List Node) (tops : List ℕ) (old new : List Begun) (o : Begun) → IsBuilding nodes tops (reverse old) → old ≡ new ++ o ∷ [] → IsBuilding nodes tops (reverse new)
building_pop nodes tops old new o known is =
    record {
      sound = known.sound;
      stacked = stacked_pop o (reverse new) (length tops) (subst (λ (os : List Begun). AreStacked os (length tops)) (popped old new o is) known.stacked);
    }

-- another comes in its place
pub building_same : (nodes : List Node) (tops : List ℕ) (old rest new : List Begun) (o p : Begun) → IsBuilding nodes tops (reverse old) → old ≡ rest ++ o ∷ [] → new ≡ rest ++ p ∷ [] → p.height ≡ o.height → IsBuilding nodes tops (reverse new)
building_same nodes tops old rest new o p known is is' same =
    record {
      sound = known.sound;
      stacked = subst (λ (os : List Begun). AreStacked os (length tops)) (sym (popped new rest p is')) (stacked_same o p (reverse rest) (length tops) same (subst (λ (os : List Begun). AreStacked os (length tops)) (popped old rest o is) known.stacked));
    }

pub building_within : (nodes : List Node) (tops : List ℕ) (old new : List Begun) (o : Begun) → IsBuilding nodes tops (reverse old) → old ≡ new ++ o ∷ [] → o.height ≤ length tops
building_within nodes tops old new o known is = stacked_within o (reverse new) (length tops) (subst (λ (os : List Begun). AreStacked os (length tops)) (popped old new o is) known.stacked)

pub building_close : (nodes : List Node) (tops : List ℕ) (old new : List Begun) (o : Begun) (n : Node) → IsBuilding nodes tops (reverse old) → old ≡ new ++ o ∷ [] → n.children ≡ drop o.height tops → IsBuilding (nodes ++ n ∷ []) (take o.height tops ++ length nodes ∷ []) (reverse new)
building_close nodes tops old new o n known is kids =
    let within = building_within nodes tops old new o known is in
    record {
      sound = sound_close nodes tops o.height n within known.sound kids;
      stacked = subst (AreStacked (reverse new)) (omega (arith, length_push (take o.height tops) (length nodes), length-take-le o.height tops within))
          (stacked_close o (reverse new) (length tops) (subst (λ (os : List Begun). AreStacked os (length tops)) (popped old new o is) known.stacked));
    }

-- the node that is whole may be added
pub building_fits : (s : Text) (b : Built) (old new : List Begun) (o : Begun) (k : NodeKind) (last : ℕ) (n : Node) → IsSound b.nodes b.tops → b.begun ≡ reverse old → old ≡ new ++ o ∷ [] → n ≡ node_of s k last b.nodes (drop o.height b.tops) o → length b.nodes < 2 ^ 32 - 1 → spent s b < 2 ^ 32 - 1 → Fits b.nodes n
building_fits s b old new o k last n sound same is made room small =
    let whole : Node = node_of s k last b.nodes (drop o.height b.tops) o in
    subst (Fits b.nodes) (sym made)
    (fits_close b.nodes b.tops o.height whole sound refl room
    (count_close s b o (reverse new) whole (same ∙ popped old new o is) refl (node_counts s k last b.nodes (drop o.height b.tops) o) sound.counted small))
