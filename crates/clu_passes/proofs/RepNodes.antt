-- Where an equate without a name may stand in the tree that reading builds: what is known of each node that has begun, and what an action
-- makes of it.
use Rattle.std.proofs.Common.{◌≡◌, ◌∙◌, ◌⊎◌, ℕ, ◌+◌, ◌-◌, ◌≤◌, ◌&&◌, ◌||◌, not, cond, Bool, true, false, if◌then◌else◌, List, [], ◌∷◌, ◌++◌, length, map, take, drop, Option, Some, None, slice_get, refl, ap, ap₂, sym, subst, inl, inr, arith, append-nil, append_assoc, length-append}
use Rattle.std.proofs.lemmas.List.{length_push}
use Rattle.std.proofs.Math.Seq.{drop-append_seam, take-append_seam}
use Rattle.std.proofs.lemmas.Bool.{or_cases}
use Rattle.clu_base.proofs.Lists.{got_front}
use Rattle.clu_tree.specs.declared.node.Node.{Node}
use Rattle.clu_tree.specs.declared.node.NodeKind.{NodeKind}
use Rattle.clu_tree.specs.declared.node.NodeKind.TheVariants as kind
use Rattle.clu_grammar.specs.declared.items.Action.{Action}
use Rattle.clu_grammar.specs.declared.items.Action.TheVariants as action
use Rattle.clu_grammar.proofs.Flags.{and_left, and_right}
use Rattle.clu_parser.specs.declared.begun.Begun.{Begun}
use Rattle.clu_parser.specs.Spellings.{closes, is_idn}
use Rattle.clu_parser.specs.Trees.{Text, Built, acted, spelling_at, node_of, opened, wrapped, wrapped_in, wrapped_on, noted, noted_in, given_in, closed, then_wrapped}
use Rattle.clu_parser.proofs.Forest.{got_last}
use Rattle.clu_syntax.specs.Roles.{has_no_name}
use Rattle.clu_syntax.specs.Splits.{is_of}
use Rattle.clu_declares.proofs.Below.{same_kind}
use Rattle.clu_passes.proofs.PlainNodes.{IsClosed, closed_is, got_either}

-- ---- nodes

abbrev pub is_bare : Node → Bool
is_bare node = is_of kind.Equate node.kind && has_no_name node.names

-- the node is there, and is no equate without a name
pub record IsClean (nodes : List Node) (c : ℕ) : Type 0 where
  pub node : Node
  pub at : slice_get nodes c ≡ Some node
  pub is : is_bare node ≡ false

abbrev pub AreClean : List Node → List ℕ → Type 0
AreClean nodes [] = Unit {0}
AreClean nodes (c ∷ cs) = IsClean nodes c × AreClean nodes cs

clean_more : (nodes : List Node) (m : Node) (cs : List ℕ) → AreClean nodes cs → AreClean (nodes ++ m ∷ []) cs
clean_more nodes m [] known = tt
clean_more nodes m (c ∷ cs) known =
    let x : IsClean nodes c = known.0 in
    (record { node = x.node; at = got_front nodes (m ∷ []) c x.node x.at; is = x.is }, clean_more nodes m cs known.1)

clean_both : (nodes : List Node) (xs ys : List ℕ) → AreClean nodes xs → AreClean nodes ys → AreClean nodes (xs ++ ys)
clean_both nodes [] ys known more = more
clean_both nodes (x ∷ xs) ys known more = (known.0, clean_both nodes xs ys known.1 more)

clean_front : (nodes : List Node) (xs ys : List ℕ) → AreClean nodes (xs ++ ys) → AreClean nodes xs
clean_front nodes [] ys known = tt
clean_front nodes (x ∷ xs) ys known = (known.0, clean_front nodes xs ys known.1)

clean_behind : (nodes : List Node) (xs ys : List ℕ) → AreClean nodes (xs ++ ys) → AreClean nodes ys
clean_behind nodes [] ys known = known
clean_behind nodes (x ∷ xs) ys known = clean_behind nodes xs ys known.1

-- only a cluster holds an equate without a name
abbrev pub HoldsClean : List Node → Node → Type 0
HoldsClean nodes n = (n.kind ≡ kind.Cluster) ⊎ AreClean nodes n.children

abbrev pub HoldClean : List Node → Type 0
HoldClean nodes = (i : ℕ) (n : Node) → slice_get nodes i ≡ Some n → HoldsClean nodes n

holds_more : (nodes : List Node) (m n : Node) → HoldsClean nodes n → HoldsClean (nodes ++ m ∷ []) n
holds_more nodes m n (inl cluster) = inl cluster
holds_more nodes m n (inr known) = inr (clean_more nodes m n.children known)

hold_more : (nodes : List Node) (m : Node) → HoldClean nodes → HoldsClean nodes m → HoldClean (nodes ++ m ∷ [])
hold_more nodes m known new i n at = elim (got_either nodes m i n at) [
  | inl old ↦ holds_more nodes m n (known i n old)
  | inr here ↦ holds_more nodes m n (subst (HoldsClean nodes) here.0 new)
]

-- ---- the nodes that have begun

-- what is known of such a node: none of the whole nodes that it will hold so far is an equate without a name; there is one; it has a name
pub record Level : Type 0 where
  pub clean : Bool
  pub full : Bool
  pub named : Bool

pub record IsLevel (nodes : List Node) (l : Level) (o : Begun) (own : List ℕ) : Type 0 where
  pub clean : l.clean ≡ true → AreClean nodes own
  pub full : l.full ≡ true → 1 ≤ length own
  pub named : l.named ≡ true → 1 ≤ length o.names

-- of the innermost ones
abbrev pub AreLevels : List Node → List Level → List Begun → List ℕ → Type 0
AreLevels nodes [] all tops = Unit {0}
AreLevels nodes (l ∷ ls) [] tops = ⊥
AreLevels nodes (l ∷ ls) (o ∷ os) tops = (lower : List ℕ) × (own : List ℕ) × (tops ≡ lower ++ own) × (o.height ≡ length lower) × IsLevel nodes l o own × AreLevels nodes ls os lower

-- a node that has just begun
abbrev pub fresh : Level
fresh = record { clean = true; full = false; named = false }

-- one that holds the last whole one, and the one round it
abbrev pub held : Level
held = record { clean = true; full = true; named = false }

abbrev pub emptied : Level → Level
emptied l = record { clean = l.clean; full = false; named = l.named }

abbrev pub noted_level : Bool → Level → Level
noted_level is_name l = record { clean = l.clean; full = l.full; named = l.named || is_name }

-- one more whole node, which is no equate or has a name
abbrev pub over : Bool → Level → Level
over fine l = record { clean = l.clean && fine; full = true; named = l.named }

-- what the inner one has is the outer one's
abbrev pub joined : Level → Level → Level
joined inner outer = record { clean = inner.clean && outer.clean; full = false; named = outer.named }

-- what an action makes of what is known, where the token before it is a name if the flag says so
abbrev pub stepped : Action → Bool → List Level → Option (List Level)
stepped action.Open is_name [] = None
stepped action.Open is_name (l ∷ ls) = Some (fresh ∷ l ∷ ls)
stepped action.Wrap is_name [] = None
stepped action.Wrap is_name (l ∷ ls) = cond (l.clean && l.full) (Some (held ∷ emptied l ∷ ls)) None
stepped action.Note is_name [] = None
stepped action.Note is_name (l ∷ ls) = Some (noted_level is_name l ∷ ls)
stepped (action.Close k) is_name [] = None
stepped (action.Close k) is_name (l ∷ []) = None
stepped (action.Close k) is_name (l ∷ m ∷ ls) = cond (is_of kind.Cluster k || l.clean) (Some (over (not (is_of kind.Equate k) || l.named) m ∷ ls)) None
stepped action.Base is_name [] = None
stepped action.Base is_name (l ∷ []) = None
stepped action.Base is_name (l ∷ m ∷ ls) = cond (l.clean && m.clean) (Some (fresh ∷ emptied m ∷ ls)) None
stepped action.Give is_name [] = None
stepped action.Give is_name (l ∷ []) = None
stepped action.Give is_name (l ∷ m ∷ ls) = Some (joined l m ∷ ls)

level_more : (nodes : List Node) (m : Node) (l : Level) (o : Begun) (own : List ℕ) → IsLevel nodes l o own → IsLevel (nodes ++ m ∷ []) l o own
level_more nodes m l o own x = record { clean = λ e. clean_more nodes m own (x.clean e); full = x.full; named = x.named }

levels_more : (nodes : List Node) (m : Node) (ls : List Level) (all : List Begun) (tops : List ℕ) → AreLevels nodes ls all tops → AreLevels (nodes ++ m ∷ []) ls all tops
levels_more nodes m [] all tops known = tt
levels_more nodes m (l ∷ ls) [] tops known = absurd known
levels_more nodes m (l ∷ ls) (o ∷ os) tops known = (known.0, known.1, known.2, known.3, level_more nodes m l o known.1 known.4, levels_more nodes m ls os known.0 known.5)

-- other things known of the innermost one, or another one of its height in its place
level_other : (nodes : List Node) (l k : Level) (ls : List Level) (o p : Begun) (os : List Begun) (tops : List ℕ) → p.height ≡ o.height → ((own : List ℕ) → IsLevel nodes l o own → IsLevel nodes k p own) → AreLevels nodes (l ∷ ls) (o ∷ os) tops → AreLevels nodes (k ∷ ls) (p ∷ os) tops
level_other nodes l k ls o p os tops same turns known = (known.0, known.1, known.2, same ∙ known.3, turns known.1 known.4, known.5)

levels_open : (nodes : List Node) (o : Begun) (ls : List Level) (all : List Begun) (tops : List ℕ) → o.height ≡ length tops → AreLevels nodes ls all tops → AreLevels nodes (fresh ∷ ls) (o ∷ all) tops
levels_open nodes o ls all tops height known = (tops, [], sym (append-nil tops), height, record { clean = λ e. tt; full = λ e. absurd (cc); named = λ e. absurd (cc) }, known)

-- a list with its last number apart
record HasLast (xs : List ℕ) : Type 0 where
  front : List ℕ
  last : ℕ
  is : xs ≡ front ++ last ∷ []

has_last : (xs : List ℕ) → 1 ≤ length xs → HasLast xs
has_last [] some = absurd (omega (arith, some))
has_last (x ∷ []) some = record { front = []; last = x; is = refl }
has_last (x ∷ y ∷ ys) some = let r : HasLast (y ∷ ys) = has_last (y ∷ ys) (omega arith) in record { front = x ∷ r.front; last = r.last; is = ap (λ (zs : List ℕ). x ∷ zs) r.is }

levels_wrap : (nodes : List Node) (o : Begun) (l : Level) (ls : List Level) (all : List Begun) (tops : List ℕ) → o.height ≡ length tops - 1 → l.clean ≡ true → l.full ≡ true → AreLevels nodes (l ∷ ls) all tops → AreLevels nodes (held ∷ emptied l ∷ ls) (o ∷ all) tops
levels_wrap nodes o l ls [] tops height clean full known = absurd known
levels_wrap nodes o l ls (p ∷ os) tops height clean full known =
    let x : IsLevel nodes l p known.1 = known.4 in
    let s : HasLast known.1 = has_last known.1 (x.full full) in
    let same : tops ≡ (known.0 ++ s.front) ++ s.last ∷ [] = known.2 ∙ ap (λ (ys : List ℕ). known.0 ++ ys) s.is ∙ sym (append_assoc known.0 s.front (s.last ∷ [])) in
    let size : length tops ≡ length (known.0 ++ s.front) + 1 = ap (λ (ys : List ℕ). length ys) same ∙ length_push (known.0 ++ s.front) s.last in
    let all_clean : AreClean nodes (s.front ++ s.last ∷ []) = subst (AreClean nodes) s.is (x.clean clean) in (
      known.0 ++ s.front,
      s.last ∷ [],
      same,
      omega (arith, height, size),
      record { clean = λ e. clean_behind nodes s.front (s.last ∷ []) all_clean; full = λ e. omega arith; named = λ e. absurd (cc) },
      (
        known.0,
        s.front,
        refl,
        known.3,
        record { clean = λ e. clean_front nodes s.front (s.last ∷ []) all_clean; full = λ e. absurd (cc); named = x.named },
        known.5,
      ),
    )

levels_close : (nodes : List Node) (m : Node) (l k : Level) (ls : List Level) (o : Begun) (all : List Begun) (tops : List ℕ) (fine : Bool) → (fine ≡ true → is_bare m ≡ false) → AreLevels nodes (l ∷ k ∷ ls) (o ∷ all) tops → AreLevels (nodes ++ m ∷ []) (over fine k ∷ ls) all (take o.height tops ++ length nodes ∷ [])
levels_close nodes m l k ls o [] tops fine is known = absurd known.5
levels_close nodes m l k ls o (p ∷ os) tops fine is known =
    let outer : AreLevels nodes (k ∷ ls) (p ∷ os) known.0 = known.5 in
    let x : IsLevel nodes k p outer.1 = outer.4 in
    let took : take o.height tops ≡ known.0 = ap₂ (λ (n : ℕ) (xs : List ℕ). take n xs) known.3 known.2 ∙ take-append_seam known.0 known.1 in (
      outer.0,
      outer.1 ++ length nodes ∷ [],
      ap (λ (xs : List ℕ). xs ++ length nodes ∷ []) (took ∙ outer.2) ∙ append_assoc outer.0 outer.1 (length nodes ∷ []),
      outer.3,
      record {
        clean = λ e.
            clean_both (nodes ++ m ∷ []) outer.1 (length nodes ∷ []) (clean_more nodes m outer.1 (x.clean (and_left k.clean fine e)))
            (record { node = m; at = got_last nodes m; is = is (and_right k.clean fine e) }, tt);
        full = λ e. omega (arith, length_push outer.1 (length nodes));
        named = x.named;
      },
      levels_more nodes m ls os outer.0 outer.5,
    )

own_clean : (nodes : List Node) (l : Level) (ls : List Level) (o : Begun) (all : List Begun) (tops : List ℕ) → l.clean ≡ true → AreLevels nodes (l ∷ ls) (o ∷ all) tops → AreClean nodes (drop o.height tops)
own_clean nodes l ls o all tops clean known =
    let x : IsLevel nodes l o known.1 = known.4 in
    let own : drop o.height tops ≡ known.1 = ap₂ (λ (n : ℕ) (xs : List ℕ). drop n xs) known.3 known.2 ∙ drop-append_seam known.0 known.1 in
    subst (AreClean nodes) (sym own) (x.clean clean)

own_named : (nodes : List Node) (l : Level) (ls : List Level) (o : Begun) (all : List Begun) (tops : List ℕ) → l.named ≡ true → AreLevels nodes (l ∷ ls) (o ∷ all) tops → 1 ≤ length o.names
own_named nodes l ls o all tops named known = let x : IsLevel nodes l o known.1 = known.4 in x.named named

levels_give : (nodes : List Node) (l k : Level) (ls : List Level) (o p q : Begun) (os : List Begun) (tops : List ℕ) → q.height ≡ p.height → length p.names ≤ length q.names → AreLevels nodes (l ∷ k ∷ ls) (o ∷ p ∷ os) tops → AreLevels nodes (joined l k ∷ ls) (q ∷ os) tops
levels_give nodes l k ls o p q os tops height more known =
    let outer : AreLevels nodes (k ∷ ls) (p ∷ os) known.0 = known.5 in
    let x : IsLevel nodes l o known.1 = known.4 in
    let y : IsLevel nodes k p outer.1 = outer.4 in (
      outer.0,
      outer.1 ++ known.1,
      known.2 ∙ ap (λ (xs : List ℕ). xs ++ known.1) outer.2 ∙ append_assoc outer.0 outer.1 known.1,
      height ∙ outer.3,
      record { clean = λ e. clean_both nodes outer.1 known.1 (y.clean (and_right l.clean k.clean e)) (x.clean (and_left l.clean k.clean e)); full = λ e. absurd (cc); named = λ e. omega (arith, y.named e, more) },
      outer.5,
    )

-- ---- what an action makes of the tree

-- what stands for the text round all nodes
abbrev pub ground : Begun
ground = record { first = 0; mark = 0; height = 0; names = []; value = None }

pub record IsKept (ls : List Level) (b : Built) : Type 0 where
  pub holds : HoldClean b.nodes
  pub levels : AreLevels b.nodes ls (b.begun ++ ground ∷ []) b.tops

opened_kept : (first mark : ℕ) (b : Built) (ls : List Level) → IsKept ls b → IsKept (fresh ∷ ls) (opened first mark (length b.tops) b)
opened_kept first mark b ls x = record { holds = x.holds; levels = levels_open b.nodes (record { first = first; mark = mark; height = length b.tops; names = []; value = None }) ls (b.begun ++ ground ∷ []) b.tops refl x.levels }

module _ (taken : ℕ) (b c : Built) (l : Level) (ls : List Level) (clean : l.clean ≡ true) (full : l.full ≡ true) (x : IsKept (l ∷ ls) b) where
  wrapped_on_kept : (o : Option Node) → wrapped_on taken b o ≡ Some c → IsKept (held ∷ emptied l ∷ ls) c
  wrapped_on_kept None e = absurd (cc)
  wrapped_on_kept (Some n) e =
      let same : opened n.first taken (length b.tops - 1) b ≡ c = cc in
      subst (IsKept (held ∷ emptied l ∷ ls)) same
      (record { holds = x.holds; levels = levels_wrap b.nodes (record { first = n.first; mark = taken; height = length b.tops - 1; names = []; value = None }) l ls (b.begun ++ ground ∷ []) b.tops refl clean full x.levels })

  wrapped_in_kept : (o : Option ℕ) → wrapped_in taken b o ≡ Some c → IsKept (held ∷ emptied l ∷ ls) c
  wrapped_in_kept None e = absurd (cc)
  wrapped_in_kept (Some top) e = wrapped_on_kept (slice_get b.nodes top) e

  wrapped_kept : wrapped taken b ≡ Some c → IsKept (held ∷ emptied l ∷ ls) c
  wrapped_kept e = wrapped_in_kept (slice_get b.tops (length b.tops - 1)) e

noted_height : (is_name : Bool) (taken : ℕ) (o : Begun) → (noted is_name taken o).height ≡ o.height
noted_height true taken o = refl
noted_height false taken o = refl

more_names : (is_name : Bool) (taken : ℕ) (o : Begun) → length o.names ≤ length (noted is_name taken o).names
more_names true taken o = omega (arith, length_push o.names taken)
more_names false taken o = omega arith

one_name : (is_name : Bool) (taken : ℕ) (o : Begun) → is_name ≡ true → 1 ≤ length (noted is_name taken o).names
one_name true taken o e = omega (arith, length_push o.names taken)
one_name false taken o e = absurd (cc)

noted_is : (nodes : List Node) (is_name known_name : Bool) (taken : ℕ) (l : Level) (o : Begun) (own : List ℕ) → (known_name ≡ true → is_name ≡ true) → IsLevel nodes l o own → IsLevel nodes (noted_level known_name l) (noted is_name taken o) own
noted_is nodes is_name known_name taken l o own tells x =
    record {
      clean = x.clean;
      full = x.full;
      named = λ e. elim (or_cases l.named known_name e) [
        | inl old ↦ omega (arith, x.named old, more_names is_name taken o)
        | inr new ↦ one_name is_name taken o (tells new)
      ];
    }

noted_kept : (is_name known_name : Bool) (taken : ℕ) (b c : Built) (all : List Begun) (l : Level) (ls : List Level) → b.begun ≡ all → noted_in is_name taken b all ≡ Some c → (known_name ≡ true → is_name ≡ true) → IsKept (l ∷ ls) b → IsKept (noted_level known_name l ∷ ls) c
noted_kept is_name known_name taken b c [] l ls same e tells x = absurd (cc)
noted_kept is_name known_name taken b c (o ∷ os) l ls same e tells x =
    let its : record { nodes = b.nodes; tops = b.tops; begun = noted is_name taken o ∷ os } ≡ c = cc in
    let known : AreLevels b.nodes (l ∷ ls) (o ∷ (os ++ ground ∷ [])) b.tops = subst (λ (all : List Begun). AreLevels b.nodes (l ∷ ls) (all ++ ground ∷ []) b.tops) same x.levels in
    subst (IsKept (noted_level known_name l ∷ ls)) its
    (record {
      holds = x.holds;
      levels = level_other b.nodes l (noted_level known_name l) ls o (noted is_name taken o) (os ++ ground ∷ []) b.tops (noted_height is_name taken o) (λ own. noted_is b.nodes is_name known_name taken l o own tells) known;
    })

given_kept : (b c : Built) (all : List Begun) (l m : Level) (ls : List Level) → b.begun ≡ all → given_in b all ≡ Some c → IsKept (l ∷ m ∷ ls) b → IsKept (joined l m ∷ ls) c
given_kept b c [] l m ls same e x = absurd (cc)
given_kept b c (o ∷ []) l m ls same e x = absurd (cc)
given_kept b c (o ∷ p ∷ os) l m ls same e x =
    let q : Begun = record { first = p.first; mark = p.mark; height = p.height; names = p.names ++ o.names; value = p.value } in
    let its : record { nodes = b.nodes; tops = b.tops; begun = record { first = p.first; mark = p.mark; height = p.height; names = p.names ++ o.names; value = p.value } ∷ os } ≡ c = cc in
    let known : AreLevels b.nodes (l ∷ m ∷ ls) (o ∷ p ∷ (os ++ ground ∷ [])) b.tops = subst (λ (all : List Begun). AreLevels b.nodes (l ∷ m ∷ ls) (all ++ ground ∷ []) b.tops) same x.levels in
    let more : length p.names ≤ length (p.names ++ o.names) = omega (arith, length-append p.names o.names) in
    subst (IsKept (joined l m ∷ ls)) its
    (record { holds = x.holds; levels = levels_give b.nodes l m ls o p q (os ++ ground ∷ []) b.tops refl more known })

-- a node that ends is no equate, or has a name
not_bare : (is_equate named : Bool) (f : ℕ → List ℕ) (names : List ℕ) → (not is_equate || named) ≡ true → (named ≡ true → 1 ≤ length names) → (is_equate && has_no_name (map f names)) ≡ false
not_bare false named f names e some = refl
not_bare true named f [] e some = let one : 1 ≤ 0 = some e in absurd (omega (arith, one))
not_bare true named f (x ∷ xs) e some = refl

closed_kept : (t : Text) (k : NodeKind) (last : ℕ) (b c : Built) (l m : Level) (ls : List Level) → closed t k last b ≡ Some c → (is_of kind.Cluster k || l.clean) ≡ true → IsKept (l ∷ m ∷ ls) b → IsKept (over (not (is_of kind.Equate k) || l.named) m ∷ ls) c
closed_kept t k last b c l m ls e may x =
    let y : IsClosed t k last b c = closed_is t k last b c b.begun refl e in
    let node : Node = node_of t k last b.nodes (drop y.o.height b.tops) y.o in
    let known : AreLevels b.nodes (l ∷ m ∷ ls) (y.o ∷ (y.os ++ ground ∷ [])) b.tops = subst (λ (all : List Begun). AreLevels b.nodes (l ∷ m ∷ ls) (all ++ ground ∷ []) b.tops) y.begun x.levels in
    let new : HoldsClean b.nodes node = elim (or_cases (is_of kind.Cluster k) l.clean may) [
      | inl cluster ↦ inl (same_kind kind.Cluster k cluster)
      | inr clean ↦ inr (own_clean b.nodes l (m ∷ ls) y.o (y.os ++ ground ∷ []) b.tops clean known)
    ] in
    subst (IsKept (over (not (is_of kind.Equate k) || l.named) m ∷ ls)) (sym y.is)
    (record {
      holds = hold_more b.nodes node x.holds new;
      levels = levels_close b.nodes node l m ls y.o (y.os ++ ground ∷ []) b.tops (not (is_of kind.Equate k) || l.named)
          (λ fine. not_bare (is_of kind.Equate k) l.named (spelling_at t) y.o.names fine (λ named. own_named b.nodes l (m ∷ ls) y.o (y.os ++ ground ∷ []) b.tops named known)) known;
    })

-- the name before a bracket stays, or becomes a node that the innermost one holds
as_fresh : (nodes : List Node) (l k m : Level) (ls : List Level) (all : List Begun) (tops : List ℕ) → l.clean ≡ true → (k.clean ≡ true → m.clean ≡ true) → (k.full ≡ true → m.full ≡ true) → (k.named ≡ true → m.named ≡ true) → AreLevels nodes (l ∷ m ∷ ls) all tops → AreLevels nodes (fresh ∷ k ∷ ls) all tops
as_fresh nodes l k m ls [] tops clean a b c known = absurd known
as_fresh nodes l k m ls (o ∷ []) tops clean a b c known = absurd known.5
as_fresh nodes l k m ls (o ∷ p ∷ os) tops clean a b c known =
    let outer : AreLevels nodes (m ∷ ls) (p ∷ os) known.0 = known.5 in
    let x : IsLevel nodes l o known.1 = known.4 in
    let y : IsLevel nodes m p outer.1 = outer.4 in (
      known.0,
      known.1,
      known.2,
      known.3,
      record { clean = λ e. x.clean clean; full = λ e. absurd (cc); named = λ e. absurd (cc) },
      (outer.0, outer.1, outer.2, outer.3, record { clean = λ e. y.clean (a e); full = λ e. y.full (b e); named = λ e. y.named (c e) }, outer.5),
    )

based_kept : (t : Text) (taken : ℕ) (b c : Built) (o : Option Built) (l m : Level) (ls : List Level) → closed t kind.Name (taken - 1) b ≡ o → then_wrapped taken o ≡ Some c → l.clean ≡ true → m.clean ≡ true → IsKept (l ∷ m ∷ ls) b → IsKept (fresh ∷ emptied m ∷ ls) c
based_kept t taken b c None l m ls was e clean outer x = absurd (cc)
based_kept t taken b c (Some d) l m ls was e clean outer x =
    let z : IsKept (over true m ∷ ls) d = closed_kept t kind.Name (taken - 1) b d l m ls was clean x in
    let both : (m.clean && true) ≡ true = ap (λ (y : Bool). y && true) outer in
    let w : IsKept (held ∷ emptied (over true m) ∷ ls) c = wrapped_kept taken d c (over true m) ls both refl z e in
    record { holds = w.holds; levels = as_fresh c.nodes held (emptied m) (emptied (over true m)) ls (c.begun ++ ground ∷ []) c.tops refl (λ e. both) (λ e. absurd (cc)) (λ e. e) w.levels }

-- a test that is passed
passed_test : (test : Bool) (x y : List Level) → cond test (Some x) None ≡ Some y → (test ≡ true) × (x ≡ y)
passed_test true x y e = (refl, cc)
passed_test false x y e = absurd (cc)

-- what is known of the outer ones plays no part
module _ (t : Text) (taken : ℕ) (b c : Built) (is_name : Bool) (tells : is_name ≡ true → is_idn (slice_get t.symbols taken) ≡ true) (next rest : List Level) where
  abbrev Kept : List Level → Built → Type 0
  Kept ls z = IsKept (ls ++ rest) z

  so : (x : List Level) → x ≡ next → Kept x c → Kept next c
  so x same known = subst (λ (ls : List Level). Kept ls c) same known

  pub acted_kept : (a : Action) (ls : List Level) → acted t a taken b ≡ Some c → stepped a is_name ls ≡ Some next → Kept ls b → Kept next c
  acted_kept action.Open [] e is x = absurd (cc)
  acted_kept action.Open (l ∷ ls) e is x =
      let same : opened taken taken (length b.tops) b ≡ c = cc in
      so (fresh ∷ l ∷ ls) (cc) (subst (Kept (fresh ∷ l ∷ ls)) same (opened_kept taken taken b ((l ∷ ls) ++ rest) x))
  acted_kept action.Wrap [] e is x = absurd (cc)
  acted_kept action.Wrap (l ∷ ls) e is x =
      let may = passed_test (l.clean && l.full) (held ∷ emptied l ∷ ls) next is in
      so (held ∷ emptied l ∷ ls) may.1 (wrapped_kept taken b c l (ls ++ rest) (and_left l.clean l.full may.0) (and_right l.clean l.full may.0) x e)
  acted_kept action.Note [] e is x = absurd (cc)
  acted_kept action.Note (l ∷ ls) e is x =
      so (noted_level is_name l ∷ ls) (cc) (noted_kept (is_idn (slice_get t.symbols taken)) is_name taken b c b.begun l (ls ++ rest) refl e tells x)
  acted_kept (action.Close k) [] e is x = absurd (cc)
  acted_kept (action.Close k) (l ∷ []) e is x = absurd (cc)
  acted_kept (action.Close k) (l ∷ m ∷ ls) e is x =
      let may = passed_test (is_of kind.Cluster k || l.clean) (over (not (is_of kind.Equate k) || l.named) m ∷ ls) next is in
      so (over (not (is_of kind.Equate k) || l.named) m ∷ ls) may.1 (closed_kept t k taken b c l m (ls ++ rest) e may.0 x)
  acted_kept action.Base [] e is x = absurd (cc)
  acted_kept action.Base (l ∷ []) e is x = absurd (cc)
  acted_kept action.Base (l ∷ m ∷ ls) e is x =
      let may = passed_test (l.clean && m.clean) (fresh ∷ emptied m ∷ ls) next is in
      so (fresh ∷ emptied m ∷ ls) may.1 (by (and_left l.clean m.clean may.0) (and_right l.clean m.clean may.0) (closes 0 (drop (taken + 1) t.symbols)) e)
    where
      by : l.clean ≡ true → m.clean ≡ true → (is_type : Bool) → (if is_type then Some b else then_wrapped taken (closed t kind.Name (taken - 1) b)) ≡ Some c → Kept (fresh ∷ emptied m ∷ ls) c
      by inner outer true e =
          let same : b ≡ c = cc in
          subst (Kept (fresh ∷ emptied m ∷ ls)) same
          (record { holds = x.holds; levels = as_fresh b.nodes l (emptied m) m (ls ++ rest) (b.begun ++ ground ∷ []) b.tops inner (λ e. e) (λ e. absurd (cc)) (λ e. e) x.levels })
      by inner outer false e = based_kept t taken b c (closed t kind.Name (taken - 1) b) l m (ls ++ rest) refl e inner outer x
  acted_kept action.Give [] e is x = absurd (cc)
  acted_kept action.Give (l ∷ []) e is x = absurd (cc)
  acted_kept action.Give (l ∷ m ∷ ls) e is x = so (joined l m ∷ ls) (cc) (given_kept b c b.begun l m (ls ++ rest) refl e x)
