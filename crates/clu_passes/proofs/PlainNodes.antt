-- Behind a routine of the tree that reading builds comes its module, unless none of its children is a Parm: the nodes so far, and what
-- an action adds to them.
use Rattle.std.proofs.Common.{◌≡◌, ◌∙◌, ◌⊎◌, ℕ, zero, suc, ◌+◌, ◌-◌, ◌<◌, ◌≤◌, ◌&&◌, not, Bool, true, false, if◌then◌else◌, List, [], ◌∷◌, ◌++◌, length, take, drop, Option, Some, None, slice_get, refl, ap, sym, subst, inl, inr, arith, append-nil}
use Rattle.clu_base.proofs.Lists.{got_front}
use Rattle.clu_tree.specs.declared.node.Node.{Node}
use Rattle.clu_tree.specs.declared.node.NodeKind.{NodeKind}
use Rattle.clu_tree.specs.declared.node.NodeKind.TheVariants as kind
use Rattle.clu_grammar.specs.declared.items.Action.{Action}
use Rattle.clu_grammar.specs.declared.items.Action.TheVariants as action
use Rattle.clu_parser.specs.declared.begun.Begun.{Begun}
use Rattle.clu_parser.specs.Spellings.{closes, is_idn}
use Rattle.clu_parser.specs.Trees.{Text, Built, acted, node_of, opened, wrapped_in, wrapped_on, noted, noted_in, given_in, closed, closed_in, then_wrapped}
use Rattle.clu_syntax.specs.Splits.{is_of}
use Rattle.clu_declares.proofs.Parents.{IsIn}

-- ---- lists

-- an item of a list with one more is one of the list, or that one
pub got_either : {X : Type 0} (xs : List X) (y : X) (i : ℕ) (x : X) → slice_get (xs ++ y ∷ []) i ≡ Some x → (slice_get xs i ≡ Some x) ⊎ ((y ≡ x) × (i ≡ length xs))
got_either [] y zero x e = inr (cc, refl)
got_either [] y (suc i) x e = absurd (cc)
got_either (z ∷ xs) y zero x e = inl e
got_either (z ∷ xs) y (suc i) x e = elim (got_either xs y i x e) [
  | inl old ↦ inl old
  | inr new ↦ inr (new.0, ap suc new.1)
]

pub taken_or : (j : ℕ) (xs : List ℕ) (y k v : ℕ) → slice_get (take j xs ++ y ∷ []) k ≡ Some v → (slice_get xs k ≡ Some v) ⊎ (y ≡ v)
taken_or zero xs y zero v e = inr (cc)
taken_or zero xs y (suc k) v e = absurd (cc)
taken_or (suc j) [] y zero v e = inr (cc)
taken_or (suc j) [] y (suc k) v e = absurd (cc)
taken_or (suc j) (x ∷ xs) y zero v e = inl e
taken_or (suc j) (x ∷ xs) y (suc k) v e = taken_or j xs y k v e

pub record IsPlace (xs : List ℕ) (h c : ℕ) : Type 0 where
  pub place : ℕ
  pub behind : h ≤ place
  pub there : slice_get xs place ≡ Some c

in_list : (c : ℕ) (xs : List ℕ) → IsIn c xs → IsPlace xs 0 c
in_list c [] i = absurd i
in_list c (x ∷ xs) (inl e) = record { place = 0; behind = omega arith; there = ap Some e }
in_list c (x ∷ xs) (inr i) = let p : IsPlace xs 0 c = in_list c xs i in record { place = suc p.place; behind = omega arith; there = p.there }

pub in_drop : (h c : ℕ) (xs : List ℕ) → IsIn c (drop h xs) → IsPlace xs h c
in_drop zero c xs i = in_list c xs i
in_drop (suc h) c [] i = absurd i
in_drop (suc h) c (x ∷ xs) i = let p : IsPlace xs h c = in_drop h c xs i in let l : h ≤ p.place = p.behind in record { place = suc p.place; behind = omega (arith, l); there = p.there }

-- ---- nodes

-- a node that is there, and is no Parm
abbrev pub IsNoParm : List Node → ℕ → Type 0
IsNoParm nodes c = (m : Node) × (slice_get nodes c ≡ Some m) × (is_of kind.Parm m.kind ≡ false)

-- the next one is a Module
abbrev pub IsBeforeModule : List Node → ℕ → Type 0
IsBeforeModule nodes i = (m : Node) × (slice_get nodes (i + 1) ≡ Some m) × (m.kind ≡ kind.Module)

abbrev pub IsPlain : List Node → ℕ → Node → Type 0
IsPlain nodes i n = ((c : ℕ) → IsIn c n.children → IsNoParm nodes c) ⊎ IsBeforeModule nodes i

-- so is each routine
abbrev pub ArePlain : List Node → Type 0
ArePlain nodes = (i : ℕ) (n : Node) → slice_get nodes i ≡ Some n → n.kind ≡ kind.Routine → IsPlain nodes i n

pub no_parm_more : (nodes : List Node) (m : Node) (c : ℕ) → IsNoParm nodes c → IsNoParm (nodes ++ m ∷ []) c
no_parm_more nodes m c p = (p.0, got_front nodes (m ∷ []) c p.0 p.1, p.2)

pub plain_still : (nodes : List Node) (m : Node) (i : ℕ) (n : Node) → IsPlain nodes i n → IsPlain (nodes ++ m ∷ []) i n
plain_still nodes m i n (inl plain) = inl (λ c inside. no_parm_more nodes m c (plain c inside))
plain_still nodes m i n (inr before) = inr (before.0, got_front nodes (m ∷ []) (i + 1) before.0 before.1, before.2)

-- one more node, which is plain if it is a routine
pub plain_more : (nodes : List Node) (m : Node) → ArePlain nodes → (m.kind ≡ kind.Routine → IsPlain (nodes ++ m ∷ []) (length nodes) m) → ArePlain (nodes ++ m ∷ [])
plain_more nodes m plain new i n at is = elim (got_either nodes m i n at) [
  | inl old ↦ plain_still nodes m i n (plain i n old is)
  | inr here ↦
      subst (λ (k : ℕ). IsPlain (nodes ++ m ∷ []) k n) (sym here.1)
      (subst (IsPlain (nodes ++ m ∷ []) (length nodes)) here.0 (new (ap (λ (n : Node). n.kind) here.0 ∙ is)))
]

other_more : (nodes : List Node) (m : Node) → is_of kind.Routine m.kind ≡ false → ArePlain nodes → ArePlain (nodes ++ m ∷ [])
other_more nodes m other plain = plain_more nodes m plain (λ is. absurd (let bad : true ≡ false = sym (ap (is_of kind.Routine) is) ∙ other in cc))

-- ---- what an action does

-- the innermost node that has begun ends
pub record IsClosed (t : Text) (k : NodeKind) (last : ℕ) (b c : Built) : Type 0 where
  pub o : Begun
  pub os : List Begun
  pub begun : b.begun ≡ o ∷ os
  pub is : c ≡ record { nodes = b.nodes ++ node_of t k last b.nodes (drop o.height b.tops) o ∷ []; tops = take o.height b.tops ++ length b.nodes ∷ []; begun = os }

pub closed_is : (t : Text) (k : NodeKind) (last : ℕ) (b c : Built) (all : List Begun) → b.begun ≡ all → closed_in t k last b all ≡ Some c → IsClosed t k last b c
closed_is t k last b c [] same e = absurd (cc)
closed_is t k last b c (o ∷ os) same e = record { o = o; os = os; begun = same; is = cc }

-- what an action that closes no routine leaves of the nodes
wrapped_on_nodes : (taken : ℕ) (b c : Built) (o : Option Node) → wrapped_on taken b o ≡ Some c → c.nodes ≡ b.nodes
wrapped_on_nodes taken b c None e = absurd (cc)
wrapped_on_nodes taken b c (Some n) e = let same : opened n.first taken (length b.tops - 1) b ≡ c = cc in sym (ap (λ (x : Built). x.nodes) same)

wrapped_nodes : (taken : ℕ) (b c : Built) (o : Option ℕ) → wrapped_in taken b o ≡ Some c → c.nodes ≡ b.nodes
wrapped_nodes taken b c None e = absurd (cc)
wrapped_nodes taken b c (Some top) e = wrapped_on_nodes taken b c (slice_get b.nodes top) e

noted_nodes : (is_name : Bool) (taken : ℕ) (b c : Built) (os : List Begun) → noted_in is_name taken b os ≡ Some c → c.nodes ≡ b.nodes
noted_nodes is_name taken b c [] e = absurd (cc)
noted_nodes is_name taken b c (o ∷ os) e = let same : record { nodes = b.nodes; tops = b.tops; begun = noted is_name taken o ∷ os } ≡ c = cc in sym (ap (λ (x : Built). x.nodes) same)

given_nodes : (b c : Built) (os : List Begun) → given_in b os ≡ Some c → c.nodes ≡ b.nodes
given_nodes b c [] e = absurd (cc)
given_nodes b c (o ∷ []) e = absurd (cc)
given_nodes b c (o ∷ p ∷ os) e =
    let same : record { nodes = b.nodes; tops = b.tops; begun = record { first = p.first; mark = p.mark; height = p.height; names = p.names ++ o.names; value = p.value } ∷ os } ≡ c = cc in
    sym (ap (λ (x : Built). x.nodes) same)

closed_plain : (t : Text) (k : NodeKind) (last : ℕ) (b c : Built) → closed t k last b ≡ Some c → is_of kind.Routine k ≡ false → ArePlain b.nodes → ArePlain c.nodes
closed_plain t k last b c e other plain =
    let x : IsClosed t k last b c = closed_is t k last b c b.begun refl e in
    subst (λ (y : Built). ArePlain y.nodes) (sym x.is) (other_more b.nodes (node_of t k last b.nodes (drop x.o.height b.tops) x.o) other plain)

based_plain : (t : Text) (taken : ℕ) (b c : Built) (o : Option Built) → closed t kind.Name (taken - 1) b ≡ o → then_wrapped taken o ≡ Some c → ArePlain b.nodes → ArePlain c.nodes
based_plain t taken b c None was e plain = absurd (cc)
based_plain t taken b c (Some d) was e plain =
    subst ArePlain (sym (wrapped_nodes taken d c (slice_get d.tops (length d.tops - 1)) e)) (closed_plain t kind.Name (taken - 1) b d was refl plain)

-- an action that closes a routine
abbrev pub closes_routine : Action → Bool
closes_routine (action.Close k) = is_of kind.Routine k
closes_routine _ = false

pub acted_plain : (t : Text) (a : Action) (taken : ℕ) (b c : Built) → acted t a taken b ≡ Some c → closes_routine a ≡ false → ArePlain b.nodes → ArePlain c.nodes
acted_plain t action.Open taken b c e other plain = let same : opened taken taken (length b.tops) b ≡ c = cc in subst (λ (y : Built). ArePlain y.nodes) same plain
acted_plain t action.Wrap taken b c e other plain = subst ArePlain (sym (wrapped_nodes taken b c (slice_get b.tops (length b.tops - 1)) e)) plain
acted_plain t action.Note taken b c e other plain = subst ArePlain (sym (noted_nodes (is_idn (slice_get t.symbols taken)) taken b c b.begun e)) plain
acted_plain t (action.Close k) taken b c e other plain = closed_plain t k taken b c e other plain
acted_plain t action.Base taken b c e other plain = by (closes 0 (drop (taken + 1) t.symbols)) e
  where
    by : (is_type : Bool) → (if is_type then Some b else then_wrapped taken (closed t kind.Name (taken - 1) b)) ≡ Some c → ArePlain c.nodes
    by true e = let same : b ≡ c = cc in subst (λ (y : Built). ArePlain y.nodes) same plain
    by false e = based_plain t taken b c (closed t kind.Name (taken - 1) b) refl e plain
acted_plain t action.Give taken b c e other plain = subst ArePlain (sym (given_nodes b c b.begun e)) plain
