-- What an action makes of the tree in the making, in numbers.
use Rattle.std.proofs.Common.{◌≡◌, ℕ, ◌+◌, ◌-◌, ◌≤◌, Bool, true, false, cond, List, [], ◌∷◌, ◌++◌, length, take, drop, sum_by, Option, Some, None, slice_get, refl, ap, subst, arith}
use Rattle.std.proofs.lemmas.List.{length_push, length-append, length-map}
use Rattle.std.proofs.lemmas.List.Sums.{sum_by-cons, sum_by_push}
use Rattle.std.proofs.lemmas.Option.{same_Some}
use Rattle.clu_tree.specs.declared.node.Node.{Node}
use Rattle.clu_tree.specs.declared.node.NodeKind.{NodeKind}
use Rattle.clu_tree.specs.declared.node.NodeKind.TheVariants as kind
use Rattle.clu_tree.specs.Count.{own_count}
use Rattle.clu_grammar.specs.declared.items.Action.{Action}
use Rattle.clu_grammar.specs.declared.items.Action.TheVariants as action
use Rattle.clu_parser.specs.declared.begun.Begun.{Begun}
use Rattle.clu_parser.specs.Spellings.{closes, is_idn}
use Rattle.clu_parser.specs.Steps.{begun_for, held, spent}
use Rattle.clu_parser.specs.Trees.{Text, Built, spelling_at, node_of, opened, wrapped, wrapped_in, wrapped_on, noted, noted_in, given_in, closed, closed_in, then_wrapped, acted}
use Rattle.clu_parser.proofs.Reading.{begun_after, tops_after, notes}
use Rattle.clu_parser.proofs.Room.{own_count-le}
use Rattle.clu_parser.proofs.Sizes.{token_len, spelling_at-le}

-- what has changed, as far as it is counted: so many more nodes, so much more that they count at most
pub record Costs (s : Text) (b c : Built) (begun tops cost : ℕ) : Type 0 where
  pub begun_are : length c.begun ≡ begun
  pub tops_are : tops ≤ length c.tops
  pub nodes_are : length c.nodes ≤ length b.nodes + 1
  pub spent_is : spent s c ≤ spent s b + 1 + cost

opened_costs : (s : Text) (first mark height : ℕ) (b : Built) → Costs s b (opened first mark height b) (length b.begun + 1) (length b.tops) 0
opened_costs s first mark height b =
    record {
      begun_are = omega arith;
      tops_are = omega arith;
      nodes_are = omega arith;
      spent_is = omega (arith, sum_by-cons (held s) (record { first = first; mark = mark; height = height; names = []; value = None }) b.begun);
    }

wrapped_on_costs : (s : Text) (taken : ℕ) (b c : Built) (o : Option Node) → wrapped_on taken b o ≡ Some c → Costs s b c (length b.begun + 1) (length b.tops) 0
wrapped_on_costs s taken b c None is = absurd (cc)
wrapped_on_costs s taken b c (Some n) is =
    let new = opened n.first taken (length b.tops - 1) b in
    subst (λ (x : Built). Costs s b x (length b.begun + 1) (length b.tops) 0) (same_Some new c is) (opened_costs s n.first taken (length b.tops - 1) b)

wrapped_in_costs : (s : Text) (taken : ℕ) (b c : Built) (o : Option ℕ) → wrapped_in taken b o ≡ Some c → Costs s b c (length b.begun + 1) (length b.tops) 0
wrapped_in_costs s taken b c None is = absurd (cc)
wrapped_in_costs s taken b c (Some top) is = wrapped_on_costs s taken b c (slice_get b.nodes top) is

noted_held : (s : Text) (is_name : Bool) (taken : ℕ) (o : Begun) → held s (noted is_name taken o) ≤ held s o + 1 + token_len s taken
noted_held s true taken o = omega (arith, length_push o.names taken)
noted_held s false taken o = omega (arith, spelling_at-le s taken)

noted_costs : (s : Text) (is_name : Bool) (taken : ℕ) (b c : Built) (os : List Begun) → os ≡ b.begun → noted_in is_name taken b os ≡ Some c → Costs s b c (length b.begun) (length b.tops) (token_len s taken)
noted_costs s is_name taken b c [] same is = absurd (cc)
noted_costs s is_name taken b c (o ∷ os) same is =
    let new : Built = record { nodes = b.nodes; tops = b.tops; begun = noted is_name taken o ∷ os } in
    subst (λ (x : Built). Costs s b x (length b.begun) (length b.tops) (token_len s taken)) (same_Some new c is)
    (record {
      begun_are = ap length same;
      tops_are = omega arith;
      nodes_are = omega arith;
      spent_is = omega (arith, sum_by-cons (held s) (noted is_name taken o) os, sum_by-cons (held s) o os, ap (sum_by (held s)) same, noted_held s is_name taken o);
    })

pub node_counts : (s : Text) (k : NodeKind) (last : ℕ) (nodes : List Node) (children : List ℕ) (o : Begun) → own_count (node_of s k last nodes children o) ≤ 1 + held s o
node_counts s k last nodes children o = omega (arith, own_count-le (node_of s k last nodes children o), length-map o.names (spelling_at s))

closed_costs : (s : Text) (k : NodeKind) (last : ℕ) (b c : Built) (os : List Begun) → os ≡ b.begun → closed_in s k last b os ≡ Some c → Costs s b c (length b.begun - 1) 1 0
closed_costs s k last b c [] same is = absurd (cc)
closed_costs s k last b c (o ∷ os) same is =
    let node : Node = node_of s k last b.nodes (drop o.height b.tops) o in
    let new : Built = record { nodes = b.nodes ++ node ∷ []; tops = take o.height b.tops ++ length b.nodes ∷ []; begun = os } in
    subst (λ (x : Built). Costs s b x (length b.begun - 1) 1 0) (same_Some new c is)
    (record {
      begun_are = (let size = ap length same in omega arith);
      tops_are = omega (arith, length_push (take o.height b.tops) (length b.nodes));
      nodes_are = omega (arith, length_push b.nodes node);
      spent_is = omega (arith, sum_by_push own_count b.nodes node, sum_by-cons (held s) o os, ap (sum_by (held s)) same, node_counts s k last b.nodes (drop o.height b.tops) o);
    })

given_costs : (s : Text) (b c : Built) (os : List Begun) → os ≡ b.begun → given_in b os ≡ Some c → Costs s b c (length b.begun - 1) (length b.tops) 0
given_costs s b c [] same is = absurd (cc)
given_costs s b c (o ∷ []) same is = absurd (cc)
given_costs s b c (o ∷ p ∷ os) same is =
    let both : Begun = record { first = p.first; mark = p.mark; height = p.height; names = p.names ++ o.names; value = p.value } in
    let new : Built = record { nodes = b.nodes; tops = b.tops; begun = both ∷ os } in
    subst (λ (x : Built). Costs s b x (length b.begun - 1) (length b.tops) 0) (same_Some new c is)
    (record {
      begun_are = (let size = ap length same in omega arith);
      tops_are = omega arith;
      nodes_are = omega arith;
      spent_is = omega (arith, sum_by-cons (held s) both os, sum_by-cons (held s) o (p ∷ os), sum_by-cons (held s) p os, ap (sum_by (held s)) same, length-append p.names o.names);
    })

-- a name becomes whole, and is wrapped
rewrapped_costs : (s : Text) (taken : ℕ) (b c : Built) (o : Option Built) → closed s kind.Name (taken - 1) b ≡ o → then_wrapped taken o ≡ Some c → begun_for action.Base ≤ length b.begun → Costs s b c (length b.begun) 1 0
rewrapped_costs s taken b c None was is enough = absurd (cc)
rewrapped_costs s taken b c (Some d) was is enough =
    let one = closed_costs s kind.Name (taken - 1) b d b.begun refl was in
    let two = wrapped_exactly s taken d c is in
    record {
      begun_are = omega (arith, one.begun_are, two.0);
      tops_are = omega (arith, one.tops_are, two.1);
      nodes_are = omega (arith, one.nodes_are, two.2);
      spent_is = omega (arith, one.spent_is, two.3);
    }
  where
    exactly_on : (s : Text) (taken : ℕ) (b c : Built) (o : Option Node) → wrapped_on taken b o ≡ Some c → (length c.begun ≡ length b.begun + 1) × (length b.tops ≤ length c.tops) × (length c.nodes ≤ length b.nodes) × (spent s c ≤ spent s b)
    exactly_on s taken b c None is = absurd (cc)
    exactly_on s taken b c (Some n) is =
        let new = opened n.first taken (length b.tops - 1) b in
        subst (λ (x : Built). (length x.begun ≡ length b.begun + 1) × (length b.tops ≤ length x.tops) × (length x.nodes ≤ length b.nodes) × (spent s x ≤ spent s b)) (same_Some new c is)
        (omega arith, omega arith, omega arith, omega (arith, sum_by-cons (held s) (record { first = n.first; mark = taken; height = length b.tops - 1; names = []; value = None }) b.begun))

    exactly_in : (s : Text) (taken : ℕ) (b c : Built) (o : Option ℕ) → wrapped_in taken b o ≡ Some c → (length c.begun ≡ length b.begun + 1) × (length b.tops ≤ length c.tops) × (length c.nodes ≤ length b.nodes) × (spent s c ≤ spent s b)
    exactly_in s taken b c None is = absurd (cc)
    exactly_in s taken b c (Some top) is = exactly_on s taken b c (slice_get b.nodes top) is

    wrapped_exactly : (s : Text) (taken : ℕ) (b c : Built) → wrapped taken b ≡ Some c → (length c.begun ≡ length b.begun + 1) × (length b.tops ≤ length c.tops) × (length c.nodes ≤ length b.nodes) × (spent s c ≤ spent s b)
    wrapped_exactly s taken b c is = exactly_in s taken b c (slice_get b.tops (length b.tops - 1)) is

base_costs : (s : Text) (taken t : ℕ) (b c : Built) (type : Bool) → t ≤ 1 → t ≤ length b.tops → begun_for action.Base ≤ length b.begun → cond type (Some b) (then_wrapped taken (closed s kind.Name (taken - 1) b)) ≡ Some c → Costs s b c (length b.begun) t 0
base_costs s taken t b c true small there enough is =
    subst (λ (x : Built). Costs s b x (length b.begun) t 0) (same_Some b c is) (record { begun_are = refl; tops_are = there; nodes_are = omega arith; spent_is = omega arith })
base_costs s taken t b c false small there enough is =
    let both = rewrapped_costs s taken b c (closed s kind.Name (taken - 1) b) refl is enough in
    record { begun_are = both.begun_are; tops_are = omega (arith, both.tops_are); nodes_are = both.nodes_are; spent_is = both.spent_is }

fewer_tops : (s : Text) (b c : Built) (begun tops cost t : ℕ) → t ≤ tops → Costs s b c begun tops cost → Costs s b c begun t cost
fewer_tops s b c begun tops cost t less known = record { begun_are = known.begun_are; tops_are = omega (arith, known.tops_are); nodes_are = known.nodes_are; spent_is = known.spent_is }

pub acted_costs : (s : Text) (a : Action) (taken t : ℕ) (b c : Built) → t ≤ 1 → t ≤ length b.tops → begun_for a ≤ length b.begun → acted s a taken b ≡ Some c → Costs s b c (begun_after a (length b.begun)) (tops_after a t) (cond (notes a) (token_len s taken) 0)
acted_costs s action.Open taken t b c small there enough is =
    let new = opened taken taken (length b.tops) b in
    subst (λ (x : Built). Costs s b x (length b.begun + 1) t 0) (same_Some new c is) (fewer_tops s b new (length b.begun + 1) (length b.tops) 0 t there (opened_costs s taken taken (length b.tops) b))
acted_costs s action.Wrap taken t b c small there enough is = fewer_tops s b c (length b.begun + 1) (length b.tops) 0 t there (wrapped_in_costs s taken b c (slice_get b.tops (length b.tops - 1)) is)
acted_costs s action.Note taken t b c small there enough is = fewer_tops s b c (length b.begun) (length b.tops) (token_len s taken) t there (noted_costs s (is_idn (slice_get s.symbols taken)) taken b c b.begun refl is)
acted_costs s (action.Close k) taken t b c small there enough is = closed_costs s k taken b c b.begun refl is
acted_costs s action.Base taken t b c small there enough is = base_costs s taken t b c (closes 0 (drop (taken + 1) s.symbols)) small there enough is
acted_costs s action.Give taken t b c small there enough is = fewer_tops s b c (length b.begun - 1) (length b.tops) 0 t there (given_costs s b c b.begun refl is)
