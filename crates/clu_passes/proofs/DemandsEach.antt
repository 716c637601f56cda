-- What holds of each type that is wanted in what a file asks holds of those in the lists that are made of it.
use Rattle.std.proofs.Common.{◌≡◌, ℕ, zero, suc, ◌+◌, ◌-◌, ◌&&◌, nat_le, Bool, true, false, if◌then◌else◌, List, [], ◌∷◌, ◌++◌, length, take, drop, Option, refl, sym, subst}
use Rattle.std.specs.Prelude.{slice_get}
use Rattle.std.specs.List.{AllByRecursion, AllZip}
use Rattle.std.specs.declared.cmp.Ordering.{Ordering}
use Rattle.std.specs.declared.cmp.Ordering.TheVariants.{Less, Equal, Greater}
use Rattle.std.specs.Ordering.{is_lt, is_eq, nat_cmp}
use Rattle.std.specs.Cmp.Lexicographic.{slice_cmp}
use Rattle.clu_tree.specs.declared.node.NodeKind.TheVariants as kind
use Rattle.clu_types.specs.declared.term.TypeId.{TypeId}
use Rattle.clu_types.specs.declared.term.Term.{Term}
use Rattle.clu_head.specs.declared.clauses.Asking.{Asking}
use Rattle.clu_head.specs.declared.head.Demanded.{Demanded}
use Rattle.clu_head.specs.declared.known.Known.{Known}
use Rattle.clu_head.specs.Asked.{start_in, between, demands_of}
use Rattle.clu_head.specs.Asking.{demanded, demanded_by, names_in}
use Rattle.clu_head.specs.Listed.{with_one, listed}
use Rattle.clu_head.specs.Ranks.{before, same, demand_rank, both_asked}
use Rattle.clu_head.specs.There.{is_there}
use Rattle.clu_head.specs.Wanted.{wanted_of, IsWanted, IsAskedBy, one_list, AreAsked}

module _ (P : Option TypeId → Type 0) where
  abbrev pub Each : List Demanded → Type 0
  Each ds = AllByRecursion (λ (d : Demanded). P d.wanted) ds

  each_joined : (ds es : List Demanded) → Each ds → Each es → Each (ds ++ es)
  each_joined [] es a b = b
  each_joined (d ∷ ds) es a b = (a.0, each_joined ds es a.1 b)

  each_front : (many : ℕ) (ds : List Demanded) → Each ds → Each (take many ds)
  each_front zero ds a = tt
  each_front (suc k) [] a = tt
  each_front (suc k) (d ∷ ds) a = (a.0, each_front k ds a.1)

  each_rest : (many : ℕ) (ds : List Demanded) → Each ds → Each (drop many ds)
  each_rest zero ds a = a
  each_rest (suc k) [] a = tt
  each_rest (suc k) (d ∷ ds) a = each_rest k ds a.1

  each_if : (b : Bool) (ds : List Demanded) → Each ds → Each (if b then ds else [])
  each_if true ds a = a
  each_if false ds a = tt

  -- those of a node
  pub each_of : (ds : List Demanded) (starts : List ℕ) (i : ℕ) → Each ds → Each (demands_of ds starts i)
  unfolding demands_of
  each_of ds starts i a =
      let from : ℕ = start_in (length ds) (slice_get starts i) in
      let to : ℕ = start_in (length ds) (slice_get starts (i + 1)) in
      each_if (nat_le from to && nat_le to (length ds)) (take (to - from) (drop from ds)) (each_front (to - from) (drop from ds) (each_rest from ds a))

  abbrev put : Demanded → List Demanded → List Demanded
  put d es = with_one (before demand_rank) (same demand_rank) both_asked d es

  each_put : (d : Demanded) (es : List Demanded) → P d.wanted → Each es → Each (put d es)
  each_put d [] p a = (p, tt)
  each_put d (e ∷ es) p a = by (slice_cmp nat_cmp (demand_rank d) (demand_rank e)) (each_put d es p a.1)
    where
      by : (r : Ordering) → Each (put d es) → Each (if is_eq r then both_asked d e ∷ es else if is_lt r then d ∷ e ∷ es else e ∷ put d es)
      by Equal more = (p, a.1)
      by Less more = (p, a)
      by Greater more = (a.0, more)

  pub each_listed : (ds : List Demanded) → Each ds → Each (listed (before demand_rank) (same demand_rank) both_asked ds)
  each_listed [] a = tt
  each_listed (d ∷ ds) a = each_put d (listed (before demand_rank) (same demand_rank) both_asked ds) a.0 (each_listed ds a.1)

  each_named : (a : Asking) (w : Option TypeId) (names : List (List ℕ)) → P w → Each (demanded_by a w names)
  unfolding demanded
  each_named a w [] is = tt
  each_named a w (name ∷ names) is = (is, each_named a w names is)

  -- what is asked, if it holds of what each asks by an Oper that is there
  module _ (k : Known) (old new : List Term) (Q : Asking → Type 0)
      (each : (a : Asking) (w : Option TypeId) → Q a → is_there kind.Oper (slice_get k.syntax.now a.oper) ≡ true → IsWanted old new a.set a.parameter (wanted_of k.refused.now k.rounds.now k.values.now (slice_get k.syntax.now a.oper)) w → P w) where
    one_asked : (a : Asking) (ds : List Demanded) → Q a → IsAskedBy k old new a ds → Each ds
    unfolding IsAskedBy
    one_asked a ds q is = subst Each (sym is.2) (by (is_there kind.Oper (slice_get k.syntax.now a.oper)) refl)
      where
        by : (b : Bool) → is_there kind.Oper (slice_get k.syntax.now a.oper) ≡ b → Each (if b then demanded_by a is.0 (names_in k.syntax.now (slice_get k.syntax.now a.oper)) else [])
        by true there = each_named a is.0 (names_in k.syntax.now (slice_get k.syntax.now a.oper)) (each a is.0 q there is.1)
        by false there = tt

    pieces_asked : (all : List Asking) (pieces : List (List Demanded)) → AllByRecursion Q all → AllZip (IsAskedBy k old new) all pieces → Each (one_list pieces)
    pieces_asked [] [] qs are = tt
    pieces_asked [] (p ∷ ps) qs are = absurd are
    pieces_asked (a ∷ all) [] qs are = absurd are
    pieces_asked (a ∷ all) (p ∷ ps) qs are = each_joined p (one_list ps) (one_asked a p qs.0 are.0) (pieces_asked all ps qs.1 are.1)

    pub each_asked : (all : List Asking) (ds : List Demanded) → AllByRecursion Q all → AreAsked k old new all ds → Each ds
    unfolding AreAsked
    each_asked all ds qs are = subst Each (sym are.1) (pieces_asked all are.0 qs are.2)
