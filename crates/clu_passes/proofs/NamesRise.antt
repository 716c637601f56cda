-- What is listed by names ascends by them, and so do the heads of the routines of a cluster.
use Rattle.std.proofs.Common.{◌≡◌, ◌∙◌, ℕ, zero, suc, ◌+◌, Bool, true, false, if◌then◌else◌, List, [], ◌∷◌, ◌++◌, map, get_or, refl, sym, ap, subst, arith}
use Rattle.std.specs.Prelude.{slice_get}
use Rattle.std.specs.declared.cmp.Ordering.{Ordering}
use Rattle.std.specs.declared.cmp.Ordering.TheVariants.{Less, Equal, Greater}
use Rattle.std.specs.Ordering.{is_lt, is_eq, ordering_reverse, nat_cmp}
use Rattle.std.specs.Cmp.Lexicographic.{slice_cmp, nat_list_cmp_total}
use Rattle.std.specs.List.Sorted.{IsSortedBy}
use Rattle.clu_tree.specs.declared.node.Node.{Node}
use Rattle.clu_tree.specs.declared.node.NodeKind.TheVariants as kind
use Rattle.clu_head.specs.declared.head.RoutineHead.{RoutineHead}
use Rattle.clu_head.specs.declared.routines.Named.{Named}
use Rattle.clu_head.specs.Listed.{with_one, listed}
use Rattle.clu_head.specs.Ranks.{before, same, first_of}
use Rattle.clu_head.specs.Named.{name_rank}
use Rattle.clu_head.specs.There.{is_there}
use Rattle.clu_head.specs.Routines.{name_at, named_told, named_at, routines_named, once_if, routines_among, AreHeads, AreListed}
use Rattle.clu_operations.specs.Modules.{routine_name}

-- ---- by any rank

module _ {X : Type 0} (rank : X → List ℕ) where
  abbrev cmp : X → X → Ordering
  cmp a b = slice_cmp nat_cmp (rank a) (rank b)

  abbrev pub Rises : List X → Type 0
  Rises [] = Unit {0}
  Rises (x ∷ []) = Unit {0}
  Rises (x ∷ y ∷ ys) = (before rank y x ≡ false) × Rises (y ∷ ys)

  turned : (a b : X) → before rank b a ≡ is_lt (ordering_reverse (cmp a b))
  turned a b = ap is_lt (nat_list_cmp_total.antisymm (rank b) (rank a))

  -- one of the same rank comes before the same
  alike : (d e y : X) → cmp d e ≡ Equal → before rank y e ≡ false → before rank y d ≡ false
  alike d e y is low = turned d y ∙ ap (λ (r : Ordering). is_lt (ordering_reverse r)) (nat_list_cmp_total.congr (rank d) (rank e) (rank y) is) ∙ sym (turned e y) ∙ low

  first_alike : (d e : X) (es : List X) → cmp d e ≡ Equal → Rises (e ∷ es) → Rises (d ∷ es)
  first_alike d e [] is up = tt
  first_alike d e (f ∷ fs) is up = (alike d e f is up.0, up.1)

  above : (d e : X) → cmp d e ≡ Less → before rank e d ≡ false
  above d e is = turned d e ∙ ap (λ (r : Ordering). is_lt (ordering_reverse r)) is

  not_above : (d e : X) → cmp d e ≡ Greater → before rank d e ≡ false
  not_above d e is = ap is_lt is

  abbrev put : X → List X → List X
  put d es = with_one (before rank) (same rank) first_of d es

  put_behind : (e d : X) (es : List X) → before rank d e ≡ false → Rises (e ∷ es) → Rises (e ∷ put d es)
  put_behind e d [] low up = (low, tt)
  put_behind e d (f ∷ fs) low up = by (cmp d f) refl (λ l. put_behind f d fs l up.1)
    where
      by : (r : Ordering) → cmp d f ≡ r → (before rank d f ≡ false → Rises (f ∷ put d fs)) → Rises (e ∷ (if is_eq r then d ∷ fs else if is_lt r then d ∷ f ∷ fs else f ∷ put d fs))
      by Equal is more = (low, first_alike d f fs is up.1)
      by Less is more = (low, (above d f is, up.1))
      by Greater is more = (up.0, more (not_above d f is))

  put_rises : (d : X) (es : List X) → Rises es → Rises (put d es)
  put_rises d [] up = tt
  put_rises d (f ∷ fs) up = by (cmp d f) refl
    where
      by : (r : Ordering) → cmp d f ≡ r → Rises (if is_eq r then d ∷ fs else if is_lt r then d ∷ f ∷ fs else f ∷ put d fs)
      by Equal is = first_alike d f fs is up
      by Less is = (above d f is, up)
      by Greater is = put_behind f d fs (not_above d f is) up

  pub listed_rises : (xs : List X) → Rises (listed (before rank) (same rank) first_of xs)
  listed_rises [] = tt
  listed_rises (x ∷ xs) = put_rises x (listed (before rank) (same rank) first_of xs) (listed_rises xs)

  pub sorted : (xs : List X) → Rises xs → IsSortedBy (before rank) xs
  sorted [] up k d from to = absurd (omega (arith, to))
  sorted (x ∷ []) up k d from to = absurd (omega (arith, to))
  sorted (x ∷ y ∷ ys) up zero d from to = up.0
  sorted (x ∷ y ∷ ys) up (suc k) d from to =
      let next : suc k + 1 ≡ suc (k + 1) = omega arith in
      subst (λ (i : ℕ). before rank (get_or (x ∷ y ∷ ys) i d) (get_or (y ∷ ys) k d) ≡ false) (sym next) (sorted (y ∷ ys) up.1 k d (omega arith) (omega (arith, to)))

-- ---- routines

module _ (nodes : List Node) where
  -- the node is a Routine with this name
  abbrev HasName : ℕ × List ℕ → Type 0
  HasName r = (is_there kind.Routine (slice_get nodes r.0) ≡ true) × (r.1 ≡ name_at (slice_get nodes r.0))

  abbrev HaveNames : List (ℕ × List ℕ) → Type 0
  HaveNames [] = Unit {0}
  HaveNames (r ∷ rs) = HasName r × HaveNames rs

  abbrev AreNamed : List Named → Type 0
  AreNamed [] = Unit {0}
  AreNamed (r ∷ rs) = HasName (named_told r) × AreNamed rs

  names_there : (ns : List ℕ) → HaveNames (routines_named nodes ns)
  unfolding routines_named
  names_there [] = tt
  names_there (n ∷ ns) = by (is_there kind.Routine (slice_get nodes n)) refl (names_there ns)
    where
      by : (b : Bool) → is_there kind.Routine (slice_get nodes n) ≡ b → HaveNames (routines_named nodes ns) → HaveNames ((if b then (n, name_at (slice_get nodes n)) ∷ [] else []) ++ routines_named nodes ns)
      by true is rest = ((is, refl), rest)
      by false is rest = rest

  named_so : (rs : List Named) → HaveNames (map named_told rs) → AreNamed rs
  named_so [] have = tt
  named_so (r ∷ rs) have = (have.0, named_so rs have.1)

  put_named : (d : Named) (es : List Named) → HasName (named_told d) → AreNamed es → AreNamed (with_one (before name_rank) (same name_rank) first_of d es)
  put_named d [] has are = (has, tt)
  put_named d (e ∷ es) has are = by (slice_cmp nat_cmp (name_rank d) (name_rank e)) (put_named d es has are.1)
    where
      by : (r : Ordering) → AreNamed (with_one (before name_rank) (same name_rank) first_of d es) → AreNamed (if is_eq r then d ∷ es else if is_lt r then d ∷ e ∷ es else e ∷ with_one (before name_rank) (same name_rank) first_of d es)
      by Equal more = (has, are.1)
      by Less more = (has, are)
      by Greater more = (are.0, more)

  listed_named : (rs : List Named) → AreNamed rs → AreNamed (listed (before name_rank) (same name_rank) first_of rs)
  listed_named [] are = tt
  listed_named (r ∷ rs) are = put_named r (listed (before name_rank) (same name_rank) first_of rs) are.0 (listed_named rs are.1)

  abbrev nodes_of : List Named → List ℕ
  nodes_of rs = map (λ (r : Named). r.node) rs

  all_among : (rs : List Named) → AreNamed rs → routines_among nodes (nodes_of rs) ≡ nodes_of rs
  all_among [] are = refl
  all_among (r ∷ rs) are =
      ap (λ (b : Bool). once_if b r.node ++ routines_among nodes (nodes_of rs)) are.0.0 ∙ ap (λ (ns : List ℕ). r.node ∷ ns) (all_among rs are.1)

  module _ (is : ℕ → RoutineHead → Type 0) (named : (n : ℕ) (h : RoutineHead) → is n h → h.name ≡ name_at (slice_get nodes n)) where
    name_of : (r : Named) (h : RoutineHead) → HasName (named_told r) → is r.node h → name_rank r ≡ h.name
    name_of r h has at = has.1 ∙ sym (named r.node h at)

    heads_rise : (rs : List Named) (hs : List RoutineHead) → AreNamed rs → Rises name_rank rs → AreHeads is (nodes_of rs) hs → Rises routine_name hs
    heads_rise [] [] are up heads = tt
    heads_rise [] (h ∷ hs) are up heads = absurd heads
    heads_rise (r ∷ rs) [] are up heads = absurd heads
    heads_rise (r ∷ []) (h ∷ []) are up heads = tt
    heads_rise (r ∷ []) (h ∷ g ∷ hs) are up heads = absurd heads.1
    heads_rise (r ∷ s ∷ rs) (h ∷ []) are up heads = absurd heads.1
    heads_rise (r ∷ s ∷ rs) (h ∷ g ∷ hs) are up heads = (
      sym (ap (λ (name : List ℕ). is_lt (slice_cmp nat_cmp (name_rank s) name)) (name_of r h are.0 heads.0)
          ∙ ap (λ (name : List ℕ). is_lt (slice_cmp nat_cmp name h.name)) (name_of s g are.1.0 heads.1.0))
          ∙ up.0,
      heads_rise (s ∷ rs) (g ∷ hs) are.1 up.1 heads.1,
    )

    pub routines_rise : (ns : List ℕ) (hs : List RoutineHead) → AreListed nodes is ns hs → IsSortedBy (before routine_name) hs
    unfolding AreListed
    routines_rise ns hs are =
        let rs : List Named = are.0 in
        let all : AreNamed (listed (before name_rank) (same name_rank) first_of rs) = listed_named rs (named_so rs (subst HaveNames (sym are.1) (names_there ns))) in
        sorted routine_name hs
        (heads_rise (listed (before name_rank) (same name_rank) first_of rs) hs all (listed_rises name_rank rs)
        (subst (λ (ms : List ℕ). AreHeads is ms hs) (all_among (listed (before name_rank) (same name_rank) first_of rs) all) are.2))
