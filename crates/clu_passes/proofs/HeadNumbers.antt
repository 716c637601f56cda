-- The numbers that stand in the heads of a file are those of its arena, routines ascend by name, and what is no node asks nothing.
use Rattle.std.proofs.Common.{◌≡◌, ◌∙◌, ℕ, ◌+◌, ◌-◌, ◌<◌, ◌≤◌, ◌&&◌, nat_le, nat_lt, Bool, true, false, if◌then◌else◌, List, [], ◌∷◌, length, take, drop, Option, Some, None, refl, sym, ap, subst, arith}
use Rattle.std.specs.Prelude.{slice_get}
use Rattle.std.specs.Option.{option_map}
use Rattle.std.proofs.lemmas.Option.{none-some, slice_get_within, slice_get_past, same_Some}
use Rattle.clu_tree.specs.declared.node.Node.{Node}
use Rattle.clu_tree.specs.declared.node.NodeKind.TheVariants as kind
use Rattle.clu_tree.specs.Nodes.{modules}
use Rattle.clu_syntax.specs.Splits.{children_of}
use Rattle.clu_names.specs.declared.scopes.Declared.{Declared}
use Rattle.clu_types.specs.declared.spec.Spec.{Spec}
use Rattle.clu_types.specs.declared.term.TypeId.{TypeId}
use Rattle.clu_types.specs.declared.term.Term.{Term}
use Rattle.clu_types.specs.Arena.{Grows}
use Rattle.clu_types.proofs.Carrying.{length_grows}
use Rattle.clu_settle.specs.Values.{AreWithin}
use Rattle.clu_settle.specs.Lists.{type_id, value_of}
use Rattle.clu_settle.proofs.Within.{value_within}
use Rattle.clu_head.specs.declared.asked.Asked.{Asked}
use Rattle.clu_head.specs.declared.clauses.InSet.{InSet}
use Rattle.clu_head.specs.declared.head.Demanded.{Demanded}
use Rattle.clu_head.specs.declared.head.RoutineHead.{RoutineHead}
use Rattle.clu_head.specs.declared.head.HeadForm.{HeadForm}
use Rattle.clu_head.specs.declared.head.HeadForm.TheVariants as form
use Rattle.clu_head.specs.declared.head.Head.{Head}
use Rattle.clu_head.specs.declared.heads.Heads.{Heads}
use Rattle.clu_head.specs.declared.known.Known.{Known}
use Rattle.clu_head.specs.Asked.{demands_at, starts_to, start_in, between, demands_of}
use Rattle.clu_head.specs.Listed.{listed}
use Rattle.clu_head.specs.Ranks.{before, same, demand_rank, both_asked}
use Rattle.clu_head.specs.Refused.{grows_in}
use Rattle.clu_head.specs.Routines.{term_at, routines_among, listed_nodes, IsHead, AreHeads, AreListed}
use Rattle.clu_head.specs.Terms.{IsNumbered}
use Rattle.clu_head.specs.There.{is_there}
use Rattle.clu_head.specs.Wanted.{wanted_at, first_wanted, wanted_of, IsPutIn, IsPut, IsPutIf, IsWanted, AreAsked, asked_to}
use Rattle.clu_head.specs.Modules.{AreOfModules, AreKnown, AreOf, AreHeadsOf}
use Rattle.clu_bindings.specs.declared.file.Headed.{Headed}
use Rattle.clu_bindings.specs.declared.meaning.ModuleId.{ModuleId}
use Rattle.clu_operations.specs.Bundles.{WantedBelow, RoutinesBelow, FormBelow, PartBelow}
use Rattle.clu_operations.specs.ByName as ByName
use Rattle.clu_operations.specs.Finding.{IsBelowIf}
use Rattle.clu_operations.specs.Found.{ModuleBelow}
use Rattle.clu_operations.specs.Modules.{Module, own, kept, known_of, routine_name, of_routine, HasAscending}
use Rattle.clu_operations.specs.Modules as Parts
use Rattle.clu_operations.specs.Wished as Wished
use Rattle.clu_passes.specs.Libraries.{HoldAscending}
use Rattle.clu_passes.proofs.AskedPieces.{starts_size}
use Rattle.clu_passes.proofs.DemandsEach.{Each, each_of, each_listed, each_asked}
use Rattle.clu_passes.proofs.EachHead.{each_head}
use Rattle.clu_passes.proofs.HeadKinds.{type_within}
use Rattle.clu_passes.proofs.NamesRise.{routines_rise}
use Rattle.clu_passes.proofs.SetVariable.{IsFromOne, all_from_one}

-- ---- what is wanted

pub wants_below : (n : ℕ) (ds : List Demanded) → Each (IsBelowIf n) ds → WantedBelow n ds
wants_below n [] each = tt
wants_below n (d ∷ ds) each = (each.0, wants_below n ds each.1)

module _ (k : Known) (n constants : ℕ) (within : AreWithin n constants k.values.now) where
  value_below : (i : ℕ) → IsBelowIf n (type_id (value_of k.values.now i))
  value_below i = by (type_id (value_of k.values.now i)) refl
    where
      by : (o : Option TypeId) → type_id (value_of k.values.now i) ≡ o → IsBelowIf n o
      by (Some id) e = type_within n constants (value_of k.values.now i) id (value_within n constants k.values.now i within) e
      by None e = tt

  at_below : (i : ℕ) → IsBelowIf n (wanted_at k.refused.now k.rounds.now k.values.now i)
  unfolding wanted_at
  at_below i = by (grows_in k.refused.now (slice_get k.rounds.now i) i)
    where
      by : (b : Bool) → IsBelowIf n (if b then None else type_id (value_of k.values.now i))
      by true = tt
      by false = value_below i

  first_below : (cs : List ℕ) → IsBelowIf n (first_wanted k.refused.now k.rounds.now k.values.now cs)
  first_below [] = tt
  first_below (c ∷ cs) = at_below c

  pub of_below : (its : Option Node) → IsBelowIf n (wanted_of k.refused.now k.rounds.now k.values.now its)
  of_below its = by (is_there kind.Oper its)
    where
      by : (b : Bool) → IsBelowIf n (if b then first_wanted k.refused.now k.rounds.now k.values.now (children_of its) else None)
      by true = first_below (children_of its)
      by false = tt

  module _ (old new : List Term) (many : n ≤ length new) where
    below_more : (of : Option TypeId) → IsBelowIf n of → IsBelowIf (length new) of
    below_more (Some id) is = omega (arith, many, is)
    below_more None is = tt

    put_below : (variable p : ℕ) (of w : Option TypeId) → IsPutIf old new variable p of w → IsBelowIf (length new) w
    unfolding IsPutIf IsPut IsPutIn
    put_below variable p (Some t) (Some id) is = is.1
    put_below variable p (Some t) None is = tt
    put_below variable p None w is = subst (IsBelowIf (length new)) (sym is) tt

    wanted_below : (set : Option InSet) (p : ℕ) (of w : Option TypeId) → IsBelowIf n of → IsWanted old new set p of w → IsBelowIf (length new) w
    unfolding IsWanted
    wanted_below (Some set) p of w below is = put_below set.variable p of w is
    wanted_below None p of w below is = subst (IsBelowIf (length new)) (sym is) (below_more of below)

    pub asked_below : (size : ℕ) (ds : List Demanded) → AreAsked k old new (asked_to k size) ds → Each (IsBelowIf (length new)) ds
    asked_below size ds are =
        each_asked (IsBelowIf (length new)) k old new IsFromOne (λ a w from there is. wanted_below a.set a.parameter (wanted_of k.refused.now k.rounds.now k.values.now (slice_get k.syntax.now a.oper)) w (of_below (slice_get k.syntax.now a.oper)) is)
        (asked_to k size) ds (all_from_one k size) are

-- ---- heads

numbered_below : (old new : List Term) (t : Option Term) (id : Option TypeId) → IsNumbered old new t id → IsBelowIf (length new) id
numbered_below old new (Some t) (Some id) is = slice_get_within new id.0 t is
numbered_below old new (Some t) None is = tt
numbered_below old new None (Some id) is = absurd is
numbered_below old new None None is = tt

-- what holds of the form of each head
abbrev pub IsGood : ℕ → HeadForm → Type 0
IsGood many f = FormBelow many f × ByName.AreAscending routine_name (Parts.routines_in f)

nothing_ascends : ByName.AreAscending routine_name []
nothing_ascends i d from to = absurd (omega (arith, to))

module _ (k : Known) (asked : Asked) (old new : List Term) (asks_below : Each (IsBelowIf (length new)) asked.demands.items) where
  abbrev many : ℕ
  many = length new

  listed_below : (n : ℕ) → WantedBelow many (listed (before demand_rank) (same demand_rank) both_asked (demands_of asked.demands.items asked.starts.items n))
  listed_below n =
      wants_below many (listed (before demand_rank) (same demand_rank) both_asked (demands_of asked.demands.items asked.starts.items n))
      (each_listed (IsBelowIf many) (demands_of asked.demands.items asked.starts.items n) (each_of (IsBelowIf many) asked.demands.items asked.starts.items n asks_below))

  head_below : (cvt : Option TypeId) (exports : List (List ℕ)) (n : ℕ) (h : RoutineHead) → IsHead k asked cvt exports old new n h → PartBelow many (of_routine h)
  head_below cvt exports n h is = (subst (WantedBelow many) (sym is.demands) (listed_below n), numbered_below old new (term_at k cvt n (slice_get k.syntax.now n)) h.of_type is.of_type)

  heads_below : (cvt : Option TypeId) (exports : List (List ℕ)) (ns : List ℕ) (hs : List RoutineHead) → AreHeads (IsHead k asked cvt exports old new) ns hs → RoutinesBelow many hs
  heads_below cvt exports [] [] are = tt
  heads_below cvt exports [] (h ∷ hs) are = absurd are
  heads_below cvt exports (n ∷ ns) [] are = absurd are
  heads_below cvt exports (n ∷ ns) (h ∷ hs) are = (head_below cvt exports n h are.0, heads_below cvt exports ns hs are.1)

  routines_below : (cvt : Option TypeId) (exports : List (List ℕ)) (routines : List ℕ) (hs : List RoutineHead) → AreListed k.syntax.now (IsHead k asked cvt exports old new) routines hs → RoutinesBelow many hs
  unfolding AreListed
  routines_below cvt exports routines hs are = heads_below cvt exports (routines_among k.syntax.now (listed_nodes are.0)) hs are.2

  routine_good : (n : ℕ) (r : RoutineHead) → IsHead k asked None [] old new n r → IsGood many (form.Routine r)
  routine_good n r is = ((head_below None [] n r is, tt), nothing_ascends)

  cluster_good : (cvt : Option TypeId) (exports : List (List ℕ)) (routines : List ℕ) (n : ℕ) (rs : List RoutineHead) → AreListed k.syntax.now (IsHead k asked cvt exports old new) routines rs
      → IsGood many (form.Cluster (listed (before demand_rank) (same demand_rank) both_asked (demands_of asked.demands.items asked.starts.items n)) rs)
  cluster_good cvt exports routines n rs are = (((listed_below n, tt), routines_below cvt exports routines rs are), routines_rise k.syntax.now (IsHead k asked cvt exports old new) (λ m h at. at.name) routines rs are)

pub modules_good : (k : Known) (asked : Asked) (old new : List Term) → Each (IsBelowIf (length new)) asked.demands.items → (ns : List ℕ) (hs : List Head) → AreOfModules k asked old new ns hs → (i : ℕ) (h : Head) → slice_get hs i ≡ Some h → IsGood (length new) h.form
modules_good k asked old new below ns hs are i h at =
    each_head k asked old new (IsGood (length new)) (λ m n r at is. routine_good k asked old new below n r is)
    (λ mid front behind cvt name kinds owns exports routines n rs all. cluster_good k asked mid new below cvt exports routines n rs all) ns hs are i h at

-- ---- what is no node

nothing_if : (b : Bool) (many : ℕ) (ds : List Demanded) → many ≡ 0 → (if b then take many ds else []) ≡ []
nothing_if true many ds none = ap (λ (m : ℕ). take m ds) none
nothing_if false many ds none = refl

nothing_between : (ds : List Demanded) → between ds (length ds) (length ds) ≡ []
nothing_between ds = nothing_if (nat_le (length ds) (length ds) && nat_le (length ds) (length ds)) (length ds - length ds) (drop (length ds) ds) (omega arith)

nothing_past : (of : ℕ → List Demanded) (size : ℕ) (ds : List Demanded) (n : ℕ) → size ≤ n → demands_of ds (starts_to of size) n ≡ []
unfolding demands_of
nothing_past of size ds n past =
    let many : length (starts_to of size) ≡ size = starts_size of size in
    ap (λ (o : Option ℕ). between ds (start_in (length ds) o) (start_in (length ds) (slice_get (starts_to of size) (n + 1)))) (slice_get_past (starts_to of size) n (omega (arith, many, past)))
    ∙ ap (λ (o : Option ℕ). between ds (length ds) (start_in (length ds) o)) (slice_get_past (starts_to of size) (n + 1) (omega (arith, many, past)))
    ∙ nothing_between ds

-- ---- all of a file

module _ (headed : Headed) (ds : List Declared) (refused : List Bool) (old new : List Term) (grows : Grows old new) (constants : ℕ) (within : AreWithin (length old) constants headed.file.values.now) (library : HoldAscending headed.file.library.now) (k : Known)
    (tells : AreKnown headed.file.syntax.now headed.file.rounds.now ds headed.file.values.now refused k) (are : AreOf k old new headed.heads.now) where
  abbrev heads : Heads
  heads = headed.heads.now

  values_within : AreWithin (length old) constants k.values.now
  values_within = subst (AreWithin (length old) constants) (sym tells.value) within

  all_below : Each (IsBelowIf (length new)) heads.asked.demands.items
  all_below = asked_below k (length old) constants values_within old new (length_grows old new grows) (length k.syntax.now) heads.asked.demands.items are.asked

  abbrev IsFit : Module → Type 0
  IsFit its = ModuleBelow (length new) its × HasAscending its

  own_fit : (o : Option Head) (i : ℕ) → slice_get heads.modules.items i ≡ o → (its : Module) → option_map own o ≡ Some its → IsFit its
  own_fit (Some h) i at its is = subst IsFit (same_Some (own h) its is) (modules_good k heads.asked old new all_below (modules k.syntax.now) heads.modules.items are.modules i h at)
  own_fit None i at its is = absurd (none-some its is)

  kept_fit : (o : Option Spec) (i : ℕ) → slice_get headed.file.library.now i ≡ o → (its : Module) → option_map kept o ≡ Some its → IsFit its
  kept_fit (Some s) i at its is = subst IsFit (same_Some (kept s) its is) (library i s at)
  kept_fit None i at its is = absurd (none-some its is)

  abbrev many_own : ℕ
  many_own = headed.file.bindings.now.modules.of_file

  fit : (id : ModuleId) (its : Module) → known_of headed id ≡ Some its → IsFit its
  fit id its is = by (nat_lt id.0 many_own) is
    where
      by : (b : Bool) → (if b then option_map own (slice_get heads.modules.items id.0) else option_map kept (slice_get headed.file.library.now (id.0 - many_own))) ≡ Some its → IsFit its
      by true e = own_fit (slice_get heads.modules.items id.0) id.0 refl its e
      by false e = kept_fit (slice_get headed.file.library.now (id.0 - many_own)) (id.0 - many_own) refl its e

  abbrev of : ℕ → List Demanded
  of n = demands_at k.syntax.now k.rounds.now k.counts.now k.restricted.now n

  numbered_so : Wished.AreHeads headed (length new)
  numbered_so = record {
    below = λ id its is. (fit id its is).0;
    ascending = λ id its is. (fit id its is).1;
    asked = λ n. wants_below (length new) (demands_of heads.asked.demands.items heads.asked.starts.items n) (each_of (IsBelowIf (length new)) heads.asked.demands.items heads.asked.starts.items n all_below);
    past = λ n past.
        ap (λ (starts : List ℕ). demands_of heads.asked.demands.items starts n) are.starts
        ∙ nothing_past of (length k.syntax.now) heads.asked.demands.items n (subst (λ (nodes : List Node). length nodes ≤ n) (sym tells.tree) past);
  }

pub numbered : (headed : Headed) (ds : List Declared) (refused : List Bool) (old new : List Term) → Grows old new → (constants : ℕ) → AreWithin (length old) constants headed.file.values.now → HoldAscending headed.file.library.now
    → AreHeadsOf headed.file.syntax.now headed.file.rounds.now ds headed.file.values.now refused old new headed.heads.now → Wished.AreHeads headed (length new)
unfolding AreHeadsOf
numbered headed ds refused old new grows constants within library are = numbered_so headed ds refused old new grows constants within library are.0 are.1 are.2
