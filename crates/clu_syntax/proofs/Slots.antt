-- The children of each node of the grammar stand in the slots of its kind. The forms of the grammar are run over the
-- slots by number: what they may read from a number on ends at one of some numbers.
use Rattle.std.proofs.Common.{◌≡◌, ◌∙◌, ◌⊎◌, ℕ, zero, suc, ◌==◌, Bool, true, false, if◌then◌else◌, List, [], ◌∷◌, ◌++◌, length, drop, map, Option, Some, None, option_and_then, option_map, slice_get, refl, ap, sym, subst, inl, inr, rules, arith, eqb-true}
use Rattle.clu_tree.specs.declared.node.Node.{Node}
use Rattle.clu_tree.specs.declared.node.NodeKind.{NodeKind}
use Rattle.clu_tree.specs.declared.node.NodeKind.TheVariants as k
use Rattle.clu_tree.specs.contracts.node.NodeKind.{the_type as kind_type}
use Rattle.clu_parser.specs.Shape.{Child, is_child, Group, Part, parts_of, token, name, value, child, many, maybe, Letter, own, named, valued, node, IsWord, nothing, token_is, name_is, value_is, child_is, no_more, one_more, without, with_one, IsFormOf, forms, kinds_in, HaveKinds, HasForm, HaveForms}
use Rattle.clu_syntax.specs.Kinds.{kind_of, kind_at}
use Rattle.clu_syntax.specs.Slots.{Slot, one, any, slots, after, may_end, fit}
use Rattle.clu_syntax.proofs.Enough.{kinds_append}
use denote.Enum.Bare.{sameb, same_true}
use Rattle.std.proofs.lemmas.Bool.{cases_Bool}

-- sets of numbers
mem : ℕ → List ℕ → Bool
mem n [] = false
mem n (m ∷ ms) = if m == n then true else mem n ms

add : ℕ → List ℕ → List ℕ
add n ms = if mem n ms then ms else n ∷ ms

join : List ℕ → List ℕ → List ℕ
join [] ms = ms
join (n ∷ ns) ms = add n (join ns ms)

within : List ℕ → List ℕ → Bool
within [] ms = true
within (n ∷ ns) ms = if mem n ms then within ns ms else false

mem_head : (n : ℕ) (ms : List ℕ) → mem n (n ∷ ms) ≡ true
unfolding mem
mem_head n ms = search rules

mem_tail : (n m : ℕ) (ms : List ℕ) → mem n ms ≡ true → mem n (m ∷ ms) ≡ true
unfolding mem
mem_tail n m ms h = elim (cases_Bool (m == n)) [ inl e ↦ rw e refl | inr e ↦ rw e h ]

mem_cases : (n m : ℕ) (ms : List ℕ) → mem n (m ∷ ms) ≡ true → (m ≡ n) ⊎ (mem n ms ≡ true)
unfolding mem
mem_cases n m ms h = elim (cases_Bool (m == n)) [ inl e ↦ inl (eqb-true m n e) | inr e ↦ inr (rw e at h) ]

add_own : (n : ℕ) (ms : List ℕ) → mem n (add n ms) ≡ true
unfolding add
add_own n ms = elim (cases_Bool (mem n ms)) [ inl e ↦ rw e e | inr e ↦ rw e (mem_head n ms) ]

add_kept : (x n : ℕ) (ms : List ℕ) → mem x ms ≡ true → mem x (add n ms) ≡ true
unfolding add
add_kept x n ms h = elim (cases_Bool (mem n ms)) [ inl e ↦ rw e h | inr e ↦ rw e (mem_tail x n ms h) ]

join_right : (x : ℕ) (ns ms : List ℕ) → mem x ms ≡ true → mem x (join ns ms) ≡ true
unfolding join
join_right x [] ms h = h
join_right x (n ∷ ns) ms h = add_kept x n (join ns ms) (join_right x ns ms h)

join_left : (x : ℕ) (ns ms : List ℕ) → mem x ns ≡ true → mem x (join ns ms) ≡ true
unfolding join mem
join_left x [] ms h = absurd (cc)
join_left x (n ∷ ns) ms h = elim (mem_cases x n ns h) [
  | inl e ↦ subst (λ (y : ℕ). mem y (add n (join ns ms)) ≡ true) e (add_own n (join ns ms))
  | inr later ↦ add_kept x n (join ns ms) (join_left x ns ms later)
]

within_mem : (x : ℕ) (ns ms : List ℕ) → within ns ms ≡ true → mem x ns ≡ true → mem x ms ≡ true
unfolding within mem
within_mem x [] ms w h = absurd (cc)
within_mem x (n ∷ ns) ms w h = elim (cases_Bool (mem n ms)) [
  | inl e ↦ elim (mem_cases x n ns h) [ inl same ↦ subst (λ (y : ℕ). mem y ms ≡ true) same e | inr later ↦ within_mem x ns ms (rw e at w) later ]
  | inr e ↦ absurd (let none : false ≡ true = rw e at w in cc)
]

bound : {A B : Type 0} (o : Option A) (f : A → Option B) (b : B) → option_and_then f o ≡ Some b → (a : A) × (o ≡ Some a) × (f a ≡ Some b)
bound None f b h = absurd (cc)
bound (Some a) f b h = (a, refl, h)

all_kinds : List NodeKind
all_kinds =
    k.File ∷ k.Module ∷ k.Routine ∷ k.Cluster ∷ k.Parm ∷ k.Results ∷ k.Signals ∷ k.Exc ∷ k.Where ∷ k.Restrict ∷ k.Oper ∷ k.TypeSet ∷ k.Equate ∷ k.Own ∷ k.Decl ∷ k.Simple ∷ k.ListT ∷ k.FieldsT ∷ k.FieldT ∷ k.RoutineT ∷ k.NameT ∷ k.Declare ∷ k.Init ∷ k.Assign ∷ k.SetField ∷ k.SetIndex ∷ k.CallS ∷ k.While ∷ k.For ∷ k.If ∷ k.Tagcase ∷ k.TagArm ∷ k.Return ∷ k.Yield ∷ k.Signal ∷ k.Exit ∷ k.Break ∷ k.Continue ∷ k.Begin ∷ k.Resignal ∷ k.Except ∷ k.When ∷ k.Others ∷ k.Infix ∷ k.Prefix ∷ k.Paren ∷ k.Literal ∷ k.Name ∷ k.Index ∷ k.Get ∷ k.Call ∷ k.Fields ∷ k.FieldE ∷ k.Elems ∷ k.OperOf ∷ k.Force ∷ k.Up ∷ k.Down ∷ []

has_kind : NodeKind → List NodeKind → Bool
has_kind kind [] = false
has_kind kind (it ∷ more) = if sameb kind_type it kind then true else has_kind kind more

each_kind : (kind : NodeKind) → has_kind kind all_kinds ≡ true
unfolding has_kind all_kinds
each_kind k.File = refl
each_kind _ = refl

module _ (base : List Slot) where
  -- the slot, by number, at which the next child stands, or after it
  after_from : ℕ → List Slot → NodeKind → Option ℕ
  after_from n [] kind = None
  after_from n (one p ∷ ss) kind = if p kind then Some (suc n) else None
  after_from n (any p ∷ ss) kind = if p kind then Some n else after_from (suc n) ss kind

  reads : ℕ → List NodeKind → Option ℕ
  reads n [] = Some n
  reads n (kind ∷ kinds) = option_and_then (λ m. reads m kinds) (after_from n (drop n base) kind)

  -- where a child of this class may lead, from a number and from several
  targets_of : Child → ℕ → List NodeKind → Option (List ℕ)
  targets_of c n [] = Some []
  targets_of c n (kind ∷ kinds) =
      if is_child c kind then option_and_then (λ m. option_and_then (λ ms. Some (add m ms)) (targets_of c n kinds)) (after_from n (drop n base) kind)
      else targets_of c n kinds

  targets : Child → List ℕ → Option (List ℕ)
  targets c [] = Some []
  targets c (n ∷ ns) = option_and_then (λ ms. option_and_then (λ others. Some (join ms others)) (targets c ns)) (targets_of c n all_kinds)

  closed : List ℕ → List ℕ → Option (List ℕ)
  closed more ns = if within more ns then Some ns else None

  -- where the parts of a form may lead
  post : ℕ → List Part → List ℕ → Option (List ℕ)
  post steps [] ns = Some ns
  post steps (token x ∷ ps) ns = post steps ps ns
  post steps (name ∷ ps) ns = post steps ps ns
  post steps (value xs ∷ ps) ns = post steps ps ns
  post steps (child c ∷ ps) ns = option_and_then (λ ms. post steps ps ms) (targets c ns)
  post zero (many g ∷ ps) ns = None
  post zero (maybe g ∷ ps) ns = None
  post (suc steps) (many g ∷ ps) ns =
      option_and_then (λ once. option_and_then (λ again. option_and_then (λ all. post (suc steps) ps all) (closed again (join once ns))) (post steps (parts_of g) (join once ns))) (post steps (parts_of g) ns)
  post (suc steps) (maybe g ∷ ps) ns = option_and_then (λ once. post (suc steps) ps (join once ns)) (post steps (parts_of g) ns)

  record Leads (n : ℕ) (kinds : List NodeKind) (ns : List ℕ) : Type 0 where
    to : ℕ
    is : reads n kinds ≡ Some to
    among : mem to ns ≡ true

  reads_append : (n m : ℕ) (ks bs : List NodeKind) → reads n ks ≡ Some m → reads n (ks ++ bs) ≡ reads m bs
  unfolding reads
  reads_append n m [] bs h = let e : n ≡ m = cc in ap (λ x. reads x bs) e
  reads_append n m (a ∷ ks) bs h =
      let step = bound (after_from n (drop n base) a) (λ x. reads x ks) m h in
      rw step.1 (reads_append step.0 m ks bs step.2)

  one_target : (c : Child) (n : ℕ) (kinds : List NodeKind) (ms : List ℕ) (kind : NodeKind) → targets_of c n kinds ≡ Some ms → has_kind kind kinds ≡ true → is_child c kind ≡ true → (m : ℕ) × (after_from n (drop n base) kind ≡ Some m) × (mem m ms ≡ true)
  unfolding targets_of has_kind
  one_target c n [] ms kind t has is = absurd (cc)
  one_target c n (it ∷ kinds) ms kind t has is = elim (cases_Bool (is_child c it)) [
    | inl fits ↦
        let taken : option_and_then (λ m. option_and_then (λ ns. Some (add m ns)) (targets_of c n kinds)) (after_from n (drop n base) it) ≡ Some ms = rw fits at t in
        let first = bound (after_from n (drop n base) it) (λ m. option_and_then (λ ns. Some (add m ns)) (targets_of c n kinds)) ms taken in
        let rest = bound (targets_of c n kinds) (λ ns. Some (add first.0 ns)) ms first.2 in
        let all : add first.0 rest.0 ≡ ms = cc in
        elim (cases_Bool (sameb kind_type it kind)) [
          | inl same ↦
              let e : it ≡ kind = same_true kind_type (search rules) it kind same in
              (first.0, subst (λ (x : NodeKind). after_from n (drop n base) x ≡ Some first.0) e first.1, subst (λ (xs : List ℕ). mem first.0 xs ≡ true) all (add_own first.0 rest.0))
          | inr other ↦
              let found = one_target c n kinds rest.0 kind rest.1 (rw other at has) is in
              (found.0, found.1, subst (λ (xs : List ℕ). mem found.0 xs ≡ true) all (add_kept found.0 first.0 rest.0 found.2))
        ]
    | inr none ↦ elim (cases_Bool (sameb kind_type it kind)) [
      | inl same ↦
          let e : it ≡ kind = same_true kind_type (search rules) it kind same in
          absurd (let both : is_child c it ≡ true = subst (λ (x : NodeKind). is_child c x ≡ true) (sym e) is in cc)
      | inr other ↦ one_target c n kinds ms kind (rw none at t) (rw other at has) is
    ]
  ]

  some_target : (c : Child) (ns ms : List ℕ) (n : ℕ) (kind : NodeKind) → targets c ns ≡ Some ms → mem n ns ≡ true → is_child c kind ≡ true → (m : ℕ) × (after_from n (drop n base) kind ≡ Some m) × (mem m ms ≡ true)
  unfolding targets mem
  some_target c [] ms n kind t h is = absurd (cc)
  some_target c (x ∷ ns) ms n kind t h is =
      let first = bound (targets_of c x all_kinds) (λ ys. option_and_then (λ others. Some (join ys others)) (targets c ns)) ms t in
      let rest = bound (targets c ns) (λ others. Some (join first.0 others)) ms first.2 in
      let all : join first.0 rest.0 ≡ ms = cc in
      elim (mem_cases n x ns h) [
        | inl e ↦
            let mine = one_target c x all_kinds first.0 kind first.1 (each_kind kind) is in
            (mine.0, subst (λ (y : ℕ). after_from y (drop y base) kind ≡ Some mine.0) e mine.1, subst (λ (ys : List ℕ). mem mine.0 ys ≡ true) all (join_left mine.0 first.0 rest.0 mine.2))
        | inr later ↦
            let found = some_target c ns rest.0 n kind rest.1 later is in
            (found.0, found.1, subst (λ (ys : List ℕ). mem found.0 ys ≡ true) all (join_right found.0 first.0 rest.0 found.2))
      ]

  leads_then : (n : ℕ) (ks bs cs : List NodeKind) (ns ms : List ℕ) → cs ≡ ks ++ bs → (first : Leads n ks ns) → Leads first.to bs ms → Leads n cs ms
  leads_then n ks bs cs ns ms e first next = record {
    to = next.to;
    is = ap (reads n) e ∙ reads_append n first.to ks bs first.is ∙ next.is;
    among = next.among;
  }

  split_kinds : (v w u : List Letter) → u ≡ v ++ w → kinds_in u ≡ kinds_in v ++ kinds_in w
  split_kinds v w u e = ap kinds_in e ∙ kinds_append v w

  -- a group that repeats stays among some numbers
  record Closed (steps : ℕ) (g : Group) (ps : List Part) (ns ms : List ℕ) : Type 0 where
    all : List ℕ
    again : List ℕ
    own : (n : ℕ) → mem n ns ≡ true → mem n all ≡ true
    reads_again : post steps (parts_of g) all ≡ Some again
    stays : within again all ≡ true
    next : post (suc steps) ps all ≡ Some ms

  closed_is : (more ns all : List ℕ) → closed more ns ≡ Some all → (within more ns ≡ true) × (ns ≡ all)
  unfolding closed
  closed_is more ns all h = elim (cases_Bool (within more ns)) [
    | inl e ↦ (e, let same : Some ns ≡ Some all = rw e at h in cc)
    | inr e ↦ absurd (let none : None ≡ Some all = rw e at h in cc)
  ]

  once : (steps : ℕ) (g : Group) (ps : List Part) (ns ms : List ℕ) → post (suc steps) (many g ∷ ps) ns ≡ Some ms → Closed steps g ps ns ms
  unfolding post
  once steps g ps ns ms t =
      let first = bound (post steps (parts_of g) ns) (λ xs. option_and_then (λ again. option_and_then (λ all. post (suc steps) ps all) (closed again (join xs ns))) (post steps (parts_of g) (join xs ns))) ms t in
      let second = bound (post steps (parts_of g) (join first.0 ns)) (λ again. option_and_then (λ all. post (suc steps) ps all) (closed again (join first.0 ns))) ms first.2 in
      let third = bound (closed second.0 (join first.0 ns)) (λ all. post (suc steps) ps all) ms second.2 in
      let both = closed_is second.0 (join first.0 ns) third.0 third.1 in
      record {
        all = join first.0 ns;
        again = second.0;
        own = λ n h. join_right n first.0 ns h;
        reads_again = second.1;
        stays = both.0;
        next = subst (λ (xs : List ℕ). post (suc steps) ps xs ≡ Some ms) (sym both.1) third.2;
      }

  join_same : (ns ms : List ℕ) → within ns ms ≡ true → join ns ms ≡ ms
  unfolding join within add
  join_same [] ms h = refl
  join_same (n ∷ ns) ms h = elim (cases_Bool (mem n ms)) [
    | inl e ↦ let rest : join ns ms ≡ ms = join_same ns ms (rw e at h) in rw (rest, e) refl
    | inr e ↦ absurd (let none : false ≡ true = rw e at h in cc)
  ]

  stays_closed : (more ns : List ℕ) → within more ns ≡ true → closed more ns ≡ Some ns
  unfolding closed
  stays_closed more ns h = rw h refl

  -- from there it leads to the same again
  once_more : (steps : ℕ) (g : Group) (ps : List Part) (ns ms : List ℕ) (c : Closed steps g ps ns ms) → post (suc steps) (many g ∷ ps) c.all ≡ Some ms
  unfolding post
  once_more steps g ps ns ms c =
      let same : join c.again c.all ≡ c.all = join_same c.again c.all c.stays in
      let shut : closed c.again c.all ≡ Some c.all = stays_closed c.again c.all c.stays in
      rw (c.reads_again, same, c.reads_again, shut) c.next

  leads : (steps : ℕ) (ps : List Part) (w : List Letter) (n : ℕ) (ns ms : List ℕ) → IsWord ps w → post steps ps ns ≡ Some ms → mem n ns ≡ true → Leads n (kinds_in w) ms
  unfolding post reads
  leads steps _ _ n ns ms nothing t h = record { to = n; is = refl; among = let e : ns ≡ ms = cc in subst (λ (xs : List ℕ). mem n xs ≡ true) e h }
  leads steps _ _ n ns ms (token_is x ps w d) t h = leads steps ps w n ns ms d t h
  leads steps _ _ n ns ms (name_is ps w d) t h = leads steps ps w n ns ms d t h
  leads steps _ _ n ns ms (value_is xs x ps w has d) t h = leads steps ps w n ns ms d t h
  leads steps _ _ n ns ms (child_is c kind ps w is d) t h =
      let found = bound (targets c ns) (λ xs. post steps ps xs) ms t in
      let to = some_target c ns found.0 n kind found.1 h is in
      let rest : Leads to.0 (kinds_in w) ms = leads steps ps w to.0 found.0 ms d found.2 to.2 in
      record { to = rest.to; is = rw to.1 rest.is; among = rest.among }
  leads zero _ _ n ns ms (no_more g ps w d) t h = absurd (cc)
  leads zero _ _ n ns ms (one_more g ps v w u dv dw e) t h = absurd (cc)
  leads zero _ _ n ns ms (without g ps w d) t h = absurd (cc)
  leads zero _ _ n ns ms (with_one g ps v w u dv dw e) t h = absurd (cc)
  leads (suc steps) _ _ n ns ms (no_more g ps w d) t h =
      let c : Closed steps g ps ns ms = once steps g ps ns ms t in
      leads (suc steps) ps w n c.all ms d c.next (c.own n h)
  leads (suc steps) _ _ n ns ms (one_more g ps v w u dv dw e) t h =
      let c : Closed steps g ps ns ms = once steps g ps ns ms t in
      let first : Leads n (kinds_in v) c.again = leads steps (parts_of g) v n c.all c.again dv c.reads_again (c.own n h) in
      let inside : mem first.to c.all ≡ true = within_mem first.to c.again c.all c.stays first.among in
      leads_then n (kinds_in v) (kinds_in w) (kinds_in u) c.again ms (split_kinds v w u e) first
      (leads (suc steps) (many g ∷ ps) w first.to c.all ms dw (once_more steps g ps ns ms c) inside)
  leads (suc steps) _ _ n ns ms (without g ps w d) t h =
      let found = bound (post steps (parts_of g) ns) (λ xs. post (suc steps) ps (join xs ns)) ms t in
      leads (suc steps) ps w n (join found.0 ns) ms d found.2 (join_right n found.0 ns h)
  leads (suc steps) _ _ n ns ms (with_one g ps v w u dv dw e) t h =
      let found = bound (post steps (parts_of g) ns) (λ xs. post (suc steps) ps (join xs ns)) ms t in
      let first : Leads n (kinds_in v) found.0 = leads steps (parts_of g) v n ns found.0 dv found.1 h in
      leads_then n (kinds_in v) (kinds_in w) (kinds_in u) found.0 ms (split_kinds v w u e) first
      (leads (suc steps) ps w first.to (join found.0 ns) ms dw found.2 (join_left first.to found.0 ns first.among))

  -- slots by number, and what is left of them
  drop_next : (n : ℕ) (ss : List Slot) (s : Slot) (more : List Slot) → drop n ss ≡ s ∷ more → drop (suc n) ss ≡ more
  drop_next zero [] s more e = absurd (cc)
  drop_next zero (x ∷ ss) s more e = cc
  drop_next (suc n) [] s more e = absurd (cc)
  drop_next (suc n) (x ∷ ss) s more e = drop_next n ss s more e

  after_same : (n : ℕ) (ss : List Slot) (kind : NodeKind) → drop n base ≡ ss → after ss kind ≡ option_map (λ m. drop m base) (after_from n ss kind)
  unfolding after after_from
  after_same n [] kind e = refl
  after_same n (one p ∷ ss) kind e = elim (cases_Bool (p kind)) [ inl y ↦ rw y (ap Some (sym (drop_next n base (one p) ss e))) | inr y ↦ rw y refl ]
  after_same n (any p ∷ ss) kind e = elim (cases_Bool (p kind)) [ inl y ↦ rw y (ap Some (sym e)) | inr y ↦ rw y (after_same (suc n) ss kind (drop_next n base (any p) ss e)) ]

  fit_some : (ss rest : List Slot) (kind : NodeKind) (kinds : List NodeKind) → after ss kind ≡ Some rest → fit ss (kind ∷ kinds) ≡ fit rest kinds
  unfolding fit
  fit_some ss rest kind kinds e = ap (λ (o : Option (List Slot)). elim o [ None ↦ false | Some more ↦ fit more kinds ]) e

  fit_reads : (kinds : List NodeKind) (n m : ℕ) → reads n kinds ≡ Some m → may_end (drop m base) ≡ true → fit (drop n base) kinds ≡ true
  unfolding reads fit
  fit_reads [] n m r e = let same : n ≡ m = cc in subst (λ (x : ℕ). may_end (drop x base) ≡ true) (sym same) e
  fit_reads (kind ∷ kinds) n m r e =
      let step = bound (after_from n (drop n base) kind) (λ x. reads x kinds) m r in
      fit_some (drop n base) (drop step.0 base) kind kinds (after_same n (drop n base) kind refl ∙ ap (option_map (λ x. drop x base)) step.1)
      ∙ fit_reads kinds step.0 m step.2 e

  -- all of these numbers may be the end
  all_end : List ℕ → Bool
  all_end [] = true
  all_end (n ∷ ns) = if may_end (drop n base) then all_end ns else false

  ends_at : (n : ℕ) (ns : List ℕ) → all_end ns ≡ true → mem n ns ≡ true → may_end (drop n base) ≡ true
  unfolding all_end mem
  ends_at n [] a h = absurd (cc)
  ends_at n (m ∷ ns) a h = elim (cases_Bool (may_end (drop m base))) [
    | inl e ↦ elim (mem_cases n m ns h) [ inl same ↦ subst (λ (x : ℕ). may_end (drop x base) ≡ true) same e | inr later ↦ ends_at n ns (rw e at a) later ]
    | inr e ↦ absurd (let none : false ≡ true = rw e at a in cc)
  ]

  good : Option (List ℕ) → Bool
  good None = false
  good (Some ns) = all_end ns

  all_good : List (List Part) → Bool
  all_good [] = true
  all_good (form ∷ fs) = if good (post 3 form (0 ∷ [])) then all_good fs else false

  good_is : (o : Option (List ℕ)) → good o ≡ true → (ns : List ℕ) × (o ≡ Some ns) × (all_end ns ≡ true)
  unfolding good
  good_is None h = absurd (cc)
  good_is (Some ns) h = (ns, refl, h)

  form_good : (form : List Part) (fs : List (List Part)) → IsFormOf form fs → all_good fs ≡ true → good (post 3 form (0 ∷ [])) ≡ true
  unfolding all_good
  form_good form [] at h = absurd at
  form_good form (f ∷ fs) at h = elim (cases_Bool (good (post 3 f (0 ∷ [])))) [
    | inl e ↦ elim at [ inl same ↦ subst (λ (x : List Part). good (post 3 x (0 ∷ [])) ≡ true) (sym same) e | inr more ↦ form_good form fs more (rw e at h) ]
    | inr e ↦ absurd (let none : false ≡ true = rw e at h in cc)
  ]

  fit_form : (form : List Part) (fs : List (List Part)) (w : List Letter) → IsFormOf form fs → all_good fs ≡ true → IsWord form w → fit base (kinds_in w) ≡ true
  fit_form form fs w at h d =
      let ended = good_is (post 3 form (0 ∷ [])) (form_good form fs at h) in
      let found : Leads 0 (kinds_in w) ended.0 = leads 3 form w 0 (0 ∷ []) ended.0 d ended.1 (mem_head 0 []) in
      fit_reads (kinds_in w) 0 found.to found.is (ends_at found.to ended.0 ended.2 found.among)

tested : (kind : NodeKind) → all_good (slots kind) (forms kind) ≡ true
unfolding all_good good all_end post targets targets_of after_from closed join add mem within all_kinds may_end
tested k.File = refl
tested _ = refl

kinds_are : (nodes : List Node) (cs : List ℕ) (kinds : List NodeKind) → HaveKinds nodes cs kinds → map (kind_at nodes) cs ≡ kinds
kinds_are nodes [] [] h = refl
kinds_are nodes [] (kind ∷ kinds) h = absurd h
kinds_are nodes (c ∷ cs) [] h = absurd h
kinds_are nodes (c ∷ cs) (kind ∷ kinds) h =
    let first : kind_at nodes c ≡ kind = ap kind_of h.1 ∙ h.2 in
    let rest : map (kind_at nodes) cs ≡ kinds = kinds_are nodes cs kinds h.3 in
    rw (first, rest) refl

-- the children of a node of the grammar stand in the slots of its kind
pub children_fit : (nodes : List Node) → HaveForms nodes → (i : ℕ) (n : Node) → slice_get nodes i ≡ Some n → fit (slots n.kind) (map (kind_at nodes) n.children) ≡ true
children_fit nodes shaped i n at =
    let f : HasForm nodes n = shaped i n at in
    rw (kinds_are nodes n.children (kinds_in f.word) f.children_are) (fit_form (slots n.kind) f.form (forms n.kind) f.word f.of_kind (tested n.kind) f.is_word)
