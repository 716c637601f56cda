-- What is asked, with its types, while the arena grows.
use Rattle.std.proofs.Common.{◌≡◌, ◌∙◌, ℕ, suc, ◌+◌, ◌<◌, ◌≤◌, Bool, true, false, if◌then◌else◌, List, [], ◌∷◌, ◌++◌, map, length, take, get_or, Option, Some, None, refl, ap, ap₂, sym, subst, arith, add-one, append_assoc, take_all}
use Rattle.std.specs.Prelude.{slice_get}
use Rattle.std.specs.List.{AllZip}
use Rattle.std.proofs.lemmas.List.{append-nil, take_more}
use Rattle.clu_tree.specs.declared.node.Node.{Node}
use Rattle.clu_tree.specs.declared.node.NodeKind.TheVariants as kind
use Rattle.clu_syntax.specs.Splits.{children_of}
use Rattle.clu_types.specs.CluType.{CluType, parameter}
use Rattle.clu_types.specs.Arena.{Grows, type_at, types_of}
use Rattle.clu_types.specs.Substituted.{substituted}
use Rattle.clu_types.specs.declared.term.TypeId.{TypeId}
use Rattle.clu_types.specs.declared.term.Term.{Term}
use Rattle.clu_types.proofs.Arenas.{types_grown}
use Rattle.clu_types.proofs.Carrying.{length_grows}
use Rattle.clu_head.specs.declared.head.Demanded.{Demanded}
use Rattle.clu_head.specs.declared.clauses.InSet.{InSet}
use Rattle.clu_head.specs.declared.clauses.Asking.{Asking}
use Rattle.clu_head.specs.declared.known.Known.{Known}
use Rattle.clu_head.specs.Asking.{asked_at, untyped, demanded_by, demands_by, demands_by_all, names_in}
use Rattle.clu_head.specs.Asked.{demands_at}
use Rattle.clu_head.specs.There.{is_there}
use Rattle.clu_head.specs.Unchanged.{only}
use Rattle.clu_head.specs.Wanted.{first_wanted, wanted_of, IsPutIn, IsPut, IsPutIf, IsWanted, HaveNamed, IsAskedBy, one_list, AreAsked, HaveAsked, asked_to}
use Rattle.clu_head.proofs.Adding.{zip_joined, zip_wider}
use Rattle.clu_head.proofs.Asking.{named_untyped, joined_untyped}

-- ---- what is wanted, in an arena that was shorter before and is longer then

put_in_wider : (new last : List Term) → Grows new last → (variable p : ℕ) (t id : TypeId) → IsPutIn new variable p t id → IsPutIn last variable p t id
unfolding IsPutIn
put_in_wider new last behind variable p t id is =
    let most = length_grows new last behind in (
      omega (arith, most, is.0),
      omega (arith, most, is.1),
      types_grown new last behind id is.1 ∙ is.2 ∙ ap (substituted (only variable (parameter p))) (sym (types_grown new last behind t is.0)),
    )

module _ (first old new last : List Term) (front : Grows first old) (behind : Grows new last) where
  put_wider : (variable p : ℕ) (t : TypeId) (w : Option TypeId) → IsPut old new variable p t w → IsPut first last variable p t w
  unfolding IsPut
  put_wider variable p t (Some id) is = put_in_wider new last behind variable p t id is
  put_wider variable p t None is = λ there below. is there (let more = length_grows first old front in omega (arith, more, below))

  put_if_wider : (variable p : ℕ) (of w : Option TypeId) → IsPutIf old new variable p of w → IsPutIf first last variable p of w
  unfolding IsPutIf
  put_if_wider variable p (Some t) w is = put_wider variable p t w is
  put_if_wider variable p None w is = is

  wanted_wider : (set : Option InSet) (p : ℕ) (of w : Option TypeId) → IsWanted old new set p of w → IsWanted first last set p of w
  unfolding IsWanted
  wanted_wider (Some set) p of w is = put_if_wider set.variable p of w is
  wanted_wider None p of w is = is

  asked_by_wider : (k : Known) (a : Asking) (ds : List Demanded) → IsAskedBy k old new a ds → IsAskedBy k first last a ds
  unfolding IsAskedBy
  asked_by_wider k a ds is = (is.0, wanted_wider a.set a.parameter (wanted_of k.refused.now k.rounds.now k.values.now (slice_get k.syntax.now a.oper)) is.0 is.1, is.2)

  pub asked_wider : (k : Known) (all : List Asking) (pieces : List (List Demanded)) → AllZip (IsAskedBy k old new) all pieces → AllZip (IsAskedBy k first last) all pieces
  asked_wider k all pieces are = zip_wider (IsAskedBy k old new) (IsAskedBy k first last) (asked_by_wider k) all pieces are

-- ---- lists

pub list_joined : (ps qs : List (List Demanded)) → one_list (ps ++ qs) ≡ one_list ps ++ one_list qs
list_joined [] qs = refl
list_joined (p ∷ ps) qs = ap (λ (ds : List Demanded). p ++ ds) (list_joined ps qs) ∙ sym (append_assoc p (one_list ps) (one_list qs))

same_grows : (ts : List Term) → Grows ts ts
same_grows ts = ([], sym (append-nil ts))

asked_joined : (k : Known) (first old new : List Term) → Grows first old → Grows old new → (xs ys : List Asking) (ds es : List Demanded) → AreAsked k first old xs ds → AreAsked k old new ys es → AreAsked k first new (xs ++ ys) (ds ++ es)
unfolding AreAsked
asked_joined k first old new front behind xs ys ds es a b = (
  a.0 ++ b.0,
  ap₂ (λ (x y : List Demanded). x ++ y) a.1 b.1 ∙ sym (list_joined a.0 b.0),
  zip_joined (IsAskedBy k first new) xs ys a.0 b.0 (asked_wider first first old new (same_grows first) behind k xs a.0 a.2) (asked_wider first old new new front (same_grows new) k ys b.0 b.2),
)

pub none_asked : (k : Known) (ts : List Term) (ds : List Demanded) → ds ≡ [] → AreAsked k ts ts [] ds
unfolding AreAsked
none_asked k ts ds is = ([], is, tt)

pub have_none : (k : Known) (ts : List Term) (ds : List Demanded) → HaveAsked k ts ts [] ds ds
unfolding HaveAsked
have_none k ts ds = ([], sym (append-nil ds), none_asked k ts [] refl)

have_joined : (k : Known) (first old new : List Term) → Grows first old → Grows old new → (xs ys : List Asking) (before mid behind : List Demanded) → HaveAsked k first old xs before mid → HaveAsked k old new ys mid behind → HaveAsked k first new (xs ++ ys) before behind
unfolding HaveAsked
have_joined k first old new front grows xs ys before mid behind a b = (
  a.0 ++ b.0,
  b.1 ∙ ap (λ (ds : List Demanded). ds ++ b.0) a.1 ∙ append_assoc before a.0 b.0,
  asked_joined k first old new front grows xs ys a.0 b.0 a.2 b.2,
)

-- ---- one who asks more

pub have_next : (k : Known) (first old new : List Term) → Grows first old → Grows old new → (all : List Asking) (i : ℕ) → i < length all → (d : Asking) (before mid behind : List Demanded)
    → HaveAsked k first old (take i all) before mid → HaveAsked k old new (get_or all i d ∷ []) mid behind → HaveAsked k first new (take (i + 1) all) before behind
have_next k first old new front grows all i inside d before mid behind so_far more =
    subst (λ (xs : List Asking). HaveAsked k first new xs before behind) (sym (take_more all i d inside)) (have_joined k first old new front grows (take i all) (get_or all i d ∷ []) before mid behind so_far more)

module _ (k : Known) (old new : List Term) (a : Asking) where
  abbrev its : Option Node
  its = slice_get k.syntax.now a.oper

  pub one_asked : (node : Node) (before behind : List Demanded) → its ≡ Some node → is_there kind.Oper its ≡ true → HaveNamed k old new a node before behind → HaveAsked k old new (a ∷ []) before behind
  unfolding HaveNamed HaveAsked AreAsked IsAskedBy
  one_asked node before behind at there h =
      let w : Option TypeId = h.0 in
      let made : List Demanded = demanded_by a w node.names in
      let of : wanted_of k.refused.now k.rounds.now k.values.now its ≡ first_wanted k.refused.now k.rounds.now k.values.now node.children =
      ap (λ (b : Bool). if b then first_wanted k.refused.now k.rounds.now k.values.now (children_of its) else None) there ∙ ap (λ (o : Option Node). first_wanted k.refused.now k.rounds.now k.values.now (children_of o)) at in
      let named : (if is_there kind.Oper its then demanded_by a w (names_in k.syntax.now its) else []) ≡ made =
      ap (λ (b : Bool). if b then demanded_by a w (names_in k.syntax.now its) else []) there ∙ ap (λ (o : Option Node). demanded_by a w (names_in k.syntax.now o)) at in
      (made, h.2, (made ∷ [], sym (append-nil made), ((w, subst (λ (of : Option TypeId). IsWanted old new a.set a.parameter of w) (sym of) h.1, sym named), tt)))

  pub named_so : (node : Node) (before behind : List Demanded) (children : List ℕ) (names : List (List ℕ)) (of w : Option TypeId) → children ≡ node.children → names ≡ node.names → of ≡ first_wanted k.refused.now k.rounds.now k.values.now children
      → IsWanted old new a.set a.parameter of w → behind ≡ before ++ demanded_by a w names → HaveNamed k old new a node before behind
  unfolding HaveNamed
  named_so node before behind children names of w these those is wanted so = (
    w,
    subst (λ (of : Option TypeId). IsWanted old new a.set a.parameter of w) (is ∙ ap (first_wanted k.refused.now k.rounds.now k.values.now) these) wanted,
    so ∙ ap (λ (names : List (List ℕ)). before ++ demanded_by a w names) those,
  )

  nothing_wanted : (set : Option InSet) (p : ℕ) → IsWanted old new set p None None
  unfolding IsWanted IsPutIf
  nothing_wanted (Some set) p = refl
  nothing_wanted None p = refl

  pub not_asked : (before behind : List Demanded) → is_there kind.Oper its ≡ false → behind ≡ before → HaveAsked k old new (a ∷ []) before behind
  unfolding HaveAsked AreAsked IsAskedBy
  not_asked before behind there is =
      let of : wanted_of k.refused.now k.rounds.now k.values.now its ≡ None = ap (λ (b : Bool). if b then first_wanted k.refused.now k.rounds.now k.values.now (children_of its) else None) there in
      let named : (if is_there kind.Oper its then demanded_by a None (names_in k.syntax.now its) else []) ≡ [] = ap (λ (b : Bool). if b then demanded_by a None (names_in k.syntax.now its) else []) there in
      ([], is ∙ sym (append-nil before), ([] ∷ [], refl, ((None, subst (λ (of : Option TypeId). IsWanted old new a.set a.parameter of None) (sym of) (nothing_wanted a.set a.parameter), sym named), tt)))

-- ---- all of a file

pub asked_next : (k : Known) (first old new : List Term) → Grows first old → Grows old new → (n : ℕ) (ds es : List Demanded) → AreAsked k first old (asked_to k n) ds
    → HaveAsked k old new (asked_at k.syntax.now k.rounds.now k.counts.now k.restricted.now n) ds es → AreAsked k first new (asked_to k (n + 1)) es
unfolding HaveAsked asked_to
asked_next k first old new front grows n ds es so_far more =
    let here : List Asking = asked_at k.syntax.now k.rounds.now k.counts.now k.restricted.now n in
    subst (λ (m : ℕ). AreAsked k first new (asked_to k m) es) (sym (add-one n))
    (subst (AreAsked k first new (asked_to k n ++ here)) (sym more.1) (asked_joined k first old new front grows (asked_to k n) here ds more.0 so_far more.2))

pub asked_first : (k : Known) (ts : List Term) (ds : List Demanded) → ds ≡ [] → AreAsked k ts ts (asked_to k 0) ds
unfolding asked_to
asked_first k ts ds is = none_asked k ts ds is

-- ---- but for types

module _ (k : Known) (old new : List Term) where
  named_if : (a : Asking) (w : Option TypeId) (names : List (List ℕ)) (b : Bool) → map untyped (if b then demanded_by a w names else []) ≡ (if b then demanded_by a None names else [])
  named_if a w names true = named_untyped a w names
  named_if a w names false = refl

  one_untyped : (a : Asking) (ds : List Demanded) → IsAskedBy k old new a ds → map untyped ds ≡ demands_by k.syntax.now a
  unfolding IsAskedBy demands_by
  one_untyped a ds is = ap (map untyped) is.2 ∙ named_if a is.0 (names_in k.syntax.now (slice_get k.syntax.now a.oper)) (is_there kind.Oper (slice_get k.syntax.now a.oper))

  pub all_untyped : (all : List Asking) (pieces : List (List Demanded)) → AllZip (IsAskedBy k old new) all pieces → map untyped (one_list pieces) ≡ demands_by_all k.syntax.now all
  unfolding demands_by_all
  all_untyped [] [] are = refl
  all_untyped [] (p ∷ ps) are = absurd are
  all_untyped (a ∷ all) [] are = absurd are
  all_untyped (a ∷ all) (p ∷ ps) are = joined_untyped p (one_list ps) ∙ ap₂ (λ (x y : List Demanded). x ++ y) (one_untyped a p are.0) (all_untyped all ps are.1)

  have_untyped : (all : List Asking) (before behind : List Demanded) → HaveAsked k old new all before behind → map untyped behind ≡ map untyped before ++ demands_by_all k.syntax.now all
  unfolding HaveAsked AreAsked
  have_untyped all before behind h =
      let asked = h.2 in
      ap (map untyped) h.1 ∙ joined_untyped before h.0 ∙ ap (λ (ds : List Demanded). map untyped before ++ ds) (ap (map untyped) asked.1 ∙ all_untyped all asked.0 asked.2)

  pub node_untyped : (n : ℕ) (before behind : List Demanded) → HaveAsked k old new (asked_at k.syntax.now k.rounds.now k.counts.now k.restricted.now n) before behind
      → map untyped behind ≡ map untyped before ++ demands_at k.syntax.now k.rounds.now k.counts.now k.restricted.now n
  unfolding demands_at
  node_untyped n before behind h = have_untyped (asked_at k.syntax.now k.rounds.now k.counts.now k.restricted.now n) before behind h
