-- From node to node all that was found stays what is looked for, types of nodes stay of the arena, and what is kept of raises stays right.
use Rattle.std.proofs.Common.{◌≡◌, ◌∙◌, inl, ℕ, zero, suc, ◌+◌, ◌<◌, ◌≤◌, true, false, true≢false, List, [], ◌∷◌, ◌++◌, length, get_or, slice_get, vec_items, Option, Some, None, Result, Ok, Err, OnOk, sym, ap, subst, arith}
use Rattle.std.specs.Prelude.{unwrap_or}
use Rattle.std.specs.HashMap.{get}
use Rattle.std.proofs.lemmas.Bool.Decides.{Decides-eqb}
use Rattle.std.proofs.lemmas.Option.{slice_get_within, slice_get-get_or}
use Rattle.std.proofs.lemmas.Slice.Eq.{bytes_eq-Decides}
use Rattle.clu_tree.specs.declared.node.NodeKind.{NodeKind}
use Rattle.clu_tree.specs.declared.node.NodeKind.TheVariants as kind
use Rattle.clu_types.specs.Arena.{Grows, IsArena}
use Rattle.clu_types.specs.declared.term.Term.{Term}
use Rattle.clu_types.specs.declared.term.TypeId.{TypeId}
use Rattle.clu_types.proofs.Carrying.{grows_on, length_grows}
use Rattle.clu_syntax.specs.Items.{Item, no_item}
use Rattle.clu_settle.specs.Lists.{type_id}
use Rattle.clu_bindings.specs.declared.file.Headed.{Headed}
use Rattle.clu_bindings.specs.Inside.{own_type}
use Rattle.clu_bindings.specs.Readers.{children_in, kind_in, value_in}
use Rattle.clu_bindings.specs.Tables.{optional}
use Rattle.clu_operations.specs.declared.finding.Finding.{Finding}
use Rattle.clu_operations.specs.declared.words.NameId.{NameId}
use Rattle.clu_operations.specs.Finding.{Extends, Follows, IsBelowIf}
use Rattle.clu_operations.specs.Found.{ModuleBelow}
use Rattle.clu_operations.specs.Given.{asked_in}
use Rattle.clu_operations.specs.Modules.{Module, own, kept}
use Rattle.clu_operations.specs.Wished.{AreHeads, FindsNothing, IsFinding, same_wished}
use Rattle.clu_operations.specs.Words.{AreOnce, named}
use Rattle.clu_operations.proofs.Bundling.{form_more, option_more, wanted_more}
use Rattle.clu_operations.proofs.Lasting.{follows_on}
use Rattle.clu_operations.proofs.Looking.{finding_after, ready_like, within_like}
use Rattle.clu_typing.specs.declared.applied.Applied.{Applied}
use Rattle.clu_typing.specs.declared.applied.Applied.TheVariants as applied
use Rattle.clu_typing.specs.declared.facts.Facts.{Facts}
use Rattle.clu_typing.specs.declared.raising.RaisesId.{RaisesId}
use Rattle.clu_typing.specs.Facts.{raised_at, type_of}
use Rattle.clu_typing.specs.Found.{FindsMore, HaveOperands, IsAppliedTold}
use Rattle.clu_typing.specs.Pass.{AreKnown, HasNothing, HaveTypes, IsNext, IsNoted, IsRaised, IsSound, KnowsNothing}
use Rattle.clu_typing.specs.Raised.{Raised, nothing}
use Rattle.clu_typing.specs.Raises.{AreSets, called_in, first_as, first_invoked, first_operation, row_told, second_operation}
use Rattle.clu_typing.specs.Raising.{AreDistinct, AreRaises, IsSet, IsSetOf, no_raises}
use Rattle.clu_typing.specs.Stands.{Stands, stands_at}
use Rattle.clu_typing.proofs.Below.{applied_below, arena_before, first_below, first_looked, instance_there, looked_below, node_below, second_looked, types_behind}
use Rattle.clu_typing.proofs.Gathered.{number_same, is_number}
use Rattle.clu_typing.proofs.Growing.{follows_refl, grows_refl, right_still, still_set}
use Rattle.clu_typing.proofs.Numbered.{extends_from}

-- ---- names that stand once

pub distinct_once : (names : List (List ℕ)) → AreDistinct names → AreOnce names
distinct_once names apart id name at = by (named names name) (number_same names apart id.0 within name ∙ (bytes_eq-Decides (get_or names id.0 []) name).1 here)
  where
    within : id.0 < length names
    within = slice_get_within names id.0 name at

    here : get_or names id.0 [] ≡ name
    here = sym (ap (λ (o : Option (List ℕ)). unwrap_or o []) (sym at ∙ slice_get-get_or names id.0 [] within))

    by : (o : Option NameId) → is_number id.0 o ≡ true → o ≡ Some id
    by (Some other) e = ap (λ (k : ℕ). let it : NameId = record { 0 = k } in Some it) (sym ((Decides-eqb id.0 other.0).0 e))
    by None e = absurd (true≢false (sym e))

pub once_distinct : (names : List (List ℕ)) → AreOnce names → AreDistinct names
once_distinct names once i j i_in j_in same = ap number (sym (at i i_in) ∙ ap (λ (name : List ℕ). named names name) same ∙ at j j_in)
  where
    number : Option NameId → ℕ
    number (Some id) = id.0
    number None = 0

    at : (k : ℕ) → k < length names → named names (get_or names k []) ≡ Some (record { 0 = k })
    at k lt = once (record { 0 = k }) (get_or names k []) (slice_get-get_or names k [] lt)

-- ---- the start

module_more : (m n : ℕ) → m ≤ n → (its : Module) → ModuleBelow m its → ModuleBelow n its
module_more m n le (own head) b = form_more m n le head.form b
module_more m n le (kept spec) b = b

pub heads_more : (h : Headed) (m n : ℕ) → m ≤ n → AreHeads h m → AreHeads h n
heads_more h m n le heads = record {
  below = λ id its is. module_more m n le its (heads.below id its is);
  ascending = heads.ascending;
  asked = λ k. wanted_more m n le (asked_in h k) (heads.asked k);
  past = heads.past;
}

abbrev pub with_words : List (List ℕ) → Finding → Finding
with_words words f = record f { words = words }

-- Where the first raises are kept with these names, and then what where clauses give is entered.
module _ (h : Headed) (old new : List Term) (before : Facts) (words : List (List ℕ)) (all : Raised) (last : Finding) (grows : Grows old new)
    (right : before.raising ≡ no_raises → AreDistinct before.finding.words → AreRaises new words all) (empty : HasNothing before) where
  abbrev pub begun : Facts
  begun = record { types = before.types; invocations = before.invocations; invoked = before.invoked; raises = before.raises; raising = all; finding = last }

  begins : AreRaises new words all
  begins = right empty.raising (once_distinct before.finding.words empty.finding.once)

  finds_nothing : FindsNothing (with_words words before.finding)
  finds_nothing = record { once = distinct_once words begins.distinct; founds = empty.finding.founds; asked = empty.finding.asked; wished = empty.finding.wished; given = empty.finding.given; shown = empty.finding.shown }

  begun_now : ((terms : List Term) → AreHeads h (length terms) → FindsNothing (with_words words before.finding) → IsFinding h terms last) → Extends words last.words → KnowsNothing h old new begun
  begun_now found more = record {
    types = empty.types;
    lists = empty.lists;
    invoked = empty.invoked;
    raises = empty.raises;
    grows = grows;
    found = λ heads. finding heads;
    right = λ heads.
        right_still new new words last.words all all (grows_refl new) more (follows_refl all) begins (once_distinct last.words (finding heads).once)
        (λ set has. inl has) (λ types has. inl has) (λ of set has. inl has) (λ sets set has. inl has);
  }
    where
      finding : AreHeads h (length old) → IsFinding h new last
      finding heads = found new (heads_more h (length old) (length new) (length_grows old new grows) heads) finds_nothing

  pub begun_if : {X E : Type 0} (r : Result X E) → ((terms : List Term) → AreHeads h (length terms) → FindsNothing (with_words words before.finding) → OnOk r (IsFinding h terms last)) → OnOk r (Extends words last.words)
      → OnOk r (KnowsNothing h old new begun)
  begun_if (Ok x) found more = begun_now found more
  begun_if (Err e) found more = tt

-- ---- lists of nodes

none_there : (types : ℕ) (xs : List (Option TypeId)) → xs ≡ [] → (k : ℕ) → IsBelowIf types (optional (slice_get xs k))
none_there types xs e zero = subst (λ (l : List (Option TypeId)). IsBelowIf types (optional (slice_get l zero))) (sym e) tt
none_there types xs e (suc k) = subst (λ (l : List (Option TypeId)). IsBelowIf types (optional (slice_get l (suc k)))) (sym e) tt

first_there : (all : Raised) → IsSet all nothing → (xs : List RaisesId) → xs ≡ [] → (k : ℕ) → IsSet all (get_or xs k nothing)
first_there all there xs e zero = subst (λ (l : List RaisesId). IsSet all (get_or l zero nothing)) (sym e) there
first_there all there xs e (suc k) = subst (λ (l : List RaisesId). IsSet all (get_or l (suc k) nothing)) (sym e) there

sets_behind : (all : Raised) (xs : List RaisesId) (set : RaisesId) → ((k : ℕ) → IsSet all (get_or xs k nothing)) → IsSet all set → (k : ℕ) → IsSet all (get_or (xs ++ set ∷ []) k nothing)
sets_behind all [] set each there zero = there
sets_behind all [] set each there (suc k) = each k
sets_behind all (x ∷ xs) set each there zero = each zero
sets_behind all (x ∷ xs) set each there (suc k) = sets_behind all xs set (λ j. each (suc j)) there k

-- ---- what a node invokes, where it was found among these terms

module _ (h : Headed) (terms : List Term) (facts : Facts) (finding : IsFinding h terms facts.finding) (types : (k : ℕ) → IsBelowIf (length terms) (type_of facts k)) (then_terms : List Term) (then_finding : Finding) (n : ℕ) (s : Stands) where
  called_in_arena : (children : List ℕ) → IsBelowIf (length terms) (called_in facts children)
  called_in_arena [] = tt
  called_in_arena (c ∷ cs) = types c

  operation_in : (x : Applied) → IsAppliedTold h then_terms then_finding n s x → IsBelowIf (length terms) (first_operation facts x)
  operation_in (applied.Invoked first second) t = looked_below h terms facts.finding finding first.operation (first_looked h then_terms then_finding n s first second t)
  operation_in applied.Nothing t = tt
  operation_in (applied.Named x) t = tt

  pub first_in : (x : Applied) → IsAppliedTold h then_terms then_finding n s x → IsBelowIf (length terms) (first_invoked h.file facts x n)
  first_in x t = by (kind_in h.file n)
    where
      by : (k : NodeKind) → IsBelowIf (length terms) (first_as h.file facts k x n)
      by kind.Call = called_in_arena (children_in h.file n)
      by kind.File = operation_in x t
      by _ = operation_in x t

  pub second_in : (x : Applied) → IsAppliedTold h then_terms then_finding n s x → IsBelowIf (length terms) (second_operation facts x)
  second_in (applied.Invoked first (Some last)) t = looked_below h terms facts.finding finding last.operation (second_looked h then_terms then_finding n s first last t)
  second_in (applied.Invoked first None) t = tt
  second_in applied.Nothing t = tt
  second_in (applied.Named x) t = tt

-- ---- one node more

pub noted_grows : (h : Headed) (items : ℕ → Item) (n : ℕ) (old new : List Term) (before now : Facts) (its : Applied) → IsNoted h items n old new before now its → Grows old new
noted_grows h items n old new before now its what =
    grows_on old what.applied_terms new what.applied_grows (grows_on what.applied_terms what.typed_terms new what.typed_grows what.grows)

pub operands : (h : Headed) (terms : List Term) (facts : Facts) → ((k : ℕ) → IsBelowIf (length terms) (type_id (value_in h.file k))) → ((k : ℕ) → IsBelowIf (length terms) (own_type h.file k)) → IsSound h terms facts
    → HaveOperands h.file facts.types.items (length terms)
operands h terms facts values owns sound = record { first = first_below h.file facts.types.items (length terms) sound.types; values = values; own = owns }

module _ (h : Headed) (items : ℕ → Item) (n : ℕ) (old new : List Term) (before noted now : Facts) (its : Applied) (what : IsNoted h items n old new before noted its) (raises : IsRaised h n new noted now its)
    (arena : IsArena new) (values : (k : ℕ) → IsBelowIf (length old) (type_id (value_in h.file k))) (owns : (k : ℕ) → IsBelowIf (length old) (own_type h.file k)) (sound : IsSound h old before) where
  typed_arena : IsArena what.typed_terms
  typed_arena = arena_before what.typed_terms new what.grows arena

  applied_arena : IsArena what.applied_terms
  applied_arena = arena_before what.applied_terms what.typed_terms what.typed_grows typed_arena

  here : HaveOperands h.file before.types.items (length old)
  here = operands h old before values owns sound

  pub looked : FindsMore h what.applied_terms before.finding what.applied_finding × IsAppliedTold h what.applied_terms what.applied_finding n (stands_at h.file before.types.items n items) its
  looked = what.applied_found here sound.finding

  to_applied : (of : Option TypeId) → IsBelowIf (length old) of → IsBelowIf (length what.applied_terms) of
  to_applied of b = option_more (length old) (length what.applied_terms) (length_grows old what.applied_terms what.applied_grows) of b

  to_typed : (of : Option TypeId) → IsBelowIf (length what.applied_terms) of → IsBelowIf (length what.typed_terms) of
  to_typed of b = option_more (length what.applied_terms) (length what.typed_terms) (length_grows what.applied_terms what.typed_terms what.typed_grows) of b

  to_new : (of : Option TypeId) → IsBelowIf (length what.typed_terms) of → IsBelowIf (length new) of
  to_new of b = option_more (length what.typed_terms) (length new) (length_grows what.typed_terms new what.grows) of b

  later : HaveOperands h.file before.types.items (length what.applied_terms)
  later = record { first = λ k. to_applied _ (here.first k); values = λ k. to_applied _ (values k); own = λ k. to_applied _ (owns k) }

  typed : FindsMore h what.typed_terms what.applied_finding what.typed_finding
  typed = what.typed_found (later.values n) looked.0.finding

  type_below : IsBelowIf (length what.typed_terms) what.of
  type_below =
      node_below h what.applied_terms what.typed_terms what.typed_grows what.applied_finding what.typed_finding n its before.types.items items later
      (applied_below h what.applied_terms what.applied_finding n looked.0.finding applied_arena (stands_at h.file before.types.items n items) its looked.1) applied_arena looked.0.finding typed.finding what.of what.typed

  pub modules : FindsMore h new what.typed_finding noted.finding
  modules = what.module_found (instance_there h.file what.typed_terms (length what.typed_terms) (λ k. to_typed _ (later.values k)) n) typed.finding

  grows : Grows old new
  grows = noted_grows h items n old new before noted its what

  pub follows : Follows before.finding noted.finding
  follows = follows_on before.finding what.applied_finding noted.finding looked.0.follows (follows_on what.applied_finding what.typed_finding noted.finding typed.follows modules.follows)

  pub to_last : Follows what.applied_finding noted.finding
  to_last = follows_on what.applied_finding what.typed_finding noted.finding typed.follows modules.follows

  pub noted_types : (k : ℕ) → IsBelowIf (length new) (type_of noted k)
  noted_types k =
      subst (λ (l : List (Option TypeId)). IsBelowIf (length new) (optional (slice_get l k))) (sym what.types)
      (types_behind (length new) before.types.items what.of (λ j. option_more (length old) (length new) (length_grows old new grows) (type_of before j) (sound.types j)) (to_new what.of type_below) k)

  pub noted_right : AreRaises new noted.finding.words noted.raising
  noted_right =
      subst (λ (all : Raised). AreRaises new noted.finding.words all) (sym what.raising)
      (right_still old new before.finding.words noted.finding.words before.raising before.raising grows follows.words (follows_refl before.raising) sound.right (once_distinct noted.finding.words modules.finding.once)
      (λ set has. inl has) (λ types has. inl has) (λ of set has. inl has) (λ sets set has. inl has))

  pub noted_sets : AreSets noted
  noted_sets k =
      subst (λ (all : Raised). IsSet all (raised_at noted k)) (sym what.raising)
      (subst (λ (l : List RaisesId). IsSet before.raising (get_or l k nothing)) (sym (ap vec_items what.raises)) (sound.sets k))

  -- ---- what it raises

  abbrev stands : Stands
  stands = stands_at h.file before.types.items n items

  pub invoked_first : IsBelowIf (length new) (first_invoked h.file noted its n)
  invoked_first = first_in h new noted modules.finding noted_types what.applied_terms what.applied_finding n stands its looked.1

  pub invoked_second : IsBelowIf (length new) (second_operation noted its)
  invoked_second = second_in h new noted modules.finding noted_types what.applied_terms what.applied_finding n stands its looked.1

  row : IsSetOf new noted.finding.words now.finding.words noted.raising now.raising (row_told h.file new noted its n) raises.set
  row = raises.row noted_right noted_sets invoked_first invoked_second

  pub row_follows : Follows noted.finding now.finding
  row_follows = record {
    words = row.named;
    once = λ once. distinct_once now.finding.words row.right.distinct;
    founds = extends_from noted.finding.founds.items now.finding.founds.items (ap vec_items raises.founds);
    asked = extends_from noted.finding.asked.items now.finding.asked.items (ap vec_items raises.asked);
    given = raises.given;
  }

  now_finding : IsFinding h new now.finding
  now_finding =
      finding_after h new new (grows_refl new) noted.finding now.finding row_follows modules.finding (within_like noted.finding now.finding row.named raises.founds raises.asked (length new) modules.finding.within)
      (ready_like h new noted.finding now.finding raises.shown modules.finding.ready) (λ w found e. inl (ap (λ m. get same_wished m w) (sym raises.wished) ∙ e))

  -- all stays so, and the set of what the node raises tells its row
  pub sound_next : IsSound h new now
  sound_next = record {
    finding = now_finding;
    types = λ k. subst (λ (l : List (Option TypeId)). IsBelowIf (length new) (optional (slice_get l k))) (sym (ap vec_items raises.types)) (noted_types k);
    right = row.right;
    sets = λ k.
        subst (λ (l : List RaisesId). IsSet now.raising (get_or l k nothing)) (sym raises.raises)
        (sets_behind now.raising noted.raises.items raises.set (λ j. still_set noted.raising now.raising row.kept (raised_at noted j) (noted_sets j)) row.there k);
  }

  pub row_next : IsSetOf new noted.finding.words now.finding.words noted.raising now.raising (row_told h.file new noted its n) raises.set
  row_next = row

-- ---- all nodes

module _ (h : Headed) (items : ℕ → Item) (first : List Term) where
  pub known_next : (n : ℕ) (old new : List Term) (before now : Facts) → AreKnown h items first n old before → IsNext h items n old new before now → AreKnown h items first (n + 1) new now
  known_next n old new before now known next =
      let one : n + 1 ≡ suc n = omega arith in
      subst (λ (k : ℕ). AreKnown h items first k new now) (sym one) (old, before, known, next)

  pub known_grows : (n : ℕ) (terms : List Term) (facts : Facts) → AreKnown h items first n terms facts → Grows first terms
  known_grows zero terms facts known = known.grows
  known_grows (suc n) terms facts known =
      grows_on first known.0 terms (known_grows n known.0 known.1 known.2) (noted_grows h items n known.0 terms known.1 known.3.1 known.3.0 known.3.2)

  pub known_sound : (n : ℕ) (terms : List Term) (facts : Facts) → AreKnown h items first n terms facts → IsArena terms → HaveTypes h (length first) → IsSound h terms facts
  known_sound zero terms facts known arena have = record {
    finding = known.found have.heads;
    types = none_there (length terms) facts.types.items known.types;
    right = known.right have.heads;
    sets = first_there facts.raising (omega (arith, (known.right have.heads).second)) facts.raises.items known.raises;
  }
  known_sound (suc n) terms facts known arena have =
      let longer : length first ≤ length known.0 = length_grows first known.0 (known_grows n known.0 known.1 known.2) in
      sound_next h items n known.0 terms known.1 known.3.1 facts known.3.0 known.3.2 known.3.3 arena
      (λ k. option_more (length first) (length known.0) longer (type_id (value_in h.file k)) (have.values k)) (λ k. option_more (length first) (length known.0) longer (own_type h.file k) (have.own k))
      (known_sound n known.0 known.1 known.2 (arena_before known.0 terms (noted_grows h items n known.0 terms known.1 known.3.1 known.3.0 known.3.2) arena) have)

pub sound_if : {X E : Type 0} (r : Result X E) (h : Headed) (first : List Term) (n : ℕ) (terms : List Term) (facts : Facts) → OnOk r (AreKnown h (λ k. no_item) first n terms facts) → HaveTypes h (length first) → IsArena terms → OnOk r (IsSound h terms facts)
sound_if (Ok x) h first n terms facts known have arena = known_sound h (λ k. no_item) first n terms facts known arena have
sound_if (Err e) h first n terms facts known have arena = tt
