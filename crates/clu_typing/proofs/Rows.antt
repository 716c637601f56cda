-- What was said of a node when it was noted is so by the tables of later nodes too, where children stand before their parent.
use Rattle.std.proofs.Common.{◌≡◌, ◌∙◌, inl, inr, ℕ, zero, suc, ◌+◌, ◌<◌, ◌≤◌, Bool, true, false, if◌then◌else◌, List, [], ◌∷◌, ◌++◌, codes, flat_map, length, get_or, slice_get, vec_items, Option, Some, None, refl, sym, ap, ap₂, subst, arith, length-append}
use Rattle.std.proofs.lemmas.Bool.{cases_eq}
use Rattle.std.specs.List.{AllByRecursion}
use Rattle.std.proofs.Math.ListN.{get_or-append}
use Rattle.std.proofs.Math.Seq.{get_or-append_seam}
use Rattle.clu_base.proofs.Lists.{front_get}
use Rattle.clu_tree.specs.declared.node.NodeKind.{NodeKind}
use Rattle.clu_tree.specs.declared.node.NodeKind.TheVariants as kind
use Rattle.clu_types.specs.Arena.{Grows, IsArena}
use Rattle.clu_types.specs.declared.term.Term.{Term}
use Rattle.clu_types.specs.declared.term.TypeId.{TypeId}
use Rattle.clu_types.proofs.Arenas.{types_grown}
use Rattle.clu_types.proofs.Carrying.{grows_on, length_grows}
use Rattle.clu_syntax.specs.Items.{Item}
use Rattle.clu_syntax.specs.Kinds.{is_expression}
use Rattle.clu_syntax.specs.Nodes.{item_with}
use Rattle.clu_syntax.specs.Syntax.{Expression, an_infix, a_prefix, a_get, an_index}
use Rattle.clu_settle.specs.Lists.{type_id}
use Rattle.clu_settle.specs.Names.{names_of}
use Rattle.clu_bindings.specs.declared.file.File.{File}
use Rattle.clu_bindings.specs.declared.file.Headed.{Headed}
use Rattle.clu_bindings.specs.Inside.{own_type}
use Rattle.clu_bindings.specs.Readers.{children_in, kind_in, value_in}
use Rattle.clu_bindings.specs.Tables.{optional}
use Rattle.clu_operations.specs.declared.finding.Finding.{Finding}
use Rattle.clu_operations.specs.Finding as found
use Rattle.clu_operations.specs.Finding.{IsBelowIf}
use Rattle.clu_operations.specs.Told.{Told as ToldOf}
use Rattle.clu_operations.specs.Wished.{IsFinding}
use Rattle.clu_operations.proofs.Bundling.{option_more}
use Rattle.clu_operations.proofs.Lasting.{follows_on}
use Rattle.clu_typing.specs.declared.applied.Applied.{Applied}
use Rattle.clu_typing.specs.declared.applied.Applied.TheVariants as applied
use Rattle.clu_typing.specs.declared.applied.Use.{Use}
use Rattle.clu_typing.specs.declared.facts.Facts.{Facts}
use Rattle.clu_typing.specs.declared.facts.Operation.{Operation}
use Rattle.clu_typing.specs.declared.raising.RaisesId.{RaisesId}
use Rattle.clu_typing.specs.Applied.{result_of}
use Rattle.clu_typing.specs.Facts.{raised_at, type_found, type_of}
use Rattle.clu_typing.specs.Found.{IsAppliedTold, IsBehindTold, IsToldOf, IsUseToldIf}
use Rattle.clu_typing.specs.Nodes.{first_type, has_actuals, type_of_first}
use Rattle.clu_typing.specs.Operators.{prefix_operation}
use Rattle.clu_typing.specs.Pass.{AreKnown, AreOrdered, HaveRows, HaveTypes, IsNoted, IsRaised, IsRowOf, IsSound}
use Rattle.clu_typing.specs.Raised.{Raised, nothing}
use Rattle.clu_typing.specs.Raises.{arms_in, called_in, failing_told, first_as, first_invoked, first_operation, guards, invoked_told, is_done, parts, passed_from, passed_on, passed_told, raised_told, row_told, second_operation, tail_of}
use Rattle.clu_typing.specs.Raising.{AreRaises, Follows, IsSetOf, Told, invoked_by, set_told}
use Rattle.clu_typing.specs.Sets.{HaveSame}
use Rattle.clu_typing.specs.Stands.{Stands, for_nothing, for_invoked, for_named, field_stands, index_stands, infix_stands, stands_as, stands_at, stands_by}
use Rattle.clu_typing.proofs.Below.{arena_before}
use Rattle.clu_typing.proofs.Growing.{grows_refl, same_set_told}
use Rattle.clu_typing.proofs.Passing.{first_in, follows, invoked_first, invoked_second, known_grows, known_sound, looked, modules, noted_grows, noted_right, noted_sets, row_follows, row_next, second_in, to_last}
use Rattle.clu_typing.proofs.Telling.{behind_on, type_same, use_stays}

-- the children of a node stand before it
abbrev pub StandBefore : ℕ → List ℕ → Type 0
StandBefore n children = AllByRecursion (λ c. c < n) children

-- ---- the row of a node

module _ (f : File) (n : ℕ) (old new : List Term) (grows : Grows old new) (before now : Facts)
    (types : (c : ℕ) → c < n → type_of now c ≡ type_of before c) (raised : (c : ℕ) → c < n → raised_told new now c ≡ raised_told old before c) where
  children_raised : (cs : List ℕ) → StandBefore n cs → flat_map (raised_told new now) cs ≡ flat_map (raised_told old before) cs
  children_raised [] all = refl
  children_raised (c ∷ cs) all = ap₂ (λ (a b : List Told). a ++ b) (raised c all.0) (children_raised cs all.1)

  tail_before : (cs : List ℕ) → StandBefore n cs → StandBefore n (tail_of cs)
  tail_before [] all = tt
  tail_before (c ∷ cs) all = all.1

  module _ (k : ℕ) (all : StandBefore n (children_in f k)) where
    parts_raised : flat_map (raised_told new now) (parts f k) ≡ flat_map (raised_told old before) (parts f k)
    parts_raised = children_raised (parts f k) (by (guards f k))
      where
        by : (b : Bool) → StandBefore n (if b then arms_in f k else children_in f k)
        by true = tail_before (children_in f k) all
        by false = all

    passed_raised : passed_told f new now k ≡ passed_told f old before k
    passed_raised = ap (λ (l : List Told). if guards f k then l else []) (by (children_in f k) all)
      where
        by : (cs : List ℕ) → StandBefore n cs → passed_from f new now k (slice_get cs 0) ≡ passed_from f old before k (slice_get cs 0)
        by [] all = refl
        by (c ∷ cs) all = ap (passed_on f k (arms_in f k)) (raised c all.0)

    invoked_raised : (of x : Option TypeId) → of ≡ x → IsBelowIf (length old) x → invoked_told new of ≡ invoked_told old x
    invoked_raised of x e within = ap (invoked_told new) e ∙ by x within
      where
        by : (o : Option TypeId) → IsBelowIf (length old) o → invoked_told new o ≡ invoked_told old o
        by (Some id) lt = ap invoked_by (types_grown old new grows id lt)
        by None lt = refl

    first_same : (its : Applied) → first_operation now its ≡ first_operation before its → first_invoked f now its k ≡ first_invoked f before its k
    first_same its same = by (kind_in f k)
      where
        called : (cs : List ℕ) → StandBefore n cs → called_in now cs ≡ called_in before cs
        called [] all = refl
        called (c ∷ cs) all = types c all.0

        by : (m : NodeKind) → first_as f now m its k ≡ first_as f before m its k
        by kind.Call = called (children_in f k) all
        by kind.File = same
        by _ = same

    pub row_same : (its : Applied) → first_operation now its ≡ first_operation before its → second_operation now its ≡ second_operation before its
        → IsBelowIf (length old) (first_invoked f before its k) → IsBelowIf (length old) (second_operation before its) → row_told f new now its k ≡ row_told f old before its k
    row_same its one two one_in two_in =
        let first : invoked_told new (first_invoked f now its k) ≡ invoked_told old (first_invoked f before its k) = invoked_raised _ _ (first_same its one) one_in in
        let second : invoked_told new (second_operation now its) ≡ invoked_told old (second_operation before its) = invoked_raised _ _ two two_in in
        let inside : flat_map (raised_told new now) (parts f k) ++ passed_told f new now k ≡ flat_map (raised_told old before) (parts f k) ++ passed_told f old before k = ap₂ (λ (a b : List Told). a ++ b) parts_raised passed_raised in
        ap (λ (l : List Told). if is_done f k then l else [])
        (ap₂ (λ (a b : List Told). a ++ b) (ap₂ (λ (a b : List Told). (a ++ failing_told f k) ++ b) inside first) second)

-- ---- that for which a node stands

module _ (f : File) (a b : List (Option TypeId)) (n : ℕ) (same : first_type f a n ≡ first_type f b n) where
  by_alike : (e : Expression) → stands_by f a n e ≡ stands_by f b n e
  unfolding stands_by
  by_alike (an_infix m o l r) = ap (infix_stands o) same
  by_alike (a_prefix m o e) = ap (λ (of : Option TypeId). for_invoked of (prefix_operation o) false) same
  by_alike (an_index m e cs) = ap (index_stands (has_actuals f n)) same
  by_alike (a_get m e name) = ap (λ (of : Option TypeId). for_invoked of (codes "get_" ++ name) false) same
  by_alike _ = refl

  as_alike : (items : ℕ → Item) (k : NodeKind) → stands_as f a n items k ≡ stands_as f b n items k
  unfolding stands_as
  as_alike items kind.SetField = ap (field_stands (names_of (slice_get f.syntax.now n))) same
  as_alike items kind.SetIndex = ap (λ (of : Option TypeId). for_invoked of (codes "store") false) same
  as_alike items k = ap (λ (s : Stands). if is_expression k then s else for_nothing) (by_alike (item_with items f.syntax.now n (slice_get f.syntax.now n)).expression)

  pub stands_alike : (items : ℕ → Item) → stands_at f a n items ≡ stands_at f b n items
  stands_alike items = as_alike items (kind_in f n)

module _ (h : Headed) (old new : List Term) (grows : Grows old new) (f g : Finding) (follows_then : found.Follows f g) (finding : IsFinding h old f) (n : ℕ) where
  use_still : (of : Option TypeId) (name : List ℕ) (its : Option Use) → IsUseToldIf h old f n of name its → IsUseToldIf h new g n of name its
  use_still (Some of) name (Some its) t = use_stays h old new grows f g follows_then finding n of name its t
  use_still None name None t = t
  use_still (Some of) name None t = absurd t
  use_still None name (Some its) t = absurd t

  behind_still : (negated : Bool) (of : Option TypeId) (second : Option Use) → IsBehindTold h old f n negated of second → IsBehindTold h new g n negated of second
  behind_still true of second t = use_still of (codes "not") second t
  behind_still false of second t = t

  pub stands_still : (s : Stands) (its : Applied) → IsAppliedTold h old f n s its → IsAppliedTold h new g n s its
  stands_still for_nothing its t = t
  stands_still (for_invoked (Some of) name negated) (applied.Invoked first second) t =
      behind_on h old new grows f g follows_then finding n of name negated first second t.0 (behind_still negated (result_of old (type_found f first.operation)) second t.1)
  stands_still (for_invoked (Some of) name negated) applied.Nothing t = absurd t
  stands_still (for_invoked (Some of) name negated) (applied.Named its) t = absurd t
  stands_still (for_invoked None name negated) applied.Nothing t = t
  stands_still (for_invoked None name negated) (applied.Invoked first second) t = absurd t
  stands_still (for_invoked None name negated) (applied.Named its) t = absurd t
  stands_still (for_named of name) (applied.Named its) t = use_still of name its t
  stands_still (for_named of name) applied.Nothing t = absurd t
  stands_still (for_named of name) (applied.Invoked first second) t = absurd t

  -- the types of operations that were looked for
  told_still : (of : TypeId) (it : Option ToldOf) (its : Operation) → IsToldOf old f of it its → type_found g its ≡ type_found f its
  told_still of it its t =
      ap (type_found g) t.is ∙ type_same h old new grows f g follows_then finding t.found t.there ∙ ap (type_found f) (sym t.is)

  use_type : (of : Option TypeId) (name : List ℕ) (its : Use) → IsUseToldIf h old f n of name (Some its) → type_found g its.operation ≡ type_found f its.operation
  use_type (Some of) name its t = told_still of _ its.operation t.told
  use_type None name its t = absurd t

  behind_type : (negated : Bool) (of : Option TypeId) (its : Use) → IsBehindTold h old f n negated of (Some its) → type_found g its.operation ≡ type_found f its.operation
  behind_type true of its t = use_type of (codes "not") its t
  behind_type false of its t = absurd (let bad : Some its ≡ None = t in cc)

  first_type_still : (s : Stands) (first : Use) (second : Option Use) → IsAppliedTold h old f n s (applied.Invoked first second) → type_found g first.operation ≡ type_found f first.operation
  first_type_still for_nothing first second t = absurd (let bad : applied.Invoked first second ≡ applied.Nothing = t in cc)
  first_type_still (for_invoked (Some of) name negated) first second t = told_still of _ first.operation t.0.told
  first_type_still (for_invoked None name negated) first second t = absurd t
  first_type_still (for_named of name) first second t = absurd t

  second_type_still : (s : Stands) (first last : Use) → IsAppliedTold h old f n s (applied.Invoked first (Some last)) → type_found g last.operation ≡ type_found f last.operation
  second_type_still for_nothing first last t = absurd (let bad : applied.Invoked first (Some last) ≡ applied.Nothing = t in cc)
  second_type_still (for_invoked (Some of) name negated) first last t = behind_type negated (result_of old (type_found f first.operation)) last t.1
  second_type_still (for_invoked None name negated) first last t = absurd t
  second_type_still (for_named of name) first last t = absurd t

module _ (h : Headed) (old new : List Term) (grows : Grows old new) (before now : Facts) (follows_then : found.Follows before.finding now.finding) (finding : IsFinding h old before.finding) (n : ℕ) (s : Stands) where
  pub first_still : (its : Applied) → IsAppliedTold h old before.finding n s its → first_operation now its ≡ first_operation before its
  first_still (applied.Invoked first second) t = first_type_still h old new grows before.finding now.finding follows_then finding n s first second t
  first_still applied.Nothing t = refl
  first_still (applied.Named x) t = refl

  pub second_still : (its : Applied) → IsAppliedTold h old before.finding n s its → second_operation now its ≡ second_operation before its
  second_still (applied.Invoked first (Some last)) t = second_type_still h old new grows before.finding now.finding follows_then finding n s first last t
  second_still (applied.Invoked first None) t = refl
  second_still applied.Nothing t = refl
  second_still (applied.Named x) t = refl

-- ---- one node more

module _ (h : Headed) (items : ℕ → Item) (n : ℕ) (old new : List Term) (before noted now : Facts) (its : Applied) (what : IsNoted h items n old new before noted its) (raises : IsRaised h n new noted now its)
    (arena : IsArena new) (values : (k : ℕ) → IsBelowIf (length old) (type_id (value_in h.file k))) (owns : (k : ℕ) → IsBelowIf (length old) (own_type h.file k)) (sound : IsSound h old before)
    (ordered : AreOrdered h) (types_all : length before.types.items ≡ n) (raises_all : length before.raises.items ≡ n) where
  grows : Grows old new
  grows = noted_grows h items n old new before noted its what

  right : AreRaises new noted.finding.words noted.raising
  right = noted_right h items n old new before noted now its what raises arena values owns sound

  row : IsSetOf new noted.finding.words now.finding.words noted.raising now.raising (row_told h.file new noted its n) raises.set
  row = row_next h items n old new before noted now its what raises arena values owns sound

  to_noted : found.Follows before.finding noted.finding
  to_noted = follows h items n old new before noted now its what raises arena values owns sound

  to_now : found.Follows noted.finding now.finding
  to_now = row_follows h items n old new before noted now its what raises arena values owns sound

  follows_all : found.Follows before.finding now.finding
  follows_all = follows_on before.finding noted.finding now.finding to_noted to_now

  raising_all : Follows before.raising now.raising
  raising_all = subst (λ (all : Raised). Follows all now.raising) what.raising row.kept

  sets_all : length noted.raises.items ≡ n
  sets_all = ap (λ (l : List RaisesId). length l) (ap vec_items what.raises) ∙ raises_all

  -- ---- of the nodes before

  types_noted : (c : ℕ) → type_of now c ≡ type_of noted c
  types_noted c = ap (λ (l : List (Option TypeId)). optional (slice_get l c)) (ap vec_items raises.types)

  types_still : (c : ℕ) → c < n → type_of now c ≡ type_of before c
  types_still c lt =
      types_noted c ∙ ap (λ (l : List (Option TypeId)). optional (slice_get l c)) what.types
      ∙ ap (λ (o : Option (Option TypeId)). optional o) (front_get before.types.items (what.of ∷ []) c (omega (arith, lt, types_all)))

  set_noted : (c : ℕ) → c < n → raised_at now c ≡ raised_at noted c
  set_noted c lt = ap (λ (l : List RaisesId). get_or l c nothing) raises.raises ∙ get_or-append noted.raises.items (raises.set ∷ []) nothing c (omega (arith, lt, sets_all))

  set_still : (c : ℕ) → c < n → raised_at now c ≡ raised_at before c
  set_still c lt = set_noted c lt ∙ ap (λ (l : List RaisesId). get_or l c nothing) (ap vec_items what.raises)

  raised_noted : (c : ℕ) → c < n → raised_told new now c ≡ raised_told new noted c
  raised_noted c lt =
      ap (set_told new now.finding.words now.raising) (set_noted c lt)
      ∙ same_set_told new new noted.finding.words now.finding.words noted.raising now.raising (grows_refl new) row.named row.kept right (raised_at noted c) (noted_sets h items n old new before noted now its what raises arena values owns sound c)

  raised_still : (c : ℕ) → c < n → raised_told new now c ≡ raised_told old before c
  raised_still c lt =
      ap (set_told new now.finding.words now.raising) (set_still c lt)
      ∙ same_set_told old new before.finding.words now.finding.words before.raising now.raising grows follows_all.words raising_all sound.right (raised_at before c) (sound.sets c)

  first_children : (k : ℕ) (known : List (Option TypeId)) → ((c : ℕ) → c < k → optional (slice_get now.types.items c) ≡ optional (slice_get known c)) → first_type h.file now.types.items k ≡ first_type h.file known k
  first_children k known same = by (children_in h.file k) (ordered k)
    where
      by : (cs : List ℕ) → StandBefore k cs → type_of_first now.types.items cs ≡ type_of_first known cs
      by [] all = refl
      by (c ∷ cs) all = same c all.0

  lower : (k : ℕ) → k ≤ n → (cs : List ℕ) → StandBefore k cs → StandBefore n cs
  lower k le [] all = tt
  lower k le (c ∷ cs) all = (omega (arith, le, all.0), lower k le cs all.1)

  node_still : (k : ℕ) → k < n → (x : Applied) → IsRowOf h items old before k x → IsRowOf h items new now k x
  node_still k lt x r = record {
    stands =
        subst (λ (s : Stands). IsAppliedTold h new now.finding k s x) (sym (stands_alike h.file now.types.items before.types.items k (first_children k before.types.items (λ c less. types_still c (omega (arith, less, lt)))) items))
        (stands_still h old new grows before.finding now.finding follows_all sound.finding k (stands_at h.file before.types.items k items) x r.stands);
    row =
        subst (λ (l : List Told). HaveSame l (row_told h.file new now x k)) (sym (raised_still k lt))
        (subst (λ (l : List Told). HaveSame (raised_told old before k) l)
        (sym (row_same h.file n old new grows before now types_still raised_still k (lower k (omega (arith, lt)) (children_in h.file k) (ordered k)) x
        (first_still h old new grows before now follows_all sound.finding k (stands_at h.file before.types.items k items) x r.stands)
        (second_still h old new grows before now follows_all sound.finding k (stands_at h.file before.types.items k items) x r.stands)
        (first_in h old before sound.finding sound.types old before.finding k (stands_at h.file before.types.items k items) x r.stands)
        (second_in h old before sound.finding sound.types old before.finding k (stands_at h.file before.types.items k items) x r.stands)))
        r.row);
  }

  -- ---- of the node itself

  its_set : raised_at now n ≡ raises.set
  its_set =
      ap (λ (l : List RaisesId). get_or l n nothing) raises.raises
      ∙ subst (λ (k : ℕ). get_or (noted.raises.items ++ raises.set ∷ []) k nothing ≡ raises.set) sets_all (get_or-append_seam noted.raises.items raises.set [] nothing)

  abbrev stands : Stands
  stands = stands_at h.file before.types.items n items

  sought : IsAppliedTold h what.applied_terms what.applied_finding n stands its
  sought = (looked h items n old new before noted now its what raises arena values owns sound).1

  noted_stands : IsAppliedTold h new noted.finding n stands its
  noted_stands =
      stands_still h what.applied_terms new (grows_on what.applied_terms what.typed_terms new what.typed_grows what.grows) what.applied_finding noted.finding
      (to_last h items n old new before noted now its what raises arena values owns sound) (looked h items n old new before noted now its what raises arena values owns sound).0.finding n stands its sought

  now_stands : IsAppliedTold h new now.finding n stands its
  now_stands = stands_still h new new (grows_refl new) noted.finding now.finding to_now (modules h items n old new before noted now its what raises arena values owns sound).finding n stands its noted_stands

  node_now : IsRowOf h items new now n its
  node_now = record {
    stands = subst (λ (s : Stands). IsAppliedTold h new now.finding n s its) (sym (stands_alike h.file now.types.items before.types.items n (first_children n before.types.items types_still) items)) now_stands;
    row =
        subst (λ (set : RaisesId). HaveSame (set_told new now.finding.words now.raising set) (row_told h.file new now its n)) (sym its_set)
        (subst (λ (l : List Told). HaveSame (set_told new now.finding.words now.raising raises.set) l)
        (sym (row_same h.file n new new (grows_refl new) noted now (λ c lt. types_noted c) raised_noted n (ordered n) its
        (first_still h new new (grows_refl new) noted now to_now (modules h items n old new before noted now its what raises arena values owns sound).finding n stands its noted_stands)
        (second_still h new new (grows_refl new) noted now to_now (modules h items n old new before noted now its what raises arena values owns sound).finding n stands its noted_stands)
        (invoked_first h items n old new before noted now its what raises arena values owns sound) (invoked_second h items n old new before noted now its what raises arena values owns sound)))
        row.raises);
  }

  pub rows_next : ((k : ℕ) → k < n → (x : Applied) × IsRowOf h items old before k x) → HaveRows h items (suc n) new now
  rows_next rows = record {
    types = ap (λ (l : List (Option TypeId)). length l) (ap vec_items raises.types ∙ what.types) ∙ omega (arith, length-append before.types.items (what.of ∷ []), types_all);
    raises = ap (λ (l : List RaisesId). length l) raises.raises ∙ omega (arith, length-append noted.raises.items (raises.set ∷ []), sets_all);
    rows = λ k lt. elim (cases_eq k n) [
      | inl same ↦ subst (λ (k : ℕ). (x : Applied) × IsRowOf h items new now k x) (sym same) (its, node_now)
      | inr apart ↦ let r = rows k (omega (arith, lt, apart)) in (r.0, node_still k (omega (arith, lt, apart)) r.0 r.1)
    ];
  }

-- ---- all nodes

module _ (h : Headed) (items : ℕ → Item) (first : List Term) (ordered : AreOrdered h) where
  pub known_rows : (n : ℕ) (terms : List Term) (facts : Facts) → AreKnown h items first n terms facts → IsArena terms → HaveTypes h (length first) → HaveRows h items n terms facts
  known_rows zero terms facts known arena have = record {
    types = ap (λ (l : List (Option TypeId)). length l) known.types;
    raises = ap (λ (l : List RaisesId). length l) known.raises;
    rows = λ k lt. absurd (omega (arith, lt));
  }
  known_rows (suc n) terms facts known arena have =
      let longer : length first ≤ length known.0 = length_grows first known.0 (known_grows h items first n known.0 known.1 known.2) in
      let before : IsArena known.0 = arena_before known.0 terms (noted_grows h items n known.0 terms known.1 known.3.1 known.3.0 known.3.2) arena in
      let rows : HaveRows h items n known.0 known.1 = known_rows n known.0 known.1 known.2 before have in
      rows_next h items n known.0 terms known.1 known.3.1 facts known.3.0 known.3.2 known.3.3 arena
      (λ k. option_more (length first) (length known.0) longer (type_id (value_in h.file k)) (have.values k)) (λ k. option_more (length first) (length known.0) longer (own_type h.file k) (have.own k))
      (known_sound h items first n known.0 known.1 known.2 before have) ordered rows.types rows.raises rows.rows
