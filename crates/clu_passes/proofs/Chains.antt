-- No chain of equates is as long as there are declarations, if one of them is no equate: in the order of `equate_circles` each
-- leads to earlier ones, and none leads to that one.
use Rattle.std.proofs.Common.{◌≡◌, ◌∙◌, ◌⊎◌, ℕ, zero, suc, ◌+◌, ◌-◌, ◌<◌, ◌≤◌, ◌||◌, ◌&&◌, if◌then◌else◌, Bool, true, false, List, [], ◌∷◌, length, map, Option, Some, None, inl, inr, refl, sym, ap, subst, arith}
use Rattle.std.specs.Prelude.{slice_get}
use Rattle.std.specs.List.{list_any, range_with_len}
use Rattle.std.proofs.Math.Bool.{and-false}
use Rattle.std.proofs.lemmas.Bool.{cases_eq, cases_lt, true≢false}
use Rattle.std.proofs.lemmas.List.{length-map}
use Rattle.std.proofs.lemmas.Option.{none-some, same_Some, slice_get_within}
use Rattle.clu_circles.specs.declared.states.Span.{Span}
use Rattle.clu_circles.specs.Circles.{AreCircles, Leads}
use Rattle.clu_circles.proofs.Levels.{few}
use Rattle.clu_tree.specs.declared.node.Node.{Node}
use Rattle.clu_tree.specs.declared.node.NodeKind.{NodeKind}
use Rattle.clu_tree.specs.declared.node.NodeKind.TheVariants as kind
use Rattle.clu_parser.specs.Shape.{Part, name, Letter, forms, IsFormOf, IsWord, name_is, names_in, typed_names, HasForm, HaveForms}
use Rattle.clu_syntax.specs.Kinds.{kind_at, kind_of}
use Rattle.clu_names.specs.declared.binding.Names.{Names}
use Rattle.clu_names.specs.declared.scopes.Declared.{Declared}
use Rattle.clu_names.specs.Denotes.{bound_at}
use Rattle.clu_checking.specs.Files.{File, is_kind}
use Rattle.clu_checking.specs.Equates.{is_circular, leads_far}
use Rattle.clu_settle.specs.Circular as by_place
use Rattle.clu_settle.specs.Circular.{goes_far, goes_on, nodes_in, nodes_of, spans_to, unfolded_starts}
use Rattle.clu_settle.specs.Graph as graph
use Rattle.clu_settle.specs.Graph.{if_used, is_equate_at, is_equate_kind, unfolded_at, unfolded_to}
use Rattle.clu_settle.proofs.Unfolding.{named_leads}
use Rattle.clu_passes.specs.Marks.{AreMarks}
use Rattle.clu_passes.specs.Refusing.{IsOrder}
use Rattle.clu_passes.specs.Trees.{IsFileOfTree}
use Rattle.clu_passes.specs.Turns.{first_in}
use Rattle.clu_passes.proofs.Apart.{IsNode, bit_false, equate_there, if_some, mapped_at, node_there}
use Rattle.clu_passes.proofs.ByNodes.{circular_same, equate_kind, far_same}
use Rattle.clu_passes.proofs.Places.{Declares, decl_declares, equate_declares}

-- ---- lists

none_listed : {X : Type 0} (f : X → Bool) (xs : List X) → ((i : ℕ) (x : X) → slice_get xs i ≡ Some x → f x ≡ false) → list_any f xs ≡ false
none_listed f [] none = refl
none_listed f (x ∷ xs) none = ap (λ (b : Bool). b || list_any f xs) (none 0 x refl) ∙ none_listed f xs (λ i y at. none (suc i) y at)

pub none_ranged : (f : ℕ → Bool) (a len : ℕ) → ((n : ℕ) → a ≤ n → n < a + len → f n ≡ false) → list_any f (range_with_len a len) ≡ false
none_ranged f a zero none = refl
none_ranged f a (suc len) none =
    ap (λ (b : Bool). b || list_any f (range_with_len (a + 1) len)) (none a (omega arith) (omega arith))
    ∙ none_ranged f (a + 1) len (λ n l m. none n (omega (arith, l)) (omega (arith, m)))

-- ---- a Decl has a name

first_named : (ps : List Part) (w : List Letter) → IsWord (name ∷ ps) w → 1 ≤ names_in w
first_named _ _ (name_is ps w d) = omega arith

one_named : (form : List Part) (w : List Letter) → IsFormOf form (forms kind.Decl) → IsWord form w → 1 ≤ names_in w
one_named form w (inl same) word = first_named _ w (subst (λ (ps : List Part). IsWord ps w) same word)
one_named form w (inr none) word = absurd none

decl_named : (nodes : List Node) → HaveForms nodes → (n : ℕ) (node : Node) → slice_get nodes n ≡ Some node → node.kind ≡ kind.Decl → 1 ≤ length node.names
decl_named nodes shaped n node at is =
    let h : HasForm nodes node = shaped n node at in
    let some : 1 ≤ names_in h.word = one_named h.form h.word (subst (λ (k : NodeKind). IsFormOf h.form (forms k)) is h.of_kind) h.is_word in
    let same : length node.names ≡ names_in h.word = h.names_are in
    omega (arith, some, same)

-- ---- what is named is an equate

unnamed : (k : NodeKind) (bound : List (Option ℕ)) → is_equate_kind k ≡ true → if_used k bound ≡ []
unnamed kind.Name bound e = absurd (true≢false (sym e))
unnamed kind.NameT bound e = absurd (true≢false (sym e))
unnamed kind.Simple bound e = absurd (true≢false (sym e))
unnamed _ bound e = refl

module _ (nodes : List Node) (ds : List Declared) where
  equate_unnamed : (e : ℕ) → is_equate_at nodes e ≡ true → unfolded_at nodes ds e ≡ []
  equate_unnamed e is = ap (map (graph.equate_of nodes ds)) (unnamed (kind_at nodes e) (bound_at ds e (slice_get nodes e)) is)

  module _ (t : ℕ) (d : Declared) (declared : slice_get ds t ≡ Some d) where
    at_place : (place : ℕ) (o : Option Declared) → slice_get ds place ≡ o → graph.equate_at nodes place o ≡ Some t → is_equate_at nodes d.node ≡ true
    at_place place None at gives = absurd (none-some t gives)
    at_place place (Some one) at gives =
        let both = if_some (is_equate_at nodes one.node) place t gives in
        let same : one ≡ d = same_Some one d (sym at ∙ ap (slice_get ds) both.1 ∙ declared) in
        ap (λ (x : Declared). is_equate_at nodes x.node) (sym same) ∙ both.0

    of_bound : (bound : Option ℕ) → graph.equate_of nodes ds bound ≡ Some t → is_equate_at nodes d.node ≡ true
    of_bound None gives = absurd (none-some t gives)
    of_bound (Some place) gives = at_place place (slice_get ds place) refl gives

    equate_named : (n i : ℕ) → slice_get (unfolded_at nodes ds n) i ≡ Some (Some t) → is_equate_at nodes d.node ≡ true
    equate_named n i at =
        let m = mapped_at (graph.equate_of nodes ds) (if_used (kind_at nodes n) (bound_at ds n (slice_get nodes n))) i t at in
        of_bound m.item m.gives

-- ---- in the order

module _ (f : File) (of : IsFileOfTree f) (names : Names) (order : List ℕ) (circular : List Bool) (its_order : IsOrder f names order circular) where
  abbrev ds : List Declared
  ds = f.scope.declarations

  abbrev targets : List (Option ℕ)
  targets = unfolded_to f.nodes ds (length f.nodes)

  abbrev spans : List Span
  spans = spans_to f.nodes f.rounds ds

  abbrev circles : AreCircles targets spans order circular
  circles = its_order.circles

  spans_size : length spans ≡ length ds
  spans_size = length-map ds (by_place.span_in f.nodes f.rounds (length targets) (unfolded_starts f.nodes ds (length f.nodes)))

  -- what is no circular equate has a place
  listed : (k : ℕ) (d : Declared) → slice_get ds k ≡ Some d → (is_kind f kind.Equate d.node && is_circular f d.node) ≡ false → (p : ℕ) × (slice_get order p ≡ Some k)
  listed k d at straight =
      let less : k < length ds = slice_get_within ds k d at in
      let size : length circular ≡ length spans = circles.size in
      let other : slice_get circular k ≡ Some true → ⊥ = λ marked. true≢false (sym ((its_order.marks k less).0 marked) ∙ circular_same f of.shaped k d at ∙ straight) in
      circles.listed k (bit_false circular k (omega (arith, less, size, spans_size)) other (slice_get circular k) refl)

  module _ (e : ℕ) (node : Node) (there : slice_get f.nodes e ≡ Some node) (decl : node.kind ≡ kind.Decl) where
    declared : Declares ds e
    declared = subst (λ (xs : List Declared). Declares xs e) (sym its_order.all) (decl_declares f.nodes f.rounds e node there decl (decl_named f.nodes of.shaped e node there decl))

    no_equate : is_equate_at f.nodes declared.its.node ≡ false
    no_equate = ap (is_equate_at f.nodes) declared.declares ∙ ap (λ (o : Option Node). is_equate_kind (kind_of o)) there ∙ ap is_equate_kind decl

    -- its place
    its_place : (v : ℕ) × (slice_get order v ≡ Some declared.place)
    its_place =
        listed declared.place declared.its declared.there
        (ap (λ (b : Bool). b && is_circular f declared.its.node) (sym (equate_kind (kind_at f.nodes declared.its.node)) ∙ no_equate))

    abbrev v : ℕ
    v = its_place.0

    -- so many steps are more than lead on from the place p, where none leads to the place v
    abbrev Sooner : ℕ → ℕ → Type 0
    Sooner p steps = (p < steps) ⊎ ((v < p) × (p ≤ steps))

    abbrev Stops : ℕ → Type 0
    Stops steps = (p k : ℕ) → slice_get order p ≡ Some k → Sooner p steps → goes_far f.nodes f.rounds ds steps k ≡ false

    sooner : (steps p q : ℕ) → q < p → (q ≡ v → ⊥) → Sooner p (suc steps) → Sooner q steps
    sooner steps p q less apart (inl few_steps) = inl (omega (arith, less, few_steps))
    sooner steps p q less apart (inr x) = behind x.0 x.1
      where
        last : v < p → p ≤ suc steps → steps ≤ q → v < q
        last after most full = elim (cases_lt v q) [
          | inl before ↦ before
          | inr back ↦ absurd (apart (omega (arith, less, after, most, full, back)))
        ]

        behind : v < p → p ≤ suc steps → Sooner q steps
        behind after most = elim (cases_lt q steps) [
          | inl before ↦ inl before
          | inr full ↦ inr (last after most full, omega (arith, less, most))
        ]

    module _ (steps : ℕ) (had : Stops steps) where
      abbrev goes : ℕ → Bool
      goes n = list_any (goes_on f.nodes f.rounds ds (goes_far f.nodes f.rounds ds steps)) (unfolded_at f.nodes ds n)

      module _ (p k : ℕ) (place : slice_get order p ≡ Some k) (soon : Sooner p (suc steps)) (d : Declared) (at : slice_get ds k ≡ Some d) (is : is_equate_at f.nodes d.node ≡ true) where
        -- what is named leads to an earlier place, and not to that of the Decl
        one_stops : (n i : ℕ) → first_in f.rounds d.node ≤ n → n < d.node → (o : Option ℕ) → slice_get (unfolded_at f.nodes ds n) i ≡ Some o → goes_on f.nodes f.rounds ds (goes_far f.nodes f.rounds ds steps) o ≡ false
        one_stops n i from below None named = refl
        one_stops n i from below (Some t) named =
            let leads : Leads targets spans k t = named_leads f.nodes ds f.rounds of.surrounded.size targets (unfolded_starts f.nodes ds (length f.nodes)) (length targets) spans refl refl refl refl k d at is n i t from below named in
            let q = circles.after p k t place leads in
            let apart : q.0 ≡ v → ⊥ = λ same.
            let its : t ≡ declared.place = same_Some t declared.place (sym q.2 ∙ ap (slice_get order) same ∙ its_place.1) in
            true≢false (sym (equate_named f.nodes ds t declared.its (ap (slice_get ds) its ∙ declared.there) n i named) ∙ no_equate) in
            had q.0 t q.2 (sooner steps p q.0 q.1 apart soon)

        node_stops : (n : ℕ) → first_in f.rounds d.node ≤ n → n < first_in f.rounds d.node + (suc d.node - first_in f.rounds d.node) → goes n ≡ false
        node_stops n from below = elim (cases_eq n d.node) [
          | inl same ↦
              ap (list_any (goes_on f.nodes f.rounds ds (goes_far f.nodes f.rounds ds steps))) (ap (unfolded_at f.nodes ds) same ∙ equate_unnamed f.nodes ds d.node is)
          | inr other ↦
              none_listed (goes_on f.nodes f.rounds ds (goes_far f.nodes f.rounds ds steps)) (unfolded_at f.nodes ds n) (λ i o named. one_stops n i from (omega (arith, from, below, other)) o named)
        ]

      declared_stops : (p k : ℕ) → slice_get order p ≡ Some k → Sooner p (suc steps) → (d : Declared) → slice_get ds k ≡ Some d → (b : Bool) → is_equate_at f.nodes d.node ≡ b → list_any goes (if b then nodes_of f.nodes f.rounds ds d.node else []) ≡ false
      declared_stops p k place soon d at true is = none_ranged goes (first_in f.rounds d.node) (suc d.node - first_in f.rounds d.node) (node_stops p k place soon d at is)
      declared_stops p k place soon d at false is = refl

      place_stops : (p k : ℕ) → slice_get order p ≡ Some k → Sooner p (suc steps) → (o : Option Declared) → slice_get ds k ≡ o → list_any goes (nodes_in f.nodes f.rounds ds o) ≡ false
      place_stops p k place soon None at = refl
      place_stops p k place soon (Some d) at = declared_stops p k place soon d at (is_equate_at f.nodes d.node) refl

      next_stops : Stops (suc steps)
      unfolding goes_far
      next_stops p k place soon = place_stops p k place soon (slice_get ds k) refl

    stops : (steps : ℕ) → Stops steps
    stops zero p k place (inl less) = absurd (omega (arith, less))
    stops zero p k place (inr x) = let after : v < p = x.0 in let none : p ≤ 0 = x.1 in absurd (omega (arith, after, none))
    stops (suc steps) p k place soon = next_stops steps (stops steps) p k place soon

    at_last : (p : ℕ) → p ≤ length ds - 1 → v ≤ length ds - 1 → (p ≡ v → ⊥) → Sooner p (length ds - 1)
    at_last p most its_most apart = elim (cases_lt p (length ds - 1)) [
      | inl less ↦ inl less
      | inr last ↦ inr (after last, most)
    ]
      where
        after : length ds - 1 ≤ p → v < p
        after last = elim (cases_lt v p) [
          | inl before ↦ before
          | inr back ↦ absurd (apart (omega (arith, most, its_most, last, back)))
        ]

    -- so an equate that leads to no circle goes on for fewer steps than there are declarations but one
    pub fewer_declared : suc (length ds - 1) ≡ length ds
    fewer_declared = let less : declared.place < length ds = slice_get_within ds declared.place declared.its declared.there in omega (arith, less)

    pub ends_sooner : (m : ℕ) → is_kind f kind.Equate m ≡ true → is_circular f m ≡ false → leads_far f (length ds - 1) m ≡ false
    ends_sooner m equate straight =
        let found : IsNode kind.Equate (slice_get f.nodes m) = node_there kind.Equate (slice_get f.nodes m) (equate_there (slice_get f.nodes m) ∙ equate) in
        let its : Declares ds m = subst (λ (xs : List Declared). Declares xs m) (sym its_order.all) (equate_declares f.nodes f.rounds m found.node found.there found.its) in
        let p = listed its.place its.its its.there (ap (λ (b : Bool). is_kind f kind.Equate its.its.node && b) (ap (is_circular f) its.declares ∙ straight) ∙ and-false (is_kind f kind.Equate its.its.node)) in
        let is : is_equate_at f.nodes its.its.node ≡ true = equate_kind (kind_at f.nodes its.its.node) ∙ ap (is_kind f kind.Equate) its.declares ∙ equate in
        let inside : p.0 < length order = slice_get_within order p.0 its.place p.1 in
        let its_inside : v < length order = slice_get_within order v declared.place its_place.1 in
        let most : length order ≤ length spans = few targets spans order circular circles in
        let apart : p.0 ≡ v → ⊥ = λ same.
        let one : its.place ≡ declared.place = same_Some its.place declared.place (sym p.1 ∙ ap (slice_get order) same ∙ its_place.1) in
        let both : its.its ≡ declared.its = same_Some its.its declared.its (sym its.there ∙ ap (slice_get ds) one ∙ declared.there) in
        true≢false (sym is ∙ ap (λ (d : Declared). is_equate_at f.nodes d.node) both ∙ no_equate) in
        let soon : Sooner p.0 (length ds - 1) = at_last p.0 (omega (arith, inside, most, spans_size)) (omega (arith, its_inside, most, spans_size)) apart in
        ap (leads_far f (length ds - 1)) (sym its.declares) ∙ sym (far_same f of.shaped (length ds - 1) its.place its.its its.there is) ∙ stops (length ds - 1) p.0 its.place p.1 soon
