-- What the walks find over the nodes of a file is its refusal, if they find what the definitions do as far as the first fault.
use Rattle.std.proofs.Common.{◌≡◌, ◌∙◌, ◌⊎◌, ℕ, zero, suc, ◌+◌, ◌<◌, List, [], ◌∷◌, length, Option, Some, None, inl, inr, refl, sym, ap, arith}
use Rattle.std.specs.Prelude.{is_some, slice_get}
use Rattle.std.specs.List.{range_with_len}
use Rattle.std.proofs.lemmas.Bool.{cases_lt, true≢false}
use Rattle.std.proofs.lemmas.Option.{none-some, same_Some}
use Rattle.clu_base.specs.declared.rules.Rule.{Rule}
use Rattle.clu_base.specs.declared.rules.Refused.{Refused}
use Rattle.clu_tree.specs.declared.node.Node.{Node}
use Rattle.clu_checking.specs.Files.{File, numbers}
use Rattle.clu_checking.specs.Refusals.{Fault, first_among, fault_at, first_on, headings, rest, refused_by, refused_at, refusal, heading_refusal}
use Rattle.clu_type_rules.specs.Walking.{first_fault, first_of, told}
use Rattle.clu_passes.specs.Agreeing.{AgreeAt}
use Rattle.clu_passes.proofs.Marked.{none_there}

-- where nothing is found before a node, agreeing there is being the same
here_same : (g h : ℕ → Option Rule) (a : ℕ) → ((m : ℕ) → m < a → g m ≡ None) → AgreeAt g h a → g a ≡ h a
here_same g h a none (inl same) = same
here_same g h a none (inr x) = absurd (true≢false (sym x.found ∙ ap is_some (none x.node x.before)))

among_same : (g h : ℕ → Option Rule) (a len : ℕ) → ((m : ℕ) → m < a → g m ≡ None) → ((n : ℕ) → n < a + len → AgreeAt g h n) → first_among g (range_with_len a len) ≡ first_among h (range_with_len a len)
among_same g h a zero none agree = refl
among_same g h a (suc len) none agree =
    ap (λ (o : Option Rule). elim o [ Some r ↦ Some (a, r) | None ↦ first_among g (range_with_len (a + 1) len) ]) here
    ∙ by (h a) refl (λ none_yet. among_same g h (a + 1) len none_yet (λ n l. agree n (omega (arith, l))))
  where
    here : g a ≡ h a
    here = here_same g h a none (agree a (omega arith))

    by : (o : Option Rule) → h a ≡ o → (((m : ℕ) → m < a + 1 → g m ≡ None) → first_among g (range_with_len (a + 1) len) ≡ first_among h (range_with_len (a + 1) len)) → ◌≡◌ {A = Option Fault} (elim o [ Some r ↦ Some (a, r) | None ↦ first_among g (range_with_len (a + 1) len) ]) (elim o [ Some r ↦ Some (a, r) | None ↦ first_among h (range_with_len (a + 1) len) ])
    by (Some r) e others = refl
    by None e others = others more
      where
        more : (m : ℕ) → m < a + 1 → g m ≡ None
        more m l = elim (cases_lt m a) [
          | inl before ↦ none m before
          | inr behind ↦ (let same : m ≡ a = omega (arith, l, behind) in ap g same ∙ here ∙ e)
        ]

-- a fault is at one of the nodes
among_inside : (g : ℕ → Option Rule) (a len : ℕ) (x : Fault) → first_among g (range_with_len a len) ≡ Some x → x.0 < a + len
among_inside g a zero x e = absurd (none-some x e)
among_inside g a (suc len) x e = by (g a) e (among_inside g (a + 1) len x)
  where
    by : (o : Option Rule) → elim o [ Some r ↦ Some (a, r) | None ↦ first_among g (range_with_len (a + 1) len) ] ≡ Some x → (first_among g (range_with_len (a + 1) len) ≡ Some x → x.0 < a + 1 + len) → x.0 < a + suc len
    by (Some r) e more = let same : a ≡ x.0 = ap (λ (y : Fault). y.0) (same_Some {A = Fault} (a, r) x e) in omega (arith, same)
    by None e more = let less : x.0 < a + 1 + len = more e in omega (arith, less)

module _ (f : File) where
  module _ (g : ℕ → Option Rule) where
    walked : (n : ℕ) (ms : List Node) → ((i : ℕ) → slice_get f.nodes (n + i) ≡ slice_get ms i) → first_fault g n ms ≡ refused_at f (first_among g (range_with_len n (length ms)))
    walked n [] at = refl
    walked n (m ∷ ms) at = by (g n) (walked (n + 1) ms next)
      where
        here : slice_get f.nodes n ≡ Some m
        here = let none : n ≡ n + 0 = omega arith in ap (slice_get f.nodes) none ∙ at 0

        next : (i : ℕ) → slice_get f.nodes (n + 1 + i) ≡ slice_get ms i
        next i = let more : n + 1 + i ≡ n + suc i = omega arith in ap (slice_get f.nodes) more ∙ at (suc i)

        by : (o : Option Rule) → first_fault g (n + 1) ms ≡ refused_at f (first_among g (range_with_len (n + 1) (length ms))) → first_of (told o m) (first_fault g (n + 1) ms) ≡ refused_at f (elim o [ Some r ↦ Some (n, r) | None ↦ first_among g (range_with_len (n + 1) (length ms)) ])
        by (Some r) more = sym (ap (refused_by f r) here)
        by None more = more

    all_walked : first_fault g 0 f.nodes ≡ refused_at f (first_among g (numbers f.nodes))
    all_walked = walked 0 f.nodes (λ i. let same : 0 + i ≡ i = omega arith in ap (slice_get f.nodes) same)

    pub on_walk : (h : ℕ → Option Rule) → ((n : ℕ) → n < length f.nodes → AgreeAt g h n) → first_fault g 0 f.nodes ≡ refused_at f (first_among h (numbers f.nodes))
    on_walk h agree = all_walked ∙ ap (refused_at f) (among_same g h 0 (length f.nodes) (λ m l. absurd (omega (arith, l))) (λ n l. agree n (omega (arith, l))))

  module _ (first second : ℕ → Option Rule) (heads : (n : ℕ) → n < length f.nodes → AgreeAt first (fault_at f headings) n) where
    pub heading_said : first_fault first 0 f.nodes ≡ heading_refusal f
    heading_said = on_walk first (fault_at f headings) heads

    -- the node of a fault is there, so what is found first is told
    one_first : (x : Fault) → x.0 < length f.nodes → (other : Option Refused) → first_of (refused_at f (Some x)) other ≡ refused_at f (Some x)
    one_first x less other = at (slice_get f.nodes x.0) refl
      where
        at : (o : Option Node) → slice_get f.nodes x.0 ≡ o → first_of (refused_by f x.1 o) other ≡ refused_by f x.1 o
        at (Some node) is = refl
        at None is = absurd (none_there f.nodes x.0 less is)

    pub refusal_said : (first_on f headings ≡ None → (n : ℕ) → n < length f.nodes → AgreeAt second (fault_at f rest) n) → first_of (first_fault first 0 f.nodes) (first_fault second 0 f.nodes) ≡ refusal f
    refusal_said others = ap (λ (o : Option Refused). first_of o (first_fault second 0 f.nodes)) heading_said ∙ by (first_on f headings) refl
      where
        by : (a : Option Fault) → first_on f headings ≡ a → first_of (refused_at f a) (first_fault second 0 f.nodes) ≡ refused_at f (elim a [ Some x ↦ Some x | None ↦ first_on f rest ])
        by None e = on_walk second (fault_at f rest) (others e)
        by (Some x) e = one_first x (let less : x.0 < 0 + length f.nodes = among_inside (fault_at f headings) 0 (length f.nodes) x e in omega (arith, less)) (first_fault second 0 f.nodes)
