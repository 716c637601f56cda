-- Tables in which each node has its row have what each node raises, as a set.
use Rattle.std.proofs.Common.{◌≡◌, ℕ, zero, suc, ◌<◌, Bool, true, false, if◌then◌else◌, List, [], ◌∷◌, ◌++◌, flat_map, Option, Some, None, slice_get, refl, sym, subst, inl, inr, arith}
use Rattle.std.specs.Prelude.{filter}
use Rattle.std.specs.List.{AllByRecursion, list_all}
use Rattle.std.proofs.lemmas.Bool.{cases_lt}
use Rattle.clu_tree.specs.declared.node.Node.{Node}
use Rattle.clu_parser.specs.Trees.{Text}
use Rattle.clu_syntax.specs.Kinds.{kind_at}
use Rattle.clu_syntax.specs.Items.{When}
use Rattle.clu_syntax.specs.Syntax.{Identifier, Taken, objects, any_objects, Statement, a_resignal, an_except, no_others, others}
use Rattle.clu_parts.proofs.Fitting.{AreBefore, children_before}
use Rattle.clu_declares.specs.Declares.{IsParsed}
use Rattle.clu_checking.specs.Files.{File, item, node_children, children}
use Rattle.clu_checking.specs.Raising.{Raise, is_named}
use Rattle.clu_checking.specs.ExceptionRules.{raise_fits, takes_raise, takes_raises}
use Rattle.clu_checking.specs.StatementRules.{declared_types}
use Rattle.clu_typing.specs.Raises.{guards_as, is_done_as, tail_of}
use Rattle.clu_typing.specs.Sets.{HaveSame}
use Rattle.clu_typing.proofs.Sets.{same_all, same_from, same_joined, same_kept, same_refl, same_trans}
use Rattle.clu_passes.specs.Raised.{AreRows, has_actuals, inside_as, own_as, passed_by, passed_from, raises_of, row_as, row_of}
use Rattle.clu_passes.proofs.RaisedByRow.{row_is}

module _ (f : File) where
  passed_same : (s : Statement) (xs ys : List Raise) → HaveSame xs ys → HaveSame (passed_by f s xs) (passed_by f s ys)
  passed_same (a_resignal n s names) xs ys same = same_kept _ xs ys same
  passed_same (an_except n s ws no_others) xs ys same = same_kept _ xs ys same
  passed_same (an_except n s ws (others m x body)) xs ys same = same_refl []
  passed_same _ xs ys same = same

module _ (t : Text) (f : File) (parsed : IsParsed t f.nodes) (lost : ℕ → Bool) (below : (n : ℕ) → lost n ≡ false → AllByRecursion (λ c. lost c ≡ false) (children f n)) (told : ℕ → List Raise) (rows : AreRows f lost told) where
  abbrev D : ℕ → List Raise
  D = raises_of f

  before_it : (n : ℕ) → AreBefore n (children f n)
  before_it n = by (slice_get f.nodes n) refl
    where
      by : (its : Option Node) → slice_get f.nodes n ≡ its → AreBefore n (node_children f its)
      by None at = tt
      by (Some node) at = children_before f.nodes parsed.tree n node at

  -- all that stand before n and aren't lost
  abbrev AreSame : ℕ → Type 0
  AreSame n = (c : ℕ) → c < n → lost c ≡ false → HaveSame (told c) (D c)

  list_same : (n : ℕ) → AreSame n → (cs : List ℕ) → AreBefore n cs → AllByRecursion (λ c. lost c ≡ false) cs → HaveSame (flat_map told cs) (flat_map D cs)
  list_same n same [] l here = same_refl []
  list_same n same (c ∷ cs) l here = same_joined (told c) (flat_map told cs) (D c) (flat_map D cs) (same c l.0 here.0) (list_same n same cs l.1 here.1)

  inside_same : (n : ℕ) → AreSame n → (guards : Bool) → (cs : List ℕ) → children f n ≡ cs → AreBefore n cs → AllByRecursion (λ c. lost c ≡ false) cs → HaveSame (inside_as f told guards n) (inside_as f D guards n)
  unfolding inside_as
  inside_same n same false cs e l here = subst (λ (cs : List ℕ). HaveSame (flat_map told cs) (flat_map D cs)) (sym e) (list_same n same cs l here)
  inside_same n same true [] e l here =
      subst (λ (cs : List ℕ). HaveSame (passed_from f told n cs ++ flat_map told (tail_of cs)) (passed_from f D n cs ++ flat_map D (tail_of cs))) (sym e) (same_refl [])
  inside_same n same true (c ∷ cs) e l here =
      subst (λ (cs : List ℕ). HaveSame (passed_from f told n cs ++ flat_map told (tail_of cs)) (passed_from f D n cs ++ flat_map D (tail_of cs))) (sym e)
      (same_joined (passed_by f (item f n).statement (told c)) (flat_map told cs) (passed_by f (item f n).statement (D c)) (flat_map D cs)
      (passed_same f (item f n).statement (told c) (D c) (same c l.0 here.0)) (list_same n same cs l.1 here.1))

  row_same : (n : ℕ) → AreSame n → lost n ≡ false → HaveSame (row_of f told n) (row_of f D n)
  unfolding row_as
  row_same n same here = by (is_done_as (kind_at f.nodes n) (has_actuals f (item f n).expression))
    where
      by : (b : Bool) → HaveSame (if b then inside_as f told (guards_as (kind_at f.nodes n)) n ++ own_as f (kind_at f.nodes n) n else []) (if b then inside_as f D (guards_as (kind_at f.nodes n)) n ++ own_as f (kind_at f.nodes n) n else [])
      by true =
          same_joined (inside_as f told (guards_as (kind_at f.nodes n)) n) (own_as f (kind_at f.nodes n) n) (inside_as f D (guards_as (kind_at f.nodes n)) n) (own_as f (kind_at f.nodes n) n)
          (inside_same n same (guards_as (kind_at f.nodes n)) (children f n) refl (before_it n) (below n here)) (same_refl (own_as f (kind_at f.nodes n) n))
      by false = same_refl []

  node_same : (n : ℕ) → AreSame n → lost n ≡ false → HaveSame (told n) (D n)
  node_same n same here =
      same_trans (told n) (row_of f told n) (D n) (rows n here)
      (same_trans (row_of f told n) (row_of f D n) (D n) (row_same n same here) (same_from (row_of f D n) (D n) (sym (row_is t f parsed n))))

  all_same : (n : ℕ) → AreSame n
  all_same zero c l here = absurd (omega (arith, l))
  all_same (suc n) c l here = elim (cases_lt c n) [
    | inl less ↦ all_same n c less here
    | inr more ↦ (let same : n ≡ c = omega (arith, l, more) in subst (λ (c : ℕ). lost c ≡ false → HaveSame (told c) (D c)) same (node_same n (all_same n)) here)
  ]

  pub told_same : (n : ℕ) → lost n ≡ false → HaveSame (told n) (D n)
  told_same n here = node_same n (all_same n) here

-- ---- rules that ask of raises

pub arms_same : (f : File) (w : When) (taken : Taken) (xs ys : List Raise) → HaveSame xs ys → takes_raises f w taken xs ≡ takes_raises f w taken ys
arms_same f w (objects ds) xs ys same = same_all (takes_raise f (declared_types f ds)) (filter (is_named w.names) xs) (filter (is_named w.names) ys) (same_kept (is_named w.names) xs ys same)
arms_same f w any_objects xs ys same = refl

pub resignals_same : (f : File) (bad : ℕ → Bool) (n : ℕ) (names : List Identifier) (xs ys : List Raise) → HaveSame xs ys → list_all (raise_fits f bad n) (filter (is_named names) xs) ≡ list_all (raise_fits f bad n) (filter (is_named names) ys)
resignals_same f bad n names xs ys same = same_all (raise_fits f bad n) (filter (is_named names) xs) (filter (is_named names) ys) (same_kept (is_named names) xs ys same)
