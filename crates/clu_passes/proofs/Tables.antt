-- The names of a node as the tables of all nodes give them.
use Rattle.std.proofs.Common.{◌≡◌, ◌∙◌, ◌⊎◌, ℕ, suc, ◌+◌, ◌-◌, ◌<◌, ◌≤◌, nat_le, Bool, ◌&&◌, if◌then◌else◌, List, [], length, take, drop, Option, inl, inr, refl, sym, ap, arith}
use Rattle.std.specs.Prelude.{slice_get}
use Rattle.std.proofs.lemmas.Bool.{cases_lt, le-leb}
use Rattle.std.proofs.lemmas.Option.{slice_get_past}
use Rattle.clu_tree.specs.declared.node.Node.{Node}
use Rattle.clu_names.specs.declared.scopes.Declared.{Declared}
use Rattle.clu_names.specs.declared.binding.Names.{Names}
use Rattle.clu_names.specs.Denotes.{bound_at, bound_to, starts_to, end_in, end_of}
use Rattle.clu_names.proofs.Pieces.{starts_size, start_at, end_at, within, piece}
use Rattle.clu_checking.specs.Files.{File}
use Rattle.clu_bindings.specs.Tables.{between, items_at}
use Rattle.clu_bindings.specs.Files.{bound_in}
use Rattle.clu_passes.specs.Tables.{AreNames}

pub between_is : {A : Type 0} (items : List A) (from to : ℕ) → from ≤ to → to ≤ length items → between items from to ≡ take (to - from) (drop from items)
between_is items from to a b =
    ap (λ (t : Bool). if t && nat_le to (length items) then take (to - from) (drop from items) else []) (le-leb from to a)
    ∙ ap (λ (t : Bool). if t then take (to - from) (drop from items) else []) (le-leb to (length items) b)

module _ (nodes : List Node) (ds : List Declared) where
  abbrev all : List (Option ℕ)
  all = bound_to nodes ds (length nodes)

  abbrev starts : List ℕ
  starts = starts_to nodes ds (length nodes)

  cut_is : (from to n : ℕ) → end_in (slice_get starts n) (length all) ≡ from → end_of starts (length all) n ≡ to → items_at all starts n ≡ between all from to
  unfolding items_at
  cut_is from to n a b = ap (λ (k : ℕ). between all k (end_of starts (length all) n)) a ∙ ap (λ (k : ℕ). between all from k) b

  inside : (n : ℕ) → n < length nodes → items_at all starts n ≡ bound_at ds n (slice_get nodes n)
  inside n less =
      let from : end_in (slice_get starts n) (length all) ≡ length (bound_to nodes ds n) = ap (λ (o : Option ℕ). end_in o (length all)) (start_at nodes ds (length nodes) n less) in
      let to : end_of starts (length all) n ≡ length (bound_to nodes ds (suc n)) = end_at nodes ds n (length nodes) (length all) less refl in
      let fits = within nodes ds n (length nodes) less in
      cut_is (length (bound_to nodes ds n)) (length (bound_to nodes ds (suc n))) n from to
      ∙ between_is all (length (bound_to nodes ds n)) (length (bound_to nodes ds (suc n))) fits.0 fits.1
      ∙ piece nodes ds n (length nodes) less

  past : (n : ℕ) → length nodes ≤ n → items_at all starts n ≡ bound_at ds n (slice_get nodes n)
  past n more =
      let size : length starts ≡ length nodes = starts_size nodes ds (length nodes) in
      let from : end_in (slice_get starts n) (length all) ≡ length all = ap (λ (o : Option ℕ). end_in o (length all)) (slice_get_past starts n (omega (arith, size))) in
      let to : end_of starts (length all) n ≡ length all = ap (λ (o : Option ℕ). end_in o (length all)) (slice_get_past starts (n + 1) (omega (arith, size))) in
      let none : length all - length all ≡ 0 = omega arith in
      cut_is (length all) (length all) n from to
      ∙ between_is all (length all) (length all) (omega arith) (omega arith)
      ∙ ap (λ (k : ℕ). take k (drop (length all) all)) none
      ∙ ap (λ (its : Option Node). bound_at ds n its) (sym (slice_get_past nodes n more))

  items_are : (n : ℕ) → items_at all starts n ≡ bound_at ds n (slice_get nodes n)
  items_are n = by (cases_lt n (length nodes))
    where
      by : (n < length nodes) ⊎ (length nodes ≤ n) → items_at all starts n ≡ bound_at ds n (slice_get nodes n)
      by (inl less) = inside n less
      by (inr more) = past n more

pub bound_is : (f : File) (names : Names) → AreNames f names → (n : ℕ) → bound_in names n ≡ bound_at f.scope.declarations n (slice_get f.nodes n)
bound_is f names are n =
    ap (λ (xs : List (Option ℕ)). items_at xs names.starts.items n) are.bound
    ∙ ap (λ (xs : List ℕ). items_at (bound_to f.nodes f.scope.declarations (length f.nodes)) xs n) are.starts
    ∙ items_are f.nodes f.scope.declarations n
