-- What the table of names says that the first name of a node means is what it means.
use Rattle.std.proofs.Common.{◌≡◌, ◌∙◌, ◌⊎◌, ℕ, zero, suc, ◌+◌, ◌-◌, ◌^◌, ◌<◌, ◌≤◌, ◌==◌, Bool, true, false, if◌then◌else◌, List, [], ◌∷◌, ◌++◌, length, map, drop, get_or, Option, Some, None, slice_get, refl, ap, ap₂, sym, subst, inl, inr, arith, length-append}
use Rattle.std.specs.Prelude.{bytes_eq}
use Rattle.std.proofs.lemmas.Bool.{true≢false, cases_lt, and_parts}
use Rattle.std.proofs.lemmas.Slice.Eq.{bytes_eq-Decides}
use Rattle.std.proofs.lemmas.Option.{get_or_from_slice_get, slice_get_within, slice_get_past}
use Rattle.clu_tree.specs.declared.node.Node.{Node}
use Rattle.clu_tree.specs.declared.node.NodeKind.{NodeKind}
use Rattle.clu_tree.specs.declared.node.NodeKind.TheVariants as kind
use Rattle.clu_parser.specs.Trees.{Text}
use Rattle.clu_syntax.specs.declared.round.Round.{Round}
use Rattle.clu_syntax.specs.Rounds.{AreRounds}
use Rattle.clu_syntax.specs.Kinds.{kind_at}
use Rattle.clu_syntax.specs.Splits.{children_of, type_of}
use Rattle.clu_syntax.specs.Syntax.{Identifier}
use Rattle.clu_names.specs.declared.scopes.Declared.{Declared}
use Rattle.clu_names.specs.Scopes.{declarations}
use Rattle.clu_names.specs.Denotes.{found, names_in, is_open, stands_in}
use Rattle.clu_names.specs.Denotes as denotes
use Rattle.clu_names.specs.Latest.{IsBest, IsBestAt}
use Rattle.clu_names.proofs.Best.{found_is}
use Rattle.clu_names.proofs.Pieces.{starts_size, start_at}
use Rattle.clu_meaning.specs.Scoping as means
use Rattle.clu_meaning.specs.Scoping.{meaning_of, bound_at}
use Rattle.clu_checking.specs.Specifications.{Specification}
use Rattle.clu_checking.specs.Files.{File, scope_in}
use Rattle.clu_settle.specs.declared.meanings.Meaning.{Meaning as Settled}
use Rattle.clu_settle.specs.Names as settled
use Rattle.clu_settle.specs.Names.{names_of}
use Rattle.clu_settle.specs.Meant as settled_as
use Rattle.clu_settle.specs.Parameters.{count_in, counted_in, number_at, numbers_to}
use Rattle.clu_declares.specs.Declares.{IsParsed, AreFew}
use Rattle.clu_declares.proofs.Each.{name_meant}
use Rattle.clu_bindings.specs.declared.file.File.{File as Read}
use Rattle.clu_bindings.specs.declared.meaning.Meaning.{Meaning}
use Rattle.clu_bindings.specs.declared.meaning.Meaning.TheVariants as meant
use Rattle.clu_bindings.specs.declared.meaning.ModuleId.{ModuleId}
use Rattle.clu_bindings.specs.Bindings.{AreBindings}
use Rattle.clu_bindings.specs.Declaring as table
use Rattle.clu_bindings.specs.Files.{bound_in}
use Rattle.clu_bindings.specs.Modules.{named}
use Rattle.clu_bindings.specs.Readers.{meaning_in, module_of, module_in}
use Rattle.clu_bindings.specs.Tables.{items_at, table_to, joined_to}
use Rattle.clu_passes.specs.ConstantTables.{Means, file_with}
use Rattle.clu_passes.specs.Tables.{AreNames}
use Rattle.clu_passes.proofs.Tables.{bound_is}
use Rattle.clu_passes.proofs.Joined.{AreStarts, table_size, table_at, joined_at}
use Rattle.clu_passes.proofs.DeclaredMeans.{declared_means}

-- ---- tables of clu_settle as tables by number

module _ (nodes : List Node) (rounds : List Round) (ds : List Declared) where
  pub numbers_are : (m : ℕ) → numbers_to nodes rounds ds m ≡ table_to (λ p. number_at nodes rounds ds p (slice_get ds p)) m
  unfolding numbers_to table_to
  numbers_are zero = refl
  numbers_are (suc m) = ap (λ (xs : List ℕ). xs ++ number_at nodes rounds ds m (slice_get ds m) ∷ []) (numbers_are m)

  pub declared_are : (m : ℕ) → settled_as.declared_to nodes rounds ds m ≡ table_to (λ p. settled_as.declared_at nodes rounds ds p (slice_get ds p)) m
  unfolding settled_as.declared_to table_to
  declared_are zero = refl
  declared_are (suc m) = ap (λ (xs : List Settled). xs ++ settled_as.declared_at nodes rounds ds m (slice_get ds m) ∷ []) (declared_are m)

-- ---- what the names of a node denote

module _ (of : Identifier → Option ModuleId) (declared : List Meaning) where
  pub meant_none : (names : List Identifier) → table.meant_of of declared [] names ≡ []
  unfolding table.meant_of
  meant_none names = refl

  pub meant_more : (b : Option ℕ) (bs : List (Option ℕ)) (names : List Identifier) → table.meant_of of declared (b ∷ bs) names ≡ table.meant_by of declared b (slice_get names 0) ∷ table.meant_of of declared bs (drop 1 names)
  unfolding table.meant_of
  meant_more b bs names = refl

  meant_size : (bs : List (Option ℕ)) (names : List Identifier) → length (table.meant_of of declared bs names) ≡ length bs
  meant_size [] names = ap length (meant_none names)
  meant_size (b ∷ bs) names = ap length (meant_more b bs names) ∙ ap suc (meant_size bs (drop 1 names))

joined_none : (f : ℕ → List Meaning) → joined_to f 0 ≡ []
unfolding joined_to
joined_none f = refl

joined_next : (f : ℕ → List Meaning) (n : ℕ) → joined_to f (suc n) ≡ joined_to f n ++ f n
unfolding joined_to
joined_next f n = refl

bound_none : (nodes : List Node) (ds : List Declared) → denotes.bound_to nodes ds 0 ≡ []
unfolding denotes.bound_to
bound_none nodes ds = refl

bound_next : (nodes : List Node) (ds : List Declared) (n : ℕ) → denotes.bound_to nodes ds (suc n) ≡ denotes.bound_to nodes ds n ++ denotes.bound_at ds n (slice_get nodes n)
unfolding denotes.bound_to
bound_next nodes ds n = refl

-- ---- which module a declaration is

abbrev pub is_module_meant : means.Meaning → Bool
is_module_meant means.is_module = true
is_module_meant _ = false

by_meant : (nodes : List Node) (its : Meaning) (m : means.Meaning) (x : Option ModuleId) → Means nodes its m → ((own : Option ModuleId) → its ≡ meant.Module own → m ≡ means.is_module → own ≡ x) → module_of its ≡ (if is_module_meant m then x else None)
by_meant nodes (meant.Equate c) m x e same = sym (ap (λ (m : means.Meaning). if is_module_meant m then x else None) e.1)
by_meant nodes meant.TypeSet m x e same = sym (ap (λ (m : means.Meaning). if is_module_meant m then x else None) e)
by_meant nodes (meant.TypeParameter k) m x e same = sym (ap (λ (m : means.Meaning). if is_module_meant m then x else None) e)
by_meant nodes (meant.ConstantParameter k) m x e same = sym (ap (λ (m : means.Meaning). if is_module_meant m then x else None) e)
by_meant nodes (meant.Local c) m x e same = sym (ap (λ (m : means.Meaning). if is_module_meant m then x else None) e)
by_meant nodes (meant.OwnOfRoutine c) m x e same = sym (ap (λ (m : means.Meaning). if is_module_meant m then x else None) e)
by_meant nodes (meant.OwnOfCluster c) m x e same = sym (ap (λ (m : means.Meaning). if is_module_meant m then x else None) e)
by_meant nodes meant.RoutineOfCluster m x e same = sym (ap (λ (m : means.Meaning). if is_module_meant m then x else None) e)
by_meant nodes (meant.Module own) m x e same = same own refl e ∙ sym (ap (λ (m : means.Meaning). if is_module_meant m then x else None) e)

no_equate : (k : NodeKind) (c : ℕ) (own : Option ModuleId) → table.equated_by k c ≡ meant.Module own → ⊥
no_equate kind.TypeSet c own e = cc
no_equate kind.File c own e = cc
no_equate _ c own e = cc

no_parameter : (o : Option ℕ) (k : ℕ) (own : Option ModuleId) → table.parameter_as o k ≡ meant.Module own → ⊥
no_parameter None k own e = cc
no_parameter (Some t) k own e = cc

of_parameter : (b : Bool) (x : Option ModuleId) (o : Option ℕ) (k : ℕ) (own : Option ModuleId) → (if b then meant.Module x else table.parameter_as o k) ≡ meant.Module own → own ≡ x
of_parameter true x o k own e = cc
of_parameter false x o k own e = absurd (no_parameter o k own e)

of_definition : (x : Option ModuleId) (unit : Option ℕ) (own : Option ModuleId) → table.definition_in x unit ≡ meant.Module own → own ≡ x
of_definition x None own e = cc
of_definition x (Some u) own e = absurd (cc)

module _ (nodes : List Node) (rounds : List Round) (of : Identifier → Option ModuleId) (counts : List ℕ) (d : Declared) (m : means.Meaning) where
  other_than : {A : Type 0} → settled.is_other m ≡ true → m ≡ means.is_module → A
  other_than s e = absurd (true≢false (sym s ∙ ap settled.is_other e))

  of_equate : (cs : List ℕ) → settled.Means nodes (settled_as.right_of nodes cs) m → m ≡ means.is_module → (own : Option ModuleId) → table.right_of nodes cs ≡ meant.Module own → own ≡ of d.name
  of_equate [] s e own says = other_than s e
  of_equate (c ∷ cs) s e own says = absurd (no_equate (kind_at nodes c) c own says)

  -- a declaration of a module is that of its name
  own_module : (k : NodeKind) (count number : ℕ) → settled.Means nodes (settled_as.declared_in nodes k d.node d.unit count number) m → m ≡ means.is_module → (own : Option ModuleId) → table.declared_in nodes rounds of counts k (children_of (slice_get nodes d.node)) d number ≡ meant.Module own → own ≡ of d.name
  own_module kind.Equate count number s e own says = of_equate (children_of (slice_get nodes d.node)) s e own says
  own_module kind.Parm count number s e own says = of_parameter (number == 0) (of d.name) (type_of nodes (children_of (slice_get nodes d.node))) number own says
  own_module kind.TypeSet count number s e own says = absurd (cc)
  own_module kind.Routine count number s e own says = of_definition (of d.name) d.unit own says
  own_module kind.Cluster count number s e own says = of_definition (of d.name) d.unit own says
  own_module kind.File count number s e own says = other_than s e
  own_module _ count number s e own says = other_than s e

module _ (t : Text) (r : Read) (library : List Specification) (refused : List ℕ) (parsed : IsParsed t r.syntax.now) (are : AreRounds r.syntax.now r.rounds.now) (few : AreFew r.syntax.now r.rounds.now)
    (its_names : AreNames (file_with r (scope_in r.syntax.now r.rounds.now) library refused) r.names.now) (tables : AreBindings r.syntax.now r.rounds.now r.names.now r.values.now r.bindings.now) where
  abbrev nodes : List Node
  nodes = r.syntax.now

  abbrev rounds : List Round
  rounds = r.rounds.now

  abbrev ds : List Declared
  ds = declarations r.syntax.now r.rounds.now

  abbrev of : Identifier → Option ModuleId
  of = named r.bindings.now.modules

  abbrev counts : List ℕ
  counts = r.bindings.now.parameters.counts.items

  abbrev numbers : List ℕ
  numbers = r.bindings.now.parameters.numbers.items

  -- ---- what each declaration declares

  count_is : (o : Option ℕ) → count_in counts o ≡ counted_in nodes rounds ds o (length ds)
  count_is None = refl
  count_is (Some u) = tables.parameters.counts u ∙ ap (λ (ds : List Declared). counted_in nodes rounds ds (Some u) (length ds)) its_names.declared

  number_is : (p : ℕ) → p < length ds → get_or numbers p 0 ≡ number_at nodes rounds ds p (slice_get ds p)
  number_is p l =
      ap (λ (xs : List ℕ). get_or xs p 0) (tables.parameters.numbers ∙ ap (λ (ds : List Declared). numbers_to nodes rounds ds (length ds)) its_names.declared ∙ numbers_are nodes rounds ds (length ds))
      ∙ get_or_from_slice_get (table_to (λ p. number_at nodes rounds ds p (slice_get ds p)) (length ds)) p (number_at nodes rounds ds p (slice_get ds p)) 0 (table_at (λ p. number_at nodes rounds ds p (slice_get ds p)) (length ds) p l)

  abbrev pub at : ℕ → Meaning
  at p = table.declared_at nodes rounds of counts (get_or numbers p 0) (slice_get ds p)

  table_is : r.bindings.now.declared.items ≡ table_to at (length ds)
  table_is = tables.declared ∙ ap (λ (ds : List Declared). table.declared_of nodes rounds of counts numbers ds) its_names.declared

  pub there : (p : ℕ) → p < length ds → get_or r.bindings.now.declared.items p table.nothing ≡ at p
  there p l = ap (λ (xs : List Meaning). get_or xs p table.nothing) table_is ∙ get_or_from_slice_get (table_to at (length ds)) p (at p) table.nothing (table_at at (length ds) p l)

  settled_there : (p : ℕ) → p < length ds → slice_get (settled_as.declared_to nodes rounds ds (length ds)) p ≡ Some (settled_as.declared_at nodes rounds ds p (slice_get ds p))
  settled_there p l = ap (λ (xs : List Settled). slice_get xs p) (declared_are nodes rounds ds (length ds)) ∙ table_at (λ p. settled_as.declared_at nodes rounds ds p (slice_get ds p)) (length ds) p l

  settled_none : (p : ℕ) → length ds ≤ p → slice_get (settled_as.declared_to nodes rounds ds (length ds)) p ≡ None
  settled_none p l =
      let size : length (table_to (λ p. settled_as.declared_at nodes rounds ds p (slice_get ds p)) (length ds)) ≡ length ds = table_size (λ p. settled_as.declared_at nodes rounds ds p (slice_get ds p)) (length ds) in
      ap (λ (xs : List Settled). slice_get xs p) (declared_are nodes rounds ds (length ds))
      ∙ slice_get_past (table_to (λ p. settled_as.declared_at nodes rounds ds p (slice_get ds p)) (length ds)) p (omega (arith, size, l))

  -- ---- what a name means that is bound so

  abbrev MeansSo : Option ℕ → Option Declared → Type 0
  MeansSo o d = settled.Means nodes (settled_as.bound_to_one (settled_as.declared_to nodes rounds ds (length ds)) o) (means.declared_at (scope_in nodes rounds) o d).1

  declaration_means : (p : ℕ) (d : Declared) → slice_get ds p ≡ Some d → MeansSo (Some p) (Some d) → Means nodes (table.declared_at nodes rounds of counts (number_at nodes rounds ds p (Some d)) (Some d)) (bound_at (scope_in nodes rounds).bindings d.node d.name)
  declaration_means p d e s =
      let told : settled_as.bound_to_one (settled_as.declared_to nodes rounds ds (length ds)) (Some p) ≡ settled_as.declared_at nodes rounds ds p (Some d) =
      ap settled.meaning_in (settled_there p (slice_get_within ds p d e)) ∙ ap (settled_as.declared_at nodes rounds ds p) e in
      declared_means t nodes rounds parsed are of counts d (counted_in nodes rounds ds d.unit (length ds)) (number_at nodes rounds ds p (Some d)) (count_is d.unit)
      (subst (λ (m : Settled). settled.Means nodes m (bound_at (scope_in nodes rounds).bindings d.node d.name)) told s)

  place_means : (p : ℕ) (d : Declared) (x : Option Identifier) → slice_get ds p ≡ Some d → MeansSo (Some p) (Some d) → Means nodes (table.meant_by of r.bindings.now.declared.items (Some p) x) (bound_at (scope_in nodes rounds).bindings d.node d.name)
  place_means p d x e s =
      let l : p < length ds = slice_get_within ds p d e in
      let its : get_or r.bindings.now.declared.items p table.nothing ≡ table.declared_at nodes rounds of counts (number_at nodes rounds ds p (Some d)) (Some d) =
      there p l ∙ ap₂ (table.declared_at nodes rounds of counts) (number_is p l ∙ ap (number_at nodes rounds ds p) e) e in
      subst (λ (m : Meaning). Means nodes m (bound_at (scope_in nodes rounds).bindings d.node d.name)) (sym its) (declaration_means p d e s)

  -- what the declaration declares to which a name is bound
  pub found_means : (n p : ℕ) (name : Identifier) (d : Declared) → found ds name n ≡ Some p → slice_get ds p ≡ Some d → Means nodes (table.declared_at nodes rounds of counts (number_at nodes rounds ds p (Some d)) (Some d)) (bound_at (scope_in nodes rounds).bindings d.node d.name)
  found_means n p name d f e =
      declaration_means p d e
      (subst (MeansSo (Some p)) e
      (subst (λ (o : Option ℕ). MeansSo o (means.declaration_at (scope_in nodes rounds) o)) f (name_meant t nodes rounds parsed are few n name)))

  bound_means : (x : Option Identifier) (o : Option ℕ) → MeansSo o (means.declaration_at (scope_in nodes rounds) o) → Means nodes (table.meant_by of r.bindings.now.declared.items o x) (means.declared_at (scope_in nodes rounds) o (means.declaration_at (scope_in nodes rounds) o)).1
  bound_means None None s = s
  bound_means (Some name) None s = s
  bound_means x (Some p) s = by (slice_get ds p) refl s
    where
      by : (d : Option Declared) → slice_get ds p ≡ d → MeansSo (Some p) d → Means nodes (table.meant_by of r.bindings.now.declared.items (Some p) x) (means.declared_at (scope_in nodes rounds) (Some p) d).1
      by (Some d) e s = place_means p d x e s
      by None e s = by_past (cases_lt p (length ds))
        where
          by_past : (p < length ds) ⊎ (length ds ≤ p) → Means nodes (table.meant_by of r.bindings.now.declared.items (Some p) x) means.is_module
          by_past (inl less) =
              subst (λ (m : Meaning). Means nodes m means.is_module) (sym (there p less ∙ ap (table.declared_at nodes rounds of counts (get_or numbers p 0)) e)) refl
          by_past (inr past) =
              let never : settled.is_other means.is_module ≡ true = subst (λ (m : Settled). settled.Means nodes m means.is_module) (ap settled.meaning_in (settled_none p past)) s in
              absurd (true≢false (sym never))

  pub name_means : (n : ℕ) (name : Identifier) (x : Option Identifier) → Means nodes (table.meant_by of r.bindings.now.declared.items (found ds name n) x) (meaning_of (scope_in nodes rounds) n name)
  name_means n name x = bound_means x (found ds name n) (name_meant t nodes rounds parsed are few n name)

  -- ---- the table of names

  abbrev meant_there : ℕ → List Meaning
  meant_there n = table.meant_at of r.bindings.now.declared.items nodes r.names.now n

  pub bound_there : (n : ℕ) → bound_in r.names.now n ≡ denotes.bound_at ds n (slice_get nodes n)
  bound_there n = bound_is (file_with r (scope_in nodes rounds) library refused) r.names.now its_names n

  same_size : (n : ℕ) → length (joined_to meant_there n) ≡ length (denotes.bound_to nodes ds n)
  same_size zero = ap length (joined_none meant_there) ∙ sym (ap length (bound_none nodes ds))
  same_size (suc n) =
      ap length (joined_next meant_there n) ∙ length-append (joined_to meant_there n) (meant_there n)
      ∙ ap₂ (λ (a b : ℕ). a + b) (same_size n) (meant_size of r.bindings.now.declared.items (bound_in r.names.now n) (names_of (slice_get nodes n)) ∙ ap length (bound_there n))
      ∙ sym (ap length (bound_next nodes ds n) ∙ length-append (denotes.bound_to nodes ds n) (denotes.bound_at ds n (slice_get nodes n)))

  starts : AreStarts meant_there r.names.now.starts.items (length nodes)
  starts = record {
    size = ap length its_names.starts ∙ starts_size nodes ds (length nodes);
    at = λ n l. ap (λ (xs : List ℕ). slice_get xs n) its_names.starts ∙ start_at nodes ds (length nodes) n l ∙ ap Some (sym (same_size n));
  }

  pub bound_first : (n : ℕ) (node : Node) (name : Identifier) (rest : List Identifier) → slice_get nodes n ≡ Some node → names_in node.kind node ≡ name ∷ rest → bound_in r.names.now n ≡ found ds name n ∷ map (λ name. found ds name n) rest
  bound_first n node name rest at e = bound_there n ∙ ap (denotes.bound_at ds n) at ∙ ap (map (λ name. found ds name n)) e

  pub meanings_there : (n : ℕ) → n < length nodes → items_at r.bindings.now.meanings.items r.names.now.starts.items n ≡ meant_there n
  meanings_there n l = ap (λ (xs : List Meaning). items_at xs r.names.now.starts.items n) tables.meanings ∙ joined_at meant_there r.names.now.starts.items (length nodes) n starts l

  -- the lists of a node that has a name
  pub meant_first : (n : ℕ) (node : Node) (name : Identifier) (rest : List Identifier) → slice_get nodes n ≡ Some node → names_in node.kind node ≡ name ∷ rest
      → items_at r.bindings.now.meanings.items r.names.now.starts.items n ≡ table.meant_by of r.bindings.now.declared.items (found ds name n) (slice_get (names_of (slice_get nodes n)) 0) ∷ table.meant_of of r.bindings.now.declared.items (map (λ name. found ds name n) rest) (drop 1 (names_of (slice_get nodes n)))
  meant_first n node name rest at e =
      meanings_there n (slice_get_within nodes n node at)
      ∙ ap (λ (bs : List (Option ℕ)). table.meant_of of r.bindings.now.declared.items bs (names_of (slice_get nodes n))) (bound_first n node name rest at e)
      ∙ meant_more of r.bindings.now.declared.items (found ds name n) (map (λ name. found ds name n) rest) (names_of (slice_get nodes n))

  -- what the table says of the first name of a node
  pub first_is : (n : ℕ) (node : Node) (name : Identifier) (rest : List Identifier) → slice_get nodes n ≡ Some node → names_in node.kind node ≡ name ∷ rest → meaning_in r n ≡ table.meant_by of r.bindings.now.declared.items (found ds name n) (slice_get (names_of (slice_get nodes n)) 0)
  first_is n node name rest at e = ap (λ (xs : List Meaning). get_or xs 0 (meant.Module None)) (meant_first n node name rest at e)

  -- what the first name of a node means
  pub first_means : (n : ℕ) (node : Node) (name : Identifier) (rest : List Identifier) → slice_get nodes n ≡ Some node → names_in node.kind node ≡ name ∷ rest → Means nodes (meaning_in r n) (meaning_of (scope_in nodes rounds) n name)
  first_means n node name rest at e =
      subst (λ (m : Meaning). Means nodes m (meaning_of (scope_in nodes rounds) n name)) (sym (first_is n node name rest at e)) (name_means n name (slice_get (names_of (slice_get nodes n)) 0))

  -- ---- which module it is, if it is one

  abbrev named_if : means.Meaning → Identifier → Option ModuleId
  named_if m name = if is_module_meant m then of name else None

  -- that of a declaration
  declared_module : (p : ℕ) (d : Declared) → slice_get ds p ≡ Some d → MeansSo (Some p) (Some d) → module_of (table.meant_by of r.bindings.now.declared.items (Some p) None) ≡ named_if (bound_at (scope_in nodes rounds).bindings d.node d.name) d.name
  declared_module p d e s =
      let m : means.Meaning = bound_at (scope_in nodes rounds).bindings d.node d.name in
      let l : p < length ds = slice_get_within ds p d e in
      let told : settled_as.bound_to_one (settled_as.declared_to nodes rounds ds (length ds)) (Some p) ≡ settled_as.declared_at nodes rounds ds p (Some d) =
      ap settled.meaning_in (settled_there p l) ∙ ap (settled_as.declared_at nodes rounds ds p) e in
      let its : get_or r.bindings.now.declared.items p table.nothing ≡ table.declared_at nodes rounds of counts (number_at nodes rounds ds p (Some d)) (Some d) =
      there p l ∙ ap₂ (table.declared_at nodes rounds of counts) (number_is p l ∙ ap (number_at nodes rounds ds p) e) e in
      ap module_of its
      ∙ by_meant nodes (table.declared_at nodes rounds of counts (number_at nodes rounds ds p (Some d)) (Some d)) m (of d.name) (declaration_means p d e s)
      (λ its says is. own_module nodes rounds of counts d m (kind_at nodes d.node) (counted_in nodes rounds ds d.unit (length ds)) (number_at nodes rounds ds p (Some d)) (subst (λ (x : Settled). settled.Means nodes x m) told s) is its says)

  bound_module : (n : ℕ) (name : Identifier) (o : Option ℕ) → found ds name n ≡ o → module_of (table.meant_by of r.bindings.now.declared.items o (Some name)) ≡ named_if (means.declared_at (scope_in nodes rounds) o (means.declaration_at (scope_in nodes rounds) o)).1 name
  bound_module n name None e = refl
  bound_module n name (Some p) e = at_place (subst (IsBest (λ j x. is_open name n x ≡ true) ds) e (found_is ds name n))
    where
      same_name : (d : Declared) → is_open name n d ≡ true → d.name ≡ name
      same_name d o = (bytes_eq-Decides d.name name).0 (and_parts (bytes_eq d.name name) (stands_in d.unit d.from d.to n) o).0

      at_place : (d : Declared) × IsBestAt (λ j x. is_open name n x ≡ true) ds p d → module_of (table.meant_by of r.bindings.now.declared.items (Some p) (Some name)) ≡ named_if (means.declared_at (scope_in nodes rounds) (Some p) (slice_get ds p)).1 name
      at_place (d, best) =
          declared_module p d best.there
          (subst (MeansSo (Some p)) best.there (subst (λ (o : Option ℕ). MeansSo o (means.declaration_at (scope_in nodes rounds) o)) e (name_meant t nodes rounds parsed are few n name)))
          ∙ ap (named_if (bound_at (scope_in nodes rounds).bindings d.node d.name)) (same_name d best.passes)
          ∙ sym (ap (λ (o : Option Declared). named_if (means.declared_at (scope_in nodes rounds) (Some p) o).1 name) best.there)

  -- of a node that has the name itself
  pub first_module : (n : ℕ) (node : Node) (name : Identifier) (rest : List Identifier) → slice_get nodes n ≡ Some node → names_in node.kind node ≡ name ∷ rest → slice_get node.names 0 ≡ Some name → module_in r n ≡ (if is_module_meant (meaning_of (scope_in nodes rounds) n name) then of name else None)
  first_module n node name rest at e first =
      ap module_of (first_is n node name rest at e)
      ∙ ap (λ (x : Option Identifier). module_of (table.meant_by of r.bindings.now.declared.items (found ds name n) x)) (ap (λ (its : Option Node). slice_get (names_of its) 0) at ∙ first)
      ∙ bound_module n name (found ds name n) refl
