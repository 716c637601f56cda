-- What names of a module mean where the variable of one of its type sets stands for another parameter: what they mean, with that
-- parameter put in for the number of the variable, which no other name of the module has.
use Rattle.std.proofs.Common.{◌≡◌, ◌∙◌, ℕ, zero, suc, ◌+◌, ◌-◌, ◌^◌, ◌<◌, ◌≤◌, ◌==◌, ◌&&◌, ◌||◌, min, Bool, true, false, if◌then◌else◌, List, [], ◌∷◌, length, take, Option, Some, None, refl, sym, ap, subst, arith, eqb-true, eq-eqb}
use Rattle.std.specs.Prelude.{bytes_eq, slice_get}
use Rattle.std.specs.List.{AllByRecursion}
use Rattle.std.proofs.lemmas.Bool.{true≢false, and_parts}
use Rattle.std.proofs.lemmas.Option.{slice_get_within}
use Rattle.clu_tree.specs.declared.node.Node.{Node}
use Rattle.clu_tree.specs.declared.node.NodeKind.{NodeKind}
use Rattle.clu_tree.specs.declared.node.NodeKind.TheVariants as kind
use Rattle.clu_parser.specs.Trees.{Text}
use Rattle.clu_types.specs.CluType.{Actuals, parameter}
use Rattle.clu_types.specs.Substituted.{type_put}
use Rattle.clu_syntax.specs.declared.round.Round.{Round}
use Rattle.clu_syntax.specs.Kinds.{kind_at, kind_of}
use Rattle.clu_syntax.specs.Rounds.{AreRounds, round_at}
use Rattle.clu_syntax.specs.Splits.{children_of, first_name}
use Rattle.clu_syntax.specs.Syntax.{Identifier, TypeExpression, TypeSet}
use Rattle.clu_syntax.specs.Items.{Item}
use Rattle.clu_syntax.specs.Nodes.{before, item_at, type_set_of}
use Rattle.clu_names.specs.declared.scopes.Declared.{Declared}
use Rattle.clu_names.specs.Denotes.{found, is_open}
use Rattle.clu_names.specs.Latest.{IsBest, IsBestAt, is_local}
use Rattle.clu_names.specs.Scopes.{declarations, next}
use Rattle.clu_names.proofs.Best.{found_is}
use Rattle.clu_meaning.specs.Scoping.{Meaning, is_equate, is_type_parameter, is_module, Bindings, binding, Scope, bound_at, declared_at, declaration_at, meaning_of}
use Rattle.clu_checking.specs.Files.{scope_in, variable_number}
use Rattle.clu_settle.specs.declared.meanings.Meaning.{Meaning as Known}
use Rattle.clu_settle.specs.declared.meanings.Meaning.TheVariants as known
use Rattle.clu_settle.specs.Meant as meant
use Rattle.clu_settle.specs.Names.{Means, is_other, meaning_in}
use Rattle.clu_settle.specs.Parameters.{is_counted, is_parameter, counted, counted_in, number_at}
use Rattle.clu_declares.specs.Declares.{AreFew, IsParsed, has, declared_by, declared_in, of_set_variable}
use Rattle.clu_declares.proofs.Amounts.{amount, counted_is}
use Rattle.clu_declares.proofs.Below.{item_there}
use Rattle.clu_declares.proofs.Each.{name_meant}
use Rattle.clu_declares.proofs.Rights.{right_file}
use Rattle.clu_name_rules.specs.Closed.{is_definition}
use Rattle.clu_passes.proofs.Joined.{table_at}
use Rattle.clu_passes.proofs.NamesIn.{AreNamesIn, names_in}
use Rattle.clu_passes.proofs.NamesMean.{declared_are}
use Rattle.clu_passes.proofs.PutMeanings.{ConstantIn, IsPutMeaning}
use Rattle.clu_passes.proofs.Units.{is_inner, no_file, modules_declared}
use Rattle.clu_passes.proofs.Within.{StandsIn, children_stand, inner_unit, open_there}

-- ---- bindings

none_has : (bs : Bindings) (n : ℕ) (name : Identifier) → has bs n name ≡ false → bound_at bs n name ≡ is_module
none_has [] n name e = refl
none_has (b ∷ bs) n name e = by (b.node == n && bytes_eq b.name name) (λ f. none_has bs n name f) e
  where
    by : (x : Bool) → (has bs n name ≡ false → bound_at bs n name ≡ is_module) → (x || has bs n name) ≡ false → (if x then b.meaning else bound_at bs n name) ≡ is_module
    by true more e = absurd (true≢false e)
    by false more e = more e

-- ---- how many parameters are counted

module _ (nodes : List Node) (rounds : List Round) (ds : List Declared) (u : ℕ) where
  counted_next : (p : ℕ) → counted nodes rounds ds u (suc p) ≡ (if is_counted nodes rounds u (slice_get ds p) then next (counted nodes rounds ds u p) else counted nodes rounds ds u p)
  unfolding counted
  counted_next p = refl

  counted_none : counted nodes rounds ds u 0 ≡ 0
  unfolding counted
  counted_none = refl

  bounded : (p : ℕ) → counted nodes rounds ds u p ≤ 2 ^ 32 - 1
  bounded zero = let none = counted_none in omega (arith, none)
  bounded (suc p) = subst (λ (x : ℕ). x ≤ 2 ^ 32 - 1) (sym (counted_next p)) (by (is_counted nodes rounds u (slice_get ds p)) (bounded p))
    where
      by : (b : Bool) → counted nodes rounds ds u p ≤ 2 ^ 32 - 1 → (if b then next (counted nodes rounds ds u p) else counted nodes rounds ds u p) ≤ 2 ^ 32 - 1
      by true l = omega arith
      by false l = l

  grows_once : (p : ℕ) → counted nodes rounds ds u p ≤ counted nodes rounds ds u (suc p)
  grows_once p = subst (λ (x : ℕ). counted nodes rounds ds u p ≤ x) (sym (counted_next p)) (by (is_counted nodes rounds u (slice_get ds p)) (bounded p))
    where
      by : (b : Bool) → counted nodes rounds ds u p ≤ 2 ^ 32 - 1 → counted nodes rounds ds u p ≤ (if b then next (counted nodes rounds ds u p) else counted nodes rounds ds u p)
      by true l = omega (arith, l)
      by false l = omega arith

  grows_by : (more p : ℕ) → counted nodes rounds ds u p ≤ counted nodes rounds ds u (p + more)
  grows_by zero p = let same : counted nodes rounds ds u (p + 0) ≡ counted nodes rounds ds u p = ap (counted nodes rounds ds u) (omega arith) in omega (arith, same)
  grows_by (suc more) p =
      let same : counted nodes rounds ds u (p + suc more) ≡ counted nodes rounds ds u (suc (p + more)) = ap (counted nodes rounds ds u) (omega arith) in
      let before : counted nodes rounds ds u p ≤ counted nodes rounds ds u (p + more) = grows_by more p in
      let step : counted nodes rounds ds u (p + more) ≤ counted nodes rounds ds u (suc (p + more)) = grows_once (p + more) in
      omega (arith, same, before, step)

  counted_upto : (p q : ℕ) → p ≤ q → counted nodes rounds ds u p ≤ counted nodes rounds ds u q
  counted_upto p q l =
      let same : counted nodes rounds ds u (p + (q - p)) ≡ counted nodes rounds ds u q = ap (counted nodes rounds ds u) (omega (arith, l)) in
      let grown : counted nodes rounds ds u p ≤ counted nodes rounds ds u (p + (q - p)) = grows_by (q - p) p in
      omega (arith, same, grown)

module _ (t : Text) (nodes : List Node) (rounds : List Round) (parsed : IsParsed t nodes) (are : AreRounds nodes rounds) (few : AreFew nodes rounds) where
  abbrev ds : List Declared
  ds = declarations nodes rounds

  abbrev scope : Scope
  scope = scope_in nodes rounds

  abbrev table : List Known
  table = meant.declared_to nodes rounds ds (length ds)

  few_nodes : length nodes < 2 ^ 32
  few_nodes = omega (arith, few)

  few_ds : length ds < 2 ^ 32
  few_ds = omega (arith, few)

  -- ---- the nodes of a module

  abbrev pub Stands : ℕ → ℕ → Type 0
  Stands u c = StandsIn t nodes rounds parsed are u c

  pub inner_there : (n : ℕ) → is_inner (kind_at nodes n) ≡ true → (node : Node) × (slice_get nodes n ≡ Some node)
  inner_there n i = by (slice_get nodes n) refl i
    where
      by : (its : Option Node) → slice_get nodes n ≡ its → is_inner (kind_of its) ≡ true → (node : Node) × (slice_get nodes n ≡ Some node)
      by (Some node) at i = (node, at)
      by None at i = absurd (true≢false (sym i))

  pub children_in : (u n : ℕ) (node : Node) → slice_get nodes n ≡ Some node → Stands u n → AllByRecursion (Stands u) node.children
  children_in u n node at p =
      let i : is_inner node.kind ≡ true = ap is_inner (sym (ap kind_of at)) ∙ p.1 in
      children_stand t nodes rounds parsed are u n node at (no_file node.kind i) (inner_unit t nodes rounds parsed are node.kind n (round_at rounds n) i ∙ p.0)

  -- all names in what a node of the module is stand in it
  pub names_stand : (u n : ℕ) → Stands u n → AreNamesIn nodes parsed.tree parsed.forms (Stands u) (λ m p. inner_there m p.1) (children_in u) n
  names_stand u n p = names_in nodes parsed.tree parsed.forms (Stands u) (λ m p. inner_there m p.1) (children_in u) n p

  -- ---- a type set of the module

  module _ (u s : ℕ) (node : Node) (at : slice_get nodes s ≡ Some node) (is : node.kind ≡ kind.TypeSet) (unit : (round_at rounds s).unit ≡ Some u) where
    abbrev amount_of : ℕ
    amount_of = counted nodes rounds ds u (length ds)

    -- the number of its variable
    abbrev pub variable : ℕ
    variable = suc s + amount_of

    amount_small : amount_of ≤ length ds
    amount_small =
        let c = counted_is nodes rounds ds few_ds u (length ds) (omega arith) in
        let e : amount_of ≡ amount nodes rounds u (take (length ds) ds) = c.0 in
        let l : amount nodes rounds u (take (length ds) ds) ≤ length ds = c.1 in
        omega (arith, e, l)

    -- so is that of a type set of the module
    pub number_small : (n : ℕ) → n < length nodes → suc n + amount_of < 2 ^ 32
    number_small n inside = omega (arith, inside, few, amount_small)

    number_of_set : (n : ℕ) → n < length nodes → min (next n + amount_of) (2 ^ 32 - 1) ≡ suc n + amount_of
    number_of_set n inside = let small = number_small n inside in omega (arith, small)

    inside : s < length nodes
    inside = slice_get_within nodes s node at

    set_kind : kind_at nodes s ≡ kind.TypeSet
    set_kind = ap kind_of at ∙ is

    -- ---- meanings that the variable has not

    abbrev Fine : Meaning → Type 0
    Fine (is_equate c) = ConstantIn (Stands u) c
    Fine (is_type_parameter j) = j ≡ variable → ⊥
    Fine _ = Unit {0}

    abbrev FineKnown : Known → Type 0
    FineKnown (known.Equate right) = Stands u right
    FineKnown (known.TypeParameter j) = j ≡ variable → ⊥
    FineKnown _ = Unit {0}

    fine_other : (m : Meaning) → is_other m ≡ true → Fine m
    fine_other (is_equate c) e = absurd (true≢false (sym e))
    fine_other (is_type_parameter j) e = absurd (true≢false (sym e))
    fine_other _ e = tt

    fine_meant : (its : Known) (m : Meaning) → Means nodes its m → FineKnown its → Fine m
    fine_meant (known.Equate right) m s fine = subst Fine (sym s.2) (names_stand u right fine).constant
    fine_meant (known.TypeParameter j) m s fine = subst Fine (sym s) fine
    fine_meant (known.ConstantParameter j) m s fine = subst Fine (sym s) tt
    fine_meant known.Module m s fine = subst Fine (sym s) tt
    fine_meant known.Other m s fine = fine_other m s

    -- ---- what is declared in the module beside it

    by_equate : (k : NodeKind) (c : ℕ) → Stands u c → FineKnown (meant.equated_by k c)
    by_equate kind.TypeSet c p = tt
    by_equate _ c p = p

    right_side : (cs : List ℕ) → AllByRecursion (Stands u) cs → FineKnown (meant.right_of nodes cs)
    right_side [] ps = tt
    right_side (c ∷ cs) ps = by_equate (kind_at nodes c) c ps.0

    by_right : (its : Option Node) (n : ℕ) → slice_get nodes n ≡ its → Stands u n → FineKnown (meant.right_of nodes (children_of its))
    by_right None n here p = tt
    by_right (Some outer) n here p = right_side outer.children (children_in u n outer here p)

    by_parameter : (type : Option TypeExpression) (number : ℕ) → number ≤ amount_of → (b : Bool) → FineKnown (if b then known.Module else meant.parameter_as type number)
    by_parameter type number l true = tt
    by_parameter None number l false = λ e. omega (arith, l, e)
    by_parameter (Some type) number l false = tt

    by_definition : (o : Option ℕ) → FineKnown (meant.definition_in o)
    by_definition (Some v) = tt
    by_definition None = tt

    module _ (place : ℕ) (d : Declared) (here : slice_get ds place ≡ Some d) where
      abbrev number : ℕ
      number = number_at nodes rounds ds place (Some d)

      abbrev Declares : NodeKind → Type 0
      Declares k = FineKnown (meant.declared_in nodes k d.node d.unit (counted_in nodes rounds ds d.unit (length ds)) number)

      -- a module is one that no module declares
      of_module : (k : NodeKind) → is_definition k ≡ true → Declares k
      of_module kind.Routine e = by_definition d.unit
      of_module kind.Cluster e = by_definition d.unit
      of_module _ e = absurd (true≢false (sym e))

      module _ (its : d.unit ≡ Some u) (stands : Stands u d.node) where
        amount_same : counted_in nodes rounds ds d.unit (length ds) ≡ amount_of
        amount_same = ap (λ (o : Option ℕ). counted_in nodes rounds ds o (length ds)) its

        number_within : number ≤ amount_of
        number_within = by (is_parameter nodes rounds d.node)
          where
            upto : counted_in nodes rounds ds d.unit (suc place) ≤ amount_of
            upto =
                let same : counted_in nodes rounds ds d.unit (suc place) ≡ counted nodes rounds ds u (suc place) = ap (λ (o : Option ℕ). counted_in nodes rounds ds o (suc place)) its in
                let within : place < length ds = slice_get_within ds place d here in
                let most : counted nodes rounds ds u (suc place) ≤ amount_of = counted_upto nodes rounds ds u (suc place) (length ds) (omega (arith, within)) in
                omega (arith, same, most)

            by : (b : Bool) → (if b then counted_in nodes rounds ds d.unit (suc place) else 0) ≤ amount_of
            by true = upto
            by false = omega arith

        set_number : min (next d.node + counted_in nodes rounds ds d.unit (length ds)) (2 ^ 32 - 1) ≡ suc d.node + amount_of
        set_number =
            let there = inner_there d.node stands.1 in
            ap (λ (x : ℕ). min (next d.node + x) (2 ^ 32 - 1)) amount_same ∙ number_of_set d.node (slice_get_within nodes d.node there.0 there.1)

        -- of another node than this set, or of no set
        of_unit : (k : NodeKind) → (k ≡ kind.TypeSet → d.node ≡ s → ⊥) → Declares k
        of_unit kind.Equate apart = by_right (slice_get nodes d.node) d.node refl stands
        of_unit kind.Parm apart = by_parameter (item_at nodes d.node).parameter.type number number_within (number == 0)
        of_unit kind.TypeSet apart = λ e. (let same = set_number in apart refl (omega (arith, same, e)))
        of_unit kind.Routine apart = by_definition d.unit
        of_unit kind.Cluster apart = by_definition d.unit
        of_unit _ apart = tt

    -- ---- the name of the variable

    abbrev its_name : Identifier
    its_name = first_name node.names

    its_set : (item_at nodes s).type_set ≡ type_set_of (before s (item_at nodes)) nodes s node kind.TypeSet
    its_set = ap (λ (i : Item). i.type_set) (item_there nodes s node at) ∙ ap (type_set_of (before s (item_at nodes)) nodes s node) is

    declared_set : declared_by nodes rounds s ≡ binding s (is_type_parameter (variable_number nodes rounds s)) its_name ∷ []
    declared_set = ap (λ (k : NodeKind). declared_in nodes rounds k s) set_kind ∙ ap (of_set_variable (variable_number nodes rounds s) s) its_set

    module_apart : (j : ℕ) → is_module ≡ is_type_parameter j → ⊥
    module_apart j e = cc

    name_is : (name : Identifier) (j : ℕ) → bound_at scope.bindings s name ≡ is_type_parameter j → bytes_eq its_name name ≡ true
    name_is name j e = by (has scope.bindings s name) refl
      where
        own : (b : Bool) → (s == s && bytes_eq its_name name) ≡ b → (if b then is_type_parameter (variable_number nodes rounds s) else is_module) ≡ is_type_parameter j → bytes_eq its_name name ≡ true
        own true e f = (and_parts (s == s) (bytes_eq its_name name) e).1
        own false e f = absurd (module_apart j f)

        by : (b : Bool) → has scope.bindings s name ≡ b → bytes_eq its_name name ≡ true
        by false none = absurd (module_apart j (sym (none_has scope.bindings s name none) ∙ e))
        by true some = own (s == s && bytes_eq its_name name) refl (ap (λ (bs : Bindings). bound_at bs s name) (sym declared_set) ∙ sym (right_file t nodes rounds parsed are s name some) ∙ e)

    -- ---- with another parameter in the place of its variable

    module _ (given : Actuals) (p : ℕ) (put : type_put given variable ≡ parameter p) (others : (j : ℕ) → (j ≡ variable → ⊥) → type_put given j ≡ parameter j) where
      abbrev pub bindings : Bindings
      bindings = binding s (is_type_parameter p) its_name ∷ scope.bindings

      abbrev pub changed : Scope
      changed = record scope { bindings = bindings }

      abbrev IsPut : Meaning → Meaning → Type 0
      IsPut m other = IsPutMeaning (Stands u) given m other

      kept : (m : Meaning) → Fine m → IsPut m m
      kept (is_equate c) fine = (refl, fine)
      kept (is_type_parameter j) fine = (j, refl, others j fine)
      kept _ fine = refl

      module _ (n : ℕ) (name : Identifier) (stands : Stands u n) (place : ℕ) (d : Declared) (here : slice_get ds place ≡ Some d) (opened : is_open name n d ≡ true)
          (means : Means nodes (meant.declared_at nodes rounds ds place (Some d)) (bound_at scope.bindings d.node d.name)) where
        fine_unless : (kind_at nodes d.node ≡ kind.TypeSet → d.node ≡ s → ⊥) → Fine (bound_at scope.bindings d.node d.name)
        fine_unless apart = fine_meant (meant.declared_at nodes rounds ds place (Some d)) (bound_at scope.bindings d.node d.name) means (by d.unit refl)
          where
            by : (o : Option ℕ) → d.unit ≡ o → FineKnown (meant.declared_at nodes rounds ds place (Some d))
            by None e = of_module place d here (kind_at nodes d.node) (modules_declared t nodes rounds parsed are place d here (ap is_local e))
            by (Some v) e =
                let its = open_there t nodes rounds parsed are few_nodes u n name stands place d here opened v e in
                of_unit place d here its.0 its.1 (kind_at nodes d.node) apart

        -- at the set itself
        its_parameter : d.node ≡ s → bound_at scope.bindings d.node d.name ≡ is_type_parameter variable
        its_parameter same = by d.unit refl
          where
            of_set : kind_at nodes d.node ≡ kind.TypeSet
            of_set = ap (kind_at nodes) same ∙ set_kind

            by : (o : Option ℕ) → d.unit ≡ o → bound_at scope.bindings d.node d.name ≡ is_type_parameter variable
            by None e = absurd (true≢false (sym (modules_declared t nodes rounds parsed are place d here (ap is_local e)) ∙ ap is_definition of_set))
            by (Some v) e =
                let its = open_there t nodes rounds parsed are few_nodes u n name stands place d here opened v e in
                subst (λ (k : NodeKind). Means nodes (meant.declared_in nodes k d.node d.unit (counted_in nodes rounds ds d.unit (length ds)) (number place d here)) (bound_at scope.bindings d.node d.name)) of_set means
                ∙ ap is_type_parameter (set_number place d here its.0 its.1 ∙ ap (λ (x : ℕ). suc x + amount_of) same)

        declared_put : IsPut (bound_at scope.bindings d.node d.name) (bound_at bindings d.node d.name)
        declared_put = by (s == d.node && bytes_eq its_name d.name) refl
          where
            by : (b : Bool) → (s == d.node && bytes_eq its_name d.name) ≡ b → IsPut (bound_at scope.bindings d.node d.name) (if b then is_type_parameter p else bound_at scope.bindings d.node d.name)
            by true e =
                let same : d.node ≡ s = sym (eqb-true s d.node (and_parts (s == d.node) (bytes_eq its_name d.name) e).0) in
                subst (λ (m : Meaning). IsPut m (is_type_parameter p)) (sym (its_parameter same)) (p, refl, put)
            by false e =
                kept (bound_at scope.bindings d.node d.name) (fine_unless (λ of_set same.
                (let named : bytes_eq its_name d.name ≡ true = name_is d.name variable (ap (λ (x : ℕ). bound_at scope.bindings x d.name) (sym same) ∙ its_parameter same) in
                true≢false (sym (ap (λ (b : Bool). b && bytes_eq its_name d.name) (eq-eqb s d.node (sym same)) ∙ named) ∙ e))))

      table_there : (place : ℕ) (d : Declared) → slice_get ds place ≡ Some d → meant.bound_to_one table (Some place) ≡ meant.declared_at nodes rounds ds place (Some d)
      table_there place d here =
          ap meaning_in (ap (λ (xs : List Known). slice_get xs place) (declared_are nodes rounds ds (length ds)) ∙ table_at (λ q. meant.declared_at nodes rounds ds q (slice_get ds q)) (length ds) place (slice_get_within ds place d here))
          ∙ ap (meant.declared_at nodes rounds ds place) here

      abbrev Denoted : Option ℕ → Option Declared → Type 0
      Denoted o its = IsPut (declared_at scope o its).1 (declared_at changed o its).1

      found_put : (n : ℕ) (name : Identifier) → Stands u n → (o : Option ℕ) → IsBest (λ i d. is_open name n d ≡ true) ds o → Means nodes (meant.bound_to_one table o) (declared_at scope o (declaration_at scope o)).1 → Denoted o (declaration_at scope o)
      found_put n name stands None best means = refl
      found_put n name stands (Some place) best means = at_place best
        where
          at_place : (d : Declared) × IsBestAt (λ i d. is_open name n d ≡ true) ds place d → Denoted (Some place) (slice_get ds place)
          at_place (d, its) =
              subst (Denoted (Some place)) (sym its.there)
              (declared_put n name stands place d its.there its.passes
              (subst (λ (m : Known). Means nodes m (bound_at scope.bindings d.node d.name)) (table_there place d its.there)
              (subst (λ (o : Option Declared). Means nodes (meant.bound_to_one table (Some place)) (declared_at scope (Some place) o).1) its.there means)))

      pub names_put : (n : ℕ) (name : Identifier) → Stands u n → IsPutMeaning (Stands u) given (meaning_of scope n name) (meaning_of changed n name)
      names_put n name stands = found_put n name stands (found ds name n) (found_is ds name n) (name_meant t nodes rounds parsed are few n name)
