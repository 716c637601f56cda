-- The names with actual parameters at a node, as the tables have them: of which kinds the actual parameters are, and which type the module
-- has with them.
use Rattle.std.proofs.Common.{◌≡◌, ◌∙◌, ◌⊎◌, inl, inr, ℕ, ◌<◌, ◌≤◌, ◌&&◌, ◌||◌, Bool, true, false, if◌then◌else◌, List, [], ◌∷◌, length, drop, Option, Some, None, refl, sym, ap, ap₂, subst, arith}
use Rattle.std.specs.Prelude.{not}
use Rattle.std.specs.List.{AllByRecursion}
use Rattle.std.proofs.lemmas.Bool.{true≢false, and_parts}
use Rattle.clu_types.specs.declared.spec.ParamKind.{ParamKind}
use Rattle.clu_types.specs.declared.term.TypeId.{TypeId}
use Rattle.clu_types.specs.declared.term.Term.{Term}
use Rattle.clu_types.specs.Arena.{Grows, types_of, type_at}
use Rattle.clu_types.proofs.Arenas.{types_grown}
use Rattle.clu_types.proofs.Carrying.{length_grows}
use Rattle.clu_tree.specs.declared.node.Node.{Node}
use Rattle.clu_tree.specs.declared.node.NodeKind.{NodeKind}
use Rattle.clu_tree.specs.declared.node.NodeKind.TheVariants as kind
use Rattle.clu_tree.specs.Nodes.{IsTree}
use Rattle.clu_parser.specs.Shape.{HaveForms}
use Rattle.clu_syntax.specs.Kinds.{kind_at, is_expression, is_type}
use Rattle.clu_syntax.specs.Slots.{slots, any}
use Rattle.clu_syntax.specs.Slots.{is_constant as is_constant_kind}
use Rattle.clu_syntax.specs.Splits.{child, children_of, first_name}
use Rattle.clu_syntax.specs.Syntax.{Identifier, Expression, a_name, an_index, Constants, TypeExpression, a_named_type}
use Rattle.clu_syntax.specs.Items.{Item, constants_at}
use Rattle.clu_syntax.specs.Nodes.{before, item_at, expression_of, type_expression_of}
use Rattle.clu_names.specs.Scopes.{is_stream}
use Rattle.clu_meaning.specs.Scoping as means
use Rattle.clu_meaning.specs.Scoping.{Scope}
use Rattle.clu_meaning.specs.Settling.{actuals_settled, module_type, settled, type_in, type_settled, value_of_meaning}
use Rattle.clu_checking.specs.Specifications.{Specification}
use Rattle.clu_checking.specs.Files.{File, denotes_module, is_kept, is_of_module, is_own_module, item, meaning, node_names}
use Rattle.clu_checking.specs.Headings.{specification}
use Rattle.clu_checking.specs.Typing as typing
use Rattle.clu_checking.specs.Wanted as wants
use Rattle.clu_checking.specs.Wanted.{Named, Wanted, first_name_at, kinds_of}
use Rattle.clu_settle.specs.declared.value.Value.{Value}
use Rattle.clu_settle.specs.declared.value.Value.TheVariants as value
use Rattle.clu_settle.specs.Lists.{type_id}
use Rattle.clu_settle.proofs.Parts.{before_is}
use Rattle.clu_settle.proofs.Shapes.{AreParts, first_part, all_parts, any_fits}
use Rattle.clu_declares.proofs.Below.{same_kind}
use Rattle.clu_declares.proofs.Facts.{There, there}
use Rattle.clu_head.specs.ParameterKinds as head
use Rattle.clu_bindings.specs.declared.file.File.{File as Read}
use Rattle.clu_bindings.specs.declared.file.Headed.{Headed}
use Rattle.clu_bindings.specs.declared.meaning.Meaning.{Meaning}
use Rattle.clu_bindings.specs.declared.meaning.Meaning.TheVariants as meant
use Rattle.clu_bindings.specs.declared.meaning.ModuleId.{ModuleId}
use Rattle.clu_bindings.specs.declared.wanted.Wanted.{Wanted as WantedThere}
use Rattle.clu_bindings.specs.declared.wanted.Wanted.TheVariants as wanted
use Rattle.clu_bindings.specs.Named as named
use Rattle.clu_bindings.specs.Readers as read
use Rattle.clu_bindings.specs.Readers.{children_in, declared_parameter, meaning_in, value_in, wanted_in}
use Rattle.clu_name_rules.specs.declared.tables.Tables.{Tables}
use Rattle.clu_operations.specs.Finding.{IsBelowIf}
use Rattle.clu_operations.proofs.Once.{item_extends}
use Rattle.clu_passes.specs.ConstantTables.{AreTables, IsEquateKnown, IsFirstKnown, IsIndexKnown, IsKnown, IsMeant, Means, file_with, wanted_told}
use Rattle.clu_passes.specs.FactTables.{IsType}
use Rattle.clu_passes.specs.NamesKnown.{HasTypes, IsNameKnown}
use Rattle.clu_passes.proofs.Actuals.{Known, fit_same, no_named, type_known}
use Rattle.clu_passes.proofs.ConstantNodes as so
use Rattle.clu_passes.proofs.ConstantNodes.{a_name_at, its_item, name_or_none}

-- ---- kinds of values, while there are more types

module _ (r : Read) (first types : List Term) (grows : Grows first types) (values : (k : ℕ) → IsBelowIf (length first) (type_id (value_in r k))) where
  kind_stays : (of : Option TypeId) → IsBelowIf (length first) of → head.kind_of_type types of ≡ head.kind_of_type first of
  kind_stays None below = refl
  kind_stays (Some id) below = ap head.kind_in (item_extends first types grows id.0 below)

  parameter_stays : (o : Option ℕ) → (named.type_of_parameter r types o ≡ named.type_of_parameter r first o) × IsBelowIf (length first) (named.type_of_parameter r first o)
  parameter_stays None = (refl, tt)
  parameter_stays (Some c) = (ap (named.legal_type (type_id (value_in r c))) (kind_stays (type_id (value_in r c)) (values c)), legal (head.kind_of_type first (type_id (value_in r c))))
    where
      legal : (k : Option ParamKind) → IsBelowIf (length first) (named.legal_type (type_id (value_in r c)) k)
      legal (Some k) = values c
      legal None = tt

  value_stays : (n : ℕ) (v : Value) → named.value_kind r types n v ≡ named.value_kind r first n v
  value_stays n value.Nothing = refl
  value_stays n value.Lost = refl
  value_stays n (value.Type id) = refl
  value_stays n (value.Constant place) = refl
  value_stays n (value.Parameter number) =
      ap (head.kind_of_type types) (parameter_stays (declared_parameter r n number)).0 ∙ kind_stays (named.parameter_type r first n number) (parameter_stays (declared_parameter r n number)).1

  pub fit_stays : (n : ℕ) (ks : List (Option ParamKind)) (cs : List ℕ) → named.kinds_fit r types n ks cs ≡ named.kinds_fit r first n ks cs
  fit_stays n [] [] = refl
  fit_stays n [] (c ∷ cs) = refl
  fit_stays n (k ∷ ks) [] = refl
  fit_stays n (k ∷ ks) (c ∷ cs) = ap₂ (λ (a b : Bool). a && b) (ap (named.same_kind k) (value_stays n (value_in r c))) (fit_stays n ks cs)

-- ---- what means a module

module_meant : (f : File) (x : means.Meaning) → denotes_module f x ≡ true → x ≡ means.is_module
module_meant f means.is_module e = refl
module_meant f means.is_type_set e = absurd (true≢false (sym e))
module_meant f _ e = absurd (true≢false (sym e))

meant_by : (f : File) (nodes : List Node) (a : Meaning) (x : means.Meaning) → Means nodes a x → denotes_module f x ≡ true → (id : Option ModuleId) × (a ≡ meant.Module id)
meant_by f nodes (meant.Module id) x e is = (id, refl)
meant_by f nodes (meant.Equate c) x e is = absurd (true≢false (sym is ∙ ap (denotes_module f) e.1))
meant_by f nodes meant.TypeSet x e is = absurd (true≢false (sym is ∙ ap (denotes_module f) e))
meant_by f nodes (meant.TypeParameter k) x e is = absurd (true≢false (sym is ∙ ap (denotes_module f) e))
meant_by f nodes (meant.ConstantParameter k) x e is = absurd (true≢false (sym is ∙ ap (denotes_module f) e))
meant_by f nodes (meant.Local c) x e is = absurd (true≢false (sym is ∙ ap (denotes_module f) e))
meant_by f nodes (meant.OwnOfRoutine c) x e is = absurd (true≢false (sym is ∙ ap (denotes_module f) e))
meant_by f nodes (meant.OwnOfCluster c) x e is = absurd (true≢false (sym is ∙ ap (denotes_module f) e))
meant_by f nodes meant.RoutineOfCluster x e is = absurd (true≢false (sym is ∙ ap (denotes_module f) e))

denotes : (f : File) (n : ℕ) (name : Identifier) → is_of_module f n name ≡ true → denotes_module f (meaning f n name) ≡ true
denotes f n name is =
    (and_parts (denotes_module f (meaning f n name)) (not (is_stream name)) (and_parts (denotes_module f (meaning f n name) && not (is_stream name)) (is_own_module f name || is_kept f name) is).0).0

module _ (h : Headed) (its : Tables) (scope : Scope) (library : List Specification) (refused : List ℕ) where
  abbrev r : Read
  r = h.file

  abbrev t : Tables
  t = record its { file = h.file }

  abbrev f : File
  f = file_with h.file scope library refused

  abbrev nodes : List Node
  nodes = h.file.syntax.now

  -- what stands in the brackets of a node
  abbrev constants_of : ℕ → List ℕ → Constants
  constants_of n cs = constants_at (before n (item_at nodes)) cs

  -- ---- one name, by the types at two times

  pub record IsNamedSo (early late : List Term) (n : ℕ) (x : Named) (c : ℕ) (cs : List ℕ) : Type 0 where
    pub node : x.node ≡ c
    pub name : x.name ≡ first_name_at f c
    pub kind : (kind_at nodes c ≡ kind.Name) ⊎ (kind_at nodes c ≡ kind.NameT)
    pub fits : is_of_module f c (first_name_at f c) ≡ true → wants.has_fitting_kinds f x ≡ named.has_fitting_kinds r early c cs
    pub instance : is_of_module f c (first_name_at f c) ≡ true → IsType late (type_id (value_in r n)) (Some (module_type x.name (actuals_settled scope x.constants)))

  -- the only one of a node, or none
  abbrev pub AreNamedSo : List Term → List Term → ℕ → List Named → Option (ℕ × List ℕ) → Type 0
  AreNamedSo early late n [] None = Unit {0}
  AreNamedSo early late n (x ∷ []) (Some m) = IsNamedSo early late n x m.0 m.1
  AreNamedSo early late n _ _ = ⊥

  module _ (shaped : HaveForms nodes) (tree : IsTree nodes) (are : AreTables f t) (first : List Term) (grows : Grows first its.types.now) (values : (k : ℕ) → IsBelowIf (length first) (type_id (value_in r k)))
      (early late : List Term) (to_early : Grows first early) (to_late : Grows first late) where
    fits_so : (n m : ℕ) (name : Identifier) (cs : List ℕ) → IsMeant f r n name → AreParts nodes is_constant_kind m cs → AllByRecursion (IsKnown r) cs → is_of_module f n name ≡ true
        → wants.has_fitting_kinds f (record { node = n; name = name; constants = constants_at (before m (item_at nodes)) cs }) ≡ named.has_fitting_kinds r early n cs
    fits_so n m name cs is parts known module_ =
        fit_same t scope library refused shaped tree are n m (kinds_of (specification f name)) cs parts known
        ∙ fit_stays r first its.types.now grows values n (kinds_of (specification f name)) cs
        ∙ sym (fit_stays r first early to_early values n (kinds_of (specification f name)) cs)
        ∙ ap (λ (ks : List (Option ParamKind)). named.kinds_fit r early n ks cs) (sym (is.kinds are.legal ∙ ap (λ (b : Bool). if b then kinds_of (specification f name) else []) module_))

    module _ (items : ℕ → Item) (n : ℕ) (typed : is_expression (kind_at nodes n) ≡ true → HasTypes f h items late n (item f n).expression) where
      -- ---- a name alone

      alone : kind_at nodes n ≡ kind.Name → AreNamedSo early late n (wants.named_by f (item f n).expression) (Some (n, []))
      alone is =
          let its_expression : (item f n).expression ≡ a_name n (first_name_at f n) = a_name_at t scope library refused n is in
          subst (λ (e : Expression). AreNamedSo early late n (wants.named_by f e) (Some (n, []))) (sym its_expression)
          (record {
            node = refl;
            name = refl;
            kind = inl is;
            fits = fits_so n n (first_name_at f n) [] (are.named n is) tt tt;
            instance = λ module_.
                (let types : IsNameKnown f h items late n n (first_name_at f n) = subst (HasTypes f h items late n) its_expression (typed (ap is_expression is)) in
                let one : (id : Option ModuleId) × (meaning_in r n ≡ meant.Module id) = meant_by f nodes (meaning_in r n) (meaning f n (first_name_at f n)) types.means (denotes f n (first_name_at f n) module_) in
                types.instance one.0 one.1);
          })

      name_so : kind_at nodes n ≡ kind.Name → (w : WantedThere) → AreNamedSo early late n (wants.named_as f kind.Name (wanted_told w) n) (named.named_alone w n)
      name_so is wanted.NameWithActuals = tt
      name_so is wanted.Object = alone is
      name_so is wanted.Objects = alone is
      name_so is wanted.LoopCall = alone is
      name_so is wanted.Constant = alone is
      name_so is wanted.Type = alone is
      name_so is wanted.Nothing = alone is

      -- ---- before brackets

      bracketed : (c : ℕ) (cs : List ℕ) → (item f n).expression ≡ an_index n (item f c).expression (constants_at (before n (item_at nodes)) cs) → is_expression (kind_at nodes n) ≡ true → AreParts nodes is_constant_kind n cs → AllByRecursion (IsKnown r) cs
          → IsEquateKnown r (meaning_in r c) → so.AName t scope library refused c ⊎ so.NoName t scope library refused c → AreNamedSo early late n (wants.named_by f (item f n).expression) (named.named_before r (c ∷ cs))
      bracketed c cs whole is parts known equated (inl x) =
          subst (λ (e : Expression). AreNamedSo early late n (wants.named_by f e) (named.named_before r (c ∷ cs))) (sym its_expression)
          (subst (λ (b : Bool). AreNamedSo early late n (wants.named_by f (an_index n (a_name c (first_name_at f c)) (constants_of n cs))) (if b then Some (c, cs) else None)) (sym takes) (by (typing.takes_actuals f c (first_name_at f c)) refl))
        where
          its_expression : (item f n).expression ≡ an_index n (a_name c (first_name_at f c)) (constants_of n cs)
          its_expression = whole ∙ ap (λ (e : Expression). an_index n e (constants_of n cs)) x.expression

          takes : read.takes_actuals r c ≡ typing.takes_actuals f c (first_name_at f c)
          takes = are.takers c equated ∙ ap (λ (b : Bool). b && typing.takes_actuals f c (first_name_at f c)) x.is

          types : HasTypes f h items late n (an_index n (a_name c (first_name_at f c)) (constants_of n cs))
          types = subst (HasTypes f h items late n) its_expression (typed is)

          by : (b : Bool) → typing.takes_actuals f c (first_name_at f c) ≡ b
              → AreNamedSo early late n (if b then record { node = c; name = first_name_at f c; constants = constants_of n cs } ∷ [] else []) (if b then Some (c, cs) else None)
          by true e = record {
            node = refl;
            name = refl;
            kind = inl (same_kind kind.Name (kind_at nodes c) x.is);
            fits = fits_so c n (first_name_at f c) cs (are.named c (same_kind kind.Name (kind_at nodes c) x.is)) parts known;
            instance = λ module_. types.2 (types.1 ∙ denotes f c (first_name_at f c) module_);
          }
          by false e = tt
      bracketed c cs whole is parts known equated (inr x) =
          subst (λ (e : Expression). AreNamedSo early late n (wants.named_by f e) (named.named_before r (c ∷ cs))) (sym whole)
          (subst (λ (xs : List Named). AreNamedSo early late n xs (named.named_before r (c ∷ cs))) (sym (no_named t scope library refused shaped tree are n (item f c).expression (constants_at (before n (item_at nodes)) cs) x.expression))
          (subst (λ (b : Bool). AreNamedSo early late n [] (if b then Some (c, cs) else None)) (sym (are.takers c equated ∙ ap (λ (b : Bool). b && typing.takes_actuals f c (first_name_at f c)) x.is)) tt))

      index_so : kind_at nodes n ≡ kind.Index → AllByRecursion (IsKnown r) (children_in r n) → IsIndexKnown r n → AreNamedSo early late n (wants.named_by f (item f n).expression) (named.named_before r (children_in r n))
      index_so is known brackets =
          let x = there nodes n kind.Index refl is in
          let part = first_part nodes tree shaped is_expression (any is_constant_kind ∷ []) n x.node x.at (ap slots x.is) in
          let c : ℕ = child 0 x.node in
          let cs : List ℕ = drop 1 x.node.children in
          let whole : children_in r n ≡ c ∷ cs = ap children_of x.at ∙ part.is in
          let all : AllByRecursion (IsKnown r) (c ∷ cs) = subst (AllByRecursion (IsKnown r)) whole known in
          let its_expression : (item f n).expression ≡ an_index n (item f c).expression (constants_at (before n (item_at nodes)) cs) =
          ap (λ (i : Item). i.expression) (its_item nodes n kind.Index x)
          ∙ ap (expression_of (before n (item_at nodes)) nodes n x.node) x.is
          ∙ ap (λ (i : Item). an_index n i.expression (constants_at (before n (item_at nodes)) cs)) (before_is nodes n c part.first.0) in
          subst (λ (xs : List ℕ). AreNamedSo early late n (wants.named_by f (item f n).expression) (named.named_before r xs)) (sym whole)
          (bracketed c cs its_expression (ap is_expression is) (any_fits nodes is_constant_kind n cs part.before part.rest) all.1 (subst (IsFirstKnown r) whole (brackets is)) (name_or_none t scope library refused c part.first.1))

      -- ---- of a type

      type_so : kind_at nodes n ≡ kind.NameT → AllByRecursion (IsKnown r) (children_in r n) → IsKnown r n → AreNamedSo early late n (wants.named_by_type f (item f n).type) (Some (n, children_in r n))
      type_so is known here =
          subst (λ (e : TypeExpression). AreNamedSo early late n (wants.named_by_type f e) (Some (n, children_in r n))) (sym its_type)
          (record {
            node = refl;
            name = refl;
            kind = inr is;
            fits = λ module_.
                fits_so n n (first_name_at f n) x.node.children (are.named_types n is) (all_parts nodes tree shaped is_constant_kind n x.node x.at (ap slots x.is)) (subst (AllByRecursion (IsKnown r)) whole known) module_
                ∙ ap (named.has_fitting_kinds r early n) (sym whole);
            instance = λ module_. instance module_ (type_known t scope library refused shaped tree are n (ap is_type is) here);
          })
        where
          x : There nodes n kind.NameT
          x = there nodes n kind.NameT refl is

          whole : children_in r n ≡ x.node.children
          whole = ap children_of x.at

          its_type : (item f n).type ≡ a_named_type n (first_name_at f n) (constants_of n x.node.children)
          its_type =
              ap (λ (i : Item). i.type) (its_item nodes n kind.NameT x)
              ∙ ap (type_expression_of (before n (item_at nodes)) nodes n x.node) x.is
              ∙ ap (λ (o : Option Node). a_named_type n (first_name (node_names f o)) (constants_of n x.node.children)) (sym x.at)

          instance : is_of_module f n (first_name_at f n) ≡ true → Known t scope library refused shaped tree are n → IsType late (type_id (value_in r n)) (Some (module_type (first_name_at f n) (actuals_settled scope (constants_of n x.node.children))))
          instance module_ k =
              let below : k.id.0 < length first = subst (IsBelowIf (length first)) k.value (values n) in
              let told : module_type (first_name_at f n) (actuals_settled scope (constants_of n x.node.children)) ≡ type_at (types_of late) k.id =
              sym
              (ap (type_settled scope) its_type
              ∙ ap (λ (m : means.Meaning). type_in (value_of_meaning scope (settled scope) (first_name_at f n) (actuals_settled scope (constants_of n x.node.children)) m)) (module_meant f (meaning f n (first_name_at f n)) (denotes f n (first_name_at f n) module_)))
              ∙ k.type
              ∙ types_grown first its.types.now grows k.id below
              ∙ sym (types_grown first late to_late k.id below) in
              let more : length first ≤ length late = length_grows first late to_late in
              subst (λ (o : Option TypeId). IsType late o (Some (module_type (first_name_at f n) (actuals_settled scope (constants_of n x.node.children))))) (sym k.value) (omega (arith, below, more), told)

      -- ---- by kinds

      pub named_so : (k : NodeKind) → kind_at nodes n ≡ k → wanted_told (wanted_in r n) ≡ wants.wanted f n → (k ≡ kind.Index → AllByRecursion (IsKnown r) (children_in r n) × IsIndexKnown r n) → (k ≡ kind.NameT → AllByRecursion (IsKnown r) (children_in r n) × IsKnown r n)
          → AreNamedSo early late n (wants.named_as f k (wants.wanted f n) n) (named.named_by r k n)
      named_so kind.Name is wanted_is index type = subst (λ (w : Wanted). AreNamedSo early late n (wants.named_as f kind.Name w n) (named.named_alone (wanted_in r n) n)) wanted_is (name_so is (wanted_in r n))
      named_so kind.Index is wanted_is index type = index_so is (index refl).0 (index refl).1
      named_so kind.NameT is wanted_is index type = type_so is (type refl).0 (type refl).1
      named_so _ is wanted_is index type = tt
