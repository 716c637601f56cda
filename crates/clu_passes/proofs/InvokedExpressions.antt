-- Where nothing is lost, what is noted as invoked at an expression that is no call is what the definitions say: the operation of its sugar or
-- of its type, or the module that it names.
use Rattle.std.proofs.Common.{◌≡◌, ◌∙◌, ℕ, Bool, true, false, if◌then◌else◌, List, [], ◌∷◌, codes, slice_get, Option, Some, None, refl, sym, ap, subst}
use Rattle.std.specs.Option.{option_or}
use Rattle.std.proofs.lemmas.Bool.{true≢false}
use Rattle.clu_types.specs.CluType.{Actuals, CluType, cluster_of, no_actuals, parameter}
use Rattle.clu_types.specs.Arena.{IsArena, types_of}
use Rattle.clu_types.specs.declared.term.Term.{Term}
use Rattle.clu_types.specs.declared.term.TypeId.{TypeId}
use Rattle.clu_operations.specs.declared.shapes.Shape.{Shape}
use Rattle.clu_operations.specs.Shapes.{shape_in, shape_of}
use Rattle.clu_syntax.specs.Nodes.{item_at}
use Rattle.clu_syntax.specs.Syntax.{Constants, Identifier}
use Rattle.clu_meaning.specs.Constants.{Sugar, is_cand, is_cor, is_operation, is_negated}
use Rattle.clu_meaning.specs.Scoping as means
use Rattle.clu_meaning.specs.Settling.{actuals_settled, module_type}
use Rattle.clu_checking.specs.Files.{File, denotes_module, meaning}
use Rattle.clu_checking.specs.Invoked as meant
use Rattle.clu_checking.specs.Headings.{own_type}
use Rattle.clu_checking.specs.Typing.{name_type, takes_actuals}
use Rattle.clu_bindings.specs.declared.file.Headed.{Headed}
use Rattle.clu_bindings.specs.declared.meaning.Meaning.{Meaning}
use Rattle.clu_bindings.specs.declared.meaning.Meaning.TheVariants as table
use Rattle.clu_bindings.specs.declared.meaning.ModuleId.{ModuleId}
use Rattle.clu_bindings.specs.Named.{named_before}
use Rattle.clu_bindings.specs.Readers.{children_in, meaning_in, value_in}
use Rattle.clu_settle.specs.Lists.{type_id}
use Rattle.clu_typing.specs.declared.applied.Use.{Use}
use Rattle.clu_typing.specs.declared.applied.Applied.{Applied}
use Rattle.clu_typing.specs.declared.applied.Applied.TheVariants as applied
use Rattle.clu_typing.specs.declared.facts.Facts.{Facts}
use Rattle.clu_typing.specs.declared.facts.Invoked.{Invoked}
use Rattle.clu_typing.specs.Found.{IsInvokedTold, IsNamedTold, IsAppliedTold}
use Rattle.clu_typing.specs.Invoked.{by_applied, instance_by, instance_of, operation_by}
use Rattle.clu_typing.specs.Nodes.{first_is_module, first_takes_actuals, has_actuals, is_module, names_module}
use Rattle.clu_typing.specs.Stands.{index_stands, name_stands}
use Rattle.clu_typing.specs.Typing.{IsType}
use Rattle.clu_passes.specs.ConstantTables.{Means}
use Rattle.clu_passes.specs.InvokedSaid.{IsSaid, IsSaidIf}
use Rattle.clu_passes.specs.StandsFor.{IsIndex, IsNamed, IsOwnNamed, IsSugar}
use Rattle.clu_passes.specs.Sugar.{operation_of}
use Rattle.clu_passes.proofs.FactTypes.{IsTerm, term_of_type}
use Rattle.clu_passes.proofs.OperationsFound.{shape_by, shape_same}

-- an operation by its name, if there is one
abbrev pub by_operation : Option Identifier → Option CluType → Option meant.Invoked
by_operation (Some name) t = meant.by_sugar name t
by_operation None t = None

pub infix_meant : (s : Sugar) (t : Option CluType) → meant.by_infix s t ≡ by_operation (operation_of s) t
infix_meant is_cand t = refl
infix_meant is_cor t = refl
infix_meant (is_operation name) t = refl
infix_meant (is_negated name) t = refl

module _ (f : File) (h : Headed) (terms : List Term) (arena : IsArena terms) (facts : Facts) (n : ℕ) where
  abbrev words : List (List ℕ)
  words = facts.finding.words

  abbrev Said : Option Invoked → Option meant.Invoked → Type 0
  Said noted i = IsSaidIf terms words noted i

  -- ---- the operation of a type

  use_said : (it : Use) (t : CluType) (name : Identifier) → IsType terms (Some it.of) (Some t) → slice_get words it.name.0 ≡ Some name → IsSaid terms words (operation_by (shape_of terms it.of) it.of it.name) (meant.operation_of t name)
  use_said it t name is at =
      let its : IsTerm terms it.of t = term_of_type terms arena it.of t is.0 is.1 in
      let shape : shape_of terms it.of ≡ shape_by t = ap shape_in its.there ∙ shape_same (types_of terms) its.its ∙ ap shape_by (sym its.is) in
      subst (λ (s : Shape). IsSaid terms words (operation_by s it.of it.name) (meant.operation_of t name)) (sym shape) (by t is)
    where
      by : (t : CluType) → IsType terms (Some it.of) (Some t) → IsSaid terms words (operation_by (shape_by t) it.of it.name) (meant.operation_of t name)
      by (cluster_of c given) is = (cluster_of c given, name, is, at, refl)
      by (parameter k) is = (name, at, refl)
      by t is = (t, name, is, at, refl)

  pub sugar_said : (of : Option TypeId) (t : Option CluType) (name : Identifier) (negated : Bool) (its : Applied) → IsInvokedTold h terms facts.finding n of name negated its → IsSugar f terms facts negated n name t its → Said (by_applied terms its) (meant.by_sugar name t)
  sugar_said (Some of) (Some t) name negated (applied.Invoked first second) told sugar = use_said first t name sugar.0.0 told.0.named
  sugar_said (Some of) None name negated (applied.Invoked first second) told sugar = absurd sugar
  sugar_said None t name negated (applied.Invoked first second) told sugar = absurd told
  sugar_said None None name negated applied.Nothing told sugar = tt
  sugar_said None (Some t) name negated applied.Nothing told sugar = absurd sugar
  sugar_said (Some of) t name negated applied.Nothing told sugar = absurd told
  sugar_said (Some of) t name negated (applied.Named its) told sugar = absurd told
  sugar_said None t name negated (applied.Named its) told sugar = absurd told

  pub named_said : (of : Option TypeId) (t : Option CluType) (name : Identifier) (its : Applied) → IsNamedTold h terms facts.finding n of name its → IsNamed f terms facts n t name its → Said (by_applied terms its) (meant.by_sugar name t)
  named_said (Some of) (Some t) name (applied.Named (Some it)) told named = use_said it t name named.0 told.named
  named_said (Some of) None name (applied.Named (Some it)) told named = absurd named
  named_said (Some of) t name (applied.Named None) told named = absurd told
  named_said None t name (applied.Named (Some it)) told named = absurd told
  named_said None None name (applied.Named None) told named = tt
  named_said None (Some t) name (applied.Named None) told named = absurd named
  named_said of t name applied.Nothing told named = absurd told
  named_said of t name (applied.Invoked first second) told named = absurd told

  -- behind it stands no module
  pub or_none : (o : Option Invoked) (i : Option meant.Invoked) → Said o i → Said (option_or o None) i
  or_none (Some its) i is = is
  or_none None i is = is

  pub none_said : (its : Applied) → its ≡ applied.Nothing → (o : Option Invoked) (i : Option meant.Invoked) → Said o i → Said (option_or (by_applied terms its) o) i
  none_said its e o i is = subst (λ (a : Applied). Said (option_or (by_applied terms a) o) i) (sym e) is

  -- ---- a module with actual parameters

  instance_alone : (m : Meaning) → is_module m ≡ false → (of : Option TypeId) → instance_by m of ≡ None
  instance_alone (table.Module its) e of = absurd (true≢false e)
  instance_alone table.TypeSet e of = refl
  instance_alone _ e of = refl

  module_said : (id : Option ModuleId) (of : Option TypeId) (name : Identifier) (given : Actuals) → IsType terms of (Some (module_type name given)) → Said (instance_by (table.Module id) of) (Some (meant.of_module name given))
  module_said id (Some of) name given is = (name, given, is, refl)
  module_said id None name given is = absurd is

  -- with actual parameters, where the same name denotes a module
  with_said : (name : Identifier) (cs : Constants) (m : Meaning) (of : Option TypeId) (d : means.Meaning) → is_module m ≡ denotes_module f d → (is_module m ≡ true → IsType terms of (Some (module_type name (actuals_settled f.scope cs)))) → Said (instance_by m of) (meant.instance_of f name cs d)
  with_said name cs m of means.is_module e is = by m e (is e)
    where
      by : (m : Meaning) → is_module m ≡ true → IsType terms of (Some (module_type name (actuals_settled f.scope cs))) → Said (instance_by m of) (Some (meant.of_module name (actuals_settled f.scope cs)))
      by (table.Module id) e typed = module_said id of name (actuals_settled f.scope cs) typed
      by table.TypeSet e typed = absurd (true≢false (sym e))
      by _ e typed = absurd (true≢false (sym e))
  with_said name cs m of means.is_type_set e is = subst (λ (o : Option Invoked). Said o None) (sym (instance_alone m e of)) tt
  with_said name cs m of _ e is = subst (λ (o : Option Invoked). Said o None) (sym (instance_alone m e of)) tt

  -- ---- a name by itself

  other_said : (name : Identifier) (its : Applied) → its ≡ applied.Nothing → (m d : means.Meaning) → m ≡ d → meant.named_as f n name d ≡ None → Said (option_or (by_applied terms its) None) (meant.named_as f n name m)
  other_said name its e m d same none = subst (λ (i : Option meant.Invoked). Said (option_or (by_applied terms its) None) i) (sym (ap (meant.named_as f n name) same ∙ none)) (none_said its e None None tt)

  pub name_said : (m : Meaning) (d : means.Meaning) (own of : Option TypeId) (name : Identifier) (its : Applied) → Means f.nodes m d → IsAppliedTold h terms facts.finding n (name_stands m own name) its → IsOwnNamed f terms facts n name d its
      → ((id : Option ModuleId) → m ≡ table.Module id → IsType terms of (Some (module_type name no_actuals))) → Said (option_or (by_applied terms its) (instance_by m of)) (meant.named_as f n name d)
  name_said table.RoutineOfCluster d own of name its means_so told named instance =
      subst (λ (i : Option meant.Invoked). Said (option_or (by_applied terms its) None) i) (sym (ap (meant.named_as f n name) means_so))
      (or_none (by_applied terms its) (meant.by_sugar name (own_type f n)) (named_said own (own_type f n) name its told (subst (λ (d : means.Meaning). IsOwnNamed f terms facts n name d its) means_so named)))
  name_said (table.Module id) d own of name its means_so told named instance =
      subst (λ (i : Option meant.Invoked). Said (option_or (by_applied terms its) (instance_by (table.Module id) of)) i) (sym (ap (meant.named_as f n name) means_so))
      (none_said its told (instance_by (table.Module id) of) (Some (meant.of_module name no_actuals)) (module_said id of name no_actuals (instance id refl)))
  name_said (table.Equate c) d own of name its means_so told named instance = other_said name its told d (means.is_equate (item_at f.nodes c).constant) means_so.1 refl
  name_said table.TypeSet d own of name its means_so told named instance = other_said name its told d means.is_type_set means_so refl
  name_said (table.TypeParameter k) d own of name its means_so told named instance = other_said name its told d (means.is_type_parameter k) means_so refl
  name_said (table.ConstantParameter k) d own of name its means_so told named instance = other_said name its told d (means.is_constant_parameter k) means_so refl
  name_said (table.Local t) d own of name its means_so told named instance = other_said name its told d (means.is_local (item_at f.nodes t).type) means_so refl
  name_said (table.OwnOfRoutine t) d own of name its means_so told named instance = other_said name its told d (means.is_own_of_routine (item_at f.nodes t).type) means_so refl
  name_said (table.OwnOfCluster t) d own of name its means_so told named instance = other_said name its told d (means.is_own_of_cluster (item_at f.nodes t).type) means_so refl

  -- ---- brackets

  without_actuals : (cs : List ℕ) → first_takes_actuals h.file cs ≡ false → instance_of h.file n (named_before h.file cs) ≡ None
  without_actuals [] e = refl
  without_actuals (c ∷ cs) e = ap (λ (b : Bool). instance_of h.file n (if b then Some (c, cs) else None)) e

  with_actuals : (name : Identifier) (given : Constants) (cs : List ℕ) → first_takes_actuals h.file cs ≡ true → (d : means.Meaning) → first_is_module h.file cs ≡ denotes_module f d → (first_is_module h.file cs ≡ true → IsType terms (type_id (value_in h.file n)) (Some (module_type name (actuals_settled f.scope given)))) → Said (instance_of h.file n (named_before h.file cs)) (meant.instance_of f name given d)
  with_actuals name given [] e d same is = absurd (true≢false (sym e))
  with_actuals name given (c ∷ cs) e d same is =
      subst (λ (o : Option Invoked). Said o (meant.instance_of f name given d)) (sym (ap (λ (b : Bool). instance_of h.file n (if b then Some (c, cs) else None)) e))
      (with_said name given (meaning_in h.file c) (type_id (value_in h.file n)) d same is)

  abbrev Brackets : Applied → Option Invoked
  Brackets its = option_or (by_applied terms its) (instance_of h.file n (named_before h.file (children_in h.file n)))

  -- an object with an index
  pub fetch_said : (of : Option TypeId) (t : Option CluType) (its : Applied) → has_actuals h.file n ≡ false → IsAppliedTold h terms facts.finding n (index_stands (has_actuals h.file n) of) its → IsSugar f terms facts false n (codes "fetch") t its → Said (Brackets its) (meant.by_sugar (codes "fetch") t)
  fetch_said of t its none told sugar =
      subst (λ (o : Option Invoked). Said (option_or (by_applied terms its) o) (meant.by_sugar (codes "fetch") t)) (sym (without_actuals (children_in h.file n) none))
      (or_none (by_applied terms its) (meant.by_sugar (codes "fetch") t)
      (sugar_said of t (codes "fetch") false its (subst (λ (b : Bool). IsAppliedTold h terms facts.finding n (index_stands b of) its) none told) sugar))

  pub brackets_said : (of : Option TypeId) (k : ℕ) (name : Identifier) (given : Constants) (its : Applied) → has_actuals h.file n ≡ takes_actuals f k name → names_module h.file n ≡ denotes_module f (meaning f k name) → (names_module h.file n ≡ true → IsType terms (type_id (value_in h.file n)) (Some (module_type name (actuals_settled f.scope given))))
      → IsAppliedTold h terms facts.finding n (index_stands (has_actuals h.file n) of) its → IsIndex f terms facts (takes_actuals f k name) n (name_type f k name) its → Said (Brackets its) (meant.by_index f (takes_actuals f k name) k name given)
  brackets_said of k name given its has names is told index = by (takes_actuals f k name) has index
    where
      by : (b : Bool) → has_actuals h.file n ≡ b → IsIndex f terms facts b n (name_type f k name) its → Said (Brackets its) (meant.by_index f b k name given)
      by true has index =
          none_said its (subst (λ (b : Bool). IsAppliedTold h terms facts.finding n (index_stands b of) its) has told) (instance_of h.file n (named_before h.file (children_in h.file n))) (meant.instance_of f name given (meaning f k name))
          (with_actuals name given (children_in h.file n) has (meaning f k name) names is)
      by false has index = fetch_said of (name_type f k name) its has told index
