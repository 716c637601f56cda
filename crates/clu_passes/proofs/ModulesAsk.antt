-- What the modules ask that are named with actual parameters at a node, as it was found, is what the definitions say.
use Rattle.std.proofs.Common.{◌≡◌, ◌∙◌, inl, inr, ◌&&◌, ℕ, Bool, true, false, if◌then◌else◌, List, [], ◌∷◌, ◌++◌, length, map, flat_map, is_some, option_map, Option, Some, None, refl, sym, ap, ap₂, subst, append-nil}
use Rattle.std.proofs.lemmas.Bool.{and_parts}
use Rattle.clu_types.specs.Arena.{Grows, IsArena, types_of}
use Rattle.clu_types.specs.declared.term.Term.{Term}
use Rattle.clu_syntax.specs.Syntax.{Constants}
use Rattle.clu_meaning.specs.Scoping.{Scope}
use Rattle.clu_meaning.specs.Settling.{actuals_settled}
use Rattle.clu_settle.specs.Lists.{type_id}
use Rattle.clu_checking.specs.Specifications.{Specification}
use Rattle.clu_checking.specs.Files.{File, is_of_module}
use Rattle.clu_checking.specs.Headings.{specification}
use Rattle.clu_checking.specs.Invocations as invoking
use Rattle.clu_checking.specs.Operations.{Found}
use Rattle.clu_checking.specs.Wanted as wants
use Rattle.clu_checking.specs.Wanted.{Named, first_name_at}
use Rattle.clu_bindings.specs.declared.file.File.{File as Read}
use Rattle.clu_bindings.specs.declared.file.Headed.{Headed}
use Rattle.clu_bindings.specs.Named as named
use Rattle.clu_bindings.specs.Readers.{module_in, value_in}
use Rattle.clu_name_rules.specs.declared.tables.Tables.{Tables}
use Rattle.clu_operations.specs.declared.finding.Finding.{Finding}
use Rattle.clu_operations.specs.Finding.{AreWithin}
use Rattle.clu_operations.specs.Told.{told}
use Rattle.clu_operations.specs.Wished.{IsFinding}
use Rattle.clu_typing.specs.declared.facts.Facts.{Facts}
use Rattle.clu_typing.specs.declared.facts.Operation.{Operation}
use Rattle.clu_typing.specs.declared.facts.Operation.TheVariants as operation
use Rattle.clu_typing.specs.Found.{IsModuleTold}
use Rattle.clu_typing.specs.Invoking.{module_named}
use Rattle.clu_passes.specs.Ascending.{SpecificationsAscend}
use Rattle.clu_passes.specs.Bound.{TellModules, TellTypeModules}
use Rattle.clu_passes.specs.ConstantTables.{file_with}
use Rattle.clu_passes.specs.FactTables.{IsAsking, asks_found, asks_noted}
use Rattle.clu_passes.specs.FoundTold.{TellHeads, module_found}
use Rattle.clu_passes.specs.Met.{asked_told}
use Rattle.clu_passes.proofs.NamedModules.{AreNamedSo, IsNamedSo}
use Rattle.clu_passes.proofs.SettledAscend.{actuals_settled_ascend}
use Rattle.clu_passes.proofs.TypesNoted.{instance_asks, itself}

both_same : (a b x y : Bool) → a ≡ b → (b ≡ true → x ≡ y) → (a && x) ≡ (b && y)
both_same a true x y e same = ap₂ (λ (a x : Bool). a && x) e (same refl)
both_same a false x y e same = ap (λ (a : Bool). a && x) e

-- what a module asks by itself
itself_asks : (f : File) (cs : Constants) (o : Option Specification) → asks_found (option_map (module_found (actuals_settled f.scope cs)) (option_map (λ s. s.form) o)) ≡ invoking.asks_by f cs o
itself_asks f cs (Some s) = refl
itself_asks f cs None = refl

-- it comes of what was found alone
asking_by : (terms : List Term) (one other : Facts) → one.finding ≡ other.finding → (its : Operation) (x : Option Found) → IsAsking terms one its x → IsAsking terms other its x
asking_by terms one other same operation.Missing x is = is
asking_by terms one other same (operation.Found id) x is = ap (λ (g : Finding). map asked_told (told (types_of terms) g id).asks) (sym same) ∙ is
asking_by terms one other same (operation.Object of) x is = is

module _ (h : Headed) (scope : Scope) (library : List Specification) (refused : List ℕ) (up : SpecificationsAscend library) (old new : List Term) (grows : Grows old new) (arena : IsArena old) (later : IsArena new)
    (tell : TellHeads h (file_with h.file scope library refused) (types_of old)) (tells : TellHeads h (file_with h.file scope library refused) (types_of new)) (before : Facts) (within : AreWithin (length old) before.finding)
    (now : Facts) (last : AreWithin (length new) now.finding) (was : IsFinding h old before.finding) where
  abbrev r : Read
  r = h.file

  abbrev f : File
  f = file_with h.file scope library refused

  pub record AskSo (its : Operation) (xs : List Named) : Type 0 where
    pub found : Option Found
    pub asking : IsAsking new now its found
    pub asks : asks_found found ≡ flat_map (invoking.asks_of_name f) xs

  nothing_asked : (its : Operation) → its ≡ operation.Missing → (xs : List Named) → flat_map (invoking.asks_of_name f) xs ≡ [] → AskSo its xs
  nothing_asked its missing xs none = record { found = None; asking = ap (asks_noted new now) missing; asks = sym none }

  module _ (names : TellModules f h.file) (types : TellTypeModules f h.file) (tables : Tables) (n : ℕ) where
    one_asks : (x : Named) (m : ℕ × List ℕ) → IsNamedSo h tables scope library refused old new n x m.0 m.1 → (its : Operation) → IsModuleTold h new now.finding (module_named h.file old n (Some m)) its → AskSo its (x ∷ [])
    one_asks x m so its told = by (is_of_module f x.node x.name && wants.has_fitting_kinds f x) refl
      where
        name_same : is_of_module f m.0 (first_name_at f m.0) ≡ is_of_module f x.node x.name
        name_same = ap₂ (is_of_module f) (sym so.node) (sym so.name)

        is_told : is_some (module_in r m.0) ≡ is_of_module f m.0 (first_name_at f m.0)
        is_told = elim so.kind [ inl is ↦ names m.0 is | inr is ↦ types m.0 is ]

        same : (is_some (module_in r m.0) && named.has_fitting_kinds r old m.0 m.1) ≡ (is_of_module f x.node x.name && wants.has_fitting_kinds f x)
        same =
            both_same (is_some (module_in r m.0)) (is_of_module f m.0 (first_name_at f m.0)) (named.has_fitting_kinds r old m.0 m.1) (wants.has_fitting_kinds f x) is_told (λ is. sym (so.fits is))
            ∙ ap (λ (b : Bool). b && wants.has_fitting_kinds f x) name_same

        told_as : (b : Bool) → (is_of_module f x.node x.name && wants.has_fitting_kinds f x) ≡ b → IsModuleTold h new now.finding (if b then type_id (value_in r n) else None) its
        told_as b e = subst (λ (b : Bool). IsModuleTold h new now.finding (if b then type_id (value_in r n) else None) its) (same ∙ e) told

        by : (b : Bool) → (is_of_module f x.node x.name && wants.has_fitting_kinds f x) ≡ b → AskSo its (x ∷ [])
        by true e = record {
          found = itself f x.name (actuals_settled scope x.constants);
          asking =
              asking_by new (record before { finding = now.finding }) now refl its (itself f x.name (actuals_settled scope x.constants))
              (instance_asks h scope library refused up old new grows arena later tell tells before within now.finding last was x.name (actuals_settled scope x.constants) (actuals_settled_ascend scope x.constants) (type_id (value_in r n))
              (so.instance (name_same ∙ (and_parts (is_of_module f x.node x.name) (wants.has_fitting_kinds f x) e).0)) its (told_as true e));
          asks =
              itself_asks f x.constants (specification f x.name)
              ∙ sym (append-nil (invoking.asks_by f x.constants (specification f x.name)))
              ∙ sym (ap (λ (b : Bool). invoking.asks_of_module f b x ++ []) e);
        }
        by false e = nothing_asked its (told_as false e) (x ∷ []) (ap (λ (b : Bool). invoking.asks_of_module f b x ++ []) e)

    pub named_ask : (xs : List Named) (o : Option (ℕ × List ℕ)) → AreNamedSo h tables scope library refused old new n xs o → (its : Operation) → IsModuleTold h new now.finding (module_named h.file old n o) its → AskSo its xs
    named_ask [] None so its told = nothing_asked its told [] refl
    named_ask [] (Some m) so its told = absurd so
    named_ask (x ∷ []) (Some m) so its told = one_asks x m so its told
    named_ask (x ∷ []) None so its told = absurd so
    named_ask (x ∷ y ∷ xs) None so its told = absurd so
    named_ask (x ∷ y ∷ xs) (Some m) so its told = absurd so
