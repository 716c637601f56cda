-- What modules with actual parameters tell is what the definitions find in them.
use Rattle.std.proofs.Common.{◌≡◌, ◌∙◌, ℕ, cond, Bool, true, false, if◌then◌else◌, List, [], ◌∷◌, ◌++◌, map, filter, flat_map, bytes_eq, option_map, Option, Some, None, refl, sym, ap, ap₂}
use Rattle.std.specs.List.{list_any}
use Rattle.std.proofs.lemmas.Bool.{true≢false}
use Rattle.std.proofs.lemmas.Slice.Eq.{bytes_eq-Decides}
use Rattle.clu_types.specs.CluType.{CluType, Actuals}
use Rattle.clu_types.specs.Arena.{type_at, types_of}
use Rattle.clu_types.specs.Substituted.{substituted}
use Rattle.clu_types.specs.declared.term.TypeId.{TypeId}
use Rattle.clu_types.specs.declared.spec.Demand.{Demand as KeptDemand}
use Rattle.clu_types.specs.declared.spec.OpSpec.{OpSpec}
use Rattle.clu_types.specs.declared.spec.Form.{Form as KeptForm}
use Rattle.clu_types.specs.declared.spec.Form.TheVariants as kept_form
use Rattle.clu_syntax.specs.Syntax.{Identifier}
use Rattle.clu_checking.specs.Specifications.{Heading, heading_named, heading_told, operations_of}
use Rattle.clu_checking.specs.Specifications as specs
use Rattle.clu_checking.specs.Operations.{Asked, Found, asked_as, demanded, routine_found}
use Rattle.clu_head.specs.declared.head.Demanded.{Demanded}
use Rattle.clu_head.specs.declared.head.RoutineHead.{RoutineHead}
use Rattle.clu_head.specs.declared.head.HeadForm.{HeadForm}
use Rattle.clu_head.specs.declared.head.HeadForm.TheVariants as head_form
use Rattle.clu_operations.specs.ByName.{first_named}
use Rattle.clu_operations.specs.Modules.{Module, own, kept, operation_name, operations_in, routine_name, routines_in, routine_named, if_seen, of_routine, whole, kept_routine, kept_demands}
use Rattle.clu_operations.specs.declared.modules.Part.TheVariants as part
use Rattle.clu_operations.specs.Told.{asked_of, type_given, demand_told, part_told, kept_demand_told, routine_told}
use Rattle.clu_operations.specs.Wished.{told_in}
use Rattle.clu_passes.specs.FoundTold.{ask_of, found_of, module_found, form_seen, AreExported, IsExported}
use Rattle.clu_passes.specs.Told as heads

pub found_with : {t u : Option CluType} {xs ys : List Asked} → t ≡ u → xs ≡ ys → (let it : Found = record { type = t; asks = xs } in it) ≡ record { type = u; asks = ys }
found_with p q = ap₂ (λ (t : Option CluType) (xs : List Asked). let it : Found = record { type = t; asks = xs } in it) p q

-- ---- the first of a name

module _ {A : Type 0} (name_of : A → List ℕ) (told : A → Heading) (same : (a : A) → (told a).name ≡ name_of a) where
  pub heading_found : (name : List ℕ) (items : List A) → heading_named (map told items) name ≡ option_map told (first_named name_of name items)
  heading_found name [] = refl
  heading_found name (a ∷ items) = ap (λ (x : List ℕ). cond (bytes_eq x name) (Some (told a)) (heading_named (map told items) name)) (same a) ∙ by (bytes_eq (name_of a) name) (heading_found name items)
    where
      by : (b : Bool) → heading_named (map told items) name ≡ option_map told (first_named name_of name items) → cond b (Some (told a)) (heading_named (map told items) name) ≡ option_map told (if b then Some a else first_named name_of name items)
      by true more = refl
      by false more = more

-- ---- of the file

module _ (types : List CluType) (given : Actuals) where
  own_asks : (ds : List Demanded) → map ask_of (flat_map (demand_told types given) ds) ≡ flat_map (demanded given) (map (heads.demand_told types) ds)
  own_asks [] = refl
  own_asks (d ∷ ds) = by d.wanted (own_asks ds)
    where
      by : (o : Option TypeId) → map ask_of (flat_map (demand_told types given) ds) ≡ flat_map (demanded given) (map (heads.demand_told types) ds)
          → map ask_of (asked_of given d.parameter d.operation d.in_set (type_given types given o) ++ flat_map (demand_told types given) ds) ≡ asked_as given (heads.demand_told types d) (option_map (type_at types) o) ++ flat_map (demanded given) (map (heads.demand_told types) ds)
      by (Some id) more = ap (λ (xs : List Asked). asked_as given (heads.demand_told types d) (Some (type_at types id)) ++ xs) more
      by None more = more

  own_type : (of : Option TypeId) → type_given types given of ≡ option_map (substituted given) (option_map (type_at types) of)
  own_type (Some id) = refl
  own_type None = refl

  abbrev one : RoutineHead → Found
  one r = found_of (part_told types given (of_routine r))

  part_same : (r : RoutineHead) → one r ≡ routine_found given (heads.routine_told types r)
  part_same r = found_with (own_type r.of_type) (own_asks r.demands)

  abbrev parts : Option RoutineHead → Option Found
  parts o = option_map found_of (option_map (λ r. part_told types given (of_routine r)) o)

  abbrev headed : Option Heading → Option Found
  headed o = option_map (routine_found given) o

  parts_same : (o : Option RoutineHead) → parts o ≡ headed (option_map (heads.routine_told types) o)
  parts_same (Some r) = ap Some (part_same r)
  parts_same None = refl

  -- to the text of its cluster
  pub inside_same : (name : List ℕ) (rs : List RoutineHead) → parts (routine_named true name rs) ≡ headed (heading_named (map (heads.routine_told types) rs) name)
  inside_same name rs = by (first_named routine_name name rs) ∙ ap headed (sym (heading_found routine_name (heads.routine_told types) (λ r. refl) name rs))
    where
      by : (o : Option RoutineHead) → parts (if_seen true o) ≡ headed (option_map (heads.routine_told types) o)
      by (Some r) = parts_same (Some r)
      by None = refl

  -- to users
  abbrev shown : List RoutineHead → List Heading
  shown rs = map (heads.routine_told types) (filter (λ r. r.exported) rs)

  none_exported : (keys : List Identifier) (name : List ℕ) → list_any (bytes_eq name) keys ≡ false → (rs : List RoutineHead) → AreExported keys rs → heading_named (shown rs) name ≡ None
  none_exported keys name other [] are = refl
  none_exported keys name other (r ∷ rs) are = by r.exported refl (bytes_eq r.name name) refl (none_exported keys name other rs are.1)
    where
      by : (e : Bool) → r.exported ≡ e → (b : Bool) → bytes_eq r.name name ≡ b → heading_named (shown rs) name ≡ None → heading_named (map (heads.routine_told types) (cond e (r ∷ filter (λ r. r.exported) rs) (filter (λ r. r.exported) rs))) name ≡ None
      by false seen b same more = more
      by true seen true same more = absurd (true≢false (sym seen ∙ are.0 ∙ ap (λ (m : List ℕ). list_any (bytes_eq m) keys) ((bytes_eq-Decides r.name name).0 same) ∙ other))
      by true seen false same more = ap (λ (b : Bool). cond b (Some (heads.routine_told types r)) (heading_named (shown rs) name)) same ∙ more

  outside_same : (keys : List Identifier) (name : List ℕ) (rs : List RoutineHead) → AreExported keys rs → parts (routine_named false name rs) ≡ headed (heading_named (shown rs) name)
  outside_same keys name [] are = refl
  outside_same keys name (r ∷ rs) are = by (bytes_eq r.name name) refl r.exported refl (outside_same keys name rs are.1)
    where
      first_of : (b : Bool) → bytes_eq r.name name ≡ b → heading_named (map (heads.routine_told types) (r ∷ filter (λ r. r.exported) rs)) name ≡ cond b (Some (heads.routine_told types r)) (heading_named (shown rs) name)
      first_of b same = ap (λ (b : Bool). cond b (Some (heads.routine_told types r)) (heading_named (shown rs) name)) same

      seen_as : (e : Bool) → r.exported ≡ e → parts (if_seen false (Some r)) ≡ parts (if e then Some r else None)
      seen_as e seen = ap (λ (e : Bool). parts (if e then Some r else None)) seen

      by : (b : Bool) → bytes_eq r.name name ≡ b → (e : Bool) → r.exported ≡ e → parts (routine_named false name rs) ≡ headed (heading_named (shown rs) name)
          → parts (if_seen false (if b then Some r else first_named routine_name name rs)) ≡ headed (heading_named (map (heads.routine_told types) (cond e (r ∷ filter (λ r. r.exported) rs) (filter (λ r. r.exported) rs))) name)
      by true same true seen more = seen_as true seen ∙ ap Some (part_same r) ∙ ap headed (sym (first_of true same))
      by true same false seen more =
          let other : list_any (bytes_eq name) keys ≡ false = ap (λ (m : List ℕ). list_any (bytes_eq m) keys) (sym ((bytes_eq-Decides r.name name).0 same)) ∙ sym are.0 ∙ seen in
          seen_as false seen ∙ ap headed (sym (none_exported keys name other rs are.1))
      by false same true seen more = more ∙ ap headed (sym (first_of false same))
      by false same false seen more = more

-- ---- of the library

kept_asks : (types : List CluType) (given : Actuals) (ds : List KeptDemand) → map ask_of (flat_map (kept_demand_told types given) ds) ≡ flat_map (demanded given) (map (specs.demand_told types) ds)
kept_asks types given [] = refl
kept_asks types given (d ∷ ds) = ap (λ (xs : List Asked). demanded given (specs.demand_told types d) ++ xs) (kept_asks types given ds)

kept_same : (types : List CluType) (given : Actuals) (op : OpSpec) → found_of (routine_told types given (Some op) op.demands) ≡ routine_found given (heading_told types op)
kept_same types given op = by op.iter
  where
    by : (iter : Bool) → found_of (routine_told types given (Some (record op { iter = iter })) op.demands) ≡ routine_found given (heading_told types (record op { iter = iter }))
    by true = found_with refl (kept_asks types given op.demands)
    by false = found_with refl (kept_asks types given op.demands)

-- ---- of either

module _ (types : List CluType) (given : Actuals) where
  pub routine_same : (name : List ℕ) (its : Module) → IsExported its → option_map found_of (told_in types false its (Some name) given) ≡ option_map (routine_found given) (heading_named (operations_of (form_seen types its)) name)
  routine_same name (own head) are = by head.form are.1
    where
      by : (form : HeadForm) → AreExported are.0 (routines_in form) → parts types given (routine_named false name (routines_in form)) ≡ headed types given (heading_named (operations_of (heads.exported_told types form)) name)
      by (head_form.Routine r) seen = refl
      by (head_form.Cluster ds rs) seen = outside_same types given are.0 name rs seen
  routine_same name (kept spec) are = by spec.form
    where
      one : (o : Option OpSpec) → option_map found_of (option_map (λ op. routine_told (types_of spec.types) given (Some op) op.demands) o) ≡ option_map (routine_found given) (option_map (heading_told (types_of spec.types)) o)
      one (Some op) = ap Some (kept_same (types_of spec.types) given op)
      one None = refl

      by : (form : KeptForm) → option_map found_of (option_map (λ op. routine_told (types_of spec.types) given (Some op) op.demands) (first_named operation_name name (operations_in form)))
          ≡ option_map (routine_found given) (heading_named (operations_of (specs.form_told (types_of spec.types) form)) name)
      by (kept_form.Routine op) = refl
      by (kept_form.Cluster ds ops) = one (first_named operation_name name ops) ∙ ap (option_map (routine_found given)) (sym (heading_found operation_name (heading_told (types_of spec.types)) (λ op. refl) name ops))

  -- a module by itself
  pub whole_same : (inside : Bool) (its : Module) → option_map found_of (told_in types inside its None given) ≡ Some (module_found given (form_seen types its))
  whole_same inside (own head) = by head.form
    where
      by : (form : HeadForm) → Some (found_of (part_told types given (whole form))) ≡ Some (module_found given (heads.exported_told types form))
      by (head_form.Routine r) = ap Some (part_same types given r)
      by (head_form.Cluster ds rs) = ap Some (found_with refl (own_asks types given ds))
  whole_same inside (kept spec) = by spec.form
    where
      by : (form : KeptForm) → Some (found_of (routine_told (types_of spec.types) given (kept_routine form part.Itself) (kept_demands form part.Itself))) ≡ Some (module_found given (specs.form_told (types_of spec.types) form))
      by (kept_form.Routine op) = ap Some (kept_same (types_of spec.types) given op)
      by (kept_form.Cluster ds ops) = ap Some (found_with refl (kept_asks (types_of spec.types) given ds))
