-- What holds of the forms of routines and clusters holds of the form of each head of a file.
use Rattle.std.proofs.Common.{◌≡◌, ℕ, zero, suc, List, [], ◌∷◌, Option, Some, None, refl, sym, subst}
use Rattle.std.specs.Prelude.{slice_get}
use Rattle.std.specs.List.{AllZip}
use Rattle.std.proofs.lemmas.Option.{none-some, same_Some}
use Rattle.clu_syntax.specs.declared.modules.Definition.{Definition}
use Rattle.clu_syntax.specs.declared.modules.Definition.TheVariants as defines
use Rattle.clu_types.specs.declared.spec.ParamKind.{ParamKind}
use Rattle.clu_types.specs.declared.term.TypeId.{TypeId}
use Rattle.clu_types.specs.declared.term.Term.{Term}
use Rattle.clu_types.specs.Arena.{Grows}
use Rattle.clu_head.specs.declared.asked.Asked.{Asked}
use Rattle.clu_head.specs.declared.head.RoutineHead.{RoutineHead}
use Rattle.clu_head.specs.declared.head.HeadForm.{HeadForm}
use Rattle.clu_head.specs.declared.head.HeadForm.TheVariants as form
use Rattle.clu_head.specs.declared.head.Head.{Head}
use Rattle.clu_head.specs.declared.known.Known.{Known}
use Rattle.clu_head.specs.Asked.{demands_of}
use Rattle.clu_head.specs.Listed.{listed}
use Rattle.clu_head.specs.OwnTypes.{IsOwnType}
use Rattle.clu_head.specs.Ranks.{before, same, demand_rank, both_asked}
use Rattle.clu_head.specs.Routines.{IsHead, AreListed}
use Rattle.clu_head.specs.Modules.{IsRoutineForm, IsClusterForm, IsOfDefinition, IsOfModule, AreOfModules, among, has_head, definition_at, exports_in, routines_in}

-- of a routine it is known which module it is, of a cluster its type and the arena in which it stands
module _ (k : Known) (asked : Asked) (old new : List Term) (P : HeadForm → Type 0)
    (routine : (m n : ℕ) (r : RoutineHead) → definition_at k.syntax.now (slice_get k.syntax.now m) ≡ defines.Routine n → IsHead k asked None [] old new n r → P (form.Routine r))
    (cluster :
    (between : List Term) → Grows old between → Grows between new → (cvt : Option TypeId) (name : List ℕ) (kinds : List (Option ParamKind)) → IsOwnType between name kinds cvt → (exports : List (List ℕ)) (routines : List ℕ) (n : ℕ) (rs : List RoutineHead)
    → AreListed k.syntax.now (IsHead k asked cvt exports between new) routines rs → P (form.Cluster (listed (before demand_rank) (same demand_rank) both_asked (demands_of asked.demands.items asked.starts.items n)) rs)) where
  routine_form : (m n : ℕ) (f : HeadForm) → definition_at k.syntax.now (slice_get k.syntax.now m) ≡ defines.Routine n → IsRoutineForm k asked old new n f → P f
  unfolding IsRoutineForm
  routine_form m n f at is = subst P (sym is.1) (routine m n is.0 at is.2)

  cluster_form : (between : List Term) → Grows old between → Grows between new → (cvt : Option TypeId) (name : List ℕ) (kinds : List (Option ParamKind)) → IsOwnType between name kinds cvt → (exports : List (List ℕ)) (routines : List ℕ) (n : ℕ) (f : HeadForm)
      → IsClusterForm k asked between new cvt exports routines n f → P f
  unfolding IsClusterForm
  cluster_form between front behind cvt name kinds owns exports routines n f is = subst P (sym is.1) (cluster between front behind cvt name kinds owns exports routines n is.0 is.2)

  of_definition : (m : ℕ) (d : Definition) (h : Head) → definition_at k.syntax.now (slice_get k.syntax.now m) ≡ d → IsOfDefinition k asked old new d h → P h.form
  unfolding IsOfDefinition
  of_definition m (defines.Routine n) h at is = routine_form m n h.form at is.form
  of_definition m (defines.Cluster n) h at is =
      cluster_form is.between is.front is.behind is.own h.name h.kinds is.of_own (exports_in (slice_get k.syntax.now n)) (routines_in k.syntax.now (slice_get k.syntax.now n)) n h.form is.form

  of_module : (n : ℕ) (h : Head) → IsOfModule k asked old new n h → P h.form
  unfolding IsOfModule
  of_module n h is = of_definition n (definition_at k.syntax.now (slice_get k.syntax.now n)) h refl is

  of_modules : (ns : List ℕ) (hs : List Head) → AllZip (IsOfModule k asked old new) ns hs → (i : ℕ) (h : Head) → slice_get hs i ≡ Some h → P h.form
  of_modules [] [] are i h at = absurd (none-some h at)
  of_modules [] (g ∷ hs) are i h at = absurd are
  of_modules (n ∷ ns) [] are i h at = absurd are
  of_modules (n ∷ ns) (g ∷ hs) are zero h at = subst (λ (x : Head). P x.form) (same_Some g h at) (of_module n g are.0)
  of_modules (n ∷ ns) (g ∷ hs) are (suc i) h at = of_modules ns hs are.1 i h at

  pub each_head : (ns : List ℕ) (hs : List Head) → AreOfModules k asked old new ns hs → (i : ℕ) (h : Head) → slice_get hs i ≡ Some h → P h.form
  unfolding AreOfModules
  each_head ns hs are i h at = of_modules (among (has_head k.syntax.now) ns) hs are i h at
