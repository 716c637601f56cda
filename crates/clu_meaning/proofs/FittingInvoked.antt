-- Invocations of primitive operations and force are fitting, whatever the type and the name.
use Rattle.std.proofs.Common.{◌≡◌, refl, subst}
use Rattle.std.proofs.lemmas.Slice.Eq.{bytes_eq-Decides}
use Rattle.std.specs.Prelude.{ℕ, Bool, true, false, List, [], ◌∷◌, Option, Some, None, cond, bytes_eq}
use Rattle.clu_types.specs.CluType.{CluType, null_type, bool_type, int_type, char_type, string_type, any_type, stream_type, array_of, sequence_of, record_of, struct_of, oneof_of, variant_of, proc_of, iter_of, cluster_of, parameter, Fields, no_fields, field_and}
use Rattle.clu_builtin.specs.Operation.{Operation}
use Rattle.clu_builtin.specs.Table.{operation}
use Rattle.clu_layout.specs.Objects.{Routine, module_routine, operation_of, force_of, Object, Cell}
use Rattle.clu_layout.specs.Actions.{Primitive, gives_all}
use Rattle.clu_layout.specs.PlainOperations.{Primitives}
use Rattle.clu_layout.specs.RecordOperations.{struct_selected, record_selected, record_primitives}
use Rattle.clu_layout.specs.OneofOperations.{oneof_selected, variant_selected, variant_primitives}
use Rattle.clu_layout.specs.Primitive.{of_each, primitives, named, primitive, gives_results, invoked, invocation, forcing, force_heading, force_invocation}
use Rattle.clu_meaning.specs.Programs.{Program}
use Rattle.clu_meaning.specs.Operations.{undefined}
use Rattle.clu_meaning.specs.Typed.{AllTyped}
use Rattle.clu_meaning.proofs.FittingLaws.{Fitting, fitting_gives, fitting_signals, fitting_no_case, fitting_either, fitting_need, fitting_needed, fitting_and_then, fitting_counts, fitting_takes, fitting_binds, fitting_one}
use Rattle.clu_meaning.proofs.FittingOperations.{FitsHeaded, AllFitting, Always, joined_fit, nulls_fit, procs_fit, iters_fit, bools_fit, ints_fit, chars_fit, strings_fit, streams_fit, arrays_fit, sequences_fit}
use Rattle.clu_meaning.proofs.FittingSelectors.{structs_fit, records_fit, record_fits, oneofs_fit, variants_fit, variant_fits}

module _ (program : Program) (lawful : Routine → Type 0) where
  module _ (T : CluType) (heading : List ℕ → Option Operation) where
    each_fit : (selected : List ℕ → Primitives) (fs : Fields) (own : Primitives) → ((s : List ℕ) → AllFitting program lawful T heading (selected s)) → AllFitting program lawful T heading own →
        AllFitting program lawful T heading (of_each selected fs own)
    each_fit selected no_fields own f g = g
    each_fit selected (field_and s t rest) own f g = joined_fit program lawful T heading (selected s) (of_each selected rest own) (f s) (each_fit selected rest own f g)

  all_fitting : (T : CluType) → AllFitting program lawful T (operation T) (primitives T)
  all_fitting null_type = nulls_fit program lawful
  all_fitting bool_type = bools_fit program lawful
  all_fitting int_type = ints_fit program lawful
  all_fitting char_type = chars_fit program lawful
  all_fitting string_type = strings_fit program lawful
  all_fitting any_type = tt
  all_fitting stream_type = streams_fit program lawful
  all_fitting (array_of t) = arrays_fit program lawful t
  all_fitting (sequence_of t) = sequences_fit program lawful t
  all_fitting (record_of fs) = each_fit (record_of fs) (operation (record_of fs)) record_selected fs record_primitives (records_fit program lawful fs) (record_fits program lawful (record_of fs) (operation (record_of fs)))
  all_fitting (struct_of fs) = each_fit (struct_of fs) (operation (struct_of fs)) struct_selected fs [] (structs_fit program lawful fs) tt
  all_fitting (oneof_of fs) = each_fit (oneof_of fs) (operation (oneof_of fs)) (oneof_selected fs) fs [] (oneofs_fit program lawful fs) tt
  all_fitting (variant_of fs) = each_fit (variant_of fs) (operation (variant_of fs)) (variant_selected fs) fs variant_primitives (variants_fit program lawful fs) (variant_fits program lawful (variant_of fs) (operation (variant_of fs)))
  all_fitting (proc_of args results ss) = procs_fit program lawful args results ss
  all_fitting (iter_of args results ss) = iters_fit program lawful args results ss
  all_fitting (cluster_of _ _) = tt
  all_fitting (parameter _) = tt

  module _ (T : CluType) (heading : List ℕ → Option Operation) where
    abbrev FittingIfThere : Option Operation → Option Primitive → Type 0
    FittingIfThere h None = Unit {0}
    FittingIfThere h (Some p) = FitsHeaded program lawful T h p

    chosen_fits : (h : Option Operation) (here : Bool) (p : Primitive) (others : Option Primitive) → (here ≡ true → FitsHeaded program lawful T h p) → FittingIfThere h others →
        FittingIfThere h (cond here (Some p) others)
    chosen_fits h true p others f g = f refl
    chosen_fits h false p others f g = g

    named_fits : (ps : Primitives) → AllFitting program lawful T heading ps → (op : List ℕ) → FittingIfThere (heading op) (named ps op)
    named_fits [] f op = tt
    named_fits ((name, p) ∷ ps) f op = chosen_fits (heading op) (bytes_eq name op) p (named ps op)
        (λ same. subst (λ n. FitsHeaded program lawful T (heading n) p) ((bytes_eq-Decides name op).0 same) f.0) (named_fits ps f.1 op)

  -- ---- invocations

  module _ (base : List Cell) (os : List Object) (typed : AllTyped program lawful base os) where
    invoked_fits : (T : CluType) (heading : Operation) (p : Primitive) → FitsHeaded program lawful T (Some heading) p → Fitting program lawful base (invoked T heading p os)
    invoked_fits T heading p f = fitting_need program lawful base _ _ (λ suits. fitting_takes program lawful base _ _ (fitting_counts program lawful base _ _ (fitting_and_then program lawful base (p os) (gives_results heading.results)
        (f base os typed suits) (λ cells l given all. fitting_binds program lawful cells heading.results given (gives_all given) (λ fit. fitting_gives program lawful cells given all)))))

    pub invocation_fits : (T : CluType) (op : List ℕ) → Fitting program lawful base (invocation T op os)
    invocation_fits T op = fitting_needed program lawful base (operation T op) _ (λ heading e. fitting_needed program lawful base (primitive T op) _ (λ p l. invoked_fits T heading p
        (subst (λ h. FitsHeaded program lawful T h p) e
        (subst (FittingIfThere T (operation T) (operation T op)) l (named_fits T (operation T) (primitives T) (all_fitting T) op)))))

    forcing_fits : (t : CluType) → Always program lawful (forcing t)
    forcing_fits t cells xs all = fitting_one program lawful cells xs _ all (λ o to. fitting_either program lawful cells _ _ _ (λ same. fitting_gives program lawful cells (o ∷ []) (to, tt))
        (λ other. fitting_signals program lawful cells _ [] tt))

    pub force_fits : (t : CluType) → Fitting program lawful base (force_invocation t os)
    force_fits t = invoked_fits any_type (force_heading t) (forcing t) (λ cells xs all suits. forcing_fits t cells xs all)

    -- what a routine without a definition does
    pub undefined_fits : (r : Routine) → Fitting program lawful base (undefined r os)
    undefined_fits (module_routine m given) = fitting_no_case program lawful base
    undefined_fits (operation_of T op) = invocation_fits T op
    undefined_fits (force_of t) = force_fits t
