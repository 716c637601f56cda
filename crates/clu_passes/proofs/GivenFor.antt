-- What is given at a node of a type parameter as it is asked for, told by the heads, is what the definition finds.
use Rattle.std.proofs.Common.{◌≡◌, ◌∙◌, ℕ, Bool, true, false, if◌then◌else◌, List, option_map, Option, Some, None, refl, sym, ap, ap₂}
use Rattle.std.specs.Option.{option_or}
use Rattle.clu_types.specs.CluType.{CluType}
use Rattle.clu_meaning.specs.Scoping.{Scope}
use Rattle.clu_checking.specs.Specifications.{Demand, Specification}
use Rattle.clu_checking.specs.Files.{File, round, routine_round, cluster_round}
use Rattle.clu_checking.specs.Operations.{Found, may_fit, given_of, given_by_sets, given_by_routine, given_by_cluster, where_at}
use Rattle.clu_bindings.specs.declared.file.Headed.{Headed}
use Rattle.clu_operations.specs.Clauses.{set_round}
use Rattle.clu_operations.specs.Given.{told_given}
use Rattle.clu_operations.specs.Told.{Told}
use Rattle.clu_type_rules.specs.Meeting as tables
use Rattle.clu_type_rules.specs.Needs.{told_fitting, told_for}
use Rattle.clu_passes.specs.ConstantTables.{file_with}
use Rattle.clu_passes.specs.FoundTold.{found_of, TellHeads}
use Rattle.clu_passes.specs.Met.{given_counted, fitting, given_for}
use Rattle.clu_passes.proofs.GivenFound.{map_or, by_routine, by_cluster, by_sets}

or_assoc : {A : Type 0} (a b c : Option A) → option_or (option_or a b) c ≡ option_or a (option_or b (option_or c None))
or_assoc (Some a) b c = refl
or_assoc None (Some b) c = refl
or_assoc None None (Some c) = refl
or_assoc None None None = refl

module _ (wanted : CluType) where
  abbrev found_fitting : Option Found → Option Found
  found_fitting (Some it) = if may_fit it.type wanted then Some it else None
  found_fitting None = None

  fit_same : (o : Option CluType) → tables.may_fit o wanted ≡ may_fit o wanted
  fit_same (Some t) = refl
  fit_same None = refl

  mapped_if : {A : Type 0} (g : A → Found) (a : A) (b : Bool) → option_map g (if b then Some a else None) ≡ (if b then Some (g a) else None)
  mapped_if g a true = refl
  mapped_if g a false = refl

  told_fits : (o : Option Told) → option_map found_of (tables.fitting wanted o) ≡ found_fitting (option_map found_of o)
  told_fits (Some it) = ap (λ (b : Bool). option_map found_of (if b then Some it else None)) (fit_same it.type) ∙ mapped_if found_of it (may_fit it.type wanted)
  told_fits None = refl

  demand_fits : (o : Option Demand) → option_map given_counted (fitting wanted o) ≡ found_fitting (option_map given_counted o)
  demand_fits (Some d) = mapped_if given_counted d (may_fit d.wanted wanted)
  demand_fits None = refl

  fits : (o : Option Told) (d : Option Demand) → option_map found_of o ≡ option_map given_counted d → option_map found_of (tables.fitting wanted o) ≡ option_map given_counted (fitting wanted d)
  fits o d e = told_fits o ∙ ap found_fitting e ∙ sym (demand_fits d)

module _ (h : Headed) (scope : Scope) (library : List Specification) (refused : List ℕ) (types : List CluType) (tell : TellHeads h (file_with h.file scope library refused) types) where
  abbrev f : File
  f = file_with h.file scope library refused

  module _ (n k : ℕ) (wanted : CluType) (name : List ℕ) where
    abbrev told_by : Option ℕ → Option Told
    told_by node = told_fitting h types k wanted node name

    abbrev of_routine : Option Demand
    of_routine = fitting wanted (given_of (given_by_routine f (routine_round f n)) k name)

    abbrev of_cluster : Option Demand
    of_cluster = fitting wanted (given_of (given_by_cluster f (cluster_round f n)) k name)

    abbrev of_sets : Option Demand
    of_sets = fitting wanted (given_of (given_by_sets f n) k name)

    routine_is : option_map found_of (told_by (round f n).routine) ≡ option_map given_counted of_routine
    routine_is =
        fits wanted (told_given h types (round f n).routine k name) (given_of (given_by_routine f (routine_round f n)) k name)
        (by_routine h scope library refused types tell n k name (round f n).routine refl)

    cluster_is : option_map found_of (told_by (round f n).cluster) ≡ option_map given_counted of_cluster
    cluster_is =
        fits wanted (told_given h types (round f n).cluster k name) (given_of (given_by_cluster f (cluster_round f n)) k name)
        (by_cluster h scope library refused types tell n k name (round f n).cluster refl)

    sets_are : option_map found_of (told_by (set_round h.file n k)) ≡ option_map given_counted of_sets
    sets_are =
        fits wanted (told_given h types (set_round h.file n k) k name) (given_of (given_by_sets f n) k name)
        (by_sets h scope library refused types tell n k name)

    pub for_same : option_map found_of (told_for h types k wanted n name) ≡ option_map given_counted (given_for (where_at f n) k name wanted)
    for_same =
        map_or found_of (option_or (told_by (round f n).routine) (told_by (round f n).cluster)) (told_by (set_round h.file n k))
        ∙ ap₂ (λ (a b : Option Found). option_or a b)
        (map_or found_of (told_by (round f n).routine) (told_by (round f n).cluster)
        ∙ ap₂ (λ (a b : Option Found). option_or a b) routine_is cluster_is
        ∙ sym (map_or given_counted of_routine of_cluster))
        sets_are
        ∙ sym (map_or given_counted (option_or of_routine of_cluster) of_sets)
        ∙ ap (option_map given_counted) (or_assoc of_routine of_cluster of_sets)
