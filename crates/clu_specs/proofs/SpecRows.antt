-- Demands and operations in a row, as a loop reads them while its arena grows.
use Rattle.std.proofs.Common.{◌≡◌, ℕ, ◌<◌, Bool, List, [], ◌∷◌, ◌++◌, length, map, Option, Ok, subst, refl}
use Rattle.std.proofs.lemmas.List.{map_push}
use Rattle.clu_types.specs.CluType.{CluType}
use Rattle.clu_types.specs.Arena.{types_at, signals_at, types_of, HeadingBelow, Grows}
use Rattle.clu_types.specs.declared.term.Heading.{Heading}
use Rattle.clu_types.specs.declared.term.Term.{Term}
use Rattle.clu_types.specs.declared.spec.Demand.{Demand}
use Rattle.clu_types.specs.declared.spec.OpSpec.{OpSpec}
use Rattle.clu_types.specs.declared.spec.ParamKind.{ParamKind}
use Rattle.clu_types.proofs.Arenas.{types_grown}
use Rattle.clu_types.proofs.Parts.{types_same, signals_same}
use Rattle.clu_specs.specs.declared.scope.Scope.{Scope}
use Rattle.clu_specs.specs.Reading.{literal_at}
use Rattle.clu_specs.specs.TypeReading.{Reader, heading_read}
use Rattle.clu_specs.specs.Seen.{cluster, demand_seen, op_seen}
use Rattle.clu_specs.specs.Specifications.{DemandsBelow, OpBelow, OpsBelow}
use Rattle.clu_specs.specs.SpecReading.{kind_read, kinds_step, next_kind, demand_read, demands_step, all_demands_read, operation_read, named_operation_read, operations_step, operations_read, cluster_form_read}

pub kinds_made : (made : List ParamKind) (k : ParamKind) (bytes after : List ℕ) → kind_read bytes ≡ Ok (k, after) → kinds_step made bytes ≡ Ok (made ++ k ∷ [], after)
kinds_made made k bytes after e = rw e refl

-- so many were made
pub counted : (count n : ℕ) (bytes : List ℕ) (o : Option (List ℕ)) → count ≡ n → next_kind count bytes ≡ o → next_kind n bytes ≡ o
counted count n bytes o e h = subst (λ (k : ℕ). next_kind k bytes ≡ o) e h

-- what was made over an arena is the same over one that has grown from it
module _ (new newer : List Term) (g : Grows new newer) where
  demand_kept : (d : Demand) → d.wanted.0 < length new → demand_seen (types_of newer) d ≡ demand_seen (types_of new) d
  demand_kept d b = rw (types_grown new newer g d.wanted b) refl

  pub demands_kept : (ds : List Demand) → DemandsBelow (length new) ds → map (demand_seen (types_of newer)) ds ≡ map (demand_seen (types_of new)) ds
  demands_kept [] b = refl
  demands_kept (d ∷ ds) b = let h = demand_kept d b.0 in let t = demands_kept ds b.1 in cc

  args_kept : (h : Heading) → HeadingBelow (length new) h → types_at (types_of newer) h.args ≡ types_at (types_of new) h.args
  args_kept h b = types_same (types_of newer) (types_of new) (length new) (types_grown new newer g) h.args b.0

  results_kept : (h : Heading) → HeadingBelow (length new) h → types_at (types_of newer) h.results ≡ types_at (types_of new) h.results
  results_kept h b = types_same (types_of newer) (types_of new) (length new) (types_grown new newer g) h.results b.1

  signals_kept : (h : Heading) → HeadingBelow (length new) h → signals_at (types_of newer) h.signals ≡ signals_at (types_of new) h.signals
  signals_kept h b = signals_same (types_of newer) (types_of new) (length new) (types_grown new newer g) h.signals b.2

  op_kept : (op : OpSpec) → OpBelow (length new) op → op_seen (types_of newer) op ≡ op_seen (types_of new) op
  op_kept op b = rw (args_kept op.heading b.0, results_kept op.heading b.0, signals_kept op.heading b.0, demands_kept op.demands b.1) refl

  ops_kept : (ops : List OpSpec) → OpsBelow (length new) ops → map (op_seen (types_of newer)) ops ≡ map (op_seen (types_of new)) ops
  ops_kept [] b = refl
  ops_kept (op ∷ ops) b = let h = op_kept op b.0 in let t = ops_kept ops b.1 in cc

  -- what a turn of each loop has made
  pub demands_made : (scope : Scope) (part : Reader CluType) (made : List Demand) (d : Demand) (param : ℕ) (previous name bytes after : List ℕ) → name ≡ d.op → DemandsBelow (length new) made
      → demand_read scope part param previous bytes ≡ Ok (demand_seen (types_of newer) d, after)
      → demands_step scope part (map (demand_seen (types_of new)) made, param, previous) bytes ≡ Ok ((map (demand_seen (types_of newer)) (made ++ d ∷ []), d.param, name), after)
  demands_made scope part made d param previous name bytes after same b p = rw (same, p, map_push (demand_seen (types_of newer)) made d, demands_kept made b) refl

  pub operations_made : (scope : Scope) (part : Reader CluType) (made : List OpSpec) (op : OpSpec) (previous name bytes after : List ℕ) → name ≡ op.name → OpsBelow (length new) made
      → named_operation_read scope part previous bytes ≡ Ok (op_seen (types_of newer) op, after)
      → operations_step scope part (map (op_seen (types_of new)) made, previous) bytes ≡ Ok ((map (op_seen (types_of newer)) (made ++ op ∷ []), name), after)
  operations_made scope part made op previous name bytes after same b p = rw (same, p, map_push (op_seen (types_of newer)) made op, ops_kept made b) refl

  -- a heading, and then demands
  pub operation_made : (scope : Scope) (part : Reader CluType) (name : List ℕ) (iter : Bool) (bytes behind_heading rest : List ℕ) (op : OpSpec) → op.name ≡ name → op.iter ≡ iter → HeadingBelow (length new) op.heading
      → heading_read part iter bytes ≡ Ok ((types_at (types_of new) op.heading.args, types_at (types_of new) op.heading.results, signals_at (types_of new) op.heading.signals), behind_heading)
      → all_demands_read scope part behind_heading ≡ Ok (map (demand_seen (types_of newer)) op.demands, rest)
      → operation_read scope part name iter bytes ≡ Ok (op_seen (types_of newer) op, rest)
  unfolding operation_read
  operation_made scope part name iter bytes behind_heading rest op n i b h d = rw (h, d, args_kept op.heading b, results_kept op.heading b, signals_kept op.heading b, n, i) refl

  -- demands, and then operations
  pub form_made : (scope : Scope) (part : Reader CluType) (bytes behind_demands behind_is rest : List ℕ) (ds : List Demand) (ops : List OpSpec) → DemandsBelow (length new) ds
      → all_demands_read scope part bytes ≡ Ok (map (demand_seen (types_of new)) ds, behind_demands)
      → literal_at (105 ∷ 115 ∷ []) behind_demands ≡ Ok behind_is
      → operations_read scope part behind_is ≡ Ok (map (op_seen (types_of newer)) ops, rest)
      → cluster_form_read scope part bytes ≡ Ok (cluster (map (demand_seen (types_of newer)) ds) (map (op_seen (types_of newer)) ops), rest)
  unfolding cluster_form_read
  form_made scope part bytes behind_demands behind_is rest ds ops b d l o = rw (d, l, o, demands_kept ds b) refl
