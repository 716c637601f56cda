-- What the operation of a type asks is determined.
use Rattle.std.proofs.Common.{◌≡◌, ℕ, List, Some, sym, ap, ◌∙◌, subst}
use Rattle.std.proofs.lemmas.Option.{same_Some}
use Rattle.clu_types.specs.CluType.{CluType, null_type, bool_type, int_type, char_type, string_type, any_type, stream_type, array_of, sequence_of, record_of, struct_of, oneof_of, variant_of, proc_of, iter_of, cluster_of, parameter, Actuals}
use Rattle.clu_types.specs.Arena.{types_of}
use Rattle.clu_types.specs.declared.spec.OpSpec.{OpSpec}
use Rattle.clu_types.specs.declared.spec.Spec.{Spec}
use Rattle.clu_builtin.specs.Operation.{Needed, Operation}
use Rattle.clu_specs.specs.Seen.{Demanded}
use Rattle.clu_demands.specs.Meeting.{AsksOf, AsksOfBuiltin, AsksOfCluster, AsksOfSpec, AsksOfNamed, AsksOfRoutine, Asks}

builtin_once : (t : CluType) (op : List ℕ) (wanted : CluType) (a b : List Needed) → AsksOfBuiltin t op wanted a → AsksOfBuiltin t op wanted b → a ≡ b
builtin_once t op wanted a b p q =
    let same : p.0 ≡ q.0 = same_Some p.0 q.0 (sym p.1 ∙ q.1) in
    p.2.1 ∙ ap (λ (o : Operation). o.needs) same ∙ sym q.2.1

routine_once : (s : Spec) (given : Actuals) (o : OpSpec) (wanted : CluType) (a b : List Needed) → AsksOfRoutine s given o wanted a → AsksOfRoutine s given o wanted b → a ≡ b
routine_once s given o wanted a b p q = same_Some a b (sym p.2 ∙ q.2)

named_once : (s : Spec) (given : Actuals) (op : List ℕ) (wanted : CluType) (a b : List Needed) → AsksOfNamed s given op wanted a → AsksOfNamed s given op wanted b → a ≡ b
named_once s given op wanted a b p q =
    let same : p.0 ≡ q.0 = same_Some p.0 q.0 (sym p.1 ∙ q.1) in
    routine_once s given q.0 wanted a b (subst (λ (o : OpSpec). AsksOfRoutine s given o wanted a) same p.2) q.2

cluster_once : (specs : List Spec) (name : List ℕ) (given : Actuals) (op : List ℕ) (wanted : CluType) (a b : List Needed) → AsksOfCluster specs name given op wanted a → AsksOfCluster specs name given op wanted b → a ≡ b
cluster_once specs name given op wanted a b p q =
    let same : p.0 ≡ q.0 = same_Some p.0 q.0 (sym p.1 ∙ q.1) in
    let there : AsksOfSpec q.0 given op wanted a = subst (λ (s : Spec). AsksOfSpec s given op wanted a) same p.2 in
    named_once q.0 given op wanted a b there.1 q.2.1

once : (given : List Demanded) (specs : List Spec) (t : CluType) (op : List ℕ) (wanted : CluType) (a b : List Needed) → AsksOf given specs t op wanted a → AsksOf given specs t op wanted b → a ≡ b
once given specs null_type op wanted a b p q = builtin_once null_type op wanted a b p q
once given specs bool_type op wanted a b p q = builtin_once bool_type op wanted a b p q
once given specs int_type op wanted a b p q = builtin_once int_type op wanted a b p q
once given specs char_type op wanted a b p q = builtin_once char_type op wanted a b p q
once given specs string_type op wanted a b p q = builtin_once string_type op wanted a b p q
once given specs any_type op wanted a b p q = builtin_once any_type op wanted a b p q
once given specs stream_type op wanted a b p q = builtin_once stream_type op wanted a b p q
once given specs (array_of t) op wanted a b p q = builtin_once (array_of t) op wanted a b p q
once given specs (sequence_of t) op wanted a b p q = builtin_once (sequence_of t) op wanted a b p q
once given specs (record_of fs) op wanted a b p q = builtin_once (record_of fs) op wanted a b p q
once given specs (struct_of fs) op wanted a b p q = builtin_once (struct_of fs) op wanted a b p q
once given specs (oneof_of fs) op wanted a b p q = builtin_once (oneof_of fs) op wanted a b p q
once given specs (variant_of fs) op wanted a b p q = builtin_once (variant_of fs) op wanted a b p q
once given specs (proc_of args results signals) op wanted a b p q = builtin_once (proc_of args results signals) op wanted a b p q
once given specs (iter_of args results signals) op wanted a b p q = builtin_once (iter_of args results signals) op wanted a b p q
once given specs (cluster_of name actuals) op wanted a b p q = cluster_once specs name actuals op wanted a b p q
once given specs (parameter n) op wanted a b p q = p.3 ∙ sym q.3

pub asks_once : (given : List Demanded) (specs : List Spec) (n : Needed) (a b : List Needed) → Asks given specs n a → Asks given specs n b → a ≡ b
asks_once given specs n a b p q = once given specs n.of n.op n.wanted a b p q
