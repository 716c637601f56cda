-- What is noted at a node comes behind what was noted before.
use Rattle.std.proofs.Common.{◌≡◌, ◌∙◌, ℕ, suc, ◌+◌, Bool, true, false, if◌then◌else◌, List, [], ◌∷◌, ◌++◌, length, map, slice_get, Option, Some, None, refl, sym, ap, subst, append-nil, append_assoc, length-append}
use Rattle.std.specs.List.{flat_map}
use Rattle.clu_tree.specs.declared.node.NodeKind.{NodeKind}
use Rattle.clu_tree.specs.declared.node.NodeKind.TheVariants as kind
use Rattle.clu_types.specs.declared.term.TypeId.{TypeId}
use Rattle.clu_bindings.specs.declared.file.File.{File}
use Rattle.clu_bindings.specs.Tables.{optional, table_to, joined_to}
use Rattle.clu_bindings.specs.Readers.{kind_in, children_in}
use Rattle.clu_operations.specs.declared.found.Asked.{Asked}
use Rattle.clu_operations.specs.declared.found.FoundId.{FoundId}
use Rattle.clu_operations.specs.declared.finding.Finding.{Finding}
use Rattle.clu_operations.specs.Finding.{asked_by}
use Rattle.clu_typing.specs.declared.applied.Applied.{Applied}
use Rattle.clu_typing.specs.declared.applied.Applied.TheVariants as applied
use Rattle.clu_typing.specs.declared.facts.Operation.{Operation}
use Rattle.clu_typing.specs.declared.facts.Operation.TheVariants as operation
use Rattle.clu_typing.specs.declared.facts.Invocation.{Invocation}
use Rattle.clu_typing.specs.Nodes.{is_used}
use Rattle.clu_typing.specs.Invoking.{Lists, begun, with_found, with_asker, with_operation, with_invocation, with_invocation_of, with_argument, with_arguments, invoked, called_of, called, called_at, with_applied, noted as noted_behind}
use Rattle.clu_passes.proofs.Joined.{joined_suc}
use Rattle.clu_passes.specs.NotedLists.{One, Noted, nothing_noted, one_of, types_given, call_noted, children_noted, kind_noted, applied_noted, node_noted, spans, arguments_of, operations_of, begins_to, arguments_at, operations_at, spans_at, AreNoted}

-- the lists but for what asks something
record Core : Type 0 where
  starts : List ℕ
  operation_starts : List ℕ
  all : List Invocation
  arguments : List (Option TypeId)
  operations : List Operation

abbrev core : Lists → Core
core l = record { starts = l.starts; operation_starts = l.operation_starts; all = l.all; arguments = l.arguments; operations = l.operations }

abbrev name : Operation → Core → Core
name its c = record { starts = c.starts; operation_starts = c.operation_starts; all = c.all; arguments = c.arguments; operations = c.operations ++ its ∷ [] }

abbrev give : List (Option TypeId) → Core → Core
give more c = record { starts = c.starts; operation_starts = c.operation_starts; all = c.all; arguments = c.arguments ++ more; operations = c.operations }

abbrev put : Operation → ℕ → Core → Core
put its from c = record { starts = c.starts; operation_starts = c.operation_starts; all = c.all ++ record { operation = its; from = from; to = length c.arguments } ∷ []; arguments = c.arguments; operations = c.operations ++ its ∷ [] }

abbrev add : One → Core → Core
add one c = put one.operation (length c.arguments) (give one.arguments c)

abbrev add_all : List One → Core → Core
add_all [] c = c
add_all (one ∷ ones) c = add_all ones (add one c)

abbrev name_all : List Operation → Core → Core
name_all [] c = c
name_all (its ∷ more) c = name_all more (name its c)

-- ---- each step, but for what asks something

module _ (finding : Finding) where
  found_core : (asked : List Asked) (id : FoundId) (l : Lists) → core (with_found asked id l) ≡ core l
  found_core [] id l = refl
  found_core (one ∷ more) id l = refl

  pub asker_core : (its : Operation) (l : Lists) → core (with_asker finding its l) ≡ core l
  asker_core operation.Missing l = refl
  asker_core (operation.Found id) l = found_core (asked_by finding id) id l
  asker_core (operation.Object of) l = refl

  operation_core : (its : Operation) (l : Lists) → core (with_operation finding its l) ≡ name its (core l)
  operation_core its l = asker_core its (record l { operations = l.operations ++ its ∷ [] })

  invocation_core : (its : Operation) (from : ℕ) (l : Lists) → core (with_invocation finding its from l) ≡ put its from (core l)
  invocation_core its from l = operation_core its (record l { all = l.all ++ record { operation = its; from = from; to = length l.arguments } ∷ [] })

  invocation_of_core : (its : Operation) (of : TypeId) (l : Lists) → core (with_invocation_of finding its of l) ≡ add (one_of its (Some of ∷ [])) (core l)
  invocation_of_core its of l = invocation_core its (length l.arguments) (with_argument (Some of) l)

module _ (types : List (Option TypeId)) where
  give_on : (x : Option TypeId) (more : List (Option TypeId)) (c : Core) → give more (give (x ∷ []) c) ≡ give (x ∷ more) c
  give_on x more c = ap (λ (xs : List (Option TypeId)). record { starts = c.starts; operation_starts = c.operation_starts; all = c.all; arguments = xs; operations = c.operations }) (append_assoc c.arguments (x ∷ []) more)

  give_none : (c : Core) → c ≡ give [] c
  give_none c = ap (λ (xs : List (Option TypeId)). record { starts = c.starts; operation_starts = c.operation_starts; all = c.all; arguments = xs; operations = c.operations }) (sym (append-nil c.arguments))

  arguments_core : (ns : List ℕ) (l : Lists) → core (with_arguments types ns l) ≡ give (types_given types ns) (core l)
  arguments_core [] l = give_none (core l)
  arguments_core (n ∷ ns) l = arguments_core ns (with_argument (optional (slice_get types n)) l) ∙ give_on (optional (slice_get types n)) (types_given types ns) (core l)

  module _ (finding : Finding) where
    invoked_core : (its : Operation) (ns : List ℕ) (l : Lists) → core (invoked types finding its ns l) ≡ add (one_of its (types_given types ns)) (core l)
    invoked_core its ns l =
        invocation_core finding its (length l.arguments) (with_arguments types ns l)
        ∙ ap (put its (length l.arguments)) (arguments_core ns l)

    -- what is noted, behind what was noted before
    abbrev behind : Noted → Core → Core
    behind its c = name_all its.named (add_all its.invoked c)

    called_of_core : (of : Option TypeId) (ns : List ℕ) (l : Lists) → core (called_of types finding of ns l) ≡ behind (call_noted types of ns) (core l)
    called_of_core (Some of) ns l = invoked_core (operation.Object of) ns l
    called_of_core None ns l = refl

    called_core : (ns : List ℕ) (l : Lists) → core (called types finding ns l) ≡ behind (children_noted types ns) (core l)
    called_core [] l = refl
    called_core (n ∷ ns) l = called_of_core (optional (slice_get types n)) ns l

    called_at_core : (k : NodeKind) (ns : List ℕ) (l : Lists) → core (called_at types finding k ns l) ≡ behind (kind_noted types k ns) (core l)
    called_at_core kind.Call ns l = called_core ns l
    called_at_core _ ns l = refl

    applied_core : (its : Applied) (k : NodeKind) (ns : List ℕ) (l : Lists) → core (with_applied types finding its k ns l) ≡ behind (applied_noted types its k ns) (core l)
    applied_core (applied.Invoked first None) k ns l = invoked_core first.operation ns l
    applied_core (applied.Invoked first (Some second)) k ns l =
        invocation_of_core finding second.operation second.of (invoked types finding first.operation ns l)
        ∙ ap (add (one_of second.operation (Some second.of ∷ []))) (invoked_core first.operation ns l)
    applied_core (applied.Named (Some its)) k ns l = operation_core finding its.operation l
    applied_core (applied.Named None) k ns l = operation_core finding operation.Missing l
    applied_core applied.Nothing k ns l = called_at_core k ns l

    node_core : (f : File) (its : Applied) (n : ℕ) (l : Lists) → core (noted_behind f types finding its n l) ≡ behind (node_noted types f its n) (core l)
    node_core f its n l = by (is_used f n)
      where
        by : (b : Bool) → core (if b then with_applied types finding its (kind_in f n) (children_in f n) l else l) ≡ behind (if b then applied_noted types its (kind_in f n) (children_in f n) else nothing_noted) (core l)
        by true = applied_core its (kind_in f n) (children_in f n) l
        by false = refl

-- ---- all of a node at once

record Comes (before behind : Core) (its : Noted) : Type 0 where
  starts : behind.starts ≡ before.starts
  operation_starts : behind.operation_starts ≡ before.operation_starts
  all : behind.all ≡ before.all ++ spans (length before.arguments) its.invoked
  arguments : behind.arguments ≡ before.arguments ++ arguments_of its
  operations : behind.operations ≡ before.operations ++ operations_of its

added : (ones : List One) (c : Core) → Comes c (add_all ones c) (record { invoked = ones; named = [] })
added [] c = record { starts = refl; operation_starts = refl; all = sym (append-nil c.all); arguments = sym (append-nil c.arguments); operations = sym (append-nil c.operations) }
added (one ∷ ones) c =
    let rest : Comes (add one c) (add_all ones (add one c)) (record { invoked = ones; named = [] }) = added ones (add one c) in
    let long : length (c.arguments ++ one.arguments) ≡ length c.arguments + length one.arguments = length-append c.arguments one.arguments in
    record {
      starts = rest.starts;
      operation_starts = rest.operation_starts;
      all =
          rest.all
          ∙ ap (λ (to : ℕ). (c.all ++ record { operation = one.operation; from = length c.arguments; to = to } ∷ []) ++ spans to ones) long
          ∙ append_assoc c.all (record { operation = one.operation; from = length c.arguments; to = length c.arguments + length one.arguments } ∷ []) (spans (length c.arguments + length one.arguments) ones);
      arguments = rest.arguments ∙ append_assoc c.arguments one.arguments (flat_map (λ (x : One). x.arguments) ones);
      operations =
          rest.operations ∙ ap (λ (xs : List Operation). (c.operations ++ one.operation ∷ []) ++ xs) (append-nil (map (λ (x : One). x.operation) ones))
          ∙ append_assoc c.operations (one.operation ∷ []) (map (λ (x : One). x.operation) ones)
          ∙ ap (λ (xs : List Operation). c.operations ++ xs) (sym (append-nil (one.operation ∷ map (λ (x : One). x.operation) ones)));
    }

record Names (before behind : Core) (more : List Operation) : Type 0 where
  starts : behind.starts ≡ before.starts
  operation_starts : behind.operation_starts ≡ before.operation_starts
  all : behind.all ≡ before.all
  arguments : behind.arguments ≡ before.arguments
  operations : behind.operations ≡ before.operations ++ more

all_named : (more : List Operation) (c : Core) → Names c (name_all more c) more
all_named [] c = record { starts = refl; operation_starts = refl; all = refl; arguments = refl; operations = sym (append-nil c.operations) }
all_named (its ∷ more) c =
    let rest : Names (name its c) (name_all more (name its c)) more = all_named more (name its c) in
    record { starts = rest.starts; operation_starts = rest.operation_starts; all = rest.all; arguments = rest.arguments; operations = rest.operations ∙ append_assoc c.operations (its ∷ []) more }

comes : (its : Noted) (c : Core) → Comes c (name_all its.named (add_all its.invoked c)) its
comes its c =
    let first : Comes c (add_all its.invoked c) (record { invoked = its.invoked; named = [] }) = added its.invoked c in
    let second : Names (add_all its.invoked c) (name_all its.named (add_all its.invoked c)) its.named = all_named its.named (add_all its.invoked c) in
    record {
      starts = second.starts ∙ first.starts;
      operation_starts = second.operation_starts ∙ first.operation_starts;
      all = second.all ∙ first.all;
      arguments = second.arguments ∙ first.arguments;
      operations =
          second.operations ∙ ap (λ (xs : List Operation). xs ++ its.named) first.operations
          ∙ append_assoc c.operations (map (λ (x : One). x.operation) its.invoked ++ []) its.named
          ∙ ap (λ (xs : List Operation). c.operations ++ (xs ++ its.named)) (append-nil (map (λ (x : One). x.operation) its.invoked));
    }

-- ---- of one node more

begins_suc : {A : Type 0} (f : ℕ → List A) (n : ℕ) → begins_to f (suc n) ≡ begins_to f n ++ length (joined_to f n) ∷ []
unfolding table_to
begins_suc f n = refl

module _ (noted : ℕ → Noted) where
  more_noted : (l new : Lists) (m : ℕ) → AreNoted noted l m → Comes (core (begun l)) (core new) (noted m) → AreNoted noted new (suc m)
  more_noted l new m are its = record {
    all =
        its.all ∙ ap (λ (xs : List Invocation). xs ++ spans (length l.arguments) (noted m).invoked) are.all
        ∙ ap (λ (xs : List (Option TypeId)). joined_to (spans_at noted) m ++ spans (length xs) (noted m).invoked) are.arguments
        ∙ sym (joined_suc (spans_at noted) m);
    arguments = its.arguments ∙ ap (λ (xs : List (Option TypeId)). xs ++ arguments_of (noted m)) are.arguments ∙ sym (joined_suc (arguments_at noted) m);
    operations = its.operations ∙ ap (λ (xs : List Operation). xs ++ operations_of (noted m)) are.operations ∙ sym (joined_suc (operations_at noted) m);
    starts =
        its.starts ∙ ap (λ (xs : List ℕ). xs ++ length l.all ∷ []) are.starts
        ∙ ap (λ (xs : List Invocation). begins_to (spans_at noted) m ++ length xs ∷ []) are.all
        ∙ sym (begins_suc (spans_at noted) m);
    operation_starts =
        its.operation_starts ∙ ap (λ (xs : List ℕ). xs ++ length l.operations ∷ []) are.operation_starts
        ∙ ap (λ (xs : List Operation). begins_to (operations_at noted) m ++ length xs ∷ []) are.operations
        ∙ sym (begins_suc (operations_at noted) m);
  }

  pub noted_more : (f : File) (types : List (Option TypeId)) (finding : Finding) (its : Applied) (l : Lists) (m : ℕ) → AreNoted noted l m → noted m ≡ node_noted types f its m → AreNoted noted (noted_behind f types finding its m (begun l)) (suc m)
  noted_more f types finding its l m are here =
      let one : Comes (core (begun l)) (core (noted_behind f types finding its m (begun l))) (node_noted types f its m) =
      subst (λ (c : Core). Comes (core (begun l)) c (node_noted types f its m)) (sym (node_core types finding f its m (begun l))) (comes (node_noted types f its m) (core (begun l))) in
      more_noted l (noted_behind f types finding its m (begun l)) m are (subst (λ (x : Noted). Comes (core (begun l)) (core (noted_behind f types finding its m (begun l))) x) (sym here) one)

  -- what asks something stands in a list of its own
  pub noted_still : (finding : Finding) (its : Operation) (l : Lists) (m : ℕ) → AreNoted noted l m → AreNoted noted (with_asker finding its l) m
  noted_still finding its l m are =
      let same : core (with_asker finding its l) ≡ core l = asker_core finding its l in
      record {
        all = ap (λ (c : Core). c.all) same ∙ are.all;
        arguments = ap (λ (c : Core). c.arguments) same ∙ are.arguments;
        operations = ap (λ (c : Core). c.operations) same ∙ are.operations;
        starts = ap (λ (c : Core). c.starts) same ∙ are.starts;
        operation_starts = ap (λ (c : Core). c.operation_starts) same ∙ are.operation_starts;
      }
