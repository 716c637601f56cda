-- What asks something at a node comes behind what asks at the nodes before it, and is read there.
use Rattle.std.proofs.Common.{◌≡◌, ◌∙◌, ◌<◌, ◌≤◌, ℕ, suc, Bool, true, false, if◌then◌else◌, List, [], ◌∷◌, ◌++◌, length, slice_get, Option, Some, None, refl, sym, ap, append-nil, append_assoc}
use Rattle.clu_tree.specs.declared.node.NodeKind.{NodeKind}
use Rattle.clu_tree.specs.declared.node.NodeKind.TheVariants as kind
use Rattle.clu_types.specs.declared.term.TypeId.{TypeId}
use Rattle.clu_bindings.specs.declared.file.File.{File}
use Rattle.clu_bindings.specs.Readers.{kind_in, children_in}
use Rattle.clu_bindings.specs.Tables.{optional, items_at, joined_to, table_to}
use Rattle.clu_operations.specs.declared.found.Asked.{Asked}
use Rattle.clu_operations.specs.declared.found.FoundId.{FoundId}
use Rattle.clu_operations.specs.declared.finding.Finding.{Finding}
use Rattle.clu_operations.specs.Finding.{asked_by}
use Rattle.clu_typing.specs.declared.applied.Applied.{Applied}
use Rattle.clu_typing.specs.declared.applied.Applied.TheVariants as applied
use Rattle.clu_typing.specs.declared.facts.Operation.{Operation}
use Rattle.clu_typing.specs.declared.facts.Operation.TheVariants as operation
use Rattle.clu_typing.specs.Invoking.{Lists, begun, with_found, with_asker, with_operation, with_invocation, with_invocation_of, with_argument, with_arguments, invoked, called_of, called, called_at, with_applied, noted as noted_behind}
use Rattle.clu_typing.specs.Nodes.{is_used}
use Rattle.clu_passes.specs.NotedLists.{Noted, nothing_noted, call_noted, children_noted, kind_noted, applied_noted, node_noted, operations_of, begins_to, asker_if, asker_of, askers_of, HaveAskers}
use Rattle.clu_passes.proofs.Joined.{AreStarts, table_size, table_at, joined_suc, joined_at, joined_past}

-- the list of what asks, and where that of each node begins
record Part : Type 0 where
  askers : List FoundId
  starts : List ℕ

abbrev part : Lists → Part
part l = record { askers = l.askers; starts = l.asker_starts }

abbrev add : List FoundId → Part → Part
add more p = record { askers = p.askers ++ more; starts = p.starts }

add_none : (p : Part) → p ≡ add [] p
add_none p = ap (λ (xs : List FoundId). let it : Part = record { askers = xs; starts = p.starts } in it) (sym (append-nil p.askers))

add_on : (xs ys : List FoundId) (p : Part) → add ys (add xs p) ≡ add (xs ++ ys) p
add_on xs ys p = ap (λ (all : List FoundId). let it : Part = record { askers = all; starts = p.starts } in it) (append_assoc p.askers xs ys)

add_as : (xs ys : List FoundId) → xs ≡ ys → (p : Part) → add xs p ≡ add ys p
add_as xs ys e p = ap (λ (more : List FoundId). add more p) e

-- ---- each step

module _ (finding : Finding) where
  found_part : (asked : List Asked) (id : FoundId) (l : Lists) → part (with_found asked id l) ≡ add (asker_if asked id) (part l)
  found_part [] id l = add_none (part l)
  found_part (one ∷ more) id l = refl

  pub asker_part : (its : Operation) (l : Lists) → part (with_asker finding its l) ≡ add (asker_of finding its) (part l)
  asker_part operation.Missing l = add_none (part l)
  asker_part (operation.Found id) l = found_part (asked_by finding id) id l
  asker_part (operation.Object of) l = add_none (part l)

  operation_part : (its : Operation) (l : Lists) → part (with_operation finding its l) ≡ add (asker_of finding its) (part l)
  operation_part its l = asker_part its (record l { operations = l.operations ++ its ∷ [] })

  invocation_part : (its : Operation) (from : ℕ) (l : Lists) → part (with_invocation finding its from l) ≡ add (asker_of finding its) (part l)
  invocation_part its from l = operation_part its (record l { all = l.all ++ record { operation = its; from = from; to = length l.arguments } ∷ [] })

  invocation_of_part : (its : Operation) (of : TypeId) (l : Lists) → part (with_invocation_of finding its of l) ≡ add (asker_of finding its) (part l)
  invocation_of_part its of l = invocation_part its (length l.arguments) (with_argument (Some of) l)

module _ (types : List (Option TypeId)) where
  arguments_part : (ns : List ℕ) (l : Lists) → part (with_arguments types ns l) ≡ part l
  arguments_part [] l = refl
  arguments_part (n ∷ ns) l = arguments_part ns (with_argument (optional (slice_get types n)) l)

  module _ (finding : Finding) where
    invoked_part : (its : Operation) (ns : List ℕ) (l : Lists) → part (invoked types finding its ns l) ≡ add (asker_of finding its) (part l)
    invoked_part its ns l = invocation_part finding its (length l.arguments) (with_arguments types ns l) ∙ ap (add (asker_of finding its)) (arguments_part ns l)

    abbrev asked_at : Noted → List FoundId
    asked_at its = askers_of finding (operations_of its)

    called_of_part : (of : Option TypeId) (ns : List ℕ) (l : Lists) → part (called_of types finding of ns l) ≡ add (asked_at (call_noted types of ns)) (part l)
    called_of_part (Some of) ns l = invoked_part (operation.Object of) ns l
    called_of_part None ns l = add_none (part l)

    called_part : (ns : List ℕ) (l : Lists) → part (called types finding ns l) ≡ add (asked_at (children_noted types ns)) (part l)
    called_part [] l = add_none (part l)
    called_part (n ∷ ns) l = called_of_part (optional (slice_get types n)) ns l

    called_at_part : (k : NodeKind) (ns : List ℕ) (l : Lists) → part (called_at types finding k ns l) ≡ add (asked_at (kind_noted types k ns)) (part l)
    called_at_part kind.Call ns l = called_part ns l
    called_at_part _ ns l = add_none (part l)

    one_more : (its : Operation) (p : Part) → add (asker_of finding its) p ≡ add (asker_of finding its ++ []) p
    one_more its p = add_as (asker_of finding its) (asker_of finding its ++ []) (sym (append-nil (asker_of finding its))) p

    applied_part : (its : Applied) (k : NodeKind) (ns : List ℕ) (l : Lists) → part (with_applied types finding its k ns l) ≡ add (asked_at (applied_noted types its k ns)) (part l)
    applied_part (applied.Invoked first None) k ns l = invoked_part first.operation ns l ∙ one_more first.operation (part l)
    applied_part (applied.Invoked first (Some second)) k ns l =
        invocation_of_part finding second.operation second.of (invoked types finding first.operation ns l)
        ∙ ap (add (asker_of finding second.operation)) (invoked_part first.operation ns l)
        ∙ one_more second.operation (add (asker_of finding first.operation) (part l))
        ∙ add_on (asker_of finding first.operation) (asker_of finding second.operation ++ []) (part l)
    applied_part (applied.Named (Some its)) k ns l = operation_part finding its.operation l ∙ one_more its.operation (part l)
    applied_part (applied.Named None) k ns l = operation_part finding operation.Missing l
    applied_part applied.Nothing k ns l = called_at_part k ns l

    pub node_part : (f : File) (its : Applied) (n : ℕ) (l : Lists) → part (noted_behind f types finding its n l) ≡ add (asked_at (node_noted types f its n)) (part l)
    node_part f its n l = by (is_used f n)
      where
        by : (b : Bool) → part (if b then with_applied types finding its (kind_in f n) (children_in f n) l else l) ≡ add (asked_at (if b then applied_noted types its (kind_in f n) (children_in f n) else nothing_noted)) (part l)
        by true = applied_part its (kind_in f n) (children_in f n) l
        by false = add_none (part l)

-- ---- of one node more

begins_suc : {A : Type 0} (f : ℕ → List A) (n : ℕ) → begins_to f (suc n) ≡ begins_to f n ++ length (joined_to f n) ∷ []
unfolding table_to
begins_suc f n = refl

module _ (askers : ℕ → List FoundId) where
  pub no_askers : (l : Lists) → l.askers ≡ [] → l.asker_starts ≡ [] → HaveAskers askers l 0
  unfolding joined_to table_to
  no_askers l none starts = record { askers_are = none; starts = starts }

  -- what its operations ask, and then what a module asks that it names
  pub askers_more : (f : File) (types : List (Option TypeId)) (before after : Finding) (its : Applied) (module_ : Operation) (l : Lists) (m : ℕ) → HaveAskers askers l m
      → askers m ≡ askers_of before (operations_of (node_noted types f its m)) ++ asker_of after module_ → HaveAskers askers (with_asker after module_ (noted_behind f types before its m (begun l))) (suc m)
  askers_more f types before after its module_ l m are here =
      let all : part (with_asker after module_ (noted_behind f types before its m (begun l))) ≡ add (askers m) (part (begun l)) =
      asker_part after module_ (noted_behind f types before its m (begun l))
      ∙ ap (add (asker_of after module_)) (node_part types before f its m (begun l))
      ∙ add_on (askers_of before (operations_of (node_noted types f its m))) (asker_of after module_) (part (begun l))
      ∙ add_as (askers_of before (operations_of (node_noted types f its m)) ++ asker_of after module_) (askers m) (sym here) (part (begun l)) in
      record {
        askers_are = ap (λ (p : Part). p.askers) all ∙ ap (λ (xs : List FoundId). xs ++ askers m) are.askers_are ∙ sym (joined_suc askers m);
        starts =
            ap (λ (p : Part). p.starts) all
            ∙ ap (λ (xs : List ℕ). xs ++ length l.askers ∷ []) are.starts
            ∙ ap (λ (xs : List FoundId). begins_to askers m ++ length xs ∷ []) are.askers_are
            ∙ sym (begins_suc askers m);
      }

  -- ---- read from the lists

  module _ (l : Lists) (m : ℕ) (are : HaveAskers askers l m) where
    starts_are : AreStarts askers l.asker_starts m
    starts_are = record {
      size = ap length are.starts ∙ table_size (λ n. length (joined_to askers n)) m;
      at = λ n less. ap (λ (xs : List ℕ). slice_get xs n) are.starts ∙ table_at (λ n. length (joined_to askers n)) m n less;
    }

    pub askers_read : (n : ℕ) → n < m → items_at l.askers l.asker_starts n ≡ askers n
    askers_read n less = ap (λ (xs : List FoundId). items_at xs l.asker_starts n) are.askers_are ∙ joined_at askers l.asker_starts m n starts_are less

    -- what is no node asks nothing
    pub none_read : (n : ℕ) → m ≤ n → items_at l.askers l.asker_starts n ≡ []
    none_read n past = ap (λ (xs : List FoundId). items_at xs l.asker_starts n) are.askers_are ∙ joined_past askers l.asker_starts m n starts_are past
