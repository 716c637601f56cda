-- What operations ask that were found at a node, by all that was found later, is what the definitions say.
use Rattle.std.proofs.Common.{◌≡◌, ◌∙◌, ◌<◌, ℕ, Bool, true, false, if◌then◌else◌, List, [], ◌∷◌, ◌++◌, length, map, flat_map, slice_get, Option, Some, None, refl, sym, ap, ap₂, append-nil}
use Rattle.std.specs.List.{AllByRecursion}
use Rattle.std.proofs.lemmas.List.Concat.{flat_map-append}
use Rattle.clu_types.specs.Arena.{Grows, types_of}
use Rattle.clu_types.specs.declared.term.Term.{Term}
use Rattle.clu_types.specs.declared.term.TypeId.{TypeId}
use Rattle.clu_tree.specs.declared.node.NodeKind.{NodeKind}
use Rattle.clu_tree.specs.declared.node.NodeKind.TheVariants as kind
use Rattle.clu_checking.specs.Files.{File}
use Rattle.clu_checking.specs.Invocations as invoking
use Rattle.clu_checking.specs.Operations.{Asked, Found}
use Rattle.clu_bindings.specs.declared.file.File.{File as Read}
use Rattle.clu_bindings.specs.Readers.{kind_in, children_in}
use Rattle.clu_bindings.specs.Tables.{optional}
use Rattle.clu_operations.specs.declared.found.Asked.{Asked as KeptAsked}
use Rattle.clu_operations.specs.declared.found.FoundId.{FoundId}
use Rattle.clu_operations.specs.declared.finding.Finding.{Finding}
use Rattle.clu_operations.specs.Finding.{AreWithin, Follows, asked_by}
use Rattle.clu_operations.specs.Told.{Ask, Told, ask_told}
use Rattle.clu_operations.proofs.Lasting.{told_stays}
use Rattle.clu_typing.specs.declared.applied.Applied.{Applied}
use Rattle.clu_typing.specs.declared.applied.Applied.TheVariants as applied
use Rattle.clu_typing.specs.declared.facts.Facts.{Facts}
use Rattle.clu_typing.specs.declared.facts.Operation.{Operation}
use Rattle.clu_typing.specs.declared.facts.Operation.TheVariants as operation
use Rattle.clu_typing.specs.Nodes.{is_used}
use Rattle.clu_type_rules.specs.Askers.{asks_by, asks_by_all}
use Rattle.clu_type_rules.specs.Needs.{World, world}
use Rattle.clu_passes.specs.FactTables.{asks_found, asks_noted}
use Rattle.clu_passes.specs.Met.{asked_told}
use Rattle.clu_passes.specs.NotedLists.{nothing_noted, call_noted, children_noted, kind_noted, applied_noted, node_noted, operations_of, asker_if, asker_of, askers_of, AreWhollyFound}
use Rattle.clu_passes.proofs.StandsLater.{AreThere, IsThere}

-- ---- what is noted of a node was found

module _ (founds : ℕ) where
  abbrev pub AllThere : List Operation → Type 0
  AllThere os = AllByRecursion (IsThere founds) os

  module _ (types : List (Option TypeId)) where
    call_there : (of : Option TypeId) (ns : List ℕ) → AllThere (operations_of (call_noted types of ns))
    call_there (Some of) ns = (tt, tt)
    call_there None ns = tt

    children_there : (ns : List ℕ) → AllThere (operations_of (children_noted types ns))
    children_there [] = tt
    children_there (n ∷ ns) = call_there (optional (slice_get types n)) ns

    kind_there : (k : NodeKind) (ns : List ℕ) → AllThere (operations_of (kind_noted types k ns))
    kind_there kind.Call ns = children_there ns
    kind_there _ ns = tt

    applied_there : (its : Applied) (k : NodeKind) (ns : List ℕ) → AreThere founds its → AllThere (operations_of (applied_noted types its k ns))
    applied_there (applied.Invoked first None) k ns there = (there.0, tt)
    applied_there (applied.Invoked first (Some second)) k ns there = (there.0, (there.1, tt))
    applied_there (applied.Named (Some its)) k ns there = (there, tt)
    applied_there (applied.Named None) k ns there = (tt, tt)
    applied_there applied.Nothing k ns there = kind_there k ns

    pub node_there : (r : Read) (its : Applied) (n : ℕ) → AreThere founds its → AllThere (operations_of (node_noted types r its n))
    node_there r its n there = by (is_used r n)
      where
        by : (b : Bool) → AllThere (operations_of (if b then applied_noted types its (kind_in r n) (children_in r n) else nothing_noted))
        by true = applied_there its (kind_in r n) (children_in r n) there
        by false = tt

-- ---- later

mapped_both : (xs ys : List Ask) → map asked_told (xs ++ ys) ≡ map asked_told xs ++ map asked_told ys
mapped_both [] ys = refl
mapped_both (x ∷ xs) ys = ap (λ (l : List Asked). asked_told x ∷ l) (mapped_both xs ys)

module _ (old new : List Term) (grows : Grows old new) (then_finding : Finding) (facts : Facts) (within : AreWithin (length old) then_finding) (follows : Follows then_finding facts.finding) where
  abbrev last : World
  last = world new facts.finding

  abbrev founds : ℕ
  founds = length then_finding.founds.items

  asks_then : (id : FoundId) → id.0 < length then_finding.founds.items → asks_by last id ≡ map (ask_told (types_of old) then_finding.words) (asked_by then_finding id)
  asks_then id there = ap (λ (it : Told). it.asks) (told_stays old new grows then_finding facts.finding follows within id there)

  pub one_asks : (its : Operation) → IsThere founds its → map asked_told (asks_by_all last (asker_of then_finding its)) ≡ asks_noted new facts its
  one_asks operation.Missing there = refl
  one_asks (operation.Object of) there = refl
  one_asks (operation.Found id) there = by (asked_by then_finding id) refl
    where
      by : (xs : List KeptAsked) → asked_by then_finding id ≡ xs → map asked_told (asks_by_all last (asker_if xs id)) ≡ map asked_told (asks_by last id)
      by [] e = sym (ap (map asked_told) (asks_then id there ∙ ap (map (ask_told (types_of old) then_finding.words)) e))
      by (x ∷ xs) e = ap (map asked_told) (append-nil (asks_by last id))

  pub all_ask : (os : List Operation) → AllThere founds os → map asked_told (asks_by_all last (askers_of then_finding os)) ≡ flat_map (asks_noted new facts) os
  all_ask [] there = refl
  all_ask (o ∷ os) there =
      ap (map asked_told) (flat_map-append (asks_by last) (asker_of then_finding o) (askers_of then_finding os))
      ∙ mapped_both (asks_by_all last (asker_of then_finding o)) (asks_by_all last (askers_of then_finding os))
      ∙ ap₂ (λ (xs ys : List Asked). xs ++ ys) (one_asks o there.0) (all_ask os there.1)

-- those of operations, and of what stands behind them
pub asks_joined : (w : World) (ids more : List FoundId) → map asked_told (asks_by_all w (ids ++ more)) ≡ map asked_told (asks_by_all w ids) ++ map asked_told (asks_by_all w more)
asks_joined w ids more = ap (map asked_told) (flat_map-append (asks_by w) ids more) ∙ mapped_both (asks_by_all w ids) (asks_by_all w more)

-- ---- by the definitions

module _ (f : File) where
  pub asks_found_same : (x : Option Found) → asks_found x ≡ invoking.asks_of f x
  asks_found_same (Some x) = refl
  asks_found_same None = refl

  pub asks_defined : (terms : List Term) (facts : Facts) (os : List Operation) (xs : List (Option Found)) → AreWhollyFound terms facts os xs → flat_map (asks_noted terms facts) os ≡ flat_map (invoking.asks_of f) xs
  asks_defined terms facts [] [] are = refl
  asks_defined terms facts [] (x ∷ xs) are = absurd are
  asks_defined terms facts (o ∷ os) [] are = absurd are
  asks_defined terms facts (o ∷ os) (x ∷ xs) are = ap₂ (λ (xs ys : List Asked). xs ++ ys) (are.0.1 ∙ asks_found_same x) (asks_defined terms facts os xs are.1)
