-- Of the heads of a file each routine that is an iterator has a type of iterators, and each other one a type of procedures.
use Rattle.std.proofs.Common.{◌≡◌, ℕ, Bool, true, false, List, [], ◌∷◌, Option, Some, None, sym, subst}
use Rattle.std.specs.Prelude.{slice_get}
use Rattle.std.specs.List.{AllByRecursion}
use Rattle.std.proofs.lemmas.Option.{slice_get_within}
use Rattle.clu_tree.specs.declared.node.Node.{Node}
use Rattle.clu_tree.specs.Nodes.{modules}
use Rattle.clu_syntax.specs.declared.words.RoutineKind.{RoutineKind}
use Rattle.clu_syntax.specs.declared.words.RoutineKind.TheVariants as word
use Rattle.clu_types.specs.Arena.{IsArena, type_at, type_of, types_of}
use Rattle.clu_types.specs.declared.term.TypeId.{TypeId}
use Rattle.clu_types.specs.declared.term.Heading.{Heading}
use Rattle.clu_types.specs.declared.term.Term.{Term}
use Rattle.clu_types.proofs.Arenas.{type_found}
use Rattle.clu_head.specs.declared.asked.Asked.{Asked}
use Rattle.clu_head.specs.declared.head.RoutineHead.{RoutineHead}
use Rattle.clu_head.specs.declared.head.HeadForm.{HeadForm}
use Rattle.clu_head.specs.declared.head.Head.{Head}
use Rattle.clu_head.specs.declared.heads.Heads.{Heads}
use Rattle.clu_head.specs.declared.known.Known.{Known}
use Rattle.clu_head.specs.Outside.{heading_outside}
use Rattle.clu_head.specs.Routines.{kind_in, arguments_in, results_in, exceptions_in, is_iterator, is_iterator_at, term_at, routines_among, listed_nodes, IsHead, AreHeads, AreListed}
use Rattle.clu_head.specs.Terms.{is_refused_heading, routine_term, term_of, IsNumbered}
use Rattle.clu_head.specs.Modules.{AreOf}
use Rattle.clu_passes.specs.RoutineTypes.{IsOfRoutines, IsTypeOf, HasType, HaveTypes}
use Rattle.clu_passes.proofs.EachHead.{each_head}

module _ (k : Known) (asked : Asked) (old new : List Term) (arena : IsArena new) where
  of_kind : (w : RoutineKind) (h : Heading) → IsOfRoutines (is_iterator w) (type_of (types_of new) (term_of w h))
  of_kind word.Procedure h = tt
  of_kind word.Iterator h = tt

  typed_by : (cvt : Option TypeId) (n : ℕ) (its : Option Node) (id : TypeId) → IsNumbered old new (term_at k cvt n its) (Some id) → IsOfRoutines (is_iterator_at its) (type_at (types_of new) id)
  unfolding term_at
  typed_by cvt n None id is = absurd is
  typed_by cvt n (Some node) id is =
      by (is_refused_heading k.syntax.now k.refused.now k.rounds.now n) (heading_outside cvt k.syntax.now k.values.now (arguments_in k.syntax.now node) (results_in k.syntax.now node) (exceptions_in k.syntax.now node)) is
    where
      by : (refused : Bool) (h : Option Heading) → IsNumbered old new (routine_term refused (kind_in node) h) (Some id) → IsOfRoutines (is_iterator (kind_in node)) (type_at (types_of new) id)
      by true h at = absurd at
      by false None at = absurd at
      by false (Some h) at =
          let t : Term = term_of (kind_in node) h in
          subst (IsOfRoutines (is_iterator (kind_in node))) (sym (type_found new arena id t at (slice_get_within new id.0 t at))) (of_kind (kind_in node) h)

  typed_if : (cvt : Option TypeId) (n : ℕ) (its : Option Node) (iter : Bool) (of : Option TypeId) → iter ≡ is_iterator_at its → IsNumbered old new (term_at k cvt n its) of → IsTypeOf (types_of new) iter of
  typed_if cvt n its iter (Some id) same is = subst (λ (b : Bool). IsOfRoutines b (type_at (types_of new) id)) (sym same) (typed_by cvt n its id is)
  typed_if cvt n its iter None same is = tt

  routine_typed : (cvt : Option TypeId) (exports : List (List ℕ)) (n : ℕ) (r : RoutineHead) → IsHead k asked cvt exports old new n r → HasType (types_of new) r
  routine_typed cvt exports n r is = typed_if cvt n (slice_get k.syntax.now n) r.iter r.of_type is.iter is.of_type

  all_typed : (cvt : Option TypeId) (exports : List (List ℕ)) (ns : List ℕ) (rs : List RoutineHead) → AreHeads (IsHead k asked cvt exports old new) ns rs → AllByRecursion (HasType (types_of new)) rs
  all_typed cvt exports [] [] are = tt
  all_typed cvt exports [] (r ∷ rs) are = absurd are
  all_typed cvt exports (n ∷ ns) [] are = absurd are
  all_typed cvt exports (n ∷ ns) (r ∷ rs) are = (routine_typed cvt exports n r are.0, all_typed cvt exports ns rs are.1)

  listed_typed : (cvt : Option TypeId) (exports : List (List ℕ)) (routines : List ℕ) (rs : List RoutineHead) → AreListed k.syntax.now (IsHead k asked cvt exports old new) routines rs → AllByRecursion (HasType (types_of new)) rs
  unfolding AreListed
  listed_typed cvt exports routines rs are = all_typed cvt exports (routines_among k.syntax.now (listed_nodes are.0)) rs are.2

pub types_fit : (k : Known) (old new : List Term) → IsArena new → (heads : Heads) → AreOf k old new heads → (i : ℕ) (h : Head) → slice_get heads.modules.items i ≡ Some h → HaveTypes (types_of new) h.form
types_fit k old new arena heads are i h at =
    each_head k heads.asked old new (HaveTypes (types_of new)) (λ m n r at is. routine_typed k heads.asked old new arena None [] n r is)
    (λ mid front behind cvt name kinds owns exports routines n rs all. listed_typed k heads.asked mid new arena cvt exports routines rs all) (modules k.syntax.now) heads.modules.items are.modules i h at
