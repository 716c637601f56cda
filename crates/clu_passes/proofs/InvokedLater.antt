-- What is noted as invoked at the nodes of a file is what the definitions say, where nothing is lost: by induction on the nodes, and so
-- while there are more types and more is found.
use Rattle.std.proofs.Common.{◌≡◌, ◌∙◌, ◌<◌, ◌≤◌, ◌⊎◌, inl, inr, ◌++◌, ℕ, zero, suc, Bool, false, if◌then◌else◌, List, [], ◌∷◌, length, slice_get, vec_items, Option, Some, None, refl, sym, ap, subst, arith}
use Rattle.std.specs.List.{AllByRecursion}
use Rattle.std.specs.Option.{option_or}
use Rattle.std.proofs.lemmas.Bool.{cases_lt}
use Rattle.std.proofs.lemmas.List.{length-append}
use Rattle.std.proofs.lemmas.Option.{slice_get_within}
use Rattle.clu_base.proofs.Lists.{get_before}
use Rattle.clu_tree.specs.declared.node.NodeKind.{NodeKind}
use Rattle.clu_tree.specs.declared.node.NodeKind.TheVariants as kind
use Rattle.clu_parser.specs.Trees.{Text}
use Rattle.clu_types.specs.Arena.{Grows, IsArena}
use Rattle.clu_types.specs.declared.term.Term.{Term}
use Rattle.clu_types.specs.declared.term.TypeId.{TypeId}
use Rattle.clu_types.proofs.Carrying.{grows_on, length_grows}
use Rattle.clu_syntax.specs.Items.{Item}
use Rattle.clu_meaning.specs.Scoping.{Scope}
use Rattle.clu_meaning.specs.Settling.{module_type}
use Rattle.clu_settle.specs.Lists.{type_id}
use Rattle.clu_checking.specs.Specifications.{Specification}
use Rattle.clu_checking.specs.Files.{File}
use Rattle.clu_checking.specs.Invoked as meant
use Rattle.clu_bindings.specs.declared.file.File.{File as Read}
use Rattle.clu_bindings.specs.declared.file.Headed.{Headed}
use Rattle.clu_bindings.specs.Readers.{kind_in, value_in}
use Rattle.clu_bindings.specs.Tables.{optional}
use Rattle.clu_operations.specs.declared.finding.Finding.{Finding}
use Rattle.clu_operations.specs.Finding.{Extends, Follows}
use Rattle.clu_operations.specs.Shapes.{shape_in}
use Rattle.clu_operations.proofs.Bundling.{option_more}
use Rattle.clu_operations.proofs.Lasting.{follows_on}
use Rattle.clu_operations.proofs.Once.{item_extends}
use Rattle.clu_typing.specs.declared.applied.Use.{Use}
use Rattle.clu_typing.specs.declared.applied.Applied.{Applied}
use Rattle.clu_typing.specs.declared.applied.Applied.TheVariants as applied
use Rattle.clu_typing.specs.declared.facts.Facts.{Facts}
use Rattle.clu_typing.specs.declared.facts.Invoked.{Invoked}
use Rattle.clu_typing.specs.declared.facts.Invoked.TheVariants as invoked
use Rattle.clu_typing.specs.Found.{FindsMore, IsAppliedTold, IsUseTold, IsUseToldIf}
use Rattle.clu_typing.specs.Invoked as tables
use Rattle.clu_typing.specs.Invoked.{by_applied, operation_by, operation_of}
use Rattle.clu_typing.specs.Nodes.{is_used}
use Rattle.clu_typing.specs.Pass.{AreKnown, IsSound}
use Rattle.clu_typing.specs.Stands.{Stands, for_nothing, for_invoked, for_named, stands_at}
use Rattle.clu_typing.proofs.Below.{arena_before}
use Rattle.clu_typing.proofs.Passing.{known_grows, known_sound, noted_grows, row_follows}
use Rattle.clu_type_rules.specs.Askers.{with_finding}
use Rattle.clu_passes.specs.ConstantTables.{file_with}
use Rattle.clu_passes.specs.InvokedSaid.{AreSaid, IsSaid, IsSaidIf}
use Rattle.clu_passes.specs.PassNoted.{IsKnownFile}
use Rattle.clu_passes.specs.Trees.{IsFileOfTree}
use Rattle.clu_passes.proofs.InvokedAtNode.{invoked_said}
use Rattle.clu_passes.proofs.NodeTyped.{type_grown}
use Rattle.clu_passes.proofs.NodesNoted as pass
use Rattle.clu_passes.proofs.NodesNoted.{item_behind}

-- ---- with more types and more names

module _ (old new : List Term) (grows : Grows old new) (words more : List (List ℕ)) (extends : Extends words more) where
  word_grown : (k : ℕ) (name : List ℕ) → slice_get words k ≡ Some name → slice_get more k ≡ Some name
  word_grown k name at = item_extends words more extends k (slice_get_within words k name at) ∙ at

  said_grown : (its : Invoked) (i : meant.Invoked) → IsSaid old words its i → IsSaid new more its i
  said_grown (invoked.Builtin of id) i is = (is.0, is.1, type_grown old new grows (Some of) (Some is.0) is.2, word_grown id.0 is.1 is.3, is.4)
  said_grown (invoked.Cluster of id) i is = (is.0, is.1, type_grown old new grows (Some of) (Some is.0) is.2, word_grown id.0 is.1 is.3, is.4)
  said_grown (invoked.Parameter number id) i is = (is.0, word_grown id.0 is.0 is.1, is.2)
  said_grown (invoked.Module of) i is = (is.0, is.1, type_grown old new grows (Some of) (Some (module_type is.0 is.1)) is.2, is.3)
  said_grown invoked.Stored i is = is

  pub said_later : (its : Option Invoked) (i : Option meant.Invoked) → IsSaidIf old words its i → IsSaidIf new more its i
  said_later (Some its) (Some i) is = said_grown its i is
  said_later (Some its) None is = absurd is
  said_later None (Some i) is = absurd is
  said_later None None is = tt

-- that for which a node stands keeps the kinds of its types
module _ (h : Headed) (old new : List Term) (grows : Grows old new) (finding : Finding) (n : ℕ) where
  use_same : (of : TypeId) (name : List ℕ) (it : Use) → IsUseTold h old finding n of name it → operation_of new it ≡ operation_of old it
  use_same of name it u =
      let within : it.of.0 < length old = subst (λ (id : TypeId). id.0 < length old) (sym u.same) u.told.within in
      ap (λ (o : Option Term). operation_by (shape_in o) it.of it.name) (item_extends old new grows it.of.0 within)

  named_same : (of : Option TypeId) (name : List ℕ) (it : Option Use) → IsUseToldIf h old finding n of name it → by_applied new (applied.Named it) ≡ by_applied old (applied.Named it)
  named_same (Some of) name (Some it) u = ap Some (use_same of name it u)
  named_same (Some of) name None u = absurd u
  named_same None name (Some it) u = absurd u
  named_same None name None u = refl

  nothing_same : (its : Applied) → its ≡ applied.Nothing → by_applied new its ≡ by_applied old its
  nothing_same its e = ap (by_applied new) e ∙ sym (ap (by_applied old) e)

  applied_same : (s : Stands) (its : Applied) → IsAppliedTold h old finding n s its → by_applied new its ≡ by_applied old its
  applied_same for_nothing its u = nothing_same its u
  applied_same (for_invoked (Some of) name negated) (applied.Invoked first second) u = ap Some (use_same of name first u.0)
  applied_same (for_invoked (Some of) name negated) applied.Nothing u = absurd u
  applied_same (for_invoked (Some of) name negated) (applied.Named it) u = absurd u
  applied_same (for_invoked None name negated) applied.Nothing u = refl
  applied_same (for_invoked None name negated) (applied.Invoked first second) u = absurd u
  applied_same (for_invoked None name negated) (applied.Named it) u = absurd u
  applied_same (for_named of name) (applied.Named it) u = named_same of name it u
  applied_same (for_named of name) applied.Nothing u = absurd u
  applied_same (for_named of name) (applied.Invoked first second) u = absurd u

module _ (r : Read) (old new : List Term) (before : List (Option Invoked)) (its : Applied) (n : ℕ) (same : by_applied new its ≡ by_applied old its) where
  as_same : (k : NodeKind) → tables.invoked_as r new before its k n ≡ tables.invoked_as r old before its k n
  as_same kind.Call = refl
  as_same kind.File = ap (λ (o : Option Invoked). option_or o (tables.instance_at r n)) same
  as_same _ = ap (λ (o : Option Invoked). option_or o (tables.instance_at r n)) same

  invoked_same : tables.invoked_at r new before its n ≡ tables.invoked_at r old before its n
  invoked_same = ap (λ (o : Option Invoked). if is_used r n then o else None) (as_same (kind_in r n))

-- ---- all nodes

module _ (t : Text) (h : Headed) (scope : Scope) (library : List Specification) (refused : List ℕ) (items : ℕ → Item) (first : List Term) (lost : ℕ → Bool) (file : IsKnownFile t h (file_with h.file scope library refused) items first lost) (tree : IsFileOfTree (file_with h.file scope library refused)) where
  abbrev f : File
  f = file_with h.file scope library refused

  -- what is noted of the next
  abbrev next_at : ℕ → List Term → Facts → Applied → Option Invoked
  next_at n terms before its = tables.invoked_at h.file terms before.invoked.items its n

  sized : (n : ℕ) (terms : List Term) (facts : Facts) → AreKnown h items first n terms facts → length facts.invoked.items ≡ n
  sized zero terms facts known = ap (λ (l : List (Option Invoked)). length l) known.invoked
  sized (suc n) terms facts known =
      let same : facts.invoked.items ≡ known.1.invoked.items ++ next_at n terms known.1 known.3.0 ∷ [] = ap vec_items known.3.3.invoked ∙ known.3.2.invoked in
      let count : length known.1.invoked.items ≡ n = sized n known.0 known.1 known.2 in
      ap (λ (l : List (Option Invoked)). length l) same ∙ (omega (arith, length-append known.1.invoked.items (next_at n terms known.1 known.3.0 ∷ []), count))

  -- of the nodes before this one
  abbrev AreSaidTo : ℕ → List Term → Facts → Type 0
  AreSaidTo n terms facts = (m : ℕ) → m < n → lost m ≡ false → IsSaidIf terms facts.finding.words (optional (slice_get facts.invoked.items m)) (meant.invoked_at f m)

  all_said : (n : ℕ) (terms : List Term) (facts : Facts) → IsArena terms → AreKnown h items first n terms facts → AreSaidTo n terms facts
  all_said zero terms facts arena known m lt fine = absurd (omega (arith, lt))
  all_said (suc n) terms facts arena known m lt fine = by (all_said n known.0 known.1 early known.2) (cases_lt m n)
    where
      grown : Grows known.0 terms
      grown = noted_grows h items n known.0 terms known.1 known.3.1 known.3.0 known.3.2

      early : IsArena known.0
      early = arena_before known.0 terms grown arena

      sound : IsSound h known.0 known.1
      sound = known_sound h items first n known.0 known.1 known.2 early file.types

      started : Grows first known.0
      started = known_grows h items first n known.0 known.1 known.2

      -- what was found before, and what was found for the node, is there

      named_more : Follows known.3.1.finding facts.finding
      named_more =
          row_follows h items n known.0 terms known.1 known.3.1 facts known.3.0 known.3.2 known.3.3 arena
          (λ k. option_more (length first) (length known.0) (length_grows first known.0 started) (type_id (value_in h.file k)) (file.types.values k)) (λ k. option_more (length first) (length known.0) (length_grows first known.0 started) _ (file.types.own k)) sound

      after_all : Follows known.1.finding facts.finding
      after_all =
          follows_on known.1.finding known.3.1.finding facts.finding
          (pass.follows t h scope library refused file.parsed file.library items first file.types file.heads lost file.below file.names n known.0 terms known.1 known.3.1 known.3.0 known.3.2 started arena sound) named_more

      after_applied : Follows known.3.2.applied_finding facts.finding
      after_applied =
          follows_on known.3.2.applied_finding known.3.1.finding facts.finding
          (pass.applied_follows t h scope library refused file.parsed file.library items first file.types file.heads lost file.below file.names n known.0 terms known.1 known.3.1 known.3.0 known.3.2 started arena sound) named_more

      applied_grown : Grows known.3.2.applied_terms terms
      applied_grown = grows_on known.3.2.applied_terms known.3.2.typed_terms terms known.3.2.typed_grows known.3.2.grows

      applied_arena : IsArena known.3.2.applied_terms
      applied_arena = arena_before known.3.2.applied_terms terms applied_grown arena

      looked : FindsMore h known.3.2.applied_terms known.1.finding known.3.2.applied_finding × IsAppliedTold h known.3.2.applied_terms known.3.2.applied_finding n (stands_at h.file known.1.types.items n items) known.3.0
      looked = pass.looked t h scope library refused file.parsed file.library items first file.types file.heads lost file.below file.names n known.0 terms known.1 known.3.1 known.3.0 known.3.2 started arena sound

      typed_before : pass.AreTyped t h scope library refused file.parsed file.library items first file.types file.heads lost file.below file.names n known.0 known.1
      typed_before = pass.all_typed t h scope library refused file.parsed file.library items first file.types file.heads lost file.below file.names n known.0 known.1 early known.2

      -- ---- the node

      same : facts.invoked.items ≡ known.1.invoked.items ++ next_at n terms known.1 known.3.0 ∷ []
      same = ap vec_items known.3.3.invoked ∙ known.3.2.invoked

      count : length known.1.invoked.items ≡ n
      count = sized n known.0 known.1 known.2

      said_then : AreSaidTo n known.0 known.1 → lost n ≡ false → IsSaidIf known.3.2.applied_terms known.3.2.applied_finding.words (tables.invoked_at h.file known.3.2.applied_terms known.1.invoked.items known.3.0 n) (meant.invoked_at f n)
      said_then were fine =
          invoked_said t h scope library refused file.parsed tree items known.3.2.applied_terms applied_arena (record known.1 { finding = known.3.2.applied_finding }) known.1.types.items n known.3.0 looked.1
          (pass.told t h scope library refused file.parsed file.library items first file.types file.heads lost file.below file.names n known.0 terms known.1 known.3.1 known.3.0 known.3.2 started arena sound typed_before fine)
          (pass.stands_then t h scope library refused file.parsed file.library items first file.types file.heads lost file.below file.names n known.0 terms known.1 known.3.1 known.3.0 known.3.2 started arena sound typed_before fine)
          (pass.its_types t h scope library refused file.parsed file.library items first file.types file.heads lost file.below file.names n known.0 terms known.1 known.3.1 known.3.0 known.3.2 started arena sound typed_before fine)
          (file.wanted n fine) known.1.invoked.items
          (λ c cs begins less.
          let kept : lost c ≡ false = (subst (λ (l : List ℕ). AllByRecursion (λ (c : ℕ). lost c ≡ false) l) begins (file.below n fine)).0 in (
            λ expressed. file.names c kept expressed known.3.2.applied_terms (grows_on first known.0 known.3.2.applied_terms started known.3.2.applied_grows),
            said_later known.0 known.3.2.applied_terms known.3.2.applied_grows known.1.finding.words known.3.2.applied_finding.words looked.0.follows.words (optional (slice_get known.1.invoked.items c)) (meant.invoked_at f c) (were c less kept),
          ))

      next_said : AreSaidTo n known.0 known.1 → lost n ≡ false → IsSaidIf terms facts.finding.words (next_at n terms known.1 known.3.0) (meant.invoked_at f n)
      next_said were fine =
          subst (λ (o : Option Invoked). IsSaidIf terms facts.finding.words o (meant.invoked_at f n))
          (sym (invoked_same h.file known.3.2.applied_terms terms known.1.invoked.items known.3.0 n (applied_same h known.3.2.applied_terms terms applied_grown known.3.2.applied_finding n (stands_at h.file known.1.types.items n items) known.3.0 looked.1)))
          (said_later known.3.2.applied_terms terms applied_grown known.3.2.applied_finding.words facts.finding.words after_applied.words (tables.invoked_at h.file known.3.2.applied_terms known.1.invoked.items known.3.0 n) (meant.invoked_at f n) (said_then were fine))

      by : AreSaidTo n known.0 known.1 → (m < n) ⊎ (n ≤ m) → IsSaidIf terms facts.finding.words (optional (slice_get facts.invoked.items m)) (meant.invoked_at f m)
      by were (inl less) =
          subst (λ (o : Option Invoked). IsSaidIf terms facts.finding.words o (meant.invoked_at f m)) (sym (ap (λ (l : List (Option Invoked)). optional (slice_get l m)) same ∙ ap optional (get_before known.1.invoked.items (next_at n terms known.1 known.3.0) m (omega (arith, less, count)))))
          (said_later known.0 terms grown known.1.finding.words facts.finding.words after_all.words (optional (slice_get known.1.invoked.items m)) (meant.invoked_at f m) (were m less fine))
      by were (inr ge) =
          let at : m ≡ n = omega (arith, ge, lt) in
          subst (λ (o : Option Invoked). IsSaidIf terms facts.finding.words o (meant.invoked_at f m)) (sym (ap (λ (l : List (Option Invoked)). optional (slice_get l m)) same ∙ ap optional (item_behind known.1.invoked.items (next_at n terms known.1 known.3.0) m (omega (arith, at, count)))))
          (subst (λ (k : ℕ). IsSaidIf terms facts.finding.words (next_at n terms known.1 known.3.0) (meant.invoked_at f k)) (sym at) (next_said were (subst (λ (k : ℕ). lost k ≡ false) at fine)))

  -- ---- when the rules are asked

  pub invoked_later : (terms : List Term) (facts : Facts) → IsArena terms → AreKnown h items first (length h.file.syntax.now) terms facts → (new : List Term) → Grows terms new → (finding : Finding) → Follows facts.finding finding → AreSaid f new (with_finding facts finding) lost
  invoked_later terms facts arena known new grows finding follows n lt fine =
      said_later terms new grows facts.finding.words finding.words follows.words (optional (slice_get facts.invoked.items n)) (meant.invoked_at f n) (all_said (length h.file.syntax.now) terms facts arena known n lt fine)
