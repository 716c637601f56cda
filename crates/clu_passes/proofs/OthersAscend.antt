-- At a node before which its walk finds no fault the tags of the type on which the Tagcase round it selects ascend.
use Rattle.std.proofs.Common.{◌≡◌, ◌∙◌, ℕ, ◌<◌, if◌then◌else◌, Bool, true, false, List, ◌∷◌, drop, get_or, length, Option, Some, None, inl, inr, refl, sym, ap, subst}
use Rattle.std.specs.Prelude.{slice_get}
use Rattle.std.proofs.lemmas.Bool.{true≢false, or_left}
use Rattle.std.proofs.lemmas.Option.{none-some, same_Some}
use Rattle.clu_tree.specs.declared.node.NodeKind.{NodeKind}
use Rattle.clu_tree.specs.declared.node.NodeKind.TheVariants as kind
use Rattle.clu_parser.specs.Trees.{Text}
use Rattle.clu_types.specs.declared.term.TypeId.{TypeId}
use Rattle.clu_syntax.specs.Kinds.{is_expression, is_type}
use Rattle.clu_syntax.specs.Slots.{any, body, slots}
use Rattle.clu_syntax.specs.Splits.{child, is_of}
use Rattle.clu_settle.proofs.Shapes.{first_part}
use Rattle.clu_declares.proofs.Below.{same_kind}
use Rattle.clu_declares.proofs.Facts.{There, there}
use Rattle.clu_checking.specs.Specifications.{Specification}
use Rattle.clu_checking.specs.Files.{File, children, kind_in, node_children, parent, round, scope_in}
use Rattle.clu_name_rules.specs.Components.{AreAscending}
use Rattle.clu_type_rules.specs.declared.known.Known.{Known}
use Rattle.clu_type_rules.specs.Known as its_known
use Rattle.clu_type_rules.specs.StatementRules.{tags_by}
use Rattle.clu_type_rules.specs.Tags.{TagsAscend, tags_by_parent}
use Rattle.clu_passes.specs.Ascending.{SpecificationsAscend}
use Rattle.clu_passes.specs.Bound.{IsFirstKnown}
use Rattle.clu_passes.specs.ConstantTables.{file_with}
use Rattle.clu_passes.specs.Losing.{is_plain}
use Rattle.clu_passes.specs.Made.{IsWhole}
use Rattle.clu_passes.specs.OthersKnown.{AreOthersKnown, ArePlaced, is_in_headings}
use Rattle.clu_passes.specs.Right.{IsFirst}
use Rattle.clu_passes.specs.Trees.{is_of_constant}
use Rattle.clu_passes.proofs.KnownAscend.{tags_ascend}
use Rattle.clu_passes.proofs.OthersFine.{no_constant, outside_of}
use Rattle.clu_passes.proofs.OthersFirsts.{first_seen}
use Rattle.clu_passes.proofs.OthersRounds.{no_part_bare}
use Rattle.clu_passes.proofs.OthersSame as so
use Rattle.clu_passes.proofs.OthersSeen as seen
use Rattle.clu_passes.proofs.OwnPlaces.{there_is}

module _ (t : Text) (k : Known) (library : List Specification) (refused : List ℕ) (all : IsWhole t k.tables library refused) (lost : ℕ → Bool)
    (known : AreOthersKnown (file_with k.tables.file (scope_in k.tables.file.syntax.now k.tables.file.rounds.now) library refused) k lost)
    (placed : ArePlaced (file_with k.tables.file (scope_in k.tables.file.syntax.now k.tables.file.rounds.now) library refused) k)
    (up : SpecificationsAscend library) (n : ℕ) (inside : n < length k.tables.file.syntax.now)
    (plain : is_plain (kind_in (file_with k.tables.file (scope_in k.tables.file.syntax.now k.tables.file.rounds.now) library refused) n) ≡ true)
    (apart : is_of_constant (kind_in (file_with k.tables.file (scope_in k.tables.file.syntax.now k.tables.file.rounds.now) library refused) n) ≡ false)
    (asks : is_in_headings (kind_in (file_with k.tables.file (scope_in k.tables.file.syntax.now k.tables.file.rounds.now) library refused) n) ≡ false)
    (first : IsFirst (file_with k.tables.file (scope_in k.tables.file.syntax.now k.tables.file.rounds.now) library refused) n) where
  abbrev f : File
  f = file_with k.tables.file (scope_in k.tables.file.syntax.now k.tables.file.rounds.now) library refused

  -- a Tagcase begins with an expression
  no_first : (p : ℕ) → kind_in f p ≡ kind.Tagcase → (c : ℕ) (cs : List ℕ) → children f p ≡ c ∷ cs → c ≡ n → ⊥
  no_first p is c cs begins same =
      let x : There f.nodes p kind.Tagcase = there f.nodes p kind.Tagcase refl is in
      let begun = first_part f.nodes all.made.file.parsed.tree all.made.file.parsed.forms is_expression (any (is_of kind.TagArm) ∷ body) p x.node x.at (ap slots x.is) in
      let whole : c ∷ cs ≡ child 0 x.node ∷ drop 1 x.node.children = sym begins ∙ ap (node_children f) x.at ∙ begun.is in
      let its : child 0 x.node ≡ n = sym (ap (λ (xs : List ℕ). get_or xs 0 0) whole) ∙ same in
      true≢false (sym (or_left (is_expression (kind_in f n)) (is_type (kind_in f n)) (ap (λ (m : ℕ). is_expression (kind_in f m)) (sym its) ∙ begun.first.1)) ∙ no_constant (kind_in f n) apart)

  first_known : (p : ℕ) → parent f n ≡ Some p → kind_in f p ≡ kind.Tagcase → IsFirstKnown f lost n
  first_known p above is q c cs over arms begins =
      let same : p ≡ q = same_Some p q (sym above ∙ over) in
      elim (first_seen f (so.of_file t k library refused all) (so.parents t k library refused all) n q c cs
      (outside_of f (so.of_file t k library refused all) (so.parents t k library refused all) n apart)
      (no_part_bare f (so.of_file t k library refused all) (so.parents t k library refused all) n apart asks) over arms begins) [
        | inl first_is ↦ absurd (no_first q (ap (kind_in f) (sym same) ∙ is) c cs begins first_is)
        | inr its ↦ seen.node_known f (so.of_file t k library refused all) (so.parents t k library refused all) k lost known placed n inside plain apart first asks c its
      ]

  none_by : (p : ℕ) → is_of kind.Tagcase (kind_in f p) ≡ false → tags_by k p ≡ None
  none_by p other =
      ap (λ (b : Bool). its_known.tags_in (its_known.term_of k (if◌then◌else◌ {A = Option TypeId} b (its_known.first_type k (its_known.children k p)) None)))
      (sym (there_is kind.Tagcase refl (slice_get k.tables.file.syntax.now p)) ∙ other)

  pub others_ascend : TagsAscend k n
  others_ascend fields e = by (parent f n) refl
    where
      at_parent : (p : ℕ) → parent f n ≡ Some p → (b : Bool) → is_of kind.Tagcase (kind_in f p) ≡ b → AreAscending fields
      at_parent p above true is =
          tags_ascend k (scope_in k.tables.file.syntax.now k.tables.file.rounds.now) library refused all.made.file.parsed.forms all.made.file.parsed.tree (so.are t k library refused all) lost known.rules.facts up n
          (first_known p above (same_kind kind.Tagcase (kind_in f p) is)) fields e
      at_parent p above false other = absurd (none-some fields (sym (none_by p other) ∙ sym (ap (tags_by_parent k) above) ∙ e))

      by : (o : Option ℕ) → parent f n ≡ o → AreAscending fields
      by None above = absurd (none-some fields (sym (ap (tags_by_parent k) above) ∙ e))
      by (Some p) above = at_parent p above (is_of kind.Tagcase (kind_in f p)) refl
