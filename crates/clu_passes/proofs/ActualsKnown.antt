-- At a name with actual parameters at which nothing is lost it is known what stands in its brackets, and of a type by its name the type.
use Rattle.std.proofs.Common.{◌≡◌, ◌∙◌, ℕ, Bool, true, false, List, [], ◌∷◌, drop, refl, sym, ap, subst}
use Rattle.std.specs.List.{AllByRecursion}
use Rattle.std.proofs.lemmas.Option.{slice_get_within}
use Rattle.clu_base.proofs.Bools.{second_true}
use Rattle.clu_tree.specs.declared.node.Node.{Node}
use Rattle.clu_tree.specs.declared.node.NodeKind.TheVariants as kind
use Rattle.clu_parser.specs.Trees.{Text}
use Rattle.clu_syntax.specs.Kinds.{is_expression, is_type, kind_at}
use Rattle.clu_syntax.specs.Slots.{slots, any}
use Rattle.clu_syntax.specs.Slots.{is_constant as is_constant_kind}
use Rattle.clu_syntax.specs.Splits.{child, children_of}
use Rattle.clu_checking.specs.Specifications.{Specification}
use Rattle.clu_checking.specs.Files.{File, scope_in}
use Rattle.clu_settle.proofs.Shapes.{AreParts, all_parts, any_fits, first_part}
use Rattle.clu_declares.proofs.Facts.{there}
use Rattle.clu_bindings.specs.declared.file.File.{File as Read}
use Rattle.clu_bindings.specs.Readers.{children_in}
use Rattle.clu_name_rules.specs.declared.tables.Tables.{Tables}
use Rattle.clu_passes.specs.ConstantTables.{IsIndexKnown, IsKnown, file_with}
use Rattle.clu_passes.specs.Lost.{lost}
use Rattle.clu_passes.specs.Made.{IsWhole}
use Rattle.clu_passes.specs.NamesKnown.{AreActualsKnown}
use Rattle.clu_passes.specs.Notes.{HaveParents}
use Rattle.clu_passes.specs.Trees.{IsFileOfTree}
use Rattle.clu_passes.proofs.AtNodes.{kids_are}
use Rattle.clu_passes.proofs.LostKnown.{expression_value, index_known, type_value}
use Rattle.clu_passes.proofs.LostNodes.{lost_below}
use Rattle.clu_passes.proofs.ValuesKnown as at

module _ (t : Text) (its : Tables) (library : List Specification) (refused : List ℕ) (whole : IsWhole t its library refused) where
  abbrev r : Read
  r = its.file

  abbrev nodes : List Node
  nodes = its.file.syntax.now

  abbrev f : File
  f = file_with its.file (scope_in its.file.syntax.now its.file.rounds.now) library refused

  of : IsFileOfTree f
  of = at.of_tree t its library refused whole.made whole.lost

  parents : HaveParents f
  parents = at.parents t its library refused whole.made whole.lost

  constant_known : (c : ℕ) → lost f c ≡ false → is_constant_kind (kind_at nodes c) ≡ true → IsKnown r c
  constant_known c fine is = by (is_expression (kind_at nodes c)) refl
    where
      by : (b : Bool) → is_expression (kind_at nodes c) ≡ b → IsKnown r c
      by true e = expression_value t its library refused whole c fine e
      by false e = type_value t its library refused whole c fine (second_true (is_expression (kind_at nodes c)) (is_type (kind_at nodes c)) is e)

  all_known : (n : ℕ) (cs : List ℕ) → AreParts nodes is_constant_kind n cs → AllByRecursion (λ c. lost f c ≡ false) cs → AllByRecursion (IsKnown r) cs
  all_known n [] parts fine = tt
  all_known n (c ∷ cs) parts fine = (constant_known c fine.0 parts.0.1, all_known n cs parts.1 fine.1)

  children_fine : (n : ℕ) → lost f n ≡ false → AllByRecursion (λ c. lost f c ≡ false) (children_in r n)
  children_fine n fine = subst (AllByRecursion (λ (c : ℕ). lost f c ≡ false)) (sym (kids_are f n)) (lost_below f of parents n fine)

  index_there : (n : ℕ) → lost f n ≡ false → kind_at nodes n ≡ kind.Index → AllByRecursion (IsKnown r) (children_in r n) × IsIndexKnown r n
  index_there n fine is =
      let x = there nodes n kind.Index refl is in
      let part = first_part nodes of.tree of.shaped is_expression (any is_constant_kind ∷ []) n x.node x.at (ap slots x.is) in
      let c : ℕ = child 0 x.node in
      let cs : List ℕ = drop 1 x.node.children in
      let whole_list : children_in r n ≡ c ∷ cs = ap children_of x.at ∙ part.is in
      let kids : AllByRecursion (λ c. lost f c ≡ false) (c ∷ cs) = subst (AllByRecursion (λ (c : ℕ). lost f c ≡ false)) whole_list (children_fine n fine) in (
        subst (AllByRecursion (IsKnown r)) (sym whole_list) (expression_value t its library refused whole c kids.0 part.first.1, all_known n cs (any_fits nodes is_constant_kind n cs part.before part.rest) kids.1),
        index_known t its library refused whole n fine (slice_get_within nodes n x.node x.at),
      )

  type_there : (n : ℕ) → lost f n ≡ false → kind_at nodes n ≡ kind.NameT → AllByRecursion (IsKnown r) (children_in r n) × IsKnown r n
  type_there n fine is =
      let x = there nodes n kind.NameT refl is in
      let whole_list : children_in r n ≡ x.node.children = ap children_of x.at in (
        subst (AllByRecursion (IsKnown r)) (sym whole_list)
            (all_known n x.node.children (all_parts nodes of.tree of.shaped is_constant_kind n x.node x.at (ap slots x.is)) (subst (AllByRecursion (λ (c : ℕ). lost f c ≡ false)) whole_list (children_fine n fine))),
        type_value t its library refused whole n fine (ap is_type is),
      )

  pub actuals_known : AreActualsKnown its.file (lost f)
  actuals_known = record { index = index_there; type = type_there }
