-- No `cvt` stands before an expression, nor before the name of a type, in what it reads: a whole type of a heading is no part of one. So
-- nothing is lost there where no type is refused before it, nor its own value lost.
use Rattle.std.proofs.Common.{◌≡◌, ◌∙◌, ℕ, ◌<◌, ◌≤◌, ◌||◌, if◌then◌else◌, Bool, true, false, length, Option, Some, None, inl, inr, refl, sym, ap, subst, arith}
use Rattle.std.specs.Prelude.{slice_get}
use Rattle.std.proofs.lemmas.Bool.{true≢false, and_parts, cases_lt}
use Rattle.clu_base.specs.declared.rules.Rule.TheVariants as rule
use Rattle.clu_tree.specs.declared.node.Node.{Node}
use Rattle.clu_tree.specs.declared.node.NodeKind.{NodeKind}
use Rattle.clu_tree.specs.declared.node.NodeKind.TheVariants as kind
use Rattle.clu_syntax.specs.declared.words.SimpleType.TheVariants as simple
use Rattle.clu_syntax.specs.Kinds.{is_expression, is_type, kind_of}
use Rattle.clu_checking.specs.Files.{File, is_kind, item, kind_in, parent, parent_of, round}
use Rattle.clu_checking.specs.ConstantRules.{is_word, v31}
use Rattle.clu_checking.specs.Refusals.{is_no_type_at}
use Rattle.clu_declares.proofs.Around.{there}
use Rattle.clu_declares.proofs.Below.{same_kind}
use Rattle.clu_passes.specs.Clear.{IsClear}
use Rattle.clu_passes.specs.Lost.{first_in, first_read, is_cvt_at, is_lost_itself, lost}
use Rattle.clu_passes.specs.Notes.{HaveParents}
use Rattle.clu_passes.specs.Trees.{IsFileOfTree}
use Rattle.clu_passes.proofs.CvtPlaces.{IsTop, constant_top, cvt_refused}
use Rattle.clu_passes.proofs.LostNodes.{clear_kept, under}
use Rattle.clu_passes.proofs.LostRefused.{refused_by}
use Rattle.clu_passes.proofs.ValuesKnown.{child_below}

module _ (f : File) (of : IsFileOfTree f) where
  placed : (m : ℕ) → is_no_type_at f m ≡ false → v31 f m ≡ false
  placed m fine = by (v31 f m) refl
    where
      by : (b : Bool) → v31 f m ≡ b → b ≡ false
      by true hit = absurd (true≢false (sym (refused_by f of m 8 rule.CvtPlace refl hit) ∙ fine))
      by false miss = refl

  -- below an expression or type
  below_top : (top : ℕ) (node : Node) → slice_get f.nodes top ≡ Some node → IsTop node.kind → (m : ℕ) → (round f top).first ≤ m → m < top → is_no_type_at f m ≡ false → is_cvt_at f m ≡ false
  below_top top node at is m low less fine = by (is_cvt_at f m) refl
    where
      by : (b : Bool) → is_cvt_at f m ≡ b → b ≡ false
      by true hit =
          let parts = and_parts (is_kind f kind.Simple m) (is_word simple.Cvt (item f m).type) hit in
          absurd (cvt_refused f of top node at is m low less (record { of_word = same_kind kind.Simple (kind_in f m) parts.0; word = parts.1; placed = placed m fine }))
      by false miss = refl

  index_top : (p : ℕ) → is_kind f kind.Index p ≡ true → (node : Node) → slice_get f.nodes p ≡ Some node → IsTop node.kind
  index_top p hit node at = constant_top node.kind (ap (λ (j : NodeKind). is_expression j || is_type j) (sym (ap kind_of at) ∙ same_kind kind.Index (kind_in f p) hit))

  module _ (parents : HaveParents f) (n : ℕ) (inside : n < length f.nodes) (clear : IsClear f n) (const : (is_expression (kind_in f n) || is_type (kind_in f n)) ≡ true) (apart : is_cvt_at f n ≡ false) where
    abbrev NoneBefore : Type 0
    NoneBefore = (m : ℕ) → first_read f n ≤ m → m < n → is_cvt_at f m ≡ false

    in_top : (top : ℕ) (node : Node) → slice_get f.nodes top ≡ Some node → IsTop node.kind → n ≤ top → clear.low ≤ (round f top).first → first_read f n ≡ (round f top).first → NoneBefore
    in_top top node at is most begins same m low less =
        below_top top node at is m (omega (arith, low, same)) (omega (arith, less, most)) (clear.clear m (omega (arith, begins, low, same)) less)

    in_own : first_read f n ≡ (round f n).first → NoneBefore
    in_own same =
        let x = there f.nodes n inside in
        in_top n x.0 x.1 (constant_top x.0.kind (ap (λ (j : NodeKind). is_expression j || is_type j) (sym (ap kind_of x.1)) ∙ const)) (omega arith) clear.from.own same

    before : NoneBefore
    before = by_parent (parent f n) refl
      where
        by_parent : (o : Option ℕ) → parent f n ≡ o → NoneBefore
        by_parent None up = in_own (ap (λ (o : Option ℕ). first_in f (parent_of f o) (first_in f o (round f n).first)) up)
        by_parent (Some p) up = by_above (parent f p) refl
          where
            below_it : n < p
            below_it = let x = under f of parents n p up in (child_below f of p x.0 x.1 n x.2).less

            read : first_read f n ≡ first_in f (parent f p) (first_in f (Some p) (round f n).first)
            read = ap (λ (o : Option ℕ). first_in f (parent_of f o) (first_in f o (round f n).first)) up

            by_inner : first_read f n ≡ first_in f (Some p) (round f n).first → NoneBefore
            by_inner same = by (is_kind f kind.Index p) refl
              where
                by : (b : Bool) → is_kind f kind.Index p ≡ b → NoneBefore
                by true hit =
                    let x = under f of parents n p up in
                    let less : n < p = below_it in
                    in_top p x.0 x.1 (index_top p hit x.0 x.1) (omega (arith, less)) (clear.from.brackets p up (same_kind kind.Index (kind_in f p) hit))
                    (same ∙ ap (λ (b : Bool). if b then (round f p).first else (round f n).first) hit)
                by false miss = in_own (same ∙ ap (λ (b : Bool). if b then (round f p).first else (round f n).first) miss)

            by_above : (o : Option ℕ) → parent f p ≡ o → NoneBefore
            by_above None over = by_inner (read ∙ ap (λ (o : Option ℕ). first_in f o (first_in f (Some p) (round f n).first)) over)
            by_above (Some q) over = by (is_kind f kind.Index q) refl
              where
                outer : first_read f n ≡ first_in f (Some q) (first_in f (Some p) (round f n).first)
                outer = read ∙ ap (λ (o : Option ℕ). first_in f o (first_in f (Some p) (round f n).first)) over

                by : (b : Bool) → is_kind f kind.Index q ≡ b → NoneBefore
                by true hit =
                    let x = under f of parents p q over in
                    let less : n < p = below_it in
                    let more : p < q = (child_below f of q x.0 x.1 p x.2).less in
                    in_top q x.0 x.1 (index_top q hit x.0 x.1) (omega (arith, less, more)) (clear.from.above p q up over (same_kind kind.Index (kind_in f q) hit))
                    (outer ∙ ap (λ (b : Bool). if b then (round f q).first else first_in f (Some p) (round f n).first) hit)
                by false miss = by_inner (outer ∙ ap (λ (b : Bool). if b then (round f q).first else first_in f (Some p) (round f n).first) miss)

    none_there : (m : ℕ) → first_read f n ≤ m → m ≤ n → is_cvt_at f m ≡ false
    none_there m low high = elim (cases_lt m n) [
      | inl less ↦ before m low less
      | inr back ↦
          let same : n ≡ m = omega (arith, high, back) in
          subst (λ (i : ℕ). is_cvt_at f i ≡ false) same apart
    ]

    pub kept_there : is_lost_itself f n ≡ false → lost f n ≡ false
    kept_there itself = clear_kept f of parents n inside clear none_there itself
