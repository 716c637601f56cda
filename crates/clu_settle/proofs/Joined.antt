-- What || gives of two strings, as a place of the list.
use Rattle.std.proofs.Common.{◌≡◌, ◌∙◌, ℕ, ◌<◌, ◌++◌, List, length, slice_get, Option, Some, None, ap, sym, subst}
use Rattle.std.proofs.lemmas.Option.{get_or_from_slice_get, slice_get_within}
use Rattle.clu_base.specs.declared.constants.Const.{Const}
use Rattle.clu_base.specs.declared.constants.Const.TheVariants as constant
use Rattle.clu_types.specs.CluType.{CluType}
use Rattle.clu_syntax.specs.declared.words.Operator.{Operator}
use Rattle.clu_syntax.specs.declared.words.Operator.TheVariants as op
use Rattle.clu_constants.specs.Held.{IsJoinedTo}
use Rattle.clu_meaning.specs.Settling.{settled_constant, constant_value, infix_value}
use Rattle.clu_settle.specs.declared.value.Value.TheVariants as value
use Rattle.clu_settle.specs.Operators.{IsJoinedBy}
use Rattle.clu_settle.specs.Values.{told, Kept, constant_at}
use Rattle.clu_settle.proofs.Operations as plain

pub joined_by : (o : Operator) (old new : List Const) (a b : ℕ) (found : Option ℕ) → o ≡ op.Concatenate → IsJoinedTo old new a b found → IsJoinedBy o old new a b found
joined_by o old new a b (Some place) is j = (is, j)
joined_by o old new a b None is j = j.0

there : (constants : List Const) (k : ℕ) (c : Const) → slice_get constants k ≡ Some c → constant_at constants k ≡ c
there constants k c e = get_or_from_slice_get constants k c constant.Null e

module _ (o : Operator) (old new : List Const) (a b place : ℕ) (j : IsJoinedBy o old new a b (Some place)) where
  pub joined_told : (types : List CluType) → told types new (value.Constant place) ≡ Some (infix_value o (Some (constant_at old a)) (Some (constant_at old b)))
  joined_told types =
      let both = constant.Str (j.1.left ++ j.1.right) in
      let given : settled_constant both ≡ infix_value op.Concatenate (Some (constant.Str j.1.left)) (Some (constant.Str j.1.right)) = ap constant_value (plain.of_strings op.Concatenate j.1.left j.1.right) in
      let first = subst (λ (x : Const). settled_constant both ≡ infix_value op.Concatenate (Some x) (Some (constant.Str j.1.right))) (sym (there old a (constant.Str j.1.left) j.1.at_left)) given in
      let second = subst (λ (y : Const). settled_constant both ≡ infix_value op.Concatenate (Some (constant_at old a)) (Some y)) (sym (there old b (constant.Str j.1.right) j.1.at_right)) first in
      ap (λ (c : Const). Some (settled_constant c)) (there new place both j.1.both)
      ∙ ap Some (subst (λ (x : Operator). settled_constant both ≡ infix_value x (Some (constant_at old a)) (Some (constant_at old b))) (sym j.0) second)

  pub joined_within : place < length new
  joined_within = slice_get_within new place (constant.Str (j.1.left ++ j.1.right)) j.1.both

-- where nothing is joined, all is as it was
module _ (old new : List Const) (same : new ≡ old) where
  pub folded_still : (o : Operator) (a b : ℕ) → Some (infix_value o (Some (constant_at new a)) (Some (constant_at new b))) ≡ Some (infix_value o (Some (constant_at old a)) (Some (constant_at old b)))
  folded_still o a b = ap (λ (l : List Const). Some (infix_value o (Some (constant_at l a)) (Some (constant_at l b)))) same

  pub kept_still : (more : List Const) → Kept new more → Kept old more
  kept_still more = subst (λ (l : List Const). Kept l more) same
