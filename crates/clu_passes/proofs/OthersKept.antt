-- Nothing is lost of a node that stands in no brackets, if no type is refused at it or below it, where no `cvt` stands either.
use Rattle.std.proofs.Common.{◌≡◌, ℕ, ◌<◌, ◌≤◌, false, length, arith}
use Rattle.clu_checking.specs.Files.{File, round}
use Rattle.clu_declares.proofs.Around.{there}
use Rattle.clu_passes.specs.Clear.{IsClear, IsFrom}
use Rattle.clu_passes.specs.Lost.{first_read, lost}
use Rattle.clu_passes.specs.Notes.{HaveParents}
use Rattle.clu_passes.specs.OthersKnown.{IsFine}
use Rattle.clu_passes.specs.Trees.{IsFileOfTree}
use Rattle.clu_passes.proofs.LostNodes.{clear_kept, not_later, plain_itself}
use Rattle.clu_passes.proofs.Subtrees.{is_subtree}
use Rattle.clu_passes.proofs.Within.{forest_goes_on}

module _ (f : File) (of : IsFileOfTree f) (parents : HaveParents f) where
  pub fine_kept : (n : ℕ) → n < length f.nodes → IsFine f n → lost f n ≡ false
  fine_kept n inside fine =
      let x = there f.nodes n inside in
      let own : (round f n).first ≤ n = forest_goes_on f.nodes (round f n).first n x.0.children (is_subtree f.nodes f.rounds of.tree of.surrounded of.ordered n x.0 x.1) in
      let from : IsFrom f (round f n).first n = record {
        own = omega arith;
        brackets = λ p up is. absurd (fine.outside.beside p up is);
        above = λ p q up over is. absurd (fine.outside.above p q up over is);
      } in
      let clear : IsClear f n = record { low = (round f n).first; from = from; clear = λ m low less. fine.below m low (omega (arith, less)) } in
      let begins : (round f n).first ≤ first_read f n = not_later f of parents n (round f n).first from in
      clear_kept f of parents n inside clear (λ m low high. fine.plain m (omega (arith, begins, low)) high) (plain_itself f n (fine.below n own (omega arith)))
