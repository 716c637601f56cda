-- What is to be known of a file so that the rules that read its facts say at a node what the definitions say, but where something is
-- lost.
use Rattle.std.specs.Prelude.{◌≡◌, ◌<◌, ℕ, Bool, false, List, length, replicate}
use Rattle.clu_types.specs.declared.term.Term.{Term}
use Rattle.clu_types.specs.Arena.{IsArena, types_of}
use Rattle.clu_checking.specs.Files.{File}
use Rattle.clu_checking.specs.ExpressionRules.{v18, v20}
use Rattle.clu_type_rules.specs.declared.known.Known.{Known}
use Rattle.clu_type_rules.specs.Disagreeing.{with_clauses}
use Rattle.clu_type_rules.specs.Unmet.{unmet_at}
use Rattle.clu_passes.specs.Bound.{TellModules}
use Rattle.clu_passes.specs.ConstantTables.{AreWantedKnown}
use Rattle.clu_passes.specs.Demands.{TellAsked}
use Rattle.clu_passes.specs.FactTables.{AreFacts}

-- the bits of what is not met (`unmet_by_tables`)
pub record AreUnmetBits (f : File) (k : Known) (lost : ℕ → Bool) : Type 0 where
  pub by_has : (n : ℕ) → n < length f.nodes → lost n ≡ false → v18 f n ≡ (unmet_at k.unmet.now n).by_has
  pub by_in : (n : ℕ) → n < length f.nodes → lost n ≡ false → v20 f n ≡ (unmet_at k.unmet.now n).by_in

-- what nodes ask, and the bits of demands that disagree (`disagreeing_by_tables`)
pub record AreDemandsKnown (f : File) (k : Known) : Type 0 where
  pub terms : List Term
  pub arena : IsArena terms
  pub told : TellAsked f (types_of terms) k.headed.heads.now.asked
  pub bits : k.disagrees.now ≡ with_clauses k.headed.heads.now.asked (length f.nodes) (replicate (length f.nodes) false)

pub record AreRulesKnown (f : File) (k : Known) (lost : ℕ → Bool) : Type 0 where
  pub facts : AreFacts f k.tables.types.now k.facts.now lost
  pub wanted : AreWantedKnown k.tables.file lost
  pub modules : TellModules f k.tables.file
  pub unmet : AreUnmetBits f k lost
  pub demands : AreDemandsKnown f k
