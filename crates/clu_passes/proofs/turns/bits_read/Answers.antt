use Rattle.clu_passes.proofs.ReadBits.{faults_alone, faults_of_types_alone, of_types_same, rules_same}
use Rattle.clu_passes.proofs.turns.bits_read.Goals as goal

pub returns-clause-all : goal.returns-clause-all
returns-clause-all c = λ k items n const b d same r. rules_same k b d items n const same r

pub returns-clause-of_types : goal.returns-clause-of_types
returns-clause-of_types c = λ t items n const b d same r. of_types_same t b d items n const same r

pub returns-clause-faults : goal.returns-clause-faults
returns-clause-faults c = faults_alone

pub returns-clause-faults_of_types : goal.returns-clause-faults_of_types
returns-clause-faults_of_types c = faults_of_types_alone
