use Rattle.clu_passes.proofs.FaultsFound as found
use Rattle.clu_passes.proofs.refusing.bad_by_tables.Goals as goal

pub returns-clause-all : goal.returns-clause-all
returns-clause-all c = λ k scope library refused of items order circular its_order bits are agree e equate straight.
    found.bad_by_tables k scope library refused of items order circular its_order bits are agree e equate straight

pub returns-clause-arms : goal.returns-clause-arms
returns-clause-arms c = λ k scope library refused of items order circular its_order bits are agree e arm below.
    found.arms_by_tables k scope library refused of items order circular its_order bits are agree e arm below

pub returns-clause-of_types : goal.returns-clause-of_types
returns-clause-of_types c = λ t scope library refused of items order circular its_order bits are agree e equate straight.
    found.bad_of_types_by_tables t scope library refused of items order circular its_order bits are agree e equate straight
