-- An arena that grows in steps.
use Rattle.std.proofs.Common.{List, [], sym}
use Rattle.std.proofs.lemmas.List.{append-nil}
use Rattle.clu_types.specs.Arena.{Grows}
use Rattle.clu_types.specs.declared.term.Term.{Term}
use Rattle.clu_types.proofs.Carrying.{grows_on}

pub grows_self : (terms : List Term) → Grows terms terms
grows_self terms = ([], sym (append-nil terms))

pub grows_twice : (a b c : List Term) → Grows a b → Grows b c → Grows a c
grows_twice a b c g h = grows_on a b c g h

pub ruleset growings = (grows_self, grows_twice)
