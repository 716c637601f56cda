-- A region as it was added.
use Rattle.clu_wir.specs.Adding.{Added, added}
use Rattle.clu_handlers.specs.declared.region.Region.{Region}

abbrev pub seen : Region → Added
seen r = added r.first r.last r.parent r.arms.items
