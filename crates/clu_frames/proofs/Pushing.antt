-- Steps and regions that are added at the end, and their numbers.
use Rattle.std.proofs.lemmas.List.{length-map, map-append}

pub ruleset pushing = (length-map, map-append)

pub ruleset counting = (length-map)
