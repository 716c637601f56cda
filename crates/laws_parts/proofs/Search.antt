-- What is written of the part is these words in the end.
use Rattle.std.proofs.Common.{◌≡◌, refl}
use Rattle.rv_select.specs.Finished.{blank, finished, landed}
use Rattle.rv_select.specs.Searching.{search_onto}
use Rattle.rv_select.specs.Written.{emitted, fresh, holed, noted, placed}
use Rattle.laws_parts.specs.Search.{search_code}

pub search_words : finished (search_onto (blank 18)) ≡ search_code
unfolding finished search_onto landed emitted holed placed fresh noted
search_words = refl
