use Rattle.laws_parts.proofs.Search.{search_words}
use Rattle.laws_parts.proofs.laws.search_words_are.Goals as goal

pub returns : goal.returns
returns c = search_words
