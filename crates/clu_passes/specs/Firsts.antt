-- The table of the first items of lists by their names, as `Items` of clu_name_rules has it of a file.
use Rattle.std.specs.Prelude.{◌≡◌, length}
use Rattle.clu_checking.specs.Files.{File}
use Rattle.clu_name_rules.specs.declared.tables.Tables.{Tables}
use Rattle.clu_name_rules.specs.Repeated.{AreNoted, notes_of}
use Rattle.clu_name_rules.specs.Words.{words_to}

-- the names of the tree, each once, and what is noted of them
pub record AreItems (f : File) (t : Tables) : Type 0 where
  pub words : t.words.now ≡ words_to f.nodes (length f.nodes)
  pub noted : AreNoted (length f.nodes) (notes_of (words_to f.nodes (length f.nodes)) f.nodes f.scope.declarations) t.items.now
