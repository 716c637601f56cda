-- Whether two uses name the same.
use Rattle.std.specs.Prelude.{Bool, bytes_eq}
use Rattle.clu_specs.specs.Seen.{Used, use_text}

-- two uses are one where their texts are the same
abbrev pub same_used : Used → Used → Bool
same_used a b = bytes_eq (use_text a) (use_text b)
