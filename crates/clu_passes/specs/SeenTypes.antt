-- The types that stand in a heading, by tables.
use Rattle.std.specs.Prelude.{ℕ, Some}
use Rattle.clu_syntax.specs.Items.{Item}
use Rattle.clu_meaning.specs.Resolving.{heading_type}
use Rattle.clu_checking.specs.Files.{File, item}
use Rattle.clu_checking.specs.Headings.{for_callers, place_at}
use Rattle.clu_bindings.specs.Inside.{type_outside}
use Rattle.clu_type_rules.specs.declared.known.Known.{Known}
use Rattle.clu_passes.specs.FactTables.{IsType}

-- that at the node t as callers see it, in the heading in which the node n stands
abbrev pub IsOutsideKnown : File → Known → ℕ → ℕ → Type 0
IsOutsideKnown f k n t = (items : ℕ → Item) → IsType k.tables.types.now (type_outside k.tables.file items n t) (Some (for_callers (heading_type (place_at f n) (item f t).type)))
