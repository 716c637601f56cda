-- What is still to be written, as pieces. The last piece of a stack is written first; 44 is a comma.
use Rattle.std.specs.Prelude.{ℕ, List, [], ◌∷◌, ◌++◌, map, decimal}
use Rattle.std.specs.List.{flat_map}
use Rattle.clu_types.specs.CluType.{CluType}
use Rattle.clu_types.specs.Arena.{type_at, types_at, fields_at, signals_at, actuals_at}
use Rattle.clu_specs.specs.Constants.{constant_text}
use Rattle.clu_specs.specs.Texts.{type_text, more_types_text, more_fields_text, more_signals_text, more_actuals_text}
use Rattle.clu_specs.specs.Seen.{demand_seen, op_seen, kind_text, demand_text, op_text}
use Rattle.clu_specs.specs.declared.pieces.Piece.{Piece}
use Rattle.clu_specs.specs.declared.pieces.Piece.TheVariants as piece

-- the text of a piece, whose types are numbers of these
abbrev pub piece_text : List CluType → Piece → List ℕ
piece_text types (piece.Text bytes) = bytes.now
piece_text types (piece.Parameter mark n) = mark ∷ decimal n
piece_text types (piece.Constant c) = constant_text c.now
piece_text types (piece.Type id) = type_text (type_at types id)
piece_text types (piece.Types ids) = more_types_text (types_at types ids.now)
piece_text types (piece.Fields fs) = more_fields_text (fields_at types fs.now)
piece_text types (piece.Signals ss) = more_signals_text (signals_at types ss.now)
piece_text types (piece.Actuals given) = more_actuals_text (actuals_at types given.now)
piece_text types (piece.Kinds kinds) = flat_map (λ kind. 44 ∷ kind_text kind) kinds.now
piece_text types (piece.Demands ds) = flat_map (λ demand. 44 ∷ demand_text demand) (map (demand_seen types) ds.now)
piece_text types (piece.Operations ops) = flat_map op_text (map (op_seen types) ops.now)

-- the texts of pieces, the last one first, before a text that stands below them
abbrev pub stack_over : List CluType → List ℕ → List Piece → List ℕ
stack_over types below [] = below
stack_over types below (p ∷ ps) = stack_over types (piece_text types p ++ below) ps

abbrev pub stack_text : List CluType → List Piece → List ℕ
stack_text types ps = stack_over types [] ps
