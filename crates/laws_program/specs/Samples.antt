-- A program that does nothing, with an image that stands for it, one that writes, and one that fails.
use Rattle.std.specs.Prelude.{ℕ, false, [], ◌∷◌, codes}
use Rattle.rv_isa.specs.Image.{Contents, contents}
use Rattle.clu_base.specs.declared.constants.Const.TheVariants as constant_of
use Rattle.clu_types.specs.CluType.{stream_type}
use Rattle.clu_layout.specs.Objects.{operation_of}
use Rattle.clu_meaning.specs.Programs.{constant, routine, call, no_expressions, expression_and, call_statement, signal_statement, Statements, no_statements, statement_and, RoutineDefinition, routine_module, Program}

abbrev start_up : Statements → ℕ → RoutineDefinition
start_up body count = record {
  name = codes "start_up";
  is_iterator = false;
  parameters = 0;
  formals = [];
  results = [];
  signals = [];
  locals = [];
  owns = [];
  set_up = no_statements;
  body = body;
  count = count;
}

-- start_up = proc () end start_up
abbrev pub nothing : Program
nothing = routine_module (start_up no_statements 2) ∷ []

-- an image of one instruction, which returns: ECALL, with x17 as it is at the start
abbrev pub returning : Contents
returning = contents 0 (0x73 ∷ []) [] []

-- start_up = proc () stream$puts(stream$primary_output(), "a") end start_up
abbrev pub writing : Program
writing = routine_module (start_up
    (statement_and (call_statement (call (routine (operation_of stream_type (codes "puts")))
    (expression_and (call (routine (operation_of stream_type (codes "primary_output"))) no_expressions)
    (expression_and (constant (constant_of.Str (codes "a"))) no_expressions)))) no_statements) 10) ∷ []

-- start_up = proc () signal failure("a") end start_up
abbrev pub failing : Program
failing = routine_module (start_up (statement_and (signal_statement (codes "failure") (expression_and (constant (constant_of.Str (codes "a"))) no_expressions)) no_statements) 4) ∷ []
