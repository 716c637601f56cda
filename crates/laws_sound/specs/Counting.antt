-- A program that is well typed, so that the laws on such programs speak of some.
use Rattle.std.specs.Prelude.{ℕ, pos, Bool, false, ◌||◌, [], ◌∷◌, bytes_eq, codes}
use Rattle.clu_base.specs.declared.constants.Const.TheVariants as constant_of
use Rattle.clu_types.specs.CluType.{int_type}
use Rattle.clu_layout.specs.Objects.{Routine, module_routine, operation_of}
use Rattle.clu_meaning.specs.Programs.{local, Expression, constant, variable, operator, Expressions, no_expressions, expression_and, initialisation, assignment, while_statement, return_statement, no_statements, statement_and, RoutineDefinition, routine_module, Program}

abbrev x : Expression
x = variable (local 0)

abbrev numeral : ℕ → Expression
numeral n = constant (constant_of.Int (pos n))

abbrev these : Expression → Expressions
these e = expression_and e no_expressions

-- start = proc ()
--   x: int := 1
--   while x < 10 do x := x + 1 end
--   return
-- end start
abbrev pub counting_text : RoutineDefinition
counting_text = record {
  name = codes "start";
  is_iterator = false;
  parameters = 0;
  formals = [];
  results = [];
  signals = [];
  locals = record { number = 0; type = int_type } ∷ [];
  owns = [];
  set_up = no_statements;
  body = statement_and (initialisation (local 0 ∷ []) (numeral 1))
      (statement_and (while_statement (operator (codes "lt") x (these (numeral 10))) (statement_and (assignment (local 0 ∷ []) (these (operator (codes "add") x (these (numeral 1))))) no_statements))
      (statement_and (return_statement no_expressions) no_statements));
  count = 17;
}

abbrev pub counting : Program
counting = routine_module counting_text ∷ []

abbrev pub counting_lawful : Routine → Bool
counting_lawful (module_routine m given) = bytes_eq m (codes "start")
counting_lawful (operation_of int_type op) = bytes_eq op (codes "lt") || bytes_eq op (codes "add")
counting_lawful _ = false
