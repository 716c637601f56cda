-- All that computations are put together from, as one name to unfold for what computes.
use Rattle.clu_literal.specs.Literal.{with_byte}
use Rattle.clu_meaning.specs.Settling.{unfolded_to}
use Rattle.clu_meaning.specs.Computations.{gives, ends, continue_with, and_then, continue_either_way, either_way, spends_a_turn, need, needed, with_one, with_bool, with_routine, either, if_there, sees_frame, sees_world, sees_owns, sees_stack, with_frame, with_owns, enters, goes_deeper, leaves, counts, takes, traced, outcome, does}
use Rattle.clu_meaning.specs.Binding.{names, names_each, forgets}
use Rattle.clu_meaning.specs.Calls.{procedure_ending, set_up_ending, loop_ending, body_ending, yields}
use Rattle.clu_meaning.specs.Expressions.{makes_fields, makes_elements, makes_elements_from, uses, operates, eval, eval_all, eval_components}
use Rattle.clu_meaning.specs.Statements.{turn_ending, handled, arm_if_named, taken_by, exec, exec_all, exec_clauses, exec_otherwise, exec_tag_arms, exec_whens, exec_others}
use Rattle.clu_meaning.specs.Run.{level, fails_with, start_ending}

unfoldable pub executing : Unit {0}
unfolding with_byte unfolded_to gives ends continue_with and_then continue_either_way either_way spends_a_turn need needed with_one with_bool with_routine either if_there sees_frame sees_world sees_owns sees_stack with_frame with_owns enters goes_deeper leaves counts takes traced outcome does names names_each forgets procedure_ending set_up_ending loop_ending body_ending yields makes_fields makes_elements makes_elements_from uses operates eval eval_all eval_components turn_ending handled arm_if_named taken_by exec exec_all exec_clauses exec_otherwise exec_tag_arms exec_whens exec_others level fails_with start_ending
executing = tt
