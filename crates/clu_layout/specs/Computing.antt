-- One name to unfold where a result is computed, for all that does not unfold by itself.
use Rattle.clu_layout.specs.Actions.{gives_all, signals_with, no_case, signals_if, or_signals, either, or_fails, need, needed, continued, and_then, counts, takes, with_none, with_one, with_two, with_three, with_bool, with_int, with_char, with_string, with_stream, with_routine, with_sequence, with_struct, with_oneof, with_cell, as_array, as_record, as_variant, with_array, with_record, with_variant, makes, changes}
use Rattle.clu_layout.specs.StreamOperations.{reads, leaves, writes}
use Rattle.clu_layout.specs.Primitive.{done_in, prim, force, make_array, make_array_with_low, make_sequence, make_struct, make_record}

unfoldable pub computing : Unit {0}
unfolding gives_all signals_with no_case signals_if or_signals either or_fails need needed continued and_then counts takes with_none with_one with_two with_three with_bool with_int with_char with_string with_stream with_routine with_sequence with_struct with_oneof with_cell as_array as_record as_variant with_array with_record with_variant makes changes reads leaves writes done_in prim force make_array make_array_with_low make_sequence make_struct make_record
computing = tt
