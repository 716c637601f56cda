-- Samples of the operations of stream. The output had the byte 33 before, and 5 words and 50 units were spent.
use Prim.Native.String.{String}
use Rattle.std.specs.Prelude.{◌≡◌, refl, ℕ, true, false, List, [], ◌∷◌, codes}
use Rattle.clu_types.specs.CluType.{stream_type}
use Rattle.clu_layout.specs.Objects.{Object, bool_object, char_object, stream_object, input_stream, output_stream}
use Rattle.clu_layout.specs.Actions.{returned, signalled}
use Rattle.clu_layout.specs.Primitive.{prim}
use Rattle.clu_layout.specs.Computing.{computing}
use Rattle.clu_layout.proofs.Sampling.{one, two, string, world}

abbrev input : Object
input = stream_object input_stream

abbrev output : Object
output = stream_object output_stream

-- the operation for these objects and this input gives objects; then this input is left, and the output has these bytes
abbrev Does : String → List Object → List ℕ → List Object → List ℕ → List ℕ → ℕ → ℕ → Type 0
Does op os before results after written words work =
    prim stream_type (codes op) os (world [] before (33 ∷ []) 5 50) ≡ returned results (world [] after written words work)

-- it signals, and input and output are as before
abbrev Refuses : String → List Object → List ℕ → String → List Object → ℕ → Type 0
Refuses op os before name objects work = prim stream_type (codes op) os (world [] before (33 ∷ []) 5 50)
    ≡ signalled (codes name) objects (world [] before (33 ∷ []) 5 work)

primary_input : Does "primary_input" [] [] (one input) [] (33 ∷ []) 5 51
unfolding computing
primary_input = refl

primary_output : Does "primary_output" [] [] (one output) [] (33 ∷ []) 5 51
unfolding computing
primary_output = refl

getc : Does "getc" (one input) (codes "ab") (one (char_object 97)) (codes "b") (33 ∷ []) 5 51
unfolding computing
getc = refl

getc_of_a_line's_end : Does "getc" (one input) (10 ∷ 98 ∷ []) (one (char_object 10)) (codes "b") (33 ∷ []) 5 51
unfolding computing
getc_of_a_line's_end = refl

getc_end_of_file : Refuses "getc" (one input) [] "end_of_file" [] 51
unfolding computing
getc_end_of_file = refl

getc_not_possible : Refuses "getc" (one output) (codes "ab") "not_possible" (one (string "cannot read")) 51
unfolding computing
getc_not_possible = refl

-- getl counts the bytes of the string twice, and its words
getl : Does "getl" (one input) (97 ∷ 98 ∷ 10 ∷ 99 ∷ 10 ∷ []) (one (string "ab")) (99 ∷ 10 ∷ []) (33 ∷ []) 7 57
unfolding computing
getl = refl

getl_of_an_empty_line : Does "getl" (one input) (10 ∷ 99 ∷ []) (one (string "")) (codes "c") (33 ∷ []) 6 52
unfolding computing
getl_of_an_empty_line = refl

getl_to_the_end : Does "getl" (one input) (codes "ab") (one (string "ab")) [] (33 ∷ []) 7 57
unfolding computing
getl_to_the_end = refl

getl_end_of_file : Refuses "getl" (one input) [] "end_of_file" [] 51
unfolding computing
getl_end_of_file = refl

getl_not_possible : Refuses "getl" (one output) [] "not_possible" (one (string "cannot read")) 51
unfolding computing
getl_not_possible = refl

empty : Does "empty" (one input) [] (one (bool_object true)) [] (33 ∷ []) 5 51
unfolding computing
empty = refl

not_empty : Does "empty" (one input) (10 ∷ []) (one (bool_object false)) (10 ∷ []) (33 ∷ []) 5 51
unfolding computing
not_empty = refl

empty_not_possible : Refuses "empty" (one output) (codes "ab") "not_possible" (one (string "cannot read")) 51
unfolding computing
empty_not_possible = refl

putc : Does "putc" (two output (char_object 97)) [] [] [] (33 ∷ 97 ∷ []) 5 51
unfolding computing
putc = refl

putc_not_possible : Refuses "putc" (two input (char_object 97)) [] "not_possible" (one (string "cannot write")) 51
unfolding computing
putc_not_possible = refl

-- puts and putl count the bytes of the string besides
puts : Does "puts" (two output (string "ab")) [] [] [] (33 ∷ 97 ∷ 98 ∷ []) 5 53
unfolding computing
puts = refl

puts_not_possible : Refuses "puts" (two input (string "ab")) [] "not_possible" (one (string "cannot write")) 53
unfolding computing
puts_not_possible = refl

putl : Does "putl" (two output (string "ab")) [] [] [] (33 ∷ 97 ∷ 98 ∷ 10 ∷ []) 5 53
unfolding computing
putl = refl

putl_not_possible : Refuses "putl" (two input (string "ab")) [] "not_possible" (one (string "cannot write")) 53
unfolding computing
putl_not_possible = refl

equal_same : Does "equal" (two output output) [] (one (bool_object true)) [] (33 ∷ []) 5 51
unfolding computing
equal_same = refl

equal_inputs : Does "equal" (two input input) [] (one (bool_object true)) [] (33 ∷ []) 5 51
unfolding computing
equal_inputs = refl

equal_other : Does "equal" (two output input) [] (one (bool_object false)) [] (33 ∷ []) 5 51
unfolding computing
equal_other = refl
