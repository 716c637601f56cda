use Rattle.std.proofs.Common.{◌≡◌, ◌+◌, ◌≤◌, drop}
use Rattle.clu_lexer.specs.Places.{place_after}
use Rattle.clu_lexer.proofs.places.advance.Given as goal

abbrev pub invariant-loop-b : goal.invariant-loop-b
invariant-loop-b l =
    (place_after l.place (drop l.b-index l.bytes) ≡ place_after l.initial.place l.bytes) ×
    (l.place.line ≤ l.initial.place.line + l.b-index) × (l.place.col ≤ l.initial.place.col + l.b-index)
