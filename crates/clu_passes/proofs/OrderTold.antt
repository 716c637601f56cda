-- The order in which equates are asked is that of `equate_circles`.
use Rattle.std.proofs.Common.{◌≡◌, ◌∙◌, ◌↔◌, ℕ, ◌<◌, Bool, true, List, length, Some, subst, sym}
use Rattle.std.specs.Prelude.{slice_get}
use Rattle.clu_circles.specs.Circles.{AreCircles}
use Rattle.clu_syntax.specs.Rounds.{AreRounds}
use Rattle.clu_names.specs.declared.binding.Names.{Names}
use Rattle.clu_names.specs.declared.scopes.Declared.{Declared}
use Rattle.clu_names.specs.Denotes.{bound_to, starts_to}
use Rattle.clu_names.specs.Scopes.{declarations}
use Rattle.clu_checking.specs.Files.{File}
use Rattle.clu_settle.specs.Circular.{is_circular, spans_to}
use Rattle.clu_settle.specs.Graph.{unfolded_to}
use Rattle.clu_passes.specs.Refusing.{IsOrder}
use Rattle.clu_passes.specs.Tables.{AreNames}
use Rattle.clu_passes.proofs.TableFields.{marks_told, names_told}

pub order_told : (f : File) → AreRounds f.nodes f.rounds → f.scope.declarations ≡ declarations f.nodes f.rounds →
    (names : Names) → names.declared.items ≡ declarations f.nodes f.rounds → names.bound.items ≡ bound_to f.nodes names.declared.items (length f.nodes) → names.starts.items ≡ starts_to f.nodes names.declared.items (length f.nodes) →
    (order : List ℕ) (circular : List Bool) → AreCircles (unfolded_to f.nodes names.declared.items (length f.nodes)) (spans_to f.nodes f.rounds names.declared.items) order circular →
    (length f.rounds ≡ length f.nodes → (k : ℕ) → k < length names.declared.items → (slice_get circular k ≡ Some true) ↔ (is_circular f.nodes f.rounds names.declared.items k ≡ true)) → IsOrder f names order circular
order_told f rounds all names declared bound starts order circular circles marks =
    let named : AreNames f names = names_told f all names declared bound starts in record {
      all = all;
      named = named;
      circles = subst (λ (ds : List Declared). AreCircles (unfolded_to f.nodes ds (length f.nodes)) (spans_to f.nodes f.rounds ds) order circular) (declared ∙ sym all) circles;
      marks = marks_told f rounds names named circular marks;
    }
