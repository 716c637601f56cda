use Rattle.std.proofs.Common.{◌≡◌, ◌∙◌, ◌<◌, ◌↔◌, ℕ, List, Some, true, length, slice_get, ap, subst, sym}
use Rattle.clu_circles.specs.Circles.{AreCircles}
use Rattle.clu_tree.specs.declared.node.Node.{Node}
use Rattle.clu_names.specs.declared.scopes.Declared.{Declared}
use Rattle.clu_syntax.specs.Items.{Item}
use Rattle.clu_settle.specs.Circular.{is_circular, spans_to}
use Rattle.clu_settle.specs.Graph.{unfolded_to}
use Rattle.clu_name_rules.specs.Own.{own_places}
use Rattle.clu_name_rules.specs.Repeated.{AreNoted, notes_of}
use Rattle.clu_name_rules.specs.Words.{words_to}
use Rattle.clu_check_mod.specs.Answered.{AreLists}
use Rattle.clu_check_mod.proofs.checking.lists_of.Goals as goal

pub returns : goal.returns
returns c =
    let nodes : List Node = c.args.syntax.now in
    let declared : List Declared = c.args.names.now.declared.items in
    let circles = c.in_ok-equate_circles.field-0 in
    let items = c.in_ok-items.items in
    subst (AreLists nodes c.args.rounds.now c.args.names.now) (sym c.in_ok-new.ensures.ok) (record {
      order = subst (λ (t : List Node). AreCircles (unfolded_to t declared (length t)) (spans_to t c.args.rounds.now declared) circles.order.items circles.circular.items) c.tree-2.ensures.same c.in_ok-equate_circles.ensures.order;
      circular = subst (λ (t : List Node). length c.args.rounds.now ≡ length t → (k : ℕ) → k < length declared → (slice_get circles.circular.items k ≡ Some true) ↔ (is_circular t c.args.rounds.now declared k ≡ true)) c.tree-2.ensures.same c.in_ok-equate_circles.ensures.circular;
      own = c.in_ok-own_places.ensures ∙ ap (λ (ds : List Declared). own_places ds c.len.result) c.as_slice-declared.ensures.value ∙ ap (own_places declared) (c.len.ensures.len ∙ ap length c.tree-3.ensures.same);
      words = c.in_ok-words.ensures ∙ ap (λ (t : List Node). words_to t (length t)) c.tree.ensures.same;
      items =
          subst (λ (w : List (List ℕ)). AreNoted (length nodes) (notes_of w nodes declared) items.value) c.deref.ensures
          (subst (λ (ds : List Declared). AreNoted (length nodes) (notes_of c.deref.result.now nodes ds) items.value) c.as_slice-declared.ensures.value c.in_ok-items.ensures);
      routines = λ (read : ℕ → Item). c.in_ok-of_tree.ensures read;
    })
