-- What the code of an operation comes to beside what the operation comes to.
use Rattle.std.specs.Prelude.{◌≡◌, ℕ, suc, ◌<◌, ◌≤◌, List, [], ◌∷◌, Some}
use Rattle.clu_types.specs.CluType.{CluTypes, no_types, type_and}
use Rattle.clu_layout.specs.Objects.{Object}
use Rattle.clu_layout.specs.Actions.{World, Outcome, returned, signalled, wrong}
use Rattle.clu_wir.specs.Traps.{trap_name}
use Rattle.clu_wir.specs.Value.{Value, View, Gives, Raises}
use Rattle.clu_representation.specs.Layout.{Image, Layout}
use Rattle.clu_representation.specs.Shown.{At}

-- the slots from a number on have words that show objects at names of these types, one for each
abbrev pub InSlots : Image → Layout → View → CluTypes → ℕ → List Object → Type 0
InSlots image map view no_types n [] = Unit {0}
InSlots image map view (type_and t ts) n (o ∷ os) = ((u : ℕ) × (view.slot n ≡ Some u) × At image map t o u) × InSlots image map view ts (suc n) os
InSlots image map view _ n _ = ⊥

-- An operation leaves a world that code leaves as it is: it writes and changes nothing, and its work is at least 1. Words that it
-- takes are those of binding to type any, which code of such an operation doesn't take.
pub record Untouched (w after : World) : Type 0 where
  pub cells : after.cells ≡ w.cells
  pub input : after.input ≡ w.input
  pub output : after.output ≡ w.output
  pub words : w.words ≤ after.words
  pub work : w.work < after.work

-- the word shows the result
abbrev pub Result : Image → Layout → List Object → Value → CluTypes → Type 0
Result image map (o ∷ []) (Gives v) (type_and t no_types) = At image map t o v
Result image map _ _ _ = ⊥

-- the trap raises the exception
abbrev pub Exception : List ℕ → List Object → Value → Type 0
Exception name [] (Raises t) = name ≡ trap_name t
Exception name _ _ = ⊥

-- What an operation comes to in a world, and the value of an expression, come to the same. Where no case of the operation applies
-- nothing is said of the value: no well-typed program comes there.
abbrev pub Comes : Image → Layout → CluTypes → (World → Type 0) → Outcome → Value → Type 0
Comes image map types Then (returned os after) value = Result image map os value types × Then after
Comes image map types Then (signalled name os after) value = Exception name os value × Then after
Comes image map types Then wrong value = Unit {0}
