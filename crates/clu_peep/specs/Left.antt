-- The places of code, and what is left of them.
use Rattle.std.specs.Prelude.{◌≡◌, ℕ, zero, suc, ◌+◌, ◌==◌, Bool, true, false, not, ◌&&◌, ◌||◌, IsTrue, List, [], ◌∷◌, ◌++◌}
use Rattle.std.specs.List.{list_any}
use Rattle.clu_wir.specs.declared.region.Arm.{Arm}
use Rattle.clu_frames.specs.Labels.{at_last}
use Rattle.clu_frames.specs.declared.flat.Flat.{Flat}
use Rattle.clu_handlers.specs.declared.region.Region.{Region}
use Rattle.clu_peep.specs.declared.places.Place.{Place}
use Rattle.clu_peep.specs.Rows.{goes_alone, goes_first, goes_second}

-- whether an arm of a region begins at a place
abbrev pub has_target : ℕ → Region → Bool
has_target place r = list_any (λ (a : Arm). a.target == place) r.arms.items

abbrev pub begins : List Region → ℕ → Bool
begins regions place = list_any (has_target place) regions

-- the places of code, numbered from n on
abbrev pub places : (ℕ → Bool) → ℕ → List Flat → List Place
places targets n [] = []
places targets n (step ∷ steps) = (record { step = step; number = n; is_target = targets n }) ∷ places targets (n + 1) steps

-- places, at the first of which an arm begins besides if the mark is true
abbrev pub marked : Bool → Place → Place
marked mark y = record y { is_target = mark || y.is_target }

abbrev pub passed : Bool → List Place → List Place
passed mark [] = []
passed mark (y ∷ back) = marked mark y ∷ back

-- whether a row takes away a place between those before it and those after it
abbrev pub is_undone : List Place → Place → Bool
is_undone front y = at_last (λ (x : Place). goes_second x y) front

abbrev pub is_useless : Place → List Place → Bool
is_useless x [] = false
is_useless x (y ∷ back) = goes_first x y

abbrev pub goes : List Place → Place → List Place → Bool
goes front x back = goes_alone x || (is_undone front x || is_useless x back)

-- One place goes by a row. An arm that begins there begins at the next place that is left.
pub record Removal (before after : List Place) : Type 0 where
  pub front : List Place
  pub gone : Place
  pub back : List Place
  pub was : before ≡ front ++ gone ∷ back
  pub is : after ≡ front ++ passed gone.is_target back
  pub row : IsTrue (goes front gone back)

-- so many places go, one after the other
abbrev pub Removed : ℕ → List Place → List Place → Type 0
Removed zero before after = before ≡ after
Removed (suc n) before after = (between : List Place) × Removed n before between × Removal between after

-- the second is what is left of the first
abbrev pub Leaves : List Place → List Place → Type 0
Leaves before after = (n : ℕ) × Removed n before after

-- whether no row takes away one of the places
abbrev pub next_goes : Place → List Place → Bool
next_goes x [] = false
next_goes x (y ∷ back) = goes_second x y || goes_first x y

abbrev pub is_settled : List Place → Bool
is_settled [] = true
is_settled (x ∷ back) = not (goes_alone x) && (not (next_goes x back) && is_settled back)

-- a place more, with the mark that goes on to the next one
abbrev pub Adds : List Place → Place → List Place → Bool → Type 0
Adds before x after mark = (back : List Place) → Leaves (before ++ x ∷ back) (after ++ passed mark back)
