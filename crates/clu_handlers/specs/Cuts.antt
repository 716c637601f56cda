-- The cuts between regions.
use Rattle.std.specs.Prelude.{◌≡◌, ℕ, ◌+◌, ◌*◌, ◌^◌, ◌<◌, ◌≤◌, suc, List, [], ◌∷◌, length, ◌&&◌, nat_lt, nat_le, if◌then◌else◌}
use Rattle.clu_handlers.specs.declared.region.Region.{Region}
use Rattle.clu_handlers.specs.declared.region.Cut.{Cut}
use Rattle.clu_handlers.specs.Regions.{is_round}

-- the number for no region
abbrev pub no_region : ℕ
no_region = 0xffff_ffff

-- The innermost region round a place is the last one round it, since each comes before those inside it.
abbrev pub innermost_behind : ℕ → ℕ → List Region → ℕ → ℕ
innermost_behind before n [] pc = before
innermost_behind before n (r ∷ rs) pc = innermost_behind (if is_round r pc then n else before) (suc n) rs pc

abbrev pub innermost : List Region → ℕ → ℕ
innermost rs pc = innermost_behind no_region 0 rs pc

-- the region that the last cut not above a place names
abbrev pub named_behind : ℕ → List Cut → ℕ → ℕ
named_behind before [] pc = before
named_behind before (c ∷ cs) pc = named_behind (if nat_le c.from pc then c.region else before) cs pc

abbrev pub named_at : List Cut → ℕ → ℕ
named_at cs pc = named_behind no_region cs pc

-- the first cut is at this place, and each other one above the one before it
abbrev pub Ascend : ℕ → List Cut → Type 0
Ascend low [] = Unit {0}
Ascend low (c ∷ cs) = (low ≤ c.from) × Ascend (suc c.from) cs

abbrev pub StartAt : ℕ → List Cut → Type 0
StartAt place [] = ⊥
StartAt place (c ∷ cs) = c.from ≡ place

pub record AreCuts (rs : List Region) (cuts : List Cut) : Type 0 where
  pub start : StartAt 0 cuts
  pub ascend : Ascend 0 cuts
  pub few : length cuts ≤ 2 * length rs + 1
  pub innermost : (pc : ℕ) → pc < 2 ^ 32 → named_at cuts pc ≡ innermost rs pc

-- The next bound after a place, where a region begins or after one, or the number of places.
abbrev pub nearer : ℕ → ℕ → ℕ → ℕ
nearer next pc bound = if nat_lt pc bound && nat_lt bound next then bound else next

abbrev pub next_behind : ℕ → List Region → ℕ → ℕ
next_behind before [] pc = before
next_behind before (r ∷ rs) pc = next_behind (nearer (nearer before pc r.first) pc (suc r.last)) rs pc

abbrev pub next_bound : List Region → ℕ → ℕ
next_bound rs pc = next_behind (2 ^ 32) rs pc
