-- What a map says of an image.
use Rattle.std.specs.Prelude.{ℕ, ◌+◌, ◌*◌, ◌/◌, Bool, true, ◌&&◌, nat_le, nat_lt, IsTrue, List, [], ◌∷◌, length}
use Rattle.std.specs.List.{list_all}
use Rattle.clu_trace.specs.declared.instance.Instance.{Instance}
use Rattle.clu_trace.specs.declared.map.TraceMap.{TraceMap}
use Rattle.rv_isa.specs.Image.{Contents}

-- the addresses of the code, the fixed part, which begins at a multiple of 8 bytes, and the data
abbrev pub code_start : ℕ
code_start = 0x10000

abbrev pub fixed_start : Contents → ℕ
fixed_start image = code_start + 8 * ((length image.code + 1) / 2)

abbrev pub data_start : Contents → ℕ
data_start image = fixed_start image + length image.fixed

-- the search part is entered in the code
abbrev pub is_in_code : TraceMap → Contents → Bool
is_in_code map image = nat_le code_start map.search && nat_lt map.search (code_start + 4 * length image.code)

-- the link tables ascend from an address on, below another, so that no two instances have the same
abbrev pub ascend : ℕ → ℕ → List Instance → Bool
ascend from below [] = true
ascend from below (i ∷ is) = nat_le from i.table && nat_lt i.table below && ascend (i.table + 1) below is

-- so many names are told from
abbrev pub tells : ℕ → Instance → Bool
tells count i = list_all (λ n. nat_lt n count) i.entries

abbrev pub is_map_of : TraceMap → Contents → Bool
is_map_of map image =
    is_in_code map image && ascend (fixed_start image) (data_start image) map.instances && list_all (tells (length map.names)) map.instances

-- the map is one of the image: its search part is entered in the code, the link tables of its instances lie in the fixed part, each has its own,
-- and what they tell are names of the map
abbrev pub Maps : TraceMap → Contents → Type 0
Maps map image = IsTrue (is_map_of map image)
