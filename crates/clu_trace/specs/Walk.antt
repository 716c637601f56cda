-- What the words of a stack say: which instances are live.
use Rattle.std.specs.Prelude.{ℕ, zero, suc, ◌+◌, ◌-◌, ◌%◌, ◌^◌, min, Bool, ◌==◌, ◌&&◌, nat_le, nat_lt, if◌then◌else◌, List, [], ◌∷◌, ◌++◌, length, fold, find, Option, Some, None}
use Rattle.std.specs.Int.{w64}
use Rattle.clu_trace.specs.declared.instance.Instance.{Instance}
use Rattle.clu_trace.specs.declared.map.TraceMap.{TraceMap}
use Rattle.clu_trace.specs.declared.place.Place.{Place}
use Rattle.rv_machine.specs.State.{State, read_at, register, stack_start}

-- sums stop at 64 bits
abbrev pub plus : ℕ → ℕ → ℕ
plus a b = min (a + b) (2 ^ 64 - 1)

-- a word of the stack, which has so many bytes
abbrev pub has_word : ℕ → ℕ → Bool
has_word bytes at = nat_le stack_start at && (at % 8 == 0) && nat_le (plus at 8) (stack_start + bytes)

abbrev pub word_at : ℕ → State → ℕ → Option ℕ
word_at bytes s at = if has_word bytes at then read_at w64 s at else None

-- a frame and a record have the place of a frame as word 1 and its link table as word 2: a frame its caller's, a record that of the
-- iterator. What stands on that frame goes up to here
abbrev pub led_to : ℕ → Option ℕ → Option ℕ → Option Place
led_to at (Some frame) (Some table) = Some (record { frame = frame; top = at; table = table })
led_to at _ table = None

abbrev pub place_below : ℕ → State → ℕ → Option Place
place_below bytes s at = led_to at (word_at bytes s (plus at 8)) (word_at bytes s (plus at 16))

-- an iterator is suspended on a frame where its word 3, the top outside all loops, is below the top
abbrev pub record_above : ℕ → Option ℕ → Option ℕ
record_above top None = None
record_above top (Some outside) = if nat_lt outside top then Some (top - 24) else None

abbrev pub record_of : ℕ → State → Place → Option ℕ
record_of bytes s p = record_above p.top (word_at bytes s (plus p.frame 24))

-- what the frame of the instance with a link table tells
abbrev pub told_by : Option Instance → List ℕ
told_by None = []
told_by (Some i) = i.entries

abbrev pub told : TraceMap → ℕ → List ℕ
told map table = told_by (find (λ i. i.table == table) map.instances)

-- an entry is noted if it is the number of a name and there is room
abbrev pub note : ℕ → ℕ → List ℕ → ℕ → List ℕ
note room names entries n = if nat_lt n names && nat_lt (length entries) room then entries ++ n ∷ [] else entries

abbrev pub noted : ℕ → ℕ → List ℕ → List ℕ → List ℕ
noted room names entries numbers = fold (note room names) entries numbers

-- one place down: to the iterator that is suspended highest on the frame, or, after what the frame tells, to its caller
abbrev pub place_by : ℕ → State → Place → Option ℕ → Option Place
place_by bytes s p None = place_below bytes s p.frame
place_by bytes s p (Some at) = place_below bytes s at

abbrev pub place_after : ℕ → State → Place → Option Place
place_after bytes s p = place_by bytes s p (record_of bytes s p)

abbrev pub entries_by : ℕ → TraceMap → List ℕ → Place → Option ℕ → List ℕ
entries_by room map entries p None = noted room (length map.names) entries (told map p.table)
entries_by room map entries p (Some at) = entries

abbrev pub entries_after : ℕ → TraceMap → ℕ → State → List ℕ → Place → List ℕ
entries_after room map bytes s entries p = entries_by room map entries p (record_of bytes s p)

abbrev pub go_on : (List ℕ → Place → List ℕ) → List ℕ → Option Place → List ℕ
go_on further entries None = entries
go_on further entries (Some p) = further entries p

-- so many places down
abbrev pub walk : ℕ → TraceMap → ℕ → State → ℕ → List ℕ → Place → List ℕ
walk room map bytes s zero entries p = entries
walk room map bytes s (suc n) entries p = go_on (walk room map bytes s n) (entries_after room map bytes s entries p) (place_after bytes s p)
