-- Where an object is wanted.
use Rattle.std.specs.Prelude.{Bool, true, false}
use Rattle.clu_bindings.specs.declared.wanted.Wanted.{Wanted}
use Rattle.clu_bindings.specs.declared.wanted.Wanted.TheVariants as w

-- one object, or any number of them
abbrev pub is_object_wanted : Wanted → Bool
is_object_wanted w.Object = true
is_object_wanted w.Objects = true
is_object_wanted w.LoopCall = true
is_object_wanted _ = false
