-- What is given of a type parameter as it is asked for, by numbers and by types.
use Rattle.std.proofs.Common.{◌≡◌, ◌∙◌, ℕ, ◌<◌, if◌then◌else◌, Bool, true, false, List, [], length, get_or, slice_get, option_map, option_and_then, Option, Some, None, IfSome, refl, sym, ap, ap₂}
use Rattle.std.proofs.lemmas.Option.{slice_get-get_or}
use Rattle.std.specs.Option.{option_or}
use Rattle.clu_types.specs.CluType.{CluType}
use Rattle.clu_types.specs.Arena.{type_at, types_of}
use Rattle.clu_types.specs.declared.term.Term.{Term}
use Rattle.clu_types.specs.declared.term.TypeId.{TypeId}
use Rattle.clu_bindings.specs.declared.file.Headed.{Headed}
use Rattle.clu_bindings.specs.Readers.{round_in}
use Rattle.clu_operations.specs.declared.finding.Finding.{Finding}
use Rattle.clu_operations.specs.declared.found.FoundId.{FoundId}
use Rattle.clu_operations.specs.Clauses.{given_by, set_round}
use Rattle.clu_operations.specs.Finding.{found_at}
use Rattle.clu_operations.specs.Told.{Told, told}
use Rattle.clu_operations.specs.Wished.{IsFinding, FindsOf}
use Rattle.clu_operations.proofs.Lasting.{follows_self}
use Rattle.clu_operations.proofs.Looking.{by_there, by_told}
use Rattle.clu_type_rules.specs.declared.unmet.Need.{Need}
use Rattle.clu_type_rules.specs.Included.{may_be}
use Rattle.clu_type_rules.specs.Meeting.{fitting, may_fit}
use Rattle.clu_type_rules.specs.Needs.{world, fitting_by, given_for, told_fitting, told_for, IsThere}
use Rattle.clu_type_rules.proofs.Needing.{found_below, may_same}

map_or : {A B : Type 0} (f : A → B) (a b : Option A) → option_map f (option_or a b) ≡ option_or (option_map f a) (option_map f b)
map_or f (Some x) b = refl
map_or f None b = refl

some_or : {A : Type 0} (P : A → Type 0) (a b : Option A) → IfSome a P → IfSome b P → IfSome (option_or a b) P
some_or P (Some x) b h k = h
some_or P None b h k = k

module _ (headed : Headed) (terms : List Term) (f : Finding) (was : IsFinding headed terms f) (n number : ℕ) (need : Need) (there : IsThere (world terms f) need) where
  abbrev IsKept : FoundId → Type 0
  IsKept id = id.0 < length f.founds.items

  abbrev wanted : CluType
  wanted = type_at (types_of terms) need.wanted

  abbrev its_told : Option FoundId → Option Told
  its_told = option_map (told (types_of terms) f)

  abbrev given : Option ℕ → Option FoundId
  given node = fitting_by terms f need.wanted (given_by f node number need.operation)

  abbrev name : List ℕ
  name = get_or f.words need.operation.0 []

  fitting_told : (o : Option FoundId) → IfSome o IsKept → its_told (fitting_by terms f need.wanted o) ≡ fitting wanted (its_told o)
  fitting_told (Some id) kept =
      ap (λ (b : Bool). its_told (if b then Some id else None))
      (may_same terms (found_at f.founds.items id).of need.wanted (found_below (length terms) (length f.asked.items) f.founds.items id.0 kept was.within.founds).0 there.wanted)
      ∙ by (may_fit (told (types_of terms) f id).type wanted)
    where
      by : (b : Bool) → its_told (if b then Some id else None) ≡ (if b then Some (told (types_of terms) f id) else None)
      by true = refl
      by false = refl
  fitting_told None kept = refl

  fitting_there : (o : Option FoundId) → IfSome o IsKept → IfSome (fitting_by terms f need.wanted o) IsKept
  fitting_there (Some id) kept = by (may_be terms (found_at f.founds.items id).of (Some need.wanted))
    where
      by : (b : Bool) → IfSome (if b then Some id else None) IsKept
      by true = kept
      by false = tt
  fitting_there None kept = tt

  given_there : (node : Option ℕ) → IfSome (given node) IsKept
  given_there node = fitting_there (given_by f node number need.operation) (by_there headed terms f was n number need.operation node)

  its_name : slice_get f.words need.operation.0 ≡ Some name
  its_name = slice_get-get_or f.words need.operation.0 [] there.operation

  given_told : (node : Option ℕ) → its_told (given node) ≡ told_fitting headed (types_of terms) number wanted node name
  given_told node =
      fitting_told (given_by f node number need.operation) (by_there headed terms f was n number need.operation node)
      ∙ ap (fitting wanted) (by_told headed terms f was n number need.operation name (was.once need.operation name its_name) node)

  all_told : its_told (given_for headed terms f n number need) ≡ option_and_then (told_for headed (types_of terms) number wanted n) (slice_get f.words need.operation.0)
  all_told =
      map_or (told (types_of terms) f) (option_or (given (round_in headed.file n).routine) (given (round_in headed.file n).cluster)) (given (set_round headed.file n number))
      ∙ ap₂ (λ (a b : Option Told). option_or a b)
      (map_or (told (types_of terms) f) (given (round_in headed.file n).routine) (given (round_in headed.file n).cluster)
      ∙ ap₂ (λ (a b : Option Told). option_or a b) (given_told (round_in headed.file n).routine) (given_told (round_in headed.file n).cluster))
      (given_told (set_round headed.file n number))
      ∙ ap (option_and_then (told_for headed (types_of terms) number wanted n)) (sym its_name)

  all_there : IfSome (given_for headed terms f n number need) IsKept
  all_there =
      some_or IsKept (option_or (given (round_in headed.file n).routine) (given (round_in headed.file n).cluster)) (given (set_round headed.file n number))
      (some_or IsKept (given (round_in headed.file n).routine) (given (round_in headed.file n).cluster) (given_there (round_in headed.file n).routine) (given_there (round_in headed.file n).cluster))
      (given_there (set_round headed.file n number))

  pub given_found : (of : TypeId) (it : Option Told) → option_and_then (told_for headed (types_of terms) number wanted n) (slice_get f.words need.operation.0) ≡ it
      → FindsOf headed terms terms f f of it (given_for headed terms f n number need)
  given_found of it e = record { tells = λ up. all_told ∙ e; there = all_there; follows = follows_self f; finding = was }
