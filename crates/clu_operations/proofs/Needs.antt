-- What a built-in operation needs, as it is asked.
use Rattle.std.proofs.Common.{◌≡◌, ◌∙◌, ℕ, ◌<◌, ◌≤◌, Bool, true, false, List, [], ◌∷◌, ◌++◌, length, map, get_or, refl, sym, ap, ap₂, subst, arith, append_assoc, append-nil}
use Rattle.clu_types.specs.CluType.{CluType}
use Rattle.clu_types.specs.Arena.{type_at, type_of, types_of, Grows}
use Rattle.clu_types.specs.declared.term.Heading.{Heading}
use Rattle.clu_types.specs.declared.term.Term.{Term}
use Rattle.clu_types.proofs.Arenas.{types_grown}
use Rattle.clu_types.proofs.Carrying.{length_grows}
use Rattle.clu_builtin.specs.declared.needs.Need.{Need}
use Rattle.clu_builtin.specs.Operation.{Needed}
use Rattle.clu_builtin.specs.Built.{needs_at, operation_at, NeedsBelow}
use Rattle.clu_operations.specs.Asked.{AsksMore}
use Rattle.clu_operations.specs.Asking.{Asks, asks_of, with_asked, with_needs}
use Rattle.clu_operations.specs.Builtins.{routine_term, builtin_type, need_told}
use Rattle.clu_operations.specs.Finding.{Extends, AreAskedBelow}
use Rattle.clu_operations.specs.Told.{Ask, ask_told}
use Rattle.clu_operations.specs.Words.{with_name, number_with, AreOnce}
use Rattle.clu_operations.specs.declared.finding.Finding.{Finding}
use Rattle.clu_operations.specs.declared.found.Asked.{Asked}
use Rattle.clu_operations.proofs.Naming.{extends_self, extends_on, length_extends, name_stays, kept_extends, number_named, number_below}
use Rattle.clu_operations.proofs.Once.{once_with}

-- these needs are asked behind what was asked before
pub record AreAskedBehind (needs : List Need) (before after : Asks) : Type 0 where
  pub words : Extends before.names after.names
  pub once : AreOnce before.names → AreOnce after.names
  pub more : List Asked
  pub asked : after.asked ≡ before.asked ++ more
  pub told : (types : List CluType) → map (ask_told types after.names) more ≡ map need_told (needs_at types needs)
  pub below : (n : ℕ) → NeedsBelow n needs → AreAskedBelow n (length after.names) more

one_behind : (need : Need) (needs : List Need) (its after : Asks) → AreAskedBehind needs (with_asked need.of need.op need.wanted false its) after → AreAskedBehind (need ∷ needs) its after
one_behind need needs its after rest =
    let asked : Asked = record { of = need.of; operation = number_with its.names need.op; wanted = need.wanted; in_set = false } in
    let number = number_below its.names need.op in
    let there : (number_with its.names need.op).0 < length after.names = omega (arith, number, length_extends (with_name its.names need.op) after.names rest.words) in
    let named : get_or after.names (number_with its.names need.op).0 [] ≡ need.op =
    name_stays (with_name its.names need.op) after.names rest.words (number_with its.names need.op).0 number ∙ number_named its.names need.op in
    record {
      words = extends_on its.names (with_name its.names need.op) after.names (kept_extends its.names need.op) rest.words;
      once = λ once. rest.once (once_with its.names need.op once);
      more = asked ∷ rest.more;
      asked = rest.asked ∙ append_assoc its.asked (asked ∷ []) rest.more;
      told = λ types. ap₂ (λ (name : List ℕ) (others : List Ask). let one : Ask = record { of = type_at types need.of; operation = name; wanted = type_at types need.wanted; in_set = false } in one ∷ others) named (rest.told types);
      below = λ n below. ((below.0, below.1, there), rest.below n below.2);
    }

pub needs_behind : (needs : List Need) (its : Asks) → AreAskedBehind needs its (with_needs needs its)
needs_behind [] its = record { words = extends_self its.names; once = λ once. once; more = []; asked = sym (append-nil its.asked); told = λ types. refl; below = λ n below. tt }
needs_behind (need ∷ needs) its = one_behind need needs its (with_needs (need ∷ needs) its) (needs_behind needs (with_asked need.of need.op need.wanted false its))

-- ---- the types of needs stay while the arena grows

pub needs_kept : (old new : List Term) → Grows old new → (needs : List Need) → NeedsBelow (length old) needs → needs_at (types_of new) needs ≡ needs_at (types_of old) needs
needs_kept old new grows [] below = refl
needs_kept old new grows (need ∷ needs) below =
    rw (types_grown old new grows need.of below.0, types_grown old new grows need.wanted below.1, needs_kept old new grows needs below.2) refl

pub needs_longer : (m n : ℕ) → m ≤ n → (needs : List Need) → NeedsBelow m needs → NeedsBelow n needs
needs_longer m n le [] below = tt
needs_longer m n le (need ∷ needs) below = (omega (arith, below.0), omega (arith, below.1), needs_longer m n le needs below.2)

-- ---- the type of a routine

pub routine_type : (types : List CluType) (iter : Bool) (heading : Heading) (needs : List Need)
    → type_of types (routine_term iter heading) ≡ builtin_type iter (operation_at types (record { iter = iter; heading = heading; needs = needs }))
routine_type types true heading needs = refl
routine_type types false heading needs = refl

-- ---- what a step that asks these needs has asked

pub needs_asked : (old terms : List Term) → Grows old terms → (f g : Finding) (given needs : List Need) → given ≡ needs → NeedsBelow (length old) needs
    → asks_of g.words g.asked.items ≡ with_needs given (asks_of f.words f.asked.items) → g.founds.items ≡ f.founds.items → g.wished ≡ f.wished → g.given ≡ f.given → g.shown ≡ f.shown
    → AsksMore terms f g (map need_told (needs_at (types_of old) needs))
needs_asked old terms grows f g given needs same below pushed founds wished given_is shown =
    let asked : asks_of g.words g.asked.items ≡ with_needs needs (asks_of f.words f.asked.items) = pushed ∙ ap (λ (its : List Need). with_needs its (asks_of f.words f.asked.items)) same in
    let behind : AreAskedBehind needs (asks_of f.words f.asked.items) (asks_of g.words g.asked.items) =
    subst (AreAskedBehind needs (asks_of f.words f.asked.items)) (sym asked) (needs_behind needs (asks_of f.words f.asked.items)) in
    record {
      words = behind.words;
      once = behind.once;
      more = behind.more;
      asked = behind.asked;
      told = behind.told (types_of terms) ∙ ap (λ (needed : List Needed). map need_told needed) (needs_kept old terms grows needs below);
      below = behind.below (length terms) (needs_longer (length old) (length terms) (length_grows old terms grows) needs below);
      founds = founds;
      wished = wished;
      given = given_is;
      shown = shown;
    }
