-- The tables of names, of values and of circular equates, by what is said of the calls that make them.
use Rattle.std.proofs.Common.{◌≡◌, ◌∙◌, ◌<◌, ◌↔◌, ℕ, Bool, true, List, length, slice_get, Some, sym, ap, subst}
use Rattle.clu_parser.specs.Trees.{Text}
use Rattle.clu_syntax.specs.Rounds.{AreRounds}
use Rattle.clu_names.specs.declared.binding.Names.{Names}
use Rattle.clu_names.specs.declared.scopes.Declared.{Declared}
use Rattle.clu_names.specs.Denotes.{bound_to, starts_to}
use Rattle.clu_names.specs.Scopes.{declarations}
use Rattle.clu_meaning.specs.Scoping.{Scope}
use Rattle.clu_checking.specs.Files.{File, scope_in}
use Rattle.clu_settle.specs.declared.settling.Values.{Values}
use Rattle.clu_settle.specs.Circular.{is_circular}
use Rattle.clu_settle.specs.Meant.{meanings_of}
use Rattle.clu_settle.specs.Names.{AreMeanings}
use Rattle.clu_settle.specs.Settled.{AreSettled}
use Rattle.clu_declares.specs.Declares.{AreFew, IsParsed}
use Rattle.clu_declares.proofs.Each.{are_meanings}
use Rattle.clu_passes.specs.Marks.{AreMarks}
use Rattle.clu_passes.specs.Tables.{AreNames}

pub names_told : (f : File) → f.scope.declarations ≡ declarations f.nodes f.rounds → (names : Names) → names.declared.items ≡ declarations f.nodes f.rounds → names.bound.items ≡ bound_to f.nodes names.declared.items (length f.nodes) → names.starts.items ≡ starts_to f.nodes names.declared.items (length f.nodes) → AreNames f names
names_told f scope names declared bound starts =
    let same : names.declared.items ≡ f.scope.declarations = declared ∙ sym scope in
    record {
      declared = same;
      bound = bound ∙ ap (λ (ds : List Declared). bound_to f.nodes ds (length f.nodes)) same;
      starts = starts ∙ ap (λ (ds : List Declared). starts_to f.nodes ds (length f.nodes)) same;
    }

pub values_told : (t : Text) (f : File) → IsParsed t f.nodes → AreRounds f.nodes f.rounds → AreFew f.nodes f.rounds → f.scope ≡ scope_in f.nodes f.rounds → (names : Names) → AreNames f names → (all : Values) → all.meanings.items ≡ meanings_of f.nodes f.rounds names.declared.items
    → ((scope : Scope) → AreMeanings f.nodes scope all.meanings.items → AreSettled f.nodes scope all.types all.constants all.values.items) → AreSettled f.nodes f.scope all.types all.constants all.values.items
values_told t f parsed are few scope names named all meant settled =
    let declared : names.declared.items ≡ declarations f.nodes f.rounds = named.declared ∙ ap (λ (s : Scope). s.declarations) scope in
    let meanings : all.meanings.items ≡ meanings_of f.nodes f.rounds (declarations f.nodes f.rounds) = meant ∙ ap (meanings_of f.nodes f.rounds) declared in
    subst (λ (s : Scope). AreSettled f.nodes s all.types all.constants all.values.items) (sym scope)
    (settled (scope_in f.nodes f.rounds) (subst (AreMeanings f.nodes (scope_in f.nodes f.rounds)) (sym meanings) (are_meanings t f.nodes f.rounds parsed are few)))

pub marks_told : (f : File) → AreRounds f.nodes f.rounds → (names : Names) → AreNames f names → (marks : List Bool)
    → (length f.rounds ≡ length f.nodes → (k : ℕ) → k < length names.declared.items → (slice_get marks k ≡ Some true) ↔ (is_circular f.nodes f.rounds names.declared.items k ≡ true)) → AreMarks f marks
marks_told f are names named marks bits =
    subst (λ (ds : List Declared). (k : ℕ) → k < length ds → (slice_get marks k ≡ Some true) ↔ (is_circular f.nodes f.rounds ds k ≡ true)) named.declared (bits are.size)
