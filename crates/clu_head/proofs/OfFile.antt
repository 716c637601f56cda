-- All that is known of a file's heads, from what each call says.
use Rattle.std.proofs.Common.{◌≡◌, ◌∙◌, ℕ, Bool, List, [], length, map, Option, sym, ap, subst}
use Rattle.std.proofs.lemmas.List.{append-nil}
use Rattle.clu_tree.specs.declared.node.Node.{Node}
use Rattle.clu_tree.specs.Nodes.{modules}
use Rattle.clu_names.specs.declared.scopes.Declared.{Declared}
use Rattle.clu_syntax.specs.declared.round.Round.{Round}
use Rattle.clu_types.specs.Arena.{Grows}
use Rattle.clu_types.specs.declared.term.Term.{Term}
use Rattle.clu_settle.specs.declared.parameters.Parameters.{Parameters}
use Rattle.clu_settle.specs.declared.value.Value.{Value}
use Rattle.clu_settle.specs.Parameters.{AreNumbered}
use Rattle.clu_head.specs.declared.asked.Asked.{Asked}
use Rattle.clu_head.specs.declared.head.Demanded.{Demanded}
use Rattle.clu_head.specs.declared.head.Head.{Head}
use Rattle.clu_head.specs.declared.heads.Heads.{Heads}
use Rattle.clu_head.specs.declared.clauses.Asking.{Asking}
use Rattle.clu_head.specs.declared.known.Known.{Known}
use Rattle.clu_head.specs.declared.restricted.Restricted.{Restricted}
use Rattle.clu_head.specs.Asked.{demands_at, demands_to, starts_to}
use Rattle.clu_head.specs.Asking.{untyped}
use Rattle.clu_head.specs.Modules.{among, has_head, IsOfModule, AreOfModules, AreKnown, AreOf, AreHeadsOf}
use Rattle.clu_head.specs.Refused.{counts_to}
use Rattle.clu_head.specs.Restricting.{restricted_to}
use Rattle.clu_head.specs.Sets.{kept_at, said_of, set_led}
use Rattle.clu_head.specs.Wanted.{AreAsked, asked_to}
use Rattle.clu_head.proofs.Adding.{zip_wider}
use Rattle.clu_head.proofs.OfModules.{of_module_wider}
use Rattle.clu_head.proofs.Wanting.{asked_wider}

same_grows : (ts : List Term) → Grows ts ts
same_grows ts = ([], sym (append-nil ts))

asked_later : (k : Known) (old mid new : List Term) → Grows mid new → (all : List Asking) (ds : List Demanded) → AreAsked k old mid all ds → AreAsked k old new all ds
unfolding AreAsked
asked_later k old mid new behind all ds are = (are.0, are.1, asked_wider old old mid new (same_grows old) behind k all are.0 are.2)

modules_earlier : (k : Known) (asked : Asked) (old mid new : List Term) → Grows old mid → (ns : List ℕ) (hs : List Head) → AreOfModules k asked mid new ns hs → AreOfModules k asked old new ns hs
unfolding AreOfModules
modules_earlier k asked old mid new front ns hs are = zip_wider (IsOfModule k asked mid new) (IsOfModule k asked old new) (of_module_wider k asked old mid new new front (same_grows new)) (among (has_head k.syntax.now) ns) hs are

pub of_file_made : (k : Known) (old mid new : List Term) → Grows old mid → Grows mid new → (heads : Heads)
    → heads.asked.starts.items ≡ starts_to (demands_at k.syntax.now k.rounds.now k.counts.now k.restricted.now) (length k.syntax.now)
    → map untyped heads.asked.demands.items ≡ demands_to (demands_at k.syntax.now k.rounds.now k.counts.now k.restricted.now) (length k.syntax.now)
    → AreAsked k old mid (asked_to k (length k.syntax.now)) heads.asked.demands.items → AreOfModules k heads.asked mid new (modules k.syntax.now) heads.modules.items → AreOf k old new heads
of_file_made k old mid new front behind heads starts demands asked heads_are = record {
  starts = starts;
  demands = demands;
  asked = asked_later k old mid new behind (asked_to k (length k.syntax.now)) heads.asked.demands.items asked;
  modules = modules_earlier k heads.asked old mid new front (modules k.syntax.now) heads.modules.items heads_are;
}

pub heads_made : (nodes : List Node) (rounds : List Round) (ds : List Declared) (values : List Value) (refused : List Bool) (old new : List Term) (heads : Heads) (k : Known) → AreOf k old new heads → (parameters : Parameters) (sets : List (Option ℕ))
    → k.syntax.now ≡ nodes → k.rounds.now ≡ rounds → k.values.now ≡ values → k.refused.now ≡ counts_to refused (length refused) → AreNumbered nodes rounds ds parameters → k.counts.now ≡ parameters.counts.items
    → ((place : ℕ) → kept_at sets place ≡ set_led (said_of nodes ds ds) place) → k.restricted.now ≡ restricted_to nodes ds sets parameters.numbers.items (length nodes) → AreHeadsOf nodes rounds ds values refused old new heads
unfolding AreHeadsOf
heads_made nodes rounds ds values refused old new heads k are parameters sets tree round value counted numbered counts led restricted = (
  k,
  record {
    tree = tree;
    round = round;
    value = value;
    counted = counted;
    parameters = parameters;
    numbered = numbered;
    counts = counts;
    sets = sets;
    led = led;
    restricted = restricted;
  },
  are,
)

pub numbered_so : (nodes tree : List Node) (rounds : List Round) (ds slice : List Declared) (parameters : Parameters) → tree ≡ nodes → slice ≡ ds → AreNumbered tree rounds slice parameters → AreNumbered nodes rounds ds parameters
numbered_so nodes tree rounds ds slice parameters same declared are =
    subst (λ (ns : List Node). AreNumbered ns rounds ds parameters) same (subst (λ (xs : List Declared). AreNumbered tree rounds xs parameters) declared are)

pub restricted_so : (nodes : List Node) (ds : List Declared) (sets slice : List (Option ℕ)) (numbers others : List ℕ) (made kept : List Restricted) → made ≡ kept → kept ≡ restricted_to nodes ds slice others (length nodes) → slice ≡ sets → others ≡ numbers
    → made ≡ restricted_to nodes ds sets numbers (length nodes)
restricted_so nodes ds sets slice numbers others made kept is as_made of_sets of_numbers =
    is
    ∙ as_made
    ∙ ap (λ (s : List (Option ℕ)). restricted_to nodes ds s others (length nodes)) of_sets
    ∙ ap (λ (ns : List ℕ). restricted_to nodes ds sets ns (length nodes)) of_numbers
