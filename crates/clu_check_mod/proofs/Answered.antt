-- From what one function answers of a file to what the one answers that calls it.
use Rattle.std.proofs.Common.{◌≡◌, ◌∙◌, ℕ, List, length, Option, Some, None, Result, Ok, Err, IfErr, ap, subst, sym, take, vec_items}
use Rattle.std.proofs.lemmas.List.{length-map}
use Rattle.clu_base.specs.declared.rules.Refused.{Refused}
use Rattle.clu_tree.specs.declared.node.Node.{Node}
use Rattle.clu_tree.specs.Nodes.{modules}
use Rattle.clu_syntax.specs.declared.round.Round.{Round}
use Rattle.clu_syntax.specs.Items.{Item}
use Rattle.clu_syntax.specs.Rounds.{AreRounds}
use Rattle.clu_names.specs.declared.binding.Names.{Names}
use Rattle.clu_names.specs.Denotes.{bound_to, starts_to}
use Rattle.clu_names.specs.Scopes.{declarations}
use Rattle.clu_types.specs.declared.spec.Spec.{Spec}
use Rattle.clu_types.specs.declared.term.Term.{Term}
use Rattle.clu_types.specs.Arena.{Grows, IsArena}
use Rattle.clu_settle.specs.declared.settling.Values.{Values}
use Rattle.clu_bindings.specs.declared.file.File.{File}
use Rattle.clu_bindings.specs.declared.file.Headed.{Headed}
use Rattle.clu_bindings.specs.Bindings.{AreBindings}
use Rattle.clu_bindings.specs.Modules.{AreModules, modules_in}
use Rattle.clu_bindings.specs.Numbered.{AreNumbered}
use Rattle.clu_bindings.specs.Owned.{AreOwned}
use Rattle.clu_typing.specs.declared.facts.Facts.{Facts}
use Rattle.clu_typing.specs.Pass.{AreKnown, HaveTypes, IsSound}
use Rattle.clu_check_mod.specs.Answered.{AreFoundBy, AreFoundIn, AreLists, AreNamed, AreOwn, AreValues, IsAnswerBy, IsAnswerWith, IfLost, IsFirst, IsFirstBy, IsFirstIn, IsFirstOf, IsFirstWith, IsFoundBy, IsFoundIn, IsFoundOf, IsFoundWith, IsNoLoss, IsNoRefusal, IsUnspecified, IsUnspecifiedIn, IsUnspecifiedWith}
use Rattle.clu_check_mod.specs.Modules.{AreMade, AreOf, name_of}
use Rattle.clu_check_mod.specs.Notes.{operations_of}
use Rattle.clu_check_mod.specs.Refusals.{IsOfTree, IsTold}
use Rattle.clu_check_mod.specs.declared.checking.Found.{Found}
use Rattle.clu_check_mod.specs.declared.checking.Lists.{Lists}
use Rattle.clu_check_mod.specs.declared.checking.Long.{Long}
use Rattle.clu_check_mod.specs.declared.errors.CheckError.{CheckError}
use Rattle.clu_check_mod.specs.declared.errors.CheckError.TheVariants as error
use Rattle.clu_check_mod.specs.declared.walk.Extent.{Extent}

module _ (First Second : Option Refused → Type 0) (Lost Later : Type 0) (more : (o : Option Refused) → First o → Second o) (later : Lost → Later) where
  pub error_more : (e : CheckError) → IsAnswerBy First Lost e → IsAnswerBy Second Later e
  error_more (error.Refused r) is = more (Some r) is
  error_more error.Memory is = tt
  error_more error.NotYet is = later is

  pub answer_more : {A : Type 0} (r : Result A CheckError) (Told Said : A → Type 0) → ((found : A) → Told found → Said found) → IsAnswerWith r Told First Lost → IsAnswerWith r Said Second Later
  answer_more (Ok found) Told Said says is = says found is
  answer_more (Err e) Told Said says is = error_more e is

-- what the walks tell by each way to read the nodes
pub told_answer : {A X : Type 0} {P : X → Type 0} (Holds : Type 0) (First : Option Refused → Type 0) (first : X → Option Refused) (r : Result A CheckError) → IfErr r IsNoLoss → ((x : X) → P x → IsTold r (first x)) → ((o : Option Refused) → ((x : X) → P x → first x ≡ o) → First o) → (((x : X) → P x → first x ≡ None) → Holds) → IsAnswerWith r (λ (a : A). Holds) First ⊥
told_answer Holds First first (Ok found) decided told gives finds = finds told
told_answer Holds First first (Err (error.Refused r)) decided told gives finds = gives (Some r) told
told_answer Holds First first (Err error.Memory) decided told gives finds = tt
told_answer Holds First first (Err error.NotYet) decided told gives finds = decided

-- behind the walks nothing is refused
pub no_more : (First : Option Refused → Type 0) (P Lost : Type 0) (e : CheckError) → (P → Lost) → IsNoRefusal e → IfLost e P → IsAnswerBy First Lost e
no_more First P Lost (error.Refused r) gives none lost = absurd none
no_more First P Lost error.Memory gives none lost = tt
no_more First P Lost error.NotYet gives none lost = gives lost

pub not_of_tree : (nodes : List Node) (e : CheckError) → IsNoRefusal e → IsOfTree nodes e
not_of_tree nodes (error.Refused r) none = absurd none
not_of_tree nodes error.Memory none = tt
not_of_tree nodes error.NotYet none = tt

-- ---- what headings are answered by, from what is said of the facts that are noted

module _ (headed : Headed) (before terms : List Term) (lists : Lists) (long : Long) (asked : Extent) (facts lent : Facts) (same : lent ≡ facts)
    (noted : (items : ℕ → Item) → AreKnown headed items before (length headed.file.syntax.now) terms facts) (sound : HaveTypes headed (length before) → IsArena terms → IsSound headed terms facts) (grows : Grows before terms) where
  pub first_by : (o : Option Refused) → IsFirstOf headed terms lent lists long asked o → IsFirstBy headed before lists long asked o
  first_by o is = record {
    terms = terms;
    facts = lent;
    noted = λ items. subst (AreKnown headed items before (length headed.file.syntax.now) terms) (sym same) (noted items);
    sound = λ have arena. subst (IsSound headed terms) (sym same) (sound have arena);
    grows = grows;
    is = is;
  }

  pub found_by : (last : List Term) (now : Facts) (found : Found) → IsFoundOf headed terms lent lists long asked last now → found.type_of.items ≡ now.types.items → found.op_of.items ≡ operations_of last now headed.file.syntax.now → AreMade last headed.heads.now.modules.items found.own.items → IsFoundBy headed before lists long asked last found
  unfolding first_by
  found_by last now found was type_of op_of own = record {
    is = first_by None was.is;
    are = record {
      types_are = was.types_are;
      type_of = type_of ∙ ap (λ (f : Facts). f.types.items) (sym was.facts_are);
      op_of = op_of ∙ ap (λ (f : Facts). operations_of last f headed.file.syntax.now) (sym was.facts_are);
      own = subst (λ (h : Headed). AreMade last h.heads.now.modules.items found.own.items) (sym was.is.headed_is) own;
    };
  }

-- ---- what names and values are answered by, from what is said of the file that is made of them

module _ (nodes : List Node) (rounds : List Round) (names : Names) (settled : Values) (library : List Spec) (asked : Extent) {A : Type 0} (r : Result A CheckError) where
  pub first_with : (file : File) (types : List Term) (lists : Lists) (last : List Term) (found_in : A → Found) → IsAnswerWith r (λ (a : A). IsFoundIn file types lists asked last (found_in a)) (IsFirstIn file types lists asked) (IsUnspecifiedIn file types lists asked) →
      file.syntax.now ≡ nodes → file.rounds.now ≡ rounds → file.names.now ≡ names → file.values.now ≡ settled.values.items → file.constants.now ≡ settled.constants → file.library.now ≡ library →
      AreBindings nodes rounds names settled.values.items file.bindings.now → AreModules file.bindings.now.modules (modules_in settled.types settled.values.items nodes library) → AreNumbered nodes file.bindings.now.modules → AreOwned types settled.values.items nodes (length nodes) file.bindings.now.own.items → Grows settled.types types → AreLists nodes rounds names lists →
      IsAnswerWith r (λ (a : A). IsFoundWith nodes rounds names settled library asked last (found_in a)) (IsFirstWith nodes rounds names settled library asked) (IsUnspecifiedWith nodes rounds names settled library asked)
  first_with file types lists last found_in answer nodes_are rounds_are names_are values constants library_is bindings modules numbered own grows lists_are =
      answer_more (IsFirstIn file types lists asked) (IsFirstWith nodes rounds names settled library asked) (IsUnspecifiedIn file types lists asked) (IsUnspecifiedWith nodes rounds names settled library asked) with_first
      (λ none. record { is = with_first None none.is; lost = none.lost }) r
      (λ (a : A). IsFoundIn file types lists asked last (found_in a)) (λ (a : A). IsFoundWith nodes rounds names settled library asked last (found_in a))
      (λ a was. record { is = with_first None was.is; are = subst (λ (ns : List Node). AreFoundBy ns was.is.is.is.known last (found_in a)) nodes_are was.are }) answer
    where
      with_first : (o : Option Refused) → IsFirstIn file types lists asked o → IsFirstWith nodes rounds names settled library asked o
      with_first o is = record {
        file = file;
        types = types;
        lists = lists;
        nodes_are = nodes_are;
        rounds_are = rounds_are;
        names_are = names_are;
        values = values;
        constants = constants;
        library_is = library_is;
        bindings = bindings;
        modules = modules;
        numbered = numbered;
        own = own;
        grows = grows;
        lists_are = lists_are;
        is = is;
      }

-- ---- what a tree is answered by, from what is said of its nodes where each table is made

module _ (nodes first second : List Node) (all before between rounds : List Round) (names : Names) (made settled : Values) (library : List Spec) (asked : Extent)
    (first_is : first ≡ nodes) (second_is : second ≡ nodes) (before_are : before ≡ all) (between_are : between ≡ all) (rounds_are : rounds ≡ all) (settled_is : settled ≡ made)
    (surrounded : AreRounds first all) (declared : names.declared.items ≡ declarations second before)
    (bound : names.bound.items ≡ bound_to second names.declared.items (length second)) (starts : names.starts.items ≡ starts_to second names.declared.items (length second))
    (values : AreValues nodes between names made) where
  are_named : AreNamed nodes rounds names
  are_named = record {
    declared = declared ∙ ap (λ (t : List Node). declarations t before) second_is ∙ ap (declarations nodes) (before_are ∙ sym rounds_are);
    bound = bound ∙ ap (λ (t : List Node). bound_to t names.declared.items (length t)) second_is;
    starts = starts ∙ ap (λ (t : List Node). starts_to t names.declared.items (length t)) second_is;
  }

  pub first_of_tree : (o : Option Refused) → IsFirstWith nodes rounds names settled library asked o → IsFirst nodes library asked o
  first_of_tree o is = record {
    rounds = rounds;
    names = names;
    settled = settled;
    surrounded = subst (AreRounds nodes) (sym rounds_are) (subst (λ (t : List Node). AreRounds t all) first_is surrounded);
    names_are = are_named;
    values = subst (AreValues nodes rounds names) (sym settled_is) (subst (λ (rs : List Round). AreValues nodes rs names made) (between_are ∙ sym rounds_are) values);
    is = is;
  }

  pub unspecified_of_tree : IsUnspecifiedWith nodes rounds names settled library asked → IsUnspecified nodes library asked
  unfolding first_of_tree
  unspecified_of_tree none = record { is = first_of_tree None none.is; lost = none.lost }

  pub found_of_tree : (later : Values) (found : Found) → IsFoundWith nodes rounds names settled library asked later.types found → later.values ≡ settled.values → later.constants ≡ settled.constants → AreFoundIn nodes library asked later found
  unfolding first_of_tree
  found_of_tree later found was values constants = record { is = first_of_tree None was.is; are = was.are; values = ap vec_items values; constants = constants }

made_last : (nodes : List Node) (library : List Spec) (asked : Extent) (later : Values) (found : Found) (was : AreFoundIn nodes library asked later found) → AreMade was.is.is.is.is.is.known.tables.types.now was.is.is.is.is.is.known.headed.heads.now.modules.items found.own.items
made_last nodes library asked later found was = subst (λ (terms : List Term). AreMade terms was.is.is.is.is.is.known.headed.heads.now.modules.items found.own.items) (sym was.are.types_are) was.are.own

pub own_found : (nodes : List Node) (library : List Spec) (asked : Extent) (later : Values) (found : Found) → AreFoundIn nodes library asked later found → AreOf nodes (modules nodes) found.own.items → AreOwn nodes library asked found.own.items
own_found nodes library asked later found was are = record { is = was.is; named = are; made = made_last nodes library asked later found was }

-- its own specifications, among all of which they are the first
pub own_first : (nodes : List Node) (library : List Spec) (asked : Extent) (later : Values) (found : Found) (all : List Spec) → AreFoundIn nodes library asked later found → AreOf nodes (modules nodes) found.own.items → take (length found.own.items) all ≡ found.own.items
    → AreOwn nodes library asked (take (length (modules nodes)) all)
own_first nodes library asked later found all was are front =
    let many : length (modules nodes) ≡ length found.own.items = sym (length-map (modules nodes) (name_of nodes)) ∙ ap (λ (xs : List (Option (List ℕ))). length xs) are ∙ length-map found.own.items (λ (x : Spec). Some x.name) in
    subst (AreOwn nodes library asked) (sym (ap (λ (n : ℕ). take n all) many ∙ front)) (own_found nodes library asked later found was are)
