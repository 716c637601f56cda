-- Reading step by step gives what reading at once gives.
use Rattle.std.proofs.Common.{◌≡◌, ℕ, zero, suc, ◌-◌, Bool, true, false, not, ◌&&◌, ◌==◌, if◌then◌else◌, List, [], ◌∷◌, length, codes, Option, Some, None, Result, Ok, Err, refl, sym, ◌∙◌, arith}
use Rattle.std.proofs.lemmas.Bool.{ne_eqb}
use Rattle.clu_base.specs.declared.constants.Const.{Const}
use Rattle.clu_types.specs.CluType.{CluType, parameter, cluster_of, CluTypes, no_types, type_and, Fields, no_fields, field_and, Signals, no_signals, signal_and, Actuals, no_actuals, actual_type, actual_const}
use Rattle.clu_specs.specs.declared.keywords.Selecting.{Selecting}
use Rattle.clu_specs.specs.declared.keywords.Keyword.{Keyword}
use Rattle.clu_specs.specs.declared.keywords.Keyword.TheVariants as keyword
use Rattle.clu_specs.specs.declared.actuals.Lead.{Lead}
use Rattle.clu_specs.specs.declared.scope.Sort.TheVariants as sort
use Rattle.clu_specs.specs.declared.scope.Scope.{Scope}
use Rattle.clu_specs.specs.Reading.{◌>>=◌, Read, literal_at, behind, begins_with, go_on, several}
use Rattle.clu_specs.specs.Names.{name_after, first_word, behind_word}
use Rattle.clu_specs.specs.Keywords.{keyword_of}
use Rattle.clu_specs.specs.Constants.{word_constant}
use Rattle.clu_specs.specs.Scopes.{parameter_at}
use Rattle.clu_specs.specs.TypeReading.{Reader, types_joined, fields_joined, signals_joined, actuals_joined, listing_type, selecting_type, routine_type, next_after, signal_name_after, types_step, types_read, closed_types_read, field_read, fields_step, fields_read, objects_by, signal_read, signals_step, signals_read, arguments_by, arguments_read, results_read, all_signals_read, heading_read, word_actual_by, lead_of, marked_actual_read, is_marked, actual_by, actuals_step, actuals_read, all_actuals_by, cluster_type_read, keyword_type_read, word_type_by, one_type_by, one_type_read}
use Rattle.clu_specs.specs.Pending.{SignalsMade, Waiting, element, field, argument, outcome, object, given, Reached, whole, inside, item, signal, signals_begun, results_begun, arguments_begun, keyword_begun, actuals_begun, cluster_begun, word_begun, field_ended, argument_ended, result_ended, with_signal, signal_ended, signal_made, object_ended, actual_ended, resumed, objects_begun, signal_begun, type_begun_by, type_begun, word_actual_begun, actual_begun, item_begun}

pub bind_same : {A B : Type 0} (r : Result A ℕ) (f g : A → Result B ℕ) → ((x : A) → f x ≡ g x) → (r >>= f) ≡ (r >>= g)
bind_same (Ok x) f g e = e x
bind_same (Err left) f g e = refl

pub bind_twice : {A B C : Type 0} (r : Result A ℕ) (f : A → Result B ℕ) (g : B → Result C ℕ) → ((r >>= f) >>= g) ≡ (r >>= λ x. f x >>= g)
bind_twice (Ok x) f g = refl
bind_twice (Err left) f g = refl

three : {A B C D : Type 0} (r : Result A ℕ) (a : A → Result B ℕ) (b : B → Result C ℕ) (c : C → Result D ℕ) → (((r >>= a) >>= b) >>= c) ≡ (r >>= λ x. (a x >>= b) >>= c)
three (Ok x) a b c = refl
three (Err left) a b c = refl

four : {A X B C D : Type 0} (r : Result A ℕ) (f : A → Result X ℕ) (a : X → Result B ℕ) (b : B → Result C ℕ) (c : C → Result D ℕ) → ((((r >>= f) >>= a) >>= b) >>= c) ≡ (r >>= λ x. ((f x >>= a) >>= b) >>= c)
four (Ok x) f a b c = refl
four (Err left) f a b c = refl

if_bind : {A B : Type 0} (c : Bool) (r s : Result A ℕ) (f : A → Result B ℕ) → ((if c then r else s) >>= f) ≡ (if c then (r >>= f) else (s >>= f))
if_bind true r s f = refl
if_bind false r s f = refl

if_three : {A B C D : Type 0} (q : Bool) (r s : Result A ℕ) (a : A → Result B ℕ) (b : B → Result C ℕ) (c : C → Result D ℕ) → ((((if q then r else s) >>= a) >>= b) >>= c) ≡ (if q then (((r >>= a) >>= b) >>= c) else (((s >>= a) >>= b) >>= c))
if_three true r s a b c = refl
if_three false r s a b c = refl

if_same : {A : Type 0} (c : Bool) (r s t u : A) → r ≡ t → s ≡ u → (if c then r else s) ≡ (if c then t else u)
if_same true r s t u p q = p
if_same false r s t u p q = q

-- a row, its closing mark, and what follows
closed_bind : {A B : Type 0} (row : Read A) (mark : List ℕ) (g : A × List ℕ → Read B) → ((row >>= λ x. literal_at mark x.1 >>= λ rest. Ok (x.0, rest)) >>= g) ≡ (row >>= λ x. literal_at mark x.1 >>= λ rest. g (x.0, rest))
closed_bind (Ok x) mark g = bind_twice (literal_at mark x.1) (λ rest. Ok (x.0, rest)) g
closed_bind (Err left) mark g = refl

-- the same, if a name is left off the row
abbrev unnamed : {A C : Type 0} → (A × C) × List ℕ → Read A
unnamed x = Ok (x.0.0, x.1)

abbrev closed : {A : Type 0} → List ℕ → A × List ℕ → Read A
closed mark x = literal_at mark x.1 >>= λ rest. Ok (x.0, rest)

named_bind : {A B C : Type 0} (row : Read (A × C)) (mark : List ℕ) (g : A × List ℕ → Read B) → (((row >>= unnamed) >>= closed mark) >>= g) ≡ (row >>= λ x. literal_at mark x.1 >>= λ rest. g (x.0.0, rest))
named_bind (Ok x) mark g = bind_twice (literal_at mark x.1) (λ rest. Ok (x.0.0, rest)) g
named_bind (Err left) mark g = refl

unnamed_bind : {A B C : Type 0} (row : Read (A × C)) (g : A × List ℕ → Read B) → ((row >>= λ x. Ok (x.0.0, x.1)) >>= g) ≡ (row >>= λ x. g (x.0.0, x.1))
unnamed_bind (Ok x) g = refl
unnamed_bind (Err left) g = refl

module _ (scope : Scope) (part : Reader CluType) where
  abbrev pub types_row : ℕ → CluTypes → Reader CluTypes
  types_row left made bytes = several (types_step part) (λ made rest. behind 44 rest) left made bytes

  abbrev pub fields_row : ℕ → Fields × List ℕ → Reader (Fields × List ℕ)
  fields_row left made bytes = several (fields_step part) (λ made rest. next_after made.1 rest) left made bytes

  abbrev pub signals_row : ℕ → Signals × List ℕ → Reader (Signals × List ℕ)
  signals_row left made bytes = several (signals_step part) (λ made rest. next_after made.1 rest) left made bytes

  abbrev pub actuals_row : ℕ → Actuals → Reader Actuals
  actuals_row left made bytes = several (actuals_step scope part) (λ made rest. behind 44 rest) left made bytes

  -- what follows each list
  abbrev pub fields_closed : Selecting → (Fields × List ℕ) × List ℕ → Read CluType
  fields_closed word x = literal_at (93 ∷ []) x.1 >>= λ rest. Ok (selecting_type word x.0.0, rest)

  abbrev pub signals_on : Bool → CluTypes → CluTypes → Reader CluType
  signals_on iter args results bytes = all_signals_read part bytes >>= λ signals. Ok (routine_type iter args results signals.0, signals.1)

  abbrev pub results_on : Bool → CluTypes → Reader CluType
  results_on iter args bytes = results_read part iter bytes >>= λ results. signals_on iter args results.0 results.1

  abbrev pub arguments_closed : Bool → CluTypes × List ℕ → Read CluType
  arguments_closed iter x = literal_at (41 ∷ []) x.1 >>= λ rest. results_on iter x.0 rest

  abbrev pub results_closed : Bool → CluTypes → CluTypes × List ℕ → Read CluType
  results_closed iter args x = literal_at (41 ∷ []) x.1 >>= λ rest. signals_on iter args x.0 rest

  abbrev pub signals_closed : SignalsMade → (Signals × List ℕ) × List ℕ → Read CluType
  signals_closed s x = literal_at (41 ∷ []) x.1 >>= λ rest. Ok (routine_type s.iter s.args s.results x.0.0, rest)

  abbrev pub signal_on : SignalsMade → CluTypes → Reader CluType
  signal_on s objects bytes =
      go_on (next_after s.name bytes) ((signals_joined s.made (signal_and s.name objects no_signals), s.name), bytes) (λ rest. signals_row s.left (signals_joined s.made (signal_and s.name objects no_signals), s.name) rest) >>= signals_closed s

  abbrev pub objects_closed : SignalsMade → CluTypes × List ℕ → Read CluType
  objects_closed s x = literal_at (41 ∷ []) x.1 >>= λ rest. signal_on s x.0 rest

  abbrev pub actuals_closed : List ℕ → Actuals × List ℕ → Read CluType
  actuals_closed name x = literal_at (93 ∷ []) x.1 >>= λ rest. Ok (cluster_of name x.0, rest)

  -- what the whole gives, after the type that it waited for
  abbrev pub waits : Waiting → CluType → Reader CluType
  waits (element word) t bytes = literal_at (93 ∷ []) bytes >>= λ rest. Ok (listing_type word t, rest)
  waits (field word left made name) t bytes =
      go_on (next_after name bytes) ((fields_joined made (field_and name t no_fields), name), bytes) (λ rest. fields_row left (fields_joined made (field_and name t no_fields), name) rest) >>= fields_closed word
  waits (argument iter left made) t bytes =
      go_on (behind 44 bytes) (types_joined made (type_and t no_types), bytes) (λ rest. types_row left (types_joined made (type_and t no_types)) rest) >>= arguments_closed iter
  waits (outcome iter args left made) t bytes =
      go_on (behind 44 bytes) (types_joined made (type_and t no_types), bytes) (λ rest. types_row left (types_joined made (type_and t no_types)) rest) >>= results_closed iter args
  waits (object s left made) t bytes =
      go_on (behind 44 bytes) (types_joined made (type_and t no_types), bytes) (λ rest. types_row left (types_joined made (type_and t no_types)) rest) >>= objects_closed s
  waits (given name left made) t bytes =
      go_on (behind 44 bytes) (actuals_joined made (actual_type t no_actuals), bytes) (λ rest. actuals_row left (actuals_joined made (actual_type t no_actuals)) rest) >>= actuals_closed name

  -- what the whole gives from where an item begins
  abbrev pub item_on : Waiting → Reader CluType
  item_on (element word) bytes = part bytes >>= λ t. waits (element word) t.0 t.1
  item_on (field word left made name) bytes = fields_row left (made, name) bytes >>= fields_closed word
  item_on (argument iter left made) bytes = types_row left made bytes >>= arguments_closed iter
  item_on (outcome iter args left made) bytes = types_row left made bytes >>= results_closed iter args
  item_on (object s left made) bytes = types_row left made bytes >>= objects_closed s
  item_on (given name left made) bytes = actuals_row left made bytes >>= actuals_closed name

  abbrev pub on : Reached → Reader CluType
  on (whole t) bytes = Ok (t, bytes)
  on (inside w) bytes = part bytes >>= λ t. waits w t.0 t.1
  on (item w) bytes = item_on w bytes
  on (signal s) bytes = signals_row s.left (s.made, s.name) bytes >>= signals_closed s

  abbrev pub on_from : Read Reached → Read CluType
  on_from r = r >>= λ x. on x.0 x.1

  signals_stepped : (iter : Bool) (args results : CluTypes) (bytes : List ℕ) → signals_on iter args results bytes ≡ on_from (signals_begun iter args results bytes)
  unfolding all_signals_read signals_read signals_begun
  signals_stepped iter args results bytes =
      let made : List ℕ → SignalsMade = λ rest. record { iter = iter; args = args; results = results; left = length rest; made = no_signals; name = [] } in
      let word = literal_at (codes "signals(") bytes in
      if_bind (begins_with 115 bytes) _ _ _
      ∙ (if_same (begins_with 115 bytes) _ _ _ _
      (bind_twice word _ _ ∙ (bind_same word _ _ (λ rest. named_bind (signals_row (length rest) (no_signals, []) rest) (41 ∷ []) _) ∙ sym (bind_twice word (λ rest. Ok (signal (made rest), rest)) (λ x. on x.0 x.1))))
      refl
      ∙ sym (if_bind (begins_with 115 bytes) _ _ _))

  results_stepped : (iter : Bool) (args : CluTypes) (bytes : List ℕ) → results_on iter args bytes ≡ on_from (results_begun iter args bytes)
  unfolding results_read closed_types_read types_read results_begun
  results_stepped iter args bytes =
      let yields = literal_at (codes "yields(") bytes in
      let returns = literal_at (codes "returns(") bytes in
      let g : CluTypes × List ℕ → Read CluType = λ results. signals_on iter args results.0 results.1 in
      let first : ((yields >>= λ rest. closed_types_read part rest) >>= g) ≡ on_from (yields >>= λ rest. Ok (item (outcome iter args (length rest) no_types), rest)) =
      bind_twice yields _ g ∙ (bind_same yields _ _ (λ rest. closed_bind (types_row (length rest) no_types rest) (41 ∷ []) g) ∙ sym (bind_twice yields _ _)) in
      let second : ((returns >>= λ rest. closed_types_read part rest) >>= g) ≡ on_from (returns >>= λ rest. Ok (item (outcome iter args (length rest) no_types), rest)) =
      bind_twice returns _ g ∙ (bind_same returns _ _ (λ rest. closed_bind (types_row (length rest) no_types rest) (41 ∷ []) g) ∙ sym (bind_twice returns _ _)) in
      if_bind (iter && begins_with 121 bytes) _ _ _
      ∙ (if_same (iter && begins_with 121 bytes) _ _ _ _ first
      (if_bind (not iter && begins_with 114 bytes) _ _ _ ∙ (if_same (not iter && begins_with 114 bytes) _ _ _ _ second (signals_stepped iter args no_types bytes) ∙ sym (if_bind (not iter && begins_with 114 bytes) _ _ _)))
      ∙ sym (if_bind (iter && begins_with 121 bytes) _ _ _))

  arguments_stepped : (iter : Bool) (o : Option (List ℕ)) (bytes : List ℕ) → (arguments_by part o bytes >>= λ args. results_on iter args.0 args.1) ≡ on_from (arguments_begun iter o bytes)
  unfolding arguments_by closed_types_read types_read arguments_begun
  arguments_stepped iter None bytes = closed_bind (types_row (length bytes) no_types bytes) (41 ∷ []) (λ args. results_on iter args.0 args.1)
  arguments_stepped iter (Some rest) bytes = results_stepped iter no_types rest

  heading_stepped : (iter : Bool) (bytes : List ℕ) → (heading_read part iter bytes >>= λ h. Ok (routine_type iter h.0.0 h.0.1 h.0.2, h.1)) ≡ (arguments_read part bytes >>= λ args. results_on iter args.0 args.1)
  unfolding heading_read
  heading_stepped iter bytes =
      let a = arguments_read part bytes in
      bind_twice a _ _ ∙ bind_same a _ _ (λ args. bind_twice (results_read part iter args.1) _ _ ∙ bind_same (results_read part iter args.1) _ _ (λ results. bind_twice (all_signals_read part results.1) _ _))

  keyword_stepped : (word : Keyword) (bytes : List ℕ) → keyword_type_read scope part word bytes ≡ on_from (keyword_begun word bytes)
  unfolding keyword_type_read keyword_begun fields_read arguments_read
  keyword_stepped (keyword.Simple word) bytes = refl
  keyword_stepped (keyword.Listing word) bytes = sym (bind_twice (literal_at (91 ∷ []) bytes) _ _)
  keyword_stepped (keyword.Selecting word) bytes =
      let front = literal_at (91 ∷ []) bytes in
      bind_same front _ _ (λ rest. unnamed_bind (fields_row (length rest) (no_fields, []) rest) (λ fs. literal_at (93 ∷ []) fs.1 >>= λ rest. Ok (selecting_type word fs.0, rest))) ∙ sym (bind_twice front _ _)
  keyword_stepped (keyword.Routine iter) bytes =
      let front = literal_at (40 ∷ []) bytes in
      heading_stepped iter bytes ∙ (bind_twice front _ _ ∙ (bind_same front _ _ (λ rest. arguments_stepped iter (behind 41 rest) rest) ∙ sym (bind_twice front _ _)))

  actuals_stepped : (name : List ℕ) (o : Option (List ℕ)) (bytes : List ℕ) → (all_actuals_by scope part o bytes >>= λ given. Ok (cluster_of name given.0, given.1)) ≡ on_from (actuals_begun name o bytes)
  unfolding all_actuals_by actuals_read actuals_begun
  actuals_stepped name None bytes = refl
  actuals_stepped name (Some rest) bytes = closed_bind (actuals_row (length rest) no_actuals rest) (93 ∷ []) (λ given. Ok (cluster_of name given.0, given.1))

  word_stepped : (o : Option Keyword) (bytes : List ℕ) → word_type_by scope part o bytes ≡ on_from (word_begun o bytes)
  unfolding word_type_by cluster_type_read word_begun cluster_begun
  word_stepped None bytes =
      let front = name_after [] 200 bytes in
      bind_same front _ _ (λ name. actuals_stepped name.0 (behind 91 name.1) name.1) ∙ sym (bind_twice front _ _)
  word_stepped (Some word) bytes = keyword_stepped word (behind_word bytes)

  type_stepped_by : (o : Option (List ℕ)) (bytes : List ℕ) → one_type_by scope part o bytes ≡ on_from (type_begun_by scope o bytes)
  unfolding one_type_by type_begun_by
  type_stepped_by None bytes = word_stepped (keyword_of (first_word bytes)) bytes
  type_stepped_by (Some rest) bytes = sym (bind_twice {A = ℕ × List ℕ} {B = Reached × List ℕ} (parameter_at scope sort.Type bytes rest) (λ n. Ok (whole (parameter n.0), n.1)) (λ x. on x.0 x.1))

  pub type_stepped : (bytes : List ℕ) → one_type_read scope part bytes ≡ on_from (type_begun scope bytes)
  type_stepped bytes = type_stepped_by (behind 35 bytes) bytes

  -- after an item
  fields_ended : (word : Selecting) (left : ℕ) (made : Fields) (name : List ℕ) (o : Option (List ℕ)) (bytes : List ℕ)
      → (go_on o ((made, name), bytes) (λ rest. fields_row left (made, name) rest) >>= fields_closed word) ≡ on_from (field_ended word left made name o bytes)
  unfolding field_ended
  fields_ended word left made name None bytes = sym (bind_twice (literal_at (93 ∷ []) bytes) _ _)
  fields_ended word left made name (Some rest) bytes = refl

  arguments_ended : (iter : Bool) (left : ℕ) (made : CluTypes) (o : Option (List ℕ)) (bytes : List ℕ)
      → (go_on o (made, bytes) (λ rest. types_row left made rest) >>= arguments_closed iter) ≡ on_from (argument_ended iter left made o bytes)
  unfolding argument_ended
  arguments_ended iter left made None bytes =
      let front = literal_at (41 ∷ []) bytes in
      bind_same front _ _ (λ rest. results_stepped iter made rest) ∙ sym (bind_twice front _ _)
  arguments_ended iter left made (Some rest) bytes = refl

  results_ended : (iter : Bool) (args : CluTypes) (left : ℕ) (made : CluTypes) (o : Option (List ℕ)) (bytes : List ℕ)
      → (go_on o (made, bytes) (λ rest. types_row left made rest) >>= results_closed iter args) ≡ on_from (result_ended iter args left made o bytes)
  unfolding result_ended
  results_ended iter args left made None bytes =
      let front = literal_at (41 ∷ []) bytes in
      bind_same front _ _ (λ rest. signals_stepped iter args made rest) ∙ sym (bind_twice front _ _)
  results_ended iter args left made (Some rest) bytes = refl

  signals_ended : (s : SignalsMade) (o : Option (List ℕ)) (bytes : List ℕ)
      → (go_on o ((s.made, s.name), bytes) (λ rest. signals_row s.left (s.made, s.name) rest) >>= signals_closed s) ≡ on_from (signal_ended s o bytes)
  unfolding signal_ended
  signals_ended s None bytes = sym (bind_twice (literal_at (41 ∷ []) bytes) _ _)
  signals_ended s (Some rest) bytes = refl

  signal_stepped : (s : SignalsMade) (objects : CluTypes) (bytes : List ℕ) → signal_on s objects bytes ≡ on_from (signal_made s objects bytes)
  signal_stepped s objects bytes = signals_ended (with_signal s objects) (next_after s.name bytes) bytes

  objects_ended : (s : SignalsMade) (left : ℕ) (made : CluTypes) (o : Option (List ℕ)) (bytes : List ℕ)
      → (go_on o (made, bytes) (λ rest. types_row left made rest) >>= objects_closed s) ≡ on_from (object_ended s left made o bytes)
  unfolding object_ended
  objects_ended s left made None bytes =
      let front = literal_at (41 ∷ []) bytes in
      bind_same front _ _ (λ rest. signal_stepped s made rest) ∙ sym (bind_twice front _ _)
  objects_ended s left made (Some rest) bytes = refl

  actuals_ended : (name : List ℕ) (left : ℕ) (made : Actuals) (o : Option (List ℕ)) (bytes : List ℕ)
      → (go_on o (made, bytes) (λ rest. actuals_row left made rest) >>= actuals_closed name) ≡ on_from (actual_ended name left made o bytes)
  unfolding actual_ended
  actuals_ended name left made None bytes = sym (bind_twice (literal_at (93 ∷ []) bytes) _ _)
  actuals_ended name left made (Some rest) bytes = refl

  pub resumed_stepped : (w : Waiting) (t : CluType) (bytes : List ℕ) → waits w t bytes ≡ on_from (resumed w t bytes)
  unfolding resumed
  resumed_stepped (element word) t bytes = sym (bind_twice (literal_at (93 ∷ []) bytes) _ _)
  resumed_stepped (field word left made name) t bytes = fields_ended word left (fields_joined made (field_and name t no_fields)) name (next_after name bytes) bytes
  resumed_stepped (argument iter left made) t bytes = arguments_ended iter left (types_joined made (type_and t no_types)) (behind 44 bytes) bytes
  resumed_stepped (outcome iter args left made) t bytes = results_ended iter args left (types_joined made (type_and t no_types)) (behind 44 bytes) bytes
  resumed_stepped (object s left made) t bytes = objects_ended s left (types_joined made (type_and t no_types)) (behind 44 bytes) bytes
  resumed_stepped (given name left made) t bytes = actuals_ended name left (actuals_joined made (actual_type t no_actuals)) (behind 44 bytes) bytes

  -- from where an item begins
  field_item : (word : Selecting) (n : ℕ) (made : Fields) (previous bytes : List ℕ)
      → (fields_row (suc n) (made, previous) bytes >>= fields_closed word)
      ≡ on_from (name_after previous 200 bytes >>= λ name. literal_at (58 ∷ []) name.1 >>= λ rest. Ok (inside (field word n made name.0), rest))
  unfolding several field_read
  field_item word n made previous bytes =
      let front = name_after previous 200 bytes in
      four front _ _ _ _
      ∙ (bind_same front _ _ (λ name. (four (literal_at (58 ∷ []) name.1) _ _ _ _ ∙ (bind_same (literal_at (58 ∷ []) name.1) _ _ (λ rest. four (part rest) _ _ _ _) ∙ sym (bind_twice (literal_at (58 ∷ []) name.1) _ _))))
      ∙ sym (bind_twice front _ _))

  argument_item : (iter : Bool) (n : ℕ) (made : CluTypes) (bytes : List ℕ) → (types_row (suc n) made bytes >>= arguments_closed iter) ≡ on (inside (argument iter n made)) bytes
  unfolding several
  argument_item iter n made bytes = three (part bytes) _ _ _

  result_item : (iter : Bool) (args : CluTypes) (n : ℕ) (made : CluTypes) (bytes : List ℕ) → (types_row (suc n) made bytes >>= results_closed iter args) ≡ on (inside (outcome iter args n made)) bytes
  unfolding several
  result_item iter args n made bytes = three (part bytes) _ _ _

  object_item : (s : SignalsMade) (n : ℕ) (made : CluTypes) (bytes : List ℕ) → (types_row (suc n) made bytes >>= objects_closed s) ≡ on (inside (object s n made)) bytes
  unfolding several
  object_item s n made bytes = three (part bytes) _ _ _

  -- a row whose next actual parameter was read so
  abbrev pub with_actual : List ℕ → ℕ → Actuals → Read Actuals → Read CluType
  with_actual name n made read =
      ((read >>= λ a. Ok (actuals_joined made a.0, a.1)) >>= λ x. go_on (behind 44 x.1) x (λ rest. actuals_row n x.0 rest)) >>= actuals_closed name

  word_actual_stepped : (name : List ℕ) (n : ℕ) (made : Actuals) (o : Option Const) (bytes : List ℕ) → with_actual name n made (word_actual_by part o bytes) ≡ on_from (word_actual_begun name n made o bytes)
  unfolding word_actual_by word_actual_begun
  word_actual_stepped name n made None bytes = four (part bytes) _ _ _ _
  word_actual_stepped name n made (Some c) bytes = actuals_ended name n (actuals_joined made (actual_const c no_actuals)) (behind 44 (behind_word bytes)) (behind_word bytes)

  actual_stepped : (name : List ℕ) (n : ℕ) (made : Actuals) (of : Lead) (bytes : List ℕ) → with_actual name n made (actual_by scope part of bytes) ≡ on_from (actual_begun scope name n made of bytes)
  unfolding actual_by actual_begun
  actual_stepped name n made of bytes =
      let marked = marked_actual_read scope of bytes in
      if_three (is_marked of) _ _ _ _ _
      ∙ (if_same (is_marked of) _ _ _ _
      (three marked _ _ _ ∙ (bind_same marked _ _ (λ a. actuals_ended name n (actuals_joined made a.0) (behind 44 a.1) a.1) ∙ sym (bind_twice marked _ _)))
      (word_actual_stepped name n made (word_constant (first_word bytes)) bytes)
      ∙ sym (if_bind (is_marked of) _ _ _))

  actual_item : (name : List ℕ) (n : ℕ) (made : Actuals) (bytes : List ℕ) → (actuals_row (suc n) made bytes >>= actuals_closed name) ≡ on_from (actual_begun scope name n made (lead_of bytes) bytes)
  unfolding several
  actual_item name n made bytes = actual_stepped name n made (lead_of bytes) bytes

  back : (n : ℕ) → suc n - 1 ≡ n
  back n = omega arith

  not_none : (n : ℕ) → (suc n == 0) ≡ false
  not_none n = ne_eqb (suc n) 0 (λ e. omega (arith, e))

  pub item_stepped : (w : Waiting) (bytes : List ℕ) → item_on w bytes ≡ on_from (item_begun scope w bytes)
  unfolding item_begun several
  item_stepped (element word) bytes = refl
  item_stepped (field word zero made name) bytes = refl
  item_stepped (field word (suc n) made name) bytes = rw (not_none n, back n) (field_item word n made name bytes)
  item_stepped (argument iter zero made) bytes = refl
  item_stepped (argument iter (suc n) made) bytes = rw (not_none n, back n) (argument_item iter n made bytes)
  item_stepped (outcome iter args zero made) bytes = refl
  item_stepped (outcome iter args (suc n) made) bytes = rw (not_none n, back n) (result_item iter args n made bytes)
  item_stepped (object s zero made) bytes = refl
  item_stepped (object s (suc n) made) bytes = rw (not_none n, back n) (object_item s n made bytes)
  item_stepped (given name zero made) bytes = refl
  item_stepped (given name (suc n) made) bytes = rw (not_none n, back n) (actual_item name n made bytes)

  -- a row whose next signal has these objects
  abbrev named : List ℕ → CluTypes × List ℕ → Read (List ℕ × CluTypes)
  named name ts = Ok ((name, ts.0), ts.1)

  abbrev added : Signals → (List ℕ × CluTypes) × List ℕ → Read (Signals × List ℕ)
  added made x = Ok ((signals_joined made (signal_and x.0.0 x.0.1 no_signals), x.0.0), x.1)

  abbrev further : ℕ → (Signals × List ℕ) × List ℕ → Read (Signals × List ℕ)
  further left x = go_on (next_after x.0.1 x.1) x (λ rest. signals_row left x.0 rest)

  objects_stepped : (s : SignalsMade) (o : Option (List ℕ)) (bytes : List ℕ)
      → ((((objects_by part o bytes >>= named s.name) >>= added s.made) >>= further s.left) >>= signals_closed s)
      ≡ on_from (objects_begun s o bytes)
  unfolding objects_by objects_begun closed_types_read types_read
  objects_stepped s None bytes = signal_stepped s no_types bytes
  objects_stepped s (Some rest) bytes =
      let row = types_row (length rest) no_types rest in
      four (row >>= closed (41 ∷ [])) (named s.name) (added s.made) (further s.left) (signals_closed s) ∙ closed_bind row (41 ∷ []) (λ ts. signal_on s ts.0 ts.1)

  signal_item : (s : SignalsMade) (n : ℕ) (bytes : List ℕ) → s.left ≡ suc n → (signals_row s.left (s.made, s.name) bytes >>= signals_closed s) ≡ on_from (signal_begun s bytes)
  unfolding several signal_read signal_begun
  signal_item s n bytes e =
      let front = signal_name_after s.name bytes in
      let last : s.left - 1 ≡ n = omega (arith, e) in
      let some : (s.left == 0) ≡ false = rw e (not_none n) in
      rw (some, last, e)
      (four front _ _ _ _ ∙ (bind_same front _ _ (λ name. objects_stepped (record { iter = s.iter; args = s.args; results = s.results; left = n; made = s.made; name = name.0 }) (behind 40 name.1) name.1) ∙ sym (bind_twice front _ _)))

  signal_none : (s : SignalsMade) (bytes : List ℕ) → s.left ≡ 0 → (signals_row s.left (s.made, s.name) bytes >>= signals_closed s) ≡ on_from (signal_begun s bytes)
  unfolding several signal_begun
  signal_none s bytes e = rw e refl

  by_left : (s : SignalsMade) (bytes : List ℕ) (n : ℕ) → s.left ≡ n → (signals_row s.left (s.made, s.name) bytes >>= signals_closed s) ≡ on_from (signal_begun s bytes)
  by_left s bytes zero e = signal_none s bytes e
  by_left s bytes (suc n) e = signal_item s n bytes e

  pub signals_row_stepped : (s : SignalsMade) (bytes : List ℕ) → on (signal s) bytes ≡ on_from (signal_begun s bytes)
  signals_row_stepped s bytes = by_left s bytes s.left refl
