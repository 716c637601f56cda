-- The operations of a struct, record, oneof or variant that have a heading are those that are primitive and those that
-- schemes define, whatever the selectors or tags; and no operation is both.
use Rattle.std.proofs.Common.{◌≡◌, refl, sym, ap, ◌∙◌}
use Rattle.std.specs.Prelude.{ℕ, Bool, true, false, ◌||◌, List, [], ◌∷◌, ◌++◌, Option, Some, None, cond, is_some, bytes_eq, codes}
use Rattle.clu_types.specs.CluType.{CluType, record_of, struct_of, oneof_of, variant_of, Fields, no_fields, field_and}
use Rattle.clu_builtin.specs.Operation.{Operation}
use Rattle.clu_builtin.specs.Table.{Table, SelectorTable, operation, or_else, named as headed, with_selector, of_selectors, struct_selectors, record_selectors, oneof_selectors, variant_selectors, struct_operations, record_operations, parts_of}
use Rattle.clu_layout.specs.Actions.{Primitive}
use Rattle.clu_layout.specs.PlainOperations.{Primitives}
use Rattle.clu_layout.specs.RecordOperations.{struct_selected, record_selected, record_primitives}
use Rattle.clu_layout.specs.OneofOperations.{oneof_selected, variant_selected, variant_primitives}
use Rattle.clu_layout.specs.Primitive.{of_each, named, primitive}

abbrev pub Names : Type 0
Names = List (List ℕ)

abbrev pub is_one_of : Names → List ℕ → Bool
is_one_of [] op = false
is_one_of (name ∷ names) op = bytes_eq name op || is_one_of names op

-- what schemes define
abbrev pub derived_of_structs : Names
derived_of_structs = codes "equal" ∷ codes "similar" ∷ codes "copy" ∷ []

abbrev pub derived_of_records : Names
derived_of_records = codes "similar" ∷ codes "similar1" ∷ codes "copy" ∷ []

-- ---- a name is found in a table if it is one of the table's names

abbrev heading_names : Table → Names
heading_names [] = []
heading_names ((name, heading) ∷ rest) = name ∷ heading_names rest

abbrev primitive_names : Primitives → Names
primitive_names [] = []
primitive_names ((name, p) ∷ rest) = name ∷ primitive_names rest

found_here : {A : Type 0} (here : Bool) (x : A) (others : Option A) (b : Bool) → is_some others ≡ b → is_some (cond here (Some x) others) ≡ (here || b)
found_here true x others b e = refl
found_here false x others b e = e

headed_if : (table : Table) (op : List ℕ) → is_some (headed table op) ≡ is_one_of (heading_names table) op
headed_if [] op = refl
headed_if ((name, heading) ∷ rest) op = found_here (bytes_eq name op) heading (headed rest op) (is_one_of (heading_names rest) op) (headed_if rest op)

named_if : (ps : Primitives) (op : List ℕ) → is_some (named ps op) ≡ is_one_of (primitive_names ps) op
named_if [] op = refl
named_if ((name, p) ∷ rest) op = found_here (bytes_eq name op) p (named rest op) (is_one_of (primitive_names rest) op) (named_if rest op)

joined_here : (here : Bool) (p : Primitive) (joined first : Option Primitive) (b : Bool) → is_some joined ≡ (is_some first || b) →
    is_some (cond here (Some p) joined) ≡ (is_some (cond here (Some p) first) || b)
joined_here true p joined first b e = refl
joined_here false p joined first b e = e

named_joined : (ps qs : Primitives) (op : List ℕ) → is_some (named (ps ++ qs) op) ≡ (is_some (named ps op) || is_some (named qs op))
named_joined [] qs op = refl
named_joined ((name, p) ∷ ps) qs op = joined_here (bytes_eq name op) p (named (ps ++ qs) op) (named ps op) (is_some (named qs op)) (named_joined ps qs op)

-- ---- selector by selector

one_more : (a b rest : Option Operation) (here there joined derived : Bool) → is_some a ≡ here → is_some (or_else b rest) ≡ (there || derived) → joined ≡ (here || there) →
    is_some (or_else (or_else a b) rest) ≡ (joined || derived)
one_more None b rest here there joined derived f g e = g ∙ ap (λ x. x || derived) (sym (e ∙ ap (λ x. x || there) (sym f)))
one_more (Some heading) b rest here there joined derived f g e = sym (ap (λ x. x || derived) (e ∙ ap (λ x. x || there) (sym f)))

of_fields : (table : SelectorTable) (selected : List ℕ → Primitives) (op : List ℕ) →
    ((s : List ℕ) (t : CluType) → is_some (headed (with_selector s (table t)) op) ≡ is_some (named (selected s) op)) →
    (fs : Fields) (rest : Option Operation) (own : Primitives) (derived : Bool) → is_some rest ≡ (is_some (named own op) || derived) →
    is_some (or_else (of_selectors table fs op) rest) ≡ (is_some (named (of_each selected fs own) op) || derived)
of_fields table selected op same no_fields rest own derived e = e
of_fields table selected op same (field_and s t fs) rest own derived e =
    one_more (headed (with_selector s (table t)) op) (of_selectors table fs op) rest
    (is_some (named (selected s) op)) (is_some (named (of_each selected fs own) op)) (is_some (named (selected s ++ of_each selected fs own) op)) derived
    (same s t) (of_fields table selected op same fs rest own derived e) (named_joined (selected s) (of_each selected fs own) op)

-- ---- structs and oneofs

pub struct_names : (fs : Fields) (op : List ℕ) → is_some (operation (struct_of fs) op) ≡ (is_some (primitive (struct_of fs) op) || is_one_of derived_of_structs op)
struct_names fs op = of_fields (struct_selectors (struct_of fs)) struct_selected op
    (λ s t. headed_if (with_selector s (struct_selectors (struct_of fs) t)) op ∙ sym (named_if (struct_selected s) op))
    fs (headed (struct_operations (struct_of fs) (parts_of fs)) op) [] (is_one_of derived_of_structs op) (headed_if (struct_operations (struct_of fs) (parts_of fs)) op)

pub oneof_names : (fs : Fields) (op : List ℕ) → is_some (operation (oneof_of fs) op) ≡ (is_some (primitive (oneof_of fs) op) || is_one_of derived_of_structs op)
oneof_names fs op = of_fields (oneof_selectors (oneof_of fs)) (oneof_selected fs) op
    (λ s t. headed_if (with_selector s (oneof_selectors (oneof_of fs) t)) op ∙ sym (named_if (oneof_selected fs s) op))
    fs (headed (struct_operations (oneof_of fs) (parts_of fs)) op) [] (is_one_of derived_of_structs op) (headed_if (struct_operations (oneof_of fs) (parts_of fs)) op)

-- ---- records and variants, whose table has primitive operations too

reordered : (equal similar similar1 copy copy1 : Bool) →
    (equal || (similar || (similar1 || (copy || (copy1 || false))))) ≡ ((equal || (copy1 || false)) || (similar || (similar1 || (copy || false))))
reordered true similar similar1 copy copy1 = refl
reordered false true similar1 copy true = refl
reordered false true similar1 copy false = refl
reordered false false true copy true = refl
reordered false false true copy false = refl
reordered false false false true true = refl
reordered false false false true false = refl
reordered false false false false true = refl
reordered false false false false false = refl

-- equal and copy1 stand in both tables
own_names : (T : CluType) (fs : Fields) (own : Primitives) (op : List ℕ) → is_some (named own op) ≡ is_one_of (codes "equal" ∷ codes "copy1" ∷ []) op →
    is_some (headed (record_operations T (parts_of fs)) op) ≡ (is_some (named own op) || is_one_of derived_of_records op)
own_names T fs own op e = headed_if (record_operations T (parts_of fs)) op
    ∙ (reordered (bytes_eq (codes "equal") op) (bytes_eq (codes "similar") op) (bytes_eq (codes "similar1") op) (bytes_eq (codes "copy") op) (bytes_eq (codes "copy1") op)
    ∙ ap (λ x. x || is_one_of derived_of_records op) (sym e))

pub record_names : (fs : Fields) (op : List ℕ) → is_some (operation (record_of fs) op) ≡ (is_some (primitive (record_of fs) op) || is_one_of derived_of_records op)
record_names fs op = of_fields (record_selectors (record_of fs)) record_selected op
    (λ s t. headed_if (with_selector s (record_selectors (record_of fs) t)) op ∙ sym (named_if (record_selected s) op))
    fs (headed (record_operations (record_of fs) (parts_of fs)) op) record_primitives (is_one_of derived_of_records op)
    (own_names (record_of fs) fs record_primitives op (named_if record_primitives op))

pub variant_names : (fs : Fields) (op : List ℕ) → is_some (operation (variant_of fs) op) ≡ (is_some (primitive (variant_of fs) op) || is_one_of derived_of_records op)
variant_names fs op = of_fields (variant_selectors (variant_of fs)) (variant_selected fs) op
    (λ s t. headed_if (with_selector s (variant_selectors (variant_of fs) t)) op ∙ sym (named_if (variant_selected fs s) op))
    fs (headed (record_operations (variant_of fs) (parts_of fs)) op) variant_primitives (is_one_of derived_of_records op)
    (own_names (variant_of fs) fs variant_primitives op (named_if variant_primitives op))

-- ---- what schemes define is no primitive operation

abbrev pub NoneOf : Names → Primitives → Type 0
NoneOf [] ps = Unit {0}
NoneOf (name ∷ names) ps = (named ps name ≡ None) × NoneOf names ps

pub struct_derived : (fs : Fields) → NoneOf derived_of_structs (of_each struct_selected fs [])
struct_derived no_fields = (refl, (refl, (refl, tt)))
struct_derived (field_and s t fs) = struct_derived fs

-- with the tags of the whole type
pub oneof_derived : (tags fs : Fields) → NoneOf derived_of_structs (of_each (oneof_selected tags) fs [])
oneof_derived tags no_fields = (refl, (refl, (refl, tt)))
oneof_derived tags (field_and s t fs) = oneof_derived tags fs

pub record_derived : (fs : Fields) → NoneOf derived_of_records (of_each record_selected fs record_primitives)
record_derived no_fields = (refl, (refl, (refl, tt)))
record_derived (field_and s t fs) = record_derived fs

pub variant_derived : (tags fs : Fields) → NoneOf derived_of_records (of_each (variant_selected tags) fs variant_primitives)
variant_derived tags no_fields = (refl, (refl, (refl, tt)))
variant_derived tags (field_and s t fs) = variant_derived tags fs
