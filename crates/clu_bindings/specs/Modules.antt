-- The modules that a file may name, by name: its own before those of the library.
use Rattle.std.specs.Prelude.{◌≡◌, ◌-◌, ◌^◌, ℕ, suc, min, Bool, true, false, not, if◌then◌else◌, List, [], ◌∷◌, ◌++◌, bytes_eq, map, option_map, take, Option, Some, None}
use Rattle.std.specs.HashMap.{get}
use Rattle.clu_tree.specs.declared.node.Node.{Node}
use Rattle.clu_tree.specs.Nodes.{modules}
use Rattle.clu_types.specs.declared.spec.Form.{Form}
use Rattle.clu_types.specs.declared.spec.Form.TheVariants as form
use Rattle.clu_types.specs.declared.spec.Spec.{Spec}
use Rattle.clu_types.specs.declared.term.Term.{Term}
use Rattle.clu_syntax.specs.Syntax.{Identifier}
use Rattle.clu_names.specs.Scopes.{is_stream}
use Rattle.clu_settle.specs.declared.value.Value.{Value}
use Rattle.clu_head.specs.ParameterKinds.{kinds_of}
use Rattle.clu_bindings.specs.declared.bindings.Modules.{Modules}
use Rattle.clu_bindings.specs.declared.bindings.ModuleKnown.{ModuleKnown}
use Rattle.clu_bindings.specs.declared.meaning.ModuleId.{ModuleId}
use Rattle.clu_bindings.specs.Headlines.{Headline, headline_at}

-- the module of this name
abbrev pub named : Modules → Identifier → Option ModuleId
named modules name = get bytes_eq modules.by_name name

-- that at a place, as far as 32 bits count
abbrev pub module_id : ℕ → ModuleId
module_id place = record { 0 = min place (2 ^ 32 - 1) }

-- ---- a list of modules with their names

abbrev pub place_from : ℕ → List (Identifier × ModuleKnown) → Identifier → Option ℕ
place_from k [] name = None
place_from k (m ∷ ms) name = if bytes_eq m.0 name then Some k else place_from (suc k) ms name

-- the first of this name; none is `stream`
abbrev pub module_named : List (Identifier × ModuleKnown) → Identifier → Option ModuleId
module_named all name = if is_stream name then None else option_map module_id (place_from 0 all name)

-- these modules are known, in this order
pub record AreModules (modules : Modules) (all : List (Identifier × ModuleKnown)) : Type 0 where
  pub known : modules.known.items ≡ map (λ m. m.1) all
  pub named : (name : Identifier) → named modules name ≡ module_named all name

-- a module of this name is found by it, where this is found so far
abbrev pub is_new : Identifier → Option ModuleId → Bool
is_new name (Some first) = false
is_new name None = not (is_stream name)

-- what is found by each name once this is found by one
abbrev pub with_name : Identifier → ModuleId → (Identifier → Option ModuleId) → Identifier → Option ModuleId
with_name name id found q = if bytes_eq name q then Some id else found q

-- what is found by each name once one more module of this name has come
abbrev pub with_module : Identifier → ModuleId → (Identifier → Option ModuleId) → Identifier → Option ModuleId
with_module name id found q = if is_new name (found name) then with_name name id found q else found q

-- ---- those of a library

abbrev pub is_routine_form : Form → Bool
is_routine_form (form.Routine op) = true
is_routine_form (form.Cluster demands ops) = false

abbrev pub kept_known : Spec → ModuleKnown
kept_known s = record { kinds = map (λ k. Some k) s.kinds; is_routine = is_routine_form s.form }

abbrev pub kept_in : List Spec → List (Identifier × ModuleKnown)
kept_in library = map (λ s. (s.name, kept_known s)) library

-- ---- those of a file

module _ (types : List Term) (values : List Value) (nodes : List Node) where
  abbrev pub own_known : Headline → ModuleKnown
  own_known h = record { kinds = kinds_of types values nodes h.parameters; is_routine = h.is_routine }

  abbrev pub own_headed : Option Headline → List (Identifier × ModuleKnown)
  own_headed (Some h) = (h.name, own_known h) ∷ []
  own_headed None = []

  -- of these Module nodes
  unfoldable pub own_in : List ℕ → List (Identifier × ModuleKnown)
  own_in [] = []
  own_in (n ∷ ns) = own_headed (headline_at nodes n) ++ own_in ns

  -- all that it may name, as far as 32 bits count those of the library
  abbrev pub modules_in : List Spec → List (Identifier × ModuleKnown)
  modules_in library = own_in (modules nodes) ++ kept_in (take 4294967295 library)
