-- What entering the specifications and the bodies of a file does to a library.
use Rattle.std.specs.Prelude.{◌≡◌, ◌≢◌, ◌⊎◌, ◌-◌, ℕ, Bool, List, [], ◌∷◌, Contains, length, map, take, drop, slice_get, option_map, option_and_then, Option, Some, None, IsSome}
use Rattle.clu_base.specs.declared.tokens.Token.{Token}
use Rattle.clu_core.specs.declared.checked.Checked.{Checked}
use Rattle.clu_library.specs.Contents.{Contents, HaveSameText, KeepsFirst, body_of, spec_of, with_body, with_entered}
use Rattle.clu_library.specs.Replacing.{AreLeft, Replaces}
use Rattle.clu_library.specs.Staleness.{IsStale}
use Rattle.clu_library.specs.declared.body.Body.{Body}
use Rattle.clu_library.specs.declared.program.Program.{Program}
use Rattle.clu_tree.specs.Nodes.{modules}
use Rattle.clu_tree.specs.declared.node.Node.{Node}
use Rattle.clu_types.specs.declared.spec.Spec.{Spec}

-- Specifications.

-- no two of them are of one module
abbrev pub AreApart : List Spec → Type 0
AreApart specs = (i j : ℕ) (s t : Spec) → slice_get specs i ≡ Some s → slice_get specs j ≡ Some t → s.name ≡ t.name → i ≡ j

-- what is kept of its module has the same text
abbrev pub IsSameOf : Contents → Spec → Type 0
IsSameOf library s = (kept : Spec) → spec_of library s.name ≡ Some kept → HaveSameText kept s

-- what is kept of their modules has the same texts
abbrev pub AreSame : Contents → List Spec → Type 0
AreSame library specs = (s : Spec) → Contains specs s → IsSameOf library s

-- the library after one specification was entered
abbrev pub IsOneEntered : Contents → Contents → Spec → Type 0
IsOneEntered before after s = (after ≡ with_entered before s) × KeepsFirst before after s

abbrev pub IsOneEnteredIf : Contents → Contents → Option Spec → Type 0
IsOneEnteredIf before after None = ⊥
IsOneEnteredIf before after (Some s) = IsOneEntered before after s

-- what was kept stays, each specification of a module of which none was is kept, and nothing else changes
pub record AreAdded (before after : Contents) (specs : List Spec) : Type 0 where
  pub kept : (name : List ℕ) (s : Spec) → spec_of before name ≡ Some s → spec_of after name ≡ Some s
  pub new : (s : Spec) → Contains specs s → spec_of before s.name ≡ None → spec_of after s.name ≡ Some s
  pub none : (name : List ℕ) → spec_of before name ≡ None → ((s : Spec) → Contains specs s → s.name ≢ name) → spec_of after name ≡ None
  pub rest : after ≡ record before { specs = after.specs }

-- the library after the specifications of a file were entered
pub record AreEntered (before after : Contents) (specs : List Spec) : Type 0 where
  pub apart : AreApart specs
  pub same : AreSame before specs
  pub added : AreAdded before after specs

-- the library after they took the place of the kept ones, one after the other
abbrev pub AreReplaced : Contents → List Spec → Contents → Type 0
AreReplaced before [] after = after ≡ before
AreReplaced before (s ∷ specs) after = (between : Contents) × (changed : Bool) × Replaces before s (spec_of before s.name) between changed × AreReplaced between specs after

abbrev pub names_of : List Spec → List (List ℕ)
names_of specs = map (λ s. s.name) specs

-- Bodies.

-- the specifications of a checked file's own modules
abbrev pub own_of : Checked → List Spec
own_of c = take (length (modules c.syntax)) c.specs.items

-- the bytes from one token to the end of another
abbrev pub between : List ℕ → Token → Token → List ℕ
between bytes first last = take (last.end - first.start) (drop first.start bytes)

-- the text of a node: the bytes from its first token to its last
abbrev pub node_text : List ℕ → List Token → List Node → ℕ → Option (List ℕ)
node_text bytes tokens nodes n = option_and_then (λ node. option_and_then (λ first. option_map (λ last. between bytes first last) (slice_get tokens node.last)) (slice_get tokens node.first)) (slice_get nodes n)

-- the text of the n-th module
abbrev pub text_at : List ℕ → List Token → List Node → ℕ → Option (List ℕ)
text_at bytes tokens nodes n = option_and_then (node_text bytes tokens nodes) (slice_get (modules nodes) n)

-- the kept body of a module has this text, and the module is none of those that are stale
abbrev pub IsKeptText : Contents → List ℕ → List ℕ → List (List ℕ) → Type 0
IsKeptText library name text stale = (kept : Body) × (body_of library name ≡ Some kept) × (kept.text ≡ text) × (Contains stale name → ⊥)

-- the library after a module's text was entered: nothing changed, or another body was entered
abbrev pub IsTextEntered : Contents → Contents → List ℕ → List (List ℕ) → List ℕ → Type 0
IsTextEntered before after name stale text =
    (IsKeptText before name text stale × (after ≡ before))
    ⊎ ((IsKeptText before name text stale → ⊥) × ((b : Body) × (b.text ≡ text) × (after ≡ with_body before name b)))

abbrev pub IsTextEnteredIf : Contents → Contents → List ℕ → List (List ℕ) → Option (List ℕ) → Type 0
IsTextEnteredIf before after name stale None = ⊥
IsTextEnteredIf before after name stale (Some text) = IsTextEntered before after name stale text

-- the kept body of a module has this text and isn't stale
abbrev pub IsSameBody : Contents → List ℕ → List ℕ → Type 0
IsSameBody library name text = (kept : Body) × (body_of library name ≡ Some kept) × (kept.text ≡ text) × (IsStale library name → ⊥)

-- the body of a module after its text was entered: the kept one if it has the text and isn't stale, or else one that was checked at the
-- present revision
abbrev pub IsBodyOf : Contents → List ℕ → List ℕ → Body → Type 0
IsBodyOf library name text b =
    (b.text ≡ text)
    × ((IsSameBody library name text × (body_of library name ≡ Some b)) ⊎ ((IsSameBody library name text → ⊥) × (b.checked ≡ library.revision)))

-- the file has a module of this name and text
abbrev pub HasModule : List Spec → (ℕ → Option (List ℕ)) → List ℕ → List ℕ → Type 0
HasModule own texts name text = (n : ℕ) × (s : Spec) × (slice_get own n ≡ Some s) × (s.name ≡ name) × (texts n ≡ Some text)

-- a program has a module of the file of which another body was entered
abbrev pub IsOutdated : Contents → List Spec → (ℕ → Option (List ℕ)) → Program → Type 0
IsOutdated library own texts p = (name : List ℕ) × (text : List ℕ) × Contains p.modules name × HasModule own texts name text × (IsSameBody library name text → ⊥)

-- the library after the bodies of a file's modules were entered: each has its text, the programs that have one of another text than
-- before, or one that was stale, are gone, and nothing else changes
pub record AreCompiled (before after : Contents) (own : List Spec) (texts : ℕ → Option (List ℕ)) : Type 0 where
  pub bodies : (name text : List ℕ) → HasModule own texts name text → (b : Body) × (body_of after name ≡ Some b) × IsBodyOf before name text b
  pub others : (name : List ℕ) → ((text : List ℕ) → HasModule own texts name text → ⊥) → body_of after name ≡ body_of before name
  pub programs : AreLeft (IsOutdated before own texts) before.programs after.programs
  pub all : (n : ℕ) (s : Spec) → slice_get own n ≡ Some s → IsSome (texts n)
  pub rest : after ≡ record before { bodies = after.bodies; programs = after.programs }

-- the library after a checked file was entered: its specifications, and then its bodies
abbrev pub IsFileEntered : Contents → Contents → List Spec → (ℕ → Option (List ℕ)) → Type 0
IsFileEntered before after own texts = (between : Contents) × AreEntered before between own × AreCompiled between after own texts
