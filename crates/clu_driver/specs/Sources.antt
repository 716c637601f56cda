-- Which sources are accepted, and why one is not or is not compiled.
use Rattle.std.specs.Prelude.{◌≡◌, ◌<◌, ◌≤◌, ◌⊎◌, ℕ, List, [], All, Option, Some, None, codes, find, length}
use Rattle.std.specs.Str.{bytes_eq}
use Rattle.clu_base.specs.Outside.{Files}
use Rattle.clu_base.specs.declared.rules.Refused.{Refused}
use Rattle.clu_base.specs.declared.rules.Rule.TheVariants as rule
use Rattle.clu_base.specs.declared.tokens.Token.{Token}
use Rattle.clu_reach.specs.Starts.{IsBadStart}
use Rattle.clu_check_mod.specs.Modules.{AreOf, IsClosedAt}
use Rattle.clu_check_mod.specs.Refusals.{IsOfTree}
use Rattle.clu_check_mod.specs.declared.errors.CheckError.{CheckError}
use Rattle.clu_check_mod.specs.declared.errors.CheckError.TheVariants as check
use Rattle.clu_check_mod.specs.declared.walk.Extent.{Extent}
use Rattle.clu_check_mod.specs.declared.walk.Extent.TheVariants as extent
use Rattle.clu_checked.specs.Sources.{IsSource}
use Rattle.clu_checked.specs.Violations.{HasSpecifications, IsFirstViolation}
use Rattle.clu_lexer.specs.Tokens.{Tokens}
use Rattle.clu_lexer.specs.Tokens as lexer
use Rattle.clu_lexer.specs.declared.tokens.LexError.TheVariants as lex
use Rattle.clu_parser.specs.Parsing as parser
use Rattle.clu_parser.specs.declared.errors.ParseError.TheVariants as parse
use Rattle.clu_tree.specs.Nodes.{modules}
use Rattle.clu_tree.specs.declared.node.Node.{Node}
use Rattle.clu_types.specs.declared.spec.Spec.{Spec}
use Rattle.clu_driver.specs.Found.{IsFound, NotRead}
use Rattle.clu_outcome.specs.declared.outcome.Outcome.{Outcome}
use Rattle.clu_outcome.specs.declared.outcome.Outcome.TheVariants as outcome

-- the bytes are a source, and these nodes its tree
abbrev pub IsParsed : List ℕ → List Node → Type 0
IsParsed bytes nodes = (tokens : List Token) × IsSource bytes tokens nodes

-- under these specifications no rule is violated
abbrev pub IsChecked : List Spec → List Node → Type 0
IsChecked library nodes = All (IsClosedAt nodes) (modules nodes) × IsFirstViolation nodes library extent.Whole None

-- of its headings none is
abbrev pub IsHeaded : List Spec → List Node → Type 0
IsHeaded library nodes = IsFirstViolation nodes library extent.Headings None

-- these are the specifications of its modules under those of a library, in the order of the text
pub record AreSpecificationsOf (library : List Spec) (nodes : List Node) (own : List Spec) : Type 0 where
  pub named : AreOf nodes (modules nodes) own
  pub are : HasSpecifications nodes library own

-- the bytes are a file of the grammar in which no rule is violated under no other specifications than its own
abbrev pub IsAccepted : List ℕ → Type 0
IsAccepted bytes = (nodes : List Node) × IsParsed bytes nodes × IsChecked [] nodes

-- the bytes are no more than a source may have, and the rule at this place is the first that they break: no token begins
-- there, the tokens begin no file of the grammar with the one there, or the source is too deep there
abbrev pub IsRefusedBy : List ℕ → Refused → Type 0
IsRefusedBy bytes r =
    (length bytes ≤ 1048576)
    × (((r.rule ≡ rule.Token) × lexer.IsFault bytes (lex.Token r.place))
    ⊎ ((tokens : List Token) × Tokens bytes tokens
    × (((r.rule ≡ rule.Syntax) × parser.IsFault bytes tokens (parse.Syntax r.place))
    ⊎ ((r.rule ≡ rule.TooDeep) × parser.IsFault bytes tokens (parse.TooDeep r.place)))))

-- why the content of a source is not got: it is more than a source may have, or the file was not read
abbrev pub NotGot : Outcome → List ℕ → Option Files → ℕ → ℕ → Type 0
NotGot (outcome.SourceTooLarge n) name files faults faults' = (n.now ≡ name) × IsFound files name (λ bytes. 1048576 < length bytes)
NotGot how name files faults faults' = NotRead how name files faults faults'

-- why bytes are no source that is parsed
abbrev pub NotSource : Outcome → List ℕ → List ℕ → Type 0
NotSource (outcome.Refused n r) name bytes = (n.now ≡ name) × IsRefusedBy bytes r
NotSource outcome.Memory name bytes = Unit {0}
NotSource _ name bytes = ⊥

-- the same of a file, or why its content is not got
abbrev pub NotParsed : Outcome → List ℕ → Option Files → ℕ → ℕ → Type 0
NotParsed (outcome.Refused n r) name files faults faults' = (n.now ≡ name) × IsFound files name (λ bytes. IsRefusedBy bytes r)
NotParsed how name files faults faults' = NotGot how name files faults faults'

-- what a refusal by the check comes to
abbrev pub IsRefusalOf : CheckError → Outcome → List ℕ → Type 0
IsRefusalOf (check.Refused r) (outcome.Refused n told) name = (n.now ≡ name) × (told ≡ r)
IsRefusalOf (check.Refused r) _ name = ⊥
IsRefusalOf check.Memory how name = how ≡ outcome.Memory
IsRefusalOf check.NotYet how name = how ≡ outcome.NotYet

-- why a tree, or its headings, are not accepted under these specifications: this is the first rule that is violated, with its place, or
-- memory was refused
abbrev pub NotAccepted : Extent → Outcome → List ℕ → List Spec → List Node → Type 0
NotAccepted asked (outcome.Refused n r) name library nodes = (n.now ≡ name) × IsOfTree nodes (check.Refused r) × IsFirstViolation nodes library asked (Some r)
NotAccepted asked outcome.Memory name library nodes = Unit {0}
NotAccepted asked _ name library nodes = ⊥

-- of these specifications, the first of the module with which a program starts
abbrev pub start_in : List Spec → Option Spec
start_in specs = find (λ s. bytes_eq s.name (codes "start_up")) specs

-- why modules with these specifications are not built: none of them is the start or that is one with which no program may
-- start, the program or the library is too large, or memory was refused. No definition says yet when NotYet comes
abbrev pub NotBuilt : Outcome → List Spec → Type 0
NotBuilt (outcome.NoModule n) specs = (n.now ≡ codes "start_up") × (start_in specs ≡ None)
NotBuilt (outcome.BadStart n) specs = (n.now ≡ codes "start_up") × IsBadStart (start_in specs)
NotBuilt outcome.TooManyInstances specs = Unit {0}
NotBuilt outcome.ProgramTooLarge specs = Unit {0}
NotBuilt outcome.LibraryFull specs = Unit {0}
NotBuilt outcome.Memory specs = Unit {0}
NotBuilt outcome.NotYet specs = Unit {0}
NotBuilt _ specs = ⊥

-- the tree is accepted, and its modules, with these specifications in the order of the text, are not built
abbrev pub IsUnbuilt : Outcome → List Node → Type 0
IsUnbuilt how nodes = IsChecked [] nodes × ((specs : List Spec) × AreSpecificationsOf [] nodes specs × NotBuilt how specs)

-- why a tree is not compiled
abbrev pub NotMade : Outcome → List ℕ → List Node → Type 0
NotMade how name nodes = NotAccepted extent.Whole how name [] nodes ⊎ IsUnbuilt how nodes

-- why a source file is not compiled: it was not parsed, or it was, and its tree is not compiled
abbrev pub NotCompiled : Outcome → List ℕ → Option Files → ℕ → ℕ → Type 0
NotCompiled how name files faults faults' =
    NotParsed how name files faults faults'
    ⊎ ((nodes : List Node) × IsFound files name (λ bytes. IsParsed bytes nodes) × NotMade how name nodes)
