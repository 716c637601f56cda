-- Why there is no library and no source, and what entering one into the other shows.
use Rattle.std.proofs.Common.{◌≡◌, ◌∙◌, ◌≤◌, ◌⊎◌, ℕ, List, length, take, Option, Result, Ok, Err, IfErr, inl, inr, subst, sym, map}
use Rattle.std.specs.Char.{to_ascii_lowercase}
use Rattle.clu_base.specs.Outside.{Files}
use Rattle.clu_base.specs.declared.tokens.Token.{Token}
use Rattle.clu_build.specs.Entering.{own_of, text_at}
use Rattle.clu_core.specs.declared.checked.Checked.{Checked}
use Rattle.clu_library.specs.Contents.{Contents}
use Rattle.clu_tree.specs.Nodes.{modules}
use Rattle.clu_tree.specs.declared.node.Node.{Node}
use Rattle.clu_types.specs.declared.spec.Spec.{Spec}
use Rattle.clu_checked.specs.Sources.{IsSource}
use Rattle.clu_driver.specs.Found.{IsFound, IsUnder, NotHad}
use Rattle.clu_driver.specs.Held.{HasLibrary, IsLibraryFile, IsUnreadable, NotLibrary}
use Rattle.clu_driver.specs.Libraries.{CompileShows, CompiledShows, EnteredShows, LinkShows, LinkedShows, NotBeside, NotGathered, SpecifiedShows, SpecifyShows, SpecsShow}
use Rattle.clu_driver.specs.Shows.{Reported}
use Rattle.clu_driver.specs.declared.specifying.Kept.{Kept}
use Rattle.clu_driver.specs.Sources.{AreSpecificationsOf, IsChecked, IsHeaded, IsParsed, NotGot, NotSource}
use Rattle.clu_outcome.specs.declared.outcome.Outcome.{Outcome}
use Rattle.clu_outcome.specs.declared.outcome.Outcome.TheVariants as outcome
use Rattle.clu_driver.proofs.Found.{found_with, not_parsed}
use Rattle.clu_driver.proofs.Held.{under_with, unknown, unreadable}

-- a source whose content was not got is not read beside a library, nor one that breaks a rule
pub not_got : (how : Outcome) (library file : List ℕ) (files : Option Files) (faults faults' : ℕ) → NotGot how file files faults faults' → NotBeside how library file files faults faults'
not_got (outcome.Refused n r) library file files faults faults' why = elim why [ ]
not_got _ library file files faults faults' why = why

pub not_source : (how : Outcome) (library file bytes : List ℕ) (files : Option Files) (faults faults' : ℕ)
    → IsUnder files library IsLibraryFile → IsFound files file (λ b. b ≡ bytes) → NotSource how file bytes → NotBeside how library file files faults faults'
not_source (outcome.Refused n r) library file bytes files faults faults' known found why = (known, not_parsed (outcome.Refused n r) file bytes files faults faults' found why)
not_source outcome.Memory library file bytes files faults faults' known found why = tt
not_source _ library file bytes files faults faults' known found why = elim why [ ]

-- a command that shows this shows that
pub shown_as : (P Q : Outcome → Type 0) (status : ℕ) (old new : Option (List ℕ)) (faults faults' : ℕ)
    → ((how : Outcome) → P how → Q how) → Reported P status old new faults faults' → Reported Q status old new faults faults'
shown_as P Q status old new faults faults' gives r = record { how = r.how; shown = gives r.how r.shown; told = r.told }

-- reading library and source left the files as they were
pub specify_shows : (kept : Kept) (how : Outcome) (library file bytes : List ℕ) (tokens : List Token) (nodes : List Node) (known : Contents) (files read files' : Option Files) (faults between faults' : ℕ)
    → HasLibrary files library known → IsFound files file (λ b. b ≡ bytes) → IsSource bytes tokens nodes → read ≡ files → faults ≤ between
    → SpecifiedShows kept how library file nodes known read between files' faults' → SpecifyShows kept how library file files faults files' faults'
unfolding SpecifyShows
specify_shows kept how library file bytes tokens nodes known files read files' faults between faults' held found source same counts shown =
    let P : Option Files → Type 0 = λ f. SpecifiedShows kept how library file nodes known f between files' faults' in
    inr (known, held, (nodes, found_with (λ b. IsParsed b nodes) files file bytes found (tokens, source), (between, counts, subst P same shown)))

pub compile_shows : (how : Outcome) (library file bytes : List ℕ) (tokens : List Token) (nodes : List Node) (known : Contents) (files read files' : Option Files) (faults between faults' : ℕ)
    → HasLibrary files library known → IsFound files file (λ b. b ≡ bytes) → IsSource bytes tokens nodes → read ≡ files → faults ≤ between
    → CompiledShows how library file known bytes tokens nodes read between files' faults' → CompileShows how library file files faults files' faults'
unfolding CompileShows
compile_shows how library file bytes tokens nodes known files read files' faults between faults' held found source same counts shown =
    let P : Option Files → Type 0 = λ f. CompiledShows how library file known bytes tokens nodes f between files' faults' in
    inr (known, held, (bytes, tokens, nodes, found, source, (between, counts, subst P same shown)))

-- the specifications and texts of a tree are those of what was checked
pub compiled_shows : (how : Outcome) (name file : List ℕ) (known : Contents) (bytes : List ℕ) (tokens : List Token) (nodes : List Node) (c : Checked) (files files' : Option Files) (faults faults' : ℕ)
    → c.syntax ≡ nodes → AreSpecificationsOf known.specs nodes (take (length (modules nodes)) c.specs.items) → IsChecked known.specs nodes → EnteredShows how name known (own_of c) (text_at bytes tokens c.syntax) files faults files' faults'
    → CompiledShows how name file known bytes tokens nodes files faults files' faults'
compiled_shows how name file known bytes tokens nodes c files files' faults faults' tree own checked shown =
    let P : List Node → Type 0 = λ ns. EnteredShows how name known (take (length (modules ns)) c.specs.items) (text_at bytes tokens ns) files faults files' faults' in
    inr (checked, (take (length (modules nodes)) c.specs.items, own, subst P tree shown))

-- the same of what was lent of the library, the source and what was checked
pub entered_compiled : (how : Outcome) (name file : List ℕ) (known lib : Contents) (bytes lent : List ℕ) (tokens read : List Token) (nodes tree : List Node) (c checked : Checked) (specs : List Spec) (files files' : Option Files) (faults faults' : ℕ)
    → lib ≡ known → lent ≡ bytes → read ≡ tokens → checked ≡ c → c.syntax ≡ tree → AreSpecificationsOf specs tree (take (length (modules tree)) c.specs.items) → specs ≡ known.specs → tree ≡ nodes → IsChecked specs tree
    → EnteredShows how name lib (own_of checked) (text_at lent read checked.syntax) files faults files' faults' → CompiledShows how name file known bytes tokens nodes files faults files' faults'
entered_compiled how name file known lib bytes lent tokens read nodes tree c checked specs files files' faults faults' lib_is lent_is read_is checked_is syntax_is own specs_are tree_is accepted shown =
    let of_library : EnteredShows how name known (own_of checked) (text_at lent read checked.syntax) files faults files' faults' = subst (λ (l : Contents). EnteredShows how name l (own_of checked) (text_at lent read checked.syntax) files faults files' faults') lib_is shown in
    let of_checked : EnteredShows how name known (own_of c) (text_at lent read c.syntax) files faults files' faults' = subst (λ (x : Checked). EnteredShows how name known (own_of x) (text_at lent read x.syntax) files faults files' faults') checked_is of_library in
    let of_bytes : EnteredShows how name known (own_of c) (text_at bytes read c.syntax) files faults files' faults' = subst (λ (b : List ℕ). EnteredShows how name known (own_of c) (text_at b read c.syntax) files faults files' faults') lent_is of_checked in
    let of_tokens : EnteredShows how name known (own_of c) (text_at bytes tokens c.syntax) files faults files' faults' = subst (λ (t : List Token). EnteredShows how name known (own_of c) (text_at bytes t c.syntax) files faults files' faults') read_is of_bytes in
    compiled_shows how name file known bytes tokens nodes c files files' faults faults' (syntax_is ∙ tree_is)
    (subst (λ (ns : List Node). AreSpecificationsOf known.specs ns (take (length (modules ns)) c.specs.items)) tree_is (subst (λ (ss : List Spec). AreSpecificationsOf ss tree (take (length (modules tree)) c.specs.items)) specs_are own))
    (subst (λ (ns : List Node). IsChecked known.specs ns) tree_is (subst (λ (ss : List Spec). IsChecked ss tree) specs_are accepted)) of_tokens

-- and of specifications alone
pub entered_specified : (kept : Kept) (how : Outcome) (name file : List ℕ) (known lib : Contents) (nodes tree : List Node) (own lent specs : List Spec) (files files' : Option Files) (faults faults' : ℕ)
    → lib ≡ known → lent ≡ own → specs ≡ known.specs → tree ≡ nodes → IsHeaded specs tree → AreSpecificationsOf specs tree own
    → SpecsShow kept how name lib lent files faults files' faults' → SpecifiedShows kept how name file nodes known files faults files' faults'
entered_specified kept how name file known lib nodes tree own lent specs files files' faults faults' lib_is lent_is specs_are tree_is accepted named shown =
    let of_library : SpecsShow kept how name known lent files faults files' faults' = subst (λ (l : Contents). SpecsShow kept how name l lent files faults files' faults') lib_is shown in
    let of_own : SpecsShow kept how name known own files faults files' faults' = subst (λ (ss : List Spec). SpecsShow kept how name known ss files faults files' faults') lent_is of_library in
    inr (subst (λ (ns : List Node). IsHeaded known.specs ns) tree_is (subst (λ (ss : List Spec). IsHeaded ss tree) specs_are accepted), (own, subst (λ (ns : List Node). AreSpecificationsOf known.specs ns own) tree_is (subst (λ (ss : List Spec). AreSpecificationsOf ss tree own) specs_are named), of_own))

pub link_shows : (how : Outcome) (library program start : List ℕ) (known kept : Contents) (files read files' : Option Files) (faults between faults' : ℕ)
    → known ≡ kept → HasLibrary files library kept → read ≡ files → faults ≤ between → LinkedShows how library program (map to_ascii_lowercase start) known read between files' faults' → LinkShows how library program start files faults files' faults'
unfolding LinkShows
link_shows how library program start known kept files read files' faults between faults' is held same counts shown =
    let P : Option Files → Type 0 = λ f. LinkedShows how library program (map to_ascii_lowercase start) known f between files' faults' in
    let Q : Contents → Type 0 = λ l. HasLibrary files library l in
    inr (known, subst Q (sym is) held, (between, counts, subst P same shown))

-- a library or a source that was not got, or is none, is not gathered
pub not_read : (how : Outcome) (library file bytes : List ℕ) (content : Option (List ℕ)) (files : Option Files) (faults between faults' : ℕ)
    → faults ≤ between → IsUnder files library (λ c. c ≡ content) → IsFound files file (λ b. b ≡ bytes)
    → IsUnreadable how content ⊎ (IsLibraryFile content × NotSource how file bytes) → NotGathered how library file files faults faults'
not_read how library file bytes content files faults between faults' counts held found (inl why) = inl (unreadable how library files faults faults' content held why)
not_read how library file bytes content files faults between faults' counts held found (inr why) =
    inr (between, counts, not_source how library file bytes files between faults' (under_with IsLibraryFile files library content held why.0) found why.1)

pub gathered_refused : {X : Type 0} (result : Result X Outcome) (library file bytes : List ℕ) (content : Option (List ℕ)) (files read : Option Files) (faults between faults' : ℕ)
    → read ≡ files → faults ≤ between → IsUnder files library (λ c. c ≡ content) → IsFound read file (λ b. b ≡ bytes)
    → IfErr result (λ how. IsUnreadable how content ⊎ (IsLibraryFile content × NotSource how file bytes)) → IfErr result (λ how. NotGathered how library file files faults faults')
gathered_refused (Ok both) library file bytes content files read faults between faults' same counts held found why = tt
gathered_refused (Err how) library file bytes content files read faults between faults' same counts held found why =
    let P : Option Files → Type 0 = λ f. IsFound f file (λ b. b ≡ bytes) in
    not_read how library file bytes content files faults between faults' counts held (subst P same found) why

pub unread_source : (how : Outcome) (library file : List ℕ) (files read : Option Files) (faults between faults' : ℕ)
    → read ≡ files → faults ≤ between → NotGot how file read between faults' → NotGathered how library file files faults faults'
unread_source how library file files read faults between faults' same counts why =
    let P : Option Files → Type 0 = λ f. NotGot how file f between faults' in
    inr (between, counts, not_got how library file files between faults' (subst P same why))

pub unread_library : (how : Outcome) (library file : List ℕ) (files : Option Files) (faults faults' : ℕ) → NotHad how library faults faults' → NotGathered how library file files faults faults'
unread_library how library file files faults faults' why = inl (unknown how library files faults faults' why)

-- what was refused before anything was entered
pub specify_refused : (kept : Kept) (how : Outcome) (library file : List ℕ) (files files' : Option Files) (faults faults' : ℕ)
    → NotGathered how library file files faults faults' → files' ≡ files → SpecifyShows kept how library file files faults files' faults'
unfolding SpecifyShows
specify_refused kept how library file files files' faults faults' why same = inl (why, same)

pub compile_refused : (how : Outcome) (library file : List ℕ) (files files' : Option Files) (faults faults' : ℕ)
    → NotGathered how library file files faults faults' → files' ≡ files → CompileShows how library file files faults files' faults'
unfolding CompileShows
compile_refused how library file files files' faults faults' why same = inl (why, same)

pub link_refused : (how : Outcome) (library program start : List ℕ) (files files' : Option Files) (faults faults' : ℕ)
    → NotLibrary how library files faults faults' → files' ≡ files → LinkShows how library program start files faults files' faults'
unfolding LinkShows
link_refused how library program start files files' faults faults' why same = inl (why, same)
