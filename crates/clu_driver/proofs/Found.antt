-- What holds of the content that was read holds of the file.
use Rattle.std.proofs.Common.{◌≡◌, ◌≢◌, ◌≤◌, ◌<◌, ◌+◌, ◌∙◌, ap, sym, inr, subst, arith, length, take, List, [], ℕ, IfErr, IfOk, Option, Some, None, Result, Ok, Err}
use Rattle.std.proofs.lemmas.List.{length-take, take_all}
use Rattle.clu_base.specs.Outside.{Files}
use Rattle.clu_image.specs.Faults.{IsRefusal, fault_of}
use Rattle.clu_base.specs.declared.errors.FormatError.TheVariants.{Bad}
use Rattle.clu_base.specs.declared.errors.FormatError.{FormatError}
use Rattle.clu_base.specs.declared.tokens.Token.{Token}
use Rattle.clu_parser.specs.Order.{IsFileOver, IsPostOrder}
use Rattle.clu_parser.specs.Parsing as parser
use Rattle.clu_parser.specs.Shape.{HaveForms, IsShaped}
use Rattle.clu_parser.specs.declared.errors.ParseError.{ParseError}
use Rattle.clu_tree.specs.Nodes.{IsTree, modules}
use Rattle.clu_tree.specs.declared.node.Node.{Node}
use Rattle.clu_types.specs.declared.spec.Spec.{Spec}
use Rattle.clu_words.specs.Command.{Limits}
use Rattle.rv_isa.specs.Image.{Contents, IsImage}
use Rattle.clu_asm.specs.AssemblyText.{asm_text}
use Rattle.clu_asm.specs.Faults.{IsFault, IsFaultAt}
use Rattle.clu_checked.specs.Sources.{IsRead, IsSource}
use Rattle.clu_driver.specs.Commands.{AsmShows, AssembledShows, GoShows, IsBadText, PutShows}
use Rattle.clu_driver.specs.Puts.{NotPut}
use Rattle.clu_driver.specs.Found.{IsFound}
use Rattle.clu_driver.specs.Sources.{AreSpecificationsOf, IsAccepted, IsChecked, IsParsed, IsRefusedBy, NotBuilt, NotCompiled, NotMade, NotParsed, NotSource}
use Rattle.clu_driver.specs.World.{Streams, World, world_of}
use Rattle.clu_outcome.specs.declared.outcome.Outcome.{Outcome}
use Rattle.clu_outcome.specs.declared.outcome.Outcome.TheVariants as outcome
use Rattle.clu_driver.specs.declared.sources.Parsed.{Parsed}

pub fault_found : (files : Option Files) (name bytes : List ℕ) (at : ℕ) → IsFound files name (λ b. b ≡ bytes) → fault_of bytes ≡ Some at → IsFound files name (λ b. fault_of b ≡ Some at)
fault_found None name bytes at found fault = tt
fault_found (Some all) name bytes at found fault = (found.0, found.1, ap fault_of found.2 ∙ fault)

-- a reader's refusal tells the fault
pub refused_at : (fault : Option ℕ) (at : ℕ) (e : FormatError) → e ≡ Bad at → IsRefusal fault e → fault ≡ Some at
refused_at None at e is refused = cc
refused_at (Some place) at e is refused = cc

-- a put that failed, of the bytes that an image has
pub not_put : (result : Result Unit Outcome) (name bytes image : List ℕ) (files files' : Option Files) (faults faults' : ℕ) → bytes ≡ image
    → IfErr result (λ how. NotPut how name bytes files files' faults faults') → IfErr result (λ how. NotPut how name image files files' faults faults')
not_put result name bytes image files files' faults faults' same = subst (λ b. IfErr result (λ how. NotPut how name b files files' faults faults')) same

-- reading the source left the files as they were
pub go_shows : (how : Outcome) (file name : List ℕ) (limits : Limits) (image : Contents) (files files' : Option Files) (faults faults' : ℕ) (streams : Streams) (after : World)
    → IsFound files file IsAccepted → files' ≡ files → faults ≤ faults' → PutShows how name image limits (world_of files' faults' streams) after → GoShows how file name limits (world_of files faults streams) after
go_shows how file name limits image files files' faults faults' streams after accepted same counts put =
    let P : Option Files → Type 0 = λ f. PutShows how name image limits (world_of f faults' streams) after in
    inr (accepted, (image, faults', counts, subst P same put))

-- reading the text left the files as they were
pub asm_shows : (how : Outcome) (file name : List ℕ) (image : Contents) (files files' after : Option Files) (faults faults' last : ℕ)
    → IsFound files file (λ bytes. bytes ≡ asm_text image) → files' ≡ files → faults ≤ faults' → AssembledShows how name image files' after faults' last → AsmShows how file name files faults after last
asm_shows how file name image files files' after faults faults' last found same counts put =
    let P : Option Files → Type 0 = λ f. AssembledShows how name image f after faults' last in
    inr (image, found, (faults', counts, subst P same put))

-- the text of the file is that of the image that was read
pub found_text : (files : Option Files) (name bytes text : List ℕ) → IsFound files name (λ b. b ≡ bytes) → bytes ≡ text → IsFound files name (λ b. b ≡ text)
found_text files name bytes text found same = let P : List ℕ → Type 0 = λ t. IsFound files name (λ b. b ≡ t) in subst P same found

-- what holds of the content that was read holds of the file
pub found_with : (P : List ℕ → Type 0) (files : Option Files) (name bytes : List ℕ) → IsFound files name (λ b. b ≡ bytes) → P bytes → IsFound files name P
found_with P None name bytes found p = tt
found_with P (Some all) name bytes found p = (found.0, found.1, subst P (sym found.2) p)

-- bytes that were refused are no text, nor is the file's content, and the fault is where it was reported
pub bad_text_found : (files : Option Files) (name bytes read : List ℕ) (at : ℕ) (e : FormatError) → IsFound files name (λ b. b ≡ bytes) → read ≡ bytes → e ≡ Bad at → IsFault e read
    → ((image : Contents) → IsImage image → bytes ≢ asm_text image) → IsFound files name (IsBadText at)
bad_text_found files name bytes read at e found same is fault none =
    let P : FormatError → Type 0 = λ f. IsFault f read in
    let Q : List ℕ → Type 0 = λ b. IsFaultAt at b in
    found_with (IsBadText at) files name bytes found (subst Q same (subst P is fault), none)

-- a file that was parsed to this tree, which the check accepted, is accepted
pub found_accepted : (files : Option Files) (name bytes : List ℕ) (tokens : List Token) (nodes : List Node) → IsFound files name (λ b. b ≡ bytes) → IsSource bytes tokens nodes → IsChecked [] nodes → IsFound files name IsAccepted
found_accepted files name bytes tokens nodes found source checked = found_with IsAccepted files name bytes found (nodes, (tokens, source), checked)

-- a file that was parsed to this tree, which is not compiled, is not compiled
pub made_not : (how : Outcome) (name bytes : List ℕ) (tokens : List Token) (nodes : List Node) (files : Option Files) (faults faults' : ℕ) → IsFound files name (λ b. b ≡ bytes) → IsSource bytes tokens nodes
    → NotMade how name nodes → NotCompiled how name files faults faults'
made_not how name bytes tokens nodes files faults faults' found source made = inr (nodes, found_with (λ b. IsParsed b nodes) files name bytes found (tokens, source), made)

-- the first bytes of a file, which are no more than a source may have, are all of it
short_whole : (most : ℕ) (bytes : List ℕ) → length (take (most + 1) bytes) ≤ most → take (most + 1) bytes ≡ bytes
short_whole most bytes short = take_all (most + 1) bytes (short_below most bytes short)
  where
    short_below : (most : ℕ) (bytes : List ℕ) → length (take (most + 1) bytes) ≤ most → length bytes ≤ most + 1
    short_below most bytes short = let cut = length-take (most + 1) bytes in omega (arith, cut, short)

pub found_whole : (files : Option Files) (name first : List ℕ) (most : ℕ) → IsFound files name (λ b. take (most + 1) b ≡ first) → length first ≤ most → IsFound files name (λ b. b ≡ first)
found_whole None name first most found short = tt
found_whole (Some all) name first most found short =
    let P : List ℕ → Type 0 = λ f. length f ≤ most in
    (found.0, found.1, sym (short_whole most found.0 (subst P (sym found.2) short)) ∙ found.2)

-- if they are more, the file has more
pub found_large : (files : Option Files) (name first : List ℕ) (most : ℕ) → IsFound files name (λ b. take (most + 1) b ≡ first) → most < length first → IsFound files name (λ b. most < length b)
found_large None name first most found large = tt
found_large (Some all) name first most found large = (found.0, found.1, longer most found.0 first found.2 large)
  where
    longer : (most : ℕ) (bytes first : List ℕ) → take (most + 1) bytes ≡ first → most < length first → most < length bytes
    longer most bytes first is large = let cut = length-take (most + 1) bytes in let same = ap length is in omega (arith, cut, same, large)

-- so why content is no source that is parsed is why the file is none
pub not_parsed : (how : Outcome) (name bytes : List ℕ) (files : Option Files) (faults faults' : ℕ) → IsFound files name (λ b. b ≡ bytes) → NotSource how name bytes → NotParsed how name files faults faults'
not_parsed (outcome.Refused n r) name bytes files faults faults' found why = (why.0, found_with (λ b. IsRefusedBy b r) files name bytes found why.1)
not_parsed outcome.Memory name bytes files faults faults' found why = tt
not_parsed _ name bytes files faults faults' found why = elim why [ ]

-- and the file of a source that was parsed has its bytes
pub found_source : (result : Result Parsed Outcome) (bytes name : List ℕ) (files : Option Files) → IsFound files name (λ b. b ≡ bytes)
    → IfOk result (λ source. source.bytes.items ≡ bytes) → IfOk result (λ source. IsFound files name (λ b. b ≡ source.bytes.items))
found_source (Err how) bytes name files found same = tt
found_source (Ok source) bytes name files found same = let P : List ℕ → Type 0 = λ f. IsFound files name (λ b. b ≡ f) in subst P (sym same) found

pub refused_source : (result : Result Parsed Outcome) (bytes name : List ℕ) (files : Option Files) (faults faults' : ℕ) → IsFound files name (λ b. b ≡ bytes)
    → IfErr result (λ how. NotSource how name bytes) → IfErr result (λ how. NotParsed how name files faults faults')
refused_source (Ok source) bytes name files faults faults' found why = tt
refused_source (Err how) bytes name files faults faults' found why = not_parsed how name bytes files faults faults' found why

-- the parser's refusal of what was lexed and read is one of the source
pub read_fault : (bytes read : List ℕ) (tokens lexed : List Token) (error known : ParseError) → error ≡ known → read ≡ bytes → lexed ≡ tokens
    → parser.IsFault read lexed error → parser.IsFault bytes tokens known
read_fault bytes read tokens lexed error known is same_bytes same_tokens fault =
    subst (λ t. parser.IsFault bytes t known) same_tokens
    (subst (λ b. parser.IsFault b lexed known) same_bytes (subst (λ e. parser.IsFault read lexed e) is fault))

-- a tree that was read
pub tree_read : (b bytes : List ℕ) (ts tokens : List Token) (tree nodes : List Node) → b ≡ bytes → ts ≡ tokens → nodes ≡ tree → IsTree tree → IsPostOrder tree → IsFileOver (length ts) tree → IsShaped (parser.text_of b ts) tree → HaveForms tree → IsRead bytes tokens nodes
tree_read b bytes ts tokens tree nodes same alike is tree_is order root shape forms =
    let P : List ℕ → List Token → Type 0 = λ b ts. IsShaped (parser.text_of b ts) tree in
    subst (λ (ns : List Node). IsRead bytes tokens ns) (sym is)
    (record {
      parsed = record {
        tree = tree_is;
        order = order;
        file = (root.root, root.is_last, root.kind_is);
        shape = subst (λ (ts : List Token). P bytes ts) alike (subst (λ (b : List ℕ). P b ts) same shape);
        forms = forms;
      };
      root = subst (λ (ts : List Token). IsFileOver (length ts) tree) alike root;
    })

-- an accepted tree that is not built is not compiled
pub unbuilt : {X : Type 0} (result : Result X Outcome) (name : List ℕ) (nodes : List Node) (specs : List Spec) → IsChecked [] nodes → AreSpecificationsOf [] nodes (take (length (modules nodes)) specs) → IfErr result (λ how. NotBuilt how (take (length (modules nodes)) specs)) → IfErr result (λ how. NotMade how name nodes)
unbuilt (Ok built) name nodes specs checked own refused = tt
unbuilt (Err how) name nodes specs checked own refused = inr (checked, (take (length (modules nodes)) specs, own, refused))
