use Rattle.std.proofs.Common.{◌≡◌, ◌-◌, ◌^◌, ◌<◌, ℕ, List, length, subst, sym, ap, ◌∙◌}
use Rattle.std.proofs.lemmas.List.{length-map}
use Rattle.clu_lexer.specs.declared.symbols.Symbol.{Symbol}
use Rattle.clu_parser.specs.Order.{IsPostOrder, IsFileOver}
use Rattle.clu_parser.specs.Spellings.{symbol_in}
use Rattle.clu_parser.specs.Steps.{allowance}
use Rattle.clu_parser.specs.Trees.{IsBuilt}
use Rattle.clu_parser.proofs.Finished.{built_file}
use Rattle.clu_parser.proofs.Formed.{tree_shaped, tree_formed}
use Rattle.clu_parser.proofs.Sizes.{tokens_small}
use Rattle.clu_parser.proofs.parsing.parse.Goals as goal

pub read-requires-clause-room : goal.read-requires-clause-room
read-requires-clause-room c =
    subst (λ (x : List Symbol). allowance (record { bytes = c.args.bytes.now; tokens = c.args.tokens.now; symbols = x }) < 2 ^ 32 - 1)
    (sym (c.as_slice.ensures.value ∙ c.in_ok-symbols.ensures)) (tokens_small c.args.bytes.now c.args.tokens.now c.requires.small c.requires.tokens)

pub returns-clause-order : goal.returns-clause-order
returns-clause-order c =
    let both = built_file (record { bytes = c.args.bytes.now; tokens = c.args.tokens.now; symbols = c.as_slice.result.now }) c.read.new.builder c.in-Ok.ensures.tree c.into_tree-tree.ensures.order in
    subst IsPostOrder (sym c.into_tree-tree.ensures.nodes) both.0

pub returns-clause-root : goal.returns-clause-root
returns-clause-root c =
    let both = built_file (record { bytes = c.args.bytes.now; tokens = c.args.tokens.now; symbols = c.as_slice.result.now }) c.read.new.builder c.in-Ok.ensures.tree c.into_tree-tree.ensures.order in
    let few : length c.as_slice.result.now ≡ length c.args.tokens.now = ap length (c.as_slice.ensures.value ∙ c.in_ok-symbols.ensures) ∙ length-map c.args.tokens.now (symbol_in c.args.bytes.now) in
    subst (λ (k : ℕ). IsFileOver k c.into_tree-tree.result) few (subst (IsFileOver (length c.as_slice.result.now)) (sym c.into_tree-tree.ensures.nodes) both.1)

pub returns-clause-shape : goal.returns-clause-shape
returns-clause-shape c =
    tree_shaped c.args.bytes.now c.args.tokens.now c.into_tree-tree.result
    (c.read.new.builder, subst (λ (x : List Symbol). IsBuilt (record { bytes = c.args.bytes.now; tokens = c.args.tokens.now; symbols = x }) c.read.new.builder) (c.as_slice.ensures.value ∙ c.in_ok-symbols.ensures) c.in-Ok.ensures.tree, sym c.into_tree-tree.ensures.nodes)

pub returns-clause-forms : goal.returns-clause-forms
returns-clause-forms c =
    tree_formed c.args.bytes.now c.args.tokens.now c.into_tree-tree.result
    (c.read.new.builder, subst (λ (x : List Symbol). IsBuilt (record { bytes = c.args.bytes.now; tokens = c.args.tokens.now; symbols = x }) c.read.new.builder) (c.as_slice.ensures.value ∙ c.in_ok-symbols.ensures) c.in-Ok.ensures.tree, sym c.into_tree-tree.ensures.nodes)
