use Rattle.std.proofs.Common.{◌≡◌, ◌∙◌, ap, sym, subst, ℕ, List, Option, Some, None}
use Rattle.clu_base.specs.Outside.{Files}
use Rattle.clu_base.specs.declared.tokens.Token.{Token}
use Rattle.clu_tree.specs.declared.node.Node.{Node}
use Rattle.clu_printed.specs.Again.{IsReadAgain}
use Rattle.clu_printed.proofs.Again.{read_again}
use Rattle.clu_printer.specs.Printed.{printed}
use Rattle.clu_checked.specs.Sources.{IsSource}
use Rattle.clu_driver.specs.Commands.{IsPrintOf}
use Rattle.clu_driver.specs.Found.{IsFound}
use Rattle.clu_driver.proofs.printing.printed_text.Goals as goal

print_found : (files : Option Files) (name bytes text : List ℕ) (tokens : List Token) (nodes : List Node) → IsFound files name (λ b. b ≡ bytes) → IsSource bytes tokens nodes → text ≡ printed bytes tokens nodes → IsFound files name (λ b. IsPrintOf b text)
print_found None name bytes text tokens nodes found source is = tt
print_found (Some all) name bytes text tokens nodes found source is =
    let again : IsReadAgain text nodes = subst (λ (t : List ℕ). IsReadAgain t nodes) (sym is) (read_again bytes tokens nodes source.small source.tokens_are source.tree_is) in
    (found.0, found.1, (tokens, nodes, subst (λ (b : List ℕ). IsSource b tokens nodes) (sym found.2) source, is ∙ ap (λ (b : List ℕ). printed b tokens nodes) (sym found.2), again))

pub returns-in-Ok-clause-printed : goal.returns-in-Ok-clause-printed
returns-in-Ok-clause-printed g c =
    let s = c.in_ok-source.source in
    print_found (g.F.Store.files c.args.files.now) c.args.file.now s.bytes.items c.in-Ok.text s.tokens.items s.syntax c.in_ok-source.ensures.found c.in_ok-source.ensures.parsed
    (c.in-Ok.ensures ∙ ap (λ (b : List ℕ). printed b c.deref-2.result.now c.tree.result.now) c.deref.ensures.value
    ∙ ap (λ (ts : List Token). printed s.bytes.items ts c.tree.result.now) c.deref-2.ensures.value
    ∙ ap (λ (ns : List Node). printed s.bytes.items s.tokens.items ns) c.tree.ensures.same)
