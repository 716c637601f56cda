use Rattle.std.proofs.Common.{◌≡◌, ◌∙◌, true, false, ap, rules, slice_get, sym}
use Rattle.clu_tree.specs.declared.node.NodeKind.TheVariants as kind
use Rattle.clu_head.specs.There.{is_there}
use Rattle.clu_bindings.specs.declared.file.File.{File}
use Rattle.clu_check_mod.specs.Bad.{fault_by, file_by, state}
use Rattle.clu_check_mod.proofs.Ascending.{in_equate}
use Rattle.clu_check_mod.proofs.Looking.{equate_here, equate_other, equate_past}
use Rattle.clu_check_mod.proofs.bad.Asking.settle_equate.Goals as goal

pub returns-then-is_kind : goal.returns-then-is_kind
returns-then-is_kind c items up =
    let is : is_there kind.Equate (slice_get (file_by c.args.by).syntax.now c.in-Some.one.now.node) ≡ true =
    ap (λ (f : File). is_there kind.Equate (slice_get f.syntax.now c.in-Some.one.now.node)) (sym c.file_of.ensures) ∙ sym c.is_kind.ensures.exact ∙ c.if-is_kind.true in
    c.settle.ensures items (in_equate c.args.by c.in-Some.one.now.node is up)
    ∙ sym (equate_here (file_by c.args.by).syntax.now (file_by c.args.by).rounds.now (fault_by items c.args.by) c.args.declared.now (state c.args.self.now) c.args.place c.in-Some.one.now c.in-Some.ensures.lookup.3.0 c.in-Some.ensures.lookup.1 is)

pub returns-else-is_kind : goal.returns-else-is_kind
returns-else-is_kind c items up =
    let is : is_there kind.Equate (slice_get (file_by c.args.by).syntax.now c.in-Some.one.now.node) ≡ false =
    ap (λ (f : File). is_there kind.Equate (slice_get f.syntax.now c.in-Some.one.now.node)) (sym c.file_of.ensures) ∙ sym c.is_kind.ensures.exact ∙ c.if-is_kind.false in
    sym (equate_other (file_by c.args.by).syntax.now (file_by c.args.by).rounds.now (fault_by items c.args.by) c.args.declared.now (state c.args.self.now) c.args.place c.in-Some.one.now c.in-Some.ensures.lookup.3.0 c.in-Some.ensures.lookup.1 is)

pub returns-in_default : goal.returns-in_default
returns-in_default c items up = sym (equate_past (file_by c.args.by).syntax.now (file_by c.args.by).rounds.now (fault_by items c.args.by) c.args.declared.now (state c.args.self.now) c.args.place (search rules))
