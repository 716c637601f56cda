use Rattle.std.proofs.Common.{rules, ◌≡◌, string_bytes}
use Rattle.std.proofs.lemmas.Map.Text.{btree_map_updates_text}
use Rattle.std.proofs.lemmas.Result.{IfOk-at_ok}
use Rattle.clu_base.proofs.StoredFiles.{put_into_map}
use Rattle.clu_base.proofs.files.MemStore.keep.Goals as goal

-- `insert` set the name's file to the copied content
pub returns-clause-kept : goal.returns-clause-kept
returns-clause-kept c =
    let is_name = IfOk-at_ok (λ s. string_bytes s ≡ c.args.name.now) c.in_ok-name.was c.from_str.ensures.ok in
    let sets = btree_map_updates_text (string_bytes c.in_ok-name.name) c.args.self.now.files c.insert.new.self _ c.in_ok-insert.ensures.updates in
    let made = put_into_map c.args.self.now.files c.insert.new.self (string_bytes c.in_ok-name.name) c.in_ok-content.content sets in
    let is_content : c.in_ok-content.content.items ≡ c.args.bytes.now = search rules in
    rw (is_name, is_content) at made
