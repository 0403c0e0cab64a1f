use Rattle.std.proofs.Common.{◌≡◌, Some, None, position, ap, ◌∙◌}
use Rattle.std.specs.FinMap as map
use Rattle.sip_files.specs.Entries.{has_name}
use Rattle.sip_files.specs.declared.folder.Entry.{Entry}
use Rattle.sip_files.proofs.EntriesLemmas.{folder_of-set, folder_of-push}
use Rattle.sip_files.proofs.folder.Folder.put.Goals as goal

pub returns-in-Some-clause-ok : goal.returns-in-Some-clause-ok
returns-in-Some-clause-ok c =
    let place : position (has_name c.args.name.now) c.self.inside.entries.items ≡ Some c.in-Some.at = cc in
    folder_of-set c.args.name.now c.args.bytes.now c.self.inside.entries.items c.in-Some.at c.index_mut-entry.result.now _ place
    (ap (λ (entry : Entry). entry.name.items) c.index_mut-entry.ensures.value) c.in_ok-bytes.ensures.items
    ∙ ap (λ files. map.insert files c.args.name.now c.args.bytes.now) c.self.view_is

pub returns-in_ok-push-in-None-clause-ok : goal.returns-in_ok-push-in-None-clause-ok
returns-in_ok-push-in-None-clause-ok c =
    let place : position (has_name c.args.name.now) c.self.inside.entries.items ≡ None = cc in
    rw c.in_ok-push-in-None.ensures.items (
    folder_of-push c.args.name.now c.args.bytes.now c.self.inside.entries.items _ place c.in_ok-name-in-None.ensures.items c.in_ok-bytes.ensures.items
    ∙ ap (λ files. map.insert files c.args.name.now c.args.bytes.now) c.self.view_is)
