use Rattle.std.proofs.Common.{◌≡◌, Some, None, position, sym, ap, ◌∙◌}
use Rattle.std.specs.FinMap as map
use Rattle.sip_files.specs.Entries.{has_name}
use Rattle.sip_files.specs.declared.folder.Entry.{Entry}
use Rattle.sip_files.proofs.EntriesLemmas.{get-place, get-no_place}
use Rattle.sip_files.proofs.folder.Folder.get.Goals as goal

pub returns-in-Some : goal.returns-in-Some
returns-in-Some c =
    let place : position (has_name c.args.name.now) c.self.inside.entries.items ≡ Some c.in-Some.at = cc in
    ap Some c.as_slice-in-Some.ensures.value
    ∙ ap (λ (entry : Entry). Some entry.bytes.items) c.index.ensures
    ∙ sym (get-place c.args.name.now c.self.inside.entries.items c.in-Some.at c.index.result.now place)
    ∙ ap (λ files. map.get files c.args.name.now) c.self.view_is

pub returns-in-None : goal.returns-in-None
returns-in-None c =
    let place : position (has_name c.args.name.now) c.self.inside.entries.items ≡ None = cc in
    sym (get-no_place c.args.name.now c.self.inside.entries.items place) ∙ ap (λ files. map.get files c.args.name.now) c.self.view_is
