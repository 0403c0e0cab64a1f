use Rattle.std.proofs.Common.{◌≡◌, ◌++◌, Some, None, position, sym, ap, ◌∙◌}
use Rattle.std.specs.FinMap as map
use Rattle.sip_files.specs.Entries.{has_name}
use Rattle.sip_files.specs.Writing.{bytes_in}
use Rattle.sip_files.specs.declared.folder.Entry.{Entry}
use Rattle.sip_files.proofs.EntriesLemmas.{folder_of-longer, folder_of-same, get-no_place, put-behind_none, on-error}
use Rattle.sip_files.proofs.folder.Folder.append.Goals as goal

pub returns-in_err-extend_from_slice-in-Some-clause-err : goal.returns-in_err-extend_from_slice-in-Some-clause-err
returns-in_err-extend_from_slice-in-Some-clause-err c =
    let place : position (has_name c.args.name.now) c.self.inside.entries.items ≡ Some c.in-Some.at = cc in
    on-error c.from_residual.result (
    folder_of-same c.args.name.now c.self.inside.entries.items c.in-Some.at c.index_mut-entry.result.now _ place
    (ap (λ (entry : Entry). entry.name.items) c.index_mut-entry.ensures.value)
    (c.in_err-extend_from_slice-in-Some.ensures.items ∙ ap (λ (entry : Entry). entry.bytes.items) c.index_mut-entry.ensures.value)
    ∙ c.self.view_is)

pub returns-in_ok-extend_from_slice-in-Some-clause-ok : goal.returns-in_ok-extend_from_slice-in-Some-clause-ok
returns-in_ok-extend_from_slice-in-Some-clause-ok c =
    let place : position (has_name c.args.name.now) c.self.inside.entries.items ≡ Some c.in-Some.at = cc in
    folder_of-longer c.args.name.now c.args.bytes.now c.self.inside.entries.items c.in-Some.at c.index_mut-entry.result.now _ place
    (ap (λ (entry : Entry). entry.name.items) c.index_mut-entry.ensures.value)
    (c.in_ok-extend_from_slice-in-Some.ensures.items ∙ ap (λ (entry : Entry). entry.bytes.items ++ c.args.bytes.now) c.index_mut-entry.ensures.value)
    ∙ ap (λ files. map.insert files c.args.name.now (bytes_in files c.args.name.now ++ c.args.bytes.now)) c.self.view_is

pub returns-in-None-clause-ok : goal.returns-in-None-clause-ok
returns-in-None-clause-ok c =
    let place : position (has_name c.args.name.now) c.self.inside.entries.items ≡ None = cc in
    put-behind_none c.put.result c.args.self.now c.put.new.self c.args.name.now c.args.bytes.now
    (ap (λ files. map.get files c.args.name.now) (sym c.self.view_is) ∙ get-no_place c.args.name.now c.self.inside.entries.items place) c.put.ensures.ok
