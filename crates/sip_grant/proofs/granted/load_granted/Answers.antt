use Rattle.std.proofs.Common.{ℕ, List, Ok, subst, sym, rules}
use Rattle.sip_files.specs.Loading.{Loading}
use Rattle.sip_grant.specs.Names.{named, input_of}
use Rattle.sip_grant.proofs.AnswerLemmas.{given_both, refused}
use Rattle.sip_grant.proofs.LoadLemmas.{granted_for, refuses_both, refuses_texts, no_input, starved}
use Rattle.sip_grant.proofs.granted.load_granted.Goals as goal

pub returns-in-Err-clause-refused : goal.returns-in-Err-clause-refused
returns-in-Err-clause-refused g c =
    refuses_both (Loading g.F.Files.load_gives g.F.Files.told g.F.Files.faults g.F.Files.overlong) c.args.files.now c.load_program.new.files
    c.args.program.now c.args.input.now c.in-Err.refusal c.in-Err.ensures.refused

pub returns-in-Ok-load_text-clause-granted : goal.returns-in-Ok-load_text-clause-granted
returns-in-Ok-load_text-clause-granted g c =
    let load = Loading g.F.Files.load_gives g.F.Files.told g.F.Files.faults g.F.Files.overlong in
    let found = c.in-Ok.ensures.ruled in
    let names = named c.args.program.now c.args.input.now in
    let again = subst (λ (t : List ℕ). load c.load_program.new.files (input_of names) (Ok tt) t c.load_text.new.files) (sym c.as_slice.ensures.value) c.in-Ok-load_text.ensures.read in
    given_both c.fitted.result c.fitted.ensures.program c.fitted.ensures.granted
    (λ job same is. granted_for load c.args.files.now c.load_program.new.files c.load_text.new.files c.args.program.now c.args.input.now
    found.0 c.as_slice.result.now c.in-Ok.ruled is.0 job found.1 found.2 again same is.1 is.2)

pub returns-in-Ok-load_text-clause-refused : goal.returns-in-Ok-load_text-clause-refused
returns-in-Ok-load_text-clause-refused g c =
    let load = Loading g.F.Files.load_gives g.F.Files.told g.F.Files.faults g.F.Files.overlong in
    let found = c.in-Ok.ensures.ruled in
    let names = named c.args.program.now c.args.input.now in
    let again = subst (λ (t : List ℕ). load c.load_program.new.files (input_of names) (Ok tt) t c.load_text.new.files) (sym c.as_slice.ensures.value) c.in-Ok-load_text.ensures.read in
    refused c.fitted.result c.fitted.ensures.blames
    (λ refusal blames. refuses_texts load c.args.files.now c.load_program.new.files c.load_text.new.files c.args.program.now c.args.input.now
    found.0 c.as_slice.result.now c.in-Ok.ruled refusal found.1 found.2 again blames)

pub returns-in-Err-Unread-clause-refused : goal.returns-in-Err-Unread-clause-refused
returns-in-Err-Unread-clause-refused g c =
    let load = Loading g.F.Files.load_gives g.F.Files.told g.F.Files.faults g.F.Files.overlong in
    let found = c.in-Ok.ensures.ruled in
    no_input load c.args.files.now c.load_program.new.files c.load_text.new.files c.args.program.now c.args.input.now
    found.0 c.in-Ok.ruled found.1 found.2 (c.in-Err-Unread.ensures.unread (search rules))

pub returns-clause-refused : goal.returns-clause-refused
returns-clause-refused g c =
    let load = Loading g.F.Files.load_gives g.F.Files.told g.F.Files.faults g.F.Files.overlong in
    let found = c.in-Ok.ensures.ruled in
    starved load c.args.files.now c.load_program.new.files c.load_text.new.files c.args.program.now c.args.input.now
    found.0 c.in-Ok.ruled found.1 found.2 (c.in-Err-OutOfMemory.ensures.memory (search rules))
