use Rattle.std.proofs.Common.{decimal, [], ◌∷◌, ◌++◌, append_assoc, slice_index_or, ap, sym, ◌∙◌}
use Rattle.sip_files.proofs.SinkLemmas.{then_wrote}
use Rattle.first_profile.proofs.WroteLemmas.{same_text}
use Rattle.first_profile.proofs.print.print_scalar.Goals as goal

pub returns-in-Ok : goal.returns-in-Ok
returns-in-Ok types c =
    let n = c.scalar.result in
    let name = c.name_of.result.now in
    let wrote = then_wrote {xs = name} {ys = 32 ∷ (decimal n ++ 10 ∷ [])} c.write_number.result c.in-Ok.ensures c.write_number.ensures in
    same_text
    (sym (append_assoc name (32 ∷ decimal n) (10 ∷ []))
    ∙ (ap (λ front. (front ++ (32 ∷ decimal n)) ++ 10 ∷ []) c.name_of.ensures
    ∙ ap (λ k. ((slice_index_or c.args.granted.now.program.scalars.items c.args.scalar []) ++ (32 ∷ decimal k)) ++ 10 ∷ []) c.scalar.ensures))
    wrote
