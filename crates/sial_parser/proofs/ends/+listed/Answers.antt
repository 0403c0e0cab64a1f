use Rattle.std.proofs.lemmas.Result.{err_from_is_err_and}
use Rattle.sial_parser.proofs.LoopLemmas.{listed_fail}
use Rattle.sial_parser.proofs.ends.+listed.Goals as goal

-- no name
pub returns-in_err-name : goal.returns-in_err-name
returns-in_err-name t c =
    let p = err_from_is_err_and c.from_residual.result c.from_residual.ensures.1 in
    rw (p.1, p.2) (listed_fail _ _ _ _ c.in_err-name.ensures)
