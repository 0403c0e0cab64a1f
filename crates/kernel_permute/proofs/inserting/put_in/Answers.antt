use Rattle.std.proofs.Common.{◌≡◌, ◌∙◌, sym, length, arith}
use Rattle.kernel_permute.proofs.InsertingLemmas.{inserted_none}
use Rattle.kernel_permute.proofs.inserting.put_in.Goals as goal

pub returns-then-is_empty : goal.returns-then-is_empty
returns-then-is_empty g c =
    let none : length c.args.from.now ≡ 0 = grind arith in
    record { value = inserted_none c.args.how c.args.size.now c.args.from.now c.args.dims.now c.args.at.now c.args.to.now (sym c.requires.from_length ∙ none) c.requires.to_length }
