use Rattle.std.proofs.Common.{rules}
use Rattle.std.proofs.lemmas.Slice.{first_rest}
use Rattle.index_spaces.specs.Laid.{over}
use Rattle.index_spaces.specs.Placed.{spans_of}
use Rattle.index_spaces.proofs.BoxLemmas.{rest_known}
use Rattle.index_spaces.proofs.boxes.+rank_in.Goals as goal

pub rank_in-behind-requires : goal.rank_in-behind-requires
rank_in-behind-requires t c =
    let known = rest_known (over (spans_of c.args.spans.now)) c.args.indices.now c.args.tuple.now _ _ _ _ (first_rest c.args.indices.now 0 c.in-len1-up.len_at_least) (first_rest c.args.tuple.now 0 c.in-len1-up-tuple.len_at_least) c.requires.within c.requires.fits in
    (search rules, (known.0, known.1))
