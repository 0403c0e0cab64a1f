use Rattle.sial_syntax.proofs.RankLemmas.{rank-of-numbers, numbers-of-rank, rank-within, numbers-within}
use Rattle.sial_syntax.proofs.laws.ranks_and_numbers.Goals as goal

pub returns : goal.returns
returns c = record { rank = rank-of-numbers; numbers = numbers-of-rank; rank_within = rank-within; numbers_within = numbers-within }
