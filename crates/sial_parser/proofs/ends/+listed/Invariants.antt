use Rattle.std.proofs.Common.{length}
use Rattle.sial_parser.proofs.ends.+listed.Given as goal

-- one name fewer
abbrev pub decreases-listed : goal.decreases-listed
decreases-listed l = length l.opener.now
