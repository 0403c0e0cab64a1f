use Rattle.std.proofs.Common.{length}
use Rattle.exec_names.proofs.member.+are_members.Given as goal

-- the members that are left
abbrev pub decreases-are_members : goal.decreases-are_members
decreases-are_members l = length l.members.now
