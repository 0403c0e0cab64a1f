-- A program of the first profile comes to its end.
use Rattle.std.proofs.Common.{◌≡◌, [], None, ap, sym, subst, ◌∙◌}
use Rattle.sial_meaning.specs.Meaning.{block_meaning, calls, call_depth, sequential}
use Rattle.sial_meaning.specs.Statement.{Went, Present}
use Rattle.first_profile.specs.FirstLaws.{IsThrough, FirstHasNoTrap}
use Rattle.first_profile.specs.Running.{start_numbers, state_of}
use Rattle.first_profile.proofs.Sequential.{body_law}
use Rattle.first_profile.proofs.StartLaws.{start-is}
use Rattle.first_profile.proofs.StartLemmas.{fits_start}
use Rattle.first_profile.proofs.Worked.{ran, body_lines}
use Rattle.first_profile.specs.Ready.{IsFirstSetting}
use Rattle.sial_meaning.specs.Setting.{Setting}

-- the state that it comes to
goes-through : (g : Setting) → IsFirstSetting g
    → sequential g ≡ Went (state_of g (ran g g.program.body (start_numbers g)) (body_lines g g.program.body (start_numbers g)))
goes-through g is =
    ap (block_meaning Present g (calls Present g call_depth) g.program.body) (start-is g is)
    ∙ body_law g (calls Present g call_depth) None g.program.body (start_numbers g) [] is is.tree.body (fits_start g is) tt

pub no_trap : FirstHasNoTrap
no_trap g first ready = subst IsThrough (sym (goes-through g (record { tree = first; ready = ready }))) tt
