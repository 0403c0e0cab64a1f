-- No piece of the worked spaces is cut.
use Rattle.std.proofs.Common.{◌≡◌, ℕ, zero, suc, true, refl, sym, eqb-true, arith}
use Rattle.sial_meaning.specs.ReadBackLaws.{NoPartOfPart}
use Rattle.sial_meaning.specs.Sight.{cuts}
use Rattle.sial_meaning.proofs.AcceptedInOtherWords.Pairs.{never}
use Rattle.exec_tests.specs.Worked.{worked}

-- only mm cuts anything, and it cuts m
only-one : (a b : ℕ) → cuts worked a b ≡ true → (a ≡ 3) × (b ≡ 0)
only-one zero b is = absurd (never is)
only-one (suc zero) b is = absurd (never is)
only-one (suc (suc zero)) b is = absurd (never is)
only-one (suc (suc (suc zero))) b is = (refl, sym (eqb-true 0 b is))
only-one (suc (suc (suc (suc a)))) b is = absurd (never is)

pub flat : NoPartOfPart worked
flat a b c first second = let one = only-one a b first in let two = only-one b c second in apart b one.1 two.0
  where
    apart : (b : ℕ) → b ≡ 0 → b ≡ 3 → ⊥
    apart b none three = absurd (omega (arith, none, three))
