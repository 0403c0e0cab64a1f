-- Lines that are the same.
use Rattle.std.proofs.Common.{◌≡◌, ℕ, List, Option, subst, sym}
use Rattle.sip_grant.specs.Names.{Names}
use Rattle.sip_grant.specs.declared.refusal.Refusal.{Refusal}
use Rattle.sip_grant.specs.declared.refusal.SyntaxFault.{SyntaxFault}
use Rattle.sip_driver.specs.Kinds.{Told}
use Rattle.sip_driver.specs.Performed.{line_on}
use Rattle.sip_driver.specs.Says.{Says, syntax_line, told_line}

-- A line that went out is the line of a refusal.
pub says_line :
    {K : Type 0}
    (written : K → Option (List ℕ))
    (faults : K → ℕ)
    (old new : K)
    (names : Names)
    (refusal this : Refusal)
    → refusal ≡ this
    → Says written faults old new (line_on names this)
    → Says written faults old new (line_on names refusal)
says_line written faults old new names refusal this is said =
    subst (λ (r : Refusal). Says written faults old new (line_on names r)) (sym is) said

-- The same of the file of no program.
pub says_syntax :
    {K : Type 0}
    (written : K → Option (List ℕ))
    (faults : K → ℕ)
    (old new : K)
    (fault this : SyntaxFault)
    → fault ≡ this
    → Says written faults old new (syntax_line this)
    → Says written faults old new (syntax_line fault)
says_syntax written faults old new fault this is said =
    subst (λ (f : SyntaxFault). Says written faults old new (syntax_line f)) (sym is) said

-- The same, where the line tells a fault.
pub says_told :
    {K : Type 0}
    (written : K → Option (List ℕ))
    (faults : K → ℕ)
    (old new : K)
    (front : List ℕ)
    (told this : Told)
    → told ≡ this
    → Says written faults old new (told_line front told)
    → Says written faults old new (told_line front this)
says_told written faults old new front told this is said =
    subst (λ (t : Told). Says written faults old new (told_line front t)) is said
