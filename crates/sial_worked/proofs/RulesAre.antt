-- What the rules and the spaces say of worked programs.
use Rattle.std.proofs.Common.{refl}
use Rattle.sial_worked.specs.Chain.{ChainIsRefused}
use Rattle.sial_worked.specs.Later.{FirstLineFirst, EarlierLineFirst}
use Rattle.sial_worked.specs.TwoFaults.{TwoFaultsOnOneLine, TwoStatementsOnOneLine}
use Rattle.sial_worked.specs.OtherSpaces.{SpacesAreRefused}
use Rattle.sial_worked.specs.Part.{PartIsRefused}
use Rattle.sial_worked.specs.Small.{small_program, SmallIsProper}
use Rattle.sial_worked.proofs.SoundLemmas.{proper-by}
use Rattle.sial_meaning.proofs.AcceptedInOtherWords.Pairs.{never}

pub part-is-refused : PartIsRefused
part-is-refused = record { shapes = refl; sides = refl; classes = refl }

pub chain-is-refused : ChainIsRefused
chain-is-refused = record { first_shape = refl; first = refl; second = refl }

pub two-faults-on-one-line : TwoFaultsOnOneLine
two-faults-on-one-line = refl

pub two-statements-on-one-line : TwoStatementsOnOneLine
two-statements-on-one-line = refl

pub first-line-first : FirstLineFirst
first-line-first = refl

pub earlier-line-first : EarlierLineFirst
earlier-line-first = refl

pub small-is-proper : SmallIsProper
small-is-proper = proper-by small_program refl

pub spaces-are-refused : SpacesAreRefused
spaces-are-refused = record {
  no_segments = λ constants are. never are.segments;
  too_high = λ constants are. never are.segments;
  empty_too_high = λ constants are. never are.segments;
  other_span = λ constants are. absurd cc;
  no_constant = λ are. never are.segments;
  too_long = λ constants are. never are.cuts;
  not_within = λ constants are. never are.within;
}
