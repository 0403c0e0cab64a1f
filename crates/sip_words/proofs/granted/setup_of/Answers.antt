use Rattle.std.proofs.Common.{refl}
use Rattle.sip_words.proofs.granted.setup_of.Goals as goal

pub returns : goal.returns
returns c =
    rw (
      c.or_fallback.ensures,
      c.given.ensures,
      c.or_fallback-2.ensures,
      c.given-2.ensures,
      c.or_fallback-3.ensures,
      c.given-3.ensures,
      c.or_fallback-4.ensures,
      c.given-4.ensures,
      c.or_fallback-5.ensures,
      c.given-5.ensures,
      c.given-6.ensures,
    ) refl
