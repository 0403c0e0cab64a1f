-- Writes of texts that are the same.
use Rattle.std.proofs.Common.{◌≡◌, ℕ, List, Option, Result, subst}
use Rattle.sip_files.specs.Kept.{Kept}
use Rattle.sip_files.specs.Sink.{Wrote}

-- a write of a text is one of any text that is the same
pub same_text : {E : Type 0} {old new : Option (List ℕ)} {before now : ℕ} {was is : Kept} {xs ys : List ℕ} {result : Result (Unit {0}) E} → xs ≡ ys → Wrote old new before now was is xs result → Wrote old new before now was is ys result
same_text {E = E} {old = old} {new = new} {before = before} {now = now} {was = was} {is = is} {result = result} same wrote =
    subst (λ (t : List ℕ). Wrote {E = E} old new before now was is t result) same wrote
