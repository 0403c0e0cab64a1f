-- Several writes in a row, as one. A caller answers a return by `then_wrote result c.in_ok-x.ensures c.y.ensures`, and the exit of a `?` by
-- `stopped rest c.from_residual.result c.in_err-x.ensures c.from_residual.ensures.0`.
use Rattle.std.proofs.Common.{◌≡◌, ℕ, List, [], ◌++◌, Option, Some, None, Result, Ok, Err, IsErr, refl, sym, ap, ◌∙◌, subst, append_assoc, append-nil, arith}
use Rattle.sip_files.specs.Kept.{Kept}
use Rattle.sip_files.specs.Sink.{Gains, GainsPart, Wrote}

-- what is gained by two writes
pub Gains-append : (old mid new : Option (List ℕ)) (xs ys : List ℕ) → Gains old mid xs → Gains mid new ys → Gains old new (xs ++ ys)
Gains-append None mid new xs ys first second = subst (λ (m : Option (List ℕ)). Gains m new ys) first second
Gains-append (Some old) mid new xs ys first second =
    let then_gained : new ≡ Some ((old ++ xs) ++ ys) = subst (λ (m : Option (List ℕ)). Gains m new ys) first second in
    then_gained ∙ ap Some (append_assoc old xs ys)

-- a first part of a write is a first part of more
pub GainsPart-append : (old new : Option (List ℕ)) (xs ys : List ℕ) → GainsPart old new xs → GainsPart old new (xs ++ ys)
GainsPart-append old new xs ys (part, (rest, is), gained) = (part, (rest ++ ys, ap (λ front. front ++ ys) is ∙ append_assoc part rest ys), gained)

-- a write and then a first part of another
pub Gains-then_part : (old mid new : Option (List ℕ)) (xs ys : List ℕ) → Gains old mid xs → GainsPart mid new ys → GainsPart old new (xs ++ ys)
Gains-then_part old mid new xs ys first (part, (rest, is), gained) =
    (xs ++ part, (rest, ap (λ back. xs ++ back) is ∙ sym (append_assoc xs part rest)), Gains-append old mid new xs part first gained)

-- two writes, of which the first was whole
pub then_wrote : {E : Type 0} {old mid new : Option (List ℕ)} {before between now : ℕ} {was between_is is : Kept} {xs ys : List ℕ} (result : Result (Unit {0}) E) → Wrote {E = E} old mid before between was between_is xs (Ok tt) → Wrote mid new between now between_is is ys result → Wrote old new before now was is (xs ++ ys) result
then_wrote {old = old} {mid = mid} {new = new} {xs = xs} {ys = ys} (Ok done) first second = record {
  ok = Gains-append old mid new xs ys first.ok second.ok;
  err = tt;
  later = omega (arith, first.later, second.later);
  cause = tt;
  kept = second.kept ∙ first.kept;
}
then_wrote {old = old} {mid = mid} {new = new} {xs = xs} {ys = ys} (Err e) first second = record {
  ok = tt;
  err = Gains-then_part old mid new xs ys first.ok second.err;
  later = omega (arith, first.later, second.later);
  cause = omega (arith, first.later, second.cause);
  kept = second.kept ∙ first.kept;
}

-- a write that failed is a first part of more
pub stopped : {E D : Type 0} {old new : Option (List ℕ)} {before now : ℕ} {was is : Kept} {xs : List ℕ} {e : E} (ys : List ℕ) (result : Result (Unit {0}) D) → Wrote old new before now was is xs (Err e) → IsErr result → Wrote old new before now was is (xs ++ ys) result
stopped ys (Ok done) first failed = absurd cc
stopped {old = old} {new = new} {xs = xs} ys (Err d) first failed = record {
  ok = tt;
  err = GainsPart-append old new xs ys first.err;
  later = first.later;
  cause = first.cause;
  kept = first.kept;
}

-- no write at all
pub wrote_nothing : {E : Type 0} (old : Option (List ℕ)) (count : ℕ) (kept : Kept) → Wrote {E = E} old old count count kept kept [] (Ok tt)
wrote_nothing None count kept = record { ok = refl; err = tt; later = omega arith; cause = tt; kept = refl }
wrote_nothing (Some old) count kept = record { ok = ap Some (sym (append-nil old)); err = tt; later = omega arith; cause = tt; kept = refl }
