-- Texts that go out in a row.
use Rattle.std.proofs.Common.{◌≡◌, ℕ, List, [], ◌∷◌, ◌++◌, Option, Some, None, Result, Ok, Err, refl, sym, ap, ◌∙◌, subst, append_assoc, append-nil, arith}
use Rattle.sip_files.specs.Kept.{Kept}
use Rattle.sip_files.specs.Sink.{Wrote}
use Rattle.sip_files.specs.declared.fault.Failed.{Failed}
use Rattle.sip_files.proofs.SinkLemmas.{Gains-append, GainsPart-append, Gains-then_part}
use Rattle.sip_setting.specs.Printing.{text_of}
use Rattle.first_profile.specs.Ran.{Ran, RanSoFar}
use Rattle.first_profile.specs.declared.fault.RunFault.{RunFault}
use Rattle.first_profile.specs.declared.fault.RunFault.TheVariants.{NotWritten}

-- the text of lines behind others
pub text_of-append : (xs ys : List (List ℕ)) → text_of (xs ++ ys) ≡ text_of xs ++ text_of ys
text_of-append [] ys = refl
text_of-append (x ∷ xs) ys = ap (λ t. (x ++ 10 ∷ []) ++ t) (text_of-append xs ys) ∙ sym (append_assoc (x ++ 10 ∷ []) (text_of xs) (text_of ys))

-- nothing went out
pub ran_nothing : (old : Option (List ℕ)) (count : ℕ) (kept : Kept) → Ran old old count count kept kept [] (Ok tt)
ran_nothing None count kept = record { ok = refl; err = tt; later = omega arith; cause = λ e. absurd cc; kept = refl }
ran_nothing (Some old) count kept = record { ok = ap Some (sym (append-nil old)); err = tt; later = omega arith; cause = λ e. absurd cc; kept = refl }

-- a text that went out whole, and then another
pub then_ran : {old mid new : Option (List ℕ)} {before between now : ℕ} {was between_is is : Kept} {xs ys : List ℕ} (result : Result (Unit {0}) RunFault) → Ran old mid before between was between_is xs (Ok tt) → Ran mid new between now between_is is ys result → Ran old new before now was is (xs ++ ys) result
then_ran {old = old} {mid = mid} {new = new} {xs = xs} {ys = ys} (Ok done) first second = record {
  ok = Gains-append old mid new xs ys first.ok second.ok;
  err = tt;
  later = omega (arith, first.later, second.later);
  cause = λ e. absurd cc;
  kept = second.kept ∙ first.kept;
}
then_ran {old = old} {mid = mid} {new = new} {xs = xs} {ys = ys} (Err e) first second = record {
  ok = tt;
  err = Gains-then_part old mid new xs ys first.ok second.err;
  later = omega (arith, first.later, second.later);
  cause = λ w. let rose = second.cause w in omega (arith, first.later, rose);
  kept = second.kept ∙ first.kept;
}

-- a text that stopped is a part of more
pub stopped_ran : {old new : Option (List ℕ)} {before now : ℕ} {was is : Kept} {xs : List ℕ} {e : RunFault} (ys : List ℕ) → Ran old new before now was is xs (Err e) → Ran old new before now was is (xs ++ ys) (Err e)
stopped_ran {old = old} {new = new} {xs = xs} ys first = record {
  ok = tt;
  err = GainsPart-append old new xs ys first.err;
  later = first.later;
  cause = first.cause;
  kept = first.kept;
}

-- a text that is the same
pub same_ran : {old new : Option (List ℕ)} {before now : ℕ} {was is : Kept} {xs ys : List ℕ} {result : Result (Unit {0}) RunFault} → xs ≡ ys → Ran old new before now was is xs result → Ran old new before now was is ys result
same_ran {old = old} {new = new} {before = before} {now = now} {was = was} {is = is} {result = result} same ran =
    subst (λ (t : List ℕ). Ran old new before now was is t result) same ran

-- a write is a text that went out
pub wrote_ran : {old new : Option (List ℕ)} {before now : ℕ} {was is : Kept} {xs : List ℕ} → Wrote {E = Failed} old new before now was is xs (Ok tt) → Ran old new before now was is xs (Ok tt)
wrote_ran wrote = record { ok = wrote.ok; err = tt; later = wrote.later; cause = λ e. absurd cc; kept = wrote.kept }

-- a write that failed is a text of which a part went out
pub failed_ran : {old new : Option (List ℕ)} {before now : ℕ} {was is : Kept} {xs : List ℕ} (failed : Failed) → Wrote {E = Failed} old new before now was is xs (Err failed) → Ran old new before now was is xs (Err NotWritten)
failed_ran failed wrote = record { ok = tt; err = wrote.err; later = wrote.later; cause = λ e. wrote.cause; kept = wrote.kept }

-- before the first line
pub so_far : (old : Option (List ℕ)) (count : ℕ) (kept : Kept) (all : List (List ℕ)) → RanSoFar old old count count kept kept all all
so_far old count kept all = record { done = []; split = refl; ran = ran_nothing old count kept }

-- some more lines went out
pub further : {old mid new : Option (List ℕ)} {before between now : ℕ} {was between_is is : Kept} {all : List (List ℕ)} (lines rest : List (List ℕ)) → RanSoFar old mid before between was between_is all (lines ++ rest) → Ran mid new between now between_is is (text_of lines) (Ok tt) → RanSoFar old new before now was is all rest
further lines rest so second = record {
  done = so.done ++ lines;
  split = so.split ∙ sym (append_assoc so.done lines rest);
  ran = same_ran (sym (text_of-append so.done lines)) (then_ran (Ok tt) so.ran second);
}

-- the last lines went out
pub all_ran : {old new : Option (List ℕ)} {before now : ℕ} {was is : Kept} {all : List (List ℕ)} → RanSoFar old new before now was is all [] → Ran old new before now was is (text_of all) (Ok tt)
all_ran so = same_ran (ap text_of (sym (so.split ∙ append-nil so.done))) so.ran

-- some more lines stopped
pub stopped_so_far : {old mid new : Option (List ℕ)} {before between now : ℕ} {was between_is is : Kept} {all : List (List ℕ)} {e : RunFault} (lines rest : List (List ℕ)) → RanSoFar old mid before between was between_is all (lines ++ rest) → Ran mid new between now between_is is (text_of lines) (Err e) → Ran old new before now was is (text_of all) (Err e)
stopped_so_far {e = e} lines rest so second =
    same_ran
    (ap (λ t. text_of so.done ++ t) (sym (text_of-append lines rest)) ∙ (sym (text_of-append so.done (lines ++ rest)) ∙ ap text_of (sym so.split)))
    (then_ran (Err e) so.ran (stopped_ran (text_of rest) second))
