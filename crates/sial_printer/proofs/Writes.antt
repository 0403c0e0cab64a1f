-- Several writes in a row, as one whole.
use Rattle.std.proofs.Common.{◌≡◌, ℕ, suc, ◌+◌, ◌<◌, List, [], ◌∷◌, ◌++◌, take, drop, length, get_or, Option, Result, Ok, Err, IsErr, sym, ap, subst, ◌∙◌, append_assoc, append-nil, arith}
use Rattle.std.specs.List.{flat_map}
use Rattle.std.proofs.lemmas.List.{take-append-drop, take_more}
use Rattle.std.proofs.Math.Seq.{drop-cons}
use Rattle.std.proofs.lemmas.List.Concat.{flat_map-cons}
use Rattle.std.proofs.lemmas.Grind.{flat_map-append}
use Rattle.sip_files.specs.Kept.{Kept}
use Rattle.sip_files.specs.Sink.{Wrote}
use Rattle.sip_files.proofs.SinkLemmas.{then_wrote, stopped}

-- the first write failed: a first part of the whole was written
pub first_failed : {E D : Type 0} {old new : Option (List ℕ)} {before now : ℕ} {was is : Kept} {xs : List ℕ} {e : E} (whole ys : List ℕ) (result : Result (Unit {0}) D) → Wrote old new before now was is xs (Err e) → IsErr result → xs ++ ys ≡ whole → Wrote old new before now was is whole result
first_failed {D = D} {old = old} {new = new} {before = before} {now = now} {was = was} {is = is} whole ys result wrote failed parts = subst (λ (b : List ℕ). Wrote {E = D} old new before now was is b result) parts (stopped ys result wrote failed)

-- the first write went through, and the rest was written as its result says
pub both_wrote : {E : Type 0} {old mid new : Option (List ℕ)} {before between now : ℕ} {was between_is is : Kept} {xs ys : List ℕ} (whole : List ℕ) (result : Result (Unit {0}) E) → Wrote {E = E} old mid before between was between_is xs (Ok tt) → Wrote mid new between now between_is is ys result → xs ++ ys ≡ whole → Wrote old new before now was is whole result
both_wrote {E = E} {old = old} {new = new} {before = before} {now = now} {was = was} {is = is} whole result first second parts = subst (λ (b : List ℕ). Wrote {E = E} old new before now was is b result) parts (then_wrote result first second)

-- what is printed before a place, there and behind it
pub entries_split : {X : Type 0} (write : X → List ℕ) (xs : List X) (i : ℕ) (x : X) → drop i xs ≡ x ∷ drop (i + 1) xs → (flat_map write (take i xs) ++ write x) ++ flat_map write (drop (i + 1) xs) ≡ flat_map write xs
entries_split write xs i x here =
    append_assoc (flat_map write (take i xs)) (write x) (flat_map write (drop (i + 1) xs))
    ∙ ap (λ t. flat_map write (take i xs) ++ t) (sym (flat_map-cons write x (drop (i + 1) xs)) ∙ ap (flat_map write) (sym here))
    ∙ sym (flat_map-append write (take i xs) (drop i xs))
    ∙ ap (flat_map write) (take-append-drop i xs)

-- one more
pub entries_more : {X : Type 0} (write : X → List ℕ) (xs : List X) (i : ℕ) (x : X) → take (i + 1) xs ≡ take i xs ++ x ∷ [] → flat_map write (take i xs) ++ write x ≡ flat_map write (take (i + 1) xs)
entries_more write xs i x here =
    ap (λ t. flat_map write (take i xs) ++ t) (sym (append-nil (write x)) ∙ sym (flat_map-cons write x []))
    ∙ sym (flat_map-append write (take i xs) (x ∷ [])) ∙ ap (flat_map write) (sym here)

-- the item at a place, with what stands before and behind it
pub up_to_item : {X : Type 0} (xs : List X) (i : ℕ) (x : X) → i < length xs → x ≡ get_or xs i x → take (i + 1) xs ≡ take i xs ++ x ∷ []
up_to_item xs i x below is = take_more xs i x below ∙ ap (λ y. take i xs ++ y ∷ []) (sym is)

pub from_item : {X : Type 0} (xs : List X) (i : ℕ) (x : X) → i < length xs → x ≡ get_or xs i x → drop i xs ≡ x ∷ drop (i + 1) xs
from_item xs i x below is =
    let next : suc i ≡ i + 1 = omega arith in
    drop-cons xs i x below ∙ ap (λ y. y ∷ drop (suc i) xs) (sym is) ∙ ap (λ n. x ∷ drop n xs) next

-- the same bytes, said otherwise
pub same_text : {E : Type 0} {old new : Option (List ℕ)} {before now : ℕ} {was is : Kept} {xs ys : List ℕ} (result : Result (Unit {0}) E) → xs ≡ ys → Wrote {E = E} old new before now was is xs result → Wrote old new before now was is ys result
same_text {E = E} {old = old} {new = new} {before = before} {now = now} {was = was} {is = is} result e wrote = subst (λ (b : List ℕ). Wrote {E = E} old new before now was is b result) e wrote
