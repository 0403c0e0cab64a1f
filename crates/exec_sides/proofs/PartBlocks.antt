-- Slices and insertions, position by position.
use Rattle.std.proofs.Common.{◌≡◌, ℕ, ◌+◌, ◌-◌, ◌<◌, ◌≤◌, Bool, true, false, ◌&&◌, nat_le, nat_lt, List, [], ◌∷◌, length, refl, sym, ap, ◌∙◌, subst, arith}
use Rattle.std.specs.Prelude.{slice_index}
use Rattle.std.proofs.lemmas.Bool.{leb-true, le-leb}
use Rattle.std.proofs.lemmas.Bool.Decides.{nat_tests}
use Rattle.kernel_permute.specs.How.{combined}
use Rattle.kernel_permute.specs.declared.how.How.{How}
use Rattle.kernel_permute.specs.Inserting.{inserted, is_in_part}
use Rattle.kernel_permute.specs.Positions.{place, product}
use Rattle.kernel_permute.specs.Slicing.{IsPart, shifted, sliced}
use Rattle.kernel_permute.proofs.LawsLemmas.{inserts_each_position, inserts_no_other, keeps_length, slices_each_position}
use Rattle.sial_syntax.specs.Boxes.{volume, place_of, IsTupleOf}
use Rattle.sial_syntax.specs.Spaces.{Extent}
use Rattle.sial_syntax.proofs.BoxLemmas.{place-within}
use Rattle.sial_meaning.specs.LocalStep.{whole_positions}
use Rattle.sial_meaning.specs.Sight.{Sight, all_lie, lengths, lies_on, offsets}
use Rattle.sial_meaning.proofs.AcceptedInOtherWords.Pairs.{never, first-holds, second-holds, both-hold}
use Rattle.exec_sides.specs.Parts.{MetInPart, lies_in, lie_in, starts_in}
use Rattle.exec_sides.proofs.Tuples.{place-is, position-is, volume-is}

-- two tests that hold together
same-test : (a b : Bool) → (a ≡ true → b ≡ true) → (b ≡ true → a ≡ true) → a ≡ b
same-test true true into back = refl
same-test true false into back = absurd (never (into refl))
same-test false true into back = absurd (never (back refl))
same-test false false into back = refl

-- an extent within another begins behind it, and ends before it
within-from : (p w : Extent) → lies_in p w ≡ true → (w.start ≤ p.start) × ((p.start + p.len) ≤ (w.start + w.len))
within-from p w is = (
  leb-true w.start p.start (first-holds (nat_le w.start p.start) (nat_le (p.start + p.len) (w.start + w.len)) is),
  leb-true (p.start + p.len) (w.start + w.len) (second-holds (nat_le w.start p.start) (nat_le (p.start + p.len) (w.start + w.len)) is),
)

-- it begins no further in than the other is long
pub near_in : (p w : Extent) (most : ℕ) → lies_in p w ≡ true → w.len < most → (p.start - w.start) < most
near_in p w most lies short = let both = within-from p w lies in omega (arith, both.0, both.1, short)

-- extents within others are a part of them
pub part-is : (ps ws : List Extent) → lie_in ps ws ≡ true → IsPart (starts_in ps ws) (lengths ps) (lengths ws)
part-is [] [] is = tt
part-is [] (w ∷ ws) is = absurd (never is)
part-is (p ∷ ps) [] is = absurd (never is)
part-is (p ∷ ps) (w ∷ ws) is =
    let here = within-from p w (first-holds (lies_in p w) (lie_in ps ws) is) in
    let low = here.0 in
    let high = here.1 in
    (omega (arith, low, high), part-is ps ws (second-holds (lies_in p w) (lie_in ps ws) is))

-- positions of a part lie on the whole
pub part-lies : (ps ws : List Extent) (tuple : List ℕ) → lie_in ps ws ≡ true → IsTupleOf (lengths ps) tuple → all_lie ws (whole_positions ps tuple) ≡ true
part-lies [] [] tuple is are = refl
part-lies [] (w ∷ ws) tuple is are = absurd (never is)
part-lies (p ∷ ps) [] tuple is are = absurd (never is)
part-lies (p ∷ ps) (w ∷ ws) [] is are = absurd are
part-lies (p ∷ ps) (w ∷ ws) (k ∷ ks) is are =
    let here = within-from p w (first-holds (lies_in p w) (lie_in ps ws) is) in
    let low = here.0 in
    let high = here.1 in
    let below = are.0 in
    let from : w.start ≤ (p.start + k) = omega (arith, low) in
    let under : (p.start + k) < (w.start + w.len) = omega (arith, high, below) in
    both-hold (lies_on w (p.start + k)) (all_lie ws (whole_positions ps ks)) (on w (p.start + k) from under) (part-lies ps ws ks (second-holds (lies_in p w) (lie_in ps ws) is) are.1)
  where
    on : (e : Extent) (q : ℕ) → e.start ≤ q → q < (e.start + e.len) → lies_on e q ≡ true
    on e q low high = grind (arith, nat_tests)

-- their offsets in the whole are shifted
part-offsets : (ps ws : List Extent) (tuple : List ℕ) → lie_in ps ws ≡ true → IsTupleOf (lengths ps) tuple → offsets ws (whole_positions ps tuple) ≡ shifted (starts_in ps ws) tuple
part-offsets [] [] tuple is are = refl
part-offsets [] (w ∷ ws) tuple is are = absurd (never is)
part-offsets (p ∷ ps) [] tuple is are = absurd (never is)
part-offsets (p ∷ ps) (w ∷ ws) [] is are = absurd are
part-offsets (p ∷ ps) (w ∷ ws) (k ∷ ks) is are =
    let low = (within-from p w (first-holds (lies_in p w) (lie_in ps ws) is)).0 in
    let one : (p.start + k) - w.start ≡ (p.start - w.start) + k = omega (arith, low) in
    ap (λ x. x ∷ offsets ws (whole_positions ps ks)) one ∙ ap (λ xs. ((p.start - w.start) + k) ∷ xs) (part-offsets ps ws ks (second-holds (lies_in p w) (lie_in ps ws) is) are.1)

-- a position on an extent
on-from : (e : Extent) (q : ℕ) → lies_on e q ≡ true → (e.start ≤ q) × (q < (e.start + e.len))
on-from e q is =
    let low : e.start ≤ q = leb-true e.start q (first-holds (nat_le e.start q) (nat_lt q (e.start + e.len)) is) in
    let high : q < (e.start + e.len) = leb-true _ _ (second-holds (nat_le e.start q) (nat_lt q (e.start + e.len)) is) in
    (low, high)

-- offsets on a part are a tuple of it, and lead back to the tuple of the whole
back-tuple : (ps ws : List Extent) (tuple : List ℕ) → lie_in ps ws ≡ true → IsTupleOf (lengths ws) tuple → all_lie ps (whole_positions ws tuple) ≡ true
    → IsTupleOf (lengths ps) (offsets ps (whole_positions ws tuple)) × (shifted (starts_in ps ws) (offsets ps (whole_positions ws tuple)) ≡ tuple)
back-tuple [] [] [] is are lie = (tt, refl)
back-tuple [] [] (k ∷ ks) is are lie = absurd are
back-tuple [] (w ∷ ws) tuple is are lie = absurd (never is)
back-tuple (p ∷ ps) [] tuple is are lie = absurd (never is)
back-tuple (p ∷ ps) (w ∷ ws) [] is are lie = absurd are
back-tuple (p ∷ ps) (w ∷ ws) (k ∷ ks) is are lie =
    let low = (within-from p w (first-holds (lies_in p w) (lie_in ps ws) is)).0 in
    let here = on-from p (w.start + k) (first-holds (lies_on p (w.start + k)) (all_lie ps (whole_positions ws ks)) lie) in
    let from = here.0 in
    let under = here.1 in
    let rest = back-tuple ps ws ks (second-holds (lies_in p w) (lie_in ps ws) is) are.1 (second-holds (lies_on p (w.start + k)) (all_lie ps (whole_positions ws ks)) lie) in
    let one : (p.start - w.start) + ((w.start + k) - p.start) ≡ k = omega (arith, low, from) in
    ((omega (arith, from, under), rest.0), ap (λ x. x ∷ shifted (starts_in ps ws) (offsets ps (whole_positions ws ks))) one ∙ ap (λ xs. k ∷ xs) rest.1)

-- a tuple of the whole lies in the part where its positions lie on it
in-part : (ps ws : List Extent) (tuple : List ℕ) → lie_in ps ws ≡ true → IsTupleOf (lengths ws) tuple → is_in_part (starts_in ps ws) (lengths ps) tuple ≡ all_lie ps (whole_positions ws tuple)
in-part [] [] [] is are = refl
in-part [] [] (k ∷ ks) is are = absurd are
in-part [] (w ∷ ws) tuple is are = absurd (never is)
in-part (p ∷ ps) [] tuple is are = absurd (never is)
in-part (p ∷ ps) (w ∷ ws) [] is are = absurd are
in-part (p ∷ ps) (w ∷ ws) (k ∷ ks) is are =
    let low = (within-from p w (first-holds (lies_in p w) (lie_in ps ws) is)).0 in
    let first : nat_le (p.start - w.start) k ≡ nat_le p.start (w.start + k) =
    same-test (nat_le (p.start - w.start) k) (nat_le p.start (w.start + k))
    (λ e. let h = leb-true (p.start - w.start) k e in le-leb p.start (w.start + k) (omega (arith, h, low)))
    (λ e. let h = leb-true p.start (w.start + k) e in le-leb (p.start - w.start) k (omega (arith, h, low))) in
    let second : nat_lt k ((p.start - w.start) + p.len) ≡ nat_lt (w.start + k) (p.start + p.len) =
    same-test (nat_lt k ((p.start - w.start) + p.len)) (nat_lt (w.start + k) (p.start + p.len))
    (λ e. let h : k < ((p.start - w.start) + p.len) = leb-true _ _ e in le-leb _ _ (omega (arith, h, low)))
    (λ e. let h : (w.start + k) < (p.start + p.len) = leb-true _ _ e in le-leb _ _ (omega (arith, h, low))) in
    joined _ _ _ _ _ _ first second (in-part ps ws ks (second-holds (lies_in p w) (lie_in ps ws) is) are.1)
  where
    joined : (a b c d e f : Bool) → a ≡ d → b ≡ e → c ≡ f → (a && b && c) ≡ ((d && e) && f)
    joined true true c d e f first second third = subst (λ x. c ≡ ((x && e) && f)) first (subst (λ x. c ≡ ((true && x) && f)) second third)
    joined true false c d e f first second third = subst (λ x. false ≡ ((x && e) && f)) first (subst (λ x. false ≡ ((true && x) && f)) second refl)
    joined false b c d e f first second third = subst (λ x. false ≡ ((x && e) && f)) first refl

-- no tuple lies in a box without any
no-tuple : (dims tuple : List ℕ) → volume dims ≡ 0 → IsTupleOf dims tuple → ⊥
no-tuple dims tuple none are = let within : place_of dims tuple < volume dims = place-within dims tuple are in absurd (omega (arith, none, within))

-- offsets of positions that lie on extents are a tuple
lying-tuple : (es : List Extent) (ps : List ℕ) → length ps ≡ length es → all_lie es ps ≡ true → IsTupleOf (lengths es) (offsets es ps)
lying-tuple [] ps long lie = tt
lying-tuple (e ∷ es) [] long lie = absurd (never lie)
lying-tuple (e ∷ es) (p ∷ ps) long lie =
    let here = on-from e p (first-holds (lies_on e p) (all_lie es ps) lie) in
    let low = here.0 in
    let high = here.1 in
    (omega (arith, low, high), lying-tuple es ps (omega (arith, long)) (second-holds (lies_on e p) (all_lie es ps) lie))

-- a part taken out
pub slice-meets : (how : How) (to from : Sight) (new : List ℕ) → length to.words ≡ volume (lengths to.extents) → lie_in to.extents from.extents ≡ true
    → new ≡ sliced how (lengths from.extents) (starts_in to.extents from.extents) (lengths to.extents) from.words to.words → MetInPart how to from new
slice-meets how to from new long within is =
    let dims = lengths to.extents in
    let all = lengths from.extents in
    let at = starts_in to.extents from.extents in
    let fits : length to.words ≡ product dims = long ∙ sym (volume-is dims) in
    record {
      inside = λ tuple are lie.
          let law = slices_each_position how all at dims from.words to.words tuple fits (position-is dims tuple are) in
          let there : place all (shifted at tuple) ≡ place_of all (offsets from.extents (whole_positions to.extents tuple)) = place-is all (shifted at tuple) ∙ ap (place_of all) (sym (part-offsets to.extents from.extents tuple within are)) in
          ap (λ x. slice_index x (place_of dims tuple)) is
          ∙ (ap (slice_index (sliced how all at dims from.words to.words)) (sym (place-is dims tuple))
          ∙ (law
          ∙ (ap (λ p. combined how (slice_index to.words p) (slice_index from.words (place all (shifted at tuple)))) (place-is dims tuple)
          ∙ ap (λ p. combined how (slice_index to.words (place_of dims tuple)) (slice_index from.words p)) there)));
      outside = λ tuple are lie. absurd (never (sym lie ∙ part-lies to.extents from.extents tuple within are));
      len = ap length is ∙ keeps_length _ dims to.words fits;
    }

-- a part put in
pub insert-meets : (how : How) (to from : Sight) (new : List ℕ) → length to.words ≡ volume (lengths to.extents) → lie_in from.extents to.extents ≡ true
    → new ≡ inserted how (lengths from.extents) from.words (lengths to.extents) (starts_in from.extents to.extents) to.words → MetInPart how to from new
insert-meets how to from new long within is =
    let dims = lengths to.extents in
    let size = lengths from.extents in
    let at = starts_in from.extents to.extents in
    let fits : length to.words ≡ product dims = long ∙ sym (volume-is dims) in
    record {
      inside = λ tuple are lie.
          let own = offsets from.extents (whole_positions to.extents tuple) in
          let back = back-tuple from.extents to.extents tuple within are lie in
          let law = inserts_each_position how size from.words dims at to.words own (part-is from.extents to.extents within) fits (position-is size own back.0) in
          let there : place dims (shifted at own) ≡ place_of dims tuple = ap (place dims) back.1 ∙ place-is dims tuple in
          ap (λ x. slice_index x (place_of dims tuple)) is
          ∙ (ap (slice_index (inserted how size from.words dims at to.words)) (sym there)
          ∙ (law
          ∙ (ap (λ p. combined how (slice_index to.words p) (slice_index from.words (place size own))) there
          ∙ ap (λ p. combined how (slice_index to.words (place_of dims tuple)) (slice_index from.words p)) (place-is size own))));
      outside = λ tuple are lie.
          let law = inserts_no_other how size from.words dims at to.words tuple fits (position-is dims tuple are) (in-part from.extents to.extents tuple within are ∙ lie) in
          ap (λ x. slice_index x (place_of dims tuple)) is
          ∙ (ap (slice_index (inserted how size from.words dims at to.words)) (sym (place-is dims tuple))
          ∙ (law ∙ ap (slice_index to.words) (place-is dims tuple)));
      len = ap length is ∙ keeps_length _ dims to.words fits;
    }

-- nothing happens to a target without numbers
pub nothing-to-meet : (how : How) (to from : Sight) → length to.words ≡ volume (lengths to.extents) → length to.words ≡ 0 → MetInPart how to from to.words
nothing-to-meet how to from long none = record {
  inside = λ tuple are lie. absurd (no-tuple (lengths to.extents) tuple (sym long ∙ none) are);
  outside = λ tuple are lie. refl;
  len = refl;
}

-- and nothing comes of a source without numbers
pub nothing-meets : (how : How) (to from : Sight) → length to.extents ≡ length from.extents → length from.words ≡ volume (lengths from.extents) → length from.words ≡ 0 → MetInPart how to from to.words
nothing-meets how to from same long none = record {
  inside = λ tuple are lie.
      absurd (no-tuple (lengths from.extents) (offsets from.extents (whole_positions to.extents tuple)) (sym long ∙ none)
      (lying-tuple from.extents (whole_positions to.extents tuple) (whole-as-long to.extents tuple are ∙ same) lie));
  outside = λ tuple are lie. refl;
  len = refl;
}
  where
    whole-as-long : (es : List Extent) (tuple : List ℕ) → IsTupleOf (lengths es) tuple → length (whole_positions es tuple) ≡ length es
    whole-as-long [] tuple are = refl
    whole-as-long (e ∷ es) [] are = absurd are
    whole-as-long (e ∷ es) (k ∷ ks) are = let rest : length (whole_positions es ks) ≡ length es = whole-as-long es ks are.1 in omega (arith, rest)

-- arrays that hold a part
pub part-arrays : (ps ws : List Extent) (at size dims : List ℕ) → lie_in ps ws ≡ true → at ≡ starts_in ps ws → size ≡ lengths ps → dims ≡ lengths ws → IsPart at size dims
part-arrays ps ws at size dims within at-is size-is dims-is =
    subst (λ (x : List ℕ). IsPart x size dims) (sym at-is)
    (subst (λ (x : List ℕ). IsPart (starts_in ps ws) x dims) (sym size-is)
    (subst (λ (x : List ℕ). IsPart (starts_in ps ws) (lengths ps) x) (sym dims-is) (part-is ps ws within)))

-- a part taken out by them
pub slice-arrays : (how : How) (to from : Sight) (new at size dims : List ℕ) → length to.words ≡ volume (lengths to.extents) → lie_in to.extents from.extents ≡ true
    → at ≡ starts_in to.extents from.extents → size ≡ lengths to.extents → dims ≡ lengths from.extents → new ≡ sliced how dims at size from.words to.words → MetInPart how to from new
slice-arrays how to from new at size dims long within at-is size-is dims-is is =
    slice-meets how to from new long within
    (is ∙ (ap (λ x. sliced how x at size from.words to.words) dims-is
    ∙ (ap (λ x. sliced how (lengths from.extents) x size from.words to.words) at-is
    ∙ ap (λ x. sliced how (lengths from.extents) (starts_in to.extents from.extents) x from.words to.words) size-is)))

-- a part put in by them
pub insert-arrays : (how : How) (to from : Sight) (new at size dims : List ℕ) → length to.words ≡ volume (lengths to.extents) → lie_in from.extents to.extents ≡ true
    → at ≡ starts_in from.extents to.extents → size ≡ lengths from.extents → dims ≡ lengths to.extents → new ≡ inserted how size from.words dims at to.words → MetInPart how to from new
insert-arrays how to from new at size dims long within at-is size-is dims-is is =
    insert-meets how to from new long within
    (is ∙ (ap (λ x. inserted how x from.words dims at to.words) size-is
    ∙ (ap (λ x. inserted how (lengths from.extents) from.words x at to.words) dims-is
    ∙ ap (λ x. inserted how (lengths from.extents) from.words (lengths to.extents) x to.words) at-is)))
