-- Runs of slots that are equally wide.
use Rattle.std.proofs.Common.{◌≡◌, ℕ, zero, suc, ◌+◌, ◌-◌, ◌*◌, ◌<◌, ◌≤◌, List, [], ◌∷◌, ◌++◌, length, map, get_or, take, drop, replicate, refl, ap, sym, ◌∙◌, arith, length-append, append_assoc, append-nil}
use Rattle.std.proofs.Math.Nat.{suc-mul, zero-mul}
use Rattle.std.proofs.lemmas.List.{length-replicate, get_or_append_left, get_or-append_right, get_or-replicate, take-append-le, take-replicate, drop-replicate, drop_more, map-append}
use Rattle.block_pool.specs.declared.runs.Run.{Run}
use Rattle.block_pool.specs.Opened.{classes_from, zeros_of}
use Rattle.block_pool.specs.Cut.{total, cut}
use Rattle.block_pool.specs.Runs.{widths_of}
use Rattle.block_pool.proofs.CutLemmas.{total_within}
use Rattle.block_pool.proofs.OpenedLemmas.{map-replicate}

-- equal widths
pub total-replicate : (n width : ℕ) → total (replicate n width) ≡ n * width
total-replicate zero width = omega (arith, zero-mul width)
total-replicate (suc n) width = omega (arith, total-replicate n width, suc-mul n width)

-- widths after others
pub total-append : (xs ys : List ℕ) → total (xs ++ ys) ≡ total xs + total ys
total-append [] ys = omega arith
total-append (x ∷ xs) ys = omega (arith, total-append xs ys)

-- a front that goes on into the second list
take-append-add : (xs ys : List ℕ) (n : ℕ) → take (length xs + n) (xs ++ ys) ≡ xs ++ take n ys
take-append-add [] ys n = ap (λ k. take k ys) (omega arith)
take-append-add (x ∷ xs) ys n =
    let more : suc (length xs) + n ≡ suc (length xs + n) = omega arith in
    ap (λ k. take k (x ∷ (xs ++ ys))) more ∙ ap (λ r. x ∷ r) (take-append-add xs ys n)

module _ (run : Run) (runs : List Run) where
  -- as many slots
  pub length-widths_of : length (widths_of (run ∷ runs)) ≡ run.count + length (widths_of runs)
  length-widths_of = length-append (replicate run.count run.width) (widths_of runs) ∙ ap (λ n. n + length (widths_of runs)) (length-replicate run.count run.width)

  -- as many words
  pub total-widths_of : total (widths_of (run ∷ runs)) ≡ run.count * run.width + total (widths_of runs)
  total-widths_of = total-append (replicate run.count run.width) (widths_of runs) ∙ ap (λ n. n + total (widths_of runs)) (total-replicate run.count run.width)

  -- words before a slot of the first run
  pub start_inside : (slot : ℕ) → slot < run.count → total (take slot (widths_of (run ∷ runs))) ≡ slot * run.width
  start_inside slot low =
      ap total (take-append-le slot (replicate run.count run.width) (widths_of runs) (omega (arith, length-replicate {A = ℕ} run.count run.width)) ∙ take-replicate slot run.count run.width (omega arith))
      ∙ total-replicate slot run.width

  -- how wide it is
  pub width_inside : (slot : ℕ) → slot < run.count → get_or (widths_of (run ∷ runs)) slot 0 ≡ run.width
  width_inside slot low =
      get_or_append_left (replicate run.count run.width) (widths_of runs) 0 slot (omega (arith, length-replicate {A = ℕ} run.count run.width))
      ∙ get_or-replicate run.count slot run.width 0 low

  -- words before a slot of a later run
  pub start_past : (slot : ℕ) → run.count ≤ slot → total (take slot (widths_of (run ∷ runs))) ≡ run.count * run.width + total (take (slot - run.count) (widths_of runs))
  start_past slot high =
      let at : slot ≡ length (replicate run.count run.width) + (slot - run.count) = omega (arith, length-replicate {A = ℕ} run.count run.width) in
      ap (λ n. total (take n (widths_of (run ∷ runs)))) at
      ∙ ap total (take-append-add (replicate run.count run.width) (widths_of runs) (slot - run.count))
      ∙ total-append (replicate run.count run.width) (take (slot - run.count) (widths_of runs))
      ∙ ap (λ n. n + total (take (slot - run.count) (widths_of runs))) (total-replicate run.count run.width)

  -- how wide it is
  pub width_past : (slot : ℕ) → run.count ≤ slot → get_or (widths_of (run ∷ runs)) slot 0 ≡ get_or (widths_of runs) (slot - run.count) 0
  width_past slot high = get_or-append_right (replicate run.count run.width) (widths_of runs) run.count slot 0 (length-replicate run.count run.width) high

-- one run more
pub widths_of-push : (runs : List Run) (run : Run) → widths_of (runs ++ run ∷ []) ≡ widths_of runs ++ replicate run.count run.width
widths_of-push [] run = append-nil (replicate run.count run.width)
widths_of-push (first ∷ runs) run =
    ap (λ r. replicate first.count first.width ++ r) (widths_of-push runs run) ∙ sym (append_assoc (replicate first.count first.width) (widths_of runs) (replicate run.count run.width))

-- zeros at first
zeros-cut : (widths : List ℕ) → cut widths (replicate (total widths) 0) ≡ map (λ width. replicate width 0) widths
zeros-cut [] = refl
zeros-cut (width ∷ widths) =
    let rest : drop width (replicate (width + total widths) 0) ≡ replicate (total widths) 0 =
    drop-replicate width (width + total widths) 0 ∙ ap (λ n. replicate n 0) (omega arith) in
    ap (λ r. r ∷ cut widths (drop width (replicate (width + total widths) 0))) (take-replicate width (width + total widths) 0 (omega arith))
    ∙ ap (λ ws. replicate width 0 ∷ cut widths ws) rest
    ∙ ap (λ r. replicate width 0 ∷ r) (zeros-cut widths)

-- zeros of each class's width
zeros_of-map : (widths classes : List ℕ) → map (λ width. replicate width 0) (map (λ class. get_or widths class 0) classes) ≡ zeros_of widths classes
zeros_of-map widths [] = refl
zeros_of-map widths (class ∷ classes) = ap (λ r. replicate (get_or widths class 0) 0 ∷ r) (zeros_of-map widths classes)

-- so the slots of each class are zeros at first, as many as it is wide
pub zeros_at_first : (widths classes now : List ℕ) → now ≡ map (λ class. get_or widths class 0) classes → cut now (replicate (total now) 0) ≡ zeros_of widths classes
zeros_at_first widths classes now is = zeros-cut now ∙ (ap (map (λ width. replicate width 0)) is ∙ zeros_of-map widths classes)

-- on the way to a slot: so many words stand before the runs that are left, and it is the slot at this place of them
module _ (runs : List Run) (at slot left start : ℕ) (d : Run) (low : at < length runs) (known : slot < length (widths_of runs)) (within : left < length (widths_of (drop at runs)))
    (before : start + total (take left (widths_of (drop at runs))) ≡ total (take slot (widths_of runs))) (width : get_or (widths_of (drop at runs)) left 0 ≡ get_or (widths_of runs) slot 0)
    (all : start + total (widths_of (drop at runs)) ≡ total (widths_of runs)) where
  -- the next run
  abbrev run : Run
  run = get_or runs at d

  -- and those behind it
  abbrev rest : List Run
  rest = drop (at + 1) runs

  -- are all that is left
  here : drop at runs ≡ run ∷ rest
  here = drop_more runs at d low

  -- the slot is one of the run's
  pub found_start : left < run.count → start + left * run.width ≡ total (take slot (widths_of runs))
  found_start low = omega (arith, rw here at before, start_inside run rest left low)

  -- it ends where a slot of its width does
  pub found_end : left < run.count → start + left * run.width + run.width ≡ total (take slot (widths_of runs)) + get_or (widths_of runs) slot 0
  found_end low = omega (arith, found_start low, rw here at width, width_inside run rest left low)

  -- which is within all words
  pub found_within : left < run.count → start + left * run.width + run.width ≤ total (widths_of runs)
  found_within low = omega (arith, found_end low, total_within (widths_of runs) slot known)

  -- so is the end of the run
  pub run_within : start + run.count * run.width ≤ total (widths_of runs)
  run_within = omega (arith, rw here at all, total-widths_of run rest)

  -- the slot stands behind the run
  pub next_within : run.count ≤ left → left - run.count < length (widths_of rest)
  next_within high = omega (arith, rw here at within, length-widths_of run rest)

  -- so many words stand before it still
  pub next_before : run.count ≤ left → start + run.count * run.width + total (take (left - run.count) (widths_of rest)) ≡ total (take slot (widths_of runs))
  next_before high = omega (arith, rw here at before, start_past run rest left high)

  -- it is as wide
  pub next_width : run.count ≤ left → get_or (widths_of rest) (left - run.count) 0 ≡ get_or (widths_of runs) slot 0
  next_width high = sym (width_past run rest left high) ∙ rw here at width

  -- all words are as many
  pub next_all : start + run.count * run.width + total (widths_of rest) ≡ total (widths_of runs)
  next_all = omega (arith, rw here at all, total-widths_of run rest)

-- the words of one run more
pub counted : (runs : List Run) (at count now : ℕ) (d : Run) → at < length runs → count + total (widths_of (drop at runs)) ≡ total (widths_of runs)
    → now ≡ (get_or runs at d).count * (get_or runs at d).width + count → now + total (widths_of (drop (at + 1) runs)) ≡ total (widths_of runs)
counted runs at count now d low before more =
    let here : drop at runs ≡ get_or runs at d ∷ drop (at + 1) runs = drop_more runs at d low in
    omega (arith, more, rw here at before, total-widths_of (get_or runs at d) (drop (at + 1) runs))

-- a run for one class more
pub run_added : (runs : List Run) (run : Run) (counts : List ℕ) (width : ℕ → ℕ) (at : ℕ) (all : List ℕ) → at < length counts → run.count ≡ get_or counts at 0 → run.width ≡ width at
    → widths_of runs ++ map width (classes_from at (drop at counts)) ≡ all → widths_of (runs ++ run ∷ []) ++ map width (classes_from (at + 1) (drop (at + 1) counts)) ≡ all
run_added runs run counts width at all low many wide before =
    let behind : List ℕ = map width (classes_from (at + 1) (drop (at + 1) counts)) in
    let here : map width (classes_from at (drop at counts)) ≡ replicate run.count run.width ++ behind =
    ap (λ r. map width (classes_from at r)) (drop_more counts at 0 low)
    ∙ map-append width (replicate (get_or counts at 0) at) (classes_from (at + 1) (drop (at + 1) counts))
    ∙ ap (λ r. r ++ behind) (map-replicate width (get_or counts at 0) at ∙ rw (← many, ← wide) refl) in
    ap (λ r. r ++ behind) (widths_of-push runs run) ∙ append_assoc (widths_of runs) (replicate run.count run.width) behind ∙ ap (λ r. widths_of runs ++ r) (sym here) ∙ before
