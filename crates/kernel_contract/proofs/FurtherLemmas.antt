-- A sum whose parts meet the target one after the other.
use Rattle.std.proofs.Common.{◌≡◌, ℕ, ◌+◌, ◌-◌, ◌*◌, ◌%◌, ◌^◌, ◌<◌, List, get_or, ap, sym, ◌∙◌, arith}
use Rattle.std.proofs.Math.Nat.{add-mod-mod, mod-add-mod}
use Rattle.kernel_permute.specs.How.{combined}
use Rattle.kernel_permute.specs.declared.how.How.{How}
use Rattle.kernel_contract.specs.Panels.{ArePanels, column_entry}
use Rattle.kernel_contract.specs.Parts.{Replaced, term_at}
use Rattle.kernel_contract.specs.Positions.{offset_a, offset_b}
use Rattle.kernel_contract.specs.Sum.{sum_to}
use Rattle.kernel_contract.specs.Walks.{IsRun, position_at}
use Rattle.kernel_contract.specs.declared.axis.Axis.{Axis}
use Rattle.kernel_contract.specs.declared.run.Run.{Run}
use Rattle.kernel_contract.proofs.Numbers.{mod_both}
use Rattle.kernel_contract.proofs.SourceLemmas.{known-add}
use Rattle.kernel_contract.proofs.Sums.{sum_to-add, sum_to-cong}

-- what one part adds and the next one adds
pub added_twice : (old value more : ℕ) → ((old + value) % 2 ^ 64 + more) % 2 ^ 64 ≡ (old + (value + more) % 2 ^ 64) % 2 ^ 64
added_twice old value more =
    let shape : old + value + more ≡ old + (value + more) = omega arith in
    mod-add-mod (old + value) (2 ^ 64) more ∙ ap (λ t. t % 2 ^ 64) shape ∙ sym (add-mod-mod old (value + more) (2 ^ 64))

-- what one part takes away and the next one takes away
pub taken_twice : (old value more : ℕ) → value < 2 ^ 64 → more < 2 ^ 64
    → ((old + (2 ^ 64 - value)) % 2 ^ 64 + (2 ^ 64 - more)) % 2 ^ 64 ≡ (old + (2 ^ 64 - (value + more) % 2 ^ 64)) % 2 ^ 64
taken_twice old value more low small = omega arith

-- so each part may meet the target by itself
pub Replaced-more : (how further : How) (T V W U : ℕ → ℕ → ℕ) (m n : ℕ) (old mid new : List ℕ)
    → ((i j x : ℕ) → i < m → j < n → combined further (combined how x (V i j)) (W i j) ≡ combined how x (U i j))
    → Replaced how T V m n old mid → Replaced further T W m n mid new → Replaced how T U m n old new
Replaced-more how further T V W U m n old mid new meet first second = record {
  named = λ i j row column.
      second.named i j row column
      ∙ ap (λ t. combined further t (W i j)) (first.named i j row column)
      ∙ meet i j (get_or old (T i j) 0) row column;
  others = λ k h. second.others k h ∙ first.others k h;
  len = second.len ∙ first.len;
}

-- the sum over a part is the sum of its terms
pub part_terms : {N : ℕ} (a b : List ℕ) (axes : List Axis) (p : ℕ) (columns : List ℕ) (first count j : ℕ) (part : Run N) (panels : List (List (List ℕ)))
    → IsRun axes first part → ArePanels b columns part.b count part.len panels → j < count
    → sum_to part.len (λ k. get_or a ((get_or part.a k 0 + p) % 2 ^ 64) 0 * column_entry panels k j)
    ≡ sum_to part.len (λ k. term_at a b axes p (get_or columns j 0) (first + k))
part_terms a b axes p columns first count j part panels run are inside =
    sum_to-cong part.len (λ k. get_or a ((get_or part.a k 0 + p) % 2 ^ 64) 0 * column_entry panels k j) (λ k. term_at a b axes p (get_or columns j 0) (first + k))
    (λ k low.
    let q : ℕ = get_or columns j 0 in
    let in_a = known-add (get_or part.a k 0) (offset_a axes (position_at axes (first + k))) p (run.a k low) in
    let in_b = known-add (get_or part.b k 0) (offset_b axes (position_at axes (first + k))) q (run.b k low) in
    let turned_a : offset_a axes (position_at axes (first + k)) + p ≡ p + offset_a axes (position_at axes (first + k)) = omega arith in
    let turned_b : offset_b axes (position_at axes (first + k)) + q ≡ q + offset_b axes (position_at axes (first + k)) = omega arith in
    let left = ap (λ t. get_or a t 0) (in_a ∙ ap (λ t. t % 2 ^ 64) turned_a) in
    let right = are k j low inside ∙ ap (λ t. get_or b t 0) (in_b ∙ ap (λ t. t % 2 ^ 64) turned_b) in
    rw (left, right))

-- sums of two parts, modulo 2^64
pub parts_sum : (f : ℕ → ℕ) (n m : ℕ) → (sum_to n f % 2 ^ 64 + sum_to m (λ k. f (n + k)) % 2 ^ 64) % 2 ^ 64 ≡ sum_to (n + m) f % 2 ^ 64
parts_sum f n m = mod_both (sum_to n f) (sum_to m (λ k. f (n + k))) (2 ^ 64) ∙ ap (λ t. t % 2 ^ 64) (sym (sum_to-add n m f))

-- the sum over a first part, of which none came before
pub part_of_all : (f : ℕ → ℕ) (before after : ℕ) → before ≡ 0 → sum_to (after - before) (λ k. f (before + k)) % 2 ^ 64 ≡ sum_to after f % 2 ^ 64
part_of_all f before after none =
    let len : after - before ≡ after = omega arith in
    ap (λ t. t % 2 ^ 64)
    (ap (λ n. sum_to n (λ k. f (before + k))) len
    ∙ sum_to-cong after (λ k. f (before + k)) f (λ k low. let at : before + k ≡ k = omega arith in ap f at))
