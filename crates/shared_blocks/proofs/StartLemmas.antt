-- The input's blocks of served arrays put down over zeros.
use Rattle.std.proofs.Common.{◌≡◌, ◌≢◌, ℕ, ◌+◌, ◌<◌, List, [], ◌∷◌, length, slice_index_or, slice_set, true, false, cond, ◌==◌, ◌&&◌, Option, Some, None, refl, sym, ap, ◌∙◌, subst, eqb-true}
use Rattle.std.proofs.lemmas.Bool.{eq-eqb}
use Rattle.std.proofs.lemmas.List.{get_or-set_other, get_or-set_same}
use Rattle.std.specs.Prelude.{find}
use Rattle.std.specs.List.{list_any}
use Rattle.sial_syntax.specs.declared.array.ArrayKind.{ArrayKind}
use Rattle.sial_syntax.specs.declared.array.ArrayKind.TheVariants.{Static, Temp, Local, Distributed, Served}
use Rattle.sial_meaning.specs.Own.{given_or, start_block}
use Rattle.sial_meaning.specs.Setting.{Setting, Given, array_kind, first_of_class}
use Rattle.sial_meaning.specs.Sound.{IsSound, given_twice, is_start, same_given}
use Rattle.sial_meaning.proofs.AcceptedInOtherWords.Pairs.{first-holds, second-holds}
use Rattle.sial_meaning.proofs.StepsReachTheFold.Rules.{neither}
use Rattle.exec_blocks.specs.Starting.{AreGiven, is_at}
use Rattle.exec_blocks.proofs.PlaceLemmas.{places-differ}
use Rattle.exec_blocks.proofs.StartLemmas.{given-below, given-rest}
use Rattle.shared_blocks.specs.Standing.{AreWhole}
use Rattle.shared_blocks.specs.Starting.{AreStartBut}
use Rattle.shared_blocks.proofs.SetLemmas.{whole-set, within}

-- a block that is given once isn't given again
find-none : (left : List Given) (b : Given) (a n : ℕ) → list_any (same_given b) left ≡ false → b.array ≡ a → b.number ≡ n → find (is_at a n) left ≡ None
find-none [] b a n once is-a is-n = refl
find-none (x ∷ xs) b a n once is-a is-n =
    let parts = neither (same_given b x) (list_any (same_given b) xs) once in
    elim (is_at a n x) as (λ t. is_at a n x ≡ t → cond t (Some x) (find (is_at a n) xs) ≡ None) [
      | true ↦ λ e.
          let xa : x.array ≡ a = eqb-true x.array a (first-holds (x.array == a) (x.number == n) e) in
          let xn : x.number ≡ n = eqb-true x.number n (second-holds (x.array == a) (x.number == n) e) in
          let one : (b.array == x.array) ≡ true = eq-eqb b.array x.array (is-a ∙ sym xa) in
          let two : (b.number == x.number) ≡ true = eq-eqb b.number x.number (is-n ∙ sym xn) in
          let same : same_given b x ≡ true = ap (λ t. t && (b.number == x.number)) one ∙ two in
          absurd (cc (same, parts.0))
      | false ↦ λ e. find-none xs b a n parts.1 is-a is-n
    ] refl

-- one of a served array is put down
start-put : (g : Setting) (blocks : List (List ℕ)) (b : Given) (left : List Given) → array_kind g b.array ≡ Served → is_start g b ≡ true → AreGiven g (b ∷ left) → AreWhole g Served blocks
    → AreStartBut g blocks (b ∷ left) → AreStartBut g (slice_set blocks (first_of_class g b.array + b.number) b.words) left
start-put g blocks b left is fits given whole start = λ a n kind under.
    let place = first_of_class g b.array + b.number in
    let inside : place < length blocks = within g Served blocks b.array b.number refl is (given-below g b fits).0 whole in
    let was = start a n kind under in
    elim (is_at a n b) as (λ t. is_at a n b ≡ t → given_or (find (is_at a n) left) (slice_index_or (slice_set blocks place b.words) (first_of_class g a + n) []) ≡ start_block g a n) [
      | true ↦ λ e.
          let ba : b.array ≡ a = eqb-true b.array a (first-holds (b.array == a) (b.number == n) e) in
          let bn : b.number ≡ n = eqb-true b.number n (second-holds (b.array == a) (b.number == n) e) in
          let found : find (is_at a n) (b ∷ left) ≡ Some b = ap (λ t. cond t (Some b) (find (is_at a n) left)) e in
          let words : b.words ≡ start_block g a n = sym (ap (λ (o : Option Given). given_or o (slice_index_or blocks (first_of_class g a + n) [])) found) ∙ was in
          let none : find (is_at a n) left ≡ None = find-none left b a n (neither (list_any (same_given b) left) (given_twice left) given.once).0 ba bn in
          let there : first_of_class g a + n ≡ place = ap (λ x. first_of_class g x + n) (sym ba) ∙ ap (λ x. first_of_class g b.array + x) (sym bn) in
          ap (λ (o : Option Given). given_or o (slice_index_or (slice_set blocks place b.words) (first_of_class g a + n) [])) none
          ∙ (ap (λ k. slice_index_or (slice_set blocks place b.words) k []) there ∙ (get_or-set_same blocks place b.words [] inside ∙ words))
      | false ↦ λ e.
          let skip : find (is_at a n) (b ∷ left) ≡ find (is_at a n) left = ap (λ t. cond t (Some b) (find (is_at a n) left)) e in
          let apart : a ≡ b.array → n ≢ b.number = λ ab nb.
          let at : is_at a n b ≡ true = ap (λ t. t && (b.number == n)) (eq-eqb b.array a (sym ab)) ∙ eq-eqb b.number n (sym nb) in
          absurd (cc (at, e)) in
          let elsewhere = places-differ g Served b.array b.number a n refl is kind (given-below g b fits).0 under apart in
          ap (given_or (find (is_at a n) left)) (get_or-set_other blocks place (first_of_class g a + n) b.words [] elsewhere)
          ∙ (sym (ap (λ (o : Option Given). given_or o (slice_index_or blocks (first_of_class g a + n) [])) skip) ∙ was)
    ] refl

-- one of another array isn't
start-skip : (g : Setting) (blocks : List (List ℕ)) (b : Given) (left : List Given) → (array_kind g b.array ≡ Served → ⊥) → AreStartBut g blocks (b ∷ left) → AreStartBut g blocks left
start-skip g blocks b left other start = λ a n kind under.
    let was = start a n kind under in
    elim (is_at a n b) as (λ t. is_at a n b ≡ t → given_or (find (is_at a n) left) (slice_index_or blocks (first_of_class g a + n) []) ≡ start_block g a n) [
      | true ↦ λ e. absurd (other (ap (array_kind g) (eqb-true b.array a (first-holds (b.array == a) (b.number == n) e)) ∙ kind))
      | false ↦ λ e.
          let skip : find (is_at a n) (b ∷ left) ≡ find (is_at a n) left = ap (λ t. cond t (Some b) (find (is_at a n) left)) e in
          sym (ap (λ (o : Option Given). given_or o (slice_index_or blocks (first_of_class g a + n) [])) skip) ∙ was
    ] refl

-- given blocks are being put down one after another
pub record Starting (g : Setting) (begun now : List (List ℕ)) (left : List Given) : Type 0 where
  pub whole : AreWhole g Served now
  pub start : AreStartBut g begun g.blocks → AreStartBut g now left
  pub given : AreGiven g left

-- none was
pub starting-none : (g : Setting) (blocks : List (List ℕ)) (left : List Given) → IsSound g → left ≡ g.blocks → AreWhole g Served blocks → Starting g blocks blocks left
starting-none g blocks left sound are whole = record {
  whole = whole;
  start = λ start. subst (λ (bs : List Given). AreStartBut g blocks bs) (sym are) start;
  given = subst (λ (bs : List Given). AreGiven g bs) (sym are) (record { all = sound.blocks; once = sound.once });
}

-- the words of a given block are as many as the block has
pub given-long : (g : Setting) (blocks : List (List ℕ)) (b : Given) → array_kind g b.array ≡ Served → is_start g b ≡ true → AreWhole g Served blocks → length b.words ≡ length (slice_index_or blocks (first_of_class g b.array + b.number) [])
given-long g blocks b is fits whole = (given-below g b fits).1 ∙ sym (whole.words b.array b.number is (given-below g b fits).0)

-- the next one is where it is served, and isn't where it is of another array
pub starting-next : (g : Setting) (begun now after : List (List ℕ)) (b : Given) (left : List Given) → is_start g b ≡ true → (array_kind g b.array ≡ Served → after ≡ slice_set now (first_of_class g b.array + b.number) b.words)
    → ((array_kind g b.array ≡ Served → ⊥) → after ≡ now) → Starting g begun now (b ∷ left) → Starting g begun after left
starting-next g begun now after b left fits put other was = by (array_kind g b.array) refl
  where
    skip : (array_kind g b.array ≡ Served → ⊥) → Starting g begun after left
    skip not = rw (other not) (record {
      whole = was.whole;
      start = λ start. start-skip g now b left not (was.start start);
      given = given-rest g b left was.given;
    })

    by : (kind : ArrayKind) → array_kind g b.array ≡ kind → Starting g begun after left
    by Static is = skip (λ e. absurd (cc (is, e)))
    by Temp is = skip (λ e. absurd (cc (is, e)))
    by Local is = skip (λ e. absurd (cc (is, e)))
    by Distributed is = skip (λ e. absurd (cc (is, e)))
    by Served is = rw (put is) (record {
      whole =
          whole-set g Served now (first_of_class g b.array + b.number) b.words (within g Served now b.array b.number refl is (given-below g b fits).0 was.whole) (given-long g now b is fits was.whole) was.whole;
      start = λ start. start-put g now b left is fits was.given was.whole (was.start start);
      given = given-rest g b left was.given;
    })
