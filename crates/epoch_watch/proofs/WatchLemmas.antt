-- A watch stands for its accesses, one by one.
use Rattle.std.proofs.Common.{◌≡◌, ℕ, ◌<◌, ◌≤◌, ◌+◌, true, false, List, [], ◌∷◌, ◌++◌, Option, Some, None, length, refl, sym, ap, subst, ◌∙◌, arith}
use Rattle.std.proofs.lemmas.Bool.{eqb-true, eq-eqb}
use Rattle.std.proofs.lemmas.List.{length-append, get_or-set_same, get_or-set_other}
use Rattle.std.proofs.lemmas.List.Elements.{All-push}
use Rattle.std.proofs.lemmas.List.Quantifiers.{all_pairs_push}
use Rattle.std.specs.Prelude.{All, AllPairs, slice_index_or, slice_set, ◌==◌, ◌&&◌, if◌then◌else◌}
use Rattle.access_marks.specs.Marks.{mark_at}
use Rattle.epoch_watch.specs.Watching.{Watched, Watches, marks_of, with_marks, touch, marks_after}
use Rattle.sial_meaning.proofs.AcceptedInOtherWords.Marks.{marks-find-first-clash}
use Rattle.sial_meaning.proofs.AcceptedInOtherWords.Pairs.{class-is, never}
use Rattle.sial_meaning.specs.Access.{Touch, Found, Mark, first_clash, clash_of, mark_after}
use Rattle.sial_meaning.specs.MarkLaws.{Marks, no_marks, marked, found_or, marks_find, NeverFalls}
use Rattle.sial_meaning.specs.State.{Epochs, epoch_of}
use Rattle.sial_meaning.specs.declared.clash.Clash.{Clash}
use Rattle.sial_syntax.specs.Spaces.{same_class}
use Rattle.sial_syntax.specs.declared.access.Access.{Access}
use Rattle.sial_syntax.specs.declared.access.Class.{Class}
use Rattle.sial_syntax.specs.declared.access.Class.TheVariants.{Distributed, Served}

-- what a search finds later doesn't change that it found nothing before
or-later : (t : Touch) (clash : Option Clash) (later : Option Found) → found_or t clash later ≡ None → (clash ≡ None) × (later ≡ None)
or-later t None later e = (refl, e)
or-later t (Some clash) later e = absurd cc

-- one access more, where none clashed before, is judged by the marks after those before
pub find-next : (marks : Marks) (log : List Touch) (t : Touch) → marks_find marks log ≡ None → marks_find marks (log ++ t ∷ []) ≡ found_or t (clash_of (marks_after marks log t.class t.block) t.epoch t.kind t.line) None
find-next marks [] t quiet = refl
find-next marks (u ∷ us) t quiet =
    let parts = or-later u (clash_of (marks u.class u.block) u.epoch u.kind u.line) (marks_find (marked marks u) us) quiet in
    ap (λ c. found_or u c (marks_find (marked marks u) (us ++ t ∷ []))) parts.0 ∙ find-next (marked marks u) us t parts.1

-- the marks after one access more
pub after-next : (marks : Marks) (log : List Touch) (t : Touch) (class : Class) (block : ℕ) → marks_after marks (log ++ t ∷ []) class block ≡ marked (marks_after marks log) t class block
after-next marks [] t class block = refl
after-next marks (u ∷ us) t class block = after-next (marked marks u) us t class block

-- one block's mark changed
set-mark : (ms : List (Option Mark)) (block b : ℕ) (f : Option Mark → Mark) → block < length ms
    → mark_at (slice_set ms block (Some (f (mark_at ms block)))) b ≡ (if block == b then Some (f (mark_at ms b)) else mark_at ms b)
set-mark ms block b f low =
    elim (block == b) as (λ x. (block == b) ≡ x → mark_at (slice_set ms block (Some (f (mark_at ms block)))) b ≡ (if x then Some (f (mark_at ms b)) else mark_at ms b)) [
      | true ↦ λ e.
          subst (λ y. mark_at (slice_set ms block (Some (f (mark_at ms block)))) y ≡ Some (f (mark_at ms y))) (eqb-true block b e)
          (get_or-set_same ms block (Some (f (mark_at ms block))) None low)
      | false ↦ λ e. get_or-set_other ms block b (Some (f (mark_at ms block))) None (λ same. never (sym e ∙ eq-eqb block b (sym same)))
    ] refl

-- in one class, and in the other none
set-marks : (w : Watched) (class c : Class) (block b : ℕ) (f : Option Mark → Mark) → block < length (marks_of w class)
    → mark_at (marks_of (with_marks w class (slice_set (marks_of w class) block (Some (f (mark_at (marks_of w class) block))))) c) b
    ≡ (if same_class class c && (block == b) then Some (f (mark_at (marks_of w c) b)) else mark_at (marks_of w c) b)
set-marks w Distributed Distributed block b f low = set-mark w.distributed block b f low
set-marks w Distributed Served block b f low = refl
set-marks w Served Distributed block b f low = refl
set-marks w Served Served block b f low = set-mark w.served block b f low

-- the epochs of a log and one access more never fall
order-next : (epochs : Epochs) (log : List Touch) (class : Class) (block : ℕ) (kind : Access) (line : ℕ) → AllPairs NeverFalls log → All (λ (t : Touch). t.epoch ≤ epoch_of epochs t.class) log
    → AllPairs NeverFalls (log ++ touch epochs class block kind line ∷ [])
order-next epochs log class block kind line order past =
    all_pairs_push NeverFalls log (touch epochs class block kind line) order (λ k d below same.
    subst (λ c. (slice_index_or log k d).epoch ≤ epoch_of epochs c) (class-is (slice_index_or log k d).class class same) (past k d below))

-- what the mark of an access says of the log with it
judged : (w : Watched) (epochs : Epochs) (log : List Touch) (class : Class) (block : ℕ) (kind : Access) (line : ℕ) → Watches w epochs log
    → first_clash [] (log ++ touch epochs class block kind line ∷ [])
    ≡ found_or (touch epochs class block kind line) (clash_of (mark_at (marks_of w class) block) (epoch_of w.epochs class) kind line) None
judged w epochs log class block kind line st =
    let t = touch epochs class block kind line in
    sym (marks-find-first-clash (log ++ t ∷ []) (order-next epochs log class block kind line st.in_order st.past))
    ∙ find-next no_marks log t (marks-find-first-clash log st.in_order ∙ st.clear)
    ∙ ap (λ (m : Option Mark). found_or t (clash_of m (epoch_of epochs class) kind line) None) (sym (st.marks class block))
    ∙ ap (λ (e : Epochs). found_or t (clash_of (mark_at (marks_of w class) block) (epoch_of e class) kind line) None) (sym st.epochs_are)

-- an access that its block's mark refuses is the first of the log that clashes
pub refused-clashes : (w : Watched) (epochs : Epochs) (log : List Touch) (class : Class) (block : ℕ) (kind : Access) (line : ℕ) (clash : Clash)
    → clash_of (mark_at (marks_of w class) block) (epoch_of w.epochs class) kind line ≡ Some clash → Watches w epochs log
    → first_clash [] (log ++ touch epochs class block kind line ∷ []) ≡ Some (record { class = class; block = block; epoch = epoch_of w.epochs class; clash = clash })
refused-clashes w epochs log class block kind line clash is st =
    judged w epochs log class block kind line st
    ∙ ap (λ (c : Option Clash). found_or (touch epochs class block kind line) c None) is
    ∙ ap (λ (e : Epochs). Some (record { class = class; block = block; epoch = epoch_of e class; clash = clash })) (sym st.epochs_are)

-- the marks of a class after an access that its block's mark grants
abbrev pub marks-noted : Watched → Class → (block : ℕ) → Access → (line : ℕ) → List (Option Mark)
marks-noted w class block kind line = slice_set (marks_of w class) block (Some (mark_after (mark_at (marks_of w class) block) (epoch_of w.epochs class) kind line))

-- the watch with them
abbrev pub noted : Watched → Class → (block : ℕ) → Access → (line : ℕ) → Watched
noted w class block kind line = with_marks w class (marks-noted w class block kind line)

-- marks don't change epochs
same-epochs : (w : Watched) (class : Class) (marks : List (Option Mark)) → (with_marks w class marks).epochs ≡ w.epochs
same-epochs w Distributed marks = refl
same-epochs w Served marks = refl

-- nor the count
pub same-count : (w : Watched) (class : Class) (marks : List (Option Mark)) → (with_marks w class marks).accesses ≡ w.accesses
same-count w Distributed marks = refl
same-count w Served marks = refl

-- nor how they are looked up
same-marks : (w : Watched) (count : ℕ) (class : Class) → marks_of (record w { accesses = count }) class ≡ marks_of w class
same-marks w count Distributed = refl
same-marks w count Served = refl

-- a watch that noted an access stands for the log with it
pub noted-stands : (w : Watched) (count : ℕ) (epochs : Epochs) (log : List Touch) (class : Class) (block : ℕ) (kind : Access) (line : ℕ)
    → block < length (marks_of w class) → count ≡ w.accesses + 1
    → clash_of (mark_at (marks_of w class) block) (epoch_of w.epochs class) kind line ≡ None → Watches w epochs log
    → Watches (record (noted w class block kind line) { accesses = count }) epochs (log ++ touch epochs class block kind line ∷ [])
noted-stands w count epochs log class block kind line low more granted st =
    let t = touch epochs class block kind line in
    let mark = mark_after (mark_at (marks_of w class) block) (epoch_of w.epochs class) kind line in
    record {
      epochs_are = same-epochs w class (slice_set (marks_of w class) block (Some mark)) ∙ st.epochs_are;
      accesses = more ∙ ap (λ (n : ℕ). n + 1) st.accesses ∙ sym (length-append log (t ∷ []));
      marks = λ c b.
          ap (λ (ms : List (Option Mark)). mark_at ms b) (same-marks (noted w class block kind line) count c)
          ∙ set-marks w class c block b (λ (m : Option Mark). mark_after m (epoch_of w.epochs class) kind line) low
          ∙ ap (λ (m : Option Mark). if same_class class c && (block == b) then Some (mark_after m (epoch_of w.epochs class) kind line) else m) (st.marks c b)
          ∙ ap (λ (e : Epochs). if same_class class c && (block == b) then Some (mark_after (marks_after no_marks log c b) (epoch_of e class) kind line) else marks_after no_marks log c b) st.epochs_are
          ∙ sym (after-next no_marks log t c b);
      clear = judged w epochs log class block kind line st ∙ ap (λ (c : Option Clash). found_or t c None) granted;
      in_order = order-next epochs log class block kind line st.in_order st.past;
      past = All-push (λ (u : Touch). u.epoch ≤ epoch_of epochs u.class) log t st.past (omega arith);
    }
