-- Arrays created and deleted, and every statement that holds no other, leave a whole state.
use Rattle.std.proofs.Common.{◌≡◌, ℕ, ◌+◌, ◌<◌, ◌≤◌, ◌⊎◌, List, [], ◌∷◌, map, length, slice_index_or, slice_set, replicate, Bool, true, false, ◌==◌, Option, Some, None, refl, sym, ap, ◌∙◌, subst, eqb-true, arith}
use Rattle.std.proofs.lemmas.Bool.{eq-eqb}
use Rattle.std.proofs.lemmas.List.{get_or-map, length-set, get_or-set_same, get_or-set_other, get_or-replicate, length-replicate}
use Rattle.sial_syntax.specs.declared.array.ArrayKind.TheVariants.{Distributed}
use Rattle.sial_syntax.specs.Agreeing.{has_kind}
use Rattle.sial_syntax.specs.Boxes.{numbers_from}
use Rattle.sial_syntax.proofs.BoxLemmas.{numbers-length, numbers-read}
use Rattle.sial_syntax.specs.Tree.{Plain, Get, Request, Put, Prepare, Create, Delete, Collective, SipBarrier, ServerBarrier}
use Rattle.sial_meaning.specs.declared.trap.TrapKind.{TrapKind}
use Rattle.sial_meaning.specs.LocalStep.{local_step}
use Rattle.sial_meaning.specs.Own.{Own, for_each, with_created}
use Rattle.sial_meaning.specs.Setting.{Setting, array_kind, block_count, block_words, first_of_class, zeros}
use Rattle.sial_meaning.specs.Sound.{IsSound}
use Rattle.sial_meaning.specs.State.{State, with_run}
use Rattle.sial_meaning.specs.Statement.{Reading, reads_of, reads_logged, values_of, created_trap, created, deleted, effect, unless_trapped, statement}
use Rattle.sial_meaning.specs.WholeStates.{OwnIsWhole, DistributedIsWhole, IsWhole, words_if}
use Rattle.sial_meaning.proofs.Granted.Visits.{Good}
use Rattle.sial_meaning.proofs.StatesAreWhole.OwnLengths.{row-long}
use Rattle.sial_meaning.proofs.AcceptedInOtherWords.Pairs.{never, holds-so}
use Rattle.sial_meaning.proofs.Granted.Ranges.{InRange}
use Rattle.sial_meaning.proofs.Granted.Runs.{run-long, run-other, run-same, declared-array, within-class, apart-in-class}
use Rattle.sial_meaning.proofs.Granted.Sameness.{kind-one}
use Rattle.sial_meaning.proofs.StatesAreWhole.Effects.{array-right, put-whole, prepare-whole}
use Rattle.sial_meaning.proofs.StatesAreWhole.Statements.{WholeTo, DoneWhole, reads-same, reads-whole, step-done, local-whole-to, scalars-whole}
use Rattle.sial_meaning.proofs.PardosKeepTheControl.Changes.{each-long}

-- a row of things, one for each number
pub row-read : {X : Type 0} (f : ℕ → X) (first n k : ℕ) (d : X) → k < n → slice_index_or (map f (numbers_from first n)) k d ≡ f (first + k)
row-read f first n k d below = get_or-map f (numbers_from first n) k 0 d (subst (λ m. k < m) (sym (numbers-length first n)) below) ∙ ap f (numbers-read first n k 0 below)

-- what a list made number by number has at a number
pub each-read : {X : Type 0} (n : ℕ) (f : ℕ → X) (k : ℕ) (d : X) → k < n → slice_index_or (for_each n f) k d ≡ f k
each-read n f k d below = let none : 0 + k ≡ k = omega arith in row-read f 0 n k d below ∙ ap f none

-- the blocks of an array replaced together, and its flag changed
replaced-whole : (g : Setting) (flags : List Bool) (blocks : List (List ℕ)) (array : ℕ) (now : Bool) (ys : List (List ℕ)) → array_kind g array ≡ Distributed → length flags ≡ length g.program.arrays → DistributedIsWhole g flags blocks
    → length ys ≡ block_count g array → ((n : ℕ) → n < block_count g array → length (slice_index_or ys n []) ≡ words_if now (block_words g array n))
    → DistributedIsWhole g (slice_set flags array now) (with_run (first_of_class g array) ys blocks)
replaced-whole g flags blocks array now ys is-array long whole many each = record {
  count = run-long (first_of_class g array) ys blocks ∙ whole.count;
  words = λ a n is below.
      elim (a == array) as (λ b. (a == array) ≡ b → length (slice_index_or (with_run (first_of_class g array) ys blocks) (first_of_class g a + n) []) ≡ words_if (slice_index_or (slice_set flags array now) a false) (block_words g a n)) [
        | true ↦ λ e.
            let same : a ≡ array = eqb-true a array e in
            let below-array : n < block_count g array = subst (λ x. n < block_count g x) same below in
            let inside = within-class g array Distributed is-array refl in
            let declared = declared-array g array Distributed is-array refl in
            let count = whole.count in
            ap (λ x. length (slice_index_or (with_run (first_of_class g array) ys blocks) (first_of_class g x + n) [])) same
            ∙ (ap length (run-same (first_of_class g array) ys blocks n [] (omega (arith, below-array, many)) (omega (arith, below-array, inside, count)))
            ∙ (each n below-array
            ∙ (ap (λ b. words_if b (block_words g array n)) (sym (get_or-set_same flags array now false (omega (arith, declared, long))))
            ∙ ap (λ x. words_if (slice_index_or (slice_set flags array now) x false) (block_words g x n)) (sym same))))
        | false ↦ λ e.
            let differ : a ≡ array → ⊥ = λ same. never (sym e ∙ eq-eqb a array same) in
            let out = apart-in-class g a array n Distributed is is-array refl below differ in
            ap length (run-other (first_of_class g array) ys blocks (first_of_class g a + n) [] (subst (λ m. (first_of_class g a + n < first_of_class g array) ⊎ ((first_of_class g array + m) ≤ first_of_class g a + n)) (sym many) out))
            ∙ (whole.words a n is below ∙ ap (λ b. words_if b (block_words g a n)) (sym (get_or-set_other flags array a now false differ)))
      ] refl;
}

-- flags changed
flag-whole : (g : Setting) (own : Own) (array : ℕ) (now : Bool) → OwnIsWhole g own → OwnIsWhole g (with_created array now own)
flag-whole g own array now whole = record { values = whole.values; created = length-set own.created array now ∙ whole.created; static_rows = whole.static_rows; temp_rows = whole.temp_rows; local_rows = whole.local_rows; count = whole.count; statics = whole.statics; temps = whole.temps; locals = whole.locals }

created-whole : (g : Setting) (array : ℕ) (s : State) → array_kind g array ≡ Distributed → IsWhole g s → IsWhole g (created g array s)
created-whole g array s is whole =
    let now = replaced-whole g s.own.created s.shared.distributed array true (for_each (block_count g array) (zeros g array)) is whole.own.created whole.distributed (each-long (block_count g array) (zeros g array))
    (λ n below. ap length (each-read (block_count g array) (zeros g array) n [] below) ∙ row-long (block_words g array n)) in
    record { own = flag-whole g s.own array true whole.own; distributed = now; served = whole.served; distributed_copies = now; served_copies = whole.served_copies }

deleted-whole : (g : Setting) (array : ℕ) (s : State) → array_kind g array ≡ Distributed → IsWhole g s → IsWhole g (deleted g array s)
deleted-whole g array s is whole =
    let now = replaced-whole g s.own.created s.shared.distributed array false (replicate (block_count g array) []) is whole.own.created whole.distributed (length-replicate (block_count g array) [])
    (λ n below. ap length (get_or-replicate (block_count g array) n [] [] below)) in
    record { own = flag-whole g s.own array false whole.own; distributed = now; served = whole.served; distributed_copies = now; served_copies = whole.served_copies }

-- the effect of a statement whose created flags are as it wants them
effect-whole : (reading : Reading) (g : Setting) (line : ℕ) (bound : List ℕ) (within : Bool) (form : Plain) (s : State) → IsSound g → InRange g bound s.own.values → Good g (record { line = line; form = form; bound = bound; within = within })
    → created_trap g form s.own ≡ None → IsWhole g s → WholeTo g (effect reading g line form s)
effect-whole reading g line bound within (Get block) s sound in-range good there whole = reads-whole g line (block ∷ []) s whole
effect-whole reading g line bound within (Request block) s sound in-range good there whole = reads-whole g line (block ∷ []) s whole
effect-whole reading g line bound within (Put block how from) s sound in-range good there whole = put-whole g line bound within block how from s sound in-range good there whole
effect-whole reading g line bound within (Prepare block how from) s sound in-range good there whole = prepare-whole g line bound within block how from s sound in-range good whole
effect-whole reading g line bound within (Create array) s sound in-range good there whole =
    created-whole g array s (kind-one (array_kind g array) Distributed (holds-so (has_kind g.program Distributed array) (array-right g (record { line = line; form = Create array; bound = bound; within = within }) good))) whole
effect-whole reading g line bound within (Delete array) s sound in-range good there whole =
    deleted-whole g array s (kind-one (array_kind g array) Distributed (holds-so (has_kind g.program Distributed array) (array-right g (record { line = line; form = Delete array; bound = bound; within = within }) good))) whole
effect-whole reading g line bound within SipBarrier s sound in-range good there whole =
    record { own = whole.own; distributed = whole.distributed; served = whole.served; distributed_copies = whole.distributed; served_copies = whole.served_copies }
effect-whole reading g line bound within ServerBarrier s sound in-range good there whole =
    record { own = whole.own; distributed = whole.distributed; served = whole.served; distributed_copies = whole.distributed_copies; served_copies = whole.served }
effect-whole reading g line bound within (Collective into from) s sound in-range good there whole =
    record { own = scalars-whole g s.own _ whole.own; distributed = whole.distributed; served = whole.served; distributed_copies = whole.distributed_copies; served_copies = whole.served_copies }
effect-whole reading g line bound within form s sound in-range good there whole =
    let same = reads-same g line (reads_of g form) s in
    let t = reads_logged g line (reads_of g form) s in
    local-whole-to g line t (local_step g form (values_of g reading s (reads_of g form)) s.own s.partials) (reads-whole g line (reads_of g form) s whole)
    (subst (λ (o : Own). DoneWhole g o (local_step g form (values_of g reading s (reads_of g form)) s.own s.partials)) (sym same.0)
    (step-done g line bound within form (values_of g reading s (reads_of g form)) s.own s.partials sound in-range good whole.own))

-- a statement, unless its created flags trap
pub statement-whole : (reading : Reading) (g : Setting) (line : ℕ) (bound : List ℕ) (within : Bool) (form : Plain) (s : State) → IsSound g → InRange g bound s.own.values → Good g (record { line = line; form = form; bound = bound; within = within })
    → IsWhole g s → WholeTo g (statement reading g line form s)
statement-whole reading g line bound within form s sound in-range good whole = by-trap (created_trap g form s.own) refl
  where
    by-trap : (trap : Option TrapKind) → created_trap g form s.own ≡ trap → WholeTo g (unless_trapped line s trap (effect reading g line form))
    by-trap None there = effect-whole reading g line bound within form s sound in-range good there whole
    by-trap (Some kind) there = whole
