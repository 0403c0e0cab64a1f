-- What an assignment to a block leaves is what its target reads.
use Rattle.std.proofs.Common.{◌≡◌, ℕ, zero, suc, ◌<◌, List, [], ◌∷◌, length, slice_index_or, slice_set, Bool, true, ◌==◌, ◌&&◌, ◌||◌, nat_lt, if◌then◌else◌, Option, Some, None, Ok, Err, refl, ap, ◌∙◌, subst, arith}
use Rattle.std.proofs.lemmas.Bool.{eq-eqb}
use Rattle.std.proofs.lemmas.Bool.Decides.{nat_tests}
use Rattle.std.proofs.lemmas.List.{get_or-set_same}
use Rattle.sial_syntax.specs.declared.array.ArrayKind.{ArrayKind}
use Rattle.sial_syntax.specs.declared.array.ArrayKind.TheVariants.{Static, Temp, Local, Distributed, Served}
use Rattle.sial_syntax.specs.declared.operand.BlockRef.{BlockRef}
use Rattle.sial_syntax.specs.declared.operand.Op.{Op}
use Rattle.sial_syntax.specs.declared.operand.Right.{Right}
use Rattle.std.specs.List.{list_all}
use Rattle.sial_syntax.specs.Limits.{most_rank}
use Rattle.sial_syntax.specs.Proper.{has_array, has_index, has_length, proper_block, proper_right}
use Rattle.sial_syntax.specs.Agreeing.{is_own, array_in}
use Rattle.sial_syntax.specs.Spaces.{same_kind}
use Rattle.sial_meaning.specs.declared.trap.TrapKind.{TrapKind}
use Rattle.sial_meaning.specs.declared.trap.TrapKind.TheVariants.{UnsetBlock, LocalMissing}
use Rattle.sial_meaning.specs.HeldLaws.{to_block_of, IsHeld, AssignmentsAreHeld}
use Rattle.sial_meaning.specs.LocalStep.{Answer, Done, and_then, or_trap, held_words, words_of, words_by_kind, needs_old, old_words, quiet, with_words, to_block, side_read}
use Rattle.sial_meaning.specs.Own.{Own, sight, members_of, same_members, number_of, local_block}
use Rattle.sial_meaning.specs.Rest.{Next}
use Rattle.sial_meaning.specs.Right.{Side, assigned, is_insertion}
use Rattle.sial_meaning.specs.Setting.{Setting, array_kind}
use Rattle.sial_meaning.specs.Sound.{IsSound}
use Rattle.sial_meaning.specs.State.{State}
use Rattle.sial_meaning.specs.Statement.{Went, Reading, reads_of, reads_logged, values_of, created_trap, local_done, effect, unless_trapped}
use Rattle.sial_meaning.specs.WholeStates.{OwnIsWhole, IsWhole}
use Rattle.sial_meaning.proofs.Granted.Visits.{Good}
use Rattle.sial_meaning.proofs.WritesFitTheirBlocks.Blocks.{Fit, placed}
use Rattle.sial_meaning.proofs.AcceptedInOtherWords.Pairs.{never, first-holds, both-hold, holds-so}
use Rattle.sial_meaning.proofs.Granted.Ranges.{InRange}
use Rattle.sial_meaning.proofs.Granted.Sameness.{answer-one}
use Rattle.sial_meaning.proofs.StatesAreWhole.Rest.{GoodWork, GoodAt}
use Rattle.sial_meaning.proofs.StatesAreWhole.Steps.{steps-lead}
use Rattle.sial_meaning.proofs.StatesAreWhole.Statements.{fit-target}

-- a tuple of members is itself
members-self : (xs : List (ℕ × ℕ)) → same_members xs xs ≡ true
members-self [] = refl
members-self (x ∷ xs) = both-hold (x.0 == x.0) (x.1 == x.1 && same_members xs xs) (eq-eqb x.0 x.0 refl) (both-hold (x.1 == x.1) (same_members xs xs) (eq-eqb x.1 x.1 refl) (members-self xs))

-- what is there has a place
place-of-some : {X : Type 0} (xs : List (Option X)) (n : ℕ) (x : X) → slice_index_or xs n None ≡ Some x → n < length xs
place-of-some [] n x is = absurd cc
place-of-some (y ∷ ys) zero x is = omega arith
place-of-some (y ∷ ys) (suc n) x is = let rest = place-of-some ys n x is in omega (arith, rest)

-- an answer's option is there
some-there : {X : Type 0} (kind : TrapKind) (o : Option X) (x : X) → or_trap kind o ≡ Ok x → o ≡ Some x
some-there kind None x is = absurd cc
some-there kind (Some y) x is = ap Some (answer-one y x is)

-- a named block with these elements, read
reads-back : (g : Setting) (bound : List ℕ) (own : Own) (to : BlockRef) (words old : List ℕ) (needed : Bool) (kind : ArrayKind) → IsSound g → InRange g bound own.values → Fit g bound to → OwnIsWhole g own → to.array < length g.program.arrays → array_kind g to.array ≡ kind → is_own kind ≡ true
    → old_words g own to needed kind ≡ Ok old → words_by_kind g (with_words g to words own kind) to [] kind ≡ Ok words
reads-back g bound own to words old needed Static sound in-range fit whole declared is own-kind ok =
    let number = number_of g own to in
    let at = placed g bound own to sound in-range fit (ap (λ k. same_kind k Temp) is) in
    let row = slice_index_or own.statics to.array [] in
    let many = whole.count to.array is in
    let below = at.below in
    let rows = whole.static_rows in
    ap (λ r. Ok (slice_index_or r number [])) (get_or-set_same own.statics to.array (slice_set row number words) [] (omega (arith, declared, rows)))
    ∙ ap Ok (get_or-set_same row number words [] (omega (arith, below, many)))
reads-back g bound own to words old needed Temp sound in-range fit whole declared is own-kind ok =
    let members = members_of g own to.at in
    let rows = whole.temp_rows in
    ap (λ t. or_trap UnsetBlock (held_words t members)) (get_or-set_same own.temps to.array (Some (record { members = members; words = words })) None (omega (arith, declared, rows)))
    ∙ ap (λ b. or_trap UnsetBlock (if b then Some words else None)) (members-self members)
reads-back g bound own to words old needed Local sound in-range fit whole declared is own-kind ok =
    let number = number_of g own to in
    let row = slice_index_or own.locals to.array [] in
    let there = place-of-some row number old (some-there LocalMissing (local_block own to.array number) old ok) in
    let rows = whole.local_rows in
    ap (λ r. or_trap LocalMissing (slice_index_or r number None)) (get_or-set_same own.locals to.array (slice_set row number (Some words)) [] (omega (arith, declared, rows)))
    ∙ ap (or_trap LocalMissing) (get_or-set_same row number (Some words) None there)
reads-back g bound own to words old needed Distributed sound in-range fit whole declared is own-kind ok = absurd (never own-kind)
reads-back g bound own to words old needed Served sound in-range fit whole declared is own-kind ok = absurd (never own-kind)

-- an outcome's worker, where no trap came
went-own : (line : ℕ) (s t : State) (done : Done) → local_done line s (Ok done) ≡ Went t → done.own ≡ t.own
went-own line s t done is = cc

-- an assignment to a block whose right side was read
held-after : (reading : Reading) (g : Setting) (line : ℕ) (bound : List ℕ) (within : Bool) (to : BlockRef) (op : Op) (right : Right) (s t : State) → IsSound g → InRange g bound s.own.values → Good g (record { line = line; form = to_block_of to op right; bound = bound; within = within }) → IsWhole g s
    → (answer : Answer Side) → side_read g s.own right (values_of g reading s (reads_of g (to_block_of to op right))) ≡ answer
    → local_done line (reads_logged g line (reads_of g (to_block_of to op right)) s) (and_then answer (λ side. to_block g to op side s.own s.partials)) ≡ Went t
    → (side : Side) × (old : List ℕ) × IsHeld reading g to op right s t side old
held-after reading g line bound within to op right s t sound in-range good whole (Err kind) read went = absurd cc
held-after reading g line bound within to op right s t sound in-range good whole (Ok side) read went = by-old (old_words g s.own to needed (array_kind g to.array)) refl went
  where
    needed : Bool
    needed = needs_old op || is_insertion g.spaces to.at side

    fit : Fit g bound to
    fit = fit-target g line bound within to op right good

    declared : to.array < length g.program.arrays
    declared = below-is to.array (length g.program.arrays) (first-holds (has_array g.program to.array) (has_length most_rank to.at && list_all (has_index g.program) to.at) (first-holds (proper_block g.program to) (proper_right g.program right) good.proper))
      where
        below-is : (a b : ℕ) → nat_lt a b ≡ true → a < b
        below-is a b is = grind (arith, nat_tests)

    own-kind : is_own (array_kind g to.array) ≡ true
    own-kind = holds-so (is_own (array_in g.program to.array).kind) good.writable

    by-old : (o : Answer (List ℕ)) → old_words g s.own to needed (array_kind g to.array) ≡ o
        → local_done line (reads_logged g line (reads_of g (to_block_of to op right)) s) (and_then o (λ old. quiet (with_words g to (assigned g.spaces op (sight g s.own to old) side) s.own (array_kind g to.array)) s.partials)) ≡ Went t
        → (side : Side) × (old : List ℕ) × IsHeld reading g to op right s t side old
    by-old (Err kind) is went = absurd cc
    by-old (Ok old) is went =
        let words = assigned g.spaces op (sight g s.own to old) side in
        let now = with_words g to words s.own (array_kind g to.array) in
        let own : now ≡ t.own = went-own line (reads_logged g line (reads_of g (to_block_of to op right)) s) t (record { own = now; partials = s.partials; printed = [] }) went in (
          side,
          old,
          record {
            side_is = read;
            old_is = is;
            held = subst (λ (o : Own). words_of g o to [] ≡ Ok words) own (reads-back g bound s.own to words old needed (array_kind g to.array) sound in-range fit whole.own declared refl own-kind is);
          },
        )

-- one whose created flags are as it wants them
held-by : (reading : Reading) (g : Setting) (line : ℕ) (bound : List ℕ) (within : Bool) (to : BlockRef) (op : Op) (right : Right) (s t : State) → IsSound g → InRange g bound s.own.values → Good g (record { line = line; form = to_block_of to op right; bound = bound; within = within }) → IsWhole g s
    → (trap : Option TrapKind) → unless_trapped line s trap (effect reading g line (to_block_of to op right)) ≡ Went t → (side : Side) × (old : List ℕ) × IsHeld reading g to op right s t side old
held-by reading g line bound within to op right s t sound in-range good whole (Some kind) went = absurd cc
held-by reading g line bound within to op right s t sound in-range good whole None went =
    held-after reading g line bound within to op right s t sound in-range good whole (side_read g s.own right (values_of g reading s (reads_of g (to_block_of to op right)))) refl went

-- wherever steps lead to an assignment that doesn't trap, its target reads what it left
pub assignments-are-held : AssignmentsAreHeld
assignments-are-held reading g count at line to op right rest s t sound leads went =
    let work : GoodWork g (Next at line (to_block_of to op right) rest) s = subst (GoodAt g) leads (steps-lead reading g count sound) in
    let good = work.good in
    held-by reading g line work.indices good.0 to op right s t sound work.in_range good.1 work.whole (created_trap g (to_block_of to op right) s.own) went
