-- Effects on shared blocks leave a whole state.
use Rattle.std.proofs.Common.{◌≡◌, ℕ, suc, ◌+◌, inl, inr, List, [], ◌∷◌, ◌++◌, zip, length, slice_index_or, slice_set, Bool, true, false, ◌&&◌, ◌||◌, not, if◌then◌else◌, Option, Some, None, Ok, Err, refl, sym, ap, ◌∙◌, arith}
use Rattle.std.proofs.lemmas.List.{length-map, length-set}
use Rattle.std.specs.Prelude.{flat_map}
use Rattle.std.specs.List.{list_any}
use Rattle.sial_syntax.specs.declared.access.Access.{Access}
use Rattle.sial_syntax.specs.declared.access.Class.TheVariants as class
use Rattle.sial_syntax.specs.declared.array.ArrayKind.{ArrayKind}
use Rattle.sial_syntax.specs.declared.array.ArrayKind.TheVariants.{Static, Temp, Local, Distributed, Served}
use Rattle.sial_syntax.specs.declared.operand.BlockRef.{BlockRef}
use Rattle.sial_syntax.specs.Agreeing.{all_in, same_list, has_kind, array_in, is_own}
use Rattle.sial_syntax.specs.Boxes.{volume}
use Rattle.sial_syntax.specs.Parts.{blocks_named, slots_named, slot_index, conditions, condition_indices, indices_used}
use Rattle.sial_syntax.specs.Shapes.{wrong_loop, wrong_where, wrong_dims, wrong_slots, wrong_array, wrong_form, wrong_transfer, wrong_rank, wrong_slot_rank, disagrees}
use Rattle.sial_syntax.specs.Spaces.{same_kind}
use Rattle.sial_syntax.specs.Tree.{Put, Prepare}
use Rattle.sial_syntax.specs.Visits.{Visit}
use Rattle.sial_meaning.specs.declared.trap.TrapKind.{TrapKind}
use Rattle.sial_meaning.specs.declared.trap.TrapKind.TheVariants.{UnsetBlock, LocalMissing, NotCreated}
use Rattle.sial_meaning.specs.LocalStep.{Answer, or_trap, held_words, words_of, words_by_kind}
use Rattle.sial_meaning.specs.Number.{accessed}
use Rattle.sial_meaning.specs.Own.{Own, Held, members_of, same_members, number_of, temp_of, local_block, is_created}
use Rattle.sial_meaning.specs.Setting.{Setting, array_kind, dims_of, block_words, first_of_class, class_of_kind}
use Rattle.sial_meaning.specs.Sight.{lengths}
use Rattle.sial_meaning.specs.Sound.{IsSound}
use Rattle.sial_meaning.specs.State.{State, accessed_words, shared_block}
use Rattle.sial_meaning.specs.Statement.{Named, named, class_or, is_missing, is_distributed, created_trap, stored, put_done}
use Rattle.sial_meaning.specs.Whole.{held_extents}
use Rattle.sial_meaning.specs.WholeStates.{OwnIsWhole, DistributedIsWhole, ServedIsWhole, IsWhole, words_if}
use Rattle.sial_meaning.proofs.WritesFitTheirBlocks.Blocks.{Fit, named_volume, front-in, fit-named, placed, placed-temp}
use Rattle.sial_meaning.proofs.Granted.Visits.{Good}
use Rattle.sial_meaning.proofs.StatesAreWhole.OwnLengths.{set-read}
use Rattle.sial_meaning.proofs.AcceptedInOtherWords.Pairs.{never, holds-so}
use Rattle.sial_meaning.proofs.Granted.Ranges.{InRange}
use Rattle.sial_meaning.proofs.StepsReachTheFold.Rules.{neither}
use Rattle.sial_meaning.proofs.StatesAreWhole.Statements.{WholeTo}
use Rattle.sial_meaning.proofs.Granted.Sameness.{kind-one, lists-one, members-one, answer-one}

-- a temp's elements where it holds the named block
temp-source : (g : Setting) (bound : List ℕ) (own : Own) (from : BlockRef) (words : List ℕ) (t : Option Held) → IsSound g → Fit g bound from → OwnIsWhole g own → temp_of own from.array ≡ t
    → or_trap UnsetBlock (held_words t (members_of g own from.at)) ≡ Ok words → length words ≡ named_volume g own from
temp-source g bound own from words None sound fit whole is ok = absurd cc
temp-source g bound own from words (Some held) sound fit whole is ok =
    elim (same_members held.members (members_of g own from.at)) as (λ b. same_members held.members (members_of g own from.at) ≡ b → ◌≡◌ {A = Answer (List ℕ)} (or_trap UnsetBlock (if b then Some held.words else None)) (Ok words) → length words ≡ named_volume g own from) [
      | true ↦ λ e there.
          ap length (sym (answer-one held.words words there))
          ∙ (whole.temps from.array held is
          ∙ (ap (λ ms. volume (lengths (held_extents g.spaces (dims_of g from.array) ms))) (members-one held.members (members_of g own from.at) e)
          ∙ sym (placed-temp g bound own from sound fit)))
      | false ↦ λ e there. absurd cc
    ] refl ok

-- a local block that is allocated
local-source : (g : Setting) (own : Own) (from : BlockRef) (words : List ℕ) (t : Option (List ℕ)) → OwnIsWhole g own → local_block own from.array (number_of g own from) ≡ t
    → or_trap LocalMissing t ≡ Ok words → length words ≡ block_words g from.array (number_of g own from)
local-source g own from words None whole is ok = absurd cc
local-source g own from words (Some found) whole is ok = ap length (sym (answer-one found words ok)) ∙ whole.locals from.array (number_of g own from) found is

-- the source of a transfer is as long as its indices say
source-long : (g : Setting) (bound : List ℕ) (own : Own) (from : BlockRef) (words : List ℕ) (kind : ArrayKind) → IsSound g → InRange g bound own.values → Fit g bound from → OwnIsWhole g own → array_kind g from.array ≡ kind → is_own kind ≡ true
    → words_by_kind g own from [] kind ≡ Ok words → length words ≡ named_volume g own from
source-long g bound own from words Static sound in-range fit whole is own-kind ok =
    let at = placed g bound own from sound in-range fit (ap (λ k. same_kind k Temp) is) in
    ap length (sym (answer-one _ words ok)) ∙ (whole.statics from.array (number_of g own from) is at.below ∙ sym at.words)
source-long g bound own from words Temp sound in-range fit whole is own-kind ok = temp-source g bound own from words (temp_of own from.array) sound fit whole refl ok
source-long g bound own from words Local sound in-range fit whole is own-kind ok =
    let at = placed g bound own from sound in-range fit (ap (λ k. same_kind k Temp) is) in
    local-source g own from words (local_block own from.array (number_of g own from)) whole refl ok ∙ sym at.words
source-long g bound own from words Distributed sound in-range fit whole is own-kind ok = absurd (never own-kind)
source-long g bound own from words Served sound in-range fit whole is own-kind ok = absurd (never own-kind)

-- two lists side by side
zip-long : {X Y : Type 0} (xs : List X) (ys : List Y) → length ys ≡ length xs → length (zip xs ys) ≡ length xs
zip-long [] ys long = refl
zip-long (x ∷ xs) [] long = absurd (omega (arith, long))
zip-long (x ∷ xs) (y ∷ ys) long = ap suc (zip-long xs ys (omega (arith, long)))

-- an access leaves as many words
pub accessed-long : (how : Access) (old words : List ℕ) → length words ≡ length old → length (accessed_words how old words) ≡ length old
accessed-long how old words long = length-map (zip old words) (λ (p : ℕ × ℕ). accessed how p.0 p.1) ∙ zip-long old words long

-- an entry replaced by one of its length
set-lengths : (xs : List (List ℕ)) (i : ℕ) (y : List ℕ) → length y ≡ length (slice_index_or xs i []) → (j : ℕ) → length (slice_index_or (slice_set xs i y) j []) ≡ length (slice_index_or xs j [])
set-lengths xs i y long j =
    elim (set-read xs i j y []) as (λ q. length (slice_index_or (slice_set xs i y) j []) ≡ length (slice_index_or xs j [])) [
      | inl same ↦ ap length same.1 ∙ (long ∙ ap (λ k. length (slice_index_or xs k [])) same.0)
      | inr other ↦ ap length other
    ]

distributed-stays : (g : Setting) (flags : List Bool) (xs : List (List ℕ)) (i : ℕ) (y : List ℕ) → length y ≡ length (slice_index_or xs i []) → DistributedIsWhole g flags xs → DistributedIsWhole g flags (slice_set xs i y)
distributed-stays g flags xs i y long whole = record {
  count = length-set xs i y ∙ whole.count;
  words = λ a n is below. set-lengths xs i y long (first_of_class g a + n) ∙ whole.words a n is below;
}

served-stays : (g : Setting) (xs : List (List ℕ)) (i : ℕ) (y : List ℕ) → length y ≡ length (slice_index_or xs i []) → ServedIsWhole g xs → ServedIsWhole g (slice_set xs i y)
served-stays g xs i y long whole = record {
  count = length-set xs i y ∙ whole.count;
  words = λ a n is below. set-lengths xs i y long (first_of_class g a + n) ∙ whole.words a n is below;
}

-- a shared block after an access with as many elements
stored-whole : (g : Setting) (line : ℕ) (place : Named) (how : Access) (words : List ℕ) (s : State) → IsWhole g s → length words ≡ length (shared_block s.shared place.class place.block) → IsWhole g (stored line place how words s)
stored-whole g line place how words s whole long = by-class place.class place.block long
  where
    by-class : (c : _) (n : ℕ) → length words ≡ length (shared_block s.shared c n) → IsWhole g (stored line (record { class = c; block = n }) how words s)
    by-class class.Distributed n fits = record {
      own = whole.own;
      distributed = distributed-stays g s.own.created s.shared.distributed n (accessed_words how (slice_index_or s.shared.distributed n []) words) (accessed-long how (slice_index_or s.shared.distributed n []) words fits) whole.distributed;
      served = whole.served;
      distributed_copies = whole.distributed_copies;
      served_copies = whole.served_copies;
    }
    by-class class.Served n fits = record {
      own = whole.own;
      distributed = whole.distributed;
      served = served-stays g s.shared.served n (accessed_words how (slice_index_or s.shared.served n []) words) (accessed-long how (slice_index_or s.shared.served n []) words fits) whole.served;
      distributed_copies = whole.distributed_copies;
      served_copies = whole.served_copies;
    }

-- what the rules say of a transfer: both blocks fit, the source is the worker's own, and both have the same indices
record Transfer (g : Setting) (bound : List ℕ) (block from : BlockRef) (kind : ArrayKind) : Type 0 where
  to : Fit g bound block
  source : Fit g bound from
  is : array_kind g block.array ≡ kind
  own : is_own (array_kind g from.array) ≡ true
  at : block.at ≡ from.at

transfer-by : (g : Setting) (v : Visit) (bound : List ℕ) (block from : BlockRef) (kind : ArrayKind) → Good g v → Fit g bound block → Fit g bound from → wrong_transfer g.program (has_kind g.program kind block.array) from.array ≡ false → not (same_list block.at from.at) ≡ false
    → Transfer g bound block from kind
transfer-by g v bound block from kind good to source wrong differ =
    let parts = neither (not (has_kind g.program kind block.array)) (not (is_own (array_in g.program from.array).kind)) wrong in
    record {
      to = to;
      source = source;
      is = kind-one (array_kind g block.array) kind (holds-so (has_kind g.program kind block.array) parts.0);
      own = holds-so (is_own (array_in g.program from.array).kind) parts.1;
      at = lists-one block.at from.at (holds-so (same_list block.at from.at) differ);
    }

-- the array of a good statement is of the kind that it wants
pub array-right : (g : Setting) (v : Visit) → Good g v → wrong_array g.program v.form ≡ false
array-right g v good =
    let p = g.program in
    let kinds = (neither (wrong_loop p v.form || wrong_where v.form) ((list_any (wrong_dims p) (blocks_named v.form) || wrong_slots p v.form) || (wrong_array p v.form || wrong_form v.form)) good.kind).1 in
    (neither (wrong_array p v.form) (wrong_form v.form) (neither (list_any (wrong_dims p) (blocks_named v.form) || wrong_slots p v.form) (wrong_array p v.form || wrong_form v.form) kinds).1).0

-- its indices agree
agrees-right : (g : Setting) (v : Visit) → Good g v → disagrees g.program v.form ≡ false
agrees-right g v good =
    let p = g.program in
    (neither (wrong_slot_rank p v.form) (disagrees p v.form) (neither (list_any (wrong_rank p) (blocks_named v.form)) (wrong_slot_rank p v.form || disagrees p v.form) good.indices).1).1

put-transfer : (g : Setting) (line : ℕ) (bound : List ℕ) (within : Bool) (block : BlockRef) (how : Access) (from : BlockRef) → Good g (record { line = line; form = Put block how from; bound = bound; within = within }) → Transfer g bound block from Distributed
put-transfer g line bound within block how from good =
    let v : Visit = record { line = line; form = Put block how from; bound = bound; within = within } in
    let used = (front-in (flat_map (λ (b : BlockRef). b.at) (blocks_named v.form)) (flat_map slot_index (slots_named v.form) ++ flat_map condition_indices (conditions v.form)) bound (holds-so (all_in (indices_used v.form) bound) good.unbound)).0 in
    transfer-by g v bound block from Distributed good (fit-named g v bound block good used (inl refl)) (fit-named g v bound from good used (inr (inl refl))) (array-right g v good) (agrees-right g v good)

prepare-transfer : (g : Setting) (line : ℕ) (bound : List ℕ) (within : Bool) (block : BlockRef) (how : Access) (from : BlockRef) → Good g (record { line = line; form = Prepare block how from; bound = bound; within = within }) → Transfer g bound block from Served
prepare-transfer g line bound within block how from good =
    let v : Visit = record { line = line; form = Prepare block how from; bound = bound; within = within } in
    let used = (front-in (flat_map (λ (b : BlockRef). b.at) (blocks_named v.form)) (flat_map slot_index (slots_named v.form) ++ flat_map condition_indices (conditions v.form)) bound (holds-so (all_in (indices_used v.form) bound) good.unbound)).0 in
    transfer-by g v bound block from Served good (fit-named g v bound block good used (inl refl)) (fit-named g v bound from good used (inr (inl refl))) (array-right g v good) (agrees-right g v good)

-- a distributed array that isn't missing is created
there-is : (g : Setting) (own : Own) (array : ℕ) → array_kind g array ≡ Distributed → is_missing g own array ≡ false → is_created own array ≡ true
there-is g own array is there = holds-so (is_created own array) (sym (ap (λ k. is_distributed k && not (is_created own array)) is) ∙ there)

no-trap : (b : Bool) (kind : TrapKind) → ◌≡◌ {A = Option TrapKind} (if b then Some kind else None) None → b ≡ false
no-trap true kind none = absurd cc
no-trap false kind none = refl

-- what `put` writes has as many elements as the block
pub put-long : (g : Setting) (line : ℕ) (bound : List ℕ) (within : Bool) (block : BlockRef) (how : Access) (from : BlockRef) (s : State) (words : List ℕ) → IsSound g → InRange g bound s.own.values → Good g (record { line = line; form = Put block how from; bound = bound; within = within })
    → created_trap g (Put block how from) s.own ≡ None → IsWhole g s → words_of g s.own from [] ≡ Ok words → length words ≡ length (shared_block s.shared (named g s.own block).class (named g s.own block).block)
put-long g line bound within block how from s words sound in-range good there whole is =
    let transfer : Transfer g bound block from Distributed = put-transfer g line bound within block how from good in
    let at = placed g bound s.own block sound in-range transfer.to (ap (λ k. same_kind k Temp) transfer.is) in
    let long : length words ≡ block_words g block.array (number_of g s.own block) =
    source-long g bound s.own from words (array_kind g from.array) sound in-range transfer.source whole.own refl transfer.own is
    ∙ (ap (λ xs. named_volume g s.own (record { array = block.array; at = xs })) (sym transfer.at) ∙ at.words) in
    let flag : is_created s.own block.array ≡ true =
    there-is g s.own block.array transfer.is (neither (is_missing g s.own block.array) false (no-trap (is_missing g s.own block.array || false) NotCreated there)).0 in
    let old : length (slice_index_or s.shared.distributed (first_of_class g block.array + number_of g s.own block) []) ≡ block_words g block.array (number_of g s.own block) =
    whole.distributed.words block.array (number_of g s.own block) transfer.is at.below ∙ ap (λ b. words_if b (block_words g block.array (number_of g s.own block))) flag in
    let c : class_or (class_of_kind (array_kind g block.array)) ≡ class.Distributed = ap (λ k. class_or (class_of_kind k)) transfer.is in
    long ∙ (sym old ∙ ap (λ k. length (shared_block s.shared k (first_of_class g block.array + number_of g s.own block))) (sym c))

-- so has what `prepare` writes
pub prepare-long : (g : Setting) (line : ℕ) (bound : List ℕ) (within : Bool) (block : BlockRef) (how : Access) (from : BlockRef) (s : State) (words : List ℕ) → IsSound g → InRange g bound s.own.values → Good g (record { line = line; form = Prepare block how from; bound = bound; within = within })
    → IsWhole g s → words_of g s.own from [] ≡ Ok words → length words ≡ length (shared_block s.shared (named g s.own block).class (named g s.own block).block)
prepare-long g line bound within block how from s words sound in-range good whole is =
    let transfer : Transfer g bound block from Served = prepare-transfer g line bound within block how from good in
    let at = placed g bound s.own block sound in-range transfer.to (ap (λ k. same_kind k Temp) transfer.is) in
    let long : length words ≡ block_words g block.array (number_of g s.own block) =
    source-long g bound s.own from words (array_kind g from.array) sound in-range transfer.source whole.own refl transfer.own is
    ∙ (ap (λ xs. named_volume g s.own (record { array = block.array; at = xs })) (sym transfer.at) ∙ at.words) in
    let old : length (slice_index_or s.shared.served (first_of_class g block.array + number_of g s.own block) []) ≡ block_words g block.array (number_of g s.own block) =
    whole.served.words block.array (number_of g s.own block) transfer.is at.below in
    let c : class_or (class_of_kind (array_kind g block.array)) ≡ class.Served = ap (λ k. class_or (class_of_kind k)) transfer.is in
    long ∙ (sym old ∙ ap (λ k. length (shared_block s.shared k (first_of_class g block.array + number_of g s.own block))) (sym c))

-- `put` and `prepare`
pub put-whole : (g : Setting) (line : ℕ) (bound : List ℕ) (within : Bool) (block : BlockRef) (how : Access) (from : BlockRef) (s : State) → IsSound g → InRange g bound s.own.values → Good g (record { line = line; form = Put block how from; bound = bound; within = within })
    → created_trap g (Put block how from) s.own ≡ None → IsWhole g s → WholeTo g (put_done line (named g s.own block) how s (words_of g s.own from []))
put-whole g line bound within block how from s sound in-range good there whole = by-words (words_of g s.own from []) refl
  where
    by-words : (answer : Answer (List ℕ)) → words_of g s.own from [] ≡ answer → WholeTo g (put_done line (named g s.own block) how s answer)
    by-words (Err kind) is = whole
    by-words (Ok words) is = stored-whole g line (named g s.own block) how words s whole (put-long g line bound within block how from s words sound in-range good there whole is)

-- `prepare`, which writes a served block
pub prepare-whole : (g : Setting) (line : ℕ) (bound : List ℕ) (within : Bool) (block : BlockRef) (how : Access) (from : BlockRef) (s : State) → IsSound g → InRange g bound s.own.values → Good g (record { line = line; form = Prepare block how from; bound = bound; within = within })
    → IsWhole g s → WholeTo g (put_done line (named g s.own block) how s (words_of g s.own from []))
prepare-whole g line bound within block how from s sound in-range good whole = by-words (words_of g s.own from []) refl
  where
    by-words : (answer : Answer (List ℕ)) → words_of g s.own from [] ≡ answer → WholeTo g (put_done line (named g s.own block) how s answer)
    by-words (Err kind) is = whole
    by-words (Ok words) is = stored-whole g line (named g s.own block) how words s whole (prepare-long g line bound within block how from s words sound in-range good whole is)
