-- How many elements the blocks have that a worker reads.
use Rattle.std.proofs.Common.{◌≡◌, ℕ, zero, suc, List, [], ◌∷◌, ◌++◌, map, drop, length, Bool, true, false, Option, Some, None, Ok, Err, refl, sym, ap, ◌∙◌, subst, arith}
use Rattle.std.proofs.lemmas.List.{append-nil, length-map, length-take-le}
use Rattle.std.specs.Prelude.{if◌then◌else◌, is_some, IfSome}
use Rattle.block_pool.specs.Memory.{Memory, words_at}
use Rattle.sial_syntax.specs.declared.array.ArrayKind.{ArrayKind}
use Rattle.sial_syntax.specs.declared.array.ArrayKind.TheVariants.{Static, Temp, Local, Distributed, Served}
use Rattle.sial_syntax.specs.declared.operand.BlockRef.{BlockRef}
use Rattle.sial_syntax.specs.declared.operand.Operand.{Operand}
use Rattle.sial_syntax.specs.declared.operand.Operand.TheVariants as operand
use Rattle.sial_syntax.specs.declared.operand.Right.{Right}
use Rattle.sial_syntax.specs.declared.operand.Right.TheVariants.{One, Two}
use Rattle.sial_syntax.specs.Boxes.{volume}
use Rattle.sial_syntax.specs.Spaces.{same_kind}
use Rattle.sial_meaning.specs.declared.trap.TrapKind.TheVariants.{LocalMissing, UnsetBlock}
use Rattle.sial_meaning.specs.LocalStep.{Answer, and_then, first_value, held_words, is_shared_kind, old_words, or_trap, shared_in, shared_operand, words_by_kind}
use Rattle.sial_meaning.specs.Own.{Held, Own, local_block, members_of, number_of, same_members, static_block, temp_of}
use Rattle.sial_meaning.specs.Setting.{Setting, array_kind, block_words, dims_of}
use Rattle.sial_meaning.specs.Sight.{lengths}
use Rattle.sial_meaning.specs.Sound.{IsSound}
use Rattle.sial_meaning.specs.Whole.{held_extents}
use Rattle.sial_meaning.specs.WholeStates.{OwnIsWhole}
use Rattle.sial_meaning.proofs.Granted.Ranges.{InRange}
use Rattle.sial_meaning.proofs.Granted.Sameness.{answer-one, members-one}
use Rattle.sial_meaning.proofs.WritesFitTheirBlocks.Blocks.{Fit, placed, placed-temp}
use Rattle.exec_sides.specs.Short.{AreLong, volume_now}
use Rattle.exec_assign.specs.declared.leases.Leases.{Leases}
use Rattle.exec_assign.specs.Lent.{AreLeased, AreLent, IsLent, OperandLeased, OperandLent, lent_words, operand_values, side_values, slot_of}

-- a temp's elements where it holds the named block
temp_long : (g : Setting) (bound : List ℕ) (own : Own) (b : BlockRef) (words : List ℕ) (t : Option Held) → IsSound g → Fit g bound b → OwnIsWhole g own → temp_of own b.array ≡ t
    → or_trap UnsetBlock (held_words t (members_of g own b.at)) ≡ Ok words → length words ≡ volume_now g.spaces own.values b.at
temp_long g bound own b words None sound fit whole is ok = absurd cc
temp_long g bound own b words (Some held) sound fit whole is ok =
    elim (same_members held.members (members_of g own b.at)) as (λ q. same_members held.members (members_of g own b.at) ≡ q → ◌≡◌ {A = Answer (List ℕ)} (or_trap UnsetBlock (if q then Some held.words else None)) (Ok words) → length words ≡ volume_now g.spaces own.values b.at) [
      | true ↦ λ e there.
          ap length (sym (answer-one held.words words there))
          ∙ (whole.temps b.array held is
          ∙ (ap (λ ms. volume (lengths (held_extents g.spaces (dims_of g b.array) ms))) (members-one held.members (members_of g own b.at) e)
          ∙ sym (placed-temp g bound own b sound fit)))
      | false ↦ λ e there. absurd cc
    ] refl ok

-- a local block's that is allocated
local_long : (g : Setting) (own : Own) (b : BlockRef) (words : List ℕ) (t : Option (List ℕ)) → OwnIsWhole g own → local_block own b.array (number_of g own b) ≡ t → or_trap LocalMissing t ≡ Ok words → length words ≡ block_words g b.array (number_of g own b)
local_long g own b words None whole is ok = absurd cc
local_long g own b words (Some found) whole is ok = ap length (sym (answer-one found words ok)) ∙ whole.locals b.array (number_of g own b) found is

-- a block that was read has an element for each position
pub read_long : (g : Setting) (bound : List ℕ) (own : Own) (b : BlockRef) (values : List (List ℕ)) (words : List ℕ) (kind : ArrayKind) → IsSound g → InRange g bound own.values → Fit g bound b → OwnIsWhole g own → array_kind g b.array ≡ kind
    → (is_shared_kind kind ≡ true → length (first_value values) ≡ volume_now g.spaces own.values b.at) → words_by_kind g own b values kind ≡ Ok words → length words ≡ volume_now g.spaces own.values b.at
read_long g bound own b values words Static sound in-range fit whole is shared ok =
    let at = placed g bound own b sound in-range fit (ap (λ k. same_kind k Temp) is) in
    ap length (sym (answer-one (static_block own b.array (number_of g own b)) words ok)) ∙ (whole.statics b.array (number_of g own b) is at.below ∙ sym at.words)
read_long g bound own b values words Temp sound in-range fit whole is shared ok = temp_long g bound own b words (temp_of own b.array) sound fit whole refl ok
read_long g bound own b values words Local sound in-range fit whole is shared ok =
    let at = placed g bound own b sound in-range fit (ap (λ k. same_kind k Temp) is) in
    local_long g own b words (local_block own b.array (number_of g own b)) whole refl ok ∙ sym at.words
read_long g bound own b values words Distributed sound in-range fit whole is shared ok = ap length (sym (answer-one (first_value values) words ok)) ∙ shared refl
read_long g bound own b values words Served sound in-range fit whole is shared ok = ap length (sym (answer-one (first_value values) words ok)) ∙ shared refl

-- what follows an answer that is no trap
pub then_ok : {X Y : Type 0} (r : Answer X) (f : X → Answer Y) (y : Y) → and_then r f ≡ Ok y → (x : X) × (r ≡ Ok x) × (f x ≡ Ok y)
then_ok (Ok x) f y ok = (x, refl, ok)
then_ok (Err kind) f y ok = absurd cc

-- the values of some shared operands, and of others behind them
pub long_parts : (g : Setting) (values : List ℕ) (bs cs : List BlockRef) (all : List (List ℕ)) → AreLong g.spaces values (bs ++ cs) all → AreLong g.spaces values bs all × AreLong g.spaces values cs (drop (length bs) all)
long_parts g values [] cs all long = (tt, long)
long_parts g values (b ∷ bs) cs all long =
    let rest = long_parts g values bs cs (drop 1 all) long.1 in
    ((long.0, rest.0), subst (λ (vs : List (List ℕ)). AreLong g.spaces values cs vs) (later (length bs) all) rest.1)
  where
    later : (n : ℕ) (vs : List (List ℕ)) → drop n (drop 1 vs) ≡ drop (suc n) vs
    later zero [] = refl
    later (suc n) [] = refl
    later n (v ∷ vs) = refl

-- a lease has as many elements as the block
lease_long : (p : Memory) (len : ℕ) (lease : Option ℕ) → is_some lease ≡ true → IfSome lease (IsLent p len) → length (lent_words p len lease) ≡ len
lease_long p len None given lent = absurd cc
lease_long p len (Some slot) given lent = length-take-le len (words_at p.words slot) lent.wide

module _ (g : Setting) (p : Memory) (values : List ℕ) where
  -- the value of an operand, and others behind it
  operand_long : (a : Operand) (lease : Option ℕ) (more : List (List ℕ)) → OperandLent g p values lease a → OperandLeased g lease a → AreLong g.spaces values (shared_operand g a) (operand_values g p values lease a ++ more)
  operand_long (operand.Number n) lease more lent leased = tt
  operand_long (operand.Scalar s) lease more lent leased = tt
  operand_long (operand.Block b) lease more lent leased =
      elim (is_shared_kind (array_kind g b.array)) as (λ (q : Bool). is_shared_kind (array_kind g b.array) ≡ q
      → AreLong g.spaces values (if q then b ∷ [] else []) (map (λ (x : BlockRef). lent_words p (volume_now g.spaces values x.at) lease) (if q then b ∷ [] else []) ++ more)) [
        | true ↦ λ e. (lease_long p (volume_now g.spaces values b.at) lease (leased e) lent, tt)
        | false ↦ λ e. tt
      ] refl

  -- those of some blocks, and of others behind them
  both_long : (bs cs : List BlockRef) (xs ys : List (List ℕ)) → length xs ≡ length bs → AreLong g.spaces values bs xs → AreLong g.spaces values cs ys → AreLong g.spaces values (bs ++ cs) (xs ++ ys)
  both_long [] cs [] ys many first second = second
  both_long [] cs (x ∷ xs) ys many first second = absurd (omega (arith, many))
  both_long (b ∷ bs) cs [] ys many first second = absurd (omega (arith, many))
  both_long (b ∷ bs) cs (x ∷ xs) ys many first second = (first.0, both_long bs cs xs ys (omega (arith, many)) first.1 second)

  -- the value of an operand alone
  alone_long : (a : Operand) (lease : Option ℕ) → OperandLent g p values lease a → OperandLeased g lease a → AreLong g.spaces values (shared_operand g a) (operand_values g p values lease a)
  alone_long a lease lent leased = subst (λ (all : List (List ℕ)). AreLong g.spaces values (shared_operand g a) all) (append-nil (operand_values g p values lease a)) (operand_long a lease [] lent leased)

  -- the values of a right side
  pub side_long : (right : Right) (leases : Leases) → AreLent g p values leases right → AreLeased g leases right → AreLong g.spaces values (shared_in g right) (side_values g p values leases right)
  side_long (One a) leases lent leased = alone_long a (slot_of leases.first) lent leased
  side_long (Two a bin b) leases lent leased =
      both_long (shared_operand g a) (shared_operand g b) (operand_values g p values (slot_of leases.first) a) (operand_values g p values (slot_of leases.second) b)
      (length-map (shared_operand g a) (λ (x : BlockRef). lent_words p (volume_now g.spaces values x.at) (slot_of leases.first)))
      (alone_long a (slot_of leases.first) lent.0 leased.0) (alone_long b (slot_of leases.second) lent.1 leased.1)

-- so have the elements that a target of the worker's own had, where they are needed
pub old_long : (g : Setting) (bound : List ℕ) (own : Own) (b : BlockRef) (words : List ℕ) (kind : ArrayKind) → IsSound g → InRange g bound own.values → Fit g bound b → OwnIsWhole g own → array_kind g b.array ≡ kind
    → is_shared_kind kind ≡ false → old_words g own b true kind ≡ Ok words → length words ≡ volume_now g.spaces own.values b.at
old_long g bound own b words Static sound in-range fit whole is own-kind ok = read_long g bound own b [] words Static sound in-range fit whole is (λ e. absurd cc) ok
old_long g bound own b words Temp sound in-range fit whole is own-kind ok = read_long g bound own b [] words Temp sound in-range fit whole is (λ e. absurd cc) ok
old_long g bound own b words Local sound in-range fit whole is own-kind ok = read_long g bound own b [] words Local sound in-range fit whole is (λ e. absurd cc) ok
old_long g bound own b words Distributed sound in-range fit whole is own-kind ok = absurd cc
old_long g bound own b words Served sound in-range fit whole is own-kind ok = absurd cc
