-- Parts of instructions: what a reader takes is what is written, and what is written is taken again.
use Rattle.std.proofs.Common.{◌≡◌, ℕ, ◌<◌, List, [], ◌∷◌, ◌++◌, replicate, Option, Some, None, Ok, refl, sym, ap, subst, ◌∙◌}
use Rattle.sial_syntax.specs.declared.condition.Cond.{Cond}
use Rattle.sial_syntax.specs.declared.condition.Test.{Test}
use Rattle.sial_syntax.specs.declared.condition.Value.{Value}
use Rattle.sial_syntax.specs.declared.operand.Bin.{Bin}
use Rattle.sial_syntax.specs.declared.operand.BlockRef.{BlockRef}
use Rattle.sial_syntax.specs.declared.operand.Operand.{Operand}
use Rattle.sial_syntax.specs.declared.operand.Right.{Right}
use Rattle.sial_syntax.specs.declared.operand.Right.TheVariants.{One, Two}
use Rattle.table_file.specs.Bytes.{word, part, no_part, block_part, slots_part, operand_part, value_part}
use Rattle.table_file.specs.Fields.{unused}
use Rattle.table_file.specs.Fits.{IsWithin, BlockFits, AreSlots, OperandFits, ValueFits, CondFits}
use Rattle.table_file.specs.Heads.{plain_head, jump_head, line_alone, put_mode}
use Rattle.table_file.specs.Combined as combined
use Rattle.table_file.specs.Simple as simple
use Rattle.table_file.specs.Numbers.{how_number}
use Rattle.table_file.specs.Operands.{no_operand, thing, block, slots, right_operand, value_operand}
use Rattle.table_file.proofs.NumberLemmas.{IsBytes}
use Rattle.table_file.proofs.ReadsLemmas.{Stands, Reads, Builds, first_then, skip_then, gives, turned, of_parts, seen_as, built}
use Rattle.table_file.proofs.FieldLaws.{unused_skips}
use Rattle.table_file.proofs.OperandLaws.{line_alone_reads, plain_head_reads, jump_head_reads, no_operand_skips, thing_reads, block_reads, slots_reads}
use Rattle.table_file.proofs.ModeLaws.{HowFits, put_mode_reads}
use Rattle.table_file.proofs.TaggedLaws.{right_reads, value_reads}

-- what stands before the operands, behind the operation
abbrev pub plain_part : (line : ℕ) → List ℕ
plain_part line = replicate 3 0 ++ (word line ++ replicate 4 0)

abbrev pub jump_part : ℕ × ℕ → List ℕ
jump_part x = replicate 3 0 ++ (word x.0 ++ word x.1)

abbrev pub line_part : (line : ℕ) → List ℕ
line_part line = replicate 2 0 ++ (word line ++ replicate 4 0)

abbrev pub both_part : ℕ × ℕ → List ℕ
both_part x = replicate 2 0 ++ (word x.0 ++ word x.1)

abbrev pub JumpFits : ℕ × ℕ → Type 0
JumpFits x = IsWithin 32 x.0 × IsWithin 32 x.1

-- a thing by its number
abbrev pub thing_part : (tag n : ℕ) → List ℕ
thing_part tag n = part tag 0 n (replicate 12 0)

pub bare_reads : Reads combined.bare (λ l. plain_part l ++ replicate 48 0) (IsWithin 32)
unfolding combined.bare
bare_reads =
    seen_as _ _ _ _ (IsWithin 32) (λ x f. f.0) (λ x f. (f, tt)) (λ x f. refl)
    (of_parts _ _ _ _ (λ x. (x, tt)) (λ p f. refl) (λ x. refl)
    (first_then plain_head plain_part (IsWithin 32) _ _ _ _ plain_head_reads (λ l f.
    skip_then (unused 48) (replicate 48 0) _ _ _ _ (unused_skips 48) (gives l))))

pub jump_reads : Reads {X = ℕ × ℕ} combined.jump (λ x. jump_part x ++ replicate 48 0) JumpFits
unfolding combined.jump
jump_reads =
    seen_as _ _ _ _ JumpFits (λ x f. f.0) (λ x f. (f, tt)) (λ x f. refl)
    (of_parts _ _ _ _ (λ x. (x, tt)) (λ p f. refl) (λ x. refl)
    (first_then jump_head jump_part JumpFits _ _ _ _ jump_head_reads (λ l f.
    skip_then (unused 48) (replicate 48 0) _ _ _ _ (unused_skips 48) (gives l))))

pub one_thing_reads : (tag : ℕ) → tag < 256 → Reads {X = ℕ × ℕ} (combined.one_thing tag) (λ x. plain_part x.0 ++ (thing_part tag x.1 ++ replicate 32 0)) (λ x. IsWithin 32 x.0 × IsWithin 16 x.1)
unfolding combined.one_thing
one_thing_reads tag small =
    seen_as _ _ _ _ _ (λ x f. (f.0, f.1.0)) (λ x f. (f.0, (f.1, tt))) (λ x f. refl)
    (of_parts _ _ _ _ (λ x. (x.0, (x.1, tt))) (λ p f. refl) (λ x. refl)
    (first_then plain_head plain_part (IsWithin 32) _ _ _ _ plain_head_reads (λ l f.
    first_then (thing tag) (thing_part tag) (IsWithin 16) _ _ _ _ (thing_reads tag small) (λ a f.
    skip_then (unused 32) (replicate 32 0) _ _ _ _ (unused_skips 32) (gives (l, a))))))

pub one_block_reads : Reads {X = ℕ × BlockRef} combined.one_block (λ x. plain_part x.0 ++ (block_part x.1 ++ replicate 32 0)) (λ x. IsWithin 32 x.0 × BlockFits x.1)
unfolding combined.one_block
one_block_reads =
    seen_as _ _ _ _ _ (λ x f. (f.0, f.1.0)) (λ x f. (f.0, (f.1, tt))) (λ x f. refl)
    (of_parts _ _ _ _ (λ x. (x.0, (x.1, tt))) (λ p f. refl) (λ x. refl)
    (first_then plain_head plain_part (IsWithin 32) _ _ _ _ plain_head_reads (λ l f.
    first_then block block_part BlockFits _ _ _ _ block_reads (λ a f.
    skip_then (unused 32) (replicate 32 0) _ _ _ _ (unused_skips 32) (gives (l, a))))))

pub array_slots_reads : Reads combined.array_slots (λ x. plain_part x.line ++ (slots_part x.array x.slots ++ replicate 32 0)) (λ x. IsWithin 32 x.line × (IsWithin 16 x.array × AreSlots x.slots))
unfolding combined.array_slots
array_slots_reads =
    seen_as _ _ _ _ _ (λ x f. (f.0, f.1.0)) (λ x f. (f.0, (f.1, tt))) (λ x f. refl)
    (of_parts _ _ _ _ (λ x. (x.line, ((x.array, x.slots), tt))) (λ p f. refl) (λ x. refl)
    (first_then plain_head plain_part (IsWithin 32) _ _ _ _ plain_head_reads (λ l f.
    first_then slots (λ y. slots_part y.0 y.1) (λ y. IsWithin 16 y.0 × AreSlots y.1) _ _ _ _ slots_reads (λ a f.
    skip_then (unused 32) (replicate 32 0) _ _ _ _ (unused_skips 32) (gives (record { line = l; array = a.0; slots = a.1 }))))))

pub put_blocks_reads : (version : ℕ)
    → Reads (combined.put_blocks version) (λ x. how_number x.how ∷ (line_part x.line ++ (block_part x.block ++ (block_part x.from ++ no_part))))
    (λ x. HowFits version x.how × (IsWithin 32 x.line × (BlockFits x.block × BlockFits x.from)))
unfolding combined.put_blocks
put_blocks_reads version =
    seen_as _ _ _ _ _ (λ x f. (f.0, (f.1.0, (f.1.1.0, f.1.1.1.0)))) (λ x f. (f.0, (f.1.0, (f.1.1.0, (f.1.1.1, tt))))) (λ x f. refl)
    (of_parts _ _ _ _ (λ x. (x.how, (x.line, (x.block, (x.from, tt))))) (λ p f. refl) (λ x. refl)
    (first_then (put_mode version) (λ k. how_number k ∷ []) (HowFits version) _ _ _ _ (put_mode_reads version) (λ how f.
    first_then line_alone line_part (IsWithin 32) _ _ _ _ line_alone_reads (λ l f.
    first_then block block_part BlockFits _ _ _ _ block_reads (λ a f.
    first_then block block_part BlockFits _ _ _ _ block_reads (λ b f.
    skip_then no_operand no_part _ _ _ _ no_operand_skips (gives (record { line = l; block = a; how = how; from = b }))))))))

-- the two values of a test
abbrev pub cond_part : Cond → List ℕ
cond_part c = value_part c.left ++ (value_part c.right ++ no_part)

compared_builds : (test : Test)
    → Builds {P = Value × (Value × Unit {0})} {Z = Cond} (combined.compared test) (λ p. record { left = p.0; test = test; right = p.1.0 }) (λ p. value_part p.0 ++ (value_part p.1.0 ++ (no_part ++ [])))
    (λ p. ValueFits p.0 × (ValueFits p.1.0 × Unit {0}))
unfolding combined.compared
compared_builds test =
    first_then value_operand value_part ValueFits _ _ _ _ value_reads (λ a f.
    first_then value_operand value_part ValueFits _ _ _ _ value_reads (λ b f.
    skip_then no_operand no_part _ _ _ _ no_operand_skips (gives (record { left = a; test = test; right = b }))))

pub compared_reads : (test : Test) → Reads (combined.compared test) cond_part (λ c. (c.test ≡ test) × CondFits c)
compared_reads test = record {
  takes = λ bytes at z fits e.
      built _ _ _ _ (compared_builds test) bytes at z fits e (λ (c : Cond). Stands bytes at z.1 (cond_part c) × ((c.test ≡ test) × CondFits c)) (λ p st f. (st, (refl, (f.0, f.1.0))));
  again = λ bytes at end c st f.
      (compared_builds test).again bytes at end (c.left, (c.right, tt)) st (f.1.0, (f.1.1, tt))
      ∙ ap (λ (t : Test). Ok ((record { left = c.left; test = t; right = c.right }), end)) (sym f.0);
}

-- ---- right sides

-- the first operand of a right side, what stands behind it, and the second operand
abbrev pub first_of : Right → Operand
first_of (One a) = a
first_of (Two a bin b) = a

abbrev pub bin_in : Right → Option Bin
bin_in (One a) = None
bin_in (Two a bin b) = Some bin

abbrev pub right_part : Right → List ℕ
right_part (One a) = no_part
right_part (Two a bin b) = operand_part b

abbrev pub SecondFits : Right → Type 0
SecondFits (One a) = Unit {0}
SecondFits (Two a bin b) = OperandFits b

-- a right side of this first operand and with this behind it
pub record IsRight (a : Operand) (between : Option Bin) (right : Right) : Type 0 where
  pub first : first_of right ≡ a
  pub bin : bin_in right ≡ between
  pub second : SecondFits right

one_builds : (first : Operand) → Builds {P = Unit {0}} {Z = Right} (simple.right_side first None) (λ p. One first) (λ p. no_part ++ []) (λ p. Unit {0})
unfolding simple.right_side
one_builds first = skip_then no_operand no_part _ _ _ _ no_operand_skips (gives (One first))

two_builds : (first : Operand) (bin : Bin) → Builds {P = Operand} {Z = Right} (simple.right_side first (Some bin)) (λ p. Two first bin p) operand_part OperandFits
unfolding simple.right_side
two_builds first bin = turned right_operand operand_part OperandFits (λ b. Two first bin b) right_reads

right_takes : (first : Operand) (bin : Option Bin) (bytes : List ℕ) (at : ℕ) (z : Right × ℕ) → IsBytes bytes → simple.right_side first bin bytes at ≡ Ok z → Stands bytes at z.1 (right_part z.0) × IsRight first bin z.0
right_takes first None bytes at z fits e =
    built _ _ _ _ (one_builds first) bytes at z fits e (λ (r : Right). Stands bytes at z.1 (right_part r) × IsRight first None r) (λ p st f. (st, record { first = refl; bin = refl; second = tt }))
right_takes first (Some bin) bytes at z fits e =
    built _ _ _ _ (two_builds first bin) bytes at z fits e (λ (r : Right). Stands bytes at z.1 (right_part r) × IsRight first (Some bin) r) (λ p st f. (st, record { first = refl; bin = refl; second = f }))

right_again : (bytes : List ℕ) (at end : ℕ) (right : Right) → Stands bytes at end (right_part right) → SecondFits right → simple.right_side (first_of right) (bin_in right) bytes at ≡ Ok (right, end)
right_again bytes at end (One a) st f = (one_builds a).again bytes at end tt st tt
right_again bytes at end (Two a bin b) st f = (two_builds a bin).again bytes at end b st f

pub right_side_reads : (first : Operand) (bin : Option Bin) → Reads (simple.right_side first bin) right_part (IsRight first bin)
right_side_reads first bin = record {
  takes = λ bytes at z fits e. right_takes first bin bytes at z fits e;
  again = λ bytes at end r st f.
      subst (λ (b : Option Bin). simple.right_side first b bytes at ≡ Ok (r, end)) f.bin (subst (λ (a : Operand). simple.right_side a (bin_in r) bytes at ≡ Ok (r, end)) f.first (right_again bytes at end r st f.second));
}
