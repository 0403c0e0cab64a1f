-- The state as a program begins has numbers alone, its segments have small numbers, and its statements write out numbers alone.
use Rattle.std.proofs.Common.{◌≡◌, ℕ, zero, suc, ◌+◌, ◌-◌, ◌<◌, ◌≤◌, List, [], ◌∷◌, ◌++◌, map, length, slice_index_or, Bool, true, false, ◌==◌, ◌&&◌, nat_lt, nat_le, Option, Some, None, refl, sym, ap, ◌∙◌, subst, arith}
use Rattle.std.proofs.lemmas.Bool.{and_parts, ltb-false}
use Rattle.std.proofs.lemmas.Bool.Decides.{nat_tests}
use Rattle.std.proofs.Math.Nat.{div-le_self}
use Rattle.std.specs.Prelude.{if◌then◌else◌, find, flat_map}
use Rattle.std.specs.List.{list_all}
use Rattle.std.specs.Option.{IfSome}
use Rattle.sial_syntax.specs.declared.access.Class.TheVariants as class
use Rattle.sial_syntax.specs.declared.array.ArrayKind.{ArrayKind}
use Rattle.sial_syntax.specs.declared.array.ArrayKind.TheVariants.{Static, Temp, Local, Distributed, Served}
use Rattle.sial_syntax.specs.declared.classes.ScalarClass.{ScalarClass}
use Rattle.sial_syntax.specs.declared.classes.ScalarClass.TheVariants.{Replicated, Private, Partial}
use Rattle.sial_syntax.specs.declared.index.IndexDecl.{IndexDecl}
use Rattle.sial_syntax.specs.declared.index.Kind.{Kind}
use Rattle.sial_syntax.specs.declared.index.Kind.TheVariants.{Ao, Mo, Moa, Mob, Index}
use Rattle.sial_syntax.specs.declared.index.Range.{Range}
use Rattle.sial_syntax.specs.declared.index.Range.TheVariants as range
use Rattle.sial_syntax.specs.declared.operand.Operand.{Operand}
use Rattle.sial_syntax.specs.declared.operand.Operand.TheVariants as operand
use Rattle.sial_syntax.specs.declared.operand.Right.{Right}
use Rattle.sial_syntax.specs.declared.operand.Right.TheVariants.{One, Two}
use Rattle.sial_syntax.specs.Limits.{most_segments, most_length}
use Rattle.sial_syntax.specs.Parts.{operand_number, operands, numbers_named}
use Rattle.sial_syntax.specs.Proper.{IsProper, is_line, is_number, proper_numbers}
use Rattle.sial_syntax.specs.Resolved.{Constants, bound_number, segments_between, span_between, span_of_range, is_at_least, is_at_most, is_cut, has_segments}
use Rattle.sial_syntax.specs.Spaces.{Spaces, Cut, Span, Segments, Pieces, span_first, span_count, first_of, count_of, cut_of, segments_of, length_among, segment, pieces_of, kind_of}
use Rattle.sial_syntax.specs.Tree.{Tree, Procedure, Block, End, Then, Plain, Do, DoIn, Pardo, If, IfElse, Assign}
use Rattle.sial_syntax.specs.Visits.{visits, inner_visits, body_visits}
use Rattle.sial_syntax.proofs.CallLemmas.{no_procedure}
use Rattle.sial_meaning.specs.NumberStates.{IsNumber, AreNumbers, HoldsNumbers, HasNumbers}
use Rattle.sial_meaning.specs.Own.{for_each, given_or, start_block, start_statics, start_locals, start_scalar}
use Rattle.sial_meaning.specs.Setting.{Setting, Given, array_kind, block_count, block_words, scalar_class, procedure_body, zeros}
use Rattle.sial_meaning.specs.Sound.{IsSound, may_be_given, is_start}
use Rattle.sial_meaning.specs.State.{start_shared, start_blocks, start_state}
use Rattle.sial_meaning.proofs.Granted.Rules.{one-some, same-first, same-rest}
use Rattle.sial_meaning.proofs.StatesHaveNumbers.Lists.{nothing-numbers, tested-numbers, zero-numbers, mapped-has, alike-has}
use Rattle.sial_meaning.proofs.StatesHaveNumbers.Statements.{OperandHas, RightHas, FormHas}
use Rattle.sial_meaning.proofs.AcceptedInOtherWords.Pairs.{first-holds, second-holds}

-- all of two lists
all-split : {X : Type 0} (test : X → Bool) (xs ys : List X) → list_all test (xs ++ ys) ≡ true → (list_all test xs ≡ true) × (list_all test ys ≡ true)
all-split test [] ys all = (refl, all)
all-split test (x ∷ xs) ys all =
    let parts = and_parts (test x) (list_all test (xs ++ ys)) all in
    let rest = all-split test xs ys parts.1 in
    (ap (λ b. b && list_all test xs) parts.0 ∙ rest.0, rest.1)

-- the numbers that an operand writes out
operand-has : (a : Operand) (more : List ℕ) → list_all is_number (operand_number a ++ more) ≡ true → OperandHas a
operand-has (operand.Number n) more all = tested-numbers (n ∷ more) all 0
operand-has (operand.Scalar s) more all = tt
operand-has (operand.Block b) more all = tt

-- those of a right side
right-has : (right : Right) → list_all is_number (flat_map operand_number (operands right)) ≡ true → RightHas right
right-has (One a) all = operand-has a [] all
right-has (Two a bin b) all = (
  operand-has a (flat_map operand_number (b ∷ [])) all,
  operand-has b [] (all-split is_number (operand_number a) (flat_map operand_number (b ∷ [])) all).1,
)

-- those of a statement alone
form-alone : (form : Plain) → list_all is_number (numbers_named form) ≡ true → FormHas form
form-alone (Assign target op right) all = right-has right all
form-alone form all = tt

abbrev mutual
  -- the numbers that all statements write out are numbers
  pub BodyHas : Block → Type 0
  BodyHas End = Unit {0}
  BodyHas (Then line form rest) = FormHas form × InnerHas form × BodyHas rest

  -- those of the statements inside a statement
  pub InnerHas : Plain → Type 0
  InnerHas (Do index body) = BodyHas body
  InnerHas (DoIn sub index body) = BodyHas body
  InnerHas (Pardo indices wheres body) = BodyHas body
  InnerHas (If test body) = BodyHas body
  InnerHas (IfElse test body other) = BodyHas body × BodyHas other
  InnerHas form = Unit {0}

mutual
  -- a body whose statements were tested
  pub body-has : (bound : List ℕ) (within : Bool) (body : Block) → list_all proper_numbers (visits bound within body) ≡ true → BodyHas body
  body-has bound within End all = tt
  body-has bound within (Then line form rest) all =
      let parts = and_parts (proper_numbers (record { line = line; form = form; bound = bound; within = within })) (list_all proper_numbers (inner_visits bound within form ++ visits bound within rest)) all in
      let both = all-split proper_numbers (inner_visits bound within form) (visits bound within rest) parts.1 in (
        form-alone form (and_parts (is_line line) (list_all is_number (numbers_named form)) parts.0).1,
        inner-has bound within form both.0,
        body-has bound within rest both.1,
      )

  inner-has : (bound : List ℕ) (within : Bool) (form : Plain) → list_all proper_numbers (inner_visits bound within form) ≡ true → InnerHas form
  inner-has bound within (Do index body) all = body-has (index ∷ bound) within body all
  inner-has bound within (DoIn sub index body) all = body-has (sub ∷ bound) within body all
  inner-has bound within (Pardo indices wheres body) all = body-has (indices ++ bound) true body all
  inner-has bound within (If test body) all = body-has bound within body all
  inner-has bound within (IfElse test body other) all =
      let both = all-split proper_numbers (visits bound within body) (visits bound within other) all in
      (body-has bound within body both.0, body-has bound within other both.1)
  inner-has bound within form all = tt

-- the program's own statements
pub program-has : (p : Tree) → IsProper p → BodyHas p.body
program-has p proper = body-has [] false p.body (all-split proper_numbers (body_visits p.body) (flat_map (λ (q : Procedure). body_visits q.body) p.procedures) proper.numbers).0

-- the statements of a procedure
procedures-have : (qs : List Procedure) (q : ℕ) → list_all proper_numbers (flat_map (λ (q : Procedure). body_visits q.body) qs) ≡ true → BodyHas (slice_index_or qs q no_procedure).body
procedures-have [] q all = tt
procedures-have (r ∷ rs) zero all = body-has [] false r.body (all-split proper_numbers (body_visits r.body) (flat_map (λ (q : Procedure). body_visits q.body) rs) all).0
procedures-have (r ∷ rs) (suc q) all = procedures-have rs q (all-split proper_numbers (body_visits r.body) (flat_map (λ (q : Procedure). body_visits q.body) rs) all).1

-- the body of a procedure of a proper program writes out numbers alone
pub procedure-has : (g : Setting) → IsProper g.program → (procedure : ℕ) → BodyHas (procedure_body g procedure)
procedure-has g proper procedure =
    procedures-have g.program.procedures procedure (all-split proper_numbers (body_visits g.program.body) (flat_map (λ (q : Procedure). body_visits q.body) g.program.procedures) proper.numbers).1

-- a given block, or zeros
given-numbers : (g : Setting) (array number : ℕ) (blocks : List Given) → list_all (is_start g) blocks ≡ true
    → AreNumbers (given_or (find (λ b. (b.array == array) && (b.number == number)) blocks) (zeros g array number))
given-numbers g array number [] all = zero-numbers (block_words g array number)
given-numbers g array number (b ∷ bs) all =
    let is = first-holds (is_start g b) (list_all (is_start g) bs) all in
    let one = second-holds (may_be_given (array_kind g b.array)) (nat_lt b.number (block_count g b.array) && ((length b.words == block_words g b.array b.number) && list_all is_number b.words)) is in
    let two = second-holds (nat_lt b.number (block_count g b.array)) ((length b.words == block_words g b.array b.number) && list_all is_number b.words) one in
    let numbers = second-holds (length b.words == block_words g b.array b.number) (list_all is_number b.words) two in
    elim ((b.array == array) && (b.number == number)) as (λ t. AreNumbers (given_or (if t then Some b else find (λ b. (b.array == array) && (b.number == number)) bs) (zeros g array number))) [
      | true ↦ tested-numbers b.words numbers
      | false ↦ given-numbers g array number bs (second-holds (is_start g b) (list_all (is_start g) bs) all)
    ]

start-numbers : (g : Setting) → IsSound g → (array number : ℕ) → AreNumbers (start_block g array number)
start-numbers g sound array number = given-numbers g array number g.blocks sound.blocks

-- the scalars of the start
scalar-starts : (class : ScalarClass) (n : ℕ) → IsNumber n → IfSome (start_scalar class n) IsNumber
scalar-starts Replicated n number = number
scalar-starts Private n number = tt
scalar-starts Partial n number = tt

-- the static and local blocks of the start
statics-start : (g : Setting) → IsSound g → (array : ℕ) (kind : ArrayKind) (number : ℕ) → AreNumbers (slice_index_or (start_statics g array kind) number [])
statics-start g sound array Static number = mapped-has AreNumbers (start_block g array) _ [] (start-numbers g sound array) nothing-numbers number
statics-start g sound array Temp number = nothing-numbers
statics-start g sound array Local number = nothing-numbers
statics-start g sound array Distributed number = nothing-numbers
statics-start g sound array Served number = nothing-numbers

locals-start : (g : Setting) (array : ℕ) (kind : ArrayKind) (number : ℕ) → IfSome (slice_index_or (start_locals g array kind) number None) AreNumbers
locals-start g array Static number = tt
locals-start g array Temp number = tt
locals-start g array Local number = alike-has (λ x. IfSome x AreNumbers) (block_count g array) None None tt tt number
locals-start g array Distributed number = tt
locals-start g array Served number = tt

-- lists one after the other
joined-has : {X Y : Type 0} (P : Y → Type 0) (f : X → List Y) (xs : List X) (d : Y) → P d → ((x : X) (k : ℕ) → P (slice_index_or (f x) k d)) → (k : ℕ) → P (slice_index_or (flat_map f xs) k d)
joined-has P f [] d none each k = none
joined-has P f (x ∷ xs) d none each k = behind (f x) k (each x) (joined-has P f xs d none each)
  where
    behind : (ys : List _) (n : ℕ) → ((m : ℕ) → P (slice_index_or ys m d)) → ((m : ℕ) → P (slice_index_or (flat_map f xs) m d)) → P (slice_index_or (ys ++ flat_map f xs) n d)
    behind [] n first rest = rest n
    behind (y ∷ ys) zero first rest = first 0
    behind (y ∷ ys) (suc n) first rest = behind ys n (λ m. first (suc m)) rest

-- the shared blocks of the start
shared-start : (g : Setting) → IsSound g → (c : _) (array : ℕ) (kind : ArrayKind) (block : ℕ) → AreNumbers (slice_index_or (start_shared g c array kind) block [])
shared-start g sound class.Distributed array Static block = nothing-numbers
shared-start g sound class.Distributed array Temp block = nothing-numbers
shared-start g sound class.Distributed array Local block = nothing-numbers
shared-start g sound class.Distributed array Distributed block = alike-has AreNumbers (block_count g array) [] [] nothing-numbers nothing-numbers block
shared-start g sound class.Distributed array Served block = nothing-numbers
shared-start g sound class.Served array Static block = nothing-numbers
shared-start g sound class.Served array Temp block = nothing-numbers
shared-start g sound class.Served array Local block = nothing-numbers
shared-start g sound class.Served array Distributed block = nothing-numbers
shared-start g sound class.Served array Served block = mapped-has AreNumbers (start_block g array) _ [] (start-numbers g sound array) nothing-numbers block

blocks-start : (g : Setting) → IsSound g → (c : _) (block : ℕ) → AreNumbers (slice_index_or (start_blocks g c) block [])
blocks-start g sound c block =
    joined-has AreNumbers (λ a. start_shared g c a (array_kind g a)) (for_each (length g.program.arrays) (λ a. a)) [] nothing-numbers (λ a k. shared-start g sound c a (array_kind g a) k) block

-- the state as the program begins
pub start-has : (g : Setting) → IsSound g → HasNumbers (start_state g)
start-has g sound = record {
  own = record {
    values = zero-numbers (length g.program.indices);
    scalars = mapped-has (λ x. IfSome x IsNumber) (λ s. start_scalar (scalar_class g s) (slice_index_or g.numbers s 0)) _ None
        (λ s. scalar-starts (scalar_class g s) (slice_index_or g.numbers s 0) (tested-numbers g.numbers sound.numbers s)) tt;
    statics = mapped-has (λ row. (n : ℕ) → AreNumbers (slice_index_or row n [])) (λ a. start_statics g a (array_kind g a)) _ [] (λ a. statics-start g sound a (array_kind g a)) (λ n. nothing-numbers);
    temps = alike-has (λ x. IfSome x HoldsNumbers) (length g.program.arrays) None None tt tt;
    locals = mapped-has (λ row. (n : ℕ) → IfSome (slice_index_or row n None) AreNumbers) (λ a. start_locals g a (array_kind g a)) _ [] (λ a. locals-start g a (array_kind g a)) (λ n. tt);
  };
  partials = zero-numbers (length g.program.scalars);
  shared = record { distributed = blocks-start g sound class.Distributed; served = blocks-start g sound class.Served };
  copies = record { distributed = blocks-start g sound class.Distributed; served = blocks-start g sound class.Served };
}

-- a number that was tested against another
at-most : (a b : ℕ) → nat_le a b ≡ true → a ≤ b
at-most a b t = grind (arith, nat_tests)

-- what an input's lengths are: not too many, and short, as are its pieces
record Short (cut : Cut) : Type 0 where
  few : length cut.segments ≤ most_segments
  each : list_all (λ n. nat_le 1 n && nat_le n most_length) cut.segments ≡ true
  piece : cut.piece ≤ most_length

short : (cut : Cut) → is_cut cut ≡ true → Short cut
short cut is =
    let parts = and_parts (list_all (λ n. nat_le 1 n && nat_le n most_length) cut.segments) (nat_le (length cut.segments) most_segments && nat_le cut.piece most_length) is in
    let both = and_parts (nat_le (length cut.segments) most_segments) (nat_le cut.piece most_length) parts.1 in
    record { few = at-most (length cut.segments) most_segments both.0; each = parts.0; piece = at-most cut.piece most_length both.1 }

-- the lengths of the four kinds
record AllShort (spaces : Spaces) : Type 0 where
  ao : Short spaces.ao
  mo : Short spaces.mo
  moa : Short spaces.moa
  mob : Short spaces.mob

all-short : (g : Setting) → IsSound g → AllShort g.spaces
all-short g sound =
    let spaces = g.spaces in
    let a = and_parts (is_cut spaces.ao) (list_all is_cut (spaces.mo ∷ spaces.moa ∷ spaces.mob ∷ [])) sound.spaces.1.cuts in
    let b = and_parts (is_cut spaces.mo) (list_all is_cut (spaces.moa ∷ spaces.mob ∷ [])) a.1 in
    let c = and_parts (is_cut spaces.moa) (list_all is_cut (spaces.mob ∷ [])) b.1 in
    record { ao = short spaces.ao a.0; mo = short spaces.mo b.0; moa = short spaces.moa c.0; mob = short spaces.mob (and_parts (is_cut spaces.mob) true c.1).0 }

segments-few : (spaces : Spaces) → AllShort spaces → (kind : Kind) → segments_of spaces kind ≤ most_segments
segments-few spaces all Ao = all.ao.few
segments-few spaces all Mo = all.mo.few
segments-few spaces all Moa = all.moa.few
segments-few spaces all Mob = all.mob.few
segments-few spaces all Index = omega arith

-- a segment is short
length-short : (lengths : List ℕ) (k : ℕ) → list_all (λ n. nat_le 1 n && nat_le n most_length) lengths ≡ true → slice_index_or lengths k 0 ≤ most_length
length-short [] k all = omega arith
length-short (n ∷ ns) zero all =
    let parts = and_parts (nat_le 1 n && nat_le n most_length) (list_all (λ n. nat_le 1 n && nat_le n most_length) ns) all in
    at-most n most_length (and_parts (nat_le 1 n) (nat_le n most_length) parts.0).1
length-short (n ∷ ns) (suc k) all = length-short ns k (and_parts (nat_le 1 n && nat_le n most_length) (list_all (λ n. nat_le 1 n && nat_le n most_length) ns) all).1

among-short : (lengths : List ℕ) (number : ℕ) → list_all (λ n. nat_le 1 n && nat_le n most_length) lengths ≡ true → length_among lengths number ≤ most_length
among-short lengths zero all = omega arith
among-short lengths (suc before) all = length-short lengths before all

segment-short : (spaces : Spaces) → AllShort spaces → (kind : Kind) (number : ℕ) → (segment spaces kind number).len ≤ most_length
segment-short spaces all Ao number = among-short spaces.ao.segments number all.ao.each
segment-short spaces all Mo number = among-short spaces.mo.segments number all.mo.each
segment-short spaces all Moa number = among-short spaces.moa.segments number all.moa.each
segment-short spaces all Mob number = among-short spaces.mob.segments number all.mob.each
segment-short spaces all Index number = omega arith

piece-short : (spaces : Spaces) → AllShort spaces → (kind : Kind) → (cut_of spaces kind).piece ≤ most_length
piece-short spaces all Ao = all.ao.piece
piece-short spaces all Mo = all.mo.piece
piece-short spaces all Moa = all.moa.piece
piece-short spaces all Mob = all.mob.piece
piece-short spaces all Index = omega arith

-- a segment has few pieces
pub pieces-few : (g : Setting) → IsSound g → (sub number : ℕ) → pieces_of g.spaces sub number < 4096
pieces-few g sound sub number =
    let all = all-short g sound in
    let kind = kind_of g.spaces sub in
    let len : (segment g.spaces kind number).len ≤ most_length = segment-short g.spaces all kind number in
    let piece : (cut_of g.spaces kind).piece ≤ most_length = piece-short g.spaces all kind in
    let less : pieces_of g.spaces sub number ≤ (segment g.spaces kind number).len + ((cut_of g.spaces kind).piece - 1) = div-le_self ((segment g.spaces kind number).len + ((cut_of g.spaces kind).piece - 1)) (cut_of g.spaces kind).piece in
    omega (arith, len, piece, less)

-- a declared range ends at one of its kind's segments
between-few : (spaces : Spaces) → AllShort spaces → (kind : Kind) (lo hi : Option ℕ) (s : Span) → Some s ≡ span_between kind lo hi → is_at_most (segments_of spaces kind) hi ≡ true → (span_first s + span_count s) ≤ 4097
between-few spaces all kind None hi s same few = absurd cc
between-few spaces all kind (Some lo) None s same few = absurd cc
between-few spaces all kind (Some lo) (Some hi) s same few =
    let last : hi ≤ segments_of spaces kind = at-most hi (segments_of spaces kind) few in
    let most : segments_of spaces kind ≤ most_segments = segments-few spaces all kind in
    subst (λ (x : Span). (span_first x + span_count x) ≤ 4097) (sym (one-some s (segments_between kind lo hi) same))
    (elim (nat_lt hi lo) as (λ b. nat_lt hi lo ≡ b → (span_first (if b then Segments kind 1 0 else Segments kind lo ((hi + 1) - lo)) + span_count (if b then Segments kind 1 0 else Segments kind lo ((hi + 1) - lo))) ≤ 4097) [
      | true ↦ λ e. omega arith
      | false ↦ λ e. let after : lo ≤ hi = ltb-false hi lo e in omega (arith, after, last, most)
    ] refl)

range-few : (constants : Constants) (spaces : Spaces) → AllShort spaces → (r : Range) (s : Span) → Some s ≡ span_of_range constants r → has_segments constants spaces r ≡ true → (span_first s + span_count s) ≤ 4097
range-few constants spaces all (range.Segments kind lo hi) s same has =
    let rest = second-holds (nat_lt 0 (segments_of spaces kind)) (is_at_least 1 (bound_number constants lo) && is_at_most (segments_of spaces kind) (bound_number constants hi)) has in
    between-few spaces all kind (bound_number constants lo) (bound_number constants hi) s same
    (second-holds (is_at_least 1 (bound_number constants lo)) (is_at_most (segments_of spaces kind) (bound_number constants hi)) rest)
range-few constants spaces all (range.Sub super) s same has =
    subst (λ (x : Span). (span_first x + span_count x) ≤ 4097) (sym (one-some s (Pieces super) same)) (omega arith)

spans-few : (constants : Constants) (spaces : Spaces) → AllShort spaces → (spans : List Span) (indices : List IndexDecl) (i : ℕ) → map Some spans ≡ map (λ (i : IndexDecl). span_of_range constants i.range) indices
    → list_all (λ (i : IndexDecl). has_segments constants spaces i.range) indices ≡ true
    → (span_first (slice_index_or spans i (Segments Index 1 0)) + span_count (slice_index_or spans i (Segments Index 1 0))) ≤ 4097
spans-few constants spaces all [] indices i same has = omega arith
spans-few constants spaces all (s ∷ ss) [] i same has = absurd cc
spans-few constants spaces all (s ∷ ss) (d ∷ ds) zero same has =
    range-few constants spaces all d.range s
    (same-first (Some s) (span_of_range constants d.range) (map Some ss) (map (λ (i : IndexDecl). span_of_range constants i.range) ds) same)
    (first-holds (has_segments constants spaces d.range) (list_all (λ (i : IndexDecl). has_segments constants spaces i.range) ds) has)
spans-few constants spaces all (s ∷ ss) (d ∷ ds) (suc i) same has =
    spans-few constants spaces all ss ds i
    (same-rest (Some s) (span_of_range constants d.range) (map Some ss) (map (λ (i : IndexDecl). span_of_range constants i.range) ds) same)
    (second-holds (has_segments constants spaces d.range) (list_all (λ (i : IndexDecl). has_segments constants spaces i.range) ds) has)

-- the segments of each index of a sound setting have small numbers
pub segments-small : (g : Setting) → IsSound g → (i : ℕ) → (first_of g.spaces i + count_of g.spaces i) ≤ 4097
segments-small g sound i = spans-few sound.spaces.0 g.spaces (all-short g sound) g.spaces.spans g.program.indices i sound.spaces.1.spans sound.spaces.1.segments
