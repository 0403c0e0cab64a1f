-- The input's blocks put down over zeros, and what the blocks then stand for.
use Rattle.std.proofs.Common.{◌≡◌, ◌≢◌, ℕ, zero, suc, ◌+◌, ◌<◌, ◌≤◌, List, [], ◌∷◌, map, drop, length, slice_index_or, replicate, Bool, true, false, cond, ◌==◌, ◌&&◌, ◌||◌, nat_lt, Option, Some, None, refl, sym, ap, ◌∙◌, subst, eqb-true, arith}
use Rattle.std.proofs.lemmas.Bool.{eq-eqb}
use Rattle.std.proofs.lemmas.Bool.Decides.{nat_tests}
use Rattle.std.proofs.lemmas.List.{length-replicate}
use Rattle.std.proofs.Math.Seq.{drop-cons}
use Rattle.std.specs.Prelude.{find}
use Rattle.std.specs.List.{list_all, list_any}
use Rattle.std.specs.Option.{option_map}
use Rattle.sial_syntax.specs.declared.array.ArrayKind.{ArrayKind}
use Rattle.sial_syntax.specs.declared.array.ArrayKind.TheVariants.{Static, Temp, Local, Distributed, Served}
use Rattle.sial_syntax.specs.Proper.{is_number}
use Rattle.sial_syntax.specs.Spaces.{same_kind}
use Rattle.sial_meaning.specs.Own.{Own, Held, for_each, given_or, static_block, local_block, temp_of, start_block, start_statics, start_locals, start_own}
use Rattle.sial_meaning.specs.Setting.{Setting, Given, array_kind, block_count, block_words, zeros}
use Rattle.sial_meaning.specs.Sound.{IsSound, given_twice, is_start, may_be_given, same_given}
use Rattle.sial_meaning.proofs.AcceptedInOtherWords.Pairs.{first-holds, second-holds}
use Rattle.sial_meaning.proofs.Granted.Runs.{declared-array}
use Rattle.sial_meaning.proofs.PardosKeepTheControl.Changes.{each-long}
use Rattle.sial_meaning.proofs.StatesAreWhole.Created.{each-read}
use Rattle.sial_meaning.proofs.StepsReachTheFold.Rules.{neither}
use Rattle.index_spaces.specs.Starting.{given_of}
use Rattle.index_spaces.specs.declared.start.StartBlock.{StartBlock}
use Rattle.sip_setting.specs.Given.{given}
use Rattle.block_pool.specs.Memory.{Memory}
use Rattle.block_seats.specs.Counted.{HasRunRoom}
use Rattle.block_seats.specs.Putting.{Puts}
use Rattle.block_seats.specs.Seated.{IsWide, Seated, block_at}
use Rattle.block_seats.proofs.RoomLemmas.{room-after}
use Rattle.exec_blocks.specs.Beginning.{static_blocks}
use Rattle.exec_blocks.proofs.BeginLemmas.{opens-put, static-within}
use Rattle.exec_blocks.specs.Kept.{Kept, place_by}
use Rattle.exec_blocks.specs.Standing.{BlocksStand, IsLaidOut}
use Rattle.exec_blocks.specs.Starting.{AreGiven, AreStartBut, AreZeros, Opens, is_at, static_at}
use Rattle.exec_blocks.proofs.PlaceLemmas.{places-differ, local-placed}

-- a block that is given once isn't given again
find-none : (left : List Given) (b : Given) (a n : ℕ) → list_any (same_given b) left ≡ false → b.array ≡ a → b.number ≡ n → find (is_at a n) left ≡ None
find-none [] b a n once is-a is-n = refl
find-none (x ∷ xs) b a n once is-a is-n =
    let parts = neither (same_given b x) (list_any (same_given b) xs) once in
    elim (is_at a n x) as (λ t. is_at a n x ≡ t → cond t (Some x) (find (is_at a n) xs) ≡ None) [
      | true ↦ λ e.
          let xa : x.array ≡ a = eqb-true x.array a (first-holds (x.array == a) (x.number == n) e) in
          let xn : x.number ≡ n = eqb-true x.number n (second-holds (x.array == a) (x.number == n) e) in
          let one : (b.array == x.array) ≡ true = eq-eqb b.array x.array (is-a ∙ sym xa) in
          let two : (b.number == x.number) ≡ true = eq-eqb b.number x.number (is-n ∙ sym xn) in
          let same : same_given b x ≡ true = ap (λ t. t && (b.number == x.number)) one ∙ two in
          absurd (cc (same, parts.0))
      | false ↦ λ e. find-none xs b a n parts.1 is-a is-n
    ] refl

-- the blocks that are left behind the first
pub given-rest : (g : Setting) (b : Given) (left : List Given) → AreGiven g (b ∷ left) → AreGiven g left
given-rest g b left are = record {
  all = second-holds (is_start g b) (list_all (is_start g) left) are.all;
  once = (neither (list_any (same_given b) left) (given_twice left) are.once).1;
}

-- a given block is one of its array's, with its length
pub given-below : (g : Setting) (b : Given) → is_start g b ≡ true → (b.number < block_count g b.array) × (length b.words ≡ block_words g b.array b.number)
given-below g b is =
    let words = (length b.words == block_words g b.array b.number) && list_all is_number b.words in
    let one = second-holds (may_be_given (array_kind g b.array)) (nat_lt b.number (block_count g b.array) && words) is in
    let low : nat_lt b.number (block_count g b.array) ≡ true = first-holds (nat_lt b.number (block_count g b.array)) words one in
    let two = second-holds (nat_lt b.number (block_count g b.array)) words one in (
      grind (arith, nat_tests, low),
      eqb-true (length b.words) (block_words g b.array b.number) (first-holds (length b.words == block_words g b.array b.number) (list_all is_number b.words) two),
    )

-- one of a static array is put down
pub start-put : {p p1 : Memory} (g : Setting) (b : Given) (left : List Given) (s s1 : Seated) → array_kind g b.array ≡ Static → is_start g b ≡ true → AreGiven g (b ∷ left)
    → AreStartBut g p s (b ∷ left) → Puts p p1 s s1 (static_at g b.array b.number) (Some b.words) → AreStartBut g p1 s1 left
start-put {p} {p1} g b left s s1 is fits given start puts = λ a n kind under.
    let was = start a n kind under in
    elim (is_at a n b) as (λ t. is_at a n b ≡ t → (words : List ℕ) × (block_at p1 s1 (static_at g a n) ≡ Some words) × (given_or (find (is_at a n) left) words ≡ start_block g a n)) [
      | true ↦ λ e.
          let ba : b.array ≡ a = eqb-true b.array a (first-holds (b.array == a) (b.number == n) e) in
          let bn : b.number ≡ n = eqb-true b.number n (second-holds (b.array == a) (b.number == n) e) in
          let found : find (is_at a n) (b ∷ left) ≡ Some b = ap (λ t. cond t (Some b) (find (is_at a n) left)) e in
          let words : b.words ≡ start_block g a n = sym (ap (λ (o : Option Given). given_or o was.0) found) ∙ was.2 in
          let none : find (is_at a n) left ≡ None = find-none left b a n (neither (list_any (same_given b) left) (given_twice left) given.once).0 ba bn in (
            b.words,
            ap (λ x. block_at p1 s1 (static_at g x n)) (sym ba) ∙ (ap (λ x. block_at p1 s1 (static_at g b.array x)) (sym bn) ∙ puts.here),
            ap (λ (o : Option Given). given_or o b.words) none ∙ words,
          )
      | false ↦ λ e.
          let skip : find (is_at a n) (b ∷ left) ≡ find (is_at a n) left = ap (λ t. cond t (Some b) (find (is_at a n) left)) e in
          let apart : a ≡ b.array → n ≢ b.number = λ ab nb.
          let at : is_at a n b ≡ true = ap (λ t. t && (b.number == n)) (eq-eqb b.array a (sym ab)) ∙ eq-eqb b.number n (sym nb) in
          absurd (cc (at, e)) in (
            was.0,
            puts.others (static_at g a n) (places-differ g Static b.array b.number a n refl is kind (given-below g b fits).0 under apart) ∙ was.1,
            sym (ap (λ (o : Option Given). given_or o was.0) skip) ∙ was.2,
          )
    ] refl

-- one of another array isn't
pub start-skip : (g : Setting) (p : Memory) (b : Given) (left : List Given) (s : Seated) → (array_kind g b.array ≡ Static → ⊥) → AreStartBut g p s (b ∷ left) → AreStartBut g p s left
start-skip g p b left s other start = λ a n kind under.
    let was = start a n kind under in
    elim (is_at a n b) as (λ t. is_at a n b ≡ t → (words : List ℕ) × (block_at p s (static_at g a n) ≡ Some words) × (given_or (find (is_at a n) left) words ≡ start_block g a n)) [
      | true ↦ λ e. absurd (other (ap (array_kind g) (eqb-true b.array a (first-holds (b.array == a) (b.number == n) e)) ∙ kind))
      | false ↦ λ e.
          let skip : find (is_at a n) (b ∷ left) ≡ find (is_at a n) left = ap (λ t. cond t (Some b) (find (is_at a n) left)) e in
          (was.0, was.1, sym (ap (λ (o : Option Given). given_or o was.0) skip) ∙ was.2)
    ] refl

-- zeros are the start but for all given blocks
pub start-zeros : (g : Setting) (p : Memory) (s : Seated) → AreZeros g p s (length g.program.arrays) → AreStartBut g p s g.blocks
start-zeros g p s zeroed = λ a n kind under. (zeros g a n, zeroed a n kind under (declared-array g a Static kind refl), refl)

-- what isn't there of other kinds
no-statics : (g : Setting) (a : ℕ) (kind : ArrayKind) → same_kind kind Static ≡ false → start_statics g a kind ≡ []
no-statics g a Static other = absurd cc
no-statics g a Temp other = refl
no-statics g a Local other = refl
no-statics g a Distributed other = refl
no-statics g a Served other = refl

no-locals : (g : Setting) (a : ℕ) (kind : ArrayKind) → same_kind kind Local ≡ false → start_locals g a kind ≡ []
no-locals g a Static other = refl
no-locals g a Temp other = refl
no-locals g a Local other = absurd cc
no-locals g a Distributed other = refl
no-locals g a Served other = refl

-- a row of nothing
nothing : {X : Type 0} (n k : ℕ) → ◌≡◌ {A = Option X} (slice_index_or (replicate n None) k None) None
nothing zero k = refl
nothing (suc n) zero = refl
nothing (suc n) (suc k) = nothing n k

module _ (g : Setting) where
  static-row : (a : ℕ) → a < length g.program.arrays → slice_index_or (start_own g).statics a [] ≡ start_statics g a (array_kind g a)
  static-row a declared = each-read (length g.program.arrays) (λ a. start_statics g a (array_kind g a)) a [] declared

  local-row : (a : ℕ) → a < length g.program.arrays → slice_index_or (start_own g).locals a [] ≡ start_locals g a (array_kind g a)
  local-row a declared = each-read (length g.program.arrays) (λ a. start_locals g a (array_kind g a)) a [] declared

  row-of : (a : ℕ) → array_kind g a ≡ Static → slice_index_or (start_own g).statics a [] ≡ for_each (block_count g a) (start_block g a)
  row-of a is = static-row a (declared-array g a Static is refl) ∙ ap (start_statics g a) is

  local-of : (a : ℕ) → array_kind g a ≡ Local → slice_index_or (start_own g).locals a [] ≡ replicate (block_count g a) None
  local-of a is = local-row a (declared-array g a Local is refl) ∙ ap (start_locals g a) is

  -- the blocks stand for what a worker holds as its program begins
  pub start-stands : {p p1 : Memory} (b : Kept) (after : Seated) (places : ℕ) → IsLaidOut g b → Opens g p p1 places after → AreStartBut g p1 after [] → BlocksStand g p1 (record b { seats = after }) (start_own g)
  start-stands {p} {p1} b after places laid opens start = record {
    rows = record {
      statics = each-long (length g.program.arrays) (λ a. start_statics g a (array_kind g a));
      temps = length-replicate (length g.program.arrays) None;
      locals = each-long (length g.program.arrays) (λ a. start_locals g a (array_kind g a));
      static_rows = λ a is. ap length (row-of a is) ∙ each-long (block_count g a) (start_block g a);
      local_rows = λ a is. ap length (local-of a is) ∙ length-replicate (block_count g a) None;
    };
    statics = λ a n is below.
        let was = start a n is below in
        let read : static_block (start_own g) a n ≡ start_block g a n = ap (λ (row : List (List ℕ)). slice_index_or row n []) (row-of a is) ∙ each-read (block_count g a) (start_block g a) n [] below in
        was.1 ∙ ap Some (was.2 ∙ sym read);
    locals = λ a n is below.
        opens.rest (place_by g b a n Local) (omega (arith, laid.locals_at))
        ∙ sym (ap (λ (row : List (Option (List ℕ))). slice_index_or row n None) (local-of a is) ∙ nothing (block_count g a) n);
    temps = λ a declared is.
        opens.rest (place_by g b a 0 Temp) (omega (arith, laid.locals_at, laid.temps_at))
        ∙ sym (ap (option_map (λ (held : Held). held.words)) (nothing (length g.program.arrays) a));
    tuples = λ a held declared is has. absurd (cc (nothing {X = Held} (length g.program.arrays) a, has));
    others = λ a declared. (
      λ other. static-row a declared ∙ no-statics g a (array_kind g a) other,
      λ other. local-row a declared ∙ no-locals g a (array_kind g a) other,
      λ other. (nothing (length g.program.arrays) a, opens.rest (place_by g b a 0 Temp) (omega (arith, laid.locals_at, laid.temps_at))),
    );
  }

-- given blocks are being put down one after another
pub record Starting (g : Setting) (p0 : Memory) (s0 : Seated) (p : Memory) (s : Seated) (left : List Given) : Type 0 where
  pub room : HasRunRoom p s 0 (static_blocks g)
  pub wide : (len : ℕ) → IsWide p0 len → IsWide p len
  pub opens : (old : Memory) (count : ℕ) → Opens g old p0 count s0 → Opens g old p count s
  pub start : AreStartBut g p0 s0 g.blocks → AreStartBut g p s left
  pub given : AreGiven g left

-- a static one is
pub starting-put : {p p1 : Memory} (g : Setting) (p0 : Memory) (s0 s s1 : Seated) (b : Given) (left : List Given) → array_kind g b.array ≡ Static → is_start g b ≡ true → Starting g p0 s0 p s (b ∷ left)
    → Puts p p1 s s1 (static_at g b.array b.number) (Some b.words) → Starting g p0 s0 p1 s1 left
starting-put {p} {p1} g p0 s0 s s1 b left is fits was puts =
    let below = (given-below g b fits).0 in
    record {
      room = room-after 0 (static_blocks g) (static_at g b.array b.number) b.words was.room (omega arith) (static-within g b.array b.number is below) puts;
      wide = λ len wide. puts.leaves.wide len (was.wide len wide);
      opens = λ old count opens. opens-put g s s1 b.array b.number b.words is below puts old count (was.opens old count opens);
      start = λ start. start-put g b left s s1 is fits was.given (was.start start) puts;
      given = given-rest g b left was.given;
    }

-- another isn't
pub starting-skip : {p : Memory} (g : Setting) (p0 : Memory) (s0 s : Seated) (b : Given) (left : List Given) → (array_kind g b.array ≡ Static → ⊥) → Starting g p0 s0 p s (b ∷ left) → Starting g p0 s0 p s left
starting-skip {p} g p0 s0 s b left other was = record {
  room = was.room;
  wide = was.wide;
  opens = was.opens;
  start = λ start. start-skip g p b left s other (was.start start);
  given = given-rest g b left was.given;
}

-- the next one is where it is static, and isn't where it is of another array
pub starting-next : {p p1 : Memory} (g : Setting) (p0 : Memory) (s0 s s1 : Seated) (b : Given) (left : List Given) → is_start g b ≡ true
    → (array_kind g b.array ≡ Static → Puts p p1 s s1 (static_at g b.array b.number) (Some b.words)) → ((array_kind g b.array ≡ Static → ⊥) → (p1 ≡ p) × (s1 ≡ s)) → Starting g p0 s0 p s (b ∷ left)
    → Starting g p0 s0 p1 s1 left
starting-next {p} {p1} g p0 s0 s s1 b left fits fixed other was = by (array_kind g b.array) refl
  where
    skip : (array_kind g b.array ≡ Static → ⊥) → Starting g p0 s0 p1 s1 left
    skip not = let same = other not in rw (same.0, same.1) (starting-skip g p0 s0 s b left not was)

    by : (kind : ArrayKind) → array_kind g b.array ≡ kind → Starting g p0 s0 p1 s1 left
    by Static is = starting-put g p0 s0 s s1 b left is fits was (fixed is)
    by Temp is = skip (λ e. absurd (cc (is, e)))
    by Local is = skip (λ e. absurd (cc (is, e)))
    by Distributed is = skip (λ e. absurd (cc (is, e)))
    by Served is = skip (λ e. absurd (cc (is, e)))

-- none was
pub starting-none : (g : Setting) (p : Memory) (s : Seated) (left : List Given) → IsSound g → left ≡ g.blocks → HasRunRoom p s 0 (static_blocks g) → Starting g p s p s left
starting-none g p s left sound are room = record {
  room = room;
  wide = λ len wide. wide;
  opens = λ old count opens. opens;
  start = λ start. subst (λ (bs : List Given). AreStartBut g p s bs) (sym are) start;
  given = subst (λ (bs : List Given). AreGiven g bs) (sym are) (record { all = sound.blocks; once = sound.once });
}

-- the first of those that are left fits its array
pub first-fits : (g : Setting) (b : Given) (left : List Given) → AreGiven g (b ∷ left) → is_start g b ≡ true
first-fits g b left are = first-holds (is_start g b) (list_all (is_start g) left) are.all

-- the blocks of a list that are left at a place, with their first
pub left-at : (blocks : List StartBlock) (i : ℕ) (b : StartBlock) → i < length blocks → b ≡ slice_index_or blocks i b
    → map given (map given_of (drop i blocks)) ≡ given (given_of b) ∷ map given (map given_of (drop (i + 1) blocks))
left-at blocks i b within is =
    let next : suc i ≡ i + 1 = omega arith in
    let split : drop i blocks ≡ b ∷ drop (i + 1) blocks =
    drop-cons blocks i b within ∙ (ap (λ (x : StartBlock). x ∷ drop (suc i) blocks) (sym is) ∙ ap (λ (n : ℕ). b ∷ drop n blocks) next) in
    ap (λ (bs : List StartBlock). map given (map given_of bs)) split
