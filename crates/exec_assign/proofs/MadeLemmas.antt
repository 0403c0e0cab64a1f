-- Blocks assigned a right side, and what a worker holds then.
use Rattle.std.proofs.Common.{◌≡◌, ℕ, List, [], ◌||◌, length, map, Bool, true, false, Result, Ok, Err, refl, sym, ap, ◌∙◌, subst}
use Rattle.std.specs.Prelude.{if◌then◌else◌, IfOk, IfErr}
use Rattle.std.specs.Borrow.{Bor}
use Rattle.block_pool.specs.Memory.{Memory}
use Rattle.sial_syntax.specs.declared.array.ArrayKind.{ArrayKind}
use Rattle.sial_syntax.specs.declared.array.ArrayKind.TheVariants.{Static, Temp, Local, Distributed, Served}
use Rattle.sial_syntax.specs.declared.operand.BlockRef.{BlockRef}
use Rattle.sial_syntax.specs.declared.operand.Op.{Op}
use Rattle.sial_syntax.specs.declared.operand.Op.TheVariants.{Set, Add, Subtract, Scale}
use Rattle.sial_syntax.specs.Spaces.{Spaces, Extent, extent}
use Rattle.sial_meaning.specs.declared.trap.TrapKind.{TrapKind}
use Rattle.sial_meaning.specs.LocalStep.{Answer, and_then, integrals, integrated, needs_old, old_words, quiet, to_block, with_words}
use Rattle.sial_meaning.specs.Own.{Own, sight}
use Rattle.sial_meaning.specs.ReadBackLaws.{named_block}
use Rattle.sial_meaning.specs.Right.{Side, assigned, is_insertion}
use Rattle.sial_meaning.specs.Setting.{Setting, array_kind}
use Rattle.sial_meaning.proofs.Granted.Sameness.{answer-one}
use Rattle.exec_blocks.specs.Kept.{Kept}
use Rattle.exec_blocks.specs.Standing.{BlocksStand}
use Rattle.exec_scalars.specs.Numbers.{Numbers}
use Rattle.exec_sides.specs.Fits.{CanAssign, Fits, IsAssigned}
use Rattle.exec_sides.proofs.Forgetting.{old_forgotten}
use Rattle.exec_assign.specs.Made.{BlocksAreDone, BlocksEnd, words_made}
use Rattle.exec_assign.specs.Standing.{OwnStands}

module _ (g : Setting) (own : Own) (block : BlockRef) where
  -- old elements that aren't needed leave no trace
  over_old : (op : Op) (side : Side) (words mid : List ℕ) → (needs_old op || is_insertion g.spaces block.at side) ≡ false → Fits g.spaces own.values op (sight g own block mid) side
      → assigned g.spaces op (sight g own block words) side ≡ assigned g.spaces op (sight g own block mid) side
  over_old Set side words mid free fits = old_forgotten g.spaces own.values (sight g own block mid) side words fits free
  over_old Add side words mid free fits = absurd cc
  over_old Subtract side words mid free fits = absurd cc
  over_old Scale side words mid free fits = absurd cc

  -- a block that was assigned, over its old elements if they are needed and else over others
  pub made_over : (op : Op) (side : Side) (words others mid new : List ℕ) (needed : Bool) → mid ≡ (if needed then words else others)
      → needed ≡ (needs_old op || is_insertion g.spaces block.at side)
      → old_words g own block needed (array_kind g block.array) ≡ Ok words
      → Fits g.spaces own.values op (sight g own block mid) side
      → new ≡ assigned g.spaces op (sight g own block mid) side
      → words_made g own block op side ≡ Ok new
  made_over op side words others mid new needed brought asked old fits is =
      let there : words_made g own block op side ≡ Ok (assigned g.spaces op (sight g own block words) side) =
      ap (λ (o : Answer (List ℕ)). and_then o (λ ws. Ok (assigned g.spaces op (sight g own block ws) side)))
      (subst (λ (q : Bool). old_words g own block q (array_kind g block.array) ≡ Ok words) asked old) in
      there ∙ ap Ok (by needed brought asked fits ∙ sym is)
    where
      by : (q : Bool) → mid ≡ (if q then words else others) → q ≡ (needs_old op || is_insertion g.spaces block.at side) → Fits g.spaces own.values op (sight g own block mid) side
          → assigned g.spaces op (sight g own block words) side ≡ assigned g.spaces op (sight g own block mid) side
      by true same is fit = ap (λ (ws : List ℕ). assigned g.spaces op (sight g own block ws) side) (sym same)
      by false same is fit = over_old op side words mid (sym is) fit

  -- none, where the old elements aren't there
  pub made_trap : (op : Op) (side : Side) (kind : TrapKind) (needed : Bool) → needed ≡ (needs_old op || is_insertion g.spaces block.at side)
      → old_words g own block needed (array_kind g block.array) ≡ Err kind → words_made g own block op side ≡ Err kind
  made_trap op side kind needed asked old =
      ap (λ (o : Answer (List ℕ)). and_then o (λ ws. Ok (assigned g.spaces op (sight g own block ws) side)))
      (subst (λ (q : Bool). old_words g own block q (array_kind g block.array) ≡ Err kind) asked old)

  -- the same, of a block that was handed over with the numbers that its indices have
  pub made_here : (op : Op) (side : Side) (values at : List ℕ) (extents : List Extent) (words others mid new : List ℕ) (needed : Bool) → own.values ≡ values → at ≡ block.at → extents ≡ map (extent g.spaces values) block.at
      → mid ≡ (if needed then words else others) → needed ≡ (needs_old op || is_insertion g.spaces at side) → old_words g own block needed (array_kind g block.array) ≡ Ok words
      → Fits g.spaces values op (named_block g.spaces values block.at mid) side
      → IsAssigned op (record { at = at; extents = extents; words = mid }) side new
      → words_made g own block op side ≡ Ok new
  made_here op side values at extents words others mid new needed same named lies brought asked old fits is =
      let here : extents ≡ map (extent g.spaces own.values) block.at = lies ∙ ap (λ (vs : List ℕ). map (extent g.spaces vs) block.at) (sym same) in
      let shown : IsAssigned op (record { at = block.at; extents = extents; words = mid }) side new = subst (λ (a : List ℕ). IsAssigned op (record { at = a; extents = extents; words = mid }) side new) named is in
      let value : new ≡ assigned g.spaces op (record { at = block.at; extents = extents; words = mid }) side =
      shown g.spaces values (subst (λ (es : List Extent). Fits g.spaces values op (record { at = block.at; extents = es; words = mid }) side) (sym lies) fits) in
      made_over op side words others mid new needed brought (asked ∙ ap (λ (a : List ℕ). needs_old op || is_insertion g.spaces a side) named) old
      (subst (λ (vs : List ℕ). Fits g.spaces vs op (named_block g.spaces vs block.at mid) side) (sym same) fits)
      (value ∙ ap (λ (es : List Extent). assigned g.spaces op (record { at = block.at; extents = es; words = mid }) side) here)

-- a block that lies on these extents can be assigned
pub can_assign : (spaces : Spaces) (values named at : List ℕ) (op : Op) (side : Side) (extents : List Extent) (words : List ℕ) → at ≡ named → extents ≡ map (extent spaces values) named
    → Fits spaces values op (named_block spaces values named words) side → CanAssign op (record { at = at; extents = extents; words = words }) side
can_assign spaces values named at op side extents words same lies fits =
    let there : Fits spaces values op (record { at = named; extents = extents; words = words }) side = subst (λ (es : List Extent). Fits spaces values op (record { at = named; extents = es; words = words }) side) (sym lies) fits in
    (spaces, values, subst (λ (a : List ℕ). Fits spaces values op (record { at = a; extents = extents; words = words }) side) (sym same) there)

-- elements that were brought, or those that stood there, are as many
pub brought_long : (needed : Bool) (words others mid : List ℕ) (len : ℕ) → mid ≡ (if needed then words else others) → (needed ≡ true → length words ≡ len) → length others ≡ len → length mid ≡ len
brought_long true words others mid len is many same = ap length is ∙ many refl
brought_long false words others mid len is many same = ap length is ∙ same

-- what a call found, or its trap
pub found_ok : (found : Answer (List ℕ)) (result : Result (Bor (List ℕ)) TrapKind) (words : Bor (List ℕ)) → result ≡ Ok words → IfOk result (λ w. found ≡ Ok w.now) → found ≡ Ok words.now
found_ok found result words is ok = subst (λ (r : Result (Bor (List ℕ)) TrapKind). IfOk r (λ w. found ≡ Ok w.now)) is ok

pub found_err : (found : Answer (List ℕ)) (result : Result (Bor (List ℕ)) TrapKind) (kind : TrapKind) → result ≡ Err kind → IfErr result (λ k. found ≡ Err k) → found ≡ Err kind
found_err found result kind is err = subst (λ (r : Result (Bor (List ℕ)) TrapKind). IfErr r (λ k. found ≡ Err k)) is err

-- the elements that a target had, where they are needed, are as many as it has positions
pub old_many : (g : Setting) (own : Own) (block : BlockRef) (needed : Bool) (words : List ℕ) (len : ℕ) → old_words g own block needed (array_kind g block.array) ≡ Ok words
    → ((ws : List ℕ) → old_words g own block true (array_kind g block.array) ≡ Ok ws → length ws ≡ len) → needed ≡ true → length words ≡ len
old_many g own block needed words len ok many asked = many words (subst (λ (q : Bool). old_words g own block q (array_kind g block.array) ≡ Ok words) asked ok)

-- integrals don't depend on the elements that stood there
pub integrals_made : (g : Setting) (own : Own) (block : BlockRef) (values at : List ℕ) (extents : List Extent) (words new : List ℕ) → own.values ≡ values → extents ≡ map (extent g.spaces values) block.at
    → new ≡ integrals (record { at = at; extents = extents; words = words }) → new ≡ integrals (sight g own block [])
integrals_made g own block values at extents words new same lies is =
    is ∙ ap (λ (es : List Extent). integrals (record { at = block.at; extents = es; words = [] })) (lies ∙ ap (λ (vs : List ℕ). map (extent g.spaces vs) block.at) (sym same))

-- other blocks, and nothing else changed
module _ (g : Setting) (n : Numbers) (values : List ℕ) (p p1 : Memory) (b b1 : Kept) (own : Own) (partials : List ℕ) (block : BlockRef) (stands : OwnStands g p n b values own partials) where
  done_by : (words : List ℕ) (kind : ArrayKind) → BlocksStand g p1 b1 (with_words g block words own kind)
      → BlocksAreDone g p1 n b1 values own (record { own = with_words g block words own kind; partials = partials; printed = [] })
  done_by words Static blocks = record { stands = record { indices = stands.indices; scalars = record { scalars = stands.scalars.scalars; partials_are = stands.scalars.partials_are }; blocks = blocks }; rest = refl; quiet = refl }
  done_by words Temp blocks = record { stands = record { indices = stands.indices; scalars = record { scalars = stands.scalars.scalars; partials_are = stands.scalars.partials_are }; blocks = blocks }; rest = refl; quiet = refl }
  done_by words Local blocks = record { stands = record { indices = stands.indices; scalars = record { scalars = stands.scalars.scalars; partials_are = stands.scalars.partials_are }; blocks = blocks }; rest = refl; quiet = refl }
  done_by words Distributed blocks = record { stands = record { indices = stands.indices; scalars = stands.scalars; blocks = blocks }; rest = refl; quiet = refl }
  done_by words Served blocks = record { stands = record { indices = stands.indices; scalars = stands.scalars; blocks = blocks }; rest = refl; quiet = refl }

  -- these elements were put down
  put_down : (words made : List ℕ) → ◌≡◌ {A = Answer (List ℕ)} (Ok made) (Ok words) → BlocksStand g p1 b1 (with_words g block words own (array_kind g block.array))
      → BlocksAreDone g p1 n b1 values own (record { own = with_words g block made own (array_kind g block.array); partials = partials; printed = [] })
  put_down words made is blocks = done_by made (array_kind g block.array) (subst (λ (ws : List ℕ). BlocksStand g p1 b1 (with_words g block ws own (array_kind g block.array))) (sym (answer-one made words is)) blocks)

  -- an assignment ended
  pub assigned_ends : (op : Op) (read : Answer Side) (words : List ℕ) → and_then read (words_made g own block op) ≡ Ok words
      → BlocksStand g p1 b1 (with_words g block words own (array_kind g block.array))
      → BlocksEnd g n values p p1 b b1 own (and_then read (λ side. to_block g block op side own partials)) (Ok tt)
  assigned_ends op (Err trap) words made blocks = absurd cc
  assigned_ends op (Ok side) words made blocks = by (old_words g own block (needs_old op || is_insertion g.spaces block.at side) (array_kind g block.array)) made
    where
      by : (old : Answer (List ℕ)) → and_then old (λ ws. Ok (assigned g.spaces op (sight g own block ws) side)) ≡ Ok words
          → BlocksEnd g n values p p1 b b1 own (and_then old (λ ws. quiet (with_words g block (assigned g.spaces op (sight g own block ws) side) own (array_kind g block.array)) partials)) (Ok tt)
      by (Ok ws) e = put_down words (assigned g.spaces op (sight g own block ws) side) e blocks
      by (Err trap) e = absurd cc

  -- integrals were computed
  pub integrals_end : (words old : List ℕ) → old_words g own block false (array_kind g block.array) ≡ Ok old → words ≡ integrals (sight g own block [])
      → BlocksStand g p1 b1 (with_words g block words own (array_kind g block.array))
      → BlocksEnd g n values p p1 b b1 own (integrated g block own partials) (Ok tt)
  integrals_end words old there is blocks =
      subst (λ (o : Answer (List ℕ)). BlocksEnd g n values p p1 b b1 own (and_then o (λ ws. quiet (with_words g block (integrals (sight g own block [])) own (array_kind g block.array)) partials)) (Ok tt)) (sym there)
      (put_down words (integrals (sight g own block [])) (ap Ok (sym is)) blocks)

-- nothing changed
module _ (g : Setting) (n : Numbers) (values : List ℕ) (p : Memory) (b : Kept) (own : Own) (partials : List ℕ) (block : BlockRef) (kind : TrapKind) where
  -- an assignment trapped
  pub assigned_trap : (op : Op) (read : Answer Side) → and_then read (words_made g own block op) ≡ Err kind
      → BlocksEnd g n values p p b b own (and_then read (λ side. to_block g block op side own partials)) (Err kind)
  assigned_trap op (Err trap) made = (sym (same_trap trap made), refl, refl)
    where
      same_trap : (trap : TrapKind) → ◌≡◌ {A = Answer (List ℕ)} (Err trap) (Err kind) → trap ≡ kind
      same_trap trap e = cc
  assigned_trap op (Ok side) made = by (old_words g own block (needs_old op || is_insertion g.spaces block.at side) (array_kind g block.array)) made
    where
      same_trap : (trap : TrapKind) → ◌≡◌ {A = Answer (List ℕ)} (Err trap) (Err kind) → trap ≡ kind
      same_trap trap e = cc

      by : (old : Answer (List ℕ)) → and_then old (λ ws. Ok (assigned g.spaces op (sight g own block ws) side)) ≡ Err kind
          → BlocksEnd g n values p p b b own (and_then old (λ ws. quiet (with_words g block (assigned g.spaces op (sight g own block ws) side) own (array_kind g block.array)) partials)) (Err kind)
      by (Ok ws) e = absurd cc
      by (Err trap) e = (sym (same_trap trap e), refl, refl)

  -- so did integrals
  pub integrals_trap : old_words g own block false (array_kind g block.array) ≡ Err kind → BlocksEnd g n values p p b b own (integrated g block own partials) (Err kind)
  integrals_trap there =
      subst (λ (o : Answer (List ℕ)). BlocksEnd g n values p p b b own (and_then o (λ ws. quiet (with_words g block (integrals (sight g own block [])) own (array_kind g block.array)) partials)) (Err kind)) (sym there)
      (refl, refl, refl)
