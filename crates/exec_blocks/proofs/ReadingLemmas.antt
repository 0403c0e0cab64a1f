-- What stands at the place of a named block is what the block is in the state.
use Rattle.std.proofs.Common.{◌≡◌, ℕ, ◌<◌, List, [], length, slice_index_or, true, false, Ok, Err, Option, Some, None, refl, sym, ap, ◌∙◌, subst}
use Rattle.std.specs.Option.{option_map, unwrap_or}
use Rattle.sial_syntax.specs.declared.array.ArrayKind.{ArrayKind}
use Rattle.sial_syntax.specs.declared.array.ArrayKind.TheVariants.{Static, Temp, Local, Distributed, Served}
use Rattle.sial_syntax.specs.declared.operand.BlockRef.{BlockRef}
use Rattle.sial_syntax.specs.Spaces.{rank_of, same_kind}
use Rattle.sial_meaning.specs.declared.trap.TrapKind.TheVariants.{UnsetBlock, LocalMissing}
use Rattle.sial_meaning.specs.LocalStep.{words_of, words_by_kind, held_words, is_shared_kind, or_trap}
use Rattle.sial_meaning.specs.Own.{Own, Held, static_block, local_block, temp_of, members_of, same_members, number_of}
use Rattle.sial_meaning.specs.Setting.{Setting, array_kind, dims_of, block_count}
use Rattle.block_pool.specs.Memory.{Memory}
use Rattle.block_seats.specs.Seated.{Seated, block_at}
use Rattle.exec_names.specs.Naming.{numbers_of}
use Rattle.exec_blocks.specs.Kept.{Kept, place_by, place_of}
use Rattle.exec_blocks.specs.Standing.{IsLaidOut, BlocksStand, IsNamed}
use Rattle.exec_blocks.proofs.SettingLemmas.{rank-below}
use Rattle.exec_blocks.proofs.PlaceLemmas.{static-placed, local-placed, temp-placed}

module _ (g : Setting) (p : Memory) (b : Kept) (own : Own) (block : BlockRef) (named : IsNamed g own.values block) where
  -- the number of a block of an array of this kind is one of the array's
  pub number-below : (kind : ArrayKind) → array_kind g block.array ≡ kind → same_kind kind Temp ≡ false → number_of g own block < block_count g block.array
  number-below kind is other = rank-below g own.values block (named.among (ap (λ k. same_kind k Temp) is ∙ other))

  -- where it stands
  pub place-is : (kind : ArrayKind) → array_kind g block.array ≡ kind → place_of g b own.values block ≡ place_by g b block.array (number_of g own block) kind
  place-is kind is = ap (place_by g b block.array (number_of g own block)) is

  module _ (stands : BlocksStand g p b own) where
    -- a static block
    pub static-is : array_kind g block.array ≡ Static → block_at p b.seats (place_of g b own.values block) ≡ Some (static_block own block.array (number_of g own block))
    static-is is = ap (block_at p b.seats) (place-is Static is) ∙ stands.statics block.array (number_of g own block) is (number-below Static is refl)

    -- a local one
    pub local-is : array_kind g block.array ≡ Local → block_at p b.seats (place_of g b own.values block) ≡ local_block own block.array (number_of g own block)
    local-is is = ap (block_at p b.seats) (place-is Local is) ∙ stands.locals block.array (number_of g own block) is (number-below Local is refl)

    -- that of a temp
    pub temp-is : array_kind g block.array ≡ Temp → block_at p b.seats (place_of g b own.values block) ≡ option_map (λ (held : Held). held.words) (temp_of own block.array)
    temp-is is = ap (block_at p b.seats) (place-is Temp is) ∙ stands.temps block.array named.declared is

    -- the words that were found, or none
    pub found-static : (w : List ℕ) → array_kind g block.array ≡ Static → block_at p b.seats (place_of g b own.values block) ≡ Some w → words_of g own block [] ≡ Ok w
    found-static w is found =
        let same : static_block own block.array (number_of g own block) ≡ w = cc (static-is is, found) in
        ap (words_by_kind g own block []) is ∙ ap Ok same

    pub found-local : (w : List ℕ) → array_kind g block.array ≡ Local → block_at p b.seats (place_of g b own.values block) ≡ Some w → words_of g own block [] ≡ Ok w
    found-local w is found = ap (words_by_kind g own block []) is ∙ ap (or_trap LocalMissing) (sym (local-is is) ∙ found)

    pub missing-local : array_kind g block.array ≡ Local → block_at p b.seats (place_of g b own.values block) ≡ None → words_of g own block [] ≡ Err LocalMissing
    missing-local is found = ap (words_by_kind g own block []) is ∙ ap (or_trap LocalMissing) (sym (local-is is) ∙ found)

    -- never of a static one
    pub missing-static : array_kind g block.array ≡ Static → block_at p b.seats (place_of g b own.values block) ≡ None → ⊥
    missing-static is found = absurd (cc (static-is is, found))

    -- the block of a temp, where the tuple is the named one
    pub found-temp : (w : List ℕ) → array_kind g block.array ≡ Temp → same_members (slice_index_or b.tuples block.array []) (members_of g own block.at) ≡ true
        → block_at p b.seats (place_of g b own.values block) ≡ Some w → words_of g own block [] ≡ Ok w
    found-temp w is tuple found = by (temp_of own block.array) refl
      where
        by : (held : Option Held) → temp_of own block.array ≡ held → words_of g own block [] ≡ Ok w
        by None at = absurd (cc (temp-is is, found, ap (option_map (λ (h : Held). h.words)) at))
        by (Some h) at =
            let members : slice_index_or b.tuples block.array [] ≡ h.members = stands.tuples block.array h named.declared is at in
            let words : h.words ≡ w = cc (temp-is is, found, ap (option_map (λ (h : Held). h.words)) at) in
            let same : same_members h.members (members_of g own block.at) ≡ true = ap (λ (ms : List (ℕ × ℕ)). same_members ms (members_of g own block.at)) (sym members) ∙ tuple in
            ap (words_by_kind g own block []) is ∙ (ap (λ (o : Option Held). or_trap UnsetBlock (held_words o (members_of g own block.at))) at ∙ rw (same, words) refl)

    -- a temp without a block
    pub missing-temp : array_kind g block.array ≡ Temp → block_at p b.seats (place_of g b own.values block) ≡ None → words_of g own block [] ≡ Err UnsetBlock
    missing-temp is found = by (temp_of own block.array) refl
      where
        by : (held : Option Held) → temp_of own block.array ≡ held → words_of g own block [] ≡ Err UnsetBlock
        by None at = ap (words_by_kind g own block []) is ∙ ap (λ (o : Option Held). or_trap UnsetBlock (held_words o (members_of g own block.at))) at
        by (Some h) at = absurd (cc (temp-is is, found, ap (option_map (λ (h : Held). h.words)) at))

    -- one with another tuple
    pub other-temp : array_kind g block.array ≡ Temp → same_members (slice_index_or b.tuples block.array []) (members_of g own block.at) ≡ false → words_of g own block [] ≡ Err UnsetBlock
    other-temp is tuple = by (temp_of own block.array) refl
      where
        by : (held : Option Held) → temp_of own block.array ≡ held → words_of g own block [] ≡ Err UnsetBlock
        by None at = ap (words_by_kind g own block []) is ∙ ap (λ (o : Option Held). or_trap UnsetBlock (held_words o (members_of g own block.at))) at
        by (Some h) at =
            let members : slice_index_or b.tuples block.array [] ≡ h.members = stands.tuples block.array h named.declared is at in
            let other : same_members h.members (members_of g own block.at) ≡ false = ap (λ (ms : List (ℕ × ℕ)). same_members ms (members_of g own block.at)) (sym members) ∙ tuple in
            ap (words_by_kind g own block []) is ∙ (ap (λ (o : Option Held). or_trap UnsetBlock (held_words o (members_of g own block.at))) at ∙ rw other refl)

-- a named block has a place
pub place-there : (g : Setting) (b : Kept) (values : List ℕ) (block : BlockRef) (kind : ArrayKind) → IsLaidOut g b → IsNamed g values block → array_kind g block.array ≡ kind → is_shared_kind kind ≡ false → place_of g b values block < length b.seats.slots
place-there g b values block Static laid named is own =
    subst (λ (n : ℕ). n < length b.seats.slots) (sym (ap (place_by g b block.array (rank_of g.spaces (dims_of g block.array) (numbers_of values block.at))) is))
    (static-placed g b block.array _ laid is (rank-below g values block (named.among (ap (λ k. same_kind k Temp) is))))
place-there g b values block Local laid named is own =
    subst (λ (n : ℕ). n < length b.seats.slots) (sym (ap (place_by g b block.array (rank_of g.spaces (dims_of g block.array) (numbers_of values block.at))) is))
    (local-placed g b block.array _ laid is (rank-below g values block (named.among (ap (λ k. same_kind k Temp) is))))
place-there g b values block Temp laid named is own =
    subst (λ (n : ℕ). n < length b.seats.slots) (sym (ap (place_by g b block.array (rank_of g.spaces (dims_of g block.array) (numbers_of values block.at))) is))
    (temp-placed g b block.array laid named.declared)
place-there g b values block Distributed laid named is own = absurd cc
place-there g b values block Served laid named is own = absurd cc

-- a static block at its place
pub fixed-read : (g : Setting) (p : Memory) (b : Kept) (own : Own) (array number place : ℕ) (seats : Seated) (words : List ℕ) → array_kind g array ≡ Static → number < block_count g array → BlocksStand g p b own
    → seats ≡ b.seats → place ≡ place_by g b array number Static → words ≡ unwrap_or (block_at p seats place) [] → words ≡ static_block own array number
fixed-read g p b own array number place seats words is below stands same at read =
    read ∙ ap (λ (o : Option (List ℕ)). unwrap_or o []) (ap (λ (s : Seated). block_at p s place) same ∙ (ap (block_at p b.seats) at ∙ stands.statics array number is below))
