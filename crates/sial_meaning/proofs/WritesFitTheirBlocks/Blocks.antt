-- Blocks that a statement names, where their indices are bound within their ranges: which block each is, and how long.
use Rattle.std.proofs.Common.{◌≡◌, ℕ, ◌<◌, inl, inr, List, [], ◌∷◌, ◌++◌, map, length, Bool, true, false, ◌==◌, ◌&&◌, ◌||◌, refl, sym, ap, ◌∙◌, eqb-true}
use Rattle.std.specs.Prelude.{flat_map}
use Rattle.std.specs.List.{list_all, list_any}
use Rattle.sial_syntax.specs.declared.array.ArrayKind.TheVariants.{Temp}
use Rattle.sial_syntax.specs.declared.operand.BlockRef.{BlockRef}
use Rattle.sial_syntax.specs.Agreeing.{contains, all_in, fits_dims, array_in}
use Rattle.sial_syntax.specs.Boxes.{volume}
use Rattle.sial_syntax.specs.Parts.{blocks_named, slots_named, slotted_array}
use Rattle.sial_syntax.specs.Resolved.{indices_within, slots_within}
use Rattle.sial_syntax.specs.Shapes.{wrong_loop, wrong_where, wrong_dims, wrong_slots, wrong_array, wrong_form, wrong_rank, wrong_slot_rank, disagrees}
use Rattle.sial_syntax.specs.Spaces.{extent, same_kind, rank_of, numbers_at}
use Rattle.sial_syntax.specs.Visits.{Visit}
use Rattle.sial_syntax.proofs.AmongLemmas.{Among, none_at, all_at}
use Rattle.sial_syntax.proofs.RankLemmas.{rank-within, numbers-of-rank}
use Rattle.sial_meaning.specs.Own.{Own, value_of, members_of, number_of}
use Rattle.sial_meaning.specs.Setting.{Setting, array_kind, dims_of, block_count, block_words}
use Rattle.sial_meaning.specs.Sight.{lengths}
use Rattle.sial_meaning.specs.Sound.{IsSound}
use Rattle.sial_meaning.specs.Whole.{extents_of, held_extents}
use Rattle.sial_meaning.proofs.Granted.Visits.{Good}
use Rattle.sial_meaning.proofs.AcceptedInOtherWords.Pairs.{never, first-holds, second-holds, holds-so}
use Rattle.sial_meaning.proofs.Granted.Ranges.{InRange, array-whole, segments-named, members-named}
use Rattle.sial_meaning.proofs.StepsReachTheFold.Rules.{neither}
use Rattle.sial_meaning.proofs.Granted.Segments.{words-are}

-- the first part of a list of indices that all stand in another
pub front-in : (xs ys bound : List ℕ) → all_in (xs ++ ys) bound ≡ true → (all_in xs bound ≡ true) × (all_in ys bound ≡ true)
front-in [] ys bound all = (refl, all)
front-in (x ∷ xs) ys bound all =
    let rest = front-in xs ys bound (second-holds (contains bound x) (all_in (xs ++ ys) bound) all) in
    (made (contains bound x) (all_in xs bound) (first-holds (contains bound x) (all_in (xs ++ ys) bound) all) rest.0, rest.1)
  where
    made : (a b : Bool) → a ≡ true → b ≡ true → (a && b) ≡ true
    made true b first second = second
    made false b first second = absurd (never first)

-- all indices of each block
indices-in : (blocks : List BlockRef) (bound : List ℕ) (b : BlockRef) → all_in (flat_map (λ (b : BlockRef). b.at) blocks) bound ≡ true → Among b blocks → all_in b.at bound ≡ true
indices-in [] bound b all is = absurd is
indices-in (x ∷ xs) bound b all (inl same) = ap (λ (y : BlockRef). all_in y.at bound) same ∙ (front-in x.at (flat_map (λ (b : BlockRef). b.at) xs) bound all).0
indices-in (x ∷ xs) bound b all (inr rest) = indices-in xs bound b (front-in x.at (flat_map (λ (b : BlockRef). b.at) xs) bound all).1 rest

-- a block whose indices are bound and may stand where the array declares others
pub record Fit (g : Setting) (bound : List ℕ) (b : BlockRef) : Type 0 where
  pub used : all_in b.at bound ≡ true
  pub long : length b.at ≡ length (dims_of g b.array)
  pub fits : fits_dims g.program b.at (dims_of g b.array) ≡ true
  pub within : indices_within g.spaces b.at (dims_of g b.array) ≡ true

-- each block that a good statement names, whose blocks' indices are bound
pub fit-named : (g : Setting) (v : Visit) (bound : List ℕ) (b : BlockRef) → Good g v → all_in (flat_map (λ (b : BlockRef). b.at) (blocks_named v.form)) bound ≡ true → Among b (blocks_named v.form) → Fit g bound b
fit-named g v bound b good used is =
    let p = g.program in
    let kinds = (neither (wrong_loop p v.form || wrong_where v.form) ((list_any (wrong_dims p) (blocks_named v.form) || wrong_slots p v.form) || (wrong_array p v.form || wrong_form v.form)) good.kind).1 in
    let dims = (neither (list_any (wrong_dims p) (blocks_named v.form)) (wrong_slots p v.form) (neither (list_any (wrong_dims p) (blocks_named v.form) || wrong_slots p v.form) (wrong_array p v.form || wrong_form v.form) kinds).0).0 in
    let ranks = (neither (list_any (wrong_rank p) (blocks_named v.form)) (wrong_slot_rank p v.form || disagrees p v.form) good.indices).0 in
    let inside = first-holds (list_all (λ (b : BlockRef). indices_within g.spaces b.at (array_in p b.array).dims) (blocks_named v.form)) (list_all (λ a. slots_within g.spaces (slots_named v.form) (array_in p a).dims) (slotted_array v.form)) good.within in
    record {
      used = indices-in (blocks_named v.form) bound b used is;
      long = eqb-true (length b.at) (length (dims_of g b.array)) (holds-so (length b.at == length (dims_of g b.array)) (none_at (wrong_rank p) b (blocks_named v.form) ranks is));
      fits = holds-so (fits_dims p b.at (dims_of g b.array)) (none_at (wrong_dims p) b (blocks_named v.form) dims is);
      within = all_at (λ (b : BlockRef). indices_within g.spaces b.at (array_in p b.array).dims) b (blocks_named v.form) inside is;
    }

-- how many positions a named block has, by where its indices lie
abbrev pub named_volume : Setting → Own → BlockRef → ℕ
named_volume g own b = volume (lengths (map (extent g.spaces own.values) b.at))

-- a block of an array that isn't temp is one of the array's, and as long as it should be
pub record Placed (g : Setting) (own : Own) (b : BlockRef) : Type 0 where
  pub below : number_of g own b < block_count g b.array
  pub words : named_volume g own b ≡ block_words g b.array (number_of g own b)

-- a block that a statement names is one of its array
pub placed : (g : Setting) (bound : List ℕ) (own : Own) (b : BlockRef) → IsSound g → InRange g bound own.values → Fit g bound b → same_kind (array_kind g b.array) Temp ≡ false → Placed g own b
placed g bound own b sound in-range fit other =
    let dims = dims_of g b.array in
    let numbers = map (value_of own) b.at in
    let named = segments-named g sound bound own.values b.at dims in-range fit.used fit.long fit.fits fit.within (array-whole g sound b.array other) in
    record {
      below = rank-within g.spaces dims numbers named.0;
      words =
          ap (λ es. volume (lengths es)) (named.1 ∙ ap (extents_of g.spaces dims) (sym (numbers-of-rank g.spaces dims numbers named.0)))
          ∙ sym (words-are g.spaces dims (numbers_at g.spaces dims (rank_of g.spaces dims numbers)));
    }

-- a temp's block is as long as its members say
pub placed-temp : (g : Setting) (bound : List ℕ) (own : Own) (b : BlockRef) → IsSound g → Fit g bound b → named_volume g own b ≡ volume (lengths (held_extents g.spaces (dims_of g b.array) (members_of g own b.at)))
placed-temp g bound own b sound fit = ap (λ es. volume (lengths es)) (members-named g sound own b.at (dims_of g b.array) fit.long fit.fits)
