-- A block copied by name: its order, and its numbers.
use Rattle.std.proofs.Common.{◌≡◌, ℕ, ◌<◌, true, List, map, length, take, sym, ap, ◌∙◌, subst}
use Rattle.std.specs.Prelude.{slice_index}
use Rattle.std.proofs.lemmas.List.{length-map}
use Rattle.kernel_permute.specs.How.{combined}
use Rattle.kernel_permute.specs.declared.how.How.{How}
use Rattle.kernel_permute.specs.Permuting.{IsOrder, picked, permuted}
use Rattle.kernel_permute.specs.Positions.{place, product}
use Rattle.kernel_permute.proofs.LawsLemmas.{permutes_each_position, keeps_length}
use Rattle.sial_syntax.specs.Agreeing.{all_in}
use Rattle.sial_syntax.specs.Boxes.{volume, place_of, IsTupleOf}
use Rattle.sial_meaning.specs.JoinLaws.{word_under}
use Rattle.sial_meaning.specs.ReadBackLaws.{under}
use Rattle.sial_meaning.specs.Sight.{Sight, lengths}
use Rattle.sial_meaning.proofs.AcceptedInOtherWords.Pairs.{first-holds, second-holds}
use Rattle.exec_sides.specs.Met.{Met}
use Rattle.exec_sides.specs.Named.{IsCopy, IsLaid, length_under, place_among}
use Rattle.exec_sides.proofs.Names.{all-at, order-is, picked-among, same-images, same-long, tuple-image, under-all, under-below}
use Rattle.exec_sides.proofs.Tuples.{place-is, position-is, tuple-long, volume-is}

-- a block has a length for each index
pub lengths-long : (block : Sight) → IsLaid block → length (lengths block.extents) ≡ length block.at
lengths-long block laid = length-map block.extents _ ∙ laid.extents

-- the lengths of a block, read under its indices
pub lengths-are : (block : Sight) → IsLaid block → lengths block.extents ≡ map (length_under block) block.at
lengths-are block laid = sym (under-all block.at (lengths block.extents) laid.once (lengths-long block laid))

module _ (to from : Sight) (copy : IsCopy to from) where
  -- each of the target's indices
  into : all_in to.at from.at ≡ true
  into = first-holds (all_in to.at from.at) (all_in from.at to.at) copy.same

  -- each of the source's
  back : all_in from.at to.at ≡ true
  back = second-holds (all_in to.at from.at) (all_in from.at to.at) copy.same

  -- both have as many
  pub copy-long : length to.at ≡ length from.at
  copy-long = same-long to.at from.at copy.target.once copy.source.once into back

  -- the source's lengths, as an array has them in front
  pub copy-dims : (n : ℕ) (array : List ℕ) → n ≡ length from.extents → take n array ≡ lengths from.extents → take (length to.at) array ≡ lengths from.extents
  copy-dims n array long is =
      let same : length to.at ≡ n = copy-long ∙ (sym copy.source.extents ∙ sym long) in
      ap (λ k. take k array) same ∙ is

  -- their places are an order
  pub copy-order : IsOrder (map (place_among from.at) to.at)
  copy-order = order-is to.at from.at copy.target.once copy.source.once into back

  -- which picks the target's lengths
  pub copy-picked : picked (map (place_among from.at) to.at) (lengths from.extents) ≡ lengths to.extents
  copy-picked =
      ap (picked (map (place_among from.at) to.at)) (lengths-are from copy.source)
      ∙ (picked-among (length_under from) to.at from.at into
      ∙ (same-images (length_under from) (length_under to) to.at (λ i in-to. sym (copy.alike i in-to (all-at to.at from.at into i in-to)))
      ∙ sym (lengths-are to copy.target)))

  -- the members of a target's tuple, by the source's indices, are a tuple of the source
  copy-tuple : (tuple : List ℕ) → IsTupleOf (lengths to.extents) tuple → IsTupleOf (lengths from.extents) (map (under to.at tuple) from.at)
  copy-tuple tuple are =
      subst
      (λ (dims : List ℕ). IsTupleOf dims (map (under to.at tuple) from.at))
      (sym (lengths-are from copy.source))
      (tuple-image (under to.at tuple) (length_under from) from.at (λ i in-from.
      let here = all-at from.at to.at back i in-from in
      subst (λ n. under to.at tuple i < n) (copy.alike i here in-from) (under-below to.at (lengths to.extents) tuple i (lengths-long to copy.target) are here)))

  -- and the order picks the target's tuple of them
  picked-tuple : (tuple : List ℕ) → IsTupleOf (lengths to.extents) tuple → picked (map (place_among from.at) to.at) (map (under to.at tuple) from.at) ≡ tuple
  picked-tuple tuple are =
      picked-among (under to.at tuple) to.at from.at into
      ∙ under-all to.at tuple copy.target.once (tuple-long (lengths to.extents) tuple are ∙ lengths-long to copy.target)

  -- each number of the target has met the source's
  pub copy-meets : (how : How) (dims order old new : List ℕ) → dims ≡ lengths from.extents → order ≡ map (place_among from.at) to.at → length old ≡ volume (lengths to.extents) → new ≡ permuted how dims order from.words old
      → Met how (lengths to.extents) (λ t. word_under to.at t from) old new
  copy-meets how dims order old new dims-are order-are long is =
      let target = lengths to.extents in
      let source = lengths from.extents in
      let named = map (place_among from.at) to.at in
      let made : new ≡ permuted how source named from.words old = is ∙ (ap (λ x. permuted how x order from.words old) dims-are ∙ ap (λ x. permuted how source x from.words old) order-are) in
      let fits : length old ≡ product (picked named source) = long ∙ (sym (volume-is target) ∙ ap product (sym copy-picked)) in
      let so-long : length named ≡ length source = length-map to.at (place_among from.at) ∙ (copy-long ∙ sym (lengths-long from copy.source)) in
      record {
        each = λ tuple are.
            let members = map (under to.at tuple) from.at in
            let law = permutes_each_position how source named from.words old members copy-order so-long fits (position-is source members (copy-tuple tuple are)) in
            let at : place (picked named source) (picked named members) ≡ place_of target tuple = ap (λ x. place x (picked named members)) copy-picked ∙ (ap (place target) (picked-tuple tuple are) ∙ place-is target tuple) in
            ap (λ x. slice_index x (place_of target tuple)) made
            ∙ (ap (slice_index (permuted how source named from.words old)) (sym at)
            ∙ (law
            ∙ (ap (λ p. combined how (slice_index old p) (slice_index from.words (place source members))) at
            ∙ ap (λ p. combined how (slice_index old (place_of target tuple)) (slice_index from.words p)) (place-is source members))));
        len = ap length made ∙ keeps_length _ (picked named source) old fits;
      }
