-- A named block is put down.
use Rattle.std.proofs.Common.{◌≡◌, ℕ, ◌<◌, List, [], length, slice_index_or, slice_set, inl, inr, refl, sym, ap, ◌∙◌, subst, length-set, arith, Some}
use Rattle.std.proofs.lemmas.Bool.{cases_eq}
use Rattle.std.proofs.lemmas.List.{get_or-set_same, get_or-set_other}
use Rattle.sial_syntax.specs.declared.array.ArrayKind.{ArrayKind}
use Rattle.sial_syntax.specs.declared.array.ArrayKind.TheVariants.{Static, Temp, Local}
use Rattle.sial_syntax.specs.declared.operand.BlockRef.{BlockRef}
use Rattle.sial_meaning.specs.LocalStep.{with_words}
use Rattle.sial_meaning.specs.Own.{Own, members_of, number_of}
use Rattle.sial_meaning.specs.Setting.{Setting, array_kind, dims_of}
use Rattle.block_pool.specs.Memory.{Memory}
use Rattle.block_seats.specs.Seated.{Seated}
use Rattle.block_seats.specs.Putting.{Puts}
use Rattle.exec_blocks.specs.Kept.{Kept, place_by, place_of}
use Rattle.exec_blocks.specs.Standing.{IsLaidOut, BlocksStand, IsNamed}
use Rattle.exec_blocks.proofs.PutLemmas.{put-static, put-local, put-temp}
use Rattle.exec_blocks.proofs.ReadingLemmas.{number-below, place-is}

module _ {p p1 : Memory} (g : Setting) (b : Kept) (after : Seated) (own : Own) (block : BlockRef) (w : List ℕ) (named : IsNamed g own.values block) (laid : IsLaidOut g b) (stands : BlocksStand g p b own)
    (puts : Puts p p1 b.seats after (place_of g b own.values block) (Some w)) where
  puts-by : (kind : ArrayKind) → array_kind g block.array ≡ kind → Puts p p1 b.seats after (place_by g b block.array (number_of g own block) kind) (Some w)
  puts-by kind is = subst (λ (n : ℕ). Puts p p1 b.seats after n (Some w)) (place-is g p b own block named kind is) puts

  -- a static block
  pub done-static : array_kind g block.array ≡ Static → BlocksStand g p1 (record b { seats = after }) (with_words g block w own (array_kind g block.array))
  done-static is = subst (λ (k : ArrayKind). BlocksStand g p1 (record b { seats = after }) (with_words g block w own k)) (sym is)
      (put-static g b after own laid stands block.array (number_of g own block) w is (number-below g p b own block named Static is refl) named.declared (puts-by Static is))

  -- a local one
  pub done-local : array_kind g block.array ≡ Local → BlocksStand g p1 (record b { seats = after }) (with_words g block w own (array_kind g block.array))
  done-local is = subst (λ (k : ArrayKind). BlocksStand g p1 (record b { seats = after }) (with_words g block w own k)) (sym is)
      (put-local g b after own laid stands block.array (number_of g own block) (Some w) is (number-below g p b own block named Local is refl) named.declared (puts-by Local is))

  -- that of a temp, with its tuple
  pub done-temp : array_kind g block.array ≡ Temp → BlocksStand g p1 (record b { seats = after; tuples = slice_set b.tuples block.array (members_of g own block.at) }) (with_words g block w own (array_kind g block.array))
  done-temp is = subst (λ (k : ArrayKind). BlocksStand g p1 (record b { seats = after; tuples = slice_set b.tuples block.array (members_of g own block.at) }) (with_words g block w own k)) (sym is)
      (put-temp g b after own laid stands block.array (record { members = members_of g own block.at; words = w }) is named.declared (puts-by Temp is))

-- the layout stays, also with another tuple as long as the one before
pub laid-tuple : (g : Setting) (b : Kept) (after : Seated) (a : ℕ) (ms : List (ℕ × ℕ)) → length after.slots ≡ length b.seats.slots → IsLaidOut g b
    → length ms ≡ length (slice_index_or b.tuples a []) → IsLaidOut g (record b { seats = after; tuples = slice_set b.tuples a ms })
laid-tuple g b after a ms many laid long = record {
  locals_at = laid.locals_at;
  temps_at = laid.temps_at;
  places = many ∙ laid.places;
  tuples = length-set b.tuples a ms ∙ laid.tuples;
  ranks = λ c there. elim (cases_eq c a) as (λ _. length (slice_index_or (slice_set b.tuples a ms) c []) ≡ length (dims_of g c)) [
    | inl e ↦ (
        let inside : a < length b.tuples = omega (arith, there, e, laid.tuples) in
        ap (λ (n : ℕ). length (slice_index_or (slice_set b.tuples a ms) n [])) e ∙ (ap length (get_or-set_same b.tuples a ms [] inside)
        ∙ (long ∙ (ap (λ (n : ℕ). length (slice_index_or b.tuples n [])) (sym e) ∙ laid.ranks c there)))
        )
    | inr ne ↦ ap length (get_or-set_other b.tuples a c ms [] ne) ∙ laid.ranks c there
  ];
}
