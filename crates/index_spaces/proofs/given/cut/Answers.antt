use Rattle.std.proofs.Common.{List, ℕ, ◌≤◌, length, IsTrue, sym, ap, ◌∙◌, subst}
use Rattle.std.specs.Prelude.{nat_le}
use Rattle.std.specs.List.{list_all}
use Rattle.sip_input.specs.declared.lengths.PieceLength.{PieceLength}
use Rattle.sip_input.specs.declared.lengths.SegmentLengths.{SegmentLengths}
use Rattle.sip_input.specs.Given.{lengths_among, piece_among}
use Rattle.index_spaces.proofs.CutLemmas.{lengths-given, piece-given}
use Rattle.index_spaces.proofs.given.cut.Goals as goal

pub of-requires-clause-few : goal.of-requires-clause-few
of-requires-clause-few c =
    subst (λ (xs : List ℕ). length xs ≤ 4096) (sym (c.lengths_among-lengths.ensures ∙ ap (λ (ss : List SegmentLengths). lengths_among ss c.args.kind) c.as_slice.ensures.value)) (lengths-given c.args.input.now.segments.items c.args.kind c.requires.segments).0

pub of-requires-clause-short : goal.of-requires-clause-short
of-requires-clause-short c =
    subst (λ (xs : List ℕ). IsTrue (list_all (λ n. nat_le n 1024) xs)) (sym (c.lengths_among-lengths.ensures ∙ ap (λ (ss : List SegmentLengths). lengths_among ss c.args.kind) c.as_slice.ensures.value)) (lengths-given c.args.input.now.segments.items c.args.kind c.requires.segments).1

pub of-requires-clause-piece : goal.of-requires-clause-piece
of-requires-clause-piece c =
    subst (λ (n : ℕ). n ≤ 1024) (sym (c.piece_among-piece.ensures ∙ ap (λ (ps : List PieceLength). piece_among ps c.args.kind) c.as_slice-2.ensures.value)) (piece-given c.args.input.now.pieces.items c.args.kind c.requires.pieces)
