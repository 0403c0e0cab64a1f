-- The lengths that an input gives a kind are within their limits.
use Rattle.std.proofs.Common.{◌≡◌, ℕ, ◌≤◌, List, [], ◌∷◌, length, Bool, true, false, if◌then◌else◌, IsTrue, refl, arith}
use Rattle.std.specs.Prelude.{nat_le}
use Rattle.std.specs.List.{list_all}
use Rattle.std.proofs.lemmas.Bool.{leb-true, and_parts, and_from}
use Rattle.sial_syntax.specs.declared.index.Kind.{Kind}
use Rattle.sial_syntax.specs.Agreeing.{is_kind}
use Rattle.sip_input.specs.declared.lengths.PieceLength.{PieceLength}
use Rattle.sip_input.specs.declared.lengths.SegmentLengths.{SegmentLengths}
use Rattle.sip_input.specs.Given.{lengths_among, piece_among, is_length, are_lengths, is_piece_length}

-- lengths that may be given are not too long
short : (lengths : List ℕ) → list_all is_length lengths ≡ true → list_all (λ n. nat_le n 1024) lengths ≡ true
short [] all = refl
short (n ∷ ns) all =
    let parts = and_parts (is_length n) (list_all is_length ns) all in
    let bounds = and_parts (nat_le 1 n) (nat_le n 1024) parts.0 in
    and_from (nat_le n 1024) (list_all (λ m. nat_le m 1024) ns) bounds.1 (short ns parts.1)

-- a kind's lengths are not too many, and not too long
pub lengths-given : (segments : List SegmentLengths) (kind : Kind) → list_all are_lengths segments ≡ true
    → (length (lengths_among segments kind) ≤ 4096) × IsTrue (list_all (λ n. nat_le n 1024) (lengths_among segments kind))
lengths-given [] kind all = (omega arith, refl)
lengths-given (s ∷ others) kind all =
    let parts = and_parts (are_lengths s) (list_all are_lengths others) all in
    let own = and_parts (nat_le (length s.lengths.items) 4096) (list_all is_length s.lengths.items) parts.0 in
    by (is_kind s.kind kind) s.lengths.items (lengths_among others kind) (leb-true (length s.lengths.items) 4096 own.0, short s.lengths.items own.1) (lengths-given others kind parts.1)
  where
    by : (b : Bool) (xs ys : List ℕ) → (length xs ≤ 4096) × IsTrue (list_all (λ n. nat_le n 1024) xs) → (length ys ≤ 4096) × IsTrue (list_all (λ n. nat_le n 1024) ys)
        → (length (if b then xs else ys) ≤ 4096) × IsTrue (list_all (λ n. nat_le n 1024) (if b then xs else ys))
    by true xs ys h g = h
    by false xs ys h g = g

-- a kind's pieces are not too long
pub piece-given : (pieces : List PieceLength) (kind : Kind) → list_all is_piece_length pieces ≡ true → piece_among pieces kind ≤ 1024
piece-given [] kind all = omega arith
piece-given (s ∷ others) kind all =
    let parts = and_parts (is_piece_length s) (list_all is_piece_length others) all in
    let bounds = and_parts (nat_le 1 s.length) (nat_le s.length 1024) parts.0 in
    by (is_kind s.kind kind) s.length (piece_among others kind) (leb-true s.length 1024 bounds.1) (piece-given others kind parts.1)
  where
    by : (b : Bool) (m n : ℕ) → m ≤ 1024 → n ≤ 1024 → (if b then m else n) ≤ 1024
    by true m n h g = h
    by false m n h g = g
