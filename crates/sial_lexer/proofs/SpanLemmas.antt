-- Tokens stand in order, and their slices spell them.
use Rattle.std.proofs.Common.{◌≡◌, ℕ, ◌+◌, ◌-◌, ◌≤◌, List, [], ◌∷◌, ◌++◌, Bool, true, false, cond, take, drop, length, refl, sym, ap, ◌∙◌, subst, arith}
use Rattle.std.specs.List.{AllByRecursion}
use Rattle.std.proofs.lemmas.List.{length-drop, drop-drop}
use Rattle.sial_lexer.specs.Cut.{IsCut, Place, beginning, past, token_at, token_of, tokens_from, HasTokens, IsSpelled, StandsIn, AreInOrder}
use Rattle.sial_lexer.specs.Pieces.{IsPiece, IsToken}
use Rattle.sial_lexer.specs.declared.piece.Piece.{Piece}
use Rattle.sial_lexer.specs.declared.piece.PieceKind.{PieceKind}
use Rattle.sial_lexer.specs.declared.piece.PieceKind.TheVariants as piece
use Rattle.sial_lexer.specs.declared.token.Token.{Token}
use Rattle.sial_lexer.specs.declared.token.TokenKind.{TokenKind}
use Rattle.sial_lexer.specs.declared.token.TokenKind.TheVariants.{Name, Number, Quoted, Sign, LineEnd}

spells : (kind : TokenKind) (bytes after : List ℕ) → IsToken kind bytes after → IsSpelled kind bytes after
spells Name bytes after is = is
spells (Number value) bytes after is = is
spells Quoted bytes after is = is
spells Sign bytes after is = is
spells LineEnd bytes after is = tt

-- the place behind a piece
at_after : (place : Place) (kind : PieceKind) (len : ℕ) → (past place kind len).at ≡ place.at + len
at_after place piece.Blank len = refl
at_after place piece.Comment len = refl
at_after place piece.LineBreak len = refl
at_after place (piece.Token kind) len = refl

module _ (text : List ℕ) where
  -- with the line end that may be owed before them
  owed_before : (owed : Bool) (place : Place) (len : ℕ) (ts : List Token) → AllByRecursion (StandsIn text) ts → AllByRecursion (StandsIn text) (cond owed (token_at place LineEnd len ∷ []) [] ++ ts)
  owed_before true place len ts all = (tt, all)
  owed_before false place len ts all = all

  -- with the token of a piece before them
  stands_before : (kind : PieceKind) (len : ℕ) (place : Place) (ts : List Token) → IsPiece kind (take len (drop place.at text)) (drop len (drop place.at text))
      → AllByRecursion (StandsIn text) ts → AllByRecursion (StandsIn text) (token_of place kind len ++ ts)
  stands_before piece.Blank len place ts is all = all
  stands_before piece.Comment len place ts is all = all
  stands_before piece.LineBreak len place ts is all = owed_before place.owed place len ts all
  stands_before (piece.Token kind) len place ts is all =
      let span : place.at + len - place.at ≡ len = omega arith in
      let behind : drop len (drop place.at text) ≡ drop (place.at + len) text = drop-drop len place.at text in (
        spells kind (take (place.at + len - place.at) (drop place.at text)) (drop (place.at + len) text)
            (subst (λ (n : ℕ). IsToken kind (take n (drop place.at text)) (drop (place.at + len) text)) (sym span)
            (subst (λ (r : List ℕ). IsToken kind (take len (drop place.at text)) r) behind is)),
        all,
      )

  at_end : (owed : Bool) (place : Place) → AllByRecursion (StandsIn text) (cond owed (token_at place LineEnd 0 ∷ []) [])
  at_end true place = (tt, tt)
  at_end false place = tt

  -- each token of pieces that a rest of the text is cut into
  all_stand : (pieces : List Piece) (place : Place) → IsCut pieces (drop place.at text) [] → AllByRecursion (StandsIn text) (tokens_from place pieces)
  all_stand [] place cut = at_end place.owed place
  all_stand (p ∷ ps) place cut =
      let next : drop p.len (drop place.at text) ≡ drop (past place p.kind p.len).at text = drop-drop p.len place.at text ∙ ap (λ n. drop n text) (sym (at_after place p.kind p.len)) in
      stands_before p.kind p.len place (tokens_from (past place p.kind p.len) ps) cut.1
      (all_stand ps (past place p.kind p.len) (subst (λ (r : List ℕ). IsCut ps r []) next cut.2))

-- the tokens of a text stand in it
pub tokens_stand : (text : List ℕ) (ts : List Token) → HasTokens text ts → AllByRecursion (StandsIn text) ts
tokens_stand text ts h = subst (AllByRecursion (StandsIn text)) (sym h.of_pieces) (all_stand text h.pieces beginning h.cut)

-- the line end that may be owed at the end
end_in_order : (owed : Bool) (place : Place) (from to : ℕ) → from ≤ place.at → place.at ≡ to → AreInOrder from to (cond owed (token_at place LineEnd 0 ∷ []) [])
end_in_order true place from to below long = (below, omega arith, omega arith)
end_in_order false place from to below long = omega arith

-- with the line end that may be owed before them
owed_in_order : (owed : Bool) (place : Place) (len from to : ℕ) (ts : List Token) → from ≤ place.at → ((low : ℕ) → low ≤ place.at + len → AreInOrder low to ts)
    → AreInOrder from to (cond owed (token_at place LineEnd len ∷ []) [] ++ ts)
owed_in_order true place len from to ts below any = (below, omega arith, any (place.at + len) (omega arith))
owed_in_order false place len from to ts below any = any from (omega arith)

-- with the token of a piece before them
in_order_before : (kind : PieceKind) (len : ℕ) (place : Place) (from to : ℕ) (ts : List Token) → from ≤ place.at → ((low : ℕ) → low ≤ place.at + len → AreInOrder low to ts) → AreInOrder from to (token_of place kind len ++ ts)
in_order_before piece.Blank len place from to ts below any = any from (omega arith)
in_order_before piece.Comment len place from to ts below any = any from (omega arith)
in_order_before piece.LineBreak len place from to ts below any = owed_in_order place.owed place len from to ts below any
in_order_before (piece.Token kind) len place from to ts below any = (below, omega arith, any (place.at + len) (omega arith))

all_in_order : (pieces : List Piece) (place : Place) (bytes : List ℕ) (from to : ℕ) → from ≤ place.at → place.at + length bytes ≡ to → IsCut pieces bytes [] → AreInOrder from to (tokens_from place pieces)
all_in_order [] place bytes from to below long cut = end_in_order place.owed place from to below (omega (arith, ap length cut))
all_in_order (p ∷ ps) place bytes from to below long cut =
    in_order_before p.kind p.len place from to (tokens_from (past place p.kind p.len) ps) below
    (λ low h. all_in_order ps (past place p.kind p.len) (drop p.len bytes) low to (omega (arith, at_after place p.kind p.len)) (omega (arith, at_after place p.kind p.len, length-drop p.len bytes, cut.0)) cut.2)

-- the tokens of a text stand in order
pub tokens_in_order : (text : List ℕ) (ts : List Token) → HasTokens text ts → AreInOrder 0 (length text) ts
tokens_in_order text ts h = subst (AreInOrder 0 (length text)) (sym h.of_pieces) (all_in_order h.pieces beginning text 0 (length text) (omega arith) (omega arith) h.cut)
