-- What is read as declarations stands with its words, and is within the limits.
use Rattle.std.proofs.Common.{◌≡◌, ℕ, zero, suc, ◌<◌, ◌≤◌, List, [], ◌∷◌, Bool, true, false, cond, nat_lt, length, Option, Some, None, Ok, Err, refl, sym, subst, arith}
use Rattle.std.proofs.lemmas.Bool.{ltb-true}
use Rattle.std.proofs.lemmas.List.{length-append}
use Rattle.sial_syntax.specs.Limits.{most_names}
use Rattle.sial_syntax.specs.declared.array.ArrayDecl.{ArrayDecl}
use Rattle.sial_syntax.specs.declared.array.ArrayKind.{ArrayKind}
use Rattle.sial_syntax.specs.declared.array.ArrayKind.TheVariants as arrays
use Rattle.sial_syntax.specs.declared.index.Bound.{Bound}
use Rattle.sial_syntax.specs.declared.index.IndexDecl.{IndexDecl}
use Rattle.sial_syntax.specs.declared.index.Kind.{Kind}
use Rattle.sial_syntax.specs.declared.index.Kind.TheVariants as kind
use Rattle.sial_syntax.specs.declared.index.Range.TheVariants as range
use Rattle.sial_parser.specs.Grammar.{at, sign_at, begins_declaration, AreDims, IsBound, IsKind, IsArrayKind, Declares, AreDeclarations}
use Rattle.sial_parser.specs.Parsing.{◌>>=◌, Read, line_of, dims, is_line_end, is_comma, is_equals, is_of, is_some, new_name, new_by, bound_at, bound_by, segments_at, subindex_at, scalar_decl_at, array_decl_at, declaration, declaration_by, declared_one, declarations}
use Rattle.sial_parser.specs.Scope.{Scope, thing_of, IsFree, Declared, with_index, with_array, with_scalar}
use Rattle.sial_parser.specs.declared.fault.Counted.{Counted}
use Rattle.sial_parser.specs.declared.fault.ParseFault.TheVariants.{TooMany}
use Rattle.sial_parser.specs.declared.keyword.Keyword.{Keyword}
use Rattle.sial_parser.specs.declared.keyword.Keyword.TheVariants as key
use Rattle.sial_parser.specs.declared.sign.Sign.TheVariants as sign
use Rattle.sial_parser.specs.declared.thing.Thing.{Thing}
use Rattle.sial_parser.specs.declared.word.Symbol.{Symbol}
use Rattle.sial_parser.specs.declared.word.Symbol.TheVariants.{Key, Name, Number, Quoted, LineEnd, End}
use Rattle.sial_parser.specs.declared.word.Symbol.TheVariants as symbol
use Rattle.sial_parser.specs.declared.word.Word.{Word}
use Rattle.sial_parser.proofs.OperandsSound.{index_after, dims_right}
use Rattle.sial_parser.proofs.Shapes.{declared_shape}
use Rattle.sial_parser.proofs.Rights.{Right, right_then, right_map, skip_after, name_then, line_end_says, comma_says, equals_says, of_says}

-- a new name at the front, of which there were so many
pub record New (s : Scope) (count : ℕ) (x : List ℕ) (ws rest : List Word) : Type 0 where
  pub line : ℕ
  pub words : ws ≡ at line (Name x) ∷ rest
  pub free : IsFree s x
  pub room : count < most_names

module _ (s : Scope) (count : ℕ) (which : Counted) where
  counted_new : (b : Bool) (k line : ℕ) (x : List ℕ) (rest : List Word) → nat_lt count most_names ≡ b → thing_of s x ≡ None → Right (λ y rest2. New s count y (at k (Name x) ∷ rest) rest2) (cond b (Ok (x, rest)) (Err (TooMany line which)))
  counted_new true k line x rest e f = record { line = k; words = refl; free = f; room = ltb-true count most_names e }
  counted_new false k line x rest e f = tt

  free_new : (t : Option Thing) (k line : ℕ) (x : List ℕ) (rest : List Word) → thing_of s x ≡ t → Right (λ y rest2. New s count y (at k (Name x) ∷ rest) rest2) (new_by line count which (is_some t) x rest)
  free_new (Some t) k line x rest e = tt
  free_new None k line x rest e = counted_new (nat_lt count most_names) k line x rest refl e

  pub new_right : (ws : List Word) → Right (λ x rest. New s count x ws rest) (new_name s count which ws)
  unfolding new_name
  new_right ws = name_then (λ w x rest. New s count x w rest) ws _ (λ k x rest. free_new (thing_of s x) k (line_of ws) x rest refl)

-- a new name taken, behind what was read before
pub new_after : {B : Type 0} (s : Scope) (count : ℕ) (which : Counted) (P : B → List Word → Type 0) (ws : List Word) (f : List ℕ × List Word → Read B)
    → ((k : ℕ) (x : List ℕ) (rest : List Word) → IsFree s x → count < most_names → at k (Name x) ∷ rest ≡ ws → Right P (f (x, rest))) → Right P (new_name s count which ws >>= f)
new_after s count which P ws f go = right_then (λ x rest. New s count x ws rest) P (new_name s count which ws) f (new_right s count which ws) (λ x rest n. go n.line x rest n.free n.room (sym n.words))

-- a bound at the front
record Bounded (b : Bound) (ws rest : List Word) : Type 0 where
  pub line : ℕ
  pub what : Symbol
  pub words : ws ≡ at line what ∷ rest
  pub is : IsBound b what

bound_symbol : (what : Symbol) (l : ℕ) (ws : List Word) → Right (λ b rest. Bounded b (at l what ∷ ws) rest) (bound_by what (at l what) ws)
bound_symbol (Number n) l ws = record { line = l; what = Number n; words = refl; is = IsBound.number }
bound_symbol (Name x) l ws = record { line = l; what = Name x; words = refl; is = IsBound.named }
bound_symbol _ l ws = tt

bound_right : (ws : List Word) → Right (λ b rest. Bounded b ws rest) (bound_at ws)
unfolding bound_at
bound_right [] = tt
bound_right (w ∷ ws) = bound_symbol w.symbol w.line ws

bound_after : {B : Type 0} (H : List Word → Type 0) (P : B → List Word → Type 0) (ws : List Word) (f : Bound × List Word → Read B) → H ws
    → ((k : ℕ) (what : Symbol) (b : Bound) (rest : List Word) → IsBound b what → H (at k what ∷ rest) → Right P (f (b, rest))) → Right P (bound_at ws >>= f)
bound_after H P ws f h go = right_then (λ b rest. Bounded b ws rest) P (bound_at ws) f (bound_right ws) (λ b rest n. go n.line n.what b rest n.is (subst H n.words h))

-- within the limits of names
pub record Few (d : Declared) : Type 0 where
  pub indices : length d.indices ≤ most_names
  pub arrays : length d.arrays ≤ most_names
  pub scalars : length d.scalars ≤ most_names

-- one more declaration
pub record Grown (d e : Declared) (ws rest : List Word) : Type 0 where
  pub is : Declares d e ws rest
  pub few : Few d → Few e

module _ (d : Declared) (l : ℕ) where
  segments_right : (of : Kind) (what : Keyword) → IsKind of what → (ws : List Word) → Right (λ e rest. Grown d e (at l (Key what) ∷ ws) rest) (segments_at d of l ws)
  unfolding segments_at
  segments_right of what is ws = new_after d.scope (length d.indices) _ (λ e rest. Grown d e (at l (Key what) ∷ ws) rest) ws _ (λ k x ws2 free room h.
      skip_after (λ w. at k (Name x) ∷ w ≡ ws) (λ e rest. Grown d e (at l (Key what) ∷ ws) rest) is_equals (symbol.Sign sign.Equals) equals_says ws2 _ h (λ m ws3 h2.
      bound_after (λ w. at k (Name x) ∷ sign_at m sign.Equals ∷ w ≡ ws) (λ e rest. Grown d e (at l (Key what) ∷ ws) rest) ws3 _ h2 (λ n first lo ws4 is_lo h3.
      skip_after (λ w. at k (Name x) ∷ sign_at m sign.Equals ∷ at n first ∷ w ≡ ws) (λ e rest. Grown d e (at l (Key what) ∷ ws) rest) is_comma (symbol.Sign sign.Comma) comma_says ws4 _ h3 (λ j ws5 h4.
      bound_after (λ w. at k (Name x) ∷ sign_at m sign.Equals ∷ at n first ∷ sign_at j sign.Comma ∷ w ≡ ws) (λ e rest. Grown d e (at l (Key what) ∷ ws) rest) ws5 _ h4 (λ o last hi ws6 is_hi h5.
      skip_after (λ w. at k (Name x) ∷ sign_at m sign.Equals ∷ at n first ∷ sign_at j sign.Comma ∷ at o last ∷ w ≡ ws) (λ e rest. Grown d e (at l (Key what) ∷ ws) rest) is_line_end LineEnd line_end_says ws6 _ h5 (λ i rest h6.
      subst (λ (w : List Word). Grown d (with_index d (record { name = x; line = l; range = range.Segments of lo hi })) (at l (Key what) ∷ w) rest) h6
      (record { is = Declares.segments is free is_lo is_hi; few = λ few. record { indices = omega (arith, room, length-append {A = IndexDecl}); arrays = few.arrays; scalars = few.scalars } })))))))

  subindex_right : (ws : List Word) → Right (λ e rest. Grown d e (at l (Key key.SubIndex) ∷ ws) rest) (subindex_at d l ws)
  unfolding subindex_at
  subindex_right ws = new_after d.scope (length d.indices) _ (λ e rest. Grown d e (at l (Key key.SubIndex) ∷ ws) rest) ws _ (λ k x ws2 free room h.
      skip_after (λ w. at k (Name x) ∷ w ≡ ws) (λ e rest. Grown d e (at l (Key key.SubIndex) ∷ ws) rest) is_of (Key key.Of) of_says ws2 _ h (λ m ws3 h2.
      index_after d.scope (λ w. at k (Name x) ∷ at m (Key key.Of) ∷ w ≡ ws) (λ e rest. Grown d e (at l (Key key.SubIndex) ∷ ws) rest) ws3 _ h2 (λ n y i ws4 f h3.
      skip_after (λ w. at k (Name x) ∷ at m (Key key.Of) ∷ at n (Name y) ∷ w ≡ ws) (λ e rest. Grown d e (at l (Key key.SubIndex) ∷ ws) rest) is_line_end LineEnd line_end_says ws4 _ h3 (λ j rest h4.
      subst (λ (w : List Word). Grown d (with_index d (record { name = x; line = l; range = range.Sub i })) (at l (Key key.SubIndex) ∷ w) rest) h4
      (record { is = Declares.subindex free f; few = λ few. record { indices = omega (arith, room, length-append {A = IndexDecl}); arrays = few.arrays; scalars = few.scalars } })))))

  scalar_right : (ws : List Word) → Right (λ e rest. Grown d e (at l (Key key.Scalar) ∷ ws) rest) (scalar_decl_at d ws)
  unfolding scalar_decl_at
  scalar_right ws = new_after d.scope (length d.scalars) _ (λ e rest. Grown d e (at l (Key key.Scalar) ∷ ws) rest) ws _ (λ k x ws2 free room h.
      skip_after (λ w. at k (Name x) ∷ w ≡ ws) (λ e rest. Grown d e (at l (Key key.Scalar) ∷ ws) rest) is_line_end LineEnd line_end_says ws2 _ h (λ j rest h2.
      subst (λ (w : List Word). Grown d (with_scalar d x) (at l (Key key.Scalar) ∷ w) rest) h2
      (record { is = Declares.scalar free; few = λ few. record { indices = few.indices; arrays = few.arrays; scalars = omega (arith, room, length-append {A = List ℕ}) } })))

  array_right : (of : ArrayKind) (what : Keyword) → IsArrayKind of what → (ws : List Word) → Right (λ e rest. Grown d e (at l (Key what) ∷ ws) rest) (array_decl_at d of l ws)
  unfolding array_decl_at
  array_right of what is ws = new_after d.scope (length d.arrays) _ (λ e rest. Grown d e (at l (Key what) ∷ ws) rest) ws _ (λ k x ws2 free room h.
      right_then (λ dims rest. AreDims d.scope dims ws2 rest) (λ e rest. Grown d e (at l (Key what) ∷ ws) rest) (dims d.scope ws2) _ (dims_right d.scope ws2) (λ dims ws3 g.
      skip_after (λ w. AreDims d.scope dims ws2 w) (λ e rest. Grown d e (at l (Key what) ∷ ws) rest) is_line_end LineEnd line_end_says ws3 _ g (λ j rest g2.
      subst (λ (w : List Word). Grown d (with_array d (record { name = x; line = l; kind = of; dims = dims })) (at l (Key what) ∷ w) rest) h
      (record { is = Declares.array is free g2; few = λ few. record { indices = few.indices; arrays = omega (arith, room, length-append {A = ArrayDecl}); scalars = few.scalars } }))))

  declaration_symbol : (what : Symbol) (ws : List Word) → Right (λ e rest. Grown d e (at l what ∷ ws) rest) (declaration_by d what (at l what) ws)
  declaration_symbol (Key key.AoIndex) ws = segments_right kind.Ao key.AoIndex IsKind.ao ws
  declaration_symbol (Key key.MoIndex) ws = segments_right kind.Mo key.MoIndex IsKind.mo ws
  declaration_symbol (Key key.MoaIndex) ws = segments_right kind.Moa key.MoaIndex IsKind.moa ws
  declaration_symbol (Key key.MobIndex) ws = segments_right kind.Mob key.MobIndex IsKind.mob ws
  declaration_symbol (Key key.Index) ws = segments_right kind.Index key.Index IsKind.index ws
  declaration_symbol (Key key.SubIndex) ws = subindex_right ws
  declaration_symbol (Key key.Scalar) ws = scalar_right ws
  declaration_symbol (Key key.Static) ws = array_right arrays.Static key.Static IsArrayKind.static ws
  declaration_symbol (Key key.Temp) ws = array_right arrays.Temp key.Temp IsArrayKind.temp ws
  declaration_symbol (Key key.Local) ws = array_right arrays.Local key.Local IsArrayKind.local ws
  declaration_symbol (Key key.Distributed) ws = array_right arrays.Distributed key.Distributed IsArrayKind.distributed ws
  declaration_symbol (Key key.Served) ws = array_right arrays.Served key.Served IsArrayKind.served ws
  declaration_symbol _ ws = tt

declaration_right : (d : Declared) (ws : List Word) → Right (λ e rest. Grown d e ws rest) (declaration d ws)
unfolding declaration
declaration_right d [] = tt
declaration_right d (w ∷ ws) = declaration_symbol d w.line w.symbol ws

-- several declarations
pub record AllGrown (d e : Declared) (ws rest : List Word) : Type 0 where
  pub are : AreDeclarations d e ws rest
  pub few : Few d → Few e

one_turn : (b : Bool) (n : ℕ) (d : Declared) (w : Word) (ws : List Word) → begins_declaration w.symbol ≡ b → ((e : Declared) (ws : List Word) → Right (λ f rest. AllGrown e f ws rest) (declarations n e ws))
    → Right (λ f rest. AllGrown d f (w ∷ ws) rest) (cond b (declaration d (w ∷ ws) >>= λ e. declarations n e.0 e.1) (Ok (d, w ∷ ws)))
one_turn true n d w ws e others = right_then (λ e rest. Grown d e (w ∷ ws) rest) (λ f rest. AllGrown d f (w ∷ ws) rest) (declaration d (w ∷ ws)) _ (declaration_right d (w ∷ ws)) (λ e mid g.
    right_map (λ f rest. AllGrown e f mid rest) (λ f rest. AllGrown d f (w ∷ ws) rest) (declarations n e mid) (λ f rest h. record { are = AreDeclarations.more g.is h.are; few = λ few. h.few (g.few few) }) (others e mid))
one_turn false n d w ws e others = record { are = AreDeclarations.none e; few = λ few. few }

nothing_declared : (n : ℕ) (d : Declared) → Right (λ e rest. AllGrown d e [] rest) (declarations (suc n) d [])
unfolding declarations declared_one
nothing_declared n d = tt

pub declarations_right : (n : ℕ) (d : Declared) (ws : List Word) → Right (λ e rest. AllGrown d e ws rest) (declarations n d ws)
unfolding declarations
declarations_right zero d ws = tt
declarations_right (suc n) d [] = nothing_declared n d
declarations_right (suc n) d (w ∷ ws) =
    subst (Right (λ e rest. AllGrown d e (w ∷ ws) rest)) (sym (declared_shape n d w ws)) (one_turn (begins_declaration w.symbol) n d w ws refl (λ e ws. declarations_right n e ws))
