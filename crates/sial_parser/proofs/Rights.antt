-- Readings whose answer is right: what they give stands with the words that they took.
use Rattle.std.proofs.Common.{◌≡◌, ℕ, List, [], ◌∷◌, Bool, true, false, cond, Result, Ok, Err, refl, sym, subst}
use Rattle.sial_parser.specs.Grammar.{at, opens}
use Rattle.sial_parser.specs.Parsing.{◌>>=◌, Read, unexpected, skip, name, name_by, is_line_end, closes, is_comma, is_equals, is_plus_equals, is_sial, is_end_sial, is_end_proc, is_end_do, is_end_pardo, is_end_if, is_of, is_in, is_else, is_end}
use Rattle.sial_parser.specs.declared.fault.ParseFault.{ParseFault}
use Rattle.sial_parser.specs.declared.keyword.Keyword.TheVariants as key
use Rattle.sial_parser.specs.declared.sign.Sign.TheVariants as sign
use Rattle.sial_parser.specs.declared.word.Symbol.{Symbol}
use Rattle.sial_parser.specs.declared.word.Symbol.TheVariants.{Key, Name, Number, Quoted, LineEnd, End}
use Rattle.sial_parser.specs.declared.word.Symbol.TheVariants as symbol
use Rattle.sial_parser.specs.declared.word.Word.{Word}

-- what an answer gives, if it gives something
abbrev pub Right : {A : Type 0} → (A → List Word → Type 0) → Read A → Type 0
Right P (Ok x) = P x.0 x.1
Right P (Err fault) = Unit {0}

-- a right reading, and one that goes on from it
pub right_then : {A B : Type 0} (P : A → List Word → Type 0) (Q : B → List Word → Type 0) (r : Read A) (f : A × List Word → Read B) → Right P r → ((x : A) (rest : List Word) → P x rest → Right Q (f (x, rest))) → Right Q (r >>= f)
right_then P Q (Ok x) f h go = go x.0 x.1 h
right_then P Q (Err fault) f h go = tt

-- a test that says which symbol it is
abbrev pub Says : (Symbol → Bool) → Symbol → Type 0
Says test what = (s : Symbol) → test s ≡ true → s ≡ what

module _ {B : Type 0} (test : Symbol → Bool) (what : Symbol) (says : Says test what) (Q : List Word → B → List Word → Type 0) where
  passed : (b : Bool) (w : Word) (ws : List Word) (f : List Word → Read B) → test w.symbol ≡ b → ((l : ℕ) (rest : List Word) → Right (Q (at l what ∷ rest)) (f rest)) → Right (Q (w ∷ ws)) (cond b (Ok ws) (unexpected (w ∷ ws)) >>= f)
  passed true w ws f e go = subst (λ (s : Symbol). Right (Q (at w.line s ∷ ws)) (f ws)) (sym (says w.symbol e)) (go w.line ws)
  passed false w ws f e go = tt

  -- a word taken by its test
  pub skip_then : (ws : List Word) (f : List Word → Read B) → ((l : ℕ) (rest : List Word) → Right (Q (at l what ∷ rest)) (f rest)) → Right (Q ws) (skip test ws >>= f)
  skip_then [] f go = tt
  skip_then (w ∷ ws) f go = passed (test w.symbol) w ws f refl go

module _ {B : Type 0} (Q : List Word → B → List Word → Type 0) where
  named : (s : Symbol) (l : ℕ) (ws : List Word) (f : List ℕ × List Word → Read B) → ((l : ℕ) (x : List ℕ) (rest : List Word) → Right (Q (at l (Name x) ∷ rest)) (f (x, rest))) → Right (Q (at l s ∷ ws)) (name_by s (at l s) ws >>= f)
  named (Name x) l ws f go = go l x ws
  named (Key k) l ws f go = tt
  named (symbol.Sign k) l ws f go = tt
  named (Number n) l ws f go = tt
  named (Quoted t) l ws f go = tt
  named LineEnd l ws f go = tt
  named End l ws f go = tt

  -- a name taken
  pub name_then : (ws : List Word) (f : List ℕ × List Word → Read B) → ((l : ℕ) (x : List ℕ) (rest : List Word) → Right (Q (at l (Name x) ∷ rest)) (f (x, rest))) → Right (Q ws) (name ws >>= f)
  name_then [] f go = tt
  name_then (w ∷ ws) f go = named w.symbol w.line ws f go

-- what the tests say
pub opens_says : Says opens (symbol.Sign sign.Open)
opens_says (symbol.Sign sign.Open) e = refl
opens_says _ e = absurd cc

pub closes_says : Says closes (symbol.Sign sign.Close)
closes_says (symbol.Sign sign.Close) e = refl
closes_says _ e = absurd cc

pub comma_says : Says is_comma (symbol.Sign sign.Comma)
comma_says (symbol.Sign sign.Comma) e = refl
comma_says _ e = absurd cc

pub equals_says : Says is_equals (symbol.Sign sign.Equals)
equals_says (symbol.Sign sign.Equals) e = refl
equals_says _ e = absurd cc

pub plus_equals_says : Says is_plus_equals (symbol.Sign sign.PlusEquals)
plus_equals_says (symbol.Sign sign.PlusEquals) e = refl
plus_equals_says _ e = absurd cc

pub line_end_says : Says is_line_end LineEnd
line_end_says LineEnd e = refl
line_end_says _ e = absurd cc

pub end_says : Says is_end End
end_says End e = refl
end_says _ e = absurd cc

pub sial_says : Says is_sial (Key key.Sial)
sial_says (Key key.Sial) e = refl
sial_says _ e = absurd cc

pub end_sial_says : Says is_end_sial (Key key.EndSial)
end_sial_says (Key key.EndSial) e = refl
end_sial_says _ e = absurd cc

pub end_proc_says : Says is_end_proc (Key key.EndProc)
end_proc_says (Key key.EndProc) e = refl
end_proc_says _ e = absurd cc

pub end_do_says : Says is_end_do (Key key.EndDo)
end_do_says (Key key.EndDo) e = refl
end_do_says _ e = absurd cc

pub end_pardo_says : Says is_end_pardo (Key key.EndPardo)
end_pardo_says (Key key.EndPardo) e = refl
end_pardo_says _ e = absurd cc

pub end_if_says : Says is_end_if (Key key.EndIf)
end_if_says (Key key.EndIf) e = refl
end_if_says _ e = absurd cc

pub of_says : Says is_of (Key key.Of)
of_says (Key key.Of) e = refl
of_says _ e = absurd cc

pub in_says : Says is_in (Key key.In)
in_says (Key key.In) e = refl
in_says _ e = absurd cc

pub else_says : Says is_else (Key key.Else)
else_says (Key key.Else) e = refl
else_says _ e = absurd cc

-- a reading that is right, seen otherwise
pub right_map : {A : Type 0} (P Q : A → List Word → Type 0) (r : Read A) → ((x : A) (rest : List Word) → P x rest → Q x rest) → Right P r → Right Q r
right_map P Q (Ok x) go h = go x.0 x.1 h
right_map P Q (Err fault) go h = tt

-- what is right where something holds is right, since it holds
pub given : {A H : Type 0} (P : A → List Word → Type 0) (r : Read A) → H → Right (λ x rest. H → P x rest) r → Right P r
given P (Ok x) holds h = h holds
given P (Err fault) holds h = tt

pub pulled : {A H : Type 0} (P : A → List Word → Type 0) (r : Read A) → (H → Right P r) → Right (λ x rest. H → P x rest) r
pulled P (Ok x) go = go
pulled P (Err fault) go = tt

module _ {B : Type 0} (H : List Word → Type 0) (P : B → List Word → Type 0) where
  -- a word taken by its test, behind what was read before
  pub skip_after : (test : Symbol → Bool) (what : Symbol) → Says test what → (ws : List Word) (f : List Word → Read B) → H ws → ((l : ℕ) (rest : List Word) → H (at l what ∷ rest) → Right P (f rest)) → Right P (skip test ws >>= f)
  skip_after test what says ws f h go = given P (skip test ws >>= f) h (skip_then test what says (λ w b rest. H w → P b rest) ws f (λ l rest. pulled P (f rest) (go l rest)))

  -- a name taken, behind what was read before
  pub name_after : (ws : List Word) (f : List ℕ × List Word → Read B) → H ws → ((l : ℕ) (x : List ℕ) (rest : List Word) → H (at l (Name x) ∷ rest) → Right P (f (x, rest))) → Right P (name ws >>= f)
  name_after ws f h go = given P (name ws >>= f) h (name_then (λ w b rest. H w → P b rest) ws f (λ l x rest. pulled P (f (x, rest)) (go l x rest)))

-- what an answer gives, whatever it is
abbrev pub Good : {X : Type 0} → (X → Type 0) → Result X ParseFault → Type 0
Good P (Ok x) = P x
Good P (Err fault) = Unit {0}

-- a good reading, and one that goes on from it
pub good_then : {X Y : Type 0} (P : X → Type 0) (Q : Y → Type 0) (r : Result X ParseFault) (f : X → Result Y ParseFault) → Good P r → ((x : X) → P x → Good Q (f x)) → Good Q (r >>= f)
good_then P Q (Ok x) f h go = go x h
good_then P Q (Err fault) f h go = tt

module _ {X : Type 0} (test : Symbol → Bool) (what : Symbol) (says : Says test what) (H : List Word → Type 0) (P : X → Type 0) where
  good_passed : (b : Bool) (w : Word) (ws : List Word) (f : List Word → Result X ParseFault) → test w.symbol ≡ b → H (w ∷ ws) → ((l : ℕ) (rest : List Word) → H (at l what ∷ rest) → Good P (f rest)) → Good P (cond b (Ok ws) (unexpected (w ∷ ws)) >>= f)
  good_passed true w ws f e h go = go w.line ws (subst (λ (s : Symbol). H (at w.line s ∷ ws)) (says w.symbol e) h)
  good_passed false w ws f e h go = tt

  -- a word taken by its test
  pub skip_good : (ws : List Word) (f : List Word → Result X ParseFault) → H ws → ((l : ℕ) (rest : List Word) → H (at l what ∷ rest) → Good P (f rest)) → Good P (skip test ws >>= f)
  skip_good [] f h go = tt
  skip_good (w ∷ ws) f h go = good_passed (test w.symbol) w ws f refl h go

module _ {X : Type 0} (H : List Word → Type 0) (P : X → Type 0) where
  named_good : (s : Symbol) (l : ℕ) (ws : List Word) (f : List ℕ × List Word → Result X ParseFault) → H (at l s ∷ ws) → ((l : ℕ) (x : List ℕ) (rest : List Word) → H (at l (Name x) ∷ rest) → Good P (f (x, rest))) → Good P (name_by s (at l s) ws >>= f)
  named_good (Name x) l ws f h go = go l x ws h
  named_good _ l ws f h go = tt

  -- a name taken
  pub name_good : (ws : List Word) (f : List ℕ × List Word → Result X ParseFault) → H ws → ((l : ℕ) (x : List ℕ) (rest : List Word) → H (at l (Name x) ∷ rest) → Good P (f (x, rest))) → Good P (name ws >>= f)
  name_good [] f h go = tt
  name_good (w ∷ ws) f h go = named_good w.symbol w.line ws f h go

module _ (test : Symbol → Bool) (what : Symbol) (says : Says test what) (H P : List Word → Type 0) where
  last_passed : (b : Bool) (w : Word) (ws : List Word) → test w.symbol ≡ b → H (w ∷ ws) → ((l : ℕ) (rest : List Word) → H (at l what ∷ rest) → P rest) → Good P (cond b (Ok ws) (unexpected (w ∷ ws)))
  last_passed true w ws e h go = go w.line ws (subst (λ (s : Symbol). H (at w.line s ∷ ws)) (says w.symbol e) h)
  last_passed false w ws e h go = tt

  -- a last word taken by its test
  pub skip_last : (ws : List Word) → H ws → ((l : ℕ) (rest : List Word) → H (at l what ∷ rest) → P rest) → Good P (skip test ws)
  skip_last [] h go = tt
  skip_last (w ∷ ws) h go = last_passed (test w.symbol) w ws refl h go

-- two words, one behind the other, that end something
pub two_last : (first second : Symbol → Bool) (a b : Symbol) → Says first a → Says second b → (H : List Word → Type 0) (ws : List Word) → H ws → Good (λ rest. (j : ℕ) × (k : ℕ) × H (at j a ∷ at k b ∷ rest)) (skip first ws >>= λ ws. skip second ws)
two_last first second a b says_a says_b H ws h =
    skip_good first a says_a H (λ rest. (j : ℕ) × (k : ℕ) × H (at j a ∷ at k b ∷ rest)) ws _ h (λ j rest g. skip_last second b says_b (λ w. H (at j a ∷ w)) (λ rest2. (j : ℕ) × (k : ℕ) × H (at j a ∷ at k b ∷ rest2)) rest g (λ k rest2 g2. (j, k, g2)))
