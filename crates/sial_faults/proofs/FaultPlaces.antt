-- What a fault of a word depends on: its line, and of the words behind it the next one at most.
use Rattle.std.proofs.Common.{◌≡◌, ℕ, zero, suc, List, [], ◌∷◌, Bool, true, false, cond, Option, Some, None, refl, sym, ap, ◌∙◌, subst}
use Rattle.std.specs.Str.{bytes_eq}
use Rattle.sial_syntax.specs.Limits.{most_nesting}
use Rattle.sial_parser.specs.Grammar.{ends_body, is_where, begins_proc, begins_declaration}
use Rattle.sial_parser.specs.Parsing.{is_end, is_some, begins_compound}
use Rattle.sial_parser.specs.Scope.{thing_of}
use Rattle.sial_parser.specs.declared.fault.Counted.{Counted}
use Rattle.sial_parser.specs.declared.fault.ParseFault.{ParseFault}
use Rattle.sial_parser.specs.declared.fault.ParseFault.TheVariants.{Lex, Expected, Undeclared, Twice, EndName, TooMany, TooDeep, OutOfMemory}
use Rattle.sial_parser.specs.declared.word.Symbol.{Symbol}
use Rattle.sial_parser.specs.declared.word.Symbol.TheVariants.{Key, Name, Number, Quoted, LineEnd, End}
use Rattle.sial_parser.specs.declared.word.Symbol.TheVariants as symbol
use Rattle.sial_parser.specs.declared.word.Word.{Word}
use Rattle.sial_faults.specs.Faults.{Past, fits, unless, where_too_many, at_text_end, fault_at, body_fault, procedures_fault, statement_fault}
use Rattle.sial_faults.specs.Forms.{after, AreParts, program, BeginForm}
use Rattle.sial_faults.specs.Parts.{Part}
use Rattle.sial_faults.specs.Forms as form
use Rattle.sial_faults.specs.Parts as part
use Rattle.sial_faults.specs.Places.{EndsWell, line_in}

-- the end of the text, where nothing may stand behind it
pub end_none : (p : Part) (z : List Word) → at_text_end p z None ≡ None
end_none part.text_end [] = refl
end_none part.text_end (w ∷ z) = refl
end_none _ z = refl

pub end_some : (p : Part) (z : List Word) (a : Option (List Part)) (more : List Part) → at_text_end p z a ≡ Some more → a ≡ Some more
end_some part.text_end [] a more e = e
end_some part.text_end (w ∷ z) a more e = absurd cc
end_some _ z a more e = e

not_end : (b : Bool) → b ≡ false → form.where_so b [] ≡ None
not_end b e = ap (λ b. form.where_so b []) e

pub really_none : (p : Part) (w : Word) (ws : List Word) → EndsWell (w ∷ ws) → at_text_end p ws (after p w.symbol) ≡ None → after p w.symbol ≡ None
really_none part.text_end w [] ends e = e
really_none part.text_end w (v ∷ ws) ends e = not_end (is_end w.symbol) ends.0
really_none _ w ws ends e = e

-- the faults of a word that may stand at its part
abbrev pub of_word : ParseFault → Bool
of_word (Lex fault) = false
of_word (Expected line) = false
of_word OutOfMemory = false
of_word _ = true

-- such a fault of a line
abbrev pub HasLine : (line : ℕ) → Option ParseFault → Type 0
HasLine line None = Unit {0}
HasLine line (Some g) = (line_in g ≡ line) × (of_word g ≡ true)

unless_line : (line : ℕ) (b : Bool) (g : ParseFault) (next : Option ParseFault) → HasLine line (Some g) → HasLine line next → HasLine line (unless b g next)
unless_line line true g next h k = k
unless_line line false g next h k = h

many_line : (line n : ℕ) (g : ParseFault) (next : Option ParseFault) → HasLine line (Some g) → HasLine line next → HasLine line (where_too_many n g next)
many_line line zero g next h k = h
many_line line (suc n) g next h k = k

cond_line : (line : ℕ) (b : Bool) (f g : Option ParseFault) → HasLine line f → HasLine line g → HasLine line (cond b f g)
cond_line line true f g h k = h
cond_line line false f g h k = k

module _ (callable : (name : List ℕ) → Bool) (past : Past) (l : ℕ) (behind : List Word) where
  undeclared_line : (b : Bool) → HasLine l (unless b (Undeclared l) None)
  undeclared_line b = unless_line l b (Undeclared l) None (refl, refl) tt

  end_name_line : (b : Bool) → HasLine l (unless b (EndName l) None)
  end_name_line b = unless_line l b (EndName l) None (refl, refl) tt

  list_line : (b : Bool) (room : ℕ) (which : Counted) → HasLine l (unless b (Undeclared l) (where_too_many room (TooMany l which) None))
  list_line b room which = unless_line l b (Undeclared l) (where_too_many room (TooMany l which) None) (refl, refl) (many_line l room (TooMany l which) None (refl, refl) tt)

  statement_line : (inner : ℕ) (what : Symbol) → HasLine l (statement_fault past inner l what behind)
  statement_line inner (Name x) = list_line _ past.left _
  statement_line inner (Key k) = many_line l past.left _ _ (refl, refl) (cond_line l (begins_compound (Key k)) _ _ (many_line l inner _ _ (refl, refl) tt) tt)
  statement_line inner _ = many_line l past.left _ _ (refl, refl) tt

  body_line : (inner : ℕ) (what : Symbol) → HasLine l (body_fault past inner l what behind)
  body_line inner what = cond_line l (ends_body what) None (statement_fault past inner l what behind) tt (statement_line inner what)

  procedures_line : (what : Symbol) → HasLine l (procedures_fault past l what behind)
  procedures_line what = cond_line l (begins_proc what) None _ tt (body_line most_nesting what)

  pub fault_line : (what : Symbol) (p : Part) → HasLine l (fault_at callable past p l what behind)
  fault_line (Name x) (part.new named) = cond_line l (is_some (thing_of past.scope x)) _ _ (refl, refl) (unless_line l _ _ None (refl, refl) tt)
  fault_line (Name x) (part.asked a) = undeclared_line (fits a (thing_of past.scope x))
  fault_line (Name x) (part.loop inner) = undeclared_line _
  fault_line (Name x) part.index_or_end = undeclared_line _
  fault_line (Name x) part.value = undeclared_line _
  fault_line (Name x) part.right = undeclared_line _
  fault_line (Name x) part.operand = undeclared_line _
  fault_line (Name x) part.called = undeclared_line (callable x)
  fault_line (Name x) (part.dim room) = list_line _ room _
  fault_line (Name x) (part.along inner room names) = list_line _ room _
  fault_line (Name x) (part.slot room) = list_line _ room _
  fault_line (Name x) (part.named_end y) = end_name_line (bytes_eq x y)
  fault_line (Name x) (part.list_end xs) = end_name_line _
  fault_line (Name x) (part.list_name xs) = end_name_line _
  fault_line LineEnd (part.list_more xs) = end_name_line _
  fault_line what (part.slot room) = many_line l room _ None (refl, refl) tt
  fault_line what (part.body e inner) = body_line inner what
  fault_line what (part.wheres inner) = cond_line l (is_where what) None _ tt (body_line inner what)
  fault_line what part.procedures = procedures_line what
  fault_line what part.declarations = cond_line l (begins_declaration what) None _ tt (procedures_line what)
  fault_line (Name x) _ = tt
  fault_line (Key k) _ = tt
  fault_line (symbol.Sign k) _ = tt
  fault_line (Number k) _ = tt
  fault_line (Quoted k) _ = tt
  fault_line LineEnd _ = tt
  fault_line End _ = tt

  -- the end of the text has no fault but Expected
  pub end_faultless : (what : Symbol) (p : Part) (more : List Part) → is_end what ≡ true → after p what ≡ Some more → fault_at callable past p l what behind ≡ None
  end_faultless End part.text_end more f e = refl
  end_faultless End (part.fixed part.line_end) more f e = absurd cc
  end_faultless End _ more f e = absurd cc
  end_faultless _ _ more f e = absurd cc

module _ (callable : (name : List ℕ) → Bool) (past : Past) (l : ℕ) where
  -- of the words behind, a fault depends on the next one alone
  pub local_fault : (what : Symbol) (p : Part) (v : Word) (a b : List Word) → fault_at callable past p l what (v ∷ a) ≡ fault_at callable past p l what (v ∷ b)
  local_fault (Name x) part.right v a b = refl
  local_fault (Key k) part.right v a b = refl
  local_fault (symbol.Sign k) part.right v a b = refl
  local_fault (Number k) part.right v a b = refl
  local_fault (Quoted k) part.right v a b = refl
  local_fault LineEnd part.right v a b = refl
  local_fault End part.right v a b = refl
  local_fault _ _ v a b = refl

  -- whatever stands behind, there is some fault; but what a name has to be, the next word tells
  abbrev pub Sticks : ParseFault → (List Word → Option ParseFault) → Type 0
  Sticks (Undeclared line) f = Unit {0}
  Sticks g f = (z : List Word) → f z ≡ None → ⊥

  sticks_any : (g : ParseFault) (f : List Word → Option ParseFault) → ((z : List Word) → f z ≡ None → ⊥) → Sticks g f
  sticks_any (Undeclared line) f h = tt
  sticks_any (Lex fault) f h = h
  sticks_any (Expected line) f h = h
  sticks_any (Twice line) f h = h
  sticks_any (EndName line) f h = h
  sticks_any (TooMany line which) f h = h
  sticks_any (TooDeep line) f h = h
  sticks_any OutOfMemory f h = h

  constant : (f : Option ParseFault) (g : ParseFault) → f ≡ Some g → Sticks g (λ z. f)
  constant f g e = sticks_any g (λ z. f) (λ z h. absurd (let k : ◌≡◌ {A = Option ParseFault} None (Some g) = sym h ∙ e in cc))

  looked_up : (b : Bool) (g : ParseFault) (f : List Word → Option ParseFault) → unless b (Undeclared l) None ≡ Some g → Sticks g f
  looked_up true g f e = absurd cc
  looked_up false g f e = subst (λ g. Sticks g f) (let h : Undeclared l ≡ g = cc in h) tt

  first_word : (n : ℕ) (which : Counted) (fit : List Word → Bool) (behind : List Word) (g : ParseFault) → unless (fit behind) (Undeclared l) (where_too_many n (TooMany l which) None) ≡ Some g
      → Sticks g (λ z. unless (fit z) (Undeclared l) (where_too_many n (TooMany l which) None))
  first_word (suc n) which fit behind g e = looked_up (fit behind) g (λ z. unless (fit z) (Undeclared l) None) e
  first_word zero which fit behind g e = sticks_any g (λ z. unless (fit z) (Undeclared l) (Some (TooMany l which))) (λ z h. some (fit z) h)
    where
      some : (b : Bool) → unless b (Undeclared l) (Some (TooMany l which)) ≡ None → ⊥
      some true h = absurd cc
      some false h = absurd cc

  pub sticks : (what : Symbol) (p : Part) (behind : List Word) (g : ParseFault) → fault_at callable past p l what behind ≡ Some g → Sticks g (λ z. fault_at callable past p l what z)
  sticks (Name x) part.right behind g e = looked_up _ g _ e
  sticks (Name x) part.operand behind g e = looked_up _ g _ e
  sticks (Name x) (part.body o inner) behind g e = first_word past.left _ _ behind g e
  sticks (Name x) (part.wheres inner) behind g e = first_word past.left _ _ behind g e
  sticks (Name x) part.procedures behind g e = first_word past.left _ _ behind g e
  sticks (Name x) part.declarations behind g e = first_word past.left _ _ behind g e
  sticks (Key k) part.right behind g e = absurd cc
  sticks (symbol.Sign k) part.right behind g e = absurd cc
  sticks (Number k) part.right behind g e = absurd cc
  sticks (Quoted k) part.right behind g e = absurd cc
  sticks LineEnd part.right behind g e = absurd cc
  sticks End part.right behind g e = absurd cc
  sticks what p behind g e = constant (fault_at callable past p l what behind) g e
