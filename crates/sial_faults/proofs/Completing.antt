-- What parts lead to, and what completes them.
use Rattle.std.proofs.Common.{◌≡◌, ℕ, List, [], ◌∷◌, ◌++◌, Option, Some, None, refl, sym, ap, ◌∙◌, subst}
use Rattle.sial_syntax.specs.Limits.{most_nesting, most_rank}
use Rattle.sial_parser.specs.Grammar.{at}
use Rattle.sial_parser.specs.declared.keyword.Keyword.TheVariants as key
use Rattle.sial_parser.specs.declared.sign.Sign.TheVariants as sign
use Rattle.sial_parser.specs.declared.word.Symbol.{Symbol}
use Rattle.sial_parser.specs.declared.word.Symbol.TheVariants.{Key, Name, Number, Quoted, LineEnd, End}
use Rattle.sial_parser.specs.declared.word.Symbol.TheVariants as symbol
use Rattle.sial_parser.specs.declared.word.Word.{Word}
use Rattle.sial_faults.specs.Forms.{says, where_so, less, statement, ended, stays, after_body, after_procedures, declaration, after_new, after_assign, after_bin_or_end, after, AreParts, Leads}
use Rattle.sial_faults.specs.Parts.{Part, Fixed, sial, of, line_end, opening, equals, plus_equals, comma, Named, a_range, a_subindex, a_new_scalar, a_new_array, a_procedure, Ending, of_program, of_procedure, of_do, of_pardo, of_if, of_else}
use Rattle.sial_faults.specs.Forms as form
use Rattle.sial_faults.specs.Parts as part

-- what stands for the parts that are left completes the words
pub leads_then : (parts left : List Part) (ws behind : List Word) → Leads parts ws left → AreParts left behind → AreParts parts (ws ++ behind)
leads_then _ _ _ behind (Leads.here {parts = parts}) h = h
leads_then _ left _ behind (Leads.next {p = p} {more = more} {parts = parts} {w = w} {ws = ws} e l) h = AreParts.next e (leads_then (more ++ parts) left ws behind l h)

pub same_parts : (a b : List Part) → ◌≡◌ {A = Option (List Part)} (Some a) (Some b) → a ≡ b
same_parts a b e = let h : a ≡ b = cc in h

pub parts_back : (p : Part) (parts : List Part) (w : Word) (ws : List Word) (more : List Part) → AreParts (p ∷ parts) (w ∷ ws) → after p w.symbol ≡ Some more → AreParts (more ++ parts) ws
parts_back _ _ _ _ more (AreParts.next {part = p} {more = other} {parts = parts} {w = w} {ws = ws} e h) f = subst (λ m. AreParts (m ++ parts) ws) (same_parts other more (sym e ∙ f)) h

-- what completes words stands for the parts that are left
pub leads_back : (parts left : List Part) (ws behind : List Word) → Leads parts ws left → AreParts parts (ws ++ behind) → AreParts left behind
leads_back _ _ _ behind (Leads.here {parts = parts}) h = h
leads_back _ left _ behind (Leads.next {p = p} {more = more} {parts = parts} {w = w} {ws = ws} e l) h = leads_back (more ++ parts) left ws behind l (parts_back p parts w (ws ++ behind) more h e)

-- a word that may not stand at a part
abbrev pub MayNotStand : List Part → Word → Type 0
MayNotStand [] w = Unit {0}
MayNotStand (p ∷ ps) w = after p w.symbol ≡ None

no_word : (all : List Part) (words : List Word) (p : Part) (parts : List Part) (w : Word) (ws : List Word) → AreParts all words → all ≡ p ∷ parts → words ≡ w ∷ ws → after p w.symbol ≡ None → ⊥
no_word _ _ p parts w ws AreParts.none e f g = absurd cc
no_word _ _ p parts w ws (AreParts.next {part = q} {more = more} {parts = qs} {w = v} {ws = vs} h others) e f g =
    let same : q ≡ p = cc in
    let alike : v ≡ w = cc in
    let some : after p w.symbol ≡ Some more = sym (ap (λ r. after r w.symbol) same) ∙ sym (ap (λ u. after q u.symbol) alike) ∙ h in
    absurd (let k : ◌≡◌ {A = Option (List Part)} None (Some more) = sym g ∙ some in cc)

none_left : (all : List Part) (words : List Word) (w : Word) (ws : List Word) → AreParts all words → all ≡ [] → words ≡ w ∷ ws → ⊥
none_left _ _ w ws AreParts.none e f = absurd cc
none_left _ _ w ws (AreParts.next h others) e f = absurd cc

pub not_stands : (parts : List Part) (w : Word) (ws : List Word) → MayNotStand parts w → AreParts parts (w ∷ ws) → ⊥
not_stands [] w ws e h = none_left [] (w ∷ ws) w ws h refl refl
not_stands (p ∷ ps) w ws e h = no_word (p ∷ ps) (w ∷ ws) p ps w ws h refl refl e

-- words that complete parts
pub record Completed (parts : List Part) : Type 0 where
  pub words : List Word
  pub are : AreParts parts words

-- with one word in front
with_word : (p : Part) (what : Symbol) (more parts : List Part) → after p what ≡ Some more → Completed (more ++ parts) → Completed (p ∷ parts)
with_word p what more parts e h = record { words = at 0 what ∷ h.words; are = AreParts.next e h.are }

module _ (parts : List Part) (h : Completed parts) where
  line_after : (p : Part) → after p LineEnd ≡ Some [] → Completed (p ∷ parts)
  line_after p e = with_word p LineEnd [] parts e h

  name_after : (p : Part) → after p (Name []) ≡ Some [] → Completed (p ∷ parts)
  name_after p e = with_word p (Name []) [] parts e h

  a_line : Completed (part.fixed line_end ∷ parts)
  a_line = line_after (part.fixed line_end) refl

  end_completes : (e : Ending) (inner : ℕ) → Completed (part.body e inner ∷ parts)
  end_completes of_program inner = with_word (part.body of_program inner) (Key key.EndSial) [] parts refl h
  end_completes of_procedure inner = with_word (part.body of_procedure inner) (Key key.EndProc) [] parts refl h
  end_completes of_do inner = with_word (part.body of_do inner) (Key key.EndDo) [] parts refl h
  end_completes of_pardo inner = with_word (part.body of_pardo inner) (Key key.EndPardo) [] parts refl h
  end_completes of_if inner = with_word (part.body of_if inner) (Key key.EndIf) (part.fixed line_end ∷ []) parts refl a_line
  end_completes of_else inner = with_word (part.body of_else inner) (Key key.EndIf) (part.fixed line_end ∷ []) parts refl a_line

  fixed_completes : (one : Fixed) → Completed (part.fixed one ∷ parts)
  fixed_completes sial = with_word (part.fixed sial) (Key key.Sial) [] parts refl h
  fixed_completes of = with_word (part.fixed of) (Key key.Of) [] parts refl h
  fixed_completes line_end = a_line
  fixed_completes opening = with_word (part.fixed opening) (symbol.Sign sign.Open) [] parts refl h
  fixed_completes equals = with_word (part.fixed equals) (symbol.Sign sign.Equals) [] parts refl h
  fixed_completes plus_equals = with_word (part.fixed plus_equals) (symbol.Sign sign.PlusEquals) [] parts refl h
  fixed_completes comma = with_word (part.fixed comma) (symbol.Sign sign.Comma) [] parts refl h

  close_after : (p : Part) → after p (symbol.Sign sign.Close) ≡ Some [] → Completed (p ∷ parts)
  close_after p e = with_word p (symbol.Sign sign.Close) [] parts e h

  number_line : (p : Part) (q : Part) → after p (Number 0) ≡ Some (q ∷ []) → after q LineEnd ≡ Some [] → Completed (p ∷ parts)
  number_line p q e f = with_word p (Number 0) (q ∷ []) parts e (line_after q f)

  right_completes : Completed (part.right ∷ parts)
  right_completes = number_line part.right part.bin_or_end refl refl

  dim_completes : (room : ℕ) → Completed (part.dim room ∷ parts)
  dim_completes room = with_word (part.dim room) (Name []) (part.dim_end (less room) ∷ []) parts refl (close_after (part.dim_end (less room)) refl)

  names_end : (names : List (List ℕ)) → Completed (part.list_end names ∷ parts)
  names_end names = line_after (part.list_end names) refl

module _ (parts : List Part) (h : Completed parts) where
  wheres_complete : (inner : ℕ) → Completed (part.wheres inner ∷ parts)
  wheres_complete inner = with_word (part.wheres inner) (Key key.EndPardo) [] parts refl h

  along_line : (inner room : ℕ) (names : List (List ℕ)) → Completed (part.along_end inner room names ∷ parts)
  along_line inner room names = with_word (part.along_end inner room names) LineEnd (part.wheres inner ∷ part.list_end names ∷ []) parts refl
      (with_word (part.wheres inner) (Key key.EndPardo) [] (part.list_end names ∷ parts) refl (names_end parts h names))

  new_completes : (named : Named) → Completed (part.new named ∷ parts)
  new_completes a_range = with_word (part.new a_range) (Name []) (after_new a_range []) parts refl
      (with_word (part.fixed equals) (symbol.Sign sign.Equals) [] (part.bound ∷ part.fixed comma ∷ part.bound ∷ part.enters a_range [] ∷ parts) refl
      (with_word part.bound (Number 0) [] (part.fixed comma ∷ part.bound ∷ part.enters a_range [] ∷ parts) refl
      (with_word (part.fixed comma) (symbol.Sign sign.Comma) [] (part.bound ∷ part.enters a_range [] ∷ parts) refl
      (with_word part.bound (Number 0) [] (part.enters a_range [] ∷ parts) refl (line_after parts h (part.enters a_range []) refl)))))
  new_completes a_subindex = with_word (part.new a_subindex) (Name []) (after_new a_subindex []) parts refl
      (with_word (part.fixed of) (Key key.Of) [] (part.asked part.an_index ∷ part.enters a_subindex [] ∷ parts) refl
      (with_word (part.asked part.an_index) (Name []) [] (part.enters a_subindex [] ∷ parts) refl (line_after parts h (part.enters a_subindex []) refl)))
  new_completes a_new_scalar = with_word (part.new a_new_scalar) (Name []) (after_new a_new_scalar []) parts refl (line_after parts h (part.enters a_new_scalar []) refl)
  new_completes a_new_array = with_word (part.new a_new_array) (Name []) (after_new a_new_array []) parts refl
      (with_word (part.fixed opening) (symbol.Sign sign.Open) [] (part.dim most_rank ∷ part.enters a_new_array [] ∷ parts) refl
      (dim_completes (part.enters a_new_array [] ∷ parts) (line_after parts h (part.enters a_new_array []) refl) most_rank))
  new_completes a_procedure = with_word (part.new a_procedure) (Name []) (after_new a_procedure []) parts refl
      (a_line (part.body of_procedure most_nesting ∷ part.named_end [] ∷ parts) (end_completes (part.named_end [] ∷ parts) (line_after parts h (part.named_end []) refl) of_procedure most_nesting))

module _ (parts : List Part) (h : Completed parts) where
  block_completes : Completed (form.block parts)
  block_completes = with_word (part.asked part.an_array) (Name []) [] (part.fixed opening ∷ part.dim most_rank ∷ parts) refl (fixed_completes (part.dim most_rank ∷ parts) (dim_completes parts h most_rank) opening)

  one_completes : (p : Part) → Completed (p ∷ parts)
  one_completes (part.fixed one) = fixed_completes parts h one
  one_completes part.text_end = with_word part.text_end End [] parts refl h
  one_completes part.title = with_word part.title (Name []) (part.fixed line_end ∷ part.declarations ∷ part.named_end [] ∷ part.text_end ∷ []) parts refl
      (a_line (part.declarations ∷ part.named_end [] ∷ part.text_end ∷ parts)
      (with_word part.declarations (Key key.EndSial) [] (part.named_end [] ∷ part.text_end ∷ parts) refl (line_after (part.text_end ∷ parts) (with_word part.text_end End [] parts refl h) (part.named_end []) refl)))
  one_completes (part.new named) = new_completes parts h named
  one_completes (part.enters named x) = line_after parts h (part.enters named x) refl
  one_completes (part.asked a) = name_after parts h (part.asked a) refl
  one_completes part.called = name_after parts h part.called refl
  one_completes part.bound = name_after parts h part.bound refl
  one_completes part.number = with_word part.number (Number 0) [] parts refl h
  one_completes part.quoted = with_word part.quoted (Quoted []) [] parts refl h
  one_completes part.value = name_after parts h part.value refl
  one_completes part.test = with_word part.test (symbol.Sign sign.Less) [] parts refl h
  one_completes part.access = with_word part.access (symbol.Sign sign.Equals) [] parts refl h
  one_completes part.executed = with_word part.executed (Key key.PrintScalar) (part.asked part.a_scalar ∷ part.fixed line_end ∷ []) parts refl (name_after (part.fixed line_end ∷ parts) (a_line parts h) (part.asked part.a_scalar) refl)
  one_completes (part.dim room) = dim_completes parts h room
  one_completes (part.dim_end room) = close_after parts h (part.dim_end room) refl
  one_completes (part.slot room) = with_word (part.slot room) (Name []) (part.slot_end (less room) ∷ []) parts refl (close_after parts h (part.slot_end (less room)) refl)
  one_completes (part.slot_end room) = close_after parts h (part.slot_end room) refl
  one_completes (part.along inner room names) = with_word (part.along inner room names) (Name []) (part.along_end inner (less room) (names ++ [] ∷ []) ∷ []) parts refl (along_line parts h inner (less room) (names ++ [] ∷ []))
  one_completes (part.along_end inner room names) = along_line parts h inner room names
  one_completes part.right = right_completes parts h
  one_completes part.bin_or_end = line_after parts h part.bin_or_end refl
  one_completes part.operand = number_line parts h part.operand (part.fixed line_end) refl refl
  one_completes part.dims_or_bin = line_after parts h part.dims_or_bin refl
  one_completes part.dims_or_end = line_after parts h part.dims_or_end refl
  one_completes part.assign = with_word part.assign (symbol.Sign sign.Equals) (part.right ∷ []) parts refl (right_completes parts h)
  one_completes part.dims_or_assign = with_word part.dims_or_assign (symbol.Sign sign.Equals) (part.right ∷ []) parts refl (right_completes parts h)
  one_completes part.index_or_end = line_after parts h part.index_or_end refl
  one_completes (part.loop inner) = with_word (part.loop inner) (Name []) (part.in_or_end ∷ part.body of_do inner ∷ part.named_end [] ∷ []) parts refl
      (line_after (part.body of_do inner ∷ part.named_end [] ∷ parts) (end_completes (part.named_end [] ∷ parts) (line_after parts h (part.named_end []) refl) of_do inner) part.in_or_end refl)
  one_completes part.in_or_end = line_after parts h part.in_or_end refl
  one_completes (part.named_end x) = line_after parts h (part.named_end x) refl
  one_completes (part.list_end xs) = line_after parts h (part.list_end xs) refl
  one_completes (part.list_name xs) = with_word (part.list_name xs) (Name []) (part.list_more (form.others xs) ∷ []) parts refl (line_after parts h (part.list_more (form.others xs)) refl)
  one_completes (part.list_more xs) = line_after parts h (part.list_more xs) refl
  one_completes (part.body e inner) = end_completes parts h e inner
  one_completes (part.wheres inner) = wheres_complete parts h inner
  one_completes part.procedures = with_word part.procedures (Key key.EndSial) [] parts refl h
  one_completes part.declarations = with_word part.declarations (Key key.EndSial) [] parts refl h

-- any parts can be completed
pub completed : (parts : List Part) → Completed parts
completed [] = record { words = []; are = AreParts.none }
completed (p ∷ ps) = one_completes ps (completed ps) p
