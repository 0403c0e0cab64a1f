-- Where a text has no other fault, the first `call` of no procedure is what is left.
use Rattle.std.proofs.Common.{◌≡◌, ℕ, List, [], ◌∷◌, ◌++◌, Bool, true, false, cond, Option, Some, None, Ok, refl, sym, ap, ◌∙◌, subst}
use Rattle.std.specs.Prelude.{codes}
use Rattle.std.specs.Str.{bytes_eq}
use Rattle.sial_syntax.specs.Limits.{most_nesting, most_rank}
use Rattle.sial_parser.specs.Grammar.{at, ends_body, is_where, begins_proc, begins_declaration, opens}
use Rattle.sial_parser.specs.Parsing.{is_some, bin_of, op_of, test_of, is_line_end, is_end}
use Rattle.sial_parser.specs.declared.fault.ParseFault.{ParseFault}
use Rattle.sial_parser.specs.declared.fault.ParseFault.TheVariants.{Undeclared}
use Rattle.sial_parser.specs.declared.keyword.Keyword.{Keyword}
use Rattle.sial_parser.specs.declared.keyword.Keyword.TheVariants as key
use Rattle.sial_parser.specs.declared.sign.Sign.TheVariants as sign
use Rattle.sial_parser.specs.declared.word.Symbol.{Symbol}
use Rattle.sial_parser.specs.declared.word.Symbol.TheVariants.{Key, Name, Number, Quoted, LineEnd, End}
use Rattle.sial_parser.specs.declared.word.Symbol.TheVariants as symbol
use Rattle.sial_parser.specs.declared.word.Word.{Word}
use Rattle.sial_faults.specs.Faults.{Past, unless, told, at_text_end, checked, fault_at, past_after, any_name, fault_in, or_else, is_call, uncallable, first_uncallable, first_uncalled}
use Rattle.sial_faults.specs.Forms.{says, where_so, less, statement, ended, stays, after_body, after_procedures, after_assign, after_bin_or_end, after_new, after}
use Rattle.sial_faults.specs.Parts.{Part, Named, a_range, a_subindex, a_new_scalar, a_new_array, a_procedure, Ending, of_program, of_procedure, of_do, of_pardo, of_if, of_else, line_end, equals}
use Rattle.sial_faults.specs.Forms as form
use Rattle.sial_faults.specs.Parts as part
use Rattle.sial_faults.proofs.FaultPlaces.{end_some}
use Rattle.sial_faults.proofs.Standing.{Going, going}

-- a part at which no called name stands
abbrev is_free : Part → Bool
is_free part.called = false
is_free _ = true

abbrev all_free : List Part → Bool
all_free [] = true
all_free (p ∷ ps) = cond (is_free p) (all_free ps) false

abbrev free_in : Option (List Part) → Bool
free_in None = true
free_in (Some more) = all_free more

so_free : (b : Bool) (more : List Part) → all_free more ≡ true → free_in (where_so b more) ≡ true
so_free true more e = e
so_free false more e = refl

one_free : (b : Bool) (x y : Option (List Part)) → free_in x ≡ true → free_in y ≡ true → free_in (cond b x y) ≡ true
one_free true x y e f = e
one_free false x y e f = f

first_so : (b c : Bool) → cond b c false ≡ true → (b ≡ true) × (c ≡ true)
first_so true c e = (refl, e)
first_so false c e = absurd cc

join_free : (a b : List Part) → all_free a ≡ true → all_free b ≡ true → all_free (a ++ b) ≡ true
join_free [] b e f = f
join_free (p ∷ ps) b e f = let both = first_so (is_free p) (all_free ps) e in ap (λ c. cond c (all_free (ps ++ b)) false) both.0 ∙ join_free ps b both.1 f

stays_free : (e : Ending) (inner : ℕ) (m : Option (List Part)) → free_in m ≡ true → free_in (stays e inner m) ≡ true
stays_free e inner None h = refl
stays_free e inner (Some more) h = join_free more (part.body e inner ∷ []) h refl

ended_free : (e : Ending) (inner : ℕ) (what : Symbol) → free_in (ended e inner what) ≡ true
ended_free of_program inner (Key key.EndSial) = refl
ended_free of_procedure inner (Key key.EndProc) = refl
ended_free of_do inner (Key key.EndDo) = refl
ended_free of_pardo inner (Key key.EndPardo) = refl
ended_free of_if inner (Key key.Else) = refl
ended_free of_if inner (Key key.EndIf) = refl
ended_free of_else inner (Key key.EndIf) = refl
ended_free _ inner _ = refl

statement_free : (inner : ℕ) (what : Symbol) → is_call what ≡ false → free_in (statement inner what) ≡ true
statement_free inner (Name x) k = refl
statement_free inner (Key key.Call) k = absurd cc
statement_free inner (Key _) k = refl
statement_free inner _ k = refl

body_free : (e : Ending) (inner : ℕ) (what : Symbol) → is_call what ≡ false → free_in (after_body e inner what) ≡ true
body_free e inner what k = one_free (ends_body what) (ended e inner what) (stays e inner (statement (less inner) what)) (ended_free e inner what) (stays_free e inner (statement (less inner) what) (statement_free (less inner) what k))

procedures_free : (what : Symbol) → is_call what ≡ false → free_in (after_procedures what) ≡ true
procedures_free what k = one_free (begins_proc what) (Some (part.new a_procedure ∷ part.procedures ∷ [])) (after_body of_program most_nesting what) refl (body_free of_program most_nesting what k)

key_free : (k : Keyword) → all_free (form.declaration (Key k) ++ part.declarations ∷ []) ≡ true
key_free key.SubIndex = refl
key_free _ = refl

declaration_free : (what : Symbol) → all_free (form.declaration what ++ part.declarations ∷ []) ≡ true
declaration_free (Key k) = key_free k
declaration_free _ = refl

named_free : (named : Named) (x : List ℕ) → all_free (after_new named x) ≡ true
named_free a_range x = refl
named_free a_subindex x = refl
named_free a_new_scalar x = refl
named_free a_new_array x = refl
named_free a_procedure x = refl

bin_free : (what : Symbol) → free_in (after_bin_or_end what) ≡ true
bin_free what = one_free (is_some (bin_of what)) (Some (part.operand ∷ [])) (where_so (is_line_end what) []) refl (so_free (is_line_end what) [] refl)

after_free : (p : Part) (what : Symbol) → is_call what ≡ false → free_in (after p what) ≡ true
after_free part.title (Name x) k = refl
after_free (part.new named) (Name x) k = named_free named x
after_free (part.enters named x) what k = so_free (is_line_end what) [] refl
after_free part.declarations what k = one_free (begins_declaration what) (Some (form.declaration what ++ part.declarations ∷ [])) (after_procedures what) (declaration_free what) (procedures_free what k)
after_free part.text_end what k = so_free (is_end what) [] refl
after_free (part.fixed one) what k = so_free (says one what) [] refl
after_free part.test what k = so_free (is_some (test_of what)) [] refl
after_free part.access (Name x) k = so_free (bytes_eq x (codes "max")) (part.fixed equals ∷ []) refl
after_free part.assign what k = so_free (is_some (op_of what)) (part.right ∷ []) refl
after_free part.dims_or_assign what k = one_free (opens what) (Some (part.dim most_rank ∷ part.assign ∷ [])) (after_assign what) refl (so_free (is_some (op_of what)) (part.right ∷ []) refl)
after_free part.bin_or_end what k = bin_free what
after_free part.dims_or_bin what k = one_free (opens what) (Some (part.dim most_rank ∷ part.bin_or_end ∷ [])) (after_bin_or_end what) refl (bin_free what)
after_free part.dims_or_end what k = one_free (opens what) (Some (part.dim most_rank ∷ part.fixed line_end ∷ [])) (where_so (is_line_end what) []) refl (so_free (is_line_end what) [] refl)
after_free (part.body e inner) what k = body_free e inner what k
after_free (part.wheres inner) what k = one_free (is_where what) (Some (form.condition (part.wheres inner ∷ []))) (after_body of_pardo inner what) refl (body_free of_pardo inner what k)
after_free part.procedures what k = procedures_free what k
after_free (part.asked a) (Name x) k = refl
after_free part.called (Name x) k = refl
after_free part.bound (Name x) k = refl
after_free part.number (Number n) k = refl
after_free part.quoted (Quoted t) k = refl
after_free part.value (symbol.Sign sign.Minus) k = refl
after_free part.access (symbol.Sign sign.Equals) k = refl
after_free part.executed (Key key.PrintScalar) k = refl
after_free (part.dim room) (Name x) k = refl
after_free (part.dim_end room) (symbol.Sign sign.Comma) k = refl
after_free (part.slot room) (symbol.Sign sign.Times) k = refl
after_free (part.slot_end room) (symbol.Sign sign.Comma) k = refl
after_free (part.along inner room names) (Name x) k = refl
after_free (part.along_end inner room names) (symbol.Sign sign.Comma) k = refl
after_free part.right (symbol.Sign sign.Minus) k = refl
after_free part.operand (symbol.Sign sign.Minus) k = refl
after_free part.index_or_end (Name x) k = refl
after_free (part.loop inner) (Name x) k = refl
after_free part.in_or_end (Key key.In) k = refl
after_free (part.named_end x) (Name y) k = refl
after_free (part.list_end xs) (Name y) k = refl
after_free (part.list_name xs) (Name y) k = refl
after_free (part.list_more xs) (symbol.Sign sign.Comma) k = refl
after_free _ _ k = refl

-- what a word `call` leaves due
abbrev CallsNext : Option (List Part) → Type 0
CallsNext None = Unit {0}
CallsNext (Some []) = ⊥
CallsNext (Some (p ∷ ps)) = (p ≡ part.called) × (all_free ps ≡ true)

call_part : (what : Symbol) (p : Part) → is_call what ≡ true → CallsNext (after p what)
call_part (Key key.Call) (part.body e inner) h = (refl, refl)
call_part (Key key.Call) (part.wheres inner) h = (refl, refl)
call_part (Key key.Call) part.procedures h = (refl, refl)
call_part (Key key.Call) part.declarations h = (refl, refl)
call_part (Key key.Call) (part.fixed line_end) h = tt
call_part (Key key.Call) _ h = tt
call_part _ p h = absurd cc

-- below the first part no called name is due
abbrev pub Below : List Part → Type 0
Below [] = Unit {0}
Below (p ∷ ps) = all_free ps ≡ true

module _ (callable : (name : List ℕ) → Bool) where
  -- a called name that is due
  abbrev pub due_uncalled : List Part → List Word → Option ParseFault
  due_uncalled (part.called ∷ ps) ws = first_uncallable callable ws
  due_uncalled _ ws = None

  free_due : (ps : List Part) (ws : List Word) → all_free ps ≡ true → due_uncalled ps ws ≡ None
  free_due [] ws e = refl
  free_due (part.called ∷ ps) ws e = absurd cc
  free_due (p ∷ ps) ws e = refl

  free_below : (ps : List Part) → all_free ps ≡ true → Below ps
  free_below [] e = tt
  free_below (p ∷ ps) e = let both = first_so (is_free p) (all_free ps) e in both.1

  -- faults that don't depend on which names may be called
  other_fault : (what : Symbol) (p : Part) (past : Past) (l : ℕ) (behind : List Word) → is_free p ≡ true → fault_at callable past p l what behind ≡ fault_at any_name past p l what behind
  other_fault (Name x) part.called past l behind h = absurd cc
  other_fault (Key x) part.called past l behind h = absurd cc
  other_fault (symbol.Sign x) part.called past l behind h = absurd cc
  other_fault (Number x) part.called past l behind h = absurd cc
  other_fault (Quoted x) part.called past l behind h = absurd cc
  other_fault LineEnd part.called past l behind h = absurd cc
  other_fault End part.called past l behind h = absurd cc
  other_fault _ p past l behind h = refl

  module _ (end : Past) where
    abbrev LeftAt : List Word → Type 0
    LeftAt ws = (past : Past) (parts : List Part) → Below parts → checked any_name past parts ws ≡ Ok end → fault_in (checked callable past parts ws) ≡ or_else (due_uncalled parts ws) (first_uncalled callable ws)

    behind_call : (more ps : List Part) (ws : List Word) → CallsNext (Some more) → all_free ps ≡ true → (due_uncalled (more ++ ps) ws ≡ first_uncallable callable ws) × Below (more ++ ps)
    behind_call [] ps ws h k = absurd h
    behind_call (q ∷ qs) ps ws h k = (ap (λ r. due_uncalled (r ∷ (qs ++ ps)) ws) h.0, join_free qs ps h.1 k)

    -- behind a word, at which nothing else is wrong
    go_on : (b : Bool) (past : Past) (p : Part) (ps : List Part) (w : Word) (ws : List Word) → is_call w.symbol ≡ b → LeftAt ws → all_free ps ≡ true → (more : List Part) → after p w.symbol ≡ Some more → checked any_name (past_after p w.symbol past) (more ++ ps) ws ≡ Ok end
        → fault_in (checked callable (past_after p w.symbol past) (more ++ ps) ws) ≡ or_else (cond b (first_uncallable callable ws) None) (first_uncalled callable ws)
    go_on true past p ps w ws b go h more e g =
        let next = behind_call more ps ws (subst CallsNext e (call_part w.symbol p b)) h in
        go (past_after p w.symbol past) (more ++ ps) next.1 g ∙ ap (λ o. or_else o (first_uncalled callable ws)) next.0
    go_on false past p ps w ws b go h more e g =
        let all = join_free more ps (sym (ap free_in e) ∙ after_free p w.symbol b) h in
        go (past_after p w.symbol past) (more ++ ps) (free_below (more ++ ps) all) g ∙ ap (λ o. or_else o (first_uncalled callable ws)) (free_due (more ++ ps) ws all)

    -- what is told of a word
    told_next : (past : Past) (p : Part) (ps : List Part) (w : Word) (ws : List Word) (more : List Part) (f : Option ParseFault) → at_text_end p ws (after p w.symbol) ≡ Some more → fault_at callable past p w.line w.symbol ws ≡ f
        → checked callable past (p ∷ ps) (w ∷ ws) ≡ told w.line (Some more) f (λ more. checked callable (past_after p w.symbol past) (more ++ ps) ws)
    told_next past p ps w ws more f e k =
        ap (λ a. told w.line a (fault_at callable past p w.line w.symbol ws) (λ more. checked callable (past_after p w.symbol past) (more ++ ps) ws)) e
        ∙ ap (λ f. told w.line (Some more) f (λ more. checked callable (past_after p w.symbol past) (more ++ ps) ws)) k

    called_by : (b : Bool) (l : ℕ) (past : Past) (ps : List Part) (ws : List Word) → LeftAt ws → all_free ps ≡ true → checked any_name past ps ws ≡ Ok end
        → fault_in (told l (Some []) (unless b (Undeclared l) None) (λ more. checked callable past (more ++ ps) ws)) ≡ or_else (unless b (Undeclared l) None) (first_uncalled callable ws)
    called_by true l past ps ws go h g = go past ps (free_below ps h) g ∙ ap (λ o. or_else o (first_uncalled callable ws)) (free_due ps ws h)
    called_by false l past ps ws go h g = refl

    at_called : (past : Past) (ps : List Part) (l : ℕ) (what : Symbol) (ws : List Word) → LeftAt ws → all_free ps ≡ true → Going end l (after part.called what) (fault_at any_name past part.called l what ws) (λ more. checked any_name past (more ++ ps) ws)
        → fault_in (checked callable past (part.called ∷ ps) (at l what ∷ ws)) ≡ or_else (uncallable callable what l) (or_else (cond (is_call what) (first_uncallable callable ws) None) (first_uncalled callable ws))
    at_called past ps l (Name x) ws go h g =
        let none : g.more ≡ [] = let k : ◌≡◌ {A = Option (List Part)} (Some []) (Some g.more) = g.is in cc in
        called_by (callable x) l past ps ws go h (ap (λ m. checked any_name past (m ++ ps) ws) (sym none) ∙ g.goes)
    at_called past ps l _ ws go h g = absurd (let k : ◌≡◌ {A = Option (List Part)} None (Some g.more) = g.is in cc)

    by_part : (past : Past) (p : Part) (ps : List Part) (w : Word) (ws : List Word) → LeftAt ws → all_free ps ≡ true → Going end w.line (at_text_end p ws (after p w.symbol)) (fault_at any_name past p w.line w.symbol ws) (λ more. checked any_name (past_after p w.symbol past) (more ++ ps) ws)
        → fault_in (checked callable past (p ∷ ps) (w ∷ ws)) ≡ or_else (due_uncalled (p ∷ ps) (w ∷ ws)) (first_uncalled callable (w ∷ ws))
    by_part past part.called ps w ws go h g = at_called past ps w.line w.symbol ws go h g
    by_part past p ps w ws go h g =
        ap fault_in (told_next past p ps w ws g.more None g.is (other_fault w.symbol p past w.line ws refl ∙ g.none))
        ∙ go_on (is_call w.symbol) past p ps w ws refl go h g.more (end_some p ws (after p w.symbol) g.more g.is) g.goes

    pub left_at : (ws : List Word) → LeftAt ws
    left_at [] past [] h e = refl
    left_at [] past (p ∷ ps) h e = absurd cc
    left_at (w ∷ ws) past [] h e = absurd cc
    left_at (w ∷ ws) past (p ∷ ps) h e =
        by_part past p ps w ws (left_at ws) h (going end w.line (at_text_end p ws (after p w.symbol)) (fault_at any_name past p w.line w.symbol ws) (λ more. checked any_name (past_after p w.symbol past) (more ++ ps) ws) e)
