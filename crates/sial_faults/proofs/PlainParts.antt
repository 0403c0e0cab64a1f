-- Parts that declare nothing, and what is due behind a word at one of them.
use Rattle.std.proofs.Common.{◌≡◌, ℕ, List, [], ◌∷◌, ◌++◌, Bool, true, false, cond, Option, Some, None, Ok, refl, ap, ◌∙◌}
use Rattle.std.specs.Prelude.{codes}
use Rattle.std.specs.Str.{bytes_eq}
use Rattle.sial_syntax.specs.Limits.{most_nesting, most_rank}
use Rattle.sial_parser.specs.Grammar.{ends_body, is_where, begins_proc, opens}
use Rattle.sial_parser.specs.Parsing.{is_some, first_name, proc_names, bin_of, op_of, test_of, is_line_end, is_end}
use Rattle.sial_parser.specs.declared.keyword.Keyword.TheVariants as key
use Rattle.sial_parser.specs.declared.sign.Sign.TheVariants as sign
use Rattle.sial_parser.specs.declared.word.Symbol.{Symbol}
use Rattle.sial_parser.specs.declared.word.Symbol.TheVariants.{Key, Name, Number, Quoted, LineEnd, End}
use Rattle.sial_parser.specs.declared.word.Symbol.TheVariants as symbol
use Rattle.sial_parser.specs.declared.word.Word.{Word}
use Rattle.sial_faults.specs.Faults.{Past, at_text_end, checked, fault_at, past_after, past_body, past_procedures, known_then, known_behind}
use Rattle.sial_faults.specs.Forms.{says, where_so, less, statement, ended, stays, after_body, after_procedures, after_assign, after_bin_or_end, after, program}
use Rattle.sial_faults.specs.Parts.{Part, a_procedure, Ending, of_program, of_procedure, of_do, of_pardo, of_if, of_else, line_end, equals}
use Rattle.sial_faults.specs.Forms as form
use Rattle.sial_faults.specs.Parts as part
use Rattle.sial_faults.proofs.FaultPlaces.{end_some}
use Rattle.sial_faults.proofs.Standing.{going}

-- what words declare is what going through them gives in the end
pub known_is : (callable : (name : List ℕ) → Bool) (end : Past) (ws : List Word) (past : Past) (parts : List Part) → checked callable past parts ws ≡ Ok end → known_behind past parts ws ≡ end
known_is callable end [] past [] e = let h : past ≡ end = cc in h
known_is callable end [] past (p ∷ ps) e = absurd cc
known_is callable end (w ∷ ws) past [] e = absurd cc
known_is callable end (w ∷ ws) past (p ∷ ps) e =
    let g = going end w.line (at_text_end p ws (after p w.symbol)) (fault_at callable past p w.line w.symbol ws) (λ more. checked callable (past_after p w.symbol past) (more ++ ps) ws) e in
    ap (λ m. known_then past m (λ more. known_behind (past_after p w.symbol past) (more ++ ps) ws)) (end_some p ws (after p w.symbol) g.more g.is) ∙ known_is callable end ws (past_after p w.symbol past) (g.more ++ ps) g.goes

-- parts that declare nothing, and before which no declaration is due
abbrev pub plain : Part → Bool
plain (part.new named) = false
plain (part.enters named x) = false
plain part.declarations = false
plain part.title = false
plain _ = true

abbrev pub all_plain : List Part → Bool
all_plain [] = true
all_plain (p ∷ ps) = cond (plain p) (all_plain ps) false

-- such parts, maybe behind the name of a procedure
abbrev pub ready : List Part → Bool
ready [] = true
ready (part.new a_procedure ∷ ps) = all_plain ps
ready (p ∷ ps) = cond (plain p) (all_plain ps) false

-- the names behind each `proc` that is still to come
abbrev pub names_due : List Part → List Word → List (List ℕ)
names_due (part.new a_procedure ∷ ps) ws = first_name ws ++ proc_names ws
names_due _ ws = proc_names ws

first_so : (b c : Bool) → cond b c false ≡ true → (b ≡ true) × (c ≡ true)
first_so true c e = (refl, e)
first_so false c e = absurd cc

plain_due : (p : Part) (ps : List Part) (ws : List Word) → plain p ≡ true → names_due (p ∷ ps) ws ≡ proc_names ws
plain_due (part.new a_procedure) ps ws e = absurd cc
plain_due _ ps ws e = refl

pub all_due : (ps : List Part) (ws : List Word) → all_plain ps ≡ true → names_due ps ws ≡ proc_names ws
all_due [] ws e = refl
all_due (p ∷ ps) ws e = let both = first_so (plain p) (all_plain ps) e in plain_due p ps ws both.0

plain_ready : (p : Part) (ps : List Part) → plain p ≡ true → all_plain ps ≡ true → ready (p ∷ ps) ≡ true
plain_ready (part.new a_procedure) ps e f = absurd cc
plain_ready (part.new named) ps e f = absurd cc
plain_ready p ps e f = ap (λ b. cond b (all_plain ps) false) e ∙ f

pub all_ready : (ps : List Part) → all_plain ps ≡ true → ready ps ≡ true
all_ready [] e = refl
all_ready (p ∷ ps) e = let both = first_so (plain p) (all_plain ps) e in plain_ready p ps both.0 both.1

ready_plain : (p : Part) (ps : List Part) → plain p ≡ true → ready (p ∷ ps) ≡ true → all_plain ps ≡ true
ready_plain (part.new a_procedure) ps e f = absurd cc
ready_plain p ps e f = let both = first_so (plain p) (all_plain ps) f in both.1

pub join_plain : (a b : List Part) → all_plain a ≡ true → all_plain b ≡ true → all_plain (a ++ b) ≡ true
join_plain [] b e f = f
join_plain (p ∷ ps) b e f = let both = first_so (plain p) (all_plain ps) e in ap (λ c. cond c (all_plain (ps ++ b)) false) both.0 ∙ join_plain ps b both.1 f

-- what is due behind a word that is no `proc`
abbrev pub plain_in : Option (List Part) → Bool
plain_in None = true
plain_in (Some more) = all_plain more

so_plain : (b : Bool) (more : List Part) → all_plain more ≡ true → plain_in (where_so b more) ≡ true
so_plain true more e = e
so_plain false more e = refl

one_plain : (b : Bool) (x y : Option (List Part)) → plain_in x ≡ true → plain_in y ≡ true → plain_in (cond b x y) ≡ true
one_plain true x y e f = e
one_plain false x y e f = f

stays_plain : (e : Ending) (inner : ℕ) (m : Option (List Part)) → plain_in m ≡ true → plain_in (stays e inner m) ≡ true
stays_plain e inner None h = refl
stays_plain e inner (Some more) h = join_plain more (part.body e inner ∷ []) h refl

ended_plain : (e : Ending) (inner : ℕ) (what : Symbol) → plain_in (ended e inner what) ≡ true
ended_plain of_program inner (Key key.EndSial) = refl
ended_plain of_procedure inner (Key key.EndProc) = refl
ended_plain of_do inner (Key key.EndDo) = refl
ended_plain of_pardo inner (Key key.EndPardo) = refl
ended_plain of_if inner (Key key.Else) = refl
ended_plain of_if inner (Key key.EndIf) = refl
ended_plain of_else inner (Key key.EndIf) = refl
ended_plain _ inner _ = refl

statement_plain : (inner : ℕ) (what : Symbol) → plain_in (statement inner what) ≡ true
statement_plain inner (Name x) = refl
statement_plain inner (Key key.Do) = refl
statement_plain inner (Key _) = refl
statement_plain inner _ = refl

body_plain : (e : Ending) (inner : ℕ) (what : Symbol) → plain_in (after_body e inner what) ≡ true
body_plain e inner what = one_plain (ends_body what) (ended e inner what) (stays e inner (statement (less inner) what)) (ended_plain e inner what) (stays_plain e inner (statement (less inner) what) (statement_plain (less inner) what))

bin_plain : (what : Symbol) → plain_in (after_bin_or_end what) ≡ true
bin_plain what = one_plain (is_some (bin_of what)) (Some (part.operand ∷ [])) (where_so (is_line_end what) []) refl (so_plain (is_line_end what) [] refl)

no_proc : (b : Bool) (x y : Option (List Part)) → b ≡ false → plain_in y ≡ true → plain_in (cond b x y) ≡ true
no_proc b x y e h = ap (λ b. plain_in (cond b x y)) e ∙ h

pub after_plain : (p : Part) (what : Symbol) → plain p ≡ true → begins_proc what ≡ false → plain_in (after p what) ≡ true
after_plain part.title what h k = absurd cc
after_plain (part.new named) what h k = absurd cc
after_plain (part.enters named x) what h k = absurd cc
after_plain part.declarations what h k = absurd cc
after_plain part.text_end what h k = so_plain (is_end what) [] refl
after_plain (part.fixed one) what h k = so_plain (says one what) [] refl
after_plain part.test what h k = so_plain (is_some (test_of what)) [] refl
after_plain part.access (Name x) h k = so_plain (bytes_eq x (codes "max")) (part.fixed equals ∷ []) refl
after_plain part.assign what h k = so_plain (is_some (op_of what)) (part.right ∷ []) refl
after_plain part.dims_or_assign what h k = one_plain (opens what) (Some (part.dim most_rank ∷ part.assign ∷ [])) (after_assign what) refl (so_plain (is_some (op_of what)) (part.right ∷ []) refl)
after_plain part.bin_or_end what h k = bin_plain what
after_plain part.dims_or_bin what h k = one_plain (opens what) (Some (part.dim most_rank ∷ part.bin_or_end ∷ [])) (after_bin_or_end what) refl (bin_plain what)
after_plain part.dims_or_end what h k = one_plain (opens what) (Some (part.dim most_rank ∷ part.fixed line_end ∷ [])) (where_so (is_line_end what) []) refl (so_plain (is_line_end what) [] refl)
after_plain (part.body e inner) what h k = body_plain e inner what
after_plain (part.wheres inner) what h k = one_plain (is_where what) (Some (form.condition (part.wheres inner ∷ []))) (after_body of_pardo inner what) refl (body_plain of_pardo inner what)
after_plain part.procedures what h k = no_proc (begins_proc what) (Some (part.new a_procedure ∷ part.procedures ∷ [])) (after_body of_program most_nesting what) k (body_plain of_program most_nesting what)
after_plain (part.asked a) (Name x) h k = refl
after_plain part.called (Name x) h k = refl
after_plain part.bound (Name x) h k = refl
after_plain part.number (Number n) h k = refl
after_plain part.quoted (Quoted t) h k = refl
after_plain part.value (symbol.Sign sign.Minus) h k = refl
after_plain part.access (symbol.Sign sign.Equals) h k = refl
after_plain part.executed (Key key.PrintScalar) h k = refl
after_plain (part.dim room) (Name x) h k = refl
after_plain (part.dim_end room) (symbol.Sign sign.Comma) h k = refl
after_plain (part.slot room) (symbol.Sign sign.Times) h k = refl
after_plain (part.slot_end room) (symbol.Sign sign.Comma) h k = refl
after_plain (part.along inner room names) (Name x) h k = refl
after_plain (part.along_end inner room names) (symbol.Sign sign.Comma) h k = refl
after_plain part.right (symbol.Sign sign.Minus) h k = refl
after_plain part.operand (symbol.Sign sign.Minus) h k = refl
after_plain part.index_or_end (Name x) h k = refl
after_plain (part.loop inner) (Name x) h k = refl
after_plain part.in_or_end (Key key.In) h k = refl
after_plain (part.named_end x) (Name y) h k = refl
after_plain (part.list_end xs) (Name y) h k = refl
after_plain (part.list_name xs) (Name y) h k = refl
after_plain (part.list_more xs) (symbol.Sign sign.Comma) h k = refl
after_plain _ _ h k = refl

-- a word `proc`
pub proc_part : (p : Part) (what : Symbol) (more : List Part) (past : Past) → plain p ≡ true → begins_proc what ≡ true → after p what ≡ Some more → (more ≡ part.new a_procedure ∷ part.procedures ∷ []) × (past_after p what past ≡ past)
proc_part part.procedures (Key key.Proc) more past h k e = (let same : more ≡ part.new a_procedure ∷ part.procedures ∷ [] = cc in same, refl)
proc_part part.declarations (Key key.Proc) more past h k e = absurd cc
proc_part (part.fixed line_end) (Key key.Proc) more past h k e = absurd cc
proc_part p (Key key.Proc) more past h k e = absurd cc
proc_part p _ more past h k e = absurd cc

-- what plain parts leave as it was
pub record Kept (past after : Past) : Type 0 where
  pub scope : after.scope ≡ past.scope
  pub procs : after.procs ≡ past.procs

kept_so : (b : Bool) (past x y : Past) → Kept past x → Kept past y → Kept past (cond b x y)
kept_so true past x y h k = h
kept_so false past x y h k = k

kept_body : (what : Symbol) (past : Past) → Kept past (past_body what past)
kept_body what past = kept_so (ends_body what) past past (record past { left = less past.left }) (record { scope = refl; procs = refl }) (record { scope = refl; procs = refl })

kept_procedures : (what : Symbol) (past : Past) → Kept past (past_procedures what past)
kept_procedures what past = kept_so (begins_proc what) past past (past_body what past) (record { scope = refl; procs = refl }) (kept_body what past)

pub kept : (p : Part) (what : Symbol) (past : Past) → plain p ≡ true → Kept past (past_after p what past)
kept (part.new named) what past h = absurd cc
kept (part.enters named x) what past h = absurd cc
kept part.declarations what past h = absurd cc
kept (part.body e inner) what past h = kept_body what past
kept (part.wheres inner) what past h = kept_so (is_where what) past past (past_body what past) (record { scope = refl; procs = refl }) (kept_body what past)
kept part.procedures what past h = kept_procedures what past
kept _ what past h = record { scope = refl; procs = refl }
