-- A first fault is the first of all that stand among the words.
use Rattle.std.proofs.Common.{true, ◌≡◌, ℕ, ◌≤◌, List, [], ◌∷◌, ◌++◌, Option, Some, None, refl, sym, ap, ◌∙◌, subst, append_assoc, arith, Ok, Err}
use Rattle.sial_parser.specs.declared.fault.ParseFault.{ParseFault}
use Rattle.sial_parser.specs.declared.fault.ParseFault.TheVariants.{Lex, Expected, Undeclared, Twice, EndName, TooMany, TooDeep, OutOfMemory}
use Rattle.sial_parser.specs.declared.word.Word.{Word}
use Rattle.sial_parser.proofs.ProgramAgain.{program_again}
use Rattle.sial_faults.specs.Faults.{Past, at_start, at_text_end, checked, fault_at, past_after}
use Rattle.sial_faults.specs.Faults.{any_name, known_then, known_behind}
use Rattle.sial_faults.specs.Forms.{Leads, BeginParts, after, AreParts, program}
use Rattle.sial_faults.specs.Parts.{Part}
use Rattle.sial_faults.specs.Places.{EndsWell, IsDueAt, IsFaultAt, ComesFirst, number_of, StandsAt}
use Rattle.sial_faults.proofs.Completing.{parts_back, same_parts, leads_then, leads_back, not_stands, completed}
use Rattle.sial_faults.proofs.Strict.{read_none}
use Rattle.sial_faults.proofs.FaultPlaces.{end_some, of_word}
use Rattle.sial_faults.proofs.Standing.{going, HereAt, Clear, stops_at, clear_leads, clear_known}

-- a word that may stand begins what is due
begun : (p : Part) (ps : List Part) (w : Word) (more : List Part) → after p w.symbol ≡ Some more → BeginParts (p ∷ ps) (w ∷ [])
begun p ps w more e = let c = completed (more ++ ps) in (c.words, AreParts.next e c.are)

-- the fault of what is due
abbrev Due : ParseFault → Past → Part → Word → List Word → Type 0
Due fault past p w rest = (more : List Part) × ((after p w.symbol ≡ Some more) × (fault_at any_name past p w.line w.symbol rest ≡ Some fault))

is_due : (fault : ParseFault) (past : Past) (p : Part) (ps : List Part) (w : Word) (rest : List Word) → of_word fault ≡ true → HereAt fault past (p ∷ ps) w rest → Due fault past p w rest
is_due (Lex fault) past p ps w rest e h = absurd cc
is_due (Expected line) past p ps w rest e h = absurd cc
is_due OutOfMemory past p ps w rest e h = absurd cc
is_due (Undeclared line) past p ps w rest e h = h
is_due (Twice line) past p ps w rest e h = h
is_due (EndName line) past p ps w rest e h = h
is_due (TooMany line which) past p ps w rest e h = h
is_due (TooDeep line) past p ps w rest e h = h

not_due : (fault : ParseFault) (past : Past) (w : Word) (rest : List Word) → of_word fault ≡ true → HereAt fault past [] w rest → ⊥
not_due (Lex fault) past w rest e h = absurd cc
not_due (Expected line) past w rest e h = absurd cc
not_due OutOfMemory past w rest e h = absurd cc
not_due (Undeclared line) past w rest e h = h
not_due (Twice line) past w rest e h = h
not_due (EndName line) past w rest e h = h
not_due (TooMany line which) past w rest e h = h
not_due (TooDeep line) past w rest e h = h

as_fault : (fault : ParseFault) (past : Past) (parts : List Part) (before : List Word) (w : Word) (rest : List Word) → of_word fault ≡ true → IsDueAt past parts fault before w rest → IsFaultAt past parts fault before w rest
as_fault (Lex fault) past parts before w rest e h = absurd cc
as_fault (Expected line) past parts before w rest e h = absurd cc
as_fault OutOfMemory past parts before w rest e h = absurd cc
as_fault (Undeclared line) past parts before w rest e h = h
as_fault (Twice line) past parts before w rest e h = h
as_fault (EndName line) past parts before w rest e h = h
as_fault (TooMany line which) past parts before w rest e h = h
as_fault (TooDeep line) past parts before w rest e h = h

as_due : (fault : ParseFault) (past : Past) (parts : List Part) (before : List Word) (w : Word) (rest : List Word) → of_word fault ≡ true → IsFaultAt past parts fault before w rest → IsDueAt past parts fault before w rest
as_due (Lex fault) past parts before w rest e h = absurd cc
as_due (Expected line) past parts before w rest e h = absurd cc
as_due OutOfMemory past parts before w rest e h = absurd cc
as_due (Undeclared line) past parts before w rest e h = h
as_due (Twice line) past parts before w rest e h = h
as_due (EndName line) past parts before w rest e h = h
as_due (TooMany line which) past parts before w rest e h = h
as_due (TooDeep line) past parts before w rest e h = h

-- the fault as one that stands there
there : (past : Past) (parts : List Part) (fault : ParseFault) (before : List Word) (w : Word) (rest : List Word) (known : Past) (stuck : List Part) → of_word fault ≡ true → Clear past parts before (w ∷ rest) known stuck → HereAt fault known stuck w rest → IsDueAt past parts fault before w rest
there past parts fault before w rest known [] e c h = absurd (not_due fault known w rest e h)
there past parts fault before w rest known (p ∷ ps) e c h =
    let due = is_due fault known p ps w rest e h in
    record {
      part = p;
      others = ps;
      due = clear_leads past known parts (p ∷ ps) before (w ∷ rest) c;
      told = ap (λ k. fault_at any_name k p w.line w.symbol rest) (clear_known past known parts (p ∷ ps) before (w ∷ rest) c) ∙ due.1.1;
    }

expected_there : (past : Past) (parts : List Part) (line : ℕ) (before : List Word) (w : Word) (rest : List Word) (known : Past) (stuck : List Part) → Clear past parts before (w ∷ rest) known stuck → HereAt (Expected line) known stuck w rest → IsFaultAt past parts (Expected line) before w rest
expected_there past parts line before w rest known stuck c h =
    let l = clear_leads past known parts stuck before (w ∷ rest) c in
    let whole = completed stuck in
    (h.0, ((whole.words, leads_then parts stuck before whole.words l whole.are), (λ m. not_stands stuck w m.0 h.1 (leads_back parts stuck before (w ∷ m.0) l (subst (λ u. AreParts parts u) (append_assoc before (w ∷ []) m.0) m.1)))))

-- what stands first stands
stands : (past : Past) (parts : List Part) (fault : ParseFault) (before : List Word) (w : Word) (rest : List Word) (known : Past) (stuck : List Part) → Clear past parts before (w ∷ rest) known stuck → HereAt fault known stuck w rest → IsFaultAt past parts fault before w rest
stands past parts (Lex fault) before w rest known stuck c h = absurd h
stands past parts (Expected line) before w rest known stuck c h = expected_there past parts line before w rest known stuck c h
stands past parts OutOfMemory before w rest known stuck c h = absurd h
stands past parts (Undeclared line) before w rest known stuck c h = there past parts (Undeclared line) before w rest known stuck refl c h
stands past parts (Twice line) before w rest known stuck c h = there past parts (Twice line) before w rest known stuck refl c h
stands past parts (EndName line) before w rest known stuck c h = there past parts (EndName line) before w rest known stuck refl c h
stands past parts (TooMany line which) before w rest known stuck c h = there past parts (TooMany line which) before w rest known stuck refl c h
stands past parts (TooDeep line) before w rest known stuck c h = there past parts (TooDeep line) before w rest known stuck refl c h

-- the parts that no word leads to
lead_none : (parts left : List Part) (ws : List Word) → Leads parts ws left → ws ≡ [] → parts ≡ left
lead_none _ _ _ Leads.here e = refl
lead_none _ _ _ (Leads.next h l) e = absurd cc

lead_one : (p : Part) (ps : List Part) (w : Word) (ws : List Word) (more left : List Part) → after p w.symbol ≡ Some more → Leads (p ∷ ps) (w ∷ ws) left → Leads (more ++ ps) ws left
lead_one _ _ _ _ more left e (Leads.next {p = p} {more = other} {parts = ps} {w = w} {ws = ws} f l) = subst (λ m. Leads (m ++ ps) ws left) (same_parts other more (sym f ∙ e)) l

first_part : (p q : Part) (ps qs : List Part) → ◌≡◌ {A = List Part} (p ∷ ps) (q ∷ qs) → p ≡ q
first_part p q ps qs e = let h : p ≡ q = cc in h

-- at one word faults of what is due are one
due_here : (known : Past) (p : Part) (ps : List Part) (g : ParseFault) (w : Word) (rest : List Word) → IsDueAt known (p ∷ ps) g [] w rest → fault_at any_name known p w.line w.symbol rest ≡ Some g
due_here known p ps g w rest d = ap (λ q. fault_at any_name known q w.line w.symbol rest) (first_part p d.part ps d.others (lead_none (p ∷ ps) (d.part ∷ d.others) [] d.due refl)) ∙ d.told

same_number : (known : Past) (p : Part) (ps : List Part) (f g : ParseFault) (w : Word) (rest : List Word) → fault_at any_name known p w.line w.symbol rest ≡ Some f → IsDueAt known (p ∷ ps) g [] w rest → number_of f ≤ number_of g
same_number known p ps f g w rest e d =
    let both : ◌≡◌ {A = Option ParseFault} (Some f) (Some g) = sym e ∙ due_here known p ps g w rest d in
    let same : number_of f ≡ number_of g = ap number_of (let h : f ≡ g = cc in h) in
    omega (arith, same)

-- of two faults of one word
due_order : (known : Past) (p : Part) (ps : List Part) (f : ParseFault) (w : Word) (rest : List Word) → Due f known p w rest → (g : ParseFault) → IsFaultAt known (p ∷ ps) g [] w rest → number_of f ≤ number_of g
due_order known p ps f w rest h (Lex fault) k = absurd k
due_order known p ps f w rest h OutOfMemory k = absurd k
due_order known p ps f w rest h (Expected line) k = absurd (k.1.1 (begun p ps w h.0 h.1.0))
due_order known p ps f w rest h (Undeclared line) k = same_number known p ps f (Undeclared line) w rest h.1.1 k
due_order known p ps f w rest h (Twice line) k = same_number known p ps f (Twice line) w rest h.1.1 k
due_order known p ps f w rest h (EndName line) k = same_number known p ps f (EndName line) w rest h.1.1 k
due_order known p ps f w rest h (TooMany line which) k = same_number known p ps f (TooMany line which) w rest h.1.1 k
due_order known p ps f w rest h (TooDeep line) k = same_number known p ps f (TooDeep line) w rest h.1.1 k

word_order : (known : Past) (stuck : List Part) (f : ParseFault) (w : Word) (rest : List Word) → of_word f ≡ true → HereAt f known stuck w rest → (g : ParseFault) → IsFaultAt known stuck g [] w rest → number_of f ≤ number_of g
word_order known [] f w rest e h g k = absurd (not_due f known w rest e h)
word_order known (p ∷ ps) f w rest e h g k = due_order known p ps f w rest (is_due f known p ps w rest e h) g k

expected_order : (known : Past) (stuck : List Part) (line : ℕ) (w : Word) (rest : List Word) (g : ParseFault) → IsFaultAt known stuck g [] w rest → 2 ≤ number_of g
expected_order known stuck line w rest (Lex fault) k = absurd k
expected_order known stuck line w rest OutOfMemory k = absurd k
expected_order known stuck line w rest (Expected other) k = omega arith
expected_order known stuck line w rest (Undeclared other) k = omega arith
expected_order known stuck line w rest (Twice other) k = omega arith
expected_order known stuck line w rest (EndName other) k = omega arith
expected_order known stuck line w rest (TooMany other which) k = omega arith
expected_order known stuck line w rest (TooDeep other) k = omega arith

here_order : (known : Past) (stuck : List Part) (f : ParseFault) (w : Word) (rest : List Word) → HereAt f known stuck w rest → (g : ParseFault) → IsFaultAt known stuck g [] w rest → number_of f ≤ number_of g
here_order known stuck (Lex fault) w rest h g k = absurd h
here_order known stuck OutOfMemory w rest h g k = absurd h
here_order known stuck (Expected line) w rest h g k = expected_order known stuck line w rest g k
here_order known stuck (Undeclared line) w rest h g k = word_order known stuck (Undeclared line) w rest refl h g k
here_order known stuck (Twice line) w rest h g k = word_order known stuck (Twice line) w rest refl h g k
here_order known stuck (EndName line) w rest h g k = word_order known stuck (EndName line) w rest refl h g k
here_order known stuck (TooMany line which) w rest h g k = word_order known stuck (TooMany line which) w rest refl h g k
here_order known stuck (TooDeep line) w rest h g k = word_order known stuck (TooDeep line) w rest refl h g k

-- a word without a fault
module _ (past : Past) (p : Part) (ps : List Part) (w : Word) (more : List Part) (e : after p w.symbol ≡ Some more) where
  none_due : (g : ParseFault) (rest : List Word) → fault_at any_name past p w.line w.symbol rest ≡ None → IsDueAt past (p ∷ ps) g [] w rest → ⊥
  none_due g rest f d = absurd (let k : ◌≡◌ {A = Option ParseFault} None (Some g) = sym f ∙ due_here past p ps g w rest d in cc)

  no_fault_here : (g : ParseFault) (rest : List Word) → fault_at any_name past p w.line w.symbol rest ≡ None → IsFaultAt past (p ∷ ps) g [] w rest → ⊥
  no_fault_here (Lex fault) rest f k = k
  no_fault_here OutOfMemory rest f k = k
  no_fault_here (Expected line) rest f k = k.1.1 (begun p ps w more e)
  no_fault_here (Undeclared line) rest f k = none_due (Undeclared line) rest f k
  no_fault_here (Twice line) rest f k = none_due (Twice line) rest f k
  no_fault_here (EndName line) rest f k = none_due (EndName line) rest f k
  no_fault_here (TooMany line which) rest f k = none_due (TooMany line which) rest f k
  no_fault_here (TooDeep line) rest f k = none_due (TooDeep line) rest f k

  -- behind it a fault is one of what is due then
  due_down : (g : ParseFault) (b : List Word) (v : Word) (rest : List Word) → IsDueAt past (p ∷ ps) g (w ∷ b) v rest → IsDueAt (past_after p w.symbol past) (more ++ ps) g b v rest
  due_down g b v rest d = record {
    part = d.part;
    others = d.others;
    due = lead_one p ps w b more (d.part ∷ d.others) e d.due;
    told = ap (λ k. fault_at any_name k d.part v.line v.symbol rest) (sym (ap (λ m. known_then past m (λ more. known_behind (past_after p w.symbol past) (more ++ ps) b)) e)) ∙ d.told;
  }

  down : (g : ParseFault) (b : List Word) (v : Word) (rest : List Word) → IsFaultAt past (p ∷ ps) g (w ∷ b) v rest → IsFaultAt (past_after p w.symbol past) (more ++ ps) g b v rest
  down (Lex fault) b v rest k = k
  down OutOfMemory b v rest k = k
  down (Expected line) b v rest k = (k.0, ((k.1.0.0, parts_back p ps w (b ++ k.1.0.0) more k.1.0.1 e), (λ m. k.1.1 (m.0, AreParts.next e m.1))))
  down (Undeclared line) b v rest k = due_down (Undeclared line) b v rest k
  down (Twice line) b v rest k = due_down (Twice line) b v rest k
  down (EndName line) b v rest k = due_down (EndName line) b v rest k
  down (TooMany line which) b v rest k = due_down (TooMany line which) b v rest k
  down (TooDeep line) b v rest k = due_down (TooDeep line) b v rest k

first_word : (w v : Word) (ws vs : List Word) → ◌≡◌ {A = List Word} (w ∷ ws) (v ∷ vs) → w ≡ v
first_word w v ws vs e = let h : w ≡ v = cc in h

other_words : (w v : Word) (ws vs : List Word) → ◌≡◌ {A = List Word} (w ∷ ws) (v ∷ vs) → ws ≡ vs
other_words w v ws vs e = let h : ws ≡ vs = cc in h

-- no other fault comes before the first
module _ (fault : ParseFault) (word : Word) (tail : List Word) (known : Past) (stuck : List Part) (here : HereAt fault known stuck word tail) where
  abbrev Order : Past → List Part → List Word → Type 0
  Order past parts before = (g : ParseFault) (b : List Word) (v : Word) (rest : List Word) → before ++ word ∷ tail ≡ b ++ v ∷ rest → IsFaultAt past parts g b v rest → ComesFirst fault before g b

  at_place : Order known stuck []
  at_place g [] v rest e k = record {
    place = omega arith;
    number = λ same. here_order known stuck fault word tail here g (subst (λ u. IsFaultAt known stuck g [] u tail) (sym (first_word word v tail rest e)) (subst (λ u. IsFaultAt known stuck g [] v u) (sym (other_words word v tail rest e)) k));
  }
  at_place g (c ∷ cs) v rest e k = record { place = omega arith; number = λ same. absurd (omega (arith, same)) }

  before_place : (past : Past) (p : Part) (ps : List Part) (w : Word) (ws : List Word) (more : List Part) → after p w.symbol ≡ Some more → fault_at any_name past p w.line w.symbol (ws ++ word ∷ tail) ≡ None → Order (past_after p w.symbol past) (more ++ ps) ws → Order past (p ∷ ps) (w ∷ ws)
  before_place past p ps w ws more e f go g [] v rest h k =
      absurd (no_fault_here past p ps w more e g (ws ++ word ∷ tail) f
      (subst (λ u. IsFaultAt past (p ∷ ps) g [] u (ws ++ word ∷ tail)) (sym (first_word w v (ws ++ word ∷ tail) rest h)) (subst (λ u. IsFaultAt past (p ∷ ps) g [] v u) (sym (other_words w v (ws ++ word ∷ tail) rest h)) k)))
  before_place past p ps w ws more e f go g (c ∷ cs) v rest h k =
      let same : w ≡ c = first_word w c (ws ++ word ∷ tail) (cs ++ v ∷ rest) h in
      let next = go g cs v rest (other_words w c (ws ++ word ∷ tail) (cs ++ v ∷ rest) h) (down past p ps w more e g cs v rest (subst (λ u. IsFaultAt past (p ∷ ps) g (u ∷ cs) v rest) (sym same) k)) in
      record { place = omega (arith, next.place); number = λ long. next.number (omega (arith, long)) }

  ordered : (past : Past) (parts : List Part) (before : List Word) (rest : List Word) (end : Past) (left : List Part) → Clear past parts before rest end left → rest ≡ word ∷ tail → end ≡ known → left ≡ stuck → Order past parts before
  ordered _ _ _ _ _ _ (Clear.here {past = past} {parts = parts} {rest = rest}) e f g = subst (λ q. Order q parts []) (sym f) (subst (λ q. Order known q []) (sym g) at_place)
  ordered _ _ _ _ _ _ (Clear.next {past = past} {end = end} {p = p} {ps = ps} {more = more} {left = left} {w = w} {ws = ws} {rest = rest} h k c) e f g =
      before_place past p ps w ws more h (ap (λ u. fault_at any_name past p w.line w.symbol (ws ++ u)) (sym e) ∙ k) (ordered (past_after p w.symbol past) (more ++ ps) ws rest end left c e f g)

-- where words have no fault, none stands among them
pub none_stands : (end : Past) (ws : List Word) (past : Past) (parts : List Part) → checked any_name past parts ws ≡ Ok end → (g : ParseFault) (b : List Word) (v : Word) (rest : List Word) → ws ≡ b ++ v ∷ rest → IsFaultAt past parts g b v rest → ⊥
none_stands end [] past parts e g [] v rest h k = absurd cc
none_stands end [] past parts e g (c ∷ cs) v rest h k = absurd cc
none_stands end (w ∷ ws) past [] e g b v rest h k = absurd cc
none_stands end (w ∷ ws) past (p ∷ ps) e g [] v rest h k =
    let n = going end w.line (at_text_end p ws (after p w.symbol)) (fault_at any_name past p w.line w.symbol ws) (λ more. checked any_name (past_after p w.symbol past) (more ++ ps) ws) e in
    no_fault_here past p ps w n.more (end_some p ws (after p w.symbol) n.more n.is) g ws n.none
    (subst (λ u. IsFaultAt past (p ∷ ps) g [] u ws) (sym (first_word w v ws rest h)) (subst (λ u. IsFaultAt past (p ∷ ps) g [] v u) (sym (other_words w v ws rest h)) k))
none_stands end (w ∷ ws) past (p ∷ ps) e g (c ∷ cs) v rest h k =
    let n = going end w.line (at_text_end p ws (after p w.symbol)) (fault_at any_name past p w.line w.symbol ws) (λ more. checked any_name (past_after p w.symbol past) (more ++ ps) ws) e in
    none_stands end ws (past_after p w.symbol past) (n.more ++ ps) n.goes g cs v rest (other_words w c ws (cs ++ v ∷ rest) h)
    (down past p ps w n.more (end_some p ws (after p w.symbol) n.more n.is) g cs v rest (subst (λ u. IsFaultAt past (p ∷ ps) g (u ∷ cs) v rest) (sym (first_word w c ws (cs ++ v ∷ rest) h)) k))

-- a first fault stands at a word, first of all
pub stands_at : (ws : List Word) (fault : ParseFault) → EndsWell ws → checked any_name at_start program ws ≡ Err fault → StandsAt fault ws
stands_at ws fault ends e =
    let h = stops_at ws fault at_start program ends (refl, refl) e in
    record {
      before = h.before;
      word = h.word;
      ahead = h.ahead;
      behind = h.behind;
      are = h.are;
      line = h.line;
      stands = stands at_start program fault h.before h.word (h.ahead ++ h.behind) h.known h.stuck h.clear h.here;
      first = λ g b v rest is k. ordered fault h.word (h.ahead ++ h.behind) h.known h.stuck h.here at_start program h.before (h.word ∷ (h.ahead ++ h.behind)) h.known h.stuck h.clear refl refl refl g b v rest (sym h.are ∙ is) k;
      few = h.few;
      no_program = λ p behind is.
          let n = read_none ((h.before ++ h.word ∷ h.ahead) ++ behind) p (program_again p ((h.before ++ h.word ∷ h.ahead) ++ behind) is) in
          h.stops behind n.end (subst (λ u. checked any_name at_start program u ≡ Ok n.end) (append_assoc h.before (h.word ∷ h.ahead) behind) n.is);
    }
