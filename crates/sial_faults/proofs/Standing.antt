-- A first fault stands at a word: nothing that follows mends it, and what goes before could still become a program's form.
use Rattle.std.proofs.Common.{true, ◌≡◌, ℕ, ◌≤◌, List, [], ◌∷◌, ◌++◌, length, Option, Some, None, refl, sym, ap, ◌∙◌, subst, arith, Result, Ok, Err}
use Rattle.sial_parser.specs.declared.fault.ParseFault.{ParseFault}
use Rattle.sial_parser.specs.declared.fault.ParseFault.TheVariants.{Lex, Expected, Undeclared, Twice, EndName, TooMany, TooDeep, OutOfMemory}
use Rattle.sial_parser.specs.declared.word.Word.{Word}
use Rattle.sial_faults.specs.Faults.{Past, told, at_text_end, checked, fault_at, past_after}
use Rattle.sial_faults.specs.Faults.{any_name, known_then, known_behind}
use Rattle.sial_faults.specs.Forms.{Leads, after}
use Rattle.sial_faults.specs.Parts.{Part}
use Rattle.sial_faults.specs.Places.{EndsWell, line_in, words_ahead}
use Rattle.sial_faults.proofs.Completing.{MayNotStand}
use Rattle.sial_faults.proofs.TextEnd.{EndDueLast, after_last, end_last}
use Rattle.sial_faults.proofs.FaultPlaces.{end_none, end_some, really_none, of_word, HasLine, fault_line, end_faultless, local_fault, Sticks, sticks}

-- what is due at a fault's word
abbrev pub HereAt : ParseFault → Past → List Part → Word → List Word → Type 0
HereAt (Lex fault) past stuck w rest = ⊥
HereAt (Expected line) past stuck w rest = (w.line ≡ line) × MayNotStand stuck w
HereAt OutOfMemory past stuck w rest = ⊥
HereAt fault past [] w rest = ⊥
HereAt fault past (p ∷ ps) w rest = (more : List Part) × ((after p w.symbol ≡ Some more) × (fault_at any_name past p w.line w.symbol rest ≡ Some fault))

may_stand : (g : ParseFault) (past : Past) (p : Part) (ps : List Part) (w : Word) (rest : List Word) (more : List Part) → of_word g ≡ true → after p w.symbol ≡ Some more → fault_at any_name past p w.line w.symbol rest ≡ Some g → HereAt g past (p ∷ ps) w rest
may_stand (Expected line) past p ps w rest more e h k = absurd cc
may_stand (Lex fault) past p ps w rest more e h k = absurd cc
may_stand (Undeclared line) past p ps w rest more e h k = (more, (h, k))
may_stand (Twice line) past p ps w rest more e h k = (more, (h, k))
may_stand (EndName line) past p ps w rest more e h k = (more, (h, k))
may_stand (TooMany line which) past p ps w rest more e h k = (more, (h, k))
may_stand (TooDeep line) past p ps w rest more e h k = (more, (h, k))
may_stand OutOfMemory past p ps w rest more e h k = absurd cc

-- words that have no fault, and what is known and due behind them
pub data Clear : Past → List Part → (before rest : List Word) → Past → List Part → Type 0 where
  here : {past : Past} {parts : List Part} {rest : List Word} → Clear past parts [] rest past parts
  next : {past end : Past} {p : Part} {ps more left : List Part} {w : Word} {ws rest : List Word} → after p w.symbol ≡ Some more → fault_at any_name past p w.line w.symbol (ws ++ rest) ≡ None
      → Clear (past_after p w.symbol past) (more ++ ps) ws rest end left → Clear past (p ∷ ps) (w ∷ ws) rest end left

-- a word at which words that stand for parts have a fault, whatever stands behind it
pub record Stops (past : Past) (parts : List Part) (ws : List Word) (fault : ParseFault) : Type 0 where
  pub before : List Word
  pub word : Word
  pub ahead : List Word
  pub behind : List Word
  pub known : Past
  pub stuck : List Part
  pub are : ws ≡ before ++ word ∷ (ahead ++ behind)
  pub line : word.line ≡ line_in fault
  pub clear : Clear past parts before (word ∷ (ahead ++ behind)) known stuck
  pub here : HereAt fault known stuck word (ahead ++ behind)
  pub few : length ahead ≤ words_ahead fault
  pub stops : (z : List Word) (end : Past) → checked any_name past parts (before ++ word ∷ (ahead ++ z)) ≡ Ok end → ⊥

-- what is told where there is no fault
pub record Going (end : Past) (line : ℕ) (a : Option (List Part)) (f : Option ParseFault) (go : List Part → Result Past ParseFault) : Type 0 where
  pub more : List Part
  pub is : a ≡ Some more
  pub none : f ≡ None
  pub goes : go more ≡ Ok end

pub going : (end : Past) (line : ℕ) (a : Option (List Part)) (f : Option ParseFault) (go : List Part → Result Past ParseFault) → told line a f go ≡ Ok end → Going end line a f go
going end line None f go e = absurd cc
going end line (Some more) (Some g) go e = absurd cc
going end line (Some more) None go e = record { more = more; is = refl; none = refl; goes = e }

some_parts : (a b : List Part) → ◌≡◌ {A = Option (List Part)} (Some a) (Some b) → a ≡ b
some_parts a b e = let h : a ≡ b = cc in h

module _ (past : Past) (p : Part) (ps : List Part) (w : Word) where
  abbrev behind_it : List Word → List Part → Result Past ParseFault
  behind_it ws more = checked any_name (past_after p w.symbol past) (more ++ ps) ws

  -- the word may not stand there
  unexpected_stops : (ws : List Word) (fault : ParseFault) → EndsWell (w ∷ ws) → at_text_end p ws (after p w.symbol) ≡ None → Expected w.line ≡ fault → Stops past (p ∷ ps) (w ∷ ws) fault
  unexpected_stops ws fault ends e f = subst (Stops past (p ∷ ps) (w ∷ ws)) f (record {
    before = [];
    word = w;
    ahead = [];
    behind = ws;
    known = past;
    stuck = p ∷ ps;
    are = refl;
    line = refl;
    clear = Clear.here;
    here = (refl, really_none p w ws ends e);
    few = omega arith;
    stops = λ z end h.
        let g = going end w.line (at_text_end p z (after p w.symbol)) (fault_at any_name past p w.line w.symbol z) (behind_it z) h in
        let none : at_text_end p z (after p w.symbol) ≡ None = ap (at_text_end p z) (really_none p w ws ends e) ∙ end_none p z in
        absurd (let k : ◌≡◌ {A = Option (List Part)} None (Some g.more) = sym none ∙ g.is in cc);
  })

  -- the word has a fault
  fault_here : (g : ParseFault) (v : Word) (vs : List Word) (more : List Part) → at_text_end p (v ∷ vs) (after p w.symbol) ≡ Some more → fault_at any_name past p w.line w.symbol (v ∷ vs) ≡ Some g
      → (ahead behind : List Word) → v ∷ vs ≡ ahead ++ behind → length ahead ≤ words_ahead g → ((z : List Word) → fault_at any_name past p w.line w.symbol (ahead ++ z) ≡ None → ⊥) → Stops past (p ∷ ps) (w ∷ v ∷ vs) g
  fault_here g v vs more e f ahead behind are few h =
      let lined : HasLine w.line (Some g) = subst (HasLine w.line) f (fault_line any_name past w.line (v ∷ vs) w.symbol p) in
      record {
        before = [];
        word = w;
        ahead = ahead;
        behind = behind;
        known = past;
        stuck = p ∷ ps;
        are = ap (λ u. w ∷ u) are;
        line = sym lined.0;
        clear = Clear.here;
        here = may_stand g past p ps w (ahead ++ behind) more lined.1 (end_some p (v ∷ vs) (after p w.symbol) more e) (ap (λ u. fault_at any_name past p w.line w.symbol u) (sym are) ∙ f);
        few = few;
        stops = λ z end k. let n = going end w.line (at_text_end p (ahead ++ z) (after p w.symbol)) (fault_at any_name past p w.line w.symbol (ahead ++ z)) (behind_it (ahead ++ z)) k in h z n.none;
      }

  fault_by : (g : ParseFault) (v : Word) (vs : List Word) (more : List Part) → at_text_end p (v ∷ vs) (after p w.symbol) ≡ Some more → fault_at any_name past p w.line w.symbol (v ∷ vs) ≡ Some g
      → Sticks any_name past w.line g (λ z. fault_at any_name past p w.line w.symbol z) → Stops past (p ∷ ps) (w ∷ v ∷ vs) g
  fault_by (Undeclared line) v vs more e f h =
      fault_here (Undeclared line) v vs more e f (v ∷ []) vs refl (omega arith)
      (λ z k. absurd (let n : ◌≡◌ {A = Option ParseFault} None (Some (Undeclared line)) = sym k ∙ local_fault any_name past w.line w.symbol p v z vs ∙ f in cc))
  fault_by (Lex fault) v vs more e f h = fault_here (Lex fault) v vs more e f [] (v ∷ vs) refl (omega arith) h
  fault_by (Expected line) v vs more e f h = fault_here (Expected line) v vs more e f [] (v ∷ vs) refl (omega arith) h
  fault_by (Twice line) v vs more e f h = fault_here (Twice line) v vs more e f [] (v ∷ vs) refl (omega arith) h
  fault_by (EndName line) v vs more e f h = fault_here (EndName line) v vs more e f [] (v ∷ vs) refl (omega arith) h
  fault_by (TooMany line which) v vs more e f h = fault_here (TooMany line which) v vs more e f [] (v ∷ vs) refl (omega arith) h
  fault_by (TooDeep line) v vs more e f h = fault_here (TooDeep line) v vs more e f [] (v ∷ vs) refl (omega arith) h
  fault_by OutOfMemory v vs more e f h = fault_here OutOfMemory v vs more e f [] (v ∷ vs) refl (omega arith) h

  fault_stops : (g : ParseFault) (ws : List Word) (more : List Part) → EndsWell (w ∷ ws) → at_text_end p ws (after p w.symbol) ≡ Some more → fault_at any_name past p w.line w.symbol ws ≡ Some g → Stops past (p ∷ ps) (w ∷ ws) g
  fault_stops g [] more ends e f =
      absurd (let n : ◌≡◌ {A = Option ParseFault} None (Some g) = sym (end_faultless any_name past w.line [] w.symbol p more ends (end_some p [] (after p w.symbol) more e)) ∙ f in cc)
  fault_stops g (v ∷ vs) more ends e f = fault_by g v vs more e f (sticks any_name past w.line w.symbol p (v ∷ vs) g f)

  -- a fault stands further on
  further : (v : Word) (vs : List Word) (fault : ParseFault) (more : List Part) → after p w.symbol ≡ Some more → fault_at any_name past p w.line w.symbol (v ∷ vs) ≡ None → Stops (past_after p w.symbol past) (more ++ ps) (v ∷ vs) fault → Stops past (p ∷ ps) (w ∷ v ∷ vs) fault
  further v vs fault more e faultless h = record {
    before = w ∷ h.before;
    word = h.word;
    ahead = h.ahead;
    behind = h.behind;
    known = h.known;
    stuck = h.stuck;
    are = ap (λ u. w ∷ u) h.are;
    line = h.line;
    clear = Clear.next e (ap (λ u. fault_at any_name past p w.line w.symbol u) (sym h.are) ∙ faultless) h.clear;
    here = h.here;
    few = h.few;
    stops = λ z end k.
        let n = going end w.line (at_text_end p (h.before ++ h.word ∷ (h.ahead ++ z)) (after p w.symbol)) (fault_at any_name past p w.line w.symbol (h.before ++ h.word ∷ (h.ahead ++ z))) (behind_it (h.before ++ h.word ∷ (h.ahead ++ z))) k in
        let same : more ≡ n.more = some_parts more n.more (sym e ∙ end_some p (h.before ++ h.word ∷ (h.ahead ++ z)) (after p w.symbol) n.more n.is) in
        h.stops z end (ap (behind_it (h.before ++ h.word ∷ (h.ahead ++ z))) same ∙ n.goes);
  }

by_told : (past : Past) (p : Part) (ps : List Part) (w : Word) (ws : List Word) (fault : ParseFault) (a : Option (List Part)) (f : Option ParseFault) → EndsWell (w ∷ ws) → EndDueLast (p ∷ ps) → at_text_end p ws (after p w.symbol) ≡ a → fault_at any_name past p w.line w.symbol ws ≡ f
    → told w.line a f (behind_it past p ps w ws) ≡ Err fault → ((past : Past) (parts : List Part) → EndsWell ws → EndDueLast parts → checked any_name past parts ws ≡ Err fault → Stops past parts ws fault) → Stops past (p ∷ ps) (w ∷ ws) fault
by_told past p ps w ws fault None f ends due e k h go = unexpected_stops past p ps w ws fault ends e (let n : Expected w.line ≡ fault = cc in n)
by_told past p ps w ws fault (Some more) (Some g) ends due e k h go = subst (Stops past (p ∷ ps) (w ∷ ws)) (let n : g ≡ fault = cc in n) (fault_stops past p ps w g ws more ends e k)
by_told past p ps w [] fault (Some more) None ends due e k h go =
    let over : more ++ ps ≡ [] = end_last p ps w.symbol more ends (end_some p [] (after p w.symbol) more e) due in
    absurd (let n : ◌≡◌ {A = Result Past ParseFault} (Ok (past_after p w.symbol past)) (Err fault) = sym (ap (λ q. checked any_name (past_after p w.symbol past) q []) over) ∙ h in cc)
by_told past p ps w (v ∷ vs) fault (Some more) None ends due e k h go =
    let is : after p w.symbol ≡ Some more = end_some p (v ∷ vs) (after p w.symbol) more e in
    further past p ps w v vs fault more is k (go (past_after p w.symbol past) (more ++ ps) ends.1 (after_last p ps w.symbol more is ends.0 due) h)

pub stops_at : (ws : List Word) (fault : ParseFault) (past : Past) (parts : List Part) → EndsWell ws → EndDueLast parts → checked any_name past parts ws ≡ Err fault → Stops past parts ws fault
stops_at [] fault past parts ends due e = absurd ends
stops_at (w ∷ ws) fault past [] ends due e = absurd due
stops_at (w ∷ ws) fault past (p ∷ ps) ends due e = by_told past p ps w ws fault (at_text_end p ws (after p w.symbol)) (fault_at any_name past p w.line w.symbol ws) ends due refl refl e (λ past parts. stops_at ws fault past parts)

-- what is clear leads on, with what is known then
pub clear_leads : (past end : Past) (parts left : List Part) (before rest : List Word) → Clear past parts before rest end left → Leads parts before left
clear_leads _ _ _ _ _ rest (Clear.here) = Leads.here
clear_leads _ _ _ _ _ rest (Clear.next {past = past} {end = end} {p = p} {ps = ps} {more = more} {left = left} {w = w} {ws = ws} e f c) = Leads.next e (clear_leads (past_after p w.symbol past) end (more ++ ps) left ws rest c)

pub known_here : (past : Past) (parts : List Part) → known_behind past parts [] ≡ past
known_here past [] = refl
known_here past (p ∷ ps) = refl

pub clear_known : (past end : Past) (parts left : List Part) (before rest : List Word) → Clear past parts before rest end left → known_behind past parts before ≡ end
clear_known _ _ _ _ _ rest (Clear.here {past = past} {parts = parts}) = known_here past parts
clear_known _ _ _ _ _ rest (Clear.next {past = past} {end = end} {p = p} {ps = ps} {more = more} {left = left} {w = w} {ws = ws} e f c) =
    ap (λ m. known_then past m (λ more. known_behind (past_after p w.symbol past) (more ++ ps) ws)) e ∙ clear_known (past_after p w.symbol past) end (more ++ ps) left ws rest c
