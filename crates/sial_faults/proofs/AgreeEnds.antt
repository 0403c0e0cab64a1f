-- What stands behind an end word, the indices of a pardo, and its conditions.
use Rattle.std.proofs.Common.{◌≡◌, ℕ, zero, suc, List, [], ◌∷◌, ◌++◌, Bool, true, false, cond, Option, Some, None, Result, Ok, Err, refl, sym, ap, ◌∙◌, subst}
use Rattle.std.specs.Str.{bytes_eq}
use Rattle.sial_parser.specs.Grammar.{at}
use Rattle.sial_parser.specs.Parsing.{◌>>=◌, Read, skip, index, index_by, is_index, goes_on, is_line_end, index_and, indices, named_end, named_end_by, listed, listed_more, listed_end}
use Rattle.sial_parser.specs.Scope.{Scope, thing_of}
use Rattle.sial_parser.specs.declared.fault.Counted.TheVariants as counts
use Rattle.sial_parser.specs.declared.fault.ParseFault.{ParseFault}
use Rattle.sial_parser.specs.declared.fault.ParseFault.TheVariants.{Undeclared, EndName, TooMany}
use Rattle.sial_parser.specs.declared.sign.Sign.TheVariants as sign
use Rattle.sial_parser.specs.declared.thing.Thing.{Thing}
use Rattle.sial_parser.specs.declared.thing.Thing.TheVariants.{Index, Array, Scalar, Proc}
use Rattle.sial_parser.specs.declared.word.Symbol.{Symbol}
use Rattle.sial_parser.specs.declared.word.Symbol.TheVariants.{Key, Name, Number, Quoted, LineEnd, End}
use Rattle.sial_parser.specs.declared.word.Symbol.TheVariants as symbol
use Rattle.sial_parser.specs.declared.word.Word.{Word}
use Rattle.sial_faults.specs.Faults.{Past, fits, unless, same_index, told, checked}
use Rattle.sial_faults.specs.Parts.{Part, an_index, line_end, of_pardo}
use Rattle.sial_faults.specs.Parts as part
use Rattle.sial_faults.proofs.Agreeing.{Agrees, AreAlike, LookAt, plain_thing, looks_index, look_alike, skip_agrees}

-- names and the numbers of the indices that they are declared as
abbrev pub Matches : Scope → List (List ℕ) → List ℕ → Type 0
Matches s [] [] = Unit {0}
Matches s (x ∷ xs) (i ∷ is) = (thing_of s x ≡ Some (Index i)) × Matches s xs is
Matches s [] (i ∷ is) = ⊥
Matches s (x ∷ xs) [] = ⊥

matches_more : (s : Scope) (names : List (List ℕ)) (front : List ℕ) (x : List ℕ) (i : ℕ) → Matches s names front → thing_of s x ≡ Some (Index i) → Matches s (names ++ x ∷ []) (front ++ i ∷ [])
matches_more s [] [] x i m e = (e, tt)
matches_more s (y ∷ ys) (j ∷ js) x i m e = (m.0, matches_more s ys js x i m.1 e)
matches_more s [] (j ∷ js) x i m e = absurd m
matches_more s (y ∷ ys) [] x i m e = absurd m

-- an index that was found
pub found_index : (l i : ℕ) (thing : Option Thing) → index_by l thing ≡ Ok i → thing ≡ Some (Index i)
found_index l i (Some (Index j)) e = ap (λ k. Some (Index k)) (let h : j ≡ i = cc in h)
found_index l i (Some (Array j)) e = absurd cc
found_index l i (Some (Scalar j)) e = absurd cc
found_index l i (Some (Proc j)) e = absurd cc
found_index l i None e = absurd cc

plain_index : (i : ℕ) (thing : Option Thing) → plain_thing thing ≡ Some (Index i) → thing ≡ Some (Index i)
plain_index i (Some (Index j)) e = e
plain_index i (Some (Array j)) e = absurd cc
plain_index i (Some (Scalar j)) e = absurd cc
plain_index i (Some (Proc j)) e = absurd cc
plain_index i None e = absurd cc

index_plain : (i : ℕ) (thing : Option Thing) → is_index i thing ≡ is_index i (plain_thing thing)
index_plain i None = refl
index_plain i (Some (Index j)) = refl
index_plain i (Some (Array j)) = refl
index_plain i (Some (Scalar j)) = refl
index_plain i (Some (Proc j)) = refl

-- whether a name is the opener's, by its number
listed_is : (s t : Scope) → AreAlike s t → (i : ℕ) (x y : List ℕ) → thing_of s x ≡ Some (Index i) → same_index (thing_of t x) (thing_of t y) ≡ is_index i (thing_of s y)
listed_is s t alike i x y e =
    let there : thing_of t x ≡ Some (Index i) = plain_index i (thing_of t x) (sym (alike x) ∙ ap plain_thing e) in
    ap (λ h. same_index h (thing_of t y)) there ∙ index_plain i (thing_of t y) ∙ ap (is_index i) (sym (alike y)) ∙ sym (index_plain i (thing_of s y))

module _ (callable : (name : List ℕ) → Bool) (s : Scope) (past : Past) (alike : AreAlike s past.scope) {B : Type 0} (later : B → Past) (last : B → List Part) where
  -- [name] NL
  named_by : (b : Bool) (l : ℕ) (parts : List Part) (ws : List Word) (go : List Word → Read B) → ((rest : List Word) → Agrees callable (checked callable past parts rest) later last (go rest))
      → Agrees callable (told l (Some (part.fixed line_end ∷ [])) (unless b (EndName l) None) (λ more. checked callable past (more ++ parts) ws)) later last (cond b (skip is_line_end ws) (Err (EndName l)) >>= go)
  named_by true l parts ws go h = skip_agrees callable later last line_end past parts ws go h
  named_by false l parts ws go h = refl

  named_at : (x : List ℕ) (parts : List Part) (l : ℕ) (what : Symbol) (ws : List Word) (go : List Word → Read B) → ((rest : List Word) → Agrees callable (checked callable past parts rest) later last (go rest))
      → Agrees callable (checked callable past (part.named_end x ∷ parts) (at l what ∷ ws)) later last (named_end_by x what (at l what) ws >>= go)
  named_at x parts l LineEnd ws go h = h ws
  named_at x parts l (Name y) ws go h = named_by (bytes_eq y x) l parts ws go h
  named_at x parts l _ ws go h = refl

  pub named_end_agrees : (x : List ℕ) (parts : List Part) (ws : List Word) (go : List Word → Read B) → ((rest : List Word) → Agrees callable (checked callable past parts rest) later last (go rest))
      → Agrees callable (checked callable past (part.named_end x ∷ parts) ws) later last (named_end x ws >>= go)
  unfolding named_end
  named_end_agrees x parts [] go h = refl
  named_end_agrees x parts (w ∷ ws) go h = named_at x parts w.line w.symbol ws go h

  -- [names] NL
  module _ (parts : List Part) (go : List Word → Read B) (h : (rest : List Word) → Agrees callable (checked callable past parts rest) later last (go rest)) where
    abbrev Follows : List (List ℕ) → List ℕ → Type 0
    Follows xs is = (ws : List Word) → Agrees callable (checked callable past (part.list_name xs ∷ parts) ws) later last (listed s is ws >>= go)

    line_at : (xs : List (List ℕ)) (is : List ℕ) (l : ℕ) (ws : List Word) → Matches s xs is
        → Agrees callable (checked callable past (part.list_more xs ∷ parts) (at l LineEnd ∷ ws)) later last (listed_more is false ws (listed s is) (at l LineEnd ∷ ws) >>= go)
    line_at [] [] l ws m = h ws
    line_at (x ∷ xs) (i ∷ is) l ws m = refl
    line_at [] (i ∷ is) l ws m = absurd m
    line_at (x ∷ xs) [] l ws m = absurd m

    more_at : (xs : List (List ℕ)) (is : List ℕ) (l : ℕ) (what : Symbol) (ws : List Word) → Matches s xs is → Follows xs is
        → Agrees callable (checked callable past (part.list_more xs ∷ parts) (at l what ∷ ws)) later last ((goes_on is_line_end (at l what ∷ ws) >>= λ y. listed_more is y.0 y.1 (listed s is) (at l what ∷ ws)) >>= go)
    unfolding goes_on
    more_at xs is l (symbol.Sign sign.Comma) ws m k = k ws
    more_at xs is l LineEnd ws m k = line_at xs is l ws m
    more_at xs is l _ ws m k = refl

    more_agrees : (xs : List (List ℕ)) (is : List ℕ) (ws : List Word) → Matches s xs is → Follows xs is
        → Agrees callable (checked callable past (part.list_more xs ∷ parts) ws) later last ((goes_on is_line_end ws >>= λ y. listed_more is y.0 y.1 (listed s is) ws) >>= go)
    unfolding goes_on
    more_agrees xs is [] m k = refl
    more_agrees xs is (w ∷ ws) m k = more_at xs is w.line w.symbol ws m k

    name_by_test : (b : Bool) (xs : List (List ℕ)) (is : List ℕ) (l : ℕ) (ws : List Word) → Matches s xs is → Follows xs is
        → Agrees callable (told l (Some (part.list_more xs ∷ [])) (unless b (EndName l) None) (λ more. checked callable past (more ++ parts) ws)) later last (cond b (goes_on is_line_end ws >>= λ y. listed_more is y.0 y.1 (listed s is) ws) (Err (EndName l)) >>= go)
    name_by_test true xs is l ws m k = more_agrees xs is ws m k
    name_by_test false xs is l ws m k = refl

    name_listed : (x : List ℕ) (xs : List (List ℕ)) (i : ℕ) (is : List ℕ) (l : ℕ) (what : Symbol) (ws : List Word) → Matches s (x ∷ xs) (i ∷ is) → Follows xs is
        → Agrees callable (checked callable past (part.list_name (x ∷ xs) ∷ parts) (at l what ∷ ws)) later last (listed s (i ∷ is) (at l what ∷ ws) >>= go)
    unfolding listed
    name_listed x xs i is l (Name y) ws m k =
        subst (λ b. Agrees callable (told l (Some (part.list_more xs ∷ [])) (unless b (EndName l) None) (λ more. checked callable past (more ++ parts) ws)) later last (cond (is_index i (thing_of s y)) (goes_on is_line_end ws >>= λ y. listed_more is y.0 y.1 (listed s is) ws) (Err (EndName l)) >>= go))
        (sym (listed_is s past.scope alike i x y m.0)) (name_by_test (is_index i (thing_of s y)) xs is l ws m.1 k)
    name_listed x xs i is l _ ws m k = refl

    none_listed : (l : ℕ) (what : Symbol) (ws : List Word) → Agrees callable (checked callable past (part.list_name [] ∷ parts) (at l what ∷ ws)) later last (listed s [] (at l what ∷ ws) >>= go)
    unfolding listed
    none_listed l (Name y) ws = refl
    none_listed l _ ws = refl

    listed_agrees : (xs : List (List ℕ)) (is : List ℕ) → Matches s xs is → Follows xs is
    unfolding listed
    listed_agrees [] [] m [] = refl
    listed_agrees [] [] m (w ∷ ws) = none_listed w.line w.symbol ws
    listed_agrees (x ∷ xs) (i ∷ is) m [] = refl
    listed_agrees (x ∷ xs) (i ∷ is) m (w ∷ ws) = name_listed x xs i is w.line w.symbol ws m (listed_agrees xs is m.1)
    listed_agrees [] (i ∷ is) m ws = absurd m
    listed_agrees (x ∷ xs) [] m ws = absurd m

    list_end_at : (xs : List (List ℕ)) (is : List ℕ) → Matches s xs is → (l : ℕ) (what : Symbol) (ws : List Word)
        → Agrees callable (checked callable past (part.list_end xs ∷ parts) (at l what ∷ ws)) later last (cond (is_line_end what) (Ok ws) (listed s is (at l what ∷ ws)) >>= go)
    list_end_at xs is m l LineEnd ws = h ws
    list_end_at xs is m l (Name y) ws = listed_agrees xs is m (at l (Name y) ∷ ws)
    list_end_at xs is m l (Key y) ws = listed_agrees xs is m (at l (Key y) ∷ ws)
    list_end_at xs is m l (symbol.Sign sign.Comma) ws = listed_agrees xs is m (at l (symbol.Sign sign.Comma) ∷ ws)
    list_end_at xs is m l (symbol.Sign y) ws = listed_agrees xs is m (at l (symbol.Sign y) ∷ ws)
    list_end_at xs is m l (Number y) ws = listed_agrees xs is m (at l (Number y) ∷ ws)
    list_end_at xs is m l (Quoted y) ws = listed_agrees xs is m (at l (Quoted y) ∷ ws)
    list_end_at xs is m l End ws = listed_agrees xs is m (at l End ∷ ws)

    pub listed_end_agrees : (xs : List (List ℕ)) (is : List ℕ) → Matches s xs is → (ws : List Word) → Agrees callable (checked callable past (part.list_end xs ∷ parts) ws) later last (listed_end s is ws >>= go)
    unfolding listed_end
    listed_end_agrees xs is m [] = refl
    listed_end_agrees xs is m (w ∷ ws) = list_end_at xs is m w.line w.symbol ws

module _ (callable : (name : List ℕ) → Bool) (s : Scope) (past : Past) (alike : AreAlike s past.scope) (inner : ℕ) (parts : List Part) where
  -- the indices of a pardo, with their names
  abbrev pub AlongAt : (first : Result Past ParseFault) → Read (List ℕ) → Type 0
  AlongAt first (Ok y) = (names : List (List ℕ)) × (Matches s names y.0 × (first ≡ checked callable past (part.wheres inner ∷ part.list_end names ∷ parts) y.1))
  AlongAt first (Err fault) = first ≡ Err fault

  along_end_at : (room : ℕ) (names : List (List ℕ)) (front : List ℕ) → Matches s names front → ((ws : List Word) → AlongAt (checked callable past (part.along inner room names ∷ parts) ws) (indices s is_line_end room front ws)) → (l : ℕ) (what : Symbol) (ws : List Word)
      → AlongAt (checked callable past (part.along_end inner room names ∷ parts) (at l what ∷ ws)) (goes_on is_line_end (at l what ∷ ws) >>= λ y. cond y.0 (indices s is_line_end room front y.1) (Ok (front, y.1)))
  unfolding goes_on
  along_end_at room names front m k l (symbol.Sign sign.Comma) ws = k ws
  along_end_at room names front m k l LineEnd ws = (names, (m, refl))
  along_end_at room names front m k l _ ws = refl

  along_end_agrees : (room : ℕ) (names : List (List ℕ)) (front : List ℕ) → Matches s names front → ((ws : List Word) → AlongAt (checked callable past (part.along inner room names ∷ parts) ws) (indices s is_line_end room front ws)) → (ws : List Word)
      → AlongAt (checked callable past (part.along_end inner room names ∷ parts) ws) (goes_on is_line_end ws >>= λ y. cond y.0 (indices s is_line_end room front y.1) (Ok (front, y.1)))
  unfolding goes_on
  along_end_agrees room names front m k [] = refl
  along_end_agrees room names front m k (w ∷ ws) = along_end_at room names front m k w.line w.symbol ws

  -- a turn, put otherwise
  turn_form : (room : ℕ) (front : List ℕ) (r : Result ℕ ParseFault) (ws : List Word)
      → ◌>>=◌ {A = (ℕ × Bool) × List Word} (◌>>=◌ {A = ℕ × List Word} (r >>= λ i. Ok (i, ws)) (λ x. goes_on is_line_end x.1 >>= λ y. Ok ((x.0, y.0), y.1))) (λ x. cond x.0.1 (indices s is_line_end room (front ++ x.0.0 ∷ []) x.1) (Ok (front ++ x.0.0 ∷ [], x.1)))
      ≡ (r >>= λ i. goes_on is_line_end ws >>= λ y. cond y.0 (indices s is_line_end room (front ++ i ∷ []) y.1) (Ok (front ++ i ∷ [], y.1)))
  turn_form room front (Err fault) ws = refl
  turn_form room front (Ok i) ws = by_going (goes_on is_line_end ws)
    where
      by_going : (g : Read Bool) → ((g >>= λ y. Ok ((i, y.0), y.1)) >>= λ (x : (ℕ × Bool) × List Word). cond x.0.1 (indices s is_line_end room (front ++ x.0.0 ∷ []) x.1) (Ok (front ++ x.0.0 ∷ [], x.1))) ≡ (g >>= λ y. cond y.0 (indices s is_line_end room (front ++ i ∷ []) y.1) (Ok (front ++ i ∷ [], y.1)))
      by_going (Ok y) = refl
      by_going (Err fault) = refl

  along_name : (fit : Bool) (l : ℕ) (x : List ℕ) (r : Result ℕ ParseFault) → index_by l (thing_of s x) ≡ r → LookAt fit l r → (room : ℕ) (names : List (List ℕ)) (front : List ℕ) → Matches s names front
      → ((i : ℕ) → Matches s (names ++ x ∷ []) (front ++ i ∷ []) → (ws : List Word) → AlongAt (checked callable past (part.along inner room (names ++ x ∷ []) ∷ parts) ws) (indices s is_line_end room (front ++ i ∷ []) ws)) → (ws : List Word)
      → AlongAt (told l (Some (part.along_end inner room (names ++ x ∷ []) ∷ [])) (unless fit (Undeclared l) None) (λ more. checked callable past (more ++ parts) ws)) (r >>= λ i. goes_on is_line_end ws >>= λ y. cond y.0 (indices s is_line_end room (front ++ i ∷ []) y.1) (Ok (front ++ i ∷ [], y.1)))
  along_name true l x (Ok i) e look room names front m k ws =
      let more = matches_more s names front x i m (found_index l i (thing_of s x) e) in
      along_end_agrees room (names ++ x ∷ []) (front ++ i ∷ []) more (k i more) ws
  along_name false l x (Err fault) e look room names front m k ws = ap Err (sym look)
  along_name true l x (Err fault) e look room names front m k ws = absurd look
  along_name false l x (Ok i) e look room names front m k ws = absurd look

  no_more_names : (fit : Bool) (l : ℕ) (r : Result ℕ ParseFault) (names : List (List ℕ)) → LookAt fit l r → (ws : List Word)
      → AlongAt (told l (Some (part.along_end inner zero names ∷ [])) (unless fit (Undeclared l) (Some (TooMany l counts.Names))) (λ more. checked callable past (more ++ parts) ws)) (◌>>=◌ {A = ℕ × List Word} (r >>= λ i. Ok (i, ws)) (λ x. Err (TooMany l counts.Names)))
  no_more_names true l (Ok i) names look ws = refl
  no_more_names false l (Err fault) names look ws = ap Err (sym look)
  no_more_names true l (Err fault) names look ws = absurd look
  no_more_names false l (Ok i) names look ws = absurd look

  none_at : (names : List (List ℕ)) (front : List ℕ) (l : ℕ) (what : Symbol) (ws : List Word) → AlongAt (checked callable past (part.along inner zero names ∷ parts) (at l what ∷ ws)) (indices s is_line_end zero front (at l what ∷ ws))
  unfolding indices index
  none_at names front l (Name x) ws = no_more_names (fits an_index (thing_of past.scope x)) l (index_by l (thing_of s x)) (names ++ x ∷ []) (look_alike index_by an_index looks_index s past.scope alike l x) ws
  none_at names front l _ ws = refl

  one_at : (room : ℕ) (names : List (List ℕ)) (front : List ℕ) → Matches s names front
      → ((x : List ℕ) (i : ℕ) → Matches s (names ++ x ∷ []) (front ++ i ∷ []) → (ws : List Word) → AlongAt (checked callable past (part.along inner room (names ++ x ∷ []) ∷ parts) ws) (indices s is_line_end room (front ++ i ∷ []) ws))
      → (l : ℕ) (what : Symbol) (ws : List Word) → AlongAt (checked callable past (part.along inner (suc room) names ∷ parts) (at l what ∷ ws)) (indices s is_line_end (suc room) front (at l what ∷ ws))
  unfolding indices index_and index
  one_at room names front m k l (Name x) ws =
      subst (AlongAt (told l (Some (part.along_end inner room (names ++ x ∷ []) ∷ [])) (unless (fits an_index (thing_of past.scope x)) (Undeclared l) None) (λ more. checked callable past (more ++ parts) ws))) (sym (turn_form room front (index_by l (thing_of s x)) ws))
      (along_name (fits an_index (thing_of past.scope x)) l x (index_by l (thing_of s x)) refl (look_alike index_by an_index looks_index s past.scope alike l x) room names front m (k x) ws)
  one_at room names front m k l _ ws = refl

  pub along_agrees : (room : ℕ) (names : List (List ℕ)) (front : List ℕ) → Matches s names front → (ws : List Word) → AlongAt (checked callable past (part.along inner room names ∷ parts) ws) (indices s is_line_end room front ws)
  unfolding indices index_and index
  along_agrees zero names front m [] = refl
  along_agrees zero names front m (w ∷ ws) = none_at names front w.line w.symbol ws
  along_agrees (suc room) names front m [] = refl
  along_agrees (suc room) names front m (w ∷ ws) = one_at room names front m (λ x i more. along_agrees room (names ++ x ∷ []) (front ++ i ∷ []) more) w.line w.symbol ws

  pub along_then : {B : Type 0} (later : B → Past) (last : B → List Part) (first : Result Past ParseFault) (r : Read (List ℕ)) (go : List ℕ → List Word → Read B) → AlongAt first r
      → ((is : List ℕ) (names : List (List ℕ)) (ws : List Word) → Matches s names is → Agrees callable (checked callable past (part.wheres inner ∷ part.list_end names ∷ parts) ws) later last (go is ws)) → Agrees callable first later last (r >>= λ y. go y.0 y.1)
  along_then later last first (Ok y) go h k = subst (λ t. Agrees callable t later last (go y.0 y.1)) (sym h.1.1) (k y.0 h.0 y.1 h.1.0)
  along_then later last first (Err fault) go h k = h
