-- A reading and the first fault of its words say the same: what a reading takes has no fault, and where it stops, its fault is the first.
use Rattle.std.proofs.Common.{◌≡◌, ℕ, List, [], ◌∷◌, ◌++◌, Bool, true, false, cond, Option, Some, None, Result, Ok, Err, refl, sym, ap, ◌∙◌, subst}
use Rattle.sial_parser.specs.Grammar.{at}
use Rattle.sial_parser.specs.Parsing.{◌>>=◌, Read, line_of, unexpected, skip, name, name_by, index_by, array_by, scalar_by, value_of, known, index, array, scalar}
use Rattle.sial_parser.specs.Scope.{Scope, thing_of}
use Rattle.sial_parser.specs.declared.fault.ParseFault.{ParseFault}
use Rattle.sial_parser.specs.declared.fault.ParseFault.TheVariants.{Expected, Undeclared}
use Rattle.sial_parser.specs.declared.thing.Thing.{Thing}
use Rattle.sial_parser.specs.declared.thing.Thing.TheVariants.{Index, Array, Scalar, Proc}
use Rattle.sial_parser.specs.declared.word.Symbol.{Symbol}
use Rattle.sial_parser.specs.declared.word.Symbol.TheVariants.{Key, Sign, Name, Number, Quoted, LineEnd, End}
use Rattle.sial_parser.specs.declared.word.Word.{Word}
use Rattle.sial_faults.specs.Faults.{Past, fits, unless, told, at_text_end, checked, fault_at, past_after}
use Rattle.sial_faults.specs.Forms.{says, where_so, after}
use Rattle.sial_faults.specs.Parts.{Part, Fixed, Asked, an_index, an_array, a_scalar, a_scalar_or_array, an_index_or_scalar}
use Rattle.sial_faults.specs.Parts as part

-- what a name is declared as, procedures left out
abbrev pub plain_thing : Option Thing → Option Thing
plain_thing None = None
plain_thing (Some (Index i)) = Some (Index i)
plain_thing (Some (Array a)) = Some (Array a)
plain_thing (Some (Scalar x)) = Some (Scalar x)
plain_thing (Some (Proc p)) = None

-- scopes that differ in procedures alone
abbrev pub AreAlike : Scope → Scope → Type 0
AreAlike s t = (x : List ℕ) → plain_thing (thing_of s x) ≡ plain_thing (thing_of t x)

fits_plain : (a : Asked) (thing : Option Thing) → fits a thing ≡ fits a (plain_thing thing)
fits_plain an_index None = refl
fits_plain an_index (Some (Index i)) = refl
fits_plain an_index (Some (Array i)) = refl
fits_plain an_index (Some (Scalar i)) = refl
fits_plain an_index (Some (Proc i)) = refl
fits_plain an_array None = refl
fits_plain an_array (Some (Index i)) = refl
fits_plain an_array (Some (Array i)) = refl
fits_plain an_array (Some (Scalar i)) = refl
fits_plain an_array (Some (Proc i)) = refl
fits_plain a_scalar None = refl
fits_plain a_scalar (Some (Index i)) = refl
fits_plain a_scalar (Some (Array i)) = refl
fits_plain a_scalar (Some (Scalar i)) = refl
fits_plain a_scalar (Some (Proc i)) = refl
fits_plain a_scalar_or_array None = refl
fits_plain a_scalar_or_array (Some (Index i)) = refl
fits_plain a_scalar_or_array (Some (Array i)) = refl
fits_plain a_scalar_or_array (Some (Scalar i)) = refl
fits_plain a_scalar_or_array (Some (Proc i)) = refl
fits_plain an_index_or_scalar None = refl
fits_plain an_index_or_scalar (Some (Index i)) = refl
fits_plain an_index_or_scalar (Some (Array i)) = refl
fits_plain an_index_or_scalar (Some (Scalar i)) = refl
fits_plain an_index_or_scalar (Some (Proc i)) = refl

pub fits_alike : (s t : Scope) → AreAlike s t → (a : Asked) (x : List ℕ) → fits a (thing_of s x) ≡ fits a (thing_of t x)
fits_alike s t alike a x = fits_plain a (thing_of s x) ∙ ap (fits a) (alike x) ∙ sym (fits_plain a (thing_of t x))

-- an answer to whether a name fits
abbrev pub LookAt : {A : Type 0} → Bool → (line : ℕ) → Result A ParseFault → Type 0
LookAt true line (Ok x) = Unit {0}
LookAt false line (Err fault) = fault ≡ Undeclared line
LookAt true line (Err fault) = ⊥
LookAt false line (Ok x) = ⊥

-- what looks a name up asks for something
abbrev pub Looks : {A : Type 0} → ((line : ℕ) → Option Thing → Result A ParseFault) → Asked → Type 0
Looks look a = (line : ℕ) (thing : Option Thing) → LookAt (fits a thing) line (look line thing)

pub looks_index : Looks index_by an_index
looks_index line None = refl
looks_index line (Some (Index i)) = tt
looks_index line (Some (Array i)) = refl
looks_index line (Some (Scalar i)) = refl
looks_index line (Some (Proc i)) = refl

pub looks_array : Looks array_by an_array
looks_array line None = refl
looks_array line (Some (Index i)) = refl
looks_array line (Some (Array i)) = tt
looks_array line (Some (Scalar i)) = refl
looks_array line (Some (Proc i)) = refl

pub looks_scalar : Looks scalar_by a_scalar
looks_scalar line None = refl
looks_scalar line (Some (Index i)) = refl
looks_scalar line (Some (Array i)) = refl
looks_scalar line (Some (Scalar i)) = tt
looks_scalar line (Some (Proc i)) = refl

pub looks_value : Looks value_of an_index_or_scalar
looks_value line None = refl
looks_value line (Some (Index i)) = tt
looks_value line (Some (Array i)) = refl
looks_value line (Some (Scalar i)) = tt
looks_value line (Some (Proc i)) = refl

pub looks_known : Looks known a_scalar_or_array
looks_known line None = refl
looks_known line (Some (Index i)) = refl
looks_known line (Some (Array i)) = tt
looks_known line (Some (Scalar i)) = tt
looks_known line (Some (Proc i)) = refl

pub look_alike : {A : Type 0} (look : (line : ℕ) → Option Thing → Result A ParseFault) (a : Asked) → Looks look a → (s t : Scope) → AreAlike s t → (l : ℕ) (x : List ℕ) → LookAt (fits a (thing_of t x)) l (look l (thing_of s x))
look_alike look a looks s t alike l x = subst (λ (b : Bool). LookAt b l (look l (thing_of s x))) (fits_alike s t alike a x) (looks l (thing_of s x))

abbrev is_name : Symbol → Bool
is_name (Name x) = true
is_name _ = false

-- parts at which names alone may stand
abbrev pub takes_names : Part → Bool
takes_names part.title = true
takes_names (part.new named) = true
takes_names (part.asked a) = true
takes_names part.called = true
takes_names (part.dim room) = true
takes_names (part.along inner room names) = true
takes_names (part.loop inner) = true
takes_names (part.list_name names) = true
takes_names _ = false

pub only_names : (p : Part) (what : Symbol) (ws : List Word) → takes_names p ≡ true → is_name what ≡ false → at_text_end p ws (after p what) ≡ None
only_names p (Name x) ws h e = absurd (let k : ◌≡◌ {A = Bool} true false = e in cc)
only_names part.title _ ws h e = refl
only_names (part.new named) _ ws h e = refl
only_names (part.asked a) _ ws h e = refl
only_names part.called _ ws h e = refl
only_names (part.dim room) _ ws h e = refl
only_names (part.along inner room names) _ ws h e = refl
only_names (part.loop inner) _ ws h e = refl
only_names (part.list_name names) _ ws h e = refl
only_names p _ ws h e = absurd (let k : ◌≡◌ {A = Bool} false true = h in cc)

module _ (callable : (name : List ℕ) → Bool) where
  -- what an answer says of a first fault
  abbrev pub Agrees : {A : Type 0} → (first : Result Past ParseFault) → (A → Past) → (A → List Part) → Read A → Type 0
  Agrees first later parts (Ok x) = first ≡ checked callable (later x.0) (parts x.0) x.1
  Agrees first later parts (Err fault) = first ≡ Err fault

  -- one reading behind another
  pub then_agrees : {A B : Type 0} (first : Result Past ParseFault) (between : A → Past) (parts : A → List Part) (later : B → Past) (last : B → List Part) (r : Read A) (go : A → List Word → Read B)
      → Agrees first between parts r → ((x : A) (ws : List Word) → Agrees (checked callable (between x) (parts x) ws) later last (go x ws)) → Agrees first later last (r >>= λ y. go y.0 y.1)
  then_agrees first between parts later last (Ok y) go h k = subst (λ (t : Result Past ParseFault). Agrees t later last (go y.0 y.1)) (sym h) (k y.0 y.1)
  then_agrees first between parts later last (Err fault) go h k = h

  module _ {B : Type 0} (later : B → Past) (last : B → List Part) where
    -- a word that has to be just so
    skip_by : (b : Bool) (past : Past) (parts : List Part) (w : Word) (ws : List Word) (go : List Word → Read B) → Agrees (checked callable past parts ws) later last (go ws)
        → Agrees (told w.line (where_so b []) None (λ more. checked callable past (more ++ parts) ws)) later last (cond b (Ok ws) (unexpected (w ∷ ws)) >>= go)
    skip_by true past parts w ws go h = h
    skip_by false past parts w ws go h = refl

    pub skip_agrees : (one : Fixed) (past : Past) (parts : List Part) (ws : List Word) (go : List Word → Read B) → ((rest : List Word) → Agrees (checked callable past parts rest) later last (go rest))
        → Agrees (checked callable past (part.fixed one ∷ parts) ws) later last (skip (says one) ws >>= go)
    skip_agrees one past parts [] go h = refl
    skip_agrees one past parts (w ∷ ws) go h = skip_by (says one w.symbol) past parts w ws go (h ws)

    -- a name
    not_so : (p : Part) (past : Past) (parts : List Part) (l : ℕ) (what : Symbol) (ws : List Word) → takes_names p ≡ true → is_name what ≡ false → checked callable past (p ∷ parts) (at l what ∷ ws) ≡ Err (Expected l)
    not_so p past parts l what ws h e = ap (λ more. told l more (fault_at callable past p l what ws) (λ more. checked callable (past_after p what past) (more ++ parts) ws)) (only_names p what ws h e)

    name_at : (p : Part) (past : Past) (parts : List Part) (l : ℕ) (what : Symbol) (ws : List Word) (go : (line : ℕ) → List ℕ → List Word → Read B) → takes_names p ≡ true
        → ((l : ℕ) (x : List ℕ) (ws : List Word) → Agrees (checked callable past (p ∷ parts) (at l (Name x) ∷ ws)) later last (go l x ws))
        → Agrees (checked callable past (p ∷ parts) (at l what ∷ ws)) later last (name_by what (at l what) ws >>= λ y. go l y.0 y.1)
    name_at p past parts l (Name x) ws go h k = k l x ws
    name_at p past parts l (Key x) ws go h k = not_so p past parts l (Key x) ws h refl
    name_at p past parts l (Sign x) ws go h k = not_so p past parts l (Sign x) ws h refl
    name_at p past parts l (Number x) ws go h k = not_so p past parts l (Number x) ws h refl
    name_at p past parts l (Quoted x) ws go h k = not_so p past parts l (Quoted x) ws h refl
    name_at p past parts l LineEnd ws go h k = not_so p past parts l LineEnd ws h refl
    name_at p past parts l End ws go h k = not_so p past parts l End ws h refl

    pub name_agrees : (p : Part) (past : Past) (parts : List Part) (ws : List Word) (go : (line : ℕ) → List ℕ → List Word → Read B) → takes_names p ≡ true
        → ((l : ℕ) (x : List ℕ) (ws : List Word) → Agrees (checked callable past (p ∷ parts) (at l (Name x) ∷ ws)) later last (go l x ws))
        → Agrees (checked callable past (p ∷ parts) ws) later last (name ws >>= λ y. go (line_of ws) y.0 y.1)
    name_agrees p past parts [] go h k = refl
    name_agrees p past parts (w ∷ ws) go h k = name_at p past parts w.line w.symbol ws go h k

    -- one of two
    pub choice_agrees : (b : Bool) (past : Past) (p q : List Part) (ws : List Word) (f g : Read B) → Agrees (checked callable past p ws) later last f → Agrees (checked callable past q ws) later last g
        → Agrees (checked callable past (cond b p q) ws) later last (cond b f g)
    choice_agrees true past p q ws f g h k = h
    choice_agrees false past p q ws f g h k = k

    -- a name that is looked up
    pub look_agrees : {A : Type 0} (b : Bool) (l : ℕ) (r : Result A ParseFault) → LookAt b l r → (next : Option ParseFault) (go_on : List Part → Result Past ParseFault) (more : List Part) (go : A → Read B)
        → ((i : A) → r ≡ Ok i → Agrees (told l (Some more) next go_on) later last (go i)) → Agrees (told l (Some more) (unless b (Undeclared l) next) go_on) later last (r >>= go)
    look_agrees true l (Ok i) look next go_on more go h = h i refl
    look_agrees false l (Err fault) look next go_on more go h = ap Err (sym look)
    look_agrees true l (Err fault) look next go_on more go h = absurd look
    look_agrees false l (Ok i) look next go_on more go h = absurd look

    -- the same, where what is found goes with the words behind
    pub found_agrees : {A : Type 0} (b : Bool) (l : ℕ) (r : Result A ParseFault) → LookAt b l r → (next : Option ParseFault) (go_on : List Part → Result Past ParseFault) (more : List Part) (ws : List Word) (go : A → List Word → Read B)
        → ((i : A) → r ≡ Ok i → Agrees (told l (Some more) next go_on) later last (go i ws)) → Agrees (told l (Some more) (unless b (Undeclared l) next) go_on) later last (◌>>=◌ {A = A × List Word} (r >>= λ i. Ok (i, ws)) (λ y. go y.0 y.1))
    found_agrees true l (Ok i) look next go_on more ws go h = h i refl
    found_agrees false l (Err fault) look next go_on more ws go h = ap Err (sym look)
    found_agrees true l (Err fault) look next go_on more ws go h = absurd look
    found_agrees false l (Ok i) look next go_on more ws go h = absurd look

    -- an index, and what is read behind it
    module _ (s : Scope) (past : Past) (alike : AreAlike s past.scope) where
      index_at : (p : Part) (parts : List Part) (l : ℕ) (what : Symbol) (ws : List Word) (go : (line : ℕ) → ℕ → List Word → Read B) (next : (line : ℕ) → Option ParseFault) (more : List ℕ → List Part) → takes_names p ≡ true
          → ((l : ℕ) (x : List ℕ) (ws : List Word) → checked callable past (p ∷ parts) (at l (Name x) ∷ ws) ≡ told l (Some (more x)) (unless (fits an_index (thing_of past.scope x)) (Undeclared l) (next l)) (λ more. checked callable past (more ++ parts) ws))
          → ((l i : ℕ) (x : List ℕ) (ws : List Word) → index_by l (thing_of s x) ≡ Ok i → Agrees (told l (Some (more x)) (next l) (λ more. checked callable past (more ++ parts) ws)) later last (go l i ws))
          → Agrees (checked callable past (p ∷ parts) (at l what ∷ ws)) later last (index s (at l what ∷ ws) >>= λ y. go l y.0 y.1)
      unfolding index
      index_at p parts l (Name x) ws go next more h is k =
          subst (λ (t : Result Past ParseFault). Agrees t later last (◌>>=◌ {A = ℕ × List Word} (index_by l (thing_of s x) >>= λ i. Ok (i, ws)) (λ y. go l y.0 y.1))) (sym (is l x ws))
          (found_agrees (fits an_index (thing_of past.scope x)) l (index_by l (thing_of s x)) (look_alike index_by an_index looks_index s past.scope alike l x) (next l) (λ more. checked callable past (more ++ parts) ws) (more x) ws (λ i ws. go l i ws)
          (λ i e. k l i x ws e))
      index_at p parts l (Key x) ws go next more h is k = not_so p past parts l (Key x) ws h refl
      index_at p parts l (Sign x) ws go next more h is k = not_so p past parts l (Sign x) ws h refl
      index_at p parts l (Number x) ws go next more h is k = not_so p past parts l (Number x) ws h refl
      index_at p parts l (Quoted x) ws go next more h is k = not_so p past parts l (Quoted x) ws h refl
      index_at p parts l LineEnd ws go next more h is k = not_so p past parts l LineEnd ws h refl
      index_at p parts l End ws go next more h is k = not_so p past parts l End ws h refl

      pub index_then : (p : Part) (parts : List Part) (ws : List Word) (go : (line : ℕ) → ℕ → List Word → Read B) (next : (line : ℕ) → Option ParseFault) (more : List ℕ → List Part) → takes_names p ≡ true
          → ((l : ℕ) (x : List ℕ) (ws : List Word) → checked callable past (p ∷ parts) (at l (Name x) ∷ ws) ≡ told l (Some (more x)) (unless (fits an_index (thing_of past.scope x)) (Undeclared l) (next l)) (λ more. checked callable past (more ++ parts) ws))
          → ((l i : ℕ) (x : List ℕ) (ws : List Word) → index_by l (thing_of s x) ≡ Ok i → Agrees (told l (Some (more x)) (next l) (λ more. checked callable past (more ++ parts) ws)) later last (go l i ws))
          → Agrees (checked callable past (p ∷ parts) ws) later last (index s ws >>= λ y. go (line_of ws) y.0 y.1)
      unfolding index
      index_then p parts [] go next more h is k = refl
      index_then p parts (w ∷ ws) go next more h is k = index_at p parts w.line w.symbol ws go next more h is k

  -- an index, an array, a scalar
  module _ (s : Scope) (past : Past) (alike : AreAlike s past.scope) (parts : List Part) where
    asked_agrees : {A : Type 0} (look : (line : ℕ) → Option Thing → Result A ParseFault) (a : Asked) → Looks look a → (ws : List Word)
        → Agrees (checked callable past (part.asked a ∷ parts) ws) (λ x. past) (λ x. parts) (name ws >>= λ x. look (line_of ws) (thing_of s x.0) >>= λ i. Ok (i, x.1))
    asked_agrees look a looks ws =
        name_agrees (λ x. past) (λ x. parts) (part.asked a) past parts ws (λ l x ws. look l (thing_of s x) >>= λ i. Ok (i, ws)) refl
        (λ l x ws. look_agrees (λ x. past) (λ x. parts) (fits a (thing_of past.scope x)) l (look l (thing_of s x)) (look_alike look a looks s past.scope alike l x) None (λ more. checked callable past (more ++ parts) ws) [] (λ i. Ok (i, ws)) (λ i e. refl))

    pub index_agrees : (ws : List Word) → Agrees (checked callable past (part.asked an_index ∷ parts) ws) (λ x. past) (λ x. parts) (index s ws)
    unfolding index
    index_agrees ws = asked_agrees index_by an_index looks_index ws

    pub array_agrees : (ws : List Word) → Agrees (checked callable past (part.asked an_array ∷ parts) ws) (λ x. past) (λ x. parts) (array s ws)
    unfolding array
    array_agrees ws = asked_agrees array_by an_array looks_array ws

    pub scalar_agrees : (ws : List Word) → Agrees (checked callable past (part.asked a_scalar ∷ parts) ws) (λ x. past) (λ x. parts) (scalar s ws)
    unfolding scalar
    scalar_agrees ws = asked_agrees scalar_by a_scalar looks_scalar ws
