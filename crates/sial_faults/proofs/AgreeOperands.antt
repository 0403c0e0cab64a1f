-- Operands and targets, right sides, values and conditions.
use Rattle.std.proofs.Common.{◌≡◌, ℕ, List, [], ◌∷◌, ◌++◌, Bool, true, false, cond, Option, Some, None, Result, Ok, Err, refl, sym, ap, ◌∙◌, subst}
use Rattle.std.specs.Prelude.{codes}
use Rattle.std.specs.Str.{bytes_eq}
use Rattle.sial_syntax.specs.Limits.{most_rank}
use Rattle.sial_syntax.specs.declared.access.Access.TheVariants.{Max}
use Rattle.sial_syntax.specs.declared.condition.Test.{Test}
use Rattle.sial_syntax.specs.declared.condition.Value.{Value}
use Rattle.sial_syntax.specs.declared.condition.Value.TheVariants as value
use Rattle.sial_syntax.specs.declared.operand.Bin.{Bin}
use Rattle.sial_syntax.specs.declared.operand.BlockRef.{BlockRef}
use Rattle.sial_syntax.specs.declared.operand.Operand.{Operand}
use Rattle.sial_syntax.specs.declared.operand.Operand.TheVariants as operand
use Rattle.sial_syntax.specs.declared.operand.Right.TheVariants.{One, Two}
use Rattle.sial_parser.specs.Grammar.{at, opens, go_on_with_open, negative}
use Rattle.sial_parser.specs.Parsing.{◌>>=◌, Read, line_of, unexpected, skip, is_next, is_some, is_line_end, is_equals, ends_operand, array_by, scalar_by, known, value_of, alone, array, block, dims, indices, closes, number, number_by, bin_of, test_of, operand_at, right, right_after, right_by, value_at, condition, cond_after, cond_by, access}
use Rattle.sial_parser.specs.Scope.{Scope, thing_of}
use Rattle.sial_parser.specs.declared.fault.ParseFault.{ParseFault}
use Rattle.sial_parser.specs.declared.fault.ParseFault.TheVariants.{Expected, Undeclared}
use Rattle.sial_parser.specs.declared.sign.Sign.TheVariants as sign
use Rattle.sial_parser.specs.declared.thing.Thing.{Thing}
use Rattle.sial_parser.specs.declared.word.Symbol.{Symbol}
use Rattle.sial_parser.specs.declared.word.Symbol.TheVariants.{Key, Name, Number, Quoted, LineEnd, End}
use Rattle.sial_parser.specs.declared.word.Symbol.TheVariants as symbol
use Rattle.sial_parser.specs.declared.word.Word.{Word}
use Rattle.sial_faults.specs.Faults.{Past, fits, unless, told, checked}
use Rattle.sial_faults.specs.Forms.{where_so, after_bin_or_end}
use Rattle.sial_faults.specs.Parts.{Part, an_array, a_scalar, a_scalar_or_array, an_index_or_scalar, equals, line_end}
use Rattle.sial_faults.specs.Forms as form
use Rattle.sial_faults.specs.Parts as part
use Rattle.sial_faults.proofs.Agreeing.{Agrees, AreAlike, LookAt, looks_array, looks_scalar, looks_known, looks_value, look_alike, then_agrees, skip_agrees, look_agrees}
use Rattle.sial_faults.proofs.AgreeLists.{indices_agree}

module _ (callable : (name : List ℕ) → Bool) (s : Scope) (past : Past) (alike : AreAlike s past.scope) where
  -- a number behind `-`
  number_at : (parts : List Part) (l : ℕ) (what : Symbol) (ws : List Word) → Agrees callable (checked callable past (part.number ∷ parts) (at l what ∷ ws)) (λ y. past) (λ y. parts) (number_by what (at l what) ws)
  number_at parts l (Number n) ws = refl
  number_at parts l _ ws = refl

  pub number_agrees : (parts : List Part) (ws : List Word) → Agrees callable (checked callable past (part.number ∷ parts) ws) (λ y. past) (λ y. parts) (number ws)
  number_agrees parts [] = refl
  number_agrees parts (w ∷ ws) = number_at parts w.line w.symbol ws

  -- what a name is looked up as, by what stands behind it
  abbrev pub first_look : (open_next fits_next : Bool) → (line : ℕ) → Option Thing → Result ℕ ParseFault
  first_look b c l thing = cond b (array_by l thing) (cond c (scalar_by l thing) (known l thing))

  pub looks_first : (b c : Bool) (l : ℕ) (x : List ℕ) → LookAt (fits (cond b an_array (cond c a_scalar a_scalar_or_array)) (thing_of past.scope x)) l (first_look b c l (thing_of s x))
  looks_first true c l x = look_alike array_by an_array looks_array s past.scope alike l x
  looks_first false true l x = look_alike scalar_by a_scalar looks_scalar s past.scope alike l x
  looks_first false false l x = look_alike known a_scalar_or_array looks_known s past.scope alike l x

  -- an operand or a target that begins with a name, by what stands behind that
  abbrev pub named_read : {A : Type 0} → (made : BlockRef → A) → (make : ℕ → A) → (open_next fits_next : Bool) → (l : ℕ) → (x : List ℕ) → List Word → Read A
  named_read made make b c l x ws = cond b (block s (at l (Name x) ∷ ws) >>= λ b. Ok (made b.0, b.1)) (alone l c (thing_of s x) ws >>= λ y. Ok (make y.0, y.1))

  named_fails : {A : Type 0} (made : BlockRef → A) (make : ℕ → A) (b c : Bool) (l : ℕ) (x : List ℕ) (ws : List Word) (fault : ParseFault) → first_look b c l (thing_of s x) ≡ Err fault → named_read made make b c l x ws ≡ Err fault
  unfolding block array
  named_fails made make true c l x ws fault e = ap (λ r. ((r >>= λ a. Ok (a, ws)) >>= λ (a : ℕ × List Word). dims s a.1 >>= λ is. Ok (record { array = a.0; at = is.0 }, is.1)) >>= λ (b : BlockRef × List Word). Ok (made b.0, b.1)) e
  named_fails made make false true l x ws fault e = ap (λ r. (r >>= λ x. Ok (x, ws)) >>= λ (y : ℕ × List Word). Ok (make y.0, y.1)) e
  named_fails {A} made make false false l x ws fault e = ap (λ r. ◌>>=◌ {A = ℕ × List Word} (r >>= λ x. unexpected ws) (λ (y : ℕ × List Word). Ok (make y.0, y.1))) e

  -- a part at which a list may stand, and one behind it
  module _ (dims_or follow : Part) (test : Symbol → Bool) (parts : List Part)
      (on_open : (l : ℕ) (what : Symbol) (ws : List Word) → opens what ≡ true → checked callable past (dims_or ∷ parts) (at l what ∷ ws) ≡ checked callable past (part.dim most_rank ∷ follow ∷ parts) ws)
      (on_other : (l : ℕ) (what : Symbol) (ws : List Word) → opens what ≡ false → checked callable past (dims_or ∷ parts) (at l what ∷ ws) ≡ checked callable past (follow ∷ parts) (at l what ∷ ws))
      (on_none : (l : ℕ) (what : Symbol) (ws : List Word) → opens what ≡ false → test what ≡ false → checked callable past (dims_or ∷ parts) (at l what ∷ ws) ≡ Err (Expected l)) where
    other_words : (ws : List Word) → go_on_with_open ws ≡ false → checked callable past (dims_or ∷ parts) ws ≡ checked callable past (follow ∷ parts) ws
    other_words [] e = refl
    other_words (w ∷ ws) e = on_other w.line w.symbol ws e

    no_words : (ws : List Word) → go_on_with_open ws ≡ false → is_next test ws ≡ false → checked callable past (dims_or ∷ parts) ws ≡ Err (Expected (line_of ws))
    no_words [] e f = refl
    no_words (w ∷ ws) e f = on_none w.line w.symbol ws e f

    dims_open : (w : Word) (ws : List Word) → opens w.symbol ≡ true → dims s (w ∷ ws) ≡ indices s closes most_rank [] ws
    unfolding dims
    dims_open w ws e = ap (λ b. cond b (Ok ws) (unexpected (w ∷ ws)) >>= λ ws. indices s closes most_rank [] ws) e

    listed : {A : Type 0} (made : BlockRef → A) (a : ℕ) (ws : List Word)
        → Agrees callable (checked callable past (part.dim most_rank ∷ follow ∷ parts) ws) (λ y. past) (λ y. follow ∷ parts) ((indices s closes most_rank [] ws >>= λ is. Ok (record { array = a; at = is.0 }, is.1)) >>= λ (b : BlockRef × List Word). Ok (made b.0, b.1))
    listed made a ws =
        then_agrees callable (checked callable past (part.dim most_rank ∷ follow ∷ parts) ws) (λ y. past) (λ y. follow ∷ parts) (λ y. past) (λ y. follow ∷ parts) (indices s closes most_rank [] ws >>= λ is. Ok (record { array = a; at = is.0 }, is.1)) (λ b ws. Ok (made b, ws))
        (then_agrees callable (checked callable past (part.dim most_rank ∷ follow ∷ parts) ws) (λ y. past) (λ y. follow ∷ parts) (λ y. past) (λ y. follow ∷ parts) (indices s closes most_rank [] ws) (λ is ws. Ok (record { array = a; at = is }, ws)) (indices_agree callable s past alike most_rank [] (follow ∷ parts) ws) (λ is ws. refl))
        (λ b ws. refl)

    list_words : {A : Type 0} (made : BlockRef → A) (a : ℕ) (ws : List Word) → go_on_with_open ws ≡ true → Agrees callable (checked callable past (dims_or ∷ parts) ws) (λ y. past) (λ y. follow ∷ parts) ((dims s ws >>= λ is. Ok (record { array = a; at = is.0 }, is.1)) >>= λ (b : BlockRef × List Word). Ok (made b.0, b.1))
    list_words made a [] e = absurd (let k : ◌≡◌ {A = Bool} false true = e in cc)
    list_words {A} made a (w ∷ ws) e =
        subst (λ (t : Result Past ParseFault). Agrees callable {A = A} t (λ y. past) (λ y. follow ∷ parts) ((dims s (w ∷ ws) >>= λ is. Ok (record { array = a; at = is.0 }, is.1)) >>= λ (b : BlockRef × List Word). Ok (made b.0, b.1)))
        (sym (on_open w.line w.symbol ws e))
        (subst (λ (r : Read (List ℕ)). Agrees callable {A = A} (checked callable past (part.dim most_rank ∷ follow ∷ parts) ws) (λ y. past) (λ y. follow ∷ parts) ((r >>= λ is. Ok (record { array = a; at = is.0 }, is.1)) >>= λ (b : BlockRef × List Word). Ok (made b.0, b.1)))
        (sym (dims_open w ws e)) (listed made a ws))

    pub named_found : {A : Type 0} (made : BlockRef → A) (make : ℕ → A) (b c : Bool) (l : ℕ) (x : List ℕ) (ws : List Word) (i : ℕ) → go_on_with_open ws ≡ b → is_next test ws ≡ c → first_look b c l (thing_of s x) ≡ Ok i
        → Agrees callable (checked callable past (dims_or ∷ parts) ws) (λ y. past) (λ y. follow ∷ parts) (named_read made make b c l x ws)
    unfolding block array
    named_found {A} made make true c l x ws i e f g =
        subst (λ (r : Result ℕ ParseFault). Agrees callable (checked callable past (dims_or ∷ parts) ws) (λ y. past) (λ y. follow ∷ parts)
        (((r >>= λ a. Ok (a, ws)) >>= λ (a : ℕ × List Word). dims s a.1 >>= λ is. Ok (record { array = a.0; at = is.0 }, is.1)) >>= λ (b : BlockRef × List Word). Ok (made b.0, b.1))) (sym g) (list_words made i ws e)
    named_found {A} made make false true l x ws i e f g =
        subst (λ (r : Result ℕ ParseFault). Agrees callable {A = A} (checked callable past (dims_or ∷ parts) ws) (λ y. past) (λ y. follow ∷ parts) ((r >>= λ x. Ok (x, ws)) >>= λ (y : ℕ × List Word). Ok (make y.0, y.1))) (sym g) (other_words ws e)
    named_found {A} made make false false l x ws i e f g =
        subst (λ (r : Result ℕ ParseFault). Agrees callable {A = A} (checked callable past (dims_or ∷ parts) ws) (λ y. past) (λ y. follow ∷ parts) (◌>>=◌ {A = ℕ × List Word} (r >>= λ x. unexpected ws) (λ (y : ℕ × List Word). Ok (make y.0, y.1)))) (sym g) (no_words ws e f)

    -- the name and what stands behind it
    pub named_agrees : {A : Type 0} (made : BlockRef → A) (make : ℕ → A) (l : ℕ) (x : List ℕ) (ws : List Word) (b c : Bool) → go_on_with_open ws ≡ b → is_next test ws ≡ c
        → Agrees callable (told l (Some (dims_or ∷ [])) (unless (fits (cond b an_array (cond c a_scalar a_scalar_or_array)) (thing_of past.scope x)) (Undeclared l) None) (λ more. checked callable past (more ++ parts) ws)) (λ y. past) (λ y. follow ∷ parts) (named_read made make b c l x ws)
    named_agrees made make l x ws b c e f = by_look (fits (cond b an_array (cond c a_scalar a_scalar_or_array)) (thing_of past.scope x)) (first_look b c l (thing_of s x)) refl (looks_first b c l x)
      where
        by_look : (fit : Bool) (r : Result ℕ ParseFault) → first_look b c l (thing_of s x) ≡ r → LookAt fit l r
            → Agrees callable (told l (Some (dims_or ∷ [])) (unless fit (Undeclared l) None) (λ more. checked callable past (more ++ parts) ws)) (λ y. past) (λ y. follow ∷ parts) (named_read made make b c l x ws)
        by_look true (Ok i) g look = named_found made make b c l x ws i e f g
        by_look false (Err fault) g look = subst (λ (r : Read _). Agrees callable (Err (Undeclared l)) (λ y. past) (λ y. follow ∷ parts) r) (sym (named_fails made make b c l x ws fault g)) (ap Err (sym look))
        by_look true (Err fault) g look = absurd look
        by_look false (Ok i) g look = absurd look

  -- the first operand
  right_open : (parts : List Part) (l : ℕ) (what : Symbol) (ws : List Word) → opens what ≡ true → checked callable past (part.dims_or_bin ∷ parts) (at l what ∷ ws) ≡ checked callable past (part.dim most_rank ∷ part.bin_or_end ∷ parts) ws
  right_open parts l what ws e = ap (λ b. told l (cond b (Some (part.dim most_rank ∷ part.bin_or_end ∷ [])) (after_bin_or_end what)) None (λ more. checked callable past (more ++ parts) ws)) e

  right_other : (parts : List Part) (l : ℕ) (what : Symbol) (ws : List Word) → opens what ≡ false → checked callable past (part.dims_or_bin ∷ parts) (at l what ∷ ws) ≡ checked callable past (part.bin_or_end ∷ parts) (at l what ∷ ws)
  right_other parts l what ws e = ap (λ b. told l (cond b (Some (part.dim most_rank ∷ part.bin_or_end ∷ [])) (after_bin_or_end what)) None (λ more. checked callable past (more ++ parts) ws)) e

  neither : (b c : Bool) → cond b true c ≡ false → cond c (Some (part.operand ∷ [])) (where_so b []) ≡ None
  neither false false e = refl
  neither true c e = absurd (let k : ◌≡◌ {A = Bool} true false = e in cc)
  neither false true e = absurd (let k : ◌≡◌ {A = Bool} true false = e in cc)

  right_none : (parts : List Part) (l : ℕ) (what : Symbol) (ws : List Word) → opens what ≡ false → ends_operand what ≡ false → checked callable past (part.dims_or_bin ∷ parts) (at l what ∷ ws) ≡ Err (Expected l)
  right_none parts l what ws e f = right_other parts l what ws e ∙ ap (λ more. told l more None (λ more. checked callable past (more ++ parts) ws)) (neither (is_line_end what) (is_some (bin_of what)) f)

  first_at : (parts : List Part) (l : ℕ) (what : Symbol) (ws : List Word) → Agrees callable (checked callable past (part.right ∷ parts) (at l what ∷ ws)) (λ y. past) (λ y. part.bin_or_end ∷ parts) (operand_at s (at l what ∷ ws))
  unfolding operand_at
  first_at parts l (Name x) ws = named_agrees part.dims_or_bin part.bin_or_end ends_operand parts (right_open parts) (right_other parts) (right_none parts) operand.Block operand.Scalar l x ws (go_on_with_open ws) (is_next ends_operand ws) refl refl
  first_at parts l (Number n) ws = refl
  first_at parts l (symbol.Sign sign.Minus) ws =
      then_agrees callable (checked callable past (part.number ∷ part.bin_or_end ∷ parts) ws) (λ y. past) (λ y. part.bin_or_end ∷ parts) (λ y. past) (λ y. part.bin_or_end ∷ parts) (number ws) (λ n ws. Ok (operand.Number (negative n), ws)) (number_agrees (part.bin_or_end ∷ parts) ws) (λ n ws. refl)
  first_at parts l _ ws = refl

  first_agrees : (parts : List Part) (ws : List Word) → Agrees callable (checked callable past (part.right ∷ parts) ws) (λ y. past) (λ y. part.bin_or_end ∷ parts) (operand_at s ws)
  unfolding operand_at
  first_agrees parts [] = refl
  first_agrees parts (w ∷ ws) = first_at parts w.line w.symbol ws

  -- the second operand
  second_open : (parts : List Part) (l : ℕ) (what : Symbol) (ws : List Word) → opens what ≡ true → checked callable past (part.dims_or_end ∷ parts) (at l what ∷ ws) ≡ checked callable past (part.dim most_rank ∷ part.fixed line_end ∷ parts) ws
  second_open parts l what ws e = ap (λ b. told l (cond b (Some (part.dim most_rank ∷ part.fixed line_end ∷ [])) (where_so (is_line_end what) [])) None (λ more. checked callable past (more ++ parts) ws)) e

  second_other : (parts : List Part) (l : ℕ) (what : Symbol) (ws : List Word) → opens what ≡ false → checked callable past (part.dims_or_end ∷ parts) (at l what ∷ ws) ≡ checked callable past (part.fixed line_end ∷ parts) (at l what ∷ ws)
  second_other parts l what ws e = ap (λ b. told l (cond b (Some (part.dim most_rank ∷ part.fixed line_end ∷ [])) (where_so (is_line_end what) [])) None (λ more. checked callable past (more ++ parts) ws)) e

  no_end : (b c : Bool) → cond b true c ≡ false → where_so b [] ≡ None
  no_end false c e = refl
  no_end true c e = absurd (let k : ◌≡◌ {A = Bool} true false = e in cc)

  second_none : (parts : List Part) (l : ℕ) (what : Symbol) (ws : List Word) → opens what ≡ false → ends_operand what ≡ false → checked callable past (part.dims_or_end ∷ parts) (at l what ∷ ws) ≡ Err (Expected l)
  second_none parts l what ws e f = second_other parts l what ws e ∙ ap (λ more. told l more None (λ more. checked callable past (more ++ parts) ws)) (no_end (is_line_end what) (is_some (bin_of what)) f)

  second_at : (parts : List Part) (l : ℕ) (what : Symbol) (ws : List Word) → Agrees callable (checked callable past (part.operand ∷ parts) (at l what ∷ ws)) (λ y. past) (λ y. part.fixed line_end ∷ parts) (operand_at s (at l what ∷ ws))
  unfolding operand_at
  second_at parts l (Name x) ws = named_agrees part.dims_or_end (part.fixed line_end) ends_operand parts (second_open parts) (second_other parts) (second_none parts) operand.Block operand.Scalar l x ws (go_on_with_open ws) (is_next ends_operand ws) refl refl
  second_at parts l (Number n) ws = refl
  second_at parts l (symbol.Sign sign.Minus) ws =
      then_agrees callable (checked callable past (part.number ∷ part.fixed line_end ∷ parts) ws) (λ y. past) (λ y. part.fixed line_end ∷ parts) (λ y. past) (λ y. part.fixed line_end ∷ parts) (number ws) (λ n ws. Ok (operand.Number (negative n), ws)) (number_agrees (part.fixed line_end ∷ parts) ws) (λ n ws. refl)
  second_at parts l _ ws = refl

  second_agrees : (parts : List Part) (ws : List Word) → Agrees callable (checked callable past (part.operand ∷ parts) ws) (λ y. past) (λ y. part.fixed line_end ∷ parts) (operand_at s ws)
  unfolding operand_at
  second_agrees parts [] = refl
  second_agrees parts (w ∷ ws) = second_at parts w.line w.symbol ws

  -- right NL
  right_behind : (parts : List Part) (a : Operand) (how : Option Bin) (b : Bool) (w : Word) (ws : List Word)
      → is_line_end w.symbol ≡ b → Agrees callable (told w.line (cond (is_some how) (Some (part.operand ∷ [])) (where_so b [])) None (λ more. checked callable past (more ++ parts) ws)) (λ y. past) (λ y. parts) (right_by s a how w ws)
  right_behind parts a (Some how) b w ws e =
      then_agrees callable (checked callable past (part.operand ∷ parts) ws) (λ y. past) (λ y. part.fixed line_end ∷ parts) (λ y. past) (λ y. parts) (operand_at s ws) (λ b ws. skip is_line_end ws >>= λ rest. Ok (Two a how b, rest)) (second_agrees parts ws)
      (λ b ws. skip_agrees callable (λ y. past) (λ y. parts) line_end past parts ws (λ rest. Ok (Two a how b, rest)) (λ rest. refl))
  right_behind parts a None b w ws e = subst (λ b. Agrees callable (told w.line (where_so b []) None (λ more. checked callable past (more ++ parts) ws)) (λ y. past) (λ y. parts) (right_by s a None w ws)) e (skip_agrees callable (λ y. past) (λ y. parts) line_end past parts (w ∷ ws) (λ rest. Ok (One a, rest)) (λ rest. refl))

  right_after_agrees : (parts : List Part) (a : Operand) (ws : List Word) → Agrees callable (checked callable past (part.bin_or_end ∷ parts) ws) (λ y. past) (λ y. parts) (right_after s a ws)
  right_after_agrees parts a [] = refl
  right_after_agrees parts a (w ∷ ws) = right_behind parts a (bin_of w.symbol) (is_line_end w.symbol) w ws refl

  pub right_agrees : (parts : List Part) (ws : List Word) → Agrees callable (checked callable past (part.right ∷ parts) ws) (λ y. past) (λ y. parts) (right s ws)
  unfolding right
  right_agrees parts ws = then_agrees callable (checked callable past (part.right ∷ parts) ws) (λ y. past) (λ y. part.bin_or_end ∷ parts) (λ y. past) (λ y. parts) (operand_at s ws) (λ a ws. right_after s a ws) (first_agrees parts ws) (λ a ws. right_after_agrees parts a ws)

  -- value
  value_read : (parts : List Part) (l : ℕ) (what : Symbol) (ws : List Word) → Agrees callable (checked callable past (part.value ∷ parts) (at l what ∷ ws)) (λ y. past) (λ y. parts) (value_at s (at l what ∷ ws))
  unfolding value_at
  value_read parts l (Name x) ws =
      look_agrees callable (λ y. past) (λ y. parts) (fits an_index_or_scalar (thing_of past.scope x)) l (value_of l (thing_of s x)) (look_alike value_of an_index_or_scalar looks_value s past.scope alike l x) None
      (λ more. checked callable past (more ++ parts) ws) [] (λ v. Ok (v, ws)) (λ v e. refl)
  value_read parts l (Number n) ws = refl
  value_read parts l (symbol.Sign sign.Minus) ws = then_agrees callable (checked callable past (part.number ∷ parts) ws) (λ y. past) (λ y. parts) (λ y. past) (λ y. parts) (number ws) (λ n ws. Ok (value.Number (negative n), ws)) (number_agrees parts ws) (λ n ws. refl)
  value_read parts l _ ws = refl

  value_agrees : (parts : List Part) (ws : List Word) → Agrees callable (checked callable past (part.value ∷ parts) ws) (λ y. past) (λ y. parts) (value_at s ws)
  unfolding value_at
  value_agrees parts [] = refl
  value_agrees parts (w ∷ ws) = value_read parts w.line w.symbol ws

  -- cond NL
  cond_behind : (parts : List Part) (a : Value) (how : Option Test) (w : Word) (ws : List Word)
      → Agrees callable (told w.line (where_so (is_some how) []) None (λ more. checked callable past (more ++ part.value ∷ part.fixed line_end ∷ parts) ws)) (λ y. past) (λ y. parts) (cond_by s a how w ws)
  cond_behind parts a (Some how) w ws =
      then_agrees callable (checked callable past (part.value ∷ part.fixed line_end ∷ parts) ws) (λ y. past) (λ y. part.fixed line_end ∷ parts) (λ y. past) (λ y. parts) (value_at s ws) (λ b ws. skip is_line_end ws >>= λ rest. Ok (record { left = a; test = how; right = b }, rest))
      (value_agrees (part.fixed line_end ∷ parts) ws) (λ b ws. skip_agrees callable (λ y. past) (λ y. parts) line_end past parts ws (λ rest. Ok (record { left = a; test = how; right = b }, rest)) (λ rest. refl))
  cond_behind parts a None w ws = refl

  cond_after_agrees : (parts : List Part) (a : Value) (ws : List Word) → Agrees callable (checked callable past (part.test ∷ part.value ∷ part.fixed line_end ∷ parts) ws) (λ y. past) (λ y. parts) (cond_after s a ws)
  cond_after_agrees parts a [] = refl
  cond_after_agrees parts a (w ∷ ws) = cond_behind parts a (test_of w.symbol) w ws

  pub condition_agrees : (parts : List Part) (ws : List Word) → Agrees callable (checked callable past (form.condition parts) ws) (λ y. past) (λ y. parts) (condition s ws)
  unfolding condition
  condition_agrees parts ws =
      then_agrees callable (checked callable past (form.condition parts) ws) (λ y. past) (λ y. part.test ∷ part.value ∷ part.fixed line_end ∷ parts) (λ y. past) (λ y. parts) (value_at s ws) (λ a ws. cond_after s a ws) (value_agrees (part.test ∷ part.value ∷ part.fixed line_end ∷ parts) ws)
      (λ a ws. cond_after_agrees parts a ws)

  -- "="|"+="|"max" "="
  max_at : (parts : List Part) (l : ℕ) (x : List ℕ) (ws : List Word) (b : Bool)
      → Agrees callable (told l (where_so b (part.fixed equals ∷ [])) None (λ more. checked callable past (more ++ parts) ws)) (λ y. past) (λ y. parts) (cond b (skip is_equals ws >>= λ rest. Ok (Max, rest)) (unexpected (at l (Name x) ∷ ws)))
  max_at parts l x ws true = skip_agrees callable (λ y. past) (λ y. parts) equals past parts ws (λ rest. Ok (Max, rest)) (λ rest. refl)
  max_at parts l x ws false = refl

  access_at : (parts : List Part) (l : ℕ) (what : Symbol) (ws : List Word) → Agrees callable (checked callable past (part.access ∷ parts) (at l what ∷ ws)) (λ y. past) (λ y. parts) (access (at l what ∷ ws))
  unfolding access
  access_at parts l (symbol.Sign sign.Equals) ws = refl
  access_at parts l (symbol.Sign sign.PlusEquals) ws = refl
  access_at parts l (Name x) ws = max_at parts l x ws (bytes_eq x (codes "max"))
  access_at parts l _ ws = refl

  pub access_agrees : (parts : List Part) (ws : List Word) → Agrees callable (checked callable past (part.access ∷ parts) ws) (λ y. past) (λ y. parts) (access ws)
  unfolding access
  access_agrees parts [] = refl
  access_agrees parts (w ∷ ws) = access_at parts w.line w.symbol ws
