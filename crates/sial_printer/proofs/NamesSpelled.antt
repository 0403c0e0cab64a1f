-- Names and reserved words are read back from their spelling.
use Rattle.std.proofs.Common.{◌≡◌, ℕ, ◌+◌, List, [], ◌∷◌, Bool, true, false, ◌&&◌, ◌||◌, ◌==◌, not, cond, nat_le, map, length, Option, Some, None, refl, ap, ◌∙◌, arith}
use Rattle.std.specs.Prelude.{IsTrue}
use Rattle.std.specs.List.{list_all, list_any}
use Rattle.std.specs.Str.{bytes_eq}
use Rattle.std.proofs.lemmas.Bool.{leb-true, eqb-true}
use Rattle.sial_lexer.specs.Characters.{is_small, is_capital, is_letter, is_digit, is_digit_or_point, is_word_byte, is_blank, begins_sign, begins, small, folded}
use Rattle.sial_lexer.specs.Pieces.{Begins, IsToken}
use Rattle.sial_lexer.specs.declared.beginning.Beginning.TheVariants as first
use Rattle.sial_lexer.specs.declared.token.TokenKind.TheVariants as token
use Rattle.sial_syntax.specs.Names as names
use Rattle.sial_syntax.specs.Names.{is_name, is_name_byte, is_text, has_name_form, begins_with_letter, is_reserved}
use Rattle.sial_parser.specs.Words.{keywords, entry_of, name_or_key, symbol_of}
use Rattle.sial_parser.specs.declared.keyword.Keyword.{Keyword}
use Rattle.sial_parser.specs.declared.keyword.Keyword.TheVariants as key
use Rattle.sial_parser.specs.declared.word.Symbol.TheVariants.{Key, Name}
use Rattle.sial_printer.specs.Spelling.{key_spelling}

-- bytes that go on with no word, number or sign
abbrev pub IsGap : List ℕ → Type 0
IsGap [] = Unit {0}
IsGap (b ∷ bs) = (is_word_byte b ≡ false) × (is_digit_or_point b ≡ false) × (b == 61 ≡ false)

no_word : (after : List ℕ) → IsGap after → begins is_word_byte after ≡ false
no_word [] gap = refl
no_word (b ∷ bs) gap = gap.0

pub no_digit : (after : List ℕ) → IsGap after → begins is_digit_or_point after ≡ false
no_digit [] gap = refl
no_digit (b ∷ bs) gap = gap.1

pub front : (x y : Bool) → x && y ≡ true → x ≡ true
front true y e = refl
front false y e = absurd cc

pub back : (x y : Bool) → x && y ≡ true → y ≡ true
back true y e = e
back false y e = absurd cc

pub both_true : (x y : Bool) → x ≡ true → y ≡ true → x && y ≡ true
both_true true true e f = refl
both_true true false e f = absurd cc
both_true false y e f = absurd cc

-- a byte of a name is one of a word, and is no capital letter
or_last : (x y : Bool) → y ≡ true → x || y ≡ true
or_last true y e = refl
or_last false y e = e

small_letter : (b : ℕ) → names.is_letter b ≡ true → is_letter b ≡ true
small_letter b e = ap (λ s. s || is_capital b) e

word_by : (s d u : Bool) (b : ℕ) → is_small b ≡ s → is_digit b ≡ d → (b == 95) ≡ u → s || (d || u) ≡ true → is_word_byte b ≡ true
word_by true d u b e f g h = ap (λ s. (s || is_capital b) || (is_digit b || b == 95)) e
word_by false true u b e f g h = or_last (is_small b || is_capital b) (is_digit b || b == 95) (ap (λ d. d || b == 95) f)
word_by false false true b e f g h = or_last (is_small b || is_capital b) (is_digit b || b == 95) (or_last (is_digit b) (b == 95) g)
word_by false false false b e f g h = absurd cc

name_word : (b : ℕ) → is_name_byte b ≡ true → is_word_byte b ≡ true
name_word b h = word_by (is_small b) (is_digit b) (b == 95) b refl refl refl h

all_word : (xs : List ℕ) → list_all is_name_byte xs ≡ true → list_all is_word_byte xs ≡ true
all_word [] h = refl
all_word (b ∷ bs) h = both_true (is_word_byte b) (list_all is_word_byte bs) (name_word b (front (is_name_byte b) (list_all is_name_byte bs) h)) (all_word bs (back (is_name_byte b) (list_all is_name_byte bs) h))

-- it is made small to itself
no_capital : (s d u c : Bool) (b : ℕ) → is_small b ≡ s → is_digit b ≡ d → (b == 95) ≡ u → is_capital b ≡ c → s || (d || u) ≡ true → c ≡ false
no_capital s d u false b e f g h all = refl
no_capital true d u true b e f g h all =
    absurd (omega (arith, leb-true 97 b (front (nat_le 97 b) (nat_le b 122) e), leb-true b 90 (back (nat_le 65 b) (nat_le b 90) h)))
no_capital false true u true b e f g h all =
    absurd (omega (arith, leb-true b 57 (back (nat_le 48 b) (nat_le b 57) f), leb-true 65 b (front (nat_le 65 b) (nat_le b 90) h)))
no_capital false false true true b e f g h all = absurd (omega (arith, eqb-true b 95 g, leb-true b 90 (back (nat_le 65 b) (nat_le b 90) h)))
no_capital false false false true b e f g h all = absurd cc

name_small : (b : ℕ) → is_name_byte b ≡ true → small b ≡ b
name_small b h = ap (λ c. cond c (b + 32) b) (no_capital (is_small b) (is_digit b) (b == 95) (is_capital b) b refl refl refl refl h)

name_folded : (xs : List ℕ) → list_all is_name_byte xs ≡ true → folded xs ≡ xs
name_folded [] h = refl
name_folded (b ∷ bs) h =
    ap (λ c. c ∷ folded bs) (name_small b (front (is_name_byte b) (list_all is_name_byte bs) h)) ∙ ap (λ cs. b ∷ cs) (name_folded bs (back (is_name_byte b) (list_all is_name_byte bs) h))

begins_so : (xs : List ℕ) → begins_with_letter xs ≡ true → Begins first.Letter xs
begins_so [] h = absurd cc
begins_so (b ∷ bs) h = ap (λ l. cond l first.Letter (cond (is_digit b) first.Digit (cond (b == 34) first.Quote (cond (b == 35) first.Hash (cond (is_blank b) first.Blank (cond (b == 10) first.LineFeed (cond (b == 13) first.Return (cond (begins_sign b) first.Sign first.Nothing)))))))) (small_letter b h)

-- what has the form of a name is a token
pub form_token : (xs after : List ℕ) → has_name_form xs ≡ true → IsGap after → IsToken token.Name xs after
form_token xs after h gap =
    let rest : list_all is_name_byte xs && nat_le (length xs) 64 ≡ true = back (begins_with_letter xs) (list_all is_name_byte xs && nat_le (length xs) 64) h in (
      begins_so xs (front (begins_with_letter xs) (list_all is_name_byte xs && nat_le (length xs) 64) h),
      (all_word xs (front (list_all is_name_byte xs) (nat_le (length xs) 64) rest), no_word after gap),
      leb-true (length xs) 64 (back (list_all is_name_byte xs) (nat_le (length xs) 64) rest),
    )

form_folded : (xs : List ℕ) → has_name_form xs ≡ true → folded xs ≡ xs
form_folded xs h = name_folded xs (front (list_all is_name_byte xs) (nat_le (length xs) 64) (back (begins_with_letter xs) (list_all is_name_byte xs && nat_le (length xs) 64) h))

-- what is none of the spellings has no entry
not_true : (b : Bool) → not b ≡ true → b ≡ false
not_true true e = absurd cc
not_true false e = refl

no_entry_by : (b : Bool) (k : Keyword) (r : Option Keyword) (rest : Bool) → b || rest ≡ false → (rest ≡ false → r ≡ None) → cond b (Some k) r ≡ None
no_entry_by true k r rest e go = absurd cc
no_entry_by false k r rest e go = go e

no_entry : (x : List ℕ) (table : List (List ℕ × Keyword)) → list_any (bytes_eq x) (map (λ (e : List ℕ × Keyword). e.0) table) ≡ false → entry_of table x ≡ None
no_entry x [] e = refl
no_entry x (k ∷ table) e = no_entry_by (bytes_eq x k.0) k.1 (entry_of table x) (list_any (bytes_eq x) (map (λ (e : List ℕ × Keyword). e.0) table)) e (no_entry x table)

pub name_says : (x : List ℕ) → IsTrue (is_name x) → symbol_of token.Name x ≡ Name x
name_says x h =
    let form = front (has_name_form x) (not (is_reserved x)) h in
    ap (λ y. name_or_key y (entry_of keywords y)) (form_folded x form)
    ∙ ap (name_or_key x) (no_entry x keywords (not_true (is_reserved x) (back (has_name_form x) (not (is_reserved x)) h)))

-- the reserved words
pub key_form : (k : Keyword) → has_name_form (key_spelling k) ≡ true
key_form key.Sial = refl
key_form key.EndSial = refl
key_form key.AoIndex = refl
key_form key.MoIndex = refl
key_form key.MoaIndex = refl
key_form key.MobIndex = refl
key_form key.Index = refl
key_form key.SubIndex = refl
key_form key.Of = refl
key_form key.Scalar = refl
key_form key.Static = refl
key_form key.Temp = refl
key_form key.Local = refl
key_form key.Distributed = refl
key_form key.Served = refl
key_form key.Proc = refl
key_form key.EndProc = refl
key_form key.Do = refl
key_form key.In = refl
key_form key.EndDo = refl
key_form key.Pardo = refl
key_form key.Where = refl
key_form key.EndPardo = refl
key_form key.If = refl
key_form key.Else = refl
key_form key.EndIf = refl
key_form key.Call = refl
key_form key.Get = refl
key_form key.Put = refl
key_form key.Request = refl
key_form key.Prepare = refl
key_form key.Create = refl
key_form key.Delete = refl
key_form key.Allocate = refl
key_form key.Deallocate = refl
key_form key.Collective = refl
key_form key.SipBarrier = refl
key_form key.ServerBarrier = refl
key_form key.Print = refl
key_form key.Execute = refl
key_form key.PrintScalar = refl
key_form key.ComputeIntegrals = refl

key_entry : (k : Keyword) → entry_of keywords (key_spelling k) ≡ Some k
key_entry key.Sial = refl
key_entry key.EndSial = refl
key_entry key.AoIndex = refl
key_entry key.MoIndex = refl
key_entry key.MoaIndex = refl
key_entry key.MobIndex = refl
key_entry key.Index = refl
key_entry key.SubIndex = refl
key_entry key.Of = refl
key_entry key.Scalar = refl
key_entry key.Static = refl
key_entry key.Temp = refl
key_entry key.Local = refl
key_entry key.Distributed = refl
key_entry key.Served = refl
key_entry key.Proc = refl
key_entry key.EndProc = refl
key_entry key.Do = refl
key_entry key.In = refl
key_entry key.EndDo = refl
key_entry key.Pardo = refl
key_entry key.Where = refl
key_entry key.EndPardo = refl
key_entry key.If = refl
key_entry key.Else = refl
key_entry key.EndIf = refl
key_entry key.Call = refl
key_entry key.Get = refl
key_entry key.Put = refl
key_entry key.Request = refl
key_entry key.Prepare = refl
key_entry key.Create = refl
key_entry key.Delete = refl
key_entry key.Allocate = refl
key_entry key.Deallocate = refl
key_entry key.Collective = refl
key_entry key.SipBarrier = refl
key_entry key.ServerBarrier = refl
key_entry key.Print = refl
key_entry key.Execute = refl
key_entry key.PrintScalar = refl
key_entry key.ComputeIntegrals = refl

pub key_says : (k : Keyword) → symbol_of token.Name (key_spelling k) ≡ Key k
key_says k = ap (λ y. name_or_key y (entry_of keywords y)) (form_folded (key_spelling k) (key_form k)) ∙ ap (name_or_key (key_spelling k)) (key_entry k)
