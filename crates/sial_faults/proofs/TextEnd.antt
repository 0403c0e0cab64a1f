-- The end of the text is due last.
use Rattle.std.proofs.Common.{◌≡◌, ℕ, List, [], ◌∷◌, ◌++◌, Bool, true, false, cond, Option, Some, None, refl, sym, ap, ◌∙◌, subst}
use Rattle.std.specs.Prelude.{codes}
use Rattle.std.specs.Str.{bytes_eq}
use Rattle.sial_syntax.specs.Limits.{most_nesting, most_rank}
use Rattle.sial_parser.specs.Grammar.{opens, ends_body, is_where, begins_proc, begins_declaration}
use Rattle.sial_parser.specs.Parsing.{is_line_end, is_end, is_some, bin_of, op_of, test_of}
use Rattle.sial_parser.specs.declared.keyword.Keyword.{Keyword}
use Rattle.sial_parser.specs.declared.keyword.Keyword.TheVariants as key
use Rattle.sial_parser.specs.declared.sign.Sign.TheVariants as sign
use Rattle.sial_parser.specs.declared.word.Symbol.{Symbol}
use Rattle.sial_parser.specs.declared.word.Symbol.TheVariants.{Key, Name, Number, Quoted, LineEnd, End}
use Rattle.sial_parser.specs.declared.word.Symbol.TheVariants as symbol
use Rattle.sial_faults.specs.Forms.{says, where_so, less, statement, ended, stays, after_body, after_procedures, declaration, after_new, after_assign, after_bin_or_end, after, AreParts}
use Rattle.sial_faults.specs.Parts.{Part, Fixed, sial, of, line_end, opening, equals, plus_equals, comma, Named, a_range, a_subindex, a_new_scalar, a_new_array, a_procedure, Ending, of_program, of_procedure, of_do, of_pardo, of_if, of_else}
use Rattle.sial_faults.specs.Forms as form
use Rattle.sial_faults.specs.Parts as part
use Rattle.sial_faults.proofs.Completing.{same_parts}

-- a part that stands last in a program, if at all
abbrev pub is_last : Part → Bool
is_last part.text_end = true
is_last part.title = true
is_last _ = false

-- the end of the text is due last
abbrev pub EndDueLast : List Part → Type 0
EndDueLast [] = ⊥
EndDueLast (p ∷ []) = is_last p ≡ true
EndDueLast (p ∷ q ∷ ps) = (is_last p ≡ false) × EndDueLast (q ∷ ps)

abbrev none_last : List Part → Bool
none_last [] = true
none_last (p ∷ ps) = cond (is_last p) false (none_last ps)

abbrev none_last_in : Option (List Part) → Bool
none_last_in None = true
none_last_in (Some more) = none_last more

so_none : (b : Bool) (more : List Part) → none_last more ≡ true → none_last_in (where_so b more) ≡ true
so_none true more e = e
so_none false more e = refl

one_none : (b : Bool) (x y : Option (List Part)) → none_last_in x ≡ true → none_last_in y ≡ true → none_last_in (cond b x y) ≡ true
one_none true x y e f = e
one_none false x y e f = f

stays_none : (e : Ending) (inner : ℕ) (m : Option (List Part)) → none_last_in m ≡ true → none_last_in (stays e inner m) ≡ true
stays_none e inner None h = refl
stays_none e inner (Some more) h = join_none more h
  where
    go_on : (b : Bool) (xs ys : List Part) → (none_last xs ≡ true → none_last ys ≡ true) → cond b false (none_last xs) ≡ true → cond b false (none_last ys) ≡ true
    go_on true xs ys k e = e
    go_on false xs ys k e = k e

    join_none : (a : List Part) → none_last a ≡ true → none_last (a ++ part.body e inner ∷ []) ≡ true
    join_none [] h = refl
    join_none (q ∷ qs) h = go_on (is_last q) qs (qs ++ part.body e inner ∷ []) (join_none qs) h

ended_none : (e : Ending) (inner : ℕ) (what : Symbol) → none_last_in (ended e inner what) ≡ true
ended_none of_program inner (Key key.EndSial) = refl
ended_none of_procedure inner (Key key.EndProc) = refl
ended_none of_do inner (Key key.EndDo) = refl
ended_none of_pardo inner (Key key.EndPardo) = refl
ended_none of_if inner (Key key.Else) = refl
ended_none of_if inner (Key key.EndIf) = refl
ended_none of_else inner (Key key.EndIf) = refl
ended_none _ inner _ = refl

statement_none : (inner : ℕ) (what : Symbol) → none_last_in (statement inner what) ≡ true
statement_none inner (Name x) = refl
statement_none inner (Key key.Do) = refl
statement_none inner (Key key.Pardo) = refl
statement_none inner (Key key.If) = refl
statement_none inner (Key _) = refl
statement_none inner _ = refl

body_none : (e : Ending) (inner : ℕ) (what : Symbol) → none_last_in (after_body e inner what) ≡ true
body_none e inner what = one_none (ends_body what) (ended e inner what) (stays e inner (statement (less inner) what)) (ended_none e inner what) (stays_none e inner (statement (less inner) what) (statement_none (less inner) what))

procedures_none : (what : Symbol) → none_last_in (after_procedures what) ≡ true
procedures_none what = one_none (begins_proc what) (Some (part.new a_procedure ∷ part.procedures ∷ [])) (after_body of_program most_nesting what) refl (body_none of_program most_nesting what)

declaration_none : (what : Symbol) → none_last (declaration what ++ part.declarations ∷ []) ≡ true
declaration_none (Key k) = by_key k
  where
    by_key : (k : Keyword) → none_last (declaration (Key k) ++ part.declarations ∷ []) ≡ true
    by_key key.SubIndex = refl
    by_key _ = refl
declaration_none _ = refl

named_none : (named : Named) (x : List ℕ) → none_last (after_new named x) ≡ true
named_none a_range x = refl
named_none a_subindex x = refl
named_none a_new_scalar x = refl
named_none a_new_array x = refl
named_none a_procedure x = refl

bin_none : (what : Symbol) → none_last_in (after_bin_or_end what) ≡ true
bin_none what = one_none (is_some (bin_of what)) (Some (part.operand ∷ [])) (where_so (is_line_end what) []) refl (so_none (is_line_end what) [] refl)

after_none : (p : Part) (what : Symbol) → is_last p ≡ false → none_last_in (after p what) ≡ true
after_none part.text_end what h = absurd cc
after_none part.title what h = absurd cc
after_none (part.fixed one) what h = so_none (says one what) [] refl
after_none (part.new named) (Name x) h = named_none named x
after_none (part.enters named x) what h = so_none (is_line_end what) [] refl
after_none part.test what h = so_none (is_some (test_of what)) [] refl
after_none part.access (Name x) h = so_none (bytes_eq x (codes "max")) (part.fixed equals ∷ []) refl
after_none part.assign what h = so_none (is_some (op_of what)) (part.right ∷ []) refl
after_none part.dims_or_assign what h = one_none (opens what) (Some (part.dim most_rank ∷ part.assign ∷ [])) (after_assign what) refl (so_none (is_some (op_of what)) (part.right ∷ []) refl)
after_none part.bin_or_end what h = bin_none what
after_none part.dims_or_bin what h = one_none (opens what) (Some (part.dim most_rank ∷ part.bin_or_end ∷ [])) (after_bin_or_end what) refl (bin_none what)
after_none part.dims_or_end what h = one_none (opens what) (Some (part.dim most_rank ∷ part.fixed line_end ∷ [])) (where_so (is_line_end what) []) refl (so_none (is_line_end what) [] refl)
after_none (part.body e inner) what h = body_none e inner what
after_none (part.wheres inner) what h = one_none (is_where what) (Some (form.condition (part.wheres inner ∷ []))) (after_body of_pardo inner what) refl (body_none of_pardo inner what)
after_none part.procedures what h = procedures_none what
after_none part.declarations what h = one_none (begins_declaration what) (Some (declaration what ++ part.declarations ∷ [])) (after_procedures what) (declaration_none what) (procedures_none what)
after_none (part.asked a) (Name x) h = refl
after_none part.called (Name x) h = refl
after_none part.bound (Name x) h = refl
after_none part.number (Number n) h = refl
after_none part.quoted (Quoted t) h = refl
after_none part.value (symbol.Sign sign.Minus) h = refl
after_none part.access (symbol.Sign sign.Equals) h = refl
after_none part.executed (Key key.PrintScalar) h = refl
after_none (part.dim room) (Name x) h = refl
after_none (part.dim_end room) (symbol.Sign sign.Comma) h = refl
after_none (part.slot room) (symbol.Sign sign.Times) h = refl
after_none (part.slot_end room) (symbol.Sign sign.Comma) h = refl
after_none (part.along inner room names) (Name x) h = refl
after_none (part.along_end inner room names) (symbol.Sign sign.Comma) h = refl
after_none part.right (symbol.Sign sign.Minus) h = refl
after_none part.operand (symbol.Sign sign.Minus) h = refl
after_none part.index_or_end (Name x) h = refl
after_none (part.loop inner) (Name x) h = refl
after_none part.in_or_end (Key key.In) h = refl
after_none (part.named_end x) (Name y) h = refl
after_none (part.list_end xs) (Name y) h = refl
after_none (part.list_name xs) (Name y) h = refl
after_none (part.list_more xs) (symbol.Sign sign.Comma) h = refl
after_none _ _ h = refl

push_last : (q : Part) (xs : List Part) → is_last q ≡ false → EndDueLast xs → EndDueLast (q ∷ xs)
push_last q [] e h = absurd h
push_last q (x ∷ xs) e h = (e, h)

not_first : (b c : Bool) → cond b false c ≡ true → (b ≡ false) × (c ≡ true)
not_first true c e = absurd cc
not_first false c e = (refl, e)

join_last : (more ps : List Part) → none_last more ≡ true → EndDueLast ps → EndDueLast (more ++ ps)
join_last [] ps e h = h
join_last (q ∷ qs) ps e h = let both = not_first (is_last q) (none_last qs) e in push_last q (qs ++ ps) both.0 (join_last qs ps both.1 h)

behind_last : (p : Part) (ps : List Part) → is_last p ≡ false → EndDueLast (p ∷ ps) → EndDueLast ps
behind_last p [] e h = absurd (let k : ◌≡◌ {A = Bool} false true = sym e ∙ h in cc)
behind_last p (q ∷ ps) e h = h.1

title_last : (ps : List Part) (what : Symbol) (more : List Part) → after part.title what ≡ Some more → EndDueLast (part.title ∷ ps) → EndDueLast (more ++ ps)
title_last [] (Name x) more e h = subst (λ m. EndDueLast (m ++ [])) (same_parts (part.fixed line_end ∷ part.declarations ∷ part.named_end x ∷ part.text_end ∷ []) more e) (refl, (refl, (refl, refl)))
title_last [] _ more e h = absurd cc
title_last (q ∷ ps) what more e h = absurd (let k : ◌≡◌ {A = Bool} true false = h.0 in cc)

not_end_last : (b : Bool) (more ps : List Part) → b ≡ false → where_so b [] ≡ Some more → EndDueLast (more ++ ps)
not_end_last false more ps f e = absurd cc
not_end_last true more ps f e = absurd (let k : ◌≡◌ {A = Bool} true false = f in cc)

-- what is due behind a word that isn't the end of the text
pub after_last : (p : Part) (ps : List Part) (what : Symbol) (more : List Part) → after p what ≡ Some more → is_end what ≡ false → EndDueLast (p ∷ ps) → EndDueLast (more ++ ps)
after_last part.text_end ps what more e f h = not_end_last (is_end what) more ps f e
after_last part.title ps what more e f h = title_last ps what more e h
after_last p ps what more e f h = join_last more ps (sym (ap none_last_in e) ∙ after_none p what refl) (behind_last p ps refl h)

-- where the end of the text may stand, nothing else is due
pub end_last : (p : Part) (ps : List Part) (what : Symbol) (more : List Part) → is_end what ≡ true → after p what ≡ Some more → EndDueLast (p ∷ ps) → more ++ ps ≡ []
end_last part.text_end [] End more f e h = ap (λ m. m ++ []) (sym (same_parts [] more e))
end_last part.text_end (q ∷ ps) End more f e h = absurd (let k : ◌≡◌ {A = Bool} true false = h.0 in cc)
end_last (part.fixed line_end) ps End more f e h = absurd cc
end_last p ps End more f e h = absurd cc
end_last p ps _ more f e h = absurd cc
