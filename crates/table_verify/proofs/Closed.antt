-- What was read from the front of code and texts: closing instructions and names.
use Rattle.std.proofs.Common.{◌≡◌, ℕ, ◌+◌, List, [], ◌∷◌, Bool, true, false, ◌&&◌, ◌==◌, cond, Option, Some, None, refl, ap, subst, ◌∙◌}
use Rattle.std.proofs.lemmas.Bool.{eqb-true}
use Rattle.sip_tables.specs.Code.{instruction}
use Rattle.sip_tables.specs.declared.instruction.Instruction.{Instruction}
use Rattle.sip_tables.specs.declared.instruction.Operation.{Operation}
use Rattle.sip_tables.specs.declared.instruction.Operation.TheVariants as op
use Rattle.table_verify.specs.Rest.{Left, next, next_of, text, text_of, numbered, ◌>>=◌}
use Rattle.table_verify.specs.Closings.{ends_do, ends_pardo, ends_if, stops, returns_from, closed, end_do, end_pardo, end_if, stop, return_from}

-- ---- steps of a reading

-- a step behind another one
pub then_some : {A B : Type 0} (G : Type 0) (r : Option A) (f : A → Option B) (y : B) → (r >>= f) ≡ Some y → ((x : A) → r ≡ Some x → f x ≡ Some y → G) → G
then_some G None f y e go = absurd cc
then_some G (Some x) f y e go = go x refl e

-- a value that was kept by a test
pub kept : {A : Type 0} (G : Type 0) (b : Bool) (x y : A) → cond b (Some x) None ≡ Some y → (b ≡ true → x ≡ y → G) → G
kept G true x y e go = let same : x ≡ y = cc in go refl same
kept G false x y e go = absurd cc

-- two tests that both hold
pub both : (a b : Bool) → (a && b) ≡ true → (a ≡ true) × (b ≡ true)
both true b e = (refl, e)
both false b e = absurd cc

-- ---- what was taken

-- an instruction was taken from the front
pub record Takes (i : Instruction) (old new : Left) : Type 0 where
  pub code : old.code ≡ i ∷ new.code
  pub at : new.at ≡ old.at + 1
  pub texts : old.texts ≡ new.texts
  pub text : new.text ≡ old.text

-- a text was taken from the front
pub record TakesText (t : List ℕ) (old new : Left) : Type 0 where
  pub code : old.code ≡ new.code
  pub at : new.at ≡ old.at
  pub texts : old.texts ≡ t ∷ new.texts
  pub text : new.text ≡ old.text + 1

taken_of : (left : Left) (code : List Instruction) (x : Instruction) (new : Left) → left.code ≡ code → next_of left code ≡ Some (x, new) → Takes x left new
taken_of left [] x new is e = absurd cc
taken_of left (i ∷ rest) x new is e =
    let p : ◌≡◌ {A = Instruction × Left} (i, record left { at = left.at + 1; code = rest }) (x, new) = cc in
    subst (λ (q : Instruction × Left). Takes q.0 left q.1) p (record { code = is; at = refl; texts = refl; text = refl })

pub taken : (left : Left) (x : Instruction) (new : Left) → next left ≡ Some (x, new) → Takes x left new
taken left x new e = taken_of left left.code x new refl e

text_taken_of : (left : Left) (texts : List (List ℕ)) (x : List ℕ) (new : Left) → left.texts ≡ texts → text_of left texts ≡ Some (x, new) → TakesText x left new
text_taken_of left [] x new is e = absurd cc
text_taken_of left (t ∷ rest) x new is e =
    let p : ◌≡◌ {A = List ℕ × Left} (t, record left { text = left.text + 1; texts = rest }) (x, new) = cc in
    subst (λ (q : List ℕ × Left). TakesText q.0 left q.1) p (record { code = refl; at = refl; texts = is; text = refl })

pub text_taken : (left : Left) (x : List ℕ) (new : Left) → text left ≡ Some (x, new) → TakesText x left new
text_taken left x new e = text_taken_of left left.texts x new refl e

-- the text of this number was taken
numbered_by : (number : ℕ) (left : Left) (b : Bool) (x : List ℕ) (new : Left) → (number == left.text) ≡ b → cond b (text left) None ≡ Some (x, new) → (number ≡ left.text) × TakesText x left new
numbered_by number left true x new is e = (eqb-true number left.text is, text_taken left x new e)
numbered_by number left false x new is e = absurd cc

pub numbered_taken : (number : ℕ) (left : Left) (x : List ℕ) (new : Left) → numbered number left ≡ Some (x, new) → (number ≡ left.text) × TakesText x left new
unfolding numbered
numbered_taken number left x new e = numbered_by number left (number == left.text) x new refl e

-- ---- closings

-- an instruction on a line that passed a test was taken
closed_taken : (line : ℕ) (test : Operation → Bool) (o : Operation) (left new : Left) → ((p : Operation) → test p ≡ true → p ≡ o) → closed line test left ≡ Some new → Takes (instruction line o) left new
closed_taken line test o left new is e =
    then_some (Takes (instruction line o) left new) (next left) (λ x. cond ((x.0.line == line) && test x.0.operation) (Some x.1) None) new e
    (λ x first rest. kept (Takes (instruction line o) left new) ((x.0.line == line) && test x.0.operation) x.1 new rest
    (λ holds same.
    let h = both (x.0.line == line) (test x.0.operation) holds in
    let where_is : x.0.line ≡ line = eqb-true x.0.line line h.0 in
    let what : x.0.operation ≡ o = is x.0.operation h.1 in
    let whole : x.0 ≡ instruction line o = ap (λ (l : ℕ). instruction l x.0.operation) where_is ∙ ap (λ (p : Operation). instruction line p) what in
    subst (λ (i : Instruction). Takes i left new) whole (subst (λ (l : Left). Takes x.0 left l) same (taken left x.0 x.1 first))))

is_end_do : (head : ℕ) (o : Operation) → ends_do head o ≡ true → o ≡ op.EndDo head
is_end_do head (op.EndDo to) e = ap op.EndDo (eqb-true to head e)
is_end_do head _ e = absurd cc

is_end_pardo : (head : ℕ) (o : Operation) → ends_pardo head o ≡ true → o ≡ op.EndPardo head
is_end_pardo head (op.EndPardo to) e = ap op.EndPardo (eqb-true to head e)
is_end_pardo head _ e = absurd cc

is_end_if : (o : Operation) → ends_if o ≡ true → o ≡ op.EndIf
is_end_if op.EndIf e = refl
is_end_if _ e = absurd cc

is_stop : (o : Operation) → stops o ≡ true → o ≡ op.Stop
is_stop op.Stop e = refl
is_stop _ e = absurd cc

is_return : (o : Operation) → returns_from o ≡ true → o ≡ op.Return
is_return op.Return e = refl
is_return _ e = absurd cc

pub end_do_taken : (line head : ℕ) (left new : Left) → end_do line head left ≡ Some new → Takes (instruction line (op.EndDo head)) left new
unfolding end_do
end_do_taken line head left new e = closed_taken line (ends_do head) (op.EndDo head) left new (is_end_do head) e

pub end_pardo_taken : (line head : ℕ) (left new : Left) → end_pardo line head left ≡ Some new → Takes (instruction line (op.EndPardo head)) left new
unfolding end_pardo
end_pardo_taken line head left new e = closed_taken line (ends_pardo head) (op.EndPardo head) left new (is_end_pardo head) e

pub end_if_taken : (line : ℕ) (left new : Left) → end_if line left ≡ Some new → Takes (instruction line op.EndIf) left new
unfolding end_if
end_if_taken line left new e = closed_taken line ends_if op.EndIf left new is_end_if e

pub stop_taken : (left new : Left) → stop left ≡ Some new → Takes (instruction 0 op.Stop) left new
unfolding stop
stop_taken left new e = closed_taken 0 stops op.Stop left new is_stop e

pub return_taken : (left new : Left) → return_from left ≡ Some new → Takes (instruction 0 op.Return) left new
unfolding return_from
return_taken left new e = closed_taken 0 returns_from op.Return left new is_return e
