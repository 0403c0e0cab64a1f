-- What is compared at the ends of statements is what outlines tell.
use Rattle.std.proofs.Common.{◌≡◌, ◌⊎◌, inl, inr, ℕ, zero, suc, ◌+◌, ◌≤◌, List, [], ◌∷◌, ◌++◌, Bool, true, false, ◌==◌, cond, min, Option, Some, None, refl, sym, ap, subst, ◌∙◌, arith}
use Rattle.std.proofs.lemmas.Bool.{eqb-true, eq-eqb}
use Rattle.sip_tables.specs.declared.instruction.Instruction.{Instruction}
use Rattle.sip_tables.specs.declared.instruction.Operation.{Operation}
use Rattle.sip_tables.specs.declared.instruction.Operation.TheVariants as op
use Rattle.table_verify.specs.declared.jump.Head.{Head}
use Rattle.table_verify.specs.Jumping.{Compared, closed, looped, compared, around, turned, heads_after, all_compared, lesser, with_one, first_wrong}
use Rattle.table_verify.specs.Jumps.{Jump, jump, jumps, IsIn}
use Rattle.table_verify.specs.Outline.{role, outline}
use Rattle.table_verify.proofs.InLemmas.{in_left, in_right, in_either, case}
use Rattle.table_verify.proofs.JumpEnds.{leap, told, open_after, all_told}

-- ---- what is compared is told

abbrev pub numbers : List Head → List ℕ
numbers [] = []
numbers (h ∷ heads) = h.at ∷ numbers heads

abbrev pub right : Compared → Jump
right c = leap c.at c.right

abbrev pub written : Compared → Jump
written c = leap c.at c.written

abbrev pub rights : List Compared → List Jump
rights [] = []
rights (c ∷ cs) = right c ∷ rights cs

rights_append : (xs ys : List Compared) → rights (xs ++ ys) ≡ rights xs ++ rights ys
rights_append [] ys = refl
rights_append (x ∷ xs) ys = ap (λ (js : List Jump). right x ∷ js) (rights_append xs ys)

one_told : (place : ℕ) (o : Operation) (heads : List Head) → rights (compared place o heads) ≡ told place (role o) (numbers heads)
one_told place (op.EndDo to) [] = refl
one_told place (op.EndDo to) (h ∷ heads) = refl
one_told place (op.EndPardo to) [] = refl
one_told place (op.EndPardo to) (h ∷ heads) = refl
one_told place (op.Else past) [] = refl
one_told place (op.Else past) (h ∷ heads) = refl
one_told place op.EndIf [] = refl
one_told place op.EndIf (h ∷ heads) = refl
one_told place _ heads = refl

one_open : (place : ℕ) (o : Operation) (heads : List Head) → numbers (heads_after place o heads) ≡ open_after place (role o) (numbers heads)
one_open place (op.EndDo to) [] = refl
one_open place (op.EndDo to) (h ∷ heads) = refl
one_open place (op.EndPardo to) [] = refl
one_open place (op.EndPardo to) (h ∷ heads) = refl
one_open place (op.Else past) [] = refl
one_open place (op.Else past) (h ∷ heads) = refl
one_open place op.EndIf [] = refl
one_open place op.EndIf (h ∷ heads) = refl
one_open place _ heads = refl

pub compared_told : (place : ℕ) (heads : List Head) (code : List Instruction) → rights (all_compared place heads code) ≡ all_told place (numbers heads) (outline code)
compared_told place heads [] = refl
compared_told place heads (i ∷ code) =
    let o = i.operation in
    let rest = all_compared (place + 1) (heads_after place o heads) code in
    rights_append (compared place o heads) rest
    ∙ ap (λ (js : List Jump). js ++ rights rest) (one_told place o heads)
    ∙ ap (λ (js : List Jump). told place (role o) (numbers heads) ++ js) (compared_told (place + 1) (heads_after place o heads) code
    ∙ ap (λ (ns : List ℕ). all_told (place + 1) ns (outline code)) (one_open place o heads))

-- ---- what was written

-- heads have jumps that are among these
abbrev pub HeadsIn : List Jump → List Head → Type 0
HeadsIn js [] = Unit {0}
HeadsIn js (h ∷ heads) = IsIn (leap h.at h.reach) js × HeadsIn js heads

-- the jumps of an instruction are among these
abbrev Has : List Jump → (place : ℕ) → Operation → Type 0
Has js place o = (x : Jump) → IsIn x (jump place o) → IsIn x js

closed_written : (js : List Jump) (place : ℕ) (heads : List Head) (c : Compared) → HeadsIn js heads → IsIn c (closed place heads) → IsIn (written c) js
closed_written js place [] c h i = absurd i
closed_written js place (x ∷ heads) c h (inl e) = subst (λ (d : Compared). IsIn (written d) js) (sym e) h.0
closed_written js place (x ∷ heads) c h (inr i) = absurd i

looped_written : (js : List Jump) (place to : ℕ) (heads : List Head) (c : Compared) → HeadsIn js heads → IsIn (leap place to) js → IsIn c (looped place to heads) → IsIn (written c) js
looped_written js place to [] c h t i = absurd i
looped_written js place to (x ∷ heads) c h t (inl e) = subst (λ (d : Compared). IsIn (written d) js) (sym e) h.0
looped_written js place to (x ∷ heads) c h t (inr (inl e)) = subst (λ (d : Compared). IsIn (written d) js) (sym e) t
looped_written js place to (x ∷ heads) c h t (inr (inr i)) = absurd i

one_written : (js : List Jump) (place : ℕ) (o : Operation) (heads : List Head) (c : Compared) → HeadsIn js heads → Has js place o → IsIn c (compared place o heads) → IsIn (written c) js
one_written js place (op.EndDo to) heads c h has i = looped_written js place to heads c h (has (leap place to) (inl refl)) i
one_written js place (op.EndPardo to) heads c h has i = looped_written js place to heads c h (has (leap place to) (inl refl)) i
one_written js place (op.Else past) heads c h has i = closed_written js place heads c h i
one_written js place op.EndIf heads c h has i = closed_written js place heads c h i
one_written js place _ heads c h has i = absurd i

around_in : (js : List Jump) (heads : List Head) → HeadsIn js heads → HeadsIn js (around heads)
around_in js [] h = tt
around_in js (x ∷ heads) h = h.1

turned_in : (js : List Jump) (place past : ℕ) (heads : List Head) → HeadsIn js heads → IsIn (leap place past) js → HeadsIn js (turned place past heads)
turned_in js place past [] h t = tt
turned_in js place past (x ∷ heads) h t = (t, h.1)

heads_in : (js : List Jump) (place : ℕ) (o : Operation) (heads : List Head) → HeadsIn js heads → Has js place o → HeadsIn js (heads_after place o heads)
heads_in js place (op.Do index past) heads h has = (has (leap place past) (inl refl), h)
heads_in js place (op.DoIn sub index past) heads h has = (has (leap place past) (inl refl), h)
heads_in js place (op.If test otherwise) heads h has = (has (leap place otherwise) (inl refl), h)
heads_in js place (op.Pardo indices end) heads h has = (has (leap place (end + 1)) (inl refl), h)
heads_in js place (op.Else past) heads h has = turned_in js place past heads h (has (leap place past) (inl refl))
heads_in js place (op.EndDo to) heads h has = around_in js heads h
heads_in js place (op.EndPardo to) heads h has = around_in js heads h
heads_in js place op.EndIf heads h has = around_in js heads h
heads_in js place _ heads h has = h

pub all_written : (js : List Jump) (place : ℕ) (heads : List Head) (code : List Instruction) (c : Compared) → HeadsIn js heads → ((x : Jump) → IsIn x (jumps place code) → IsIn x js) → IsIn c (all_compared place heads code) → IsIn (written c) js
all_written js place heads [] c h has i = absurd i
all_written js place heads (x ∷ code) c h has i =
    let here : Has js place x.operation = λ y k. has y (in_left y (jump place x.operation) (jumps (place + 1) code) k) in
    case (IsIn (written c) js) (in_either c (compared place x.operation heads) (all_compared (place + 1) (heads_after place x.operation heads) code) i)
    (λ l. one_written js place x.operation heads c h here l)
    (λ r. all_written js (place + 1) (heads_after place x.operation heads) code c (heads_in js place x.operation heads h here) (λ y k. has y (in_right y (jump place x.operation) (jumps (place + 1) code) k)) r)

-- ---- the first that is wrong

-- a number that was found is no greater than this one
abbrev pub Under : Option ℕ → ℕ → Type 0
Under None n = ⊥
Under (Some w) n = w ≤ n

under_one : (b : Bool) (place n : ℕ) (wrong : Option ℕ) → Under wrong n → Under (cond b wrong (Some (lesser place wrong))) n
under_one true place n wrong u = u
under_one false place n None u = absurd u
under_one false place n (Some w) u = let least : min place w ≤ w = omega arith in omega (arith, least, u)

under_all : (cs : List Compared) (wrong : Option ℕ) (n : ℕ) → Under wrong n → Under (first_wrong wrong cs) n
under_all [] wrong n u = u
under_all (c ∷ cs) wrong n u = under_all cs (with_one c wrong) n (under_one (c.written == c.right) c.at n wrong u)

right_or_under : (b : Bool) (c : Compared) (wrong : Option ℕ) → (c.written == c.right) ≡ b → (c.written ≡ c.right) ⊎ Under (cond b wrong (Some (lesser c.at wrong))) c.at
right_or_under true c wrong e = inl (eqb-true c.written c.right e)
right_or_under false c None e = inr (omega arith)
right_or_under false c (Some w) e = let least : min c.at w ≤ c.at = omega arith in inr least

pub covers : (cs : List Compared) (wrong : Option ℕ) (c : Compared) → IsIn c cs → (c.written ≡ c.right) ⊎ Under (first_wrong wrong cs) c.at
covers [] wrong c i = absurd i
covers (d ∷ cs) wrong c (inl e) =
    case ((c.written ≡ c.right) ⊎ Under (first_wrong (with_one d wrong) cs) c.at) (right_or_under (d.written == d.right) d wrong refl)
    (λ r. inl (subst (λ (x : Compared). x.written ≡ x.right) (sym e) r))
    (λ u. inr (under_all cs (with_one d wrong) c.at (subst (λ (x : Compared). Under (with_one d wrong) x.at) (sym e) u)))
covers (d ∷ cs) wrong c (inr i) = covers cs (with_one d wrong) c i

-- something wrong that was compared
pub record Wrong (cs : List Compared) (w : ℕ) : Type 0 where
  pub one : Compared
  pub among : IsIn one cs
  pub place : one.at ≡ w
  pub other : one.written ≡ one.right → ⊥

not_same : (c : Compared) → (c.written == c.right) ≡ false → c.written ≡ c.right → ⊥
not_same c e s = let yes = eq-eqb c.written c.right s in absurd cc

one_found : (b : Bool) (c : Compared) (wrong : Option ℕ) (w : ℕ) → (c.written == c.right) ≡ b → cond b wrong (Some (lesser c.at wrong)) ≡ Some w → (wrong ≡ Some w) ⊎ Wrong (c ∷ []) w
one_found true c wrong w e f = inl f
one_found false c None w e f = inr (record { one = c; among = inl refl; place = cc; other = not_same c e })
one_found false c (Some v) w e f = of_two (leq_case c.at v) f
  where
    leq_case : (a v : ℕ) → (min a v ≡ a) ⊎ (min a v ≡ v)
    leq_case zero v = inl (omega arith)
    leq_case (suc a) zero = inr (omega arith)
    leq_case (suc a) (suc v) = case ((min (suc a) (suc v) ≡ suc a) ⊎ (min (suc a) (suc v) ≡ suc v)) (leq_case a v) (λ l. inl (omega (arith, l))) (λ r. inr (omega (arith, r)))

    some_is : {m n : ℕ} → Some m ≡ Some n → m ≡ n
    some_is e = cc

    of_two : (min c.at v ≡ c.at) ⊎ (min c.at v ≡ v) → Some (min c.at v) ≡ Some w → (Some v ≡ Some w) ⊎ Wrong (c ∷ []) w
    of_two (inl l) g = inr (record { one = c; among = inl refl; place = sym l ∙ some_is g; other = not_same c e })
    of_two (inr r) g = inl (ap (λ (n : ℕ). Some n) (sym r) ∙ g)

wrong_more : (c : Compared) (cs : List Compared) (w : ℕ) → Wrong (c ∷ []) w → Wrong (c ∷ cs) w
wrong_more c cs w x = record { one = x.one; among = in_left x.one (c ∷ []) cs x.among; place = x.place; other = x.other }

pub found_wrong : (cs : List Compared) (wrong : Option ℕ) (w : ℕ) → first_wrong wrong cs ≡ Some w → (wrong ≡ Some w) ⊎ Wrong cs w
found_wrong [] wrong w e = inl e
found_wrong (c ∷ cs) wrong w e =
    case ((wrong ≡ Some w) ⊎ Wrong (c ∷ cs) w) (found_wrong cs (with_one c wrong) w e)
    (λ f. case ((wrong ≡ Some w) ⊎ Wrong (c ∷ cs) w) (one_found (c.written == c.right) c wrong w refl f) (λ g. inl g) (λ x. inr (wrong_more c cs w x)))
    (λ x. inr (record { one = x.one; among = inr x.among; place = x.place; other = x.other }))
