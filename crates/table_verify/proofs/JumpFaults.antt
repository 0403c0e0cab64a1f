-- The first wrong jump of tables.
use Rattle.std.proofs.Common.{◌≡◌, ◌⊎◌, inl, inr, ℕ, zero, suc, ◌+◌, ◌≤◌, ◌<◌, List, [], ◌∷◌, ◌++◌, length, take, drop, Option, Some, None, refl, sym, ap, subst, ◌∙◌, arith, append_assoc}
use Rattle.std.proofs.lemmas.List.{take-append-drop, length-take-le, length-map, take-map, take-take}
use Rattle.sial_syntax.specs.Tree.{Tree}
use Rattle.sip_tables.specs.declared.instruction.Instruction.{Instruction}
use Rattle.sip_tables.specs.declared.instruction.Operation.{Operation}
use Rattle.sip_tables.specs.declared.instruction.Operation.TheVariants as op
use Rattle.sip_tables.specs.Flatten.{flatten}
use Rattle.sip_tables.specs.Lists.{Lists}
use Rattle.table_verify.specs.Faults.{Agrees, Begins, NestAt, Nests}
use Rattle.table_verify.specs.JumpFaults.{IsFront, JumpIsOther, IsFirst}
use Rattle.table_verify.specs.Jumping.{Compared, all_compared, first_wrong}
use Rattle.table_verify.specs.Jumps.{Jump, jump, jumps, IsIn}
use Rattle.table_verify.specs.Outline.{Role, Alone, Loop, Pardo, Branch, Test, Other, EndLoop, EndPardo, EndBranch, EndProgram, EndProcedure, Mark, mark, outline}
use Rattle.table_verify.proofs.InLemmas.{in_left, in_either, case}
use Rattle.table_verify.proofs.JumpEnds.{leap, told, open_after, all_told, jumps_append, told_same}
use Rattle.table_verify.proofs.JumpWalk.{right, written, rights, compared_told, all_written, Under, covers, found_wrong}

-- ---- where told jumps lie

reach_is : (x : Jump) (place reach : ℕ) → x ≡ leap place reach → x.reach ≡ reach
reach_is x place reach e = ap (λ (y : Jump). y.reach) e

place_is : (x : Jump) (place reach : ℕ) → x ≡ leap place reach → x.at ≡ place
place_is x place reach e = ap (λ (y : Jump). y.at) e

-- a jump that is told from here on reaches further than what stands before, or stands here itself
abbrev From : ℕ → Jump → Type 0
From place x = (place ≤ x.at) ⊎ (place < x.reach)

head_from : (x : Jump) (place h : ℕ) → x ≡ leap h (place + 1) → From place x
head_from x place h e = let r = reach_is x h (place + 1) e in inr (omega (arith, r))

end_from : (x : Jump) (place h : ℕ) → x ≡ leap place h → From place x
end_from x place h e = let r = place_is x place h e in inl (omega (arith, r))

here_from : (place : ℕ) (r : Role) (heads : List ℕ) (x : Jump) → IsIn x (told place r heads) → From place x
here_from place EndLoop (h ∷ heads) x (inl e) = head_from x place h e
here_from place EndLoop (h ∷ heads) x (inr (inl e)) = end_from x place h e
here_from place EndLoop (h ∷ heads) x (inr (inr e)) = absurd e
here_from place EndPardo (h ∷ heads) x (inl e) = head_from x place h e
here_from place EndPardo (h ∷ heads) x (inr (inl e)) = end_from x place h e
here_from place EndPardo (h ∷ heads) x (inr (inr e)) = absurd e
here_from place Other (h ∷ heads) x (inl e) = head_from x place h e
here_from place Other (h ∷ heads) x (inr e) = absurd e
here_from place EndBranch (h ∷ heads) x (inl e) = head_from x place h e
here_from place EndBranch (h ∷ heads) x (inr e) = absurd e
here_from place EndLoop [] x i = absurd i
here_from place EndPardo [] x i = absurd i
here_from place Other [] x i = absurd i
here_from place EndBranch [] x i = absurd i
here_from place Alone heads x i = absurd i
here_from place Loop heads x i = absurd i
here_from place Pardo heads x i = absurd i
here_from place Branch heads x i = absurd i
here_from place Test heads x i = absurd i
here_from place EndProgram heads x i = absurd i
here_from place EndProcedure heads x i = absurd i

later_from : (place : ℕ) (x : Jump) → From (place + 1) x → From place x
later_from place x (inl l) = inl (omega (arith, l))
later_from place x (inr r) = inr (omega (arith, r))

told_from : (place : ℕ) (heads : List ℕ) (ms : List Mark) (x : Jump) → IsIn x (all_told place heads ms) → From place x
told_from place heads [] x i = absurd i
told_from place heads (m ∷ ms) x i =
    case (From place x) (in_either x (told place m.role heads) (all_told (place + 1) (open_after place m.role heads) ms) i)
    (λ l. here_from place m.role heads x l)
    (λ r. later_from place x (told_from (place + 1) (open_after place m.role heads) ms x r))

-- heads stand before this
abbrev Below : ℕ → List ℕ → Type 0
Below place [] = Unit {0}
Below place (h ∷ heads) = (h < place) × Below place heads

below_more : (place : ℕ) (heads : List ℕ) → Below place heads → Below (place + 1) heads
below_more place [] b = tt
below_more place (h ∷ heads) b = let l = b.0 in (omega (arith, l), below_more place heads b.1)

here_below : (place : ℕ) → place < place + 1
here_below place = omega arith

below_after : (place : ℕ) (r : Role) (heads : List ℕ) → Below place heads → Below (place + 1) (open_after place r heads)
below_after place Loop heads b = (here_below place, below_more place heads b)
below_after place Pardo heads b = (here_below place, below_more place heads b)
below_after place Branch heads b = (here_below place, below_more place heads b)
below_after place Other (h ∷ heads) b = (here_below place, below_more place heads b.1)
below_after place EndLoop (h ∷ heads) b = below_more place heads b.1
below_after place EndPardo (h ∷ heads) b = below_more place heads b.1
below_after place EndBranch (h ∷ heads) b = below_more place heads b.1
below_after place Other [] b = tt
below_after place EndLoop [] b = tt
below_after place EndPardo [] b = tt
below_after place EndBranch [] b = tt
below_after place Alone heads b = below_more place heads b
below_after place Test heads b = below_more place heads b
below_after place EndProgram heads b = below_more place heads b
below_after place EndProcedure heads b = below_more place heads b

-- a jump that is told stands and reaches within
abbrev pub Within : ℕ → Jump → Type 0
Within end x = (x.at < end) × (x.reach ≤ end)

head_within : (x : Jump) (place h : ℕ) → h < place → x ≡ leap h (place + 1) → Within (place + 1) x
head_within x place h l e = let r = reach_is x h (place + 1) e in let a = place_is x h (place + 1) e in (omega (arith, l, a), omega (arith, r))

end_within : (x : Jump) (place h : ℕ) → h < place → x ≡ leap place h → Within (place + 1) x
end_within x place h l e = let r = reach_is x place h e in let a = place_is x place h e in (omega (arith, a), omega (arith, r, l))

here_within : (place : ℕ) (r : Role) (heads : List ℕ) (x : Jump) → Below place heads → IsIn x (told place r heads) → Within (place + 1) x
here_within place EndLoop (h ∷ heads) x b (inl e) = head_within x place h b.0 e
here_within place EndLoop (h ∷ heads) x b (inr (inl e)) = end_within x place h b.0 e
here_within place EndLoop (h ∷ heads) x b (inr (inr e)) = absurd e
here_within place EndPardo (h ∷ heads) x b (inl e) = head_within x place h b.0 e
here_within place EndPardo (h ∷ heads) x b (inr (inl e)) = end_within x place h b.0 e
here_within place EndPardo (h ∷ heads) x b (inr (inr e)) = absurd e
here_within place Other (h ∷ heads) x b (inl e) = head_within x place h b.0 e
here_within place Other (h ∷ heads) x b (inr e) = absurd e
here_within place EndBranch (h ∷ heads) x b (inl e) = head_within x place h b.0 e
here_within place EndBranch (h ∷ heads) x b (inr e) = absurd e
here_within place EndLoop [] x b i = absurd i
here_within place EndPardo [] x b i = absurd i
here_within place Other [] x b i = absurd i
here_within place EndBranch [] x b i = absurd i
here_within place Alone heads x b i = absurd i
here_within place Loop heads x b i = absurd i
here_within place Pardo heads x b i = absurd i
here_within place Branch heads x b i = absurd i
here_within place Test heads x b i = absurd i
here_within place EndProgram heads x b i = absurd i
here_within place EndProcedure heads x b i = absurd i

within_more : (x : Jump) (n m : ℕ) → n ≤ m → Within n x → Within m x
within_more x n m l w = let a = w.0 in let r = w.1 in (omega (arith, l, a), omega (arith, l, r))

pub told_within : (place : ℕ) (heads : List ℕ) (ms : List Mark) (x : Jump) → Below place heads → IsIn x (all_told place heads ms) → Within (place + length ms) x
told_within place heads [] x b i = absurd i
told_within place heads (m ∷ ms) x b i =
    case (Within (place + suc (length ms)) x) (in_either x (told place m.role heads) (all_told (place + 1) (open_after place m.role heads) ms) i)
    (λ l. within_more x (place + 1) (place + suc (length ms)) (omega arith) (here_within place m.role heads x b l))
    (λ r. within_more x (place + 1 + length ms) (place + suc (length ms)) (omega arith) (told_within (place + 1) (open_after place m.role heads) ms x (below_after place m.role heads b) r))

-- the heads that are open behind marks
opens : (place : ℕ) → List ℕ → List Mark → List ℕ
opens place heads [] = heads
opens place heads (m ∷ ms) = opens (place + 1) (open_after place m.role heads) ms

told_append : (place : ℕ) (heads : List ℕ) (xs ys : List Mark) → all_told place heads (xs ++ ys) ≡ all_told place heads xs ++ all_told (place + length xs) (opens place heads xs) ys
unfolding opens
told_append place heads [] ys = let near : place ≡ place + 0 = omega arith in ap (λ (n : ℕ). all_told n heads ys) near
told_append place heads (m ∷ xs) ys =
    let next = open_after place m.role heads in
    let near : place + 1 + length xs ≡ place + suc (length xs) = omega arith in
    ap (λ (js : List Jump). told place m.role heads ++ js) (told_append (place + 1) next xs ys ∙ ap (λ (n : ℕ). all_told (place + 1) next xs ++ all_told n (opens (place + 1) next xs) ys) near)
    ∙ sym (append_assoc (told place m.role heads) (all_told (place + 1) next xs) (all_told (place + suc (length xs)) (opens (place + 1) next xs) ys))

-- ---- an instruction has one jump

one_jump : (place : ℕ) (o : Operation) (x y : Jump) → IsIn x (jump place o) → IsIn y (jump place o) → x ≡ y
one_jump place (op.Do index past) x y (inl e) (inl f) = e ∙ sym f
one_jump place (op.DoIn sub index past) x y (inl e) (inl f) = e ∙ sym f
one_jump place (op.EndDo to) x y (inl e) (inl f) = e ∙ sym f
one_jump place (op.If test otherwise) x y (inl e) (inl f) = e ∙ sym f
one_jump place (op.Else past) x y (inl e) (inl f) = e ∙ sym f
one_jump place (op.Pardo indices end) x y (inl e) (inl f) = e ∙ sym f
one_jump place (op.EndPardo to) x y (inl e) (inl f) = e ∙ sym f
one_jump place (op.Do index past) x y (inr e) j = absurd e
one_jump place (op.Do index past) x y (inl e) (inr f) = absurd f
one_jump place (op.DoIn sub index past) x y (inr e) j = absurd e
one_jump place (op.DoIn sub index past) x y (inl e) (inr f) = absurd f
one_jump place (op.EndDo to) x y (inr e) j = absurd e
one_jump place (op.EndDo to) x y (inl e) (inr f) = absurd f
one_jump place (op.If test otherwise) x y (inr e) j = absurd e
one_jump place (op.If test otherwise) x y (inl e) (inr f) = absurd f
one_jump place (op.Else past) x y (inr e) j = absurd e
one_jump place (op.Else past) x y (inl e) (inr f) = absurd f
one_jump place (op.Pardo indices end) x y (inr e) j = absurd e
one_jump place (op.Pardo indices end) x y (inl e) (inr f) = absurd f
one_jump place (op.EndPardo to) x y (inr e) j = absurd e
one_jump place (op.EndPardo to) x y (inl e) (inr f) = absurd f
one_jump place _ x y i j = absurd i

pub jump_place : (place : ℕ) (o : Operation) (x : Jump) → IsIn x (jump place o) → x.at ≡ place
jump_place place (op.Do index past) x (inl e) = place_is x place past e
jump_place place (op.DoIn sub index past) x (inl e) = place_is x place past e
jump_place place (op.EndDo to) x (inl e) = place_is x place to e
jump_place place (op.If test otherwise) x (inl e) = place_is x place otherwise e
jump_place place (op.Else past) x (inl e) = place_is x place past e
jump_place place (op.Pardo indices end) x (inl e) = place_is x place (end + 1) e
jump_place place (op.EndPardo to) x (inl e) = place_is x place to e
jump_place place (op.Do index past) x (inr e) = absurd e
jump_place place (op.DoIn sub index past) x (inr e) = absurd e
jump_place place (op.EndDo to) x (inr e) = absurd e
jump_place place (op.If test otherwise) x (inr e) = absurd e
jump_place place (op.Else past) x (inr e) = absurd e
jump_place place (op.Pardo indices end) x (inr e) = absurd e
jump_place place (op.EndPardo to) x (inr e) = absurd e
jump_place place _ x i = absurd i

pub jumps_from : (place : ℕ) (code : List Instruction) (x : Jump) → IsIn x (jumps place code) → place ≤ x.at
jumps_from place [] x i = absurd i
jumps_from place (o ∷ code) x i =
    case (place ≤ x.at) (in_either x (jump place o.operation) (jumps (place + 1) code) i)
    (λ l. let a = jump_place place o.operation x l in omega (arith, a))
    (λ r. let a = jumps_from (place + 1) code x r in omega (arith, a))

only_jump : (place : ℕ) (code : List Instruction) (x y : Jump) → IsIn x (jumps place code) → IsIn y (jumps place code) → x.at ≡ y.at → x ≡ y
only_jump place [] x y i j e = absurd i
only_jump place (o ∷ code) x y i j e =
    let here = jump place o.operation in
    let rest = jumps (place + 1) code in
    case (x ≡ y) (in_either x here rest i)
    (λ l. case (x ≡ y) (in_either y here rest j) (λ k. one_jump place o.operation x y l k)
    (λ r. let a = jump_place place o.operation x l in let b = jumps_from (place + 1) code y r in absurd (omega (arith, a, b, e))))
    (λ r. case (x ≡ y) (in_either y here rest j)
    (λ k. let a = jump_place place o.operation y k in let b = jumps_from (place + 1) code x r in absurd (omega (arith, a, b, e)))
    (λ k. only_jump (place + 1) code x y r k e))

-- ---- what is compared, and what is right

in_rights : (cs : List Compared) (c : Compared) → IsIn c cs → IsIn (right c) (rights cs)
in_rights [] c i = absurd i
in_rights (d ∷ cs) c (inl e) = inl (ap right e)
in_rights (d ∷ cs) c (inr i) = inr (in_rights cs c i)

record Of (cs : List Compared) (x : Jump) : Type 0 where
  one : Compared
  among : IsIn one cs
  is : x ≡ right one

of_rights : (cs : List Compared) (x : Jump) → IsIn x (rights cs) → Of cs x
of_rights [] x i = absurd i
of_rights (d ∷ cs) x (inl e) = record { one = d; among = inl refl; is = e }
of_rights (d ∷ cs) x (inr i) = let o = of_rights cs x i in record { one = o.one; among = inr o.among; is = o.is }

-- ---- tables

-- what begins a program's code as the tables begin, and the rest of it
module _ (t : Lists) (count : ℕ) (p : Tree) (within : count ≤ length t.code) (a : Agrees count t p) where
  pub front_is : take count (outline (flatten p).code) ≡ outline (take count t.code)
  front_is = a.front ∙ take-map mark count t.code

  pub front_long : length (outline (take count t.code)) ≡ count
  front_long = length-map (take count t.code) mark ∙ length-take-le count t.code within

  split : all_told 0 [] (outline (flatten p).code) ≡ all_told 0 [] (outline (take count t.code)) ++ all_told (0 + length (outline (take count t.code))) (opens 0 [] (outline (take count t.code))) (drop count (outline (flatten p).code))
  split =
      ap (λ (ms : List Mark). all_told 0 [] ms) (sym (take-append-drop count (outline (flatten p).code)) ∙ ap (λ (ms : List Mark). ms ++ drop count (outline (flatten p).code)) front_is)
      ∙ told_append 0 [] (outline (take count t.code)) (drop count (outline (flatten p).code))

  -- what is right is so in the program
  right_there : (c : Compared) → IsIn c (all_compared 0 [] (take count t.code)) → IsIn (right c) (jumps 0 (flatten p).code)
  right_there c i =
      let inside : IsIn (right c) (all_told 0 [] (outline (take count t.code))) = subst (λ (js : List Jump). IsIn (right c) js) (compared_told 0 [] (take count t.code)) (in_rights (all_compared 0 [] (take count t.code)) c i) in
      (told_same p).back (right c) (subst (λ (js : List Jump). IsIn (right c) js) (sym split)
      (in_left (right c) (all_told 0 [] (outline (take count t.code))) (all_told (0 + length (outline (take count t.code))) (opens 0 [] (outline (take count t.code))) (drop count (outline (flatten p).code))) inside))

  -- what the program has and these instructions tell is compared
  there_compared : (x : Jump) → x.at < count → x.reach ≤ count → IsIn x (jumps 0 (flatten p).code) → Of (all_compared 0 [] (take count t.code)) x
  there_compared x before told_by i =
      let front = outline (take count t.code) in
      let rest = all_told (0 + length front) (opens 0 [] front) (drop count (outline (flatten p).code)) in
      let all : IsIn x (all_told 0 [] front ++ rest) = subst (λ (js : List Jump). IsIn x js) split ((told_same p).there x i) in
      case (Of (all_compared 0 [] (take count t.code)) x) (in_either x (all_told 0 [] front) rest all)
      (λ l. of_rights (all_compared 0 [] (take count t.code)) x (subst (λ (js : List Jump). IsIn x js) (sym (compared_told 0 [] (take count t.code))) l))
      (λ r. let long = front_long in
      case (Of (all_compared 0 [] (take count t.code)) x) (told_from (0 + length front) (opens 0 [] front) (drop count (outline (flatten p).code)) x r)
      (λ l. absurd (omega (arith, l, before, long)))
      (λ l. absurd (omega (arith, l, told_by, long))))

-- the jumps of the first instructions are jumps of all
front_has : (t : Lists) (count : ℕ) (x : Jump) → IsIn x (jumps 0 (take count t.code)) → IsIn x (jumps 0 t.code)
front_has t count x i =
    let code = take count t.code in
    let rest = drop count t.code in
    subst (λ (is : List Instruction). IsIn x (jumps 0 is)) (take-append-drop count t.code)
    (subst (λ (js : List Jump). IsIn x js) (sym (jumps_append 0 code rest)) (in_left x (jumps 0 code) (jumps (0 + length code) rest) i))

-- what was written is a jump of the tables
written_there : (t : Lists) (count : ℕ) (c : Compared) → IsIn c (all_compared 0 [] (take count t.code)) → IsIn (written c) (jumps 0 t.code)
written_there t count c i = all_written (jumps 0 t.code) 0 [] (take count t.code) c tt (λ x k. front_has t count x k) i

some_jump : (t : Lists) (count w : ℕ) → IsFront count t → first_wrong None (all_compared 0 [] (take count t.code)) ≡ Some w → JumpIsOther w t
some_jump t count w f e =
    let cs = all_compared 0 [] (take count t.code) in
    case (JumpIsOther w t) (found_wrong cs None w e) (λ n. absurd cc)
    (λ x. let c = x.one in
    let p = f.begins.0 in
    let a = f.begins.1 in
    let inside : IsIn (right c) (all_told 0 [] (outline (take count t.code))) = subst (λ (js : List Jump). IsIn (right c) js) (compared_told 0 [] (take count t.code)) (in_rights cs c x.among) in
    let bounds = told_within 0 [] (outline (take count t.code)) (right c) tt inside in
    let long = front_long t count p f.within a in
    let low = bounds.0 in
    let far = bounds.1 in
    subst (λ (n : ℕ). JumpIsOther n t) x.place (record {
      count = count;
      front = f;
      before = omega (arith, low, long);
      program = p;
      agrees = a;
      reach = c.right;
      told = omega (arith, far, long);
      theirs = right_there t count p f.within a c x.among;
      other = λ i. x.other (ap (λ (j : Jump). j.reach) (only_jump 0 t.code (written c) (right c) (written_there t count c x.among) i refl));
    }))

-- ---- how many instructions begin a program

pub begins_less : (t : Lists) (m n : ℕ) → m ≤ n → Begins n t → Begins m t
begins_less t m n l b =
    let p = b.0 in
    let a = b.1 in (
      p,
      record {
        procedures = a.procedures;
        nested = a.nested;
        front = sym (take-take m n (outline (flatten p).code) l) ∙ (ap (λ (ms : List Mark). take m ms) a.front ∙ take-take m n (outline t.code) l);
      },
    )

of_three : (m n : ℕ) → (m < n) ⊎ ((m ≡ n) ⊎ (n < m))
of_three zero zero = inr (inl refl)
of_three zero (suc n) = inl (omega arith)
of_three (suc m) zero = inr (inr (omega arith))
of_three (suc m) (suc n) =
    case ((suc m < suc n) ⊎ ((suc m ≡ suc n) ⊎ (suc n < suc m))) (of_three m n) (λ l. inl (omega (arith, l)))
    (λ o. case ((suc m < suc n) ⊎ ((suc m ≡ suc n) ⊎ (suc n < suc m))) o (λ e. inr (inl (ap suc e))) (λ g. inr (inr (omega (arith, g)))))

not_less : (t : Lists) (m n : ℕ) → IsFront m t → IsFront n t → m < n → ⊥
not_less t m n f g l = let w = g.within in f.last (omega (arith, l, w)) (begins_less t (m + 1) n (omega (arith, l)) g.begins)

pub one_front : (t : Lists) (m n : ℕ) → IsFront m t → IsFront n t → m ≡ n
one_front t m n f g =
    case (m ≡ n) (of_three m n) (λ l. absurd (not_less t m n f g l)) (λ o. case (m ≡ n) o (λ e. e) (λ l. absurd (not_less t n m g f l)))

pub front_at : (t : Lists) (n : ℕ) → NestAt n t → n ≤ length t.code → IsFront n t
front_at t n b l = record { begins = b.0; within = l; last = λ less more. b.1 more }

pub front_all : (t : Lists) → ((p : Tree) × Nests t p) → IsFront (length t.code) t
front_all t x =
    let p = x.0 in
    let n = x.1 in
    record {
      begins = (p, record { procedures = n.procedures; nested = n.nested; front = ap (λ (ms : List Mark). take (length t.code) ms) n.all });
      within = omega arith;
      last = λ less more. absurd (omega (arith, less));
    }

-- ---- what the code's loop says of tables

under_jump : (t : Lists) (count : ℕ) → IsFront count t → (place : ℕ) → JumpIsOther place t → Under (first_wrong None (all_compared 0 [] (take count t.code))) place
under_jump t count f place y =
    let same = one_front t y.count count y.front f in
    let a : Agrees count t y.program = subst (λ (n : ℕ). Agrees n t y.program) same y.agrees in
    let x = leap place y.reach in
    let low = y.before in
    let far = y.told in
    let cs = all_compared 0 [] (take count t.code) in
    let o = there_compared t count y.program f.within a x (omega (arith, low, same)) (omega (arith, far, same)) y.theirs in
    let c = o.one in
    case (Under (first_wrong None cs) place) (covers cs None c o.among)
    (λ e. absurd (y.other (subst (λ (j : Jump). IsIn j (jumps 0 t.code)) (ap (λ (n : ℕ). leap c.at n) e ∙ sym o.is) (written_there t count c o.among))))
    (λ u. subst (λ (n : ℕ). Under (first_wrong None cs) n) (sym (ap (λ (j : Jump). j.at) o.is)) u)

pub first_of : (t : Lists) (count : ℕ) → IsFront count t → (found : Option ℕ) → found ≡ first_wrong None (all_compared 0 [] (take count t.code)) → IsFirst (λ (n : ℕ). JumpIsOther n t) found
first_of t count f None e = λ place y. subst (λ (o : Option ℕ). Under o place) (sym e) (under_jump t count f place y)
first_of t count f (Some w) e =
    (some_jump t count w f (sym e), λ place less y. let u = subst (λ (o : Option ℕ). Under o place) (sym e) (under_jump t count f place y) in absurd (omega (arith, less, u)))
