-- Texts and code grow by what a statement adds, and an operation is put in its place afterwards.
use Rattle.std.proofs.Common.{◌≡◌, ℕ, ◌+◌, ◌<◌, List, [], ◌∷◌, ◌++◌, length, drop, slice_set, slice_index_or, refl, ap, sym, subst, ◌∙◌, arith, length-append, append_assoc, append-nil}
use Rattle.sial_syntax.specs.declared.condition.Cond.{Cond}
use Rattle.sial_syntax.specs.Numbering.{size, sizes}
use Rattle.sial_syntax.specs.declared.statement.Stmt.{Stmt}
use Rattle.sial_syntax.specs.Tree.{Block, End, Then, Plain, Pardo, IfElse, block, plain_form}
use Rattle.sip_tables.specs.Code.{instruction, wheres_code, form_code, body_code}
use Rattle.sip_tables.specs.Texts.{prints, body_prints}
use Rattle.sip_tables.specs.declared.instruction.Instruction.{Instruction}
use Rattle.sip_tables.specs.declared.instruction.Operation.{Operation}
use Rattle.sip_tables.specs.declared.instruction.Operation.TheVariants as op
use Rattle.sial_syntax.proofs.TreeLemmas.{seen_rest}
use Rattle.sip_tables.proofs.CodeLemmas.{length-wheres_code, length-form_code, length-body_code}
use Rattle.table_compiler.specs.declared.flat.Flat.{Flat}
use Rattle.table_compiler.specs.Grown.{Adds, AddsForm, AddsBody}
use Rattle.table_compiler.specs.Left.{LeadsTo}

-- one statement done: the rest leads where all of them lead
pub goes_on : (entries : List ℕ) (now next start : Flat) (line : ℕ) (form : Plain) (left whole : Block) → LeadsTo entries now start (Then line form left) whole → AddsForm entries now next line form → LeadsTo entries next start left whole
goes_on entries now next start line form left whole leads adds =
    let code = now.code.items in
    let texts = now.texts.items in
    let own = form_code entries (length code) (length texts) line form in
    let longer : length next.code.items ≡ length code + size form =
    ap (λ (x : List Instruction). length x) adds.code ∙ length-append code own ∙ ap (λ (n : ℕ). length code + n) (length-form_code entries (length code) (length texts) line form) in
    let more : length next.texts.items ≡ length texts + length (prints form) = ap (λ (x : List (List ℕ)). length x) adds.texts ∙ length-append texts (prints form) in
    let rest = body_code entries (length code + size form) (length texts + length (prints form)) left in
    record {
      texts = ap (λ (x : List (List ℕ)). x ++ body_prints left) adds.texts ∙ append_assoc texts (prints form) (body_prints left) ∙ leads.texts;
      code =
          ap (λ (n : ℕ). next.code.items ++ body_code entries n (length next.texts.items) left) longer
          ∙ ap (λ (n : ℕ). next.code.items ++ body_code entries (length code + size form) n left) more
          ∙ ap (λ (x : List Instruction). x ++ rest) adds.code
          ∙ append_assoc code own rest
          ∙ leads.code;
    }

-- the same of a statement of the code's tree
pub one_more : (entries : List ℕ) (now next start : Flat) (stmts : List Stmt) (i : ℕ) (stmt : Stmt) → i < length stmts → stmt ≡ slice_index_or stmts i stmt → AddsForm entries now next stmt.line (plain_form stmt.form)
    → LeadsTo entries now start (block (drop i stmts)) (block stmts) → LeadsTo entries next start (block (drop (i + 1) stmts)) (block stmts)
one_more entries now next start stmts i stmt before is adds leads =
    goes_on entries now next start stmt.line (plain_form stmt.form) (block (drop (i + 1) stmts)) (block stmts)
    (subst (λ (b : Block). LeadsTo entries now start b (block stmts)) (seen_rest stmts i stmt before is) leads) adds

-- nothing left: all was added
pub is_done : (entries : List ℕ) (now start : Flat) (whole : Block) → LeadsTo entries now start End whole → AddsBody entries start now whole
is_done entries now start whole leads = record { texts = sym (append-nil now.texts.items) ∙ leads.texts; code = sym (append-nil now.code.items) ∙ leads.code }

-- an item put in the place of the one behind a front
pub slice_set-behind : {X : Type 0} (front : List X) (old : X) (back : List X) (new : X) → slice_set (front ++ old ∷ back) (length front) new ≡ front ++ new ∷ back
slice_set-behind [] old back new = refl
slice_set-behind (x ∷ front) old back new = ap (λ (xs : List _). x ∷ xs) (slice_set-behind front old back new)

-- one more behind both
pub Adds-then : (a b c : Flat) (s t : List (List ℕ)) (x y : List Instruction) → Adds a b s x → Adds b c t y → Adds a c (s ++ t) (x ++ y)
Adds-then a b c s t x y first second = record {
  texts = second.texts ∙ ap (λ (z : List (List ℕ)). z ++ t) first.texts ∙ append_assoc a.texts.items s t;
  code = second.code ∙ ap (λ (z : List Instruction). z ++ y) first.code ∙ append_assoc a.code.items x y;
}

-- statements behind some instructions that name no text
pub front_and_body : (entries : List ℕ) (a b c : Flat) (front : List Instruction) (body : Block) → Adds a b [] front → AddsBody entries b c body
    → Adds a c (body_prints body) (front ++ body_code entries (length a.code.items + length front) (length a.texts.items) body)
front_and_body entries a b c front body first second =
    let both = Adds-then a b c [] (body_prints body) front (body_code entries (length b.code.items) (length b.texts.items) body) first second in
    let places : length b.code.items ≡ length a.code.items + length front = ap (λ (z : List Instruction). length z) first.code ∙ length-append a.code.items front in
    let texts : length b.texts.items ≡ length a.texts.items = ap (λ (z : List (List ℕ)). length z) (first.texts ∙ append-nil a.texts.items) in
    record {
      texts = both.texts;
      code = both.code ∙ ap (λ (n : ℕ). a.code.items ++ (front ++ body_code entries n (length b.texts.items) body)) places ∙ ap (λ (n : ℕ). a.code.items ++ (front ++ body_code entries (length a.code.items + length front) n body)) texts;
    }

-- the operation of the first instruction behind a front is put in its place
pub put_first : (a b c : Flat) (texts : List (List ℕ)) (hole new : Instruction) (rest : List Instruction) → Adds a b texts (hole ∷ rest) → c.texts.items ≡ b.texts.items → c.code.items ≡ slice_set b.code.items (length a.code.items) new → Adds a c texts (new ∷ rest)
put_first a b c texts hole new rest adds same set = record {
  texts = same ∙ adds.texts;
  code = set ∙ ap (λ (z : List Instruction). slice_set z (length a.code.items) new) adds.code ∙ slice_set-behind a.code.items hole rest new;
}

-- how many instructions there are then
pub length-added : (a b : Flat) (texts : List (List ℕ)) (code : List Instruction) → Adds a b texts code → length b.code.items ≡ length a.code.items + length code
length-added a b texts code adds = ap (λ (z : List Instruction). length z) adds.code ∙ length-append a.code.items code

-- a body between a first instruction and a last one
abbrev pub around : (entries : List ℕ) → Flat → (first last : Instruction) → Block → List Instruction
around entries a first last body = first ∷ (body_code entries (length a.code.items + 1) (length a.texts.items) body ++ last ∷ [])

length-around : (entries : List ℕ) (a : Flat) (first last : Instruction) (body : Block) → length (around entries a first last body) ≡ sizes body + 2
length-around entries a first last body =
    let inner = length-body_code entries (length a.code.items + 1) (length a.texts.items) body in
    let whole = length-append (body_code entries (length a.code.items + 1) (length a.texts.items) body) (last ∷ []) in
    omega (arith, inner, whole)

-- an instruction that is reserved, a body, and a last instruction
pub closed : (entries : List ℕ) (a b c d : Flat) (line : ℕ) (hole last : Instruction) (body : Block) → Adds a b [] (hole ∷ []) → AddsBody entries b c body → Adds c d [] (last ∷ []) → Adds a d (body_prints body) (around entries a hole last body)
closed entries a b c d line hole last body first second third =
    let whole = Adds-then a c d (body_prints body) [] (hole ∷ body_code entries (length a.code.items + 1) (length a.texts.items) body) (last ∷ []) (front_and_body entries a b c (hole ∷ []) body first second) third in
    record { texts = whole.texts ∙ ap (λ (z : List (List ℕ)). a.texts.items ++ z) (append-nil (body_prints body)); code = whole.code }

-- where the next instruction stands behind such a body
pub past : (entries : List ℕ) (a d : Flat) (hole last : Instruction) (body : Block) → Adds a d (body_prints body) (around entries a hole last body) → length d.code.items ≡ length a.code.items + (sizes body + 2)
past entries a d hole last body adds =
    let added = length-added a d (body_prints body) (around entries a hole last body) adds in
    let len = length-around entries a hole last body in
    omega (arith, added, len)

-- a body between an instruction with a jump behind it and one with the number of the first
pub wrapped : (entries : List ℕ) (a b c d e : Flat) (line head next : ℕ) (body : Block) (hole : Instruction) (first last : ℕ → Operation) → head ≡ length a.code.items → Adds a b [] (hole ∷ []) → AddsBody entries b c body
    → Adds c d [] (instruction line (last head) ∷ []) → next ≡ length d.code.items → e.texts.items ≡ d.texts.items → e.code.items ≡ slice_set d.code.items head (instruction line (first next))
    → Adds a e (body_prints body) (around entries a (instruction line (first (length a.code.items + (sizes body + 2)))) (instruction line (last (length a.code.items))) body)
wrapped entries a b c d e line head next body hole first last place reserved inner put behind same set =
    let whole = closed entries a b c d line hole (instruction line (last head)) body reserved inner put in
    let jump : next ≡ length a.code.items + (sizes body + 2) = behind ∙ past entries a d hole (instruction line (last head)) body whole in
    let code = body_code entries (length a.code.items + 1) (length a.texts.items) body in
    let done = put_first a d e (body_prints body) hole (instruction line (first next)) (code ++ instruction line (last head) ∷ []) whole same (set ∙ ap (λ (n : ℕ). slice_set d.code.items n (instruction line (first next))) place) in
    subst (λ (n : ℕ). Adds a e (body_prints body) (instruction line (first (length a.code.items + (sizes body + 2))) ∷ (code ++ instruction line (last n) ∷ []))) place
    (subst (λ (n : ℕ). Adds a e (body_prints body) (instruction line (first n) ∷ (code ++ instruction line (last head) ∷ []))) jump done)

-- a pardo: its tests stand between its head and its body
pub pardo_adds : (entries : List ℕ) (a b t c d e : Flat) (line head end : ℕ) (indices : List ℕ) (wheres : List Cond) (body : Block) (hole : Instruction) → head ≡ length a.code.items → Adds a b [] (hole ∷ []) → Adds b t [] (wheres_code line wheres)
    → AddsBody entries t c body → end ≡ length c.code.items → Adds c d [] (instruction line (op.EndPardo head) ∷ []) → e.texts.items ≡ d.texts.items → e.code.items ≡ slice_set d.code.items head (instruction line (op.Pardo indices end))
    → AddsForm entries a e line (Pardo indices wheres body)
pardo_adds entries a b t c d e line head end indices wheres body hole place reserved tests inner behind put same set =
    let at = length a.code.items in
    let text = length a.texts.items in
    let front = hole ∷ wheres_code line wheres in
    let len : length front ≡ 1 + length wheres = let l = length-wheres_code line wheres in omega (arith, l) in
    let before : Adds a t [] front = Adds-then a b t [] [] (hole ∷ []) (wheres_code line wheres) reserved tests in
    let with_body = subst (λ (n : ℕ). Adds a c (body_prints body) (front ++ body_code entries (at + n) text body)) len (front_and_body entries a t c front body before inner) in
    let code = body_code entries (at + (1 + length wheres)) text body in
    let inside = length-body_code entries (at + (1 + length wheres)) text body in
    let added = length-added a c (body_prints body) (front ++ code) with_body in
    let both = length-append front code in
    let jump : end ≡ at + (1 + (length wheres + sizes body)) = omega (arith, behind, added, both, inside, len) in
    let whole = Adds-then a c d (body_prints body) [] (front ++ code) (instruction line (op.EndPardo head) ∷ []) with_body put in
    let texts : Adds a d (body_prints body) (hole ∷ (wheres_code line wheres ++ (code ++ instruction line (op.EndPardo head) ∷ []))) = record {
      texts = whole.texts ∙ ap (λ (z : List (List ℕ)). a.texts.items ++ z) (append-nil (body_prints body));
      code = whole.code ∙ ap (λ (z : List Instruction). a.code.items ++ hole ∷ z) (append_assoc (wheres_code line wheres) code (instruction line (op.EndPardo head) ∷ []));
    } in
    let done = put_first a d e (body_prints body) hole (instruction line (op.Pardo indices end)) (wheres_code line wheres ++ (code ++ instruction line (op.EndPardo head) ∷ [])) texts same (set ∙ ap (λ (n : ℕ). slice_set d.code.items n (instruction line (op.Pardo indices end))) place) in
    subst (λ (n : ℕ). Adds a e (body_prints body) (instruction line (op.Pardo indices (at + (1 + (length wheres + sizes body)))) ∷ (wheres_code line wheres ++ (code ++ instruction line (op.EndPardo n) ∷ [])))) place
    (subst (λ (n : ℕ). Adds a e (body_prints body) (instruction line (op.Pardo indices n) ∷ (wheres_code line wheres ++ (code ++ instruction line (op.EndPardo head) ∷ [])))) jump done)

-- an instruction in the middle is put in its place
put_middle : (a b c : Flat) (texts : List (List ℕ)) (front : List Instruction) (hole new : Instruction) (rest : List Instruction) (at : ℕ) → Adds a b texts (front ++ hole ∷ rest) → at ≡ length a.code.items + length front → c.texts.items ≡ b.texts.items → c.code.items ≡ slice_set b.code.items at new → Adds a c texts (front ++ new ∷ rest)
put_middle a b c texts front hole new rest at adds place same set =
    let before = a.code.items ++ front in
    let where_ : at ≡ length before = let l = length-append a.code.items front in omega (arith, place, l) in
    record {
      texts = same ∙ adds.texts;
      code =
          set ∙ ap (λ (z : List Instruction). slice_set z at new) (adds.code ∙ sym (append_assoc a.code.items front (hole ∷ rest)))
          ∙ ap (λ (n : ℕ). slice_set (before ++ hole ∷ rest) n new) where_ ∙ slice_set-behind before hole rest new ∙ append_assoc a.code.items front (new ∷ rest);
    }

-- an `if` with `else`
pub branches_add : (entries : List ℕ) (a b c d e f g h : Flat) (line head middle otherwise next : ℕ) (cond : Cond) (body other : Block) (hole : Instruction) → head ≡ length a.code.items → Adds a b [] (hole ∷ []) → AddsBody entries b c body
    → middle ≡ length c.code.items → Adds c d [] (hole ∷ []) → otherwise ≡ length d.code.items → e.texts.items ≡ d.texts.items → e.code.items ≡ slice_set d.code.items head (instruction line (op.If cond otherwise))
    → AddsBody entries e f other → Adds f g [] (instruction line op.EndIf ∷ []) → next ≡ length g.code.items → h.texts.items ≡ g.texts.items → h.code.items ≡ slice_set g.code.items middle (instruction line (op.Else next))
    → AddsForm entries a h line (IfElse cond body other)
branches_add entries a b c d e f g h line head middle otherwise next cond body other hole place reserved inner mid second behind same set outer put last same2 set2 =
    let at = length a.code.items in
    let text = length a.texts.items in
    let code = body_code entries (at + 1) text body in
    let inside = length-body_code entries (at + 1) text body in
    let first_part = closed entries a b c d line hole hole body reserved inner second in
    let jump : otherwise ≡ at + (sizes body + 2) = behind ∙ past entries a d hole hole body first_part in
    let iff = instruction line (op.If cond otherwise) in
    let one = put_first a d e (body_prints body) hole iff (code ++ hole ∷ []) first_part same (set ∙ ap (λ (n : ℕ). slice_set d.code.items n iff) place) in
    let here : length e.code.items ≡ at + (sizes body + 2) =
    let l = length-added a e (body_prints body) (iff ∷ (code ++ hole ∷ [])) one in let k = length-append code (hole ∷ []) in omega (arith, l, k, inside) in
    let there : length e.texts.items ≡ text + length (body_prints body) = ap (λ (z : List (List ℕ)). length z) one.texts ∙ length-append a.texts.items (body_prints body) in
    let tail = body_code entries (at + (sizes body + 2)) (text + length (body_prints body)) other in
    let two = subst (λ (n : ℕ). Adds e f (body_prints other) (body_code entries (at + (sizes body + 2)) n other)) there (subst (λ (n : ℕ). Adds e f (body_prints other) (body_code entries n (length e.texts.items) other)) here outer) in
    let three = Adds-then e f g (body_prints other) [] tail (instruction line op.EndIf ∷ []) two put in
    let four = Adds-then a e g (body_prints body) (body_prints other ++ []) (iff ∷ (code ++ hole ∷ [])) (tail ++ instruction line op.EndIf ∷ []) one three in
    let rest = tail ++ instruction line op.EndIf ∷ [] in
    let whole : Adds a g (body_prints body ++ body_prints other) ((iff ∷ code) ++ hole ∷ rest) = record {
      texts = four.texts ∙ ap (λ (z : List (List ℕ)). a.texts.items ++ (body_prints body ++ z)) (append-nil (body_prints other));
      code = four.code ∙ ap (λ (z : List Instruction). a.code.items ++ iff ∷ z) (append_assoc code (hole ∷ []) rest);
    } in
    let middle_is : middle ≡ at + length (iff ∷ code) =
    let l = length-added a c (body_prints body) (hole ∷ code) (front_and_body entries a b c (hole ∷ []) body reserved inner) in omega (arith, mid, l) in
    let done = put_middle a g h (body_prints body ++ body_prints other) (iff ∷ code) hole (instruction line (op.Else next)) rest middle whole middle_is same2 set2 in
    let end : next ≡ at + (sizes body + (sizes other + 3)) =
    let l = length-added a g (body_prints body ++ body_prints other) ((iff ∷ code) ++ hole ∷ rest) whole in
    let k = length-append (iff ∷ code) (hole ∷ rest) in
    let m = length-append tail (instruction line op.EndIf ∷ []) in
    let o = length-body_code entries (at + (sizes body + 2)) (text + length (body_prints body)) other in
    omega (arith, last, l, k, m, o, inside) in
    subst (λ (n : ℕ). Adds a h (body_prints body ++ body_prints other) (instruction line (op.If cond (at + (sizes body + 2))) ∷ (code ++ instruction line (op.Else n) ∷ rest))) end
    (subst (λ (n : ℕ). Adds a h (body_prints body ++ body_prints other) (instruction line (op.If cond n) ∷ (code ++ instruction line (op.Else next) ∷ rest))) jump done)
