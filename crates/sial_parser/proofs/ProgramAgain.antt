-- What stands with its words is read: declarations, procedures, programs.
use Rattle.std.proofs.Common.{◌≡◌, ℕ, zero, suc, ◌+◌, ◌-◌, ◌*◌, ◌<◌, ◌≤◌, List, [], ◌∷◌, ◌++◌, true, nat_lt, length, Ok, refl, sym, ap, ◌∙◌, subst, append_assoc, append-nil, arith}
use Rattle.std.specs.List.{AllByRecursion}
use Rattle.std.proofs.lemmas.Bool.{lt-ltb}
use Rattle.std.proofs.lemmas.List.{length-append}
use Rattle.std.proofs.lemmas.List.Sums.{sum_by-cons}
use Rattle.sial_syntax.specs.Limits.{most_statements, most_names, most_nesting}
use Rattle.sial_syntax.specs.Numbering.{statements}
use Rattle.sial_syntax.specs.Proper.{body_nesting}
use Rattle.sial_syntax.specs.Tree.{Tree, Procedure, Block}
use Rattle.sial_syntax.specs.declared.array.ArrayKind.{ArrayKind}
use Rattle.sial_syntax.specs.declared.index.Bound.{Bound}
use Rattle.sial_syntax.specs.declared.index.Kind.{Kind}
use Rattle.sial_syntax.specs.declared.index.Range.TheVariants as range
use Rattle.sial_parser.specs.Grammar.{at, sign_at, begins_declaration, begins_proc, IsBound, IsKind, IsArrayKind, AreDims, IsNamedEnd, IsBody, Declares, AreDeclarations, AreProcs, IsProgram, numbered, names_of, tree_of}
use Rattle.sial_parser.specs.Parsing.{Read, is_some, new_name, new_by, bound_at, segments_at, subindex_at, scalar_decl_at, array_decl_at, declaration, declaration_by, declarations, proc_names, with_procs, proc_at, procs, program_from, read_program}
use Rattle.sial_parser.specs.Scope.{Scope, IsFree, Declared, nothing, with_index, with_array}
use Rattle.sial_parser.specs.declared.fault.Counted.{Counted}
use Rattle.sial_parser.specs.declared.fault.Counted.TheVariants as counts
use Rattle.sial_parser.specs.declared.keyword.Keyword.{Keyword}
use Rattle.sial_parser.specs.declared.keyword.Keyword.TheVariants as key
use Rattle.sial_parser.specs.declared.sign.Sign.TheVariants as sign
use Rattle.sial_parser.specs.declared.thing.Thing.TheVariants.{Proc}
use Rattle.sial_parser.specs.declared.word.Symbol.{Symbol}
use Rattle.sial_parser.specs.declared.word.Symbol.TheVariants.{Key, Name, LineEnd, End}
use Rattle.sial_parser.specs.declared.word.Word.{Word}
use Rattle.sial_parser.proofs.NoProcs.{procs_named, end_named}
use Rattle.sial_parser.proofs.ProcNames.{procs_scope}
use Rattle.sial_parser.proofs.Shapes.{proc_shape, declared_shape}
use Rattle.sial_parser.proofs.OperandsAgain.{then_is, if_true, if_false, index_again, dims_again, named_end_again}
use Rattle.sial_parser.proofs.ProgramSound.{in_procs}
use Rattle.sial_parser.proofs.StatementsAgain.{forms_back, body_again}

-- a new name, where there is room for one more
new_again : (s : Scope) (count : ℕ) (which : Counted) (k : ℕ) (x : List ℕ) (rest : List Word) → IsFree s x → count < most_names → new_name s count which (at k (Name x) ∷ rest) ≡ Ok (x, rest)
unfolding new_name
new_again s count which k x rest free room = ap (λ t. new_by k count which (is_some t) x rest) free ∙ if_true (nat_lt count most_names) _ _ _ (lt-ltb count most_names room) refl

bound_again : (b : Bound) (what : Symbol) (l : ℕ) (ws : List Word) → IsBound b what → bound_at (at l what ∷ ws) ≡ Ok (b, ws)
unfolding bound_at
bound_again _ _ l ws IsBound.number = refl
bound_again _ _ l ws IsBound.named = refl

-- how many declarations there are
abbrev pub total : Declared → ℕ
total d = length d.indices + (length d.arrays + length d.scalars)

-- no more of each kind than in what follows
pub record Below (d e : Declared) : Type 0 where
  pub indices : length d.indices ≤ length e.indices
  pub arrays : length d.arrays ≤ length e.arrays
  pub scalars : length d.scalars ≤ length e.scalars

-- one more declaration
pub record OneMore (d e : Declared) : Type 0 where
  pub below : Below d e
  pub one : total d + 1 ≡ total e

pub one_more : (d e : Declared) (ws rest : List Word) → Declares d e ws rest → OneMore d e
one_more d _ _ _ (Declares.segments {of = of} {name = name} {lo = lo} {hi = hi} {l = l} is free is_lo is_hi) =
    let k = length-append d.indices (record { name = name; line = l; range = range.Segments of lo hi } ∷ []) in
    record { below = record { indices = omega (arith, k); arrays = omega arith; scalars = omega arith }; one = omega (arith, k) }
one_more d _ _ _ (Declares.subindex {name = name} {i = i} {l = l} free f) =
    let k = length-append d.indices (record { name = name; line = l; range = range.Sub i } ∷ []) in
    record { below = record { indices = omega (arith, k); arrays = omega arith; scalars = omega arith }; one = omega (arith, k) }
one_more d _ _ _ (Declares.scalar {name = name} free) =
    let k = length-append d.scalars (name ∷ []) in
    record { below = record { indices = omega arith; arrays = omega arith; scalars = omega (arith, k) }; one = omega (arith, k) }
one_more d _ _ _ (Declares.array {of = of} {name = name} {is = is} {l = l} kind free h) =
    let k = length-append d.arrays (record { name = name; line = l; kind = of; dims = is } ∷ []) in
    record { below = record { indices = omega arith; arrays = omega (arith, k); scalars = omega arith }; one = omega (arith, k) }

pub all_below : (d e : Declared) (ws rest : List Word) → AreDeclarations d e ws rest → Below d e
all_below _ _ _ _ (AreDeclarations.none e) = record { indices = omega arith; arrays = omega arith; scalars = omega arith }
all_below _ _ _ _ (AreDeclarations.more {d = d} {e = e} {f = f} {ws = ws} {between = between} {rest = rest} one others) =
    let first = one_more d e ws between one in
    let then = all_below e f between rest others in
    record { indices = omega (arith, first.below.indices, then.indices); arrays = omega (arith, first.below.arrays, then.arrays); scalars = omega (arith, first.below.scalars, then.scalars) }

-- the limits of a declared list
record Room (e : Declared) : Type 0 where
  pub indices : length e.indices ≤ most_names
  pub arrays : length e.arrays ≤ most_names
  pub scalars : length e.scalars ≤ most_names

segments_again : (d : Declared) (of : Kind) (l : ℕ) (x : List ℕ) (lo hi : Bound) (first last : Symbol) (k m h j n i : ℕ) (rest : List Word) → IsFree d.scope x → length d.indices < most_names → IsBound lo first → IsBound hi last
    → segments_at d of l (at k (Name x) ∷ sign_at m sign.Equals ∷ at h first ∷ sign_at j sign.Comma ∷ at n last ∷ at i LineEnd ∷ rest) ≡ Ok (with_index d (record { name = x; line = l; range = range.Segments of lo hi }), rest)
unfolding segments_at
segments_again d of l x lo hi first last k m h j n i rest free room is_lo is_hi =
    then_is _ _ _ _ (new_again d.scope (length d.indices) counts.Indices k x (sign_at m sign.Equals ∷ at h first ∷ sign_at j sign.Comma ∷ at n last ∷ at i LineEnd ∷ rest) free room)
    (then_is _ _ _ _ (bound_again lo first h (sign_at j sign.Comma ∷ at n last ∷ at i LineEnd ∷ rest) is_lo) (then_is _ _ _ _ (bound_again hi last n (at i LineEnd ∷ rest) is_hi) refl))

array_decl_again : (d : Declared) (of : ArrayKind) (l k m : ℕ) (x : List ℕ) (is : List ℕ) (ws rest : List Word) → IsFree d.scope x → length d.arrays < most_names → AreDims d.scope is ws (at m LineEnd ∷ rest)
    → array_decl_at d of l (at k (Name x) ∷ ws) ≡ Ok (with_array d (record { name = x; line = l; kind = of; dims = is }), rest)
unfolding array_decl_at
array_decl_again d of l k m x is ws rest free room h = then_is _ _ _ _ (new_again d.scope (length d.arrays) counts.Arrays k x ws free room) (then_is _ _ _ _ (dims_again d.scope is ws (at m LineEnd ∷ rest) h) refl)

by_kind : (d : Declared) (of : Kind) (what : Keyword) → IsKind of what → (l : ℕ) (ws : List Word) → declaration_by d (Key what) (at l (Key what)) ws ≡ segments_at d of l ws
by_kind d _ _ IsKind.ao l ws = refl
by_kind d _ _ IsKind.mo l ws = refl
by_kind d _ _ IsKind.moa l ws = refl
by_kind d _ _ IsKind.mob l ws = refl
by_kind d _ _ IsKind.index l ws = refl

by_array_kind : (d : Declared) (of : ArrayKind) (what : Keyword) → IsArrayKind of what → (l : ℕ) (ws : List Word) → declaration_by d (Key what) (at l (Key what)) ws ≡ array_decl_at d of l ws
by_array_kind d _ _ IsArrayKind.static l ws = refl
by_array_kind d _ _ IsArrayKind.temp l ws = refl
by_array_kind d _ _ IsArrayKind.local l ws = refl
by_array_kind d _ _ IsArrayKind.distributed l ws = refl
by_array_kind d _ _ IsArrayKind.served l ws = refl

-- a declaration
declaration_again : (d e : Declared) (ws rest : List Word) → Declares d e ws rest → Room e → declaration d ws ≡ Ok (e, rest)
unfolding declaration subindex_at scalar_decl_at
declaration_again d _ _ _ (Declares.segments {of = of} {what = what} {name = x} {lo = lo} {hi = hi} {first = first} {last = last} {l = l} {k = k} {m = m} {h = h} {j = j} {n = n} {i = i} {rest = rest} is free is_lo is_hi) room =
    by_kind d of what is l _ ∙ segments_again d of l x lo hi first last k m h j n i rest free (omega (arith, room.indices, length-append d.indices (record { name = x; line = l; range = range.Segments of lo hi } ∷ []))) is_lo is_hi
declaration_again d _ _ _ (Declares.subindex {name = x} {super = y} {i = i} {l = l} {k = k} {m = m} {h = h} {j = j} {rest = rest} free f) room =
    then_is _ _ _ _ (new_again d.scope (length d.indices) counts.Indices k x (at m (Key key.Of) ∷ at h (Name y) ∷ at j LineEnd ∷ rest) free (omega (arith, room.indices, length-append d.indices (record { name = x; line = l; range = range.Sub i } ∷ []))))
    (then_is _ _ _ _ (index_again d.scope y i h (at j LineEnd ∷ rest) f) refl)
declaration_again d _ _ _ (Declares.scalar {name = x} {l = l} {k = k} {m = m} {rest = rest} free) room =
    then_is _ _ _ _ (new_again d.scope (length d.scalars) counts.Scalars k x (at m LineEnd ∷ rest) free (omega (arith, room.scalars, length-append d.scalars (x ∷ [])))) refl
declaration_again d _ _ _ (Declares.array {of = of} {what = what} {name = x} {is = is} {l = l} {k = k} {m = m} {ws = ws} {rest = rest} kind free h) room =
    by_array_kind d of what kind l _ ∙ array_decl_again d of l k m x is ws rest free (omega (arith, room.arrays, length-append d.arrays (record { name = x; line = l; kind = of; dims = is } ∷ []))) h

kind_begins : (of : Kind) (what : Keyword) → IsKind of what → begins_declaration (Key what) ≡ true
kind_begins _ _ IsKind.ao = refl
kind_begins _ _ IsKind.mo = refl
kind_begins _ _ IsKind.moa = refl
kind_begins _ _ IsKind.mob = refl
kind_begins _ _ IsKind.index = refl

array_begins : (of : ArrayKind) (what : Keyword) → IsArrayKind of what → begins_declaration (Key what) ≡ true
array_begins _ _ IsArrayKind.static = refl
array_begins _ _ IsArrayKind.temp = refl
array_begins _ _ IsArrayKind.local = refl
array_begins _ _ IsArrayKind.distributed = refl
array_begins _ _ IsArrayKind.served = refl

-- what is declared first goes on with the others
declared_on : (n : ℕ) (d e : Declared) (ws between : List Word) (z : Read Declared) → Declares d e ws between → Room e → declarations n e between ≡ z → declarations (suc n) d ws ≡ z
unfolding declarations
declared_on n d e _ _ z (Declares.segments {of = of} {what = what} {name = x} {lo = lo} {hi = hi} {first = first} {last = last} {l = l} {k = k} {m = m} {h = h} {j = j} {n = o} {i = i} {rest = rest} is free is_lo is_hi) room next =
    declared_shape n d (at l (Key what)) (at k (Name x) ∷ sign_at m sign.Equals ∷ at h first ∷ sign_at j sign.Comma ∷ at o last ∷ at i LineEnd ∷ rest)
    ∙ if_true (begins_declaration (Key what)) _ _ _ (kind_begins of what is) (then_is _ _ _ _ (declaration_again d _ _ rest (Declares.segments {k = k} {m = m} {h = h} {j = j} {n = o} {i = i} is free is_lo is_hi) room) next)
declared_on n d e _ _ z (Declares.subindex {name = x} {super = y} {l = l} {k = k} {m = m} {h = h} {j = j} {rest = rest} free f) room next =
    declared_shape n d (at l (Key key.SubIndex)) (at k (Name x) ∷ at m (Key key.Of) ∷ at h (Name y) ∷ at j LineEnd ∷ rest) ∙ then_is _ _ _ _ (declaration_again d _ _ rest (Declares.subindex {k = k} {m = m} {h = h} {j = j} free f) room) next
declared_on n d e _ _ z (Declares.scalar {name = x} {l = l} {k = k} {m = m} {rest = rest} free) room next =
    declared_shape n d (at l (Key key.Scalar)) (at k (Name x) ∷ at m LineEnd ∷ rest) ∙ then_is _ _ _ _ (declaration_again d _ _ rest (Declares.scalar {l = l} {k = k} {m = m} free) room) next
declared_on n d e _ _ z (Declares.array {of = of} {what = what} {name = x} {l = l} {k = k} {m = m} {ws = ws} {rest = rest} kind free h) room next =
    declared_shape n d (at l (Key what)) (at k (Name x) ∷ ws) ∙ if_true (begins_declaration (Key what)) _ _ _ (array_begins of what kind) (then_is _ _ _ _ (declaration_again d _ _ rest (Declares.array {k = k} kind free h) room) next)

declarations_again : (d e : Declared) (ws rest : List Word) → AreDeclarations d e ws rest → Room e → (n : ℕ) → total e < n + total d → declarations n d ws ≡ Ok (e, rest)
unfolding declarations
declarations_again _ _ _ _ (AreDeclarations.none {d = d} {w = w} {ws = ws} e) room zero few = absurd (omega (arith, few))
declarations_again _ _ _ _ (AreDeclarations.none {d = d} {w = w} {ws = ws} e) room (suc n) few = declared_shape n _ w ws ∙ if_false (begins_declaration w.symbol) _ _ _ e refl
declarations_again _ _ _ _ (AreDeclarations.more {d = d} {e = e} {f = f} {ws = ws} {between = between} {rest = rest} one others) room zero few =
    let first = one_more d e ws between one in
    let then = all_below e f between rest others in
    absurd (omega (arith, few, first.one, then.indices, then.arrays, then.scalars))
declarations_again _ _ _ _ (AreDeclarations.more {d = d} {e = e} {f = f} {ws = ws} {between = between} {rest = rest} one others) room (suc n) few =
    let first = one_more d e ws between one in
    let then = all_below e f between rest others in
    declared_on n d e ws between (Ok (f, rest)) one (record { indices = omega (arith, then.indices, room.indices); arrays = omega (arith, then.arrays, room.arrays); scalars = omega (arith, then.scalars, room.scalars) })
    (declarations_again e f between rest others room n (omega (arith, few, first.one)))

-- the answer with one more procedure
with_proc : (ps front : List Procedure) (p : Procedure) (rest : List Word) (left part all others : ℕ) → all ≡ part + others → ◌≡◌ {A = Read (List Procedure × ℕ)} (Ok (((front ++ p ∷ []) ++ ps, (left - part) - others), rest)) (Ok ((front ++ (p ∷ ps), left - all), rest))
with_proc ps front p rest left part all others e =
    let k : (left - part) - others ≡ left - all = omega (arith, e) in
    ap (λ xs. Ok ((xs, (left - part) - others), rest)) (append_assoc front (p ∷ []) ps) ∙ ap (λ m. Ok ((front ++ (p ∷ ps), m), rest)) k

-- a procedure behind `proc`, where so many statements are left
proc_again : (s before : Scope) (number : ℕ) (x : List ℕ) (b : Block) (k m j : ℕ) (ws ends rest : List Word) → IsFree before x → number < most_names → IsBody s b ws (at j (Key key.EndProc) ∷ ends) → IsNamedEnd x ends rest
    → body_nesting b ≤ most_nesting → (left : ℕ) → statements b ≤ left → proc_at true s before number left (at k (Name x) ∷ at m LineEnd ∷ ws) ≡ Ok ((record { name = x; body = b }, left - statements b), rest)
unfolding proc_at
proc_again s before number x b k m j ws ends rest free room h end deep left some =
    then_is _ _ _ _ (new_again before number counts.Procs k x (at m LineEnd ∷ ws) free room)
    (then_is _ _ _ _ (body_again s most_nesting b ws (at j (Key key.EndProc) ∷ ends) h deep left some)
    (then_is _ _ _ _ (named_end_again s x ends rest end)
    (ap (λ c. Ok ((record { name = x; body = c }, left - statements b), rest)) (forms_back b))))

-- procedures, where so many statements are left
procs_again : (s before : Scope) (number : ℕ) (ps : List Procedure) (ws rest : List Word) → AreProcs s before number ps ws rest → (front : List Procedure) → length front ≡ number → number + length ps ≤ most_names
    → AllByRecursion (λ (q : Procedure). body_nesting q.body ≤ most_nesting) ps → (left : ℕ) → in_procs ps ≤ left → (n : ℕ) → length ps < n → procs true s n before front left ws ≡ Ok ((front ++ ps, left - in_procs ps), rest)
unfolding procs
procs_again s _ _ _ _ _ (AreProcs.none {w = w} {ws = ws} e) front long few deep left some zero turns = absurd (omega (arith, turns))
procs_again s _ _ _ _ _ (AreProcs.none {before = before} {w = w} {ws = ws} e) front long few deep left some (suc n) turns =
    proc_shape true s n before front left w ws
    ∙ if_false (begins_proc w.symbol) _ _ _ e (ap (λ xs. Ok ((xs, left), w ∷ ws)) (sym (append-nil front)) ∙ (let k : left ≡ left - 0 = omega arith in ap (λ m. Ok ((front ++ [], m), w ∷ ws)) k))
procs_again s _ _ _ _ _ (AreProcs.more free h end others) front long few deep left some zero turns = absurd (omega (arith, turns))
procs_again s _ _ _ _ _ (AreProcs.more {before = before} {n = number} {name = x} {body = b} {others = ps} {l = l} {k = k} {m = m} {j = j} {ws = ws} {ends = ends} {between = between} {rest = rest} free h end others) front long few deep left some (suc n) turns =
    let p : Procedure = record { name = x; body = b } in
    let parts : in_procs (p ∷ ps) ≡ statements b + in_procs ps = sum_by-cons (λ (q : Procedure). statements q.body) p ps in
    let others_is = subst (λ (c : ℕ). AreProcs s (before ++ record { name = x; thing = Proc c } ∷ []) (number + 1) ps between rest) (sym long) others in
    let longer : length (front ++ p ∷ []) ≡ number + 1 = length-append front (p ∷ []) ∙ ap (λ c. c + 1) long in
    proc_shape true s n before front left (at l (Key key.Proc)) (at k (Name x) ∷ at m LineEnd ∷ ws)
    ∙ then_is _ _ _ _ (proc_again s before (length front) x b k m j ws ends between free (omega (arith, long, few)) h end deep.0 left (omega (arith, some, parts)))
    (procs_again s (before ++ record { name = x; thing = Proc (length front) } ∷ []) (number + 1) ps between rest others_is (front ++ p ∷ []) longer (omega (arith, few)) deep.1 (left - statements b) (omega (arith, some, parts)) n (omega (arith, turns))
    ∙ with_proc ps front p rest left (statements b) (in_procs (p ∷ ps)) (in_procs ps) parts)

-- a program
pub program_again : (p : Tree) (ws : List Word) → IsProgram p ws → read_program true ws ≡ Ok p
unfolding read_program program_from
program_again _ _ (IsProgram.program {name = title} {d = d} {procs = ps} {body = b} {l = l} {k = k} {m = m} {j = j} {h = h} {ws = ws} {first = first} {second = second} {ends = ends} declared are body_is end within) =
    let s : Scope = d.scope ++ numbered 0 (names_of ps) in
    let none : proc_names second ≡ [] = end_named s b title j h second ends (Key key.EndSial) refl body_is end in
    let names : proc_names first ≡ names_of ps = procs_named s d.scope 0 ps first second are ∙ ap (λ xs. names_of ps ++ xs) none ∙ append-nil (names_of ps) in
    let few : 0 + length ps ≤ most_names = omega (arith, within.procedures) in
    let scope : with_procs d.scope 0 (proc_names first) ≡ s = ap (with_procs d.scope 0) names ∙ procs_scope s d.scope 0 ps first second are few in
    let room : Room d = record { indices = within.indices; arrays = within.arrays; scalars = within.scalars } in
    then_is _ _ _ _ (declarations_again nothing d ws first declared room (3 * most_names + 1) (omega (arith, room.indices, room.arrays, room.scalars)))
    (ap (λ t. program_from true t title d first) scope
    ∙ then_is _ _ _ _ (procs_again s d.scope 0 ps first second are [] refl few within.nestings most_statements (omega (arith, within.statements)) (most_names + 1) (omega (arith, within.procedures)))
    (then_is _ _ _ _ (body_again s most_nesting b second (at j (Key key.EndSial) ∷ ends) body_is within.nesting (most_statements - in_procs ps) (omega (arith, within.statements)))
    (then_is _ _ _ _ (named_end_again s title ends (at h End ∷ []) end) (ap (λ c. Ok (tree_of title d ps c)) (forms_back b)))))
