-- What a sound setting gives of its copies: the rules, taken apart, and spaces that cut as the tree says.
use Rattle.std.proofs.Common.{◌≡◌, ℕ, zero, suc, ◌+◌, ◌-◌, ◌<◌, List, [], ◌∷◌, map, filter, length, slice_index_or, Bool, true, false, ◌==◌, ◌&&◌, ◌||◌, nat_lt, Option, Some, None, is_some, refl, sym, ap, ◌∙◌, eqb-true, arith}
use Rattle.std.specs.Prelude.{if◌then◌else◌, flat_map}
use Rattle.std.specs.List.{Contains, list_any}
use Rattle.sial_syntax.specs.declared.index.IndexDecl.{IndexDecl}
use Rattle.sial_syntax.specs.declared.index.Kind.{Kind}
use Rattle.sial_syntax.specs.declared.index.Kind.TheVariants.{Index}
use Rattle.sial_syntax.specs.declared.index.Range.{Range}
use Rattle.sial_syntax.specs.declared.index.Range.TheVariants as range
use Rattle.sial_syntax.specs.declared.index.Bound.TheVariants.{Number}
use Rattle.sial_syntax.specs.declared.operand.BlockRef.{BlockRef}
use Rattle.sial_syntax.specs.declared.operand.Op.{Op}
use Rattle.sial_syntax.specs.declared.operand.Operand.TheVariants as operand
use Rattle.sial_syntax.specs.declared.operand.Right.TheVariants.{One}
use Rattle.sial_syntax.specs.declared.operand.Target.TheVariants as target
use Rattle.sial_syntax.specs.Agreeing.{has_twice, range_in, range_super, is_this, is_sub, is_sub_of, cuts_all, copy_agrees}
use Rattle.sial_syntax.specs.Parts.{blocks_named, slots_named, slot_index}
use Rattle.sial_syntax.specs.Resolved.{Constants, bound_number, segments_between, span_between, span_of_range}
use Rattle.sial_syntax.specs.Shapes.{breaks_repeated, breaks_indices, index_breaks_kind, cuts_sub, wrong_rank, wrong_slot_rank, disagrees}
use Rattle.sial_syntax.specs.Spaces.{Span, Segments, Pieces}
use Rattle.sial_syntax.specs.Tree.{Tree, Plain, Assign}
use Rattle.sial_syntax.specs.Visits.{all_visits}
use Rattle.sial_meaning.specs.CopyLaws.{Copies}
use Rattle.sial_meaning.specs.ReadBackLaws.{cuts_each, NoPartOfPart}
use Rattle.sial_meaning.specs.Setting.{Setting}
use Rattle.sial_meaning.specs.Sight.{cuts, is_pieces_of}
use Rattle.sial_meaning.specs.Sound.{IsSound}
use Rattle.sial_meaning.proofs.AcceptedInOtherWords.Pairs.{never, holds-so}
use Rattle.sial_meaning.proofs.StepsReachTheFold.Rules.{neither, kept_none}
use Rattle.sial_meaning.proofs.Granted.Shapes.{ShapesHold, shapes-hold}

-- a test that keeps no entry fails at each
fails-at : {X : Type 0} (f : X → Bool) (xs : List X) (k : ℕ) (x : X) → filter f xs ≡ [] → k < length xs → slice_index_or xs k x ≡ x → f x ≡ false
fails-at f [] k x none below is = absurd (omega (arith, below))
fails-at f (y ∷ ys) zero x none below is = ap f (sym is) ∙ (kept_none (f y) y (filter f ys) none).0
fails-at f (y ∷ ys) (suc k) x none below is =
    let rest : k < length ys = omega (arith, below) in
    fails-at f ys k x (kept_none (f y) y (filter f ys) none).1 rest is

-- so it does at what the list has
pub fails-in : {X : Type 0} (f : X → Bool) (xs : List X) (x : X) → filter f xs ≡ [] → Contains xs x → f x ≡ false
fails-in f xs x none has = fails-at f xs has.0 x none has.1 has.2

-- whether blocks of a statement name an index twice, or its slots
abbrev pub repeats : Plain → Bool
repeats form = list_any (λ (b : BlockRef). has_twice b.at) (blocks_named form) || has_twice (flat_map slot_index (slots_named form))

-- what one block assigned to another says
abbrev copy : BlockRef → Op → BlockRef → Plain
copy to op from = Assign (target.Block to) op (One (operand.Block from))

-- neither block of a copy names an index twice
pub named-once : (p : Tree) (to : BlockRef) (op : Op) (from : BlockRef) → ShapesHold p → Copies p to op from → (has_twice to.at ≡ false) × (has_twice from.at ≡ false)
named-once p to op from hold (v, has, is) =
    let none : repeats (copy to op from) ≡ false = ap repeats (sym is) ∙ fails-in (breaks_repeated p) (all_visits p) v hold.repeated has in
    let blocks = (neither (has_twice to.at || (has_twice from.at || false)) false none).0 in
    let first = neither (has_twice to.at) (has_twice from.at || false) blocks in
    (first.0, (neither (has_twice from.at) false first.1).0)

-- a copy's indices agree
pub copy-agrees : (p : Tree) (to : BlockRef) (op : Op) (from : BlockRef) → ShapesHold p → Copies p to op from → copy_agrees p to.at from.at ≡ true
copy-agrees p to op from hold (v, has, is) =
    let none = fails-in (breaks_indices p) (all_visits p) v hold.indices has in
    let rest = (neither (list_any (wrong_rank p) (blocks_named v.form)) (wrong_slot_rank p v.form || disagrees p v.form) none).1 in
    let agrees = (neither (wrong_slot_rank p v.form) (disagrees p v.form) rest).1 in
    holds-so (copy_agrees p to.at from.at) (ap (disagrees p) (sym is) ∙ agrees)

-- what is there is one thing
pub one-some : {X : Type 0} (x y : X) → ◌≡◌ {A = Option X} (Some x) (Some y) → x ≡ y
one-some x y same = cc

-- no span of segments is pieces
not-pieces : (kind : Kind) (lo hi w : ℕ) (late : Bool) → is_pieces_of (if late then Segments kind 1 0 else Segments kind lo hi) w ≡ false
not-pieces kind lo hi w true = refl
not-pieces kind lo hi w false = refl

-- a span between bounds is segments
between-segments : (kind : Kind) (lo hi : Option ℕ) (s : Span) (w : ℕ) → Some s ≡ span_between kind lo hi → is_pieces_of s w ≡ false
between-segments kind None hi s w same = absurd cc
between-segments kind (Some lo) None s w same = absurd cc
between-segments kind (Some lo) (Some hi) s w same =
    ap (λ x. is_pieces_of x w) (one-some s (segments_between kind lo hi) same) ∙ not-pieces kind lo ((hi + 1) - lo) w (nat_lt hi lo)

-- a declared span cuts what its range says
span-cuts : (constants : Constants) (r : Range) (s : Span) (w : ℕ) → Some s ≡ span_of_range constants r → is_pieces_of s w ≡ is_this (range_super r) w
span-cuts constants (range.Segments kind lo hi) s w same = between-segments kind (bound_number constants lo) (bound_number constants hi) s w same
span-cuts constants (range.Sub super) s w same = ap (λ x. is_pieces_of x w) (one-some s (Pieces super) same)

-- the first of two lists that are one
pub same-first : {X : Type 0} (x y : X) (xs ys : List X) → ◌≡◌ {A = List X} (x ∷ xs) (y ∷ ys) → x ≡ y
same-first x y xs ys same = cc

-- the others
pub same-rest : {X : Type 0} (x y : X) (xs ys : List X) → ◌≡◌ {A = List X} (x ∷ xs) (y ∷ ys) → xs ≡ ys
same-rest x y xs ys same = cc

-- what stands for an index that isn't declared
abbrev pub no_index : IndexDecl
no_index = record { name = []; line = 0; range = range.Segments Index (Number 1) (Number 0) }

-- the spans of a program cut what its ranges say
spans-cut : (constants : Constants) (spans : List Span) (indices : List IndexDecl) (x w : ℕ) → map Some spans ≡ map (λ (i : IndexDecl). span_of_range constants i.range) indices
    → is_pieces_of (slice_index_or spans x (Segments Index 1 0)) w ≡ is_this (range_super (slice_index_or indices x no_index).range) w
spans-cut constants [] [] x w same = refl
spans-cut constants [] (i ∷ is) x w same = absurd cc
spans-cut constants (s ∷ ss) [] x w same = absurd cc
spans-cut constants (s ∷ ss) (i ∷ is) zero w same =
    span-cuts constants i.range s w (same-first (Some s) (span_of_range constants i.range) (map Some ss) (map (λ (i : IndexDecl). span_of_range constants i.range) is) same)
spans-cut constants (s ∷ ss) (i ∷ is) (suc x) w same =
    spans-cut constants ss is x w (same-rest (Some s) (span_of_range constants i.range) (map Some ss) (map (λ (i : IndexDecl). span_of_range constants i.range) is) same)

-- an index cuts another in the spaces exactly where the tree says so
pub cuts-as-said : (g : Setting) → IsSound g → (x w : ℕ) → cuts g.spaces x w ≡ is_sub_of g.program x w
cuts-as-said g sound x w = spans-cut sound.spaces.0 g.spaces.spans g.program.indices x w sound.spaces.1.spans

-- so do all indices of a block
pub cuts-all-as-said : (g : Setting) → IsSound g → (xs ws : List ℕ) → cuts_all g.program xs ws ≡ cuts_each g.spaces xs ws
cuts-all-as-said g sound [] [] = refl
cuts-all-as-said g sound [] (w ∷ ws) = refl
cuts-all-as-said g sound (x ∷ xs) [] = refl
cuts-all-as-said g sound (x ∷ xs) (w ∷ ws) =
    ap (λ b. ((x == w) || b) && cuts_all g.program xs ws) (sym (cuts-as-said g sound x w))
    ∙ ap (λ b. ((x == w) || cuts g.spaces x w) && b) (cuts-all-as-said g sound xs ws)

-- an index that cuts another is declared so
declared-sub : (r : Range) (w : ℕ) → is_this (range_super r) w ≡ true → r ≡ range.Sub w
declared-sub (range.Segments kind lo hi) w is = absurd (never is)
declared-sub (range.Sub super) w is = ap range.Sub (eqb-true super w is)

-- no declared index cuts a subindex
no-cut-sub : (p : Tree) (indices : List IndexDecl) (x : ℕ) → filter (index_breaks_kind p) indices ≡ [] → cuts_sub p (slice_index_or indices x no_index).range ≡ false
no-cut-sub p [] x none = refl
no-cut-sub p (i ∷ is) zero none = (kept_none (index_breaks_kind p i) i (filter (index_breaks_kind p) is) none).0
no-cut-sub p (i ∷ is) (suc x) none = no-cut-sub p is x (kept_none (index_breaks_kind p i) i (filter (index_breaks_kind p) is) none).1

-- the super index of a subindex is none
pub no-sub-of-sub : (g : Setting) → IsSound g → (sub super : ℕ) → range_in g.program sub ≡ range.Sub super → is_sub g.program super ≡ false
no-sub-of-sub g sound sub super is =
    ap (cuts_sub g.program) (sym is) ∙ no-cut-sub g.program g.program.indices sub (shapes-hold g.program sound.setting.granted).declared_indices

-- an index that cuts another is a subindex
cutting-is-sub : (r : Range) (w : ℕ) → is_this (range_super r) w ≡ true → is_some (range_super r) ≡ true
cutting-is-sub (range.Segments kind lo hi) w is = absurd (never is)
cutting-is-sub (range.Sub super) w is = refl

-- no subindex cuts a subindex
pub no-part-of-part : (g : Setting) → IsSound g → NoPartOfPart g.spaces
no-part-of-part g sound a b c first second =
    let p = g.program in
    let sub : is_sub_of p a b ≡ true = sym (cuts-as-said g sound a b) ∙ first in
    let under : is_sub_of p b c ≡ true = sym (cuts-as-said g sound b c) ∙ second in
    let none : cuts_sub p (range_in p a) ≡ false = no-cut-sub p p.indices a (shapes-hold p sound.setting.granted).declared_indices in
    let not-sub : is_sub p b ≡ false = ap (cuts_sub p) (sym (declared-sub (range_in p a) b sub)) ∙ none in
    never (sym not-sub ∙ cutting-is-sub (range_in p b) c under)
