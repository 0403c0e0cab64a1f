-- In a program of the first profile each scalar is replicated, since there is no pardo.
use Rattle.std.proofs.Common.{◌≡◌, ℕ, zero, suc, List, [], ◌∷◌, ◌++◌, map, filter, fold, Bool, true, false, ◌&&◌, ◌||◌, not, Option, Some, None, slice_index_or, length, refl, ap, ◌∙◌}
use Rattle.std.specs.List.{list_any, enumerate_from, All}
use Rattle.std.proofs.lemmas.List.Elements.{All-nil, All-cons, All-head, All-tail, All-append, All-map, All-filter, All-replicate, All-weaker}
use Rattle.std.proofs.lemmas.List.Folds.{list_any_none}
use Rattle.sial_syntax.specs.Agreeing.{contains}
use Rattle.sial_syntax.specs.declared.classes.ScalarClass.{ScalarClass}
use Rattle.sial_syntax.specs.declared.classes.ScalarClass.TheVariants.{Replicated}
use Rattle.sial_syntax.specs.declared.operand.Bin.TheVariants.{Times}
use Rattle.sial_syntax.specs.declared.operand.Op.TheVariants.{Set, Add}
use Rattle.sial_syntax.specs.declared.operand.Operand.TheVariants as operand
use Rattle.sial_syntax.specs.declared.operand.Right.TheVariants.{One, Two}
use Rattle.sial_syntax.specs.declared.operand.Target.TheVariants as target
use Rattle.sial_syntax.specs.Sides.{Sides, Sided, no_side, either_side, sides_at, sided, sided_body, sided_procedures, called_by, sides_given, procedure_sides, all_sided, is_inner, writes, is_accumulation, class_by, class_of_scalar}
use Rattle.sial_syntax.specs.Tree.{Tree, Procedure, Block, End, Then, Plain, Do, Assign, PrintScalar}
use Rattle.sial_syntax.specs.Visits.{Visit, visits, inner_visits, body_visits}
use Rattle.sial_meaning.specs.Setting.{Setting, scalar_class}
use Rattle.first_profile.specs.FirstTree.{IsBody, IsForm, IsProcedure, IsFirstTree}
use Rattle.first_profile.specs.Ready.{IsFirstSetting}

-- sides none of which is within a pardo
abbrev NoInner : Sides → Type 0
NoInner sides = sides.inner ≡ false

-- a statement that stands outside of pardos
abbrev IsOutside : Sided → Type 0
IsOutside s = NoInner s.sides

-- the same of a statement where it stands in its body
abbrev IsApart : Visit → Type 0
IsApart v = v.within ≡ false

mutual
  -- the statements inside a statement of the profile stand outside of pardos
  apart-inside : (p : Tree) (loop : Option ℕ) (bound : List ℕ) (form : Plain) → IsForm p loop form → All IsApart (inner_visits bound false form)
  apart-inside p None bound (Do index body) is = apart p (Some index) (index ∷ bound) body is.1
  apart-inside p (Some outer) bound (Do index body) is = absurd is
  apart-inside p loop bound (Assign (target.Block t) Set (One (operand.Number n))) is = All-nil IsApart
  apart-inside p loop bound (Assign (target.Block t) Add (One (operand.Block b))) is = All-nil IsApart
  apart-inside p loop bound (Assign (target.Scalar s) Set (One (operand.Number n))) is = All-nil IsApart
  apart-inside p loop bound (Assign (target.Scalar s) Add (One (operand.Number n))) is = All-nil IsApart
  apart-inside p loop bound (Assign (target.Scalar s) Set (Two (operand.Block a) Times (operand.Block b))) is = All-nil IsApart
  apart-inside p loop bound (PrintScalar s) is = All-nil IsApart
  apart-inside p loop bound form is = absurd is

  -- and so do the statements of a body of the profile
  apart : (p : Tree) (loop : Option ℕ) (bound : List ℕ) (body : Block) → IsBody p loop body → All IsApart (visits bound false body)
  apart p loop bound End is = All-nil IsApart
  apart p loop bound (Then line form rest) is =
      All-cons
      IsApart
      (record { line = line; form = form; bound = bound; within = false })
      (inner_visits bound false form ++ visits bound false rest)
      refl
      (All-append IsApart (inner_visits bound false form) (visits bound false rest) (apart-inside p loop bound form is.0) (apart p loop bound rest is.1))

-- the statements of such a body, which stands outside of pardos itself
body-outside : (p : Tree) (sides : Sides) (body : Block) → NoInner sides → IsBody p None body → All IsOutside (sided_body sides body)
body-outside p sides body none is =
    All-map
    IsOutside
    (λ (v : Visit). record { line = v.line; form = v.form; sides = sides_at sides v.within })
    (body_visits body)
    (All-weaker
    IsApart
    (λ (v : Visit). NoInner (sides_at sides v.within))
    (λ v stands. ap (λ (b : Bool). (sides_at sides b).inner) stands ∙ none)
    (body_visits body)
    (apart p None [] body is))

-- those of the procedures
procedures-outside : (p : Tree) (qs : List Procedure) (ss : List Sides) → All (IsProcedure p) qs → All NoInner ss → All IsOutside (sided_procedures qs ss)
procedures-outside p [] ss are none = All-nil IsOutside
procedures-outside p (q ∷ qs) [] are none = All-nil IsOutside
procedures-outside p (q ∷ qs) (s ∷ ss) are none =
    All-append
    IsOutside
    (sided_body s q.body)
    (sided_procedures qs ss)
    (body-outside p s q.body (All-head NoInner s ss none) (All-head (IsProcedure p) q qs are))
    (procedures-outside p qs ss (All-tail (IsProcedure p) q qs are) (All-tail NoInner s ss none))

-- and so all of the program's, where the procedures stand outside
all-outside : (p : Tree) → IsFirstTree p → (ss : List Sides) → All NoInner ss → All IsOutside (sided p ss)
all-outside p is ss none =
    All-append
    IsOutside
    (sided_body (record { outer = true; inner = false }) p.body)
    (sided_procedures p.procedures ss)
    (body-outside p (record { outer = true; inner = false }) p.body refl is.body)
    (procedures-outside p p.procedures ss is.procedures none)

-- sides together have no more than each
no-inner : (ss : List Sides) (from : Sides) → NoInner from → All NoInner ss → NoInner (fold either_side from ss)
no-inner [] from none all = none
no-inner (s ∷ ss) from none all =
    no-inner ss (either_side from s)
    (ap (λ (b : Bool). b || s.inner) none ∙ All-head NoInner s ss all)
    (All-tail NoInner s ss all)

-- calls outside of pardos give no inner side
given-outside : (calls : List Sided) (procedure : ℕ) → All IsOutside calls → NoInner (sides_given calls procedure)
given-outside calls procedure are =
    let calling : List Sided = filter (λ (s : Sided). contains (called_by s.form) procedure) calls in
    no-inner (map (λ (s : Sided). s.sides) calling) no_side refl
    (All-map NoInner (λ (s : Sided). s.sides) calling (All-filter (λ (s : Sided). contains (called_by s.form) procedure) IsOutside calls are))

-- what holds of everything holds of each element
everywhere : {X : Type 0} (P : X → Type 0) → ((x : X) → P x) → (xs : List X) → All P xs
everywhere P holds [] = All-nil P
everywhere P holds (x ∷ xs) = All-cons P x xs (holds x) (everywhere P holds xs)

-- so no procedure is called within a pardo
sides-outside : (p : Tree) → IsFirstTree p → (depth : ℕ) → All NoInner (procedure_sides p depth)
sides-outside p is zero = All-replicate NoInner (length p.procedures) no_side refl
sides-outside p is (suc depth) =
    let before : All IsOutside (sided p (procedure_sides p depth)) = all-outside p is (procedure_sides p depth) (sides-outside p is depth) in
    All-map
    NoInner
    (λ (q : ℕ × Procedure). sides_given (sided p (procedure_sides p depth)) q.0)
    (enumerate_from 0 p.procedures)
    (everywhere
    (λ (q : ℕ × Procedure). NoInner (sides_given (sided p (procedure_sides p depth)) q.0))
    (λ q. given-outside (sided p (procedure_sides p depth)) q.0 before)
    (enumerate_from 0 p.procedures))

-- the class of a scalar that is written in no pardo
unwritten : (all : List Sided) (scalar : ℕ) → list_any (λ s. is_inner s && writes scalar s) all ≡ false → class_of_scalar all scalar ≡ Replicated
unwritten all scalar none = ap (λ (b : Bool). class_by b (not (list_any (λ s. is_inner s && (writes scalar s && not (is_accumulation s.form))) all))) none

-- each scalar of a tree of the profile
replicated : (p : Tree) → IsFirstTree p → (scalar : ℕ) → class_of_scalar (all_sided p) scalar ≡ Replicated
replicated p is scalar =
    unwritten (all_sided p) scalar
    (list_any_none
    (λ s. is_inner s && writes scalar s)
    (all_sided p)
    (All-weaker
    IsOutside
    (λ (s : Sided). (is_inner s && writes scalar s) ≡ false)
    (λ s outside. ap (λ (b : Bool). b && writes scalar s) outside)
    (all_sided p)
    (all-outside p is (procedure_sides p (length p.procedures)) (sides-outside p is (length p.procedures)))))

-- classes that are all replicated, read anywhere
read-all : {X : Type 0} (f : X → ScalarClass) → ((x : X) → f x ≡ Replicated) → (xs : List X) (i : ℕ) → slice_index_or (map f xs) i Replicated ≡ Replicated
read-all f each [] i = refl
read-all f each (x ∷ xs) zero = each x
read-all f each (x ∷ xs) (suc i) = read-all f each xs i

-- so each scalar of such a setting is replicated
pub class-is : (g : Setting) → IsFirstSetting g → (scalar : ℕ) → scalar_class g scalar ≡ Replicated
class-is g is scalar =
    ap (λ (cs : List ScalarClass). slice_index_or cs scalar Replicated) is.ready.classes
    ∙ read-all (λ (x : ℕ × List ℕ). class_of_scalar (all_sided g.program) x.0) (λ x. replicated g.program is.tree x.0) (enumerate_from 0 g.program.scalars) scalar
