-- What the rest of the work still owes, by the numbers that its indices have.
use Rattle.std.proofs.Common.{◌≡◌, ℕ, ◌+◌, ◌-◌, ◌*◌, ◌≤◌, List, slice_index_or, ◌==◌, true, refl, ap, ◌∙◌, arith}
use Rattle.sial_syntax.specs.Agreeing.{contains}
use Rattle.sial_syntax.specs.Boxes.{volume}
use Rattle.sial_syntax.specs.Numbering.{size}
use Rattle.sial_syntax.specs.Spaces.{box_of}
use Rattle.sial_syntax.specs.Tree.{Block, End, Then}
use Rattle.sial_meaning.specs.Control.{depth_left}
use Rattle.sial_meaning.specs.Meaning.{call_depth}
use Rattle.sial_meaning.specs.Next as next
use Rattle.sial_meaning.specs.Next.{next_of}
use Rattle.sial_meaning.specs.Rest.{Rest, Over, Next, Turn, Join, Back, Within, push}
use Rattle.sial_meaning.specs.Setting.{Setting}
use Rattle.sial_meaning.proofs.AssignmentsReadBack.Places.{or-right}
use Rattle.sial_meaning.proofs.StatesAreWhole.Rest.{GoodRest}
use Rattle.sial_meaning.proofs.StepsReachTheFold.Turns.{depth_pushed, first_among}
use Rattle.sequential_costs.proofs.StepsAreFew.Uncapped.{block_steps, form_steps, call_steps, some_step}

-- the steps of a body before a rest, whose calls go as deep as that rest leaves
abbrev pub body_steps : Setting → Rest → Block → ℕ
body_steps g rest body = block_steps g (call_steps g (depth_left rest)) body

-- the steps that the rest still takes at most: a loop under way its turns that are left, a pardo its tuples
abbrev pub owed : Setting → (values : List ℕ) → Rest → ℕ
owed g values (Over at) = 0
owed g values (Next at line form rest) = form_steps g (call_steps g (depth_left rest)) form + owed g values rest
owed g values (Turn loop last rest) = 1 + ((last - slice_index_or values loop.index 0) * (1 + body_steps g rest loop.body) + owed g values rest)
owed g values (Join at rest) = 1 + owed g values rest
owed g values (Back at kept rest) = 1 + owed g kept rest
owed g values (Within pardo number rest) = 1 + ((volume (box_of g.spaces pardo.indices) - number) * (1 + body_steps g rest pardo.body) + owed g values rest)

-- statements before the rest
pub pushed : (g : Setting) (values : List ℕ) (at : ℕ) (body : Block) (rest : Rest) → owed g values (push at body rest) ≡ body_steps g rest body + owed g values rest
pushed g values at End rest = omega arith
pushed g values at (Then line form more) rest =
    let next = at + size form in
    let first : form_steps g (call_steps g (depth_left (push next more rest))) form ≡ form_steps g (call_steps g (depth_left rest)) form =
    ap (λ n. form_steps g (call_steps g (call_depth - n)) form) (depth_pushed next more rest) in
    let others = pushed g values next more rest in
    omega (arith, first, others)

-- the numbers of indices that are bound in the rest decide
pub same_owed : (g : Setting) (indices v w : List ℕ) (rest : Rest) → GoodRest g indices rest → ((i : ℕ) → contains indices i ≡ true → slice_index_or v i 0 ≡ slice_index_or w i 0)
    → owed g v rest ≡ owed g w rest
same_owed g indices v w (Over at) good same = refl
same_owed g indices v w (Next at line form rest) good same = ap (λ n. form_steps g (call_steps g (depth_left rest)) form + n) (same_owed g indices v w rest good.3 same)
same_owed g indices v w (Turn loop last rest) good same =
    let here = same loop.index (good.2 loop.index (first_among loop.index good.0)) in
    let others = same_owed g good.0 v w rest good.7 (λ i has. same i (good.2 i (or-right (loop.index == i) (contains good.0 i) has))) in
    ap (λ n. 1 + ((last - n) * (1 + body_steps g rest loop.body) + owed g v rest)) here
    ∙ ap (λ n. 1 + ((last - slice_index_or w loop.index 0) * (1 + body_steps g rest loop.body) + n)) others
same_owed g indices v w (Join at rest) good same = ap (λ n. 1 + n) (same_owed g indices v w rest good same)
same_owed g indices v w (Back at values rest) good same = refl
same_owed g indices v w (Within pardo number rest) good same =
    ap (λ n. 1 + ((volume (box_of g.spaces pardo.indices) - number) * (1 + body_steps g rest pardo.body) + n)) (same_owed g good.0 v w rest good.6 (λ i has. same i (good.1 i has)))

-- where nothing is owed nothing is left
pub none_owed : (g : Setting) (values : List ℕ) (rest : Rest) → owed g values rest ≤ 0 → next_of rest ≡ next.Over
none_owed g values (Over at) none = refl
none_owed g values (Next at line form rest) none = let some = some_step g (call_steps g (depth_left rest)) form in absurd (omega (arith, some, none))
none_owed g values (Turn loop last rest) none = absurd (omega (arith, none))
none_owed g values (Join at rest) none = absurd (omega (arith, none))
none_owed g values (Back at kept rest) none = absurd (omega (arith, none))
none_owed g values (Within pardo number rest) none = absurd (omega (arith, none))
