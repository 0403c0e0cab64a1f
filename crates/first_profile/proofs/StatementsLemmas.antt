-- One statement of a body, and one turn of a loop, as parts of the whole.
use Rattle.std.proofs.Common.{◌≡◌, ℕ, ◌+◌, ◌-◌, ◌<◌, ◌≤◌, List, [], ◌++◌, arith, Option, Result, Ok, Err, sym, ap, ◌∙◌, subst}
use Rattle.sial_syntax.specs.Boxes.{numbers_from}
use Rattle.sial_syntax.specs.Tree.{Block, Then, Plain, Assign, plain_form, plain_layer, with_line}
use Rattle.sial_syntax.specs.declared.operand.Op.{Op}
use Rattle.sial_syntax.specs.declared.operand.Right.{Right}
use Rattle.sial_syntax.specs.declared.operand.Target.{Target}
use Rattle.sial_syntax.specs.declared.statement.Form as form
use Rattle.sial_syntax.specs.declared.statement.Form.{fold_out-Form}
use Rattle.sip_files.specs.Kept.{Kept}
use Rattle.sial_syntax.specs.Spaces.{first_of, count_of}
use Rattle.sial_meaning.specs.Setting.{Setting}
use Rattle.sip_setting.specs.Printing.{text_of}
use Rattle.first_profile.specs.FirstTree.{IsBody}
use Rattle.first_profile.specs.Fits.{Fits, IsWithin}
use Rattle.first_profile.specs.Ran.{Ran, RanSoFar}
use Rattle.first_profile.specs.Running.{Numbers, segments_in}
use Rattle.first_profile.proofs.Worked.{ran, ran_form, body_lines, form_lines, through, lines_through}
use Rattle.first_profile.specs.declared.fault.RunFault.{RunFault}
use Rattle.first_profile.proofs.FitsLemmas.{fits_form, within_form}
use Rattle.first_profile.proofs.NumbersFrom.{one_turn}
use Rattle.first_profile.proofs.RanLemmas.{further, stopped_so_far}

-- a fault that was handed on is the fault
pub handed_on : {old new : Option (List ℕ)} {before now : ℕ} {was is : Kept} {text : List ℕ} (fault : RunFault) (returned : Result (Unit {0}) RunFault) → ((y : RunFault) × (returned ≡ Err y) × (y ≡ fault)) → Ran old new before now was is text (Err fault) → Ran old new before now was is text returned
handed_on {old = old} {new = new} {before = before} {now = now} {was = was} {is = is} {text = text} fault returned (y, gave, same) ran =
    subst (λ (r : Result (Unit {0}) RunFault). Ran old new before now was is text r) (sym (gave ∙ ap Err same)) ran

-- a statement that stopped stops its body
pub body_stopped : {old mid new : Option (List ℕ)} {before between now : ℕ} {was between_is is : Kept} {all : List (List ℕ)} {fault : RunFault} (g : Setting) (m : Numbers) (body : Block) (line : ℕ) (form : Plain) (rest : Block) → body ≡ Then line form rest → RanSoFar old mid before between was between_is all (body_lines g body m) → Ran mid new between now between_is is (text_of (form_lines g form m)) (Err fault) → Ran old new before now was is (text_of all) (Err fault)
body_stopped {old = old} {mid = mid} {before = before} {between = between} {was = was} {between_is = between_is} {all = all} g m body line form rest front so went =
    stopped_so_far
    (form_lines g form m)
    (body_lines g rest (ran_form g form m))
    (subst (λ (b : Block). RanSoFar old mid before between was between_is all (body_lines g b m)) front so)
    went

-- what a body keeps from statement to statement: what is left of it gives the numbers that all of it gives
pub record Left (g : Setting) (loop : Option ℕ) (body : Block) (all m : Numbers) : Type 0 where
  pub fits : Fits g m
  pub within : IsWithin g m loop
  pub is : IsBody g.program loop body
  pub same : ran g body m ≡ all

-- the next statement's numbers, and what is left then
pub left_next : (g : Setting) (loop : Option ℕ) (body : Block) (line : ℕ) (form : Plain) (rest : Block) (all m n : Numbers) → body ≡ Then line form rest → n ≡ ran_form g form m → Left g loop body all m → Left g loop rest all n
left_next g loop body line form rest all m n front is left =
    let here = subst (λ (b : Block). Left g loop b all m) front left in
    subst
    (λ (o : Numbers). Left g loop rest all o)
    (sym is)
    (record {
      fits = fits_form g loop form m here.is.0 here.fits here.within;
      within = within_form g loop form m here.is.0 here.within;
      is = here.is.1;
      same = here.same;
    })

-- the next statement's lines
pub lines_next : {old mid new : Option (List ℕ)} {before between now : ℕ} {was between_is is : Kept} {all : List (List ℕ)} (g : Setting) (m n : Numbers) (body : Block) (line : ℕ) (form : Plain) (rest : Block) → body ≡ Then line form rest → n ≡ ran_form g form m → RanSoFar old mid before between was between_is all (body_lines g body m) → Ran mid new between now between_is is (text_of (form_lines g form m)) (Ok tt) → RanSoFar old new before now was is all (body_lines g rest n)
lines_next {old = old} {mid = mid} {new = new} {before = before} {between = between} {now = now} {was = was} {between_is = between_is} {is = is} {all = all} g m n body line form rest front same so went =
    subst
    (λ (o : Numbers). RanSoFar old new before now was is all (body_lines g rest o))
    (sym same)
    (further
    (form_lines g form m)
    (body_lines g rest (ran_form g form m))
    (subst (λ (b : Block). RanSoFar old mid before between was between_is all (body_lines g b m)) front so)
    went)

-- one turn of a loop, and the turns behind it
pub through_turn : (turn : ℕ → Numbers → Numbers) (first i n : ℕ) (m : Numbers) → i < n → through (numbers_from (first + i) (n - i)) turn m ≡ through (numbers_from (first + (i + 1)) (n - (i + 1))) turn (turn (first + i) m)
through_turn turn first i n m within = ap (λ ks. through ks turn m) (one_turn first i n within)

-- the lines of one turn of a loop, and of the turns behind it
pub lines_turn : (turn : ℕ → Numbers → Numbers) (lines : ℕ → Numbers → List (List ℕ)) (first i n : ℕ) (m : Numbers) → i < n → lines_through (numbers_from (first + i) (n - i)) turn lines m ≡ lines (first + i) m ++ lines_through (numbers_from (first + (i + 1)) (n - (i + 1))) turn lines (turn (first + i) m)
lines_turn turn lines first i n m within = ap (λ ks. lines_through ks turn lines m) (one_turn first i n within)

-- after the last turn no numbers change
pub through_ended : (turn : ℕ → Numbers → Numbers) (first i n : ℕ) (m all : Numbers) → n ≤ i → through (numbers_from (first + i) (n - i)) turn m ≡ all → m ≡ all
through_ended turn first i n m all ended so =
    let none : n - i ≡ 0 = omega (arith, ended) in
    sym (ap (λ k. through (numbers_from (first + i) k) turn m) none) ∙ so

-- and no lines are left
pub lines_ended : (turn : ℕ → Numbers → Numbers) (lines : ℕ → Numbers → List (List ℕ)) (first i n : ℕ) (m : Numbers) → n ≤ i → lines_through (numbers_from (first + i) (n - i)) turn lines m ≡ []
lines_ended turn lines first i n m ended =
    let none : n - i ≡ 0 = omega (arith, ended) in
    ap (λ k. lines_through (numbers_from (first + i) k) turn lines m) none

-- the lines so far with what is left said otherwise
pub so_far_same : {old new : Option (List ℕ)} {before now : ℕ} {was is : Kept} {all rest other : List (List ℕ)} → rest ≡ other → RanSoFar old new before now was is all rest → RanSoFar old new before now was is all other
so_far_same {old = old} {new = new} {before = before} {now = now} {was = was} {is = is} {all = all} same so =
    subst (λ (r : List (List ℕ)). RanSoFar old new before now was is all r) same so

-- the segments of an index, by its first one and their count
pub segments_are : (g : Setting) (index first count : ℕ) → first ≡ first_of g.spaces index → count ≡ count_of g.spaces index → numbers_from first count ≡ segments_in g index
segments_are g index first count is_first is_count =
    ap (λ k. numbers_from k count) is_first ∙ ap (λ n. numbers_from (first_of g.spaces index) n) is_count

-- an assignment as it is seen
pub seen_assign : (target : Target) (op : Op) (right : Right) → plain_form (form.Assign target op right) ≡ Assign target op right
unfolding form.out-Form denote.Hole.Carrier.out
seen_assign target op right = fold_out-Form Plain (ℕ × Plain) plain_layer with_line (form.Assign target op right)
