-- What is worked out on plain numbers is what the sequential meaning makes of them.
use Rattle.std.proofs.Common.{◌≡◌, ℕ, List, [], ◌∷◌, map, Option, Some, Result, refl, sym, ap, ◌∙◌, subst, unwrap_or}
use Rattle.sial_syntax.specs.Tree.{Block, Then, Plain}
use Rattle.sial_meaning.specs.Meaning.{calls, call_depth}
use Rattle.sial_meaning.specs.Statement.{Present}
use Rattle.first_profile.specs.Running.{Numbers, state_of, numbers_in, numbers_of, form_numbers, body_numbers, form_prints, body_prints}
use Rattle.first_profile.proofs.StatementsLemmas.{Left}
use Rattle.first_profile.proofs.Sequential.{form_law, body_law}
use Rattle.first_profile.proofs.Worked.{ran, ran_form, form_lines, body_lines}
use Rattle.first_profile.specs.FirstTree.{IsBody, IsForm}
use Rattle.first_profile.specs.Fits.{Fits, IsWithin}
use Rattle.first_profile.specs.Ran.{Ran}
use Rattle.first_profile.specs.Ready.{IsFirstSetting}
use Rattle.first_profile.specs.declared.fault.RunFault.{RunFault}
use Rattle.first_profile.proofs.RanLemmas.{same_ran}
use Rattle.sip_files.specs.Kept.{Kept}
use Rattle.sial_meaning.specs.Setting.{Setting}
use Rattle.sip_setting.specs.Printing.{lines_of, text_of}

-- numbers that are all there
all-there : (ns : List ℕ) → map (λ n. unwrap_or n 0) (map Some ns) ≡ ns
all-there [] = refl
all-there (n ∷ ns) = ap (λ rest. n ∷ rest) (all-there ns)

-- the numbers of the state that they stand for
pub read-back : (g : Setting) (m : Numbers) (lines : List (List ℕ)) → numbers_in (state_of g m lines) ≡ m
read-back g m lines = ap (λ (ns : List ℕ). record m { scalars = ns }) (all-there m.scalars)

module _ (g : Setting) (loop : Option ℕ) (m : Numbers) (is : IsFirstSetting g) (fits : Fits g m) (within : IsWithin g m loop) where
  -- the numbers after one statement
  pub form-numbers : (form : Plain) → IsForm g.program loop form → form_numbers g form m ≡ ran_form g form m
  unfolding form_numbers
  form-numbers form form_is =
      ap numbers_of (form_law g (calls Present g call_depth) loop 0 form m [] is form_is fits within)
      ∙ read-back g (ran_form g form m) (form_lines g form m)

  -- its lines
  pub form-prints : (form : Plain) → IsForm g.program loop form → form_prints g form m ≡ form_lines g form m
  unfolding form_prints
  form-prints form form_is = ap lines_of (form_law g (calls Present g call_depth) loop 0 form m [] is form_is fits within)

  -- the numbers after some statements
  pub body-numbers : (body : Block) → IsBody g.program loop body → body_numbers g body m ≡ ran g body m
  unfolding body_numbers
  body-numbers body body_is =
      ap numbers_of (body_law g (calls Present g call_depth) loop body m [] is body_is fits within)
      ∙ read-back g (ran g body m) (body_lines g body m)

  -- their lines
  pub body-prints : (body : Block) → IsBody g.program loop body → body_prints g body m ≡ body_lines g body m
  unfolding body_prints
  body-prints body body_is = ap lines_of (body_law g (calls Present g call_depth) loop body m [] is body_is fits within)

-- the statement at hand of a body that is left
front-form : {g : Setting} {loop : Option ℕ} {body : Block} {all m : Numbers} {line : ℕ} {form : Plain} {rest : Block} → Left g loop body all m → body ≡ Then line form rest → IsForm g.program loop form
front-form {g = g} {loop = loop} left front = (subst (λ (b : Block). IsBody g.program loop b) front left.is).0

-- its numbers, worked out
pub next-numbers : {g : Setting} {loop : Option ℕ} {body : Block} {all m n : Numbers} {line : ℕ} {form : Plain} {rest : Block} → IsFirstSetting g → Left g loop body all m → body ≡ Then line form rest → n ≡ form_numbers g form m → n ≡ ran_form g form m
next-numbers {g = g} {loop = loop} {m = m} {form = form} is left front numbers = numbers ∙ form-numbers g loop m is left.fits left.within form (front-form left front)

-- its lines, worked out
pub next-ran : {old new : Option (List ℕ)} {before now : ℕ} {was kept : Kept} {result : Result (Unit {0}) RunFault} {g : Setting} {loop : Option ℕ} {body : Block} {all m : Numbers} {line : ℕ} {form : Plain} {rest : Block} → IsFirstSetting g → Left g loop body all m → body ≡ Then line form rest → Ran old new before now was kept (text_of (form_prints g form m)) result → Ran old new before now was kept (text_of (form_lines g form m)) result
next-ran {g = g} {loop = loop} {m = m} {form = form} is left front wrote = same_ran (ap text_of (form-prints g loop m is left.fits left.within form (front-form left front))) wrote

-- the lines of a body, as the meaning has them
pub whole-ran : {old new : Option (List ℕ)} {before now : ℕ} {was kept : Kept} {result : Result (Unit {0}) RunFault} (g : Setting) (loop : Option ℕ) (m : Numbers) (body : Block) → IsFirstSetting g → Fits g m → IsWithin g m loop → IsBody g.program loop body → Ran old new before now was kept (text_of (body_lines g body m)) result → Ran old new before now was kept (text_of (body_prints g body m)) result
whole-ran g loop m body is fits within body_is wrote = same_ran (sym (ap text_of (body-prints g loop m is fits within body body_is))) wrote

-- the lines of a statement, as the meaning has them
pub form-ran : {old new : Option (List ℕ)} {before now : ℕ} {was kept : Kept} {result : Result (Unit {0}) RunFault} (g : Setting) (loop : Option ℕ) (m : Numbers) (form : Plain) → IsFirstSetting g → Fits g m → IsWithin g m loop → IsForm g.program loop form → Ran old new before now was kept (text_of (form_lines g form m)) result → Ran old new before now was kept (text_of (form_prints g form m)) result
form-ran g loop m form is fits within form_is wrote = same_ran (sym (ap text_of (form-prints g loop m is fits within form form_is))) wrote
