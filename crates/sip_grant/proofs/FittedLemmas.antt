-- Inputs that fit their program, and inputs that don't.
use Rattle.std.proofs.Common.{◌≡◌, ◌≢◌, ◌∙◌, ℕ, List, Option, None, ap, map, refl, inl, inr, subst}
use Rattle.index_spaces.specs.Given.{Given, placed_by, numbers_given, blocks_given}
use Rattle.index_spaces.specs.Placed.{Placed}
use Rattle.index_spaces.specs.Refusing as spaces
use Rattle.index_spaces.specs.Refusing.{refusal}
use Rattle.index_spaces.specs.Starting.{blocks_in}
use Rattle.index_spaces.specs.declared.start.Start.{Start}
use Rattle.index_spaces.specs.declared.fault.SpaceFault.{SpaceFault}
use Rattle.index_spaces.specs.declared.fault.SpaceKind.TheVariants as kind
use Rattle.input_text.specs.Texts as input
use Rattle.input_text.specs.declared.fault.InputFault.{InputFault}
use Rattle.input_text.specs.declared.fault.InputFault.TheVariants as bad
use Rattle.sial_meaning.specs.Setting as meaning
use Rattle.sial_syntax.specs.Resolved.{AreSpacesBy}
use Rattle.sial_syntax.specs.Sides.{scalar_classes}
use Rattle.sial_syntax.specs.Spaces.{Spaces}
use Rattle.sial_syntax.specs.Tree.{Tree, tree}
use Rattle.sial_syntax.specs.declared.classes.ScalarClass.{ScalarClass}
use Rattle.sial_syntax.specs.declared.classes.Side.{Side}
use Rattle.sip_grant.specs.Ruled.{IsKept, IsBadInput, IsMisfit, BlamesInput}
use Rattle.sip_grant.specs.declared.refusal.Refusal.{Refusal}
use Rattle.sip_grant.specs.declared.refusal.Refusal.TheVariants.{NoProgram, NoTree, Shape, Sides, NoInput, BadInput, Unfit, OutOfMemory}
use Rattle.sip_grant.specs.declared.ruled.Ruled.{Ruled}
use Rattle.sip_input.specs.Given.{IsInput, constants_of}
use Rattle.sip_input.specs.declared.input.Input.{Input}
use Rattle.sip_setting.specs.Given.{given}
use Rattle.sip_setting.specs.Seen.{IsGrantedBy}

-- What `read_input` refuses with, unless memory ran out, is the text's fault.
pub input_fault_is : (text : List ℕ) (fault : InputFault) → input.IsCause text fault → fault ≢ bad.OutOfMemory → IsBadInput text (BadInput fault)
input_fault_is text (bad.BadLine line) cause not = cause
input_fault_is text (bad.TooWide line) cause not = cause
input_fault_is text (bad.Twice line) cause not = cause
input_fault_is text (bad.TooMany line) cause not = cause
input_fault_is text bad.OutOfMemory cause not = absurd (not refl)

-- What `resolve` refuses with, unless memory ran out, is why the input doesn't fit.
pub misfit_is : (refused : Option SpaceFault) (fault : SpaceFault) → spaces.IsCause refused fault → fault.kind ≢ kind.OutOfMemory → IsMisfit refused (Unfit fault)
misfit_is refused fault (inl memory) not = absurd (not memory.0)
misfit_is refused fault (inr first) not = first

-- What is blamed in an input's text or in the input is blamed in the text.
pub blames_bad : (p : Tree) (text : List ℕ) (refusal : Refusal) → IsBadInput text refusal → BlamesInput p text refusal
blames_bad p text NoProgram blames = absurd blames
blames_bad p text (NoTree fault) blames = absurd blames
blames_bad p text (Shape fault) blames = absurd blames
blames_bad p text (Sides fault) blames = absurd blames
blames_bad p text NoInput blames = absurd blames
blames_bad p text (BadInput fault) blames = blames
blames_bad p text (Unfit fault) blames = absurd blames
blames_bad p text OutOfMemory blames = tt

pub blames_misfit : (p : Tree) (text : List ℕ) (i : Input) (r : Refusal) → input.IsInputOf text i → IsMisfit (refusal p (scalar_classes p) i) r → BlamesInput p text r
blames_misfit p text i NoProgram is blames = absurd blames
blames_misfit p text i (NoTree fault) is blames = absurd blames
blames_misfit p text i (Shape fault) is blames = absurd blames
blames_misfit p text i (Sides fault) is blames = absurd blames
blames_misfit p text i NoInput is blames = absurd blames
blames_misfit p text i (BadInput fault) is blames = absurd blames
blames_misfit p text i (Unfit fault) is blames = (i, is, blames)
blames_misfit p text i OutOfMemory is blames = tt

-- settings whose parts are the same
same_setting :
    (p : Tree)
    {scalars classes : List ScalarClass}
    {sides locals : List Side}
    {spaces others : Spaces}
    {numbers starts : List ℕ}
    {blocks givens : List meaning.Given}
    → scalars ≡ classes
    → sides ≡ locals
    → spaces ≡ others
    → numbers ≡ starts
    → blocks ≡ givens
    → ◌≡◌ {A = meaning.Setting}
    (record { program = p; scalars = scalars; sides = sides; spaces = spaces; numbers = numbers; blocks = blocks })
    (record { program = p; scalars = classes; sides = locals; spaces = others; numbers = starts; blocks = givens })
same_setting p of_scalars of_sides of_spaces of_numbers of_blocks = cc

-- What `resolve` gives a program that keeps the rules is granted.
pub is_granted :
    (r : Ruled)
    (i : Input)
    (spaces : Placed)
    (start : Start)
    → IsKept r
    → IsInput i
    → refusal (tree r.program) r.classes.scalars.items i ≡ None
    → spaces ≡ placed_by (tree r.program) i
    → AreSpacesBy (constants_of i) (tree r.program) spaces.spaces
    → start.scalars.items ≡ numbers_given (tree r.program) i
    → blocks_in start ≡ blocks_given (tree r.program) spaces.spaces i
    → IsGrantedBy i (record { program = r.program; classes = r.classes; spaces = spaces; start = start })
is_granted r i spaces start kept proper fits placed own numbers blocks = record {
  proper = kept.proper;
  input_is = proper;
  granted = record {
    rules = kept.rules;
    fits = subst (λ (c : List ScalarClass). refusal (tree r.program) c i ≡ None) kept.scalars fits;
  };
  placed = placed;
  spaces = own;
  setting = same_setting (tree r.program) kept.scalars kept.locals (ap (λ (s : Placed). s.spaces) placed) numbers
      (ap (λ (bs : List Given). map given bs) (blocks ∙ ap (λ (s : Placed). blocks_given (tree r.program) s.spaces i) placed));
}
