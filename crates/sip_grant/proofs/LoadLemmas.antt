-- What loads one after another show of the texts that they read.
use Rattle.std.proofs.Common.{◌≡◌, ℕ, List, [], ◌∷◌, Ok, inl, inr, refl, sym, subst}
use Rattle.sip_files.specs.Loading.{LoadOf}
use Rattle.input_text.specs.Texts.{IsInputOf}
use Rattle.sial_syntax.specs.Tree.{Tree, tree}
use Rattle.sip_grant.specs.Granting.{IsGrantedFor}
use Rattle.sip_grant.specs.Loads.{IsUnread, IsStarved, AreRead}
use Rattle.sip_grant.specs.Names.{Names, named, program_file, program_of, input_of, files_of}
use Rattle.sip_grant.specs.Refusals.{ForTexts, Refuses, RefusesProgram, BlamesProgram}
use Rattle.sip_grant.specs.Ruled.{IsRuled, BlamesInput}
use Rattle.sip_grant.specs.Sources.{IsSourceOf}
use Rattle.sip_grant.specs.declared.refusal.Refusal.{Refusal}
use Rattle.sip_grant.specs.declared.refusal.Refusal.TheVariants.{NoProgram, NoTree, Shape, Sides, NoInput, BadInput, Unfit, OutOfMemory}
use Rattle.sip_grant.specs.declared.ruled.Ruled.{Ruled}
use Rattle.sip_input.specs.declared.input.Input.{Input}
use Rattle.sip_setting.specs.Seen.{IsGrantedBy}
use Rattle.sip_setting.specs.declared.granted.Granted.{Granted}

-- both files at hand
both_read : {F : Type 0} (load : LoadOf F) (old mid new : F) (names : Names) (text input : List ℕ) (r : Ruled) → load old (program_of names) (Ok tt) text mid → IsRuled text r → load mid (input_of names) (Ok tt) input new → AreRead load old new (files_of names) (text ∷ input ∷ [])
both_read load old mid new names text input r loaded is again =
    (mid, loaded, (tree r.program, record { source_is = is.source_is; rules = is.kept.rules }), (new, again, tt, refl))

-- What was granted behind both loads was granted for their texts.
pub granted_for :
    {F : Type 0}
    (load : LoadOf F)
    (old mid new : F)
    (program input : List ℕ)
    (text given_text : List ℕ)
    (r : Ruled)
    (given : Input)
    (job : Granted)
    → load old (program_file program) (Ok tt) text mid
    → IsRuled text r
    → load mid (input_of (named program input)) (Ok tt) given_text new
    → tree job.program ≡ tree r.program
    → IsInputOf given_text given
    → IsGrantedBy given job
    → ForTexts load old new (named program input) (λ program input. IsGrantedFor program input job)
granted_for load old mid new program input text given_text r given job loaded is again same input_is granted = (
  text,
  given_text,
  both_read load old mid new (named program input) text given_text r loaded is again,
  record {
    given = given;
    program_is = subst (λ (p : Tree). IsSourceOf text p) (sym same) is.source_is;
    input_is = input_is;
    granted = granted;
  },
)

-- What is blamed in the text of the input refuses both.
pub refuses_texts :
    {F : Type 0}
    (load : LoadOf F)
    (old mid new : F)
    (program input : List ℕ)
    (text given_text : List ℕ)
    (r : Ruled)
    (refusal : Refusal)
    → load old (program_file program) (Ok tt) text mid
    → IsRuled text r
    → load mid (input_of (named program input)) (Ok tt) given_text new
    → BlamesInput (tree r.program) given_text refusal
    → Refuses load old new (named program input) refusal
refuses_texts load old mid new program input text given_text r NoProgram loaded is again blames = absurd blames
refuses_texts load old mid new program input text given_text r (NoTree fault) loaded is again blames = absurd blames
refuses_texts load old mid new program input text given_text r (Shape fault) loaded is again blames = absurd blames
refuses_texts load old mid new program input text given_text r (Sides fault) loaded is again blames = absurd blames
refuses_texts load old mid new program input text given_text r NoInput loaded is again blames = absurd blames
refuses_texts load old mid new program input text given_text r (BadInput fault) loaded is again blames = (
  text,
  given_text,
  both_read load old mid new (named program input) text given_text r loaded is again,
  record { program = tree r.program; program_is = record { source_is = is.source_is; rules = is.kept.rules }; fault_is = blames },
)
refuses_texts load old mid new program input text given_text r (Unfit fault) loaded is again (given, input_is, first) = (
  text,
  given_text,
  both_read load old mid new (named program input) text given_text r loaded is again,
  record {
    program = tree r.program;
    given = given;
    program_is = record { source_is = is.source_is; rules = is.kept.rules };
    input_is = input_is;
    first = first;
  },
)
refuses_texts load old mid new program input text given_text r OutOfMemory loaded is again blames =
    inr (inr (text, mid, loaded, inr ((tree r.program, record { source_is = is.source_is; rules = is.kept.rules }), inr (inr (given_text, new, again, inl refl)))))

-- An input that isn't read, behind a program that keeps the rules.
pub no_input :
    {F : Type 0}
    (load : LoadOf F)
    (old mid new : F)
    (program input : List ℕ)
    (text : List ℕ)
    (r : Ruled)
    → load old (program_file program) (Ok tt) text mid
    → IsRuled text r
    → IsUnread load mid new (input_of (named program input))
    → Refuses load old new (named program input) NoInput
no_input load old mid new program input text r loaded is unread =
    inr (text, mid, loaded, (tree r.program, record { source_is = is.source_is; rules = is.kept.rules }), inl (refl, unread))

-- Memory that runs out in the load of the input.
pub starved :
    {F : Type 0}
    (load : LoadOf F)
    (old mid new : F)
    (program input : List ℕ)
    (text : List ℕ)
    (r : Ruled)
    → load old (program_file program) (Ok tt) text mid
    → IsRuled text r
    → IsStarved load mid new (input_of (named program input))
    → Refuses load old new (named program input) OutOfMemory
starved load old mid new program input text r loaded is starves =
    inr (inr (text, mid, loaded, inr ((tree r.program, record { source_is = is.source_is; rules = is.kept.rules }), inr (inl starves))))

-- What is blamed in the text of the program refuses it.
pub refuses_program :
    {F : Type 0}
    (load : LoadOf F)
    (old new : F)
    (name : List ℕ)
    (text : List ℕ)
    (refusal : Refusal)
    → load old (program_file name) (Ok tt) text new
    → BlamesProgram text refusal
    → RefusesProgram load old new name refusal
refuses_program load old new name text NoProgram loaded blames = absurd blames
refuses_program load old new name text (NoTree fault) loaded blames = (text, loaded, blames)
refuses_program load old new name text (Shape fault) loaded blames = (text, loaded, blames)
refuses_program load old new name text (Sides fault) loaded blames = (text, loaded, blames)
refuses_program load old new name text NoInput loaded blames = absurd blames
refuses_program load old new name text (BadInput fault) loaded blames = absurd blames
refuses_program load old new name text (Unfit fault) loaded blames = absurd blames
refuses_program load old new name text OutOfMemory loaded blames = inr (inr (text, loaded, tt))

-- A refused program is refused with any input.
pub refuses_both : {F : Type 0} (load : LoadOf F) (old new : F) (program input : List ℕ) (refusal : Refusal) → RefusesProgram load old new program refusal → Refuses load old new (named program input) refusal
refuses_both load old new program input NoProgram refuses = inl (refl, refuses)
refuses_both load old new program input (NoTree fault) refuses = refuses
refuses_both load old new program input (Shape fault) refuses = refuses
refuses_both load old new program input (Sides fault) refuses = refuses
refuses_both load old new program input NoInput refuses = absurd refuses
refuses_both load old new program input (BadInput fault) refuses = absurd refuses
refuses_both load old new program input (Unfit fault) refuses = absurd refuses
refuses_both load old new program input OutOfMemory (inl same) = inl same
refuses_both load old new program input OutOfMemory (inr (inl starves)) = inr (inl starves)
refuses_both load old new program input OutOfMemory (inr (inr (text, loaded, any))) = inr (inr (text, new, loaded, inl refl))
