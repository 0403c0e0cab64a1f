-- What a run writes is what the sequential meaning prints.
use Rattle.std.proofs.Common.{◌≡◌, ℕ, List, Option, Result, ap, sym, ◌∙◌}
use Rattle.sial_syntax.specs.Tree.{Block}
use Rattle.sip_files.specs.Kept.{Kept}
use Rattle.sip_setting.specs.Printing.{printed_text, text_of}
use Rattle.sial_meaning.specs.Setting.{Setting}
use Rattle.first_profile.specs.Ready.{IsFirstSetting}
use Rattle.first_profile.specs.Ran.{Ran}
use Rattle.first_profile.specs.Running.{Numbers, start_numbers, body_prints}
use Rattle.first_profile.specs.declared.fault.RunFault.{RunFault}
use Rattle.first_profile.proofs.RanLemmas.{same_ran}
use Rattle.first_profile.proofs.StartLaws.{printed}

-- a text that a run wrote from its start is that of the sequential meaning
pub printed_ran : {old new : Option (List ℕ)} {before now : ℕ} {was is : Kept} {result : Result (Unit {0}) RunFault} (g : Setting) (m : Numbers) (body : Block) → IsFirstSetting g → m ≡ start_numbers g → body ≡ g.program.body → Ran old new before now was is (text_of (body_prints g body m)) result → Ran old new before now was is (printed_text g) result
printed_ran g m body is start all wrote =
    same_ran
    (ap (λ (b : Block). text_of (body_prints g b m)) all
    ∙ (ap (λ (n : Numbers). text_of (body_prints g g.program.body n)) start ∙ sym (printed g is)))
    wrote
