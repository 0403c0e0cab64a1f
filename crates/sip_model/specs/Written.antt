-- What a run writes: the lines of worker 0, and where it is done the text of its result.
use Rattle.std.specs.Prelude.{ℕ, List, [], ◌++◌}
use Rattle.sial_meaning.specs.Setting.{Setting}
use Rattle.sip_model.specs.declared.options.Options.{Options}
use Rattle.sip_model.specs.Legal.{Standing, AllDone, Course}
use Rattle.sip_model.specs.Machines.{Machine}
use Rattle.sip_model.specs.Results.{lines, text_of_lines, result, result_text}

-- the result text of a run that is done
abbrev pub result_if_done : Setting → Options → Machine → Standing → List ℕ
result_if_done g o s AllDone = result_text g (result g o s)
result_if_done g o s _ = []

-- what a run writes whose result is asked for
abbrev pub written : Setting → Options → Course → List ℕ
written g o r = text_of_lines (lines g r.state) ++ result_if_done g o r.state r.standing
