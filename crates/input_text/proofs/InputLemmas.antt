-- What is read of the lines of an input is what they say.
use Rattle.std.proofs.Common.{◌≡◌, ℕ, List, Bool, true, false, cond, Option, Some, None, refl, ap, ◌∙◌, subst}
use Rattle.std.specs.Option.{option_and_then}
use Rattle.input_text.specs.Adding.{is_too_wide, is_given, is_past_limit, wrong}
use Rattle.input_text.specs.LineReading.{line_said}
use Rattle.input_text.specs.Parts.{words_in}
use Rattle.input_text.specs.Reading.{said_in}
use Rattle.input_text.specs.Statements.{Says, words_of}
use Rattle.input_text.specs.Words.{HasWords}
use Rattle.input_text.specs.declared.fault.Wrong.TheVariants.{BadLine, TooWide, Twice, TooMany}
use Rattle.input_text.specs.declared.said.Said.{Said}
use Rattle.input_text.specs.declared.word.Word.{Word}
use Rattle.input_text.proofs.LineLemmas.{AreRead}
use Rattle.input_text.proofs.SaidAgainLemmas.{said_read}
use Rattle.input_text.proofs.SaidLemmas.{said_found}
use Rattle.input_text.proofs.WordLemmas.{words_found, words_read}

-- what a line says is read
said_again : (line : List ℕ) (said : Said) → Says line said → line_said line ≡ Some said
said_again line said h = ap (option_and_then said_in) (words_read line (words_of said) h.words) ∙ said_read said h.in_order

-- what is read of a line is what it says
by_words : (line : List ℕ) (words : Option (List Word)) (said : Said) → words_in line ≡ words → option_and_then said_in words ≡ Some said → Says line said
by_words line None said e h = absurd cc
by_words line (Some words) said e h =
    let found = said_found words said h in
    record { words = subst (HasWords line) found.0 (words_found line words e); in_order = found.1 }

-- what is wrong with what a line says is never that it says nothing
never_by : (a b c : Bool) → cond a (Some TooWide) (cond b (Some Twice) (cond c (Some TooMany) None)) ≡ Some BadLine → ⊥
never_by true b c e = absurd cc
never_by false true c e = absurd cc
never_by false false true e = absurd cc
never_by false false false e = absurd cc

pub inputs_read : AreRead Says wrong line_said
inputs_read = record {
  again = said_again;
  says = λ line said e. by_words line (words_in line) said refl e;
  never = λ g said e. never_by (is_too_wide said) (is_given g said) (is_past_limit g said) e;
}
