-- What is read of the lines of a text of numbers is what they say.
use Rattle.std.proofs.Common.{◌≡◌, ℕ, ◌+◌, List, [], ◌∷◌, ◌++◌, Bool, true, false, cond, nat_lt, map, length, Option, Some, None, refl, sym, ap, ◌∙◌, subst, append_assoc, append-nil}
use Rattle.std.specs.List.{list_any}
use Rattle.std.specs.Option.{option_and_then}
use Rattle.input_text.specs.Adding.{is_wide}
use Rattle.input_text.specs.LineReading.{figures_from, line_figures}
use Rattle.input_text.specs.Parts.{words_in}
use Rattle.input_text.specs.Texts.{narrow, SaysNumbers, wrong_numbers}
use Rattle.input_text.specs.Words.{HasWords}
use Rattle.input_text.specs.declared.fault.Wrong.TheVariants.{BadLine, TooWide, TooMany}
use Rattle.input_text.specs.declared.word.Word.{Word}
use Rattle.input_text.specs.declared.word.Word.TheVariants.{Name, Number, Equals, Minus}
use Rattle.input_text.proofs.LineLemmas.{AreRead}
use Rattle.input_text.proofs.WordLemmas.{words_found, words_read}

-- numbers that are read of words are theirs
abbrev AreFigures : (so_far : List (Option ℕ)) → Option (List (Option ℕ)) → List Word → Type 0
AreFigures so_far (Some all) words = (numbers : List (Option ℕ)) × (words ≡ map Number numbers) × (all ≡ so_far ++ map narrow numbers)
AreFigures so_far None words = Unit {0}

one_more : (so_far : List (Option ℕ)) (n : Option ℕ) (ws : List Word) (read : Option (List (Option ℕ))) → AreFigures (so_far ++ narrow n ∷ []) read ws → AreFigures so_far read (Number n ∷ ws)
one_more so_far n ws (Some all) e = (n ∷ e.0, ap (λ xs. Number n ∷ xs) e.1, e.2 ∙ append_assoc so_far (narrow n ∷ []) (map narrow e.0))
one_more so_far n ws None e = tt

figures_sound : (so_far : List (Option ℕ)) (words : List Word) → AreFigures so_far (figures_from so_far words) words
figures_sound so_far [] = ([], refl, sym (append-nil so_far))
figures_sound so_far (Name name ∷ ws) = tt
figures_sound so_far (Number n ∷ ws) = one_more so_far n ws (figures_from (so_far ++ narrow n ∷ []) ws) (figures_sound (so_far ++ narrow n ∷ []) ws)
figures_sound so_far (Equals ∷ ws) = tt
figures_sound so_far (Minus ∷ ws) = tt

figures_again : (so_far numbers : List (Option ℕ)) → figures_from so_far (map Number numbers) ≡ Some (so_far ++ map narrow numbers)
figures_again so_far [] = ap Some (sym (append-nil so_far))
figures_again so_far (n ∷ ns) = figures_again (so_far ++ narrow n ∷ []) ns ∙ ap Some (append_assoc so_far (narrow n ∷ []) (map narrow ns))

said_again : (line : List ℕ) (said : List (Option ℕ)) → SaysNumbers line said → line_figures line ≡ Some said
said_again line said h = ap (option_and_then (figures_from [])) (words_read line (map Number h.0) h.1) ∙ figures_again [] h.0 ∙ ap Some (sym h.2)

by_words : (line : List ℕ) (words : Option (List Word)) (said : List (Option ℕ)) → words_in line ≡ words → option_and_then (figures_from []) words ≡ Some said → SaysNumbers line said
by_words line None said e h = absurd cc
by_words line (Some words) said e h =
    let found = subst (λ r. AreFigures [] r words) h (figures_sound [] words) in
    (found.0, subst (HasWords line) found.1 (words_found line words e), found.2)

never_by : (a b : Bool) → cond a (Some TooWide) (cond b (Some TooMany) None) ≡ Some BadLine → ⊥
never_by true b e = absurd cc
never_by false true e = absurd cc
never_by false false e = absurd cc

pub numbers_read : (most : ℕ) → AreRead SaysNumbers (wrong_numbers most) line_figures
numbers_read most = record {
  again = said_again;
  says = λ line said e. by_words line (words_in line) said refl e;
  never = λ before said e. never_by (list_any is_wide said) (nat_lt most (length before + length said)) e;
}
