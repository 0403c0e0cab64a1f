-- Settings are read from their words.
use Rattle.std.proofs.Common.{◌≡◌, ℕ, List, [], ◌∷◌, ◌++◌, Bool, true, false, Option, Some, None, codes, refl, sym, ap, ◌∙◌, subst}
use Rattle.std.specs.List.{fold, list_all, flat_map, list_any}
use Rattle.std.specs.Str.{bytes_eq}
use Rattle.std.proofs.lemmas.Bool.{and_parts}
use Rattle.std.proofs.lemmas.List.Sums.{fold-append}
use Rattle.std.proofs.lemmas.List.{append_assoc, append-nil}
use Rattle.std.proofs.lemmas.Slice.Eq.{bytes_eq-Decides}
use Rattle.sip_words.specs.Commands.{fits, is_empty, is_setting_of, options_of}
use Rattle.sip_words.specs.Reading.{with_word, settled, settings_in}
use Rattle.sip_words.specs.Settings.{Setting, setting, is_bare, words_of}
use Rattle.sip_words.specs.declared.command.Command.{Command}

-- a value that is empty
no_value : (value : List ℕ) → is_empty value ≡ true → value ≡ []
no_value [] e = refl
no_value (v ∷ vs) e = absurd cc

-- `--dump` has none
bare_value : (option value : List ℕ) → is_bare option ≡ true → fits (setting option value) ≡ true → value ≡ []
bare_value option value bare fit =
    let is = (bytes_eq-Decides option (codes "--dump")).0 bare in
    no_value value (subst (λ (o : List ℕ). fits (setting o value) ≡ true) is fit)

-- the words of one setting
one_setting : (before : List Setting) (s : Setting) (b : Bool) → is_bare s.option ≡ b → fits s ≡ true
    → fold with_word (before, None) (words_of s) ≡ (before ++ s ∷ [], None)
one_setting before s true bare fit = rw (bare, bare) (ap (λ v. (before ++ setting s.option v ∷ [], None)) (sym (bare_value s.option s.value bare fit)))
one_setting before s false pair fit = rw (pair, pair) refl

-- the words of settings are read as these settings, behind those before them
settings_read : (before settings : List Setting) → list_all fits settings ≡ true
    → fold with_word (before, None) (flat_map words_of settings) ≡ (before ++ settings, None)
settings_read before [] fit = ap (λ x. (x, None)) (sym (append-nil before))
settings_read before (s ∷ more) fit =
    let parts = and_parts (fits s) (list_all fits more) fit in
    fold-append with_word (before, None) (words_of s) (flat_map words_of more)
    ∙ (ap (λ x. fold with_word x (flat_map words_of more)) (one_setting before s (is_bare s.option) refl parts.0)
    ∙ (settings_read (before ++ s ∷ []) more parts.1 ∙ ap (λ x. (x, None)) (append_assoc before (s ∷ []) more)))

pub words_are_settings : (settings : List Setting) → list_all fits settings ≡ true → settings_in (flat_map words_of settings) ≡ Some settings
words_are_settings settings fit = ap (λ (x : List Setting × Option (List ℕ)). settled x.0 x.1) (settings_read [] settings fit)

-- settings of a command fit
pub fitting : (command : Command) (settings : List Setting) → list_all (is_setting_of command) settings ≡ true → list_all fits settings ≡ true
fitting command [] e = refl
fitting command (s ∷ more) e =
    let parts = and_parts (is_setting_of command s) (list_all (is_setting_of command) more) e in
    let fit = and_parts (list_any (bytes_eq s.option) (options_of command)) (fits s) parts.0 in
    rw (fit.1, fitting command more parts.1) refl
