-- What words ask for.
use Rattle.std.proofs.Common.{◌≡◌, ◌≢◌, ◌∙◌, ℕ, ◌<◌, ◌≤◌, Bool, true, false, nat_lt, refl, arith, length, List, Result, Ok, Err, IfOk, IsErrOf, String, sym, ap, subst}
use Rattle.std.specs.declared.alloc.Global.{Global}
use Rattle.sip_grant.specs.Names.{Names}
use Rattle.sip_words.specs.Asking.{IsRequest}
use Rattle.std.proofs.lemmas.Bool.Decides.{nat_tests}
use Rattle.sip_words.specs.Plain.{Spells, most_words}
use Rattle.sip_words.specs.Requests.{Request, compile}
use Rattle.sip_words.specs.Seen.{texts}
use Rattle.sip_words.specs.declared.fault.WordsFault.{WordsFault}
use Rattle.sip_words.specs.declared.fault.WordsFault.TheVariants.{Usage}
use Rattle.sip_driver.specs.Asked.{AskFor, SpellNothing, run_of}
use Rattle.sip_driver.specs.Seen.{request_of}
use Rattle.sip_driver.specs.declared.words.Asked.{Asked}

-- not more than so many
not_more : (n : ℕ) → (most_words < n → ⊥) → n ≤ most_words
not_more n few = by_test (nat_lt most_words n) refl
  where
    by_test : (b : Bool) → nat_lt most_words n ≡ b → n ≤ most_words
    by_test true e = absurd (few (grind (arith, nat_tests)))
    by_test false e = grind (arith, nat_tests)

-- What was read of words is what they ask for.
pub ask : (words : List (String Global)) (request this : Request) → (most_words < length words → ⊥) → ((other : Request) → Spells (texts words) other → request ≡ other) → IsRequest request → this ≡ request → AskFor words this
ask words request this few plain within same = record {
  few = not_more (length words) few;
  plain = λ other spells. sym (plain other spells) ∙ sym same;
  within = subst IsRequest (sym same) within;
}

-- What was read of words, and isn't built, is spelled by none that is.
pub spell_nothing : (words : List (String Global)) (request : Request) → ((other : Request) → Spells (texts words) other → request ≡ other) → ((names : Names) → request ≢ run_of names) → ((program table : List ℕ) → request ≢ compile program table) → SpellNothing words
spell_nothing words request plain no_run no_compile = record {
  no_run = λ names spells. no_run names (plain (run_of names) spells);
  no_compile = λ program table spells. no_compile program table (plain (compile program table) spells);
}

-- The same of an answer.
pub answer_asks : (r : Result Asked WordsFault) (words : List (String Global)) (request : Request) → (most_words < length words → ⊥) → ((other : Request) → Spells (texts words) other → request ≡ other) → IsRequest request → IfOk r (λ a. request_of a ≡ request) → IfOk r (λ a. AskFor words (request_of a))
answer_asks (Ok a) words request few plain within same = ask words request (request_of a) few plain within same
answer_asks (Err fault) words request few plain within same = tt

pub answer_nothing : (r : Result Asked WordsFault) (words : List (String Global)) (request : Request) → ((other : Request) → Spells (texts words) other → request ≡ other) → (IsErrOf r Usage → (names : Names) → request ≢ run_of names) → (IsErrOf r Usage → (program table : List ℕ) → request ≢ compile program table) → IsErrOf r Usage → SpellNothing words
answer_nothing r words request plain no_run no_compile e = spell_nothing words request plain (no_run e) (no_compile e)

-- Words that are refused as usage are no plain spelling at all.
pub usage_nothing : {X : Type 0} (r : Result X WordsFault) (words : List (String Global)) (fault : WordsFault) → ((other : Request) → Spells (texts words) other → r ≢ Err Usage) → r ≡ Err fault → fault ≡ Usage → SpellNothing words
usage_nothing r words fault never is usage = record {
  no_run = λ names spells. never (run_of names) spells (is ∙ ap Err usage);
  no_compile = λ program table spells. never (compile program table) spells (is ∙ ap Err usage);
}
