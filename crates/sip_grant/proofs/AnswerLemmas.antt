-- Answers, part by part.
use Rattle.std.proofs.Common.{Result, Ok, Err, IfOk, IfErr}

-- What follows of what is given.
pub given : {A E : Type 0} {P Q : A → Type 0} (r : Result A E) → IfOk r P → ((x : A) → P x → Q x) → IfOk r Q
given (Ok x) is follows = follows x is
given (Err e) is follows = tt

-- The same of two facts.
pub given_both : {A E : Type 0} {P Q R : A → Type 0} (r : Result A E) → IfOk r P → IfOk r Q → ((x : A) → P x → Q x → R x) → IfOk r R
given_both (Ok x) is too follows = follows x is too
given_both (Err e) is too follows = tt

-- What follows of what is refused.
pub refused : {A E : Type 0} {P Q : E → Type 0} (r : Result A E) → IfErr r P → ((e : E) → P e → Q e) → IfErr r Q
refused (Ok x) is follows = tt
refused (Err e) is follows = follows e is
