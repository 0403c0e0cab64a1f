-- What follows of an answer's value, or of its error.
use Rattle.std.specs.Prelude.{Result, Ok, Err, IfOk, IfErr}

pub ok-map : {T E : Type 0} {P Q : T → Type 0} (r : Result T E) → ((x : T) → P x → Q x) → IfOk r P → IfOk r Q
ok-map (Ok x) f h = f x h
ok-map (Err e) f h = tt

pub err-map : {T E : Type 0} {P Q : E → Type 0} (r : Result T E) → ((e : E) → P e → Q e) → IfErr r P → IfErr r Q
err-map (Ok x) f h = tt
err-map (Err e) f h = f e h
