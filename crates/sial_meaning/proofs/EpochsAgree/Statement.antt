-- A statement does the same in both readings, or an access of both has clashed.
use Rattle.std.proofs.Common.{◌≡◌, ℕ, List, [], ◌∷◌, Bool, true, false, ◌⊎◌, Option, Some, None, Ok, Err, refl, sym, ap, ◌∙◌, inl, inr, append-nil, IsTrue}
use Rattle.std.specs.List.{list_any}
use Rattle.sial_syntax.specs.declared.access.Access.{Access}
use Rattle.sial_syntax.specs.declared.access.Access.TheVariants.{Read}
use Rattle.sial_syntax.specs.declared.access.Class.TheVariants.{Distributed, Served}
use Rattle.sial_syntax.specs.declared.operand.BlockRef.{BlockRef}
use Rattle.sial_syntax.specs.Proper.{is_write}
use Rattle.sial_syntax.specs.Tree.{Plain, Get, Request, Put, Prepare, Create, Delete, Collective, SipBarrier, ServerBarrier}
use Rattle.sial_meaning.specs.declared.trap.TrapKind.{TrapKind}
use Rattle.sial_meaning.specs.Accepted.{log_of}
use Rattle.sial_meaning.specs.Access.{Touch, clashes}
use Rattle.sial_meaning.specs.LocalStep.{Done, Answer, words_of, local_step}
use Rattle.sial_meaning.specs.Setting.{Setting}
use Rattle.sial_meaning.specs.State.{State, logged, epoch_of, shared_block}
use Rattle.sial_meaning.specs.Statement.{Outcome, Went, Stopped, Reading, Present, Copied, Named, named, reads_of, reads_logged, values_of, trap_at, local_done, put_done, created_trap, effect, unless_trapped, statement}
use Rattle.sial_meaning.proofs.EpochsAgree.Clashes.{Extends, Clashes, extends_same, extends_then, clash_made, clash_on}
use Rattle.sial_meaning.proofs.EpochsAgree.Untouched.{Fine, FineTo, read_now, fine_reads, fine_stored, fine_ended_distributed, fine_ended_served, fine_created, fine_deleted}

-- two outcomes' logs begin alike, with a clash
pub record Parted (p c : Outcome) : Type 0 where
  pub log : List Touch
  pub clash : Clashes [] log
  pub present : Extends log (log_of p)
  pub copied : Extends log (log_of c)

-- two outcomes are the same, or an access of both has clashed
abbrev pub Agree : Outcome → Outcome → Type 0
Agree p c = ((p ≡ c) × FineTo p) ⊎ Parted p c

-- a statement writes by a kind that writes
abbrev pub Writes : Plain → Type 0
Writes (Put block how from) = IsTrue (is_write how)
Writes (Prepare block how from) = IsTrue (is_write how)
Writes form = Unit {0}

-- logged reads stand behind what was logged
pub reads_extend : (g : Setting) (line : ℕ) (blocks : List BlockRef) (s : State) → Extends s.log (reads_logged g line blocks s).log
reads_extend g line [] s = extends_same s.log
reads_extend g line (b ∷ bs) s =
    let t : State = logged s (named g s.own b).class (named g s.own b).block Read line in
    extends_then
    s.log
    t.log
    (reads_logged g line bs t).log
    ((record { class = (named g s.own b).class; epoch = epoch_of s.epochs (named g s.own b).class; block = (named g s.own b).block; kind = Read; line = line }) ∷ [], refl)
    (reads_extend g line bs t)

-- the operands' values are the same in both readings, or a read of one of them clashes
values_agree : (g : Setting) (line : ℕ) (blocks : List BlockRef) (s : State) → Fine s → (values_of g Present s blocks ≡ values_of g Copied s blocks) ⊎ Clashes [] (reads_logged g line blocks s).log
values_agree g line [] s fine = inl refl
values_agree g line (b ∷ bs) s fine =
    by_test
    (list_any (clashes (read_now s (named g s.own b).class (named g s.own b).block)) s.log)
    refl
    (values_agree g line bs t (fine_reads g line (b ∷ []) s fine))
  where
    t : State
    t = logged s (named g s.own b).class (named g s.own b).block Read line

    -- by whether a read of the first operand clashes
    by_test : (test : Bool) → list_any (clashes (read_now s (named g s.own b).class (named g s.own b).block)) s.log ≡ test → (values_of g Present s bs ≡ values_of g Copied s bs) ⊎ Clashes [] (reads_logged g line bs t).log → (values_of g Present s (b ∷ bs) ≡ values_of g Copied s (b ∷ bs)) ⊎ Clashes [] (reads_logged g line bs t).log
    by_test test e (inr clash) = inr clash
    by_test false e (inl same) =
        inl
        (ap (λ words. words ∷ values_of g Present s bs) (fine (named g s.own b).class (named g s.own b).block e)
        ∙ ap (λ values. shared_block s.copies (named g s.own b).class (named g s.own b).block ∷ values) same)
    by_test true e (inl same) =
        inr
        (clash_on
        []
        t.log
        (reads_logged g line bs t).log
        (reads_extend g line bs t)
        (clash_made
        []
        s.log
        (record { class = (named g s.own b).class; epoch = epoch_of s.epochs (named g s.own b).class; block = (named g s.own b).block; kind = Read; line = line })
        e))

-- a local statement logs nothing but its reads
local_log : (line : ℕ) (s : State) (answer : Answer Done) → log_of (local_done line s answer) ≡ s.log
local_log line s (Ok done) = refl
local_log line s (Err kind) = refl

-- a local statement leaves the shared blocks
local_fine : (line : ℕ) (s : State) (answer : Answer Done) → Fine s → FineTo (local_done line s answer)
local_fine line s (Ok done) fine = fine
local_fine line s (Err kind) fine = tt

-- a log that is another
extends_is : (log more : List Touch) → more ≡ log → Extends log more
extends_is log more e = ([], e ∙ sym (append-nil log))

-- an outcome and itself
pub alike : (o : Outcome) → FineTo o → Agree o o
alike o fine = inl (refl, fine)

-- a local statement, given what its operands are
local_agrees : (line : ℕ) (s : State) (f : List (List ℕ) → Answer Done) (present copied : List (List ℕ)) → Fine s → (present ≡ copied) ⊎ Clashes [] s.log → Agree (local_done line s (f present)) (local_done line s (f copied))
local_agrees line s f present copied fine (inl same) = inl (ap (λ values. local_done line s (f values)) same, local_fine line s (f present) fine)
local_agrees line s f present copied fine (inr clash) = inr (record {
  log = s.log;
  clash = clash;
  present = extends_is s.log (log_of (local_done line s (f present))) (local_log line s (f present));
  copied = extends_is s.log (log_of (local_done line s (f copied))) (local_log line s (f copied));
})

-- a write to a shared block
put_fine : (line : ℕ) (place : Named) (how : Access) (s : State) (answer : Answer (List ℕ)) → IsTrue (is_write how) → Fine s → FineTo (put_done line place how s answer)
put_fine line place how s (Ok words) writes fine = fine_stored line place how words s writes fine
put_fine line place how s (Err kind) writes fine = tt

-- the effect of a statement
effect_agrees : (g : Setting) (line : ℕ) (form : Plain) (s : State) → Writes form → Fine s → Agree (effect Present g line form s) (effect Copied g line form s)
effect_agrees g line (Get block) s writes fine = alike (Went (reads_logged g line (block ∷ []) s)) (fine_reads g line (block ∷ []) s fine)
effect_agrees g line (Request block) s writes fine = alike (Went (reads_logged g line (block ∷ []) s)) (fine_reads g line (block ∷ []) s fine)
effect_agrees g line (Put block how from) s writes fine =
    alike (put_done line (named g s.own block) how s (words_of g s.own from [])) (put_fine line (named g s.own block) how s (words_of g s.own from []) writes fine)
effect_agrees g line (Prepare block how from) s writes fine =
    alike (put_done line (named g s.own block) how s (words_of g s.own from [])) (put_fine line (named g s.own block) how s (words_of g s.own from []) writes fine)
effect_agrees g line (Create array) s writes fine = inl (refl, fine_created g array s fine)
effect_agrees g line (Delete array) s writes fine = inl (refl, fine_deleted g array s fine)
effect_agrees g line SipBarrier s writes fine = inl (refl, fine_ended_distributed s (fine Served))
effect_agrees g line ServerBarrier s writes fine = inl (refl, fine_ended_served s (fine Distributed))
effect_agrees g line (Collective into from) s writes fine = inl (refl, fine)
effect_agrees g line form s writes fine =
    local_agrees
    line
    (reads_logged g line (reads_of g form) s)
    (λ values. local_step g form values s.own s.partials)
    (values_of g Present s (reads_of g form))
    (values_of g Copied s (reads_of g form))
    (fine_reads g line (reads_of g form) s fine)
    (values_agree g line (reads_of g form) s fine)

-- a statement, unless its created flags trap
trapped_agrees : (line : ℕ) (s : State) (trap : Option TrapKind) (f h : State → Outcome) → Agree (f s) (h s) → Agree (unless_trapped line s trap f) (unless_trapped line s trap h)
trapped_agrees line s None f h agree = agree
trapped_agrees line s (Some kind) f h agree = alike (Stopped (trap_at line kind) s) tt

-- a statement that holds no other does the same in both readings, or an access of both has clashed
pub statement_agrees : (g : Setting) (line : ℕ) (form : Plain) (s : State) → Writes form → Fine s → Agree (statement Present g line form s) (statement Copied g line form s)
statement_agrees g line form s writes fine =
    trapped_agrees line s (created_trap g form s.own) (effect Present g line form) (effect Copied g line form) (effect_agrees g line form s writes fine)

-- a write logs behind what was logged
put_extends : (line : ℕ) (place : Named) (how : Access) (s : State) (answer : Answer (List ℕ)) → Extends s.log (log_of (put_done line place how s answer))
put_extends line place how s (Ok words) = (record { class = place.class; epoch = epoch_of s.epochs place.class; block = place.block; kind = how; line = line } ∷ [], refl)
put_extends line place how s (Err kind) = extends_same s.log

-- so does the effect of a statement
effect_extends : (reading : Reading) (g : Setting) (line : ℕ) (form : Plain) (s : State) → Extends s.log (log_of (effect reading g line form s))
effect_extends reading g line (Get block) s = reads_extend g line (block ∷ []) s
effect_extends reading g line (Request block) s = reads_extend g line (block ∷ []) s
effect_extends reading g line (Put block how from) s = put_extends line (named g s.own block) how s (words_of g s.own from [])
effect_extends reading g line (Prepare block how from) s = put_extends line (named g s.own block) how s (words_of g s.own from [])
effect_extends reading g line (Create array) s = extends_same s.log
effect_extends reading g line (Delete array) s = extends_same s.log
effect_extends reading g line SipBarrier s = extends_same s.log
effect_extends reading g line ServerBarrier s = extends_same s.log
effect_extends reading g line (Collective into from) s = extends_same s.log
effect_extends reading g line form s =
    let t : State = reads_logged g line (reads_of g form) s in
    let answer : Answer Done = local_step g form (values_of g reading s (reads_of g form)) s.own s.partials in
    extends_then s.log t.log (log_of (local_done line t answer)) (reads_extend g line (reads_of g form) s) (extends_is t.log (log_of (local_done line t answer)) (local_log line t answer))

-- so does a statement, unless its created flags trap
trapped_extends : (log : List Touch) (line : ℕ) (s : State) (trap : Option TrapKind) (f : State → Outcome) → Extends log s.log → Extends log (log_of (f s)) → Extends log (log_of (unless_trapped line s trap f))
trapped_extends log line s None f x y = y
trapped_extends log line s (Some kind) f x y = x

-- a statement that holds no other logs behind what was logged
pub statement_extends : (reading : Reading) (g : Setting) (line : ℕ) (form : Plain) (s : State) → Extends s.log (log_of (statement reading g line form s))
statement_extends reading g line form s =
    trapped_extends s.log line s (created_trap g form s.own) (effect reading g line form) (extends_same s.log) (effect_extends reading g line form s)
