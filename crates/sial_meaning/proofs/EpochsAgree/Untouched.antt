-- A block that no write has touched in the present epoch is as it stood when the epoch began.
use Rattle.std.proofs.Common.{◌≡◌, ℕ, List, [], ◌∷◌, Bool, true, false, not, ◌&&◌, eqb, ◌≢◌, refl, sym, ap, ◌∙◌, IsTrue}
use Rattle.std.specs.List.{list_any}
use Rattle.std.proofs.Math.Dec.{eqb_refl}
use Rattle.std.proofs.lemmas.List.{get_or-set_other}
use Rattle.std.proofs.lemmas.List.Folds.{list_any-append}
use Rattle.sial_syntax.specs.declared.access.Access.{Access}
use Rattle.sial_syntax.specs.declared.access.Access.TheVariants.{Read, Add, Max, Store}
use Rattle.sial_syntax.specs.declared.access.Class.{Class}
use Rattle.sial_syntax.specs.declared.access.Class.TheVariants.{Distributed, Served}
use Rattle.sial_syntax.specs.declared.operand.BlockRef.{BlockRef}
use Rattle.sial_syntax.specs.Proper.{is_write}
use Rattle.sial_meaning.specs.Access.{Touch, may_stand, clashes}
use Rattle.sial_meaning.specs.Setting.{Setting}
use Rattle.sial_meaning.specs.State.{Shared, Epochs, State, epoch_of, shared_block, with_block, accessed_words, logged, epoch_ended, start_state}
use Rattle.sial_meaning.specs.Statement.{Outcome, Went, Stopped, Named, named, reads_logged, stored, created, deleted}
use Rattle.sial_meaning.proofs.StepsReachTheFold.Rules.{neither}
use Rattle.sial_meaning.proofs.AcceptedInOtherWords.Pairs.{true-of, second-fails}
use Rattle.sial_syntax.specs.Spaces.{same_class}

-- a read of a block in the present epoch
abbrev pub read_now : State → Class → (block : ℕ) → Touch
read_now s class block = record { class = class; epoch = epoch_of s.epochs class; block = block; kind = Read; line = 0 }

-- the blocks of a class that a read may touch now are as the present epoch began
abbrev pub FineIn : Class → State → Type 0
FineIn class s = (block : ℕ) → list_any (clashes (read_now s class block)) s.log ≡ false → shared_block s.shared class block ≡ shared_block s.copies class block

-- the blocks that a read may touch now are as the present epochs began
abbrev pub Fine : State → Type 0
Fine s = (class : Class) → FineIn class s

-- an outcome's state is so where no trap came
abbrev pub FineTo : Outcome → Type 0
FineTo (Went s) = Fine s
FineTo (Stopped trap s) = Unit {0}

-- as the program begins
pub fine_start : (g : Setting) → Fine (start_state g)
fine_start g class block e = refl

-- after an access was logged
fine_logged : (s : State) (class : Class) (block : ℕ) (kind : Access) (line : ℕ) → Fine s → Fine (logged s class block kind line)
fine_logged s class block kind line fine c b e =
    let touch : Touch = record { class = class; epoch = epoch_of s.epochs class; block = block; kind = kind; line = line } in
    fine
    c
    b
    (neither
    (list_any (clashes (read_now s c b)) s.log)
    (list_any (clashes (read_now s c b)) (touch ∷ []))
    (sym (list_any-append (clashes (read_now s c b)) s.log (touch ∷ [])) ∙ e)).0

-- after reads were logged
pub fine_reads : (g : Setting) (line : ℕ) (blocks : List BlockRef) (s : State) → Fine s → Fine (reads_logged g line blocks s)
fine_reads g line [] s fine = fine
fine_reads g line (b ∷ bs) s fine =
    fine_reads
    g
    line
    bs
    (logged s (named g s.own b).class (named g s.own b).block Read line)
    (fine_logged s (named g s.own b).class (named g s.own b).block Read line fine)

-- the first of two tests fails where the second passes
and_first : (a b : Bool) → b ≡ true → (a && b) ≡ false → a ≡ false
and_first true b e f = absurd cc
and_first false b e f = refl

-- numbers that are not the same
apart : (b block : ℕ) → eqb b block ≡ false → b ≢ block
apart b block f e = let t : eqb b block ≡ true = ap (λ n. eqb n block) e ∙ true-of (eqb block block) (eqb_refl block) in absurd cc

-- a write leaves other blocks
stored_apart : (shared : Shared) (epochs : Epochs) (class c : Class) (block b : ℕ) (words : List ℕ) → (same_class c class && (eqb (epoch_of epochs c) (epoch_of epochs class) && eqb b block)) ≡ false → shared_block (with_block shared class block words) c b ≡ shared_block shared c b
stored_apart shared epochs Distributed Distributed block b words e =
    get_or-set_other
    shared.distributed
    block
    b
    words
    []
    (apart b block (second-fails (eqb epochs.distributed epochs.distributed) (eqb b block) (true-of (eqb epochs.distributed epochs.distributed) (eqb_refl epochs.distributed)) e))
stored_apart shared epochs Distributed Served block b words e = refl
stored_apart shared epochs Served Distributed block b words e = refl
stored_apart shared epochs Served Served block b words e =
    get_or-set_other
    shared.served
    block
    b
    words
    []
    (apart b block (second-fails (eqb epochs.served epochs.served) (eqb b block) (true-of (eqb epochs.served epochs.served) (eqb_refl epochs.served)) e))

-- no read stands behind a write
write_refuses : (how : Access) → IsTrue (is_write how) → not (may_stand how Read) ≡ true
write_refuses Read w = absurd cc
write_refuses Add w = refl
write_refuses Max w = refl
write_refuses Store w = refl

-- after a write
pub fine_stored : (line : ℕ) (place : Named) (how : Access) (words : List ℕ) (s : State) → IsTrue (is_write how) → Fine s → Fine (stored line place how words s)
fine_stored line place how words s writes fine c b e =
    let touch : Touch = record { class = place.class; epoch = epoch_of s.epochs place.class; block = place.block; kind = how; line = line } in
    let parts = neither
    (list_any (clashes (read_now s c b)) s.log)
    (list_any (clashes (read_now s c b)) (touch ∷ []))
    (sym (list_any-append (clashes (read_now s c b)) s.log (touch ∷ [])) ∙ e) in
    let one = neither (clashes (read_now s c b) touch) false parts.1 in
    stored_apart
    s.shared
    s.epochs
    place.class
    c
    place.block
    b
    (accessed_words how (shared_block s.shared place.class place.block) words)
    (and_first
    (same_class c place.class && (eqb (epoch_of s.epochs c) (epoch_of s.epochs place.class) && eqb b place.block))
    (not (may_stand how Read))
    (write_refuses how writes)
    one.0)
    ∙ fine c b parts.0

-- after an epoch of the distributed blocks ended
pub fine_ended_distributed : (s : State) → FineIn Served s → Fine (epoch_ended Distributed s)
fine_ended_distributed s fine Distributed b e = refl
fine_ended_distributed s fine Served b e = fine b e

-- after an epoch of the served blocks ended
pub fine_ended_served : (s : State) → FineIn Distributed s → Fine (epoch_ended Served s)
fine_ended_served s fine Distributed b e = fine b e
fine_ended_served s fine Served b e = refl

-- after an array was created
pub fine_created : (g : Setting) (array : ℕ) (s : State) → Fine s → Fine (created g array s)
fine_created g array s fine Distributed b e = refl
fine_created g array s fine Served b e = fine Served b e

-- after an array was deleted
pub fine_deleted : (g : Setting) (array : ℕ) (s : State) → Fine s → Fine (deleted g array s)
fine_deleted g array s fine Distributed b e = refl
fine_deleted g array s fine Served b e = fine Served b e
