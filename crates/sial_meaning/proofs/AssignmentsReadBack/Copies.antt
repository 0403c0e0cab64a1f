-- What copies, slices and insertions of a sound setting read back.
use Rattle.std.proofs.Common.{◌≡◌, ◌⊎◌, inl, inr, Bool, true, ◌||◌, sym, ◌∙◌}
use Rattle.sial_syntax.specs.Agreeing.{all_in, same_set, cuts_all}
use Rattle.sial_meaning.specs.CopyLaws.{EachIsOneOfThree, CopiesReadBack, SlicesReadBack, InsertionsReadBack, InsertionsLeaveTheRest}
use Rattle.sial_meaning.proofs.Granted.Rules.{named-once, copy-agrees, cuts-all-as-said, no-part-of-part}
use Rattle.sial_meaning.proofs.Granted.Shapes.{shapes-hold}
use Rattle.sial_meaning.proofs.AcceptedInOtherWords.Pairs.{second-holds}
use Rattle.sial_meaning.proofs.AssignmentsReadBack.Places.{either-holds}
use Rattle.sial_meaning.proofs.AssignmentsReadBack.Elements.{copies-by-name, slices-by-position, inserts-by-position, insertions-keep-others}

-- one of three tests of which one holds
one-of-three : (a b c : Bool) → (a || (b || c)) ≡ true → (a ≡ true) ⊎ ((b ≡ true) ⊎ (c ≡ true))
one-of-three a b c is =
    elim (either-holds a (b || c) is) as (λ q. (a ≡ true) ⊎ ((b ≡ true) ⊎ (c ≡ true))) [
      | inl first ↦ inl first
      | inr rest ↦ inr (either-holds b c rest)
    ]

-- a block assigned to another is a copy, a slice or an insertion
pub each-is-one-of-three : EachIsOneOfThree
each-is-one-of-three g to from op sound copies =
    one-of-three (same_set to.at from.at) (cuts_all g.program to.at from.at) (cuts_all g.program from.at to.at) (copy-agrees g.program to op from (shapes-hold g.program sound.setting.granted) copies)

-- copies
pub copies-read-back : CopiesReadBack
copies-read-back g to from op values old words tuple sound copies same is =
    copies-by-name g.spaces op values to.at from.at old words tuple
    (named-once g.program to op from (shapes-hold g.program sound.setting.granted) copies).0
    (second-holds (all_in to.at from.at) (all_in from.at to.at) same)
    is

-- slices
pub slices-read-back : SlicesReadBack
slices-read-back g to from op values old words tuple sound copies cut is =
    let once = named-once g.program to op from (shapes-hold g.program sound.setting.granted) copies in
    slices-by-position g.spaces op values to.at from.at old words tuple (no-part-of-part g sound) once.0 once.1 (sym (cuts-all-as-said g sound to.at from.at) ∙ cut) is

-- insertions, where they put something
pub insertions-read-back : InsertionsReadBack
insertions-read-back g to from op values old words tuple sound copies cut is lie =
    let once = named-once g.program to op from (shapes-hold g.program sound.setting.granted) copies in
    inserts-by-position g.spaces op values to.at from.at old words tuple (no-part-of-part g sound) once.0 once.1 (sym (cuts-all-as-said g sound from.at to.at) ∙ cut) is lie

-- insertions, where they put nothing
pub insertions-leave-the-rest : InsertionsLeaveTheRest
insertions-leave-the-rest g to from op values old words tuple sound copies cut is lie =
    let once = named-once g.program to op from (shapes-hold g.program sound.setting.granted) copies in
    insertions-keep-others g.spaces op values to.at from.at old words tuple (no-part-of-part g sound) once.0 once.1 (sym (cuts-all-as-said g sound from.at to.at) ∙ cut) is lie
