-- The entry of a scalar has the number of its name among the texts.
use Rattle.std.proofs.Common.{[], ◌++◌, map, length, slice_get, refl, ap, ◌∙◌, append_assoc}
use Rattle.std.proofs.lemmas.Option.{slice_get-get_or}
use Rattle.sial_syntax.specs.Tree.{Tree, Procedure}
use Rattle.sial_syntax.proofs.AmongLemmas.{numbered_at}
use Rattle.sial_meaning.specs.Setting.{scalar_name}
use Rattle.sip_tables.specs.Flatten.{flatten}
use Rattle.sip_tables.specs.Texts.{array_names, printed}
use Rattle.code_places.proofs.Pieces.{get_inside}
use Rattle.code_places.specs.NameLaws.{ScalarsAreNamed}
use Rattle.code_places.specs.Standing.{PartAt}

-- the names of scalars stand among the texts behind those of arrays
names_stand : (p : Tree) → PartAt (length (array_names p)) p.scalars (flatten p).texts
names_stand p =
    let procedures = map (λ (q : Procedure). q.name) p.procedures in
    record {
      front = array_names p;
      back = procedures ++ printed p;
      whole_is =
          append_assoc (array_names p ++ p.scalars) procedures (printed p)
          ∙ append_assoc (array_names p) p.scalars (procedures ++ printed p);
      before = refl;
    }

pub scalars_are_named : ScalarsAreNamed
scalars_are_named g scalar below =
    let p = g.program in
    ap (λ n. slice_get (flatten p).texts n) (numbered_at (λ n. n) (length (array_names p)) p.scalars scalar 0 below)
    ∙ get_inside (length (array_names p)) scalar p.scalars (flatten p).texts (scalar_name g scalar) (names_stand p) (slice_get-get_or p.scalars scalar [] below)
