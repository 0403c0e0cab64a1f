-- A body that stands in the code, before the rest that stands behind it.
use Rattle.std.proofs.Common.{length-append, ◌≡◌, ℕ, ◌+◌, [], refl, arith}
use Rattle.sial_syntax.specs.Numbering.{size, sizes, stop_at}
use Rattle.sial_syntax.specs.Proper.{IsProper}
use Rattle.sial_syntax.specs.Tree.{Tree, End, Then}
use Rattle.sial_syntax.proofs.DepthLemmas.{body_there}
use Rattle.sial_meaning.specs.Rest.{Over, Next, Turn, Join, Back, Within, place}
use Rattle.sip_tables.specs.Code.{instruction, procedures_code, entries_of}
use Rattle.sip_tables.specs.declared.instruction.Operation.TheVariants as op
use Rattle.sip_tables.specs.Flatten.{flatten}
use Rattle.sip_tables.specs.PlaceLaws.{StandsAt}
use Rattle.sip_tables.specs.Texts.{body_prints, names}
use Rattle.sip_tables.proofs.PlaceLemmas.{stop_stands}
use Rattle.sip_tables.specs.declared.instruction.Instruction.{Instruction}
use Rattle.std.proofs.Common.{List, ◌∷◌, length, flat_map}
use Rattle.sial_syntax.specs.Tree.{Procedure}
use Rattle.code_places.proofs.Bodies.{body_first, body_others}
use Rattle.code_places.proofs.Pieces.{get_first}
use Rattle.code_places.specs.Standing.{PartAt, BodyStands, HasAt}
use Rattle.code_places.specs.Follows.{return_places}
use Rattle.code_places.specs.PushLaws.{PushHasPlace, PushFollows, PushKeepsReturns, PushKeepsValues, ReturnsAreDepth}
use Rattle.code_places.specs.StartLaws.{WorkStarts, StartsAtFirst, StartsWithoutCalls}

pub place_push : PushHasPlace
place_push at End rest e = omega (arith, e)
place_push at (Then line form more) rest e = refl

pub returns_push : PushKeepsReturns
returns_push at End rest = refl
returns_push at (Then line form more) rest = returns_push (at + size form) more rest

pub values_push : PushKeepsValues
values_push at End rest = refl
values_push at (Then line form more) rest = values_push (at + size form) more rest

pub returns_are_depth : ReturnsAreDepth
returns_are_depth (Over at) = refl
returns_are_depth (Next at line form rest) = returns_are_depth rest
returns_are_depth (Turn loop last rest) = returns_are_depth rest
returns_are_depth (Join at rest) = returns_are_depth rest
returns_are_depth (Back at values rest) =
    let e = length-append (return_places rest) (place rest ∷ []) in
    let d = returns_are_depth rest in
    omega (arith, e, d)
returns_are_depth (Within pardo number rest) = returns_are_depth rest

pub follows_push : PushFollows
follows_push p at End rest stands e follows = follows
follows_push p at (Then line form more) rest stands e follows =
    let behind : place rest ≡ (at + size form) + sizes more = omega (arith, e) in
    (body_first p at line form more stands, place_push (at + size form) more rest behind, follows_push p (at + size form) more rest (body_others p at line form more stands) behind follows)

-- a part of the code, by the words of `sip_tables`
pub part_of : (at : ℕ) (part whole : List Instruction) → StandsAt at part whole → PartAt at part whole
part_of at part whole stands = record { front = stands.front; back = stands.back; whole_is = stands.whole_is; before = stands.before }

-- the body of a program
pub program_body : (p : Tree) → IsProper p → BodyStands p 0 p.body
program_body p proper = record {
  proper = body_there p proper;
  text = length (names p);
  code = record {
    front = [];
    back = instruction 0 op.Stop ∷ procedures_code (entries_of p) (sizes p.body + 1) (length (names p) + length (body_prints p.body)) p.procedures;
    whole_is = refl;
    before = refl;
  };
  texts = record {
    front = names p;
    back = flat_map (λ (q : Procedure). body_prints q.body) p.procedures;
    whole_is = refl;
    before = refl;
  };
}

-- its stop
pub stop_there : (p : Tree) → HasAt p (stop_at p) (instruction 0 op.Stop)
stop_there p = get_first (stop_at p) (instruction 0 op.Stop) [] (flatten p).code (part_of (stop_at p) (instruction 0 op.Stop ∷ []) (flatten p).code (stop_stands p))

pub work_starts : WorkStarts
work_starts g proper = follows_push g.program 0 g.program.body (Over (stop_at g.program)) (program_body g.program proper) (omega arith) (stop_there g.program)

pub starts_at_first : StartsAtFirst
starts_at_first g = place_push 0 g.program.body (Over (stop_at g.program)) (omega arith)

pub starts_without_calls : StartsWithoutCalls
starts_without_calls g = returns_push 0 g.program.body (Over (stop_at g.program))
