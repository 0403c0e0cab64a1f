use Rattle.std.proofs.Common.{ℕ, ◌-◌, ◌^◌, min, List, ap, ◌∙◌}
use Rattle.sial_syntax.specs.Boxes.{volume}
use Rattle.sial_syntax.specs.Spaces.{Spaces, box_of}
use Rattle.exec_control.specs.Position.{Position}
use Rattle.exec_control.proofs.control.Control.tuples.Goals as goal

pub returns : goal.returns
returns c = λ pardo last more own st.
    let head = c.head_of.ensures pardo st.follows.0 (ap (λ (q : Position). q.at) c.self.view_is ∙ st.at) in
    c.box_len.ensures
    ∙ ap (λ (xs : List ℕ). min (volume (box_of c.spaces.result.now.spaces xs)) (2 ^ 64 - 1)) head.1
    ∙ ap (λ (s : Spaces). min (volume (box_of s pardo.indices)) (2 ^ 64 - 1)) c.spaces.ensures.spaces
