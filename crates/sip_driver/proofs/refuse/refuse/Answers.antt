use Rattle.std.specs.Prelude.{codes}
use Rattle.sip_grant.specs.Names.{named}
use Rattle.sip_grant.specs.declared.refusal.Refusal.TheVariants.{NoTree, Shape, Sides, BadInput, Unfit, OutOfMemory}
use Rattle.sip_driver.specs.Kinds.{shape_told, side_told, input_told}
use Rattle.sip_driver.specs.Seen.{told_of}
use Rattle.sip_driver.proofs.SaysLemmas.{says_line, says_told}
use Rattle.sip_driver.proofs.refuse.refuse.Goals as goal

pub returns-in-NoTree-clause-says : goal.returns-in-NoTree-clause-says
returns-in-NoTree-clause-says g c =
    says_line g.K.Sink.written g.K.Sink.faults c.args.err.now c.say_syntax.new.err (named c.args.program.now c.args.input.now) c.args.refusal.now (NoTree c.in-NoTree.fault) c.in-NoTree.is c.say_syntax.ensures.says

pub returns-in-Shape-clause-says : goal.returns-in-Shape-clause-says
returns-in-Shape-clause-says g c =
    says_line g.K.Sink.written g.K.Sink.faults c.args.err.now c.say_told.new.err (named c.args.program.now c.args.input.now) c.args.refusal.now (Shape c.in-Shape.fault) c.in-Shape.is
    (says_told g.K.Sink.written g.K.Sink.faults c.args.err.now c.say_told.new.err (codes "sip: rule line ") (told_of c.shape_told.result) (shape_told c.in-Shape.fault) c.shape_told.ensures c.say_told.ensures.says)

pub returns-in-Sides-clause-says : goal.returns-in-Sides-clause-says
returns-in-Sides-clause-says g c =
    says_line g.K.Sink.written g.K.Sink.faults c.args.err.now c.say_told-in-Sides.new.err (named c.args.program.now c.args.input.now) c.args.refusal.now (Sides c.in-Sides.fault) c.in-Sides.is
    (says_told g.K.Sink.written g.K.Sink.faults c.args.err.now c.say_told-in-Sides.new.err (codes "sip: rule line ") (told_of c.side_told.result) (side_told c.in-Sides.fault) c.side_told.ensures c.say_told-in-Sides.ensures.says)

pub returns-in-BadInput-clause-says : goal.returns-in-BadInput-clause-says
returns-in-BadInput-clause-says g c =
    says_line g.K.Sink.written g.K.Sink.faults c.args.err.now c.say_told-in-BadInput.new.err (named c.args.program.now c.args.input.now) c.args.refusal.now (BadInput c.in-BadInput.fault) c.in-BadInput.is
    (says_told g.K.Sink.written g.K.Sink.faults c.args.err.now c.say_told-in-BadInput.new.err (codes "sip: input line ") (told_of c.input_told.result) (input_told c.in-BadInput.fault) c.input_told.ensures c.say_told-in-BadInput.ensures.says)

pub returns-in-Unfit-clause-says : goal.returns-in-Unfit-clause-says
returns-in-Unfit-clause-says g c =
    says_line g.K.Sink.written g.K.Sink.faults c.args.err.now c.say_misfit.new.err (named c.args.program.now c.args.input.now) c.args.refusal.now (Unfit c.in-Unfit.fault) c.in-Unfit.is c.say_misfit.ensures.says

pub returns-in-OutOfMemory-clause-says : goal.returns-in-OutOfMemory-clause-says
returns-in-OutOfMemory-clause-says g c =
    says_line g.K.Sink.written g.K.Sink.faults c.args.err.now c.say.new.err (named c.args.program.now c.args.input.now) c.args.refusal.now OutOfMemory c.in-OutOfMemory.is c.say.ensures.says
