use Rattle.std.proofs.Common.{rules, ◌≡◌, sym, subst, OnOk}
use Rattle.sial_syntax.specs.Tree.{Assign}
use Rattle.first_profile.specs.Running.{Numbers}
use Rattle.first_profile.proofs.Meant.{form-numbers}
use Rattle.first_profile.proofs.Worked.{ran_form}
use Rattle.first_profile.proofs.assign.assign.Goals as goal
use Rattle.sip_setting.specs.Seen.{setting_of}

pub returns-in-Block-Set-One-Number : goal.returns-in-Block-Set-One-Number
returns-in-Block-Set-One-Number c =
    let form = Assign c.args.target.now c.args.op c.args.right.now in
    let worked : OnOk c.fill.result (c.fill.new.machine ≡ ran_form (setting_of c.args.granted.now) form c.args.machine.now) = search rules in
    subst (λ (n : Numbers). OnOk c.fill.result (c.fill.new.machine ≡ n)) (sym (form-numbers (setting_of c.args.granted.now) _ c.args.machine.now c.requires.setting c.requires.fits c.requires.within form c.requires.form)) worked

pub returns-in-Block-Add-One-Block : goal.returns-in-Block-Add-One-Block
returns-in-Block-Add-One-Block c =
    let form = Assign c.args.target.now c.args.op c.args.right.now in
    let worked : OnOk c.add.result (c.add.new.machine ≡ ran_form (setting_of c.args.granted.now) form c.args.machine.now) = search rules in
    subst (λ (n : Numbers). OnOk c.add.result (c.add.new.machine ≡ n)) (sym (form-numbers (setting_of c.args.granted.now) _ c.args.machine.now c.requires.setting c.requires.fits c.requires.within form c.requires.form)) worked

pub returns-in-Scalar-Set-One-Number : goal.returns-in-Scalar-Set-One-Number
returns-in-Scalar-Set-One-Number c =
    let form = Assign c.args.target.now c.args.op c.args.right.now in
    let worked : c.set_scalar.new.self ≡ ran_form (setting_of c.args.granted.now) form c.args.machine.now = search rules in
    subst (λ (n : Numbers). c.set_scalar.new.self ≡ n) (sym (form-numbers (setting_of c.args.granted.now) _ c.args.machine.now c.requires.setting c.requires.fits c.requires.within form c.requires.form)) worked

pub returns-in-Scalar-Set-Two-Block-Times-Block : goal.returns-in-Scalar-Set-Two-Block-Times-Block
returns-in-Scalar-Set-Two-Block-Times-Block c =
    let form = Assign c.args.target.now c.args.op c.args.right.now in
    let worked : c.contract.new.machine ≡ ran_form (setting_of c.args.granted.now) form c.args.machine.now = search rules in
    subst (λ (n : Numbers). c.contract.new.machine ≡ n) (sym (form-numbers (setting_of c.args.granted.now) _ c.args.machine.now c.requires.setting c.requires.fits c.requires.within form c.requires.form)) worked

pub returns-in-Scalar-Add-One-Number : goal.returns-in-Scalar-Add-One-Number
returns-in-Scalar-Add-One-Number c =
    let form = Assign c.args.target.now c.args.op c.args.right.now in
    let worked : c.increase.new.machine ≡ ran_form (setting_of c.args.granted.now) form c.args.machine.now = search rules in
    subst (λ (n : Numbers). c.increase.new.machine ≡ n) (sym (form-numbers (setting_of c.args.granted.now) _ c.args.machine.now c.requires.setting c.requires.fits c.requires.within form c.requires.form)) worked
