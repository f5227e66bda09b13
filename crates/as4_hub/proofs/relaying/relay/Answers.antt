use Rattle.std.proofs.Common.{Ok, Err, ap, refl}
use Rattle.exchange_model.specs.declared.what.What.TheVariants.{Read}
use Rattle.as4_hub.proofs.CrashLemmas.{relayed_on}
use Rattle.as4_hub.proofs.KeepingLemmas.{relayed_keeps}
use Rattle.as4_hub.proofs.RelayLemmas.{relayed_goes, relayed_same}
use Rattle.as4_hub.proofs.StepLemmas.{first_reply}
use Rattle.as4_hub.proofs.relaying.relay.Goals as goal

pub go_on-requires-clause-first : goal.go_on-requires-clause-first
go_on-requires-clause-first g c =
    first_reply g.row.D.Denot g.D.Disk c.args.office.now c.step.new.self c.args.pass.now c.step.new.pass _ c.in-Ok.reply
    c.totals.result.submitted c.in-Ok.ensures.handles refl

-- what follows the answer to the `Read`
pub returns-in-Ok-clause-relays : goal.returns-in-Ok-clause-relays
returns-in-Ok-clause-relays g c = record {
  middle = c.step.new.self;
  pass_middle = c.step.new.pass;
  answer = Ok c.in-Ok.reply;
  read = record { event = _; asked = ap Read c.totals.ensures.0; stamped = refl; named = refl; handled = c.in-Ok.ensures.handles };
  rest = c.go_on.ensures.follows;
}

pub returns-in-Ok-clause-goes : goal.returns-in-Ok-clause-goes
returns-in-Ok-clause-goes g c =
    relayed_goes g.row.D.Denot g.D.Disk c.args.office.now c.go_on.new.office c.args.pass.now c.go_on.new.pass c.args.mode.now c.args.stamp c.args.nonce
    c.go_on.result (returns-in-Ok-clause-relays g c)

pub returns-in-Ok-clause-same : goal.returns-in-Ok-clause-same
returns-in-Ok-clause-same g c =
    relayed_same g.row.D.Denot g.D.Disk c.args.office.now c.go_on.new.office c.args.pass.now c.go_on.new.pass c.args.mode.now c.args.stamp c.args.nonce
    c.go_on.result (returns-in-Ok-clause-relays g c)

pub returns-in-Ok-clause-keeps : goal.returns-in-Ok-clause-keeps
returns-in-Ok-clause-keeps g c =
    relayed_keeps g.row.D.Denot g.D.Disk c.args.office.now c.go_on.new.office c.args.pass.now c.go_on.new.pass c.args.mode.now c.args.stamp c.args.nonce
    c.go_on.result (returns-in-Ok-clause-relays g c)

pub returns-in-Ok-clause-any_moment : goal.returns-in-Ok-clause-any_moment
returns-in-Ok-clause-any_moment g c =
    relayed_on g.row.D.Denot g.D.Disk c.args.office.now c.go_on.new.office c.args.pass.now c.go_on.new.pass c.args.mode.now c.args.stamp c.args.nonce
    c.go_on.result (returns-in-Ok-clause-relays g c)

-- the `Read` meets a fault
pub returns-in-Err-clause-relays : goal.returns-in-Err-clause-relays
returns-in-Err-clause-relays g c = record {
  middle = c.step.new.self;
  pass_middle = c.step.new.pass;
  answer = Err c.in-Err.fault;
  read = record { event = _; asked = ap Read c.totals.ensures.0; stamped = refl; named = refl; handled = c.in-Err.ensures.handles };
  rest = (c.end_of_fault.ensures, record { office = refl; pass = refl });
}

pub returns-in-Err-clause-goes : goal.returns-in-Err-clause-goes
returns-in-Err-clause-goes g c =
    relayed_goes g.row.D.Denot g.D.Disk c.args.office.now c.step.new.self c.args.pass.now c.step.new.pass c.args.mode.now c.args.stamp c.args.nonce
    c.end_of_fault.result (returns-in-Err-clause-relays g c)

pub returns-in-Err-clause-any_moment : goal.returns-in-Err-clause-any_moment
returns-in-Err-clause-any_moment g c =
    relayed_on g.row.D.Denot g.D.Disk c.args.office.now c.step.new.self c.args.pass.now c.step.new.pass c.args.mode.now c.args.stamp c.args.nonce
    c.end_of_fault.result (returns-in-Err-clause-relays g c)
