use Rattle.std.proofs.Common.{zero, None, Some, arith, refl, subst}
use Rattle.drill.specs.Generating.{PlaysTransmission}
use Rattle.std.specs.Prelude.{length}
use Rattle.drill.proofs.GeneratedLemmas.{transmission_few, taken_on}
use Rattle.drill.proofs.SpendLemmas.{last_grows, transmission_spends}
use Rattle.drill.proofs.generated.take_all.Goals as goal

pub takes-init : goal.takes-init
takes-init c = record { counter = c.requires.counter; taken = (zero, (refl, refl)); handed = omega arith; few = omega arith }

pub takes-preserved : goal.takes-preserved
takes-preserved c =
    let transmission : PlaysTransmission c.takes.now c.takes.state c.play_transmission.new.state (Some c.in-Some.later) =
    subst (PlaysTransmission c.takes.now c.takes.state c.play_transmission.new.state) c.in-Some.is c.in_ok-later.ensures in
    let few = transmission_few c.takes.now c.in-Some.later c.takes.state c.play_transmission.new.state c.takes.invariant.counter transmission in
    let spends = transmission_spends c.takes.now (length c.takes.state.world.left.said) (length c.takes.state.world.right.said) c.takes.state c.play_transmission.new.state transmission.1 transmission.2 in
    record {
      counter = few.0;
      taken = taken_on c.args.counter c.args.state.now c.takes.now c.in-Some.later c.takes.state c.play_transmission.new.state c.takes.invariant.taken transmission;
      handed = omega (arith, spends.handed, c.takes.invariant.handed);
      few = omega (arith, spends.events, spends.push, c.takes.invariant.few);
    }

pub takes-smaller : goal.takes-smaller
takes-smaller c =
    let transmission : PlaysTransmission c.takes.now c.takes.state c.play_transmission.new.state (Some c.in-Some.later) =
    subst (PlaysTransmission c.takes.now c.takes.state c.play_transmission.new.state) c.in-Some.is c.in_ok-later.ensures in
    let few = transmission_few c.takes.now c.in-Some.later c.takes.state c.play_transmission.new.state c.takes.invariant.counter transmission in
    omega (arith, few.1.0, few.1.1)

pub returns-in-None-clause-grows : goal.returns-in-None-clause-grows
returns-in-None-clause-grows c =
    let transmission : PlaysTransmission c.takes.now c.takes.state c.play_transmission.new.state None =
    subst (PlaysTransmission c.takes.now c.takes.state c.play_transmission.new.state) c.in-None.is c.in_ok-later.ensures in
    let last = last_grows c.takes.state c.play_transmission.new.state transmission.1 in (
      omega (arith, last.0, c.takes.invariant.few),
      omega (arith, last.1, c.takes.invariant.handed),
    )
