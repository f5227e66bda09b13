use Rattle.std.proofs.Common.{refl, sym, ◌∙◌, arith}
use Rattle.relayer.specs.Relaying.{moment}
use Rattle.relayer.proofs.RelayLemmas.{ends_by, ends_done, ends_unwritten, goes_more, keeps_more, never_unwritten, on_ok_of, so_far_next, so_far_none}
use Rattle.relayer.proofs.relaying.relay_all.Goals as goal

pub loop-init : goal.loop-init
loop-init g c = record {
  so_far = so_far_none g.D.Disk g.C.Clock g.N.Nonces c.args.mode.now (moment c.args.office.now c.args.pass.now c.args.clock.now c.args.nonces.now) (g.O.Sink.taken c.args.output.now);
  quiet = refl;
}

pub returns-then-is_err-clause-relays : goal.returns-then-is_err-clause-relays
returns-then-is_err-clause-relays g c =
    ends_unwritten g.D.Disk g.C.Clock g.N.Nonces c.args.mode.now c.loop.counter c.args.count c.in-Relayed.number c.in-Relayed.id (moment c.args.office.now c.args.pass.now c.args.clock.now c.args.nonces.now) (moment c.loop.office c.loop.pass c.loop.clock c.loop.nonces)
    (moment c.relay.new.office c.relay.new.pass c.now-stamp.new.self c.next-nonce.new.self) (g.O.Sink.taken c.args.output.now) (g.O.Sink.taken c.loop.output) (g.O.Sink.taken c.tell-told.new.output) c.loop-test.true c.loop.invariant.so_far
    (record { stamp = c.now-stamp.result; nonce = c.next-nonce.result; drawn = record { moment_is = sym c.now-stamp.ensures.last; nonce_is = sym c.next-nonce.ensures.last; from_clock = c.now-stamp.ensures.draws; from_nonces = c.next-nonce.ensures.draws }; relays = c.in-Relayed.ensures.relays }) c.tell-told.ensures.front

pub returns-then-is_err-clause-goes : goal.returns-then-is_err-clause-goes
returns-then-is_err-clause-goes g c =
    goes_more g.D.Disk (moment c.args.office.now c.args.pass.now c.args.clock.now c.args.nonces.now) (moment c.loop.office c.loop.pass c.loop.clock c.loop.nonces) (moment c.relay.new.office c.relay.new.pass c.now-stamp.new.self c.next-nonce.new.self)
    c.loop.invariant.so_far.keeps c.loop.invariant.so_far.goes c.relay.ensures.goes

pub returns-in_default : goal.returns-in_default
returns-in_default g c =
    let old = moment c.args.office.now c.args.pass.now c.args.clock.now c.args.nonces.now in
    let middle = moment c.loop.office c.loop.pass c.loop.clock c.loop.nonces in
    let new = moment c.relay.new.office c.relay.new.pass c.now-stamp.new.self c.next-nonce.new.self in
    let so_far = c.loop.invariant.so_far in record {
      relays = ends_by g.D.Disk g.C.Clock g.N.Nonces c.args.mode.now c.loop.counter c.args.count old middle new (g.O.Sink.taken c.args.output.now) (g.O.Sink.taken c.loop.output) c.relay.result c.end_of.result c.loop-test.true so_far
          (record { stamp = c.now-stamp.result; nonce = c.next-nonce.result; drawn = record { moment_is = sym c.now-stamp.ensures.last; nonce_is = sym c.next-nonce.ensures.last; from_clock = c.now-stamp.ensures.draws; from_nonces = c.next-nonce.ensures.draws }; relays = c.relay.ensures.relays }) c.in_default.not-Relayed c.end_of.ensures;
      keeps = keeps_more g.D.Disk old middle new so_far.keeps c.relay.ensures.keeps;
      goes = goes_more g.D.Disk old middle new so_far.keeps so_far.goes c.relay.ensures.goes;
      faults = record {
        rose = λ is. absurd (never_unwritten c.relay.result (sym c.end_of.ensures ∙ is));
        stays = λ other. c.loop.invariant.quiet;
      };
    }

pub loop-preserved : goal.loop-preserved
loop-preserved g c =
    let taken = g.O.Sink.taken c.loop.output in
    let later = g.O.Sink.taken c.tell-told.new.output in
    let none = sym c.is_err.ensures.value ∙ c.if-is_err.false in record {
      so_far = so_far_next g.D.Disk g.C.Clock g.N.Nonces c.args.mode.now c.loop.counter c.in-Relayed.number c.in-Relayed.id (moment c.args.office.now c.args.pass.now c.args.clock.now c.args.nonces.now) (moment c.loop.office c.loop.pass c.loop.clock c.loop.nonces)
          (moment c.relay.new.office c.relay.new.pass c.now-stamp.new.self c.next-nonce.new.self) (g.O.Sink.taken c.args.output.now) taken later c.loop.invariant.so_far
          (record { stamp = c.now-stamp.result; nonce = c.next-nonce.result; drawn = record { moment_is = sym c.now-stamp.ensures.last; nonce_is = sym c.next-nonce.ensures.last; from_clock = c.now-stamp.ensures.draws; from_nonces = c.next-nonce.ensures.draws }; relays = c.in-Relayed.ensures.relays }) c.relay.ensures.keeps c.relay.ensures.goes
          (on_ok_of c.tell-told.result _ none c.tell-told.ensures.ok);
      quiet = on_ok_of c.tell-told.result _ none c.tell-told.ensures.quiet ∙ c.loop.invariant.quiet;
    }

pub returns-clause-relays : goal.returns-clause-relays
returns-clause-relays g c =
    ends_done g.D.Disk g.C.Clock g.N.Nonces c.args.mode.now c.loop.counter c.args.count (moment c.args.office.now c.args.pass.now c.args.clock.now c.args.nonces.now) (moment c.loop.office c.loop.pass c.loop.clock c.loop.nonces) (g.O.Sink.taken c.args.output.now) (g.O.Sink.taken c.loop.output)
    c.loop.invariant.so_far (omega (arith, c.loop-test.false, c.loop.auto.counter-end))
