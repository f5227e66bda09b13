use Rattle.std.proofs.Common.{◌≡◌, ◌<◌, length, refl, sym, ap, ◌∙◌, arith}
use Rattle.payload_gates.proofs.GateLemmas.{moved_length, moved_none}
use Rattle.msh_journal.proofs.MoveLemmas.{place_moved}
use Rattle.msh_journal.proofs.folding.move_places.Goals as goal

pub gates-init : goal.gates-init
gates-init c = record {
  at = omega (arith, c.requires.counted, c.totals.ensures);
  places = sym (moved_none c.args.core.now.end.confirmed c.args.core.now.places);
  end = refl;
  modes = refl;
}

pub moved-requires : goal.moved-requires
moved-requires c =
    let so_far = c.gates.invariant in
    let long : length c.gates.core.places ≡ length c.args.core.now.places = ap length so_far.places ∙ moved_length c.args.core.now.end.confirmed _ c.args.core.now.places in
    omega (arith, long, so_far.at, c.gates-test.true, c.requires.counted, c.requires.placed)

pub gates-preserved : goal.gates-preserved
gates-preserved c =
    let so_far = c.gates.invariant in
    let core = c.args.core.now in
    let within : c.gates.n < length core.places = omega (arith, so_far.at, c.gates-test.true, c.requires.counted, c.requires.placed) in
    record {
      at = omega (arith, so_far.at);
      places = place_moved core.end.confirmed c.gates.gate-index c.gates.n c.args.gates.now core.places c.gates.core.places c.moved.new.self.places
          so_far.at c.gates-test.true so_far.places within c.moved.ensures.places;
      end = c.moved.ensures.end ∙ so_far.end;
      modes = c.moved.ensures.modes ∙ so_far.modes;
    }
