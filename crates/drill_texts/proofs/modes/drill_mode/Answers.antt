use Rattle.std.proofs.Common.{◌≡◌, List, ℕ, sym, subst}
use Rattle.std.specs.Prelude.{IsTrue}
use Rattle.mode_values.specs.ModeRanges.{is_mode_name, is_short}
use Rattle.drill_texts.specs.Modes.{route_of}
use Rattle.drill_texts.proofs.ModeLemmas.{name_is_mode_name, name_is_short, never_collects, no_agreement, receiver_is_short, route_is_right, sender_is_short, service_is_short}
use Rattle.drill_texts.proofs.modes.drill_mode.Goals as goal

pub invariant_of-result : goal.invariant_of-result
invariant_of-result c =
    let made = c.in-Ok-Ok-Ok-Ok-Ok-Ok in
    let name : made.name ≡ c.args.name.now = cc (made.ensures, c.bytes.ensures) in
    let action : made.action ≡ c.args.name.now = cc (made.ensures'''', c.bytes-2.ensures) in
    let route : made.route ≡ route_of c.args.name.now c.args.way = cc (made.ensures''''', c.bytes-3.ensures) in
    record {
      named = subst (λ (n : List ℕ). IsTrue (is_mode_name n)) (sym name) (name_is_mode_name c.args.name.now c.requires.named);
      from_short = sender_is_short c.args.link made.from made.ensures';
      to_short = receiver_is_short c.args.link made.to made.ensures'';
      service_short = service_is_short made.value made.ensures''';
      action_short = subst (λ (n : List ℕ). IsTrue (is_short n)) (sym action) (name_is_short c.args.name.now c.requires.named);
      agreed = no_agreement;
      routed = route_is_right c.args.name.now c.args.way made.route c.requires.named route;
      limited = c.requires.retries;
      timed = (c.requires.begun, c.requires.period);
      collects = never_collects made.route;
    }
