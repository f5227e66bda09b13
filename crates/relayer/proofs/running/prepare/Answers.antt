use Rattle.std.proofs.Common.{refl, inl, inr, subst}
use Rattle.as4_values.specs.Texts.{Spells}
use Rattle.relayer.proofs.HostLemmas.{no_text, with_name}
use Rattle.relayer.proofs.running.prepare.Goals as goal

pub returns-in-Ok-clause-relays : goal.returns-in-Ok-clause-relays
returns-in-Ok-clause-relays g c =
    with_name g.H.Host c.args.journal.now g.H.Store.Disk g.H.Time.Clock g.H.Dice.Nonces c.args.mode.now c.in-Ok.name c.args.count c.args.modes c.args.host.now c.relay_by-end.new.host (g.O.Sink.taken c.args.output.now) (g.O.Sink.taken c.relay_by-end.new.output)
    c.relay_by-end.result (subst (λ bytes. Spells bytes c.in-Ok.name) c.as_bytes.ensures.value c.in-Ok.ensures.found) c.relay_by-end.ensures.relays

pub returns-in-Err-BadText-clause-relays : goal.returns-in-Err-BadText-clause-relays
returns-in-Err-BadText-clause-relays g c =
    inr (inl (refl, no_text c.args.mode.now c.in-Err-BadText.field-0 _ c.in-Err-BadText.field-0-is (rw c.as_bytes.ensures.value at c.in-Err-BadText.ensures.only), refl, refl))
