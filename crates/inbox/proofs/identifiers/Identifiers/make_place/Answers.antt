use Rattle.std.proofs.Common.{◌≡◌, false, Some, ap, sym, ◌∙◌}
use Rattle.std.specs.Prelude.{is_some}
use Rattle.inbox.specs.Holding.{hold_of}
use Rattle.inbox.specs.declared.identifiers.Hold.TheVariants as hold
use Rattle.inbox.proofs.HoldingLemmas.{not_there, same_held}
use Rattle.inbox.proofs.identifiers.Identifiers.make_place.Goals as goal

pub returns-clause-held : goal.returns-clause-held
returns-clause-held c =
    let out : is_some (hold_of c.in_ok-key.key c.args.self.now) ≡ false =
    ap (λ key. is_some (hold_of key c.args.self.now)) c.in_ok-key.ensures ∙ (sym c.contains_key.ensures ∙ c.if-contains_key.false) in
    same_held c.args.self.now.holds c.insert.new.self c.in_ok-key.key (Some hold.Room) c.in_ok-insert.ensures.updates
    (not_there (hold_of c.in_ok-key.key c.args.self.now) out)
