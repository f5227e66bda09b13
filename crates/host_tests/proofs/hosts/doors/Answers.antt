use Rattle.std.proofs.Common.{Some, ◌∙◌, ap}
use Rattle.as4_host.proofs.AskedLemmas.{asked_name}
use Rattle.host_tests.proofs.hosts.doors.Goals as goal

pub settle_door-requires : goal.settle_door-requires
settle_door-requires c = asked_name (Some c.in_ok-host.host.names) (Some c.put_guests.new.self.names) _ (ap (λ host. Some host.names) c.put_guests.ensures.others ∙ c.in-Ok.ensures.names)
