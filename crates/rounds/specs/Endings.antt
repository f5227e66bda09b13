-- How rounds end.
use Rattle.as4_http.specs.declared.refusal.HttpRefusal.TheVariants as http
use Rattle.exchange_model.specs.declared.reply.Reply.{Reply}
use Rattle.exchange_model.specs.declared.reply.Reply.TheVariants as reply
use Rattle.office.specs.declared.fault.OfficeFault.{OfficeFault}
use Rattle.office.specs.declared.fault.OfficeFault.TheVariants as fault
use Rattle.link_exchange.specs.declared.exchanging.Lost.{Lost}
use Rattle.link_exchange.specs.declared.exchanging.Lost.TheVariants as lost
use Rattle.sessions.specs.declared.rounds.RoundEnd.{RoundEnd}
use Rattle.sessions.specs.declared.rounds.RoundEnd.TheVariants as round

-- with the reply to its last event
abbrev pub end_by : Reply → RoundEnd
end_by reply.Nothing = round.Nothing
end_by reply.NoMode = round.NoMode
end_by (reply.Full size need) = round.Full size need
end_by other = round.Done

-- without a reply
abbrev pub end_halted : OfficeFault → RoundEnd
end_halted (fault.Disk before after) = round.DiskFault before after
end_halted (fault.Stopped before after) = round.Stopped before after
end_halted fault.Worn = round.Worn
end_halted fault.NoMemory = round.NoMemory

-- without a response
abbrev pub end_lost : Lost → RoundEnd
end_lost lost.Unreached = round.LinkFault
end_lost lost.Unsent = round.WriteFault
end_lost (lost.Unread http.Cut) = round.Cut
end_lost (lost.Unread http.Bad) = round.Bad
end_lost (lost.Unread http.TooLong) = round.TooLong
end_lost (lost.Unread http.ReadFault) = round.ReadFault
end_lost (lost.Unread http.NoMemory) = round.NoMemory
end_lost lost.NoMemory = round.NoMemory
