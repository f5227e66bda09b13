use Rattle.header_reader.specs.Signals.{default_channel}
use Rattle.header_reader.specs.Values.{text_of}
use Rattle.header_reader.proofs.SignalLemmas.{default_is_text, default_given}
use Rattle.header_reader.proofs.read_signal.channel_or_default.Goals as goal

pub returns-in-None : goal.returns-in-None
unfolding default_channel
returns-in-None c = rw c.in-None.is (default_given c.read_value.result (text_of default_channel) default_channel c.read_value.ensures default_is_text)
