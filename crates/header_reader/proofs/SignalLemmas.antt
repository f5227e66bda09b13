-- The default channel is a text.
use Rattle.std.proofs.Common.{◌≡◌, refl, sym, ◌∙◌}
use Rattle.std.specs.Prelude.{Option, Some, Result, Ok, Err}
use Rattle.std.specs.Char.{encode_utf8}
use Rattle.std.specs.Str.{chars}
use Rattle.as4_values.specs.Texts.{is_xml}
use Rattle.header_reader.specs.Gives.{Gives}
use Rattle.header_reader.specs.Signals.{default_channel}
use Rattle.header_reader.specs.declared.refusal.HeaderRefusal.{HeaderRefusal}
use Rattle.header_reader.specs.declared.refusal.HeaderRefusal.TheVariants.{Invalid, Unsupported, NoMemory}
use Rattle.header_reader.specs.Values.{is_text, read_by, text_of}
use Rattle.byte_forms.specs.Trimmed.{end_of, trimmed}

pub default_is_text : text_of default_channel ≡ Some default_channel
unfolding default_channel end_of trimmed is_text is_xml read_by chars encode_utf8
default_is_text = refl

pub default_given : {X : Type 0} (result : Result X HeaderRefusal) (read : Option X) (given : X) → Gives result read → read ≡ Some given → Gives result (Some given)
default_given (Ok x) read given gives same = sym same ∙ gives
default_given (Err Invalid) read given gives same = sym same ∙ gives
default_given (Err Unsupported) read given gives same = gives
default_given (Err NoMemory) read given gives same = gives
