-- The lines of a drill script, in this program's own format: words separated by one space.
--
--     mode NAME [LINK] WAY RETRIES PERIOD   LINK is fh or hl, in a script of a chain; WAY is push or pull
--     submit END MODE LOAD                  END is a or b, or f, h or l of a chain; LOAD is none, hex=DIGITS or size=S
--     tick END MOMENT
--     take END
--     ask END MODE
--     relay END MODE                        in a script of a chain
--     pair END MODE NUMBER
--     came END [FROM] PACKAGE               FROM is an endpoint, in a script of a chain
--     lost END [FROM] PACKAGE
--     read END NUMBER
--     confirm END NUMBER
--     status END NUMBER
--     crash END
--     stop CALL PICK LINE                   CALL is 1 to 4; PICK is old, new or other; LINE is a line of submit, tick,
--                                           take, came or confirm
--     fold END
--
-- A line has only one text. Numbers are decimal, without a sign and without leading zeros.
use Rattle.std.specs.Prelude.{ℕ, ◌/◌, ◌%◌, ◌^◌, List, [], ◌∷◌, ◌++◌, Bool, true, ◌&&◌, ◌||◌, nat_le, nat_lt, length, codes, Option, Some, None}
use Rattle.std.specs.Fmt.{decimal}
use Rattle.std.specs.List.{flat_map, join_with_byte, list_all}
use Rattle.as4_values.specs.declared.moment.TheConstants.{MAX_MOMENT}
use Rattle.as4_disk.specs.declared.change.Pick.{Pick}
use Rattle.as4_disk.specs.declared.change.Pick.TheVariants as pick
use Rattle.byte_forms.specs.Digits.{hex_digit}
use Rattle.drill_script.specs.declared.line.EndName.{EndName}
use Rattle.drill_script.specs.declared.line.EndName.TheVariants.{A, B, First, Hub, Last}
use Rattle.drill_script.specs.declared.line.Line.{Line}
use Rattle.drill_script.specs.declared.line.Line.TheVariants as line
use Rattle.drill_script.specs.declared.line.LinkName.{LinkName}
use Rattle.drill_script.specs.declared.line.LinkName.TheVariants.{Front, Rear}
use Rattle.drill_script.specs.declared.line.ScriptLoad.{ScriptLoad}
use Rattle.drill_script.specs.declared.line.ScriptLoad.TheVariants.{Nothing, Hex, Size}
use Rattle.drill_script.specs.declared.line.Stoppable.{Stoppable}
use Rattle.drill_script.specs.declared.line.Stoppable.TheVariants.{Submit, Tick, Take, Came, Confirm}
use Rattle.drill_script.specs.declared.line.Way.{Way}
use Rattle.drill_script.specs.declared.line.Way.TheVariants.{Push, Pull}

abbrev pub end_text : EndName → List ℕ
end_text A = codes "a"
end_text B = codes "b"
end_text First = codes "f"
end_text Hub = codes "h"
end_text Last = codes "l"

-- the endpoint that a package comes from, where it is named
abbrev pub from_words : Option EndName → List (List ℕ)
from_words None = []
from_words (Some from) = end_text from ∷ []

abbrev pub link_text : LinkName → List ℕ
link_text Front = codes "fh"
link_text Rear = codes "hl"

-- the link of a mode, where it is named
abbrev pub link_words : Option LinkName → List (List ℕ)
link_words None = []
link_words (Some link) = link_text link ∷ []

abbrev pub way_text : Way → List ℕ
way_text Push = codes "push"
way_text Pull = codes "pull"

abbrev pub pick_text : Pick → List ℕ
pick_text pick.Old = codes "old"
pick_text pick.New = codes "new"
pick_text pick.Other = codes "other"

-- two digits for each byte
unfoldable pub hex_text : List ℕ → List ℕ
hex_text bytes = flat_map (λ b. hex_digit (b / 16) ∷ hex_digit (b % 16) ∷ []) bytes

unfoldable pub load_text : ScriptLoad → List ℕ
load_text Nothing = codes "none"
load_text (Hex bytes) = codes "hex=" ++ hex_text bytes
load_text (Size size) = codes "size=" ++ decimal size

-- the words of a line that can be stopped
abbrev pub stoppable_words : Stoppable → List (List ℕ)
stoppable_words (Submit end mode load) = codes "submit" ∷ end_text end ∷ mode ∷ load_text load ∷ []
stoppable_words (Tick end moment) = codes "tick" ∷ end_text end ∷ decimal moment ∷ []
stoppable_words (Take end) = codes "take" ∷ end_text end ∷ []
stoppable_words (Came end from number) = codes "came" ∷ end_text end ∷ (from_words from ++ decimal number ∷ [])
stoppable_words (Confirm end number) = codes "confirm" ∷ end_text end ∷ decimal number ∷ []

-- the words of a line
abbrev pub line_words : Line → List (List ℕ)
line_words (line.Mode name link way retries period) =
    codes "mode" ∷ name ∷ (link_words link ++ way_text way ∷ decimal retries ∷ decimal period ∷ [])
line_words (line.Run l) = stoppable_words l
line_words (line.Ask end mode) = codes "ask" ∷ end_text end ∷ mode ∷ []
line_words (line.Relay end mode) = codes "relay" ∷ end_text end ∷ mode ∷ []
line_words (line.Pair end mode number) = codes "pair" ∷ end_text end ∷ mode ∷ decimal number ∷ []
line_words (line.Lost end from number) = codes "lost" ∷ end_text end ∷ (from_words from ++ decimal number ∷ [])
line_words (line.Read end number) = codes "read" ∷ end_text end ∷ decimal number ∷ []
line_words (line.Status end number) = codes "status" ∷ end_text end ∷ decimal number ∷ []
line_words (line.Crash end) = codes "crash" ∷ end_text end ∷ []
line_words (line.Stop call pick l) = codes "stop" ∷ decimal call ∷ pick_text pick ∷ stoppable_words l
line_words (line.Fold end) = codes "fold" ∷ end_text end ∷ []

-- the words, separated by one space
unfoldable pub line_text : Line → List ℕ
line_text l = join_with_byte 32 (line_words l)

-- the same for a line that can be stopped
abbrev pub stoppable_text : Stoppable → List ℕ
stoppable_text l = join_with_byte 32 (stoppable_words l)

-- a to z and 0 to 9
abbrev pub is_drill_byte : ℕ → Bool
is_drill_byte b = (nat_le 97 b && nat_le b 122) || (nat_le 48 b && nat_le b 57)

-- 1 to 32 of these bytes
unfoldable pub is_name : List ℕ → Bool
is_name name = nat_le 1 (length name) && (nat_le (length name) 32 && list_all is_drill_byte name)

-- each is below 256
abbrev pub are_bytes : List ℕ → Bool
are_bytes bytes = list_all (λ b. nat_lt b 256) bytes

abbrev pub is_load : ScriptLoad → Bool
is_load Nothing = true
is_load (Hex bytes) = are_bytes bytes
is_load (Size size) = nat_le size 16777216

-- the values of a line that can be stopped are in range
unfoldable pub is_stoppable : Stoppable → Bool
is_stoppable (Submit end mode load) = is_name mode && is_load load
is_stoppable (Tick end moment) = nat_le moment MAX_MOMENT
is_stoppable (Take end) = true
is_stoppable (Came end from number) = nat_lt number (2 ^ 64)
is_stoppable (Confirm end number) = nat_lt number (2 ^ 64)

-- the values of a line are in range
unfoldable pub is_line : Line → Bool
is_line (line.Mode name link way retries period) =
    is_name name && (nat_le retries 1000 && (nat_le 1 period && nat_le period 1000000000))
is_line (line.Run l) = is_stoppable l
is_line (line.Ask end mode) = is_name mode
is_line (line.Relay end mode) = is_name mode
is_line (line.Pair end mode number) = is_name mode && nat_lt number (2 ^ 64)
is_line (line.Lost end from number) = nat_lt number (2 ^ 64)
is_line (line.Read end number) = nat_lt number (2 ^ 64)
is_line (line.Status end number) = nat_lt number (2 ^ 64)
is_line (line.Crash end) = true
is_line (line.Stop call pick l) = nat_le 1 call && (nat_le call 4 && is_stoppable l)
is_line (line.Fold end) = true

-- the maximum number of bytes of a line
abbrev pub line_limit : ℕ
line_limit = 1048576
