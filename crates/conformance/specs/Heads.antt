-- Heads that are whole or haven't ended.
use Rattle.std.specs.Prelude.{◌≡◌, ◌≢◌, ℕ, ◌+◌, ◌≤◌, List, ◌∷◌, ◌++◌, length}
use Rattle.httparse.specs.Grammar.{AllPass, IsToken, LineEnd, ReadsRequest, RequestHead, is_uri_byte, print_end}
use Rattle.as4_http.specs.Limits.{the_limits}
use Rattle.conformance.specs.Exchanges.{ended_lines}

-- the bytes don't begin with a line's end
abbrev pub HasNoEnd : List ℕ → Type 0
HasNoEnd bytes = (end : LineEnd) (rest : List ℕ) → bytes ≢ print_end end ++ rest

-- the bytes are a method, a space and a part of a target
abbrev pub IsTargetLine : List ℕ → Type 0
IsTargetLine line = (method : List ℕ) × (target : List ℕ) × IsToken method × AllPass is_uri_byte target × (line ≡ method ++ 32 ∷ target)

-- the bytes begin with a head
abbrev pub HasHead : List ℕ → Type 0
HasHead bytes = (head : RequestHead) × (rest : List ℕ) × ReadsRequest bytes head rest

-- each head within the limit of fields that begins so has at most the lines that have ended here
abbrev pub EndsFewLines : List ℕ → Type 0
EndsFewLines bytes =
    (more : List ℕ) (head : RequestHead) (rest : List ℕ) → ReadsRequest (bytes ++ more) head rest → length head.fields ≤ the_limits.fields
    → ended_lines bytes ≤ length head.fields + 1
