-- Blanks.
use Rattle.std.specs.Prelude.{ℕ, Bool, ◌||◌, ◌==◌}

-- a space, a tab or a byte of a line end (XML 1.0, section 2.3: `S`)
abbrev pub is_blank : ℕ → Bool
is_blank b = (b == 32) || (b == 9) || (b == 10) || (b == 13)

-- a space or a tab (RFC 9112, section 5.6.3: `OWS`; RFC 2045 allows them round parameters)
abbrev pub is_space : ℕ → Bool
is_space b = (b == 32) || (b == 9)
