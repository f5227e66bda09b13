-- Addresses of the other endpoint, as http URLs (RFC 3986, section 3; RFC 9110, section 4.2.1).
use Rattle.std.specs.Prelude.{ℕ, ◌+◌, ◌-◌, ◌*◌, List, [], ◌∷◌, Bool, true, not, ◌&&◌, ◌||◌, ◌==◌, nat_le, length, take, drop, slice_index, codes}
use Rattle.std.specs.List.{list_all, position_or_len}
use Rattle.std.specs.Char.{is_ascii_digit}
use Rattle.std.specs.Str.{bytes_eq}
use Rattle.as4_values.specs.Word.{is_graphic}

-- a byte of a host: graphic, and none of `/`, `:` and `@`
abbrev pub is_host_byte : ℕ → Bool
is_host_byte b = is_graphic b && not ((b == 47) || (b == 58) || (b == 64))

-- the number that the decimal digits write, after the digits of `n`
abbrev pub number_on : ℕ → List ℕ → ℕ
number_on n [] = n
number_on n (digit ∷ digits) = number_on (n * 10 + (digit - 48)) digits

-- digits that write a number from 1 to 65,535 in decimal
unfoldable pub writes_port : List ℕ → Bool
writes_port digits =
    list_all is_ascii_digit digits && (nat_le 1 (number_on 0 digits) && nat_le (number_on 0 digits) 65535)

-- a port: such digits without leading zeros
abbrev pub is_port : List ℕ → Bool
is_port digits = not (slice_index digits 0 == 48) && writes_port digits

-- the length of a port: up to a target or the end
abbrev pub port_len : List ℕ → ℕ
port_len rest = position_or_len (λ b. b == 47) rest

-- nothing, a target, or `:` and a port and then nothing or a target; a target begins with `/`
unfoldable pub is_behind_host : List ℕ → Bool
is_behind_host [] = true
is_behind_host (b ∷ rest) = (b == 47) || ((b == 58) && is_port (take (port_len rest) rest))

-- the length of the host, which follows `http://`
abbrev pub host_len : List ℕ → ℕ
host_len rest = position_or_len (λ b. not (is_host_byte b)) rest

-- a host of at least one byte, and a valid rest after it
unfoldable pub is_behind_scheme : List ℕ → Bool
is_behind_scheme rest = nat_le 1 (host_len rest) && is_behind_host (drop (host_len rest) rest)

-- the form of an address, of any length
unfoldable pub has_address_form : List ℕ → Bool
has_address_form bytes =
    bytes_eq (take 7 bytes) (codes "http://")
    && (list_all is_graphic (drop 7 bytes) && is_behind_scheme (drop 7 bytes))

-- an address: at most 255 bytes of this form
unfoldable pub is_address : List ℕ → Bool
is_address bytes = nat_le (length bytes) 255 && has_address_form bytes
