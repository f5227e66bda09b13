-- Bytes without the blanks at both ends (XML 1.0, section 2.3).
use Rattle.std.specs.Prelude.{ℕ, zero, suc, ◌-◌, List, if◌then◌else◌, length, slice_index, take, drop}
use Rattle.std.specs.List.{prefix_len}
use Rattle.byte_forms.specs.Classes.{is_blank}

-- how many of the first n bytes there are without the blanks at their end
unfoldable pub end_of : List ℕ → ℕ → ℕ
end_of bytes zero = 0
end_of bytes (suc n) = if is_blank (slice_index bytes n) then end_of bytes n else suc n

-- the bytes between the blanks at both ends
unfoldable pub trimmed : List ℕ → List ℕ
trimmed bytes =
    let start = prefix_len is_blank bytes in
    let end = end_of bytes (length bytes) in
    take (end - start) (drop start bytes)
