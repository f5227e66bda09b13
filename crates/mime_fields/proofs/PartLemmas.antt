-- A part, from its head, its known fields and their values.
use Rattle.std.proofs.Common.{◌≡◌, ℕ, List, Option, Some, None, refl, sym, ◌∙◌}
use Rattle.std.specs.Prelude.{codes}
use Rattle.byte_forms.specs.Cuts.{◌>>=◌}
use Rattle.mime_fields.specs.Fields.{Field, PartValue, max_fields, fields_within, value_of, part_of}
use Rattle.mime_fields.specs.Known.{KnownValues, known_of, part_with}

-- a part made from three values, by way of a record of them
three : (a b c : Option (Option (List ℕ))) (made : KnownValues → Option PartValue)
    → (a >>= λ id. b >>= λ media. c >>= λ encoding. made (record { id = id; media = media; encoding = encoding }))
    ≡ ((a >>= λ id. b >>= λ media. c >>= λ encoding. Some (record { id = id; media = media; encoding = encoding })) >>= made)
three None b c made = refl
three (Some id) None c made = refl
three (Some id) (Some media) None made = refl
three (Some id) (Some media) (Some encoding) made = refl

pub no_head : (bytes : List ℕ) → fields_within max_fields bytes ≡ None → None ≡ part_of bytes
unfolding part_of
no_head bytes none = rw none refl

by_head : (bytes : List ℕ) (head : List Field × List ℕ) → fields_within max_fields bytes ≡ Some head → part_of bytes ≡ (known_of head.0 >>= λ known. part_with known head.1)
unfolding part_of known_of part_with
by_head bytes head is =
    rw is (three (value_of (codes "Content-ID") head.0) (value_of (codes "Content-Type") head.0) (value_of (codes "Content-Transfer-Encoding") head.0) (λ known. part_with known head.1))

pub no_known : (bytes : List ℕ) (head : List Field × List ℕ) → fields_within max_fields bytes ≡ Some head → known_of head.0 ≡ None → None ≡ part_of bytes
no_known bytes head is none = sym (by_head bytes head is ∙ rw none refl)

pub part_told : (bytes : List ℕ) (head : List Field × List ℕ) (known : KnownValues) → fields_within max_fields bytes ≡ Some head → known_of head.0 ≡ Some known → part_of bytes ≡ part_with known head.1
part_told bytes head known is found = by_head bytes head is ∙ rw found refl
