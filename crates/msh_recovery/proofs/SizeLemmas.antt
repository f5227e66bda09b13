-- How many bytes records have, and the ends that they lead to.
use Rattle.std.proofs.Common.{◌≡◌, ℕ, ◌+◌, ◌*◌, ◌≤◌, List, [], ◌∷◌, length, length-append, ap, arith}
use Rattle.std.specs.Prelude.{flat_map}
use Rattle.std.specs.List.{sum_by}
use Rattle.std.proofs.lemmas.List.Sums.{sum_by-cons}
use Rattle.as4_effects.specs.declared.effect.Effect.{Effect}
use Rattle.exchange_model.specs.Apply.{applied, record_len}
use Rattle.exchange_model.specs.End.{End, empty_end}
use Rattle.journal.specs.Leaf.{front_of, record_of, width_of}
use Rattle.journal.specs.declared.version.Version.{Version}
use Rattle.journal.specs.declared.version.Version.TheVariants.{Two}
use Rattle.journal.proofs.LeafLemmas.{length-front, length-record}
use Rattle.msh_core.proofs.RecordLemmas.{size_kept}
use Rattle.msh_recovery.specs.Records.{RecordLeads, RecordsLead}

applied_size : (effects : List Effect) (end : End) → 1 ≤ length effects → (applied effects end).size ≡ end.size + record_len effects
unfolding applied
applied_size [] end some = absurd (omega (arith, some))
applied_size (e ∷ effects) end some = ap (λ (n : ℕ). n + record_len (e ∷ effects)) (size_kept (e ∷ effects) end)

-- a record adds its body and nine bytes
pub record_size : (body : List ℕ) (start end : End) → RecordLeads body start end → end.size ≡ start.size + (length body + 9)
unfolding record_len
record_size body start end (effects, is, fits, leads) =
    omega (arith, ap (λ (e : End). e.size) leads, applied_size effects start is.some, ap length is.bytes)

records_size : (bodies : List (List ℕ)) (start end : End) → RecordsLead bodies start end → end.size ≡ start.size + sum_by length bodies + 9 * length bodies
records_size [] start end here = omega (arith, ap (λ (e : End). e.size) here)
records_size (body ∷ bodies) start end leads =
    let sum : sum_by length (body ∷ bodies) ≡ length body + sum_by length bodies = sum_by-cons length body bodies in
    omega (arith, sum, record_size body start leads.0 leads.1, records_size bodies leads.0 end leads.2)

records_len : (version : Version) (bodies : List (List ℕ)) → length (flat_map (record_of version) bodies) ≡ sum_by length bodies + (1 + width_of version) * length bodies
records_len version [] = omega arith
records_len version (body ∷ bodies) =
    let sum : sum_by length (body ∷ bodies) ≡ length body + sum_by length bodies = sum_by-cons length body bodies in
    let width = width_of version in
    let more : (1 + width) * (1 + length bodies) ≡ (1 + width) + (1 + width) * length bodies = omega arith in
    omega (arith, sum, more, length-append (record_of version body) (flat_map (record_of version) bodies), length-record version body, records_len version bodies)

-- a front is its magic, and the records
pub front_len : (version : Version) (bodies : List (List ℕ)) → length (front_of version bodies) ≡ 8 + sum_by length bodies + (1 + width_of version) * length bodies
front_len version bodies = omega (arith, length-front version bodies, records_len version bodies)

-- in version 2 the end says how long the leaf is, with its last gate
pub size_of_end : (bodies : List (List ℕ)) (end : End) → RecordsLead bodies empty_end end → end.size ≡ length (front_of Two bodies) + 1
size_of_end bodies end leads = omega (arith, records_size bodies empty_end end leads, front_len Two bodies)
