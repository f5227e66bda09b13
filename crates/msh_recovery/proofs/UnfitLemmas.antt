-- Where a leaf is no journal of an end: at one place, and not where its records lead to one.
use Rattle.std.proofs.Common.{◌≡◌, ◌⊎◌, inl, inr, ⊎_elim, ℕ, ◌+◌, ◌<◌, ◌≤◌, List, [], ◌∷◌, ◌++◌, length, take, sym, ap, subst, ◌∙◌, arith, length-append, append_assoc}
use Rattle.std.specs.Prelude.{flat_map}
use Rattle.std.proofs.lemmas.List.{append-nil}
use Rattle.as4_disk.specs.Image.{Image}
use Rattle.exchange_model.specs.End.{End, empty_end}
use Rattle.journal.specs.Leaf.{IsBroken, front_of, length_bytes, limit_of, record_of, width_of}
use Rattle.journal.specs.Store.{picked_leaf}
use Rattle.journal.specs.declared.version.Version.{Version}
use Rattle.journal.specs.declared.version.Version.TheVariants.{One, Two}
use Rattle.journal.proofs.BrokenLemmas.{cut_short_last, lists_unbroken, opens_all}
use Rattle.journal.proofs.FetchLemmas.{front_split}
use Rattle.journal.proofs.LeafLemmas.{AreFirst, compared, front_magic, front_more, length-front, length-front_more, length-record, record_at, record_head}
use Rattle.journal.proofs.StoreLemmas.{lists_once, whole_lists}
use Rattle.msh_recovery.specs.Opens.{OpensAs, ReadsAs}
use Rattle.msh_recovery.specs.Records.{RecordLeads, RecordsLead}
use Rattle.msh_recovery.specs.Unfit.{IsNoJournal, IsUnfit}
use Rattle.msh_recovery.proofs.RecordLemmas.{HasOneBody, lead_parts, one_end}

width_some : (version : Version) → 4 ≤ width_of version
width_some One = omega arith
width_some Two = omega arith

pub opens_reads : (image : Image) (end : End) → OpensAs image end → ReadsAs image end
opens_reads image end (bodies, by) = (bodies, whole_lists bodies (picked_leaf image) by.records, by.leads)

-- The leaf's first records lead to an end, and something stands behind them, at this place.
record StandsAt (at : ℕ) (leaf : List ℕ) : Type 0 where
  version : Version
  bodies : List (List ℕ)
  behind : List ℕ
  bytes : leaf ≡ front_of version bodies ++ behind
  within : length (front_of version bodies) < limit_of version
  some : 0 < length behind
  place : at ≡ length (front_of version bodies)
  end : End
  leads : RecordsLead bodies empty_end end

-- where the records that lead on are the first of others
no_longer : (at place : ℕ) (v w : Version) (bodies read : List (List ℕ)) → v ≡ w → (more : List (List ℕ)) → read ≡ bodies ++ more → at ≡ length (front_of v read) → place ≡ length (front_of w bodies) → place ≤ at
no_longer at place v w bodies read versions more is at_is place_is =
    let P : Version → Type 0 = λ u. place ≡ length (front_of u bodies) in
    omega (
      arith,
      at_is,
      subst P (sym versions) place_is,
      ap (λ (l : List (List ℕ)). length (front_of v l)) is,
      ap length (front_split v bodies more),
      length-append (front_of v bodies) (flat_map (record_of v) more),
    )

-- a record that leads to no end stands behind the others
unfit_here : (at : ℕ) (leaf : List ℕ) → (unfit : IsUnfit at leaf)
    → (leaf ≡ front_of unfit.version unfit.bodies ++ (record_of unfit.version unfit.body ++ unfit.behind)) × (length (front_of unfit.version unfit.bodies) < limit_of unfit.version)
unfit_here at leaf unfit =
    let v = unfit.version in (
      unfit.bytes ∙ ap (λ (l : List ℕ). l ++ unfit.behind) (front_more v unfit.bodies unfit.body) ∙ append_assoc (front_of v unfit.bodies) (record_of v unfit.body) unfit.behind,
      omega (arith, unfit.within, length-front_more v unfit.bodies unfit.body),
    )

-- so something does, and the leaf isn't new
unfit_stands : (at : ℕ) (leaf : List ℕ) → IsUnfit at leaf → (9 < length leaf) × StandsAt at leaf
unfit_stands at leaf unfit =
    let v = unfit.version in
    let here = record_of v unfit.body ++ unfit.behind in
    let len = length-record v unfit.body in
    let stands = unfit_here at leaf unfit in (
      omega (arith, width_some v, len, ap length stands.0, length-append (front_of v unfit.bodies) here, length-append (record_of v unfit.body) unfit.behind, length-front v unfit.bodies),
      record {
        version = v;
        bodies = unfit.bodies;
        behind = here;
        bytes = stands.0;
        within = stands.1;
        some = omega (arith, len, length-append (record_of v unfit.body) unfit.behind);
        place = unfit.place;
        end = unfit.end;
        leads = unfit.leads;
      },
    )

pub unfit_no_journal : (at : ℕ) (leaf : List ℕ) → IsUnfit at leaf → IsNoJournal at leaf
unfit_no_journal at leaf unfit = ((unfit_stands at leaf unfit).0, inr (inr unfit))

-- a leaf that begins with neither magic is no journal at 0, and no gate stands there
pub broken_no_journal : (leaf : List ℕ) → IsBroken 0 leaf → IsNoJournal 0 leaf
broken_no_journal leaf (long, inl none) = (long, inl none)
broken_no_journal leaf (long, inr (version, bodies, rest, place, cut)) = absurd (omega (arith, place, length-front version bodies))

no_journal_stands : (at : ℕ) (leaf : List ℕ) → IsNoJournal at leaf → (at ≡ 0) ⊎ StandsAt at leaf
no_journal_stands at leaf (long, inl none) = inl none.0
no_journal_stands at leaf (long, inr (inl off)) =
    inr (record {
      version = off.version;
      bodies = off.bodies;
      behind = 1 ∷ off.rest;
      bytes = off.cut.bytes;
      within = off.cut.within;
      some = omega arith;
      place = off.place;
      end = off.end;
      leads = off.leads;
    })
no_journal_stands at leaf (long, inr (inr unfit)) = inr (unfit_stands at leaf unfit).1

module _ (one : HasOneBody) where
  pub reads_once : (image : Image) (a b : End) → ReadsAs image a → ReadsAs image b → a ≡ b
  reads_once image a b (bodies, lists, leads) (others, lists_too, leads_too) =
      let same = lists_once others bodies (picked_leaf image) lists_too lists in
      one_end one bodies empty_end a b leads (subst (λ (l : List (List ℕ)). RecordsLead l empty_end b) same leads_too)

  -- records that a leaf begins with, and that lead to an end, go no further than one that leads to none
  unfit_last : (at : ℕ) (w : Version) (all : List (List ℕ)) (y leaf : List ℕ) (end : End) → (unfit : IsUnfit at leaf) → leaf ≡ front_of w all ++ y → length (front_of w all) < limit_of w → RecordsLead all empty_end end
      → (unfit.version ≡ w) × AreFirst unfit.version all unfit.bodies y (record_of unfit.version unfit.body ++ unfit.behind)
  unfit_last at w all y leaf end unfit begins within leads =
      let v = unfit.version in
      let here = record_of v unfit.body ++ unfit.behind in
      let stands = unfit_here at leaf unfit in
      let found = compared v w unfit.bodies all here y stands.1 within (sym stands.0 ∙ begins) in
      let P : Version → Type 0 = λ u. length (front_of u all) < limit_of u in
      (found.0, ⊎_elim (λ (first : AreFirst v unfit.bodies all here y). last first.0 first.1 (subst P (sym found.0) within) first.2) (λ (first : AreFirst v all unfit.bodies y here). first) found.1)
    where
      last : (more : List (List ℕ)) → all ≡ unfit.bodies ++ more → length (front_of unfit.version all) < limit_of unfit.version
          → record_of unfit.version unfit.body ++ unfit.behind ≡ flat_map (record_of unfit.version) more ++ y → AreFirst unfit.version all unfit.bodies y (record_of unfit.version unfit.body ++ unfit.behind)
      last [] bodies small behind = ([], sym (append-nil all ∙ bodies ∙ append-nil unfit.bodies), sym behind)
      last (body ∷ more) bodies small behind =
          let v = unfit.version in
          let others = flat_map (record_of v) more in
          let len : length (front_of v all) ≡ length (front_of v unfit.bodies) + (length (record_of v body) + length others) =
          omega (
            arith,
            ap (λ (l : List (List ℕ)). length (front_of v l)) bodies,
            ap length (front_split v unfit.bodies (body ∷ more)),
            length-append (front_of v unfit.bodies) (record_of v body ++ others),
            length-append (record_of v body) others,
          ) in
          let heads = record_head v unfit.body body unfit.behind (others ++ y)
          (omega (arith, unfit.within, length-front_more v unfit.bodies unfit.body)) (omega (arith, small, len, length-record v body))
          (behind ∙ append_assoc (record_of v body) others y) in
          let P : List (List ℕ) → Type 0 = λ l. RecordsLead l empty_end end in
          let parts = lead_parts unfit.bodies (body ∷ more) empty_end end (subst P bodies leads) in
          let same : parts.0 ≡ unfit.end = one_end one unfit.bodies empty_end parts.0 unfit.end parts.1 unfit.leads in
          let Q : End → List ℕ → Type 0 = λ e l. RecordLeads l e parts.2.0 in
          absurd (unfit.none parts.2.0 (subst (Q unfit.end) (sym heads.0) (subst (λ (e : End). Q e body) same parts.2.1)))

  -- where records lead to an end up to a closed gate, none leads to no end
  pub reads_fit : (at : ℕ) (image : Image) (end : End) → ReadsAs image end → IsUnfit at (picked_leaf image) → ⊥
  reads_fit at image end (all, inl new, leads) unfit = omega (arith, new.0, (unfit_stands at (picked_leaf image) unfit).0)
  reads_fit at image end (all, inr is, leads) unfit =
      let v = unfit.version in
      let here = length_bytes v (length unfit.body) ++ unfit.body ++ unfit.behind in
      let found = unfit_last at is.0 all (is.1 ∷ is.2) (picked_leaf image) end unfit is.3.bytes is.3.within leads in
      is.3.closed (opens_all v found.1.0 is.1 here is.2 (found.1.2 ∙ ap (λ (l : List ℕ). flat_map (record_of v) found.1.0 ++ l) (record_at v unfit.body unfit.behind)))

  pub reads_journal : (at : ℕ) (image : Image) (end : End) → ReadsAs image end → IsNoJournal at (picked_leaf image) → ⊥
  reads_journal at image end reads (long, inl none) = lists_unbroken (picked_leaf image) at reads.0 (long, inl none) reads.1
  reads_journal at image end reads (long, inr (inl off)) = lists_unbroken (picked_leaf image) at reads.0 (long, inr (off.version, off.bodies, off.rest, off.place, off.cut)) reads.1
  reads_journal at image end reads (long, inr (inr unfit)) = reads_fit at image end reads unfit

  -- records that a leaf begins with, and that lead to an end, go no further than the place where it is no journal
  none_further : (at place : ℕ) (leaf : List ℕ) → IsNoJournal at leaf → StandsAt place leaf → place ≤ at
  none_further at place leaf (long, inl none) stands =
      absurd (none.1 stands.version (ap (λ (l : List ℕ). take 8 l) stands.bytes ∙ front_magic stands.version stands.bodies stands.behind))
  none_further at place leaf (long, inr (inl off)) stands =
      let found = cut_short_last off.version stands.version off.bodies stands.bodies off.rest stands.behind leaf off.cut stands.bytes stands.within stands.some in
      no_longer at place off.version stands.version stands.bodies off.bodies found.0 found.1.0 found.1.1 off.place stands.place
  none_further at place leaf (long, inr (inr unfit)) stands =
      let found = unfit_last at stands.version stands.bodies stands.behind leaf stands.end unfit stands.bytes stands.within stands.leads in
      no_longer at place unfit.version stands.version stands.bodies unfit.bodies found.0 found.1.0 found.1.1 unfit.place stands.place

  pub one_place : (leaf : List ℕ) (a b : ℕ) → IsNoJournal a leaf → IsNoJournal b leaf → a ≡ b
  one_place leaf a b first other = same (no_journal_stands a leaf first) (no_journal_stands b leaf other)
    where
      same : (a ≡ 0) ⊎ StandsAt a leaf → (b ≡ 0) ⊎ StandsAt b leaf → a ≡ b
      same (inl zero_is) (inl also) = zero_is ∙ sym also
      same (inl zero_is) (inr stands) = omega (arith, zero_is, none_further a b leaf first stands)
      same (inr stands) (inl zero_is) = omega (arith, zero_is, none_further b a leaf other stands)
      same (inr stands) (inr also) = omega (arith, none_further a b leaf first also, none_further b a leaf other stands)
