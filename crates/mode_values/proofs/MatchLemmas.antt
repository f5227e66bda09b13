-- The tests of the match decide equality.
use Rattle.std.proofs.Common.{◌≡◌, ℕ, List, Bool, Option, Some, None, refl, ap, ◌∙◌}
use Rattle.std.specs.Prelude.{◌↔◌, IsTrue}
use Rattle.std.specs.Bool.{Decides}
use Rattle.std.specs.Str.{bytes_eq}
use Rattle.std.proofs.lemmas.Bool.{false≢true}
use Rattle.std.proofs.lemmas.Bool.Decides.{Decides-and, Decides-like, same_from_decides}
use Rattle.std.proofs.lemmas.Slice.Eq.{slice_eq-Decides, bytes_eq-Decides}
use Rattle.mode_values.specs.ModeFields.{SideFields}
use Rattle.mode_values.specs.ModeMatch.{Agreed, Terms, is_same_kind, is_same_party, are_same_parties, is_same_side, is_same_service, is_same_agreed, are_same_terms}
use Rattle.as4_values.specs.declared.header.Party.{Party}
use Rattle.as4_values.specs.declared.header.Service.{Service}

decides_kind : (a b : Option (List ℕ)) → Decides (is_same_kind a b) (a ≡ b)
decides_kind None None = (λ _. refl, λ _. refl)
decides_kind (Some a) (Some b) = let d : Decides (bytes_eq a b) (a ≡ b) = bytes_eq-Decides a b in (λ h. ap Some (d.0 h), λ e. d.1 (cc))
decides_kind None (Some b) = (λ h. absurd (false≢true h), λ e. cc)
decides_kind (Some a) None = (λ h. absurd (false≢true h), λ e. cc)

same_party : (a b : Party) → a.id ≡ b.id → a.kind ≡ b.kind → a ≡ b
same_party a b e0 e1 =
    ap (λ (x : List ℕ). let r : Party = record { id = x; kind = a.kind } in r) e0
    ∙ ap (λ (x : Option (List ℕ)). let r : Party = record { id = b.id; kind = x } in r) e1

same_side : (a b : SideFields) → a.parties ≡ b.parties → a.role ≡ b.role → a ≡ b
same_side a b e0 e1 =
    ap (λ (x : List Party). let r : SideFields = record { parties = x; role = a.role } in r) e0
    ∙ ap (λ (x : List ℕ). let r : SideFields = record { parties = b.parties; role = x } in r) e1

same_service : (a b : Service) → a.value ≡ b.value → a.kind ≡ b.kind → a ≡ b
same_service a b e0 e1 =
    ap (λ (x : List ℕ). let r : Service = record { value = x; kind = a.kind } in r) e0
    ∙ ap (λ (x : Option (List ℕ)). let r : Service = record { value = b.value; kind = x } in r) e1

same_agreed : (a b : Agreed) → a.value ≡ b.value → a.kind ≡ b.kind → a ≡ b
same_agreed a b e0 e1 =
    ap (λ (x : List ℕ). let r : Agreed = record { value = x; kind = a.kind } in r) e0
    ∙ ap (λ (x : Option (List ℕ)). let r : Agreed = record { value = b.value; kind = x } in r) e1

same_terms : (a b : Terms) → a.from ≡ b.from → a.to ≡ b.to → a.service ≡ b.service → a.action ≡ b.action → a.agreement ≡ b.agreement → a ≡ b
same_terms a b e0 e1 e2 e3 e4 =
    ap (λ (x : SideFields). let r : Terms = record { from = x; to = a.to; service = a.service; action = a.action; agreement = a.agreement } in r) e0
    ∙ ap (λ (x : SideFields). let r : Terms = record { from = b.from; to = x; service = a.service; action = a.action; agreement = a.agreement } in r) e1
    ∙ ap (λ (x : Service). let r : Terms = record { from = b.from; to = b.to; service = x; action = a.action; agreement = a.agreement } in r) e2
    ∙ ap (λ (x : List ℕ). let r : Terms = record { from = b.from; to = b.to; service = b.service; action = x; agreement = a.agreement } in r) e3
    ∙ ap (λ (x : Option Agreed). let r : Terms = record { from = b.from; to = b.to; service = b.service; action = b.action; agreement = x } in r) e4

decides_party : (a b : Party) → Decides (is_same_party a b) (a ≡ b)
decides_party a b =
    Decides-like (is_same_party a b) (λ (p : (a.id ≡ b.id) × (a.kind ≡ b.kind)). same_party a b p.0 p.1) (λ (e : a ≡ b). (ap (λ (x : Party). x.id) e, ap (λ (x : Party). x.kind) e))
    (Decides-and _ _ (bytes_eq-Decides a.id b.id) (decides_kind a.kind b.kind))

decides_parties : (a b : List Party) → Decides (are_same_parties a b) (a ≡ b)
unfolding are_same_parties
decides_parties a b = slice_eq-Decides decides_party a b _ refl

decides_side : (a b : SideFields) → Decides (is_same_side a b) (a ≡ b)
unfolding is_same_side
decides_side a b =
    Decides-like (is_same_side a b) (λ (p : (a.parties ≡ b.parties) × (a.role ≡ b.role)). same_side a b p.0 p.1) (λ (e : a ≡ b). (ap (λ (x : SideFields). x.parties) e, ap (λ (x : SideFields). x.role) e))
    (Decides-and _ _ (decides_parties a.parties b.parties) (bytes_eq-Decides a.role b.role))

decides_service : (a b : Service) → Decides (is_same_service a b) (a ≡ b)
unfolding is_same_service
decides_service a b =
    Decides-like (is_same_service a b) (λ (p : (a.value ≡ b.value) × (a.kind ≡ b.kind)). same_service a b p.0 p.1) (λ (e : a ≡ b). (ap (λ (x : Service). x.value) e, ap (λ (x : Service). x.kind) e))
    (Decides-and _ _ (bytes_eq-Decides a.value b.value) (decides_kind a.kind b.kind))

decides_some : (a b : Agreed) → Decides (is_same_agreed (Some a) (Some b)) (a ≡ b)
unfolding is_same_agreed
decides_some a b =
    Decides-like (is_same_agreed (Some a) (Some b)) (λ (p : (a.value ≡ b.value) × (a.kind ≡ b.kind)). same_agreed a b p.0 p.1) (λ (e : a ≡ b). (ap (λ (x : Agreed). x.value) e, ap (λ (x : Agreed). x.kind) e))
    (Decides-and _ _ (bytes_eq-Decides a.value b.value) (decides_kind a.kind b.kind))

decides_agreed : (a b : Option Agreed) → Decides (is_same_agreed a b) (a ≡ b)
unfolding is_same_agreed
decides_agreed None None = (λ _. refl, λ _. refl)
decides_agreed (Some a) (Some b) = let d : Decides (is_same_agreed (Some a) (Some b)) (a ≡ b) = decides_some a b in (λ h. ap Some (d.0 h), λ e. d.1 (cc))
decides_agreed None (Some b) = (λ h. absurd (false≢true h), λ e. cc)
decides_agreed (Some a) None = (λ h. absurd (false≢true h), λ e. cc)

-- the test of the match decides equality of the matched fields
pub decides_terms : (a b : Terms) → Decides (are_same_terms a b) (a ≡ b)
unfolding are_same_terms
decides_terms a b =
    Decides-like (are_same_terms a b)
    (λ (p : (a.action ≡ b.action) × ((a.service ≡ b.service) × ((a.from ≡ b.from) × ((a.to ≡ b.to) × (a.agreement ≡ b.agreement))))). same_terms a b p.1.1.0 p.1.1.1.0 p.1.0 p.0 p.1.1.1.1)
    (λ (e : a ≡ b). (ap (λ (x : Terms). x.action) e, (ap (λ (x : Terms). x.service) e, (ap (λ (x : Terms). x.from) e, (ap (λ (x : Terms). x.to) e, ap (λ (x : Terms). x.agreement) e)))))
    (Decides-and _ _ (bytes_eq-Decides a.action b.action) (Decides-and _ _ (decides_service a.service b.service) (Decides-and _ _ (decides_side a.from b.from)
    (Decides-and _ _ (decides_side a.to b.to) (decides_agreed a.agreement b.agreement)))))

-- a result that decides equality agrees with the test
pub kind_tested : (a b : Option (List ℕ)) (r : Bool) → (IsTrue r ↔ (a ≡ b)) → r ≡ is_same_kind a b
kind_tested a b r known = same_from_decides r (is_same_kind a b) (known.0, known.1) (decides_kind a b)

pub parties_tested : (a b : List Party) (r : Bool) → (IsTrue r ↔ (a ≡ b)) → r ≡ are_same_parties a b
parties_tested a b r known = same_from_decides r (are_same_parties a b) (known.0, known.1) (decides_parties a b)
