-- The guests of a door that is given back.
use Rattle.std.proofs.Common.{◌≡◌, ◌≢◌, ◌⊎◌, ℕ, true, false, List, Option, Some, None, inl, inr, refl, sym, ap, subst, ◌∙◌}
use Rattle.std.proofs.lemmas.Bool.{false≢true}
use Rattle.std.proofs.lemmas.Slice.Eq.{bytes_eq-Decides}
use Rattle.std.specs.Str.{bytes_eq}
use Rattle.as4_host.specs.Lists.{and_all, none_of}
use Rattle.as4_host.specs.declared.door.Door.{Ghosts as DoorMeaning}
use Rattle.as4_host.specs.declared.host.Host.{Ghosts as HostMeaning}
use Rattle.as4_host.specs.declared.link.Link.{Ghosts as LinkMeaning}
use Rattle.handler.specs.Dismissal.{SettlesDoor}
use Rattle.handler.specs.Opening.{OpensDoor}

-- two addresses are the same, or not
same_or : (a b : List ℕ) → (a ≡ b) ⊎ (a ≢ b)
same_or a b =
    elim (bytes_eq a b) as (λ r. bytes_eq a b ≡ r → (a ≡ b) ⊎ (a ≢ b)) [
      | true ↦ λ is. inl ((bytes_eq-Decides a b).0 is)
      | false ↦ λ is. inr (λ same. false≢true (sym is ∙ (bytes_eq-Decides a b).1 same))
    ] refl

none_and : (guests : Option (List (List ℕ))) → and_all (none_of guests) guests ≡ guests
none_and None = refl
none_and (Some all) = refl

module _ {H Store Door Dialer Time Dice DoorIn DoorOut DialerIn DialerOut : Type 0} (M : HostMeaning H Store Door Dialer Time Dice DoorIn DoorOut DialerIn DialerOut) where
  -- what holds of one address and of the others holds of all
  pub each_address : (address : List ℕ) (old new : H) → M.guests new address ≡ M.guests old address
      → ((a : List ℕ) → a ≢ address → M.guests new a ≡ M.guests old a) → (a : List ℕ) → M.guests new a ≡ M.guests old a
  each_address address old new here others a = elim (same_or a address) [
    | inl is ↦ subst (λ x. M.guests new x ≡ M.guests old x) (sym is) here
    | inr other ↦ others a other
  ]

  -- a door that was opened and is given back with its guests leaves them as they were
  pub door_back : (G : DoorMeaning Door DoorIn DoorOut) (K : LinkMeaning Dialer DialerIn DialerOut) (address : List ℕ) (old opened later new : H) (door : Door)
      → OpensDoor M G address old opened door → ((a : List ℕ) → M.guests later a ≡ M.guests opened a) → SettlesDoor M G K address door later new
      → (a : List ℕ) → M.guests new a ≡ M.guests old a
  door_back G K address old opened later new door opens between settles =
      each_address address old new
      (settles.left ∙ ap (λ g. and_all g (G.guests door)) (between address ∙ opens.taken) ∙ ap (and_all (none_of (M.guests old address))) opens.guests_are ∙ none_and (M.guests old address))
      (λ a other. settles.guests a other ∙ between a ∙ opens.guests a other)
