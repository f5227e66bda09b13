-- A record that is being appended.
use Rattle.std.proofs.Common.{◌≡◌, inl, ℕ, ◌+◌, ◌<◌, List, [], ◌∷◌, ◌++◌, length, drop, refl, sym, ◌∙◌, ap, subst, arith, append_assoc, length-append}
use Rattle.as4_disk.specs.Bytes.{IsOverwritten, Torn}
use Rattle.as4_disk.specs.Image.{Image}
use Rattle.as4_disk.proofs.ByteLemmas.{overwritten_behind, torn_behind, torn_byte}
use Rattle.journal.specs.declared.version.Version.TheVariants.{Two}
use Rattle.journal.specs.Leaf.{limit_of, length_bytes, record_of, front_of, frame_of}
use Rattle.journal.specs.Store.{picked_leaf, InVersion, OpensToOneOf}
use Rattle.journal.proofs.LeafLemmas.{length-front_more}
use Rattle.journal.proofs.StoreLemmas.{opened, settled_opens, closed_in, gate_opens, magic_in}

-- all of a record but its gate
pub tail_of : List ℕ → List ℕ
tail_of body = length_bytes Two (length body) ++ body ++ 0 ∷ []

pub frame_tail : (body : List ℕ) → drop 1 (frame_of body) ≡ tail_of body
unfolding tail_of record_of
frame_tail body = refl

tail_behind : (body after : List ℕ) → tail_of body ++ after ≡ length_bytes Two (length body) ++ body ++ 0 ∷ after
unfolding tail_of
tail_behind body after = append_assoc (length_bytes Two (length body) ++ body) (0 ∷ []) after

module _ (bodies : List (List ℕ)) (body rest : List ℕ) where
  less : length (front_of Two (bodies ++ body ∷ [])) < limit_of Two → length (front_of Two bodies) < limit_of Two
  less within = omega (arith, within, length-front_more Two bodies body)

  -- the leaf up to its closed gate
  abbrev closed : List ℕ
  closed = front_of Two bodies ++ 0 ∷ []

  at_closed : (gate : ℕ) → gate ≡ length (front_of Two bodies) → gate + 1 ≡ length closed
  at_closed gate place = omega (arith, place, length-append (front_of Two bodies) (0 ∷ []))

  closed_rest : (l : List ℕ) → closed ++ l ≡ front_of Two bodies ++ 0 ∷ l
  closed_rest l = append_assoc (front_of Two bodies) (0 ∷ []) l

  -- after the first write, and after the second
  pub after_tail : (after : List ℕ) → closed ++ tail_of body ++ after ≡ front_of Two bodies ++ 0 ∷ (tail_of body ++ after)
  after_tail after = append_assoc closed (tail_of body) after ∙ closed_rest (tail_of body ++ after)

  after_byte : (byte : ℕ) (after : List ℕ) → front_of Two bodies ++ byte ∷ [] ++ (tail_of body ++ after) ≡ front_of Two bodies ++ byte ∷ (length_bytes Two (length body) ++ body ++ 0 ∷ after)
  after_byte byte after =
      append_assoc (front_of Two bodies) (byte ∷ []) (tail_of body ++ after)
      ∙ ap (λ (l : List ℕ). front_of Two bodies ++ byte ∷ l) (tail_behind body after)

  pub after_gate : (after : List ℕ) → front_of Two bodies ++ 1 ∷ [] ++ (tail_of body ++ after) ≡ front_of Two (bodies ++ body ∷ []) ++ 0 ∷ after
  after_gate after = after_byte 1 after ∙ opened Two bodies body after 0

  -- a write behind the closed gate that is cut short leaves it
  pub torn_behind_gate : (gate n : ℕ) (new : List ℕ) → gate ≡ length (front_of Two bodies) → Torn (gate + 1) n (front_of Two bodies ++ 0 ∷ rest) new → (after : List ℕ) × (new ≡ front_of Two bodies ++ 0 ∷ after)
  torn_behind_gate gate n new place torn =
      let P : ℕ → Type 0 = λ k. Torn k n (front_of Two bodies ++ 0 ∷ rest) new in
      let Q : List ℕ → Type 0 = λ l. Torn (length closed) n l new in
      let behind = torn_behind closed rest n new (subst Q (sym (closed_rest rest)) (subst P (at_closed gate place) torn)) in
      (behind.0, behind.1 ∙ closed_rest behind.0)

  -- the record but its gate is written
  pub wrote_tail : (gate : ℕ) (new : List ℕ) → gate ≡ length (front_of Two bodies) → IsOverwritten (gate + 1) (tail_of body) (front_of Two bodies ++ 0 ∷ rest) new → (after : List ℕ) × (new ≡ front_of Two bodies ++ 0 ∷ (tail_of body ++ after))
  wrote_tail gate new place wrote =
      let P : ℕ → Type 0 = λ k. IsOverwritten k (tail_of body) (front_of Two bodies ++ 0 ∷ rest) new in
      let Q : List ℕ → Type 0 = λ l. IsOverwritten (length closed) (tail_of body) l new in
      let after = drop (length (tail_of body)) rest in
      (after, overwritten_behind closed rest (tail_of body) new (subst Q (sym (closed_rest rest)) (subst P (at_closed gate place) wrote)) ∙ after_tail after)

  -- and then a byte over its gate
  pub wrote_gate : (gate byte : ℕ) (after new : List ℕ) → gate ≡ length (front_of Two bodies) → IsOverwritten gate (byte ∷ []) (front_of Two bodies ++ 0 ∷ (tail_of body ++ after)) new
      → new ≡ front_of Two bodies ++ byte ∷ (length_bytes Two (length body) ++ body ++ 0 ∷ after)
  wrote_gate gate byte after new place wrote =
      let P : ℕ → Type 0 = λ k. IsOverwritten k (byte ∷ []) (front_of Two bodies ++ 0 ∷ (tail_of body ++ after)) new in
      overwritten_behind (front_of Two bodies) (0 ∷ (tail_of body ++ after)) (byte ∷ []) new (subst P place wrote) ∙ after_byte byte after

  -- behind the closed gate any bytes are ignored
  pub torn_tail : (gate n : ℕ) (c : Image) → gate ≡ length (front_of Two bodies) → length (front_of Two (bodies ++ body ∷ [])) < limit_of Two → Torn (gate + 1) n (front_of Two bodies ++ 0 ∷ rest) (picked_leaf c) → InVersion Two (OpensToOneOf bodies body) c
  torn_tail gate n c place within torn =
      let behind = torn_behind_gate gate n (picked_leaf c) place torn in
      let in_two = closed_in Two bodies behind.0 c (less within) behind.1 in
      (inl (settled_opens bodies (λ other. other ≡ body) c in_two.0), in_two.1)

  -- the gate is being opened, and the rest of the record is on the disk
  pub torn_open : (gate : ℕ) (after : List ℕ) (c : Image) → gate ≡ length (front_of Two bodies) → length (front_of Two (bodies ++ body ∷ [])) < limit_of Two → Torn gate 1 (front_of Two bodies ++ 0 ∷ (tail_of body ++ after)) (picked_leaf c) → InVersion Two (OpensToOneOf bodies body) c
  torn_open gate after c place within torn =
      let P : ℕ → Type 0 = λ k. Torn k 1 (front_of Two bodies ++ 0 ∷ (tail_of body ++ after)) (picked_leaf c) in
      let any = torn_byte (front_of Two bodies) 0 (tail_of body ++ after) (picked_leaf c) (subst P place torn) in (
        gate_opens Two bodies body after any.0 c (less within) within (any.1 ∙ ap (λ (l : List ℕ). front_of Two bodies ++ any.0 ∷ l) (tail_behind body after)),
        magic_in Two bodies (any.0 ∷ (tail_of body ++ after)) (picked_leaf c) any.1,
      )
