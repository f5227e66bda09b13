-- Frames: a body is between the first nine bytes and the last.
use Rattle.std.proofs.Common.{◌≡◌, ℕ, ◌+◌, ◌-◌, List, [], ◌∷◌, ◌++◌, length, take, drop, sym, ◌∙◌, ap, arith, append_assoc, length-append}
use Rattle.std.proofs.lemmas.List.{take_at, drop_at}
use Rattle.journal.specs.declared.version.Version.TheVariants.{Two}
use Rattle.journal.specs.Leaf.{length_bytes, record_of, frame_of}
use Rattle.journal.proofs.LeafLemmas.{length-length_bytes, length-record}

-- the first nine bytes
head : List ℕ → List ℕ
head body = 1 ∷ length_bytes Two (length body)

length-head : (body : List ℕ) → length (head body) ≡ 9
unfolding head
length-head body = omega (arith, length-length_bytes Two (length body))

pub length-frame : (body : List ℕ) → length (frame_of body) ≡ length body + 10
length-frame body = omega (arith, length-append (record_of Two body) (0 ∷ []), length-record Two body)

frame_parts : (body : List ℕ) → frame_of body ≡ head body ++ (body ++ 0 ∷ [])
unfolding record_of head
frame_parts body = append_assoc (1 ∷ length_bytes Two (length body)) body (0 ∷ [])

pub frame_body : (body : List ℕ) → take (length (frame_of body) - 10) (drop 9 (frame_of body)) ≡ body
frame_body body =
    ap (λ (l : List ℕ). take (length (frame_of body) - 10) (drop 9 l)) (frame_parts body)
    ∙ ap (λ (l : List ℕ). take (length (frame_of body) - 10) l) (drop_at (head body) (body ++ 0 ∷ []) 9 (length-head body))
    ∙ take_at body (0 ∷ []) (length (frame_of body) - 10) (omega (arith, length-frame body))

-- the body in the bytes of a frame
pub body_in_frame : (body bytes : List ℕ) → bytes ≡ frame_of body → take (length bytes - 10) (drop 9 bytes) ≡ body
body_in_frame body bytes are = ap (λ (l : List ℕ). take (length l - 10) (drop 9 l)) are ∙ frame_body body

-- bytes that are a frame are that of the body in them
pub frame_is : (body bytes : List ℕ) → bytes ≡ frame_of body → bytes ≡ frame_of (take (length bytes - 10) (drop 9 bytes))
frame_is body bytes are = are ∙ ap (λ (l : List ℕ). frame_of l) (sym (body_in_frame body bytes are))

-- another body of the same length
pub frame_filled : (old new bytes : List ℕ) → bytes ≡ frame_of old → length new ≡ length old → take 9 bytes ++ new ++ drop (9 + length new) bytes ≡ frame_of new
unfolding head
frame_filled old new bytes are same =
    let parts : bytes ≡ head old ++ (old ++ 0 ∷ []) = are ∙ frame_parts old in
    let front : take 9 bytes ≡ head old = ap (λ (l : List ℕ). take 9 l) parts ∙ take_at (head old) (old ++ 0 ∷ []) 9 (length-head old) in
    let back : drop (9 + length new) bytes ≡ 0 ∷ [] =
    ap (λ (l : List ℕ). drop (9 + length new) l) (parts ∙ sym (append_assoc (head old) old (0 ∷ [])))
    ∙ drop_at (head old ++ old) (0 ∷ []) (9 + length new) (omega (arith, length-append (head old) old, length-head old, same)) in
    let heads : head old ≡ head new = ap (λ (n : ℕ). 1 ∷ length_bytes Two n) (sym same) in
    ap (λ (l : List ℕ). l ++ new ++ drop (9 + length new) bytes) (front ∙ heads)
    ∙ ap (λ (l : List ℕ). head new ++ new ++ l) back
    ∙ append_assoc (head new) new (0 ∷ [])
    ∙ sym (frame_parts new)
