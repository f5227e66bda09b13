-- Lemmas on what the fields of a head say.
use Rattle.std.proofs.Common.{◌≡◌, ◌≢◌, ℕ, List, Option, None, Some, refl, sym, ◌∙◌, subst}
use Rattle.std.specs.Option.{option_to_list}
use Rattle.std.specs.Str.Parse.{digits_value}
use Rattle.as4_http.specs.Framing.{Frames, FramesAs}
use Rattle.as4_http.specs.declared.framing.Framing.{Framing}
use Rattle.as4_http.specs.declared.framing.Framing.TheVariants.{Empty, Counted, Chunked, ToEnd}

pub one_option : {X : Type 0} (a b : Option X) → option_to_list a ≡ option_to_list b → a ≡ b
one_option None None same = refl
one_option None (Some b) same = absurd (cc)
one_option (Some a) None same = absurd (cc)
one_option (Some a) (Some b) same = cc

frames_one : (neither a b : Framing) (length coding : Option (List ℕ)) → Frames neither length coding a → Frames neither length coding b → a ≡ b
frames_one neither a b None None x y = x ∙ sym y
frames_one neither a b (Some length) None x y = x.1 ∙ sym y.1
frames_one neither a b None (Some coding) x y = x.1 ∙ sym y.1
frames_one neither a b (Some length) (Some coding) x y = absurd x

-- fields say one thing of a body at most
pub frames_unique : (neither a b : Framing) (fields : List (List ℕ × List ℕ)) → FramesAs neither fields a → FramesAs neither fields b → a ≡ b
frames_unique neither a b fields x y =
    let lengths : y.length ≡ x.length = one_option y.length x.length (sym y.lengths ∙ x.lengths) in
    let codings : y.coding ≡ x.coding = one_option y.coding x.coding (sym y.codings ∙ x.codings) in
    frames_one neither a b x.length x.coding x.says
    (subst (λ (coding : Option (List ℕ)). Frames neither x.length coding b) codings (subst (λ (length : Option (List ℕ)). Frames neither length y.coding b) lengths y.says))

-- where fields that say nothing frame no body, a body never runs to the end of the stream
bounded : (length coding : Option (List ℕ)) (framing : Framing) → Frames Empty length coding framing → framing ≢ ToEnd
bounded None None framing says is = let clash : Empty ≡ ToEnd = sym says ∙ is in cc
bounded (Some digits) None framing says is = let clash : Counted (digits_value 10 digits) ≡ ToEnd = sym says.1 ∙ is in cc
bounded None (Some coding) framing says is = let clash : Chunked ≡ ToEnd = sym says.1 ∙ is in cc
bounded (Some digits) (Some coding) framing says is = says

pub frames_bounded : (fields : List (List ℕ × List ℕ)) (framing : Framing) → FramesAs Empty fields framing → framing ≢ ToEnd
frames_bounded fields framing frames = bounded frames.length frames.coding framing frames.says
