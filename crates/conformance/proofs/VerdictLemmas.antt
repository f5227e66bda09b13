-- The lines of rows that have a wanted text.
use Rattle.std.proofs.Common.{◌≡◌, ◌++◌, ◌+◌, ◌∷◌, [], ℕ, List, Bool, true, false, not, if◌then◌else◌, Result, Ok, Err, IfOk, codes, inl, inr, refl, sym, ◌∙◌, ap, subst}
use Rattle.std.specs.Str.{bytes_eq}
use Rattle.std.proofs.lemmas.Bool.Decides.{not_from_Decides}
use Rattle.std.proofs.lemmas.Slice.Eq.{bytes_eq-Decides}
use Rattle.as4_flow.specs.Flow.{Streams}
use Rattle.as4_http.specs.Limits.{Limits, the_limits}
use Rattle.as4_http.specs.Requests.{BeginsRequestWithin}
use Rattle.as4_http.specs.declared.message.Request.{Request}
use Rattle.as4_message.specs.Line.{line_of}
use Rattle.as4_message.specs.Meaning.{Means, ReceivedValue}
use Rattle.as4_message.specs.declared.received.Refusal.{Refusal}
use Rattle.conformance.specs.Cases.{IsCheckLine, run_end, suite_end}
use Rattle.conformance.specs.Exchanges.{IsStreamLine, request_line}
use Rattle.conformance.specs.Ran.{AreLines, IsVerdict, RunEnds}
use Rattle.conformance.specs.declared.messages.Case.{Case}
use Rattle.conformance.specs.declared.rows.RowLine.{RowLine}
use Rattle.conformance.specs.declared.rows.VectorEnd.{VectorEnd}
use Rattle.conformance.specs.declared.rows.VectorEnd.TheVariants.{Done, WriteFault, NoMemory}
use Rattle.conformance.specs.declared.suite.SuiteEnd.{SuiteEnd}

-- a text that is right where the answer is yes, and is not where it is no
pub verdict_is : (IsRight : Type 0) (name line : List ℕ) (is_right differs : Bool) → (is_right ≡ true → IsRight) → (is_right ≡ false → ¬ IsRight)
    → line ≡ name ++ (if is_right then codes " ok\n" else codes " differs\n") → differs ≡ not is_right → IsVerdict IsRight name line differs
verdict_is IsRight name line true differs right wrong text is = subst (λ b. IsVerdict IsRight name line b) (sym is) (right refl, text)
verdict_is IsRight name line false differs right wrong text is = subst (λ b. IsVerdict IsRight name line b) (sym is) (wrong refl, text)

-- two facts of a line that was made give a third
pub verdict_told : {E : Type 0} (IsRight : Type 0) (name : List ℕ) (is_right : Bool) (answer : Result RowLine E)
    → IfOk answer (λ line. line.text ≡ name ++ (if is_right then codes " ok\n" else codes " differs\n")) → IfOk answer (λ line. line.differs ≡ not is_right)
    → (is_right ≡ true → IsRight) → (is_right ≡ false → ¬ IsRight) → IfOk answer (λ line. IsVerdict IsRight name line.text line.differs)
verdict_told IsRight name is_right (Ok line) text differs right wrong = verdict_is IsRight name line.text is_right line.differs right wrong text differs
verdict_told IsRight name is_right (Err e) text differs right wrong = tt

-- a text that is the only one of its kind is what is wanted exactly where the bytes are the same
pub text_right : (IsText : List ℕ → Type 0) (text want : List ℕ) (is_right : Bool) → IsText text → is_right ≡ bytes_eq text want → is_right ≡ true → IsText want
text_right IsText text want is_right is compared same = subst IsText ((bytes_eq-Decides text want).0 (sym compared ∙ same)) is

pub text_wrong : (IsText : List ℕ → Type 0) (text want : List ℕ) (is_right : Bool) → ((other : List ℕ) → IsText other → text ≡ other)
    → is_right ≡ bytes_eq text want → is_right ≡ false → ¬ IsText want
text_wrong IsText text want is_right one compared other wanted =
    not_from_Decides (bytes_eq text want) (bytes_eq-Decides text want) (sym compared ∙ other) (one want wanted)

-- a case has one check line
pub one_check_line : ((media body : List ℕ) (one other : Result ReceivedValue Refusal) → Means media body one → Means media body other → one ≡ other)
    → (case : Case) (line other : List ℕ) → IsCheckLine case line → IsCheckLine case other → line ≡ other
one_check_line one case line other a b =
    a.1.2 ∙ ap line_of (one case.media.now case.body.now a.1.0 b.1.0 a.1.1 b.1.1) ∙ sym b.1.2

-- a stream has one line
pub one_stream_line : ((limits other : Limits) (stream : List ℕ) (a b : Request) (r q : List ℕ) → BeginsRequestWithin limits stream a r → BeginsRequestWithin other stream b q → (a ≡ b) × (r ≡ q))
    → (stream line other : List ℕ) → IsStreamLine stream line → IsStreamLine stream other → line ≡ other
one_stream_line one stream line other (inl a) (inl b) = a.3 ∙ ap request_line (one the_limits the_limits stream a.0 b.0 a.1 b.1 a.2 b.2).0 ∙ sym b.3
one_stream_line one stream line other (inl a) (inr (inl b)) = absurd (b.0 a.0 a.1 a.2)
one_stream_line one stream line other (inl a) (inr (inr b)) = absurd (b.0 a.0 a.1 a.2)
one_stream_line one stream line other (inr (inl a)) (inl b) = absurd (a.0 b.0 b.1 b.2)
one_stream_line one stream line other (inr (inr a)) (inl b) = absurd (a.0 b.0 b.1 b.2)
one_stream_line one stream line other (inr (inl a)) (inr (inl b)) = a.2 ∙ sym b.2
one_stream_line one stream line other (inr (inl a)) (inr (inr b)) = absurd (b.1 a.1)
one_stream_line one stream line other (inr (inr a)) (inr (inl b)) = absurd (a.1 b.1)
one_stream_line one stream line other (inr (inr a)) (inr (inr b)) = a.2 ∙ sym b.2

-- lines that never differ are counted as none
none_differs : {R : Type 0} (IsLine : R → List ℕ → Bool → Type 0) → ((row : R) (line : List ℕ) (differs : Bool) → IsLine row line differs → differs ≡ false)
    → (rows : List R) (text : List ℕ) (differ : ℕ) → AreLines IsLine rows text differ → differ ≡ 0
none_differs IsLine quiet [] text differ are = are.1
none_differs IsLine quiet (row ∷ rows) text differ are =
    are.7 ∙ ap (λ b. if b then are.3 + 1 else are.3) (quiet row are.0 are.1 are.4) ∙ none_differs IsLine quiet rows are.2 are.3 are.5

-- a run over such rows ends as its answer says
pub quiet_ends : {R : Type 0} (IsLine : R → List ℕ → Bool → Type 0) → ((row : R) (line : List ℕ) (differs : Bool) → IsLine row line differs → differs ≡ false)
    → (rows : List R) (streams : Streams) (end : VectorEnd) (answer : SuiteEnd) → answer ≡ suite_end end → RunEnds IsLine rows end streams
    → RunEnds IsLine rows (run_end answer) streams
quiet_ends {R} IsLine quiet rows streams end answer is ends = subst (λ e. RunEnds IsLine rows (run_end e) streams) (sym is) (go end ends)
  where
    go : (end : VectorEnd) → RunEnds IsLine rows end streams → RunEnds IsLine rows (run_end (suite_end end)) streams
    go (Done differ) ends =
        (ends.0, subst (λ n. AreLines IsLine rows ends.0 n) (none_differs IsLine quiet rows ends.0 differ ends.1) ends.1, ends.2, ends.3)
    go WriteFault ends = ends
    go NoMemory ends = ends
